-- Laws: the entries that a page gets: their keys have k bytes and their numbers four, how many they are, and that the bytes gathered read back as them.
-- Assumes nothing.
use Rattle.std.specs.Prelude.{ℕ, zero, suc, ◌+◌, ◌-◌, ◌*◌, ◌<◌, ◌≡◌, refl, Bool, take, drop}
use Rattle.std.proofs.Common.{sym, ap, ◌∙◌, subst, arith, length-take, length-drop}
use mathlib.Core.List.{List, [], ◌∷◌, ◌++◌, append_assoc, append-nil}
use Rattle.std.proofs.Math.ListN.{length, length-append}
use Rattle.std.proofs.Math.Seq.{split_at}
use Rattle.basis.specs.Tests.{either}
use Rattle.basis.specs.Lists.{All, all_append, all_left, all_right}
use Rattle.octets.specs.Bytes.{to_be32}
use Rattle.octets.specs.NumberLaws.{length-to_be32}
use Rattle.tree.specs.Pairs.{last_key, insert_pair}
use Rattle.tree.proofs.PairLaws.{insert_pair-all}
use Rattle.idx_page.specs.Within.{Within}
use Rattle.idx_page.specs.Reading.{Item, items}
use Rattle.idx_leaf.specs.Leaf.{items_in, item_of}
use Rattle.idx_layout.specs.Layout.{encode}
use Rattle.idx_entries.specs.Entries.{replaced, two_for, root_entries, without_entry}
use Rattle.idx_layout.specs.Given.{Over}
use Rattle.idx_leaf.specs.Given.{Listed}
use Rattle.idx_leaf.specs.ItemLaws.{Fit}
use Rattle.idx_layout.specs.EncodeLaws.{length-encode, items-encode}
use Rattle.idx_leaf.specs.EntryLaws.{items_in_fit, listed-within}
use Rattle.idx_entries.proofs.GatherLaws.{length_last, length-larger}

-- the bytes of n entries with keys of k bytes: how many they are, and what they read back as
pub record Gathered (k n : ℕ) (es : List Item) : Type 0 where
  pub size : length (encode es) ≡ n * (k + 4)
  pub read : items k n (encode es) ≡ es

-- how many entries a leaf has with one more
pub length-insert : (le : Item → Item → Bool) (e : Item) (es : List Item) → length (insert_pair le e es) ≡ length es + 1
length-insert le e [] = refl
length-insert le e (x ∷ xs) = either (le e x) (λ u. rw u (omega arith)) (λ u. rw u (ap suc (length-insert le e xs) ∙ omega arith))

-- a property of entries and of those put in the place of entry i is one of all together
replaced-all : (P : Item → Type 0) (i : ℕ) (f : Item → List Item) → ((x : Item) → P x → All P (f x)) → (es : List Item) → i < length es → All P es
    → All P (replaced i f es)
replaced-all P i f h es inside a =
    let x = item_of i es in
    let front = take i es in
    let back = drop (suc i) es in
    let parts : All P (front ++ (x ∷ back)) = subst (All P) (split_at es i ([], []) inside) a in
    let rest : All P (x ∷ back) = all_right P front (x ∷ back) parts in
    all_append P front (f x ++ back) (all_left P front (x ∷ back) parts) (all_append P (f x) back (h x rest.0) rest.1)

-- how many entries there are with n + 1 in the place of entry i
pub length-replaced : (i : ℕ) (f : Item → List Item) (n : ℕ) → ((x : Item) → length (f x) ≡ suc n) → (es : List Item) → i < length es
    → length (replaced i f es) ≡ n + length es
length-replaced i f n h es inside = omega (
  arith,
  h (item_of i es),
  length-append (take i es) (f (item_of i es) ++ drop (suc i) es),
  length-append (f (item_of i es)) (drop (suc i) es),
  length-take i es,
  length-drop (suc i) es,
)

-- the entries of a leaf with one more pair, and of a page with two in the place of one
module _ (k : ℕ) (b key : List ℕ) (long : length key ≡ k) where
  pub pair_fit : (le : Item → Item → Bool) (r p : ℕ) → All (Fit k) (insert_pair le (key, to_be32 r) (items_in k b p))
  pair_fit le r p = insert_pair-all le (Fit k) (key, to_be32 r) (items_in k b p) (long, length-to_be32 r) (items_in_fit k b p)

  pub two-fit : (i c q : ℕ) (es : List Item) → i < length es → All (Fit k) es → All (Fit k) (replaced i (two_for k b key c q) es)
  two-fit i c q es inside f =
      let low = length_last k key long (items_in k b c) (items_in_fit k b c) in
      replaced-all (Fit k) i (two_for k b key c q)
      (λ x g. ((low, g.1), ((length-larger x.0 key (g.0 ∙ sym long) ∙ long, length-to_be32 q), tt))) es inside f

-- what is gathered is read back
gathered : (k n : ℕ) (es : List Item) → All (Fit k) es → length es ≡ n → Gathered k n es
gathered k n es f e =
    record {
      size = length-encode k es f ∙ ap (λ (m : ℕ). m * (k + 4)) e;
      read = rw (← e, ← append-nil (encode es)) (items-encode k es [] f);
    }

-- what is gathered for a page with n entries is n + 1 entries
pub one_more : {b : List ℕ} {k p n : ℕ} → Listed b k p n → Over b k p (n + 1)
one_more l = let w = listed-within l in record { key = l.key; page = l.page; count = omega (arith, w.count) }

pub pair-gathered : (le : Item → Item → Bool) (key : List ℕ) {b : List ℕ} {p n : ℕ} (r : ℕ) → Listed b (length key) p n
    → Gathered (length key) (n + 1) (insert_pair le (key, to_be32 r) (items_in (length key) b p))
pair-gathered le key {b} {p} {n} r l =
    let es = items_in (length key) b p in
    gathered (length key) (n + 1) (insert_pair le (key, to_be32 r) es) (pair_fit (length key) b key refl le r p)
    (length-insert le (key, to_be32 r) es ∙ rw (← l.count))

pub two-gathered : (key : List ℕ) {b : List ℕ} {p n : ℕ} (i c q : ℕ) → Listed b (length key) p n → i < n
    → Gathered (length key) (n + 1) (replaced i (two_for (length key) b key c q) (items_in (length key) b p))
two-gathered key {b} {p} {n} i c q l h =
    let es = items_in (length key) b p in
    let f = two_for (length key) b key c q in
    let inside : i < length es = omega (arith, l.count) in
    gathered (length key) (n + 1) (replaced i f es) (two-fit (length key) b key refl i c q es inside (items_in_fit (length key) b p))
    (omega (arith, length-replaced i f 1 (λ x. refl) es inside, l.count))

-- a property of entries is one of those left without entry i
pub without_all : (P : Item → Type 0) (i : ℕ) (es : List Item) → All P es → All P (without_entry i es)
without_all P zero [] a = tt
without_all P zero (x ∷ xs) a = a.1
without_all P (suc i) [] a = tt
without_all P (suc i) (x ∷ xs) a = (a.0, without_all P i xs a.1)

-- how many entries are left without entry i
pub length_without : (i : ℕ) (es : List Item) → i < length es → length (without_entry i es) ≡ length es - 1
length_without i [] h = absurd (omega arith)
length_without zero (x ∷ xs) h = omega arith
length_without (suc i) (x ∷ xs) h = omega (arith, length_without i xs (omega arith))

-- what is gathered for a page with n entries without entry i is n - 1 entries
pub one_less : {b : List ℕ} {k p n : ℕ} → Listed b k p n → Within b k p (n - 1)
one_less l = let w = listed-within l in record { key = w.key; count = omega (arith, w.count); page = w.page }

pub without-gathered : {b : List ℕ} {k p n i : ℕ} → Listed b k p n → i < n → Gathered k (n - 1) (without_entry i (items_in k b p))
without-gathered {b} {k} {p} {n} {i} l h =
    let es = items_in k b p in
    gathered k (n - 1) (without_entry i es) (without_all (Fit k) i es (items_in_fit k b p))
    (length_without i es (omega (arith, l.count)) ∙ rw (← l.count))

-- the entries of a new root
module _ (b key : List ℕ) (p q : ℕ) where
  last_fit : (x : ℕ) → length (last_key key (items_in (length key) b x)) ≡ length key
  last_fit x = length_last (length key) key refl (items_in (length key) b x) (items_in_fit (length key) b x)

  root-fit : All (Fit (length key)) (root_entries (length key) b key p q)
  root-fit = ((last_fit p, length-to_be32 p), ((last_fit q, length-to_be32 q), tt))

  pub root_bytes : encode (root_entries (length key) b key p q)
      ≡ (([] ++ last_key key (items_in (length key) b p)) ++ to_be32 p) ++ last_key key (items_in (length key) b q) ++ to_be32 q
  unfolding encode
  root_bytes = rw append-nil (simp append_assoc)

  pub root-gathered : Gathered (length key) 2 (root_entries (length key) b key p q)
  root-gathered = gathered (length key) 2 (root_entries (length key) b key p q) root-fit refl
