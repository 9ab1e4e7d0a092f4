-- Laws: where a search in a page ends, the entry that it leads to, and whether a leaf has the entry looked for. Cited by the proofs of the functions. Assumes
-- nothing.
use Rattle.std.specs.Prelude.{ℕ, zero, suc, ◌+◌, ◌-◌, ◌≤◌, ◌<◌, ◌≡◌, refl, Bool, true, false, not, List, [], ◌∷◌, length, get_or, eqb}
use Rattle.std.proofs.Common.{sym, ap, ◌∙◌, zero-add, add-zero, arith, eq-eqb, ne_eqb}
use Rattle.basis.specs.Tests.{either, contra}
use Rattle.std.specs.declared.cmp.Ordering.{Ordering}
use Rattle.octets.specs.Order.{bytes_le, ordering, is_equal}
use Rattle.tree.specs.Pairs.{by_key, present}
use Rattle.tree.specs.Position.{Passes, position}
use Rattle.idx_page.specs.Header.{max_key, is_page}
use Rattle.idx_page.specs.Page.{key_at, first_at_or_above}
use Rattle.idx_page.specs.KeyOrder.{bytes_order}
use Rattle.idx_page.specs.KeyOrderLaws.{equal-le}
use Rattle.idx_page.specs.Reading.{Item}
use Rattle.idx_leaf.specs.Leaf.{items_in, item_of}
use Rattle.idx_leaf.specs.Given.{Listed}
use Rattle.idx_leaf.specs.EntryLaws.{items_from, item_at, from_cons, items-none, listed, passed_count, passed-le, first-passed, present-at, present-none}
use Rattle.idx_leaf.specs.EntryLaws.{passed_not, place-passed, place-last}
use Rattle.idx_page.specs.EntryOrder.{item_order}

-- no page, no entries
count_none : (k : ℕ) (b : List ℕ) (p : ℕ) → is_page (length b) p ≡ false → 0 ≡ length (items_in k b p)
count_none k b p e = sym (ap length (items-none k b p e))

-- where a search by an order of entries ends, in a page that has entries: the entry that it leads to, and whether a leaf has the entry looked for
module _ (le : Item → Item → Bool) (item : Item) {b : List ℕ} {k p n i : ℕ} (l : Listed b k p n) (e : i ≡ passed_count le item (items_in k b p)) where
  pub search_le : i ≤ n
  search_le = omega (arith, e, passed-le le item (items_in k b p), l.count)

  pub search_place : (i ≡ n → ⊥) → i ≡ position (λ x y. not (le item x)) (items_in k b p)
  search_place h = e ∙ place-passed le item (items_in k b p) (omega (arith, search_le, l.count))

  pub search_last : i ≡ n → n - 1 ≡ position (λ x y. not (le item x)) (items_in k b p)
  search_last h = ap (λ (m : ℕ). m - 1) l.count ∙ place-last le item (items_in k b p) (omega (arith, l.count))

  pub search_absent : i ≡ n → false ≡ present le item (items_in k b p)
  search_absent h = sym (present-none le item (items_in k b p) (omega (arith, l.count)))

-- the search for a key
pub key-passed : (key c : List ℕ) {b : List ℕ} {p n i : ℕ} → Listed b (length key) p n → i ≡ first_at_or_above (key_at b (length key) p) key n 0
    → i ≡ passed_count (by_key bytes_order) (key, c) (items_in (length key) b p)
key-passed key c {b} {p} {n} {i} l e =
    e ∙ first-passed (length key) b key c p n 0 ∙ zero-add _ ∙ ap (passed_count (by_key bytes_order) (key, c)) (sym (listed l))

-- an entry by its number
get_from : (k : ℕ) (b : List ℕ) (p n i j : ℕ) (d : Item) → j < n → get_or (items_from k b p n i) j d ≡ item_at k b p (i + j)
get_from k b p zero i j d h = absurd (omega arith)
get_from k b p (suc n) i zero d h = rw (from_cons k b p n i, add-zero i)
get_from k b p (suc n) i (suc j) d h =
    let s : i + 1 + j ≡ i + suc j = omega arith in
    rw (from_cons k b p n i, ← s) (get_from k b p n (i + 1) j d (omega arith))

-- the entry with a number, in a page
module _ {b : List ℕ} {k p n : ℕ} (l : Listed b k p n) where
  pub get-listed : (i : ℕ) → i < n → item_of i (items_in k b p) ≡ item_at k b p i
  get-listed i h = rw (listed l) (get_from k b p n 0 i ([], []) h ∙ ap (item_at k b p) (zero-add i))

-- a leaf has the entry looked for if the entry where the search ends is at or below it
search_there : (le : Item → Item → Bool) (item : Item) {b : List ℕ} {k p n i : ℕ} → Listed b k p n → i ≡ passed_count le item (items_in k b p)
    → (i ≡ n → ⊥) → le (item_at k b p i) item ≡ present le item (items_in k b p)
search_there le item {b} {k} {p} {n} {i} l e h =
    let es = items_in k b p in
    let inside : passed_count le item es < length es = omega (arith, search_le le item l e, l.count) in
    rw (← get-listed l i (omega (arith, search_le le item l e)), e) (sym (present-at le item es inside))

-- a leaf has the key if the entry where the search ends is equal to it
search_equal : (key c : List ℕ) {b : List ℕ} {p n i : ℕ} {o : Ordering} → Listed b (length key) p n
    → i ≡ passed_count (by_key bytes_order) (key, c) (items_in (length key) b p)
    → (i ≡ n → ⊥) → o ≡ ordering (key_at b (length key) p i) key → is_equal o ≡ present (by_key bytes_order) (key, c) (items_in (length key) b p)
search_equal key c {b} {p} {n} {i} l e h o =
    let es = items_in (length key) b p in
    let inside : passed_count (by_key bytes_order) (key, c) es < length es = omega (arith, search_le (by_key bytes_order) (key, c) l e, l.count) in
    let entry : (item_of i es).0 ≡ key_at b (length key) p i =
    ap (λ (x : Item). x.0) (get-listed l i (omega (arith, search_le (by_key bytes_order) (key, c) l e))) in
    let below : bytes_le key (key_at b (length key) p i) ≡ true = rw (← entry, e) (passed_not (by_key bytes_order) (key, c) es inside) in
    ap is_equal o ∙ equal-le (key_at b (length key) p i) key below ∙ search_there (by_key bytes_order) (key, c) l e h

-- a page without entries, and one that has some
pub position-none : (passes : Passes Item) (es : List Item) → length es ≡ 0 → 0 ≡ position passes es
position-none passes [] h = refl
position-none passes (x ∷ xs) h = absurd (omega arith)

pub counted-some : {b : List ℕ} {k p n : ℕ} → k ≤ max_key → n ≡ length (items_in k b p) → (n ≡ 0 → ⊥) → Listed b k p n
counted-some {b} {k} {p} h e s = record {
  key = h;
  page = either (is_page (length b) p) (λ t. t) (λ t. absurd (s (e ∙ sym (count_none k b p t))));
  count = e;
}

-- a leaf has the entry looked for, by the header's features: if a key may have several records, the entry where the search ends is at or below it; else the key
-- of that entry is equal
pub there_record : (f : ℕ) → eqb f 0 ≡ true → (item : Item) {b : List ℕ} {k p n i : ℕ} → Listed b k p n → i ≡ passed_count (item_order f) item (items_in k b p)
    → (i ≡ n → ⊥) → item_order 0 (item_at k b p i) item ≡ present (item_order f) item (items_in k b p)
there_record zero t item l e h = search_there (item_order 0) item l e h
there_record (suc m) t item l e h = contra t (ne_eqb (suc m) 0 (λ q. omega arith))

pub there-key : (f : ℕ) → eqb f 0 ≡ false → (key c : List ℕ) {b : List ℕ} {p n i : ℕ} {o : Ordering} → Listed b (length key) p n
    → i ≡ passed_count (item_order f) (key, c) (items_in (length key) b p) → (i ≡ n → ⊥) → o ≡ ordering (key_at b (length key) p i) key
    → is_equal o ≡ present (item_order f) (key, c) (items_in (length key) b p)
there-key zero t key c l e h o = contra (eq-eqb 0 0 refl) t
there-key (suc m) t key c l e h o = search_equal key c l e h o
