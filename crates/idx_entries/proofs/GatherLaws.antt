-- Laws: the bytes that are gathered for a page are those of the entries that the rule gives it. Assumes nothing.
use Rattle.std.specs.Prelude.{ℕ, ◌+◌, ◌-◌, ◌*◌, ◌≤◌, ◌<◌, ◌≡◌, refl, Bool, true, false, List, [], ◌∷◌, ◌++◌, ltb, length, take, get_or}
use Rattle.std.proofs.Common.{sym, ap, ◌∙◌, append_assoc, add-mul, mul-le-mul_right, one-mul, arith, lt-ltb, le-ltb, length-append, length-take, length-drop, take_at}
use Rattle.std.proofs.Math.Nat.{sub-zero}
use Rattle.std.proofs.Math.Numerals.{add-one}
use Rattle.std.proofs.Math.ListN.{drop}
use Rattle.basis.specs.Tests.{either}
use Rattle.basis.specs.Lists.{All}
use Rattle.octets.specs.Bytes.{to_be32}
use Rattle.octets.specs.Store.{put, window}
use Rattle.octets.specs.StoreLaws.{put_splice, length-window}
use Rattle.octets.specs.Order.{bytes_le, ordering, is_below}
use Rattle.std.specs.Ordering.{is_lt}
use Rattle.std.specs.declared.cmp.Ordering.{Ordering}
use Rattle.std.specs.declared.cmp.Ordering.TheVariants.{Less, Equal, Greater}
use Rattle.idx_page.specs.KeyOrderLaws.{below, at_or_above}
use Rattle.octets.specs.OrderLaws.{le_total, le_antisym}
use Rattle.tree.specs.Order.{larger}
use Rattle.tree.specs.Pairs.{last_key, insert_pair}
use Rattle.idx_page.specs.Header.{max_key, page_size, is_page, features}
use Rattle.idx_page.specs.EntryOrder.{item_order}
use Rattle.idx_page.specs.Page.{entry_area, capacity, entry_offset, key_at}
use Rattle.idx_page.specs.Within.{Within}
use Rattle.idx_page.specs.KeyOrder.{bytes_order}
use Rattle.idx_page.specs.PageLaws.{capacity-small, entries_fit, entries-inside}
use Rattle.idx_page.specs.Reading.{Item}
use Rattle.idx_leaf.specs.Leaf.{items_in, stored}
use Rattle.idx_layout.specs.Layout.{encode}
use Rattle.idx_layout.specs.Given.{room_size}
use Rattle.idx_entries.specs.Entries.{replaced, raised, two_for, without_entry}
use Rattle.idx_leaf.specs.Given.{Listed}
use Rattle.idx_leaf.specs.ItemLaws.{Fit}
use Rattle.idx_layout.specs.EncodeLaws.{encode_append, encode-items}
use Rattle.idx_leaf.specs.EntryLaws.{items_from, item_at, take_from, drop_from, entry-far, listed, listed-within, passed_count}
use Rattle.idx_leaf.specs.SearchLaws.{get-listed, search_le}

-- the bytes of n entries from entry i on
encode-from : (k : ℕ) (b : List ℕ) (p n i : ℕ) → i + n ≤ capacity k → p + page_size ≤ length b
    → encode (items_from k b p n i) ≡ window b (entry_offset k p i) (n * (k + 4))
unfolding items_from window
encode-from k b p n i h l = encode-items k n (drop (entry_offset k p i) b) (rw length-drop (omega (arith, entries-inside k p (i + n) h, entry-far k p i n)))

-- a leaf's entries with one more
insert-at : (le : Item → Item → Bool) (e : Item) (es : List Item)
    → insert_pair le e es ≡ take (passed_count le e es) es ++ (e ∷ drop (passed_count le e es) es)
insert-at le e [] = refl
insert-at le e (x ∷ xs) = either (le e x) (λ t. rw t) (λ t. rw t (ap (λ (l : List Item). x ∷ l) (insert-at le e xs)))

-- the last key by its number, and that of a page without entries
last_get : (key : List ℕ) (x : Item) (xs : List Item) → last_key key (x ∷ xs) ≡ (get_or (x ∷ xs) (length xs) ([], [])).0
last_get key x [] = refl
last_get key x (y ∷ ys) = last_get x.0 y ys

-- the last key of a page
module _ {b : List ℕ} {k p n : ℕ} (l : Listed b k p n) where
  pub last-listed : (key : List ℕ) → 1 ≤ n → key_at b k p (n - 1) ≡ last_key key (items_in k b p)
  last-listed key h = last_of (items_in k b p) (sym l.count) (get-listed l (n - 1) (omega arith))
    where
      last_of : (es : List Item) → length es ≡ n → get_or es (n - 1) ([], []) ≡ item_at k b p (n - 1) → key_at b k p (n - 1) ≡ last_key key es
      last_of [] e g = absurd (omega arith)
      last_of (x ∷ xs) e g = let m : length xs ≡ n - 1 = omega arith in sym (last_get key x xs ∙ rw m (ap (λ (y : Item). y.0) g))

pub no_last : (key : List ℕ) (es : List Item) → length es ≡ 0 → last_key key es ≡ key
no_last key [] e = refl
no_last key (x ∷ xs) e = absurd (omega arith)

pub within-last : {b : List ℕ} {k p n : ℕ} → Within b k p n → (n ≡ 0 → ⊥) → Within b k p (n - 1 + 1)
within-last {b} {k} {p} {n} w s = let e : n - 1 + 1 ≡ n = omega arith in rw e w

-- a comparison that says whether one key is below another
lt-below : (o : Ordering) → is_lt o ≡ is_below o
lt-below Less = refl
lt-below Equal = refl
lt-below Greater = refl

pub lower : {o : Ordering} (a b : List ℕ) → o ≡ ordering a b → is_lt o ≡ true → bytes_le b a ≡ false
lower {o} a b e t = below a b e (sym (lt-below o) ∙ t)

pub not-lower : {o : Ordering} (a b : List ℕ) → o ≡ ordering a b → is_lt o ≡ false → bytes_le b a ≡ true
not-lower {o} a b e t = at_or_above a b e (sym (lt-below o) ∙ t)

-- a page whose entries were counted
pub counted : {b : List ℕ} {k p n : ℕ} → (k ≤ max_key) × (is_page (length b) p ≡ true) → n ≡ length (items_in k b p) → Listed b k p n
counted h e = record { key = h.0; page = h.1; count = e }

-- bytes stored in a room behind those that are in it
pub pushed : (now part bytes : List ℕ) {out : List ℕ} {n m : ℕ} → take n bytes ≡ now → length bytes ≡ room_size → n ≤ room_size → length part ≡ m
    → length now + m ≤ room_size → out ≡ put bytes n part → take (n + m) out ≡ now ++ part
pushed now part bytes {out} {n} {m} view long small size fits e =
    let a : length (take n bytes) ≡ n = simp length-take (omega arith) in
    let h : n + length part ≤ length bytes = omega (arith, ap length view) in
    let l : length (take n bytes ++ part) ≡ n + m = length-append (take n bytes) part ∙ omega arith in
    rw (e, put_splice bytes n part h, ← view) (take_at (take n bytes ++ part) (drop (n + length part) bytes) (n + m) l)

-- a part of a buffer, from one place up to another
pub part-window : (b : List ℕ) (from upto n : ℕ) → upto ≡ from + n → take (upto - from) (drop from b) ≡ window b from n
unfolding window
part-window b from upto n e = let s : upto - from ≡ n = omega arith in rw s

-- entries from one number up to another
pub record Run (b : List ℕ) (k p first end : ℕ) : Type 0 where
  pub ends : entry_offset k p end ≡ entry_offset k p first + (end - first) * (k + 4)
  pub inside : entry_offset k p end ≤ length b

pub run : {b : List ℕ} {k p first end : ℕ} → Within b k p end → first ≤ end → Run b k p first end
run {b} {k} {p} {first} {end} w h =
    let u : first + (end - first) ≡ end = omega arith in
    record { ends = sym (ap (entry_offset k p) u) ∙ entry-far k p first (end - first); inside = omega (arith, entries-inside k p end w.count, w.page) }

-- the products of sizes that a gathering meets, with i of n entries before the new one
pub record Spread (b : List ℕ) (k p n i : ℕ) : Type 0 where
  pub inside : p + page_size ≤ length b
  pub key : k ≤ max_key
  pub few : n ≤ capacity k
  pub small : n ≤ entry_area
  pub all : n * (k + 4) ≤ entry_area
  pub up : i ≤ n
  pub start : (i - 0) * (k + 4) ≡ i * (k + 4)
  pub before : i * (k + 4) ≤ n * (k + 4)
  pub rest : i * (k + 4) + (n - i) * (k + 4) ≡ n * (k + 4)
  pub next : (i + 1) * (k + 4) ≡ i * (k + 4) + (k + 4)
  pub more : (n + 1) * (k + 4) ≡ n * (k + 4) + (k + 4)

pub spread : {b : List ℕ} {k p n : ℕ} (i : ℕ) → Listed b k p n → i ≤ n → Spread b k p n i
spread {b} {k} {p} {n} i l h =
    let w = listed-within l in
    let u : i + (n - i) ≡ n = omega arith in
    record {
      inside = w.page;
      key = w.key;
      few = w.count;
      small = omega (arith, capacity-small k);
      all = entries_fit k n w.count;
      up = h;
      start = rw sub-zero;
      before = mul-le-mul_right (k + 4) h;
      rest = sym (add-mul i (n - i) (k + 4)) ∙ ap (λ (x : ℕ). x * (k + 4)) u;
      next = add-mul i 1 (k + 4) ∙ rw one-mul;
      more = add-mul n 1 (k + 4) ∙ rw one-mul;
    }

pub pair-spread : (b key : List ℕ) (r : ℕ) {p n i : ℕ} → Listed b (length key) p n
    → i ≡ passed_count (item_order (features b)) (stored key r) (items_in (length key) b p) → Spread b (length key) p n i
pair-spread b key r {p} {n} {i} l e = spread i l (search_le (item_order (features b)) (stored key r) l e)

module _ {b : List ℕ} {k p n : ℕ} (l : Listed b k p n) where
  -- the bytes of the first i entries, and of the entries from entry i on
  before-bytes : (i : ℕ) → i ≤ n → encode (take i (items_in k b p)) ≡ window b (entry_offset k p 0) (i * (k + 4))
  before-bytes i h =
      let w = listed-within l in
      rw (listed l, take_from k b p i n 0 h) (encode-from k b p i 0 (omega arith) w.page)

  after-bytes : (i : ℕ) → i ≤ n → encode (drop i (items_in k b p)) ≡ window b (entry_offset k p i) ((n - i) * (k + 4))
  after-bytes i h =
      let w = listed-within l in
      rw (listed l, drop_from k b p i n h) (encode-from k b p (n - i) i (omega arith) w.page)

  length_before : (i : ℕ) → i ≤ n → length (window b (entry_offset k p 0) (i * (k + 4))) ≡ i * (k + 4)
  unfolding entry_offset
  length_before i h = let s = spread i l h in length-window b (entry_offset k p 0) (i * (k + 4)) (omega arith)

-- a leaf's entries with one pair more
module _ (le : Item → Item → Bool) (key c : List ℕ) {b : List ℕ} {p n i : ℕ} (l : Listed b (length key) p n)
    (e : i ≡ passed_count le (key, c) (items_in (length key) b p)) where
  pub pair_bytes : encode (insert_pair le (key, c) (items_in (length key) b p))
      ≡ (([] ++ window b (entry_offset (length key) p 0) ((i - 0) * (length key + 4))) ++ key) ++ c
      ++ window b (entry_offset (length key) p i) ((n - i) * (length key + 4))
  unfolding encode
  pair_bytes =
      let es = items_in (length key) b p in
      let h = search_le le (key, c) l e in
      rw (insert-at le (key, c) es, ← e, encode_append (take i es) ((key, c) ∷ drop i es), before-bytes l i h, after-bytes l i h, sub-zero) (simp append_assoc)

-- the lengths of a last key and of the larger of two keys
pub length_last : (k : ℕ) (key : List ℕ) → length key ≡ k → (es : List Item) → All (Fit k) es → length (last_key key es) ≡ k
length_last k key e [] f = e
length_last k key e (x ∷ xs) f = length_last k x.0 f.0.0 xs f.1

pub length-larger : (a key : List ℕ) → length a ≡ length key → length (larger bytes_order a key) ≡ length key
length-larger a key e = either (bytes_le a key) (λ t. rw t) (λ t. rw t e)

-- the larger of two keys, by a comparison
pub larger-key : (a key : List ℕ) → bytes_le key a ≡ false → key ≡ larger bytes_order a key
larger-key a key e = rw (le_total key a e)

pub larger-entry : (a key : List ℕ) → bytes_le key a ≡ true → a ≡ larger bytes_order a key
larger-entry a key e = either (bytes_le a key) (λ t. rw t (le_antisym a key t e)) (λ t. rw t)

-- a page's entries with two for entry i
module _ (key : List ℕ) {b : List ℕ} {p n i : ℕ} (l : Listed b (length key) p n) (h : i < n) where
  pub two_bytes : (c q : ℕ) → encode (replaced i (two_for (length key) b key c q) (items_in (length key) b p))
      ≡ (((([] ++ window b (entry_offset (length key) p 0) ((i - 0) * (length key + 4)))
      ++ last_key key (items_in (length key) b c))
      ++ window b (entry_offset (length key) p i + length key) 4)
      ++ larger bytes_order (key_at b (length key) p i) key)
      ++ to_be32 q
      ++ window b (entry_offset (length key) p (i + 1)) ((n - (i + 1)) * (length key + 4))
  unfolding encode
  two_bytes c q =
      let es = items_in (length key) b p in
      rw (
        get-listed l i h,
        ← add-one i,
        encode_append (take i es) (two_for (length key) b key c q (item_at (length key) b p i) ++ drop (i + 1) es),
        before-bytes l i (omega arith),
        after-bytes l (i + 1) (omega arith),
        sub-zero,
      ) (simp append_assoc)

-- a page's entries without entry i
module _ {b : List ℕ} {k p n i : ℕ} (l : Listed b k p n) (h : i < n) where
  pub without_bytes : encode (without_entry i (items_in k b p))
      ≡ ([] ++ window b (entry_offset k p 0) ((i - 0) * (k + 4))) ++ window b (entry_offset k p (i + 1)) ((n - (i + 1)) * (k + 4))
  without_bytes =
      let es = items_in k b p in
      rw (
        ← add-one i,
        encode_append (take i es) (drop (i + 1) es),
        before-bytes l i (omega arith),
        after-bytes l (i + 1) (omega arith),
        sub-zero,
      )

-- the key of entry i raised, or not
module _ (key : List ℕ) {b : List ℕ} {p n i : ℕ} (l : Listed b (length key) p n) where
  pub raised-none : n ≤ i → b ≡ raised (length key) b key p i
  unfolding raised
  raised-none h = rw (le-ltb i (length (items_in (length key) b p)) (omega (arith, l.count)))

  module _ (inside : i < n) where
    test : ltb i (length (items_in (length key) b p)) ≡ true
    test = lt-ltb i (length (items_in (length key) b p)) (omega (arith, l.count))

    pub raised-here : {o : ℕ} {out : List ℕ} → bytes_le key (key_at b (length key) p i) ≡ false → o ≡ entry_offset (length key) p i → out ≡ put b o key
        → out ≡ raised (length key) b key p i
    unfolding raised
    raised-here lower eo eb = rw (test, get-listed l i inside, lower) (eb ∙ rw eo)

    pub raised_not : bytes_le key (key_at b (length key) p i) ≡ true → b ≡ raised (length key) b key p i
    unfolding raised
    raised_not higher = rw (test, get-listed l i inside, higher)
