-- Laws: a page's entries by number: how many there are, where a search ends, which entry it leads to, and whether a leaf has an entry; and the order of
-- entries by the header's features. Assumes nothing.
use Rattle.std.specs.Prelude.{ℕ, zero, suc, ◌+◌, ◌-◌, ◌*◌, ◌≤◌, ◌<◌, ◌≡◌, refl, Bool, true, false, not, cond, List, [], ◌∷◌, eqb, length, take, drop}
use Rattle.std.proofs.Common.{sym, ap, ◌∙◌, zero-add, add-mul, add-zero, arith, drop-drop, eq-eqb, ne_eqb}
use Rattle.std.proofs.Math.Nat.{min-le_right}
use Rattle.basis.specs.Tests.{either, contra}
use Rattle.basis.specs.Lists.{All}
use Rattle.octets.specs.Order.{bytes_le}
use Rattle.octets.specs.Store.{window}
use Rattle.octets.specs.StoreLaws.{length-window}
use Rattle.tree.specs.Pairs.{by_key, present}
use Rattle.tree.specs.Position.{position}
use Rattle.idx_page.specs.Header.{is_page}
use Rattle.idx_page.specs.Page.{count_at, entries_start, entry_area, capacity, entry_offset, key_at, first_at_or_above}
use Rattle.idx_page.specs.Within.{Within}
use Rattle.idx_page.specs.KeyOrder.{bytes_order}
use Rattle.idx_page.specs.HeaderLaws.{is-page}
use Rattle.idx_page.specs.PageLaws.{entries_fit, entry_first, entry_next}
use Rattle.idx_page.specs.Reading.{Item, items, items_at}
use Rattle.idx_page.proofs.ReadingLaws.{read_count, items_take}
use Rattle.idx_leaf.specs.Leaf.{items_in, item_of}
use Rattle.idx_page.specs.EntryOrder.{item_order}
use Rattle.idx_leaf.specs.Given.{Listed}
use Rattle.idx_leaf.specs.ItemLaws.{Fit, items-fit, length-items, take_items, drop_items}

-- n entries of the page at p, from entry i on
unfoldable pub items_from : ℕ → List ℕ → ℕ → ℕ → ℕ → List Item
items_from k b p n i = items k n (drop (entry_offset k p i) b)

-- an entry as it stands in the buffer
abbrev pub item_at : ℕ → List ℕ → ℕ → ℕ → Item
item_at k b p i = (key_at b k p i, window b (entry_offset k p i + k) 4)

length_from : (k : ℕ) (b : List ℕ) (p n i : ℕ) → length (items_from k b p n i) ≡ n
unfolding items_from
length_from k b p n i = length-items k n (drop (entry_offset k p i) b)

pub from-none : (k : ℕ) (b : List ℕ) (p i : ℕ) → items_from k b p 0 i ≡ []
unfolding items_from items
from-none k b p i = refl

pub from_cons : (k : ℕ) (b : List ℕ) (p n i : ℕ) → items_from k b p (suc n) i ≡ item_at k b p i ∷ items_from k b p n (i + 1)
unfolding items_from items window
from_cons k b p n i = rw (drop-drop k (entry_offset k p i) b, drop-drop (k + 4) (entry_offset k p i) b, ← entry_next k p i)

pub take_from : (k : ℕ) (b : List ℕ) (p m n i : ℕ) → m ≤ n → take m (items_from k b p n i) ≡ items_from k b p m i
unfolding items_from
take_from k b p m n i h = take_items k m n (drop (entry_offset k p i) b) h

-- entry i + n begins n entries after entry i
pub entry-far : (k p i n : ℕ) → entry_offset k p (i + n) ≡ entry_offset k p i + n * (k + 4)
unfolding entry_offset
entry-far k p i n = omega (arith, add-mul i n (k + 4))

pub drop_from : (k : ℕ) (b : List ℕ) (p m n : ℕ) → m ≤ n → drop m (items_from k b p n 0) ≡ items_from k b p (n - m) m
unfolding items_from
drop_from k b p m n h = drop_items k m n (drop (entry_offset k p 0) b) h ∙ rw (drop-drop (m * (k + 4)) (entry_offset k p 0) b, ← entry-far k p 0 m, zero-add)

-- the entries of a page of the buffer; there are none if p is no page
items-in : (k : ℕ) (b : List ℕ) (p : ℕ) → is_page (length b) p ≡ true → items_in k b p ≡ items_from k b p (read_count k b p) 0
unfolding items_at items_from window
items-in k b p e =
    rw (e, items_take k (read_count k b p) entry_area (drop (p + entries_start) b) (entries_fit k (read_count k b p) (min-le_right _ _)), entry_first k p)

pub items-none : (k : ℕ) (b : List ℕ) (p : ℕ) → is_page (length b) p ≡ false → items_in k b p ≡ []
unfolding items_at
items-none k b p e = rw e

-- an entry of a page has k bytes and four
pub items_in_fit : (k : ℕ) (b : List ℕ) (p : ℕ) → All (Fit k) (items_in k b p)
unfolding items_at
items_in_fit k b p = either (is_page (length b) p)
    (λ e. let n = read_count k b p in
    let stored = window b (p + entries_start) entry_area in
    let w : length stored ≡ entry_area = length-window b (p + entries_start) entry_area (omega (arith, (is-page (length b) p e).high)) in
    rw e (items-fit k n stored (omega (arith, entries_fit k n (min-le_right (count_at b p) (capacity k))))))
    (λ e. rw e tt)

-- the n entries that a page has
pub listed : {b : List ℕ} {k p n : ℕ} → Listed b k p n → items_in k b p ≡ items_from k b p n 0
listed {b} {k} {p} {n} l =
    let e = items-in k b p l.page in
    let m : read_count k b p ≡ n = sym (l.count ∙ ap length e ∙ length_from k b p (read_count k b p) 0) in
    e ∙ ap (λ (x : ℕ). items_from k b p x 0) m

pub listed-within : {b : List ℕ} {k p n : ℕ} → Listed b k p n → Within b k p n
listed-within {b} {k} {p} {n} l =
    let m : n ≡ read_count k b p = l.count ∙ ap length (items-in k b p l.page) ∙ length_from k b p (read_count k b p) 0 in
    record { key = l.key; count = omega (arith, min-le_right (count_at b p) (capacity k)); page = (is-page (length b) p l.page).high }

-- how many entries a search passes, by an order of entries: those before the first at or above the entry e
abbrev pub passed_count : (Item → Item → Bool) → Item → List Item → ℕ
passed_count le e [] = 0
passed_count le e (x ∷ xs) = cond (le e x) 0 (suc (passed_count le e xs))

-- the search for a key in the page ends after the entries passed
pub first-passed : (k : ℕ) (b key c : List ℕ) (p n i : ℕ)
    → first_at_or_above (key_at b k p) key n i ≡ i + passed_count (by_key bytes_order) (key, c) (items_from k b p n i)
unfolding first_at_or_above
first-passed k b key c p zero i = rw (from-none k b p i) (sym (add-zero i))
first-passed k b key c p (suc n) i = either (bytes_le key (key_at b k p i))
    (λ e. rw (from_cons k b p n i, e, first_at_or_above) (sym (add-zero i)))
    (λ e. rw (from_cons k b p n i, e, first_at_or_above) (first-passed k b key c p n (i + 1) ∙ omega arith))

module _ (le : Item → Item → Bool) (e : Item) where
  pub passed-le : (es : List Item) → passed_count le e es ≤ length es
  passed-le [] = omega arith
  passed-le (x ∷ xs) = either (le e x) (λ t. rw t (omega arith)) (λ t. rw t (omega (arith, passed-le xs)))

  -- a leaf has an entry exactly if the first entry that is not passed is at or below it
  pub present-at : (es : List Item) → passed_count le e es < length es → present le e es ≡ le (item_of (passed_count le e es) es) e
  present-at [] h = absurd (omega arith)
  present-at (x ∷ xs) h = either (le e x) (λ t. rw t) (λ t. rw t (present-at xs (omega (arith, rw t at h))))

  pub present-none : (es : List Item) → passed_count le e es ≡ length es → present le e es ≡ false
  present-none [] h = refl
  present-none (x ∷ xs) h = either (le e x)
      (λ t. absurd (omega (arith, rw t at h)))
      (λ t. rw t (present-none xs (omega (arith, rw t at h))))

  -- the first entry that is not passed is at or above it
  pub passed_not : (es : List Item) → passed_count le e es < length es → le e (item_of (passed_count le e es) es) ≡ true
  passed_not [] h = absurd (omega arith)
  passed_not (x ∷ xs) h = either (le e x) (λ t. rw t t) (λ t. rw t (passed_not xs (omega (arith, rw t at h))))

  -- the entry that an entry leads to is the first that is not passed, or the last
  pub place-passed : (es : List Item) → passed_count le e es < length es → passed_count le e es ≡ position (λ x y. not (le e x)) es
  place-passed [] h = absurd (omega arith)
  place-passed (x ∷ []) h = either (le e x) (λ t. rw t) (λ t. absurd (omega (arith, rw t at h)))
  place-passed (x ∷ y ∷ ys) h = either (le e x)
      (λ t. rw t)
      (λ t. rw t (ap suc (place-passed (y ∷ ys) (omega (arith, rw t at h)))))

  pub place-last : (es : List Item) → passed_count le e es ≡ length es → length es - 1 ≡ position (λ x y. not (le e x)) es
  place-last [] h = refl
  place-last (x ∷ []) h = refl
  place-last (x ∷ y ∷ ys) h = either (le e x)
      (λ t. absurd (omega (arith, rw t at h)))
      (λ t. let below = place-last (y ∷ ys) (omega (arith, rw t at h)) in rw t (omega arith))

-- the order of entries, by whether a key may have several records
pub order_record : (f : ℕ) → eqb f 0 ≡ true → item_order f ≡ item_order 0
order_record zero t = refl
order_record (suc n) t = contra t (ne_eqb (suc n) 0 (λ q. omega arith))

pub order-key : (f : ℕ) → eqb f 0 ≡ false → item_order f ≡ by_key bytes_order
order-key zero t = contra (eq-eqb 0 0 refl) t
order-key (suc n) t = refl
