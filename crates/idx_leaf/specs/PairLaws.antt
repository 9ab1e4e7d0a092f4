-- Laws: for features 0, the comparison of a stored entry with a pair, and the loop that goes by it. Cited by the proofs of the functions. Assumes nothing.
use Rattle.std.specs.Prelude.{ℕ, suc, ◌+◌, ◌-◌, ◌^◌, ◌≤◌, ◌<◌, ◌≡◌, Bool, true, not, List, ◌∷◌, leb, length}
use Rattle.std.specs.Ordering.{is_ge, is_le, nat_cmp, ordering_then}
use Rattle.std.proofs.lemmas.Bool.Decides.{nat_tests}
use Rattle.std.proofs.Math.Path.{refl, sym}
use Rattle.std.proofs.Common.{ap, ◌∙◌, add-zero, arith}
use Rattle.std.proofs.Math.Bool.{false}
use Rattle.basis.specs.Tests.{either, contra}
use Rattle.octets.specs.NumberLaws.{be32-to_be32, be32-window}
use Rattle.std.specs.declared.cmp.Ordering.{Ordering}
use Rattle.std.specs.declared.cmp.Ordering.TheVariants.{Less, Equal, Greater}
use Rattle.octets.specs.Order.{bytes_le, ordering, is_below, is_equal}
use Rattle.octets.specs.OrderLaws.{le_refl, le_total}
use Rattle.idx_page.specs.Page.{entry_offset, key_at, number_at}
use Rattle.idx_page.specs.KeyOrderLaws.{equal-same}
use Rattle.idx_page.specs.Reading.{Item}
use Rattle.idx_page.specs.EntryOrder.{item_order}
use Rattle.idx_leaf.specs.Leaf.{stored}
use Rattle.idx_leaf.specs.EntryLaws.{items_from, item_at, from-none, from_cons, passed_count}

-- an order that another one decides behind it
above_by : (o q : Ordering) (t : Bool) → (is_equal o ≡ true → is_ge q ≡ t) → (is_equal o ≡ false → not (is_below o) ≡ t) → is_ge (ordering_then o q) ≡ t
above_by Less q t same other = other refl
above_by Equal q t same other = same refl
above_by Greater q t same other = other refl

up_to_by : (o q : Ordering) (t : Bool) → (is_equal o ≡ true → is_le q ≡ t) → (is_equal o ≡ false → is_below o ≡ t) → is_le (ordering_then o q) ≡ t
up_to_by Less q t same other = other refl
up_to_by Equal q t same other = same refl
up_to_by Greater q t same other = other refl

cmp_ge : (n r : ℕ) → is_ge (nat_cmp n r) ≡ leb r n
cmp_ge n r = grind (arith, nat_tests)

cmp_le : (n r : ℕ) → is_le (nat_cmp n r) ≡ leb n r
cmp_le n r = grind (arith, nat_tests)

-- a stored entry and a pair, by the order of their keys and, if these are equal, by their numbers
module _ (b key : List ℕ) (p i r : ℕ) {o : Ordering} (eo : o ≡ ordering (key_at b (length key) p i) key) where
  pub equal-above : {n : ℕ} → r < 2 ^ 32 → n ≡ number_at b (length key) p i → is_equal o ≡ true
      → leb r n ≡ item_order 0 (stored key r) (item_at (length key) b p i)
  equal-above small en t =
      let same : key_at b (length key) p i ≡ key = equal-same (key_at b (length key) p i) key (sym (ap is_equal eo) ∙ t) in
      rw (same, le_refl key, be32-to_be32 r small, be32-window b (entry_offset (length key) p i + length key), ← en)

  pub equal_up_to : {n : ℕ} → r < 2 ^ 32 → n ≡ number_at b (length key) p i → is_equal o ≡ true
      → leb n r ≡ item_order 0 (item_at (length key) b p i) (stored key r)
  equal_up_to small en t =
      let same : key_at b (length key) p i ≡ key = equal-same (key_at b (length key) p i) key (sym (ap is_equal eo) ∙ t) in
      rw (same, le_refl key, be32-to_be32 r small, be32-window b (entry_offset (length key) p i + length key), ← en)

  pub differ_above : is_equal o ≡ false → not (is_below o) ≡ item_order 0 (stored key r) (item_at (length key) b p i)
  unfolding ordering
  differ_above t =
      let a = key_at b (length key) p i in
      let u : is_equal (ordering a key) ≡ false = sym (ap is_equal eo) ∙ t in
      rw eo (either (bytes_le a key)
      (λ x. either (bytes_le key a) (λ y. contra refl (rw (x, y) at u)) (λ y. rw (x, y)))
      (λ x. rw (x, le_total a key x)))

  pub differ_up_to : is_equal o ≡ false → is_below o ≡ item_order 0 (item_at (length key) b p i) (stored key r)
  unfolding ordering
  differ_up_to t =
      let a = key_at b (length key) p i in
      let u : is_equal (ordering a key) ≡ false = sym (ap is_equal eo) ∙ t in
      rw eo (either (bytes_le a key)
      (λ x. either (bytes_le key a) (λ y. contra refl (rw (x, y) at u)) (λ y. rw (x, y)))
      (λ x. rw x))

  -- the numbers decide behind the keys
  module _ {n : ℕ} (small : r < 2 ^ 32) (en : n ≡ number_at b (length key) p i) where
    pub then_above : is_ge (ordering_then o (nat_cmp n r)) ≡ item_order 0 (stored key r) (item_at (length key) b p i)
    then_above = above_by o (nat_cmp n r) _ (λ t. cmp_ge n r ∙ equal-above small en t) differ_above

    pub then_up_to : is_le (ordering_then o (nat_cmp n r)) ≡ item_order 0 (item_at (length key) b p i) (stored key r)
    then_up_to = up_to_by o (nat_cmp n r) _ (λ t. cmp_le n r ∙ equal_up_to small en t) differ_up_to

-- the loop over a page's n entries that stops at the first at or above the pair: it has come to entry i
module _ (k : ℕ) (b : List ℕ) (p : ℕ) (item : Item) (n i : ℕ)
    (inv : passed_count (item_order 0) item (items_from k b p n 0) ≡ i + passed_count (item_order 0) item (items_from k b p (n - i) i)) where
  pub passed-end : n ≤ i → i ≡ passed_count (item_order 0) item (items_from k b p n 0)
  passed-end h = let e : n - i ≡ 0 = omega arith in sym (inv ∙ rw (e, from-none k b p i) (add-zero i))

  module _ (h : i < n) where
    one : items_from k b p (n - i) i ≡ item_at k b p i ∷ items_from k b p (n - (i + 1)) (i + 1)
    one = let e : n - i ≡ suc (n - (i + 1)) = omega arith in rw e (from_cons k b p (n - (i + 1)) i)

    pub passed_stop : item_order 0 item (item_at k b p i) ≡ true → i ≡ passed_count (item_order 0) item (items_from k b p n 0)
    passed_stop t = sym (inv ∙ rw (one, t) (add-zero i))

    pub passed_on : item_order 0 item (item_at k b p i) ≡ false
        → passed_count (item_order 0) item (items_from k b p n 0) ≡ i + 1 + passed_count (item_order 0) item (items_from k b p (n - (i + 1)) (i + 1))
    passed_on t = inv ∙ rw (one, t) (omega arith)
