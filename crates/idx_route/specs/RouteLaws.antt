-- Laws: an entry's child; for features 0 the first leaf pair under an entry, and the loop that goes by it; and the route by the features. Cited by the proofs
-- of the functions. Assumes nothing.
use Prim.Native.Nat.{ℕ, zero, suc, ◌+◌, ◌-◌, ◌≤◌, ◌<◌}
use Rattle.std.specs.Prelude.{◌≡◌, true, false, eqb, length}
use Rattle.std.proofs.Math.Path.{refl}
use Rattle.std.proofs.Common.{sym, ap, ◌∙◌, add-zero, eq-eqb, ne_eqb}
use mathlib.Core.List.{List, [], ◌∷◌}
use native.Mathlib.Omega.{arith}
use Rattle.std.proofs.Math.ListN.{get_or-eq_default}
use Rattle.basis.specs.Tests.{either, contra}
use Rattle.octets.specs.Bytes.{be32}
use Rattle.octets.specs.NumberLaws.{be32-window}
use Rattle.std.specs.declared.cmp.Ordering.{Ordering}
use Rattle.octets.specs.Order.{bytes_le, ordering, is_below, is_equal}
use Rattle.octets.specs.OrderLaws.{le_refl}
use Rattle.tree.specs.Position.{Passes, position, passes_lower}
use Rattle.idx_page.specs.Page.{attribute_at, leaf_bit, entry_offset, key_at, number_at}
use Rattle.idx_page.specs.KeyOrderLaws.{equal-same}
use Rattle.idx_page.specs.Reading.{Item}
use Rattle.idx_page.specs.EntryOrder.{item_order}
use Rattle.idx_leaf.specs.Leaf.{items_in}
use Rattle.idx_route.specs.Route.{first_up_to, child_of, passes_above}
use Rattle.idx_leaf.specs.Given.{Listed}
use Rattle.idx_leaf.specs.EntryLaws.{items_from, item_at, from-none, from_cons, listed}
use Rattle.idx_page.specs.Header.{max_levels}
use Rattle.idx_page.specs.KeyOrder.{bytes_order}
use Rattle.idx_leaf.specs.SearchLaws.{get-listed}

-- the child of an entry, and of none
pub child-listed : {b : List ℕ} {k p n : ℕ} → Listed b k p n → (i : ℕ) → i < n → number_at b k p i ≡ child_of i (items_in k b p)
child-listed {b} {k} {p} l i h = sym (ap (λ (x : Item). be32 x.1 0) (get-listed l i h) ∙ be32-window b (entry_offset k p i + k))

pub no_child : (i : ℕ) (es : List Item) → length es ≤ i → 0 ≡ child_of i es
unfolding be32
no_child i es h = rw (get_or-eq_default es ([], []) h)

-- an entry's key is at or below a key
pub key_up_to : {o : Ordering} (a key : List ℕ) → o ≡ ordering a key → is_equal o ≡ true → true ≡ bytes_le a key
key_up_to a key eo t = rw (equal-same a key (sym (ap is_equal eo) ∙ t)) (sym (le_refl key))

pub key-differs : {o : Ordering} (a key : List ℕ) → o ≡ ordering a key → is_equal o ≡ false → is_below o ≡ bytes_le a key
unfolding ordering
key-differs a key eo t =
    let u : is_equal (ordering a key) ≡ false = sym (ap is_equal eo) ∙ t in
    rw eo (either (bytes_le a key)
    (λ x. either (bytes_le key a) (λ y. contra refl (rw (x, y) at u)) (λ y. rw (x, y)))
    (λ x. rw x))

-- the first leaf pair under the entry i of the page at p, whose child is at c
module _ (b : List ℕ) (item : Item) (p i c : ℕ) (child : c ≡ number_at b (length item.0) p i) where
  abbrev k : ℕ
  k = length item.0

  abbrev x : Item
  x = item_at (length item.0) b p i

  child_is : be32 x.1 0 ≡ c
  child_is = be32-window b (entry_offset k p i + k) ∙ sym child

  pub first-end : (left : ℕ) → left ≡ 0 → bytes_le (key_at b k p i) item.0 ≡ first_up_to left b item x
  unfolding first_up_to
  first-end left z = rw z

  none : (es : List Item) (left : ℕ) → length es ≡ 0 → items_in k b c ≡ es → bytes_le (key_at b k p i) item.0 ≡ first_up_to (suc left) b item x
  unfolding first_up_to
  none [] left z e = rw (child_is, e)
  none (y ∷ ys) left z e = absurd (omega arith)

  pub first-none : (left : ℕ) → (left ≡ 0 → ⊥) → 0 ≡ length (items_in k b c) → bytes_le (key_at b k p i) item.0 ≡ first_up_to left b item x
  first-none zero s z = absurd (s refl)
  first-none (suc left) s z = none (items_in k b c) left (sym z) refl

  -- the child has n entries, so a first one
  module _ {n : ℕ} (l : Listed b (length item.0) c n) (some : n ≡ 0 → ⊥) where
    first_is : (m : ℕ) → m ≡ n → items_in k b c ≡ item_at k b c 0 ∷ items_from k b c (n - 1) 1
    first_is zero e = absurd (some (sym e))
    first_is (suc m) e =
        let less : n - 1 ≡ m = omega arith in
        listed l ∙ rw (← e, from_cons k b c m 0) (rw (e, less))

    pub first_leaf_lem : (left : ℕ) → (left ≡ 0 → ⊥) → leaf_bit (attribute_at b c) ≡ true → item_order 0 (item_at k b c 0) item ≡ first_up_to left b item x
    unfolding first_up_to
    first_leaf_lem zero s t = absurd (s refl)
    first_leaf_lem (suc left) s t = rw (child_is, first_is n refl, t)

    pub first-upper : (left : ℕ) → (left ≡ 0 → ⊥) → leaf_bit (attribute_at b c) ≡ false
        → first_up_to (left - 1) b item (item_at k b c 0) ≡ first_up_to left b item x
    unfolding first_up_to
    first-upper zero s t = absurd (s refl)
    first-upper (suc left) s t = let e : suc left - 1 ≡ left = omega arith in rw (child_is, first_is n refl, t, e)

-- the loop over a page's n entries that stops where the next one is not passed on to: it has come to entry i
module _ (k : ℕ) (b : List ℕ) (p : ℕ) (passes : Passes Item) (n i : ℕ)
    (inv : position passes (items_from k b p n 0) ≡ i + position passes (items_from k b p (n - i) i)) where
  pub position-end : n ≤ i + 1 → i ≡ position passes (items_from k b p n 0)
  position-end h = sym (inv ∙ rw (go (n - i) (omega arith)) (add-zero i))
    where
      go : (m : ℕ) → m ≤ 1 → position passes (items_from k b p m i) ≡ 0
      go zero l = rw (from-none k b p i)
      go (suc zero) l = rw (from_cons k b p 0 i, from-none k b p (i + 1))
      go (suc (suc m)) l = absurd (omega arith)

  module _ (h : i + 1 < n) where
    two : items_from k b p (n - i) i ≡ item_at k b p i ∷ items_from k b p (n - (i + 1)) (i + 1)
    two = let e : n - i ≡ suc (n - (i + 1)) = omega arith in rw e (from_cons k b p (n - (i + 1)) i)

    next : items_from k b p (n - (i + 1)) (i + 1) ≡ item_at k b p (i + 1) ∷ items_from k b p (n - (i + 2)) (i + 1 + 1)
    next = let e : n - (i + 1) ≡ suc (n - (i + 2)) = omega arith in rw e (from_cons k b p (n - (i + 2)) (i + 1))

    pub position_stop : passes (item_at k b p i) (item_at k b p (i + 1)) ≡ false → i ≡ position passes (items_from k b p n 0)
    position_stop t = sym (inv ∙ rw (two, next, t) (add-zero i))

    pub position-on : passes (item_at k b p i) (item_at k b p (i + 1)) ≡ true
        → position passes (items_from k b p n 0) ≡ i + 1 + position passes (items_from k b p (n - (i + 1)) (i + 1))
    position-on t = inv ∙ rw (two, next, t) (omega arith)

-- the route above the leaves, by whether a key may have several records
module _ (b : List ℕ) (e : Item) where
  pub route_record : (f : ℕ) → eqb f 0 ≡ true → passes_above f b e ≡ (λ x y. first_up_to max_levels b e y)
  route_record zero t = refl
  route_record (suc n) t = contra t (ne_eqb (suc n) 0 (λ q. omega arith))

  pub route-key : (f : ℕ) → eqb f 0 ≡ false → passes_above f b e ≡ passes_lower bytes_order e
  route-key zero t = contra (eq-eqb 0 0 refl) t
  route-key (suc n) t = refl
