-- Laws: what features 0 and features 1 say is a keeping: its orders, routes and tests have the laws that a keeping asks for. `keeping_of` is the keeping of a
-- header's features: rules cite it, and it stands beside its laws, so that a wrong order or route in `Keeping` is refused by them.
use Rattle.std.specs.Prelude.{◌≡◌, refl, true, false, not, ℕ, zero, suc}
use Rattle.std.proofs.lemmas.Bool.{not-true, not-false}
use Rattle.basis.specs.Tests.{contra}
use Rattle.tree.specs.Order.{Order, larger}
use Rattle.tree.proofs.OrderLaws.{lt_le, lt_le-trans, le_lt_trans, larger-same, larger-below}
use Rattle.tree.proofs.RecordOrder.{by_record-key, by_record-trans, by_record-total, by_record-below}
use Rattle.tree.specs.Tree.{Entry, first_under}
use Rattle.tree.specs.Keeping.{Keeping, pair_order, covers_for, route_for, goes_on_for}

module _ {K : Type 0} (O : Order K) where
  pub pair_order-trans : (f : ℕ) (x y z : K × ℕ) → pair_order O f x y ≡ true → pair_order O f y z ≡ true → pair_order O f x z ≡ true
  pair_order-trans zero x y z p q = by_record-trans O x y z p q
  pair_order-trans (suc n) x y z p q = O.trans x.0 y.0 z.0 p q

  pub pair_order-total : (f : ℕ) (x y : K × ℕ) → pair_order O f x y ≡ false → pair_order O f y x ≡ true
  pair_order-total zero x y h = by_record-total O x y h
  pair_order-total (suc n) x y h = O.total x.0 y.0 h

  pub pair_order-key : (f : ℕ) (x y : K × ℕ) → pair_order O f x y ≡ true → O.le x.0 y.0 ≡ true
  pair_order-key zero x y h = by_record-key O x y h
  pair_order-key (suc n) x y h = h

  pub before-covers : (f : ℕ) (x y : K × ℕ) → pair_order O f y x ≡ false → covers_for O f x.0 y.0 ≡ false
  before-covers zero x y h = rw (by_record-key O x y (by_record-total O y x h))
  before-covers (suc n) x y h = h

  pub covers-le : (f : ℕ) (a b : K) → covers_for O f a b ≡ false → O.le a b ≡ true
  covers-le zero a b h = not-false (O.le a b) h
  covers-le (suc n) a b h = lt_le O a b h

  pub covers_down : (f : ℕ) (a b c : K) → O.le a b ≡ true → covers_for O f b c ≡ false → covers_for O f a c ≡ false
  covers_down zero a b c p q = rw (O.trans a b c p (not-false (O.le b c) q))
  covers_down (suc n) a b c p q = le_lt_trans O a b c p q

  pub covers_up : (f : ℕ) (a b c : K) → covers_for O f a b ≡ false → O.le b c ≡ true → covers_for O f a c ≡ false
  covers_up zero a b c p q = rw (O.trans a b c (not-false (O.le a b) p) q)
  covers_up (suc n) a b c p q = lt_le-trans O a b c p q

  pub route_for-leaf : (f : ℕ) (e x y : K × ℕ) → route_for O f e zero x y ≡ not (pair_order O f e x)
  route_for-leaf zero e x y = refl
  route_for-leaf (suc n) e x y = refl

  pub route_for_stops : (f : ℕ) (e : K × ℕ) (h : ℕ) (x y : Entry K (suc h)) → route_for O f e (suc h) x y ≡ false →
      covers_for O f x.0 (first_under (suc h) y).0 ≡ false →
      (pair_order O f (first_under (suc h) y) e ≡ false) × (covers_for O f (larger O x.0 e.0) (first_under (suc h) y).0 ≡ false)
  route_for_stops zero e h x y s c =
      let z : K × ℕ = first_under (suc h) y in
      (s, rw (larger-below O x.0 e.0 z.0 (not-false (O.le x.0 z.0) c) (by_record-key O e z (by_record-total O z e s))))
  route_for_stops (suc n) e h x y s c =
      let l : O.le e.0 x.0 ≡ true = not-false (O.le e.0 x.0) s in
      (le_lt_trans O e.0 x.0 (first_under (suc h) y).0 l c, rw (larger-same O x.0 e.0 l) c)

  pub route_for-passes : (f : ℕ) (e : K × ℕ) (h : ℕ) (x y : Entry K (suc h)) → route_for O f e (suc h) x y ≡ true →
      covers_for O f x.0 (first_under (suc h) y).0 ≡ false →
      (covers_for O f x.0 e.0 ≡ false)
      × ((z : K × ℕ) → O.le z.0 x.0 ≡ true → pair_order O f (first_under (suc h) y) z ≡ false → pair_order O f e z ≡ false)
  route_for-passes zero e h x y s c =
      let first : K × ℕ = first_under (suc h) y in (
        rw (O.trans x.0 first.0 e.0 (not-false (O.le x.0 first.0) c) (by_record-key O first e s)),
        λ z l d. by_record-below O z first e d s,
      )
  route_for-passes (suc n) e h x y s c =
      let l : O.le e.0 x.0 ≡ false = not-true (O.le e.0 x.0) s in
      (l, λ z u d. le_lt_trans O z.0 x.0 e.0 u l)

  pub covers_lt : (f : ℕ) → goes_on_for O f ≡ false → (a b : K) → covers_for O f a b ≡ false → O.le b a ≡ false
  covers_lt zero g a b c = contra refl g
  covers_lt (suc n) g a b c = c

  -- the keeping of a header's features
  abbrev pub keeping_of : ℕ → Keeping K
  keeping_of f = record {
    order = O;
    pair_le = pair_order O f;
    covers = covers_for O f;
    route = route_for O f;
    goes_on = goes_on_for O f;
    pair_trans = pair_order-trans f;
    pair_total = pair_order-total f;
    pair_key = pair_order-key f;
    before-clear = before-covers f;
    clear-le = covers-le f;
    clear-down = covers_down f;
    clear_up = covers_up f;
    route-leaf = route_for-leaf f;
    route_stops = route_for_stops f;
    route-passes = route_for-passes f;
    clear_lt = covers_lt f;
  }

  -- features 1, one record to a key, and features 0, several
  abbrev pub distinct_keys : Keeping K
  distinct_keys = keeping_of 1

  abbrev pub repeated_keys : Keeping K
  repeated_keys = keeping_of 0
