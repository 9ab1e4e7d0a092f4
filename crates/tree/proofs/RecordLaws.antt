-- Laws: all records of a key in the ascending pairs of an index: each once and none other, and the first is what lookup gives. Cited by the laws of the call
-- that lists them. Assumes nothing.
use Rattle.std.specs.Prelude.{◌≡◌, refl, true, false, ◌&&◌, List, [], ◌∷◌, ℕ, zero, suc, eqb, leb}
use Rattle.std.proofs.Common.{sym, ◌∙◌, arith, leb-true, le-leb, eqb-true}
use Rattle.std.proofs.Math.Option.{Option, none, some}
use Rattle.std.proofs.lemmas.Bool.{lt-leb, eqb-false}
use Rattle.basis.specs.Lists.{All, all_map}
use Rattle.basis.specs.Tests.{either, both, contra}
use Rattle.tree.specs.Lists.{count_if, occ}
use Rattle.tree.specs.Order.{Order}
use Rattle.tree.specs.Keeping.{Keeping, pair_order}
use Rattle.tree.proofs.KeepingOf.{repeated_keys}
use Rattle.tree.proofs.KeepingLaws.{has_above}
use Rattle.tree.specs.Pairs.{get, records_of, by_key, by_record, has, Ascending}

-- the first of a list, if it has any
abbrev pub first_of : {A : Type 0} → List A → Option A
first_of [] = none
first_of (x ∷ xs) = some x

module _ {K : Type 0} (O : Order K) where
  -- Theorem: the first of a key's records is what the list has under the key
  pub records-first : {C : Type 0} (k : K) (xs : List (K × C)) → first_of (records_of O k xs) ≡ get O k xs
  records-first k [] = refl
  records-first k (x ∷ xs) = either (O.le k x.0 && O.le x.0 k) (λ e. rw e) (λ e. rw e (records-first k xs))

  -- a pair is the same as another if keys and record numbers are
  leb_both : (a b : ℕ) → (leb a b && leb b a) ≡ eqb a b
  leb_both a b = either (eqb a b)
      (λ e. rw (e, le-leb a b (omega (arith, eqb-true a b e)), le-leb b a (omega (arith, eqb-true a b e))))
      (λ e. rw e (either (leb a b)
      (λ p. rw (p, lt-leb b a (omega (arith, leb-true a b p, eqb-false a b e))))
      (λ p. rw p)))

  same-records : (k : K) (r : ℕ) (x : K × ℕ) → (O.le k x.0 && O.le x.0 k) ≡ true → (by_record O (k, r) x && by_record O x (k, r)) ≡ eqb r x.1
  same-records k r x h =
      let b : (O.le k x.0 ≡ true) × (O.le x.0 k ≡ true) = both (O.le k x.0) (O.le x.0 k) h in
      rw (b.0, b.1) (leb_both r x.1)

  same_differs : (k : K) (r : ℕ) (x : K × ℕ) → (O.le k x.0 && O.le x.0 k) ≡ false → (by_record O (k, r) x && by_record O x (k, r)) ≡ false
  same_differs k r x h = either (O.le k x.0)
      (λ p. either (O.le x.0 k)
      (λ q. contra (rw (p, q)) h)
      (λ q. rw (p, q)))
      (λ p. rw p)

  -- Theorem: of the ascending pairs of an index, it lists each record of the key once and none other
  pub records-once : (k : K) (r : ℕ) (xs : List (K × ℕ)) → Ascending (by_record O) xs →
      occ r (records_of O k xs) ≡ count_if (has (by_record O) (k, r) xs)
  records-once k r [] a = refl
  records-once k r (x ∷ xs) a = either (O.le k x.0 && O.le x.0 k)
      (λ e. rw (e, same-records k r x e) (either (eqb r x.1)
      (λ q. rw (q, records-once k r xs a.1, none_after e (eqb-true r x.1 q)))
      (λ q. rw q (omega (arith, records-once k r xs a.1)))))
      (λ e. rw (e, same_differs k r x e) (records-once k r xs a.1))
    where
      none_after : (O.le k x.0 && O.le x.0 k) ≡ true → r ≡ x.1 → has (by_record O) (k, r) xs ≡ false
      none_after e q =
          let b : (O.le k x.0 ≡ true) × (O.le x.0 k ≡ true) = both (O.le k x.0) (O.le x.0 k) e in
          let s : k ≡ x.0 = O.antisym k x.0 b.0 b.1 in
          rw (s, q) (has_above (repeated_keys O) x xs a.0)

  -- Theorem: the records of a key ascend
  pub records_ascend : (k : K) (xs : List (K × ℕ)) → Ascending (by_record O) xs → Ascending leb (records_of O k xs)
  records_ascend k [] a = tt
  records_ascend k (x ∷ xs) a = either (O.le k x.0 && O.le x.0 k)
      (λ e. rw e (later x e xs a.0, records_ascend k xs a.1))
      (λ e. rw e (records_ascend k xs a.1))
    where
      later : (x : K × ℕ) → (O.le k x.0 && O.le x.0 k) ≡ true → (ys : List (K × ℕ)) → All (λ y. by_record O y x ≡ false) ys →
          All (λ r. leb r x.1 ≡ false) (records_of O k ys)
      later x e [] v = tt
      later x e (y ∷ ys) v = either (O.le k y.0 && O.le y.0 k)
          (λ u. rw u (number x y e u v.0, later x e ys v.1))
          (λ u. rw u (later x e ys v.1))
        where
          number : (x y : K × ℕ) → (O.le k x.0 && O.le x.0 k) ≡ true → (O.le k y.0 && O.le y.0 k) ≡ true →
              by_record O y x ≡ false → leb y.1 x.1 ≡ false
          number x y e u h =
              let p : (O.le k x.0 ≡ true) × (O.le x.0 k ≡ true) = both (O.le k x.0) (O.le x.0 k) e in
              let q : (O.le k y.0 ≡ true) × (O.le y.0 k ≡ true) = both (O.le k y.0) (O.le y.0 k) u in
              rw (O.trans y.0 k x.0 q.1 p.0, O.trans x.0 k y.0 p.1 q.0) at h

-- a list of pairs that ascends by the keeping of either features ascends by key, then record number
pub records-order : {K : Type 0} (O : Order K) (f : ℕ) (xs : List (K × ℕ)) → Ascending (pair_order O f) xs → Ascending (by_record O) xs
records-order O zero xs a = a
records-order O (suc n) [] a = tt
records-order O (suc n) (x ∷ xs) a =
    (all_map (λ y. by_key O y x ≡ false) (λ y. by_record O y x ≡ false) (λ y h. rw h) xs a.0, records-order O (suc n) xs a.1)

-- pairs are taken for the same only if they are, as for features 0
abbrev pub VeryPair : {K : Type 0} → Keeping K → Type 0
VeryPair {K} Q = (x y : K × ℕ) → Q.pair_le x y ≡ by_record Q.order x y

module _ {K : Type 0} (Q : Keeping K) (very : VeryPair Q) where
  pub ascending-records : (xs : List (K × ℕ)) → Ascending Q.pair_le xs → Ascending (by_record Q.order) xs
  ascending-records [] a = tt
  ascending-records (x ∷ xs) a =
      (all_map (λ y. Q.pair_le y x ≡ false) (λ y. by_record Q.order y x ≡ false) (λ y h. sym (very y x) ∙ h) xs a.0, ascending-records xs a.1)

  pub has_very : (e : K × ℕ) (xs : List (K × ℕ)) → has Q.pair_le e xs ≡ has (by_record Q.order) e xs
  has_very e [] = refl
  has_very e (x ∷ xs) = rw (very e x, very x e, has_very e xs)
