-- Laws: the order of pairs by key, then record number, is total, and no other than that of keys. Cited by the keeping of features 0 and by the laws of all
-- records of a key. Assumes nothing.
use Rattle.std.specs.Prelude.{◌≡◌, refl, true, false, ℕ, ◌≤◌, leb}
use Rattle.std.proofs.Common.{arith, leb-true, leb-false, le-leb}
use Rattle.basis.specs.Tests.{either, contra}
use Rattle.tree.specs.Order.{Order, Le}
use Rattle.tree.specs.Pairs.{by_record}

module _ {K : Type 0} (O : Order K) where
  by_record_intro : (x y : K × ℕ) → Le O x.0 y.0 → (Le O y.0 x.0 → x.1 ≤ y.1) → by_record O x y ≡ true
  by_record_intro x y p q = either (O.le y.0 x.0) (λ e. rw (p, e) (le-leb x.1 y.1 (q e))) (λ e. rw (p, e))

  pub by_record-key : (x y : K × ℕ) → by_record O x y ≡ true → Le O x.0 y.0
  by_record-key x y h = either (O.le x.0 y.0) (λ e. e) (λ e. contra (rw e at h) refl)

  by_record_record : (x y : K × ℕ) → by_record O x y ≡ true → Le O y.0 x.0 → x.1 ≤ y.1
  by_record_record x y h e = leb-true x.1 y.1 (rw (by_record-key x y h, e) at h)

  pub by_record-trans : (x y z : K × ℕ) → by_record O x y ≡ true → by_record O y z ≡ true → by_record O x z ≡ true
  by_record-trans x y z p q =
      let xy : Le O x.0 y.0 = by_record-key x y p in
      let yz : Le O y.0 z.0 = by_record-key y z q in
      by_record_intro x z (O.trans x.0 y.0 z.0 xy yz) (λ zx. omega (
        arith,
        by_record_record x y p (O.trans y.0 z.0 x.0 yz zx),
        by_record_record y z q (O.trans z.0 x.0 y.0 zx xy),
      ))

  pub by_record-total : (x y : K × ℕ) → by_record O x y ≡ false → by_record O y x ≡ true
  by_record-total x y h = by_record_intro y x
      (either (O.le y.0 x.0) (λ e. e) (λ e. contra (by_record_intro x y (O.total y.0 x.0 e) (λ u. contra u e)) h))
      (λ xy. either (leb x.1 y.1)
      (λ e. contra (by_record_intro x y xy (λ u. leb-true x.1 y.1 e)) h)
      (λ e. omega (arith, leb-false x.1 y.1 e)))

  -- Theorem: two pairs that are each at or below the other are the same
  pub by_record-same : (x y : K × ℕ) → by_record O x y ≡ true → by_record O y x ≡ true → x ≡ y
  by_record-same x y p q =
      let k : x.0 ≡ y.0 = O.antisym x.0 y.0 (by_record-key x y p) (by_record-key y x q) in
      let r : x.1 ≡ y.1 = omega (arith, by_record_record x y p (by_record-key y x q), by_record_record y x q (by_record-key x y p)) in
      λ i. (k i, r i)

  pub by_record-below : (x y z : K × ℕ) → by_record O y x ≡ false → by_record O y z ≡ true → by_record O z x ≡ false
  by_record-below x y z p q = either (by_record O z x) (λ e. contra (by_record-trans y z x q e) p) (λ e. e)
