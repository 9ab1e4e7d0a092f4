-- Laws: the bits of the attributes after the lowest m pages of a path were split. Cited by the law that an insertion keeps an index sound. Assumes nothing.
use Rattle.std.specs.Prelude.{◌≡◌, refl, false, ℕ, zero, suc, ◌-◌, ◌%◌, ◌≤◌, ◌<◌, leb, eqb}
use Rattle.std.proofs.Common.{sym, ap, ◌∙◌, arith, leb-true, leb-false, le-leb, eqb-true, eq-eqb, ne_eqb}
use Rattle.std.proofs.lemmas.Bool.{lt-leb, eqb-false}
use Rattle.basis.specs.Tests.{either}
use Rattle.idx_page.specs.Page.{root_bit, leaf_bit}
use Rattle.idx_layout.specs.Layout.{without_root}
use Rattle.idx_insert_laws.specs.InsertionHeads.{unrooted}

less : (j m : ℕ) → j < suc m → (j ≡ m → ⊥) → j < m
less j m l n = omega (arith, n)

leaf-kept : (x : ℕ) → leaf_bit (without_root x) ≡ leaf_bit x
leaf-kept x = either (leb 2 x)
    (λ e. let h = leb-true 2 x e in le-leb 2 (x - x % 2) (omega arith) ∙ sym e)
    (λ e. let h = leb-false 2 x e in lt-leb 2 (x - x % 2) (omega arith) ∙ sym e)

root-gone : (x : ℕ) → root_bit (without_root x) ≡ false
root-gone x = ne_eqb ((x - x % 2) % 2) 1 (λ e. omega arith)

module _ (path name : ℕ → ℕ) (A : ℕ → ℕ) where
  -- an old page keeps its leaf bit; a new page has the leaf bit of the page that was split
  pub leaf-old : (m z : ℕ) → ((j : ℕ) → j < m → z ≡ name j → ⊥) → leaf_bit (unrooted path name m A z) ≡ leaf_bit (A z)
  leaf-old zero z n = refl
  leaf-old (suc m) z n =
      rw (ne_eqb z (name m) (n m (omega arith)))
      (either (eqb z (path m))
      (λ e. rw (e, leaf-kept (unrooted path name m A (path m)), ← eqb-true z (path m) e) (leaf-old m z (λ j l. n j (omega arith))))
      (λ e. rw e (leaf-old m z (λ j l. n j (omega arith)))))

  pub leaf-new : ((i j : ℕ) → name i ≡ name j → i ≡ j) → (m : ℕ) → ((i j : ℕ) → i < m → path i ≡ name j → ⊥) → (j : ℕ) → j < m
      → leaf_bit (unrooted path name m A (name j)) ≡ leaf_bit (A (path j))
  leaf-new inj zero apart j l = absurd (omega arith)
  leaf-new inj (suc m) apart j l = either (eqb j m)
      (λ e. let q : j ≡ m = eqb-true j m e in
      rw (q, eq-eqb (name m) (name m) refl, leaf-kept (unrooted path name m A (path m))) (leaf-old m (path m) (λ i o. apart m i (omega arith))))
      (λ e. let q : j ≡ m → ⊥ = eqb-false j m e in
      rw (ne_eqb (name j) (name m) (λ o. q (inj j m o)), ne_eqb (name j) (path m) (λ o. apart m j (omega arith) (sym o)))
      (leaf-new inj m (λ i i' o. apart i i' (omega arith)) j (omega (arith, q))))

  -- neither half of a page that was split has the root bit; all other pages keep theirs
  pub root_none : (m z : ℕ) → root_bit (A z) ≡ false → root_bit (unrooted path name m A z) ≡ false
  root_none zero z e = e
  root_none (suc m) z e = either (eqb z (name m))
      (λ o. rw o (root-gone (unrooted path name m A (path m))))
      (λ o. either (eqb z (path m)) (λ u. rw (o, u) (root-gone (unrooted path name m A (path m)))) (λ u. rw (o, u) (root_none m z e)))

  root-half : (f : ℕ → ℕ) → ((m : ℕ) → eqb (f m) (name m) ≡ false → eqb (f m) (path m) ≡ false → ⊥) → (m j : ℕ) → j < m
      → root_bit (unrooted path name m A (f j)) ≡ false
  root-half f half zero j l = absurd (omega arith)
  root-half f half (suc m) j l = either (eqb (f j) (name m))
      (λ o. rw o (root-gone (unrooted path name m A (path m))))
      (λ o. either (eqb (f j) (path m))
      (λ u. rw (o, u) (root-gone (unrooted path name m A (path m))))
      (λ u. rw (o, u) (root-half f half m j (less j m l (λ q. half m (rw q at o) (rw q at u))))))

  pub root-new : (m j : ℕ) → j < m → root_bit (unrooted path name m A (name j)) ≡ false
  root-new = root-half name (λ m o u. eqb-false (name m) (name m) o refl)

  pub root-split : (m j : ℕ) → j < m → root_bit (unrooted path name m A (path j)) ≡ false
  root-split = root-half path (λ m o u. eqb-false (path m) (path m) u refl)

  pub unrooted-same : (m z : ℕ) → ((j : ℕ) → j < m → (z ≡ name j → ⊥) × (z ≡ path j → ⊥)) → unrooted path name m A z ≡ A z
  unrooted-same zero z n = refl
  unrooted-same (suc m) z n = rw (ne_eqb z (name m) (n m (omega arith)).0, ne_eqb z (path m) (n m (omega arith)).1)
      (unrooted-same m z (λ j l. n j (omega arith)))

  -- attributes stay 0 to 3
  pub small-old : (m : ℕ) → ((j : ℕ) → j < m → A (path j) ≤ 3) → (z : ℕ) → A z ≤ 3 → unrooted path name m A z ≤ 3
  small-old zero f z e = e
  small-old (suc m) f z e =
      let x : unrooted path name m A (path m) ≤ 3 = small-old m (λ j l. f j (omega arith)) (path m) (f m (omega arith)) in
      either (eqb z (name m))
      (λ o. rw o (omega arith))
      (λ o. either (eqb z (path m)) (λ u. rw (o, u) (omega arith)) (λ u. rw (o, u) (small-old m (λ j l. f j (omega arith)) z e)))

  pub small-new : (m : ℕ) → ((j : ℕ) → j < m → A (path j) ≤ 3) → (j : ℕ) → j < m → unrooted path name m A (name j) ≤ 3
  small-new zero f j l = absurd (omega arith)
  small-new (suc m) f j l =
      let x : unrooted path name m A (path m) ≤ 3 = small-old m (λ j l. f j (omega arith)) (path m) (f m (omega arith)) in
      either (eqb (name j) (name m))
      (λ o. rw o (omega arith))
      (λ o. either (eqb (name j) (path m)) (λ u. rw (o, u) (omega arith))
      (λ u. rw (o, u) (small-new m (λ j l. f j (omega arith)) j (less j m l (λ q. eqb-false (name j) (name m) o (ap name q))))))
