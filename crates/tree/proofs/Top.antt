-- Laws: keys with one more above all, for a tree whose last children have no key above them (NDX, change request K13). Assumes nothing.
use Rattle.std.specs.Prelude.{◌≡◌, refl, Bool, true, false, List, [], ◌∷◌, map, ℕ}
use Rattle.std.proofs.Common.{ap, ◌∙◌}
use Rattle.std.proofs.Math.Option.{Option, none, some}
use Rattle.basis.specs.Tests.{either, contra}
use Rattle.tree.specs.Order.{Order}
use Rattle.tree.specs.Pairs.{find}
use Rattle.tree.specs.Tree.{Tree, lookup, pairs}
use Rattle.tree.proofs.KeepingOf.{distinct_keys}
use Rattle.tree.proofs.Ordered.{Ordered, lookup-find}

module _ {K : Type 0} (O : Order K) where
  -- `none` is above all
  abbrev pub top_le : Option K → Option K → Bool
  top_le a none = true
  top_le none (some b) = false
  top_le (some a) (some b) = O.le a b

  pub top-trans : (a b c : Option K) → top_le a b ≡ true → top_le b c ≡ true → top_le a c ≡ true
  top-trans a b none p q = refl
  top-trans a none (some c) p q = contra q refl
  top-trans none (some b) (some c) p q = contra p refl
  top-trans (some a) (some b) (some c) p q = O.trans a b c p q

  pub top-total : (a b : Option K) → top_le a b ≡ false → top_le b a ≡ true
  top-total a none e = contra refl e
  top-total none (some b) e = refl
  top-total (some a) (some b) e = O.total a b e

  pub top-antisym : (a b : Option K) → top_le a b ≡ true → top_le b a ≡ true → a ≡ b
  top-antisym none none p q = refl
  top-antisym (some a) none p q = contra q refl
  top-antisym none (some b) p q = contra p refl
  top-antisym (some a) (some b) p q = ap some (O.antisym a b p q)

  abbrev pub top : Order (Option K)
  top = record { le = top_le; trans = top-trans; total = top-total; antisym = top-antisym }

  -- a leaf pair under that order
  abbrev pub keyed : K × ℕ → Option K × ℕ
  keyed e = (some e.0, e.1)

  find-keyed : (k : K) (xs : List (K × ℕ)) → find top (some k) (map keyed xs) ≡ find O k xs
  find-keyed k [] = refl
  find-keyed k (x ∷ xs) = either (O.le k x.0) (λ e. rw e) (λ e. rw e (find-keyed k xs))

  -- Theorem: lookup in a tree whose last children have the key above all is lookup in the ascending list of its pairs
  pub top-lookup : (k : K) (h : ℕ) (t : Tree (Option K) h) (xs : List (K × ℕ)) → pairs h t ≡ map keyed xs → Ordered (distinct_keys top) h t →
      lookup top (some k) h t ≡ find O k xs
  top-lookup k h t xs e o = lookup-find (distinct_keys top) refl (some k) h t o ∙ (ap (find top (some k)) e ∙ find-keyed k xs)
