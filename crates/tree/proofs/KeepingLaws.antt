-- Laws: ascending leaf pairs by their keeping: which keys may stand before them, whether they have a pair, and what lookup finds among them. Cited by the laws
-- of ordered trees and of sound indexes. Assumes nothing.
use Rattle.std.specs.Prelude.{◌≡◌, refl, true, false, ◌&&◌, List, [], ◌∷◌, ◌++◌, ℕ}
use Rattle.std.proofs.Common.{sym, ◌∙◌}
use Rattle.std.proofs.Math.Option.{none, some}
use Rattle.basis.specs.Lists.{All, all_map}
use Rattle.basis.specs.Tests.{either, contra, both, join}
use Rattle.tree.specs.Lists.{NonEmpty}
use Rattle.tree.specs.Order.{Le, Lt}
use Rattle.tree.proofs.OrderLaws.{le_refl, lt_le-trans}
use Rattle.tree.specs.Pairs.{first_key, last_key, find, get, has, present, insert_pair, remove_pair, Below, Ascending, AllAbove}
use Rattle.tree.proofs.PairLaws.{get-above, insert_pair-all, Absent}
use Rattle.tree.specs.Keeping.{Keeping, Before, Clear, ClearOf}

module _ {K : Type 0} (Q : Keeping K) where
  -- the order of pairs
  pub pair_refl : (x : K × ℕ) → Q.pair_le x x ≡ true
  pair_refl x = either (Q.pair_le x x) (λ e. e) (λ e. Q.pair_total x x e)

  pub before-le : (x y z : K × ℕ) → Before Q x y → Q.pair_le y z ≡ true → Before Q x z
  before-le x y z p q = either (Q.pair_le z x) (λ e. contra (Q.pair_trans y z x q e) p) (λ e. e)

  pub le-before : (x y z : K × ℕ) → Q.pair_le x y ≡ true → Before Q y z → Before Q x z
  le-before x y z p q = either (Q.pair_le z x) (λ e. contra (Q.pair_trans z x y e p) q) (λ e. e)

  pub before-key : (x y : K × ℕ) → Before Q x y → Le Q.order x.0 y.0
  before-key x y p = Q.pair_key x y (Q.pair_total y x p)

  -- what is below an entry is below all entries above it
  pub all-before : (x y : K × ℕ) → Q.pair_le x y ≡ true → (xs : List (K × ℕ)) → All (λ z. Before Q y z) xs → All (λ z. Before Q x z) xs
  all-before x y p xs v = all_map (λ z. Before Q y z) (λ z. Before Q x z) (λ z q. le-before x y z p q) xs v

  pub before_above : (e : K × ℕ) (xs : List (K × ℕ)) → All (λ z. Before Q e z) xs → AllAbove Q.pair_le e xs
  before_above e xs v =
      all_map (λ z. Before Q e z) (λ z. (Q.pair_le e z ≡ true) × (Q.pair_le z e ≡ false)) (λ z q. (Q.pair_total z e q, q)) xs v

  -- keys that may stand before leaf pairs
  pub clear_of_down : (a b : K) → Le Q.order a b → (xs : List (K × ℕ)) → ClearOf Q b xs → ClearOf Q a xs
  clear_of_down a b l xs v = all_map (λ z. Clear Q b z.0) (λ z. Clear Q a z.0) (λ z c. Q.clear-down a b z.0 l c) xs v

  pub clear_first : (a : K) (x : K × ℕ) (xs : List (K × ℕ)) → Clear Q a x.0 → All (λ z. Before Q x z) xs → ClearOf Q a (x ∷ xs)
  clear_first a x xs c v =
      (c, all_map (λ z. Before Q x z) (λ z. Clear Q a z.0) (λ z q. Q.clear_up a x.0 z.0 c (before-key x z q)) xs v)

  pub clear_between : (a b : K) (xs : List (K × ℕ)) → NonEmpty xs → ClearOf Q a xs → Below Q.order b xs → Le Q.order a b
  clear_between a b [] s v u = absurd s
  clear_between a b (x ∷ xs) s v u = Q.order.trans a x.0 b (Q.clear-le a x.0 v.0) u.0

  -- the last key of the first part may stand before all of the second
  pub ascending_across : (b : K) (xs ys : List (K × ℕ)) → NonEmpty xs → Ascending Q.pair_le (xs ++ ys) → ClearOf Q (last_key b xs) ys
  ascending_across b [] ys s a = absurd s
  ascending_across b (x ∷ []) ys s a =
      all_map (λ z. Before Q x z) (λ z. Clear Q x.0 z.0) (λ z q. Q.before-clear x z q) ys a.0
  ascending_across b (x ∷ y ∷ xs) ys s a = ascending_across x.0 (y ∷ xs) ys tt a.1

  -- the last key is at or above all, and what may stand before the first key may stand before all
  pub ascending-last : (b : K) (xs : List (K × ℕ)) → Ascending Q.pair_le xs → Below Q.order (last_key b xs) xs
  ascending-last b [] a = tt
  ascending-last b (x ∷ []) a = (le_refl Q.order x.0, tt)
  ascending-last b (x ∷ y ∷ ys) a =
      let u : Below Q.order (last_key y.0 ys) (y ∷ ys) = ascending-last x.0 (y ∷ ys) a.1 in
      (Q.order.trans x.0 y.0 (last_key y.0 ys) (before-key x y a.0.0) u.0, u)

  pub ascending-first : (a b : K) (xs : List (K × ℕ)) → NonEmpty xs → Ascending Q.pair_le xs → Clear Q a (first_key b xs) → ClearOf Q a xs
  ascending-first a b [] s c l = absurd s
  ascending-first a b (x ∷ xs) s c l = clear_first a x xs l c.0

  -- in an ascending list the first pair at or above the key decides what is found
  pub find-get : (k : K) (xs : List (K × ℕ)) → Ascending Q.pair_le xs → find Q.order k xs ≡ get Q.order k xs
  find-get k [] a = refl
  find-get k (x ∷ xs) a = either (Q.order.le k x.0)
      (λ e. either (Q.order.le x.0 k)
      (λ f. rw (e, f))
      (λ f. rw (e, f) (sym (get-above Q.order k xs
      (all_map (λ z. Before Q x z) (λ z. Lt Q.order k z.0) (λ z q. lt_le-trans Q.order k x.0 z.0 f (before-key x z q)) xs a.0)))))
      (λ e. rw e (find-get k xs a.1))

  -- a list above a pair does not have it; in an ascending list the first pair at or above an entry decides whether the list has it
  pub has_above : (e : K × ℕ) (xs : List (K × ℕ)) → All (λ z. Before Q e z) xs → has Q.pair_le e xs ≡ false
  has_above e [] v = refl
  has_above e (x ∷ xs) v = rw (Q.pair_total x e v.0, v.0) (has_above e xs v.1)

  pub present-has : (e : K × ℕ) (xs : List (K × ℕ)) → Ascending Q.pair_le xs → present Q.pair_le e xs ≡ has Q.pair_le e xs
  present-has e [] a = refl
  present-has e (x ∷ xs) a = either (Q.pair_le e x)
      (λ l. either (Q.pair_le x e) (λ f. rw (l, f)) (λ f. rw (l, f) (sym (has_above e xs (all-before e x l xs a.0)))))
      (λ l. rw l (present-has e xs a.1))

  -- an ascending list stays so with a pair that it does not have
  pub insert_pair-ascending : (e : K × ℕ) (xs : List (K × ℕ)) → Ascending Q.pair_le xs → Absent Q.pair_le e xs →
      Ascending Q.pair_le (insert_pair Q.pair_le e xs)
  insert_pair-ascending e [] a w = (tt, tt)
  insert_pair-ascending e (x ∷ xs) a w = either (Q.pair_le e x)
      (λ l. rw l ((w.0 l, all-before e x l xs a.0), a))
      (λ l. rw l (insert_pair-all Q.pair_le (λ z. Before Q x z) e xs l a.0, insert_pair-ascending e xs a.1 w.1))

  -- a pair that is put in is there
  pub has-inserted : (e : K × ℕ) (xs : List (K × ℕ)) → has Q.pair_le e (insert_pair Q.pair_le e xs) ≡ true
  has-inserted e [] = rw (pair_refl e)
  has-inserted e (x ∷ xs) = either (Q.pair_le e x) (λ l. rw (l, pair_refl e)) (λ l. rw (l, l) (has-inserted e xs))

  -- two pairs that a keeping takes for the same: each is at or below the other
  abbrev pub Same : K × ℕ → K × ℕ → Type 0
  Same x y = (Q.pair_le x y ≡ true) × (Q.pair_le y x ≡ true)

  -- a pair that is struck off an ascending list is not there any more, nor is one that is taken for the same
  pub has-removed : (e d : K × ℕ) (xs : List (K × ℕ)) → Same e d → Ascending Q.pair_le xs → has Q.pair_le d (remove_pair Q.pair_le e xs) ≡ false
  has-removed e d [] s a = refl
  has-removed e d (x ∷ xs) s a = either (Q.pair_le e x && Q.pair_le x e)
      (λ u. rw u (has_above d xs (all-before d x (Q.pair_trans d e x s.1 (both (Q.pair_le e x) (Q.pair_le x e) u).0) xs a.0)))
      (λ u. rw (u, differs x u) (has-removed e d xs s a.1))
    where
      differs : (z : K × ℕ) → (Q.pair_le e z && Q.pair_le z e) ≡ false → (Q.pair_le d z && Q.pair_le z d) ≡ false
      differs z u = either (Q.pair_le d z && Q.pair_le z d)
          (λ v. let w : (Q.pair_le d z ≡ true) × (Q.pair_le z d ≡ true) = both (Q.pair_le d z) (Q.pair_le z d) v in
          contra (join (Q.pair_le e z) (Q.pair_le z e) (Q.pair_trans e d z s.0 w.0) (Q.pair_trans z d e w.1 s.1)) u)
          (λ v. v)

-- if pairs go by their keys alone, as for features 1
abbrev pub KeyAlone : {K : Type 0} → Keeping K → Type 0
KeyAlone {K} Q = (x y : K × ℕ) → Q.pair_le x y ≡ Q.order.le x.0 y.0

module _ {K : Type 0} (Q : Keeping K) (alone : KeyAlone Q) where
  -- pairs with one key are taken for the same
  pub same_key : (k : K) (q r : ℕ) → Same Q (k, q) (k, r)
  same_key k q r = (alone (k, q) (k, r) ∙ le_refl Q.order k, alone (k, r) (k, q) ∙ le_refl Q.order k)

  -- a pair that is put in is found by its key
  pub find-inserted : (k : K) (r : ℕ) (xs : List (K × ℕ)) → find Q.order k (insert_pair Q.pair_le (k, r) xs) ≡ some r
  find-inserted k r [] = rw (le_refl Q.order k, le_refl Q.order k)
  find-inserted k r (x ∷ xs) = rw (alone (k, r) x) (either (Q.order.le k x.0)
      (λ e. rw (e, le_refl Q.order k, le_refl Q.order k))
      (λ e. rw (e, e) (find-inserted k r xs)))

  -- a key that no pair of a list has, whatever record number stands beside it, is not found
  pub has-get : (k : K) (r : ℕ) (xs : List (K × ℕ)) → has Q.pair_le (k, r) xs ≡ false → get Q.order k xs ≡ none
  has-get k r [] h = refl
  has-get k r (x ∷ xs) h = either (Q.order.le k x.0 && Q.order.le x.0 k)
      (λ s. contra refl (rw (alone (k, r) x, alone x (k, r), s) at h))
      (λ s. rw s (has-get k r xs (rw (alone (k, r) x, alone x (k, r), s) at h)))
