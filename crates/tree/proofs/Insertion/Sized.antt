-- Laws: an insertion keeps the count of every page within capacity. Cited by the laws of sound indexes. Assumes nothing.
use Rattle.std.proofs.Common.{subst, arith, take-append-drop, length-take, length-drop, leb-true, leb-false}
use Rattle.std.specs.Prelude.{List, [], ◌∷◌, ◌++◌, ℕ, zero, suc, ◌≤◌, ◌<◌, length, take, drop, leb}
use Rattle.basis.specs.Lists.{All, all_append, all_left, all_right}
use Rattle.basis.specs.Tests.{either}
use Rattle.tree.specs.Order.{larger}
use Rattle.tree.specs.Pairs.{last_key}
use Rattle.tree.specs.Position.{Passes, choose}
use Rattle.tree.specs.Tree.{Page, Child, Entry, Tree}
use Rattle.tree.specs.Clauses.{least, SizedUnder, Sized}
use Rattle.tree.specs.Lists.{half}
use Rattle.tree.specs.Keeping.{Keeping}
use Rattle.tree.specs.Insertion.{Replacement, split_if_over, place, reroot, insert_under, insert_entries, insert}
use Rattle.tree.proofs.RouteLaws.{before, after, chosen_among, replaced-length}

-- a list of 1 to n members, each of which has S
abbrev OneTo : {A : Type 0} → (A → Type 0) → ℕ → List A → Type 0
OneTo S n l = All S l × (length l ≤ n) × (0 < length l)

module _ {K C : Type 0} (cap : ℕ) (S : K × C → Type 0) where
  abbrev pub SizedPage : K × Page K C → Type 0
  SizedPage x = (0 < length x.1.1) × (length x.1.1 ≤ cap) × All S x.1.1

  split_if_over-sized : 0 < cap → (name : ℕ → ℕ) (a : K) (p : ℕ) (q : Replacement K C) → OneTo S (suc cap) q.0 →
      OneTo SizedPage 2 (split_if_over cap name a p q).0
  split_if_over-sized pos name a p q u = either (leb (length q.0) cap)
      (λ f. rw f (((u.2, leb-true (length q.0) cap f, u.0), tt), omega arith, omega arith))
      (λ f. rw f (
      let m : ℕ = half (length q.0) in
      let l : cap < length q.0 = leb-false (length q.0) cap f in
      let d : All S (take m q.0 ++ drop m q.0) = rw (take-append-drop m q.0) u.0 in (
        (
          (simp length-take (omega arith), simp length-take (omega arith), all_left S (take m q.0) (drop m q.0) d),
          ((simp length-drop (omega arith), simp length-drop (omega arith), all_right S (take m q.0) (drop m q.0) d), tt),
        ),
        omega arith,
        omega arith,
      )))

-- one level of insertion, abstract in what lies below: at most one entry more
place-sized : {K C : Type 0} (passes : Passes (K × C)) (g : K × C → ℕ → Replacement K C) (S : K × C → Type 0) →
    ((x : K × C) (n : ℕ) → S x → OneTo S 2 (g x n).0) →
    (x : K × C) (xs : List (K × C)) (n : ℕ) → All S (x ∷ xs) → OneTo S (suc (suc (length xs))) (place passes g x (x ∷ xs) n).0
place-sized {K} {C} passes g S ok x xs n d =
    let y : K × C = choose passes x (x ∷ xs) in
    let front : List (K × C) = before passes (x ∷ xs) in
    let back : List (K × C) = after passes (x ∷ xs) in
    let w : All S (front ++ (y ∷ back)) = subst (All S) (chosen_among passes x x xs) d in
    let r : All S (y ∷ back) = all_right S front (y ∷ back) w in
    let f : OneTo S 2 (g y n).0 = ok y n r.0 in
    let l = replaced-length passes x x xs (g y n).0 in (
      all_append S front ((g y n).0 ++ back) (all_left S front (y ∷ back) w) (all_append S (g y n).0 back f.0 r.1),
      omega arith,
      omega arith,
    )

pub least-le : (h : ℕ) → least h ≤ 1
least-le zero = omega arith
least-le (suc h) = omega arith

module _ {K : Type 0} (Q : Keeping K) (cap : ℕ) (two : 1 < cap) (name : ℕ → ℕ) (e : K × ℕ) where
  insert_entries-sized : (h : ℕ) →
      ((x : Entry K h) (n : ℕ) → SizedUnder cap h x → OneTo (SizedUnder cap h) 2 (insert_under Q cap name e h x n).0) →
      (xs : List (Entry K h)) (n : ℕ) → 0 < length xs → All (SizedUnder cap h) xs →
      OneTo (SizedUnder cap h) (suc (length xs)) (insert_entries Q cap name e h xs n).0
  insert_entries-sized h ok [] n i d = absurd (omega arith)
  insert_entries-sized h ok (x ∷ xs) n i d = place-sized (Q.route e h) (insert_under Q cap name e h) (SizedUnder cap h) ok x xs n d

  insert_under-sized : (h : ℕ) (x : Entry K h) (n : ℕ) → SizedUnder cap h x → OneTo (SizedUnder cap h) 2 (insert_under Q cap name e h x n).0
  insert_under-sized zero x n d = either (Q.pair_le e x)
      (λ u. rw u ((tt, (tt, tt)), omega arith, omega arith))
      (λ u. rw u ((tt, (tt, tt)), omega arith, omega arith))
  insert_under-sized (suc h) x n d =
      let q : Replacement K (Child K h) = insert_entries Q cap name e h x.1.1 n in
      let f : OneTo (SizedUnder cap h) (suc (length x.1.1)) q.0 =
      insert_entries-sized h (insert_under-sized h) x.1.1 n d.0 d.2 in
      split_if_over-sized cap (SizedUnder cap h) (omega arith) name (larger Q.order x.0 e.0) x.1.0 q (f.0, omega arith, f.2)

  root-sized : (h : ℕ) (xs : List (Entry K h)) (n : ℕ) → least h ≤ length xs → All (SizedUnder cap h) xs →
      OneTo (SizedUnder cap h) (suc (length xs)) (insert_entries Q cap name e h xs n).0
  root-sized zero [] n i d = ((tt, tt), omega arith, omega arith)
  root-sized zero (x ∷ xs) n i d = insert_entries-sized zero (insert_under-sized zero) (x ∷ xs) n (omega arith) d
  root-sized (suc h) xs n i d = insert_entries-sized (suc h) (insert_under-sized (suc h)) xs n i d

  reroot-sized : (h : ℕ) (t : Tree K h) (xs : List (Entry K (suc h))) (n : ℕ) → OneTo (SizedUnder cap (suc h)) 2 xs →
      Sized cap (reroot name h t xs n).0 (reroot name h t xs n).1
  reroot-sized h t [] n c = absurd (omega arith)
  reroot-sized h t (x ∷ []) n c = (omega (arith, least-le h), c.0.0.1, c.0.0.2)
  reroot-sized h t (x ∷ y ∷ ys) n c = (omega arith, omega arith, c.0)

  -- Theorem: an insertion keeps counts within capacity, if that is 2 or more, since a new root has two entries
  pub insert-sized : (h : ℕ) (t : Tree K h) → Sized cap h t → Sized cap (insert Q cap name e h t).0 (insert Q cap name e h t).1
  insert-sized h t d =
      let q : Replacement K (Child K h) = insert_entries Q cap name e h t.1 0 in
      let z : Replacement K (Child K (suc h)) = split_if_over cap name (last_key e.0 q.0) t.0 q in
      let f : OneTo (SizedUnder cap h) (suc (length t.1)) q.0 = root-sized h t.1 0 d.0 d.2 in
      reroot-sized h t z.0 z.1
      (split_if_over-sized cap (SizedUnder cap h) (omega arith) name (last_key e.0 q.0) t.0 q (f.0, omega arith, f.2))
