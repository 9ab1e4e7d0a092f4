-- Laws: an insertion takes as many new pages, and makes as many levels, as `needs` and `levels_after` say beforehand. Cited by the laws of sound indexes and of
-- links. Assumes nothing.
use Rattle.std.specs.Prelude.{◌≡◌, refl, cond, List, [], ◌∷◌, ℕ, zero, suc, ◌+◌, ◌≤◌, ◌<◌, length, leb, eqb}
use Rattle.std.proofs.Common.{arith, leb-true, leb-false, le-leb, eqb-true}
use Rattle.std.proofs.lemmas.Bool.{lt-leb, eqb-false}
use Rattle.basis.specs.Lists.{All}
use Rattle.basis.specs.Tests.{either}
use Rattle.tree.specs.Order.{larger}
use Rattle.tree.specs.Pairs.{last_key}
use Rattle.tree.specs.Position.{choose}
use Rattle.tree.specs.Tree.{Child, Entry, Tree}
use Rattle.tree.specs.Clauses.{SizedUnder, Sized}
use Rattle.tree.specs.Keeping.{Keeping}
use Rattle.tree.specs.Insertion.{Replacement, split_if_over, place, reroot, insert_under, insert_entries, insert}
use Rattle.tree.specs.Room.{extend_run, at_chosen, run_under, run, needs, levels_after}
use Rattle.tree.proofs.RouteLaws.{choose-all, replaced-length}

-- a replacement that came of a run of d full pages on the h levels below it, after n new pages: d more pages were taken, and the replacement has two entries
-- if the run has all h levels, else one
pub record Splits {K C : Type 0} (h d n : ℕ) (q : Replacement K C) : Type 0 where
  pub most : d ≤ h
  pub took : q.1 ≡ n + d
  pub two : d ≡ h → length q.0 ≡ 2
  pub single : d < h → length q.0 ≡ 1

-- a page of c entries, full or not, after an insertion below it
split_if_over-splits : {K C : Type 0} (cap : ℕ) (name : ℕ → ℕ) (a : K) (p h d n c : ℕ) (q : Replacement K C) → c ≤ cap → d ≤ h →
    q.1 ≡ n + d →
    (d ≡ h → length q.0 ≡ suc c) → (d < h → length q.0 ≡ c) → Splits (suc h) (extend_run cap h c d) n (split_if_over cap name a p q)
split_if_over-splits cap name a p h d n c q i j t f g = either (eqb d h)
    (λ e. let v : d ≡ h = eqb-true d h e in
    let u : length q.0 ≡ suc c = f v in
    either (leb cap c)
    (λ w. rw (e, w, lt-leb (length q.0) cap (omega (arith, leb-true cap c w)))
    (record { most = omega arith; took = omega arith; two = λ y. refl; single = λ y. absurd (omega arith) }))
    (λ w. rw (e, w, le-leb (length q.0) cap (omega (arith, leb-false cap c w)))
    (record { most = omega arith; took = omega arith; two = λ y. absurd (omega arith); single = λ y. refl })))
    (λ e. let v : d < h = omega (arith, eqb-false d h e) in
    let u : length q.0 ≡ c = g v in
    rw (e, le-leb (length q.0) cap (omega arith))
    (record { most = omega arith; took = omega arith; two = λ y. absurd (omega arith); single = λ y. refl }))

module _ {K : Type 0} (Q : Keeping K) (cap : ℕ) (name : ℕ → ℕ) (e : K × ℕ) where
  insert_entries-splits : (h : ℕ) →
      ((x : Entry K h) (n : ℕ) → SizedUnder cap h x → Splits h (run_under (Q.route e) cap h x) n (insert_under Q cap name e h x n)) →
      (a : K) (p : ℕ) (xs : List (Entry K h)) (n : ℕ) → 0 < length xs → length xs ≤ cap → All (SizedUnder cap h) xs →
      Splits (suc h) (extend_run cap h (length xs) (at_chosen (Q.route e h) 0 (run_under (Q.route e) cap h) xs)) n
      (split_if_over cap name a p (insert_entries Q cap name e h xs n))
  insert_entries-splits h ok a p [] n i j d = absurd (omega arith)
  insert_entries-splits h ok a p (x ∷ xs) n i j d =
      let y : Entry K h = choose (Q.route e h) x (x ∷ xs) in
      let q : Replacement K (Child K h) = insert_under Q cap name e h y n in
      let w : Replacement K (Child K h) = place (Q.route e h) (insert_under Q cap name e h) x (x ∷ xs) n in
      let c : Splits h (run_under (Q.route e) cap h y) n q = ok y n (choose-all (Q.route e h) (SizedUnder cap h) x x xs d) in
      let f : length w.0 ≡ length xs + length q.0 = replaced-length (Q.route e h) x x xs q.0 in
      split_if_over-splits cap name a p h (run_under (Q.route e) cap h y) n (suc (length xs)) w j c.most c.took
      (λ u. omega (arith, c.two u)) (λ u. omega (arith, c.single u))

  pub insert_under-splits : (h : ℕ) (x : Entry K h) (n : ℕ) → SizedUnder cap h x →
      Splits h (run_under (Q.route e) cap h x) n (insert_under Q cap name e h x n)
  insert_under-splits zero x n d = record {
    most = omega arith;
    took = omega arith;
    two = λ y. either (Q.pair_le e x) (λ u. rw u) (λ u. rw u);
    single = λ y. absurd (omega arith);
  }
  insert_under-splits (suc h) x n d =
      insert_entries-splits h (insert_under-splits h) (larger Q.order x.0 e.0) x.1.0 x.1.1 n d.0 d.1 d.2

  pub root-splits : (h : ℕ) (a : K) (t : Tree K h) → 0 < cap → Sized cap h t →
      Splits (suc h) (run (Q.route e) cap h t) 0 (split_if_over cap name a t.0 (insert_entries Q cap name e h t.1 0))
  root-splits zero a (p, []) pos d =
      split_if_over-splits cap name a p 0 0 0 0 (e ∷ [], 0) (omega arith) (omega arith) (omega arith) (λ u. refl)
      (λ u. absurd (omega arith))
  root-splits zero a (p, x ∷ xs) pos d = insert_entries-splits zero (insert_under-splits zero) a p (x ∷ xs) 0 (omega arith) d.1 d.2
  root-splits (suc h) a t pos d = insert_entries-splits (suc h) (insert_under-splits (suc h)) a t.0 t.1 0 d.0 d.1 d.2

  -- two entries get a new root, one does not
  reroot-splits : (h d : ℕ) (t : Tree K h) (q : Replacement K (Child K (suc h))) → Splits (suc h) d 0 q →
      ((reroot name h t q.0 q.1).2 ≡ cond (eqb d (suc h)) (suc d) d)
      × (suc (reroot name h t q.0 q.1).0 ≡ cond (eqb d (suc h)) (suc (suc h)) (suc h))
  reroot-splits h d t ([], n) c = either (eqb d (suc h))
      (λ e. absurd (omega (arith, c.two (eqb-true d (suc h) e))))
      (λ e. let b : ⊥ = omega (arith, c.single (omega (arith, eqb-false d (suc h) e))) in absurd b)
  reroot-splits h d t (x ∷ [], n) c = either (eqb d (suc h))
      (λ e. absurd (omega (arith, c.two (eqb-true d (suc h) e))))
      (λ e. rw e (omega arith, refl))
  reroot-splits h d t (x ∷ y ∷ ys, n) c = either (eqb d (suc h))
      (λ e. rw e (omega arith, refl))
      (λ e. let b : ⊥ = omega (arith, c.single (omega (arith, eqb-false d (suc h) e))) in absurd b)

  -- Theorem: the new pages and the levels
  pub insert-needs : (h : ℕ) (t : Tree K h) → 0 < cap → Sized cap h t →
      ((insert Q cap name e h t).2 ≡ needs (Q.route e) cap h t) × (suc (insert Q cap name e h t).0 ≡ levels_after (Q.route e) cap h t)
  insert-needs h t pos d =
      let q : Replacement K (Child K h) = insert_entries Q cap name e h t.1 0 in
      let w : Replacement K (Child K (suc h)) = split_if_over cap name (last_key e.0 q.0) t.0 q in
      reroot-splits h (run (Q.route e) cap h t) t w (root-splits h (last_key e.0 q.0) t pos d)
