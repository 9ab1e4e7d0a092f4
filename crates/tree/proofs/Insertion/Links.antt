-- Laws: after an insertion left and right name the neighbours on every level again. Cited by the laws of sound indexes. Assumes nothing.
use Rattle.std.specs.Prelude.{◌≡◌, refl, List, [], ◌∷◌, ◌++◌, ℕ, zero, suc, ◌+◌, ◌≤◌, ◌<◌, ltb, eqb}
use Rattle.std.proofs.Common.{sym, ap, ◌∙◌, subst, arith, ltb-true, ltb-false, eqb-true, eq-eqb, ne_eqb}
use Rattle.std.proofs.lemmas.Bool.{eqb-false}
use Rattle.basis.specs.Tests.{either}
use Rattle.tree.specs.Lists.{occ}
use Rattle.tree.proofs.ListLaws.{occ_append, occ-head, occ_differ}
use Rattle.tree.specs.Tree.{Tree, pages, level}
use Rattle.tree.specs.Clauses.{Sized, Links, head_or, Linked, AllLinked}
use Rattle.tree.specs.Keeping.{Keeping}
use Rattle.tree.specs.Insertion.{Grown, insert}
use Rattle.tree.specs.Room.{run, needs, levels_after}
use Rattle.tree.specs.Relinking.{path_page, link_after, relink, clear_links, relinked}
use Rattle.tree.proofs.Insertion.Pages.{Distinct, Unused, Injective}
use Rattle.tree.proofs.Insertion.Needs.{root-splits, insert-needs}
use Rattle.tree.proofs.Insertion.Levels.{level_under-pages, level_under-disjoint, InsertedAfter, LevelGrown, insert-level}
use Rattle.tree.proofs.LinkLaws.{SameLinks, linked-same, head_or_differ, linked-right, link_after-keeps, linked_inserted_after}

module _ {K : Type 0} (Q : Keeping K) (cap : ℕ) (pos : 0 < cap) (name : ℕ → ℕ) (inj : Injective name) (none : ℕ)
    (real : (i : ℕ) → name i ≡ none → ⊥)
    (e : K × ℕ) (h : ℕ) (t : Tree K h) (sized : Sized cap h t) (once : Distinct (pages h t)) (unused : Unused name (pages h t))
    (proper : occ none (pages h t) ≡ 0) where
  abbrev old : ℕ → List ℕ
  old j = level j h t

  abbrev new : ℕ → List ℕ
  new j = level j (insert Q cap name e h t).0 (insert Q cap name e h t).1

  abbrev path : ℕ → ℕ
  path j = path_page (Q.route e) j h t

  -- the levels below m are linked anew, the others are as before
  abbrev Stage : ℕ → Links → Type 0
  Stage m l = (j : ℕ) → j ≤ h → (j < m → Linked none l none (new j)) × (m ≤ j → Linked none l none (old j))

  old-pages : (z j : ℕ) → occ z (old j) ≤ occ z (pages h t)
  old-pages z j = level_under-pages z j (suc h) (e.0, t)

  old-disjoint : (z i j : ℕ) → (i ≡ j → ⊥) → occ z (old i) + occ z (old j) ≤ occ z (pages h t)
  old-disjoint z i j n = level_under-disjoint z i j (suc h) (e.0, t) n

  level-grown : (j : ℕ) → j ≤ h → LevelGrown name j (run (Q.route e) cap h t) 0 (path j) (old j) (new j)
  level-grown j l = insert-level Q cap name e h t j pos sized l

  inserted : (j : ℕ) → j ≤ h → j < run (Q.route e) cap h t → InsertedAfter (path j) (name j) (old j) (new j)
  inserted j l i = subst (λ (x : ℕ). InsertedAfter (path j) (name x) (old j) (new j)) (omega arith) ((level-grown j l).0 i)

  -- a page that is not on level m keeps its links when that level gets its new page
  outsider : (m : ℕ) (u : Links) → InsertedAfter (path m) (name m) (old m) (new m) → Linked none u none (old m) →
      (z : ℕ) → occ z (old m) ≡ 0 → (z ≡ none → ⊥) → (z ≡ name m → ⊥) → SameLinks u (link_after (path m) (name m) u) z
  outsider m u b c z o n w =
      let beyond : u.right (path m) ≡ head_or none b.post = linked-right none u (path m) none b.pre b.post (rw b.was at c) in
      let parts : (y : ℕ) → occ y (old m) ≡ occ y b.pre + occ y (path m ∷ b.post) =
      λ y. ap (occ y) b.was ∙ occ_append y b.pre (path m ∷ b.post) in
      link_after-keeps (path m) (name m) u z
      (occ_differ z (path m) (old m) o (omega (arith, parts (path m), occ-head (path m) b.post)))
      w
      (λ q. head_or_differ none z b.post (omega (arith, parts z)) n (q ∙ beyond))

  -- a page of an old level other than m, and one of a new level below m
  outsider-old : (j m : ℕ) → (j ≡ m → ⊥) → (u : Links) → InsertedAfter (path m) (name m) (old m) (new m) → Linked none u none (old m) →
      (z : ℕ) → 0 < occ z (old j) → SameLinks u (link_after (path m) (name m) u) z
  outsider-old j m ne u b c z i =
      outsider m u b c z (omega (arith, once z, old-disjoint z j m ne))
      (λ q. occ_differ none z (old j) (omega (arith, proper, old-pages none j)) i (sym q))
      (λ q. occ_differ (name m) z (old j) (omega (arith, unused m, old-pages (name m) j)) i (sym q))

  outsider-new : (j m : ℕ) → j < m → (u : Links) → InsertedAfter (path j) (name j) (old j) (new j) →
      InsertedAfter (path m) (name m) (old m) (new m) →
      Linked none u none (old m) → (z : ℕ) → 0 < occ z (new j) → SameLinks u (link_after (path m) (name m) u) z
  outsider-new j m lm u a b c z i = either (eqb z (name j))
      (λ e. let v : z ≡ name j = eqb-true z (name j) e in
      outsider m u b c z (rw v (omega (arith, unused j, old-pages (name j) m)))
      (λ q. real j (sym v ∙ q))
      (λ q. let d : j ≡ m = inj j m (sym v ∙ q) in omega arith))
      (λ e. let same : occ z (new j) ≡ occ z (old j) =
      ap (occ z) a.now ∙ (occ_append z a.pre (path j ∷ name j ∷ a.post)
      ∙ rw e (omega (arith, ap (occ z) a.was, occ_append z a.pre (path j ∷ a.post)))) in
      outsider-old j m (omega arith) u b c z (omega arith))

  -- one level more
  stage_step : (m : ℕ) (u : Links) → m ≤ h → m < run (Q.route e) cap h t → Stage m u → Stage (suc m) (link_after (path m) (name m) u)
  stage_step m u lh lr s j lj =
      let b : InsertedAfter (path m) (name m) (old m) (new m) = inserted m lh lr in
      let c : Linked none u none (old m) = (s m lh).1 (omega arith) in
      let same : (y : ℕ) → occ y (old m) ≡ occ y (b.pre ++ path m ∷ b.post) = λ y. ap (occ y) b.was in (
        (λ i. either (eqb j m)
            (λ e. rw (eqb-true j m e, b.now) (linked_inserted_after (path m) (name m) u none none b.pre b.post
            (λ z. omega (arith, same z, once z, old-pages z m))
            (omega (arith, same (name m), unused m, old-pages (name m) m))
            (omega (arith, same none, proper, old-pages none m))
            (rw b.was at c)))
            (λ e. let lm : j < m = omega (arith, eqb-false j m e) in
            linked-same none u (link_after (path m) (name m) u) none (new j)
            (outsider-new j m lm u (inserted j lj (omega arith)) b c) ((s j lj).0 lm))),
        (λ i. linked-same none u (link_after (path m) (name m) u) none (old j)
            (outsider-old j m (omega arith) u b c) ((s j lj).1 (omega arith))),
      )

  stages : (m : ℕ) (l : Links) → m ≤ suc h → m ≤ run (Q.route e) cap h t → AllLinked none l h t → Stage m (relink path name m l)
  stages zero l a b c = λ j lj. ((λ i. absurd (omega arith)), (λ i. c j lj))
  stages (suc m) l a b c = stage_step m (relink path name m l) (omega arith) (omega arith) (stages m l (omega arith) (omega arith) c)

  -- each level of the old tree is linked in the new one
  insert-linked : (l : Links) → AllLinked none l h t → (j : ℕ) → j ≤ h → Linked none (relink path name (run (Q.route e) cap h t) l) none (new j)
  insert-linked l c j lj =
      let d : ℕ = run (Q.route e) cap h t in
      let b : d ≤ suc h = (root-splits Q cap name e h e.0 t pos sized).most in
      let s : (j < d → Linked none (relink path name d l) none (new j)) × (d ≤ j → Linked none (relink path name d l) none (old j)) =
      stages d l b (omega arith) c j lj in
      either (ltb j d)
      (λ e. s.0 (ltb-true j d e))
      (λ e. rw ((level-grown j lj).1 (ltb-false j d e)) (s.1 (ltb-false j d e)))

  -- a new root is alone on its level
  level-root : (m : ℕ) (w : Tree K m) → level m m w ≡ w.0 ∷ []
  level-root m w = rw (eq-eqb m m refl)

  clear-linked : (g : Grown K) (u : Links) → Distinct (pages g.0 g.1) → g.0 ≡ suc h →
      ((j : ℕ) → j ≤ h → Linked none u none (level j g.0 g.1)) → AllLinked none (clear_links none g.1.0 u) g.0 g.1
  clear-linked g u d top c j l =
      let p : ℕ = g.1.0 in
      either (eqb j g.0)
      (λ f. rw f (rw (eq-eqb p p refl), rw (eq-eqb p p refl), tt))
      (λ f. linked-same none u (clear_links none p u) none (level j g.0 g.1)
      (λ z i. let ne : z ≡ p → ⊥ = λ q. occ_differ p z (level j g.0 g.1) (omega (
        arith,
        d p,
        level_under-disjoint p j g.0 (suc g.0) (e.0, g.1) (eqb-false j g.0 f),
        ap (occ p) (level-root g.0 g.1),
        occ-head p [],
      )) i (sym q) in
      (rw (ne_eqb z p ne), rw (ne_eqb z p ne)))
      (c j (omega (arith, eqb-false j g.0 f))))

  -- Theorem: all levels are linked after an insertion
  pub insert-all-linked : (l : Links) → Distinct (pages (insert Q cap name e h t).0 (insert Q cap name e h t).1) →
      AllLinked none l h t →
      AllLinked none (relinked (Q.route e) none name cap h t (insert Q cap name e h t) l) (insert Q cap name e h t).0
      (insert Q cap name e h t).1
  insert-all-linked l d c =
      let g : Grown K = insert Q cap name e h t in
      let needed : (g.2 ≡ needs (Q.route e) cap h t) × (suc g.0 ≡ levels_after (Q.route e) cap h t) = insert-needs Q cap name e h t pos sized in
      either (eqb g.0 h)
      (λ f. rw f (λ j i. insert-linked l c j (omega (arith, eqb-true g.0 h f))))
      (λ f. rw f (clear-linked g (relink path name (run (Q.route e) cap h t) l) d
      (either (eqb (run (Q.route e) cap h t) (suc h))
      (λ q. let v : suc g.0 ≡ suc (suc h) = rw q at needed.1 in omega arith)
      (λ q. let v : suc g.0 ≡ suc h = rw q at needed.1 in absurd (omega (arith, eqb-false g.0 h f))))
      (insert-linked l c)))
