-- Laws: after a removal left and right name the neighbours on every level again, whatever the route. Cited by the laws of sound indexes. Assumes nothing.
use Rattle.std.specs.Prelude.{◌≡◌, ℕ, suc, ◌≤◌, ◌<◌}
use Rattle.std.proofs.Common.{arith}
use Rattle.tree.specs.Lists.{occ}
use Rattle.tree.specs.Tree.{Tree, pages, level, level_under}
use Rattle.tree.specs.Clauses.{Links, AllLinked}
use Rattle.tree.proofs.Insertion.Pages.{Distinct}
use Rattle.tree.proofs.Insertion.Levels.{level_under-pages, level_under-disjoint}
use Rattle.tree.specs.Keeping.{Route}
use Rattle.tree.specs.Removal.{remove, emptied}
use Rattle.tree.proofs.Removal.Pages.{remove-pages}
use Rattle.tree.proofs.Removal.Levels.{page_on_level, remove-level}
use Rattle.tree.specs.Unlinking.{unlink_all, without_all}
use Rattle.tree.proofs.AwayLaws.{Away, Clear, away_rows, clear-rows}
use Rattle.tree.proofs.UnlinkLaws.{Rows, OnRow, rows-unlink_all}

-- `a` is any key, which stands above the root t to make it an entry
module _ {K : Type 0} (route : Route K) (none : ℕ) (a : K) (h : ℕ) (t : Tree K h) (once : Distinct (pages h t))
    (proper : occ none (pages h t) ≡ 0) where
  -- no page stands on a level twice, or on two levels
  level-rows : (l : Links) → AllLinked none l h t → Rows none h l (λ j. level j h t)
  level-rows l c = record {
    linked = c;
    distinct = λ j z. omega (arith, once z, level_under-pages z j (suc h) (a, t));
    disjoint = λ z i j ne. omega (arith, once z, level_under-disjoint z i j (suc h) (a, t) ne);
    proper = λ j. omega (arith, proper, level_under-pages none j (suc h) (a, t));
  }

  -- each emptied page is on a level
  emptied_on_row : (z : ℕ) → 0 < occ z (emptied route h t) → OnRow h (λ j. level j h t) z
  emptied_on_row z i =
      let w : (m : ℕ) × (m < suc h) × (0 < occ z (level_under m (suc h) (a, t))) =
      page_on_level z (suc h) (a, t) (omega (arith, remove-pages route z h t)) in
      (w.0, omega (arith, w.1), w.2)

  -- Theorem: all levels are linked after a removal
  pub remove-all-linked : (l : Links) → AllLinked none l h t →
      AllLinked none (unlink_all (emptied route h t) l) (remove route h t).0 (remove route h t).1
  remove-all-linked l c j lj =
      let rows : Rows none h (unlink_all (emptied route h t) l) (λ m. without_all (emptied route h t) (level m h t)) =
      rows-unlink_all none h (emptied route h t) l (λ m. level m h t) (λ z. omega (arith, once z, remove-pages route z h t)) emptied_on_row
      (level-rows l c) in
      let w : (m : ℕ) × (m ≤ h) × (level j (remove route h t).0 (remove route h t).1 ≡ without_all (emptied route h t) (level m h t)) =
      remove-level route h t once j lj in
      rw w.2 (rows.linked w.0 w.1)

  -- Theorem: a page outside the tree is no neighbour of an emptied page at the time that it is unlinked, nor is a page emptied before
  pub remove_away : (l : Links) → AllLinked none l h t → (z : ℕ) → (z ≡ none → ⊥) → occ z (pages h t) ≡ 0 → Away z l (emptied route h t)
  remove_away l c z n o =
      away_rows none h z n (emptied route h t) l (λ j. level j h t) (λ x. omega (arith, once x, remove-pages route x h t)) emptied_on_row (level-rows l c)
      (λ j. omega (arith, o, level_under-pages z j (suc h) (a, t)))

  pub remove-clear : (l : Links) → AllLinked none l h t → Clear l (emptied route h t)
  remove-clear l c =
      clear-rows none h (emptied route h t) l (λ j. level j h t) (λ x. omega (arith, once x, remove-pages route x h t)) emptied_on_row (level-rows l c)
