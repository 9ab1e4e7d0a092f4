-- Laws: on an index of good shape, the audit's second pass accepts exactly the keys above pages that are ceilings. Cited by the law of what the audit accepts,
-- and by the laws of the match, which goes along the leaves. Assumes nothing.
use Prim.Native.Nat.{ℕ, zero, suc, ◌-◌, ◌%◌, ◌≤◌, ◌<◌}
use Rattle.std.specs.Prelude.{◌≡◌, Bool, cond, ◌&&◌, ◌↔◌, length}
use Rattle.std.proofs.Math.Path.{refl, ap}
use Rattle.std.proofs.Common.{◌∙◌, arith, length-append}
use mathlib.Core.List.{List, [], ◌∷◌, ◌++◌}
use Rattle.std.proofs.Math.Bool.{true}
use Rattle.basis.specs.Lists.{All, all_append, all_left, all_right, all_map}
use Rattle.basis.specs.Tests.{both}
use Rattle.tree.specs.Lists.{NonEmpty}
use Rattle.tree.proofs.ListLaws.{all_unit, all_map2}
use Rattle.tree.specs.Pairs.{Ascending}
use Rattle.tree.specs.Tree.{Tree, pairs_under, pairs}
use Rattle.tree.specs.Clauses.{Ceilings, head_or}
use Rattle.tree.specs.Keeping.{pair_order}
use Rattle.tree.proofs.PairLaws.{ascending-parts}
use Rattle.tree.specs.Store.{read_entry, read_tree}
use Rattle.tree.proofs.Levels.{all_of_map, all-to_map, all_of_concat, all-to_concat, numbers, read_all, below, generation, reached, generations_reached}
use Rattle.idx_page.specs.Header.{max_bytes, max_levels, page_size, no_page, is_page, features}
use Rattle.idx_page.specs.Page.{capacity}
use Rattle.idx_page.specs.KeyOrder.{bytes_order}
use Rattle.idx_page.specs.Reading.{entries_at}
use Rattle.idx_page.specs.Children.{first_child}
use Rattle.idx_sound.specs.Sound.{kept_by}
use Rattle.idx_sound.specs.AuditTest.{Entries, max_pages, chain, height_of, upper_entries, upper_pages, upper_levels, keys_under_good, down}
use Rattle.idx_sound.proofs.CeilingLaws.{onward-good, went_on, onward-same, Full, full-some, full-children, PageCeilings, entries-ceilings}
use Rattle.idx_sound.proofs.CeilingLaws.{OwnLast, own-page, SameLast, same-last, entries-same}
use Rattle.idx_sound.proofs.LevelLaws.{chain_is, next-head}
use Rattle.idx_sound.proofs.ShapeLaws.{root_entry, level_pages, Shape, least-one, levels-inside, levels-counts, entries-filled, tree-sized}
use Rattle.idx_sound.proofs.DistinctLaws.{heights, level-leaves, once-few}

module _ (b : List ℕ) (k size : ℕ) (most : size ≤ max_bytes) where
  abbrev S : ℕ → Entries
  S = entries_at k size b

  -- the levels under the pages that the entries es name, h levels in all, are read back along their right links
  abbrev Chained : ℕ → Entries → Type 0
  Chained h es = (i : ℕ) → i < h → chain b size max_pages (head_or no_page (numbers (generation S i es))) ≡ numbers (generation S i es)

  module _ (cap : ℕ) where
    -- the tree under the page that an entry names, which has h levels under it
    abbrev under : (h : ℕ) → List ℕ × ℕ → Tree (List ℕ) h
    under h e = read_tree S h e.1

    abbrev Ascends : ℕ → List ℕ × ℕ → Type 0
    Ascends h e = Ascending (pair_order bytes_order (features b)) (pairs h (under h e))

    -- the pages of one level
    pages-ceilings : (h : ℕ) (x : Bool) (es : Entries) → All (Full b k size cap (suc h)) es → All (Ascends (suc h)) es
        → ((upper_pages b k size h h x (numbers es)).good ≡ true) ↔ All (λ e. PageCeilings b k size h (S e.1)) es
    unfolding upper_pages
    pages-ceilings h x [] d a = ((λ g. tt), (λ c. refl))
    pages-ceilings h x (e ∷ es) d a =
        let page = upper_entries b k size h h true (S e.1) in
        let here = entries-ceilings b k size cap h true (S e.1) (full-children b k size cap h e d.0) a.0 in
        let rest = pages-ceilings h (x && page.exact) es d.1 a.1 in (
          (λ g. let t = went_on page _ g in (here.0 t.0, rest.0 (rw t.1 at g))),
          (λ c. rw (onward-good page _ (here.1 c.0)) (rest.1 c.1)),
        )

    -- those that are exact
    pages-own : (h : ℕ) (x : Bool) (es : Entries) → All (λ e. NonEmpty (S e.1)) es → (upper_pages b k size h h x (numbers es)).good ≡ true
        → (upper_pages b k size h h x (numbers es)).exact ≡ true → (x ≡ true) × All (OwnLast b k size (suc h)) es
    unfolding upper_pages
    pages-own h x [] s g u = (u, tt)
    pages-own h x (e ∷ es) s g u =
        let page = upper_entries b k size h h true (S e.1) in
        let t = went_on page _ g in
        let rest = pages-own h (x && page.exact) es s.1 (rw t.1 at g) (rw t.1 at u) in
        let all = both x page.exact rest.0 in
        (all.0, (own-page b k size h e true s.0 t.0 all.1, rest.1))

    -- the test that takes d steps, if these are as good as h
    pages-same : (d h : ℕ) (x : Bool) (es : Entries) → All (SameLast b k size d h) (below S es)
        → upper_pages b k size d h x (numbers es) ≡ upper_pages b k size h h x (numbers es)
    unfolding upper_pages
    pages-same d h x [] s = refl
    pages-same d h x (e ∷ es) s =
        rw (entries-same b k size d h true (S e.1) (all_left (SameLast b k size d h) (S e.1) (below S es) s))
        (onward-same _ _ _ (λ y. pages-same d h (x && y) es (all_right (SameLast b k size d h) (S e.1) (below S es) s)))

    -- what holds of the pages that es name holds of their children
    full-below : (h : ℕ) (es : Entries) → All (Full b k size cap (suc h)) es → All (Full b k size cap h) (below S es)
    full-below h es d =
        all-to_concat (Full b k size cap h) (λ e. S e.1) es
        (all_map (Full b k size cap (suc h)) (λ e. All (Full b k size cap h) (S e.1)) (full-children b k size cap h) es d)

    ascends-below : (h : ℕ) (es : Entries) → All (Ascends (suc h)) es → All (Ascends h) (below S es)
    ascends-below h es a =
        all-to_concat (Ascends h) (λ e. S e.1) es
        (all_map (Ascends (suc h)) (λ e. All (Ascends h) (S e.1))
        (λ e u. all_of_map (λ x. Ascending (pair_order bytes_order (features b)) (pairs_under (suc h) x)) (read_entry S (suc h)) (S e.1)
        (ascending-parts (pair_order bytes_order (features b)) (pairs_under (suc h)) (read_all S (suc h) (S e.1)) u)) es a)

    -- the clause on a tree: its root's entries, and the trees under them
    abbrev Lower : ℕ → List ℕ × ℕ → Type 0
    Lower h e = All (λ f. Ceilings (kept_by b) h (under h f)) (S e.1)

    ceilings-join : (h : ℕ) (e : List ℕ × ℕ) → PageCeilings b k size h (S e.1) → Lower h e → Ceilings (kept_by b) (suc h) (under (suc h) e)
    ceilings-join h e c d = (c.0, c.1, all-to_map (λ x. Ceilings (kept_by b) h x.1) (read_entry S (suc h)) (S e.1) d)

    ceilings-lower : (h : ℕ) (e : List ℕ × ℕ) → Ceilings (kept_by b) (suc h) (under (suc h) e) → Lower h e
    ceilings-lower h e c = all_of_map (λ x. Ceilings (kept_by b) h x.1) (read_entry S (suc h)) (S e.1) c.2

    -- the levels, of which the last may be exact
    levels-ceilings : (h : ℕ) (es : Entries) (first : ℕ) → NonEmpty es → first ≡ head_or no_page (numbers es) → Chained h es
        → (0 < h → All (Full b k size cap h) es) → All (Ascends h) es
        → (((upper_levels b k size h first).good ≡ true) ↔ All (λ e. Ceilings (kept_by b) h (under h e)) es)
        × ((upper_levels b k size h first).good ≡ true → (upper_levels b k size h first).exact ≡ true → All (OwnLast b k size h) es)
    unfolding upper_levels down
    levels-ceilings zero es first some e chained full ascends =
        (((λ g. all_unit es), (λ c. refl)), (λ g u. all_map (λ e. Unit {0}) (OwnLast b k size zero) (λ e u. refl) es (all_unit es)))
    levels-ceilings (suc h) es first some e chained full ascends =
        let d = full (omega arith) in
        let filled = all_map (Full b k size cap (suc h)) (λ e. NonEmpty (S e.1)) (full-some b k size cap (suc h)) es d in
        let next = next-head b k size most es first some e filled in
        let here = pages-ceilings h true es d ascends in
        let lower = upper_levels b k size h (first_child b k size first) in
        let rest = levels-ceilings h (below S es) (first_child b k size first) next.1 next.0 (λ i l. chained (suc i) (omega arith))
        (λ l. full-below h es d) (ascends-below h es ascends) in
        let along : chain b size max_pages first ≡ numbers es = ap (chain b size max_pages) e ∙ chained 0 (omega arith) in
        let is : lower.good ≡ true → upper_levels b k size (suc h) first ≡ upper_pages b k size h h true (numbers es) =
        λ g. onward-good lower _ g
        ∙ rw along (pages-same (cond lower.exact 0 h) h true es (same-last b k size h lower.exact (below S es) (rest.1 g))) in (
          (
            (λ g.
                let t = (went_on lower _ g).0 in
                all_map2 (λ e. PageCeilings b k size h (S e.1)) (Lower h) (λ e. Ceilings (kept_by b) (suc h) (under (suc h) e)) (ceilings-join h) es
                (here.0 (rw (is t) at g))
                (all_of_concat (λ f. Ceilings (kept_by b) h (under h f)) (λ e. S e.1) es (rest.0.0 t))),
            (λ c.
                let pages = all_map (λ e. Ceilings (kept_by b) (suc h) (under (suc h) e)) (λ e. PageCeilings b k size h (S e.1)) (λ e u. (u.0, u.1)) es c in
                let each = all_map (λ e. Ceilings (kept_by b) (suc h) (under (suc h) e)) (Lower h) (ceilings-lower h) es c in
                rw (is (rest.0.1 (all-to_concat (λ f. Ceilings (kept_by b) h (under h f)) (λ e. S e.1) es each))) (here.1 pages)),
          ),
          (λ g u. let t = is (went_on lower _ g).0 in (pages-own h true es filled (rw t at g) (rw t at u)).1),
        )

  -- a level has at most as many pages as the tree
  level-few : (h i : ℕ) (es : Entries) → i < h → length (numbers (generation S i es)) ≤ length (reached S h es)
  level-few zero i es l = absurd (omega arith)
  level-few (suc h) zero es l = omega (arith, length-append (numbers es) (reached S h (below S es)))
  level-few (suc h) (suc i) es l =
      omega (arith, length-append (numbers es) (reached S h (below S es)), level-few h i (below S es) (omega arith))

-- an index of good shape
module _ (b : List ℕ) (k size root : ℕ) (whole : size % page_size ≡ 0) (most : size ≤ max_bytes) (s : Shape b k size root) where
  abbrev C : ℕ → Entries
  C = entries_at k size b

  abbrev h : ℕ
  h = s.height

  abbrev E : ℕ → Entries
  E i = generation (entries_at k size b) i (root_entry root)

  filled : (i : ℕ) → i ≤ h → 0 < h → All (λ e. NonEmpty (C e.1)) (E i)
  filled = entries-filled b k size root h (levels-inside b k size root h s.levels) (levels-counts b k size root h s.levels)

  pub height-is : height_of b k size (max_levels - 1) root ≡ s.height
  height-is =
      let few = s.few in
      (heights b k size (max_levels - 1) h (root_entry root) (omega arith) (level-leaves b k size root most h s.levels)
      (λ i l. filled i (omega arith) (omega arith))).0

  -- each level is read back along its right links
  pub level-chain : (i : ℕ) → i ≤ s.height → chain b size max_pages (head_or no_page (level_pages b k size root i)) ≡ level_pages b k size root i
  level-chain i l =
      let all = reached C (suc h) (root_entry root) in
      let in_all = generations_reached C (λ p. is_page size p ≡ true) (suc h) (root_entry root)
      (λ i l. levels-inside b k size root h s.levels i (omega arith)) in
      let in_file = all_append (λ p. is_page size p ≡ true) all s.free in_all s.free_inside in
      let few = once-few size (all ++ s.free) whole in_file s.once in
      let sum = length-append all s.free in
      let here = level-few b k size most (suc h) i (root_entry root) (omega arith) in
      chain_is b k size most max_pages no_page (level_pages b k size root i) (omega arith) (levels-inside b k size root h s.levels i l) (s.levels i l).linked

  chained : Chained b k size most h (root_entry root)
  chained i l = level-chain i (omega arith)

  full-root : 0 < h → Full b k size (capacity k) h ([], root)
  full-root positive =
      let z = tree-sized b k size root h (levels-inside b k size root h s.levels) (levels-counts b k size root h s.levels) in
      let one = least-one h positive in
      let some = z.0 in
      (omega arith, z.1, z.2)

  -- Theorem: if the leaf keys ascend, the second pass accepts exactly the keys above pages that are ceilings
  pub keys-ceilings : Ascending (pair_order bytes_order (features b)) (pairs s.height (read_tree (entries_at k size b) s.height root))
      → (keys_under_good b k size s.height root ≡ true) ↔ Ceilings (kept_by b) s.height (read_tree (entries_at k size b) s.height root)
  keys-ceilings ascending =
      let levels = (levels-ceilings b k size most (capacity k) h (root_entry root) root tt refl chained (λ l. (full-root l, tt)) (ascending, tt)).0 in
      ((λ g. (levels.0 g).0), (λ c. levels.1 (c, tt)))
