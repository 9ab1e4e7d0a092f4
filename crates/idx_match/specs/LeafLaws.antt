-- Laws: the entries that are read along the leaves of a sound index are its tree's. The proof of the match cites them. Assumes nothing.
use Rattle.std.specs.Prelude.{ℕ, zero, suc, ◌-◌, ◌≤◌, ◌<◌, ◌≡◌, refl, Bool, true, false}
use Rattle.std.proofs.Math.Path.{sym, ap}
use Rattle.std.proofs.Common.{◌∙◌, arith, eq-eqb, ne_eqb}
use mathlib.Core.List.{List, []}
use Rattle.std.proofs.Math.Dec.{eqb}
use Rattle.basis.specs.Lists.{All, all_map}
use Rattle.tree.specs.Lists.{NonEmpty, concat_map}
use Rattle.tree.proofs.ListLaws.{all_map2}
use Rattle.tree.specs.Clauses.{head_or}
use Rattle.tree.proofs.Levels.{numbers, below, generation, join_map, generation-below, all_of_map}
use Rattle.tree.proofs.Levels.{tree-pairs, level-generation, pages-generation}
use Rattle.idx_page.specs.Header.{max_bytes, max_levels, no_page, root_offset, file_size, key_length, is_page}
use Rattle.idx_page.specs.HeaderLaws.{good-header}
use Rattle.idx_page.specs.Page.{attribute_at, leaf_bit}
use Rattle.idx_page.specs.Reading.{entries_at}
use Rattle.idx_page.specs.Children.{is_leaf, first_child}
use Rattle.idx_sound.specs.Sound.{Sound, CountGood, leaf_pairs}
use Rattle.idx_sound.specs.AuditTest.{Entries, max_pages, chain}
use Rattle.idx_sound.proofs.LevelLaws.{next-head}
use Rattle.idx_sound.proofs.ShapeLaws.{root_entry, level_pages, entries-filled, sound_shape}
use Rattle.idx_sound.proofs.DistinctLaws.{head-all}
use Rattle.idx_sound.proofs.KeyLaws.{level-chain}
use Rattle.idx_match.specs.MatchTest.{first_leaf, leaf_entries}
use Rattle.idx_match.specs.StepLaws.{first-here, first-lower}

module _ (b : List ℕ) (k size : ℕ) (most : size ≤ max_bytes) where
  abbrev S : ℕ → Entries
  S = entries_at k size b

  -- a page above the leaves, which has a child
  abbrev Inner : List ℕ × ℕ → Type 0
  Inner e = (is_leaf b size e.1 ≡ false) × NonEmpty (entries_at k size b e.1)

  -- from the first page that the entries es name to the first of the leaves h levels under it
  first_is : (l h : ℕ) (es : Entries) (first : ℕ) → h ≤ l → NonEmpty es → first ≡ head_or no_page (numbers es)
      → ((i : ℕ) → i < h → All Inner (generation S i es)) → All (λ e. is_leaf b size e.1 ≡ true) (generation S h es)
      → first_leaf b k size l first ≡ head_or no_page (numbers (generation S h es))
  first_is l zero es first n some e above bottom = first-here b k size l first (rw e (head-all (λ p. is_leaf b size p ≡ true) es some bottom)) ∙ e
  first_is zero (suc h) es first n some e above bottom = absurd (omega arith)
  first_is (suc l) (suc h) es first n some e above bottom =
      let here = above 0 (omega arith) in
      let next = next-head b k size most es first some e (all_map Inner (λ e. NonEmpty (S e.1)) (λ e x. x.1) es here) in
      let inner = head-all (λ p. is_leaf b size p ≡ false) es some (all_map Inner (λ e. is_leaf b size e.1 ≡ false) (λ e x. x.0) es here) in
      first-lower b k size l first (rw e inner)
      ∙ first_is l h (below S es) (first_child b k size first) (omega arith) next.1 next.0 (λ i o. above (suc i) (omega arith)) bottom

module _ (b : List ℕ) (s : Sound b) where
  abbrev K : ℕ
  K = key_length b

  abbrev F : ℕ
  F = file_size b

  abbrev R : ℕ
  R = root_offset b

  abbrev B : ℕ → Entries
  B = entries_at (key_length b) (file_size b) b

  abbrev most : file_size b ≤ max_bytes
  most = (good-header b s.header).most

  -- the pages of each level: they are pages of the file, and leaves on the last level alone
  inside : (i : ℕ) → i ≤ s.height → All (λ p. is_page (file_size b) p ≡ true) (level_pages b K F R i)
  inside = pages-generation B [] R s.height (λ p. is_page (file_size b) p ≡ true) s.inside

  leaves : (i : ℕ) (leaf : Bool) → i ≤ s.height → eqb (s.height - i) 0 ≡ leaf → All (λ e. is_leaf b (file_size b) e.1 ≡ leaf) (generation B i (root_entry R))
  unfolding is_leaf
  leaves i leaf l e =
      all_of_map (λ p. is_leaf b (file_size b) p ≡ leaf) (λ e. e.1) (generation B i (root_entry R))
      (all_map2 (λ p. is_page (file_size b) p ≡ true) (λ p. leaf_bit (attribute_at b p) ≡ eqb (s.height - i) 0) (λ p. is_leaf b (file_size b) p ≡ leaf)
      (λ p o a. rw (o, a) e) (level_pages b K F R i) (inside i l)
      (level-generation B [] R s.height (λ j ps. All (λ p. leaf_bit (attribute_at b p) ≡ eqb j 0) ps) s.leaf_bits i l))

  inner : (i : ℕ) → i < s.height → All (Inner b (key_length b) (file_size b) most) (generation B i (root_entry R))
  inner i l =
      all_map2 (λ e. is_leaf b (file_size b) e.1 ≡ false) (λ e. NonEmpty (B e.1)) (Inner b (key_length b) (file_size b) most) (λ e x y. (x, y))
      (generation B i (root_entry R)) (leaves i false (omega arith) (ne_eqb (s.height - i) 0 (omega arith)))
      (entries-filled b K F R s.height inside (pages-generation B [] R s.height (CountGood b K s.height) s.counts) i (omega arith) (omega arith))

  first_leaf_lem : first_leaf b (key_length b) (file_size b) (max_levels - 1) (root_offset b) ≡ head_or no_page (level_pages b K F R s.height)
  first_leaf_lem =
      let few = s.levels in
      first_is b K F most (max_levels - 1) s.height (root_entry R) R (omega arith) tt refl inner
      (leaves s.height true (omega arith) (eq-eqb (s.height - s.height) 0 (omega arith)))

  -- the last level, along its right links
  leaves-chain : chain b (file_size b) max_pages (head_or no_page (level_pages b K F R s.height)) ≡ level_pages b K F R s.height
  leaves-chain = level-chain b K F R (good-header b s.header).whole most (sound_shape b s) s.height (omega arith)

  -- Theorem: the entries that are read along the leaves are the tree's
  pub leaf-entries : leaf_entries b ≡ leaf_pairs b s
  unfolding leaf_entries
  leaf-entries =
      let E = generation B s.height (root_entry R) in
      ap (λ (p : ℕ). concat_map B (chain b F max_pages p)) first_leaf_lem
      ∙ ap (concat_map B) leaves-chain
      ∙ join_map B B (λ e. e.1) E
      ∙ generation-below B s.height (root_entry R)
      ∙ sym (tree-pairs B [] R s.height)
