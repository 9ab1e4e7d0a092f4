-- Laws: the entries of a store level by level, from a list of entries down, and the levels, pairs and pages of the trees that are read there, and what holds at
-- every page. Cited by the laws of sound indexes. Assumes nothing.
use Rattle.std.specs.Prelude.{◌≡◌, refl, true, false, List, [], ◌∷◌, ◌++◌, map, ℕ, zero, suc, ◌+◌, ◌-◌, ◌≤◌, ◌<◌, length, eqb}
use Rattle.std.proofs.Common.{sym, ap, ◌∙◌, subst, append-nil, arith, eqb-true, eq-eqb}
use Rattle.std.proofs.lemmas.List.{length-map}
use Rattle.std.proofs.lemmas.Bool.{eqb-false}
use Rattle.basis.specs.Tests.{either}
use Rattle.basis.specs.Lists.{All, all_append, all_left, all_right, all_map}
use Rattle.tree.specs.Lists.{concat_map, occ}
use Rattle.tree.proofs.ListLaws.{all_unit, all_map2, concat_map_append, concat_map-single, concat_map-none, occ_append}
use Rattle.tree.specs.Clauses.{least, SizedUnder, Sized}
use Rattle.tree.specs.Tree.{Entry, pairs_under, pairs, pages_under, pages, level_under, level}
use Rattle.tree.specs.Store.{Store, read_entry, read_tree}
use Rattle.tree.proofs.Store.Laws.{map_read-zero}

-- lists
pub map-append : {A B : Type 0} (f : A → B) (xs ys : List A) → map f (xs ++ ys) ≡ map f xs ++ map f ys
map-append f [] ys = refl
map-append f (x ∷ xs) ys = ap (λ l. f x ∷ l) (map-append f xs ys)

pub all-to_map : {A B : Type 0} (P : B → Type 0) (f : A → B) (xs : List A) → All (λ x. P (f x)) xs → All P (map f xs)
all-to_map P f [] a = tt
all-to_map P f (x ∷ xs) a = (a.0, all-to_map P f xs a.1)

pub all_of_map : {A B : Type 0} (P : B → Type 0) (f : A → B) (xs : List A) → All P (map f xs) → All (λ x. P (f x)) xs
all_of_map P f [] a = tt
all_of_map P f (x ∷ xs) a = (a.0, all_of_map P f xs a.1)

pub all-to_concat : {A B : Type 0} (P : B → Type 0) (f : A → List B) (xs : List A) → All (λ x. All P (f x)) xs → All P (concat_map f xs)
all-to_concat P f [] a = tt
all-to_concat P f (x ∷ xs) a = all_append P (f x) (concat_map f xs) a.0 (all-to_concat P f xs a.1)

pub all_of_concat : {A B : Type 0} (P : B → Type 0) (f : A → List B) (xs : List A) → All P (concat_map f xs) → All (λ x. All P (f x)) xs
all_of_concat P f [] a = tt
all_of_concat P f (x ∷ xs) a = (all_left P (f x) (concat_map f xs) a, all_of_concat P f xs (all_right P (f x) (concat_map f xs) a))

-- the numbers of entries
abbrev pub numbers : {K : Type 0} → List (K × ℕ) → List ℕ
numbers es = map (λ e. e.1) es

module _ {K : Type 0} (S : Store K) where
  -- the entries of the pages that the entries es name, and those i levels further down
  abbrev pub below : List (K × ℕ) → List (K × ℕ)
  below es = concat_map (λ e. S e.1) es

  abbrev pub generation : ℕ → List (K × ℕ) → List (K × ℕ)
  generation zero es = es
  generation (suc i) es = generation i (below es)

  -- the pages that the entries name, and the pages of the levels under them: h levels in all
  abbrev pub reached : ℕ → List (K × ℕ) → List ℕ
  reached zero es = []
  reached (suc h) es = numbers es ++ reached h (below es)

  -- the entries read with h levels under them
  abbrev pub read_all : (h : ℕ) → List (K × ℕ) → List (Entry K h)
  read_all h es = map (read_entry S h) es

  pub join_map : {B C : Type 0} (g : C → List B) (v : K × ℕ → C) (es : List (K × ℕ)) → concat_map g (map v es) ≡ concat_map (λ e. g (v e)) es
  join_map g v [] = refl
  join_map g v (e ∷ es) = ap (λ l. g (v e) ++ l) (join_map g v es)

  -- lists joined over the entries of a page, and then over the entries below
  join-page : {B : Type 0} (h : ℕ) (g : Entry K h → List B) (e : K × ℕ) (es : List (K × ℕ)) →
      concat_map g (read_all h (S e.1 ++ below es)) ≡ concat_map g (read_all h (S e.1)) ++ concat_map g (read_all h (below es))
  join-page h g e es =
      ap (concat_map g) (map-append (read_entry S h) (S e.1) (below es)) ∙ concat_map_append g (read_all h (S e.1)) (read_all h (below es))

  join-below : {B : Type 0} (h : ℕ) (g : Entry K h → List B) (es : List (K × ℕ)) →
      concat_map (λ e. concat_map g (read_all h (S e.1))) es ≡ concat_map g (read_all h (below es))
  join-below h g [] = refl
  join-below h g (e ∷ es) = ap (λ l. concat_map g (read_all h (S e.1)) ++ l) (join-below h g es) ∙ sym (join-page h g e es)

  -- the leaf pairs are the entries of the last generation
  pairs_are : (h : ℕ) (es : List (K × ℕ)) → concat_map (pairs_under h) (read_all h es) ≡ generation h es
  pairs_are zero es = rw (map_read-zero S es) (concat_map-single es)
  pairs_are (suc h) es = join_map (pairs_under (suc h)) (read_entry S (suc h)) es ∙ join-below h (pairs_under h) es ∙ pairs_are h (below es)

  -- the levels
  level-here : (j h : ℕ) → eqb j h ≡ true → (es : List (K × ℕ)) → concat_map (level_under j (suc h)) (read_all (suc h) es) ≡ numbers es
  level-here j h e [] = refl
  level-here j h e (x ∷ es) = rw e (ap (λ l. x.1 ∷ l) (level-here j h e es))

  level-below : (j h : ℕ) → eqb j h ≡ false → (es : List (K × ℕ)) →
      concat_map (level_under j (suc h)) (read_all (suc h) es) ≡ concat_map (level_under j h) (read_all h (below es))
  level-below j h e [] = refl
  level-below j h e (x ∷ es) =
      rw e (ap (λ l. concat_map (level_under j h) (read_all h (S x.1)) ++ l) (level-below j h e es) ∙ sym (join-page h (level_under j h) x es))

  level_is : (h j : ℕ) → j ≤ h → (es : List (K × ℕ)) → concat_map (level_under j (suc h)) (read_all (suc h) es) ≡ numbers (generation (h - j) es)
  level_is zero j l es = let e : zero - j ≡ zero = omega arith in rw e (level-here j zero (eq-eqb j zero (omega arith)) es)
  level_is (suc h) j l es = either (eqb j (suc h))
      (λ e. let d : suc h - j ≡ zero = omega (arith, eqb-true j (suc h) e) in rw d (level-here j (suc h) e es))
      (λ e. let m : j ≤ h = omega (arith, eqb-false j (suc h) e) in let d : suc h - j ≡ suc (h - j) = omega arith in
      rw d (level-below j (suc h) e es ∙ level_is h j m (below es)))

  -- the pages, each as often as in the tree
  pages-below : (z h : ℕ) (es : List (K × ℕ)) →
      occ z (concat_map (pages_under (suc h)) (read_all (suc h) es)) ≡ occ z (numbers es) + occ z (concat_map (pages_under h) (read_all h (below es)))
  pages-below z h [] = refl
  pages-below z h (x ∷ es) =
      let here = concat_map (pages_under h) (read_all h (S x.1)) in
      let later = concat_map (pages_under (suc h)) (read_all (suc h) es) in
      let lower = concat_map (pages_under h) (read_all h (below es)) in
      rw (join-page h (pages_under h) x es) (omega (arith, pages-below z h es, occ_append z here later, occ_append z here lower))

  pages_are : (z h : ℕ) (es : List (K × ℕ)) → occ z (concat_map (pages_under h) (read_all h es)) ≡ occ z (reached h es)
  pages_are z zero es = ap (occ z) (join_map (pages_under zero) (read_entry S zero) es ∙ concat_map-none es)
  pages_are z (suc h) es = pages-below z h es ∙ omega (arith, pages_are z h (below es), occ_append z (numbers es) (reached h (below es)))

  -- a property R of each entry, and of the entries of the page that it names, h levels deep in all
  abbrev Deep : (K × ℕ → Type 0) → ℕ → K × ℕ → Type 0
  Deep R zero e = Unit {0}
  Deep R (suc h) e = R e × All (Deep R h) (S e.1)

  module _ (R : K × ℕ → Type 0) where
    -- level by level
    deep_levels : (h : ℕ) (es : List (K × ℕ)) → All (Deep R h) es → (i : ℕ) → i < h → All R (generation i es)
    deep_levels zero es d i l = absurd (omega arith)
    deep_levels (suc h) es d zero l = all_map (Deep R (suc h)) R (λ e x. x.0) es d
    deep_levels (suc h) es d (suc i) l =
        let under = all_map (Deep R (suc h)) (λ e. All (Deep R h) (S e.1)) (λ e x. x.1) es d in
        deep_levels h (below es) (all-to_concat (Deep R h) (λ e. S e.1) es under) i (omega arith)

    levels_deep : (h : ℕ) (es : List (K × ℕ)) → ((i : ℕ) → i < h → All R (generation i es)) → All (Deep R h) es
    levels_deep zero es a = all_unit es
    levels_deep (suc h) es a =
        all_map2 R (λ e. All (Deep R h) (S e.1)) (Deep R (suc h)) (λ e x y. (x, y)) es (a zero (omega arith))
        (all_of_concat (Deep R h) (λ e. S e.1) es (levels_deep h (below es) (λ i l. a (suc i) (omega arith))))

  -- at every page
  module _ (Q : ℕ → Type 0) where
    abbrev Named : K × ℕ → Type 0
    Named e = Q e.1

    abbrev AllUnder : ℕ → K × ℕ → Type 0
    AllUnder h e = All Q (pages_under h (read_entry S h e))

    pages_deep : (h : ℕ) (es : List (K × ℕ)) → All Q (concat_map (pages_under h) (read_all h es)) → All (Deep Named h) es
    pages_deep zero es a = all_unit es
    pages_deep (suc h) es a =
        all_map (AllUnder (suc h)) (Deep Named (suc h)) (λ e x. (x.0, pages_deep h (S e.1) x.1)) es
        (all_of_concat Q (λ e. pages_under (suc h) (read_entry S (suc h) e)) es (rw (join_map (pages_under (suc h)) (read_entry S (suc h)) es) at a))

    deep_pages : (h : ℕ) (es : List (K × ℕ)) → All (Deep Named h) es → All Q (concat_map (pages_under h) (read_all h es))
    deep_pages zero es a = rw (join_map (pages_under zero) (read_entry S zero) es, concat_map-none es) tt
    deep_pages (suc h) es a =
        rw (join_map (pages_under (suc h)) (read_entry S (suc h)) es)
        (all-to_concat Q (λ e. pages_under (suc h) (read_entry S (suc h) e)) es
        (all_map (Deep Named (suc h)) (AllUnder (suc h)) (λ e x. (x.0, deep_pages h (S e.1) x.1)) es a))

  -- what holds of the entries read holds of the entries, and back
  module _ (h : ℕ) (P : Entry K h → Type 0) (R : K × ℕ → Type 0) where
    read-all : ((e : K × ℕ) → R e → P (read_entry S h e)) → (es : List (K × ℕ)) → All R es → All P (read_all h es)
    read-all f es a = all-to_map P (read_entry S h) es (all_map R (λ e. P (read_entry S h e)) f es a)

    all_read : ((e : K × ℕ) → P (read_entry S h e) → R e) → (es : List (K × ℕ)) → All P (read_all h es) → All R es
    all_read f es a = all_map (λ e. P (read_entry S h e)) R f es (all_of_map P (read_entry S h) es a)

  -- counts
  abbrev pub Counted : ℕ → K × ℕ → Type 0
  Counted cap e = (0 < length (S e.1)) × (length (S e.1) ≤ cap)

  deep_sized : (cap h : ℕ) (e : K × ℕ) → Deep (Counted cap) h e → SizedUnder cap h (read_entry S h e)
  deep_sized cap zero e d = tt
  deep_sized cap (suc h) e d =
      let n = length-map (S e.1) (read_entry S h) in
      (rw n d.0.0, rw n d.0.1, read-all h (SizedUnder cap h) (Deep (Counted cap) h) (deep_sized cap h) (S e.1) d.1)

  -- every page of a sized tree has an entry
  abbrev Filled : ℕ → Type 0
  Filled p = 0 < length (S p)

  sized-level : (cap h : ℕ) → ((e : K × ℕ) → SizedUnder cap h (read_entry S h e) → All Filled (pages_under h (read_entry S h e))) →
      (es : List (K × ℕ)) → All (SizedUnder cap h) (read_all h es) → All Filled (concat_map (pages_under h) (read_all h es))
  sized-level cap h f [] s = tt
  sized-level cap h f (e ∷ es) s =
      all_append Filled (pages_under h (read_entry S h e)) (concat_map (pages_under h) (read_all h es)) (f e s.0) (sized-level cap h f es s.1)

  sized-under : (cap h : ℕ) (e : K × ℕ) → SizedUnder cap h (read_entry S h e) → All Filled (pages_under h (read_entry S h e))
  sized-under cap zero e s = tt
  sized-under cap (suc h) e s = (rw (length-map (S e.1) (read_entry S h)) at s.0, sized-level cap h (sized-under cap h) (S e.1) s.2)

  pub sized-pages : (cap h root : ℕ) → Sized cap h (read_tree S h root) → All (λ p. least h ≤ length (S p)) (pages h (read_tree S h root))
  sized-pages cap zero root s =
      let none = join_map (pages_under zero) (read_entry S zero) (S root) ∙ concat_map-none (S root) in
      (omega arith, subst (All (λ p. 0 ≤ length (S p))) (sym none) tt)
  sized-pages cap (suc h) root s =
      (rw (length-map (S root) (read_entry S (suc h))) at s.0, sized-level cap (suc h) (sized-under cap (suc h)) (S root) s.2)

  -- every entry of every level
  pub generation-below : (i : ℕ) (es : List (K × ℕ)) → below (generation i es) ≡ generation (suc i) es
  generation-below zero es = refl
  generation-below (suc i) es = generation-below i (below es)

  module _ (Q : ℕ → Type 0) where
    pub generations_reached : (h : ℕ) (es : List (K × ℕ)) → ((i : ℕ) → i < h → All Q (numbers (generation i es))) → All Q (reached h es)
    generations_reached zero es a = tt
    generations_reached (suc h) es a =
        all_append Q (numbers es) (reached h (below es)) (a zero (omega arith)) (generations_reached h (below es) (λ i l. a (suc i) (omega arith)))

    pub reached_generations : (h : ℕ) (es : List (K × ℕ)) → All Q (reached h es) → (i : ℕ) → i < h → All Q (numbers (generation i es))
    reached_generations zero es a i l = absurd (omega arith)
    reached_generations (suc h) es a zero l = all_left Q (numbers es) (reached h (below es)) a
    reached_generations (suc h) es a (suc i) l =
        reached_generations h (below es) (all_right Q (numbers es) (reached h (below es)) a) i (omega arith)

  -- a tree from its root: a page that an entry with any key names
  module _ (a : K) (root h : ℕ) where
    abbrev top : List (K × ℕ)
    top = (a, root) ∷ []

    pub tree-pairs : pairs h (read_tree S h root) ≡ generation (suc h) ((a, root) ∷ [])
    tree-pairs = sym (append-nil (pairs h (read_tree S h root))) ∙ pairs_are (suc h) top

    pub tree-pages : (z : ℕ) → occ z (pages h (read_tree S h root)) ≡ occ z (reached (suc h) ((a, root) ∷ []))
    tree-pages z = ap (occ z) (sym (append-nil (pages h (read_tree S h root)))) ∙ pages_are z (suc h) top

    tree-level : (j : ℕ) → j ≤ h → level j h (read_tree S h root) ≡ numbers (generation (h - j) ((a, root) ∷ []))
    tree-level j l = sym (append-nil (level j h (read_tree S h root))) ∙ level_is h j l top

    -- level j is the generation h - j
    module _ (P : ℕ → List ℕ → Type 0) where
      pub level-generation : ((j : ℕ) → j ≤ h → P j (level j h (read_tree S h root))) →
          (i : ℕ) → i ≤ h → P (h - i) (numbers (generation i ((a, root) ∷ [])))
      level-generation f i l =
          let e : h - (h - i) ≡ i = omega arith in
          rw (tree-level (h - i) (omega arith), e) at (f (h - i) (omega arith))

      pub generation-level : ((i : ℕ) → i ≤ h → P (h - i) (numbers (generation i ((a, root) ∷ [])))) →
          (j : ℕ) → j ≤ h → P j (level j h (read_tree S h root))
      generation-level f j l =
          let e : h - (h - j) ≡ j = omega arith in
          rw (tree-level j l) (rw e at (f (h - j) (omega arith)))

    -- every page
    module _ (Q : ℕ → Type 0) where
      pub pages-generation : All Q (pages h (read_tree S h root)) → (i : ℕ) → i ≤ h → All Q (numbers (generation i ((a, root) ∷ [])))
      pages-generation p i l =
          let d = pages_deep Q (suc h) top (subst (All Q) (sym (append-nil (pages h (read_tree S h root)))) p) in
          all-to_map Q (λ e. e.1) (generation i top) (deep_levels (λ e. Q e.1) (suc h) top d i (omega arith))

      pub generation-pages : ((i : ℕ) → i ≤ h → All Q (numbers (generation i ((a, root) ∷ [])))) → All Q (pages h (read_tree S h root))
      generation-pages p =
          let d = levels_deep (λ e. Q e.1) (suc h) top (λ i l. all_of_map Q (λ e. e.1) (generation i top) (p i (omega arith))) in
          subst (All Q) (append-nil (pages h (read_tree S h root))) (deep_pages Q (suc h) top d)

    below_top : (i : ℕ) → generation (suc i) ((a, root) ∷ []) ≡ generation i (S root)
    below_top i = ap (generation i) (append-nil (S root))

    -- counts, level by level
    pub generation-sized : (cap : ℕ) → least h ≤ length (S root) → length (S root) ≤ cap →
        ((i : ℕ) → i < h → All (Counted cap) (generation (suc i) ((a, root) ∷ []))) → Sized cap h (read_tree S h root)
    generation-sized cap l u c =
        let n = length-map (S root) (read_entry S h) in
        let d = levels_deep (Counted cap) h (S root) (λ i m. rw (below_top i) at (c i m)) in
        (rw n l, rw n u, read-all h (SizedUnder cap h) (Deep (Counted cap) h) (deep_sized cap h) (S root) d)
