-- Laws: the pages of a sound NDX index, level by level, its leaves' pairs as a list of keys, and that its tree is ordered. Cited by the laws of the audit's
-- test and of lookup. Assumes nothing.
use Rattle.std.specs.Prelude.{ℕ, zero, suc, ◌+◌, ◌-◌, ◌≤◌, ◌<◌, ◌≡◌, refl, Bool, true, false, ◌&&◌, ◌||◌, List, [], ◌∷◌, map, length, eqb, leb}
use Rattle.std.proofs.Common.{sym, ap, ◌∙◌, subst, append-nil, arith, eq-eqb, ne_eqb, eqb-true, leb-true, le-leb}
use Rattle.std.proofs.Math.Option.{none, some}
use Rattle.std.proofs.lemmas.Bool.{eqb-false}
use Rattle.basis.specs.Lists.{All, all_map}
use Rattle.basis.specs.Tests.{either, contra}
use Rattle.tree.specs.Order.{Order}
use Rattle.tree.specs.Keeping.{Keeping}
use Rattle.tree.proofs.KeepingOf.{distinct_keys}
use Rattle.tree.proofs.ListLaws.{all_map2}
use Rattle.tree.specs.Pairs.{Above, by_key, Ascending}
use Rattle.tree.specs.Tree.{Tree, pairs}
use Rattle.tree.specs.Clauses.{least, Sized}
use Rattle.tree.proofs.ClauseLaws.{ceilings-ordered}
use Rattle.tree.proofs.Ordered.{Ordered}
use Rattle.tree.proofs.Top.{top, keyed}
use Rattle.tree.proofs.Levels.{generation, numbers, all_of_map, all-to_concat, Counted, generation-below, pages-generation, level-generation}
use Rattle.tree.proofs.Levels.{generation-sized, tree-pairs}
use Rattle.idx_page.specs.KeyOrder.{bytes_order}
use Rattle.ndx_page.specs.Header.{root_page, page_count, keys_per_page, is_page}
use Rattle.ndx_page.specs.Page.{count_at, lower_at, record_at, key_at, is_leaf}
use Rattle.ndx_sound.specs.Reading.{Key, Entries, leaf_entries, entries_at, index_tree, bare, leaf_pairs}
use Rattle.ndx_sound.specs.ReadingLaws.{length_from, from-keyed, leaf-entries, branch-entries}
use Rattle.ndx_sound.specs.Sound.{CountGood, Sound}

abbrev pub by_top : Order Key
by_top = top bytes_order

-- leaf keys are distinct
abbrev pub kept_by_top : Keeping Key
kept_by_top = distinct_keys by_top

-- what page p, j levels under the root of a sound index with so many levels under it, is
pub record Fine (b : List ℕ) (height j p : ℕ) : Type 0 where
  pub page : is_page (page_count b) p ≡ true
  pub full : count_at b p ≤ keys_per_page b
  pub some : (leb 1 (count_at b p) || (eqb j 0 && is_leaf b p)) ≡ true
  pub leaf : is_leaf b p ≡ eqb j height

-- how many entries a page has: as many as its count, and one more above
pub page-length : (b : List ℕ) (p : ℕ) → is_page (page_count b) p ≡ true → count_at b p ≤ keys_per_page b
    → (count_at b p ≤ length (entries_at b p)) × (length (entries_at b p) ≤ keys_per_page b + 1) × (is_leaf b p ≡ false → 0 < length (entries_at b p))
page-length b p page full = either (is_leaf b p)
    (λ l. let e = ap length (leaf-entries b p page full l ∙ sym (append-nil (leaf_entries b p (count_at b p)))) ∙ length_from (key_at b p) (record_at b p)
    (count_at b p) 0 [] in
    (omega arith, omega arith, (λ u. contra l u)))
    (λ l. let e = ap length (branch-entries b p page full l)
    ∙ length_from (key_at b p) (lower_at b p) (count_at b p) 0 ((none, lower_at b p (count_at b p)) ∷ []) in
    (omega arith, omega arith, (λ u. omega arith)))

or-false : (a : Bool) → (a || false) ≡ true → a ≡ true
or-false true e = refl
or-false false e = e

lower-filled : (b : List ℕ) (height j p : ℕ) → Fine b height (suc j) p → Counted (entries_at b) (keys_per_page b + 1) (none, p)
lower-filled b height j p f =
    let l = page-length b p f.page f.full in
    let s : leb 1 (count_at b p) ≡ true = or-false (leb 1 (count_at b p)) (rw (ne_eqb (suc j) 0 (omega arith)) at f.some) in
    let c : 1 ≤ count_at b p = leb-true _ _ s in
    (omega arith, l.1)

-- keys with one more above all
ascending-keyed : (xs : List (List ℕ × ℕ)) → Ascending (by_key bytes_order) xs → Ascending (by_key by_top) (map (keyed bytes_order) xs)
ascending-keyed [] a = tt
ascending-keyed (x ∷ xs) a = (above-keyed x.0 xs a.0, ascending-keyed xs a.1)
  where
    above-keyed : (k : List ℕ) (ys : List (List ℕ × ℕ)) → Above bytes_order k ys → Above by_top (some k) (map (keyed bytes_order) ys)
    above-keyed k [] v = tt
    above-keyed k (y ∷ ys) v = (v.0, above-keyed k ys v.1)

all-keyed : (es : Entries) → All (λ e. keyed bytes_order (bare e) ≡ e) es → es ≡ map (keyed bytes_order) (map bare es)
all-keyed [] a = refl
all-keyed (e ∷ es) a = let h = a.0 in let t = all-keyed es a.1 in rw h (ap (λ l. e ∷ l) t)

keyed-ascending : (xs : List (List ℕ × ℕ)) → Ascending (by_key by_top) (map (keyed bytes_order) xs) → Ascending (by_key bytes_order) xs
keyed-ascending [] a = tt
keyed-ascending (x ∷ xs) a = (keyed-above x.0 xs a.0, keyed-ascending xs a.1)
  where
    keyed-above : (k : List ℕ) (ys : List (List ℕ × ℕ)) → Above by_top (some k) (map (keyed bytes_order) ys) → Above bytes_order k ys
    keyed-above k [] v = tt
    keyed-above k (y ∷ ys) v = (v.0, keyed-above k ys v.1)

-- the pairs under h levels, where the pages of the last of them are leaves, have keys
pub record LeafPage (b : List ℕ) (p : ℕ) : Type 0 where
  pub page : is_page (page_count b) p ≡ true
  pub full : count_at b p ≤ keys_per_page b
  pub leaf : is_leaf b p ≡ true

module _ (b : List ℕ) (h : ℕ) (leaves : All (λ (e : Key × ℕ). LeafPage b e.1) (generation (entries_at b) h ((none, root_page b) ∷ []))) where
  pairs-keyed : All (λ e. keyed bytes_order (bare e) ≡ e) (pairs h (index_tree b h))
  pairs-keyed =
      let es = generation (entries_at b) h ((none, root_page b) ∷ []) in
      let leaf = all_map (λ (e : Key × ℕ). LeafPage b e.1) (λ e. All (λ x. keyed bytes_order (bare x) ≡ x) (entries_at b e.1))
      (λ e f. rw (leaf-entries b e.1 f.page f.full f.leaf) (from-keyed (key_at b e.1) (record_at b e.1) (count_at b e.1) 0)) es leaves in
      subst (All (λ e. keyed bytes_order (bare e) ≡ e)) (generation-below (entries_at b) h ((none, root_page b) ∷ []) ∙ sym (tree-pairs (entries_at b) none
      (root_page b) h))
      (all-to_concat (λ x. keyed bytes_order (bare x) ≡ x) (λ e. entries_at b e.1) es leaf)

  keyed-pairs : pairs h (index_tree b h) ≡ map (keyed bytes_order) (leaf_pairs b h)
  keyed-pairs = all-keyed (pairs h (index_tree b h)) pairs-keyed

  -- the order of the pairs is that of the bare ones
  pub bare-ascending : Ascending (by_key by_top) (pairs h (index_tree b h)) → Ascending (by_key bytes_order) (leaf_pairs b h)
  bare-ascending a = keyed-ascending (leaf_pairs b h) (rw keyed-pairs at a)

-- from the root of a sound index down
module _ (b : List ℕ) (s : Sound b) where
  abbrev h : ℕ
  h = s.height

  abbrev r : ℕ
  r = root_page b

  abbrev S : ℕ → Entries
  S = entries_at b

  abbrev T : Tree Key h
  T = index_tree b s.height

  abbrev root_entry : Entries
  root_entry = (none, root_page b) ∷ []

  bottom : (j : ℕ) → j ≤ h → eqb (h - j) 0 ≡ eqb j h
  bottom j l = either (eqb j h)
      (λ e. eq-eqb (h - j) 0 (omega (arith, eqb-true j h e)) ∙ sym e)
      (λ e. ne_eqb (h - j) 0 (omega (arith, eqb-false j h e)) ∙ sym e)

  some_good : (j p : ℕ) → is_leaf b p ≡ eqb j h → least h ≤ count_at b p → j ≤ h → (leb 1 (count_at b p) || (eqb j 0 && is_leaf b p)) ≡ true
  some_good j p l c m = go h l c m
    where
      or-true : (a : Bool) → (a || true) ≡ true
      or-true true = refl
      or-true false = refl

      go : (g : ℕ) → is_leaf b p ≡ eqb j g → least g ≤ count_at b p → j ≤ g → (leb 1 (count_at b p) || (eqb j 0 && is_leaf b p)) ≡ true
      go zero l c m = rw (l, eq-eqb j 0 (omega arith)) (or-true (leb 1 (count_at b p)))
      go (suc g) l c m = rw (le-leb 1 (count_at b p) c)

  -- every page of every level is what it has to be
  pub fine : (j : ℕ) → j ≤ h → All (λ e. Fine b h j e.1) (generation S j root_entry)
  fine j l =
      let inside = pages-generation S none r h (λ p. is_page (page_count b) p ≡ true) s.inside j l in
      let counts = pages-generation S none r h (CountGood b h) s.counts j l in
      let leaves = level-generation S none r h (λ i ps. All (λ p. is_leaf b p ≡ eqb i 0) ps) s.leaves j l in
      all_of_map (Fine b h j) (λ e. e.1) (generation S j root_entry)
      (all_map2 (λ p. is_page (page_count b) p ≡ true) (λ p. CountGood b h p × (is_leaf b p ≡ eqb (h - j) 0)) (Fine b h j)
      (λ p i c. let leaf = c.1 ∙ bottom j l in record { page = i; full = c.0.1; some = some_good j p leaf c.0.0 l; leaf = leaf })
      (numbers (generation S j root_entry)) inside
      (all_map2 (CountGood b h) (λ p. is_leaf b p ≡ eqb (h - j) 0) (λ p. CountGood b h p × (is_leaf b p ≡ eqb (h - j) 0)) (λ p x y. (x, y))
      (numbers (generation S j root_entry)) counts leaves))

  -- the leaves' pairs have keys
  pub listed : pairs h T ≡ map (keyed bytes_order) (leaf_pairs b h)
  listed = keyed-pairs b h
      (all_map (λ (e : Key × ℕ). Fine b s.height s.height e.1) (λ e. LeafPage b e.1)
      (λ e f. record { page = f.page; full = f.full; leaf = f.leaf ∙ eq-eqb h h refl }) (generation S h root_entry) (fine h (omega arith)))

  -- the tree is ordered
  sized : Sized (keys_per_page b + 1) h T
  sized =
      let top = (fine 0 (omega arith)).0 in
      let l = page-length b r top.page top.full in
      let root-least : least h ≤ length (entries_at b r) = either (eqb 0 h)
      (λ e. let z : h ≡ 0 = omega (arith, eqb-true 0 h e) in subst (λ (x : ℕ). least x ≤ length (entries_at b r)) (sym z) (omega arith))
      (λ e. least-one s.height (length (entries_at b r)) (l.2 (top.leaf ∙ e))) in
      generation-sized S none r h (keys_per_page b + 1) root-least l.1
      (λ i m. all_map (λ e. Fine b h (suc i) e.1) (Counted (entries_at b) (keys_per_page b + 1)) (λ e f. lower-filled b h i e.1 f)
      (generation S (suc i) root_entry) (fine (suc i) (omega arith)))
    where
      least-one : (g n : ℕ) → 0 < n → least g ≤ n
      least-one zero n l = omega arith
      least-one (suc g) n l = l

  pub ordered : Ordered kept_by_top h T
  ordered = ceilings-ordered kept_by_top (keys_per_page b + 1) h T sized.2 (rw listed (ascending-keyed (leaf_pairs b h) s.ascending)) s.ceilings
