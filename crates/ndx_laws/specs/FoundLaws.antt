-- Laws: lookup on a sound NDX index. Its steps give what the sorted list of the leaves' pairs has under the key, after as many pages as there are levels.
-- Assumes nothing.
use Prim.Native.Nat.{ℕ, zero, suc, ◌+◌, ◌-◌, ◌≤◌, ◌<◌}
use Rattle.std.specs.Prelude.{◌≡◌, refl, Bool, true, false, cond, ◌||◌, not, eqb, Ok}
use Rattle.std.proofs.Common.{sym, ap, ◌∙◌, subst}
use Rattle.std.proofs.Math.Path.{ap₂}
use mathlib.Core.List.{List, [], ◌∷◌, append-nil}
use Rattle.std.proofs.Math.Option.{Option, none, some, IsSome}
use native.Mathlib.Omega.{arith}
use Rattle.std.proofs.Math.ListN.{length}
use borrow.Author.Tests.{eq-eqb, ne_eqb, eqb-true, eqb-false, le-leb}
use Rattle.refusal.specs.Checks.{unless}
use Rattle.basis.specs.Lists.{All}
use Rattle.basis.specs.Tests.{either, impossible}
use Rattle.octets.specs.Order.{bytes_le}
use Rattle.tree.proofs.ListLaws.{all_unit, all_map2}
use Rattle.tree.specs.Pairs.{follow, seek, find}
use Rattle.tree.specs.Tree.{Tree, lookup, onward, visited}
use Rattle.tree.specs.Store.Steps.{store_lookup, store_visited}
use Rattle.tree.proofs.Store.LookupLaws.{lookup-read, visited-read}
use Rattle.tree.proofs.Top.{top-lookup}
use Rattle.tree.proofs.Levels.{below, generation, all_of_concat}
use Rattle.idx_page.specs.Page.{first_at_or_above}
use Rattle.idx_page.specs.PageLaws.{first_bound}
use Rattle.idx_page.specs.KeyOrder.{bytes_order}
use Rattle.idx_page.specs.KeyOrderLaws.{equal-le}
use Rattle.idx_lookup.specs.Lookup.{record_of, decided}
use Rattle.idx_lookup.specs.Answer.{Answer}
use Rattle.idx_lookup.specs.Answer as answer
use Rattle.idx_lookup_laws.specs.FoundLaws.{answer_of}
use Rattle.ndx_page.specs.Header.{max_levels, root_page, page_count, key_length, keys_per_page, is_page}
use Rattle.ndx_page.specs.Page.{count_at, lower_at, record_at, key_at, is_leaf, count_good, page_good}
use Rattle.ndx_page.specs.Lookup.{page_of, leaf_says, entry_says, page_says, visit_rule, lookup_from, lookup_rule}
use Rattle.ndx_page.specs.declared.PageNumber.{PageNumber}
use Rattle.idx_lookup.specs.AnswerLaws.{absent-found}
use Rattle.idx_lookup.specs.Visit as visit
use Rattle.ndx_sound.specs.Reading.{Key, Entries, leaf_entries, entries_at, index_tree, leaf_pairs}
use Rattle.ndx_sound.specs.ReadingLaws.{first-le, seek_among, seek_past, leaf-entries, branch-entries}
use Rattle.ndx_sound.specs.Sound.{Sound}
use Rattle.ndx_sound.specs.TreeLaws.{by_top, Fine, fine, listed, ordered}

-- a visit passes its checks
visit-passes : (b key : List ℕ) (height j p : ℕ) (last : Bool) → Fine b height j p → (is_leaf b p || not last) ≡ true
    → visit_rule b key p (eqb j 0) last ≡ Ok (page_says b key p)
unfolding visit_rule page_good count_good
visit-passes b key height j p last f l =
    let good : page_good b p (eqb j 0) last ≡ true = rw (f.page, le-leb _ _ f.full, f.some) l in
    rw (good, visit_rule)

-- the search of a page, and what the page says by it
module _ (b key : List ℕ) (p : ℕ) (page : is_page (page_count b) p ≡ true) (full : count_at b p ≤ keys_per_page b) where
  abbrev n : ℕ
  n = count_at b p

  abbrev i : ℕ
  i = first_at_or_above (key_at b p) key (count_at b p) 0

  -- none is at or above the key, or this is the first that is
  searched : {X : Type 0} → (i ≡ n → X) → ((i ≡ n → ⊥) → i < 0 + n → X) → X
  searched f g =
      let bound = first_bound (key_at b p) key (count_at b p) 0 in
      either (eqb i (count_at b p))
      (λ e. f (eqb-true i (count_at b p) e))
      (λ e. g (eqb-false i (count_at b p) e) (omega (arith, bound, eqb-false i (count_at b p) e)))

  decided-leaf : (go : PageNumber → Answer) (m : ℕ) (t : Bool) (r : ℕ)
      → decided go m (cond t (visit.Found (record_of r)) visit.Absent) ≡ answer_of (cond t (some r) none) m
  decided-leaf go m true r = refl
  decided-leaf go m false r = refl

  leaf-seek-none : is_leaf b p ≡ true → i ≡ n → seek by_top (some key) (entries_at b p) ≡ none
  leaf-seek-none l e =
      let a = append-nil (leaf_entries b p (count_at b p)) in
      ap (seek by_top (some key)) (leaf-entries b p page full l ∙ sym a) ∙ seek_past (key_at b p) (record_at b p) key n 0 [] (omega arith)

  leaf-seek-some : is_leaf b p ≡ true → i < 0 + n → seek by_top (some key) (entries_at b p) ≡ some (some (key_at b p i), record_at b p i)
  leaf-seek-some l h =
      let a = append-nil (leaf_entries b p (count_at b p)) in
      ap (seek by_top (some key)) (leaf-entries b p page full l ∙ sym a) ∙ seek_among (key_at b p) (record_at b p) key n 0 [] h

  leaf_decides : (go : PageNumber → Answer) (m : ℕ) → is_leaf b p ≡ true → decided go m (page_says b key p) ≡ answer_of (find by_top (some key) (entries_at b p)) m
  unfolding page_says entry_says leaf_says
  leaf_decides go m l = searched
      (λ e. rw (leaf-seek-none l e, l, eq-eqb i (count_at b p) e))
      (λ ne h. rw (leaf-seek-some l h, l, ne_eqb i (count_at b p) ne, equal-le (key_at b p i) key (first-le (key_at b p) (record_at b p) key n 0 h))
      (decided-leaf go m (bytes_le (key_at b p i) key) (record_at b p i)))

  -- the key over child i of a branch
  branch_key : is_leaf b p ≡ false → (o : Key) × (seek by_top (some key) (entries_at b p) ≡ some (o, lower_at b p i))
  branch_key l = searched
      (λ e. (
        none,
        ap (seek by_top (some key)) (branch-entries b p page full l)
            ∙ (seek_past (key_at b p) (lower_at b p) key n 0 ((none, lower_at b p n) ∷ []) (omega arith) ∙ rw e),
      ))
      (λ ne h. (
        some (key_at b p i),
        ap (seek by_top (some key)) (branch-entries b p page full l)
            ∙ seek_among (key_at b p) (lower_at b p) key n 0 ((none, lower_at b p n) ∷ []) h,
      ))

  branch_says : is_leaf b p ≡ false → page_says b key p ≡ visit.Child (page_of (lower_at b p i))
  unfolding page_says entry_says
  branch_says l = rw l

  upper_decides : (go : PageNumber → Answer) (m : ℕ) (f : Key × ℕ → Option ℕ) (g : Key × ℕ → List ℕ) → is_leaf b p ≡ false
      → ((e : Key × ℕ) → seek by_top (some key) (entries_at b p) ≡ some e → go (page_of e.1) ≡ answer_of (f e) (m + length (g e)))
      → decided go m (page_says b key p) ≡ answer_of (follow f (seek by_top (some key) (entries_at b p))) (m + length (onward g (seek by_top (some key)
      (entries_at b p))))
  upper_decides go m f g l ok =
      let k = branch_key l in
      rw (branch_says l, k.1) (ok (k.0, lower_at b p i) k.1)

-- what a search gives has what all entries have
seek-all : (P : Key × ℕ → Type 0) (key : Key) (es : Entries) (e : Key × ℕ) → All P es → seek by_top key es ≡ some e → P e
seek-all P key [] e a h = impossible (cc)
seek-all P key (x ∷ xs) e a h = either (by_top.le key x.0)
    (λ u. let d : some x ≡ some e = rw u at h in let q : x ≡ e = cc in subst P q a.0)
    (λ u. seek-all P key xs e a.1 (rw u at h))

first_is : (n : ℕ) → eqb (n + 1) 1 ≡ eqb n 0
first_is n = either (eqb n 0)
    (λ e. eq-eqb (n + 1) 1 (omega (arith, eqb-true n 0 e)) ∙ sym e)
    (λ e. ne_eqb (n + 1) 1 (omega (arith, eqb-false n 0 e)) ∙ sym e)

some-case : {X R : Type 0} (o : Option X) → IsSome o → ((x : X) → o ≡ some x → R) → R
some-case none i f = absurd i
some-case (some x) i f = f x refl

or-true : (a : Bool) → (a || true) ≡ true
or-true true = refl
or-true false = refl

-- the pages of a sound index with `height` levels under the root, level by level from an entry j levels under the root down
module _ (b key : List ℕ) (height : ℕ) where
  abbrev B : ℕ → Entries
  B = entries_at b

  abbrev Along : ℕ → ℕ → Key × ℕ → Type 0
  Along zero j e = Unit {0}
  Along (suc n) j e = Fine b height j e.1 × All (Along n (suc j)) (B e.1)

  levels-along : (n j : ℕ) (es : Entries) → ((i : ℕ) → i < n → All (λ e. Fine b height (j + i) e.1) (generation B i es)) → All (Along n j) es
  levels-along zero j es a = all_unit es
  levels-along (suc n) j es a =
      let z : j + 0 ≡ j = omega arith in
      let lower = levels-along n (suc j) (below B es) (λ i l. let y : j + suc i ≡ suc j + i = omega arith in rw y at (a (suc i) (omega arith))) in
      all_map2 (λ e. Fine b height j e.1) (λ e. All (Along n (suc j)) (B e.1)) (Along (suc n) j) (λ e x y. (x, y)) es (rw z at (a 0 (omega arith)))
      (all_of_concat (Along n (suc j)) (λ e. B e.1) es lower)

  -- the record and the pages, from page p with h levels under it
  abbrev record_from : ℕ → ℕ → Option ℕ
  record_from h p = store_lookup by_top (some key) h p B

  abbrev pages_from : ℕ → ℕ → List ℕ
  pages_from h p = store_visited by_top (some key) h p B

  -- a branch always has a child to go on to, so lookup comes to a leaf
  branch_on : (j p : ℕ) → j < height → Fine b height j p → IsSome (seek by_top (some key) (B p))
  branch_on j p u f = let k = branch_key b key p f.page f.full (f.leaf ∙ ne_eqb j height (omega arith)) in subst IsSome (sym k.1) tt

  all-pages : (h j p : ℕ) (a : Key) → j + h ≡ height → Along (suc h) j (a, p) → length (pages_from h p) ≡ suc h
  all-pages zero j p a e u = refl
  all-pages (suc h) j p a e u = some-case (seek by_top (some key) (B p)) (branch_on j p (omega arith) u.0) (λ x s.
      rw s (ap suc (all-pages h (suc j) x.1 x.0 (omega arith) (seek-all (Along (suc h) (suc j)) (some key) (B p) x u.1 s))))

  page-visited : (j left p : ℕ) → j ≤ height → suc left + j ≡ max_levels → height < max_levels → Fine b height j p
      → visit_rule b key p (eqb (max_levels - left) 1) (eqb left 0) ≡ Ok (page_says b key p)
  page-visited j left p l e few f =
      let d : max_levels - left ≡ j + 1 = omega arith in
      let passes : (is_leaf b p || not (eqb left 0)) ≡ true = either (eqb j height)
      (λ u. rw (f.leaf, u))
      (λ u. rw (ne_eqb left 0 (omega (arith, eqb-false j height u))) (or-true (is_leaf b p))) in
      rw (d, first_is j) (visit-passes b key height j p (eqb left 0) f passes)

  module _ (few : height < max_levels) where
    descends : (h j left p : ℕ) (a : Key) → j + h ≡ height → suc left + j ≡ max_levels → Along (suc h) j (a, p)
        → lookup_from (suc left) b key p ≡ answer_of (record_from h p) (j + length (pages_from h p))
    unfolding lookup_from
    descends zero j left p a e l u =
        let f = u.0 in
        let d : max_levels - left ≡ j + 1 = omega arith in
        let leaf = f.leaf ∙ eq-eqb j height (omega arith) in
        rw (page-visited j left p (omega arith) l few f, d) (leaf_decides b key p f.page f.full (λ c. lookup_from left b key c.0) (j + 1) leaf)
    descends (suc h) j zero p a e l u = absurd (omega arith)
    descends (suc h) j (suc left) p a e l u =
        let f = u.0 in
        let d : max_levels - suc left ≡ j + 1 = omega arith in
        let branch = f.leaf ∙ ne_eqb j height (omega arith) in
        let rest = onward (λ x. pages_from h x.1) (seek by_top (some key) (B p)) in
        let n : j + length (p ∷ rest) ≡ j + 1 + length rest = omega arith in
        rw (page-visited j (suc left) p (omega arith) l few f, d, n)
        (upper_decides b key p f.page f.full (λ c. lookup_from (suc left) b key c.0) (j + 1) (λ x. record_from h x.1) (λ x. pages_from h x.1) branch
        (λ x s. let y : suc j ≡ j + 1 = omega arith in
        rw y at (descends h (suc j) left x.1 x.0 (omega arith) (omega arith) (seek-all (Along (suc h) (suc j)) (some key) (B p) x u.1 s))))

-- the answers are not one another
answer-none : (o : Option ℕ) (m n : ℕ) → answer_of o m ≡ answer.absent n → o ≡ none
answer-none none m n e = refl
answer-none (some r) m n e = absent-found n (record_of r) m (sym e)

-- from the root of a sound index down
module _ (b key : List ℕ) (s : Sound b) (e : length key ≡ key_length b) where
  abbrev h : ℕ
  h = s.height

  abbrev r : ℕ
  r = root_page b

  abbrev T : Tree Key h
  T = index_tree b s.height

  few : h < max_levels
  few = omega (arith, s.levels)

  along : Along b key h (suc h) 0 (none, root_page b)
  along = (levels-along b key h (suc h) 0 ((none, r) ∷ []) (λ i l. let z : 0 + i ≡ i = omega arith in rw z (fine b s i (omega arith)))).0

  -- Theorem: lookup's steps on a sound index, for a key of its length, are the theory's lookup in its tree
  pub lookup-tree : lookup_rule b key ≡ answer_of (lookup by_top (some key) h T) (length (visited by_top (some key) h T))
  unfolding lookup_rule unless
  lookup-tree =
      let v = pages_from b key h h r in
      let z : 0 + length v ≡ length v = omega arith in
      let steps = descends b key h few h 0 (max_levels - 1) r none (omega arith) (omega arith) along in
      let d : lookup_from max_levels b key r ≡ answer_of (record_from b key h h r) (length v) = rw z at steps in
      rw (s.header, eq-eqb (length key) (key_length b) e)
      (d ∙ ap₂ (λ (o : Option ℕ) (l : List ℕ). answer_of o (length l)) (sym (lookup-read by_top (entries_at b) (some key) h r))
      (sym (visited-read by_top (entries_at b) (some key) h r)))

  -- and what the sorted list of the leaves' pairs has under the key
  found_in : lookup by_top (some key) h T ≡ find bytes_order key (leaf_pairs b h)
  found_in = top-lookup bytes_order key h T (leaf_pairs b h) (listed b s) (ordered b s)

  levels-visited : length (visited by_top (some key) h T) ≡ h + 1
  levels-visited =
      let z : suc h ≡ h + 1 = omega arith in
      ap length (visited-read by_top (entries_at b) (some key) h r) ∙ all-pages b key h h 0 r none (omega arith) along ∙ z

  -- Theorem: lookup gives what the sorted list of the leaves' pairs has under the key, after as many pages as there are levels
  pub lookup-list : lookup_rule b key ≡ answer_of (find bytes_order key (leaf_pairs b s.height)) (s.height + 1)
  lookup-list = lookup-tree ∙ rw (found_in, levels-visited)

  -- Theorem: a key that is there is found after as many pages as there are levels, and one that is not there is absent after as many
  pub found-pages : (n : ℕ) → find bytes_order key (leaf_pairs b s.height) ≡ some n → lookup_rule b key ≡ answer.found (record_of n) (s.height + 1)
  found-pages n f = lookup-list ∙ rw f

  pub absent-pages : find bytes_order key (leaf_pairs b s.height) ≡ none → lookup_rule b key ≡ answer.absent (s.height + 1)
  absent-pages f = lookup-list ∙ rw f

  -- "absent exactly when there is none"
  pub absent-exactly : (n : ℕ) → lookup_rule b key ≡ answer.absent n → find bytes_order key (leaf_pairs b s.height) ≡ none
  absent-exactly n q = answer-none (find bytes_order key (leaf_pairs b h)) (h + 1) n (sym lookup-list ∙ q)
