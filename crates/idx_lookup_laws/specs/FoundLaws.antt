-- Laws: lookup on a sound index. Its steps give what the sorted list of the leaves' pairs has under the key, a found key after as many pages as there are
-- levels. Cited by the laws of the claim about lists of calls. Assumes nothing.
use Prim.Native.Nat.{ℕ, zero, suc, ◌+◌, ◌-◌, ◌≤◌, ◌<◌}
use Rattle.std.specs.Prelude.{Ok, ◌≡◌, refl, Bool, false, cond, eqb}
use Rattle.std.proofs.Common.{sym, ap, ◌∙◌, subst}
use Rattle.std.proofs.Math.Path.{ap₂}
use Rattle.std.proofs.Math.Bool.{true}
use mathlib.Core.List.{List, [], ◌∷◌}
use Rattle.std.proofs.Math.Option.{Option, none, some}
use native.Mathlib.Omega.{arith}
use Rattle.std.proofs.Math.ListN.{length}
use borrow.Author.Tests.{eq-eqb, ne_eqb, eqb-true, eqb-false, leb-true}
use Rattle.refusal.specs.Checks.{unless}
use Rattle.basis.specs.Lists.{All}
use Rattle.basis.specs.Tests.{either, both, impossible}
use Rattle.octets.specs.Order.{bytes_le, ordering, is_equal}
use Rattle.tree.proofs.ListLaws.{all_unit, all_map2}
use Rattle.tree.specs.Pairs.{follow, seek, find}
use Rattle.tree.specs.Tree.{Tree, pairs, lookup, onward, visited}
use Rattle.tree.specs.Keeping.{goes_on_for}
use Rattle.tree.proofs.Ordered.{lookup-find, visited-found}
use Rattle.tree.specs.Store.Steps.{store_lookup, store_visited}
use Rattle.tree.proofs.Store.LookupLaws.{lookup-read, visited-read}
use Rattle.tree.proofs.Levels.{below, generation, all_of_map, all_of_concat}
use Rattle.idx_page.specs.Header.{max_levels, is_page, root_offset, file_size, key_length, features, good_features}
use Rattle.idx_page.specs.Page.{attribute_at, count_at, leaf_bit, capacity, key_at, number_at, attribute_good, count_good, page_good}
use Rattle.idx_page.specs.declared.PageOffset.{PageOffset}
use Rattle.idx_page.specs.PageLaws.{first_bound}
use Rattle.idx_page.specs.KeyOrder.{bytes_order}
use Rattle.idx_page.specs.Reading.{entries_at}
use Rattle.idx_page.proofs.ReadingLaws.{entries_by_count}
use Rattle.idx_page.proofs.SearchLaws.{first_entry, seek-some, seek-none}
use Rattle.idx_lookup.specs.LookupLaws.{steps-key}
use Rattle.idx_lookup.specs.Lookup.{offset_of, record_of, entry_says, page_says, visit_rule, decided, lookup_from, lookup_rule}
use Rattle.idx_lookup.specs.Visit as visit
use Rattle.idx_lookup.specs.Answer.{Answer}
use Rattle.idx_lookup.specs.Answer as answer
use Rattle.idx_sound.specs.Sound.{Sound, index_tree, kept_by}
use Rattle.idx_sound.specs.AuditTest.{Entries, attribute_of}
use Rattle.idx_sound.proofs.RunLaws.{Fits}
use Rattle.idx_sound.proofs.LevelLaws.{LevelGood}
use Rattle.idx_sound.specs.AttributeLaws.{leaf-bit}
use Rattle.idx_sound.proofs.ShapeLaws.{root_entry, level_pages, sound-levels}
use Rattle.idx_sound.proofs.IndexLaws.{sound-index}

-- the answer by what was found and the pages visited
abbrev pub answer_of : Option ℕ → ℕ → Answer
answer_of none n = answer.absent n
answer_of (some r) n = answer.found (record_of r) n

-- the entry that a search gives is at or above the key, and has the property that all entries have
pub seek-le : (key : List ℕ) (es : Entries) (e : List ℕ × ℕ) → seek bytes_order key es ≡ some e → bytes_le key e.0 ≡ true
seek-le key [] e h = impossible (cc)
seek-le key (x ∷ xs) e h = either (bytes_le key x.0)
    (λ u. let d : some x ≡ some e = rw u at h in let q : x ≡ e = cc in subst (λ (y : List ℕ × ℕ). bytes_le key y.0 ≡ true) q u)
    (λ u. seek-le key xs e (rw u at h))

pub seek-all : (P : List ℕ × ℕ → Type 0) (key : List ℕ) (es : Entries) (e : List ℕ × ℕ) → All P es → seek bytes_order key es ≡ some e → P e
seek-all P key [] e a h = impossible (cc)
seek-all P key (x ∷ xs) e a h = either (bytes_le key x.0)
    (λ u. let d : some x ≡ some e = rw u at h in let q : x ≡ e = cc in subst P q a.0)
    (λ u. seek-all P key xs e a.1 (rw u at h))

-- a key at or above another is equal to it if it is at or below it too
equal-le : (a key : List ℕ) → bytes_le key a ≡ true → is_equal (ordering a key) ≡ bytes_le a key
unfolding ordering
equal-le a key h = either (bytes_le a key) (λ e. rw (e, h)) (λ e. rw e)

-- the search of a page that is good, by the list of its entries
module _ (b key : List ℕ) (size p : ℕ) (page : is_page size p ≡ true) (full : count_at b p ≤ capacity (length key)) where
  abbrev pub k : ℕ
  k = length key

  abbrev S : ℕ → Entries
  S = entries_at (length key) size b

  -- what the search gives: the number of an entry, and in the list
  abbrev pub i : ℕ
  i = first_entry b key (length key) p (count_at b p) 0

  abbrev pub sought : Option (List ℕ × ℕ)
  sought = seek bytes_order key (entries_at (length key) size b p)

  abbrev pub entry : List ℕ × ℕ
  entry = (key_at b k p i, number_at b k p i)

  -- no entry is at or above the key, or entry i is the first that is
  pub searched : {X : Type 0} → (i ≡ count_at b p → sought ≡ none → X) → ((i ≡ count_at b p → ⊥) → sought ≡ some entry → X) → X
  searched f g =
      let es = entries_by_count k size b p page full in
      let bound = first_bound (key_at b k p) key (count_at b p) 0 in
      either (eqb i (count_at b p))
      (λ e. let d = eqb-true i (count_at b p) e in f d (rw es (seek-none b key k p (count_at b p) 0 (omega arith))))
      (λ e. let d = eqb-false i (count_at b p) e in g d (rw es (seek-some b key k p (count_at b p) 0 (omega (arith, bound, d)))))

  -- what the page says
  says_none : i ≡ count_at b p → page_says b key p ≡ visit.Absent
  unfolding page_says entry_says
  says_none e = rw (eq-eqb i (count_at b p) e)

  says_child : leaf_bit (attribute_at b p) ≡ false → (i ≡ count_at b p → ⊥) → page_says b key p ≡ visit.Child (offset_of entry.1)
  unfolding page_says entry_says
  says_child l e = rw (ne_eqb i (count_at b p) e, l)

  says_leaf : leaf_bit (attribute_at b p) ≡ true → (i ≡ count_at b p → ⊥) → bytes_le key entry.0 ≡ true
      → page_says b key p ≡ cond (bytes_le entry.0 key) (visit.Found (record_of entry.1)) visit.Absent
  unfolding page_says entry_says
  says_leaf l e h = rw (ne_eqb i (count_at b p) e, l, equal-le entry.0 key h)

  -- and what lookup decides by it
  decided-leaf : (go : PageOffset → Answer) (n : ℕ) (t : Bool) (r : ℕ)
      → decided go n (cond t (visit.Found (record_of r)) visit.Absent) ≡ answer_of (cond t (some r) none) n
  decided-leaf go n true r = refl
  decided-leaf go n false r = refl

  leaf_decides : (go : PageOffset → Answer) (n : ℕ) → leaf_bit (attribute_at b p) ≡ true
      → decided go n (page_says b key p) ≡ answer_of (find bytes_order key (entries_at (length key) size b p)) n
  leaf_decides go n l = searched
      (λ e s. rw (says_none e, s))
      (λ e s. rw (says_leaf l e (seek-le key (S p) entry s), s) (decided-leaf go n (bytes_le entry.0 key) entry.1))

  upper_decides : (go : PageOffset → Answer) (n : ℕ) (f : List ℕ × ℕ → Option ℕ) (g : List ℕ × ℕ → List ℕ) → leaf_bit (attribute_at b p) ≡ false
      → ((e : List ℕ × ℕ) → sought ≡ some e → go (offset_of e.1) ≡ answer_of (f e) (n + length (g e)))
      → decided go n (page_says b key p) ≡ answer_of (follow f sought) (n + length (onward g sought))
  upper_decides go n f g l ok = searched
      (λ e s. let z : n + 0 ≡ n = omega arith in rw (says_none e, s, z))
      (λ e s. rw (says_child l e, s) (ok entry s))

-- an attribute that is good on its level passes lookup's checks, on the first page, on the last that may be, or on another
pub attribute-passes : (root leaf last : Bool) → (leaf ≡ false → last ≡ false) → attribute_good (attribute_of root leaf) root last ≡ true
unfolding attribute_good
attribute-passes true true last h = refl
attribute-passes false true last h = refl
attribute-passes true false last h = rw (h refl)
attribute-passes false false last h = rw (h refl)

pub first_is : (n : ℕ) → eqb (n + 1) 1 ≡ eqb n 0
first_is n = either (eqb n 0)
    (λ e. eq-eqb (n + 1) 1 (omega (arith, eqb-true n 0 e)) ∙ sym e)
    (λ e. ne_eqb (n + 1) 1 (omega (arith, eqb-false n 0 e)) ∙ sym e)

-- the pages of a sound index with `height` levels under the root, level by level from an entry j levels under the root down
module _ (b key : List ℕ) (height : ℕ) (few : height < max_levels) where
  abbrev B : ℕ → Entries
  B = entries_at (length key) (file_size b) b

  abbrev Fine : ℕ → ℕ → Type 0
  Fine j p = Fits b (length key) (file_size b) (attribute_of (eqb j 0) (eqb j height)) p

  abbrev Along : ℕ → ℕ → List ℕ × ℕ → Type 0
  Along zero j e = Unit {0}
  Along (suc n) j e = Fine j e.1 × All (Along n (suc j)) (B e.1)

  levels-along : (n j : ℕ) (es : Entries) → ((i : ℕ) → i < n → All (λ e. Fine (j + i) e.1) (generation B i es)) → All (Along n j) es
  levels-along zero j es a = all_unit es
  levels-along (suc n) j es a =
      let z : j + 0 ≡ j = omega arith in
      let lower = levels-along n (suc j) (below B es) (λ i l. let y : j + suc i ≡ suc j + i = omega arith in rw y at (a (suc i) (omega arith))) in
      all_map2 (λ e. Fine j e.1) (λ e. All (Along n (suc j)) (B e.1)) (Along (suc n) j) (λ e x y. (x, y)) es (rw z at (a 0 (omega arith)))
      (all_of_concat (Along n (suc j)) (λ e. B e.1) es lower)

  page-visited : (j left p : ℕ) → j ≤ height → suc left + j ≡ max_levels → Fine j p
      → visit_rule b key p (eqb (max_levels - left) 1) (eqb left 0) ≡ Ok (page_says b key p)
  unfolding visit_rule page_good
  page-visited j left p l e f =
      let d : max_levels - left ≡ j + 1 = omega arith in
      let t = attribute-passes (eqb j 0) (eqb j height) (eqb left 0) (λ u. ne_eqb left 0 (omega (arith, eqb-false j height u))) in
      let good : page_good b (length key) (file_size b) p (eqb (max_levels - left) 1) (eqb left 0) ≡ true =
      rw (f.page, f.attribute, d, first_is j, t) f.count in
      rw (good, visit_rule)

  fine-full : (j p : ℕ) → Fine j p → count_at b p ≤ capacity (length key)
  unfolding count_good
  fine-full j p f = leb-true _ _ (both _ _ f.count).0

  fine-leaf : (j p : ℕ) → Fine j p → leaf_bit (attribute_at b p) ≡ eqb j height
  fine-leaf j p f = ap leaf_bit f.attribute ∙ leaf-bit (eqb j 0) (eqb j height)

  -- the record and the pages, from the page at p with h levels under it
  abbrev record_from : ℕ → ℕ → Option ℕ
  record_from h p = store_lookup bytes_order key h p B

  abbrev pages_from : ℕ → ℕ → List ℕ
  pages_from h p = store_visited bytes_order key h p B

  descends : (h j left p : ℕ) (a : List ℕ) → j + h ≡ height → suc left + j ≡ max_levels → Along (suc h) j (a, p)
      → lookup_from (suc left) b key p ≡ answer_of (record_from h p) (j + length (pages_from h p))
  unfolding lookup_from
  descends zero j left p a e l u =
      let f = u.0 in
      let d : max_levels - left ≡ j + 1 = omega arith in
      let leaf = fine-leaf j p f ∙ eq-eqb j height (omega arith) in
      rw (page-visited j left p (omega arith) l f, d) (leaf_decides b key (file_size b) p f.page (fine-full j p f) (λ c. lookup_from left b key c.0) (j + 1) leaf)
  descends (suc h) j zero p a e l u = absurd (omega arith)
  descends (suc h) j (suc left) p a e l u =
      let f = u.0 in
      let d : max_levels - suc left ≡ j + 1 = omega arith in
      let upper = fine-leaf j p f ∙ ne_eqb j height (omega arith) in
      let rest = onward (λ x. pages_from h x.1) (seek bytes_order key (B p)) in
      let n : j + length (p ∷ rest) ≡ j + 1 + length rest = omega arith in
      rw (page-visited j (suc left) p (omega arith) l f, d, n)
      (upper_decides b key (file_size b) p f.page (fine-full j p f) (λ c. lookup_from (suc left) b key c.0) (j + 1) (λ x. record_from h x.1) (λ x. pages_from h x.1)
      upper (λ x s. let y : suc j ≡ j + 1 = omega arith in
      rw y at (descends h (suc j) left x.1 x.0 (omega arith) (omega arith) (seek-all (Along (suc h) (suc j)) key (B p) x u.1 s))))

-- from the root of a sound index down
module _ (b key : List ℕ) (s : Sound b) (e : length key ≡ key_length b) where
  abbrev h : ℕ
  h = s.height

  abbrev r : ℕ
  r = root_offset b

  abbrev T : Tree (List ℕ) h
  T = index_tree b s.height

  abbrev GoodWith : ℕ → Type 0
  GoodWith k = (i : ℕ) → i ≤ h → LevelGood b k (file_size b) (eqb i 0) (eqb i h) (level_pages b k (file_size b) r i)

  few : h < max_levels
  few = omega (arith, s.levels)

  fine-levels : (i : ℕ) → i < suc h → All (λ x. Fine b key h few (0 + i) x.1) (generation (B b key h few) i (root_entry r))
  fine-levels i l =
      let good : GoodWith (length key) = subst GoodWith (sym e) (sound-levels b s) in
      let z : 0 + i ≡ i = omega arith in
      rw z (all_of_map (Fine b key h few i) (λ x. x.1) (generation (B b key h few) i (root_entry r)) (good i (omega arith)).fit)

  abbrev stored : ℕ → ℕ → List (List ℕ × ℕ)
  stored k p = entries_at k (file_size b) b p

  steps : let S = stored (length key) in
      lookup_from max_levels b key r ≡ answer_of (store_lookup bytes_order key h r S) (0 + length (store_visited bytes_order key h r S))
  steps = descends b key h few h 0 (max_levels - 1) r [] (omega arith) (omega arith) (levels-along b key h few (suc h) 0 (root_entry r) fine-levels).0

  -- Theorem: for features 1 lookup's steps on a sound index, for a key of its length, are the theory's lookup in its tree
  pub lookup-tree : eqb (features b) 0 ≡ false → lookup_rule b key ≡ answer_of (lookup bytes_order key h T) (length (visited bytes_order key h T))
  unfolding lookup_rule unless
  lookup-tree one =
      let S = stored (key_length b) in
      let v = store_visited bytes_order key h r (stored (key_length b)) in
      let z : 0 + length v ≡ length v = omega arith in
      let d : lookup_from max_levels b key r ≡ answer_of (store_lookup bytes_order key h r S) (length v) = rw (e, z) at steps in
      rw (s.header, eq-eqb (length key) (key_length b) e)
      (steps-key b key (features b) one ∙ d ∙ ap₂ (λ (o : Option ℕ) (l : List ℕ). answer_of o (length l)) (sym (lookup-read bytes_order S key h r))
      (sym (visited-read bytes_order S key h r)))

  -- for features 1, whose lookup does not go on
  module _ (one : features b ≡ good_features) where
    -- Theorem: lookup gives what the sorted list of the leaves' pairs has under the key, absent exactly if it has none
    listed : lookup bytes_order key h T ≡ find bytes_order key (pairs h T)
    listed = lookup-find (kept_by b) (ap (goes_on_for bytes_order) one) key h T (sound-index b s (file_size b) (omega arith)).ordered

    pub lookup-list : lookup_rule b key ≡ answer_of (find bytes_order key (pairs h T)) (length (visited bytes_order key h T))
    lookup-list = rw (← listed) (lookup-tree (ap (λ (n : ℕ). eqb n 0) one))

    -- Theorem: a key that is there is found after as many pages as there are levels
    pub found-pages : (n : ℕ) → find bytes_order key (pairs h T) ≡ some n → lookup_rule b key ≡ answer.found (record_of n) (h + 1)
    found-pages n f =
        let v = visited-found bytes_order key h T n (listed ∙ f) in
        let z : suc h ≡ h + 1 = omega arith in
        lookup-list ∙ rw (f, v, z)

    -- Theorem: a key that is not there is absent
    pub absent-list : find bytes_order key (pairs h T) ≡ none → lookup_rule b key ≡ answer.absent (length (visited bytes_order key h T))
    absent-list f = lookup-list ∙ rw f
