-- Laws: lookup of a key's first record on a sound index of either features. Its steps give the first record that the sorted list of the leaves' pairs has under
-- the key; a found key after as many pages as there are levels, or one more. Assumes nothing.
use Prim.Native.Nat.{ℕ, zero, suc, ◌+◌, ◌-◌, ◌≤◌, ◌<◌}
use Rattle.std.specs.Prelude.{◌≡◌, Bool, cond, ◌&&◌, ◌||◌, List, [], ◌∷◌, length, eqb, leb}
use Rattle.std.proofs.Math.Path.{refl, ap}
use Rattle.std.proofs.Common.{sym, ◌∙◌, subst}
use Rattle.std.proofs.Math.Bool.{true, false}
use Rattle.std.proofs.Math.Option.{Option, none, some}
use native.Mathlib.Omega.{arith}
use borrow.Author.Tests.{eq-eqb, ne_eqb, eqb-false, leb-true}
use Rattle.refusal.specs.Checks.{unless}
use Rattle.basis.specs.Lists.{All}
use Rattle.basis.specs.Tests.{either, both, or_left, contra, impossible}
use Rattle.octets.specs.Order.{bytes_le, ordering, is_equal}
use Rattle.tree.specs.Lists.{NonEmpty, occ}
use Rattle.tree.proofs.ListLaws.{all_unit, all_map2, non_empty-length}
use Rattle.tree.specs.Clauses.{Links, Linked}
use Rattle.tree.specs.Pairs.{seek, if_equal, get}
use Rattle.tree.proofs.KeepingLaws.{find-get}
use Rattle.tree.specs.Tree.{Tree, pairs, level}
use Rattle.tree.specs.LookupFirst.{Trip, neighbour, first_record}
use Rattle.tree.proofs.LookupLaws.{first_record-find, first_record-found}
use Rattle.tree.specs.Store.First.{linked_page, seek_or_last, store_record_under, store_record}
use Rattle.tree.proofs.Store.FirstLaws.{record_read}
use Rattle.tree.proofs.Insertion.Levels.{level_under-pages}
use Rattle.tree.proofs.IndexPages.{no_page-unused}
use Rattle.idx_page.specs.Header.{max_levels, no_page, root_offset, file_size, key_length, features}
use Rattle.idx_page.specs.Page.{attribute_at, count_at, right_at, leaf_bit, capacity, key_at, number_at, count_good, page_good}
use Rattle.idx_page.specs.KeyOrder.{bytes_order}
use Rattle.idx_page.specs.KeyOrderLaws.{equal-le}
use Rattle.idx_page.specs.Reading.{entries_at}
use Rattle.idx_page.proofs.SearchLaws.{first_entry}
use Rattle.idx_page.specs.Reading.{entries_from}
use Rattle.idx_page.proofs.ReadingLaws.{entries_by_count, length-entries-from}
use Rattle.idx_lookup.specs.Lookup.{record_of}
use Rattle.idx_lookup.specs.FirstRecord.{entry_decides, neighbour_decides, first_from}
use Rattle.idx_lookup.specs.Lookup.{lookup_rule}
use Rattle.idx_lookup.specs.LookupLaws.{steps_record}
use Rattle.idx_lookup.specs.Answer.{Answer}
use Rattle.idx_lookup.specs.Answer as answer
use Rattle.idx_sound.specs.Sound.{Sound, index_tree, links_of, kept_by}
use Rattle.idx_sound.specs.AuditTest.{Entries, attribute_of, last_number}
use Rattle.tree.proofs.Levels.{below, generation, all_of_map, all_of_concat}
use Rattle.idx_sound.proofs.RunLaws.{Fits}
use Rattle.idx_sound.proofs.LevelLaws.{LevelGood}
use Rattle.idx_sound.specs.AttributeLaws.{leaf-bit}
use Rattle.idx_sound.proofs.ShapeLaws.{root_entry, level_pages, sound-levels}
use Rattle.idx_sound.proofs.IndexLaws.{index_of, sound-index, sound-sized}
use Rattle.idx_lookup_laws.specs.FoundLaws.{answer_of, seek-le, seek-all, searched, attribute-passes, first_is}

-- the answer by what a lookup comes to, after n pages before it
abbrev pub trip_answer : Trip → ℕ → Answer
trip_answer t n = answer_of t.0 (n + length t.1)

cond_answer : (t : Bool) (r n : ℕ) → cond t (answer.found (record_of r) n) (answer.absent n) ≡ answer_of (cond t (some r) none) n
cond_answer true r n = refl
cond_answer false r n = refl

-- a key is equal to another if each is at or below the other
equal-both : (a key : List ℕ) → is_equal (ordering a key) ≡ (bytes_le key a && bytes_le a key)
unfolding ordering
equal-both a key = either (bytes_le a key)
    (λ e. either (bytes_le key a) (λ f. rw (e, f)) (λ f. rw (e, f)))
    (λ e. either (bytes_le key a) (λ f. rw (e, f)) (λ f. rw (e, f)))

-- the entry that lookup goes down by: the first at or above the key, else the last
pick_all : (P : List ℕ × ℕ → Type 0) (key : List ℕ) (x : List ℕ × ℕ) (xs : Entries) → All P (x ∷ xs) → P (seek_or_last bytes_order key x xs)
pick_all P key x [] a = a.0
pick_all P key x (y ∷ ys) a = either (bytes_le key x.0) (λ u. rw u a.0) (λ u. rw u (pick_all P key y ys a.1))

pick_some : (key : List ℕ) (x : List ℕ × ℕ) (xs : Entries) (e : List ℕ × ℕ) → seek bytes_order key (x ∷ xs) ≡ some e → seek_or_last bytes_order key x xs ≡ e
pick_some key x [] e h = either (bytes_le key x.0)
    (λ u. let d : some x ≡ some e = rw u at h in cc)
    (λ u. let d : none ≡ some e = rw u at h in impossible (cc))
pick_some key x (y ∷ ys) e h = either (bytes_le key x.0)
    (λ u. let d : some x ≡ some e = rw u at h in rw u (cc))
    (λ u. rw u (pick_some key y ys e (rw u at h)))

pick_none : (key : List ℕ) (n : ℕ) (x : List ℕ × ℕ) (xs : Entries) → seek bytes_order key (x ∷ xs) ≡ none →
    (seek_or_last bytes_order key x xs).1 ≡ last_number n (x ∷ xs)
pick_none key n x [] h = refl
pick_none key n x (y ∷ ys) h = either (bytes_le key x.0)
    (λ u. let d : some x ≡ none = rw u at h in impossible (cc))
    (λ u. rw u (pick_none key x.1 y ys (rw u at h)))

last_entry : (b : List ℕ) (k p m d i : ℕ) → last_number d (entries_from b k p (suc m) i) ≡ number_at b k p (i + m)
unfolding entries_from
last_entry b k p zero d i = let z : i + 0 ≡ i = omega arith in rw z
last_entry b k p (suc m) d i = last_entry b k p m (number_at b k p i) (i + 1) ∙ (let z : i + 1 + m ≡ i + suc m = omega arith in rw z)

-- each page's right link names the next page of the list, so that what holds of all pages holds of it
right-holds : (P : ℕ → Type 0) (l : Links) (prev : ℕ) (ps : List ℕ) → Linked no_page l prev ps → All P ps →
    All (λ p. eqb (l.right p) no_page ≡ false → P (l.right p)) ps
right-holds P l prev [] c a = tt
right-holds P l prev (p ∷ []) c a = ((λ u. contra (eq-eqb (l.right p) no_page c.1) u), tt)
right-holds P l prev (p ∷ q ∷ qs) c a = ((λ u. subst P (sym c.1) a.1.0), right-holds P l p (q ∷ qs) c.2 a.1)

-- a step from a good page, with entry i the first at or above the key
module _ (left : ℕ) (b key : List ℕ) (p : ℕ) (good : page_good b (length key) (file_size b) p (eqb (max_levels - left) 1) (eqb left 0) ≡ true) where
  abbrev i : ℕ
  i = first_entry b key (length key) p (count_at b p) 0

  none_first : first_entry b key (length key) p (count_at b p) 0 ≡ count_at b p → eqb (max_levels - left) 1 ≡ true →
      first_from (suc left) b key p ≡ answer.absent (max_levels - left)
  unfolding first_from
  none_first c f = rw (good, eq-eqb i (count_at b p) c, f, first_from)

  none-leaf : first_entry b key (length key) p (count_at b p) 0 ≡ count_at b p → eqb (max_levels - left) 1 ≡ false → leaf_bit (attribute_at b p) ≡ true →
      first_from (suc left) b key p ≡ neighbour_decides b key (max_levels - left) (right_at b p)
  unfolding first_from
  none-leaf c f l = rw (good, eq-eqb i (count_at b p) c, f, l, first_from)

  none-upper : first_entry b key (length key) p (count_at b p) 0 ≡ count_at b p → eqb (max_levels - left) 1 ≡ false → leaf_bit (attribute_at b p) ≡ false →
      first_from (suc left) b key p ≡ first_from left b key (number_at b (length key) p (count_at b p - 1))
  unfolding first_from
  none-upper c f l = rw (good, eq-eqb i (count_at b p) c, f, l, first_from)

  some-leaf : (first_entry b key (length key) p (count_at b p) 0 ≡ count_at b p → ⊥) → leaf_bit (attribute_at b p) ≡ true →
      first_from (suc left) b key p ≡ entry_decides b key (max_levels - left) p (first_entry b key (length key) p (count_at b p) 0)
  unfolding first_from
  some-leaf c l = rw (good, ne_eqb i (count_at b p) c, l, first_from)

  some_upper : (first_entry b key (length key) p (count_at b p) 0 ≡ count_at b p → ⊥) → leaf_bit (attribute_at b p) ≡ false →
      first_from (suc left) b key p ≡ first_from left b key (number_at b (length key) p (first_entry b key (length key) p (count_at b p) 0))
  unfolding first_from
  some_upper c l = rw (good, ne_eqb i (count_at b p) c, l, first_from)

-- a good count, of a page whose attribute is not a lone root leaf's
good-count : (k a n : ℕ) → eqb a 3 ≡ false → count_good k a n ≡ true → (0 < n) × (n ≤ capacity k)
unfolding count_good
good-count k a n e c =
    let t = both (leb n (capacity k)) (leb 1 n || eqb a 3) c in
    (leb-true 1 n (or_left (leb 1 n) (eqb a 3) t.1 e), leb-true n (capacity k) t.0)

module _ (b key : List ℕ) (size : ℕ) where
  abbrev k : ℕ
  k = length key

  abbrev S : ℕ → Entries
  S = entries_at (length key) size b

  -- an entry at or above the key decides in a leaf
  entry-decides : (n p i : ℕ) → bytes_le key (key_at b k p i) ≡ true →
      entry_decides b key n p i ≡ answer_of (if_equal bytes_order key (key_at b k p i, number_at b k p i)) n
  unfolding entry_decides
  entry-decides n p i h = rw (equal-le (key_at b k p i) key h) (cond_answer (bytes_le (key_at b k p i) key) (number_at b k p i) n)

  -- a leaf that is not the root
  abbrev Leaf : ℕ → Type 0
  Leaf q = Fits b (length key) size (attribute_of false true) q

  leaf-some : (q : ℕ) → Leaf q → (0 < count_at b q) × (count_at b q ≤ capacity k)
  leaf-some q f = good-count k (attribute_of false true) (count_at b q) refl f.count

  first_entry_lem : (q m : ℕ) → count_at b q ≡ suc m → Leaf q → S q ≡ (key_at b k q 0, number_at b k q 0) ∷ entries_from b k q m 1
  unfolding entries_from
  first_entry_lem q m e f = entries_by_count k size b q f.page (leaf-some q f).1 ∙ ap (λ (n : ℕ). entries_from b k q n 0) e

  good-leaf : (q : ℕ) → Leaf q → page_good b (length key) size q false true ≡ true
  unfolding page_good
  good-leaf q f = rw (f.page, f.attribute, attribute-passes false true true (λ u. contra refl u)) f.count

  first_decides : (q a : ℕ) → entry_decides b key a q 0 ≡ answer_of (get bytes_order key ((key_at b k q 0, number_at b k q 0) ∷ [])) a
  unfolding entry_decides
  first_decides q a = rw (equal-both (key_at b k q 0) key) (cond_answer (bytes_le key (key_at b k q 0) && bytes_le (key_at b k q 0) key) (number_at b k q 0) a)

-- a sound index with `height` levels under the root
module _ (b key : List ℕ) (height : ℕ) (few : height < max_levels) where
  abbrev B : ℕ → Entries
  B = entries_at (length key) (file_size b) b

  -- the right neighbour decides
  neighbour-there : (n q : ℕ) → eqb q no_page ≡ false → Leaf b key (file_size b) q → (m : ℕ) → count_at b q ≡ m →
      neighbour_decides b key n q ≡ trip_answer (neighbour bytes_order key (linked_page no_page B q)) n
  unfolding neighbour_decides
  neighbour-there n q e f zero c = absurd (omega (arith, (leaf-some b key (file_size b) q f).0))
  neighbour-there n q e f (suc m) c =
      rw (e, good-leaf b key (file_size b) q f, first_entry_lem b key (file_size b) q m c f, neighbour_decides) (first_decides b key (file_size b) q (n + 1))

  neighbour-decides : (n q : ℕ) → (eqb q no_page ≡ false → Leaf b key (file_size b) q) →
      neighbour_decides b key n q ≡ trip_answer (neighbour bytes_order key (linked_page no_page B q)) n
  unfolding neighbour_decides
  neighbour-decides n q ok = either (eqb q no_page)
      (λ e. let z : n + 0 ≡ n = omega arith in rw (e, z, neighbour_decides))
      (λ e. neighbour-there n q e (ok e) (count_at b q) refl)

  -- a page on level j from the root: it fits, and if it is a leaf under the root, so does its right neighbour
  abbrev Fit : ℕ → ℕ → Type 0
  Fit j p = Fits b (length key) (file_size b) (attribute_of (eqb j 0) (eqb j height)) p

  abbrev Fine : ℕ → ℕ → Type 0
  Fine j p = Fit j p × (eqb (right_at b p) no_page ≡ false → Fit j (right_at b p))

  abbrev Along : ℕ → ℕ → List ℕ × ℕ → Type 0
  Along zero j e = Unit {0}
  Along (suc n) j e = Fine j e.1 × All (Along n (suc j)) (B e.1)

  levels-along : (n j : ℕ) (es : Entries) → ((i : ℕ) → i < n → All (λ e. Fine (j + i) e.1) (generation B i es)) → All (Along n j) es
  levels-along zero j es a = all_unit es
  levels-along (suc n) j es a =
      let z : j + 0 ≡ j = omega arith in
      let lower = levels-along n (suc j) (below B es) (λ i l. let y : j + suc i ≡ suc j + i = omega arith in rw y at (a (suc i) (omega arith))) in
      all_map2 (λ e. Fine j e.1) (λ e. All (Along n (suc j)) (B e.1)) (Along (suc n) j) (λ e x y. (x, y)) es (rw z at (a 0 (omega arith)))
      (all_of_concat (Along n (suc j)) (λ e. B e.1) es lower)

  page-good : (j left p : ℕ) → j ≤ height → suc left + j ≡ max_levels → Fit j p →
      page_good b (length key) (file_size b) p (eqb (max_levels - left) 1) (eqb left 0) ≡ true
  unfolding page_good
  page-good j left p l e f =
      let d : max_levels - left ≡ j + 1 = omega arith in
      let t = attribute-passes (eqb j 0) (eqb j height) (eqb left 0) (λ u. ne_eqb left 0 (omega (arith, eqb-false j height u))) in
      rw (f.page, f.attribute, d, first_is j, t) f.count

  fit-full : (j p : ℕ) → Fit j p → count_at b p ≤ capacity (length key)
  unfolding count_good
  fit-full j p f = leb-true _ _ (both _ _ f.count).0

  fit-leaf : (j p : ℕ) → Fit j p → leaf_bit (attribute_at b p) ≡ eqb j height
  fit-leaf j p f = ap leaf_bit f.attribute ∙ leaf-bit (eqb j 0) (eqb j height)

  -- a page under the root has an entry
  not_three : (j : ℕ) → 0 < j → eqb (attribute_of (eqb j 0) (eqb j height)) 3 ≡ false
  not_three j pos = rw (ne_eqb j 0 (omega arith)) (either (eqb j height) (λ e. rw e) (λ e. rw e))

  -- from a page under the root on
  abbrev trip_from : ℕ → ℕ → Trip
  trip_from h p = store_record_under bytes_order no_page (right_at b) B key h p

  leaf-attribute : (j : ℕ) → 0 < j → j ≡ height → attribute_of (eqb j 0) (eqb j height) ≡ attribute_of false true
  leaf-attribute j pos e = rw (ne_eqb j 0 (omega arith), eq-eqb j height e)

  leaf-steps : (j left p : ℕ) → 0 < j → j ≡ height → suc left + j ≡ max_levels → Fine j p →
      first_from (suc left) b key p ≡ trip_answer (trip_from zero p) j
  leaf-steps j left p pos e l f =
      let d : max_levels - left ≡ j + 1 = omega arith in
      let leaf = fit-leaf j p f.0 ∙ eq-eqb j height e in
      let inner = ap (λ (n : ℕ). eqb n 1) d ∙ ne_eqb (j + 1) 1 (omega arith) in
      let good = page-good j left p (omega arith) l f.0 in
      searched b key (file_size b) p f.0.page (fit-full j p f.0)
      (λ c s.
      let t = neighbour bytes_order key (linked_page no_page B (right_at b p)) in
      let z : j + suc (length t.1) ≡ j + 1 + length t.1 = omega arith in
      none-leaf left b key p good c inner leaf
      ∙ ap (λ (n : ℕ). neighbour_decides b key n (right_at b p)) d
      ∙ rw (s, z) (neighbour-decides (j + 1) (right_at b p)
      (λ u. subst (λ (a : ℕ). Fits b (length key) (file_size b) a (right_at b p)) (leaf-attribute j pos e) (f.1 u))))
      (λ c s.
      some-leaf left b key p good c leaf
      ∙ ap (λ (n : ℕ). entry_decides b key n p (i left b key p good)) d
      ∙ rw s (entry-decides b key (file_size b) (j + 1) p (i left b key p good) (seek-le key (B p) _ s)))

  -- a page above the leaves, and under the root
  last-number : (j p : ℕ) (x : List ℕ × ℕ) (xs : Entries) → Fit j p → 0 < j → B p ≡ x ∷ xs → seek bytes_order key (x ∷ xs) ≡ none →
      number_at b (length key) p (count_at b p - 1) ≡ (seek_or_last bytes_order key x xs).1
  last-number j p x xs f pos e s =
      sym (counted (count_at b p) (good-count (length key) (attribute_of (eqb j 0) (eqb j height)) (count_at b p) (not_three j pos) f.count).0)
      ∙ ap (last_number 0) (sym (entries_by_count (length key) (file_size b) b p f.page (fit-full j p f)) ∙ e)
      ∙ sym (pick_none key 0 x xs s)
    where
      counted : (n : ℕ) → 0 < n → last_number 0 (entries_from b (length key) p n 0) ≡ number_at b (length key) p (n - 1)
      counted zero u = absurd (omega arith)
      counted (suc m) u = last_entry b (length key) p m 0 0 ∙ ap (number_at b (length key) p) (omega arith)

  upper-steps : (h j left p : ℕ) → 0 < j → j < height → suc (suc left) + j ≡ max_levels → Fit j p → (x : List ℕ × ℕ) (xs : Entries) → B p ≡ x ∷ xs →
      first_from (suc left) b key (seek_or_last bytes_order key x xs).1 ≡ trip_answer (trip_from h (seek_or_last bytes_order key x xs).1) (suc j) →
      first_from (suc (suc left)) b key p ≡ trip_answer (trip_from (suc h) p) j
  upper-steps h j left p pos low l f x xs e rec =
      let d : max_levels - suc left ≡ j + 1 = omega arith in
      let upper = fit-leaf j p f ∙ ne_eqb j height (omega arith) in
      let inner = ap (λ (n : ℕ). eqb n 1) d ∙ ne_eqb (j + 1) 1 (omega arith) in
      let good = page-good j (suc left) p (omega arith) l f in
      let t = trip_from h (seek_or_last bytes_order key x xs).1 in
      let z : j + suc (length t.1) ≡ suc j + length t.1 = omega arith in
      searched b key (file_size b) p f.page (fit-full j p f)
      (λ c s.
      none-upper (suc left) b key p good c inner upper
      ∙ ap (first_from (suc left) b key) (last-number j p x xs f pos e (subst (λ (es : Entries). seek bytes_order key es ≡ none) e s))
      ∙ rw (e, z) rec)
      (λ c s.
      let y : List ℕ × ℕ = (key_at b (length key) p (i (suc left) b key p good), number_at b (length key) p (i (suc left) b key p good)) in
      some_upper (suc left) b key p good c upper
      ∙ ap (λ (w : List ℕ × ℕ). first_from (suc left) b key w.1) (sym (pick_some key x xs y (subst (λ (es : Entries). seek bytes_order key es ≡ some y) e s)))
      ∙ rw (e, z) rec)

  some-entry : (j p : ℕ) → 0 < j → Fit j p → NonEmpty (B p)
  some-entry j p pos f =
      subst NonEmpty (sym (entries_by_count (length key) (file_size b) b p f.page (fit-full j p f)))
      (listed (count_at b p) (good-count (length key) (attribute_of (eqb j 0) (eqb j height)) (count_at b p) (not_three j pos) f.count).0)
    where
      listed : (n : ℕ) → 0 < n → NonEmpty (entries_from b (length key) p n 0)
      listed n u = non_empty-length (entries_from b (length key) p n 0) (omega (arith, length-entries-from b (length key) p n 0))

  upper-from : (h j left p : ℕ) → 0 < j → j < height → suc (suc left) + j ≡ max_levels → Fit j p → (es : Entries) → B p ≡ es → NonEmpty es →
      All (Along (suc h) (suc j)) es →
      ((y : List ℕ × ℕ) → Along (suc h) (suc j) y → first_from (suc left) b key y.1 ≡ trip_answer (trip_from h y.1) (suc j)) →
      first_from (suc (suc left)) b key p ≡ trip_answer (trip_from (suc h) p) j
  upper-from h j left p pos low l f [] e s v rec = absurd s
  upper-from h j left p pos low l f (x ∷ xs) e s v rec =
      upper-steps h j left p pos low l f x xs e (rec (seek_or_last bytes_order key x xs) (pick_all (Along (suc h) (suc j)) key x xs v))

  -- from a page under the root on, the steps are the theory's
  under-steps : (h j left p : ℕ) (a : List ℕ) → 0 < j → j + h ≡ height → suc left + j ≡ max_levels → Along (suc h) j (a, p) →
      first_from (suc left) b key p ≡ trip_answer (trip_from h p) j
  under-steps zero j left p a pos e l u = leaf-steps j left p pos (omega arith) l u.0
  under-steps (suc h) j zero p a pos e l u = absurd (omega arith)
  under-steps (suc h) j (suc left) p a pos e l u =
      upper-from h j left p pos (omega arith) l u.0.0 (B p) refl (some-entry j p pos u.0.0) u.1
      (λ y v. under-steps h (suc j) left y.1 y.0 (omega arith) (omega arith) (omega arith) v)

  -- from the root on: a lone leaf, and a root above levels
  root-leaf : (p : ℕ) → height ≡ 0 → Fit 0 p → first_from max_levels b key p ≡ trip_answer (store_record bytes_order no_page (right_at b) B key 0 p) 0
  root-leaf p e f =
      let leaf = fit-leaf 0 p f ∙ eq-eqb 0 height (omega arith) in
      let good = page-good 0 (max_levels - 1) p (omega arith) (omega arith) f in
      searched b key (file_size b) p f.page (fit-full 0 p f)
      (λ c s. none_first (max_levels - 1) b key p good c refl ∙ rw s)
      (λ c s.
      some-leaf (max_levels - 1) b key p good c leaf
      ∙ rw s (entry-decides b key (file_size b) 1 p (i (max_levels - 1) b key p good) (seek-le key (B p) _ s)))

  root-upper : (h p : ℕ) → height ≡ suc h → Fit 0 p →
      ((x : List ℕ × ℕ) → seek bytes_order key (B p) ≡ some x → first_from (max_levels - 1) b key x.1 ≡ trip_answer (trip_from h x.1) 1) →
      first_from max_levels b key p ≡ trip_answer (store_record bytes_order no_page (right_at b) B key (suc h) p) 0
  root-upper h p e f rec =
      let upper = fit-leaf 0 p f ∙ ne_eqb 0 height (omega arith) in
      let good = page-good 0 (max_levels - 1) p (omega arith) (omega arith) f in
      searched b key (file_size b) p f.page (fit-full 0 p f)
      (λ c s. none_first (max_levels - 1) b key p good c refl ∙ rw s)
      (λ c s.
      let y : List ℕ × ℕ = (key_at b (length key) p (i (max_levels - 1) b key p good), number_at b (length key) p (i (max_levels - 1) b key p good)) in
      let t = trip_from h y.1 in
      let z : 0 + suc (length t.1) ≡ 1 + length t.1 = omega arith in
      some_upper (max_levels - 1) b key p good c upper ∙ rw (s, z) (rec y s))

  root-steps : (p : ℕ) (a : List ℕ) → Along (suc height) 0 (a, p)
      → first_from max_levels b key p ≡ trip_answer (store_record bytes_order no_page (right_at b) B key height p) 0
  root-steps p a u = go height refl u
    where
      go : (h : ℕ) → height ≡ h → Along (suc h) 0 (a, p) → first_from max_levels b key p
          ≡ trip_answer (store_record bytes_order no_page (right_at b) B key h p) 0
      go zero e v = root-leaf p e v.0.0
      go (suc h) e v = root-upper h p e v.0.0
          (λ x s. under-steps h 1 (max_levels - 2) x.1 x.0 (omega arith) (omega arith) (omega arith) (seek-all (Along (suc h) 1) key (B p) x v.1 s))

-- from the root of a sound index down
module _ (b key : List ℕ) (s : Sound b) (e : length key ≡ key_length b) where
  abbrev h : ℕ
  h = s.height

  abbrev r : ℕ
  r = root_offset b

  abbrev T : Tree (List ℕ) h
  T = index_tree b s.height

  abbrev GoodWith : ℕ → Type 0
  GoodWith k = (i : ℕ) → i ≤ h → LevelGood b k (file_size b) (eqb i 0) (eqb i h) (level_pages b k (file_size b) r i)

  few : h < max_levels
  few = omega (arith, s.levels)

  fine-levels : (i : ℕ) → i < suc h → All (λ x. Fine b key h few (0 + i) x.1) (generation (B b key h few) i (root_entry r))
  fine-levels i l =
      let good : GoodWith (length key) = subst GoodWith (sym e) (sound-levels b s) in
      let z : 0 + i ≡ i = omega arith in
      let g = good i (omega arith) in
      let ps = level_pages b (length key) (file_size b) r i in
      rw z (all_of_map (Fine b key h few i) (λ x. x.1) (generation (B b key h few) i (root_entry r))
      (all_map2 (Fit b key h few i) (λ p. eqb (right_at b p) no_page ≡ false → Fit b key h few i (right_at b p)) (Fine b key h few i) (λ p x y. (x, y)) ps
      g.fit (right-holds (Fit b key h few i) (links_of b) no_page ps g.linked g.fit)))

  abbrev stored : ℕ → ℕ → List (List ℕ × ℕ)
  stored k p = entries_at k (file_size b) b p

  steps : first_from max_levels b key r ≡ trip_answer (store_record bytes_order no_page (right_at b) (stored (length key)) key h r) 0
  steps = root-steps b key h few r [] (levels-along b key h few (suc h) 0 (root_entry r) fine-levels).0

  -- the number of no page is on no level
  none-there : occ no_page (level 0 h T) ≡ 0
  none-there =
      let unused = no_page-unused (index_of b h s.free) (sound-index b s (file_size b) (omega arith)).pages_once in
      omega (arith, unused, level_under-pages no_page 0 (suc h) (key, T))

  -- Theorem: for features 0 the steps on a sound index, for a key of its length, are the theory's lookup of the first record in its tree
  pub first-tree : eqb (features b) 0 ≡ true → lookup_rule b key ≡ trip_answer (first_record bytes_order key h T) 0
  unfolding lookup_rule unless
  first-tree several =
      let S = stored (key_length b) in
      let d : first_from max_levels b key r ≡ trip_answer (store_record bytes_order no_page (right_at b) S key h r) 0 = rw e at steps in
      rw (s.header, eq-eqb (length key) (key_length b) e)
      (steps_record b key (features b) several ∙ d ∙ ap (λ (t : Trip). trip_answer t 0)
      (sym (record_read bytes_order no_page (links_of b) S key (capacity (key_length b)) h r (sound-sized b s) s.links none-there)))

  found_first : (first_record bytes_order key h T).0 ≡ get bytes_order key (pairs h T)
  found_first =
      let o = (sound-index b s (file_size b) (omega arith)).ordered in
      first_record-find (kept_by b) key h T o ∙ find-get (kept_by b) key (pairs h T) s.ascending

  -- Theorem: lookup gives the first record that the sorted list of the leaves' pairs has under the key, absent exactly if it has none
  pub first-list : eqb (features b) 0 ≡ true → lookup_rule b key ≡ answer_of (get bytes_order key (pairs h T)) (0 + length (first_record bytes_order key h T).1)
  first-list several = first-tree several ∙ ap (λ (o : Option ℕ). answer_of o (0 + length (first_record bytes_order key h T).1)) found_first

  -- Theorem: a key that is there is found after as many pages as there are levels, or one more
  pub first-pages : eqb (features b) 0 ≡ true → (n : ℕ) → get bytes_order key (pairs h T) ≡ some n →
      (pages : ℕ) × (lookup_rule b key ≡ answer.found (record_of n) pages) × (h + 1 ≤ pages) × (pages ≤ h + 2)
  first-pages several n f =
      let v = first_record-found bytes_order key h T n (found_first ∙ f) in
      (0 + length (first_record bytes_order key h T).1, first-list several ∙ rw f, omega arith, omega arith)
