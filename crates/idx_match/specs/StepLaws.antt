-- Laws: one entry by its tests, and the loops over the entries of a leaf, over the leaves and down to the first leaf, by what is left to do. The proofs of
-- these functions cite them. Assumes nothing.
use Prim.Native.Nat.{ℕ, zero, suc, ◌+◌, ◌-◌, ◌≤◌, ◌<◌}
use Rattle.std.specs.Prelude.{◌≡◌, Bool, true, false, ◌&&◌, take, drop, eqb}
use Rattle.std.proofs.Math.Path.{refl, sym}
use Rattle.std.proofs.Common.{ap, ◌∙◌}
use mathlib.Core.List.{List, [], ◌∷◌, ◌++◌}
use Rattle.std.proofs.Math.Nat.{min-le_right}
use native.Mathlib.Omega.{arith}
use Rattle.std.proofs.Math.ListN.{length, length-append}
use Rattle.basis.specs.Tests.{either}
use Rattle.std.specs.declared.cmp.Ordering.{Ordering}
use Rattle.octets.specs.Order.{ordering, is_equal}
use Rattle.octets.specs.Store.{window}
use Rattle.octets.specs.StoreLaws.{length-window}
use Rattle.dbf_table.specs.Table.{records_end, record_start}
use Rattle.dbf_field.specs.Field.{number_good}
use Rattle.dbf_cell.specs.CellLaws.{part-window}
use Rattle.tree.specs.Lists.{concat_map}
use Rattle.idx_page.specs.Header.{max_levels, is_page}
use Rattle.idx_page.specs.Page.{count_at, capacity, entry_area, key_at, number_at, right_at}
use Rattle.idx_page.specs.PageLaws.{capacity-small}
use Rattle.idx_page.specs.Reading.{entries_at}
use Rattle.idx_page.specs.Reading.{entries_from}
use Rattle.idx_page.proofs.ReadingLaws.{entries_are, entries_none, length-entries}
use Rattle.idx_page.specs.Children.{is_leaf, first_child}
use Rattle.idx_sound.specs.AuditTest.{Entries, max_pages, chain}
use Rattle.idx_keys.specs.EntryLaws.{from_on, from_end}
use Rattle.idx_keys.specs.FileLaws.{chain-none, chain-some}
use Rattle.idx_match.specs.declared.Column.{Column}
use Rattle.idx_match.specs.MatchTest.{entry_at, column_bytes, entry_good, entries_good, entries_match, first_leaf, entries_along, ColumnInside}

-- ---- one entry

-- the bytes from `at` to `at + n`, as a slice by its start and its end takes them
abbrev pub sliced : List ℕ → ℕ → ℕ → List ℕ
sliced t at n = take (at + n - at) (drop at t)

module _ (t : List ℕ) (c : Column) (number : ℕ) where
  pub entry-outside : (b : List ℕ) (p i : ℕ) → number ≡ number_at b c.length p i → number_good number c.records ≡ false
      → false ≡ entry_good t c (entry_at b c.length p i)
  unfolding entry_good
  entry-outside b p i en h = rw (← en, h)

  -- the record's field, from the end of the records before it on
  module _ (start : ℕ) (h : number_good number c.records ≡ true) (column : ColumnInside t c) (es : start ≡ records_end t (number - 1)) where
    pub field_inside : start + c.offset + c.length ≤ length t
    unfolding record_start
    field_inside = omega (arith, column.inside number h)

    pub field-length : length (sliced t (start + c.offset) c.length) ≡ c.length
    field-length = rw (part-window t (start + c.offset) c.length) (length-window t (start + c.offset) c.length field_inside)

    pub entry_compared : (b : List ℕ) (p i : ℕ) (o : Ordering) (r : Bool) → number ≡ number_at b c.length p i
        → o ≡ ordering (key_at b (length (sliced t (start + c.offset) c.length)) p i) (sliced t (start + c.offset) c.length)
        → r ≡ is_equal o → r ≡ entry_good t c (entry_at b c.length p i)
    unfolding entry_good column_bytes record_start
    entry_compared b p i o r en eo er =
        let e : o ≡ ordering (key_at b c.length p i) (window t (start + c.offset) c.length) =
        rw (field-length, part-window t (start + c.offset) c.length) at eo in
        er ∙ rw (← en, h, ← es) (ap is_equal e)

-- ---- the entries of a leaf

-- the entries from i on decide
abbrev pub EntriesLeft : List ℕ → Column → List ℕ → ℕ → ℕ → ℕ → Type 0
EntriesLeft t c b p n i = entries_good t c (entries_from b c.length p n 0) ≡ entries_good t c (entries_from b c.length p (n - i) i)

module _ (t : List ℕ) (c : Column) (b : List ℕ) (p n i : ℕ) (inv : EntriesLeft t c b p n i) where
  pub entries-end : n ≤ i → true ≡ entries_good t c (entries_from b c.length p n 0)
  unfolding entries_good
  entries-end h = sym (inv ∙ rw (from_end b c.length p n i h))

  module _ (h : i < n) (r : Bool) (er : r ≡ entry_good t c (entry_at b c.length p i)) where
    entries-step : entries_good t c (entries_from b c.length p n 0) ≡ (r && entries_good t c (entries_from b c.length p (n - (i + 1)) (i + 1)))
    unfolding entries_good
    entries-step = inv ∙ rw (from_on b c.length p n i h, ← er)

    pub entries_off : r ≡ false → false ≡ entries_good t c (entries_from b c.length p n 0)
    entries_off e = sym (entries-step ∙ rw e)

    pub entries-on : r ≡ true → EntriesLeft t c b p n (i + 1)
    entries-on e = entries-step ∙ rw e

-- a page has at most as many entries as its entry area has bytes
pub entries-few : (k size : ℕ) (b : List ℕ) (p : ℕ) → length (entries_at k size b p) ≤ entry_area
entries-few k size b p = either (is_page size p)
    (λ e. let few = capacity-small k in rw (length-entries k size b p e) (omega (arith, min-le_right (count_at b p) (capacity k))))
    (λ e. rw (entries_none k size b p e) (omega arith))

-- ---- the leaves

both-after : (x y z : Bool) → (x && (y && z)) ≡ ((x && y) && z)
both-after true y z = refl
both-after false y z = refl

chain-end : (b : List ℕ) (k size p left : ℕ) → left ≤ 0 → chain b size left p ≡ []
unfolding chain
chain-end b k size p zero h = refl
chain-end b k size p (suc left) h = absurd (omega arith)

-- entries that pass are counted; one that fails decides
module _ (t : List ℕ) (c : Column) where
  good_append : (xs ys : Entries) → entries_good t c (xs ++ ys) ≡ (entries_good t c xs && entries_good t c ys)
  unfolding entries_good
  good_append [] ys = refl
  good_append (x ∷ xs) ys = rw (good_append xs ys) (both-after (entry_good t c x) (entries_good t c xs) (entries_good t c ys))

  match_passed : (xs ys : Entries) (count : ℕ) → entries_good t c xs ≡ true → entries_match t c count (xs ++ ys) ≡ entries_match t c (count + length xs) ys
  unfolding entries_match
  match_passed xs ys count h =
      let e : count + length (xs ++ ys) ≡ count + length xs + length ys = omega (arith, length-append xs ys) in
      rw (good_append xs ys, h, e)

  match_failed : (xs ys : Entries) (count : ℕ) → entries_good t c xs ≡ false → entries_match t c count (xs ++ ys) ≡ false
  unfolding entries_match
  match_failed xs ys count h = rw (good_append xs ys, h)

  match_none : (count : ℕ) → entries_match t c count [] ≡ eqb count c.records
  unfolding entries_match entries_good
  match_none count = let e : count + 0 ≡ count = omega arith in rw e

-- the entries from the page p on decide, with `left` pages left and `count` entries counted
abbrev pub LeavesLeft : List ℕ → Column → List ℕ → ℕ → ℕ → ℕ → ℕ → ℕ → Type 0
LeavesLeft t c b size first p count left =
    entries_match t c 0 (entries_along b c.length size max_pages first) ≡ entries_match t c count (entries_along b c.length size left p)

module _ (t : List ℕ) (c : Column) (b : List ℕ) (size first p count left : ℕ) (inv : LeavesLeft t c b size first p count left) where
  none-left : chain b size left p ≡ [] → eqb count c.records ≡ entries_match t c 0 (entries_along b c.length size max_pages first)
  none-left e = sym (inv ∙ ap (λ (ps : List ℕ). entries_match t c count (concat_map (entries_at c.length size b) ps)) e ∙ match_none t c count)

  pub leaves-end : left ≤ 0 → eqb count c.records ≡ entries_match t c 0 (entries_along b c.length size max_pages first)
  leaves-end h = none-left (chain-end b c.length size p left h)

  pub leaves-none : is_page size p ≡ false → eqb count c.records ≡ entries_match t c 0 (entries_along b c.length size max_pages first)
  leaves-none e = none-left (chain-none b c.length size 0 p left e)

  -- the page p: its n entries are tested
  module _ (n : ℕ) (r : Bool) (more : 0 < left) (page : is_page size p ≡ true) (en : n ≡ length (entries_at c.length size b p))
      (er : r ≡ entries_good t c (entries_from b c.length p n 0)) where
    here-good : r ≡ entries_good t c (entries_at c.length size b p)
    here-good = er ∙ ap (entries_good t c) (sym (entries_are b c.length size p n en))

    along : (q : ℕ) → q ≡ right_at b p
        → entries_along b c.length size left p ≡ entries_at c.length size b p ++ entries_along b c.length size (left - 1) q
    along q eq = ap (concat_map (entries_at c.length size b)) (chain-some b c.length size 0 p left q (omega (arith, more)) page eq)

    pub leaves_off : r ≡ false → false ≡ entries_match t c 0 (entries_along b c.length size max_pages first)
    leaves_off e = sym (inv ∙ rw (along (right_at b p) refl) (match_failed t c (entries_at c.length size b p) _ count (sym here-good ∙ e)))

    pub leaves-on : (q next : ℕ) → q ≡ right_at b p → r ≡ true → next ≡ left - 1 → LeavesLeft t c b size first q (count + n) next
    leaves-on q next eq e less = rw less (inv ∙ rw (along q eq, en) (match_passed t c (entries_at c.length size b p) _ count (sym here-good ∙ e)))

-- ---- the first leaf

module _ (b : List ℕ) (k size : ℕ) where
  pub first-here : (l p : ℕ) → is_leaf b size p ≡ true → first_leaf b k size l p ≡ p
  unfolding first_leaf
  first-here zero p e = refl
  first-here (suc l) p e = rw (e, first_leaf)

  pub first-lower : (l p : ℕ) → is_leaf b size p ≡ false → first_leaf b k size (suc l) p ≡ first_leaf b k size l (first_child b k size p)
  unfolding first_leaf
  first-lower l p e = rw (e, first_leaf)

  -- the first leaf under the page p, with `left` levels left, is the root's
  abbrev pub FirstLeft : ℕ → ℕ → ℕ → Type 0
  FirstLeft root p left = first_leaf b k size (max_levels - 1) root ≡ first_leaf b k size left p

  module _ (root p left : ℕ) (inv : FirstLeft root p left) where
    pub first_stop : is_leaf b size p ≡ true → p ≡ first_leaf b k size (max_levels - 1) root
    first_stop e = sym (inv ∙ first-here left p e)

    pub first-end : left ≤ 0 → p ≡ first_leaf b k size (max_levels - 1) root
    unfolding first_leaf
    first-end h = let none : left ≡ 0 = omega arith in sym (inv ∙ rw none)

    pub first_on : (q next : ℕ) → left ≡ suc next → is_leaf b size p ≡ false → q ≡ first_child b k size p → FirstLeft root q next
    first_on q next d e eq = inv ∙ ap (λ (l : ℕ). first_leaf b k size l p) d ∙ first-lower next p e ∙ rw eq
