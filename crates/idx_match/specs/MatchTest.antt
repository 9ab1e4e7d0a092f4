-- Steps: the test that tells 0 from 31, as it is computed, entry after entry along the leaves. Only the match's inner functions cite it. TestLaws proves that
-- it holds exactly if the entries match, so a reader need not believe it.
use Rattle.std.specs.Prelude.{ℕ, zero, suc, ◌+◌, ◌-◌, ◌≤◌, ◌≡◌, Bool, true, false, ◌&&◌, List, [], ◌∷◌, length, eqb}
use Rattle.octets.specs.Store.{window}
use Rattle.octets.specs.Order.{ordering, is_equal}
use Rattle.dbf_table.specs.Table.{min_table, record_count, record_start, field_offset, field_length}
use Rattle.dbf_field.specs.Field.{number_good}
use Rattle.tree.specs.Lists.{concat_map}
use Rattle.idx_page.specs.Header.{max_levels, root_offset, file_size, key_length}
use Rattle.idx_page.specs.Page.{key_at, number_at}
use Rattle.idx_page.specs.Reading.{entries_at}
use Rattle.idx_page.specs.Children.{is_leaf, first_child}
use Rattle.idx_sound.specs.AuditTest.{Entries, max_pages, chain}
use Rattle.idx_match.specs.declared.Column.{Column}

-- ---- entries

-- entry i of the page at p: its key and its number
abbrev pub entry_at : List ℕ → ℕ → ℕ → ℕ → List ℕ × ℕ
entry_at b k p i = (key_at b k p i, number_at b k p i)

-- the field of the table's records
abbrev pub column_of : List ℕ → ℕ → Column
column_of t field = record { records = record_count t; offset = field_offset t (field - 1); length = field_length t (field - 1) }

-- the field's bytes in record i
unfoldable pub column_bytes : List ℕ → Column → ℕ → List ℕ
column_bytes t c i = window t (record_start t i + c.offset) c.length

-- the entry names a record from 1 to n, and has this record's field as its key
unfoldable pub entry_good : List ℕ → Column → List ℕ × ℕ → Bool
entry_good t c e = number_good e.1 c.records && is_equal (ordering e.0 (column_bytes t c e.1))

-- all entries do so
unfoldable pub entries_good : List ℕ → Column → Entries → Bool
entries_good t c [] = true
entries_good t c (e ∷ es) = entry_good t c e && entries_good t c es

-- and are n, together with the `count` entries that were tested before
unfoldable pub entries_match : List ℕ → Column → ℕ → Entries → Bool
entries_match t c count es = entries_good t c es && eqb (count + length es) c.records

-- ---- leaves

-- the first leaf under the page at p, by the first children, at most l levels down
unfoldable pub first_leaf : List ℕ → ℕ → ℕ → ℕ → ℕ → ℕ
first_leaf b k size zero p = p
first_leaf b k size (suc l) p = elim (is_leaf b size p) [ true ↦ p | false ↦ first_leaf b k size l (first_child b k size p) ]

-- the entries of the pages from p on along the right links, n pages at most
abbrev pub entries_along : List ℕ → ℕ → ℕ → ℕ → ℕ → Entries
entries_along b k size n p = concat_map (entries_at k size b) (chain b size n p)

-- the entries of the leaves of an index
unfoldable pub leaf_entries : List ℕ → Entries
leaf_entries b =
    entries_along b (key_length b) (file_size b) max_pages (first_leaf b (key_length b) (file_size b) (max_levels - 1) (root_offset b))

-- ---- what the inner functions ask of the table: the field of each record from 1 to n lies in it
pub record ColumnInside (t : List ℕ) (c : Column) : Type 0 where
  pub long : min_table ≤ length t
  pub inside : (i : ℕ) → number_good i c.records ≡ true → record_start t i + c.offset + c.length ≤ length t
