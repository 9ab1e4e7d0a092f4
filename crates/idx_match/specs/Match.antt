-- Rules: document 01, "Match: table checks, index header, field number, field type C, field length k (27), audit, then 31 unless each record 1 to n, whatever
-- its deletion byte, has exactly one entry, its key that record's field, and there are no other entries." The call `match_index` cites `Matched`.
use Rattle.std.specs.Prelude.{ℕ, ◌-◌, ◌≤◌, ◌≡◌, Bool, List, [], ◌∷◌, ◌++◌, map, ◌↔◌, ◌⊎◌, eqb}
use Rattle.basis.specs.Lists.{All}
use Rattle.refusal.specs.Checks.{first_refusal}
use Rattle.dbf_table.specs.Table.{type_c, record_count, field_count, field_type, field_length, table_checks}
use Rattle.dbf_field.specs.Field.{number_good}
use Rattle.dbf_cell.specs.Cell.{field_bytes}
use Rattle.tree.specs.Lists.{occ}
use Rattle.idx_page.specs.Header.{key_length, header_good}
use Rattle.idx_sound.specs.Sound.{Sound, leaf_pairs}

-- "table checks, index header, field number, field type C, field length k (27)": 1 to 10, 24, 12, 13, 27, or 0
abbrev pub match_checks : List ℕ → List ℕ → ℕ → List (Bool × ℕ)
match_checks t b field =
    table_checks t
    ++ ((header_good b, 24)
    ∷ (number_good field (field_count t), 12)
    ∷ (eqb (field_type t (field - 1)) type_c, 13)
    ∷ (eqb (field_length t (field - 1)) (key_length b), 27)
    ∷ [])

unfoldable pub match_refusal : List ℕ → List ℕ → ℕ → ℕ
match_refusal t b field = first_refusal (match_checks t b field)

-- how many of the entries name record i
abbrev pub entries_for : ℕ → List (List ℕ × ℕ) → ℕ
entries_for i es = occ i (map (λ e. e.1) es)

-- the entries match a field of the table's records
pub record Matches (t : List ℕ) (field : ℕ) (es : List (List ℕ × ℕ)) : Type 0 where
  -- "each record 1 to n, whatever its deletion byte, has exactly one entry"
  pub once : (i : ℕ) → 1 ≤ i → i ≤ record_count t → entries_for i es ≡ 1
  -- "its key that record's field"
  pub keys : All (λ e. e.0 ≡ field_bytes t e.1 field) es
  -- "and there are no other entries"
  pub others : All (λ e. (1 ≤ e.1) × (e.1 ≤ record_count t)) es

-- the answer r of the match of an index b against a field of a table t
pub record Matched (t b : List ℕ) (field r : ℕ) : Type 0 where
  -- the first refusal of 1 to 10, 24, 12, 13 and 27, if there is one
  pub refused : (match_refusal t b field ≡ 0 → ⊥) → r ≡ match_refusal t b field
  -- "audit": then 25, exactly if the index is not sound
  pub unsound : match_refusal t b field ≡ 0 → ((r ≡ 25) ↔ (Sound b → ⊥))
  -- "then 31 unless ..": 0 exactly if the entries match, else 31
  pub accepted : match_refusal t b field ≡ 0 → (s : Sound b) → ((r ≡ 0) ↔ Matches t field (leaf_pairs b s))
  pub other : match_refusal t b field ≡ 0 → (s : Sound b) → (r ≡ 0) ⊎ (r ≡ 31)
