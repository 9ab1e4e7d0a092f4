-- Rules: a field by its name, and the match's answer for it. Cited by `named_field` and `match_by_name`. Assumes nothing.
use Rattle.std.specs.Prelude.{ℕ, zero, suc, ◌+◌, ◌≡◌, Bool, cond, List, eqb, leb}
use Rattle.octets.specs.Bytes.{byte_at}
use Rattle.dbf_table.specs.Range.{all_below}
use Rattle.dbf_table.specs.Table.{descriptor, field_count, table_refusal}
use Rattle.idx_match.specs.Match.{Matched}

-- byte k of the name of field j, from 0, is byte k of `name`, which reads as 0 past its end
unfoldable pub name_byte : List ℕ → List ℕ → ℕ → ℕ → Bool
name_byte b name j k = eqb (byte_at b (descriptor j + k)) (byte_at name k)

-- field j has the name: all 11 bytes agree
unfoldable pub has_name : List ℕ → List ℕ → ℕ → Bool
has_name b name j = all_below (name_byte b name j) 11

-- the number, from 1, of the first of the first n fields that has the name; 0 if none has it
unfoldable pub named_below : List ℕ → List ℕ → ℕ → ℕ
named_below b name zero = 0
named_below b name (suc j) =
    let before = named_below b name j in
    cond (leb 1 before) before (cond (has_name b name j) (suc j) 0)

-- the number of the field of a table that has the name; 0 if none has it
unfoldable pub named_field : List ℕ → List ℕ → ℕ
named_field b name = named_below b name (field_count b)

-- the answer r of the match of the index b against the field of the table t that has the name
pub record NameMatched (t b name : List ℕ) (r : ℕ) : Type 0 where
  -- a refused table answers its own refusal, since nothing is known of its fields
  pub refused : (table_refusal t ≡ 0 → ⊥) → r ≡ table_refusal t
  -- "12 if no field has that name"
  pub none : table_refusal t ≡ 0 → named_field t name ≡ 0 → r ≡ 12
  -- "the match's answer"
  pub matched : table_refusal t ≡ 0 → (named_field t name ≡ 0 → ⊥) → Matched t b (named_field t name) r
