-- Rules: the length that a table's file is shortened to after a power loss. A file with an append's first store alone fits neither form of a table, so
-- that every other call answers 10; the table that it begins with is H + n·R bytes by its own count.
use Rattle.std.specs.Prelude.{ℕ, List, [], ◌∷◌, ◌++◌, Bool, cond, length, take, eqb, leb, Err, Ok, Result}
use Rattle.refusal.specs.Checks.{first_refusal}
use Rattle.dbf_table.specs.Table.{record_count, records_end, table_checks}

-- 1 to 9: what a table's checks ask of its form, whatever its length
unfoldable pub form_checks : List ℕ → List (Bool × ℕ)
form_checks b = take 9 (table_checks b)

unfoldable pub form_refusal : List ℕ → ℕ
form_refusal b = first_refusal (form_checks b)

-- H + n·R by the file's own count
unfoldable pub own_end : List ℕ → ℕ
own_end b = records_end b (record_count b)

-- then 10 if the file is shorter
unfoldable pub extent_refusal : List ℕ → ℕ
extent_refusal b = first_refusal (form_checks b ++ ((leb (own_end b) (length b), 10) ∷ []))

-- the length, or a refusal's number
abbrev pub Extent : Type 0
Extent = Result ℕ ℕ

unfoldable pub extent_rule : List ℕ → Extent
extent_rule b = let refusal = extent_refusal b in cond (eqb refusal 0) (Ok (own_end b)) (Err refusal)
