-- Rules: setting a table's update date, document 02, K3: "A call of its own sets the date: append's table checks, then 3."
use Rattle.std.specs.Prelude.{ℕ, ◌-◌, List, [], ◌∷◌, Bool}
use Rattle.refusal.specs.After.{After, left}
use Rattle.refusal.specs.Checks.{first_refusal, unless}
use Rattle.dbf_table.specs.Table.{first_year, storable_date}
use Rattle.dbf_append.specs.Append.{held_checks, Write, write}

-- "append's table checks, then 3"
abbrev pub set_date_checks : List ℕ → ℕ → ℕ → ℕ → ℕ → List (Bool × ℕ)
set_date_checks b n year month day = held_checks b n ((storable_date year month day, 3) ∷ [])

unfoldable pub set_date_refusal : List ℕ → ℕ → ℕ → ℕ → ℕ → ℕ
set_date_refusal b n year month day = first_refusal (set_date_checks b n year month day)

-- bytes 1 to 3 alone
unfoldable pub date_write : ℕ → ℕ → ℕ → Write
date_write year month day = record { place = 1; bytes = (year - first_year) ∷ month ∷ day ∷ [] }

-- what the call leaves, and the number that it answers; a refusal leaves the buffer as it was
unfoldable pub set_date_rule : List ℕ → ℕ → ℕ → ℕ → ℕ → After ℕ
set_date_rule b n year month day = unless (set_date_checks b n year month day) (left b) (left (write (date_write year month day) b) 0)
