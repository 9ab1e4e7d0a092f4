-- Steps: the second pass's own answers, as its test has them. No public contract cites these: a reader need not believe them.
use Rattle.std.specs.Prelude.{ℕ, ◌+◌, ◌-◌, Bool, true, false, List, Some, None}
use Rattle.std.specs.declared.option.Option.{Option}
use Rattle.idx_page.specs.Page.{key_at, number_at}
use Rattle.idx_page.specs.Reading.{entries_from}
use Rattle.idx_sound.specs.AuditTest as rule
use Rattle.idx_sound.specs.AuditTest.{upper_entry}

-- the key of entry i of a page above the leaves, of n entries, whose children have h levels under them
abbrev pub upper_key : List ℕ → ℕ → ℕ → ℕ → ℕ → ℕ → ℕ → ℕ → rule.Keys
upper_key b k size d h p n i = upper_entry b k size d h (key_at b k p i, number_at b k p i) (entries_from b k p (n - (i + 1)) (i + 1))

-- an answer, as the test has it: whether all keys are ceilings, and then whether each page met is exact
abbrev pub keys_of : Option Bool → rule.Keys
keys_of None = record { good = false; exact = false }
keys_of (Some exact) = record { good = true; exact = exact }
