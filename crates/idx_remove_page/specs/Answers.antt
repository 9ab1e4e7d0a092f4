-- Steps: what the inner functions of removal answer, in the rules' terms. Inner contracts, laws and proofs cite them: a reader need not believe them.
use Rattle.std.specs.Prelude.{ℕ, ◌≡◌, true, Option, None, Some}
use Rattle.idx_page.specs.Header.{is_page}
use Rattle.idx_remove_page.specs.Removal.{Outcome as RuleOutcome, kept, emptied, bad}
use Rattle.idx_remove_page.specs.declared.Outcome.{Outcome}
use Rattle.idx_remove_page.specs.declared.Outcome.TheVariants.{Kept, Emptied}

-- an outcome in the rule's terms
abbrev pub outcome_of : Option Outcome → RuleOutcome
outcome_of None = bad
outcome_of (Some Kept) = kept
outcome_of (Some Emptied) = emptied

-- an emptied page at p is a page of a buffer of n bytes
abbrev pub EmptiedPage : ℕ → ℕ → Outcome → Type 0
EmptiedPage n p Kept = Unit {0}
EmptiedPage n p Emptied = is_page n p ≡ true
