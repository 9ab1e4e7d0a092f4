-- Rules: what a lookup answers: the key's record or none, with the number of pages visited, or the number of the refusal.
use Rattle.std.specs.Prelude.{ℕ, Result, Ok, Err, Some, None}
use Rattle.std.specs.declared.ops.ControlFlow.{ControlFlow}
use Rattle.std.specs.declared.ops.ControlFlow.TheVariants.{Continue, Break}
use Rattle.idx_page.specs.declared.RecordNumber.{RecordNumber}
use Rattle.idx_lookup.specs.declared.Outcome.{Outcome}

abbrev pub Answer : Type 0
Answer = Result Outcome ℕ

-- the key has record r
abbrev pub found : RecordNumber → ℕ → Answer
found r pages = Ok (record { found = Some r; pages = pages })

-- the key is absent
abbrev pub absent : ℕ → Answer
absent pages = Ok (record { found = None; pages = pages })

-- a step that may be refused, and what follows it if it is not
abbrev pub and_then : {A B : Type 0} → Result A ℕ → (A → Result B ℕ) → Result B ℕ
and_then (Ok a) next = next a
and_then (Err n) next = Err n

-- a lookup that ends with an outcome, or goes on from a page
abbrev pub follow : {P : Type 0} → (P → Answer) → ControlFlow Outcome P → Answer
follow go (Break outcome) = Ok outcome
follow go (Continue page) = go page
