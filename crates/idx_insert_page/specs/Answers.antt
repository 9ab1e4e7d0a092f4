-- Steps: what the inner functions of insertion answer, in the rules' terms, and what the supply is good for after a split. Inner contracts, laws and proofs
-- cite them: a reader need not believe them.
use Rattle.std.specs.Prelude.{◌≡◌, Option, None, Some}
use Rattle.idx_page.specs.declared.PageOffset.{PageOffset}
use Rattle.idx_supply.specs.declared.Supply.{Supply}
use Rattle.idx_supply.specs.Given.{Lasts}
use Rattle.idx_insert_page.specs.Insertion.{Outcome as RuleOutcome, kept, split, bad}
use Rattle.idx_insert_page.specs.declared.Outcome.{Outcome}

-- an outcome in the rule's terms
abbrev pub with_new : Option PageOffset → Supply → RuleOutcome
with_new None s = kept s
with_new (Some q) s = split q.0 s

abbrev pub outcome_of : Option Outcome → RuleOutcome
outcome_of None = bad
outcome_of (Some o) = with_new o.new_page o.supply

-- after a split, the page above can take one page more
abbrev pub NextFits : Outcome → Type 0
NextFits o = (q : PageOffset) → o.new_page ≡ Some q → Lasts 1 o.supply
