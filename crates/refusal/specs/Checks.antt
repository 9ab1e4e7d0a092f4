-- Rules: the checks of a call, each beside the number of its refusal, in the paper's order: the first check that fails decides. Every rule that refuses in an
-- order is made of such lists.
use Rattle.std.specs.Prelude.{ℕ, Bool, cond, List, [], ◌∷◌}

-- the number beside the first check that fails, 0 if none does
unfoldable pub first_refusal : List (Bool × ℕ) → ℕ
first_refusal [] = 0
first_refusal (check ∷ checks) = let rest = first_refusal checks in cond check.0 rest check.1

-- what a call gives: `refused` of the number beside the first check that fails, `made` if none does
unfoldable pub unless : {A : Type 0} → List (Bool × ℕ) → (ℕ → A) → A → A
unless [] refused made = made
unless (check ∷ checks) refused made = let rest = unless checks refused made in cond check.0 rest (refused check.1)
