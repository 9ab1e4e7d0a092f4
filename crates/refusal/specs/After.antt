-- Rules: a call that writes: what it leaves in its buffer, and its answer. "A refusal answers its number alone .. Every buffer, list and position keeps what
-- it held."
use Rattle.std.specs.Prelude.{ℕ, Bool, List, Result, Ok, Err}
use Rattle.refusal.specs.Checks.{unless}

-- a buffer after a call, and the answer
pub record After (A : Type 0) : Type 0 where
  pub after : List ℕ
  pub answer : A

abbrev pub left : {A : Type 0} → List ℕ → A → After A
left b a = record { after = b; answer = a }

-- a call that writes makes its change, or is refused by a number
abbrev pub Change : Type 0
Change = Result (Unit {0}) ℕ

-- an answer's number: 0 if the change is made, or the refusal's
abbrev pub change_code : Change → ℕ
change_code (Ok done) = 0
change_code (Err n) = n

-- a call as C gets it: the buffer after it, and the answer's number
abbrev pub coded : After Change → After ℕ
coded call = left call.after (change_code call.answer)

-- the buffer `made` if every check holds, else the number beside the first that fails, and the buffer b as it was
unfoldable pub made_unless : List (Bool × ℕ) → List ℕ → List ℕ → After Change
made_unless checks made b = unless checks (λ n. left b (Err n)) (left made (Ok tt))
