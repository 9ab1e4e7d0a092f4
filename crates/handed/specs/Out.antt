-- Rules: what a call hands to C: the answer's number, and what its out-parameters or its lent buffer hold after it. "An out-parameter keeps what it held
-- whenever the answer is not 0, and so does every lent buffer": the last argument of a definition, `old`, is what was there.
use Rattle.std.specs.Prelude.{ℕ}

-- an answer, and what is held after it
pub record Out (A : Type 0) : Type 0 where
  pub answer : ℕ
  pub held : A

abbrev pub out : {A : Type 0} → ℕ → A → Out A
out answer held = record { answer = answer; held = held }
