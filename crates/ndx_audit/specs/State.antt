-- Steps: the audit's own values, as its test has them. No public contract cites these: a reader need not believe them.
use Rattle.std.specs.Prelude.{ℕ, ◌≡◌, true, false, Result, Option, Some, None, List, MatchResult}
use Rattle.std.proofs.Math.Option as maybe
use denote.Ref.{Bor}
use Rattle.refusal.specs.Refusals.{refusal_number}
use Rattle.refusal.specs.declared.Refusal.{Refusal}
use Rattle.ndx_sound.specs.Reading.{Key}
use Rattle.ndx_sound.specs.Walk.{Status}
use Rattle.ndx_audit.specs.declared.Walk.{Walk}

-- the last key that was met, or none
abbrev pub met : Option (Bor (List ℕ)) → maybe.Option Key
met None = maybe.none
met (Some key) = maybe.some (maybe.some key.now)

-- what a walk knows while all is good
abbrev pub state : Walk → Status Key
state w = record { good = true; last = met w.last; entered = w.entered }

-- a step of the test came to s: the code's step came to the same, or it refused, since not all was good
abbrev pub Ends : {A : Type 0} → Status Key → Result A Refusal → Status Key → Type 0
Ends s result t = MatchResult result (λ done. s ≡ t) (λ refusal. (s.good ≡ false) × (refusal_number refusal ≡ 25))
