-- Rules: the words of a line of a list, as the strict reading takes them, and the letter that a call's line begins with.
use Rattle.std.specs.Prelude.{ℕ, ◌≡◌, List, Option, Result, Ok, Err, MatchResult}
use Rattle.std.specs.Borrow.{Bor}
use Rattle.std.specs.declared.str.Split.{Split}
use Rattle.std.specs.Str.Iter.{split_steps}
use Rattle.std.specs.Str.Pattern.{FindsChar}
use Rattle.test_lines.specs.declared.calls.Call.{Call}
use Rattle.test_lines.specs.declared.calls.Call.TheVariants as call

-- w is the first of the words s, or none where none is left, and t are those behind it
abbrev pub TakesWord : Split ℕ → Option (Bor (List ℕ)) → Split ℕ → Type 0
TakesWord s w t = split_steps FindsChar (λ (a b : ℕ). b ≡ a) s w t

-- r is what is read in the word w, where `gives` says what a text may give: the value, or an error in place of one of another type
abbrev pub IsReadIn : {A E F : Type 0} → (List ℕ → Result A E → Type 0) → List ℕ → Result A F → Type 0
IsReadIn {A} {E} gives w r = MatchResult r (λ said. gives w (Ok said)) (λ _. (e : E) × gives w (Err e))

-- the letter of a call: f, i, r, l, s or a
abbrev pub letter : Call → ℕ
letter (call.Fresh k e f) = 102
letter (call.Insert k n) = 105
letter (call.Remove k n) = 114
letter (call.LookUp k) = 108
letter (call.Records k r) = 115
letter call.Audit = 97
