-- Rules: the match's answer as one number that computes, for rules that go on once table and index match. It tells 25 by the audit's test and 31 by the test of
-- the entries. A reader need not believe these tests: it is the one answer that meets `Matched` (AnswerLaws.answer-computed).
use Rattle.std.specs.Prelude.{ℕ, List, [], ◌∷◌, eqb}
use Rattle.refusal.specs.Checks.{first_refusal}
use Rattle.idx_sound.specs.AuditTest.{pages_good}
use Rattle.idx_match.specs.Match.{match_refusal}
use Rattle.idx_match.specs.MatchTest.{column_of, entries_match, leaf_entries}

-- "table checks, index header, field number, field type C, field length k (27), audit, then 31 unless ..": 0 if they match
unfoldable pub match_answer : List ℕ → List ℕ → ℕ → ℕ
match_answer t b field =
    let refusal = match_refusal t b field in
    first_refusal ((eqb refusal 0, refusal)
    ∷ (pages_good b, 25)
    ∷ (entries_match t (column_of t field) 0 (leaf_entries b), 31)
    ∷ [])
