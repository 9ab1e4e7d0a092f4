-- Rules: all records of a key, document 02, K12: "all records of a key, in order, into a lent list, entries past them kept, answering how many, 0 for none; 24,
-- 27, 25 by full audit, then 39 if the list is too short." The call `records` cites `records_rule`.
use Rattle.std.specs.Prelude.{ℕ, Bool, Result, Ok, Err, List, [], ◌∷◌, length, eqb, leb}
use Rattle.refusal.specs.Checks.{unless}
use Rattle.octets.specs.Store.{put}
use Rattle.tree.specs.Pairs.{records_of}
use Rattle.idx_page.specs.Header.{key_length, header_good}
use Rattle.idx_page.specs.KeyOrder.{bytes_order}
use Rattle.idx_sound.specs.AuditTest.{pages_good}
use Rattle.idx_match.specs.MatchTest.{leaf_entries}

-- the records of a key among the entries of the leaves, left to right
unfoldable pub key_records : List ℕ → List ℕ → List ℕ
key_records b key = records_of bytes_order key (leaf_entries b)

-- the answer's number, and what the lent list and the count hold
pub record Told : Type 0 where
  pub answer : ℕ
  pub list : List ℕ
  pub count : ℕ

abbrev pub told : ℕ → List ℕ → ℕ → Told
told answer list count = record { answer = answer; list = list; count = count }

-- an answer, how many records or a refusal's number, with the list as it is left and the count as it was: a refusal keeps the count
abbrev pub tell : Result ℕ ℕ → List ℕ → ℕ → Told
tell (Ok n) list count = told 0 list n
tell (Err n) list count = told n list count

-- the checks in their order: "24, 27, 25 by full audit, then 39 if the list is too short"
unfoldable pub records_checks : List ℕ → List ℕ → List ℕ → List (Bool × ℕ)
records_checks b key list =
    (header_good b, 24)
    ∷ (eqb (length key) (key_length b), 27)
    ∷ (pages_good b, 25)
    ∷ (leb (length (key_records b key)) (length list), 39)
    ∷ []

-- the call: a refusal keeps both; else the list begins with the records, "entries past them kept", and the count is how many they are
unfoldable pub records_rule : List ℕ → List ℕ → List ℕ → ℕ → Told
records_rule b key list count =
    unless (records_checks b key list) (λ n. told n list count) (told 0 (put list 0 (key_records b key)) (length (key_records b key)))
