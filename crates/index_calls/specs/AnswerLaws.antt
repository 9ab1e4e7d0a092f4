-- Laws: what the calls' proofs cite of the answers; an out-parameter keeps what it held if the answer is not 0. Assumes nothing.
use Rattle.std.specs.Prelude.{ℕ, ◌≡◌, refl, Err, Ok, Some, None, Option}
use Rattle.idx_page.specs.declared.RecordNumber.{RecordNumber}
use Rattle.idx_lookup.specs.Lookup.{absent_code}
use Rattle.idx_lookup.specs.Answer.{Answer}
use Rattle.index_calls.specs.Answers.{Found, lookup_out}

-- a lookup keeps the record's number, and the pages too if the key is not absent
pub lookup-kept : (answer : Answer) (old : Found) → ((lookup_out answer old).answer ≡ 0 → ⊥) → (lookup_out answer old).held.number ≡ old.number
unfolding lookup_out
lookup-kept (Ok outcome) old other = kept outcome.found outcome.pages other
  where
    kept : (found : Option RecordNumber) (pages : ℕ) → ((lookup_out (Ok (record { found = found; pages = pages })) old).answer ≡ 0 → ⊥)
        → (lookup_out (Ok (record { found = found; pages = pages })) old).held.number ≡ old.number
    kept (Some r) pages other = absurd (other refl)
    kept None pages other = refl
lookup-kept (Err n) old other = refl

pub pages-kept : (answer : Answer) (old : Found) → ((lookup_out answer old).answer ≡ 0 → ⊥) → ((lookup_out answer old).answer ≡ absent_code → ⊥)
    → (lookup_out answer old).held ≡ old
unfolding lookup_out
pages-kept (Ok outcome) old other present = kept outcome.found outcome.pages other present
  where
    kept : (found : Option RecordNumber) (pages : ℕ) → let out = lookup_out (Ok (record { found = found; pages = pages })) old in
        (out.answer ≡ 0 → ⊥) → (out.answer ≡ absent_code → ⊥) → out.held ≡ old
    kept (Some r) pages other present = absurd (other refl)
    kept None pages other present = absurd (present refl)
pages-kept (Err n) old other present = refl
