-- Laws: the answers of a lookup are not one another, and two that are the same hold the same. Assumes nothing.
use Rattle.std.specs.Prelude.{ℕ, ◌≡◌, Ok, Err, Some, None}
use Rattle.std.proofs.Common.{ap}
use Rattle.basis.specs.Tests.{impossible}
use Rattle.idx_page.specs.declared.RecordNumber.{RecordNumber}
use Rattle.idx_lookup.specs.declared.Outcome.{Outcome}
use Rattle.idx_lookup.specs.Answer.{Answer, found, absent}

-- what an answer holds, or `old` if it is a refusal
held : {A : Type 0} → (Outcome → A) → A → Answer → A
held f old (Ok l) = f l
held f old (Err n) = old

pub same-record : (s r : RecordNumber) (m n : ℕ) → found s m ≡ found r n → s ≡ r
unfolding held
same-record s r m n e = let same : Some s ≡ Some r = ap (held (λ (l : Outcome). l.found) None) e in cc

pub same-pages : (s r : RecordNumber) (m n : ℕ) → found s m ≡ found r n → m ≡ n
unfolding held
same-pages s r m n e = ap (held (λ (l : Outcome). l.pages) 0) e

pub absent-pages : (m n : ℕ) → absent m ≡ absent n → m ≡ n
unfolding held
absent-pages m n e = ap (held (λ (l : Outcome). l.pages) 0) e

pub absent-found : {X : Type 0} (m : ℕ) (r : RecordNumber) (n : ℕ) → absent m ≡ found r n → X
unfolding held
absent-found m r n e = let same : None ≡ Some r = ap (held (λ (l : Outcome). l.found) None) e in impossible (cc)
