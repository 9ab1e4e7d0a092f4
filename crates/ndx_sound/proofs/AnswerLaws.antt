-- Laws: the audit's rule leaves no choice: every buffer has an answer that meets `Audited`, and only one. No proof of the code cites them: they are for readers
-- of the rule. Assumes nothing.
use Rattle.std.specs.Prelude.{ℕ, ◌≡◌, List}
use Rattle.std.proofs.Common.{sym, ◌∙◌, ⊎_elim}
use Rattle.basis.specs.Tests.{either}
use Rattle.ndx_page.specs.Header.{header_good}
use Rattle.ndx_sound.specs.Sound.{Audited}
use Rattle.ndx_sound.specs.AuditTest.{tree_good}
use Rattle.ndx_sound.proofs.Accepted.{answer-bad, answer-sound, answer-unsound}

-- an answer r of the audit is 24, 0 or 25, and another answer s is 24 or 0 exactly if r is
module _ (b : List ℕ) (r s : ℕ) (a : Audited b r) (c : Audited b s) where
  same-bad : r ≡ 24 → s ≡ 24
  same-bad e = c.bad.1 (a.bad.0 e)

  same-sound : r ≡ 0 → s ≡ 0
  same-sound e = c.sound.1 (a.sound.0 e)

-- Theorem: no two answers meet `Audited`
pub one_answer : (b : List ℕ) (r s : ℕ) → Audited b r → Audited b s → r ≡ s
one_answer b r s a c = ⊎_elim
    (λ e. e ∙ sym (same-bad b r s a c e))
    (λ o. ⊎_elim
    (λ e. e ∙ sym (same-sound b r s a c e))
    (λ e. ⊎_elim
    (λ f. same-bad b s r c a f ∙ sym f)
    (λ p. ⊎_elim (λ f. same-sound b s r c a f ∙ sym f) (λ f. e ∙ sym f) p)
    c.other)
    o)
    a.other

-- Theorem: every buffer has an answer that meets `Audited`
pub some-answer : (b : List ℕ) → (r : ℕ) × Audited b r
some-answer b = either (header_good b)
    (λ h. either (tree_good b) (λ p. (0, answer-sound b h p)) (λ p. (25, answer-unsound b h p)))
    (λ h. (24, answer-bad b h))
