-- Laws: the cases of removal, each from the tests that lead to it. Cited by the proof of the call. Assumes nothing.
use Rattle.std.specs.Prelude.{ℕ, ◌≡◌, true, false, length, eqb, Err, Ok}
use Rattle.std.proofs.Common.{sym, ◌∙◌, eq-eqb, ne_eqb}
use Rattle.std.proofs.Math.Path.{ap}
use mathlib.Core.List.{List}
use Rattle.refusal.specs.After.{left}
use Rattle.refusal.specs.Refusals.{refusal_number}
use Rattle.refusal.specs.RefusalLaws.{refusal-some}
use Rattle.refusal.specs.declared.Refusal.{Refusal}
use Rattle.idx_sound.specs.Sound.{Audited}
use Rattle.idx_sound.proofs.Accepted.{answer-unsound, audit_unsound}
use Rattle.idx_sound.proofs.AnswerLaws.{one_answer}
use Rattle.refusal.specs.AfterLaws.{made_none, made_at}
use Rattle.idx_page.specs.Header.{key_length, header_good}
use Rattle.idx_sound.specs.AuditTest.{pages_good}
use Rattle.idx_path.specs.Presence.{is_there}
use Rattle.idx_remove_page.specs.Removal.{removed_buffer}
use Rattle.idx_remove.specs.Calls.{remove_checks, remove_rule}

-- removal, refusal by refusal in its order: the checks before it hold, and its own fails
module _ (b key : List ℕ) (number : ℕ) where
  abbrev made : List ℕ
  made = removed_buffer (key_length b) b key number

  pub refused_24 : header_good b ≡ false → remove_rule b key number ≡ left b (Err 24)
  unfolding remove_rule remove_checks
  refused_24 e = made_at made b 0 (remove_checks b key number) tt e

  module _ (header : header_good b ≡ true) where
    pub refused_27 : (length key ≡ key_length b → ⊥) → remove_rule b key number ≡ left b (Err 27)
    unfolding remove_rule remove_checks
    refused_27 other = made_at made b 1 (remove_checks b key number) (header, tt) (ne_eqb (length key) (key_length b) other)

    module _ (same : length key ≡ key_length b) where
      fits : eqb (length key) (key_length b) ≡ true
      fits = eq-eqb (length key) (key_length b) same

      pub refused_25 : pages_good b ≡ false → remove_rule b key number ≡ left b (Err 25)
      unfolding remove_rule remove_checks
      refused_25 e = made_at made b 2 (remove_checks b key number) (header, (fits, tt)) e

      module _ (sound : pages_good b ≡ true) where
        pub refused_33 : is_there (key_length b) b key number ≡ false → remove_rule b key number ≡ left b (Err 33)
        unfolding remove_rule remove_checks
        refused_33 e = made_at made b 3 (remove_checks b key number) (header, (fits, (sound, tt))) e

        pub accepted_pair : {out : List ℕ} → is_there (key_length b) b key number ≡ true → out ≡ removed_buffer (key_length b) b key number
            → remove_rule b key number ≡ left out (Ok tt)
        unfolding remove_rule remove_checks
        accepted_pair e q =
            made_none made b (remove_checks b key number) (header, (fits, (sound, (e, tt))))
            ∙ ap (λ (l : List ℕ). left l (Ok tt)) (sym q)

-- what an audit says that the call passes on
pub audit-refused : (b : List ℕ) (r : Refusal) → header_good b ≡ true → Audited b (refusal_number r) → (refusal_number r ≡ 25) × (pages_good b ≡ false)
audit-refused b r h a =
    let bad = audit_unsound b h a (refusal-some r) in (one_answer b (refusal_number r) 25 a (answer-unsound b h bad), bad)
