-- Laws: each answer of removal is given exactly in its case, as `specs/RemovalAnswers` says. No proof of the code cites these laws: they are for readers of
-- the rule. Assumes nothing.
use Rattle.std.specs.Prelude.{ℕ, ◌^◌, ◌<◌, ◌≡◌, refl, List, ◌↔◌, eqb, length, Err, Ok}
use Rattle.std.proofs.Common.{sym, ap, ◌∙◌, subst}
use Rattle.basis.specs.Tests.{either, contra}
use Rattle.refusal.specs.After.{After}
use Rattle.refusal.specs.After.{Change}
use Rattle.idx_page.specs.Header.{key_length, features}
use Rattle.idx_sound.specs.Sound.{Sound}
use Rattle.idx_remove.specs.Calls.{remove_rule}
use Rattle.idx_remove.specs.CallLaws as calls
use Rattle.idx_path.specs.Presence.{is_there}
use Rattle.idx_book.specs.Book.{leaf_pairs}
use Rattle.idx_book.specs.CaseLaws.{whether, fails, HasPair, there-exactly, same-pairs}
use Rattle.idx_book.specs.CaseLaws.{BadHeader, WrongLength, by_length, by_audit, pages-good, pages-bad}
use Rattle.idx_book.specs.RemovalAnswers.{Unsound, Absent, Held, RemovalSays}

module _ (b key : List ℕ) (r : ℕ) (r32 : r < 2 ^ 32) where
  -- every removal is one of the five cases
  cases : {X : Type 0} → (BadHeader b → X) → (WrongLength b key → X) → (Unsound b key → X) → (Absent b key r → X) → (Held b key r → X) → X
  cases f24 f27 f25 f33 gone = by_length b key f24 f27 (λ h fits.
      by_audit b h (λ u. f25 (record { header = h; fits = fits; unsound = u })) (λ s.
      let found = there-exactly b key r fits r32 s in
      either (is_there (key_length b) b key r)
      (λ f. gone (record { sound = s; fits = fits; there = found.0 f }))
      (λ f. f33 (record { sound = s; fits = fits; absent = λ t. contra (found.1 t) f }))))

  abbrev answer : Change
  answer = (remove_rule b key r).answer

  -- in each case the rule gives its answer
  is_24 : BadHeader b → answer ≡ Err 24
  is_24 c = ap (λ (i : After Change). i.answer) (calls.refused_24 b key r c.header)

  is_27 : WrongLength b key → answer ≡ Err 27
  is_27 c = ap (λ (i : After Change). i.answer) (calls.refused_27 b key r c.header c.other)

  is_25 : Unsound b key → answer ≡ Err 25
  is_25 c = ap (λ (i : After Change). i.answer) (calls.refused_25 b key r c.header c.fits (pages-bad b c.header c.unsound))

  is_33 : Absent b key r → answer ≡ Err 33
  is_33 c =
      let s = c.sound in
      let lost = fails (is_there (key_length b) b key r) (λ f. c.absent ((there-exactly b key r c.fits r32 s).0 f)) in
      ap (λ (i : After Change). i.answer) (calls.refused_33 b key r s.header c.fits (pages-good b s) lost)

  is-accepted : Held b key r → answer ≡ Ok tt
  is-accepted c =
      let s = c.sound in
      let found = (there-exactly b key r c.fits r32 s).1 c.there in
      ap (λ (i : After Change). i.answer) (calls.accepted_pair b key r s.header c.fits (pages-good b s) found refl)

  -- the case by the answer; no other number is given
  Case : Change → Type 0
  Case (Ok tt) = Held b key r
  Case (Err n) =
      whether (eqb n 24) (BadHeader b)
      (whether (eqb n 27) (WrongLength b key) (whether (eqb n 25) (Unsound b key) (whether (eqb n 33) (Absent b key r) ⊥)))

  answer-case : Case answer
  unfolding Case whether
  answer-case = cases
      (λ c. rw (is_24 c) c)
      (λ c. rw (is_27 c) c)
      (λ c. rw (is_25 c) c)
      (λ c. rw (is_33 c) c)
      (λ c. rw (is-accepted c) c)

  from : (a : Change) → answer ≡ a → Case a
  from a e = subst Case e answer-case

  -- Theorem: removal gives each of its answers exactly in that answer's case
  pub removal_says : RemovalSays b key r (remove_rule b key r).answer
  unfolding Case whether
  removal_says = record {
    refused_24 = (from (Err 24), is_24);
    refused_27 = (from (Err 27), is_27);
    refused_25 = (from (Err 25), is_25);
    refused_33 = (from (Err 33), is_33);
    accepted = (from (Ok tt), is-accepted);
  }

  -- Theorem: no two answers meet `RemovalSays`
  pub one_answer : (a a' : Change) → RemovalSays b key r a → RemovalSays b key r a' → a ≡ a'
  one_answer a a' s t = cases
      (λ c. s.refused_24.1 c ∙ sym (t.refused_24.1 c))
      (λ c. s.refused_27.1 c ∙ sym (t.refused_27.1 c))
      (λ c. s.refused_25.1 c ∙ sym (t.refused_25.1 c))
      (λ c. s.refused_33.1 c ∙ sym (t.refused_33.1 c))
      (λ c. s.accepted.1 c ∙ sym (t.accepted.1 c))

  -- Theorem: on a sound index removal refuses with 33 exactly when the key has k bytes and the pair, for features 1 the key, is not among the
  -- leaves' pairs
  pub absent-exactly : (s : Sound b) → ((remove_rule b key r).answer ≡ Err 33)
      ↔ ((length key ≡ key_length b) × (HasPair (features b) key r (leaf_pairs b s) → ⊥))
  absent-exactly s = (
    λ e. let c = removal_says.refused_33.0 e in (c.fits, λ t. c.absent (same-pairs b key r c.fits r32 s c.sound t)),
    λ p. is_33 (record { sound = s; fits = p.0; absent = p.1 }),
  )
