-- Laws: each answer of insertion is given exactly in its case, as `specs/InsertionAnswers` says. No proof of the code cites these laws: they are for readers
-- of the rule. Assumes nothing.
use Rattle.std.specs.Prelude.{ℕ, ◌^◌, ◌<◌, ◌≡◌, refl, false, List, ◌↔◌, eqb, length, Err, Ok}
use Rattle.std.proofs.Common.{sym, ap, ◌∙◌, subst, arith, eqb-true}
use Rattle.std.proofs.lemmas.Bool.{eqb-false}
use Rattle.basis.specs.Tests.{either, contra}
use Rattle.refusal.specs.After.{After, change_code}
use Rattle.refusal.specs.After.{Change}
use Rattle.idx_page.specs.Header.{key_length, features}
use Rattle.idx_sound.specs.Sound.{Sound}
use Rattle.idx_insert.specs.Calls.{has_control, insert_rule}
use Rattle.idx_insert.specs.CallLaws as calls
use Rattle.idx_path.specs.Room.{path_to, no_room}
use Rattle.idx_book.specs.Book.{leaf_pairs}
use Rattle.idx_book.specs.CaseLaws.{whether, fails, HasPair, leaf-exactly, same-pairs, BadHeader, WrongLength, by_length, by_audit, pages-good, pages-bad}
use Rattle.idx_book.specs.InsertionAnswers.{ControlByte, NoNumber, Asked, Unsound, Present, New, Full, Fitting, InsertionSays}

module _ (b key : List ℕ) (r : ℕ) (r32 : r < 2 ^ 32) where
  -- every insertion is one of the eight cases
  cases : {X : Type 0} → (BadHeader b → X) → (WrongLength b key → X) → (ControlByte b key → X) → (NoNumber b key r → X) → (Unsound b key r → X)
      → (Present b key r → X) → (Full b key r → X) → (Fitting b key r → X) → X
  cases f24 f27 f32 f28 f25 f29 f30 made = by_length b key f24 f27 (λ h fits.
      either (has_control key)
      (λ c. f32 (record { header = h; fits = fits; control = c }))
      (λ c. either (eqb r 0)
      (λ z. f28 (record { header = h; fits = fits; clean = c; zero = eqb-true r 0 z }))
      (λ z.
      let asked : Asked b key r = record { header = h; fits = fits; clean = c; number = omega (arith, eqb-false r 0 z) } in
      by_audit b h (λ u. f25 (record { asked = asked; unsound = u })) (λ s.
      let leaf = leaf-exactly b key r fits r32 s in
      either (path_to (key_length b) b key r).present
      (λ f. f29 (record { asked = asked; sound = s; there = leaf.0 f }))
      (λ f.
      let new : New b key r = record { asked = asked; sound = s; absent = λ t. contra (leaf.1 t) f } in
      either (no_room b (path_to (key_length b) b key r)) (λ n. f30 (record { new = new; full = n })) (λ n. made (record { new = new; room = n })))))))

  abbrev answer : Change
  answer = (insert_rule b key r).answer

  not_zero : 0 < r → r ≡ 0 → ⊥
  not_zero l z = omega arith

  not_present : New b key r → (path_to (key_length b) b key r).present ≡ false
  not_present w = fails (path_to (key_length b) b key r).present (λ f. w.absent ((leaf-exactly b key r w.asked.fits r32 w.sound).0 f))

  -- in each case the rule gives its answer
  is_24 : BadHeader b → answer ≡ Err 24
  is_24 c = ap (λ (i : After Change). i.answer) (calls.refused_24 b key r c.header)

  is_27 : WrongLength b key → answer ≡ Err 27
  is_27 c = ap (λ (i : After Change). i.answer) (calls.refused_27 b key r c.header c.other)

  is_32 : ControlByte b key → answer ≡ Err 32
  is_32 c = ap (λ (i : After Change). i.answer) (calls.refused_32 b key r c.header c.fits c.control)

  is_28 : NoNumber b key r → answer ≡ Err 28
  is_28 c = ap (λ (i : After Change). i.answer) (calls.refused_28 b key r c.header c.fits c.clean c.zero)

  is_25 : Unsound b key r → answer ≡ Err 25
  is_25 c =
      let a = c.asked in
      ap (λ (i : After Change). i.answer)
      (calls.refused_25 b key r a.header a.fits a.clean (not_zero a.number) (pages-bad b a.header c.unsound))

  is_29 : Present b key r → answer ≡ Err 29
  is_29 c =
      let a = c.asked in
      ap (λ (i : After Change). i.answer)
      (calls.refused_29 b key r a.header a.fits a.clean (not_zero a.number) (pages-good b c.sound)
      ((leaf-exactly b key r a.fits r32 c.sound).1 c.there))

  is_30 : Full b key r → answer ≡ Err 30
  is_30 c =
      let a = c.new.asked in
      ap (λ (i : After Change). i.answer)
      (calls.refused_30 b key r a.header a.fits a.clean (not_zero a.number) (pages-good b c.new.sound) (not_present c.new) c.full)

  is-accepted : Fitting b key r → answer ≡ Ok tt
  is-accepted c =
      let a = c.new.asked in
      ap (λ (i : After Change). i.answer)
      (calls.accepted_pair b key r a.header a.fits a.clean (not_zero a.number) (pages-good b c.new.sound) (not_present c.new) c.room refl)

  -- the case by the answer's code; an accepted insertion has 0
  Case : ℕ → Type 0
  Case n =
      whether (eqb n 24) (BadHeader b)
      (whether (eqb n 27) (WrongLength b key)
      (whether (eqb n 32) (ControlByte b key)
      (whether (eqb n 28) (NoNumber b key r)
      (whether (eqb n 25) (Unsound b key r)
      (whether (eqb n 29) (Present b key r) (whether (eqb n 30) (Full b key r) (Fitting b key r)))))))

  answer-case : Case (change_code answer)
  unfolding Case whether
  answer-case = cases
      (λ c. rw (is_24 c) c)
      (λ c. rw (is_27 c) c)
      (λ c. rw (is_32 c) c)
      (λ c. rw (is_28 c) c)
      (λ c. rw (is_25 c) c)
      (λ c. rw (is_29 c) c)
      (λ c. rw (is_30 c) c)
      (λ c. rw (is-accepted c) c)

  from : (a : Change) → answer ≡ a → Case (change_code a)
  from a e = subst (λ (x : Change). Case (change_code x)) e answer-case

  -- Theorem: insertion gives each of its answers exactly in that answer's case
  pub insertion_says : InsertionSays b key r (insert_rule b key r).answer
  unfolding Case whether
  insertion_says = record {
    refused_24 = (from (Err 24), is_24);
    refused_27 = (from (Err 27), is_27);
    refused_32 = (from (Err 32), is_32);
    refused_28 = (from (Err 28), is_28);
    refused_25 = (from (Err 25), is_25);
    refused_29 = (from (Err 29), is_29);
    refused_30 = (from (Err 30), is_30);
    accepted = (from (Ok tt), is-accepted);
  }

  -- Theorem: no two answers meet `InsertionSays`
  pub one_answer : (a a' : Change) → InsertionSays b key r a → InsertionSays b key r a' → a ≡ a'
  one_answer a a' s t = cases
      (λ c. s.refused_24.1 c ∙ sym (t.refused_24.1 c))
      (λ c. s.refused_27.1 c ∙ sym (t.refused_27.1 c))
      (λ c. s.refused_32.1 c ∙ sym (t.refused_32.1 c))
      (λ c. s.refused_28.1 c ∙ sym (t.refused_28.1 c))
      (λ c. s.refused_25.1 c ∙ sym (t.refused_25.1 c))
      (λ c. s.refused_29.1 c ∙ sym (t.refused_29.1 c))
      (λ c. s.refused_30.1 c ∙ sym (t.refused_30.1 c))
      (λ c. s.accepted.1 c ∙ sym (t.accepted.1 c))

  -- Theorem: on a sound index insertion refuses with 29 exactly when the key has k bytes, none below 0x20, the record number is above 0 and the pair, for
  -- features 1 the key, is among the leaves' pairs
  pub present-exactly : (s : Sound b) → ((insert_rule b key r).answer ≡ Err 29)
      ↔ ((length key ≡ key_length b) × (has_control key ≡ false) × (0 < r) × HasPair (features b) key r (leaf_pairs b s))
  present-exactly s = (
    λ e.
        let c = insertion_says.refused_29.0 e in
        (c.asked.fits, c.asked.clean, c.asked.number, same-pairs b key r c.asked.fits r32 c.sound s c.there),
    λ p. is_29 (record { asked = record { header = s.header; fits = p.0; clean = p.1; number = p.2 }; sound = s; there = p.3 }),
  )
