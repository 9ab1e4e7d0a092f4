-- Laws: the first of several checks that fails, and what a call gives by it. Assumes nothing.
use Rattle.std.specs.Prelude.{ℕ, zero, suc, ◌<◌, ◌≡◌, Bool, true, false, eqb, take, get_or}
use Rattle.std.proofs.Math.Path.{refl}
use Rattle.std.proofs.Common.{sym, ◌∙◌, arith, eqb-true}
use mathlib.Core.List.{List, [], ◌∷◌, ◌++◌}
use Rattle.std.proofs.lemmas.Bool.{eqb-false}
use Rattle.basis.specs.Tests.{either, contra}
use Rattle.basis.specs.Lists.{All}
use Rattle.refusal.specs.Checks.{first_refusal, unless}

-- ---- the first refusal

-- if the first check holds the others decide, and if it fails its number is the answer
pub first_pass : (good : Bool) (number : ℕ) (checks : List (Bool × ℕ)) → good ≡ true → first_refusal ((good, number) ∷ checks) ≡ first_refusal checks
unfolding first_refusal
first_pass good number checks e = rw e

pub first_fail : (good : Bool) (number : ℕ) (checks : List (Bool × ℕ)) → good ≡ false → first_refusal ((good, number) ∷ checks) ≡ number
unfolding first_refusal
first_fail good number checks e = rw e

-- checks that all hold refuse nothing
pub first-all : (checks : List (Bool × ℕ)) → All (λ check. check.0 ≡ true) checks → first_refusal checks ≡ 0
unfolding first_refusal
first-all [] p = refl
first-all (check ∷ checks) p = first_pass check.0 check.1 checks p.0 ∙ first-all checks p.1

-- the number of a check that fails has the property P
abbrev pub Refuses : (ℕ → Type 0) → Bool × ℕ → Type 0
Refuses P check = check.0 ≡ false → P check.1

-- of any checks nothing is asked
pub refuses_any : (checks : List (Bool × ℕ)) → All (Refuses (λ n. Unit {0})) checks
refuses_any [] = tt
refuses_any (check ∷ checks) = ((λ e. tt), refuses_any checks)

-- a check that fails has a number other than 0 beside it
abbrev pub Named : Bool × ℕ → Type 0
Named = Refuses (λ n. n ≡ 0 → ⊥)

-- no refusal: every check holds
pub first_passes : (checks : List (Bool × ℕ)) → All Named checks → first_refusal checks ≡ 0 → All (λ check. check.0 ≡ true) checks
first_passes [] p e = tt
first_passes (check ∷ checks) p e =
    either check.0
    (λ good. (good, first_passes checks p.1 (sym (first_pass check.0 check.1 checks good) ∙ e)))
    (λ bad. absurd (p.0 bad (sym (first_fail check.0 check.1 checks bad) ∙ e)))

-- a check has a number above 0 beside it, whether it holds or fails
abbrev pub Numbered : Bool × ℕ → Type 0
Numbered check = 0 < check.1

pub first-none : (checks : List (Bool × ℕ)) → All Numbered checks → first_refusal checks ≡ 0 → All (λ check. check.0 ≡ true) checks
first-none [] p e = tt
first-none (check ∷ checks) p e =
    either check.0
    (λ good. (good, first-none checks p.1 (sym (first_pass check.0 check.1 checks good) ∙ e)))
    (λ bad. absurd (omega (arith, p.0, sym (first_fail check.0 check.1 checks bad) ∙ e)))

-- checks after others decide if the first ones hold; else the first ones do
pub first-after : (checks more : List (Bool × ℕ)) → All Numbered checks → first_refusal checks ≡ 0 → first_refusal (checks ++ more) ≡ first_refusal more
first-after [] more p e = refl
first-after (check ∷ checks) more p e =
    let held = first-none (check ∷ checks) p e in
    first_pass check.0 check.1 (checks ++ more) held.0
    ∙ first-after checks more p.1 (sym (first_pass check.0 check.1 checks held.0) ∙ e)

pub first-before : (checks more : List (Bool × ℕ)) → (first_refusal checks ≡ 0 → ⊥) → first_refusal (checks ++ more) ≡ first_refusal checks
unfolding first_refusal
first-before [] more e = absurd (e refl)
first-before (check ∷ checks) more e =
    either check.0
    (λ good. first_pass check.0 check.1 (checks ++ more) good
    ∙ first-before checks more (λ z. e (first_pass check.0 check.1 checks good ∙ z))
    ∙ sym (first_pass check.0 check.1 checks good))
    (λ bad. first_fail check.0 check.1 (checks ++ more) bad ∙ sym (first_fail check.0 check.1 checks bad))

pub first-both : (checks more : List (Bool × ℕ)) → All Numbered checks → first_refusal (checks ++ more) ≡ 0
    → (first_refusal checks ≡ 0) × (first_refusal more ≡ 0)
first-both checks more p e =
    either (eqb (first_refusal checks) 0)
    (λ z. let none = eqb-true (first_refusal checks) 0 z in (none, sym (first-after checks more p none) ∙ e))
    (λ z. let some = eqb-false (first_refusal checks) 0 z in absurd (some (sym (first-before checks more some) ∙ e)))

-- the same checks before others that refuse alike refuse alike
pub first-same : (checks more less : List (Bool × ℕ)) → first_refusal more ≡ first_refusal less → first_refusal (checks ++ more) ≡ first_refusal (checks ++ less)
unfolding first_refusal
first-same [] more less e = e
first-same (check ∷ checks) more less e = rw (first-same checks more less e)

-- a refusal is below what all numbers of the checks are below
pub first_below : (bound : ℕ) (checks : List (Bool × ℕ)) → 0 < bound → All (λ (check : Bool × ℕ). check.1 < bound) checks → first_refusal checks < bound
unfolding first_refusal
first_below bound [] some p = some
first_below bound (check ∷ checks) some p =
    either check.0
    (λ good. rw good (first_below bound checks some p.1))
    (λ bad. rw bad p.0)

-- a number that no check has is not the first refusal
pub first-other : (n : ℕ) (checks : List (Bool × ℕ)) → 0 < n → All (λ check. check.1 ≡ n → ⊥) checks → first_refusal checks ≡ n → ⊥
unfolding first_refusal
first-other n [] some a e = omega arith
first-other n (check ∷ checks) some a e =
    either check.0
    (λ good. first-other n checks some a.1 (sym (first_pass check.0 check.1 checks good) ∙ e))
    (λ bad. a.0 (sym (first_fail check.0 check.1 checks bad) ∙ e))

-- ---- what a call gives by its checks

module _ {A : Type 0} (refused : ℕ → A) (made : A) where
  pub unless_pass : (good : Bool) (n : ℕ) (checks : List (Bool × ℕ)) → good ≡ true → unless ((good, n) ∷ checks) refused made ≡ unless checks refused made
  unfolding unless
  unless_pass good n checks e = rw e

  pub unless_fail : (good : Bool) (n : ℕ) (checks : List (Bool × ℕ)) → good ≡ false → unless ((good, n) ∷ checks) refused made ≡ refused n
  unfolding unless
  unless_fail good n checks e = rw e

  -- every check holds: the call is made
  pub unless-none : (checks : List (Bool × ℕ)) → All (λ check. check.0 ≡ true) checks → unless checks refused made ≡ made
  unfolding unless
  unless-none [] p = refl
  unless-none (check ∷ checks) p = unless_pass check.0 check.1 checks p.0 ∙ unless-none checks p.1

  -- there is a first refusal: it is the call's
  pub unless-first : (checks : List (Bool × ℕ)) → (first_refusal checks ≡ 0 → ⊥) → unless checks refused made ≡ refused (first_refusal checks)
  unfolding unless first_refusal
  unless-first [] some = absurd (some refl)
  unless-first (check ∷ checks) some =
      either check.0
      (λ good. rw good (unless-first checks (λ e. some (first_pass check.0 check.1 checks good ∙ e))))
      (λ bad. rw bad)

  -- the checks before place i hold, and the one there fails: its number is the refusal
  pub unless-at : (i : ℕ) (checks : List (Bool × ℕ)) → All (λ check. check.0 ≡ true) (take i checks) → (get_or checks i (true, 0)).0 ≡ false
      → unless checks refused made ≡ refused (get_or checks i (true, 0)).1
  unless-at zero [] p e = contra refl e
  unless-at (suc i) [] p e = contra refl e
  unless-at zero (check ∷ checks) p e = unless_fail check.0 check.1 checks e
  unless-at (suc i) (check ∷ checks) p e = unless_pass check.0 check.1 checks p.0 ∙ unless-at i checks p.1 e

  -- every check holds and the call is made, or it is refused by the number of a check that fails
  pub unless-cases : {X : Type 0} (P : ℕ → Type 0) (checks : List (Bool × ℕ)) → All (Refuses P) checks
      → (All (λ check. check.0 ≡ true) checks → unless checks refused made ≡ made → X)
      → ((n : ℕ) → P n → unless checks refused made ≡ refused n → X) → X
  unfolding unless
  unless-cases P [] p f g = f tt refl
  unless-cases P (check ∷ checks) p f g =
      either check.0
      (λ good.
      let on = unless_pass check.0 check.1 checks good in
      unless-cases P checks p.1 (λ held e. f (good, held) (on ∙ e)) (λ n q e. g n q (on ∙ e)))
      (λ bad. g check.1 (p.0 bad) (unless_fail check.0 check.1 checks bad))

  -- no refusal: the call is made
  pub unless-zero : (checks : List (Bool × ℕ)) → All Named checks → first_refusal checks ≡ 0 → unless checks refused made ≡ made
  unless-zero checks p e = unless-none checks (first_passes checks p e)

  -- an answer's number, 0 for a call that is made, is the first refusal
  pub unless-code : (code : A → ℕ) → code made ≡ 0 → ((n : ℕ) → code (refused n) ≡ n) → (checks : List (Bool × ℕ))
      → code (unless checks refused made) ≡ first_refusal checks
  unfolding unless first_refusal
  unless-code code none some [] = none
  unless-code code none some (check ∷ checks) =
      either check.0
      (λ good. rw good (unless-code code none some checks))
      (λ bad. rw bad (some check.1))

-- checks after others are made on what the others leave
pub unless_append : {A : Type 0} (refused : ℕ → A) (made : A) (checks more : List (Bool × ℕ))
    → unless (checks ++ more) refused made ≡ unless checks refused (unless more refused made)
unfolding unless
unless_append refused made [] more = refl
unless_append refused made (check ∷ checks) more = rw (unless_append refused made checks more)
