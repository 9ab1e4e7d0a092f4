-- Laws: what a call leaves and answers by its checks, one check after another. Assumes nothing.
use Rattle.std.specs.Prelude.{ℕ, ◌≡◌, Bool, true, false, List, [], ◌∷◌, take, get_or, Err, Ok}
use Rattle.std.proofs.Math.Path.{refl}
use Rattle.std.proofs.Common.{sym, ap, subst, ◌∙◌}
use Rattle.basis.specs.Tests.{either, impossible}
use Rattle.basis.specs.Lists.{All}
use Rattle.refusal.specs.Checks.{first_refusal, unless}
use Rattle.refusal.specs.CheckLaws.{Refuses, refuses_any, unless_pass, unless_fail, unless-none, unless-first, unless-at, unless-cases, unless-code}
use Rattle.refusal.specs.After.{After, left, change_code, made_unless}
use Rattle.refusal.specs.After.{Change}

-- a change is made only if every check holds, and the buffer is `made`
pub record Accepted (made b : List ℕ) (checks : List (Bool × ℕ)) : Type 0 where
  pub held : All (λ check. check.0 ≡ true) checks
  pub leaves : (made_unless checks made b).after ≡ made

module _ (made b : List ℕ) where
  -- no check is left: the change is made
  pub made-end : made_unless [] made b ≡ left made (Ok tt)
  unfolding made_unless unless
  made-end = refl

  -- the first check holds: the others decide
  pub made_pass : (good : Bool) (n : ℕ) (checks : List (Bool × ℕ)) → good ≡ true → made_unless ((good, n) ∷ checks) made b ≡ made_unless checks made b
  unfolding made_unless
  made_pass good n checks e = unless_pass (λ n. left b (Err n)) (left made (Ok tt)) good n checks e

  -- it fails: its number is the answer
  pub made_fail : (good : Bool) (n : ℕ) (checks : List (Bool × ℕ)) → good ≡ false → made_unless ((good, n) ∷ checks) made b ≡ left b (Err n)
  unfolding made_unless
  made_fail good n checks e = unless_fail (λ n. left b (Err n)) (left made (Ok tt)) good n checks e

  -- every check holds
  pub made_none : (checks : List (Bool × ℕ)) → All (λ check. check.0 ≡ true) checks → made_unless checks made b ≡ left made (Ok tt)
  unfolding made_unless
  made_none checks p = unless-none (λ n. left b (Err n)) (left made (Ok tt)) checks p

  -- there is a first refusal
  pub made-first : (checks : List (Bool × ℕ)) → (first_refusal checks ≡ 0 → ⊥) → made_unless checks made b ≡ left b (Err (first_refusal checks))
  unfolding made_unless
  made-first checks some = unless-first (λ n. left b (Err n)) (left made (Ok tt)) checks some

  -- the checks before place i hold, and the one there fails: its number is the answer
  pub made_at : (i : ℕ) (checks : List (Bool × ℕ)) → All (λ check. check.0 ≡ true) (take i checks) → (get_or checks i (true, 0)).0 ≡ false
      → made_unless checks made b ≡ left b (Err (get_or checks i (true, 0)).1)
  unfolding made_unless
  made_at i checks p e = unless-at (λ n. left b (Err n)) (left made (Ok tt)) i checks p e

  -- the change is made, or refused by the number of a check that fails
  pub made-cases : {X : Type 0} (P : ℕ → Type 0) (checks : List (Bool × ℕ)) → All (Refuses P) checks
      → (All (λ check. check.0 ≡ true) checks → made_unless checks made b ≡ left made (Ok tt) → X)
      → ((n : ℕ) → P n → made_unless checks made b ≡ left b (Err n) → X) → X
  unfolding made_unless
  made-cases P checks p f g = unless-cases (λ n. left b (Err n)) (left made (Ok tt)) P checks p f g

  -- every call is made, or refused by a number
  pub made-either : {X : Type 0} (checks : List (Bool × ℕ)) → (made_unless checks made b ≡ left made (Ok tt) → X)
      → ((n : ℕ) → made_unless checks made b ≡ left b (Err n) → X) → X
  made-either checks f g = made-cases (λ n. Unit {0}) checks (refuses_any checks) (λ held e. f e) (λ n any e. g n e)

  -- the answer's number is the first refusal
  pub made_code : (checks : List (Bool × ℕ)) → change_code (made_unless checks made b).answer ≡ first_refusal checks
  unfolding made_unless
  made_code checks = unless-code (λ n. left b (Err n)) (left made (Ok tt)) (λ (call : After Change). change_code call.answer) refl (λ n. refl) checks

  -- a number that refuses is one of a check that fails
  pub made-number : (P : ℕ → Type 0) (checks : List (Bool × ℕ)) → All (Refuses P) checks → (n : ℕ) → (made_unless checks made b).answer ≡ Err n → P n
  made-number P checks p n e =
      made-cases P checks p
      (λ held d. let q : (Ok tt) ≡ Err n = sym (ap (λ (call : After Change). call.answer) d) ∙ e in impossible (cc))
      (λ m some d. let q : Err m ≡ Err n = sym (ap (λ (call : After Change). call.answer) d) ∙ e in subst P (ap change_code q) some)

  -- a change that is made
  pub made-accepted : (checks : List (Bool × ℕ)) → (made_unless checks made b).answer ≡ (Ok tt) → Accepted made b checks
  made-accepted [] e = record { held = tt; leaves = ap (λ (call : After Change). call.after) made-end }
  made-accepted (check ∷ checks) e =
      let answer : After Change → Change = λ call. call.answer in
      either check.0
      (λ good.
      let on = made_pass check.0 check.1 checks good in
      let rest = made-accepted checks (sym (ap answer on) ∙ e) in
      record { held = (good, rest.held); leaves = ap (λ (call : After Change). call.after) on ∙ rest.leaves })
      (λ bad.
      let q : Err check.1 ≡ (Ok tt) = sym (ap answer (made_fail check.0 check.1 checks bad)) ∙ e in
      impossible (cc))
