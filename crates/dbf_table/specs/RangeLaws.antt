-- Laws: a loop over the numbers below a bound meets `all_below`, `any_below` and `sum_below`: one number more, a number that decides, and what a
-- test of all says of each. Assumes nothing.
use Prim.Native.Nat.{ℕ, zero, suc, ◌+◌, ◌≤◌, ◌<◌}
use Rattle.std.specs.Prelude.{◌≡◌, Bool, true, false, ◌&&◌, ◌||◌}
use Rattle.std.specs.List.{range_with_len, list_all, list_any}
use Rattle.std.proofs.Math.Path.{refl}
use Rattle.std.proofs.Common.{sym, ap, ◌∙◌, add-zero, zero-add, subst, eq-or-lt_of_le, le_of_suc-le-suc, not-suc-le-zero, add-one, arith}
use Rattle.std.proofs.Math.Bool.{and-true, and-false, or-true, or-false}
use Rattle.std.proofs.Math.Logic.{⊎_elim}
use Rattle.basis.specs.Tests.{both}
use Rattle.dbf_table.specs.Range.{all_below, any_below, sum_below}

-- the first test of three goes last
and_turned : (x y z : Bool) → (x && y && z) ≡ (y && (z && x))
and_turned true true true = refl
and_turned true true false = refl
and_turned true false z = refl
and_turned false true true = refl
and_turned false true false = refl
and_turned false false z = refl

or_turned : (x y z : Bool) → (x || y || z) ≡ (y || (z || x))
or_turned false false false = refl
or_turned false false true = refl
or_turned false true z = refl
or_turned true false true = refl
or_turned true false false = refl
or_turned true true z = refl

module _ (test : ℕ → Bool) where
  pub all_none : all_below test 0 ≡ true
  unfolding all_below
  all_none = refl

  pub all_more : (i : ℕ) → all_below test i ≡ true → test i ≡ true → all_below test (i + 1) ≡ true
  unfolding all_below
  all_more i h e = rw (add-one i, h, e)

  pub all_stop : (i n : ℕ) → i < n → test i ≡ false → all_below test n ≡ false
  unfolding all_below
  all_stop i zero l e = absurd (not-suc-le-zero l)
  all_stop i (suc n) l e =
      ⊎_elim (λ (q : i ≡ n). rw (subst (λ (k : ℕ). test k ≡ false) q e) (and-false (all_below test n)))
      (λ lt. rw (all_stop i n lt e)) (eq-or-lt_of_le (le_of_suc-le-suc l))

  -- what holds of all holds of each
  pub all-at : (n : ℕ) → all_below test n ≡ true → (i : ℕ) → i < n → test i ≡ true
  unfolding all_below
  all-at zero h i l = absurd (not-suc-le-zero l)
  all-at (suc n) h i l =
      let split = both (all_below test n) (test n) h in
      ⊎_elim (λ (q : i ≡ n). rw q split.1) (λ lt. all-at n split.0 i lt) (eq-or-lt_of_le (le_of_suc-le-suc l))

  -- and what holds of each holds of all
  pub all-each : (n : ℕ) → ((i : ℕ) → i < n → test i ≡ true) → all_below test n ≡ true
  unfolding all_below
  all-each zero h = refl
  all-each (suc n) h = rw (all-each n (λ i l. h i (omega arith)), h n (omega arith))

  pub any_none : any_below test 0 ≡ false
  unfolding any_below
  any_none = refl

  pub any_more : (i : ℕ) → any_below test i ≡ false → test i ≡ false → any_below test (i + 1) ≡ false
  unfolding any_below
  any_more i h e = rw (add-one i, h, e)

  -- a number that does not pass may be left out
  pub any_fewer : (i : ℕ) → test i ≡ false → any_below test (i + 1) ≡ any_below test i
  unfolding any_below
  any_fewer i e = rw (add-one i, e) (or-false (any_below test i))

  pub any_stop : (i n : ℕ) → i < n → test i ≡ true → any_below test n ≡ true
  unfolding any_below
  any_stop i zero l e = absurd (not-suc-le-zero l)
  any_stop i (suc n) l e =
      ⊎_elim (λ (q : i ≡ n). rw (subst (λ (k : ℕ). test k ≡ true) q e) (or-true (any_below test n)))
      (λ lt. rw (any_stop i n lt e)) (eq-or-lt_of_le (le_of_suc-le-suc l))

  -- one number more
  all_below-more : (i : ℕ) → all_below test (i + 1) ≡ (all_below test i && test i)
  unfolding all_below
  all_below-more i = rw (add-one i)

  any_below-more : (i : ℕ) → any_below test (i + 1) ≡ (any_below test i || test i)
  unfolding any_below
  any_below-more i = rw (add-one i)

  -- the test of the n numbers from a on, beside that of the numbers below a
  all_from : (n a : ℕ) → (list_all test (range_with_len a n) && all_below test a) ≡ all_below test (a + n)
  all_from zero a = rw add-zero
  all_from (suc n) a =
      let shifted : a + 1 + n ≡ a + suc n = omega arith in
      and_turned (test a) (list_all test (range_with_len (a + 1) n)) (all_below test a)
      ∙ rw (← all_below-more a) (all_from n (a + 1) ∙ ap (all_below test) shifted)

  any_from : (n a : ℕ) → (list_any test (range_with_len a n) || any_below test a) ≡ any_below test (a + n)
  any_from zero a = rw add-zero
  any_from (suc n) a =
      let shifted : a + 1 + n ≡ a + suc n = omega arith in
      or_turned (test a) (list_any test (range_with_len (a + 1) n)) (any_below test a)
      ∙ rw (← any_below-more a) (any_from n (a + 1) ∙ ap (any_below test) shifted)

  -- a chain over the numbers below n meets the rule
  pub all_listed : (n : ℕ) → list_all test (range_with_len 0 n) ≡ all_below test n
  unfolding all_below
  all_listed n =
      sym (and-true (list_all test (range_with_len 0 n))) ∙ all_from n 0 ∙ ap (all_below test) (zero-add n)

  pub any_listed : (n : ℕ) → list_any test (range_with_len 0 n) ≡ any_below test n
  unfolding any_below
  any_listed n =
      sym (or-false (list_any test (range_with_len 0 n))) ∙ any_from n 0 ∙ ap (any_below test) (zero-add n)

-- tests and amounts that agree on every number below a bound
pub any_same : (p q : ℕ → Bool) (n : ℕ) → ((j : ℕ) → j < n → p j ≡ q j) → any_below p n ≡ any_below q n
unfolding any_below
any_same p q zero h = refl
any_same p q (suc n) h = rw (any_same p q n (λ j l. h j (omega arith)), h n (omega arith))

pub sum_same : (p q : ℕ → ℕ) (n : ℕ) → ((j : ℕ) → j < n → p j ≡ q j) → sum_below p n ≡ sum_below q n
unfolding sum_below
sum_same p q zero h = refl
sum_same p q (suc n) h = rw (sum_same p q n (λ j l. h j (omega arith)), h n (omega arith))

module _ (amount : ℕ → ℕ) where
  pub sum-none : sum_below amount 0 ≡ 0
  unfolding sum_below
  sum-none = refl

  pub sum_more : (i : ℕ) → sum_below amount (i + 1) ≡ sum_below amount i + amount i
  unfolding sum_below
  sum_more i = rw (add-one i)

  -- a sum over the numbers below i, and the amount of i, are at most the sum over the numbers below n
  pub sum-within : (i n : ℕ) → i < n → sum_below amount i + amount i ≤ sum_below amount n
  unfolding sum_below
  sum-within i zero l = absurd (not-suc-le-zero l)
  sum-within i (suc n) l =
      ⊎_elim (λ (q : i ≡ n). rw q (omega arith)) (λ lt. omega (arith, sum-within i n lt)) (eq-or-lt_of_le (le_of_suc-le-suc l))
