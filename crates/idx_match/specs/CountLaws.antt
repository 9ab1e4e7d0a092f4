-- Laws: n numbers from 1 to n, none of them twice, are all of them; and back. The law of the match's test cites them. Assumes nothing.
use Rattle.std.specs.Prelude.{ℕ, zero, suc, ◌+◌, ◌≤◌, ◌<◌, ◌≡◌, refl, List, [], ◌∷◌, length, eqb}
use Rattle.std.proofs.Common.{arith, eqb-true, ne_eqb}
use Rattle.std.proofs.lemmas.Bool.{eqb-false}
use Rattle.basis.specs.Lists.{All}
use Rattle.basis.specs.Tests.{either}
use Rattle.tree.specs.Lists.{occ}

-- how often the numbers from 1 to n stand in a list, all together
abbrev total : ℕ → List ℕ → ℕ
total zero xs = 0
total (suc n) xs = occ (suc n) xs + total n xs

-- a number from 1 to n adds one, and a larger one nothing
total-none : (n : ℕ) → total n [] ≡ 0
total-none zero = refl
total-none (suc n) = omega (arith, total-none n)

total-above : (n x : ℕ) (xs : List ℕ) → n < x → total n (x ∷ xs) ≡ total n xs
total-above zero x xs h = refl
total-above (suc n) x xs h = rw (ne_eqb (suc n) x (omega arith)) (omega (arith, total-above n x xs (omega arith)))

total-more : (n x : ℕ) (xs : List ℕ) → 1 ≤ x → x ≤ n → total n (x ∷ xs) ≡ suc (total n xs)
total-more zero x xs l h = absurd (omega arith)
total-more (suc n) x xs l h = either (eqb (suc n) x)
    (λ e. rw e (omega (arith, total-above n x xs (omega (arith, eqb-true (suc n) x e)))))
    (λ e. rw e (omega (arith, total-more n x xs l (omega (arith, eqb-false (suc n) x e)))))

total-length : (n : ℕ) (xs : List ℕ) → All (λ x. (1 ≤ x) × (x ≤ n)) xs → total n xs ≡ length xs
total-length n [] a = total-none n
total-length n (x ∷ xs) a = omega (arith, total-more n x xs a.0.0 a.0.1, total-length n xs a.1)

-- if each number stands there at most once, they are at most n in all, and n only if each stands there
total-few : (n : ℕ) (xs : List ℕ) → ((i : ℕ) → occ i xs ≤ 1) → total n xs ≤ n
total-few zero xs h = omega arith
total-few (suc n) xs h = omega (arith, h (suc n), total-few n xs h)

total-full : (n : ℕ) (xs : List ℕ) → ((i : ℕ) → occ i xs ≤ 1) → total n xs ≡ n → (i : ℕ) → 1 ≤ i → i ≤ n → occ i xs ≡ 1
total-full zero xs h e i l u = absurd (omega arith)
total-full (suc n) xs h e i l u =
    let last = h (suc n) in
    let rest = total-few n xs h in
    either (eqb i (suc n))
    (λ q. rw (eqb-true i (suc n) q) (omega arith))
    (λ q. total-full n xs h (omega arith) i l (omega (arith, eqb-false i (suc n) q)))

total_ones : (n : ℕ) (xs : List ℕ) → ((i : ℕ) → 1 ≤ i → i ≤ n → occ i xs ≡ 1) → total n xs ≡ n
total_ones zero xs h = refl
total_ones (suc n) xs h =
    omega (arith, h (suc n) (omega arith) (omega arith), total_ones n xs (λ i l u. h i l (omega arith)))

-- Theorem: n numbers from 1 to n, none of them twice, are each of them once
pub each-once : (n : ℕ) (xs : List ℕ) → All (λ x. (1 ≤ x) × (x ≤ n)) xs → ((i : ℕ) → occ i xs ≤ 1) → length xs ≡ n
    → (i : ℕ) → 1 ≤ i → i ≤ n → occ i xs ≡ 1
each-once n xs a h e = total-full n xs h (omega (arith, total-length n xs a))

-- and numbers from 1 to n, each of them once, are n
pub as_many : (n : ℕ) (xs : List ℕ) → All (λ x. (1 ≤ x) × (x ≤ n)) xs → ((i : ℕ) → 1 ≤ i → i ≤ n → occ i xs ≡ 1) → length xs ≡ n
as_many n xs a h = omega (arith, total-length n xs a, total_ones n xs h)
