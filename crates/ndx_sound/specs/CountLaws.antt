-- Laws: how many pages are entered, and that there is room for them. Assumes nothing.
use Rattle.std.specs.Prelude.{ℕ, ◌+◌, ◌≤◌, ◌<◌, ◌≡◌, refl, List, [], ◌∷◌, ◌++◌, length}
use Rattle.std.proofs.Common.{arith}

-- how many pages were entered after the pages ps, and that fewer than `most` were entered before each
abbrev pub count_all : ℕ → List ℕ → ℕ
count_all n [] = n
count_all n (p ∷ ps) = count_all (n + 1) ps

abbrev pub Room : ℕ → ℕ → List ℕ → Type 0
Room most n [] = Unit {0}
Room most n (p ∷ ps) = (n < most) × Room most (n + 1) ps

pub room_append : (most n : ℕ) (xs ys : List ℕ) → Room most n xs → Room most (count_all n xs) ys → Room most n (xs ++ ys)
room_append most n [] ys f g = g
room_append most n (x ∷ xs) ys f g = (f.0, room_append most (n + 1) xs ys f.1 g)

pub room-left : (most n : ℕ) (xs ys : List ℕ) → Room most n (xs ++ ys) → Room most n xs
room-left most n [] ys f = tt
room-left most n (x ∷ xs) ys f = (f.0, room-left most (n + 1) xs ys f.1)

pub room-right : (most n : ℕ) (xs ys : List ℕ) → Room most n (xs ++ ys) → Room most (count_all n xs) ys
room-right most n [] ys f = f
room-right most n (x ∷ xs) ys f = room-right most (n + 1) xs ys f.1

pub count_append : (n : ℕ) (xs ys : List ℕ) → count_all n (xs ++ ys) ≡ count_all (count_all n xs) ys
count_append n [] ys = refl
count_append n (x ∷ xs) ys = count_append (n + 1) xs ys

-- as many as the list is long
pub count-length : (n : ℕ) (ps : List ℕ) → count_all n ps ≡ n + length ps
count-length n [] = omega arith
count-length n (p ∷ ps) = omega (arith, count-length (n + 1) ps)

pub room-length : (most n : ℕ) (ps : List ℕ) → n + length ps ≤ most → Room most n ps
room-length most n [] l = tt
room-length most n (p ∷ ps) l = (omega arith, room-length most (n + 1) ps (omega arith))
