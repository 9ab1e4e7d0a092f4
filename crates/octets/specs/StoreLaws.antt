-- Laws: stores and parts of buffers. Cited by every proof about a buffer that changed. Assumes nothing.
use Rattle.std.specs.Prelude.{◌≡◌, refl, List, [], ◌∷◌, ◌++◌, ℕ, zero, suc, ◌+◌, ◌-◌, ◌≤◌, ◌<◌, length, take, drop, get_or, set, replicate}
use Rattle.std.proofs.Common.{sym, ap, ◌∙◌, append_assoc, add-zero, add-suc, add-one, arith, length-take, length-drop, take_at, drop_at, get_or-set_other, drop-set-lt, take-suc, drop-cons, get_or-drop, get_or-take}
use Rattle.std.proofs.lemmas.List.{length-replicate, set_comm, drop-set-add, take-set-le}
use Rattle.std.proofs.lemmas.List.Edits.{sets, sets-eq}
use Rattle.std.proofs.Math.Seq.{length-sets, take-set-lt}
use Rattle.octets.specs.Store.{put, window}

-- ---- a store

sets_nil : (ys : List ℕ) (at : ℕ) → ◌≡◌ {A = List ℕ} (sets [] at ys) []
sets_nil [] at = refl
sets_nil (y ∷ ys) at = sets_nil ys (suc at)

sets_suc : (ys : List ℕ) (x : ℕ) (xs : List ℕ) (at : ℕ) → sets (x ∷ xs) (suc at) ys ≡ x ∷ sets xs at ys
sets_suc [] x xs at = refl
sets_suc (y ∷ ys) x xs at = sets_suc ys x (set xs at y) (suc at)

-- a store of ys is one byte stored after another, as the code does it
put_sets : (xs : List ℕ) (at : ℕ) (ys : List ℕ) → put xs at ys ≡ sets xs at ys
unfolding put
put_sets [] at ys = sym (sets_nil ys at)
put_sets (x ∷ xs) zero [] = refl
put_sets (x ∷ xs) zero (y ∷ ys) = ap (λ (l : List ℕ). y ∷ l) (put_sets xs zero ys) ∙ sym (sets_suc ys y xs zero)
put_sets (x ∷ xs) (suc at) ys = ap (λ (l : List ℕ). x ∷ l) (put_sets xs at ys) ∙ sym (sets_suc ys x xs at)

pub length-put : (xs : List ℕ) (at : ℕ) (ys : List ℕ) → length (put xs at ys) ≡ length xs
length-put xs at ys = simp put_sets (length-sets xs at ys)

-- a store that fits is a splice
pub put_splice : (xs : List ℕ) (at : ℕ) (ys : List ℕ) → at + length ys ≤ length xs → put xs at ys ≡ take at xs ++ ys ++ drop (at + length ys) xs
put_splice xs at ys h = simp put_sets (sets-eq ys xs at h)

pub put-none : (xs : List ℕ) (at : ℕ) → put xs at [] ≡ xs
put-none xs at = simp put_sets (refl)

pub put_one : (xs : List ℕ) (at a : ℕ) → put xs at (a ∷ []) ≡ set xs at a
put_one xs at a = simp put_sets (refl)

set_sets : (ys xs : List ℕ) (j at a : ℕ) → j < at → set (sets xs at ys) j a ≡ sets (set xs j a) at ys
set_sets [] xs j at a h = refl
set_sets (y ∷ ys) xs j at a h =
    set_sets ys (set xs at y) j (suc at) a (omega arith) ∙ ap (λ (l : List ℕ). sets l (suc at) ys) (set_comm xs at j y a (λ e. omega (arith, e)))

-- a store of one byte more in front
pub put_cons : (xs : List ℕ) (at a : ℕ) (ys : List ℕ) → put xs at (a ∷ ys) ≡ set (put xs (at + 1) ys) at a
put_cons xs at a ys = simp put_sets (rw (add-one) (sym (set_sets ys xs at (suc at) a (omega arith))))

sets_append : (ys xs : List ℕ) (at : ℕ) (zs : List ℕ) → sets xs at (ys ++ zs) ≡ sets (sets xs at ys) (at + length ys) zs
sets_append [] xs at zs = rw add-zero
sets_append (y ∷ ys) xs at zs = sets_append ys (set xs at y) (suc at) zs ∙ ap (λ (n : ℕ). sets (sets (set xs at y) (suc at) ys) n zs) (omega arith)

-- two stores side by side are one
pub put_append : (xs : List ℕ) (at : ℕ) (ys zs : List ℕ) → put xs at (ys ++ zs) ≡ put (put xs at ys) (at + length ys) zs
put_append xs at ys zs = simp put_sets (sets_append ys xs at zs)

-- a store of one byte more at the end
pub put_snoc : (xs : List ℕ) (at : ℕ) (ys : List ℕ) (a : ℕ) → put xs at (ys ++ (a ∷ [])) ≡ set (put xs at ys) (at + length ys) a
put_snoc xs at ys a = simp put_sets (sets_append ys xs at (a ∷ []))

sets_comm : (ys xs : List ℕ) (at at' : ℕ) (zs : List ℕ) → at + length ys ≤ at' → sets (sets xs at ys) at' zs ≡ sets (sets xs at' zs) at ys
sets_comm [] xs at at' zs h = refl
sets_comm (y ∷ ys) xs at at' zs h =
    sets_comm ys (set xs at y) (suc at) at' zs (omega arith) ∙ ap (λ (l : List ℕ). sets l (suc at) ys) (sym (set_sets zs xs at at' y (omega arith)))

-- two stores that do not meet commute
pub put_comm : (xs : List ℕ) (at : ℕ) (ys : List ℕ) (at' : ℕ) (zs : List ℕ) → at + length ys ≤ at'
    → put (put xs at ys) at' zs ≡ put (put xs at' zs) at ys
put_comm xs at ys at' zs h = simp put_sets (sets_comm ys xs at at' zs h)

-- ---- a part

pub length-window : (xs : List ℕ) (at n : ℕ) → at + n ≤ length xs → length (window xs at n) ≡ n
unfolding window
length-window xs at n h = simp (length-take, length-drop) (omega arith)

-- a part begins with its first byte
pub window_cons : (xs : List ℕ) (p m : ℕ) → p < length xs → window xs p (suc m) ≡ get_or xs p 0 ∷ window xs (p + 1) m
unfolding window
window_cons xs p m h = rw (add-one, drop-cons xs p 0 h)

pub get_d_window : (xs : List ℕ) (p n i d : ℕ) → i < n → get_or (window xs p n) i d ≡ get_or xs (p + i) d
unfolding window
get_d_window xs p n i d h = rw (get_or-take, get_or-drop)

-- ---- elements and parts after a store

get_d_sets_low : (ys xs : List ℕ) (at j d : ℕ) → j < at → get_or (sets xs at ys) j d ≡ get_or xs j d
get_d_sets_low [] xs at j d h = refl
get_d_sets_low (y ∷ ys) xs at j d h = get_d_sets_low ys (set xs at y) (suc at) j d (omega arith) ∙ get_or-set_other xs at j y d (λ e. omega (arith, e))

-- an element before the store stays
pub get_or-put_low : (xs : List ℕ) (at : ℕ) (ys : List ℕ) (j d : ℕ) → j < at → get_or (put xs at ys) j d ≡ get_or xs j d
get_or-put_low xs at ys j d h = simp put_sets (get_d_sets_low ys xs at j d h)

get_d_sets_high : (ys xs : List ℕ) (at j d : ℕ) → at + length ys ≤ j → get_or (sets xs at ys) j d ≡ get_or xs j d
get_d_sets_high [] xs at j d h = refl
get_d_sets_high (y ∷ ys) xs at j d h = get_d_sets_high ys (set xs at y) (suc at) j d (omega arith) ∙ get_or-set_other xs at j y d (λ e. omega (arith, e))

-- an element after the store stays
pub get_or-put_high : (xs : List ℕ) (at : ℕ) (ys : List ℕ) (j d : ℕ) → at + length ys ≤ j → get_or (put xs at ys) j d ≡ get_or xs j d
get_or-put_high xs at ys j d h = simp put_sets (get_d_sets_high ys xs at j d h)

drop_sets_high : (ys xs : List ℕ) (at p : ℕ) → at + length ys ≤ p → drop p (sets xs at ys) ≡ drop p xs
drop_sets_high [] xs at p h = refl
drop_sets_high (y ∷ ys) xs at p h = drop_sets_high ys (set xs at y) (suc at) p (omega arith) ∙ drop-set-lt p xs at y (omega arith)

drop_sets_low : (ys xs : List ℕ) (i p : ℕ) → drop p (sets xs (p + i) ys) ≡ sets (drop p xs) i ys
drop_sets_low [] xs i p = refl
drop_sets_low (y ∷ ys) xs i p =
    ap (λ (n : ℕ). drop p (sets (set xs (p + i) y) n ys)) (sym (add-suc p i))
    ∙ drop_sets_low ys (set xs (p + i) y) (suc i) p
    ∙ ap (λ (l : List ℕ). sets l (suc i) ys) (drop-set-add p xs i y)

take_sets_low : (ys xs : List ℕ) (at n : ℕ) → n ≤ at → take n (sets xs at ys) ≡ take n xs
take_sets_low [] xs at n h = refl
take_sets_low (y ∷ ys) xs at n h = take_sets_low ys (set xs at y) (suc at) n (omega arith) ∙ take-set-le n xs at y h

take_sets_high : (ys xs : List ℕ) (at n : ℕ) → at + length ys ≤ n → take n (sets xs at ys) ≡ sets (take n xs) at ys
take_sets_high [] xs at n h = refl
take_sets_high (y ∷ ys) xs at n h =
    take_sets_high ys (set xs at y) (suc at) n (omega arith)
    ∙ ap (λ (l : List ℕ). sets l (suc at) ys) (take-set-lt n xs at y (omega arith))

-- a part that ends before the store stays
pub window-before : (xs : List ℕ) (at : ℕ) (ys : List ℕ) (p n : ℕ) → p + n ≤ at → window (put xs at ys) p n ≡ window xs p n
unfolding window
window-before xs at ys p n h = simp put_sets (
    let e : p + (at - p) ≡ at = omega arith in
    ap (λ (k : ℕ). take n (drop p (sets xs k ys))) (sym e)
    ∙ ap (λ (l : List ℕ). take n l) (drop_sets_low ys xs (at - p) p)
    ∙ take_sets_low ys (drop p xs) (at - p) n (omega arith))

-- a part that begins after the store stays
pub window-after : (xs : List ℕ) (at : ℕ) (ys : List ℕ) (p n : ℕ) → at + length ys ≤ p → window (put xs at ys) p n ≡ window xs p n
unfolding window
window-after xs at ys p n h = simp put_sets (ap (λ (l : List ℕ). take n l) (drop_sets_high ys xs at p h))

-- the bytes from p on hold a store behind p
pub drop_put : (xs : List ℕ) (i : ℕ) (ys : List ℕ) (p : ℕ) → drop p (put xs (p + i) ys) ≡ put (drop p xs) i ys
drop_put xs i ys p = simp put_sets (drop_sets_low ys xs i p)

-- a part that holds the store has the store in it
pub window-inside : (xs : List ℕ) (i : ℕ) (ys : List ℕ) (p n : ℕ) → i + length ys ≤ n
    → window (put xs (p + i) ys) p n ≡ put (window xs p n) i ys
unfolding window
window-inside xs i ys p n h =
    simp put_sets (ap (λ (l : List ℕ). take n l) (drop_sets_low ys xs i p) ∙ take_sets_high ys (drop p xs) i n h)

-- a part that is the store reads as what was stored
pub window_same : (xs : List ℕ) (at : ℕ) (ys : List ℕ) (n : ℕ) → length ys ≡ n → at + n ≤ length xs → window (put xs at ys) at n ≡ ys
unfolding window
window_same xs at ys n e h =
    let s : put xs at ys ≡ take at xs ++ ys ++ drop (at + length ys) xs = put_splice xs at ys (omega arith) in
    let l : length (take at xs) ≡ at = simp length-take (omega arith) in
    rw (s, append_assoc, drop_at (take at xs) (ys ++ drop (at + length ys) xs) at l) (take_at ys _ n e)

-- ---- what code stores

-- two and four bytes stored one after another are one store
pub stored2 : (xs : List ℕ) (at a b : ℕ) → set (set xs at a) (at + 1) b ≡ put xs at (a ∷ b ∷ [])
stored2 xs at a b = simp put_sets (rw (add-one))

pub stored4 : (xs : List ℕ) (at a b c d : ℕ) → set (set (set (set xs at a) (at + 1) b) (at + 2) c) (at + 3) d ≡ put xs at (a ∷ b ∷ c ∷ d ∷ [])
stored4 xs at a b c d = simp put_sets (
    let e1 : at + 1 ≡ suc at = omega arith in
    let e2 : at + 2 ≡ suc (suc at) = omega arith in
    let e3 : at + 3 ≡ suc (suc (suc at)) = omega arith in
    rw (e1, e2, e3))

-- one turn of a copy stores one byte of src more
pub put_take : (xs : List ℕ) (at : ℕ) (src : List ℕ) (j : ℕ) → j < length src
    → set (put xs at (take j src)) (at + j) (get_or src j 0) ≡ put xs at (take (j + 1) src)
put_take xs at src j h =
    let l : length (take j src) ≡ j = simp length-take (omega arith) in
    rw (add-one, take-suc src j 0 h, put_snoc, l)

replicate_snoc : (n v : ℕ) → replicate n v ++ (v ∷ []) ≡ replicate (suc n) v
replicate_snoc zero v = refl
replicate_snoc (suc n) v = ap (λ (l : List ℕ). v ∷ l) (replicate_snoc n v)

-- one turn of a fill stores v once more
pub put_fill : (xs : List ℕ) (from i v : ℕ) → from ≤ i
    → set (put xs from (replicate (i - from) v)) i v ≡ put xs from (replicate (i + 1 - from) v)
put_fill xs from i v h =
    let e : i + 1 - from ≡ suc (i - from) = omega arith in
    let f : from + (i - from) ≡ i = omega arith in
    rw (e, ← replicate_snoc (i - from) v, put_snoc, length-replicate, f)
