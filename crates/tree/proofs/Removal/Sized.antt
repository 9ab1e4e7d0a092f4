-- Laws: a removal keeps the count of every page within capacity, and adds no level, whatever the route. Cited by the laws of sound indexes. Assumes nothing.
use Rattle.std.specs.Prelude.{List, [], ◌∷◌, ℕ, zero, suc, ◌≤◌, length}
use Rattle.std.proofs.Common.{arith, length-append}
use Rattle.basis.specs.Lists.{All, all_append}
use Rattle.tree.specs.Tree.{Entry, Tree}
use Rattle.tree.specs.Clauses.{SizedUnder, Sized}
use Rattle.tree.proofs.Insertion.Sized.{SizedPage, least-le}
use Rattle.tree.specs.Position.{position}
use Rattle.tree.specs.Keeping.{Route}
use Rattle.tree.specs.Removal.{replace_by, unless_emptied, settle, remove_under, remove_entries, remove}

-- a list of at most n members, each of which has S
abbrev UpTo : {A : Type 0} → (A → Type 0) → ℕ → List A → Type 0
UpTo S n l = All S l × (length l ≤ n)

unless_emptied-sized : {K C : Type 0} (cap : ℕ) (S : K × C → Type 0) (a : K) (p : ℕ) (xs : List (K × C)) → UpTo S cap xs →
    UpTo (SizedPage cap S) 1 (unless_emptied a p xs)
unless_emptied-sized cap S a p [] u = (tt, omega arith)
unless_emptied-sized cap S a p (x ∷ xs) u = (((omega arith, u.1, u.0), tt), omega arith)

-- one level of removal, abstract in what lies below: no entry more
replace_by-sized : {A : Type 0} (S : A → Type 0) (g : A → List A) → ((x : A) → S x → UpTo S 1 (g x)) →
    (i : ℕ) (xs : List A) → All S xs → UpTo S (length xs) (replace_by i g xs)
replace_by-sized S g ok i [] d = (tt, omega arith)
replace_by-sized S g ok zero (x ∷ xs) d =
    let f : UpTo S 1 (g x) = ok x d.0 in
    (all_append S (g x) xs f.0 d.1, omega (arith, length-append (g x) xs))
replace_by-sized S g ok (suc i) (x ∷ xs) d =
    let f : UpTo S (length xs) (replace_by i g xs) = replace_by-sized S g ok i xs d.1 in
    ((d.0, f.0), omega arith)

settle-sized : {K : Type 0} (cap h p : ℕ) (xs : List (Entry K h)) → UpTo (SizedUnder cap h) cap xs →
    Sized cap (settle h p xs).0 (settle h p xs).1
settle-sized cap h p [] u = (omega arith, omega arith, tt)
settle-sized cap h p (x ∷ xs) u = (omega (arith, least-le h), u.1, u.0)

settle-low : {K : Type 0} (h p : ℕ) (xs : List (Entry K h)) → (settle h p xs).0 ≤ h
settle-low h p [] = omega arith
settle-low h p (x ∷ xs) = omega arith

module _ {K : Type 0} (route : Route K) where
  remove_under-sized : (cap h : ℕ) (x : Entry K h) → SizedUnder cap h x → UpTo (SizedUnder cap h) 1 (remove_under route h x)
  remove_under-sized cap zero x d = (tt, omega arith)
  remove_under-sized cap (suc h) x d =
      let f : UpTo (SizedUnder cap h) (length x.1.1) (remove_entries route h x.1.1) =
      replace_by-sized (SizedUnder cap h) (remove_under route h) (remove_under-sized cap h) (position (route h) x.1.1) x.1.1 d.2 in
      unless_emptied-sized cap (SizedUnder cap h) x.0 x.1.0 (remove_entries route h x.1.1) (f.0, omega arith)

  -- Theorem: a removal keeps counts within capacity
  pub remove-sized : (cap h : ℕ) (t : Tree K h) → Sized cap h t → Sized cap (remove route h t).0 (remove route h t).1
  remove-sized cap h t d =
      let f : UpTo (SizedUnder cap h) (length t.1) (remove_entries route h t.1) =
      replace_by-sized (SizedUnder cap h) (remove_under route h) (remove_under-sized cap h) (position (route h) t.1) t.1 d.2 in
      settle-sized cap h t.0 (remove_entries route h t.1) (f.0, omega arith)

  -- Theorem: a removal adds no level
  pub remove-low : (h : ℕ) (t : Tree K h) → (remove route h t).0 ≤ h
  remove-low h t = settle-low h t.0 (remove_entries route h t.1)
