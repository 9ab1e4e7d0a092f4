-- Laws: how many pages a list of a file's pages can have, and that it has them all if it has as many; and how many a tree has: at most as many as its levels
-- times its leaf pairs, or one, since every page but a lone root leaf has an entry. Cited by the laws of sound indexes. Assumes nothing.
use Rattle.std.specs.Prelude.{◌≡◌, refl, List, [], ◌∷◌, ℕ, zero, suc, ◌+◌, ◌*◌, ◌/◌, ◌%◌, ◌≤◌, ◌<◌, eqb, ltb, length}
use Rattle.std.proofs.Common.{sym, ap, ◌∙◌, subst, mul-add, suc-mul, mul-le-mul_left, arith, length-append, eqb-true, eq-eqb, ne_eqb, ltb-true, ltb-false}
use Rattle.std.proofs.lemmas.Bool.{eqb-false}
use Rattle.basis.specs.Lists.{All}
use Rattle.basis.specs.Tests.{either}
use Rattle.tree.specs.Constants.{page_size}
use Rattle.tree.specs.Lists.{NonEmpty, concat_map, occ}
use Rattle.tree.proofs.ListLaws.{occ-here}
use Rattle.tree.specs.Tree.{Entry, Tree, pairs_under, pairs, pages_under, pages}
use Rattle.tree.specs.Clauses.{SizedUnder, Sized}
use Rattle.tree.proofs.ClauseLaws.{sized-non_empty}
use Rattle.tree.proofs.Insertion.Pages.{Distinct}
use Rattle.tree.specs.Unlinking.{without}
use Rattle.tree.proofs.UnlinkLaws.{without-occ, without_other, without-none}

-- a list without page p is shorter by as often as it had p
without-length : (p : ℕ) (l : List ℕ) → length (without p l) + occ p l ≡ length l
without-length p [] = refl
without-length p (x ∷ xs) = either (eqb x p)
    (λ e. rw (e, eq-eqb p x (sym (eqb-true x p e))) (omega (arith, without-length p xs)))
    (λ e. rw (e, ne_eqb p x (λ q. eqb-false x p e (sym q))) (omega (arith, without-length p xs)))

-- one page more, which was not on the list
distinct_onto : (x : ℕ) (l : List ℕ) → Distinct l → occ x l ≡ 0 → Distinct (x ∷ l)
distinct_onto x l d o z = either (eqb z x)
    (λ e. let n : occ z l ≡ 0 = ap (λ y. occ y l) (eqb-true z x e) ∙ o in rw e (omega arith))
    (λ e. rw e (omega (arith, d z)))

onto_all : (P : ℕ → Type 0) (x : ℕ) (l : List ℕ) → P x → ((z : ℕ) → 0 < occ z l → P z) → (z : ℕ) → 0 < occ z (x ∷ l) → P z
onto_all P x l p f z i = either (eqb z x)
    (λ e. subst P (sym (eqb-true z x e)) p)
    (λ e. f z (let j : 0 < 0 + occ z l = rw e at i in omega arith))

-- z is one of the pages of a file that are numbered from `first` on below n; `place` says where each lies: at its number, or at its offset
pub record PageOf (place : ℕ → ℕ) (first n z : ℕ) : Type 0 where
  pub number : ℕ
  pub late : first ≤ number
  pub early : number < n
  pub there : z ≡ place number

module _ (place : ℕ → ℕ) where
  -- different pages of a file are at most as many as the file has, n
  at_most : (n : ℕ) (l : List ℕ) → Distinct l → ((z : ℕ) → 0 < occ z l → PageOf place 0 n z) → length l ≤ n
  at_most zero [] d low = omega arith
  at_most zero (x ∷ xs) d low = let u = (low x (occ-here x xs)).early in absurd (omega arith)
  at_most (suc n) l d low =
      let few : length (without (place n) l) ≤ n = at_most n (without (place n) l) (λ z. omega (arith, d z, without-occ z (place n) l))
      (λ z i.
      let u = low z (omega (arith, without-occ z (place n) l)) in
      let early = u.early in
      let ne : u.number ≡ n → ⊥ = λ e. without-none z (place n) l (u.there ∙ ap place e) i in
      record { number = u.number; late = omega arith; early = omega arith; there = u.there }) in
      omega (arith, d (place n), without-length (place n) l)

  -- no two pages lie at one place
  module _ (apart : (i j : ℕ) → place i ≡ place j → i ≡ j) where
    -- a list that has every page but the first of a file of n pages has at least n - 1 pages
    at_least : (n : ℕ) (l : List ℕ) → ((i : ℕ) → 0 < i → i < n → 0 < occ (place i) l) → n ≤ suc (length l)
    at_least zero l all = omega arith
    at_least (suc zero) l all = omega arith
    at_least (suc (suc n)) l all =
        let p : ℕ = place (suc n) in
        let there : 0 < occ p l = all (suc n) (omega arith) (omega arith) in
        let many : suc n ≤ suc (length (without p l)) = at_least (suc n) (without p l)
        (λ i u v. rw (without_other (place i) p l (λ e. let q = apart i (suc n) e in omega arith)) (all i u (omega arith))) in
        omega (arith, without-length p l)

    -- a list of pages of a file of n pages, none of them the first
    module _ (n : ℕ) (l : List ℕ) (inside : (z : ℕ) → 0 < occ z l → PageOf place 1 n z) where
      no_first : occ (place 0) l ≡ 0
      no_first = either (ltb 0 (occ (place 0) l))
          (λ e.
          let u = inside (place 0) (ltb-true 0 (occ (place 0) l) e) in
          let late = u.late in
          absurd (omega (arith, apart 0 u.number u.there)))
          (λ e. omega (arith, ltb-false 0 (occ (place 0) l) e))

      with_first : 0 < n → (z : ℕ) → 0 < occ z (place 0 ∷ l) → PageOf place 0 n z
      with_first some = onto_all (PageOf place 0 n) (place 0) l (record { number = 0; late = omega arith; early = some; there = refl })
          (λ z i. let u = inside z i in record { number = u.number; late = omega arith; early = u.early; there = u.there })

      -- if they differ, they are at most n - 1
      later-at-most : 0 < n → Distinct l → suc (length l) ≤ n
      later-at-most some d = at_most n (place 0 ∷ l) (distinct_onto (place 0) l d no_first) (with_first some)

      -- Theorem: if they differ, and are n - 1, each page but the first is there once
      pub later-all : 0 < n → Distinct l → n ≤ suc (length l) → (i : ℕ) → 0 < i → i < n → occ (place i) l ≡ 1
      later-all some d many i late early = either (ltb 0 (occ (place i) l))
          (λ e. omega (arith, d (place i), ltb-true 0 (occ (place i) l) e))
          (λ e.
          let none : occ (place i) l ≡ 0 = omega (arith, ltb-false 0 (occ (place i) l) e) in
          let other : place i ≡ place 0 → ⊥ = λ q. let r = apart i 0 q in omega arith in
          let new : occ (place i) (place 0 ∷ l) ≡ 0 = rw (ne_eqb (place i) (place 0) other) (omega arith) in
          let few = at_most n (place i ∷ place 0 ∷ l) (distinct_onto (place i) (place 0 ∷ l) (distinct_onto (place 0) l d no_first) new)
          (onto_all (PageOf place 0 n) (place i) (place 0 ∷ l) (record { number = i; late = omega arith; early = early; there = refl }) (with_first some)) in
          absurd (omega arith))

      -- and back
      module _ (once : (i : ℕ) → 0 < i → i < n → occ (place i) l ≡ 1) where
        pub later-distinct : Distinct l
        later-distinct z = either (ltb 0 (occ z l))
            (λ e.
            let u = inside z (ltb-true 0 (occ z l) e) in
            let same = ap (λ x. occ x l) u.there in
            omega (arith, once u.number u.late u.early))
            (λ e. omega (arith, ltb-false 0 (occ z l) e))

        pub later-count : 0 < n → suc (length l) ≡ n
        later-count some =
            let most = later-at-most some later-distinct in
            let least = at_least n l (λ i u v. omega (arith, once i u v)) in
            omega arith

-- the pages of a file by their offsets
abbrev pub offset : ℕ → ℕ
offset i = page_size * i

pub offset-apart : (i j : ℕ) → offset i ≡ offset j → i ≡ j
offset-apart i j e = omega arith

pub offset-page : (first n z : ℕ) → page_size * first ≤ z → z < page_size * n → z % page_size ≡ 0 → PageOf offset first n z
offset-page first n z l h w = record { number = z / page_size; late = omega arith; early = omega arith; there = omega arith }

-- Theorem: a list of different pages of a file has at most as many pages as the file, n
pub pages-at-most : (n : ℕ) (l : List ℕ) → Distinct l → ((z : ℕ) → 0 < occ z l → (z < page_size * n) × (z % page_size ≡ 0)) → length l ≤ n
pages-at-most n l d low = at_most offset n l d (λ z i. let u = low z i in offset-page 0 n z (omega arith) u.0 u.1)

-- Theorem: a list that has every page but the first of a file of n pages has at least n - 1 pages
pub pages-at-least : (n : ℕ) (l : List ℕ) → ((z : ℕ) → 0 < z → z < page_size * n → z % page_size ≡ 0 → 0 < occ z l) → n ≤ suc (length l)
pages-at-least n l all = at_least offset offset-apart n l (λ i u v. all (offset i) (omega arith) (omega arith) (omega arith))

-- if each entry has at most c pages for each of its leaf pairs, so have all entries together
entries-count : {A B : Type 0} (c : ℕ) (S : A → Type 0) (f : A → List ℕ) (g : A → List B) →
    ((x : A) → S x → length (f x) ≤ c * length (g x)) → (xs : List A) → All S xs → length (concat_map f xs) ≤ c * length (concat_map g xs)
entries-count c S f g ok [] d = omega arith
entries-count c S f g ok (x ∷ xs) d =
    rw (length-append (f x) (concat_map f xs), length-append (g x) (concat_map g xs), mul-add c (length (g x)) (length (concat_map g xs)))
    (omega (arith, ok x d.0, entries-count c S f g ok xs d.1))

non_empty-count : {A : Type 0} (l : List A) → NonEmpty l → 0 < length l
non_empty-count [] s = absurd s
non_empty-count (x ∷ xs) s = omega arith

under-count : {K : Type 0} (cap h : ℕ) (x : Entry K h) → SizedUnder cap h x → length (pages_under h x) ≤ h * length (pairs_under h x)
under-count cap zero x d = omega arith
under-count cap (suc h) x d =
    let n : ℕ = length (pairs_under (suc h) x) in
    let some : 0 < n = non_empty-count (pairs_under (suc h) x) (sized-non_empty cap (suc h) x d) in
    rw (suc-mul h n) (omega (arith, entries-count h (SizedUnder cap h) (pages_under h) (pairs_under h) (under-count cap h) x.1.1 d.2))

-- Theorem: a tree with at most m leaf pairs, m at least 1, has at most as many pages as its levels times m
pub tree-count : {K : Type 0} (cap h : ℕ) (t : Tree K h) → Sized cap h t → (m : ℕ) → 0 < m → length (pairs h t) ≤ m →
    length (pages h t) ≤ suc h * m
tree-count cap h t d m pos l = rw (suc-mul h m) (omega (
  arith,
  entries-count h (SizedUnder cap h) (pages_under h) (pairs_under h) (under-count cap h) t.1 d.2,
  mul-le-mul_left h l,
))
