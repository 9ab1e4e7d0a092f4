-- Laws: the pages that are taken from a supply, by how many were taken before, and the free list that n of them leave. Cited by the laws of the supply of an
-- index. Assumes nothing.
use Rattle.std.specs.Prelude.{◌≡◌, refl, true, false, length}
use Rattle.std.proofs.Common.{ap₂, ◌∙◌}
use mathlib.Core.List.{List, [], ◌∷◌}
use Prim.Native.Nat.{ℕ, zero, suc, ◌≤◌, ◌<◌}
use native.Mathlib.Omega.{arith}
use Rattle.std.proofs.Math.Seq.{drop-nil}
use Rattle.basis.specs.Lists.{All}
use Rattle.basis.specs.Tests.{either}
use Rattle.tree.specs.Clauses.{head_or}
use Rattle.tree.specs.FreeChain.{Chained}
use Rattle.tree.proofs.FreeChainLaws.{chained-head}
use Rattle.tree.specs.FreeList.{free_after, lacking}
use Rattle.tree.specs.Supply.{page_at_end, taken_page, size_after}
use Rattle.idx_page.specs.Header.{no_page, is_page}
use Rattle.idx_page.specs.HeaderLaws.{is-page}
use Rattle.idx_page.specs.Page.{right_at}
use Rattle.idx_supply.specs.declared.Supply.{Supply}
use Rattle.idx_supply.specs.declared.Taken.{Taken}
use Rattle.idx_supply.specs.Supply.{supply_from, take_page}
use Rattle.idx_layout_laws.specs.EntryLaws.{page-of}

-- a property of the free pages and of the pages at the file's end that the free list lacks is one of the first n pages taken
pub taken-all : (P : ℕ → Type 0) (free : List ℕ) (size n j : ℕ) → j < n → All P free → ((i : ℕ) → i < lacking n free → P (page_at_end size i))
    → P (taken_page free size j)
taken-all P [] size n j l a f = f j (omega arith)
taken-all P (q ∷ qs) size n zero l a f = a.0
taken-all P (q ∷ qs) size zero (suc j) l a f = absurd (omega arith)
taken-all P (q ∷ qs) size (suc n) (suc j) l a f = taken-all P qs size n j (omega arith) a.1 (λ i m. f i (omega arith))

-- a property of the pages taken after n others is one of the free pages that n pages leave
pub left-all : (P : ℕ → Type 0) (free : List ℕ) (size n : ℕ) → ((j : ℕ) → n ≤ j → j < length free → P (taken_page free size j)) → All P (free_after n free)
left-all P [] size n f = rw (drop-nil n) tt
left-all P (q ∷ qs) size zero f = (f 0 (omega arith) (omega arith), left-all P qs size 0 (λ j l m. f (suc j) (omega arith) (omega arith)))
left-all P (q ∷ qs) size (suc n) f = left-all P qs size n (λ j l m. f (suc j) (omega arith) (omega arith))

-- a property of the free pages and of `none` is one of the head that n pages leave
pub left-head : (P : ℕ → Type 0) (none : ℕ) (free : List ℕ) (n : ℕ) → P none → All P free → P (head_or none (free_after n free))
left-head P none [] n p a = rw (drop-nil n) p
left-head P none (q ∷ qs) zero p a = a.0
left-head P none (q ∷ qs) (suc n) p a = left-head P none qs n p a.1

-- what n pages leave of a free list is a free list, if its pages name what they named
pub left-chained : (none : ℕ) (next next' : ℕ → ℕ) (head : ℕ) (free : List ℕ) (n : ℕ) → Chained none next head free
    → All (λ z. next' z ≡ next z) (free_after n free) → Chained none next' (head_or none (free_after n free)) (free_after n free)
left-chained none next next' head [] n c s = rw (drop-nil n) refl
left-chained none next next' head (q ∷ qs) zero c s =
    (refl, rw (s.0 ∙ chained-head none next (next q) qs c.1) (left-chained none next next' (next q) qs 0 c.1 s.1))
left-chained none next next' head (q ∷ qs) (suc n) c s = left-chained none next next' (next q) qs n c.1 s

-- the supply that n pages leave of the free list `free` and a file of `size` bytes
abbrev pub left_of : List ℕ → ℕ → ℕ → Supply
left_of free size n = supply_from (head_or no_page (free_after n free)) (size_after free size n)

-- a page that was taken, and the supply that is left
abbrev pub taken : ℕ → Supply → Taken
taken p s = record { page = record { 0 = p }; rest = s }

-- the number that names no page is no page's offset
none_is_no_page : (size : ℕ) → is_page size no_page ≡ false
none_is_no_page size = either (is_page size no_page) (λ t. absurd (omega (arith, (is-page size no_page t).whole))) (λ t. t)

-- Theorem: after n pages, the page that is taken is the theory's, if the free pages that are left name in b' what they name in b
module _ (b b' : List ℕ) (size : ℕ) (as_long : length b' ≡ length b) where
  pub takes-next : (free : List ℕ) (head n : ℕ) → Chained no_page (right_at b) head free → All (λ p. is_page (length b) p ≡ true) free
      → ((j : ℕ) → n ≤ j → is_page (length b) (taken_page free size j) ≡ true → right_at b' (taken_page free size j) ≡ right_at b (taken_page free size j))
      → take_page b' (left_of free size n) ≡ taken (taken_page free size n) (left_of free size (suc n))
  unfolding take_page
  takes-next [] head n c a u =
      rw (drop-nil n, none_is_no_page (length b'))
      (ap₂ (λ (x y : ℕ). taken x (supply_from no_page y)) (omega arith) (omega arith))
  takes-next (f ∷ fs) head zero c a u =
      rw (page-of f as_long a.0)
      (ap₂ (λ (x y : ℕ). taken f (supply_from x y))
      (u 0 (omega arith) a.0 ∙ chained-head no_page (right_at b) (right_at b f) fs c.1) (omega arith))
  takes-next (f ∷ fs) head (suc n) c a u =
      let e : size_after (f ∷ fs) size (suc n) ≡ size_after fs size n = omega arith in
      let e' : size_after (f ∷ fs) size (suc (suc n)) ≡ size_after fs size (suc n) = omega arith in
      rw (e, e') (takes-next fs (right_at b f) n c.1 a.1 (λ j l. u (suc j) (omega arith)))
