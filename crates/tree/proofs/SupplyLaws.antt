-- Laws: the pages that are taken at the end of a file differ, and are the multiples of 512 from the old file size up to the new one, each once; the pages taken
-- from a supply differ. Cited by the laws of sound indexes and by those of insertion on bytes. Assumes nothing.
use Rattle.std.specs.Prelude.{◌≡◌, refl, List, ℕ, zero, suc, ◌+◌, ◌*◌, ◌%◌, ◌≤◌, ◌<◌, eqb}
use Rattle.std.proofs.Common.{sym, arith, eqb-true, ne_eqb}
use Rattle.std.proofs.lemmas.Bool.{eqb-false}
use Rattle.basis.specs.Tests.{either}
use Rattle.tree.specs.Constants.{page_size, no_page}
use Rattle.tree.specs.Lists.{occ}
use Rattle.tree.proofs.ListLaws.{occ_differ}
use Rattle.tree.proofs.Insertion.Pages.{new_pages, Distinct, Injective}
use Rattle.tree.proofs.FreeListLaws.{free_first-cases, free_first-injective}
use Rattle.tree.specs.Supply.{page_at_end, taken_page}

module _ (size : ℕ) where
  -- how often a number stands among the first n pages taken at the end of the file
  pub at_end_below : (n z : ℕ) → z < size → occ z (new_pages (page_at_end size) n) ≡ 0
  at_end_below zero z l = refl
  at_end_below (suc n) z l = rw (ne_eqb z (page_at_end size n) (omega arith)) (omega (arith, at_end_below n z l))

  pub at_end_beyond : (n z : ℕ) → size + page_size * n ≤ z → occ z (new_pages (page_at_end size) n) ≡ 0
  at_end_beyond zero z l = refl
  at_end_beyond (suc n) z l = rw (ne_eqb z (page_at_end size n) (omega arith)) (omega (arith, at_end_beyond n z (omega arith)))

  pub at_end_unaligned : (n z : ℕ) → size % page_size ≡ 0 → (z % page_size ≡ 0 → ⊥) → occ z (new_pages (page_at_end size) n) ≡ 0
  at_end_unaligned zero z a o = refl
  at_end_unaligned (suc n) z a o = rw (ne_eqb z (page_at_end size n) (λ e. o (omega arith))) (omega (arith, at_end_unaligned n z a o))

  pub at_end_once : (n z : ℕ) → size % page_size ≡ 0 → z % page_size ≡ 0 → size ≤ z → z < size + page_size * n →
      occ z (new_pages (page_at_end size) n) ≡ 1
  at_end_once zero z a d l m = absurd (omega arith)
  at_end_once (suc n) z a d l m = either (eqb z (page_at_end size n))
      (λ e. rw e (omega (arith, at_end_beyond n z (omega (arith, eqb-true z (page_at_end size n) e)))))
      (λ e. rw e (omega (arith, at_end_once n z a d l (omega (arith, eqb-false z (page_at_end size n) e)))))

  -- the free pages lie in the file, each on the free list once
  module _ (free : List ℕ) (once : Distinct free) (beyond : (z : ℕ) → size ≤ z → occ z free ≡ 0) where
    -- no two taken pages are the same, and none has the offset of no page
    pub taken-injective : Injective (taken_page free size)
    taken-injective = free_first-injective free (page_at_end size) once (λ j. beyond (page_at_end size j) (omega arith)) (λ i j e. omega arith)

    pub taken-some : size % page_size ≡ 0 → occ no_page free ≡ 0 → (j : ℕ) → taken_page free size j ≡ no_page → ⊥
    taken-some a o j e = free_first-cases free (page_at_end size) j
        (λ i. occ_differ no_page (taken_page free size j) free o i (sym e))
        (λ n q. omega arith)
