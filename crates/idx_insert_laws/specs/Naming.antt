-- Laws: new pages by their names: what the laws of insertion ask of a supply, and that the supply of an index is such a one. Cited by the laws of insertion.
-- Assumes nothing.
use Rattle.std.specs.Prelude.{◌≡◌, refl, true, List, ℕ, zero, suc, ◌+◌, ◌^◌, ◌≤◌, ◌<◌, min, length}
use Rattle.std.proofs.Common.{sym, ap, ◌∙◌, add-zero, arith}
use Rattle.std.proofs.Math.Path.{ap₂}
use Rattle.basis.specs.Lists.{All, all_map}
use Rattle.tree.specs.FreeChain.{Chained}
use Rattle.tree.proofs.FreeChainLaws.{chained-head}
use Rattle.tree.specs.FreeList.{lacking}
use Rattle.tree.proofs.Insertion.Pages.{Distinct, Injective}
use Rattle.tree.specs.Lists.{occ}
use Rattle.tree.specs.Supply.{page_at_end, taken_page, size_after}
use Rattle.tree.proofs.SupplyLaws.{taken-injective}
use Rattle.idx_page.specs.Header.{max_bytes, no_page, is_page, free_pointer, file_size}
use Rattle.idx_page.specs.HeaderLaws.{GoodHeader, is-page, is_page-from}
use Rattle.idx_page.specs.Page.{right_at}
use Rattle.idx_supply.specs.declared.Supply.{Supply}
use Rattle.idx_supply.specs.declared.Taken.{Taken}
use Rattle.idx_supply.specs.Supply.{supply_from, supply_of, take_page, supply_after}
use Rattle.idx_layout_laws.specs.OtherPages.{SameButLeft, unchanged, right_kept}
use Rattle.idx_layout_laws.specs.SupplyLaws.{Storable}
use Rattle.idx_insert_laws.specs.TakenPages.{taken, left_of, taken-all, left-head, takes-next}
-- a page of the buffer whose offset has four bytes, for those who cite a law of it
pub use Rattle.idx_layout_laws.specs.EntryLaws.{Usable}

-- the pages that a supply gives: `name n` is the page that is taken after n others, `left n` the supply after n pages
pub record Naming : Type 0 where
  pub name : ℕ → ℕ
  pub left : ℕ → Supply

-- after n pages were taken, the pages not taken yet have the bytes in b' that they have in b, but for their left links
abbrev pub Untaken : Naming → ℕ → List ℕ → List ℕ → Type 0
Untaken N n b b' = (j : ℕ) → n ≤ j → is_page (length b) (N.name j) ≡ true → SameButLeft b b' (N.name j)

-- the page that is taken after n others, with the supply that is left
abbrev pub next_of : Naming → ℕ → Taken
next_of N n = taken (N.name n) (N.left (suc n))

-- the supply of the index in b gives these pages, no two the same, whatever was written to the pages taken before
pub record Supplied (N : Naming) (b : List ℕ) : Type 0 where
  pub starts : supply_of b ≡ N.left 0
  pub distinct : Injective N.name
  pub takes : (n : ℕ) (b' : List ℕ) → length b' ≡ length b → Untaken N n b b' → take_page b' (N.left n) ≡ next_of N n

-- the supply after n pages is the one that refusal 30 counts by
pub left_is : (N : Naming) (b : List ℕ) → Supplied N b → (n : ℕ) → supply_after n b (supply_of b) ≡ N.left n
unfolding supply_after
left_is N b given n = ap (supply_after n b) given.starts ∙ go n 0 ∙ ap N.left (omega arith)
  where
    go : (n m : ℕ) → supply_after n b (N.left m) ≡ N.left (m + n)
    go zero m = ap N.left (sym (add-zero m))
    go (suc n) m =
        ap (λ (t : Taken). supply_after n b t.rest) (given.takes m b refl (λ j l p. unchanged b (N.name j))) ∙ go n (suc m) ∙ ap N.left (omega arith)

-- the supply of an index with the free list `free` in a file of `size` bytes: free pages from the head, then pages at the file's end
abbrev pub naming_of : List ℕ → ℕ → Naming
naming_of free size = record { name = taken_page free size; left = left_of free size }

-- the free list of the index in b: the header and the free pages name it, and each of its pages is one of the file, once
pub record FreeGiven (b free : List ℕ) : Type 0 where
  pub header : GoodHeader b
  pub chained : Chained no_page (right_at b) (free_pointer b) free
  pub inside : All (λ p. is_page (file_size b) p ≡ true) free
  pub once : Distinct free
  pub before-end : (z : ℕ) → file_size b ≤ z → occ z free ≡ 0

module _ (b free : List ℕ) (given : FreeGiven b free) where
  -- a free page is one of the buffer
  free-usable : (p : ℕ) → is_page (file_size b) p ≡ true → Usable b p
  free-usable p t =
      let g = is-page (file_size b) p t in
      let h = given.header in
      (is_page-from (length b) p (record { whole = g.whole; low = g.low; high = omega (arith, h.within) }), omega (arith, h.most))

  all-usable : All (Usable b) free
  all-usable = all_map (λ p. is_page (file_size b) p ≡ true) (Usable b) free-usable free given.inside

  pub supplied : Supplied (naming_of free (file_size b)) b
  unfolding supply_of
  supplied = record {
    starts = ap₂ supply_from (chained-head no_page (right_at b) (free_pointer b) free given.chained) (omega arith);
    distinct = taken-injective (file_size b) free given.once given.before-end;
    takes = λ n b' l u. takes-next b b' (file_size b) l free (free_pointer b) n given.chained
        (all_map (Usable b) (λ p. is_page (length b) p ≡ true) (λ p t. t.0) free all-usable) (λ j m t. right_kept (u j m t));
  }

  -- if the file fits after n pages, these are pages of the buffer, and the header has room for what is left
  pub usable : (n : ℕ) → size_after free (file_size b) n ≤ min (length b) max_bytes
      → ((j : ℕ) → j < n → Usable b (taken_page free (file_size b) j)) × Storable (left_of free (file_size b) n)
  usable n fits =
      let h = given.header in
      let at-end : (i : ℕ) → i < lacking n free → Usable b (page_at_end (file_size b) i) =
      λ i l. (
        is_page-from (length b) (page_at_end (file_size b) i) (record { whole = omega (arith, h.whole); low = omega (arith, h.least); high = omega arith }),
        omega arith,
      ) in (
        (λ j l. taken-all (Usable b) free (file_size b) n j l all-usable at-end),
        (left-head (λ p. p < 2 ^ 32) no_page free n (omega arith) (all_map (Usable b) (λ p. p < 2 ^ 32) (λ p t. t.1) free all-usable), omega arith),
      )
