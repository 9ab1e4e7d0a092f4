-- Laws: the loop along the free list. Cited by the proofs of `is_zero` and `free_list`. Assumes nothing.
use Rattle.std.specs.Prelude.{ℕ, zero, suc, ◌+◌, ◌-◌, ◌≤◌, ◌<◌, ◌≡◌, refl, true, false, List, ◌∷◌, take, eqb}
use Rattle.std.proofs.Math.Path.{sym}
use Rattle.std.proofs.Common.{ap, ◌∙◌, arith}
use Rattle.basis.specs.Tests.{both}
use Rattle.idx_page.specs.Header.{page_size, no_page, is_page}
use Rattle.idx_page.specs.HeaderLaws.{is-page}
use Rattle.idx_page.specs.Page.{right_at}
use Rattle.idx_sound.specs.Sound.{zeros}
use Rattle.idx_sound.specs.AuditTest.{is_free_page, free_fits, check_free}
use Rattle.idx_sound.specs.FreeLaws.{free_stop, free_on}

-- the first n of some more zeros
pub zeros-part : (n m : ℕ) → n ≤ m → take n (zeros m) ≡ zeros n
zeros-part zero m l = refl
zeros-part (suc n) zero l = absurd (omega arith)
zeros-part (suc n) (suc m) l = ap (λ (s : List ℕ). 0 ∷ s) (zeros-part n m (omega arith))

module _ (b : List ℕ) (size p : ℕ) where
  -- a page that fits is one of the file
  pub fits-page : free_fits b size p ≡ true → is_page size p ≡ true
  unfolding free_fits
  fits-page e = (both (is_page size p) (is_free_page b p) e).0

  pub fits_within : free_fits b size p ≡ true → p + page_size ≤ size
  fits_within e = (is-page size p (fits-page e)).high

module _ (b : List ℕ) (size : ℕ) where
  -- of the whole list of `count` pages from `first` on, the pages from p on decide, `left` of them
  abbrev pub FreeLeft : ℕ → ℕ → ℕ → ℕ → Type 0
  FreeLeft count first p left = check_free b size count first ≡ check_free b size left p

  module _ (count first p left : ℕ) (inv : FreeLeft count first p left) where
    pub list-end : left ≤ 0 → eqb p no_page ≡ check_free b size count first
    unfolding check_free
    list-end l = let none : left ≡ 0 = omega arith in sym (inv ∙ rw none)

    module _ (more : 0 < left) where
      less : left ≡ suc (left - 1)
      less = omega (arith, more)

      pub list_off : free_fits b size p ≡ false → false ≡ check_free b size count first
      list_off e = sym (inv ∙ ap (λ (n : ℕ). check_free b size n p) less ∙ free_stop b size (left - 1) p e)

      pub list_on : (q next : ℕ) → q ≡ right_at b p → free_fits b size p ≡ true → left ≡ suc next → FreeLeft count first q next
      list_on q next eq e en = inv ∙ ap (λ (n : ℕ). check_free b size n p) en ∙ free_on b size next p e ∙ rw eq
