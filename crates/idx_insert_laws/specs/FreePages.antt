-- Laws: a page that an insertion neither finds in the tree nor takes keeps the form of a free page: its left link stays, and its other bytes do. Cited by the
-- law that an insertion keeps an index sound. Assumes nothing.
use Rattle.std.specs.Prelude.{◌≡◌, refl, true, List, [], ◌∷◌, ◌++◌, ℕ, zero, suc, ◌+◌, ◌≤◌, ◌<◌, eqb, length, get_or}
use Rattle.std.proofs.Common.{sym, ap, ap₂, ◌∙◌, add-zero, arith, eq-eqb, ne_eqb}
use Rattle.std.proofs.Math.Bool.{or-true}
use Rattle.basis.specs.Tests.{either}
use Rattle.octets.specs.Bytes.{le32}
use Rattle.octets.specs.Store.{window}
use Rattle.octets.specs.StoreLaws.{length-window, window_cons}
use Rattle.octets.specs.NumberLaws.{le32-window}
use Rattle.tree.specs.Clauses.{Links}
use Rattle.tree.specs.Insertion.{Grown}
use Rattle.tree.specs.Keeping.{Route}
use Rattle.tree.specs.Relinking.{path_page, relink, relinked}
use Rattle.tree.specs.Room.{run}
use Rattle.tree.specs.Tree.{Tree}
use Rattle.idx_page.specs.Header.{no_page, is_page, free_good}
use Rattle.idx_page.specs.HeaderLaws.{is-page}
use Rattle.idx_page.specs.Page.{left_at}
use Rattle.idx_page.proofs.ReadingLaws.{window-window}
use Rattle.idx_sound.specs.Sound.{zeros, FreePage}
use Rattle.idx_layout_laws.specs.OtherPages.{SameButLeft}

-- a page that is no new page, and is not on the right of a page of the path, keeps its left link
module _ (path name : ℕ → ℕ) (l : Links) (n z : ℕ) (new : (j : ℕ) → j < n → z ≡ name j → ⊥) (apart : (j : ℕ) → j < n → z ≡ l.right (path j) → ⊥) where
  rights-apart : (m : ℕ) → m ≤ n → (i : ℕ) → i < n → z ≡ (relink path name m l).right (path i) → ⊥
  rights-apart zero h i u e = apart i u e
  rights-apart (suc m) h i u e = either (eqb (path i) (path m))
      (λ q. new m (omega arith) (rw q at e))
      (λ q. either (eqb (path i) (name m))
      (λ s. rights-apart m (omega arith) m (omega arith) (rw (q, s) at e))
      (λ s. rights-apart m (omega arith) i u (rw (q, s) at e)))

  left-kept : (m : ℕ) → m ≤ n → (relink path name m l).left z ≡ l.left z
  left-kept zero h = refl
  left-kept (suc m) h =
      rw (
        ne_eqb z (name m) (new m (omega arith)),
        ne_eqb z ((relink path name m l).right (path m)) (rights-apart m (omega arith) m (omega arith)),
      )
      (left-kept m (omega arith))

pub relinked-left : {K : Type 0} (route : Route K) (none : ℕ) (name : ℕ → ℕ) (cap h : ℕ) (t : Tree K h) (g : Grown K) (l : Links) (z : ℕ)
    → ((j : ℕ) → j < run route cap h t → z ≡ name j → ⊥) → ((j : ℕ) → j < run route cap h t → z ≡ l.right (path_page route j h t) → ⊥) → (z ≡ g.1.0 → ⊥)
    → (relinked route none name cap h t g l).left z ≡ l.left z
relinked-left route none name cap h t g l z new apart not_root =
    let kept = left-kept (λ j. path_page route j h t) name l (run route cap h t) z new apart (run route cap h t) (omega arith) in
    either (eqb g.0 h) (λ e. rw e kept) (λ e. rw (e, ne_eqb z g.1.0 not_root) kept)

-- four bytes that are zero as a number
four_zeros : (w : List ℕ) → length w ≡ 4 → le32 w 0 ≡ 0 → w ≡ zeros 4
unfolding le32
four_zeros [] l e = absurd (omega arith)
four_zeros (a ∷ []) l e = absurd (omega arith)
four_zeros (a ∷ b ∷ []) l e = absurd (omega arith)
four_zeros (a ∷ b ∷ c ∷ []) l e = absurd (omega arith)
four_zeros (a ∷ b ∷ c ∷ d ∷ []) l e =
    let a0 : a ≡ 0 = omega arith in
    let b0 : b ≡ 0 = omega arith in
    let c0 : c ≡ 0 = omega arith in
    let d0 : d ≡ 0 = omega arith in
    rw (a0, b0, c0, d0) refl
four_zeros (a ∷ b ∷ c ∷ d ∷ x ∷ xs) l e = absurd (omega arith)

-- no bytes
no_bytes : (b : List ℕ) (p : ℕ) → window b p 0 ≡ []
unfolding window
no_bytes b p = refl

-- eight bytes are four and four
module _ (b : List ℕ) (p : ℕ) (inside : p + 8 ≤ length b) where
  one_byte : (i m : ℕ) → i < 8 → window b (p + i) (suc m) ≡ get_or b (p + i) 0 ∷ window b (p + (i + 1)) m
  one_byte i m u = window_cons b (p + i) m (omega arith) ∙ ap (λ (j : ℕ). get_or b (p + i) 0 ∷ window b j m) (omega arith)

  four_bytes : (m : ℕ) → window b (p + 0) (suc (suc (suc (suc m))))
      ≡ get_or b (p + 0) 0 ∷ get_or b (p + 1) 0 ∷ get_or b (p + 2) 0 ∷ get_or b (p + 3) 0 ∷ window b (p + 4) m
  four_bytes m =
      rw (
        one_byte 0 (suc (suc (suc m))) (omega arith),
        one_byte 1 (suc (suc m)) (omega arith),
        one_byte 2 (suc m) (omega arith),
        one_byte 3 m (omega arith),
      )
      refl

  first_four : window b (p + 0) 4 ≡ get_or b (p + 0) 0 ∷ get_or b (p + 1) 0 ∷ get_or b (p + 2) 0 ∷ get_or b (p + 3) 0 ∷ []
  first_four = four_bytes 0 ∙ ap (λ (w : List ℕ). get_or b (p + 0) 0 ∷ get_or b (p + 1) 0 ∷ get_or b (p + 2) 0 ∷ get_or b (p + 3) 0 ∷ w) (no_bytes b (p + 4))

  eight-bytes : window b p 8 ≡ window b p 4 ++ window b (p + 4) 4
  eight-bytes = rw add-zero at (four_bytes 4 ∙ ap (λ (w : List ℕ). w ++ window b (p + 4) 4) (sym first_four))

-- the parts of eight bytes of zero
zero-front : window (zeros 8) 0 4 ≡ zeros 4
unfolding window
zero-front = refl

zero-back : window (zeros 8) 4 4 ≡ zeros 4
unfolding window
zero-back = refl

zero_number : le32 (zeros 4) 0 ≡ 0
unfolding le32
zero_number = refl

-- Theorem: a page that keeps its left link, and its other bytes, keeps the form of a free page
pub free-kept : (b b' : List ℕ) (z : ℕ) → length b' ≡ length b → is_page (length b) z ≡ true → SameButLeft b b' z → left_at b' z ≡ left_at b z → FreePage b z
    → FreePage b' z
free-kept b b' z as_long page same left free =
    let inside = (is-page (length b) z page).high in
    let front : window b z 4 ≡ zeros 4 =
    rw add-zero at (sym (window-window b z 8 0 4 (omega arith))) ∙ ap (λ (w : List ℕ). window w 0 4) free.0 ∙ zero-front in
    let back : window b (z + 4) 4 ≡ zeros 4 = sym (window-window b z 8 4 4 (omega arith)) ∙ ap (λ (w : List ℕ). window w 4 4) free.0 ∙ zero-back in
    let none : left_at b z ≡ 0 = sym (le32-window b (z + 4)) ∙ ap (λ (w : List ℕ). le32 w 0) back ∙ zero_number in
    let link : window b' (z + 4) 4 ≡ zeros 4 =
    four_zeros (window b' (z + 4) 4) (length-window b' (z + 4) 4 (omega arith)) (le32-window b' (z + 4) ∙ left ∙ none) in
    let area : (c : List ℕ) → window c (z + 12) 500 ≡ window (window c (z + 8) 504) 4 500 =
    λ c. ap (λ (i : ℕ). window c i 500) (omega arith) ∙ sym (window-window c (z + 8) 504 4 500 (omega arith)) in (
      eight-bytes b' z (omega arith) ∙ ap₂ (λ (v w : List ℕ). v ++ w) (same.front ∙ front) link,
      area b' ∙ ap (λ (w : List ℕ). window w 4 500) same.back ∙ sym (area b) ∙ free.1,
    )

-- a free pointer is good if it names none, or a page
pub none-good : (size : ℕ) → free_good size no_page ≡ true
unfolding free_good
none-good size = rw (eq-eqb no_page no_page refl) refl

pub page-good : (size p : ℕ) → is_page size p ≡ true → free_good size p ≡ true
unfolding free_good
page-good size p e = rw e (or-true (eqb p no_page))
