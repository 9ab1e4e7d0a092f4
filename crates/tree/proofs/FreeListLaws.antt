-- Laws: the pages taken from a free list and after it, and the pages left free, are the free pages and the later ones, each as often as before; the pages
-- taken differ. Cited by the laws of sound indexes. Assumes nothing.
use Rattle.std.specs.Prelude.{◌≡◌, refl, List, [], ◌∷◌, ℕ, zero, suc, ◌+◌, ◌<◌, eqb}
use Rattle.std.proofs.Common.{sym, ap, ◌∙◌, arith}
use Rattle.tree.specs.Lists.{count_if, occ}
use Rattle.tree.proofs.ListLaws.{occ-here, occ-once, occ_not_head}
use Rattle.tree.proofs.Insertion.Pages.{new_pages, Distinct, Unused, Injective}
use Rattle.tree.specs.FreeList.{free_first, free_after, lacking, join_free}

-- the first of n + 1 new pages, and the others
new_pages-first : (name : ℕ → ℕ) (z n : ℕ) →
    occ z (new_pages name (suc n)) ≡ count_if (eqb z (name 0)) + occ z (new_pages (λ i. name (suc i)) n)
new_pages-first name z zero = refl
new_pages-first name z (suc n) = omega (arith, new_pages-first name z n)

-- Theorem: n pages taken, and the pages left free, are the pages that were free and the later ones that the free list lacked
pub free_first-pages : (z n : ℕ) (free : List ℕ) (later : ℕ → ℕ) →
    occ z (new_pages (free_first free later) n) + occ z (free_after n free) ≡ occ z free + occ z (new_pages later (lacking n free))
free_first-pages z zero free later = let e : lacking 0 free ≡ 0 = omega arith in rw e (omega arith)
free_first-pages z (suc n) [] later = let e : lacking (suc n) [] ≡ suc n = omega arith in rw e (omega arith)
free_first-pages z (suc n) (f ∷ fs) later =
    let e : lacking (suc n) (f ∷ fs) ≡ lacking n fs = omega arith in
    rw e (omega (arith, new_pages-first (free_first (f ∷ fs) later) z n, free_first-pages z n fs later))

-- Theorem: pages that join the free list are free besides those that were
pub join_free-pages : (z : ℕ) (ps free : List ℕ) → occ z (join_free ps free) ≡ occ z ps + occ z free
join_free-pages z [] free = omega arith
join_free-pages z (p ∷ ps) free = omega (arith, join_free-pages z ps (p ∷ free))

-- a taken page was free, or is a later one
pub free_first-cases : {X : Type 0} (free : List ℕ) (later : ℕ → ℕ) (j : ℕ) → (0 < occ (free_first free later j) free → X) →
    ((n : ℕ) → free_first free later j ≡ later n → X) → X
free_first-cases [] later j f g = g j refl
free_first-cases (p ∷ ps) later zero f g = f (occ-here p ps)
free_first-cases (p ∷ ps) later (suc j) f g = free_first-cases ps later j (λ i. f (omega arith)) g

-- Theorem: pages taken differ, if the free pages and the later ones do
pub free_first-injective : (free : List ℕ) (later : ℕ → ℕ) → Distinct free → Unused later free → Injective later → Injective (free_first free later)
free_first-injective [] later d u inj i j e = inj i j e
free_first-injective (f ∷ fs) later d u inj zero zero e = refl
free_first-injective (f ∷ fs) later d u inj zero (suc j) e = absurd (free_first-cases fs later j
    (λ i. occ-once f fs (d f) (free_first fs later j) i e)
    (λ n q. occ_not_head (later n) f fs (u n) (sym q ∙ sym e)))
free_first-injective (f ∷ fs) later d u inj (suc i) zero e = absurd (free_first-cases fs later i
    (λ j. occ-once f fs (d f) (free_first fs later i) j (sym e))
    (λ n q. occ_not_head (later n) f fs (u n) (sym q ∙ e)))
free_first-injective (f ∷ fs) later d u inj (suc i) (suc j) e =
    ap suc (free_first-injective fs later (λ z. omega (arith, d z)) (λ n. omega (arith, u n)) inj i j e)
