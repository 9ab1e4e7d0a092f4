-- Laws: what a comparison says of the order of keys. Cited by the search in a page, by the audit's test and by the match. Assumes nothing.
use Rattle.std.specs.Prelude.{ℕ, ◌≡◌, refl, true, false, not, List}
use Rattle.std.proofs.Common.{sym, ap, ◌∙◌}
use Rattle.std.proofs.lemmas.Bool.{not-true, not-false}
use Rattle.basis.specs.Tests.{either, contra}
use Rattle.std.specs.Ordering.{is_ge}
use Rattle.std.specs.declared.cmp.Ordering.{Ordering}
use Rattle.std.specs.declared.cmp.Ordering.TheVariants.{Less, Equal, Greater}
use Rattle.octets.specs.Order.{bytes_le, ordering, is_below, is_equal}
use Rattle.octets.specs.OrderLaws.{le_total, le_antisym, le_refl}

-- a is below b exactly if b is not at or below a
pub below_not_le : (a b : List ℕ) → is_below (ordering a b) ≡ not (bytes_le b a)
unfolding ordering
below_not_le a b = either (bytes_le a b)
    (λ p. either (bytes_le b a) (λ q. rw (p, q)) (λ q. rw (p, q)))
    (λ p. rw (p, le_total a b p))

pub below : {o : Ordering} (a b : List ℕ) → o ≡ ordering a b → is_below o ≡ true → bytes_le b a ≡ false
below a b o e = not-true _ (sym (ap is_below o ∙ below_not_le a b) ∙ e)

pub at_or_above : {o : Ordering} (a b : List ℕ) → o ≡ ordering a b → is_below o ≡ false → bytes_le b a ≡ true
at_or_above a b o e = not-false _ (sym (ap is_below o ∙ below_not_le a b) ∙ e)

-- a string is at or above another exactly if it is not below it
pub reached : (o : Ordering) → is_ge o ≡ not (is_below o)
reached Less = refl
reached Equal = refl
reached Greater = refl

-- equal strings are those that are at or below each other
pub equal-same : (a b : List ℕ) → is_equal (ordering a b) ≡ true → a ≡ b
unfolding ordering
equal-same a b e = either (bytes_le a b)
    (λ p. either (bytes_le b a) (λ q. le_antisym a b p q) (λ q. contra e (rw (p, q))))
    (λ p. contra e (rw p))

-- of strings a at or above b, those at or below b are equal to it
pub equal-le : (a b : List ℕ) → bytes_le b a ≡ true → is_equal (ordering a b) ≡ bytes_le a b
unfolding ordering
equal-le a b h = either (bytes_le a b) (λ p. rw (p, h)) (λ p. rw p)

pub equal_refl : (a : List ℕ) → is_equal (ordering a a) ≡ true
unfolding ordering
equal_refl a = rw (le_refl a)
