-- The order is by the one test both ways.
use Rattle.std.proofs.Common.{◌∙◌, ◌≡◌, ℕ, List, is_le, Ordering}
use Rattle.basis.specs.Tests.{either}
use Rattle.octets.specs.Order.{bytes_le, ordering}
use Rattle.idx_route.proofs.key_up_to.Goals as goal

at_or_below : {o : Ordering} (a b : List ℕ) → o ≡ ordering a b → is_le o ≡ bytes_le a b
unfolding ordering
at_or_below a b e = rw e (either (bytes_le a b) (λ p. either (bytes_le b a) (λ q. rw (p, q)) (λ q. rw (p, q))) (λ p. rw p))

pub returns : goal.returns
returns c = c.is_le.ensures ∙ at_or_below _ _ c.compare_entry.ensures
