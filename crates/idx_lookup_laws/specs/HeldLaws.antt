-- Laws: lookup on a sound index of either features is the theory's lookup by the keeping of those features, and goes to as many pages. Cited by the claim about
-- lists of calls. Assumes nothing.
use Rattle.std.specs.Prelude.{◌≡◌, refl, List, ℕ, zero, suc, eqb, length}
use Rattle.std.proofs.Common.{sym, ap, ◌∙◌, zero-add, arith, eq-eqb, ne_eqb}
use Rattle.basis.specs.Tests.{either}
use Rattle.tree.specs.Keeping.{goes_on_for}
use Rattle.tree.specs.LookupFirst.{first_record, lookup_by, visited_by}
use Rattle.idx_page.specs.Header.{key_length, features}
use Rattle.idx_page.specs.KeyOrder.{bytes_order}
use Rattle.idx_lookup.specs.Lookup.{lookup_rule}
use Rattle.idx_sound.specs.Sound.{Sound, index_tree, kept_by}
use Rattle.idx_lookup_laws.specs.FoundLaws.{answer_of, lookup-tree}
use Rattle.idx_lookup_laws.specs.FirstLaws.{first-tree}

-- lookup goes on for features 0 alone
pub goes_on_lem : (f : ℕ) → goes_on_for bytes_order f ≡ eqb f 0
goes_on_lem zero = sym (eq-eqb 0 0 refl)
goes_on_lem (suc n) = sym (ne_eqb (suc n) 0 (λ q. omega arith))

module _ (b key : List ℕ) (s : Sound b) (e : length key ≡ key_length b) where
  -- Theorem: lookup's steps are the theory's, by the keeping of the header's features
  pub lookup-by : let h = s.height in let T = index_tree b s.height in
      lookup_rule b key ≡ answer_of (lookup_by (kept_by b) key h T) (length (visited_by (kept_by b) key h T))
  lookup-by = either (eqb (features b) 0)
      (λ t. rw (goes_on_lem (features b) ∙ t) (first-tree b key s e t
      ∙ ap (answer_of (first_record bytes_order key s.height (index_tree b s.height)).0) (zero-add _)))
      (λ t. rw (goes_on_lem (features b) ∙ t) (lookup-tree b key s e t))
