-- Laws: the stores that unlink a page, and that put it at the head of the free list, are the rule's. Cited by the proofs of the functions. Assumes nothing.
use Rattle.std.specs.Prelude.{ℕ, ◌≡◌, List, []}
use Rattle.std.proofs.Common.{◌∙◌}
use Rattle.idx_page.specs.Header.{free_pointer}
use Rattle.idx_page.specs.Page.{left_at, right_at}
use Rattle.idx_layout.specs.Layout.{with_free}
use Rattle.idx_layout.specs.Layout.{new_page, link_beyond, link_before, unlinked, freed}

-- the stores that unlink a page, and that put it at the head of the free list
module _ (b : List ℕ) (p : ℕ) where
  pub unlinked_by : {l r : ℕ} {l1 l2 : List ℕ} → l ≡ left_at b p → r ≡ right_at b p → l1 ≡ link_beyond b r l → l2 ≡ link_before l1 l r → l2 ≡ unlinked b p
  unfolding unlinked
  unlinked_by el er e1 e2 = e2 ∙ rw (e1, el, er)

  pub freed_by : {next : ℕ} {l1 l2 : List ℕ} → next ≡ free_pointer b → l1 ≡ new_page b p 0 0 next [] → l2 ≡ with_free l1 p → l2 ≡ freed b p
  unfolding freed
  freed_by e e1 e2 = e2 ∙ rw (e1, e)
