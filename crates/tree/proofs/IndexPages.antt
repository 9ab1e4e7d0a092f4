-- Laws: what it means for the tree and the supply that each page is in the tree once or on the free list once; after an insertion and after a removal it is so
-- again. Cited by the laws of sound indexes and by the laws of bytes. Assumes nothing.
use Rattle.std.specs.Prelude.{◌≡◌, List, ℕ, ◌+◌, ◌%◌, ◌≤◌, ◌<◌, ltb, eqb}
use Rattle.std.proofs.Common.{sym, subst, ◌∙◌, arith, ltb-true, ltb-false, eqb-true}
use Rattle.std.proofs.lemmas.Bool.{eqb-false}
use Rattle.basis.specs.Tests.{either}
use Rattle.tree.specs.Constants.{page_size, no_page}
use Rattle.tree.specs.Lists.{occ}
use Rattle.tree.specs.Tree.{pages}
use Rattle.tree.specs.Insertion.{Grown, grown_pages}
use Rattle.tree.proofs.Insertion.Pages.{new_pages, Distinct, Unused}
use Rattle.tree.specs.Removal.{emptied}
use Rattle.tree.proofs.Removal.Pages.{remove-pages}
use Rattle.tree.specs.FreeList.{lacking}
use Rattle.tree.proofs.FreeListLaws.{free_first-pages, free_first-cases, join_free-pages}
use Rattle.tree.specs.Supply.{page_at_end, taken_page}
use Rattle.tree.proofs.SupplyLaws.{at_end_below, at_end_beyond, at_end_unaligned, at_end_once}
use Rattle.tree.specs.Index.{Index, grown, Setting, striking_route, removed}
use Rattle.tree.proofs.SoundIndex.{used, PagesOnce}

module _ {K : Type 0} (i : Index K) (p : PagesOnce i) where
  used-once : (z : ℕ) → used z i ≤ 1
  used-once z = either (ltb z i.size)
      (λ e. either (eqb z 0)
      (λ f. let P : ℕ → Type 0 = λ n. used n i ≤ 1 in subst P (sym (eqb-true z 0 f)) (omega (arith, p.header)))
      (λ f. either (eqb (z % page_size) 0)
      (λ m. omega (arith, p.once z (omega (arith, eqb-false z 0 f)) (ltb-true z i.size e) (eqb-true (z % page_size) 0 m)))
      (λ m. omega (arith, p.unaligned z (eqb-false (z % page_size) 0 m)))))
      (λ e. omega (arith, p.beyond z (ltb-false z i.size e)))

  -- Theorem: each page is in the tree at most once, and on the free list at most once
  pub pages-distinct : Distinct (pages i.height i.tree)
  pages-distinct z = omega (arith, used-once z)

  pub free-distinct : Distinct i.free
  free-distinct z = omega (arith, used-once z)

  -- Theorem: the free pages lie in the file; the number of no page is none of them, and no page of the tree
  pub free-beyond : (z : ℕ) → i.size ≤ z → occ z i.free ≡ 0
  free-beyond z l = omega (arith, p.beyond z l)

  pub no_page-unused : used no_page i ≡ 0
  no_page-unused = p.unaligned no_page (λ u. omega arith)

  -- Theorem: no page that is taken from the supply is in the tree
  pub taken-unused : Unused (taken_page i.free i.size) (pages i.height i.tree)
  taken-unused j =
      let q : ℕ = taken_page i.free i.size j in
      free_first-cases i.free (page_at_end i.size) j
      (λ o. omega (arith, used-once q))
      (λ n e. omega (arith, p.beyond q (omega arith)))

  -- Theorem: after an insertion each page is in the tree once or on the free list once
  pub grown-pages : (g : Grown K) →
      ((z : ℕ) → occ z (grown_pages g) ≡ occ z (pages i.height i.tree) + occ z (new_pages (taken_page i.free i.size) g.2)) →
      PagesOnce (grown i.free i.size g)
  grown-pages g counts =
      let F : ℕ = i.size in
      let n : ℕ = lacking g.2 i.free in
      let grows : (z : ℕ) → used z (grown i.free F g) ≡ used z i + occ z (new_pages (page_at_end F) n) =
      λ z. omega (arith, counts z, free_first-pages z g.2 i.free (page_at_end F)) in
      record {
        positive = omega (arith, p.positive);
        aligned = omega (arith, p.aligned);
        header = omega (arith, grows 0, p.header, at_end_below F n 0 p.positive);
        once = λ z a b m. either (ltb z F)
            (λ e. let l : z < F = ltb-true z F e in omega (arith, grows z, p.once z a l m, at_end_below F n z l))
            (λ e. let l : F ≤ z = ltb-false z F e in omega (arith, grows z, p.beyond z l, at_end_once F n z p.aligned m l b));
        unaligned = λ z o. omega (arith, grows z, p.unaligned z o, at_end_unaligned F n z p.aligned o);
        beyond = λ z a. omega (arith, grows z, p.beyond z (omega arith), at_end_beyond F n z a);
      }

  -- Theorem: so is each page after a removal
  pub removed-pages : (s : Setting K) (e : K × ℕ) → PagesOnce (removed s e i)
  removed-pages s e =
      let out : List ℕ = emptied (striking_route s e) i.height i.tree in
      let same : (z : ℕ) → used z (removed s e i) ≡ used z i =
      λ z. omega (arith, remove-pages (striking_route s e) z i.height i.tree, join_free-pages z out i.free) in
      record {
        positive = p.positive;
        aligned = p.aligned;
        header = same 0 ∙ p.header;
        once = λ z a b m. same z ∙ p.once z a b m;
        unaligned = λ z o. same z ∙ p.unaligned z o;
        beyond = λ z a. same z ∙ p.beyond z a;
      }
