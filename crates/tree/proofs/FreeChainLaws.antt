-- Laws: the free list after a page joins it at the head, how it is read off a file, and that it has no page twice; nor has a level whose pages name their
-- neighbours. Cited by the laws of bytes and of sound indexes. Assumes nothing.
use Rattle.std.specs.Prelude.{◌≡◌, refl, List, [], ◌∷◌, ℕ, zero, suc, ◌+◌, ◌≤◌, ◌<◌, eqb, ltb, length}
use Rattle.std.proofs.Common.{sym, ap, ap₂, ◌∙◌, subst, arith, eqb-true, eq-eqb, ne_eqb, ltb-true, ltb-false}
use Rattle.basis.specs.Tests.{either}
use Rattle.tree.specs.Lists.{occ}
use Rattle.tree.proofs.ListLaws.{occ-here, occ_not_head}
use Rattle.tree.specs.Clauses.{Links, head_or, Linked}
use Rattle.tree.proofs.Insertion.Pages.{Distinct}
use Rattle.tree.specs.FreeChain.{Chained, chain_from}

-- what is behind the page p on a list: a shorter list, chained from what p names on
record Behind (none : ℕ) (next : ℕ → ℕ) (p : ℕ) (ps : List ℕ) : Type 0 where
  rest : List ℕ
  short : length rest < length ps
  chained : Chained none next (next p) rest
  some : occ none rest ≡ 0

module _ (none : ℕ) (next : ℕ → ℕ) where
  -- the head is the first page of the list, or none
  pub chained-head : (head : ℕ) (ps : List ℕ) → Chained none next head ps → head ≡ head_or none ps
  chained-head head [] c = c
  chained-head head (p ∷ ps) c = c.0

  -- a list stays the free list if its pages name what they named
  pub chained_same : (next' : ℕ → ℕ) (head : ℕ) (ps : List ℕ) → ((z : ℕ) → 0 < occ z ps → next' z ≡ next z) → Chained none next head ps →
      Chained none next' head ps
  chained_same next' head [] s c = c
  chained_same next' head (p ∷ ps) s c =
      (c.0, rw (s p (occ-here p ps)) (chained_same next' (next p) ps (λ z i. s z (omega arith)) c.1))

  -- Theorem: a page that names the old head joins the free list at the head
  pub chained-join : (next' : ℕ → ℕ) (head p : ℕ) (ps : List ℕ) → next' p ≡ head → ((z : ℕ) → 0 < occ z ps → next' z ≡ next z) →
      Chained none next head ps → Chained none next' p (p ∷ ps)
  chained-join next' head p ps e s c = (refl, rw e (chained_same next' head ps s c))

  -- Theorem: the free list is read off the file, if at least as many pages are read as it has
  pub chained-read : (n head : ℕ) (ps : List ℕ) → occ none ps ≡ 0 → length ps ≤ n → Chained none next head ps →
      chain_from none next n head ≡ ps
  chained-read zero head [] o l c = refl
  chained-read zero head (p ∷ ps) o l c = absurd (omega arith)
  chained-read (suc n) head [] o l c = rw (eq-eqb head none c, chain_from)
  chained-read (suc n) head (p ∷ ps) o l c =
      rw (ne_eqb head none (λ e. occ_not_head none p ps o (sym e ∙ c.0)), chain_from)
      (ap₂ (λ (x : ℕ) (l : List ℕ). x ∷ l) c.0
      (ap (λ x. chain_from none next n (next x)) c.0 ∙ chained-read n (next p) ps (omega arith) (omega arith) c.1))

  -- two lists that are chained from one page on, and on which none is no page, are of one length
  chained-length : (head : ℕ) (ps qs : List ℕ) → occ none ps ≡ 0 → occ none qs ≡ 0 → Chained none next head ps → Chained none next head qs →
      length ps ≡ length qs
  chained-length head [] [] o u c d = refl
  chained-length head [] (q ∷ qs) o u c d = absurd (occ_not_head none q qs u (sym c ∙ d.0))
  chained-length head (p ∷ ps) [] o u c d = absurd (occ_not_head none p ps o (sym d ∙ c.0))
  chained-length head (p ∷ ps) (q ∷ qs) o u c d =
      let e : q ≡ p = sym d.0 ∙ c.0 in
      ap suc (chained-length (next p) ps qs (omega arith) (omega arith) c.1 (subst (λ x. Chained none next (next x) qs) e d.1))

  behind : (p head : ℕ) (ps : List ℕ) → 0 < occ p ps → occ none ps ≡ 0 → Chained none next head ps → Behind none next p ps
  behind p head [] i o c = absurd (omega arith)
  behind p head (q ∷ ps) i o c = either (eqb p q)
      (λ e. record {
        rest = ps;
        short = omega arith;
        chained = subst (λ x. Chained none next (next x) ps) (sym (eqb-true p q e)) c.1;
        some = omega arith;
      })
      (λ e.
      let l : 0 < 0 + occ p ps = rw e at i in
      let r = behind p (next q) ps (omega arith) (omega arith) c.1 in
      let short = r.short in
      record { rest = r.rest; short = omega arith; chained = r.chained; some = r.some })

  -- Theorem: a free list that ends has no page twice, since each page names one page
  pub chained-distinct : (head : ℕ) (ps : List ℕ) → occ none ps ≡ 0 → Chained none next head ps → Distinct ps
  chained-distinct head [] o c z = omega arith
  chained-distinct head (p ∷ ps) o c z =
      let later = chained-distinct (next p) ps (omega arith) c.1 z in
      either (eqb z p)
      (λ e. either (ltb 0 (occ z ps))
      (λ t.
      let r = behind z (next p) ps (ltb-true 0 (occ z ps) t) (omega arith) c.1 in
      let again = subst (λ x. Chained none next (next x) r.rest) (eqb-true z p e) r.chained in
      let short = r.short in
      absurd (omega (arith, chained-length (next p) ps r.rest (omega arith) r.some c.1 again)))
      (λ t. rw e (omega (arith, ltb-false 0 (occ z ps) t))))
      (λ e. rw e (omega arith))

-- the pages of a level are chained by their right links
linked-chained : (none : ℕ) (l : Links) (prev : ℕ) (ps : List ℕ) → Linked none l prev ps → Chained none l.right (head_or none ps) ps
linked-chained none l prev [] k = refl
linked-chained none l prev (p ∷ ps) k = (refl, rw k.1 (linked-chained none l p ps k.2))

-- Theorem: a level whose pages name their neighbours has no page twice
pub linked-distinct : (none : ℕ) (l : Links) (prev : ℕ) (ps : List ℕ) → occ none ps ≡ 0 → Linked none l prev ps → Distinct ps
linked-distinct none l prev ps o k = chained-distinct none l.right (head_or none ps) ps o (linked-chained none l prev ps k)
