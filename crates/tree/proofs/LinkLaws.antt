-- Laws: if the pages of a level name their neighbours, they do so again after a new page is linked behind one of them. Cited by the laws of links after an
-- insertion. Assumes nothing.
use Rattle.std.specs.Prelude.{◌≡◌, refl, List, [], ◌∷◌, ◌++◌, ℕ, ◌+◌, ◌<◌}
use Rattle.std.proofs.Common.{sym, ◌∙◌, arith, eq-eqb, ne_eqb}
use Rattle.tree.specs.Lists.{occ}
use Rattle.tree.proofs.ListLaws.{occ_append, occ-head, occ-here, occ_differ, occ-once}
use Rattle.tree.specs.Clauses.{Links, head_or, Linked}
use Rattle.tree.specs.Relinking.{link_after}
use Rattle.tree.proofs.Insertion.Pages.{Distinct}

-- page z has the same two links in l and l'
abbrev pub SameLinks : Links → Links → ℕ → Type 0
SameLinks l l' z = (l'.left z ≡ l.left z) × (l'.right z ≡ l.right z)

pub linked-same : (none : ℕ) (l l' : Links) (prev : ℕ) (ps : List ℕ) → ((z : ℕ) → 0 < occ z ps → SameLinks l l' z) →
    Linked none l prev ps → Linked none l' prev ps
linked-same none l l' prev [] s c = tt
linked-same none l l' prev (p ∷ ps) s c =
    let same : SameLinks l l' p = s p (occ-here p ps) in
    (same.0 ∙ c.0, same.1 ∙ c.1, linked-same none l l' p ps (λ z i. s z (omega arith)) c.2)

-- a page that is not in a list is not its first
pub head_or_differ : (none z : ℕ) (ps : List ℕ) → occ z ps ≡ 0 → (z ≡ none → ⊥) → z ≡ head_or none ps → ⊥
head_or_differ none z [] o n e = n e
head_or_differ none z (p ∷ ps) o n e = occ_differ z p (p ∷ ps) o (occ-here p ps) e

-- the right link of a page in the midst of a level
pub linked-right : (none : ℕ) (l : Links) (p prev : ℕ) (pre post : List ℕ) → Linked none l prev (pre ++ p ∷ post) →
    l.right p ≡ head_or none post
linked-right none l p prev [] post c = c.1
linked-right none l p prev (x ∷ xs) post c = linked-right none l p x xs post c.2

module _ (p new : ℕ) (l : Links) where
  -- only three pages' links change
  left-keeps : (z : ℕ) → (z ≡ new → ⊥) → (z ≡ l.right p → ⊥) → (link_after p new l).left z ≡ l.left z
  left-keeps z u v = rw (ne_eqb z new u, ne_eqb z (l.right p) v)

  right-keeps : (z : ℕ) → (z ≡ p → ⊥) → (z ≡ new → ⊥) → (link_after p new l).right z ≡ l.right z
  right-keeps z u v = rw (ne_eqb z p u, ne_eqb z new v)

  pub link_after-keeps : (z : ℕ) → (z ≡ p → ⊥) → (z ≡ new → ⊥) → (z ≡ l.right p → ⊥) → SameLinks l (link_after p new l) z
  link_after-keeps z u v w = (left-keeps z v w, right-keeps z u v)

  module _ (none : ℕ) where
    -- the pages beyond the new one
    linked-post : (post : List ℕ) → Distinct (p ∷ post) → occ new (p ∷ post) ≡ 0 → l.right p ≡ head_or none post →
        Linked none l p post → Linked none (link_after p new l) new post
    linked-post [] d n e c = tt
    linked-post (y ∷ ys) d n e c =
        let yp : y ≡ p → ⊥ = λ q. occ-once p (y ∷ ys) (d p) y (occ-here y ys) (sym q) in
        let yn : y ≡ new → ⊥ = λ q. occ_differ new y (p ∷ y ∷ ys) n (omega (arith, occ-head y ys)) (sym q) in (
          rw (ne_eqb y new yn, eq-eqb y (l.right p) (sym e)),
          right-keeps y yp yn ∙ c.1,
          linked-same none l (link_after p new l) y ys
              (λ z i. link_after-keeps z
              (λ q. occ-once p (y ∷ ys) (d p) z (omega arith) (sym q))
              (λ q. occ_differ new z (p ∷ y ∷ ys) n (omega arith) (sym q))
              (λ q. occ-once y ys (omega (arith, d y)) z i (sym (q ∙ e))))
              c.2,
        )

    head_or_front : (xs post : List ℕ) → head_or none (xs ++ p ∷ post) ≡ head_or none (xs ++ p ∷ new ∷ post)
    head_or_front [] post = refl
    head_or_front (x ∷ xs) post = refl

    -- Theorem: the level is linked again
    pub linked_inserted_after : (prev : ℕ) (pre post : List ℕ) → Distinct (pre ++ p ∷ post) → occ new (pre ++ p ∷ post) ≡ 0 →
        occ none (pre ++ p ∷ post) ≡ 0 → Linked none l prev (pre ++ p ∷ post) → Linked none (link_after p new l) prev (pre ++ p ∷ new ∷ post)
    linked_inserted_after prev [] post d n e c =
        let np : new ≡ p → ⊥ = occ_differ new p (p ∷ post) n (occ-here p post) in
        let far : p ≡ head_or none post → ⊥ =
        head_or_differ none p post (omega (arith, d p, occ-head p post))
        (λ u. occ_differ none p (p ∷ post) e (occ-here p post) (sym u)) in (
          left-keeps p (λ q. np (sym q)) (λ q. far (q ∙ c.1)) ∙ c.0,
          rw (eq-eqb p p refl),
          (rw (eq-eqb new new refl), rw (ne_eqb new p np, eq-eqb new new refl) c.1, linked-post post d n c.1 c.2),
        )
    linked_inserted_after prev (x ∷ xs) post d n e c =
        let rest : List ℕ = xs ++ p ∷ post in
        let parts : (z : ℕ) → occ z rest ≡ occ z xs + occ z (p ∷ post) = λ z. occ_append z xs (p ∷ post) in
        let xn : x ≡ new → ⊥ = λ q. occ_differ new x (x ∷ rest) n (occ-here x rest) (sym q) in
        let xp : x ≡ p → ⊥ = occ-once x rest (d x) p (omega (arith, parts p, occ-head p post)) in
        let far : x ≡ head_or none post → ⊥ =
        head_or_differ none x post (omega (arith, d x, occ-head x rest, parts x)) (λ u. occ_differ none x (x ∷ rest) e (occ-here x rest) (sym u)) in (
          left-keeps x xn (λ q. far (q ∙ linked-right none l p x xs post c.2)) ∙ c.0,
          right-keeps x xp xn ∙ (c.1 ∙ head_or_front xs post),
          linked_inserted_after x xs post (λ z. omega (arith, d z)) (omega arith) (omega arith) c.2,
        )
