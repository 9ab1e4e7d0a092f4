-- Laws: the clauses of a sound index for the order of a tree, leaf pairs that ascend and keys above that are ceilings, say `Ordered`, and `Ordered` says the
-- clauses. Cited by the laws of sound bytes. Assumes nothing.
use Rattle.std.specs.Prelude.{List, [], ◌∷◌, ℕ, zero, suc, ◌<◌, length}
use Rattle.std.proofs.Common.{arith}
use Rattle.basis.specs.Lists.{All, all_left, all_map}
use Rattle.tree.specs.Lists.{NonEmpty, concat_map}
use Rattle.tree.proofs.ListLaws.{concat_map-single, non_empty-left, non_empty-length}
use Rattle.tree.proofs.OrderLaws.{le_refl}
use Rattle.tree.specs.Pairs.{first_key, Ascending}
use Rattle.tree.proofs.PairLaws.{first_key_append, ascending-left, ascending-right}
use Rattle.tree.specs.Keeping.{Keeping, Before, Clear, ClearOf}
use Rattle.tree.proofs.KeepingLaws.{ascending-first}
use Rattle.tree.specs.Tree.{Entry, Tree, pairs_under, pairs}
use Rattle.tree.specs.Clauses.{SizedUnder, Sized, AtOrAbove, BelowNext, Ceilings}
use Rattle.tree.proofs.Ordered.{Rooted, Separated, OrderedUnder, SeparatedTree, Ordered, separated-all}

-- if counts are 1 or more, there is a leaf pair under every entry
sized-level : {K C : Type 0} (S : K × C → Type 0) (under : K × C → List (K × ℕ)) → ((x : K × C) → S x → NonEmpty (under x)) →
    (xs : List (K × C)) → 0 < length xs → All S xs → NonEmpty (concat_map under xs)
sized-level S under ok [] i s = absurd (omega arith)
sized-level S under ok (x ∷ xs) i s = non_empty-left (under x) (concat_map under xs) (ok x s.0)

pub sized-non_empty : {K : Type 0} (cap h : ℕ) (x : Entry K h) → SizedUnder cap h x → NonEmpty (pairs_under h x)
sized-non_empty cap zero x s = tt
sized-non_empty cap (suc h) x s = sized-level (SizedUnder cap h) (pairs_under h) (sized-non_empty cap h) x.1.1 s.0 s.2

-- only a lone root leaf has no entries
pub sized-rooted : {K : Type 0} (cap h : ℕ) (t : Tree K h) → Sized cap h t → Rooted h t
sized-rooted cap zero t s = tt
sized-rooted cap (suc h) t s = non_empty-length t.1 s.0

module _ {K : Type 0} (Q : Keeping K) where
  -- the entries of a leaf, whose pairs ascend, separate themselves
  leaf-separated : (xs : List (K × ℕ)) → Ascending Q.pair_le xs → Separated Q (OrderedUnder Q zero) (pairs_under zero) xs
  leaf-separated [] a = tt
  leaf-separated (x ∷ xs) a = (
    record {
      good = tt;
      non_empty = tt;
      ceiling = (le_refl Q.order x.0, tt);
      apart = rw (concat_map-single xs) (all_map (λ z. Before Q x z) (λ z. Clear Q x.0 z.0) (λ z q. Q.before-clear x z q) xs a.0);
    },
    leaf-separated xs a.1,
  )

  -- one level: entries whose keys are ceilings, over ascending leaf pairs, are separated
  ceilings-separated : {C : Type 0} (G S R : K × C → Type 0) (under : K × C → List (K × ℕ)) → ((x : K × C) → S x → NonEmpty (under x)) →
      ((x : K × C) → S x → R x → Ascending Q.pair_le (under x) → G x) →
      (xs : List (K × C)) → All S xs → All R xs → AtOrAbove Q under xs → BelowNext Q under xs → Ascending Q.pair_le (concat_map under xs) →
      Separated Q G under xs
  ceilings-separated G S R under has ok [] s q u v a = tt
  ceilings-separated G S R under has ok (x ∷ []) s q u v a =
      (record { good = ok x s.0 q.0 (ascending-left Q.pair_le (under x) [] a); non_empty = has x s.0; ceiling = u.0; apart = tt }, tt)
  ceilings-separated G S R under has ok (x ∷ y ∷ ys) s q u v a =
      let rest : Ascending Q.pair_le (concat_map under (y ∷ ys)) = ascending-right Q.pair_le (under x) (concat_map under (y ∷ ys)) a in (
        record {
          good = ok x s.0 q.0 (ascending-left Q.pair_le (under x) (concat_map under (y ∷ ys)) a);
          non_empty = has x s.0;
          ceiling = u.0;
          apart = ascending-first Q x.0 x.0 (concat_map under (y ∷ ys))
              (non_empty-left (under y) (concat_map under ys) (has y s.1.0)) rest
              (rw (first_key_append x.0 (under y) (concat_map under ys) (has y s.1.0)) v.0);
        },
        ceilings-separated G S R under has ok (y ∷ ys) s.1 q.1 u.1 v.1 rest,
      )

  ceilings-tree : (cap h : ℕ) (t : Tree K h) → All (SizedUnder cap h) t.1 → Ascending Q.pair_le (pairs h t) → Ceilings Q h t → SeparatedTree Q h t
  ceilings-tree cap zero t s a c = leaf-separated t.1 (rw (concat_map-single t.1) at a)
  ceilings-tree cap (suc h) t s a c =
      ceilings-separated (OrderedUnder Q (suc h)) (SizedUnder cap (suc h)) (λ x. Ceilings Q h x.1) (pairs_under (suc h)) (sized-non_empty cap (suc h))
      (λ x u q b. (non_empty-length x.1.1 u.0, ceilings-tree cap h x.1 u.2 b q)) t.1 s c.2 c.0 c.1 a

  -- Theorem: the clauses say `Ordered`
  pub ceilings-ordered : (cap h : ℕ) (t : Tree K h) → All (SizedUnder cap h) t.1 → Ascending Q.pair_le (pairs h t) → Ceilings Q h t → Ordered Q h t
  ceilings-ordered cap h t s a c = record { ascending = a; separated = ceilings-tree cap h t s a c }

  -- and back
  pub first_key-clear : (b : K) (l : List (K × ℕ)) → NonEmpty l → ClearOf Q b l → Clear Q b (first_key b l)
  first_key-clear b [] z w = absurd z
  first_key-clear b (e ∷ es) z w = w.0

  separated-above : {C : Type 0} (G : K × C → Type 0) (under : K × C → List (K × ℕ)) (xs : List (K × C)) → Separated Q G under xs → AtOrAbove Q under xs
  separated-above G under [] c = tt
  separated-above G under (x ∷ xs) c = (c.0.ceiling, separated-above G under xs c.1)

  separated-next : {C : Type 0} (G : K × C → Type 0) (under : K × C → List (K × ℕ)) (xs : List (K × C)) → Separated Q G under xs → BelowNext Q under xs
  separated-next G under [] c = tt
  separated-next G under (x ∷ []) c = tt
  separated-next G under (x ∷ y ∷ ys) c = (
    first_key-clear x.0 (under y) c.1.0.non_empty (all_left (λ e. Clear Q x.0 e.0) (under y) (concat_map under ys) c.0.apart),
    separated-next G under (y ∷ ys) c.1,
  )

  separated-ceilings : (h : ℕ) (t : Tree K h) → SeparatedTree Q h t → Ceilings Q h t
  separated-ceilings zero t o = tt
  separated-ceilings (suc h) t o =
      let G = OrderedUnder Q (suc h) in (
        separated-above G (pairs_under (suc h)) t.1 o,
        separated-next G (pairs_under (suc h)) t.1 o,
        all_map G (λ x. Ceilings Q h x.1) (λ x g. separated-ceilings h x.1 g.1) t.1 (separated-all Q G (pairs_under (suc h)) t.1 o),
      )

  -- Theorem: in an ordered tree keys above are ceilings
  pub ordered-ceilings : (h : ℕ) (t : Tree K h) → Ordered Q h t → Ceilings Q h t
  ordered-ceilings h t o = separated-ceilings h t o.separated
