-- Laws: the leaf pairs of the tree that a store is read as are the entries of its leaves, left to right: so a walk along the leaves meets all records of a key,
-- in order. Cited by the laws of bytes. Assumes nothing.
use Rattle.std.specs.Prelude.{◌≡◌, refl, List, [], ◌∷◌, map, ℕ, zero, suc}
use Rattle.std.proofs.Common.{sym, ◌∙◌, append-nil, arith, ne_eqb}
use Rattle.tree.specs.Lists.{concat_map}
use Rattle.tree.proofs.ListLaws.{concat_map_append, concat_map-single}
use Rattle.tree.specs.Tree.{pairs_under, pairs, level_under, level}
use Rattle.tree.specs.Store.{Store, read_entry, read_tree}
use Rattle.tree.proofs.Store.Laws.{map_read-zero}

module _ {K : Type 0} (S : Store K) where
  -- one level, abstract in what lies below
  among_leaves : (h : ℕ) →
      ((x : K × ℕ) → pairs_under h (read_entry S h x) ≡ concat_map S (level_under 0 h (read_entry S h x))) → (xs : List (K × ℕ)) →
      concat_map (pairs_under h) (map (read_entry S h) xs) ≡ concat_map S (concat_map (level_under 0 h) (map (read_entry S h) xs))
  among_leaves h ok [] = refl
  among_leaves h ok (x ∷ xs) =
      rw (ok x, among_leaves h ok xs)
      (sym (concat_map_append S (level_under 0 h (read_entry S h x)) (concat_map (level_under 0 h) (map (read_entry S h) xs))))

  leaf-pairs : (p : ℕ) → concat_map (pairs_under zero) (map (read_entry S zero) (S p)) ≡ concat_map S (p ∷ [])
  leaf-pairs p = concat_map-single (map (read_entry S zero) (S p)) ∙ (map_read-zero S (S p) ∙ sym (append-nil (S p)))

  under-leaves : (h : ℕ) (x : K × ℕ) →
      pairs_under (suc h) (read_entry S (suc h) x) ≡ concat_map S (level_under 0 (suc h) (read_entry S (suc h) x))
  under-leaves zero x = leaf-pairs x.1
  under-leaves (suc h) x = rw (ne_eqb 0 (suc h) (λ e. omega arith)) (among_leaves (suc h) (under-leaves h) (S x.1))

  -- Theorem: the leaf pairs are the entries of the pages on level 0
  pub pairs-leaves : (h p : ℕ) → pairs h (read_tree S h p) ≡ concat_map S (level 0 h (read_tree S h p))
  pairs-leaves zero p = leaf-pairs p
  pairs-leaves (suc h) p = rw (ne_eqb 0 (suc h) (λ e. omega arith)) (among_leaves (suc h) (under-leaves h) (S p))
