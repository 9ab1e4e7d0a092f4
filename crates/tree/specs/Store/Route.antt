-- Steps: the route of a pair on a store, by the keeping of either features: the first leaf pair under an entry is found by going down first entries. The laws
-- of bytes compare the entry that the rules on bytes go through with it.
use Rattle.std.specs.Prelude.{not, ℕ, zero, suc}
use Rattle.tree.specs.Order.{Order}
use Rattle.tree.specs.Pairs.{by_record}
use Rattle.tree.specs.Position.{Passes, passes_lower}
use Rattle.tree.specs.Tree.{first_among}
use Rattle.tree.specs.Store.{Store}

-- the first leaf pair under an entry with h levels under it; if a page on the way down has no entry, the key above that page, and record number 0
abbrev pub store_first_under : {K : Type 0} → Store K → (h : ℕ) → K × ℕ → K × ℕ
store_first_under S zero x = x
store_first_under S (suc h) x = first_among (store_first_under S h) (x.0, 0) (S x.1)

module _ {K : Type 0} (O : Order K) where
  -- for features 0
  abbrev pub store_passes_records : K × ℕ → Store K → (h : ℕ) → Passes (K × ℕ)
  store_passes_records e S zero x y = not (by_record O e x)
  store_passes_records e S (suc h) x y = by_record O (store_first_under S (suc h) y) e

  -- by a header's features
  abbrev pub store_route : ℕ → K × ℕ → Store K → (h : ℕ) → Passes (K × ℕ)
  store_route zero e S = store_passes_records e S
  store_route (suc n) e S = λ h. passes_lower O e
