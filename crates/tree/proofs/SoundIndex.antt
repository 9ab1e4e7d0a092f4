-- Steps: what every call keeps of an index. This is the theory's form of a sound index; the laws of bytes lead from document 01's form to it.
use Rattle.std.specs.Prelude.{◌≡◌, ℕ, suc, ◌+◌, ◌%◌, ◌≤◌, ◌<◌}
use Rattle.basis.specs.Lists.{All}
use Rattle.tree.specs.Lists.{occ}
use Rattle.tree.specs.Tree.{pages}
use Rattle.tree.specs.Clauses.{Sized, Links, AllLinked}
use Rattle.tree.proofs.Ordered.{Ordered}
use Rattle.tree.specs.Constants.{page_size, no_page}
use Rattle.tree.specs.Index.{Index, held, Setting}

-- how often a page stands in the tree or on the free list
abbrev pub used : {K : Type 0} → ℕ → Index K → ℕ
used z i = occ z (pages i.height i.tree) + occ z i.free

-- "each page but the first is in the tree once or on the free list once": the pages of the file are the multiples of 512 below F
pub record PagesOnce {K : Type 0} (i : Index K) : Type 0 where
  pub positive : 0 < i.size
  pub aligned : i.size % page_size ≡ 0
  pub header : used 0 i ≡ 0
  pub once : (z : ℕ) → 0 < z → z < i.size → z % page_size ≡ 0 → used z i ≡ 1
  pub unaligned : (z : ℕ) → (z % page_size ≡ 0 → ⊥) → used z i ≡ 0
  pub beyond : (z : ℕ) → i.size ≤ z → used z i ≡ 0

-- what every call keeps
pub record SoundIndex {K : Type 0} (s : Setting K) (i : Index K) : Type 0 where
  pub ordered : Ordered s.keeping i.height i.tree
  pub sized : Sized s.capacity i.height i.tree
  pub pages_once : PagesOnce i
  pub records : All (λ e. 0 < e.1) (held i)
  pub within_size : i.size ≤ s.max_size
  pub within_levels : suc i.height ≤ s.max_levels

-- left and right name the neighbours on each level
abbrev pub LinkedIndex : {K : Type 0} → Links → Index K → Type 0
LinkedIndex l i = AllLinked no_page l i.height i.tree
