-- Steps: an index as a tree with its free list and its file size, the rule for refusal 30, and the calls on it. The laws of bytes read the index in a buffer as
-- such an index.
use Rattle.std.specs.Prelude.{Bool, false, cond, ◌||◌, List, [], ℕ, ◌*◌, ltb}
use Rattle.tree.specs.Constants.{page_size, no_page}
use Rattle.tree.specs.Pairs.{has}
use Rattle.tree.specs.Tree.{Tree, pairs}
use Rattle.tree.specs.Clauses.{Links}
use Rattle.tree.specs.Keeping.{Route, Keeping}
use Rattle.tree.specs.LookupFirst.{lookup_by}
use Rattle.tree.specs.Insertion.{Grown, insert}
use Rattle.tree.specs.Room.{needs, levels_after}
use Rattle.tree.specs.Relinking.{relinked}
use Rattle.tree.specs.Removal.{remove, emptied}
use Rattle.tree.specs.Unlinking.{unlink_all}
use Rattle.tree.specs.FreeList.{free_after, join_free}
use Rattle.tree.specs.Supply.{taken_page, size_after}
use Rattle.tree.specs.Book.{Call, insertion, removal_of, lookup_of, Answer, KeyTests, verdict, striking, finding, is_accepted}

-- an index: the levels under the root, the tree, whose pages are named by their offsets, the free list from its head on, and the file size F
pub record Index (K : Type 0) : Type 0 where
  pub height : ℕ
  pub tree : Tree K height
  pub free : List ℕ
  pub size : ℕ

-- the leaf pairs of an index
abbrev pub held : {K : Type 0} → Index K → List (K × ℕ)
held i = pairs i.height i.tree

-- a fresh index: root 512, F 1,024, and "count 0" there; no page is free
abbrev pub fresh : {K : Type 0} → Index K
fresh = record { height = 0; tree = (page_size, []); free = []; size = 2 * page_size }

-- an index of free list `free` and file size `size` after its tree has become g
abbrev pub grown : {K : Type 0} → List ℕ → ℕ → Grown K → Index K
grown free size g = record { height = g.0; tree = g.1; free = free_after g.2 free; size = size_after free size g.2 }

-- what an index is kept by: how it keeps its leaf pairs, the capacity of a page, and the most that F and the levels may be: the buffer's length or
-- 16,777,216, whichever is less, and 15
pub record Setting (K : Type 0) : Type 0 where
  pub keeping : Keeping K
  pub capacity : ℕ
  pub max_size : ℕ
  pub max_levels : ℕ

module _ {K : Type 0} (s : Setting K) where
  -- the rule for 30, of an insertion's pair and of a call: "30 is given exactly when F would pass the buffer or 16,777,216, or levels would pass 15"; F grows
  -- by the pages that the free list lacks
  abbrev pub out_of_room : K × ℕ → Index K → Bool
  out_of_room e i =
      ltb s.max_size (size_after i.free i.size (needs (s.keeping.route e) s.capacity i.height i.tree))
      || ltb s.max_levels (levels_after (s.keeping.route e) s.capacity i.height i.tree)

  abbrev pub no_room_for : Call K → Index K → Bool
  no_room_for (insertion k r) i = out_of_room (k, r) i
  no_room_for (removal_of k r) i = false
  no_room_for (lookup_of k) i = false

  -- the answer to a call
  abbrev pub answer : KeyTests K → Call K → Index K → Answer
  answer tests (insertion k r) i =
      verdict (tests.fits k) (tests.barred k) r (has s.keeping.pair_le (k, r) (held i)) (out_of_room (k, r) i)
  answer tests (removal_of k r) i = striking (tests.fits k) (has s.keeping.pair_le (k, r) (held i))
  answer tests (lookup_of k) i = finding (tests.fits k) (lookup_by s.keeping k i.height i.tree)

  -- the tree after an insertion, whose new pages come from the supply
  abbrev pub inserted_tree : K × ℕ → Index K → Grown K
  inserted_tree e i = insert s.keeping s.capacity (taken_page i.free i.size) e i.height i.tree

  -- the route of a removal: an insertion's
  abbrev pub striking_route : K × ℕ → Route K
  striking_route e = s.keeping.route e

  -- the index after an accepted insertion, after an accepted removal, and after a call
  abbrev pub inserted : K × ℕ → Index K → Index K
  inserted e i = grown i.free i.size (inserted_tree e i)

  abbrev pub removed : K × ℕ → Index K → Index K
  removed e i = record {
    height = (remove (striking_route e) i.height i.tree).0;
    tree = (remove (striking_route e) i.height i.tree).1;
    free = join_free (emptied (striking_route e) i.height i.tree) i.free;
    size = i.size;
  }

  abbrev pub next : KeyTests K → Call K → Index K → Index K
  next tests (insertion k r) i = cond (is_accepted (answer tests (insertion k r) i)) (inserted (k, r) i) i
  next tests (removal_of k r) i = cond (is_accepted (answer tests (removal_of k r) i)) (removed (k, r) i) i
  next tests (lookup_of k) i = i

  -- the links after an accepted insertion, and after an accepted removal
  abbrev pub inserted_links : K × ℕ → Index K → Links → Links
  inserted_links e i l =
      relinked (s.keeping.route e) no_page (taken_page i.free i.size) s.capacity i.height i.tree (inserted_tree e i) l

  abbrev pub removed_links : K × ℕ → Index K → Links → Links
  removed_links e i l = unlink_all (emptied (striking_route e) i.height i.tree) l
