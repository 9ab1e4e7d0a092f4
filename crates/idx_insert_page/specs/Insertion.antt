-- Rules: insertion, page by page, as the whole buffer that document 01's steps leave. k is the key length; the buffer holds a sound index with room.
use Rattle.std.specs.Prelude.{ℕ, zero, suc, cond, List, length, leb, ltb}
use Rattle.tree.specs.Pairs.{insert_pair}
use Rattle.idx_page.specs.Header.{max_levels, no_page, is_page, root_offset, features}
use Rattle.idx_page.specs.Page.{attribute_at, leaf_bit, capacity}
use Rattle.idx_page.specs.Reading.{Item}
use Rattle.idx_page.specs.EntryOrder.{item_order}
use Rattle.idx_supply.specs.declared.Supply.{Supply}
use Rattle.idx_supply.specs.Supply.{supply_of, take_page, with_supply}
use Rattle.idx_leaf.specs.Leaf.{items_in, stored}
use Rattle.idx_route.specs.Route.{chosen_at, child_of}
use Rattle.idx_layout.specs.Layout.{with_root, with_entries, new_page, split_page}
use Rattle.idx_entries.specs.Entries.{replaced, raised, two_for, root_entries}

-- what an insertion under a page leaves for the page above to do: nothing; or to take in the new page at q. Both have the supply that is left. The third does
-- not occur on a sound index with room: it keeps the rule total
pub data Outcome : Type 0 where
  kept : Supply → Outcome
  split : ℕ → Supply → Outcome
  bad : Outcome

-- a buffer after a step, and the outcome
pub record Step : Type 0 where
  pub after : List ℕ
  pub outcome : Outcome

abbrev pub step : List ℕ → Outcome → Step
step b o = record { after = b; outcome = o }

-- the page at p gets the entries es: it holds them, or is split, with a new page from the supply s
unfoldable pub take_in : ℕ → List ℕ → ℕ → List Item → Supply → Step
take_in k b p es s =
    let whole = step (with_entries b p es) (kept s) in
    let new = take_page b s in
    let halves = step (split_page b p es new.page.0) (split new.page.0 new.rest) in
    cond (leb (length es) (capacity k)) whole (cond (is_page (length b) new.page.0) halves (step b bad))

-- the page at p after an insertion under the child at c of its entry i. If the page has no entry i, which does not occur on a sound index, it stays
abbrev pub after_child : ℕ → List ℕ → List ℕ → ℕ → ℕ → ℕ → Outcome → Step
after_child k b key p i c (kept s) = step (raised k b key p i) (kept s)
after_child k b key p i c (split q s) =
    let es = items_in k b p in
    let two = take_in k b p (replaced i (two_for k b key c q) es) s in
    cond (ltb i (length es)) two (step b bad)
after_child k b key p i c bad = step b bad

-- the entry e goes in under the page at p, with the supply s of new pages and the levels left falling from 15: into the page if it is a leaf, else under the
-- child of entry i, which is chosen once
unfoldable pub insert_under : ℕ → ℕ → List ℕ → Item → ℕ → Supply → Step
insert_under k zero b e p s = step b bad
insert_under k (suc left) b e p s =
    let es = items_in k b p in
    let leaf = take_in k b p (insert_pair (item_order (features b)) e es) s in
    let i = chosen_at b e es in
    let below = insert_under k left b e (child_of i es) s in
    let upper = after_child k below.after e.0 p i (child_of i es) below.outcome in
    cond (is_page (length b) p) (cond (leaf_bit (attribute_at b p)) leaf upper) (step b bad)

-- the root at p after the insertion under it: if it was split, "the new root last", over the two halves with their own last keys; and the header's root
-- offset and supply. If there is room, the new root is a page of the buffer
abbrev pub at_root : ℕ → List ℕ → List ℕ → ℕ → Outcome → List ℕ
at_root k b key p (kept s) = with_supply b s
at_root k b key p (split q s) =
    let new = take_page b s in
    let root = new_page b new.page.0 1 no_page no_page (root_entries k b key p q) in
    let grown = with_supply (with_root root new.page.0) new.rest in
    cond (is_page (length b) new.page.0) grown b
at_root k b key p bad = b

-- the buffer after an insertion that is accepted
unfoldable pub inserted_buffer : ℕ → List ℕ → List ℕ → ℕ → List ℕ
inserted_buffer k b key number =
    let s = insert_under k max_levels b (stored key number) (root_offset b) (supply_of b) in
    at_root k s.after key (root_offset b) s.outcome
