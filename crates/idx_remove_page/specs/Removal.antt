-- Rules: removal, page by page, as the whole buffer that document 02's K6 leaves. k is the key length; the buffer holds a sound index with the pair.
use Rattle.std.specs.Prelude.{ℕ, zero, suc, cond, List, [], ◌∷◌, length, ltb}
use Rattle.idx_page.specs.Header.{max_levels, no_page, root_offset, is_page}
use Rattle.idx_page.specs.Page.{attribute_at, leaf_bit}
use Rattle.idx_page.specs.Reading.{Item}
use Rattle.idx_leaf.specs.Leaf.{items_in, stored, place_in}
use Rattle.idx_route.specs.Route.{chosen_at, child_of}
use Rattle.idx_layout.specs.Layout.{with_entries, new_page, unlinked, freed}
use Rattle.idx_entries.specs.Entries.{without_entry}

-- what a removal under a page leaves for the page above to do: nothing; or, the page being "emptied", to free it and to lose its entry. The third does not
-- occur on a sound index with the key: it keeps the rule total
pub data Outcome : Type 0 where
  kept : Outcome
  emptied : Outcome
  bad : Outcome

-- a buffer after a step, and the outcome
pub record Step : Type 0 where
  pub after : List ℕ
  pub outcome : Outcome

abbrev pub step : List ℕ → Outcome → Step
step b o = record { after = b; outcome = o }

-- a page is emptied if no entry is left
abbrev pub left_with : List Item → Outcome
left_with [] = emptied
left_with (x ∷ xs) = kept

-- "The entry goes; .. a page that loses an entry is zero after its last": entry i of the page at p
unfoldable pub take_out : ℕ → List ℕ → ℕ → ℕ → Step
take_out k b p i =
    let es = items_in k b p in
    let fewer = without_entry i es in
    cond (ltb i (length es)) (step (with_entries b p fewer) (left_with fewer)) (step b bad)

-- the page at p after a removal under its entry i, over the child at c: "keys above stay"; "an emptied page other than the root is unlinked from its
-- neighbours and its parent's entry goes", and it joins "the free list, leaf first, each at the head"
abbrev pub after_child : ℕ → List ℕ → ℕ → ℕ → ℕ → Outcome → Step
after_child k b p i c kept = step b kept
after_child k b p i c emptied = take_out k (freed (unlinked b c) c) p i
after_child k b p i c bad = step b bad

-- the entry e goes from under the page at p, with the levels left falling from 15: from the page if it is a leaf, else from under the child of the entry that
-- an insertion of e goes through
unfoldable pub remove_under : ℕ → ℕ → List ℕ → Item → ℕ → Step
remove_under k zero b e p = step b bad
remove_under k (suc left) b e p =
    let es = items_in k b p in
    let i = chosen_at b e es in
    let c = child_of i es in
    let below = remove_under k left b e c in
    let upper = after_child k below.after p i c below.outcome in
    cond (is_page (length b) p) (cond (leaf_bit (attribute_at b p)) (take_out k b p (place_in b e es)) upper) (step b bad)

-- the root at p after the removal under it: "If nothing is left, the root page itself becomes an empty leaf"
abbrev pub at_root : List ℕ → ℕ → Outcome → List ℕ
at_root b p kept = b
at_root b p emptied = new_page b p 3 no_page no_page []
at_root b p bad = b

-- the buffer after a removal that is accepted
unfoldable pub removed_buffer : ℕ → List ℕ → List ℕ → ℕ → List ℕ
removed_buffer k b key number =
    let s = remove_under k max_levels b (stored key number) (root_offset b) in
    at_root s.after (root_offset b) s.outcome
