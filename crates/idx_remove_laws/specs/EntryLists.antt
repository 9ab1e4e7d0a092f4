-- Laws: the route to a key on stored entries is the theory's, and an entry that goes or stays in a list is the same change of the list with numbers. Cited by
-- the laws of removal on bytes. Assumes nothing.
use Rattle.std.specs.Prelude.{◌≡◌, refl, not, List, [], ◌∷◌, map, ℕ, zero, suc, ◌≤◌, ◌<◌, length, get_or}
use Rattle.std.proofs.Common.{sym, ap, ◌∙◌, arith}
use Rattle.std.proofs.Math.Option.{some}
use Rattle.std.proofs.Math.ListN.{get_or-map}
use Rattle.basis.specs.Lists.{All}
use Rattle.octets.specs.Bytes.{be32}
use Rattle.tree.specs.Lists.{occ}
use Rattle.tree.proofs.ListLaws.{occ_append}
use Rattle.tree.specs.Keeping.{Route}
use Rattle.tree.specs.Position.{Passes, position}
use Rattle.tree.specs.Removal.{replace_by}
use Rattle.tree.proofs.RouteLaws.{position-within}
use Rattle.tree.specs.Store.{Store, read_entry}
use Rattle.tree.proofs.Store.InsertionLaws.{pages_of}
use Rattle.tree.specs.Store.Removal.{member_at, store_position}
use Rattle.tree.proofs.Store.RouteLaws.{position-read}
use Rattle.tree.specs.Tree.{pages_under}
use Rattle.idx_page.specs.Header.{max_levels, features}
use Rattle.idx_page.specs.KeyOrder.{bytes_order}
use Rattle.idx_page.specs.Reading.{Item, numbered}
use Rattle.idx_page.specs.EntryOrder.{item_order, item_route}
use Rattle.idx_page.specs.ItemLaws.{route-numbered}
use Rattle.idx_route.specs.Route.{passes_above, chosen_at}
use Rattle.idx_leaf.specs.Leaf.{place_in, item_of}
use Rattle.idx_entries.specs.Entries.{without_entry}
use Rattle.idx_sound.specs.Sound.{kept_by}
use Rattle.idx_layout_laws.specs.EntryLaws.{entries_in}
use Rattle.idx_insert_laws.specs.ItemLists.{Shaped, position-numbered}

-- the route of a stored entry, in the theory's words
abbrev pub route_of : List ℕ → Item → Route (List ℕ)
route_of b item = (kept_by b).route (numbered item)

-- entry i of a list; without bytes if there is no such entry
abbrev pub entry_at : ℕ → List (List ℕ × ℕ) → List ℕ × ℕ
entry_at i es = get_or es i (numbered ([], []))

-- the number of the entry gone through, in a leaf
leaf-passes : (f : ℕ) (item : Item) (S : Store (List ℕ)) → item_route f item S zero ≡ (λ x y. not (item_order f item x))
leaf-passes zero item S = refl
leaf-passes (suc n) item S = refl

pub leaf_is : (b : List ℕ) (item : Item) (S : Store (List ℕ)) (es : List Item) → store_position (route_of b item) zero S (map numbered es) ≡ place_in b item es
leaf_is b item S es =
    sym (route-numbered (features b) item S zero es) ∙ ap (λ (P : Passes Item). position P es) (leaf-passes (features b) item S)

pub leaf-inside : (b : List ℕ) (item : Item) (es : List Item) → 0 < length es → place_in b item es < length es
leaf-inside b item [] h = h
leaf-inside b item (x ∷ xs) h = position-within (λ x y. not (item_order (features b) item x)) x xs

-- above the leaves, over pages that have their shape
pub route_is : (k : ℕ) (b : List ℕ) (item : Item) (h : ℕ) (es : List Item) → length item.0 ≡ k → h < max_levels
    → All (λ e. Shaped k h b e.1) (map numbered es) → store_position (route_of b item) (suc h) (entries_in k b) (map numbered es) ≡ chosen_at b item es
route_is k b item h es long few shapes =
    position-read bytes_order (numbered item) (entries_in k b) (features b) (suc h) (map numbered es)
    ∙ position-numbered k b item.0 item.1 (be32 item.1 0) long refl h es few shapes

pub route-inside : (b : List ℕ) (item : Item) (es : List Item) → 0 < length es → chosen_at b item es < length es
route-inside b item [] h = h
route-inside b item (x ∷ xs) h = position-within (passes_above (features b) b item) x xs

pub entry-numbered : (i : ℕ) (es : List Item) → entry_at i (map numbered es) ≡ numbered (item_of i es)
entry-numbered i es = get_or-map numbered es i ([], [])

-- an entry that goes
pub without-numbered : (i : ℕ) (es : List Item) → map numbered (without_entry i es) ≡ replace_by i (λ x. []) (map numbered es)
without-numbered zero [] = refl
without-numbered zero (x ∷ xs) = refl
without-numbered (suc i) [] = refl
without-numbered (suc i) (x ∷ xs) = ap (λ l. numbered x ∷ l) (without-numbered i xs)

-- an entry of a list by its number: it is that member, stays if it replaces itself, and has what all entries have
pub member_is : (i : ℕ) (es : List (List ℕ × ℕ)) → i < length es → member_at i es ≡ some (entry_at i es)
member_is i [] l = absurd (omega arith)
member_is zero (x ∷ xs) l = refl
member_is (suc i) (x ∷ xs) l = member_is i xs (omega arith)

pub replace_same : (i : ℕ) (es : List (List ℕ × ℕ)) → i < length es → replace_by i (λ x. entry_at i es ∷ []) es ≡ es
replace_same i [] l = absurd (omega arith)
replace_same zero (x ∷ xs) l = refl
replace_same (suc i) (x ∷ xs) l = ap (λ l. x ∷ l) (replace_same i xs (omega arith))

pub entry-all : (P : List ℕ × ℕ → Type 0) (i : ℕ) (es : List (List ℕ × ℕ)) → i < length es → All P es → P (entry_at i es)
entry-all P i [] l a = absurd (omega arith)
entry-all P zero (x ∷ xs) l a = a.0
entry-all P (suc i) (x ∷ xs) l a = entry-all P i xs (omega arith) a.1

pub entry-pages : (S : Store (List ℕ)) (h z i : ℕ) (es : List (List ℕ × ℕ)) → i < length es
    → occ z (pages_under h (read_entry S h (entry_at i es))) ≤ occ z (pages_of S h es)
entry-pages S h z i [] l = absurd (omega arith)
entry-pages S h z zero (x ∷ xs) l = omega (arith, occ_append z (pages_under h (read_entry S h x)) (pages_of S h xs))
entry-pages S h z (suc i) (x ∷ xs) l =
    omega (arith, occ_append z (pages_under h (read_entry S h x)) (pages_of S h xs), entry-pages S h z i xs (omega arith))
