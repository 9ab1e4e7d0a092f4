-- Laws: the leaf on the route of a pair has it exactly if a leaf of the index has it, for features 1 its key. Cited by the claim about lists of calls. Assumes
-- nothing.
use Rattle.std.specs.Prelude.{◌≡◌, refl, List, ℕ, zero, suc, ◌^◌, ◌<◌, length}
use Rattle.std.proofs.Common.{◌∙◌}
use Rattle.basis.specs.Tests.{either}
use Rattle.tree.specs.Pairs.{has}
use Rattle.idx_page.specs.Header.{max_levels, is_page, root_offset, key_length}
use Rattle.idx_page.specs.Page.{attribute_at, leaf_bit}
use Rattle.idx_page.specs.Reading.{Item}
use Rattle.idx_leaf.specs.Leaf.{items_in, stored}
use Rattle.idx_route.specs.Route.{chosen_at, child_of}
use Rattle.idx_sound.specs.Sound.{kept_by, Sound, leaf_pairs}
use Rattle.idx_path.specs.Room.{path_from}
use Rattle.idx_insert_laws.specs.RoomLaws.{present_is}
use Rattle.idx_path.specs.Presence.{there_from, is_there}

-- removal's walk goes the path of an insertion
there-path : (k left : ℕ) (b : List ℕ) (item : Item) (p : ℕ) → there_from k left b item p ≡ (path_from k left b item p).present
unfolding there_from path_from
there-path k zero b item p = refl
there-path k (suc left) b item p = either (is_page (length b) p)
    (λ t. either (leaf_bit (attribute_at b p))
    (λ u. rw (t, u))
    (λ u. rw (t, u) (there-path k left b item (child_of (chosen_at b item (items_in k b p)) (items_in k b p)))))
    (λ t. rw t)

-- Theorem: what the walk says of a pair
pub there_is : (b key : List ℕ) (r : ℕ) (s : Sound b) → length key ≡ key_length b → r < 2 ^ 32
    → is_there (key_length b) b key r ≡ has (kept_by b).pair_le (key, r) (leaf_pairs b s)
there_is b key r s long r32 = there-path (key_length b) max_levels b (stored key r) (root_offset b) ∙ present_is b key r s long r32
