-- Laws: what is done to a list of stored entries, by the order of either features, is done to the list with their numbers, which the theory has: an entry is
-- chosen, put in, struck off or looked for. For the laws of insertion and removal on bytes. Assumes nothing.
use Rattle.std.specs.Prelude.{◌≡◌, refl, ◌&&◌, List, [], ◌∷◌, map, ℕ}
use Rattle.std.proofs.Common.{sym, ap, ◌∙◌}
use Rattle.basis.specs.Tests.{either}
use Rattle.tree.specs.Pairs.{has, present, insert_pair, remove_pair}
use Rattle.tree.proofs.PairLaws.{insert_pair_map}
use Rattle.tree.specs.Position.{position}
use Rattle.tree.specs.Keeping.{pair_order}
use Rattle.tree.proofs.KeepingOf.{keeping_of}
use Rattle.tree.proofs.RouteLaws.{position_map}
use Rattle.tree.specs.Store.{Store}
use Rattle.tree.specs.Store.Removal.{store_position}
use Rattle.tree.specs.Store.Route.{store_route}
use Rattle.tree.proofs.Store.RouteLaws.{position-read}
use Rattle.idx_page.specs.KeyOrder.{bytes_order}
use Rattle.idx_page.specs.Reading.{Item, numbered}
use Rattle.idx_page.specs.EntryOrder.{item_order, item_route}

module _ (f : ℕ) (e : Item) where
  pub insert_pair-numbered : (es : List Item) →
      map numbered (insert_pair (item_order f) e es) ≡ insert_pair (pair_order bytes_order f) (numbered e) (map numbered es)
  insert_pair-numbered es = insert_pair_map numbered (item_order f) (pair_order bytes_order f) (λ x y. refl) e es

  pub remove_pair-numbered : (es : List Item) →
      map numbered (remove_pair (item_order f) e es) ≡ remove_pair (pair_order bytes_order f) (numbered e) (map numbered es)
  remove_pair-numbered [] = refl
  remove_pair-numbered (x ∷ xs) = either (item_order f e x && item_order f x e)
      (λ u. rw u)
      (λ u. rw u (ap (λ l. numbered x ∷ l) (remove_pair-numbered xs)))

  pub present-numbered : (es : List Item) → present (item_order f) e es ≡ present (pair_order bytes_order f) (numbered e) (map numbered es)
  present-numbered [] = refl
  present-numbered (x ∷ xs) = either (item_order f e x) (λ u. rw u) (λ u. rw u (present-numbered xs))

  pub has-numbered : (es : List Item) → has (item_order f) e es ≡ has (pair_order bytes_order f) (numbered e) (map numbered es)
  has-numbered [] = refl
  has-numbered (x ∷ xs) = rw (has-numbered xs)

  -- Theorem: the number of the entry gone through is the theory's
  pub route-numbered : (S : Store (List ℕ)) (h : ℕ) (es : List Item) →
      position (item_route f e S h) es ≡ store_position ((keeping_of bytes_order f).route (numbered e)) h S (map numbered es)
  route-numbered S h es =
      sym (position-read bytes_order (numbered e) S f h (map numbered es)
      ∙ position_map numbered (item_route f e S h) (store_route bytes_order f (numbered e) S h) (λ x y. refl) es)
