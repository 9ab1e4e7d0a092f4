-- Laws: lookup of a key's first record on a store is that in the tree that the store is read as, if the leaves' right links name their neighbours. Cited by the
-- laws of bytes. Assumes nothing.
use Rattle.std.specs.Prelude.{◌≡◌, refl, false, List, [], ◌∷◌, ◌++◌, map, ℕ, zero, suc, ◌<◌, length, eqb}
use Rattle.std.proofs.Common.{sym, ap, ◌∙◌, append-nil, append_assoc, arith, eq-eqb, ne_eqb}
use Rattle.std.proofs.Math.Option.{Option, none, some}
use Rattle.basis.specs.Lists.{All}
use Rattle.basis.specs.Tests.{either}
use Rattle.tree.specs.Lists.{concat_map, occ}
use Rattle.tree.proofs.ListLaws.{occ_not_head}
use Rattle.tree.specs.Order.{Order}
use Rattle.tree.specs.Pairs.{seek}
use Rattle.tree.specs.Tree.{Page, first_among, level_under, level}
use Rattle.tree.specs.Clauses.{SizedUnder, Sized, Links, head_or, Linked, AllLinked}
use Rattle.tree.specs.LookupFirst.{visit, first_leaf, leaf_after, down_first, down_among, first_record_under, down_from_root}
use Rattle.tree.specs.LookupFirst.{first_record}
use Rattle.tree.specs.Store.{Store, read_entry, read_tree}
use Rattle.tree.proofs.Store.Laws.{map_read-zero}
use Rattle.tree.specs.Store.First.{linked_page, seek_or_last, trip_among, trip_to, store_record_under, store_record}

module _ {K : Type 0} (nil : ℕ) (right : ℕ → ℕ) (S : Store K) where
  -- the right link of each page names the next, nil after the last; no page is nil
  abbrev Rights : List ℕ → Type 0
  Rights [] = Unit {0}
  Rights (p ∷ ps) = (right p ≡ head_or nil ps) × (eqb p nil ≡ false) × Rights ps

  rights-right : (ps qs : List ℕ) → Rights (ps ++ qs) → Rights qs
  rights-right [] qs c = c
  rights-right (p ∷ ps) qs c = rights-right ps qs c.2

  -- the leaves under an entry of the store
  abbrev leaves_of : (h : ℕ) → K × ℕ → List ℕ
  leaves_of h x = level_under 0 (suc h) (read_entry S (suc h) x)

  abbrev leaves_among : (h : ℕ) → List (K × ℕ) → List ℕ
  leaves_among h xs = concat_map (level_under 0 (suc h)) (map (read_entry S (suc h)) xs)

  -- a leaf that is a page of the store, and stands first in a list of leaves
  record FirstLeaf (leaf : Page K ℕ) (ps : List ℕ) : Type 0 where
    number : ℕ
    rest : List ℕ
    reads : leaf ≡ (number, S number)
    leaves : ps ≡ number ∷ rest

  first-among : (most h : ℕ) (p : Page K ℕ) →
      ((y : K × ℕ) → SizedUnder most (suc h) (read_entry S (suc h) y) → FirstLeaf (first_leaf h (read_entry S (suc h) y)) (leaves_of h y)) →
      (es : List (K × ℕ)) → 0 < length (map (read_entry S (suc h)) es) → All (SizedUnder most (suc h)) (map (read_entry S (suc h)) es) →
      FirstLeaf (first_among (first_leaf h) p (map (read_entry S (suc h)) es)) (leaves_among h es)
  first-among most h p ok [] i d = absurd (omega arith)
  first-among most h p ok (y ∷ ys) i d =
      let f : FirstLeaf (first_leaf h (read_entry S (suc h) y)) (leaves_of h y) = ok y d.0 in
      record {
        number = f.number;
        rest = f.rest ++ leaves_among h ys;
        reads = f.reads;
        leaves = ap (λ l. l ++ leaves_among h ys) f.leaves;
      }

  first_leaf_lem : (most h : ℕ) (x : K × ℕ) → SizedUnder most (suc h) (read_entry S (suc h) x) →
      FirstLeaf (first_leaf h (read_entry S (suc h) x)) (leaves_of h x)
  first_leaf_lem most zero x s =
      record { number = x.1; rest = []; reads = ap (λ (l : List (K × ℕ)). (x.1, l)) (map_read-zero S (S x.1)); leaves = refl }
  first_leaf_lem most (suc h) x s =
      rw (ne_eqb 0 (suc h) (λ e. omega arith)) (first-among most h (x.1, []) (first_leaf_lem most h) (S x.1) s.0 s.2)

  -- the leaf that is first in a list is the page that a link to the list's first names
  next_link : (leaf : Page K ℕ) (ps tail : List ℕ) → FirstLeaf leaf ps → Rights (ps ++ tail) →
      ◌≡◌ {A = Option (Page K ℕ)} (some leaf) (linked_page nil S (head_or nil (ps ++ tail)))
  next_link leaf ps tail f c =
      let d : Rights ((f.number ∷ f.rest) ++ tail) = rw f.leaves at c in
      rw (f.leaves, d.1, f.reads)

module _ {K : Type 0} (O : Order K) (nil : ℕ) (right : ℕ → ℕ) (S : Store K) (k : K) (most : ℕ) where
  -- one level; `after` are the leaves to the right
  down-read : (h : ℕ) →
      ((x : K × ℕ) (o : Option (Page K ℕ)) (after : List ℕ) → SizedUnder most (suc h) (read_entry S (suc h) x) →
      Rights nil right S (leaves_of nil right S h x ++ after) → o ≡ linked_page nil S (head_or nil after) →
      first_record_under O k h o (read_entry S (suc h) x) ≡ store_record_under O nil right S k h x.1) →
      (x : K × ℕ) (xs : List (K × ℕ)) (o : Option (Page K ℕ)) (after : List ℕ) →
      All (SizedUnder most (suc h)) (map (read_entry S (suc h)) (x ∷ xs)) →
      Rights nil right S (leaves_among nil right S h (x ∷ xs) ++ after) → o ≡ linked_page nil S (head_or nil after) →
      down_first O k (first_record_under O k h) (first_leaf h) o (read_entry S (suc h) x) (map (read_entry S (suc h)) xs)
      ≡ store_record_under O nil right S k h (seek_or_last O k x xs).1
  down-read h ok x [] o after s c e = ok x o after s.0 (rw (append-nil (leaves_of nil right S h x)) at c) e
  down-read h ok x (y ∷ ys) o after s c e =
      let here : List ℕ = leaves_of nil right S h x in
      let next : List ℕ = leaves_of nil right S h y in
      let tail : List ℕ = leaves_among nil right S h ys ++ after in
      let rest : List ℕ = leaves_among nil right S h (y ∷ ys) in
      let d : Rights nil right S (here ++ (rest ++ after)) = rw (append_assoc here rest after) at c in
      let same : rest ++ after ≡ next ++ tail = append_assoc next (leaves_among nil right S h ys) after in
      let r : Rights nil right S (rest ++ after) = rights-right nil right S here (rest ++ after) d in
      either (O.le k x.0)
      (λ u. rw u (ok x (some (first_leaf h (read_entry S (suc h) y))) (rest ++ after) s.0 d
      (next_link nil right S (first_leaf h (read_entry S (suc h) y)) next tail (first_leaf_lem nil right S most h y s.1.0) (rw same at r)
      ∙ ap (λ l. linked_page nil S (head_or nil l)) (sym same))))
      (λ u. rw u (down-read h ok y ys o after s.1 r e))

  among_read : (h : ℕ) →
      ((x : K × ℕ) (o : Option (Page K ℕ)) (after : List ℕ) → SizedUnder most (suc h) (read_entry S (suc h) x) →
      Rights nil right S (leaves_of nil right S h x ++ after) → o ≡ linked_page nil S (head_or nil after) →
      first_record_under O k h o (read_entry S (suc h) x) ≡ store_record_under O nil right S k h x.1) →
      (xs : List (K × ℕ)) (o : Option (Page K ℕ)) (after : List ℕ) → All (SizedUnder most (suc h)) (map (read_entry S (suc h)) xs) →
      Rights nil right S (leaves_among nil right S h xs ++ after) → o ≡ linked_page nil S (head_or nil after) →
      down_among O k (first_record_under O k h) (first_leaf h) o (map (read_entry S (suc h)) xs)
      ≡ trip_among O k (λ x. store_record_under O nil right S k h x.1) xs
  among_read h ok [] o after s c e = refl
  among_read h ok (x ∷ xs) o after s c e = down-read h ok x xs o after s c e

  under-read : (h : ℕ) (x : K × ℕ) (o : Option (Page K ℕ)) (after : List ℕ) → SizedUnder most (suc h) (read_entry S (suc h) x) →
      Rights nil right S (leaves_of nil right S h x ++ after) → o ≡ linked_page nil S (head_or nil after) →
      first_record_under O k h o (read_entry S (suc h) x) ≡ store_record_under O nil right S k h x.1
  under-read zero x o after s c e = rw (map_read-zero S (S x.1), e, c.0)
  under-read (suc h) x o after s c e = ap (visit x.1) (among_read h (under-read h) (S x.1) o after s.2
      (rw (ne_eqb 0 (suc h) (λ z. omega arith)) at c) e)

  root-after : (h : ℕ) (xs : List (K × ℕ)) → All (SizedUnder most (suc h)) (map (read_entry S (suc h)) xs) →
      Rights nil right S (leaves_among nil right S h xs) →
      leaf_after (first_leaf h) none (map (read_entry S (suc h)) xs) ≡ linked_page nil S (head_or nil (leaves_among nil right S h xs))
  root-after h [] s c = rw (eq-eqb nil nil refl)
  root-after h (y ∷ ys) s c =
      next_link nil right S (first_leaf h (read_entry S (suc h) y)) (leaves_of nil right S h y) (leaves_among nil right S h ys)
      (first_leaf_lem nil right S most h y s.0) c

  root-read : (h : ℕ) (xs : List (K × ℕ)) → All (SizedUnder most (suc h)) (map (read_entry S (suc h)) xs) →
      Rights nil right S (leaves_among nil right S h xs) →
      down_from_root O k (first_record_under O k h) (first_leaf h) (map (read_entry S (suc h)) xs)
      ≡ trip_to O (λ x. store_record_under O nil right S k h x.1) (seek O k xs)
  root-read h [] s c = refl
  root-read h (x ∷ xs) s c =
      let rest : List ℕ = leaves_among nil right S h xs in
      let r : Rights nil right S rest = rights-right nil right S (leaves_of nil right S h x) rest c in
      either (O.le k x.0)
      (λ u. rw u (under-read h x (leaf_after (first_leaf h) none (map (read_entry S (suc h)) xs)) rest s.0 c (root-after h xs s.1 r)))
      (λ u. rw u (root-read h xs s.1 r))

  record_level : (h p : ℕ) → Sized most h (read_tree S h p) → Rights nil right S (level 0 h (read_tree S h p)) →
      first_record O k h (read_tree S h p) ≡ store_record O nil right S k h p
  record_level zero p s c = rw (map_read-zero S (S p))
  record_level (suc h) p s c = ap (visit p) (root-read h (S p) s.2 (rw (ne_eqb 0 (suc h) (λ z. omega arith)) at c))

linked-rights : {K : Type 0} (nil : ℕ) (S : Store K) (l : Links) (prev : ℕ) (ps : List ℕ) → occ nil ps ≡ 0 → Linked nil l prev ps →
    Rights nil l.right S ps
linked-rights nil S l prev [] o c = tt
linked-rights nil S l prev (p ∷ ps) o c = (
  c.1,
  ne_eqb p nil (λ e. occ_not_head nil p ps o (sym e)),
  linked-rights nil S l p ps (omega arith) c.2,
)

-- Theorem: lookup of the first record on a store whose leaves are linked
pub record_read : {K : Type 0} (O : Order K) (nil : ℕ) (l : Links) (S : Store K) (k : K) (most h p : ℕ) → Sized most h (read_tree S h p) →
    AllLinked nil l h (read_tree S h p) → occ nil (level 0 h (read_tree S h p)) ≡ 0 →
    first_record O k h (read_tree S h p) ≡ store_record O nil l.right S k h p
record_read O nil l S k most h p s c o =
    record_level O nil l.right S k most h p s (linked-rights nil S l nil (level 0 h (read_tree S h p)) o (c 0 (omega arith)))
