-- Laws: a store after a removal, page by page, is read as the tree after the removal; the pages emptied are the tree's, and they have no entry. Cited by the
-- laws of bytes. Assumes nothing.
use Rattle.std.specs.Prelude.{◌≡◌, refl, List, [], ◌∷◌, ◌++◌, map, ℕ, zero, suc, ◌+◌, ◌<◌, eqb}
use Rattle.std.proofs.Common.{sym, ap, ap₂, ◌∙◌, arith, eqb-true, ne_eqb}
use Rattle.std.proofs.lemmas.List.{map-append}
use Rattle.std.proofs.Math.Option.{Option, none, some}
use Rattle.std.proofs.lemmas.Bool.{eqb-false}
use Rattle.basis.specs.Tests.{either}
use Rattle.tree.specs.Lists.{occ}
use Rattle.tree.proofs.ListLaws.{occ_append, occ-head, occ_differ, occ_not_head}
use Rattle.tree.specs.Tree.{Child, Entry, Tree, pages_under, pages}
use Rattle.tree.proofs.Insertion.Pages.{Distinct}
use Rattle.tree.specs.Order.{Order}
use Rattle.tree.specs.Position.{position, passes_lower}
use Rattle.tree.specs.Keeping.{Route}
use Rattle.tree.proofs.KeepingOf.{distinct_keys}
use Rattle.tree.proofs.RouteLaws.{position_map}
use Rattle.tree.specs.Removal.{replace_by, numbers_at, unless_emptied, if_emptied, Shrunk, settle}
use Rattle.tree.specs.Removal.{remove_under, remove_entries, remove, emptied_under, emptied_among, emptied}
use Rattle.tree.proofs.Removal.Pages.{remove_entries-pages}
use Rattle.tree.specs.Store.{Store, read_entry, read_tree}
use Rattle.tree.specs.Store.Steps.{write}
use Rattle.tree.proofs.Store.Laws.{frame, frame-entries, write-here, write-other}
use Rattle.tree.proofs.Store.InsertionLaws.{pages_of, page-read}
use Rattle.tree.specs.Store.Removal.{StoreRemoved, member_at, entry_unless_emptied, store_keep, height_left, read_shrunk}
use Rattle.tree.specs.Store.Removal.{store_replace_at, store_position, store_remove_among, store_remove_under, store_remove}

-- Theorem: if keys are distinct, the entries of a page tell the entry gone through by their keys, whatever is under them
pub position-read : {K : Type 0} (O : Order K) (e : K × ℕ) (h : ℕ) (S : Store K) (es : List (K × ℕ)) →
    store_position ((distinct_keys O).route e) h S es ≡ position (passes_lower O e) es
position-read O e h S es = position_map (read_entry S h) (passes_lower O e) (passes_lower O e) (λ x y. refl) es

-- a removal from a store that does what the removal from the tree does: the entries that replace the entry are read as the tree's, `left`; the pages emptied
-- are `out`, and have no entry; and only pages of the list `was`, those under the entry, changed
pub record Removes {K : Type 0} (h : ℕ) (S : Store K) (was : List ℕ) (w : StoreRemoved K) (left : List (Entry K h)) (out : List ℕ) :
    Type 0 where
  pub entries : map (read_entry w.2 h) w.0 ≡ left
  pub gone : w.1 ≡ out
  pub empty : (z : ℕ) → 0 < occ z w.1 → w.2 z ≡ []
  pub rest : (z : ℕ) → occ z was ≡ 0 → w.2 z ≡ S z

-- page p gets the entries that it is left with, and none of the pages under them is p
module _ {K : Type 0} (h p : ℕ) (S : Store K) where
  keep_read : (a : K) (es : List (K × ℕ)) → occ p (pages_of S h es) ≡ 0 →
      map (read_entry (write S p es) (suc h)) (entry_unless_emptied a p es) ≡ unless_emptied a p (map (read_entry S h) es)
  keep_read a [] o = refl
  keep_read a (x ∷ xs) o = ap (λ (y : Child K (suc h)). (a, y) ∷ [])
      (page-read S (write S p (x ∷ xs)) h p (x ∷ xs) (write-here S p (x ∷ xs))
      (λ z l. write-other S p (x ∷ xs) z (λ q. occ_differ p z (pages_of S h (x ∷ xs)) o l (sym q))))

  settle_read : (es : List (K × ℕ)) → occ p (pages_of S h es) ≡ 0 →
      ◌≡◌ {A = Shrunk K} (height_left h es, read_tree (write S p es) (height_left h es) p) (settle h p (map (read_entry S h) es))
  settle_read [] o = ap (λ (l : List (K × ℕ)). (0, (p, map (read_entry (write S p []) 0) l))) (write-here S p [])
  settle_read (x ∷ xs) o = ap (λ (y : Tree K h). (h, y))
      (page-read S (write S p (x ∷ xs)) h p (x ∷ xs) (write-here S p (x ∷ xs))
      (λ z l. write-other S p (x ∷ xs) z (λ q. occ_differ p z (pages_of S h (x ∷ xs)) o l (sym q))))

  if_emptied-read : (es : List (K × ℕ)) → if_emptied p es ≡ if_emptied p (map (read_entry S h) es)
  if_emptied-read [] = refl
  if_emptied-read (x ∷ xs) = refl

-- an emptied page has no entry, and no other page is counted
if_emptied-none : {A : Type 0} (p : ℕ) (xs : List A) → 0 < occ p (if_emptied p xs) → xs ≡ []
if_emptied-none p [] i = refl
if_emptied-none p (x ∷ xs) i = absurd (omega arith)

if_emptied-other : {A : Type 0} (z p : ℕ) (xs : List A) → (z ≡ p → ⊥) → occ z (if_emptied p xs) ≡ 0
if_emptied-other z p [] n = rw (ne_eqb z p n)
if_emptied-other z p (x ∷ xs) n = refl

-- the first entry stays if a later one is replaced
replace_by-later : {K : Type 0} (i : ℕ) (g : K × ℕ → StoreRemoved K) (x : K × ℕ) (xs : List (K × ℕ)) (S : Store K) (o : Option (K × ℕ)) →
    let w : StoreRemoved K = store_replace_at i g xs S o in store_replace_at (suc i) g (x ∷ xs) S o ≡ (x ∷ w.0, w.1, w.2)
replace_by-later i g x xs S none = refl
replace_by-later i g x xs S (some y) = refl

module _ {K : Type 0} (route : Route K) where
  module _ (h : ℕ) (S : Store K) (g : K × ℕ → StoreRemoved K)
      (ok : (c : K × ℕ) → Distinct (pages_under h (read_entry S h c)) →
      Removes h S (pages_under h (read_entry S h c)) (g c) (remove_under route h (read_entry S h c)) (emptied_under route h (read_entry S h c))) where
    replace_by-removes : (i : ℕ) (es : List (K × ℕ)) → Distinct (pages_of S h es) →
        Removes h S (pages_of S h es) (store_replace_at i g es S (member_at i es)) (replace_by i (remove_under route h) (map (read_entry S h) es))
        (numbers_at i (emptied_under route h) (map (read_entry S h) es))
    replace_by-removes i [] d = record { entries = refl; gone = refl; empty = λ z o. absurd (omega arith); rest = λ z o. refl }
    replace_by-removes zero (x ∷ xs) d =
        let here : List ℕ = pages_under h (read_entry S h x) in
        let parts : (z : ℕ) → occ z (here ++ pages_of S h xs) ≡ occ z here + occ z (pages_of S h xs) = λ z. occ_append z here (pages_of S h xs) in
        let c : Removes h S here (g x) (remove_under route h (read_entry S h x)) (emptied_under route h (read_entry S h x)) =
        ok x (λ z. omega (arith, d z, parts z)) in
        record {
          entries = map-append (read_entry (g x).2 h) (g x).0 xs
              ∙ ap₂ (λ (a b : List (Entry K h)). a ++ b) c.entries
              (frame-entries S (g x).2 h xs (λ z l. c.rest z (omega (arith, d z, parts z))));
          gone = c.gone;
          empty = c.empty;
          rest = λ z o. c.rest z (omega (arith, parts z));
        }
    replace_by-removes (suc i) (x ∷ xs) d =
        let here : List ℕ = pages_under h (read_entry S h x) in
        let parts : (z : ℕ) → occ z (here ++ pages_of S h xs) ≡ occ z here + occ z (pages_of S h xs) = λ z. occ_append z here (pages_of S h xs) in
        let w : StoreRemoved K = store_replace_at i g xs S (member_at i xs) in
        let c : Removes h S (pages_of S h xs) w (replace_by i (remove_under route h) (map (read_entry S h) xs))
        (numbers_at i (emptied_under route h) (map (read_entry S h) xs)) = replace_by-removes i xs (λ z. omega (arith, d z, parts z)) in
        rw (replace_by-later i g x xs S (member_at i xs)) (record {
          entries = ap₂ (λ (a : Child K h) (b : List (Entry K h)). (x.0, a) ∷ b)
              (frame S w.2 h x (λ z l. c.rest z (omega (arith, d z, parts z)))) c.entries;
          gone = c.gone;
          empty = c.empty;
          rest = λ z o. c.rest z (omega (arith, parts z));
        })

  -- a removal among the entries es of a page, with h levels under them, that does what the removal from the tree does
  abbrev RemovesAmong : (h : ℕ) → Store K → List (K × ℕ) → StoreRemoved K → Type 0
  RemovesAmong h S es w =
      Removes h S (pages_of S h es) w (remove_entries route h (map (read_entry S h) es)) (emptied_among route h (map (read_entry S h) es))

  -- page p is none of the pages under what its entries es become, and none of those emptied below it
  left-apart : (h p : ℕ) (S : Store K) (es : List (K × ℕ)) (w : StoreRemoved K) → Distinct (p ∷ pages_of S h es) → RemovesAmong h S es w →
      (occ p (pages_of w.2 h w.0) ≡ 0) × (occ p w.1 ≡ 0)
  left-apart h p S es w d c =
      let all : occ p (pages_of w.2 h w.0) + occ p w.1 ≡ occ p (pages_of S h es) =
      rw (c.entries, c.gone) (remove_entries-pages route p h (map (read_entry S h) es)) in
      (omega (arith, d p, occ-head p (pages_of S h es)), omega (arith, d p, occ-head p (pages_of S h es)))

  -- a page and what is under it
  keep_removes : (h p : ℕ) (a : K) (S : Store K) (es : List (K × ℕ)) (w : StoreRemoved K) → Distinct (p ∷ pages_of S h es) →
      RemovesAmong h S es w →
      Removes (suc h) S (p ∷ pages_of S h es) (store_keep a p w) (remove_under route (suc h) (a, (p, map (read_entry S h) es)))
      (emptied_under route (suc h) (a, (p, map (read_entry S h) es)))
  keep_removes h p a S es w d c =
      let apart : (occ p (pages_of w.2 h w.0) ≡ 0) × (occ p w.1 ≡ 0) = left-apart h p S es w d c in
      record {
        entries = keep_read h p w.2 a w.0 apart.0 ∙ ap (unless_emptied a p) c.entries;
        gone = ap₂ (λ (x y : List ℕ). x ++ y) c.gone
            (if_emptied-read h p w.2 w.0 ∙ ap (λ (l : List (Entry K h)). if_emptied p l) c.entries);
        empty = λ z i.
            let both : occ z (w.1 ++ if_emptied p w.0) ≡ occ z w.1 + occ z (if_emptied p w.0) =
            occ_append z w.1 (if_emptied p w.0) in
            either (eqb z p)
            (λ e. let same : z ≡ p = eqb-true z p e in
            rw same (write-here w.2 p w.0 ∙ if_emptied-none p w.0 (rw same at (own z i both same apart.1))))
            (λ e. write-other w.2 p w.0 z (eqb-false z p e)
            ∙ c.empty z (omega (arith, if_emptied-other z p w.0 (eqb-false z p e))));
        rest = λ z o. write-other w.2 p w.0 z (occ_not_head z p (pages_of S h es) o) ∙ c.rest z (omega arith);
      }
    where
      own : (z : ℕ) → 0 < occ z (w.1 ++ if_emptied p w.0) →
          occ z (w.1 ++ if_emptied p w.0) ≡ occ z w.1 + occ z (if_emptied p w.0) → z ≡ p → occ p w.1 ≡ 0 →
          0 < occ z (if_emptied p w.0)
      own z i b e o = let f : occ z w.1 ≡ occ p w.1 = ap (λ y. occ y w.1) e in omega arith

  remove_under-removes : (h : ℕ) (S : Store K) (e : K × ℕ) → Distinct (pages_under h (read_entry S h e)) →
      Removes h S (pages_under h (read_entry S h e)) (store_remove_under route h e S) (remove_under route h (read_entry S h e))
      (emptied_under route h (read_entry S h e))
  remove_under-removes zero S e d = record { entries = refl; gone = refl; empty = λ z i. absurd (omega arith); rest = λ z o. refl }
  remove_under-removes (suc h) S e d =
      let es : List (K × ℕ) = S e.1 in
      keep_removes h e.1 e.0 S es (store_remove_among route h (λ c. store_remove_under route h c S) es S) d
      (replace_by-removes h S (λ c. store_remove_under route h c S) (remove_under-removes h S) (store_position route h S es) es (λ z. omega (arith, d z)))

  module _ (h p : ℕ) (S : Store K) (once : Distinct (pages h (read_tree S h p))) where
    abbrev left : StoreRemoved K
    left = store_remove_among route h (λ c. store_remove_under route h c S) (S p) S

    root-removes : RemovesAmong h S (S p) left
    root-removes = replace_by-removes h S (λ c. store_remove_under route h c S) (remove_under-removes h S) (store_position route h S (S p)) (S p)
        (λ z. omega (arith, once z))

    -- Theorem: the store after a removal is read as the tree after the removal
    pub remove-read : read_shrunk (store_remove route h p S) ≡ remove route h (read_tree S h p)
    remove-read =
        settle_read h p left.2 left.0 (left-apart h p S (S p) left once root-removes).0 ∙ ap (settle h p) root-removes.entries

    -- Theorem: the pages emptied are the tree's
    pub emptied-read : (store_remove route h p S).2 ≡ emptied route h (read_tree S h p)
    emptied-read = root-removes.gone

    -- Theorem: an emptied page has no entry
    pub emptied-empty : (z : ℕ) → 0 < occ z (store_remove route h p S).2 → (store_remove route h p S).3 z ≡ []
    emptied-empty z i =
        write-other left.2 p left.0 z
        (λ q. occ_differ p z left.1 (left-apart h p S (S p) left once root-removes).1 i (sym q))
        ∙ root-removes.empty z i

    -- Theorem: a page that was not in the tree stays
    pub remove-others : (z : ℕ) → occ z (pages h (read_tree S h p)) ≡ 0 → (store_remove route h p S).3 z ≡ S z
    remove-others z o =
        write-other left.2 p left.0 z (occ_not_head z p (pages_of S h (S p)) o) ∙ root-removes.rest z (omega arith)
