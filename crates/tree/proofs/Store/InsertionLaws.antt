-- Laws: a store after an insertion, page by page, is read as the tree after the insertion. Cited by the laws of bytes. Assumes nothing.
use Rattle.std.specs.Prelude.{◌≡◌, refl, List, [], ◌∷◌, ◌++◌, map, ℕ, zero, suc, ◌+◌, ◌≤◌, ◌<◌, length, take, drop, leb}
use Rattle.std.proofs.Common.{sym, ap, ap₂, ◌∙◌, subst, arith, take-append-drop}
use Rattle.std.proofs.lemmas.List.{map-append, length-map}
use Rattle.basis.specs.Tests.{either}
use Rattle.tree.specs.Lists.{NonEmpty, concat_map, occ, half}
use Rattle.tree.proofs.ListLaws.{concat_map_append, take_map, drop_map, occ_append, occ-head, occ-here, occ_differ, occ_not_head}
use Rattle.tree.specs.Order.{larger}
use Rattle.tree.specs.Pairs.{last_key, insert_pair}
use Rattle.tree.specs.Position.{Passes, position, choose, replace_at}
use Rattle.tree.specs.Tree.{Child, Entry, Tree, pages_under, pages}
use Rattle.tree.specs.Keeping.{Route, Keeping}
use Rattle.tree.specs.Insertion.{Replacement, split_if_over, first_pair, reroot, insert_under, insert_entries, insert_at_root, insert}
use Rattle.tree.proofs.RouteLaws.{before, after, chosen_among, position_map, choose_map}
use Rattle.tree.proofs.Insertion.Pages.{new_pages, Distinct, Unused, Injective, new_pages-apart, new_pages-fresh, split_if_over-pages}
use Rattle.tree.proofs.Insertion.Pages.{insert_entries-pages}
use Rattle.tree.specs.Store.{Store, read_child, read_entry, read_tree}
use Rattle.tree.specs.Store.Steps.{write, StoreReplacement, store_split_if_over, store_first, store_place, store_insert_among}
use Rattle.tree.specs.Store.Steps.{store_insert_under, store_insert_at_root, store_reroot, store_insert, read_grown}
use Rattle.tree.proofs.Store.Laws.{AgreeOn, frame-entries, write-here, write-other, map_read-zero, last_key-read}

-- the pages under entries of a store
abbrev pub pages_of : {K : Type 0} → Store K → (h : ℕ) → List (K × ℕ) → List ℕ
pages_of S h es = concat_map (pages_under h) (map (read_entry S h) es)

pages_of_append : {K : Type 0} (S : Store K) (h z : ℕ) (xs ys : List (K × ℕ)) →
    occ z (pages_of S h (xs ++ ys)) ≡ occ z (pages_of S h xs) + occ z (pages_of S h ys)
pages_of_append S h z xs ys =
    ap (λ l. occ z (concat_map (pages_under h) l)) (map-append (read_entry S h) xs ys)
    ∙ (ap (occ z) (concat_map_append (pages_under h) (map (read_entry S h) xs) (map (read_entry S h) ys))
    ∙ occ_append z (pages_of S h xs) (pages_of S h ys))

-- a page that was written, if the pages under its entries were not
pub page-read : {K : Type 0} (S S' : Store K) (h p : ℕ) (es : List (K × ℕ)) → S' p ≡ es → AgreeOn S S' (pages_of S h es) →
    read_child S' (suc h) p ≡ (p, map (read_entry S h) es)
page-read {K} S S' h p es e s = ap (λ (l : List (Entry K h)). (p, l)) (ap (map (read_entry S' h)) e ∙ frame-entries S S' h es s)

-- a split
module _ {K : Type 0} (cap : ℕ) (name : ℕ → ℕ) (h : ℕ) (a : K) (p n : ℕ) (S : Store K) (ys : List (K × ℕ)) where
  split_if_over-read : occ p (pages_of S h ys) ≡ 0 → occ (name n) (pages_of S h ys) ≡ 0 → (name n ≡ p → ⊥) →
      map (read_entry (store_split_if_over cap name a p (ys, n, S)).2 (suc h)) (store_split_if_over cap name a p (ys, n, S)).0
      ≡ (split_if_over cap name a p (map (read_entry S h) ys, n)).0
  split_if_over-read hp hn ne = rw (length-map ys (read_entry S h)) (either (leb (length ys) cap)
      (λ e. rw e (ap (λ (x : Child K (suc h)). (a, x) ∷ [])
      (page-read S (write S p ys) h p ys (write-here S p ys)
      (λ z l. write-other S p ys z (λ q. occ_differ p z (pages_of S h ys) hp l (sym q))))))
      (λ e. rw e (
      let lower : List (K × ℕ) = take (half (length ys)) ys in
      let upper : List (K × ℕ) = drop (half (length ys)) ys in
      let S1 : Store K = write S p lower in
      let S2 : Store K = write S1 (name n) upper in
      let both : (z : ℕ) → occ z (pages_of S h ys) ≡ occ z (pages_of S h lower) + occ z (pages_of S h upper) =
      λ z. ap (λ (w : List (K × ℕ)). occ z (pages_of S h w)) (sym (take-append-drop (half (length ys)) ys))
      ∙ pages_of_append S h z lower upper in
      let same : AgreeOn S S2 (pages_of S h ys) =
      λ z i. write-other S1 (name n) upper z (λ q. occ_differ (name n) z (pages_of S h ys) hn i (sym q))
      ∙ write-other S p lower z (λ q. occ_differ p z (pages_of S h ys) hp i (sym q)) in
      rw (take_map (read_entry S h) (half (length ys)) ys, drop_map (read_entry S h) (half (length ys)) ys, last_key-read S h a lower)
      (ap₂ (λ (x y : Child K (suc h)). (last_key a lower, x) ∷ (a, y) ∷ [])
      (page-read S S2 h p lower (write-other S1 (name n) upper p (λ q. ne (sym q)) ∙ write-here S p lower)
      (λ z i. same z (omega (arith, both z))))
      (page-read S S2 h (name n) upper (write-here S1 (name n) upper) (λ z i. same z (omega (arith, both z))))))))

  split_if_over-count : (store_split_if_over cap name a p (ys, n, S)).1 ≡ (split_if_over cap name a p (map (read_entry S h) ys, n)).1
  split_if_over-count = rw (length-map ys (read_entry S h)) (either (leb (length ys) cap) (λ e. rw e) (λ e. rw e))

-- the entry gone through
module _ {K : Type 0} (route : Route K) (passes : ℕ → Passes (K × ℕ)) (S : Store K)
    (same : (h : ℕ) (x y : K × ℕ) → route h (read_entry S h x) (read_entry S h y) ≡ passes h x y) (h : ℕ) (x : K × ℕ) (xs : List (K × ℕ)) where
  abbrev front : List (K × ℕ)
  front = before (passes h) (x ∷ xs)

  abbrev back : List (K × ℕ)
  back = after (passes h) (x ∷ xs)

  abbrev chosen : K × ℕ
  chosen = choose (passes h) x (x ∷ xs)

  parts-occ : (z : ℕ) → occ z (pages_of S h (x ∷ xs)) ≡ occ z (pages_of S h front) + (occ z (pages_under h (read_entry S h chosen)) + occ z (pages_of S h back))
  parts-occ z =
      ap (λ l. occ z (pages_of S h l)) (chosen_among (passes h) x x xs)
      ∙ rw (pages_of_append S h z front (chosen ∷ back), occ_append z (pages_under h (read_entry S h chosen)) (pages_of S h back))

  pub choose-occ : (z : ℕ) → occ z (pages_under h (read_entry S h chosen)) ≤ occ z (pages_of S h (x ∷ xs))
  choose-occ z = omega (arith, parts-occ z)

  choose-read : choose (route h) (read_entry S h x) (map (read_entry S h) (x ∷ xs)) ≡ read_entry S h chosen
  choose-read = choose_map (read_entry S h) (passes h) (route h) (same h) x (x ∷ xs)

  -- the other entries are read as before, if no page under them was changed
  place_read : (S1 : Store K) (rs : List (K × ℕ)) (new : List (Entry K h)) → map (read_entry S1 h) rs ≡ new →
      ((z : ℕ) → 0 < occ z (pages_of S h (x ∷ xs)) → occ z (pages_under h (read_entry S h chosen)) ≡ 0 → S1 z ≡ S z) →
      Distinct (pages_of S h (x ∷ xs)) →
      map (read_entry S1 h) (replace_at (position (passes h) (x ∷ xs)) rs (x ∷ xs))
      ≡ replace_at (position (route h) (map (read_entry S h) (x ∷ xs))) new (map (read_entry S h) (x ∷ xs))
  place_read S1 rs new e others d =
      let i : ℕ = position (passes h) (x ∷ xs) in
      let kept : (l : List (K × ℕ)) → ((z : ℕ) → occ z (pages_of S h l) + occ z (pages_under h (read_entry S h chosen)) ≤ occ z (pages_of S h (x ∷ xs))) →
      map (read_entry S1 h) l ≡ map (read_entry S h) l =
      λ l m. frame-entries S S1 h l (λ z o. others z (omega (arith, m z)) (omega (arith, m z, d z))) in
      rw (
        position_map (read_entry S h) (passes h) (route h) (same h) (x ∷ xs),
        map-append (read_entry S1 h) front (rs ++ back),
        map-append (read_entry S1 h) rs back,
      )
      (rw (e, kept front (λ z. omega (arith, parts-occ z)), kept back (λ z. omega (arith, parts-occ z)))
      (rw (take_map (read_entry S h) i (x ∷ xs), drop_map (read_entry S h) (suc i) (x ∷ xs))))

-- an insertion into a store that does what the insertion into the tree does: the entries that replace the entry are read as the tree's, as many new pages
-- were taken, and only pages under the entry and new ones changed
pub record Refines {K : Type 0} (h : ℕ) (name : ℕ → ℕ) (S : Store K) (was : List ℕ) (w : StoreReplacement K)
    (q : Replacement K (Child K h)) : Type 0 where
  pub entries : map (read_entry w.2 h) w.0 ≡ q.0
  pub count : w.1 ≡ q.1
  pub rest : (z : ℕ) → occ z was ≡ 0 → occ z (new_pages name w.1) ≡ 0 → w.2 z ≡ S z

store_first-read : {K : Type 0} (S : Store K) (e : K × ℕ) (h : ℕ) → map (read_entry S h) (store_first e h) ≡ first_pair e h
store_first-read S e zero = refl
store_first-read S e (suc h) = refl

store_split_if_over-non_empty : {K : Type 0} (cap : ℕ) (name : ℕ → ℕ) (a : K) (p : ℕ) (w : StoreReplacement K) →
    NonEmpty (store_split_if_over cap name a p w).0
store_split_if_over-non_empty cap name a p w = either (leb (length w.0) cap) (λ e. rw e tt) (λ e. rw e tt)

-- a new root over the entries that replace the old one
reroot-read : {K : Type 0} (name : ℕ → ℕ) (h p : ℕ) (t : Tree K h) (xs : List (K × ℕ)) (n : ℕ) (S : Store K) → NonEmpty xs →
    occ (name n) (pages_of S (suc h) xs) ≡ 0 → read_grown (store_reroot name h p xs n S) ≡ reroot name h t (map (read_entry S (suc h)) xs) n
reroot-read name h p t [] n S s o = absurd s
reroot-read name h p t (x ∷ []) n S s o = refl
reroot-read {K} name h p t (x ∷ y ∷ ys) n S s o =
    let xs : List (K × ℕ) = x ∷ y ∷ ys in
    ap (λ (u : Tree K (suc h)). (suc h, u, suc n))
    (page-read S (write S (name n) xs) (suc h) (name n) xs (write-here S (name n) xs)
    (λ z l. write-other S (name n) xs z (λ q. occ_differ (name n) z (pages_of S (suc h) xs) o l (sym q))))

-- an insertion of the pair e by a route; `passes` are the tests on the store's entries
module _ {K : Type 0} (Q : Keeping K) (passes : ℕ → Passes (K × ℕ)) (cap : ℕ) (name : ℕ → ℕ) (inj : Injective name) (e : K × ℕ) (S : Store K)
    (same : (h : ℕ) (x y : K × ℕ) → Q.route e h (read_entry S h x) (read_entry S h y) ≡ passes h x y) where
  store_place_refines : (h n : ℕ) (x : K × ℕ) (xs : List (K × ℕ)) (w : StoreReplacement K) →
      Distinct (pages_of S h (x ∷ xs)) → Unused name (pages_of S h (x ∷ xs)) →
      Refines h name S (pages_under h (read_entry S h (choose (passes h) x (x ∷ xs)))) w
      (insert_under Q cap name e h (read_entry S h (choose (passes h) x (x ∷ xs))) n) →
      Refines h name S (pages_of S h (x ∷ xs)) (store_place (passes h) (x ∷ xs) w) (insert_entries Q cap name e h (map (read_entry S h) (x ∷ xs)) n)
  store_place_refines h n x xs w d f c =
      let to : Replacement K (Child K h) = insert_under Q cap name e h (choose (Q.route e h) (read_entry S h x) (map (read_entry S h) (x ∷ xs))) n in
      let goes : insert_under Q cap name e h (read_entry S h (choose (passes h) x (x ∷ xs))) n ≡ to =
      ap (λ (y : Entry K h). insert_under Q cap name e h y n) (sym (choose-read (Q.route e) passes S same h x xs)) in
      record {
        entries = place_read (Q.route e) passes S same h x xs w.2 w.0 to.0 (c.entries ∙ ap (λ (q : Replacement K (Child K h)). q.0) goes)
            (λ z l o. c.rest z o (new_pages-apart name (pages_of S h (x ∷ xs)) f z w.1 l)) d;
        count = c.count ∙ ap (λ (q : Replacement K (Child K h)). q.1) goes;
        rest = λ z o u. c.rest z (omega (arith, choose-occ (Q.route e) passes S same h x xs z)) u;
      }

  store_insert_among_refines : (h n : ℕ) (g : K × ℕ → StoreReplacement K) →
      ((c : K × ℕ) → Distinct (pages_under h (read_entry S h c)) → Unused name (pages_under h (read_entry S h c)) →
      Refines h name S (pages_under h (read_entry S h c)) (g c) (insert_under Q cap name e h (read_entry S h c) n)) →
      (es : List (K × ℕ)) → Distinct (pages_of S h es) → Unused name (pages_of S h es) →
      Refines h name S (pages_of S h es) (store_insert_among Q passes e h g es n S) (insert_entries Q cap name e h (map (read_entry S h) es) n)
  store_insert_among_refines h n g ok [] d f = record { entries = store_first-read S e h; count = refl; rest = λ z o u. refl }
  store_insert_among_refines h n g ok (x ∷ xs) d f =
      let c : K × ℕ = choose (passes h) x (x ∷ xs) in
      let occ-c : (z : ℕ) → occ z (pages_under h (read_entry S h c)) ≤ occ z (pages_of S h (x ∷ xs)) = choose-occ (Q.route e) passes S same h x xs in
      store_place_refines h n x xs (g c) d f (ok c (λ z. omega (arith, d z, occ-c z)) (λ i. omega (arith, f i, occ-c (name i))))

  split_if_over-rest : (a : K) (p : ℕ) (w : StoreReplacement K) (l : List ℕ) →
      ((z : ℕ) → occ z l ≡ 0 → occ z (new_pages name w.1) ≡ 0 → w.2 z ≡ S z) →
      (z : ℕ) → occ z (p ∷ l) ≡ 0 → occ z (new_pages name (store_split_if_over cap name a p w).1) ≡ 0 →
      (store_split_if_over cap name a p w).2 z ≡ S z
  split_if_over-rest a p w l ok z o =
      let lower : List (K × ℕ) = take (half (length w.0)) w.0 in
      let upper : List (K × ℕ) = drop (half (length w.0)) w.0 in
      either (leb (length w.0) cap)
      (λ i. rw i (λ u. write-other w.2 p w.0 z (occ_not_head z p l o) ∙ ok z (omega arith) u))
      (λ i. rw i (λ u. write-other (write w.2 p lower) (name w.1) upper z (occ_not_head z (name w.1) (new_pages name w.1) u)
      ∙ (write-other w.2 p lower z (occ_not_head z p l o) ∙ ok z (omega arith) (omega arith))))

  -- a page and what is under it
  store_split_if_over_refines : (h n p : ℕ) (a : K) (es : List (K × ℕ)) (w : StoreReplacement K) →
      Distinct (p ∷ pages_of S h es) → Unused name (p ∷ pages_of S h es) →
      Refines h name S (pages_of S h es) w (insert_entries Q cap name e h (map (read_entry S h) es) n) →
      Refines (suc h) name S (p ∷ pages_of S h es) (store_split_if_over cap name a p w)
      (split_if_over cap name a p (insert_entries Q cap name e h (map (read_entry S h) es) n))
  store_split_if_over_refines h n p a es w d f c =
      let q : Replacement K (Child K h) = insert_entries Q cap name e h (map (read_entry S h) es) n in
      let old : List ℕ = pages_of S h es in
      let counts : (z : ℕ) → occ z (pages_of w.2 h w.0) + occ z (new_pages name n) ≡ occ z old + occ z (new_pages name w.1) =
      λ z. rw (c.entries, c.count) (insert_entries-pages Q cap name e z h (map (read_entry S h) es) n) in
      let same : ◌≡◌ {A = Replacement K (Child K h)} (map (read_entry w.2 h) w.0, w.1) q = λ i. (c.entries i, c.count i) in
      record {
        entries = split_if_over-read cap name h a p w.1 w.2 w.0
            (omega (arith, counts p, d p, occ-head p old, new_pages-apart name (p ∷ old) f p w.1 (occ-here p old)))
            (omega (arith, counts (name w.1), f w.1, new_pages-fresh name inj w.1 w.1 (omega arith)))
            (occ_not_head (name w.1) p old (f w.1))
            ∙ ap (λ (x : Replacement K (Child K h)). (split_if_over cap name a p x).0) same;
        count = split_if_over-count cap name h a p w.1 w.2 w.0
            ∙ ap (λ (x : Replacement K (Child K h)). (split_if_over cap name a p x).1) same;
        rest = split_if_over-rest a p w old c.rest;
      }

  pub store_insert_under_refines : (h n : ℕ) (x : K × ℕ) → Distinct (pages_under h (read_entry S h x)) →
      Unused name (pages_under h (read_entry S h x)) →
      Refines h name S (pages_under h (read_entry S h x)) (store_insert_under Q passes cap name e h x n S)
      (insert_under Q cap name e h (read_entry S h x) n)
  store_insert_under_refines zero n x d f =
      record { entries = map_read-zero S (insert_pair Q.pair_le e (x ∷ [])); count = refl; rest = λ z o u. refl }
  store_insert_under_refines (suc h) n x d f =
      store_split_if_over_refines h n x.1 (larger Q.order x.0 e.0) (S x.1)
      (store_insert_among Q passes e h (λ c. store_insert_under Q passes cap name e h c n S) (S x.1) n S) d f
      (store_insert_among_refines h n (λ c. store_insert_under Q passes cap name e h c n S) (λ c. store_insert_under_refines h n c) (S x.1)
      (λ z. omega (arith, d z)) (λ i. omega (arith, f i)))

  store_insert_at_root_refines : (h p : ℕ) → Distinct (pages h (read_tree S h p)) → Unused name (pages h (read_tree S h p)) →
      Refines (suc h) name S (pages h (read_tree S h p)) (store_insert_at_root Q passes cap name e h p S)
      (insert_at_root Q cap name e h (read_tree S h p))
  store_insert_at_root_refines h p d f =
      let w : StoreReplacement K = store_insert_among Q passes e h (λ c. store_insert_under Q passes cap name e h c 0 S) (S p) 0 S in
      let q : Replacement K (Child K h) = insert_entries Q cap name e h (map (read_entry S h) (S p)) 0 in
      let c : Refines h name S (pages_of S h (S p)) w q =
      store_insert_among_refines h 0 (λ c. store_insert_under Q passes cap name e h c 0 S) (λ c. store_insert_under_refines h 0 c) (S p)
      (λ z. omega (arith, d z)) (λ i. omega (arith, f i)) in
      let last : last_key e.0 w.0 ≡ last_key e.0 q.0 = sym (last_key-read w.2 h e.0 w.0) ∙ ap (last_key e.0) c.entries in
      subst (λ (a : K). Refines (suc h) name S (pages h (read_tree S h p)) (store_split_if_over cap name (last_key e.0 w.0) p w)
      (split_if_over cap name a p q)) last
      (store_split_if_over_refines h 0 p (last_key e.0 w.0) (S p) w d f c)

  -- Theorem: the store after an insertion is read as the tree after the insertion
  pub insert-read : (h p : ℕ) → Distinct (pages h (read_tree S h p)) → Unused name (pages h (read_tree S h p)) →
      read_grown (store_insert Q passes cap name e h p S) ≡ insert Q cap name e h (read_tree S h p)
  insert-read h p d f =
      let t : Tree K h = read_tree S h p in
      let q : Replacement K (Child K h) = insert_entries Q cap name e h t.1 0 in
      let z : Replacement K (Child K (suc h)) = insert_at_root Q cap name e h t in
      let v : StoreReplacement K = store_insert_among Q passes e h (λ c. store_insert_under Q passes cap name e h c 0 S) (S p) 0 S in
      let w : StoreReplacement K = store_insert_at_root Q passes cap name e h p S in
      let c : Refines (suc h) name S (pages h t) w z = store_insert_at_root_refines h p d f in
      let new : ℕ = name z.1 in
      let o : occ new (concat_map (pages_under (suc h)) z.0) ≡ 0 = omega (
        arith,
        split_if_over-pages cap name (pages_under h) new (last_key e.0 q.0) p q,
        insert_entries-pages Q cap name e new h t.1 0,
        f z.1,
        new_pages-fresh name inj z.1 z.1 (omega arith),
      ) in
      reroot-read name h p t w.0 w.1 w.2 (store_split_if_over-non_empty cap name (last_key e.0 v.0) p v) (rw (c.entries, c.count) o)
      ∙ ap₂ (λ (a : List (Entry K (suc h))) (b : ℕ). reroot name h t a b) c.entries c.count
