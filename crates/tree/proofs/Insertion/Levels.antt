-- Laws: the pages of each level after an insertion: a page that was split has the new page behind it, and the other pages stay. Cited by the laws of links.
-- Assumes nothing.
use Rattle.std.specs.Prelude.{◌≡◌, refl, cond, ◌&&◌, List, [], ◌∷◌, ◌++◌, ℕ, zero, suc, ◌+◌, ◌≤◌, ◌<◌, length, leb, eqb}
use Rattle.std.proofs.Common.{sym, ap, ◌∙◌, append-nil, append_assoc, arith, leb-true, leb-false, le-leb, eqb-true, eq-eqb, ne_eqb}
use Rattle.std.proofs.lemmas.Bool.{lt-leb, eqb-false}
use Rattle.basis.specs.Lists.{All}
use Rattle.basis.specs.Tests.{either}
use Rattle.tree.specs.Lists.{NonEmpty, concat_map, occ}
use Rattle.tree.proofs.ListLaws.{concat_map_append, concat_map-none, occ-concat_map, occ_concat_map2}
use Rattle.tree.specs.Order.{larger}
use Rattle.tree.specs.Pairs.{last_key}
use Rattle.tree.specs.Position.{Passes, choose}
use Rattle.tree.specs.Tree.{Page, Child, Entry, Tree, pages_under, level_under, level}
use Rattle.tree.specs.Clauses.{SizedUnder, Sized}
use Rattle.tree.specs.Keeping.{Keeping}
use Rattle.tree.specs.Insertion.{Replacement, split_if_over, place, reroot, insert_under, insert_entries, insert}
use Rattle.tree.specs.Room.{extend_run, at_chosen, run_under, run}
use Rattle.tree.specs.Relinking.{path_page_under, path_page}
use Rattle.tree.proofs.RouteLaws.{before, after, chosen_among, choose-all, replaced-length}
use Rattle.tree.proofs.SplitLaws.{under_page, split_if_over-under, split_if_over-non_empty}
use Rattle.tree.proofs.Insertion.Needs.{Splits, insert_under-splits}

-- a level's pages are pages of the tree, and two levels have none in common
pub level_under-pages : {K : Type 0} (z j h : ℕ) (x : Entry K h) → occ z (level_under j h x) ≤ occ z (pages_under h x)
level_under-pages z j zero x = omega arith
level_under-pages z j (suc h) x = either (eqb j h)
    (λ e. rw e (omega arith))
    (λ e. rw e (omega (arith, occ-concat_map z (level_under j h) (pages_under h) (level_under-pages z j h) x.1.1)))

pub level_under-disjoint : {K : Type 0} (z i j h : ℕ) (x : Entry K h) → (i ≡ j → ⊥) →
    occ z (level_under i h x) + occ z (level_under j h x) ≤ occ z (pages_under h x)
level_under-disjoint z i j zero x n = omega arith
level_under-disjoint z i j (suc h) x n = either (eqb i h)
    (λ e. either (eqb j h)
    (λ f. absurd (n (eqb-true i h e ∙ sym (eqb-true j h f))))
    (λ f. rw (e, f) (omega (arith, occ-concat_map z (level_under j h) (pages_under h) (level_under-pages z j h) x.1.1))))
    (λ e. either (eqb j h)
    (λ f. rw (e, f) (omega (arith, occ-concat_map z (level_under i h) (pages_under h) (level_under-pages z i h) x.1.1)))
    (λ f. rw (e, f)
    (omega (arith, occ_concat_map2 z (level_under i h) (level_under j h) (pages_under h) (λ y. level_under-disjoint z i j h y n) x.1.1))))

-- the list l' is l with the number `new` right behind p
pub record InsertedAfter (p new : ℕ) (l l' : List ℕ) : Type 0 where
  pub pre : List ℕ
  pub post : List ℕ
  pub was : l ≡ pre ++ p ∷ post
  pub now : l' ≡ pre ++ p ∷ new ∷ post

inserted_after_front : (f : List ℕ) (p new : ℕ) (l l' : List ℕ) → InsertedAfter p new l l' → InsertedAfter p new (f ++ l) (f ++ l')
inserted_after_front f p new l l' b = record {
  pre = f ++ b.pre;
  post = b.post;
  was = ap (λ x. f ++ x) b.was ∙ sym (append_assoc f b.pre (p ∷ b.post));
  now = ap (λ x. f ++ x) b.now ∙ sym (append_assoc f b.pre (p ∷ new ∷ b.post));
}

inserted_after_back : (f : List ℕ) (p new : ℕ) (l l' : List ℕ) → InsertedAfter p new l l' → InsertedAfter p new (l ++ f) (l' ++ f)
inserted_after_back f p new l l' b = record {
  pre = b.pre;
  post = b.post ++ f;
  was = ap (λ x. x ++ f) b.was ∙ append_assoc b.pre (p ∷ b.post) f;
  now = ap (λ x. x ++ f) b.now ∙ append_assoc b.pre (p ∷ new ∷ b.post) f;
}

-- one level of insertion: the change under the entry gone through is the change of the level
module _ {K C : Type 0} (passes : Passes (K × C)) (g : K × C → ℕ → Replacement K C) (f : K × C → List ℕ) (x : K × C) (xs : List (K × C)) (n : ℕ) where
  abbrev front : List (K × C)
  front = before passes (x ∷ xs)

  abbrev back : List (K × C)
  back = after passes (x ∷ xs)

  abbrev chosen : K × C
  chosen = choose passes x (x ∷ xs)

  level-was : concat_map f (x ∷ xs) ≡ concat_map f front ++ (f chosen ++ concat_map f back)
  level-was = ap (concat_map f) (chosen_among passes x x xs) ∙ concat_map_append f front (chosen ∷ back)

  level-now : concat_map f (place passes g x (x ∷ xs) n).0 ≡ concat_map f front ++ (concat_map f (g chosen n).0 ++ concat_map f back)
  level-now =
      concat_map_append f front ((g chosen n).0 ++ back) ∙ ap (λ l. concat_map f front ++ l) (concat_map_append f (g chosen n).0 back)

  place_same : concat_map f (g chosen n).0 ≡ f chosen → concat_map f (place passes g x (x ∷ xs) n).0 ≡ concat_map f (x ∷ xs)
  place_same e = level-now ∙ ap (λ l. concat_map f front ++ (l ++ concat_map f back)) e ∙ sym level-was

  place_inserted_after : (p new : ℕ) → InsertedAfter p new (f chosen) (concat_map f (g chosen n).0) →
      InsertedAfter p new (concat_map f (x ∷ xs)) (concat_map f (place passes g x (x ∷ xs) n).0)
  place_inserted_after p new b =
      rw (level-was, level-now)
      (inserted_after_front (concat_map f front) p new (f chosen ++ concat_map f back) (concat_map f (g chosen n).0 ++ concat_map f back)
      (inserted_after_back (concat_map f back) p new (f chosen) (concat_map f (g chosen n).0) b))

-- level j after an insertion whose run has d full pages, with n new pages taken before it: it has a new page behind p, or is as before
abbrev pub LevelGrown : (ℕ → ℕ) → ℕ → ℕ → ℕ → ℕ → List ℕ → List ℕ → Type 0
LevelGrown name j d n p l l' = (j < d → InsertedAfter p (name (n + j)) l l') × (d ≤ j → l' ≡ l)

-- the level of the page itself, which an insertion below it splits or not
abbrev own_level : {K C : Type 0} → K × Page K C → List ℕ
own_level x = x.1.0 ∷ []

split_if_over-own : {K C : Type 0} (cap : ℕ) (name : ℕ → ℕ) (a : K) (p h d n c : ℕ) (q : Replacement K C) → c ≤ cap → d ≤ h → q.1 ≡ n + d →
    (d ≡ h → length q.0 ≡ suc c) → (d < h → length q.0 ≡ c) →
    LevelGrown name h (extend_run cap h c d) n p (p ∷ []) (concat_map own_level (split_if_over cap name a p q).0)
split_if_over-own cap name a p h d n c q i j t f g = either (eqb d h)
    (λ e. let v : d ≡ h = eqb-true d h e in
    let u : length q.0 ≡ suc c = f v in
    either (leb cap c)
    (λ w. rw (e, w, lt-leb (length q.0) cap (omega (arith, leb-true cap c w))) (
      (λ y. record { pre = []; post = []; was = refl; now = ap (λ m. p ∷ name m ∷ []) (t ∙ ap (λ m. n + m) v) }),
      (λ y. absurd (omega arith)),
    ))
    (λ w. rw (e, w, le-leb (length q.0) cap (omega (arith, leb-false cap c w))) ((λ y. absurd (omega arith)), (λ y. refl))))
    (λ e. let v : d < h = omega (arith, eqb-false d h e) in
    let u : length q.0 ≡ c = g v in
    rw (e, le-leb (length q.0) cap (omega arith)) ((λ y. absurd (omega arith)), (λ y. refl)))

extend_run-low : (cap h c d : ℕ) → d ≤ extend_run cap h c d
extend_run-low cap h c d = either (eqb d h && leb cap c) (λ e. rw e (omega arith)) (λ e. rw e (omega arith))

extend_run-high : (cap h c d j : ℕ) → (j ≡ h → ⊥) → j < extend_run cap h c d → j < d
extend_run-high cap h c d j ne = either (eqb d h)
    (λ e. either (leb cap c)
    (λ w. rw (e, w) (λ l. omega (arith, eqb-true d h e, ne)))
    (λ w. rw (e, w) (λ l. l)))
    (λ e. rw e (λ l. l))

level_under-own : {K : Type 0} (j h : ℕ) → j ≡ h → (xs : List (Entry K (suc h))) →
    concat_map (level_under j (suc h)) xs ≡ concat_map own_level xs
level_under-own j h e [] = refl
level_under-own j h e (x ∷ xs) = rw (eq-eqb j h e) (ap (λ l. x.1.0 ∷ l) (level_under-own j h e xs))

level_under-below : {K : Type 0} (j h : ℕ) → (j ≡ h → ⊥) → (xs : List (Entry K (suc h))) →
    concat_map (level_under j (suc h)) xs ≡ concat_map (under_page (level_under j h)) xs
level_under-below j h e [] = refl
level_under-below j h e (x ∷ xs) = rw (ne_eqb j h e) (ap (λ l. concat_map (level_under j h) x.1.1 ++ l) (level_under-below j h e xs))

reroot-level : {K : Type 0} (name : ℕ → ℕ) (h : ℕ) (t : Tree K h) (xs : List (Entry K (suc h))) (n j : ℕ) → NonEmpty xs → j ≤ h →
    level j (reroot name h t xs n).0 (reroot name h t xs n).1 ≡ concat_map (level_under j (suc h)) xs
reroot-level name h t [] n j s l = absurd s
reroot-level name h t (x ∷ []) n j s l = sym (append-nil (level_under j (suc h) x))
reroot-level name h t (x ∷ y ∷ ys) n j s l = rw (ne_eqb j (suc h) (omega arith))

module _ {K : Type 0} (Q : Keeping K) (cap : ℕ) (name : ℕ → ℕ) (e : K × ℕ) where
  split_if_over-level : (h : ℕ) →
      ((x : Entry K h) (n j : ℕ) → SizedUnder cap h x →
      LevelGrown name j (run_under (Q.route e) cap h x) n (path_page_under (Q.route e) j h x) (level_under j h x)
      (concat_map (level_under j h) (insert_under Q cap name e h x n).0)) →
      (a : K) (p : ℕ) (xs : List (Entry K h)) (n j : ℕ) → 0 < length xs → length xs ≤ cap → All (SizedUnder cap h) xs →
      LevelGrown name j (extend_run cap h (length xs) (at_chosen (Q.route e h) 0 (run_under (Q.route e) cap h) xs)) n
      (cond (eqb j h) p (at_chosen (Q.route e h) 0 (path_page_under (Q.route e) j h) xs)) (cond (eqb j h) (p ∷ []) (concat_map (level_under j h) xs))
      (concat_map (level_under j (suc h)) (split_if_over cap name a p (insert_entries Q cap name e h xs n)).0)
  split_if_over-level h ok a p [] n j i m s = absurd (omega arith)
  split_if_over-level h ok a p (x ∷ xs) n j i m s =
      let y : Entry K h = choose (Q.route e h) x (x ∷ xs) in
      let d : ℕ = run_under (Q.route e) cap h y in
      let sy : SizedUnder cap h y = choose-all (Q.route e h) (SizedUnder cap h) x x xs s in
      let w : Replacement K (Child K h) = insert_under Q cap name e h y n in
      let c : Splits h d n w = insert_under-splits Q cap name e h y n sy in
      let q : Replacement K (Child K h) = place (Q.route e h) (insert_under Q cap name e h) x (x ∷ xs) n in
      let f : length q.0 ≡ length xs + length w.0 = replaced-length (Q.route e h) x x xs w.0 in
      either (eqb j h)
      (λ i. let v : j ≡ h = eqb-true j h i in
      rw (level_under-own j h v (split_if_over cap name a p q).0, i)
      (rw v (split_if_over-own cap name a p h d n (suc (length xs)) q m c.most c.took (λ u. omega (arith, c.two u))
      (λ u. omega (arith, c.single u)))))
      (λ i. rw (
        level_under-below j h (eqb-false j h i) (split_if_over cap name a p q).0,
        i,
        split_if_over-under
            (level_under j h) cap name a p q,
      ) (
        (λ l. place_inserted_after (Q.route e h) (insert_under Q cap name e h) (level_under j h) x xs n (path_page_under (Q.route e) j h y) (name (n + j))
            ((ok y n j sy).0 (extend_run-high cap h (suc (length xs)) d j (eqb-false j h i) l))),
        (λ l. place_same (Q.route e h) (insert_under Q cap name e h) (level_under j h) x xs n
            ((ok y n j sy).1 (omega (arith, extend_run-low cap h (suc (length xs)) d)))),
      ))

  insert_under-level : (h : ℕ) (x : Entry K h) (n j : ℕ) → SizedUnder cap h x →
      LevelGrown name j (run_under (Q.route e) cap h x) n (path_page_under (Q.route e) j h x) (level_under j h x)
      (concat_map (level_under j h) (insert_under Q cap name e h x n).0)
  insert_under-level zero x n j s = ((λ l. absurd (omega arith)), (λ l. concat_map-none (insert_under Q cap name e zero x n).0))
  insert_under-level (suc h) x n j s =
      split_if_over-level h (insert_under-level h) (larger Q.order x.0 e.0) x.1.0 x.1.1 n j s.0 s.1 s.2

  root-level : (h : ℕ) (a : K) (t : Tree K h) (j : ℕ) → 0 < cap → Sized cap h t →
      LevelGrown name j (run (Q.route e) cap h t) 0 (path_page (Q.route e) j h t) (level j h t)
      (concat_map (level_under j (suc h)) (split_if_over cap name a t.0 (insert_entries Q cap name e h t.1 0)).0)
  root-level zero a (p, []) j pos s =
      rw (lt-leb cap 0 pos, le-leb 1 cap (omega arith)) ((λ l. absurd (omega arith)), (λ l. append-nil (cond (eqb j 0) (p ∷ []) [])))
  root-level zero a (p, x ∷ xs) j pos s = split_if_over-level zero (insert_under-level zero) a p (x ∷ xs) 0 j (omega arith) s.1 s.2
  root-level (suc h) a t j pos s = split_if_over-level (suc h) (insert_under-level (suc h)) a t.0 t.1 0 j s.0 s.1 s.2

  -- Theorem: on each level of the run the new page stands behind the page on the path; the other levels stay
  pub insert-level : (h : ℕ) (t : Tree K h) (j : ℕ) → 0 < cap → Sized cap h t → j ≤ h →
      LevelGrown name j (run (Q.route e) cap h t) 0 (path_page (Q.route e) j h t) (level j h t)
      (level j (insert Q cap name e h t).0 (insert Q cap name e h t).1)
  insert-level h t j pos d l =
      let q : Replacement K (Child K h) = insert_entries Q cap name e h t.1 0 in
      let w : Replacement K (Child K (suc h)) = split_if_over cap name (last_key e.0 q.0) t.0 q in
      rw (reroot-level name h t w.0 w.1 j (split_if_over-non_empty cap name (last_key e.0 q.0) t.0 q) l)
      (root-level h (last_key e.0 q.0) t j pos d)
