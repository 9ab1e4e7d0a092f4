-- Laws: an insertion of a pair that a tree does not have keeps the tree ordered. Cited by the laws of sound indexes. Assumes nothing.
use Rattle.std.specs.Prelude.{◌≡◌, true, false, List, [], ◌∷◌, ◌++◌, ℕ, zero, suc, ◌<◌, length, take, drop, leb}
use Rattle.std.proofs.Common.{append-nil, take-append-drop, leb-false}
use Rattle.basis.specs.Lists.{All, all_append, all_left, all_right, all_map}
use Rattle.basis.specs.Tests.{either}
use Rattle.tree.specs.Lists.{NonEmpty, concat_map, half}
use Rattle.tree.proofs.ListLaws.{non_empty-left, concat_map_append, concat_map-non_empty}
use Rattle.tree.specs.Order.{Le, larger}
use Rattle.tree.proofs.OrderLaws.{le_refl, larger-left, larger-right}
use Rattle.tree.specs.Pairs.{last_key, Below, has, insert_pair, Ascending}
use Rattle.tree.proofs.PairLaws.{last_key-all, below_up, insert_pair-all, insert_pair-non_empty, ascending-left, ascending-right, Absent, has-absent}
use Rattle.tree.specs.Position.{Passes}
use Rattle.tree.specs.Tree.{Page, Child, Entry, Tree, pairs_under, pairs}
use Rattle.tree.specs.Keeping.{Keeping, Clear, ClearOf}
use Rattle.tree.proofs.KeepingLaws.{clear_of_down, clear_between, insert_pair-ascending}
use Rattle.tree.specs.Insertion.{Replacement, split_if_over, first_pair, place, insert_among, reroot, insert_under, insert_entries}
use Rattle.tree.specs.Insertion.{insert}
use Rattle.tree.proofs.Ordered.{Rooted, Separated, OrderedUnder, SeparatedTree, Ordered}
use Rattle.tree.proofs.RouteLaws.{Leads, route-leads}
use Rattle.tree.proofs.SplitLaws.{under_page, split_if_over-non_empty, lower-non_empty, upper-non_empty}
use Rattle.tree.proofs.Insertion.Pairs.{place-pairs, insert_under-pairs, insert_entries-pairs, root-pairs, insert-pairs}

module _ {K C : Type 0} (Q : Keeping K) (G : K × C → Type 0) (under : K × C → List (K × ℕ)) where
  -- the keys of the entries xs may stand before all leaf pairs of the entries ys
  abbrev pub ClearBefore : List (K × C) → List (K × C) → Type 0
  ClearBefore xs ys = All (λ x. ClearOf Q x.0 (concat_map under ys)) xs

  -- separated entries, joined and taken apart
  pub separated_append : (xs ys : List (K × C)) → Separated Q G under xs → Separated Q G under ys → ClearBefore xs ys →
      Separated Q G under (xs ++ ys)
  separated_append [] ys c d o = d
  separated_append (x ∷ xs) ys c d o = (
    record {
      good = c.0.good;
      non_empty = c.0.non_empty;
      ceiling = c.0.ceiling;
      apart = rw (concat_map_append under xs ys)
          (all_append (λ e. Clear Q x.0 e.0) (concat_map under xs) (concat_map under ys) c.0.apart o.0);
    },
    separated_append xs ys c.1 d o.1,
  )

  separated-left : (xs ys : List (K × C)) → Separated Q G under (xs ++ ys) → Separated Q G under xs
  separated-left [] ys c = tt
  separated-left (x ∷ xs) ys c = (
    record {
      good = c.0.good;
      non_empty = c.0.non_empty;
      ceiling = c.0.ceiling;
      apart = all_left (λ e. Clear Q x.0 e.0) (concat_map under xs) (concat_map under ys)
          (rw (concat_map_append under xs ys) at c.0.apart);
    },
    separated-left xs ys c.1,
  )

  separated-right : (xs ys : List (K × C)) → Separated Q G under (xs ++ ys) → Separated Q G under ys
  separated-right [] ys c = c
  separated-right (x ∷ xs) ys c = separated-right xs ys c.1

  separated-before : (xs ys : List (K × C)) → Separated Q G under (xs ++ ys) → ClearBefore xs ys
  separated-before [] ys c = tt
  separated-before (x ∷ xs) ys c = (
    all_right (λ e. Clear Q x.0 e.0) (concat_map under xs) (concat_map under ys) (rw (concat_map_append under xs ys) at c.0.apart),
    separated-before xs ys c.1,
  )

  before_last : (a : K) (xs ys : List (K × C)) → NonEmpty xs → ClearBefore xs ys → ClearOf Q (last_key a xs) (concat_map under ys)
  before_last a [] ys s c = absurd s
  before_last a (x ∷ xs) ys s c = last_key-all (λ k. ClearOf Q k (concat_map under ys)) x.0 xs c.0 c.1

  pub separated-non_empty : (xs : List (K × C)) → NonEmpty xs → Separated Q G under xs → NonEmpty (concat_map under xs)
  separated-non_empty [] s c = absurd s
  separated-non_empty (x ∷ xs) s c = non_empty-left (under x) (concat_map under xs) c.0.non_empty

  -- the last key is a ceiling of all leaf pairs
  below_last : (x : K × C) (xs : List (K × C)) → Separated Q G under (x ∷ xs) → Below Q.order (last_key x.0 xs) (concat_map under (x ∷ xs))
  below_last x [] c = all_append (λ e. Le Q.order e.0 x.0) (under x) [] c.0.ceiling tt
  below_last x (y ∷ ys) c =
      let last : K = last_key y.0 ys in
      let u : Below Q.order last (concat_map under (y ∷ ys)) = below_last y ys c.1 in
      let l : Le Q.order x.0 last =
      clear_between Q x.0 last (concat_map under (y ∷ ys)) (separated-non_empty (y ∷ ys) tt c.1) c.0.apart u in
      all_append (λ e. Le Q.order e.0 last) (under x) (concat_map under (y ∷ ys))
      (below_up Q.order x.0 last l (under x) c.0.ceiling) u

  separated-last : (a : K) (xs : List (K × C)) → Separated Q G under xs → Below Q.order (last_key a xs) (concat_map under xs)
  separated-last a [] c = tt
  separated-last a (x ∷ xs) c = below_last x xs c

  -- entries whose pages are ordered, with keys up to `a`
  abbrev pub OrderedPage : K × Page K C → Type 0
  OrderedPage x = NonEmpty x.1.1 × Separated Q G under x.1.1

  abbrev OrderedUpTo : K → List (K × Page K C) → Type 0
  OrderedUpTo a rows = Separated Q OrderedPage (under_page under) rows × Below Q.order a rows

  split-ordered : (a : K) (p new : ℕ) (xs ys : List (K × C)) → NonEmpty xs → NonEmpty ys → Separated Q G under (xs ++ ys) →
      Below Q.order a (concat_map under (xs ++ ys)) → OrderedUpTo a ((last_key a xs, (p, xs)) ∷ (a, (new, ys)) ∷ [])
  split-ordered a p new xs ys s t c u =
      let d : Separated Q G under xs = separated-left xs ys c in
      let e : Separated Q G under ys = separated-right xs ys c in
      let v : ClearOf Q (last_key a xs) (concat_map under ys) = before_last a xs ys s (separated-before xs ys c) in
      let w : Below Q.order a (concat_map under ys) =
      all_right (λ x. Le Q.order x.0 a) (concat_map under xs) (concat_map under ys) (rw (concat_map_append under xs ys) at u) in
      let z : NonEmpty (concat_map under ys) = separated-non_empty ys t e in (
        (
          record {
            good = (s, d);
            non_empty = separated-non_empty xs s d;
            ceiling = separated-last a xs d;
            apart = rw (append-nil (concat_map under ys)) v;
          },
          (record { good = (t, e); non_empty = z; ceiling = w; apart = tt }, tt),
        ),
        (clear_between Q (last_key a xs) a (concat_map under ys) z v w, (le_refl Q.order a, tt)),
      )

  split_if_over-ordered : (cap : ℕ) → 0 < cap → (name : ℕ → ℕ) (a : K) (p : ℕ) (q : Replacement K C) → NonEmpty q.0 →
      Separated Q G under q.0 → Below Q.order a (concat_map under q.0) → OrderedUpTo a (split_if_over cap name a p q).0
  split_if_over-ordered cap pos name a p q s c u = either (leb (length q.0) cap)
      (λ e. rw e ((record { good = (s, c); non_empty = separated-non_empty q.0 s c; ceiling = u; apart = tt }, tt), (le_refl Q.order a, tt)))
      (λ e. rw e (
      let m : ℕ = half (length q.0) in
      let l : cap < length q.0 = leb-false (length q.0) cap e in
      split-ordered a p (name q.1) (take m q.0) (drop m q.0)
      (lower-non_empty cap q.0 pos l) (upper-non_empty cap q.0 pos l)
      (rw (take-append-drop m q.0) c) (rw (take-append-drop m q.0) u)))

-- one level of insertion, abstract in what lies below
module _ {K C : Type 0} (Q : Keeping K) (G : K × C → Type 0) (under : K × C → List (K × ℕ)) (e : K × ℕ) (passes : Passes (K × C))
    (leads : Leads Q G under e passes) (g : K × C → ℕ → Replacement K C)
    (g-pairs : (x : K × C) (n : ℕ) → G x → Ascending Q.pair_le (under x) → concat_map under (g x n).0 ≡ insert_pair Q.pair_le e (under x))
    (g-ordered : (x : K × C) (n : ℕ) → G x → Ascending Q.pair_le (under x) → Below Q.order x.0 (under x) → Absent Q.pair_le e (under x) →
    Separated Q G under (g x n).0 × Below Q.order (larger Q.order x.0 e.0) (g x n).0) where
  abbrev New : K × ℕ → Type 0
  New z = Q.pair_le e z ≡ true → Q.pair_le z e ≡ false

  place-separated : (d x : K × C) (xs : List (K × C)) (n : ℕ) → Separated Q G under (x ∷ xs) → Ascending Q.pair_le (concat_map under (x ∷ xs)) →
      Absent Q.pair_le e (concat_map under (x ∷ xs)) → Separated Q G under (place passes g d (x ∷ xs) n).0
  place-separated d x [] n c o w = rw (append-nil (g x n).0)
      (g-ordered x n c.0.good (ascending-left Q.pair_le (under x) [] o) c.0.ceiling (all_left New (under x) [] w)).0
  place-separated d x (y ∷ ys) n c o w =
      let rest : List (K × ℕ) = concat_map under (y ∷ ys) in
      let top : K = larger Q.order x.0 e.0 in
      let later : Ascending Q.pair_le rest = ascending-right Q.pair_le (under x) rest o in
      either (passes x y)
      (λ u. rw u ((
        record {
          good = c.0.good;
          non_empty = c.0.non_empty;
          ceiling = c.0.ceiling;
          apart = rw (place-pairs Q G under e passes leads g g-pairs d y ys n c.1 later)
              (insert_pair-all Q.pair_le (λ z. Clear Q x.0 z.0) e rest (leads.passed x y ys c o u).1 c.0.apart);
        },
        place-separated d y ys n c.1 later (all_right New (under x) rest w),
      )))
      (λ u. rw u (
      let f : Separated Q G under (g x n).0 × Below Q.order top (g x n).0 =
      g-ordered x n c.0.good (ascending-left Q.pair_le (under x) rest o) c.0.ceiling (all_left New (under x) rest w) in
      separated_append Q G under (g x n).0 (y ∷ ys) f.0 c.1
      (all_map (λ z. Le Q.order z.0 top) (λ z. ClearOf Q z.0 rest)
      (λ z l. clear_of_down Q z.0 top l rest (leads.stopped x y ys c o u).1) (g x n).0 f.1)))

  insert_among-separated : (new xs : List (K × C)) (n : ℕ) → NonEmpty xs → Separated Q G under xs → Ascending Q.pair_le (concat_map under xs) →
      Absent Q.pair_le e (concat_map under xs) → Separated Q G under (insert_among passes g new xs n).0
  insert_among-separated new [] n s c o w = absurd s
  insert_among-separated new (x ∷ xs) n s c o w = place-separated x x xs n c o w

module _ {K : Type 0} (Q : Keeping K) (cap : ℕ) (pos : 0 < cap) (name : ℕ → ℕ) (e : K × ℕ) where
  insert_pair-below : (a : K) (xs : List (K × ℕ)) → Below Q.order a xs → Below Q.order (larger Q.order a e.0) (insert_pair Q.pair_le e xs)
  insert_pair-below a xs u =
      let top : K = larger Q.order a e.0 in
      insert_pair-all Q.pair_le (λ z. Le Q.order z.0 top) e xs (larger-right Q.order a e.0)
      (below_up Q.order a top (larger-left Q.order a e.0) xs u)

  insert_under-ordered : (h : ℕ) (x : Entry K h) (n : ℕ) → OrderedUnder Q h x → Ascending Q.pair_le (pairs_under h x) →
      Below Q.order x.0 (pairs_under h x) → Absent Q.pair_le e (pairs_under h x) →
      Separated Q (OrderedUnder Q h) (pairs_under h) (insert_under Q cap name e h x n).0
      × Below Q.order (larger Q.order x.0 e.0) (insert_under Q cap name e h x n).0
  insert_under-ordered zero x n g o u w = (
    either (Q.pair_le e x)
        (λ l. rw l (
          record { good = tt; non_empty = tt; ceiling = (le_refl Q.order e.0, tt); apart = (Q.before-clear e x (w.0 l), tt) },
          (record { good = tt; non_empty = tt; ceiling = (le_refl Q.order x.0, tt); apart = tt }, tt),
        ))
        (λ l. rw l (
          record { good = tt; non_empty = tt; ceiling = (le_refl Q.order x.0, tt); apart = (Q.before-clear x e l, tt) },
          (record { good = tt; non_empty = tt; ceiling = (le_refl Q.order e.0, tt); apart = tt }, tt),
        )),
    insert_pair-below x.0 (x ∷ []) (le_refl Q.order x.0, tt),
  )
  insert_under-ordered (suc h) x n g o u w =
      let q : Replacement K (Child K h) = insert_entries Q cap name e h x.1.1 n in
      let p : concat_map (pairs_under h) q.0 ≡ insert_pair Q.pair_le e (concat_map (pairs_under h) x.1.1) =
      insert_entries-pairs Q cap name e h x.1.1 n g.0 g.1 o in
      split_if_over-ordered Q (OrderedUnder Q h) (pairs_under h) cap pos name (larger Q.order x.0 e.0) x.1.0 q
      (concat_map-non_empty (pairs_under h) q.0 (rw p (insert_pair-non_empty Q.pair_le e (concat_map (pairs_under h) x.1.1))))
      (insert_among-separated Q (OrderedUnder Q h) (pairs_under h) e (Q.route e h) (route-leads Q e h) (insert_under Q cap name e h)
      (insert_under-pairs Q cap name e h) (insert_under-ordered h) (first_pair e h) x.1.1 n g.0 g.1 o w)
      (rw p (insert_pair-below x.0 (concat_map (pairs_under h) x.1.1) u))

  insert_entries-separated : (h : ℕ) (xs : List (Entry K h)) (n : ℕ) → NonEmpty xs → Separated Q (OrderedUnder Q h) (pairs_under h) xs →
      Ascending Q.pair_le (concat_map (pairs_under h) xs) → Absent Q.pair_le e (concat_map (pairs_under h) xs) →
      Separated Q (OrderedUnder Q h) (pairs_under h) (insert_entries Q cap name e h xs n).0
  insert_entries-separated h xs n s c o w =
      insert_among-separated Q (OrderedUnder Q h) (pairs_under h) e (Q.route e h) (route-leads Q e h) (insert_under Q cap name e h)
      (insert_under-pairs Q cap name e h) (insert_under-ordered h) (first_pair e h) xs n s c o w

  root-separated : (h : ℕ) (t : Tree K h) (n : ℕ) → Rooted h t → Ordered Q h t → Absent Q.pair_le e (pairs h t) →
      Separated Q (OrderedUnder Q h) (pairs_under h) (insert_entries Q cap name e h t.1 n).0
  root-separated zero (p, []) n s o w = (record { good = tt; non_empty = tt; ceiling = (le_refl Q.order e.0, tt); apart = tt }, tt)
  root-separated zero (p, x ∷ xs) n s o w = insert_entries-separated zero (x ∷ xs) n tt o.separated o.ascending w
  root-separated (suc h) t n s o w = insert_entries-separated (suc h) t.1 n s o.separated o.ascending w

  reroot-separated : (h : ℕ) (t : Tree K h) (xs : List (Entry K (suc h))) (n : ℕ) → NonEmpty xs →
      Separated Q (OrderedUnder Q (suc h)) (pairs_under (suc h)) xs → SeparatedTree Q (reroot name h t xs n).0 (reroot name h t xs n).1
  reroot-separated h t [] n s c = absurd s
  reroot-separated h t (x ∷ []) n s c = c.0.good.1
  reroot-separated h t (x ∷ y ∷ ys) n s c = c

  -- Theorem: a tree is ordered after the insertion of a pair that it does not have
  pub insert-ordered : (h : ℕ) (t : Tree K h) → Rooted h t → Ordered Q h t → has Q.pair_le e (pairs h t) ≡ false →
      Ordered Q (insert Q cap name e h t).0 (insert Q cap name e h t).1
  insert-ordered h t s o f =
      let w : Absent Q.pair_le e (pairs h t) = has-absent Q.pair_le e (pairs h t) f in
      let q : Replacement K (Child K h) = insert_entries Q cap name e h t.1 0 in
      let c : Separated Q (OrderedUnder Q h) (pairs_under h) q.0 = root-separated h t 0 s o w in
      let p : concat_map (pairs_under h) q.0 ≡ insert_pair Q.pair_le e (pairs h t) = root-pairs Q cap name e h t 0 s o in
      let z : Replacement K (Child K (suc h)) = split_if_over cap name (last_key e.0 q.0) t.0 q in
      record {
        ascending = rw (insert-pairs Q cap name e h t s o) (insert_pair-ascending Q e (pairs h t) o.ascending w);
        separated = reroot-separated h t z.0 z.1 (split_if_over-non_empty cap name (last_key e.0 q.0) t.0 q)
            (split_if_over-ordered Q (OrderedUnder Q h) (pairs_under h) cap pos name (last_key e.0 q.0) t.0 q
            (concat_map-non_empty (pairs_under h) q.0 (rw p (insert_pair-non_empty Q.pair_le e (pairs h t)))) c
            (separated-last Q (OrderedUnder Q h) (pairs_under h) e.0 q.0 c)).0;
      }
