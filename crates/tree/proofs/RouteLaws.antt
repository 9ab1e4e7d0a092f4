-- Laws: the entry that an insertion goes through stands among those of its page, and is the same for entries in another form; what a route must tell of a new
-- pair, and that the route of a keeping tells it. Cited by the laws of insertion and removal. Assumes nothing.
use Rattle.std.specs.Prelude.{◌≡◌, refl, true, false, List, [], ◌∷◌, ◌++◌, map, ℕ, zero, suc, ◌+◌, ◌<◌, length, get_or, take, drop}
use Rattle.std.proofs.Common.{sym, ap, ◌∙◌, subst, arith, length-append}
use Rattle.std.proofs.lemmas.List.{map-append}
use Rattle.std.proofs.Math.ListN.{get_or-map}
use Rattle.std.proofs.Math.Seq.{split_at}
use Rattle.std.proofs.lemmas.Bool.{not-true, not-false}
use Rattle.basis.specs.Lists.{All, all_right}
use Rattle.basis.specs.Tests.{either}
use Rattle.tree.specs.Lists.{NonEmpty, concat_map}
use Rattle.tree.proofs.ListLaws.{all_map2, take_map, drop_map}
use Rattle.tree.specs.Order.{Le, larger}
use Rattle.tree.specs.Pairs.{Below, Ascending, AllAbove, AllBelow}
use Rattle.tree.proofs.PairLaws.{ascending-right, ascending-below}
use Rattle.tree.specs.Position.{Passes, position, choose, replace_at}
use Rattle.tree.specs.Tree.{Entry, first_among, pairs_under, first_under}
use Rattle.tree.specs.Keeping.{Keeping, Before, Clear, ClearOf}
use Rattle.tree.proofs.KeepingLaws.{all-before, before_above, clear_first}
use Rattle.tree.proofs.Ordered.{Separated, OrderedUnder}

-- the entry gone through is one of the page's: the entries are those before it, itself, and those after it
module _ {A : Type 0} (passes : Passes A) where
  pub position-within : (x : A) (xs : List A) → position passes (x ∷ xs) < length (x ∷ xs)
  position-within x [] = omega arith
  position-within x (y ∷ ys) = either (passes x y) (λ u. rw u (omega (arith, position-within y ys))) (λ u. rw u (omega arith))

  abbrev pub before : List A → List A
  before xs = take (position passes xs) xs

  abbrev pub after : List A → List A
  after xs = drop (suc (position passes xs)) xs

  pub chosen_among : (d x : A) (xs : List A) → x ∷ xs ≡ before (x ∷ xs) ++ (choose passes d (x ∷ xs) ∷ after (x ∷ xs))
  chosen_among d x xs = split_at (x ∷ xs) (position passes (x ∷ xs)) d (position-within x xs)

  -- what holds of all entries holds of it
  pub choose-all : (P : A → Type 0) (d x : A) (xs : List A) → All P (x ∷ xs) → P (choose passes d (x ∷ xs))
  choose-all P d x xs p =
      let rest : List A = choose passes d (x ∷ xs) ∷ after (x ∷ xs) in
      (all_right P (before (x ∷ xs)) rest (subst (All P) (chosen_among d x xs) p)).0

  -- how many entries there are with others in its place
  pub replaced-length : (d x : A) (xs new : List A) → length (replace_at (position passes (x ∷ xs)) new (x ∷ xs)) ≡ length xs + length new
  replaced-length d x xs new = omega (
    arith,
    ap length (chosen_among d x xs),
    length-append (before (x ∷ xs)) (choose passes d (x ∷ xs) ∷ after (x ∷ xs)),
    length-append (before (x ∷ xs)) (new ++ after (x ∷ xs)),
    length-append new (after (x ∷ xs)),
  )

-- entries in another form, on which the tests say the same
module _ {A B : Type 0} (f : A → B) (passes : Passes A) (passes' : Passes B) (ok : (x y : A) → passes' (f x) (f y) ≡ passes x y) where
  pub position_map : (xs : List A) → position passes' (map f xs) ≡ position passes xs
  position_map [] = refl
  position_map (x ∷ []) = refl
  position_map (x ∷ y ∷ ys) = rw (ok x y) (either (passes x y) (λ u. rw u (ap suc (position_map (y ∷ ys)))) (λ u. rw u))

  pub choose_map : (d : A) (xs : List A) → choose passes' (f d) (map f xs) ≡ f (choose passes d xs)
  choose_map d xs = ap (λ i. get_or (map f xs) i (f d)) (position_map xs) ∙ get_or-map f xs (position passes xs) d

pub replace_at_map : {A B : Type 0} (f : A → B) (i : ℕ) (new xs : List A) → map f (replace_at i new xs) ≡ replace_at i (map f new) (map f xs)
replace_at_map f i new xs =
    map-append f (take i xs) (new ++ drop (suc i) xs)
    ∙ rw (map-append f new (drop (suc i) xs), take_map f i xs, drop_map f (suc i) xs)

-- what a test on entries must tell of a new pair e: if it stops at x, the leaf pairs after x are above e, and the key above x, raised to e's, may stand before
-- them; if it passes x, the leaf pairs under x are below e, and the key above x may stand before e's
pub record Leads {K C : Type 0} (Q : Keeping K) (G : K × C → Type 0) (under : K × C → List (K × ℕ)) (e : K × ℕ) (passes : Passes (K × C)) : Type 0 where
  pub stopped : (x y : K × C) (ys : List (K × C)) → Separated Q G under (x ∷ y ∷ ys) → Ascending Q.pair_le (concat_map under (x ∷ y ∷ ys)) →
      passes x y ≡ false →
      AllAbove Q.pair_le e (concat_map under (y ∷ ys)) × ClearOf Q (larger Q.order x.0 e.0) (concat_map under (y ∷ ys))
  pub passed : (x y : K × C) (ys : List (K × C)) → Separated Q G under (x ∷ y ∷ ys) → Ascending Q.pair_le (concat_map under (x ∷ y ∷ ys)) →
      passes x y ≡ true → AllBelow Q.pair_le e (under x) × Clear Q x.0 e.0

-- a list that begins with a member
pub record StartsWith {A : Type 0} (x : A) (xs : List A) : Type 0 where
  pub rest : List A
  pub whole : xs ≡ x ∷ rest

module _ {K : Type 0} (Q : Keeping K) where
  starts_among : {C : Type 0} (G : K × C → Type 0) (under : K × C → List (K × ℕ)) (first : K × C → K × ℕ) →
      ((x : K × C) → G x → StartsWith (first x) (under x)) →
      (d : K × ℕ) (xs : List (K × C)) → NonEmpty xs → Separated Q G under xs → StartsWith (first_among first d xs) (concat_map under xs)
  starts_among G under first ok d [] s c = absurd s
  starts_among G under first ok d (x ∷ xs) s c =
      let w : StartsWith (first x) (under x) = ok x c.0.good in
      record { rest = w.rest ++ concat_map under xs; whole = ap (λ l. l ++ concat_map under xs) w.whole }

  -- the leaf pairs under an entry start with the first
  pub first-pairs : (h : ℕ) (x : Entry K h) → OrderedUnder Q h x → StartsWith (first_under h x) (pairs_under h x)
  first-pairs zero x g = record { rest = []; whole = refl }
  first-pairs (suc h) x g = starts_among (OrderedUnder Q h) (pairs_under h) (first_under h) (first-pairs h) (x.0, 0) x.1.1 g.0 g.1

  -- ascending leaf pairs l after the key a above, and us under it: the first of l, z, tells what is asked of all
  stops_list : (e z : K × ℕ) (a : K) (l : List (K × ℕ)) → StartsWith z l → Ascending Q.pair_le l →
      Before Q e z × Clear Q (larger Q.order a e.0) z.0 →
      AllAbove Q.pair_le e l × ClearOf Q (larger Q.order a e.0) l
  stops_list e z a l w o f =
      let asc : Ascending Q.pair_le (z ∷ w.rest) = rw w.whole at o in
      rw w.whole (
        before_above Q e (z ∷ w.rest) (f.0, all-before Q e z (Q.pair_total z e f.0) w.rest asc.0),
        clear_first Q (larger Q.order a e.0) z w.rest f.1 asc.0,
      )

  passes-list : (e z : K × ℕ) (a : K) (us l : List (K × ℕ)) → StartsWith z l → Ascending Q.pair_le (us ++ l) → Below Q.order a us →
      ((y : K × ℕ) → Le Q.order y.0 a → Before Q y z → Before Q y e) → AllBelow Q.pair_le e us
  passes-list e z a us l w o u f =
      let asc : Ascending Q.pair_le (us ++ z ∷ w.rest) = rw w.whole at o in
      all_map2 (λ y. Le Q.order y.0 a) (λ y. Before Q y z) (λ y. Before Q y e) f us u (ascending-below Q.pair_le us z w.rest asc)

  -- in a leaf
  larger-clear : (a b c : K) → Clear Q a c → Clear Q b c → Clear Q (larger Q.order a b) c
  larger-clear a b c p q = either (Q.order.le a b) (λ e. rw e q) (λ e. rw e p)

  leaf-leads : (e : K × ℕ) → Leads Q (OrderedUnder Q zero) (pairs_under zero) e (Q.route e zero)
  leaf-leads e = record {
    stopped = λ x y ys c o s.
        let rest : List (K × ℕ) = concat_map (pairs_under zero) (y ∷ ys) in
        let l : Q.pair_le e x ≡ true = not-false (Q.pair_le e x) (sym (Q.route-leaf e x y) ∙ s) in
        let later : All (λ z. Before Q e z) rest = all-before Q e x l rest o.0 in (
          before_above Q e rest later,
          all_map2 (λ z. Before Q x z) (λ z. Before Q e z) (λ z. Clear Q (larger Q.order x.0 e.0) z.0)
              (λ z b d. larger-clear x.0 e.0 z.0 (Q.before-clear x z b) (Q.before-clear e z d)) rest o.0 later,
        );
    passed = λ x y ys c o s.
        let l : Before Q x e = not-true (Q.pair_le e x) (sym (Q.route-leaf e x y) ∙ s) in
        ((l, tt), Q.before-clear x e l);
  }

  -- Theorem: the route of every pair leads, on every level
  pub route-leads : (e : K × ℕ) (h : ℕ) → Leads Q (OrderedUnder Q h) (pairs_under h) e (Q.route e h)
  route-leads e zero = leaf-leads e
  route-leads e (suc h) = record {
    stopped = λ x y ys c o s.
        let rest : List (K × ℕ) = concat_map (pairs_under (suc h)) (y ∷ ys) in
        stops_list e (first_under (suc h) y) x.0 rest (starts y ys c.1) (ascending-right Q.pair_le (pairs_under (suc h) x) rest o)
        (Q.route_stops e h x y s (first-clear x y ys c));
    passed = λ x y ys c o s.
        let f : Clear Q x.0 e.0 × ((z : K × ℕ) → Le Q.order z.0 x.0 → Before Q z (first_under (suc h) y) → Before Q z e) =
        Q.route-passes e h x y s (first-clear x y ys c) in (
          passes-list e (first_under (suc h) y) x.0 (pairs_under (suc h) x) (concat_map (pairs_under (suc h)) (y ∷ ys)) (starts y ys c.1) o
              c.0.ceiling f.1,
          f.0,
        );
  }
    where
      starts : (y : Entry K (suc h)) (ys : List (Entry K (suc h))) →
          Separated Q (OrderedUnder Q (suc h)) (pairs_under (suc h)) (y ∷ ys) →
          StartsWith (first_under (suc h) y) (concat_map (pairs_under (suc h)) (y ∷ ys))
      starts y ys c =
          starts_among (OrderedUnder Q (suc h)) (pairs_under (suc h)) (first_under (suc h)) (first-pairs (suc h)) e (y ∷ ys) tt c

      first-clear : (x y : Entry K (suc h)) (ys : List (Entry K (suc h))) →
          Separated Q (OrderedUnder Q (suc h)) (pairs_under (suc h)) (x ∷ y ∷ ys) → Clear Q x.0 (first_under (suc h) y).0
      first-clear x y ys c =
          let clear : ClearOf Q x.0 (first_under (suc h) y ∷ (starts y ys c.1).rest) = rw (starts y ys c.1).whole at c.0.apart in
          clear.0
