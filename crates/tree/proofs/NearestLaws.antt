-- Laws: the leaf that the route of a pair leads to, among all leaf pairs: those before it are below the pair, those after it above; and for features 0 it is
-- "the leaf with the greatest pair below it, or the first leaf". No other law cites it: it says that the rule's route is the paper's. Assumes nothing.
use Rattle.std.specs.Prelude.{◌≡◌, true, false, List, [], ◌∷◌, ◌++◌, ℕ, zero, suc}
use Rattle.std.proofs.Common.{sym, ap, ◌∙◌, append-nil, append_assoc}
use Rattle.basis.specs.Lists.{All, all_append}
use Rattle.basis.specs.Tests.{either}
use Rattle.tree.specs.Lists.{NonEmpty, concat_map}
use Rattle.tree.proofs.ListLaws.{concat_map-single}
use Rattle.tree.specs.Order.{Order}
use Rattle.tree.specs.Pairs.{Ascending, AllAbove, AllBelow}
use Rattle.tree.proofs.PairLaws.{ascending-left, ascending-right}
use Rattle.tree.specs.Position.{Passes, choose}
use Rattle.tree.specs.Tree.{Entry, Tree, first_among, pairs_under, pairs, first_under}
use Rattle.tree.specs.Keeping.{Keeping}
use Rattle.tree.proofs.KeepingOf.{repeated_keys}
use Rattle.tree.specs.Room.{at_chosen, route_leaf}
use Rattle.tree.proofs.Ordered.{Rooted, Separated, OrderedUnder, Ordered, separated-all}
use Rattle.tree.proofs.RouteLaws.{choose-all, Leads, StartsWith, first-pairs, route-leads}

-- all leaf pairs, with a leaf's among them: those before it are below e, those after it above; and if anything is before the leaf, its first pair is at or
-- below e
pub record Around {K : Type 0} (Q : Keeping K) (e : K × ℕ) (leaf all : List (K × ℕ)) : Type 0 where
  pub before : List (K × ℕ)
  pub after : List (K × ℕ)
  pub whole : all ≡ before ++ (leaf ++ after)
  pub below : AllBelow Q.pair_le e before
  pub above : AllAbove Q.pair_le e after
  pub nearest : NonEmpty before → Q.pair_le (first_among (λ x. x) e leaf) e ≡ true

-- the first of a list is the first of its front
front-first : {A : Type 0} (z a : A) (leaf after all : List A) → NonEmpty leaf → StartsWith z all → all ≡ leaf ++ after →
    first_among (λ x. x) a leaf ≡ z
front-first z a [] after all s w e = absurd s
front-first z a (x ∷ xs) after all s w e = ap (first_among (λ y. y) a) (sym e ∙ w.whole)

-- one level, abstract in what lies below; a test that passes an entry has the first pair under the next one at or below e
module _ {K C : Type 0} (Q : Keeping K) (e : K × ℕ) (G : K × C → Type 0) (under : K × C → List (K × ℕ)) (first : K × C → K × ℕ)
    (leaf : K × C → List (K × ℕ)) (passes : Passes (K × C)) (leads : Leads Q G under e passes)
    (close : (x y : K × C) → passes x y ≡ true → Q.pair_le (first y) e ≡ true)
    (starts : (x : K × C) → G x → StartsWith (first x) (under x))
    (full : (x : K × C) → G x → NonEmpty (leaf x))
    (ok : (x : K × C) → G x → Ascending Q.pair_le (under x) → Around Q e (leaf x) (under x)) where
  -- under an entry whose first pair is at or below e, so is the first pair of the leaf
  near_past : (x : K × C) → G x → (w : Around Q e (leaf x) (under x)) → Q.pair_le (first x) e ≡ true → Q.pair_le (first_among (λ z. z) e (leaf x)) e ≡ true
  near_past x g w p = go w.before w.whole w.nearest
    where
      go : (b : List (K × ℕ)) → under x ≡ b ++ (leaf x ++ w.after) → (NonEmpty b → Q.pair_le (first_among (λ z. z) e (leaf x)) e ≡ true) →
          Q.pair_le (first_among (λ z. z) e (leaf x)) e ≡ true
      go [] u q = rw (front-first (first x) e (leaf x) w.after (under x) (full x g) (starts x g) u) p
      go (z ∷ zs) u q = q tt

  choose-near : (d x : K × C) (xs : List (K × C)) → Separated Q G under (x ∷ xs) → Ascending Q.pair_le (concat_map under (x ∷ xs)) →
      Q.pair_le (first x) e ≡ true → Q.pair_le (first_among (λ z. z) e (leaf (choose passes d (x ∷ xs)))) e ≡ true
  choose-near d x [] c o p = near_past x c.0.good (ok x c.0.good (ascending-left Q.pair_le (under x) [] o)) p
  choose-near d x (y ∷ ys) c o p =
      let rest : List (K × ℕ) = concat_map under (y ∷ ys) in
      either (passes x y)
      (λ u. rw u (choose-near d y ys c.1 (ascending-right Q.pair_le (under x) rest o) (close x y u)))
      (λ u. rw u (near_past x c.0.good (ok x c.0.good (ascending-left Q.pair_le (under x) rest o)) p))

  choose_around : (d x : K × C) (xs : List (K × C)) → Separated Q G under (x ∷ xs) → Ascending Q.pair_le (concat_map under (x ∷ xs)) →
      Around Q e (leaf (choose passes d (x ∷ xs))) (concat_map under (x ∷ xs))
  choose_around d x [] c o = rw (append-nil (under x)) (ok x c.0.good (ascending-left Q.pair_le (under x) [] o))
  choose_around d x (y ∷ ys) c o =
      let rest : List (K × ℕ) = concat_map under (y ∷ ys) in
      either (passes x y)
      (λ u. rw u (
      let part : Ascending Q.pair_le rest = ascending-right Q.pair_le (under x) rest o in
      let w : Around Q e (leaf (choose passes d (y ∷ ys))) rest = choose_around d y ys c.1 part in
      record {
        before = under x ++ w.before;
        after = w.after;
        whole = ap (λ l. under x ++ l) w.whole ∙ sym (append_assoc (under x) w.before (leaf (choose passes d (y ∷ ys)) ++ w.after));
        below = all_append (λ z. Q.pair_le e z ≡ false) (under x) w.before (leads.passed x y ys c o u).0 w.below;
        above = w.above;
        nearest = λ s. choose-near d y ys c.1 part (close x y u);
      }))
      (λ u. rw u (
      let w : Around Q e (leaf x) (under x) = ok x c.0.good (ascending-left Q.pair_le (under x) rest o) in
      record {
        before = w.before;
        after = w.after ++ rest;
        whole = ap (λ l. l ++ rest) w.whole
            ∙ (append_assoc w.before (leaf x ++ w.after) rest ∙ ap (λ l. w.before ++ l) (append_assoc (leaf x) w.after rest));
        below = w.below;
        above = all_append (λ z. (Q.pair_le e z ≡ true) × (Q.pair_le z e ≡ false)) w.after rest w.above (leads.stopped x y ys c o u).0;
        nearest = w.nearest;
      }))

-- a leaf that is led to under an entry has pairs
full_among : {A B : Type 0} (passes : Passes A) (G : A → Type 0) (leaf : A → List B) → ((x : A) → G x → NonEmpty (leaf x)) → (xs : List A) → NonEmpty xs →
    All G xs → NonEmpty (at_chosen passes [] leaf xs)
full_among passes G leaf full [] s d = absurd s
full_among passes G leaf full (x ∷ xs) s d = full (choose passes x (x ∷ xs)) (choose-all passes G x x xs d)

module _ {K : Type 0} (Q : Keeping K) (e : K × ℕ)
    (close : (h : ℕ) (x y : Entry K (suc h)) → Q.route e (suc h) x y ≡ true → Q.pair_le (first_under (suc h) y) e ≡ true) where
  leaf-full : (h : ℕ) (x : Entry K (suc h)) → OrderedUnder Q (suc h) x → NonEmpty (route_leaf (Q.route e) h x.1)
  leaf-full zero x g = g.0
  leaf-full (suc h) x g =
      full_among (Q.route e (suc h)) (OrderedUnder Q (suc h)) (λ y. route_leaf (Q.route e) h y.1) (leaf-full h) x.1.1 g.0
      (separated-all Q (OrderedUnder Q (suc h)) (pairs_under (suc h)) x.1.1 g.1)

  -- Theorem: the leaf that the route leads to, among all leaf pairs
  pub leaf_around : (h : ℕ) (t : Tree K h) → Rooted h t → Ordered Q h t → Around Q e (route_leaf (Q.route e) h t) (pairs h t)
  leaf_around zero t s o = record {
    before = [];
    after = [];
    whole = concat_map-single t.1 ∙ sym (append-nil t.1);
    below = tt;
    above = tt;
    nearest = λ u. absurd u;
  }
  leaf_around (suc h) (p, []) s o = absurd s
  leaf_around (suc h) (p, x ∷ xs) s o =
      choose_around Q e (OrderedUnder Q (suc h)) (pairs_under (suc h)) (first_under (suc h)) (λ y. route_leaf (Q.route e) h y.1) (Q.route e (suc h))
      (route-leads Q e (suc h)) (close h) (first-pairs Q (suc h)) (leaf-full h)
      (λ y g a. leaf_around h y.1 (rooted h y.1 g.0) (record { ascending = a; separated = g.1 })) x x xs o.separated o.ascending
    where
      rooted : (m : ℕ) (u : Tree K m) → NonEmpty u.1 → Rooted m u
      rooted zero u n = tt
      rooted (suc m) u n = n

-- Theorem: for features 0 it is "the leaf with the greatest pair below it, or the first leaf": the pairs after it are above the new pair, and if there are
-- pairs before it, its own first pair is at or below the new one
pub nearest-leaf : {K : Type 0} (O : Order K) (e : K × ℕ) (h : ℕ) (t : Tree K h) → Rooted h t → Ordered (repeated_keys O) h t →
    Around (repeated_keys O) e (route_leaf ((repeated_keys O).route e) h t) (pairs h t)
nearest-leaf O e h t s o = leaf_around (repeated_keys O) e (λ m x y u. u) h t s o
