-- Rules: what an index keeps its leaf pairs by: the orders of keys and of pairs, which leaf keys may come after a key above a page, the route of a new pair,
-- and whether lookup goes on. Cited by `Sound` and by the book; every definition and law of insertion, removal and lookup takes it as a parameter. What the
-- header's features 0 and 1 mean is one keeping each, `KeepingOf.keeping_of`. A keeping has its laws with it, as an order has.
use Rattle.std.specs.Prelude.{◌≡◌, Bool, true, false, not, List, ℕ, zero, suc}
use Rattle.basis.specs.Lists.{All}
use Rattle.tree.specs.Order.{Order, larger}
use Rattle.tree.specs.Pairs.{by_key, by_record}
use Rattle.tree.specs.Position.{Passes, passes_lower}
use Rattle.tree.specs.Tree.{Entry, first_under}

-- a test on entries for each level: the route of an insertion down a tree
abbrev pub Route : Type 0 → Type 0
Route K = (h : ℕ) → Passes (Entry K h)

pub record Keeping (K : Type 0) : Type 0 where
  -- the order of keys
  pub order : Order K
  -- a leaf pair is at or below another
  pub pair_le : K × ℕ → K × ℕ → Bool
  -- a leaf key belongs under a key above a page, and may not come after it
  pub covers : K → K → Bool
  -- the route of a new pair
  pub route : K × ℕ → Route K
  -- lookup goes on if a page under the root has no entry at or above the key
  pub goes_on : Bool
  -- the order of pairs is transitive and total, and no other than that of keys
  pub pair_trans : (x y z : K × ℕ) → pair_le x y ≡ true → pair_le y z ≡ true → pair_le x z ≡ true
  pub pair_total : (x y : K × ℕ) → pair_le x y ≡ false → pair_le y x ≡ true
  pub pair_key : (x y : K × ℕ) → pair_le x y ≡ true → order.le x.0 y.0 ≡ true
  -- the key of a pair may stand above a page before a later pair; what may stand before a leaf key is at or below it; so may a lower key, and before a higher
  -- leaf key
  pub before-clear : (x y : K × ℕ) → pair_le y x ≡ false → covers x.0 y.0 ≡ false
  pub clear-le : (a b : K) → covers a b ≡ false → order.le a b ≡ true
  pub clear-down : (a b c : K) → order.le a b ≡ true → covers b c ≡ false → covers a c ≡ false
  pub clear_up : (a b c : K) → covers a b ≡ false → order.le b c ≡ true → covers a c ≡ false
  -- in a leaf a route stops at the first pair at or above the new one
  pub route-leaf : (e x y : K × ℕ) → route e zero x y ≡ not (pair_le e x)
  -- above the leaves, if the route of e stops at the entry x, the first leaf pair under the next entry y is above e, and the key above x, raised, may stand
  -- before it
  pub route_stops : (e : K × ℕ) (h : ℕ) (x y : Entry K (suc h)) → route e (suc h) x y ≡ false → covers x.0 (first_under (suc h) y).0 ≡ false →
      (pair_le (first_under (suc h) y) e ≡ false) × (covers (larger order x.0 e.0) (first_under (suc h) y).0 ≡ false)
  -- if it passes x, the key above x may stand before e's, and what is under x, so before the first pair under y, is below e
  pub route-passes : (e : K × ℕ) (h : ℕ) (x y : Entry K (suc h)) → route e (suc h) x y ≡ true → covers x.0 (first_under (suc h) y).0 ≡ false →
      (covers x.0 e.0 ≡ false) × ((z : K × ℕ) → order.le z.0 x.0 ≡ true → pair_le (first_under (suc h) y) z ≡ false → pair_le e z ≡ false)
  -- if lookup does not go on, a leaf key after a key above is above it
  pub clear_lt : goes_on ≡ false → (a b : K) → covers a b ≡ false → order.le b a ≡ false

module _ {K : Type 0} (Q : Keeping K) where
  -- a leaf pair is below another: not at or above it
  abbrev pub Before : K × ℕ → K × ℕ → Type 0
  Before x y = Q.pair_le y x ≡ false

  -- a key above a page may stand before a leaf key, and before all of a list
  abbrev pub Clear : K → K → Type 0
  Clear a b = Q.covers a b ≡ false

  abbrev pub ClearOf : K → List (K × ℕ) → Type 0
  ClearOf a xs = All (λ x. Clear a x.0) xs

-- what features 0 and features 1 of a header say
module _ {K : Type 0} (O : Order K) where
  -- features 0: "leaf pairs, not leaf keys, ascend strictly, by key, then record number"; else pairs go by their keys alone
  abbrev pub pair_order : ℕ → K × ℕ → K × ℕ → Bool
  pair_order zero = by_record O
  pair_order (suc n) = by_key O

  -- the key above a child is "below the first leaf key under the next child of the same page"; for features 0 "the next child's keys may equal the key above"
  abbrev pub covers_for : ℕ → K → K → Bool
  covers_for zero a b = not (O.le a b)
  covers_for (suc n) a b = O.le b a

  -- for features 0 a new pair passes an entry if the first leaf pair under the next one is at or below it, so that it "goes into the leaf with the greatest
  -- pair below it, or the first leaf"
  abbrev pub passes_records : K × ℕ → Route K
  passes_records e zero x y = not (by_record O e x)
  passes_records e (suc h) x y = by_record O (first_under (suc h) y) e

  -- for features 1 it passes the entries with lower keys
  abbrev pub route_for : ℕ → K × ℕ → Route K
  route_for zero e = passes_records e
  route_for (suc n) e = λ h. passes_lower O e

  -- lookup goes on for features 0
  abbrev pub goes_on_for : ℕ → Bool
  goes_on_for zero = true
  goes_on_for (suc n) = false
