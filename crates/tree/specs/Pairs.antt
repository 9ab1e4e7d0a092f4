-- Rules: lists of pairs, a key and what stands under it, by an order of keys. Cited by the rules of trees, of sound indexes, of insertion and of the book.
use Rattle.std.specs.Prelude.{◌≡◌, Bool, true, false, cond, ◌&&◌, ◌||◌, List, [], ◌∷◌, ℕ, leb}
use Rattle.std.proofs.Math.Option.{Option, none, some}
use Rattle.basis.specs.Lists.{All}
use Rattle.tree.specs.Order.{Order, Le, Lt}

-- f of what was found, if anything was
abbrev pub follow : {X Y : Type 0} → (X → Option Y) → Option X → Option Y
follow f none = none
follow f (some x) = f x

-- the key of the first pair, and of the last; `a` if there is no pair
abbrev pub first_key : {K C : Type 0} → K → List (K × C) → K
first_key a [] = a
first_key a (x ∷ xs) = x.0

abbrev pub last_key : {K C : Type 0} → K → List (K × C) → K
last_key a [] = a
last_key a (x ∷ xs) = last_key x.0 xs

module _ {K : Type 0} (O : Order K) where
  -- the first pair whose key is "at or above the key"
  abbrev pub seek : {C : Type 0} → K → List (K × C) → Option (K × C)
  seek k [] = none
  seek k (x ∷ xs) = cond (O.le k x.0) (some x) (seek k xs)

  -- what stands in a pair at or above the key, if the pair's key is "an equal one"
  abbrev pub if_equal : {C : Type 0} → K → K × C → Option C
  if_equal k x = cond (O.le x.0 k) (some x.1) none

  -- what an ascending list has under a key
  abbrev pub find : {C : Type 0} → K → List (K × C) → Option C
  find k xs = follow (if_equal k) (seek k xs)

  -- what a list in any order has under a key: the first pair whose key is equal
  abbrev pub get : {C : Type 0} → K → List (K × C) → Option C
  get k [] = none
  get k (x ∷ xs) = cond (O.le k x.0 && O.le x.0 k) (some x.1) (get k xs)

  -- what a list has under a key, all of it, in order
  abbrev pub records_of : {C : Type 0} → K → List (K × C) → List C
  records_of k [] = []
  records_of k (x ∷ xs) = cond (O.le k x.0 && O.le x.0 k) (x.1 ∷ records_of k xs) (records_of k xs)

  -- a pair is at or below another: by their keys
  abbrev pub by_key : {C : Type 0} → K × C → K × C → Bool
  by_key x y = O.le x.0 y.0

  -- "by key, then record number"
  abbrev pub by_record : K × ℕ → K × ℕ → Bool
  by_record x y = cond (O.le x.0 y.0) (cond (O.le y.0 x.0) (leb x.1 y.1) true) false

  -- all keys are at or below a key; all are above it
  abbrev pub Below : {C : Type 0} → K → List (K × C) → Type 0
  Below a xs = All (λ x. Le O x.0 a) xs

  abbrev pub Above : {C : Type 0} → K → List (K × C) → Type 0
  Above a xs = All (λ x. Lt O a x.0) xs

-- lists of whole entries, by the test `le` that an entry is at or below another
module _ {A : Type 0} (le : A → A → Bool) where
  -- a list in any order has an entry: one that is at or above it and at or below it
  abbrev pub has : A → List A → Bool
  has e [] = false
  has e (x ∷ xs) = (le e x && le x e) || has e xs

  -- an ascending list has an entry: the first at or above it is at or below it too
  abbrev pub present : A → List A → Bool
  present e [] = false
  present e (x ∷ xs) = cond (le e x) (le x e) (present e xs)

  -- an ascending list with one entry more, before the first at or above it
  abbrev pub insert_pair : A → List A → List A
  insert_pair e [] = e ∷ []
  insert_pair e (x ∷ xs) = cond (le e x) (e ∷ x ∷ xs) (x ∷ insert_pair e xs)

  -- a list in any order without the first entry that is at or above e and at or below it
  abbrev pub remove_pair : A → List A → List A
  remove_pair e [] = []
  remove_pair e (x ∷ xs) = cond (le e x && le x e) xs (x ∷ remove_pair e xs)

  -- "strictly ascending left to right": no later entry is at or below an earlier one
  abbrev pub Ascending : List A → Type 0
  Ascending [] = Unit {0}
  Ascending (x ∷ xs) = All (λ y. le y x ≡ false) xs × Ascending xs

  -- all entries are above an entry; all are below it
  abbrev pub AllAbove : A → List A → Type 0
  AllAbove e xs = All (λ x. (le e x ≡ true) × (le x e ≡ false)) xs

  abbrev pub AllBelow : A → List A → Type 0
  AllBelow e xs = All (λ x. le e x ≡ false) xs
