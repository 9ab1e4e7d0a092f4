-- Laws: ordered trees, whose leaf pairs ascend and in which each key above is a ceiling; if lookup does not go on, it gives what the ascending list of the
-- pairs has. Cited by every law of insertion. Assumes nothing.
use Rattle.std.specs.Prelude.{◌≡◌, refl, false, List, [], ◌∷◌, ◌++◌, ℕ, zero, suc, length}
use Rattle.std.proofs.Common.{sym, ap, ◌∙◌, subst}
use Rattle.std.proofs.Math.Option.{Option, none, some, IsSome}
use Rattle.basis.specs.Lists.{All, all_map}
use Rattle.basis.specs.Tests.{either}
use Rattle.tree.specs.Lists.{NonEmpty, concat_map}
use Rattle.tree.specs.Order.{Order, Le, Lt}
use Rattle.tree.specs.Pairs.{follow, seek, find, by_key, Below, Above, Ascending}
use Rattle.tree.proofs.PairLaws.{above_down, find-here, find_past, ascending-join}
use Rattle.tree.specs.Tree.{Entry, Tree, pairs_under, pairs, onward, lookup_under, lookup, visited_under, visited}
use Rattle.tree.specs.Keeping.{Keeping, Clear, ClearOf}
use Rattle.tree.proofs.KeepingOf.{distinct_keys}

-- an entry x before the entries xs of its page, with the leaf pairs that `under` gives for each: G holds of x, x has a leaf pair, and its key is at or above
-- its own leaf keys and may stand before the leaf keys of xs
pub record Separator {K C : Type 0} (Q : Keeping K) (G : K × C → Type 0) (under : K × C → List (K × ℕ)) (x : K × C)
    (xs : List (K × C)) : Type 0 where
  pub good : G x
  pub non_empty : NonEmpty (under x)
  pub ceiling : Below Q.order x.0 (under x)
  pub apart : ClearOf Q x.0 (concat_map under xs)

-- only a lone root leaf may have no entry
abbrev pub Rooted : {K : Type 0} (h : ℕ) → Tree K h → Type 0
Rooted zero t = Unit {0}
Rooted (suc h) t = NonEmpty t.1

module _ {K : Type 0} (Q : Keeping K) where
  -- each entry separates its leaf pairs from those after it
  abbrev pub Separated : {C : Type 0} → (K × C → Type 0) → (K × C → List (K × ℕ)) → List (K × C) → Type 0
  Separated G under [] = Unit {0}
  Separated G under (x ∷ xs) = Separator Q G under x xs × Separated G under xs

  -- at every page under an entry, and of a tree
  abbrev pub OrderedUnder : (h : ℕ) → Entry K h → Type 0
  OrderedUnder zero x = Unit {0}
  OrderedUnder (suc h) x = NonEmpty x.1.1 × Separated (OrderedUnder h) (pairs_under h) x.1.1

  abbrev pub SeparatedTree : (h : ℕ) → Tree K h → Type 0
  SeparatedTree h t = Separated (OrderedUnder h) (pairs_under h) t.1

  -- a tree in order: its leaf pairs ascend, which keys above that the next leaf key may equal do not say, and its entries separate them
  pub record Ordered (h : ℕ) (t : Tree K h) : Type 0 where
    pub ascending : Ascending Q.pair_le (pairs h t)
    pub separated : SeparatedTree h t

  -- the pairs of an ordered tree ascend strictly
  pub ordered-ascending : (h : ℕ) (t : Tree K h) → Ordered h t → Ascending Q.pair_le (pairs h t)
  ordered-ascending h t o = o.ascending

  pub separated-all : {C : Type 0} (G : K × C → Type 0) (under : K × C → List (K × ℕ)) (xs : List (K × C)) → Separated G under xs → All G xs
  separated-all G under [] c = tt
  separated-all G under (x ∷ xs) c = (c.0.good, separated-all G under xs c.1)

-- with distinct keys, keys above that separate the leaf pairs say that these ascend
module _ {K : Type 0} (O : Order K) where
  ascending_append : (a : K) (xs ys : List (K × ℕ)) → Ascending (by_key O) xs → Ascending (by_key O) ys → Below O a xs → Above O a ys →
      Ascending (by_key O) (xs ++ ys)
  ascending_append a xs ys p q b v = ascending-join (by_key O) xs ys p q
      (all_map (λ x. Le O x.0 a) (λ x. Above O x.0 ys) (λ x l. above_down O a x.0 l ys v) xs b)

  ascending-level : {C : Type 0} (G : K × C → Type 0) (under : K × C → List (K × ℕ)) → ((x : K × C) → G x → Ascending (by_key O) (under x)) →
      (xs : List (K × C)) → Separated (distinct_keys O) G under xs → Ascending (by_key O) (concat_map under xs)
  ascending-level G under ok [] c = tt
  ascending-level G under ok (x ∷ xs) c =
      ascending_append x.0 (under x) (concat_map under xs) (ok x c.0.good) (ascending-level G under ok xs c.1) c.0.ceiling c.0.apart

  ascending-under : (h : ℕ) (x : Entry K h) → OrderedUnder (distinct_keys O) h x → Ascending (by_key O) (pairs_under h x)
  ascending-under zero x g = (tt, tt)
  ascending-under (suc h) x g = ascending-level (OrderedUnder (distinct_keys O) h) (pairs_under h) (ascending-under h) x.1.1 g.1

  -- Theorem: so a tree of distinct keys is in order if its entries separate its leaf pairs
  pub separated-ordered : (h : ℕ) (t : Tree K h) → SeparatedTree (distinct_keys O) h t → Ordered (distinct_keys O) h t
  separated-ordered h t c = record {
    ascending = ascending-level (OrderedUnder (distinct_keys O) h) (pairs_under h) (ascending-under h) t.1 c;
    separated = c;
  }

-- lookup that does not go on: one level, abstract in what lies below
module _ {K : Type 0} (Q : Keeping K) (strict : Q.goes_on ≡ false) where
  abbrev O : Order K
  O = Q.order

  strictly : (a : K) (xs : List (K × ℕ)) → ClearOf Q a xs → Above O a xs
  strictly a xs v = all_map (λ x. Clear Q a x.0) (λ x. Lt O a x.0) (λ x c. Q.clear_lt strict a x.0 c) xs v

  lookup-level : {C : Type 0} (G : K × C → Type 0) (under : K × C → List (K × ℕ)) (f : K × C → Option ℕ) (k : K) →
      ((x : K × C) → Le O k x.0 → G x → f x ≡ find O k (under x)) →
      (xs : List (K × C)) → Separated Q G under xs → follow f (seek O k xs) ≡ find O k (concat_map under xs)
  lookup-level G under f k ok [] c = refl
  lookup-level G under f k ok (x ∷ xs) c = either (O.le k x.0)
      (λ e. rw e (ok x e c.0.good
      ∙ sym (find-here O k x.0 (under x) (concat_map under xs) e (strictly x.0 (concat_map under xs) c.0.apart))))
      (λ e. rw e (lookup-level G under f k ok xs c.1 ∙ sym (find_past O k x.0 (under x) (concat_map under xs) e c.0.ceiling)))

  lookup_under-find : (k : K) (h : ℕ) (x : Entry K h) → Le O k x.0 → OrderedUnder Q h x → lookup_under O k h x ≡ find O k (pairs_under h x)
  lookup_under-find k zero x e g = rw e
  lookup_under-find k (suc h) x e g =
      lookup-level (OrderedUnder Q h) (pairs_under h) (lookup_under O k h) k (lookup_under-find k h) x.1.1 g.1

  -- Theorem: lookup in an ordered tree is lookup in the ascending list of its pairs
  pub lookup-find : (k : K) (h : ℕ) (t : Tree K h) → Ordered Q h t → lookup O k h t ≡ find O k (pairs h t)
  lookup-find k h t o = lookup-level (OrderedUnder Q h) (pairs_under h) (lookup_under O k h) k (lookup_under-find k h) t.1 o.separated

module _ {K : Type 0} (O : Order K) where
  -- the pages visited
  visited-level : {X : Type 0} (f : X → Option ℕ) (g : X → List ℕ) (n : ℕ) → ((x : X) → IsSome (f x) → length (g x) ≡ n) →
      (o : Option X) → IsSome (follow f o) → length (onward g o) ≡ n
  visited-level f g n ok none s = absurd s
  visited-level f g n ok (some x) s = ok x s

  visited_under-found : (k : K) (h : ℕ) (x : Entry K h) → IsSome (lookup_under O k h x) → length (visited_under O k h x) ≡ h
  visited_under-found k zero x s = refl
  visited_under-found k (suc h) x s =
      ap suc (visited-level (lookup_under O k h) (visited_under O k h) h (visited_under-found k h) (seek O k x.1.1) s)

  -- Theorem: a lookup that finds its key has visited as many pages as there are levels
  pub visited-found : (k : K) (h : ℕ) (t : Tree K h) (r : ℕ) → lookup O k h t ≡ some r → length (visited O k h t) ≡ suc h
  visited-found k h t r e =
      ap suc (visited-level (lookup_under O k h) (visited_under O k h) h (visited_under-found k h) (seek O k t.1) (subst IsSome (sym e) tt))
