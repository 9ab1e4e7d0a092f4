-- Laws: lookup by the keeping, in an ordered tree, gives what the ascending list of its pairs has, the key's first record if keys repeat; and how many pages it
-- visits. Cited by the claim about lists of calls. Assumes nothing.
use Rattle.std.specs.Prelude.{◌≡◌, refl, Bool, true, false, cond, List, [], ◌∷◌, ◌++◌, ℕ, zero, suc, ◌+◌, ◌≤◌, length}
use Rattle.std.proofs.Common.{sym, ap, ◌∙◌, subst, append-nil, append_assoc, arith}
use Rattle.std.proofs.Math.Option.{Option, none, some, IsSome}
use Rattle.basis.specs.Lists.{All, all_left, all_map}
use Rattle.basis.specs.Tests.{either}
use Rattle.tree.specs.Lists.{NonEmpty, concat_map, count_if}
use Rattle.tree.proofs.ListLaws.{concat_map-single}
use Rattle.tree.specs.Order.{Order, Le}
use Rattle.tree.specs.Keeping.{Keeping, Clear, ClearOf}
use Rattle.tree.specs.Pairs.{seek, find}
use Rattle.tree.proofs.PairLaws.{find_past}
use Rattle.tree.specs.Tree.{Page, Entry, Tree, first_among, pairs_under, pairs, lookup, visited}
use Rattle.tree.proofs.Ordered.{Separated, OrderedUnder, Ordered, lookup-find, visited-found}
use Rattle.tree.specs.LookupFirst.{Trip, visit, first_leaf, leaf_after, neighbour, in_leaf, down_first, down_among, first_record_under}
use Rattle.tree.specs.LookupFirst.{down_from_root, first_record, lookup_by, visited_by}

-- what a test picks is c if each of the two is, if it is picked
either_way : {A : Type 0} (t : Bool) (a b c : A) → (t ≡ true → a ≡ c) → (t ≡ false → b ≡ c) → cond t a b ≡ c
either_way true a b c f g = f refl
either_way false a b c f g = g refl

-- the pairs of the leaf to the right, if there is one
abbrev pub beyond : {K : Type 0} → Option (Page K ℕ) → List (K × ℕ)
beyond none = []
beyond (some q) = q.1

-- a list that begins with another, which is not empty
record BeginsWith {A : Type 0} (front xs : List A) : Type 0 where
  non_empty : NonEmpty front
  rest : List A
  whole : xs ≡ front ++ rest

module _ {K : Type 0} (O : Order K) where
  -- all keys are at or above a key
  abbrev From : K → List (K × ℕ) → Type 0
  From k xs = All (λ x. Le O k x.0) xs

  -- of a list of keys at or above the key, only the first counts
  find-front : (k : K) (us l m : List (K × ℕ)) → NonEmpty l → From k l → find O k (us ++ l) ≡ find O k (us ++ (l ++ m))
  find-front k [] [] m s f = absurd s
  find-front k [] (x ∷ xs) m s f = rw f.0
  find-front k (u ∷ us) l m s f = either (O.le k u.0) (λ e. rw e) (λ e. rw e (find-front k us l m s f))

  neighbour-find : (k : K) (o : Option (Page K ℕ)) → From k (beyond o) → (neighbour O k o).0 ≡ find O k (beyond o)
  neighbour-find k none f = refl
  neighbour-find k (some (p, [])) f = refl
  neighbour-find k (some (p, x ∷ xs)) f = rw f.0

  leaf-find : (k : K) (o : Option (Page K ℕ)) → From k (beyond o) → (xs : List (K × ℕ)) →
      (in_leaf O k o (seek O k xs)).0 ≡ find O k (xs ++ beyond o)
  leaf-find k o f [] = neighbour-find k o f
  leaf-find k o f (x ∷ xs) = either (O.le k x.0) (λ e. rw e) (λ e. rw e (leaf-find k o f xs))

module _ {K : Type 0} (Q : Keeping K) (k : K) where
  abbrev O : Order K
  O = Q.order

  from-clear : (a : K) → Le O k a → (xs : List (K × ℕ)) → ClearOf Q a xs → From O k xs
  from-clear a l xs v =
      all_map (λ x. Clear Q a x.0) (λ x. Le O k x.0) (λ x c. O.trans k a x.0 l (Q.clear-le a x.0 c)) xs v

  -- one level, abstract in what lies below
  module _ {C : Type 0} (G : K × C → Type 0) (under : K × C → List (K × ℕ)) (f : Option (Page K ℕ) → K × C → Trip) (leaf : K × C → Page K ℕ)
      (ok : (o : Option (Page K ℕ)) (x : K × C) → G x → From O k (beyond o) → (f o x).0 ≡ find O k (under x ++ beyond o))
      (ok-leaf : (x : K × C) → G x → BeginsWith (leaf x).1 (under x)) where
    -- at an entry at or above the key that has another after it
    before-next : (x y : K × C) (ys : List (K × C)) (l : List (K × ℕ)) → Separated Q G under (x ∷ y ∷ ys) → Le O k x.0 →
        (f (some (leaf y)) x).0 ≡ find O k (concat_map under (x ∷ y ∷ ys) ++ l)
    before-next x y ys l c e =
        let w : BeginsWith (leaf y).1 (under y) = ok-leaf y c.1.0.good in
        let tail : List (K × ℕ) = w.rest ++ concat_map under ys in
        let whole : concat_map under (y ∷ ys) ≡ (leaf y).1 ++ tail =
        ap (λ m. m ++ concat_map under ys) w.whole ∙ append_assoc (leaf y).1 w.rest (concat_map under ys) in
        let clear : ClearOf Q x.0 ((leaf y).1 ++ tail) = rw whole at c.0.apart in
        let from : From O k (leaf y).1 =
        from-clear x.0 e (leaf y).1 (all_left (λ z. Clear Q x.0 z.0) (leaf y).1 tail clear) in
        ok (some (leaf y)) x c.0.good from
        ∙ (find-front O k (under x) (leaf y).1 (tail ++ l) w.non_empty from
        ∙ sym (ap (find O k) (append_assoc (under x) (concat_map under (y ∷ ys)) l
        ∙ ap (λ m. under x ++ m) (ap (λ m. m ++ l) whole ∙ append_assoc (leaf y).1 tail l))))

    down-find : (o : Option (Page K ℕ)) (x : K × C) (xs : List (K × C)) → Separated Q G under (x ∷ xs) → From O k (beyond o) →
        (down_first O k f leaf o x xs).0 ≡ find O k (concat_map under (x ∷ xs) ++ beyond o)
    down-find o x [] c v = rw (append-nil (under x)) (ok o x c.0.good v)
    down-find o x (y ∷ ys) c v = either (O.le k x.0)
        (λ e. rw e (before-next x y ys (beyond o) c e))
        (λ e. rw e (down-find o y ys c.1 v
        ∙ sym (ap (find O k) (append_assoc (under x) (concat_map under (y ∷ ys)) (beyond o))
        ∙ find_past O k x.0 (under x) (concat_map under (y ∷ ys) ++ beyond o) e c.0.ceiling)))

    among_find : (o : Option (Page K ℕ)) (xs : List (K × C)) → NonEmpty xs → Separated Q G under xs → From O k (beyond o) →
        (down_among O k f leaf o xs).0 ≡ find O k (concat_map under xs ++ beyond o)
    among_find o [] s c v = absurd s
    among_find o (x ∷ xs) s c v = down-find o x xs c v

    stop_find : (x : K × C) (xs : List (K × C)) → Separated Q G under (x ∷ xs) → Le O k x.0 →
        (f (leaf_after leaf none xs) x).0 ≡ find O k (concat_map under (x ∷ xs))
    stop_find x [] c e = ok none x c.0.good tt
    stop_find x (y ∷ ys) c e = before-next x y ys [] c e ∙ ap (find O k) (append-nil (concat_map under (x ∷ y ∷ ys)))

    root-find : (xs : List (K × C)) → Separated Q G under xs → (down_from_root O k f leaf xs).0 ≡ find O k (concat_map under xs)
    root-find [] c = refl
    root-find (x ∷ xs) c = either (O.le k x.0)
        (λ e. rw e (stop_find x xs c e))
        (λ e. rw e (root-find xs c.1 ∙ sym (find_past O k x.0 (under x) (concat_map under xs) e c.0.ceiling)))

  -- the first leaf under an entry
  begins_among : {C : Type 0} (G : K × C → Type 0) (under : K × C → List (K × ℕ)) (leaf : K × C → Page K ℕ) →
      ((x : K × C) → G x → BeginsWith (leaf x).1 (under x)) →
      (p : Page K ℕ) (xs : List (K × C)) → NonEmpty xs → Separated Q G under xs → BeginsWith (first_among leaf p xs).1 (concat_map under xs)
  begins_among G under leaf ok p [] s c = absurd s
  begins_among G under leaf ok p (x ∷ xs) s c =
      let w : BeginsWith (leaf x).1 (under x) = ok x c.0.good in
      record {
        non_empty = w.non_empty;
        rest = w.rest ++ concat_map under xs;
        whole = ap (λ l. l ++ concat_map under xs) w.whole ∙ append_assoc (leaf x).1 w.rest (concat_map under xs);
      }

  first_leaf-begins : (h : ℕ) (x : Entry K (suc h)) → OrderedUnder Q (suc h) x → BeginsWith (first_leaf h x).1 (pairs_under (suc h) x)
  first_leaf-begins zero x g =
      record { non_empty = g.0; rest = []; whole = concat_map-single x.1.1 ∙ sym (append-nil x.1.1) }
  first_leaf-begins (suc h) x g =
      begins_among (OrderedUnder Q (suc h)) (pairs_under (suc h)) (first_leaf h) (first_leaf-begins h) (x.1.0, []) x.1.1 g.0 g.1

  first_record_under-find : (h : ℕ) (o : Option (Page K ℕ)) (x : Entry K (suc h)) → OrderedUnder Q (suc h) x → From O k (beyond o) →
      (first_record_under O k h o x).0 ≡ find O k (pairs_under (suc h) x ++ beyond o)
  first_record_under-find zero o x g v = rw (concat_map-single x.1.1) (leaf-find O k o v x.1.1)
  first_record_under-find (suc h) o x g v =
      among_find (OrderedUnder Q (suc h)) (pairs_under (suc h)) (first_record_under O k h) (first_leaf h) (first_record_under-find h)
      (first_leaf-begins h) o x.1.1 g.0 g.1 v

  -- Theorem: lookup of the first record in an ordered tree is lookup in the ascending list of its pairs
  pub first_record-find : (h : ℕ) (t : Tree K h) → Ordered Q h t → (first_record O k h t).0 ≡ find O k (pairs h t)
  first_record-find zero t o = rw (concat_map-single t.1)
  first_record-find (suc h) t o =
      root-find (OrderedUnder Q (suc h)) (pairs_under (suc h)) (first_record_under O k h) (first_leaf h) (first_record_under-find h)
      (first_leaf-begins h) t.1 o.separated

  -- Theorem: and so is lookup by the keeping
  pub lookup_by-find : (h : ℕ) (t : Tree K h) → Ordered Q h t → lookup_by Q k h t ≡ find O k (pairs h t)
  lookup_by-find h t o =
      either_way Q.goes_on (first_record O k h t).0 (lookup O k h t) (find O k (pairs h t))
      (λ e. first_record-find h t o) (λ e. lookup-find Q e k h t o)

-- the pages: at most one more than n, and n or more if the key was found
record Pages (n : ℕ) (g : Trip) : Type 0 where
  most : length g.1 ≤ suc n
  least : IsSome g.0 → n ≤ length g.1

module _ {K : Type 0} (O : Order K) (k : K) where
  nowhere : (n : ℕ) → Pages n (none, [])
  nowhere n = record { most = omega arith; least = λ s. absurd s }

  visit-pages : (n p : ℕ) (g : Trip) → Pages n g → Pages (suc n) (visit p g)
  visit-pages n p g c = record { most = omega (arith, c.most); least = λ s. omega (arith, c.least s) }

  neighbour-pages : (o : Option (Page K ℕ)) → Pages 0 (neighbour O k o)
  neighbour-pages none = nowhere 0
  neighbour-pages (some q) = record { most = omega arith; least = λ s. omega arith }

  leaf-pages : (o : Option (Page K ℕ)) (s : Option (K × ℕ)) → Pages 0 (in_leaf O k o s)
  leaf-pages o none = neighbour-pages o
  leaf-pages o (some x) = record { most = omega arith; least = λ s. omega arith }

  module _ {C : Type 0} (n : ℕ) (f : Option (Page K ℕ) → K × C → Trip) (leaf : K × C → Page K ℕ)
      (ok : (o : Option (Page K ℕ)) (x : K × C) → Pages n (f o x)) where
    down-pages : (o : Option (Page K ℕ)) (x : K × C) (xs : List (K × C)) → Pages n (down_first O k f leaf o x xs)
    down-pages o x [] = ok o x
    down-pages o x (y ∷ ys) = either (O.le k x.0) (λ e. rw e (ok (some (leaf y)) x)) (λ e. rw e (down-pages o y ys))

    among_pages : (o : Option (Page K ℕ)) (xs : List (K × C)) → Pages n (down_among O k f leaf o xs)
    among_pages o [] = nowhere n
    among_pages o (x ∷ xs) = down-pages o x xs

    root-pages : (xs : List (K × C)) → Pages n (down_from_root O k f leaf xs)
    root-pages [] = nowhere n
    root-pages (x ∷ xs) = either (O.le k x.0) (λ e. rw e (ok (leaf_after leaf none xs) x)) (λ e. rw e (root-pages xs))

  first_record_under-pages : (h : ℕ) (o : Option (Page K ℕ)) (x : Entry K (suc h)) → Pages (suc h) (first_record_under O k h o x)
  first_record_under-pages zero o x = visit-pages 0 x.1.0 (in_leaf O k o (seek O k x.1.1)) (leaf-pages o (seek O k x.1.1))
  first_record_under-pages (suc h) o x =
      visit-pages (suc h) x.1.0 (down_among O k (first_record_under O k h) (first_leaf h) o x.1.1)
      (among_pages (suc h) (first_record_under O k h) (first_leaf h) (first_record_under-pages h) o x.1.1)

  -- Theorem: a lookup of the first record visits at most one page more than there are levels
  first_record-pages : (h : ℕ) (t : Tree K h) → Pages (suc h) (first_record O k h t)
  first_record-pages zero t = record { most = omega arith; least = λ s. omega arith }
  first_record-pages (suc h) t =
      visit-pages (suc h) t.0 (down_from_root O k (first_record_under O k h) (first_leaf h) t.1)
      (root-pages (suc h) (first_record_under O k h) (first_leaf h) (first_record_under-pages h) t.1)

  pub first_record-most : (h : ℕ) (t : Tree K h) → length (first_record O k h t).1 ≤ suc (suc h)
  first_record-most h t = (first_record-pages h t).most

  -- Theorem: one that finds its key has visited as many pages as there are levels, or one more
  pub first_record-found : (h : ℕ) (t : Tree K h) (r : ℕ) → (first_record O k h t).0 ≡ some r →
      (suc h ≤ length (first_record O k h t).1) × (length (first_record O k h t).1 ≤ suc (suc h))
  first_record-found h t r e = ((first_record-pages h t).least (subst IsSome (sym e) tt), (first_record-pages h t).most)

-- Theorem: a lookup that finds its key has visited as many pages as there are levels or, only if lookup goes on, one more
pub visited_by-found : {K : Type 0} (Q : Keeping K) (k : K) (h : ℕ) (t : Tree K h) (r : ℕ) → lookup_by Q k h t ≡ some r →
    (suc h ≤ length (visited_by Q k h t)) × (length (visited_by Q k h t) ≤ suc h + count_if Q.goes_on)
visited_by-found Q k h t r = by_test Q.goes_on
  where
    by_test : (b : Bool) → cond b (first_record Q.order k h t).0 (lookup Q.order k h t) ≡ some r →
        (suc h ≤ length (cond b (first_record Q.order k h t).1 (visited Q.order k h t)))
        × (length (cond b (first_record Q.order k h t).1 (visited Q.order k h t)) ≤ suc h + count_if b)
    by_test true e = let f : (suc h ≤ length (first_record Q.order k h t).1) × (length (first_record Q.order k h t).1 ≤ suc (suc h)) =
        first_record-found Q.order k h t r e in (f.0, omega arith)
    by_test false e = let f : length (visited Q.order k h t) ≡ suc h = visited-found Q.order k h t r e in (omega arith, omega arith)
