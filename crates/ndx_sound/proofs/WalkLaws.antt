-- Laws: the walk is good exactly where every page fits, there is room for it, and keys above separate the leaf pairs. Takes the order, the store and the
-- checks of a page as parameters. Assumes nothing.
use Prim.Native.Nat.{ℕ, zero, suc, ◌+◌, ◌<◌}
use Rattle.std.specs.Prelude.{◌≡◌, Bool, false, not, ◌&&◌, eqb, ltb}
use Rattle.std.proofs.Math.Path.{refl, sym, ap}
use Rattle.std.proofs.Common.{◌∙◌, arith, ne_eqb, ltb-true, lt-ltb}
use Rattle.std.proofs.Math.Bool.{true}
use mathlib.Core.List.{List, [], ◌∷◌, ◌++◌, map, append-nil}
use Rattle.std.proofs.Math.Option.{Option, none, some}
use Rattle.std.proofs.lemmas.Bool.{not-true, eqb-false}
use Rattle.basis.specs.Lists.{All, all_append, all_left, all_map}
use Rattle.basis.specs.Tests.{either, both, join, contra}
use Rattle.tree.specs.Lists.{NonEmpty, concat_map}
use Rattle.tree.proofs.ListLaws.{non_empty-left}
use Rattle.tree.specs.Order.{Order, Lt}
use Rattle.tree.proofs.OrderLaws.{le_refl, lt_le, lt_le-trans}
use Rattle.tree.specs.Pairs.{last_key, by_key, Below, Above, Ascending}
use Rattle.tree.proofs.PairLaws.{below_up, above_down}
use Rattle.tree.proofs.KeepingOf.{distinct_keys}
use Rattle.tree.proofs.KeepingLaws.{ascending-last}
use Rattle.tree.specs.Tree.{pairs_under, pairs, pages_under, pages}
use Rattle.tree.proofs.Ordered.{Separated, OrderedUnder, separated-ordered}
use Rattle.tree.proofs.Insertion.Ordered.{separated-non_empty}
use Rattle.tree.specs.Store.{Store, read_entry, read_tree}
use Rattle.tree.proofs.Levels.{join_map}
use Rattle.ndx_sound.specs.Walk.{Status, tested, if_good, over, is_after, at_most, item, items, passed, under, enter, walk}
use Rattle.ndx_sound.specs.CountLaws.{count_all, Room, room_append, room-left, room-right, count_append}

picks : {A : Type 0} (t : Bool) (x y : A) → t ≡ true → elim t [ true ↦ x | false ↦ y ] ≡ x
picks true x y e = refl
picks false x y e = contra e refl

skips : {A : Type 0} (t : Bool) (x y : A) → t ≡ false → elim t [ true ↦ x | false ↦ y ] ≡ y
skips true x y e = contra refl e
skips false x y e = refl

-- steps that are good
module _ {K : Type 0} where
  good_is : (s : Status K) → s.good ≡ true → s ≡ record { good = true; last = s.last; entered = s.entered }
  good_is s e = ap (λ (g : Bool). record { good = g; last = s.last; entered = s.entered }) e

  tested-good : (t : Bool) (next s : Status K) → (tested t next s).good ≡ true → (s.good ≡ true) × (t ≡ true)
  tested-good t next s h = either (s.good && t) (λ e. both _ _ e) (λ e. let f : false ≡ true = rw e at h in contra f refl)

  tested_is : (t : Bool) (next s : Status K) → s.good ≡ true → t ≡ true → tested t next s ≡ next
  tested_is t next s g e = rw (g, e)

  -- on with g
  module _ (g : Status K → Status K) where
    if-good : (s : Status K) → (if_good g s).good ≡ true → (s.good ≡ true) × ((g s).good ≡ true)
    unfolding if_good
    if-good s h = either s.good
        (λ e. (e, rw (e, if_good) at h))
        (λ e. let f : s.good ≡ true = rw (e, if_good) at h in contra f e)

    pub if_is : (s : Status K) → s.good ≡ true → if_good g s ≡ g s
    unfolding if_good
    if_is s e = picks s.good (g s) s e

    pub if_not : (s : Status K) → s.good ≡ false → if_good g s ≡ s
    unfolding if_good
    if_not s e = skips s.good (g s) s e

  pub if_same : (f g : Status K → Status K) → ((t : Status K) → f t ≡ g t) → (s : Status K) → if_good f s ≡ if_good g s
  if_same f g e s = either s.good
      (λ t. if_is f s t ∙ e s ∙ sym (if_is g s t))
      (λ t. if_not f s t ∙ sym (if_not g s t))

  if_self : (g : Status K → Status K) → ((t : Status K) → g t ≡ t) → (s : Status K) → if_good g s ≡ s
  if_self g e s = either s.good (λ t. if_is g s t ∙ e s) (λ t. if_not g s t)

-- the last key met after some pairs
abbrev pub last_of : {K : Type 0} → Option K → List (K × ℕ) → Option K
last_of o [] = o
last_of o (e ∷ es) = last_of (some e.0) es

last_of_append : {K : Type 0} (o q : Option K) (xs ys : List (K × ℕ)) → NonEmpty ys → last_of q ys ≡ last_of o (xs ++ ys)
last_of_append o q [] [] n = absurd n
last_of_append o q [] (y ∷ ys) n = refl
last_of_append o q (x ∷ xs) ys n = last_of_append (some x.0) q xs ys n

last_of_key : {K : Type 0} (o : Option K) (a : K) (xs : List (K × ℕ)) → NonEmpty xs → last_of o xs ≡ some (last_key a xs)
last_of_key o a [] n = absurd n
last_of_key o a (x ∷ []) n = refl
last_of_key o a (x ∷ y ∷ ys) n = last_of_key (some x.0) x.0 (y ∷ ys) tt

module _ {K : Type 0} (O : Order K) (most : ℕ) where
  -- all keys are above the last one met, if there is one
  abbrev IsAfter : Option K → K → Type 0
  IsAfter none a = Unit {0}
  IsAfter (some l) a = Lt O l a

  abbrev pub After : Option K → List (K × ℕ) → Type 0
  After o xs = All (λ x. IsAfter o x.0) xs

  is-after : (o : Option K) (a : K) → is_after O o a ≡ true → IsAfter o a
  is-after none a e = tt
  is-after (some l) a e = not-true _ e

  after_is : (o : Option K) (a : K) → IsAfter o a → is_after O o a ≡ true
  after_is none a e = refl
  after_is (some l) a e = rw e

  last-below : (o : Option K) (a : K) (xs : List (K × ℕ)) → NonEmpty xs → Ascending (by_key O) xs → at_most O (last_of o xs) a ≡ true → Below O a xs
  last-below o a xs n c e =
      below_up O (last_key a xs) a (rw (last_of_key o a xs n) at e) xs (ascending-last (distinct_keys O) a xs c)

  below_last : (o : Option K) (a : K) (xs : List (K × ℕ)) → NonEmpty xs → Below O a xs → at_most O (last_of o xs) a ≡ true
  below_last o a [] n b = absurd n
  below_last o a (x ∷ []) n b = b.0
  below_last o a (x ∷ y ∷ ys) n b = below_last (some x.0) a (y ∷ ys) tt b.1

  after-over : (o : Option K) (a : K) (xs ys : List (K × ℕ)) → NonEmpty xs → After o xs → Below O a xs → Above O a ys → After o ys
  after-over none a xs ys n f b v = all_map (λ y. Lt O a y.0) (λ y. IsAfter none y.0) (λ y l. tt) ys v
  after-over (some l) a [] ys n f b v = absurd n
  after-over (some l) a (x ∷ xs) ys n f b v = above_down O a l (lt_le O l a (lt_le-trans O l x.0 a f.0 b.0)) ys v

  -- a walk g over the pairs ps and the pages qs is good exactly from where C holds, the pairs come after the last key, and there is room for the pages
  pub record Holds (C : Type 0) (ps : List (K × ℕ)) (qs : List ℕ) (s : Status K) : Type 0 where
    pub start : s.good ≡ true
    pub meets : C
    pub after : After s.last ps
    pub room : Room most s.entered qs

  abbrev pub done : List (K × ℕ) → List ℕ → Status K → Status K
  done ps qs s = record { good = true; last = last_of s.last ps; entered = count_all s.entered qs }

  pub record Walks (C : Type 0) (ps : List (K × ℕ)) (qs : List ℕ) (g : Status K → Status K) : Type 0 where
    pub accepts : (s : Status K) → (g s).good ≡ true → Holds C ps qs s
    pub reaches : (s : Status K) → Holds C ps qs s → g s ≡ done ps qs s

  -- one pair of a leaf
  item-walks : (e : K × ℕ) → Walks (0 < e.1) (e ∷ []) [] (item O e)
  item-walks e = record {
    accepts = λ s h.
        let t = tested-good (is_after O s.last e.0 && not (eqb e.1 0)) (record { good = true; last = some e.0; entered = s.entered }) s h in
        let u = both (is_after O s.last e.0) _ t.1 in
        record {
          start = t.0;
          meets = omega (arith, eqb-false e.1 0 (not-true _ u.1));
          after = (is-after s.last e.0 u.0, tt);
          room = tt;
        };
    reaches = λ s h.
        let l = h.meets in
        tested_is (is_after O s.last e.0 && not (eqb e.1 0)) (record { good = true; last = some e.0; entered = s.entered }) s h.start
        (join _ _ (after_is s.last e.0 h.after.0) (rw (ne_eqb e.1 0 (omega arith))));
  }

  -- the children of a page, of which each walk f e is over the pairs `below e` and the pages qs e
  module _ (G : K × ℕ → Type 0) (below : K × ℕ → List (K × ℕ)) (qs : K × ℕ → List ℕ) (f : K × ℕ → Status K → Status K)
      (each : (e : K × ℕ) → Walks (G e) (below e) (qs e) (f e)) (has : (e : K × ℕ) → G e → NonEmpty (below e))
      (ascends : (e : K × ℕ) → G e → Ascending (by_key O) (below e)) where
    abbrev children : List (K × ℕ) → Status K → Status K
    children es s = over (under O) (passed O) f es s

    abbrev Sep : List (K × ℕ) → Type 0
    Sep es = Separated (distinct_keys O) G below es

    -- after a child and the key above it
    abbrev next : K × ℕ → Status K → Status K
    next e s = record { good = true; last = some e.0; entered = count_all s.entered (qs e) }

    child-below : (e : K × ℕ) (s : Status K) → (f e s).good ≡ true → at_most O (f e s).last e.0 ≡ true
        → Holds (G e) (below e) (qs e) s × Below O e.0 (below e)
    child-below e s g t =
        let h = (each e).accepts s g in
        let d = (each e).reaches s h in
        (h, last-below s.last e.0 (below e) (has e h.meets) (ascends e h.meets) (rw d at t))

    child-next : (e : K × ℕ) (s : Status K) → Holds (G e) (below e) (qs e) s → Below O e.0 (below e) → passed O (f e s) e.0 ≡ next e s
    child-next e s h b =
        let d = (each e).reaches s h in
        rw (d, below_last s.last e.0 (below e) (has e h.meets) b)

    children_accept : (es : List (K × ℕ)) (s : Status K) → (children es s).good ≡ true → Holds (Sep es) (concat_map below es) (concat_map qs es) s
    unfolding over
    children_accept [] s g = record { start = g; meets = tt; after = tt; room = tt }
    children_accept (e ∷ []) s g =
        let t = tested-good (at_most O (f e s).last e.0) (f e s) (f e s) g in
        let c = child-below e s t.0 t.1 in
        let h = c.0 in
        record {
          start = h.start;
          meets = (record { good = h.meets; non_empty = has e h.meets; ceiling = c.1; apart = tt }, tt);
          after = rw (append-nil (below e)) h.after;
          room = rw (append-nil (qs e)) h.room;
        }
    children_accept (e ∷ d ∷ es) s g =
        let u = if-good (children (d ∷ es)) (passed O (f e s) e.0) g in
        let t = tested-good (at_most O (f e s).last e.0) (record { good = true; last = some e.0; entered = (f e s).entered }) (f e s) u.0 in
        let c = child-below e s t.0 t.1 in
        let h = c.0 in
        let r = children_accept (d ∷ es) (next e s) (rw (child-next e s h c.1) at u.1) in
        record {
          start = h.start;
          meets = (record { good = h.meets; non_empty = has e h.meets; ceiling = c.1; apart = r.after }, r.meets);
          after = all_append _ (below e) (concat_map below (d ∷ es)) h.after
              (after-over s.last e.0 (below e) (concat_map below (d ∷ es)) (has e h.meets) h.after c.1 r.after);
          room = room_append most s.entered (qs e) (concat_map qs (d ∷ es)) h.room r.room;
        }

    children_reach : (es : List (K × ℕ)) (s : Status K) → Holds (Sep es) (concat_map below es) (concat_map qs es) s
        → children es s ≡ done (concat_map below es) (concat_map qs es) s
    unfolding over
    children_reach [] s h = good_is s h.start
    children_reach (e ∷ []) s h =
        let c = h.meets.0 in
        let k : Holds (G e) (below e) (qs e) s = record {
          start = h.start;
          meets = c.good;
          after = rw (append-nil (below e)) at h.after;
          room = rw
              (append-nil (qs e)) at h.room;
        } in
        let d = (each e).reaches s k in
        rw (d, below_last s.last e.0 (below e) c.non_empty c.ceiling, append-nil (below e), append-nil (qs e))
    children_reach (e ∷ d ∷ es) s h =
        let c = h.meets.0 in
        let rest = concat_map below (d ∷ es) in
        let more = concat_map qs (d ∷ es) in
        let k : Holds (G e) (below e) (qs e) s = record {
          start = h.start;
          meets = c.good;
          after = all_left _ (below e) rest h.after;
          room = room-left most s.entered (qs e) more h.room;
        } in
        let n = child-next e s k c.ceiling in
        let r = children_reach (d ∷ es) (next e s) (record {
          start = refl;
          meets = h.meets.1;
          after = c.apart;
          room = room-right most s.entered
              (qs e) more h.room;
        }) in
        let filled = non_empty-left (below d) (concat_map below es) h.meets.1.0.non_empty in
        ap (if_good (children (d ∷ es))) n ∙ if_is (children (d ∷ es)) (next e s) refl ∙ r
        ∙ rw (last_of_append s.last (some e.0) (below e) rest filled, count_append s.entered (qs e) more)

    children-walks : (es : List (K × ℕ)) → Walks (Sep es) (concat_map below es) (concat_map qs es) (children es)
    children-walks es = record { accepts = children_accept es; reaches = children_reach es }

  -- a leaf's pairs are walked like children: the key above each is its own
  passed-item : (e : K × ℕ) (s : Status K) → passed O (item O e s) e.0 ≡ item O e s
  passed-item e s = either (s.good && (is_after O s.last e.0 && not (eqb e.1 0))) (λ t. rw (t, le_refl O e.0)) (λ t. rw t)

  under-item : (e : K × ℕ) (s : Status K) → under O (item O e s) e.0 ≡ item O e s
  under-item e s = either (s.good && (is_after O s.last e.0 && not (eqb e.1 0))) (λ t. rw (t, le_refl O e.0)) (λ t. rw t)

  items-over : (es : List (K × ℕ)) (s : Status K) → items O es s ≡ over (under O) (passed O) (item O) es s
  unfolding items over
  items-over [] s = refl
  items-over (e ∷ []) s = if_self (λ t. t) (λ t. refl) (item O e s) ∙ sym (under-item e s)
  items-over (e ∷ d ∷ es) s =
      if_same (items O (d ∷ es)) (over (under O) (passed O) (item O) (d ∷ es)) (items-over (d ∷ es)) (item O e s)
      ∙ ap (if_good (over (under O) (passed O) (item O) (d ∷ es))) (sym (passed-item e s))

  -- another walk that does the same
  same_walks : {C : Type 0} {ps : List (K × ℕ)} {qs : List ℕ} (f g : Status K → Status K) → ((s : Status K) → g s ≡ f s) → Walks C ps qs f → Walks C ps qs g
  same_walks f g e w = record {
    accepts = λ s h. w.accepts s (rw (e s) at h);
    reaches = λ s h. e s ∙ w.reaches s h;
  }

  module _ (S : Store K) (fits : Bool → ℕ → ℕ → Bool) where
    -- the leaf pairs and the pages under an entry of the store
    abbrev below : ℕ → K × ℕ → List (K × ℕ)
    below h e = pairs_under h (read_entry S h e)

    abbrev beneath : ℕ → K × ℕ → List ℕ
    beneath h e = pages_under h (read_entry S h e)

    -- what the walk asks: of an entry, and of a page with h levels under it
    abbrev pub Good : (h : ℕ) → K × ℕ → Type 0
    Good zero e = 0 < e.1
    Good (suc h) e = (fits false h e.1 ≡ true) × Separated (distinct_keys O) (Good h) (λ d. pairs_under h (read_entry S h d)) (S e.1)

    abbrev pub Accept : Bool → ℕ → ℕ → Type 0
    Accept lone h p = (fits lone h p ≡ true) × Separated (distinct_keys O) (Good h) (λ d. pairs_under h (read_entry S h d)) (S p)

    -- entering a page
    enter-walks : (lone : Bool) (h p : ℕ) (C : Type 0) (ps : List (K × ℕ)) (qs : List ℕ) (g : Status K → Status K) → Walks C ps qs g
        → Walks ((fits lone h p ≡ true) × C) ps (p ∷ qs) (λ s. if_good g (enter O most S fits lone h p s))
    enter-walks lone h p C ps qs g w = record {
      accepts = λ s k.
          let next : Status K = record { good = true; last = s.last; entered = s.entered + 1 } in
          let u = if-good g (enter O most S fits lone h p s) k in
          let t = tested-good (fits lone h p && ltb s.entered most) next s u.0 in
          let v = both (fits lone h p) _ t.1 in
          let e = tested_is (fits lone h p && ltb s.entered most) next s t.0 t.1 in
          let r = w.accepts next (rw e at u.1) in
          record { start = t.0; meets = (v.0, r.meets); after = r.after; room = (ltb-true _ _ v.1, r.room) };
      reaches = λ s k.
          let next : Status K = record { good = true; last = s.last; entered = s.entered + 1 } in
          let e = tested_is (fits lone h p && ltb s.entered most) next s k.start (join _ _ k.meets.0 (lt-ltb _ _ k.room.0)) in
          ap (if_good g) e ∙ if_is g next refl ∙ w.reaches next (record { start = refl; meets = k.meets.1; after = k.after; room = k.room.1 });
    }

    -- entries read as the tree's
    pub separated-read : (h : ℕ) → ((e : K × ℕ) → Good h e → OrderedUnder (distinct_keys O) h (read_entry S h e)) → (es : List (K × ℕ))
        → Separated (distinct_keys O) (Good h) (λ d. pairs_under h (read_entry S h d)) es
        → Separated (distinct_keys O) (OrderedUnder (distinct_keys O) h) (pairs_under h) (map (read_entry S h) es)
    separated-read h ok [] c = tt
    separated-read h ok (e ∷ es) c = (
      record {
        good = ok e c.0.good;
        non_empty = c.0.non_empty;
        ceiling = c.0.ceiling;
        apart = rw (join_map S (pairs_under h) (read_entry S h) es) c.0.apart;
      },
      separated-read h ok es c.1,
    )

    map_non_empty : {A B : Type 0} (v : A → B) (xs : List A) → NonEmpty xs → NonEmpty (map v xs)
    map_non_empty v [] n = n
    map_non_empty v (x ∷ xs) n = tt

    module _ (filled : (h p : ℕ) → fits false h p ≡ true → NonEmpty (S p)) where
      pub good-ordered : (h : ℕ) (e : K × ℕ) → Good h e → OrderedUnder (distinct_keys O) h (read_entry S h e)
      good-ordered zero e g = tt
      good-ordered (suc h) e g =
          (map_non_empty (read_entry S h) (S e.1) (filled h e.1 g.0), separated-read h (good-ordered h) (S e.1) g.1)

      good-has : (h : ℕ) (e : K × ℕ) → Good h e → NonEmpty (below h e)
      good-has zero e g = tt
      good-has (suc h) e g =
          rw (join_map S (pairs_under h) (read_entry S h) (S e.1))
          (separated-non_empty (distinct_keys O) (Good h) (λ d. pairs_under h (read_entry S h d)) (S e.1) (filled h e.1 g.0) g.1)

      good-ascends : (h : ℕ) (e : K × ℕ) → Good h e → Ascending (by_key O) (below h e)
      good-ascends zero e g = (tt, tt)
      good-ascends (suc h) e g = (separated-ordered O h (read_tree S h e.1) (good-ordered (suc h) e g).1).ascending

      -- the entries of a page with h levels under it, and all of them
      abbrev inner : ℕ → ℕ → Status K → Status K
      inner zero p s = items O (S p) s
      inner (suc h) p s = over (under O) (passed O) (λ e. walk O most S fits false h e.1) (S p) s

      walk_is : (lone : Bool) (h p : ℕ) (s : Status K) → walk O most S fits lone h p s ≡ if_good (inner h p) (enter O most S fits lone h p s)
      unfolding walk
      walk_is lone zero p s = refl
      walk_is lone (suc h) p s = refl

      abbrev EntriesWalk : ℕ → ℕ → Type 0
      EntriesWalk h p = Walks (Separated (distinct_keys O) (Good h) (λ d. pairs_under h (read_entry S h d)) (S p))
          (concat_map (λ d. pairs_under h (read_entry S h d)) (S p)) (concat_map (λ d. pages_under h (read_entry S h d)) (S p)) (inner h p)

      page-from : (lone : Bool) (h p : ℕ) → EntriesWalk h p → Walks (Accept lone h p) (pairs h (read_tree S h p)) (pages h (read_tree S h p))
          (walk O most S fits lone h p)
      page-from lone h p w =
          rw (join_map S (pairs_under h) (read_entry S h) (S p), join_map S (pages_under h) (read_entry S h) (S p))
          (same_walks (λ s. if_good (inner h p) (enter O most S fits lone h p s)) (walk O most S fits lone h p) (walk_is lone h p)
          (enter-walks lone h p (Separated (distinct_keys O) (Good h) (λ d. pairs_under h (read_entry S h d)) (S p))
          (concat_map (λ d. pairs_under h (read_entry S h d)) (S p)) (concat_map (λ d. pages_under h (read_entry S h d)) (S p)) (inner h p) w))

      -- Theorem: a walk of page p with h levels under it is good exactly where all of it is accepted
      pub page-walks : (h : ℕ) (lone : Bool) (p : ℕ) → Walks (Accept lone h p) (pairs h (read_tree S h p)) (pages h (read_tree S h p))
          (walk O most S fits lone h p)
      page-walks zero lone p = page-from lone zero p
          (same_walks (over (under O) (passed O) (item O) (S p)) (inner zero p) (items-over (S p))
          (children-walks (Good zero) (below zero) (beneath zero) (item O) item-walks (good-has zero) (good-ascends zero) (S p)))
      page-walks (suc h) lone p = page-from lone (suc h) p
          (children-walks (Good (suc h)) (below (suc h)) (beneath (suc h)) (λ e. walk O most S fits false h e.1) (λ e. page-walks h false e.1)
          (good-has (suc h)) (good-ascends (suc h)) (S p))
