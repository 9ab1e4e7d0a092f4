-- Laws: lookup, insertion and removal in ascending lists of pairs, and their first and last keys. Cited by the laws of ordered trees. Assumes nothing.
use Rattle.std.specs.Prelude.{◌≡◌, refl, Bool, true, false, ◌&&◌, List, [], ◌∷◌, ◌++◌, map}
use Rattle.std.proofs.Common.{ap}
use Rattle.std.proofs.Math.Option.{none}
use Rattle.basis.specs.Lists.{All, all_append, all_left, all_right, all_map}
use Rattle.basis.specs.Tests.{either, contra}
use Rattle.tree.specs.Lists.{NonEmpty, concat_map}
use Rattle.tree.specs.Order.{Order, Le, Lt}
use Rattle.tree.proofs.OrderLaws.{lt_le, le_lt_trans}
use Rattle.tree.specs.Pairs.{follow, first_key, last_key, seek, if_equal, find, get, Below, Above}
use Rattle.tree.specs.Pairs.{has, present, insert_pair, remove_pair, Ascending, AllAbove, AllBelow}

-- the last key
pub last_key_default : {K C : Type 0} (a b : K) (xs : List (K × C)) → NonEmpty xs → last_key a xs ≡ last_key b xs
last_key_default a b [] s = absurd s
last_key_default a b (x ∷ xs) s = refl

pub last_key_append : {K C : Type 0} (a : K) (xs ys : List (K × C)) → last_key a (xs ++ ys) ≡ last_key (last_key a xs) ys
last_key_append a [] ys = refl
last_key_append a (x ∷ xs) ys = last_key_append x.0 xs ys

pub last_key-all : {K C : Type 0} (P : K → Type 0) (a : K) (xs : List (K × C)) → P a → All (λ x. P x.0) xs → P (last_key a xs)
last_key-all P a [] p q = p
last_key-all P a (x ∷ xs) p q = last_key-all P x.0 xs q.0 q.1

pub first_key_append : {K C : Type 0} (a : K) (xs ys : List (K × C)) → NonEmpty xs → first_key a (xs ++ ys) ≡ first_key a xs
first_key_append a [] ys s = absurd s
first_key_append a (x ∷ xs) ys s = refl

module _ {K : Type 0} (O : Order K) where
  -- lookup passes over a list that is all below the key, and does not reach a list that is all above a key at or above the key
  seek_past : {C : Type 0} (k a : K) (xs ys : List (K × C)) → Lt O a k → Below O a xs → seek O k (xs ++ ys) ≡ seek O k ys
  seek_past k a [] ys h b = refl
  seek_past k a (x ∷ xs) ys h b =
      let e : Lt O x.0 k = le_lt_trans O x.0 a k b.0 h in
      rw e (seek_past k a xs ys h b.1)

  pub find_past : {C : Type 0} (k a : K) (xs ys : List (K × C)) → Lt O a k → Below O a xs → find O k (xs ++ ys) ≡ find O k ys
  find_past k a xs ys h b = ap (follow (if_equal O k)) (seek_past k a xs ys h b)

  find_none : {C : Type 0} (k a : K) (ys : List (K × C)) → Le O k a → Above O a ys → find O k ys ≡ none
  find_none k a [] h v = refl
  find_none k a (y ∷ ys) h v =
      let f : Lt O k y.0 = le_lt_trans O k a y.0 h v.0 in
      let e : Le O k y.0 = lt_le O k y.0 f in
      rw (e, f)

  pub find-here : {C : Type 0} (k a : K) (xs ys : List (K × C)) → Le O k a → Above O a ys → find O k (xs ++ ys) ≡ find O k xs
  find-here k a [] ys h v = find_none k a ys h v
  find-here k a (x ∷ xs) ys h v = either (O.le k x.0) (λ e. rw e) (λ e. rw e (find-here k a xs ys h v))

  -- a list of keys above a key does not have it
  pub get-above : {C : Type 0} (k : K) (ys : List (K × C)) → Above O k ys → get O k ys ≡ none
  get-above k [] v = refl
  get-above k (y ∷ ys) v = rw (lt_le O k y.0 v.0, v.0) (get-above k ys v.1)

  -- bounds: of other keys, and of one another
  pub below_up : {C : Type 0} (a b : K) → Le O a b → (xs : List (K × C)) → Below O a xs → Below O b xs
  below_up a b h xs u = all_map (λ x. Le O x.0 a) (λ x. Le O x.0 b) (λ x l. O.trans x.0 a b l h) xs u

  pub above_down : {C : Type 0} (a b : K) → Le O b a → (xs : List (K × C)) → Above O a xs → Above O b xs
  above_down a b h xs v = all_map (λ x. Lt O a x.0) (λ x. Lt O b x.0) (λ x l. le_lt_trans O b a x.0 h l) xs v

-- lists of whole entries
module _ {A : Type 0} (le : A → A → Bool) where
  -- insertion of an entry passes over entries below it, and does not reach entries above it
  pub insert_pair_past : (e : A) (xs ys : List A) → AllBelow le e xs → insert_pair le e (xs ++ ys) ≡ xs ++ insert_pair le e ys
  insert_pair_past e [] ys b = refl
  insert_pair_past e (x ∷ xs) ys b = rw b.0 (ap (λ l. x ∷ l) (insert_pair_past e xs ys b.1))

  insert_pair-first : (e : A) (ys : List A) → AllAbove le e ys → insert_pair le e ys ≡ e ∷ ys
  insert_pair-first e [] v = refl
  insert_pair-first e (y ∷ ys) v = rw v.0.0

  pub insert_pair-here : (e : A) (xs ys : List A) → AllAbove le e ys → insert_pair le e (xs ++ ys) ≡ insert_pair le e xs ++ ys
  insert_pair-here e [] ys v = insert_pair-first e ys v
  insert_pair-here e (x ∷ xs) ys v = either (le e x) (λ l. rw l) (λ l. rw l (ap (λ z. x ∷ z) (insert_pair-here e xs ys v)))

  -- what holds of the new entry and of all the old ones holds of all
  pub insert_pair-all : (P : A → Type 0) (e : A) (xs : List A) → P e → All P xs → All P (insert_pair le e xs)
  insert_pair-all P e [] n o = (n, tt)
  insert_pair-all P e (x ∷ xs) n o = either (le e x) (λ l. rw l (n, o)) (λ l. rw l (o.0, insert_pair-all P e xs n o.1))

  pub insert_pair-non_empty : (e : A) (xs : List A) → NonEmpty (insert_pair le e xs)
  insert_pair-non_empty e [] = tt
  insert_pair-non_empty e (x ∷ xs) = either (le e x) (λ l. rw l tt) (λ l. rw l tt)

  -- whether an ascending list has an entry: entries below it are passed over, and entries above it are not reached
  pub present_past : (e : A) (xs ys : List A) → AllBelow le e xs → present le e (xs ++ ys) ≡ present le e ys
  present_past e [] ys b = refl
  present_past e (x ∷ xs) ys b = rw b.0 (present_past e xs ys b.1)

  present-none : (e : A) (ys : List A) → AllAbove le e ys → present le e ys ≡ false
  present-none e [] v = refl
  present-none e (y ∷ ys) v = rw (v.0.0, v.0.1)

  pub present-here : (e : A) (xs ys : List A) → AllAbove le e ys → present le e (xs ++ ys) ≡ present le e xs
  present-here e [] ys v = present-none e ys v
  present-here e (x ∷ xs) ys v = either (le e x) (λ l. rw l) (λ l. rw l (present-here e xs ys v))

  -- removal of an entry passes over entries below it, and does not reach entries above it
  pub remove_pair_past : (e : A) (xs ys : List A) → AllBelow le e xs → remove_pair le e (xs ++ ys) ≡ xs ++ remove_pair le e ys
  remove_pair_past e [] ys b = refl
  remove_pair_past e (x ∷ xs) ys b = rw b.0 (ap (λ l. x ∷ l) (remove_pair_past e xs ys b.1))

  remove_pair-none : (e : A) (ys : List A) → AllAbove le e ys → remove_pair le e ys ≡ ys
  remove_pair-none e [] v = refl
  remove_pair-none e (y ∷ ys) v = rw (v.0.0, v.0.1) (ap (λ l. y ∷ l) (remove_pair-none e ys v.1))

  pub remove_pair-here : (e : A) (xs ys : List A) → AllAbove le e ys → remove_pair le e (xs ++ ys) ≡ remove_pair le e xs ++ ys
  remove_pair-here e [] ys v = remove_pair-none e ys v
  remove_pair-here e (x ∷ xs) ys v = either (le e x && le x e) (λ l. rw l) (λ l. rw l (ap (λ z. x ∷ z) (remove_pair-here e xs ys v)))

  -- what holds of all entries holds of those that a removal leaves
  pub remove_pair-all : (P : A → Type 0) (e : A) (xs : List A) → All P xs → All P (remove_pair le e xs)
  remove_pair-all P e [] p = tt
  remove_pair-all P e (x ∷ xs) p = either (le e x && le x e) (λ u. rw u p.1) (λ u. rw u (p.0, remove_pair-all P e xs p.1))

  -- ascending lists, joined and taken apart
  pub ascending-join : (xs ys : List A) → Ascending le xs → Ascending le ys → All (λ x. All (λ y. le y x ≡ false) ys) xs → Ascending le (xs ++ ys)
  ascending-join [] ys p q c = q
  ascending-join (x ∷ xs) ys p q c = (all_append (λ y. le y x ≡ false) xs ys p.0 c.0, ascending-join xs ys p.1 q c.1)

  pub ascending-left : (xs ys : List A) → Ascending le (xs ++ ys) → Ascending le xs
  ascending-left [] ys a = tt
  ascending-left (x ∷ xs) ys a = (all_left (λ y. le y x ≡ false) xs ys a.0, ascending-left xs ys a.1)

  pub ascending-right : (xs ys : List A) → Ascending le (xs ++ ys) → Ascending le ys
  ascending-right [] ys a = a
  ascending-right (x ∷ xs) ys a = ascending-right xs ys a.1

  pub ascending_cross : (xs ys : List A) → Ascending le (xs ++ ys) → All (λ x. All (λ y. le y x ≡ false) ys) xs
  ascending_cross [] ys a = tt
  ascending_cross (x ∷ xs) ys a = (all_right (λ y. le y x ≡ false) xs ys a.0, ascending_cross xs ys a.1)

  -- all of the first part are below the first of the second
  pub ascending-below : (xs : List A) (y : A) (ys : List A) → Ascending le (xs ++ y ∷ ys) → AllBelow le y xs
  ascending-below [] y ys a = tt
  ascending-below (x ∷ xs) y ys a = ((all_right (λ z. le z x ≡ false) xs (y ∷ ys) a.0).0, ascending-below xs y ys a.1)

  -- the lists under each of the entries of a list that ascends
  pub ascending-parts : {C : Type 0} (under : C → List A) (xs : List C) → Ascending le (concat_map under xs) → All (λ x. Ascending le (under x)) xs
  ascending-parts under [] a = tt
  ascending-parts under (x ∷ xs) a =
      (ascending-left (under x) (concat_map under xs) a, ascending-parts under xs (ascending-right (under x) (concat_map under xs) a))

  -- an entry that is none of a list's
  abbrev pub Absent : A → List A → Type 0
  Absent e xs = All (λ x. le e x ≡ true → le x e ≡ false) xs

  pub has-absent : (e : A) (xs : List A) → has le e xs ≡ false → Absent e xs
  has-absent e [] h = tt
  has-absent e (x ∷ xs) h = either (le e x && le x e)
      (λ s. contra refl (rw s at h))
      (λ s. ((λ l. rw l at s), has-absent e xs (rw s at h)))

-- entries in another form, on which the tests say the same, are inserted alike
pub insert_pair_map : {A B : Type 0} (f : A → B) (le : A → A → Bool) (le' : B → B → Bool) → ((x y : A) → le' (f x) (f y) ≡ le x y) →
    (e : A) (xs : List A) → map f (insert_pair le e xs) ≡ insert_pair le' (f e) (map f xs)
insert_pair_map f le le' ok e [] = refl
insert_pair_map f le le' ok e (x ∷ xs) = rw (ok e x) (either (le e x) (λ u. rw u) (λ u. rw u (ap (λ l. f x ∷ l) (insert_pair_map f le le' ok e xs))))
