-- Laws: the audit's test of the keys over the children of a page, which goes down to the last leaf key under a child and to the first under the next one, says
-- that these keys are ceilings, and that a page it calls exact is so; the test that takes one step under exact children says the same. Cited by the laws of
-- keys above pages. Assumes nothing.
use Prim.Native.Nat.{ℕ, zero, suc}
use Rattle.std.specs.Prelude.{◌≡◌, Bool, cond, not, ◌↔◌}
use Rattle.std.proofs.Math.Path.{refl, sym}
use Rattle.std.proofs.Common.{ap, ◌∙◌, subst}
use mathlib.Core.List.{List, [], ◌∷◌, ◌++◌, append-nil}
use Rattle.std.proofs.Math.Bool.{true, false}
use Rattle.std.proofs.Math.Option.{Option, none, some}
use Rattle.std.proofs.lemmas.List.{length-map}
use Rattle.std.proofs.lemmas.Bool.{not-true}
use Rattle.basis.specs.Lists.{All, all_left, all_map}
use Rattle.basis.specs.Tests.{either, contra, both, join}
use Rattle.tree.specs.Lists.{NonEmpty, concat_map}
use Rattle.tree.proofs.ListLaws.{concat_map-single, non_empty-length, all_unit}
use Rattle.tree.specs.Order.{Le, Lt}
use Rattle.tree.proofs.OrderLaws.{lt_le}
use Rattle.tree.specs.Pairs.{first_key, last_key, Below, Ascending}
use Rattle.tree.proofs.PairLaws.{last_key-all, last_key_append, first_key_append, below_up, ascending-left, ascending-right}
use Rattle.tree.proofs.KeepingLaws.{ascending_across, ascending-last}
use Rattle.tree.specs.Tree.{pairs_under, pairs}
use Rattle.tree.specs.Clauses.{SizedUnder, AtOrAbove, BelowNext, head_or}
use Rattle.tree.specs.Keeping.{Clear, pair_order}
use Rattle.tree.proofs.KeepingOf.{keeping_of}
use Rattle.tree.proofs.ClauseLaws.{sized-non_empty, first_key-clear}
use Rattle.tree.specs.Store.{read_entry, read_tree}
use Rattle.tree.proofs.Store.Laws.{map_read-zero}
use Rattle.tree.proofs.Levels.{all_of_map, numbers, read_all}
use Rattle.octets.specs.Order.{bytes_le, ordering, is_below, is_equal}
use Rattle.octets.specs.OrderLaws.{le_antisym}
use Rattle.idx_page.specs.Header.{no_page, features}
use Rattle.idx_page.specs.KeyOrder.{bytes_order}
use Rattle.idx_page.specs.KeyOrderLaws.{below, below_not_le, equal-same, equal_refl}
use Rattle.idx_page.specs.Reading.{entries_at}
use Rattle.idx_sound.specs.AuditTest.{Entries, Keys, first_of, last_of, last_number, down, is_ceiling, is_last, first_leaf_key, last_leaf_key, below_next}
use Rattle.idx_sound.specs.AuditTest.{onward, upper_entry, upper_entries}
use Rattle.idx_sound.specs.Sound.{kept_by}
use Rattle.idx_sound.proofs.EntryLaws.{last_some}

-- keys that are good, and then what comes after them
module _ (r : Keys) (after : Bool → Keys) where
  pub onward-good : r.good ≡ true → onward r after ≡ after r.exact
  unfolding onward
  onward-good e = rw (e, onward)

  pub onward-bad : r.good ≡ false → onward r after ≡ r
  unfolding onward
  onward-bad e = rw (e, onward) (ap (λ (g : Bool). record { good = g; exact = r.exact }) e)

  pub went_on : (onward r after).good ≡ true → (r.good ≡ true) × (onward r after ≡ after r.exact)
  went_on g = either r.good
      (λ e. (e, onward-good e))
      (λ e. contra g (ap (λ (s : Keys). s.good) (onward-bad e) ∙ e))

  pub onward-same : (other : Bool → Keys) → ((x : Bool) → after x ≡ other x) → onward r after ≡ onward r other
  unfolding onward
  onward-same other same = either r.good (λ e. rw (e, onward) (same r.exact)) (λ e. rw (e, onward))

-- below, as a test and as the order has it
below_lt : (a b : List ℕ) → is_below (ordering a b) ≡ true → Lt bytes_order a b
below_lt a b e = below a b refl e

lt_below : (a b : List ℕ) → Lt bytes_order a b → is_below (ordering a b) ≡ true
lt_below a b l = below_not_le a b ∙ ap not l

first_some : (a : List ℕ) (xs : Entries) → NonEmpty xs → first_of xs ≡ some (first_key a xs)
first_some a [] s = absurd s
first_some a (x ∷ xs) s = refl

last-le : (x a : List ℕ) (u : Entries) → NonEmpty u → Below bytes_order x u → Le bytes_order (last_key a u) x
last-le x a [] s c = absurd s
last-le x a (y ∷ ys) s c = last_key-all (λ z. Le bytes_order z x) y.0 ys c.0 c.1

-- the test of a key x over a child with the leaf pairs u, whose last key is l: N is what `next` says, and follows if x is l
module _ (f : ℕ) (x a : List ℕ) (u : Entries) (next : Bool) (N : Type 0) (some-u : NonEmpty u) (ascending : Ascending (pair_order bytes_order f) u)
    (holds : next ≡ true → N) (tells : N → next ≡ true) (follows : last_key a u ≡ x → N) where
  abbrev l : List ℕ
  l = last_key a u

  covered : Below bytes_order l u
  covered = ascending-last (keeping_of bytes_order f) a u ascending

  test-ceiling : is_ceiling (some (last_key a u)) x next ≡ true → Below bytes_order x u × N
  test-ceiling g = either (is_equal (ordering l x))
      (λ e. let same = equal-same l x e in (subst (λ z. Below bytes_order z u) same covered, follows same))
      (λ e. let v = both (is_below (ordering l x)) next (rw e at g) in
      (below_up bytes_order l x (lt_le bytes_order l x (below_lt l x v.0)) u covered, holds v.1))

  ceiling-test : Below bytes_order x u × N → is_ceiling (some (last_key a u)) x next ≡ true
  ceiling-test c = either (is_equal (ordering l x))
      (λ e. rw e)
      (λ e. let apart : bytes_le x l ≡ false = either (bytes_le x l)
      (λ o. let same = le_antisym l x (last-le x a u some-u c.0) o in contra (subst (λ z. is_equal (ordering l z) ≡ true) same (equal_refl l)) e)
      (λ o. o) in rw e (join _ _ (lt_below l x apart) (tells c.1)))

-- a key that passes the test is the last leaf key
last_is : (o : Option (List ℕ)) (x : List ℕ) → is_last o x ≡ true → o ≡ some x
last_is none x e = contra e refl
last_is (some a) x e = ap some (equal-same a x e)

module _ (b : List ℕ) (k size : ℕ) where
  abbrev S : ℕ → Entries
  S = entries_at k size b

  -- the page that an entry names, which has h levels under it, and the pages of those levels have entries
  abbrev pub Full : ℕ → ℕ → List ℕ × ℕ → Type 0
  Full cap h e = SizedUnder cap (suc h) (read_entry (entries_at k size b) (suc h) e)

  pub full-some : (cap h : ℕ) (e : List ℕ × ℕ) → Full cap h e → NonEmpty (entries_at k size b e.1)
  full-some cap h e d = non_empty-length (S e.1) (rw (length-map (S e.1) (read_entry S h)) at d.0)

  pub full-children : (cap h : ℕ) (e : List ℕ × ℕ) → Full cap (suc h) e → All (Full cap h) (entries_at k size b e.1)
  full-children cap h e d = all_of_map (SizedUnder cap (suc h)) (read_entry S (suc h)) (S e.1) d.2

  -- the leaf pairs under the entries xs, whose pages have h levels under them
  abbrev leaf_pairs : ℕ → Entries → Entries
  leaf_pairs h xs = concat_map (pairs_under (suc h)) (read_all (entries_at k size b) (suc h) xs)

  -- the keys of the entries xs of a page are ceilings, over pages that have h levels under them
  abbrev pub PageCeilings : ℕ → Entries → Type 0
  PageCeilings h xs =
      AtOrAbove (kept_by b) (pairs_under (suc h)) (read_all (entries_at k size b) (suc h) xs)
      × BelowNext (kept_by b) (pairs_under (suc h)) (read_all (entries_at k size b) (suc h) xs)

  -- a leaf's pairs are its entries
  leaf-entries : (p : ℕ) → pairs zero (read_tree S zero p) ≡ S p
  leaf-entries p = rw (map_read-zero S (S p)) (concat_map-single (S p))

  module _ (cap : ℕ) where
    -- down by first entries is the first leaf key
    abbrev FirstIs : ℕ → Type 0
    FirstIs h = (a : List ℕ) (e : List ℕ × ℕ) → Full cap h e → first_leaf_key b k size h e.1 ≡ some (first_key a (pairs h (read_tree S h e.1)))

    first_of_children : (h : ℕ) → FirstIs h → (a : List ℕ) (xs : Entries) → NonEmpty xs → All (Full cap h) xs
        → first_leaf_key b k size h (head_or no_page (numbers xs)) ≡ some (first_key a (leaf_pairs h xs))
    first_of_children h ok a [] s d = absurd s
    first_of_children h ok a (x ∷ xs) s d =
        ok a x d.0
        ∙ sym (ap some (first_key_append a (pairs h (read_tree S h x.1)) (leaf_pairs h xs) (sized-non_empty cap (suc h) (read_entry S (suc h) x) d.0)))

    first_leaf_lem : (h : ℕ) → FirstIs h
    unfolding down
    first_leaf_lem zero a e d = rw (leaf-entries e.1) (first_some a (S e.1) (full-some cap zero e d))
    first_leaf_lem (suc h) a e d = first_of_children h (first_leaf_lem h) a (S e.1) (full-some cap (suc h) e d) (full-children cap h e d)

    -- down by last entries is the last leaf key
    abbrev LastIs : ℕ → Type 0
    LastIs h = (a : List ℕ) (e : List ℕ × ℕ) → Full cap h e → last_leaf_key b k size h e.1 ≡ some (last_key a (pairs h (read_tree S h e.1)))

    last_of_children : (h : ℕ) → LastIs h → (a : List ℕ) (n : ℕ) (xs : Entries) → NonEmpty xs → All (Full cap h) xs
        → last_leaf_key b k size h (last_number n xs) ≡ some (last_key a (leaf_pairs h xs))
    last_of_children h ok a n [] s d = absurd s
    last_of_children h ok a n (x ∷ []) s d = rw (append-nil (pairs h (read_tree S h x.1))) (ok a x d.0)
    last_of_children h ok a n (x ∷ y ∷ ys) s d =
        last_of_children h ok (last_key a (pairs h (read_tree S h x.1))) x.1 (y ∷ ys) tt d.1
        ∙ sym (ap some (last_key_append a (pairs h (read_tree S h x.1)) (leaf_pairs h (y ∷ ys))))

    last_leaf : (h : ℕ) → LastIs h
    unfolding down
    last_leaf zero a e d = rw (leaf-entries e.1) (last_some none a (S e.1) (full-some cap zero e d))
    last_leaf (suc h) a e d = last_of_children h (last_leaf h) a no_page (S e.1) (full-some cap (suc h) e d) (full-children cap h e d)

    -- the key x may stand before the first leaf key under the first of the entries xs, if there is one
    abbrev Next : ℕ → List ℕ → Entries → Type 0
    Next h x [] = Unit {0}
    Next h x (y ∷ ys) = Clear (kept_by b) x (first_key x (pairs h (read_tree S h y.1)))

    next-holds : (h : ℕ) (x : List ℕ) (ys : Entries) → All (Full cap h) ys → below_next b k size h x ys ≡ true → Next h x ys
    next-holds h x [] d e = tt
    next-holds h x (y ∷ ys) d e = not-true _ (rw (first_leaf_lem h x y d.0) at e)

    next_tells : (h : ℕ) (x : List ℕ) (ys : Entries) → All (Full cap h) ys → Next h x ys → below_next b k size h x ys ≡ true
    next_tells h x [] d n = refl
    next_tells h x (y ∷ ys) d n = rw (first_leaf_lem h x y d.0) (ap not n)

    -- the last leaf key under an entry may stand before the leaf keys under the next
    next-follows : (h : ℕ) (x : List ℕ) (u ys : Entries) → NonEmpty u → All (Full cap h) ys
        → Ascending (pair_order bytes_order (features b)) (u ++ leaf_pairs h ys)
        → last_key x u ≡ x → Next h x ys
    next-follows h x u [] s d ascending e = tt
    next-follows h x u (y ∷ ys) s d ascending e =
        let v = pairs h (read_tree S h y.1) in
        first_key-clear (kept_by b) x v (sized-non_empty cap (suc h) (read_entry S (suc h) y) d.0)
        (all_left (λ e. Clear (kept_by b) x e.0) v (leaf_pairs h ys)
        (rw e at (ascending_across (kept_by b) x u (v ++ leaf_pairs h ys) s ascending)))

    -- one entry
    entry-ceiling : (h : ℕ) (e : List ℕ × ℕ) (es : Entries) → Full cap h e → All (Full cap h) es
        → Ascending (pair_order bytes_order (features b)) (leaf_pairs h (e ∷ es))
        → ((upper_entry b k size h h e es).good ≡ true) ↔ (Below bytes_order e.0 (pairs h (read_tree S h e.1)) × Next h e.0 es)
    entry-ceiling h e es d ds ascending =
        let x = e.0 in
        let u = pairs h (read_tree S h e.1) in
        let some-u = sized-non_empty cap (suc h) (read_entry S (suc h) e) d in
        let own = ascending-left (pair_order bytes_order (features b)) u (leaf_pairs h es) ascending in
        let follows = next-follows h x u es some-u ds ascending in
        rw (last_leaf h x e d) (
          test-ceiling (features b) x x u (below_next b k size h x es) (Next h x es) some-u own (next-holds h x es ds) (next_tells h x es ds) follows,
          ceiling-test (features b) x x u (below_next b k size h x es) (Next h x es) some-u own (next-holds h x es ds) (next_tells h x es ds) follows,
        )

    -- Theorem: the test of a page's entries says that their keys are ceilings
    pub entries-ceilings : (h : ℕ) (x : Bool) (xs : Entries) → All (Full cap h) xs
        → Ascending (pair_order bytes_order (features b)) (concat_map (pairs_under (suc h)) (read_all S (suc h) xs))
        → ((upper_entries b k size h h x xs).good ≡ true) ↔ PageCeilings h xs
    unfolding upper_entries
    entries-ceilings h x [] d ascending = ((λ g. (tt, tt)), (λ c. refl))
    entries-ceilings h x (e ∷ []) d ascending =
        let here = entry-ceiling h e [] d.0 tt ascending in (
          (λ g. (((here.0 (went_on _ _ g).0).0, tt), tt)),
          (λ c. rw (onward-good (upper_entry b k size h h e []) _ (here.1 (c.0.0, tt)))),
        )
    entries-ceilings h x (e ∷ y ∷ ys) d ascending =
        let key = upper_entry b k size h h e (y ∷ ys) in
        let here = entry-ceiling h e (y ∷ ys) d.0 d.1 ascending in
        let rest = entries-ceilings h key.exact (y ∷ ys) d.1
        (ascending-right (pair_order bytes_order (features b)) (pairs h (read_tree S h e.1)) (leaf_pairs h (y ∷ ys)) ascending) in (
          (λ g.
              let t = went_on key _ g in
              let v = here.0 t.0 in
              let w = rest.0 (rw t.1 at g) in
              ((v.0, w.0), (v.1, w.1))),
          (λ c. rw (onward-good key _ (here.1 (c.0.0, c.1.0))) (rest.1 (c.0.1, c.1.1))),
        )

  -- the page that an entry names is exact: the last leaf key under it is its own last key
  abbrev pub OwnLast : ℕ → List ℕ × ℕ → Type 0
  OwnLast h e = last_leaf_key b k size h e.1 ≡ last_of none (entries_at k size b e.1)

  -- a page whose last entry is exact is so
  last-own : (h n : ℕ) (o : Option (List ℕ)) (x : Bool) (xs : Entries) → NonEmpty xs → (upper_entries b k size h h x xs).good ≡ true
      → (upper_entries b k size h h x xs).exact ≡ true → last_leaf_key b k size h (last_number n xs) ≡ last_of o xs
  unfolding upper_entries
  last-own h n o x [] s g u = absurd s
  last-own h n o x (e ∷ []) s g u = last_is _ _ (rw (went_on (upper_entry b k size h h e []) _ g).1 at u)
  last-own h n o x (e ∷ y ∷ ys) s g u =
      let key = upper_entry b k size h h e (y ∷ ys) in
      let t = went_on key _ g in
      last-own h e.1 (some e.0) key.exact (y ∷ ys) tt (rw t.1 at g) (rw t.1 at u)

  pub own-page : (h : ℕ) (e : List ℕ × ℕ) (x : Bool) → NonEmpty (entries_at k size b e.1)
      → (upper_entries b k size h h x (entries_at k size b e.1)).good ≡ true → (upper_entries b k size h h x (entries_at k size b e.1)).exact ≡ true
      → OwnLast (suc h) e
  unfolding down
  own-page h e x s g u = last-own h no_page none x (S e.1) s g u

  -- d steps under the page that an entry names are as good as h
  abbrev pub SameLast : ℕ → ℕ → List ℕ × ℕ → Type 0
  SameLast d h e = last_leaf_key b k size d e.1 ≡ last_leaf_key b k size h e.1

  -- no step is needed under exact pages
  pub same-last : (h : ℕ) (x : Bool) (xs : Entries) → (x ≡ true → All (OwnLast h) xs) → All (SameLast (cond x 0 h) h) xs
  unfolding down
  same-last h true xs o = all_map (OwnLast h) (SameLast 0 h) (λ e u. sym u) xs (o refl)
  same-last h false xs o = all_map (λ e. Unit {0}) (SameLast h h) (λ e u. refl) xs (all_unit xs)

  -- Theorem: then the test is the test that goes down
  pub entries-same : (d h : ℕ) (x : Bool) (xs : Entries) → All (SameLast d h) xs → upper_entries b k size d h x xs ≡ upper_entries b k size h h x xs
  unfolding upper_entries
  entries-same d h x [] s = refl
  entries-same d h x (e ∷ es) s = rw s.0 (onward-same _ _ _ (λ y. entries-same d h y es s.1))
