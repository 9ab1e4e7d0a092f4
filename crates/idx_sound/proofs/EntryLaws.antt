-- Laws: the audit's tests of leaf entries, page after page, say that leaf pairs ascend and record numbers are above 0. Cited by the laws of the shape. Assumes
-- nothing.
use Rattle.std.specs.Prelude.{ℕ, ◌<◌, ◌≡◌, true, false, eqb}
use Rattle.std.proofs.Math.Path.{refl}
use Rattle.std.proofs.Common.{ap, arith, ne_eqb}
use mathlib.Core.List.{List, [], ◌∷◌, ◌++◌}
use Rattle.std.proofs.Math.Bool.{not}
use Rattle.std.proofs.Math.Option.{Option, none, some}
use Rattle.std.proofs.lemmas.Bool.{eqb-false, not-true}
use Rattle.basis.specs.Lists.{All}
use Rattle.basis.specs.Tests.{both, join}
use Rattle.tree.specs.Lists.{NonEmpty, concat_map}
use Rattle.tree.specs.Pairs.{last_key, Ascending}
use Rattle.tree.specs.Keeping.{Keeping, pair_order}
use Rattle.tree.proofs.KeepingOf.{keeping_of}
use Rattle.tree.proofs.KeepingLaws.{all-before}
use Rattle.idx_page.specs.Header.{features}
use Rattle.idx_page.specs.Page.{leaf_bit}
use Rattle.idx_page.specs.KeyOrder.{bytes_order}
use Rattle.idx_page.specs.Reading.{entries_at}
use Rattle.idx_sound.specs.AuditTest.{Entries, last_of, last_pair, is_above, leaf_entries_good, entries_fit}
use Rattle.idx_sound.proofs.RunLaws.{Checked}

-- leaf entries in the order of a header's features f
module _ (f : ℕ) where
  abbrev Q : Keeping (List ℕ)
  Q = keeping_of bytes_order f

  -- a pair is above another, if there is one
  abbrev After : Option (List ℕ × ℕ) → List ℕ × ℕ → Type 0
  After none x = Unit {0}
  After (some a) x = pair_order bytes_order f x a ≡ false

  -- each pair is above the one before it, and each record number above 0
  abbrev pub Climbs : Option (List ℕ × ℕ) → Entries → Type 0
  Climbs o [] = Unit {0}
  Climbs o (e ∷ es) = After o e × (0 < e.1) × Climbs (some e) es

  climbs_join : (o : Option (List ℕ × ℕ)) (xs ys : Entries) → Climbs o xs → Climbs (last_pair o xs) ys → Climbs o (xs ++ ys)
  climbs_join o [] ys c d = d
  climbs_join o (x ∷ xs) ys c d = (c.0, c.1, climbs_join (some x) xs ys c.2 d)

  climbs_left : (o : Option (List ℕ × ℕ)) (xs ys : Entries) → Climbs o (xs ++ ys) → Climbs o xs
  climbs_left o [] ys c = tt
  climbs_left o (x ∷ xs) ys c = (c.0, c.1, climbs_left (some x) xs ys c.2)

  climbs_right : (o : Option (List ℕ × ℕ)) (xs ys : Entries) → Climbs o (xs ++ ys) → Climbs (last_pair o xs) ys
  climbs_right o [] ys c = c
  climbs_right o (x ∷ xs) ys c = climbs_right (some x) xs ys c.2

  climbs_above : (a : List ℕ × ℕ) (xs : Entries) → Climbs (some a) xs → All (λ z. pair_order bytes_order f z a ≡ false) xs
  climbs_above a [] c = tt
  climbs_above a (x ∷ xs) c = (c.0, all-before Q a x (Q.pair_total x a c.0) xs (climbs_above x xs c.2))

  -- the two clauses on leaf entries
  pub climbs_ascend : (o : Option (List ℕ × ℕ)) (xs : Entries) → Climbs o xs → Ascending (pair_order bytes_order f) xs × All (λ e. 0 < e.1) xs
  climbs_ascend o [] c = (tt, tt)
  climbs_ascend o (x ∷ xs) c =
      let ih = climbs_ascend (some x) xs c.2 in
      ((climbs_above x xs c.2, ih.0), (c.1, ih.1))

  ascend_after : (o : Option (List ℕ × ℕ)) (xs : Entries) → All (After o) xs → Ascending (pair_order bytes_order f) xs → All (λ e. 0 < e.1) xs → Climbs o xs
  ascend_after o [] g a r = tt
  ascend_after o (x ∷ xs) g a r = (g.0, r.0, ascend_after (some x) xs a.0 a.1 r.1)

  after_none : (xs : Entries) → All (After none) xs
  after_none [] = tt
  after_none (x ∷ xs) = (tt, after_none xs)

  pub ascend_climbs : (xs : Entries) → Ascending (pair_order bytes_order f) xs → All (λ e. 0 < e.1) xs → Climbs none xs
  ascend_climbs xs a r = ascend_after none xs (after_none xs) a r

  -- the test of a leaf's entries
  above-after : (o : Option (List ℕ × ℕ)) (x : List ℕ × ℕ) → is_above f o x ≡ true → After o x
  above-after none x h = tt
  above-after (some a) x h = not-true _ h

  after-above : (o : Option (List ℕ × ℕ)) (x : List ℕ × ℕ) → After o x → is_above f o x ≡ true
  after-above none x h = refl
  after-above (some a) x h = ap not h

  not_zero : (n : ℕ) → not (eqb n 0) ≡ true → 0 < n
  not_zero n h = omega (arith, eqb-false n 0 (not-true _ h))

  leaf_climbs : (o : Option (List ℕ × ℕ)) (xs : Entries) → leaf_entries_good f o xs ≡ true → Climbs o xs
  unfolding leaf_entries_good
  leaf_climbs o [] h = tt
  leaf_climbs o (x ∷ xs) h =
      let u = both _ _ h in
      let v = both _ _ u.0 in
      (above-after o x v.1, not_zero x.1 v.0, leaf_climbs (some x) xs u.1)

  climbs_leaf : (o : Option (List ℕ × ℕ)) (xs : Entries) → Climbs o xs → leaf_entries_good f o xs ≡ true
  unfolding leaf_entries_good
  climbs_leaf o [] h = refl
  climbs_leaf o (x ∷ xs) h =
      join _ _ (join _ _ (ap not (ne_eqb x.1 0 (omega (arith, h.1)))) (after-above o x h.0)) (climbs_leaf (some x) xs h.2)

-- the last pair of a list that has one
last_any : (o o' : Option (List ℕ × ℕ)) (xs : Entries) → NonEmpty xs → last_pair o xs ≡ last_pair o' xs
last_any o o' [] s = absurd s
last_any o o' (x ∷ xs) s = refl

-- the last key, as an option and beside a default
pub last_some : (o : Option (List ℕ)) (a : List ℕ) (xs : Entries) → NonEmpty xs → last_of o xs ≡ some (last_key a xs)
last_some o a [] s = absurd s
last_some o a (x ∷ []) s = refl
last_some o a (x ∷ y ∷ xs) s = last_some (some x.0) x.0 (y ∷ xs) tt

-- page after page
module _ (b : List ℕ) (k size a : ℕ) where
  abbrev S : ℕ → Entries
  S = entries_at k size b

  -- nothing is asked of the entries of a page above the leaves
  pub upper-checked : leaf_bit a ≡ false → (last : ℕ) (ps : List ℕ) → Checked b k size a last ps
  unfolding entries_fit
  upper-checked upper last [] = tt
  upper-checked upper last (p ∷ ps) = (rw upper, upper-checked upper p ps)

  module _ (leaf : leaf_bit a ≡ true) where
    leaf-page : (last p : ℕ) → entries_fit b k size a last p ≡ true → Climbs (features b) (last_pair none (S last)) (S p)
    unfolding entries_fit
    leaf-page last p c = leaf_climbs (features b) (last_pair none (S last)) (S p) (rw leaf at c)

    page-leaf : (last p : ℕ) → Climbs (features b) (last_pair none (S last)) (S p) → entries_fit b k size a last p ≡ true
    unfolding entries_fit
    page-leaf last p c = rw leaf (climbs_leaf (features b) (last_pair none (S last)) (S p) c)

    -- pages that all have an entry
    next_last : (o : Option (List ℕ × ℕ)) (p : ℕ) → NonEmpty (S p) → last_pair o (S p) ≡ last_pair none (S p)
    next_last o p s = last_any o none (S p) s

    pub checked_climbs : (last : ℕ) (ps : List ℕ) → All (λ p. NonEmpty (entries_at k size b p)) ps → Checked b k size a last ps →
        Climbs (features b) (last_pair none (entries_at k size b last)) (concat_map (entries_at k size b) ps)
    checked_climbs last [] s c = tt
    checked_climbs last (p ∷ ps) s c =
        climbs_join (features b) (last_pair none (S last)) (S p) (concat_map S ps) (leaf-page last p c.0)
        (rw (next_last (last_pair none (S last)) p s.0) (checked_climbs p ps s.1 c.1))

    pub climbs_checked : (last : ℕ) (ps : List ℕ) → All (λ p. NonEmpty (entries_at k size b p)) ps →
        Climbs (features b) (last_pair none (entries_at k size b last)) (concat_map (entries_at k size b) ps) → Checked b k size a last ps
    climbs_checked last [] s c = tt
    climbs_checked last (p ∷ ps) s c = (
      page-leaf last p (climbs_left (features b) (last_pair none (S last)) (S p) (concat_map S ps) c),
      climbs_checked p ps s.1
          (rw (next_last (last_pair none (S last)) p s.0) at (climbs_right (features b) (last_pair none (S last)) (S p) (concat_map S ps) c)),
    )

    -- a lone page, which may have none
    pub lone_climbs : (last p : ℕ) → Checked b k size a last (p ∷ [])
        → Climbs (features b) (last_pair none (entries_at k size b last)) (concat_map (entries_at k size b) (p ∷ []))
    lone_climbs last p c = climbs_join (features b) (last_pair none (S last)) (S p) [] (leaf-page last p c.0) tt

    pub climbs_lone : (last p : ℕ) → Climbs (features b) (last_pair none (entries_at k size b last)) (concat_map (entries_at k size b) (p ∷ []))
        → Checked b k size a last (p ∷ [])
    climbs_lone last p c = (page-leaf last p (climbs_left (features b) (last_pair none (S last)) (S p) [] c), tt)
