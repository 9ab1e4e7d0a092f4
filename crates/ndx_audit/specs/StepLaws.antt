-- Laws: the walk of an NDX branch and of a leaf is the walk entry after entry by number, and what a refused step leaves. Assumes nothing.
use Prim.Native.Nat.{ℕ, zero, suc, ◌+◌}
use Rattle.std.specs.Prelude.{◌≡◌, ◌≤◌, Bool, true, false, List, [], ◌∷◌, ◌++◌}
use Rattle.std.proofs.Math.Path.{refl}
use Rattle.std.proofs.Math.Bool.{and-false}
use Rattle.std.proofs.Math.Option.{Option, none, some}
use borrow.Author.Tests.{eq-eqb, le-ltb}
use native.Mathlib.Omega.{arith}
use Rattle.ndx_sound.specs.Reading.{Key, entries_from}
use Rattle.ndx_page.specs.Header.{page_count}
use Rattle.ndx_page.specs.Page.{record_at, key_at}
use Rattle.ndx_sound.specs.AuditTest.{page_fits}
use Rattle.ndx_sound.specs.Walk.{Status, refused, is_after, at_most, over, item, items, passed, under}
use Rattle.ndx_sound.proofs.WalkLaws.{if_same}
use Rattle.ndx_sound.specs.TreeLaws.{by_top}
use Rattle.ndx_audit.specs.Steps.{Walker, items_from, children_from, pair_step, pass_step, entering}

-- nothing is asked after the extra child
under_none : (s : Status Key) → under by_top s none ≡ s
under_none s = go s s.last s.good refl refl
  where
    go : (s : Status Key) (l : Option Key) (g : Bool) → s.last ≡ l → s.good ≡ g → under by_top s none ≡ s
    go s none true a e = rw (a, e)
    go s none false a e = rw (a, e)
    go s (some l) true a e = rw (a, e)
    go s (some l) false a e = rw (a, e)

module _ (keys : ℕ → List ℕ) (numbers : ℕ → ℕ) where
  module _ (f : ℕ → Walker) where
    -- the walk over the entries es
    abbrev walked : List (Key × ℕ) → Walker
    walked es s = over (under by_top) (passed by_top) (λ e. f e.1) es s

    pub children_by_number : (n i : ℕ) (s : Status Key)
        → over (under by_top) (passed by_top) (λ e. f e.1) (entries_from keys numbers n i ++ ((none, numbers (i + n)) ∷ [])) s
        ≡ children_from keys numbers f n i s
    unfolding over entries_from children_from
    children_by_number zero i s = let z : i + 0 ≡ i = omega arith in rw z (under_none (f (numbers i) s))
    children_by_number (suc zero) i s =
        let z : i + 1 + 0 ≡ i + 1 = omega arith in
        if_same (walked ((none, numbers (i + 1)) ∷ [])) (children_from keys numbers f zero (i + 1))
        (λ t. rw z at (children_by_number zero (i + 1) t)) (passed by_top (f (numbers i) s) (some (keys i)))
    children_by_number (suc (suc n)) i s =
        let z : i + 1 + suc n ≡ i + suc (suc n) = omega arith in
        if_same (walked (entries_from keys numbers (suc n) (i + 1) ++ ((none, numbers (i + suc (suc n))) ∷ [])))
        (children_from keys numbers f (suc n) (i + 1)) (λ t. rw z at (children_by_number (suc n) (i + 1) t))
        (passed by_top (f (numbers i) s) (some (keys i)))

  pub items_by_number : (n i : ℕ) (s : Status Key) → items by_top (entries_from keys numbers n i) s ≡ items_from keys numbers n i s
  unfolding items entries_from items_from
  items_by_number zero i s = refl
  items_by_number (suc n) i s =
      if_same (items by_top (entries_from keys numbers n (i + 1))) (items_from keys numbers n (i + 1)) (items_by_number n (i + 1))
      (item by_top (some (keys i), numbers i) s)

-- a step that is refused leaves the last key met and the count of pages: a pair of a leaf without a record, or not after that key; a key above a child that was
-- refused, or below that key
module _ (b : List ℕ) (p i : ℕ) (s : Status Key) where
  pub pair_zero : record_at b p i ≡ 0 → pair_step b p i s ≡ refused s
  pair_zero e = rw (eq-eqb (record_at b p i) 0 e, and-false (is_after by_top s.last (some (key_at b p i))), and-false s.good)

  pub pair_low : is_after by_top s.last (some (key_at b p i)) ≡ false → pair_step b p i s ≡ refused s
  pair_low e = rw (e, and-false s.good)

  pub pass_bad : s.good ≡ false → pass_step b p i s ≡ refused s
  pass_bad e = rw e

  pub pass_low : at_most by_top s.last (some (key_at b p i)) ≡ false → pass_step b p i s ≡ refused s
  pass_low e = rw (e, and-false s.good)

-- a page that does not fit, or is one more than there are
module _ (b : List ℕ) (lone : Bool) (h p : ℕ) (s : Status Key) where
  pub enter_unfit : page_fits b lone h p ≡ false → entering b lone h p s ≡ refused s
  enter_unfit e = rw (e, and-false s.good)

  pub enter-full : page_count b ≤ s.entered → entering b lone h p s ≡ refused s
  enter-full e = rw (le-ltb s.entered (page_count b) e, and-false (page_fits b lone h p), and-false s.good)
