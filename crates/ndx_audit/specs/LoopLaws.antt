-- Laws: the audit's loops, entry after entry. Cited by the proofs of the functions with a loop. Assumes nothing.
use Rattle.std.specs.Prelude.{ℕ, suc, ◌+◌, ◌-◌, ◌≤◌, ◌<◌, ◌≡◌, true, false, not, ◌&&◌, List}
use Rattle.std.proofs.Common.{ap, ◌∙◌, arith, eq-eqb, ne_eqb}
use Rattle.std.proofs.Math.Option.{some}
use Rattle.ndx_page.specs.Header.{max_levels, page_count, is_page}
use Rattle.ndx_page.specs.Page.{lower_at, is_leaf}
use Rattle.ndx_page.specs.IndexLaws.{page_within, within_steps}
use Rattle.ndx_sound.specs.Reading.{Key}
use Rattle.ndx_sound.specs.Walk.{Status, if_good, item, passed}
use Rattle.ndx_sound.proofs.WalkLaws.{if_is, if_not}
use Rattle.ndx_sound.specs.AuditTest.{zeros, height_from}
use Rattle.ndx_sound.specs.TreeLaws.{by_top}
use Rattle.ndx_audit.specs.Steps.{Walker, items_from, children_from}

one_more : (n i : ℕ) → i < n → n - i ≡ suc (n - (i + 1))
one_more n i h = omega arith

-- a walker goes no further from a state that is not good
pub not_on : (g : Walker) (s : Status Key) → s.good ≡ false → (if_good g s).good ≡ false
not_on g s e = ap (λ (x : Status Key). x.good) (if_not g s e) ∙ e

-- the pairs of a leaf, at pair i of n
module _ (keys : ℕ → List ℕ) (numbers : ℕ → ℕ) (n i : ℕ) (s : Status Key) where
  pub items_end : n ≤ i → items_from keys numbers (n - i) i s ≡ s
  unfolding items_from
  items_end h = let z : n - i ≡ 0 = omega arith in rw z

  -- a pair that is not good: the walk stays as the pair leaves it
  pub items_stop : i < n → (item by_top (some (keys i), numbers i) s).good ≡ false
      → items_from keys numbers (n - i) i s ≡ item by_top (some (keys i), numbers i) s
  unfolding items_from
  items_stop h e = rw (one_more n i h) (if_not (items_from keys numbers (n - (i + 1)) (i + 1)) (item by_top (some (keys i), numbers i) s) e)

  pub items_bad : i < n → (item by_top (some (keys i), numbers i) s).good ≡ false → (items_from keys numbers (n - i) i s).good ≡ false
  items_bad h e = ap (λ (x : Status Key). x.good) (items_stop h e) ∙ e

  pub items_on : i < n → (t : Status Key) → item by_top (some (keys i), numbers i) s ≡ t → t.good ≡ true
      → items_from keys numbers (n - i) i s ≡ items_from keys numbers (n - (i + 1)) (i + 1) t
  unfolding items_from
  items_on h t e good = rw (one_more n i h, e) (if_is (items_from keys numbers (n - (i + 1)) (i + 1)) t good)

-- the children of a branch, at child i of n and one more
module _ (keys : ℕ → List ℕ) (numbers : ℕ → ℕ) (f : ℕ → Walker) (n i : ℕ) (s : Status Key) where
  pub children_end : n ≤ i → children_from keys numbers f (n - i) i s ≡ f (numbers i) s
  unfolding children_from
  children_end h = let z : n - i ≡ 0 = omega arith in rw z

  -- the child is not good
  pub children_bad : i < n → (f (numbers i) s).good ≡ false → (children_from keys numbers f (n - i) i s).good ≡ false
  unfolding children_from
  children_bad h e =
      rw (one_more n i h)
      (not_on (children_from keys numbers f (n - (i + 1)) (i + 1)) (passed by_top (f (numbers i) s) (some (keys i))) (rw e))

  module _ (h : i < n) (t : Status Key) (child : f (numbers i) s ≡ t) where
    -- the key above is not: the walk stays as that key leaves it
    pub children_stop : (passed by_top t (some (keys i))).good ≡ false → children_from keys numbers f (n - i) i s ≡ passed by_top t (some (keys i))
    unfolding children_from
    children_stop e =
        rw (one_more n i h, child) (if_not (children_from keys numbers f (n - (i + 1)) (i + 1)) (passed by_top t (some (keys i))) e)

    pub passed_bad : (passed by_top t (some (keys i))).good ≡ false → (children_from keys numbers f (n - i) i s).good ≡ false
    passed_bad e = ap (λ (x : Status Key). x.good) (children_stop e) ∙ e

    pub children_on : (u : Status Key) → passed by_top t (some (keys i)) ≡ u → u.good ≡ true
        → children_from keys numbers f (n - i) i s ≡ children_from keys numbers f (n - (i + 1)) (i + 1) u
    unfolding children_from
    children_on u e good = rw (one_more n i h, child, e) (if_is (children_from keys numbers f (n - (i + 1)) (i + 1)) u good)

-- the lower pages of a leaf, at entry i of n
module _ (numbers : ℕ → ℕ) (n i : ℕ) where
  pub zeros_end : n ≤ i → zeros numbers (n - i) i ≡ true
  unfolding zeros
  zeros_end h = let z : n - i ≡ 0 = omega arith in rw z

  pub zeros_off : i < n → (numbers i ≡ 0 → ⊥) → zeros numbers (n - i) i ≡ false
  unfolding zeros
  zeros_off h e = rw (one_more n i h, ne_eqb (numbers i) 0 e)

  pub zeros_on : i < n → numbers i ≡ 0 → zeros numbers (n - i) i ≡ zeros numbers (n - (i + 1)) (i + 1)
  unfolding zeros
  zeros_on h e = rw (one_more n i h, eq-eqb (numbers i) 0 e)

-- the levels under the root, at page p with h levels above it
module _ (b : List ℕ) (root h p : ℕ) where
  -- the levels under p are those that are left
  abbrev pub HeightLeft : Type 0
  HeightLeft = height_from b (max_levels - 1) root ≡ h + height_from b (max_levels - 1 - h) p

  module _ (inv : height_from b (max_levels - 1) root ≡ h + height_from b (max_levels - 1 - h) p) where
    pub height_end : max_levels - 1 ≤ h → h ≡ height_from b (max_levels - 1) root
    unfolding height_from
    height_end l = let z : max_levels - 1 - h ≡ 0 = omega arith in let q = rw z at inv in omega arith

    module _ (l : h < max_levels - 1) where
      pub height_leaf : (is_page (page_count b) p && not (is_leaf b p)) ≡ false → h ≡ height_from b (max_levels - 1) root
      unfolding height_from
      height_leaf e =
          let stop : height_from b (suc (max_levels - 1 - (h + 1))) p ≡ 0 = rw (e, height_from) in
          let q = rw (one_more (max_levels - 1) h l, stop) at inv in omega arith

      pub height_on : (q : ℕ) → q ≡ lower_at b p 0 → (is_page (page_count b) p && not (is_leaf b p)) ≡ true
          → height_from b (max_levels - 1) root ≡ (h + 1) + height_from b (max_levels - 1 - (h + 1)) q
      unfolding height_from
      height_on q eq e =
          let on : height_from b (suc (max_levels - 1 - (h + 1))) p ≡ suc (height_from b (max_levels - 1 - (h + 1)) q) = rw (e, eq, height_from) in
          let w = rw (one_more (max_levels - 1) h l, on) at inv in omega arith

-- what the proofs of the functions with a loop cite
pub ruleset lower_steps = (within_steps, zeros_end, zeros_off, zeros_on)

pub ruleset pair_steps = (within_steps, items_end, items_bad, items_on)

pub ruleset height_steps = (page_within, height_end, height_leaf, height_on)
