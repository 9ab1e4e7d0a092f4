-- Laws: a page that is entered, and the walk from there. Cited by the proofs of the functions on pages. Assumes nothing.
use Rattle.std.specs.Prelude.{ℕ, zero, suc, ◌+◌, ◌-◌, ◌≤◌, ◌≡◌, refl, Bool, true, false, ◌&&◌, List, eqb}
use Rattle.std.proofs.Common.{ap, ◌∙◌, arith, eq-eqb, ne_eqb, leb-true}
use Rattle.std.specs.Bool.{beq}
use Rattle.std.proofs.Math.Nat.{min-eq_left}
use Rattle.basis.specs.Tests.{either, contra, both, join}
use Rattle.ndx_page.specs.Header.{root_page, page_count, keys_per_page, is_page, header_good}
use Rattle.ndx_page.specs.Page.{count_at, lower_at, record_at, key_at, is_leaf, count_good}
use Rattle.ndx_page.specs.Within.{Within}
use Rattle.ndx_page.specs.PageLaws.{within-page}
use Rattle.ndx_page.specs.IndexLaws.{page_within, within_steps}
use Rattle.ndx_sound.specs.Reading.{Key, entries_at}
use Rattle.ndx_sound.specs.ReadingLaws.{leaf-entries, branch-entries}
use Rattle.ndx_sound.specs.Walk.{Status, if_good, over, items, passed, under, enter, walk}
use Rattle.ndx_sound.proofs.WalkLaws.{if_is, if_not}
use Rattle.ndx_sound.specs.AuditTest.{zeros, page_fits, index_height, start, complete, tree_good}
use Rattle.ndx_sound.specs.TreeLaws.{by_top}
use Rattle.ndx_sound.proofs.Accepted.{Fit, fit, answer-bad, answer-sound, answer-unsound}
use Rattle.ndx_sound.specs.Sound.{Audited}
use Rattle.ndx_audit.specs.Steps.{Walker, items_from, children_from, entering, walking}
use Rattle.ndx_audit.specs.StepLaws.{items_by_number, children_by_number}
use Rattle.ndx_audit.specs.LoopLaws.{children_end, children_bad, passed_bad, children_on}

and_off : (a c d : Bool) → (a && c) ≡ false → (a && (c && d)) ≡ false
and_off true true d e = contra refl e
and_off true false d e = refl
and_off false c d e = refl

-- a page that is tested: first its number, then whether it is a leaf as its level asks and its count, and then a leaf's lower pages
module _ (b : List ℕ) (lone : Bool) (h p : ℕ) where
  abbrev pub test : Bool
  test = beq (is_leaf b p) (eqb h 0) && count_good (keys_per_page b) (count_at b p) lone (is_leaf b p)

  pub fits_never : is_page (page_count b) p ≡ false → page_fits b lone h p ≡ false
  unfolding page_fits
  fits_never e = rw e

  module _ (page : is_page (page_count b) p ≡ true) where
    pub fits_off : test ≡ false → page_fits b lone h p ≡ false
    unfolding page_fits
    fits_off e = rw page (and_off (beq (is_leaf b p) (eqb h 0)) _ _ e)

    module _ (e : test ≡ true) where
      parts : (beq (is_leaf b p) (eqb h 0) ≡ true) × (count_good (keys_per_page b) (count_at b p) lone (is_leaf b p) ≡ true)
      parts = both _ _ e

      pub count_full : count_at b p ≤ keys_per_page b
      unfolding count_good
      count_full = leb-true (count_at b p) (keys_per_page b) (both _ _ parts.1).0

      pub count_within : header_good b ≡ true → Within b p (count_at b p)
      count_within good = within-page b p (count_at b p) good page count_full

      pub fits_branch : is_leaf b p ≡ false → page_fits b lone h p ≡ true
      unfolding page_fits
      fits_branch l = join _ _ page (join _ _ parts.0 (join _ _ parts.1 (rw l)))

      pub fits_leaf : is_leaf b p ≡ true → page_fits b lone h p ≡ zeros (lower_at b p) (count_at b p) 0
      unfolding page_fits
      fits_leaf l = rw (page, parts.0, parts.1, l, min-eq_left count_full)

-- the entries of a page that fits
pub fits_within : (b : List ℕ) (lone : Bool) (h p : ℕ) → header_good b ≡ true → page_fits b lone h p ≡ true → Within b p (count_at b p)
fits_within b lone h p good e = let f = fit b lone h p e in within-page b p (count_at b p) good f.page f.full

-- the walk of a page that is no root, with h levels under it
abbrev pub walk_under : List ℕ → ℕ → ℕ → Walker
walk_under b h p s = walk by_top (page_count b) (entries_at b) (page_fits b) false h p s

-- the entries of page p with h levels under it
abbrev inner : List ℕ → ℕ → ℕ → Walker
inner b zero p s = items by_top (entries_at b p) s
inner b (suc h) p s = over (under by_top) (passed by_top) (λ e. walk_under b h e.1) (entries_at b p) s

walk_is : (b : List ℕ) (lone : Bool) (h p : ℕ) (s : Status Key) → walk by_top (page_count b) (entries_at b) (page_fits b) lone h p s
    ≡ if_good (inner b h p) (enter by_top (page_count b) (entries_at b) (page_fits b) lone h p s)
unfolding walk
walk_is b lone zero p s = refl
walk_is b lone (suc h) p s = refl

-- page p with h levels under it, after the state s
module _ (b : List ℕ) (lone : Bool) (h p : ℕ) (s : Status Key) where
  abbrev entry : Status Key
  entry = entering b lone h p s

  abbrev walked : Status Key
  walked = walking b lone h p s

  -- it is not entered: the walk stays as it is then
  pub walk_refused : entry.good ≡ false → walked ≡ entry
  walk_refused e = walk_is b lone h p s ∙ if_not (inner b h p) entry e

  pub walk_bad : entry.good ≡ false → walked.good ≡ false
  walk_bad e = ap (λ (x : Status Key). x.good) (walk_refused e) ∙ e

  -- it is entered, and the state is t
  module _ (t : Status Key) (entered : entry ≡ t) (good : t.good ≡ true) where
    walk_on : walked ≡ inner b h p t
    walk_on = walk_is b lone h p s ∙ ap (if_good (inner b h p)) entered ∙ if_is (inner b h p) t good

    fits : Fit b lone h p
    fits = fit b lone h p (either (page_fits b lone h p) (λ u. u) (λ u. contra (ap (λ (x : Status Key). x.good) entered ∙ good) (off u)))
      where
        off : page_fits b lone h p ≡ false → entry.good ≡ false
        off u = either s.good (λ g. rw (g, u)) (λ g. rw g)

    pub walk_leaf : h ≡ 0 → walked ≡ items_from (key_at b p) (record_at b p) (count_at b p) 0 t
    walk_leaf q =
        let leaf = fits.leaf ∙ eq-eqb h 0 q in
        walk_on ∙ rw (q, leaf-entries b p fits.page fits.full leaf) (items_by_number (key_at b p) (record_at b p) (count_at b p) 0 t)

    pub walk_upper : (g : ℕ) → h ≡ suc g → walked ≡ children_from (key_at b p) (lower_at b p) (walk_under b g) (count_at b p) 0 t
    walk_upper g l =
        let branch = fits.leaf ∙ ne_eqb h 0 (λ z. omega (arith, l, z)) in
        let from_zero : 0 + count_at b p ≡ count_at b p = omega arith in
        walk_on ∙ rw (l, branch-entries b p fits.page fits.full branch)
        (rw from_zero at (children_by_number (key_at b p) (lower_at b p) (walk_under b g) (count_at b p) 0 t))

-- the walk from the root tells whether the index is sound
module _ (b : List ℕ) where
  abbrev all_walked : Status Key
  all_walked = walking b true (index_height b) (root_page b) start

  pub tree_bad : all_walked.good ≡ false → tree_good b ≡ false
  unfolding tree_good
  tree_bad e = rw e

  pub tree_is : (t : Status Key) → all_walked ≡ t → tree_good b ≡ (t.good && eqb t.entered (page_count b - 1))
  unfolding tree_good
  tree_is t e = ap (complete b) e

-- what the audit answers
module _ (b : List ℕ) (n : ℕ) where
  pub audited_bad : header_good b ≡ false → n ≡ 24 → Audited b n
  audited_bad bad e = rw e (answer-bad b bad)

  pub audited_unsound : header_good b ≡ true → tree_good b ≡ false → n ≡ 25 → Audited b n
  audited_unsound good bad e = rw e (answer-unsound b good bad)

pub audited_sound : (b : List ℕ) → header_good b ≡ true → tree_good b ≡ true → Audited b 0
audited_sound b good sound = answer-sound b good sound

-- what the proofs of the functions on pages cite
pub ruleset fit_steps = (page_within, fits_never, fits_off, fits_branch, fits_leaf, count_within)

pub ruleset page_steps = (within_steps, walk_bad, walk_leaf, walk_upper, children_end, children_bad, passed_bad, children_on)

pub ruleset audit_steps = (audited_bad, audited_sound, audited_unsound)
