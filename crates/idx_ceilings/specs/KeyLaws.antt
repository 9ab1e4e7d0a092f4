-- Laws: the audit's second pass: the loops over the pages of a level and over the first children, the way from level to level, and its answer. Cited by the
-- proofs of the functions that do these. Assumes nothing.
use Prim.Native.Nat.{ℕ, suc, ◌+◌, ◌-◌, ◌≤◌, ◌<◌}
use Rattle.std.specs.Prelude.{◌≡◌, refl, Bool, true, false, cond, ◌&&◌, List, Some, None, is_some}
use Rattle.std.specs.declared.option.Option.{Option}
use Rattle.std.proofs.Math.Path.{sym, ap}
use Rattle.std.proofs.Common.{◌∙◌}
use native.Mathlib.Omega.{arith}
use Rattle.idx_page.specs.Header.{max_levels, is_page, root_offset, file_size, key_length}
use Rattle.idx_page.specs.Page.{right_at}
use Rattle.idx_page.specs.Reading.{entries_at}
use Rattle.idx_page.specs.Children.{is_leaf, first_child}
use Rattle.idx_sound.specs.AuditTest.{max_pages, Keys, chain, onward, height_of, upper_entries, upper_pages, upper_levels, keys_above_good}
use Rattle.idx_sound.proofs.CeilingLaws.{onward-good, onward-bad}
use Rattle.idx_ceilings.specs.State.{keys_of}
use Rattle.idx_keys.specs.FileLaws.{chain-none, chain-some}

module _ (b : List ℕ) (k size : ℕ) where
  -- the loop over the pages of a level, whose children have h levels under them: of all pages, the pages from p on, `left` at most, after pages that are exact
  -- if x is true, decide
  abbrev pub UpperPagesLeft : ℕ → ℕ → ℕ → Bool → ℕ → ℕ → Type 0
  UpperPagesLeft d h first x p left = upper_pages b k size d h true (chain b size max_pages first) ≡ upper_pages b k size d h x (chain b size left p)

  module _ (d h first : ℕ) (x : Bool) (p left : ℕ) (inv : UpperPagesLeft d h first x p left) where
    pub upper-pages-none : is_page size p ≡ false → record { good = true; exact = x } ≡ upper_pages b k size d h true (chain b size max_pages first)
    unfolding upper_pages
    upper-pages-none e = sym (inv ∙ rw (chain-none b k size 0 p left e))

    pub upper-pages-end : left ≤ 0 → record { good = true; exact = x } ≡ upper_pages b k size d h true (chain b size max_pages first)
    unfolding chain upper_pages
    upper-pages-end l = let none : left ≡ 0 = omega arith in sym (inv ∙ rw none)

    module _ (r : Keys) (more : 0 < left) (page : is_page size p ≡ true) (er : r ≡ upper_entries b k size d h true (entries_at k size b p)) where
      upper-pages-step : (q : ℕ) → q ≡ right_at b p → upper_pages b k size d h true (chain b size max_pages first)
          ≡ onward r (λ y. upper_pages b k size d h (x && y) (chain b size (left - 1) q))
      unfolding upper_pages
      upper-pages-step q eq = inv ∙ rw (chain-some b k size 0 p left q (omega (arith, more)) page eq, ← er)

      pub upper-pages_off : r.good ≡ false → r ≡ upper_pages b k size d h true (chain b size max_pages first)
      upper-pages_off e = sym (upper-pages-step (right_at b p) refl ∙ onward-bad r _ e)

      pub upper-pages-on : (q next : ℕ) → q ≡ right_at b p → r.good ≡ true → next ≡ left - 1 → UpperPagesLeft d h first (x && r.exact) q next
      upper-pages-on q next eq e en = rw en (upper-pages-step q eq ∙ onward-good r _ e)

  -- the levels: the leaves, and a level above them after the level below, whose first page is c
  pub upper-levels-end : (height first : ℕ) → height ≡ 0 → record { good = true; exact = true } ≡ upper_levels b k size height first
  unfolding upper_levels
  upper-levels-end height first e = rw e

  module _ (height first c : ℕ) (r : Keys) (more : height ≡ 0 → ⊥) (ec : c ≡ first_child b k size first) (er : r ≡ upper_levels b k size (height - 1) c) where
    upper-levels-step : upper_levels b k size height first
        ≡ onward r (λ y. upper_pages b k size (cond y 0 (height - 1)) (height - 1) true (chain b size max_pages first))
    unfolding upper_levels
    upper-levels-step =
        let s : height ≡ suc (height - 1) = omega (arith, more) in
        ap (λ (l : ℕ). upper_levels b k size l first) s ∙ rw (er, ec)

    pub upper-levels_off : r.good ≡ false → r ≡ upper_levels b k size height first
    upper-levels_off e = sym (upper-levels-step ∙ onward-bad r _ e)

    pub upper-levels-on : (d : ℕ) (s : Keys) → r.good ≡ true → d ≡ cond r.exact 0 (height - 1)
        → s ≡ upper_pages b k size d (height - 1) true (chain b size max_pages first) → s ≡ upper_levels b k size height first
    upper-levels-on d s e ed es = es ∙ rw ed (sym (upper-levels-step ∙ onward-good r _ e))

module _ (b : List ℕ) (k size : ℕ) where
  -- the loop down the first children: `done` levels were gone down to the page p
  abbrev pub HeightLeft : ℕ → ℕ → ℕ → Type 0
  HeightLeft root done p = height_of b k size (max_levels - 1) root ≡ done + height_of b k size (max_levels - 1 - done) p

  module _ (root done p : ℕ) (inv : HeightLeft root done p) where
    pub height-end : max_levels - 1 ≤ done → done ≡ height_of b k size (max_levels - 1) root
    unfolding height_of
    height-end h = let z : max_levels - 1 - done ≡ 0 = omega arith in sym (inv ∙ rw z (omega arith))

    module _ (more : done < max_levels - 1) where
      pub height-leaf : is_leaf b size p ≡ true → done ≡ height_of b k size (max_levels - 1) root
      unfolding height_of
      height-leaf e =
          let s : max_levels - 1 - done ≡ suc (max_levels - 1 - (done + 1)) = omega arith in
          sym (inv ∙ rw (s, height_of, e) (omega arith))

      pub height-on : (q : ℕ) → q ≡ first_child b k size p → is_leaf b size p ≡ false → HeightLeft root (done + 1) q
      unfolding height_of
      height-on q eq e =
          let s : max_levels - 1 - done ≡ suc (max_levels - 1 - (done + 1)) = omega arith in
          inv ∙ rw (s, height_of, e, eq) (omega arith)

-- the answer of the whole pass
some-good : (r : Option Bool) → is_some r ≡ (keys_of r).good
some-good None = refl
some-good (Some exact) = refl

pub keys-answer : (b d : List ℕ) (k size root h : ℕ) (r : Option Bool) → d ≡ b → k ≡ key_length b → size ≡ file_size b → root ≡ root_offset d
    → h ≡ height_of d k size (max_levels - 1) root → keys_of r ≡ upper_levels d k size h root → is_some r ≡ keys_above_good b
unfolding keys_above_good
keys-answer b d k size root h r eb ek es er eh e = some-good r ∙ ap (λ (s : Keys). s.good) e ∙ rw (eh, er, ek, es, eb)
