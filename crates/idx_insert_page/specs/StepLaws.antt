-- Laws: the cases of insertion's steps, each from what leads to it, and that the supply lasts for the page above. Cited by the proofs of the functions.
-- Assumes nothing.
use Prim.Native.Nat.{ℕ, zero, suc, ◌+◌, ◌-◌, ◌≤◌, ◌<◌}
use Rattle.std.specs.Prelude.{◌≡◌, refl, true, false, Option, Some, List, length, leb, ltb}
use Rattle.std.proofs.Common.{ap, ◌∙◌, le-leb, lt-ltb, le-ltb}
use native.Mathlib.Omega.{arith}
use Rattle.std.proofs.lemmas.Bool.{lt-leb}
use Rattle.basis.specs.Tests.{either, impossible}
use Rattle.tree.specs.Pairs.{insert_pair}
use Rattle.idx_page.specs.Header.{max_levels, no_page, is_page, root_offset, key_length, features}
use Rattle.idx_page.specs.Page.{attribute_at, leaf_bit, capacity}
use Rattle.idx_page.specs.Reading.{Item}
use Rattle.idx_page.specs.EntryOrder.{item_order}
use Rattle.idx_page.specs.declared.PageOffset.{PageOffset}
use Rattle.idx_supply.specs.declared.Supply.{Supply}
use Rattle.idx_supply.specs.declared.Taken.{Taken}
use Rattle.idx_supply.specs.Given.{Lasts}
use Rattle.idx_supply.specs.Supply.{supply_of, take_page, with_supply}
use Rattle.idx_supply.specs.SupplyLaws.{taken_lasts}
use Rattle.idx_leaf.specs.Leaf.{items_in, stored}
use Rattle.idx_route.specs.Route.{chosen_at, child_of}
use Rattle.idx_layout.specs.Layout.{with_root, with_entries, new_page, split_page}
use Rattle.idx_entries.specs.Entries.{replaced, two_for, root_entries}
use Rattle.idx_route.specs.Visits.{visit_of}
use Rattle.idx_route.specs.VisitLaws.{visited-bad, visited-leaf, visited-child}
use Rattle.idx_route.specs.declared.Visit.TheVariants as visit
use Rattle.idx_insert_page.specs.Insertion.{Outcome as RuleOutcome, kept, split, bad, Step, step, take_in, after_child, insert_under, at_root, inserted_buffer}
use Rattle.idx_insert_page.specs.Answers.{with_new, outcome_of, NextFits}
use Rattle.idx_insert_page.specs.declared.Outcome.{Outcome}

-- the three outcomes differ
kept-split : {X : Type 0} {s t : Supply} {q : ℕ} → kept s ≡ split q t → X
kept-split e = impossible cc

bad-split : {X : Type 0} {q : ℕ} {t : Supply} → bad ≡ split q t → X
bad-split e = impossible cc

same-split : {p q : ℕ} {s t : Supply} → split p s ≡ split q t → t ≡ s
same-split e = cc

-- a page that gets entries holds them, is split, or stays if there is no page for the rest
module _ (k : ℕ) (b : List ℕ) (p : ℕ) (es : List Item) (s : Supply) where
  pub takes-kept : {out : List ℕ} → length es ≤ capacity k → out ≡ with_entries b p es → take_in k b p es s ≡ step out (kept s)
  unfolding take_in
  takes-kept h e = rw (le-leb _ _ h, e)

  module _ {new : Taken} (taken : new ≡ take_page b s) where
    pub takes-split : {out : List ℕ} → capacity k < length es → is_page (length b) new.page.0 ≡ true → out ≡ split_page b p es new.page.0
        → take_in k b p es s ≡ step out (split new.page.0 new.rest)
    unfolding take_in
    takes-split h t e = rw (lt-leb _ _ h, ← taken, t, e)

    pub takes_none : capacity k < length es → is_page (length b) new.page.0 ≡ false → take_in k b p es s ≡ step b bad
    unfolding take_in
    takes_none h t = rw (lt-leb _ _ h, ← taken, t)

-- insertion by cases of the visit
module _ (b : List ℕ) (item : Item) (p : ℕ) (s : Supply) where
  pub under-bad : (levels : ℕ) → (levels ≡ 0 → ⊥) → visit.Bad ≡ visit_of b item p → insert_under (length item.0) levels b item p s ≡ step b bad
  unfolding insert_under
  under-bad zero some e = absurd (some refl)
  under-bad (suc left) some e = rw (visited-bad b item p e)

  pub under-leaf : (levels : ℕ) → (levels ≡ 0 → ⊥) → visit.Leaf ≡ visit_of b item p
      → insert_under (length item.0) levels b item p s
      ≡ take_in (length item.0) b p (insert_pair (item_order (features b)) item (items_in (length item.0) b p)) s
  unfolding insert_under
  under-leaf zero some e = absurd (some refl)
  under-leaf (suc left) some e = let v = visited-leaf b item p e in rw (v.0, v.1)

  pub under-child : (levels i : ℕ) (c : PageOffset) {b' : List ℕ} {o : RuleOutcome} → (levels ≡ 0 → ⊥) → visit.Child i c ≡ visit_of b item p
      → insert_under (length item.0) (levels - 1) b item c.0 s ≡ step b' o
      → insert_under (length item.0) levels b item p s ≡ after_child (length item.0) b' item.0 p i c.0 o
  unfolding insert_under
  under-child zero i c some e d = absurd (some refl)
  under-child (suc left) i c some e d =
      let v = visited-child b item p i c e in
      let f : suc left - 1 ≡ left = omega arith in
      rw (v.0, v.1, ← v.3, rw f at d, v.2)

-- a supply that lasts for a page on each level left and for m more lasts for m after a split
split-here : (k : ℕ) (b : List ℕ) (p : ℕ) (es : List Item) (s : Supply) (q : ℕ) (t : Supply) → (take_in k b p es s).outcome ≡ split q t
    → t ≡ (take_page b s).rest
unfolding take_in
split-here k b p es s q t e = either (leb (length es) (capacity k))
    (λ u. kept-split (rw u at e))
    (λ u. either (is_page (length b) (take_page b s).page.0) (λ v. same-split (rw (u, v) at e)) (λ v. bad-split (rw (u, v) at e)))

take_in_lasts : (k : ℕ) (b : List ℕ) (p : ℕ) (es : List Item) (s : Supply) (q : ℕ) (t : Supply) (m : ℕ) → Lasts (m + 1) s
    → (take_in k b p es s).outcome ≡ split q t → Lasts m t
take_in_lasts k b p es s q t m h e = rw (split-here k b p es s q t e) (taken_lasts m b s h)

after_lasts : (k : ℕ) (b key : List ℕ) (p i c : ℕ) (o : RuleOutcome) (q : ℕ) (t : Supply) (m : ℕ)
    → ((x : ℕ) (y : Supply) → o ≡ split x y → Lasts (m + 1) y) → (after_child k b key p i c o).outcome ≡ split q t → Lasts m t
after_lasts k b key p i c (kept s) q t m h e = kept-split e
after_lasts k b key p i c (split x y) q t m h e = either (ltb i (length (items_in k b p)))
    (λ u. take_in_lasts k b p _ y q t m (h x y refl) (rw u at e))
    (λ u. bad-split (rw u at e))
after_lasts k b key p i c bad q t m h e = bad-split e

split_lasts : (k left : ℕ) (b : List ℕ) (item : Item) (p : ℕ) (s : Supply) (q : ℕ) (t : Supply) (m : ℕ) → Lasts (left + m) s
    → (insert_under k left b item p s).outcome ≡ split q t → Lasts m t
unfolding insert_under
split_lasts k zero b item p s q t m h e = bad-split e
split_lasts k (suc left) b item p s q t m h e =
    let es = items_in k b p in
    let i = chosen_at b item es in
    let c = child_of i es in
    let below = insert_under k left b item c s in
    either (is_page (length b) p)
    (λ u. either (leaf_bit (attribute_at b p))
    (λ v. take_in_lasts k b p (insert_pair (item_order (features b)) item es) s q t m (omega (arith, h)) (rw (u, v) at e))
    (λ v. after_lasts k below.after item.0 p i c below.outcome q t m (λ x y f. split_lasts k left b item c s x y (m + 1) (omega (arith, h)) f)
    (rw (u, v) at e)))
    (λ u. bad-split (rw u at e))

pub next_fits : (k left : ℕ) (b : List ℕ) (item : Item) (p : ℕ) (s : Supply) {out : List ℕ} (o : Outcome)
    → insert_under k left b item p s ≡ step out (outcome_of (Some o)) → Lasts (left + 1) s → NextFits o
next_fits k left b item p s o e h q f =
    let g : (insert_under k left b item p s).outcome ≡ split q.0 o.supply =
    ap (λ (x : Step). x.outcome) e ∙ ap (λ (x : Option PageOffset). with_new x o.supply) f in
    split_lasts k left b item p s q.0 o.supply 1 h g

-- a page above one that was split gets the rule's entries; a page without entry i has none to replace
module _ (k : ℕ) (b key : List ℕ) (p i c q : ℕ) (s : Supply) where
  pub two_for_some : (es : List Item) {out : Step} → i < length (items_in k b p) → es ≡ replaced i (two_for k b key c q) (items_in k b p)
      → take_in k b p es s ≡ out → after_child k b key p i c (split q s) ≡ out
  two_for_some es h g e = rw (lt-ltb i (length (items_in k b p)) h, ← g) e

  pub two_for_none : length (items_in k b p) ≤ i → after_child k b key p i c (split q s) ≡ step b bad
  two_for_none h = rw (le-ltb i (length (items_in k b p)) h)

-- the new root is taken from the supply that the split of the old one left
module _ (b key : List ℕ) (p q : ℕ) (s : Supply) {new : Taken} (taken : new ≡ take_page b s) where
  pub root_none : is_page (length b) new.page.0 ≡ false → b ≡ at_root (length key) b key p (split q s)
  root_none t = rw (← taken, t)

  pub root-new : {es : List Item} {l1 l2 l3 : List ℕ} → is_page (length b) new.page.0 ≡ true → es ≡ root_entries (length key) b key p q
      → l1 ≡ new_page b new.page.0 1 no_page no_page es → l2 ≡ with_root l1 new.page.0 → l3 ≡ with_supply l2 new.rest
      → l3 ≡ at_root (length key) b key p (split q s)
  root-new t e e1 e2 e3 = rw (← taken, t) (e3 ∙ rw (e2, e1, e))

-- the whole insertion
pub pair_inserted : (b key : List ℕ) (r : ℕ) {root : ℕ} {supply : Supply} {b' out : List ℕ} {o : RuleOutcome}
    → length key ≡ key_length b → root ≡ root_offset b → supply ≡ supply_of b → insert_under (length key) max_levels b (stored key r) root supply ≡ step b' o
    → out ≡ at_root (length key) b' key root o → out ≡ inserted_buffer (key_length b) b key r
unfolding inserted_buffer
pair_inserted b key r ek er es e q = q ∙ rw (← ek, ← er, ← es, e)
