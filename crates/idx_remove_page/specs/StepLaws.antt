-- Laws: the cases of removal's steps, each from what leads to it, and that an emptied page is a page of the buffer. Cited by the proofs of the functions.
-- Assumes nothing.
use Prim.Native.Nat.{ℕ, zero, suc, ◌-◌, ◌≤◌, ◌<◌}
use Rattle.std.specs.Prelude.{◌≡◌, refl, true, Some, List, [], ◌∷◌, length}
use Rattle.std.proofs.Common.{sym, ap, ◌∙◌, lt-ltb, le-ltb}
use native.Mathlib.Omega.{arith}
use Rattle.basis.specs.Tests.{either, impossible}
use Rattle.idx_page.specs.Header.{max_levels, is_page, root_offset, key_length}
use Rattle.idx_page.specs.Reading.{Item}
use Rattle.idx_page.specs.declared.PageOffset.{PageOffset}
use Rattle.idx_leaf.specs.Leaf.{items_in, stored, place_in}
use Rattle.idx_layout.specs.Layout.{with_entries, unlinked, freed}
use Rattle.idx_entries.specs.Entries.{without_entry}
use Rattle.idx_route.specs.Visits.{visit_of}
use Rattle.idx_route.specs.VisitLaws.{visited-bad, visited-leaf, visited-child}
use Rattle.idx_entries.proofs.FitLaws.{length_without}
use Rattle.idx_remove_page.specs.Removal.{Outcome as RuleOutcome, kept, emptied, bad, Step, step}
use Rattle.idx_remove_page.specs.Removal.{left_with, take_out, after_child, remove_under, at_root, removed_buffer}
use Rattle.idx_remove_page.specs.Answers.{outcome_of, EmptiedPage}
use Rattle.idx_remove_page.specs.declared.Outcome.{Outcome}
use Rattle.idx_remove_page.specs.declared.Outcome.TheVariants.{Kept, Emptied}
use Rattle.idx_route.specs.declared.Visit.TheVariants as visit

-- a page by the entries that it is left with
left-none : (es : List Item) → length es ≡ 0 → left_with es ≡ emptied
left-none [] h = refl
left-none (x ∷ xs) h = absurd (omega arith)

left-some : (es : List Item) → (length es ≡ 0 → ⊥) → left_with es ≡ kept
left-some [] h = absurd (h refl)
left-some (x ∷ xs) h = refl

-- an entry goes from a page with n entries, which keeps some or is emptied; or the page has no such entry
module _ (k : ℕ) (b : List ℕ) (p i : ℕ) {n : ℕ} (count : n ≡ length (items_in k b p)) where
  pub takes_none : n ≤ i → take_out k b p i ≡ step b bad
  unfolding take_out
  takes_none h = rw (le-ltb i (length (items_in k b p)) (omega arith))

  module _ {es : List Item} {out : List ℕ} (h : i < n) (g : es ≡ without_entry i (items_in k b p)) (e : out ≡ with_entries b p es) where
    fewer : length (without_entry i (items_in k b p)) ≡ n - 1
    fewer = length_without i (items_in k b p) (omega arith) ∙ rw (← count)

    pub takes-last : n - 1 ≡ 0 → take_out k b p i ≡ step out emptied
    unfolding take_out
    takes-last z = rw (lt-ltb i (length (items_in k b p)) (omega arith), left-none (without_entry i (items_in k b p)) (fewer ∙ z), e, g)

    pub takes_one : (n - 1 ≡ 0 → ⊥) → take_out k b p i ≡ step out kept
    unfolding take_out
    takes_one s = rw (lt-ltb i (length (items_in k b p)) (omega arith), left-some (without_entry i (items_in k b p)) (λ z. s (sym fewer ∙ z)), e, g)

-- a page loses its entry after its child at c was unlinked and freed
pub after-emptied : (k : ℕ) (b : List ℕ) (p i c : ℕ) {b1 b2 : List ℕ} {s : Step} → b1 ≡ unlinked b c → b2 ≡ freed b1 c → take_out k b2 p i ≡ s
    → after_child k b p i c emptied ≡ s
after-emptied k b p i c e1 e2 t = rw (← e1, ← e2) t

-- removal by cases of the visit
module _ (b : List ℕ) (item : Item) (p : ℕ) where
  pub under-bad : (levels : ℕ) → (levels ≡ 0 → ⊥) → visit.Bad ≡ visit_of b item p → remove_under (length item.0) levels b item p ≡ step b bad
  unfolding remove_under
  under-bad zero some e = absurd (some refl)
  under-bad (suc left) some e = rw (visited-bad b item p e)

  pub under-leaf : (levels : ℕ) → (levels ≡ 0 → ⊥) → visit.Leaf ≡ visit_of b item p
      → remove_under (length item.0) levels b item p ≡ take_out (length item.0) b p (place_in b item (items_in (length item.0) b p))
  unfolding remove_under
  under-leaf zero some e = absurd (some refl)
  under-leaf (suc left) some e = let v = visited-leaf b item p e in rw (v.0, v.1)

  pub under-child : (levels i : ℕ) (c : PageOffset) {b' : List ℕ} {o : RuleOutcome} → (levels ≡ 0 → ⊥) → visit.Child i c ≡ visit_of b item p
      → remove_under (length item.0) (levels - 1) b item c.0 ≡ step b' o
      → remove_under (length item.0) levels b item p ≡ after_child (length item.0) b' p i c.0 o
  unfolding remove_under
  under-child zero i c some e d = absurd (some refl)
  under-child (suc left) i c some e d =
      let v = visited-child b item p i c e in
      let f : suc left - 1 ≡ left = omega arith in
      rw (v.0, v.1, ← v.3, rw f at d, v.2)

-- an emptied page is a page of the buffer
bad-emptied : {X : Type 0} → bad ≡ emptied → X
bad-emptied e = impossible cc

emptied-page : (k left : ℕ) (b : List ℕ) (item : Item) (p : ℕ) → (remove_under k left b item p).outcome ≡ emptied → is_page (length b) p ≡ true
unfolding remove_under
emptied-page k zero b item p e = bad-emptied e
emptied-page k (suc left) b item p e = either (is_page (length b) p) (λ t. t) (λ t. bad-emptied (rw t at e))

pub emptied-fits : (k left : ℕ) (b : List ℕ) (item : Item) (p : ℕ) {out : List ℕ} (o : Outcome)
    → remove_under k left b item p ≡ step out (outcome_of (Some o)) → EmptiedPage (length b) p o
emptied-fits k left b item p Kept e = tt
emptied-fits k left b item p Emptied e = emptied-page k left b item p (ap (λ (s : Step). s.outcome) e)

pub emptied_is : (n p : ℕ) (o : Outcome) → o ≡ Emptied → EmptiedPage n p o → is_page n p ≡ true
emptied_is n p o e h = rw e at h

-- the whole removal
pub pair_removed : (b key : List ℕ) (r : ℕ) {root : ℕ} {b' out : List ℕ} {o : RuleOutcome} → length key ≡ key_length b → root ≡ root_offset b
    → remove_under (length key) max_levels b (stored key r) root ≡ step b' o → out ≡ at_root b' root o → out ≡ removed_buffer (key_length b) b key r
unfolding removed_buffer
pair_removed b key r ek er e q = q ∙ rw (← ek, ← er, e)
