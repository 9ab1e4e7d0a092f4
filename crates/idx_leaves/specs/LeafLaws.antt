-- Laws: the tests of one leaf entry, and the loop over leaf entries. Cited by the proofs of the functions that do these. Assumes nothing.
use Rattle.std.specs.Prelude.{ℕ, ◌+◌, ◌-◌, ◌≤◌, ◌<◌, ◌≡◌, refl, Bool, true, false, not, ◌&&◌, List, ◌∷◌, length, eqb, Some, None}
use Rattle.std.proofs.Math.Path.{sym, ap}
use Rattle.std.proofs.Common.{◌∙◌, arith}
use Rattle.std.proofs.Math.Option.{none, some}
use borrow.Author.Tests.{eq-eqb, ne_eqb}
use Rattle.octets.specs.Bytes.{byte_at, be32}
use Rattle.octets.specs.Store.{window}
use Rattle.std.specs.declared.cmp.Ordering.{Ordering}
use Rattle.octets.specs.Order.{ordering, is_below}
use Rattle.idx_page.specs.Header.{features}
use Rattle.idx_page.specs.Page.{entry_offset, key_at, number_at}
use Rattle.idx_page.specs.PageLaws.{entry-within, entry_next}
use Rattle.idx_page.specs.Reading.{entries_from}
use Rattle.idx_sound.specs.AuditTest.{leaf_entries_good}
use Rattle.idx_keys.specs.Places.{EntriesWithin, pair_at}
use Rattle.idx_keys.specs.EntryLaws.{from_on, from_end}
use Rattle.std.specs.declared.option.Option.{Option as Place}
use Rattle.idx_leaves.specs.Leaf.{compared_bytes, leaf_entry}
use Rattle.idx_leaves.specs.ComparedLaws.{pairs_compared}

-- one entry of a leaf, by its tests
module _ (b : List ℕ) (k at z n : ℕ) (en : n ≡ be32 b (at + k)) where
  pub leaf-zero : n ≡ 0 → (before : Place ℕ) → false ≡ leaf_entry b k at before
  leaf-zero h before = rw (← en, eq-eqb n 0 h)

  -- no entry before it
  pub leaf_first : (n ≡ 0 → ⊥) → true ≡ leaf_entry b k at None
  leaf_first positive = rw (← en, ne_eqb n 0 positive)

  -- after the entry at z; o is the order of the m bytes that are compared
  pub leaf-later : (m : ℕ) (o : Ordering) (r : Bool) → (n ≡ 0 → ⊥) → ((j : ℕ) → byte_at b j < 256) → z + (k + 4) ≤ length b → at + (k + 4) ≤ length b
      → m ≡ compared_bytes (features b) k → o ≡ ordering (window b z m) (window b at m) → r ≡ is_below o → r ≡ leaf_entry b k at (Some z)
  leaf-later m o r positive small hz ha em eo er =
      er ∙ ap is_below eo ∙ pairs_compared b small k z at hz ha (features b) m em ∙ rw (← en, ne_eqb n 0 positive)

and-true : (x : Bool) → (x && true) ≡ x
and-true true = refl
and-true false = refl

-- the entries of a leaf of n entries from entry i on decide after the entry at z, if the first of them passes
module _ (b : List ℕ) (k p n : ℕ) where
  -- the loop over the entries from entry `from` on, after the entry at z₀: the entries from entry i on, of which the first begins at `at`, decide after the
  -- entry at z
  pub record LeafLoop (from z₀ i at z : ℕ) : Type 0 where
    pub place : at ≡ entry_offset k p i
    pub before : z + (k + 4) ≤ length b
    pub left : leaf_entries_good (features b) (some (pair_at b k z₀)) (entries_from b k p (n - from) from)
        ≡ leaf_entries_good (features b) (some (pair_at b k z)) (entries_from b k p (n - i) i)

  -- an entry lies within the index
  pub leaf-inside : (i at : ℕ) → EntriesWithin b k p n → i < n → at ≡ entry_offset k p i → at + (k + 4) ≤ length b
  leaf-inside i at w more e = omega (arith, (entry-within (w.each i more)).inside, e)

  module _ (from z₀ i at z : ℕ) (inv : LeafLoop from z₀ i at z) where
    pub leaf-end : n ≤ i → true ≡ leaf_entries_good (features b) (some (pair_at b k z₀)) (entries_from b k p (n - from) from)
    unfolding leaf_entries_good
    leaf-end h = sym (inv.left ∙ rw (from_end b k p n i h))

    module _ (more : i < n) (r : Bool) (er : r ≡ leaf_entry b k at (Some z)) where
      leaf-step : leaf_entries_good (features b) (some (pair_at b k z₀)) (entries_from b k p (n - from) from)
          ≡ (r && leaf_entries_good (features b) (some (key_at b k p i, number_at b k p i)) (entries_from b k p (n - (i + 1)) (i + 1)))
      unfolding leaf_entries_good
      leaf-step = inv.left ∙ rw (from_on b k p n i more, er, inv.place)

      pub leaf_off : r ≡ false → false ≡ leaf_entries_good (features b) (some (pair_at b k z₀)) (entries_from b k p (n - from) from)
      leaf_off e = sym (leaf-step ∙ rw e)

      -- an entry that passes: the entries left are good exactly if those behind it are
      pub leaf-left : r ≡ true → leaf_entries_good (features b) (some (pair_at b k z₀)) (entries_from b k p (n - from) from)
          ≡ leaf_entries_good (features b) (some (pair_at b k at)) (entries_from b k p (n - (i + 1)) (i + 1))
      leaf-left e = leaf-step ∙ rw (e, inv.place)

      pub leaf-on : r ≡ true → at + (k + 4) ≤ length b → LeafLoop from z₀ (i + 1) (at + (k + 4)) at
      leaf-on e h = record {
        place = ap (λ (x : ℕ). x + (k + 4)) inv.place ∙ sym (entry_next k p i);
        before = h;
        left = leaf-left e;
      }

  -- a leaf without entries
  pub no-entry : n ≡ 0 → true ≡ leaf_entries_good (features b) none (entries_from b k p n 0)
  unfolding leaf_entries_good entries_from
  no-entry z = rw z

  -- the first entry of all, which begins at z and has the number m
  module _ (z m : ℕ) (some-entry : n ≡ 0 → ⊥) (ez : z ≡ entry_offset k p 0) (em : m ≡ be32 b (z + k)) where
    first-step : leaf_entries_good (features b) none (entries_from b k p n 0)
        ≡ (not (eqb m 0) && leaf_entries_good (features b) (some (pair_at b k z)) (entries_from b k p (n - 1) 1))
    unfolding leaf_entries_good
    first-step =
        let all : n - 0 ≡ n = omega arith in
        let on : entries_from b k p (n - 0) 0 ≡ (key_at b k p 0, number_at b k p 0) ∷ entries_from b k p (n - 1) 1 = from_on b k p n 0 (omega (arith, some-entry)) in
        rw (rw all at on, em, ez) (ap (λ t. t && leaf_entries_good (features b) (some (key_at b k p 0, number_at b k p 0)) (entries_from b k p (n - 1) 1)) (and-true (not (eqb (number_at b k p 0) 0))))

    pub first-zero : m ≡ 0 → false ≡ leaf_entries_good (features b) none (entries_from b k p n 0)
    first-zero h = sym (first-step ∙ rw (eq-eqb m 0 h))

    pub first-later : (m ≡ 0 → ⊥) → (r : Bool) → r ≡ leaf_entries_good (features b) (some (pair_at b k z)) (entries_from b k p (n - 1) 1)
        → r ≡ leaf_entries_good (features b) none (entries_from b k p n 0)
    first-later positive r er = er ∙ sym (first-step ∙ rw (ne_eqb m 0 positive))
