-- Laws: the tests of the keys over the children of a page, down to the leaf keys that bound them, and the loop over them. Cited by the proofs of the functions
-- on these keys. Assumes nothing.
use Prim.Native.Nat.{ℕ, zero, suc, ◌+◌, ◌-◌, ◌≤◌, ◌<◌}
use Rattle.std.specs.Prelude.{◌≡◌, refl, Bool, not, ◌&&◌, List, length, eqb, Some, None}
use Rattle.std.proofs.Math.Path.{sym, ap}
use Rattle.std.proofs.Common.{◌∙◌}
use Rattle.std.proofs.Math.Bool.{true, false}
use Rattle.std.proofs.Math.Option.{none}
use native.Mathlib.Omega.{arith}
use borrow.Author.Tests.{ne_eqb}
use Rattle.basis.specs.Tests.{either}
use Rattle.octets.specs.Store.{window}
use Rattle.std.specs.declared.cmp.Ordering.TheVariants.{Less, Equal, Greater}
use Rattle.octets.specs.Order.{bytes_le, ordering, is_below, is_equal}
use Rattle.octets.specs.OrderLaws.{le_total}
use Rattle.tree.specs.Keeping.{covers_for}
use Rattle.idx_page.specs.Header.{no_page, features}
use Rattle.idx_page.specs.KeyOrder.{bytes_order}
use Rattle.idx_page.specs.KeyOrderLaws.{below, at_or_above, equal-le}
use Rattle.idx_page.specs.Page.{entry_offset, number_at}
use Rattle.idx_page.specs.Reading.{entries_at}
use Rattle.idx_page.specs.Reading.{entries_from}
use Rattle.idx_page.proofs.ReadingLaws.{entries_are}
use Rattle.idx_page.specs.Children.{first_child}
use Rattle.idx_sound.specs.AuditTest as rule
use Rattle.idx_sound.specs.AuditTest.{first_of, last_of, last_number, down, last_child, below_next, onward, upper_entries}
use Rattle.idx_sound.proofs.CeilingLaws.{onward-good, onward-bad}
use Rattle.idx_keys.specs.Places.{key_from}
use Rattle.idx_ceilings.specs.State.{upper_key, keys_of}
use Rattle.idx_keys.specs.EntryLaws.{from_on, from_end}

-- the last child
pub child-none : (b : List ℕ) (k size p n : ℕ) → n ≡ length (entries_at k size b p) → n ≡ 0 → no_page ≡ last_child b k size p
unfolding entries_from
child-none b k size p n en z = rw (entries_are b k size p n en, z)

last-number : (b : List ℕ) (k p m i x : ℕ) → last_number x (entries_from b k p (suc m) i) ≡ number_at b k p (i + m)
unfolding entries_from
last-number b k p zero i x = let e : i + 0 ≡ i = omega arith in rw e
last-number b k p (suc m) i x = let e : i + 1 + m ≡ i + suc m = omega arith in rw (← e) (last-number b k p m (i + 1) (number_at b k p i))

pub child-some : (b : List ℕ) (k size p n c : ℕ) → n ≡ length (entries_at k size b p) → (n ≡ 0 → ⊥) → c ≡ number_at b k p (n - 1) → c ≡ last_child b k size p
child-some b k size p zero c en ne ec = absurd (ne refl)
child-some b k size p (suc m) c en ne ec =
    let e : suc m - 1 ≡ 0 + m = omega arith in
    ec ∙ rw (e, entries_are b k size p (suc m) en) (sym (last-number b k p m 0 no_page))

-- the loop down: `left` levels from the page p on lead to where all h levels lead
module _ (f : ℕ → ℕ) (h q left p : ℕ) (inv : down f h q ≡ down f left p) where
  pub down-end : left ≤ 0 → p ≡ down f h q
  unfolding down
  down-end l = let none : left ≡ 0 = omega arith in sym (inv ∙ rw none)

  pub down-on : (c next : ℕ) → left ≡ suc next → c ≡ f p → down f h q ≡ down f next c
  unfolding down
  down-on c next s ec = inv ∙ ap (λ (l : ℕ). down f l p) s ∙ rw ec

and-true : (x : Bool) → x && true ≡ x
and-true true = refl
and-true false = refl

and-false : (x : Bool) → x && false ≡ false
and-false true = refl
and-false false = refl

-- a key x before a key a, by their order and a header's features f
module _ (f : ℕ) (x a : List ℕ) where
  clear-below : is_below (ordering x a) ≡ true → not (covers_for bytes_order f x a) ≡ true
  clear-below e = go f (below x a refl e)
    where
      go : (g : ℕ) → bytes_le a x ≡ false → not (covers_for bytes_order g x a) ≡ true
      go zero l = rw (le_total a x l)
      go (suc n) l = rw l

  clear_else : is_below (ordering x a) ≡ false → not (covers_for bytes_order f x a) ≡ (eqb f 0 && is_equal (ordering x a))
  clear_else e = go f (at_or_above x a refl e)
    where
      go : (g : ℕ) → bytes_le a x ≡ true → not (covers_for bytes_order g x a) ≡ (eqb g 0 && is_equal (ordering x a))
      go zero l = rw (equal-le x a l) (either (bytes_le x a) (λ u. rw u) (λ u. rw u))
      go (suc n) l = rw (l, ne_eqb (suc n) 0 (omega arith))

-- the next child, that of entry i, if there is one
module _ (b : List ℕ) (k size h p n i x : ℕ) where
  pub next-end : n ≤ i → true ≡ below_next b k size h (window b x k) (entries_from b k p (n - i) i)
  next-end l = rw (from_end b k p n i l)

  module _ (c q : ℕ) (more : i < n) (ec : c ≡ number_at b k p i) (eq : q ≡ down (first_child b k size) h c) where
    pub next-none : key_from b k None ≡ first_of (entries_at k size b q) → false ≡ below_next b k size h (window b x k) (entries_from b k p (n - i) i)
    next-none ez = rw (from_on b k p n i more, ← ec, ← eq, ← ez)

    -- by the order of the key to the first leaf key under the next child
    module _ (z : ℕ) (ez : key_from b k (Some z) ≡ first_of (entries_at k size b q)) where
      next_is : below_next b k size h (window b x k) (entries_from b k p (n - i) i) ≡ not (covers_for bytes_order (features b) (window b x k) (window b z k))
      next_is = rw (from_on b k p n i more, ← ec, ← eq, ← ez)

      pub next-less : Less ≡ ordering (window b x k) (window b z k) → true ≡ below_next b k size h (window b x k) (entries_from b k p (n - i) i)
      next-less e = sym (next_is ∙ clear-below (features b) (window b x k) (window b z k) (rw (← e)))

      -- with several records to a key the key may equal the first leaf key, else not
      pub next-equal : {several : Bool} → Equal ≡ ordering (window b x k) (window b z k) → several ≡ eqb (features b) 0
          → several ≡ below_next b k size h (window b x k) (entries_from b k p (n - i) i)
      next-equal {several} e es = sym (next_is
          ∙ clear_else (features b) (window b x k) (window b z k) (rw (← e))
          ∙ rw (← e, ← es) (and-true several))

      pub next-greater : Greater ≡ ordering (window b x k) (window b z k) → false ≡ below_next b k size h (window b x k) (entries_from b k p (n - i) i)
      next-greater e = sym (next_is
          ∙ clear_else (features b) (window b x k) (window b z k) (rw (← e))
          ∙ rw (← e) (and-false (eqb (features b) 0)))

-- one entry of a page above the leaves, by the order of the last leaf key under its child to its own key
module _ (b : List ℕ) (k size d h p n i c q : ℕ) (ec : c ≡ number_at b k p i) (eq : q ≡ down (last_child b k size) d c) where
  pub upper-none : key_from b k None ≡ last_of none (entries_at k size b q) → keys_of None ≡ upper_key b k size d h p n i
  upper-none ez = rw (← ec, ← eq, ← ez)

  module _ (z at : ℕ) (ez : key_from b k (Some z) ≡ last_of none (entries_at k size b q)) (ea : at ≡ entry_offset k p i) where
    upper-less : Less ≡ ordering (window b z k) (window b at k) → (y : Bool) → y ≡ below_next b k size h (window b at k) (entries_from b k p (n - (i + 1)) (i + 1))
        → record { good = y; exact = false } ≡ upper_key b k size d h p n i
    upper-less e y ey = rw (← ec, ← eq, ← ez, ← ea, ← e, ey)

    pub upper-below : Less ≡ ordering (window b z k) (window b at k)
        → true ≡ below_next b k size h (window b at k) (entries_from b k p (n - (i + 1)) (i + 1)) → keys_of (Some false) ≡ upper_key b k size d h p n i
    upper-below e ey = upper-less e true ey

    pub upper-beyond : Less ≡ ordering (window b z k) (window b at k)
        → false ≡ below_next b k size h (window b at k) (entries_from b k p (n - (i + 1)) (i + 1)) → keys_of None ≡ upper_key b k size d h p n i
    upper-beyond e ey = upper-less e false ey

    pub upper-equal : Equal ≡ ordering (window b z k) (window b at k) → keys_of (Some true) ≡ upper_key b k size d h p n i
    upper-equal e = rw (← ec, ← eq, ← ez, ← ea, ← e)

    pub upper-greater : Greater ≡ ordering (window b z k) (window b at k) → keys_of None ≡ upper_key b k size d h p n i
    upper-greater e = rw (← ec, ← eq, ← ez, ← ea, ← e)

-- the loop over the n entries of a page above the leaves: the entries from entry i on, after an entry that is exact if x is true, decide
abbrev pub UpperLeft : List ℕ → ℕ → ℕ → ℕ → ℕ → ℕ → ℕ → Bool → ℕ → Type 0
UpperLeft b k size d h p n x i =
    upper_entries b k size d h true (entries_at k size b p) ≡ upper_entries b k size d h x (entries_from b k p (n - i) i)

pub upper-start : (b : List ℕ) (k size d h p n : ℕ) → n ≡ length (entries_at k size b p) → UpperLeft b k size d h p n true 0
upper-start b k size d h p n en = let e : n - 0 ≡ n = omega arith in rw e (ap (upper_entries b k size d h true) (entries_are b k size p n en))

module _ (b : List ℕ) (k size d h p n : ℕ) (x : Bool) (i : ℕ) (inv : UpperLeft b k size d h p n x i) where
  pub upper-end : n ≤ i → record { good = true; exact = x } ≡ upper_entries b k size d h true (entries_at k size b p)
  unfolding upper_entries
  upper-end l = sym (inv ∙ rw (from_end b k p n i l))

  module _ (more : i < n) (r : rule.Keys) (er : r ≡ upper_key b k size d h p n i) where
    upper-step : upper_entries b k size d h true (entries_at k size b p)
        ≡ onward r (λ y. upper_entries b k size d h y (entries_from b k p (n - (i + 1)) (i + 1)))
    unfolding upper_entries
    upper-step = inv ∙ rw (from_on b k p n i more, ← er)

    pub upper_off : r.good ≡ false → r ≡ upper_entries b k size d h true (entries_at k size b p)
    upper_off e = sym (upper-step ∙ onward-bad r _ e)

    pub upper-on : r.good ≡ true → UpperLeft b k size d h p n r.exact (i + 1)
    upper-on e = upper-step ∙ onward-good r _ e
