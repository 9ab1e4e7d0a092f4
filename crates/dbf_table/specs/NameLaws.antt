-- Laws: the rule of names is document 01's sentence: a name is good exactly if its first n bytes, n from 1 to 10, are A-Z, 0-9 or underscore, the first
-- a letter, and all others to byte 10 are zero. Assumes nothing.
use Prim.Native.Nat.{ℕ, zero, suc, ◌+◌, ◌≤◌, ◌<◌}
use Rattle.std.specs.Prelude.{◌≡◌, refl, false, not, ◌&&◌, ◌⊎◌, List, eqb, ltb}
use Rattle.std.proofs.Common.{sym, eq-or-lt_of_le, le_of_suc-le-suc, le_refl, add-one}
use Rattle.std.proofs.Math.Bool.{true}
use Rattle.std.proofs.Math.Logic.{inl, inr, ⊎_elim}
use native.Mathlib.Omega.{arith}
use Rattle.std.proofs.Math.Dec.{eqb-suc-zero}
use borrow.Author.Tests.{ltb-true, ltb-false, eqb-true, eqb-false, eq-eqb, not-true}
use Rattle.basis.specs.Tests.{either, contra, both, join}
use Rattle.octets.specs.Bytes.{byte_at}
use Rattle.dbf_table.specs.Range.{all_below, any_below}
use Rattle.dbf_table.specs.RangeLaws.{all-at, all-each}
use Rattle.dbf_table.specs.Table.{is_letter, is_name_byte, may_follow, name_goes_on, name_good, name_taken}

-- n bytes of a name, and zeros to byte 10
pub record NameOf (b : List ℕ) (at n : ℕ) : Type 0 where
  pub some : 1 ≤ n
  pub few : n ≤ 10
  pub letter : is_letter (byte_at b at) ≡ true
  pub named : (k : ℕ) → k < n → is_name_byte (byte_at b (at + k)) ≡ true
  pub zeros : (k : ℕ) → n ≤ k → k ≤ 10 → byte_at b (at + k) ≡ 0

-- a name of n bytes, as far as the bytes to byte m tell
record Ended (b : List ℕ) (at m n : ℕ) : Type 0 where
  some : 1 ≤ n
  few : n ≤ m
  named : (k : ℕ) → k < n → is_name_byte (byte_at b (at + k)) ≡ true
  zeros : (k : ℕ) → n ≤ k → k ≤ m → byte_at b (at + k) ≡ 0

-- zero is no byte of a name
name-byte : (c : ℕ) → is_name_byte c ≡ true → eqb c 0 ≡ false
unfolding is_name_byte is_letter
name-byte zero e = contra refl (sym e)
name-byte (suc c) e = eqb-suc-zero c

letter-name : (c : ℕ) → is_letter c ≡ true → is_name_byte c ≡ true
unfolding is_name_byte
letter-name c e = rw e

-- which byte may follow
follow-zero : (x c : ℕ) → c ≡ 0 → may_follow x c ≡ true
unfolding may_follow
follow-zero x c e = rw (eq-eqb c 0 e)

follow-name : (x c : ℕ) → is_name_byte x ≡ true → is_name_byte c ≡ true → may_follow x c ≡ true
unfolding may_follow
follow-name x c h e = rw (name-byte c e, e, name-byte x h)

follows : (x c : ℕ) → may_follow x c ≡ true → (c ≡ 0) ⊎ ((is_name_byte c ≡ true) × (eqb x 0 ≡ false))
unfolding may_follow
follows x c e =
    either (eqb c 0) (λ z. inl (eqb-true c 0 z))
    (λ z. let parts = both (is_name_byte c) (not (eqb x 0)) (rw z at e) in inr (parts.0, not-true (eqb x 0) parts.1))

module _ (b : List ℕ) (at : ℕ) where
  next : (k : ℕ) → at + k + 1 ≡ at + (k + 1)
  next k = omega arith

  goes_on : (n : ℕ) → NameOf b at n → (k : ℕ) → k < 10 → name_goes_on b at k ≡ true
  unfolding name_goes_on
  goes_on n name k l =
      rw (next k) (either (ltb (k + 1) n)
      (λ e. let below : k + 1 < n = ltb-true (k + 1) n e in follow-name _ _ (name.named k (omega arith)) (name.named (k + 1) below))
      (λ e. follow-zero _ _ (name.zeros (k + 1) (ltb-false (k + 1) n e) (omega arith))))

  pub name-good : (n : ℕ) → NameOf b at n → name_good b at ≡ true
  unfolding name_good
  name-good n name =
      join _ _ (join _ _ name.letter (all-each (name_goes_on b at) 10 (goes_on n name))) (eq-eqb _ 0 (name.zeros 10 name.few (omega arith)))

  abbrev Goes : ℕ → Type 0
  Goes m = (k : ℕ) → k ≤ m → is_name_byte (byte_at b (at + k)) ≡ true

  -- one byte more
  goes_more : (m : ℕ) → Goes m → is_name_byte (byte_at b (at + suc m)) ≡ true → Goes (suc m)
  goes_more m g e k l = ⊎_elim (λ (q : k ≡ suc m). rw q e) (λ lt. g k (le_of_suc-le-suc lt)) (eq-or-lt_of_le l)

  ends-here : (m : ℕ) → Goes m → byte_at b (at + suc m) ≡ 0 → Ended b at (suc m) (suc m)
  ends-here m g e = record {
    some = omega arith;
    few = omega arith;
    named = λ k l. g k (le_of_suc-le-suc l);
    zeros = λ k l h. let q : k ≡ suc m = omega arith in rw q e;
  }

  ended-more : (m n : ℕ) → Ended b at m n → byte_at b (at + suc m) ≡ 0 → Ended b at (suc m) n
  ended-more m n d e = record {
    some = d.some;
    few = omega arith;
    named = d.named;
    zeros = λ k l h. ⊎_elim (λ (q : k ≡ suc m). rw q e) (λ lt. d.zeros k l (le_of_suc-le-suc lt)) (eq-or-lt_of_le h);
  }

  -- the bytes to byte m are all of a name, or the name has ended
  so_far : is_letter (byte_at b at) ≡ true → ((k : ℕ) → k < 10 → name_goes_on b at k ≡ true) → (m : ℕ) → m ≤ 10
      → Goes m ⊎ ((n : ℕ) × Ended b at m n)
  unfolding name_goes_on
  so_far letter on zero l = inl (λ k h. let q : at + k ≡ at = omega arith in rw q (letter-name _ letter))
  so_far letter on (suc m) l =
      let step : may_follow (byte_at b (at + m)) (byte_at b (at + suc m)) ≡ true = rw (next m, add-one) at (on m l) in
      ⊎_elim
      (λ g. ⊎_elim (λ z. inr (suc m, ends-here m g z)) (λ p. inl (goes_more m g p.0)) (follows _ _ step))
      (λ d. ⊎_elim (λ z. inr (d.0, ended-more m d.0 d.1 z))
      (λ p. absurd (eqb-false _ 0 p.1 (d.1.zeros m d.1.few (le_refl m)))) (follows _ _ step))
      (so_far letter on m (omega arith))

  pub good-name : name_good b at ≡ true → (n : ℕ) × NameOf b at n
  unfolding name_good
  good-name e =
      let parts = both (is_letter (byte_at b at) && all_below (name_goes_on b at) 10) (eqb (byte_at b (at + 10)) 0) e in
      let first = both (is_letter (byte_at b at)) (all_below (name_goes_on b at) 10) parts.0 in
      ⊎_elim (λ g. contra parts.1 (name-byte _ (g 10 (le_refl 10))))
      (λ d. (d.0, record { some = d.1.some; few = d.1.few; letter = first.0; named = d.1.named; zeros = d.1.zeros }))
      (so_far first.0 (all-at (name_goes_on b at) 10 first.1) 10 (le_refl 10))

-- the first name has none before it
pub first-name-free : (b : List ℕ) (n : ℕ) → n ≤ 1 → any_below (name_taken b) n ≡ false
unfolding any_below name_taken
first-name-free b zero l = refl
first-name-free b (suc zero) l = refl
first-name-free b (suc (suc n)) l = absurd (omega arith)
