-- Laws: how the code finds what is wrong with an input; something is wrong exactly if the input is 40. Assumes nothing.
use Rattle.std.specs.Prelude.{ℕ, suc, ◌+◌, ◌-◌, ◌≤◌, ◌<◌, ◌≡◌, refl, Bool, true, false, cond, List, length, eqb, leb, Result, Ok, Err}
use Rattle.std.proofs.Common.{sym, ◌∙◌, arith}
use borrow.Author.Tests.{le-leb, lt-leb, leb-false, eq-eqb, ne_eqb, eqb-false}
use Rattle.basis.specs.Tests.{either, contra, join, first_arm, impossible}
use Rattle.octets.specs.Bytes.{byte_at}
use Rattle.dilute_sheet.specs.Input.{Line, line_feed, digits_at, line_good, line_at, request_of, input_of}
use Rattle.dilute_sheet.specs.InputLaws.{next-some, input_asked}
use Rattle.dilute_sheet.specs.Fault.{carriage_return, wrong_at, wrong_after, fault, fault_from, input_fault}
use Rattle.dilute_sheet.specs.declared.input.Request.{Request}
use Rattle.dilute_sheet.specs.declared.input.Wrong.TheVariants.{Nothing, Missing, TooLong, Unended, CarriageReturn, OtherByte, Empty}

-- ---- a line; its digits end at `end`

module _ (s : List ℕ) (at end : ℕ) (is : end ≡ at + length (digits_at s at)) where
  pub wrong_missing : length s ≤ at → wrong_at s at ≡ Missing
  unfolding wrong_at
  wrong_missing l = rw (le-leb (length s) at l)

  module _ (some : at < length s) where
    pub wrong_long : 10 < end - at → wrong_at s at ≡ TooLong
    unfolding wrong_at
    wrong_long l = rw (lt-leb (length s) at some, le-leb 11 (length (digits_at s at)) (omega arith))

    module _ (few : end - at ≤ 10) where
      pub wrong_unended : length s ≤ end → wrong_at s at ≡ Unended
      unfolding wrong_at
      wrong_unended l = rw (lt-leb (length s) at some, lt-leb 11 (length (digits_at s at)) (omega arith), ← is, le-leb (length s) end l)

      module _ (ended : end < length s) where
        -- past the tests of the lengths, the byte behind the digits decides
        by_byte : wrong_at s at ≡ cond (eqb (byte_at s end) carriage_return) CarriageReturn
            (cond (eqb (byte_at s end) line_feed) (cond (eqb (length (digits_at s at)) 0) Empty Nothing) OtherByte)
        unfolding wrong_at
        by_byte = rw (lt-leb (length s) at some, lt-leb 11 (length (digits_at s at)) (omega arith), ← is, lt-leb (length s) end ended)

        pub wrong_return : byte_at s end ≡ carriage_return → wrong_at s at ≡ CarriageReturn
        wrong_return e = by_byte ∙ rw (eq-eqb (byte_at s end) carriage_return e)

        module _ (other : byte_at s end ≡ carriage_return → ⊥) where
          pub wrong_byte : (byte_at s end ≡ line_feed → ⊥) → wrong_at s at ≡ OtherByte
          wrong_byte h = by_byte ∙ rw (ne_eqb (byte_at s end) carriage_return other, ne_eqb (byte_at s end) line_feed h)

          module _ (feed : byte_at s end ≡ line_feed) where
            by_count : wrong_at s at ≡ cond (eqb (length (digits_at s at)) 0) Empty Nothing
            by_count = by_byte ∙ rw (ne_eqb (byte_at s end) carriage_return other, eq-eqb (byte_at s end) line_feed feed)

            pub wrong_empty : end ≡ at → wrong_at s at ≡ Empty
            wrong_empty e = let none : length (digits_at s at) ≡ 0 = omega arith in by_count ∙ rw (eq-eqb (length (digits_at s at)) 0 none)

            pub wrong_nothing : (end ≡ at → ⊥) → wrong_at s at ≡ Nothing
            wrong_nothing h = by_count ∙ rw (ne_eqb (length (digits_at s at)) 0 (λ e. h (omega (arith, e))))

-- ---- the lines, one after another; n is the next one's number

module _ (s : List ℕ) (n at : ℕ) (found : Line) (is : found ≡ line_at s at) (early : n < 5) where
  left : 5 - n ≡ suc (5 - (n + 1))
  left = omega arith

  pub fault-here : found.good ≡ false → fault_from s n at (5 - n) ≡ fault n (wrong_at s at)
  unfolding fault_from
  fault-here e = rw (left, ← is, e)

  pub fault-later : found.good ≡ true → fault_from s n at (5 - n) ≡ fault_from s (n + 1) found.end (5 - (n + 1))
  unfolding fault_from
  fault-later e = rw (left, ← is, e)

pub fault-after : (s : List ℕ) (n at : ℕ) → n ≤ 5 → 5 ≤ n → fault_from s n at (5 - n) ≡ fault n (wrong_after s at)
unfolding fault_from
fault-after s n at few many = let none : 5 - n ≡ 0 = omega arith in rw none

-- ---- something is wrong exactly if the input is 40

other-asked : (q : Request) → ◌≡◌ {A = Result Request ℕ} (Ok q) (Err 40) → ⊥
other-asked q e = impossible (cc)

second_arm : {A : Type 0} {x y z : A} (b : Bool) → (x ≡ z → ⊥) → cond b x y ≡ z → (b ≡ false) × (y ≡ z)
second_arm true other e = absurd (other e)
second_arm false other e = (refl, e)

-- a line with which nothing is wrong is good
nothing-good : (s : List ℕ) (at : ℕ) → wrong_at s at ≡ Nothing → (line_at s at).good ≡ true
unfolding wrong_at line_at line_good
nothing-good s at e =
    let count = length (digits_at s at) in
    let here = second_arm (leb (length s) at) (λ h. impossible (cc)) e in
    let short = second_arm (leb 11 count) (λ h. impossible (cc)) here.1 in
    let inside = second_arm (leb (length s) (at + count)) (λ h. impossible (cc)) short.1 in
    let other = second_arm (eqb (byte_at s (at + count)) carriage_return) (λ h. impossible (cc)) inside.1 in
    let feed = first_arm (eqb (byte_at s (at + count)) line_feed) (λ h. impossible (cc)) other.1 in
    let some = second_arm (eqb count 0) (λ h. impossible (cc)) feed.1 in
    let few = leb-false 11 count short.0 in
    let one = eqb-false count 0 some.0 in
    rw (le-leb 1 count (omega (arith, one)), le-leb count 10 (omega (arith, few)), feed.0)

nothing-later : (s : List ℕ) (n at left : ℕ) → (fault_from s n at (suc left)).wrong ≡ Nothing
    → ((line_at s at).good ≡ true) × ((fault_from s (n + 1) (line_at s at).end left).wrong ≡ Nothing)
unfolding fault_from
nothing-later s n at left e = either (line_at s at).good
    (λ good. (good, rw good at e))
    (λ bad. contra (nothing-good s at (rw bad at e)) bad)

nothing-after : (s : List ℕ) (n at : ℕ) → (fault_from s n at 0).wrong ≡ Nothing → eqb at (length s) ≡ true
unfolding fault_from wrong_after
nothing-after s n at e = (first_arm (eqb at (length s)) (λ h. impossible (cc)) e).0

-- Theorem: an input that is 40 has a fault with a name
pub fault-named : (s : List ℕ) → input_of s ≡ Err 40 → (input_fault s).wrong ≡ Nothing → ⊥
unfolding input_fault
fault-named s other nothing =
    let first = line_at s 0 in
    let a = nothing-later s 1 0 3 nothing in
    let second = line_at s first.end in
    let b = nothing-later s 2 first.end 2 a.1 in
    let third = line_at s second.end in
    let c = nothing-later s 3 second.end 1 b.1 in
    let fourth = line_at s third.end in
    let d = nothing-later s 4 third.end 0 c.1 in
    let asked = input_asked s first second third fourth refl (sym (next-some s first a.0)) (sym (next-some s second b.0))
    (sym (next-some s third c.0)) (join fourth.good (eqb fourth.end (length s)) d.0 (nothing-after s 5 fourth.end d.1)) in
    other-asked (request_of first second third fourth) (sym asked ∙ other)
