-- Laws: any count of bytes as one number decides the order of two strings as the bytes do; so does one byte, and the length decides behind all bytes.
-- The proofs of `compare` and of the functions that it calls cite them. Assumes nothing.
use Rattle.std.specs.Prelude.{◌≡◌, refl, List, [], ◌∷◌, length, drop, ltb, min}
use Rattle.std.proofs.Common.{sym, ◌∙◌, add_assoc, add-one, drop_of_length-le, drop-cons}
use Rattle.std.proofs.Math.Path.{ap}
use Prim.Native.Nat.{ℕ, zero, suc, ◌+◌, ◌*◌, ◌≤◌, ◌<◌}
use Rattle.std.proofs.Math.Nat.{add-zero}
use Rattle.std.proofs.Math.Numerals.{unary_clauses}
use native.Mathlib.Omega.{arith}
use borrow.Author.Tests.{ltb-true, ltb-false, lt-ltb, le-ltb}
use Rattle.basis.specs.Tests.{either}
use Rattle.std.specs.declared.cmp.Ordering.{Ordering}
use Rattle.std.specs.declared.cmp.Ordering.TheVariants.{Less, Equal, Greater}
use Rattle.octets.specs.Bytes.{byte_at, le32, be32}
use Rattle.octets.specs.Order.{bytes_le, ordering}
use Rattle.octets.specs.Words.{le64, bytes_number, order_then, Decides}
use Rattle.octets.specs.NumberLaws.{le32-below, be32-below}
use Rattle.octets.specs.OrderLaws.{le_same, le-more, ordering-below, ordering-above, ordering-equal}

-- ---- two numbers

-- they decide unless they are equal
module _ (x y : ℕ) (o : Ordering) where
  pub then_less : x < y → order_then x y o ≡ Less
  unfolding order_then
  then_less h = rw (lt-ltb x y h)

  pub then_more : y < x → order_then x y o ≡ Greater
  unfolding order_then
  then_more h = rw (le-ltb x y (omega arith), lt-ltb y x h)

  pub then_same : x ≡ y → order_then x y o ≡ o
  unfolding order_then
  then_same h = rw (le-ltb x y (omega arith), le-ltb y x (omega arith))

  pub then_apart : (x ≡ y → ⊥) → order_then x y o ≡ order_then x y Equal
  unfolding order_then
  then_apart h = either (ltb x y) (λ t. rw t) (λ t. let u : y < x = omega (arith, h, ltb-false x y t) in rw (lt-ltb y x u))

-- x is less than y, more than y or equal to it
cases : {X : Type 0} (x y : ℕ) → (x < y → X) → (y < x → X) → (x ≡ y → X) → X
cases x y f g h = either (ltb x y) (λ t. f (ltb-true x y t)) (λ t. either (ltb y x) (λ u. g (ltb-true y x u))
    (λ u. let p = ltb-false x y t in let q = ltb-false y x u in h (omega arith)))

-- ---- one byte

ordering-first : (x y : ℕ) (a b : List ℕ) → ordering (x ∷ a) (y ∷ b) ≡ order_then x y (ordering a b)
unfolding ordering
ordering-first x y a b = cases x y
    (λ l. ordering-below (x ∷ a) (y ∷ b) (le-more y x b a l) ∙ sym (then_less x y _ l))
    (λ l. ordering-above (x ∷ a) (y ∷ b) (le-more x y a b l) ∙ sym (then_more x y _ l))
    (λ e. rw (e, le_same y a b, le_same y b a) (sym (then_same y y _ refl)))

module _ (a b : List ℕ) (i : ℕ) (p : i < length a) (q : i < length b) where
  byte_decides : Decides a b i 1 (byte_at a i) (byte_at b i)
  byte_decides = rw (drop-cons a i 0 p, drop-cons b i 0 q, add-one) (ordering-first _ _ _ _)

  pub byte-apart : (byte_at a i ≡ byte_at b i → ⊥) → ordering (drop i a) (drop i b) ≡ order_then (byte_at a i) (byte_at b i) Equal
  byte-apart differ = byte_decides ∙ then_apart _ _ _ differ

  pub byte-same : byte_at a i ≡ byte_at b i → ordering (drop i a) (drop i b) ≡ ordering (drop (i + 1) a) (drop (i + 1) b)
  byte-same e = byte_decides ∙ then_same _ _ _ e

-- ---- the lengths

-- a string that ends at or before i is below one that goes on
shorter_below : (a b : List ℕ) (i : ℕ) → length a ≤ i → i < length b → ordering (drop i a) (drop i b) ≡ Less
unfolding ordering bytes_le
shorter_below a b i p q = rw (drop_of_length-le a p, drop-cons b i 0 q)

longer_above : (a b : List ℕ) (i : ℕ) → i < length a → length b ≤ i → ordering (drop i a) (drop i b) ≡ Greater
unfolding ordering bytes_le
longer_above a b i p q = rw (drop-cons a i 0 p, drop_of_length-le b q)

-- the lengths decide behind all bytes that both strings have
pub lengths_decide : (a b : List ℕ) (n : ℕ) → n ≡ min (length a) (length b)
    → ordering (drop n a) (drop n b) ≡ order_then (length a) (length b) Equal
lengths_decide a b n is-n = cases (length a) (length b)
    (λ l. shorter_below a b n (omega arith) (omega arith) ∙ sym (then_less _ _ _ l))
    (λ l. longer_above a b n (omega arith) (omega arith) ∙ sym (then_more _ _ _ l))
    (λ e. let p : length a ≤ n = omega arith in let q : length b ≤ n = omega arith in
    rw (drop_of_length-le a p, drop_of_length-le b q) (ordering-equal [] ∙ sym (then_same _ _ _ e)))

-- ---- any count of bytes

-- x, and p if x is equal to y, decide as the number 256 * x + p does
then_digits : (x y p q : ℕ) (o : Ordering) → p < 256 → q < 256 → order_then x y (order_then p q o) ≡ order_then (256 * x + p) (256 * y + q) o
then_digits x y p q o small-p small-q = cases x y
    (λ l. then_less x y _ l ∙ sym (then_less _ _ o (omega arith)))
    (λ l. then_more x y _ l ∙ sym (then_more _ _ o (omega arith)))
    (λ e. then_same x y _ e ∙ cases p q
    (λ l. then_less p q o l ∙ sym (then_less _ _ o (omega arith)))
    (λ l. then_more p q o l ∙ sym (then_more _ _ o (omega arith)))
    (λ f. then_same p q o f ∙ sym (then_same _ _ o (omega arith))))

-- eight bytes are twice four
pub be64_number : (s : List ℕ) (i : ℕ) → 4294967296 * be32 s i + be32 s (i + 4) ≡ bytes_number s i 8
unfolding be32 bytes_number
be64_number s i = rw (add_assoc i 4 1, add_assoc i 4 2, add_assoc i 4 3, add-zero) (omega arith)

module _ (a b : List ℕ) (small-a : (j : ℕ) → byte_at a j < 256) (small_b : (j : ℕ) → byte_at b j < 256) where
  -- K2 asks to show this once: n bytes as one number with the first byte highest give "lower, equal or higher exactly as the unsigned bytes do, for any key
  -- length", since n is any count.
  pub number_decides : (i n : ℕ) → i + n ≤ length a → i + n ≤ length b → Decides a b i n (bytes_number a i n) (bytes_number b i n)
  unfolding bytes_number
  number_decides i zero p q = rw add-zero (sym (then_same 0 0 _ refl))
  number_decides i (suc n) p q =
      let before = number_decides i n (omega arith) (omega arith) in
      let last = byte_decides a b (i + n) (omega arith) (omega arith) in
      before ∙ ap (order_then _ _) last ∙ then_digits _ _ _ _ _ (small-a (i + n)) (small_b (i + n)) ∙ simp unary_clauses

  -- either reading tells whether four bytes are the same
  le32-be32 : (i : ℕ) → le32 a i ≡ le32 b i → be32 a i ≡ be32 b i
  unfolding le32 be32
  le32-be32 i e =
      omega (arith, small-a i, small-a (i + 1), small-a (i + 2), small-a (i + 3), small_b i, small_b (i + 1), small_b (i + 2), small_b (i + 3))

  be32-le32 : (i : ℕ) → be32 a i ≡ be32 b i → le32 a i ≡ le32 b i
  unfolding le32 be32
  be32-le32 i e =
      let first : byte_at a i ≡ byte_at b i =
      omega (arith, small-a (i + 1), small-a (i + 2), small-a (i + 3), small_b (i + 1), small_b (i + 2), small_b (i + 3)) in
      let second : byte_at a (i + 1) ≡ byte_at b (i + 1) = omega (arith, small-a (i + 2), small-a (i + 3), small_b (i + 2), small_b (i + 3)) in
      let third : byte_at a (i + 2) ≡ byte_at b (i + 2) = omega (arith, small-a (i + 3), small_b (i + 3)) in
      omega arith

  -- and whether eight bytes are
  pub word_same : (i : ℕ) → le64 a i ≡ le64 b i → bytes_number a i 8 ≡ bytes_number b i 8
  unfolding le64
  word_same i e =
      let p = le32-below a small-a i in
      let q = le32-below b small_b i in
      let first = le32-be32 i (omega arith) in
      let second = le32-be32 (i + 4) (omega arith) in
      rw (← be64_number a i, ← be64_number b i) (omega arith)

  pub word_apart : (i : ℕ) → (le64 a i ≡ le64 b i → ⊥) → bytes_number a i 8 ≡ bytes_number b i 8 → ⊥
  unfolding le64
  word_apart i differ e =
      let p = be32-below a small-a (i + 4) in
      let q = be32-below b small_b (i + 4) in
      let e' = rw (← be64_number a i, ← be64_number b i) at e in
      let first = be32-le32 i (omega arith) in
      let second = be32-le32 (i + 4) (omega arith) in
      differ (omega arith)
