-- Laws: for features 0 the order of stored entries is that of their k + 4 bytes, so that one comparison decides it. Cited by the proofs of the functions that
-- compare entries. Assumes nothing.
use Rattle.std.specs.Prelude.{ℕ, ◌+◌, ◌*◌, ◌≤◌, ◌<◌, ◌≡◌, refl, false, List, [], ◌∷◌, ◌++◌, eqb, ltb, leb, length}
use Rattle.std.proofs.Common.{sym, arith, eqb-true, eq-eqb, ne_eqb, ltb-true, ltb-false, le-ltb, le-leb}
use Rattle.std.proofs.lemmas.Bool.{eqb-false, lt-leb}
use Rattle.basis.specs.Lists.{All}
use Rattle.basis.specs.Tests.{either}
use Rattle.octets.specs.Bytes.{be32}
use Rattle.octets.specs.Order.{bytes_le}
use Rattle.tree.specs.Pairs.{by_record}
use Rattle.idx_page.specs.KeyOrder.{bytes_order}
use Rattle.idx_page.specs.Reading.{Item}
use Rattle.idx_page.specs.EntryOrder.{item_order}

-- two numbers whose first bytes that differ, x and y, decide
first_differ : (m n x y : ℕ) → eqb x y ≡ false → (x < y → m ≤ n) → (y < x → n < m) → leb m n ≡ ltb x y
first_differ m n x y e low high = either (ltb x y)
    (λ l. rw l (le-leb m n (low (ltb-true x y l))))
    (λ l. rw l (lt-leb m n (high (omega (arith, ltb-false x y l, eqb-false x y e)))))

-- the order of numbers of four bytes is that of the bytes
four_order : (a b c d p q r s : ℕ) → b < 256 → c < 256 → d < 256 → q < 256 → r < 256 → s < 256 →
    leb (16777216 * a + 65536 * b + 256 * c + d) (16777216 * p + 65536 * q + 256 * r + s) ≡ bytes_le (a ∷ b ∷ c ∷ d ∷ []) (p ∷ q ∷ r ∷ s ∷ [])
unfolding bytes_le
four_order a b c d p q r s lb lc ld lq lr ls =
    let m : ℕ = 16777216 * a + 65536 * b + 256 * c + d in
    let n : ℕ = 16777216 * p + 65536 * q + 256 * r + s in
    either (eqb a p)
    (λ e. rw e (either (eqb b q)
    (λ f. rw f (either (eqb c r)
    (λ g. rw g (either (eqb d s)
    (λ h. rw h (le-leb m n (omega (arith, eqb-true a p e, eqb-true b q f, eqb-true c r g, eqb-true d s h))))
    (λ h. rw h (first_differ m n d s h
    (λ l. omega (arith, eqb-true a p e, eqb-true b q f, eqb-true c r g)) (λ l. omega (arith, eqb-true a p e, eqb-true b q f, eqb-true c r g))))))
    (λ g. rw g (first_differ m n c r g (λ l. omega (arith, eqb-true a p e, eqb-true b q f)) (λ l. omega (arith, eqb-true a p e, eqb-true b q f))))))
    (λ f. rw f (first_differ m n b q f (λ l. omega (arith, eqb-true a p e)) (λ l. omega (arith, eqb-true a p e))))))
    (λ e. rw e (first_differ m n a p e (λ l. omega arith) (λ l. omega arith)))

-- four bytes
pub record FourBytes (x : List ℕ) : Type 0 where
  pub first : ℕ
  pub second : ℕ
  pub third : ℕ
  pub fourth : ℕ
  pub whole : x ≡ first ∷ second ∷ third ∷ fourth ∷ []
  pub small : (second < 256) × (third < 256) × (fourth < 256)

pub four_bytes : (x : List ℕ) → length x ≡ 4 → All (λ n. n < 256) x → FourBytes x
four_bytes [] l s = absurd (omega arith)
four_bytes (a ∷ []) l s = absurd (omega arith)
four_bytes (a ∷ b ∷ []) l s = absurd (omega arith)
four_bytes (a ∷ b ∷ c ∷ []) l s = absurd (omega arith)
four_bytes (a ∷ b ∷ c ∷ d ∷ []) l s =
    record { first = a; second = b; third = c; fourth = d; whole = refl; small = (s.1.0, s.1.1.0, s.1.1.1.0) }
four_bytes (a ∷ b ∷ c ∷ d ∷ e ∷ x) l s = absurd (omega arith)

number-order : (x y : List ℕ) → FourBytes x → FourBytes y → leb (be32 x 0) (be32 y 0) ≡ bytes_le x y
unfolding be32
number-order x y u v = rw (u.whole, v.whole)
    (four_order u.first u.second u.third u.fourth v.first v.second v.third v.fourth
    u.small.0 u.small.1 u.small.2 v.small.0 v.small.1 v.small.2)

-- keys of one length, with numbers of four bytes
key-order : (a b x y : List ℕ) → length a ≡ length b → FourBytes x → FourBytes y →
    by_record bytes_order (a, be32 x 0) (b, be32 y 0) ≡ bytes_le (a ++ x) (b ++ y)
unfolding bytes_le
key-order [] [] x y l u v = number-order x y u v
key-order [] (q ∷ b) x y l u v = absurd (omega arith)
key-order (p ∷ a) [] x y l u v = absurd (omega arith)
key-order (p ∷ a) (q ∷ b) x y l u v = either (eqb p q)
    (λ e. rw (e, eq-eqb q p (sym (eqb-true p q e))) (key-order a b x y (omega arith) u v))
    (λ e. rw (e, ne_eqb q p (λ d. eqb-false p q e (sym d))) (either (ltb p q)
    (λ l. rw (l, le-ltb q p (omega (arith, ltb-true p q l))))
    (λ l. rw l)))

-- Theorem: for features 0 an entry is at or below another if its bytes are
pub entry-order : (x y : Item) → length x.0 ≡ length y.0 → FourBytes x.1 → FourBytes y.1 →
    item_order 0 x y ≡ bytes_le (x.0 ++ x.1) (y.0 ++ y.1)
entry-order x y l u v = key-order x.0 y.0 x.1 y.1 l u v
