-- Laws: the order of byte strings of any lengths is total, antisymmetric and transitive, and `ordering` goes by it. Assumes nothing.
use Rattle.std.specs.Prelude.{◌≡◌, refl, true, false, List, [], ◌∷◌, ℕ, ◌≤◌, ◌<◌, eqb}
use Rattle.std.proofs.Common.{sym, arith, ltb-true, ltb-false, eqb-true, lt-ltb, le-ltb, eq-eqb, ne_eqb}
use Rattle.std.proofs.lemmas.Bool.{eqb-false}
use Rattle.basis.specs.Tests.{either, contra}
use Rattle.std.specs.declared.cmp.Ordering.TheVariants.{Less, Equal, Greater}
use Rattle.octets.specs.Order.{bytes_le, ordering}

-- the first bytes decide if they differ, and the rest if they are equal
pub le_same : (x : ℕ) (a b : List ℕ) → bytes_le (x ∷ a) (x ∷ b) ≡ bytes_le a b
unfolding bytes_le
le_same x a b = rw (eq-eqb x x refl)

le-less : (x y : ℕ) (a b : List ℕ) → x < y → bytes_le (x ∷ a) (y ∷ b) ≡ true
unfolding bytes_le
le-less x y a b h = rw (ne_eqb x y (omega arith)) (lt-ltb x y h)

pub le-more : (x y : ℕ) (a b : List ℕ) → y < x → bytes_le (x ∷ a) (y ∷ b) ≡ false
unfolding bytes_le
le-more x y a b h = rw (ne_eqb x y (omega arith)) (le-ltb x y (omega arith))

pub le_total : (a b : List ℕ) → bytes_le a b ≡ false → bytes_le b a ≡ true
unfolding bytes_le
le_total [] b e = contra refl e
le_total (x ∷ a) [] e = refl
le_total (x ∷ a) (y ∷ b) e = either (eqb x y)
    (λ p. rw (eq-eqb y x (sym (eqb-true x y p))) (le_total a b (rw p at e)))
    (λ p. let l : y ≤ x = ltb-false x y (rw p at e) in
    le-less y x b a (omega (arith, eqb-false x y p)))

pub le_antisym : (a b : List ℕ) → bytes_le a b ≡ true → bytes_le b a ≡ true → a ≡ b
unfolding bytes_le
le_antisym [] [] p q = refl
le_antisym [] (y ∷ b) p q = contra q refl
le_antisym (x ∷ a) [] p q = contra p refl
le_antisym (x ∷ a) (y ∷ b) p q = either (eqb x y)
    (λ e. let d : x ≡ y = eqb-true x y e in
    let t : a ≡ b = le_antisym a b (rw e at p) (rw (eq-eqb y x (sym d)) at q) in cc)
    (λ e. let l : x < y = ltb-true x y (rw e at p) in
    let m : y < x = ltb-true y x (rw (ne_eqb y x (omega arith)) at q) in
    absurd (omega arith))

pub le_trans : (a b c : List ℕ) → bytes_le a b ≡ true → bytes_le b c ≡ true → bytes_le a c ≡ true
unfolding bytes_le
le_trans [] b c p q = refl
le_trans (x ∷ a) [] c p q = contra p refl
le_trans (x ∷ a) (y ∷ b) [] p q = contra q refl
le_trans (x ∷ a) (y ∷ b) (z ∷ c) p q = either (eqb x y)
    (λ e. either (eqb y z)
    (λ f. let d : x ≡ y = eqb-true x y e in let g : y ≡ z = eqb-true y z f in
    rw (eq-eqb x z (omega arith)) (le_trans a b c (rw e at p) (rw f at q)))
    (λ f. let l : y < z = ltb-true y z (rw f at q) in let d : x ≡ y = eqb-true x y e in le-less x z a c (omega arith)))
    (λ e. let l : x < y = ltb-true x y (rw e at p) in either (eqb y z)
    (λ f. let d : y ≡ z = eqb-true y z f in le-less x z a c (omega arith))
    (λ f. let m : y < z = ltb-true y z (rw f at q) in le-less x z a c (omega arith)))

pub le_refl : (a : List ℕ) → bytes_le a a ≡ true
le_refl a = either (bytes_le a a) (λ e. e) (λ e. le_total a a e)

-- `ordering` says Less, Greater and Equal by that test
pub ordering-below : (a b : List ℕ) → bytes_le b a ≡ false → ordering a b ≡ Less
unfolding ordering
ordering-below a b h = rw (le_total b a h, h)

pub ordering-above : (a b : List ℕ) → bytes_le a b ≡ false → ordering a b ≡ Greater
unfolding ordering
ordering-above a b h = rw h

pub ordering-equal : (a : List ℕ) → ordering a a ≡ Equal
unfolding ordering
ordering-equal a = rw (le_refl a)
