-- Laws: the attributes and counts that the audit asks of the pages of a level, against document 01's words for them. Cited by the laws of levels and of
-- the index's shape. Assumes nothing.
use Rattle.std.specs.Prelude.{ℕ, zero, suc, ◌%◌, ◌≤◌, ◌<◌, ◌≡◌, refl, Bool, true, false, ◌||◌, eqb, leb}
use Rattle.std.proofs.Common.{arith, ne_eqb, eqb-true, le-leb, leb-true, leb-false}
use Rattle.std.proofs.lemmas.Bool.{eqb-false}
use Rattle.basis.specs.Tests.{either, both, join, or_left}
use Rattle.tree.specs.Clauses.{least}
use Rattle.idx_page.specs.Page.{root_bit, leaf_bit, capacity, count_good}
use Rattle.idx_sound.specs.AuditTest.{attribute_of}

-- the two bits of an attribute, and the attribute that they make
pub root-bit : (root leaf : Bool) → root_bit (attribute_of root leaf) ≡ root
root-bit true true = refl
root-bit true false = refl
root-bit false true = refl
root-bit false false = refl

pub leaf-bit : (root leaf : Bool) → leaf_bit (attribute_of root leaf) ≡ leaf
leaf-bit true true = refl
leaf-bit true false = refl
leaf-bit false true = refl
leaf-bit false false = refl

pub attribute-small : (root leaf : Bool) → attribute_of root leaf ≤ 3
attribute-small true true = omega arith
attribute-small true false = omega arith
attribute-small false true = omega arith
attribute-small false false = omega arith

pub attribute-is : (root leaf : Bool) (a : ℕ) → a ≤ 3 → root_bit a ≡ root → leaf_bit a ≡ leaf → a ≡ attribute_of root leaf
attribute-is true true a h r l = omega (arith, eqb-true (a % 2) 1 r, leb-true 2 a l)
attribute-is true false a h r l = omega (arith, eqb-true (a % 2) 1 r, leb-false 2 a l)
attribute-is false true a h r l = omega (arith, eqb-false (a % 2) 1 r, leb-true 2 a l)
attribute-is false false a h r l = omega (arith, eqb-false (a % 2) 1 r, leb-false 2 a l)

-- the attribute of the pages i levels under the root, which has h levels under it
abbrev pub attribute_at_level : ℕ → ℕ → ℕ
attribute_at_level h i = attribute_of (eqb i 0) (eqb i h)

-- if there are levels under the root, no page is root and leaf
not_both : (h i : ℕ) → 0 < h → eqb (attribute_at_level h i) 3 ≡ false
not_both h i l = either (eqb i 0)
    (λ e. let d : eqb i h ≡ false = ne_eqb i h (omega (arith, eqb-true i 0 e)) in rw (e, d))
    (λ e. either (eqb i h) (λ f. rw (e, f)) (λ f. rw (e, f)))

or_right : (x y : Bool) → y ≡ true → x || y ≡ true
or_right true y e = refl
or_right false y e = e

-- a count that is good by the attribute is good by the number of levels
pub count-good : (k h i n : ℕ) → i ≤ h → least h ≤ n → n ≤ capacity k → count_good k (attribute_at_level h i) n ≡ true
unfolding count_good
count-good k zero i n l u c = let z : i ≡ 0 = omega arith in join _ _ (le-leb n (capacity k) c) (or_right (leb 1 n) _ (rw z))
count-good k (suc h) i n l u c = rw (le-leb n (capacity k) c, le-leb 1 n u)

pub good-count : (k h i n : ℕ) → count_good k (attribute_at_level h i) n ≡ true → (least h ≤ n) × (n ≤ capacity k)
unfolding count_good
good-count k zero i n e = (omega arith, leb-true _ _ (both _ _ e).0)
good-count k (suc h) i n e =
    let u = both _ _ e in
    (leb-true 1 n (or_left (leb 1 n) _ u.1 (not_both (suc h) i (omega arith))), leb-true n (capacity k) u.0)
