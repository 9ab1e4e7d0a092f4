-- Laws: entries as they are read from bytes: how many they are, how long their parts are, the first of them and those after them. Assumes nothing.
use Prim.Native.Nat.{ℕ, zero, suc, ◌+◌, ◌-◌, ◌*◌, ◌≤◌}
use Rattle.std.specs.Prelude.{◌≡◌, drop}
use Rattle.std.proofs.Math.Path.{refl, ap}
use mathlib.Core.List.{List, ◌∷◌}
use Rattle.std.proofs.Math.Nat.{suc-mul, sub-zero}
use Rattle.std.proofs.Common.{zero-mul}
use native.Mathlib.Omega.{arith}
use Rattle.std.proofs.Math.ListN.{length, take, length-take, length-drop}
use Rattle.std.proofs.Math.Seq.{drop-drop}
use Rattle.basis.specs.Lists.{All}
use Rattle.idx_page.specs.Reading.{Item, items}

-- an entry whose key has k bytes, and its number four
abbrev pub Fit : ℕ → Item → Type 0
Fit k e = (length e.0 ≡ k) × (length e.1 ≡ 4)

module _ (k : ℕ) where
  pub length-items : (n : ℕ) (xs : List ℕ) → length (items k n xs) ≡ n
  unfolding items
  length-items zero xs = refl
  length-items (suc n) xs = ap suc (length-items n (drop (k + 4) xs))

  pub items-fit : (n : ℕ) (xs : List ℕ) → n * (k + 4) ≤ length xs → All (Fit k) (items k n xs)
  unfolding items
  items-fit zero xs h = tt
  items-fit (suc n) xs h =
      let f : n * (k + 4) + (k + 4) ≤ length xs = omega (arith, suc-mul n (k + 4)) in
      ((simp length-take (omega arith), simp (length-take, length-drop) (omega arith)), items-fit n (drop (k + 4) xs) (simp length-drop (omega arith)))

  -- the first m entries, and those after them
  pub take_items : (m n : ℕ) (xs : List ℕ) → m ≤ n → take m (items k n xs) ≡ items k m xs
  unfolding items
  take_items zero n xs h = refl
  take_items (suc m) zero xs h = absurd (omega arith)
  take_items (suc m) (suc n) xs h = ap (λ (es : List Item). (take k xs, take 4 (drop k xs)) ∷ es) (take_items m n (drop (k + 4) xs) (omega arith))

  pub drop_items : (m n : ℕ) (xs : List ℕ) → m ≤ n → drop m (items k n xs) ≡ items k (n - m) (drop (m * (k + 4)) xs)
  unfolding items
  drop_items zero n xs h = rw (zero-mul (k + 4), sub-zero)
  drop_items (suc m) zero xs h = absurd (omega arith)
  drop_items (suc m) (suc n) xs h =
      let e : suc n - suc m ≡ n - m = omega arith in
      let o : k + 4 + m * (k + 4) ≡ suc m * (k + 4) = omega (arith, suc-mul m (k + 4)) in
      rw (e, drop_items m n (drop (k + 4) xs) (omega arith), drop-drop (m * (k + 4)) (k + 4) xs, o)
