-- Laws: entries as bytes and back. Cited by the proofs of every function that writes a page, and by the laws of insertion. Assumes nothing.
use Prim.Native.Nat.{ℕ, zero, suc, ◌+◌, ◌*◌, ◌≤◌}
use Rattle.std.specs.Prelude.{◌≡◌, length, take, drop}
use Rattle.std.proofs.Math.Path.{refl, sym}
use Rattle.std.proofs.Common.{◌∙◌, zero-mul}
use mathlib.Core.List.{List, [], ◌∷◌, ◌++◌, append_assoc}
use Rattle.std.proofs.Math.Nat.{suc-mul}
use native.Mathlib.Omega.{arith}
use Rattle.std.proofs.Math.ListN.{length-append, length-drop}
use Rattle.std.proofs.Math.Seq.{take_at, drop_at, drop-drop, take-add}
use Rattle.basis.specs.Lists.{All}
use Rattle.idx_page.specs.Reading.{Item, items}
use Rattle.idx_layout.specs.Layout.{encode}
use Rattle.idx_leaf.specs.ItemLaws.{Fit}

pub encode_append : (xs ys : List Item) → encode (xs ++ ys) ≡ encode xs ++ encode ys
unfolding encode
encode_append [] ys = refl
encode_append (x ∷ xs) ys = rw (encode_append xs ys) (simp append_assoc)

module _ (k : ℕ) where
  pub length-encode : (es : List Item) → All (Fit k) es → length (encode es) ≡ length es * (k + 4)
  unfolding encode
  length-encode [] f = sym (zero-mul (k + 4))
  length-encode (e ∷ es) f =
      rw (length-append e.0 (e.1 ++ encode es), length-append e.1 (encode es), length-encode es f.1, suc-mul) (omega (arith, f.0.0, f.0.1))

  -- the bytes of entries, read as entries
  pub items-encode : (es : List Item) (rest : List ℕ) → All (Fit k) es → items k (length es) (encode es ++ rest) ≡ es
  unfolding items encode
  items-encode [] rest f = refl
  items-encode (e ∷ es) rest f =
      let more : List ℕ = encode es ++ rest in
      let a : (e.0 ++ (e.1 ++ encode es)) ++ rest ≡ e.0 ++ (e.1 ++ more) = simp append_assoc in
      rw (
        a,
        ← drop-drop 4 k (e.0 ++ (e.1 ++ more)),
        take_at e.0 (e.1 ++ more) k f.0.0,
        drop_at e.0 (e.1 ++ more) k f.0.0,
        take_at e.1 more 4 f.0.1,
        drop_at e.1 more 4 f.0.1,
        items-encode es rest f.1,
      )

  -- entries that are read and written back are the bytes themselves
  pub encode-items : (n : ℕ) (xs : List ℕ) → n * (k + 4) ≤ length xs → encode (items k n xs) ≡ take (n * (k + 4)) xs
  unfolding encode items
  encode-items zero xs h = rw (zero-mul (k + 4))
  encode-items (suc n) xs h =
      let m : suc n * (k + 4) ≡ k + (4 + n * (k + 4)) = suc-mul n (k + 4) ∙ omega arith in
      rw (
        m,
        take-add k (4 + n * (k + 4)) xs,
        take-add 4 (n * (k + 4)) (drop k xs),
        drop-drop 4 k xs,
        encode-items n (drop (k + 4) xs) (simp length-drop (omega arith)),
      )
