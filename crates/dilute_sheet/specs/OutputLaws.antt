-- Laws: a text that is written as far as there is room; texts that are written one after another are one text. Assumes nothing.
use Prim.Native.Nat.{ℕ, zero, suc, ◌+◌, ◌-◌, ◌≤◌, min}
use Rattle.std.specs.Prelude.{◌≡◌, refl, List, [], ◌∷◌, ◌++◌, take, leb}
use Rattle.std.proofs.Common.{sym, ap, ◌∙◌, length-append, length-take-le, leb-true, leb-false}
use native.Mathlib.Omega.{arith}
use Rattle.std.proofs.Math.ListN.{length}
use Rattle.basis.specs.Tests.{either}
use Rattle.octets.specs.Store.{put}
use Rattle.octets.specs.StoreLaws.{length-put, put_append, put-none}
use Rattle.dilute_sheet.specs.Output.{Output, output, wrote, Counts}

-- ---- a store past the end, and one that is cut off at the end

put_past : (b : List ℕ) (at : ℕ) (text : List ℕ) → length b ≤ at → put b at text ≡ b
unfolding put
put_past [] at text h = refl
put_past (x ∷ b) zero text h = absurd (omega arith)
put_past (x ∷ b) (suc at) text h = ap (λ (l : List ℕ). x ∷ l) (put_past b at text (omega arith))

put-cut : (b : List ℕ) (at : ℕ) (text : List ℕ) (n : ℕ) → length b ≤ at + n → put b at (take n text) ≡ put b at text
unfolding put
put-cut [] at text n h = refl
put-cut (x ∷ b) zero text zero h = absurd (omega arith)
put-cut (x ∷ b) zero [] (suc n) h = refl
put-cut (x ∷ b) zero (y ∷ text) (suc n) h = ap (λ (l : List ℕ). y ∷ l) (put-cut b zero text n (omega arith))
put-cut (x ∷ b) (suc at) text n h = ap (λ (l : List ℕ). x ∷ l) (put-cut b at text n (omega arith))

-- ---- the three ways of a write

module _ (b : List ℕ) (at : ℕ) (text : List ℕ) where
  pub wrote_past : length b ≤ at → wrote b at text ≡ output b (length b)
  unfolding wrote
  wrote_past h = let e : min (at + length text) (length b) ≡ length b = omega arith in rw (put_past b at text h, e)

  pub wrote-whole : at + length text ≤ length b → wrote b at text ≡ output (put b at text) (at + length text)
  unfolding wrote
  wrote-whole h = let e : min (at + length text) (length b) ≡ at + length text = omega arith in rw e

  pub wrote-cut : length b ≤ at + length text → wrote b at text ≡ output (put b at (take (length b - at) text)) (length b)
  unfolding wrote
  wrote-cut h = let e : min (at + length text) (length b) ≡ length b = omega arith in rw (put-cut b at text (length b - at) (omega arith), e)

  -- nothing is written of an empty text
  pub wrote_none : at ≤ length b → wrote b at [] ≡ output b at
  unfolding wrote
  wrote_none h = let e : min (at + 0) (length b) ≡ at = omega arith in rw (put-none b at, e)

-- the text's end lies in the buffer, whose length stays
pub wrote-ends : (b : List ℕ) (at : ℕ) (text c : List ℕ) (m : ℕ) → wrote b at text ≡ output c m → (length c ≡ length b) × (m ≤ length c)
unfolding wrote
wrote-ends b at text c m e =
    let after : put b at text ≡ c = ap (λ (o : Output). o.after) e in
    let end : min (at + length text) (length b) ≡ m = ap (λ (o : Output). o.end) e in
    let same : length c ≡ length b = ap length (sym after) ∙ length-put b at text in
    (same, omega arith)

pub wrote-counts : (b : List ℕ) (at : ℕ) (text c : List ℕ) (m : ℕ) → wrote b at text ≡ output c m → Counts m c
wrote-counts b at text c m e = let ends = wrote-ends b at text c m e in (ends.1, sym (length-take-le m c ends.1))

-- ---- one after another

-- Theorem: texts that are written one after another are one text
pub wrote_then : (b : List ℕ) (at : ℕ) (x : List ℕ) (c : List ℕ) (m : ℕ) (y : List ℕ) → wrote b at x ≡ output c m → wrote b at (x ++ y) ≡ wrote c m y
unfolding wrote
wrote_then b at x c m y p =
    let after : put b at x ≡ c = ap (λ (o : Output). o.after) p in
    let end : min (at + length x) (length b) ≡ m = ap (λ (o : Output). o.end) p in
    let same : length c ≡ length b = ap length (sym after) ∙ length-put b at x in
    let long : length (x ++ y) ≡ length x + length y = length-append x y in
    let ends : min (at + length (x ++ y)) (length b) ≡ min (m + length y) (length c) = omega arith in
    let stored : put b at (x ++ y) ≡ put c m y = put_append b at x y ∙ rw after (either (leb (at + length x) (length b))
    (λ fits. let there : at + length x ≡ m = omega (arith, leb-true (at + length x) (length b) fits) in rw there)
    (λ past.
    let over = leb-false (at + length x) (length b) past in
    put_past c (at + length x) y (omega arith) ∙ sym (put_past c m y (omega arith)))) in
    rw (stored, ends)
