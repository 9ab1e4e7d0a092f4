-- Laws: the bytes of two leaf entries that are compared tell the order of their pairs, by a header's features. Cited by the laws of leaf entries. Assumes
-- nothing.
use Rattle.std.specs.Prelude.{ℕ, zero, suc, ◌+◌, ◌≤◌, ◌<◌, ◌≡◌, Bool, true, false, cond, not, length, drop, eqb}
use Rattle.std.proofs.Common.{sym, ◌∙◌, add-zero, arith, drop-drop, ne_eqb}
use Rattle.std.proofs.Math.Path.{ap}
use mathlib.Core.List.{List, ◌∷◌, ◌++◌}
use Rattle.std.proofs.Math.ListN.{take}
use Rattle.std.proofs.Math.Seq.{take-add}
use Rattle.basis.specs.Tests.{either}
use Rattle.octets.specs.Bytes.{byte_at, be32}
use Rattle.octets.specs.Store.{window}
use Rattle.octets.specs.StoreLaws.{length-window, window_cons}
use Rattle.octets.specs.NumberLaws.{be32-window}
use Rattle.octets.specs.Order.{ordering, is_below}
use Rattle.tree.specs.Keeping.{pair_order}
use Rattle.idx_page.specs.KeyOrder.{bytes_order}
use Rattle.idx_page.specs.KeyOrderLaws.{below_not_le}
use Rattle.idx_page.specs.EntryOrderLaws.{FourBytes, entry-order}
use Rattle.idx_leaves.specs.Leaf.{compared_bytes}

-- how many bytes are compared
pub more_bytes : {several : Bool} (f : ℕ) → several ≡ eqb f 0 → several ≡ true → ◌≡◌ {A = ℕ} 4 (cond (eqb f 0) 4 0)
more_bytes f es t = rw (← es, t)

pub no_more-bytes : {several : Bool} (f : ℕ) → several ≡ eqb f 0 → several ≡ false → ◌≡◌ {A = ℕ} 0 (cond (eqb f 0) 4 0)
no_more-bytes f es t = rw (← es, t)

pub most_bytes : (f : ℕ) → cond (eqb f 0) 4 0 ≤ 4
most_bytes f = either (eqb f 0) (λ e. rw e (omega arith)) (λ e. rw e (omega arith))

-- a buffer holds bytes
module _ (b : List ℕ) (small : (j : ℕ) → byte_at b j < 256) where
  -- the four bytes of a number
  four_window : (at : ℕ) → at + 4 ≤ length b → FourBytes (window b at 4)
  unfolding window
  four_window at h = record {
    first = byte_at b at;
    second = byte_at b (at + 1);
    third = byte_at b (at + 1 + 1);
    fourth = byte_at b (at + 1 + 1 + 1);
    whole = window_cons b at 3 (omega arith)
        ∙ ap (λ (l : List ℕ). byte_at b at ∷ l) (window_cons b (at + 1) 2 (omega arith)
        ∙ ap (λ (l : List ℕ). byte_at b (at + 1) ∷ l) (window_cons b (at + 1 + 1) 1 (omega arith)
        ∙ ap (λ (l : List ℕ). byte_at b (at + 1 + 1) ∷ l) (window_cons b (at + 1 + 1 + 1) 0 (omega arith))));
    small = (small (at + 1), small (at + 1 + 1), small (at + 1 + 1 + 1));
  }

  module _ (k z at : ℕ) (before-end : z + (k + 4) ≤ length b) (here_end : at + (k + 4) ≤ length b) where
    -- an entry is its key and its number
    key_and_number : (p : ℕ) → window b p (k + 4) ≡ window b p k ++ window b (p + k) 4
    unfolding window
    key_and_number p = take-add k 4 (drop p b) ∙ ap (λ (l : List ℕ). take k (drop p b) ++ take 4 l) (drop-drop k p b)

    same_length : length (window b at k) ≡ length (window b z k)
    same_length = length-window b at k (omega arith) ∙ sym (length-window b z k (omega arith))

    -- Theorem: the entry that begins at z has the lower pair exactly if the bytes compared are below
    pub pairs_compared : (f n : ℕ) → n ≡ compared_bytes f k → is_below (ordering (window b z n) (window b at n))
        ≡ not (pair_order bytes_order f (window b at k, be32 b (at + k)) (window b z k, be32 b (z + k)))
    pairs_compared zero n en =
        let order = entry-order (window b at k, window b (at + k) 4) (window b z k, window b (z + k) 4) same_length
        (four_window (at + k) (omega arith)) (four_window (z + k) (omega arith)) in
        below_not_le (window b z n) (window b at n)
        ∙ rw (en, key_and_number z, key_and_number at, ← order, be32-window b (at + k), be32-window b (z + k))
    pairs_compared (suc m) n en =
        let keys : n ≡ k = en ∙ rw (ne_eqb (suc m) 0 (omega arith)) (add-zero k) in
        below_not_le (window b z n) (window b at n) ∙ rw keys
