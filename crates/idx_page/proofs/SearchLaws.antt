-- Laws: the search in a page is the theory's search in the list of its entries. Cited by the laws about lookup and insertion. Assumes nothing.
use Prim.Native.Nat.{ℕ, zero, suc, ◌+◌, ◌<◌}
use Rattle.std.specs.Prelude.{◌≡◌, List}
use Rattle.std.proofs.Math.Path.{refl}
use Rattle.std.proofs.Math.Option.{none, some}
use Rattle.std.proofs.Common.{arith}
use Rattle.basis.specs.Tests.{either}
use Rattle.octets.specs.Order.{bytes_le}
use Rattle.tree.specs.Pairs.{seek}
use Rattle.idx_page.specs.Page.{key_at, number_at, first_at_or_above}
use Rattle.idx_page.specs.KeyOrder.{bytes_order}
use Rattle.idx_page.specs.PageLaws.{first-end, first-here, first-later}
use Rattle.idx_page.specs.Reading.{entries_from}

-- the first of n entries of the page at p from entry i on, with keys of k bytes, that is at or above a key
abbrev pub first_entry : List ℕ → List ℕ → ℕ → ℕ → ℕ → ℕ → ℕ
first_entry b key k p n i = first_at_or_above (key_at b k p) key n i

module _ (b key : List ℕ) (k p : ℕ) where
  pub seek-some : (n i : ℕ) → first_entry b key k p n i < i + n
      → seek bytes_order key (entries_from b k p n i) ≡ some (key_at b k p (first_entry b key k p n i), number_at b k p (first_entry b key k p n i))
  unfolding entries_from
  seek-some zero i h = let f = first-end (key_at b k p) key i in absurd (omega arith)
  seek-some (suc n) i h = either (bytes_le key (key_at b k p i))
      (λ e. rw (e, first-here (key_at b k p) key n i e))
      (λ e. let f = first-later (key_at b k p) key n i e in rw (e, f) (seek-some n (i + 1) (omega arith)))

  pub seek-none : (n i : ℕ) → first_entry b key k p n i ≡ i + n → seek bytes_order key (entries_from b k p n i) ≡ none
  unfolding entries_from
  seek-none zero i h = refl
  seek-none (suc n) i h = either (bytes_le key (key_at b k p i))
      (λ e. let f = first-here (key_at b k p) key n i e in absurd (omega arith))
      (λ e. let f = first-later (key_at b k p) key n i e in rw e (seek-none n (i + 1) (omega arith)))
