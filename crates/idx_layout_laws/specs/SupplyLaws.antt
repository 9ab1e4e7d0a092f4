-- Laws: a supply that is stored in the header is read back, and no page and no other number of the header changes. Cited by the laws of insertion. Assumes
-- nothing.
use Rattle.std.specs.Prelude.{◌≡◌, true, List, ◌++◌, ℕ, ◌^◌, ◌≤◌, ◌<◌, length}
use Rattle.std.proofs.Math.Path.{ap₂}
use Rattle.std.proofs.Common.{◌∙◌, arith, length-append}
use Rattle.octets.specs.Bytes.{to_le32}
use Rattle.octets.specs.Store.{put, window}
use Rattle.octets.specs.StoreLaws.{length-put, put_append, window-before, window-after}
use Rattle.octets.specs.NumberLaws.{length-to_le32, le32-put, le32-same}
use Rattle.idx_page.specs.Header.{page_size, is_page, root_offset}
use Rattle.idx_supply.specs.declared.Supply.{Supply}
use Rattle.idx_supply.specs.Supply.{supply_from, supply_of, with_supply}
use Rattle.idx_layout_laws.specs.EntryLaws.{entries_in, entries-header}
use Rattle.idx_layout_laws.specs.HeadLaws.{SameHead, put-header}
use Rattle.idx_layout_laws.specs.OtherPages.{SameButLeft, header-other}

-- both numbers of a supply have four bytes
abbrev pub Storable : Supply → Type 0
Storable s = (s.free.0 < 2 ^ 32) × (s.end.0 < 2 ^ 32)

-- the header but for its root offset and its supply
abbrev pub SameRest : List ℕ → List ℕ → Type 0
SameRest b b' = window b' 12 500 ≡ window b 12 500

-- b' is b with the supply s
pub record Stored (b b' : List ℕ) (s : Supply) : Type 0 where
  pub as_long : length b' ≡ length b
  pub entries : (k : ℕ) → entries_in k b' ≡ entries_in k b
  pub heads : (z : ℕ) → is_page (length b) z ≡ true → SameHead b b' z
  pub pages : (z : ℕ) → is_page (length b) z ≡ true → SameButLeft b b' z
  pub root : root_offset b' ≡ root_offset b
  pub supply : supply_of b' ≡ s
  pub header : SameRest b b'

module _ (b : List ℕ) (s : Supply) where
  -- the bytes of a supply, and its two stores as one
  abbrev bytes : List ℕ
  bytes = to_le32 s.free.0 ++ to_le32 s.end.0

  one_store : with_supply b s ≡ put b 4 bytes
  unfolding with_supply
  one_store = let four = length-to_le32 s.free.0 in rw (put_append b 4 (to_le32 s.free.0) (to_le32 s.end.0), four)

  eight : length bytes ≡ 8
  eight = simp (length-append, length-to_le32)

  -- the two numbers are read back
  read_back : page_size ≤ length b → Storable s → supply_of (with_supply b s) ≡ s
  unfolding with_supply supply_of
  read_back l small =
      let b1 = put b 4 (to_le32 s.free.0) in
      let b2 = put b1 8 (to_le32 s.end.0) in
      ap₂ supply_from
      (le32-same b2 b1 4 (window-before b1 8 (to_le32 s.end.0) 4 4 (omega arith)) ∙ le32-put b 4 s.free.0 small.0 (omega arith))
      (le32-put b1 8 s.end.0 small.1 (omega (arith, length-put b 4 (to_le32 s.free.0))))

  pub supply-stored : page_size ≤ length b → Storable s → Stored b (with_supply b s) s
  supply-stored l small =
      let supply = read_back l small in
      let stored : supply_of (put b 4 bytes) ≡ s → Stored b (put b 4 bytes) s =
      λ e. record {
        as_long = length-put b 4 bytes;
        entries = λ k. entries-header k b 4 bytes (omega (arith, eight));
        heads = put-header b 4 bytes (omega (arith, eight));
        pages = header-other b 4 bytes (omega (arith, eight));
        root = le32-same (put b 4 bytes) b 0 (window-before b 4 bytes 0 4 (omega arith));
        supply = e;
        header = window-after b 4 bytes 12 500 (omega (arith, eight));
      } in
      rw one_store (stored (rw one_store at supply))
