-- Laws: what a good page says, and where its entries lie. Cited by the proofs of lookup and audit. Assumes nothing.
use Rattle.std.specs.Prelude.{ℕ, ◌+◌, ◌*◌, ◌≤◌, ◌≡◌, Bool, true, List, length}
use Rattle.std.proofs.Common.{mul-le-mul_right, le_trans, suc-mul, add-one, arith, leb-true}
use Rattle.basis.specs.Tests.{both}
use Rattle.ndx_page.specs.Header.{page_count, key_length, keys_per_page, entry_size, is_page, header_good}
use Rattle.ndx_page.specs.HeaderLaws.{good-header, is-page, key-inside}
use Rattle.ndx_page.specs.Page.{count_at, entry_offset, key_offset, count_good, page_good}
use Rattle.ndx_page.specs.Within.{Within}

-- the header, page p and n entries, up to keys per page, lie within the buffer
pub within-page : (b : List ℕ) (p n : ℕ) → header_good b ≡ true → is_page (page_count b) p ≡ true → n ≤ keys_per_page b → Within b p n
within-page b p n e i l =
    let h = good-header b e in
    let q = is-page (page_count b) p i in
    record {
      long = h.long;
      page = omega (arith, h.within, q.1);
      entries = le_trans (mul-le-mul_right (entry_size b) l) h.fit;
      key = omega (arith, h.entry, key-inside (key_length b));
    }

-- a page that lookup may visit: it is a page, and its count is within keys per page
pub good-page : (b : List ℕ) (p : ℕ) (first last : Bool) → page_good b p first last ≡ true
    → (is_page (page_count b) p ≡ true) × (count_at b p ≤ keys_per_page b)
unfolding page_good count_good
good-page b p first last e =
    let t = both _ _ e in
    let u = both _ _ t.1 in
    let n = both _ _ u.0 in
    (t.0, leb-true _ _ n.0)

-- fewer entries lie within the page too
pub within-fewer : {b : List ℕ} {p n : ℕ} (i : ℕ) → Within b p n → i ≤ n → Within b p i
within-fewer {b} {p} {n} i w l =
    record { long = w.long; page = w.page; entries = le_trans (mul-le-mul_right (entry_size b) l) w.entries; key = w.key }

-- the four bytes of a lower page after i entries: "the extra child of a full branch may begin at byte 508"
pub lower-inside : {b : List ℕ} {p i : ℕ} → Within b p i → entry_offset (entry_size b) p i + 4 ≤ length b
unfolding entry_offset
lower-inside w = omega arith

-- a whole entry
pub entry-inside : {b : List ℕ} {p : ℕ} (i : ℕ) → Within b p (i + 1) → entry_offset (entry_size b) p i + entry_size b ≤ length b
unfolding entry_offset
entry-inside {b} {p} i w =
    let q : (i + 1) * entry_size b ≡ i * entry_size b + entry_size b = rw add-one (omega (arith, suc-mul i (entry_size b))) in
    omega arith

-- its key
pub key-within : {b : List ℕ} {p : ℕ} (i : ℕ) → Within b p (i + 1) → key_offset b p i + key_length b ≤ length b
unfolding key_offset
key-within {b} {p} i w = omega (arith, entry-inside i w)
