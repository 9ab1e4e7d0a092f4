-- Laws: for features 0 "a found key is an equal one in the leaf", on any bytes: in the leaf that the steps lead to, or in its right neighbour; and that leaf
-- passes lookup's checks. Assumes nothing.
use Prim.Native.Nat.{ℕ, zero, suc, ◌+◌, ◌-◌, ◌≤◌, ◌<◌}
use Rattle.std.specs.Prelude.{◌≡◌, refl, Bool, ◌&&◌, ◌||◌, not, List, length, leb, Err}
use Rattle.std.proofs.Common.{sym, ap, ◌∙◌}
use Rattle.std.proofs.Math.Path.{subst}
use Rattle.std.proofs.Math.Bool.{true, false}
use Rattle.std.specs.Bool.{beq}
use native.Mathlib.Omega.{arith}
use Rattle.std.proofs.Math.Dec.{eqb}
use borrow.Author.Tests.{eqb-false, ne_eqb}
use Rattle.refusal.specs.Checks.{unless}
use Rattle.basis.specs.Tests.{either, both, contra, impossible}
use Rattle.octets.specs.Order.{ordering, is_equal}
use Rattle.idx_page.specs.Header.{max_levels, no_page, root_offset, file_size, key_length, features, is_page, header_good}
use Rattle.idx_page.specs.Page.{attribute_at, count_at, right_at, root_bit, leaf_bit, key_at, number_at, attribute_good, count_good, page_good}
use Rattle.idx_page.specs.Page.{first_at_or_above}
use Rattle.idx_page.specs.PageLaws.{first_bound}
use Rattle.idx_page.specs.KeyOrderLaws.{equal-same}
use Rattle.idx_page.specs.declared.RecordNumber.{RecordNumber}
use Rattle.idx_lookup.specs.FirstRecord.{record_of, entry_decides, neighbour_decides, first_from}
use Rattle.idx_lookup.specs.Lookup.{lookup_rule}
use Rattle.idx_lookup.specs.LookupLaws.{steps_record}
use Rattle.idx_lookup.specs.WayLaws.{page-some}
use Rattle.idx_lookup.specs.Answer.{found}
use Rattle.idx_lookup.specs.AnswerLaws.{same-record, same-pages, absent-found}

-- an entry with the key and the record number r, in a leaf that is the n-th page visited, from the 1st to the 12th. The leaf passes lookup's checks; `last`
-- says whether it was checked as a page that must be a leaf
pub record FirstAt (b key : List ℕ) (r : RecordNumber) (n : ℕ) : Type 0 where
  pub page : ℕ
  pub entry : ℕ
  pub last : Bool
  pub visits : (1 ≤ n) × (n ≤ max_levels + 1)
  pub good : page_good b (length key) (file_size b) page (eqb n 1) last ≡ true
  pub inside : entry < count_at b page
  pub leaf : leaf_bit (attribute_at b page) ≡ true
  pub equal : key_at b (length key) page entry ≡ key
  pub number : number_at b (length key) page entry ≡ r.0

-- a page that must be a leaf is one
page-leaf : (b : List ℕ) (k size p : ℕ) (first : Bool) → page_good b k size p first true ≡ true → leaf_bit (attribute_at b p) ≡ true
unfolding page_good attribute_good
page-leaf b k size p first t =
    let a = attribute_at b p in
    let checks = (both (is_page size p) (attribute_good a first true && count_good k a (count_at b p)) t).1 in
    let each = (both (attribute_good a first true) (count_good k a (count_at b p)) checks).0 in
    let bits = (both (leb a 3) (beq (root_bit a) first && (leaf_bit a || not true)) each).1 in
    let leaf = (both (beq (root_bit a) first) (leaf_bit a || not true) bits).1 in
    either (leaf_bit a) (λ u. u) (λ u. contra (rw u at leaf) refl)

same_record : {m p n : ℕ} {r : RecordNumber} → found (record_of m) p ≡ found r n → (m ≡ r.0) × (p ≡ n)
same_record {m} {p} {n} {r} e =
    (ap (λ (x : RecordNumber). x.0) (same-record (record_of m) r p n e), same-pages (record_of m) r p n e)

module _ (b key : List ℕ) (r : RecordNumber) (n : ℕ) where
  -- entry i of the leaf at p decided
  decided-here : (pages p i : ℕ) (last : Bool) → (1 ≤ pages) × (pages ≤ max_levels + 1) → page_good b (length key) (file_size b) p (eqb pages 1) last ≡ true
      → i < count_at b p → leaf_bit (attribute_at b p) ≡ true → entry_decides b key pages p i ≡ found r n → FirstAt b key r n
  unfolding entry_decides
  decided-here pages p i last visits good inside leaf e = either (is_equal (ordering (key_at b (length key) p i) key))
      (λ t.
      let q = same_record (rw t at e) in
      let there : FirstAt b key r pages = record {
        page = p;
        entry = i;
        last = last;
        visits = visits;
        good = good;
        inside = inside;
        leaf = leaf;
        equal = equal-same _ _ t;
        number = q.0;
      } in
      subst (FirstAt b key r) q.1 there)
      (λ t. absent-found pages r n (rw t at e))

  -- the right neighbour at q decided
  decided-beyond : (pages q : ℕ) → (1 ≤ pages) × (pages ≤ max_levels) → neighbour_decides b key pages q ≡ found r n → FirstAt b key r n
  unfolding neighbour_decides
  decided-beyond pages q v e = either (eqb q no_page)
      (λ t. absent-found pages r n (rw (t, neighbour_decides) at e))
      (λ t. either (page_good b (length key) (file_size b) q false true)
      (λ g.
      let second : eqb (pages + 1) 1 ≡ false = ne_eqb (pages + 1) 1 (λ z. omega arith) in
      decided-here (pages + 1) q 0 true (omega arith, omega arith) (rw second g) (page-some b (length key) (file_size b) q true g)
      (page-leaf b (length key) (file_size b) q false g) (rw (t, g, neighbour_decides) at e))
      (λ g. let f : Err 25 ≡ found r n = rw (t, g, neighbour_decides) at e in impossible (cc)))

  from_first : (levels p : ℕ) → levels ≤ max_levels → first_from levels b key p ≡ found r n → FirstAt b key r n
  unfolding first_from
  from_first zero p l e = impossible (cc)
  from_first (suc left) p l e =
      let i = first_at_or_above (key_at b (length key) p) key (count_at b p) 0 in
      let bound = first_bound (key_at b (length key) p) key (count_at b p) 0 in
      either (page_good b (length key) (file_size b) p (eqb (max_levels - left) 1) (eqb left 0))
      (λ g. either (eqb i (count_at b p))
      (λ c. either (eqb (max_levels - left) 1)
      (λ f. absent-found (max_levels - left) r n (rw (g, c, f, first_from) at e))
      (λ f. either (leaf_bit (attribute_at b p))
      (λ t. decided-beyond (max_levels - left) (right_at b p) (omega arith, omega arith) (rw (g, c, f, t, first_from) at e))
      (λ t. from_first left (number_at b (length key) p (count_at b p - 1)) (omega arith) (rw (g, c, f, t, first_from) at e))))
      (λ c. either (leaf_bit (attribute_at b p))
      (λ t.
      decided-here (max_levels - left) p i (eqb left 0) (omega arith, omega arith) g (omega (arith, eqb-false i (count_at b p) c, bound)) t
      (rw (g, c, t, first_from) at e))
      (λ t. from_first left (number_at b (length key) p i) (omega arith) (rw (g, c, t, first_from) at e))))
      (λ g. let q : Err 25 ≡ found r n = rw (g, first_from) at e in impossible (cc))

  -- Theorem: for features 0 a key that lookup finds after n pages is the key of an entry in the n-th page visited, a leaf that passes lookup's checks, and the
  -- record is the entry's
  pub first_is_equal : eqb (features b) 0 ≡ true → lookup_rule b key ≡ found r n → FirstAt b key r n
  unfolding lookup_rule unless
  first_is_equal several e = either (header_good b)
      (λ h. either (eqb (length key) (key_length b))
      (λ l. from_first max_levels (root_offset b) (omega arith) (sym (steps_record b key (features b) several) ∙ rw (h, l) at e))
      (λ l. let f : Err 27 ≡ found r n = rw (h, l) at e in impossible (cc)))
      (λ h. let f : Err 24 ≡ found r n = rw (h) at e in impossible (cc))
