-- Laws: "a found key is an equal one in the leaf", on any bytes, and the leaf passes lookup's checks. What a lookup in an index of either format shares is
-- said over the pages that it reads. Assumes nothing.
use Rattle.std.specs.Prelude.{ℕ, zero, suc, ◌-◌, ◌≤◌, ◌<◌, ◌≡◌, Bool, true, false, List, [], ◌∷◌, length, eqb, Err, Ok, Result}
use Rattle.std.proofs.Common.{sym, ap, ◌∙◌, arith, eq-eqb, ne_eqb, eqb-true}
use Rattle.std.proofs.lemmas.Bool.{eqb-false}
use Rattle.refusal.specs.Checks.{unless}
use Rattle.basis.specs.Tests.{either, impossible}
use Rattle.octets.specs.Order.{ordering, is_equal}
use Rattle.idx_page.specs.Header.{max_levels, root_offset, file_size, key_length, features, header_good}
use Rattle.idx_page.specs.Page.{attribute_at, count_at, leaf_bit, key_at, number_at, page_good, first_at_or_above}
use Rattle.idx_page.specs.PageLaws.{first_bound}
use Rattle.idx_page.specs.KeyOrderLaws.{equal-same}
use Rattle.idx_page.specs.declared.RecordNumber.{RecordNumber}
use Rattle.idx_lookup.specs.Lookup.{record_of, entry_says, page_says, visit_rule, decided, lookup_from, lookup_rule}
use Rattle.idx_lookup.specs.LookupLaws.{steps-key}
use Rattle.idx_lookup.specs.Visit.{Visit}
use Rattle.idx_lookup.specs.Visit as visit
use Rattle.idx_lookup.specs.Answer.{Answer, found, and_then}
use Rattle.idx_lookup.specs.AnswerLaws.{same-record, same-pages, absent-found}

-- what a lookup reads of a page: whether it passes its checks, as the first page visited or not and as the last that may be or not; whether it is a leaf; its
-- count; and of each entry the key and the number beside it
pub record Pages : Type 0 where
  pub good : ℕ → Bool → Bool → Bool
  pub leaf : ℕ → Bool
  pub count : ℕ → ℕ
  pub keys : ℕ → ℕ → List ℕ
  pub numbers : ℕ → ℕ → ℕ

-- an entry with the key and the record number r, in a leaf that is the n-th page visited, from the 1st to the 15th. The leaf passes lookup's checks
pub record FoundIn (P : Pages) (key : List ℕ) (r : RecordNumber) (n : ℕ) : Type 0 where
  pub page : ℕ
  pub entry : ℕ
  pub visits : (1 ≤ n) × (n ≤ max_levels)
  pub good : P.good page (eqb n 1) (eqb n max_levels) ≡ true
  pub inside : entry < P.count page
  pub leaf : P.leaf page ≡ true
  pub equal : P.keys page entry ≡ key
  pub number : P.numbers page entry ≡ r.0

-- an IDX index with keys of k bytes. A leaf passes the checks: it is a page of the file, its attribute is 0 to 3 and has the root bit exactly if it is the 1st
-- page visited, and its count is good
abbrev pub idx_pages : List ℕ → ℕ → Pages
idx_pages b k =
    record { good = page_good b k (file_size b); leaf = λ p. leaf_bit (attribute_at b p); count = count_at b; keys = key_at b k; numbers = number_at b k }

abbrev pub FoundAt : List ℕ → List ℕ → RecordNumber → ℕ → Type 0
FoundAt b key r n = FoundIn (idx_pages b (length key)) key r n

-- the answers are not one another
module _ {P : Type 0} {r : RecordNumber} where
  pub not_absent : {X : Type 0} → ◌≡◌ {A = Visit P} visit.Absent (visit.Found r) → X
  not_absent e = impossible (cc)

  pub not_child : {X : Type 0} {c : P} → visit.Child c ≡ visit.Found r → X
  not_child e = impossible (cc)

  pub same_number : {m : ℕ} → ◌≡◌ {A = Visit P} (visit.Found (record_of m)) (visit.Found r) → m ≡ r.0
  same_number {m} e = let s : record_of m ≡ r = cc in ap (λ (x : RecordNumber). x.0) s

-- a visit that is refused found nothing
pub not_refused : {X A : Type 0} (n : ℕ) {a : A} → Err n ≡ Ok a → X
not_refused n e = impossible (cc)

-- an entry that is not past the last, of a leaf that was visited as the n-th page, and with an equal key
pub found-entry : (P : Pages) (key : List ℕ) (p n i : ℕ) {r : RecordNumber} → (1 ≤ n) × (n ≤ max_levels) → P.good p (eqb n 1) (eqb n max_levels) ≡ true
    → i ≤ P.count p → eqb i (P.count p) ≡ false → P.leaf p ≡ true → is_equal (ordering (P.keys p i) key) ≡ true → P.numbers p i ≡ r.0
    → FoundIn P key r n
found-entry P key p n i visits good bound other leaf equal number =
    record {
      page = p;
      entry = i;
      visits = visits;
      good = good;
      inside = omega (arith, bound, eqb-false i (P.count p) other);
      leaf = leaf;
      equal = equal-same _ _ equal;
      number = number;
    }

pub same_visit : {P : Type 0} {v w : Visit P} → ◌≡◌ {A = Result (Visit P) ℕ} (Ok v) (Ok w) → v ≡ w
same_visit e = cc

-- the n-th page visited
module _ (b key : List ℕ) (p n : ℕ) (visits : (1 ≤ n) × (n ≤ max_levels)) where
  entry_found : (i : ℕ) (r : RecordNumber) → page_good b (length key) (file_size b) p (eqb n 1) (eqb n max_levels) ≡ true → i ≤ count_at b p
      → entry_says b key p i ≡ visit.Found r → FoundAt b key r n
  unfolding entry_says
  entry_found i r g h e = either (eqb i (count_at b p))
      (λ u. not_absent (rw u at e))
      (λ u. either (leaf_bit (attribute_at b p))
      (λ l. either (is_equal (ordering (key_at b (length key) p i) key))
      (λ q. found-entry (idx_pages b (length key)) key p n i visits g h u l q (same_number (rw (u, l, q) at e)))
      (λ q. not_absent (rw (u, l, q) at e)))
      (λ l. not_child (rw (u, l) at e)))

  visit-found : (r : RecordNumber) → visit_rule b key p (eqb n 1) (eqb n max_levels) ≡ Ok (visit.Found r) → FoundAt b key r n
  unfolding visit_rule page_says
  visit-found r e = either (page_good b (length key) (file_size b) p (eqb n 1) (eqb n max_levels))
      (λ g.
      let bound = first_bound (key_at b (length key) p) key (count_at b p) 0 in
      entry_found (first_at_or_above (key_at b (length key) p) key (count_at b p) 0) r g (omega arith) (same_visit (rw (g, visit_rule) at e)))
      (λ g. not_refused 25 (rw (g, visit_rule) at e))

-- a visit that leads to a record found it on that page, or went on to a child
pub decided-found : {P X : Type 0} {go : P → Answer} (pages : ℕ) (v : Result (Visit P) ℕ) {r : RecordNumber} {n : ℕ}
    → and_then v (decided go pages) ≡ found r n → (v ≡ Ok (visit.Found r) → pages ≡ n → X) → ((c : P) → go c ≡ found r n → X) → X
decided-found pages (Err m) e here on = impossible (cc)
decided-found pages (Ok visit.Absent) {r} {n} e here on = absent-found pages r n e
decided-found pages (Ok (visit.Found s)) {r} {n} e here on =
    here (ap (λ (x : RecordNumber). Ok (visit.Found x)) (same-record s r pages n e)) (same-pages s r pages n e)
decided-found pages (Ok (visit.Child c)) e here on = on c e

-- a page with no level left under it is the 15th
pub last-visited : (left : ℕ) → left < max_levels → eqb left 0 ≡ eqb (max_levels - left) max_levels
last-visited left l = either (eqb left 0)
    (λ e. e ∙ sym (eq-eqb (max_levels - left) max_levels (omega (arith, eqb-true left 0 e))))
    (λ e. e ∙ sym (ne_eqb (max_levels - left) max_levels (λ q. omega (arith, eqb-false left 0 e, q))))

from_found : (levels : ℕ) (b key : List ℕ) (p : ℕ) (r : RecordNumber) (n : ℕ) → levels ≤ max_levels → lookup_from levels b key p ≡ found r n
    → FoundAt b key r n
unfolding lookup_from
from_found zero b key p r n l e = impossible (cc)
from_found (suc left) b key p r n l e =
    decided-found (max_levels - left) (visit_rule b key p (eqb (max_levels - left) 1) (eqb left 0)) e
    (λ q same.
    let visits : (1 ≤ max_levels - left) × (max_levels - left ≤ max_levels) = (omega arith, omega arith) in
    let there = visit-found b key p (max_levels - left) visits r (rw (last-visited left (omega arith)) at q) in
    rw same at there)
    (λ c q. from_found left b key c.0 r n (omega arith) q)

-- a lookup that finds its key was not refused by 24 or 27
pub found-checked : (header fits : Bool) {a : Answer} {r : RecordNumber} {n : ℕ}
    → unless ((header, 24) ∷ (fits, 27) ∷ []) Err a ≡ found r n → a ≡ found r n
unfolding unless
found-checked true true e = e
found-checked true false e = impossible (cc)
found-checked false fits e = impossible (cc)

-- Theorem: for features 1 a key that lookup finds after n pages is the key of an entry in the n-th page visited, a leaf that passes lookup's checks, and the
-- record is the entry's
pub found_is_equal : (b key : List ℕ) (r : RecordNumber) (n : ℕ) → eqb (features b) 0 ≡ false → lookup_rule b key ≡ found r n → FoundAt b key r n
unfolding lookup_rule unless
found_is_equal b key r n one e =
    from_found max_levels b key (root_offset b) r n (omega arith)
    (sym (steps-key b key (features b) one) ∙ found-checked (header_good b) (eqb (length key) (key_length b)) e)
