-- Laws: what was laid out is an empty table with the fields of the lent list: it passes the table's checks, has no record, and lists the entries that were
-- given, but for the offset, which is the one worked out; an offset that is given is not read; the buffer's later bytes are kept. Assumes nothing.
use Rattle.std.specs.Prelude.{ℕ, zero, suc, ◌+◌, ◌*◌, ◌≤◌, ◌<◌, ◌≡◌, true, length, take, drop, get_or, replicate}
use Rattle.std.proofs.Math.Path.{refl, sym}
use Rattle.std.proofs.Common.{ap, ◌∙◌, not-suc-le-zero, arith, length-append, get_or-append-add, drop_at, ext_get_or, lit<}
use mathlib.Core.List.{List, [], ◌∷◌, ◌++◌, map, append-nil}
use Rattle.std.proofs.lemmas.List.{length-map}
use Rattle.std.proofs.Math.ListN.{get_or-append}
use borrow.Author.Tests.{leb-true, le-leb}
use Rattle.basis.specs.Lists.{All}
use Rattle.refusal.specs.After.{After, left}
use Rattle.refusal.specs.CheckLaws.{first-none, unless-none, unless-code}
use Rattle.octets.specs.Bytes.{byte_at}
use Rattle.octets.specs.Store.{put, window}
use Rattle.octets.specs.StoreLaws.{length-put, length-window, get_d_window, window_same, put_splice}
use Rattle.dbf_table.specs.Table.{max_fields, max_record, descriptor, field_offset, field_count, record_count, fields_good, names_differ}
use Rattle.dbf_table.specs.Table.{table_checks, table_refusal, storable_date}
use Rattle.dbf_table.specs.DateLaws.{storable}
use Rattle.dbf_field.specs.Field.{field_name, entry_of, no_entry}
use Rattle.dbf_field.specs.declared.FieldEntry.{FieldEntry}
use Rattle.dbf_create.specs.Laying.{descriptor_of, descriptors_of, header_size, record_size, laid_out, lay_checks, lay_refusal, lay_out_rule}
use Rattle.dbf_create.specs.LayingLaws.{count-range, Holds, length_laid, laid_holds, laid_records, laid_header, count_held, laid_checks, lay_zero, lay_code}

-- ---- no refusal

record Accepted (room : ℕ) (ds : List ℕ) (f year month day : ℕ) : Type 0 where
  date : storable_date year month day ≡ true
  some : 1 ≤ f
  few : f ≤ max_fields
  fields : fields_good (laid_out ds f year month day) ≡ true
  names : names_differ (laid_out ds f year month day) ≡ true
  small : record_size ds f ≤ max_record
  fits : header_size f + 1 ≤ room

module _ (room : ℕ) (ds : List ℕ) (f year month day : ℕ) where
  accepted : lay_refusal room ds f year month day ≡ 0 → Accepted room ds f year month day
  unfolding lay_refusal lay_checks
  accepted e =
      let held = first-none (lay_checks room ds f year month day) (lit< tt, (lit< tt, (lit< tt, (lit< tt, (lit< tt, (lit< tt, tt)))))) e in
      let count = count-range f held.1.0 in
      let fields = held.1.1 in
      record {
        date = held.0;
        some = count.0;
        few = count.1;
        fields = fields.0;
        names = fields.1.0;
        small = leb-true _ _ fields.1.1.0;
        fits = leb-true _ _ fields.1.1.1.0;
      }

  -- the table passes its own checks
  laid_good : length ds ≡ 32 * f → Accepted room ds f year month day → table_refusal (laid_out ds f year month day) ≡ 0
  unfolding table_refusal
  laid_good size a =
      let t = laid_out ds f year month day in
      let checks = laid_checks ds f year month day size a.some a.few (storable year month day a.date) (omega (arith, a.small)) (λ n. n) 0 [] in
      sym (unless-code (λ (n : ℕ). n) 0 (λ n. n) refl (λ n. refl) (table_checks t)) ∙ rw append-nil at checks
      ∙ unless-none (λ (n : ℕ). n) 0 _ (a.fields, (a.names, (le-leb (record_size ds f) max_record a.small, tt)))

-- ---- the entries

-- each name has 11 bytes, as every entry's has
abbrev pub Named : List FieldEntry → Type 0
Named es = All (λ e. length e.name ≡ 11) es

all-at : (es : List FieldEntry) → Named es → (j : ℕ) → j < length es → length (get_or es j no_entry).name ≡ 11
all-at [] named j l = absurd (not-suc-le-zero l)
all-at (e ∷ es) named zero l = named.0
all-at (e ∷ es) named (suc j) l = all-at es named.1 j (omega arith)

length-descriptor : (e : FieldEntry) → length e.name ≡ 11 → length (descriptor_of e) ≡ 32
unfolding descriptor_of
length-descriptor e n = rw (length-append, n)

pub length_descriptors : (es : List FieldEntry) → Named es → length (descriptors_of es) ≡ 32 * length es
unfolding descriptors_of
length_descriptors [] named = refl
length_descriptors (e ∷ es) named =
    rw (length-append, length-descriptor e named.0, length_descriptors es named.1) (omega arith)

-- the bytes of descriptor j are those of entry j
descriptor-byte : (es : List FieldEntry) → Named es → (j : ℕ) → j < length es → (k : ℕ) → k < 32
    → byte_at (descriptors_of es) (32 * j + k) ≡ byte_at (descriptor_of (get_or es j no_entry)) k
unfolding descriptors_of
descriptor-byte [] named j l k m = absurd (not-suc-le-zero l)
descriptor-byte (e ∷ es) named zero l k m =
    let at : 32 * 0 + k ≡ k = omega arith in
    rw at (get_or-append (descriptor_of e) (descriptors_of es) 0 k (rw (length-descriptor e named.0) m))
descriptor-byte (e ∷ es) named (suc j) l k m =
    let at : 32 * suc j + k ≡ 32 + (32 * j + k) = omega arith in
    let next = rw (length-descriptor e named.0) at (get_or-append-add (descriptor_of e) (descriptors_of es) (32 * j + k) 0) in
    rw at next ∙ descriptor-byte es named.1 j (omega arith) k m

-- its parts
module _ (e : FieldEntry) (n : length e.name ≡ 11) where
  abbrev rest : List ℕ
  rest = e.kind ∷ 0 ∷ 0 ∷ 0 ∷ 0 ∷ e.length ∷ e.decimals ∷ replicate 14 0

  name-byte : (k : ℕ) → k < 11 → byte_at (descriptor_of e) k ≡ byte_at e.name k
  unfolding descriptor_of
  name-byte k l = get_or-append e.name rest 0 k (rw n l)

  rest-byte : (k : ℕ) → byte_at (descriptor_of e) (11 + k) ≡ byte_at rest k
  unfolding descriptor_of
  rest-byte k = rw n at (get_or-append-add e.name rest k 0)

-- an entry with another offset
abbrev pub with_offset : FieldEntry → ℕ → FieldEntry
with_offset e n = record { name = e.name; kind = e.kind; length = e.length; decimals = e.decimals; offset = n }

-- a table that holds the descriptors lists the entries, each with its own offset
holds-entries : (t : List ℕ) (es : List FieldEntry) → Named es → Holds t (descriptors_of es) (length es) → 32 + 32 * length es ≤ length t
    → (j : ℕ) → j < length es → entry_of t j ≡ with_offset (get_or es j no_entry) (field_offset t j)
unfolding entry_of field_name
holds-entries t es named held long j l =
    let e = get_or es j no_entry in
    let n : length e.name ≡ 11 = all-at es named j l in
    let byte : (k : ℕ) → k < 32 → byte_at t (descriptor j + k) ≡ byte_at (descriptor_of e) k =
    λ k m.
    let at : descriptor j + k ≡ 32 + (32 * j + k) = omega arith in
    rw at (held.byte (32 * j + k) (omega arith) ∙ descriptor-byte es named j l k m) in
    let width : length (window t (descriptor j) 11) ≡ 11 = length-window t (descriptor j) 11 (omega arith) in
    let name : window t (descriptor j) 11 ≡ e.name =
    ext_get_or 0 (window t (descriptor j) 11) e.name (width ∙ sym n)
    (λ i m. let below : i < 11 = rw width at m in get_d_window t (descriptor j) 11 i 0 below ∙ byte i (omega arith) ∙ name-byte e n i below) in
    let kind : byte_at t (descriptor j + 11) ≡ e.kind = byte 11 (omega arith) ∙ rest-byte e n 0 in
    let size : byte_at t (descriptor j + 16) ≡ e.length = byte 16 (omega arith) ∙ rest-byte e n 5 in
    let decimals : byte_at t (descriptor j + 17) ≡ e.decimals = byte 17 (omega arith) ∙ rest-byte e n 6 in
    rw (name, kind, size, decimals)

-- ---- the table in the buffer

pub record EmptyTable (b after : List ℕ) (es : List FieldEntry) (year month day : ℕ) : Type 0 where
  -- the first H + 1 bytes are those of the rule, and a table that passes its checks
  pub bytes : take (header_size (length es) + 1) after ≡ laid_out (descriptors_of es) (length es) year month day
  pub table : table_refusal (take (header_size (length es) + 1) after) ≡ 0
  -- it has no record
  pub records : record_count (take (header_size (length es) + 1) after) ≡ 0
  -- it has the fields that were given: each entry but for its offset, which is the one worked out
  pub count : field_count (take (header_size (length es) + 1) after) ≡ length es
  pub entries : (j : ℕ) → j < length es
      → entry_of (take (header_size (length es) + 1) after) j ≡ with_offset (get_or es j no_entry) (field_offset (take (header_size (length es) + 1) after) j)
  -- the bytes behind it are the buffer's own
  pub later : drop (header_size (length es) + 1) after ≡ drop (header_size (length es) + 1) b
  pub long : length after ≡ length b

pub empty-table : (b after : List ℕ) (es : List FieldEntry) (year month day : ℕ) → Named es → lay_out_rule b es year month day ≡ left after 0
    → EmptyTable b after es year month day
unfolding lay_out_rule window
empty-table b after es year month day named e =
    let f = length es in
    let ds = descriptors_of es in
    let t = laid_out ds f year month day in
    let size = length_descriptors es named in
    let none : lay_refusal (length b) ds f year month day ≡ 0 =
    sym (lay_code b ds f year month day) ∙ ap (λ (call : After ℕ). call.answer) e in
    let a = accepted (length b) ds f year month day none in
    let put_is : put b 0 t ≡ after = ap (λ (call : After ℕ). call.after) (sym (lay_zero b ds f year month day none) ∙ e) in
    let long : length t ≡ header_size f + 1 = length_laid ds f year month day size in
    let bytes : take (header_size f + 1) after ≡ t = rw (← put_is) (window_same b 0 t (header_size f + 1) long (omega (arith, a.fits))) in
    let ends : 0 + length t ≡ header_size f + 1 = omega arith in
    let spliced : after ≡ t ++ drop (header_size f + 1) b = sym put_is ∙ rw ends at (put_splice b 0 t (omega (arith, a.fits))) in
    let later : drop (header_size f + 1) after ≡ drop (header_size f + 1) b = rw spliced (drop_at t _ (header_size f + 1) long) in
    record {
      bytes = bytes;
      table = rw bytes (laid_good (length b) ds f year month day size a);
      records = rw bytes (laid_records ds f year month day size);
      count = rw bytes (count_held t f (laid_header ds f year month day size a.few));
      entries = rw bytes (holds-entries t es named (laid_holds ds f year month day size) (omega arith));
      later = later;
      long = rw (← put_is) (length-put b 0 t);
    }

-- ---- document 02, K7: "laying out doesn't read it"

-- the entries with no offset
abbrev pub bare : List FieldEntry → List FieldEntry
bare es = map (λ e. with_offset e 0) es

bare_descriptors : (es : List FieldEntry) → descriptors_of (bare es) ≡ descriptors_of es
unfolding descriptors_of descriptor_of
bare_descriptors [] = refl
bare_descriptors (e ∷ es) = rw (bare_descriptors es)

-- Theorem: lists that differ in their offsets alone are laid out alike
pub offsets_unread : (b : List ℕ) (es others : List FieldEntry) (year month day : ℕ) → bare es ≡ bare others
    → lay_out_rule b es year month day ≡ lay_out_rule b others year month day
unfolding lay_out_rule
offsets_unread b es others year month day same =
    let descriptors : descriptors_of es ≡ descriptors_of others = sym (bare_descriptors es) ∙ ap descriptors_of same ∙ bare_descriptors others in
    let count : length es ≡ length others =
    sym (length-map es (λ e. with_offset e 0)) ∙ ap (λ (l : List FieldEntry). length l) same ∙ length-map others (λ e. with_offset e 0) in
    rw (descriptors, count)
