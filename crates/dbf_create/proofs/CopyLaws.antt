-- Laws: the lent entries, copied one after another into a room, are laid out as the rule says of them. Cited by the call over the lent list.
-- Assumes nothing.
use Rattle.std.specs.Prelude.{ℕ, zero, suc, ◌+◌, ◌*◌, ◌≤◌, ◌<◌, ◌≡◌, refl, false, List, [], ◌∷◌, ◌++◌, length, take, get_or, leb, ltb}
use Rattle.std.proofs.Common.{sym, ap, ◌∙◌, append_assoc, append-nil, add-one, arith, take-suc, take_all, length-take-le, leb-true, ltb-true, ltb-false}
use Rattle.std.proofs.Math.Bool.{and-false}
use Rattle.std.proofs.lemmas.List.{length-replicate}
use Rattle.basis.specs.Tests.{either}
use Rattle.basis.specs.Lists.{all_append, all_left}
use Rattle.octets.specs.Store.{put, window}
use Rattle.octets.specs.StoreLaws.{length-put, put-none, put_append, window_same}
use Rattle.dbf_table.specs.Table.{max_fields, storable_date}
use Rattle.dbf_field.specs.Field.{no_entry}
use Rattle.dbf_field.specs.declared.FieldEntry.{FieldEntry}
use Rattle.dbf_create.specs.Laying.{descriptor_of, descriptors_of, room_length, no_fields, with_field, listed_count, count_good, lay_out, lay_out_rule}
use Rattle.dbf_create.specs.LayingLaws.{lay_3, lay_4}
use Rattle.dbf_create.proofs.EmptyLaws.{Named, length_descriptors}

-- the room after j entries
unfoldable pub copied : List FieldEntry → ℕ → List ℕ
copied es zero = no_fields
copied es (suc j) = with_field (copied es j) j (get_or es j no_entry)

pub copied_none : (es : List FieldEntry) → no_fields ≡ copied es 0
unfolding copied
copied_none es = refl

pub copied_more : (es : List FieldEntry) (j : ℕ) → with_field (copied es j) j (get_or es j no_entry) ≡ copied es (j + 1)
unfolding copied
copied_more es j = rw (add-one j)

-- one entry more
descriptors_snoc : (es : List FieldEntry) (e : FieldEntry) → descriptors_of (es ++ (e ∷ [])) ≡ descriptors_of es ++ descriptor_of e
unfolding descriptors_of
descriptors_snoc [] e = append-nil (descriptor_of e)
descriptors_snoc (x ∷ es) e = rw (descriptors_snoc es e) (sym (append_assoc (descriptor_of x) (descriptors_of es) (descriptor_of e)))

pub length-copied : (es : List FieldEntry) (j : ℕ) → length (copied es j) ≡ room_length
unfolding copied no_fields with_field
length-copied es zero = length-replicate {A = ℕ} room_length 0
length-copied es (suc j) = length-put (copied es j) (32 + 32 * j) (descriptor_of (get_or es j no_entry)) ∙ length-copied es j

copied-bytes : (es : List FieldEntry) (j : ℕ) → j ≤ length es → Named (take j es) → copied es j ≡ put no_fields 32 (descriptors_of (take j es))
unfolding copied with_field descriptors_of
copied-bytes es zero l named = sym (put-none no_fields 32)
copied-bytes es (suc j) l named =
    let e = get_or es j no_entry in
    let more : take (suc j) es ≡ take j es ++ (e ∷ []) = take-suc es j no_entry l in
    let before : Named (take j es) = all_left (λ x. length x.name ≡ 11) (take j es) (e ∷ []) (rw more at named) in
    let ends : 32 + length (descriptors_of (take j es)) ≡ 32 + 32 * j =
    omega (arith, length_descriptors (take j es) before, length-take-le j es (omega arith)) in
    rw (more, descriptors_snoc (take j es) e, put_append no_fields 32 (descriptors_of (take j es)) (descriptor_of e), ends)
    (ap (λ (b : List ℕ). put b (32 + 32 * j) (descriptor_of e)) (copied-bytes es j (omega arith) before))

-- a list of too many fields is refused whatever its descriptors are
lay_many : (b ds other : List ℕ) (f year month day : ℕ) → count_good f ≡ false → lay_out b ds f year month day ≡ lay_out b other f year month day
lay_many b ds other f year month day many =
    either (storable_date year month day)
    (λ date. lay_4 b ds f year month day date many ∙ sym (lay_4 b other f year month day date many))
    (λ bad. lay_3 b ds f year month day bad ∙ sym (lay_3 b other f year month day bad))

count_many : (f : ℕ) → leb f max_fields ≡ false → count_good f ≡ false
unfolding count_good
count_many f many = rw many (and-false (leb 1 f))

count-few : (f : ℕ) → f ≤ max_fields → listed_count f ≡ f
unfolding listed_count
count-few f few =
    either (ltb f max_fields) (λ below. rw below) (λ over. rw over (omega (arith, ltb-false f max_fields over)))

pub count-within : (f : ℕ) → (listed_count f ≤ f) × (listed_count f ≤ max_fields)
unfolding listed_count
count-within f =
    either (ltb f max_fields)
    (λ below. rw below (omega arith, omega (arith, ltb-true f max_fields below)))
    (λ over. rw over (ltb-false f max_fields over, omega arith))

-- one name more
pub named_more : (es : List FieldEntry) (j : ℕ) → j < length es → Named (take j es) → length (get_or es j no_entry).name ≡ 11 → Named (take (j + 1) es)
named_more es j l named n =
    rw (add-one j, take-suc es j no_entry l) (all_append (λ e. length e.name ≡ 11) (take j es) (get_or es j no_entry ∷ []) named (n, tt))

-- the entries that were copied are laid out as the lent list is
pub lay_listed : (b : List ℕ) (es : List FieldEntry) (year month day j : ℕ) → j ≡ listed_count (length es) → Named (take j es)
    → lay_out_rule b es year month day ≡ lay_out b (window (copied es j) 32 (32 * length es)) (length es) year month day
unfolding lay_out_rule copied no_fields
lay_listed b es year month day j e named =
    either (leb (length es) max_fields)
    (λ fits.
    let few : length es ≤ max_fields = leb-true (length es) max_fields fits in
    let all : j ≡ length es = e ∙ count-few (length es) few in
    let whole : take j es ≡ es = take_all j es (omega arith) in
    let size = length_descriptors es (rw whole at named) in
    let bytes : copied es j ≡ put no_fields 32 (descriptors_of es) = rw whole at (copied-bytes es j (omega arith) named) in
    let long : length no_fields ≡ room_length = length-copied es 0 in
    let front : window (put no_fields 32 (descriptors_of es)) 32 (32 * length es) ≡ descriptors_of es =
    window_same no_fields 32 (descriptors_of es) (32 * length es) size (omega arith) in
    rw (bytes, front))
    (λ many. lay_many b (descriptors_of es) (window (copied es j) 32 (32 * length es)) (length es) year month day (count_many (length es) many))
