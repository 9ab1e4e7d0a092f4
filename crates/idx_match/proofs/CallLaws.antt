-- Laws: the refusals before the audit, one by one; what is known if there is none; the answers of the match. The proofs of the match's calls cite them.
-- Assumes nothing.
use Rattle.std.specs.Prelude.{ℕ, ◌-◌, ◌≤◌, ◌≡◌, refl, Bool, true, false, List, [], ◌∷◌, ◌↔◌, eqb, Err}
use Rattle.std.proofs.Math.Path.{sym}
use Rattle.std.proofs.Common.{ap, ◌∙◌, ⊎_elim, inl, inr, arith, lit<}
use borrow.Author.Tests.{eqb-true, eq-eqb, ne_eqb}
use Rattle.basis.specs.Tests.{contra}
use Rattle.refusal.specs.CheckLaws.{first-after, first-both, first-none}
use Rattle.refusal.specs.Checks.{first_refusal}
use Rattle.dbf_table.specs.Table.{type_c, record_count, record_start, field_count, field_type, field_length, table_checks, table_refusal, check_table}
use Rattle.dbf_table.specs.TableLaws.{layout, table-numbered, refused_check, refused_then, Shaped}
use Rattle.dbf_table.specs.RecordLaws.{field_inside, record_inside}
use Rattle.dbf_table.specs.declared.Shape.{Shape}
use Rattle.dbf_field.specs.Field.{number_good, entry_of}
use Rattle.dbf_field.specs.declared.FieldEntry.{FieldEntry}
use Rattle.dbf_field.specs.FieldLaws.{number-range}
use Rattle.idx_page.specs.Header.{max_levels, root_offset, file_size, key_length, header_good, features}
use Rattle.idx_sound.specs.Sound.{Sound, leaf_pairs, Audited}
use Rattle.idx_sound.specs.AuditTest.{max_pages}
use Rattle.idx_match.specs.declared.Column.{Column}
use Rattle.idx_match.specs.Match.{match_refusal, Matches, Matched}
use Rattle.idx_match.specs.MatchTest.{column_of, entries_match, first_leaf, entries_along, leaf_entries, ColumnInside}
use Rattle.idx_match.proofs.TestLaws.{test-exactly}
use Rattle.idx_match.specs.LeafLaws.{leaf-entries}

-- ---- the refusals after the table's

module _ (t b : List ℕ) (field : ℕ) (good : table_refusal t ≡ 0) where
  abbrev checks : List (Bool × ℕ)
  checks =
      (header_good b, 24)
      ∷ (number_good field (field_count t), 12)
      ∷ (eqb (field_type t (field - 1)) type_c, 13)
      ∷ (eqb (field_length t (field - 1)) (key_length b), 27)
      ∷ []

  refusal_is : match_refusal t b field ≡ first_refusal checks
  unfolding match_refusal table_refusal
  refusal_is = first-after (table_checks t) checks (table-numbered t) good

  pub refused_24 : header_good b ≡ false → 24 ≡ match_refusal t b field
  unfolding first_refusal
  refused_24 h = sym (refusal_is ∙ rw h)

  module _ (header : header_good b ≡ true) where
    pub refused_12 : number_good field (field_count t) ≡ false → 12 ≡ match_refusal t b field
    unfolding first_refusal
    refused_12 h = sym (refusal_is ∙ rw (header, h))

    module _ (number : number_good field (field_count t) ≡ true) where
      pub refused_13 : (field_type t (field - 1) ≡ type_c → ⊥) → 13 ≡ match_refusal t b field
      unfolding first_refusal
      refused_13 h = sym (refusal_is ∙ rw (header, number, ne_eqb (field_type t (field - 1)) type_c h))

      module _ (type : field_type t (field - 1) ≡ type_c) where
        pub refused_27 : (field_length t (field - 1) ≡ key_length b → ⊥) → 27 ≡ match_refusal t b field
        unfolding first_refusal
        refused_27 h = sym (refusal_is
            ∙ rw (header, number, eq-eqb (field_type t (field - 1)) type_c type, ne_eqb (field_length t (field - 1)) (key_length b) h))

        pub refused_none : field_length t (field - 1) ≡ key_length b → 0 ≡ match_refusal t b field
        unfolding first_refusal
        refused_none h = sym (refusal_is
            ∙ rw (header, number, eq-eqb (field_type t (field - 1)) type_c type, eq-eqb (field_length t (field - 1)) (key_length b) h))

  -- without refusal the index's header is good, the field is one of the table's, and it is as long as the keys
  pub record Ready : Type 0 where
    pub header : header_good b ≡ true
    pub from : 1 ≤ field
    pub to : field ≤ field_count t
    pub width : field_length t (field - 1) ≡ key_length b
    pub column : ColumnInside t (column_of t field)

  column-inside : 1 ≤ field → field ≤ field_count t → ColumnInside t (column_of t field)
  unfolding record_start
  column-inside from to =
      let table = layout t good in
      record {
        long = table.header.long;
        inside = λ i h.
            let r = number-range i (record_count t) h in
            let within = record_inside t table (i - 1) (omega arith) in
            let field-within = field_inside t table (field - 1) (omega arith) in
            omega arith;
      }

  pub ready : match_refusal t b field ≡ 0 → Ready
  ready e =
      let held = first-none checks (lit< tt, (lit< tt, (lit< tt, (lit< tt, tt)))) (sym refusal_is ∙ e) in
      let range = number-range field (field_count t) held.1.0 in
      record {
        header = held.0;
        from = range.0;
        to = range.1;
        width = eqb-true _ _ held.1.1.1.0;
        column = column-inside range.0 range.1;
      }

-- the table's checks come first
pub table-good : (t b : List ℕ) (field : ℕ) → match_refusal t b field ≡ 0 → table_refusal t ≡ 0
unfolding match_refusal table_refusal
table-good t b field e = (first-both (table_checks t) _ (table-numbered t) e).0

-- ---- the field and the leaves

-- the leaves' entries from the first leaf on, by the header's numbers; the file's bytes d are the index
pub leaves-from : (t b d : List ℕ) (c : Column) (k size first : ℕ) (r : Bool) → d ≡ b → c.length ≡ key_length b → k ≡ key_length b → size ≡ file_size b
    → first ≡ first_leaf d k size (max_levels - 1) (root_offset d) → r ≡ entries_match t c 0 (entries_along d c.length size max_pages first)
    → r ≡ entries_match t c 0 (leaf_entries b)
unfolding leaf_entries
leaves-from t b d c k size first r eb ec ek es ef er =
    let e : entries_along d c.length size max_pages first ≡ leaf_entries b = rw (ef, ec, ek, es, eb) in
    er ∙ ap (entries_match t c 0) e

-- the type and the length of a field's entry
pub entry-kind : (t : List ℕ) (e : FieldEntry) (j : ℕ) → e ≡ entry_of t j → e.kind ≡ field_type t j
unfolding entry_of
entry-kind t e j is = ap (λ (x : FieldEntry). x.kind) is

pub entry-length : (t : List ℕ) (e : FieldEntry) (j : ℕ) → e ≡ entry_of t j → e.length ≡ field_length t j
unfolding entry_of
entry-length t e j is = ap (λ (x : FieldEntry). x.length) is

-- the field, by the table's shape and the field's entry
pub column_is : (t : List ℕ) (s : Shape) (e : FieldEntry) (field : ℕ) → Shaped t s → e ≡ entry_of t (field - 1)
    → ◌≡◌ {A = Column} (record { records = s.records; offset = e.offset; length = e.length }) (column_of t field)
unfolding entry_of
column_is t s e field shaped is = rw (shaped.records, is)

-- what `entries_match` asks of the field
pub column-ready : (t b : List ℕ) (field : ℕ) (good : table_refusal t ≡ 0) (c : Column) → c ≡ column_of t field → Ready t b field good
    → ColumnInside t c × (header_good b ≡ true) × (c.length ≡ key_length b)
column-ready t b field good c e r = rw e (r.column, r.header, r.width)

-- ---- the answers

-- an audit that refuses an index with a good header answers 25
pub unsound-number : (b : List ℕ) (a : ℕ) → Audited b a → header_good b ≡ true → (a ≡ 0 → ⊥) → a ≡ 25
unsound-number b a audited good bad =
    ⊎_elim (λ e. contra good (audited.bad.0 e)) (λ rest. ⊎_elim (λ z. absurd (bad z)) (λ e. e) rest) audited.other

module _ (t b : List ℕ) (field : ℕ) where
  -- one of the refusals before the audit
  pub answer-refused : (r : ℕ) → r ≡ match_refusal t b field → (r ≡ 0 → ⊥) → Matched t b field r
  answer-refused r e some =
      record {
        refused = λ n. e;
        unsound = λ z. absurd (some (e ∙ z));
        accepted = λ z s. absurd (some (e ∙ z));
        other = λ z s. absurd (some (e ∙ z));
      }

  pub answer-table : (r : ℕ) → check_table t ≡ Err r → Matched t b field r
  unfolding match_refusal
  answer-table r e = answer-refused r (sym (refused_then t r _ e)) (refused_check t r e).1

  module _ (none : match_refusal t b field ≡ 0) (a : ℕ) (audited : Audited b a) where
    -- an index that is not sound
    pub answer-unsound : (a ≡ 0 → ⊥) → Matched t b field 25
    answer-unsound bad =
        let not_sound : Sound b → ⊥ = λ s. bad (audited.sound.1 s) in
        record {
          refused = λ n. absurd (n none);
          unsound = λ z. ((λ q. not_sound), (λ q. refl));
          accepted = λ z s. absurd (not_sound s);
          other = λ z s. absurd (not_sound s);
        }

    pub answer-audited : header_good b ≡ true → (a ≡ 0 → ⊥) → Matched t b field a
    answer-audited good bad = rw (unsound-number b a audited good bad) (answer-unsound bad)

    -- a sound index, by the test of its entries
    test_of : (s : Sound b) → (entries_match t (column_of t field) 0 (leaf_entries b) ≡ true) ↔ Matches t field (leaf_pairs b s)
    test_of s = rw (leaf-entries b s) (test-exactly t field (leaf_pairs b s) (features b) s.ascending)

    module _ (sound : a ≡ 0) (r : Bool) (er : r ≡ entries_match t (column_of t field) 0 (leaf_entries b)) where
      pub answer-matched : r ≡ true → Matched t b field 0
      answer-matched e =
          record {
            refused = λ n. absurd (n none);
            unsound = λ z. ((λ q. absurd (omega (arith, q))), (λ q. absurd (q (audited.sound.0 sound))));
            accepted = λ z s. ((λ q. (test_of s).0 (sym er ∙ e)), (λ q. refl));
            other = λ z s. inl refl;
          }

      pub answer-other : r ≡ false → Matched t b field 31
      answer-other e =
          record {
            refused = λ n. absurd (n none);
            unsound = λ z. ((λ q. absurd (omega (arith, q))), (λ q. absurd (q (audited.sound.0 sound))));
            accepted = λ z s. ((λ q. absurd (omega (arith, q))), (λ q. contra ((test_of s).1 q) (sym er ∙ e)));
            other = λ z s. inr refl;
          }
