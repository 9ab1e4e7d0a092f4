-- Laws: document 02, K7: "the deletion byte and the fields, in order, tile the record's R bytes without gap or overlap", shown once over the offsets and
-- lengths that the entries carry: every byte of a record belongs to exactly one of them. Assumes nothing.
use Rattle.std.specs.Prelude.{ℕ, zero, suc, ◌+◌, ◌-◌, ◌≤◌, ◌<◌, ◌≡◌, refl, List, [], ◌++◌, ltb}
use Rattle.std.proofs.Common.{sym, ◌∙◌, append_assoc, append-nil, add-zero, zero-add, add-one, arith, ltb-true, ltb-false}
use Rattle.basis.specs.Tests.{either}
use Rattle.octets.specs.Store.{window}
use Rattle.dbf_table.specs.Table.{field_length, field_offset, field_count, record_length_of, table_refusal}
use Rattle.dbf_table.specs.TableLaws.{Layout, layout}
use Rattle.dbf_table.specs.FormLaws.{field_form, form-some}
use Rattle.dbf_table.specs.RecordLaws.{offset-first, offset-next, field_parts, record_tiled}
use Rattle.dbf_field.specs.Field.{entry_of}

-- a part of a record: where it starts, and how many bytes it has
pub record Part : Type 0 where
  pub start : ℕ
  pub size : ℕ

-- part 0 of a record is its deletion byte, "counted as offset 0", and part i its field i, from 1, by its entry
unfoldable pub part_of : List ℕ → ℕ → Part
part_of b zero = record { start = 0; size = 1 }
part_of b (suc j) = record { start = (entry_of b j).offset; size = (entry_of b j).length }

-- byte k of a record is one of the part's
abbrev pub Has : Part → ℕ → Type 0
Has p k = (p.start ≤ k) × (k < p.start + p.size)

-- the bytes of the first n parts of the record at offset `at`, one after another
unfoldable pub part_bytes : List ℕ → ℕ → ℕ → List ℕ
part_bytes b at zero = []
part_bytes b at (suc i) = part_bytes b at i ++ window b (at + (part_of b i).start) (part_of b i).size

-- parts 0 to f tile the R bytes
pub record Tiled (b : List ℕ) : Type 0 where
  -- each has a byte at least, the first starts with the record, each other one where the one before it ends, and the last ends with the record
  pub some : (i : ℕ) → i ≤ field_count b → 1 ≤ (part_of b i).size
  pub first : (part_of b 0).start ≡ 0
  pub next : (i : ℕ) → (part_of b (i + 1)).start ≡ (part_of b i).start + (part_of b i).size
  pub last : (part_of b (field_count b)).start + (part_of b (field_count b)).size ≡ record_length_of b
  -- "without gap": every byte of the record is one of some part's, and every byte of a part is one of the record's
  pub covered : (k : ℕ) → k < record_length_of b → (i : ℕ) × (i ≤ field_count b) × Has (part_of b i) k
  pub within : (i k : ℕ) → i ≤ field_count b → Has (part_of b i) k → k < record_length_of b
  -- "or overlap": it is one of no other part's
  pub alone : (i j k : ℕ) → Has (part_of b i) k → Has (part_of b j) k → i ≡ j
  -- so the bytes of a record are its parts' bytes, in order
  pub bytes : (at : ℕ) → window b at (record_length_of b) ≡ part_bytes b at (field_count b + 1)

-- part i ends where field i + 1, counted from 1, starts: at the offset of field i, counted from 0
part_end : (b : List ℕ) (i : ℕ) → (part_of b i).start + (part_of b i).size ≡ field_offset b i
unfolding part_of entry_of
part_end b zero = sym (offset-first b)
part_end b (suc j) = sym (rw add-one at (offset-next b j))

-- the next part starts where a part ends
part-next : (b : List ℕ) (i : ℕ) → (part_of b (suc i)).start ≡ (part_of b i).start + (part_of b i).size
unfolding part_of entry_of
part-next b i = sym (part_end b i)

ends_in_order : (b : List ℕ) (i n : ℕ) → field_offset b i ≤ field_offset b (n + i)
ends_in_order b i zero = rw (zero-add i) (omega arith)
ends_in_order b i (suc n) =
    let more : suc n + i ≡ n + i + 1 = omega arith in
    rw more (omega (arith, ends_in_order b i n, offset-next b (n + i)))

starts-behind : (b : List ℕ) (i j : ℕ) → i < j → (part_of b i).start + (part_of b i).size ≤ (part_of b j).start
starts-behind b i zero l = omega arith
starts-behind b i (suc j) l =
    let gap : j - i + i ≡ j = omega arith in
    let order : field_offset b i ≤ field_offset b j = rw gap at (ends_in_order b i (j - i)) in
    omega (arith, order, part_end b i, part_end b j, part-next b j)

apart : (b : List ℕ) (i j k : ℕ) → Has (part_of b i) k → Has (part_of b j) k → i < j → ⊥
apart b i j k here there l = omega (arith, starts-behind b i j l, here.1, there.0)

part-alone : (b : List ℕ) (i j k : ℕ) → Has (part_of b i) k → Has (part_of b j) k → i ≡ j
part-alone b i j k here there =
    either (ltb i j)
    (λ e. absurd (apart b i j k here there (ltb-true i j e)))
    (λ e. either (ltb j i)
    (λ d. absurd (apart b j i k there here (ltb-true j i d)))
    (λ d. omega (arith, ltb-false i j e, ltb-false j i d)))

part-within : (b : List ℕ) → Layout b → (i k : ℕ) → i ≤ field_count b → Has (part_of b i) k → k < record_length_of b
part-within b table i k l has =
    let gap : field_count b - i + i ≡ field_count b = omega arith in
    let order : field_offset b i ≤ field_offset b (field_count b) = rw gap at (ends_in_order b i (field_count b - i)) in
    omega (arith, has.1, order, part_end b i, table.filled)

part-first : (b : List ℕ) → (part_of b 0).start ≡ 0
unfolding part_of
part-first b = refl

-- each byte before the end of part n is one of the parts 0 to n
covered_by : (b : List ℕ) (n k : ℕ) → k < field_offset b n → (i : ℕ) × (i ≤ n) × Has (part_of b i) k
unfolding part_of
covered_by b zero k l = (0, omega arith, (omega arith, omega (arith, offset-first b)))
covered_by b (suc n) k l =
    either (ltb k (field_offset b n))
    (λ e. let found = covered_by b n k (ltb-true k (field_offset b n) e) in (found.0, omega (arith, found.1), found.2))
    (λ e. let low = ltb-false k (field_offset b n) e in
    (suc n, omega arith, (omega (arith, part-next b n, part_end b n), omega (arith, part_end b (suc n)))))

part_bytes_lem : (b : List ℕ) (at n : ℕ) → part_bytes b at (suc n) ≡ window b at 1 ++ field_parts b at n
unfolding part_bytes part_of entry_of field_parts
part_bytes_lem b at zero = rw (add-zero at) (sym (append-nil (window b at 1)))
part_bytes_lem b at (suc n) =
    rw (part_bytes_lem b at n) (append_assoc (window b at 1) (field_parts b at n) (window b (at + field_offset b n) (field_length b n)))

part-some : (b : List ℕ) → Layout b → (i : ℕ) → i ≤ field_count b → 1 ≤ (part_of b i).size
unfolding part_of entry_of
part-some b table zero l = omega arith
part-some b table (suc j) l = form-some _ _ _ (field_form b table j (omega arith))

-- Theorem: in a good table they do
pub tiled : (b : List ℕ) → table_refusal b ≡ 0 → Tiled b
tiled b good =
    let table = layout b good in
    let f = field_count b in
    record {
      some = part-some b table;
      first = part-first b;
      next = λ i. rw (add-one i) (part-next b i);
      last = part_end b f ∙ sym table.filled;
      covered = λ k l. covered_by b f k (omega (arith, table.filled));
      within = λ i k l has. part-within b table i k l has;
      alone = λ i j k here there. part-alone b i j k here there;
      bytes = λ at. record_tiled b table at ∙ sym (rw (add-one f) (part_bytes_lem b at f));
    }
