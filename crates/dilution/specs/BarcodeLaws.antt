-- Laws: once table and index match, the record that has a barcode is the one whose field it is. Assumes nothing.
use Rattle.std.specs.Prelude.{ℕ, ◌+◌, ◌-◌, ◌≤◌, ◌<◌, ◌≡◌, refl, ◌&&◌, List, [], ◌∷◌, length, eqb}
use Rattle.std.proofs.Common.{sym, ◌∙◌, subst, arith, eqb-true}
use Rattle.std.proofs.Math.Path.{ap}
use Rattle.std.proofs.Math.Option.{Option, none, some}
use Rattle.basis.specs.Tests.{either, both, contra, impossible}
use Rattle.basis.specs.Lists.{All}
use Rattle.octets.specs.Order.{bytes_le}
use Rattle.octets.specs.OrderLaws.{le_refl, le_antisym}
use Rattle.octets.specs.StoreLaws.{length-window}
use Rattle.dbf_table.specs.Table.{record_count, field_length, table_refusal}
use Rattle.dbf_cell.specs.Cell.{field_start, field_bytes}
use Rattle.tree.specs.Pairs.{get, find, by_key, Above, Ascending}
use Rattle.tree.specs.Keeping.{pair_order}
use Rattle.tree.proofs.KeepingLaws.{find-get}
use Rattle.tree.specs.Tree.{visited}
use Rattle.idx_page.specs.Header.{key_length, features, good_features}
use Rattle.idx_page.specs.KeyOrder.{bytes_order}
use Rattle.idx_sound.specs.Sound.{leaf_pairs, index_tree, kept_by}
use Rattle.idx_lookup.specs.Lookup.{answer_record}
use Rattle.idx_lookup_laws.specs.FoundLaws.{answer_of, lookup-list}
use Rattle.idx_match.specs.Match.{entries_for}
use Rattle.idx_match.specs.Computed.{match_answer}
use Rattle.idx_match.proofs.CallLaws.{Ready, ready, table-good}
use Rattle.idx_match.proofs.AnswerLaws.{Accepted, accepted-exactly, answer-computed}
use Rattle.idx_match.proofs.TestLaws.{range-number}
use Rattle.dilution.specs.Dilution.{record_with}

-- ---- entries whose keys are their records' fields: f i is the field of record i

module _ (f : ℕ → List ℕ) where
  abbrev Keyed : List (List ℕ × ℕ) → Type 0
  Keyed es = All (λ e. e.0 ≡ f e.1) es

  -- a record whose field is at or below a key has no entry above that key
  not_above : (i : ℕ) (a : List ℕ) (es : List (List ℕ × ℕ)) → Keyed es → Above bytes_order a es → f i ≡ a → entries_for i es ≡ 0
  not_above i a [] k v h = refl
  not_above i a (e ∷ es) k v h = either (eqb i e.1)
      (λ q.
      let same : e.0 ≡ a = k.0 ∙ ap f (sym (eqb-true i e.1 q)) ∙ h in
      contra (rw same (le_refl a)) v.0)
      (λ q. rw q (omega (arith, not_above i a es k.1 v.1 h)))

  -- the record's own entry is the one found under its field
  get-own : (i : ℕ) (es : List (List ℕ × ℕ)) → Keyed es → Ascending (by_key bytes_order) es → 0 < entries_for i es → get bytes_order (f i) es ≡ some i
  get-own i [] k a m = absurd (omega arith)
  get-own i (e ∷ es) k a m = either (eqb i e.1)
      (λ q.
      let number = eqb-true i e.1 q in
      let same : e.0 ≡ f i = k.0 ∙ ap f (sym number) in
      rw (same, le_refl (f i), number))
      (λ q.
      let rest : 0 < 0 + entries_for i es = rw q at m in
      either (bytes_le (f i) e.0 && bytes_le e.0 (f i))
      (λ t.
      let u = both (bytes_le (f i) e.0) (bytes_le e.0 (f i)) t in
      absurd (omega (arith, not_above i e.0 es k.1 a.0 (le_antisym (f i) e.0 u.0 u.1))))
      (λ t. rw t (get-own i es k.1 a.1 (omega arith))))

  -- a record that is found under a key has the key as its field
  get-keyed : (P : ℕ → Type 0) (key : List ℕ) (i : ℕ) (es : List (List ℕ × ℕ)) → Keyed es → All (λ e. P e.1) es → get bytes_order key es ≡ some i
      → P i × (f i ≡ key)
  get-keyed P key i [] k p h = impossible (cc)
  get-keyed P key i (e ∷ es) k p h = either (bytes_le key e.0 && bytes_le e.0 key)
      (λ t.
      let u = both (bytes_le key e.0) (bytes_le e.0 key) t in
      let found : some e.1 ≡ some i = rw t at h in
      let number : e.1 ≡ i = cc in
      (rw number at p.0, rw number at (sym (le_antisym key e.0 u.0 u.1 ∙ k.0))))
      (λ t. get-keyed P key i es k.1 p.1 (rw t at h))

-- ---- table and index match

-- the record of what was found, 0 for none
abbrev record_or : Option ℕ → ℕ
record_or none = 0
record_or (some i) = i

answered : (o : Option ℕ) (n : ℕ) → answer_record (answer_of o n) 0 ≡ record_or o
answered none n = refl
answered (some i) n = refl

module _ (t b : List ℕ) (field : ℕ) (matched : match_answer t b field ≡ 0) where
  met : Accepted t b field
  met = (accepted-exactly t b field 0 ((answer-computed t b field 0).1 (sym matched))).0 refl

  pub good-table : table_refusal t ≡ 0
  good-table = table-good t b field met.none

  pub known : Ready t b field good-table
  known = ready t b field good-table met.none

  abbrev Ranged : ℕ → Type 0
  Ranged i = (1 ≤ i) × (i ≤ record_count t)

  -- a record's barcode has the length of the index's keys
  pub own-length : (i : ℕ) → 1 ≤ i → i ≤ record_count t → length (field_bytes t i field) ≡ key_length b
  unfolding field_bytes field_start
  own-length i from to =
      length-window t (field_start t i field) (field_length t (field - 1)) (known.column.inside i (range-number i (record_count t) from to)) ∙ known.width

  -- by the pairs of the leaves, if the index has one record to a key
  module _ (one : features b ≡ good_features) where
    ascends : Ascending (by_key bytes_order) (leaf_pairs b met.sound)
    ascends = subst (λ (f : ℕ). Ascending (pair_order bytes_order f) (leaf_pairs b met.sound)) one met.sound.ascending

    module _ (key : List ℕ) (len : length key ≡ key_length b) where
      with_pairs : record_with b key ≡ record_or (get bytes_order key (leaf_pairs b met.sound))
      unfolding record_with
      with_pairs =
          let s = met.sound in
          ap (λ a. answer_record a 0) (lookup-list b key s len one)
          ∙ answered (find bytes_order key (leaf_pairs b s)) (length (visited bytes_order key s.height (index_tree b s.height)))
          ∙ ap record_or (find-get (kept_by b) key (leaf_pairs b s) s.ascending)

      -- Theorem: the record that is found has the barcode in its field
      pub record_named : 0 < record_with b key
          → (1 ≤ record_with b key) × (record_with b key ≤ record_count t) × (field_bytes t (record_with b key) field ≡ key)
      record_named h = named (get bytes_order key (leaf_pairs b met.sound)) refl
        where
          named : (o : Option ℕ) → get bytes_order key (leaf_pairs b met.sound) ≡ o
              → (1 ≤ record_with b key) × (record_with b key ≤ record_count t) × (field_bytes t (record_with b key) field ≡ key)
          named none e = absurd (omega (arith, h, with_pairs, ap record_or e))
          named (some i) e =
              let m = met.matching in
              let is : record_with b key ≡ i = with_pairs ∙ ap record_or e in
              let said = get-keyed (λ j. field_bytes t j field) Ranged key i (leaf_pairs b met.sound) m.keys m.others e in
              rw is (said.0.0, said.0.1, said.1)

    -- Theorem: each record is the one that is found under its own barcode
    pub record_own : (i : ℕ) → 1 ≤ i → i ≤ record_count t → record_with b (field_bytes t i field) ≡ i
    record_own i from to =
        let m = met.matching in
        let once = m.once i from to in
        with_pairs (field_bytes t i field) (own-length i from to)
        ∙ ap record_or (get-own (λ j. field_bytes t j field) i (leaf_pairs b met.sound) m.keys ascends (omega arith))
