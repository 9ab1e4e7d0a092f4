-- Laws: after an accepted append the table has one record more. Each old record reads as before, the new one as the bytes given, and either walk hands out what
-- it did and then the new record; the skipping walk leaves it out if it is deleted. Assumes nothing.
use Prim.Native.Nat.{ℕ, zero, suc, ◌+◌, ◌-◌, ◌≤◌, ◌<◌}
use Rattle.std.specs.Prelude.{◌≡◌, Bool, ◌&&◌, cond, List, [], ◌∷◌, ◌++◌, length, take, None, Ok}
use Rattle.std.proofs.Math.Path.{ap}
use Rattle.std.proofs.Common.{◌∙◌, length-append, get_or-append-add, eqb-true}
use Rattle.std.proofs.Math.Bool.{true, false}
use native.Mathlib.Omega.{arith}
use Rattle.std.proofs.Math.ListN.{get_or-append}
use Rattle.std.proofs.Math.Dec.{eqb}
use Rattle.basis.specs.Tests.{either}
use Rattle.octets.specs.Bytes.{byte_at}
use Rattle.octets.specs.Store.{window}
use Rattle.dbf_table.specs.Table.{file_end, kept_mark, deleted_mark, header_length_of, record_count}
use Rattle.dbf_table.specs.TableLaws.{layout}
use Rattle.dbf_walk.specs.Walk.{Step, handed, marks_from, shown, step_at, step_by}
use Rattle.dbf_walk.specs.RunLaws.{handed_out, walk_run, handed_append, walk-run}
use Rattle.dbf_append.specs.declared.Store.{Store}
use Rattle.dbf_append.specs.declared.Appended.{Appended}
use Rattle.dbf_append.specs.Extent.{own_end}
use Rattle.dbf_append.specs.Append.{new_end, append_refusal, record_write, count_write, told, stored, append_rule}
use Rattle.dbf_append.specs.CheckLaws.{Accepted, accepted, append_stored}
use Rattle.dbf_table.specs.SameForm.{header-same, fields-same}
use Rattle.dbf_append.specs.ImageLaws.{shortened, beyond, kept, more-form, more-count}
use Rattle.dbf_append.specs.CrashLaws.{behind, cut-byte, cut-form, cut-count, cut-length, cut-whole, new_file, fills, few, crash_safe, new-file, told-first}
use Rattle.dbf_append.specs.CrashLaws.{told-second}
use Rattle.dbf_append.specs.ReadLaws.{Added, mark-same, last-mark}

module _ (b : List ℕ) (n : ℕ) (r : List ℕ) (a : Accepted b n r) where
  abbrev t : List ℕ
  t = take n b

  abbrev old : List ℕ
  old = shortened t

  abbrev mark : List ℕ
  mark = file_end ∷ []

  -- a byte of the new table behind the counts is one of the old table, of the record, or the end mark
  behind-count : (k : ℕ) → 8 ≤ k → byte_at (new_file t r) k ≡ byte_at (old ++ r ++ mark) k
  unfolding new_file
  behind-count k h = beyond old r (cut-whole t a.table) (fills b n r a) (few b n r a) mark k h

  far : 8 ≤ header_length_of t
  far = omega (arith, (layout t a.table).header.form)

  old-byte : (k : ℕ) → 8 ≤ k → k < own_end t → byte_at (new_file t r) k ≡ byte_at t k
  old-byte k h l =
      behind-count k h
      ∙ kept old r (cut-whole t a.table) (fills b n r a) (few b n r a) mark k (omega (arith, cut-length t a.table))
      ∙ cut-byte t a.table k l

  new-byte : (k : ℕ) → k < length r → byte_at (new_file t r) (own_end t + k) ≡ byte_at r k
  new-byte k h =
      let end = cut-length t a.table in
      behind-count (own_end t + k) (omega (arith, far, behind t a.table))
      ∙ rw (← end)
      (get_or-append (old ++ r) mark 0 (length old + k) (omega (arith, length-append old r)) ∙ get_or-append-add old r k 0)

  -- the new table
  pub added : Added t r (new_file t r)
  unfolding new_file
  added =
      let whole = cut-whole t a.table in
      let form = more-form old r whole (fills b n r a) (few b n r a) mark in
      let cut = cut-form t a.table in
      let header = header-same t old (layout t a.table).header cut in
      let fields = fields-same t old (layout t a.table).header cut in
      let count = more-count old r whole (fills b n r a) (few b n r a) mark ∙ ap (λ (k : ℕ). k + 1) (cut-count t a.table) in
      record {
        extends = record {
          old = a.table;
          new = (crash_safe b n r a).file-good;
          form = record {
            first = form.first ∙ cut.first;
            rest = λ k l m o. form.rest k l (omega (arith, header)) (λ j n. o j (omega (arith, fields))) ∙ cut.rest k l m o;
          };
          count = omega (arith, count);
          records = λ k l m. old-byte k (omega (arith, far)) m;
        };
        count = count;
        fills = a.taken.long;
        mark = a.taken.mark;
        bytes = new-byte;
      }

-- what the call leaves begins with the new table
pub append_leaves : (b : List ℕ) (n : ℕ) (r : List ℕ) → append_refusal b n r ≡ 0
    → (take (new_end b) (append_rule b n r).after ≡ new_file (take n b) r) × Added (take n b) r (new_file (take n b) r)
unfolding stored
append_leaves b n r e =
    let a = accepted b n r e in
    (rw (append_stored b n r e) (new-file b n r a), added b n r a)

-- the part of a buffer that a host is told of
abbrev pub copied : List ℕ → Store → List ℕ
copied b s = window b s.place s.length

-- the host copies from it, where it is told, the very bytes that the crash law speaks of
pub append_told : (b : List ℕ) (n : ℕ) (r : List ℕ) → append_refusal b n r ≡ 0
    → (done : Appended) × ((append_rule b n r).answer ≡ Ok done)
    × (copied (append_rule b n r).after done.first ≡ (record_write b r).bytes)
    × (copied (append_rule b n r).after done.second ≡ (count_write b).bytes)
unfolding stored
append_told b n r e =
    let a = accepted b n r e in (
      record { first = told (record_write b r); second = told (count_write b) },
      rw (append_stored b n r e),
      rw (append_stored b n r e) (told-first b n r a),
      rw (append_stored b n r e) (told-second b n r a),
    )

-- ---- the walks

-- what a walk hands out for the new record i with this mark
unfoldable pub step_of : Bool → ℕ → ℕ → List Step
step_of skips mark i =
    let deleted = eqb mark deleted_mark in
    cond (skips && deleted) [] (handed i deleted ∷ [])

module _ (t r c : List ℕ) (added : Added t r c) where
  -- the new table has the old marks and then the new one
  marks_more : (left passed : ℕ) → passed + left ≡ record_count t
      → marks_from c passed (suc left) ≡ marks_from t passed left ++ ((record_count t + 1, byte_at r 0) ∷ [])
  unfolding marks_from
  marks_more zero passed e = let end : passed ≡ record_count t = omega arith in rw (end, last-mark t r c added)
  marks_more (suc left) passed e =
      let rest = marks_more left (passed + 1) (omega arith) in
      let same = mark-same t c added.extends (passed + 1) (omega arith) (omega arith) in
      rw (same, rest)

  -- the new record has one of the two marks
  new-step : step_at (record_count t + 1, byte_at r 0) ≡ handed (record_count t + 1) (eqb (byte_at r 0) deleted_mark)
  unfolding step_at
  new-step =
      either (eqb (byte_at r 0) kept_mark)
      (λ live. let other : eqb (byte_at r 0) deleted_mark ≡ false = rw (eqb-true (byte_at r 0) kept_mark live) in rw (live, other))
      (λ other. let gone : eqb (byte_at r 0) deleted_mark ≡ true = rw other at added.mark in rw (other, gone))

  module _ (skips : Bool) where
    handed_last : handed_out skips ((record_count t + 1, byte_at r 0) ∷ []) ≡ step_of skips (byte_at r 0) (record_count t + 1)
    unfolding handed_out shown step_of
    handed_last =
        either (skips && eqb (byte_at r 0) deleted_mark)
        (λ over. rw over)
        (λ next. rw next (ap (λ (a : Step). a ∷ []) new-step))

    -- so a host's calls of either walk, from the start until done
    pub run_more : walk_run (step_by skips c) (record { passed = 0 }) (record_count c + 1)
        ≡ handed_out skips (marks_from t 0 (record_count t)) ++ step_of skips (byte_at r 0) (record_count t + 1) ++ (Ok None ∷ [])
    run_more =
        let n = record_count t in
        let old = handed_out skips (marks_from t 0 n) in
        let all : record_count c - 0 ≡ suc n = omega (arith, added.count) in
        let marks = ap (λ (k : ℕ). marks_from c 0 k) all ∙ marks_more n 0 (omega arith) in
        let handed = handed_append skips (marks_from t 0 n) ((n + 1, byte_at r 0) ∷ []) ∙ ap (λ (l : List Step). old ++ l) handed_last in
        walk-run skips c added.extends.new (record { passed = 0 }) (record_count c + 1) (omega arith)
        ∙ ap (λ (l : List (ℕ × ℕ)). handed_out skips l ++ (Ok None ∷ [])) marks
        ∙ ap (λ (l : List Step). l ++ (Ok None ∷ [])) handed
