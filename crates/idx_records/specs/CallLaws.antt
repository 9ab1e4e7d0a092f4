-- Laws: the cases of the call, each from the tests that lead to it. Cited by its proof. Assumes nothing.
use Rattle.std.specs.Prelude.{ℕ, ◌+◌, ◌-◌, ◌≤◌, ◌<◌, ◌≡◌, true, false, eqb}
use Rattle.std.proofs.Math.Path.{sym, ap}
use Rattle.std.proofs.Common.{◌∙◌, arith}
use mathlib.Core.List.{List}
use Rattle.std.proofs.Math.ListN.{length}
use borrow.Author.Tests.{eq-eqb, ne_eqb, le-leb, lt-leb}
use Rattle.refusal.specs.CheckLaws.{unless-none, unless-at}
use Rattle.octets.specs.Store.{put}
use Rattle.tree.specs.Pairs.{records_of}
use Rattle.idx_page.specs.Header.{max_levels, root_offset, file_size, key_length, header_good}
use Rattle.idx_page.specs.KeyOrder.{bytes_order}
use Rattle.idx_sound.specs.AuditTest.{max_pages, pages_good}
use Rattle.idx_match.specs.MatchTest.{first_leaf, entries_along, leaf_entries}
use Rattle.idx_records.specs.Records.{key_records, Told, told, records_checks, records_rule}
use Rattle.idx_records.specs.Gather.{Gathered, gather, gathered}
use Rattle.idx_records.specs.GatherLaws.{gathered-records, stored-none, stored-all}

-- the leaves' entries from the first leaf on, by the header's numbers; the file's bytes d are the index
pub leaves-from : (b d key : List ℕ) (room k size first : ℕ) (list : List ℕ) (g : Gathered) → d ≡ b → length key ≡ key_length b → k ≡ key_length b
    → size ≡ file_size b → first ≡ first_leaf d k size (max_levels - 1) (root_offset d)
    → gathered key room (entries_along d (length key) size max_pages first) (gather 0 list) ≡ g
    → gathered key room (leaf_entries b) (gather 0 list) ≡ g
unfolding leaf_entries
leaves-from b d key room k size first list g eb el ek es ef eg =
    let e : entries_along d (length key) size max_pages first ≡ leaf_entries b = rw (ef, el, ek, es, eb) in
    rw e at eg

module _ (b key list : List ℕ) (count : ℕ) where
  abbrev refused : ℕ → Told
  refused n = told n list count

  abbrev made : Told
  made = told 0 (put list 0 (key_records b key)) (length (key_records b key))

  pub refused_24 : header_good b ≡ false → records_rule b key list count ≡ told 24 list count
  unfolding records_rule records_checks
  refused_24 e = unless-at refused made 0 (records_checks b key list) tt e

  module _ (header : header_good b ≡ true) where
    pub refused_27 : (length key ≡ key_length b → ⊥) → records_rule b key list count ≡ told 27 list count
    unfolding records_rule records_checks
    refused_27 other = unless-at refused made 1 (records_checks b key list) (header, tt) (ne_eqb (length key) (key_length b) other)

    module _ (same : length key ≡ key_length b) where
      fits : eqb (length key) (key_length b) ≡ true
      fits = eq-eqb (length key) (key_length b) same

      pub refused_25 : pages_good b ≡ false → records_rule b key list count ≡ told 25 list count
      unfolding records_rule records_checks
      refused_25 e = unless-at refused made 2 (records_checks b key list) (header, (fits, tt)) e

      -- the first pass: n records are counted, and the list stays
      module _ (sound : pages_good b ≡ true) (n : ℕ) (after : List ℕ) (counted : gathered key 0 (leaf_entries b) (gather 0 list) ≡ gather n after) where
        number_is : n ≡ length (key_records b key)
        unfolding key_records
        number_is =
            let e : 0 + length (records_of bytes_order key (leaf_entries b)) ≡ n =
            ap (λ (g : Gathered). g.at) (sym (gathered-records key 0 (leaf_entries b) 0 list) ∙ counted) in
            omega (arith, e)

        pub list-stays : after ≡ list
        unfolding key_records
        list-stays =
            sym (ap (λ (g : Gathered). g.list) (sym (gathered-records key 0 (leaf_entries b) 0 list) ∙ counted))
            ∙ stored-none 0 (records_of bytes_order key (leaf_entries b)) list

        pub refused_39 : length after < n → records_rule b key list count ≡ told 39 after count
        unfolding records_rule records_checks
        refused_39 h =
            let short = lt-leb (length (key_records b key)) (length list) (omega (arith, h, number_is, ap length list-stays)) in
            unless-at refused made 3 (records_checks b key list) (header, (fits, (sound, tt))) short
            ∙ ap (λ (l : List ℕ). told 39 l count) (sym list-stays)

        -- the second: all are stored
        pub accepted-all : n ≤ length after → (m : ℕ) (out : List ℕ) → gathered key n (leaf_entries b) (gather 0 after) ≡ gather m out
            → records_rule b key list count ≡ told 0 out n
        unfolding records_rule records_checks key_records
        accepted-all h m out q =
            let rs = records_of bytes_order key (leaf_entries b) in
            let room = le-leb (length rs) (length list) (omega (arith, h, number_is, ap length list-stays)) in
            let all : out ≡ put after 0 rs = sym (ap (λ (g : Gathered). g.list) (sym (gathered-records key n (leaf_entries b) 0 after) ∙ q))
            ∙ stored-all n 0 rs after (omega (arith, number_is)) in
            unless-none refused made (records_checks b key list) (header, (fits, (sound, (room, tt)))) ∙ rw (all, list-stays, number_is)
