-- Rules: document 01's "Examples to hold" that are marked P, each call beside the paper's answer. `ExampleLaws.examples_hold` is the "single computed statement
-- over the list"; the program `test_vectors` runs the others. Assumes nothing.
use Rattle.std.specs.Prelude.{Err, Bool, true, List, [], ◌∷◌, map, ℕ, ℤ, pos, negsuc, Ok, Some}
use Prim.Native.Char.{code}
use Prim.Native.String as text
use Rattle.refusal.specs.After.{Change}
use Rattle.calendar.specs.DateText as date
use Rattle.calendar.specs.DateText.{DateAnswer}
use Rattle.numeral.specs.Reading as reading
use Rattle.numeral.specs.Format.{Number}
use Rattle.idx_page.specs.Header as header
use Rattle.idx_page.specs.Reading as pages
use Rattle.idx_lookup.specs.Lookup as lookup
use Rattle.idx_lookup.specs.Answer.{Answer as Looked}
use Rattle.idx_lookup.specs.Answer as looked
use Rattle.idx_sound.specs.AuditTest as audit
use Rattle.idx_insert.specs.Calls as calls
use Rattle.examples.specs.Tree000 as tree
use Rattle.examples.specs.Tree100 as tree100

-- the bytes of a text
unfoldable pub ascii : text.String → List ℕ
ascii text.[] = []
ascii (text.◌∷◌ c s) = code c ∷ ascii s

-- a call on the rules: a numeric text with its decimals, or a date's text, each as long as its field; a key to look up in the tree in 000; the audit's tests
-- of that tree; five ascending keys of 100 bytes; and an insertion after four such keys in a buffer of 1,024 bytes
pub data Call : Type 0 where
  numeric : text.String → ℕ → Call
  dated : text.String → Call
  key000 : text.String → Call
  audit000 : Call
  five100 : Call
  insert1024 : ℕ → Call

-- what a call answers
pub data Answer : Type 0 where
  of_number : Number → Answer
  of_date : DateAnswer → Answer
  of_lookup : Looked → Answer
  of_audit : Bool → Bool → Answer
  of_tree : ℕ → ℕ → List (List (List ℕ × ℕ)) → Answer
  of_change : Change → Answer

-- what an index of key length 100 shows: its root, F, and the entries of its pages at 512, 1,024 and 1,536
unfoldable pub shown : List ℕ → Answer
shown b = of_tree (header.root_offset b) (header.file_size b) (map (pages.entries_at 100 (header.file_size b) b) (512 ∷ 1024 ∷ 1536 ∷ []))

unfoldable pub answer : Call → Answer
answer (numeric s d) = of_number (reading.read_number (ascii s) d)
answer (dated s) = of_date (date.date_of (ascii s))
answer (key000 s) = of_lookup (lookup.lookup_rule tree.tree000 (ascii s))
answer audit000 = of_audit (header.header_good tree.tree000) (audit.pages_good tree.tree000)
answer five100 = shown (tree100.grown 2048 5)
answer (insert1024 x) = of_change (calls.insert_rule (tree100.grown 1024 4) (tree100.key100 x) 5).answer

abbrev pub value : ℤ → Answer
value v = of_number (Ok (Some v))

abbrev pub refused : ℕ → Answer
refused n = of_number (Err n)

abbrev pub on : ℕ → ℕ → ℕ → Answer
on y m d = of_date (Ok (Some (record { year = y; month = m; day = d })))

-- the key that ends in x, with the record number x
abbrev pub leaf : ℕ → List ℕ × ℕ
leaf x = (tree100.key100 x, x)

-- the examples, each with the paper's answer
unfoldable pub examples : List (Call × Answer)
examples =
    -- "N width 8, d 3, `   2.150` is 2150; `   2,150` is 16"
    (numeric "   2.150" 3, value (pos 2150))
    ∷ (numeric "   2,150" 3, refused 16)
    -- "width 6, d 3: `-0.001` is −1; `-0.000`, `02.150` and `2.150 ` are 17"
    ∷ (numeric "-0.001" 3, value (negsuc 0))
    ∷ (numeric "-0.000" 3, refused 17)
    ∷ (numeric "02.150" 3, refused 17)
    ∷ (numeric "2.150 " 3, refused 17)
    -- "`  2150`, d 0, is 2150; nineteen nines, width 20, d 0, is 18, eighteen pass"
    ∷ (numeric "  2150" 0, value (pos 2150))
    ∷ (numeric " 9999999999999999999" 0, refused 18)
    ∷ (numeric "  999999999999999999" 0, value (pos 999999999999999999))
    -- "20000229 passes; 19000229 and 20230229 are 20"
    ∷ (dated "20000229", on 2000 2 29)
    ∷ (dated "19000229", of_date (Err 20))
    ∷ (dated "20230229", of_date (Err 20))
    -- "the tree in 000 .. F is found as 6 after 3 pages; I is absent after 1"; and the tree is sound
    ∷ (key000 "F", of_lookup (looked.found (lookup.record_of 6) 3))
    ∷ (key000 "I", of_lookup (looked.absent 1))
    ∷ (audit000, of_audit true true)
    -- "k = 100, five ascending keys: leaf 512 has three, leaf 1,024 two, root 1,536 has keys three and five, F 2,048"
    ∷ (
      five100,
      of_tree 1536 2048
          ((leaf 1 ∷ leaf 2 ∷ leaf 3 ∷ []) ∷ (leaf 4 ∷ leaf 5 ∷ []) ∷ ((tree100.key100 3, 512) ∷ (tree100.key100 5, 1024) ∷ []) ∷ []),
    )
    -- "Buffer 1,024, k = 100: the fifth insertion is 30. A repeated key then is 29"
    ∷ (insert1024 5, of_change (Err 30))
    ∷ (insert1024 4, of_change (Err 29))
    ∷ []
