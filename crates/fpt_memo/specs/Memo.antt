-- Rules: the FPT memo file, document 01, "Field text", paragraph M, with refusals 21 to 23 in the paper's order. Cited by `memo_place`.
use Rattle.std.specs.Prelude.{ℕ, ◌+◌, ◌*◌, ◌-◌, ◌%◌, ◌^◌, ◌≤◌, ◌<◌, ◌≡◌, ◌↔◌, Bool, cond, ◌&&◌, List, [], ◌∷◌, ◌++◌, length, replicate, leb, ltb, eqb, Result, Ok, Err, Option, Some, None}
use Rattle.refusal.specs.Checks.{unless}
use Rattle.octets.specs.Bytes.{be16, be32}
use Rattle.octets.specs.Text.{every, blank, unpadded, zero_digit, is_digit, number_of, decimal}
use Rattle.fpt_memo.specs.declared.Span.{Span}

-- what the ten characters of an M field say: a memo's number, nothing, or a refusal's number
abbrev pub MemoNumber : Type 0
MemoNumber = Result (Option ℕ) ℕ

-- where a memo's text stands in the memo file: a part of it, nothing, or a refusal's number
abbrev pub MemoPlace : Type 0
MemoPlace = Result (Option Span) ℕ

abbrev pub span : ℕ → ℕ → Span
span start len = record { start = start; len = len }

-- the refusal "a bad memo number, or a bad place in the memo file"
abbrev pub bad_number : ℕ
bad_number = 21

-- "FPT header: 512 bytes, file from 512 to 16,777,216"
abbrev pub memo_header_bytes : ℕ
memo_header_bytes = 512

abbrev pub max_memo_bytes : ℕ
max_memo_bytes = 16777216

-- behind the blanks stands nothing, or "digits .., no leading zero, at least 1": the first digit is above `0`
unfoldable pub digits_number : List ℕ → MemoNumber
digits_number [] = Ok None
digits_number (c ∷ s) = cond (ltb zero_digit c && every is_digit (c ∷ s)) (Ok (Some (number_of (c ∷ s)))) (Err bad_number)

-- "ten blanks is empty; else digits right-justified"; a text of another length is bad
unfoldable pub memo_number : List ℕ → MemoNumber
memo_number text = cond (eqb (length text) 10) (digits_number (unpadded text)) (Err bad_number)

-- the text of n in k characters: "digits right-justified"
unfoldable pub memo_number_text : ℕ → ℕ → List ℕ
memo_number_text k n = replicate (k - length (decimal n)) blank ++ decimal n

-- "bytes 0-3 next free block", "FPT numbers are most significant byte first"
abbrev pub next_free : List ℕ → ℕ
next_free file = be32 file 0

-- "6-7 block size"
abbrev pub block_size : List ℕ → ℕ
block_size file = be16 file 6

-- "file from 512 to 16,777,216; .. block size, even, 32 to 16,384"
unfoldable pub memo_header_good : List ℕ → Bool
memo_header_good file =
    leb memo_header_bytes (length file) && leb (length file) max_memo_bytes
    && eqb (block_size file % 2) 0 && leb 32 (block_size file) && leb (block_size file) 16384

-- "A block starts at number × size"
abbrev pub block_start : List ℕ → ℕ → ℕ
block_start file number = number * block_size file

-- "bytes 0-3 are 1 for text"
abbrev pub is_text : List ℕ → ℕ → Bool
is_text file start = eqb (be32 file start) 1

-- "4-7 length"
abbrev pub text_length : List ℕ → ℕ → ℕ
text_length file start = be32 file (start + 4)

-- a block starts "at or after 512", and "Start + 8 must be at most the file's length"
abbrev pub head_fits : List ℕ → ℕ → Bool
head_fits file start = leb memo_header_bytes start && leb (start + 8) (length file)

-- a text's end "must pass neither the file's end nor next free × size"
abbrev pub end_fits : List ℕ → ℕ → Bool
end_fits file end = leb end (length file) && leb end (next_free file * block_size file)

-- both, the text's end being "start + 8 + length"
unfoldable pub place_good : List ℕ → ℕ → Bool
place_good file start = head_fits file start && end_fits file (start + 8 + text_length file start)

-- the block at `start`: 21 for its place, then 23 for its type; else where its text starts, and its length
unfoldable pub block_checks : List ℕ → ℕ → List (Bool × ℕ)
block_checks file start = (place_good file start, 21) ∷ (is_text file start, 23) ∷ []

unfoldable pub block_text : List ℕ → ℕ → MemoPlace
block_text file start = unless (block_checks file start) Err (Ok (Some (span (start + 8) (text_length file start))))

-- the memo with this number: 22 for the header, then its block
unfoldable pub numbered_text : List ℕ → ℕ → MemoPlace
numbered_text file number = unless ((memo_header_good file, 22) ∷ []) Err (block_text file (block_start file number))

-- the answer by what the M field's text says; an empty field does not look at the file
unfoldable pub read_text : List ℕ → MemoNumber → MemoPlace
read_text file (Err n) = Err n
read_text file (Ok None) = Ok None
read_text file (Ok (Some number)) = numbered_text file number

-- "Memo: 21 for the number's text, 22, 21 for the place, 23."
unfoldable pub memo_text : List ℕ → List ℕ → MemoPlace
memo_text text file = read_text file (memo_number text)

-- ---- the answers as document 01 counts them

-- the number of what an M field's text says: 0 for a memo's number, 256 for an empty field, 21 for another text
abbrev pub memo_number_code : MemoNumber → ℕ
memo_number_code (Ok (Some n)) = 0
memo_number_code (Ok None) = 256
memo_number_code (Err n) = n

-- its values: the memo's number
abbrev pub memo_number_values : MemoNumber → List ℕ
memo_number_values (Ok (Some n)) = n ∷ []
memo_number_values (Ok None) = []
memo_number_values (Err n) = []

-- what `read_number` answers: the case; 0 and n exactly for the one text of n, "at least 1"; 256 exactly for ten blanks; so 21 for every other text
pub record NumberAnswer (text : List ℕ) (r : MemoNumber) : Type 0 where
  pub case : r ≡ memo_number text
  pub accepted : (n : ℕ) → ((memo_number_code r ≡ 0) × (memo_number_values r ≡ n ∷ [])) ↔ ((1 ≤ n) × (n < 10 ^ 10) × (text ≡ memo_number_text 10 n))
  pub empty : (memo_number_code r ≡ 256) ↔ (text ≡ replicate 10 blank)

-- an answer's number: 0 for a text's place, 256 for an empty field, or the refusal's
abbrev pub memo_place_code : MemoPlace → ℕ
memo_place_code (Ok (Some place)) = 0
memo_place_code (Ok None) = 256
memo_place_code (Err n) = n

-- an answer's values: where the text starts, and its length; "A refusal answers its number alone"
abbrev pub memo_place_values : MemoPlace → List ℕ
memo_place_values (Ok (Some place)) = place.start ∷ place.len ∷ []
memo_place_values (Ok None) = []
memo_place_values (Err n) = []

-- what `memo_place` answers: the case; 0 exactly if the values are a part of the file; 256 exactly for ten blanks
pub record MemoAnswer (text file : List ℕ) (r : MemoPlace) : Type 0 where
  pub case : r ≡ memo_text text file
  pub accepted : (memo_place_code r ≡ 0) ↔ ((part : ℕ × ℕ) × (memo_place_values r ≡ part.0 ∷ part.1 ∷ []) × (part.0 + part.1 ≤ length file))
  pub empty : (memo_place_code r ≡ 256) ↔ (memo_number text ≡ Ok None)
