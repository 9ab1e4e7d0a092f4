-- Laws: products that fit, a memo's place test by test, every text handed out lies in the file, and what an answer's number says. Assumes nothing.
use Rattle.std.specs.Prelude.{Ok, Err, Some, None, ◌≡◌, refl, true, false, List, [], ◌∷◌, ℕ, ◌+◌, ◌*◌, ◌^◌, ◌≤◌, ◌<◌, length}
use Rattle.std.proofs.Common.{sym, ap, ◌∙◌, mul-le-mul}
use native.Mathlib.Omega.{arith}
use borrow.Author.Tests.{leb-true, lt-leb, ne_eqb}
use Rattle.basis.specs.Tests.{either, both, first_arm, impossible}
use Rattle.octets.specs.Bytes.{be32}
use Rattle.fpt_memo.specs.declared.Span.{Span}
use Rattle.fpt_memo.specs.Memo.{MemoNumber, MemoPlace, span, bad_number}
use Rattle.fpt_memo.specs.NumberLaws.{number-refusal}
use Rattle.fpt_memo.specs.Memo.{memo_header_bytes, memo_number, memo_header_good, head_fits, end_fits, place_good, is_text, text_length}
use Rattle.fpt_memo.specs.Memo.{block_checks, block_text, block_start, numbered_text, read_text, memo_text, MemoAnswer}
use Rattle.refusal.specs.Checks.{unless}

-- a number of ten digits or four bytes, times a block size of two bytes, leaves room for 8 more in 64 bits
pub bytes_fit : (n size : ℕ) → n < 2 ^ 34 → size < 2 ^ 16 → n * size + 8 < 2 ^ 64
bytes_fit n size h l =
    let m : n ≤ 2 ^ 34 = omega arith in
    let k : size ≤ 2 ^ 16 = omega arith in
    let p : n * size ≤ 2 ^ 34 * 2 ^ 16 = mul-le-mul m k in omega arith

-- a file with a good header has 512 bytes
pub header-long : (file : List ℕ) → memo_header_good file ≡ true → memo_header_bytes ≤ length file
unfolding memo_header_good
header-long file e = leb-true memo_header_bytes (length file) (both _ _ (both _ _ (both _ _ (both _ _ e).0).0).0).0

-- one of fewer bytes has none
pub header-short : (file : List ℕ) → length file < memo_header_bytes → memo_header_good file ≡ false
unfolding memo_header_good
header-short file h = rw (lt-leb memo_header_bytes (length file) h)

end-inside : (file : List ℕ) (end : ℕ) → end_fits file end ≡ true → end ≤ length file
end-inside file end e = leb-true end (length file) (both _ _ e).0

module _ (file : List ℕ) (start : ℕ) where
  pub head-inside : head_fits file start ≡ true → (memo_header_bytes ≤ start) × (start + 8 ≤ length file)
  head-inside e = let p = both _ _ e in (leb-true memo_header_bytes start p.0, leb-true (start + 8) (length file) p.1)

  -- a block's four answers, by the tests in their order
  pub text_no_head : head_fits file start ≡ false → block_text file start ≡ Err 21
  unfolding block_text block_checks unless place_good
  text_no_head e = rw e

  module _ (len : ℕ) (e : len ≡ text_length file start) (f : head_fits file start ≡ true) where
    pub text_no_end : end_fits file (start + 8 + len) ≡ false → block_text file start ≡ Err 21
    unfolding block_text block_checks unless place_good
    text_no_end g = rw (f, ← e, g)

    pub text_other : end_fits file (start + 8 + len) ≡ true → (be32 file start ≡ 1 → ⊥) → block_text file start ≡ Err 23
    unfolding block_text block_checks unless place_good
    text_other g h = rw (f, ← e, g, ne_eqb (be32 file start) 1 h)

    pub text_found : end_fits file (start + 8 + len) ≡ true → be32 file start ≡ 1 → block_text file start ≡ Ok (Some (span (start + 8) len))
    unfolding block_text block_checks unless place_good
    text_found g h = rw (f, ← e, g, h)

-- the three cases of an answer differ
empty_text : (a l : ℕ) → ◌≡◌ {A = MemoPlace} (Ok None) (Ok (Some (span a l))) → ⊥
empty_text a l e = impossible (cc)

refused_text : (k a l : ℕ) → ◌≡◌ {A = MemoPlace} (Err k) (Ok (Some (span a l))) → ⊥
refused_text k a l e = impossible (cc)

same_span : (a b l m : ℕ) → ◌≡◌ {A = MemoPlace} (Ok (Some (span a l))) (Ok (Some (span b m))) → (a ≡ b) × (l ≡ m)
same_span a b l m e =
    let same : span a l ≡ span b m = cc in
    (ap (λ (place : Span). place.start) same, ap (λ (place : Span). place.len) same)

-- every text handed out lies in the file, after the header and the 8 bytes before it
module _ (file : List ℕ) (a l : ℕ) where
  block_inside : (start : ℕ) → block_text file start ≡ Ok (Some (span a l)) → (memo_header_bytes + 8 ≤ a) × (a + l ≤ length file)
  unfolding block_text block_checks unless place_good
  block_inside start e =
      let place = first_arm (place_good file start) (refused_text 21 a l) e in
      let text = first_arm (is_text file start) (refused_text 23 a l) place.1 in
      let fits = both (head_fits file start) (end_fits file (start + 8 + text_length file start)) place.0 in
      let same = same_span _ _ _ _ text.1 in
      omega (arith, same.0, same.1, head-inside file start fits.0, end-inside file (start + 8 + text_length file start) fits.1)

  read-inside : (read : MemoNumber) → read_text file read ≡ Ok (Some (span a l)) → (memo_header_bytes + 8 ≤ a) × (a + l ≤ length file)
  unfolding read_text numbered_text unless
  read-inside (Err n) e = absurd (refused_text n a l e)
  read-inside (Ok None) e = absurd (empty_text a l e)
  read-inside (Ok (Some n)) e = block_inside (block_start file n) (first_arm (memo_header_good file) (refused_text 22 a l) e).1

  pub text_inside : (text : List ℕ) → memo_text text file ≡ Ok (Some (span a l)) → (memo_header_bytes + 8 ≤ a) × (a + l ≤ length file)
  unfolding memo_text
  text_inside text e = read-inside (memo_number text) e

-- a refusal is 21, 22 or 23
module _ (file : List ℕ) (n : ℕ) where
  block_refusal : (start : ℕ) → block_text file start ≡ Err n → (21 ≤ n) × (n ≤ 23)
  unfolding block_text block_checks unless
  block_refusal start e =
      either (place_good file start)
      (λ place. either (is_text file start)
      (λ text. let q : Ok (Some (span (start + 8) (text_length file start))) ≡ Err n = rw (place, text) at e in impossible (cc))
      (λ other. let q : Err 23 ≡ Err n = rw (place, other) at e in let k : 23 ≡ n = cc in omega arith))
      (λ bad. let q : Err 21 ≡ Err n = rw bad at e in let k : 21 ≡ n = cc in omega arith)

  read-refusal : (read : MemoNumber) → ((m : ℕ) → read ≡ Err m → m ≡ bad_number) → read_text file read ≡ Err n → (21 ≤ n) × (n ≤ 23)
  unfolding read_text numbered_text unless
  read-refusal (Err m) bad e = let k : m ≡ n = cc in let l = bad m refl in omega arith
  read-refusal (Ok None) bad e = impossible (cc)
  read-refusal (Ok (Some k)) bad e =
      either (memo_header_good file)
      (λ good. block_refusal (block_start file k) (rw good at e))
      (λ bad. let q : Err 22 ≡ Err n = rw bad at e in let j : 22 ≡ n = cc in omega arith)

  pub text-refusal : (text : List ℕ) → memo_text text file ≡ Err n → (21 ≤ n) × (n ≤ 23)
  unfolding memo_text
  text-refusal text e = read-refusal (memo_number text) (number-refusal text) e

-- ---- the answer by its number

refused-empty : (n : ℕ) → ◌≡◌ {A = MemoPlace} (Err n) (Ok None) → ⊥
refused-empty n e = impossible (cc)

-- only a blank number's text is answered empty
read-empty : (file : List ℕ) (read : MemoNumber) → read_text file read ≡ Ok None → read ≡ Ok None
unfolding read_text numbered_text block_text block_checks unless
read-empty file (Err n) e = absurd (refused-empty n e)
read-empty file (Ok None) e = refl
read-empty file (Ok (Some n)) e =
    let start = block_start file n in
    let header = first_arm (memo_header_good file) (refused-empty 22) e in
    let place = first_arm (place_good file start) (refused-empty 21) header.1 in
    let text = first_arm (is_text file start) (refused-empty 23) place.1 in
    absurd (empty_text (start + 8) (text_length file start) (sym text.1))

blank-empty : (text file : List ℕ) (r : MemoPlace) → r ≡ memo_text text file → memo_number text ≡ Ok None → r ≡ Ok None
unfolding memo_text read_text
blank-empty text file r e blank = e ∙ rw blank

no_values : (start len : ℕ) → [] ≡ start ∷ len ∷ [] → ⊥
no_values start len e = impossible (cc)

-- an answer's number tells its case, since a refusal is 21, 22 or 23
pub memo_answer : (text file : List ℕ) (r : MemoPlace) → r ≡ memo_text text file → MemoAnswer text file r
unfolding memo_text
memo_answer text file (Ok (Some place)) e = record {
  case = e;
  accepted = (λ z. ((place.start, place.len), refl, (text_inside file place.start place.len text (sym e)).1), λ part. refl);
  empty = (λ z. absurd (omega (arith, z)), λ blank. absurd (empty_text place.start place.len (sym (blank-empty text file _ e blank))));
}
memo_answer text file (Ok None) e = record {
  case = e;
  accepted = (λ z. absurd (omega (arith, z)), λ part. absurd (no_values _ _ part.1));
  empty = (λ z. read-empty file (memo_number text) (sym e), λ blank. refl);
}
memo_answer text file (Err n) e =
    let bounds = text-refusal file n text (sym e) in
    record {
      case = e;
      accepted = (λ z. absurd (omega (arith, z)), λ part. absurd (no_values _ _ part.1));
      empty = (λ z. absurd (omega (arith, z)), λ blank. absurd (refused-empty n (blank-empty text file _ e blank)));
    }
