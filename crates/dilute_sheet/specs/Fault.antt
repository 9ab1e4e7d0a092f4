-- Rules: what is wrong with an input that is none of document 02, K11: "four lines of 1 to 10 digits, each ended by one line feed, nothing after". The paper
-- gives 40 for each; this is for the person at the bench: the first line that is not such a line, and why.
use Rattle.std.specs.Prelude.{ℕ, zero, suc, ◌+◌, cond, List, length, eqb, leb}
use Rattle.octets.specs.Bytes.{byte_at}
use Rattle.dilute_sheet.specs.Input.{line_feed, digits_at, line_at}
use Rattle.dilute_sheet.specs.declared.input.Fault.{Fault}
use Rattle.dilute_sheet.specs.declared.input.Wrong.{Wrong}
use Rattle.dilute_sheet.specs.declared.input.Wrong.TheVariants.{Nothing, Missing, TooLong, Unended, CarriageReturn, OtherByte, Empty, More}

abbrev pub carriage_return : ℕ
carriage_return = 0x0D

-- what is wrong with the line from an offset on, the first of: the text has ended; more than 10 digits; the text ends with the digits; the byte behind them is
-- a carriage return, or another that is no line feed; there is no digit
unfoldable pub wrong_at : List ℕ → ℕ → Wrong
wrong_at s at =
    let count = length (digits_at s at) in
    cond (leb (length s) at) Missing
    (cond (leb 11 count) TooLong
    (cond (leb (length s) (at + count)) Unended
    (cond (eqb (byte_at s (at + count)) carriage_return) CarriageReturn
    (cond (eqb (byte_at s (at + count)) line_feed) (cond (eqb count 0) Empty Nothing) OtherByte))))

-- "nothing after"
unfoldable pub wrong_after : List ℕ → ℕ → Wrong
wrong_after s at = cond (eqb at (length s)) Nothing More

abbrev pub fault : ℕ → Wrong → Fault
fault n wrong = record { line = n; wrong = wrong }

-- the first fault from line n on, which begins at an offset; `left` lines are to come
unfoldable pub fault_from : List ℕ → ℕ → ℕ → ℕ → Fault
fault_from s n at zero = fault n (wrong_after s at)
fault_from s n at (suc left) =
    let found = line_at s at in
    cond found.good (fault_from s (n + 1) found.end left) (fault n (wrong_at s at))

-- "four lines"; line 5 is what stands after them
unfoldable pub input_fault : List ℕ → Fault
input_fault s = fault_from s 1 0 4
