-- Rules: what the calls that write a table hand to C: the answer's number, the buffer after the call, and the two stores of an append. "An out-parameter keeps
-- what it held whenever the answer is not 0, and so does every lent buffer".
use Rattle.std.specs.Prelude.{ℕ, List, Ok, Err}
use Rattle.refusal.specs.After.{After}
use Rattle.dbf_append.specs.declared.Store.{Store}
use Rattle.dbf_append.specs.Append.{Answer}
use Rattle.dbf_append.specs.Extent.{Extent}
use Rattle.handed.specs.Out.{Out, out}

-- "the two stores, in the order in which the file must get them"
pub record Stores : Type 0 where
  pub first : Store
  pub second : Store

abbrev pub stores : ℕ → ℕ → ℕ → ℕ → Stores
stores record_place record_length count_place count_length = record {
  first = record { place = record_place; length = record_length };
  second = record { place = count_place; length = count_length };
}

-- the buffer and the stores after an append
pub record Written : Type 0 where
  pub after : List ℕ
  pub told : Stores

abbrev pub written : List ℕ → Stores → Written
written after told = record { after = after; told = told }

-- "0 sets all four"
abbrev pub append_told : Answer → List ℕ → Stores → Out Written
append_told (Ok done) after old = out 0 (written after (record { first = done.first; second = done.second }))
append_told (Err n) after old = out n (written after old)

unfoldable pub append_out : After Answer → Stores → Out Written
append_out call old = append_told call.answer call.after old

-- "0 sets that length"
unfoldable pub extent_out : Extent → ℕ → Out ℕ
extent_out (Ok length) old = out 0 length
extent_out (Err n) old = out n old
