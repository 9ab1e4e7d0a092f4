-- Rules: what the lookups hand to C. The calls that write an index hand their rule's buffer and number (`refusal/After.coded`).
use Rattle.std.specs.Prelude.{ℕ}
use Rattle.idx_lookup.specs.Lookup.{lookup_code, answer_record, answer_pages}
use Rattle.idx_lookup.specs.Answer.{Answer}
use Rattle.handed.specs.Out.{Out, out}

-- record and pages
pub record Found : Type 0 where
  pub number : ℕ
  pub pages : ℕ

abbrev pub found : ℕ → ℕ → Found
found number pages = record { number = number; pages = pages }

-- "0 sets both; 257 sets pages alone"
unfoldable pub lookup_out : Answer → Found → Out Found
lookup_out answer old = out (lookup_code answer) (found (answer_record answer old.number) (answer_pages answer old.pages))
