-- Steps: the records of a key, stored one after another from a place on, the first `room` of a list alone. Only the call's inner functions cite them.
use Rattle.std.specs.Prelude.{ℕ, ◌+◌, cond, List, [], ◌∷◌, set, ltb}
use Rattle.octets.specs.Order.{ordering, is_equal}
use Rattle.idx_sound.specs.AuditTest.{Entries}

-- the place of the next record, and the list
pub record Gathered : Type 0 where
  pub at : ℕ
  pub list : List ℕ

abbrev pub gather : ℕ → List ℕ → Gathered
gather at list = record { at = at; list = list }

-- a number at a place of the list, if it is among the first `room`
abbrev pub kept : ℕ → ℕ → ℕ → List ℕ → List ℕ
kept room at number list = cond (ltb at room) (set list at number) list

-- numbers one after another, from the place `at` on
unfoldable pub stored : ℕ → ℕ → List ℕ → List ℕ → List ℕ
stored room at [] list = list
stored room at (r ∷ rs) list = stored room (at + 1) rs (kept room at r list)

-- an entry: its record if its key is equal
unfoldable pub taken : List ℕ → ℕ → List ℕ × ℕ → Gathered → Gathered
taken key room e g = cond (is_equal (ordering e.0 key)) (gather (g.at + 1) (kept room g.at e.1 g.list)) g

-- all entries
unfoldable pub gathered : List ℕ → ℕ → Entries → Gathered → Gathered
gathered key room [] g = g
gathered key room (e ∷ es) g = gathered key room es (taken key room e g)
