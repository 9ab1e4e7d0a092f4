-- Steps: one entry of a leaf, as the audit tests it. No public contract cites these: a reader need not believe them.
use Rattle.std.specs.Prelude.{ℕ, ◌+◌, Bool, cond, not, ◌&&◌, List, eqb}
use Rattle.octets.specs.Bytes.{be32}
use Rattle.std.specs.declared.option.Option.{Option as Place}
use Rattle.idx_page.specs.Header.{features}
use Rattle.idx_sound.specs.AuditTest.{is_above}
use Rattle.idx_keys.specs.Places.{pair_at, pair_from}

-- how many bytes of two leaf entries tell which is above the other, by a header's features f: those of the keys, or for features 0 of the whole entries
abbrev pub compared_bytes : ℕ → ℕ → ℕ
compared_bytes f k = k + cond (eqb f 0) 4 0

-- the entry of a leaf that begins at `at` has a record number above 0, and a pair above that of the entry that begins at z; at None no entry is before it
abbrev pub leaf_entry : List ℕ → ℕ → ℕ → Place ℕ → Bool
leaf_entry b k at z = not (eqb (be32 b (at + k)) 0) && is_above (features b) (pair_from b k z) (pair_at b k at)
