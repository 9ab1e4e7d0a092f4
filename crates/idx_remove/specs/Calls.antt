-- Rules: what removal answers and leaves, in the "order 24, 27, 25 by full audit, then 33" if that pair is absent, for features 1 the key.
use Rattle.std.specs.Prelude.{ℕ, Bool, List, [], ◌∷◌, length, eqb}
use Rattle.refusal.specs.After.{After, made_unless}
use Rattle.refusal.specs.After.{Change}
use Rattle.idx_page.specs.Header.{header_good, key_length}
use Rattle.idx_sound.specs.AuditTest.{pages_good}
use Rattle.idx_path.specs.Presence.{is_there}
use Rattle.idx_remove_page.specs.Removal.{removed_buffer}

-- the checks in their order
unfoldable pub remove_checks : List ℕ → List ℕ → ℕ → List (Bool × ℕ)
remove_checks b key number =
    (header_good b, 24)
    ∷ (eqb (length key) (key_length b), 27)
    ∷ (pages_good b, 25)
    ∷ (is_there (key_length b) b key number, 33)
    ∷ []

-- what removal leaves and answers: a refusal leaves the buffer as it was
unfoldable pub remove_rule : List ℕ → List ℕ → ℕ → After Change
remove_rule b key number = made_unless (remove_checks b key number) (removed_buffer (key_length b) b key number) b
