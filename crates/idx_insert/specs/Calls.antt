-- Rules: what insertion answers and leaves, "in this order: 24, 27, 28, 25 by full audit, 29 if the key is in a leaf, 30", and 32 "after 27 and before 28".
use Rattle.std.specs.Prelude.{ℕ, Bool, false, not, ◌||◌, List, [], ◌∷◌, length, eqb, ltb}
use Rattle.refusal.specs.After.{After, made_unless}
use Rattle.refusal.specs.After.{Change}
use Rattle.idx_page.specs.Header.{header_good, key_length}
use Rattle.idx_sound.specs.AuditTest.{pages_good}
use Rattle.idx_insert_page.specs.Insertion.{inserted_buffer}
use Rattle.idx_path.specs.Room.{path_to, no_room}

-- "Insertion refuses a key with any byte below 0x20, number 32"
unfoldable pub has_control : List ℕ → Bool
has_control [] = false
has_control (c ∷ s) = ltb c 0x20 || has_control s

-- the checks in their order. "29 if the key is in a leaf": the path of the key leads to that leaf
unfoldable pub insert_checks : List ℕ → List ℕ → ℕ → List (Bool × ℕ)
insert_checks b key number =
    let path = path_to (key_length b) b key number in
    (header_good b, 24)
    ∷ (eqb (length key) (key_length b), 27)
    ∷ (not (has_control key), 32)
    ∷ (not (eqb number 0), 28)
    ∷ (pages_good b, 25)
    ∷ (not path.present, 29)
    ∷ (not (no_room b path), 30)
    ∷ []

-- what insertion leaves and answers: a refusal leaves the buffer as it was
unfoldable pub insert_rule : List ℕ → List ℕ → ℕ → After Change
insert_rule b key number = made_unless (insert_checks b key number) (inserted_buffer (key_length b) b key number) b
