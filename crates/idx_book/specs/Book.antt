-- Rules: demand 3, one claim about a whole list of calls, each lent the buffer as the last call left it. The calls are the rules that the contracts of
-- insertion, lookup and removal cite; the book, its answers and its pairs are those of the crate `tree`. The book begins at `book`: without pairs for a
-- fresh index, and at the leaves' pairs for an index that a host brings.
use Rattle.std.specs.Prelude.{ℕ, ◌+◌, ◌^◌, ◌≤◌, ◌<◌, ◌≡◌, Bool, false, cond, List, [], ◌∷◌, eqb, length, take, Err, Ok, Some, None}
use Rattle.refusal.specs.After.{Change}
use Rattle.tree.specs.Book.{Call, insertion, removal_of, lookup_of, Answer, refused, accepted, found, absent, KeyTests}
use Rattle.tree.specs.Book.{is_accepted, no_rooms, results_of, final_of}
use Rattle.tree.specs.Book.{book_answers, book_final}
use Rattle.tree.proofs.KeepingOf.{keeping_of}
use Rattle.idx_page.specs.Header.{key_length, features}
use Rattle.idx_page.specs.KeyOrder.{bytes_order}
use Rattle.idx_page.specs.declared.RecordNumber.{RecordNumber}
use Rattle.idx_lookup.specs.Lookup.{lookup_rule}
use Rattle.idx_lookup.specs.Answer.{Answer as Looked}
use Rattle.idx_lookup.specs.Answer as looked
use Rattle.idx_sound.specs.Sound.{Sound}
pub use Rattle.idx_sound.specs.Sound.{leaf_pairs}
use Rattle.idx_insert.specs.Calls.{has_control, insert_rule}
use Rattle.idx_insert_page.specs.Insertion.{inserted_buffer}
use Rattle.idx_path.specs.Room.{path_to, no_room}
use Rattle.idx_remove.specs.Calls.{remove_rule}
use Rattle.idx_remove_page.specs.Removal.{removed_buffer}

-- keys are byte strings
abbrev pub Calls : Type 0
Calls = List (Call (List ℕ))

-- the answers of the calls in the book's words
abbrev pub change_answer : Change → Answer
change_answer (Ok tt) = accepted
change_answer (Err n) = refused n

abbrev pub lookup_answer : Looked → Answer
lookup_answer (Ok outcome) = elim outcome.found [ Some r ↦ found r.0 | None ↦ absent ]
lookup_answer (Err n) = refused n

-- a call on the buffer b: what it answers, the buffer that it leaves, and the rule for 30 on the index in b
abbrev pub answer_to : Call (List ℕ) → List ℕ → Answer
answer_to (insertion key r) b = change_answer (insert_rule b key r).answer
answer_to (removal_of key r) b = change_answer (remove_rule b key r).answer
answer_to (lookup_of key) b = lookup_answer (lookup_rule b key)

abbrev pub buffer_after : Call (List ℕ) → List ℕ → List ℕ
buffer_after (insertion key r) b = (insert_rule b key r).after
buffer_after (removal_of key r) b = (remove_rule b key r).after
buffer_after (lookup_of key) b = b

abbrev pub no_room_for : Call (List ℕ) → List ℕ → Bool
no_room_for (insertion key r) b = no_room b (path_to (key_length b) b key r)
no_room_for (removal_of key r) b = false
no_room_for (lookup_of key) b = false

-- a key has k bytes; 27 is for "a key not of k bytes"
abbrev pub fits : ℕ → List ℕ → Bool
fits k key = eqb (length key) k

-- what the book asks of the keys of an index of barcodes: 27 for a key not of k bytes, 32 for an insertion's key "with any byte below 0x20"
abbrev pub barcodes : ℕ → KeyTests (List ℕ)
barcodes k = record { fits = fits k; barred = has_control }

-- the record number of a call fits four bytes; its key may have any length
abbrev pub FourBytes : Call (List ℕ) → Type 0
FourBytes (insertion key r) = r < 2 ^ 32
FourBytes (removal_of key r) = r < 2 ^ 32
FourBytes (lookup_of key) = Unit {0}

-- a list of calls made from the buffer b on: its answers, and the buffer after the first n calls
abbrev pub answers_to : Calls → List ℕ → List Answer
answers_to calls b = results_of answer_to buffer_after calls b

abbrev pub buffer_at : ℕ → Calls → List ℕ → List ℕ
buffer_at n calls b = final_of buffer_after (take n calls) b

-- pairs of a key and a record number
abbrev pub Pairs : Type 0
Pairs = List (List ℕ × ℕ)

-- the book after the first n calls, fed "of the answers, only whether an insertion was 30"
abbrev pub book_at : ℕ → ℕ → Pairs → ℕ → Calls → List ℕ → Pairs
book_at k f book n calls b = book_final (keeping_of bytes_order f) (barcodes k) (take n calls) (no_rooms (answers_to calls b)) book

-- the index in a buffer is sound, so it has at most 15 levels, and "the leaves' entries, left to right, are the book's pairs"
pub record IndexHolds (b : List ℕ) (book : Pairs) : Type 0 where
  pub sound : Sound b
  pub leaves : leaf_pairs b sound ≡ book

-- a lookup that finds its key "has visited as many pages as there are levels", "the pages from the root to a leaf, both counted", for features 0 "or one more;
-- for 1 exactly as many"
abbrev pub VisitsLevels : Call (List ℕ) → List ℕ → Type 0
VisitsLevels (insertion key r) b = Unit {0}
VisitsLevels (removal_of key r) b = Unit {0}
VisitsLevels (lookup_of key) b = (s : Sound b) (r : RecordNumber) (pages : ℕ) → lookup_rule b key ≡ looked.found r pages
    → (s.height + 1 ≤ pages) × (pages ≤ s.height + 1 + cond (eqb (features b) 0) 1 0)

-- an accepted insertion leaves the buffer that document 01's steps make, an accepted removal the one that K6's steps make, and a refused one leaves the buffer
-- as it was
abbrev pub LeavesBuffer : Call (List ℕ) → List ℕ → Type 0
LeavesBuffer (insertion key r) b =
    buffer_after (insertion key r) b ≡ cond (is_accepted (answer_to (insertion key r) b)) (inserted_buffer (key_length b) b key r) b
LeavesBuffer (removal_of key r) b =
    buffer_after (removal_of key r) b ≡ cond (is_accepted (answer_to (removal_of key r) b)) (removed_buffer (key_length b) b key r) b
LeavesBuffer (lookup_of key) b = Unit {0}

-- P holds of each call of a list and the buffer lent to it
abbrev pub Each : (Call (List ℕ) → List ℕ → Type 0) → Calls → List ℕ → Type 0
Each P [] b = Unit {0}
Each P (c ∷ calls) b = P c b × Each P calls (buffer_after c b)

-- the claim, for keys of k bytes and either features f: the book that begins at `book` keeps the list of calls, made from the buffer b on. By the keeping of f
-- 29 and 33 are for the pair, or for features 1 for the key; the pairs are in order of key, then record number; and a lookup gives the key's first record
pub record BookKept (k f : ℕ) (book : Pairs) (calls : Calls) (b : List ℕ) : Type 0 where
  -- "Every call answers so, never 24 or 25"
  pub answers : answers_to calls b ≡ book_answers (keeping_of bytes_order f) (barcodes k) calls (no_rooms (answers_to calls b)) book
  -- "an insertion not refused so is 30 exactly when the rule above, on the index lent to it, says so"
  pub room : answers_to calls b ≡ book_answers (keeping_of bytes_order f) (barcodes k) calls (results_of no_room_for buffer_after calls b) book
  -- "After fresh and after each call": before the first call, and after each
  pub index : (n : ℕ) → IndexHolds (buffer_at n calls b) (book_at k f book n calls b)
  pub visits : Each VisitsLevels calls b
  pub buffers : Each LeavesBuffer calls b
