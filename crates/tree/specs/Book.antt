-- Rules: the book of demand 3, and the one claim about a whole list of calls. Cited by the theorem that every list of calls is kept by the book.
use Rattle.std.specs.Prelude.{◌≡◌, Bool, true, false, cond, not, List, [], ◌∷◌, ℕ, eqb}
use Rattle.std.proofs.Math.Option.{Option, none, some}
use Rattle.tree.specs.Pairs.{get, has, insert_pair, remove_pair}
use Rattle.tree.specs.Keeping.{Keeping}

-- the arguments of a call, "the buffer left out"; a removal names a pair
pub data Call (K : Type 0) : Type 0 where
  insertion : K → ℕ → Call K
  removal_of : K → ℕ → Call K
  lookup_of : K → Call K

-- a refusal with its number; an insertion's or a removal's yes; a lookup's record, or absent
pub data Answer : Type 0 where
  refused : ℕ → Answer
  accepted : Answer
  found : ℕ → Answer
  absent : Answer

-- a refusal if a test holds, else the answer a
abbrev pub refused_if : Bool → ℕ → Answer → Answer
refused_if true n a = refused n
refused_if false n a = a

-- what is asked of a call's key: of every key, that it fits the index, "a key not of k bytes is 27"; of an insertion's key, that it is not barred, "a key
-- with any byte below 0x20, number 32"
pub record KeyTests (K : Type 0) : Type 0 where
  pub fits : K → Bool
  pub barred : K → Bool

-- insertion: "a key not of k bytes is 27", 32 "after 27 and before 28", "else record number 0 is 28, else a key in the book 29", or "the very pair" for
-- features 0; then 30 or accepted
abbrev pub verdict : Bool → Bool → ℕ → Bool → Bool → Answer
verdict fits barred r held full =
    refused_if (not fits) 27 (refused_if barred 32 (refused_if (eqb r 0) 28 (refused_if held 29 (refused_if full 30 accepted))))

-- removal: "27 for a key not of k bytes, else 33 for a key not in it", or "33 if that pair is absent" for features 0; then accepted
abbrev pub striking : Bool → Bool → Answer
striking fits held = refused_if (not fits) 27 (refused_if (not held) 33 accepted)

-- what a lookup that is not refused answers
abbrev pub found_or_absent : Option ℕ → Answer
found_or_absent none = absent
found_or_absent (some r) = found r

-- lookup: "a key not of k bytes is 27, one in the book gives its record", for features 0 "the key's first record", "any other is absent"
abbrev pub finding : Bool → Option ℕ → Answer
finding fits held = refused_if (not fits) 27 (found_or_absent held)

-- an answer is 30; an answer is yes
abbrev pub is_no_room : Answer → Bool
is_no_room (refused n) = eqb n 30
is_no_room accepted = false
is_no_room (found r) = false
is_no_room absent = false

abbrev pub is_accepted : Answer → Bool
is_accepted (refused n) = false
is_accepted accepted = true
is_accepted (found r) = false
is_accepted absent = false

-- "of the answers, only whether an insertion was 30"
abbrev pub no_rooms : List Answer → List Bool
no_rooms [] = []
no_rooms (a ∷ rest) = is_no_room a ∷ no_rooms rest

-- a list of calls made one after another on a state: what f gives for each call on the state that it is lent, and the state after all
abbrev pub results_of : {K B X : Type 0} → (Call K → B → X) → (Call K → B → B) → List (Call K) → B → List X
results_of f next [] b = []
results_of f next (c ∷ cs) b = f c b ∷ results_of f next cs (next c b)

abbrev pub final_of : {K B : Type 0} → (Call K → B → B) → List (Call K) → B → B
final_of next [] b = b
final_of next (c ∷ cs) b = final_of next cs (next c b)

module _ {K : Type 0} (Q : Keeping K) (tests : KeyTests K) where
  -- the book's answer to a call, told whether the answer was 30. For features 1 a pair is in the book if its key is: "a record named isn't looked at"
  abbrev pub book_answer : Call K → Bool → List (K × ℕ) → Answer
  book_answer (insertion k r) full book = verdict (tests.fits k) (tests.barred k) r (has Q.pair_le (k, r) book) full
  book_answer (removal_of k r) full book = striking (tests.fits k) (has Q.pair_le (k, r) book)
  book_answer (lookup_of k) full book = finding (tests.fits k) (get Q.order k book)

  -- the book after a call: "none of these changes the book, nor does 30. Otherwise it is accepted and its pair goes in", for features 0 "in order of key, then
  -- record number"; of a removal that is not refused "the pair goes"
  abbrev pub book_after : Call K → Bool → List (K × ℕ) → List (K × ℕ)
  book_after (insertion k r) full book = cond (is_accepted (book_answer (insertion k r) full book)) (insert_pair Q.pair_le (k, r) book) book
  book_after (removal_of k r) full book = cond (is_accepted (book_answer (removal_of k r) full book)) (remove_pair Q.pair_le (k, r) book) book
  book_after (lookup_of k) full book = book

  -- the book's answers to a list of calls, and the book after it
  abbrev pub book_answers : List (Call K) → List Bool → List (K × ℕ) → List Answer
  book_answers [] fs book = []
  book_answers (c ∷ cs) [] book = []
  book_answers (c ∷ cs) (f ∷ fs) book = book_answer c f book ∷ book_answers cs fs (book_after c f book)

  abbrev pub book_final : List (Call K) → List Bool → List (K × ℕ) → List (K × ℕ)
  book_final [] fs book = book
  book_final (c ∷ cs) [] book = book
  book_final (c ∷ cs) (f ∷ fs) book = book_final cs fs (book_after c f book)

  -- "one claim about the whole list", from state b and the book on: `answer` and `next` say what a call answers and how it changes a state, `leaves` gives a
  -- state's leaf pairs, and `no_room_for` is the rule for 30 on the state that is lent to a call
  pub record BookClaim {B : Type 0} (answer : Call K → B → Answer) (next : Call K → B → B) (leaves : B → List (K × ℕ))
      (no_room_for : Call K → B → Bool) (cs : List (Call K)) (b : B) (book : List (K × ℕ)) : Type 0 where
    -- "every call answers so, never 24 or 25"
    pub answers : results_of answer next cs b ≡ book_answers cs (no_rooms (results_of answer next cs b)) book
    -- "an insertion not refused so is 30 exactly when the rule above, on the index lent to it, says so"
    pub room : results_of answer next cs b ≡ book_answers cs (results_of no_room_for next cs b) book
    -- "after fresh and after each call the leaves' entries, left to right, are the book's pairs"
    pub pairs : leaves (final_of next cs b) ≡ book_final cs (no_rooms (results_of answer next cs b)) book
