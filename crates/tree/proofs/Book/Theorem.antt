-- Laws: demand 3. What holds of one call on a sound index holds of every list of calls, on any state that is read as an index. Cited by the crate `idx_book`,
-- whose states are buffers. Assumes nothing.
use Rattle.std.specs.Prelude.{◌≡◌, refl, Bool, List, [], ◌∷◌, ℕ, ◌≤◌, ◌<◌, length}
use Rattle.std.proofs.Common.{sym, ap, ◌∙◌, arith}
use Rattle.basis.specs.Lists.{All}
use Rattle.tree.specs.Keeping.{Keeping}
use Rattle.tree.specs.Book.{Call, insertion, removal_of, lookup_of, Answer, KeyTests, is_no_room, no_rooms, results_of, final_of, book_answer, book_after}
use Rattle.tree.specs.Book.{book_answers, book_final, BookClaim}
use Rattle.tree.specs.Index.{Index, held, Setting, no_room_for, answer, next}
use Rattle.tree.proofs.SoundIndex.{SoundIndex}
use Rattle.tree.proofs.IndexLaws.{answer_book, answer-room, next_book}
use Rattle.tree.proofs.ReuseLaws.{size_for, next-bounded, next_grows}

-- the book after a call depends on the answer alone
book_after-same : {K : Type 0} (Q : Keeping K) (tests : KeyTests K) (c : Call K) (f g : Bool) (book : List (K × ℕ)) →
    book_answer Q tests c f book ≡ book_answer Q tests c g book → book_after Q tests c f book ≡ book_after Q tests c g book
book_after-same Q tests (insertion k r) f g book e = rw e
book_after-same Q tests (removal_of k r) f g book e = refl
book_after-same Q tests (lookup_of k) f g book e = refl

-- B are the states, each read as an index; Inv is what every call keeps, and Ok what is asked of a call (a record number of four bytes); a call's answer, its
-- next state and its rule for 30 are those of the index that `read` gives for the state
module _ {K B : Type 0} (s : Setting K) (two : 1 < s.capacity) (tests : KeyTests K) (read : B → Index K)
    (answerB : Call K → B → Answer) (nextB : Call K → B → B) (noRoomB : Call K → B → Bool) (Inv : B → Type 0) (Ok : Call K → Type 0)
    (sound : (b : B) → Inv b → SoundIndex s (read b))
    (keep : (c : Call K) (b : B) → Ok c → Inv b → Inv (nextB c b))
    (same_answer : (c : Call K) (b : B) → Ok c → Inv b → answerB c b ≡ answer s tests c (read b))
    (same_next : (c : Call K) (b : B) → Ok c → Inv b → read (nextB c b) ≡ next s tests c (read b))
    (same-room : (c : Call K) (b : B) → Ok c → Inv b → noRoomB c b ≡ no_room_for s c (read b)) where
  abbrev leaves : B → List (K × ℕ)
  leaves b = held (read b)

  -- one call
  one_answer : (c : Call K) (b : B) → Ok c → Inv b → book_answer s.keeping tests c (is_no_room (answerB c b)) (leaves b) ≡ answerB c b
  one_answer c b o i = rw (same_answer c b o i) (answer_book s two tests c (read b) (sound b i))

  one-room : (c : Call K) (b : B) → Ok c → Inv b → book_answer s.keeping tests c (noRoomB c b) (leaves b) ≡ answerB c b
  one-room c b o i = rw (same_answer c b o i, same-room c b o i) (answer-room s two tests c (read b) (sound b i))

  one-next : (c : Call K) (b : B) → Ok c → Inv b → book_after s.keeping tests c (is_no_room (answerB c b)) (leaves b) ≡ leaves (nextB c b)
  one-next c b o i = rw (same_answer c b o i, same_next c b o i) (next_book s two tests c (read b) (sound b i))

  one-next-room : (c : Call K) (b : B) → Ok c → Inv b → book_after s.keeping tests c (noRoomB c b) (leaves b) ≡ leaves (nextB c b)
  one-next-room c b o i =
      book_after-same s.keeping tests c (noRoomB c b) (is_no_room (answerB c b)) (leaves b) (one-room c b o i ∙ sym (one_answer c b o i))
      ∙ one-next c b o i

  -- every list
  list-answers : (cs : List (Call K)) → All Ok cs → (b : B) → Inv b →
      results_of answerB nextB cs b ≡ book_answers s.keeping tests cs (no_rooms (results_of answerB nextB cs b)) (leaves b)
  list-answers [] o b i = refl
  list-answers (c ∷ cs) o b i =
      rw (one_answer c b o.0 i, one-next c b o.0 i)
      (ap (λ l. answerB c b ∷ l) (list-answers cs o.1 (nextB c b) (keep c b o.0 i)))

  list-room : (cs : List (Call K)) → All Ok cs → (b : B) → Inv b →
      results_of answerB nextB cs b ≡ book_answers s.keeping tests cs (results_of noRoomB nextB cs b) (leaves b)
  list-room [] o b i = refl
  list-room (c ∷ cs) o b i =
      rw (one-room c b o.0 i, one-next-room c b o.0 i)
      (ap (λ l. answerB c b ∷ l) (list-room cs o.1 (nextB c b) (keep c b o.0 i)))

  list-pairs : (cs : List (Call K)) → All Ok cs → (b : B) → Inv b →
      leaves (final_of nextB cs b) ≡ book_final s.keeping tests cs (no_rooms (results_of answerB nextB cs b)) (leaves b)
  list-pairs [] o b i = refl
  list-pairs (c ∷ cs) o b i = rw (one-next c b o.0 i) (list-pairs cs o.1 (nextB c b) (keep c b o.0 i))

  -- Theorem: the invariant holds after a list of calls
  pub list-keeps : (cs : List (Call K)) → All Ok cs → (b : B) → Inv b → Inv (final_of nextB cs b)
  list-keeps [] o b i = i
  list-keeps (c ∷ cs) o b i = list-keeps cs o.1 (nextB c b) (keep c b o.0 i)

  -- Theorem: the claim about the whole list
  pub book_claim : (cs : List (Call K)) → All Ok cs → (b : B) → Inv b → BookClaim s.keeping tests answerB nextB leaves noRoomB cs b (leaves b)
  book_claim cs o b i = record { answers = list-answers cs o b i; room = list-room cs o b i; pairs = list-pairs cs o b i }

  -- at most m pairs are held at a time, from state b on
  abbrev pub HoldsAtMost : ℕ → List (Call K) → B → Type 0
  HoldsAtMost m [] b = length (leaves b) ≤ m
  HoldsAtMost m (c ∷ cs) b = (length (leaves b) ≤ m) × HoldsAtMost m cs (nextB c b)

  holds-now : (m : ℕ) (cs : List (Call K)) (b : B) → HoldsAtMost m cs b → length (leaves b) ≤ m
  holds-now m [] b l = l
  holds-now m (c ∷ cs) b l = l.0

  -- Theorem: pages are reused: a list that holds at most m pairs at a time keeps the file within the size for m pairs, however long the list is
  pub list-bounded : (cs : List (Call K)) → All Ok cs → (b : B) → Inv b → (m : ℕ) → 0 < m → HoldsAtMost m cs b → (read b).size ≤ size_for s m →
      (read (final_of nextB cs b)).size ≤ size_for s m
  list-bounded [] o b i m pos l u = u
  list-bounded (c ∷ cs) o b i m pos l u =
      let after : Inv (nextB c b) = keep c b o.0 i in
      list-bounded cs o.1 (nextB c b) after m pos l.1
      (rw (same_next c b o.0 i)
      (next-bounded s tests c (read b) (rw (same_next c b o.0 i) at (sound (nextB c b) after)) m pos
      (rw (same_next c b o.0 i) at (holds-now m cs (nextB c b) l.1)) u))

  -- Theorem: the file never shrinks
  pub list-grows : (cs : List (Call K)) → All Ok cs → (b : B) → Inv b → (read b).size ≤ (read (final_of nextB cs b)).size
  list-grows [] o b i = omega arith
  list-grows (c ∷ cs) o b i = omega (
    arith,
    ap (λ j. j.size) (same_next c b o.0 i),
    next_grows s tests c (read b),
    list-grows cs o.1 (nextB c b) (keep c b o.0 i),
  )
