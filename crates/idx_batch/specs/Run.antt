-- Rules: what the code that runs a list of calls leaves and answers, on every input, and demand 3 of it. Cited by `run_calls` and `run_batch`.
use Rattle.std.specs.Prelude.{ℕ, ◌/◌, ◌≡◌, List, [], ◌∷◌, ◌++◌, length, take, Result, Err, Ok}
use Rattle.refusal.specs.After.{After}
use Rattle.refusal.specs.After.{Change}
use Rattle.octets.specs.Bytes.{to_le32}
use Rattle.octets.specs.Store.{put}
use Rattle.tree.specs.Book.{Call, insertion, removal_of, lookup_of, Answer, refused, accepted, found, absent, results_of, final_of}
use Rattle.idx_book.specs.Book.{Calls, answer_to, buffer_after, answers_to, Pairs, leaf_pairs, BookKept}
use Rattle.idx_page.specs.Header.{key_length, features}
use Rattle.idx_lookup.specs.Lookup.{lookup_rule, answer_pages}
use Rattle.idx_sound.specs.Sound.{Sound}
use Rattle.idx_insert.specs.Fresh.{fresh_rule}
use Rattle.idx_batch.specs.Encoding.{calls_in}
use Rattle.idx_batch.specs.declared.Reply.{Reply}

-- the code of an answer: 0 for accepted and found, 257 for absent, or the refusal's number; and the number of the record that was found, or 0
abbrev pub code_of : Answer → ℕ
code_of (refused n) = n
code_of accepted = 0
code_of (found r) = 0
code_of absent = 257

abbrev pub record_in : Answer → ℕ
record_in (refused n) = 0
record_in accepted = 0
record_in (found r) = r
record_in absent = 0

-- how many pages a lookup visited; 0 for another call and a refused lookup
abbrev pub pages_to : Call (List ℕ) → List ℕ → ℕ
pages_to (insertion key r) b = 0
pages_to (removal_of key r) b = 0
pages_to (lookup_of key) b = answer_pages (lookup_rule b key) 0

-- an answer as it is written: its code, its record and its pages, each in four bytes, least significant first
abbrev pub reply_of : Answer → ℕ → Reply
reply_of a pages = record { code = code_of a; number = record_in a; pages = pages }

abbrev pub reply_bytes : Reply → List ℕ
reply_bytes r = to_le32 r.code ++ (to_le32 r.number ++ to_le32 r.pages)

-- the reply to a call on the buffer b
abbrev pub reply_to : Call (List ℕ) → List ℕ → Reply
reply_to c b = reply_of (answer_to c b) (pages_to c b)

abbrev pub answer_size : ℕ
answer_size = 12

-- the answers to a list of calls, one behind the other: each with the pages of its call
abbrev pub replies : List Answer → List ℕ → List ℕ
replies [] pages = []
replies (a ∷ answers) [] = []
replies (a ∷ answers) (n ∷ pages) = reply_bytes (reply_of a n) ++ replies answers pages

abbrev pub replies_to : Calls → List ℕ → List ℕ
replies_to calls b = replies (answers_to calls b) (results_of pages_to buffer_after calls b)

-- the calls of the list s that are made: as many as `out` has room for answers
abbrev pub made_calls : List ℕ → List ℕ → Calls
made_calls s out = take (length out / answer_size) (calls_in s)

-- what a run leaves: the buffer, the answers, and how many calls were made
pub record Ran : Type 0 where
  pub after : List ℕ
  pub answers : List ℕ
  pub made : ℕ

abbrev pub leaves : List ℕ → List ℕ → ℕ → Ran
leaves b out n = record { after = b; answers = out; made = n }

-- the calls are made one after another on the buffer b; their answers go to the start of `out`, and the rest of `out` stays
unfoldable pub run_rule : List ℕ → List ℕ → List ℕ → Ran
run_rule b s out =
    let calls = made_calls s out in
    leaves (final_of buffer_after calls b) (put out 0 (replies_to calls b)) (length calls)

-- what a batch leaves: the buffer, the answers, and what it returns: how many calls were made, or the number of fresh's refusal
pub record Started : Type 0 where
  pub after : List ℕ
  pub answers : List ℕ
  pub batch : Result ℕ ℕ

abbrev pub started : List ℕ → List ℕ → Result ℕ ℕ → Started
started b out r = record { after = b; answers = out; batch = r }

-- fresh, and then the calls if fresh is accepted; else nothing is touched
abbrev pub after_fresh : After Change → List ℕ → List ℕ → Started
after_fresh f s out =
    elim f.answer [
      | (Ok tt) ↦ let r = run_rule f.after s out in started r.after r.answers (Ok r.made)
      | Err n ↦ started f.after out (Err n)
    ]

unfoldable pub batch_rule : List ℕ → ℕ → ℕ → List ℕ → List ℕ → List ℕ → Started
batch_rule b k f e s out = after_fresh (fresh_rule b k f e) s out

-- demand 3 of running code, for keys of k bytes and the features f, from the book and the buffer b on: how many calls were made, the buffer after them, their
-- answers as they were written, and that the book keeps them
pub record RunKept (k f : ℕ) (book : Pairs) (b s out after answers : List ℕ) (made : ℕ) : Type 0 where
  pub count : made ≡ length (made_calls s out)
  pub buffer : after ≡ final_of buffer_after (made_calls s out) b
  pub written : answers ≡ put out 0 (replies_to (made_calls s out) b)
  pub kept : BookKept k f book (made_calls s out) b

-- a run on a buffer that holds a sound index: the book begins at that index's own pairs
abbrev pub SoundRunKept : (b s out after answers : List ℕ) (made : ℕ) → Type 0
SoundRunKept b s out after answers made = (sound : Sound b) → RunKept (key_length b) (features b) (leaf_pairs b sound) b s out after answers made

-- a batch: fresh was accepted, and the book begins without pairs
pub record BatchKept (b : List ℕ) (k f : ℕ) (e s out after answers : List ℕ) (made : ℕ) : Type 0 where
  pub fresh : (fresh_rule b k f e).answer ≡ Ok tt
  pub run : RunKept k f [] (fresh_rule b k f e).after s out after answers made
