-- Laws: a call that the code makes is the rule's; one turn of the run of a list of calls, and its end; demand 3. Cited by the proofs of the code.
-- Assumes nothing.
use Rattle.std.specs.Prelude.{ℕ, suc, ◌+◌, ◌*◌, ◌-◌, ◌/◌, ◌≤◌, ◌<◌, ◌≡◌, refl, Bool, true, false, ◌&&◌, List, [], ◌∷◌, leb, length, take, drop, get_or, Err, Ok}
use Rattle.std.proofs.Common.{sym, ap, ◌∙◌, arith, add-zero, zero-add, leb-true, leb-false}
use Rattle.std.proofs.Math.Seq.{take-nil}
use Rattle.basis.specs.Lists.{All, all_take}
use Rattle.basis.specs.Tests.{either, both}
use Rattle.refusal.specs.After.{After, left}
use Rattle.refusal.specs.AfterLaws.{made-number}
use Rattle.refusal.specs.After.{Change}
use Rattle.octets.specs.Bytes.{byte_at, le16, le32, to_le32}
use Rattle.octets.specs.Store.{put}
use Rattle.octets.specs.StoreLaws.{put_append, put-none, length-put}
use Rattle.octets.specs.NumberLaws.{length-to_le32}
use Rattle.tree.specs.Book.{Call, final_of}
use Rattle.idx_book.specs.Book.{Calls, FourBytes, change_answer, lookup_answer, buffer_after, Pairs, leaf_pairs, BookKept}
use Rattle.idx_book.proofs.BookLaws.{demand_3, demand_3_sound}
use Rattle.idx_page.specs.Header.{key_length, features}
use Rattle.idx_lookup.specs.Lookup.{lookup_rule, answer_pages}
use Rattle.idx_lookup.specs.Answer.{Answer as Looked}
use Rattle.idx_insert.specs.Calls.{insert_rule}
use Rattle.idx_insert.specs.Fresh.{fresh_buffer, fresh_checks, fresh_rule}
use Rattle.idx_remove.specs.Calls.{remove_rule}
use Rattle.idx_batch.specs.Encoding.{key_in, key_end, call_end, is_call, call_at, calls_from, calls_in}
use Rattle.idx_batch.specs.EncodingLaws.{whole, lookup-there, removal_there, insertion-there, key-part, calls-more, calls-none, calls-small}
use Rattle.idx_batch.specs.Run.{reply_of, reply_bytes, reply_to, replies_to, answer_size, made_calls, Ran, leaves, run_rule, started, batch_rule}
use Rattle.idx_batch.specs.Run.{RunKept, SoundRunKept, BatchKept}
use Rattle.idx_batch.specs.declared.Reply.{Reply}

-- a call of each kind, as the code makes it
module _ (b s : List ℕ) (at : ℕ) {n kind : ℕ} {r : Reply} (size : n ≡ le16 s (at + 1)) (known : kind ≡ byte_at s at) where
  pub lookup-made : {a : Looked} → kind ≡ 0 → a ≡ lookup_rule b (take (at + 3 + n - (at + 3)) (drop (at + 3) s))
      → r ≡ reply_of (lookup_answer a) (answer_pages a 0)
      → (b ≡ buffer_after (call_at s at) b) × (r ≡ reply_to (call_at s at) b)
  lookup-made z e q = rw (lookup-there s at (sym known ∙ z)) (refl, q ∙ rw (e, key-part s at size))

  pub removal_made : {a : Change} {after : List ℕ} {number : ℕ} → kind ≡ 2 → number ≡ le32 s (at + 3 + n)
      → remove_rule b (take (at + 3 + n - (at + 3)) (drop (at + 3) s)) number ≡ left after a → r ≡ reply_of (change_answer a) 0
      → (after ≡ buffer_after (call_at s at) b) × (r ≡ reply_to (call_at s at) b)
  removal_made {a} {after} {number} z f e q =
      let g : remove_rule b (key_in s at) (le32 s (key_end s at)) ≡ left after a = rw (f, key-part s at size, size) at e in
      rw (removal_there s at (sym known ∙ z)) (sym (ap (λ (i : After Change). i.after) g), q ∙ rw (g))

  pub insertion-made : {a : Change} {after : List ℕ} {number : ℕ} → (kind ≡ 0 → ⊥) → (kind ≡ 2 → ⊥) → number ≡ le32 s (at + 3 + n)
      → insert_rule b (take (at + 3 + n - (at + 3)) (drop (at + 3) s)) number ≡ left after a → r ≡ reply_of (change_answer a) 0
      → (after ≡ buffer_after (call_at s at) b) × (r ≡ reply_to (call_at s at) b)
  insertion-made {a} {after} {number} z y f e q =
      let g : insert_rule b (key_in s at) (le32 s (key_end s at)) ≡ left after a = rw (f, key-part s at size, size) at e in
      rw (insertion-there s at (λ x. z (known ∙ x)) (λ x. y (known ∙ x))) (sym (ap (λ (i : After Change). i.after) g), q ∙ rw (g))

-- a turn is taken if there is a whole call, and room of n bytes for its answer
pub turn_taken : (s : List ℕ) (at n : ℕ) {r : Bool} → r ≡ is_call s at && leb answer_size n → r ≡ true → (is_call s at ≡ true) × (answer_size ≤ n)
turn_taken s at n e t = let p = both (is_call s at) (leb answer_size n) (sym e ∙ t) in (p.0, leb-true answer_size n p.1)

-- an answer's three stores are one
pub reply_stored : (out : List ℕ) (at : ℕ) (r : Reply) {l1 l2 l3 : List ℕ} → l1 ≡ put out at (to_le32 r.code)
    → l2 ≡ put l1 (at + 4) (to_le32 r.number)
    → l3 ≡ put l2 (at + 8) (to_le32 r.pages) → l3 ≡ put out at (reply_bytes r)
reply_stored out at r e1 e2 e3 =
    let third : at + 4 + 4 ≡ at + 8 = omega arith in
    e3
    ∙ rw (e2, e1, put_append out at (to_le32 r.code), length-to_le32 r.code)
    (rw (put_append _ (at + 4) (to_le32 r.number), length-to_le32 r.number, third))

-- calls made on the buffer b, after m calls: their answers are written behind the first m answers
unfoldable pub made_on : Calls → List ℕ → List ℕ → ℕ → Ran
made_on calls b out m = leaves (final_of buffer_after calls b) (put out (answer_size * m) (replies_to calls b)) (m + length calls)

made_none : (b out : List ℕ) (m : ℕ) → made_on [] b out m ≡ leaves b out m
unfolding made_on
made_none b out m = rw (put-none out (answer_size * m), add-zero m)

reply_length : (r : Reply) → length (reply_bytes r) ≡ answer_size
unfolding to_le32
reply_length r = refl

made_more : (c : Call (List ℕ)) (calls : Calls) (b out : List ℕ) (m : ℕ)
    → made_on (c ∷ calls) b out m ≡ made_on calls (buffer_after c b) (put out (answer_size * m) (reply_bytes (reply_to c b))) (m + 1)
unfolding made_on
made_more c calls b out m =
    let l : answer_size * m + answer_size ≡ answer_size * (m + 1) = omega arith in
    let n : m + suc (length calls) ≡ m + 1 + length calls = omega arith in
    rw (put_append out (answer_size * m) (reply_bytes (reply_to c b)) (replies_to calls (buffer_after c b)), reply_length (reply_to c b), l, n)

-- the loop's invariant after m calls: what the rule leaves is what the calls still to be made, from offset `at` on, leave of the buffer and the answers
-- as they are
pub record Going (b₀ s out₀ b out : List ℕ) (at m : ℕ) : Type 0 where
  pub same : length b ≡ length b₀
  pub long : length out ≡ length out₀
  pub inside : at ≤ length s
  pub passed : 3 * m ≤ at
  pub room : answer_size * m ≤ length out₀
  pub rest : run_rule b₀ s out₀ ≡ made_on (take (length out₀ / answer_size - m) (calls_from (length s - m) s at)) b out m

pub going_first : (b s out : List ℕ) → Going b s out b out 0 0
unfolding run_rule made_on calls_in
going_first b s out =
    let n : length out / answer_size - 0 ≡ length out / answer_size = omega arith in
    let f : length s - 0 ≡ length s = omega arith in
    record { same = refl; long = refl; inside = omega arith; passed = omega arith; room = omega arith; rest = rw (zero-add, n, f) }

module _ (b₀ s out₀ b out : List ℕ) (at m : ℕ) (g : Going b₀ s out₀ b out at m) where
  -- one turn more
  pub going_on : {b' out' : List ℕ} {r : Reply} → is_call s at ≡ true → answer_size ≤ length out - answer_size * m → length b' ≡ length b
      → b' ≡ buffer_after (call_at s at) b → r ≡ reply_to (call_at s at) b → out' ≡ put out (answer_size * m) (reply_bytes r)
      → Going b₀ s out₀ b' out' (call_end s at) (m + 1)
  going_on e h l p q o =
      let w = whole s at e in
      let n : length out₀ / answer_size - m ≡ suc (length out₀ / answer_size - (m + 1)) = omega arith in
      let f : length s - m ≡ suc (length s - (m + 1)) = omega arith in
      record {
        same = l ∙ g.same;
        long = ap length o ∙ length-put _ _ _ ∙ g.long;
        inside = w.end;
        passed = omega arith;
        room = omega arith;
        rest = g.rest ∙ rw (n, f, calls-more s at (length s - (m + 1)) e) (made_more (call_at s at) _ b out m ∙ rw (o, q, p));
      }

  -- the end: there is no whole call, or no room for its answer
  pub going_ends : {r : Bool} → r ≡ is_call s at && leb answer_size (length out - answer_size * m) → r ≡ false → run_rule b₀ s out₀ ≡ leaves b out m
  going_ends t e = g.rest ∙ either (is_call s at)
      (λ y.
      let z : leb answer_size (length out - answer_size * m) ≡ false = rw y at (sym t ∙ e) in
      let n : length out₀ / answer_size - m ≡ 0 = omega (arith, leb-false answer_size (length out - answer_size * m) z) in
      rw (n) (made_none b out m))
      (λ y. rw (calls-none s at (length s - m) y, take-nil) (made_none b out m))

-- a batch by fresh's answer
module _ (b : List ℕ) (k f : ℕ) (e s out : List ℕ) {b' : List ℕ} where
  pub batch-made : {b'' out' : List ℕ} {n : ℕ} → fresh_rule b k f e ≡ left b' (Ok tt) → run_rule b' s out ≡ leaves b'' out' n
      → batch_rule b k f e s out ≡ started b'' out' (Ok n)
  unfolding batch_rule
  batch-made made r = rw (made, r)

  pub batch-refused : {n : ℕ} → fresh_rule b k f e ≡ left b' (Err n) → batch_rule b k f e s out ≡ started b' out (Err n)
  unfolding batch_rule
  batch-refused refused = rw (refused)

-- bytes below 256, one by one, are so all together
all_octets : (s : List ℕ) → ((i : ℕ) → get_or s i 0 < 256) → All (λ x. x < 256) s
all_octets [] h = tt
all_octets (x ∷ s) h = (h 0, all_octets s (λ i. h (suc i)))

-- the calls that are made have record numbers of four bytes, since the list holds bytes
made-small : (s out : List ℕ) → ((i : ℕ) → get_or s i 0 < 256) → All FourBytes (made_calls s out)
made-small s out os = all_take FourBytes (length out / answer_size) (calls_in s) (calls-small s (all_octets s os))

-- what the rule leaves, and the book that keeps it, are demand 3 of the run
run-kept : (k f : ℕ) (book : Pairs) (b s out : List ℕ) {b' out' : List ℕ} {n : ℕ} → run_rule b s out ≡ leaves b' out' n
    → BookKept k f book (made_calls s out) b
    → RunKept k f book b s out b' out' n
unfolding run_rule
run-kept k f book b s out r kept = record {
  count = sym (ap (λ (x : Ran). x.made) r);
  buffer = sym (ap (λ (x : Ran). x.after) r);
  written = sym (ap (λ (x : Ran). x.answers) r);
  kept = kept;
}

-- Theorem: demand 3 of a run on a buffer that holds a sound index
pub sound-run-kept : (b s out : List ℕ) {b' out' : List ℕ} {n : ℕ} → ((i : ℕ) → get_or b i 0 < 256) → ((i : ℕ) → get_or s i 0 < 256)
    → run_rule b s out ≡ leaves b' out' n → SoundRunKept b s out b' out' n
sound-run-kept b s out ob os r sound =
    run-kept (key_length b) (features b) (leaf_pairs b sound) b s out r (demand_3_sound b (all_octets b ob) sound (made_calls s out) (made-small s out os))

-- Theorem: demand 3 of a batch
pub batch-kept : (b : List ℕ) (k f : ℕ) (e s out : List ℕ) {b' b'' out' : List ℕ} {n : ℕ} → ((i : ℕ) → get_or b i 0 < 256)
    → ((i : ℕ) → get_or s i 0 < 256)
    → fresh_rule b k f e ≡ left b' (Ok tt) → run_rule b' s out ≡ leaves b'' out' n → BatchKept b k f e s out b'' out' n
batch-kept b k f e s out {b'} ob os made r =
    let a : (fresh_rule b k f e).answer ≡ (Ok tt) = ap (λ (i : After Change). i.answer) made in
    let q : (fresh_rule b k f e).after ≡ b' = ap (λ (i : After Change). i.after) made in
    record {
      fresh = a;
      run = run-kept k f [] (fresh_rule b k f e).after s out (rw (← q) at r)
          (demand_3 b k f e (all_octets b ob) a (made_calls s out) (made-small s out os));
    }
