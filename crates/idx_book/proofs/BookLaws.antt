-- Laws: demand 3. After an accepted fresh, and from any sound index on, the book keeps every list of calls. Assumes nothing.
use Rattle.std.specs.Prelude.{ℕ, zero, suc, ◌<◌, ◌≡◌, refl, Bool, true, List, [], ◌∷◌, length, take, Ok}
use Rattle.std.proofs.Common.{sym, ap, ◌∙◌, arith, leb-true}
use Rattle.basis.specs.Lists.{All, all_take}
use Rattle.basis.specs.Tests.{both}
use Rattle.refusal.specs.AfterLaws.{Accepted, made-accepted}
use Rattle.tree.specs.Book.{Call, insertion, removal_of, lookup_of, KeyTests, is_no_room, no_rooms, results_of, final_of}
use Rattle.tree.specs.Book.{book_answer, book_after, book_answers, book_final, BookClaim}
use Rattle.tree.proofs.Book.Theorem.{list-keeps, book_claim}
use Rattle.tree.specs.Index.{held, answer, no_room_for as noRoomTo}
use Rattle.tree.proofs.IndexLaws.{answer_book, answer-room, next_book}
use Rattle.tree.specs.Keeping.{Keeping}
use Rattle.tree.proofs.KeepingOf.{keeping_of}
use Rattle.idx_page.specs.Header.{min_bytes, key_length, features, header_good}
use Rattle.idx_page.specs.HeaderLaws.{good-header}
use Rattle.idx_page.specs.KeyOrder.{bytes_order}
use Rattle.idx_page.specs.Page.{capacity}
use Rattle.idx_layout.specs.WriteLaws.{capacity-least}
use Rattle.idx_sound.specs.Sound.{Sound}
use Rattle.idx_insert.specs.Fresh.{expression_good, features_good, fresh_buffer, fresh_checks, fresh_rule}
use Rattle.idx_insert_laws.specs.InsertionHeads.{Plain, octets_plain}
use Rattle.idx_insert_laws.specs.FreshLaws.{FreshIs, fresh_is_sound}
use Rattle.idx_book.specs.Book.{Calls, answer_to, buffer_after, no_room_for, barcodes, FourBytes, answers_to, buffer_at, Pairs, leaf_pairs}
use Rattle.idx_book.specs.Book.{VisitsLevels, LeavesBuffer, Each, BookKept}
use Rattle.idx_book.proofs.CallLaws.{Kept, read_index, read_is, keeping, kept-sound, visits-levels, leaves-buffer, same_answer, same_rule, keeps, same_next}

-- the book after the first n calls needs the answers to these calls alone
book_take : (k f n : ℕ) (calls : Calls) (b : List ℕ) (book : Pairs)
    → book_final (keeping_of bytes_order f) (barcodes k) (take n calls) (no_rooms (answers_to (take n calls) b)) book
    ≡ book_final (keeping_of bytes_order f) (barcodes k) (take n calls) (no_rooms (answers_to calls b)) book
book_take k f zero calls b book = refl
book_take k f (suc n) [] b book = refl
book_take k f (suc n) (c ∷ calls) b book = book_take k f n calls (buffer_after c b) _

-- the pairs that the theory reads in a buffer are those of its sound index
pub own-pairs : (b : List ℕ) (s : Sound b) → held (read_index b) ≡ leaf_pairs b s
own-pairs b s = ap held (read_is b s)

-- the book after a call depends on the answer alone
after_same : (Q : Keeping (List ℕ)) (tests : KeyTests (List ℕ)) (c : Call (List ℕ)) (x y : Bool) (book : Pairs)
    → book_answer Q tests c x book ≡ book_answer Q tests c y book → book_after Q tests c x book ≡ book_after Q tests c y book
after_same Q tests (insertion key r) x y book e = rw e
after_same Q tests (removal_of key r) x y book e = refl
after_same Q tests (lookup_of key) x y book e = refl

module _ (k f size : ℕ) (two : 1 < capacity k) where
  -- what holds of one call on a kept buffer holds of each call of a list
  each : (P : Call (List ℕ) → List ℕ → Type 0) → ((c : Call (List ℕ)) (b : List ℕ) → Kept k f size b → P c b) → (calls : Calls) → All FourBytes calls
      → (b : List ℕ) → Kept k f size b → Each P calls b
  each P ok [] o b kept = tt
  each P ok (c ∷ calls) o b kept = (ok c b kept, each P ok calls o.1 (buffer_after c b) (keeps k f size b kept c o.0))

  -- the theory's rule for 30 on the index in a buffer
  abbrev pub rule_for : Call (List ℕ) → List ℕ → Bool
  rule_for c b = noRoomTo (keeping f k size) c (read_index b)

  -- the theory's theorem, with buffers for states
  claim : (calls : Calls) → All FourBytes calls → (b : List ℕ) → Kept k f size b
      → BookClaim (keeping_of bytes_order f) (barcodes k) answer_to buffer_after (λ b. held (read_index b)) rule_for calls b (held (read_index b))
  claim = book_claim (keeping f k size) two (barcodes k) read_index answer_to buffer_after rule_for (Kept k f size) FourBytes
      (λ b i. kept-sound k f size b i) (λ c b o i. keeps k f size b i c o) (λ c b o i. same_answer k f size b i c o)
      (λ c b o i. same_next k f size b i c o) (λ c b o i. refl)

  keeps-all : (calls : Calls) → All FourBytes calls → (b : List ℕ) → Kept k f size b → Kept k f size (final_of buffer_after calls b)
  keeps-all = list-keeps (keeping f k size) two (barcodes k) read_index answer_to buffer_after rule_for (Kept k f size) FourBytes
      (λ b i. kept-sound k f size b i) (λ c b o i. keeps k f size b i c o) (λ c b o i. same_answer k f size b i c o)
      (λ c b o i. same_next k f size b i c o) (λ c b o i. refl)

  -- the same with the rule for 30 on the bytes
  one-room : (c : Call (List ℕ)) (b : List ℕ) → FourBytes c → Kept k f size b
      → book_answer (keeping_of bytes_order f) (barcodes k) c (no_room_for c b) (held (read_index b)) ≡ answer_to c b
  one-room c b o i =
      same_rule k f size b i c o ∙ answer-room (keeping f k size) two (barcodes k) c (read_index b) (kept-sound k f size b i)
      ∙ sym (same_answer k f size b i c o)

  one-next : (c : Call (List ℕ)) (b : List ℕ) → FourBytes c → Kept k f size b
      → book_after (keeping_of bytes_order f) (barcodes k) c (no_room_for c b) (held (read_index b)) ≡ held (read_index (buffer_after c b))
  one-next c b o i =
      let a : answer_to c b ≡ answer (keeping f k size) (barcodes k) c (read_index b) = same_answer k f size b i c o in
      let sound = kept-sound k f size b i in
      after_same (keeping_of bytes_order f) (barcodes k) c (no_room_for c b) (is_no_room (answer (keeping f k size) (barcodes k) c (read_index b)))
      (held (read_index b)) (one-room c b o i ∙ a ∙ sym (answer_book (keeping f k size) two (barcodes k) c (read_index b) sound))
      ∙ next_book (keeping f k size) two (barcodes k) c (read_index b) sound ∙ ap held (sym (same_next k f size b i c o))

  list-room : (calls : Calls) → All FourBytes calls → (b : List ℕ) → Kept k f size b
      → answers_to calls b ≡ book_answers (keeping_of bytes_order f) (barcodes k) calls (results_of no_room_for buffer_after calls b) (held (read_index b))
  list-room [] o b i = refl
  list-room (c ∷ calls) o b i =
      rw (one-room c b o.0 i, one-next c b o.0 i)
      (ap (λ l. answer_to c b ∷ l) (list-room calls o.1 (buffer_after c b) (keeps k f size b i c o.0)))

  -- a list of calls on a kept buffer: the book begins at the index's own pairs
  list-kept : (calls : Calls) → All FourBytes calls → (b : List ℕ) (kept : Kept k f size b) → BookKept k f (leaf_pairs b kept.sound) calls b
  list-kept calls o b kept =
      let own : held (read_index b) ≡ leaf_pairs b kept.sound = own-pairs b kept.sound in
      record {
        answers = rw own at (claim calls o b kept).answers;
        room = rw own at (list-room calls o b kept);
        index = λ n.
            let first = take n calls in
            let o' = all_take FourBytes n calls o in
            let after : Kept k f size (buffer_at n calls b) = keeps-all first o' b kept in
            let book : Pairs = leaf_pairs b kept.sound in
            let c : held (read_index (buffer_at n calls b))
            ≡ book_final (keeping_of bytes_order f) (barcodes k) (take n calls) (no_rooms (answers_to (take n calls) b)) book =
            rw own at (claim first o' b kept).pairs in
            record {
              sound = after.sound;
              leaves = sym (own-pairs (buffer_at n calls b) after.sound) ∙ c ∙ book_take k f n calls b book;
            };
        visits = each VisitsLevels (λ c b i. visits-levels k f size b i c) calls o b kept;
        buffers = each LeavesBuffer (λ c b i. leaves-buffer c b) calls o b kept;
      }

-- the key length in a good header is at most 100, so a page holds more than one entry
pub header-two : (b : List ℕ) → header_good b ≡ true → 1 < capacity (key_length b)
header-two b e = omega (arith, capacity-least (key_length b) (good-header b e).key-high)

-- the book that begins at a sound index's own pairs keeps every list of calls on its buffer; `Plain` follows for a buffer of bytes
sound-kept : (b : List ℕ) → Plain b → (s : Sound b) → (calls : Calls) → All FourBytes calls → BookKept (key_length b) (features b) (leaf_pairs b s) calls b
sound-kept b plain s calls o =
    list-kept (key_length b) (features b) (length b) (header-two b s.header) calls o b
    (record { sound = s; key_is = refl; features_are = refl; as_long = refl; plain = plain })

-- Theorem: demand 3 from any sound index on. Every list of calls on a buffer of bytes that holds a sound index is kept by the book that begins at that
-- index's own pairs, for keys of the length in its header and for its features
pub demand_3_sound : (b : List ℕ) → All (λ x. x < 256) b → (s : Sound b) → (calls : Calls) → All FourBytes calls
    → BookKept (key_length b) (features b) (leaf_pairs b s) calls b
demand_3_sound b octets s calls o = sound-kept b (octets_plain b octets) s calls o

-- fresh is accepted only if its three checks hold
fresh-accepted : (k f : ℕ) (e b : List ℕ) → (fresh_rule b k f e).answer ≡ (Ok tt) → Accepted (fresh_buffer k f e b) b (fresh_checks b k f e)
unfolding fresh_rule
fresh-accepted k f e b a = made-accepted (fresh_buffer k f e b) b (fresh_checks b k f e) a

pub fresh-leaves : (k f : ℕ) (e b : List ℕ) → (fresh_rule b k f e).answer ≡ (Ok tt) → (fresh_rule b k f e).after ≡ fresh_buffer k f e b
unfolding fresh_rule
fresh-leaves k f e b a = (fresh-accepted k f e b a).leaves

-- an accepted fresh leaves a sound index without pairs
pub fresh_is : (b : List ℕ) (k f : ℕ) (e : List ℕ) → All (λ x. x < 256) b → (fresh_rule b k f e).answer ≡ (Ok tt) → FreshIs k f e b
unfolding fresh_checks
fresh_is b k f e octets a =
    let held = (fresh-accepted k f e b a).held in
    let told = both (expression_good e) (features_good f) held.1.0 in
    fresh_is_sound k f e b (record {
      key = held.0;
      expression = told.0;
      told = told.1;
      room = leb-true min_bytes (length b) held.1.1.0;
      plain = octets_plain b octets;
    })

-- Theorem: demand 3, over both features. After an accepted fresh, which is told the features, the book begins without pairs, since a fresh index is sound and
-- has none
pub demand_3 : (b : List ℕ) (k f : ℕ) (e : List ℕ) → All (λ x. x < 256) b → (fresh_rule b k f e).answer ≡ (Ok tt) → (calls : Calls)
    → All FourBytes calls
    → BookKept k f [] calls (fresh_rule b k f e).after
demand_3 b k f e octets a calls o =
    let i = fresh_is b k f e octets a in
    let empty : leaf_pairs (fresh_buffer k f e b) i.sound ≡ [] = ap held i.index in
    let kept : BookKept (key_length (fresh_buffer k f e b)) (features (fresh_buffer k f e b)) (leaf_pairs (fresh_buffer k f e b) i.sound) calls
    (fresh_buffer k f e b) = sound-kept (fresh_buffer k f e b) i.plain i.sound calls o in
    rw (fresh-leaves k f e b a) (rw (empty, i.key_is, i.features_are) at kept)
