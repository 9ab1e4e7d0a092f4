-- Laws: one call of insertion, lookup or removal on a buffer that holds a sound index is the theory's call on that index, and keeps it sound. Cited by
-- `BookLaws`. Assumes nothing.
use Rattle.std.specs.Prelude.{ℕ, ◌-◌, ◌/◌, ◌^◌, ◌<◌, min, ◌≡◌, refl, Bool, true, false, cond, not, List, [], ◌∷◌, eqb, length, replicate, Err, Ok, Some, None}
use Rattle.std.proofs.Common.{sym, ap₂, ◌∙◌, subst, arith, eqb-true}
use Rattle.std.proofs.Math.Path.{ap}
use Rattle.std.proofs.Math.Option.{Option, none, some}
use Rattle.std.proofs.lemmas.List.{length-replicate}
use Rattle.basis.specs.Tests.{either, contra, impossible}
use Rattle.refusal.specs.Checks.{unless}
use Rattle.refusal.specs.After.{made_unless}
use Rattle.refusal.specs.AfterLaws.{made-either}
use Rattle.tree.specs.Book.{Call, insertion, removal_of, lookup_of, accepted, absent, refused_if, found_or_absent, is_accepted, book_answer}
use Rattle.tree.specs.Index.{Index, held, Setting, out_of_room, no_room_for as noRoomTo, answer, inserted, removed, next}
use Rattle.tree.specs.FreeChain.{chain_from}
use Rattle.tree.proofs.FreeChainLaws.{chained-read}
use Rattle.tree.proofs.IndexLaws.{accepted_acceptable}
use Rattle.tree.proofs.IndexPages.{free-distinct, no_page-unused}
use Rattle.tree.specs.Lists.{count_if, occ}
use Rattle.tree.specs.LookupFirst.{lookup_by, visited_by}
use Rattle.tree.proofs.LookupLaws.{visited_by-found}
use Rattle.tree.proofs.PageCount.{pages-at-most}
use Rattle.tree.specs.Pairs.{has}
use Rattle.tree.proofs.KeepingOf.{keeping_of}
use Rattle.tree.proofs.SoundIndex.{SoundIndex}
use Rattle.idx_page.specs.Header.{max_bytes, page_size, no_page, free_pointer, file_size, key_length, features, header_good}
use Rattle.idx_page.specs.HeaderLaws.{IsPage, is-page, good-header}
use Rattle.idx_page.specs.KeyOrder.{bytes_order}
use Rattle.idx_page.specs.Page.{right_at}
use Rattle.idx_page.specs.declared.RecordNumber.{RecordNumber}
use Rattle.idx_lookup.specs.Lookup.{lookup_rule, answer_pages}
use Rattle.idx_lookup.specs.Answer.{Answer as Looked}
use Rattle.idx_lookup.specs.Answer as looked
use Rattle.idx_lookup.specs.AnswerLaws.{absent-found}
use Rattle.idx_lookup_laws.specs.FoundLaws.{answer_of}
use Rattle.idx_lookup_laws.specs.HeldLaws.{goes_on_lem, lookup-by}
use Rattle.idx_sound.proofs.Accepted.{accepted as audit-accepts}
use Rattle.idx_sound.specs.Sound.{index_tree, kept_by, Sound, leaf_pairs}
use Rattle.idx_sound.specs.AuditTest.{pages_good}
use Rattle.idx_sound.proofs.IndexLaws.{index_of, setting_of, sound-index, once-page}
use Rattle.idx_insert.specs.Calls.{has_control, insert_checks, insert_rule}
use Rattle.idx_insert_page.specs.Insertion.{inserted_buffer}
use Rattle.idx_path.specs.Room.{path_to, no_room}
use Rattle.idx_insert_laws.specs.InsertionHeads.{Plain}
use Rattle.idx_insert_laws.specs.RoomLaws.{sound-levels, present_is, room_is}
use Rattle.idx_insert_laws.proofs.InsertionSound.{Accepts, insert-keeps-sound}
use Rattle.idx_remove.specs.Calls.{remove_checks, remove_rule}
use Rattle.idx_path.specs.Presence.{is_there}
use Rattle.idx_remove_page.specs.Removal.{removed_buffer}
use Rattle.idx_remove_laws.specs.RemovalSound.{Strikes, remove-keeps-sound}
use Rattle.idx_remove_laws.specs.ThereLaws.{there_is}
use Rattle.idx_book.specs.Book.{change_answer, lookup_answer, answer_to, buffer_after, no_room_for, fits, barcodes}
use Rattle.idx_book.specs.Book.{FourBytes, VisitsLevels, LeavesBuffer}

-- what each call keeps of a buffer of `size` bytes, for keys of k bytes and the features f
pub record Kept (k f size : ℕ) (b : List ℕ) : Type 0 where
  pub sound : Sound b
  pub key_is : key_length b ≡ k
  pub features_are : features b ≡ f
  pub as_long : length b ≡ size
  pub plain : Plain b

-- the levels below the root, read from the bytes: those of the path to any key of k bytes
unfoldable pub height_in : List ℕ → ℕ
height_in b = (path_to (key_length b) b (replicate (key_length b) 0) 0).levels - 1

height-is : (b : List ℕ) (s : Sound b) → height_in b ≡ s.height
unfolding height_in
height-is b s = omega (arith, sound-levels b (replicate (key_length b) 0) 0 s (length-replicate (key_length b) 0) (omega arith))

-- the free list, read from the bytes: at most as many pages of it as the file has
unfoldable pub free_in : List ℕ → List ℕ
free_in b = chain_from no_page (right_at b) (file_size b / page_size) (free_pointer b)

free_is : (b : List ℕ) (s : Sound b) → free_in b ≡ s.free
unfolding free_in
free_is b s =
    let g = good-header b s.header in
    let i : Index (List ℕ) = index_of b s.height s.free in
    let once = (sound-index b s (file_size b) (omega arith)).pages_once in
    let inside : (z : ℕ) → 0 < occ z s.free → IsPage (file_size b) z = λ z o. is-page (file_size b) z (once-page i once z (omega arith)) in
    chained-read no_page (right_at b) (file_size b / page_size) (free_pointer b) s.free (omega (arith, no_page-unused i once))
    (pages-at-most (file_size b / page_size) s.free (free-distinct i once)
    (λ z o. let p = inside z o in (omega (arith, p.high, g.whole), p.whole)))
    s.free_list

-- the index that a buffer reads as
abbrev pub read_index : List ℕ → Index (List ℕ)
read_index b = index_of b (height_in b) (free_in b)

pub read_is : (b : List ℕ) (s : Sound b) → read_index b ≡ index_of b s.height s.free
read_is b s = ap₂ (index_of b) (height-is b s) (free_is b s)

-- the setting in which the theory keeps an index of the features f and key length k in a buffer of `size` bytes
abbrev pub keeping : ℕ → ℕ → ℕ → Setting (List ℕ)
keeping f k size = setting_of f k (min size max_bytes)

-- on a sound index insertion's checks are the book's; b'' is the buffer after an accepted insertion
insert_book : (b b'' : List ℕ) (fit control zero there full : Bool)
    → change_answer (made_unless
    ((true, 24) ∷ (fit, 27) ∷ (not control, 32) ∷ (not zero, 28) ∷ (true, 25) ∷ (not there, 29) ∷ (not full, 30) ∷ []) b'' b).answer
    ≡ refused_if (not fit) 27 (refused_if control 32 (refused_if zero 28 (refused_if there 29 (refused_if full 30 accepted))))
unfolding made_unless unless
insert_book b b'' false control zero there full = refl
insert_book b b'' true true zero there full = refl
insert_book b b'' true false true there full = refl
insert_book b b'' true false false true full = refl
insert_book b b'' true false false false true = refl
insert_book b b'' true false false false false = refl

-- and so are removal's
remove_book : (b b'' : List ℕ) (fit there : Bool)
    → change_answer (made_unless ((true, 24) ∷ (fit, 27) ∷ (true, 25) ∷ (there, 33) ∷ []) b'' b).answer
    ≡ refused_if (not fit) 27 (refused_if (not there) 33 accepted)
unfolding made_unless unless
remove_book b b'' false there = refl
remove_book b b'' true false = refl
remove_book b b'' true true = refl

-- a refusal leaves the buffer as it was
left_by_checks : (made b : List ℕ) (checks : List (Bool × ℕ))
    → (made_unless checks made b).after ≡ cond (is_accepted (change_answer (made_unless checks made b).answer)) made b
left_by_checks made b checks = made-either made b checks (λ e. rw e) (λ n e. rw e)

-- Theorem: an insertion or a removal leaves the buffer that the papers' steps make, or leaves it as it was
pub leaves-buffer : (c : Call (List ℕ)) (b : List ℕ) → LeavesBuffer c b
unfolding insert_rule remove_rule
leaves-buffer (insertion key r) b = left_by_checks (inserted_buffer (key_length b) b key r) b (insert_checks b key r)
leaves-buffer (removal_of key r) b = left_by_checks (removed_buffer (key_length b) b key r) b (remove_checks b key r)
leaves-buffer (lookup_of key) b = tt

-- an accepted removal's key fits and is there
accepted-striking : (fit there : Bool) → is_accepted (refused_if (not fit) 27 (refused_if (not there) 33 accepted)) ≡ true → (fit ≡ true) × (there ≡ true)
accepted-striking false there e = contra e refl
accepted-striking true false e = contra e refl
accepted-striking true true e = (refl, refl)

-- lookup's answer, by the record that was found
answer_reply : (o : Option ℕ) (n : ℕ) → lookup_answer (answer_of o n) ≡ found_or_absent o
answer_reply none n = refl
answer_reply (some r) n = refl

-- the record that was found, by lookup's answer
found_record : Looked → Option ℕ
found_record (Ok outcome) = elim outcome.found [ Some r ↦ some r.0 | None ↦ none ]
found_record (Err n) = none

answer-record : (o : Option ℕ) (n : ℕ) (r : RecordNumber) (m : ℕ) → answer_of o n ≡ looked.found r m → o ≡ some r.0
unfolding found_record
answer-record none n r m e = ap found_record e
answer-record (some x) n r m e = ap found_record e

-- the pages that an answer has, by lookup's answer
answer-pages : (o : Option ℕ) (n : ℕ) (r : RecordNumber) (m : ℕ) → answer_of o n ≡ looked.found r m → n ≡ m
answer-pages none n r m e = absent-found n r m e
answer-pages (some x) n r m e = ap (λ (a : Looked). answer_pages a 0) e

one_more : (t : Bool) → count_if t ≡ cond t 1 0
one_more true = refl
one_more false = refl

module _ (k f size : ℕ) (b : List ℕ) (kept : Kept k f size b) where
  abbrev s : Sound b
  s = kept.sound

  -- the setting by the buffer's own features
  abbrev own : Setting (List ℕ)
  own = keeping (features b) k size

  -- the theory's index in this buffer, and that it is sound there
  same_index : read_index b ≡ index_of b s.height s.free
  same_index = read_is b s

  pub kept-sound : SoundIndex (keeping f k size) (read_index b)
  kept-sound =
      let g = good-header b s.header in
      let i = sound-index b s (min size max_bytes) (omega (arith, g.within, g.most, kept.as_long)) in
      subst (λ (n : ℕ). SoundIndex (keeping n k size) (read_index b)) kept.features_are
      (subst (SoundIndex own) (sym same_index)
      (subst (λ (n : ℕ). SoundIndex (setting_of (features b) n (min size max_bytes)) (index_of b s.height s.free)) kept.key_is i))

  same-fit : (key : List ℕ) → eqb (length key) (key_length b) ≡ fits k key
  same-fit key = ap (eqb (length key)) kept.key_is

  long-key : (key : List ℕ) → fits k key ≡ true → length key ≡ key_length b
  long-key key t = eqb-true (length key) (key_length b) (same-fit key ∙ t)

  -- lookup
  found_is : (key : List ℕ) → fits k key ≡ true → let h = height_in b in let T = index_tree b (height_in b) in
      lookup_rule b key ≡ answer_of (lookup_by (kept_by b) key h T) (length (visited_by (kept_by b) key h T))
  found_is key t = subst (λ (h : ℕ). lookup_rule b key
      ≡ answer_of (lookup_by (kept_by b) key h (index_tree b h)) (length (visited_by (kept_by b) key h (index_tree b h)))) (sym (height-is b s))
      (lookup-by b key s (long-key key t))

  misfit : (key : List ℕ) → fits k key ≡ false → lookup_rule b key ≡ Err 27
  unfolding lookup_rule unless
  misfit key t = rw (s.header, same-fit key ∙ t)

  lookup-answers : (key : List ℕ) → answer_to (lookup_of key) b ≡ answer own (barcodes k) (lookup_of key) (read_index b)
  lookup-answers key = either (fits k key)
      (λ t. rw (found_is key t, t) (answer_reply (lookup_by (kept_by b) key (height_in b) (index_tree b (height_in b))) _))
      (λ t. rw (misfit key t, t))

  -- Theorem: a lookup that finds its key has visited as many pages as the index has levels, or for features 0 one more
  pub visits-levels : (c : Call (List ℕ)) → VisitsLevels c b
  visits-levels (insertion key r) = tt
  visits-levels (removal_of key r) = tt
  visits-levels (lookup_of key) = λ s' r pages e. either (fits k key)
      (λ t.
      let Q = kept_by b in
      let h = s'.height in
      let T = index_tree b s'.height in
      let is = sym (lookup-by b key s' (long-key key t)) ∙ e in
      let there = answer-record (lookup_by Q key h T) (length (visited_by Q key h T)) r pages is in
      let many = answer-pages (lookup_by Q key h T) (length (visited_by Q key h T)) r pages is in
      let v = visited_by-found Q key h T r.0 there in
      let more : count_if Q.goes_on ≡ cond (eqb (features b) 0) 1 0 = ap count_if (goes_on_lem (features b)) ∙ one_more (eqb (features b) 0) in
      (omega (arith, v.0, many), omega (arith, v.1, many, more)))
      (λ t. let other : Err 27 ≡ looked.found r pages = sym (misfit key t) ∙ e in impossible (cc))

  -- a pair of a key of k bytes and a record number of four
  module _ (key : List ℕ) (r : ℕ) (r32 : r < 2 ^ 32) (t : fits k key ≡ true) where
    same-room : no_room b (path_to (key_length b) b key r) ≡ out_of_room own (key, r) (read_index b)
    same-room =
        room_is b key r s (long-key key t) r32
        ∙ ap (λ (n : ℕ). out_of_room (setting_of (features b) n (min (length b) max_bytes)) (key, r) (index_of b s.height s.free)) kept.key_is
        ∙ ap (λ (n : ℕ). out_of_room (keeping (features b) k n) (key, r) (index_of b s.height s.free)) kept.as_long
        ∙ ap (out_of_room own (key, r)) (sym same_index)

    same-present : (path_to (key_length b) b key r).present ≡ has (kept_by b).pair_le (key, r) (held (read_index b))
    same-present =
        present_is b key r s (long-key key t) r32 ∙ ap (λ (i : Index (List ℕ)). has (kept_by b).pair_le (key, r) (held i)) (sym same_index)

    same-there : is_there (key_length b) b key r ≡ has (kept_by b).pair_le (key, r) (held (read_index b))
    same-there =
        there_is b key r s (long-key key t) r32 ∙ ap (λ (i : Index (List ℕ)). has (kept_by b).pair_le (key, r) (held i)) (sym same_index)

  insert-answers : (key : List ℕ) (r : ℕ) → r < 2 ^ 32 → answer_to (insertion key r) b ≡ answer own (barcodes k) (insertion key r) (read_index b)
  unfolding insert_rule insert_checks
  insert-answers key r r32 =
      rw (s.header, (audit-accepts b s.header).1 s)
      (insert_book b (inserted_buffer (key_length b) b key r) (eqb (length key) (key_length b)) (has_control key) (eqb r 0)
      (path_to (key_length b) b key r).present (no_room b (path_to (key_length b) b key r))
      ∙ either (fits k key)
      (λ t. rw (same-fit key, t, same-room key r r32 t, same-present key r r32 t))
      (λ t. rw (same-fit key, t)))

  -- removal
  remove-answers : (key : List ℕ) (r : ℕ) → r < 2 ^ 32 → answer_to (removal_of key r) b ≡ answer own (barcodes k) (removal_of key r) (read_index b)
  unfolding remove_rule remove_checks
  remove-answers key r r32 =
      rw (s.header, (audit-accepts b s.header).1 s)
      (remove_book b (removed_buffer (key_length b) b key r) (eqb (length key) (key_length b)) (is_there (key_length b) b key r)
      ∙ either (fits k key) (λ t. rw (same-fit key, t, same-there key r r32 t)) (λ t. rw (same-fit key, t)))

  own-answer : (c : Call (List ℕ)) → FourBytes c → answer_to c b ≡ answer own (barcodes k) c (read_index b)
  own-answer (insertion key r) o = insert-answers key r o
  own-answer (removal_of key r) o = remove-answers key r o
  own-answer (lookup_of key) o = lookup-answers key

  -- Theorem: each call answers as the theory's call does
  pub same_answer : (c : Call (List ℕ)) → FourBytes c → answer_to c b ≡ answer (keeping f k size) (barcodes k) c (read_index b)
  same_answer c o = subst (λ (n : ℕ). answer_to c b ≡ answer (keeping n k size) (barcodes k) c (read_index b)) kept.features_are (own-answer c o)

  -- a refused insertion
  stays : (key : List ℕ) (r : ℕ) → is_accepted (answer_to (insertion key r) b) ≡ false → buffer_after (insertion key r) b ≡ b
  stays key r e = leaves-buffer (insertion key r) b ∙ rw e

  -- an accepted insertion
  module _ (key : List ℕ) (r : ℕ) (r32 : r < 2 ^ 32) (e : is_accepted (answer_to (insertion key r) b) ≡ true) where
    accepts : Accepts b key r
    accepts =
        let a = accepted_acceptable (fits k key) (has_control key) r (has (kept_by b).pair_le (key, r) (held (read_index b)))
        (out_of_room own (key, r) (read_index b))
        (ap is_accepted (sym (insert-answers key r r32)) ∙ e) in
        record {
          sound = s;
          plain = kept.plain;
          long = eqb-true (length key) k a.fitting ∙ sym kept.key_is;
          positive = a.positive;
          r32 = r32;
          absent = ap (λ (i : Index (List ℕ)). has (kept_by b).pair_le (key, r) (held i)) (sym same_index) ∙ a.new;
          room = same-room key r r32 a.fitting ∙ a.room;
        }

    after : buffer_after (insertion key r) b ≡ inserted_buffer (key_length b) b key r
    after = leaves-buffer (insertion key r) b ∙ rw e

    kept-inserted : Kept k f size (inserted_buffer (key_length b) b key r)
    kept-inserted =
        let i = insert-keeps-sound b key r accepts in
        record {
          sound = i.sound;
          key_is = i.key_is ∙ kept.key_is;
          features_are = i.features_are ∙ kept.features_are;
          as_long = i.as_long ∙ kept.as_long;
          plain = i.plain;
        }

    next-inserted : read_index (inserted_buffer (key_length b) b key r) ≡ inserted own (key, r) (read_index b)
    unfolding accepts
    next-inserted =
        let i = insert-keeps-sound b key r accepts in
        read_is (inserted_buffer (key_length b) b key r) i.sound ∙ i.index
        ∙ ap (λ (n : ℕ). inserted (setting_of (features b) n (min (length b) max_bytes)) (key, r) (index_of b s.height s.free)) kept.key_is
        ∙ ap (λ (n : ℕ). inserted (keeping (features b) k n) (key, r) (index_of b s.height s.free)) kept.as_long
        ∙ ap (inserted own (key, r)) (sym same_index)

  -- a refused removal
  stays-struck : (key : List ℕ) (r : ℕ) → is_accepted (answer_to (removal_of key r) b) ≡ false → buffer_after (removal_of key r) b ≡ b
  stays-struck key r e = leaves-buffer (removal_of key r) b ∙ rw e

  -- an accepted removal
  module _ (key : List ℕ) (r : ℕ) (r32 : r < 2 ^ 32) (e : is_accepted (answer_to (removal_of key r) b) ≡ true) where
    struck-tests : (fits k key ≡ true) × (has (kept_by b).pair_le (key, r) (held (read_index b)) ≡ true)
    struck-tests =
        accepted-striking (fits k key) (has (kept_by b).pair_le (key, r) (held (read_index b))) (ap is_accepted (sym (remove-answers key r r32)) ∙ e)

    strikes : Strikes b key r
    strikes = record {
      sound = s;
      plain = kept.plain;
      long = long-key key struck-tests.0;
      r32 = r32;
      there = ap (λ (i : Index (List ℕ)). has (kept_by b).pair_le (key, r) (held i)) (sym same_index) ∙ struck-tests.1;
    }

    after-struck : buffer_after (removal_of key r) b ≡ removed_buffer (key_length b) b key r
    after-struck = leaves-buffer (removal_of key r) b ∙ rw e

    kept-removed : Kept k f size (removed_buffer (key_length b) b key r)
    kept-removed =
        let i = remove-keeps-sound b key r strikes in
        record {
          sound = i.sound;
          key_is = i.key_is ∙ kept.key_is;
          features_are = i.features_are ∙ kept.features_are;
          as_long = i.as_long ∙ kept.as_long;
          plain = i.plain;
        }

    next-removed : read_index (removed_buffer (key_length b) b key r) ≡ removed own (key, r) (read_index b)
    unfolding strikes
    next-removed =
        let i = remove-keeps-sound b key r strikes in
        read_is (removed_buffer (key_length b) b key r) i.sound ∙ i.index (min size max_bytes)
        ∙ ap (λ (n : ℕ). removed (setting_of (features b) n (min size max_bytes)) (key, r) (index_of b s.height s.free)) kept.key_is
        ∙ ap (removed own (key, r)) (sym same_index)

  -- Theorem: 30 by the rule on the bytes is 30 by the theory's rule, for a key of k bytes; the book does not look at it for other keys
  pub fit_rule : (key : List ℕ) (r : ℕ) → r < 2 ^ 32 → fits k key ≡ true
      → no_room_for (insertion key r) b ≡ out_of_room (keeping f k size) (key, r) (read_index b)
  fit_rule key r r32 t =
      subst (λ (n : ℕ). no_room_for (insertion key r) b ≡ out_of_room (keeping n k size) (key, r) (read_index b)) kept.features_are (same-room key r r32 t)

  pub same_rule : (c : Call (List ℕ)) → FourBytes c → let book = held (read_index b) in
      book_answer (keeping_of bytes_order f) (barcodes k) c (no_room_for c b) book
      ≡ book_answer (keeping_of bytes_order f) (barcodes k) c (noRoomTo (keeping f k size) c (read_index b)) book
  same_rule (insertion key r) o = either (fits k key)
      (λ t. ap (λ (full : Bool). book_answer (keeping_of bytes_order f) (barcodes k) (insertion key r) full (held (read_index b))) (fit_rule key r o t))
      (λ t. rw t)
  same_rule (removal_of key r) o = refl
  same_rule (lookup_of key) o = refl

  -- Theorem: each call keeps what `Kept` says, and the index after it is the theory's
  pub keeps : (c : Call (List ℕ)) → FourBytes c → Kept k f size (buffer_after c b)
  keeps (insertion key r) r32 = either (is_accepted (answer_to (insertion key r) b))
      (λ e. rw (after key r r32 e) (kept-inserted key r r32 e))
      (λ e. rw (stays key r e) kept)
  keeps (removal_of key r) r32 = either (is_accepted (answer_to (removal_of key r) b))
      (λ e. rw (after-struck key r r32 e) (kept-removed key r r32 e))
      (λ e. rw (stays-struck key r e) kept)
  keeps (lookup_of key) o = kept

  own-next : (c : Call (List ℕ)) → FourBytes c → read_index (buffer_after c b) ≡ next own (barcodes k) c (read_index b)
  own-next (insertion key r) r32 =
      let q : is_accepted (answer_to (insertion key r) b) ≡ is_accepted (answer own (barcodes k) (insertion key r) (read_index b)) =
      ap is_accepted (insert-answers key r r32) in
      either (is_accepted (answer_to (insertion key r) b))
      (λ e. ap read_index (after key r r32 e) ∙ next-inserted key r r32 e ∙ rw (sym q ∙ e))
      (λ e. ap read_index (stays key r e) ∙ rw (sym q ∙ e))
  own-next (removal_of key r) r32 =
      let q : is_accepted (answer_to (removal_of key r) b) ≡ is_accepted (answer own (barcodes k) (removal_of key r) (read_index b)) =
      ap is_accepted (remove-answers key r r32) in
      either (is_accepted (answer_to (removal_of key r) b))
      (λ e. ap read_index (after-struck key r r32 e) ∙ next-removed key r r32 e ∙ rw (sym q ∙ e))
      (λ e. ap read_index (stays-struck key r e) ∙ rw (sym q ∙ e))
  own-next (lookup_of key) o = refl

  pub same_next : (c : Call (List ℕ)) → FourBytes c → read_index (buffer_after c b) ≡ next (keeping f k size) (barcodes k) c (read_index b)
  same_next c o = subst (λ (n : ℕ). read_index (buffer_after c b) ≡ next (keeping n k size) (barcodes k) c (read_index b)) kept.features_are (own-next c o)
