-- Laws: pages are reused: the file never shrinks, and if at most m pairs are held at a time it stays below a size that depends on m alone; a key that is struck
-- off and put in again is found. They stand beside demand 3, on buffers. Assumes nothing.
use Rattle.std.specs.Prelude.{ℕ, zero, suc, ◌+◌, ◌*◌, ◌^◌, ◌≤◌, ◌<◌, ◌≡◌, refl, false, length, Ok}
use Rattle.std.proofs.Common.{sym, ap, ◌∙◌, arith}
use mathlib.Core.List.{List, [], ◌∷◌}
use Rattle.basis.specs.Lists.{All}
use Rattle.tree.specs.Book.{Call, insertion, removal_of, lookup_of, accepted, found, is_accepted, final_of}
use Rattle.tree.proofs.Book.Theorem.{HoldsAtMost, list-bounded, list-grows}
use Rattle.tree.specs.Index.{held, fresh, out_of_room, answer, next}
use Rattle.idx_page.specs.KeyOrder.{bytes_order}
use Rattle.tree.proofs.IndexLaws.{accepted_strikable}
use Rattle.tree.proofs.KeepingOf.{keeping_of, distinct_keys}
use Rattle.tree.proofs.KeepingLaws.{same_key}
use Rattle.tree.specs.Pairs.{has}
use Rattle.tree.proofs.ReuseLaws.{fresh-bounded, again-found}
use Rattle.idx_page.specs.Header.{max_levels, page_size, file_size, key_length, features, good_features}
use Rattle.idx_page.specs.Page.{capacity}
use Rattle.idx_sound.specs.Sound.{Sound}
use Rattle.idx_insert.specs.Calls.{has_control}
use Rattle.idx_insert.specs.Fresh.{fresh_buffer, fresh_rule}
use Rattle.idx_insert_laws.specs.InsertionHeads.{octets_plain}
use Rattle.idx_insert_laws.specs.FreshLaws.{FreshIs}
use Rattle.idx_book.specs.Book.{Calls, answer_to, buffer_after, no_room_for, fits, barcodes, FourBytes, buffer_at, book_at}
use Rattle.idx_book.proofs.CallLaws.{Kept, read_index, read_is, keeping, kept-sound, same_answer, fit_rule, keeps, same_next}
use Rattle.idx_book.proofs.BookLaws.{rule_for, own-pairs, header-two, fresh_is, fresh-leaves, demand_3}

module _ (k f size : ℕ) (two : 1 < capacity k) where
  grows : (calls : Calls) → All FourBytes calls → (b : List ℕ) → Kept k f size b → file_size b ≤ file_size (final_of buffer_after calls b)
  grows = list-grows (keeping f k size) two (barcodes k) read_index answer_to buffer_after (rule_for k f size two) (Kept k f size) FourBytes
      (λ b i. kept-sound k f size b i) (λ c b o i. keeps k f size b i c o) (λ c b o i. same_answer k f size b i c o)
      (λ c b o i. same_next k f size b i c o) (λ c b o i. refl)

  -- the theory's count of pairs, from the pairs after the first n calls for each n
  AtMost : ℕ → Calls → List ℕ → Type 0
  AtMost = HoldsAtMost (keeping f k size) two (barcodes k) read_index answer_to buffer_after (rule_for k f size two) (Kept k f size) FourBytes
      (λ b i. kept-sound k f size b i) (λ c b o i. keeps k f size b i c o) (λ c b o i. same_answer k f size b i c o)
      (λ c b o i. same_next k f size b i c o) (λ c b o i. refl)

  at_most : (m : ℕ) (calls : Calls) (b : List ℕ) → ((n : ℕ) → length (held (read_index (buffer_at n calls b))) ≤ m) → AtMost m calls b
  unfolding AtMost
  at_most m [] b few = few 0
  at_most m (c ∷ calls) b few = (few 0, at_most m calls (buffer_after c b) (λ n. few (suc n)))

  bounded : (calls : Calls) → All FourBytes calls → (b : List ℕ) → Kept k f size b → (m : ℕ) → 0 < m
      → ((n : ℕ) → length (held (read_index (buffer_at n calls b))) ≤ m)
      → file_size b ≤ page_size * suc (max_levels * m) → file_size (final_of buffer_after calls b) ≤ page_size * suc (max_levels * m)
  unfolding AtMost
  bounded calls o b kept m pos few small =
      list-bounded (keeping f k size) two (barcodes k) read_index answer_to buffer_after (rule_for k f size two) (Kept k f size) FourBytes
      (λ b i. kept-sound k f size b i) (λ c b o i. keeps k f size b i c o) (λ c b o i. same_answer k f size b i c o)
      (λ c b o i. same_next k f size b i c o) (λ c b o i. refl) calls o b kept m pos (at_most m calls b few) small

-- Theorem: a list of calls on a buffer that holds a sound index does not make F smaller
pub never_shrinks : (b : List ℕ) → All (λ x. x < 256) b → Sound b → (calls : Calls) → All FourBytes calls
    → file_size b ≤ file_size (final_of buffer_after calls b)
never_shrinks b octets s calls o =
    grows (key_length b) (features b) (length b) (header-two b s.header) calls o b
    (record { sound = s; key_is = refl; features_are = refl; as_long = refl; plain = octets_plain b octets })

-- Theorem: pages are reused. If the book never has more than m pairs, F is at most 512 · (1 + 15 · m), however long the list of calls is
pub pages_reused : (b : List ℕ) (k f : ℕ) (e : List ℕ) → All (λ x. x < 256) b → (fresh_rule b k f e).answer ≡ (Ok tt) → (calls : Calls)
    → All FourBytes calls → (m : ℕ) → 0 < m → ((n : ℕ) → length (book_at k f [] n calls (fresh_rule b k f e).after) ≤ m)
    → file_size (final_of buffer_after calls (fresh_rule b k f e).after) ≤ page_size * suc (max_levels * m)
pages_reused b k f e octets a calls o m pos few =
    let i = fresh_is b k f e octets a in
    let b₀ = fresh_buffer k f e b in
    let kept : Kept k f (length b₀) b₀ = record { sound = i.sound; key_is = i.key_is; features_are = i.features_are; as_long = refl; plain = i.plain } in
    let leaves = fresh-leaves k f e b a in
    let few₀ : (n : ℕ) → length (book_at k f [] n calls b₀) ≤ m = rw leaves at few in
    let claim = rw leaves at (demand_3 b k f e octets a calls o) in
    let size : file_size b₀ ≡ (fresh {K = List ℕ}).size = ap (λ i. i.size) i.index in
    rw leaves
    (bounded k f (length b₀) (rw i.key_is at (header-two b₀ i.sound.header)) calls o b₀ kept m pos
    (λ n. let h = claim.index n in
    rw (own-pairs (buffer_at n calls b₀) h.sound ∙ h.leaves) (few₀ n))
    (rw size (fresh-bounded (keeping f k (length b₀)) m pos (omega arith))))

-- Theorem: for features 1 a key that is struck off and put in again, if it has no control byte and there is room, is found with its new record number
pub again : (b : List ℕ) → All (λ x. x < 256) b → (s : Sound b) → features b ≡ good_features → (key : List ℕ) (q r : ℕ) → q < 2 ^ 32
    → answer_to (removal_of key q) b ≡ accepted → has_control key ≡ false
    → 0 < r → r < 2 ^ 32 → no_room_for (insertion key r) (buffer_after (removal_of key q) b) ≡ false
    → answer_to (lookup_of key) (buffer_after (insertion key r) (buffer_after (removal_of key q) b)) ≡ found r
again b octets s one key q r q32 struck allowed pos r32 room =
    let k = key_length b in
    let f = good_features in
    let size = length b in
    let b₁ = buffer_after (removal_of key q) b in
    let b₂ = buffer_after (insertion key r) b₁ in
    let kept : Kept k f size b = record { sound = s; key_is = refl; features_are = one; as_long = refl; plain = octets_plain b octets } in
    let kept₁ : Kept k f size b₁ = keeps k f size b kept (removal_of key q) q32 in
    let kept₂ : Kept k f size b₂ = keeps k f size b₁ kept₁ (insertion key r) r32 in
    let first = same_next k f size b kept (removal_of key q) q32 in
    let second = same_next k f size b₁ kept₁ (insertion key r) r32 in
    let can = accepted_strikable (fits k key) (has (keeping_of bytes_order f).pair_le (key, q) (held (read_index b)))
    (ap is_accepted (sym (same_answer k f size b kept (removal_of key q) q32) ∙ struck)) in
    same_answer k f size b₂ kept₂ (lookup_of key) tt
    ∙ ap (answer (keeping f k size) (barcodes k) (lookup_of key)) (second ∙ ap (next (keeping f k size) (barcodes k) (insertion key r)) first)
    ∙ again-found (keeping f k size) (barcodes k) (header-two b s.header) (read_index b) (kept-sound k f size b kept) key q
    (sym (same_answer k f size b kept (removal_of key q) q32) ∙ struck) allowed r (same_key (distinct_keys bytes_order) (λ x y. refl) key q r) pos
    (ap (λ i. out_of_room (keeping f k size) (key, r) i) (sym first) ∙ sym (fit_rule k f size b₁ kept₁ key r r32 can.fitting) ∙ room) (λ x y. refl)
