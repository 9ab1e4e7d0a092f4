-- Laws: the loops over the entries of a leaf and over the leaves, by what is left to do; and what is stored in all. Assumes nothing.
use Rattle.std.specs.Prelude.{ℕ, zero, suc, ◌+◌, ◌-◌, ◌≤◌, ◌<◌, ◌≡◌, refl, true, false, ◌&&◌, length, set, ltb}
use Rattle.std.proofs.Common.{sym, ◌∙◌, arith, length-set, lt-ltb, le-ltb}
use Rattle.std.proofs.Math.Path.{ap}
use mathlib.Core.List.{List, [], ◌∷◌, ◌++◌}
use Rattle.basis.specs.Tests.{either}
use Rattle.octets.specs.Order.{ordering, is_equal, bytes_le}
use Rattle.octets.specs.OrderLaws.{le_total}
use Rattle.octets.specs.Store.{put}
use Rattle.octets.specs.StoreLaws.{put-none, put_one, put_append}
use Rattle.tree.specs.Lists.{concat_map}
use Rattle.tree.specs.Pairs.{records_of}
use Rattle.idx_page.specs.Header.{is_page}
use Rattle.idx_page.specs.Page.{right_at}
use Rattle.idx_page.specs.KeyOrder.{bytes_order}
use Rattle.idx_page.specs.Reading.{entries_at}
use Rattle.idx_page.specs.Reading.{entries_from}
use Rattle.idx_page.proofs.ReadingLaws.{entries_are, length-entries-from}
use Rattle.idx_sound.specs.AuditTest.{Entries, max_pages, chain}
use Rattle.idx_keys.specs.EntryLaws.{from_on, from_end}
use Rattle.idx_keys.specs.FileLaws.{chain-none, chain-some}
use Rattle.idx_match.specs.MatchTest.{entry_at, entries_along}
use Rattle.idx_records.specs.Gather.{Gathered, gather, kept, stored, taken, gathered}

-- ---- one number, one entry

pub kept_past : (room at number : ℕ) (list : List ℕ) → room ≤ at → list ≡ kept room at number list
kept_past room at number list h = rw (le-ltb at room h)

pub kept_here : (room at number : ℕ) (list : List ℕ) → at < room → set list at number ≡ kept room at number list
kept_here room at number list h = rw (lt-ltb at room h)

module _ (key : List ℕ) (room : ℕ) (e : List ℕ × ℕ) (at : ℕ) (list : List ℕ) where
  pub taken-other : is_equal (ordering e.0 key) ≡ false → taken key room e (gather at list) ≡ gather at list
  unfolding taken
  taken-other h = rw h

  pub taken-equal : (n : ℕ) (out : List ℕ) → is_equal (ordering e.0 key) ≡ true → n ≡ e.1 → out ≡ kept room at n list
      → taken key room e (gather at list) ≡ gather (at + 1) out
  unfolding taken
  taken-equal n out h en q = rw (h, q, en)

-- the place moves by one at most, and the list stays as long
taken-small : (key : List ℕ) (room : ℕ) (e : List ℕ × ℕ) (g : Gathered)
    → (g.at ≤ (taken key room e g).at) × ((taken key room e g).at ≤ g.at + 1) × (length (taken key room e g).list ≡ length g.list)
unfolding taken
taken-small key room e g = either (is_equal (ordering e.0 key))
    (λ h. rw h (omega arith, omega arith, either (ltb g.at room) (λ t. rw t (length-set g.list g.at e.1)) (λ t. rw t)))
    (λ h. rw h (omega arith, omega arith, refl))

pub taken_at : (key : List ℕ) (room : ℕ) (e : List ℕ × ℕ) (at : ℕ) (list : List ℕ) (r : ℕ) (out : List ℕ) → taken key room e (gather at list) ≡ gather r out
    → (r ≤ at + 1) × (length out ≡ length list)
taken_at key room e at list r out q =
    let s = taken-small key room e (gather at list) in
    (rw (ap (λ g. g.at) q) at s.1, rw (ap (λ g. g.list) q) at s.2)

-- ---- the entries of a leaf

-- the entries from i on are left
abbrev pub EntriesLeft : List ℕ → List ℕ → ℕ → ℕ → ℕ → ℕ → List ℕ → ℕ → ℕ → List ℕ → Type 0
EntriesLeft b key p n room from list₀ i at list =
    gathered key room (entries_from b (length key) p n 0) (gather from list₀)
    ≡ gathered key room (entries_from b (length key) p (n - i) i) (gather at list)

module _ (b key : List ℕ) (p n room from : ℕ) (list₀ : List ℕ) (i at : ℕ) (list : List ℕ) (inv : EntriesLeft b key p n room from list₀ i at list) where
  pub entries-end : n ≤ i → gathered key room (entries_from b (length key) p n 0) (gather from list₀) ≡ gather at list
  unfolding gathered
  entries-end h = inv ∙ rw (from_end b (length key) p n i h)

  pub entries-on : i < n → (r : ℕ) (out : List ℕ) → taken key room (entry_at b (length key) p i) (gather at list) ≡ gather r out
      → EntriesLeft b key p n room from list₀ (i + 1) r out
  unfolding gathered
  entries-on h r out q =
      inv
      ∙ ap (λ (es : Entries). gathered key room es (gather at list)) (from_on b (length key) p n i h)
      ∙ ap (gathered key room (entries_from b (length key) p (n - (i + 1)) (i + 1))) q

-- ---- the leaves

gathered_append : (key : List ℕ) (room : ℕ) (xs ys : Entries) (g : Gathered) → gathered key room (xs ++ ys) g ≡ gathered key room ys (gathered key room xs g)
unfolding gathered
gathered_append key room [] ys g = refl
gathered_append key room (x ∷ xs) ys g = gathered_append key room xs ys (taken key room x g)

-- entries move the place by their number at most, and the list stays as long
gathered-small : (key : List ℕ) (room : ℕ) (es : Entries) (g : Gathered)
    → ((gathered key room es g).at ≤ g.at + length es) × (length (gathered key room es g).list ≡ length g.list)
unfolding gathered
gathered-small key room [] g = (omega arith, refl)
gathered-small key room (e ∷ es) g =
    let s = taken-small key room e g in
    let t = gathered-small key room es (taken key room e g) in
    (omega (arith, s.1, t.0), t.1 ∙ s.2)

gathered-at : (key : List ℕ) (room : ℕ) (es : Entries) (at : ℕ) (list : List ℕ) (r : ℕ) (out : List ℕ) → gathered key room es (gather at list) ≡ gather r out
    → (r ≤ at + length es) × (length out ≡ length list)
gathered-at key room es at list r out q =
    let s = gathered-small key room es (gather at list) in
    (rw (ap (λ g. g.at) q) at s.0, rw (ap (λ g. g.list) q) at s.1)

pub leaf-at : (b key : List ℕ) (p n room at : ℕ) (list : List ℕ) (r : ℕ) (out : List ℕ)
    → gathered key room (entries_from b (length key) p n 0) (gather at list) ≡ gather r out → (r ≤ at + n) × (length out ≡ length list)
leaf-at b key p n room at list r out q =
    rw (length-entries-from b (length key) p n 0) at (gathered-at key room (entries_from b (length key) p n 0) at list r out q)

chain-end : (b : List ℕ) (size p left : ℕ) → left ≤ 0 → chain b size left p ≡ []
unfolding chain
chain-end b size p zero h = refl
chain-end b size p (suc left) h = absurd (omega arith)

-- the leaves from the page p on are left, with `left` pages
abbrev pub LeavesLeft : List ℕ → List ℕ → ℕ → ℕ → ℕ → List ℕ → ℕ → ℕ → List ℕ → ℕ → Type 0
LeavesLeft b key size first room list₀ p at list left =
    gathered key room (entries_along b (length key) size max_pages first) (gather 0 list₀)
    ≡ gathered key room (entries_along b (length key) size left p) (gather at list)

module _ (b key : List ℕ) (size first room : ℕ) (list₀ : List ℕ) (p at : ℕ) (list : List ℕ) (left : ℕ)
    (inv : LeavesLeft b key size first room list₀ p at list left) where
  none-left : chain b size left p ≡ [] → gathered key room (entries_along b (length key) size max_pages first) (gather 0 list₀) ≡ gather at list
  unfolding gathered
  none-left e = inv ∙ ap (λ (ps : List ℕ). gathered key room (concat_map (entries_at (length key) size b) ps) (gather at list)) e

  pub leaves-end : left ≤ 0 → gathered key room (entries_along b (length key) size max_pages first) (gather 0 list₀) ≡ gather at list
  leaves-end h = none-left (chain-end b size p left h)

  pub leaves-none : is_page size p ≡ false → gathered key room (entries_along b (length key) size max_pages first) (gather 0 list₀) ≡ gather at list
  leaves-none e = none-left (chain-none b (length key) size 0 p left e)

  pub leaves-on : (n r : ℕ) (out : List ℕ) (q next : ℕ) → 0 < left → next ≡ left - 1 → is_page size p ≡ true → n ≡ length (entries_at (length key) size b p)
      → gathered key room (entries_from b (length key) p n 0) (gather at list) ≡ gather r out → q ≡ right_at b p
      → LeavesLeft b key size first room list₀ q r out next
  leaves-on n r out q next more less page en er eq =
      let along : entries_along b (length key) size left p ≡ entries_at (length key) size b p ++ entries_along b (length key) size (left - 1) q =
      ap (concat_map (entries_at (length key) size b)) (chain-some b (length key) size 0 p left q (omega (arith, more)) page eq) in
      rw less (inv
      ∙ ap (λ (es : Entries). gathered key room es (gather at list)) along
      ∙ gathered_append key room (entries_at (length key) size b p) (entries_along b (length key) size (left - 1) q) (gather at list)
      ∙ ap (gathered key room (entries_along b (length key) size (left - 1) q)) (rw (entries_are b (length key) size p n en) er))

-- ---- what is stored in all

-- equal byte strings are at or below each other
equal-both : (x key : List ℕ) → is_equal (ordering x key) ≡ (bytes_le key x && bytes_le x key)
unfolding ordering
equal-both x key = either (bytes_le x key)
    (λ p. either (bytes_le key x) (λ q. rw (p, q)) (λ q. rw (p, q)))
    (λ p. rw (p, le_total x key p))

pub gathered-records : (key : List ℕ) (room : ℕ) (es : Entries) (at : ℕ) (list : List ℕ)
    → gathered key room es (gather at list) ≡ gather (at + length (records_of bytes_order key es)) (stored room at (records_of bytes_order key es) list)
unfolding gathered taken stored
gathered-records key room [] at list = let e : at + 0 ≡ at = omega arith in rw e
gathered-records key room (e ∷ es) at list =
    let rs = records_of bytes_order key es in
    either (bytes_le key e.0 && bytes_le e.0 key)
    (λ t.
    let moved : at + 1 + length rs ≡ at + suc (length rs) = omega arith in
    rw (equal-both e.0 key, t) (gathered-records key room es (at + 1) (kept room at e.1 list)
    ∙ ap (λ (n : ℕ). gather n (stored room (at + 1) rs (kept room at e.1 list))) moved))
    (λ t. rw (equal-both e.0 key, t) (gathered-records key room es at list))

pub stored-none : (at : ℕ) (rs list : List ℕ) → stored 0 at rs list ≡ list
unfolding stored
stored-none at [] list = refl
stored-none at (r ∷ rs) list = rw (le-ltb at 0 (omega arith)) (stored-none (at + 1) rs list)

pub stored-all : (room at : ℕ) (rs list : List ℕ) → at + length rs ≤ room → stored room at rs list ≡ put list at rs
unfolding stored
stored-all room at [] list h = sym (put-none list at)
stored-all room at (r ∷ rs) list h =
    rw (lt-ltb at room (omega arith))
    (stored-all room (at + 1) rs (set list at r) (omega arith)
    ∙ ap (λ (l : List ℕ). put l (at + 1) rs) (sym (put_one list at r))
    ∙ sym (put_append list at (r ∷ []) rs))
