-- Laws: what the answers of insertion and removal are said by: a pair among the leaves' pairs, the cases of 24 and 27, and `Sound` in place of the audit's
-- test. Cited by `InsertionAnswers` and `RemovalAnswers`. Assumes nothing.
use Rattle.std.specs.Prelude.{ℕ, zero, suc, ◌^◌, ◌<◌, ◌≡◌, refl, Bool, true, false, ◌&&◌, List, [], ◌∷◌, ◌↔◌, ◌⊎◌, eqb, length}
use Rattle.std.proofs.Common.{sym, ◌∙◌, subst, inl, inr, ⊎_elim, eqb-true}
use Rattle.std.proofs.lemmas.Bool.{eqb-false}
use Rattle.basis.specs.Tests.{either, contra, both, join}
use Rattle.octets.specs.Order.{bytes_le}
use Rattle.octets.specs.OrderLaws.{le_refl, le_antisym}
use Rattle.tree.specs.Keeping.{pair_order}
use Rattle.tree.proofs.KeepingOf.{repeated_keys}
use Rattle.tree.proofs.KeepingLaws.{pair_refl}
use Rattle.tree.specs.Pairs.{by_key, by_record, has}
use Rattle.tree.proofs.RecordOrder.{by_record-same}
use Rattle.idx_page.specs.Header.{key_length, features, header_good}
use Rattle.idx_page.specs.KeyOrder.{bytes_order}
use Rattle.idx_sound.specs.Sound.{Sound}
use Rattle.idx_sound.specs.AuditTest.{pages_good}
use Rattle.idx_sound.proofs.Accepted.{accepted as audit-accepts}
use Rattle.idx_path.specs.Room.{path_to}
use Rattle.idx_insert_laws.specs.RoomLaws.{present_is}
use Rattle.idx_book.specs.Book.{Pairs, leaf_pairs}
use Rattle.idx_path.specs.Presence.{is_there}
use Rattle.idx_remove_laws.specs.ThereLaws.{there_is}

-- ---- tests

-- A if the test holds, else B
unfoldable pub whether : Bool → Type 0 → Type 0 → Type 0
whether true A B = A
whether false A B = B

-- a test that cannot hold fails
pub fails : (t : Bool) → (t ≡ true → ⊥) → t ≡ false
fails true n = absurd (n refl)
fails false n = refl

-- ---- a pair among pairs

-- one of the pairs has the key
abbrev pub HasKey : List ℕ → Pairs → Type 0
HasKey key [] = ⊥
HasKey key (e ∷ es) = (e.0 ≡ key) ⊎ HasKey key es

-- one of the pairs is the very pair
abbrev pub HasVery : List ℕ → ℕ → Pairs → Type 0
HasVery key r [] = ⊥
HasVery key r (e ∷ es) = (e ≡ (key, r)) ⊎ HasVery key r es

-- a pair is among pairs, by a header's features: for 0 "the very pair", for 1 "it goes by the key"
abbrev pub HasPair : ℕ → List ℕ → ℕ → Pairs → Type 0
HasPair zero key r es = HasVery key r es
HasPair (suc n) key r es = HasKey key es

-- a list of pairs has something under a key exactly when one of its pairs has the key
has_key : (key : List ℕ) (r : ℕ) (es : Pairs) → has (by_key bytes_order) (key, r) es ≡ true → HasKey key es
has_key key r [] e = contra e refl
has_key key r (x ∷ es) e = either (bytes_le key x.0 && bytes_le x.0 key)
    (λ t. let u = both (bytes_le key x.0) (bytes_le x.0 key) t in inl (le_antisym x.0 key u.1 u.0))
    (λ t. inr (has_key key r es (rw t at e)))

key_has : (key : List ℕ) (r : ℕ) (es : Pairs) → HasKey key es → has (by_key bytes_order) (key, r) es ≡ true
key_has key r [] h = absurd h
key_has key r (x ∷ es) h = either (bytes_le key x.0 && bytes_le x.0 key)
    (λ t. rw t)
    (λ t. ⊎_elim (λ q. contra (rw q (join _ _ (le_refl key) (le_refl key))) t) (λ m. rw t (key_has key r es m)) h)

-- and it has a pair exactly when one of its pairs is that pair
has_very : (key : List ℕ) (r : ℕ) (es : Pairs) → has (by_record bytes_order) (key, r) es ≡ true → HasVery key r es
has_very key r [] e = contra e refl
has_very key r (x ∷ es) e = either (by_record bytes_order (key, r) x && by_record bytes_order x (key, r))
    (λ t.
    let u = both (by_record bytes_order (key, r) x) (by_record bytes_order x (key, r)) t in
    inl (by_record-same bytes_order x (key, r) u.1 u.0))
    (λ t. inr (has_very key r es (rw t at e)))

very_has : (key : List ℕ) (r : ℕ) (es : Pairs) → HasVery key r es → has (by_record bytes_order) (key, r) es ≡ true
very_has key r [] h = absurd h
very_has key r (x ∷ es) h =
    let same : by_record bytes_order (key, r) (key, r) ≡ true = pair_refl (repeated_keys bytes_order) (key, r) in
    either (by_record bytes_order (key, r) x && by_record bytes_order x (key, r))
    (λ t. rw t)
    (λ t. ⊎_elim
    (λ q. contra (subst (λ (y : List ℕ × ℕ). (by_record bytes_order (key, r) y && by_record bytes_order y (key, r)) ≡ true) (sym q) (join _ _ same same)) t)
    (λ m. rw t (very_has key r es m)) h)

-- a test that is the list's own holds exactly when the pair is among the pairs
exactly : (f : ℕ) {t : Bool} (key : List ℕ) (r : ℕ) (es : Pairs) → t ≡ has (pair_order bytes_order f) (key, r) es → (t ≡ true) ↔ HasPair f key r es
exactly zero key r es same = ((λ e. has_very key r es (sym same ∙ e)), (λ h. same ∙ very_has key r es h))
exactly (suc n) key r es same = ((λ e. has_key key r es (sym same ∙ e)), (λ h. same ∙ key_has key r es h))

-- a key of k bytes with a record number of four
module _ (b key : List ℕ) (r : ℕ) (fits : length key ≡ key_length b) (r32 : r < 2 ^ 32) where
  -- Theorem: the leaf on the path of a pair has it in a sound index exactly when it is among the leaves' pairs
  pub leaf-exactly : (s : Sound b) → ((path_to (key_length b) b key r).present ≡ true) ↔ HasPair (features b) key r (leaf_pairs b s)
  leaf-exactly s = exactly (features b) key r (leaf_pairs b s) (present_is b key r s fits r32)

  -- Theorem: and so does removal's walk
  pub there-exactly : (s : Sound b) → (is_there (key_length b) b key r ≡ true) ↔ HasPair (features b) key r (leaf_pairs b s)
  there-exactly s = exactly (features b) key r (leaf_pairs b s) (there_is b key r s fits r32)

  -- the leaves' pairs are the same, however the index is known to be sound
  pub same-pairs : (s s' : Sound b) → HasPair (features b) key r (leaf_pairs b s) → HasPair (features b) key r (leaf_pairs b s')
  same-pairs s s' h = (leaf-exactly s').0 ((leaf-exactly s).1 h)

-- ---- 24, 27 and 25

-- 24: the header is not good
pub record BadHeader (b : List ℕ) : Type 0 where
  pub header : header_good b ≡ false

-- 27: the header is good, and the key does not have k bytes
pub record WrongLength (b key : List ℕ) : Type 0 where
  pub header : header_good b ≡ true
  pub other : length key ≡ key_length b → ⊥

-- every call is 24, 27 or neither
pub by_length : {X : Type 0} (b key : List ℕ) → (BadHeader b → X) → (WrongLength b key → X)
    → (header_good b ≡ true → length key ≡ key_length b → X) → X
by_length b key f24 f27 go = either (header_good b)
    (λ h. either (eqb (length key) (key_length b))
    (λ l. go h (eqb-true (length key) (key_length b) l))
    (λ l. f27 (record { header = h; other = eqb-false (length key) (key_length b) l })))
    (λ h. f24 (record { header = h }))

-- every index with a good header is sound or not
pub by_audit : {X : Type 0} (b : List ℕ) → header_good b ≡ true → ((Sound b → ⊥) → X) → (Sound b → X) → X
by_audit b h f25 go = either (pages_good b) (λ p. go ((audit-accepts b h).0 p)) (λ p. f25 (λ s. contra ((audit-accepts b h).1 s) p))

-- what the audit's test says of a sound index, and of one that is not
pub pages-good : (b : List ℕ) → Sound b → pages_good b ≡ true
pages-good b s = (audit-accepts b s.header).1 s

pub pages-bad : (b : List ℕ) → header_good b ≡ true → (Sound b → ⊥) → pages_good b ≡ false
pages-bad b h n = fails (pages_good b) (λ p. n ((audit-accepts b h).0 p))
