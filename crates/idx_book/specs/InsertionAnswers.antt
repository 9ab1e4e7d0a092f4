-- Laws: what each answer of insertion says, in the order "24, 27, 28, 25 by full audit, 29 if the key is in a leaf, 30", with 32 "after 27 and before 28";
-- for features 0 "29 means the very pair is present". The rule computes with the audit's test and with the pair's path; here `Sound` and the leaves' pairs
-- stand in their place. The laws themselves stand in `proofs/InsertionAnswers`: they are for readers of the rule.
use Rattle.std.specs.Prelude.{ℕ, ◌<◌, ◌≡◌, true, false, List, ◌↔◌, length, Err, Ok}
use Rattle.refusal.specs.After.{Change}
use Rattle.idx_page.specs.Header.{key_length, features, header_good}
use Rattle.idx_sound.specs.Sound.{Sound}
use Rattle.idx_insert.specs.Calls.{has_control}
use Rattle.idx_path.specs.Room.{path_to, no_room}
use Rattle.idx_book.specs.Book.{leaf_pairs}
use Rattle.idx_book.specs.CaseLaws.{HasPair, BadHeader, WrongLength}

-- 32: the key has k bytes, and one of them is below 0x20
pub record ControlByte (b key : List ℕ) : Type 0 where
  pub header : header_good b ≡ true
  pub fits : length key ≡ key_length b
  pub control : has_control key ≡ true

-- 28: the key has k bytes, none below 0x20, and the record number is 0
pub record NoNumber (b key : List ℕ) (r : ℕ) : Type 0 where
  pub header : header_good b ≡ true
  pub fits : length key ≡ key_length b
  pub clean : has_control key ≡ false
  pub zero : r ≡ 0

-- none of these: the header is good, the key has k bytes, none below 0x20, and the record number is above 0
pub record Asked (b key : List ℕ) (r : ℕ) : Type 0 where
  pub header : header_good b ≡ true
  pub fits : length key ≡ key_length b
  pub clean : has_control key ≡ false
  pub number : 0 < r

-- 25: and the index is not sound
pub record Unsound (b key : List ℕ) (r : ℕ) : Type 0 where
  pub asked : Asked b key r
  pub unsound : Sound b → ⊥

-- 29: the index is sound, and the pair, for features 1 the key, is among its leaves' pairs
pub record Present (b key : List ℕ) (r : ℕ) : Type 0 where
  pub asked : Asked b key r
  pub sound : Sound b
  pub there : HasPair (features b) key r (leaf_pairs b sound)

-- neither: the index is sound, and the pair, for features 1 the key, is not among its leaves' pairs
pub record New (b key : List ℕ) (r : ℕ) : Type 0 where
  pub asked : Asked b key r
  pub sound : Sound b
  pub absent : HasPair (features b) key r (leaf_pairs b sound) → ⊥

-- 30: and there is no room for the new pages or levels
pub record Full (b key : List ℕ) (r : ℕ) : Type 0 where
  pub new : New b key r
  pub full : no_room b (path_to (key_length b) b key r) ≡ true

-- accepted: and there is
pub record Fitting (b key : List ℕ) (r : ℕ) : Type 0 where
  pub new : New b key r
  pub room : no_room b (path_to (key_length b) b key r) ≡ false

-- the answer a to an insertion of a key with the record number r: each of the eight answers is given exactly when
pub record InsertionSays (b key : List ℕ) (r : ℕ) (a : Change) : Type 0 where
  pub refused_24 : (a ≡ Err 24) ↔ BadHeader b
  pub refused_27 : (a ≡ Err 27) ↔ WrongLength b key
  pub refused_32 : (a ≡ Err 32) ↔ ControlByte b key
  pub refused_28 : (a ≡ Err 28) ↔ NoNumber b key r
  pub refused_25 : (a ≡ Err 25) ↔ Unsound b key r
  pub refused_29 : (a ≡ Err 29) ↔ Present b key r
  pub refused_30 : (a ≡ Err 30) ↔ Full b key r
  pub accepted : (a ≡ (Ok tt)) ↔ Fitting b key r
