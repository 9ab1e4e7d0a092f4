-- Laws: what each answer of removal says, in the "order 24, 27, 25 by full audit, then 33". The rule computes with the audit's test and with the leaf on the
-- pair's route; here `Sound` and the leaves' pairs stand in their place. The laws themselves stand in `proofs/RemovalAnswers`: they are for readers of the
-- rule.
use Rattle.std.specs.Prelude.{ℕ, ◌≡◌, true, List, ◌↔◌, length, Err, Ok}
use Rattle.refusal.specs.After.{Change}
use Rattle.idx_page.specs.Header.{key_length, features, header_good}
use Rattle.idx_sound.specs.Sound.{Sound}
use Rattle.idx_book.specs.Book.{leaf_pairs}
use Rattle.idx_book.specs.CaseLaws.{HasPair}
use Rattle.idx_book.specs.CaseLaws.{BadHeader, WrongLength}

-- 25: the header is good, the key has k bytes, and the index is not sound
pub record Unsound (b key : List ℕ) : Type 0 where
  pub header : header_good b ≡ true
  pub fits : length key ≡ key_length b
  pub unsound : Sound b → ⊥

-- 33: the index is sound, the key has k bytes, and the pair, for features 1 the key, is not among the leaves' pairs
pub record Absent (b key : List ℕ) (r : ℕ) : Type 0 where
  pub sound : Sound b
  pub fits : length key ≡ key_length b
  pub absent : HasPair (features b) key r (leaf_pairs b sound) → ⊥

-- accepted: the index is sound, the key has k bytes, and the pair, for features 1 the key, is among the leaves' pairs
pub record Held (b key : List ℕ) (r : ℕ) : Type 0 where
  pub sound : Sound b
  pub fits : length key ≡ key_length b
  pub there : HasPair (features b) key r (leaf_pairs b sound)

-- the answer a to a removal of a key: each of the five answers is given exactly when
pub record RemovalSays (b key : List ℕ) (r : ℕ) (a : Change) : Type 0 where
  pub refused_24 : (a ≡ Err 24) ↔ BadHeader b
  pub refused_27 : (a ≡ Err 27) ↔ WrongLength b key
  pub refused_25 : (a ≡ Err 25) ↔ Unsound b key
  pub refused_33 : (a ≡ Err 33) ↔ Absent b key r
  pub accepted : (a ≡ (Ok tt)) ↔ Held b key r
