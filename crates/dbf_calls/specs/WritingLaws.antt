-- Laws: what the proofs of the calls that write a table cite of their answers, and that an out-parameter keeps what it held if the answer is not 0.
-- Assumes nothing.
use Rattle.std.specs.Prelude.{ℕ, ◌≡◌, refl, List, Ok, Err}
use Rattle.refusal.specs.After.{After, left}
use Rattle.dbf_append.specs.Append.{Answer}
use Rattle.dbf_append.specs.Extent.{Extent}
use Rattle.handed.specs.Out.{out}
use Rattle.dbf_append.specs.declared.Appended.{Appended}
use Rattle.dbf_calls.specs.Writing.{Stores, written, append_told, append_out, extent_out}

module _ (d : After Answer) (old : Stores) where
  pub append_refused : (after : List ℕ) (n : ℕ) → d ≡ left after (Err n) → append_out d old ≡ out n (written after old)
  unfolding append_out
  append_refused after n e = rw e

  pub append_accepted : (after : List ℕ) (done : Appended) → d ≡ left after (Ok done)
      → append_out d old ≡ out 0 (written after (record { first = done.first; second = done.second }))
  unfolding append_out
  append_accepted after done e = rw e

told-kept : (answer : Answer) (after : List ℕ) (old : Stores) → ((append_told answer after old).answer ≡ 0 → ⊥) → (append_told answer after old).held.told ≡ old
told-kept (Ok done) after old some = absurd (some refl)
told-kept (Err n) after old some = refl

pub append_kept : (d : After Answer) (old : Stores) → ((append_out d old).answer ≡ 0 → ⊥) → (append_out d old).held.told ≡ old
unfolding append_out
append_kept d old some = told-kept d.answer d.after old some

module _ (rule : Extent) (old : ℕ) where
  pub extent-refused : (n : ℕ) → rule ≡ Err n → extent_out rule old ≡ out n old
  unfolding extent_out
  extent-refused n e = rw e

  pub extent-accepted : (length : ℕ) → rule ≡ Ok length → extent_out rule old ≡ out 0 length
  unfolding extent_out
  extent-accepted length e = rw e

pub extent-kept : (extent : Extent) (old : ℕ) → ((extent_out extent old).answer ≡ 0 → ⊥) → (extent_out extent old).held ≡ old
unfolding extent_out
extent-kept (Ok length) old some = absurd (some refl)
extent-kept (Err n) old some = refl
