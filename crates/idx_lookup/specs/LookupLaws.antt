-- Laws: a step of lookup, and the steps by the header's features. Cited by the proofs of this crate's functions. Assumes nothing.
use Rattle.std.specs.Prelude.{ℕ, zero, suc, ◌≡◌, refl, true, false, List, eqb, Err}
use Rattle.std.proofs.Common.{arith, eq-eqb, ne_eqb}
use Rattle.basis.specs.Tests.{contra}
use Rattle.idx_page.specs.Header.{max_levels, root_offset}
use Rattle.idx_lookup.specs.Lookup.{lookup_from, lookup_steps}
use Rattle.idx_lookup.specs.FirstRecord.{first_from}

-- no level is left
pub lookup_end : (b key : List ℕ) (p : ℕ) → lookup_from 0 b key p ≡ Err 25
unfolding lookup_from
lookup_end b key p = refl

-- the steps by the header's features
module _ (b key : List ℕ) where
  pub steps_record : (f : ℕ) → eqb f 0 ≡ true → lookup_steps f b key ≡ first_from max_levels b key (root_offset b)
  steps_record zero t = refl
  steps_record (suc n) t = contra t (ne_eqb (suc n) 0 (λ q. omega arith))

  pub steps-key : (f : ℕ) → eqb f 0 ≡ false → lookup_steps f b key ≡ lookup_from max_levels b key (root_offset b)
  steps-key zero t = contra (eq-eqb 0 0 refl) t
  steps-key (suc n) t = refl
