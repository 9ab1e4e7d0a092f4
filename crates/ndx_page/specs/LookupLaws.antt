-- Laws: a lookup with no level left. Assumes nothing.
use Rattle.std.specs.Prelude.{ℕ, ◌≡◌, refl, List, Err}
use Rattle.ndx_page.specs.Lookup.{lookup_from}

pub lookup_end : (b key : List ℕ) (p : ℕ) → lookup_from 0 b key p ≡ Err 25
unfolding lookup_from
lookup_end b key p = refl
