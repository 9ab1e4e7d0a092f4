-- Rules: what `gl_dilute` hands to C: the answer's number, and the two volumes. "An out-parameter keeps what it held whenever the answer is not 0".
use Rattle.std.specs.Prelude.{ℕ, Err, Ok}
use Rattle.dilution.specs.Dilution.{dilution_code}
use Rattle.dilution.specs.declared.Volumes.{Volumes}
use Rattle.dilution.specs.Dilution.{Dilution}
use Rattle.handed.specs.Out.{Out, out}

-- "0 sets both"
abbrev pub volumes_held : Dilution → Volumes → Volumes
volumes_held (Ok v) old = v
volumes_held (Err n) old = old

unfoldable pub volumes_out : Dilution → Volumes → Out Volumes
volumes_out answer old = out (dilution_code answer) (volumes_held answer old)
