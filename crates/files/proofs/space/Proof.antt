-- `files::space` has the length that its contract says. The law on a list of equal elements gives it, so that the prover computes none of the bytes.
-- Assumes nothing.
use Prim.Native.Nat.{ℕ}
use mathlib.Core.Path.{sym}
use lib.ListN.{length-replicate}
use Rattle.files.proofs.space.Statement.{statement}
use Rattle.files.proofs.space.Tie as tie

returns : tie.Need-returns
returns c = sym (length-replicate {0} {A = ℕ} 1048576 0)

pub space_spec : {M : Type 1} → statement M
space_spec = tie.close (tie.spec returns)
