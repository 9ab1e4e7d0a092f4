-- `dilution::volumes_of` meets its contract: the sample is at most the final volume. Assumes nothing.
use Prim.Native.Nat.{◌≤◌}
use native.Mathlib.Omega.{arith}
use Rattle.dilution.specs.Dilution.{volumes_of}
use Rattle.dilution.specs.VolumeLaws.{sample-most}
use borrow.Author.Rules.{rules}
use Rattle.dilution.proofs.volumes_of.Statement.{statement}
use Rattle.dilution.proofs.volumes_of.Tie as tie

at_most : (c : tie.After-sample_of-volume) → c.sample_of-volume.result ≤ c.args.final_volume
at_most c =
    let start = c.before in
    rw c.sample_of-volume.ensures (sample-most start.args.concentration start.args.target start.args.final_volume start.requires.0 start.requires.1)

sample-of-requires : tie.Need-sample_of-volume-requires
sample-of-requires c κs = search rules

cast-sample : tie.Need-overflow_cast-sample
cast-sample c = record { fits = omega (arith, at_most c, c.requires.3) }

sub-diluent : tie.Need-overflow_sub-diluent
sub-diluent c = at_most c

cast-diluent : tie.Need-overflow_cast-diluent
cast-diluent c = search rules

returns : tie.Need-returns
unfolding volumes_of
returns c = rw c.sample_of-volume.ensures

pub volumes_of_spec : {M : Type 1} → statement M
volumes_of_spec =
    tie.close (tie.spec sample-of-requires cast-sample sub-diluent cast-diluent returns)
