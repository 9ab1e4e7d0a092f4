-- Each turn stores one byte more.
use Rattle.std.proofs.Common.{sym, ◌∙◌, refl, arith, length-set, length, ◌≤◌}
use Rattle.std.proofs.Math.Seq.{take_all}
use Rattle.octets.specs.StoreLaws.{put-none, put_take}
use Rattle.octets.proofs.copy_in.Goals as goal

pub loop-j-init : goal.loop-j-init
loop-j-init c = record { size = refl; stored = sym (put-none _ _) }

pub loop-j-preserved : goal.loop-j-preserved
loop-j-preserved c = record {
  size = simp length-set c.loop-j.invariant.size;
  stored = rw c.loop-j.invariant.stored (put_take _ _ _ _ c.loop-j-test.true);
}

pub returns : goal.returns
returns c =
    let all : length c.args.src.now ≤ c.loop-j.j = omega arith in
    c.loop-j.invariant.stored ∙ rw take_all
