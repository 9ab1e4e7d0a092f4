-- The part that is written, in its place, is a store.
use Rattle.std.proofs.Common.{sym, arith, length-take, length-drop, ◌≡◌, ◌≤◌, ◌-◌, length, take, drop}
use Rattle.std.proofs.lemmas.List.{length-replicate}
use Rattle.std.proofs.Math.Seq.{take_all}
use Rattle.octets.proofs.Words.{part_put}
use Rattle.octets.proofs.fill.Goals as goal

pub returns : goal.returns
returns c =
    let args = c.args in
    let part : length (take (args.to - args.from) (drop args.from args.buf.now)) ≡ args.to - args.from = simp (length-take, length-drop) (omega arith) in
    let all : length c.loop-byte.byte-items ≤ c.loop-byte.byte-index = omega arith in
    let n : c.loop-byte.byte-index ≡ args.to - args.from = omega arith in
    let whole : take c.loop-byte.byte-index c.loop-byte.byte-items ≡ c.loop-byte.byte-items = rw take_all in
    rw (sym whole, c.loop-byte.invariant, n) (part_put _ _ _ _ (omega arith) (length-replicate _ _))
