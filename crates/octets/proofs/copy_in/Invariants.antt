-- The first `j` bytes of the source are stored.
use Rattle.std.proofs.Common.{◌≡◌, length, take}
use Rattle.octets.specs.Store.{put}
use Rattle.octets.proofs.copy_in.Given as goal

abbrev pub invariant-loop-j : goal.invariant-loop-j
invariant-loop-j l = record { size : length l.buf ≡ length l.initial.buf; stored : l.buf ≡ put l.initial.buf l.at (take l.j l.src) }
