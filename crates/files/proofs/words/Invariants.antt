-- The loop of `files::words`: each length that was read is at most a room's, and the count stays.
use Rattle.std.proofs.Common.{◌≡◌, ◌≤◌, All}
use Rattle.files.proofs.words.Given as goal

abbrev pub invariant-loop-i : goal.invariant-loop-i
invariant-loop-i g l = (l.line.count ≡ l.initial.line.count) × All (λ n. n ≤ 4096) l.line.lengths
