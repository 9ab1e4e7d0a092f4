-- The digits from `i` on are stored, and `rest` is the number without them.
use Rattle.std.proofs.Common.{◌≡◌, ◌+◌, ◌-◌, ◌/◌, ◌^◌, ◌≤◌}
use Rattle.octets.specs.Store.{put}
use Rattle.octets.specs.Text.{last_digits}
use Rattle.numeral_write.proofs.put_digits.Given as goal

abbrev pub invariant-loop-i : goal.invariant-loop-i
invariant-loop-i l =
    (l.at ≤ l.i)
    × (l.rest ≡ l.n / 10 ^ (l.at + l.count - l.i))
    × (l.text ≡ put l.fn.text l.i (last_digits (l.at + l.count - l.i) l.n))
