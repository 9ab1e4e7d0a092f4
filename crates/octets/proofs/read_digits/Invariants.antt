-- The text says what its characters from the loop's place on say behind `number`, which has at most as many digits as were read.
use Rattle.std.proofs.Common.{◌≡◌, ◌<◌, ◌^◌, drop}
use Rattle.octets.specs.Text.{digits_of}
use Rattle.octets.specs.TextLaws.{digits_from}
use Rattle.octets.proofs.read_digits.Given as goal

abbrev pub invariant-loop-c : goal.invariant-loop-c
invariant-loop-c l = (digits_of l.text ≡ digits_from l.number (drop l.c-index l.text)) × (l.number < 10 ^ l.c-index)
