-- Rules: the number of the interface.
use Rattle.std.specs.Prelude.{ℕ}

-- the number that a host compares before its first call; every change of a call's form raises it
abbrev pub interface_number : ℕ
interface_number = 4
