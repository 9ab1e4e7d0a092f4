-- What is left to take from the supply that is left comes to the rule's supply.
use Rattle.std.proofs.Common.{◌≡◌, ◌-◌}
use Rattle.idx_supply.specs.Given.{Lasts}
use Rattle.idx_supply.specs.Supply.{supply_after}
use Rattle.idx_supply.proofs.supply_after.Given as goal

abbrev pub invariant-loop : goal.invariant-loop
invariant-loop l = Lasts (l.count - l.counter) l.rest × (supply_after l.count l.index l.initial.rest ≡ supply_after (l.count - l.counter) l.index l.rest)
