-- The name, zeros and the three bytes among them are one store.
use Rattle.std.proofs.Common.{◌≡◌, length, rules}
use Rattle.dbf_create.specs.LayingLaws.{field_put}
use Rattle.dbf_create.proofs.write_field.Goals as goal

pub returns-clause-written : goal.returns-clause-written
returns-clause-written c =
    let eleven : length c.args.entry.name ≡ 11 = search rules in
    field_put _ _ _ _ _ eleven c.copy_in.ensures c.fill.ensures
