-- `upper_entries`: an entry whose key is a ceiling hands on to the next, another decides.
use Rattle.std.proofs.Common.{refl}
use Rattle.idx_keys.specs.EntryLaws.{entries-within}
use Rattle.idx_ceilings.specs.CeilingLaws.{upper-start, upper-end, upper_off, upper-on}
use Rattle.idx_ceilings.proofs.upper_entries.Goals as goal

pub loop-i-init : goal.loop-i-init
loop-i-init c = upper-start _ _ _ _ _ _ _ c.entry_count-count.ensures

pub upper_entry-requires-clause-within : goal.upper_entry-requires-clause-within
upper_entry-requires-clause-within c = entries-within _ _ _ _ _ c.entry_count-count.ensures c.args.file.now.inside

pub returns-in_err-exact : goal.returns-in_err-exact
returns-in_err-exact c =
    rw c.from_residual.ensures (upper_off _ _ _ _ _ _ _ _ _ c.loop-i.invariant c.loop-i-test.true _ c.in_err-exact.ensures refl)

pub loop-i-preserved : goal.loop-i-preserved
loop-i-preserved c = upper-on _ _ _ _ _ _ _ _ _ c.loop-i.invariant c.loop-i-test.true _ c.in_ok-exact.ensures refl

pub returns : goal.returns
returns c = upper-end _ _ _ _ _ _ _ _ _ c.loop-i.invariant c.loop-i-test.false
