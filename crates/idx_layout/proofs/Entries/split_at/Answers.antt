-- The parts hold the first `n` entries and the others, since each entry has as many bytes.
use Rattle.idx_layout.specs.WriteLaws.{first-items, rest-items, rest-length}
use Rattle.idx_layout.proofs.Entries.split_at.Goals as goal

pub invariant_of-result-2 : goal.invariant_of-result-2
invariant_of-result-2 c = record { whole = cc (rest-length c.args.self.k c.args.n c.args.self.count c.args.self.bytes.now c.requires.1 c.args.self.whole) }

pub returns-clause-first : goal.returns-clause-first
returns-clause-first c = cc (first-items c.args.self.k c.args.n c.args.self.count c.args.self.bytes.now c.requires.1 c.args.self.whole)

pub returns-clause-rest : goal.returns-clause-rest
returns-clause-rest c = cc (rest-items c.args.self.k c.args.n c.args.self.count c.args.self.bytes.now c.requires.1 c.args.self.whole)
