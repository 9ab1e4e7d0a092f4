-- The entries' bytes lie between the offsets of entry `first` and of entry `end`.
use Rattle.std.proofs.Common.{◌+◌, ◌-◌, ◌*◌, ◌≡◌, arith, length-take, length-drop}
use Rattle.idx_entries.proofs.GatherLaws.{run, part-window}
use Rattle.idx_entries.proofs.entries_between.Goals as goal

pub slice_bounds-result-count : goal.slice_bounds-result-count
slice_bounds-result-count c = let r = run c.requires.0 c.requires.1 in omega arith

pub slice_bounds-result-start : goal.slice_bounds-result-start
slice_bounds-result-start c = let r = run c.requires.0 c.requires.1 in omega arith

pub slice_bounds-result-end : goal.slice_bounds-result-end
slice_bounds-result-end c = let r = run c.requires.0 c.requires.1 in omega arith

pub returns-clause-value : goal.returns-clause-value
returns-clause-value c =
    let r = run c.requires.0 c.requires.1 in
    let e : c.entry_offset-2.result ≡ c.entry_offset.result + (c.args.end - c.args.first) * (c.args.k + 4) = omega arith in
    rw (part-window _ _ _ _ e, c.entry_offset.ensures)

pub returns-clause-size : goal.returns-clause-size
returns-clause-size c = let r = run c.requires.0 c.requires.1 in simp (length-take, length-drop) (omega arith)
