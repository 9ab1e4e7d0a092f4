-- `idx_lookup::First`'s `visit` meets its contract: the page's entries decide as the rule's step does. Assumes nothing.
use Rattle.std.proofs.Common.{◌∙◌, ◌-◌, arith}
use Rattle.idx_page.specs.Header.{max_levels}
use Rattle.idx_lookup.specs.FirstRecord.{first_from}
use Rattle.idx_lookup.specs.SearchLaws.{way_good}
use Rattle.idx_lookup.proofs.FirstDescent.visit.Goals as goal

pub returns : goal.returns
returns c =
    let search = c.args.self.now.0 in
    c.search_page.ensures (first_from (max_levels - c.args.pages) search.index.now search.key.now)
    ∙ way_good _ _ _ _ c.requires.0 c.requires.1 (grind arith)
