-- `idx_lookup::Only`'s `visit` meets its contract: the page's entries decide as the rule's step does. Assumes nothing.
use Rattle.std.proofs.Common.{◌∙◌, ◌-◌, arith}
use Rattle.idx_page.specs.Header.{max_levels}
use Rattle.idx_lookup.specs.Lookup.{lookup_from}
use Rattle.idx_lookup.specs.SearchLaws.{visit_good}
use Rattle.idx_lookup.proofs.OnlyDescent.visit.Goals as goal

pub returns : goal.returns
returns c =
    let search = c.args.self.now.0 in
    c.search_page.ensures (λ p. lookup_from (max_levels - c.args.pages) search.index.now search.key.now p.0)
    ∙ visit_good _ _ _ _ c.requires.0 c.requires.1 (grind arith)
