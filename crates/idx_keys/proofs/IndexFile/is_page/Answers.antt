-- `IndexFile::is_page`: a page of the file lies within the index.
use Rattle.std.proofs.Common.{sym, ◌∙◌, arith}
use Rattle.idx_page.specs.HeaderLaws.{is-page}
use Rattle.idx_keys.proofs.IndexFile.is_page.Goals as goal

pub returns-clause-within : goal.returns-clause-within
returns-clause-within c e =
    let file = c.args.self.now.inside in
    omega (arith, (is-page _ _ (sym c.is_page.ensures ∙ e)).high)
