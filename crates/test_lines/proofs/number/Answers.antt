-- The word that came is the one that is parsed.
use Rattle.std.proofs.Common.{Some}
use Rattle.test_lines.proofs.number.Goals as goal

pub returns-clause-word : goal.returns-clause-word
returns-clause-word g c = (Some c.in_ok-next_word.field-0, c.in_ok-next_word.ensures.word, c.parse.ensures.value)
