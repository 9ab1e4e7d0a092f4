-- The first word is a letter, and the line begins with it.
use Rattle.test_lines.specs.WordLaws.{line_begins}
use Rattle.test_lines.proofs.calls.Call.read.Goals as goal

pub returns-in_ok-number-in-f-2 : goal.returns-in_ok-number-in-f-2
returns-in_ok-number-in-f-2 c =
    let w = c.words-words in
    line_begins _ w.result c.next_word.new.words c.in_ok-next_word.field-0 _ _ w.ensures.text w.ensures.blank c.in_ok-next_word.ensures.word c.in-f.is

pub returns-in_ok-number-in-i : goal.returns-in_ok-number-in-i
returns-in_ok-number-in-i c =
    let w = c.words-words in
    line_begins _ w.result c.next_word.new.words c.in_ok-next_word.field-0 _ _ w.ensures.text w.ensures.blank c.in_ok-next_word.ensures.word c.in-i.is

pub returns-in_ok-number-in-r : goal.returns-in_ok-number-in-r
returns-in_ok-number-in-r c =
    let w = c.words-words in
    line_begins _ w.result c.next_word.new.words c.in_ok-next_word.field-0 _ _ w.ensures.text w.ensures.blank c.in_ok-next_word.ensures.word c.in-r.is

pub returns-in_ok-next_bytes-in-l : goal.returns-in_ok-next_bytes-in-l
returns-in_ok-next_bytes-in-l c =
    let w = c.words-words in
    line_begins _ w.result c.next_word.new.words c.in_ok-next_word.field-0 _ _ w.ensures.text w.ensures.blank c.in_ok-next_word.ensures.word c.in-l.is

pub returns-in_ok-number-in-s : goal.returns-in_ok-number-in-s
returns-in_ok-number-in-s c =
    let w = c.words-words in
    line_begins _ w.result c.next_word.new.words c.in_ok-next_word.field-0 _ _ w.ensures.text w.ensures.blank c.in_ok-next_word.ensures.word c.in-s.is

pub returns-in-a : goal.returns-in-a
returns-in-a c =
    let w = c.words-words in
    line_begins _ w.result c.next_word.new.words c.in_ok-next_word.field-0 _ _ w.ensures.text w.ensures.blank c.in_ok-next_word.ensures.word c.in-a.is
