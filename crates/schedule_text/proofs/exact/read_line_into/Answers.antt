use Rattle.std.proofs.Common.{ap, ◌∙◌}
use Rattle.schedule_text.specs.Line.{text_of}
use Rattle.schedule_text.specs.Range.{is_allowed}
use Rattle.schedule_text.proofs.Spelling.{says_line, one_line}
use Rattle.schedule_text.proofs.exact.read_line_into.Goals as goal

pub returns-then-not-is_allowed-clause-only : goal.returns-then-not-is_allowed-clause-only
returns-then-not-is_allowed-clause-only c = λ said is.
    let same = c.read_words.ensures.says ∙ says_line said c.args.bytes.now is in
    cc (ap is_allowed same ∙ is.in_range.allowed, c.if-not-is_allowed.ensures)

pub returns-then-has_bytes-clause-only : goal.returns-then-has_bytes-clause-only
returns-then-has_bytes-clause-only c = λ said is. c.read_words.ensures.says ∙ says_line said c.args.bytes.now is

pub returns-else-has_bytes-clause-only : goal.returns-else-has_bytes-clause-only
returns-else-has_bytes-clause-only c = λ said is.
    let same = c.read_words.ensures.says ∙ says_line said c.args.bytes.now is in
    cc (c.if-has_bytes.ensures.1 (c.write_line.ensures.written ∙ ap text_of same ∙ is.text))

pub returns-then-read_access-clause-only : goal.returns-then-read_access-clause-only
returns-then-read_access-clause-only c = λ said is. one_line _ said _ (c.read_access.ensures c.if-read_access.true) is
