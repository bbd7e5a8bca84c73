use Rattle.report_lines.specs.Filling.{Fills}
use Rattle.report_lines.proofs.reader.LineReader.fill.Given as goal

-- bytes went from the source to those ahead
abbrev pub invariant-loop-count : goal.invariant-loop-count
invariant-loop-count g l = Fills l.initial.self l.self (g.S.Source.seen l.initial.source) (g.S.Source.seen l.source)

abbrev pub decreases-loop-count : goal.decreases-loop-count
decreases-loop-count g l = l.self.room
