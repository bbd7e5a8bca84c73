use Rattle.std.specs.Prelude.{◌+◌, length}
use Rattle.trace_check.proofs.Reading.{HasRead}
use Rattle.trace_check.proofs.finding.check.Given as goal

-- the lines before the one of this number were read, and break no rule
abbrev pub invariant-loop-trace : goal.invariant-loop-trace
invariant-loop-trace g l = HasRead l.bytes_limit l.number l.report l.trace (g.S.Source.seen l.initial.source) (g.S.Source.seen l.source)

abbrev pub decreases-loop-trace : goal.decreases-loop-trace
decreases-loop-trace g l = l.report.room + length l.report.bytes
