-- The first of the lines that are left is taken.
use Rattle.std.proofs.Common.{sym, ◌∙◌}
use Rattle.bench_load.proofs.Left.{line_taken}
use Rattle.bench_load.proofs.schedule.BenchSchedule.next_event.Goals as goal

pub returns-in-Line-2-clause-some : goal.returns-in-Line-2-clause-some
returns-in-Line-2-clause-some c =
    sym c.self.view_is
    ∙ line_taken c.self.inside.next c.self.inside.left c.self.inside.generator c.draw_event.new.generator c.draw_event.result c.in-Line.is c.if-self-eq0.false c.draw_event.ensures.says c.draw_event.ensures.drawn
