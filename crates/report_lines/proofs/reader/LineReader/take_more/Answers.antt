use Rattle.std.proofs.Common.{rules, arith}
use Rattle.std.proofs.lemmas.Grind.{common_steps}
use Rattle.report_lines.proofs.Taking.{takes_more}
use Rattle.report_lines.proofs.reader.LineReader.take_more.Goals as goal

pub returns : goal.returns
returns g c =
    rw (← c.self.view_is) (takes_more _ _ _ _ _ _ _ _ _ (grind (arith, common_steps)) (grind (arith, common_steps)) c.in_ok-begin_with.ensures.begun c.read_after.ensures.before c.in-Ok.ensures.read (search rules) (grind (arith, common_steps))
    (rw c.swap.ensures.x_after c.truncate.ensures.items))
