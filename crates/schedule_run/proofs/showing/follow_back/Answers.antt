use Rattle.std.proofs.Common.{◌++◌, append_assoc}
use Rattle.std.specs.Prelude.{Some, None}
use Rattle.std.proofs.lemmas.Result.{err_from_is_err_and}
use Rattle.schedule_text.proofs.Adding.{stopped_first, adds_then}
use Rattle.split_model.specs.Shown.{back_lines, halt_lines}
use Rattle.schedule_run.proofs.showing.follow_back.Goals as goal

pub returns-in_err-follow_job : goal.returns-in_err-follow_job
returns-in_err-follow_job g c lines before p =
    let stopped = err_from_is_err_and c.from_residual.result c.from_residual.ensures.1 in
    let more = back_lines c.args.told c.args.answer.now in
    let halts = halt_lines c.args.before c.args.after in
    rw (stopped.1, stopped.2, ← append_assoc lines more halts) (stopped_first (lines ++ more) halts _ before _ (c.in_err-follow_job.ensures lines before p))

pub returns-in-None-Some : goal.returns-in-None-Some
returns-in-None-Some g c lines before p =
    let more = back_lines c.args.told c.args.answer.now in
    let halts = halt_lines None (Some c.in-None-Some.halt) in
    rw (c.in-None-Some.is-0, c.in-None-Some.is-1, ← append_assoc lines more halts) (adds_then (lines ++ more) halts _ before _ _ (c.in_ok-follow_job.ensures lines before p) c.say_halt.ensures)
