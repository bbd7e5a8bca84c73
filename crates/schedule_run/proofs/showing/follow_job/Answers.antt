use Rattle.std.proofs.Common.{subst}
use Rattle.std.specs.Prelude.{Some, Result}
use Rattle.std.proofs.lemmas.List.{append-nil}
use Rattle.std.proofs.lemmas.Result.{err_from_is_err_and}
use Rattle.schedule_text.specs.declared.recorder.RecordStop.{RecordStop}
use Rattle.schedule_text.specs.Recorder.{Adds}
use Rattle.schedule_text.proofs.Adding.{stopped_first, adds_then}
use Rattle.split_model.specs.Shown.{back_lines}
use Rattle.schedule_run.proofs.showing.follow_job.Goals as goal

pub returns-in_err-shown : goal.returns-in_err-shown
returns-in_err-shown g c lines before p =
    let stopped = err_from_is_err_and c.from_residual.result c.from_residual.ensures.1 in
    rw (stopped.1, stopped.2) (stopped_first lines (back_lines c.args.told c.args.answer.now) _ before _ (subst (λ (r : Result (Unit {0}) RecordStop). Adds lines r before (g.R.Recorder.seen c.args.recorder.now)) c.in_err-shown.was p))

pub returns-in-None : goal.returns-in-None
returns-in-None g c lines before p =
    rw (c.in-None.is, append-nil lines) (subst (λ (r : Result (Unit {0}) RecordStop). Adds lines r before (g.R.Recorder.seen c.args.recorder.now)) c.in_ok-shown.was p)

pub returns-in-Some : goal.returns-in-Some
returns-in-Some g c lines before p =
    rw c.in-Some.is (adds_then lines (back_lines (Some c.in-Some.told) c.args.answer.now) _ before _ _ (subst (λ (r : Result (Unit {0}) RecordStop). Adds lines r before (g.R.Recorder.seen c.args.recorder.now)) c.in_ok-shown.was p) c.say_back.ensures)
