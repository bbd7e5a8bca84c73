use Rattle.std.proofs.Common.{subst}
use Rattle.std.specs.Prelude.{Some, Result}
use Rattle.std.proofs.lemmas.List.{append-nil}
use Rattle.std.proofs.lemmas.Result.{err_from_is_err_and}
use Rattle.schedule_text.specs.declared.line.Line.{Line}
use Rattle.std.proofs.Common.{List}
use Rattle.schedule_text.specs.declared.recorder.RecordStop.{RecordStop}
use Rattle.schedule_text.specs.Recorder.{Adds}
use Rattle.schedule_text.proofs.Adding.{stopped_first, adds_then}
use Rattle.vbd_model.specs.News.{news_lines}
use Rattle.schedule_run.proofs.showing.follow_news.Goals as goal

pub returns-in_err-shown : goal.returns-in_err-shown
returns-in_err-shown g c lines before p =
    let stopped = err_from_is_err_and c.from_residual.result c.from_residual.ensures.1 in
    rw (stopped.1, stopped.2) (stopped_first lines (news_lines c.args.news) _ before _ (subst (λ (r : Result (Unit {0}) RecordStop). Adds lines r before (g.R.Recorder.seen c.args.recorder.now)) c.in_err-shown.was p))

pub returns-in-None : goal.returns-in-None
returns-in-None g c lines before p =
    rw (c.in-None.is, append-nil lines) (subst (λ (r : Result (Unit {0}) RecordStop). Adds lines r before (g.R.Recorder.seen c.args.recorder.now)) c.in_ok-shown.was p)

pub returns-in-Some : goal.returns-in-Some
returns-in-Some g c lines before p =
    rw c.in-Some.is (adds_then lines (news_lines (Some c.in-Some.news)) _ before _ _ (subst (λ (r : Result (Unit {0}) RecordStop). Adds lines r before (g.R.Recorder.seen c.args.recorder.now)) c.in_ok-shown.was p) (subst (λ (l : List Line). Adds l c.add.result (g.R.Recorder.seen c.args.recorder.now) (g.R.Recorder.seen c.add.new.self)) c.news_line.ensures c.add.ensures))
