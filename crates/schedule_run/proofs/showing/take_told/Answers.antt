use Rattle.std.proofs.Common.{◌≡◌, ◌++◌, List, refl, subst, append_assoc}
use Rattle.schedule_text.specs.declared.line.Line.{Line}
use Rattle.schedule_text.specs.Recorder.{Adds}
use Rattle.split_model.specs.Shown.{front_lines}
use Rattle.vbd_model.specs.News.{news_lines}
use Rattle.schedule_run.specs.Following.{frontend_lines}
use Rattle.schedule_run.proofs.showing.take_told.Goals as goal

pub returns-clause-lines : goal.returns-clause-lines
returns-clause-lines g c lines before p =
    let told = c.take_told-told.result.0 in
    let news = c.take_told-told.result.1 in
    let same : front_lines told ++ news_lines news ≡ frontend_lines c.args.front.now = rw (c.take_told-told.ensures.told, c.take_told-told.ensures.news) refl in
    subst (λ (l : List Line). Adds (lines ++ l) c.follow_news.result before (g.R.Recorder.seen c.follow_news.new.recorder)) same
    (subst (λ (l : List Line). Adds l c.follow_news.result before (g.R.Recorder.seen c.follow_news.new.recorder)) (append_assoc lines (front_lines told) (news_lines news))
    (c.follow_news.ensures (lines ++ front_lines told) before (c.follow_front-said.ensures lines before p)))
