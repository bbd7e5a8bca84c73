-- What a move made happen is shown after the move itself, which was shown before, or at which the recorder stopped.
use Rattle.std.specs.Prelude.{List, ◌++◌, Result}
use Rattle.schedule_text.specs.declared.line.Line.{Line}
use Rattle.schedule_text.specs.declared.recorder.RecordStop.{RecordStop}
use Rattle.schedule_text.specs.Recorder.{RecorderSeen, Adds}
use Rattle.blk_front.specs.View as ring
use Rattle.split_model.specs.Shown.{front_lines}
use Rattle.vbd_front.specs.View.{View}
use Rattle.vbd_model.specs.News.{news_lines}

-- these lines follow others that were shown, or at which the recorder stopped
abbrev pub Follows : List Line → (shown result : Result (Unit {0}) RecordStop) → (between after : RecorderSeen) → Type 0
Follows more shown result between after =
    (lines : List Line) (before : RecorderSeen) → Adds lines shown before between → Adds (lines ++ more) result before after

-- what a frontend has to tell: the outcome of a move in its ring, and what its negotiation made happen
abbrev pub frontend_lines : View → List Line
frontend_lines v = let r : ring.View = v.ring in front_lines r.told ++ news_lines v.news
