use Rattle.std.proofs.Common.{◌∙◌, sym}
use Rattle.schedule_run.proofs.AtOnce.{gone_at_once}
use Rattle.schedule_run.proofs.Rounding.{one_round}
use Rattle.schedule_run.proofs.split.Split.some_rounds.Goals as goal

pub move_words-requires : goal.move_words-requires
move_words-requires g c = c.rounds_of_words-count.ensures.words c.if-count-gt0.true

pub returns-then-count-gt0 : goal.returns-then-count-gt0
returns-then-count-gt0 g c =
    gone_at_once c.rounds_of_words-count.result c.from.result c.args.most c.args.self.now c.move_words.new.self (g.D.SectorDisk.seen c.args.disk.now) (g.R.Recorder.seen c.args.recorder.now) c.from.ensures
    c.if-count-gt0.true c.rounds_of_words-count.ensures.few (c.rounds_of_words-count.ensures.words c.if-count-gt0.true) c.move_words.ensures (sym c.detail.ensures ∙ c.in-Lines.is)

pub returns : goal.returns
returns g c = one_round _ _ _ c.requires.some c.in_ok-round.ensures
