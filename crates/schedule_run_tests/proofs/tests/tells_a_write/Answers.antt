use Rattle.std.proofs.Common.{◌∷◌, [], List, Result, Ok, Err, OnOk, arith, sym, subst}
use Rattle.blk_base.specs.Options.{Options}
use Rattle.schedule_text.specs.declared.event.Event.{Event}
use Rattle.schedule_text.specs.declared.event.Event.TheVariants.{Settle, Submit}
use Rattle.schedule_text.specs.declared.line.Detail.TheVariants.{Moves}
use Rattle.schedule_text.specs.declared.recorder.RecordStop.{RecordStop}
use Rattle.vbd_model.specs.Leads.{Moment, moment}
use Rattle.schedule_run.specs.Machine.{Run}
use Rattle.schedule_run.specs.Outcome.{Outside, outside, HasCarried}
use Rattle.schedule_run.specs.Lawful.{EventLeaves, HasLawfulReport}
use Rattle.schedule_run_tests.proofs.tests.tells_a_write.Goals as goal

last_one : (config : Options) (events : List Event) (old : Outside) (result : Result (Unit {0}) RecordStop) (new : Moment) → EventLeaves config events old result new → OnOk result (HasLawfulReport config events old (outside new.disk new.recorder))
last_one config events old (Ok done) new h = h.told
last_one config events old (Err why) new h = tt

pub returns : goal.returns
returns g c =
    let config = c.args.config in
    let begin = outside (g.D.SectorDisk.seen c.args.disk.now) (g.R.Recorder.seen c.args.recorder.now) in
    let begun = c.a_run_begins.ensures config (g.D.SectorDisk.seen c.args.disk.now) (g.R.Recorder.seen c.args.recorder.now) (g.R.Recorder.seen c.add.new.self) c.requires.served Moves c.in_ok-add.ensures in
    let none = subst (λ (m : Run). HasCarried config [] begin (moment m.world (g.D.SectorDisk.seen c.args.disk.now) (g.R.Recorder.seen c.add.new.self))) (sym c.requires.new) begun in
    let one = c.in_ok-event.ensures.lawful config [] begin (omega arith) c.requires.sectors none in
    let two = c.in_ok-event-2.ensures.lawful config (Settle ∷ []) begin (omega arith) c.requires.sectors one.carried in
    let three = c.in_ok-event-3.ensures.lawful config (Settle ∷ Submit c.args.write ∷ []) begin (omega arith) c.requires.sectors two.carried in
    let now = moment c.event-4.new.self.world (g.D.SectorDisk.seen c.event-4.new.disk) (g.R.Recorder.seen c.event-4.new.recorder) in
    last_one config _ begin c.event-4.result now (c.event-4.ensures.lawful config (Settle ∷ Submit c.args.write ∷ Settle ∷ []) begin (omega arith) c.requires.sectors three.carried)
