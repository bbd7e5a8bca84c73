use Rattle.std.proofs.Common.{◌≡◌, Ok, Err, ap, subst}
use Rattle.std.proofs.lemmas.Result.{err_from_is_err_and}
use Rattle.schedule_text.specs.declared.line.Detail.TheVariants.{Moves}
use Rattle.vbd_model.specs.World.{World, start_of}
use Rattle.vbd_model.specs.Leads.{moment}
use Rattle.schedule_run.specs.Machine.{Run}
use Rattle.schedule_run.specs.Carrying.{ReadsAll}
use Rattle.schedule_run.specs.Outcome.{outside}
use Rattle.schedule_run.proofs.Ending.{begun_by, begin_stopped, reading_stopped, end_stopped, all_told}
use Rattle.schedule_run.proofs.schedule.report.Goals as goal

pub returns-in_err-read_all : goal.returns-in_err-read_all
returns-in_err-read_all g c =
    let world : (c.in_ok-machine.machine).world ≡ start_of c.args.config = ap (λ (m : Run). m.world) c.in_ok-machine.ensures.machine in
    let old = outside (g.D.SectorDisk.seen c.args.disk.now) (g.R.Recorder.seen c.args.recorder.now) in
    let new = outside (g.D.SectorDisk.seen c.read_all.new.disk) (g.R.Recorder.seen c.read_all.new.recorder) in
    let first = begun_by c.args.config Moves old (g.R.Recorder.seen c.add.new.self) c.in_ok-machine.ensures.served c.in_default.ensures in
    let stopped = err_from_is_err_and c.from_residual-in_err-read_all.result c.from_residual-in_err-read_all.ensures.1 in
    rw (stopped.1, stopped.2) (reading_stopped _ _ _ _ _ old new _ _ first
    (subst (λ (w : World). ReadsAll c.args.bytes_limit (Err c.in_err-read_all.field-0.0) (g.S.Source.seen c.args.source.now) (g.S.Source.seen c.read_all.new.source) (moment w old.disk (g.R.Recorder.seen c.add.new.self)) (moment c.read_all.new.self.machine.world new.disk new.recorder)) world c.in_err-read_all.ensures))

pub returns-in-Err : goal.returns-in-Err
returns-in-Err g c = rw c.stop_of.ensures (begin_stopped _ _ _ Moves c.in-Err.stop (g.D.SectorDisk.seen c.args.disk.now) (g.R.Recorder.seen c.args.recorder.now) (g.R.Recorder.seen c.add.new.self) c.in-Err.ensures)

pub returns-in-Err-add : goal.returns-in-Err-add
returns-in-Err-add g c =
    let world : (c.in_ok-machine.machine).world ≡ start_of c.args.config = ap (λ (m : Run). m.world) c.in_ok-machine.ensures.machine in
    let old = outside (g.D.SectorDisk.seen c.args.disk.now) (g.R.Recorder.seen c.args.recorder.now) in
    let first = begun_by c.args.config Moves old (g.R.Recorder.seen c.add.new.self) c.in_ok-machine.ensures.served c.in_default.ensures in
    rw c.stop_of-in-Err-add.ensures (end_stopped _ _ _ _ c.in-Err-add.stop old _ _ (g.R.Recorder.seen c.read_all.new.recorder) _ _ first
    (subst (λ (w : World). ReadsAll c.args.bytes_limit (Ok tt) (g.S.Source.seen c.args.source.now) (g.S.Source.seen c.read_all.new.source) (moment w old.disk (g.R.Recorder.seen c.add.new.self)) (moment c.read_all.new.self.machine.world (g.D.SectorDisk.seen c.read_all.new.disk) (g.R.Recorder.seen c.read_all.new.recorder))) world c.in_ok-read_all.ensures) c.in-Err-add.ensures)

pub returns : goal.returns
returns g c =
    let world : (c.in_ok-machine.machine).world ≡ start_of c.args.config = ap (λ (m : Run). m.world) c.in_ok-machine.ensures.machine in
    let old = outside (g.D.SectorDisk.seen c.args.disk.now) (g.R.Recorder.seen c.args.recorder.now) in
    let first = begun_by c.args.config Moves old (g.R.Recorder.seen c.add.new.self) c.in_ok-machine.ensures.served c.in_default.ensures in
    all_told _ _ _ _ old _ _ (g.R.Recorder.seen c.read_all.new.recorder) _ _ first
    (subst (λ (w : World). ReadsAll c.args.bytes_limit (Ok tt) (g.S.Source.seen c.args.source.now) (g.S.Source.seen c.read_all.new.source) (moment w old.disk (g.R.Recorder.seen c.add.new.self)) (moment c.read_all.new.self.machine.world (g.D.SectorDisk.seen c.read_all.new.disk) (g.R.Recorder.seen c.read_all.new.recorder))) world c.in_ok-read_all.ensures) c.in_default-add.ensures
