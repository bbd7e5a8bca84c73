use Rattle.std.proofs.Common.{◌≡◌, [], ◌∷◌, List, ◌++◌, Some, ap, sym, ◌∙◌, subst}
use Rattle.std.proofs.lemmas.Option.{same_Some}
use Rattle.blk_base.specs.Options.{Options}
use Rattle.blk_io.specs.Disk.{DiskSeen}
use Rattle.schedule_text.specs.declared.event.Event.{Event}
use Rattle.schedule_text.specs.declared.line.Detail.{Detail}
use Rattle.schedule_text.specs.declared.line.Line.{Line}
use Rattle.schedule_text.specs.Recorder.{Told}
use Rattle.schedule_text.specs.Recorders.{listing}
use Rattle.schedule_text.specs.declared.event.Event.TheVariants.{Settle, Submit, Look}
use Rattle.image_disk.specs.Image.{image_seen}
use Rattle.machine_pipeline.specs.Submissions.{jobs_of}
use Rattle.schedule_run.specs.Outcome.{outside}
use Rattle.schedule_run.specs.Lawful.{HasLawfulReport, IsLawful}
use Rattle.schedule_run_tests.proofs.tests.lists_a_write.Goals as goal

-- a list that was empty holds the report
listed : (config : Options) (events : List Event) (detail word : Detail) (before after : List Line) (a b : DiskSeen) → before ≡ [] → HasLawfulReport config events (outside a (listing detail before)) (outside b (listing word after)) → IsLawful config detail (jobs_of events) a.content b.content after
listed config events detail word before after a b none h =
    let told : Some after ≡ Some (before ++ h.report) = ap (λ (t : Told). t.lines) h.told in
    let all : after ≡ h.report = same_Some after (before ++ h.report) told ∙ ap (λ (x : List Line). x ++ h.report) none in
    subst (IsLawful config detail (jobs_of events) a.content b.content) (sym all) h.lawful

pub returns : goal.returns
returns c =
    let list = c.new-list in
    subst (λ (d : Detail). IsLawful c.args.config d (c.args.write ∷ []) (Some c.args.disk.now.content) (Some c.writes_a_sector.new.disk.content) c.writes_a_sector.new.recorder.lines.items) list.ensures.detail
    (listed c.args.config (Settle ∷ Submit c.args.write ∷ Settle ∷ Look ∷ []) list.result.detail c.writes_a_sector.new.recorder.detail list.result.lines.items c.writes_a_sector.new.recorder.lines.items (image_seen c.args.disk.now) (image_seen c.writes_a_sector.new.disk) list.ensures.lines c.in_ok-writes_a_sector.ensures)
