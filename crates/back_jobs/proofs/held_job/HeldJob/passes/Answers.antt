use Rattle.std.proofs.Common.{◌≡◌, ◌<◌, List, false, length, sym, subst, ◌∙◌}
use Rattle.std.proofs.lemmas.List.Elements.{recursion_from_All}
use Rattle.blk_layout.specs.declared.segment.Segment.{Segment}
use Rattle.segment_list.specs.declared.verdict.DiskInfo.{DiskInfo}
use Rattle.segment_list.specs.declared.verdict.Plan.{Plan}
use Rattle.segment_list.specs.declared.verdict.Verdict.TheVariants.{Serve}
use Rattle.segment_list.specs.Segments.{IsSound}
use Rattle.segment_list.specs.Verdict.{finished_verdict}
use Rattle.segment_list.proofs.Served.{finished_on_disk}
use Rattle.back_jobs.specs.Work.{Work}
use Rattle.back_jobs.specs.Sound.{AreMovable}
use Rattle.back_jobs.proofs.Served.{movable}
use Rattle.back_jobs.proofs.held_job.HeldJob.passes.Goals as goal

pub returns-in-Serve-clause-movable : goal.returns-in-Serve-clause-movable
returns-in-Serve-clause-movable c = λ served.
    let t = c.self.inside in
    let list : List Segment = t.rest.items in
    let plan : Plan = record { kind = c.if-self.kind; sector = t.disk; count = c.from.result } in
    let info : DiskInfo = record { sectors = t.size; read_only = false; barrier = false; flush = false; discard = false; max_indirect = t.named } in
    let serves : finished_verdict plan list info ≡ Serve c.in-Serve.field-0 = rw c.as_slice.ensures at (sym c.finish_indirect.ensures.verdict ∙ c.in-Serve.is) in
    let disk = finished_on_disk plan c.in-Serve.field-0 list info serves in
    subst (λ (w : Work). 0 < length w.rest → AreMovable w.size w.disk w.rest) c.self.view_is (λ some. movable t.size t.disk list some disk.within (recursion_from_All IsSound list disk.sound))
