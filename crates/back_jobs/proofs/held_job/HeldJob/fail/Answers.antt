use Rattle.std.proofs.Common.{◌≡◌, true, ap, ◌∙◌, subst}
use Rattle.blk_base.specs.declared.parts.Mode.TheVariants.{ReadWrite}
use Rattle.persist_grants.specs.KeptMappings.{may_keep}
use Rattle.back_jobs.specs.declared.stage.JobStage.{JobStage}
use Rattle.back_jobs.specs.declared.stage.JobStage.TheVariants as stage
use Rattle.back_jobs.specs.Inside.{view_of}
use Rattle.back_jobs.specs.Work.{Work}
use Rattle.back_jobs.specs.Keeping.{IsWritableAt}
use Rattle.back_jobs.specs.Sound.{IsPlaced}
use Rattle.back_jobs.proofs.Settling.{out_in_mode}
use Rattle.back_jobs.proofs.held_job.HeldJob.fail.Goals as goal

pub invariant_of-self : goal.invariant_of-self
invariant_of-self c =
    let here : c.self.inside.stage ≡ stage.Abort c.args.mapping = ap (λ (t : Work). t.stage) c.self.view_is ∙ c.requires.stage in
    let placed : IsPlaced (stage.Abort c.args.mapping) (view_of c.self.inside) = subst (λ (s : JobStage). IsPlaced s (view_of c.self.inside)) here c.self.invariant.0 in
    let writable : may_keep c.args.kept.now ≡ true → c.args.mapping.mode ≡ ReadWrite = λ may. subst IsWritableAt c.requires.stage (c.requires.writable may) in
    (out_in_mode c.args.kept.now c.args.mapping c.in-Out.out c.self.inside.writes c.in-Out.ensures.out writable placed c.requires.keepable, c.self.invariant.1)
