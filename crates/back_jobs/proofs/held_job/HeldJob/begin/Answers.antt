use Rattle.std.proofs.Common.{◌≡◌, ◌++◌, List, ap, ◌∙◌, subst}
use Rattle.std.specs.Prelude.{IsPermutation, nat_lt}
use Rattle.blk_base.specs.declared.parts.Mapping.{Mapping}
use Rattle.segment_list.specs.Verdict.{verdict_of}
use Rattle.persist_grants.specs.KeptMappings.{mappings_of}
use Rattle.back_jobs.specs.Hands.{hand_of}
use Rattle.back_jobs.specs.Segments.{is_paged}
use Rattle.back_jobs.proofs.Hands.{begun_hand}
use Rattle.back_jobs.proofs.Kept.{Facts, facts_of, begun_facts}
use Rattle.back_jobs.proofs.held_job.HeldJob.begin.Goals as goal

pub returns-clause-hands : goal.returns-clause-hands
returns-clause-hands c =
    let none = ap hand_of c.judged-job.ensures.value ∙ begun_hand c.args.number c.args.request.now c.args.info.now.sectors (verdict_of c.args.request.now c.args.info.now) in
    subst (λ (l : List Mapping). IsPermutation (l ++ mappings_of c.args.kept.now) (hand_of c.settle.new.self ++ mappings_of c.settle.new.kept)) none c.settle.ensures.hands

pub returns-clause-spare : goal.returns-clause-spare
returns-clause-spare c =
    let same : is_paged c.settle.new.self ≡ is_paged c.judged-job.result = ap (λ (f : Facts). nat_lt 0 f.2) (ap facts_of c.settle.ensures.job ∙ begun_facts c.args.kept.now c.judged-job.result) in
    rw same c.judged-job.ensures.spare
