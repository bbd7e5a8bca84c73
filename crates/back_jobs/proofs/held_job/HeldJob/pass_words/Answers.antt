use Rattle.std.proofs.Common.{◌+◌, ◌<◌, ◌-◌, sym, ap, ◌∙◌, subst}
use Rattle.back_jobs.specs.declared.stage.JobStage.{JobStage}
use Rattle.back_jobs.specs.Inside.{view_of}
use Rattle.back_jobs.specs.Work.{Work, at_word}
use Rattle.back_jobs.specs.Part.{steps_of, words_written, part_at, IsPassedPart}
use Rattle.std.specs.Option.{IsSomeAnd}
use Rattle.back_jobs.proofs.Parts.{written_steps}
use Rattle.back_jobs.proofs.held_job.HeldJob.pass_words.Goals as goal

pub returns-in-WriteWord : goal.returns-in-WriteWord
returns-in-WriteWord c =
    let t : Work = view_of c.self.inside in
    let count = c.args.count in
    let asked : IsSomeAnd (part_at t.stage t) (λ part. IsPassedPart part count) = rw (sym c.self.view_is) at c.requires in
    let fits : count < 128 - c.in-WriteWord.k = (subst (λ (s : JobStage). IsSomeAnd (part_at s t) (λ part. IsPassedPart part count)) c.in-WriteWord.is asked).1 in
    ap (λ (s : JobStage). record t { stage = s }) (c.next_word.ensures ∙ ap (at_word (c.in-WriteWord.k + count)) c.in-WriteWord.is)
    ∙ (sym (written_steps t c.in-WriteWord.field-0 c.in-WriteWord.k count c.in-WriteWord.is fits)
    ∙ ap (λ (u : Work). steps_of u (words_written count)) c.self.view_is)
