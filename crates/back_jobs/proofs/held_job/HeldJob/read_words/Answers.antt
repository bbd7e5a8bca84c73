use Rattle.std.proofs.Common.{◌≡◌, ◌≤◌, ◌<◌, ◌-◌, ◌+◌, List, ℕ, length, sym, ap, ◌∙◌, subst, arith}
use Rattle.std.specs.Option.{IsSomeAnd}
use Rattle.back_jobs.specs.declared.stage.JobStage.{JobStage}
use Rattle.back_jobs.specs.declared.stage.JobStage.TheVariants as stage
use Rattle.back_jobs.specs.Sound.{IsPlaced}
use Rattle.back_jobs.specs.Inside.{view_of}
use Rattle.back_jobs.specs.Work.{Work}
use Rattle.back_jobs.specs.Part.{steps_of, words_read, part_at, IsReadPart}
use Rattle.back_jobs.proofs.Parts.{read_to, read_all, read_more, put_all, read_steps}
use Rattle.back_jobs.proofs.held_job.HeldJob.read_words.Goals.{then-end-eq128, else-end-eq128}
use Rattle.back_jobs.proofs.held_job.HeldJob.read_words.Goals as goal

pub returns-after-end-eq128 : goal.returns-after-end-eq128
returns-after-end-eq128 c =
    let t : Work = view_of c.self.inside in
    let words : List ℕ = c.args.words.now in
    let m = c.in-ReadWord.mapping in let k = c.in-ReadWord.k in
    let asked : IsSomeAnd (part_at t.stage t) (λ part. IsReadPart part (length words)) = rw (sym c.self.view_is) at c.requires in
    let fits : length words ≤ 128 - k = (subst (λ (s : JobStage). IsSomeAnd (part_at s t) (λ part. IsReadPart part (length words))) c.in-ReadWord.is asked).1 in
    let placed : IsPlaced (stage.ReadWord m k) t = subst (λ (s : JobStage). IsPlaced s t) c.in-ReadWord.is c.self.invariant.0 in
    let before : k < 128 = placed.0 in
    let stage_is : c.if-end-eq128.self ≡ read_to m (k + length words) = elim c.if-end-eq128.branch [
      | then-end-eq128 w ↦ w.self-is ∙ sym (read_all m (k + length words) w.if-end-eq128.true)
      | else-end-eq128 w ↦ w.self-is ∙ sym (read_more m (k + length words) w.if-end-eq128.false)
    ] in
    ap (λ (s : JobStage). record t { words = c.put_words.new.sector; stage = s }) stage_is
    ∙ (ap (λ (l : List ℕ). record t { words = l; stage = read_to m (k + length words) }) (c.put_words.ensures ∙ sym (put_all t.words k words (omega arith)))
    ∙ (sym (read_steps t m k words c.in-ReadWord.is before fits)
    ∙ ap (λ (u : Work). steps_of u (words_read words)) c.self.view_is))
