use Rattle.std.proofs.Common.{◌-◌, List, sym, subst}
use Rattle.std.specs.Prelude.{IsPermutation}
use Rattle.blk_base.specs.declared.parts.Mapping.{Mapping}
use Rattle.blk_base.specs.declared.ask.BackAnswer.TheVariants.{Done}
use Rattle.back_jobs.specs.Jobs.{HeldJobs}
use Rattle.back_jobs.specs.Keeping.{ask_keeping, all_hands}
use Rattle.back_jobs.specs.Part.{part_of, words_written, MovesWord}
use Rattle.back_jobs.proofs.Parts.{job_writes, last_write, all_but_last, no_effects, move_allowed, move_keeps}
use Rattle.back_jobs.proofs.jobs.Jobs.tell_written.Goals as goal

pub tell-requires : goal.tell-requires
tell-requires c =
    let passed = all_but_last (part_of c.args.self.now c.args.number) c.args.count c.if-count-gt0.true c.requires in
    let moves = subst (λ (h : HeldJobs). MovesWord (ask_keeping h c.args.number) Done) (sym c.pass_words.ensures.completed) (last_write c.args.self.now c.args.number (c.args.count - 1) passed) in
    move_allowed (ask_keeping c.pass_words.new.self c.args.number) Done moves

pub returns-then-count-gt0-clause-each : goal.returns-then-count-gt0-clause-each
returns-then-count-gt0-clause-each c = job_writes c.args.self.now c.args.number c.args.count c.requires

pub returns-then-count-gt0-clause-effects : goal.returns-then-count-gt0-clause-effects
returns-then-count-gt0-clause-effects c = no_effects c.args.self.now c.args.number (words_written c.args.count) (job_writes c.args.self.now c.args.number c.args.count c.requires)

pub returns-then-count-gt0-clause-hands : goal.returns-then-count-gt0-clause-hands
returns-then-count-gt0-clause-hands c =
    let passed = all_but_last (part_of c.args.self.now c.args.number) c.args.count c.if-count-gt0.true c.requires in
    let moves = subst (λ (h : HeldJobs). MovesWord (ask_keeping h c.args.number) Done) (sym c.pass_words.ensures.completed) (last_write c.args.self.now c.args.number (c.args.count - 1) passed) in
    subst (λ (l : List Mapping). IsPermutation l (all_hands c.tell.new.self)) c.pass_words.ensures.hands
    (move_keeps (ask_keeping c.pass_words.new.self c.args.number) Done (all_hands c.pass_words.new.self) (all_hands c.tell.new.self) moves c.tell.ensures.hands)
