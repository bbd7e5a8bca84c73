use Rattle.std.proofs.Common.{◌∷◌, [], refl, ap, arith}
use Rattle.std.specs.Prelude.{Some, None}
use Rattle.std.proofs.lemmas.List.{append-nil}
use Rattle.split_model.specs.Shown.{back_lines}
use Rattle.blk_base.specs.declared.moves.BackMover.TheVariants.{Job}
use Rattle.schedule_text.specs.declared.line.Line.TheVariants.{Move}
use Rattle.hypervisor.specs.Act.{back_shown, outcome_told, Took}
use Rattle.blk_back.specs.Step.{job_ask_of, job_step}
use Rattle.vbd_model.specs.World.{World}
use Rattle.vbd_back.specs.View.{View}
use Rattle.split_model.proofs.Moving.{job_needs_none, back_asked, back_unasked, back_left, back_did_disk, back_stepped, back_said, job_told, job_moved, job_goes, job_rests, job_asked_may}
use Rattle.schedule_run.specs.Inside.{world_of}
use Rattle.schedule_run.proofs.Moving.{job_alone, job_seen, job_bus, job_fit}
use Rattle.schedule_run.proofs.Asked.{said_so}
use Rattle.schedule_run.proofs.split.Split.job_acts.Goals as goal

pub back-requires : goal.back-requires
back-requires g c =
    let w : World = world_of c.self.inside.front c.self.inside.back c.self.inside.under in
    record { may = job_asked_may w.rings c.args.self.now.rings c.args.number c.job_ask-ask.result _ (ap (λ (x : World). x.rings) c.self.view_is) (let fit = c.self.invariant.1 in fit.safe) c.job_ask-ask.ensures.value c.job_ask-ask.ensures.names c.job_ask-ask.ensures.within c.job_ask-ask.ensures.few c.requires.attached (let left = c.requires.left in omega arith) }

-- nothing is asked for that takes memory
pub returns-in_default : goal.returns-in_default
returns-in_default g c =
    let w : World = world_of c.self.inside.front c.self.inside.back c.self.inside.under in
    absurd (job_needs_none w.rings c.args.number c.job_ask-ask.result c.job_ask-ask.ensures.value c.in_default.ensures.memory)

pub returns-in_default-answer : goal.returns-in_default-answer
returns-in_default-answer g c =
    let w : World = world_of c.self.inside.front c.self.inside.back c.self.inside.under in
    let said = said_so w.rings.under c.back.new.self (Job c.args.number) c.job_ask-ask.result _ _ c.in-Ok.answer None c.in_default-answer.is (record { acted = c.in-Ok.ensures.acted; under = c.in-Ok.ensures.under; may_show = c.in-Ok.ensures.may_show; given = c.in-Ok.ensures.given; disk = c.in-Ok.ensures.disk }) in
    rw (← c.self.view_is) (job_alone c.args.number 1 w _ _ _ _ _ _ (job_rests w.rings c.args.number c.back.new.self _ _ _
    (back_unasked w.rings.under (Job c.args.number) c.job_ask-ask.result (job_ask_of w.rings.back c.args.number) c.job_ask-ask.ensures.value said.acted)
    (back_left w.rings.under (Job c.args.number) c.job_ask-ask.result (job_ask_of w.rings.back c.args.number) Took c.back.new.self c.job_ask-ask.ensures.value said.under)
    (back_did_disk c.job_ask-ask.result (job_ask_of w.rings.back c.args.number) Took _ _ c.job_ask-ask.ensures.value said.disk)))

pub job_tell-requires-clause-answer : goal.job_tell-requires-clause-answer
job_tell-requires-clause-answer g c =
    let w : World = world_of c.self.inside.front c.self.inside.back c.self.inside.under in
    let said = said_so w.rings.under c.back.new.self (Job c.args.number) c.job_ask-ask.result _ _ c.in-Ok.answer (Some c.in-Some.answer) c.in-Some.is (record { acted = c.in-Ok.ensures.acted; under = c.in-Ok.ensures.under; may_show = c.in-Ok.ensures.may_show; given = c.in-Ok.ensures.given; disk = c.in-Ok.ensures.disk }) in
    job_told w.rings c.args.number (c.in-Some.answer, back_shown c.back.new.self (Job c.args.number) c.job_ask-ask.result c.in-Some.answer)
    (back_asked w.rings.under (Job c.args.number) c.job_ask-ask.result (job_ask_of w.rings.back c.args.number) (c.in-Some.answer, back_shown c.back.new.self (Job c.args.number) c.job_ask-ask.result c.in-Some.answer) c.job_ask-ask.ensures.value said.acted)

pub invariant_of-self-2 : goal.invariant_of-self-2
invariant_of-self-2 g c =
    let w : World = world_of c.self.inside.front c.self.inside.back c.self.inside.under in
    let said = said_so w.rings.under c.back.new.self (Job c.args.number) c.job_ask-ask.result _ _ c.in-Ok.answer (Some c.in-Some.answer) c.in-Some.is (record { acted = c.in-Ok.ensures.acted; under = c.in-Ok.ensures.under; may_show = c.in-Ok.ensures.may_show; given = c.in-Ok.ensures.given; disk = c.in-Ok.ensures.disk }) in (
      c.self.invariant.0,
      job_fit c.args.number (outcome_told c.in-Some.answer) w c.take_told-told.new.self c.back.new.self (job_bus c.args.number c.self.inside.back c.job_tell.new.self c.take_told-told.new.self c.in-Some.answer c.job_tell.ensures.stepped c.take_told-told.ensures.taken)
          (job_moved w.rings c.args.number (c.in-Some.answer, back_shown c.back.new.self (Job c.args.number) c.job_ask-ask.result c.in-Some.answer) c.take_told-told.new.self.ring c.back.new.self
          (back_asked w.rings.under (Job c.args.number) c.job_ask-ask.result (job_ask_of w.rings.back c.args.number) (c.in-Some.answer, back_shown c.back.new.self (Job c.args.number) c.job_ask-ask.result c.in-Some.answer) c.job_ask-ask.ensures.value said.acted)
          (back_left w.rings.under (Job c.args.number) c.job_ask-ask.result (job_ask_of w.rings.back c.args.number) (outcome_told c.in-Some.answer) c.back.new.self c.job_ask-ask.ensures.value said.under)
          (back_stepped c.job_tell.new.self.ring c.take_told-told.new.self.ring (job_step w.rings.back c.args.number c.in-Some.answer) (ap (λ (v : View). v.ring) c.job_tell.ensures.stepped) (ap (λ (v : View). v.ring) c.take_told-told.ensures.taken)))
          c.self.invariant.1,
    )

pub returns : goal.returns
returns g c =
    let w : World = world_of c.self.inside.front c.self.inside.back c.self.inside.under in
    let said = said_so w.rings.under c.back.new.self (Job c.args.number) c.job_ask-ask.result _ _ c.in-Ok.answer (Some c.in-Some.answer) c.in-Some.is (record { acted = c.in-Ok.ensures.acted; under = c.in-Ok.ensures.under; may_show = c.in-Ok.ensures.may_show; given = c.in-Ok.ensures.given; disk = c.in-Ok.ensures.disk }) in
    rw (← c.self.view_is) (job_seen c.args.number 1 w c.take_told-told.new.self c.back.new.self _ _ _ _ c.follow_job.result (job_bus c.args.number c.self.inside.back c.job_tell.new.self c.take_told-told.new.self c.in-Some.answer c.job_tell.ensures.stepped c.take_told-told.ensures.taken)
    (job_goes w.rings c.args.number (c.in-Some.answer, back_shown c.back.new.self (Job c.args.number) c.job_ask-ask.result c.in-Some.answer) c.take_told-told.new.self.ring c.back.new.self (back_lines c.take_told-told.result c.in-Some.answer) _ _ _ _ c.follow_job.result said.given
    (back_asked w.rings.under (Job c.args.number) c.job_ask-ask.result (job_ask_of w.rings.back c.args.number) (c.in-Some.answer, back_shown c.back.new.self (Job c.args.number) c.job_ask-ask.result c.in-Some.answer) c.job_ask-ask.ensures.value said.acted)
    (back_left w.rings.under (Job c.args.number) c.job_ask-ask.result (job_ask_of w.rings.back c.args.number) (outcome_told c.in-Some.answer) c.back.new.self c.job_ask-ask.ensures.value said.under)
    (back_did_disk c.job_ask-ask.result (job_ask_of w.rings.back c.args.number) (outcome_told c.in-Some.answer) _ _ c.job_ask-ask.ensures.value said.disk)
    (back_stepped c.job_tell.new.self.ring c.take_told-told.new.self.ring (job_step w.rings.back c.args.number c.in-Some.answer) (ap (λ (v : View). v.ring) c.job_tell.ensures.stepped) (ap (λ (v : View). v.ring) c.take_told-told.ensures.taken))
    (back_said c.job_tell.new.self.ring (job_step w.rings.back c.args.number c.in-Some.answer) c.in-Some.answer c.take_told-told.result (back_lines c.take_told-told.result c.in-Some.answer) (ap (λ (v : View). v.ring) c.job_tell.ensures.stepped) c.take_told-told.ensures.told refl)
    (rw (append-nil (back_lines c.take_told-told.result c.in-Some.answer)) (c.follow_job.ensures (Move (back_shown c.back.new.self (Job c.args.number) c.job_ask-ask.result c.in-Some.answer) ∷ []) _ c.show_back-shown.ensures))))
