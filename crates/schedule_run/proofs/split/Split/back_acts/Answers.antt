use Rattle.std.proofs.Common.{◌∷◌, [], ◌++◌, sym, subst}
use Rattle.std.specs.Prelude.{Some, None}
use Rattle.split_model.specs.Shown.{back_lines, halt_lines}
use Rattle.blk_base.specs.declared.moves.BackMover.TheVariants.{Back}
use Rattle.schedule_text.specs.declared.line.Line.TheVariants.{Move}
use Rattle.hypervisor.specs.Hypervisor.{Hypervisor}
use Rattle.hypervisor.specs.Act.{back_shown, Took}
use Rattle.vbd_model.specs.World.{World}
use Rattle.vbd_model.specs.Fit.{IsFit}
use Rattle.schedule_run.specs.Inside.{world_of}
use Rattle.schedule_run.proofs.Asked.{said_so, said_nothing}
use Rattle.schedule_run.proofs.Answered.{back_told}
use Rattle.schedule_run.proofs.Moving.{back_asked_may, back_lines_as, back_fit, back_goes_as, back_rests, back_lacks}
use Rattle.schedule_run.proofs.split.Split.back_acts.Goals as goal

pub back-requires : goal.back-requires
back-requires g c =
    let w : World = world_of c.self.inside.front c.self.inside.back c.self.inside.under in
    record { may = back_asked_may w c.args.self.now c.ask-ask.result _ c.self.view_is c.self.invariant.1 c.ask-ask.ensures.value c.ask-ask.ensures.names c.ask-ask.ensures.few c.requires.attached c.requires.left }

-- there was no memory for a key or a watch
pub returns-in_default : goal.returns-in_default
returns-in_default g c =
    let w : World = world_of c.self.inside.front c.self.inside.back c.self.inside.under in
    rw (← c.self.view_is) (back_lacks w c.ask-ask.result c.back.new.self _ _ _ c.ask-ask.ensures.value c.in_default.ensures.memory c.in_default.ensures.unchanged c.in_default.ensures.untouched)

pub invariant_of-self-in_default-answer : goal.invariant_of-self-in_default-answer
invariant_of-self-in_default-answer g c =
    let w : World = world_of c.self.inside.front c.self.inside.back c.self.inside.under in
    let said = said_so w.rings.under c.back.new.self Back c.ask-ask.result _ _ c.in-Ok.answer None c.in_default-answer.is (record { acted = c.in-Ok.ensures.acted; under = c.in-Ok.ensures.under; may_show = c.in-Ok.ensures.may_show; given = c.in-Ok.ensures.given; disk = c.in-Ok.ensures.disk }) in
    (c.self.invariant.0, subst (λ (u : Hypervisor). IsFit (world_of c.self.inside.front c.self.inside.back u)) (sym (said_nothing w.rings.under c.back.new.self Back c.ask-ask.result _ _ said)) c.self.invariant.1)

pub returns-in_default-answer : goal.returns-in_default-answer
returns-in_default-answer g c =
    let w : World = world_of c.self.inside.front c.self.inside.back c.self.inside.under in
    let said = said_so w.rings.under c.back.new.self Back c.ask-ask.result _ _ c.in-Ok.answer None c.in_default-answer.is (record { acted = c.in-Ok.ensures.acted; under = c.in-Ok.ensures.under; may_show = c.in-Ok.ensures.may_show; given = c.in-Ok.ensures.given; disk = c.in-Ok.ensures.disk }) in
    rw (← c.self.view_is) (back_rests w c.ask-ask.result Took c.back.new.self _ _ _ c.self.invariant.1 c.ask-ask.ensures.value said.acted said.under said.disk)

pub tell-requires : goal.tell-requires
tell-requires g c =
    let w : World = world_of c.self.inside.front c.self.inside.back c.self.inside.under in
    let fit = c.self.invariant.1 in
    let said = said_so w.rings.under c.back.new.self Back c.ask-ask.result _ _ c.in-Ok.answer (Some c.in-Some.answer) c.in-Some.is (record { acted = c.in-Ok.ensures.acted; under = c.in-Ok.ensures.under; may_show = c.in-Ok.ensures.may_show; given = c.in-Ok.ensures.given; disk = c.in-Ok.ensures.disk }) in
    (back_told w.rings.under c.self.inside.back c.ask-ask.result (c.in-Some.answer, back_shown c.back.new.self Back c.ask-ask.result c.in-Some.answer) c.ask-ask.ensures.value said.acted, fit.safe.back_told)

pub invariant_of-self-2 : goal.invariant_of-self-2
invariant_of-self-2 g c =
    let w : World = world_of c.self.inside.front c.self.inside.back c.self.inside.under in
    let said = said_so w.rings.under c.back.new.self Back c.ask-ask.result _ _ c.in-Ok.answer (Some c.in-Some.answer) c.in-Some.is (record { acted = c.in-Ok.ensures.acted; under = c.in-Ok.ensures.under; may_show = c.in-Ok.ensures.may_show; given = c.in-Ok.ensures.given; disk = c.in-Ok.ensures.disk }) in (
      c.self.invariant.0,
      back_fit w c.ask-ask.result (c.in-Some.answer, back_shown c.back.new.self Back c.ask-ask.result c.in-Some.answer) c.tell.new.self c.take_told-told.new.self c.back.new.self _ _ c.self.invariant.1
          (record { asked = c.ask-ask.ensures.value; seen_so = said.acted; under = said.under; disk = said.disk; stepped = c.tell.ensures.completed; taken = c.take_told-told.ensures.taken }),
    )

pub returns : goal.returns
returns g c =
    let w : World = world_of c.self.inside.front c.self.inside.back c.self.inside.under in
    let shown = back_shown c.back.new.self Back c.ask-ask.result c.in-Some.answer in
    let said = said_so w.rings.under c.back.new.self Back c.ask-ask.result _ _ c.in-Ok.answer (Some c.in-Some.answer) c.in-Some.is (record { acted = c.in-Ok.ensures.acted; under = c.in-Ok.ensures.under; may_show = c.in-Ok.ensures.may_show; given = c.in-Ok.ensures.given; disk = c.in-Ok.ensures.disk }) in
    rw (← c.self.view_is) (back_goes_as w c.ask-ask.result (c.in-Some.answer, shown) c.tell.new.self c.take_told-told.new.self c.back.new.self _ _ (back_lines c.take_told-told.result c.in-Some.answer ++ halt_lines c.halted-before.result c.halted.result) _ _ c.follow_back.result c.self.invariant.1
    (record { asked = c.ask-ask.ensures.value; seen_so = said.acted; under = said.under; disk = said.disk; stepped = c.tell.ensures.completed; taken = c.take_told-told.ensures.taken })
    (back_lines_as w c.tell.new.self c.take_told-told.new.self c.take_told-told.result c.in-Some.answer c.halted-before.result c.halted.result c.take_told-told.ensures.told c.take_told-told.ensures.taken c.halted-before.ensures c.halted.ensures)
    (c.follow_back.ensures (Move shown ∷ []) _ c.show_back-shown.ensures))
