use Rattle.std.proofs.Common.{◌∷◌, []}
use Rattle.schedule_text.specs.declared.line.Line.TheVariants.{Move}
use Rattle.hypervisor.specs.Act.{front_shown}
use Rattle.vbd_model.specs.World.{World}
use Rattle.schedule_run.specs.Inside.{world_of}
use Rattle.schedule_run.proofs.Asked.{front_told_so, front_told_none}
use Rattle.schedule_run.proofs.Answered.{front_told}
use Rattle.schedule_run.proofs.Moving.{front_asked_may, front_rests, front_fit, front_goes_as, front_lacks, heard_now, asked_now}
use Rattle.schedule_run.proofs.split.Split.front_acts.Goals as goal

pub front-requires : goal.front-requires
front-requires g c =
    let w : World = world_of c.self.inside.front c.self.inside.back c.self.inside.under in
    record { may = front_asked_may w c.ask-ask.result c.self.invariant.1 (asked_now c.self.inside.front c.ask-ask.result c.self.invariant.0 c.ask-ask.ensures.value) c.ask-ask.ensures.within }

-- there was no memory for a key or a watch
pub returns-in_default : goal.returns-in_default
returns-in_default g c =
    let w : World = world_of c.self.inside.front c.self.inside.back c.self.inside.under in
    rw (← c.self.view_is) (λ disk. front_lacks w c.ask-ask.result c.front.new.self disk _
    (asked_now c.self.inside.front c.ask-ask.result c.self.invariant.0 c.ask-ask.ensures.value) c.in_default.ensures.memory c.in_default.ensures.unchanged)

pub returns-in_default-answer : goal.returns-in_default-answer
returns-in_default-answer g c =
    let w : World = world_of c.self.inside.front c.self.inside.back c.self.inside.under in
    let asked = asked_now c.self.inside.front c.ask-ask.result c.self.invariant.0 c.ask-ask.ensures.value in
    rw (← c.self.view_is) (λ disk. front_rests w c.ask-ask.result c.front.new.self disk _ c.self.invariant.1 asked
    (front_told_none w.rings.under c.ask-ask.result c.in-Ok.answer c.in_default-answer.is c.in-Ok.ensures.acted) c.in-Ok.ensures.under)

pub tell-requires : goal.tell-requires
tell-requires g c =
    let w : World = world_of c.self.inside.front c.self.inside.back c.self.inside.under in
    let fit = c.self.invariant.1 in
    let acted = front_told_so w.rings.under c.ask-ask.result c.in-Ok.answer c.in-Some.answer c.in-Some.is c.in-Ok.ensures.acted in
    (front_told w.rings.under c.self.inside.front c.ask-ask.result c.in-Some.answer c.ask-ask.ensures.value acted, fit.safe.front_told)

pub invariant_of-self-2 : goal.invariant_of-self-2
invariant_of-self-2 g c =
    let w : World = world_of c.self.inside.front c.self.inside.back c.self.inside.under in
    let acted = front_told_so w.rings.under c.ask-ask.result c.in-Ok.answer c.in-Some.answer c.in-Some.is c.in-Ok.ensures.acted in
    front_fit w c.ask-ask.result (c.in-Some.answer, front_shown c.ask-ask.result c.in-Some.answer) c.tell.new.self c.follow_told.new.front c.front.new.self c.self.invariant.1
    (asked_now c.self.inside.front c.ask-ask.result c.self.invariant.0 c.ask-ask.ensures.value) acted c.in-Ok.ensures.under (heard_now c.self.inside.front c.tell.new.self c.in-Some.answer c.self.invariant.0 c.tell.ensures.completed) c.follow_told.ensures.taken

pub returns : goal.returns
returns g c =
    let w : World = world_of c.self.inside.front c.self.inside.back c.self.inside.under in
    let shown = front_shown c.ask-ask.result c.in-Some.answer in
    let acted = front_told_so w.rings.under c.ask-ask.result c.in-Ok.answer c.in-Some.answer c.in-Some.is c.in-Ok.ensures.acted in
    rw (← c.self.view_is) (λ disk. front_goes_as w c.ask-ask.result (c.in-Some.answer, shown) c.tell.new.self c.follow_told.new.front c.front.new.self disk _ _ c.follow_told.result c.self.invariant.1
    (asked_now c.self.inside.front c.ask-ask.result c.self.invariant.0 c.ask-ask.ensures.value) acted c.in-Ok.ensures.under (heard_now c.self.inside.front c.tell.new.self c.in-Some.answer c.self.invariant.0 c.tell.ensures.completed) c.follow_told.ensures.taken
    (c.follow_told.ensures.lines (Move shown ∷ []) _ c.show_front-shown.ensures))
