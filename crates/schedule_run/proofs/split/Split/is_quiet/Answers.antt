use Rattle.std.proofs.Common.{◌≡◌, Bool, true, false, true≢false, not, ◌&&◌, refl, ap, sym, ◌∙◌, if◌then◌else◌}
use Rattle.std.specs.Prelude.{None}
use Rattle.blk_base.specs.declared.ask.FrontAsk.{FrontAsk}
use Rattle.blk_front.specs.Submit.{is_wait}
use Rattle.blk_base.specs.declared.parts.End.TheVariants.{Front, Back}
use Rattle.hypervisor.specs.Act.{has_to_take}
use Rattle.vbd_front.specs.View as front
use Rattle.vbd_front.specs.Ask.{is_waiting, bus_ask_of, speaks, key_ask, ring_ask, ring_moves}
use Rattle.vbd_back.specs.View as back
use Rattle.vbd_back.specs.Ask.{is_idle}
use Rattle.schedule_run.proofs.split.Split.is_quiet.Goals as goal
use Rattle.schedule_run.proofs.split.Split.is_quiet.Goals.{then-waits, else-waits, then-idle, else-idle}

-- what it has to tell is no matter of what it asks
ring_same : (moves : Bool) (f : front.View) → ring_ask moves f ≡ ring_ask moves (record f { news = None })
ring_same true f = refl
ring_same false f = refl

waits_same : (f : front.View) → is_waiting f ≡ is_waiting (record f { news = None })
waits_same f = ap (λ (ask : FrontAsk). is_wait (if speaks (bus_ask_of f) then key_ask (bus_ask_of f) else ask)) (ring_same (ring_moves (bus_ask_of f) f.ring.stage) f)

all_same : (f : front.View) (idle here there : Bool) → ((is_waiting f && idle) && here) && there ≡ ((is_waiting (record f { news = None }) && idle) && here) && there
all_same f idle here there = ap (λ (waits : Bool). ((waits && idle) && here) && there) (waits_same f)

picked : (a b value : Bool) → a ≡ true → value ≡ b → value ≡ a && b
picked true b value e same = same
picked false b value e same = absurd (true≢false (sym e))

left_out : (a b value : Bool) → a ≡ false → value ≡ false → value ≡ a && b
left_out true b value e same = absurd (true≢false e)
left_out false b value e same = same

pub returns-then-not-has_to_take : goal.returns-then-not-has_to_take
returns-then-not-has_to_take c =
    let f : front.View = c.self.inside.front in
    let b : back.View = c.self.inside.back in
    let here : Bool = not (has_to_take c.self.inside.under Front) in
    let there : Bool = not (has_to_take c.self.inside.under Back) in
    let ends : Bool = is_waiting f && is_idle b in
    let first : c.if-waits.value ≡ ends = elim c.if-waits.branch [
      | then-waits w ↦ picked (is_waiting f) (is_idle b) c.if-waits.value (sym c.waits.ensures ∙ w.if-waits.true) (w.value-is ∙ w.idle.ensures)
      | else-waits w ↦ left_out (is_waiting f) (is_idle b) c.if-waits.value (sym c.waits.ensures ∙ w.if-waits.false) (w.value-is ∙ w.if-waits.false)
    ] in
    let second : c.if-idle.value ≡ ends && here = elim c.if-idle.branch [
      | then-idle w ↦ picked ends here c.if-idle.value (sym first ∙ w.if-idle.true) (w.value-is ∙ ap not w.has_to_take.ensures)
      | else-idle w ↦ left_out ends here c.if-idle.value (sym first ∙ w.if-idle.false) (w.value-is ∙ w.if-idle.false)
    ] in
    rw (← c.self.view_is) (picked (ends && here) there _ (sym second ∙ c.if-not-has_to_take.true) (ap not c.has_to_take-then-not-has_to_take.ensures) ∙ all_same f (is_idle b) here there)

pub returns-else-not-has_to_take : goal.returns-else-not-has_to_take
returns-else-not-has_to_take c =
    let f : front.View = c.self.inside.front in
    let b : back.View = c.self.inside.back in
    let here : Bool = not (has_to_take c.self.inside.under Front) in
    let there : Bool = not (has_to_take c.self.inside.under Back) in
    let ends : Bool = is_waiting f && is_idle b in
    let first : c.if-waits.value ≡ ends = elim c.if-waits.branch [
      | then-waits w ↦ picked (is_waiting f) (is_idle b) c.if-waits.value (sym c.waits.ensures ∙ w.if-waits.true) (w.value-is ∙ w.idle.ensures)
      | else-waits w ↦ left_out (is_waiting f) (is_idle b) c.if-waits.value (sym c.waits.ensures ∙ w.if-waits.false) (w.value-is ∙ w.if-waits.false)
    ] in
    let second : c.if-idle.value ≡ ends && here = elim c.if-idle.branch [
      | then-idle w ↦ picked ends here c.if-idle.value (sym first ∙ w.if-idle.true) (w.value-is ∙ ap not w.has_to_take.ensures)
      | else-idle w ↦ left_out ends here c.if-idle.value (sym first ∙ w.if-idle.false) (w.value-is ∙ w.if-idle.false)
    ] in
    rw (← c.self.view_is) (left_out (ends && here) there c.if-idle.value (sym second ∙ c.if-not-has_to_take.false) c.if-not-has_to_take.false ∙ all_same f (is_idle b) here there)
