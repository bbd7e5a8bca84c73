use Rattle.std.proofs.Common.{ℕ, List, ap, sym, refl, ◌∙◌}
use Rattle.hypervisor.specs.Hypervisor.{Hypervisor}
use Rattle.hypervisor.specs.Suspend.{suspended}
use Rattle.vbd_back.specs.View.{renewed}
use Rattle.vbd_model.specs.World.{World}
use Rattle.schedule_run.specs.Inside.{world_of}
use Rattle.schedule_run.proofs.Suspended.{suspended_is, still_heard, suspended_fit, suspended_goes, suspend_lacks}
use Rattle.schedule_run.proofs.split.Split.suspend.Goals as goal

-- no number for another port is left
pub returns-then-not-may_suspend : goal.returns-then-not-may_suspend
returns-then-not-may_suspend g c =
    let w : World = world_of c.self.inside.front c.self.inside.back c.self.inside.under in
    rw (← c.self.view_is) (λ disk. suspend_lacks w w disk _ refl)

-- there was no memory for a new back
pub returns-in_default : goal.returns-in_default
returns-in_default g c =
    let w : World = world_of c.self.inside.front c.self.inside.back c.self.inside.under in
    rw (← c.self.view_is) (λ disk. suspend_lacks w w disk _ refl)

-- there was none for the keys
pub returns-in_default-suspend : goal.returns-in_default-suspend
returns-in_default-suspend g c =
    let w : World = world_of c.self.inside.front c.self.inside.back c.self.inside.under in
    let v : World = world_of c.self.inside.front c.self.inside.back c.suspend.new.self in
    rw (← c.self.view_is) (λ disk. suspend_lacks w v disk _ (ap (λ (u : Hypervisor). world_of c.self.inside.front c.self.inside.back u) c.in_default-suspend.ensures.err))

pub invariant_of-self-2 : goal.invariant_of-self-2
invariant_of-self-2 g c =
    let f = c.self.inside.front in
    let w : World = world_of f c.self.inside.back c.self.inside.under in
    let same = suspended_is f c.self.inside.back c.self.inside.under c.suspend-2.new.self c.in-Ok.back c.suspend.new.self c.is_open-going.result c.is_open-going.ensures
    (sym c.may_suspend.ensures ∙ c.if-not-may_suspend.false) c.suspend-2.ensures
    (c.in-Ok.ensures ∙ ap (λ (n : ℕ). renewed n c.is_open-going.result c.self.inside.back) c.start.ensures)
    (c.in-Ok-suspend.ensures.ok ∙ ap (λ (text : List ℕ). suspended text c.self.inside.under) c.state_of.ensures) in
    (still_heard f c.suspend-2.new.self c.suspend-2.ensures c.self.invariant.0, suspended_fit w _ same c.self.invariant.1)

pub returns : goal.returns
returns g c =
    let f = c.self.inside.front in
    let w : World = world_of f c.self.inside.back c.self.inside.under in
    let may = sym c.may_suspend.ensures ∙ c.if-not-may_suspend.false in
    let same = suspended_is f c.self.inside.back c.self.inside.under c.suspend-2.new.self c.in-Ok.back c.suspend.new.self c.is_open-going.result c.is_open-going.ensures
    may c.suspend-2.ensures
    (c.in-Ok.ensures ∙ ap (λ (n : ℕ). renewed n c.is_open-going.result c.self.inside.back) c.start.ensures)
    (c.in-Ok-suspend.ensures.ok ∙ ap (λ (text : List ℕ). suspended text c.self.inside.under) c.state_of.ensures) in
    rw (← c.self.view_is) (λ disk. suspended_goes w _ disk _ _ c.add.result may same c.add.ensures)
