use Rattle.vbd_model.specs.World.{World}
use Rattle.schedule_run.specs.Inside.{world_of}
use Rattle.schedule_run.proofs.Moving.{front_close_fit, front_close_goes, back_close_fit}
use Rattle.schedule_run.proofs.split.Split.close.Goals as goal

pub close-requires : goal.close-requires
close-requires g c = record { told = c.self.invariant.0 }

pub invariant_of-self : goal.invariant_of-self
invariant_of-self g c =
    let w : World = world_of c.self.inside.front c.self.inside.back c.self.inside.under in
    front_close_fit w c.close.new.self c.follow_told.new.front c.self.invariant.1 c.close.ensures c.follow_told.ensures.taken

pub invariant_of-self-in-Back : goal.invariant_of-self-in-Back
invariant_of-self-in-Back g c =
    let w : World = world_of c.self.inside.front c.self.inside.back c.self.inside.under in
    (c.self.invariant.0, back_close_fit w c.close-in-Back.new.self c.self.invariant.1 c.close-in-Back.ensures)

pub returns-in-Front : goal.returns-in-Front
returns-in-Front g c =
    let w : World = world_of c.self.inside.front c.self.inside.back c.self.inside.under in
    rw (c.in-Front.is, ← c.self.view_is) (λ disk. front_close_goes w c.close.new.self c.follow_told.new.front disk _ _ c.follow_told.result c.self.invariant.1 c.close.ensures c.follow_told.ensures.taken c.follow_told.ensures.lines)
