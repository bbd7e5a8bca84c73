use Rattle.std.proofs.Common.{◌∷◌, [], refl}
use Rattle.split_model.specs.Happening as ring
use Rattle.split_model.proofs.Moving.{poked_goes}
use Rattle.vbd_model.specs.World.{World}
use Rattle.vbd_model.specs.Happening.{Pokes}
use Rattle.vbd_model.specs.Leads.{Is}
use Rattle.vbd_model.proofs.Mappings.{ring_left}
use Rattle.schedule_run.specs.Inside.{world_of}
use Rattle.schedule_run.proofs.Moving.{rings_alone, rings_fit, poked}
use Rattle.schedule_run.proofs.split.Split.poke.Goals as goal

pub invariant_of-self : goal.invariant_of-self
invariant_of-self g c =
    let w : World = world_of c.self.inside.front c.self.inside.back c.self.inside.under in (
      c.self.invariant.0,
      rings_fit (Pokes c.args.frame c.args.word c.args.value) (ring.Pokes c.args.frame c.args.word c.args.value) w _ refl refl refl
          (poked w.rings c.args.frame c.args.word c.args.value c.overwrite.new.self c.requires.there c.overwrite.ensures) c.self.invariant.1,
    )

pub returns-clause-goes : goal.returns-clause-goes
returns-clause-goes g c =
    let w : World = world_of c.self.inside.front c.self.inside.back c.self.inside.under in
    let h = Pokes c.args.frame c.args.word c.args.value in
    rw (← c.self.view_is) (λ disk. rings_alone (Is (h ∷ [])) (Is (h ∷ [])) 0 0 h (ring.Pokes c.args.frame c.args.word c.args.value) w _ disk disk _ _ c.add.result refl refl refl refl refl
    (ring_left w.rings (ring.Pokes c.args.frame c.args.word c.args.value))
    (poked_goes w.rings c.args.frame c.args.word c.args.value c.overwrite.new.self disk _ _ c.add.result c.requires.there c.overwrite.ensures c.add.ensures))
