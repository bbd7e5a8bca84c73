use Rattle.std.proofs.Common.{◌∷◌, [], refl, ◌∙◌}
use Rattle.split_model.specs.Happening as ring
use Rattle.split_model.proofs.Moving.{overwrote_goes}
use Rattle.vbd_model.specs.World.{World}
use Rattle.vbd_model.specs.Happening.{OverwritesKey}
use Rattle.vbd_model.specs.Leads.{Is}
use Rattle.vbd_model.proofs.Mappings.{ring_left}
use Rattle.schedule_run.specs.Inside.{world_of}
use Rattle.schedule_run.proofs.Moving.{rings_alone, rings_fit, wrote_key, overwrote, key_lacks}
use Rattle.schedule_run.proofs.split.Split.overwrite_key.Goals as goal

-- there was no memory for the key
pub returns-in_default : goal.returns-in_default
returns-in_default g c =
    let w : World = world_of c.self.inside.front c.self.inside.back c.self.inside.under in
    rw (← c.self.view_is) (λ disk. key_lacks w c.args.name.now c.args.text.now c.front.new.self disk _ c.in_default.ensures.unchanged)

pub invariant_of-self-2 : goal.invariant_of-self-2
invariant_of-self-2 g c =
    let w : World = world_of c.self.inside.front c.self.inside.back c.self.inside.under in
    let wrote = wrote_key w.rings.under c.args.name.now c.at.result c.args.text.now c.at-2.result c.front.new.self (c.at.ensures ∙ c.path_of-path.ensures) c.at-2.ensures c.in-Ok.ensures.under in (
      c.self.invariant.0,
      rings_fit (OverwritesKey c.args.name.now c.args.text.now) (ring.OverwritesKey c.args.name.now c.args.text.now) w _ refl refl refl
          (overwrote w.rings c.args.name.now c.args.text.now c.front.new.self c.requires.allowed wrote) c.self.invariant.1,
    )

pub returns : goal.returns
returns g c =
    let w : World = world_of c.self.inside.front c.self.inside.back c.self.inside.under in
    let h = OverwritesKey c.args.name.now c.args.text.now in
    let wrote = wrote_key w.rings.under c.args.name.now c.at.result c.args.text.now c.at-2.result c.front.new.self (c.at.ensures ∙ c.path_of-path.ensures) c.at-2.ensures c.in-Ok.ensures.under in
    rw (← c.self.view_is) (λ disk. rings_alone (Is (h ∷ [])) (Is (h ∷ [])) 0 0 h (ring.OverwritesKey c.args.name.now c.args.text.now) w _ disk disk _ _ c.add.result refl refl refl refl refl
    (ring_left w.rings (ring.OverwritesKey c.args.name.now c.args.text.now))
    (overwrote_goes w.rings c.args.name.now c.args.text.now c.front.new.self disk _ _ c.add.result c.requires.allowed wrote c.add.ensures))
