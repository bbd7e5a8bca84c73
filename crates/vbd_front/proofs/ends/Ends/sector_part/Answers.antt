use Rattle.std.proofs.Common.{sym, ◌∙◌, refl, true, false}
use Rattle.std.specs.Prelude.{None}
use Rattle.vbd_front.specs.Inside.{view_of}
use Rattle.vbd_front.proofs.PartTurns.{part_by_turn, part_asks}
use Rattle.vbd_front.proofs.ends.Ends.sector_part.Goals as goal

pub returns-in_default : goal.returns-in_default
returns-in_default c =
    let value = part_by_turn c.args.self.now (view_of c.self.inside) c.args.turn true c.sector_part.result c.self.view_is c.requires c.in_default.not-Keys (sym c.ring_moves.ensures ∙ c.if-ring_moves.true) c.sector_part.ensures.value in
    record {
      value = value;
      asked = part_asks c.args.self.now (view_of c.self.inside) c.sector_part.result c.self.view_is value c.sector_part.ensures.asked;
      within = c.sector_part.ensures.within;
    }

pub returns-in_default-2 : goal.returns-in_default-2
returns-in_default-2 c = record {
  value = part_by_turn c.args.self.now (view_of c.self.inside) c.args.turn false None c.self.view_is c.requires c.in_default.not-Keys (sym c.ring_moves.ensures ∙ c.if-ring_moves.false) refl;
  asked = tt;
  within = tt;
}
