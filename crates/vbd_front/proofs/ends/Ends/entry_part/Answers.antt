use Rattle.std.proofs.Common.{sym, ◌∙◌, refl, true, false, subst}
use Rattle.std.specs.Prelude.{None, IfSome}
use Rattle.blk_front.specs.Part.{IsEntryWithin}
use Rattle.vbd_front.specs.Inside.{view_of}
use Rattle.vbd_front.specs.Keep.{KeepingView}
use Rattle.vbd_front.specs.Part.{entry_words}
use Rattle.vbd_front.proofs.PartTurns.{entry_by_turn, entry_asks}
use Rattle.vbd_front.proofs.ends.Ends.entry_part.Goals as goal

pub returns-in_default : goal.returns-in_default
returns-in_default c =
    let value = entry_by_turn c.args.self.now (view_of c.self.inside) c.args.turn true c.entry_part.result c.self.view_is c.requires c.in_default.not-Keys (sym c.ring_moves.ensures ∙ c.if-ring_moves.true) c.entry_part.ensures.value in
    record {
      value = value;
      asked = entry_asks c.args.self.now (view_of c.self.inside) c.entry_part.result c.self.view_is value c.entry_part.ensures.asked;
      within = subst (λ (k : KeepingView). IfSome c.entry_part.result (IsEntryWithin (entry_words k.ends))) c.self.view_is c.entry_part.ensures.within;
    }

pub returns-in_default-2 : goal.returns-in_default-2
returns-in_default-2 c = record {
  value = entry_by_turn c.args.self.now (view_of c.self.inside) c.args.turn false None c.self.view_is c.requires c.in_default.not-Keys (sym c.ring_moves.ensures ∙ c.if-ring_moves.false) refl;
  asked = tt;
  within = tt;
}
