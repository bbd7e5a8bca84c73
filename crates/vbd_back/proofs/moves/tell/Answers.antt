use Rattle.std.proofs.Common.{sym, ◌∙◌}
use Rattle.vbd_back.specs.View.{both}
use Rattle.vbd_back.proofs.Turns.{ring_answers, ring_steps}
use Rattle.vbd_back.proofs.moves.tell.Goals as goal

pub move_ring-requires : goal.move_ring-requires
move_ring-requires c =
    let moves = sym c.ring_moves.ensures ∙ c.if-ring_moves.true in
    record {
      moves = moves;
      kind = ring_answers (both c.args.ring.now c.args.bus.now) c.args.answer.now (λ k. c.in_default.not-Keys (c.requires.turn ∙ k)) moves c.requires.kind;
      heard = c.requires.heard;
    }

pub returns-in_default : goal.returns-in_default
returns-in_default c = record {
  stepped = c.move_ring.ensures.stepped
      ∙ sym (ring_steps c.args.most (both c.args.ring.now c.args.bus.now) c.args.answer.now (λ k. c.in_default.not-Keys (c.requires.turn ∙ k)) (sym c.ring_moves.ensures ∙ c.if-ring_moves.true));
}
