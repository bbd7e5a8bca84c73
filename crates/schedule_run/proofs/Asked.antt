-- What a call said of its answer, by which answer that was.
use Rattle.std.proofs.Common.{◌≡◌, subst}
use Rattle.std.specs.Prelude.{Option, Some, None, IfSome}
use Rattle.std.proofs.lemmas.Option.{none-some}
use Rattle.blk_base.specs.declared.ask.FrontAsk.{FrontAsk}
use Rattle.blk_base.specs.declared.ask.FrontAnswer.{FrontAnswer}
use Rattle.blk_base.specs.declared.ask.BackAsk.{BackAsk}
use Rattle.blk_base.specs.declared.ask.BackAnswer.{BackAnswer}
use Rattle.blk_base.specs.declared.moves.BackMover.{BackMover}
use Rattle.blk_io.specs.Disk.{DiskSeen}
use Rattle.hypervisor.specs.Hypervisor.{Hypervisor}
use Rattle.hypervisor.specs.Act.{BackAct, IsGiven, Took, front_act, front_seen, front_shown, front_with_move, back_act, back_seen, back_under, back_with_move, outcome_of}
use Rattle.hypervisor.specs.Disk.{DiskDoes}
use Rattle.hypervisor.specs.May.{MayShow}

-- the front was told this, or had no move
pub front_told_so : (h : Hypervisor) (ask : FrontAsk) (told : Option FrontAnswer) (a : FrontAnswer) → told ≡ Some a → front_with_move ask told ≡ front_seen (front_act h ask) → Some (a, front_shown ask a) ≡ front_seen (front_act h ask)
front_told_so h ask told a is e = subst (λ (o : Option FrontAnswer). front_with_move ask o ≡ front_seen (front_act h ask)) is e

pub front_told_none : (h : Hypervisor) (ask : FrontAsk) (told : Option FrontAnswer) → told ≡ None → front_with_move ask told ≡ front_seen (front_act h ask) → None ≡ front_seen (front_act h ask)
front_told_none h ask told is e = subst (λ (o : Option FrontAnswer). front_with_move ask o ≡ front_seen (front_act h ask)) is e

-- what a call of the back or of a job said
pub record Said (h u : Hypervisor) (who : BackMover) (ask : BackAsk) (before after : DiskSeen) (told : Option BackAnswer) : Type 0 where
  pub acted : back_with_move u who ask told ≡ back_seen (back_act h who ask (outcome_of told))
  pub under : u ≡ back_under h (back_act h who ask (outcome_of told))
  pub may_show : IfSome told (λ (a : BackAnswer). MayShow u ask a)
  pub given : IsGiven (outcome_of told)
  pub disk : DiskDoes ask (outcome_of told) before after

pub said_so : (h u : Hypervisor) (who : BackMover) (ask : BackAsk) (before after : DiskSeen) (told told' : Option BackAnswer) → told ≡ told' → Said h u who ask before after told → Said h u who ask before after told'
said_so h u who ask before after told told' is said = subst (λ (o : Option BackAnswer). Said h u who ask before after o) is said

rests_at : (h u : Hypervisor) (act : Option BackAct) → None ≡ back_seen act → u ≡ back_under h act → u ≡ h
rests_at h u None e under = under
rests_at h u (Some a) e under = absurd (none-some (a.answer, a.shown) e)

-- where it had no move all is as it was
pub said_nothing : (h u : Hypervisor) (who : BackMover) (ask : BackAsk) (before after : DiskSeen) → Said h u who ask before after None → u ≡ h
said_nothing h u who ask before after said = rests_at h u (back_act h who ask Took) said.acted said.under
