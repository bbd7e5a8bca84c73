-- What is done at an ask of the back or of one of its jobs, with the disk that the back serves.
use Rattle.std.specs.Prelude.{◌≡◌, Option, Result, Ok, Err, IfSome}
use Rattle.blk_base.specs.declared.ask.BackAsk.{BackAsk}
use Rattle.blk_base.specs.declared.ask.BackAnswer.{BackAnswer}
use Rattle.blk_base.specs.declared.moves.BackMover.{BackMover}
use Rattle.blk_base.specs.declared.endpoint.OutOfMemory.{OutOfMemory}
use Rattle.blk_io.specs.Disk.{DiskSeen}
use Rattle.hypervisor.specs.Hypervisor.{Hypervisor}
use Rattle.hypervisor.specs.Act.{back_act, back_seen, back_under, back_with_move, outcome_of, IsGiven}
use Rattle.hypervisor.specs.May.{BackTakesMemory, MayShow}
use Rattle.hypervisor.specs.Disk.{DiskDoes}

-- it is done, and answered so; `None` where nothing was
pub record IsBackDone (who : BackMover) (ask : BackAsk) (answer : Option BackAnswer) (h now : Hypervisor) (a b : DiskSeen) : Type 0 where
  pub acted : back_with_move now who ask answer ≡ back_seen (back_act h who ask (outcome_of answer))
  pub under : now ≡ back_under h (back_act h who ask (outcome_of answer))
  pub may_show : IfSome answer (λ given. MayShow now ask given)
  pub given : IsGiven (outcome_of answer)
  pub disk : DiskDoes ask (outcome_of answer) a b

-- it takes memory, and there was none: nothing has changed
pub record LacksMemory (ask : BackAsk) (h now : Hypervisor) (a b : DiskSeen) : Type 0 where
  pub unchanged : now ≡ h
  pub untouched : b ≡ a
  pub memory : BackTakesMemory ask

abbrev pub BackDoes : BackMover → BackAsk → Result (Option BackAnswer) OutOfMemory → Hypervisor → Hypervisor → DiskSeen → DiskSeen → Type 0
BackDoes who ask (Ok answer) h now a b = IsBackDone who ask answer h now a b
BackDoes who ask (Err e) h now a b = LacksMemory ask h now a b
