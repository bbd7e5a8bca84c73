-- The machine: an end in each of two domains, and what lies under both.
use Rattle.std.specs.Prelude.{ℕ, Bool, true, false, ◌&&◌, not, List, codes, nat_lt}
use Rattle.blk_base.specs.Options.{Options}
use Rattle.blk_base.specs.declared.parts.End.TheVariants as end
use Rattle.hypervisor.specs.Hypervisor.{Hypervisor, fresh}
use Rattle.hypervisor.specs.Act.{has_to_take}
use Rattle.hypervisor.specs.Suspend.{suspended as under_suspended}
use Rattle.segment_list.specs.declared.verdict.DiskInfo.{DiskInfo}
use Rattle.blk_front.specs.View as front
use Rattle.blk_front.specs.State.{is_open}
use Rattle.blk_front.specs.Suspend.{suspended as front_suspended}
use Rattle.blk_front.specs.Submit as front_submit
use Rattle.blk_back.specs.View as back
use Rattle.blk_base.specs.declared.halt.Halt.TheVariants as halt
use Rattle.blk_back.specs.Ask.{is_idle}
use Rattle.blk_back.specs.Step.{halts}

-- the front in domain 1; the back with its jobs in domain 0; memory, mappings, event channels and keys
pub record World : Type 0 where
  pub front : front.View
  pub back : back.View
  pub under : Hypervisor

-- the machine at the start: nothing is mapped, made or pending
abbrev pub start_of : Options → World
start_of config = record { front = front.start_of config; back = back.start_of config; under = fresh }

-- a back that waits for the terms of its front, of a ring of this first index and of this disk
abbrev pub new_back : (start : ℕ) → DiskInfo → back.View
new_back start info = back.new_of start info

-- after a suspend: where the front is closed or broken, so that its state is 6 (XenbusStateClosed of `io/xenbus.h`), the new back has halted, since its front is gone
abbrev pub back_for : (going : Bool) → back.View → back.View
back_for true b = b
back_for false b = halts (halt.Gone 6) b

abbrev pub state_after : (going : Bool) → List ℕ
state_after true = codes "1"
state_after false = codes "6"

-- a port may be made after a suspend: its number is below 2 ^ 32 - 1, and numbers of ports go on
abbrev pub may_suspend : World → Bool
may_suspend w = nat_lt w.under.channels.made 4294967294

-- the domain was suspended and resumes: the front keeps its frames and its unfinished requests, a new back begins, and everything between the domains vanished
abbrev pub suspended : World → World
suspended w = record {
  front = front_suspended w.front;
  back = let b : back.View = w.back in back_for (is_open w.front.stage) (new_back w.front.start b.jobs.info);
  under = under_suspended (state_after (is_open w.front.stage)) w.under;
}

-- quiet: the front doesn't wait for its negotiation, both ends wait, no job is held, and neither an event nor a watch is pending
abbrev pub is_quiet : World → Bool
is_quiet w = front_submit.is_idle w.front && is_idle w.back && not (has_to_take w.under end.Front) && not (has_to_take w.under end.Back)
