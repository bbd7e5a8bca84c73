-- Both ends keep to the entries of their ring, whatever happens to them.
use Rattle.std.proofs.Common.{ℕ, ◌^◌, ◌<◌, ◌≤◌, List, [], ◌∷◌, refl, arith}
use Rattle.std.specs.Prelude.{Option, Some, None}
use Rattle.std.proofs.lemmas.List.Elements.{All-nil}
use Rattle.blk_base.specs.Options.{Options}
use Rattle.hypervisor.specs.Act.{FrontAct, BackAct, Took}
use Rattle.blk_front.specs.Step as front_step
use Rattle.blk_front.specs.View as front
use Rattle.blk_back.specs.Step as back_step
use Rattle.blk_base.specs.declared.halt.Halt.TheVariants as halt
use Rattle.blk_back.specs.View as back
use Rattle.blk_back.specs.View.{info_of}
use Rattle.segment_list.specs.declared.verdict.DiskInfo.{DiskInfo}
use Rattle.split_model.specs.World.{World, start_of, new_back, suspended}
use Rattle.split_model.specs.Happening.{Happening, FrontMoves, BackMoves, JobMoves, FrontEnters, BackAttaches, BackHalts, Submits, Suspends, happens, after, front_after, back_after, job_after, front_turn, back_turn, job_turn}
use Rattle.split_model.proofs.FewFront.{IsShort, IsModest, step_modest, entered_modest, submit_modest, suspended_modest}
use Rattle.split_model.proofs.SafeFront.{start_front, entered_kept, submit_kept}
use Rattle.split_model.proofs.Suspending.{suspend_cases, front_kept, begun_back, back_cases}
use Rattle.back_laws.proofs.Room.{HasRoom, back_room, attached_room, halted_room, job_room}
use Rattle.split_model.proofs.Attaching.{attach_cases}

pub record IsTight (w : World) : Type 0 where
  pub front : IsModest w.front
  pub start : w.front.start < 2 ^ 32
  pub back : HasRoom w.back

-- a back that waits for the terms of its front
new_room : (start : ℕ) (info : DiskInfo) → start < 2 ^ 32 → HasRoom (new_back start info)
new_room start info small = record { entries = omega arith; prod = small; cons = small; room = refl }

pub tight_start : (config : Options) → config.order ≤ 4 → config.start < 2 ^ 32 → IsTight (start_of config)
tight_start config narrow small = record {
  front = record { order = narrow; room = omega arith; short = All-nil IsShort; ending = tt; size = refl; used = omega arith };
  start = small;
  back = new_room config.start (info_of config) small;
}

-- what an end tells is no part of it
untold_front : (v : front.View) → IsModest v → IsModest (record v { told = None })
untold_front v m = record { order = m.order; room = m.room; short = m.short; ending = m.ending; size = m.size; used = m.used }

untold_back : (v : back.View) → HasRoom v → HasRoom (record v { told = None })
untold_back v h = record { entries = h.entries; prod = h.prod; cons = h.cons; room = h.room }

front_tight : (w : World) (act : Option FrontAct) → IsTight w → IsTight (front_after w act)
front_tight w None t = t
front_tight w (Some a) t = record { front = untold_front (front_step.step_of w.front a.answer) (step_modest w.front a.answer t.front); start = rw (start_front w.front a.answer) t.start; back = t.back }

back_tight : (w : World) (act : Option BackAct) → IsTight w → IsTight (back_after w act)
back_tight w None t = t
back_tight w (Some a) t = record { front = t.front; start = t.start; back = untold_back (back_step.step_of w.back a.answer) (back_room w.back a.answer t.back) }

job_tight : (w : World) (number : ℕ) (act : Option BackAct) → IsTight w → IsTight (job_after w number act)
job_tight w number None t = t
job_tight w number (Some a) t = record { front = t.front; start = t.start; back = untold_back (back_step.job_step w.back number a.answer) (job_room w.back number a.answer t.back) }

tight_suspended : (w : World) → IsTight w → IsTight (suspended w)
tight_suspended w t = record {
  front = suspended_modest w.front t.front;
  start = rw (front_kept w.front).start t.start;
  back = let room = new_room w.front.start (let b : back.View = w.back in b.jobs.info) t.start in back_cases HasRoom w room (halted_room (halt.Gone 6) (begun_back w) room);
}

pub tight_happens : (w : World) (h : Happening) → IsTight w → IsTight (happens w h)
tight_happens w FrontMoves t = front_tight w (front_turn w) t
tight_happens w BackMoves t = back_tight w (back_turn w Took) t
tight_happens w (JobMoves number outcome) t = job_tight w number (job_turn w number outcome) t
tight_happens w (FrontEnters state) t = record { front = entered_modest state w.front t.front; start = rw (entered_kept state w.front).start t.start; back = t.back }
tight_happens w (BackAttaches shape grefs port) t = record { front = t.front; start = t.start; back = attach_cases (λ v shown. HasRoom v) w shape grefs port (λ may layout says. attached_room shape grefs port w.back may t.back) t.back }
tight_happens w (BackHalts why) t = record { front = t.front; start = t.start; back = halted_room why w.back t.back }
tight_happens w (Submits job) t = record { front = submit_modest w.front job t.front; start = rw (submit_kept w.front job).start t.start; back = t.back }
tight_happens w Suspends t = suspend_cases (λ v shown. IsTight v) w (λ may. tight_suspended w t) t
tight_happens w h t = record { front = t.front; start = t.start; back = t.back }

pub tight_after : (hs : List Happening) (w : World) → IsTight w → IsTight (after hs w)
tight_after [] w t = t
tight_after (h ∷ hs) w t = tight_after hs (happens w h) (tight_happens w h t)
