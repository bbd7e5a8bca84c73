-- What holds of each of the five forms of a generated line holds of the line that three words say.
use Rattle.std.proofs.Common.{◌+◌, ◌%◌, ◌==◌, nat_le, Bool, true, false, cond}
use Rattle.schedule_text.specs.declared.event.Event.{Event}
use Rattle.schedule_text.specs.declared.event.Event.TheVariants as events
use Rattle.bench_load.specs.Generated.{Words, write_by, read_by, event_by}

either : (P : Event → Type 0) (b : Bool) (x y : Event) → P x → P y → P (cond b x y)
either P true x y p q = p
either P false x y p q = q

pub by_form : (P : Event → Type 0) (w : Words) → P (events.Submit (write_by w)) → P (events.Submit (read_by w)) → P (events.Turn (1 + w.size % 500)) → P (events.Job (1 + w.place % 8) (1 + w.size % 300)) → P events.Settle
    → P (event_by w)
by_form P w write read turn job settle =
    either P (nat_le (w.kind % 10) 3) _ _ write
    (either P (nat_le (w.kind % 10) 6) _ _ read
    (either P (w.kind % 10 == 7) _ _ turn
    (either P (w.kind % 10 == 8) _ _ job settle)))
