use Rattle.std.proofs.Common.{◌^◌, refl, subst}
use Rattle.schedule_run.specs.Reading.{IsBadLine}
use Rattle.schedule_run.proofs.Carrying.{line_goes, line_stops, line_silent, unread}
use Rattle.schedule_run.proofs.schedule.reading.Reader.end_line.Goals.{in-Some+in_default-event, in_default}
use Rattle.schedule_run.proofs.schedule.reading.Reader.end_line.Goals as goal

pub returns : goal.returns
returns g c = elim c.match-event.branch [
  | in-Some+in_default-event w ↦ record {
    carried = rw (w.self-is, w.disk-is, w.recorder-is) (line_goes _ _ _ _ _ _ (10 ^ 10) _ _ _ w.in_default-event.not-Err c.as_slice.ensures.value w.in-Some.is c.in-Ok.ensures.found w.event.ensures.counted w.event.ensures.goes);
    part = c.clear.ensures;
    lines = refl;
  }
  | in_default w ↦ record {
    carried = rw (w.self-is, w.disk-is, w.recorder-is) (line_silent _ _ _ _ _ _ c.as_slice.ensures.value w.in_default.is c.in-Ok.ensures.found refl);
    part = c.clear.ensures;
    lines = refl;
  }
]

pub returns-in-Err-event : goal.returns-in-Err-event
returns-in-Err-event g c = rw c.stop_of.ensures (line_stops _ _ _ _ _ (10 ^ 10) _ c.in-Err-event.stop _ _ c.in-Err-event.is c.as_slice.ensures.value c.in-Some.is c.in-Ok.ensures.found c.event.ensures.goes)

pub returns-in-Err : goal.returns-in-Err
returns-in-Err g c = (refl, subst IsBadLine c.as_slice.ensures.value (unread _ _ c.in-Err.ensures.silent c.in-Err.ensures.only), refl)
