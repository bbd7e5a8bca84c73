use Rattle.std.proofs.Common.{ℕ, List, Err, inr, subst, ap, refl, ◌≡◌, ◌≤◌, ◌<◌, ◌+◌, ◌-◌, ◌++◌, min, length, take, drop, arith, ◌∙◌, length-append, length-drop}
use Rattle.std.proofs.lemmas.List.{length-take, length-replicate}
use Rattle.std.proofs.lemmas.Result.{err_from_is_err_and}
use Rattle.blk_io.specs.Outside.{Rose, SourceSeen}
use Rattle.blk_io.specs.Disk.{DiskSeen}
use Rattle.schedule_text.specs.Recorder.{RecorderSeen}
use Rattle.vbd_model.specs.Leads.{moment}
use Rattle.schedule_run.specs.Machine.{Run}
use Rattle.schedule_run.specs.Carrying.{ReadSoFar, read_so_far, ReadsHandedOn, ReadsAll}
use Rattle.schedule_run.specs.declared.schedule.RunStop.{RunStop}
use Rattle.schedule_run.specs.declared.schedule.RunStop.TheVariants as stop
use Rattle.schedule_run.proofs.Taking.{IsFirst, HasTaken, taken_none, taken_front, taken_handed, stopped_front, at_end, read_failed, read_unsent, read_too_long, ready_taken}
use Rattle.schedule_run.proofs.schedule.reading.Reader.read_all.Goals as goal

-- how much was asked for, and how much came
some_room : (piece buffer : List ℕ) (most room : ℕ) → length piece ≡ 4096 → most ≡ min room 4096 → 0 < room → length buffer ≡ length (take most piece) → 0 < length buffer
some_room piece buffer most room size is some e = let f = length-take most piece in omega arith

count_fits : (piece buffer : List ℕ) (most room count : ℕ) → length piece ≡ 4096 → most ≡ min room 4096 → count ≤ length buffer → length buffer ≡ length (take most piece) → count ≤ room
count_fits piece buffer most room count size is fits e = let f = length-take most piece in omega arith

same_size : (piece buffer : List ℕ) (most room : ℕ) → length piece ≡ 4096 → most ≡ min room 4096 → length buffer ≡ length (take most piece) → length (buffer ++ drop most piece) ≡ 4096
same_size piece buffer most room size is e =
    let f = length-take most piece in
    let g = length-append buffer (drop most piece) in
    let h = length-drop most piece in
    omega arith

no_more : (count room : ℕ) (bytes : List ℕ) → count ≤ room → length (take count bytes) ≤ room
no_more count room bytes le = let f = length-take count bytes in omega arith

less : (room count : ℕ) → count ≤ room → (room - count) + count ≡ room
less room count fits = omega arith

pub loop-room-init : goal.loop-room-init
loop-room-init g c = record { taken = taken_none _ _ _ c.requires.fresh.part; size = length-replicate {A = ℕ} 4096 0; unfailed = refl }

-- nothing was read: the recorder failed to hand on what it kept back, or the source failed
unread : (limit room : ℕ) (a b d : SourceSeen) (s : ReadSoFar) (run : Run) (part : List ℕ) (lines : ℕ) (disk : DiskSeen) (r t : RecorderSeen) (buffer : List ℕ) (why : RunStop) → IsFirst limit s → b.faults ≡ a.faults
    → HasTaken a.left b.left limit room s (read_so_far run part lines disk r) → ReadsHandedOn buffer (Err why) b d r t → ReadsAll limit (Err why) a d s.at (moment run.world disk t)
unread limit room a b d s run part lines disk r t buffer stop.Source first unfailed taken failed = (
  subst (λ (n : ℕ). Rose n d.faults) unfailed failed.1.rose,
  read_failed a.left b.left d.left limit room s (read_so_far run part lines disk t) first failed.1.left (taken_handed a.left b.left limit room s run part lines disk r t failed.0 taken),
)
unread limit room a b d s run part lines disk r t buffer stop.Sink first unfailed taken failed = (
  ap (λ (x : SourceSeen). x.faults) failed.1 ∙ unfailed,
  inr (read_unsent a.left b.left limit room s run part lines disk r t first failed.0 taken),
)
unread limit room a b d s run part lines disk r t buffer stop.TooLong first unfailed taken failed = absurd failed
unread limit room a b d s run part lines disk r t buffer stop.OutOfMemory first unfailed taken failed = absurd failed
unread limit room a b d s run part lines disk r t buffer (stop.BadLine n) first unfailed taken failed = absurd failed

pub end-requires : goal.end-requires
end-requires g c =
    ready_taken _ _ _ _ 0 _ _ (record { fresh = c.requires.fresh; small = c.requires.limit }) (omega arith) c.requires.attached
    (taken_handed _ _ _ _ _ _ _ _ _ _ _ c.in-Ok.ensures.0 c.loop-room.invariant.taken)

pub take-requires : goal.take-requires
take-requires g c =
    let read = c.in-Ok.ensures.1 in
    let fits = count_fits _ _ _ _ _ c.loop-room.invariant.size c.min-most.ensures read.fits c.read_handed_on.auto.piece in
    ready_taken _ _ _ _ _ _ _ (record { fresh = c.requires.fresh; small = c.requires.limit }) (no_more _ _ _ fits) c.requires.attached
    (taken_handed _ _ _ _ _ _ _ _ _ _ _ c.in-Ok.ensures.0 c.loop-room.invariant.taken)

pub returns-then-count-eq0 : goal.returns-then-count-eq0
returns-then-count-eq0 g c =
    let read = c.in-Ok.ensures.1 in
    let some : 0 < length c.read_handed_on.new.piece = some_room _ _ _ _ c.loop-room.invariant.size c.min-most.ensures c.loop-room-test.true c.read_handed_on.auto.piece in
    at_end _ _ _ _ _ _ _ _ _ _ _ (record { fresh = c.requires.fresh; small = c.requires.limit }) c.if-count-eq0.true some c.loop-room-test.true (read.faults ∙ c.loop-room.invariant.unfailed) read.read
    (taken_handed _ _ _ _ _ _ _ _ _ _ _ c.in-Ok.ensures.0 c.loop-room.invariant.taken) c.end.ensures

pub loop-room-preserved : goal.loop-room-preserved
loop-room-preserved g c =
    let read = c.in-Ok.ensures.1 in
    let fits = count_fits _ _ _ _ _ c.loop-room.invariant.size c.min-most.ensures read.fits c.read_handed_on.auto.piece in
    record {
      taken = taken_front _ _ _ _ _ _ _ _ _ _ _ _ read.fits (less _ _ fits) read.read
          (taken_handed _ _ _ _ _ _ _ _ _ _ _ c.in-Ok.ensures.0 c.loop-room.invariant.taken) c.in_ok-take.ensures;
      size = same_size _ _ _ _ c.loop-room.invariant.size c.min-most.ensures c.read_handed_on.auto.piece;
      unfailed = read.faults ∙ c.loop-room.invariant.unfailed;
    }

pub returns-in_err-take : goal.returns-in_err-take
returns-in_err-take g c =
    let read = c.in-Ok.ensures.1 in
    let fits = count_fits _ _ _ _ _ c.loop-room.invariant.size c.min-most.ensures read.fits c.read_handed_on.auto.piece in
    let stopped = err_from_is_err_and c.from_residual.result c.from_residual.ensures.1 in
    rw (stopped.1, stopped.2) (stopped_front _ _ _ _ _ _ _ _ _ _ _ _ (record { fresh = c.requires.fresh; small = c.requires.limit }) read.fits fits (read.faults ∙ c.loop-room.invariant.unfailed) read.read
    (taken_handed _ _ _ _ _ _ _ _ _ _ _ c.in-Ok.ensures.0 c.loop-room.invariant.taken) c.in_err-take.ensures)

pub returns : goal.returns
returns g c =
    let none_left = c.loop-room-test.false in
    (c.loop-room.invariant.unfailed, read_too_long _ _ _ _ _ _ (record { fresh = c.requires.fresh; small = c.requires.limit }) (omega arith) c.loop-room.invariant.taken)

pub returns-in-Err : goal.returns-in-Err
returns-in-Err g c = unread _ _ _ _ _ _ _ _ _ _ _ _ c.read_handed_on.new.piece _ (record { fresh = c.requires.fresh; small = c.requires.limit }) c.loop-room.invariant.unfailed c.loop-room.invariant.taken c.in-Err.ensures
