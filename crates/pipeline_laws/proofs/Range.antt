-- Each request that was accepted has its sectors on the disk, so what a submission does there changes the sectors that the plain disk says.
use Rattle.std.proofs.Common.{◌≡◌, ℕ, ◌+◌, zero, suc, ◌*◌, ◌^◌, ◌<◌, ◌≤◌, ◌==◌, Bool, true, false, not, ◌&&◌, ◌||◌, if◌then◌else◌, List, length, refl, ap, sym, ◌∙◌, arith, length-set}
use Rattle.std.specs.Prelude.{Option, Some, None, slice_set, count_by, nat_le, nat_lt}
use Rattle.std.proofs.lemmas.Option.{none-some}
use Rattle.std.proofs.lemmas.Bool.Decides.{nat_tests}
use Rattle.blk_base.specs.Options.{Options}
use Rattle.blk_base.specs.declared.config.Submission.{Submission}
use Rattle.blk_io.specs.Disk.{zero_sector, zeroed}
use Rattle.blk_base.specs.declared.refusal.Refusal.TheVariants as refusal
use Rattle.plain_disk.specs.declared.request.DiskRequest.{DiskRequest}
use Rattle.plain_disk.specs.declared.sight.Sight.{Sight}
use Rattle.plain_disk.specs.Request.{places_of, is_finished, is_write, is_discard, sector_of, count_of, filling}
use Rattle.plain_disk.specs.Refusal.{is_unsupported, is_refused_write, is_past_end, is_long, is_full, lacks_frames, refusal_by}
use Rattle.pipeline_laws.specs.Station.{PipelineRequest}
use Rattle.pipeline_laws.specs.Move.{Move, Fills, Reads, Trims, Fails}
use Rattle.pipeline_laws.specs.Disk.{DiskDoes}
use Rattle.pipeline_laws.proofs.Lists.{Each}
use Rattle.pipeline_laws.proofs.Content.{Changes}
use Rattle.pipeline_laws.proofs.DiskDoes.{set_changes, zeros_change}
use Rattle.pipeline_laws.proofs.Operations.{write_places, discard_fills}

abbrev pub IsOnDisk : ℕ → Submission → Type 0
IsOnDisk sectors submission = sector_of submission + count_of submission ≤ sectors

abbrev pub AreOnDisk : ℕ → List PipelineRequest → Type 0
AreOnDisk sectors requests = Each (λ k (x : PipelineRequest). IsOnDisk sectors x.submission) requests

-- where no rule refuses a request, those of the range and of the full ring don't
none_false : {X : Type 0} (a b c d e f g h : Bool) (r s t u v w x y : X) (rest : Option X)
    → (if a then Some r else (if b then Some s else (if c then Some t else (if d then Some u else (if e then Some v else (if f then Some w else (if g then Some x else (if h then Some y else rest)))))))) ≡ None
    → (f ≡ false) × (h ≡ false)
none_false true b c d e f g h r s t u v w x y rest none = absurd (none-some r (sym none))
none_false false true c d e f g h r s t u v w x y rest none = absurd (none-some s (sym none))
none_false false false true d e f g h r s t u v w x y rest none = absurd (none-some t (sym none))
none_false false false false true e f g h r s t u v w x y rest none = absurd (none-some u (sym none))
none_false false false false false true f g h r s t u v w x y rest none = absurd (none-some v (sym none))
none_false false false false false false true g h r s t u v w x y rest none = absurd (none-some w (sym none))
none_false false false false false false false true h r s t u v w x y rest none = absurd (none-some x (sym none))
none_false false false false false false false false true r s t u v w x y rest none = absurd (none-some y (sym none))
none_false false false false false false false false false r s t u v w x y rest none = (refl, refl)

accepted : (s : Sight) (o : Options) (requests : List DiskRequest) (submission : Submission) → refusal_by s o requests submission ≡ None → (is_past_end o submission ≡ false) × (is_full o requests ≡ false)
accepted s o requests submission e =
    none_false (length requests == 4294967295) (not s.closing && (not s.connected || s.broken)) s.closing (is_unsupported o submission) (is_refused_write o submission) (is_past_end o submission) (is_long o submission) (is_full o requests)
    refusal.Spent refusal.NotReady refusal.Closing refusal.Unsupported refusal.ReadOnly refusal.Range refusal.Long refusal.Full
    (if lacks_frames requests submission then Some refusal.Buffers else None) e

pub accepted_on_disk : (s : Sight) (o : Options) (requests : List DiskRequest) (submission : Submission) → refusal_by s o requests submission ≡ None → IsOnDisk o.sectors submission
accepted_on_disk s o requests submission e = within (sector_of submission + count_of submission) o.sectors (accepted s o requests submission e).0
  where
    within : (end sectors : ℕ) → nat_lt sectors end ≡ false → end ≤ sectors
    within end sectors t = grind (arith, nat_tests)

pub accepted_few : (s : Sight) (o : Options) (requests : List DiskRequest) (submission : Submission) → refusal_by s o requests submission ≡ None → count_by (λ (r : DiskRequest). not (is_finished r.stage)) requests < 32 * 2 ^ o.order
accepted_few s o requests submission e = few (32 * 2 ^ o.order) (count_by (λ (r : DiskRequest). not (is_finished r.stage)) requests) (accepted s o requests submission e).1
  where
    few : (entries held : ℕ) → nat_le entries held ≡ false → held < entries
    few entries held t = grind (arith, nat_tests)

-- a sector was filled
pub fill_changes : (submission : Submission) (index : ℕ) (content later : List (List ℕ)) → is_write submission ≡ true → index < places_of submission → IsOnDisk (length content) submission → later ≡ slice_set content (sector_of submission + index) (filling submission index)
    → Changes (sector_of submission + index) 1 (Some (filling submission index)) content later
fill_changes submission index content later kind more on e =
    let places = write_places submission kind in
    rw e (set_changes content (sector_of submission + index) (filling submission index) (omega arith))

-- sectors were discarded
pub trim_changes : (submission : Submission) (content later : List (List ℕ)) → is_discard submission ≡ true → IsOnDisk (length content) submission → later ≡ zeroed content (sector_of submission) (count_of submission)
    → Changes (sector_of submission) (count_of submission) (Some (filling submission 0)) content later
trim_changes submission content later kind on e = rw (e, discard_fills submission kind) (zeros_change content (sector_of submission) (count_of submission) on)

-- no call changes how many sectors there are
zeroed_length : (content : List (List ℕ)) (sector count : ℕ) → length (zeroed content sector count) ≡ length content
zeroed_length content sector zero = refl
zeroed_length content sector (suc count) = length-set (zeroed content sector count) (sector + count) zero_sector ∙ zeroed_length content sector count

pub move_sized : (submission : Submission) (move : Move) (before later : List (List ℕ)) → DiskDoes submission move before later → length later ≡ length before
move_sized submission (Fills index) before later e = ap length e ∙ length-set before (sector_of submission + index) (filling submission index)
move_sized submission (Reads index words) before later e = ap length e.1
move_sized submission Trims before later e = ap length e ∙ zeroed_length before (sector_of submission) (count_of submission)
move_sized submission (Fails index) before later e = e.0
move_sized submission move before later e = ap length e
