-- Which steps the pipeline allows where it stands.
use Rattle.std.specs.Prelude.{◌≡◌, ℕ, ◌<◌, Bool, true, false, not, ◌&&◌, ◌||◌, List, [], ◌∷◌, map, slice_get, Option, Some, None, ◌==◌}
use Rattle.blk_base.specs.declared.config.Submission.{Submission}
use Rattle.blk_base.specs.declared.operation.Status.TheVariants.{Unsupported}
use Rattle.blk_base.specs.declared.halt.Halt.{Halt}
use Rattle.blk_base.specs.declared.halt.Halt.TheVariants.{Gone, Unplugged}
use Rattle.blk_base.specs.declared.refusal.Refusal.{Refusal}
use Rattle.schedule_text.specs.declared.line.Line.{Line}
use Rattle.schedule_text.specs.declared.line.Line.TheVariants as lines
use Rattle.plain_disk.specs.declared.sight.Sight.{Sight}
use Rattle.plain_disk.specs.Request.{places_of, is_read, is_write, is_flush, is_discard, is_barrier, is_ordered}
use Rattle.plain_disk.specs.Refusal.{refusal_by}
use Rattle.pipeline_laws.specs.Station.{Station, Waiting, Issuing, Pushed, Fetching, Working, PipelineRequest, is_finished, asked}
use Rattle.pipeline_laws.specs.Move.{Move, BeginsEntry, Pushes, BeginsFetch, Fetches, Fills, Reads, Flushes, Trims, Fails, Ends, BeginsResponse, Replies, Takes, Answers, Tells, station_before}
use Rattle.pipeline_laws.specs.Pipeline.{Pipeline, Step, Submits, Refuses, Moves, Connects, StartsToClose, Closes, Leaves, Resumes, Rests, Shows, next}

-- this request is there
pub record IsAt (p : Pipeline) (k : ℕ) (x : PipelineRequest) (station : Station) : Type 0 where
  pub here : slice_get p.requests k ≡ Some x
  pub there : x.station ≡ station

-- not pushed in this epoch
abbrev pub is_unissued : Station → Bool
is_unissued Waiting = true
is_unissued Issuing = true
is_unissued station = false

-- requests are pushed in the order of their numbers: each one before this was pushed
pub record IsFirst (p : Pipeline) (k : ℕ) : Type 0 where
  pub none : (j : ℕ) (y : PipelineRequest) → j < k → slice_get p.requests j ≡ Some y → is_unissued y.station ≡ false

-- the back has no copy of its entry in this epoch
abbrev pub is_unfetched : Station → Bool
is_unfetched Pushed = true
is_unfetched Fetching = true
is_unfetched station = is_unissued station

-- a submission that has places left: all of them, where it isn't fetched
abbrev pub has_places : Submission → Station → Bool
has_places submission (Working moved) = not (moved == places_of submission)
has_places submission station = is_unfetched station

-- a write, barrier or discard that has places left, where it or the one after it is a barrier (BLKIF_OP_WRITE_BARRIER)
abbrev pub is_in_way : Bool → PipelineRequest → Bool
is_in_way barrier y = is_ordered y.submission && (barrier || is_barrier y.submission) && has_places y.submission y.station

-- no submission of a lower number is in its way
pub record IsClear (p : Pipeline) (k : ℕ) (x : PipelineRequest) : Type 0 where
  pub clear : (j : ℕ) (y : PipelineRequest) → j < k → slice_get p.requests j ≡ Some y → is_in_way (is_barrier x.submission) y ≡ false

-- what a move needs besides its station
abbrev pub May : Pipeline → ℕ → PipelineRequest → Move → Type 0
May p k x BeginsEntry = Unit {0}
May p k x Pushes = IsFirst p k
May p k x BeginsFetch = Unit {0}
May p k x Fetches = Unit {0}
May p k x (Fills index) = (is_write x.submission ≡ true) × (index < places_of x.submission) × IsClear p k x
May p k x (Reads index words) = (is_read x.submission ≡ true) × (index < places_of x.submission)
May p k x Flushes = is_flush x.submission ≡ true
May p k x Trims = (is_discard x.submission ≡ true) × IsClear p k x
May p k x (Fails index) = (index < places_of x.submission) × (is_ordered x.submission ≡ true → IsClear p k x)
May p k x (Ends Unsupported) = ⊥
May p k x (Ends status) = Unit {0}
May p k x (BeginsResponse status) = Unit {0}
May p k x (Replies status) = Unit {0}
May p k x (Takes status) = Unit {0}
May p k x (Answers status) = Unit {0}
May p k x (Tells index words) = slice_get x.words index ≡ Some words

-- all of each request was told
pub record AreFinished (p : Pipeline) : Type 0 where
  pub each : (k : ℕ) (x : PipelineRequest) → slice_get p.requests k ≡ Some x → is_finished x.station ≡ true

-- what the front shows of itself
abbrev pub sight_of : Pipeline → Sight
sight_of p = record { config = Some p.options; connected = p.front.connected; closing = p.front.closing; broken = false }

-- how the front answers a submission, none where it accepts it
abbrev pub refusal_now : Pipeline → Submission → Option Refusal
refusal_now p submission = refusal_by (sight_of p) p.options (map asked p.requests) submission

-- a halt of a back whose front is gone
abbrev pub is_farewell : Halt → Bool
is_farewell (Gone state) = true
is_farewell (Unplugged state) = true
is_farewell why = false

-- a line that tells nothing of a request, of the front's state, or of a breach
abbrev pub is_aside : Line → Bool
is_aside lines.Busy = true
is_aside lines.Unsettled = true
is_aside (lines.Word frame word value) = true
is_aside lines.End = true
is_aside (lines.Move move) = true
is_aside line = false

abbrev pub IsAllowed : Pipeline → Step → Type 0
IsAllowed p (Submits submission) = refusal_now p submission ≡ None
IsAllowed p (Refuses submission refusal) = refusal_now p submission ≡ Some refusal
IsAllowed p (Moves k x move) = IsAt p k x (station_before x.submission move) × May p k x move
IsAllowed p Connects = (p.front.connected ≡ false) × (p.front.closed ≡ false)
IsAllowed p StartsToClose = p.front.closing ≡ false
IsAllowed p Closes = (p.front.closing ≡ true) × (p.front.closed ≡ false) × AreFinished p
IsAllowed p (Leaves why) = (p.front.closing ≡ true) × (is_farewell why ≡ true) × AreFinished p
IsAllowed p Resumes = Unit {0}
IsAllowed p Rests = AreFinished p
IsAllowed p (Shows line) = is_aside line ≡ true

-- steps that the pipeline allows, one after another
abbrev pub AreAllowed : List Step → Pipeline → Type 0
AreAllowed [] p = Unit {0}
AreAllowed (s ∷ steps) p = IsAllowed p s × AreAllowed steps (next p s)
