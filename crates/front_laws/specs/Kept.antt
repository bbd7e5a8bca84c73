-- A front as it is, which keeps its grants where both ends published `feature-persistent` (`io/blkif.h`): what may happen to it, in any order, with any answers that its asks allow; and what is true of every run.
use Rattle.std.specs.Prelude.{◌≡◌, ◌↔◌, ℕ, ◌%◌, ◌^◌, ◌<◌, ◌≤◌, Bool, true, false, not, ◌&&◌, ◌==◌, List, [], ◌∷◌, ◌++◌, All, Option, Some, None}
use Rattle.blk_base.specs.Options.{Options}
use Rattle.blk_base.specs.declared.ask.FrontAsk.TheVariants.{Write, Cas}
use Rattle.blk_base.specs.declared.ask.FrontAnswer.{FrontAnswer}
use Rattle.blk_base.specs.declared.ask.FrontAnswer.TheVariants.{Word}
use Rattle.blk_front.specs.declared.request.Request.{Request}
use Rattle.blk_front.specs.declared.stage.FrontStage.{FrontStage}
use Rattle.blk_front.specs.declared.stage.FrontStage.TheVariants as stage
use Rattle.blk_front.specs.Pool.{empty_pool, is_taken}
use Rattle.blk_front.specs.State.{is_open}
use Rattle.blk_front.specs.View.{View, start_of, next_request, ring_frame, ring_page_frame, entry_frame, entry_word}
use Rattle.blk_front.specs.Ask.{IsAnswer, is_through}
use Rattle.blk_front.specs.Keep.{ask_as, step_as}
use Rattle.front_laws.specs.History.{Happening, Answered, Suspends, happened, Line, Asked, Suspended, lines_of}
use Rattle.front_laws.specs.Laws.{IsRing}

-- what a happening makes of the front: an answer is its own, and each other call is as that of a front that keeps no grants
abbrev pub happened_as : Happening → View → View
happened_as (Answered answer) v = step_as v answer
happened_as h v = happened h v

-- an answer is one of the ask's kind, with any value, and comes where nothing is left to be told
abbrev pub MayHappenAs : Happening → View → Type 0
MayHappenAs (Answered answer) v = IsAnswer (ask_as v) answer × (v.told ≡ None)
MayHappenAs h v = Unit {0}

-- the front after these happenings, and that each of them may happen
abbrev pub after_as : List Happening → View → View
after_as [] v = v
after_as (h ∷ happenings) v = after_as happenings (happened_as h v)

abbrev pub AllMayHappenAs : List Happening → View → Type 0
AllMayHappenAs [] v = Unit {0}
AllMayHappenAs (h ∷ happenings) v = MayHappenAs h v × AllMayHappenAs happenings (happened_as h v)

-- the trace of these happenings
abbrev pub lines_as : Happening → View → List Line
lines_as (Answered answer) v = Asked (ask_as v) answer (step_as v answer).told ∷ []
lines_as h v = lines_of h v

abbrev pub trace_as : List Happening → View → List Line
trace_as [] v = []
trace_as (h ∷ happenings) v = lines_as h v ++ trace_as happenings (happened_as h v)

-- a new front, and any happenings
pub record KeepingRun : Type 0 where
  pub config : Options
  pub ring : IsRing config
  pub happenings : List Happening
  pub may : AllMayHappenAs happenings (start_of config)

-- where it stands, and its trace
abbrev pub now : KeepingRun → View
now r = after_as r.happenings (start_of r.config)

abbrev pub trace : KeepingRun → List Line
trace r = trace_as r.happenings (start_of r.config)

-- the grant of a frame of the pool, 18 to 1017, is kept
abbrev pub is_kept : View → (frame : ℕ) → Bool
is_kept v frame = is_taken v.kept frame

-- the first word of a frame's entry in the grant table, which has its flags (`grant_table.h`, struct grant_entry_v1)
abbrev pub is_flags : (frame place word : ℕ) → Bool
is_flags frame place word = place == entry_frame frame && word == entry_word frame

-- a line makes a frame's grant where it has these flags be of the type GTF_permit_access (GTF_type_mask is bits 0 and 1)
abbrev pub makes : (frame : ℕ) → Line → Bool
makes frame (Asked (Write place word value) answer told) = is_flags frame place word && value % 4 == 1
makes frame line = false

-- and ends it where it has them be of another type, or exchanges them; a suspend ends each
abbrev pub ends : (frame : ℕ) → Line → Bool
ends frame (Asked (Write place word value) answer told) = is_flags frame place word && not (value % 4 == 1)
ends frame (Asked (Cas place word old new) (Word seen) told) = is_flags frame place word && seen == old
ends frame Suspended = true
ends frame line = false

-- one of these lines made the frame's grant, and none since ended it
pub record Stands (frame : ℕ) (lines : List Line) : Type 0 where
  pub before : List Line
  pub line : Line
  pub since : List Line
  pub lines_are : lines ≡ before ++ line ∷ since
  pub made : makes frame line ≡ true
  pub still : All (λ (l : Line). ends frame l ≡ false) since

-- Where it keeps grants, the flags of a frame of the pool are written only where its grant isn't kept. They become GTF_permit_access alone, for reading and writing, and then the grant is kept.
pub record IsMadeNow (v : View) (frame value : ℕ) : Type 0 where
  pub new : is_kept v frame ≡ false
  pub flags : value ≡ 1
  pub kept : (given : FrontAnswer) → is_kept (step_as v given) frame ≡ true

abbrev pub MakesEachOnce : Type 0
MakesEachOnce =
    (r : KeepingRun) (frame value : ℕ) → 18 ≤ frame → frame < 1018 → (now r).offers.persistent ≡ true
    → ask_as (now r) ≡ Write (entry_frame frame) (entry_word frame) value → IsMadeNow (now r) frame value

-- and a grant is kept exactly where a line made it and none since ended it
abbrev pub KeepsWhatWasMade : Type 0
KeepsWhatWasMade =
    (r : KeepingRun) (frame : ℕ) → 18 ≤ frame → frame < 1018 → (now r).offers.persistent ≡ true
    → (is_kept (now r) frame ≡ true) ↔ Stands frame (trace r)

-- a word of an entry is written, or the entry is pushed
abbrev pub is_entering : FrontStage → Bool
is_entering (stage.Slot k) = true
is_entering stage.Producer = true
is_entering s = false

-- then there is a request that is issued, and the grant of each of its frames is kept
pub record AreGranted (kept : List Bool) (next : Option Request) : Type 0 where
  pub request : Request
  pub next_is : next ≡ Some request
  pub granted : All (λ (frame : ℕ). is_taken kept frame ≡ true) request.frames.items

abbrev pub UsesKeptGrants : Type 0
UsesKeptGrants =
    (r : KeepingRun) → (now r).offers.persistent ≡ true → is_entering (now r).stage ≡ true
    → AreGranted (now r).kept (next_request (now r))

-- so it is where the requests' producer is raised, word 0 of the ring's first frame (`io/ring.h`)
abbrev pub PushesKeptGrants : Type 0
PushesKeptGrants =
    (r : KeepingRun) (value : ℕ) → (now r).offers.persistent ≡ true → ask_as (now r) ≡ Write ring_frame 0 value
    → AreGranted (now r).kept (next_request (now r))

-- a grant of a frame of the pool is ended only at the stage for that, as it leaves, with no request left; and only one that is kept
pub record IsEndedNow (v : View) (frame old new : ℕ) : Type 0 where
  pub ends : new ≡ 0
  pub at : v.stage ≡ stage.KeptEnd frame old
  pub through : is_through v ≡ true
  pub kept : is_kept v frame ≡ true

abbrev pub EndsAsItLeaves : Type 0
EndsAsItLeaves =
    (r : KeepingRun) (frame old new : ℕ) → 18 ≤ frame → frame < 1018 → (now r).offers.persistent ≡ true
    → ask_as (now r) ≡ Cas (entry_frame frame) (entry_word frame) old new → IsEndedNow (now r) frame old new

-- it ends those after the grants of the ring's pages, of which then none stands, and closes its port after both
abbrev pub is_past_ring : FrontStage → Bool
is_past_ring (stage.KeptRead frame) = true
is_past_ring (stage.KeptEnd frame before) = true
is_past_ring stage.ClosePort = true
is_past_ring stage.Left = true
is_past_ring s = false

abbrev pub EndsTheRingFirst : Type 0
EndsTheRingFirst =
    (r : KeepingRun) (page : ℕ) → page < 2 ^ (now r).shape.order → is_past_ring (now r).stage ≡ true
    → Stands (ring_page_frame page) (trace r) → ⊥

-- as it closes its port, and once it has, it keeps none
abbrev pub is_past_grants : FrontStage → Bool
is_past_grants stage.ClosePort = true
is_past_grants stage.Left = true
is_past_grants stage.Closed = true
is_past_grants s = false

abbrev pub LeavesNone : Type 0
LeavesNone = (r : KeepingRun) → is_past_grants (now r).stage ≡ true → (now r).kept ≡ empty_pool

-- nor does it keep any after a suspend
abbrev pub BeginsWithNone : Type 0
BeginsWithNone = (r : KeepingRun) → is_open (now r).stage ≡ true → (happened_as Suspends (now r)).kept ≡ empty_pool

-- nor where it keeps no grants at all
abbrev pub KeepsNoneElsewhere : Type 0
KeepsNoneElsewhere = (r : KeepingRun) → (now r).offers.persistent ≡ false → (now r).kept ≡ empty_pool
