-- The happenings that an event of a schedule makes.
use Rattle.std.specs.Prelude.{◌≡◌, ℕ, zero, suc, ◌+◌, ◌*◌, ◌^◌, ◌≤◌, ◌<◌, ◌⊎◌, Bool, true, false, ◌&&◌, List, [], ◌∷◌, ◌++◌, replicate, length, Some, None, ◌==◌, nat_le}
use Rattle.blk_base.specs.Options.{Options}
use Rattle.hypervisor.specs.Act.{Outcome, IsGiven}
use Rattle.schedule_text.specs.Event.{is_event_allowed}
use Rattle.schedule_text.specs.Range.{SubmissionHasWidths}
use Rattle.schedule_text.specs.declared.event.Event.{Event}
use Rattle.schedule_text.specs.declared.event.Event.TheVariants as events
use Rattle.blk_front.specs.Submit.{unfinished, sectors_owed}
use Rattle.blk_back.specs.Step.{next_job_of}
use Rattle.vbd_model.specs.World.{World, is_quiet}
use Rattle.split_model.specs.World.{may_suspend}
use Rattle.vbd_model.specs.Happening.{Happening, FrontMoves, BackMoves, JobMoves, Closes, Submits, Notifies, Pokes, OverwritesKey, Suspends, Dumps, Looks, Settles, happens, after}

-- the options that are carried out: either layout, a ring of 1 to 16 pages from any start, indirect requests of up to 960 segments, and a disk of any size, read-only or not
abbrev pub are_carried : Options → Bool
are_carried o = (o.persistent == 0) && nat_le o.indirect 960

-- moves of one job, each with what the disk answers it
abbrev pub AreJobMoves : ℕ → List Happening → Type 0
AreJobMoves number [] = Unit {0}
AreJobMoves number (h ∷ hs) = (outcome : Outcome) × (h ≡ JobMoves number outcome) × IsGiven outcome × AreJobMoves number hs

-- that many of them, and at most that many
abbrev pub AreSomeJobMoves : (number count : ℕ) → List Happening → Type 0
AreSomeJobMoves number count hs = AreJobMoves number hs × (length hs ≡ count)

abbrev pub AreFewJobMoves : (number count : ℕ) → List Happening → Type 0
AreFewJobMoves number count hs = AreJobMoves number hs × (length hs ≤ count)

-- one move of each job above the number `from`, by number, the last of them that of the number `to`
abbrev pub AreEachJobs : (from to : ℕ) → World → List Happening → Type 0
AreEachJobs from to w [] = to ≡ from
AreEachJobs from to w (h ∷ hs) =
    (number : ℕ) × (outcome : Outcome) × (h ≡ JobMoves number outcome) × IsGiven outcome × (next_job_of w.rings.back from ≡ Some number) × AreEachJobs number to (happens w h) hs

-- a round: a move of the front, one of the back, then one of each job
abbrev pub round_start : List Happening
round_start = FrontMoves ∷ BackMoves ∷ []

-- one move of each job, after which no other is left
pub record AreAllJobs (w : World) (hs : List Happening) : Type 0 where
  pub to : ℕ
  pub each : AreEachJobs 0 to w hs
  pub last : next_job_of (let v : World = after hs w in v.rings.back) to ≡ None

-- moves of the first of the jobs
abbrev pub HasEachJobs : World → List Happening → Type 0
HasEachJobs w hs = (to : ℕ) × AreEachJobs 0 to w hs

pub record IsRound (w : World) (hs : List Happening) : Type 0 where
  pub jobs : List Happening
  pub all : hs ≡ round_start ++ jobs
  pub are_jobs : AreAllJobs (after round_start w) jobs

-- these are the first of those
abbrev pub IsBeginning : List Happening → List Happening → Type 0
IsBeginning hs all = (rest : List Happening) × (all ≡ hs ++ rest)

-- the beginning of a round, and moves of its first jobs
pub record HasBegunJobs (w : World) (hs : List Happening) : Type 0 where
  pub jobs : List Happening
  pub all : hs ≡ round_start ++ jobs
  pub are_jobs : HasEachJobs (after round_start w) jobs

-- a round so far
abbrev pub IsRoundSoFar : World → List Happening → Type 0
IsRoundSoFar w hs = IsBeginning hs round_start ⊎ HasBegunJobs w hs

-- that many rounds, each of them begun where this test fails
abbrev pub AreRounds : (World → Bool) → ℕ → World → List Happening → Type 0
AreRounds test zero w hs = hs ≡ []
AreRounds test (suc n) w hs =
    (test w ≡ false)
    × ((first : List Happening) × (rest : List Happening) × (hs ≡ first ++ rest) × IsRound w first × AreRounds test n (after first w) rest)

abbrev pub never : World → Bool
never w = false

-- how many rounds `settle` makes at most: 20,000, and for each unfinished request 2,000 and 2,000 for each of its sectors
abbrev pub settle_bound : World → ℕ
settle_bound w = 20000 + 2000 * unfinished w.rings.front + 2000 * sectors_owed w.rings.front

-- and never more than these: 512 requests at most are unfinished, and the 1000 frames that they share hold 8000 sectors
abbrev pub most_rounds : ℕ
most_rounds = 20000 + 2000 * 512 + 2000 * 8000

-- rounds, each begun where not all is quiet, until all is or there were that many
pub record AreRoundsUntilQuiet (bound : ℕ) (w : World) (hs : List Happening) : Type 0 where
  pub count : ℕ
  pub within : count ≤ bound
  pub are_rounds : AreRounds is_quiet count w hs
  pub over : (count ≡ bound) ⊎ (is_quiet (after hs w) ≡ true)

-- rounds until all is quiet, tested before each and after the last, and then what was found
pub record IsSettling (w : World) (hs : List Happening) : Type 0 where
  pub rounds : List Happening
  pub are_rounds : AreRoundsUntilQuiet (settle_bound w) w rounds
  pub all : hs ≡ rounds ++ Settles (is_quiet (after rounds w)) ∷ []

-- rounds, the last of them begun
pub record AreRoundsSoFar (test : World → Bool) (bound : ℕ) (w : World) (hs : List Happening) : Type 0 where
  pub count : ℕ
  pub whole : List Happening
  pub begun : List Happening
  pub before : count < bound
  pub are_rounds : AreRounds test count w whole
  pub goes_on : test (after whole w) ≡ false
  pub is_round : IsRoundSoFar (after whole w) begun
  pub all : hs ≡ whole ++ begun

-- settling so far: it stopped in a round, or at what was found
abbrev pub IsSettlingSoFar : World → List Happening → Type 0
IsSettlingSoFar w hs = AreRoundsSoFar is_quiet (settle_bound w) w hs ⊎ IsSettling w hs

-- a suspend, for which a port number is left
abbrev pub IsSuspend : World → List Happening → Type 0
IsSuspend w hs = (hs ≡ Suspends ∷ []) × (may_suspend w.rings ≡ true)

-- where none is left it is stopped before anything happens, so before the machine is looked at again
abbrev pub IsSuspendSoFar : World → List Happening → Type 0
IsSuspendSoFar w hs = IsSuspend w hs ⊎ ((hs ≡ Looks false ∷ []) × (may_suspend w.rings ≡ false))

-- an event makes these happenings
abbrev pub Makes : Event → World → List Happening → Type 0
Makes (events.Submit job) w hs = (hs ≡ Submits job ∷ []) × SubmissionHasWidths job
Makes (events.Front n) w hs = hs ≡ replicate n FrontMoves
Makes (events.Back n) w hs = hs ≡ replicate n BackMoves
Makes (events.Job number n) w hs = AreSomeJobMoves number n hs
Makes (events.Turn n) w hs = AreRounds never n w hs
Makes events.Settle w hs = IsSettling w hs
Makes events.Look w hs = hs ≡ Looks (is_quiet w) ∷ []
Makes (events.Notify at) w hs = hs ≡ Notifies at ∷ []
Makes events.Suspend w hs = IsSuspend w hs
Makes (events.Close at) w hs = hs ≡ Closes at ∷ []
Makes (events.Poke frame word value) w hs = (hs ≡ Pokes frame word value ∷ []) × (value < 2 ^ 32)
Makes (events.Key name text) w hs = hs ≡ OverwritesKey name text ∷ []
Makes events.Dump w hs = hs ≡ Dumps ∷ []

-- and so far it made these
abbrev pub MakesSoFar : Event → World → List Happening → Type 0
MakesSoFar (events.Front n) w hs = IsBeginning hs (replicate n FrontMoves)
MakesSoFar (events.Back n) w hs = IsBeginning hs (replicate n BackMoves)
MakesSoFar (events.Job number n) w hs = AreFewJobMoves number n hs
MakesSoFar (events.Turn n) w hs = AreRoundsSoFar never n w hs
MakesSoFar events.Settle w hs = IsSettlingSoFar w hs
MakesSoFar events.Suspend w hs = IsSuspendSoFar w hs
MakesSoFar event w hs = Makes event w hs

-- the happenings of an event: each that the grammar allows is carried out
abbrev pub AreOf : Event → World → List Happening → Type 0
AreOf event w hs = (is_event_allowed event ≡ true) × Makes event w hs

-- its happenings so far
abbrev pub AreOfSoFar : Event → World → List Happening → Type 0
AreOfSoFar event w hs = (is_event_allowed event ≡ true) × MakesSoFar event w hs

-- the happenings of a schedule, event by event
abbrev pub AreOfAll : List Event → World → List Happening → Type 0
AreOfAll [] w hs = hs ≡ []
AreOfAll (e ∷ es) w hs =
    (first : List Happening) × (rest : List Happening) × (hs ≡ first ++ rest) × AreOf e w first × AreOfAll es (after first w) rest

-- one move of the job of a number
abbrev pub IsJobMove : ℕ → List Happening → Type 0
IsJobMove number hs = (outcome : Outcome) × (hs ≡ JobMoves number outcome ∷ []) × IsGiven outcome
