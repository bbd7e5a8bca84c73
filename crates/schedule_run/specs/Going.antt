-- What the calls make happen that move an end or a job.
use Rattle.std.specs.Prelude.{◌≡◌, ℕ, ◌*◌, ◌<◌, ◌≤◌, false, List, [], ◌∷◌, Result, Ok, Err}
use Rattle.blk_io.specs.Disk.{DiskSeen}
use Rattle.schedule_text.specs.declared.recorder.RecordStop.{RecordStop}
use Rattle.schedule_text.specs.Recorder.{RecorderSeen}
use Rattle.vbd_model.specs.World.{World, is_quiet}
use Rattle.vbd_model.specs.Happening.{Happening, FrontMoves, BackMoves}
use Rattle.vbd_model.specs.Kind.{IsBeginning, IsJobMove, IsRound, IsRoundSoFar, AreRounds, never}
use Rattle.vbd_model.specs.Leads.{Goes, Is, Moment, moment}

-- a move of the front, which needs no mapping and no disk
abbrev pub FrontGoes : Result (Unit {0}) RecordStop → World → World → RecorderSeen → RecorderSeen → Type 0
FrontGoes result w v before after =
    (disk : DiskSeen) → Goes (Is (FrontMoves ∷ [])) (Is (FrontMoves ∷ [])) 0 result (moment w disk before) (moment v disk after)

-- a move of the back: a mapping of its own at most, and 40 that are counted, where it copies a word of an entry, for the job that it begins by that
abbrev pub BackGoes : Result (Unit {0}) RecordStop → Moment → Moment → Type 0
BackGoes result a b = Goes (Is (BackMoves ∷ [])) (Is (BackMoves ∷ [])) 41 result a b

-- a move of the job of a number, whose mappings were counted when it began
abbrev pub JobGoes : ℕ → Result (Unit {0}) RecordStop → Moment → Moment → Type 0
JobGoes number result a b = Goes (IsJobMove number) (IsJobMove number) 0 result a b

-- all of these happenings, or a beginning of them where the recorder stopped
abbrev pub GoesThrough : List Happening → ℕ → Result (Unit {0}) RecordStop → Moment → Moment → Type 0
GoesThrough all n result a b = Goes (Is all) (λ hs. IsBeginning hs all) n result a b

-- so many rounds, some of them and no more than these; where not all was quiet at first none of them begins in quiet
pub record GoneThrough (n most : ℕ) (a b : Moment) : Type 0 where
  pub some : 0 < n
  pub few : n ≤ most
  pub rounds : Goes (AreRounds never n a.world) (AreRounds never n a.world) (42 * n) (Ok tt) a b
  pub unquiet : is_quiet a.world ≡ false → Goes (AreRounds is_quiet n a.world) (AreRounds is_quiet n a.world) (42 * n) (Ok tt) a b

-- some rounds, so many at most; or the first was stopped
abbrev pub GoesRounds : (most : ℕ) → Result ℕ RecordStop → Moment → Moment → Type 0
GoesRounds most (Ok n) a b = GoneThrough n most a b
GoesRounds most (Err stop) a b = Goes (IsRound a.world) (IsRoundSoFar a.world) 42 (Err stop) a b
