-- The laws of rounds of words.
use Rattle.std.specs.Prelude.{◌≡◌, ℕ, ◌≤◌, List, ◌∷◌, ◌++◌, map, length, Some, None}
use Rattle.std.specs.List.{AllByRecursion}
use Rattle.blk_io.specs.Disk.{DiskSeen}
use Rattle.schedule_text.specs.declared.line.Detail.TheVariants.{Lines}
use Rattle.schedule_text.specs.Recorder.{RecorderSeen}
use Rattle.hypervisor.specs.Hypervisor.{Hypervisor}
use Rattle.back_jobs.specs.declared.part.SectorPart.{SectorPart}
use Rattle.back_jobs.specs.Work.{Work}
use Rattle.blk_back.specs.View.{View}
use Rattle.blk_back.specs.Part.{job_part, job_steps}
use Rattle.vbd_model.specs.World.{World}
use Rattle.round_laws.specs.Movers.{part_of, job_answers_to, job_moved, JobGoesOn, AreAbove, AreVisited, CallsSay}
use Rattle.round_laws.specs.AtOnce.{with_jobs, AreOfWords, LeadThere, GoUnseen}

-- so many rounds of nothing but words of sectors lead where all their words at once lead
abbrev pub RoundsLeadThere : Type 0
RoundsLeadThere = (n : ℕ) (w : World) → AreOfWords n w → LeadThere n w

-- and a recorder that keeps no lines of moves sees nothing of them
abbrev pub RoundsGoUnseen : Type 0
RoundsGoUnseen = (n : ℕ) (w : World) (d : DiskSeen) (r : RecorderSeen) → AreOfWords n w → r.detail ≡ Lines → GoUnseen n w d r

-- where as many jobs come one after another as are held, they stand in order of number, and each of them comes
abbrev pub EachIsVisited : Type 0
EachIsVisited =
    (v : View) (numbers : List ℕ) → AreVisited v 0 numbers → length numbers ≡ length v.jobs.works
    → AreAbove 0 v.jobs.works × (map (λ (t : Work). t.number) v.jobs.works ≡ numbers)

-- where the calls say of each that it goes on so long in its sector, or waits, so it is
abbrev pub EachGoesOn : Type 0
EachGoesOn =
    (n : ℕ) (v : View) (numbers : List ℕ) → v.halted ≡ None → AreVisited v 0 numbers → length numbers ≡ length v.jobs.works
    → AllByRecursion (λ k. CallsSay n v k (job_part v k)) numbers → AllByRecursion (λ (t : Work). JobGoesOn n v t (part_of t)) v.jobs.works

-- a back whose job is told so many of its words, one after another, has that job moved, and all else as it was
abbrev pub TellsAtOnce : Type 0
TellsAtOnce =
    (h : Hypervisor) (n : ℕ) (v : View) (before : List Work) (t : Work) (later : List Work) (part : SectorPart)
    → v.told ≡ None → v.jobs.works ≡ before ++ t ∷ later → AreAbove 0 (before ++ t ∷ later) → part_of t ≡ Some part → n ≤ part.count
    → job_steps v t.number (job_answers_to h part part.writes n) ≡ with_jobs v (before ++ job_moved h n t ∷ later)
