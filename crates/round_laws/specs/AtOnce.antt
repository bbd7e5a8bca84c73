-- Rounds of nothing but words of sectors and of entries: the machine after so many of them, given outright.
use Rattle.std.specs.Prelude.{◌≡◌, ◌≢◌, ℕ, ◌*◌, false, List, map, None, IfSome}
use Rattle.std.specs.List.{AllByRecursion}
use Rattle.blk_io.specs.Disk.{DiskSeen}
use Rattle.schedule_text.specs.declared.line.Line.{Line}
use Rattle.schedule_text.specs.declared.line.Line.TheVariants.{Move}
use Rattle.schedule_text.specs.Recorder.{RecorderSeen}
use Rattle.hypervisor.specs.Hypervisor.{Hypervisor}
use Rattle.hypervisor.specs.Act.{with_pages}
use Rattle.back_jobs.specs.Work.{Work}
use Rattle.blk_back.specs.View as back_ring
use Rattle.vbd_front.specs.View as front
use Rattle.vbd_front.specs.Part.{steps_of}
use Rattle.vbd_back.specs.View as back
use Rattle.vbd_back.specs.Part.{entry_part, steps_of as back_steps}
use Rattle.vbd_model.specs.World.{World, frontend_of, backend_of, is_quiet}
use Rattle.vbd_model.specs.Happening.{Happening, after, lines_of, DiskRuns}
use Rattle.vbd_model.specs.Kind.{AreRounds, never}
use Rattle.vbd_model.specs.Leads.{Leads, Keeps, moment}
use Rattle.round_laws.specs.Movers.{front_words, front_answers, front_writes, back_answers, part_of, frame_under, job_moved, jobs_write, FrontGoesOn, BackGoesOn, JobGoesOn, IsOutside, AreApart, AreAbove}

-- the machine with this front, these jobs and this memory; all else stays
abbrev pub with_jobs : back_ring.View → List Work → back_ring.View
with_jobs v works = record v { jobs = record v.jobs { works = works } }

abbrev pub with_movers : World → front.View → List Work → List ℕ → World
with_movers w f works pages = record {
  rings = record { front = f.ring; back = with_jobs w.rings.back works; under = with_pages w.rings.under pages };
  front = f.bus;
  back = w.back;
}

-- the front after n of its words
abbrev pub front_moved : ℕ → World → front.View
front_moved n w = steps_of (frontend_of w) (front_answers (front_words (frontend_of w)) w.rings.under.pages n)

-- the back after n words of the entry that it copies, and the machine with it
abbrev pub back_moved : ℕ → World → back.View
back_moved n w = back_steps (backend_of w) (back_answers w.rings.under (entry_part (backend_of w)) n)

abbrev pub with_back : World → back_ring.View → World
with_back w b = record w { rings = record w.rings { back = b } }

-- the machine after n words of each: what a mover reads is what memory held at first, and memory has the words of each mover that writes
abbrev pub moved : ℕ → World → World
moved n w =
    let h : Hypervisor = w.rings.under in
    with_movers (with_back w (let b : back.View = back_moved n w in b.ring)) (front_moved n w) (map (job_moved h n) w.rings.back.jobs.works) (jobs_write h n w.rings.back.jobs.works (front_writes (front_words (frontend_of w)) n h.pages))

-- n rounds move nothing but words: the front goes on so long in its sector or in the entry that it writes, the back in the entry that it copies, and each job in its sector, or it waits; the jobs are in order of number, and the frames of all are different; and nothing is left to tell
pub record AreOfWords (n : ℕ) (w : World) : Type 0 where
  pub front_told : w.rings.front.told ≡ None
  pub back_told : w.rings.back.told ≡ None
  pub unhalted : w.rings.back.halted ≡ None
  pub back : BackGoesOn n (backend_of w) w.rings.under (entry_part (backend_of w))
  pub front : FrontGoesOn n w (front_words (frontend_of w))
  pub jobs : AllByRecursion (λ (t : Work). JobGoesOn n w.rings.back t (part_of t)) w.rings.back.jobs.works
  pub ordered : AreAbove 0 w.rings.back.jobs.works
  pub front_apart : IfSome (front_words (frontend_of w)) (λ p. IsOutside w.rings.under p.frame w.rings.back.jobs.works)
  pub back_apart : IfSome (entry_part (backend_of w)) (λ p. IsOutside w.rings.under (frame_under w.rings.under p) w.rings.back.jobs.works)
  pub ends_apart : IfSome (entry_part (backend_of w)) (λ p. IfSome (front_words (frontend_of w)) (λ q. q.frame ≢ frame_under w.rings.under p))
  pub jobs_apart : AreApart w.rings.under w.rings.back.jobs.works

-- a line that shows a move
abbrev pub IsMoveLine : Line → Type 0
IsMoveLine (Move move) = Unit {0}
IsMoveLine line = ⊥

-- this history leads from the one world to the other, shows moves alone, and calls no disk
pub record Passes (history : List Happening) (a b : World) : Type 0 where
  pub world : after history a ≡ b
  pub shown : AllByRecursion IsMoveLine (lines_of history a)
  pub disk : (d : DiskSeen) → DiskRuns history a d d

-- n rounds lead there; where the first world isn't quiet no later one is
pub record LeadThere (n : ℕ) (w : World) : Type 0 where
  pub history : List Happening
  pub rounds : AreRounds never n w history
  pub unquiet : is_quiet w ≡ false → AreRounds is_quiet n w history
  pub still_quiet : is_quiet (moved n w) ≡ is_quiet w
  pub passes : Passes history w (moved n w)

-- they lead there on a disk that stays as it is, for a recorder that stays so too, and no mapping more is made or may come but the 40 that are counted for each word of an entry
pub record GoUnseen (n : ℕ) (w : World) (d : DiskSeen) (r : RecorderSeen) : Type 0 where
  pub lead : Leads (AreRounds never n w) (moment w d r) (moment (moved n w) d r)
  pub unquiet : is_quiet w ≡ false → Leads (AreRounds is_quiet n w) (moment w d r) (moment (moved n w) d r)
  pub keeps : Keeps (40 * n) (moment w d r) (moment (moved n w) d r)
