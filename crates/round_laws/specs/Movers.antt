-- Those that move the words of a sector or of an entry, one in each round: the front and the jobs; and the back, which copies an entry. What each is answered to so many words, and which of them it writes.
use Rattle.std.specs.Prelude.{◌≡◌, ◌≢◌, ℕ, ◌+◌, ◌<◌, ◌≤◌, Bool, true, false, List, [], ◌∷◌, length, take, replicate, Option, Some, None, IfSome, option_map}
use Rattle.std.specs.List.{AllByRecursion}
use Rattle.blk_base.specs.declared.ask.FrontAnswer.{FrontAnswer}
use Rattle.blk_base.specs.declared.ask.BackAnswer.{BackAnswer}
use Rattle.blk_base.specs.declared.ask.BackAsk.TheVariants.{Wait}
use Rattle.blk_base.specs.declared.parts.End.TheVariants as end
use Rattle.xen_pages.specs.Pages.{words_of, with_words}
use Rattle.grant_table.specs.Table.{frame_of}
use Rattle.hypervisor.specs.Hypervisor.{Hypervisor}
use Rattle.hypervisor.specs.Act.{has_to_take}
use Rattle.blk_front.specs.declared.entry_part.EntryPart.{EntryPart}
use Rattle.blk_front.specs.declared.sector_part.SectorPart.{SectorPart as FrontPart}
use Rattle.blk_front.specs.Part.{all_written, all_read}
use Rattle.back_jobs.specs.declared.part.SectorPart.{SectorPart as JobPart}
use Rattle.back_jobs.specs.Work.{Work}
use Rattle.back_jobs.specs.Part.{part_at, values_at, words_read, words_written, steps_of}
use Rattle.blk_back.specs.View as back_ring
use Rattle.blk_back.specs.Keeping.{KeepsNone}
use Rattle.blk_back.specs.Step.{job_ask_of, next_job_of}
use Rattle.blk_back.specs.Part.{job_values}
use Rattle.vbd_front.specs.View as front
use Rattle.vbd_front.specs.View.{IsUnkept}
use Rattle.vbd_front.specs.Ask.{is_waiting}
use Rattle.vbd_front.specs.Part.{sector_part, entry_part, entry_words}
use Rattle.vbd_back.specs.Ask.{is_waiting as is_back_waiting}
use Rattle.vbd_back.specs.View as back
use Rattle.vbd_model.specs.World.{World, frontend_of}

-- words of one frame that the front moves one after another: the frame, the first of them in it, and how many; and what each is to be where they are written
pub record FrontWords : Type 0 where
  pub frame : ℕ
  pub word : ℕ
  pub count : ℕ
  pub values : Option (List ℕ)

-- those of a sector, all of one value where they are written
abbrev pub in_sector : FrontPart → FrontWords
in_sector p = record { frame = p.frame; word = p.word; count = p.count; values = option_map (replicate p.count) p.value }

-- those of an entry, which is written
abbrev pub in_entry : EntryPart → (values : List ℕ) → FrontWords
in_entry e values = record { frame = e.frame; word = e.word; count = e.count; values = Some values }

abbrev pub words_in : Option FrontPart → Option EntryPart → (values : List ℕ) → Option FrontWords
words_in (Some p) e values = Some (in_sector p)
words_in None (Some e) values = Some (in_entry e values)
words_in None None values = None

-- the words that the front moves
abbrev pub front_words : front.View → Option FrontWords
front_words f = words_in (sector_part f) (entry_part f) (entry_words f)

-- it is answered what memory holds of the words that it reads, or that they are written
abbrev pub front_answers_to : FrontWords → Option (List ℕ) → (pages : List ℕ) → (n : ℕ) → List FrontAnswer
front_answers_to p (Some values) pages n = all_written n
front_answers_to p None pages n = all_read (words_of pages p.frame p.word n)

abbrev pub front_answers : Option FrontWords → (pages : List ℕ) → (n : ℕ) → List FrontAnswer
front_answers None pages n = []
front_answers (Some p) pages n = front_answers_to p p.values pages n

-- and this is memory with those that it writes
abbrev pub front_writes_to : FrontWords → Option (List ℕ) → (n : ℕ) → List ℕ → List ℕ
front_writes_to p (Some values) n pages = with_words pages p.frame p.word (take n values)
front_writes_to p None n pages = pages

abbrev pub front_writes : Option FrontWords → (n : ℕ) → List ℕ → List ℕ
front_writes None n pages = pages
front_writes (Some p) n pages = front_writes_to p p.values n pages

-- the words that a job moves, and the frame that they are of
abbrev pub part_of : Work → Option JobPart
part_of t = part_at t.stage t

abbrev pub frame_under : Hypervisor → JobPart → ℕ
frame_under h p = frame_of h.grants p.mapping

-- so a job is answered
abbrev pub job_answers_to : Hypervisor → JobPart → (writes : Bool) → (n : ℕ) → List BackAnswer
job_answers_to h p true n = words_written n
job_answers_to h p false n = words_read (words_of h.pages (frame_under h p) p.word n)

abbrev pub job_answers : Hypervisor → Option JobPart → (n : ℕ) → List BackAnswer
job_answers h None n = []
job_answers h (Some p) n = job_answers_to h p p.writes n

-- what so many of its words make of it
abbrev pub job_moved : Hypervisor → (n : ℕ) → Work → Work
job_moved h n t = steps_of t (job_answers h (part_of t) n)

-- and of memory
abbrev pub job_writes_to : Hypervisor → JobPart → (writes : Bool) → (values : List ℕ) → (n : ℕ) → List ℕ → List ℕ
job_writes_to h p true values n pages = with_words pages (frame_under h p) p.word (take n values)
job_writes_to h p false values n pages = pages

abbrev pub job_writes : Hypervisor → Option JobPart → (values : List ℕ) → (n : ℕ) → List ℕ → List ℕ
job_writes h None values n pages = pages
job_writes h (Some p) values n pages = job_writes_to h p p.writes values n pages

-- so many words of each job
abbrev pub jobs_write : Hypervisor → (n : ℕ) → List Work → List ℕ → List ℕ
jobs_write h n [] pages = pages
jobs_write h n (t ∷ works) pages = jobs_write h n works (job_writes h (part_of t) (values_at t.stage t.words) n pages)

-- the back is answered what memory holds of the entry's words, of which it writes none
abbrev pub back_answers : Hypervisor → Option JobPart → (n : ℕ) → List BackAnswer
back_answers h None n = []
back_answers h (Some p) n = words_read (words_of h.pages (frame_under h p) p.word n)

-- the back is in the middle of an entry's words with more than n left, and keeps no mappings; or it waits, and neither an event nor a watch is pending there
abbrev pub BackGoesOn : ℕ → back.View → Hypervisor → Option JobPart → Type 0
BackGoesOn n v h (Some p) = (n < p.count) × (p.word + p.count ≤ 1024) × KeepsNone v.ring
BackGoesOn n v h None = (is_back_waiting v ≡ true) × (has_to_take h end.Back ≡ false)

-- the front is in the middle of a sector's words or of an entry's with more than n left, has those that it is to write, and keeps no grants; or it waits, and neither an event nor a watch is pending there
abbrev pub FrontGoesOn : ℕ → World → Option FrontWords → Type 0
FrontGoesOn n w (Some p) = (n < p.count) × (p.word + p.count ≤ 1024) × IfSome p.values (λ values. p.count ≤ length values) × IsUnkept w.rings.front
FrontGoesOn n w None = (is_waiting (frontend_of w) ≡ true) × (has_to_take w.rings.under end.Front ≡ false)

-- a job is in the middle of a sector's words with more than n left, and has those that it is to write; or it waits
abbrev pub JobGoesOn : ℕ → back_ring.View → Work → Option JobPart → Type 0
JobGoesOn n v t (Some p) = (n < p.count) × (p.word + p.count ≤ 1024) × (p.writes ≡ true → p.count ≤ length (values_at t.stage t.words))
JobGoesOn n v t None = job_ask_of v t.number ≡ Wait

-- none of these jobs moves words of this frame
abbrev pub IsOutside : Hypervisor → (frame : ℕ) → List Work → Type 0
IsOutside h frame works = AllByRecursion (λ (t : Work). IfSome (part_of t) (λ p. frame_under h p ≢ frame)) works

-- no two of them move words of one frame
abbrev pub AreApart : Hypervisor → List Work → Type 0
AreApart h [] = Unit {0}
AreApart h (t ∷ works) = IfSome (part_of t) (λ p. IsOutside h (frame_under h p) works) × AreApart h works

-- each number is above that of the job before it, and the first above this one
abbrev pub AreAbove : ℕ → List Work → Type 0
AreAbove number [] = Unit {0}
AreAbove number (t ∷ works) = (number < t.number) × AreAbove t.number works

-- the jobs of these numbers come one after another from this number on, and after them none
abbrev pub AreVisited : back_ring.View → (from : ℕ) → (numbers : List ℕ) → Type 0
AreVisited v from [] = next_job_of v from ≡ None
AreVisited v from (k ∷ numbers) = (next_job_of v from ≡ Some k) × AreVisited v k numbers

-- the calls for the job of a number say that it goes on so long, or asks for no such word and waits
abbrev pub CallsSay : ℕ → back_ring.View → (number : ℕ) → Option JobPart → Type 0
CallsSay n v number (Some p) = (n < p.count) × (p.word + p.count ≤ 1024) × (p.writes ≡ true → p.count ≤ length (job_values v number))
CallsSay n v number None = job_ask_of v number ≡ Wait
