-- What is true of a job at every moment.
use Rattle.std.specs.Prelude.{◌≡◌, ℕ, ◌+◌, ◌-◌, ◌<◌, ◌≤◌, Bool, true, false, List, [], ◌∷◌, length, map, All}
use Rattle.std.specs.List.{AllByRecursion, filter, position_or_len}
use Rattle.blk_base.specs.declared.parts.Mapping.{Mapping}
use Rattle.blk_base.specs.declared.parts.Mode.TheVariants.{ReadOnly, ReadWrite}
use Rattle.blk_base.specs.declared.ask.BackAsk.{BackAsk}
use Rattle.blk_base.specs.declared.ask.BackAsk.TheVariants as ask
use Rattle.blk_layout.specs.declared.segment.Segment.{Segment}
use Rattle.segment_list.specs.Segments.{IsSound, sectors_of}
use Rattle.back_jobs.specs.declared.stage.JobStage.{JobStage}
use Rattle.back_jobs.specs.declared.stage.JobStage.TheVariants as stage
use Rattle.back_jobs.specs.Work.{Work}
use Rattle.back_jobs.specs.Jobs.{is_done, holds_barriers, holds_all}

-- the present segment has come as far as `within`; after `ahead` more sectors of it, those of the others lie on the disk
abbrev pub IsUnderWay : Work → ℕ → List Segment → Type 0
IsUnderWay t ahead [] = ⊥
IsUnderWay t ahead (s ∷ rest) = (s.last ≤ 7) × (t.within ≤ s.last) × (t.disk + (s.last - t.within) + ahead + sectors_of rest ≤ t.size) × AllByRecursion IsSound rest

-- the sectors that are left once a segment is done lie on the disk
abbrev pub IsLeft : Work → List Segment → Type 0
IsLeft t [] = ⊥
IsLeft t (s ∷ rest) = (t.disk + sectors_of rest ≤ t.size) × AllByRecursion IsSound rest

-- a mapping in the hand of a job whose words go to the frame was made for writing
abbrev pub IsInMode : Mapping → Work → Type 0
IsInMode m t = t.writes ≡ false → m.mode ≡ ReadWrite

-- segments are left to be copied, of as many as there is room for
abbrev pub IsCopying : Work → Type 0
IsCopying t = (length t.rest < t.named) × (t.named ≤ 960)

-- words go from the frame to the disk in a job that writes, and from the disk to the frame in one that reads
abbrev pub IsPlaced : JobStage → Work → Type 0
IsPlaced stage.MapPage t = IsCopying t
IsPlaced (stage.PageReference m) t = IsCopying t × (m.mode ≡ ReadOnly)
IsPlaced (stage.PageSectors m gref) t = IsCopying t × (m.mode ≡ ReadOnly)
IsPlaced (stage.UnmapPage m) t = (1 ≤ t.named) × (t.named ≤ 960) × (length t.rest ≤ t.named) × (m.mode ≡ ReadOnly)
IsPlaced stage.Map t = IsUnderWay t 1 t.rest
IsPlaced (stage.ReadWord m k) t = (k < 128) × IsUnderWay t 1 t.rest × IsInMode m t × (t.writes ≡ true)
IsPlaced (stage.DiskWrite m) t = IsUnderWay t 1 t.rest × IsInMode m t × (t.writes ≡ true)
IsPlaced (stage.DiskRead m) t = IsUnderWay t 1 t.rest × IsInMode m t × (t.writes ≡ false)
IsPlaced (stage.WriteWord m k) t = (k < 128) × IsUnderWay t 0 t.rest × IsInMode m t × (t.writes ≡ false)
IsPlaced (stage.Unmap m) t = IsLeft t t.rest × IsInMode m t
IsPlaced (stage.Abort m) t = IsInMode m t
IsPlaced stage.Flush t = Unit {0}
IsPlaced (stage.Trim count) t = t.disk + count ≤ t.size
IsPlaced (stage.Done status) t = Unit {0}

-- a job without a mapping: it flushes the disk, trims sectors that lie on it, or is done
abbrev pub IsFrameless : JobStage → (sector size : ℕ) → Type 0
IsFrameless stage.Flush sector size = Unit {0}
IsFrameless (stage.Trim count) sector size = sector + count ≤ size
IsFrameless (stage.Done status) sector size = Unit {0}
IsFrameless s sector size = ⊥

-- every job knows the disk's size
abbrev pub AreSized : ℕ → List Work → Type 0
AreSized size works = All (λ (t : Work). t.size ≡ size) works

-- each number is above those before it
abbrev pub AreAscending : List Work → Type 0
AreAscending [] = Unit {0}
AreAscending (t ∷ works) = AllByRecursion (λ (u : Work). t.number < u.number) works × AreAscending works

-- the place of the lowest job that is done; how many there are where none is
abbrev pub done_place : List Work → ℕ
done_place works = position_or_len (λ (t : Work). is_done t) works

-- the numbers of the jobs that are done, in the order of the jobs
abbrev pub done_numbers : List Work → List ℕ
done_numbers works = map (λ (t : Work). t.number) (filter (λ (t : Work). is_done t) works)

-- the jobs, with what is known of them: where their numbers are said to ascend they do, and those of the jobs that are done are listed; and the lowest that is done stands at this place
pub record IsKept (ascending : Bool) (finished : List ℕ) (done room capacity listed size : ℕ) (works : List Work) : Type 0 where
  pub has_room : room ≤ capacity
  pub has_list_room : room ≤ listed
  pub held : length works ≤ room
  pub sized : AreSized size works
  pub in_order : ascending ≡ true → AreAscending works
  pub is_listed : ascending ≡ true → finished ≡ done_numbers works
  pub is_done : done ≡ done_place works

-- where the first job stands that a barrier waits for, and the first barrier that isn't done; how many jobs there are where there is none
abbrev pub ordered_place : List Work → ℕ
ordered_place works = position_or_len holds_barriers works

abbrev pub barrier_place : List Work → ℕ
barrier_place works = position_or_len holds_all works

pub record AreFirst (ordered barrier : ℕ) (works : List Work) : Type 0 where
  pub ordered_is : ordered ≡ ordered_place works
  pub barrier_is : barrier ≡ barrier_place works

-- segments that a job may begin with: there is one, each has a sector and none beyond its frame, and all lie on the disk
abbrev pub AreMovable : ℕ → ℕ → List Segment → Type 0
AreMovable size sector [] = ⊥
AreMovable size sector (s ∷ rest) = (sector + sectors_of (s ∷ rest) ≤ size) × AllByRecursion IsSound (s ∷ rest)

-- an ask that touches memory names a word below 1024, and one that calls the disk sectors below `size`
abbrev pub StaysInPageAndDisk : ℕ → BackAsk → Type 0
StaysInPageAndDisk size (ask.Read m word) = word < 1024
StaysInPageAndDisk size (ask.Write m word value) = word < 1024
StaysInPageAndDisk size (ask.DiskRead sector) = sector < size
StaysInPageAndDisk size (ask.DiskWrite sector words) = sector < size
StaysInPageAndDisk size (ask.Trim sector count) = sector + count ≤ size
StaysInPageAndDisk size a = Unit {0}
