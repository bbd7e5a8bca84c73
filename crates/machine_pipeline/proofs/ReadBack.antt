-- What the frames of reads hold: the words that the disk gave, from the job's last word until the data are told.
use Rattle.std.specs.Prelude.{◌≡◌, ℕ, ◌+◌, ◌-◌, ◌*◌, ◌<◌, ◌≤◌, Bool, true, false, List, [], ◌∷◌, ◌++◌, length, slice_get, slice_index, Some}
use Rattle.plain_disk.specs.Step.{is_okay}
use Rattle.pipeline_laws.specs.Station.{Station, Ended, Replying, Replied, Taking, Telling, PipelineRequest}
use Rattle.blk_front.specs.declared.request.Request.{Request}
use Rattle.blk_front.specs.Request.{is_write}
use Rattle.back_jobs.specs.declared.stage.JobStage.{JobStage}
use Rattle.back_jobs.specs.declared.stage.JobStage.TheVariants as job
use Rattle.back_jobs.specs.Work.{Work}
use Rattle.machine_pipeline.proofs.Flow.{data_word}

-- these are the 128 words of sector i of its data
pub record IsHeld (pages : List ℕ) (r : Request) (i : ℕ) (words : List ℕ) : Type 0 where
  pub size : length words ≡ 128
  pub held : (k : ℕ) → k < 128 → data_word pages r (128 * i + k) ≡ slice_index words k

-- so many sectors were noted, the first ones, and its frames hold their words
pub record IsReadBack (pages : List ℕ) (r : Request) (moved : ℕ) (noted : List (List ℕ)) : Type 0 where
  pub counted : length noted ≡ moved
  pub few : moved ≤ r.count
  pub sectors : (i : ℕ) (words : List ℕ) → slice_get noted i ≡ Some words → IsHeld pages r i words

-- a sector was noted and is in hand, and its first words stand in the frame
pub record IsReturned (pages : List ℕ) (r : Request) (moved : ℕ) (hand : List ℕ) (noted : List (List ℕ)) (j : ℕ) : Type 0 where
  pub earlier : List (List ℕ)
  pub with_hand : noted ≡ earlier ++ hand ∷ []
  pub counted : length earlier + 1 ≡ moved
  pub few : moved ≤ r.count
  pub back : IsReadBack pages r (length earlier) earlier
  pub size : length hand ≡ 128
  pub so_far : (k : ℕ) → k < j → k < 128 → data_word pages r (128 * length earlier + k) ≡ slice_index hand k

-- what a read's job has in hand, by its stage and how many sectors it moved; one that flushes or trims has read nothing
abbrev pub ReadAt : (pages : List ℕ) (r : Request) (moved : ℕ) (hand : List ℕ) (noted : List (List ℕ)) → JobStage → Type 0
ReadAt pages r moved hand noted (job.WriteWord m j) = IsReturned pages r moved hand noted j
ReadAt pages r moved hand noted job.Flush = IsReadBack pages r 0 noted
ReadAt pages r moved hand noted (job.Trim count) = IsReadBack pages r 0 noted
ReadAt pages r moved hand noted (job.ReadWord m j) = Unit {0}
ReadAt pages r moved hand noted (job.DiskWrite m) = Unit {0}
ReadAt pages r moved hand noted (job.Abort m) = Unit {0}
ReadAt pages r moved hand noted (job.Done status) = Unit {0}
ReadAt pages r moved hand noted s = IsReadBack pages r moved noted

-- the stations at which a read that went well has its data in its frame
abbrev pub has_data_at : Station → Bool
has_data_at (Ended status) = is_okay status
has_data_at (Replying status) = is_okay status
has_data_at (Replied status) = is_okay status
has_data_at (Taking status) = is_okay status
has_data_at (Telling next) = true
has_data_at station = false

-- the frames of all reads: those that jobs serve, and those that went well
pub record AreReadBack (submitted : List Request) (asked : List PipelineRequest) (works : List Work) (pages : List ℕ) : Type 0 where
  pub working : (i : ℕ) (t : Work) (r : Request) (q : PipelineRequest) → slice_get works i ≡ Some t → slice_get submitted (t.id - 1) ≡ Some r → slice_get asked (t.id - 1) ≡ Some q → is_write r.transfer ≡ false → ReadAt pages r t.moved t.words q.words t.stage
  pub after : (k : ℕ) (r : Request) (q : PipelineRequest) → slice_get submitted k ≡ Some r → slice_get asked k ≡ Some q → is_write r.transfer ≡ false → has_data_at q.station ≡ true → IsReadBack pages r r.count q.words

-- a sector in hand stays that, over another memory, with more of its words written
abbrev pub returned_on : {pages : List ℕ} {r : Request} {moved : ℕ} {hand : List ℕ} {noted : List (List ℕ)} {j : ℕ} (pages' : List ℕ) (j' : ℕ) (x : IsReturned pages r moved hand noted j)
    → IsReadBack pages' r (length x.earlier) x.earlier → ((k : ℕ) → k < j' → k < 128 → data_word pages' r (128 * length x.earlier + k) ≡ slice_index hand k)
    → IsReturned pages' r moved hand noted j'
returned_on pages' j' x back so_far = record { earlier = x.earlier; with_hand = x.with_hand; counted = x.counted; few = x.few; back = back; size = x.size; so_far = so_far }
