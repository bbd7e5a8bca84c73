-- What passes through the ring, by whole indices in place of its wrapped words: whole indices, each request that was ever submitted, those of this epoch, and the responses on their way.
use Rattle.std.specs.Prelude.{option_map, is_some, ℕ, ◌+◌, ◌-◌, ◌*◌, ◌/◌, ◌%◌, ◌^◌, ◌==◌, ◌&&◌, Bool, true, false, List, [], length, map, max, count_by, Option, Some, None, if◌then◌else◌, nat_lt}
use Rattle.std.specs.List.{range_with_len}
use Rattle.blk_base.specs.declared.config.Submission.{Submission}
use Rattle.blk_base.specs.declared.config.Submission.TheVariants as submissions
use Rattle.ring_words.specs.Shape.{Shape, entry_words_of}
use Rattle.blk_layout.specs.declared.segment.Segment.{Segment}
use Rattle.blk_front.specs.declared.request.Request.{Request}
use Rattle.blk_front.specs.declared.request.Transfer.{Transfer}
use Rattle.blk_front.specs.declared.request.Transfer.TheVariants as transfer
use Rattle.blk_front.specs.declared.stage.Ending.{Ending}
use Rattle.blk_front.specs.declared.stage.FrontStage.{FrontStage}
use Rattle.blk_front.specs.declared.stage.FrontStage.TheVariants as front
use Rattle.blk_front.specs.Request.{is_write, frames_for, is_indirect, words_in, naming_words, frame_at, filling_at, naming_at, segment_at}
use Rattle.xen_pages.specs.Pages.{word_of}
use Rattle.back_jobs.specs.declared.stage.JobStage.{JobStage}
use Rattle.back_jobs.specs.declared.stage.JobStage.TheVariants as job
use Rattle.blk_back.specs.declared.stage.Reply.{Reply}
use Rattle.blk_back.specs.declared.stage.BackStage.{BackStage}
use Rattle.blk_back.specs.declared.stage.BackStage.TheVariants as back
use Rattle.pipeline_laws.specs.Station.{Station, Working, Failed, Ended}
use Rattle.blk_base.specs.declared.operation.Abi.TheVariants.{X64}

-- the ring's shape and its first index; how many ports were made before this epoch; how many requests were pushed, how many of them fetched, how many of these replied to, and how many of the responses taken; how many responses and requests the front and the back saw in the producers; the requests, number 1 first; those of this epoch, in the order in which they are pushed; the responses that the front hasn't taken, oldest first; and whether the front began to close
pub record Flow : Type 0 where
  pub shape : Shape
  pub start : ℕ
  pub before : ℕ
  pub pushed : ℕ
  pub fetched : ℕ
  pub replied : ℕ
  pub taken : ℕ
  pub front_seen : ℕ
  pub back_seen : ℕ
  pub submitted : List Request
  pub series : List Request
  pub replies : List Reply
  pub closing : Bool

-- at the start of an epoch, of which these are the requests
abbrev pub epoch_flow : Shape → (start before : ℕ) → (submitted series : List Request) → (closing : Bool) → Flow
epoch_flow shape start before submitted series closing = record { shape = shape; start = start; before = before; pushed = 0; fetched = 0; replied = 0; taken = 0; front_seen = 0; back_seen = 0; submitted = submitted; series = series; replies = []; closing = closing }

-- of the first one
abbrev pub start_flow : Shape → ℕ → Flow
start_flow shape start = epoch_flow shape start 0 [] [] false

-- a whole index as the ring's words have it
abbrev pub wrapped : ℕ → ℕ → ℕ
wrapped start n = (start + n) % 2 ^ 32

-- the ring's words are all written
abbrev pub has_ring : FrontStage → Bool
has_ring (front.LeftData n) = false
has_ring (front.RingWord k) = false
has_ring s = true

-- how many frames of the ring are granted, and how many stand in their grant entries, of a ring of so many pages
abbrev pub granted_pages : FrontStage → (pages : ℕ) → ℕ
granted_pages (front.LeftData n) pages = 0
granted_pages (front.RingWord k) pages = 0
granted_pages (front.RingFrame page) pages = page
granted_pages (front.RingFence page) pages = page
granted_pages (front.RingFlags page) pages = page
granted_pages s pages = pages

abbrev pub named_pages : FrontStage → (pages : ℕ) → ℕ
named_pages (front.RingFence page) pages = page + 1
named_pages (front.RingFlags page) pages = page + 1
named_pages s pages = granted_pages s pages

-- a request is being issued: its data, its indirect pages, its grants, its entry, and then the producer
abbrev pub is_issuing : FrontStage → Bool
is_issuing (front.Data n) = true
is_issuing (front.Pages n) = true
is_issuing (front.GrantFrame place) = true
is_issuing (front.GrantFence place) = true
is_issuing (front.GrantFlags place) = true
is_issuing (front.Slot k) = true
is_issuing front.Producer = true
is_issuing s = false

-- of the request that is being issued, whose data have so many frames: how far the words of its frames were written, those of its data first and then those of its indirect pages (all are, once its frames are granted), how many of its frames stand in their grant entries, and how many are granted
abbrev pub filled : FrontStage → (frames : ℕ) → ℕ
filled (front.Data n) frames = n
filled (front.Pages n) frames = 1024 * frames + n
filled s frames = if is_issuing s then 1024 * frames + 1920 else 0

abbrev pub named_frames : FrontStage → ℕ
named_frames (front.GrantFrame place) = place
named_frames (front.GrantFence place) = place + 1
named_frames (front.GrantFlags place) = place + 1
named_frames (front.Slot k) = 962
named_frames front.Producer = 962
named_frames s = 0

abbrev pub granted_frames : FrontStage → ℕ
granted_frames (front.GrantFrame place) = place
granted_frames (front.GrantFence place) = place
granted_frames (front.GrantFlags place) = place
granted_frames (front.Slot k) = 962
granted_frames front.Producer = 962
granted_frames s = 0

abbrev pub entered : FrontStage → ℕ
entered (front.Slot k) = k
entered front.Producer = entry_words_of X64
entered s = 0

-- the request whose grants are being ended
abbrev pub revoking_at : FrontStage → Option Ending → Option Ending
revoking_at (front.GrantRead place) ending = ending
revoking_at (front.GrantEnd place before) ending = ending
revoking_at s ending = None

-- or whose data are told
abbrev pub ending_at : FrontStage → Option Ending → Option Ending
ending_at (front.ReadData n) ending = ending
ending_at (front.LeftData n) ending = ending
ending_at s ending = revoking_at s ending

-- how many of its grants were ended
abbrev pub revoked : FrontStage → ℕ
revoked (front.GrantRead place) = place
revoked (front.GrantEnd place before) = place
revoked s = 0

-- the word that is read next, of the data of an answered read
abbrev pub word_at : FrontStage → Option ℕ
word_at (front.ReadData n) = Some n
word_at (front.LeftData n) = Some n
word_at s = None

-- and the sector that is told next
abbrev pub telling_at : FrontStage → Option ℕ
telling_at s = option_map (λ (n : ℕ). n / 128) (word_at s)

abbrev pub count_of : Option Ending → ℕ
count_of None = 0
count_of (Some e) = 1

-- how many frames a request has, and how often it has this one
abbrev pub frames_of : Request → ℕ
frames_of r = length r.frames.items

abbrev pub uses : ℕ → Request → ℕ
uses frame r = count_by (λ (f : ℕ). f == frame) r.frames.items

abbrev pub ending_frames : Option Ending → ℕ
ending_frames None = 0
ending_frames (Some e) = frames_of e.request

abbrev pub ending_uses : ℕ → Option Ending → ℕ
ending_uses frame None = 0
ending_uses frame (Some e) = uses frame e.request

-- the front stored its event word and goes to sleep, or sleeps and does nothing else than issue requests
abbrev pub is_front_arming : FrontStage → Bool
is_front_arming front.EventFence = true
is_front_arming front.LookAgain = true
is_front_arming s = false

abbrev pub may_front_sleep : FrontStage → Bool
may_front_sleep front.Loop = true
may_front_sleep (front.ProducerFence old) = true
may_front_sleep (front.RequestEvent old) = true
may_front_sleep front.Send = true
may_front_sleep s = is_issuing s

-- the response that is being written, and how many of its words were
abbrev pub reply_at : BackStage → Option Reply
reply_at (back.ReplyHigh r) = Some r
reply_at (back.ReplyLast r) = Some r
reply_at (back.Producer r) = Some r
reply_at s = None

abbrev pub reply_count : Option Reply → ℕ
reply_count None = 0
reply_count (Some r) = 1

abbrev pub responded : BackStage → ℕ
responded (back.ReplyHigh r) = 1
responded (back.ReplyLast r) = 2
responded (back.Producer r) = 3
responded s = 0

abbrev pub is_back_arming : BackStage → Bool
is_back_arming back.EventFence = true
is_back_arming back.LookAgain = true
is_back_arming s = false

abbrev pub may_back_sleep : BackStage → Bool
may_back_sleep back.Loop = true
may_back_sleep (back.ProducerFence old) = true
may_back_sleep (back.ResponseEvent old) = true
may_back_sleep back.Send = true
may_back_sleep s = is_some (reply_at s)

-- an entry is being copied
abbrev pub is_fetching : BackStage → Bool
is_fetching (back.Fetch k) = true
is_fetching s = false

-- the station of a job's request, by the job's stage and how many sectors it moved
abbrev pub worked : JobStage → ℕ → Station
worked (job.Abort m) moved = Failed
worked (job.Done status) moved = Ended status
worked s moved = Working moved

-- the back has the terms of its front, and is bound to its port
abbrev pub has_terms : BackStage → Bool
has_terms back.InitWait = false
has_terms s = true

abbrev pub is_bound_back : BackStage → Bool
is_bound_back back.InitWait = false
is_bound_back back.MapRing = false
is_bound_back back.Bind = false
is_bound_back s = true

-- a request as the pipeline has it
abbrev pub submitted_job : Transfer → (sector count : ℕ) → Submission
submitted_job transfer.Read sector count = submissions.Read sector count
submitted_job (transfer.Write tag) sector count = submissions.Write sector count tag
submitted_job (transfer.Barrier tag) sector count = submissions.Barrier sector count tag
submitted_job transfer.Flush sector count = submissions.Flush
submitted_job (transfer.Discard sectors) sector count = submissions.Discard sector sectors

-- its own segments
abbrev pub own_segments : Request → List Segment
own_segments r = map (segment_at r) (range_with_len 0 (frames_for r.count))

-- word n of its frames, those of its data and then its indirect pages, as memory has it
abbrev pub data_word : List ℕ → Request → ℕ → ℕ
data_word pages r n = word_of pages (frame_at r (n / 1024)) (n % 1024)

-- the words of its frames are so many at most
abbrev pub span : Request → ℕ
span r = max (words_in r) (1024 * frames_of r)

-- its segments take so many words of its indirect pages
abbrev pub naming_in : Request → ℕ
naming_in r = if is_indirect r.count then naming_words r else 0

-- word n of its frames is one that the front writes before it grants them: of the data of a write, or of its indirect pages
abbrev pub is_own : Request → ℕ → Bool
is_own r n = if nat_lt n (1024 * frames_for r.count) then is_write r.transfer && nat_lt n (words_in r) else nat_lt n (1024 * frames_for r.count + naming_in r)

-- and the front writes this there
abbrev pub own_value : Request → ℕ → ℕ
own_value r n = if nat_lt n (1024 * frames_for r.count) then filling_at r.transfer n else naming_at r (n - 1024 * frames_for r.count)
