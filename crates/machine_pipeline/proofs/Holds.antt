-- What holds between both ends, memory, and the pipeline that they stand for, one subject a record.
use Rattle.std.specs.Prelude.{◌≡◌, ◌≢◌, ℕ, ◌+◌, ◌-◌, ◌*◌, ◌/◌, ◌%◌, ◌^◌, ◌<◌, ◌≤◌, ◌==◌, ◌⊎◌, Bool, true, false, not, cond, List, [], ◌∷◌, length, take, count_by, sum_by, slice_get, slice_index, slice_index_or, Option, Some, None, All, AllPairs, if◌then◌else◌}
use Rattle.blk_base.specs.declared.parts.Mapping.{Mapping}
use Rattle.blk_base.specs.declared.parts.Mode.TheVariants.{ReadWrite}
use Rattle.blk_base.specs.declared.operation.Status.TheVariants.{Okay}
use Rattle.std.specs.List.{range_with_len}
use Rattle.ring_words.specs.Ring.{Ring}
use Rattle.ring_words.specs.Shape.{Shape, entries_of, entry_words_of}
use Rattle.xen_pages.specs.Pages.{word_of}
use Rattle.grant_table.specs.declared.held.Held.{Held}
use Rattle.grant_table.specs.Table.{entry_word0, entry_word1, mappings_of}
use Rattle.event_channel.specs.declared.channels.PortState.{PortState}
use Rattle.event_channel.specs.declared.channels.PortState.TheVariants.{Unbound, Bound}
use Rattle.pipeline_laws.specs.Pipeline.{Pipeline}
use Rattle.blk_front.specs.declared.request.Request.{Request}
use Rattle.blk_front.specs.declared.request.Transfer.{Transfer}
use Rattle.blk_front.specs.declared.request.Transfer.TheVariants as transfer
use Rattle.blk_front.specs.Entry.{entry_of}
use Rattle.blk_front.specs.Request.{is_write, is_moving, is_indirect, named_of, tag_of, flags_at, frames_for, naming_words, words_in, frame_at, IsShaped}
use Rattle.blk_front.specs.declared.stage.Ending.{Ending}
use Rattle.blk_front.specs.declared.state.Offers.{Offers}
use Rattle.blk_front.specs.declared.stage.FrontStage.{FrontStage}
use Rattle.blk_front.specs.declared.stage.FrontStage.TheVariants as front
use Rattle.blk_front.specs.View.{fresh_word, slot_frame, slot_word, next_request}
use Rattle.blk_front.specs.Submit.{is_ready, is_connected, ending_of}
use Rattle.back_jobs.specs.Work.{Work}
use Rattle.blk_back.specs.declared.stage.Reply.{Reply}
use Rattle.blk_back.specs.declared.stage.BackStage.{BackStage}
use Rattle.blk_back.specs.declared.stage.BackStage.TheVariants as back
use Rattle.blk_back.specs.Ask.{response_word}
use Rattle.segment_list.specs.declared.verdict.DiskInfo.{DiskInfo}
use Rattle.blk_base.specs.declared.halt.Halt.{Halt}
use Rattle.blk_back.specs.View.{no_page, info_of}
use Rattle.blk_back.specs.Hands.{hands_at}
use Rattle.blk_base.specs.Options.{Options}
use Rattle.split_model.specs.World.{World}
use Rattle.split_model.specs.Safe.{IsSafe}
use Rattle.machine_pipeline.proofs.Flow.{Flow, wrapped, has_ring, named_pages, granted_pages, filled, named_frames, granted_frames, entered, ending_at, revoking_at, revoked, telling_at, frames_of, uses, ending_frames, ending_uses, is_front_arming, may_front_sleep, reply_at, reply_count, responded, is_back_arming, may_back_sleep, has_terms, is_bound_back, data_word, span, is_own, own_value, is_issuing, is_fetching}
use Rattle.machine_pipeline.proofs.Series.{IsSeries, IsAmong, HasNumber}
use Rattle.machine_pipeline.proofs.Stations.{AreStations}
use Rattle.machine_pipeline.proofs.HoldsWorks.{AreWorks, is_only_read}

-- the indices of both ends are whole ones, wrapped, in the order of a request's way; the requests of the series were pushed, or wait (`waiting`); `unfinished` of them are left, and `ending` more have their grant ended
pub record AreIndices (g : Flow) (front_ring back_ring : Ring) (front_seen back_seen number last waiting unfinished ending : ℕ) : Type 0 where
  pub front_entries : front_ring.entries ≡ entries_of g.shape.order
  pub pushed : front_ring.prod ≡ wrapped g.start g.pushed
  pub taken : front_ring.cons ≡ wrapped g.start g.taken
  pub replied : back_ring.prod ≡ wrapped g.start g.replied
  pub fetched : back_ring.cons ≡ wrapped g.start g.fetched
  pub front_saw : front_seen ≡ wrapped g.start g.front_seen
  pub back_saw : back_seen ≡ wrapped g.start g.back_seen
  pub count : number ≡ g.fetched
  pub taken_replied : g.taken ≤ g.replied
  pub replied_fetched : g.replied ≤ g.fetched
  pub fetched_pushed : g.fetched ≤ g.pushed
  pub front_from : g.taken ≤ g.front_seen
  pub front_to : g.front_seen ≤ g.replied
  pub back_from : g.fetched ≤ g.back_seen
  pub back_to : g.back_seen ≤ g.pushed
  pub all : length g.series ≡ g.pushed + waiting
  pub given : length g.series ≤ last
  pub few : last < 2 ^ 32
  pub held : unfinished + g.taken ≡ length g.series
  pub room : unfinished + ending ≤ entries_of g.shape.order

-- the front's requests are submitted ones, in order of number; those that were issued are of the series, and those that wait are the rest of it
pub record AreQueued (submitted series : List Request) (pushed : ℕ) (requests : List Request) (waiting : ℕ) : Type 0 where
  pub ordered : IsSeries submitted series
  pub known : All (λ (r : Request). slice_get submitted (r.number - 1) ≡ Some r) requests
  pub ascending : AllPairs (λ (r s : Request). r.number < s.number) requests
  pub issued : All (IsAmong series pushed) (take (length requests - waiting) requests)
  pub next : (j : ℕ) (r : Request) → j < waiting → slice_get requests (length requests - waiting + j) ≡ Some r → slice_get series (pushed + j) ≡ Some r

-- a frame of the pool
abbrev pub IsPooled : ℕ → Type 0
IsPooled frame = (18 ≤ frame) × (frame < 1018)

-- the numbers of a request: a tag of 32 bits; a flush names no sector, and a discard some, by a number of 32 bits
abbrev pub AreNumbers : Transfer → (sector : ℕ) → Type 0
AreNumbers transfer.Flush sector = sector ≡ 0
AreNumbers (transfer.Discard sectors) sector = (1 ≤ sectors) × (sectors < 2 ^ 32)
AreNumbers way sector = tag_of way < 2 ^ 32

-- a submitted request: number k + 1, of sectors of the disk, in frames of the pool
pub record IsSubmitted (sectors k : ℕ) (r : Request) : Type 0 where
  pub number : r.number ≡ k + 1
  pub sector : r.sector + named_of r.transfer r.count ≤ sectors
  pub numbers : AreNumbers r.transfer r.sector
  pub shaped : IsShaped r
  pub frames : All IsPooled r.frames.items

pub record AreSubmitted (submitted : List Request) (sectors last : ℕ) : Type 0 where
  pub counted : length submitted ≡ last
  pub each : (k : ℕ) (r : Request) → slice_get submitted k ≡ Some r → IsSubmitted sectors k r
  pub sized : sectors ≤ 2 ^ 64

-- each frame of the pool is that of one unfinished request where it is in use, and else of none
pub record ArePooled (pool : List Bool) (requests : List Request) (ending : Option Ending) : Type 0 where
  pub size : length pool ≡ 1000
  pub each : (f : ℕ) → f < 1000 → sum_by (uses (18 + f)) requests + ending_uses (18 + f) ending ≡ cond (slice_index_or pool f false) 1 0
  pub used : count_by (λ (b : Bool). b) pool ≡ sum_by frames_of requests + ending_frames ending

-- a response that the front hasn't taken
pub record IsReply (series : List Request) (fetched : ℕ) (rep : Reply) : Type 0 where
  pub positive : 1 ≤ rep.id
  pub reached : HasNumber series fetched rep.id
  pub op : rep.op < 2 ^ 8

pub record AreReplies (series : List Request) (fetched taken replied : ℕ) (replies : List Reply) : Type 0 where
  pub counted : length replies + taken ≡ replied
  pub each : All (IsReply series fetched) replies
  pub distinct : AllPairs (λ (a b : Reply). a.id ≢ b.id) replies

-- the request whose grants are being ended is a submitted one, and no response that is left names it
pub record IsEnding (submitted : List Request) (replies : List Reply) (e : Ending) : Type 0 where
  pub known : slice_get submitted (e.request.number - 1) ≡ Some e.request
  pub positive : 1 ≤ e.request.number
  pub alone : All (λ (rep : Reply). rep.id ≢ e.request.number) replies

-- word i of the oldest response, which the front has seen
pub record IsTaken (taken front_seen : ℕ) (replies : List Reply) : Type 0 where
  pub rep : Reply
  pub oldest : slice_get replies 0 ≡ Some rep
  pub seen : taken < front_seen

-- the request that is issued next, with what a stage says of it
abbrev pub IsNextAt : Option Request → (Request → Type 0) → Type 0
IsNextAt next P = (r : Request) × (next ≡ Some r) × P r

-- the request that is ending, with what a stage says of it
abbrev pub IsEndingAt : List Request → List Reply → Option Ending → (Ending → Type 0) → Type 0
IsEndingAt submitted replies ending P = (e : Ending) × (ending ≡ Some e) × IsEnding submitted replies e × P e

-- a read whose answer was told, with so many words of its data read
abbrev pub IsToldAt : List Request → List Reply → Option Ending → ℕ → Type 0
IsToldAt submitted replies ending n = IsEndingAt submitted replies ending (λ e. (n < words_in e.request) × (e.request.transfer ≡ transfer.Read) × (e.status ≡ Okay))

abbrev pub FrontAt : Shape → (start pushed taken front_seen : ℕ) → List Request → List Reply → Option Request → List ℕ → Option Ending → FrontStage → Type 0
FrontAt shape start pushed taken front_seen submitted replies next entry ending (front.RingWord k) = k < 16
FrontAt shape start pushed taken front_seen submitted replies next entry ending (front.RingFrame page) = page < 2 ^ shape.order
FrontAt shape start pushed taken front_seen submitted replies next entry ending (front.RingFence page) = page < 2 ^ shape.order
FrontAt shape start pushed taken front_seen submitted replies next entry ending (front.RingFlags page) = page < 2 ^ shape.order
FrontAt shape start pushed taken front_seen submitted replies next entry ending (front.Data n) = IsNextAt next (λ r. (1 ≤ n) × (n < words_in r) × (is_write r.transfer ≡ true))
FrontAt shape start pushed taken front_seen submitted replies next entry ending (front.Pages n) = IsNextAt next (λ r. (n < naming_words r) × (is_indirect r.count ≡ true))
FrontAt shape start pushed taken front_seen submitted replies next entry ending (front.GrantFrame place) = IsNextAt next (λ r. place < frames_of r)
FrontAt shape start pushed taken front_seen submitted replies next entry ending (front.GrantFence place) = IsNextAt next (λ r. place < frames_of r)
FrontAt shape start pushed taken front_seen submitted replies next entry ending (front.GrantFlags place) = IsNextAt next (λ r. place < frames_of r)
FrontAt shape start pushed taken front_seen submitted replies next entry ending (front.Slot k) = (k < entry_words_of shape.abi) × IsNextAt next (λ r. entry ≡ entry_of shape.abi r)
FrontAt shape start pushed taken front_seen submitted replies next entry ending front.Producer = IsNextAt next (λ r. Unit {0})
FrontAt shape start pushed taken front_seen submitted replies next entry ending (front.ProducerFence old) = (1 ≤ pushed) × (old ≡ wrapped start (pushed - 1))
FrontAt shape start pushed taken front_seen submitted replies next entry ending (front.RequestEvent old) = (1 ≤ pushed) × (old ≡ wrapped start (pushed - 1))
FrontAt shape start pushed taken front_seen submitted replies next entry ending (front.ResponseHigh low) = (t : IsTaken taken front_seen replies) × (low ≡ response_word t.rep 0)
FrontAt shape start pushed taken front_seen submitted replies next entry ending (front.ResponseLast low high) = (t : IsTaken taken front_seen replies) × (low ≡ response_word t.rep 0) × (high ≡ response_word t.rep 1)
FrontAt shape start pushed taken front_seen submitted replies next entry ending (front.GrantRead place) = IsEndingAt submitted replies ending (λ e. place < frames_of e.request)
FrontAt shape start pushed taken front_seen submitted replies next entry ending (front.GrantEnd place before) = IsEndingAt submitted replies ending (λ e. (place < frames_of e.request) × (before ≡ flags_at e.request place))
FrontAt shape start pushed taken front_seen submitted replies next entry ending (front.ReadData n) = IsToldAt submitted replies ending n
FrontAt shape start pushed taken front_seen submitted replies next entry ending (front.LeftData n) = IsToldAt submitted replies ending n
FrontAt shape start pushed taken front_seen submitted replies next entry ending (front.RingRead page) = ⊥
FrontAt shape start pushed taken front_seen submitted replies next entry ending (front.RingEnd page before) = ⊥
FrontAt shape start pushed taken front_seen submitted replies next entry ending front.ClosePort = ⊥
FrontAt shape start pushed taken front_seen submitted replies next entry ending (front.KeptRead frame) = ⊥
FrontAt shape start pushed taken front_seen submitted replies next entry ending (front.KeptEnd frame seen) = ⊥
FrontAt shape start pushed taken front_seen submitted replies next entry ending front.Left = ⊥
FrontAt shape start pushed taken front_seen submitted replies next entry ending front.Closed = ⊥
FrontAt shape start pushed taken front_seen submitted replies next entry ending (front.Broken word) = ⊥
FrontAt shape start pushed taken front_seen submitted replies next entry ending s = Unit {0}

-- the front knows the options' disk, and what the back serves: barriers, flushes and discards where the disk isn't read-only, and so many segments of indirect pages
pub record AreOffered (config : Options) (offers : Offers) : Type 0 where
  pub sectors : offers.sectors ≡ config.sectors
  pub read_only : offers.read_only ≡ config.read_only
  pub barrier : offers.barrier ≡ not config.read_only
  pub flush : offers.flush ≡ not config.read_only
  pub discard : offers.discard ≡ not config.read_only
  pub indirect : offers.indirect ≡ config.indirect

-- before it is connected nothing was pushed, though requests may wait; from then on the front knows its disk and what its back serves
abbrev pub IsOffered : Bool → Options → Offers → (pushed : ℕ) → Type 0
IsOffered false config offers pushed = pushed ≡ 0
IsOffered true config offers pushed = AreOffered config offers

-- a job's result was taken, and its response is being written
pub record IsReplying (series : List Request) (fetched : ℕ) (works : List Work) (rep : Reply) : Type 0 where
  pub positive : 1 ≤ rep.id
  pub reached : HasNumber series fetched rep.id
  pub op : rep.op < 2 ^ 8
  pub alone : All (λ (t : Work). t.id ≢ rep.id) works

abbrev pub BackAt : Shape → (start fetched back_seen replied : ℕ) → List Request → List Work → List ℕ → BackStage → Type 0
BackAt shape start fetched back_seen replied series works entry back.InitWait = fetched ≡ 0
BackAt shape start fetched back_seen replied series works entry back.MapRing = fetched ≡ 0
BackAt shape start fetched back_seen replied series works entry back.Bind = fetched ≡ 0
BackAt shape start fetched back_seen replied series works entry (back.Fetch k) = (1 ≤ k) × (k < entry_words_of shape.abi) × (fetched < back_seen) × ((r : Request) × (slice_get series fetched ≡ Some r) × (entry ≡ take k (entry_of shape.abi r)))
BackAt shape start fetched back_seen replied series works entry (back.ReplyHigh rep) = IsReplying series fetched works rep
BackAt shape start fetched back_seen replied series works entry (back.ReplyLast rep) = IsReplying series fetched works rep
BackAt shape start fetched back_seen replied series works entry (back.Producer rep) = IsReplying series fetched works rep
BackAt shape start fetched back_seen replied series works entry (back.ProducerFence old) = (1 ≤ replied) × (old ≡ wrapped start (replied - 1))
BackAt shape start fetched back_seen replied series works entry (back.ResponseEvent old) = (1 ≤ replied) × (old ≡ wrapped start (replied - 1))
BackAt shape start fetched back_seen replied series works entry (back.Abort m) = ⊥
BackAt shape start fetched back_seen replied series works entry back.UnmapRing = ⊥
BackAt shape start fetched back_seen replied series works entry back.ClosePort = ⊥
BackAt shape start fetched back_seen replied series works entry back.UnmapUnbound = ⊥
BackAt shape start fetched back_seen replied series works entry back.Halted = ⊥
BackAt shape start fetched back_seen replied series works entry s = Unit {0}

-- the ring's producers hold what was pushed and replied; before that, its words are being written; the grant of each of its frames is as far as the front came, until the back maps it
abbrev pub RingBegun : ℕ → List ℕ → FrontStage → Type 0
RingBegun start pages (front.RingWord k) = (j : ℕ) → j < k → word_of pages 2 j ≡ fresh_word start j
RingBegun start pages s = Unit {0}

pub record AreWords (start pushed replied : ℕ) (pages : List ℕ) (mapped : ℕ) (Begun : Type 0) (written : Bool) (names grants : ℕ) : Type 0 where
  pub begun : Begun
  pub requests : written ≡ true → word_of pages 2 0 ≡ wrapped start pushed
  pub responses : written ≡ true → word_of pages 2 2 ≡ wrapped start replied
  pub named : (page : ℕ) → page < names → mapped ≤ page → entry_word1 pages (8 + page) ≡ 2 + page
  pub granted : (page : ℕ) → page < grants → mapped ≤ page → entry_word0 pages (8 + page) ≡ 1

abbrev pub AreRingWords : (order start pushed replied : ℕ) (pages : List ℕ) → FrontStage → (mapped : ℕ) → Type 0
AreRingWords order start pushed replied pages stage mapped = AreWords start pushed replied pages mapped (RingBegun start pages stage) (has_ring stage) (named_pages stage (2 ^ order)) (granted_pages stage (2 ^ order))

-- word i of the entry of index k, as memory has it
abbrev pub slot_of : List ℕ → Shape → ℕ → ℕ → ℕ
slot_of pages shape k i = word_of pages (slot_frame shape k i) (slot_word shape k i)

-- the entries that were pushed and not fetched, the one that is being written, the responses that weren't taken, and the one that is being written
pub record AreSlots (shape : Shape) (start fetched pushed taken replied : ℕ) (series : List Request) (replies : List Reply) (pages : List ℕ) (front_stage : FrontStage) (back_stage : BackStage) : Type 0 where
  pub entries : (k : ℕ) (r : Request) → fetched ≤ k → k < pushed → slice_get series k ≡ Some r → (i : ℕ) → i < entry_words_of shape.abi → slot_of pages shape (wrapped start k) i ≡ slice_index (entry_of shape.abi r) i
  pub entry : (r : Request) → slice_get series pushed ≡ Some r → (i : ℕ) → i < entry_words_of shape.abi → i < entered front_stage → slot_of pages shape (wrapped start pushed) i ≡ slice_index (entry_of shape.abi r) i
  pub responses : (k : ℕ) (rep : Reply) → slice_get replies k ≡ Some rep → (i : ℕ) → i < 3 → slot_of pages shape (wrapped start (taken + k)) i ≡ response_word rep i
  pub response : (rep : Reply) → reply_at back_stage ≡ Some rep → (i : ℕ) → i < responded back_stage → slot_of pages shape (wrapped start replied) i ≡ response_word rep i

-- the words of a write's data and of indirect pages, once the request is pushed, and as far as it is being issued
pub record IsFilled (series : List Request) (pushed : ℕ) (pages : List ℕ) (stage : FrontStage) (r : Request) : Type 0 where
  pub whole : IsAmong series pushed r → (n : ℕ) → n < span r → is_own r n ≡ true → data_word pages r n ≡ own_value r n
  pub begun : slice_get series pushed ≡ Some r → (n : ℕ) → n < filled stage (frames_for r.count) → n < span r → is_own r n ≡ true → data_word pages r n ≡ own_value r n

-- the flags of a mapped frame's entry: with GTF_reading (8), and GTF_writing (16) too where it isn't only read
abbrev pub mapped_at : Request → ℕ → ℕ
mapped_at r place = if is_only_read r place then 13 else 25

-- the flags of the entry of a granted frame, with so many mappings of it
abbrev pub flags_with : Request → (place mappings : ℕ) → ℕ
flags_with r place mappings = if mappings == 0 then flags_at r place else mapped_at r place

-- the grant entries of a request's frames, once it is pushed, and as far as it is being issued
pub record IsGranted (series : List Request) (pushed : ℕ) (pages : List ℕ) (live : List Held) (stage : FrontStage) (r : Request) : Type 0 where
  pub named : IsAmong series pushed r → (place : ℕ) → place < frames_of r → entry_word1 pages (frame_at r place + 6) ≡ frame_at r place
  pub named_next : slice_get series pushed ≡ Some r → (place : ℕ) → place < named_frames stage → place < frames_of r → entry_word1 pages (frame_at r place + 6) ≡ frame_at r place
  pub flags : IsAmong series pushed r → (place : ℕ) → place < frames_of r → entry_word0 pages (frame_at r place + 6) ≡ flags_with r place (mappings_of (frame_at r place + 6) live)
  pub flags_next : slice_get series pushed ≡ Some r → (place : ℕ) → place < granted_frames stage → place < frames_of r → entry_word0 pages (frame_at r place + 6) ≡ flags_at r place

-- the grants of the ending request that weren't ended yet have no mapping
abbrev pub AreRevoked : List ℕ → FrontStage → Option Ending → Type 0
AreRevoked pages stage ending = (e : Ending) → revoking_at stage ending ≡ Some e → (place : ℕ) → revoked stage ≤ place → place < frames_of e.request → entry_word0 pages (frame_at e.request place + 6) ≡ flags_at e.request place

pub record AreEntries (series : List Request) (pushed : ℕ) (pages : List ℕ) (live : List Held) (stage : FrontStage) (last : Option Ending) (requests : List Request) : Type 0 where
  pub each : All (IsGranted series pushed pages live stage) requests
  pub ending : AreRevoked pages stage last

-- the live mappings are those in the hands of the back and its jobs, whichever test counts them; frame f has the reference f + 6
pub record AreMapped (live : List Held) (hands : List Mapping) : Type 0 where
  pub counted : (test : Mapping → Bool) → count_by (λ (h : Held). test h.mapping) live ≡ count_by test hands
  pub framed : All (λ (h : Held). h.mapping.gref ≡ h.frame + 6) live

-- how many pages of the ring are mapped
abbrev pub PagesAt : BackStage → (order count : ℕ) → Type 0
PagesAt back.InitWait order count = count ≡ 0
PagesAt back.MapRing order count = count < 2 ^ order
PagesAt s order count = count ≡ 2 ^ order

-- the back's terms are the front's: its shape, the references of its ring's frames, which count from 8, and its port (`own`); each page of the ring is that of its reference, for writing too
pub record ArePaged (shape back_shape : Shape) (entries : ℕ) (grefs : List ℕ) (port own : ℕ) (pages : List Mapping) (stage : BackStage) : Type 0 where
  pub shaped : has_terms stage ≡ true → back_shape ≡ shape
  pub entries_are : has_terms stage ≡ true → entries ≡ entries_of shape.order
  pub grefs_are : has_terms stage ≡ true → grefs ≡ range_with_len 8 (2 ^ shape.order)
  pub port_is : has_terms stage ≡ true → port ≡ own
  pub mapped : PagesAt stage shape.order (length pages)
  pub gref : (page : ℕ) → page < length pages → (slice_index_or pages page no_page).gref ≡ 8 + page
  pub mode : (page : ℕ) → page < length pages → (slice_index_or pages page no_page).mode ≡ ReadWrite

-- the ring's shape is the option's, and the front knows it
pub record IsOfShape (config : Options) (shape front_shape : Shape) : Type 0 where
  pub whole : shape ≡ record { abi = config.abi; order = config.order }
  pub narrow : shape.order ≤ 4
  pub known : front_shape ≡ shape

-- the words of the sector that the front read so far
abbrev pub AreReadTo : (pages words : List ℕ) → Option Ending → ℕ → Type 0
AreReadTo pages words ending n = (e : Ending) → ending ≡ Some e → (k : ℕ) → k < n % 128 → slice_index words k ≡ data_word pages e.request (n / 128 * 128 + k)

abbrev pub IsReadSoFar : (pages words : List ℕ) → Option Ending → FrontStage → Type 0
IsReadSoFar pages words ending (front.ReadData n) = AreReadTo pages words ending n
IsReadSoFar pages words ending (front.LeftData n) = AreReadTo pages words ending n
IsReadSoFar pages words ending s = Unit {0}

pub record AreDataWords (pages words : List ℕ) (ending : Option Ending) (stage : FrontStage) : Type 0 where
  pub size : length words ≡ 128
  pub so_far : IsReadSoFar pages words ending stage

-- an end whose event is pending or will be sent, since the other end pushed one entry just now
abbrev pub FrontSends : FrontStage → ℕ → ℕ → Type 0
FrontSends (front.ProducerFence old) pushed fetched = pushed ≡ fetched + 1
FrontSends (front.RequestEvent old) pushed fetched = pushed ≡ fetched + 1
FrontSends front.Send pushed fetched = Unit {0}
FrontSends s pushed fetched = ⊥

abbrev pub BackSends : BackStage → ℕ → ℕ → Type 0
BackSends (back.ProducerFence old) replied taken = replied ≡ taken + 1
BackSends (back.ResponseEvent old) replied taken = replied ≡ taken + 1
BackSends back.Send replied taken = Unit {0}
BackSends s replied taken = ⊥

-- an end that goes to sleep (`arms`), or sleeps, left its event word one past what it has (`had`); while it sleeps nothing more is there (`pushed`), or an event is pending or comes
pub record IsSleep (start had pushed event : ℕ) (asleep pending arms may_sleep : Bool) (Sends : Type 0) : Type 0 where
  pub arming : arms ≡ true → event ≡ wrapped start (had + 1)
  pub armed : asleep ≡ true → event ≡ wrapped start (had + 1)
  pub may : may_sleep ≡ false → asleep ≡ false
  pub woken : asleep ≡ true → (pushed ≡ had) ⊎ (pending ≡ true) ⊎ Sends

abbrev pub IsFrontSleep : (start taken replied : ℕ) (pages : List ℕ) (asleep pending : Bool) → FrontStage → BackStage → Type 0
IsFrontSleep start taken replied pages asleep pending s b = IsSleep start taken replied (word_of pages 2 3) asleep pending (is_front_arming s) (may_front_sleep s) (BackSends b replied taken)

abbrev pub IsBackSleep : (start fetched pushed : ℕ) (pages : List ℕ) (asleep pending : Bool) → FrontStage → BackStage → Type 0
IsBackSleep start fetched pushed pages asleep pending s b = IsSleep start fetched pushed (word_of pages 2 1) asleep pending (is_back_arming b) (may_back_sleep b) (FrontSends s pushed fetched)

-- the front's one port of this epoch, as far as both ends came, where so many were made before
abbrev pub PortsAt : (before : ℕ) → (connected bound : Bool) → ℕ → List PortState → Type 0
PortsAt before false bound made ports = (made ≡ before) × (ports ≡ []) × (bound ≡ false)
PortsAt before true false made ports = (made ≡ before + 1) × (ports ≡ Unbound ∷ [])
PortsAt before true true made ports = (made ≡ before + 1) × (ports ≡ Bound ∷ [])

-- the ring's first index is the option's, and the front knows it; and it closes where it began to
pub record IsStarted (option start front_start : ℕ) (began front_closes : Bool) : Type 0 where
  pub whole : start ≡ option
  pub known : front_start ≡ option
  pub closing : began ≡ front_closes

-- only reads are submitted to a read-only disk, and no request has more segments in indirect pages than the option says
pub record IsOfTheDisk (config : Options) (submitted : List Request) : Type 0 where
  pub writable : (k : ℕ) (r : Request) → slice_get submitted k ≡ Some r → is_write r.transfer ≡ true → config.read_only ≡ false
  pub served : (k : ℕ) (r : Request) → slice_get submitted k ≡ Some r → is_moving r.transfer ≡ false → config.read_only ≡ false
  pub short : (k : ℕ) (r : Request) → slice_get submitted k ≡ Some r → is_indirect r.count ≡ true → frames_for r.count ≤ config.indirect

-- what no move of an end changes: how both began, the disk, all that was submitted, and that the back serves
pub record IsSettled (config : Options) (start : ℕ) (began : Bool) (shape : Shape) (asked : List Request) (front_start : ℕ) (front_closes : Bool) (front_shape : Shape) (last : ℕ) (disk : DiskInfo) (halted : Option Halt) : Type 0 where
  pub started : IsStarted config.start start front_start began front_closes
  pub shaped : IsOfShape config shape front_shape
  pub sized : IsOfTheDisk config asked
  pub submitted : AreSubmitted asked config.sectors last
  pub info : disk ≡ info_of config
  pub unhalted : halted ≡ None

-- the machine with the front at stage s and the back at stage b, the flow of its words, and the pipeline that it stands for
pub record Holds (config : Options) (w : World) (g : Flow) (d : Pipeline) (s : FrontStage) (b : BackStage) : Type 0 where
  pub settled : IsSettled config g.start g.closing g.shape g.submitted w.front.start w.front.closing w.front.shape w.front.last w.back.jobs.info w.back.halted
  pub open settled use *
  pub indices : AreIndices g w.front.ring.indices w.back.ring.indices w.front.ring.seen w.back.ring.seen w.back.fetched w.front.last w.front.waiting (length w.front.requests) (ending_of s)
  pub queue : AreQueued g.submitted g.series g.pushed w.front.requests w.front.waiting
  pub pool : ArePooled w.front.pool w.front.requests (ending_at s w.front.ending)
  pub stations : AreStations config g d (is_ready s) (is_issuing s) (is_fetching b) (ending_at s w.front.ending) (telling_at s) (reply_at b) w.front.requests w.back.jobs.works w.under.pages
  pub works : AreWorks g.submitted g.series g.fetched w.back.jobs.works
  pub counted : length w.back.jobs.works + reply_count (reply_at b) + g.replied ≡ g.fetched
  pub replies : AreReplies g.series g.fetched g.taken g.replied g.replies
  pub front_at : FrontAt g.shape g.start g.pushed g.taken g.front_seen g.submitted g.replies (next_request w.front) w.front.ring.entry w.front.ending s
  pub offered : IsOffered (is_ready s) config w.front.offers g.pushed
  pub back_at : BackAt g.shape g.start g.fetched g.back_seen g.replied g.series w.back.jobs.works w.back.ring.entry b
  pub memory : length w.under.pages ≡ 1114112
  pub ring : AreRingWords g.shape.order g.start g.pushed g.replied w.under.pages s (length w.back.pages)
  pub slots : AreSlots g.shape g.start g.fetched g.pushed g.taken g.replied g.series g.replies w.under.pages s b
  pub frames : All (IsFilled g.series g.pushed w.under.pages s) w.front.requests
  pub telling : AreDataWords w.under.pages w.front.words w.front.ending s
  pub entries : AreEntries g.series g.pushed w.under.pages w.under.grants.live s w.front.ending w.front.requests
  pub mapped : AreMapped w.under.grants.live (hands_at b w.back)
  pub paged : ArePaged g.shape w.back.shape w.back.ring.indices.entries w.back.grefs w.back.ring.port (g.before + 1) w.back.pages b
  pub front_sleep : IsFrontSleep g.start g.taken g.replied w.under.pages w.front.ring.asleep w.under.channels.front_pending s b
  pub back_sleep : IsBackSleep g.start g.fetched g.pushed w.under.pages w.back.ring.asleep w.under.channels.back_pending s b
  pub ports : PortsAt g.before (is_connected s) (is_bound_back b) w.under.channels.made w.under.channels.ports

-- and each ask may be carried out
pub record Stands (config : Options) (w : World) (g : Flow) (d : Pipeline) : Type 0 where
  pub safe : IsSafe w
  pub holds : Holds config w g d w.front.stage w.back.stage
