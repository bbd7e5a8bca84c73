-- The work of an entry (`io/blkif.h`): what a job of the back does for a request, in order, and what it responds.
use Rattle.std.specs.Prelude.{ℕ, ◌+◌, ◌-◌, ◌*◌, min, Bool, true, false, ◌==◌, nat_le, if◌then◌else◌, List, [], ◌∷◌, ◌++◌, take, length}
use Rattle.blk_base.specs.declared.operation.Status.{Status}
use Rattle.blk_base.specs.declared.operation.Status.TheVariants as status
use Rattle.blk_base.specs.declared.parts.Mode.{Mode}
use Rattle.blk_base.specs.declared.parts.Mode.TheVariants.{ReadOnly, ReadWrite}
use Rattle.blk_layout.specs.declared.segment.Segment.{Segment}
use Rattle.blk_layout.specs.declared.request.RawRequest.{RawRequest}
use Rattle.blk_layout.specs.declared.request.RawRequest.TheVariants.{Direct, Discard, Indirect}
use Rattle.blk_layout.specs.declared.response.Response.{Response}
use Rattle.blk_layout.specs.Entry.{segments_at}
use Rattle.segment_list.specs.declared.verdict.DiskInfo.{DiskInfo}
use Rattle.segment_list.specs.declared.verdict.Kind.{Kind}
use Rattle.segment_list.specs.declared.verdict.Kind.TheVariants as kind
use Rattle.segment_list.specs.declared.verdict.Plan.{Plan}
use Rattle.segment_list.specs.declared.verdict.Verdict.{Verdict}
use Rattle.segment_list.specs.declared.verdict.Verdict.TheVariants.{Serve, Error, Unsupported}
use Rattle.segment_list.specs.Segments.{length_of}
use Rattle.segment_list.specs.Verdict.{verdict_of, finished_verdict}
use Rattle.report_rules.specs.declared.work.Task.{Task}
use Rattle.report_rules.specs.declared.work.Task.TheVariants as tasks

-- a frame that is only read is mapped for reading; under persistent grants every frame of data is mapped for writing, since it is kept for later requests
abbrev pub store_mode : Bool → Mode
store_mode true = ReadWrite
store_mode false = ReadOnly

-- a segment of a write, whose first sector goes to this disk sector
abbrev pub store_of : Bool → ℕ → Segment → Task
store_of persistent disk s = tasks.Store s.gref (store_mode persistent) disk s.first (length_of s)

-- a segment of a read, whose first sector comes from this disk sector
abbrev pub load_of : ℕ → Segment → Task
load_of disk s = tasks.Load s.gref disk s.first (length_of s)

-- the segments of a write from a disk sector on, each after the sectors of those before it
abbrev pub stores_of : Bool → ℕ → List Segment → List Task
stores_of persistent disk [] = []
stores_of persistent disk (s ∷ segments) = store_of persistent disk s ∷ stores_of persistent (disk + length_of s) segments

-- the same of a read
abbrev pub loads_of : ℕ → List Segment → List Task
loads_of disk [] = []
loads_of disk (s ∷ segments) = load_of disk s ∷ loads_of (disk + length_of s) segments

-- the pages in which an indirect request has so many segments: 512 in each, of two words each
abbrev pub pages_of : ℕ → List ℕ → List Task
pages_of count [] = []
pages_of count (gref ∷ pages) = if count == 0 then [] else tasks.Page gref (2 * min 512 count) ∷ pages_of (count - 512) pages

-- what is done for a request that is served
abbrev pub planned_tasks : Bool → Plan → Kind → List Segment → List Task
planned_tasks persistent plan kind.Read segments = loads_of plan.sector segments
planned_tasks persistent plan kind.IndirectRead segments = loads_of plan.sector segments
planned_tasks persistent plan kind.Write segments = stores_of persistent plan.sector segments
planned_tasks persistent plan kind.Barrier segments = stores_of persistent plan.sector segments
planned_tasks persistent plan kind.IndirectWrite segments = stores_of persistent plan.sector segments
planned_tasks persistent plan kind.Flush segments = tasks.Flush ∷ []
planned_tasks persistent plan kind.Discard segments = tasks.Trim plan.sector plan.count ∷ []

-- what is done by a verdict: nothing, where the request isn't served
abbrev pub served_tasks : Bool → Verdict → List Segment → List Task
served_tasks persistent (Serve plan) segments = planned_tasks persistent plan plan.kind segments
served_tasks persistent verdict segments = []

-- all segments of an indirect request were read, two words each
abbrev pub are_read : ℕ → List ℕ → Bool
are_read count indirect = nat_le (2 * count) (length indirect)

-- the verdict on an indirect request that passes the tests before its segments are read: it falls with the last of them
abbrev pub settled : Verdict → ℕ → List ℕ → DiskInfo → Verdict
settled (Serve plan) count indirect info = if are_read count indirect then finished_verdict plan (segments_at indirect 0 count) info else Serve plan
settled verdict count indirect info = verdict

-- the verdict on a request of which these words of its indirect pages were read
abbrev pub work_verdict : RawRequest → DiskInfo → List ℕ → Verdict
work_verdict (Direct op count device id sector segments) info indirect = verdict_of (Direct op count device id sector segments) info
work_verdict (Discard flag device id sector count) info indirect = verdict_of (Discard flag device id sector count) info
work_verdict (Indirect inner count device id sector pages) info indirect = settled (verdict_of (Indirect inner count device id sector pages) info) count indirect info

-- an indirect request: its pages first, and the rest once all segments are read
abbrev pub indirect_tasks : Bool → Verdict → ℕ → List ℕ → List ℕ → DiskInfo → List Task
indirect_tasks persistent (Serve plan) count pages indirect info =
    pages_of count pages ++ (if are_read count indirect then served_tasks persistent (finished_verdict plan (segments_at indirect 0 count) info) (segments_at indirect 0 count) else [])
indirect_tasks persistent verdict count pages indirect info = []

-- what a job does for a request, in order, as far as the words of its indirect pages that were read tell
abbrev pub work_tasks : RawRequest → DiskInfo → Bool → List ℕ → List Task
work_tasks (Direct op count device id sector segments) info persistent indirect = served_tasks persistent (verdict_of (Direct op count device id sector segments) info) (take count segments)
work_tasks (Discard flag device id sector count) info persistent indirect = served_tasks persistent (verdict_of (Discard flag device id sector count) info) []
work_tasks (Indirect inner count device id sector pages) info persistent indirect = indirect_tasks persistent (verdict_of (Indirect inner count device id sector pages) info) count pages indirect info

-- BLKIF_RSP_OKAY, BLKIF_RSP_ERROR and BLKIF_RSP_EOPNOTSUPP
abbrev pub status_by : Verdict → Status
status_by (Serve plan) = status.Okay
status_by (Error why) = status.Error
status_by Unsupported = status.Unsupported

abbrev pub response_to : ℕ → ℕ → Status → Response
response_to id op status = record { id = id; op = op; status = status }

-- the response: the request's id, its operation, that of an indirect request being the inner one, and the status
abbrev pub work_response : RawRequest → Status → Response
work_response (Direct op count device id sector segments) status = response_to id op status
work_response (Discard flag device id sector count) status = response_to id 5 status
work_response (Indirect inner count device id sector pages) status = response_to id inner status
