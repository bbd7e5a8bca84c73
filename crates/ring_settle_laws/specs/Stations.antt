-- What a request will cost the back and the marks of events, by its station: its job, and what its push and its reply show and send.
use Rattle.std.specs.Prelude.{ℕ, ◌+◌, Bool, true, false, List, sum_by}
use Rattle.blk_base.specs.declared.config.Submission.{Submission}
use Rattle.blk_base.specs.declared.config.Submission.TheVariants.{Read, Write, Barrier}
use Rattle.blk_front.specs.Request.{frames_for}
use Rattle.back_laws.specs.JobLeft.{begun_left}
use Rattle.pipeline_laws.specs.Pipeline.{Step, Submits, Resumes}
use Rattle.pipeline_laws.specs.Station.{Station, Waiting, Issuing, Pushed, Fetching, Working, Failed, Ended, Replying, PipelineRequest}

-- the sectors that go between frames and the disk
abbrev pub sectors_moved : Submission → ℕ
sectors_moved (Read sector count) = count
sectors_moved (Write sector count tag) = count
sectors_moved (Barrier sector count tag) = count
sectors_moved submission = 0

-- its job, which isn't made yet
abbrev pub job_price : Submission → ℕ
job_price submission = begun_left (frames_for (sectors_moved submission))

-- a reply sends an event, which costs 5, and shows a response, which costs 7 before it is seen
abbrev pub reply_price : ℕ
reply_price = 12

-- a push sends an event too, and shows a request, which costs 39
abbrev pub push_price : ℕ
push_price = 44

abbrev pub station_left : Submission → Station → ℕ
station_left submission Waiting = push_price + (reply_price + job_price submission)
station_left submission Issuing = push_price + (reply_price + job_price submission)
station_left submission Pushed = reply_price + job_price submission
station_left submission Fetching = reply_price + job_price submission
station_left submission (Working moved) = reply_price
station_left submission Failed = reply_price
station_left submission (Ended status) = reply_price
station_left submission (Replying status) = reply_price
station_left submission station = 0

abbrev pub request_left : PipelineRequest → ℕ
request_left x = station_left x.submission x.station

abbrev pub requests_left : List PipelineRequest → ℕ
requests_left requests = sum_by request_left requests

-- a step that has a request wait anew: it submits one, or resumes the domain
abbrev pub is_anew : Step → Bool
is_anew (Submits submission) = true
is_anew Resumes = true
is_anew s = false
