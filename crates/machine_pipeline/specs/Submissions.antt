-- The requests that a schedule and a history submit; how a report answers them is `AreAnswered` of `pipeline_laws`.
use Rattle.std.specs.Prelude.{List, Option, Some, None}
use Rattle.std.specs.List.{filter_map}
use Rattle.blk_base.specs.declared.config.Submission.{Submission}
use Rattle.schedule_text.specs.declared.event.Event.{Event}
use Rattle.schedule_text.specs.declared.event.Event.TheVariants as events
use Rattle.split_model.specs.Happening.{Happening, Submits}

-- the request that an event submits
abbrev pub job_submitted : Event → Option Submission
job_submitted (events.Submit job) = Some job
job_submitted event = None

-- the requests that a schedule submits, in order
abbrev pub jobs_of : List Event → List Submission
jobs_of schedule = filter_map job_submitted schedule

-- the requests that a history of the machine submits, in order
abbrev pub submitted_at : Happening → Option Submission
submitted_at (Submits job) = Some job
submitted_at h = None

abbrev pub submitted_of : List Happening → List Submission
submitted_of history = filter_map submitted_at history
