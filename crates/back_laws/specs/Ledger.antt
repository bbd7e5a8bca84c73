-- The requests of a run: each has a job, made of the words of its entry as they were read and of nothing else, which is told what the run told the job of its number, and at most one response, that of its job once it is done.
use Rattle.std.specs.Prelude.{◌≡◌, ℕ, ◌+◌, List, [], ◌∷◌, ◌++◌, map, Option, Some, None, if◌then◌else◌, ◌==◌}
use Rattle.std.specs.List.{filter_map}
use Rattle.blk_base.specs.declared.operation.Abi.{Abi}
use Rattle.blk_layout.specs.Entry.{request_of}
use Rattle.segment_list.specs.declared.verdict.DiskInfo.{DiskInfo}
use Rattle.segment_list.specs.Verdict.{verdict_of}
use Rattle.back_jobs.specs.Work.{Work, ask_of, step_of, begun, IsAnswer}
use Rattle.back_jobs.specs.Jobs.{response_of}
use Rattle.blk_back.specs.declared.stage.Reply.{Reply}
use Rattle.blk_back.specs.View.{View}
use Rattle.blk_back.specs.Ask.{reply_of}
use Rattle.blk_back.specs.Step.{job_ask_of}
use Rattle.back_laws.specs.Happening.{Happening, AnswersJob, happened}
use Rattle.back_laws.specs.Activity.{Asked, Activity, Fetches, Replies}

-- what the job of a number asked, with its answer; all of it in a run, in its order; and that of one number
pub record JobAsked : Type 0 where
  pub number : ℕ
  pub asked : Asked

abbrev pub job_at : Happening → View → List JobAsked
job_at (AnswersJob number given) v = record { number = number; asked = record { ask = job_ask_of v number; answer = given } } ∷ []
job_at h v = []

abbrev pub job_asks : List Happening → View → List JobAsked
job_asks [] v = []
job_asks (h ∷ hs) v = job_at h v ++ job_asks hs (happened h v)

abbrev pub asks_for : ℕ → List JobAsked → List Asked
asks_for k [] = []
asks_for k (j ∷ jobs) = if j.number == k then j.asked ∷ asks_for k jobs else asks_for k jobs

-- a job after these answers, each to what it asked
abbrev pub told_all : Work → List Asked → Work
told_all t [] = t
told_all t (a ∷ asked) = told_all (step_of t a.answer) asked

abbrev pub AreItsAsks : Work → List Asked → Type 0
AreItsAsks t [] = Unit {0}
AreItsAsks t (a ∷ asked) = (a.ask ≡ ask_of t) × IsAnswer (ask_of t) a.answer × AreItsAsks (step_of t a.answer) asked

-- a request: the words of its entry, and its response, if it has one
pub record Request : Type 0 where
  pub words : List ℕ
  pub reply : Option Reply

-- its job at its beginning, by the verdict on these words; and by what the run told it
abbrev pub begun_of : DiskInfo → Abi → ℕ → Request → Work
begun_of info abi k q = begun k (request_of abi q.words) info.sectors (verdict_of (request_of abi q.words) info)

abbrev pub job_of : DiskInfo → Abi → List JobAsked → ℕ → Request → Work
job_of info abi trace k q = told_all (begun_of info abi k q) (asks_for k trace)

-- the jobs of the requests from number k on that have no response
abbrev pub with_job : Option Reply → Work → List Work → List Work
with_job None t works = t ∷ works
with_job (Some reply) t works = works

abbrev pub jobs_from : DiskInfo → Abi → List JobAsked → ℕ → List Request → List Work
jobs_from info abi trace k [] = []
jobs_from info abi trace k (q ∷ requests) = with_job q.reply (job_of info abi trace k q) (jobs_from info abi trace (k + 1) requests)

-- a response is that of a job that is done
abbrev pub IsReplyTo : Option Reply → Work → Type 0
IsReplyTo None t = Unit {0}
IsReplyTo (Some reply) t = reply_of (response_of t) ≡ Some reply

-- each was answered what it asked, and has the response of its job or none
abbrev pub AreServed : DiskInfo → Abi → List JobAsked → ℕ → List Request → Type 0
AreServed info abi trace k [] = Unit {0}
AreServed info abi trace k (q ∷ requests) =
    AreItsAsks (begun_of info abi k q) (asks_for k trace) × IsReplyTo q.reply (job_of info abi trace k q) × AreServed info abi trace (k + 1) requests

-- the entries that these activities fetched, in their order; and their replies, the last one first
abbrev pub words_in : Activity → List (List ℕ)
words_in (Fetches words) = words ∷ []
words_in activity = []

abbrev pub entries_in : List Activity → List (List ℕ)
entries_in [] = []
entries_in (activity ∷ activities) = words_in activity ++ entries_in activities

abbrev pub reply_in : Activity → List Reply
reply_in (Replies reply event) = reply ∷ []
reply_in activity = []

abbrev pub replies_in : List Activity → List Reply
replies_in [] = []
replies_in (activity ∷ activities) = replies_in activities ++ reply_in activity

-- these are the same replies, in any order, each as often
abbrev pub AreSame : List Reply → List Reply → Type 0
AreSame [] others = others ≡ []
AreSame (reply ∷ replies) others = (front : List Reply) × (rest : List Reply) × (others ≡ front ++ reply ∷ rest) × AreSame replies (front ++ rest)

-- The requests of these entries, in the order in which they were fetched: those without a response are the jobs that are held; the responses of the others are the replies, no more and no less.
pub record Ledger (info : DiskInfo) (abi : Abi) (trace : List JobAsked) (entries : List (List ℕ)) (replies : List Reply) (works : List Work) : Type 0 where
  pub requests : List Request
  pub copied : map (λ (q : Request). q.words) requests ≡ entries
  pub held : works ≡ jobs_from info abi trace 1 requests
  pub served : AreServed info abi trace 1 requests
  pub replied : AreSame replies (filter_map (λ (q : Request). q.reply) requests)
