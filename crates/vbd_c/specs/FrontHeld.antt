-- What each call makes of a handle of a front, which has one or none.
use Rattle.std.specs.Prelude.{◌≡◌, ℕ, Bool, true, false, List, [], Option, Some, None, Result, Ok, Err, if◌then◌else◌, nat_lt}
use Rattle.blk_base.specs.Options.{Options}
use Rattle.blk_base.specs.declared.operation.Abi.{Abi}
use Rattle.blk_base.specs.declared.operation.Abi.TheVariants.{X64, X32}
use Rattle.blk_base.specs.declared.ask.FrontAnswer.{FrontAnswer}
use Rattle.blk_base.specs.declared.ask.FrontAnswer.TheVariants.{Key, Watched}
use Rattle.blk_base.specs.declared.config.Submission.{Submission}
use Rattle.blk_base.specs.declared.refusal.Refusal.{Refusal}
use Rattle.blk_front.specs.Submit.{submit_of, unfinished, sectors_owed}
use Rattle.vbd_front.specs.Keep.{KeepingView, ask_as, suspended_as, heard_as}
use Rattle.vbd_c.specs.declared.options.FrontOptions.{FrontOptions}
use Rattle.vbd_c.specs.declared.front_ask.FrontAskNumbers.{FrontAskNumbers}
use Rattle.vbd_c.specs.declared.front_told.FrontToldNumbers.{FrontToldNumbers}
use Rattle.vbd_c.specs.declared.owed.OwedNumbers.{OwedNumbers}
use Rattle.vbd_c.specs.declared.status.Status.{Status}
use Rattle.vbd_c.specs.declared.status.Status.TheVariants as status
use Rattle.vbd_c.specs.FrontAsk.{numbers_of, path_of, text_of}
use Rattle.vbd_c.specs.FrontTold.{numbers_told}
use Rattle.vbd_c.specs.FrontMove.{answered, IsAnswered, status_of, submitted, submit_status, closed, close_status}

-- the order is at most 4; what the back serves comes from the back's keys
abbrev pub abi_of : Bool → Abi
abi_of true = X32
abi_of false = X64

-- as the options of both ends say it: 0 where no mapping may be kept
abbrev pub kept_of : Bool → ℕ
kept_of true = 1
kept_of false = 0

abbrev pub options_of : FrontOptions → Option Options
options_of o =
    if nat_lt 4 o.order then None
    else Some (record { abi = abi_of o.x86_32; order = o.order; persistent = kept_of o.persistent; indirect = 0; start = o.start; read_only = false; sectors = 0 })

-- what is asked is written where there is a front
abbrev pub asked : Option KeepingView → FrontAskNumbers → FrontAskNumbers
asked None before = before
asked (Some v) before = numbers_of (ask_as v)

abbrev pub path_in : Option KeepingView → List ℕ
path_in None = []
path_in (Some v) = path_of (ask_as v)

abbrev pub text_in : Option KeepingView → List ℕ
text_in None = []
text_in (Some v) = text_of (ask_as v)

-- an answer to what the front asks; numbers that say none change nothing
abbrev pub answered_by : KeepingView → Option FrontAnswer → KeepingView
answered_by v None = v
answered_by v (Some a) = answered v a

abbrev pub status_by : KeepingView → Option FrontAnswer → Status
status_by v None = status.NotAllowed
status_by v (Some a) = status_of v a

abbrev pub answered_in : Option KeepingView → Option FrontAnswer → Option KeepingView
answered_in None a = None
answered_in (Some v) a = Some (answered_by v a)

abbrev pub status_in : Option KeepingView → Option FrontAnswer → Status
status_in None a = status.Empty
status_in (Some v) a = status_by v a

-- the same in the words of the front
abbrev pub AnsweredAs : Option KeepingView → Option FrontAnswer → Option KeepingView → Type 0
AnsweredAs None a after = after ≡ None
AnsweredAs (Some v) None after = after ≡ Some v
AnsweredAs (Some v) (Some a) None = ⊥
AnsweredAs (Some v) (Some a) (Some after) = IsAnswered v a after

-- a key's text and the path of a watch as answers
abbrev pub key_answer : List ℕ → Option FrontAnswer
key_answer text = Some (Key (Some text))

abbrev pub watch_answer : List ℕ → Option FrontAnswer
watch_answer path = Some (Watched path)

-- a submission; numbers that say none change nothing
abbrev pub submitted_by : KeepingView → Option Submission → KeepingView
submitted_by v None = v
submitted_by v (Some s) = submitted v s

abbrev pub submitted_in : Option KeepingView → Option Submission → Option KeepingView
submitted_in None s = None
submitted_in (Some v) s = Some (submitted_by v s)

abbrev pub submit_status_in : Option KeepingView → Option Submission → Status
submit_status_in None s = status.Empty
submit_status_in (Some v) None = status.OutOfRange
submit_status_in (Some v) (Some s) = submit_status v s

-- the number of a request that was taken is written
abbrev pub number_of : Result ℕ Refusal → ℕ → ℕ
number_of (Ok number) before = number
number_of (Err why) before = before

abbrev pub number_in : Option KeepingView → Option Submission → ℕ → ℕ
number_in None s before = before
number_in (Some v) None before = before
number_in (Some v) (Some s) before = number_of (submit_of v.ends.ring s).0 before

-- what is told, once
abbrev pub told_in : Option KeepingView → Option FrontToldNumbers
told_in None = None
told_in (Some v) = numbers_told v.ends.ring.told v.ends.news

abbrev pub heard_in : Option KeepingView → Option KeepingView
heard_in None = None
heard_in (Some v) = Some (heard_as v)

-- numbers are written where there are any
abbrev pub told_numbers : Option FrontToldNumbers → FrontToldNumbers → FrontToldNumbers
told_numbers None before = before
told_numbers (Some told) before = told

-- what is unfinished
abbrev pub owed_in : Option KeepingView → OwedNumbers → OwedNumbers
owed_in None before = before
owed_in (Some v) before = record { requests = unfinished v.ends.ring; sectors = sectors_owed v.ends.ring }

-- the front was asked to close, and the domain was suspended and resumes
abbrev pub closed_in : Option KeepingView → Option KeepingView
closed_in None = None
closed_in (Some v) = Some (closed v)

abbrev pub close_status_in : Option KeepingView → Status
close_status_in None = status.Empty
close_status_in (Some v) = close_status v

abbrev pub suspended_in : Option KeepingView → Option KeepingView
suspended_in None = None
suspended_in (Some v) = Some (suspended_as v)
