-- What each call makes of a handle, which has a back or none.
use Rattle.std.specs.Prelude.{◌≡◌, ℕ, Bool, ◌||◌, List, [], Option, Some, None, IsSome, if◌then◌else◌, nat_lt}
use Rattle.blk_base.specs.Options.{Options}
use Rattle.blk_base.specs.declared.operation.Abi.TheVariants.{X64}
use Rattle.blk_base.specs.declared.ask.BackAnswer.{BackAnswer}
use Rattle.blk_base.specs.declared.ask.BackAnswer.TheVariants.{Key, Watched, Sector}
use Rattle.blk_base.specs.declared.halt.Halt.{Halt}
use Rattle.blk_back.specs.declared.told.BackTold.{BackTold}
use Rattle.vbd_back.specs.Step.{next_job_of}
use Rattle.vbd_back.specs.Keeping.{KeepingView, closes_keeping, renewed_keeping}
use Rattle.vbd_c.specs.declared.options.BackOptions.{BackOptions}
use Rattle.vbd_c.specs.declared.ask.AskNumbers.{AskNumbers}
use Rattle.vbd_c.specs.declared.told.ToldNumbers.{ToldNumbers}
use Rattle.vbd_c.specs.declared.halt.HaltNumbers.{HaltNumbers}
use Rattle.vbd_c.specs.declared.status.Status.{Status}
use Rattle.vbd_c.specs.declared.status.Status.TheVariants as status
use Rattle.vbd_c.specs.Status.{code_of}
use Rattle.vbd_c.specs.View.{View}
use Rattle.vbd_c.specs.Move.{ask_of, IsAnswered, heard, closed}
use Rattle.vbd_c.specs.Ask.{numbers_of, path_of, text_of, words_of}
use Rattle.vbd_c.specs.Answer.{mapping_for, answered_by, status_by}
use Rattle.vbd_c.specs.Told.{numbers_told, numbers_halted, key_of}
use Rattle.vbd_c.specs.Bytes.{sector_of}

-- an indirect request may have up to 960 segments, and up to 1000 mappings may be kept; layout and order come from the front's keys
abbrev pub options_of : BackOptions → Option Options
options_of o =
    if nat_lt 960 o.indirect || nat_lt 1000 o.persistent then None
    else Some (record { abi = X64; order = 0; persistent = o.persistent; indirect = o.indirect; start = o.start; read_only = o.read_only; sectors = o.sectors })

-- it is the new back, or nothing changed: memory lacked, or the program hadn't taken what the last move told
abbrev pub SuspendedAs : KeepingView → View → View → Status → Type 0
SuspendedAs new before after status.Done = (before.told ≡ None) × (after ≡ record { back = new; told = None })
SuspendedAs new before after status.NoMemory = (before.told ≡ None) × (after ≡ before)
SuspendedAs new before after status.Untold = IsSome before.told × (after ≡ before)
SuspendedAs new before after s = ⊥

abbrev pub SuspendedWith : (start : ℕ) (going : Bool) → Option View → Option View → Status → Type 0
SuspendedWith start going None after s = (after ≡ None) × (s ≡ status.Empty)
SuspendedWith start going (Some v) None s = ⊥
SuspendedWith start going (Some v) (Some after) s = SuspendedAs (renewed_keeping start going v.back) v after s

abbrev pub SuspendedIn : (start : ℕ) (going : Bool) → Option View → Option View → ℕ → Type 0
SuspendedIn start going before after code = (s : Status) × (code ≡ code_of s) × SuspendedWith start going before after s

-- what is asked is written where there is a back
abbrev pub asked : Option View → ℕ → AskNumbers → AskNumbers
asked None job before = before
asked (Some v) job before = numbers_of (ask_of v job)

abbrev pub path_in : Option View → List ℕ
path_in None = []
path_in (Some v) = path_of (ask_of v 0)

abbrev pub text_in : Option View → List ℕ
text_in None = []
text_in (Some v) = text_of (ask_of v 0)

abbrev pub words_in : Option View → ℕ → Option (List ℕ)
words_in None job = None
words_in (Some v) job = words_of (ask_of v job)

-- an answer to what the back or a job asks
abbrev pub answered_in : Option View → ℕ → Option BackAnswer → Option View
answered_in None job a = None
answered_in (Some v) job a = Some (answered_by v job a)

abbrev pub status_in : Option View → ℕ → Option BackAnswer → Status
status_in None job a = status.Empty
status_in (Some v) job a = status_by v job a

-- the same in the words of the back and of its jobs
abbrev pub AnsweredAs : Option View → ℕ → Option BackAnswer → Option View → Type 0
AnsweredAs None job a after = after ≡ None
AnsweredAs (Some v) job None after = after ≡ Some v
AnsweredAs (Some v) job (Some a) None = ⊥
AnsweredAs (Some v) job (Some a) (Some after) = IsAnswered v job a after

abbrev pub mapping_in : Option View → ℕ → ℕ → Option BackAnswer
mapping_in None job number = None
mapping_in (Some v) job number = mapping_for (ask_of v job) number

-- a key's text, the path of a watch, and a sector's words as answers
abbrev pub key_answer : List ℕ → Option BackAnswer
key_answer text = Some (Key (Some text))

abbrev pub watch_answer : List ℕ → Option BackAnswer
watch_answer path = Some (Watched path)

abbrev pub sector_given : Option (List ℕ) → Option BackAnswer
sector_given None = None
sector_given (Some words) = Some (Sector words)

abbrev pub sector_answer : List ℕ → Option BackAnswer
sector_answer words = sector_given (sector_of words)

-- the next job's number; 0 where there is none
abbrev pub number_or_zero : Option ℕ → ℕ
number_or_zero None = 0
number_or_zero (Some number) = number

abbrev pub next_job_in : Option View → ℕ → ℕ
next_job_in None after = 0
next_job_in (Some v) after = number_or_zero (next_job_of v.back.ends after)

-- what was told is taken
abbrev pub told_in : Option View → Option BackTold
told_in None = None
told_in (Some v) = v.told

abbrev pub told_numbers : Option BackTold → ToldNumbers → ToldNumbers
told_numbers None before = before
told_numbers (Some told) before = numbers_told told

abbrev pub heard_in : Option View → Option View
heard_in None = None
heard_in (Some v) = Some (heard v)

-- why the back halted
abbrev pub halt_in : Option View → Option Halt
halt_in None = None
halt_in (Some v) = v.back.ends.ring.halted

abbrev pub halt_numbers : Option Halt → HaltNumbers → HaltNumbers
halt_numbers None before = before
halt_numbers (Some why) before = numbers_halted why

abbrev pub halt_key : Option Halt → List ℕ
halt_key None = []
halt_key (Some why) = key_of why

-- the back was asked to close
abbrev pub closed_in : Option View → Option View
closed_in None = None
closed_in (Some v) = Some (closed (closes_keeping v.back) v)
