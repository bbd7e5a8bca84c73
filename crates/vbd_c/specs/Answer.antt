-- The answers that C gives as numbers, and what they make of a back that is held.
use Rattle.std.specs.Prelude.{ℕ, Option, Some, None, if◌then◌else◌, ◌==◌}
use Rattle.blk_base.specs.declared.ask.BackAsk.{BackAsk}
use Rattle.blk_base.specs.declared.ask.BackAsk.TheVariants as ask
use Rattle.blk_base.specs.declared.ask.BackAnswer.{BackAnswer}
use Rattle.blk_base.specs.declared.ask.BackAnswer.TheVariants.{Event, Done, Word, Mapped, MapRefused, BindRefused, Key, DiskFailed}
use Rattle.blk_base.specs.declared.ask.FrontAnswer.{FrontAnswer}
use Rattle.blk_base.specs.declared.ask.FrontAnswer.TheVariants as front
use Rattle.vbd_c.specs.declared.answer.AnswerNumbers.{AnswerNumbers}
use Rattle.vbd_c.specs.declared.status.Status.{Status}
use Rattle.vbd_c.specs.declared.status.Status.TheVariants.{NotAllowed}
use Rattle.vbd_c.specs.View.{View}
use Rattle.vbd_c.specs.Move.{answered, status_of}

-- by the number of its kind
abbrev pub answer_of : AnswerNumbers → Option BackAnswer
answer_of a =
    if a.kind == 0 then Some Done
    else (if a.kind == 1 then Some Event
    else (if a.kind == 2 then Some (Word a.word)
    else (if a.kind == 3 then Some (MapRefused a.status)
    else (if a.kind == 4 then Some BindRefused
    else (if a.kind == 5 then Some (Key None)
    else (if a.kind == 6 then Some DiskFailed
    else None))))))

-- the same to a front
abbrev pub front_answer_of : AnswerNumbers → Option FrontAnswer
front_answer_of a =
    if a.kind == 0 then Some front.Done
    else (if a.kind == 1 then Some front.Event
    else (if a.kind == 2 then Some (front.Word a.word)
    else (if a.kind == 5 then Some (front.Key None)
    else (if a.kind == 7 then Some (front.Port a.word)
    else None))))

-- the answer to a map: the mapping that was made has the reference and the mode that were asked for
abbrev pub mapping_for : BackAsk → ℕ → Option BackAnswer
mapping_for (ask.Map gref mode) number = Some (Mapped (record { number = number; gref = gref; mode = mode }))
mapping_for a number = None

-- numbers that say no answer change nothing
abbrev pub answered_by : View → ℕ → Option BackAnswer → View
answered_by v job None = v
answered_by v job (Some a) = answered v job a

abbrev pub status_by : View → ℕ → Option BackAnswer → Status
status_by v job None = NotAllowed
status_by v job (Some a) = status_of v job a
