-- Reports that are wrong, one a rule.
use Rattle.std.specs.Prelude.{List, [], ◌∷◌}
use Rattle.blk_base.specs.Options.{Options}
use Rattle.blk_base.specs.declared.moves.Move.TheVariants as moves
use Rattle.blk_base.specs.declared.parts.End.TheVariants as end
use Rattle.schedule_text.specs.declared.event.Event.{Event}
use Rattle.schedule_text.specs.declared.event.Event.TheVariants as events
use Rattle.schedule_text.specs.declared.line.Detail.{Detail}
use Rattle.schedule_text.specs.declared.line.Detail.TheVariants.{Moves}
use Rattle.blk_base.specs.declared.halt.Halt.TheVariants as halts
use Rattle.schedule_text.specs.declared.line.Line.{Line}
use Rattle.schedule_text.specs.declared.line.Line.TheVariants as lines

-- a dump shows nothing, though the front wrote the ring's first word
abbrev pub a_dump : List Event
a_dump = events.Front 1 ∷ events.Dump ∷ []

abbrev pub empty_dump : Options → List Line
empty_dump config = lines.Begin config Moves ∷ lines.Move (moves.FrontWrite 2 0 1) ∷ []

-- a fault of request 1
abbrev pub one_fault : List Line
one_fault = lines.Fault 1 0 ∷ []

-- the back halts as one that was asked to close, which nobody asked
abbrev pub a_move : List Event
a_move = events.Back 1 ∷ []

abbrev pub unplugged_unasked : Options → Detail → List Line
unplugged_unasked config detail = lines.Begin config detail ∷ lines.Halt (halts.Unplugged 5) ∷ []

-- it halts as one that wasn't, though it was
abbrev pub a_close : List Event
a_close = events.Close end.Back ∷ events.Back 1 ∷ []

abbrev pub gone_though_asked : Options → Detail → List Line
gone_though_asked config detail = lines.Begin config detail ∷ lines.Halt (halts.Gone 5) ∷ []

-- the front begins to close in a move of a job
abbrev pub a_job : List Event
a_job = events.Job 1 1 ∷ []

abbrev pub closing_alone : Options → Detail → List Line
closing_alone config detail = lines.Begin config detail ∷ lines.Closing ∷ []

-- the front is asked to close, and begins nothing
abbrev pub a_front_close : List Event
a_front_close = events.Close end.Front ∷ []

abbrev pub asked_in_silence : Options → Detail → List Line
asked_in_silence config detail = lines.Begin config detail ∷ []

-- it begins to close in a move of its own, though nobody asked an end to close
abbrev pub a_front_move : List Event
a_front_move = events.Front 1 ∷ []
