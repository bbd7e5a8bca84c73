-- Worked reports that no machine gives.
use Rattle.std.specs.Prelude.{List, [], ◌∷◌, codes}
use Rattle.blk_base.specs.Options.{Options}
use Rattle.blk_base.specs.declared.operation.Status.{Status}
use Rattle.blk_base.specs.declared.moves.Move.{Move}
use Rattle.blk_base.specs.declared.moves.Move.TheVariants.{FrontWrite, FrontPort, SetKey}
use Rattle.blk_base.specs.declared.moves.Mover.TheVariants.{Front, Back}
use Rattle.schedule_text.specs.declared.line.Detail.{Detail}
use Rattle.schedule_text.specs.declared.line.Detail.TheVariants.{Lines, Moves}
use Rattle.schedule_text.specs.declared.line.Line.{Line}
use Rattle.schedule_text.specs.declared.line.Line.TheVariants as lines
use Rattle.report_laws.specs.States.{front_state, back_state}

-- it begins a second time
abbrev pub begun_twice : Options → Detail → List Line
begun_twice config detail = lines.Begin config detail ∷ lines.Begin config detail ∷ []

-- it shows a move, and said that it doesn't
abbrev pub moved : Options → Move → List Line
moved config move = lines.Begin config Lines ∷ lines.Move move ∷ []

-- it is quiet before it is ready
abbrev pub ready_late : Options → Detail → List Line
ready_late config detail = lines.Begin config detail ∷ lines.Quiet ∷ lines.Ready ∷ []

-- it is quiet while a request was pushed (req_prod is 1) that has no response
abbrev pub unserved : Options → List Line
unserved config = lines.Begin config Moves ∷ lines.Ready ∷ lines.Move (FrontWrite 2 0 1) ∷ lines.Quiet ∷ []

-- it is quiet while a response was pushed (rsp_prod is 1) and no answer told
abbrev pub unread : Options → List Line
unread config = lines.Begin config Moves ∷ lines.Ready ∷ lines.Move (FrontWrite 2 0 1) ∷ lines.Move (FrontWrite 2 2 1) ∷ lines.Quiet ∷ []

-- it is quiet where the front has said that it is connected, and the back hasn't
abbrev pub connected_alone : Options → List Line
connected_alone config = lines.Begin config Moves ∷ lines.Move (SetKey Front front_state (codes "4")) ∷ lines.Ready ∷ lines.Quiet ∷ []

-- it is quiet where both have said that they are closed, and the front hasn't said that it closes
abbrev pub closed_unsaid : Options → List Line
closed_unsaid config = lines.Begin config Moves ∷ lines.Move (SetKey Back back_state (codes "6")) ∷ lines.Move (SetKey Front front_state (codes "6")) ∷ lines.Closed ∷ lines.Quiet ∷ []

-- the front makes five ports in one epoch
abbrev pub five_ports : Options → List Line
five_ports config = lines.Begin config Moves ∷ lines.Move (FrontPort 1) ∷ lines.Move (FrontPort 2) ∷ lines.Move (FrontPort 3) ∷ lines.Move (FrontPort 4) ∷ lines.Move (FrontPort 5) ∷ []

-- it is quiet in an epoch in which the front wasn't connected, only in the one before
abbrev pub ready_before : Options → Detail → List Line
ready_before config detail = lines.Begin config detail ∷ lines.Ready ∷ lines.Epoch ∷ lines.Quiet ∷ []

-- it is quiet while a response was pushed (rsp_prod is 1) and no answer told in this epoch, only in the one before
abbrev pub answered_before : Options → Status → List Line
answered_before config status =
    lines.Begin config Moves ∷ lines.Ready ∷ lines.Answer 1 status ∷ lines.Epoch ∷ lines.Ready ∷ lines.Move (FrontWrite 2 0 1) ∷ lines.Move (FrontWrite 2 2 1) ∷ lines.Quiet ∷ []

-- it is quiet where both have said that they are connected in the epoch before, and nothing in this one
abbrev pub connected_before : Options → List Line
connected_before config =
    lines.Begin config Moves ∷ lines.Move (SetKey Front front_state (codes "4")) ∷ lines.Move (SetKey Back back_state (codes "4")) ∷ lines.Ready ∷ lines.Epoch ∷ lines.Ready ∷ lines.Quiet ∷ []
