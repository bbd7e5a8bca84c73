-- Worked reports that no machine gives: each has a halt without its cause, a cause without its halt, or a move after a halt.
use Rattle.std.specs.Prelude.{ℕ, ℤ, List, [], ◌∷◌, codes, Some}
use Rattle.blk_base.specs.Options.{Options}
use Rattle.blk_base.specs.declared.parts.Mode.TheVariants.{ReadWrite}
use Rattle.blk_base.specs.declared.moves.BackMover.TheVariants as back
use Rattle.blk_base.specs.declared.moves.Mover.TheVariants.{Back}
use Rattle.blk_base.specs.declared.moves.Move.TheVariants.{GetKey, SetKey, Map, MapRefused, Bind}
use Rattle.schedule_text.specs.declared.line.Detail.TheVariants.{Moves}
use Rattle.blk_base.specs.declared.halt.Halt.TheVariants as halts
use Rattle.schedule_text.specs.declared.line.Line.{Line}
use Rattle.schedule_text.specs.declared.line.Line.TheVariants as lines
use Rattle.xenbus_state.specs.declared.keys.FrontKey.TheVariants as key
use Rattle.negotiation_laws.specs.Negotiation.{front_state, back_state, front_path}

-- the back reads this of the front's state
abbrev state_read : List ℕ → Line
state_read text = lines.Move (GetKey Back front_state (Some text))

-- the front is said to close (5) where its key says that it is connected (4)
abbrev pub gone_while_connected : Options → List Line
gone_while_connected config = lines.Begin config Moves ∷ state_read (codes "4") ∷ lines.Halt (halts.Gone 5) ∷ []

-- a back that isn't connected halts for a front that begins (1)
abbrev pub out_of_order_early : Options → List Line
out_of_order_early config = lines.Begin config Moves ∷ state_read (codes "1") ∷ lines.Halt (halts.BadOrder 1) ∷ []

-- one that is connected goes on where the front begins anew
abbrev pub on_at_a_beginning : Options → List Line
on_at_a_beginning config = lines.Begin config Moves ∷ lines.Move (SetKey Back back_state (codes "4")) ∷ state_read (codes "1") ∷ lines.End ∷ []

-- the back goes on where the front's state is no state
abbrev pub on_at_no_state : Options → List Line
on_at_no_state config = lines.Begin config Moves ∷ state_read (codes "x") ∷ lines.End ∷ []

-- it halts for a port that is a number, and goes on where none is
abbrev pub halted_by_a_port : Options → List Line
halted_by_a_port config = lines.Begin config Moves ∷ lines.Move (GetKey Back (front_path key.EventChannel) (Some (codes "1"))) ∷ lines.Halt (halts.BadKey (codes "event-channel")) ∷ []

abbrev pub on_at_no_port : Options → List Line
on_at_no_port config = lines.Begin config Moves ∷ lines.Move (GetKey Back (front_path key.EventChannel) (Some (codes "x"))) ∷ lines.End ∷ []

-- a map is said to be refused that gave a mapping, a port to be bad that was bound, and the back goes on where a page of the ring can't be mapped
abbrev pub refused_though_mapped : Options → (gref : ℕ) (status : ℤ) → List Line
refused_though_mapped config gref status = lines.Begin config Moves ∷ lines.Move (Map back.Back gref ReadWrite 1 2) ∷ lines.Halt (halts.MapRefused gref status) ∷ []

abbrev pub bad_though_bound : Options → (number : ℕ) → List Line
bad_though_bound config number = lines.Begin config Moves ∷ lines.Move (Bind number) ∷ lines.Halt (halts.BadPort number) ∷ []

abbrev pub on_though_refused : Options → (gref : ℕ) (status : ℤ) → List Line
on_though_refused config gref status = lines.Begin config Moves ∷ lines.Move (MapRefused back.Back gref ReadWrite status) ∷ lines.End ∷ []

-- it halts after no move
abbrev pub halted_by_nothing : Options → List Line
halted_by_nothing config = lines.Begin config Moves ∷ lines.Halt (halts.Gone 6) ∷ []

-- it has halted, and maps a page
abbrev pub works_on : Options → (gref : ℕ) (status : ℤ) → List Line
works_on config gref status =
    lines.Begin config Moves ∷ lines.Move (MapRefused back.Back gref ReadWrite status) ∷ lines.Halt (halts.MapRefused gref status) ∷ lines.Move (Map back.Back gref ReadWrite 1 2) ∷ []

-- its front was closed before the epoch, and it reads a key
abbrev pub reads_of_a_closed_front : Options → List Line
reads_of_a_closed_front config = lines.Begin config Moves ∷ lines.Closed ∷ lines.Epoch ∷ state_read (codes "1") ∷ []
