-- How many ports the front makes (`event_channel.h`: EVTCHNOP_alloc_unbound makes one that waits to be bound): at most 4 in an epoch.
use Rattle.std.specs.Prelude.{ℕ, ◌<◌, Bool, true, false, List, count_by}
use Rattle.blk_base.specs.declared.moves.Move.TheVariants as moves
use Rattle.schedule_text.specs.declared.line.Line.{Line}
use Rattle.schedule_text.specs.declared.line.Line.TheVariants as lines
use Rattle.report_rules.specs.Obeys.{Obeys}
use Rattle.report_rules.specs.Standing.{this_epoch}

-- the move by which the front makes a port
abbrev pub makes_port : Line → Bool
makes_port (lines.Move (moves.FrontPort port)) = true
makes_port line = false

-- how many ports the front made in the present epoch
abbrev pub ports_made : List Line → ℕ
ports_made before = count_by makes_port (this_epoch before)

-- the front makes a port only where it made fewer than 4 before in this epoch
abbrev pub IsFewPortsAt : List Line → Line → Type 0
IsFewPortsAt before (lines.Move (moves.FrontPort port)) = ports_made before < 4
IsFewPortsAt before line = Unit {0}

-- so no epoch has more than 4 such moves
abbrev pub AreFewPorts : List Line → Type 0
AreFewPorts report = Obeys IsFewPortsAt report
