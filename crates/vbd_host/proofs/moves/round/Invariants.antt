use Rattle.std.proofs.Common.{Bool, ℕ, ◌-◌, List}
use Rattle.vbd_back.specs.View.{View}
use Rattle.vbd_host.specs.Moves.{MovesBack, HaveTurns}
use Rattle.vbd_host.proofs.moves.round.Given as goal

-- the back had its turn, and each job up to the last one
abbrev pub invariant-loop-number : goal.invariant-loop-number
invariant-loop-number g l =
    (moved : Bool) × (between : View) × (then : _) × MovesBack g.H.BackHost.does g.H.BackHost.hears moved l.fn.back between l.fn.host then
    × ((numbers : List ℕ) × HaveTurns g.H.BackHost.does g.H.BackHost.hears numbers 0 l.last moved l.moved between l.back then l.host)

-- numbers have 64 bits
abbrev pub decreases-loop-number : goal.decreases-loop-number
decreases-loop-number g l = 18446744073709551616 - l.last
