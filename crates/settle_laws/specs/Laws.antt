-- Settling ends: the laws of every machine and of every schedule, up to the first word or key that a hostile hand overwrites.
use Rattle.std.specs.Prelude.{◌≡◌, true, List, ◌++◌}
use Rattle.blk_base.specs.Options.{Options}
use Rattle.schedule_text.specs.Range.{AreOptions}
use Rattle.schedule_text.specs.declared.event.Event.{Event}
use Rattle.split_model.specs.Honest.{honest_history}
use Rattle.report_laws.specs.Settled.{AreSettled}
use Rattle.vbd_model.specs.World.{World, start_of, is_quiet}
use Rattle.vbd_model.specs.Happening.{Happening, after, all_does}
use Rattle.vbd_model.specs.Possible.{ArePossible}
use Rattle.vbd_model.specs.Kind.{are_carried, AreOfAll, AreOfSoFar, AreRoundsUntilQuiet, settle_bound}
use Rattle.vbd_laws.specs.Quiet.{AreUntouched}
use Rattle.settle_laws.specs.Calls.{AreCalls}

-- after whatever happened that no hostile hand touched, rounds until all is quiet, of which there are at most as many as the bound says, end there, whatever the disk answers its calls
abbrev pub EachSettlingEnds : Type 0
EachSettlingEnds =
    (config : Options) (history rounds : List Happening) → are_carried config ≡ true → AreOptions config → ArePossible history (start_of config) → AreUntouched history
    → (let w : World = after history (start_of config) in AreRoundsUntilQuiet (settle_bound w) w rounds → AreCalls rounds w → is_quiet (after rounds w) ≡ true)

-- so does each settling of a schedule, also where its last event came only so far
abbrev pub EachScheduleSettles : Type 0
EachScheduleSettles =
    (config : Options) (schedule : List Event) (history : List Happening) → are_carried config ≡ true → AreOptions config
    → AreOfAll schedule (start_of config) history → AreCalls history (start_of config) → AreSettled (honest_history (all_does history (start_of config)))

abbrev pub EachBeginningSettles : Type 0
EachBeginningSettles =
    (config : Options) (schedule : List Event) (event : Event) (history more : List Happening) → are_carried config ≡ true → AreOptions config
    → AreOfAll schedule (start_of config) history → AreOfSoFar event (after history (start_of config)) more → AreCalls (history ++ more) (start_of config)
    → AreSettled (honest_history (all_does (history ++ more) (start_of config)))
