-- Before a hostile hand first overwrites a word or a key the front begins to close only after an end was asked to close.
use Rattle.std.specs.Prelude.{◌≡◌, Bool, true, false, List, [], ◌∷◌, ◌++◌}
use Rattle.std.specs.List.{list_any}
use Rattle.blk_base.specs.Options.{Options}
use Rattle.schedule_text.specs.Range.{AreOptions}
use Rattle.vbd_model.specs.World.{start_of}
use Rattle.vbd_model.specs.Happening.{Happening, Closes, lines_at, after}
use Rattle.vbd_model.specs.Kind.{are_carried}
use Rattle.vbd_model.specs.Possible.{ArePossible}
use Rattle.vbd_laws.specs.Quiet.{AreUntouched}
use Rattle.vbd_laws.specs.StateLines.{is_closing}

-- an end is asked to close
abbrev pub is_close : Happening → Bool
is_close (Closes at) = true
is_close h = false

-- what shows `closing` is a close, or a close happened before it, in whichever epoch
abbrev pub ClosingIsAsked : Type 0
ClosingIsAsked =
    (config : Options) (history : List Happening) (h : Happening) → are_carried config ≡ true → AreOptions config → ArePossible history (start_of config) → AreUntouched history
    → list_any is_closing (lines_at (after history (start_of config)) h) ≡ true → list_any is_close (history ++ h ∷ []) ≡ true
