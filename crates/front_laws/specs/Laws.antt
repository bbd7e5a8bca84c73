-- What is true of every history of a front alone, whoever answers its asks.
use Rattle.std.specs.Prelude.{◌^◌, ◌<◌, ◌≤◌, List}
use Rattle.blk_base.specs.Options.{Options}
use Rattle.blk_front.specs.View.{start_of}
use Rattle.front_laws.specs.History.{Happening, MayAllHappen, trace_of}
use Rattle.front_laws.specs.Sight.{nothing_seen, Each}
use Rattle.front_laws.specs.Told.{IsToldWhereDue}
use Rattle.front_laws.specs.Answers.{IsToldAsRead, IsAnsweredOnce}
use Rattle.front_laws.specs.Touches.{IsTouch}
use Rattle.front_laws.specs.Honest.{IsHonest, IsUnbroken, IsHonestUnbroken, IsBrought}

-- a ring of 1 to 16 pages, whose first index is a word
pub record IsRing (config : Options) : Type 0 where
  pub order : config.order ≤ 4
  pub start : config.start < 2 ^ 32

-- so of the trace of each history of a front, from its construction on, of what is told, and of what was read for it
abbrev pub EachTellsWhereDue : Type 0
EachTellsWhereDue =
    (config : Options) (history : List Happening) → IsRing config → MayAllHappen history (start_of config)
    → Each IsToldWhereDue (nothing_seen config) (trace_of history (start_of config))

abbrev pub EachTellsAsRead : Type 0
EachTellsAsRead =
    (config : Options) (history : List Happening) → IsRing config → MayAllHappen history (start_of config)
    → Each IsToldAsRead (nothing_seen config) (trace_of history (start_of config))

-- of what is asked
abbrev pub EachTouchIsRight : Type 0
EachTouchIsRight =
    (config : Options) (history : List Happening) → IsRing config → MayAllHappen history (start_of config)
    → Each IsTouch (nothing_seen config) (trace_of history (start_of config))

-- over all epochs no number is answered twice
abbrev pub EachAnswersOnce : Type 0
EachAnswersOnce =
    (config : Options) (history : List Happening) → IsRing config → MayAllHappen history (start_of config)
    → IsAnsweredOnce (trace_of history (start_of config))

-- where each answer is honest nothing breaks the front
abbrev pub HonestBreaksNothing : Type 0
HonestBreaksNothing =
    (config : Options) (history : List Happening) → IsRing config → MayAllHappen history (start_of config)
    → Each IsHonest (nothing_seen config) (trace_of history (start_of config))
    → Each IsUnbroken (nothing_seen config) (trace_of history (start_of config))

-- and an answer that breaks nothing was honest
abbrev pub UnbrokenIsHonest : Type 0
UnbrokenIsHonest =
    (config : Options) (history : List Happening) → IsRing config → MayAllHappen history (start_of config)
    → Each IsHonestUnbroken (nothing_seen config) (trace_of history (start_of config))

-- a response that was asked for brings its answer
abbrev pub EachBringsItsAnswer : Type 0
EachBringsItsAnswer =
    (config : Options) (history : List Happening) → IsRing config → MayAllHappen history (start_of config)
    → Each IsBrought (nothing_seen config) (trace_of history (start_of config))
