-- When the front may enter a state that its negotiation has it enter, and what that makes of it (`io/xenbus.h`).
use Rattle.std.specs.Prelude.{Bool, true, false, not, ◌&&◌, if◌then◌else◌, ◌==◌, nat_le, length}
use Rattle.ring_words.specs.Shape.{entries_of}
use Rattle.blk_front.specs.declared.stage.FrontStage.{FrontStage}
use Rattle.blk_front.specs.declared.stage.FrontStage.TheVariants as stage
use Rattle.blk_front.specs.declared.state.FrontState.{FrontState}
use Rattle.blk_front.specs.declared.state.FrontState.TheVariants as state
use Rattle.blk_front.specs.Submit.{is_initialised}
use Rattle.blk_front.specs.View.{View}
use Rattle.blk_front.specs.Ask.{is_through}

-- neither closed nor broken
abbrev pub is_open : FrontStage → Bool
is_open stage.Closed = false
is_open (stage.Broken word) = false
is_open s = true

-- it has made its ring and its port, and is at nothing in particular
abbrev pub is_made : FrontStage → Bool
is_made stage.Initialised = true
is_made stage.Loop = true
is_made s = false

-- it has ended the ring's grants and closed its port, or made none
abbrev pub is_bare : FrontStage → Bool
is_bare (stage.RingWord k) = true
is_bare stage.Left = true
is_bare s = false

-- it hasn't begun its ring
abbrev pub is_unmade : FrontStage → Bool
is_unmade (stage.RingWord k) = k == 0
is_unmade s = false

-- An order no greater than it wished, of a ring with an entry for each request, is agreed before its ring is begun. It is connected where it waits for it, and begins to close once. It leaves, and is closed, only with no request left, and is closed only without a ring.
abbrev pub may_enter : FrontState → View → Bool
may_enter (state.Agreed order) v = is_unmade v.stage && nat_le order v.shape.order && nat_le (length v.requests) (entries_of order)
may_enter (state.Connected offers) v = is_initialised v.stage
may_enter state.Closing v = not v.closing && is_open v.stage
may_enter state.Leaving v = is_through v && is_made v.stage
may_enter state.Closed v = is_through v && is_bare v.stage
may_enter (state.Broken word) v = is_open v.stage

abbrev pub in_state : FrontState → View → View
in_state (state.Agreed order) v = record v {
  shape = record v.shape { order = order };
  ring = record v.ring { indices = record { entries = entries_of order; prod = v.start; cons = v.start }; seen = v.start };
}
in_state (state.Connected offers) v = record v { offers = offers; stage = stage.Loop }
in_state state.Closing v = record v { closing = true }
in_state state.Leaving v = record v { stage = stage.RingRead 0 }
in_state state.Closed v = record v { stage = stage.Closed }
in_state (state.Broken word) v = record v { stage = stage.Broken word }

abbrev pub enters : FrontState → View → View
enters s v = if may_enter s v then in_state s v else v
