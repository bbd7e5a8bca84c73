-- Words of a request's data, and of its entry, that the frontend moves many at once: as many single moves, one after another.
use Rattle.std.specs.Prelude.{◌≡◌, ℕ, Bool, true, false, List, Option, None, if◌then◌else◌}
use Rattle.std.specs.List.{fold}
use Rattle.blk_base.specs.declared.ask.FrontAnswer.{FrontAnswer}
use Rattle.blk_front.specs.declared.entry_part.EntryPart.{EntryPart}
use Rattle.blk_front.specs.declared.sector_part.SectorPart.{SectorPart}
use Rattle.blk_front.specs.View as ring
use Rattle.blk_front.specs.Part as part
use Rattle.xenbus_state.specs.declared.front.FrontBusAsk.{FrontBusAsk}
use Rattle.vbd_front.specs.View.{View}
use Rattle.vbd_front.specs.Ask.{bus_ask_of, speaks, ring_moves, ask_of, IsAnswer}
use Rattle.vbd_front.specs.Step.{step_of}

-- the words of data that are moved next: those of the ring's end, where it has the move
abbrev pub ring_part : Bool → ring.View → Option SectorPart
ring_part true r = part.sector_part r
ring_part false r = None

abbrev pub part_at : FrontBusAsk → View → Option SectorPart
part_at a v = if speaks a then None else ring_part (ring_moves a v.ring.stage) v.ring

abbrev pub sector_part : View → Option SectorPart
sector_part v = part_at (bus_ask_of v) v

-- the words of the entry in hand that are written next, likewise, and what they are to be
abbrev pub ring_entry_part : Bool → ring.View → Option EntryPart
ring_entry_part true r = part.entry_part r
ring_entry_part false r = None

abbrev pub entry_part_at : FrontBusAsk → View → Option EntryPart
entry_part_at a v = if speaks a then None else ring_entry_part (ring_moves a v.ring.stage) v.ring

abbrev pub entry_part : View → Option EntryPart
entry_part v = entry_part_at (bus_ask_of v) v

abbrev pub entry_words : View → List ℕ
entry_words v = part.entry_words v.ring

-- a frontend after these answers, told one after another
abbrev pub steps_of : View → List FrontAnswer → View
steps_of v answers = fold step_of v answers

-- they may be told so: each is of the kind that is asked for then, and nothing of the ring is left to tell before it, nor anything new of the negotiation
abbrev pub IsTellable : View → FrontAnswer → Type 0
IsTellable v answer = IsAnswer (ask_of v) answer × (v.ring.told ≡ None)

abbrev pub AreTellable : View → List FrontAnswer → Type 0
AreTellable v answers = part.AllInTurn (λ w answer. IsTellable w answer × (w.news ≡ v.news)) step_of v answers
