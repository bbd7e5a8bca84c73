-- What contracts see of the back's end of the negotiation.
use Rattle.std.specs.Prelude.{ℕ, Bool, true, false, if◌then◌else◌, List, []}
use Rattle.blk_base.specs.declared.operation.Abi.TheVariants.{X64}
use Rattle.blk_base.specs.declared.parts.Mapping.{Mapping}
use Rattle.xenbus_state.specs.declared.keys.BackKey.TheVariants as key
use Rattle.xenbus_state.specs.declared.state.BusState.{BusState}
use Rattle.xenbus_state.specs.declared.state.BusState.TheVariants as state
use Rattle.xenbus_state.specs.declared.offer.Features.{Features}
use Rattle.xenbus_state.specs.declared.offer.DiskFacts.{DiskFacts}
use Rattle.xenbus_state.specs.declared.values.FrontTerms.{FrontTerms}
use Rattle.xenbus_state.specs.declared.stage.BackBusStage.{BackBusStage}
use Rattle.xenbus_state.specs.declared.stage.BackBusStage.TheVariants as stage

-- The back's end: what it offers, and what the disk is; what it does; the state that it wrote last; whether it was asked to close; what it read of the front's terms, and the references of the ring's pages; the pages of the ring that it has mapped; and whether the port is bound.
pub record BackView : Type 0 where
  pub features : Features
  pub disk : DiskFacts
  pub stage : BackBusStage
  pub state : BusState
  pub unplugged : Bool
  pub terms : FrontTerms
  pub grefs : List ℕ
  pub pages : List Mapping
  pub bound : Bool

abbrev pub no_terms : FrontTerms
no_terms = record { abi = X64; order = 0; persistent = false; port = 0 }

abbrev pub start_of : Features → DiskFacts → BackView
start_of features disk = record {
  features = features;
  disk = disk;
  stage = stage.Publish key.FeatureBarrier;
  state = state.Initialising;
  unplugged = false;
  terms = no_terms;
  grefs = [];
  pages = [];
  bound = false;
}

-- a back whose front is closed or broken in this epoch from its beginning
abbrev pub halted_of : Features → DiskFacts → BackView
halted_of features disk = record (start_of features disk) { stage = stage.Halted; state = state.Closed }

-- only a halt writes Closing and Closed in a step of their own
abbrev pub is_last : BusState → Bool
is_last state.Closing = true
is_last state.Closed = true
is_last s = false

abbrev pub is_halting : BackBusStage → Bool
is_halting (stage.WriteState s) = is_last s
is_halting stage.UnmapOthers = true
is_halting stage.UnmapPage = true
is_halting stage.ClosePort = true
is_halting stage.Halted = true
is_halting s = false

-- the back was asked to close
abbrev pub unplugged : BackView → BackView
unplugged v = if is_halting v.stage then v else record v { unplugged = true }

-- the back halts: it unmaps its mappings first
abbrev pub halted : BackView → BackView
halted v = record v { stage = stage.UnmapOthers }

abbrev pub stopped : BackView → BackView
stopped v = if is_halting v.stage then v else halted v
