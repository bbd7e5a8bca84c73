-- What contracts see of the front's end of the negotiation.
use Rattle.std.specs.Prelude.{ℕ, ◌^◌, Bool, true, false, not, ◌||◌, ◌&&◌, ◌==◌, min, if◌then◌else◌, unwrap_or, Option, Some, None}
use Rattle.blk_base.specs.Options.{Options}
use Rattle.blk_base.specs.declared.operation.Abi.{Abi}
use Rattle.xenbus_state.specs.declared.state.BusState.{BusState}
use Rattle.xenbus_state.specs.declared.state.BusState.TheVariants.{Initialising}
use Rattle.xenbus_state.specs.declared.offer.Features.{Features}
use Rattle.xenbus_state.specs.declared.offer.DiskFacts.{DiskFacts}
use Rattle.xenbus_state.specs.declared.values.FrontTerms.{FrontTerms}
use Rattle.xenbus_state.specs.declared.stage.FrontBusStage.{FrontBusStage}
use Rattle.xenbus_state.specs.declared.stage.FrontBusStage.TheVariants as stage
use Rattle.xenbus_state.specs.declared.front.FrontNews.{FrontNews}
use Rattle.xenbus_state.specs.declared.front.FrontNews.TheVariants as news

-- The front's end: its layout, the greatest order that it wishes, and whether it keeps grants; what it does; the state that it wrote last; whether it closes, and whether it read in this epoch that the back is gone; its port; and what it read of the back's offer and of the disk.
pub record FrontView : Type 0 where
  pub abi : Abi
  pub order : ℕ
  pub persistent : Bool
  pub stage : FrontBusStage
  pub state : BusState
  pub closing : Bool
  pub gone : Bool
  pub port : Option ℕ
  pub features : Features
  pub disk : DiskFacts

abbrev pub no_features : Features
no_features = record { barrier = false; flush = false; discard = false; persistent = false; indirect = 0; order = 0 }

abbrev pub no_disk : DiskFacts
no_disk = record { sectors = 0; read_only = false }

abbrev pub start_of : Options → FrontView
start_of config = record {
  abi = config.abi;
  order = config.order;
  persistent = not (config.persistent == 0);
  stage = stage.Start;
  state = Initialising;
  closing = false;
  gone = false;
  port = None;
  features = no_features;
  disk = no_disk;
}

-- the order of the ring, and its pages
abbrev pub ring_order : FrontView → ℕ
ring_order v = min v.order v.features.order

abbrev pub pages_of : FrontView → ℕ
pages_of v = 2 ^ ring_order v

-- what the front has to say
abbrev pub terms_of : FrontView → FrontTerms
terms_of v = record { abi = v.abi; order = ring_order v; persistent = v.persistent; port = unwrap_or v.port 0 }

-- both ends keep grants
abbrev pub keeps_grants : FrontView → Bool
keeps_grants v = v.persistent && v.features.persistent

-- a word was met that no honest back leaves
abbrev pub broken : ℕ → FrontView → FrontView
broken word v = record v { stage = stage.Broken word }

abbrev pub is_broken : FrontBusStage → Bool
is_broken (stage.Broken word) = true
is_broken s = false

-- the front was asked to close
abbrev pub closed : FrontView → FrontView
closed v = if v.closing || is_broken v.stage then v else record v { closing = true }

abbrev pub close_news : FrontView → Option FrontNews
close_news v = if v.closing || is_broken v.stage then None else Some news.Closing

-- a new epoch begins; nothing follows where the front is closed or broken
abbrev pub suspended_at : FrontBusStage → FrontView → FrontView
suspended_at stage.Closed v = v
suspended_at (stage.Broken word) v = v
suspended_at s v = record v { stage = stage.Start; state = Initialising; gone = false; port = None }

abbrev pub suspended : FrontView → FrontView
suspended v = suspended_at v.stage v
