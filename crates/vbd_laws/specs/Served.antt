-- What a schedule makes happen to the machine is possible for the machine of its ring, and served until a word or a key is overwritten.
use Rattle.std.specs.Prelude.{◌≡◌, ℕ, true, false, List, [], ◌∷◌, is_some}
use Rattle.blk_base.specs.Options.{Options}
use Rattle.blk_base.specs.declared.ask.BackAsk.TheVariants as ring_ask
use Rattle.blk_base.specs.declared.parts.Mode.TheVariants.{ReadWrite}
use Rattle.schedule_text.specs.Range.{AreOptions}
use Rattle.blk_front.specs.Submit.{is_connected}
use Rattle.blk_back.specs.Ask as ring
use Rattle.xenbus_state.specs.declared.back.BackBusAsk.TheVariants as bus_ask
use Rattle.xenbus_state.specs.BackAsk as bus
use Rattle.split_model.specs.World as rings
use Rattle.split_model.specs.Honest.{honest_history}
use Rattle.machine_pipeline.specs.Allowed as rings_allowed
use Rattle.vbd_model.specs.World.{World, start_of, backend_of}
use Rattle.vbd_model.specs.Happening.{Happening, OverwritesKey, after, all_does}
use Rattle.vbd_back.specs.Ask as backs
use Rattle.vbd_model.specs.Possible.{ArePossible}
use Rattle.vbd_model.specs.Kind.{are_carried}

-- with options that are carried out, whatever happens
abbrev pub RingsPossible : Type 0
RingsPossible =
    (config : Options) (hs : List Happening) → are_carried config ≡ true → AreOptions config → ArePossible hs (start_of config)
    → rings_allowed.ArePossible (all_does hs (start_of config)) (rings.start_of config)

-- and what happens before a hostile hand first overwrites a word or a key is served, however often the domain is suspended
abbrev pub RingsServed : Type 0
RingsServed =
    (config : Options) (hs : List Happening) → are_carried config ≡ true → AreOptions config → ArePossible hs (start_of config)
    → rings_allowed.AreServed (honest_history (all_does hs (start_of config))) (rings.start_of config)

-- Where the back's negotiation maps a reference its end of the ring maps that one; where it binds a port, its end of the ring binds that one.
pub record GoesByTheTerms (w : World) : Type 0 where
  pub maps : (gref : ℕ) → bus.ask_of w.back ≡ bus_ask.Map gref → ring.ask_of w.rings.back ≡ ring_ask.Map gref ReadWrite
  pub binds : (port : ℕ) → bus.ask_of w.back ≡ bus_ask.Bind port → ring.ask_of w.rings.back ≡ ring_ask.Bind port

-- so it is at every moment
abbrev pub RingGoesByTheTerms : Type 0
RingGoesByTheTerms =
    (config : Options) (hs : List Happening) → are_carried config ≡ true → AreOptions config → GoesByTheTerms (after hs (start_of config))

-- The front has made its ring and its port before the back maps a reference, and before its end of the ring has a move that is no part of a halt.
pub record IsMadeFirst (w : World) : Type 0 where
  pub mapped : (gref : ℕ) → bus.ask_of w.back ≡ bus_ask.Map gref → is_connected w.rings.front.stage ≡ true
  pub moved : backs.ring_moves (backs.bus_ask_of (backend_of w)) w.rings.back.stage ≡ true → is_some w.rings.back.halted ≡ false → is_connected w.rings.front.stage ≡ true

-- no hostile hand overwrites a key
abbrev pub KeepsKeys : Happening → Type 0
KeepsKeys (OverwritesKey name text) = ⊥
KeepsKeys h = Unit {0}

abbrev pub AllKeepKeys : List Happening → Type 0
AllKeepKeys [] = Unit {0}
AllKeepKeys (h ∷ hs) = KeepsKeys h × AllKeepKeys hs

-- so it is until then, also over suspends
abbrev pub RingIsMadeFirst : Type 0
RingIsMadeFirst =
    (config : Options) (hs : List Happening) → are_carried config ≡ true → AreOptions config → AllKeepKeys hs → IsMadeFirst (after hs (start_of config))
