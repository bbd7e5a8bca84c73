-- What both ends have said of themselves where all is quiet.
use Rattle.std.specs.Prelude.{◌≡◌, ◌⊎◌, true, List, [], ◌∷◌, Some}
use Rattle.blk_base.specs.Options.{Options}
use Rattle.schedule_text.specs.Range.{AreOptions}
use Rattle.key_directory.specs.Directory.{key_of}
use Rattle.xenbus_state.specs.declared.state.BusState.{BusState}
use Rattle.xenbus_state.specs.declared.state.BusState.TheVariants as state
use Rattle.negotiation_laws.specs.Negotiation.{front_state, back_state, state_text}
use Rattle.split_model.specs.World as rings
use Rattle.split_model.specs.Honest.{honest_history}
use Rattle.report_laws.specs.Agreed.{AreAgreed}
use Rattle.vbd_model.specs.World.{World, start_of, is_quiet}
use Rattle.vbd_model.specs.Happening.{Happening, Pokes, OverwritesKey, after, all_does}
use Rattle.vbd_model.specs.Possible.{ArePossible}
use Rattle.vbd_model.specs.Kind.{are_carried}

-- no hostile hand overwrites a word or a key
abbrev pub IsUntouched : Happening → Type 0
IsUntouched (Pokes frame word value) = ⊥
IsUntouched (OverwritesKey name text) = ⊥
IsUntouched h = Unit {0}

abbrev pub AreUntouched : List Happening → Type 0
AreUntouched [] = Unit {0}
AreUntouched (h ∷ hs) = IsUntouched h × AreUntouched hs

-- both ends have written this state last, and the directory of keys says so
pub record HaveBoth (w : World) (s : BusState) : Type 0 where
  pub front : w.front.state ≡ s
  pub back : w.back.state ≡ s
  pub front_said : key_of w.rings.under.keys.keys front_state ≡ Some (state_text s)
  pub back_said : key_of w.rings.under.keys.keys back_state ≡ Some (state_text s)

-- both are connected; or both are closed, and the front closes
abbrev pub StatesAgree : World → Type 0
StatesAgree w = HaveBoth w state.Connected ⊎ (HaveBoth w state.Closed × (w.rings.front.closing ≡ true))

-- so it is wherever all is quiet, with options that are carried out, before a hostile hand first overwrites a word or a key, however often the domain is suspended
abbrev pub StatesAgreeAtQuiet : Type 0
StatesAgreeAtQuiet =
    (config : Options) (hs : List Happening) → are_carried config ≡ true → AreOptions config → ArePossible hs (start_of config) → AreUntouched hs
    → is_quiet (after hs (start_of config)) ≡ true → StatesAgree (after hs (start_of config))

-- so the ring's machine says it, wherever all is found quiet before that
abbrev pub RingsAgreed : Type 0
RingsAgreed =
    (config : Options) (hs : List Happening) → are_carried config ≡ true → AreOptions config → ArePossible hs (start_of config)
    → AreAgreed (honest_history (all_does hs (start_of config))) (rings.start_of config)
