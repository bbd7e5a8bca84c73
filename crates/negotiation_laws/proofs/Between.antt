-- What an ask of one end makes of what is true of the other.
use Rattle.std.proofs.Common.{◌≡◌, ◌∙◌, ◌≤◌, Bool, refl, arith}
use Rattle.std.specs.Prelude.{Some}
use Rattle.key_directory.specs.Directory.{Directory, key_of}
use Rattle.key_directory.proofs.Entries.{key_of-with_key_same}
use Rattle.xenbus_state.specs.States.{state_number}
use Rattle.xenbus_state.specs.Values.{text_of}
use Rattle.xenbus_state.specs.Keys.{front_name, back_name}
use Rattle.xenbus_state.specs.declared.state.BusState.{BusState}
use Rattle.xenbus_state.specs.declared.stage.FrontBusStage.{FrontBusStage}
use Rattle.xenbus_state.specs.declared.stage.BackBusStage.{BackBusStage}
use Rattle.xenbus_state.specs.declared.front.FrontBusAsk.{FrontBusAsk}
use Rattle.xenbus_state.specs.declared.front.FrontBusAsk.TheVariants as front_ask
use Rattle.xenbus_state.specs.declared.back.BackBusAsk.{BackBusAsk}
use Rattle.xenbus_state.specs.declared.back.BackBusAsk.TheVariants as back_ask
use Rattle.xenbus_state.specs.FrontSound as front_sound
use Rattle.xenbus_state.specs.BackSound as back_sound
use Rattle.xenbus_state.proofs.FrontRuns.{own_after}
use Rattle.negotiation_laws.specs.Negotiation.{front_path, back_path, front_state, back_state, state_text, front_done, back_done}
use Rattle.negotiation_laws.specs.Said.{front_texts, back_texts}
use Rattle.negotiation_laws.proofs.Keys.{front_texts_other, back_texts_other, front_state_other, back_state_other, front_state_key, back_state_key}
use Rattle.negotiation_laws.proofs.Watching.{front_sees_state, front_sees_kept, back_sees_state, back_sees_kept, front_key_apart, back_key_apart}
use Rattle.negotiation_laws.proofs.Subjects.{FrontSees, BackSees}

-- the state that the back wrote last, once this ask is answered
abbrev pub back_own : BackBusAsk → BusState → BusState
back_own (back_ask.SetState s) own = s
back_own a own = own

-- an ask of the front leaves the back's keys and state, and its watch is told of a state
pub front_ask_leaves : (a : FrontBusAsk) (d : Directory) → back_texts (front_done a d).keys ≡ back_texts d.keys
front_ask_leaves (front_ask.SetState s) d = back_texts_other d.keys _ (state_text s)
front_ask_leaves (front_ask.SetKey k value) d = back_texts_other d.keys (front_name k) (text_of value)
front_ask_leaves front_ask.Wait d = refl
front_ask_leaves a d = refl

-- it leaves the back's state
pub front_ask_state : (a : FrontBusAsk) (d : Directory) → key_of (front_done a d).keys back_state ≡ key_of d.keys back_state
front_ask_state (front_ask.SetState s) d = back_state_other d.keys _ (state_text s)
front_ask_state (front_ask.SetKey k value) d = back_state_other d.keys (front_name k) (text_of value)
front_ask_state front_ask.Wait d = refl
front_ask_state a d = refl

-- it says the front's own
pub front_ask_own : (a : FrontBusAsk) (d : Directory) (own : BusState) → key_of d.keys front_state ≡ Some (state_text own)
    → key_of (front_done a d).keys front_state ≡ Some (state_text (own_after a own))
unfolding own_after
front_ask_own (front_ask.SetState s) d own h = key_of-with_key_same d.keys front_state (state_text s)
front_ask_own (front_ask.SetKey k value) d own h = front_state_key d.keys k (text_of value) ∙ h
front_ask_own front_ask.Wait d own h = h
front_ask_own a d own h = h

-- it leaves or fires the back's watch
pub front_ask_seen : (a : FrontBusAsk) (d : Directory) (s : BackBusStage) (own fs : BusState) → BackSees s own fs d.back → BackSees s own (own_after a fs) (front_done a d).back
unfolding own_after
front_ask_seen (front_ask.SetState gs) d s own fs h = back_sees_state s own fs gs d.back h
front_ask_seen (front_ask.SetKey k value) d s own fs h = back_sees_kept (front_path k) s own fs d.back (front_key_apart k) h
front_ask_seen front_ask.Wait d s own fs h = h
front_ask_seen a d s own fs h = h

-- an ask of the back leaves the front's keys and state, and its watch is told of a state
pub back_ask_leaves : (a : BackBusAsk) (d : Directory) → front_texts (back_done a d).keys ≡ front_texts d.keys
back_ask_leaves (back_ask.SetState s) d = front_texts_other d.keys _ (state_text s)
back_ask_leaves (back_ask.SetKey k value) d = front_texts_other d.keys (back_name k) (text_of value)
back_ask_leaves back_ask.Wait d = refl
back_ask_leaves a d = refl

-- it leaves the front's state
pub back_ask_state : (a : BackBusAsk) (d : Directory) → key_of (back_done a d).keys front_state ≡ key_of d.keys front_state
back_ask_state (back_ask.SetState s) d = front_state_other d.keys _ (state_text s)
back_ask_state (back_ask.SetKey k value) d = front_state_other d.keys (back_name k) (text_of value)
back_ask_state back_ask.Wait d = refl
back_ask_state a d = refl

-- it says the back's own
pub back_ask_own : (a : BackBusAsk) (d : Directory) (own : BusState) → key_of d.keys back_state ≡ Some (state_text own)
    → key_of (back_done a d).keys back_state ≡ Some (state_text (back_own a own))
back_ask_own (back_ask.SetState s) d own h = key_of-with_key_same d.keys back_state (state_text s)
back_ask_own (back_ask.SetKey k value) d own h = back_state_key d.keys k (text_of value) ∙ h
back_ask_own back_ask.Wait d own h = h
back_ask_own a d own h = h

-- it leaves or fires the front's watch
pub back_ask_seen : (a : BackBusAsk) (d : Directory) (s : FrontBusStage) (closing : Bool) (own : BusState) (gone : Bool) (b : BusState)
    → FrontSees s closing own gone b d.front → FrontSees s closing own gone (back_own a b) (back_done a d).front
back_ask_seen (back_ask.SetState c) d s closing own gone b h = front_sees_state s closing own gone b c d.front h
back_ask_seen (back_ask.SetKey k value) d s closing own gone b h = front_sees_kept (back_path k) s closing own gone b d.front (back_key_apart k) h
back_ask_seen back_ask.Wait d s closing own gone b h = h
back_ask_seen a d s closing own gone b h = h

-- states rise
pub front_own_rises : (a : FrontBusAsk) (own : BusState) → front_sound.Rises own a → state_number own ≤ state_number (own_after a own)
unfolding own_after
front_own_rises (front_ask.SetState s) own h = omega arith
front_own_rises a own h = omega arith

-- so the back's
pub back_own_rises : (a : BackBusAsk) (own : BusState) → back_sound.Rises own a → state_number own ≤ state_number (back_own a own)
back_own_rises (back_ask.SetState s) own h = omega arith
back_own_rises a own h = omega arith
