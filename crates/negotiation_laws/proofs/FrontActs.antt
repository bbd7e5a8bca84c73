-- What the front does on reading the state of an honest back.
use Rattle.std.proofs.Common.{◌≡◌, ◌≢◌, ap, ◌<◌, ◌≤◌, Bool, true, false, true≢false, refl, arith}
use Rattle.std.specs.Prelude.{Some}
use Rattle.xenbus_state.specs.States.{state_number}
use Rattle.xenbus_state.specs.Tables.{front_action, on_offer, on_connected, on_closing, on_gone}
use Rattle.xenbus_state.specs.declared.state.BusState.{BusState}
use Rattle.xenbus_state.specs.declared.state.BusState.TheVariants as state
use Rattle.xenbus_state.specs.declared.table.FrontAction.{FrontAction}
use Rattle.xenbus_state.specs.declared.table.FrontAction.TheVariants as action
use Rattle.negotiation_laws.proofs.Subjects.{IsFrontState, IsBackState, state_needs, Settled, RestHeard}

-- when each action is taken
abbrev pub ActsFor : FrontAction → (own : BusState) (closing gone idle : Bool) (b : BusState) → Type 0
ActsFor action.Nothing own closing gone idle b = RestHeard closing own gone b
ActsFor action.Publish own closing gone idle b = (own ≡ state.Initialising) × (b ≡ state.InitWait)
ActsFor action.Connect own closing gone idle b = (own ≡ state.Initialised) × (b ≡ state.Connected)
ActsFor action.Close own closing gone idle b = b ≡ state.Closing
ActsFor action.CloseAndConnect own closing gone idle b = (own ≡ state.Initialised) × (b ≡ state.Closing)
ActsFor action.Leave own closing gone idle b = (b ≡ state.Closed) × (idle ≡ true)
ActsFor (action.Break word) own closing gone idle b = (b ≡ state.Closed) × (word ≡ 6) × (idle ≡ false)

-- one state is not another
pub states_differ : (a b : BusState) → state_number a ≢ state_number b → a ≢ b
states_differ a b differ e = differ (ap state_number e)

heard_other : (closing gone : Bool) (own b : BusState) → (closing ≡ false → Settled own b) → b ≢ state.Closed → RestHeard closing own gone b
heard_other false gone own b settled other = settled refl
heard_other true gone own b settled other = λ e. absurd (other e)

start_settled : (own : BusState) → IsFrontState own → state_needs own ≤ 1 → state_number own < 5 → Settled own state.Initialising
start_settled state.Initialising h after low = tt
start_settled state.Unknown h after low = absurd h
start_settled state.InitWait h after low = absurd h
start_settled state.Reconfiguring h after low = absurd h
start_settled state.Reconfigured h after low = absurd h
start_settled other h after low = absurd (omega arith)

offer_acts : (own : BusState) (closing gone idle : Bool) → IsFrontState own → state_needs own ≤ 2 → (closing ≡ false → state_number own < 5)
    → ActsFor (on_offer own) own closing gone idle state.InitWait
offer_acts state.Initialising closing gone idle h after leaves_open = (refl, refl)
offer_acts state.Initialised closing gone idle h after leaves_open =
    heard_other closing gone state.Initialised state.InitWait (λ e. tt) (states_differ state.InitWait state.Closed (omega arith))
offer_acts state.Connected closing gone idle h after leaves_open = absurd (omega arith)
offer_acts state.Closing closing gone idle h after leaves_open =
    heard_other closing gone state.Closing state.InitWait (λ e. absurd (let low = leaves_open e in omega arith)) (states_differ state.InitWait state.Closed (omega arith))
offer_acts state.Closed closing gone idle h after leaves_open = absurd (omega arith)
offer_acts other closing gone idle h after leaves_open = absurd h

connected_acts : (own : BusState) (closing gone idle : Bool) → IsFrontState own → state_needs own ≤ 4 → 3 ≤ state_number own
    → (closing ≡ false → state_number own < 5) → ActsFor (on_connected own) own closing gone idle state.Connected
connected_acts state.Initialising closing gone idle h after ready leaves_open = absurd (omega arith)
connected_acts state.Initialised closing gone idle h after ready leaves_open = (refl, refl)
connected_acts state.Connected closing gone idle h after ready leaves_open =
    heard_other closing gone state.Connected state.Connected (λ e. tt) (states_differ state.Connected state.Closed (omega arith))
connected_acts state.Closing closing gone idle h after ready leaves_open =
    heard_other closing gone state.Closing state.Connected (λ e. absurd (let low = leaves_open e in omega arith)) (states_differ state.Connected state.Closed (omega arith))
connected_acts state.Closed closing gone idle h after ready leaves_open = absurd (omega arith)
connected_acts other closing gone idle h after ready leaves_open = absurd h

closing_acts : (own : BusState) (closing gone idle : Bool) → ActsFor (on_closing own idle) own closing gone idle state.Closing
closing_acts state.Initialised closing gone false = (refl, refl)
closing_acts state.Initialised closing gone true = refl
closing_acts other closing gone idle = refl

gone_acts : (own : BusState) (closing gone idle : Bool) → ActsFor (on_gone idle 6) own closing gone idle state.Closed
gone_acts own closing gone true = (refl, refl)
gone_acts own closing gone false = (refl, refl, refl)

-- each action is taken where it may be
pub front_acts : (b own : BusState) (closing gone idle : Bool) → IsBackState b → IsFrontState own → state_needs own ≤ state_number b
    → (4 ≤ state_number b → 3 ≤ state_number own) → (closing ≡ false → state_number own < 5)
    → ActsFor (front_action own closing idle (Some b)) own closing gone idle b
front_acts state.Initialising own closing gone idle hb h after connected leaves_open =
    heard_other closing gone own state.Initialising (λ e. start_settled own h after (leaves_open e)) (states_differ state.Initialising state.Closed (omega arith))
front_acts state.InitWait own true gone true hb h after connected leaves_open =
    heard_other true gone own state.InitWait (λ e. absurd (true≢false e)) (states_differ state.InitWait state.Closed (omega arith))
front_acts state.InitWait own true gone false hb h after connected leaves_open = offer_acts own true gone false h after leaves_open
front_acts state.InitWait own false gone idle hb h after connected leaves_open = offer_acts own false gone idle h after leaves_open
front_acts state.Connected own true gone true hb h after connected leaves_open =
    heard_other true gone own state.Connected (λ e. absurd (true≢false e)) (states_differ state.Connected state.Closed (omega arith))
front_acts state.Connected own true gone false hb h after connected leaves_open = connected_acts own true gone false h after (connected (omega arith)) leaves_open
front_acts state.Connected own false gone idle hb h after connected leaves_open = connected_acts own false gone idle h after (connected (omega arith)) leaves_open
front_acts state.Closing own closing gone idle hb h after connected leaves_open = closing_acts own closing gone idle
front_acts state.Closed own closing gone idle hb h after connected leaves_open = gone_acts own closing gone idle
front_acts other own closing gone idle hb h after connected leaves_open = absurd hb
