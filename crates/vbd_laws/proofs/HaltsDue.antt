-- The back's negotiation halts exactly where the lines say so.
use Rattle.std.proofs.Common.{◌≡◌, ℕ, Bool, true, false, not, if◌then◌else◌, List, refl, sym, ap, ◌∙◌}
use Rattle.std.specs.Prelude.{Option, Some, None, ◌==◌, is_none}
use Rattle.std.specs.Option.{option_map}
use Rattle.blk_base.specs.declared.moves.Move.{Move}
use Rattle.blk_base.specs.declared.moves.Move.TheVariants as moves
use Rattle.blk_base.specs.declared.moves.Mover.TheVariants as mover
use Rattle.blk_base.specs.declared.halt.Halt.{Halt}
use Rattle.schedule_text.specs.declared.line.Line.TheVariants as lines
use Rattle.xenbus_state.specs.declared.keys.FrontKey.{FrontKey}
use Rattle.xenbus_state.specs.declared.keys.FrontKey.TheVariants as key
use Rattle.xenbus_state.specs.declared.state.BusState.{BusState}
use Rattle.xenbus_state.specs.declared.state.BusState.TheVariants as state
use Rattle.xenbus_state.specs.declared.stage.BackBusStage.TheVariants as stage
use Rattle.xenbus_state.specs.declared.table.BackAction.{BackAction}
use Rattle.xenbus_state.specs.declared.table.BackAction.TheVariants as action
use Rattle.xenbus_state.specs.declared.table.BackHalt.{BackHalt}
use Rattle.xenbus_state.specs.declared.table.BackHalt.TheVariants as why
use Rattle.xenbus_state.specs.States.{state_number}
use Rattle.xenbus_state.specs.Numbers.{number_of}
use Rattle.xenbus_state.specs.Tables.{is_connected, bad_order, front_gone, back_action}
use Rattle.xenbus_state.specs.Reading.{count_read}
use Rattle.xenbus_state.specs.BackReading.{order_of, layout_read, key_read}
use Rattle.xenbus_state.specs.BackView.{BackView}
use Rattle.xenbus_state.specs.BackStep.{at, action_halt, key_halt as read_halts}
use Rattle.vbd_back.specs.Step.{ring_halt}
use Rattle.negotiation_laws.specs.Negotiation.{front_path}
use Rattle.vbd_laws.specs.Halts.{BackSight, state_halt, is_bad_text, key_halt, due_after, halt_shown, IsWorded}
use Rattle.vbd_laws.proofs.HaltsKeys.{IsReadKey, read_key}

-- the halt that a reason shows, and its word
abbrev pub reason_shown : Option BackHalt → Option Halt
reason_shown None = None
reason_shown (Some x) = halt_shown (lines.Halt (ring_halt x))

-- the halt is the one that is due after the move, with its word
abbrev pub IsWordedReason : (asked : Bool) → Option BackHalt → Type 0
IsWordedReason asked None = Unit {0}
IsWordedReason asked (Some x) = IsWorded asked (lines.Halt (ring_halt x))

pub record Due (asked : Bool) (k : BackSight) (shown : Move) (reason : Option BackHalt) : Type 0 where
  pub due : reason_shown reason ≡ due_after k (lines.Move shown)
  pub word : IsWordedReason asked reason

pub none_due : (asked : Bool) (k : BackSight) (shown : Move) → due_after k (lines.Move shown) ≡ None → Due asked k shown None
none_due asked k shown none = record { due = sym none; word = tt }

-- it reads the front's state, and does what the table says
either_due : (connected b : Bool) → connected ≡ b → reason_shown (action_halt (if b then bad_order state.Initialising else action.Nothing)) ≡ state_halt connected (Some 1)
either_due connected true e = rw e refl
either_due connected false e = rw e refl

both_none : (connected b : Bool) (n : ℕ) → reason_shown (action_halt (if b then action.Nothing else action.Connect)) ≡ None
both_none connected true n = refl
both_none connected false n = refl

gone_shown : (b : Bool) (s : BusState) → reason_shown (action_halt (front_gone b s)) ≡ halt_shown (lines.Halt (ring_halt (why.Gone s)))
gone_shown true s = refl
gone_shown false s = refl

pub state_due : (own : BusState) (b connected : Bool) (said : Option BusState) → connected ≡ is_connected own → reason_shown (action_halt (back_action own b said)) ≡ state_halt connected (option_map state_number said)
state_due own b connected None same = refl
state_due own b connected (Some state.Initialising) same = either_due connected (is_connected own) same
state_due own b connected (Some state.InitWait) same = refl
state_due own b connected (Some state.Initialised) same = both_none connected (is_connected own) 3 ∙ sym (elim connected as (λ b. state_halt b (Some 3) ≡ None) [ true ↦ refl | false ↦ refl ])
state_due own b connected (Some state.Connected) same = both_none connected (is_connected own) 4 ∙ sym (elim connected as (λ b. state_halt b (Some 4) ≡ None) [ true ↦ refl | false ↦ refl ])
state_due own b connected (Some state.Closing) same = gone_shown b state.Closing
state_due own b connected (Some state.Closed) same = gone_shown b state.Closed
state_due own b connected (Some state.Unknown) same = gone_shown b state.Unknown
state_due own b connected (Some state.Reconfiguring) same = refl
state_due own b connected (Some state.Reconfigured) same = refl

gone_word : (b : Bool) (s : BusState) → IsWordedReason b (action_halt (front_gone b s))
gone_word true s = refl
gone_word false s = refl

either_word : (asked c : Bool) (x y : BackAction) → IsWordedReason asked (action_halt x) → IsWordedReason asked (action_halt y) → IsWordedReason asked (action_halt (if c then x else y))
either_word asked true x y p q = p
either_word asked false x y p q = q

pub state_word : (own : BusState) (b : Bool) (said : Option BusState) → IsWordedReason b (action_halt (back_action own b said))
state_word own b None = tt
state_word own b (Some state.Initialising) = either_word b (is_connected own) (bad_order state.Initialising) action.Nothing tt tt
state_word own b (Some state.InitWait) = tt
state_word own b (Some state.Initialised) = either_word b (is_connected own) action.Nothing action.Connect tt tt
state_word own b (Some state.Connected) = either_word b (is_connected own) action.Nothing action.Connect tt tt
state_word own b (Some state.Closing) = gone_word b state.Closing
state_word own b (Some state.Closed) = gone_word b state.Closed
state_word own b (Some state.Unknown) = gone_word b state.Unknown
state_word own b (Some state.Reconfiguring) = tt
state_word own b (Some state.Reconfigured) = tt

-- it reads another key, whose text is bad exactly where nothing is made of it
by_read : {A : Type 0} (k : FrontKey) (n : Option A) (f : A → BackView) → reason_shown (read_halts k (option_map f n)) ≡ (if is_none n then reason_shown (Some (why.BadKey k)) else None)
by_read k None f = refl
by_read k (Some n) f = refl

abbrev bad_shown : (order : ℕ) (k : FrontKey) (text : Option (List ℕ)) → Option Halt
bad_shown order k text = if is_bad_text order k text then reason_shown (Some (why.BadKey k)) else None

read_bad : (k : FrontKey) (text : Option (List ℕ)) (v : BackView) → reason_shown (read_halts k (key_read k text v)) ≡ bad_shown v.terms.order k text
read_bad key.RingPageOrder None v = refl
read_bad key.RingPageOrder (Some text) v = by_read key.RingPageOrder (order_of (number_of text)) _
read_bad (key.RingRefOf page) None v = by_order (v.terms.order == 0)
  where
    by_order : (b : Bool) → reason_shown (read_halts (key.RingRefOf page) (if b then Some (at (stage.ReadKey key.RingRef) v) else None)) ≡ (if not b then reason_shown (Some (why.BadKey (key.RingRefOf page))) else None)
    by_order true = refl
    by_order false = refl
read_bad (key.RingRefOf page) (Some text) v = by_read (key.RingRefOf page) (number_of text) _
read_bad key.RingRef (Some text) v = by_read key.RingRef (number_of text) _
read_bad key.EventChannel (Some text) v = by_read key.EventChannel (number_of text) _
read_bad key.Protocol text v = by_read key.Protocol (layout_read text) _
read_bad key.FeaturePersistent text v = by_read key.FeaturePersistent (count_read text) _
read_bad other None v = refl

-- such a key has no other word
key_word : (asked : Bool) (k : FrontKey) (w : Option BackView) → IsWordedReason asked (read_halts k w)
key_word asked k None = tt
key_word asked k (Some w) = tt

pub key_due : (asked : Bool) (known : BackSight) (k : FrontKey) (text : Option (List ℕ)) (v : BackView) → known.order ≡ v.terms.order → IsReadKey k → Due asked known (moves.GetKey mover.Back (front_path k) text) (read_halts k (key_read k text v))
key_due asked known k text v same is = record {
  due = read_bad k text v ∙ (ap (λ (n : ℕ). key_halt n (Some k) text) (sym same) ∙ sym (read_key k known text is));
  word = key_word asked k (key_read k text v);
}
