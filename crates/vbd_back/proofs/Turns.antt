-- Whose turn it is: what is asked and done then is what the backend asks and does.
use Rattle.std.proofs.Common.{◌≡◌, ℕ, Bool, true, false, if◌then◌else◌, List, [], ◌∷◌, refl, sym, subst, ap, ◌∙◌}
use Rattle.std.specs.Prelude.{Option, Some, None, is_some, ◌==◌}
use Rattle.blk_base.specs.declared.parts.Mapping.{Mapping}
use Rattle.blk_base.specs.declared.ask.BackAsk.{BackAsk}
use Rattle.blk_base.specs.declared.ask.BackAsk.TheVariants as ask
use Rattle.blk_base.specs.declared.ask.BackAnswer.{BackAnswer}
use Rattle.blk_base.specs.declared.ask.BackAnswer.TheVariants as answer
use Rattle.ring_words.specs.Ring.{requests_of}
use Rattle.back_jobs.specs.Hands.{HandsAfter}
use Rattle.blk_back.specs.declared.stage.Reply.{Reply}
use Rattle.blk_back.specs.declared.stage.BackStage.{BackStage}
use Rattle.blk_back.specs.declared.stage.BackStage.TheVariants as stage
use Rattle.blk_base.specs.declared.halt.Halt.{Halt}
use Rattle.blk_back.specs.View as ring
use Rattle.blk_back.specs.Ask as ring_ask
use Rattle.blk_back.specs.Keeping as keeping
use Rattle.blk_back.specs.Hands.{hands_of}
use Rattle.blk_back.proofs.Hands.{hands_after, halted_hands, attached_hands}
use Rattle.xenbus_state.specs.declared.table.BackHalt.{BackHalt}
use Rattle.xenbus_state.specs.declared.back.BackBusAsk.{BackBusAsk}
use Rattle.xenbus_state.specs.declared.back.BackBusAsk.TheVariants as bus_ask
use Rattle.xenbus_state.specs.BackView.{BackView}
use Rattle.xenbus_state.specs.BackStep as bus_step
use Rattle.vbd_back.specs.declared.turn.Turn.{Turn}
use Rattle.vbd_back.specs.declared.turn.Turn.TheVariants as turn
use Rattle.vbd_back.specs.View.{View, both}
use Rattle.vbd_back.specs.Ask.{bus_ask_of, bus_moves, key_ask, ring_moves, ring_ask, ask_at, ask_of, IsAnswer}
use Rattle.vbd_back.specs.Step.{ring_halt, shape_read, reads_layout, ring_led, bus_halted, settled, halt_of, spoken, woken, caught_up, ring_step, step_of, IsHeard, is_plain}
use Rattle.vbd_back.specs.Keeping.{KeepingView, spoken_keeping, ring_step_keeping, step_keeping_at, step_keeping}
use Rattle.vbd_back.specs.Turn.{turn_left, turn_at, turn_of}
use Rattle.vbd_back.proofs.Settling.{settled_waits}

-- at no turn but that of keys the negotiation has the move
silent_at : (b : Bool) (t : Turn) → ((if b then turn.Keys else t) ≡ turn.Keys → ⊥) → b ≡ false
silent_at true t n = absurd (n refl)
silent_at false t n = refl

silent : (v : View) → (turn_of v ≡ turn.Keys → ⊥) → bus_moves (bus_ask_of v) v.ring.stage ≡ false
silent v n = silent_at (bus_moves (bus_ask_of v) v.ring.stage) (turn_left (bus_ask_of v) v.ring.stage) n

-- where the ring's end has the move its ask is asked
asks_at : (a : BackBusAsk) (v : View) → bus_moves a v.ring.stage ≡ false → ring_moves a v.ring.stage ≡ true → ask_at a v ≡ ring_ask.ask_of v.ring
asks_at a v e m = ap (λ (b : Bool). if b then key_ask a else ring_ask (ring_moves a v.ring.stage) v) e ∙ ap (λ (b : Bool). ring_ask b v) m

pub ring_asks : (v : View) → (turn_of v ≡ turn.Keys → ⊥) → ring_moves (bus_ask_of v) v.ring.stage ≡ true → ask_of v ≡ ring_ask.ask_of v.ring
ring_asks v n m = asks_at (bus_ask_of v) v (silent v n) m

-- what the ring's end asks names no key
abbrev pub names_none : BackAsk → Bool
names_none (ask.GetKey path) = false
names_none (ask.SetKey path text) = false
names_none (ask.Watch path) = false
names_none a = true

either_none : (c : Bool) (x y : BackAsk) → names_none x ≡ true → names_none y ≡ true → names_none (if c then x else y) ≡ true
either_none true x y p q = p
either_none false x y p q = q

loop_none : (v : ring.View) (r : Option Reply) → names_none (ring_ask.loop_ask v r) ≡ true
loop_none v (Some r) = refl
loop_none v None =
    either_none v.ring.asleep ask.Wait (if requests_of v.ring.indices v.ring.seen == 0 then ring_ask.index_ask v 0 else ring_ask.entry_ask v 0) refl
    (either_none (requests_of v.ring.indices v.ring.seen == 0) (ring_ask.index_ask v 0) (ring_ask.entry_ask v 0) refl refl)

unmap_none : (pages : List Mapping) → names_none (ring_ask.unmap_ask pages) ≡ true
unmap_none [] = refl
unmap_none (page ∷ pages) = refl

pub none_at : (s : BackStage) (v : ring.View) → names_none (ring_ask.ask_at s v) ≡ true
none_at stage.Loop v = loop_none v (ring_ask.next_reply v)
none_at stage.UnmapRing v = unmap_none v.pages
none_at stage.UnmapUnbound v = unmap_none v.pages
none_at s v = refl

pub answered : (a : BackAsk) (given : BackAnswer) → names_none a ≡ true → IsAnswer a given → ring_ask.IsAnswer a given
answered (ask.GetKey path) given n h = absurd (cc)
answered (ask.SetKey path text) given n h = absurd (cc)
answered (ask.Watch path) given n h = absurd (cc)
answered a given n h = h

pub ring_answers : (v : View) (given : BackAnswer) → (turn_of v ≡ turn.Keys → ⊥) → ring_moves (bus_ask_of v) v.ring.stage ≡ true → IsAnswer (ask_of v) given → ring_ask.IsAnswer (ring_ask.ask_of v.ring) given
ring_answers v given n m h = answered (ring_ask.ask_of v.ring) given (none_at v.ring.stage v.ring) (subst (λ (a : BackAsk). IsAnswer a given) (ring_asks v n m) h)

pub ring_steps : (most : ℕ) (v : View) (x : BackAnswer) → (turn_of v ≡ turn.Keys → ⊥) → ring_moves (bus_ask_of v) v.ring.stage ≡ true → step_keeping_at most (bus_ask_of v) v x ≡ ring_step_keeping true (bus_ask_of v) v x
ring_steps most v x n m =
    ap (λ (b : Bool). if b then spoken_keeping most v x else ring_step_keeping (ring_moves (bus_ask_of v) v.ring.stage) (bus_ask_of v) v x) (silent v n)
    ∙ ap (λ (b : Bool). ring_step_keeping b (bus_ask_of v) v x) m

-- an answer to a move that the negotiation asked for is of the kind that it knows
heard_at : (b : BackBusAsk) (s : BackStage) (v : ring.View) (x : BackAnswer) → ring_moves b s ≡ true → ring_ask.IsAnswer (ring_ask.ask_at s v) x → IsHeard b x
heard_at (bus_ask.Map gref) stage.MapRing v (answer.Mapped m) r h = tt
heard_at (bus_ask.Map gref) stage.MapRing v (answer.MapRefused status) r h = tt
heard_at (bus_ask.Map gref) stage.MapRing v x r h = absurd h
heard_at (bus_ask.Map gref) s v x r h = absurd (cc)
heard_at (bus_ask.Bind port) stage.Bind v answer.Done r h = tt
heard_at (bus_ask.Bind port) stage.Bind v answer.BindRefused r h = tt
heard_at (bus_ask.Bind port) stage.Bind v x r h = absurd h
heard_at (bus_ask.Bind port) s v x r h = absurd (cc)
heard_at bus_ask.ClosePort stage.ClosePort v answer.Done r h = tt
heard_at bus_ask.ClosePort stage.ClosePort v x r h = absurd h
heard_at bus_ask.ClosePort s v x r h = absurd (cc)
heard_at b s v x r h = tt

pub heard : (b : BackBusAsk) (v : ring.View) (x : BackAnswer) → ring_moves b v.stage ≡ true → ring_ask.IsAnswer (ring_ask.ask_of v) x → IsHeard b x
heard b v x r h = heard_at b v.stage v x r h

-- the ring's turn: the negotiation asks for nothing, and the port is bound
waits_left : (a : BackBusAsk) (s : BackStage) → turn_left a s ≡ turn.Ring → a ≡ bus_ask.Wait
waits_left bus_ask.Wait s t = refl
waits_left a s t = absurd (cc)

waits_at : (b : Bool) (a : BackBusAsk) (s : BackStage) → (if b then turn.Keys else turn_left a s) ≡ turn.Ring → a ≡ bus_ask.Wait
waits_at true a s t = absurd (cc)
waits_at false a s t = waits_left a s t

pub waits : (v : View) → turn_of v ≡ turn.Ring → bus_ask_of v ≡ bus_ask.Wait
waits v t = waits_at (bus_moves (bus_ask_of v) v.ring.stage) (bus_ask_of v) v.ring.stage t

moves_at : (s : BackStage) → turn_left bus_ask.Wait s ≡ turn.Ring → ring_moves bus_ask.Wait s ≡ true
moves_at stage.InitWait t = absurd (cc)
moves_at stage.MapRing t = absurd (cc)
moves_at stage.Bind t = absurd (cc)
moves_at s t = refl

pub moves : (v : View) → turn_of v ≡ turn.Ring → ring_moves bus_ask.Wait v.ring.stage ≡ true
moves v t = moves_at v.ring.stage (ap (λ (a : BackBusAsk). turn_at a v.ring.stage) (sym (waits v t)) ∙ t)

pub open_asks : (v : View) → turn_of v ≡ turn.Ring → ask_of v ≡ ring_ask.ask_of v.ring
open_asks v t = ap (λ (a : BackBusAsk). ask_at a v) (waits v t) ∙ ap (λ (b : Bool). ring_ask b v) (moves v t)

pub open_answers : (v : View) (given : BackAnswer) → turn_of v ≡ turn.Ring → IsAnswer (ask_of v) given → ring_ask.IsAnswer (ring_ask.ask_of v.ring) given
open_answers v given t h = answered (ring_ask.ask_of v.ring) given (none_at v.ring.stage v.ring) (subst (λ (a : BackAsk). IsAnswer a given) (open_asks v t) h)

-- an answer that takes no watch is none to a negotiation that waits
not_woken : (b : BackView) (x : BackAnswer) → is_plain x ≡ true → woken b x ≡ b
not_woken b (answer.Watched path) p = absurd (cc)
not_woken b x p = refl

open_steps_at : (most : ℕ) (v : View) (x : BackAnswer) → turn_of v ≡ turn.Ring → is_plain x ≡ true → step_keeping_at most (bus_ask_of v) v x ≡ both (keeping.step_keeping v.ring x) (caught_up (keeping.step_keeping v.ring x) v.bus)
open_steps_at most v x t p =
    let r : ring.View = keeping.step_keeping v.ring x in
    ap (λ (a : BackBusAsk). step_keeping_at most a v x) (waits v t) ∙ (ap (λ (b : Bool). ring_step_keeping b bus_ask.Wait v x) (moves v t)
    ∙ ap (λ (b : BackView). both r (caught_up r b)) (not_woken v.bus x p))

pub open_steps : (k : KeepingView) (x : BackAnswer) → turn_of k.ends ≡ turn.Ring → is_plain x ≡ true
    → step_keeping k x ≡ record k { ends = both (keeping.step_keeping k.ends.ring x) (caught_up (keeping.step_keeping k.ends.ring x) k.ends.bus) }
open_steps k x t p = ap (λ (v : View). record k { ends = v }) (open_steps_at k.most k.ends x t p)

-- and stays as it is where the ring's end didn't halt
halted_none : (h : Option Halt) (b : BackView) → is_some h ≡ false → bus_halted h b ≡ b
halted_none None b n = refl
halted_none (Some why) b n = absurd (cc)

pub rests : (v : View) (r : ring.View) → turn_of v ≡ turn.Ring → is_some r.halted ≡ false → caught_up r v.bus ≡ v.bus
rests v r t n = ap (λ (b : BackView). settled r.stage b) (halted_none r.halted v.bus n) ∙ settled_waits r.stage v.bus (waits v t)

-- a key is no mapping; a halt unmaps none at once, and terms that are taken map none
key_hands : (a : BackBusAsk) (given : BackAnswer) (before after : List Mapping) → after ≡ before → HandsAfter (key_ask a) given before after
key_hands bus_ask.Watch given before after e = e
key_hands a given before after e = e

led_hands : (why : Option BackHalt) (reads : Bool) (b : BackView) (r : ring.View) → hands_of (ring_led why reads b r) ≡ hands_of r
led_hands (Some why) reads b r = halted_hands (ring_halt why) r
led_hands None true b r = attached_hands (shape_read b) b.grefs b.terms.port r
led_hands None false b r = refl

-- what the backend and its jobs hold after an answer
hands_by : (b m : Bool) (a : BackBusAsk) (v : View) (given : BackAnswer) → IsAnswer (if b then key_ask a else ring_ask m v) given
    → HandsAfter (if b then key_ask a else ring_ask m v) given (hands_of v.ring) (hands_of (if b then spoken v given else ring_step m a v given).ring)
hands_by true m a v given h = key_hands a given (hands_of v.ring) (hands_of (spoken v given).ring) (led_hands (halt_of v given) (reads_layout (bus_ask_of v)) (bus_step.step_of v.bus given) v.ring)
hands_by false true a v given h = hands_after v.ring given (answered (ring_ask.ask_of v.ring) given (none_at v.ring.stage v.ring) h)
hands_by false false a v given h = refl

pub hands_done : (v w : View) (given : BackAnswer) → w ≡ step_of v given → IsAnswer (ask_of v) given → HandsAfter (ask_of v) given (hands_of v.ring) (hands_of w.ring)
hands_done v w given e h = rw e (hands_by (bus_moves (bus_ask_of v) v.ring.stage) (ring_moves (bus_ask_of v) v.ring.stage) (bus_ask_of v) v given h)
