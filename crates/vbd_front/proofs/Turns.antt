-- Whose turn it is: what is asked and done then is what the frontend asks and does.
use Rattle.std.proofs.Common.{◌≡◌, ℕ, ◌==◌, Bool, true, false, not, ◌&&◌, ◌||◌, if◌then◌else◌, refl, sym, ap, ◌∙◌, subst}
use Rattle.std.specs.Prelude.{Option, Some, None, IsSome}
use Rattle.blk_base.specs.declared.ask.FrontAsk.{FrontAsk}
use Rattle.blk_base.specs.declared.ask.FrontAsk.TheVariants as ask
use Rattle.blk_base.specs.declared.ask.FrontAnswer.{FrontAnswer}
use Rattle.blk_base.specs.declared.ask.FrontAnswer.TheVariants as answer
use Rattle.ring_words.specs.Ring.{responses_of}
use Rattle.blk_front.specs.declared.request.Request.{Request}
use Rattle.blk_front.specs.declared.request.Transfer.{Transfer}
use Rattle.blk_front.specs.declared.request.Transfer.TheVariants as transfer
use Rattle.blk_front.specs.declared.stage.Ending.{Ending}
use Rattle.blk_front.specs.declared.stage.FrontStage.{FrontStage}
use Rattle.blk_front.specs.declared.stage.FrontStage.TheVariants as stage
use Rattle.blk_front.specs.Request.{is_indirect}
use Rattle.blk_front.specs.View.{View as Ring, next_request, ring_frame, slot_frame, slot_word, entry_frame, entry_word}
use Rattle.blk_front.specs.Ask as ring
use Rattle.blk_front.specs.Keep as keep
use Rattle.blk_front.specs.Suspend.{is_left}
use Rattle.blk_front.specs.Submit.{is_connected, is_led, is_wait}
use Rattle.xenbus_state.specs.declared.stage.FrontBusStage.{FrontBusStage}
use Rattle.xenbus_state.specs.declared.stage.FrontBusStage.TheVariants as bus_stage
use Rattle.xenbus_state.specs.declared.front.FrontBusAsk.{FrontBusAsk}
use Rattle.xenbus_state.specs.declared.front.FrontBusAsk.TheVariants as bus_ask
use Rattle.xenbus_state.specs.FrontView.{FrontView}
use Rattle.xenbus_state.specs.FrontAsk as bus
use Rattle.vbd_front.specs.declared.turn.Turn.{Turn}
use Rattle.vbd_front.specs.declared.turn.Turn.TheVariants as turn
use Rattle.vbd_front.specs.View.{View, is_unoccupied, is_broken}
use Rattle.vbd_front.specs.Ask.{speaks, key_ask, ring_moves, bus_ask_of, IsAnswer}
use Rattle.vbd_front.specs.Step.{IsHeard, woken}
use Rattle.vbd_front.specs.Keep.{KeepingView, ring_ask_as, ask_as_at, ask_as, spoken_as, ring_step_as, step_as_at, step_as, with_ring}
use Rattle.vbd_front.specs.Turn.{turn_at, turn_of}
use Rattle.vbd_front.proofs.Stays.{stays}

-- at no turn but that of keys the negotiation speaks
pub silent : (a : FrontBusAsk) (c m : Bool) → (turn_at a c m ≡ turn.Keys → ⊥) → speaks a ≡ false
silent bus_ask.Watch c m n = absurd (n refl)
silent bus_ask.GetState c m n = absurd (n refl)
silent (bus_ask.GetKey key) c m n = absurd (n refl)
silent (bus_ask.SetState s) c m n = absurd (n refl)
silent (bus_ask.SetKey key value) c m n = absurd (n refl)
silent a c m n = refl

asks_at : (a : FrontBusAsk) (v : View) → speaks a ≡ false → ring_moves a v.ring.stage ≡ true → ask_as_at a v ≡ keep.ask_as v.ring
asks_at a v e m = ap (λ (b : Bool). if b then key_ask a else ring_ask_as (ring_moves a v.ring.stage) v.ring) e ∙ ap (λ (b : Bool). ring_ask_as b v.ring) m

pub ring_asks : (k : KeepingView) → (turn_of k.ends ≡ turn.Keys → ⊥) → ring_moves (bus_ask_of k.ends) k.ends.ring.stage ≡ true → ask_as k ≡ keep.ask_as k.ends.ring
ring_asks k n m = asks_at (bus_ask_of k.ends) k.ends (silent (bus_ask_of k.ends) k.ends.bus.closing (is_connected k.ends.ring.stage) n) m

pub ring_steps : (k : KeepingView) (x : FrontAnswer) (b : Bool) → (turn_of k.ends ≡ turn.Keys → ⊥) → ring_moves (bus_ask_of k.ends) k.ends.ring.stage ≡ b
    → step_as k x ≡ record k { ends = ring_step_as b k.keeps (bus_ask_of k.ends) k.ends x }
ring_steps k x b n m =
    let v : View = k.ends in
    ap (λ (s : Bool). record k { ends = if s then spoken_as k.keeps v x else ring_step_as (ring_moves (bus_ask_of v) v.ring.stage) k.keeps (bus_ask_of v) v x }) (silent (bus_ask_of v) v.bus.closing (is_connected v.ring.stage) n)
    ∙ ap (λ (c : Bool). record k { ends = ring_step_as c k.keeps (bus_ask_of v) v x }) m

-- the ring's end asks for no key
abbrev IsOfRing : FrontAsk → Type 0
IsOfRing (ask.GetKey path) = ⊥
IsOfRing (ask.SetKey path text) = ⊥
IsOfRing (ask.Watch path) = ⊥
IsOfRing a = Unit {0}

either : (b : Bool) (x y : FrontAsk) → IsOfRing x → IsOfRing y → IsOfRing (if b then x else y)
either true x y p q = p
either false x y p q = q

data_of_ring : (next : Option Request) (n : ℕ) → IsOfRing (ring.data_ask next n)
data_of_ring None n = tt
data_of_ring (Some r) n = tt

page_of_ring : (next : Option Request) (n : ℕ) → IsOfRing (ring.page_ask next n)
page_of_ring None n = tt
page_of_ring (Some r) n = tt

name_of_ring : (next : Option Request) (place : ℕ) → IsOfRing (ring.name_ask next place)
name_of_ring None place = tt
name_of_ring (Some r) place = tt

grant_of_ring : (keeps : Bool) (next : Option Request) (place : ℕ) → IsOfRing (keep.grant_ask_as keeps next place)
grant_of_ring keeps None place = tt
grant_of_ring keeps (Some r) place = tt

kept_of_ring : (keeps : Bool) (x : FrontAsk) → IsOfRing x → IsOfRing (if keeps then x else ask.Wait)
kept_of_ring keeps x h = either keeps x ask.Wait h tt

revoke_of_ring : (ending : Option Ending) (place : ℕ) → IsOfRing (ring.revoke_ask ending place)
revoke_of_ring None place = tt
revoke_of_ring (Some e) place = tt

end_of_ring : (ending : Option Ending) (place before : ℕ) → IsOfRing (ring.end_ask ending place before)
end_of_ring None place before = tt
end_of_ring (Some e) place before = tt

read_of_ring : (ending : Option Ending) (n : ℕ) → IsOfRing (ring.read_ask ending n)
read_of_ring None n = tt
read_of_ring (Some e) n = tt

begun_of_ring : (v : Ring) (r : Request) (place : Option ℕ) → IsOfRing (keep.name_or_enter v r place)
begun_of_ring v r (Some place) = tt
begun_of_ring v r None = tt

issue_of_ring : (v : Ring) (r : Request) (way : Transfer) → IsOfRing (keep.issue_ask_as v r way)
issue_of_ring v r (transfer.Write tag) = tt
issue_of_ring v r (transfer.Barrier tag) = tt
issue_of_ring v r transfer.Read = either (is_indirect r.count) (ring.page_ask (Some r) 0) (keep.name_or_enter v r (keep.first_place v r)) tt (begun_of_ring v r (keep.first_place v r))
issue_of_ring v r transfer.Flush = tt
issue_of_ring v r (transfer.Discard sectors) = tt

loop_of_ring : (v : Ring) (next : Option Request) → IsOfRing (keep.loop_ask_as v next)
loop_of_ring v (Some r) = issue_of_ring v r r.transfer
loop_of_ring v None =
    let read = if responses_of v.ring.indices v.ring.seen == 0 then ask.Read ring_frame 2 else ask.Read (slot_frame v.shape v.ring.indices.cons 0) (slot_word v.shape v.ring.indices.cons 0) in
    either (v.ring.asleep || ring.is_through v) ask.Wait read tt (either (responses_of v.ring.indices v.ring.seen == 0) (ask.Read ring_frame 2) (ask.Read (slot_frame v.shape v.ring.indices.cons 0) (slot_word v.shape v.ring.indices.cons 0)) tt tt)

of_ring : (s : FrontStage) (v : Ring) → IsOfRing (keep.ask_as_at s v)
of_ring stage.Loop v = loop_of_ring v (next_request v)
of_ring (stage.Data n) v = data_of_ring (next_request v) n
of_ring (stage.Pages n) v = page_of_ring (next_request v) n
of_ring (stage.GrantFrame place) v = name_of_ring (next_request v) place
of_ring (stage.GrantFlags place) v = grant_of_ring v.offers.persistent (next_request v) place
of_ring (stage.GrantRead place) v = revoke_of_ring v.ending place
of_ring (stage.GrantEnd place before) v = end_of_ring v.ending place before
of_ring (stage.ReadData n) v = read_of_ring v.ending n
of_ring (stage.LeftData n) v = read_of_ring v.ending n
of_ring (stage.KeptRead frame) v = kept_of_ring v.offers.persistent (ask.Read (entry_frame frame) (entry_word frame)) tt
of_ring (stage.KeptEnd frame seen) v = kept_of_ring v.offers.persistent (ask.Cas (entry_frame frame) (entry_word frame) seen 0) tt
of_ring s v = tt

narrowed : (a : FrontAsk) (x : FrontAnswer) → IsOfRing a → IsAnswer a x → ring.IsAnswer a x
narrowed (ask.GetKey path) x r h = absurd r
narrowed (ask.SetKey path text) x r h = absurd r
narrowed (ask.Watch path) x r h = absurd r
narrowed a x r h = h

pub ring_answers : (k : KeepingView) (x : FrontAnswer) → (turn_of k.ends ≡ turn.Keys → ⊥) → ring_moves (bus_ask_of k.ends) k.ends.ring.stage ≡ true → IsAnswer (ask_as k) x → ring.IsAnswer (keep.ask_as k.ends.ring) x
ring_answers k x n m h = narrowed (keep.ask_as k.ends.ring) x (of_ring k.ends.ring.stage k.ends.ring) (subst (λ a. IsAnswer a x) (ring_asks k n m) h)

-- an answer to a move that the negotiation asked for is of the kind that it knows
heard_at : (b : FrontBusAsk) (s : FrontStage) (v : Ring) (x : FrontAnswer) → ring_moves b s ≡ true → ring.IsAnswer (keep.ask_as_at s v) x → IsHeard b x
heard_at (bus_ask.WriteRingWord word) (stage.RingWord k) v answer.Done m h = tt
heard_at (bus_ask.WriteRingWord word) (stage.RingWord k) v x m h = absurd h
heard_at (bus_ask.WriteRingWord word) s v x m h = absurd (cc)
heard_at (bus_ask.Grant page) (stage.RingFrame k) v answer.Done m h = tt
heard_at (bus_ask.Grant page) (stage.RingFrame k) v x m h = absurd h
heard_at (bus_ask.Grant page) (stage.RingFence k) v answer.Done m h = tt
heard_at (bus_ask.Grant page) (stage.RingFence k) v x m h = absurd h
heard_at (bus_ask.Grant page) (stage.RingFlags k) v answer.Done m h = tt
heard_at (bus_ask.Grant page) (stage.RingFlags k) v x m h = absurd h
heard_at (bus_ask.Grant page) s v x m h = absurd (cc)
heard_at bus_ask.NewPort stage.NewPort v (answer.Port port) m h = tt
heard_at bus_ask.NewPort stage.NewPort v x m h = absurd h
heard_at bus_ask.NewPort s v x m h = absurd (cc)
heard_at bus_ask.ClosePort stage.ClosePort v answer.Done m h = tt
heard_at bus_ask.ClosePort stage.ClosePort v x m h = absurd h
heard_at bus_ask.ClosePort s v x m h = absurd (cc)
heard_at b s v x m h = tt

pub heard : (v : View) (x : FrontAnswer) → ring_moves (bus_ask_of v) v.ring.stage ≡ true → ring.IsAnswer (keep.ask_as v.ring) x → IsHeard (bus_ask_of v) x
heard v x m h = heard_at (bus_ask_of v) v.ring.stage v.ring x m h

-- the ring's turn: the negotiation asks for nothing and doesn't close, and the ring is made
ring_turn : (a : FrontBusAsk) (c m : Bool) → turn_at a c m ≡ turn.Ring → (a ≡ bus_ask.Wait) × (c ≡ false) × (m ≡ true)
ring_turn bus_ask.Wait false true t = (refl, refl, refl)
ring_turn bus_ask.Wait false false t = absurd (cc)
ring_turn bus_ask.Wait true m t = absurd (cc)
ring_turn a c m t = absurd (cc)

turn_is : (v : View) → turn_of v ≡ turn.Ring → (bus_ask_of v ≡ bus_ask.Wait) × (v.bus.closing ≡ false) × (is_connected v.ring.stage ≡ true)
turn_is v t = ring_turn (bus_ask_of v) v.bus.closing (is_connected v.ring.stage) t

-- then the ring's end has the move
connected_moves : (s : FrontStage) → is_connected s ≡ true → ring_moves bus_ask.Wait s ≡ true
connected_moves (stage.LeftData n) made = refl
connected_moves s made = made

pub made_asks : (k : KeepingView) → turn_of k.ends ≡ turn.Ring → ask_as k ≡ keep.ask_as k.ends.ring
made_asks k t =
    let whose = turn_is k.ends t in
    ap (λ (a : FrontBusAsk). ask_as_at a k.ends) whose.0 ∙ ap (λ (b : Bool). ring_ask_as b k.ends.ring) (connected_moves k.ends.ring.stage whose.2)

-- while data are in hand the negotiation asks nothing, and the ring's end has the move
left_asks : (v : View) → is_left v.ring.stage ≡ true → bus_ask_of v ≡ bus_ask.Wait
left_asks v e = ap (λ (b : Bool). if b then bus_ask.Wait else bus.ask_of v.bus (is_unoccupied v.ring)) e

left_moves_at : (s : FrontStage) → is_left s ≡ true → ring_moves bus_ask.Wait s ≡ true
left_moves_at (stage.LeftData n) e = refl
left_moves_at s e = absurd (cc)

-- where the negotiation speaks none are in hand
pub left_speaks : (v : View) → turn_of v ≡ turn.Keys → is_left v.ring.stage ≡ false
left_speaks v t = by_test (is_left v.ring.stage) refl
  where
    not_keys : (c m : Bool) → turn_at bus_ask.Wait c m ≡ turn.Keys → ⊥
    not_keys false true t = absurd (cc)
    not_keys false false t = absurd (cc)
    not_keys true m t = absurd (cc)

    by_test : (b : Bool) → is_left v.ring.stage ≡ b → b ≡ false
    by_test false e = refl
    by_test true e = let waits = ap (λ (a : FrontBusAsk). turn_at a v.bus.closing (is_connected v.ring.stage)) (left_asks v e) in absurd (not_keys v.bus.closing (is_connected v.ring.stage) (sym waits ∙ t))

-- the end of the ring waits exactly where it is idle or waits for its negotiation
or_none : (b : Bool) → b ≡ b || false
or_none true = refl
or_none false = refl

waits_at : (s : FrontStage) (v : Ring) → is_wait (keep.ask_as_at s v) ≡ (not (is_led s) && is_wait (keep.ask_as_at s v)) || is_led s
waits_at stage.Initialised v = refl
waits_at stage.Left v = refl
waits_at s v = or_none (is_wait (keep.ask_as_at s v))

pub idle_or_led : (v : Ring) → is_wait (keep.ask_as v) ≡ keep.is_idle_as v || is_led v.stage
idle_or_led v = waits_at v.stage v

pub made_answers : (k : KeepingView) (x : FrontAnswer) → turn_of k.ends ≡ turn.Ring → IsAnswer (ask_as k) x → ring.IsAnswer (keep.ask_as k.ends.ring) x
made_answers k x t h = narrowed (keep.ask_as k.ends.ring) x (of_ring k.ends.ring.stage k.ends.ring) (subst (λ (a : FrontAsk). IsAnswer a x) (made_asks k t) h)

-- no watch is taken
abbrev pub is_plain : FrontAnswer → Bool
is_plain (answer.Watched path) = false
is_plain x = true

pub not_woken : (broken idle : Bool) (w : FrontView) (x : FrontAnswer) → is_plain x ≡ true → woken broken idle w x ≡ w
not_woken true idle w x p = refl
not_woken false idle w (answer.Watched path) p = absurd (cc)
not_woken false idle w x p = refl

pub made_steps : (k : KeepingView) (x : FrontAnswer) → turn_of k.ends ≡ turn.Ring → is_plain x ≡ true → step_as k x ≡ with_ring k (keep.step_as k.ends.ring x)
made_steps k x t p =
    let v : View = k.ends in
    let whose = turn_is v t in
    let r : Ring = keep.step_as v.ring x in
    ap (λ (a : FrontBusAsk). record k { ends = step_as_at k.keeps a v x }) whose.0
    ∙ (ap (λ (b : Bool). record k { ends = ring_step_as b k.keeps bus_ask.Wait v x }) (connected_moves v.ring.stage whose.2)
    ∙ ap (λ (w : FrontView). record k { ends = record v { ring = r; bus = w } }) (not_woken (is_broken r.stage) (is_unoccupied v.ring) v.bus x p))

-- while data are in hand the ring's end reads a word of them, and the negotiation learns nothing
left_plain : (s : FrontStage) (v : Ring) (x : FrontAnswer) → is_left s ≡ true → IsSome v.ending → ring.IsAnswer (keep.ask_as_at s v) x → is_plain x ≡ true
left_plain (stage.LeftData n) v x e some h = by_read v.ending x some h
  where
    by_read : (ending : Option Ending) (x : FrontAnswer) → IsSome ending → ring.IsAnswer (ring.read_ask ending n) x → is_plain x ≡ true
    by_read None x some h = absurd (cc)
    by_read (Some r) (answer.Watched path) some h = absurd h
    by_read (Some r) x some h = refl
left_plain s v x e some h = absurd (cc)

pub left_answers : (k : KeepingView) (x : FrontAnswer) → is_left k.ends.ring.stage ≡ true → IsAnswer (ask_as k) x → ring.IsAnswer (keep.ask_as k.ends.ring) x
left_answers k x e h =
    let v : View = k.ends in
    let asks : ask_as k ≡ keep.ask_as v.ring = ap (λ (a : FrontBusAsk). ask_as_at a v) (left_asks v e) ∙ ap (λ (b : Bool). ring_ask_as b v.ring) (left_moves_at v.ring.stage e) in
    narrowed (keep.ask_as v.ring) x (of_ring v.ring.stage v.ring) (subst (λ (a : FrontAsk). IsAnswer a x) asks h)

pub left_steps : (k : KeepingView) (x : FrontAnswer) → is_left k.ends.ring.stage ≡ true → IsSome k.ends.ring.ending → IsAnswer (ask_as k) x → step_as k x ≡ with_ring k (keep.step_as k.ends.ring x)
left_steps k x e some h =
    let v : View = k.ends in
    let r : Ring = keep.step_as v.ring x in
    ap (λ (a : FrontBusAsk). record k { ends = step_as_at k.keeps a v x }) (left_asks v e)
    ∙ (ap (λ (b : Bool). record k { ends = ring_step_as b k.keeps bus_ask.Wait v x }) (left_moves_at v.ring.stage e)
    ∙ ap (λ (w : FrontView). record k { ends = record v { ring = r; bus = w } }) (not_woken (is_broken r.stage) (is_unoccupied v.ring) v.bus x (left_plain v.ring.stage v.ring x e some (left_answers k x e h))))

-- what a negotiation that doesn't close asks is the same, whether a request is unfinished or not
due_same : (s : FrontBusStage) (w : FrontView) (idle later : Bool) → w.closing ≡ false → bus.due_at s w idle ≡ bus.due_at s w later
due_same bus_stage.Rest w idle later c = by_closing w.closing c
  where
    by_closing : (b : Bool) → b ≡ false → (if b && idle then bus.closing_stage w.state w else bus_stage.Rest) ≡ (if b && later then bus.closing_stage w.state w else bus_stage.Rest)
    by_closing false e = refl
    by_closing true e = absurd (cc)
due_same s w idle later c = refl

busy_same : (v w : View) → v.bus.closing ≡ false → w.bus ≡ v.bus → bus.ask_of w.bus (is_unoccupied w.ring) ≡ bus.ask_of v.bus (is_unoccupied v.ring)
busy_same v w c e = ap (λ (b : FrontView). bus.ask_of b (is_unoccupied w.ring)) e ∙ ap (λ (s : FrontBusStage). bus.ask_at s v.bus) (due_same v.bus.stage v.bus (is_unoccupied w.ring) (is_unoccupied v.ring) c)

-- no data are in hand where the ring is made, and the negotiation asks what it has to ask
made_none : (s : FrontStage) → is_connected s ≡ true → is_left s ≡ false
made_none (stage.LeftData n) made = absurd (cc)
made_none s made = refl

none_left : (v : View) → is_connected v.ring.stage ≡ true → bus_ask_of v ≡ bus.ask_of v.bus (is_unoccupied v.ring)
none_left v made = ap (λ (b : Bool). if b then bus_ask.Wait else bus.ask_of v.bus (is_unoccupied v.ring)) (made_none v.ring.stage made)

asks_same : (v w : View) → v.bus.closing ≡ false → w.bus ≡ v.bus → is_connected v.ring.stage ≡ true → is_connected w.ring.stage ≡ true → bus_ask_of w ≡ bus_ask_of v
asks_same v w c e here there = none_left w there ∙ (busy_same v w c e ∙ sym (none_left v here))

-- the ring's end has the move again, and the negotiation asks for the same
abbrev pub moved : View → FrontAnswer → View
moved v x = record v { ring = keep.step_as v.ring x }

again : (v : View) (x : FrontAnswer) → turn_of v ≡ turn.Ring → turn_of (moved v x) ≡ turn.Ring
again v x t =
    let whose = turn_is v t in
    let made : is_connected (moved v x).ring.stage ≡ true = stays v.ring.stage v.ring x whose.2 whose.2 in
    let asked : bus_ask_of (moved v x) ≡ bus_ask.Wait = asks_same v (moved v x) whose.1 refl whose.2 made ∙ whose.0 in
    ap (λ (a : FrontBusAsk). turn_at a v.bus.closing (is_connected (moved v x).ring.stage)) asked
    ∙ (ap (λ (c : Bool). turn_at bus_ask.Wait c (is_connected (moved v x).ring.stage)) whose.1 ∙ ap (λ (m : Bool). turn_at bus_ask.Wait false m) made)

pub keeps_turn : (u : Turn) (k l : KeepingView) (x : FrontAnswer) → u ≡ turn.Ring → u ≡ turn_of k.ends → l ≡ with_ring k (keep.step_as k.ends.ring x) → u ≡ turn_of l.ends
keeps_turn u k l x r known m = r ∙ sym (ap (λ (n : KeepingView). turn_of n.ends) m ∙ again k.ends x (sym known ∙ r))

pub keeps_ask : (u : Turn) (k l : KeepingView) (x : FrontAnswer) → u ≡ turn.Ring → u ≡ turn_of k.ends → l ≡ with_ring k (keep.step_as k.ends.ring x) → bus_ask_of k.ends ≡ bus_ask_of l.ends
keeps_ask u k l x r known m =
    let whose = turn_is k.ends (sym known ∙ r) in
    sym (ap (λ (n : KeepingView). bus_ask_of n.ends) m ∙ asks_same k.ends (moved k.ends x) whose.1 refl whose.2 (stays k.ends.ring.stage k.ends.ring x whose.2 whose.2))
