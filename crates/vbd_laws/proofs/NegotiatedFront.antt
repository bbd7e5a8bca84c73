-- A move of the front is a move of the negotiation, or two, or none.
use Rattle.std.proofs.Common.{◌⊎◌, inl, inr, ◌≡◌, ◌∙◌, ap, sym, subst, ℕ, ◌+◌, ◌^◌, ◌<◌, Bool, true, false, true≢false, ◌&&◌, if◌then◌else◌, List, refl, arith}
use Rattle.std.specs.Prelude.{Option, Some, None, IsSome, nat_lt, ◌==◌, length}
use Rattle.blk_base.specs.declared.parts.End.TheVariants as end
use Rattle.blk_base.specs.declared.ask.FrontAsk.{FrontAsk}
use Rattle.blk_base.specs.declared.ask.FrontAsk.TheVariants as ask
use Rattle.blk_base.specs.declared.ask.FrontAnswer.{FrontAnswer}
use Rattle.blk_base.specs.declared.ask.FrontAnswer.TheVariants as answer
use Rattle.key_directory.specs.Watches.{taken, next_watch}
use Rattle.key_directory.specs.Directory.{Directory, watches_of, with_watches}
use Rattle.hypervisor.specs.Hypervisor.{Hypervisor}
use Rattle.hypervisor.specs.Act.{FrontAct, front_act}
use Rattle.blk_front.specs.declared.stage.FrontStage.{FrontStage}
use Rattle.blk_front.specs.declared.stage.FrontStage.TheVariants as ring_stage
use Rattle.blk_front.specs.declared.stage.Ending.{Ending}
use Rattle.blk_front.specs.Suspend.{is_left}
use Rattle.ring_words.specs.Shape.{entry_words_of}
use Rattle.blk_front.specs.View as ring
use Rattle.blk_front.specs.Ask as ring_ask
use Rattle.blk_front.specs.Step as ring_step
use Rattle.blk_front.specs.Request.{words_in, is_indirect, naming_words}
use Rattle.blk_front.specs.declared.request.Request.{Request}
use Rattle.blk_front.specs.declared.request.Transfer.{Transfer}
use Rattle.blk_front.specs.declared.request.Transfer.TheVariants as transfer
use Rattle.xen_pages.specs.Pages.{word_of}
use Rattle.xenbus_state.specs.declared.state.BusState.{BusState}
use Rattle.xenbus_state.specs.declared.state.BusState.TheVariants as state
use Rattle.xenbus_state.specs.declared.stage.FrontBusStage.{FrontBusStage}
use Rattle.xenbus_state.specs.declared.stage.FrontBusStage.TheVariants as stage
use Rattle.xenbus_state.specs.declared.front.FrontBusAsk.{FrontBusAsk}
use Rattle.xenbus_state.specs.declared.front.FrontBusAsk.TheVariants as bus_ask
use Rattle.xenbus_state.specs.FrontView.{FrontView}
use Rattle.xenbus_state.specs.FrontAsk.{ask_of, closing_stage, due_at}
use Rattle.xenbus_state.specs.FrontStep.{step_of, acted, feature_step, fact_step}
use Rattle.xenbus_state.specs.declared.keys.BackKey.{BackKey}
use Rattle.xenbus_state.specs.declared.table.FrontAction.{FrontAction}
use Rattle.xenbus_state.specs.declared.table.FrontAction.TheVariants as action
use Rattle.xenbus_state.specs.States.{state_read}
use Rattle.xenbus_state.specs.Tables.{front_action}
use Rattle.xenbus_state.specs.Reading.{count_read, fact_read}
use Rattle.xenbus_state.specs.FrontStep as bus_step
use Rattle.vbd_model.specs.World.{World, frontend_of}
use Rattle.event_channel.specs.Channels.{ChannelState}
use Rattle.split_model.specs.Safe.{IsPorted}
use Rattle.negotiation_laws.specs.Happening.{FrontMoves}
use Rattle.negotiation_laws.proofs.Choices.{either}
use Rattle.vbd_laws.proofs.NegotiatedRun.{negotiation_of, Reached, Joined, reached_one, reached_as}
use Rattle.vbd_model.specs.Fit.{FrontGoesWith, IsFit}
use Rattle.split_model.proofs.SafeActs.{of_front}
use Rattle.split_model.proofs.Acting.{FrontWatched, FrontSet, FrontWatch, front_acts}
use Rattle.split_model.proofs.SafeAnswers.{AsksNoKey, fronts_no_key}
use Rattle.negotiation_laws.specs.Negotiation.{Negotiation, front_woken, front_answered, front_done, front_moved}
use Rattle.vbd_front.specs.View.{View, is_broken, is_unoccupied}
use Rattle.vbd_front.specs.Ask.{speaks, key_ask, ring_moves}
use Rattle.vbd_front.specs.Ask as frontend_ask
use Rattle.vbd_front.specs.Step as frontend_step
use Rattle.vbd_model.specs.Happening.{front_turn}
use Rattle.vbd_laws.proofs.FitFrontMoves.{left_moves}
use Rattle.vbd_laws.proofs.FitFront.{asks_cases}
use Rattle.vbd_front.specs.Step.{settled_at, settled, bus_told, bus_after, woken, followed, waited}
use Rattle.vbd_laws.proofs.NegotiatedQuiet.{Quiet, closing_unoccupied, quiet_at}

-- the negotiation with this front, over these keys
abbrev pub with_front : Negotiation → FrontView → Directory → Negotiation
with_front n v keys = record { front = v; back = n.back; keys = keys }

-- this front keeps no other grants: it has none to end
abbrev pub settled_now : (idle : Bool) → Negotiation → Negotiation
settled_now idle n = with_front n (settled idle n.front) n.keys

-- nothing, or a move, settled
abbrev pub Goes : (idle : Bool) (n m : Negotiation) → Type 0
Goes idle n m = (m ≡ n) ⊎ ((port : ℕ) × (port < 2 ^ 32) × (m ≡ settled_now idle (front_moved idle port n)))

-- the frontend is told what its negotiation asked for
pub record Told (b : FrontBusAsk) (port : ℕ) (keys : Directory) (a : FrontAct) : Type 0 where
  pub answer : a.answer ≡ front_answered b port keys
  pub keys_after : a.under.keys ≡ front_done b keys

-- so the negotiation moves
told_goes : (f : View) (n : Negotiation) (x : FrontAnswer) (later : Directory) (b : FrontBusAsk) (port : ℕ) → port < 2 ^ 32 → n.front ≡ f.bus → ask_of f.bus (is_unoccupied f.ring) ≡ b → x ≡ front_answered b port n.keys → later ≡ front_done b n.keys
    → Goes (is_unoccupied f.ring) n (with_front n (bus_after f x) later)
told_goes f n x later b port within same asks answer after =
    let idle : Bool = is_unoccupied f.ring in
    let heard : x ≡ front_answered (ask_of f.bus idle) port n.keys = answer ∙ ap (λ (c : FrontBusAsk). front_answered c port n.keys) (sym asks) in
    let keyed : later ≡ front_done (ask_of f.bus idle) n.keys = after ∙ ap (λ (c : FrontBusAsk). front_done c n.keys) (sym asks) in
    inr (
      port,
      within,
      ap (λ (y : FrontAnswer). with_front n (bus_told idle f.bus y) later) heard
          ∙ (ap (λ (d : Directory). with_front n (bus_told idle f.bus (front_answered (ask_of f.bus idle) port n.keys)) d) keyed
          ∙ ap (λ (v : FrontView). with_front n (bus_told idle v (front_answered (ask_of v idle) port n.keys)) (front_done (ask_of v idle) n.keys)) (sym same)),
    )

-- it asks for a key or a watch
pub keys_told : (b : FrontBusAsk) (h : Hypervisor) (a : FrontAct) → speaks b ≡ true → front_act h (key_ask b) ≡ Some a → Told b 0 h.keys a
keys_told bus_ask.Watch h a says e = of_front (Told bus_ask.Watch 0 h.keys) _ a (record { answer = refl; keys_after = refl }) e
keys_told bus_ask.GetState h a says e = of_front (Told bus_ask.GetState 0 h.keys) _ a (record { answer = refl; keys_after = refl }) e
keys_told (bus_ask.GetKey key) h a says e = of_front (Told (bus_ask.GetKey key) 0 h.keys) _ a (record { answer = refl; keys_after = refl }) e
keys_told (bus_ask.SetState s) h a says e = of_front (Told (bus_ask.SetState s) 0 h.keys) _ a (record { answer = refl; keys_after = refl }) e
keys_told (bus_ask.SetKey key value) h a says e = of_front (Told (bus_ask.SetKey key value) 0 h.keys) _ a (record { answer = refl; keys_after = refl }) e
keys_told b h a says e = absurd (true≢false (sym says))

-- an act of a front that asks for no key: it takes a watch, or leaves the keys
abbrev IsUnwatched : FrontAnswer → Type 0
IsUnwatched (answer.Watched path) = ⊥
IsUnwatched x = Unit {0}

record Leaves (h : Hypervisor) (a : FrontAct) : Type 0 where
  unwatched : IsUnwatched a.answer
  keys : a.under.keys ≡ h.keys

record Takes (h : Hypervisor) (asked : FrontAsk) (a : FrontAct) : Type 0 where
  path : List ℕ
  waits : asked ≡ ask.Wait
  first : next_watch h.keys.front ≡ Some path
  answer : a.answer ≡ answer.Watched path
  keys : a.under.keys ≡ with_watches h.keys end.Front (taken (watches_of h.keys end.Front))

quiet_act : (h : Hypervisor) (asked : FrontAsk) (a : FrontAct) → AsksNoKey asked → front_act h asked ≡ Some a → Leaves h a ⊎ Takes h asked a
quiet_act h asked a own e = (elim (front_acts h asked a e) as (λ wish x acts. AsksNoKey wish → Leaves h x ⊎ Takes h wish x) [
  | FrontWatched path first ↦ λ own. inr (record { path = path; waits = refl; first = first; answer = refl; keys = refl })
  | FrontSet path text is ↦ λ own. absurd own
  | FrontWatch path ↦ λ own. absurd own
  | acts ↦ λ own. inl (record { unwatched = tt; keys = refl })
]) own

-- a front that takes a watch in its ring breaks nothing

begun_whole : (r : ring.View) (q : Request) (way : Transfer) → is_broken (ring_step.begun r q way).stage ≡ false
begun_whole r q transfer.Read = either (λ (one : FrontStage). is_broken one ≡ false) (is_indirect q.count) (ring_stage.Pages 1) (ring_stage.GrantFence 0) refl refl
begun_whole r q other = refl

loop_whole : (r : ring.View) (next : Option Request) (path : List ℕ) → is_broken r.stage ≡ false → is_broken (ring_step.loop_step r next (answer.Watched path)).stage ≡ false
loop_whole r None path p = p
loop_whole r (Some q) path p = begun_whole r q q.transfer

data_whole : (next : Option Request) (n : ℕ) → is_broken (ring_step.data_stage next n) ≡ false
data_whole None n = refl
data_whole (Some q) n =
    either (λ (one : FrontStage). is_broken one ≡ false) (nat_lt (n + 1) (words_in q)) (ring_stage.Data (n + 1)) (ring_step.after_data q) refl (either (λ (one : FrontStage). is_broken one ≡ false) (is_indirect q.count) (ring_stage.Pages 0) (ring_stage.GrantFrame 0) refl refl)

page_whole : (next : Option Request) (n : ℕ) → is_broken (ring_step.page_stage next n) ≡ false
page_whole None n = refl
page_whole (Some q) n = either (λ (one : FrontStage). is_broken one ≡ false) (nat_lt (n + 1) (naming_words q)) (ring_stage.Pages (n + 1)) (ring_stage.GrantFrame 0) refl refl

granted_whole : (r : ring.View) (next : Option Request) (place : ℕ) → is_broken r.stage ≡ false → is_broken (ring_step.granted next place r).stage ≡ false
granted_whole r None place p = p
granted_whole r (Some q) place p = either (λ (one : ring.View). is_broken one.stage ≡ false) (nat_lt (place + 1) (length q.frames.items)) _ _ refl refl

watched_whole : (s : FrontStage) (r : ring.View) (path : List ℕ) → r.stage ≡ s → is_broken s ≡ false → is_broken (ring_step.step_at s r (answer.Watched path)).stage ≡ false
watched_whole (ring_stage.RingWord k) r path here p = either (λ (one : FrontStage). is_broken one ≡ false) (k == 15) (ring_stage.RingFrame 0) (ring_stage.RingWord (k + 1)) refl refl
watched_whole (ring_stage.RingFrame page) r path here p = refl
watched_whole (ring_stage.RingFence page) r path here p = refl
watched_whole (ring_stage.RingFlags page) r path here p = either (λ (one : FrontStage). is_broken one ≡ false) (nat_lt (page + 1) (2 ^ r.shape.order)) (ring_stage.RingFrame (page + 1)) ring_stage.NewPort refl refl
watched_whole ring_stage.NewPort r path here p = refl
watched_whole ring_stage.Loop r path here p = loop_whole r (ring.next_request r) path (rw here refl)
watched_whole (ring_stage.Data n) r path here p = data_whole (ring.next_request r) n
watched_whole (ring_stage.Pages n) r path here p = page_whole (ring.next_request r) n
watched_whole (ring_stage.GrantFrame place) r path here p = refl
watched_whole (ring_stage.GrantFence place) r path here p = refl
watched_whole (ring_stage.GrantFlags place) r path here p = granted_whole r (ring.next_request r) place (rw here refl)
watched_whole (ring_stage.Slot k) r path here p = either (λ (one : FrontStage). is_broken one ≡ false) (k + 1 == entry_words_of r.shape.abi) ring_stage.Producer (ring_stage.Slot (k + 1)) refl refl
watched_whole ring_stage.Producer r path here p = refl
watched_whole (ring_stage.ProducerFence old) r path here p = refl
watched_whole ring_stage.Send r path here p = refl
watched_whole ring_stage.StoreEvent r path here p = refl
watched_whole ring_stage.EventFence r path here p = refl
watched_whole ring_stage.ClosePort r path here p = refl
watched_whole s r path here p = ap is_broken here ∙ p

-- a waiting negotiation is told of a watch alone
unwoken : (broken idle : Bool) (v : FrontView) (x : FrontAnswer) → IsUnwatched x → woken broken idle v x ≡ v
unwoken false idle v (answer.Watched path) un = absurd un
unwoken false idle v x un = refl
unwoken true idle v x un = refl

still_goes : (n : Negotiation) (h : Hypervisor) (v : FrontView) (idle : Bool) (keys : Directory) → n.front ≡ v → n.keys ≡ h.keys → keys ≡ h.keys → Goes idle n (with_front n v keys)
still_goes n h v idle keys same kept left =
    inl (ap (λ (x : FrontView). with_front n x keys) (sym same) ∙ ap (λ (d : Directory). with_front n n.front d) (left ∙ sym kept))

-- its end of the ring moves, or waits with it: the negotiation waits
waits_goes : (f : View) (n : Negotiation) (h : Hypervisor) (asked : FrontAsk) (a : FrontAct) (later : FrontStage) → n.front ≡ f.bus → n.keys ≡ h.keys → ask_of f.bus (is_unoccupied f.ring) ≡ bus_ask.Wait → Leaves h a ⊎ Takes h asked a
    → ((path : List ℕ) → a.answer ≡ answer.Watched path → is_broken later ≡ false)
    → Goes (is_unoccupied f.ring) n (with_front n (woken (is_broken later) (is_unoccupied f.ring) f.bus a.answer) a.under.keys)
waits_goes f n h asked a later same kept asks (inl leaves) whole =
    let idle : Bool = is_unoccupied f.ring in
    subst (λ (v : FrontView). Goes idle n (with_front n v a.under.keys)) (sym (unwoken (is_broken later) idle f.bus a.answer leaves.unwatched))
    (still_goes n h f.bus idle a.under.keys same kept leaves.keys)
waits_goes f n h asked a later same kept asks (inr takes) whole =
    let idle : Bool = is_unoccupied f.ring in
    let keyed : a.under.keys ≡ front_done bus_ask.Wait n.keys = takes.keys ∙ ap (λ (d : Directory). front_done bus_ask.Wait d) (sym kept) in
    let first : a.answer ≡ front_answered bus_ask.Wait 0 n.keys = takes.answer ∙ sym (ap front_woken (ap (λ (d : Directory). next_watch d.front) kept ∙ takes.first)) in
    let says : woken (is_broken later) idle f.bus a.answer ≡ bus_after f a.answer = rw (whole takes.path takes.answer, takes.answer) refl in
    subst (λ (v : FrontView). Goes idle n (with_front n v a.under.keys)) (sym says)
    (told_goes f n a.answer a.under.keys bus_ask.Wait 0 (omega arith) same asks first keyed)

-- what a move of the ring's end makes of the negotiation that asked for it
abbrev RingGoes : View → Negotiation → FrontBusAsk → FrontStage → FrontAct → Type 0
RingGoes f n b s x = Goes (is_unoccupied f.ring) n (with_front n (followed b (ring_step.step_at s f.ring x.answer).stage (is_unoccupied f.ring) f.bus x.answer) x.under.keys)

module _ (f : View) (n : Negotiation) (h : Hypervisor) (a : FrontAct) (same : n.front ≡ f.bus) (kept : n.keys ≡ h.keys) where
  told_done : (b : FrontBusAsk) (x : FrontAnswer) (port : ℕ) → port < 2 ^ 32 → ask_of f.bus (is_unoccupied f.ring) ≡ b → x ≡ front_answered b port n.keys → front_done b n.keys ≡ n.keys
      → Goes (is_unoccupied f.ring) n (with_front n (bus_after f x) h.keys)
  told_done b x port within asks heard done = told_goes f n x h.keys b port within same asks heard (sym kept ∙ sym done)

  still : Goes (is_unoccupied f.ring) n (with_front n f.bus h.keys)
  still = still_goes n h f.bus (is_unoccupied f.ring) h.keys same kept refl

  left_goes : (more : Bool) (k page : ℕ) (x : FrontAnswer) → ask_of f.bus (is_unoccupied f.ring) ≡ bus_ask.EndGrant page
      → Goes (is_unoccupied f.ring) n (with_front n (followed (bus_ask.EndGrant page) (if more then ring_stage.RingRead (k + 1) else ring_stage.ClosePort) (is_unoccupied f.ring) f.bus x) h.keys)
  left_goes true k page x asks = told_done (bus_ask.EndGrant page) answer.Done 0 (omega arith) asks refl refl
  left_goes false k page x asks = told_done (bus_ask.EndGrant page) answer.Done 0 (omega arith) asks refl refl

  ended_goes : (b : Bool) (word k page : ℕ) (x : FrontAnswer) → ask_of f.bus (is_unoccupied f.ring) ≡ bus_ask.EndGrant page
      → let r : ring.View = (if b then ring_step.at (ring_step.ring_left f.ring k) f.ring else ring_step.broken word f.ring) in
      Goes (is_unoccupied f.ring) n (with_front n (followed (bus_ask.EndGrant page) r.stage (is_unoccupied f.ring) f.bus x) h.keys)
  ended_goes true word k page x asks = left_goes (nat_lt (k + 1) (2 ^ f.ring.shape.order)) k page x asks
  ended_goes false word k page x asks = still

  read_goes : (b : Bool) (word k page : ℕ) (x : FrontAnswer)
      → let r : ring.View = (if b then ring_step.broken word f.ring else ring_step.at (ring_stage.RingEnd k word) f.ring) in
      Goes (is_unoccupied f.ring) n (with_front n (followed (bus_ask.EndGrant page) r.stage (is_unoccupied f.ring) f.bus x) h.keys)
  read_goes true word k page x = still
  read_goes false word k page x = still

  granted_goes : (more : Bool) (k page : ℕ) → ask_of f.bus (is_unoccupied f.ring) ≡ bus_ask.Grant page
      → Goes (is_unoccupied f.ring) n (with_front n (followed (bus_ask.Grant page) (if more then ring_stage.RingFrame (k + 1) else ring_stage.NewPort) (is_unoccupied f.ring) f.bus answer.Done) h.keys)
  granted_goes true k page asks = told_done (bus_ask.Grant page) answer.Done 0 (omega arith) asks refl refl
  granted_goes false k page asks = told_done (bus_ask.Grant page) answer.Done 0 (omega arith) asks refl refl

  ring_goes : (b : FrontBusAsk) (s : FrontStage) → ask_of f.bus (is_unoccupied f.ring) ≡ b → f.ring.stage ≡ s → speaks b ≡ false → ring_moves b s ≡ true → is_broken s ≡ false → (b ≡ bus_ask.EndOtherGrants → ⊥) → (s ≡ ring_stage.NewPort → h.channels.made < 4294967295) → AsksNoKey (ring_ask.ask_at s f.ring)
      → front_act h (ring_ask.ask_at s f.ring) ≡ Some a → RingGoes f n b s a
  ring_goes bus_ask.Wait s asks here quiet moves whole keeps unmade own e =
      waits_goes f n h (ring_ask.ask_at s f.ring) a (ring_step.step_at s f.ring a.answer).stage same kept asks (quiet_act h (ring_ask.ask_at s f.ring) a own e)
      (λ path heard. rw heard (watched_whole s f.ring path here whole))
  ring_goes (bus_ask.WriteRingWord word) (ring_stage.RingWord k) asks here quiet moves whole keeps unmade own e =
      of_front (RingGoes f n (bus_ask.WriteRingWord word) (ring_stage.RingWord k)) _ a (told_done (bus_ask.WriteRingWord word) answer.Done 0 (omega arith) asks refl refl) e
  ring_goes (bus_ask.Grant page) (ring_stage.RingFrame k) asks here quiet moves whole keeps unmade own e =
      of_front (RingGoes f n (bus_ask.Grant page) (ring_stage.RingFrame k)) _ a still e
  ring_goes (bus_ask.Grant page) (ring_stage.RingFence k) asks here quiet moves whole keeps unmade own e =
      of_front (RingGoes f n (bus_ask.Grant page) (ring_stage.RingFence k)) _ a still e
  ring_goes (bus_ask.Grant page) (ring_stage.RingFlags k) asks here quiet moves whole keeps unmade own e =
      of_front (RingGoes f n (bus_ask.Grant page) (ring_stage.RingFlags k)) _ a (granted_goes (nat_lt (k + 1) (2 ^ f.ring.shape.order)) k page asks) e
  ring_goes bus_ask.NewPort ring_stage.NewPort asks here quiet moves whole keeps unmade own e =
      of_front (RingGoes f n bus_ask.NewPort ring_stage.NewPort) _ a (told_done bus_ask.NewPort (answer.Port (h.channels.made + 1)) (h.channels.made + 1) (let few = unmade refl in omega arith) asks refl refl) e
  ring_goes (bus_ask.EndGrant page) (ring_stage.RingRead k) asks here quiet moves whole keeps unmade own e =
      let word : ℕ = word_of h.pages (ring.entry_frame (ring.ring_page_frame k)) (ring.entry_word (ring.ring_page_frame k)) in
      of_front (RingGoes f n (bus_ask.EndGrant page) (ring_stage.RingRead k)) _ a (read_goes (ring_step.is_mapped word) word k page (answer.Word word)) e
  ring_goes (bus_ask.EndGrant page) (ring_stage.RingEnd k seen) asks here quiet moves whole keeps unmade own e =
      let word : ℕ = word_of h.pages (ring.entry_frame (ring.ring_page_frame k)) (ring.entry_word (ring.ring_page_frame k)) in
      of_front (RingGoes f n (bus_ask.EndGrant page) (ring_stage.RingEnd k seen)) _ a (ended_goes (word == seen) word k page (answer.Word word) asks) e
  ring_goes (bus_ask.EndGrant page) (ring_stage.Broken word) asks here quiet moves whole keeps unmade own e = absurd (true≢false whole)
  ring_goes bus_ask.ClosePort ring_stage.ClosePort asks here quiet moves whole keeps unmade own e =
      of_front (RingGoes f n bus_ask.ClosePort ring_stage.ClosePort) _ a (told_done bus_ask.ClosePort answer.Done 0 (omega arith) asks refl refl) e
  ring_goes bus_ask.EndOtherGrants s asks here quiet moves whole keeps unmade own e = absurd (keeps refl)
  ring_goes b s asks here quiet moves whole keeps unmade own e = absurd (cc)

-- a move writes a state only where the negotiation asks for that
abbrev pub Keeps : FrontBusStage → FrontView → FrontView → Type 0
Keeps s v u = (u.state ≡ v.state) ⊎ ((own : BusState) × (s ≡ stage.WriteState own) × (u.state ≡ own))

acted_keeps : (s : FrontBusStage) (act : FrontAction) (v : FrontView) → Keeps s v (acted act v)
acted_keeps s action.Nothing v = inl refl
acted_keeps s other v = inl refl

feature_keeps : (s : FrontBusStage) (k : BackKey) (n : Option ℕ) (v : FrontView) → Keeps s v (feature_step k n v)
feature_keeps s k None v = inl refl
feature_keeps s k (Some n) v = inl refl

fact_keeps : (s : FrontBusStage) (k : BackKey) (n : Option ℕ) (v : FrontView) → Keeps s v (fact_step k n v)
fact_keeps s k None v = inl refl
fact_keeps s k (Some n) v = inl refl

pub step_keeps : (s : FrontBusStage) (v : FrontView) (idle : Bool) (x : FrontAnswer) → Keeps s v (bus_step.step_at s v idle x)
step_keeps stage.Rest v idle (answer.Watched path) = inl refl
step_keeps stage.ReadState v idle (answer.Key text) = acted_keeps stage.ReadState (front_action v.state v.closing idle (state_read text)) v
step_keeps (stage.ReadFeature k) v idle (answer.Key text) = feature_keeps (stage.ReadFeature k) k (count_read text) v
step_keeps stage.NewPort v idle (answer.Port port) = inl refl
step_keeps (stage.ReadFact k) v idle (answer.Key text) = fact_keeps (stage.ReadFact k) k (fact_read k text) v
step_keeps (stage.WriteState own) v idle answer.Done = inr (own, refl, refl)
step_keeps stage.ClosePort v idle answer.Done = inl refl
step_keeps s v idle answer.Done = inl refl
step_keeps s v idle x = inl refl

writes_not : (s : FrontBusStage) (v : FrontView) (r : FrontStage) (own : BusState) → FrontGoesWith s v r → due_at s v false ≡ stage.WriteState own → own ≡ state.Closing → ⊥
writes_not stage.Rest v r own fits due e = by_test v.closing due
  where
    by_test : (c : Bool) → (if c && false then closing_stage v.state v else stage.Rest) ≡ stage.WriteState own → ⊥
    by_test true f = cc
    by_test false f = cc
writes_not (stage.WriteState state.Closing) v r own fits due e = fits
writes_not (stage.WriteState s) v r own fits due e = cc
writes_not s v r own fits due e = cc

-- so a settled move goes where its run goes
module _ (idle : Bool) where
  settles : (b : FrontBusAsk) (n : Negotiation) → ask_of n.front idle ≡ b → (n.front.state ≡ state.Closing → idle ≡ true) → Reached n → Reached (with_front n (settled_at b idle n.front) n.keys)
  settles bus_ask.EndOtherGrants n asks served j =
      reached_as (front_moved idle 0 n) (with_front n (step_of n.front idle answer.Done) n.keys)
      (ap (λ (b : FrontBusAsk). with_front n (step_of n.front idle (front_answered b 0 n.keys)) (front_done b n.keys)) (sym asks))
      (reached_one n (FrontMoves idle 0) (omega arith) served j)
  settles b n asks served j = j

  reach : (n m : Negotiation) → (n.front.state ≡ state.Closing → idle ≡ true) → ((port : ℕ) → (let x : Negotiation = front_moved idle port n in x.front.state ≡ state.Closing → idle ≡ true)) → Goes idle n m → Reached n → Reached m
  reach n m served later (inl same) j = reached_as n m same j
  reach n m served later (inr moved) j =
      let port : ℕ = moved.0 in
      let next : Negotiation = front_moved idle port n in
      let within : port < 2 ^ 32 = moved.1 in
      reached_as (settled_now idle next) m moved.2 (settles (ask_of next.front idle) next refl (later port) (reached_one n (FrontMoves idle port) (omega arith) served j))

later_served : (w : World) (idle : Bool) → (w.front.state ≡ state.Closing → idle ≡ true) → FrontGoesWith w.front.stage w.front w.rings.front.stage → (port : ℕ)
    → (let x : Negotiation = front_moved idle port (negotiation_of w) in x.front.state ≡ state.Closing → idle ≡ true)
later_served w true served fits port = λ e. refl
later_served w false served fits port = by_kept (step_keeps (due_at w.front.stage w.front false) (bus_step.at (due_at w.front.stage w.front false) w.front) false x)
  where
    x : FrontAnswer
    x = front_answered (ask_of w.front false) port w.rings.under.keys

    by_kept : Keeps (due_at w.front.stage w.front false) (bus_step.at (due_at w.front.stage w.front false) w.front) (step_of w.front false x) → (let u : FrontView = step_of w.front false x in u.state ≡ state.Closing → false ≡ true)
    by_kept (inl same) e = served (sym same ∙ e)
    by_kept (inr wrote) e = absurd (writes_not w.front.stage w.front w.rings.front.stage wrote.0 fits wrote.1 (sym wrote.2 ∙ e))

-- before it has made its port one may be made
unmade : (s : FrontStage) (c : ChannelState) → IsPorted s c → s ≡ ring_stage.NewPort → c.made < 4294967295
unmade s c p e = let none : IsPorted ring_stage.NewPort c = subst (λ (x : FrontStage). IsPorted x c) e p in none.0

-- what the front's move makes of the negotiation
abbrev pub Moves : World → FrontAct → FrontAsk → View → Type 0
Moves w a asked after = front_act w.rings.under asked ≡ Some a → Goes (is_unoccupied w.rings.front) (negotiation_of w) (with_front (negotiation_of w) after.bus a.under.keys)

-- where data are left after a suspend they are in hand
abbrev pub HasInHand : FrontStage → Option Ending → Type 0
HasInHand (ring_stage.LeftData n) ending = IsSome ending
HasInHand s ending = Unit {0}

pub none_in_hand : (s : FrontStage) (ending : Option Ending) → is_left s ≡ false → HasInHand s ending
none_in_hand (ring_stage.LeftData n) ending none = absurd (true≢false none)
none_in_hand s ending none = tt

-- they are read: the negotiation and the keys stay
left_leaves : (s : FrontStage) (r : ring.View) (h : Hypervisor) (a : FrontAct) → is_left s ≡ true → HasInHand s r.ending → front_act h (ring_ask.ask_at s r) ≡ Some a → Leaves h a
left_leaves (ring_stage.LeftData n) r h a left hand e = by_ending r.ending hand e
  where
    by_ending : (ending : Option Ending) → IsSome ending → front_act h (ring_ask.read_ask ending n) ≡ Some a → Leaves h a
    by_ending None some e = absurd (true≢false (sym some))
    by_ending (Some ending) some e = of_front (Leaves h) _ a (record { unwatched = tt; keys = refl }) e
left_leaves s r h a left hand e = absurd (true≢false (sym left))

left_still : (w : World) (a : FrontAct) → is_left w.rings.front.stage ≡ true → HasInHand w.rings.front.stage w.rings.front.ending
    → Moves w a (frontend_ask.ask_at bus_ask.Wait (frontend_of w)) (frontend_step.step_at bus_ask.Wait (frontend_of w) a.answer)
left_still w a left hand =
    let idle : Bool = is_unoccupied w.rings.front in
    subst (λ (m : Bool). Moves w a (frontend_ask.ring_ask m (frontend_of w)) (frontend_step.ring_step m bus_ask.Wait (frontend_of w) a.answer)) (sym (left_moves w.rings.front.stage left))
    (λ e.
    let leaves = left_leaves w.rings.front.stage w.rings.front w.rings.under a left hand e in
    let later : ring.View = ring_step.step_of w.rings.front a.answer in
    subst (λ (v : FrontView). Goes idle (negotiation_of w) (with_front (negotiation_of w) v a.under.keys)) (sym (unwoken (is_broken later.stage) idle w.front a.answer leaves.unwatched))
    (still_goes (negotiation_of w) w.rings.under w.front idle a.under.keys refl refl leaves.keys))

pub front_moves : (w : World) (a : FrontAct) → IsFit w → is_broken w.rings.front.stage ≡ false → HasInHand w.rings.front.stage w.rings.front.ending
    → Moves w a (frontend_ask.ask_of (frontend_of w)) (frontend_step.step_of (frontend_of w) a.answer)
front_moves w a fit whole hand =
    asks_cases (λ (c : FrontBusAsk). Moves w a (frontend_ask.ask_at c f) (frontend_step.step_at c f a.answer)) w (λ left. left_still w a left hand) (λ none. by_speaks (speaks b) refl)
  where
    f : View
    f = frontend_of w

    b : FrontBusAsk
    b = ask_of w.front (is_unoccupied w.rings.front)

    quiet : Quiet b w.rings.front.stage
    quiet = quiet_at w.front.stage w.front w.rings.front.stage (is_unoccupied w.rings.front) fit.front whole

    by_moves : (m : Bool) → ring_moves b w.rings.front.stage ≡ m → speaks b ≡ false → Moves w a (frontend_ask.ring_ask m f) (frontend_step.ring_step m b f a.answer)
    by_moves true moves says e =
        ring_goes f (negotiation_of w) w.rings.under a refl refl b w.rings.front.stage refl refl says moves whole quiet.keeps
        (unmade w.rings.front.stage w.rings.under.channels fit.safe.ported) (fronts_no_key w.rings.front) e
    by_moves false still says e =
        subst (λ (c : FrontBusAsk). Goes (is_unoccupied w.rings.front) (negotiation_of w) (with_front (negotiation_of w) (waited c (is_unoccupied w.rings.front) w.front a.answer) a.under.keys)) (sym (quiet.waits says still))
        (waits_goes f (negotiation_of w) w.rings.under ask.Wait a ring_stage.Loop refl refl (quiet.waits says still) (quiet_act w.rings.under ask.Wait a tt e) (λ path heard. refl))

    by_speaks : (s : Bool) → speaks b ≡ s → Moves w a (if s then key_ask b else frontend_ask.ring_ask (ring_moves b w.rings.front.stage) f) (if s then frontend_step.spoken f a.answer else frontend_step.ring_step (ring_moves b w.rings.front.stage) b f a.answer)
    by_speaks true says e =
        let told = keys_told b w.rings.under a says e in
        told_goes f (negotiation_of w) a.answer a.under.keys b 0 (omega arith) refl refl told.answer told.keys_after
    by_speaks false says e = by_moves (ring_moves b w.rings.front.stage) refl says e

-- so its negotiation goes on as a run
pub front_goes : (w : World) (a : FrontAct) → IsFit w → is_broken w.rings.front.stage ≡ false → HasInHand w.rings.front.stage w.rings.front.ending → Joined w → front_turn w ≡ Some a
    → Reached (record { front = (frontend_step.step_of (frontend_of w) a.answer).bus; back = w.back; keys = a.under.keys })
front_goes w a fit whole hand j e =
    let served = closing_unoccupied w fit whole in
    reach (is_unoccupied w.rings.front) (negotiation_of w) _ served (later_served w (is_unoccupied w.rings.front) served fit.front) (front_moves w a fit whole hand e) j
