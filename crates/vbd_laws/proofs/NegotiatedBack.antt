-- A move of the back is a move of the negotiation, or two, or none, where no map and no bind is refused.
use Rattle.std.proofs.Common.{◌⊎◌, inl, inr, ◌≡◌, ◌∙◌, ap, sym, subst, ℕ, ◌<◌, Bool, true, false, true≢false, ◌&&◌, if◌then◌else◌, List, [], ◌∷◌, length, refl, arith}
use Rattle.std.specs.Prelude.{Option, Some, None, is_some, Result, Ok, Err}
use Rattle.blk_base.specs.declared.parts.End.TheVariants as end
use Rattle.blk_base.specs.declared.parts.Mapping.{Mapping}
use Rattle.blk_base.specs.declared.parts.Mode.TheVariants.{ReadWrite}
use Rattle.blk_base.specs.declared.ask.BackAsk.{BackAsk}
use Rattle.blk_base.specs.declared.ask.BackAsk.TheVariants as ask
use Rattle.blk_base.specs.declared.ask.BackAnswer.{BackAnswer}
use Rattle.blk_base.specs.declared.ask.BackAnswer.TheVariants as answer
use Rattle.blk_base.specs.declared.moves.BackMover.TheVariants as back_mover
use Rattle.grant_table.specs.declared.entry.MapRefusal.{MapRefusal}
use Rattle.grant_table.specs.Table.{verdict_at}
use Rattle.event_channel.specs.declared.channels.PortState.{PortState}
use Rattle.event_channel.specs.declared.channels.PortState.TheVariants as port
use Rattle.event_channel.specs.Channels.{state_of}
use Rattle.key_directory.specs.Watches.{taken, next_watch}
use Rattle.key_directory.specs.Directory.{Directory, watches_of, with_watches}
use Rattle.hypervisor.specs.Hypervisor.{Hypervisor}
use Rattle.hypervisor.specs.Act.{BackAct, Took, back_act, map_act, bind_act}
use Rattle.blk_back.specs.declared.stage.BackStage.{BackStage}
use Rattle.blk_back.specs.declared.stage.BackStage.TheVariants as ring_stage
use Rattle.blk_base.specs.declared.halt.Halt.{Halt}
use Rattle.blk_back.specs.View as ring
use Rattle.blk_back.specs.Ask as ring_ask
use Rattle.blk_back.specs.Step as ring_step
use Rattle.xenbus_state.specs.declared.state.BusState.{BusState}
use Rattle.xenbus_state.specs.declared.state.BusState.TheVariants as state
use Rattle.xenbus_state.specs.declared.stage.BackBusStage.{BackBusStage}
use Rattle.xenbus_state.specs.declared.stage.BackBusStage.TheVariants as stage
use Rattle.xenbus_state.specs.declared.back.BackBusAsk.{BackBusAsk}
use Rattle.xenbus_state.specs.declared.back.BackBusAsk.TheVariants as bus_ask
use Rattle.xenbus_state.specs.BackView.{BackView, is_halting, halted}
use Rattle.xenbus_state.specs.BackAsk.{ask_of, ask_at, says_closing, unmap_ask}
use Rattle.xenbus_state.specs.BackStep.{step_of, step_at, after_state, unmapping_next, other_pages}
use Rattle.split_model.proofs.SafeActs.{of_back}
use Rattle.split_model.proofs.Acting.{BackWatched, BackSet, BackWatch, back_acts}
use Rattle.split_model.proofs.SafeAnswers.{IsBacks, backs_of}
use Rattle.negotiation_laws.specs.Negotiation.{Negotiation, back_woken, back_answered, back_done, back_moved}
use Rattle.negotiation_laws.specs.Happening.{BackMoves}
use Rattle.vbd_back.specs.View.{View}
use Rattle.vbd_back.specs.Ask.{bus_ask_of, speaks, key_ask, is_between, bus_moves, ring_moves}
use Rattle.vbd_back.specs.Ask as backend_ask
use Rattle.vbd_back.specs.Step as backend_step
use Rattle.vbd_back.specs.Step.{settled_at, settled, bus_halted, woken, followed, waited}
use Rattle.vbd_model.specs.World.{World, backend_of}
use Rattle.vbd_model.specs.Happening.{back_turn, is_backs_ring}
use Rattle.vbd_model.specs.Fit.{IsAborting, IsUnmapping, BackGoesWith, BackHolds, IsFit}
use Rattle.negotiation_laws.proofs.Choices.{either}
use Rattle.line_text.proofs.Both.{both_true}
use Rattle.vbd_laws.proofs.NegotiatedRun.{negotiation_of, Reached, Joined, reached_one}
use Rattle.vbd_laws.proofs.MovesTurns.{waits_quiet}
use Rattle.vbd_laws.proofs.FitBackBus.{last_halts}

-- the negotiation with this back, over these keys
abbrev pub with_back : Negotiation → BackView → Directory → Negotiation
with_back n v keys = record { front = n.front; back = v; keys = keys }

-- any page
abbrev pub a_page : Mapping
a_page = record { number = 0; gref = 0; mode = ReadWrite }

-- a back that unmaps its other mappings asks for that
pub others_asked : (v : BackView) → v.stage ≡ stage.UnmapOthers → ask_of v ≡ bus_ask.UnmapOthers
others_asked v here = rw here (by_test v.unplugged)
  where
    by_test : (b : Bool) → (if b && false then bus_ask.SetState state.Closing else bus_ask.UnmapOthers) ≡ bus_ask.UnmapOthers
    by_test true = refl
    by_test false = refl

-- what each move of the back's negotiation keeps
module _ (P : Negotiation → Type 0) (keeps : (n : Negotiation) (page : Mapping) → P n → P (back_moved page n)) where
  -- its negotiation was told what it asked for
  told_holds : (n : Negotiation) (b : BackBusAsk) (page : Mapping) (x : BackAnswer) (later : Directory) → ask_of n.back ≡ b → x ≡ back_answered b page n.keys → later ≡ back_done b n.keys → P n → P (with_back n (step_of n.back x) later)
  told_holds n b page x later asks answer after j =
      let heard : x ≡ back_answered (ask_of n.back) page n.keys = answer ∙ ap (λ (c : BackBusAsk). back_answered c page n.keys) (sym asks) in
      let keyed : later ≡ back_done (ask_of n.back) n.keys = after ∙ ap (λ (c : BackBusAsk). back_done c n.keys) (sym asks) in
      subst P (sym (ap (λ (y : BackAnswer). with_back n (step_of n.back y) later) heard ∙ ap (λ (d : Directory). with_back n (step_of n.back (back_answered (ask_of n.back) page n.keys)) d) keyed))
      (keeps n page j)

  -- where its end of the ring has no other mapping to unmap it goes on
  settles : (b : BackBusStage) (s : BackStage) (n : Negotiation) → n.back.stage ≡ b → P n → P (with_back n (settled_at b s n.back) n.keys)
  settles stage.UnmapOthers (ring_stage.Abort m) n here j = j
  settles stage.UnmapOthers s n here j = told_holds n bus_ask.UnmapOthers a_page answer.Done n.keys (others_asked n.back here) refl refl j
  settles b s n here j = j

  settled_holds : (s : BackStage) (n : Negotiation) → P n → P (with_back n (settled s n.back) n.keys)
  settled_holds s n j = settles n.back.stage s n refl j

  -- nothing becomes of it
  still_holds : (n : Negotiation) (h : Hypervisor) (later : Directory) → n.keys ≡ h.keys → later ≡ h.keys → P n → P (with_back n n.back later)
  still_holds n h later kept left j = subst P (sym (ap (λ (d : Directory). with_back n n.back d) (left ∙ sym kept))) j

-- it asks for a key or a watch: what it is told, and what that leaves of the keys
abbrev pub IsHeard : BackBusAsk → Directory → BackAct → Type 0
IsHeard b keys a = (a.answer ≡ back_answered b a_page keys) × (a.under.keys ≡ back_done b keys)

pub keys_heard : (b : BackBusAsk) (h : Hypervisor) (a : BackAct) → speaks b ≡ true → back_act h back_mover.Back (key_ask b) Took ≡ Some a → IsHeard b h.keys a
keys_heard bus_ask.Watch h a says e = of_back (IsHeard bus_ask.Watch h.keys) _ a (refl, refl) e
keys_heard bus_ask.GetState h a says e = of_back (IsHeard bus_ask.GetState h.keys) _ a (refl, refl) e
keys_heard (bus_ask.GetKey key) h a says e = of_back (IsHeard (bus_ask.GetKey key) h.keys) _ a (refl, refl) e
keys_heard (bus_ask.SetState s) h a says e = of_back (IsHeard (bus_ask.SetState s) h.keys) _ a (refl, refl) e
keys_heard (bus_ask.SetKey key value) h a says e = of_back (IsHeard (bus_ask.SetKey key value) h.keys) _ a (refl, refl) e
keys_heard b h a says e = absurd (true≢false (sym says))

module _ (P : Negotiation → Type 0) (keeps : (n : Negotiation) (page : Mapping) → P n → P (back_moved page n)) where
  keys_told : (b : BackBusAsk) (n : Negotiation) (h : Hypervisor) (a : BackAct) → ask_of n.back ≡ b → n.keys ≡ h.keys → speaks b ≡ true → back_act h back_mover.Back (key_ask b) Took ≡ Some a → P n → P (with_back n (step_of n.back a.answer) a.under.keys)
  keys_told b n h a asks kept says e j =
      let told = keys_heard b h a says e in
      told_holds P keeps n b a_page a.answer a.under.keys asks (told.0 ∙ ap (λ (d : Directory). back_answered b a_page d) (sym kept)) (told.1 ∙ ap (λ (d : Directory). back_done b d) (sym kept)) j

-- an act of a back that asks for no key: it takes a watch, or leaves the keys
abbrev IsUnwatched : BackAnswer → Type 0
IsUnwatched (answer.Watched path) = ⊥
IsUnwatched x = Unit {0}

record Leaves (h : Hypervisor) (a : BackAct) : Type 0 where
  unwatched : IsUnwatched a.answer
  keys : a.under.keys ≡ h.keys

record Takes (h : Hypervisor) (a : BackAct) : Type 0 where
  path : List ℕ
  first : next_watch h.keys.back ≡ Some path
  answer : a.answer ≡ answer.Watched path
  keys : a.under.keys ≡ with_watches h.keys end.Back (taken (watches_of h.keys end.Back))

quiet_act : (h : Hypervisor) (asked : BackAsk) (a : BackAct) → IsBacks asked → back_act h back_mover.Back asked Took ≡ Some a → Leaves h a ⊎ Takes h a
quiet_act h asked a own e = (elim (back_acts h back_mover.Back asked Took a e) as (λ who wish outcome x acts. IsBacks wish → Leaves h x ⊎ Takes h x) [
  | BackWatched path first ↦ λ own. inr (record { path = path; first = first; answer = refl; keys = refl })
  | BackSet path text is ↦ λ own. absurd own
  | BackWatch path ↦ λ own. absurd own
  | acts ↦ λ own. inl (record { unwatched = tt; keys = refl })
]) own

unwoken : (v : BackView) (x : BackAnswer) → IsUnwatched x → woken v x ≡ v
unwoken v (answer.Watched path) un = absurd un
unwoken v x un = refl

-- no map and no bind was refused
abbrev pub IsGiven : BackAnswer → Type 0
IsGiven (answer.MapRefused status) = ⊥
IsGiven answer.BindRefused = ⊥
IsGiven x = Unit {0}

module _ (P : Negotiation → Type 0) (keeps : (n : Negotiation) (page : Mapping) → P n → P (back_moved page n)) (n : Negotiation) (h : Hypervisor) (kept : n.keys ≡ h.keys) (j : P n) where
  abbrev Follows : BackBusAsk → BackAct → Type 0
  Follows b x = IsGiven x.answer → P (with_back n (followed b n.back x.answer) x.under.keys)

  -- a waiting negotiation is told of a watch alone
  waits_holds : (a : BackAct) → ask_of n.back ≡ bus_ask.Wait → Leaves h a ⊎ Takes h a → P (with_back n (woken n.back a.answer) a.under.keys)
  waits_holds a asks (inl leaves) =
      subst (λ (v : BackView). P (with_back n v a.under.keys)) (sym (unwoken n.back a.answer leaves.unwatched)) (still_holds P keeps n h a.under.keys kept leaves.keys j)
  waits_holds a asks (inr takes) =
      let keyed : a.under.keys ≡ back_done bus_ask.Wait n.keys = takes.keys ∙ ap (λ (d : Directory). back_done bus_ask.Wait d) (sym kept) in
      let first : a.answer ≡ back_answered bus_ask.Wait a_page n.keys = takes.answer ∙ sym (ap back_woken (ap (λ (d : Directory). next_watch d.back) kept ∙ takes.first)) in
      let says : woken n.back a.answer ≡ step_of n.back a.answer = rw takes.answer refl in
      subst (λ (v : BackView). P (with_back n v a.under.keys)) (sym says) (told_holds P keeps n bus_ask.Wait a_page a.answer a.under.keys asks first keyed j)

  told_done : (b : BackBusAsk) (page : Mapping) (x : BackAnswer) → ask_of n.back ≡ b → x ≡ back_answered b page n.keys → back_done b n.keys ≡ n.keys → P (with_back n (step_of n.back x) h.keys)
  told_done b page x asks heard done = told_holds P keeps n b page x h.keys asks heard (sym kept ∙ sym done) j

  map_follows : (gref own : ℕ) (verdict : Result ℕ MapRefusal) → ask_of n.back ≡ bus_ask.Map gref → Follows (bus_ask.Map gref) (map_act h back_mover.Back own ReadWrite verdict)
  map_follows gref own (Ok frame) asks given = told_done (bus_ask.Map gref) _ _ asks refl refl
  map_follows gref own (Err refusal) asks given = absurd given

  bind_follows : (p own : ℕ) (s : PortState) → ask_of n.back ≡ bus_ask.Bind p → Follows (bus_ask.Bind p) (bind_act h own s)
  bind_follows p own port.Unbound asks given = told_done (bus_ask.Bind p) a_page answer.Done asks refl refl
  bind_follows p own other asks given = absurd given

  leaves_follows : (a : BackAct) → Leaves h a → P (with_back n n.back a.under.keys)
  leaves_follows a leaves = still_holds P keeps n h a.under.keys kept leaves.keys j

  -- within an entry and a reply its end of the ring leaves the keys
  push_leaves : (r : ring.View) (a : BackAct) (s : BackStage) → is_between s ≡ false → back_act h back_mover.Back (ring_ask.ask_at s r) Took ≡ Some a → Leaves h a
  push_leaves r a (ring_stage.Fetch k) within e = of_back (Leaves h) _ a (record { unwatched = tt; keys = refl }) e
  push_leaves r a (ring_stage.ReplyHigh p) within e = of_back (Leaves h) _ a (record { unwatched = tt; keys = refl }) e
  push_leaves r a (ring_stage.ReplyLast p) within e = of_back (Leaves h) _ a (record { unwatched = tt; keys = refl }) e
  push_leaves r a (ring_stage.Producer p) within e = of_back (Leaves h) _ a (record { unwatched = tt; keys = refl }) e
  push_leaves r a (ring_stage.ProducerFence old) within e = of_back (Leaves h) _ a (record { unwatched = tt; keys = refl }) e
  push_leaves r a (ring_stage.ResponseEvent old) within e = of_back (Leaves h) _ a (record { unwatched = tt; keys = refl }) e
  push_leaves r a ring_stage.Send within e = of_back (Leaves h) _ a (record { unwatched = tt; keys = refl }) e
  push_leaves r a s within e = absurd (true≢false within)

  -- a page that was mapped is unmapped
  unmaps_follow : (m : Mapping) (pages : List Mapping) (a : BackAct) → ask_of n.back ≡ bus_ask.Unmap m → 0 < length pages → back_act h back_mover.Back (ring_ask.unmap_ask pages) Took ≡ Some a → Follows (bus_ask.Unmap m) a
  unmaps_follow m [] a asks some e = absurd (omega arith)
  unmaps_follow m (page ∷ pages) a asks some e = of_back (Follows (bus_ask.Unmap m)) _ a (λ given. told_done (bus_ask.Unmap m) a_page answer.Done asks refl refl) e

  -- what its end of the ring did is told it where it asked for that
  ring_follows : (r : ring.View) (a : BackAct) (b : BackBusAsk) (s : BackStage) → ask_of n.back ≡ b → r.stage ≡ s → bus_moves b s ≡ false → ring_moves b s ≡ true → (IsUnmapping s → 0 < length r.pages) → IsBacks (ring_ask.ask_at s r)
      → back_act h back_mover.Back (ring_ask.ask_at s r) Took ≡ Some a → Follows b a
  ring_follows r a bus_ask.Wait s asks here quiet moves some own e = λ given. waits_holds a asks (quiet_act h (ring_ask.ask_at s r) a own e)
  ring_follows r a (bus_ask.Map gref) ring_stage.MapRing asks here quiet moves some own e = of_back (Follows (bus_ask.Map gref)) _ a (map_follows gref (ring_ask.next_gref r) (verdict_at h.pages (ring_ask.next_gref r) ReadWrite) asks) e
  ring_follows r a (bus_ask.Bind p) ring_stage.Bind asks here quiet moves some own e = of_back (Follows (bus_ask.Bind p)) _ a (bind_follows p r.ring.port (state_of h.channels r.ring.port) asks) e
  ring_follows r a (bus_ask.Unmap m) ring_stage.UnmapRing asks here quiet moves some own e = unmaps_follow m r.pages a asks (some tt) e
  ring_follows r a (bus_ask.Unmap m) ring_stage.UnmapUnbound asks here quiet moves some own e = unmaps_follow m r.pages a asks (some tt) e
  ring_follows r a bus_ask.ClosePort ring_stage.ClosePort asks here quiet moves some own e = of_back (Follows bus_ask.ClosePort) _ a (λ given. told_done bus_ask.ClosePort a_page answer.Done asks refl refl) e
  ring_follows r a bus_ask.UnmapOthers (ring_stage.Abort m) asks here quiet moves some own e = of_back (Follows bus_ask.UnmapOthers) _ a (λ given. still_holds P keeps n h h.keys kept refl j) e
  ring_follows r a bus_ask.Watch s asks here quiet moves some own e = λ given. leaves_follows a (push_leaves r a s quiet e)
  ring_follows r a bus_ask.GetState s asks here quiet moves some own e = λ given. leaves_follows a (push_leaves r a s quiet e)
  ring_follows r a (bus_ask.GetKey key) s asks here quiet moves some own e = λ given. leaves_follows a (push_leaves r a s quiet e)
  ring_follows r a (bus_ask.SetState own) s asks here quiet moves some backs e = λ given. leaves_follows a (push_leaves r a s quiet e)
  ring_follows r a (bus_ask.SetKey key value) s asks here quiet moves some own e = λ given. leaves_follows a (push_leaves r a s quiet e)
  ring_follows r a b s asks here quiet moves some own e = absurd (true≢false (sym moves))

-- a halting negotiation goes on halting
state_halting : (s : BusState) → is_halting (stage.WriteState s) ≡ true → is_halting (after_state s) ≡ true
state_halting state.Closing is = refl
state_halting state.Closed is = refl
state_halting s is = absurd (true≢false (sym is))

up_halting : (pages : List Mapping) (bound : Bool) (s : BusState) → is_halting (unmapping_next pages bound s) ≡ true
up_halting (page ∷ pages) bound s = refl
up_halting [] true s = refl
up_halting [] false s = last_halts s

step_halting : (s : BackBusStage) (v : BackView) (x : BackAnswer) → v.stage ≡ s → is_halting s ≡ true → is_halting (step_at s v x).stage ≡ true
step_halting (stage.WriteState s) v answer.Done here is = state_halting s is
step_halting stage.UnmapOthers v answer.Done here is = up_halting v.pages v.bound v.state
step_halting stage.UnmapPage v answer.Done here is = up_halting (other_pages v.pages) v.bound v.state
step_halting stage.ClosePort v answer.Done here is = last_halts v.state
step_halting stage.Halted v x here is = rw here refl
step_halting (stage.Publish k) v x here is = absurd (true≢false (sym is))
step_halting stage.Watch v x here is = absurd (true≢false (sym is))
step_halting stage.Rest v x here is = absurd (true≢false (sym is))
step_halting stage.ReadState v x here is = absurd (true≢false (sym is))
step_halting (stage.ReadKey k) v x here is = absurd (true≢false (sym is))
step_halting stage.MapPage v x here is = absurd (true≢false (sym is))
step_halting stage.Bind v x here is = absurd (true≢false (sym is))
step_halting (stage.PublishFact k) v x here is = absurd (true≢false (sym is))
step_halting s v x here is = rw here is

told_halting : (v : BackView) (x : BackAnswer) → is_halting v.stage ≡ true → is_halting (step_of v x).stage ≡ true
told_halting v x is = either (λ (u : BackView). is_halting u.stage ≡ true) (says_closing v) (record v { state = state.Closing }) (step_at v.stage v x) is (step_halting v.stage v x refl is)

woken_halting : (v : BackView) (x : BackAnswer) → is_halting v.stage ≡ true → is_halting (woken v x).stage ≡ true
woken_halting v (answer.Watched path) is = told_halting v (answer.Watched path) is
woken_halting v x is = is

followed_halting : (b : BackBusAsk) (v : BackView) (x : BackAnswer) → is_halting v.stage ≡ true → is_halting (followed b v x).stage ≡ true
followed_halting (bus_ask.Map gref) v x is = told_halting v x is
followed_halting (bus_ask.Bind p) v x is = told_halting v x is
followed_halting (bus_ask.Unmap m) v x is = told_halting v answer.Done is
followed_halting bus_ask.ClosePort v x is = told_halting v x is
followed_halting bus_ask.Wait v x is = woken_halting v x is
followed_halting b v x is = is

-- so it isn't told a halt that it knows
halted_same : (why : Option Halt) (v : BackView) → (is_some why ≡ true → is_halting v.stage ≡ true) → bus_halted why v ≡ v
halted_same None v is = refl
halted_same (Some why) v is = by_test (is_halting v.stage) (is refl)
  where
    by_test : (b : Bool) → b ≡ true → (if b then v else halted v) ≡ v
    by_test true e = refl
    by_test false e = absurd (true≢false (sym e))

-- where neither moves the negotiation waits
abbrev IsStuck : BackBusAsk → BackStage → Type 0
IsStuck b r = b ≡ bus_ask.Wait

says_stuck : (b : BackBusAsk) (r : BackStage) → speaks b ≡ true → bus_moves b r ≡ false → ring_moves b r ≡ false → IsStuck b r
says_stuck b r says quiet still = absurd (true≢false (sym says ∙ waits_quiet b r quiet still))

moves_stuck : (b : BackBusAsk) (r : BackStage) → ring_moves b r ≡ true → ring_moves b r ≡ false → IsStuck b r
moves_stuck b r moves still = absurd (true≢false (sym moves ∙ still))

giving_moves : (r : BackStage) → IsAborting r → ring_moves bus_ask.UnmapOthers r ≡ true
giving_moves (ring_stage.Abort m) is = refl
giving_moves r is = absurd is

unmapping_moves : (m : Mapping) (r : BackStage) → IsUnmapping r → ring_moves (bus_ask.Unmap m) r ≡ true
unmapping_moves m ring_stage.UnmapRing is = refl
unmapping_moves m ring_stage.UnmapUnbound is = refl
unmapping_moves m r is = absurd is

unmap_stuck : (pages : List Mapping) (r : BackStage) → IsUnmapping r → ring_moves (unmap_ask pages) r ≡ false → IsStuck (unmap_ask pages) r
unmap_stuck [] r is still = refl
unmap_stuck (m ∷ pages) r is still = moves_stuck (bus_ask.Unmap m) r (unmapping_moves m r is) still

stuck_at : (s : BackBusStage) (v : BackView) (r : BackStage) → BackGoesWith s v.state r → bus_moves (ask_at s v) r ≡ false → ring_moves (ask_at s v) r ≡ false → IsStuck (ask_at s v) r
stuck_at (stage.Publish k) v r fits quiet still = says_stuck (ask_at (stage.Publish k) v) r refl quiet still
stuck_at (stage.WriteState own) v r fits quiet still = says_stuck (ask_at (stage.WriteState own) v) r refl quiet still
stuck_at (stage.ReadKey k) v r fits quiet still = says_stuck (ask_at (stage.ReadKey k) v) r refl quiet still
stuck_at (stage.PublishFact k) v r fits quiet still = says_stuck (ask_at (stage.PublishFact k) v) r refl quiet still
stuck_at stage.Rest v r fits quiet still = refl
stuck_at stage.Halted v r fits quiet still = refl
stuck_at stage.MapPage v r fits quiet still = moves_stuck (ask_at stage.MapPage v) r (rw fits.1 refl) still
stuck_at stage.Bind v r fits quiet still = moves_stuck (ask_at stage.Bind v) r (rw fits.1 refl) still
stuck_at stage.UnmapOthers v r fits quiet still = moves_stuck bus_ask.UnmapOthers r (giving_moves r fits) still
stuck_at stage.UnmapPage v r fits quiet still = unmap_stuck v.pages r fits still
stuck_at stage.ClosePort v r fits quiet still = moves_stuck bus_ask.ClosePort r (rw fits refl) still
stuck_at other v r fits quiet still = says_stuck (ask_at other v) r refl quiet still

stuck_of : (v : BackView) (r : BackStage) → BackGoesWith v.stage v.state r → bus_moves (ask_of v) r ≡ false → ring_moves (ask_of v) r ≡ false → IsStuck (ask_of v) r
stuck_of v r fits = by_test (says_closing v)
  where
    by_test : (c : Bool) → (let b : BackBusAsk = if c then bus_ask.SetState state.Closing else ask_at v.stage v in bus_moves b r ≡ false → ring_moves b r ≡ false → IsStuck b r)
    by_test true = says_stuck (bus_ask.SetState state.Closing) r refl
    by_test false = stuck_at v.stage v r fits

-- a back that unmaps a page of the ring has one
unmapping_some : (s : BackStage) (order pages : ℕ) (bound : Bool) → BackHolds s order pages bound → IsUnmapping s → 0 < pages
unmapping_some ring_stage.UnmapRing order pages bound held is = held.0
unmapping_some ring_stage.UnmapUnbound order pages bound held is = held.0
unmapping_some s order pages bound held is = absurd is

-- so a move of the back keeps it, where it is one of its negotiation, or two, or none
module _ (P : Negotiation → Type 0) (keeps : (n : Negotiation) (page : Mapping) → P n → P (back_moved page n)) (w : World) (a : BackAct) (fit : IsFit w) (j : P (negotiation_of w)) (given : IsGiven a.answer) where
  abbrev v : View
  v = backend_of w

  abbrev b : BackBusAsk
  b = bus_ask_of v

  abbrev n : Negotiation
  n = negotiation_of w

  abbrev GoesTo : View → Type 0
  GoesTo x = P (with_back n x.bus a.under.keys)

  moved_to : is_backs_ring w ≡ true → bus_moves b w.rings.back.stage ≡ false → ring_moves b w.rings.back.stage ≡ true
      → (is_backs_ring w ≡ true → (ring_step.step_of w.rings.back a.answer).halted ≡ w.rings.back.halted)
      → back_act w.rings.under back_mover.Back (ring_ask.ask_of w.rings.back) Took ≡ Some a → GoesTo (backend_step.ring_moved b (ring_step.step_of w.rings.back a.answer) v a.answer)
  moved_to mine quiet moves unhalted e =
      let later : ring.View = ring_step.step_of w.rings.back a.answer in
      let told = ring_follows P keeps n w.rings.under refl j w.rings.back a b w.rings.back.stage refl refl quiet moves (λ is. subst (λ (pages : List Mapping). 0 < length pages) (sym fit.pages) (unmapping_some w.rings.back.stage w.back.terms.order (length w.back.pages) w.back.bound fit.held is)) (backs_of w.rings.back) e given in
      let same = halted_same later.halted (followed b w.back a.answer) (λ some. followed_halting b w.back a.answer (sym fit.halted ∙ (ap is_some (sym (unhalted mine)) ∙ some))) in
      subst (λ (u : BackView). P (with_back n (settled later.stage u) a.under.keys)) (sym same) (settled_holds P keeps later.stage (with_back n (followed b w.back a.answer) a.under.keys) told)

  waited_to : IsStuck b w.rings.back.stage → back_act w.rings.under back_mover.Back ask.Wait Took ≡ Some a → GoesTo (backend_step.ring_step false b v a.answer)
  waited_to asks e =
      subst (λ (c : BackBusAsk). P (with_back n (waited c w.back a.answer) a.under.keys)) (sym asks) (waits_holds P keeps n w.rings.under refl j a asks (quiet_act w.rings.under ask.Wait a tt e))

module _ (P : Negotiation → Type 0) (keeps : (n : Negotiation) (page : Mapping) → P n → P (back_moved page n)) where
  abbrev Moves : World → BackAct → BackAsk → View → Type 0
  Moves w a asked after = back_act w.rings.under back_mover.Back asked Took ≡ Some a → P (with_back (negotiation_of w) after.bus a.under.keys)

  pub back_keeps : (w : World) (a : BackAct) → IsFit w → P (negotiation_of w) → back_turn w ≡ Some a → IsGiven a.answer
      → (is_backs_ring w ≡ true → (ring_step.step_of w.rings.back a.answer).halted ≡ w.rings.back.halted)
      → P (record { front = w.front; back = (backend_step.step_of (backend_of w) a.answer).bus; keys = a.under.keys })
  back_keeps w a fit j e given unhalted = by_bus (bus_moves c s) refl e
    where
      x : View
      x = backend_of w

      c : BackBusAsk
      c = bus_ask_of x

      s : BackStage
      s = w.rings.back.stage

      by_ring : (m : Bool) → ring_moves c s ≡ m → bus_moves c s ≡ false → Moves w a (backend_ask.ring_ask m x) (backend_step.ring_step m c x a.answer)
      by_ring true moves quiet f = moved_to P keeps w a fit j given (rw (quiet, moves) refl) quiet moves unhalted f
      by_ring false still quiet f = waited_to P keeps w a fit j given (stuck_of w.back s fit.back quiet still) f

      by_bus : (m : Bool) → bus_moves c s ≡ m → Moves w a (if m then key_ask c else backend_ask.ring_ask (ring_moves c s) x) (if m then backend_step.spoken x a.answer else backend_step.ring_step (ring_moves c s) c x a.answer)
      by_bus true says f =
          settled_holds P keeps _ (with_back (negotiation_of w) (step_of w.back a.answer) a.under.keys)
          (keys_told P keeps c (negotiation_of w) w.rings.under a refl refl (both_true (speaks c) (is_between s) says).0 f j)
      by_bus false quiet f = by_ring (ring_moves c s) refl quiet f

-- so the negotiation goes on as a run
pub back_goes : (w : World) (a : BackAct) → IsFit w → Joined w → back_turn w ≡ Some a → IsGiven a.answer
    → (is_backs_ring w ≡ true → (ring_step.step_of w.rings.back a.answer).halted ≡ w.rings.back.halted)
    → Reached (record { front = w.front; back = (backend_step.step_of (backend_of w) a.answer).bus; keys = a.under.keys })
back_goes w a fit j e given unhalted = back_keeps Reached (λ n page reached. reached_one n (BackMoves page) tt tt reached) w a fit j e given unhalted
