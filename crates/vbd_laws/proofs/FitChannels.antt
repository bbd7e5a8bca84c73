-- No event is pending where no port is made, nor at the back before it binds one.
use Rattle.std.proofs.Common.{◌≡◌, ℕ, ◌+◌, Bool, true, false, true≢false, ◌||◌, if◌then◌else◌, List, [], ◌∷◌, ◌++◌, length, map, inl, inr, refl, sym, ap, ◌∙◌, subst, arith, length-append}
use Rattle.std.specs.Prelude.{Some, Result, Ok, Err, nat_lt, slice_set}
use Rattle.std.specs.List.{list_any}
use Rattle.std.proofs.lemmas.List.{length-set}
use Rattle.std.proofs.lemmas.List.Folds.{list_any-append}
use Rattle.blk_base.specs.declared.parts.Mode.TheVariants.{ReadWrite}
use Rattle.blk_base.specs.declared.parts.End.TheVariants as end
use Rattle.blk_base.specs.declared.ask.FrontAsk.{FrontAsk}
use Rattle.blk_base.specs.declared.ask.BackAsk.{BackAsk}
use Rattle.blk_base.specs.declared.moves.BackMover.{BackMover}
use Rattle.blk_base.specs.declared.moves.BackMover.TheVariants as back_mover
use Rattle.grant_table.specs.declared.entry.MapRefusal.{MapRefusal}
use Rattle.grant_table.specs.Table.{verdict_at}
use Rattle.event_channel.specs.declared.channels.PortState.{PortState}
use Rattle.event_channel.specs.declared.channels.PortState.TheVariants as port
use Rattle.event_channel.specs.Channels.{ChannelState, state_of, place_of, with_port, bound, is_bound_port, is_bound, sent, taken, closed, closed_port, unbound_port}
use Rattle.hypervisor.specs.Hypervisor.{Hypervisor}
use Rattle.hypervisor.specs.Act.{FrontAct, BackAct, Outcome, front_act, back_act, map_act, bind_act}
use Rattle.blk_back.specs.declared.stage.BackStage.{BackStage}
use Rattle.blk_back.specs.declared.stage.BackStage.TheVariants as stage
use Rattle.blk_back.specs.View.{View}
use Rattle.blk_back.specs.Ask.{next_gref, ask_at, ask_of}
use Rattle.blk_back.specs.Step.{unbound, step_at, step_of}
use Rattle.split_model.proofs.Outside.{AreSent}
use Rattle.split_model.proofs.Acting.{FrontEvent, FrontPort, FrontSend, FrontClose, front_acts, BackEvent, BackWatched, BackSet, BackWatch, BackBind, BackSend, BackClose, back_acts}
use Rattle.split_model.proofs.SafeActs.{of_back, back_wait}
use Rattle.split_model.proofs.SafeAnswers.{IsFronts, IsBacks, IsJobs}
use Rattle.vbd_model.specs.Fit.{IsUnbound}
use Rattle.vbd_laws.proofs.FitBackRing.{is_past, unbound_past, past_step}

-- no event is pending at a front that made no port
abbrev pub IsUnported : ChannelState → Type 0
IsUnported c = c.ports ≡ [] → c.front_pending ≡ false

-- what becomes of the channels at a move of the front's end of the ring
front_channels : (P : ChannelState → Type 0) (h : Hypervisor) (ask : FrontAsk) (a : FrontAct)
    → P h.channels → P (taken h.channels end.Front) → P (with_port h.channels) → P (sent h.channels end.Front) → P (closed h.channels end.Front) → front_act h ask ≡ Some a → P a.under.channels
front_channels P h ask a same takes ports sends closes e = elim (front_acts h ask a e) as (λ asked x acts. P x.under.channels) [
  | FrontEvent ↦ takes
  | FrontPort ↦ ports
  | FrontSend ↦ sends
  | FrontClose ↦ closes
  | acts ↦ same
]

one_more : (ports : List PortState) → ports ++ port.Unbound ∷ [] ≡ [] → ⊥
one_more ports e = let more = length-append ports (port.Unbound ∷ []) in let none = ap (λ (l : List PortState). length l) e in omega arith

pub unported_front : (h : Hypervisor) (c : ChannelState) (ask : FrontAsk) (a : FrontAct) → IsFronts c ask → IsUnported h.channels → front_act h ask ≡ Some a → IsUnported a.under.channels
unported_front h c ask a own was e = front_channels IsUnported h ask a was (λ none. refl) (λ none. absurd (one_more h.channels.ports none)) was (λ none. refl) e

-- no port is bound, and no event is pending at the back
abbrev IsQuiet : ChannelState → Type 0
IsQuiet c = (is_bound c ≡ false) × (c.back_pending ≡ false)

quiet_sent : (c : ChannelState) → IsQuiet c → IsQuiet (sent c end.Front)
quiet_sent c was = (was.0, by_test (is_bound c) was.0)
  where
    by_test : (b : Bool) → b ≡ false → (if b then true else c.back_pending) ≡ false
    by_test true h = absurd (true≢false h)
    by_test false h = was.1

quiet_port : (c : ChannelState) → IsQuiet c → IsQuiet (with_port c)
quiet_port c was = (list_any-append is_bound_port c.ports (port.Unbound ∷ []) ∙ ap (λ (b : Bool). b || false) was.0, was.1)

quiet_closed : (c : ChannelState) → IsQuiet c → IsQuiet (closed c end.Front)
quiet_closed c was = (none_bound c.ports, was.1)
  where
    none_bound : (ports : List PortState) → list_any is_bound_port (map closed_port ports) ≡ false
    none_bound [] = refl
    none_bound (p ∷ ports) = none_bound ports

unbound_as : (s : BackStage) (c d : ChannelState) → (IsQuiet c → IsQuiet d) → IsUnbound s c → IsUnbound s d
unbound_as stage.InitWait c d into was = into was
unbound_as stage.MapRing c d into was = into was
unbound_as stage.Bind c d into was = into was
unbound_as s c d into was = tt

pub unbound_front : (s : BackStage) (h : Hypervisor) (c : ChannelState) (ask : FrontAsk) (a : FrontAct) → IsFronts c ask → IsUnbound s h.channels → front_act h ask ≡ Some a
    → IsUnbound s a.under.channels
unbound_front s h c ask a own was e =
    front_channels (λ (d : ChannelState). IsUnbound s d) h ask a was (unbound_as s h.channels (taken h.channels end.Front) (λ q. q) was)
    (unbound_as s h.channels (with_port h.channels) (quiet_port h.channels) was) (unbound_as s h.channels (sent h.channels end.Front) (quiet_sent h.channels) was) (unbound_as s h.channels (closed h.channels end.Front) (quiet_closed h.channels) was) e

-- what becomes of the channels at a move of the back's end of the ring
back_channels : (P : ChannelState → Type 0) (h : Hypervisor) (ask : BackAsk) (o : Outcome) (a : BackAct)
    → P h.channels → P (taken h.channels end.Back) → ((p : ℕ) → P (bound h.channels p)) → P (sent h.channels end.Back) → P (closed h.channels end.Back)
    → back_act h back_mover.Back ask o ≡ Some a → P a.under.channels
back_channels P h ask o a same takes binds sends closes e = elim (back_acts h back_mover.Back ask o a e) as (λ who asked outcome x acts. P x.under.channels) [
  | BackEvent ↦ takes
  | BackBind p is ↦ binds p
  | BackSend ↦ sends
  | BackClose ↦ closes
  | acts ↦ same
]

set_empty : (ports : List PortState) (i : ℕ) (p : PortState) → slice_set ports i p ≡ [] → ports ≡ []
set_empty [] i p e = refl
set_empty (x ∷ ports) i p e = let as_many = length-set (x ∷ ports) i p in let none = ap (λ (l : List PortState). length l) e in absurd (omega arith)

map_empty : (f : PortState → PortState) (ports : List PortState) → map f ports ≡ [] → ports ≡ []
map_empty f [] e = refl
map_empty f (x ∷ ports) e = let none = ap (λ (l : List PortState). length l) e in absurd (omega arith)

-- an event that is sent where no port is made is lost
sent_unported : (c : ChannelState) → IsUnported c → IsUnported (sent c end.Back)
sent_unported c was none = by_test (is_bound c) (ap (list_any is_bound_port) none)
  where
    by_test : (b : Bool) → b ≡ false → (if b then true else c.front_pending) ≡ false
    by_test true h = absurd (true≢false h)
    by_test false h = was none

pub unported_back : (h : Hypervisor) (ask : BackAsk) (o : Outcome) (a : BackAct) → IsBacks ask → IsUnported h.channels → back_act h back_mover.Back ask o ≡ Some a → IsUnported a.under.channels
unported_back h ask o a own was e =
    back_channels IsUnported h ask o a was was (λ p none. was (set_empty h.channels.ports (place_of h.channels p) port.Bound none)) (sent_unported h.channels was)
    (λ none. was (map_empty unbound_port h.channels.ports none)) e

-- past its port's bind nothing is said of the back's channels
pub past_unbound : (s : BackStage) (c : ChannelState) → is_past s ≡ true → IsUnbound s c
past_unbound stage.InitWait c past = absurd (true≢false (sym past))
past_unbound stage.MapRing c past = absurd (true≢false (sym past))
past_unbound stage.Bind c past = absurd (true≢false (sym past))
past_unbound s c past = tt

mapped_unbound : (again : Bool) (c : ChannelState) → IsQuiet c → IsUnbound (if again then stage.MapRing else stage.Bind) c
mapped_unbound true c was = was
mapped_unbound false c was = was

map_unbound : (v : View) (h : Hypervisor) (gref : ℕ) (verdict : Result ℕ MapRefusal) → IsQuiet h.channels
    → let a = map_act h back_mover.Back gref ReadWrite verdict in IsUnbound (step_at stage.MapRing v a.answer).stage a.under.channels
map_unbound v h gref (Ok frame) was = mapped_unbound (nat_lt (length v.pages + 1) (length v.grefs)) h.channels was
map_unbound v h gref (Err refusal) was = past_unbound (unbound v.pages) h.channels (unbound_past v.pages)

bind_unbound : (v : View) (h : Hypervisor) (p : ℕ) (state : PortState) → let a = bind_act h p state in IsUnbound (step_at stage.Bind v a.answer).stage a.under.channels
bind_unbound v h p port.Unbound = tt
bind_unbound v h p other = past_unbound (unbound v.pages) h.channels (unbound_past v.pages)

unbound_at : (s : BackStage) (v : View) (h : Hypervisor) (o : Outcome) (a : BackAct) → v.stage ≡ s → IsUnbound s h.channels → back_act h back_mover.Back (ask_at s v) o ≡ Some a
    → IsUnbound (step_at s v a.answer).stage a.under.channels
unbound_at stage.InitWait v h o a here was e =
    rw here (back_wait (λ (x : BackAct). IsQuiet x.under.channels) h back_mover.Back a (was.0, refl) (λ path. was) e)
unbound_at stage.MapRing v h o a here was e =
    of_back (λ (x : BackAct). IsUnbound (step_at stage.MapRing v x.answer).stage x.under.channels) _ a (map_unbound v h (next_gref v) (verdict_at h.pages (next_gref v) ReadWrite) was) e
unbound_at stage.Bind v h o a here was e =
    of_back (λ (x : BackAct). IsUnbound (step_at stage.Bind v x.answer).stage x.under.channels) _ a (bind_unbound v h v.ring.port (state_of h.channels v.ring.port)) e
unbound_at s v h o a here was e =
    past_unbound (step_at s v a.answer).stage a.under.channels (subst (λ (t : BackStage). is_past (step_at t v a.answer).stage ≡ true) here (past_step v a.answer (ap is_past here)))

pub unbound_back : (v : View) (h : Hypervisor) (o : Outcome) (a : BackAct) → IsUnbound v.stage h.channels → back_act h back_mover.Back (ask_of v) o ≡ Some a
    → IsUnbound (step_of v a.answer).stage a.under.channels
unbound_back v h o a was e = unbound_at v.stage v h o a refl was e

-- a job leaves the channels and the keys
abbrev pub Leaves : Hypervisor → BackAct → Type 0
Leaves h a = (a.under.channels ≡ h.channels) × (a.under.keys ≡ h.keys)

abbrev pub IsOfJob : BackMover → Type 0
IsOfJob back_mover.Back = ⊥
IsOfJob (back_mover.Job k) = Unit {0}

pub job_leaves : (h : Hypervisor) (k : ℕ) (ask : BackAsk) (o : Outcome) (a : BackAct) → IsJobs ask → back_act h (back_mover.Job k) ask o ≡ Some a → Leaves h a
job_leaves h k ask o a own e = (elim (back_acts h (back_mover.Job k) ask o a e) as (λ who asked outcome x acts. IsOfJob who → IsJobs asked → Leaves h x) [
  | BackEvent ↦ λ job own. absurd job
  | BackWatched path first ↦ λ job own. absurd job
  | BackSet path text is ↦ λ job own. absurd job
  | BackWatch path ↦ λ job own. absurd job
  | BackBind p is ↦ λ job own. absurd own
  | BackSend ↦ λ job own. absurd own
  | BackClose ↦ λ job own. absurd own
  | acts ↦ λ job own. (refl, refl)
]) tt own

-- an event comes at a bound port alone
pub sent_fits : (s : BackStage) (c now : ChannelState) → AreSent c now → IsUnported c → IsUnbound s c → IsUnported now × IsUnbound s now
sent_fits s c now (inl same) unported unbound = (rw same unported, rw same unbound)
sent_fits s c now (inr (end.Front, same)) unported unbound = rw same (unported, unbound_as s c (sent c end.Front) (quiet_sent c) unbound)
sent_fits s c now (inr (end.Back, same)) unported unbound = rw same (sent_unported c unported, unbound_as s c (sent c end.Back) (λ q. q) unbound)
