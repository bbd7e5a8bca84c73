-- No watch is lost.
use Rattle.std.proofs.Common.{◌≡◌, ap, sym, subst, ℕ, ◌<◌, ◌⊎◌, Bool, true, false, true≢false, List, [], ◌∷◌, length, refl, arith, inl, inr}
use Rattle.std.specs.Prelude.{Option, None, Some}
use Rattle.blk_base.specs.declared.parts.Mapping.{Mapping}
use Rattle.key_directory.specs.Directory.{Directory, key_of}
use Rattle.key_directory.specs.Watches.{Watches, next_watch, with_watch, taken, fired, has_pending}
use Rattle.xenbus_state.specs.States.{state_read}
use Rattle.xenbus_state.specs.declared.keys.BackKey.{BackKey}
use Rattle.xenbus_state.specs.declared.keys.BackKey.TheVariants as back_key
use Rattle.xenbus_state.specs.Programs.{next_feature}
use Rattle.xenbus_state.specs.declared.offer.Features.{Features}
use Rattle.xenbus_state.specs.declared.offer.DiskFacts.{DiskFacts}
use Rattle.xenbus_state.specs.declared.state.BusState.{BusState}
use Rattle.xenbus_state.specs.declared.state.BusState.TheVariants as state
use Rattle.xenbus_state.specs.declared.stage.FrontBusStage.{FrontBusStage}
use Rattle.xenbus_state.specs.declared.stage.FrontBusStage.TheVariants as front
use Rattle.xenbus_state.specs.declared.stage.BackBusStage.{BackBusStage}
use Rattle.xenbus_state.specs.declared.stage.BackBusStage.TheVariants as back
use Rattle.xenbus_state.specs.declared.front.FrontBusAsk.{FrontBusAsk}
use Rattle.xenbus_state.specs.declared.front.FrontBusAsk.TheVariants as front_ask
use Rattle.xenbus_state.specs.declared.back.BackBusAsk.{BackBusAsk}
use Rattle.xenbus_state.specs.declared.back.BackBusAsk.TheVariants as back_ask
use Rattle.xenbus_state.specs.FrontView.{FrontView, closed}
use Rattle.xenbus_state.specs.FrontAsk as front_asks
use Rattle.xenbus_state.specs.FrontAsk.{due, due_at}
use Rattle.xenbus_state.specs.FrontStep as front_step
use Rattle.xenbus_state.specs.BackView.{BackView, unplugged}
use Rattle.xenbus_state.specs.BackAsk as back_asks
use Rattle.xenbus_state.specs.BackStep as back_step
use Rattle.xenbus_state.specs.BackSound.{IsPlaced}
use Rattle.xenbus_state.proofs.FrontRuns.{own_after, state_after}
use Rattle.negotiation_laws.specs.Negotiation.{Negotiation, front_path, back_path, front_state, back_state, front_answered, front_done, front_woken, front_moved, back_answered, back_done, back_woken, back_moved}
use Rattle.negotiation_laws.specs.Happening.{Happening, FrontMoves, BackMoves, FrontCloses, BackCloses, happened, after}
use Rattle.negotiation_laws.specs.Within.{HavePorts}
use Rattle.negotiation_laws.specs.Run.{now, begins}
use Rattle.negotiation_laws.specs.Heard.{front_listens, back_listens, front_heard_by, front_heard_in, front_heard, back_heard_by, back_heard_in, back_heard}
use Rattle.negotiation_laws.specs.Laws.{NoFrontWatchIsLost, NoBackWatchIsLost}
use Rattle.negotiation_laws.proofs.Choices.{back_move_cases, closed_cases, unplugged_cases}
use Rattle.negotiation_laws.proofs.Shown.{state_shown}
use Rattle.negotiation_laws.proofs.Watching.{sees_so, sees_kept, sees_fired, front_key_apart, back_key_apart}
use Rattle.negotiation_laws.proofs.Between.{back_own}
use Rattle.negotiation_laws.proofs.FrontSights.{due_sees}
use Rattle.negotiation_laws.proofs.BackSights.{back_state_at}
use Rattle.negotiation_laws.proofs.Holds.{Holds, start_holds, happening_holds, front_lawful}
use Rattle.negotiation_laws.proofs.Subjects.{Sees, FrontSees, BackSees}

-- a watch that stands in any case
never : {A : Type 0} → false ≡ true → A
never e = absurd (true≢false (sym e))

-- what the front has heard
module _ (b : BusState) (last : Option BusState) where
  woken_hears : (v : FrontView) (idle : Bool) (w : Watches) → Sees back_state w (last ≡ Some b)
      → front_listens (front_step.step_at front.Rest (front_step.at front.Rest v) idle (front_woken (next_watch w))).stage ≡ true
      → Sees back_state (taken w) (last ≡ Some b)
  woken_hears v idle w (inl e) listens =
      never (subst (λ (u : Watches). front_listens (front_step.step_at front.Rest (front_step.at front.Rest v) idle (front_woken (next_watch u))).stage ≡ true) e listens)
  woken_hears v idle w (inr (e, heard)) listens = inr (ap taken e, heard)

  ended_hears : (o : Option (List ℕ)) (v : FrontView) (idle : Bool) (w : Watches)
      → front_listens (front_step.step_at front.Closed (front_step.at front.Closed v) idle (front_woken o)).stage ≡ true
      → Sees back_state w (last ≡ Some b)
  ended_hears None v idle w listens = never listens
  ended_hears (Some path) v idle w listens = never listens

  broken_hears : (word : ℕ) (o : Option (List ℕ)) (v : FrontView) (idle : Bool) (w : Watches)
      → front_listens (front_step.step_at (front.Broken word) (front_step.at (front.Broken word) v) idle (front_woken o)).stage ≡ true
      → Sees back_state w (last ≡ Some b)
  broken_hears word None v idle w listens = never listens
  broken_hears word (Some path) v idle w listens = never listens

  front_hears_at : (s : FrontBusStage) (t : Negotiation) (idle : Bool) (port : ℕ)
      → state_read (key_of t.keys.keys back_state) ≡ Some b → FrontSees s t.front.closing t.front.state t.front.gone b t.keys.front
      → (front_listens s ≡ true → Sees back_state t.keys.front (last ≡ Some b))
      → front_listens (front_step.step_at s (front_step.at s t.front) idle (front_answered (front_asks.ask_at s t.front) port t.keys)).stage ≡ true
      → Sees back_state (front_done (front_asks.ask_at s t.front) t.keys).front (front_heard_by (front_asks.ask_at s t.front) t last ≡ Some b)
  front_hears_at front.Start t idle port shown sees h listens = inl (ap (λ (u : Watches). with_watch u back_state) sees)
  front_hears_at front.Rest t idle port shown sees h listens = woken_hears t.front idle t.keys.front (h refl) listens
  front_hears_at front.ReadState t idle port shown sees h listens =
      sees_so back_state t.keys.front (Unit {0}) (state_read (key_of t.keys.keys back_state) ≡ Some b) (λ u. shown) sees
  front_hears_at (front.Publish k) t idle port shown sees h listens = sees_kept back_state (front_path k) t.keys.front (last ≡ Some b) refl (h refl)
  front_hears_at (front.WriteState s) t idle port shown sees h listens = sees_kept back_state front_state t.keys.front (last ≡ Some b) refl (h refl)
  front_hears_at front.Closed t idle port shown sees h listens = ended_hears (next_watch t.keys.front) t.front idle (taken t.keys.front) listens
  front_hears_at (front.Broken word) t idle port shown sees h listens = broken_hears word (next_watch t.keys.front) t.front idle (taken t.keys.front) listens
  front_hears_at s t idle port shown sees h listens = h refl

  due_hears : (s : FrontBusStage) (v : FrontView) (idle : Bool) (w : Watches) → (front_listens s ≡ true → Sees back_state w (last ≡ Some b))
      → front_listens (due_at s v idle) ≡ true → Sees back_state w (last ≡ Some b)
  due_hears front.Rest v idle w h e = h refl
  due_hears s v idle w h e = h e

-- an ask of the back
back_ask_heard : (a : BackBusAsk) (d : Directory) (b : BusState) (last : Option BusState) → Sees back_state d.front (last ≡ Some b)
    → Sees back_state (back_done a d).front (last ≡ Some (back_own a b))
back_ask_heard (back_ask.SetState c) d b last h = sees_fired back_state back_state d.front (last ≡ Some b) (last ≡ Some c) refl h
back_ask_heard (back_ask.SetKey k value) d b last h = sees_kept back_state (back_path k) d.front (last ≡ Some b) (back_key_apart k) h
back_ask_heard back_ask.Wait d b last h = h
back_ask_heard a d b last h = h

back_move_heard : (t : Negotiation) (page : Mapping) (last : Option BusState) → Sees back_state t.keys.front (last ≡ Some t.back.state)
    → Sees back_state (back_moved page t).keys.front (last ≡ Some (back_moved page t).back.state)
back_move_heard t page last h =
    back_move_cases (λ (a : BackBusAsk) (w : BackView). Sees back_state (back_done a t.keys).front (last ≡ Some w.state)) t.back page t.keys (λ e. back_ask_heard (back_ask.SetState state.Closing) t.keys t.back.state last h)
    (λ e.
    let a = back_asks.ask_at t.back.stage t.back in
    subst (λ (s : BusState). Sees back_state (back_done a t.keys).front (last ≡ Some s)) (sym (back_state_at t.back.stage t.back page t.keys)) (back_ask_heard a t.keys t.back.state last h))

FrontHears : Negotiation → Option BusState → Type 0
FrontHears t last = front_listens t.front.stage ≡ true → Sees back_state t.keys.front (last ≡ Some t.back.state)

closed_hears : (t : Negotiation) (last : Option BusState) → FrontHears t last → FrontHears (record t { front = closed t.front }) last
unfolding FrontHears
closed_hears t last h = closed_cases (λ (v : FrontView). FrontHears (record t { front = v }) last) t.front h h

unplugged_hears : (t : Negotiation) (last : Option BusState) → FrontHears t last → FrontHears (record t { back = unplugged t.back }) last
unfolding FrontHears
unplugged_hears t last h = unplugged_cases (λ (v : BackView). FrontHears (record t { back = v }) last) t.back h h

front_hears_once : (f : Features) (d : DiskFacts) (x : Happening) (t : Negotiation) (last : Option BusState) → Holds f d t → FrontHears t last
    → FrontHears (happened x t) (front_heard_in x t last)
unfolding FrontHears
front_hears_once f d (FrontMoves idle port) t last h k =
    let s = due t.front idle in
    front_hears_at t.back.state last s t idle port (state_shown (key_of t.keys.keys back_state) t.back.state h.states.back) (due_sees t.back.state t.front.stage t.front idle t.keys.front h.front_sees) (due_hears t.back.state last t.front.stage t.front idle t.keys.front k)
front_hears_once f d (BackMoves page) t last h k = λ listens. back_move_heard t page last (k listens)
front_hears_once f d FrontCloses t last h k = closed_hears t last k
front_hears_once f d BackCloses t last h k = unplugged_hears t last k

all_heard : (f : Features) (d : DiskFacts) (xs : List Happening) (t : Negotiation) (last : Option BusState) → HavePorts xs → Holds f d t → FrontHears t last
    → FrontHears (after xs t) (front_heard xs t last)
all_heard f d [] t last fits h k = k
all_heard f d (x ∷ xs) t last fits h k = all_heard f d xs (happened x t) (front_heard_in x t last) fits.1 (happening_holds f d x t fits.0 h) (front_hears_once f d x t last h k)

told : (path : List ℕ) (w : Watches) (A : Type 0) → Sees path w A → (has_pending w ≡ true) ⊎ A
told path w A (inl e) = inl (ap has_pending e)
told path w A (inr (e, a)) = inr a

pub no_front_watch_lost : NoFrontWatchIsLost
unfolding FrontHears
no_front_watch_lost r listens =
    let hears = all_heard r.offer r.facts r.happenings (begins r) None r.ports (start_holds r.front r.offer r.facts r.within) never in
    told back_state (now r).keys.front (front_heard r.happenings (begins r) None ≡ Some (now r).back.state) (hears listens)

-- what the back has heard
module _ (fs : BusState) (last : Option BusState) where
  back_woken_hears : (v : BackView) (w : Watches) → Sees front_state w (last ≡ Some fs)
      → back_listens (back_step.step_at back.Rest (back_step.at back.Rest v) (back_woken (next_watch w))).stage ≡ true
      → Sees front_state (taken w) (last ≡ Some fs)
  back_woken_hears v w (inl e) listens =
      never (subst (λ (u : Watches). back_listens (back_step.step_at back.Rest (back_step.at back.Rest v) (back_woken (next_watch u))).stage ≡ true) e listens)
  back_woken_hears v w (inr (e, heard)) listens = inr (ap taken e, heard)

  halted_hears : (o : Option (List ℕ)) (v : BackView) (w : Watches)
      → back_listens (back_step.step_at back.Halted (back_step.at back.Halted v) (back_woken o)).stage ≡ true → Sees front_state w (last ≡ Some fs)
  halted_hears None v w listens = never listens
  halted_hears (Some path) v w listens = never listens

  offered_hears : (k : BackKey) (w : Watches) → back_listens (back_step.after_feature (next_feature k)) ≡ true → Sees front_state w (last ≡ Some fs)
  offered_hears back_key.FeatureBarrier w listens = never listens
  offered_hears k w listens = never listens

  written_hears : (s : BusState) (w : Watches) → (back_listens (back.WriteState s) ≡ true → Sees front_state w (last ≡ Some fs))
      → back_listens (back_step.after_state s) ≡ true → Sees front_state (fired w back_state) (last ≡ Some fs)
  written_hears state.InitWait w h listens = never listens
  written_hears s w h listens = sees_kept front_state back_state w (last ≡ Some fs) refl (h refl)

  unmap_hears : (pages : List Mapping) (t : Negotiation) → 0 < length pages → Sees front_state t.keys.back (last ≡ Some fs)
      → Sees front_state (back_done (back_asks.unmap_ask pages) t.keys).back (back_heard_by (back_asks.unmap_ask pages) t last ≡ Some fs)
  unmap_hears [] t some h = absurd (omega arith)
  unmap_hears (page ∷ pages) t some h = h

  back_hears_at : (s : BackBusStage) (t : Negotiation) (page : Mapping) → state_read (key_of t.keys.keys front_state) ≡ Some fs
      → IsPlaced s t.back → BackSees s t.back.state fs t.keys.back → (back_listens s ≡ true → Sees front_state t.keys.back (last ≡ Some fs))
      → back_listens (back_step.step_at s (back_step.at s t.back) (back_answered (back_asks.ask_at s t.back) page t.keys)).stage ≡ true
      → Sees front_state (back_done (back_asks.ask_at s t.back) t.keys).back (back_heard_by (back_asks.ask_at s t.back) t last ≡ Some fs)
  back_hears_at (back.Publish k) t page shown placed sees h listens = offered_hears k (fired t.keys.back (back_path k)) listens
  back_hears_at (back.WriteState s) t page shown placed sees h listens = written_hears s t.keys.back h listens
  back_hears_at back.Watch t page shown placed sees h listens = inl (ap (λ (u : Watches). with_watch u front_state) sees)
  back_hears_at back.Rest t page shown placed sees h listens = back_woken_hears t.back t.keys.back (h refl) listens
  back_hears_at back.ReadState t page shown placed sees h listens =
      sees_so front_state t.keys.back (Unit {0}) (state_read (key_of t.keys.keys front_state) ≡ Some fs) (λ u. shown) sees
  back_hears_at (back.PublishFact k) t page shown placed sees h listens = sees_kept front_state (back_path k) t.keys.back (last ≡ Some fs) refl (h refl)
  back_hears_at back.UnmapPage t page shown placed sees h listens = unmap_hears t.back.pages t placed.1 (h refl)
  back_hears_at back.Halted t page shown placed sees h listens = halted_hears (next_watch t.keys.back) t.back (taken t.keys.back) listens
  back_hears_at s t page shown placed sees h listens = h refl

-- an ask of the front
front_ask_heard : (a : FrontBusAsk) (d : Directory) (fs : BusState) (last : Option BusState) → Sees front_state d.back (last ≡ Some fs)
    → Sees front_state (front_done a d).back (last ≡ Some (own_after a fs))
unfolding own_after
front_ask_heard (front_ask.SetState c) d fs last h = sees_fired front_state front_state d.back (last ≡ Some fs) (last ≡ Some c) refl h
front_ask_heard (front_ask.SetKey k value) d fs last h = sees_kept front_state (front_path k) d.back (last ≡ Some fs) (front_key_apart k) h
front_ask_heard front_ask.Wait d fs last h = h
front_ask_heard a d fs last h = h

front_move_heard : (t : Negotiation) (idle : Bool) (port : ℕ) (last : Option BusState)
    → Sees front_state t.keys.back (last ≡ Some t.front.state)
    → Sees front_state (front_moved idle port t).keys.back (last ≡ Some (front_moved idle port t).front.state)
front_move_heard t idle port last h =
    let a = front_asks.ask_of t.front idle in
    let wrote = state_after t.front idle (front_answered a port t.keys) (front_lawful a port t.keys) in
    subst (λ (s : BusState). Sees front_state (front_done a t.keys).back (last ≡ Some s)) (sym wrote) (front_ask_heard a t.keys t.front.state last h)

BackHears : Negotiation → Option BusState → Type 0
BackHears t last = back_listens t.back.stage ≡ true → Sees front_state t.keys.back (last ≡ Some t.front.state)

-- a back that says that it closes hears as before
back_move_hears : (f : Features) (d : DiskFacts) (t : Negotiation) (page : Mapping) (last : Option BusState) → Holds f d t → BackHears t last
    → BackHears (back_moved page t) (back_heard_by (back_asks.ask_of t.back) t last)
unfolding BackHears
back_move_hears f d t page last h k =
    back_move_cases (λ (a : BackBusAsk) (w : BackView). back_listens w.stage ≡ true → Sees front_state (back_done a t.keys).back (back_heard_by a t last ≡ Some t.front.state)) t.back page t.keys
    (λ e listens. sees_kept front_state back_state t.keys.back (last ≡ Some t.front.state) refl (k listens))
    (λ e. back_hears_at t.front.state last t.back.stage t page (state_shown (key_of t.keys.keys front_state) t.front.state h.states.front) h.back_sound.placed h.back_sees k)

back_closed_hears : (t : Negotiation) (last : Option BusState) → BackHears t last → BackHears (record t { front = closed t.front }) last
unfolding BackHears
back_closed_hears t last h = closed_cases (λ (v : FrontView). BackHears (record t { front = v }) last) t.front h h

back_unplugged_hears : (t : Negotiation) (last : Option BusState) → BackHears t last → BackHears (record t { back = unplugged t.back }) last
unfolding BackHears
back_unplugged_hears t last h = unplugged_cases (λ (v : BackView). BackHears (record t { back = v }) last) t.back h h

back_hears_once : (f : Features) (d : DiskFacts) (x : Happening) (t : Negotiation) (last : Option BusState) → Holds f d t → BackHears t last
    → BackHears (happened x t) (back_heard_in x t last)
unfolding BackHears
back_hears_once f d (FrontMoves idle port) t last h k = λ listens. front_move_heard t idle port last (k listens)
back_hears_once f d (BackMoves page) t last h k = back_move_hears f d t page last h k
back_hears_once f d FrontCloses t last h k = back_closed_hears t last k
back_hears_once f d BackCloses t last h k = back_unplugged_hears t last k

all_back_heard : (f : Features) (d : DiskFacts) (xs : List Happening) (t : Negotiation) (last : Option BusState) → HavePorts xs → Holds f d t → BackHears t last
    → BackHears (after xs t) (back_heard xs t last)
all_back_heard f d [] t last fits h k = k
all_back_heard f d (x ∷ xs) t last fits h k =
    all_back_heard f d xs (happened x t) (back_heard_in x t last) fits.1 (happening_holds f d x t fits.0 h) (back_hears_once f d x t last h k)

pub no_back_watch_lost : NoBackWatchIsLost
unfolding BackHears
no_back_watch_lost r listens =
    let hears = all_back_heard r.offer r.facts r.happenings (begins r) None r.ports (start_holds r.front r.offer r.facts r.within) never in
    told front_state (now r).keys.back (back_heard r.happenings (begins r) None ≡ Some (now r).front.state) (hears listens)
