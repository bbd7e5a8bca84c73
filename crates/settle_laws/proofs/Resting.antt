-- An end that has no act waits, with nothing to take; and where neither end has one and no job is held, all is quiet.
use Rattle.std.proofs.Common.{◌≡◌, sym, subst, ◌||◌, not, Bool, true, false, List, [], ◌∷◌, refl, if◌then◌else◌, ℕ}
use Rattle.std.specs.Prelude.{Option, Some, None}
use Rattle.std.proofs.lemmas.Option.{none-some}
use Rattle.blk_base.specs.declared.parts.End.TheVariants as end
use Rattle.blk_base.specs.declared.moves.BackMover.TheVariants as back_mover
use Rattle.blk_base.specs.declared.ask.FrontAsk.{FrontAsk}
use Rattle.blk_base.specs.declared.ask.FrontAsk.TheVariants as front_ask
use Rattle.blk_base.specs.declared.ask.BackAsk.{BackAsk}
use Rattle.blk_base.specs.declared.ask.BackAsk.TheVariants as back_ask
use Rattle.key_directory.specs.Watches.{Watches, next_watch, has_pending, is_empty_list, first_of}
use Rattle.key_directory.specs.Directory.{watches_of}
use Rattle.event_channel.specs.Channels.{is_pending}
use Rattle.hypervisor.specs.Hypervisor.{Hypervisor}
use Rattle.hypervisor.specs.Act.{Took, front_act, back_act, front_watched, back_watched, watch_next, has_to_take}
use Rattle.blk_front.specs.Submit.{is_wait}
use Rattle.blk_back.specs.Ask as ring_ask
use Rattle.split_model.proofs.SafeActs.{front_event, back_event}
use Rattle.line_text.proofs.Both.{both_true}
use Rattle.split_model.proofs.SafeAnswers.{AsksNoKey, fronts_no_key, IsBacks, backs_of}
use Rattle.vbd_front.specs.Ask as front
use Rattle.vbd_back.specs.Ask as back
use Rattle.vbd_model.specs.World.{World, frontend_of, backend_of}
use Rattle.vbd_model.specs.Happening.{front_turn, back_turn}
use Rattle.vbd_laws.proofs.MovesTurns.{front_asks, back_asks, front_cases, back_cases, front_speaks, back_speaks}

-- it waits, and neither an event is pending nor a watch
abbrev pub FrontRests : Hypervisor → FrontAsk → Type 0
FrontRests h ask = (is_wait ask ≡ true) × (has_to_take h end.Front ≡ false)

abbrev pub BackRests : Hypervisor → BackAsk → Type 0
BackRests h ask = (ring_ask.is_wait ask ≡ true) × (has_to_take h end.Back ≡ false)

none_fired : (pending : List (List ℕ)) → first_of pending ≡ None → not (is_empty_list pending) ≡ false
none_fired [] none = refl
none_fired (path ∷ later) none = absurd (none-some path (sym none))

-- nothing is pending where the wait has no act
nothing_to_take : (pending : Bool) (w : Watches) → pending ≡ false → next_watch w ≡ None → (pending || has_pending w) ≡ false
nothing_to_take pending w none unfired = rw none (none_fired w.pending unfired)

untaken : {A : Type 0} (pending : Bool) (fired : Option (List ℕ)) (event : A) (watched : Option (List ℕ) → Option A) → ((path : List ℕ) → watched (Some path) ≡ None → ⊥) → (if pending then Some event else watched fired) ≡ None → (pending ≡ false) × (fired ≡ None)
untaken true fired event watched some none = absurd (none-some event (sym none))
untaken false None event watched some none = (refl, refl)
untaken false (Some path) event watched some none = absurd (some path none)

front_waits : (h : Hypervisor) → front_act h front_ask.Wait ≡ None → has_to_take h end.Front ≡ false
front_waits h none =
    let both = untaken (is_pending h.channels end.Front) (watch_next h end.Front) (front_event h) (front_watched h) (λ path e. none-some _ (sym e)) none in
    nothing_to_take (is_pending h.channels end.Front) (watches_of h.keys end.Front) both.0 both.1

back_waits : (h : Hypervisor) → back_act h back_mover.Back back_ask.Wait Took ≡ None → has_to_take h end.Back ≡ false
back_waits h none =
    let both = untaken (is_pending h.channels end.Back) (watch_next h end.Back) (back_event h) (back_watched h) (λ path e. none-some _ (sym e)) none in
    nothing_to_take (is_pending h.channels end.Back) (watches_of h.keys end.Back) both.0 both.1

-- an act of an ask that isn't to wait is none only of one for a key
front_none : (h : Hypervisor) (ask : FrontAsk) → AsksNoKey ask → front_act h ask ≡ None → FrontRests h ask
front_none h front_ask.Wait own none = (refl, front_waits h none)
front_none h front_ask.Fence own none = absurd (none-some _ (sym none))
front_none h (front_ask.Read frame word) own none = absurd (none-some _ (sym none))
front_none h (front_ask.Write frame word value) own none = absurd (none-some _ (sym none))
front_none h (front_ask.Cas frame word old new) own none = absurd (none-some _ (sym none))
front_none h front_ask.NewPort own none = absurd (none-some _ (sym none))
front_none h front_ask.Send own none = absurd (none-some _ (sym none))
front_none h front_ask.ClosePort own none = absurd (none-some _ (sym none))
front_none h ask own none = absurd own

pub front_rests : (w : World) → front_turn w ≡ None → FrontRests w.rings.under (front.ask_of (frontend_of w))
front_rests w none =
    front_cases (λ does asked step. front_act w.rings.under asked ≡ None → FrontRests w.rings.under asked) w
    (λ says e. absurd (front_speaks w.rings.under (front_asks w) says e))
    (λ quiet moves e. front_none w.rings.under _ (fronts_no_key w.rings.front) e)
    (λ quiet still e. (refl, front_waits w.rings.under e)) none

back_none : (h : Hypervisor) (ask : BackAsk) → IsBacks ask → back_act h back_mover.Back ask Took ≡ None → BackRests h ask
back_none h back_ask.Wait own none = (refl, back_waits h none)
back_none h back_ask.Fence own none = absurd (none-some _ (sym none))
back_none h (back_ask.Read m word) own none = absurd (none-some _ (sym none))
back_none h (back_ask.Write m word value) own none = absurd (none-some _ (sym none))
back_none h (back_ask.Map gref mode) own none = absurd (none-some _ (sym none))
back_none h (back_ask.Unmap m) own none = absurd (none-some _ (sym none))
back_none h (back_ask.Bind port) own none = absurd (none-some _ (sym none))
back_none h back_ask.Send own none = absurd (none-some _ (sym none))
back_none h back_ask.ClosePort own none = absurd (none-some _ (sym none))
back_none h ask own none = absurd own

pub back_rests : (w : World) → back_turn w ≡ None → BackRests w.rings.under (back.ask_of (backend_of w))
back_rests w none =
    back_cases (λ does asked step. back_act w.rings.under back_mover.Back asked Took ≡ None → BackRests w.rings.under asked) w
    (λ says untaken e. absurd (back_speaks w.rings.under (back_asks w) (speaks_so says) e))
    (λ says takes e. absurd (back_speaks w.rings.under (back_asks w) (speaks_so says) e))
    (λ quiet moves e. back_none w.rings.under _ (backs_of w.rings.back) e)
    (λ quiet still e. (refl, back_waits w.rings.under e)) none
  where
    speaks_so : back.bus_moves (back_asks w) w.rings.back.stage ≡ true → back.speaks (back_asks w) ≡ true
    speaks_so says = (both_true (back.speaks (back_asks w)) (back.is_between w.rings.back.stage) says).0
