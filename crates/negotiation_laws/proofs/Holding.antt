-- The ring stays granted, and the port made, as long as the back has them.
use Rattle.std.proofs.Common.{◌≡◌, ◌∙◌, ap, sym, ℕ, ◌+◌, ◌<◌, ◌⊎◌, nat_lt, Bool, true, false, true≢false, List, [], ◌∷◌, length, refl, arith, if◌then◌else◌, inl, inr}
use Rattle.std.specs.Prelude.{Option, None, Some}
use Rattle.blk_base.specs.declared.parts.Mapping.{Mapping}
use Rattle.key_directory.specs.Directory.{Directory, key_of}
use Rattle.key_directory.specs.Watches.{next_watch}
use Rattle.xenbus_state.specs.States.{state_number, state_read}
use Rattle.xenbus_state.specs.Tables.{back_action}
use Rattle.xenbus_state.specs.Programs.{next_fact}
use Rattle.xenbus_state.specs.declared.keys.FrontKey.{FrontKey}
use Rattle.xenbus_state.specs.declared.keys.BackKey.{BackKey}
use Rattle.xenbus_state.specs.declared.keys.BackKey.TheVariants as back_key
use Rattle.xenbus_state.specs.declared.offer.Features.{Features}
use Rattle.xenbus_state.specs.declared.offer.DiskFacts.{DiskFacts}
use Rattle.xenbus_state.specs.declared.values.FrontTerms.{FrontTerms}
use Rattle.xenbus_state.specs.declared.state.BusState.{BusState}
use Rattle.xenbus_state.specs.declared.state.BusState.TheVariants as state
use Rattle.xenbus_state.specs.declared.stage.BackBusStage.{BackBusStage}
use Rattle.xenbus_state.specs.declared.stage.BackBusStage.TheVariants as back
use Rattle.xenbus_state.specs.declared.table.BackAction.{BackAction}
use Rattle.xenbus_state.specs.declared.table.BackAction.TheVariants as back_act
use Rattle.xenbus_state.specs.FrontView.{terms_of}
use Rattle.xenbus_state.specs.declared.back.BackBusAsk.{BackBusAsk}
use Rattle.xenbus_state.specs.BackView.{BackView, unplugged}
use Rattle.xenbus_state.specs.BackAsk as back_asks
use Rattle.xenbus_state.specs.BackReading as reading
use Rattle.xenbus_state.specs.BackStep as back_step
use Rattle.xenbus_state.specs.BackSound.{IsPlaced, IsWriting}
use Rattle.xenbus_state.proofs.BackKeeps.{says_where}
use Rattle.negotiation_laws.specs.Negotiation.{Negotiation, front_path, front_state, back_answered, back_woken, back_moved}
use Rattle.negotiation_laws.specs.Happening.{Happening, BackMoves, BackCloses, happened, after}
use Rattle.negotiation_laws.specs.Within.{HavePorts}
use Rattle.negotiation_laws.specs.Run.{NegotiationRun, now, begins}
use Rattle.negotiation_laws.specs.Said.{back_texts}
use Rattle.negotiation_laws.specs.Laws.{TheRingOutlastsTheBack}
use Rattle.negotiation_laws.proofs.Choices.{back_move_cases, unplugged_cases}
use Rattle.negotiation_laws.proofs.BackSteps.{key_holds}
use Rattle.negotiation_laws.proofs.Shows.{serving_open}
use Rattle.negotiation_laws.proofs.Holds.{Holds, start_holds, happening_holds, front_shows}
use Rattle.negotiation_laws.proofs.Found.{run_holds}
use Rattle.negotiation_laws.proofs.Granting.{run_granted, some_port}
use Rattle.negotiation_laws.proofs.Subjects.{serves, BackRead, BackHolds}

-- a back that has a page of the ring mapped, or a port bound
abbrev HasRing : List Mapping → Bool → Type 0
HasRing pages bound = (0 < length pages) ⊎ (bound ≡ true)

has_none : (pages : List Mapping) (bound : Bool) → length pages ≡ 0 → bound ≡ false → HasRing pages bound → ⊥
has_none pages bound none unbound (inl some) = omega arith
has_none pages bound none unbound (inr e) = true≢false (sym e ∙ unbound)

-- goes by the front's terms
abbrev IsServing : BackView → Type 0
IsServing w = HasRing w.pages w.bound → serves w.stage w.state ≡ true

written_serving : (s : BusState) (v : BackView) → IsWriting s v → IsServing (record v { state = s; stage = back_step.after_state s })
written_serving state.InitWait v w has = absurd (has_none v.pages v.bound w.1.pages w.1.bound has)
written_serving state.Connected v w has = refl
written_serving state.Closing v w has = absurd (has_none v.pages v.bound w.1.pages w.1.bound has)
written_serving state.Closed v w has = absurd (has_none v.pages v.bound w.1.pages w.1.bound has)
written_serving s v w has = absurd w

woken_serving : (s : BackBusStage) (o : Option (List ℕ)) (v : BackView) → (HasRing v.pages v.bound → serves s v.state ≡ true)
    → IsServing (back_step.step_at s (back_step.at s v) (back_woken o))
woken_serving back.Rest None v k has = k has
woken_serving back.Rest (Some path) v k has = k has
woken_serving s None v k has = k has
woken_serving s (Some path) v k has = k has

halted_serving : (own : BusState) → serves back.ReadState own ≡ true → serves back.UnmapOthers own ≡ true
halted_serving state.Connected e = refl
halted_serving state.Closing e = refl
halted_serving own e = absurd (cc)

acted_serving : (act : BackAction) (v : BackView) → (HasRing v.pages v.bound → serves back.ReadState v.state ≡ true)
    → IsServing (back_step.acted act (back_step.at back.ReadState v))
acted_serving back_act.Nothing v k has = k has
acted_serving back_act.Connect v k has = refl
acted_serving (back_act.Halt reason) v k has = halted_serving v.state (k has)

map_serving : (more : Bool) (own : BusState) → serves (if more then back.MapPage else back.Bind) own ≡ true
map_serving true own = refl
map_serving false own = refl

fact_serving : (k : BackKey) (own : BusState) → serves (back_step.after_fact (next_fact k)) own ≡ true
fact_serving back_key.Sectors own = refl
fact_serving k own = refl

giving_serving : (pages : List Mapping) (bound : Bool) (own : BusState) → serves back.UnmapOthers own ≡ true → HasRing pages bound
    → serves (back_step.unmapping_next pages bound own) own ≡ true
giving_serving (page ∷ pages) bound own e has = e
giving_serving [] true own e has = e
giving_serving [] false own e has = absurd (has_none [] false refl refl has)

unmap_serving : (pages : List Mapping) (v : BackView) (page : Mapping) (d : Directory) → 0 < length pages
    → serves back.UnmapPage v.state ≡ true
    → let u = record v { pages = pages; stage = back.UnmapPage } in IsServing (back_step.step_at back.UnmapPage u (back_answered (back_asks.ask_at back.UnmapPage u) page d))
unmap_serving [] v page d some e has = absurd (omega arith)
unmap_serving (first ∷ pages) v page d some e has = giving_serving pages v.bound v.state e has

module _ (f : Features) (d : DiskFacts) (t : Negotiation) where
  key_serving : (k : FrontKey) → IsPlaced (back.ReadKey k) t.back
      → BackHolds (back.ReadKey k) t.back (state_number t.front.state) t.front.port (terms_of t.front) f d (back_texts t.keys.keys) → Holds f d t
      → let w = back_step.kept_or_halted (reading.key_read k (key_of t.keys.keys (front_path k)) (back_step.at (back.ReadKey k) t.back)) (back_step.at (back.ReadKey k) t.back) in serves w.stage w.state ≡ true
  key_serving k placed held h =
      let shows = front_shows f d t h in
      let late = held.serving_after refl in
      (key_holds (state_number t.front.state) t.front.port (terms_of t.front) f d k t.back t.keys.keys placed.2 shows.order shows.fits (shows.said late.0 late.1) held).1

  serving_at : (s : BackBusStage) (page : Mapping) → IsPlaced s t.back
      → BackHolds s t.back (state_number t.front.state) t.front.port (terms_of t.front) f d (back_texts t.keys.keys) → Holds f d t
      → (HasRing t.back.pages t.back.bound → serves s t.back.state ≡ true)
      → IsServing (back_step.step_at s (back_step.at s t.back) (back_answered (back_asks.ask_at s t.back) page t.keys))
  serving_at (back.WriteState s) page placed held h e has = written_serving s t.back placed has
  serving_at back.Rest page placed held h e has = woken_serving back.Rest (next_watch t.keys.back) t.back e has
  serving_at back.ReadState page placed held h e has =
      acted_serving (back_action t.back.state t.back.unplugged (state_read (key_of t.keys.keys front_state))) t.back e has
  serving_at (back.ReadKey k) page placed held h e has = key_serving k placed held h
  serving_at back.MapPage page placed held h e has = map_serving (nat_lt (length t.back.pages + 1) (length t.back.grefs)) t.back.state
  serving_at back.Bind page placed held h e has = refl
  serving_at (back.PublishFact k) page placed held h e has = fact_serving k t.back.state
  serving_at back.UnmapOthers page placed held h e has = giving_serving t.back.pages t.back.bound t.back.state (e has) has
  serving_at back.UnmapPage page placed held h e has = unmap_serving t.back.pages t.back page t.keys placed.1 (e (inl placed.1)) has
  serving_at back.ClosePort page placed held h e has = absurd (has_none t.back.pages false placed.1 refl has)
  serving_at back.Halted page placed held h e has = woken_serving back.Halted (next_watch t.keys.back) t.back e has
  serving_at other page placed held h e has = absurd (has_none t.back.pages t.back.bound placed.1.pages placed.1.bound has)

  saying_serving : (s : BackBusStage) (own : BusState) → back_asks.says_closing_at s own ≡ true → serves s state.Closing ≡ true
  saying_serving back.Rest state.Connected e = refl
  saying_serving back.ReadState state.Connected e = refl
  saying_serving s own e = absurd (cc)

  back_move_serving : (page : Mapping) → Holds f d t → IsServing t.back → IsServing (back_moved page t).back
  back_move_serving page h e =
      back_move_cases (λ (a : BackBusAsk) (w : BackView). IsServing w) t.back page t.keys (λ says has. saying_serving t.back.stage t.back.state (says_where t.back says))
      (λ says has. serving_at t.back.stage page h.back_sound.placed h.back h e has)

unplugged_serving : (v : BackView) → IsServing v → IsServing (unplugged v)
unplugged_serving v e = unplugged_cases IsServing v e e

serving_once : (f : Features) (d : DiskFacts) (x : Happening) (t : Negotiation) → Holds f d t → IsServing t.back → IsServing (happened x t).back
serving_once f d (BackMoves page) t h e = back_move_serving f d t page h e
serving_once f d BackCloses t h e = unplugged_serving t.back e
serving_once f d other t h e = e

all_serving : (f : Features) (d : DiskFacts) (xs : List Happening) (t : Negotiation) → HavePorts xs → Holds f d t → IsServing t.back → IsServing (after xs t).back
all_serving f d [] t fits h e = e
all_serving f d (x ∷ xs) t fits h e = all_serving f d xs (happened x t) fits.1 (happening_holds f d x t fits.0 h) (serving_once f d x t h e)

run_serving : (r : NegotiationRun) → IsServing (now r).back
run_serving r = all_serving r.offer r.facts r.happenings (begins r) r.ports (start_holds r.front r.offer r.facts r.within) (λ has. absurd (has_none [] false refl refl has))

-- a back with a port has read all terms
bound_terms : (s : BackBusStage) (v : BackView) (terms : FrontTerms) → v.bound ≡ true → IsPlaced s v → BackRead s v.terms terms v.grefs → v.terms ≡ terms
bound_terms (back.ReadKey k) v terms bound placed read = absurd (true≢false (sym bound ∙ placed.1.bound))
bound_terms back.Watch v terms bound placed read = read.0
bound_terms s v terms bound placed read = read.0

pub ring_outlasts : TheRingOutlastsTheBack
ring_outlasts r =
    let h = run_holds r in
    let t = now r in
    record {
      mapped =
          λ some. (let e = run_serving r (inl some) in let late = h.back.serving_after e in run_granted r (serving_open t.back.stage t.back h.back_sound.placed e) late.0 late.1);
      bound =
          λ bound. (let e = run_serving r (inr bound) in some_port t.front.port (h.back.serving_after e).1 ∙ ap (λ (g : FrontTerms). Some g.port) (sym (bound_terms t.back.stage t.back (terms_of t.front) bound h.back_sound.placed (h.back.read e))));
    }
