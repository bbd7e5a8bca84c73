-- A front that made its ring and its port waits until it is connected: it takes events and watches, and is as it was. Once it is connected the pipeline is ready, and once it closes the pipeline does.
use Rattle.std.proofs.lemmas.Bool.Decides.{nat_tests}
use Rattle.std.proofs.Common.{◌≡◌, ℕ, ◌&&◌, not, if◌then◌else◌, Bool, true, false, List, [], ◌∷◌, length, refl, ap, sym, ◌∙◌, subst, arith, true≢false}
use Rattle.std.specs.Prelude.{Option, Some, None, is_some, nat_le}
use Rattle.blk_base.specs.Options.{Options}
use Rattle.blk_base.specs.declared.moves.Move.TheVariants as moves
use Rattle.blk_base.specs.declared.moves.Mover.TheVariants as mover
use Rattle.blk_base.specs.declared.parts.End.TheVariants as end
use Rattle.schedule_text.specs.declared.line.Line.TheVariants as lines
use Rattle.hypervisor.specs.Act.{FrontAct, front_watched, watch_next}
use Rattle.pipeline_laws.specs.Pipeline.{Pipeline, next}
use Rattle.blk_front.specs.declared.stage.FrontStage.{FrontStage}
use Rattle.blk_front.specs.declared.stage.FrontStage.TheVariants as front
use Rattle.blk_front.specs.View.{View}
use Rattle.ring_words.specs.Shape.{Shape, entries_of}
use Rattle.blk_front.specs.declared.state.FrontState.{FrontState}
use Rattle.blk_front.specs.declared.state.FrontState.TheVariants as states
use Rattle.blk_front.specs.declared.state.Offers.{Offers}
use Rattle.segment_list.specs.declared.verdict.DiskInfo.{DiskInfo}
use Rattle.blk_front.specs.State.{is_open, is_unmade, may_enter, in_state}
use Rattle.blk_front.specs.Submit.{is_initialised, is_ready, ending_of}
use Rattle.split_model.specs.World.{World}
use Rattle.split_model.specs.Shown.{state_lines}
use Rattle.split_model.specs.Happening.{FrontEnters, happens, lines_at}
use Rattle.split_model.proofs.SafeActs.{front_event}
use Rattle.split_model.proofs.States.{enters_cases}
use Rattle.line_text.proofs.Both.{both_true}
use Rattle.machine_pipeline.specs.Plain.{IsPlain}
use Rattle.machine_pipeline.specs.Allowed.{ArePublished, MayEnter}
use Rattle.machine_pipeline.specs.Step.{IsSame}
use Rattle.machine_pipeline.proofs.Flow.{Flow, may_front_sleep, wrapped, is_issuing, is_fetching, ending_at, telling_at, reply_at}
use Rattle.machine_pipeline.proofs.Holds.{AreOffered, AreIndices, IsOffered, BackAt, Holds}
use Rattle.machine_pipeline.proofs.Turns.{Goes, FrontGoes, front_says, front_next, said_nothing, Stepped, does_alone, goes_by}
use Rattle.machine_pipeline.proofs.Keyed.{untold, watched_goes, beside}
use Rattle.machine_pipeline.proofs.JobMoves.{stays}
use Rattle.machine_pipeline.proofs.Issuing.{idle_turned}
use Rattle.machine_pipeline.proofs.Stations.{AreStations}
use Rattle.machine_pipeline.proofs.StationsFront.{connects, starts_to_close}

-- until then it takes its event, or a watch, and does nothing else
pub waits_goes : (config : Options) (w : World) (g : Flow) (d : Pipeline)
    → w.front.told ≡ None
    → w.front.stage ≡ front.Initialised
    → Holds config w g d front.Initialised w.back.stage
    → FrontGoes config w d front.Initialised
waits_goes config w g d told e h = by_pending w.under.channels.front_pending (watch_next w.under end.Front)
  where
    here : Holds config w g d w.front.stage w.back.stage
    here = subst (λ (s : FrontStage). Holds config w g d s w.back.stage) (sym e) h

    awake : w.front.ring.asleep ≡ false
    awake = let sleep = h.front_sleep in sleep.may refl

    unmarked : World
    unmarked = record { front = w.front; back = w.back; under = (let event : FrontAct = front_event w.under in event.under) }

    by_pending : (b : Bool) (next : Option (List ℕ)) → (let act : Option FrontAct = (if b then Some (front_event w.under) else front_watched w.under next) in
        Goes config (front_says front.Initialised w act) (front_next front.Initialised w act) d)
    by_pending false None = stays IsSame config w g d (λ a b same. same) here
    by_pending false (Some path) = watched_goes config w g d path told here
    by_pending true next = goes_by (said_nothing d (moves.Event mover.Front) w.front.told told)
        (subst (λ (x : World). Holds config x g d x.front.stage x.back.stage) (untold unmarked told)
        (beside config w g d w.front.stage w.back.stage w.under.keys false w.under.channels.back_pending
        (let sleep = here.front_sleep in record { arming = sleep.arming; armed = sleep.armed; may = sleep.may; woken = λ t. absurd (true≢false (sym t ∙ awake)) })
        here.back_sleep here))

-- it is connected, and knows what its back published
becomes_ready : (config : Options) (w : World) (g : Flow) (d : Pipeline) (offers : Offers) → ArePublished w offers → Holds config w g d front.Initialised w.back.stage
    → Goes config (lines.Ready ∷ []) (record { front = (let v : View = w.front in record v { offers = offers; stage = front.Loop }); back = w.back; under = w.under }) d
becomes_ready config w g d offers published h =
    let offered : AreOffered config offers = record {
      sectors = published.sectors ∙ ap (λ (i : DiskInfo). i.sectors) h.info;
      read_only = published.read_only ∙ ap (λ (i : DiskInfo). i.read_only) h.info;
      barrier = published.barrier ∙ ap (λ (i : DiskInfo). i.barrier) h.info;
      flush = published.flush ∙ ap (λ (i : DiskInfo). i.flush) h.info;
      discard = published.discard ∙ ap (λ (i : DiskInfo). i.discard) h.info;
      indirect = published.indirect ∙ ap (λ (i : DiskInfo). i.max_indirect) h.info;
    } in
    goes_by {g = g} (does_alone s)
    (assumption (
      s.now,
      offered,
      idle_turned h w.under.pages front.Loop w.front.ending refl (λ f x from to in_it after. refl) (λ n x lt k l. refl) (λ n x lt a in_it. record { flags = refl; frame = refl }) h.entries.ending,
      λ (t : may_front_sleep front.Loop ≡ false). h.front_sleep.may refl,
    ))
  where
    s : Stepped None IsSame d (lines.Ready ∷ []) (λ p. AreStations config g p true false (is_fetching w.back.stage) None None (reply_at w.back.stage) w.front.requests w.back.jobs.works w.under.pages)
    s = connects config g d false (is_fetching w.back.stage) None None (reply_at w.back.stage) w.front.requests w.back.jobs.works w.under.pages h.stations

pub initialised_is : (s : FrontStage) → is_initialised s ≡ true → s ≡ front.Initialised
initialised_is front.Initialised t = refl
initialised_is s t = cc

-- it begins to close
begins_to_close : (config : Options) (w : World) (g : Flow) (d : Pipeline) → w.front.closing ≡ false → Holds config w g d w.front.stage w.back.stage
    → Goes config (lines.Closing ∷ []) (record { front = (let v : View = w.front in record v { closing = true }); back = w.back; under = w.under }) d
begins_to_close config w g d stays_open h = goes_by {g = record g { closing = true }} (does_alone s) (assumption s.now)
  where
    s : Stepped None IsSame d (lines.Closing ∷ []) (λ p. AreStations config (record g { closing = true }) p (is_ready w.front.stage) (is_issuing w.front.stage) (is_fetching w.back.stage) (ending_at w.front.stage w.front.ending) (telling_at w.front.stage) (reply_at w.back.stage) w.front.requests w.back.jobs.works w.under.pages)
    s = starts_to_close config g d (is_ready w.front.stage) (is_issuing w.front.stage) (is_fetching w.back.stage) (ending_at w.front.stage w.front.ending) (telling_at w.front.stage) (reply_at w.back.stage) w.front.requests w.back.jobs.works w.under.pages (h.started.closing ∙ stays_open) h.stations

-- a front that may begin to close doesn't yet
pub yet_open : (closing rest : Bool) → (not closing && rest) ≡ true → closing ≡ false
yet_open closing rest t = grind (arith, nat_tests)

-- the front's terms, as an order that is agreed makes them
abbrev on_terms : View → (order entries prod cons seen : ℕ) → View
on_terms v order entries prod cons seen = record v { shape = record v.shape { order = order }; ring = record v.ring { indices = record { entries = entries; prod = prod; cons = cons }; seen = seen } }

-- the order that it wished leaves a front as it is that hasn't begun its ring
agreed_same : (v : View) (order : ℕ) → order ≡ v.shape.order → v.ring.indices.entries ≡ entries_of v.shape.order → v.ring.indices.prod ≡ v.start → v.ring.indices.cons ≡ v.start → v.ring.seen ≡ v.start → in_state (states.Agreed order) v ≡ v
agreed_same v order wished entries prod cons seen =
    let same : on_terms v order (entries_of order) v.start v.start v.start ≡ on_terms v v.shape.order v.ring.indices.entries v.ring.indices.prod v.ring.indices.cons v.ring.seen = cc in
    same

unmade_unready : (s : FrontStage) → is_unmade s ≡ true → is_ready s ≡ false
unmade_unready (front.RingWord k) t = refl
unmade_unready s t = cc

-- at the start nothing was pushed, and all its indices are the first one
agrees : (config : Options) (w : World) (g : Flow) (d : Pipeline) (order : ℕ) → IsPlain config → order ≡ w.front.shape.order → is_unmade w.front.stage ≡ true → Holds config w g d w.front.stage w.back.stage
    → Goes config [] (record { front = in_state (states.Agreed order) w.front; back = w.back; under = w.under }) d
agrees config w g d order plain wished unmade h =
    subst (λ (v : View). Goes config [] (record { front = v; back = w.back; under = w.under }) d)
    (sym (agreed_same w.front order wished (x.front_entries ∙ ap (λ (s : Shape). entries_of s.order) (sym h.shaped.known)) (x.pushed ∙ first g.pushed none) (x.taken ∙ first g.taken
    (omega (arith, x.taken_replied, x.replied_fetched, x.fetched_pushed, none))) (x.front_saw ∙ first g.front_seen (omega (arith, x.front_to, x.replied_fetched, x.fetched_pushed, none)))))
    (stays IsSame config w g d (λ a b same. same) h)
  where
    x : AreIndices g w.front.ring.indices w.back.ring.indices w.front.ring.seen w.back.ring.seen w.back.fetched w.front.last w.front.waiting (length w.front.requests) (ending_of w.front.stage)
    x = h.indices

    none : g.pushed ≡ 0
    none = (subst (λ (b : Bool). IsOffered b config w.front.offers g.pushed) (unmade_unready w.front.stage unmade) h.offered)

    first : (n : ℕ) → n ≡ 0 → wrapped g.start n ≡ w.front.start
    first n e = let small = plain.start in let whole = h.started.whole in let known = h.started.known in omega arith

-- a state that the front enters; where it may not nothing changes
pub enters_goes : (config : Options) (w : World) (g : Flow) (d : Pipeline) (state : FrontState) → IsPlain config → MayEnter w state → Holds config w g d w.front.stage w.back.stage → Goes config (lines_at w (FrontEnters state)) (happens w (FrontEnters state)) d
enters_goes config w g d state plain may h = enters_cases (λ v shown. Goes config shown (record { front = v; back = w.back; under = w.under }) d) state w.front (entered state may) (stays IsSame config w g d (λ a b same. same) h)
  where
    -- a back that serves hasn't halted
    unhalted : is_some w.back.halted ≡ true → ⊥
    unhalted t = true≢false (sym t ∙ ap is_some h.unhalted)

    entered : (s : FrontState) → MayEnter w s → may_enter s w.front ≡ true → Goes config (state_lines s) (record { front = in_state s w.front; back = w.back; under = w.under }) d
    entered (states.Agreed order) may can = agrees config w g d order plain may (both_true (is_unmade w.front.stage) (nat_le order w.front.shape.order) (both_true (is_unmade w.front.stage && nat_le order w.front.shape.order) _ can).0).0 h
    entered (states.Connected offers) may can = becomes_ready config w g d offers may (subst (λ (s : FrontStage). Holds config w g d s w.back.stage) (initialised_is w.front.stage can) h)
    entered states.Closing may can = begins_to_close config w g d (yet_open w.front.closing (is_open w.front.stage) can) h
    entered states.Leaving may can = absurd (subst (BackAt g.shape g.start g.fetched g.back_seen g.replied g.series w.back.jobs.works w.back.ring.entry) may h.back_at)
    entered states.Closed may can = absurd (unhalted may)
    entered (states.Broken word) may can = absurd may
