-- A state that the front enters raises what the machine of the ring has left to do by nothing, or by what the front does as it leaves.
use Rattle.std.proofs.Common.{◌≡◌, ℕ, ◌+◌, ◌*◌, ◌≤◌, inl, inr, Bool, true, false, List, length, refl, ap, sym, ◌∙◌, subst, true≢false, arith}
use Rattle.std.specs.Prelude.{◌&&◌, nat_le}
use Rattle.std.proofs.lemmas.Bool.{and_parts}
use Rattle.blk_base.specs.Options.{Options}
use Rattle.blk_base.specs.Distance.{distance_of}
use Rattle.ring_words.specs.Shape.{Shape, entries_of}
use Rattle.schedule_text.specs.declared.line.Line.{Line}
use Rattle.pipeline_laws.specs.Pipeline.{Pipeline, after_steps}
use Rattle.blk_front.specs.declared.stage.FrontStage.{FrontStage}
use Rattle.blk_front.specs.declared.stage.FrontStage.TheVariants as stage
use Rattle.blk_front.specs.declared.state.FrontState.{FrontState}
use Rattle.blk_front.specs.declared.state.FrontState.TheVariants as state
use Rattle.blk_front.specs.View.{View}
use Rattle.blk_front.specs.Ask.{is_through}
use Rattle.blk_front.specs.State.{is_made, is_bare, is_unmade, may_enter, in_state, enters}
use Rattle.blk_front.specs.Submit.{is_connected, is_ready, ending_of}
use Rattle.back_laws.specs.JobLeft.{all_left}
use Rattle.blk_back.specs.View as back
use Rattle.front_laws.specs.Left.{left_at}
use Rattle.split_model.specs.World.{World}
use Rattle.split_model.specs.Happening.{FrontMoves, FrontEnters}
use Rattle.split_model.proofs.States.{enters_cases}
use Rattle.machine_pipeline.specs.Allowed.{MayEnter, IsServed}
use Rattle.machine_pipeline.specs.Plain.{IsPlain}
use Rattle.machine_pipeline.proofs.Connecting.{initialised_is}
use Rattle.machine_pipeline.proofs.Flow.{Flow, wrapped}
use Rattle.machine_pipeline.proofs.Holds.{AreIndices, IsOffered, Holds}
use Rattle.machine_pipeline.proofs.Over.{IsKept}
use Rattle.machine_pipeline.proofs.Slots.{few_pages}
use Rattle.ring_settle_laws.specs.Left.{back_part, back_saw, front_sends, front_saw, marks_left, ring_left}
use Rattle.ring_settle_laws.specs.Stations.{requests_left}
use Rattle.ring_settle_laws.proofs.Gone.{Gone, left_after, entering}
use Rattle.ring_settle_laws.proofs.Stations.{Lowers, gone_lowers, requests_fall}
use Rattle.ring_settle_laws.proofs.FrontEnd.{front_end, front_end_of}

-- an order is agreed on only before the back has halted, as the ring is made only then
abbrev pub AgreesEarly : World → FrontState → Type 0
AgreesEarly w (state.Agreed order) = IsServed w FrontMoves
AgreesEarly w s = Unit {0}

-- before its ring is begun the front is as the order that it wished makes it
abbrev on_terms : View → (order entries prod cons seen : ℕ) → View
on_terms v order entries prod cons seen = record v { shape = record v.shape { order = order }; ring = record v.ring { indices = record { entries = entries; prod = prod; cons = cons }; seen = seen } }

agreed_same : (v : View) (order : ℕ) → order ≡ v.shape.order → v.ring.indices.entries ≡ entries_of v.shape.order → v.ring.indices.prod ≡ v.start → v.ring.indices.cons ≡ v.start → v.ring.seen ≡ v.start → in_state (state.Agreed order) v ≡ v
agreed_same v order wished entries prod cons seen =
    let same : on_terms v order (entries_of order) v.start v.start v.start ≡ on_terms v v.shape.order v.ring.indices.entries v.ring.indices.prod v.ring.indices.cons v.ring.seen = cc in
    same

unmade_unready : (s : FrontStage) → is_unmade s ≡ true → is_ready s ≡ false
unmade_unready (stage.RingWord k) t = refl
unmade_unready s t = cc

pub unmade_unconnected : (s : FrontStage) → is_unmade s ≡ true → is_connected s ≡ false
unmade_unconnected (stage.RingWord k) t = refl
unmade_unconnected s t = cc

agreed_holds : (config : Options) (w : World) (g : Flow) (d : Pipeline) (order : ℕ) → IsPlain config → order ≡ w.front.shape.order → is_unmade w.front.stage ≡ true → Holds config w g d w.front.stage w.back.stage → in_state (state.Agreed order) w.front ≡ w.front
agreed_holds config w g d order plain wished unmade h =
    agreed_same w.front order wished (x.front_entries ∙ ap (λ (s : Shape). entries_of s.order) (sym h.shaped.known)) (x.pushed ∙ first g.pushed none) (x.taken ∙ first g.taken
    (omega (arith, x.taken_replied, x.replied_fetched, x.fetched_pushed, none))) (x.front_saw ∙ first g.front_seen (omega (arith, x.front_to, x.replied_fetched, x.fetched_pushed, none)))
  where
    x : AreIndices g w.front.ring.indices w.back.ring.indices w.front.ring.seen w.back.ring.seen w.back.fetched w.front.last w.front.waiting (length w.front.requests) (ending_of w.front.stage)
    x = h.indices

    none : g.pushed ≡ 0
    none = (subst (λ (b : Bool). IsOffered b config w.front.offers g.pushed) (unmade_unready w.front.stage unmade) h.offered)

    first : (n : ℕ) → n ≡ 0 → wrapped g.start n ≡ w.front.start
    first n e = let small = plain.start in let whole = h.started.whole in let known = h.started.known in omega arith

module _ (shown saw : ℕ) where
  -- one that begins to close
  closing_end : (s : FrontStage) (v : View) → front_end shown saw s (record v { closing = true }) ≡ front_end shown saw s v
  closing_end stage.Loop v = refl
  closing_end s v = refl

  leaving_end : (s : FrontStage) (v : View) → is_made s ≡ true → v.shape.order ≤ 4 → front_end_of shown saw (record v { stage = stage.RingRead 0 }) ≤ front_end shown saw s v + 33
  leaving_end stage.Initialised v made narrow = let few = few_pages v.shape.order narrow in omega (arith, few)
  leaving_end stage.Loop v made narrow = let few = few_pages v.shape.order narrow in omega (arith, few)
  leaving_end s v made narrow = absurd cc

  closed_end : (s : FrontStage) (v : View) → is_bare s ≡ true → front_end_of shown saw (record v { stage = stage.Closed }) ≤ front_end shown saw s v
  closed_end (stage.RingWord k) v bare = omega arith
  closed_end stage.Left v bare = omega arith
  closed_end s v bare = absurd cc

kept_narrow : (config : Options) (w : World) (d : Pipeline) → IsKept config w d → w.front.shape.order ≤ 4
kept_narrow config w d (inl held) = let h = held.1 in let shaped = h.shaped in subst (λ (s : Shape). s.order ≤ 4) (sym shaped.known) shaped.narrow
kept_narrow config w d (inr over) = over.narrow

agreed_end : (config : Options) (w : World) (d : Pipeline) (order : ℕ) → IsPlain config → order ≡ w.front.shape.order → is_unmade w.front.stage ≡ true → IsServed w FrontMoves → IsKept config w d → in_state (state.Agreed order) w.front ≡ w.front
agreed_end config w d order plain wished unmade timely (inl held) = agreed_holds config w held.0 d order plain wished unmade held.1
agreed_end config w d order plain wished unmade timely (inr over) = absurd (true≢false (sym (timely over.halted) ∙ unmade_unconnected w.front.stage unmade))

-- the front's end then
entered_end : (shown saw : ℕ) (config : Options) (w : World) (d : Pipeline) (s : FrontState) → IsPlain config → IsKept config w d → AgreesEarly w s → MayEnter w s → may_enter s w.front ≡ true → front_end_of shown saw (in_state s w.front) ≤ front_end_of shown saw w.front + entering s
entered_end shown saw config w d (state.Agreed order) plain kept timely may can =
    let unmade = (and_parts (is_unmade w.front.stage) (nat_le order w.front.shape.order) (and_parts (is_unmade w.front.stage && nat_le order w.front.shape.order) _ can).0).0 in
    omega (arith, ap (λ (v : View). front_end_of shown saw v) (agreed_end config w d order plain may unmade timely kept))
entered_end shown saw config w d (state.Connected offers) plain kept timely may can =
    let here : front_end shown saw w.front.stage w.front ≡ front_end shown saw stage.Initialised w.front = ap (λ (s : FrontStage). front_end shown saw s w.front) (initialised_is w.front.stage can) in
    omega (arith, here)
entered_end shown saw config w d state.Closing plain kept timely may can = omega (arith, closing_end shown saw w.front.stage w.front)
entered_end shown saw config w d state.Leaving plain kept timely may can = leaving_end shown saw w.front.stage w.front (and_parts (is_through w.front) (is_made w.front.stage) can).1 (kept_narrow config w d kept)
entered_end shown saw config w d state.Closed plain kept timely may can = omega (arith, closed_end shown saw w.front.stage w.front (and_parts (is_through w.front) (is_bare w.front.stage) can).1)
entered_end shown saw config w d (state.Broken word) plain kept timely may can = absurd may

-- the parts of the sum, one number each
sum_stays : (back jobs marks left sends near far prices left' sends' near' far' prices' more : ℕ) → left' + sends' + near' + far' ≤ left + sends + near + far + more → prices' ≤ prices
    → left' + sends' + back + jobs + (near' + far') + marks + prices' ≤ left + sends + back + jobs + (near + far) + marks + prices + more
sum_stays back jobs marks left sends near far prices left' sends' near' far' prices' more one two = omega arith

entered_left : (w : World) (d p : Pipeline) (v : View) (more : ℕ) → (let shown : ℕ = w.back.ring.indices.prod in let saw : ℕ = back_saw w.back.stage w.back in front_end_of shown saw v ≤ front_end_of shown saw w.front + more) → Lowers d.requests p.requests
    → ring_left (record { front = v; back = w.back; under = w.under }) p ≤ ring_left w d + more
entered_left w d p v more falls lowers =
    let b : back.View = w.back in
    let shown : ℕ = w.back.ring.indices.prod in
    let saw : ℕ = back_saw w.back.stage w.back in
    sum_stays (back_part w.back) (all_left b.jobs.works) (marks_left w.under.channels)
    (left_at w.front.stage w.front) (front_sends w.front.stage) (7 * distance_of (front_saw w.front.stage w.front) shown) (39 * distance_of saw w.front.ring.indices.prod) (requests_left d.requests)
    (left_at v.stage v) (front_sends v.stage) (7 * distance_of (front_saw v.stage v) shown) (39 * distance_of saw v.ring.indices.prod) (requests_left p.requests)
    more falls (requests_fall d.requests p.requests lowers)

pub enters_left : (config : Options) (w : World) (d : Pipeline) (s : FrontState) → IsPlain config → IsKept config w d → AgreesEarly w s → MayEnter w s → (gone : Gone config w d (FrontEnters s))
    → left_after config w d (FrontEnters s) gone ≤ ring_left w d + entering s
enters_left config w d s plain kept timely may gone =
    let shown : ℕ = w.back.ring.indices.prod in
    let saw : ℕ = back_saw w.back.stage w.back in
    let falls : front_end_of shown saw (enters s w.front) ≤ front_end_of shown saw w.front + entering s = enters_cases (λ (v : View) (shows : List Line). front_end_of shown saw v ≤ front_end_of shown saw w.front + entering s) s w.front (entered_end shown saw config w d s plain kept timely may) (omega arith) in
    entered_left w d (after_steps gone.steps d) (enters s w.front) (entering s) falls (gone_lowers config w d (FrontEnters s) tt gone)
