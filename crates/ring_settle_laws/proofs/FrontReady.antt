-- While the machine is kept, the front is at a word, a page or a frame of its request's, and what it reads of the back's producer is that producer.
use Rattle.std.proofs.Common.{◌≡◌, ℕ, ◌+◌, ◌-◌, ◌^◌, ◌<◌, ◌≤◌, ◌==◌, ◌||◌, inl, inr, Bool, true, false, if◌then◌else◌, List, [], length, get_or, refl, ap, sym, ◌∙◌, subst, true≢false, arith}
use Rattle.std.specs.Prelude.{All, Some, None, slice_get}
use Rattle.std.proofs.lemmas.Option.{same_Some, slice_get_within}
use Rattle.blk_base.specs.Options.{Options}
use Rattle.blk_base.specs.Distance.{distance_of}
use Rattle.blk_base.specs.declared.ask.FrontAnswer.{FrontAnswer}
use Rattle.blk_base.specs.declared.ask.FrontAnswer.TheVariants as answer
use Rattle.blk_base.specs.declared.ask.FrontAsk.{FrontAsk}
use Rattle.blk_base.specs.declared.ask.FrontAsk.TheVariants as ask
use Rattle.ring_words.specs.Ring.{responses_of}
use Rattle.ring_words.specs.Shape.{Shape, entries_of, entry_words_of}
use Rattle.xen_pages.specs.Pages.{word_of}
use Rattle.hypervisor.specs.Act.{FrontAct, front_act}
use Rattle.pipeline_laws.specs.Pipeline.{Pipeline}
use Rattle.blk_front.specs.declared.request.Request.{Request}
use Rattle.blk_front.specs.declared.stage.FrontStage.{FrontStage}
use Rattle.blk_front.specs.declared.stage.FrontStage.TheVariants as stage
use Rattle.blk_front.specs.Request.{is_moving, IsShaped}
use Rattle.blk_front.specs.Sound.{IsPlaced, IsKeeping, IsUnissued, IsIssuing, IsReading, IsHeld}
use Rattle.blk_front.specs.Submit.{is_connected, ending_of}
use Rattle.blk_front.specs.View.{View, next_request}
use Rattle.blk_front.specs.Ask.{ask_at, loop_ask, response_ask, is_through}
use Rattle.split_model.specs.World.{World}
use Rattle.machine_pipeline.proofs.Flow.{Flow, wrapped}
use Rattle.machine_pipeline.proofs.Holds.{IsSubmitted, Holds}
use Rattle.machine_pipeline.proofs.Issuing.{next_here}
use Rattle.machine_pipeline.proofs.Next.{waiting_few, IsNext}
use Rattle.machine_pipeline.proofs.Over.{Over}
use Rattle.machine_pipeline.proofs.Wrapped.{distance_at}
use Rattle.ring_settle_laws.proofs.FrontEnd.{IsBetween}
use Rattle.ring_settle_laws.proofs.FrontLoop.{IsLooked}
use Rattle.ring_settle_laws.proofs.FrontLows.{IsTakingOne, IsReady}

-- the back's producer is between the front's consumer and its producer
between : (start taken replied pushed cons prod shown word : ℕ) → cons ≡ wrapped start taken → prod ≡ wrapped start pushed → shown ≡ wrapped start replied → word ≡ wrapped start replied
    → taken ≤ replied → replied ≤ pushed → pushed < taken + 2 ^ 32 → IsBetween cons prod shown word
between start taken replied pushed cons prod shown word c p s r le few far =
    let one : distance_of cons word ≡ replied - taken = distance_at start taken replied cons word c r le (omega arith) in
    let two : distance_of cons prod ≡ pushed - taken = distance_at start taken pushed cons prod c p (omega arith) far in
    let three : distance_of word shown ≡ replied - replied = distance_at start replied replied word shown r s (omega arith) (omega arith) in
    let four : distance_of cons shown ≡ replied - taken = distance_at start taken replied cons shown c s le (omega arith) in
    record { low = rw r (omega arith); honest = rw (one, two) (omega arith); adds = rw (one, three, four) (omega arith) }

module _ (config : Options) (w : World) (g : Flow) (d : Pipeline) (s : FrontStage) (h : Holds config w g d s w.back.stage) where
  far : g.pushed < g.taken + 2 ^ 32
  far = let x = h.indices in omega (arith, x.all, x.given, x.few)

  small : w.front.ring.indices.cons < 2 ^ 32
  small = let x = h.indices in let is = x.taken in rw is (omega arith)

  seen_small : w.front.ring.seen < 2 ^ 32
  seen_small = let x = h.indices in let is = x.front_saw in rw is (omega arith)

  shaped_at : (k : ℕ) (r : Request) → k < length w.front.requests → IsSubmitted config.sectors (let q : Request = get_or w.front.requests k r in q.number - 1) (get_or w.front.requests k r)
  shaped_at k r within = let q : Request = get_or w.front.requests k r in let queue = h.queue in let all = h.submitted in all.each (q.number - 1) q (queue.known k r within)

  all_shaped : All IsShaped w.front.requests
  all_shaped k r within = let is = shaped_at k r within in is.shaped

  all_given : All (λ (r : Request). r.number ≤ w.front.last) w.front.requests
  all_given k r within =
      let q : Request = get_or w.front.requests k r in
      let queue = h.queue in
      let all = h.submitted in
      omega (arith, slice_get_within g.submitted (q.number - 1) q (queue.known k r within), all.counted)

  some_next : (r : Request) → next_request w.front ≡ Some r → is_moving r.transfer ≡ true → 1 ≤ r.count
  some_next r next = let is : IsNext g.submitted g.series w.front.requests g.pushed w.front.waiting r = next_here h next in let its = is.shape in its.counted.some

  -- what the front reads of the back's producer
  reads : (a : FrontAct) → ((word_of w.under.pages 2 2) ≡ wrapped g.start g.replied) → front_act w.under (ask.Read 2 2) ≡ Some a → IsLooked w.back.ring.indices.prod w.front a.answer
  reads a word e =
      let x = h.indices in
      let is : a.answer ≡ answer.Word (word_of w.under.pages 2 2) = ap (λ (y : FrontAct). y.answer) (sym (same_Some _ a e)) in
      subst (λ (y : FrontAnswer). IsLooked w.back.ring.indices.prod w.front y) (sym is)
      (between g.start g.taken g.replied g.pushed w.front.ring.indices.cons w.front.ring.indices.prod w.back.ring.indices.prod (word_of w.under.pages 2 2) x.taken x.pushed x.replied word x.taken_replied (omega (arith, x.replied_fetched, x.fetched_pushed)) far)

  -- of a response that the front reads
  distance_seen : distance_of w.front.ring.indices.cons w.front.ring.seen ≡ g.front_seen - g.taken
  distance_seen = let x = h.indices in distance_at g.start g.taken g.front_seen w.front.ring.indices.cons w.front.ring.seen x.taken x.front_saw x.front_from (omega (arith, far, x.front_to, x.replied_fetched, x.fetched_pushed))

  distance_pushed : distance_of w.front.ring.indices.cons w.front.ring.indices.prod ≡ g.pushed - g.taken
  distance_pushed = let x = h.indices in distance_at g.start g.taken g.pushed w.front.ring.indices.cons w.front.ring.indices.prod x.taken x.pushed (omega (arith, x.taken_replied, x.replied_fetched, x.fetched_pushed)) far

  same_shape : w.front.shape ≡ g.shape
  same_shape = let is = h.shaped in is.known

  takes_one : (low high : ℕ) → w.front.stage ≡ s → s ≡ stage.ResponseLast low high → g.taken < g.front_seen → IsTakingOne w.front
  takes_one low high e is seen =
      let x = h.indices in
      let shaped = h.shaped in
      let queue = h.queue in
      let here : w.front.stage ≡ stage.ResponseLast low high = e ∙ is in
      let some : 0 < distance_of w.front.ring.indices.cons w.front.ring.seen = omega (arith, distance_seen, seen) in
      record {
        sound = record {
          order = subst (λ (y : Shape). y.order ≤ 4) (sym same_shape) shaped.narrow;
          entries = x.front_entries ∙ ap (λ (y : Shape). entries_of y.order) (sym same_shape);
          cons = small;
          counted = omega (arith, distance_pushed, x.held, x.all, x.taken_replied, x.replied_fetched, x.fetched_pushed);
          room = subst (λ (y : Shape). length w.front.requests + ending_of w.front.stage ≤ entries_of y.order) (sym same_shape) (rw e x.room);
          seen = omega (arith, distance_seen, distance_pushed, x.front_to, x.replied_fetched, x.fetched_pushed);
          placed = subst (λ (t : FrontStage). IsPlaced t w.front.shape) (sym here) tt;
          keeping = subst (λ (t : FrontStage). IsKeeping t w.front.offers.persistent) (sym here) tt;
          unissued = subst (λ (t : FrontStage). IsUnissued t (length w.front.requests) w.front.waiting) (sym here) tt;
          issuing = subst (λ (t : FrontStage). IsIssuing t w.front.waiting) (sym here) tt;
          reading = subst (λ (t : FrontStage). IsReading t (distance_of w.front.ring.indices.cons w.front.ring.seen)) (sym here) some;
          ascending = queue.ascending;
          given = all_given;
          shaped = all_shaped;
          held = subst (λ (t : FrontStage). IsHeld t None) (sym here) tt;
          ending = tt;
          apart = tt;
        };
        some = some;
      }

-- it asks for the producer where it looks
looks_ask : (v : View) → next_request v ≡ None → v.ring.asleep ≡ false → is_through v ≡ false → (responses_of v.ring.indices v.ring.seen == 0) ≡ true → loop_ask v (next_request v) ≡ ask.Read 2 2
looks_ask v none awake going e = ap (loop_ask v) none ∙ by_tests (response_ask v 0) v.ring.asleep (is_through v) (responses_of v.ring.indices v.ring.seen == 0) awake going e
  where
    by_tests : (x : FrontAsk) (b c e : Bool) → b ≡ false → c ≡ false → e ≡ true → (if b || c then ask.Wait else (if e then ask.Read 2 2 else x)) ≡ ask.Read 2 2
    by_tests x false false true p q r = refl
    by_tests x true c e p q r = absurd (true≢false p)
    by_tests x false true e p q r = absurd (true≢false q)
    by_tests x false false false p q r = absurd cc

pub holds_ready : (config : Options) (w : World) (g : Flow) (d : Pipeline) (s : FrontStage) (a : FrontAct) → w.front.stage ≡ s → Holds config w g d s w.back.stage → front_act w.under (ask_at s w.front) ≡ Some a
    → IsReady w.back.ring.indices.prod s w.front a.answer
holds_ready config w g d (stage.RingWord k) a here h act = h.front_at
holds_ready config w g d (stage.RingFrame page) a here h act = subst (λ (y : Shape). page < 2 ^ y.order) (sym (same_shape config w g d (stage.RingFrame page) h)) h.front_at
holds_ready config w g d (stage.RingFence page) a here h act = subst (λ (y : Shape). page < 2 ^ y.order) (sym (same_shape config w g d (stage.RingFence page) h)) h.front_at
holds_ready config w g d (stage.RingFlags page) a here h act = subst (λ (y : Shape). page < 2 ^ y.order) (sym (same_shape config w g d (stage.RingFlags page) h)) h.front_at
holds_ready config w g d stage.Loop a here h act =
    let ring = h.ring in
    inr (record {
      some = some_next config w g d stage.Loop h;
      cons = small config w g d stage.Loop h;
      seen = seen_small config w g d stage.Loop h;
      looks = λ none awake going e. reads config w g d stage.Loop h a (ring.responses refl) (subst (λ (x : FrontAsk). front_act w.under x ≡ Some a) (looks_ask w.front none awake going e) act);
    })
holds_ready config w g d (stage.Data n) a here h act = let at = h.front_at in record { request = at.0; next_is = at.1; within = at.2.1 }
holds_ready config w g d (stage.Pages n) a here h act = let at = h.front_at in record { request = at.0; next_is = at.1; within = at.2.0 }
holds_ready config w g d (stage.GrantFrame place) a here h act = let at = h.front_at in record { request = at.0; next_is = at.1; within = at.2 }
holds_ready config w g d (stage.GrantFence place) a here h act = let at = h.front_at in record { request = at.0; next_is = at.1; within = at.2 }
holds_ready config w g d (stage.GrantFlags place) a here h act = let at = h.front_at in record { request = at.0; next_is = at.1; within = at.2 }
holds_ready config w g d (stage.Slot k) a here h act = subst (λ (y : Shape). k < entry_words_of y.abi) (sym (same_shape config w g d (stage.Slot k) h)) (let at = h.front_at in at.0)
holds_ready config w g d stage.Producer a here h act =
    let at = h.front_at in
    let is : IsNext g.submitted g.series w.front.requests g.pushed w.front.waiting at.0 = next_here h at.1 in
    (omega (arith, is.waits), waiting_few h.indices)
holds_ready config w g d (stage.ResponseLast low high) a here h act = let at = h.front_at in let one = at.0 in takes_one config w g d (stage.ResponseLast low high) h low high here refl one.seen
holds_ready config w g d (stage.GrantRead place) a here h act = let at = h.front_at in record { e = at.0; ending_is = at.1; within = at.3 }
holds_ready config w g d (stage.GrantEnd place before) a here h act = let at = h.front_at in record { e = at.0; ending_is = at.1; within = at.3.0 }
holds_ready config w g d (stage.ReadData n) a here h act = let at = h.front_at in record { e = at.0; ending_is = at.1; within = at.3.0 }
holds_ready config w g d (stage.LeftData n) a here h act = let at = h.front_at in record { e = at.0; ending_is = at.1; within = at.3.0 }
holds_ready config w g d stage.LookAgain a here h act = let ring = h.ring in (small config w g d stage.LookAgain h, reads config w g d stage.LookAgain h a (ring.responses refl) act)
holds_ready config w g d (stage.RingRead page) a here h act = absurd h.front_at
holds_ready config w g d (stage.RingEnd page before) a here h act = absurd h.front_at
holds_ready config w g d s a here h act = tt

-- after the back halted the front closes without requests
pub over_ready : (config : Options) (w : World) (d : Pipeline) (s : FrontStage) (answer : FrontAnswer) → is_connected s ≡ true → Over config w d s w.back.stage → IsReady w.back.ring.indices.prod s w.front answer
over_ready config w d (stage.RingWord k) answer may o = absurd cc
over_ready config w d stage.Loop answer may o = inl (none_next w.front o.no_request, rw (o.closes, o.no_request) refl)
  where
    none_next : (v : View) → v.requests ≡ [] → next_request v ≡ None
    none_next v none = rw none (by_waiting (v.waiting == 0) (length (let rs : List Request = [] in rs) - v.waiting))
      where
        by_waiting : (b : Bool) (n : ℕ) → (if b then None else slice_get (let rs : List Request = [] in rs) n) ≡ None
        by_waiting true n = refl
        by_waiting false n = refl
over_ready config w d (stage.RingRead page) answer may o = let at = o.front_at in at.1
over_ready config w d (stage.RingEnd page before) answer may o = let at = o.front_at in at.1
over_ready config w d stage.Initialised answer may o = tt
over_ready config w d stage.ClosePort answer may o = tt
over_ready config w d stage.Left answer may o = tt
over_ready config w d stage.Closed answer may o = tt
over_ready config w d s answer may o = absurd o.front_at
