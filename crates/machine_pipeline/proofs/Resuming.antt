-- The front's loop where no request waits: it sleeps, takes its event, looks for responses, or takes one up.
use Rattle.std.proofs.Common.{◌≡◌, ◌≢◌, ℕ, ◌+◌, ◌<◌, ◌==◌, ◌||◌, if◌then◌else◌, Bool, true, false, List, [], ◌∷◌, refl, ap, sym, ◌∙◌, subst, arith}
use Rattle.std.specs.Prelude.{Option, Some, None, slice_get}
use Rattle.std.proofs.lemmas.Bool.Decides.{nat_tests}
use Rattle.blk_base.specs.Options.{Options}
use Rattle.blk_base.specs.declared.ask.FrontAsk.{FrontAsk}
use Rattle.blk_base.specs.declared.ask.FrontAsk.TheVariants as ask
use Rattle.blk_base.specs.declared.ask.FrontAnswer.TheVariants as answer
use Rattle.blk_base.specs.declared.moves.Move.TheVariants as moves
use Rattle.blk_base.specs.declared.moves.Mover.TheVariants as mover
use Rattle.blk_base.specs.declared.parts.End.TheVariants as end
use Rattle.schedule_text.specs.declared.line.Line.{Line}
use Rattle.schedule_text.specs.declared.line.Line.TheVariants as lines
use Rattle.event_channel.specs.Channels.{ChannelState, taken}
use Rattle.hypervisor.specs.Act.{FrontAct, front_act, front_watched, watch_next}
use Rattle.pipeline_laws.specs.Pipeline.{Pipeline}
use Rattle.ring_words.specs.Ring.{responses_of}
use Rattle.xen_pages.specs.Pages.{word_of}
use Rattle.blk_front.specs.declared.request.Request.{Request}
use Rattle.blk_front.specs.declared.stage.FrontStage.{FrontStage}
use Rattle.blk_front.specs.declared.stage.FrontStage.TheVariants as front
use Rattle.blk_front.specs.View.{View, next_request, ring_frame, slot_frame, slot_word}
use Rattle.blk_front.specs.Ask.{is_through, loop_ask}
use Rattle.blk_front.specs.Step.{at, looked, loop_step}
use Rattle.blk_back.specs.declared.stage.Reply.{Reply}
use Rattle.blk_back.specs.Ask.{response_word}
use Rattle.split_model.specs.World.{World}
use Rattle.split_model.specs.Shown.{front_lines}
use Rattle.machine_pipeline.proofs.Flow.{Flow, wrapped}
use Rattle.machine_pipeline.proofs.Holds.{Holds, slot_of}
use Rattle.machine_pipeline.proofs.Turns.{Goes, FrontGoes, said_nothing, goes_by}
use Rattle.machine_pipeline.proofs.Keyed.{watched_goes}
use Rattle.machine_pipeline.proofs.Lists.{get_within}
use Rattle.machine_pipeline.proofs.Wrapped.{distance_at}
use Rattle.ring_words.specs.Shape.{Shape}
use Rattle.machine_pipeline.proofs.Resting.{rested, rest_kept}
use Rattle.machine_pipeline.proofs.Looking.{looked_goes, at_stage_goes}
use Rattle.machine_pipeline.proofs.JobMoves.{stays}
use Rattle.machine_pipeline.specs.Step.{IsSame}
use Rattle.machine_pipeline.proofs.Kept.{sleep_turned, sleep_awake}
use Rattle.std.proofs.lemmas.Bool.{or_parts}

-- the loop's move, by the request that is issued next
abbrev pub loop_next : World → Option Request → Option FrontAct → World
loop_next w n None = w
loop_next w n (Some a) = record { front = record (loop_step w.front n a.answer) { told = None }; back = w.back; under = a.under }

abbrev pub loop_says : World → Option Request → Option FrontAct → List Line
loop_says w n None = []
loop_says w n (Some a) = lines.Move a.shown ∷ front_lines (let f : View = loop_step w.front n a.answer in f.told)

abbrev pub LoopGoes : Options → World → Pipeline → Option Request → FrontAsk → Type 0
LoopGoes config w d n a = Goes config (loop_says w n (front_act w.under a)) (loop_next w n (front_act w.under a)) d

-- asleep, or closing with no request left, it takes its event, if one is pending
wait_goes : (config : Options) (w : World) (g : Flow) (d : Pipeline)
    → w.front.told ≡ None
    → w.front.stage ≡ front.Loop
    → Holds config w g d front.Loop w.back.stage
    → LoopGoes config w d None ask.Wait
wait_goes config w g d told e h = by_pending w.under.channels.front_pending (watch_next w.under end.Front) refl
  where
    channels : ChannelState
    channels = taken w.under.channels end.Front

    here : Holds config w g d w.front.stage w.back.stage
    here = subst (λ (s : FrontStage). Holds config w g d s w.back.stage) (sym e) h

    by_pending : (b : Bool) (next : Option (List ℕ)) → w.under.channels.front_pending ≡ b → (let act : Option FrontAct = (if b then Some (record { answer = answer.Event; under = record w.under { channels = channels }; shown = moves.Event mover.Front }) else front_watched w.under next) in Goes config (loop_says w None act) (loop_next w None act) d)
    by_pending false None t = stays IsSame config w g d (λ a b same. same) here
    by_pending false (Some path) t = watched_goes config w g d path told here
    by_pending true next t = goes_by (said_nothing d (moves.Event mover.Front) w.front.told told)
        (subst (λ (s : FrontStage). Holds config (rested w s w.front.ring.seen false w.under.pages channels) g d s w.back.stage) (sym e)
        (let indices = h.indices in rest_kept config w g d front.Loop front.Loop w.front.ring.seen g.front_seen false w.under.pages channels refl refl refl refl h tt indices.front_saw indices.front_from indices.front_to h.memory (λ f apart x lt. refl) (λ x apart lt. refl) refl refl refl
        (sleep_awake refl refl)))

-- awake, with no response left that it saw, it reads the producer
look_goes : (config : Options) (w : World) (g : Flow) (d : Pipeline)
    → w.front.told ≡ None
    → w.front.ring.asleep ≡ false
    → (responses_of w.front.ring.indices w.front.ring.seen == 0) ≡ true
    → Holds config w g d front.Loop w.back.stage
    → LoopGoes config w d None (ask.Read ring_frame 2)
look_goes config w g d told awake none h =
    subst (λ (b : Bool). let x : View = (if b then looked w.front word store else at (front.ResponseHigh word) w.front) in Goes config (lines.Move (moves.FrontRead 2 2 word) ∷ front_lines x.told) (record { front = record x { told = None }; back = w.back; under = w.under }) d) (sym none)
    (looked_goes config w g d front.Loop (moves.FrontRead 2 2 word) word store refl refl h told awake read (λ same. stored))
  where
    word : ℕ
    word = word_of w.under.pages 2 2

    read : word ≡ wrapped g.start g.replied
    read = let ring = h.ring in ring.responses refl

    store : View
    store = let v : View = w.front in record v { ring = record v.ring { seen = word }; stage = front.StoreEvent }

    stored : Goes config (lines.Move (moves.FrontRead 2 2 word) ∷ front_lines store.told) (record { front = record store { told = None }; back = w.back; under = w.under }) d
    stored =
        goes_by {g = record g { front_seen = g.replied }} (said_nothing d (moves.FrontRead 2 2 word) w.front.told told)
        (rest_kept config w g d front.Loop front.StoreEvent word g.replied w.front.ring.asleep w.under.pages w.under.channels refl refl refl refl h tt read h.indices.taken_replied (omega arith) h.memory
        (λ f apart x lt. refl) (λ x apart lt. refl) refl refl refl (sleep_turned _ _ (λ t. absurd cc) (λ t. awake) h.front_sleep))

-- the words of the oldest response, as the front reads them
pub response_read : (config : Options) (w : World) (g : Flow) (d : Pipeline) (s : FrontStage) (rep : Reply) (k : ℕ)
    → Holds config w g d s w.back.stage
    → slice_get g.replies 0 ≡ Some rep
    → k < 3
    → word_of w.under.pages (slot_frame w.front.shape w.front.ring.indices.cons k) (slot_word w.front.shape w.front.ring.indices.cons k) ≡ response_word rep k
response_read config w g d s rep k h oldest lt =
    let slots = h.slots in
    let index : w.front.ring.indices.cons ≡ wrapped g.start (g.taken + 0) = h.indices.taken ∙ ap (wrapped g.start) (omega arith) in
    ap (λ (x : Shape). slot_of w.under.pages x w.front.ring.indices.cons k) h.shaped.known ∙ (ap (λ (n : ℕ). slot_of w.under.pages g.shape n k) index ∙ slots.responses 0 rep oldest k lt)

-- a response is there: its first word is read
take_up_goes : (config : Options) (w : World) (g : Flow) (d : Pipeline)
    → w.front.told ≡ None
    → (responses_of w.front.ring.indices w.front.ring.seen == 0) ≡ false
    → Holds config w g d front.Loop w.back.stage
    → w.front.ring.asleep ≡ false
    → LoopGoes config w d None (ask.Read (slot_frame w.front.shape w.front.ring.indices.cons 0) (slot_word w.front.shape w.front.ring.indices.cons 0))
take_up_goes config w g d told some h awake = subst (λ (b : Bool). let x : View = (if b then looked w.front word (record w.front { ring = record w.front.ring { seen = word }; stage = front.StoreEvent }) else at (front.ResponseHigh word) w.front) in Goes config (lines.Move (moves.FrontRead (slot_frame w.front.shape w.front.ring.indices.cons 0) (slot_word w.front.shape w.front.ring.indices.cons 0) word) ∷ front_lines x.told) (record { front = record x { told = None }; back = w.back; under = w.under }) d) (sym some)
    (at_stage_goes config w g d front.Loop (front.ResponseHigh word) (moves.FrontRead (slot_frame w.front.shape w.front.ring.indices.cons 0) (slot_word w.front.shape w.front.ring.indices.cons 0) word) w.under.pages refl refl refl refl told h
    (record { rep = rep.0; oldest = rep.1; seen = seen }, response_read config w g d front.Loop rep.0 0 h rep.1 (omega arith)) h.memory (λ f apart x lt. refl) (λ x apart lt. refl)
    (sleep_turned _ _ (λ t. absurd cc) (λ t. awake) h.front_sleep))
  where
    word : ℕ
    word = word_of w.under.pages (slot_frame w.front.shape w.front.ring.indices.cons 0) (slot_word w.front.shape w.front.ring.indices.cons 0)

    seen : g.taken < g.front_seen
    seen =
        let far = distance_at g.start g.taken g.front_seen w.front.ring.indices.cons w.front.ring.seen h.indices.taken h.indices.front_saw h.indices.front_from (omega (arith, h.indices)) in
        let apart : responses_of w.front.ring.indices w.front.ring.seen ≢ 0 = grind (arith, nat_tests) in
        omega (arith, h.indices)

    rep : (x : Reply) × (slice_get g.replies 0 ≡ Some x)
    rep = get_within g.replies 0 (omega (arith, h.indices, h.replies.counted, seen))

-- its second word
pub high_goes : (config : Options) (w : World) (g : Flow) (d : Pipeline) (low : ℕ)
    → w.front.told ≡ None
    → Holds config w g d (front.ResponseHigh low) w.back.stage
    → FrontGoes config w d (front.ResponseHigh low)
high_goes config w g d low told h =
    at_stage_goes config w g d (front.ResponseHigh low) (front.ResponseLast low word) (moves.FrontRead (slot_frame w.front.shape w.front.ring.indices.cons 1) (slot_word w.front.shape w.front.ring.indices.cons 1) word) w.under.pages refl refl refl refl told h
    (h.front_at.0, h.front_at.1, response_read config w g d (front.ResponseHigh low) h.front_at.0.rep 1 h h.front_at.0.oldest (omega arith)) h.memory (λ f apart x lt. refl) (λ x apart lt. refl)
    (sleep_turned _ _ (λ t. absurd cc) (λ t. h.front_sleep.may refl) h.front_sleep)
  where
    word : ℕ
    word = word_of w.under.pages (slot_frame w.front.shape w.front.ring.indices.cons 1) (slot_word w.front.shape w.front.ring.indices.cons 1)

-- the loop where no request waits
pub loop_resumes : (config : Options) (w : World) (g : Flow) (d : Pipeline)
    → w.front.told ≡ None
    → w.front.stage ≡ front.Loop
    → next_request w.front ≡ None
    → Holds config w g d front.Loop w.back.stage
    → FrontGoes config w d front.Loop
loop_resumes config w g d told e none h =
    subst (λ (n : Option Request). LoopGoes config w d n (loop_ask w.front n)) (sym none) (by_wait (w.front.ring.asleep || is_through w.front) refl)
  where
    by_more : w.front.ring.asleep ≡ false → (b : Bool) → (responses_of w.front.ring.indices w.front.ring.seen == 0) ≡ b → LoopGoes config w d None (if b then ask.Read ring_frame 2 else ask.Read (slot_frame w.front.shape w.front.ring.indices.cons 0) (slot_word w.front.shape w.front.ring.indices.cons 0))
    by_more awake true t = look_goes config w g d told awake t h
    by_more awake false t = take_up_goes config w g d told t h awake

    by_wait : (a : Bool) → (w.front.ring.asleep || is_through w.front) ≡ a → LoopGoes config w d None (if a then ask.Wait else (if responses_of w.front.ring.indices w.front.ring.seen == 0 then ask.Read ring_frame 2 else ask.Read (slot_frame w.front.shape w.front.ring.indices.cons 0) (slot_word w.front.shape w.front.ring.indices.cons 0)))
    by_wait true t = wait_goes config w g d told e h
    by_wait false t = by_more (or_parts w.front.ring.asleep (is_through w.front) t).0 (responses_of w.front.ring.indices w.front.ring.seen == 0) refl
