-- A move of the back from one stage to another over the same memory.
use Rattle.std.proofs.Common.{◌≡◌, ℕ, ◌+◌, ◌^◌, ◌<◌, Bool, true, false, List, [], ◌∷◌, ◌++◌, length, refl, ap, sym, ◌∙◌}
use Rattle.std.specs.Prelude.{Option, Some, None, ◌⊎◌}
use Rattle.std.proofs.lemmas.Option.{none-some}
use Rattle.std.proofs.lemmas.Bool.{false≢true}
use Rattle.blk_base.specs.Options.{Options}
use Rattle.blk_base.specs.declared.ask.BackAnswer.{BackAnswer}
use Rattle.blk_base.specs.declared.moves.Move.{Move as Shown}
use Rattle.schedule_text.specs.declared.line.Line.TheVariants.{Move}
use Rattle.blk_base.specs.declared.parts.Mapping.{Mapping}
use Rattle.ring_words.specs.Shape.{Shape}
use Rattle.event_channel.specs.Channels.{ChannelState}
use Rattle.back_jobs.specs.Hands.{hands_in}
use Rattle.blk_front.specs.declared.request.Request.{Request}
use Rattle.blk_front.specs.declared.stage.FrontStage.{FrontStage}
use Rattle.blk_front.specs.Submit.{is_connected, ending_of}
use Rattle.blk_back.specs.declared.stage.Reply.{Reply}
use Rattle.blk_back.specs.declared.stage.BackStage.{BackStage}
use Rattle.blk_back.specs.declared.stage.BackStage.TheVariants as back
use Rattle.blk_back.specs.View.{View}
use Rattle.blk_back.specs.Ask.{response_word}
use Rattle.blk_back.specs.Hands.{hands_at}
use Rattle.split_model.specs.World.{World}
use Rattle.split_model.specs.Shown.{back_lines, halt_lines}
use Rattle.machine_pipeline.proofs.Flow.{Flow, wrapped, is_back_arming, may_back_sleep, is_bound_back, has_terms, reply_at, reply_count, responded, is_fetching}
use Rattle.machine_pipeline.proofs.Holds.{Holds, AreIndices, AreSlots, PagesAt, ArePaged, slot_of, IsFrontSleep, IsBackSleep, BackSends, BackAt, PortsAt}
use Rattle.pipeline_laws.specs.Pipeline.{Pipeline, Step, after_steps}
use Rattle.machine_pipeline.specs.Step.{Does, IsSame}
use Rattle.machine_pipeline.proofs.Turns.{Goes, silent, goes_by}
use Rattle.machine_pipeline.proofs.BackStill.{BackStands, Moves, still, IsRingless, StationsOf}
use Rattle.machine_pipeline.proofs.Kept.{SameFrame, sleep_sent, sleep_turned}

-- a back that is bound to its port has the terms of its front
pub bound_terms : (b : BackStage) → is_bound_back b ≡ true → has_terms b ≡ true
bound_terms back.InitWait bound = bound
bound_terms b bound = refl

-- and all pages of the ring
pub all_mapped : (b : BackStage) (order count : ℕ) → is_bound_back b ≡ true → PagesAt b order count → count ≡ 2 ^ order
all_mapped back.InitWait order count bound h = absurd (false≢true bound)
all_mapped back.MapRing order count bound h = absurd (false≢true bound)
all_mapped b order count bound h = h

pub mapped_all : (b : BackStage) (order count : ℕ) → is_bound_back b ≡ true → count ≡ 2 ^ order → PagesAt b order count
mapped_all back.InitWait order count bound h = absurd (false≢true bound)
mapped_all back.MapRing order count bound h = absurd (false≢true bound)
mapped_all b order count bound h = h

-- so they are at each such stage
pub paged_at : (shape back_shape : Shape) (entries : ℕ) (grefs : List ℕ) (port own : ℕ) (pages : List Mapping) (b b' : BackStage) → is_bound_back b ≡ true → is_bound_back b' ≡ true → ArePaged shape back_shape entries grefs port own pages b → ArePaged shape back_shape entries grefs port own pages b'
paged_at shape back_shape entries grefs port own pages b b' bound still h =
    assumption (
      h.shaped (bound_terms b bound),
      h.entries_are (bound_terms b bound),
      h.grefs_are (bound_terms b bound),
      h.port_is (bound_terms b bound),
      mapped_all b' shape.order (length pages) still (all_mapped b shape.order (length pages) bound h.mapped),
    )

-- with the same memory at another stage
pub slots_at : (shape : Shape) (start fetched pushed taken replied : ℕ) (series : List Request) (replies : List Reply) (pages : List ℕ) (s : FrontStage) (b b' : BackStage)
    → ((rep : Reply) → reply_at b' ≡ Some rep → (i : ℕ) → i < responded b' → slot_of pages shape (wrapped start replied) i ≡ response_word rep i)
    → AreSlots shape start fetched pushed taken replied series replies pages s b
    → AreSlots shape start fetched pushed taken replied series replies pages s b'
slots_at shape start fetched pushed taken replied series replies pages s b b' here h = record { entries = h.entries; entry = h.entry; responses = h.responses; response = here }

-- a move that is a step of the pipeline or nothing to it, in short
pub goes_moved : (config : Options) (w : World) (g : Flow) (d : Pipeline) (steps : List Step) (b b' : BackStage) (v : View) (pages : List ℕ) (channels : ChannelState) (seen : ℕ) (shown : Shown) (answer : BackAnswer)
    → Does None IsSame (Move shown ∷ back_lines w.back.told answer ++ halt_lines w.back.halted w.back.halted) d steps
    → BackStands config w g d b
    → Moves config w g (after_steps steps d) w.front.stage b b' (record v { stage = b'; told = None }) pages channels seen
    → Goes config (Move shown ∷ back_lines w.back.told answer ++ halt_lines w.back.halted w.back.halted) (record { front = w.front; back = record v { stage = b'; told = None }; under = record w.under { pages = pages; channels = channels } }) d
goes_moved config w g d steps b b' v pages channels seen shown answer does p m = goes_by {g = record g { back_seen = seen }} does
    (still config w g d (after_steps steps d) w.front.stage b b' (record v { stage = b'; told = None }) pages channels seen p.holds m)

-- a move that tells nothing
pub goes_still : (config : Options) (w : World) (g : Flow) (d : Pipeline) (b b' : BackStage) (v : View) (pages : List ℕ) (channels : ChannelState) (seen : ℕ) (shown : Shown) (answer : BackAnswer)
    → BackStands config w g d b
    → Moves config w g d w.front.stage b b' (record v { stage = b'; told = None }) pages channels seen
    → Goes config (Move shown ∷ back_lines w.back.told answer ++ halt_lines w.back.halted w.back.halted) (record { front = w.front; back = record v { stage = b'; told = None }; under = record w.under { pages = pages; channels = channels } }) d
goes_still config w g d b b' v pages channels seen shown answer p m =
    goes_moved config w g d [] b b' v pages channels seen shown answer (let h : Holds config w g d w.front.stage b = p.holds in silent shown w.back.told w.back.halted answer d p.untold h.unhalted) p m

-- a stage with all pages in hand where no response is being written
pub record IsBetween (b : BackStage) (v : View) : Type 0 where
  pub bound : is_bound_back b ≡ true
  pub none : reply_at b ≡ None
  pub hands : hands_at b v ≡ hands_in v.jobs.works ++ v.pages

pub between : (b : BackStage) (v : View) → is_bound_back b ≡ true → reply_at b ≡ None → hands_at b v ≡ hands_in v.jobs.works ++ v.pages → IsBetween b v
between b v bound none hands = record { bound = bound; none = none; hands = hands }

-- from one such stage to another over the same memory
pub quiet_with : {d' : Pipeline} (config : Options) (w : World) (g : Flow) (d : Pipeline) (b b' : BackStage) (asleep : Bool) (word : ℕ) (entry : List ℕ) (channels : ChannelState) (seen : ℕ)
    → Holds config w g d w.front.stage b
    → IsBetween b w.back
    → IsBetween b' w.back
    → StationsOf config w g d' (is_fetching b') (reply_at b') w.back.jobs.works w.under.pages
    → AreIndices (record g { back_seen = seen }) w.front.ring.indices w.back.ring.indices w.front.ring.seen word w.back.fetched w.front.last w.front.waiting (length w.front.requests) (ending_of w.front.stage)
    → BackAt g.shape g.start g.fetched seen g.replied g.series w.back.jobs.works entry b'
    → IsFrontSleep g.start g.taken g.replied w.under.pages w.front.ring.asleep channels.front_pending w.front.stage b'
    → IsBackSleep g.start g.fetched g.pushed w.under.pages asleep channels.back_pending w.front.stage b'
    → channels.made ≡ w.under.channels.made
    → channels.ports ≡ w.under.channels.ports
    → Moves config w g d' w.front.stage b b' (record w.back { stage = b'; ring = record w.back.ring { asleep = asleep; seen = word; entry = entry }; told = None }) w.under.pages channels seen
quiet_with config w g d b b' asleep word entry channels seen h i j stations indices at front_sleep back_sleep made ports =
    let here : PortsAt g.before (is_connected w.front.stage) (is_bound_back b') channels.made channels.ports = rw (made, ports, j.bound) (rw i.bound at h.ports) in
    let same : (f : ℕ) → IsRingless f → SameFrame w.under.pages w.under.pages f = λ f apart k lt. refl in
    assumption (
      ap (λ (r : Option Reply). length w.back.jobs.works + reply_count r + g.replied) (j.none ∙ sym i.none) ∙ h.counted,
      j.hands ∙ sym i.hands,
      here,
      same,
      slots_at _ _ _ _ _ _ _ _ _ _ b b' (λ rep t k lt. absurd (none-some rep (sym j.none ∙ t))) h.slots,
      paged_at _ _ _ _ _ _ _ b b' i.bound j.bound h.paged,
    )

-- where it sends the front no event, and the front none
pub goes_seen : (config : Options) (w : World) (g : Flow) (d : Pipeline) (steps : List Step) (b b' : BackStage) (asleep : Bool)
    (word : ℕ) (entry : List ℕ) (seen : ℕ) (shown : Shown) (answer : BackAnswer)
    → Does None IsSame (Move shown ∷ back_lines w.back.told answer ++ halt_lines w.back.halted w.back.halted) d steps
    → BackStands config w g d b
    → IsBetween b w.back
    → IsBetween b' w.back
    → StationsOf config w g (after_steps steps d) (is_fetching b') (reply_at b') w.back.jobs.works w.under.pages
    → AreIndices (record g { back_seen = seen }) w.front.ring.indices w.back.ring.indices w.front.ring.seen word w.back.fetched w.front.last w.front.waiting (length w.front.requests)
    (ending_of w.front.stage)
    → BackAt g.shape g.start g.fetched seen g.replied g.series w.back.jobs.works entry b'
    → (BackSends b g.replied g.taken → ⊥)
    → IsBackSleep g.start g.fetched g.pushed w.under.pages asleep w.under.channels.back_pending w.front.stage b'
    → Goes config (Move shown ∷ back_lines w.back.told answer ++ halt_lines w.back.halted w.back.halted)
    (record { front = w.front; back = record w.back { stage = b'; ring = record w.back.ring { asleep = asleep; seen = word; entry = entry }; told = None }; under = w.under }) d
goes_seen config w g d steps b b' asleep word entry seen shown answer does p i j stations indices at unsent back_sleep =
    goes_moved config w g d steps b b' (record w.back { ring = record w.back.ring { asleep = asleep; seen = word; entry = entry } }) w.under.pages w.under.channels seen shown answer does p
    (quiet_with config w g d b b' asleep word entry w.under.channels seen p.holds i j stations indices at (sleep_sent (BackSends b' g.replied g.taken) (λ m. m) (λ t s. absurd (unsent s)) p.holds.front_sleep) back_sleep
    refl refl)

-- a move that tells nothing, and changes nothing but the stage
pub goes_quiet : (config : Options) (w : World) (g : Flow) (d : Pipeline) (b b' : BackStage) (shown : Shown) (answer : BackAnswer)
    → BackStands config w g d b
    → IsBetween b w.back
    → IsBetween b' w.back
    → StationsOf config w g d (is_fetching b') (reply_at b') w.back.jobs.works w.under.pages
    → BackAt g.shape g.start g.fetched g.back_seen g.replied g.series w.back.jobs.works w.back.ring.entry b'
    → (w.front.ring.asleep ≡ true → BackSends b g.replied g.taken → (g.replied ≡ g.taken) ⊎ (w.under.channels.front_pending ≡ true) ⊎ BackSends b' g.replied g.taken)
    → (is_back_arming b' ≡ true → is_back_arming b ≡ true)
    → (may_back_sleep b' ≡ false → w.back.ring.asleep ≡ false)
    → Goes config (Move shown ∷ back_lines w.back.told answer ++ halt_lines w.back.halted w.back.halted)
    (record { front = w.front; back = record w.back { stage = b'; told = None }; under = w.under }) d
goes_quiet config w g d b b' shown answer p i j stations at sends arming may =
    goes_still config w g d b b' w.back w.under.pages w.under.channels g.back_seen shown answer p
    (quiet_with config w g d b b' w.back.ring.asleep w.back.ring.seen w.back.ring.entry w.under.channels g.back_seen p.holds i j stations p.holds.indices at
    (sleep_sent (BackSends b' g.replied g.taken) (λ m. m) sends p.holds.front_sleep) (sleep_turned (is_back_arming b') (may_back_sleep b') arming may p.holds.back_sleep) refl refl)
