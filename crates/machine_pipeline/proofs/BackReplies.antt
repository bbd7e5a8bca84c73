-- The back writes the words of a response.
use Rattle.std.proofs.Common.{◌≡◌, ◌≢◌, ℕ, ◌+◌, ◌*◌, ◌<◌, ◌≤◌, Bool, true, false, List, [], ◌∷◌, ◌++◌, length, refl, ap, sym, subst, ◌∙◌, inl, inr, arith}
use Rattle.std.specs.Prelude.{Option, Some, None}
use Rattle.std.proofs.lemmas.Option.{same_Some, slice_get_within}
use Rattle.std.proofs.lemmas.Bool.{false≢true, cases_eq}
use Rattle.blk_base.specs.Options.{Options}
use Rattle.blk_base.specs.declared.ask.BackAnswer.{BackAnswer}
use Rattle.blk_base.specs.declared.moves.Move.{Move as Shown}
use Rattle.schedule_text.specs.declared.line.Line.TheVariants.{Move}
use Rattle.pipeline_laws.specs.Pipeline.{Pipeline, Step, after_steps}
use Rattle.xen_pages.specs.Pages.{with_word}
use Rattle.grant_table.specs.Table.{frame_of}
use Rattle.event_channel.specs.Channels.{taken}
use Rattle.hypervisor.specs.Act.{with_pages}
use Rattle.back_jobs.specs.Jobs.{HeldJobs}
use Rattle.blk_front.specs.declared.request.Request.{Request}
use Rattle.blk_front.specs.declared.stage.FrontStage.{FrontStage}
use Rattle.ring_words.specs.Shape.{Shape, entries_of, entry_words_of, ring_word_of}
use Rattle.blk_front.specs.View.{slot_frame, slot_word}
use Rattle.blk_front.specs.Submit.{is_ready, is_connected, ending_of}
use Rattle.blk_back.specs.declared.stage.Reply.{Reply}
use Rattle.blk_back.specs.declared.stage.BackStage.{BackStage}
use Rattle.blk_back.specs.declared.stage.BackStage.TheVariants as stage
use Rattle.blk_back.specs.View.{View, slot_page}
use Rattle.blk_back.specs.Ask.{response_word}
use Rattle.blk_back.specs.Step.{fetched}
use Rattle.blk_back.specs.Hands.{hands_at}
use Rattle.split_model.specs.World.{World}
use Rattle.split_model.specs.Shown.{back_lines, halt_lines}
use Rattle.machine_pipeline.proofs.Flow.{Flow, wrapped, is_back_arming, may_back_sleep, is_bound_back, reply_at, reply_count, responded, is_issuing, is_fetching, ending_at, telling_at}
use Rattle.machine_pipeline.proofs.Holds.{Holds, AreIndices, AreSlots, slot_of, BackSends, BackAt, PortsAt}
use Rattle.machine_pipeline.proofs.HoldsWorks.{AreWorks}
use Rattle.machine_pipeline.proofs.Turns.{BackGoes, Goes, silent}
use Rattle.machine_pipeline.proofs.Slots.{response_fits, slot_at, slot_from, slot_frame_from, slot_frame_to, slot_to, slots_apart, same_slot}
use Rattle.machine_pipeline.proofs.BackStill.{BackStands}
use Rattle.machine_pipeline.proofs.BackQuiet.{goes_moved, bound_terms, all_mapped, paged_at}
use Rattle.machine_pipeline.proofs.BackWrites.{RingWritten, ring_written, ring_beside, slot_is}
use Rattle.machine_pipeline.specs.Step.{Does, IsSame}
use Rattle.machine_pipeline.proofs.Stations.{AreStations}
use Rattle.machine_pipeline.proofs.Kept.{sleep_kept, sleep_sent, sleep_turned}

-- word i of the response at hand
slots_written : (shape : Shape) (start fetched pushed taken replied last i : ℕ) (rep : Reply) (series : List Request) (replies : List Reply) (old new : List ℕ) (s : FrontStage) (b b' : BackStage)
    → RingWritten old new (slot_frame shape (wrapped start replied) i) (slot_word shape (wrapped start replied) i) (response_word rep i)
    → shape.order ≤ 4
    → i < 3
    → reply_at b' ≡ Some rep
    → responded b' ≡ i + 1
    → ((j : ℕ) → j < i → slot_of old shape (wrapped start replied) j ≡ response_word rep j)
    → replied < fetched
    → fetched ≤ pushed
    → pushed ≤ last
    → last ≤ taken + entries_of shape.order
    → length series ≡ last
    → length replies + taken ≡ replied
    → AreSlots shape start fetched pushed taken replied series replies old s b
    → AreSlots shape start fetched pushed taken replied series replies new s b'
slots_written shape start fetched pushed taken replied last i rep series replies old new s b b' r narrow few here upto before owed reached issued room counted told h = record {
  entries = λ k q from to e j lt. other k j (λ same. slots_apart shape start replied k i j narrow (omega arith) (omega arith) three lt (sym same)) ∙ h.entries k q from to e j lt;
  entry = λ q e j lt in_it.
      let within = slice_get_within series pushed q e in
      other pushed j (λ same. slots_apart shape start replied pushed i j narrow (omega arith) (omega arith) three lt (sym same)) ∙ h.entry q e j lt in_it;
  responses = λ k q e j lt.
      let within = slice_get_within replies k q e in
      other (taken + k) j (slots_apart shape start (taken + k) replied j i narrow (omega arith) (omega arith) (response_fits shape.abi j lt) three) ∙ h.responses k q e j lt;
  response = λ q e j lt.
      subst (λ (x : Reply). slot_of new shape (wrapped start replied) j ≡ response_word x j) (same_Some rep q (sym here ∙ e)) (elim (cases_eq j i) [
        | inl is ↦ subst (λ (x : ℕ). slot_of new shape (wrapped start replied) x ≡ response_word rep x) (sym is) r.here
        | inr apart ↦ other replied j (same_slot shape (wrapped start replied) j i apart) ∙ before j (omega arith)
      ]);
}
  where
    three : i < entry_words_of shape.abi
    three = response_fits shape.abi i few

    other : (n j : ℕ) → ring_word_of shape (wrapped start n) j ≢ ring_word_of shape (wrapped start replied) i → slot_of new shape (wrapped start n) j ≡ slot_of old shape (wrapped start n) j
    other n j apart =
        let written = slot_at shape (wrapped start replied) i in
        r.words (slot_frame shape (wrapped start n) j) (slot_word shape (wrapped start n) j) (λ same. apart (omega (arith, slot_at shape (wrapped start n) j)))

-- the view with other jobs
abbrev pub with_jobs : View → HeldJobs → View
with_jobs v jobs = record v { jobs = jobs }

-- a stage at which the next word of a response is written
pub record IsAnswering (b b' : BackStage) (rep : Reply) (i : ℕ) : Type 0 where
  pub few : i < 3
  pub here : reply_at b' ≡ Some rep
  pub upto : responded b' ≡ i + 1
  pub bound : is_bound_back b ≡ true
  pub bound_still : is_bound_back b' ≡ true
  pub unarmed : is_back_arming b' ≡ false
  pub sleeps : may_back_sleep b' ≡ true

pub goes_word : (config : Options) (w : World) (g : Flow) (d : Pipeline) (steps : List Step) (b b' : BackStage) (rep : Reply) (i : ℕ) (jobs : HeldJobs) (frame : ℕ) (shown : Shown) (given : BackAnswer)
    → Does None IsSame (Move shown ∷ back_lines w.back.told given ++ halt_lines w.back.halted w.back.halted) d steps
    → BackStands config w g d b
    → IsAnswering b b' rep i
    → frame ≡ slot_frame g.shape w.back.ring.indices.prod i
    → (BackSends b g.replied g.taken → ⊥)
    → ((j : ℕ) → j < i → slot_of w.under.pages g.shape (wrapped g.start g.replied) j ≡ response_word rep j)
    → AreStations config g (after_steps steps d) (is_ready w.front.stage) (is_issuing w.front.stage) (is_fetching b') (ending_at w.front.stage w.front.ending) (telling_at w.front.stage) (reply_at b') w.front.requests jobs.works w.under.pages
    → AreWorks g.submitted g.series g.fetched jobs.works
    → length jobs.works + 1 + g.replied ≡ g.fetched
    → jobs.info ≡ w.back.jobs.info
    → BackAt g.shape g.start g.fetched g.back_seen g.replied g.series jobs.works w.back.ring.entry b'
    → hands_at b' (with_jobs w.back jobs) ≡ hands_at b w.back
    → Goes config (Move shown ∷ back_lines w.back.told given ++ halt_lines w.back.halted w.back.halted) (record { front = w.front; back = record w.back { jobs = jobs; stage = b'; told = None }; under = with_pages w.under (with_word w.under.pages frame (slot_word w.back.shape w.back.ring.indices.prod i) (response_word rep i)) }) d
goes_word config w g d steps b b' rep i jobs frame shown given does p a placed unsent before stations works counted info at hands =
    goes_moved config w g d steps b b' (with_jobs w.back jobs) new w.under.channels g.back_seen shown given does p
    (assumption (
      ap (λ (r : Option Reply). length jobs.works + reply_count r + g.replied) a.here ∙ counted,
      r.memory,
      r.others,
      ring_beside _ _ _ _ _ _ _ _ _ new _ r (omega (arith, after)) (omega (arith, after)) p.connected (all_mapped b g.shape.order (length w.back.pages) a.bound h.paged.mapped) h.ring,
      slots_written _ _ _ _ _ _ (length g.series) i rep _ _ _ new _ _ b' r h.shaped.narrow a.few a.here a.upto before (omega arith) x.fetched_pushed (omega (arith, x.all))
          (omega (arith, x.held, x.room)) refl h.replies.counted h.slots,
      paged_at _ _ _ _ _ _ _ b b' a.bound a.bound_still h.paged,
      sleep_sent (BackSends b' g.replied g.taken) (λ m. m) (λ t s. absurd (unsent s)) (sleep_kept (r.words 2 3 (omega (arith, after))) h.front_sleep),
      sleep_turned (is_back_arming b') (may_back_sleep b') (λ t. absurd (false≢true (sym a.unarmed ∙ t))) (λ t. absurd (false≢true (sym t ∙ a.sleeps)))
          (sleep_kept (r.words 2 1 (omega (arith, after))) h.back_sleep),
      subst (λ (bound : Bool). PortsAt g.before (is_connected w.front.stage) bound w.under.channels.made w.under.channels.ports) (a.bound ∙ sym a.bound_still) h.ports,
    ))
  where
    h : Holds config w g d w.front.stage b
    h = p.holds

    x : AreIndices g w.front.ring.indices w.back.ring.indices w.front.ring.seen w.back.ring.seen w.back.fetched w.front.last w.front.waiting (length w.front.requests) (ending_of w.front.stage)
    x = h.indices

    index : ℕ
    index = wrapped g.start g.replied

    three : i < entry_words_of g.shape.abi
    three = response_fits g.shape.abi i a.few

    after : 2064 ≤ slot_frame g.shape index i * 1024 + slot_word g.shape index i
    after = slot_from g.shape index i

    new : List ℕ
    new = with_word w.under.pages frame (slot_word w.back.shape w.back.ring.indices.prod i) (response_word rep i)

    r : RingWritten w.under.pages new (slot_frame g.shape index i) (slot_word g.shape index i) (response_word rep i)
    r = subst (λ (s : Shape). RingWritten w.under.pages (with_word w.under.pages frame (slot_word s w.back.ring.indices.prod i) (response_word rep i)) (slot_frame g.shape index i) (slot_word g.shape index i) (response_word rep i)) (sym (h.paged.shaped (bound_terms b a.bound)))
        (subst (λ (c : ℕ). RingWritten w.under.pages (with_word w.under.pages frame (slot_word g.shape w.back.ring.indices.prod i) (response_word rep i)) (slot_frame g.shape c i) (slot_word g.shape c i) (response_word rep i)) x.replied
        (ring_written w.under.pages frame (slot_frame g.shape w.back.ring.indices.prod i) (slot_word g.shape w.back.ring.indices.prod i) (response_word rep i) placed (slot_frame_from g.shape w.back.ring.indices.prod i) (slot_frame_to g.shape w.back.ring.indices.prod i h.shaped.narrow three) (slot_to g.shape w.back.ring.indices.prod i) h.memory))

pub goes_reply_high : (config : Options) (w : World) (g : Flow) (d : Pipeline) (rep : Reply) → BackStands config w g d (stage.ReplyHigh rep) → BackGoes config w d (stage.ReplyHigh rep)
goes_reply_high config w g d rep p =
    let h : Holds config w g d w.front.stage (stage.ReplyHigh rep) = p.holds in
    goes_word config w g d [] (stage.ReplyHigh rep) (stage.ReplyLast rep) rep 1 w.back.jobs (frame_of w.under.grants (slot_page w.back w.back.ring.indices.prod 1)) _ _ (silent _ w.back.told w.back.halted _ d p.untold h.unhalted) p
    (record { few = omega arith; here = refl; upto = refl; bound = refl; bound_still = refl; unarmed = refl; sleeps = refl })
    (slot_is config w g d (stage.ReplyHigh rep) w.back.ring.indices.prod 1 p refl refl (response_fits g.shape.abi 1 (omega arith))) (λ s. s) (λ j lt. h.slots.response rep refl j lt) h.stations h.works h.counted refl h.back_at refl

pub goes_reply_last : (config : Options) (w : World) (g : Flow) (d : Pipeline) (rep : Reply) → BackStands config w g d (stage.ReplyLast rep) → BackGoes config w d (stage.ReplyLast rep)
goes_reply_last config w g d rep p =
    let h : Holds config w g d w.front.stage (stage.ReplyLast rep) = p.holds in
    goes_word config w g d [] (stage.ReplyLast rep) (stage.Producer rep) rep 2 w.back.jobs (frame_of w.under.grants (slot_page w.back w.back.ring.indices.prod 2)) _ _ (silent _ w.back.told w.back.halted _ d p.untold h.unhalted) p
    (record { few = omega arith; here = refl; upto = refl; bound = refl; bound_still = refl; unarmed = refl; sleeps = refl })
    (slot_is config w g d (stage.ReplyLast rep) w.back.ring.indices.prod 2 p refl refl (response_fits g.shape.abi 2 (omega arith))) (λ s. s) (λ j lt. h.slots.response rep refl j lt) h.stations h.works h.counted refl h.back_at refl
