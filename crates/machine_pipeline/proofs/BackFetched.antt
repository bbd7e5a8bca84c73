-- The last word of an entry is read: its job is begun.
use Rattle.std.proofs.Common.{◌≡◌, ◌≢◌, ℕ, ◌+◌, ◌-◌, ◌%◌, ◌^◌, ◌<◌, ◌==◌, Bool, true, false, if◌then◌else◌, List, [], ◌∷◌, ◌++◌, length, take, refl, ap, sym, subst, ◌∙◌, arith, length-append}
use Rattle.std.specs.Prelude.{Some, None, slice_get, slice_index}
use Rattle.std.proofs.lemmas.Option.{same_Some, slice_get_within}
use Rattle.std.proofs.lemmas.Bool.{false≢true}
use Rattle.std.proofs.lemmas.Bool.Decides.{nat_tests}
use Rattle.blk_base.specs.Options.{Options}
use Rattle.blk_base.specs.declared.ask.BackAnswer.{BackAnswer}
use Rattle.blk_base.specs.declared.moves.Move.{Move as Shown}
use Rattle.pipeline_laws.specs.Pipeline.{Pipeline}
use Rattle.ring_words.specs.Ring.{Ring, next_of}
use Rattle.ring_words.specs.Shape.{Shape, entry_words_of}
use Rattle.event_channel.specs.Channels.{taken}
use Rattle.back_jobs.specs.Work.{Work}
use Rattle.blk_front.specs.declared.request.Request.{Request}
use Rattle.blk_front.specs.declared.stage.FrontStage.{FrontStage}
use Rattle.blk_front.specs.Entry.{entry_of}
use Rattle.blk_front.specs.Submit.{is_ready}
use Rattle.blk_back.specs.declared.stage.Reply.{Reply}
use Rattle.blk_back.specs.declared.stage.BackStage.TheVariants as stage
use Rattle.blk_back.specs.Step.{fetched}
use Rattle.split_model.specs.World.{World}
use Rattle.split_model.specs.Shown.{back_lines, halt_lines}
use Rattle.machine_pipeline.specs.Step.{IsSame}
use Rattle.machine_pipeline.proofs.Flow.{Flow, is_issuing, ending_at, telling_at, is_back_arming, may_back_sleep}
use Rattle.machine_pipeline.proofs.Series.{numbered_more}
use Rattle.machine_pipeline.proofs.Stations.{AreStations}
use Rattle.machine_pipeline.proofs.StationsBack.{fetches}
use Rattle.machine_pipeline.proofs.Holds.{Holds, AreIndices, IsSubmitted, AreReplies, AreSlots, AreMapped, BackSends}
use Rattle.machine_pipeline.proofs.HoldsWorks.{IsWork}
use Rattle.machine_pipeline.proofs.Turns.{BackGoes, Stepped, does_step, goes_by, silent}
use Rattle.machine_pipeline.proofs.BackStill.{BackStands}
use Rattle.machine_pipeline.proofs.BackQuiet.{IsBetween, paged_at, between, goes_seen}
use Rattle.std.proofs.lemmas.List.{take_all}
use Rattle.blk_base.specs.declared.operation.Abi.{Abi}
use Rattle.blk_layout.specs.Entry.{request_of}
use Rattle.segment_list.specs.declared.verdict.DiskInfo.{DiskInfo}
use Rattle.segment_list.specs.Verdict.{verdict_of}
use Rattle.back_jobs.specs.Work.{begun}
use Rattle.back_jobs.proofs.Hands.{started_hands}
use Rattle.blk_back.specs.Step.{next_number}
use Rattle.machine_pipeline.proofs.Wrapped.{next_wrapped}
use Rattle.machine_pipeline.proofs.BackLooks.{LooksAs}
use Rattle.machine_pipeline.proofs.BackFetch.{IsNext, entry_word, next_pushed, one_more, length_entry}
use Rattle.machine_pipeline.proofs.BackBegins.{job_as, entry_job, IsJobOf, is_job, is_work, works_with}
use Rattle.back_jobs.specs.Hands.{hands_in}
use Rattle.machine_pipeline.proofs.Kept.{awake_back, sleep_sent, sleep_turned}

-- one request more was fetched
indices_with : (g : Flow) (front_ring back_ring : Ring) (front_seen back_seen number last waiting unfinished ending : ℕ) → g.fetched < g.back_seen → AreIndices g front_ring back_ring front_seen back_seen number last waiting unfinished ending → AreIndices (record g { fetched = g.fetched + 1 }) front_ring (record back_ring { cons = next_of back_ring.cons }) front_seen back_seen ((number + 1) % 2 ^ 64) last waiting unfinished ending
indices_with g front_ring back_ring front_seen back_seen number last waiting unfinished ending more x = let fetched = next_wrapped g.start g.fetched back_ring.cons x.fetched in omega (arith, x)

replies_with : {series : List Request} (fetched taken replied : ℕ) (replies : List Reply) → AreReplies series fetched taken replied replies → AreReplies series (fetched + 1) taken replied replies
replies_with fetched taken replied replies h = record {
  counted = h.counted;
  each = λ k d lt. let was = h.each k d lt in record { positive = was.positive; reached = numbered_more fetched (fetched + 1) _ (omega arith) was.reached; op = was.op };
  distinct = h.distinct;
}

slots_with : (shape : Shape) (start fetched pushed taken replied : ℕ) (series : List Request) (replies : List Reply) (pages : List ℕ) (s : FrontStage) (k : ℕ) → AreSlots shape start fetched pushed taken replied series replies pages s (stage.Fetch k) → AreSlots shape start (fetched + 1) pushed taken replied series replies pages s stage.Loop
slots_with shape start fetched pushed taken replied series replies pages s k h = record {
  entries = λ j r from to e i lt. h.entries j r (omega arith) to e i lt;
  entry = h.entry;
  responses = h.responses;
  response = λ rep t i lt. cc;
}

goes_fetched : (config : Options) (w : World) (g : Flow) (d : Pipeline) (k : ℕ) (shown : Shown) (given : BackAnswer) (r : Request) (words : List ℕ)
    → BackStands config w g d (stage.Fetch k)
    → slice_get g.series g.fetched ≡ Some r
    → words ≡ entry_of w.back.shape.abi r
    → LooksAs config w d shown given (fetched w.back words)
goes_fetched config w g d k shown given r words p known e = subst (λ (ws : List ℕ). LooksAs config w d shown given (fetched w.back ws)) (sym e) (goes_by {g = record g { fetched = g.fetched + 1 }} (does_step shown (back_lines w.back.told given ++ halt_lines w.back.halted w.back.halted) (rw (p.untold, h.unhalted) refl) s)
    (assumption (
      s.now,
      counted,
      indices_with g _ _ _ _ _ _ _ _ _ h.back_at.2 h.indices,
      works_with g.submitted config.sectors w.front.last g.fetched w.back.jobs.works t r h.queue.ordered h.submitted h.works is known it.id it.unhindered,
      replies_with g.fetched g.taken g.replied g.replies h.replies,
      slots_with _ _ _ _ _ _ _ _ _ _ k h.slots,
      mapped,
      paged_at _ _ _ _ _ _ _ (stage.Fetch k) stage.Loop refl refl h.paged,
      sleep_sent (BackSends stage.Loop g.replied g.taken) (λ m. m) (λ u s. absurd s) h.front_sleep,
      awake_back g.start (g.fetched + 1) g.pushed w.under.pages w.back.ring.asleep w.under.channels.back_pending w.front.stage stage.Loop awake refl,
    )))
  where
    h : Holds config w g d w.front.stage (stage.Fetch k)
    h = p.holds

    awake : w.back.ring.asleep ≡ false
    awake = h.back_sleep.may refl

    t : Work
    t = begun (next_number w.back) (request_of w.back.shape.abi (entry_of w.back.shape.abi r)) w.back.jobs.info.sectors (verdict_of (request_of w.back.shape.abi (entry_of w.back.shape.abi r)) w.back.jobs.info)

    counted : length (w.back.jobs.works ++ t ∷ []) + 0 + g.replied ≡ g.fetched + 1
    counted = omega (arith, length-append w.back.jobs.works (t ∷ []), h.counted)

    mapped : AreMapped w.under.grants.live (hands_in (w.back.jobs.works ++ t ∷ []) ++ w.back.pages)
    mapped = rw (started_hands w.back.jobs (next_number w.back) (request_of w.back.shape.abi (entry_of w.back.shape.abi r))) h.mapped

    number : next_number w.back ≡ g.fetched + 1
    number = omega (arith, h.indices.count, h.indices.few, h.indices.all, h.indices.given, h.indices.fetched_pushed)

    asked : slice_get g.submitted (r.number - 1) ≡ Some r
    asked = h.queue.ordered.known g.fetched r known

    few : r.number - 1 < 2 ^ 32
    few = let within = slice_get_within g.submitted (r.number - 1) r asked in omega (arith, h.indices.few, h.submitted.counted)

    sub : IsSubmitted config.sectors (r.number - 1) r
    sub = h.submitted.each (r.number - 1) r asked

    made : t ≡ job_as r.transfer (next_number w.back) w.back.jobs.info.sectors r
    made = ap (λ (i : DiskInfo). begun (next_number w.back) (request_of w.back.shape.abi (entry_of w.back.shape.abi r)) w.back.jobs.info.sectors (verdict_of (request_of w.back.shape.abi (entry_of w.back.shape.abi r)) i)) h.info ∙ entry_job w.back.shape.abi config (next_number w.back) w.back.jobs.info.sectors (r.number - 1) r p.plain few sub (h.sized.writable (r.number - 1) r asked) (h.sized.served (r.number - 1) r asked) (h.sized.short (r.number - 1) r asked)

    it : IsJobOf r.transfer (next_number w.back) r t
    it = subst (IsJobOf r.transfer (next_number w.back) r) (sym made) (is_job r.transfer (next_number w.back) w.back.jobs.info.sectors r sub.shaped refl)

    is : IsWork g.submitted g.series (g.fetched + 1) t
    is = subst (λ (u : Work). IsWork g.submitted g.series (g.fetched + 1) u) (sym made) (is_work g.submitted g.fetched w.back.jobs.info.sectors config.sectors (next_number w.back) r number known asked sub (ap (λ (i : DiskInfo). i.sectors) h.info))

    s : Stepped None IsSame d [] (λ p. AreStations config (record g { fetched = g.fetched + 1 }) p (is_ready w.front.stage) (is_issuing w.front.stage) false (ending_at w.front.stage w.front.ending) (telling_at w.front.stage) None w.front.requests (w.back.jobs.works ++ t ∷ []) w.under.pages)
    s = fetches t r h.queue.ordered known (omega (arith, h.indices.back_to, h.back_at.2)) it.id it.unmoved (it.unread w.under.pages) h.stations

goes_further : (config : Options) (w : World) (g : Flow) (d : Pipeline) (k word : ℕ) (shown : Shown) (given : BackAnswer) (last : Bool)
    → (k + 1 == entry_words_of w.back.shape.abi) ≡ last
    → word ≡ entry_word w k
    → BackStands config w g d (stage.Fetch k)
    → LooksAs config w d shown given (if last then fetched w.back (w.back.ring.entry ++ word ∷ []) else record w.back { ring = record w.back.ring { entry = w.back.ring.entry ++ word ∷ [] }; stage = stage.Fetch (k + 1) })
goes_further config w g d k word shown given last tested read p = by_test last tested
  where
    h : Holds config w g d w.front.stage (stage.Fetch k)
    h = p.holds

    few : k < entry_words_of g.shape.abi
    few = h.back_at.1

    abi : w.back.shape.abi ≡ g.shape.abi
    abi = ap (λ (x : Shape). x.abi) (h.paged.shaped refl)

    i : IsBetween (stage.Fetch k) w.back
    i = between (stage.Fetch k) w.back refl refl refl

    n : IsNext w g
    n = next_pushed config w g d (stage.Fetch k) p i h.back_at.2

    r : Request
    r = h.back_at.3.0

    same : n.r ≡ r
    same = same_Some n.r r (sym n.known ∙ h.back_at.3.1)

    more : w.back.ring.entry ++ word ∷ [] ≡ take (k + 1) (entry_of g.shape.abi r)
    more = one_more g.shape.abi r k word w.back.ring.entry few h.back_at.3.2 (read ∙ n.words k few ∙ ap (λ (q : Request). slice_index (entry_of g.shape.abi q) k) same)

    by_test : (last : Bool) → (k + 1 == entry_words_of w.back.shape.abi) ≡ last → LooksAs config w d shown given (if last then fetched w.back (w.back.ring.entry ++ word ∷ []) else record w.back { ring = record w.back.ring { entry = w.back.ring.entry ++ word ∷ [] }; stage = stage.Fetch (k + 1) })
    by_test true u =
        let whole : k + 1 ≡ entry_words_of w.back.shape.abi = grind (arith, nat_tests) in
        let words : entry_words_of w.back.shape.abi ≡ entry_words_of g.shape.abi = ap entry_words_of abi in
        let all : take (k + 1) (entry_of g.shape.abi r) ≡ entry_of g.shape.abi r = take_all (k + 1) (entry_of g.shape.abi r) (let sized = length_entry g.shape.abi r in omega arith) in
        goes_fetched config w g d k shown given r (w.back.ring.entry ++ word ∷ []) p h.back_at.3.1 (more ∙ (all ∙ ap (λ (x : Abi). entry_of x r) (sym abi)))
    by_test false u =
        let apart : k + 1 ≢ entry_words_of w.back.shape.abi = grind (arith, nat_tests) in
        let words : entry_words_of w.back.shape.abi ≡ entry_words_of g.shape.abi = ap entry_words_of abi in
        let awake : w.back.ring.asleep ≡ false = h.back_sleep.may refl in
        goes_seen config w g d [] (stage.Fetch k) (stage.Fetch (k + 1)) w.back.ring.asleep w.back.ring.seen (w.back.ring.entry ++ word ∷ []) g.back_seen shown given
        (silent shown w.back.told w.back.halted given d p.untold h.unhalted) p i
        (between (stage.Fetch (k + 1)) w.back refl refl refl) h.stations h.indices (omega arith, omega arith, h.back_at.2, (r, h.back_at.3.1, more)) (λ s. s)
        (sleep_turned (is_back_arming (stage.Fetch (k + 1))) (may_back_sleep (stage.Fetch (k + 1))) (λ t. absurd (false≢true t)) (λ t. awake) h.back_sleep)

pub goes_fetch : (config : Options) (w : World) (g : Flow) (d : Pipeline) (k : ℕ) → BackStands config w g d (stage.Fetch k) → BackGoes config w d (stage.Fetch k)
goes_fetch config w g d k p = goes_further config w g d k (entry_word w k) _ _ (k + 1 == entry_words_of w.back.shape.abi) refl refl p
