-- While the ends serve requests: what the laws of the back's end alone ask of the machine, and that each of its moves lowers what is left.
use Rattle.std.proofs.Common.{◌≡◌, ℕ, ◌+◌, ◌-◌, ◌^◌, ◌<◌, ◌≤◌, ◌==◌, true, false, List, length, refl, ap, sym, subst, ◌∙◌, arith}
use Rattle.std.specs.Prelude.{Some}
use Rattle.std.proofs.lemmas.List.{length-take}
use Rattle.std.proofs.lemmas.List.FromFn.{length-range_with_len}
use Rattle.blk_base.specs.Options.{Options}
use Rattle.blk_base.specs.Distance.{distance_of}
use Rattle.blk_base.specs.declared.parts.Mapping.{Mapping}
use Rattle.ring_words.specs.Ring.{requests_of, overruns}
use Rattle.ring_words.specs.Shape.{Shape, entries_of, entry_words_of}
use Rattle.xen_pages.specs.Pages.{word_of}
use Rattle.grant_table.specs.Table.{frame_of}
use Rattle.hypervisor.specs.Act.{BackAct, Took}
use Rattle.blk_front.specs.declared.request.Request.{Request}
use Rattle.blk_front.specs.declared.stage.FrontStage.{FrontStage}
use Rattle.blk_front.specs.declared.stage.FrontStage.TheVariants as front
use Rattle.blk_front.specs.Entry.{entry_of}
use Rattle.blk_front.specs.Submit.{is_connected}
use Rattle.back_jobs.specs.Work.{Work}
use Rattle.blk_back.specs.declared.stage.Reply.{Reply}
use Rattle.blk_back.specs.declared.stage.BackStage.{BackStage}
use Rattle.blk_back.specs.declared.stage.BackStage.TheVariants as stage
use Rattle.blk_back.specs.View.{page_of}
use Rattle.blk_back.specs.Ask.{ask_at, IsAnswer}
use Rattle.blk_back.specs.Step.{step_at}
use Rattle.blk_back.specs.Sound.{IsMapped, IsPlaced}
use Rattle.back_laws.specs.BackLeft.{IsShown, IsSeen}
use Rattle.back_laws.specs.JobLeft as job
use Rattle.back_laws.proofs.BackLeft.{lowers}
use Rattle.pipeline_laws.specs.Pipeline.{Pipeline}
use Rattle.split_model.specs.World.{World}
use Rattle.split_model.proofs.SafeAnswers.{back_answered}
use Rattle.machine_pipeline.proofs.BackFences.{first_frame}
use Rattle.machine_pipeline.proofs.BackFetch.{entry_word, length_entry}
use Rattle.machine_pipeline.proofs.BackLooks.{IsLook, look}
use Rattle.machine_pipeline.proofs.BackQuiet.{IsBetween, between}
use Rattle.machine_pipeline.proofs.BackStill.{BackStands}
use Rattle.machine_pipeline.proofs.Flow.{Flow, wrapped, has_ring, has_terms}
use Rattle.machine_pipeline.proofs.Holds.{Holds, BackAt, PagesAt}
use Rattle.machine_pipeline.proofs.Slots.{few_entries, few_pages}
use Rattle.machine_pipeline.proofs.Turns.{back_turn_at}
use Rattle.ring_settle_laws.specs.Stations.{reply_price}
use Rattle.ring_settle_laws.proofs.BackSums.{LowersTo, Falls, Pays, falls, of_act}
use Rattle.ring_settle_laws.proofs.BackSteps.{still_pays, map_pays, bind_pays, reply_high_pays, reply_last_pays, fence_pays, response_event_pays, send_pays, store_event_pays, event_fence_pays}
use Rattle.ring_settle_laws.proofs.BackReading.{reached, all_fetched, look_again_pays, loop_falls}
use Rattle.ring_settle_laws.proofs.BackPricing.{job_of, fetch_pays, producer_pays}

-- the pages that are mapped
mapped_as : (b : BackStage) (shape : Shape) (start fetched back_seen replied : ℕ) (series : List Request) (works : List Work) (entry : List ℕ) (order own : ℕ) (grefs : List ℕ) (pages : List Mapping)
    → BackAt shape start fetched back_seen replied series works entry b → (has_terms b ≡ true → order ≡ own) → (has_terms b ≡ true → length grefs ≡ 2 ^ own) → PagesAt b own (length pages) → IsMapped b order grefs pages
mapped_as stage.InitWait shape start fetched back_seen replied series works entry order own grefs pages at same all mapped = mapped
mapped_as stage.MapRing shape start fetched back_seen replied series works entry order own grefs pages at same all mapped = rw (same refl) (all refl, mapped)
mapped_as stage.UnmapRing shape start fetched back_seen replied series works entry order own grefs pages at same all mapped = absurd at
mapped_as stage.UnmapUnbound shape start fetched back_seen replied series works entry order own grefs pages at same all mapped = absurd at
mapped_as stage.ClosePort shape start fetched back_seen replied series works entry order own grefs pages at same all mapped = absurd at
mapped_as stage.Halted shape start fetched back_seen replied series works entry order own grefs pages at same all mapped = absurd at
mapped_as b shape start fetched back_seen replied series works entry order own grefs pages at same all mapped = rw (same refl) mapped

pub few_mapped : (b : BackStage) (order count : ℕ) → order ≤ 4 → PagesAt b order count → count ≤ 16
few_mapped stage.InitWait order count narrow mapped = omega (arith, mapped)
few_mapped stage.MapRing order count narrow mapped = omega (arith, mapped, few_pages order narrow)
few_mapped b order count narrow mapped = omega (arith, mapped, few_pages order narrow)

rung : (s : FrontStage) → is_connected s ≡ true → has_ring s ≡ true
rung (front.RingWord k) c = c
rung (front.LeftData n) c = c
rung s c = refl

ahead : (start fetched seen cons word : ℕ) → cons ≡ wrapped start fetched → word ≡ wrapped start seen → fetched < seen → seen < 2 ^ 32 → 0 < distance_of cons word
ahead start fetched seen cons word first second less few = omega arith

waiting : (start replied fetched prod cons : ℕ) → prod ≡ wrapped start replied → cons ≡ wrapped start fetched → replied ≤ fetched → fetched < 2 ^ 32 → distance_of prod cons ≡ fetched - replied
waiting start replied fetched prod cons first second less few = omega arith

module _ (config : Options) (w : World) (g : Flow) (d : Pipeline) where
  seen_at : (b : BackStage) → Holds config w g d w.front.stage b → IsSeen b w.back
  seen_at (stage.Fetch k) h =
      let x = h.indices in
      ahead g.start g.fetched g.back_seen w.back.ring.indices.cons w.back.ring.seen x.fetched x.back_saw h.back_at.2 (omega (arith, x.back_to, x.all, x.given, x.few))
  seen_at b h = tt

  placed_at : (b : BackStage) → Holds config w g d w.front.stage b → IsPlaced b w.back.shape (length w.back.ring.entry) (distance_of w.back.ring.indices.prod w.back.ring.indices.cons)
  placed_at (stage.Fetch k) h =
      let x = h.indices in
      let words = length_entry g.shape.abi h.back_at.3.0 in
      let copied : length w.back.ring.entry ≡ k = omega (arith, ap (λ (l : List ℕ). length l) h.back_at.3.2, length-take k (entry_of g.shape.abi h.back_at.3.0), words, h.back_at.1) in
      let owed = waiting g.start g.replied g.fetched w.back.ring.indices.prod w.back.ring.indices.cons x.replied x.fetched x.replied_fetched (omega (arith, x.back_from, x.back_to, x.all, x.given, x.few)) in
      let room : g.fetched - g.replied < entries_of g.shape.order = omega (arith, h.back_at.2, x.back_to, x.all, x.held, x.room, x.taken_replied, x.replied_fetched) in
      subst (λ (s : Shape). (k < entry_words_of s.abi) × (length w.back.ring.entry ≡ k) × (distance_of w.back.ring.indices.prod w.back.ring.indices.cons < entries_of s.order)) (sym (h.paged.shaped refl))
      (h.back_at.1, copied, omega (arith, owed, room))
  placed_at b h = tt

  -- so the back's own part falls
  lowers_at : (b : BackStage) (a : BackAct) → BackStands config w g d b → back_turn_at b w ≡ Some a → IsShown b w.back a.answer → LowersTo w b (step_at b w.back a.answer) a.answer
  lowers_at b a p e shown =
      let h : Holds config w g d w.front.stage b = p.holds in
      let x = h.indices in
      let answered = subst (λ (s : BackStage). back_turn_at s w ≡ Some a → IsAnswer (ask_at s w.back) a.answer) p.at (back_answered w.under w.back Took a) in
      lowers b w.back a.answer p.at
      (mapped_as b g.shape g.start g.fetched g.back_seen g.replied g.series w.back.jobs.works w.back.ring.entry w.back.shape.order g.shape.order w.back.grefs w.back.pages h.back_at
      (λ has. ap (λ (s : Shape). s.order) (h.paged.shaped has)) (λ has. ap length (h.paged.grefs_are has) ∙ length-range_with_len 8 (2 ^ g.shape.order)) h.paged.mapped)
      (few_mapped b g.shape.order (length w.back.pages) h.shaped.narrow h.paged.mapped)
      (omega (arith, x.fetched)) (seen_at b h) shown (placed_at b h) (answered e)

  -- the producer of requests, as the back reads it
  abbrev producer : ℕ
  producer = word_of w.under.pages (frame_of w.under.grants (page_of w.back 0)) 0

  small : (b : BackStage) → Holds config w g d w.front.stage b → w.front.ring.indices.prod < 2 ^ 32
  small b h = let x = h.indices in omega (arith, x.pushed)

  producer_is : (b : BackStage) → BackStands config w g d b → IsBetween b w.back → producer ≡ wrapped g.start g.pushed
  producer_is b p i = ap (λ (f : ℕ). word_of w.under.pages f 0) (first_frame config w g d b p i.bound i.hands) ∙ p.holds.ring.requests (rung w.front.stage p.connected)

  loop_looks : BackStands config w g d stage.Loop → (requests_of w.back.ring.indices w.back.ring.seen == 0) ≡ true
      → (producer < 2 ^ 32) × (overruns w.back.ring.indices producer ≡ false) × (distance_of w.back.ring.indices.cons producer + distance_of producer w.front.ring.indices.prod ≤ distance_of w.back.ring.seen w.front.ring.indices.prod)
  loop_looks p none =
      let h : Holds config w g d w.front.stage stage.Loop = p.holds in
      let x = h.indices in
      let i : IsBetween stage.Loop w.back = between stage.Loop w.back refl refl refl in
      let is = producer_is stage.Loop p i in
      let l : IsLook w g producer = look config w g d stage.Loop producer h i is in
      let all : g.back_seen ≡ g.fetched = all_fetched g.start g.replied g.fetched g.back_seen (entries_of g.shape.order) w.back.ring.seen w.back.ring.indices (few_entries g.shape.order h.shaped.narrow) (h.paged.entries_are refl) x.replied x.fetched x.back_saw
      x.replied_fetched x.back_from (omega (arith, x.back_to, x.all, x.held, x.room, x.taken_replied)) none in
      let same : w.back.ring.indices.cons ≡ w.back.ring.seen = x.fetched ∙ (ap (λ (n : ℕ). wrapped g.start n) (sym all) ∙ sym x.back_saw) in (
        omega (arith, is),
        l.bounded,
        subst (λ (n : ℕ). distance_of w.back.ring.indices.cons producer + distance_of producer w.front.ring.indices.prod ≤ distance_of n w.front.ring.indices.prod) same
            (reached w.back.ring.indices.cons w.front.ring.indices.prod producer (small stage.Loop h) (is ∙ sym x.pushed)),
      )

  again_looks : BackStands config w g d stage.LookAgain
      → (producer < 2 ^ 32) × (overruns w.back.ring.indices producer ≡ false) × (distance_of w.back.ring.indices.cons producer + distance_of producer w.front.ring.indices.prod ≤ distance_of w.back.ring.indices.cons w.front.ring.indices.prod)
  again_looks p =
      let h : Holds config w g d w.front.stage stage.LookAgain = p.holds in
      let i : IsBetween stage.LookAgain w.back = between stage.LookAgain w.back refl refl refl in
      let is = producer_is stage.LookAgain p i in
      let l : IsLook w g producer = look config w g d stage.LookAgain producer h i is in
      (omega (arith, is), l.bounded, reached w.back.ring.indices.cons w.front.ring.indices.prod producer (small stage.LookAgain h) (is ∙ sym h.indices.pushed))

  module _ (before after : ℕ) (less : after ≤ before) (a : BackAct) where
    pays_falls : (b : BackStage) → BackStands config w g d b → back_turn_at b w ≡ Some a → IsShown b w.back a.answer → Pays w b (step_at b w.back) before after a → Falls w b (step_at b w.back) before after a
    pays_falls b p e shown pays = falls w b (step_at b w.back a.answer) a.answer a.under.channels before after (lowers_at b a p e shown) pays

    again_falls : BackStands config w g d stage.LookAgain → back_turn_at stage.LookAgain w ≡ Some a → Falls w stage.LookAgain (step_at stage.LookAgain w.back) before after a
    again_falls p e =
        let well = again_looks p in
        pays_falls stage.LookAgain p e (of_act (λ (x : BackAct). IsShown stage.LookAgain w.back x.answer) _ a e (well.0, well.1)) (look_again_pays w before after less a producer refl well.1 well.2 e)

    -- each move lowers what is left, where the price of a request pays for its job, and for its reply
    pub served_falls : (b : BackStage) → BackStands config w g d b → back_turn_at b w ≡ Some a
        → ((k : ℕ) → b ≡ stage.Fetch k → (k + 1 == entry_words_of w.back.shape.abi) ≡ true → job.left_of (job_of w (entry_word w k)) + after ≤ before)
        → ((r : Reply) → b ≡ stage.Producer r → after + reply_price ≤ before)
        → Falls w b (step_at b w.back) before after a
    served_falls stage.InitWait p e begins replies = pays_falls stage.InitWait p e tt (still_pays w before after less a stage.InitWait p.at e)
    served_falls stage.MapRing p e begins replies = pays_falls stage.MapRing p e tt (map_pays w before after less a e)
    served_falls stage.Bind p e begins replies = pays_falls stage.Bind p e tt (bind_pays w before after less a e)
    served_falls stage.Loop p e begins replies = loop_falls w before after less p.at (λ none. loop_looks p none) a e (λ shown. lowers_at stage.Loop a p e shown)
    served_falls (stage.Fetch k) p e begins replies = pays_falls (stage.Fetch k) p e tt (fetch_pays w before after a k less (begins k refl) e)
    served_falls (stage.ReplyHigh r) p e begins replies = pays_falls (stage.ReplyHigh r) p e tt (reply_high_pays w before after less a r e)
    served_falls (stage.ReplyLast r) p e begins replies = pays_falls (stage.ReplyLast r) p e tt (reply_last_pays w before after less a r e)
    served_falls (stage.Producer r) p e begins replies = pays_falls (stage.Producer r) p e tt (producer_pays w before after a r (replies r refl) e)
    served_falls (stage.ProducerFence old) p e begins replies = pays_falls (stage.ProducerFence old) p e tt (fence_pays w before after less a old e)
    served_falls (stage.ResponseEvent old) p e begins replies = pays_falls (stage.ResponseEvent old) p e tt (response_event_pays w before after less a old e)
    served_falls stage.Send p e begins replies = pays_falls stage.Send p e tt (send_pays w before after less a e)
    served_falls stage.StoreEvent p e begins replies = pays_falls stage.StoreEvent p e tt (store_event_pays w before after less a e)
    served_falls stage.EventFence p e begins replies = pays_falls stage.EventFence p e tt (event_fence_pays w before after less a e)
    served_falls stage.LookAgain p e begins replies = again_falls p e
    served_falls b p e begins replies = absurd p.holds.back_at
