-- The back's fences, and its look at the event word of the front.
use Rattle.std.proofs.Common.{◌≡◌, ℕ, ◌+◌, ◌-◌, ◌^◌, ◌<◌, ◌≤◌, Bool, true, false, if◌then◌else◌, List, ◌∷◌, ◌++◌, length, refl, ap, ◌∙◌, inr, arith}
use Rattle.std.specs.Prelude.{All, None, slice_index_or}
use Rattle.std.proofs.lemmas.Nat.{pow_pos}
use Rattle.std.proofs.lemmas.Bool.{false≢true}
use Rattle.std.proofs.lemmas.List.Elements.{All-contains, Contains-append_right, Contains-get_or}
use Rattle.blk_base.specs.Options.{Options}
use Rattle.blk_base.specs.Distance.{distance_of}
use Rattle.blk_base.specs.declared.parts.Mapping.{Mapping}
use Rattle.blk_base.specs.declared.ask.BackAnswer.{BackAnswer}
use Rattle.blk_base.specs.declared.moves.Move.{Move as Shown}
use Rattle.schedule_text.specs.declared.line.Line.TheVariants.{Move}
use Rattle.pipeline_laws.specs.Pipeline.{Pipeline}
use Rattle.ring_words.specs.Ring.{notifies}
use Rattle.xen_pages.specs.Pages.{word_of}
use Rattle.grant_table.specs.declared.held.Held.{Held}
use Rattle.grant_table.specs.Table.{GrantTable, frame_of, IsLive}
use Rattle.back_jobs.specs.Hands.{hands_in}
use Rattle.blk_back.specs.declared.stage.BackStage.{BackStage}
use Rattle.blk_back.specs.declared.stage.BackStage.TheVariants as stage
use Rattle.blk_back.specs.View.{no_page, page_of}
use Rattle.blk_back.specs.Hands.{hands_at}
use Rattle.split_model.specs.World.{World}
use Rattle.split_model.specs.Safe.{AreHeld}
use Rattle.split_model.specs.Shown.{back_lines, halt_lines}
use Rattle.machine_pipeline.proofs.Flow.{Flow, wrapped, is_bound_back}
use Rattle.machine_pipeline.proofs.Holds.{Holds}
use Rattle.machine_pipeline.proofs.Turns.{BackGoes, Goes}
use Rattle.machine_pipeline.proofs.BackStill.{BackStands}
use Rattle.machine_pipeline.proofs.BackQuiet.{all_mapped, goes_quiet, between}
use Rattle.machine_pipeline.proofs.Mapped.{frame_live}

-- a page of the ring is in its frame
page_frame : (table : GrantTable) (others pages : List Mapping) (page : ℕ) → AreHeld table (others ++ pages) → All (λ (h : Held). h.mapping.gref ≡ h.frame + 6) table.live → page < length pages
    → (slice_index_or pages page no_page).gref ≡ 8 + page → frame_of table (slice_index_or pages page no_page) ≡ 2 + page
page_frame table others pages page held framed within named =
    let m : Mapping = slice_index_or pages page no_page in
    let live = All-contains (IsLive table) (others ++ pages) m held.live (Contains-append_right others pages m (Contains-get_or pages page no_page within)) in
    frame_live table m (2 + page) live framed (omega (arith, named))

-- so it is where the back is bound to its port
pub frame_is : (config : Options) (w : World) (g : Flow) (d : Pipeline) (b : BackStage) (page : ℕ) → BackStands config w g d b → is_bound_back b ≡ true → hands_at b w.back ≡ hands_in w.back.jobs.works ++ w.back.pages → page < 2 ^ g.shape.order → frame_of w.under.grants (page_of w.back page) ≡ 2 + page
frame_is config w g d b page p bound hands within =
    let h : Holds config w g d w.front.stage b = p.holds in
    let inside : page < length w.back.pages = omega (arith, all_mapped b g.shape.order (length w.back.pages) bound h.paged.mapped) in
    page_frame w.under.grants (hands_in w.back.jobs.works) w.back.pages page (rw hands at p.held) h.mapped.framed inside (h.paged.gref page inside)

-- the first page has the indices of both ends
pub first_frame : (config : Options) (w : World) (g : Flow) (d : Pipeline) (b : BackStage) → BackStands config w g d b → is_bound_back b ≡ true → hands_at b w.back ≡ hands_in w.back.jobs.works ++ w.back.pages → frame_of w.under.grants (page_of w.back 0) ≡ 2
first_frame config w g d b p bound hands = frame_is config w g d b 0 p bound hands (pow_pos g.shape.order)

pub goes_producer_fence : (config : Options) (w : World) (g : Flow) (d : Pipeline) (old : ℕ) → BackStands config w g d (stage.ProducerFence old) → BackGoes config w d (stage.ProducerFence old)
goes_producer_fence config w g d old p =
    goes_quiet config w g d (stage.ProducerFence old) (stage.ResponseEvent old) _ _ p (between (stage.ProducerFence old) w.back refl refl refl)
    (between (stage.ResponseEvent old) w.back refl refl refl) p.holds.stations p.holds.back_at (λ t r. inr (inr r)) (λ t. t) (λ t. cc)

pub goes_event_fence : (config : Options) (w : World) (g : Flow) (d : Pipeline) → BackStands config w g d stage.EventFence → BackGoes config w d stage.EventFence
goes_event_fence config w g d p =
    goes_quiet config w g d stage.EventFence stage.LookAgain _ _ p (between stage.EventFence w.back refl refl refl) (between stage.LookAgain w.back refl refl refl) p.holds.stations p.holds.back_at
    (λ t r. absurd r) (λ t. refl) (λ t. p.holds.back_sleep.may refl)

-- where the front sleeps and this response is its first new one, its event word asks for it
notified : (start replied taken old prod event : ℕ) → 1 ≤ replied → old ≡ wrapped start (replied - 1) → prod ≡ wrapped start replied → event ≡ wrapped start (taken + 1) → replied ≡ taken + 1 → notifies old prod event ≡ true
notified start replied taken old prod event some o n e one =
    let next : distance_of event prod ≡ 0 = omega arith in
    let step : distance_of old prod ≡ 1 = omega arith in
    rw (next, step) refl

goes_by : (config : Options) (w : World) (g : Flow) (d : Pipeline) (old : ℕ) (shown : Shown) (given : BackAnswer) (sends : Bool)
    → BackStands config w g d (stage.ResponseEvent old)
    → (w.front.ring.asleep ≡ true → g.replied ≡ g.taken + 1 → sends ≡ true)
    → Goes config (Move shown ∷ back_lines w.back.told given ++ halt_lines w.back.halted w.back.halted) (record { front = w.front; back = record w.back { stage = if sends then stage.Send else stage.Loop; told = None }; under = w.under }) d
goes_by config w g d old shown given true p asks =
    goes_quiet config w g d (stage.ResponseEvent old) stage.Send shown given p (between (stage.ResponseEvent old) w.back refl refl refl) (between stage.Send w.back refl refl refl) p.holds.stations tt
    (λ t r. inr (inr tt)) (λ t. t) (λ t. cc)
goes_by config w g d old shown given false p asks =
    goes_quiet config w g d (stage.ResponseEvent old) stage.Loop shown given p (between (stage.ResponseEvent old) w.back refl refl refl) (between stage.Loop w.back refl refl refl) p.holds.stations tt
    (λ t r. absurd (false≢true (asks t r))) (λ t. t) (λ t. cc)

pub goes_response_event : (config : Options) (w : World) (g : Flow) (d : Pipeline) (old : ℕ) → BackStands config w g d (stage.ResponseEvent old) → BackGoes config w d (stage.ResponseEvent old)
goes_response_event config w g d old p =
    let h : Holds config w g d w.front.stage (stage.ResponseEvent old) = p.holds in
    let frame : frame_of w.under.grants (page_of w.back 0) ≡ 2 = first_frame config w g d (stage.ResponseEvent old) p refl refl in
    goes_by config w g d old _ _ (notifies old w.back.ring.indices.prod (word_of w.under.pages (frame_of w.under.grants (page_of w.back 0)) 3)) p
    (λ t one. notified g.start g.replied g.taken old w.back.ring.indices.prod (word_of w.under.pages (frame_of w.under.grants (page_of w.back 0)) 3) h.back_at.0 h.back_at.1 h.indices.replied (ap (λ (f : ℕ). word_of w.under.pages f 3) frame ∙ h.front_sleep.armed t) one)
