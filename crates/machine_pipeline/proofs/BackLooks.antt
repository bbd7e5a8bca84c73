-- The back reads the producer of the requests, in its loop and before it sleeps.
use Rattle.std.proofs.Common.{◌≡◌, ℕ, ◌+◌, ◌≤◌, ◌==◌, Bool, true, false, if◌then◌else◌, ◌∷◌, ◌++◌, length, refl, ap, sym, ◌∙◌, inl, arith, [], true≢false}
use Rattle.std.specs.Prelude.{Some, None}
use Rattle.std.proofs.lemmas.Bool.{false≢true}
use Rattle.std.proofs.lemmas.Bool.Decides.{nat_tests}
use Rattle.blk_base.specs.Options.{Options}
use Rattle.blk_base.specs.Distance.{distance_of}
use Rattle.blk_base.specs.declared.ask.BackAnswer.{BackAnswer}
use Rattle.blk_base.specs.declared.moves.Move.{Move as Shown}
use Rattle.schedule_text.specs.declared.line.Line.TheVariants.{Move}
use Rattle.pipeline_laws.specs.Pipeline.{Pipeline}
use Rattle.ring_words.specs.Ring.{Ring, overruns}
use Rattle.ring_words.specs.Shape.{entries_of}
use Rattle.xen_pages.specs.Pages.{word_of}
use Rattle.grant_table.specs.Table.{frame_of}
use Rattle.blk_front.specs.declared.stage.FrontStage.{FrontStage}
use Rattle.blk_front.specs.declared.stage.FrontStage.TheVariants as front
use Rattle.blk_front.specs.Submit.{is_connected, ending_of}
use Rattle.blk_back.specs.declared.stage.BackStage.{BackStage}
use Rattle.blk_back.specs.declared.stage.BackStage.TheVariants as stage
use Rattle.blk_back.specs.View.{View, page_of}
use Rattle.blk_base.specs.declared.halt.Halt.TheVariants as halt
use Rattle.blk_back.specs.Step.{abort, looked}
use Rattle.split_model.specs.World.{World}
use Rattle.split_model.specs.Shown.{back_lines, halt_lines}
use Rattle.machine_pipeline.proofs.Slots.{few_entries}
use Rattle.machine_pipeline.proofs.Flow.{Flow, wrapped, has_ring, is_fetching, is_back_arming, may_back_sleep}
use Rattle.machine_pipeline.proofs.Holds.{Holds, AreIndices, BackSends}
use Rattle.machine_pipeline.proofs.Turns.{BackGoes, Goes, silent}
use Rattle.machine_pipeline.proofs.BackStill.{BackStands, StationsOf}
use Rattle.machine_pipeline.proofs.BackQuiet.{IsBetween, bound_terms, between, goes_seen}
use Rattle.machine_pipeline.proofs.Wrapped.{same_wrapped}
use Rattle.machine_pipeline.proofs.BackFences.{first_frame}
use Rattle.machine_pipeline.proofs.Kept.{sleep_turned}

-- an honest front is never further ahead than the ring has entries
no_overrun : (start replied pushed word entries : ℕ) (ring : Ring) → entries ≤ 512 → ring.entries ≡ entries → ring.prod ≡ wrapped start replied → word ≡ wrapped start pushed → replied ≤ pushed → pushed ≤ replied + entries → overruns ring word ≡ false
no_overrun start replied pushed word entries ring few size prod here from to =
    let ahead : distance_of ring.prod word ≤ entries = omega arith in
    grind (arith, nat_tests)

-- the view once the producer was read, by the tests of what was read
abbrev looked_by : (over same : Bool) → View → ℕ → View → View
looked_by over same v word otherwise = if over then abort (record v { halted = Some (halt.Overrun word v.ring.indices.prod) }) else (if same then otherwise else record v { ring = record v.ring { seen = word }; stage = stage.Loop })

abbrev pub LooksAs : Options → World → Pipeline → Shown → BackAnswer → View → Type 0
LooksAs config w d shown given v = Goes config (Move shown ∷ back_lines v.told given ++ halt_lines w.back.halted v.halted) (record { front = w.front; back = record v { told = None }; under = w.under }) d

-- the producer as it was read, and what follows of it
pub record IsLook (w : World) (g : Flow) (word : ℕ) : Type 0 where
  pub is : word ≡ wrapped g.start g.pushed
  pub bounded : overruns w.back.ring.indices word ≡ false
  pub none : word ≡ w.back.ring.indices.cons → g.pushed ≡ g.fetched
  pub indices : AreIndices (record g { back_seen = g.pushed }) w.front.ring.indices w.back.ring.indices w.front.ring.seen word w.back.fetched w.front.last w.front.waiting (length w.front.requests) (ending_of w.front.stage)

pub look : (config : Options) (w : World) (g : Flow) (d : Pipeline) (b : BackStage) (word : ℕ) → Holds config w g d w.front.stage b → IsBetween b w.back → word ≡ wrapped g.start g.pushed → IsLook w g word
look config w g d b word h i here =
    let x = h.indices in
    record {
      is = here;
      bounded = no_overrun g.start g.replied g.pushed word (entries_of g.shape.order) w.back.ring.indices (few_entries g.shape.order h.shaped.narrow) (h.paged.entries_are (bound_terms b i.bound)) x.replied here (omega (arith, x.replied_fetched, x.fetched_pushed)) (omega (arith, x.all, x.held, x.room, x.taken_replied));
      none = λ e. same_wrapped g.start g.fetched g.pushed x.fetched_pushed (omega (arith, x.all, x.few)) (sym here ∙ e ∙ x.fetched);
      indices = omega (arith, x, here);
    }

-- something new is seen, or it isn't and `otherwise` holds
looks_by : (config : Options) (w : World) (g : Flow) (d : Pipeline) (b : BackStage) (word : ℕ) (shown : Shown) (given : BackAnswer) (otherwise : View) (over same : Bool)
    → BackStands config w g d b
    → IsBetween b w.back
    → is_fetching b ≡ false
    → (BackSends b g.replied g.taken → ⊥)
    → IsLook w g word
    → over ≡ false
    → (same ≡ true → LooksAs config w d shown given otherwise)
    → LooksAs config w d shown given (looked_by over same w.back word otherwise)
looks_by config w g d b word shown given otherwise true same p i unfetching unsent l bounded none = absurd (false≢true (sym bounded))
looks_by config w g d b word shown given otherwise false true p i unfetching unsent l bounded none = none refl
looks_by config w g d b word shown given otherwise false false p i unfetching unsent l bounded none =
    let h : Holds config w g d w.front.stage b = p.holds in
    let stations : StationsOf config w g d false None w.back.jobs.works w.under.pages = rw (unfetching, i.none) at h.stations in
    goes_seen config w g d [] b stage.Loop w.back.ring.asleep word w.back.ring.entry g.pushed shown given (silent shown w.back.told w.back.halted given d p.untold h.unhalted) p i
    (between stage.Loop w.back refl refl refl)
    stations l.indices tt unsent (sleep_turned (is_back_arming stage.Loop) (may_back_sleep stage.Loop) (λ t. absurd (false≢true t)) (λ t. absurd (true≢false t)) h.back_sleep)

-- the producer stands in word 0 of the ring's first page
producer : (config : Options) (w : World) (g : Flow) (d : Pipeline) (b : BackStage) → BackStands config w g d b → IsBetween b w.back → word_of w.under.pages (frame_of w.under.grants (page_of w.back 0)) 0 ≡ wrapped g.start g.pushed
producer config w g d b p i =
    ap (λ (f : ℕ). word_of w.under.pages f 0) (first_frame config w g d b p i.bound i.hands) ∙ p.holds.ring.requests (rung w.front.stage p.connected)
  where
    rung : (s : FrontStage) → is_connected s ≡ true → has_ring s ≡ true
    rung (front.RingWord k) c = c
    rung (front.LeftData n) c = c
    rung s c = refl

-- where nothing is new the back sleeps
pub goes_look_again : (config : Options) (w : World) (g : Flow) (d : Pipeline) → BackStands config w g d stage.LookAgain → BackGoes config w d stage.LookAgain
goes_look_again config w g d p =
    let h : Holds config w g d w.front.stage stage.LookAgain = p.holds in
    let i : IsBetween stage.LookAgain w.back = between stage.LookAgain w.back refl refl refl in
    let word : ℕ = word_of w.under.pages (frame_of w.under.grants (page_of w.back 0)) 0 in
    let l : IsLook w g word = look config w g d stage.LookAgain word h i (producer config w g d stage.LookAgain p i) in
    looks_by config w g d stage.LookAgain word _ _ (record w.back { ring = record w.back.ring { seen = word; asleep = true }; stage = stage.Loop }) (overruns w.back.ring.indices word) (word == w.back.ring.indices.cons) p i refl (λ s. s) l l.bounded
    (λ same.
    let e : g.pushed ≡ g.fetched = l.none (grind (arith, nat_tests)) in
    goes_seen config w g d [] stage.LookAgain stage.Loop true word w.back.ring.entry g.pushed _ _ (silent _ w.back.told w.back.halted _ d p.untold h.unhalted) p i
    (between stage.Loop w.back refl refl refl) h.stations l.indices tt (λ s. s)
    (record { arming = λ t. absurd (false≢true t); armed = λ t. h.back_sleep.arming refl; may = λ t. absurd (true≢false t); woken = λ t. inl e }))

-- in the loop with nothing at hand: where nothing is new the back stores its event word
pub goes_loop_look : (config : Options) (w : World) (g : Flow) (d : Pipeline) (shown : Shown) (given : BackAnswer) (word : ℕ) → word ≡ word_of w.under.pages (frame_of w.under.grants (page_of w.back 0)) 0 → w.back.ring.asleep ≡ false → BackStands config w g d stage.Loop → LooksAs config w d shown given (looked w.back word (record w.back { ring = record w.back.ring { seen = word }; stage = stage.StoreEvent }))
goes_loop_look config w g d shown given word read awake p =
    let h : Holds config w g d w.front.stage stage.Loop = p.holds in
    let i : IsBetween stage.Loop w.back = between stage.Loop w.back refl refl refl in
    let l : IsLook w g word = look config w g d stage.Loop word h i (read ∙ producer config w g d stage.Loop p i) in
    looks_by config w g d stage.Loop word shown given (record w.back { ring = record w.back.ring { seen = word }; stage = stage.StoreEvent }) (overruns w.back.ring.indices word) (word == w.back.ring.indices.cons) p i refl (λ s. s) l l.bounded
    (λ same.
    goes_seen config w g d [] stage.Loop stage.StoreEvent w.back.ring.asleep word w.back.ring.entry g.pushed shown given (silent shown w.back.told w.back.halted given d p.untold h.unhalted) p i
    (between stage.StoreEvent w.back refl refl refl)
    h.stations l.indices tt (λ s. s) (sleep_turned (is_back_arming stage.StoreEvent) (may_back_sleep stage.StoreEvent) (λ t. absurd (false≢true t)) (λ t. awake) h.back_sleep))
