-- Whatever else happens once the back has halted: submissions are refused, and the front is closed once it left.
use Rattle.std.proofs.Common.{◌≡◌, ◌≢◌, ℕ, ◌==◌, ◌&&◌, inr, true, List, [], ◌∷◌, length, map, refl, ap, sym, ◌∙◌, subst, true≢false}
use Rattle.std.specs.Prelude.{Some, None, Result, nat_le}
use Rattle.blk_base.specs.declared.parts.Mapping.{Mapping}
use Rattle.ring_words.specs.Shape.{Shape}
use Rattle.std.proofs.lemmas.List.{length-map}
use Rattle.blk_base.specs.Options.{Options}
use Rattle.blk_base.specs.declared.config.Submission.{Submission}
use Rattle.schedule_text.specs.declared.line.Line.TheVariants as lines
use Rattle.pipeline_laws.specs.Station.{asked}
use Rattle.pipeline_laws.specs.Pipeline.{Pipeline, Refuses, Connects, Closes}
use Rattle.pipeline_laws.specs.Allowed.{refusal_now, AreFinished}
use Rattle.blk_front.specs.declared.stage.FrontStage.{FrontStage}
use Rattle.blk_front.specs.declared.stage.FrontStage.TheVariants as front
use Rattle.blk_front.specs.declared.state.FrontState.{FrontState}
use Rattle.blk_front.specs.declared.state.Offers.{Offers}
use Rattle.blk_front.specs.declared.state.FrontState.TheVariants as states
use Rattle.blk_base.specs.declared.refusal.Refusal.{Refusal}
use Rattle.blk_base.specs.declared.refusal.Refusal.TheVariants as refusal
use Rattle.blk_front.specs.State.{is_open, is_unmade, is_made, is_bare, may_enter, in_state}
use Rattle.blk_front.specs.Ask.{is_through}
use Rattle.blk_front.specs.View.{View}
use Rattle.blk_back.specs.declared.stage.BackStage.{BackStage}
use Rattle.blk_back.specs.declared.stage.BackStage.TheVariants as back
use Rattle.blk_base.specs.declared.halt.Halt.{Halt}
use Rattle.split_model.specs.World.{World}
use Rattle.split_model.specs.Shown.{state_lines, halt_lines}
use Rattle.split_model.specs.Happening.{FrontEnters, BackAttaches, BackHalts, Submits, submit_line, happens, lines_at}
use Rattle.split_model.proofs.States.{enters_cases, is_unbound, halts_cases}
use Rattle.split_model.proofs.Shapes.{attaches_waiting}
use Rattle.split_model.proofs.Attaching.{attach_cases}
use Rattle.machine_pipeline.specs.Allowed.{MayEnter}
use Rattle.machine_pipeline.specs.Step.{IsSame}
use Rattle.machine_pipeline.proofs.Turns.{no_move}
use Rattle.machine_pipeline.proofs.Connecting.{initialised_is, yet_open}
use Rattle.line_text.proofs.Both.{both_true}
use Rattle.machine_pipeline.proofs.OverMoves.{no_halt}
use Rattle.machine_pipeline.proofs.Slots.{some_pages}
use Rattle.machine_pipeline.proofs.Over.{IsAborting, AreUnmapped, IsLeaving, Over, HasGone, over_at, unclosed, gone_by}
use Rattle.std.proofs.lemmas.Bool.{cond_both}

-- a submission is refused
pub submit_ends : (config : Options) (w : World) (d : Pipeline) (job : Submission) → Over config w d w.front.stage w.back.stage → HasGone (Some job) IsSame config (lines_at w (Submits job)) (happens w (Submits job)) d
submit_ends config w d job o = cond_both (w.front.last == 4294967295) _ _ Ends
    (λ t. refused refusal.Spent (rw (spent_at ∙ t) refl))
    (λ t. cond_both w.front.closing _ _ Ends (λ closes. refused refusal.Closing (rw (spent_at ∙ t, o.leaves) refl)) (λ opened. absurd (true≢false (sym o.closes ∙ opened))))
  where
    Ends : Result ℕ Refusal × View → Type 0
    Ends y = HasGone (Some job) IsSame config (submit_line job y.0 ∷ []) (record { front = y.1; back = w.back; under = w.under }) d

    spent_at : (length (map asked d.requests) == 4294967295) ≡ (w.front.last == 4294967295)
    spent_at = ap (λ (n : ℕ). n == 4294967295) (length-map d.requests asked ∙ o.counted)

    refused : (r : Refusal) → refusal_now d job ≡ Some r → HasGone (Some job) IsSame config (lines.Refuse r ∷ []) w d
    refused r same = record { steps = Refuses job r ∷ []; does = record { asides = []; aside = refl; shows = refl; asks = refl; allowed = (same, tt); disk = λ a b e. (b, e, refl) }; kept = inr o }

-- the machine with its front at that stage
abbrev staged : World → FrontStage → World
staged w s = record { front = (let v : View = w.front in record v { stage = s }); back = w.back; under = w.under }

-- it is connected, but serves nothing
connects_late : (config : Options) (w : World) (d : Pipeline) (offers : Offers) → Over config w d front.Initialised w.back.stage
    → HasGone None IsSame config (lines.Ready ∷ []) (record { front = (let v : View = w.front in record v { offers = offers; stage = front.Loop }); back = w.back; under = w.under }) d
connects_late config w d offers o =
    gone_by {steps = Connects ∷ []} (record { asides = []; aside = refl; shows = refl; asks = refl; allowed = ((o.front_at.0, o.shut), tt); disk = λ a b e. (b, e, refl) })
    (inr (over_at o o.shut o.memory o.back_at o.own o.mapped o.front_at.2 o.ring))

-- the back has left: the grants of the ring's frames are ended next
leaves_ring : (config : Options) (w : World) (d : Pipeline) (s : FrontStage) → is_made s ≡ true → w.back.stage ≡ back.Halted → Over config w d s w.back.stage → HasGone None IsSame config [] (staged w (front.RingRead 0)) d
leaves_ring config w d s made halted o = gone_by (no_move IsSame d (λ a b same. same))
    (inr (over_at o (o.shut ∙ unclosed is_made refl s made) o.memory o.back_at o.own o.mapped (halted, some_pages w.front.shape.order, by_stage s made (rw halted at o.front_at)) o.ring))
  where
    by_stage : (s : FrontStage) → is_made s ≡ true → IsLeaving d.front.connected (length w.under.channels.ports) w.front.shape.order w.under.pages w.back.pages back.Halted s → AreUnmapped w.front.shape.order w.under.pages w.back.pages
    by_stage front.Initialised t p = p.2
    by_stage front.Loop t p = p
    by_stage s t p = absurd (true≢false (sym t))

-- it is closed
is_closed_now : (config : Options) (w : World) (d : Pipeline) (s : FrontStage) → is_bare s ≡ true → Over config w d s w.back.stage → HasGone None IsSame config (lines.Closed ∷ []) (staged w front.Closed) d
is_closed_now config w d s bare o =
    let finished : AreFinished d = record { each = o.finished } in
    gone_by {steps = Closes ∷ []} (record {
      asides = [];
      aside = refl;
      shows = refl;
      asks = refl;
      allowed = ((o.leaves, o.shut ∙ unclosed is_bare refl s bare, finished), tt);
      disk = λ a b e. (b, e, refl);
    })
    (inr (over_at o refl o.memory o.back_at o.own o.mapped tt o.ring))

-- the order that it wished leaves a front as it is that hasn't begun its ring
agrees_late : (config : Options) (w : World) (d : Pipeline) (order : ℕ) → order ≡ w.front.shape.order → is_unmade w.front.stage ≡ true → Over config w d w.front.stage w.back.stage
    → HasGone None IsSame config [] (record { front = in_state (states.Agreed order) w.front; back = w.back; under = w.under }) d
agrees_late config w d order wished unmade o =
    subst (λ (n : ℕ). HasGone None IsSame config [] (record { front = in_state (states.Agreed n) w.front; back = w.back; under = w.under }) d) (sym wished)
    (gone_by (no_move IsSame d (λ a b same. same))
    (inr (over_at o o.shut o.memory o.back_at o.own o.mapped o.front_at (λ made. absurd (unmade_yet w.front.stage unmade o.front_at made)))))
  where
    unmade_yet : (s : FrontStage) → is_unmade s ≡ true → IsLeaving d.front.connected (length w.under.channels.ports) w.front.shape.order w.under.pages w.back.pages w.back.stage s → length w.under.channels.ports ≢ 0 → ⊥
    unmade_yet (front.RingWord k) t p made = made p.1
    unmade_yet s t p made = true≢false (sym t)

-- a state that the front enters; where it may not nothing changes
pub enters_ends : (config : Options) (w : World) (d : Pipeline) (state : FrontState) → MayEnter w state → Over config w d w.front.stage w.back.stage → HasGone None IsSame config (lines_at w (FrontEnters state)) (happens w (FrontEnters state)) d
enters_ends config w d state may o = enters_cases (λ v shown. HasGone None IsSame config shown (record { front = v; back = w.back; under = w.under }) d) state w.front (entered state may)
    (record { steps = []; does = no_move IsSame d (λ a b same. same); kept = inr o })
  where
    entered : (s : FrontState) → MayEnter w s → may_enter s w.front ≡ true → HasGone None IsSame config (state_lines s) (record { front = in_state s w.front; back = w.back; under = w.under }) d
    entered (states.Agreed order) may can = agrees_late config w d order may (both_true (is_unmade w.front.stage) (nat_le order w.front.shape.order) (both_true (is_unmade w.front.stage && nat_le order w.front.shape.order) _ can).0).0 o
    entered (states.Connected offers) may can = connects_late config w d offers (subst (λ (s : FrontStage). Over config w d s w.back.stage) (initialised_is w.front.stage can) o)
    entered states.Closing may can = absurd (true≢false (sym o.closes ∙ yet_open w.front.closing (is_open w.front.stage) can))
    entered states.Leaving may can = leaves_ring config w d w.front.stage (both_true (is_through w.front) (is_made w.front.stage) can).1 may o
    entered states.Closed may can = is_closed_now config w d w.front.stage (both_true (is_through w.front) (is_bare w.front.stage) can).1 o
    entered (states.Broken word) may can = absurd may

not_unbound : (held : List Mapping) (b : BackStage) → is_unbound b ≡ true → IsAborting held b → ⊥
not_unbound held back.InitWait t p = p
not_unbound held back.MapRing t p = p
not_unbound held b t p = true≢false (sym t)

-- nor does it take terms
pub attaches_late : (config : Options) (w : World) (d : Pipeline) (shape : Shape) (grefs : List ℕ) (port : ℕ) → Over config w d w.front.stage w.back.stage → HasGone None IsSame config (lines_at w (BackAttaches shape grefs port)) (happens w (BackAttaches shape grefs port)) d
attaches_late config w d shape grefs port o = attach_cases (λ v shown. HasGone None IsSame config shown (record { front = w.front; back = v; under = w.under }) d) w shape grefs port
    (λ may layout says. absurd (subst (IsAborting w.back.pages) (attaches_waiting shape grefs w.back may) o.back_at))
    (record { steps = []; does = no_move IsSame d (λ a b same. same); kept = inr o })

-- a back that has halted halts no more
pub halts_no_more : (config : Options) (w : World) (d : Pipeline) (why : Halt) → Over config w d w.front.stage w.back.stage → HasGone None IsSame config (lines_at w (BackHalts why)) (happens w (BackHalts why)) d
halts_no_more config w d why o = halts_cases (λ v. HasGone None IsSame config (halt_lines w.back.halted v.halted) (record { front = w.front; back = v; under = w.under }) d) why w.back
    (λ e. absurd (not_unbound w.back.pages w.back.stage e o.back_at))
    (λ e. absurd (subst (IsAborting w.back.pages) e o.back_at))
    (record { steps = []; does = rw (no_halt w.back.halted) (no_move IsSame d (λ a b same. same)); kept = inr o })
