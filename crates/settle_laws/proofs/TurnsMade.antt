-- What is left to the ring's machine after what a move of an end is to it.
use Rattle.std.proofs.Common.{◌∙◌, sym, ℕ, ◌+◌, ◌≤◌, true≢false, List, [], ◌∷◌, map, arith}
use Rattle.std.specs.Prelude.{is_some}
use Rattle.std.specs.List.{AllByRecursion}
use Rattle.blk_base.specs.Options.{Options}
use Rattle.blk_base.specs.declared.parts.End.{End}
use Rattle.blk_base.specs.declared.halt.Halt.{Halt}
use Rattle.blk_front.specs.declared.state.FrontState.{FrontState}
use Rattle.blk_front.specs.declared.state.FrontState.TheVariants as entered
use Rattle.pipeline_laws.specs.Pipeline.{Pipeline, after_steps}
use Rattle.split_model.specs.World.{World}
use Rattle.split_model.specs.Safe.{IsSafe}
use Rattle.split_model.specs.Keys.{KeyMove}
use Rattle.split_model.specs.Happening.{Happening, Negotiates, FrontEnters, BackHalts, happens, after}
use Rattle.split_model.proofs.Safe.{safe_happens}
use Rattle.machine_pipeline.specs.Plain.{IsPlain}
use Rattle.machine_pipeline.specs.Allowed.{IsServed, AreServed}
use Rattle.machine_pipeline.proofs.Over.{IsKept}
use Rattle.machine_pipeline.proofs.Together.{step_kept}
use Rattle.ring_settle_laws.specs.Left.{front_part, back_part, unseen_left, marks_left, ring_left}
use Rattle.ring_settle_laws.specs.Stations.{requests_left}
use Rattle.back_laws.specs.JobLeft.{all_left}
use Rattle.ring_settle_laws.proofs.Gone.{Gone, left_after, entering}
use Rattle.ring_settle_laws.proofs.Stations.{gone_lowers, requests_fall}
use Rattle.ring_settle_laws.proofs.FrontEnters.{AgreesEarly, enters_left}
use Rattle.ring_settle_laws.proofs.BackTerms.{halts_left}
use Rattle.settle_laws.proofs.FrontTurnsAgreed.{IsInTime}

-- a machine that stands for a pipeline, with so much left at most
pub record HasAtMost (config : Options) (most : ℕ) (w : World) : Type 0 where
  pub pipeline : Pipeline
  pub kept : IsKept config w pipeline
  pub no_more : ring_left w pipeline ≤ most

more_left : (left most more : ℕ) → left ≤ most → left ≤ most + more
more_left left most more a = omega arith

add_left : (left most first more : ℕ) → left ≤ first + more → first ≤ most → left ≤ most + more
add_left left most first more a b = omega arith

then_left : (left now before first more : ℕ) → left ≤ now + more → now ≤ before + first → left ≤ before + (first + more)
then_left left now before first more a b = omega arith

-- one happening
pub gone_at : (config : Options) (w : World) (d : Pipeline) (h : Happening) → IsPlain config → IsSafe w → IsKept config w d → IsServed w h → Gone config w d h
gone_at config w d h plain safe kept may = step_kept config w d h plain safe kept may

pub made_by : (config : Options) (w : World) (d : Pipeline) (h : Happening) (most : ℕ) → (gone : Gone config w d h) → left_after config w d h gone ≤ most → HasAtMost config most (happens w h)
made_by config w d h most gone less = record { pipeline = after_steps gone.steps d; kept = gone.kept; no_more = less }

-- what a negotiation does with the keys leaves the ring as it is
keys_left : (config : Options) (w : World) (d : Pipeline) (at : End) (move : KeyMove) (gone : Gone config w d (Negotiates at move)) → left_after config w d (Negotiates at move) gone ≤ ring_left w d
keys_left config w d at move gone =
    let fall = requests_fall d.requests (after_steps gone.steps d).requests (gone_lowers config w d (Negotiates at move) tt gone) in
    plain (front_part w.front) (back_part w.back) (all_left w.back.jobs.works) (unseen_left w) (marks_left w.under.channels) (requests_left (after_steps gone.steps d).requests) (requests_left d.requests) fall
  where
    plain : (a b c e f after before : ℕ) → after ≤ before → a + b + c + e + f + after ≤ a + b + c + e + f + before
    plain a b c e f after before x = omega arith

negotiates : (config : Options) (w : World) (d : Pipeline) (at : End) (move : KeyMove) → IsPlain config → IsSafe w → IsKept config w d → IsServed w (Negotiates at move) → HasAtMost config (ring_left w d) (happens w (Negotiates at move))
negotiates config w d at move plain safe kept may =
    let gone = gone_at config w d (Negotiates at move) plain safe kept may in
    made_by config w d (Negotiates at move) (ring_left w d) gone (keys_left config w d at move gone)

-- the states that the front enters
abbrev pub all_entering : List FrontState → ℕ
all_entering [] = 0
all_entering (s ∷ states) = entering s + all_entering states

pub agrees_early : (w : World) (s : FrontState) → IsInTime (is_some w.back.halted) s → AgreesEarly w s
agrees_early w (entered.Agreed order) unhalted = λ halted. absurd (true≢false (sym halted ∙ unhalted))
agrees_early w s unhalted = tt

enters_all : (config : Options) (states : List FrontState) (w : World) (d : Pipeline) → IsPlain config → IsSafe w → IsKept config w d → AllByRecursion (IsInTime (is_some w.back.halted)) states → AreServed (map FrontEnters states) w
    → HasAtMost config (ring_left w d + all_entering states) (after (map FrontEnters states) w)
enters_all config [] w d plain safe kept times may = record { pipeline = d; kept = kept; no_more = more_left (ring_left w d) (ring_left w d) 0 (omega arith) }
enters_all config (s ∷ states) w d plain safe kept times may =
    let gone = gone_at config w d (FrontEnters s) plain safe kept may.0 in
    let later = enters_all config states (happens w (FrontEnters s)) (after_steps gone.steps d) plain (safe_happens w (FrontEnters s) safe) gone.kept times.1 may.1 in
    record {
      pipeline = later.pipeline;
      kept = later.kept;
      no_more = then_left (ring_left (after (map FrontEnters states) (happens w (FrontEnters s))) later.pipeline) (left_after config w d (FrontEnters s) gone) (ring_left w d) (entering s) (all_entering states) later.no_more
          (enters_left config w d s plain kept (agrees_early w s times.0) may.0 gone);
    }

-- the reasons for which the back halts
abbrev pub all_halting : List Halt → ℕ
all_halting [] = 0
all_halting (why ∷ reasons) = 19 + all_halting reasons

halts_all : (config : Options) (reasons : List Halt) (w : World) (d : Pipeline) → IsPlain config → IsSafe w → IsKept config w d → AreServed (map BackHalts reasons) w
    → HasAtMost config (ring_left w d + all_halting reasons) (after (map BackHalts reasons) w)
halts_all config [] w d plain safe kept may = record { pipeline = d; kept = kept; no_more = more_left (ring_left w d) (ring_left w d) 0 (omega arith) }
halts_all config (why ∷ reasons) w d plain safe kept may =
    let gone = gone_at config w d (BackHalts why) plain safe kept may.0 in
    let later = halts_all config reasons (happens w (BackHalts why)) (after_steps gone.steps d) plain (safe_happens w (BackHalts why) safe) gone.kept may.1 in
    record {
      pipeline = later.pipeline;
      kept = later.kept;
      no_more = then_left (ring_left (after (map BackHalts reasons) (happens w (BackHalts why))) later.pipeline) (left_after config w d (BackHalts why) gone) (ring_left w d) 19 (all_halting reasons) later.no_more
          (halts_left config w d why plain safe kept may.0 gone);
    }

-- keys, and then states or reasons
pub says_states : (config : Options) (at : End) (move : KeyMove) (states : List FrontState) (w : World) (d : Pipeline) → IsPlain config → IsSafe w → IsKept config w d → AllByRecursion (IsInTime (is_some w.back.halted)) states → AreServed (Negotiates at move ∷ map FrontEnters states) w
    → HasAtMost config (ring_left w d + all_entering states) (after (Negotiates at move ∷ map FrontEnters states) w)
says_states config at move states w d plain safe kept times may =
    let keyed = negotiates config w d at move plain safe kept may.0 in
    let later = enters_all config states (happens w (Negotiates at move)) keyed.pipeline plain (safe_happens w (Negotiates at move) safe) keyed.kept times may.1 in
    record {
      pipeline = later.pipeline;
      kept = later.kept;
      no_more = add_left (ring_left (after (map FrontEnters states) (happens w (Negotiates at move))) later.pipeline) (ring_left w d) (ring_left (happens w (Negotiates at move)) keyed.pipeline) (all_entering states) later.no_more keyed.no_more;
    }

pub says_reasons : (config : Options) (at : End) (move : KeyMove) (reasons : List Halt) (w : World) (d : Pipeline) → IsPlain config → IsSafe w → IsKept config w d → AreServed (Negotiates at move ∷ map BackHalts reasons) w
    → HasAtMost config (ring_left w d + all_halting reasons) (after (Negotiates at move ∷ map BackHalts reasons) w)
says_reasons config at move reasons w d plain safe kept may =
    let keyed = negotiates config w d at move plain safe kept may.0 in
    let later = halts_all config reasons (happens w (Negotiates at move)) keyed.pipeline plain (safe_happens w (Negotiates at move) safe) keyed.kept may.1 in
    record {
      pipeline = later.pipeline;
      kept = later.kept;
      no_more = add_left (ring_left (after (map BackHalts reasons) (happens w (Negotiates at move))) later.pipeline) (ring_left w d) (ring_left (happens w (Negotiates at move)) keyed.pipeline) (all_halting reasons) later.no_more keyed.no_more;
    }
