-- Whatever both ends and the jobs do, what no end looks for any more stays.
use Rattle.std.proofs.Common.{◌≡◌, ap, sym, subst, inl, inr, ◌≤◌, true, true≢false, List, [], ◌∷◌, map, refl, arith}
use Rattle.std.specs.Prelude.{Option, Some, None, is_some}
use Rattle.std.specs.List.{AllByRecursion, list_all}
use Rattle.line_text.proofs.Both.{both_true}
use Rattle.blk_base.specs.Options.{Options}
use Rattle.blk_front.specs.declared.state.FrontState.{FrontState}
use Rattle.blk_base.specs.declared.halt.Halt.{Halt}
use Rattle.hypervisor.specs.Act.{FrontAct, front_act}
use Rattle.pipeline_laws.specs.Pipeline.{Pipeline, after_steps}
use Rattle.split_model.specs.World as rings
use Rattle.split_model.specs.Happening as ring
use Rattle.split_model.specs.Safe.{IsSafe}
use Rattle.split_model.proofs.Safe.{safe_happens}
use Rattle.machine_pipeline.specs.Plain.{IsPlain}
use Rattle.machine_pipeline.specs.Allowed.{AreServed}
use Rattle.machine_pipeline.proofs.Over.{IsKept}
use Rattle.machine_pipeline.proofs.Together.{step_kept}
use Rattle.vbd_model.specs.World.{World}
use Rattle.vbd_model.specs.Happening.{Happening, FrontMoves, BackMoves, JobMoves, Pokes, OverwritesKey, front_turn, back_turn, entered_at, halted_at, front_does, back_does, happens, after}
use Rattle.vbd_model.specs.Possible.{ArePossible}
use Rattle.vbd_laws.specs.Moves.{IsNoMove}
use Rattle.vbd_laws.specs.Quiet.{IsUntouched}
use Rattle.vbd_laws.proofs.MovesTurns.{front_cases, back_cases}
use Rattle.vbd_laws.proofs.MovesFront.{front_move_none}
use Rattle.vbd_laws.proofs.ServedHonest.{Honest, Going, whole_now, hand_now}
use Rattle.ring_settle_laws.proofs.Stations.{IsEndsMove}
use Rattle.ring_settle_laws.proofs.BoundRing.{late_left}
use Rattle.ring_settle_laws.proofs.Late.{IsInTime, late_kept}
use Rattle.settle_laws.proofs.FrontTurnsAgreed.{IsInTime as EntersInTime, entered_in_time}
use Rattle.settle_laws.proofs.TurnsGone.{front_still}
use Rattle.settle_laws.proofs.TurnsMade.{agrees_early}
use Rattle.settle_laws.proofs.TurnsServed.{front_served, back_served}
use Rattle.settle_laws.proofs.Standing.{Stands, stands_on}
use Rattle.settle_laws.proofs.Events.{AreMoves}
use Rattle.settle_laws.proofs.Ends.{is_move}

-- what both ends do, each order agreed on in time
abbrev AreTimely : List ring.Happening → rings.World → Type 0
AreTimely [] w = Unit {0}
AreTimely (h ∷ hs) w = IsEndsMove h × IsInTime w h × AreTimely hs (ring.happens w h)

all_late : (config : Options) (hs : List ring.Happening) (w : rings.World) (d : Pipeline) → IsPlain config → IsSafe w → IsKept config w d → AreServed hs w → AreTimely hs w → late_left w ≤ late_left (ring.after hs w)
all_late config [] w d plain safe kept may timely = omega arith
all_late config (h ∷ hs) w d plain safe kept may timely =
    let gone = step_kept config w d h plain safe kept may.0 in
    let one = late_kept config w d (after_steps gone.steps d) h kept gone.kept timely.0 may.0 timely.1 in
    let rest = all_late config hs (ring.happens w h) (after_steps gone.steps d) plain (safe_happens w h safe) gone.kept may.1 timely.2 in
    omega (arith, one, rest)

states_timely : (states : List FrontState) (w : rings.World) → AllByRecursion (EntersInTime (is_some w.back.halted)) states → AreTimely (map ring.FrontEnters states) w
states_timely [] w times = tt
states_timely (s ∷ states) w times = (tt, agrees_early w s times.0, states_timely states (ring.happens w (ring.FrontEnters s)) times.1)

reasons_timely : (reasons : List Halt) (w : rings.World) → AreTimely (map ring.BackHalts reasons) w
reasons_timely [] w = tt
reasons_timely (why ∷ reasons) w = (tt, tt, reasons_timely reasons (ring.happens w (ring.BackHalts why)))

back_timely : (w : World) → AreTimely (back_does w) w.rings
back_timely w =
    back_cases (λ does asked step. AreTimely does w.rings) w (λ says untaken. (tt, tt, reasons_timely (halted_at w (back_turn w)) _)) (λ says takes. (tt, tt, tt)) (λ quiet moves. (tt, tt, tt)) (λ quiet still. (tt, tt, tt))

front_timely : (config : Options) (w : World) → Honest config w → Going w → (a : FrontAct) → front_turn w ≡ Some a → AreTimely (front_does w) w.rings
front_timely config w honest going a turn =
    front_cases (λ does asked step. front_act w.rings.under asked ≡ Some a → AreTimely does w.rings) w
    (λ says e. (
      tt,
      tt,
      states_timely (entered_at w (front_turn w)) _
          (subst (λ (act : Option FrontAct). AllByRecursion (EntersInTime (is_some w.rings.back.halted)) (entered_at w act)) (sym turn)
          (entered_in_time w a honest.stands.fit (whole_now config w.rings honest.standing) (hand_now config w honest) going.joined turn says e)),
    ))
    (λ quiet moves e. (tt, tt, tt)) (λ quiet still e. (tt, tt, tt)) turn

front_late : (config : Options) (w : World) → Honest config w → late_left w.rings ≤ late_left (let v : World = happens w FrontMoves in v.rings)
front_late config w honest = by_act (front_turn w) refl
  where
    still : front_turn w ≡ None → late_left w.rings ≤ late_left (let v : World = happens w FrontMoves in v.rings)
    still e = let none : IsNoMove w FrontMoves = front_move_none w honest.stands.fit e in omega (arith, ap (λ (v : World). late_left v.rings) none.world)

    by_act : (act : Option FrontAct) → front_turn w ≡ act → late_left w.rings ≤ late_left (let v : World = happens w FrontMoves in v.rings)
    by_act None e = still e
    by_act (Some a) e = elim honest.going [
      | inl going ↦
          (let standing = honest.standing in
          all_late config (front_does w) w.rings standing.pipeline honest.plain standing.safe standing.kept (front_served config w honest) (front_timely config w honest going a e))
      | inr gone ↦ still (front_still w honest.stands.fit gone)
    ]

late_one : (config : Options) (w : World) (h : Happening) → is_move h ≡ true → Honest config w → ArePossible (h ∷ []) w → late_left w.rings ≤ late_left (let v : World = happens w h in v.rings)
late_one config w FrontMoves is honest possible = front_late config w honest
late_one config w BackMoves is honest possible =
    let standing = honest.standing in
    all_late config (back_does w) w.rings standing.pipeline honest.plain standing.safe standing.kept (back_served config w honest) (back_timely w)
late_one config w (JobMoves number outcome) is honest possible =
    let standing = honest.standing in
    all_late config (ring.JobMoves number outcome ∷ []) w.rings standing.pipeline honest.plain standing.safe standing.kept (possible.0, tt) (tt, tt, tt)
late_one config w h is honest possible = absurd (true≢false (sym is))

untouched_move : (h : Happening) → is_move h ≡ true → IsUntouched h
untouched_move (Pokes frame word value) is = absurd (true≢false (sym is))
untouched_move (OverwritesKey name text) is = absurd (true≢false (sym is))
untouched_move h is = tt

-- so do moves of both ends and of jobs
pub moves_late : (config : Options) (hs : List Happening) (w : World) → AreMoves hs → ArePossible hs w → Stands config w → late_left w.rings ≤ late_left (let v : World = after hs w in v.rings)
moves_late config [] w are possible s = omega arith
moves_late config (h ∷ hs) w are possible s =
    let both = both_true (is_move h) (list_all is_move hs) are in
    let one = late_one config w h both.0 s.honest (possible.0, tt) in
    let rest = moves_late config hs (happens w h) both.1 possible.1 (stands_on config w h (untouched_move h both.0) possible.0 s) in
    omega (arith, one, rest)
