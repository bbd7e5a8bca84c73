-- A round that is begun where not all is quiet leaves less to do; so there are fewer rounds than there was left to do.
use Rattle.std.proofs.Common.{◌≡◌, ◌∙◌, ap, sym, subst, inl, inr, ℕ, zero, suc, ◌+◌, ◌≤◌, ◌<◌, Bool, true, false, cond, List, [], ◌∷◌, ◌++◌, refl, arith}
use Rattle.std.specs.Prelude.{Option, Some, None, is_some}
use Rattle.blk_base.specs.Options.{Options}
use Rattle.hypervisor.specs.Act.{FrontAct, BackAct}
use Rattle.pipeline_laws.specs.Pipeline.{Pipeline}
use Rattle.machine_pipeline.proofs.Over.{IsKept}
use Rattle.vbd_model.specs.World.{World, is_quiet}
use Rattle.vbd_model.specs.Happening.{Happening, FrontMoves, BackMoves, JobMoves, front_turn, back_turn, happens, after}
use Rattle.vbd_model.specs.Kind.{AreEachJobs, AreAllJobs, IsRound, AreRounds, AreRoundsUntilQuiet, round_start, settle_bound}
use Rattle.vbd_model.specs.Fit.{IsFit}
use Rattle.vbd_model.proofs.Running.{after-append}
use Rattle.vbd_laws.specs.Moves.{IsNoMove}
use Rattle.vbd_laws.proofs.MovesFront.{front_move_none}
use Rattle.vbd_laws.proofs.MovesBack.{back_move_none}
use Rattle.ring_settle_laws.specs.Left.{unseen_left}
use Rattle.ring_settle_laws.proofs.BoundRing.{late_left}
use Rattle.settle_laws.specs.Total.{total_left}
use Rattle.settle_laws.specs.Calls.{AreCalls}
use Rattle.settle_laws.proofs.Falling.{Falls, Stays}
use Rattle.settle_laws.proofs.Standing.{Stands, stands_on}
use Rattle.settle_laws.proofs.JobRounds.{EachFalls, no_more, less_still, as_it_was, fell_stays, jobs_stay, jobs_fall}

-- the calls of the one part, and then those of the other
pub calls_apart : (first rest : List Happening) (w : World) → AreCalls (first ++ rest) w → AreCalls first w × AreCalls rest (after first w)
calls_apart [] rest w calls = (tt, calls)
calls_apart (h ∷ first) rest w calls = let later = calls_apart first rest (happens w h) calls.1 in ((calls.0, later.0), later.1)

-- after some moves of jobs the machine stands as before them
jobs_stand : (config : Options) (from to : ℕ) (hs : List Happening) (w : World) → Stands config w → AreEachJobs from to w hs → Stands config (after hs w)
jobs_stand config from to [] w s are = s
jobs_stand config from to (h ∷ hs) w s are =
    let next : Stands config (happens w h) = subst (λ (x : Happening). Stands config (happens w x)) (sym are.2) (stands_on config w (JobMoves are.0 are.1) tt are.3 s) in
    jobs_stand config are.0 to hs (happens w h) next are.5

-- so many rounds ran, and each took from what was left
record HasRun (count : ℕ) (w : World) (d : Pipeline) (v : World) : Type 0 where
  pipeline : Pipeline
  less : total_left v pipeline + count ≤ total_left w d

one_more : (count : ℕ) (w now v : World) (d e : Pipeline) → total_left now e + 1 ≤ total_left w d → HasRun count now e v → HasRun (suc count) w d v
one_more count w now v d e less ran = record { pipeline = ran.pipeline; less = let rest = ran.less in omega (arith, less, rest) }

-- what no end looks for is some of what is left
late_within : (w : World) (d : Pipeline) → late_left w.rings ≤ total_left w d
late_within w d = elim (is_some w.rings.back.halted) as (λ b. cond b (unseen_left w.rings) 0 ≤ total_left w d) [ true ↦ omega arith | false ↦ omega arith ]

module _ (config : Options) (falls : EachFalls config) where
  -- the back moves, and then each job
  back_falls : (hs : List Happening) (w : World) (d : Pipeline) → IsKept config w.rings d → Stands config w → front_turn w ≡ None → is_quiet w ≡ false
      → AreAllJobs (happens w BackMoves) hs → AreCalls hs (happens w BackMoves) → Falls config (total_left w d) (after hs (happens w BackMoves))
  back_falls hs w d kept s front busy all runs = by_act (back_turn w) refl
    where
      fit : IsFit w
      fit = let honest = s.honest in honest.stands.fit

      by_act : (act : Option BackAct) → back_turn w ≡ act → Falls config (total_left w d) (after hs (happens w BackMoves))
      by_act None e =
          let still : IsNoMove w BackMoves = back_move_none w fit e in
          subst (λ (v : World). Falls config (total_left w d) (after hs v)) (sym still.world)
          (jobs_fall config falls hs w d kept s front e busy (subst (λ (v : World). AreAllJobs v hs) still.world all) (subst (λ (v : World). AreCalls hs v) still.world runs))
      by_act (Some act) e =
          let honest = s.honest in
          let fell : Falls config (total_left w d) (happens w BackMoves) = falls.back w d honest kept act e in
          less_still config (total_left (happens w BackMoves) fell.pipeline) (total_left w d) (after hs (happens w BackMoves)) fell.less
          (jobs_stay config falls 0 all.to hs (happens w BackMoves) fell.pipeline fell.kept (stands_on config w BackMoves tt tt s) all.each)

  back_stays : (hs : List Happening) (w : World) (d : Pipeline) → IsKept config w.rings d → Stands config w → AreAllJobs (happens w BackMoves) hs → Stays config (total_left w d) (after hs (happens w BackMoves))
  back_stays hs w d kept s all = by_act (back_turn w) refl
    where
      fit : IsFit w
      fit = let honest = s.honest in honest.stands.fit

      then_jobs : Stays config (total_left w d) (happens w BackMoves) → Stays config (total_left w d) (after hs (happens w BackMoves))
      then_jobs one =
          no_more config (total_left (happens w BackMoves) one.pipeline) (total_left w d) (after hs (happens w BackMoves)) one.no_more
          (jobs_stay config falls 0 all.to hs (happens w BackMoves) one.pipeline one.kept (stands_on config w BackMoves tt tt s) all.each)

      by_act : (act : Option BackAct) → back_turn w ≡ act → Stays config (total_left w d) (after hs (happens w BackMoves))
      by_act None e = let still : IsNoMove w BackMoves = back_move_none w fit e in then_jobs (as_it_was config w (happens w BackMoves) d still.world kept)
      by_act (Some act) e = let honest = s.honest in then_jobs (fell_stays config (total_left w d) (happens w BackMoves) (falls.back w d honest kept act e))

  -- a round
  round_falls : (jobs : List Happening) (w : World) (d : Pipeline) → IsKept config w.rings d → Stands config w → is_quiet w ≡ false
      → AreAllJobs (after round_start w) jobs → AreCalls (round_start ++ jobs) w → Falls config (total_left w d) (after (round_start ++ jobs) w)
  round_falls jobs w d kept s busy all runs = by_act (front_turn w) refl
    where
      fit : IsFit w
      fit = let honest = s.honest in honest.stands.fit

      by_act : (act : Option FrontAct) → front_turn w ≡ act → Falls config (total_left w d) (after jobs (happens (happens w FrontMoves) BackMoves))
      by_act None e =
          let still : IsNoMove w FrontMoves = front_move_none w fit e in
          subst (λ (v : World). Falls config (total_left w d) (after jobs (happens v BackMoves))) (sym still.world)
          (back_falls jobs w d kept s e busy (subst (λ (v : World). AreAllJobs (happens v BackMoves) jobs) still.world all) (subst (λ (v : World). AreCalls jobs (happens v BackMoves)) still.world runs.1.1))
      by_act (Some act) e =
          let honest = s.honest in
          let fell : Falls config (total_left w d) (happens w FrontMoves) = falls.front w d honest kept act e in
          less_still config (total_left (happens w FrontMoves) fell.pipeline) (total_left w d) (after jobs (happens (happens w FrontMoves) BackMoves)) fell.less
          (back_stays jobs (happens w FrontMoves) fell.pipeline fell.kept (stands_on config w FrontMoves tt tt s) all)

  -- so many rounds
  rounds_fall : (count : ℕ) (hs : List Happening) (w : World) (d : Pipeline) → IsKept config w.rings d → Stands config w → AreRounds is_quiet count w hs → AreCalls hs w → HasRun count w d (after hs w)
  rounds_fall zero hs w d kept s are calls = subst (λ (xs : List Happening). HasRun 0 w d (after xs w)) (sym are) (record { pipeline = d; less = omega arith })
  rounds_fall (suc count) hs w d kept s are calls =
      let first : List Happening = are.1.0 in
      let rest : List Happening = are.1.1 in
      let round : IsRound w first = are.1.3 in
      let apart = calls_apart first rest w (subst (λ (xs : List Happening). AreCalls xs w) are.1.2 calls) in
      let now : World = after (round_start ++ round.jobs) w in
      let fell : Falls config (total_left w d) now = round_falls round.jobs w d kept s are.0 round.are_jobs (subst (λ (xs : List Happening). AreCalls xs w) round.all apart.0) in
      let same : after first w ≡ now = ap (λ (xs : List Happening). after xs w) round.all in
      let next : Stands config now =
      jobs_stand config 0 (let all = round.are_jobs in all.to) round.jobs (after round_start w) (stands_on config (happens w FrontMoves) BackMoves tt tt (stands_on config w FrontMoves tt tt s)) (let all = round.are_jobs in all.each) in
      let later : HasRun count now fell.pipeline (after rest now) =
      rounds_fall count rest now fell.pipeline fell.kept next (subst (λ (v : World). AreRounds is_quiet count v rest) same are.1.4) (subst (λ (v : World). AreCalls rest v) same apart.1) in
      let whole : after hs w ≡ after rest now = ap (λ (xs : List Happening). after xs w) are.1.2 ∙ (after-append first rest w ∙ ap (after rest) same) in
      subst (HasRun (suc count) w d) (sym whole) (one_more count w now (after rest now) d fell.pipeline fell.less later)

  -- settling ends in quiet where less is left than its bound, but for what no end looks for any more
  pub settles_quiet : (hs : List Happening) (w : World) (d : Pipeline) → IsKept config w.rings d → Stands config w → total_left w d < settle_bound w + late_left w.rings
      → AreRoundsUntilQuiet (settle_bound w) w hs → AreCalls hs w → late_left w.rings ≤ late_left (let v : World = after hs w in v.rings) → is_quiet (after hs w) ≡ true
  settles_quiet hs w d kept s few rounds calls late = elim rounds.over [
    | inl all ↦
        (let ran : HasRun rounds.count w d (after hs w) = rounds_fall rounds.count hs w d kept s rounds.are_rounds calls in
        let less = ran.less in
        let least : late_left (let v : World = after hs w in v.rings) ≤ total_left (after hs w) ran.pipeline = late_within (after hs w) ran.pipeline in
        absurd (omega (arith, all, less, least, few, late)))
    | inr quiet ↦ quiet
  ]
