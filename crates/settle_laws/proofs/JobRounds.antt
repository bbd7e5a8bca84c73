-- The moves of all jobs of a round leave less to do where neither end has an act and not all is quiet, and never more.
use Rattle.std.proofs.Common.{◌≡◌, ◌≢◌, ◌∙◌, ◌⊎◌, ap, sym, subst, inl, inr, ℕ, ◌+◌, ◌≤◌, true, false, true≢false, List, [], ◌∷◌, refl, arith}
use Rattle.std.specs.Prelude.{Option, Some, None, is_some}
use Rattle.std.proofs.lemmas.Option.{none-some, same_Some}
use Rattle.blk_base.specs.Options.{Options}
use Rattle.blk_io.specs.Disk.{DiskSeen}
use Rattle.hypervisor.specs.Act.{FrontAct, BackAct, Outcome, IsGiven}
use Rattle.hypervisor.specs.Disk.{DiskDoes}
use Rattle.back_jobs.specs.Work.{Work}
use Rattle.back_jobs.specs.Jobs.{is_done}
use Rattle.vbd_model.specs.Fit.{IsFit}
use Rattle.blk_back.specs.Ask.{is_led, is_waiting}
use Rattle.blk_back.specs.Step.{next_job_of, job_ask_of}
use Rattle.pipeline_laws.specs.Pipeline.{Pipeline}
use Rattle.split_model.specs.Happening.{job_turn, job_after}
use Rattle.machine_pipeline.proofs.Over.{IsKept}
use Rattle.vbd_model.specs.World.{World, is_quiet}
use Rattle.vbd_model.specs.Happening.{Happening, FrontMoves, BackMoves, JobMoves, front_turn, back_turn, happens, after}
use Rattle.vbd_model.specs.Kind.{AreEachJobs, AreAllJobs}
use Rattle.vbd_laws.proofs.ServedHonest.{Honest}
use Rattle.settle_laws.specs.Total.{total_left}
use Rattle.settle_laws.specs.Calls.{IsCall, AreCalls}
use Rattle.settle_laws.proofs.Falling.{Falls, Stays}
use Rattle.settle_laws.proofs.Idle.{rests_quiet, waits_where}
use Rattle.settle_laws.proofs.Resting.{back_rests}
use Rattle.settle_laws.proofs.Working.{first_acts, first_is_next}
use Rattle.settle_laws.proofs.Undone.{undone, numbered}
use Rattle.settle_laws.proofs.Standing.{Stands, stands_on, jobs_wait_so}

-- each act of a mover leaves less to do
pub record EachFalls (config : Options) : Type 0 where
  pub front : (w : World) (d : Pipeline) → Honest config w → IsKept config w.rings d → (a : FrontAct) → front_turn w ≡ Some a → Falls config (total_left w d) (happens w FrontMoves)
  pub back : (w : World) (d : Pipeline) → Honest config w → IsKept config w.rings d → (a : BackAct) → back_turn w ≡ Some a → Falls config (total_left w d) (happens w BackMoves)
  pub job : (w : World) (d : Pipeline) (number : ℕ) (outcome : Outcome) → Honest config w → IsKept config w.rings d → IsGiven outcome
      → (a : BackAct) → job_turn w.rings number outcome ≡ Some a → Falls config (total_left w d) (happens w (JobMoves number outcome))

-- less than less is left
pub no_more : (config : Options) (n m : ℕ) (w : World) → n ≤ m → Stays config n w → Stays config m w
no_more config n m w few s = record { pipeline = s.pipeline; kept = s.kept; no_more = let all = s.no_more in omega (arith, all, few) }

pub less_still : (config : Options) (n m : ℕ) (w : World) → n + 1 ≤ m → Stays config n w → Falls config m w
less_still config n m w few s = record { pipeline = s.pipeline; kept = s.kept; less = let all = s.no_more in omega (arith, all, few) }

-- a job that has no act leaves all as it is
job_still : (w : World) (number : ℕ) (outcome : Outcome) → job_turn w.rings number outcome ≡ None → happens w (JobMoves number outcome) ≡ w
job_still w number outcome none = ap (λ (act : Option BackAct). record { rings = job_after w.rings number act; front = w.front; back = w.back }) none

-- what stays as it is has no more left
pub as_it_was : (config : Options) (w v : World) (d : Pipeline) → v ≡ w → IsKept config w.rings d → Stays config (total_left w d) v
as_it_was config w v d same kept = subst (λ (x : World). Stays config (total_left w d) x) (sym same) (record { pipeline = d; kept = kept; no_more = omega arith })

pub fell_stays : (config : Options) (n : ℕ) (w : World) → Falls config n w → Stays config n w
fell_stays config n w fell = record { pipeline = fell.pipeline; kept = fell.kept; no_more = let less = fell.less in omega (arith, less) }

module _ (config : Options) (falls : EachFalls config) where
  -- a move of a job
  job_stays : (w : World) (d : Pipeline) (number : ℕ) (outcome : Outcome) → IsKept config w.rings d → Stands config w → IsGiven outcome → Stays config (total_left w d) (happens w (JobMoves number outcome))
  job_stays w d number outcome kept s given = by_act (job_turn w.rings number outcome) refl
    where
      by_act : (act : Option BackAct) → job_turn w.rings number outcome ≡ act → Stays config (total_left w d) (happens w (JobMoves number outcome))
      by_act None e = as_it_was config w (happens w (JobMoves number outcome)) d (job_still w number outcome e) kept
      by_act (Some a) e = let honest = s.honest in fell_stays config (total_left w d) (happens w (JobMoves number outcome)) (falls.job w d number outcome honest kept given a e)

  -- moves of some jobs, one after the other
  pub jobs_stay : (from to : ℕ) (hs : List Happening) (w : World) (d : Pipeline) → IsKept config w.rings d → Stands config w → AreEachJobs from to w hs → Stays config (total_left w d) (after hs w)
  jobs_stay from to [] w d kept s are = record { pipeline = d; kept = kept; no_more = omega arith }
  jobs_stay from to (h ∷ hs) w d kept s are =
      let move : Happening = JobMoves are.0 are.1 in
      let one : Stays config (total_left w d) (happens w move) = job_stays w d are.0 are.1 kept s are.3 in
      let later : AreEachJobs are.0 to (happens w move) hs = subst (λ (x : Happening). AreEachJobs are.0 to (happens w x) hs) are.2 are.5 in
      let rest : Stays config (total_left (happens w move) one.pipeline) (after hs (happens w move)) =
      jobs_stay are.0 to hs (happens w move) one.pipeline one.kept (stands_on config w move tt are.3 s) later in
      subst (λ (x : Happening). Stays config (total_left w d) (after hs (happens w x))) (sym are.2)
      (no_more config (total_left (happens w move) one.pipeline) (total_left w d) (after hs (happens w move)) one.no_more rest)

  -- the first of them, where neither end has an act and not all is quiet
  pub jobs_fall : (hs : List Happening) (w : World) (d : Pipeline) → IsKept config w.rings d → Stands config w → front_turn w ≡ None → back_turn w ≡ None → is_quiet w ≡ false
      → AreAllJobs w hs → AreCalls hs w → Falls config (total_left w d) (after hs w)
  jobs_fall hs w d kept s front back busy all runs = by_works w.rings.back.jobs.works refl
    where
      fit : IsFit w
      fit = let honest = s.honest in honest.stands.fit

      waits : (is_led w.rings.back.stage ≡ true) ⊎ (is_waiting w.rings.back ≡ true)
      waits = waits_where w fit (back_rests w back).0

      by_hs : (t : Work) (rest : List Work) → w.rings.back.jobs.works ≡ t ∷ rest → is_done t ≡ false → is_some w.rings.back.halted ≡ false → 1 ≤ t.number
          → (xs : List Happening) (to : ℕ) → AreEachJobs 0 to w xs → next_job_of (let v : World = after xs w in v.rings.back) to ≡ None → AreCalls xs w → Falls config (total_left w d) (after xs w)
      by_hs t rest held undone unhalted counted [] to each last run =
          absurd (none-some t.number (sym (subst (λ (n : ℕ). next_job_of w.rings.back n ≡ None) each last) ∙ first_is_next w.rings (jobs_wait_so config w s) t rest held undone unhalted counted))
      by_hs t rest held undone unhalted counted (x ∷ xs) to each last run =
          let move : Happening = JobMoves each.0 each.1 in
          let is_first : each.0 ≡ t.number = same_Some each.0 t.number (sym each.4 ∙ first_is_next w.rings (jobs_wait_so config w s) t rest held undone unhalted counted) in
          let call : (before : DiskSeen) × (after : DiskSeen) × DiskDoes (job_ask_of w.rings.back each.0) each.1 before after = subst (IsCall w) each.2 run.0 in
          let acts : job_turn w.rings t.number each.1 ≢ None =
          first_acts w.rings (jobs_wait_so config w s) t rest held undone unhalted each.1 call.0 call.1 (subst (λ (n : ℕ). DiskDoes (job_ask_of w.rings.back n) each.1 call.0 call.1) is_first call.2) in
          let one : Falls config (total_left w d) (happens w move) = first_falls each.0 each.1 each.3 (subst (λ (n : ℕ). job_turn w.rings n each.1 ≢ None) (sym is_first) acts) in
          let later : AreEachJobs each.0 to (happens w move) xs = subst (λ (y : Happening). AreEachJobs each.0 to (happens w y) xs) each.2 each.5 in
          let rest_stays : Stays config (total_left (happens w move) one.pipeline) (after xs (happens w move)) =
          jobs_stay each.0 to xs (happens w move) one.pipeline one.kept (stands_on config w move tt each.3 s) later in
          subst (λ (y : Happening). Falls config (total_left w d) (after xs (happens w y))) (sym each.2)
          (less_still config (total_left (happens w move) one.pipeline) (total_left w d) (after xs (happens w move)) one.less rest_stays)
        where
          first_falls : (number : ℕ) (outcome : Outcome) → IsGiven outcome → job_turn w.rings number outcome ≢ None → Falls config (total_left w d) (happens w (JobMoves number outcome))
          first_falls number outcome given acts = by_act (job_turn w.rings number outcome) refl
            where
              by_act : (act : Option BackAct) → job_turn w.rings number outcome ≡ act → Falls config (total_left w d) (happens w (JobMoves number outcome))
              by_act None e = absurd (acts e)
              by_act (Some act) e = let honest = s.honest in falls.job w d number outcome honest kept given act e

      by_kept : (t : Work) (rest : List Work) → w.rings.back.jobs.works ≡ t ∷ rest → IsKept config w.rings d → Falls config (total_left w d) (after hs w)
      by_kept t rest held (inl k) =
          let h = k.1 in
          by_hs t rest held (undone config w.rings k.0 d t rest held w.rings.front.stage w.rings.back.stage h waits) (ap is_some h.unhalted)
          (numbered config w.rings k.0 d t rest held w.rings.front.stage w.rings.back.stage h) hs all.to all.each all.last runs
      by_kept t rest held (inr over) = absurd (cc (over.no_job, held))

      by_works : (works : List Work) → w.rings.back.jobs.works ≡ works → Falls config (total_left w d) (after hs w)
      by_works [] e = absurd (true≢false (sym (rests_quiet w fit e front back) ∙ busy))
      by_works (t ∷ rest) e = by_kept t rest e kept
