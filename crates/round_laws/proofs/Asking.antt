-- What the calls of a back say of each of its jobs: that it goes on so long in its sector, or waits.
use Rattle.std.proofs.Common.{◌≡◌, ℕ, ◌<◌, ◌≤◌, Bool, true, false, ◌&&◌, if◌then◌else◌, List, [], ◌∷◌, ◌++◌, map, length, refl, sym, ap, ◌∙◌, subst, arith, append_assoc}
use Rattle.std.specs.Prelude.{Option, Some, None, is_some}
use Rattle.std.specs.List.{AllByRecursion}
use Rattle.blk_base.specs.declared.ask.BackAsk.{BackAsk}
use Rattle.blk_base.specs.declared.ask.BackAsk.TheVariants as ask
use Rattle.blk_base.specs.declared.halt.Halt.{Halt}
use Rattle.persist_grants.specs.KeptMappings.{may_keep}
use Rattle.back_jobs.specs.declared.part.SectorPart.{SectorPart}
use Rattle.back_jobs.specs.declared.stage.JobStage.{JobStage}
use Rattle.back_jobs.specs.declared.stage.JobStage.TheVariants as stage
use Rattle.back_jobs.specs.Work.{Work, ask_at}
use Rattle.back_jobs.specs.Jobs.{place_of, work_of, asked, waits_at, is_fresh_at, is_held_by}
use Rattle.back_jobs.specs.Keeping.{waits_in}
use Rattle.back_jobs.specs.Part.{part_at, part_in, part_of as held_part, values_at, values_in, part_values}
use Rattle.blk_back.specs.View.{View}
use Rattle.blk_back.specs.Step.{job_ask_of}
use Rattle.blk_back.specs.Part.{job_part, job_values}
use Rattle.round_laws.specs.Movers.{part_of, JobGoesOn, CallsSay, AreAbove}
use Rattle.round_laws.specs.Laws.{EachGoesOn}
use Rattle.round_laws.specs.Calls.{AskForTheirs}
use Rattle.round_laws.proofs.Jobs.{AreUpTo, up_to_more, work_there, asked_there}
use Rattle.round_laws.proofs.Visiting.{each_is_visited}

abbrev IsWordAsk : BackAsk → Type 0
IsWordAsk (ask.Read m word) = Unit {0}
IsWordAsk (ask.Write m word value) = Unit {0}
IsWordAsk a = ⊥

-- an ask for a word is no wait
no_wait : (a : BackAsk) → a ≡ ask.Wait → IsWordAsk a → ⊥
no_wait a is word = subst IsWordAsk is word

module _ (n : ℕ) (v : View) (runs : v.halted ≡ None) where
  module _ (pre : List Work) (t : Work) (post : List Work) (from : ℕ) (low : AreUpTo from pre) (less : from < t.number) (whole : v.jobs.works ≡ pre ++ t ∷ post) where
    found : work_of v.jobs.works t.number ≡ Some t
    found = ap (λ (l : List Work). work_of l t.number) whole ∙ work_there pre t post from low less

    abbrev holds : Bool
    holds = waits_in (may_keep v.jobs.kept) v.jobs.works (place_of v.jobs.works t.number) (Some t)

    part_so : job_part v t.number ≡ part_in holds (Some t)
    part_so =
        ap (λ (o : Option Halt). if is_some o then None else held_part v.jobs t.number) runs
        ∙ ap (λ (o : Option Work). part_in (waits_in (may_keep v.jobs.kept) v.jobs.works (place_of v.jobs.works t.number) o) o) found

    values_so : job_values v t.number ≡ values_at t.stage t.words
    values_so = ap (λ (o : Option Halt). if is_some o then [] else part_values v.jobs t.number) runs ∙ ap values_in found

    ask_so : job_ask_of v t.number ≡ asked (is_fresh_at t.stage t.moved && is_held_by pre t) (Some t)
    ask_so =
        ap (λ (o : Option Halt). if is_some o then ask.Wait else asked (waits_at v.jobs.works (place_of v.jobs.works t.number) (work_of v.jobs.works t.number)) (work_of v.jobs.works t.number)) runs
        ∙ (ap (λ (l : List Work). asked (waits_at l (place_of l t.number) (work_of l t.number)) (work_of l t.number)) whole ∙ asked_there pre t post from low less)

    -- one with a word to move doesn't wait
    begun_asks : (s : JobStage) → t.stage ≡ s → is_fresh_at s t.moved ≡ false → job_ask_of v t.number ≡ ask_at s t
    begun_asks s at begun =
        ask_so
        ∙ (ap (λ (x : JobStage). asked (is_fresh_at x t.moved && is_held_by pre t) (Some t)) at
        ∙ (ap (λ (b : Bool). asked (b && is_held_by pre t) (Some t)) begun ∙ ap (λ (x : JobStage). ask_at x t) at))

    waiting : (s : JobStage) → t.stage ≡ s → job_ask_of v t.number ≡ ask.Wait → JobGoesOn n v t (part_at s t)
    waiting (stage.ReadWord m k) at waits = absurd (no_wait (ask_at (stage.ReadWord m k) t) (sym (begun_asks (stage.ReadWord m k) at refl) ∙ waits) tt)
    waiting (stage.WriteWord m k) at waits = absurd (no_wait (ask_at (stage.WriteWord m k) t) (sym (begun_asks (stage.WriteWord m k) at refl) ∙ waits) tt)
    waiting s at waits = waits

    -- and one that waits has none
    waiting_none : (s : JobStage) → t.stage ≡ s → job_ask_of v t.number ≡ ask.Wait → part_at s t ≡ None
    waiting_none (stage.ReadWord m k) at waits = absurd (no_wait (ask_at (stage.ReadWord m k) t) (sym (begun_asks (stage.ReadWord m k) at refl) ∙ waits) tt)
    waiting_none (stage.WriteWord m k) at waits = absurd (no_wait (ask_at (stage.WriteWord m k) t) (sym (begun_asks (stage.WriteWord m k) at refl) ∙ waits) tt)
    waiting_none s at waits = refl

    asks_for_its : CallsSay n v t.number (job_part v t.number) → job_part v t.number ≡ part_of t
    asks_for_its says = by_hold holds part_so
      where
        by_hold : (b : Bool) → job_part v t.number ≡ part_in b (Some t) → job_part v t.number ≡ part_of t
        by_hold true e = e ∙ sym (waiting_none t.stage refl (subst (CallsSay n v t.number) e says))
        by_hold false e = e

    said : (o : Option SectorPart) → CallsSay n v t.number o → JobGoesOn n v t o
    said None says = says
    said (Some p) says = (says.0, says.1, λ way. subst (λ (l : List ℕ). p.count ≤ length l) values_so (says.2 way))

    goes_on : CallsSay n v t.number (job_part v t.number) → JobGoesOn n v t (part_of t)
    goes_on says = by_hold holds (subst (CallsSay n v t.number) part_so says)
      where
        by_hold : (b : Bool) → CallsSay n v t.number (part_in b (Some t)) → JobGoesOn n v t (part_of t)
        by_hold true says = waiting t.stage refl says
        by_hold false says = said (part_of t) says

  all_go_on : (ts pre : List Work) (from : ℕ) → v.jobs.works ≡ pre ++ ts → AreUpTo from pre → AreAbove from ts
      → AllByRecursion (λ k. CallsSay n v k (job_part v k)) (map (λ (t : Work). t.number) ts) → AllByRecursion (λ (t : Work). JobGoesOn n v t (part_of t)) ts
  all_go_on [] pre from whole low above says = tt
  all_go_on (t ∷ ts) pre from whole low above says = (
    goes_on pre t ts from low above.0 whole says.0,
    all_go_on ts (pre ++ t ∷ []) t.number (whole ∙ sym (append_assoc pre (t ∷ []) ts)) (up_to_more from t.number pre t (let less = above.0 in omega arith) (omega arith) low) above.1 says.1,
  )

  all_ask : (ts pre : List Work) (from : ℕ) → v.jobs.works ≡ pre ++ ts → AreUpTo from pre → AreAbove from ts
      → AllByRecursion (λ k. CallsSay n v k (job_part v k)) (map (λ (t : Work). t.number) ts) → AskForTheirs v ts
  all_ask [] pre from whole low above says = tt
  all_ask (t ∷ ts) pre from whole low above says = (
    asks_for_its pre t ts from low above.0 whole says.0,
    all_ask ts (pre ++ t ∷ []) t.number (whole ∙ sym (append_assoc pre (t ∷ []) ts)) (up_to_more from t.number pre t (let less = above.0 in omega arith) (omega arith) low) above.1 says.1,
  )

pub each_asks : (n : ℕ) (v : View) (numbers : List ℕ) → v.halted ≡ None → AreAbove 0 v.jobs.works → map (λ (t : Work). t.number) v.jobs.works ≡ numbers
    → AllByRecursion (λ k. CallsSay n v k (job_part v k)) numbers → AskForTheirs v v.jobs.works
each_asks n v numbers runs above all says =
    all_ask n v runs v.jobs.works [] 0 refl tt above (subst (λ (l : List ℕ). AllByRecursion (λ k. CallsSay n v k (job_part v k)) l) (sym all) says)

pub each_goes_on : EachGoesOn
each_goes_on n v numbers runs all many says =
    let there = each_is_visited v numbers all many in
    all_go_on n v runs v.jobs.works [] 0 refl tt there.0 (subst (λ (l : List ℕ). AllByRecursion (λ k. CallsSay n v k (job_part v k)) l) (sym there.1) says)
