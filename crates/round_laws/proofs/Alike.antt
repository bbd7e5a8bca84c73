-- The back asks what it asked before its jobs moved words, and all is quiet as it was.
use Rattle.std.proofs.Common.{◌≡◌, ℕ, ◌≤◌, Bool, true, false, not, ◌&&◌, ◌||◌, ◌==◌, cond, if◌then◌else◌, List, [], ◌∷◌, map, length, refl, sym, ap, ◌∙◌, arith}
use Rattle.std.specs.Prelude.{Option, Some, None, position, find, nat_lt, option_and_then}
use Rattle.std.specs.List.{AllByRecursion, position_or_len}
use Rattle.std.proofs.lemmas.Bool.Decides.{nat_tests}
use Rattle.std.proofs.lemmas.List.{length-map}
use Rattle.std.proofs.lemmas.List.Folds.{find_at}
use Rattle.std.proofs.lemmas.Option.{slice_get_past}
use Rattle.blk_base.specs.declared.ask.BackAsk.{BackAsk}
use Rattle.hypervisor.specs.Hypervisor.{Hypervisor}
use Rattle.back_jobs.specs.Work.{Work}
use Rattle.back_jobs.specs.Jobs.{work_at, is_done, response_of}
use Rattle.blk_back.specs.declared.stage.BackStage.{BackStage}
use Rattle.blk_back.specs.declared.stage.BackStage.TheVariants as stage
use Rattle.blk_back.specs.declared.stage.Reply.{Reply}
use Rattle.blk_back.specs.View as ring_view
use Rattle.blk_back.specs.Ask as ring
use Rattle.xenbus_state.specs.BackView.{BackView}
use Rattle.vbd_back.specs.View.{both}
use Rattle.vbd_back.specs.Ask.{is_waiting, is_idle, ask_of, key_ask, ring_ask, bus_ask_of, bus_moves, ring_moves}
use Rattle.round_laws.specs.Movers.{part_of, job_moved, JobGoesOn}
use Rattle.round_laws.specs.AtOnce.{with_jobs}
use Rattle.round_laws.proofs.JobWords.{is_like, done_stays}

-- the first that passes a test
found_is : (p : Work → Bool) (works : List Work) → work_at works (position p works) ≡ find p works
found_is p works = by_test (nat_lt (position_or_len p works) (length works)) refl
  where
    by_test : (b : Bool) → nat_lt (position_or_len p works) (length works) ≡ b → work_at works (cond b (Some (position_or_len p works)) None) ≡ find p works
    by_test true within = sym (find_at p works)
    by_test false past = let le : length works ≤ position_or_len p works = grind (arith, nat_tests) in sym (find_at p works ∙ slice_get_past works (position_or_len p works) le)

module _ (h : Hypervisor) (n : ℕ) (v : ring_view.View) where
  abbrev moved : List Work → List Work
  moved works = map (job_moved h n) works

  first_done : (works : List Work) → AllByRecursion (λ (t : Work). JobGoesOn n v t (part_of t)) works → find (λ (t : Work). is_done t) (moved works) ≡ find (λ (t : Work). is_done t) works
  first_done [] goes = refl
  first_done (t ∷ works) goes =
      ap (λ (b : Bool). cond b (Some (job_moved h n t)) (find (λ (u : Work). is_done u) (moved works))) (is_like h n v t goes.0).done ∙ by_done (is_done t) refl (first_done works goes.1)
    where
      by_done : (b : Bool) → is_done t ≡ b → find (λ (u : Work). is_done u) (moved works) ≡ find (λ (u : Work). is_done u) works → cond b (Some (job_moved h n t)) (find (λ (u : Work). is_done u) (moved works)) ≡ cond b (Some t) (find (λ (u : Work). is_done u) works)
      by_done true done rest = ap Some (done_stays h n t done)
      by_done false going rest = rest

  module _ (goes : AllByRecursion (λ (t : Work). JobGoesOn n v t (part_of t)) v.jobs.works) where
    abbrev now : ring_view.View
    now = with_jobs v (moved v.jobs.works)

    reply_same : ring.next_reply now ≡ ring.next_reply v
    reply_same = ap (λ (o : Option Work). ring.reply_of (option_and_then response_of o)) (found_is (λ (t : Work). is_done t) (moved v.jobs.works) ∙ (first_done v.jobs.works goes ∙ sym (found_is (λ (t : Work). is_done t) v.jobs.works)))

    loop_same : (r : Option Reply) → ring.loop_ask now r ≡ ring.loop_ask v r
    loop_same None = refl
    loop_same (Some r) = refl

    at_stage : (s : BackStage) → ring.ask_at s now ≡ ring.ask_at s v
    at_stage stage.Loop = ap (ring.loop_ask now) reply_same ∙ loop_same (ring.next_reply v)
    at_stage s = refl

    ring_same : (b : BackView) (moves : Bool) → ring_ask moves (both now b) ≡ ring_ask moves (both v b)
    ring_same b true = at_stage v.stage
    ring_same b false = refl

    ask_same : (b : BackView) → ask_of (both now b) ≡ ask_of (both v b)
    ask_same b = ap (λ (a : BackAsk). if bus_moves (bus_ask_of (both v b)) v.stage then key_ask (bus_ask_of (both v b)) else a) (ring_same b (ring_moves (bus_ask_of (both v b)) v.stage))

    pub back_waits_so : (b : BackView) → is_waiting (both now b) ≡ is_waiting (both v b)
    back_waits_so b = ap ring.is_wait (ask_same b)

    pub back_idle_so : (b : BackView) → is_idle (both now b) ≡ is_idle (both v b)
    back_idle_so b =
        ap (λ (x : Bool). x && (ring.is_led v.stage || ring.is_idle now)) (back_waits_so b)
        ∙ (ap (λ (a : BackAsk). is_waiting (both v b) && (ring.is_led v.stage || (not (ring.is_led v.stage) && ring.is_wait a && length (moved v.jobs.works) == 0))) (at_stage v.stage)
        ∙ ap (λ (c : ℕ). is_waiting (both v b) && (ring.is_led v.stage || (not (ring.is_led v.stage) && ring.is_waiting v && c == 0))) (length-map v.jobs.works (job_moved h n)))
