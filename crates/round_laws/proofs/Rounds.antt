-- A round of words, and so many of them.
use Rattle.std.proofs.Common.{◌≡◌, ◌≢◌, ℕ, zero, suc, ◌<◌, Bool, true, false, not, ◌&&◌, List, [], ◌∷◌, ◌++◌, map, refl, sym, ap, ◌∙◌, subst, arith}
use Rattle.std.specs.Prelude.{Option, Some, None, IfSome, fold}
use Rattle.std.specs.List.{AllByRecursion}
use Rattle.blk_base.specs.declared.parts.End.TheVariants as end
use Rattle.xen_pages.specs.Pages.{word_of}
use Rattle.hypervisor.specs.Hypervisor.{Hypervisor}
use Rattle.hypervisor.specs.Act.{has_to_take}
use Rattle.blk_front.specs.Submit.{is_wait}
use Rattle.back_jobs.specs.declared.part.SectorPart.{SectorPart as JobPart}
use Rattle.back_jobs.specs.Work.{Work, step_of as step_of_job}
use Rattle.back_jobs.specs.Part.{values_at}
use Rattle.blk_back.specs.declared.stage.BackStage.{BackStage}
use Rattle.blk_back.specs.View as back_ring
use Rattle.blk_back.specs.View.{RingInfo}
use Rattle.blk_back.specs.Step.{next_job_of}
use Rattle.vbd_front.specs.View.{View}
use Rattle.vbd_front.specs.Ask.{is_waiting}
use Rattle.vbd_front.specs.Part.{steps_of}
use Rattle.vbd_back.specs.View.{View as Backend, both}
use Rattle.vbd_back.specs.Ask.{is_idle}
use Rattle.vbd_back.specs.Part.{entry_part, steps_of as back_steps}
use Rattle.vbd_model.specs.World.{World, frontend_of, backend_of, is_quiet}
use Rattle.vbd_model.specs.Happening.{Happening, FrontMoves, BackMoves}
use Rattle.vbd_model.specs.Kind.{AreAllJobs, IsRound, AreRounds, never, round_start}
use Rattle.vbd_model.proofs.Joining.{rounds_more}
use Rattle.round_laws.specs.Movers.{FrontWords, front_words, BackGoesOn, back_answers, front_answers, front_answers_to, front_writes, front_writes_to, part_of, frame_under, job_moved, job_answers, job_answers_to, job_writes_to, job_writes, jobs_write, FrontGoesOn, JobGoesOn, IsOutside}
use Rattle.round_laws.specs.AtOnce.{with_jobs, with_back, with_movers, front_moved, moved, AreOfWords, Passes, LeadThere}
use Rattle.round_laws.specs.Laws.{RoundsLeadThere}
use Rattle.round_laws.proofs.Frames.{job_less, AllFit, one_more, jobs_fit, jobs_keep, taken_apart}
use Rattle.round_laws.proofs.FrontWords.{next_word, word_asked}
use Rattle.round_laws.proofs.FrontReads.{front_passes}
use Rattle.round_laws.proofs.Passing.{passes_none, passes_on, passes_to}
use Rattle.round_laws.proofs.Jobs.{none_behind}
use Rattle.round_laws.proofs.Pass.{AllAgree, Agrees, all_pass, JobsPass}
use Rattle.round_laws.proofs.Alike.{back_idle_so}
use Rattle.round_laws.proofs.BackReads.{BackPasses, back_passes, StaysBusy, stays_busy}

-- each that goes on so long goes on for less
front_less : (n : ℕ) (w : World) (o : Option FrontWords) → FrontGoesOn (suc n) w o → FrontGoesOn n w o
front_less n w None goes = goes
front_less n w (Some p) goes = (let more = goes.0 in omega arith, goes.1, goes.2, goes.3)

back_less : (n : ℕ) (v : Backend) (h : Hypervisor) (o : Option JobPart) → BackGoesOn (suc n) v h o → BackGoesOn n v h o
back_less n v h None goes = goes
back_less n v h (Some p) goes = (let more = goes.0 in omega arith, goes.1, goes.2)

jobs_less : (n : ℕ) (v : back_ring.View) (works : List Work) → AllByRecursion (λ (t : Work). JobGoesOn (suc n) v t (part_of t)) works → AllByRecursion (λ (t : Work). JobGoesOn n v t (part_of t)) works
jobs_less n v [] goes = tt
jobs_less n v (t ∷ works) goes = (job_less n v t (part_of t) goes.0, jobs_less n v works goes.1)

less : (n : ℕ) (w : World) → AreOfWords (suc n) w → AreOfWords n w
less n w is = record {
  front_told = is.front_told;
  back_told = is.back_told;
  unhalted = is.unhalted;
  back = back_less n (backend_of w) w.rings.under (entry_part (backend_of w)) is.back;
  front = front_less n w (front_words (frontend_of w)) is.front;
  jobs = jobs_less n w.rings.back w.rings.back.jobs.works is.jobs;
  ordered = is.ordered;
  front_apart = is.front_apart;
  back_apart = is.back_apart;
  ends_apart = is.ends_apart;
  jobs_apart = is.jobs_apart;
}

-- no word moved
job_none : (h : Hypervisor) (t : Work) (o : Option JobPart) (pages : List ℕ) → job_writes h o (values_at t.stage t.words) 0 pages ≡ pages
job_none h t None pages = refl
job_none h t (Some p) pages = by_way p.writes
  where
    by_way : (b : Bool) → job_writes_to h p b (values_at t.stage t.words) 0 pages ≡ pages
    by_way true = refl
    by_way false = refl

jobs_none : (h : Hypervisor) (works : List Work) (pages : List ℕ) → jobs_write h 0 works pages ≡ pages
jobs_none h [] pages = refl
jobs_none h (t ∷ works) pages = ap (jobs_write h 0 works) (job_none h t (part_of t) pages) ∙ jobs_none h works pages

module _ (w : World) where
  abbrev h : Hypervisor
  h = w.rings.under

  abbrev works : List Work
  works = w.rings.back.jobs.works

  abbrev v : View
  v = frontend_of w

  abbrev at : View → List Work → List ℕ → World
  at f l pages = with_movers w f l pages

  -- the front's words leave other frames as they are
  front_keeps : (n : ℕ) (o : Option FrontWords) (other u : ℕ) → FrontGoesOn n w o → IfSome o (λ p. other ≢ p.frame) → u < 1024 → word_of (front_writes o n h.pages) other u ≡ word_of h.pages other u
  front_keeps n None other u goes apart short = refl
  front_keeps n (Some p) other u goes apart short = by_values p.values
    where
      by_values : (o : Option (List ℕ)) → word_of (front_writes_to p o n h.pages) other u ≡ word_of h.pages other u
      by_values (Some values) = taken_apart n values h.pages p.frame p.word other u (λ same. apart (sym same)) (let more = goes.0 in let within = goes.1 in omega arith) short
      by_values None = refl

  agree_at_first : (n : ℕ) (o : Option FrontWords) (l : List Work) → FrontGoesOn n w o → IfSome o (λ p. IsOutside h p.frame l) → AllAgree h (front_writes o n h.pages) l
  agree_at_first n o [] goes outside = tt
  agree_at_first n None (t ∷ l) goes outside = (each (part_of t), agree_at_first n None l goes tt)
    where
      each : (q : Option JobPart) → Agrees h h.pages q
      each None = tt
      each (Some q) = λ u short. refl
  agree_at_first n (Some p) (t ∷ l) goes outside = (each (part_of t) outside.0, agree_at_first n (Some p) l goes outside.1)
    where
      each : (q : Option JobPart) → IfSome q (λ x. frame_under h x ≢ p.frame) → Agrees h (front_writes (Some p) n h.pages) q
      each None apart = tt
      each (Some q) apart = λ u short. front_keeps n (Some p) (frame_under h q) u goes apart short

  -- and so do theirs and the jobs' with the ring's frame
  ring_agrees : (n m : ℕ) (o : Option FrontWords) (e : Option JobPart) → FrontGoesOn m w o → AllFit h n works → IfSome e (λ q. IsOutside h (frame_under h q) works) → IfSome e (λ q. IfSome o (λ p. p.frame ≢ frame_under h q))
      → Agrees h (jobs_write h n works (front_writes o m h.pages)) e
  ring_agrees n m o None goes fits outside apart = tt
  ring_agrees n m o (Some q) goes fits outside apart = λ u short.
      jobs_keep h n works (front_writes o m h.pages) (frame_under h q) u fits outside short ∙ front_keeps m o (frame_under h q) u goes (other_way o apart) short
    where
      other_way : (x : Option FrontWords) → IfSome x (λ p. p.frame ≢ frame_under h q) → IfSome x (λ p. frame_under h q ≢ p.frame)
      other_way None differ = tt
      other_way (Some p) differ = λ same. differ (sym same)

  -- a round
  record RoundPasses (n : ℕ) : Type 0 where
    pub history : List Happening
    pub is_round : IsRound (moved n w) history
    pub passes : Passes history (moved n w) (moved (suc n) w)

  round_passes : (n : ℕ) → AreOfWords (suc n) w → RoundPasses n
  round_passes n is =
      let o : Option FrontWords = front_words v in
      let e : Option JobPart = entry_part (backend_of w) in
      let l : List Work = map (job_moved h n) works in
      let goes = jobs_less n w.rings.back works is.jobs in
      let fits : AllFit h n works = jobs_fit n w.rings.back works h goes in
      let g : View = front_moved (suc n) w in
      let written : List ℕ = front_writes o (suc n) h.pages in
      let pages : List ℕ = jobs_write h n works written in
      let back : BackPasses w n g pages e =
      back_passes w n g pages e refl is.back (back_less n (backend_of w) h e is.back) is.unhalted is.back_told goes (ring_agrees n (suc n) o e is.front fits is.back_apart is.ends_apart) in
      let a : World = copying back.first.ring back.first.stage in
      let b : World = copying back.then.ring back.then.stage in
      let was : with_movers a (front_moved n w) l (jobs_write h n works (front_writes o n h.pages)) ≡ moved n w =
      ap (λ (x : Backend). with_movers (with_back w x.ring) (front_moved n w) l (jobs_write h n works (front_writes o n h.pages))) (sym back.first.is) in
      let will : with_movers b g (map (job_moved h (suc n)) works) (jobs_write h (suc n) works written) ≡ moved (suc n) w =
      ap (λ (x : Backend). with_movers (with_back w x.ring) g (map (job_moved h (suc n)) works) (jobs_write h (suc n) works written)) (sym back.then.is) in
      let front : Passes (FrontMoves ∷ []) (with_movers a (front_moved n w) l (jobs_write h n works (front_writes o n h.pages))) (with_movers a g l pages) = front_passes a n o refl is.front is.front_told l fits is.front_apart in
      let mid : World = with_movers b g l pages in
      let start : Passes round_start (moved n w) mid =
      subst (λ (x : World). Passes round_start x mid) was (passes_on (FrontMoves ∷ []) (BackMoves ∷ []) _ (with_movers a g l pages) mid front back.passes) in
      let jobs : JobsPass b g is.back_told is.unhalted n 0 [] works written =
      all_pass b g is.back_told is.unhalted n works 0 [] [] written refl (none_behind 0) is.ordered is.jobs is.jobs_apart (agree_at_first (suc n) o works is.front is.front_apart) in
      record {
        history = round_start ++ jobs.history;
        is_round = record {
          jobs = jobs.history;
          all = refl;
          are_jobs = subst (λ (m : World). AreAllJobs m jobs.history) (sym start.world)
              (record { to = jobs.to; each = jobs.each; last = subst (λ (m : World). next_job_of m.rings.back jobs.to ≡ None) (sym jobs.passes.world) jobs.last });
        };
        passes = passes_to (round_start ++ jobs.history) (moved n w) _ (moved (suc n) w) will (passes_on round_start jobs.history (moved n w) mid _ start jobs.passes);
      }
    where
      copying : RingInfo → BackStage → World
      copying ring stage = with_back w (record w.rings.back { ring = ring; stage = stage })

  -- all is quiet as it was
  front_asks_on : (n : ℕ) (p : FrontWords) → front_words v ≡ Some p → FrontGoesOn n w (Some p) → w.rings.front.told ≡ None → is_waiting (frontend_of (at (steps_of v (front_answers_to p p.values h.pages n)) works h.pages)) ≡ false
  front_asks_on n p is goes quiet =
      let next = next_word v goes.3 quiet h.pages p is n goes.0 in
      let f : View = steps_of v (front_answers_to p p.values h.pages n) in
      ap is_waiting (ap (λ x. record { ring = f.ring; bus = f.bus; news = x }) (sym next.news)) ∙ (ap is_wait next.asks ∙ by_values p.values)
    where
      by_values : (o : Option (List ℕ)) → is_wait (word_asked p o n) ≡ false
      by_values (Some values) = refl
      by_values None = refl

  front_zero : (p : FrontWords) (o : Option (List ℕ)) → steps_of v (front_answers_to p o h.pages 0) ≡ v
  front_zero p (Some values) = refl
  front_zero p None = refl

  front_zero_writes : (p : FrontWords) (o : Option (List ℕ)) → front_writes_to p o 0 h.pages ≡ h.pages
  front_zero_writes p (Some values) = refl
  front_zero_writes p None = refl

  front_quiet : (n : ℕ) (o : Option FrontWords) → front_words v ≡ o → FrontGoesOn n w o → w.rings.front.told ≡ None → is_waiting (frontend_of (at (steps_of v (front_answers o h.pages n)) works h.pages)) ≡ is_waiting v
  front_quiet n None is goes quiet = refl
  front_quiet n (Some p) is goes quiet =
      front_asks_on n p is goes quiet
      ∙ sym (ap (λ (f : View). is_waiting (frontend_of (at f works h.pages))) (sym (front_zero p p.values)) ∙ front_asks_on 0 p is (let more = goes.0 in omega arith, goes.1, goes.2, goes.3) quiet)

  back_quiet : (n : ℕ) → AreOfWords n w → is_idle (backend_of (moved n w)) ≡ is_idle (backend_of w)
  back_quiet n is =
      let busy : StaysBusy w n (entry_part (backend_of w)) = stays_busy w n (entry_part (backend_of w)) refl is.back in
      ap (λ (x : Backend). is_idle (both (with_jobs x.ring (map (job_moved h n) works)) w.back)) busy.copied.is
      ∙ (back_idle_so h n (record w.rings.back { ring = busy.copied.ring; stage = busy.copied.stage }) is.jobs w.back ∙ busy.idle)

  quiet_so : (n : ℕ) → AreOfWords n w → is_quiet (moved n w) ≡ is_quiet w
  quiet_so n is =
      ap (λ (b : Bool). b && is_idle (backend_of (moved n w)) && not (has_to_take h end.Front) && not (has_to_take h end.Back)) (front_quiet n (front_words v) refl is.front is.front_told)
      ∙ ap (λ (b : Bool). is_waiting v && b && not (has_to_take h end.Front) && not (has_to_take h end.Back)) (back_quiet n is)

  -- so many rounds
  moved_none : (o : Option FrontWords) (l : List Work) → l ≡ works → at (steps_of v (front_answers o h.pages 0)) l (jobs_write h 0 works (front_writes o 0 h.pages)) ≡ w
  moved_none o l same =
      ap (λ (x : List Work). at (steps_of v (front_answers o h.pages 0)) x (jobs_write h 0 works (front_writes o 0 h.pages))) same
      ∙ (ap (at (steps_of v (front_answers o h.pages 0)) works) (jobs_none h works (front_writes o 0 h.pages)) ∙ by_part o)
    where
      by_part : (x : Option FrontWords) → at (steps_of v (front_answers x h.pages 0)) works (front_writes x 0 h.pages) ≡ w
      by_part None = refl
      by_part (Some p) = ap (λ (f : View). at f works (front_writes_to p p.values 0 h.pages)) (front_zero p p.values) ∙ ap (at v works) (front_zero_writes p p.values)

  back_none : (o : Option JobPart) → with_movers (with_back w (let b : Backend = back_steps (backend_of w) (back_answers h o 0) in b.ring)) (front_moved 0 w) (map (job_moved h 0) works) (jobs_write h 0 works (front_writes (front_words v) 0 h.pages))
      ≡ at (front_moved 0 w) (map (job_moved h 0) works) (jobs_write h 0 works (front_writes (front_words v) 0 h.pages))
  back_none None = refl
  back_none (Some p) = refl

  job_zero : (t : Work) → job_moved h 0 t ≡ t
  job_zero t = by_part (part_of t)
    where
      by_way : (p : JobPart) (b : Bool) → fold step_of_job t (job_answers_to h p b 0) ≡ t
      by_way p true = refl
      by_way p false = refl

      by_part : (o : Option JobPart) → fold step_of_job t (job_answers h o 0) ≡ t
      by_part None = refl
      by_part (Some p) = by_way p p.writes

  jobs_zero : (l : List Work) → map (job_moved h 0) l ≡ l
  jobs_zero [] = refl
  jobs_zero (t ∷ l) = ap (λ (x : Work). x ∷ map (job_moved h 0) l) (job_zero t) ∙ ap (λ (x : List Work). t ∷ x) (jobs_zero l)

  lead : (n : ℕ) → AreOfWords n w → LeadThere n w
  lead zero is = record {
    history = [];
    rounds = refl;
    unquiet = λ busy. refl;
    still_quiet = quiet_so 0 is;
    passes = passes_none w (moved 0 w) (sym (back_none (entry_part (backend_of w)) ∙ moved_none (front_words v) (map (job_moved h 0) works) (jobs_zero works)));
  }
  lead (suc n) is =
      let before : AreOfWords n w = less n w is in
      let first : LeadThere n w = lead n before in
      let round : RoundPasses n = round_passes n is in
      record {
        history = first.history ++ round.history;
        rounds = subst (λ m. AreRounds never m w (first.history ++ round.history)) (one_more n) (rounds_more never n w (moved n w) first.history round.history refl first.rounds (sym first.passes.world) round.is_round);
        unquiet = λ busy. subst (λ m. AreRounds is_quiet m w (first.history ++ round.history)) (one_more n)
            (rounds_more is_quiet n w (moved n w) first.history round.history (first.still_quiet ∙ busy) (first.unquiet busy) (sym first.passes.world) round.is_round);
        still_quiet = quiet_so (suc n) is;
        passes = passes_on first.history round.history w (moved n w) (moved (suc n) w) first.passes round.passes;
      }

pub rounds_lead_there : RoundsLeadThere
rounds_lead_there n w is = lead w n is
