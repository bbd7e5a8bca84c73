-- A round's moves of the jobs: each job that moves words comes to one word more, and memory with it.
use Rattle.std.proofs.Common.{◌≡◌, ◌≢◌, ℕ, suc, ◌+◌, ◌<◌, Bool, true, false, ◌&&◌, if◌then◌else◌, List, [], ◌∷◌, ◌++◌, map, length, refl, sym, ap, ◌∙◌, subst, arith, append_assoc}
use Rattle.std.specs.Prelude.{Option, Some, None, IfSome, is_some, slice_index}
use Rattle.std.specs.List.{AllByRecursion}
use Rattle.blk_base.specs.declared.ask.BackAsk.{BackAsk}
use Rattle.blk_base.specs.declared.ask.BackAsk.TheVariants as ask
use Rattle.blk_base.specs.declared.ask.BackAnswer.{BackAnswer}
use Rattle.blk_base.specs.declared.ask.BackAnswer.TheVariants.{Done, Word}
use Rattle.blk_base.specs.declared.halt.Halt.{Halt}
use Rattle.blk_base.specs.declared.moves.BackMover.TheVariants.{Job as JobOf}
use Rattle.blk_io.specs.Disk.{DiskSeen}
use Rattle.schedule_text.specs.declared.line.Line.TheVariants.{Move}
use Rattle.xen_pages.specs.Pages.{word_of}
use Rattle.hypervisor.specs.Hypervisor.{Hypervisor}
use Rattle.hypervisor.specs.Act.{BackAct, Took, back_act, with_pages}
use Rattle.hypervisor.specs.Disk.{DiskDoes}
use Rattle.back_jobs.specs.declared.part.SectorPart.{SectorPart as JobPart}
use Rattle.back_jobs.specs.declared.effect.Effect.{Effect}
use Rattle.back_jobs.specs.Work.{Work, step_of}
use Rattle.back_jobs.specs.Jobs.{place_of, work_of, asked, waits_at, told_at, is_fresh_at, is_held_by, effect_of, next_in}
use Rattle.back_jobs.specs.Part.{values_at}
use Rattle.blk_back.specs.declared.told.BackTold.{BackTold}
use Rattle.blk_back.specs.Step.{job_ask_of, next_job_of, told_effect}
use Rattle.split_model.specs.World as rings
use Rattle.split_model.specs.Happening as ring
use Rattle.split_model.specs.Shown.{back_lines}
use Rattle.vbd_front.specs.View as front
use Rattle.vbd_model.specs.World.{World}
use Rattle.vbd_model.specs.Happening.{Happening, JobMoves}
use Rattle.vbd_model.specs.Kind.{AreEachJobs}
use Rattle.round_laws.specs.Movers.{part_of, frame_under, job_moved, job_writes_to, job_writes, jobs_write, JobGoesOn, IsOutside, AreApart, AreAbove}
use Rattle.round_laws.specs.AtOnce.{with_jobs, with_movers, Passes, IsMoveLine}
use Rattle.round_laws.proofs.Frames.{job_less, Fits, AllFit, job_fits, jobs_fit, job_keeps, jobs_keep, jobs_past, written_more}
use Rattle.round_laws.proofs.JobWords.{word_asked, word_answered, IsNext, next_word, IsLike, is_like, unmoved}
use Rattle.round_laws.proofs.Jobs.{IsBehind, one_behind, held_same, work_there, told_there, asked_there, next_there, next_none}
use Rattle.round_laws.proofs.Passing.{passes_one, passes_none, passes_on, passes_to}

-- on the frame of each of these jobs memory is as it was at first
abbrev pub Agrees : Hypervisor → List ℕ → Option JobPart → Type 0
Agrees h pages o = IfSome o (λ p. (u : ℕ) → u < 1024 → word_of pages (frame_under h p) u ≡ word_of h.pages (frame_under h p) u)

abbrev pub AllAgree : Hypervisor → List ℕ → List Work → Type 0
AllAgree h pages works = AllByRecursion (λ (t : Work). Agrees h pages (part_of t)) works

-- and stays so as another job writes
agrees_on : (h : Hypervisor) (n : ℕ) (o other : Option JobPart) (values pages : List ℕ) → Fits h n o → IfSome o (λ p. IfSome other (λ q. frame_under h q ≢ frame_under h p)) → Agrees h pages other → Agrees h (job_writes h o values n pages) other
agrees_on h n o None values pages fits apart agrees = tt
agrees_on h n None (Some q) values pages fits apart agrees = agrees
agrees_on h n (Some p) (Some q) values pages fits apart agrees = λ u short.
    job_keeps h n (Some p) values pages (frame_under h q) u fits (λ same. apart (sym same)) short ∙ agrees u short

outside_each : (h : Hypervisor) (o : Option JobPart) (t : Work) (works : List Work) → IfSome o (λ p. IsOutside h (frame_under h p) (t ∷ works))
    → IfSome o (λ p. IfSome (part_of t) (λ q. frame_under h q ≢ frame_under h p)) × IfSome o (λ p. IsOutside h (frame_under h p) works)
outside_each h None t works apart = (tt, tt)
outside_each h (Some p) t works apart = apart

pub agree_on : (h : Hypervisor) (n : ℕ) (o : Option JobPart) (values pages : List ℕ) (works : List Work) → Fits h n o → IfSome o (λ p. IsOutside h (frame_under h p) works) → AllAgree h pages works → AllAgree h (job_writes h o values n pages) works
agree_on h n o values pages [] fits apart agree = tt
agree_on h n o values pages (t ∷ works) fits apart agree =
    let each = outside_each h o t works apart in
    (agrees_on h n o (part_of t) values pages fits each.0 agree.0, agree_on h n o values pages works fits each.1 agree.1)

fits_less : (h : Hypervisor) (n : ℕ) (o : Option JobPart) → Fits h (suc n) o → Fits h n o
fits_less h n None fits = tt
fits_less h n (Some p) fits = omega arith

all_fit_less : (h : Hypervisor) (n : ℕ) (works : List Work) → AllFit h (suc n) works → AllFit h n works
all_fit_less h n [] fits = tt
all_fit_less h n (t ∷ works) fits = (fits_less h n (part_of t) fits.0, all_fit_less h n works fits.1)

-- the machine of these, with this front, these jobs and this memory, its back running and with nothing to tell
module _ (w : World) (f : front.View) (told : w.rings.back.told ≡ None) (runs : w.rings.back.halted ≡ None) where
  abbrev h : Hypervisor
  h = w.rings.under

  abbrev at : List Work → List ℕ → World
  at works pages = with_movers w f works pages

  asks_so : (works : List Work) (number : ℕ) → job_ask_of (with_jobs w.rings.back works) number ≡ asked (waits_at works (place_of works number) (work_of works number)) (work_of works number)
  asks_so works number = ap (λ (o : Option Halt). if is_some o then ask.Wait else asked (waits_at works (place_of works number) (work_of works number)) (work_of works number)) runs

  -- a job moves a word
  acts : (works now : List Work) (pages : List ℕ) (number : ℕ) (a : BackAct) → back_act (with_pages h pages) (JobOf number) (job_ask_of (with_jobs w.rings.back works) number) Took ≡ Some a
      → ((d : DiskSeen) → DiskDoes (job_ask_of (with_jobs w.rings.back works) number) Took d d)
      → told_at works (place_of works number) (work_of works number) a.answer ≡ now → effect_of (work_of works number) a.answer ≡ None
      → Passes (JobMoves number Took ∷ []) (at works pages) (record { rings = record { front = f.ring; back = with_jobs w.rings.back now; under = a.under }; front = f.bus; back = w.back })
  acts works now pages number a e disk stepped silent =
      passes_one (at works pages) _ (JobMoves number Took)
      (ap (λ (act : Option BackAct). over (ring.job_after (let m : World = at works pages in m.rings) number act)) e
      ∙ (ap (λ (l : List Work). over (record { front = f.ring; back = record (with_jobs w.rings.back l) { told = None }; under = a.under })) stepped
      ∙ ap (λ (t : Option BackTold). over (record { front = f.ring; back = record (with_jobs w.rings.back now) { told = t }; under = a.under })) (sym told)))
      (subst (AllByRecursion IsMoveLine)
      (sym (ap (λ (act : Option BackAct). ring.job_shows (let m : World = at works pages in m.rings) number act ++ []) e ∙ ap (λ (x : Option Effect). Move a.shown ∷ (back_lines (told_effect x) a.answer ++ [])) silent)) (tt, tt))
      (λ d. (d, disk d, refl))
    where
      over : rings.World → World
      over r = record { rings = r; front = f.bus; back = w.back }

  -- or none
  rests : (works : List Work) (pages : List ℕ) (number : ℕ) → job_ask_of (with_jobs w.rings.back works) number ≡ ask.Wait → Passes (JobMoves number Took ∷ []) (at works pages) (at works pages)
  rests works pages number waits =
      let e : back_act (with_pages h pages) (JobOf number) (job_ask_of (with_jobs w.rings.back works) number) Took ≡ None = ap (λ (a : BackAsk). back_act (with_pages h pages) (JobOf number) a Took) waits in
      passes_one (at works pages) (at works pages) (JobMoves number Took)
      (ap (λ (act : Option BackAct). over (ring.job_after (let m : World = at works pages in m.rings) number act)) e)
      (subst (AllByRecursion IsMoveLine) (sym (ap (λ (act : Option BackAct). ring.job_shows (let m : World = at works pages in m.rings) number act ++ []) e)) tt)
      (λ d. (d, subst (λ (a : BackAsk). DiskDoes a Took d d) (sym waits) refl, refl))
    where
      over : rings.World → World
      over r = record { rings = r; front = f.bus; back = w.back }

  -- the job after those that moved before it
  module _ (n from : ℕ) (before now : List Work) (t : Work) (ts : List Work) (behind : IsBehind from before now) (less : from < t.number) where
    abbrev u : Work
    u = job_moved h n t

    abbrev rest : List Work
    rest = map (job_moved h n) ts

    abbrev here : List Work
    here = now ++ u ∷ rest

    abbrev values : List ℕ
    values = values_at t.stage t.words

    -- it has words left
    module _ (p : JobPart) (like : IsLike t u) (next : IsNext h n t u p) (short : p.word + n < 1024) (fits : AllFit h n ts) (outside : IsOutside h (frame_under h p) ts) where
      below : from < u.number
      below = let same = like.number in omega (arith, same, less)

      asks : job_ask_of (with_jobs w.rings.back here) u.number ≡ word_asked p p.writes values n
      asks =
          asks_so here u.number
          ∙ (asked_there now u rest from behind.now_up_to below
          ∙ (ap (λ (b : Bool). asked (b && is_held_by now u) (Some u)) next.begun ∙ next.asks))

      stepped : (a : BackAnswer) → a ≡ word_answered h p p.writes n → told_at here (place_of here u.number) (work_of here u.number) a ≡ now ++ job_moved h (suc n) t ∷ rest
      stepped a is =
          told_there now u rest from behind.now_up_to below a
          ∙ ap (λ (x : Work). now ++ x ∷ rest) (ap (step_of u) is ∙ sym next.next)

      silent : (a : BackAnswer) → a ≡ word_answered h p p.writes n → effect_of (work_of here u.number) a ≡ None
      silent a is = ap (λ (o : Option Work). effect_of o a) (work_there now u rest from behind.now_up_to below) ∙ (ap (λ (x : BackAnswer). effect_of (Some u) x) is ∙ next.silent)

      writes_word : (pages : List ℕ) → p.writes ≡ true → n < length values
          → Passes (JobMoves u.number Took ∷ []) (at here (jobs_write h n ts (job_writes_to h p true values n pages)))
          (at (now ++ job_moved h (suc n) t ∷ rest) (jobs_write h n ts (job_writes_to h p true values (suc n) pages)))
      writes_word pages way within =
          let all : List ℕ = jobs_write h n ts (job_writes_to h p true values n pages) in
          let asked_so : job_ask_of (with_jobs w.rings.back here) u.number ≡ ask.Write p.mapping (p.word + n) (slice_index values n) = asks ∙ ap (λ (b : Bool). word_asked p b values n) way in
          let answer : Done ≡ word_answered h p p.writes n = ap (λ (b : Bool). word_answered h p b n) (sym way) in
          passes_to (JobMoves u.number Took ∷ []) (at here all) _ _
          (ap (λ (l : List ℕ). at (now ++ job_moved h (suc n) t ∷ rest) l)
          (jobs_past h n ts (job_writes_to h p true values n pages) (frame_under h p) (p.word + n) (slice_index values n) fits outside short ∙ ap (λ (l : List ℕ). jobs_write h n ts l) (sym (written_more n values pages (frame_under h p) p.word within))))
          (acts here (now ++ job_moved h (suc n) t ∷ rest) all u.number _
          (ap (λ (a : BackAsk). back_act (with_pages h all) (JobOf u.number) a Took) asked_so)
          (λ d. subst (λ (a : BackAsk). DiskDoes a Took d d) (sym asked_so) refl)
          (stepped Done answer) (silent Done answer))

      reads_word : (pages : List ℕ) → p.writes ≡ false → word_of pages (frame_under h p) (p.word + n) ≡ word_of h.pages (frame_under h p) (p.word + n)
          → Passes (JobMoves u.number Took ∷ []) (at here (jobs_write h n ts pages)) (at (now ++ job_moved h (suc n) t ∷ rest) (jobs_write h n ts pages))
      reads_word pages way agrees =
          let all : List ℕ = jobs_write h n ts pages in
          let asked_so : job_ask_of (with_jobs w.rings.back here) u.number ≡ ask.Read p.mapping (p.word + n) = asks ∙ ap (λ (b : Bool). word_asked p b values n) way in
          let answer : Word (word_of all (frame_under h p) (p.word + n)) ≡ word_answered h p p.writes n =
          ap Word (jobs_keep h n ts pages (frame_under h p) (p.word + n) fits outside short ∙ agrees) ∙ ap (λ (b : Bool). word_answered h p b n) (sym way) in
          acts here (now ++ job_moved h (suc n) t ∷ rest) all u.number _
          (ap (λ (a : BackAsk). back_act (with_pages h all) (JobOf u.number) a Took) asked_so)
          (λ d. subst (λ (a : BackAsk). DiskDoes a Took d d) (sym asked_so) refl)
          (stepped (Word (word_of all (frame_under h p) (p.word + n))) answer) (silent (Word (word_of all (frame_under h p) (p.word + n))) answer)

    -- it waits
    module _ (none : part_of t ≡ None) (whole : w.rings.back.jobs.works ≡ before ++ t ∷ ts) (waits : job_ask_of w.rings.back t.number ≡ ask.Wait) where
      same : u ≡ t
      same = unmoved h n t none

      waits_still : job_ask_of (with_jobs w.rings.back here) u.number ≡ ask.Wait
      waits_still =
          asks_so here u.number
          ∙ (asked_there now u rest from behind.now_up_to (subst (λ (x : Work). from < x.number) (sym same) less)
          ∙ (ap (λ (x : Work). asked (is_fresh_at x.stage x.moved && is_held_by now x) (Some x)) same
          ∙ (ap (λ (b : Bool). asked (is_fresh_at t.stage t.moved && b) (Some t)) (held_same from before now t behind)
          ∙ (sym (asked_there before t ts from behind.before_up_to less)
          ∙ (ap (λ (l : List Work). asked (waits_at l (place_of l t.number) (work_of l t.number)) (work_of l t.number)) (sym whole)
          ∙ (sym (asks_so w.rings.back.jobs.works t.number) ∙ waits))))))

      rests_here : (pages : List ℕ) → Passes (JobMoves u.number Took ∷ []) (at here pages) (at (now ++ job_moved h (suc n) t ∷ rest) pages)
      rests_here pages =
          passes_to (JobMoves u.number Took ∷ []) (at here pages) _ _ (ap (λ (x : Work). at (now ++ x ∷ rest) pages) (same ∙ sym (unmoved h (suc n) t none)))
          (rests here pages u.number waits_still)

    -- either
    one_job : (pages : List ℕ) (o : Option JobPart) → part_of t ≡ o → w.rings.back.jobs.works ≡ before ++ t ∷ ts → JobGoesOn (suc n) w.rings.back t o → IsLike t u
        → AllFit h n ts → IfSome o (λ p. IsOutside h (frame_under h p) ts) → Agrees h pages o
        → Passes (JobMoves u.number Took ∷ []) (at here (jobs_write h n ts (job_writes h o values n pages))) (at (now ++ job_moved h (suc n) t ∷ rest) (jobs_write h n ts (job_writes h o values (suc n) pages)))
    one_job pages None is whole goes like fits outside agrees = rests_here is whole goes (jobs_write h n ts pages)
    one_job pages (Some p) is whole goes like fits outside agrees = by_way p.writes refl
      where
        few : n < p.count
        few = let more = goes.0 in omega arith

        short : p.word + n < 1024
        short = let more = goes.0 in let within = goes.1 in omega arith

        by_way : (b : Bool) → p.writes ≡ b
            → Passes (JobMoves u.number Took ∷ []) (at here (jobs_write h n ts (job_writes_to h p b values n pages))) (at (now ++ job_moved h (suc n) t ∷ rest) (jobs_write h n ts (job_writes_to h p b values (suc n) pages)))
        by_way true way = writes_word p like (next_word h n t p is few) short fits outside pages way (let held = goes.2 way in omega (arith, held, few))
        by_way false way = reads_word p like (next_word h n t p is few) short fits outside pages way (agrees (p.word + n) short)

  -- moves of all that are left
  pub record JobsPass (n from : ℕ) (now ts : List Work) (pages : List ℕ) : Type 0 where
    pub history : List Happening
    pub to : ℕ
    pub each : AreEachJobs from to (at (now ++ map (job_moved h n) ts) (jobs_write h n ts pages)) history
    pub last : next_job_of (with_jobs w.rings.back (now ++ map (job_moved h (suc n)) ts)) to ≡ None
    pub passes : Passes history (at (now ++ map (job_moved h n) ts) (jobs_write h n ts pages)) (at (now ++ map (job_moved h (suc n)) ts) (jobs_write h (suc n) ts pages))

  pub all_pass : (n : ℕ) (ts : List Work) (from : ℕ) (before now : List Work) (pages : List ℕ) → w.rings.back.jobs.works ≡ before ++ ts → IsBehind from before now → AreAbove from ts
      → AllByRecursion (λ (t : Work). JobGoesOn (suc n) w.rings.back t (part_of t)) ts → AreApart h ts → AllAgree h pages ts → JobsPass n from now ts pages
  all_pass n [] from before now pages whole behind above goes apart agree = record {
    history = [];
    to = from;
    each = refl;
    last = ap (λ (o : Option Halt). if is_some o then None else next_in (now ++ []) from) runs ∙ next_none now from behind.now_up_to;
    passes = passes_none (at (now ++ []) pages) (at (now ++ []) pages) refl;
  }
  all_pass n (t ∷ ts) from before now pages whole behind above goes apart agree =
      let one : Work = job_moved h n t in
      let two : Work = job_moved h (suc n) t in
      let written : List ℕ = job_writes h (part_of t) (values_at t.stage t.words) (suc n) pages in
      let like_one : IsLike t one = is_like h n w.rings.back t (job_less n w.rings.back t (part_of t) goes.0) in
      let like_two : IsLike t two = is_like h (suc n) w.rings.back t goes.0 in
      let fits : AllFit h (suc n) ts = jobs_fit (suc n) w.rings.back ts h goes.1 in
      let step = one_job n from before now t ts behind above.0 pages (part_of t) refl whole goes.0 like_one (all_fit_less h n ts fits) apart.0 agree.0 in
      let number : one.number ≡ t.number = like_one.number in
      let later : JobsPass n one.number (now ++ two ∷ []) ts written =
      all_pass n ts one.number (before ++ t ∷ []) (now ++ two ∷ []) written (whole ∙ sym (append_assoc before (t ∷ []) ts))
      (one_behind from one.number before now t two above.0 number like_two behind) (subst (λ k. AreAbove k ts) (sym number) above.1) goes.1 apart.1
      (agree_on h (suc n) (part_of t) (values_at t.stage t.words) pages ts (job_fits (suc n) w.rings.back t (part_of t) h goes.0) apart.0 agree.1) in
      let joined : (xs : List Work) → (now ++ two ∷ []) ++ xs ≡ now ++ two ∷ xs = λ xs. append_assoc now (two ∷ []) xs in
      let start : World = at (now ++ one ∷ map (job_moved h n) ts) (jobs_write h n (t ∷ ts) pages) in
      let mid : World = at ((now ++ two ∷ []) ++ map (job_moved h n) ts) (jobs_write h n ts written) in
      let first : Passes (JobMoves one.number Took ∷ []) start mid = passes_to _ start _ mid (ap (λ (l : List Work). at l (jobs_write h n ts written)) (sym (joined (map (job_moved h n) ts)))) step in
      record {
        history = JobMoves one.number Took ∷ later.history;
        to = later.to;
        each = (
          one.number,
          Took,
          refl,
          tt,
          ap (λ (o : Option Halt). if is_some o then None else next_in (now ++ one ∷ map (job_moved h n) ts) from) runs ∙ next_there now one (map (job_moved h n) ts) from behind.now_up_to (omega (arith, number, above.0)),
          subst (λ (v : World). AreEachJobs one.number later.to v later.history) (sym first.world) later.each,
        );
        last = subst (λ (l : List Work). next_job_of (with_jobs w.rings.back l) later.to ≡ None) (joined (map (job_moved h (suc n)) ts)) later.last;
        passes = passes_on (JobMoves one.number Took ∷ []) later.history start mid _ first
            (subst (λ (l : List Work). Passes later.history mid (at l (jobs_write h (suc n) ts written))) (joined (map (job_moved h (suc n)) ts)) later.passes);
      }
