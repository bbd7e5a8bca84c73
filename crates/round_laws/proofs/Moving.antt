-- The jobs, one after another by number, are told so many words of their sectors at once.
use Rattle.std.proofs.Common.{◌≡◌, ℕ, zero, suc, ◌+◌, ◌<◌, ◌≤◌, Bool, true, false, ◌&&◌, if◌then◌else◌, List, [], ◌∷◌, ◌++◌, map, refl, sym, ap, ◌∙◌, subst, arith, append_assoc}
use Rattle.std.specs.Prelude.{Option, Some, None, IfSome, is_some}
use Rattle.std.specs.List.{AllByRecursion}
use Rattle.std.proofs.lemmas.Option.{none-some, same_Some}
use Rattle.std.proofs.lemmas.List.{append-nil, map-append}
use Rattle.std.proofs.Math.Seq.{take-append_seam}
use Rattle.blk_base.specs.declared.ask.BackAnswer.{BackAnswer}
use Rattle.blk_base.specs.declared.halt.Halt.{Halt}
use Rattle.persist_grants.specs.KeptMappings.{may_keep}
use Rattle.xen_pages.specs.Pages.{word_of, words_of}
use Rattle.hypervisor.specs.Hypervisor.{Hypervisor}
use Rattle.hypervisor.specs.Act.{with_pages}
use Rattle.back_jobs.specs.declared.part.SectorPart.{SectorPart as JobPart}
use Rattle.back_jobs.specs.Work.{Work}
use Rattle.back_jobs.specs.Jobs.{place_of, is_held_by, next_in}
use Rattle.back_jobs.specs.Keeping.{is_fresh_in, waits_in}
use Rattle.back_jobs.specs.Part.{part_in, part_of as held_part, part_values, values_at, values_in, words_read}
use Rattle.blk_back.specs.View.{View}
use Rattle.blk_back.specs.Step.{next_job_of}
use Rattle.blk_back.specs.Part.{job_part, job_values, job_steps}
use Rattle.vbd_back.specs.View.{View as Backend, both}
use Rattle.vbd_back.specs.Step.{job_step}
use Rattle.vbd_back.specs.Part as backend_part
use Rattle.round_laws.specs.Movers.{part_of, frame_under, job_answers, job_answers_to, job_moved, job_writes, job_writes_to, jobs_write, JobGoesOn, AreApart, AreAbove}
use Rattle.round_laws.specs.AtOnce.{with_jobs}
use Rattle.round_laws.specs.Calls.{AskForTheirs, JobsMayMove}
use Rattle.round_laws.proofs.Frames.{Fits, job_fits}
use Rattle.round_laws.proofs.JobWords.{is_like, unmoved}
use Rattle.round_laws.proofs.Jobs.{AreUpTo, IsBehind, none_behind, one_behind, held_same, place_there, work_there, next_there, next_none}
use Rattle.round_laws.proofs.Pass.{Agrees, AllAgree, agree_on}
use Rattle.round_laws.proofs.Telling.{told_words}

-- the jobs before these have moved: this is the back, and this memory
pub record HaveMoved (n : ℕ) (h : Hypervisor) (v : View) (last : ℕ) (b : View) (pages : List ℕ) (before ts : List Work) : Type 0 where
  pub whole : v.jobs.works ≡ before ++ ts
  pub behind : IsBehind last before (map (job_moved h n) before)
  pub above : AreAbove last ts
  pub back : b ≡ with_jobs v (map (job_moved h n) before ++ ts)
  pub memory : jobs_write h n ts pages ≡ jobs_write h n v.jobs.works h.pages
  pub agree : AllAgree h pages ts
  pub apart : AreApart h ts
  pub goes : AllByRecursion (λ (t : Work). JobGoesOn n v t (part_of t)) ts
  pub parts : AskForTheirs v ts

-- at first none has
agree_first : (h : Hypervisor) (works : List Work) → AllAgree h h.pages works
agree_first h [] = tt
agree_first h (t ∷ works) = (each (part_of t), agree_first h works)
  where
    each : (o : Option JobPart) → Agrees h h.pages o
    each None = tt
    each (Some p) = λ u short. refl

pub none_moved : (n : ℕ) (h : Hypervisor) (v : View) → JobsMayMove n h v → HaveMoved n h v 0 v h.pages [] v.jobs.works
none_moved n h v may = record {
  whole = refl;
  behind = none_behind 0;
  above = may.ordered;
  back = refl;
  memory = refl;
  agree = agree_first h v.jobs.works;
  apart = may.apart;
  goes = may.jobs;
  parts = may.parts;
}

-- what a job reads is what memory held at first
pub words_agree : (pages others : List ℕ) (frame word n : ℕ) → word + n ≤ 1024 → ((u : ℕ) → u < 1024 → word_of pages frame u ≡ word_of others frame u) → words_of pages frame word n ≡ words_of others frame word n
words_agree pages others frame word zero within same = refl
words_agree pages others frame word (suc n) within same =
    ap (λ (x : ℕ). x ∷ words_of pages frame (word + 1) n) (same word (omega arith)) ∙ ap (λ (l : List ℕ). word_of others frame word ∷ l) (words_agree pages others frame (word + 1) n (omega arith) same)

module _ (n : ℕ) (h : Hypervisor) (pages : List ℕ) where
  answers_same : (o : Option JobPart) → Fits h n o → Agrees h pages o → job_answers (with_pages h pages) o n ≡ job_answers h o n
  answers_same None fits agrees = refl
  answers_same (Some p) fits agrees = by_way p.writes
    where
      by_way : (b : Bool) → job_answers_to (with_pages h pages) p b n ≡ job_answers_to h p b n
      by_way true = refl
      by_way false = ap words_read (words_agree pages h.pages (frame_under h p) p.word n fits agrees)

  writes_same : (o : Option JobPart) (values : List ℕ) → job_writes (with_pages h pages) o values n pages ≡ job_writes h o values n pages
  writes_same None values = refl
  writes_same (Some p) values = by_way p.writes
    where
      by_way : (b : Bool) → job_writes_to (with_pages h pages) p b values n pages ≡ job_writes_to h p b values n pages
      by_way true = refl
      by_way false = refl

module _ (n : ℕ) (h : Hypervisor) (v : View) (runs : v.halted ≡ None) (quiet : v.told ≡ None) where
  abbrev moved : List Work → List Work
  moved works = map (job_moved h n) works

  next_so : (works : List Work) (last : ℕ) → next_job_of (with_jobs v works) last ≡ next_in works last
  next_so works last = ap (λ (o : Option Halt). if is_some o then None else next_in works last) runs

  -- what a job asks for, by what stands before it
  part_so : (pre : List Work) (t : Work) (post : List Work) (from : ℕ) → AreUpTo from pre → from < t.number
      → job_part (with_jobs v (pre ++ t ∷ post)) t.number ≡ part_in (is_fresh_in (may_keep v.jobs.kept) t && is_held_by pre t) (Some t)
  part_so pre t post from low less =
      let keeps : Bool = may_keep v.jobs.kept in
      let works : List Work = pre ++ t ∷ post in
      ap (λ (o : Option Halt). if is_some o then None else held_part (let x : View = with_jobs v works in x.jobs) t.number) runs
      ∙ (ap (λ (o : Option Work). part_in (waits_in keeps works (place_of works t.number) o) o) (work_there pre t post from low less)
      ∙ (ap (λ (o : Option ℕ). part_in (waits_in keeps works o (Some t)) (Some t)) (place_there pre t post from low less)
      ∙ ap (λ (l : List Work). part_in (is_fresh_in keeps t && is_held_by l t) (Some t)) (take-append_seam pre (t ∷ post))))

  values_so : (pre : List Work) (t : Work) (post : List Work) (from : ℕ) → AreUpTo from pre → from < t.number → job_values (with_jobs v (pre ++ t ∷ post)) t.number ≡ values_at t.stage t.words
  values_so pre t post from low less =
      ap (λ (o : Option Halt). if is_some o then [] else part_values (let x : View = with_jobs v (pre ++ t ∷ post) in x.jobs) t.number) runs
      ∙ ap values_in (work_there pre t post from low less)

  module _ (last : ℕ) (b : View) (pages : List ℕ) (before : List Work) (t : Work) (later : List Work) (m : HaveMoved n h v last b pages before (t ∷ later)) where
    abbrev here : View
    here = with_jobs v (moved before ++ t ∷ later)

    less : last < t.number
    less = m.above.0

    first_so : next_job_of v last ≡ Some t.number
    first_so =
        ap (λ (l : List Work). next_job_of (with_jobs v l) last) m.whole
        ∙ (next_so (before ++ t ∷ later) last ∙ next_there before t later last m.behind.before_up_to less)

    next_is : next_job_of b last ≡ Some t.number
    next_is =
        ap (λ (x : View). next_job_of x last) m.back
        ∙ (next_so (moved before ++ t ∷ later) last ∙ next_there (moved before) t later last m.behind.now_up_to less)

    part_here : job_part b t.number ≡ part_of t
    part_here =
        ap (λ (x : View). job_part x t.number) m.back
        ∙ (part_so (moved before) t later last m.behind.now_up_to less
        ∙ (ap (λ (c : Bool). part_in (is_fresh_in (may_keep v.jobs.kept) t && c) (Some t)) (held_same last before (moved before) t m.behind)
        ∙ (sym (part_so before t later last m.behind.before_up_to less)
        ∙ (ap (λ (l : List Work). job_part (with_jobs v l) t.number) (sym m.whole) ∙ m.parts.0))))

    values_here : job_values b t.number ≡ values_at t.stage t.words
    values_here = ap (λ (x : View). job_values x t.number) m.back ∙ values_so (moved before) t later last m.behind.now_up_to less

    steps_so : (o : Option JobPart) → part_of t ≡ o → JobGoesOn n v t o → job_steps here t.number (job_answers h o n) ≡ with_jobs v (moved before ++ job_moved h n t ∷ later)
    steps_so None is goes = ap (λ (x : Work). with_jobs v (moved before ++ x ∷ later)) (sym (unmoved h n t is))
    steps_so (Some p) is goes =
        told_words h here quiet (moved before) t later last m.behind.now_up_to less refl p is n (let few = goes.0 in omega arith)

    abbrev written : List ℕ
    written = job_writes h (part_of t) (values_at t.stage t.words) n pages

    -- it moves its words
    moved_on : HaveMoved n h v t.number (with_jobs v (moved before ++ job_moved h n t ∷ later)) written (before ++ t ∷ []) later
    moved_on =
        let all : moved (before ++ t ∷ []) ≡ moved before ++ job_moved h n t ∷ [] = map-append (job_moved h n) before (t ∷ []) in
        record {
          whole = m.whole ∙ sym (append_assoc before (t ∷ []) later);
          behind = subst (IsBehind t.number (before ++ t ∷ [])) (sym all) (one_behind last t.number before (moved before) t (job_moved h n t) less refl (is_like h n v t m.goes.0) m.behind);
          above = m.above.1;
          back = ap (with_jobs v) (sym (ap (λ (l : List Work). l ++ later) all ∙ append_assoc (moved before) (job_moved h n t ∷ []) later));
          memory = m.memory;
          agree = agree_on h n (part_of t) (values_at t.stage t.words) pages later (job_fits n v t (part_of t) h m.goes.0) m.apart.0 m.agree.1;
          apart = m.apart.1;
          goes = m.goes.1;
          parts = m.parts.1;
        }

-- the back and its memory after the jobs up to this number
pub record Moved (n : ℕ) (h : Hypervisor) (v : View) (last : ℕ) (b : View) (u : Hypervisor) : Type 0 where
  pub before : List Work
  pub ts : List Work
  pub jobs : HaveMoved n h v last b u.pages before ts
  pub under : u ≡ with_pages h u.pages

pub moved_none : (n : ℕ) (h : Hypervisor) (v : View) → JobsMayMove n h v → Moved n h v 0 v h
moved_none n h v may = record { before = []; ts = v.jobs.works; jobs = none_moved n h v may; under = refl }

-- the next job: what it asks for, and what its words make of both
pub record IsNextJob (n : ℕ) (h : Hypervisor) (v : View) (last : ℕ) (b : View) (u : Hypervisor) (number : ℕ) : Type 0 where
  pub first : next_job_of v last ≡ Some number
  pub few : IfSome (job_part b number) (λ p. n ≤ p.count)
  pub told : b.told ≡ None
  pub on : (c : View) (x : Hypervisor) → c ≡ job_steps b number (job_answers u (job_part b number) n) → x ≡ with_pages u (job_writes u (job_part b number) (job_values b number) n u.pages) → Moved n h v number c x

pub next_job : (n : ℕ) (h : Hypervisor) (v : View) (last : ℕ) (b : View) (u : Hypervisor) (number : ℕ) → v.halted ≡ None → v.told ≡ None → Moved n h v last b u → next_job_of b last ≡ Some number → IsNextJob n h v last b u number
next_job n h v last b u number runs quiet m next = by_rest m.before m.ts m.jobs
  where
    part_few : (t : Work) (o : Option JobPart) → JobGoesOn n v t o → IfSome o (λ p. n ≤ p.count)
    part_few t None goes = tt
    part_few t (Some p) goes = let few = goes.0 in omega arith

    on_so : (before : List Work) (t : Work) (later : List Work) → HaveMoved n h v last b u.pages before (t ∷ later) → (c : View) (x : Hypervisor)
        → c ≡ job_steps b t.number (job_answers u (job_part b t.number) n) → x ≡ with_pages u (job_writes u (job_part b t.number) (job_values b t.number) n u.pages) → Moved n h v t.number c x
    on_so before t later j c x stepped wrote =
        let part : job_part b t.number ≡ part_of t = part_here n h v runs quiet last b u.pages before t later j in
        let values : job_values b t.number ≡ values_at t.stage t.words = values_here n h v runs quiet last b u.pages before t later j in
        let answers : job_answers u (job_part b t.number) n ≡ job_answers h (part_of t) n =
        ap (λ (o : Option JobPart). job_answers u o n) part
        ∙ (ap (λ (y : Hypervisor). job_answers y (part_of t) n) m.under ∙ answers_same n h u.pages (part_of t) (job_fits n v t (part_of t) h j.goes.0) j.agree.0) in
        let writes : job_writes u (job_part b t.number) (job_values b t.number) n u.pages ≡ job_writes h (part_of t) (values_at t.stage t.words) n u.pages =
        ap (λ (o : Option JobPart). job_writes u o (job_values b t.number) n u.pages) part
        ∙ (ap (λ (l : List ℕ). job_writes u (part_of t) l n u.pages) values
        ∙ (ap (λ (y : Hypervisor). job_writes y (part_of t) (values_at t.stage t.words) n u.pages) m.under ∙ writes_same n h u.pages (part_of t) (values_at t.stage t.words))) in
        let there : c ≡ with_jobs v (map (job_moved h n) before ++ job_moved h n t ∷ later) =
        stepped
        ∙ (ap (λ (a : List BackAnswer). job_steps b t.number a) answers
        ∙ (ap (λ (y : View). job_steps y t.number (job_answers h (part_of t) n)) j.back
        ∙ steps_so n h v runs quiet last b u.pages before t later j (part_of t) refl j.goes.0)) in
        let memory : x ≡ with_pages h (job_writes h (part_of t) (values_at t.stage t.words) n u.pages) =
        wrote ∙ (ap (with_pages u) writes ∙ ap (λ (y : Hypervisor). with_pages y (job_writes h (part_of t) (values_at t.stage t.words) n u.pages)) m.under) in
        let same : x.pages ≡ job_writes h (part_of t) (values_at t.stage t.words) n u.pages = ap (λ (y : Hypervisor). y.pages) memory in
        record {
          before = before ++ t ∷ [];
          ts = later;
          jobs = subst (λ (y : View). HaveMoved n h v t.number y x.pages (before ++ t ∷ []) later) (sym there)
              (subst (λ (l : List ℕ). HaveMoved n h v t.number (with_jobs v (map (job_moved h n) before ++ job_moved h n t ∷ later)) l (before ++ t ∷ []) later) (sym same)
              (moved_on n h v runs quiet last b u.pages before t later j));
          under = memory ∙ ap (with_pages h) (sym same);
        }

    by_rest : (before ts : List Work) → HaveMoved n h v last b u.pages before ts → IsNextJob n h v last b u number
    by_rest before [] j =
        absurd (none-some number (sym (ap (λ (x : View). next_job_of x last) j.back ∙ (next_so n h v runs quiet (map (job_moved h n) before ++ []) last ∙ next_none (map (job_moved h n) before) last j.behind.now_up_to)) ∙ next))
    by_rest before (t ∷ later) j =
        let is : t.number ≡ number = same_Some t.number number (sym (next_is n h v runs quiet last b u.pages before t later j) ∙ next) in
        let part : job_part b t.number ≡ part_of t = part_here n h v runs quiet last b u.pages before t later j in
        subst (IsNextJob n h v last b u) is
        (record {
          first = first_so n h v runs quiet last b u.pages before t later j;
          few = subst (λ (o : Option JobPart). IfSome o (λ p. n ≤ p.count)) (sym part) (part_few t (part_of t) j.goes.0);
          told = ap (λ (x : View). x.told) j.back ∙ quiet;
          on = on_so before t later j;
        })

-- all have moved
pub record AllMoved (n : ℕ) (h : Hypervisor) (v b : View) (u : Hypervisor) : Type 0 where
  pub back : b ≡ with_jobs v (map (job_moved h n) v.jobs.works)
  pub under : u ≡ with_pages h (jobs_write h n v.jobs.works h.pages)

pub all_moved : (n : ℕ) (h : Hypervisor) (v : View) (last : ℕ) (b : View) (u : Hypervisor) → v.halted ≡ None → v.told ≡ None → Moved n h v last b u → next_job_of b last ≡ None → AllMoved n h v b u
all_moved n h v last b u runs quiet m none = by_rest m.before m.ts m.jobs
  where
    by_rest : (before ts : List Work) → HaveMoved n h v last b u.pages before ts → AllMoved n h v b u
    by_rest before [] j =
        let all : before ≡ v.jobs.works = sym (append-nil before) ∙ sym j.whole in
        record {
          back = j.back ∙ ap (with_jobs v) (append-nil (map (job_moved h n) before) ∙ ap (λ (l : List Work). map (job_moved h n) l) all);
          under = m.under ∙ ap (with_pages h) j.memory;
        }
    by_rest before (t ∷ later) j = absurd (none-some t.number (sym none ∙ next_is n h v runs quiet last b u.pages before t later j))

-- many answers to a job are to its end of the ring
pub ring_steps : (number : ℕ) (answers : List BackAnswer) (v : Backend) → backend_part.job_steps v number answers ≡ both (job_steps v.ring number answers) v.bus
ring_steps number [] v = refl
ring_steps number (a ∷ answers) v = ring_steps number answers (job_step v number a)
