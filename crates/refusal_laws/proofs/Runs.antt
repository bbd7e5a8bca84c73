-- Every report of the ring's machine answers each submission by the first rule that applies, whatever happens.
use Rattle.std.proofs.Common.{◌≡◌, ℕ, ◌+◌, ◌≤◌, Bool, false, true≢false, cond, List, [], ◌∷◌, ◌++◌, length, refl, ap, sym, ◌∙◌, subst, append_assoc, append-nil, arith}
use Rattle.std.specs.Prelude.{Option, Some, None, Result, Ok, Err, fold, slice_get, IsSomeAnd}
use Rattle.std.specs.List.{AllByRecursion}
use Rattle.std.proofs.lemmas.List.Sums.{fold-append, sum_by-append, sum_by-cons}
use Rattle.std.proofs.lemmas.Option.{none-some}
use Rattle.blk_base.specs.Options.{Options}
use Rattle.blk_base.specs.declared.config.Submission.{Submission}
use Rattle.schedule_text.specs.declared.line.Detail.{Detail}
use Rattle.schedule_text.specs.declared.line.Line.{Line}
use Rattle.schedule_text.specs.declared.line.Line.TheVariants as lines
use Rattle.plain_disk.specs.declared.request.DiskRequest.{DiskRequest}
use Rattle.plain_disk.specs.declared.sight.Sight.{Sight}
use Rattle.plain_disk.specs.Refusal.{nothing_seen, seen}
use Rattle.report_rules.proofs.Obeys.{obeys_none, obeys_more}
use Rattle.pipeline_laws.specs.Submissions.{answers_submission, answer_count}
use Rattle.hypervisor.specs.Act.{FrontAct, BackAct, Took}
use Rattle.blk_front.specs.declared.state.FrontState.{FrontState}
use Rattle.blk_front.specs.declared.state.FrontState.TheVariants as state
use Rattle.blk_base.specs.declared.refusal.Refusal.{Refusal}
use Rattle.blk_front.specs.View.{View}
use Rattle.blk_front.specs.Step.{step_of}
use Rattle.blk_front.specs.Submit.{submit_of}
use Rattle.split_model.specs.World.{World, start_of}
use Rattle.split_model.specs.Safe.{IsSafe}
use Rattle.split_model.specs.Shown.{front_lines}
use Rattle.split_model.specs.Happening.{Happening, FrontMoves, BackMoves, JobMoves, FrontEnters, Submits, Suspends, happens, lines_at, lines_of, front_after, front_shows, back_after, job_after, front_turn, back_turn, job_turn, submit_line, enter_lines}
use Rattle.split_model.proofs.Showing.{MayShow, lines_are, front_are}
use Rattle.split_model.specs.Report.{report_of}
use Rattle.split_model.proofs.Safe.{safe_start, safe_happens}
use Rattle.split_model.proofs.States.{enters_cases}
use Rattle.split_model.proofs.Suspending.{suspend_cases}
use Rattle.machine_pipeline.specs.Allowed.{IsPossible, ArePossible}
use Rattle.machine_pipeline.specs.Submissions.{submitted_of}
use Rattle.machine_pipeline.proofs.Refusing.{answer_of}
use Rattle.machine_pipeline.proofs.StartingHolds.{empty_pooled}
use Rattle.machine_pipeline.proofs.Growing.{longer}
use Rattle.refusal_laws.specs.Ruled.{asked_step, asked_by, ruled_of, IsRuledAt, AreRuled}
use Rattle.refusal_laws.proofs.Stands.{Keeps}
use Rattle.refusal_laws.proofs.Steps.{step_goes}
use Rattle.refusal_laws.proofs.Enters.{IsMeant, enters_goes, suspends_goes}
use Rattle.refusal_laws.proofs.Submits.{ruled, submit_goes}
use Rattle.refusal_laws.proofs.Serves.{IsServing, AreServing}
use Rattle.vbd_laws.proofs.StateLinesOver.{back_stays, job_stays}

-- a line that answers no submission
abbrev AreFree : List Line → Type 0
AreFree ls = AllByRecursion (λ (line : Line). answers_submission line ≡ false) ls

one_free : (submissions : List Submission) (before : List Line) (line : Line) → answers_submission line ≡ false → IsRuledAt submissions before line
one_free submissions before (lines.Submit id submission) free = absurd (true≢false free)
one_free submissions before (lines.Refuse refusal) free = absurd (true≢false free)
one_free submissions before line free = tt

free_ruled : (submissions : List Submission) (ls before : List Line) → AreFree ls → AreRuled submissions before → AreRuled submissions (before ++ ls)
free_ruled submissions [] before all are = subst (AreRuled submissions) (sym (append-nil before)) are
free_ruled submissions (line ∷ ls) before all are =
    subst (AreRuled submissions) (append_assoc before (line ∷ []) ls)
    (free_ruled submissions ls (before ++ line ∷ []) all.1 (obeys_more (IsRuledAt submissions) before line are (one_free submissions before line all.0)))

free_count : (ls : List Line) → AreFree ls → answer_count ls ≡ 0
free_count [] all = refl
free_count (line ∷ ls) all =
    let one = sum_by-cons (λ (l : Line). cond (answers_submission l) 1 0) line ls in
    let here : ◌≡◌ {A = ℕ} (cond (answers_submission line) 1 0) 0 = ap (λ (b : Bool). cond b 1 0) all.0 in
    let rest = free_count ls all.1 in
    omega arith

count_more : (before ls : List Line) → answer_count (before ++ ls) ≡ answer_count before + answer_count ls
count_more before ls = sum_by-append (λ (l : Line). cond (answers_submission l) 1 0) before ls

-- one that says nothing of the front, and of no request either
record IsAsideLine (line : Line) : Type 0 where
  seen_same : (s : Sight) → seen s line ≡ s
  asked_same : (asked : List DiskRequest) → asked_step asked line ≡ asked
  unanswered : answers_submission line ≡ false

abbrev AreAside : List Line → Type 0
AreAside ls = AllByRecursion IsAsideLine ls

aside_seen : (ls : List Line) (s : Sight) → AreAside ls → fold seen s ls ≡ s
aside_seen [] s all = refl
aside_seen (line ∷ ls) s all = aside_seen ls (seen s line) all.1 ∙ all.0.seen_same s

aside_asked : (ls : List Line) (asked : List DiskRequest) → AreAside ls → fold asked_step asked ls ≡ asked
aside_asked [] asked all = refl
aside_asked (line ∷ ls) asked all = aside_asked ls (asked_step asked line) all.1 ∙ all.0.asked_same asked

aside_free : (ls : List Line) → AreAside ls → AreFree ls
aside_free [] all = tt
aside_free (line ∷ ls) all = (all.0.unanswered, aside_free ls all.1)

-- only the line of a submission answers one
abbrev IsNoSubmission : Happening → Type 0
IsNoSubmission (Submits submission) = ⊥
IsNoSubmission h = Unit {0}

unanswered : (h : Happening) (line : Line) → IsNoSubmission h → MayShow h line → answers_submission line ≡ false
unanswered (Submits submission) line other shows = absurd other
unanswered h (lines.Submit id submission) other shows = absurd shows
unanswered h (lines.Refuse refusal) other shows = absurd shows
unanswered h line other shows = refl

free_at : (w : World) (h : Happening) → IsNoSubmission h → AreFree (lines_at w h)
free_at w h other = lines_are (λ (line : Line). answers_submission line ≡ false) w h (λ line shows. unanswered h line other shows)

-- what happens aside of the front: neither a move of it, a state that it enters, a submission, nor a suspend
abbrev IsAside : Happening → Type 0
IsAside FrontMoves = ⊥
IsAside (FrontEnters s) = ⊥
IsAside (Submits submission) = ⊥
IsAside Suspends = ⊥
IsAside h = Unit {0}

one_aside : (h : Happening) (line : Line) → IsAside h → MayShow h line → IsAsideLine line
one_aside FrontMoves line aside shows = absurd aside
one_aside h (lines.Begin config detail) aside shows = absurd (assumption)
one_aside h lines.Ready aside shows = absurd (assumption)
one_aside h lines.Closing aside shows = absurd (assumption)
one_aside h (lines.Broken word) aside shows = absurd (assumption)
one_aside h (lines.Submit id submission) aside shows = absurd (assumption)
one_aside h (lines.Refuse refusal) aside shows = absurd (assumption)
one_aside h (lines.Answer id status) aside shows = absurd (assumption)
one_aside h (lines.Data id index words) aside shows = absurd (assumption)
one_aside h lines.Epoch aside shows = absurd (assumption)
one_aside h line aside shows = record { seen_same = λ s. refl; asked_same = λ asked. refl; unanswered = refl }

aside_lines : (w : World) (h : Happening) → IsAside h → AreAside (lines_at w h)
aside_lines w h aside = lines_are IsAsideLine w h (λ line shows. one_aside h line aside shows)

-- the front stays
aside_front : (w : World) (h : Happening) → IsAside h → (let x : World = happens w h in x.front) ≡ w.front
aside_front w FrontMoves aside = absurd aside
aside_front w (FrontEnters s) aside = absurd aside
aside_front w (Submits submission) aside = absurd aside
aside_front w Suspends aside = absurd aside
aside_front w BackMoves aside = back_stays w (back_turn w Took)
aside_front w (JobMoves number outcome) aside = job_stays w number (job_turn w number outcome)
aside_front w h aside = refl

-- a state that the front enters is one that may come
meant : (config : Options) (w : World) (s : FrontState) → IsPossible w (FrontEnters s) → IsServing config (FrontEnters s) → IsMeant config w.front s
meant config w (state.Agreed order) may serves = may
meant config w (state.Connected offers) may serves = serves
meant config w other may serves = tt

at_end : {X : Type 0} (done rest : List X) (x : X) → slice_get (done ++ x ∷ rest) (length done) ≡ Some x
at_end [] rest x = refl
at_end (y ∷ done) rest x = at_end done rest x

module _ (config : Options) (narrow : config.indirect ≤ 960) (submissions : List Submission) where
  -- after these lines, and these submissions of all
  record IsSoFar (before : List Line) (done : List Submission) (w : World) : Type 0 where
    safe : IsSafe w
    keeps : Keeps config w.front (fold seen nothing_seen before) (asked_by before)
    counted : answer_count before ≡ length done
    ruled : AreRuled submissions before

  -- lines that answer no submission follow
  goes_on : (before ls : List Line) (done : List Submission) (w w' : World) → AreFree ls → IsSafe w' → Keeps config w'.front (fold seen (fold seen nothing_seen before) ls) (fold asked_step (asked_by before) ls) → IsSoFar before done w → IsSoFar (before ++ ls) done w'
  goes_on before ls done w w' free safe keeps h = record {
    safe = safe;
    keeps = rw (fold-append seen nothing_seen before ls, fold-append asked_step [] before ls) keeps;
    counted = count_more before ls ∙ (let none = free_count ls free in let was = h.counted in omega arith);
    ruled = free_ruled submissions ls before free h.ruled;
  }

  front_goes : (before : List Line) (done : List Submission) (w : World) (act : Option FrontAct) → IsSafe (front_after w act) → IsSoFar before done w → IsSoFar (before ++ front_shows w act) done (front_after w act)
  front_goes before done w None safe h = goes_on before [] done w w tt safe h.keeps h
  front_goes before done w (Some a) safe h =
      let was : IsSafe w = h.safe in
      let x : View = step_of w.front a.answer in
      goes_on before (lines.Move a.shown ∷ front_lines x.told) done w (front_after w (Some a))
      (front_are (λ (line : Line). answers_submission line ≡ false) (λ line shows. unanswered FrontMoves line tt shows) w (Some a)) safe
      (step_goes config (fold seen nothing_seen before) (asked_by before) w.front was.front_told h.keeps a.answer) h

  aside_goes : (before : List Line) (done : List Submission) (w : World) (g : Happening) → IsAside g → IsSoFar before done w → IsSoFar (before ++ lines_at w g) done (happens w g)
  aside_goes before done w g aside h =
      let all : AreAside (lines_at w g) = aside_lines w g aside in
      goes_on before (lines_at w g) done w (happens w g) (aside_free (lines_at w g) all) (safe_happens w g h.safe)
      (rw (aside_front w g aside, aside_seen (lines_at w g) (fold seen nothing_seen before) all, aside_asked (lines_at w g) (asked_by before) all) h.keeps) h

  enters : (before : List Line) (done : List Submission) (w : World) (s : FrontState) → IsPossible w (FrontEnters s) → IsServing config (FrontEnters s) → IsSoFar before done w → IsSoFar (before ++ lines_at w (FrontEnters s)) done (happens w (FrontEnters s))
  enters before done w s may serves h =
      goes_on before (enter_lines s w.front) done w (happens w (FrontEnters s)) (free_at w (FrontEnters s) tt) (safe_happens w (FrontEnters s) h.safe)
      (enters_cases (λ (x : View) (shown : List Line). Keeps config x (fold seen (fold seen nothing_seen before) shown) (fold asked_step (asked_by before) shown)) s w.front
      (λ enter. enters_goes config (fold seen nothing_seen before) (asked_by before) w.front s (meant config w s may serves) enter h.keeps) h.keeps) h

  suspends : (before : List Line) (done : List Submission) (w : World) → IsSoFar before done w → IsSoFar (before ++ lines_at w Suspends) done (happens w Suspends)
  suspends before done w h =
      goes_on before (lines_at w Suspends) done w (happens w Suspends) (free_at w Suspends tt) (safe_happens w Suspends h.safe)
      (suspend_cases (λ (x : World) (shown : List Line). Keeps config x.front (fold seen (fold seen nothing_seen before) shown) (fold asked_step (asked_by before) shown)) w
      (λ may. suspends_goes config (fold seen nothing_seen before) (asked_by before) w.front h.keeps) h.keeps) h

  -- a submission
  answered_by : (before : List Line) (submission : Submission) (r : Result ℕ Refusal) → slice_get submissions (answer_count before) ≡ Some submission → ruled_of before submission ≡ answer_of r → IsRuledAt submissions before (submit_line submission r)
  answered_by before submission (Ok number) here is = (here, is)
  answered_by before submission (Err r) here is = subst (λ (o : Option Submission). IsSomeAnd o (λ (j : Submission). ruled_of before j ≡ answer_of (Err r))) (sym here) is

  one_answer : (submission : Submission) (r : Result ℕ Refusal) → answer_count (submit_line submission r ∷ []) ≡ 1
  one_answer submission (Ok number) = refl
  one_answer submission (Err r) = refl

  seen_answer : (s : Sight) (submission : Submission) (r : Result ℕ Refusal) → fold seen s (submit_line submission r ∷ []) ≡ s
  seen_answer s submission (Ok number) = refl
  seen_answer s submission (Err r) = refl

  submits : (before : List Line) (done rest : List Submission) (w : World) (submission : Submission) → submissions ≡ done ++ submission ∷ rest → IsPossible w (Submits submission) → IsSoFar before done w → IsSoFar (before ++ lines_at w (Submits submission)) (done ++ submission ∷ []) (happens w (Submits submission))
  submits before done rest w submission all may h =
      let y : Result ℕ Refusal × View = submit_of w.front submission in
      let s : Sight = fold seen nothing_seen before in
      let counted : answer_count before ≡ length done = h.counted in
      let here : slice_get submissions (answer_count before) ≡ Some submission = ap (λ (n : ℕ). slice_get submissions n) counted ∙ (ap (λ (js : List Submission). slice_get js (length done)) all ∙ at_end done rest submission) in
      record {
        safe = safe_happens w (Submits submission) h.safe;
        keeps = rw (fold-append seen nothing_seen before (submit_line submission y.0 ∷ []), fold-append asked_step [] before (submit_line submission y.0 ∷ []), seen_answer s submission y.0) (submit_goes config s (asked_by before) w.front submission may h.keeps);
        counted = count_more before (submit_line submission y.0 ∷ []) ∙ (let one = one_answer submission y.0 in let more = longer done submission in omega arith);
        ruled = obeys_more (IsRuledAt submissions) before (submit_line submission y.0) h.ruled (answered_by before submission y.0 here (ruled config narrow s (asked_by before) w.front h.keeps submission));
      }

  run : (hs : List Happening) (w : World) (before : List Line) (done : List Submission) → submissions ≡ done ++ submitted_of hs → ArePossible hs w → AreServing config hs → IsSoFar before done w → AreRuled submissions (before ++ lines_of hs w)
  run [] w before done all may serves h = free_ruled submissions [] before tt h.ruled
  run (Submits submission ∷ hs) w before done all may serves h =
      subst (AreRuled submissions) (append_assoc before (lines_at w (Submits submission)) (lines_of hs (happens w (Submits submission))))
      (run hs (happens w (Submits submission)) (before ++ lines_at w (Submits submission)) (done ++ submission ∷ []) (all ∙ sym (append_assoc done (submission ∷ []) (submitted_of hs))) may.1 serves.1 (submits before done (submitted_of hs) w submission all may.0 h))
  run (FrontMoves ∷ hs) w before done all may serves h =
      subst (AreRuled submissions) (append_assoc before (lines_at w FrontMoves) (lines_of hs (happens w FrontMoves)))
      (run hs (happens w FrontMoves) (before ++ lines_at w FrontMoves) done all may.1 serves.1 (front_goes before done w (front_turn w) (safe_happens w FrontMoves h.safe) h))
  run (FrontEnters s ∷ hs) w before done all may serves h =
      subst (AreRuled submissions) (append_assoc before (lines_at w (FrontEnters s)) (lines_of hs (happens w (FrontEnters s))))
      (run hs (happens w (FrontEnters s)) (before ++ lines_at w (FrontEnters s)) done all may.1 serves.1 (enters before done w s may.0 serves.0 h))
  run (Suspends ∷ hs) w before done all may serves h =
      subst (AreRuled submissions) (append_assoc before (lines_at w Suspends) (lines_of hs (happens w Suspends)))
      (run hs (happens w Suspends) (before ++ lines_at w Suspends) done all may.1 serves.1 (suspends before done w h))
  run (g ∷ hs) w before done all may serves h =
      subst (AreRuled submissions) (append_assoc before (lines_at w g) (lines_of hs (happens w g)))
      (run hs (happens w g) (before ++ lines_at w g) done all may.1 serves.1 (aside_goes before done w g tt h))

  start : (detail : Detail) → IsSoFar (lines.Begin config detail ∷ []) [] (start_of config)
  start detail = record {
    safe = safe_start config;
    keeps = (
      record {
        options = refl;
        closing = refl;
        broken_is = refl;
        ready_is = λ stays. refl;
        order = refl;
        offers = λ ready. absurd (true≢false (sym ready));
        last = refl;
        are = λ whole. record {
          each = λ i r e. absurd (none-some r e);
          last = λ e same. absurd (none-some e same);
          once = λ n. omega arith;
          opened = refl;
          held = refl;
          pooled = empty_pooled;
        };
      },
      tt,
    );
    counted = refl;
    ruled = obeys_more (IsRuledAt submissions) [] (lines.Begin config detail) (obeys_none (IsRuledAt submissions)) tt;
  }

-- the report of each history
pub report_ruled : (config : Options) (detail : Detail) (history : List Happening) → config.indirect ≤ 960 → ArePossible history (start_of config) → AreServing config history → AreRuled (submitted_of history) (report_of config detail history)
report_ruled config detail history narrow may serves = run config narrow (submitted_of history) history (start_of config) (lines.Begin config detail ∷ []) [] refl may serves (start config narrow (submitted_of history) detail)
