-- What is kept decides the rules on steps, on effects and on data.
use Rattle.std.proofs.Common.{◌≡◌, ◌≢◌, ℕ, ◌+◌, ◌==◌, ◌&&◌, ◌%◌, true, List, refl, sym, subst}
use Rattle.std.specs.Prelude.{slice_index, Option, Some, None, is_some, IfSome, IsSomeAnd}
use Rattle.std.specs.Bool.{Decides}
use Rattle.std.proofs.lemmas.Bool.Decides.{Decides-eqb, Decides-and, Decides-like}
use Rattle.blk_base.specs.declared.moves.BackMover.TheVariants as back
use Rattle.blk_base.specs.declared.moves.Move.{Move}
use Rattle.blk_base.specs.declared.moves.Move.TheVariants as moves
use Rattle.schedule_text.specs.declared.line.Line.{Line}
use Rattle.schedule_text.specs.declared.line.Line.TheVariants as lines
use Rattle.report_rules.specs.declared.effect.DiskCall.{DiskCall}
use Rattle.report_rules.specs.declared.effect.DiskCall.TheVariants as calls
use Rattle.report_rules.specs.declared.effect.DiskMove.{DiskMove}
use Rattle.report_rules.specs.declared.effect.Outcome.{Outcome}
use Rattle.report_rules.specs.declared.job.Fetched.{Fetched}
use Rattle.report_rules.specs.Standing.{this_epoch}
use Rattle.report_rules.specs.Job.{fetched_of, id_of, disk_moves_of}
use Rattle.report_rules.specs.Effect.{outcome_of, IsOutcomeOf, IsEffectAt}
use Rattle.report_rules.specs.Step.{stepper}
use Rattle.report_rules.specs.Steps.{IsStepAt}
use Rattle.report_rules.specs.Data.{words_from, IsDataAt}
use Rattle.job_check.specs.Open.{Open}
use Rattle.job_check.specs.State.{JobState, job_at}
use Rattle.job_check.specs.Verdict.{may_step_of, allows_step_of, allows_step, is_call, is_done_by, is_outcome_for, is_outcome, allows_effect, gives, gave_word, allows_data}
use Rattle.job_check.proofs.Jobs.{IsJob, MayStep, open_decides, gone_stops}
use Rattle.job_check.proofs.Changes.{IsJobOf}
use Rattle.job_check.proofs.Moves.{IsSeen}
use Rattle.job_check.proofs.Sees.{Sees}

-- ---- steps
job_decides : (before : List Line) (s : JobState) (k : ℕ) (move : Move) (o : Option Open) → IsSeen before s → IsJobOf before k o → Decides (may_step_of o s.kept move) (MayStep before k move)
job_decides before s k move None is gone = (λ e. absurd (cc), λ may. absurd (gone_stops before k move gone may))
job_decides before s k move (Some o) is j = open_decides before s.kept k o move is.mappings j

mover_decides : (before : List Line) (s : JobState) (move : Move) (o : Option ℕ) → IsSeen before s → Decides (allows_step_of s o move) (IfSome o (λ (k : ℕ). MayStep before k move))
mover_decides before s move None is = (λ e. tt, λ h. refl)
mover_decides before s move (Some k) is = job_decides before s k move (job_at s.jobs k) is (is.jobs.each k)

pub step_decided : (before : List Line) (line : Line) (s : JobState) → Sees before s → Decides (allows_step s line) (IsStepAt before line)
step_decided before (lines.Move move) s sees = mover_decides before s move (stepper (lines.Move move)) sees.seen
step_decided before line s sees = (λ e. tt, λ h. refl)

-- ---- effects
call_decides : (done call : DiskCall) → Decides (is_call done call) (done ≡ call)
call_decides calls.Read calls.Read = (λ e. refl, λ e. refl)
call_decides calls.Read calls.Write = (λ e. absurd (cc), λ e. absurd (cc))
call_decides calls.Read calls.Flush = (λ e. absurd (cc), λ e. absurd (cc))
call_decides calls.Read calls.Trim = (λ e. absurd (cc), λ e. absurd (cc))
call_decides calls.Write calls.Read = (λ e. absurd (cc), λ e. absurd (cc))
call_decides calls.Write calls.Write = (λ e. refl, λ e. refl)
call_decides calls.Write calls.Flush = (λ e. absurd (cc), λ e. absurd (cc))
call_decides calls.Write calls.Trim = (λ e. absurd (cc), λ e. absurd (cc))
call_decides calls.Flush calls.Read = (λ e. absurd (cc), λ e. absurd (cc))
call_decides calls.Flush calls.Write = (λ e. absurd (cc), λ e. absurd (cc))
call_decides calls.Flush calls.Flush = (λ e. refl, λ e. refl)
call_decides calls.Flush calls.Trim = (λ e. absurd (cc), λ e. absurd (cc))
call_decides calls.Trim calls.Read = (λ e. absurd (cc), λ e. absurd (cc))
call_decides calls.Trim calls.Write = (λ e. absurd (cc), λ e. absurd (cc))
call_decides calls.Trim calls.Flush = (λ e. absurd (cc), λ e. absurd (cc))
call_decides calls.Trim calls.Trim = (λ e. refl, λ e. refl)

done_decides : (done : Option DiskCall) (call : DiskCall) → Decides (is_done_by done call) (IfSome done (λ (c : DiskCall). c ≡ call))
done_decides None call = (λ e. tt, λ h. refl)
done_decides (Some done) call = call_decides done call

-- the parts of the rule on the outcome of a move
abbrev IsOutcome : List Line → DiskMove → Outcome → Type 0
IsOutcome before moved o = (IfSome o.call (λ (call : DiskCall). call ≡ moved.call) × IsSomeAnd (fetched_of before moved.job) (λ (f : Fetched). id_of f.request ≡ o.id)) × (o.index + 1 ≡ disk_moves_of before moved.job)

outcome_decides : (before : List Line) (moved : DiskMove) (o : Outcome) (job : Open) → IsJob before moved.job job → Decides (is_outcome_for (Some job) moved o) (IsOutcomeOf before moved o)
outcome_decides before moved o job j =
    let done = is_done_by o.call moved.call in
    let request = id_of job.request == o.id in
    let place = o.index + 1 == job.moved in
    Decides-like ((done && request) && place)
    (λ (all : IsOutcome before moved o). record { done = all.0.0; request = all.0.1; place = all.1 }) (λ (is : IsOutcomeOf before moved o). ((is.done, is.request), is.place))
    (Decides-and (done && request) place
    (Decides-and done request (done_decides o.call moved.call)
    (subst (λ (f : Option Fetched). Decides (id_of job.request == o.id) (IsSomeAnd f (λ (g : Fetched). id_of g.request ≡ o.id))) (sym j.fetched) (Decides-eqb (id_of job.request) o.id)))
    (subst (λ (n : ℕ). Decides (o.index + 1 == job.moved) (o.index + 1 ≡ n)) j.moved (Decides-eqb (o.index + 1) job.moved)))

-- what the rule says of the outcome that a line is
abbrev IsEffectOf : List Line → Option DiskMove → Option Outcome → Type 0
IsEffectOf before moved o = IfSome moved (λ (m : DiskMove). IsSomeAnd o (IsOutcomeOf before m)) × (o ≢ None → moved ≢ None)

effect_by : (before : List Line) (s : JobState) (moved : Option DiskMove) (o : Option Outcome) → IsSeen before s → IfSome moved (λ (m : DiskMove). is_some (job_at s.jobs m.job) ≡ true) → Decides (is_outcome s moved o) (IsEffectOf before moved o)
effect_by before s None None is opened = (λ e. (tt, λ some none. some refl), λ h. refl)
effect_by before s None (Some o) is opened = (λ e. absurd (cc), λ h. absurd (h.1 (λ none. absurd (cc)) refl))
effect_by before s (Some moved) None is opened = (λ e. absurd (cc), λ h. absurd h.0)
effect_by before s (Some moved) (Some o) is opened = by_open (job_at s.jobs moved.job) opened (is.jobs.each moved.job)
  where
    by_open : (job : Option Open) → is_some job ≡ true → IsJobOf before moved.job job → Decides (is_outcome_for job moved o) (IsEffectOf before (Some moved) (Some o))
    by_open None some j = absurd (cc)
    by_open (Some job) some j = Decides-like (is_outcome_for (Some job) moved o) (λ told. (told, λ never none. absurd (cc))) (λ h. h.0) (outcome_decides before moved o job j)

pub effect_decided : (before : List Line) (line : Line) (s : JobState) → Sees before s → Decides (allows_effect s line) (IsEffectAt before line)
effect_decided before line s sees =
    Decides-like (allows_effect s line) (λ h. record { told = h.0; only = h.1 }) (λ (is : IsEffectAt before line). (is.told, is.only))
    (subst (λ (m : Option DiskMove). Decides (is_outcome s s.moved (outcome_of line)) (IsEffectOf before m (outcome_of line))) sees.shown (effect_by before s s.moved (outcome_of line) sees.seen sees.mover))

-- ---- data
given_decides : (sector : Option (List ℕ)) (word value : ℕ) → Decides (gives sector word value) (IsSomeAnd sector (λ (words : List ℕ). value ≡ slice_index words (word % 128)))
given_decides None word value = (λ e. absurd (cc), λ h. absurd h)
given_decides (Some words) word value = Decides-eqb value (slice_index words (word % 128))

word_decides : (before : List Line) (k word value : ℕ) (move : Move) (o : Option Open) → IsJobOf before k o → MayStep before k move → Decides (gave_word o word value) (IsSomeAnd (words_from None k (this_epoch before)) (λ (words : List ℕ). value ≡ slice_index words (word % 128)))
word_decides before k word value move None gone may = absurd (gone_stops before k move gone may)
word_decides before k word value move (Some o) j may =
    subst (λ (sector : Option (List ℕ)). Decides (gives o.sector word value) (IsSomeAnd sector (λ (words : List ℕ). value ≡ slice_index words (word % 128)))) j.sector (given_decides o.sector word value)

pub data_decided : (before : List Line) (line : Line) (s : JobState) → Sees before s → IsStepAt before line → Decides (allows_data s line) (IsDataAt before line)
data_decided before (lines.Move (moves.Write (back.Job k) number frame word value)) s sees step =
    word_decides before k word value (moves.Write (back.Job k) number frame word value) (job_at s.jobs k) (sees.seen.jobs.each k) step
data_decided before line s sees step = (λ e. tt, λ h. refl)
