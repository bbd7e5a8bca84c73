-- A tally counts each line once, by its kind; and the counts of a report that settles last, and never runs out of rounds.
use Rattle.std.proofs.Common.{◌≡◌, ℕ, ◌+◌, ◌-◌, ◌≤◌, ◌^◌, min, Bool, true, false, true≢false, cond, List, [], ◌∷◌, ◌++◌, refl, ap, sym, ◌∙◌, subst, arith}
use Rattle.std.specs.Prelude.{Option, Some, None, fold, count_by}
use Rattle.std.specs.List.{AllByRecursion, filter_map}
use Rattle.std.proofs.lemmas.List.Elements.{recursion_from_All}
use Rattle.std.proofs.lemmas.List.Sums.{sum_by-cons}
use Rattle.blk_base.specs.Options.{Options}
use Rattle.schedule_text.specs.declared.event.Event.{Event}
use Rattle.schedule_text.specs.declared.event.Event.TheVariants.{Settle}
use Rattle.schedule_text.specs.declared.line.Detail.{Detail}
use Rattle.schedule_text.specs.declared.line.Line.{Line}
use Rattle.schedule_text.specs.declared.line.Line.TheVariants as lines
use Rattle.schedule_text.specs.declared.recorder.Tally.{Tally}
use Rattle.schedule_text.specs.declared.recorder.RoundsEnd.{RoundsEnd}
use Rattle.schedule_text.specs.declared.recorder.RoundsEnd.TheVariants as verdict
use Rattle.schedule_text.specs.Recorder.{one_more, counted}
use Rattle.plain_disk.specs.Echo.{AnswersSettle, Echoes}
use Rattle.pipeline_laws.specs.Answered.{AreAnsweredOnce, IsQuietAnswered}
use Rattle.report_laws.specs.Settled.{is_unsettled, IsSettled}
use Rattle.answer_laws.specs.Counts.{is_submission, is_refused, is_effect, is_answer, submissions_in, how_many, word_of, last_of, counts_of, no_counts, CountsThemAll, AreAllAnswered}
use Rattle.answer_laws.proofs.Asked.{quiet_agrees}
use Rattle.answer_laws.proofs.Echoing.{settles_last}

-- a count that goes up at the lines of a kind, and stays at all others
abbrev Counts : (Tally → ℕ) → (Line → Bool) → Type 0
Counts count kind = (t : Tally) (line : Line) → count (counted t line) ≡ cond (kind line) (one_more (count t)) (count t)

more_counted : (b : Bool) (n m rest all : ℕ) → n ≤ 2 ^ 64 - 1 → m ≡ cond b (one_more n) n → all ≡ cond b 1 0 + rest → (m ≤ 2 ^ 64 - 1) × (min (m + rest) (2 ^ 64 - 1) ≡ min (n + all) (2 ^ 64 - 1))
more_counted true n m rest all few is sum = (omega arith, omega arith)
more_counted false n m rest all few is sum = (omega arith, omega arith)

counts_on : (count : Tally → ℕ) (kind : Line → Bool) → Counts count kind → (t : Tally) (ls : List Line) → count t ≤ 2 ^ 64 - 1 → count (fold counted t ls) ≡ min (count t + count_by kind ls) (2 ^ 64 - 1)
counts_on count kind step t [] few = omega arith
counts_on count kind step t (line ∷ ls) few =
    let one = more_counted (kind line) (count t) (count (counted t line)) (count_by kind ls) (count_by kind (line ∷ ls)) few (step t line) (sum_by-cons (λ (l : Line). cond (kind l) 1 0) line ls) in
    counts_on count kind step (counted t line) ls one.0 ∙ one.1

counts_from_none : (count : Tally → ℕ) (kind : Line → Bool) → Counts count kind → count no_counts ≡ 0 → (ls : List Line) → count (fold counted no_counts ls) ≡ how_many kind ls
counts_from_none count kind step none ls = counts_on count kind step no_counts ls (omega arith) ∙ ap (λ (n : ℕ). min (n + count_by kind ls) (2 ^ 64 - 1)) none ∙ omega arith

submitted_step : Counts (λ t. t.submitted) is_submission
submitted_step t (lines.Submit id submission) = refl
submitted_step t line = refl

refused_step : Counts (λ t. t.refused) is_refused
refused_step t (lines.Refuse refusal) = refl
refused_step t line = refl

effects_step : Counts (λ t. t.effects) is_effect
effects_step t (lines.Effect id index) = refl
effects_step t (lines.EffectRead id index words) = refl
effects_step t line = refl

answered_step : Counts (λ t. t.answered) is_answer
answered_step t (lines.Answer id status) = refl
answered_step t line = refl

last_on : (t : Tally) (ls : List Line) → (fold counted t ls).last ≡ last_of t.last (filter_map word_of ls)
last_on t [] = refl
last_on t (lines.Quiet ∷ ls) = last_on (counted t lines.Quiet) ls
last_on t (lines.Unsettled ∷ ls) = last_on (counted t lines.Unsettled) ls
last_on t (line ∷ ls) = last_on (counted t line) ls

tally : ℕ → ℕ → ℕ → ℕ → Option RoundsEnd → Tally
tally a b c d e = record { submitted = a; refused = b; effects = c; answered = d; last = e }

same_tally : (t u : Tally) → t.submitted ≡ u.submitted → t.refused ≡ u.refused → t.effects ≡ u.effects → t.answered ≡ u.answered → t.last ≡ u.last → t ≡ u
unfolding tally
same_tally t u a b c d e =
    ap (λ (x : ℕ). tally x t.refused t.effects t.answered t.last) a
    ∙ ap (λ (x : ℕ). tally u.submitted x t.effects t.answered t.last) b
    ∙ ap (λ (x : ℕ). tally u.submitted u.refused x t.answered t.last) c
    ∙ ap (λ (x : ℕ). tally u.submitted u.refused u.effects x t.last) d
    ∙ ap (λ (x : Option RoundsEnd). tally u.submitted u.refused u.effects u.answered x) e

pub counts_them_all : CountsThemAll
counts_them_all ls =
    same_tally (fold counted no_counts ls) (counts_of ls)
    (counts_from_none (λ t. t.submitted) is_submission submitted_step refl ls)
    (counts_from_none (λ t. t.refused) is_refused refused_step refl ls)
    (counts_from_none (λ t. t.effects) is_effect effects_step refl ls)
    (counts_from_none (λ t. t.answered) is_answer answered_step refl ls)
    (last_on no_counts ls)

-- ---- where settling ended in `quiet`

-- the last word stays `quiet`
abbrev IsNotUnsettled : Line → Type 0
IsNotUnsettled line = is_unsettled line ≡ false

stays_quiet : (ls : List Line) → AllByRecursion IsNotUnsettled ls → last_of (Some verdict.Quiet) (filter_map word_of ls) ≡ Some verdict.Quiet
stays_quiet [] all = refl
stays_quiet (lines.Quiet ∷ ls) all = stays_quiet ls all.1
stays_quiet (lines.Unsettled ∷ ls) all = absurd (true≢false all.0)
stays_quiet (line ∷ ls) all = stays_quiet ls all.1

all_later : (first rest : List Line) → AllByRecursion IsNotUnsettled (first ++ rest) → AllByRecursion IsNotUnsettled rest
all_later [] rest all = all
all_later (line ∷ first) rest all = all_later first rest all.1

quiet_last : (last : Option RoundsEnd) (before rest : List Line) → AllByRecursion IsNotUnsettled (before ++ lines.Quiet ∷ rest) → last_of last (filter_map word_of (before ++ lines.Quiet ∷ rest)) ≡ Some verdict.Quiet
quiet_last last [] rest all = stays_quiet rest all.1
quiet_last last (lines.Quiet ∷ before) rest all = quiet_last (Some verdict.Quiet) before rest all.1
quiet_last last (lines.Unsettled ∷ before) rest all = absurd (true≢false all.0)
quiet_last last (line ∷ before) rest all = quiet_last last before rest all.1

all_answered : (before rest : List Line) (last : Line) → AnswersSettle last → submissions_in rest ≡ 0 → AreAnsweredOnce (before ++ last ∷ rest) → IsQuietAnswered (before ++ last ∷ rest) → AllByRecursion IsNotUnsettled (before ++ last ∷ rest) → AreAllAnswered (counts_of (before ++ last ∷ rest))
all_answered before rest lines.Quiet settles none once quiet all = record {
  answered = ap (λ (n : ℕ). min n (2 ^ 64 - 1)) (quiet_agrees before rest once quiet none);
  last = quiet_last None before rest all;
}
all_answered before rest lines.Unsettled settles none once quiet all = absurd (true≢false (all_later before (lines.Unsettled ∷ rest) all).0)
all_answered before rest line settles none once quiet all = absurd settles

pub settled_counts : (options : Options) (detail : Detail) (events : List Event) (report : List Line) → Echoes options detail (events ++ Settle ∷ []) report → AreAnsweredOnce report → IsQuietAnswered report → IsSettled report → AreAllAnswered (counts_of report)
settled_counts options detail events report echo once quiet never =
    let h = settles_last options detail events report echo in
    subst (λ (r : List Line). AreAllAnswered (counts_of r)) (sym h.split)
    (all_answered h.before h.rest h.last h.settles h.none (subst AreAnsweredOnce h.split once) (subst (λ (r : List Line). IsQuietAnswered r) h.split quiet) (subst (AllByRecursion IsNotUnsettled) h.split (recursion_from_All IsNotUnsettled report never)))
