-- The hostile lines of a report are those that echo hostile lines of its schedule.
use Rattle.std.proofs.Common.{◌≡◌, ℕ, ◌+◌, ◌&&◌, ◌*◌, ◌^◌, Bool, true, false, true≢false, cond, List, [], ◌∷◌, refl, ap, sym, ◌∙◌}
use Rattle.std.specs.Prelude.{filter}
use Rattle.std.specs.List.{list_all}
use Rattle.std.proofs.lemmas.List.Folds.{list_all-append}
use Rattle.std.proofs.Math.Bool.{and-true}
use Rattle.blk_base.specs.Options.{Options}
use Rattle.blk_base.specs.declared.config.Submission.{Submission}
use Rattle.schedule_text.specs.declared.event.Event.{Event}
use Rattle.schedule_text.specs.declared.event.Event.TheVariants as events
use Rattle.schedule_text.specs.declared.line.Detail.{Detail}
use Rattle.schedule_text.specs.declared.line.Line.{Line}
use Rattle.schedule_text.specs.declared.line.Line.TheVariants as lines
use Rattle.plain_disk.specs.Honest.{is_honest}
use Rattle.plain_disk.specs.Echo.{is_echo, AnswersSubmit, AnswersSettle, AnswersLook, AreRingWords, Answers, AnswersAll, Echoes}
use Rattle.answer_laws.specs.Honest.{is_honest_event, is_honest_schedule}

-- what is no echo is honest
unechoed : (line : Line) → is_echo line ≡ false → is_honest line ≡ true
unechoed (lines.Poke frame word value) e = absurd (true≢false e)
unechoed (lines.Key name text) e = absurd (true≢false e)
unechoed line e = refl

echoes_honest : (ls : List Line) → list_all is_honest (filter is_echo ls) ≡ list_all is_honest ls
echoes_honest [] = refl
echoes_honest (line ∷ ls) = by_test (is_echo line) refl (echoes_honest ls)
  where
    by_test : (b : Bool) → is_echo line ≡ b → list_all is_honest (filter is_echo ls) ≡ list_all is_honest ls → list_all is_honest (cond b (line ∷ filter is_echo ls) (filter is_echo ls)) ≡ (is_honest line && list_all is_honest ls)
    by_test true t same = ap (λ (b : Bool). is_honest line && b) same
    by_test false t same = same ∙ sym (ap (λ (b : Bool). b && list_all is_honest ls) (unechoed line t))

-- the answers to each event
words_honest : (from bound : ℕ) (ls : List Line) → AreRingWords from bound ls → list_all is_honest ls ≡ true
words_honest from bound [] h = refl
words_honest from bound (lines.Word frame word value ∷ ls) h = words_honest (h.0 + 1) bound ls h.6
words_honest from bound (line ∷ ls) h = absurd h

submit_honest : (submission : Submission) (line : Line) → AnswersSubmit submission line → is_honest line ≡ true
submit_honest submission (lines.Submit id other) h = refl
submit_honest submission (lines.Refuse refusal) h = refl
submit_honest submission line h = absurd h

settle_honest : (line : Line) → AnswersSettle line → is_honest line ≡ true
settle_honest lines.Quiet h = refl
settle_honest lines.Unsettled h = refl
settle_honest line h = absurd h

look_honest : (line : Line) → AnswersLook line → is_honest line ≡ true
look_honest lines.Quiet h = refl
look_honest lines.Busy h = refl
look_honest line h = absurd h

one_honest : (answer : List Line) (line : Line) → answer ≡ line ∷ [] → is_honest line ≡ true → list_all is_honest answer ≡ true
one_honest answer line e honest = ap (list_all is_honest) e ∙ ap (λ (b : Bool). b && true) honest

answer_honest : (order : ℕ) (event : Event) (answer : List Line) → Answers order event answer → list_all is_honest answer ≡ is_honest_event event
answer_honest order (events.Submit submission) answer h = one_honest answer h.0 h.1 (submit_honest submission h.0 h.2)
answer_honest order events.Settle answer h = one_honest answer h.0 h.1 (settle_honest h.0 h.2)
answer_honest order events.Look answer h = one_honest answer h.0 h.1 (look_honest h.0 h.2)
answer_honest order events.Suspend answer h = ap (list_all is_honest) h
answer_honest order (events.Poke frame word value) answer h = ap (list_all is_honest) h
answer_honest order (events.Key name text) answer h = ap (list_all is_honest) h
answer_honest order events.Dump answer h = words_honest 0 (1024 * 2 ^ order) answer h
answer_honest order event answer h = ap (list_all is_honest) h

answers_honest : (order : ℕ) (schedule : List Event) (answers : List Line) → AnswersAll order schedule answers → list_all is_honest answers ≡ is_honest_schedule schedule
answers_honest order [] answers h = ap (list_all is_honest) h
answers_honest order (event ∷ schedule) answers h =
    ap (list_all is_honest) h.2
    ∙ (list_all-append is_honest h.0 h.1
    ∙ (ap (λ (b : Bool). b && list_all is_honest h.1) (answer_honest order event h.0 h.3)
    ∙ ap (λ (b : Bool). is_honest_event event && b) (answers_honest order schedule h.1 h.4)))

pub as_honest : (options : Options) (detail : Detail) (schedule : List Event) (report : List Line) → Echoes options detail schedule report → list_all is_honest report ≡ is_honest_schedule schedule
as_honest options detail schedule report echo =
    ap (list_all is_honest) echo.1
    ∙ (list_all-append is_honest echo.0 (lines.End ∷ [])
    ∙ (and-true (list_all is_honest echo.0)
    ∙ (ap (list_all is_honest) echo.2.1
    ∙ (sym (echoes_honest echo.2.0)
    ∙ answers_honest options.order schedule (filter is_echo echo.2.0) echo.2.2))))
