-- Lines that echo a schedule are in order.
use Rattle.std.proofs.Common.{◌≡◌, ◌||◌, Bool, true, false, List, [], ◌∷◌, ◌++◌, refl, ap, sym, subst, ◌∙◌, true≢false}
use Rattle.std.specs.Prelude.{ℕ, ◌+◌, All, IsTrue, filter}
use Rattle.std.specs.List.{list_any}
use Rattle.std.proofs.lemmas.List.Folds.{list_any-append}
use Rattle.std.proofs.lemmas.Map.Views.{any-filter_same}
use Rattle.blk_base.specs.Options.{Options}
use Rattle.blk_base.specs.declared.config.Submission.{Submission}
use Rattle.schedule_text.specs.declared.event.Event.{Event}
use Rattle.schedule_text.specs.declared.event.Event.TheVariants as events
use Rattle.schedule_text.specs.declared.line.Detail.{Detail}
use Rattle.schedule_text.specs.declared.line.Detail.TheVariants.{Lines, Moves}
use Rattle.schedule_text.specs.declared.line.Line.{Line}
use Rattle.schedule_text.specs.declared.line.Line.TheVariants as lines
use Rattle.plain_disk.specs.Echo.{is_echo, AnswersSubmit, AnswersSettle, AnswersLook, AreRingWords, Answers, AnswersAll, Echoes}
use Rattle.report_rules.specs.Obeys.{Obeys}
use Rattle.report_rules.proofs.Obeys.{obeys_more}
use Rattle.checked_rules.specs.Lines.{is_begin, shows_moves, is_end, is_move}
use Rattle.checked_rules.specs.Rules.{IsOrderAt}
use Rattle.legal_laws.specs.Order.{IsBody}
use Rattle.legal_laws.proofs.Lists.{all_there, all_before}

-- ---- no answer is `end`

one_line : (answer : List Line) (line : Line) → answer ≡ line ∷ [] → is_end line ≡ false → list_any is_end answer ≡ false
one_line answer line is other = ap (list_any is_end) is ∙ ap (λ (b : Bool). b || false) other

submit_line : (job : Submission) (line : Line) → AnswersSubmit job line → is_end line ≡ false
submit_line job lines.End answer = absurd answer
submit_line job line answer = refl

settle_line : (line : Line) → AnswersSettle line → is_end line ≡ false
settle_line lines.End answer = absurd answer
settle_line line answer = refl

look_line : (line : Line) → AnswersLook line → is_end line ≡ false
look_line lines.End answer = absurd answer
look_line line answer = refl

no_lines : (answer : List Line) → answer ≡ [] → list_any is_end answer ≡ false
no_lines answer none = ap (list_any is_end) none

ring_words : (from bound : ℕ) (answer : List Line) → AreRingWords from bound answer → list_any is_end answer ≡ false
ring_words from bound [] words = refl
ring_words from bound (lines.Word frame word value ∷ rest) words = ring_words (words.0 + 1) bound rest words.6
ring_words from bound (line ∷ rest) words = absurd words

answer_unended : (order : ℕ) (event : Event) (answer : List Line) → Answers order event answer → list_any is_end answer ≡ false
answer_unended order (events.Submit job) answer is = one_line answer is.0 is.1 (submit_line job is.0 is.2)
answer_unended order events.Settle answer is = one_line answer is.0 is.1 (settle_line is.0 is.2)
answer_unended order events.Look answer is = one_line answer is.0 is.1 (look_line is.0 is.2)
answer_unended order events.Suspend answer is = one_line answer lines.Epoch is refl
answer_unended order (events.Poke frame word value) answer is = one_line answer (lines.Poke frame word value) is refl
answer_unended order (events.Key name text) answer is = one_line answer (lines.Key name text) is refl
answer_unended order events.Dump answer is = ring_words _ _ answer is
answer_unended order event answer is = no_lines answer is

answers_unended : (order : ℕ) (schedule : List Event) (answers : List Line) → AnswersAll order schedule answers → list_any is_end answers ≡ false
answers_unended order [] answers is = no_lines answers is
answers_unended order (event ∷ schedule) answers is =
    ap (list_any is_end) is.2
    ∙ (list_any-append is_end is.0 is.1
    ∙ (ap (λ (b : Bool). b || list_any is_end is.1) (answer_unended order event is.0 is.3) ∙ answers_unended order schedule is.1 is.4))

end_echoes : (line : Line) → is_end line ≡ true → is_echo line ≡ true
end_echoes lines.End is = refl
end_echoes line is = absurd (true≢false (sym is))

unended : (order : ℕ) (schedule : List Event) (report : List Line) → AnswersAll order schedule (filter is_echo report) → list_any is_end report ≡ false
unended order schedule report answers = sym (any-filter_same is_end is_echo true end_echoes report) ∙ answers_unended order schedule (filter is_echo report) answers

-- ---- the order

neither : (a b : Bool) → (a || b) ≡ false → a ≡ false
neither true b none = absurd (true≢false none)
neither false b none = refl

-- moves stand only where `begin` says so
shown_by : (config : Options) (detail : Detail) (before : List Line) (line : Line) → (detail ≡ Lines → is_move line ≡ false) → IsTrue (is_move line) → list_any shows_moves (lines.Begin config detail ∷ before) ≡ true
shown_by config Lines before line unmoved moves = absurd (true≢false (sym moves ∙ unmoved refl))
shown_by config Moves before line unmoved moves = refl

begins : (config : Options) (detail : Detail) → IsOrderAt [] (lines.Begin config detail)
begins config detail = record { first = λ none. refl; later = λ some. absurd (some refl); ended = refl; shown = λ moves. absurd (true≢false (sym moves)) }

-- no end is before a line
unended_before : (report before after : List Line) (line : Line) → list_any is_end report ≡ false → report ≡ before ++ line ∷ after → list_any is_end before ≡ false
unended_before report before after line none is = neither (list_any is_end before) (list_any is_end (line ∷ after)) (sym (list_any-append is_end before (line ∷ after)) ∙ (ap (list_any is_end) (sym is) ∙ none))

goes_on : (config : Options) (detail : Detail) (before after rest : List Line) (line : Line) → IsBody detail rest → list_any is_end rest ≡ false → rest ≡ before ++ line ∷ after → IsOrderAt (lines.Begin config detail ∷ before) line
goes_on config detail before after rest line body none is = record {
  first = λ empty. absurd (cc);
  later = λ some. all_there (λ (x : Line). is_begin x ≡ false) before after line (subst (λ (ls : List Line). All (λ (x : Line). is_begin x ≡ false) ls) is body.once);
  ended = unended_before rest before after line none is;
  shown = shown_by config detail before line (λ lines. all_there (λ (x : Line). is_move x ≡ false) before after line (subst (λ (ls : List Line). All (λ (x : Line). is_move x ≡ false) ls) is (body.unmoved lines)));
}

ordered : (config : Options) (detail : Detail) (before after rest : List Line) (line : Line) → IsBody detail rest → list_any is_end rest ≡ false → lines.Begin config detail ∷ rest ≡ before ++ line ∷ after → IsOrderAt before line
ordered config detail [] after rest line body none is =
    let heads : lines.Begin config detail ≡ line = cc in
    subst (λ (x : Line). IsOrderAt [] x) heads (begins config detail)
ordered config detail (first ∷ before) after rest line body none is =
    let heads : lines.Begin config detail ≡ first = cc in
    let tails : rest ≡ before ++ line ∷ after = cc in
    subst (λ (x : Line). IsOrderAt (x ∷ before) line) heads (goes_on config detail before after rest line body none tails)

pub answers_in_order : (config : Options) (detail : Detail) (schedule : List Event) (rest : List Line) → IsBody detail rest → AnswersAll config.order schedule (filter is_echo (lines.Begin config detail ∷ rest))
    → Obeys IsOrderAt (lines.Begin config detail ∷ rest)
answers_in_order config detail schedule rest body answers before after line is = ordered config detail before after rest line body (unended config.order schedule (lines.Begin config detail ∷ rest) answers) is

pub echo_in_order : (config : Options) (detail : Detail) (schedule : List Event) (rest : List Line) → IsBody detail rest → Echoes config detail schedule (lines.Begin config detail ∷ rest) → Obeys IsOrderAt (lines.Begin config detail ∷ rest)
echo_in_order config detail schedule rest body echo =
    let middle : List Line = echo.2.0 in
    let whole : lines.Begin config detail ∷ rest ≡ lines.Begin config detail ∷ middle ++ lines.End ∷ [] = echo.1 ∙ ap (λ (ls : List Line). ls ++ lines.End ∷ []) echo.2.1 in
    let tails : rest ≡ middle ++ lines.End ∷ [] = cc in
    let shorter : IsBody detail middle = record {
      once = all_before (λ (x : Line). is_begin x ≡ false) middle (lines.End ∷ []) (subst (λ (ls : List Line). All (λ (x : Line). is_begin x ≡ false) ls) tails body.once);
      unmoved = λ is. all_before (λ (x : Line). is_move x ≡ false) middle (lines.End ∷ []) (subst (λ (ls : List Line). All (λ (x : Line). is_move x ≡ false) ls) tails (body.unmoved is));
    } in
    let last : IsOrderAt (lines.Begin config detail ∷ middle) lines.End = record {
      first = λ empty. absurd (cc);
      later = λ some. refl;
      ended = unended config.order schedule (lines.Begin config detail ∷ middle) echo.2.2;
      shown = λ moves. absurd (true≢false (sym moves));
    } in
    subst (λ (ls : List Line). Obeys IsOrderAt ls) (sym whole) (obeys_more IsOrderAt (lines.Begin config detail ∷ middle) lines.End (answers_in_order config detail schedule middle shorter echo.2.2) last)
