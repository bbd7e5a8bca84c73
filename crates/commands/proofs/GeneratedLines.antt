-- The text of a generated schedule asks for exactly this schedule.
use Rattle.std.proofs.Common.{◌≡◌, ℕ, List, [], ◌∷◌, ◌++◌, map, Option, Some, None, All, option_to_list, refl, sym, ap, ◌∙◌, subst, append-nil}
use Rattle.std.proofs.lemmas.List.Elements.{All-head, All-tail}
use Rattle.schedule_text.specs.declared.event.Event.{Event}
use Rattle.schedule_text.specs.Event.{event_text, IsReadOf}
use Rattle.schedule_run.specs.Reading.{text_of, AreLinesOf, last_line, IsWholeSchedule, HasBadLine}
use Rattle.bench_load.specs.Generated.{schedule_of}
use Rattle.bench_load.specs.Text.{bytes_of, schedule_bytes}
use Rattle.bench_load.specs.Grammar.{IsSpoken}
use Rattle.bench_load.proofs.Spoken.{each_is_spoken}
use Rattle.commands.proofs.SameLines.{text_first, same_line, no_line, never_empty, no_bad}

-- ---- the lines of the text

are_lines : (es : List Event) → All IsSpoken es → AreLinesOf (map event_text es) es
are_lines [] s = refl
are_lines (e ∷ es) s =
    let here = All-head IsSpoken e es s in
    (Some e, es, here.unbroken, here.is, refl, are_lines es (All-tail IsSpoken e es s))

same_text : (es : List Event) → text_of (map event_text es) ≡ bytes_of es
same_text [] = refl
same_text (e ∷ es) = ap (λ (t : List ℕ). (event_text e ++ 10 ∷ []) ++ t) (same_text es)

line_first : (line text : List ℕ) → (line ++ 10 ∷ []) ++ text ≡ line ++ 10 ∷ text
line_first [] text = refl
line_first (b ∷ line) text = ap (λ (l : List ℕ). b ∷ l) (line_first line text)

-- ---- no other events are asked for

one_event : (event : Event) (read : Option Event) → IsSpoken event → IsReadOf read (event_text event) → read ≡ Some event
one_event event None s h = absurd (s.speaks h)
one_event event (Some other) s h = ap Some (s.only other h)

empty_text : (b : ℕ) (bytes : List ℕ) → [] ≡ b ∷ bytes → ⊥
empty_text b bytes e = cc

same_events : (es asked : List Event) (lines : List (List ℕ)) (last : List ℕ) → bytes_of es ≡ text_of lines ++ last → All IsSpoken es → AreLinesOf (lines ++ last_line last) asked → asked ≡ es
same_events [] asked [] [] e s are = are
same_events [] asked [] (b ∷ last) e s are = absurd (empty_text b last e)
same_events [] asked (line ∷ lines) last e s are = absurd (never_empty line (text_of lines ++ last) (e ∙ text_first line (text_of lines) last))
same_events (x ∷ xs) asked [] [] e s are = absurd (never_empty (event_text x) (bytes_of xs) (sym e ∙ line_first (event_text x) (bytes_of xs)))
same_events (x ∷ xs) asked [] (b ∷ last) e s are =
    absurd (no_line (b ∷ last) (event_text x) (bytes_of xs) are.2 (All-head IsSpoken x xs s).unbroken (sym e ∙ line_first (event_text x) (bytes_of xs)))
same_events (x ∷ xs) asked (line ∷ lines) last e s are =
    let here = All-head IsSpoken x xs s in
    let same = same_line line (event_text x) (text_of lines ++ last) (bytes_of xs) are.2 here.unbroken (sym (text_first line (text_of lines) last) ∙ (sym e ∙ line_first (event_text x) (bytes_of xs))) in
    let read : are.0 ≡ Some x = one_event x are.0 here (subst (λ l. IsReadOf are.0 l) same.0 are.3) in
    let rest : are.1 ≡ xs = same_events xs are.1 lines last (sym same.1) (All-tail IsSpoken x xs s) are.5 in
    are.4 ∙ (ap (λ (r : Option Event). option_to_list r ++ are.1) read ∙ ap (λ (r : List Event). x ∷ r) rest)

pub exactly : (limit seed count : ℕ) (asked : List Event) → IsWholeSchedule limit (schedule_bytes seed count) asked → asked ≡ schedule_of seed count
exactly limit seed count asked h = same_events (schedule_of seed count) asked h.lines h.last h.all (each_is_spoken seed count) h.are_lines

-- ---- and no line is bad

pub no_bad_line : (limit seed count number : ℕ) (asked : List Event) → HasBadLine limit (schedule_bytes seed count) asked number → ⊥
no_bad_line limit seed count number asked h =
    let lines = map event_text (schedule_of seed count) in
    let are : AreLinesOf lines (schedule_of seed count) = are_lines (schedule_of seed count) (each_is_spoken seed count) in
    let all : text_of lines ++ [] ≡ text_of h.lines ++ h.rest = append-nil (text_of lines) ∙ (same_text (schedule_of seed count) ∙ h.all) in
    no_bad lines h.lines [] h.rest (schedule_of seed count) asked all (subst (λ l. AreLinesOf l (schedule_of seed count)) (sym (append-nil lines)) are) h.are_lines h.some h.bad
