-- Two texts that begin with the same lines, and the events that lines ask for.
use Rattle.std.proofs.Common.{◌≡◌, ◌≢◌, ℕ, ◌+◌, List, [], ◌∷◌, ◌++◌, length, length-append, refl, sym, ap, ◌∙◌, subst, arith}
use Rattle.schedule_text.specs.declared.event.Event.{Event}
use Rattle.schedule_text.specs.Event.{IsReadOf}
use Rattle.schedule_run.specs.Reading.{text_of, HasNoLineFeed, first_line, IsBadLine, AreLinesOf, last_line, IsWholeSchedule, HasBadLine}
use Rattle.schedule_run.proofs.Lines.{first_line_whole, first_line_all}

pub text_first : (line text last : List ℕ) → ((line ++ 10 ∷ []) ++ text) ++ last ≡ line ++ 10 ∷ (text ++ last)
text_first [] text last = refl
text_first (b ∷ line) text last = ap (λ l. b ∷ l) (text_first line text last)

tails : (a b : ℕ) (x y : List ℕ) → a ∷ x ≡ b ∷ y → x ≡ y
tails a b x y e = cc

after_feed : (line x y : List ℕ) → line ++ 10 ∷ x ≡ line ++ 10 ∷ y → x ≡ y
after_feed [] x y e = tails 10 10 x y e
after_feed (b ∷ line) x y e = after_feed line x y (tails b b (line ++ 10 ∷ x) (line ++ 10 ∷ y) e)

-- two texts that begin with a line begin with the same one
pub same_line : (line other x y : List ℕ) → HasNoLineFeed line → HasNoLineFeed other → line ++ 10 ∷ x ≡ other ++ 10 ∷ y → (line ≡ other) × (x ≡ y)
same_line line other x y one two e =
    let same : line ≡ other = sym (first_line_whole line x one) ∙ (ap first_line e ∙ first_line_whole other y two) in
    (same, after_feed line x y (e ∙ ap (λ l. l ++ 10 ∷ y) (sym same)))

-- a text without a line feed begins with no line that has one
pub no_line : (last other y : List ℕ) → HasNoLineFeed last → HasNoLineFeed other → last ≡ other ++ 10 ∷ y → ⊥
no_line last other y one two e =
    let same : last ≡ other = sym (first_line_all last one) ∙ (ap first_line e ∙ first_line_whole other y two) in
    let long : length last ≡ length other + length (10 ∷ y) = ap length e ∙ length-append other (10 ∷ y) in
    let short : length last ≡ length other = ap length same in
    omega arith

pub never_empty : (other y : List ℕ) → [] ≡ other ++ 10 ∷ y → ⊥
never_empty other y e =
    let long : 0 ≡ length other + length (10 ∷ y) = ap length e ∙ length-append other (10 ∷ y) in
    omega arith

pub no_bad : (lines others : List (List ℕ)) (last rest : List ℕ) (events asked : List Event) → text_of lines ++ last ≡ text_of others ++ rest → AreLinesOf (lines ++ last_line last) events → AreLinesOf others asked → rest ≢ [] → IsBadLine (first_line rest) → ⊥
no_bad [] [] [] rest events asked e are too some bad = some (sym e)
no_bad [] [] (b ∷ last) rest events asked e are too some bad =
    let first : b ∷ last ≡ first_line rest = sym (first_line_all (b ∷ last) are.2) ∙ ap first_line e in
    bad are.0 (subst (λ line. IsReadOf are.0 line) first are.3)
no_bad (line ∷ lines) [] last rest events asked e are too some bad =
    let first : line ≡ first_line rest = sym (first_line_whole line (text_of lines ++ last) are.2) ∙ ap first_line (sym (text_first line (text_of lines) last) ∙ e) in
    bad are.0 (subst (λ line. IsReadOf are.0 line) first are.3)
no_bad [] (other ∷ others) [] rest events asked e are too some bad = never_empty other (text_of others ++ rest) (e ∙ text_first other (text_of others) rest)
no_bad [] (other ∷ others) (b ∷ last) rest events asked e are too some bad =
    no_line (b ∷ last) other (text_of others ++ rest) are.2 too.2 (e ∙ text_first other (text_of others) rest)
no_bad (line ∷ lines) (other ∷ others) last rest events asked e are too some bad =
    let same = same_line line other (text_of lines ++ last) (text_of others ++ rest) are.2 too.2 (sym (text_first line (text_of lines) last) ∙ (e ∙ text_first other (text_of others) rest)) in
    no_bad lines others last rest are.1 too.1 same.1 are.5 too.5 some bad

pub whole_or_bad : (limit : ℕ) (bytes : List ℕ) (events asked : List Event) (number : ℕ) → IsWholeSchedule limit bytes events → HasBadLine limit bytes asked number → ⊥
whole_or_bad limit bytes events asked number whole bad =
    no_bad whole.lines bad.lines whole.last bad.rest events asked (sym whole.all ∙ bad.all) whole.are_lines bad.are_lines bad.some bad.bad
