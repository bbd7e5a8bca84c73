-- Lines of a schedule, over plain lists.
use Rattle.std.specs.Prelude.{nat_lt, nat_le, ◌&&◌}
use Rattle.std.specs.List.{list_all}
use Rattle.line_text.proofs.Both.{both_true}
use Rattle.line_text.specs.Texts.{is_key_name, is_key_text, is_name_byte, is_graphic}
use Rattle.std.proofs.Common.{◌≡◌, ◌≢◌, ℕ, ◌+◌, ◌*◌, ◌<◌, ◌≤◌, ◌^◌, true, not, ◌==◌, cond, List, [], ◌∷◌, ◌++◌, length, Option, Some, None, refl, sym, ap, ◌∙◌, subst, arith, append_assoc, append-nil, length-append, decimal, codes, option_to_list}
use Rattle.std.proofs.lemmas.Bool.Decides.{nat_tests}
use Rattle.std.proofs.lemmas.List.Sums.{take_while-cons}
use Rattle.std.proofs.lemmas.List.Elements.{All-head, All-tail}
use Rattle.std.proofs.lemmas.List.Concat.{flat_map-append}
use Rattle.std.proofs.lemmas.Fmt.{length-decimal-le}
use Rattle.line_text.specs.Words.{joined, spaced}
use Rattle.line_text.specs.Numbers.{hex8}
use Rattle.blk_base.specs.declared.config.Submission.TheVariants as submissions
use Rattle.blk_base.specs.declared.parts.End.{End}
use Rattle.blk_base.specs.declared.parts.End.TheVariants as ends
use Rattle.schedule_text.specs.declared.event.Event.{Event}
use Rattle.schedule_text.specs.declared.event.Event.TheVariants as events
use Rattle.schedule_text.specs.Line.{submission_words}
use Rattle.schedule_text.specs.Event.{event_text, end_word, EventHasWidths, is_event_allowed, IsReadOf}
use Rattle.schedule_run.specs.Reading.{text_of, HasNoLineFeed, first_line, IsBadLine, AreLinesOf}

is_no_feed : (b : ℕ) → b ≢ 10 → not (b == 10) ≡ true
is_no_feed b h = grind (arith, nat_tests)

first_line-more : (b : ℕ) (bytes : List ℕ) → b ≢ 10 → first_line (b ∷ bytes) ≡ b ∷ first_line bytes
first_line-more b bytes h = take_while-cons (λ b. not (b == 10)) b bytes ∙ ap (λ t. cond t (b ∷ first_line bytes) []) (is_no_feed b h)

-- the first line of a line with its line feed, and more
pub first_line_whole : (line more : List ℕ) → HasNoLineFeed line → first_line (line ++ 10 ∷ more) ≡ line
first_line_whole [] more u = take_while-cons (λ b. not (b == 10)) 10 more
first_line_whole (b ∷ line) more u =
    first_line-more b (line ++ 10 ∷ more) (All-head (λ (b : ℕ). b ≢ 10) b line u)
    ∙ ap (λ l. b ∷ l) (first_line_whole line more (All-tail (λ (b : ℕ). b ≢ 10) b line u))

pub first_line_all : (line : List ℕ) → HasNoLineFeed line → first_line line ≡ line
first_line_all [] u = refl
first_line_all (b ∷ line) u =
    first_line-more b line (All-head (λ (b : ℕ). b ≢ 10) b line u)
    ∙ ap (λ l. b ∷ l) (first_line_all line (All-tail (λ (b : ℕ). b ≢ 10) b line u))

-- bytes without a line feed are in the first line
pub first_line_long : (part more : List ℕ) → HasNoLineFeed part → length part ≤ length (first_line (part ++ more))
first_line_long [] more u = omega arith
first_line_long (b ∷ part) more u =
    let e : length (first_line (b ∷ (part ++ more))) ≡ length (b ∷ first_line (part ++ more)) =
    ap length (first_line-more b (part ++ more) (All-head (λ (b : ℕ). b ≢ 10) b part u)) in
    let less = first_line_long part more (All-tail (λ (b : ℕ). b ≢ 10) b part u) in
    omega arith

end_short : (end : End) → length (end_word end) ≤ 5
end_short ends.Front = omega arith
end_short ends.Back = omega arith

long_short : (n : ℕ) → n < 2 ^ 64 → length (decimal n) ≤ 20
long_short n h = length-decimal-le 20 n (omega arith) (omega arith) h

word_short : (n : ℕ) → n < 2 ^ 32 → length (decimal n) ≤ 10
word_short n h = length-decimal-le 10 n (omega arith) (omega arith) (omega arith)

hex_short : (n : ℕ) → length (hex8 n) ≤ 8
unfolding hex8
hex_short n = omega arith

two_words : (w a : List ℕ) → length (joined (w ∷ a ∷ [])) ≡ length w + length a + 1
two_words w a = simp (length-append {A = ℕ}) (omega arith)

three_words : (w a b : List ℕ) → length (joined (w ∷ a ∷ b ∷ [])) ≡ length w + length a + length b + 2
three_words w a b = simp (length-append {A = ℕ}) (omega arith)

four_words : (v w a b : List ℕ) → length (joined (v ∷ w ∷ a ∷ b ∷ [])) ≡ length v + length w + length a + length b + 3
four_words v w a b = simp (length-append {A = ℕ}) (omega arith)

five_words : (v w a b c : List ℕ) → length (joined (v ∷ w ∷ a ∷ b ∷ c ∷ [])) ≡ length v + length w + length a + length b + length c + 4
five_words v w a b c = simp (length-append {A = ℕ}) (omega arith)

-- the name and the text of a key are short
name_short : (name : List ℕ) → is_key_name name ≡ true → length name ≤ 32
unfolding is_key_name
name_short name e = let sized = both_true (nat_lt 0 (length name) && nat_le (length name) 32) (list_all is_name_byte name) e in grind (arith, nat_tests)

text_short : (text : List ℕ) → is_key_text text ≡ true → length text ≤ 64
unfolding is_key_text
text_short text e = let sized = both_true (nat_lt 0 (length text) && nat_le (length text) 64) (list_all is_graphic text) e in grind (arith, nat_tests)

-- the text of an event is short
allowed_short : (event : Event) → EventHasWidths event → is_event_allowed event ≡ true → length (event_text event) ≤ 128
allowed_short (events.Submit (submissions.Read s c)) h e =
    omega (arith, four_words (codes "submit") (codes "read") (decimal s) (decimal c), long_short s h.0, word_short c h.1.1)
allowed_short (events.Submit (submissions.Write s c t)) h e =
    omega (arith, five_words (codes "submit") (codes "write") (decimal s) (decimal c) (hex8 t), long_short s h.0, word_short c h.1.1, hex_short t)
allowed_short (events.Submit (submissions.Barrier s c t)) h e =
    omega (arith, five_words (codes "submit") (codes "barrier") (decimal s) (decimal c) (hex8 t), long_short s h.0, word_short c h.1.1, hex_short t)
allowed_short (events.Submit submissions.Flush) h e = omega arith
allowed_short (events.Submit (submissions.Discard s c)) h e =
    omega (arith, four_words (codes "submit") (codes "discard") (decimal s) (decimal c), long_short s h.0, word_short c h.1.1)
allowed_short (events.Front n) h e = omega (arith, two_words (codes "front") (decimal n), word_short n h)
allowed_short (events.Back n) h e = omega (arith, two_words (codes "back") (decimal n), word_short n h)
allowed_short (events.Job k n) h e = omega (arith, three_words (codes "job") (decimal k) (decimal n), word_short k h.0, word_short n h.1)
allowed_short (events.Turn n) h e = omega (arith, two_words (codes "turn") (decimal n), word_short n h)
allowed_short events.Settle h e = omega arith
allowed_short events.Look h e = omega arith
allowed_short (events.Notify end) h e = omega (arith, two_words (codes "notify") (end_word end), end_short end)
allowed_short (events.Close end) h e = omega (arith, two_words (codes "close") (end_word end), end_short end)
allowed_short (events.Poke f w v) h e = omega (arith, four_words (codes "poke") (decimal f) (decimal w) (decimal v), word_short f h.0, word_short w h.1, word_short v h.2)
allowed_short (events.Key name text) h e =
    let both = both_true (is_key_name name) (is_key_text text) e in
    omega (arith, three_words (codes "key") name text, name_short name both.0, text_short text both.1)
allowed_short events.Suspend h e = omega arith
allowed_short events.Dump h e = omega arith

-- a longer line is none of the grammar
pub long_is_bad : (line : List ℕ) → 128 < length line → IsBadLine line
long_is_bad [] h None is = omega arith
long_is_bad (b ∷ bytes) h None is = omega (arith, is.1)
long_is_bad line h (Some event) is =
    let short = allowed_short event is.widths is.allowed in
    let same : length (event_text event) ≡ length line = ap length is.text in
    omega arith

-- the text of any event has four bytes or more
pub event_long : (event : Event) → 4 ≤ length (event_text event)
event_long (events.Submit job) = omega (arith, length-append (codes "submit") (spaced (submission_words job)))
event_long (events.Front n) = omega (arith, two_words (codes "front") (decimal n))
event_long (events.Back n) = omega (arith, two_words (codes "back") (decimal n))
event_long (events.Job k n) = omega (arith, three_words (codes "job") (decimal k) (decimal n))
event_long (events.Turn n) = omega (arith, two_words (codes "turn") (decimal n))
event_long events.Settle = omega arith
event_long events.Look = omega arith
event_long (events.Notify end) = omega (arith, two_words (codes "notify") (end_word end))
event_long events.Suspend = omega arith
event_long (events.Close end) = omega (arith, two_words (codes "close") (end_word end))
event_long (events.Poke f w v) = omega arith
event_long (events.Key name text) = omega (arith, three_words (codes "key") name text)
event_long events.Dump = omega arith

line_long : (line : List ℕ) (read : Option Event) → IsReadOf read line → 4 * length (option_to_list read) ≤ length line
line_long line None is = omega arith
line_long line (Some event) is =
    let long = event_long event in
    let same : length (event_text event) ≡ length line = ap length is.text in
    omega arith

pub text-cons : (line : List ℕ) (lines : List (List ℕ)) → length (text_of (line ∷ lines)) ≡ length line + 1 + length (text_of lines)
text-cons line lines = simp (length-append {A = ℕ}) (omega arith)

-- each event's line has five bytes or more, with its line feed
pub events_few : (lines : List (List ℕ)) (asked : List Event) → AreLinesOf lines asked → 5 * length asked ≤ length (text_of lines)
events_few [] asked are = let e : length asked ≡ 0 = ap length are in omega arith
events_few (line ∷ lines) asked are =
    let more = events_few lines are.1 are.5 in
    let here = line_long line are.0 are.3 in
    let one : length (option_to_list are.0) ≤ 1 = at_most_one are.0 in
    let all : length asked ≡ length (option_to_list are.0) + length are.1 = ap length are.4 ∙ length-append (option_to_list are.0) are.1 in
    omega (arith, text-cons line lines)
  where
    at_most_one : (read : Option Event) → length (option_to_list read) ≤ 1
    at_most_one None = omega arith
    at_most_one (Some event) = omega arith

pub lines_few : (lines : List (List ℕ)) → length lines ≤ length (text_of lines)
lines_few [] = omega arith
lines_few (line ∷ lines) = omega (arith, text-cons line lines, lines_few lines)

-- lines, and then more
pub lines_on : (a b : List (List ℕ)) (es fs : List Event) → AreLinesOf a es → AreLinesOf b fs → AreLinesOf (a ++ b) (es ++ fs)
lines_on [] b es fs p q = subst (λ (xs : List Event). AreLinesOf b (xs ++ fs)) (sym p) q
lines_on (line ∷ a) b es fs p q =
    (p.0, p.1 ++ fs, p.2, p.3, ap (λ (xs : List Event). xs ++ fs) p.4 ∙ append_assoc (option_to_list p.0) p.1 fs, lines_on a b p.1 fs p.5 q)

pub text_on : (a b : List (List ℕ)) → text_of (a ++ b) ≡ text_of a ++ text_of b
text_on a b = flat_map-append (λ line. line ++ 10 ∷ []) a b

-- one line
pub lines_one : (line : List ℕ) (read : Option Event) → HasNoLineFeed line → IsReadOf read line → AreLinesOf (line ∷ []) (option_to_list read)
lines_one line read u is = (read, [], u, is, sym (append-nil (option_to_list read)), refl)
