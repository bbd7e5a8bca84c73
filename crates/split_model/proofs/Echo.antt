-- The lines that echo a schedule: moves show none; and what a submission, an overwritten word and a look at the ring's words show answers them.
use Rattle.std.proofs.Common.{◌≡◌, ℕ, zero, suc, List, [], ◌∷◌, ◌++◌, Result, Ok, Err, Bool, true, false, refl, ap, sym, ◌∙◌, subst, arith}
use Rattle.std.specs.Prelude.{◌+◌, ◌*◌, ◌/◌, ◌%◌, ◌^◌, ◌<◌, ◌≤◌, filter}
use Rattle.std.specs.List.{AllByRecursion}
use Rattle.std.proofs.lemmas.List.{append-nil}
use Rattle.std.proofs.Math.Nat.{pow-le-pow_right}
use Rattle.std.proofs.lemmas.List.Elements.{filter-append}
use Rattle.blk_base.specs.declared.config.Submission.{Submission}
use Rattle.schedule_text.specs.declared.line.Detail.{Detail}
use Rattle.schedule_text.specs.declared.line.Detail.TheVariants.{Lines, Moves}
use Rattle.schedule_text.specs.declared.line.Line.{Line}
use Rattle.schedule_text.specs.declared.line.Line.TheVariants as lines
use Rattle.blk_base.specs.declared.refusal.Refusal.{Refusal}
use Rattle.plain_disk.specs.Echo.{is_echo, AnswersSubmit, AreRingWords}
use Rattle.xen_pages.specs.Pages.{word_of}
use Rattle.split_model.specs.World.{World, may_suspend}
use Rattle.split_model.specs.Happening.{Happening, Submits, Pokes, OverwritesKey, Suspends, Dumps, Looks, Settles, is_guest_word, is_guest_key, word_lines, ring_lines, happens, lines_at, lines_of, submit_line}
use Rattle.schedule_text.specs.Recorder.{recorded, kept_of}
use Rattle.split_model.proofs.Showing.{MayShow, lines_are}

-- the lines that echo
abbrev pub echo_of : List Line → List Line
echo_of report = filter is_echo report

pub echo-append : (a b : List Line) → echo_of (a ++ b) ≡ echo_of a ++ echo_of b
echo-append a b = filter-append is_echo a b

-- no submission, no word or key that is overwritten, no suspend, and no look
abbrev pub is_move : Happening → Bool
is_move (Submits job) = false
is_move (Pokes frame word value) = false
is_move (OverwritesKey name text) = false
is_move Suspends = false
is_move Dumps = false
is_move (Looks quiet) = false
is_move (Settles quiet) = false
is_move h = true

-- none of what another happening may show echoes
silent : (h : Happening) (line : Line) → is_move h ≡ true → MayShow h line → is_echo line ≡ false
silent (Submits job) line moves shows = absurd (cc)
silent (Pokes frame word value) line moves shows = absurd (cc)
silent (OverwritesKey name text) line moves shows = absurd (cc)
silent Suspends line moves shows = absurd (cc)
silent Dumps line moves shows = absurd (cc)
silent (Looks quiet) line moves shows = absurd (cc)
silent (Settles quiet) line moves shows = absurd (cc)
silent h (lines.Submit id job) moves shows = absurd shows
silent h (lines.Refuse refusal) moves shows = absurd shows
silent h lines.Quiet moves shows = absurd shows
silent h lines.Unsettled moves shows = absurd shows
silent h lines.Busy moves shows = absurd shows
silent h lines.Epoch moves shows = absurd shows
silent h (lines.Poke frame word value) moves shows = absurd shows
silent h (lines.Key name text) moves shows = absurd shows
silent h (lines.Word frame word value) moves shows = absurd shows
silent h lines.End moves shows = absurd shows
silent h line moves shows = refl

both_silent : (a b : List Line) → echo_of a ≡ [] → echo_of b ≡ [] → echo_of (a ++ b) ≡ []
both_silent a b p q = echo-append a b ∙ (ap (λ l. l ++ echo_of b) p ∙ q)

one_silent : (l : Line) → is_echo l ≡ false → echo_of (l ∷ []) ≡ []
one_silent l e = simp e

none_silent : (shown : List Line) → AllByRecursion (λ l. is_echo l ≡ false) shown → echo_of shown ≡ []
none_silent [] none = refl
none_silent (l ∷ shown) none = both_silent (l ∷ []) shown (one_silent l none.0) (none_silent shown none.1)

pub move_silent : (w : World) (h : Happening) → is_move h ≡ true → echo_of (lines_at w h) ≡ []
move_silent w h moves = none_silent (lines_at w h) (lines_are (λ l. is_echo l ≡ false) w h (λ l shows. silent h l moves shows))

-- moves show no line that echoes
pub moves_silent : (hs : List Happening) (w : World) → AllByRecursion (λ h. is_move h ≡ true) hs → echo_of (lines_of hs w) ≡ []
moves_silent [] w m = refl
moves_silent (h ∷ hs) w m = both_silent (lines_at w h) (lines_of hs (happens w h)) (move_silent w h m.0) (moves_silent hs (happens w h) m.1)

pub are_moves-append : (a b : List Happening) → AllByRecursion (λ h. is_move h ≡ true) a → AllByRecursion (λ h. is_move h ≡ true) b → AllByRecursion (λ h. is_move h ≡ true) (a ++ b)
are_moves-append [] b p q = q
are_moves-append (h ∷ a) b p q = (p.0, are_moves-append a b p.1 q)

-- the line of a submission answers it
pub submit_answers : (job : Submission) (result : Result ℕ Refusal) → (line : Line) × (echo_of (submit_line job result ∷ []) ≡ line ∷ []) × AnswersSubmit job line
submit_answers job (Ok number) = (lines.Submit number job, refl, refl)
submit_answers job (Err r) = (submit_line job (Err r), refl, tt)

-- a word that was overwritten is shown
pub poke_echo : (w : World) (frame word value : ℕ) → is_guest_word frame word ≡ true → echo_of (lines_of (Pokes frame word value ∷ []) w) ≡ lines.Poke frame word value ∷ []
poke_echo w frame word value allowed = rw allowed refl

-- so is a key
pub overwritten_echo : (w : World) (name text : List ℕ) → is_guest_key name text ≡ true → echo_of (lines_of (OverwritesKey name text ∷ []) w) ≡ lines.Key name text ∷ []
overwritten_echo w name text allowed = rw allowed refl

-- so is a suspend
pub suspend_echo : (w : World) → may_suspend w ≡ true → echo_of (lines_of (Suspends ∷ []) w) ≡ lines.Epoch ∷ []
suspend_echo w may = rw may refl

-- places from further on, and below a bound that is further on, are as good
later_words : (from to bound : ℕ) (shown : List Line) → from ≤ to → AreRingWords to bound shown → AreRingWords from bound shown
later_words from to bound [] le are = tt
later_words from to bound (lines.Word frame word value ∷ rest) le are = (are.0, are.1, are.2, omega (arith, le, are.3), are.4, are.5, are.6)
later_words from to bound (line ∷ rest) le are = absurd are

wider : (from low high : ℕ) (shown : List Line) → low ≤ high → AreRingWords from low shown → AreRingWords from high shown
wider from low high [] le are = tt
wider from low high (lines.Word frame word value ∷ rest) le are = (are.0, are.1, are.2, are.3, omega (arith, le, are.4), are.5, wider (are.0 + 1) low high rest le are.6)
wider from low high (line ∷ rest) le are = absurd are

-- the words of the ring that aren't 0, from this place on
word_then : (place bound value : ℕ) (rest : List Line) → place < bound → AreRingWords (place + 1) bound rest → AreRingWords place bound (word_lines place value ++ rest)
word_then place bound zero rest within are = later_words place (place + 1) bound rest (omega arith) are
word_then place bound (suc value) rest within are = (place, refl, refl, omega arith, within, (λ e. absurd (cc)), are)

are_ring_words : (pages : List ℕ) (place count : ℕ) → AreRingWords place (place + count) (ring_lines pages place count)
are_ring_words pages place zero = tt
are_ring_words pages place (suc count) =
    word_then place (place + suc count) (word_of pages (2 + place / 1024) (place % 1024)) (ring_lines pages (place + 1) count) (omega arith)
    (subst (λ bound. AreRingWords (place + 1) bound (ring_lines pages (place + 1) count)) (omega arith) (are_ring_words pages (place + 1) count))

word_echo : (place value : ℕ) → echo_of (word_lines place value) ≡ word_lines place value
word_echo place zero = refl
word_echo place (suc value) = refl

-- they all echo
words_echo : (pages : List ℕ) (place count : ℕ) → echo_of (ring_lines pages place count) ≡ ring_lines pages place count
words_echo pages place zero = refl
words_echo pages place (suc count) =
    echo-append (word_lines place (word_of pages (2 + place / 1024) (place % 1024))) (ring_lines pages (place + 1) count)
    ∙ (ap (λ l. l ++ echo_of (ring_lines pages (place + 1) count)) (word_echo place (word_of pages (2 + place / 1024) (place % 1024)))
    ∙ ap (λ l. word_lines place (word_of pages (2 + place / 1024) (place % 1024)) ++ l) (words_echo pages (place + 1) count))

dump_echo : (w : World) (count : ℕ) → echo_of (ring_lines w.under.pages 0 count ++ []) ≡ ring_lines w.under.pages 0 count
dump_echo w count = ap echo_of (append-nil (ring_lines w.under.pages 0 count)) ∙ words_echo w.under.pages 0 count

-- the front's ring is a part of one of no fewer pages
as_many_words : (own order : ℕ) → own ≤ order → 1024 * 2 ^ own ≤ 1024 * 2 ^ order
as_many_words own order narrow = let pages : 2 ^ own ≤ 2 ^ order = pow-le-pow_right (omega arith) narrow in omega arith

-- the lines of a look at the ring's words answer it
pub dump_answers : (order : ℕ) (w : World) → w.front.shape.order ≤ order → AreRingWords 0 (1024 * 2 ^ order) (echo_of (lines_of (Dumps ∷ []) w))
dump_answers order w narrow =
    let count : ℕ = 1024 * 2 ^ w.front.shape.order in
    wider 0 count (1024 * 2 ^ order) (echo_of (lines_of (Dumps ∷ []) w)) (as_many_words w.front.shape.order order narrow)
    (subst (AreRingWords 0 count) (sym (dump_echo w count)) (subst (λ (bound : ℕ). AreRingWords 0 bound (ring_lines w.under.pages 0 count)) (omega arith) (are_ring_words w.under.pages 0 count)))

kept_echo_one : (d : Detail) (l : Line) → echo_of (recorded d l) ≡ echo_of (l ∷ [])
kept_echo_one Lines (lines.Begin config other) = refl
kept_echo_one Lines (lines.Move move) = refl
kept_echo_one Lines l = refl
kept_echo_one Moves (lines.Begin config other) = refl
kept_echo_one Moves (lines.Move move) = refl
kept_echo_one Moves l = refl

-- a recorder keeps each line that echoes, and no other comes to it
pub kept_echo : (d : Detail) (report : List Line) → echo_of (kept_of d report) ≡ echo_of report
kept_echo d [] = refl
kept_echo d (l ∷ report) =
    echo-append (recorded d l) (kept_of d report)
    ∙ (ap (λ x. x ++ echo_of (kept_of d report)) (kept_echo_one d l)
    ∙ (ap (λ x. echo_of (l ∷ []) ++ x) (kept_echo d report) ∙ sym (echo-append (l ∷ []) report)))
