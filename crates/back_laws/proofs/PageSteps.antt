-- What is left to a job that copies the segments of an INDIRECT, step by step.
use Rattle.std.proofs.Common.{◌≡◌, ℕ, suc, ◌+◌, ◌-◌, ◌*◌, ◌%◌, ◌<◌, ◌≤◌, ◌==◌, ◌||◌, min, Bool, true, false, if◌then◌else◌, List, [], ◌∷◌, ◌++◌, length, drop, map, refl, sym, ap, ◌∙◌, subst, append_assoc, append-nil, length-append, arith}
use Rattle.std.specs.List.{range_with_len}
use Rattle.std.proofs.lemmas.Bool.Decides.{nat_tests}
use Rattle.blk_base.specs.declared.operation.Status.TheVariants.{Error}
use Rattle.blk_base.specs.declared.parts.Mapping.{Mapping}
use Rattle.blk_base.specs.declared.parts.Mode.TheVariants.{ReadOnly}
use Rattle.blk_base.specs.declared.ask.BackAsk.{BackAsk}
use Rattle.blk_base.specs.declared.ask.BackAnswer.{BackAnswer}
use Rattle.blk_base.specs.declared.ask.BackAnswer.TheVariants as answer
use Rattle.blk_layout.specs.declared.segment.Segment.{Segment}
use Rattle.blk_layout.specs.Entry.{segment_of}
use Rattle.back_jobs.specs.declared.stage.JobStage.{JobStage}
use Rattle.back_jobs.specs.declared.stage.JobStage.TheVariants as stage
use Rattle.back_jobs.specs.Work.{Work, ask_at, step_at, page_ask, is_copied_out, copied, judged, IsAnswer}
use Rattle.report_rules.specs.declared.step.Step.{Step}
use Rattle.report_rules.specs.declared.step.Step.TheVariants as steps
use Rattle.report_rules.specs.Step.{steps_of}
use Rattle.report_rules.specs.Work.{pages_of}
use Rattle.back_laws.specs.JobSteps.{IsNext, left_by, is_failure, word_given}
use Rattle.back_laws.proofs.PageWords.{WordsOf, copied_words}

-- the words of a page from one on, where so many segments are left from its next one on, and the pages after it
pub page_rest : (left place odd : ℕ) → List ℕ → List Step
page_rest left place odd pages = map steps.Read (range_with_len (2 * place + odd) (2 * min (512 - place) left - odd)) ++ steps_of (pages_of (left - (512 - place)) (drop 1 pages))

abbrev left_in : Work → ℕ
left_in t = t.named - length t.rest

abbrev pub to_copy_at : JobStage → Work → List Step
to_copy_at stage.MapPage t = steps_of (pages_of (left_in t) t.pages)
to_copy_at (stage.PageReference m) t = page_rest (left_in t) (length t.rest % 512) 0 t.pages
to_copy_at (stage.PageSectors m gref) t = page_rest (left_in t) (length t.rest % 512) 1 t.pages
to_copy_at (stage.UnmapPage m) t = steps_of (pages_of (left_in t) (drop 1 t.pages))
to_copy_at s t = []

-- the segments that were copied are those of the words read; at a page's beginning the pages before it are full
abbrev pub CopiesAt : JobStage → Work → List ℕ → Type 0
CopiesAt stage.MapPage t words = (length t.rest < t.named) × (length t.rest % 512 ≡ 0) × WordsOf t.rest words
CopiesAt (stage.PageReference m) t words = (length t.rest < t.named) × WordsOf t.rest words
CopiesAt (stage.PageSectors m gref) t words = (length t.rest < t.named) × (before : List ℕ) × (words ≡ before ++ gref ∷ []) × WordsOf t.rest before
CopiesAt (stage.UnmapPage m) t words = (length t.rest ≤ t.named) × (is_copied_out t t.rest ≡ true) × WordsOf t.rest words
CopiesAt s t words = ⊥

none_left : (pages : List ℕ) → steps_of (pages_of 0 pages) ≡ []
none_left [] = refl
none_left (gref ∷ pages) = refl

map_first : (left gref : ℕ) (pages : List ℕ) → 0 < left → steps_of (pages_of left (gref ∷ pages)) ≡ steps.Map gref ReadOnly ∷ page_rest left 0 0 (gref ∷ pages)
unfolding page_rest
map_first left gref pages some = rw none (ap (λ (n : ℕ). steps.Map gref ReadOnly ∷ (map steps.Read (range_with_len 0 n) ++ steps_of (pages_of (left - 512) pages))) all)
  where
    none : (left == 0) ≡ false
    none = grind (arith, nat_tests)

    all : 2 * min 512 left ≡ 2 * min (512 - 0) left - 0
    all = omega arith

-- the words after both of a segment
page_after : (left place : ℕ) → List ℕ → List Step
page_after left place pages = map steps.Read (range_with_len (2 * place + 1 + 1) (2 * min (512 - place) left - 1 - 1)) ++ steps_of (pages_of (left - (512 - place)) (drop 1 pages))

reference_first : (left place : ℕ) (pages : List ℕ) → 0 < left → place < 512 → page_rest left place 0 pages ≡ steps.Read (2 * place + 0) ∷ page_rest left place 1 pages
unfolding page_rest
reference_first left place pages some inside =
    let one : 2 * min (512 - place) left - 0 ≡ suc (2 * min (512 - place) left - 1) = omega arith in
    let on : 2 * place + 0 + 1 ≡ 2 * place + 1 = omega arith in
    let later : List Step = steps_of (pages_of (left - (512 - place)) (drop 1 pages)) in
    ap (λ (n : ℕ). map steps.Read (range_with_len (2 * place + 0) n) ++ later) one
    ∙ ap (λ (n : ℕ). steps.Read (2 * place + 0) ∷ (map steps.Read (range_with_len n (2 * min (512 - place) left - 1)) ++ later)) on

sectors_first : (left place : ℕ) (pages : List ℕ) → 0 < left → place < 512 → page_rest left place 1 pages ≡ steps.Read (2 * place + 1) ∷ page_after left place pages
unfolding page_rest page_after
sectors_first left place pages some inside =
    let one : 2 * min (512 - place) left - 1 ≡ suc (2 * min (512 - place) left - 1 - 1) = omega arith in
    ap (λ (n : ℕ). map steps.Read (range_with_len (2 * place + 1) n) ++ steps_of (pages_of (left - (512 - place)) (drop 1 pages))) one

-- the next segment is in the page, or the page is left
after_more : (named n next : ℕ) (pages : List ℕ) → next ≡ n + 1 → next < named → (next % 512 == 0) ≡ false → page_after (named - n) (n % 512) pages ≡ page_rest (named - next) (next % 512) 0 pages
unfolding page_rest page_after
after_more named n next pages is more inside =
    let place : next % 512 ≡ n % 512 + 1 = on n next is (some (next % 512) inside) in
    let first : 2 * (n % 512) + 1 + 1 ≡ 2 * (next % 512) + 0 = omega arith in
    let count : 2 * min (512 - n % 512) (named - n) - 1 - 1 ≡ 2 * min (512 - next % 512) (named - next) - 0 = omega arith in
    let rest : named - n - (512 - n % 512) ≡ named - next - (512 - next % 512) = omega arith in
    ap (λ (a : ℕ). map steps.Read (range_with_len a (2 * min (512 - n % 512) (named - n) - 1 - 1)) ++ steps_of (pages_of (named - n - (512 - n % 512)) (drop 1 pages))) first
    ∙ (ap (λ (a : ℕ). map steps.Read (range_with_len (2 * (next % 512) + 0) a) ++ steps_of (pages_of (named - n - (512 - n % 512)) (drop 1 pages))) count
    ∙ ap (λ (a : ℕ). map steps.Read (range_with_len (2 * (next % 512) + 0) (2 * min (512 - next % 512) (named - next) - 0)) ++ steps_of (pages_of a (drop 1 pages))) rest)
  where
    some : (a : ℕ) → (a == 0) ≡ false → 0 < a
    some a other = grind (arith, nat_tests)

    on : (a b : ℕ) → b ≡ a + 1 → 0 < b % 512 → b % 512 ≡ a % 512 + 1
    on a b is some = omega arith

after_last : (named n next : ℕ) (pages : List ℕ) → next ≡ n + 1 → n < named → ((next == named) || (next % 512 == 0)) ≡ true → page_after (named - n) (n % 512) pages ≡ steps_of (pages_of (named - next) (drop 1 pages))
unfolding page_after
after_last named n next pages is more out = by_test (next == named) refl out
  where
    done : 2 * min (512 - n % 512) (named - n) - 1 - 1 ≡ 0 → named - n - (512 - n % 512) ≡ named - next → page_after (named - n) (n % 512) pages ≡ steps_of (pages_of (named - next) (drop 1 pages))
    done none rest =
        ap (λ (a : ℕ). map steps.Read (range_with_len (2 * (n % 512) + 1 + 1) a) ++ steps_of (pages_of (named - n - (512 - n % 512)) (drop 1 pages))) none
        ∙ ap (λ (a : ℕ). steps_of (pages_of a (drop 1 pages))) rest

    last : (a b : ℕ) → b ≡ a + 1 → b % 512 ≡ 0 → a % 512 ≡ 511
    last a b is none = omega arith

    by_test : (b : Bool) → (next == named) ≡ b → (b || (next % 512 == 0)) ≡ true → page_after (named - n) (n % 512) pages ≡ steps_of (pages_of (named - next) (drop 1 pages))
    by_test true e h = let all : next ≡ named = grind (arith, nat_tests) in done (omega arith) (omega arith)
    by_test false e h =
        let zero : next % 512 ≡ 0 = grind (arith, nat_tests) in
        let place : n % 512 ≡ 511 = last n next is zero in
        done (omega arith) (omega arith)

-- a job of the same request
abbrev pub IsSame : Work → Work → Type 0
IsSame t u = (u.named ≡ t.named) × (u.disk ≡ t.disk) × (u.size ≡ t.size) × (u.writes ≡ t.writes)

-- an ask is the next step, and what is left after its answer: of the pages, or nothing where a map was refused
pub data Leaves (a : BackAsk) (given : BackAnswer) (t u : Work) (words : List ℕ) (left later : List Step) : Type 0 where
  copies : is_failure given ≡ false → IsSame t u → CopiesAt u.stage u (words ++ word_given given) → left_by a given left ≡ to_copy_at u.stage u ++ later → Leaves a given t u words left later
  refused : is_failure given ≡ true → u.stage ≡ stage.Done Error → left_by a given left ≡ [] → Leaves a given t u words left later

pub record Goes (a : BackAsk) (given : BackAnswer) (t u : Work) (words : List ℕ) (left later : List Step) : Type 0 where
  pub next : IsNext a left
  pub leaves : Leaves a given t u words left later

map_goes : (pages : List ℕ) (t : Work) (given : BackAnswer) (words : List ℕ) (later : List Step) → t.pages ≡ pages → length t.rest < t.named → length t.rest % 512 ≡ 0 → WordsOf t.rest words → IsAnswer (page_ask pages) given
    → Goes (page_ask pages) given t (step_at stage.MapPage t given) words (steps_of (pages_of (left_in t) pages) ++ later) later
map_goes [] t given words later is more full of h = absurd h
map_goes (gref ∷ pages) t (answer.Mapped m) words later is more full of h =
    let first = map_first (left_in t) gref pages (omega arith) in
    record {
      next = rw first (refl, refl);
      leaves = copies refl (refl, refl, refl, refl) (more, subst (λ (l : List ℕ). WordsOf t.rest l) (sym (append-nil words)) of)
          (ap (λ (l : List Step). drop 1 (l ++ later)) first ∙ (ap (λ (n : ℕ). page_rest (left_in t) n 0 (gref ∷ pages) ++ later) (sym full) ∙ ap (λ (l : List ℕ). page_rest (left_in t) (length t.rest % 512) 0 l ++ later) (sym is)));
    }
map_goes (gref ∷ pages) t (answer.MapRefused status) words later is more full of h =
    let first = map_first (left_in t) gref pages (omega arith) in
    record { next = rw first (refl, refl); leaves = refused refl refl refl }
map_goes (gref ∷ pages) t given words later is more full of h = absurd h

reference_goes : (t : Work) (m : Mapping) (word : ℕ) (words : List ℕ) (later : List Step) → length t.rest < t.named → WordsOf t.rest words
    → Goes (ask_at (stage.PageReference m) t) (answer.Word word) t (record t { stage = stage.PageSectors m word }) words (to_copy_at (stage.PageReference m) t ++ later) later
reference_goes t m word words later more of =
    let first = reference_first (left_in t) (length t.rest % 512) t.pages (omega arith) (omega arith) in
    record {
      next = rw first refl;
      leaves = copies refl (refl, refl, refl, refl) (more, words, refl, of) (ap (λ (l : List Step). drop 1 (l ++ later)) first);
    }

sectors_goes : (t : Work) (m : Mapping) (gref word : ℕ) (before words : List ℕ) (later : List Step) → length t.rest < t.named → words ≡ before ++ gref ∷ [] → WordsOf t.rest before
    → Goes (ask_at (stage.PageSectors m gref) t) (answer.Word word) t (copied t m (t.rest ++ segment_of gref word ∷ [])) words (to_copy_at (stage.PageSectors m gref) t ++ later) later
sectors_goes t m gref word before words later more is of = record { next = rw first refl; leaves = by_test (is_copied_out t segments) refl }
  where
    segments : List Segment
    segments = t.rest ++ segment_of gref word ∷ []

    first : page_rest (left_in t) (length t.rest % 512) 1 t.pages ≡ steps.Read (2 * (length t.rest % 512) + 1) ∷ page_after (left_in t) (length t.rest % 512) t.pages
    first = sectors_first (left_in t) (length t.rest % 512) t.pages (omega arith) (omega arith)

    one : length segments ≡ length t.rest + 1
    one = length-append t.rest (segment_of gref word ∷ [])

    now : WordsOf segments (words ++ word ∷ [])
    now = subst (λ (l : List ℕ). WordsOf segments l) (sym (ap (λ (l : List ℕ). l ++ word ∷ []) is ∙ append_assoc before (gref ∷ []) (word ∷ []))) (copied_words t.rest before gref word of)

    inside : (n named : ℕ) (out : Bool) → ((n == named) || out) ≡ false → (n == named) ≡ false
    inside n named out h = grind (arith, nat_tests)

    full : (n named : ℕ) (out : Bool) → ((n == named) || out) ≡ false → out ≡ false
    full n named out h = grind (arith, nat_tests)

    fewer : (a n named : ℕ) → n ≡ a + 1 → a < named → (n == named) ≡ false → n < named
    fewer a n named next lt other = grind (arith, nat_tests)

    at_most : (a n named : ℕ) → n ≡ a + 1 → a < named → n ≤ named
    at_most a n named next lt = omega arith

    by_test : (b : Bool) → is_copied_out t segments ≡ b → Leaves (ask_at (stage.PageSectors m gref) t) (answer.Word word) t (record t { rest = segments; stage = if b then stage.UnmapPage m else stage.PageReference m }) words (to_copy_at (stage.PageSectors m gref) t ++ later) later
    by_test true e = copies refl (refl, refl, refl, refl) (at_most (length t.rest) (length segments) t.named one more, e, now)
        (ap (λ (l : List Step). drop 1 (l ++ later)) first ∙ ap (λ (l : List Step). l ++ later) (after_last t.named (length t.rest) (length segments) t.pages one more e))
    by_test false e =
        let less = fewer (length t.rest) (length segments) t.named one more (inside (length segments) t.named (length segments % 512 == 0) e) in
        copies refl (refl, refl, refl, refl) (less, now)
        (ap (λ (l : List Step). drop 1 (l ++ later)) first ∙ ap (λ (l : List Step). l ++ later) (after_more t.named (length t.rest) (length segments) t.pages one less (full (length segments) t.named (length segments % 512 == 0) e)))

-- after the last page all segments are judged
abbrev pub is_last : JobStage → Work → Bool
is_last (stage.UnmapPage m) t = length t.rest == t.named
is_last s t = false

-- a page is mapped, a word of it is read, or it is unmapped and another one comes
pub copies_on : (s : JobStage) (t : Work) (given : BackAnswer) (words : List ℕ) (later : List Step) → CopiesAt s t words → IsAnswer (ask_at s t) given
    → is_last s t ≡ false
    → Goes (ask_at s t) given t (step_at s t given) words (to_copy_at s t ++ later) later
copies_on stage.MapPage t given words later c h more = map_goes t.pages t given words later refl c.0 c.1 c.2 h
copies_on (stage.PageReference m) t (answer.Word word) words later c h more = reference_goes t m word words later c.0 c.1
copies_on (stage.PageSectors m gref) t (answer.Word word) words later c h more = sectors_goes t m gref word c.1 words later c.0 c.2 c.3
copies_on (stage.UnmapPage m) t answer.Done words later c h more =
    let other : (length t.rest == t.named) ≡ false = more in
    record { next = tt; leaves = rw other (copies refl (refl, refl, refl, refl) (less (length t.rest) t.named c.0 other, full (length t.rest) t.named (c.1) other, subst (λ (l : List ℕ). WordsOf t.rest l) (sym (append-nil words)) c.2) refl) }
  where
    less : (n named : ℕ) → n ≤ named → (n == named) ≡ false → n < named
    less n named le other = grind (arith, nat_tests)

    full : (n named : ℕ) → ((n == named) || (n % 512 == 0)) ≡ true → (n == named) ≡ false → n % 512 ≡ 0
    full n named out other = grind (arith, nat_tests)
copies_on (stage.PageReference m) t given words later c h more = absurd h
copies_on (stage.PageSectors m gref) t given words later c h more = absurd h
copies_on (stage.UnmapPage m) t given words later c h more = absurd h
copies_on s t given words later c h more = absurd c

-- the last page is unmapped
pub record Judges (s : JobStage) (t : Work) (given : BackAnswer) (words : List ℕ) (later : List Step) : Type 0 where
  pub next : IsNext (ask_at s t) (to_copy_at s t ++ later)
  pub step : step_at s t given ≡ judged t
  pub left : left_by (ask_at s t) given (to_copy_at s t ++ later) ≡ later
  pub unread : word_given given ≡ []
  pub fine : is_failure given ≡ false
  pub all : length t.rest ≡ t.named
  pub of : WordsOf t.rest words

pub judges : (s : JobStage) (t : Work) (given : BackAnswer) (words : List ℕ) (later : List Step) → CopiesAt s t words → IsAnswer (ask_at s t) given → is_last s t ≡ true → Judges s t given words later
judges (stage.UnmapPage m) t answer.Done words later c h last =
    let all : length t.rest ≡ t.named = grind (arith, nat_tests) in
    let none : left_in t ≡ 0 = omega arith in
    record {
      next = tt;
      step = rw last refl;
      left = ap (λ (n : ℕ). steps_of (pages_of n (drop 1 t.pages)) ++ later) none ∙ ap (λ (l : List Step). l ++ later) (none_left (drop 1 t.pages));
      unread = refl;
      fine = refl;
      all = all;
      of = c.2;
    }
judges (stage.UnmapPage m) t given words later c h last = absurd h
judges s t given words later c h last = absurd (cc)
