-- The words of replies that were written, four a reply, and the jobs that a row may answer.
use Rattle.std.proofs.Common.{◌≡◌, ℕ, zero, suc, ◌+◌, ◌*◌, ◌/◌, ◌%◌, ◌<◌, ◌==◌, ◌&&◌, ◌||◌, not, Bool, true, false, if◌then◌else◌, List, [], ◌∷◌, ◌++◌, length, refl, ap, sym, ◌∙◌, length-append, arith}
use Rattle.std.specs.Prelude.{Option, Some, None, is_some, nat_lt}
use Rattle.std.proofs.lemmas.Bool.Decides.{nat_tests}
use Rattle.std.proofs.lemmas.List.{get_or-append-add}
use Rattle.std.proofs.lemmas.Option.{unwrap_or-slice_get}
use Rattle.schedule_text.specs.declared.line.Line.{Line}
use Rattle.blk_layout.specs.Response.{response_words_of}
use Rattle.blk_layout.specs.declared.response.Response.{Response}
use Rattle.report_rules.specs.Reply.{value_at, row_of, are_alike, is_like, is_one_of, response_due, may_answer, lowest, lines_before, answered_in}
use Rattle.report_rules.proofs.Lowest.{lowest_some}
use Rattle.ring_laws.proofs.Due.{Answered, Candidate, rows_of}
use Rattle.report_rules.specs.Stretch.{entries_read, when}

rows_long : (answered : List Answered) → length (rows_of answered) ≡ 4 * length answered
rows_long [] = refl
rows_long (a ∷ answered) = let rest = rows_long answered in omega arith

values_long : (values : List ℕ) (answered : List Answered) (u : List ℕ) → values ≡ rows_of answered ++ u → length values ≡ 4 * length answered + length u
values_long values answered u e =
    let long : length values ≡ length (rows_of answered) + length u = ap (λ (vs : List ℕ). length vs) e ∙ length-append (rows_of answered) u in
    let rows = rows_long answered in
    omega arith

-- how many words of the reply under way there are, and how many replies before it
pub within_is : (values : List ℕ) (answered : List Answered) (u : List ℕ) → values ≡ rows_of answered ++ u → length u < 4 → length values % 4 ≡ length u
within_is values answered u e small = let long = values_long values answered u e in omega arith

pub replies_are : (values : List ℕ) (answered : List Answered) (u : List ℕ) → values ≡ rows_of answered ++ u → length u < 4 → length values / 4 ≡ length answered
replies_are values answered u e small = let long = values_long values answered u e in omega arith

pub rows_more : (answered : List Answered) (a : Answered) → rows_of (answered ++ a ∷ []) ≡ rows_of answered ++ rows_of (a ∷ [])
rows_more [] a = refl
rows_more (b ∷ answered) a = ap (λ (vs : List ℕ). response_words_of b.response ++ b.producer ∷ vs) (rows_more answered a)

value_past : (xs ys : List ℕ) (i j : ℕ) → i ≡ length xs + j → value_at (xs ++ ys) i ≡ value_at ys j
value_past xs ys i j e =
    ap (λ (n : ℕ). value_at (xs ++ ys) n) e
    ∙ (unwrap_or-slice_get (xs ++ ys) (length xs + j) 0 ∙ (get_or-append-add xs ys j 0 ∙ sym (unwrap_or-slice_get ys j 0)))

three : {a b c d e f : ℕ} → a ≡ d → b ≡ e → c ≡ f → a ∷ b ∷ c ∷ [] ≡ d ∷ e ∷ f ∷ []
three p q r = cc

row_past : (xs ys : List ℕ) (m n : ℕ) → 4 * m ≡ length xs + 4 * n → row_of (xs ++ ys) m ≡ row_of ys n
row_past xs ys m n e =
    three (value_past xs ys (4 * m) (4 * n) e) (value_past xs ys (4 * m + 1) (4 * n + 1) (omega arith)) (value_past xs ys (4 * m + 2) (4 * n + 2) (omega arith))

-- the row after the replies
pub row_after : (answered : List Answered) (u : List ℕ) → row_of (rows_of answered ++ u) (length answered) ≡ row_of u 0
row_after answered u = let rows = rows_long answered in row_past (rows_of answered) u (length answered) 0 (omega arith)

like_same : (last : ℕ) (row other : List ℕ) → ((words : List ℕ) → are_alike last row words ≡ are_alike last other words) → (due : Option (List ℕ)) → is_like last row due ≡ is_like last other due
like_same last row other same None = refl
like_same last row other same (Some words) = same words

-- which jobs a row may answer depends on what rows are alike
pub answers_same : (early : List Line) (answered : List ℕ) (last : ℕ) (row other : List ℕ) → ((words : List ℕ) → are_alike last row words ≡ are_alike last other words) → (n : ℕ) → lowest (may_answer early answered last row) n ≡ lowest (may_answer early answered last other) n
answers_same early answered last row other same zero = refl
answers_same early answered last row other same (suc n) =
    let before = answers_same early answered last row other same n in
    let here : may_answer early answered last row (suc n) ≡ may_answer early answered last other (suc n) = ap (λ (b : Bool). not (is_one_of (suc n) answered) && b) (like_same last row other same (response_due early (suc n))) in
    ap (λ (o : Option ℕ). if is_some o then o else when (may_answer early answered last row (suc n)) (suc n)) before
    ∙ ap (λ (b : Bool). if is_some (lowest (may_answer early answered last other) n) then lowest (may_answer early answered last other) n else when b (suc n)) here

-- words are like themselves
pub alike_itself : (last : ℕ) (words : List ℕ) → are_alike last words words ≡ true
alike_itself last words = tests (value_at words 0) (value_at words 1) (value_at words 2) (last == 0) (nat_lt last 2)
  where
    itself : (n : ℕ) → (n == n) ≡ true
    itself n = grind (arith, nat_tests)

    or_true : (b : Bool) → (b || true) ≡ true
    or_true true = refl
    or_true false = refl

    tests : (x y z : ℕ) (p q : Bool) → ((x == x) && (p || (y == y)) && (q || (z == z))) ≡ true
    tests x y z p q = rw (itself x, itself y, itself z, or_true p, or_true q) refl

-- a candidate may be the one that is answered
pub candidate_may : (before : List Line) (n last : ℕ) (r : Response) (c : Candidate before n r) → may_answer (lines_before before n) (answered_in before) last (response_words_of r) c.job ≡ true
candidate_may before n last r c =
    let like : is_like last (response_words_of r) (response_due (lines_before before n) c.job) ≡ true = ap (λ (due : Option (List ℕ)). is_like last (response_words_of r) due) c.due ∙ alike_itself last (response_words_of r) in
    rw (c.other, like) refl

pub candidate_found : (before : List Line) (n : ℕ) (r : Response) → Candidate before n r → is_some (lowest (may_answer (lines_before before n) (answered_in before) n (response_words_of r)) (entries_read (lines_before before n))) ≡ true
candidate_found before n r c = lowest_some (may_answer (lines_before before n) (answered_in before) n (response_words_of r)) (entries_read (lines_before before n)) c.job (candidate_may before n n r c) c.first c.last
