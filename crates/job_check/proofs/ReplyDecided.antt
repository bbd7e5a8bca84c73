-- What is kept decides the rule on replies.
use Rattle.std.proofs.Common.{◌≡◌, ◌≢◌, ℕ, ◌+◌, ◌/◌, ◌%◌, ◌<◌, ◌^◌, ◌==◌, ◌&&◌, not, Bool, true, false, if◌then◌else◌, List, [], ◌∷◌, ◌++◌, length, reverse, refl, ap, sym, ◌∙◌, subst, append_assoc, length-append, arith}
use Rattle.std.specs.Prelude.{nat_lt, find, Option, Some, None, is_some, IfSome, IsSomeAnd, IsTrue, Result, Ok, Err}
use Rattle.std.specs.Bool.{Decides}
use Rattle.std.specs.List.{list_any}
use Rattle.std.specs.Map.{values_of}
use Rattle.std.proofs.lemmas.Bool.Decides.{nat_tests, Decides-eqb, Decides-and, Decides-at, Decides-like}
use Rattle.std.proofs.lemmas.List.{reverse-reverse}
use Rattle.blk_base.specs.declared.operation.Status.{Status}
use Rattle.blk_base.specs.declared.operation.Status.TheVariants as status
use Rattle.blk_base.specs.declared.moves.BackMover.TheVariants as back
use Rattle.blk_base.specs.declared.moves.Move.TheVariants as moves
use Rattle.blk_layout.specs.declared.response.Response.{Response}
use Rattle.blk_layout.specs.Response.{response_of}
use Rattle.ring_words.specs.Shape.{Shape, ring_word_of}
use Rattle.schedule_text.specs.declared.line.Line.{Line}
use Rattle.schedule_text.specs.declared.line.Line.TheVariants as lines
use Rattle.report_rules.specs.declared.standing.Standing.{Standing}
use Rattle.report_rules.specs.Ring.{ring_shape, replied_before}
use Rattle.report_rules.specs.Stretch.{entries_read}
use Rattle.report_rules.specs.Reply.{word_written, value_written, values_written, row_of, within_reply, lines_before, lowest, may_answer as may_answer_by, next_place as next_place_by, reply_pushed, line_of, is_reply, answered_in, is_answer, is_next_value as is_next_value_by, IsNextWrite, IsTold, IsReplyAt}
use Rattle.report_rules.proofs.Prefixes.{none_passed}
use Rattle.ring_check.specs.State.{RingState, shape_seen, replied_seen, word_on}
use Rattle.ring_check.specs.Kept.{IsKept}
use Rattle.job_check.specs.Open.{Open, may_answer}
use Rattle.job_check.specs.Replies.{Replies, rows_with, is_next_value, next_place, is_place, may_write}
use Rattle.job_check.specs.State.{JobState, value_seen, job_answered}
use Rattle.job_check.specs.Verdict.{word_written_seen, allows_value, is_same_status, tells_of, is_told, allows_reply}
use Rattle.job_check.proofs.Changes.{IsJobOf}
use Rattle.job_check.proofs.Moves.{shape_same}
use Rattle.job_check.proofs.Sees.{Sees}
use Rattle.job_check.proofs.Written.{written_is, seen_is, row_past, IsWritten}
use Rattle.job_check.proofs.FirstJob.{lowest_is, any_is, some_map}
use Rattle.job_check.proofs.Fetches.{fetched_within}
use Rattle.job_check.proofs.Rows.{Begun, lines_are}
use Rattle.job_check.proofs.Begins.{now_early}
use Rattle.job_check.proofs.Replying.{IsReplying, Starts, starts_of, may_same, may_range, numbers, replied_is}

-- ---- what is written next
word_same : (before : List Line) (ring : RingState) (line : Line) → IsKept before ring → word_written_seen ring line ≡ word_written before line
word_same before ring (lines.Move (moves.Write back.Back number frame word value)) k = ap (λ (ps : List Standing). word_on ps number word) k.pages
word_same before ring line k = refl

value_same : (before : List Line) (ring : RingState) (line : Line) → IsKept before ring → value_seen ring line ≡ value_written before line
value_same before ring line k = seen_is before ring line k ∙ sym (written_is before line)

within_is : (before : List Line) (r : Replies) → IsWritten before r → within_reply before ≡ length r.row
within_is before r is =
    let both = length-append is.old r.row in
    let size = is.size in
    let short = is.short in
    let long : length (values_written before) ≡ length is.old + length r.row = ap length is.values ∙ both in
    omega arith

place_same : (before : List Line) (r : Replies) (replied : ℕ) (shape : Shape) → IsWritten before r → replied ≡ replied_before before → next_place r replied shape ≡ next_place_by before shape
place_same before r replied shape is same =
    by_tests (nat_lt (length r.row) 3) (length r.row == 3) refl refl is.short
    ∙ (ap (λ (n : ℕ). if length r.row == 3 then 2 else ring_word_of shape n (length r.row)) same
    ∙ ap (λ (n : ℕ). if n == 3 then 2 else ring_word_of shape (replied_before before) n) (sym (within_is before r is)))
  where
    by_tests : (a b : Bool) → nat_lt (length r.row) 3 ≡ a → (length r.row == 3) ≡ b → length r.row < 4 → ◌≡◌ {A = ℕ} (if a then ring_word_of shape replied (length r.row) else 2) (if b then 2 else ring_word_of shape replied (length r.row))
    by_tests true true p q short = absurd (grind (arith, nat_tests))
    by_tests true false p q short = refl
    by_tests false true p q short = refl
    by_tests false false p q short = absurd (grind (arith, nat_tests))

-- the lines before the row under way, or all of them where none is
starts_now : (before : List Line) (s : JobState) → Sees before s → IsReplying before s → Starts before before (s.replies.rows + 1) s.jobs
starts_now before s sees is = record {
  unfetched = λ k none. none;
  most = fetched_within before;
  due = λ k o here. (now_early before s.replies.rows k o (subst (IsJobOf before k) here (sees.seen.jobs.each k)) (is.ended k o here)).0;
  late = λ k o here. (now_early before s.replies.rows k o (subst (IsJobOf before k) here (sees.seen.jobs.each k)) (is.ended k o here)).1;
}

answer_by : (before early : List Line) (s : JobState) (rows last : ℕ) (row : List ℕ) → Sees before s → IsReplying before s → Starts before early rows s.jobs
    → is_some (lowest (may_answer_by early (answered_in before) last row) (entries_read early)) ≡ list_any (may_answer rows last row) (values_of s.jobs)
answer_by before early s rows last row sees is starts =
    ap (λ (o : Option ℕ). is_some o)
    (lowest_is (may_answer_by early (answered_in before) last row) (may_answer rows last row) (λ (o : Open). o.number) s.jobs (entries_read early) sees.seen.jobs.rising
    (λ k. may_same before early s rows last k row is starts) (λ k o here may. may_range before early s rows last k row o starts here may) (λ k o here. numbers before s k o sees.seen.jobs here))
    ∙ (some_map (λ (o : Open). o.number) (find (may_answer rows last row) (values_of s.jobs)) ∙ sym (any_is (may_answer rows last row) (values_of s.jobs)))

answer_same : (before : List Line) (s : JobState) (row : List ℕ) → Sees before s → IsReplying before s → is_answer before (length s.replies.row) row ≡ list_any (may_answer (rows_with s.replies) (length s.replies.row) row) (values_of s.jobs)
answer_same before s row sees is = by_test (length s.replies.row == 0) refl
  where
    with_lines : (early : List Line) (rows : ℕ) → lines_before before (length s.replies.row) ≡ early → rows_with s.replies ≡ rows → Starts before early rows s.jobs → is_answer before (length s.replies.row) row ≡ list_any (may_answer (rows_with s.replies) (length s.replies.row) row) (values_of s.jobs)
    with_lines early rows at count starts =
        ap (λ (xs : List Line). is_some (lowest (may_answer_by xs (answered_in before) (length s.replies.row) row) (entries_read xs))) at
        ∙ (answer_by before early s rows (length s.replies.row) row sees is starts
        ∙ ap (λ (n : ℕ). list_any (may_answer n (length s.replies.row) row) (values_of s.jobs)) (sym count))

    by_test : (b : Bool) → (length s.replies.row == 0) ≡ b → is_answer before (length s.replies.row) row ≡ list_any (may_answer (rows_with s.replies) (length s.replies.row) row) (values_of s.jobs)
    by_test true e =
        let none : length s.replies.row ≡ 0 = grind (arith, nat_tests) in
        with_lines before (s.replies.rows + 1) (ap (lines_before before) none ∙ (ap reverse (none_passed before (reverse before)) ∙ reverse-reverse before)) (ap (λ (b : Bool). if b then s.replies.rows + 1 else s.replies.rows) e) (starts_now before s sees is)
    by_test false e =
        let rows = is.written.rows in
        let begun : (s.replies.rows == 0) ≡ false = grind (arith, nat_tests, rows) in
        let b : Begun before s.replies s.jobs = is.begun begun in
        with_lines b.early s.replies.rows (lines_are before s.replies s.jobs (length s.replies.row) b (b.row e)) (ap (λ (b : Bool). if b then s.replies.rows + 1 else s.replies.rows) e) (starts_of before s.replies s.jobs b)

row_same : (before : List Line) (r : Replies) (value : ℕ) → IsWritten before r → row_of (values_written before ++ value ∷ []) (length (values_written before) / 4) ≡ row_of (r.row ++ value ∷ []) 0
row_same before r value is =
    let both = length-append is.old r.row in
    let size = is.size in
    let short = is.short in
    let long : length (values_written before) ≡ length is.old + length r.row = ap length is.values ∙ both in
    let at : length (values_written before) / 4 ≡ is.count = omega arith in
    ap (row_of (values_written before ++ value ∷ [])) at
    ∙ (ap (λ (vs : List ℕ). row_of (vs ++ value ∷ []) is.count) is.values
    ∙ (ap (λ (vs : List ℕ). row_of vs is.count) (append_assoc is.old r.row (value ∷ [])) ∙ row_past is.old (r.row ++ value ∷ []) is.count is.size))

next_same_value : (before : List Line) (s : JobState) (replied value : ℕ) → Sees before s → IsReplying before s → replied ≡ replied_before before → is_next_value s.replies (values_of s.jobs) replied value ≡ is_next_value_by before value
next_same_value before s replied value sees is same =
    by_tests (nat_lt (length s.replies.row) 3) (length s.replies.row == 3) refl refl is.written.short
    ∙ ap (λ (n : ℕ). if n == 3 then value == (replied_before before + 1) % 2 ^ 32 else is_answer before n (row_of (values_written before ++ value ∷ []) (length (values_written before) / 4))) (sym (within_is before s.replies is.written))
  where
    row : list_any (may_answer (rows_with s.replies) (length s.replies.row) (row_of (s.replies.row ++ value ∷ []) 0)) (values_of s.jobs) ≡ is_answer before (length s.replies.row) (row_of (values_written before ++ value ∷ []) (length (values_written before) / 4))
    row = sym (ap (is_answer before (length s.replies.row)) (row_same before s.replies value is.written) ∙ answer_same before s (row_of (s.replies.row ++ value ∷ []) 0) sees is)

    by_tests : (a b : Bool) → nat_lt (length s.replies.row) 3 ≡ a → (length s.replies.row == 3) ≡ b → length s.replies.row < 4
        → (if a then list_any (may_answer (rows_with s.replies) (length s.replies.row) (row_of (s.replies.row ++ value ∷ []) 0)) (values_of s.jobs) else value == (replied + 1) % 2 ^ 32)
        ≡ (if b then value == (replied_before before + 1) % 2 ^ 32 else is_answer before (length s.replies.row) (row_of (values_written before ++ value ∷ []) (length (values_written before) / 4)))
    by_tests true true p q short = absurd (grind (arith, nat_tests))
    by_tests true false p q short = row
    by_tests false true p q short = ap (λ (n : ℕ). value == (n + 1) % 2 ^ 32) same
    by_tests false false p q short = absurd (grind (arith, nat_tests))

place_decides : (place : ℕ) (word : Option ℕ) → Decides (is_place place word) (word ≡ Some place)
place_decides place None = (λ e. absurd (cc), λ e. absurd (cc))
place_decides place (Some word) = Decides-like (word == place) (λ e. ap (λ (n : ℕ). Some n) e) (λ e. cc) (Decides-eqb word place)

write_decides : (before : List Line) (ring : RingState) (s : JobState) (line : Line) (value : ℕ) (shape : Option Shape) → IsKept before ring → Sees before s → IsReplying before s
    → Decides (may_write s.replies (values_of s.jobs) (replied_seen ring) (word_written_seen ring line) value shape) (IsSomeAnd shape (IsNextWrite before line value))
write_decides before ring s line value None k sees is = (λ e. absurd (cc), λ h. absurd h)
write_decides before ring s line value (Some shape) k sees is =
    let place : next_place s.replies (replied_seen ring) shape ≡ next_place_by before shape = place_same before s.replies (replied_seen ring) shape is.written k.replied in
    let next : is_next_value s.replies (values_of s.jobs) (replied_seen ring) value ≡ is_next_value_by before value = next_same_value before s (replied_seen ring) value sees is k.replied in
    Decides-at (is_place (next_place s.replies (replied_seen ring) shape) (word_written_seen ring line) && is_next_value s.replies (values_of s.jobs) (replied_seen ring) value) (is_place (next_place_by before shape) (word_written before line) && is_next_value_by before value)
    (ap (λ (n : ℕ). is_place n (word_written_seen ring line) && is_next_value s.replies (values_of s.jobs) (replied_seen ring) value) place
    ∙ (ap (λ (w : Option ℕ). is_place (next_place_by before shape) w && is_next_value s.replies (values_of s.jobs) (replied_seen ring) value) (word_same before ring line k)
    ∙ ap (λ (b : Bool). is_place (next_place_by before shape) (word_written before line) && b) next))
    (Decides-and (is_place (next_place_by before shape) (word_written before line)) (is_next_value_by before value) (place_decides (next_place_by before shape) (word_written before line)) (λ e. e, λ e. e))

value_decides : (before : List Line) (ring : RingState) (s : JobState) (line : Line) (o : Option ℕ) → IsKept before ring → Sees before s → IsReplying before s → Decides (allows_value ring s line o) (IfSome o (λ (value : ℕ). IsSomeAnd (ring_shape before) (IsNextWrite before line value)))
value_decides before ring s line None k sees is = (λ e. tt, λ h. refl)
value_decides before ring s line (Some value) k sees is =
    subst (λ (shape : Option Shape). Decides (may_write s.replies (values_of s.jobs) (replied_seen ring) (word_written_seen ring line) value (shape_seen ring)) (IsSomeAnd shape (IsNextWrite before line value))) (shape_same before ring k) (write_decides before ring s line value (shape_seen ring) k sees is)

-- ---- what is told
status_decides : (a b : Status) → Decides (is_same_status a b) (a ≡ b)
status_decides status.Okay status.Okay = (λ e. refl, λ e. refl)
status_decides status.Okay status.Error = (λ e. absurd (cc), λ e. absurd (cc))
status_decides status.Okay status.Unsupported = (λ e. absurd (cc), λ e. absurd (cc))
status_decides status.Error status.Okay = (λ e. absurd (cc), λ e. absurd (cc))
status_decides status.Error status.Error = (λ e. refl, λ e. refl)
status_decides status.Error status.Unsupported = (λ e. absurd (cc), λ e. absurd (cc))
status_decides status.Unsupported status.Okay = (λ e. absurd (cc), λ e. absurd (cc))
status_decides status.Unsupported status.Error = (λ e. absurd (cc), λ e. absurd (cc))
status_decides status.Unsupported status.Unsupported = (λ e. refl, λ e. refl)

reply_line : (a b : ℕ) (s t : Status) → a ≡ b → s ≡ t → Some (lines.Reply a s) ≡ Some (lines.Reply b t)
reply_line a b s t p q = ap (λ (n : ℕ). Some (lines.Reply n s)) p ∙ ap (λ (x : Status). Some (lines.Reply b x)) q

says_decides : (r : Result Response ℕ) (line : Line) → Decides (tells_of r line) (line_of r ≡ Some line)
says_decides (Ok r) (lines.Reply id s) =
    Decides-like ((r.id == id) && is_same_status r.status s) (λ both. reply_line r.id id r.status s both.0 both.1) (λ e. (cc, cc)) (Decides-and (r.id == id) (is_same_status r.status s) (Decides-eqb r.id id) (status_decides r.status s))
says_decides (Ok r) line = (λ e. absurd (cc), λ e. absurd (cc))
says_decides (Err word) line = (λ e. absurd (cc), λ e. absurd (cc))

some_decides : (o : Option ℕ) → Decides (is_some o) (o ≢ None)
some_decides None = (λ e. absurd (cc), λ h. absurd (h refl))
some_decides (Some n) = (λ e none. absurd (cc), λ h. refl)

reply_told : (r : Result Response ℕ) (line : Line) → line_of r ≡ Some line → is_reply line ≡ true
reply_told (Ok r) line e = ap reply_of (sym e)
  where
    reply_of : Option Line → Bool
    reply_of None = false
    reply_of (Some x) = is_reply x
reply_told (Err word) line e = absurd (cc)

-- what the rule says of the reply that the last line pushed
abbrev IsToldBy : List Line → Line → Option (List ℕ) → Type 0
IsToldBy before line pushed = IfSome pushed (IsTold before line) × (IsTrue (is_reply line) → pushed ≢ None)

only_decides : (b : Bool) → Decides (not b) (Unit {0} × (IsTrue b → ◌≡◌ {A = Option (List ℕ)} None None → ⊥))
only_decides true = (λ e. absurd (cc), λ h. absurd (h.1 refl refl))
only_decides false = (λ e. (tt, λ told none. absurd (cc)), λ h. refl)

told_decides : (before : List Line) (s : JobState) (line : Line) (pushed : Option (List ℕ)) → Sees before s → IsReplying before s → Decides (is_told s line pushed) (IsToldBy before line pushed)
told_decides before s line None sees is = only_decides (is_reply line)
told_decides before s line (Some row) sees is =
    Decides-like (tells_of (response_of row) line && is_some (job_answered s))
    (λ both. (record { says = both.0; job = both.1 }, λ told none. absurd (cc))) (λ (h : IsToldBy before line (Some row)). (h.0.says, h.0.job))
    (Decides-and (tells_of (response_of row) line) (is_some (job_answered s)) (says_decides (response_of row) line)
    (subst (λ (o : Option ℕ). Decides (is_some (job_answered s)) (o ≢ None)) (sym (replied_is before s sees is)) (some_decides (job_answered s))))

-- ---- the rule
pub reply_decided : (before : List Line) (line : Line) (ring : RingState) (s : JobState) → IsKept before ring → Sees before s → IsReplying before s → Decides (allows_reply ring s line) (IsReplyAt before line)
reply_decided before line ring s k sees is =
    let value : value_seen ring line ≡ value_written before line = value_same before ring line k in
    let pushed : s.replies.pushed ≡ reply_pushed before = is.written.pushed in
    let next = allows_value ring s line (value_written before line) in
    let told = is_told s line (reply_pushed before) in
    Decides-at (allows_reply ring s line) (next && told)
    (ap (λ (o : Option ℕ). allows_value ring s line o && is_told s line s.replies.pushed) value
    ∙ ap (λ (o : Option (List ℕ)). next && is_told s line o) pushed)
    (Decides-like (next && told) (λ all. record { next = all.0; told = all.1.0; only = all.1.1 }) (λ (r : IsReplyAt before line). (r.next, (r.told, r.only)))
    (Decides-and next told (value_decides before ring s line (value_written before line) k sees is) (told_decides before s line (reply_pushed before) sees is)))
