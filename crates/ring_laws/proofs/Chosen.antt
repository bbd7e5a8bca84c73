-- The jobs that the rule finds for the replies so far, matched with those that the back answered; they stay due what they were due, and so do those that the reply under way may answer.
use Rattle.std.proofs.Common.{◌≡◌, ℕ, ◌+◌, ◌≤◌, List, [], ◌∷◌, ◌++◌, length, map, refl, ap, sym, ◌∙◌, subst, arith}
use Rattle.std.specs.Prelude.{Some, IfSome}
use Rattle.std.specs.List.{AllByRecursion}
use Rattle.std.proofs.lemmas.List.{map-append}
use Rattle.schedule_text.specs.declared.line.Line.{Line}
use Rattle.blk_layout.specs.declared.response.Response.{Response}
use Rattle.blk_layout.specs.Response.{response_words_of}
use Rattle.ring_words.specs.Ring.{next_of}
use Rattle.report_rules.specs.Standing.{this_epoch}
use Rattle.report_rules.specs.Made.{left_to}
use Rattle.report_rules.specs.Reply.{response_due, is_one_of, lines_before, answered_in}
use Rattle.blk_back.specs.declared.stage.Reply.{Reply}
use Rattle.blk_back.specs.declared.stage.BackStage.{BackStage}
use Rattle.blk_back.specs.declared.stage.BackStage.TheVariants as stage
use Rattle.ring_laws.proofs.Lists.{all_both, all_more}
use Rattle.ring_laws.proofs.JobLines.{IsAside}
use Rattle.ring_laws.proofs.Bystanders.{if_some}
use Rattle.ring_laws.proofs.Over.{left_aside}
use Rattle.ring_laws.proofs.Due.{Answered, Candidate, response_in, under_way, row_at, answered_then}
use Rattle.ring_laws.proofs.Matching.{Matched, chosen_of, answer_of}
use Rattle.ring_laws.proofs.Rows.{lines_none, lines_aside, answered_aside}
use Rattle.ring_laws.proofs.Stays.{IsOn, AreIdle, due_aside}
use Rattle.ring_laws.proofs.WrittenBack.{RowGoes, rests, grows, ends}
use Rattle.ring_laws.proofs.Written.{AllPass}
use Rattle.report_rules.specs.Stretch.{entries_read}

abbrev pub words_in : Matched → List ℕ
words_in m = let a : Answered = m.answer in response_words_of a.response

abbrev pub IsDueTo : List Line → Matched → Type 0
IsDueTo before m = response_due before m.chosen ≡ Some (words_in m)

pub record IsChosen (before : List Line) (s : BackStage) (answered : List Answered) : Type 0 where
  pub matched : List Matched
  pub chosen : answered_in before ≡ map chosen_of matched
  pub answers : map answer_of matched ≡ answered
  pub due : AllByRecursion (IsDueTo before) matched
  pub stays : (k : ℕ) (words : List ℕ) → response_due (lines_before before (length (under_way s))) k ≡ Some words → response_due before k ≡ Some words
  pub row : IfSome (row_at s) (λ (r : Reply). Candidate before (length (under_way s)) (response_in r))

all_due : (before ys : List Line) (matched : List Matched) → IsOn before ys → AreIdle before ys → AllByRecursion (IsDueTo before) matched → AllByRecursion (IsDueTo (before ++ ys)) matched
all_due before ys matched on idle all = all_more (IsDueTo before) (IsDueTo (before ++ ys)) matched (λ m due. due_aside before ys m.chosen (words_in m) on (idle m.chosen (words_in m) due) due) all

-- a candidate stays one, where the lines before the row stay
kept : (before ys : List Line) (n m : ℕ) (r : Response) → IsOn before ys → AreIdle before ys → lines_before (before ++ ys) m ≡ lines_before before n → answered_in (before ++ ys) ≡ answered_in before
    → ((k : ℕ) (words : List ℕ) → response_due (lines_before before n) k ≡ Some words → response_due before k ≡ Some words) → Candidate before n r → Candidate (before ++ ys) m r
kept before ys n m r on idle rows told stays c =
    let aside : IsAside c.job ys = idle c.job (response_words_of r) (stays c.job (response_words_of r) c.due) in
    record {
      job = c.job;
      other = ap (λ (js : List ℕ). is_one_of c.job js) told ∙ c.other;
      due = ap (λ (ls : List Line). response_due ls c.job) rows ∙ c.due;
      first = c.first;
      last = subst (λ (ls : List Line). c.job ≤ entries_read ls) (sym rows) c.last;
      left = ap (λ (ls : List Line). left_to c.job ls) on.epoch ∙ left_aside c.job ys (this_epoch before) aside.none c.left;
    }

-- what was due before the row stays due
still : (before ys : List Line) (n m : ℕ) → IsOn before ys → AreIdle before ys → lines_before (before ++ ys) m ≡ lines_before before n → ((k : ℕ) (words : List ℕ) → response_due (lines_before before n) k ≡ Some words → response_due before k ≡ Some words)
    → (k : ℕ) (words : List ℕ) → response_due (lines_before (before ++ ys) m) k ≡ Some words → response_due (before ++ ys) k ≡ Some words
still before ys n m on idle rows stays k words due =
    let was : response_due before k ≡ Some words = stays k words (sym (ap (λ (ls : List Line). response_due ls k) rows) ∙ due) in
    due_aside before ys k words on (idle k words was) was

fresh : (before : List Line) (k : ℕ) (words : List ℕ) → response_due (lines_before before 0) k ≡ Some words → response_due before k ≡ Some words
fresh before k words due = sym (ap (λ (ls : List Line). response_due ls k) (lines_none before)) ∙ due

-- where no word is under way
none_long : (s : BackStage) → under_way s ≡ [] → length (under_way s) ≡ 0
none_long s none = ap (λ (ws : List ℕ). length ws) none

no_row : (s : BackStage) → under_way s ≡ [] → (P : Reply → Type 0) → IfSome (row_at s) P
no_row (stage.ReplyHigh r) none P = absurd (cc)
no_row (stage.ReplyLast r) none P = absurd (cc)
no_row (stage.Producer r) none P = absurd (cc)
no_row s none P = tt

rests_all : (before : List Line) (t : BackStage) → under_way t ≡ [] → (k : ℕ) (words : List ℕ) → response_due (lines_before before (length (under_way t))) k ≡ Some words → response_due before k ≡ Some words
rests_all before t none k words due = fresh before k words (sym (ap (λ (n : ℕ). response_due (lines_before before n) k) (none_long t none)) ∙ due)

-- no job was answered yet
pub new_chosen : (before : List Line) (s : BackStage) → under_way s ≡ [] → answered_in before ≡ [] → IsChosen before s []
new_chosen before s none unanswered = record { matched = []; chosen = unanswered; answers = refl; due = tt; stays = rests_all before s none; row = no_row s none _ }

-- of a stage at which no word is under way the lines alone count
pub chosen_stage : (before : List Line) (s t : BackStage) (answered : List Answered) → under_way t ≡ [] → IsChosen before s answered → IsChosen before t answered
chosen_stage before s t answered none c = record { matched = c.matched; chosen = c.chosen; answers = c.answers; due = c.due; stays = rests_all before t none; row = no_row t none _ }

-- lines of others
pub chosen_aside : (before ys : List Line) (s : BackStage) (answered : List Answered) → AllPass ys → IsOn before ys → AreIdle before ys → IsChosen before s answered → IsChosen (before ++ ys) s answered
chosen_aside before ys s answered all on idle c = record {
  matched = c.matched;
  chosen = told ∙ c.chosen;
  answers = c.answers;
  due = all_due before ys c.matched on idle c.due;
  stays = stays_in s c.stays;
  row = row_in s c.stays c.row;
}
  where
    told : answered_in (before ++ ys) ≡ answered_in before
    told = answered_aside ys before all

    stays_in : (s : BackStage) → ((k : ℕ) (words : List ℕ) → response_due (lines_before before (length (under_way s))) k ≡ Some words → response_due before k ≡ Some words)
        → (k : ℕ) (words : List ℕ) → response_due (lines_before (before ++ ys) (length (under_way s))) k ≡ Some words → response_due (before ++ ys) k ≡ Some words
    stays_in (stage.ReplyHigh r) stays = still before ys 1 1 on idle (lines_aside ys before 1 all (omega arith)) stays
    stays_in (stage.ReplyLast r) stays = still before ys 2 2 on idle (lines_aside ys before 2 all (omega arith)) stays
    stays_in (stage.Producer r) stays = still before ys 3 3 on idle (lines_aside ys before 3 all (omega arith)) stays
    stays_in s stays = fresh (before ++ ys)

    row_in : (s : BackStage) → ((k : ℕ) (words : List ℕ) → response_due (lines_before before (length (under_way s))) k ≡ Some words → response_due before k ≡ Some words)
        → IfSome (row_at s) (λ (r : Reply). Candidate before (length (under_way s)) (response_in r)) → IfSome (row_at s) (λ (r : Reply). Candidate (before ++ ys) (length (under_way s)) (response_in r))
    row_in (stage.ReplyHigh r) stays row = kept before ys 1 1 (response_in r) on idle (lines_aside ys before 1 all (omega arith)) told stays row
    row_in (stage.ReplyLast r) stays row = kept before ys 2 2 (response_in r) on idle (lines_aside ys before 2 all (omega arith)) told stays row
    row_in (stage.Producer r) stays row = kept before ys 3 3 (response_in r) on idle (lines_aside ys before 3 all (omega arith)) told stays row
    row_in s stays row = tt

same_answers : (s : BackStage) (answered : List Answered) (k prod : ℕ) → under_way s ≡ [] → answered_then s answered k prod ≡ answered
same_answers (stage.Producer r) answered k prod none = absurd (cc)
same_answers s answered k prod none = refl

-- lines of the back
pub chosen_goes : (before ys : List Line) (s t : BackStage) (answered : List Answered) (k prod : ℕ) → RowGoes before ys s t → IsOn before ys → AreIdle before ys → IsChosen before s answered → IsChosen (before ++ ys) t (answered_then s answered k prod)
chosen_goes before ys s t answered k prod (rests none quiet told) on idle c = record {
  matched = c.matched;
  chosen = told ∙ c.chosen;
  answers = c.answers ∙ sym (same_answers s answered k prod none);
  due = all_due before ys c.matched on idle c.due;
  stays = rests_all (before ++ ys) t quiet;
  row = no_row t quiet _;
}
chosen_goes before ys s t answered k prod (grows r cand at long rows told same) on idle c =
    let n : ℕ = length (under_way s) in
    record {
      matched = c.matched;
      chosen = told ∙ c.chosen;
      answers = c.answers ∙ sym (same answered k prod);
      due = all_due before ys c.matched on idle c.due;
      stays = λ j words due. still before ys n (n + 1) on idle rows c.stays j words (sym (ap (λ (m : ℕ). response_due (lines_before (before ++ ys) m) j) long) ∙ due);
      row = if_some _ at (subst (λ (m : ℕ). Candidate (before ++ ys) m (response_in r)) (sym long) (kept before ys n (n + 1) (response_in r) on idle rows told c.stays cand));
    }
chosen_goes before ys s t answered k prod (ends r chosen is quiet due told) on idle c =
    let a : Answered = record { job = k; response = response_in r; producer = next_of prod } in
    let m : Matched = record { chosen = chosen; answer = record { job = k; response = response_in r; producer = next_of prod } } in
    let long : length (under_way s) ≡ 3 = ap (λ (q : BackStage). length (under_way q)) is in
    let was : response_due before chosen ≡ Some (response_words_of (response_in r)) = c.stays chosen (response_words_of (response_in r)) (ap (λ (n : ℕ). response_due (lines_before before n) chosen) long ∙ due) in
    record {
      matched = c.matched ++ m ∷ [];
      chosen = told ∙ (ap (λ (js : List ℕ). js ++ chosen ∷ []) c.chosen ∙ sym (map-append chosen_of c.matched (m ∷ [])));
      answers = map-append answer_of c.matched (m ∷ []) ∙ (ap (λ (l : List Answered). l ++ a ∷ []) c.answers ∙ sym (ap (λ (q : BackStage). answered_then q answered k prod) is));
      due = all_both (IsDueTo (before ++ ys)) c.matched (m ∷ []) (all_due before ys c.matched on idle c.due) (due_aside before ys chosen (response_words_of (response_in r)) on (idle chosen (response_words_of (response_in r)) was) was, tt);
      stays = rests_all (before ++ ys) t quiet;
      row = no_row t quiet _;
    }
