-- The job that the rule finds for a reply that is pushed: one that was due these words before the first of them was written.
use Rattle.std.proofs.Common.{◌≡◌, ℕ, ◌==◌, ◌&&◌, not, Bool, true, false, List, [], ◌∷◌, ◌++◌, refl, ap, sym, ◌∙◌, arith}
use Rattle.std.specs.Prelude.{Option, Some, None, is_some}
use Rattle.std.specs.List.{list_all}
use Rattle.std.proofs.lemmas.Bool.Decides.{nat_tests}
use Rattle.blk_base.specs.declared.operation.Status.{Status}
use Rattle.schedule_text.specs.declared.line.Line.{Line}
use Rattle.blk_layout.specs.declared.response.Response.{Response}
use Rattle.blk_layout.specs.Response.{response_words_of}
use Rattle.report_rules.specs.declared.standing.Standing.{Standing}
use Rattle.report_rules.specs.declared.job.Fetched.{Fetched}
use Rattle.report_rules.specs.Standing.{this_epoch}
use Rattle.report_rules.specs.Work.{work_response}
use Rattle.report_rules.specs.Published.{is_persistent}
use Rattle.report_rules.specs.Job.{fetched_of}
use Rattle.report_rules.specs.Made.{left_to, may_stand, has_unmapped}
use Rattle.report_rules.specs.Reply.{status_at_end, words_with, words_due, response_due, value_at, are_alike, is_like, is_one_of, may_answer, lowest, lines_before, job_for, job_replied, answered_in, reply_pushed}
use Rattle.report_rules.proofs.Lowest.{IsFound, lowest_passes, lowest_some}
use Rattle.ring_laws.proofs.Due.{Candidate}
use Rattle.ring_laws.proofs.WrittenRows.{candidate_may}
use Rattle.report_rules.specs.Stretch.{entries_read}

-- responses of which all words are alike have the same words
whole_alike : (r s : Response) → are_alike 2 (response_words_of r) (response_words_of s) ≡ true → response_words_of s ≡ response_words_of r
whole_alike r s e = by_words (value_at (response_words_of r) 0) (value_at (response_words_of r) 1) (value_at (response_words_of r) 2) (value_at (response_words_of s) 0) (value_at (response_words_of s) 1) (value_at (response_words_of s) 2) e
  where
    three : {a b c d e f : ℕ} → a ≡ d → b ≡ e → c ≡ f → d ∷ e ∷ f ∷ [] ≡ a ∷ b ∷ c ∷ []
    three p q r = cc

    first : (a d : ℕ) (t : Bool) → ((a == d) && t) ≡ true → a ≡ d
    first a d true e = grind (arith, nat_tests)
    first a d false e = absurd (no_and (a == d) e)
      where
        no_and : (b : Bool) → (b && false) ≡ true → ⊥
        no_and true e = cc
        no_and false e = cc

    left : (b t : Bool) → (b && t) ≡ true → b ≡ true
    left true t e = refl
    left false t e = absurd (cc)

    rest : (b t : Bool) → (b && t) ≡ true → t ≡ true
    rest true t e = e
    rest false t e = absurd (cc)

    by_words : (a b c d f g : ℕ) → ((a == d) && (b == f) && (c == g)) ≡ true → d ∷ f ∷ g ∷ [] ≡ a ∷ b ∷ c ∷ []
    by_words a b c d f g e =
        let last : (c == g) ≡ true = rest ((a == d) && (b == f)) (c == g) e in
        let both : ((a == d) && (b == f)) ≡ true = left ((a == d) && (b == f)) (c == g) e in
        three (first a d (b == f) both) (equal b f (rest (a == d) (b == f) both)) (equal c g last)
      where
        equal : (n m : ℕ) → (n == m) ≡ true → n ≡ m
        equal n m e = grind (arith, nat_tests)

-- a response that is due is the words of one
due_words : (before : List Line) (k : ℕ) (words : List ℕ) → response_due before k ≡ Some words → (s : Response) × (words ≡ response_words_of s)
due_words before k words e = by_known (fetched_of before k) e
  where
    same_words : (a b : List ℕ) → Some a ≡ Some b → b ≡ a
    same_words a b e = cc

    by_status : (f : Fetched) (o : Option Status) → words_with f.request o ≡ Some words → (s : Response) × (words ≡ response_words_of s)
    by_status f None e = absurd (cc)
    by_status f (Some status) e = (work_response f.request status, same_words (response_words_of (work_response f.request status)) words e)

    by_known : (o : Option Fetched) → words_due before k o ≡ Some words → (s : Response) × (words ≡ response_words_of s)
    by_known None e = absurd (cc)
    by_known (Some f) e = by_status f (status_at_end before k f) e

-- the job that the rule finds for a row is due these words
found_due : (early : List Line) (answered : List ℕ) (r : Response) (k : ℕ) (more : Bool) → (may_answer early answered 2 (response_words_of r) k && more) ≡ true → response_due early k ≡ Some (response_words_of r)
found_due early answered r k more e = by_due (response_due early k) refl (second (not (is_one_of k answered)) (is_like 2 (response_words_of r) (response_due early k)) (first (may_answer early answered 2 (response_words_of r) k) more e))
  where
    first : (a b : Bool) → (a && b) ≡ true → a ≡ true
    first true b e = refl
    first false b e = absurd (cc)

    second : (a b : Bool) → (a && b) ≡ true → b ≡ true
    second true b e = e
    second false b e = absurd (cc)

    by_due : (o : Option (List ℕ)) → response_due early k ≡ o → is_like 2 (response_words_of r) o ≡ true → response_due early k ≡ Some (response_words_of r)
    by_due None due like = absurd (cc)
    by_due (Some words) due like =
        let w = due_words early k words due in
        let same : words ≡ response_words_of r = w.1 ∙ whole_alike r w.0 (ap (λ (ws : List ℕ). are_alike 2 (response_words_of r) ws) (sym w.1) ∙ like) in
        due ∙ ap (λ (ws : List ℕ). Some ws) same

-- what the rule finds for a reply that is pushed
pub record IsChoice (before : List Line) (early : List Line) (r : Response) : Type 0 where
  pub job : ℕ
  pub found : job_replied before (answered_in before) ≡ Some job
  pub due : response_due early job ≡ Some (response_words_of r)

pub choice : (before line_before : List Line) (line : Line) (r : Response) (c : Candidate line_before 3 r) → before ≡ line_before ++ line ∷ [] → lines_before before 4 ≡ lines_before line_before 3 → answered_in before ≡ answered_in line_before → reply_pushed before ≡ Some (response_words_of r) → left_to c.job (this_epoch before) ≡ []
    → IsChoice before (lines_before line_before 3) r
choice before line_before line r c is early same pushed left = by_found (lowest test (entries_read (lines_before line_before 3))) refl
  where
    test : ℕ → Bool
    test = λ (k : ℕ). may_answer (lines_before line_before 3) (answered_in line_before) 2 (response_words_of r) k && has_unmapped before k

    replied : job_replied before (answered_in before) ≡ lowest test (entries_read (lines_before line_before 3))
    replied =
        ap (λ (row : Option (List ℕ)). job_for before (lines_before before 4) (answered_in before) row) pushed
        ∙ (ap (λ (ls : List Line). job_for before ls (answered_in before) (Some (response_words_of r))) early
        ∙ ap (λ (js : List ℕ). job_for before (lines_before line_before 3) js (Some (response_words_of r))) same)

    given : has_unmapped before c.job ≡ true
    given = ap (λ (l : List Standing). list_all (may_stand (is_persistent before)) l) left

    passes : test c.job ≡ true
    passes = ap (λ (b : Bool). b && has_unmapped before c.job) (candidate_may line_before 3 2 r c) ∙ given

    by_found : (o : Option ℕ) → lowest test (entries_read (lines_before line_before 3)) ≡ o → IsChoice before (lines_before line_before 3) r
    by_found None e =
        let some : is_some (lowest test (entries_read (lines_before line_before 3))) ≡ true = lowest_some test (entries_read (lines_before line_before 3)) c.job passes c.first c.last in
        let none : is_some (lowest test (entries_read (lines_before line_before 3))) ≡ false = ap (λ (o : Option ℕ). is_some o) e in
        absurd (cc)
    by_found (Some k) e =
        let f : IsFound test (entries_read (lines_before line_before 3)) k = lowest_passes test (entries_read (lines_before line_before 3)) k e in
        record { job = k; found = replied ∙ e; due = found_due (lines_before line_before 3) (answered_in line_before) r k (has_unmapped before k) f.passes }
