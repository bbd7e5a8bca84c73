-- The lines before the row that began last, and which jobs had come to their end by then.
use Rattle.std.proofs.Common.{◌≡◌, ℕ, ◌+◌, ◌-◌, ◌≤◌, ◌==◌, true, false, List, [], ◌∷◌, ◌++◌, length, reverse, refl, ap, sym, ◌∙◌, subst, arith}
use Rattle.std.specs.Prelude.{Option, Some, None, is_some}
use Rattle.std.specs.List.{filter_map, cons_option, list_any}
use Rattle.std.proofs.lemmas.Bool.Decides.{nat_tests}
use Rattle.std.proofs.lemmas.List.{reverse-reverse}
use Rattle.schedule_text.specs.declared.line.Line.{Line}
use Rattle.report_rules.specs.Standing.{this_epoch}
use Rattle.report_rules.specs.Ring.{ring_pages}
use Rattle.report_rules.specs.Stretch.{entries_read}
use Rattle.report_rules.specs.Job.{is_job, fetched_of}
use Rattle.report_rules.specs.Reply.{value_written, back_before, lines_before, response_due}
use Rattle.report_rules.proofs.Prefixes.{none_passed}
use Rattle.ring_check.proofs.Telling.{touches}
use Rattle.job_check.specs.Open.{Open, due, end_told, is_early}
use Rattle.job_check.specs.Replies.{Replies}
use Rattle.job_check.specs.State.{job_at}
use Rattle.job_check.proofs.Telling.{last_mover}
use Rattle.job_check.proofs.Entries.{map_same}
use Rattle.job_check.proofs.Written.{written_on, written_is}
use Rattle.job_check.proofs.NextJobs.{NextJob, closed_still, carried, goes_on, fails, begins, ends}
use Rattle.job_check.proofs.NextLines.{AllNext}

-- ---- going back over the words of a row
passed : (before later : List Line) (first : Line) (early : List Line) → is_some (value_written before first) ≡ true → back_before before (length (filter_map (value_written before) later) + 1) (later ++ first ∷ early) ≡ early
passed before [] first early wrote = rw wrote (none_passed before early)
passed before (x ∷ later) first early wrote = by_value (value_written before x) refl (passed before later first early wrote)
  where
    by_value : (o : Option ℕ) → value_written before x ≡ o → back_before before (length (filter_map (value_written before) later) + 1) (later ++ first ∷ early) ≡ early
        → back_before before (length (cons_option o (filter_map (value_written before) later)) + 1) (x ∷ later ++ first ∷ early) ≡ early
    by_value None is rest =
        let some : (length (filter_map (value_written before) later) + 1 == 0) ≡ false = grind (arith, nat_tests) in
        rw (some, is) rest
    by_value (Some v) is rest =
        let some : (length (v ∷ filter_map (value_written before) later) + 1 == 0) ≡ false = grind (arith, nat_tests) in
        let less : length (v ∷ filter_map (value_written before) later) + 1 - 1 ≡ length (filter_map (value_written before) later) + 1 = omega arith in
        rw (some, is, less) rest

-- a job that came to its end before the row had its response due then; and one that didn't had none
pub record IsEarly (before early : List Line) (rows k : ℕ) (o : Open) : Type 0 where
  pub due : is_early rows o.ended ≡ true → response_due early k ≡ due o
  pub still : is_early rows o.ended ≡ true → is_job k (last_mover (this_epoch before)) ≡ false
  pub late : is_early rows o.ended ≡ false → response_due early k ≡ None

-- where a row began in this epoch: the lines before its first word, that word's line, and the later ones, the last one first
pub record Begun (before : List Line) (r : Replies) (jobs : List (ℕ × Open)) : Type 0 where
  pub early : List Line
  pub first : Line
  pub later : List Line
  pub back : reverse before ≡ later ++ first ∷ reverse early
  pub within : (m : ℕ) → list_any (touches m) (this_epoch before) ≡ false → (touches m first ≡ false) × (list_any (touches m) later ≡ false)
  pub wrote : is_some (written_on (ring_pages before) first) ≡ true
  pub row : (length r.row == 0) ≡ false → length (filter_map (written_on (ring_pages before)) later) + 1 ≡ length r.row
  pub pushed : is_some r.pushed ≡ true → length (filter_map (written_on (ring_pages before)) later) + 1 ≡ 4
  pub unfetched : (k : ℕ) → fetched_of before k ≡ None → fetched_of early k ≡ None
  pub most : (k : ℕ) → is_some (fetched_of early k) ≡ true → (1 ≤ k) × (k ≤ entries_read early)
  pub each : (k : ℕ) (o : Open) → job_at jobs k ≡ Some o → IsEarly before early r.rows k o

pub lines_are : (before : List Line) (r : Replies) (jobs : List (ℕ × Open)) (n : ℕ) (b : Begun before r jobs) → length (filter_map (written_on (ring_pages before)) b.later) + 1 ≡ n → lines_before before n ≡ b.early
lines_are before r jobs n b long =
    let same : length (filter_map (value_written before) b.later) + 1 ≡ n = ap (λ (vs : List ℕ). length vs + 1) (map_same (value_written before) (written_on (ring_pages before)) b.later (written_is before)) ∙ long in
    let wrote : is_some (value_written before b.first) ≡ true = ap (λ (o : Option ℕ). is_some o) (written_is before b.first) ∙ b.wrote in
    ap (λ (m : ℕ). reverse (back_before before m (reverse before))) (sym same)
    ∙ (ap (λ (xs : List Line). reverse (back_before before (length (filter_map (value_written before) b.later) + 1) xs)) b.back
    ∙ (ap reverse (passed before b.later b.first (reverse b.early) wrote) ∙ reverse-reverse b.early))

-- ---- when a job came to its end
abbrev pub EndedBy : ℕ → Option ℕ → Option (List ℕ) → Type 0
EndedBy rows None words = words ≡ None
EndedBy rows (Some known) words = (is_some words ≡ true) × (known ≤ rows)

told_by : (rows more : ℕ) (words : Option (List ℕ)) (ended : Option ℕ) → ended ≡ end_told None rows words → rows ≤ more → EndedBy more ended words
told_by rows more None ended e le = subst (λ (x : Option ℕ). EndedBy more x None) (sym e) refl
told_by rows more (Some ws) ended e le = subst (λ (x : Option ℕ). EndedBy more x (Some ws)) (sym e) (refl, le)

pub ended_none : (rows : ℕ) (ended : Option ℕ) (words : Option (List ℕ)) → EndedBy rows ended words → words ≡ None → ended ≡ None
ended_none rows None words by none = refl
ended_none rows (Some known) words by none = absurd (let some = by.0 in cc)

ended_later : (rows more : ℕ) (ended : Option ℕ) (words : Option (List ℕ)) → EndedBy rows ended words → rows ≤ more → EndedBy more ended words
ended_later rows more None words by le = by
ended_later rows more (Some known) words by le = (by.0, omega (arith, by.1))

ended_failed : (rows more : ℕ) (was is : Option ℕ) (old words : Option (List ℕ)) → EndedBy rows was old → is ≡ end_told was rows words → is_some words ≡ true → rows ≤ more → EndedBy more is words
ended_failed rows more None is old words by e some le = told_by rows more words is e le
ended_failed rows more (Some known) is old words by e some le = subst (λ (x : Option ℕ). EndedBy more x words) (sym e) (some, omega (arith, by.1))

ended_from : (rows more : ℕ) (was is : Option Open) (before : List Line) (line : Line) (k : ℕ) (p : Open) → ((o : Open) → was ≡ Some o → EndedBy rows o.ended (due o)) → rows ≤ more → NextJob before line rows k was is → is ≡ Some p → EndedBy more p.ended (due p)
ended_from rows more was is before line k p known le next here =
    elim next [
      | closed_still gone none same ↦ absurd (cc)
      | carried o q w i ended words quiet same ↦
          let one : q ≡ p = cc in
          subst (λ (x : Open). EndedBy more x.ended (due x)) one (subst (λ (e : Option ℕ). EndedBy more e (due q)) (sym ended) (subst (λ (ws : Option (List ℕ)). EndedBy more o.ended ws) (sym words) (ended_later rows more o.ended (due o) (known o w) le)))
      | goes_on o q w i ended none same ↦
          let one : q ≡ p = cc in
          let first : o.ended ≡ None = ended_none rows o.ended (due o) (known o w) none in
          subst (λ (x : Open). EndedBy more x.ended (due x)) one (told_by rows more (due q) q.ended (ended ∙ ap (λ (e : Option ℕ). end_told e rows (due q)) first) le)
      | fails o q w i ended some own quiet same ↦
          let one : q ≡ p = cc in
          subst (λ (x : Open). EndedBy more x.ended (due x)) one (ended_failed rows more o.ended q.ended (due o) (due q) (known o w) ended some le)
      | begins q gone i ended none some ↦
          let one : q ≡ p = cc in
          subst (λ (x : Open). EndedBy more x.ended (due x)) one (told_by rows more (due q) q.ended ended le)
      | ends o w none told same ↦ absurd (cc)
    ]

pub ended_next : (before : List Line) (line : Line) (rows more : ℕ) (old new : List (ℕ × Open)) → ((k : ℕ) (o : Open) → job_at old k ≡ Some o → EndedBy rows o.ended (due o)) → rows ≤ more → AllNext before line rows old new
    → (k : ℕ) (p : Open) → job_at new k ≡ Some p → EndedBy more p.ended (due p)
ended_next before line rows more old new known le all k p here = ended_from rows more (job_at old k) (job_at new k) before line k p (known k) le (all k) here
