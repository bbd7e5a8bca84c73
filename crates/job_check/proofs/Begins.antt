-- The row that began last, one line further.
use Rattle.std.proofs.Common.{◌≡◌, ℕ, ◌+◌, ◌==◌, ◌||◌, Bool, true, false, List, [], ◌∷◌, ◌++◌, length, refl, ap, sym, ◌∙◌, subst, arith}
use Rattle.std.specs.Prelude.{nat_lt, Option, Some, None, is_some}
use Rattle.std.specs.List.{filter_map, cons_option, list_any}
use Rattle.std.specs.Option.{option_to_list}
use Rattle.std.proofs.lemmas.Bool.Decides.{nat_tests}
use Rattle.std.proofs.lemmas.List.{reverse-append, append-nil}
use Rattle.std.proofs.lemmas.List.Folds.{list_any-append}
use Rattle.blk_base.specs.declared.moves.BackMover.TheVariants as back
use Rattle.blk_base.specs.declared.moves.Move.TheVariants as moves
use Rattle.schedule_text.specs.declared.line.Line.{Line}
use Rattle.schedule_text.specs.declared.line.Line.TheVariants as lines
use Rattle.report_rules.specs.declared.standing.Standing.{Standing}
use Rattle.report_rules.specs.Standing.{is_epoch, this_epoch}
use Rattle.report_rules.specs.Ring.{page_made, ring_pages}
use Rattle.report_rules.specs.Job.{is_job, disk_mover, fetched_of}
use Rattle.report_rules.specs.Reply.{words_due, response_due}
use Rattle.ring_check.proofs.Telling.{touches, IsNew, alone}
use Rattle.job_check.specs.Open.{Open, due, end_told, is_early}
use Rattle.job_check.specs.Replies.{Replies}
use Rattle.job_check.specs.State.{job_at}
use Rattle.job_check.proofs.Telling.{longer, last_mover, mover_more, neither, or_false}
use Rattle.job_check.proofs.Entries.{shown_kept, pages_more}
use Rattle.job_check.proofs.Fetches.{fetched_within, unfetched_before}
use Rattle.job_check.proofs.Jobs.{IsJob}
use Rattle.job_check.proofs.Changes.{IsJobOf, AreJobs}
use Rattle.job_check.proofs.Written.{written_on, written_stays}
use Rattle.job_check.proofs.NextJobs.{due_is, NextJob, closed_still, carried, goes_on, fails, begins, ends}
use Rattle.job_check.proofs.NextLines.{AllNext}
use Rattle.job_check.proofs.Rows.{IsEarly, Begun, EndedBy, ended_none}

-- ---- a job, in a line that begins no row
mover_is : (before : List Line) (line : Line) → is_epoch line ≡ false → last_mover (this_epoch (before ++ line ∷ [])) ≡ disk_mover line
mover_is before line e = ap last_mover (longer before line e) ∙ mover_more (this_epoch before) line

not_early : (rows : ℕ) (words : Option (List ℕ)) (ended : Option ℕ) → ended ≡ end_told None rows words → is_early rows ended ≡ false
not_early rows None ended e = ap (is_early rows) e
not_early rows (Some ws) ended e = ap (is_early rows) e ∙ same
  where
    same : nat_lt rows rows ≡ false
    same = grind (arith, nat_tests)

late_job : (after early : List Line) (rows k : ℕ) (o : Open) → is_early rows o.ended ≡ false → response_due early k ≡ None → IsEarly after early rows k o
late_job after early rows k o late none = record { due = λ h. absurd (cc); still = λ h. absurd (cc); late = λ h. none }

-- the disk failed it: it hadn't come to its end before the row
failed_late : (before early : List Line) (rows k : ℕ) (o : Open) (words : Option (List ℕ)) (ended : Option ℕ) → IsEarly before early rows k o → is_job k (last_mover (this_epoch before)) ≡ true → ended ≡ end_told o.ended rows words → (is_early rows ended ≡ false) × (response_due early k ≡ None)
failed_late before early rows k o words ended was own e = by_early (is_early rows o.ended) refl
  where
    by_ended : (known : Option ℕ) → o.ended ≡ known → is_early rows known ≡ false → is_early rows ended ≡ false
    by_ended None at late = not_early rows words ended (e ∙ ap (λ (x : Option ℕ). end_told x rows words) at)
    by_ended (Some n) at late = ap (is_early rows) (e ∙ ap (λ (x : Option ℕ). end_told x rows words) at) ∙ late

    by_early : (b : Bool) → is_early rows o.ended ≡ b → (is_early rows ended ≡ false) × (response_due early k ≡ None)
    by_early true h = absurd (let quiet = was.still h in cc)
    by_early false h = (by_ended o.ended refl h, was.late h)

early_from : (before early : List Line) (line : Line) (rows k : ℕ) (was is : Option Open) (p : Open) → is_epoch line ≡ false → ((o : Open) → was ≡ Some o → IsEarly before early rows k o) → ((o : Open) → was ≡ Some o → EndedBy rows o.ended (due o))
    → (fetched_of before k ≡ None → fetched_of early k ≡ None) → NextJob before line rows k was is → is ≡ Some p → IsEarly (before ++ line ∷ []) early rows k p
early_from before early line rows k was is p e each known unfetched next here =
    elim next [
      | closed_still gone none same ↦ absurd (cc)
      | carried o q w i ended words quiet same ↦
          let one : q ≡ p = cc in
          let old : IsEarly before early rows k o = each o w in
          let now : IsEarly (before ++ line ∷ []) early rows k q = record {
            due = λ h. old.due (ap (is_early rows) (sym ended) ∙ h) ∙ sym words;
            still = λ h. ap (is_job k) (mover_is before line e) ∙ quiet;
            late = λ h. old.late (ap (is_early rows) (sym ended) ∙ h);
          } in
          subst (λ (x : Open). IsEarly (before ++ line ∷ []) early rows k x) one now
      | goes_on o q w i ended none same ↦
          let one : q ≡ p = cc in
          let first : o.ended ≡ None = ended_none rows o.ended (due o) (known o w) none in
          subst (λ (x : Open). IsEarly (before ++ line ∷ []) early rows k x) one
          (late_job (before ++ line ∷ []) early rows k q (not_early rows (due q) q.ended (ended ∙ ap (λ (x : Option ℕ). end_told x rows (due q)) first)) ((each o w).late (ap (is_early rows) first)))
      | fails o q w i ended some own quiet same ↦
          let one : q ≡ p = cc in
          let both = failed_late before early rows k o (due q) q.ended (each o w) own ended in
          subst (λ (x : Open). IsEarly (before ++ line ∷ []) early rows k x) one (late_job (before ++ line ∷ []) early rows k q both.0 both.1)
      | begins q gone i ended none some ↦
          let one : q ≡ p = cc in
          subst (λ (x : Open). IsEarly (before ++ line ∷ []) early rows k x) one
          (late_job (before ++ line ∷ []) early rows k q (not_early rows (due q) q.ended ended) (ap (words_due early k) (unfetched none)))
      | ends o w none told same ↦ absurd (cc)
    ]

-- ---- what the lines of the row write, with one page more
count_more : (before : List Line) (line : Line) (later : List Line) → is_epoch line ≡ false → IsNew (page_made line) later
    → length (filter_map (written_on (ring_pages (before ++ line ∷ []))) (line ∷ later)) ≡ length (cons_option (written_on (ring_pages before) line) (filter_map (written_on (ring_pages before)) later))
count_more before line later e new =
    ap (λ (ps : List Standing). length (filter_map (written_on ps) (line ∷ later))) (pages_more before line e)
    ∙ (ap (λ (vs : List ℕ). length (cons_option (written_on (ring_pages before ++ option_to_list (page_made line)) line) vs)) (shown_kept written_on written_stays (ring_pages before) (page_made line) later new)
    ∙ ap (λ (o : Option ℕ). length (cons_option o (filter_map (written_on (ring_pages before)) later))) (alone written_on written_stays (ring_pages before) line))

new_in : (made : Option Standing) (before : List Line) (first : Line) (later : List Line) → ((m : ℕ) → list_any (touches m) (this_epoch before) ≡ false → (touches m first ≡ false) × (list_any (touches m) later ≡ false)) → IsNew made (this_epoch before) → IsNew made later
new_in None before first later within new = tt
new_in (Some p) before first later within new = (within p.number new).1

first_same : (made : Option Standing) (pages : List Standing) (before : List Line) (first : Line) (later : List Line) → ((m : ℕ) → list_any (touches m) (this_epoch before) ≡ false → (touches m first ≡ false) × (list_any (touches m) later ≡ false)) → IsNew made (this_epoch before)
    → written_on (pages ++ option_to_list made) first ≡ written_on pages first
first_same None pages before first later within new = ap (λ (ps : List Standing). written_on ps first) (append-nil pages)
first_same (Some p) pages before first later within new = written_stays pages p first (within p.number new).0

-- the lines of the row with one more, whatever the row is then
pub begun_more : (before : List Line) (line : Line) (r more : Replies) (old new : List (ℕ × Open)) (b : Begun before r old) → is_epoch line ≡ false → IsNew (page_made line) (this_epoch before) → more.rows ≡ r.rows → ((k : ℕ) (o : Open) → job_at old k ≡ Some o → EndedBy r.rows o.ended (due o))
    → AllNext before line r.rows old new
    → ((length more.row == 0) ≡ false → length (cons_option (written_on (ring_pages before) line) (filter_map (written_on (ring_pages before)) b.later)) + 1 ≡ length more.row)
    → (is_some more.pushed ≡ true → length (cons_option (written_on (ring_pages before) line) (filter_map (written_on (ring_pages before)) b.later)) + 1 ≡ 4)
    → Begun (before ++ line ∷ []) more new
begun_more before line r more old new b e page same known next row pushed =
    let count = count_more before line b.later e (new_in (page_made line) before b.first b.later b.within page) in
    record {
      early = b.early;
      first = b.first;
      later = line ∷ b.later;
      back = reverse-append before (line ∷ []) ∙ ap (λ (xs : List Line). line ∷ xs) b.back;
      within = λ m none. (let both = split m none in ((b.within m both.0).0, either (touches m line) (list_any (touches m) b.later) both.1 (b.within m both.0).1));
      wrote = ap (λ (ps : List Standing). is_some (written_on ps b.first)) (pages_more before line e) ∙ (ap (λ (o : Option ℕ). is_some o) (first_same (page_made line) (ring_pages before) before b.first b.later b.within page) ∙ b.wrote);
      row = λ some. ap (λ (n : ℕ). n + 1) count ∙ row some;
      pushed = λ some. ap (λ (n : ℕ). n + 1) count ∙ pushed some;
      unfetched = λ k none. b.unfetched k (unfetched_before before line k e none);
      most = b.most;
      each = λ k p here. subst (λ (n : ℕ). IsEarly (before ++ line ∷ []) b.early n k p) (sym same) (early_from before b.early line r.rows k (job_at old k) (job_at new k) p e (b.each k) (known k) (b.unfetched k) (next k) here);
    }
  where
    split : (m : ℕ) → list_any (touches m) (this_epoch (before ++ line ∷ [])) ≡ false → (list_any (touches m) (this_epoch before) ≡ false) × (touches m line ≡ false)
    split m none =
        let both = neither (list_any (touches m) (this_epoch before)) (touches m line || false) (sym (list_any-append (touches m) (this_epoch before) (line ∷ [])) ∙ (ap (list_any (touches m)) (sym (longer before line e)) ∙ none)) in
        (both.0, sym (or_false (touches m line)) ∙ both.1)

    either : (a c : Bool) → a ≡ false → c ≡ false → (a || c) ≡ false
    either a c h i = rw (h, i) refl

-- ---- a line that begins a row
writer_quiet : (pages : List Standing) (line : Line) (value : ℕ) → written_on pages line ≡ Some value → disk_mover line ≡ None
writer_quiet pages (lines.Move (moves.Write back.Back number frame word written)) value e = refl
writer_quiet pages line value e = absurd (cc)

ended_now : (rows : ℕ) (ended : Option ℕ) (words : Option (List ℕ)) → EndedBy rows ended words → is_early (rows + 1) ended ≡ false → words ≡ None
ended_now rows None words by late = by
ended_now rows (Some known) words by late = absurd (let le = by.1 in grind (arith, nat_tests))

-- each job that came to its end did so before the row that begins now
pub now_early : (before : List Line) (rows k : ℕ) (o : Open) → IsJob before k o → EndedBy rows o.ended (due o) → (is_early (rows + 1) o.ended ≡ true → response_due before k ≡ due o) × (is_early (rows + 1) o.ended ≡ false → response_due before k ≡ None)
now_early before rows k o j by = (λ h. sym (due_is before k o j), λ h. sym (due_is before k o j) ∙ ended_now rows o.ended (due o) by h)

pub begun_now : (before : List Line) (line : Line) (value rows : ℕ) (jobs : List (ℕ × Open)) → is_epoch line ≡ false → AreJobs before jobs → ((k : ℕ) (o : Open) → job_at jobs k ≡ Some o → EndedBy rows o.ended (due o))
    → written_on (ring_pages before) line ≡ Some value → Begun (before ++ line ∷ []) (record { rows = rows + 1; row = value ∷ []; pushed = None }) jobs
begun_now before line value rows jobs e are known writes = record {
  early = before;
  first = line;
  later = [];
  back = reverse-append before (line ∷ []);
  within = λ m none. (last m none, refl);
  wrote = ap (λ (ps : List Standing). is_some (written_on ps line)) (pages_more before line e) ∙ (ap (λ (o : Option ℕ). is_some o) (alone written_on written_stays (ring_pages before) line ∙ writes));
  row = λ some. refl;
  pushed = λ some. absurd (cc);
  unfetched = λ k none. unfetched_before before line k e none;
  most = fetched_within before;
  each = λ k o here.
      (let both = now_early before rows k o (subst (IsJobOf before k) here (are.each k)) (known k o here) in
      record { due = both.0; still = λ h. ap (is_job k) (mover_is before line e ∙ writer_quiet (ring_pages before) line value writes); late = both.1 });
}
  where
    last : (m : ℕ) → list_any (touches m) (this_epoch (before ++ line ∷ [])) ≡ false → touches m line ≡ false
    last m none =
        let both = neither (list_any (touches m) (this_epoch before)) (touches m line || false) (sym (list_any-append (touches m) (this_epoch before) (line ∷ [])) ∙ (ap (list_any (touches m)) (sym (longer before line e)) ∙ none)) in
        sym (or_false (touches m line)) ∙ both.1
