-- An open job and one that had its reply, one line further.
use Rattle.std.proofs.Common.{◌≡◌, ℕ, ◌+◌, ◌==◌, ◌&&◌, ◌||◌, Bool, true, false, cond, if◌then◌else◌, List, [], ◌∷◌, ◌++◌, take, refl, ap, sym, ◌∙◌, subst, append-nil, arith}
use Rattle.std.specs.Prelude.{slice_get, Option, Some, None, is_some, option_and_then}
use Rattle.std.specs.Option.{option_to_list}
use Rattle.std.proofs.lemmas.Bool.Decides.{nat_tests}
use Rattle.blk_base.specs.declared.moves.BackMover.{BackMover}
use Rattle.blk_base.specs.declared.moves.Move.{Move}
use Rattle.blk_base.specs.declared.moves.Move.TheVariants as moves
use Rattle.blk_layout.specs.declared.request.RawRequest.{RawRequest}
use Rattle.segment_list.specs.declared.verdict.DiskInfo.{DiskInfo}
use Rattle.schedule_text.specs.declared.line.Line.{Line}
use Rattle.schedule_text.specs.declared.line.Line.TheVariants as lines
use Rattle.report_rules.specs.declared.walk.Spot.{Spot}
use Rattle.report_rules.specs.declared.work.Task.{Task}
use Rattle.report_rules.specs.declared.job.Fetched.{Fetched}
use Rattle.report_rules.specs.Standing.{is_epoch, this_epoch}
use Rattle.report_rules.specs.Work.{work_tasks}
use Rattle.report_rules.specs.Job.{back_mover_job, disk_mover, is_job, fetched_of, disk_moves_of}
use Rattle.report_rules.specs.Step.{stepper, job_step, value_read, values_read, work_of}
use Rattle.report_rules.specs.Walk.{advanced, walked, walk_of}
use Rattle.report_rules.specs.Steps.{is_fault, failed_in, IsStepOf}
use Rattle.report_rules.specs.Data.{words_in, words_from}
use Rattle.report_rules.proofs.Walked.{first_moves}
use Rattle.job_check.specs.Open.{Open, after_word, walked_by, moved_once, with_fault, with_sector}
use Rattle.job_check.proofs.Telling.{or_false, longer, last_mover, failed_more, words_more, words_still, words_other, values_more, walk_more, moves_more, no_value, no_step, no_disk_move}
use Rattle.job_check.proofs.Works.{words_of, Extends, work_extends, IsWorked, tasks_are, word_leaves, word_worked}
use Rattle.job_check.proofs.Walks.{advanced_more, walk_grows}
use Rattle.job_check.proofs.Jobs.{fetched_for, IsJob, MayStep, step_in}

-- ---- a line that is no step of the job
pub same_values : (before : List Line) (line : Line) (k : ℕ) → is_epoch line ≡ false → is_job k (stepper line) ≡ false → values_read (before ++ line ∷ []) k ≡ values_read before k
same_values before line k e other = values_more before line k e ∙ (ap (λ (o : Option ℕ). values_read before k ++ option_to_list o) (no_value k line other) ∙ append-nil (values_read before k))

pub same_walk : (before : List Line) (line : Line) (k : ℕ) (persistent : Bool) (work : List Task) → is_epoch line ≡ false → is_job k (stepper line) ≡ false → walk_of persistent work k (this_epoch (before ++ line ∷ [])) ≡ walk_of persistent work k (this_epoch before)
same_walk before line k persistent work e other =
    ap (walk_of persistent work k) (longer before line e)
    ∙ (walk_more persistent work k (this_epoch before) line ∙ ap (λ (m : Option Move). walked persistent work m (walk_of persistent work k (this_epoch before))) (no_step k line other))

same_moves : (before : List Line) (line : Line) (k : ℕ) → is_epoch line ≡ false → is_job k (stepper line) ≡ false → disk_moves_of (before ++ line ∷ []) k ≡ disk_moves_of before k
same_moves before line k e other =
    let more = moves_more before line k e in
    let none : ◌≡◌ {A = ℕ} (cond (is_job k (disk_mover line)) 1 0) 0 = ap (λ (b : Bool). cond b 1 0) (no_disk_move k line other) in
    omega arith

pub failed_is : (before : List Line) (line : Line) (k : ℕ) → is_epoch line ≡ false → failed_in k (this_epoch (before ++ line ∷ [])) ≡ (failed_in k (this_epoch before) || (is_job k (last_mover (this_epoch before)) && is_fault line))
failed_is before line k e = ap (failed_in k) (longer before line e) ∙ failed_more k (this_epoch before) line

job_quiet : (before : List Line) (line : Line) (k : ℕ) (o : Open) (failed : Bool) (sector : Option (List ℕ)) → is_epoch line ≡ false → is_job k (stepper line) ≡ false → fetched_of (before ++ line ∷ []) k ≡ fetched_of before k → IsJob before k o
    → failed ≡ failed_in k (this_epoch (before ++ line ∷ [])) → sector ≡ words_from None k (this_epoch (before ++ line ∷ [])) → IsJob (before ++ line ∷ []) k (record o { failed = failed; sector = sector })
job_quiet before line k o failed sector e other fetched j is_failed is_sector =
    let values : values_read (before ++ line ∷ []) k ≡ values_read before k = same_values before line k e other in
    record {
      number = j.number;
      fetched = fetched ∙ j.fetched;
      worked = record { read = j.worked.read ∙ ap (take (words_of o.request)) (sym values); tasks = j.worked.tasks; served = j.worked.served };
      spot = j.spot ∙ sym (same_walk before line k o.persistent o.tasks e other);
      failed = is_failed;
      moved = j.moved ∙ sym (same_moves before line k e other);
      sector = is_sector;
    }

-- a line that says nothing of the job
pub job_still : (before : List Line) (line : Line) (k : ℕ) (o : Open) → is_epoch line ≡ false → is_job k (stepper line) ≡ false → fetched_of (before ++ line ∷ []) k ≡ fetched_of before k → IsJob before k o → is_fault line ≡ false → words_in line ≡ None → IsJob (before ++ line ∷ []) k o
job_still before line k o e other fetched j fault words =
    job_quiet before line k o o.failed o.sector e other fetched j
    (j.failed ∙ sym (failed_is before line k e ∙ (ap (λ (b : Bool). failed_in k (this_epoch before) || (is_job k (last_mover (this_epoch before)) && b)) fault ∙ and_no (failed_in k (this_epoch before)) (is_job k (last_mover (this_epoch before))))))
    (j.sector ∙ sym (ap (words_from None k) (longer before line e) ∙ words_still k (this_epoch before) line (no_disk_move k line other) words))
  where
    and_no : (a b : Bool) → (a || (b && false)) ≡ a
    and_no true b = refl
    and_no false true = refl
    and_no false false = refl

-- the outcome of a move of another job
pub job_apart : (before : List Line) (line : Line) (k : ℕ) (o : Open) → is_epoch line ≡ false → is_job k (stepper line) ≡ false → fetched_of (before ++ line ∷ []) k ≡ fetched_of before k → IsJob before k o → is_job k (last_mover (this_epoch before)) ≡ false → IsJob (before ++ line ∷ []) k o
job_apart before line k o e other fetched j apart =
    job_quiet before line k o o.failed o.sector e other fetched j
    (j.failed ∙ sym (failed_is before line k e ∙ (ap (λ (b : Bool). failed_in k (this_epoch before) || (b && is_fault line)) apart ∙ or_false (failed_in k (this_epoch before)))))
    (j.sector ∙ sym (ap (words_from None k) (longer before line e) ∙ words_other k (this_epoch before) line (no_disk_move k line other) apart))

-- the words that the disk gave it
pub job_given : (before : List Line) (id index : ℕ) (words : List ℕ) (k : ℕ) (o : Open) → fetched_of (before ++ lines.EffectRead id index words ∷ []) k ≡ fetched_of before k → IsJob before k o → is_job k (last_mover (this_epoch before)) ≡ true
    → IsJob (before ++ lines.EffectRead id index words ∷ []) k (with_sector o words)
job_given before id index words k o fetched j own =
    let line : Line = lines.EffectRead id index words in
    job_quiet before line k o o.failed (Some words) refl refl fetched j
    (j.failed ∙ sym (failed_is before line k refl ∙ ap (λ (b : Bool). failed_in k (this_epoch before) || (b && false)) own ∙ or_false (failed_in k (this_epoch before))))
    (sym (ap (words_from None k) (longer before line refl) ∙ (words_more k (this_epoch before) line ∙ ap (λ (b : Bool). if b then Some words else words_from None k (this_epoch before)) own)))

-- the disk failed it
pub job_failed : (before : List Line) (id index k : ℕ) (o : Open) → fetched_of (before ++ lines.Fault id index ∷ []) k ≡ fetched_of before k → IsJob before k o → is_job k (last_mover (this_epoch before)) ≡ true → IsJob (before ++ lines.Fault id index ∷ []) k (with_fault o)
job_failed before id index k o fetched j own =
    let line : Line = lines.Fault id index in
    job_quiet before line k o true o.sector refl refl fetched j
    (sym (failed_is before line k refl ∙ (ap (λ (b : Bool). failed_in k (this_epoch before) || (b && true)) own ∙ or_true (failed_in k (this_epoch before)))))
    (j.sector ∙ sym (ap (words_from None k) (longer before line refl) ∙ words_still k (this_epoch before) line refl refl))
  where
    or_true : (b : Bool) → (b || true) ≡ true
    or_true true = refl
    or_true false = refl

-- ---- a step of the job
-- with a step that the rule allows its walk goes on
pub goes : (before : List Line) (k : ℕ) (move : Move) (o : Open) → IsJob before k o → MayStep before k move → is_some (option_and_then (advanced o.persistent o.tasks move) o.spot) ≡ true
goes before k move o j may =
    let step : IsStepOf before k move (fetched_for o) = step_in before k move o j may in
    let work : o.tasks ≡ work_of before k (fetched_for o) = tasks_are (values_read before k) o j.worked in
    ap (λ (s : Option Spot). is_some (option_and_then (advanced o.persistent o.tasks move) s)) j.spot
    ∙ (ap (λ (w : List Task). is_some (option_and_then (advanced o.persistent w move) (walk_of o.persistent w k (this_epoch before)))) work
    ∙ (first_moves o.persistent (work_of before k (fetched_for o)) k (this_epoch before) move ∙ step.first))

spot_more : (persistent : Bool) (tasks more : List Task) (k : ℕ) (xs : List Line) (line : Line) (move : Move) → job_step k line ≡ Some move → Extends tasks more → is_some (option_and_then (advanced persistent tasks move) (walk_of persistent tasks k xs)) ≡ true
    → option_and_then (advanced persistent tasks move) (walk_of persistent tasks k xs) ≡ walk_of persistent more k (xs ++ line ∷ [])
spot_more persistent tasks more k xs line move step extends goes =
    by_spot (walk_of persistent tasks k xs) refl goes
    ∙ sym (walk_more persistent more k xs line ∙ ap (λ (m : Option Move). walked persistent more m (walk_of persistent more k xs)) step)
  where
    by_next : (s : Spot) (q : Option Spot) → walk_of persistent tasks k xs ≡ Some s → advanced persistent tasks move s ≡ q → is_some q ≡ true → q ≡ option_and_then (advanced persistent more move) (walk_of persistent more k xs)
    by_next s None is to some = absurd (cc)
    by_next s (Some q) is to some =
        sym (ap (λ (o : Option Spot). option_and_then (advanced persistent more move) o) (walk_grows persistent tasks more k xs s extends is) ∙ advanced_more persistent tasks more move s q extends to)

    by_spot : (s : Option Spot) → walk_of persistent tasks k xs ≡ s → is_some (option_and_then (advanced persistent tasks move) s) ≡ true → option_and_then (advanced persistent tasks move) s ≡ option_and_then (advanced persistent more move) (walk_of persistent more k xs)
    by_spot None is some = absurd (cc)
    by_spot (Some s) is some = by_next s (advanced persistent tasks move s) is refl some

pub step_is : (k : ℕ) (move : Move) → stepper (lines.Move move) ≡ Some k → job_step k (lines.Move move) ≡ Some move
step_is k move e =
    let own : (k == k) ≡ true = grind (arith, nat_tests) in
    ap (λ (o : Option ℕ). if is_job k o then Some move else None) e ∙ ap (λ (b : Bool). if b then Some move else None) own

-- the parts of a job after a step that reads no word
moved_on : (before : List Line) (k : ℕ) (move : Move) (o : Open) (moved : ℕ) (sector : Option (List ℕ)) → fetched_of (before ++ lines.Move move ∷ []) k ≡ fetched_of before k → IsJob before k o → MayStep before k move → stepper (lines.Move move) ≡ Some k
    → is_epoch (lines.Move move) ≡ false → value_read k (lines.Move move) ≡ None → moved ≡ disk_moves_of (before ++ lines.Move move ∷ []) k → sector ≡ words_from None k (this_epoch (before ++ lines.Move move ∷ []))
    → IsJob (before ++ lines.Move move ∷ []) k (record (walked_by o move) { moved = moved; sector = sector })
moved_on before k move o moved sector fetched j may own e none is_moved is_sector =
    let line : Line = lines.Move move in
    let values : values_read (before ++ line ∷ []) k ≡ values_read before k = values_more before line k e ∙ (ap (λ (v : Option ℕ). values_read before k ++ option_to_list v) none ∙ append-nil (values_read before k)) in
    record {
      number = j.number;
      fetched = fetched ∙ j.fetched;
      worked = record { read = j.worked.read ∙ ap (take (words_of o.request)) (sym values); tasks = j.worked.tasks; served = j.worked.served };
      spot = ap (λ (s : Option Spot). option_and_then (advanced o.persistent o.tasks move) s) j.spot
          ∙ (spot_more o.persistent o.tasks o.tasks k (this_epoch before) line move (step_is k move own) (λ i t h. h)
          (ap (λ (s : Option Spot). is_some (option_and_then (advanced o.persistent o.tasks move) s)) (sym j.spot) ∙ goes before k move o j may)
          ∙ sym (ap (walk_of o.persistent o.tasks k) (longer before line e)));
      failed = j.failed ∙ sym (failed_is before line k e ∙ and_no (failed_in k (this_epoch before)) (is_job k (last_mover (this_epoch before))));
      moved = is_moved;
      sector = is_sector;
    }
  where
    and_no : (a b : Bool) → (a || (b && false)) ≡ a
    and_no true b = refl
    and_no false true = refl
    and_no false false = refl

own_job : (k : ℕ) (o : Option ℕ) → o ≡ Some k → is_job k o ≡ true
own_job k o e = let own : (k == k) ≡ true = grind (arith, nat_tests) in ap (is_job k) e ∙ own

-- a move of the disk
pub job_disk : (before : List Line) (k : ℕ) (move : Move) (o : Open) → fetched_of (before ++ lines.Move move ∷ []) k ≡ fetched_of before k → IsJob before k o → MayStep before k move → stepper (lines.Move move) ≡ Some k
    → is_epoch (lines.Move move) ≡ false → value_read k (lines.Move move) ≡ None → disk_mover (lines.Move move) ≡ Some k → IsJob (before ++ lines.Move move ∷ []) k (moved_once (walked_by o move))
job_disk before k move o fetched j may own e none mover =
    let line : Line = lines.Move move in
    let is : is_job k (disk_mover (lines.Move move)) ≡ true = own_job k (disk_mover (lines.Move move)) mover in
    moved_on before k move o (o.moved + 1) None fetched j may own e none
    (ap (λ (n : ℕ). n + 1) j.moved ∙ sym (moves_more before line k e ∙ ap (λ (b : Bool). disk_moves_of before k + cond b 1 0) is))
    (sym (ap (words_from None k) (longer before line e) ∙ (words_more k (this_epoch before) line ∙ ap (λ (b : Bool). if b then None else (if is_job k (last_mover (this_epoch before)) then None else words_from None k (this_epoch before))) is)))

-- another step that reads no word
pub job_other : (before : List Line) (k : ℕ) (move : Move) (o : Open) → fetched_of (before ++ lines.Move move ∷ []) k ≡ fetched_of before k → IsJob before k o → MayStep before k move → stepper (lines.Move move) ≡ Some k
    → is_epoch (lines.Move move) ≡ false → value_read k (lines.Move move) ≡ None → disk_mover (lines.Move move) ≡ None → IsJob (before ++ lines.Move move ∷ []) k (walked_by o move)
job_other before k move o fetched j may own e none mover =
    let line : Line = lines.Move move in
    let is : is_job k (disk_mover (lines.Move move)) ≡ false = ap (is_job k) mover in
    let more = moves_more before line k e in
    let zero : ◌≡◌ {A = ℕ} (cond (is_job k (disk_mover (lines.Move move))) 1 0) 0 = ap (λ (b : Bool). cond b 1 0) is in
    let same : disk_moves_of (before ++ line ∷ []) k ≡ disk_moves_of before k = omega arith in
    moved_on before k move o o.moved o.sector fetched j may own e none (j.moved ∙ sym same)
    (j.sector ∙ sym (ap (words_from None k) (longer before line e) ∙ words_still k (this_epoch before) line is refl))

-- a word that it reads
pub job_read : (before : List Line) (k : ℕ) (who : BackMover) (number frame word value : ℕ) (o : Open) → fetched_of (before ++ lines.Move (moves.Read who number frame word value) ∷ []) k ≡ fetched_of before k → IsJob before k o
    → MayStep before k (moves.Read who number frame word value) → back_mover_job who ≡ Some k → IsJob (before ++ lines.Move (moves.Read who number frame word value) ∷ []) k (after_word (walked_by o (moves.Read who number frame word value)) value)
job_read before k who number frame word value o fetched j may own =
    let move : Move = moves.Read who number frame word value in
    let line : Line = lines.Move move in
    let after : List Line = before ++ line ∷ [] in
    let gone : Open = walked_by o move in
    let reads : value_read k line ≡ Some value = ap (λ (b : Bool). if b then Some value else None) (own_job k (back_mover_job who) own) in
    let values : values_read after k ≡ values_read before k ++ value ∷ [] = values_more before line k refl ∙ ap (λ (v : Option ℕ). values_read before k ++ option_to_list v) reads in
    let known : IsWorked (values_read before k) gone = record { read = j.worked.read; tasks = j.worked.tasks; served = j.worked.served } in
    let more : IsWorked (values_read before k ++ value ∷ []) (after_word gone value) = word_worked (values_read before k) gone value known in
    let request : (after_word gone value).request ≡ o.request = word_leaves (λ (x : Open). x.request) gone value (λ r. refl) (λ r t s. refl) in
    let disk : (after_word gone value).disk ≡ o.disk = word_leaves (λ (x : Open). x.disk) gone value (λ r. refl) (λ r t s. refl) in
    let persistent : (after_word gone value).persistent ≡ o.persistent = word_leaves (λ (x : Open). x.persistent) gone value (λ r. refl) (λ r t s. refl) in
    let grown : (after_word gone value).tasks ≡ work_tasks o.request o.disk o.persistent (values_read before k ++ value ∷ []) =
    tasks_are (values_read before k ++ value ∷ []) (after_word gone value) more
    ∙ (ap (λ (r : RawRequest). work_tasks r (after_word gone value).disk (after_word gone value).persistent (values_read before k ++ value ∷ [])) request
    ∙ (ap (λ (d : DiskInfo). work_tasks o.request d (after_word gone value).persistent (values_read before k ++ value ∷ [])) disk
    ∙ ap (λ (p : Bool). work_tasks o.request o.disk p (values_read before k ++ value ∷ [])) persistent)) in
    let extends : Extends o.tasks (after_word gone value).tasks =
    λ i t h. subst (λ (w : List Task). slice_get w i ≡ Some t) (sym grown) (work_extends o.request o.disk o.persistent (values_read before k) value i t (subst (λ (w : List Task). slice_get w i ≡ Some t) (tasks_are (values_read before k) o j.worked) h)) in
    record {
      number = word_leaves (λ (x : Open). x.number) gone value (λ r. refl) (λ r t s. refl) ∙ j.number;
      fetched = fetched ∙ (j.fetched ∙ ap (λ (f : Fetched). Some f) (sym (word_leaves fetched_for gone value (λ r. refl) (λ r t s. refl))));
      worked = subst (λ (vs : List ℕ). IsWorked vs (after_word gone value)) (sym values) more;
      spot = word_leaves (λ (x : Open). x.spot) gone value (λ r. refl) (λ r t s. refl)
          ∙ (ap (λ (s : Option Spot). option_and_then (advanced o.persistent o.tasks move) s) j.spot
          ∙ (spot_more o.persistent o.tasks (after_word gone value).tasks k (this_epoch before) line move (step_is k move own) extends
          (ap (λ (s : Option Spot). is_some (option_and_then (advanced o.persistent o.tasks move) s)) (sym j.spot) ∙ goes before k move o j may)
          ∙ (sym (ap (walk_of o.persistent (after_word gone value).tasks k) (longer before line refl))
          ∙ ap (λ (p : Bool). walk_of p (after_word gone value).tasks k (this_epoch after)) (sym persistent))));
      failed = word_leaves (λ (x : Open). x.failed) gone value (λ r. refl) (λ r t s. refl)
          ∙ (j.failed ∙ sym (failed_is before line k refl ∙ and_no (failed_in k (this_epoch before)) (is_job k (last_mover (this_epoch before)))));
      moved = word_leaves (λ (x : Open). x.moved) gone value (λ r. refl) (λ r t s. refl)
          ∙ (j.moved ∙ sym (moves_more before line k refl ∙ plus_none (disk_moves_of before k)));
      sector = word_leaves (λ (x : Open). x.sector) gone value (λ r. refl) (λ r t s. refl)
          ∙ (j.sector ∙ sym (ap (words_from None k) (longer before line refl) ∙ words_still k (this_epoch before) line refl refl));
    }
  where
    and_no : (a b : Bool) → (a || (b && false)) ≡ a
    and_no true b = refl
    and_no false true = refl
    and_no false false = refl

    plus_none : (n : ℕ) → n + 0 ≡ n
    plus_none n = omega arith
