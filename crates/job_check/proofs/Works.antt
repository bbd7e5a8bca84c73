-- The work of a job, as far as the words of its indirect pages that it read tell: a word more leaves the tasks that are known, and no word counts past those of all segments.
use Rattle.std.proofs.Common.{◌≡◌, ℕ, zero, suc, ◌+◌, ◌*◌, ◌<◌, ◌≤◌, Bool, true, false, if◌then◌else◌, List, [], ◌∷◌, ◌++◌, length, take, min, refl, ap, sym, ◌∙◌, subst, length-append, arith}
use Rattle.std.specs.Prelude.{nat_lt, nat_le, slice_get, slice_index, Some}
use Rattle.std.proofs.lemmas.Bool.Decides.{nat_tests}
use Rattle.std.proofs.lemmas.List.{take_all, take-append-le, length-take, get_or-take}
use Rattle.blk_base.specs.declared.operation.Status.{Status}
use Rattle.blk_layout.specs.declared.request.RawRequest.{RawRequest}
use Rattle.blk_layout.specs.declared.request.RawRequest.TheVariants.{Direct, Discard, Indirect}
use Rattle.blk_layout.specs.Entry.{segments_at}
use Rattle.segment_list.specs.declared.verdict.DiskInfo.{DiskInfo}
use Rattle.segment_list.specs.declared.verdict.Verdict.{Verdict}
use Rattle.segment_list.specs.declared.verdict.Verdict.TheVariants.{Serve, Error, Unsupported}
use Rattle.segment_list.specs.Verdict.{verdict_of, finished_verdict}
use Rattle.report_rules.specs.declared.work.Task.{Task}
use Rattle.report_rules.specs.Work.{pages_of, served_tasks, are_read, settled, work_verdict, indirect_tasks, work_tasks, status_by}
use Rattle.report_rules.proofs.Copied.{no_segments, one_segment}
use Rattle.job_check.specs.Open.{Open, lacks_words, tasks_by, served_by, with_words, after_word}

-- how many words of its indirect pages a request has, two a segment
abbrev pub words_of : RawRequest → ℕ
words_of (Direct op count device id sector segments) = 0
words_of (Discard flag device id sector count) = 0
words_of (Indirect inner count device id sector pages) = 2 * count

pub lacks_is : (r : RawRequest) (n : ℕ) → lacks_words r n ≡ nat_lt n (words_of r)
lacks_is (Direct op count device id sector segments) n = grind (arith, nat_tests)
lacks_is (Discard flag device id sector count) n = grind (arith, nat_tests)
lacks_is (Indirect inner count device id sector pages) n = refl

segments_kept : (words : List ℕ) (n at count : ℕ) → at + 2 * count ≤ n → segments_at (take n words) at count ≡ segments_at words at count
segments_kept words n at zero le = no_segments (take n words) at ∙ sym (no_segments words at)
segments_kept words n at (suc c) le =
    let first : slice_index (take n words) at ≡ slice_index words at = get_or-take n words at 0 (omega arith) in
    let second : slice_index (take n words) (at + 1) ≡ slice_index words (at + 1) = get_or-take n words (at + 1) 0 (omega arith) in
    one_segment (take n words) at c
    ∙ (rw (first, second, segments_kept words n (at + 2) c (omega arith)) refl
    ∙ sym (one_segment words at c))

read_kept : (words : List ℕ) (count : ℕ) → are_read count (take (2 * count) words) ≡ are_read count words
read_kept words count =
    let long = length-take (2 * count) words in
    grind (arith, nat_tests)

-- no word past those of all segments counts
pub tasks_kept : (r : RawRequest) (disk : DiskInfo) (persistent : Bool) (words : List ℕ) → work_tasks r disk persistent (take (words_of r) words) ≡ work_tasks r disk persistent words
tasks_kept (Direct op count device id sector segments) disk persistent words = refl
tasks_kept (Discard flag device id sector count) disk persistent words = refl
tasks_kept (Indirect inner count device id sector pages) disk persistent words = by_verdict (verdict_of (Indirect inner count device id sector pages) disk)
  where
    by_verdict : (v : Verdict) → indirect_tasks persistent v count pages (take (2 * count) words) disk ≡ indirect_tasks persistent v count pages words disk
    by_verdict (Serve plan) = rw (read_kept words count, segments_kept words (2 * count) 0 count (omega arith)) refl
    by_verdict (Error why) = refl
    by_verdict Unsupported = refl

pub verdict_kept : (r : RawRequest) (disk : DiskInfo) (words : List ℕ) → work_verdict r disk (take (words_of r) words) ≡ work_verdict r disk words
verdict_kept (Direct op count device id sector segments) disk words = refl
verdict_kept (Discard flag device id sector count) disk words = refl
verdict_kept (Indirect inner count device id sector pages) disk words = by_verdict (verdict_of (Indirect inner count device id sector pages) disk)
  where
    by_verdict : (v : Verdict) → settled v count (take (2 * count) words) disk ≡ settled v count words disk
    by_verdict (Serve plan) = rw (read_kept words count, segments_kept words (2 * count) 0 count (omega arith)) refl
    by_verdict (Error why) = refl
    by_verdict Unsupported = refl

-- fewer words tell as much as none
few : (count : ℕ) (words : List ℕ) → nat_lt (length words) (2 * count) ≡ true → are_read count words ≡ false
few count words e = grind (arith, nat_tests)

none_read : (count : ℕ) (words : List ℕ) → nat_lt (length words) (2 * count) ≡ true → nat_le (2 * count) 0 ≡ false
none_read count words e = grind (arith, nat_tests)

pub tasks_lacking : (r : RawRequest) (disk : DiskInfo) (persistent : Bool) (words : List ℕ) → lacks_words r (length words) ≡ true → work_tasks r disk persistent words ≡ work_tasks r disk persistent []
tasks_lacking (Direct op count device id sector segments) disk persistent words e = refl
tasks_lacking (Discard flag device id sector count) disk persistent words e = refl
tasks_lacking (Indirect inner count device id sector pages) disk persistent words e = by_verdict (verdict_of (Indirect inner count device id sector pages) disk)
  where
    by_verdict : (v : Verdict) → indirect_tasks persistent v count pages words disk ≡ indirect_tasks persistent v count pages [] disk
    by_verdict (Serve plan) = rw (few count words e, none_read count words e) refl
    by_verdict (Error why) = refl
    by_verdict Unsupported = refl

pub verdict_lacking : (r : RawRequest) (disk : DiskInfo) (words : List ℕ) → lacks_words r (length words) ≡ true → work_verdict r disk words ≡ work_verdict r disk []
verdict_lacking (Direct op count device id sector segments) disk words e = refl
verdict_lacking (Discard flag device id sector count) disk words e = refl
verdict_lacking (Indirect inner count device id sector pages) disk words e = by_verdict (verdict_of (Indirect inner count device id sector pages) disk)
  where
    by_verdict : (v : Verdict) → settled v count words disk ≡ settled v count [] disk
    by_verdict (Serve plan) = rw (few count words e, none_read count words e) refl
    by_verdict (Error why) = refl
    by_verdict Unsupported = refl

-- ---- the tasks that are known stay
abbrev pub Extends : List Task → List Task → Type 0
Extends work more = (i : ℕ) (t : Task) → slice_get work i ≡ Some t → slice_get more i ≡ Some t

extends_more : (xs ys : List Task) → Extends (xs ++ []) (xs ++ ys)
extends_more [] ys i t e = absurd (cc)
extends_more (x ∷ xs) ys zero t e = e
extends_more (x ∷ xs) ys (suc i) t e = extends_more xs ys i t e

pub work_extends : (r : RawRequest) (disk : DiskInfo) (persistent : Bool) (words : List ℕ) (value : ℕ) → Extends (work_tasks r disk persistent words) (work_tasks r disk persistent (words ++ value ∷ []))
work_extends (Direct op count device id sector segments) disk persistent words value = λ i t e. e
work_extends (Discard flag device id sector count) disk persistent words value = λ i t e. e
work_extends (Indirect inner count device id sector pages) disk persistent words value = by_read (nat_le (2 * count) (length words)) refl
  where
    same : nat_le (2 * count) (length words) ≡ true → work_tasks (Indirect inner count device id sector pages) disk persistent words ≡ work_tasks (Indirect inner count device id sector pages) disk persistent (words ++ value ∷ [])
    same e =
        let le : 2 * count ≤ length words = grind (arith, nat_tests) in
        sym (tasks_kept (Indirect inner count device id sector pages) disk persistent words)
        ∙ (ap (work_tasks (Indirect inner count device id sector pages) disk persistent) (sym (take-append-le (2 * count) words (value ∷ []) le))
        ∙ tasks_kept (Indirect inner count device id sector pages) disk persistent (words ++ value ∷ []))

    by_verdict : (v : Verdict) → nat_le (2 * count) (length words) ≡ false → Extends (indirect_tasks persistent v count pages words disk) (indirect_tasks persistent v count pages (words ++ value ∷ []) disk)
    by_verdict (Serve plan) e =
        subst (λ (xs : List Task). Extends xs (indirect_tasks persistent (Serve plan) count pages (words ++ value ∷ []) disk))
        (ap (λ (b : Bool). pages_of count pages ++ (if b then served_tasks persistent (finished_verdict plan (segments_at words 0 count) disk) (segments_at words 0 count) else [])) (sym e))
        (extends_more (pages_of count pages) _)
    by_verdict (Error why) e = λ i t h. h
    by_verdict Unsupported e = λ i t h. h

    by_read : (b : Bool) → nat_le (2 * count) (length words) ≡ b → Extends (work_tasks (Indirect inner count device id sector pages) disk persistent words) (work_tasks (Indirect inner count device id sector pages) disk persistent (words ++ value ∷ []))
    by_read true e = λ i t h. subst (λ (w : List Task). slice_get w i ≡ Some t) (same e) h
    by_read false e = by_verdict (verdict_of (Indirect inner count device id sector pages) disk) e

-- ---- a job's words and tasks
pub record IsWorked (values : List ℕ) (o : Open) : Type 0 where
  pub read : o.read ≡ take (words_of o.request) values
  pub tasks : o.tasks ≡ tasks_by o o.read
  pub served : o.served ≡ served_by o o.read

pub tasks_are : (values : List ℕ) (o : Open) → IsWorked values o → o.tasks ≡ work_tasks o.request o.disk o.persistent values
tasks_are values o w = w.tasks ∙ (ap (work_tasks o.request o.disk o.persistent) w.read ∙ tasks_kept o.request o.disk o.persistent values)

pub served_are : (values : List ℕ) (o : Open) → IsWorked values o → o.served ≡ status_by (work_verdict o.request o.disk values)
served_are values o w = w.served ∙ ap status_by (ap (work_verdict o.request o.disk) w.read ∙ verdict_kept o.request o.disk values)

-- what a word leaves
pub word_leaves : {X : Type 0} (f : Open → X) (o : Open) (value : ℕ) → ((r : List ℕ) → f (record o { read = r }) ≡ f o) → ((r : List ℕ) (t : List Task) (s : Status) → f (record o { read = r; tasks = t; served = s }) ≡ f o) → f (after_word o value) ≡ f o
word_leaves {X} f o value by_read by_work = by_tests (lacks_words o.request (length o.read)) (lacks_words o.request (length (o.read ++ value ∷ [])))
  where
    read : List ℕ
    read = o.read ++ value ∷ []

    by_tests : (a b : Bool) → f (if a then (if b then record o { read = o.read ++ value ∷ [] } else record o { read = o.read ++ value ∷ []; tasks = tasks_by o (o.read ++ value ∷ []); served = served_by o (o.read ++ value ∷ []) }) else o) ≡ f o
    by_tests false b = refl
    by_tests true true = by_read (o.read ++ value ∷ [])
    by_tests true false = by_work (o.read ++ value ∷ []) (tasks_by o (o.read ++ value ∷ [])) (served_by o (o.read ++ value ∷ []))

pub word_worked : (values : List ℕ) (o : Open) (value : ℕ) → IsWorked values o → IsWorked (values ++ value ∷ []) (after_word o value)
word_worked values o value w = by_lack (lacks_words o.request (length o.read)) refl
  where
    all : ℕ
    all = words_of o.request

    long : length o.read ≡ min (words_of o.request) (length values)
    long = ap length w.read ∙ length-take (words_of o.request) values

    more : length (values ++ value ∷ []) ≡ length values + 1
    more = length-append values (value ∷ [])

    known : lacks_words o.request (length o.read) ≡ true → o.read ++ value ∷ [] ≡ take (words_of o.request) (values ++ value ∷ [])
    known e =
        let lt : length o.read < words_of o.request = (let h = sym (lacks_is o.request (length o.read)) ∙ e in grind (arith, nat_tests)) in
        let short : length values ≤ words_of o.request = omega (arith, long) in
        let room : length (values ++ value ∷ []) ≤ words_of o.request = omega (arith, long, more) in
        ap (λ (xs : List ℕ). xs ++ value ∷ []) (w.read ∙ take_all (words_of o.request) values short)
        ∙ sym (take_all (words_of o.request) (values ++ value ∷ []) room)

    by_more : (b : Bool) → lacks_words o.request (length (o.read ++ value ∷ [])) ≡ b → lacks_words o.request (length o.read) ≡ true → IsWorked (values ++ value ∷ []) (with_words o (o.read ++ value ∷ []))
    by_more true m e = rw m (record {
      read = known e;
      tasks = w.tasks ∙ (tasks_lacking o.request o.disk o.persistent o.read e ∙ sym (tasks_lacking o.request o.disk o.persistent (o.read ++ value ∷ []) m));
      served = w.served ∙ ap status_by (verdict_lacking o.request o.disk o.read e ∙ sym (verdict_lacking o.request o.disk (o.read ++ value ∷ []) m));
    })
    by_more false m e = rw m (record { read = known e; tasks = refl; served = refl })

    by_lack : (b : Bool) → lacks_words o.request (length o.read) ≡ b → IsWorked (values ++ value ∷ []) (after_word o value)
    by_lack true e = rw e (by_more (lacks_words o.request (length (o.read ++ value ∷ []))) refl e)
    by_lack false e =
        let no : nat_lt (length o.read) (words_of o.request) ≡ false = sym (lacks_is o.request (length o.read)) ∙ e in
        let le : words_of o.request ≤ length o.read = grind (arith, nat_tests) in
        let short : words_of o.request ≤ length values = omega (arith, long) in
        rw e (record { read = w.read ∙ sym (take-append-le (words_of o.request) values (value ∷ []) short); tasks = w.tasks; served = w.served })
