-- The jobs keep their numbers, and each is passed once in a round.
use Rattle.std.proofs.Common.{◌≡◌, ℕ, ◌+◌, ◌<◌, ◌≤◌, Bool, true, false, if◌then◌else◌, cond, List, [], ◌∷◌, ◌++◌, length, refl, sym, ap, ◌∙◌, arith}
use Rattle.std.specs.Prelude.{Option, Some, None, is_some, find, nat_lt, ◌==◌, drop}
use Rattle.std.specs.List.{sum_by}
use Rattle.std.specs.Option.{option_map}
use Rattle.std.proofs.lemmas.Bool.Decides.{nat_tests}
use Rattle.std.proofs.lemmas.Option.{none-some, same_Some}
use Rattle.std.proofs.lemmas.List.Sums.{sum_by-cons, sum_by-append, sum_by-le-sum_by, count_by-le-length}
use Rattle.blk_base.specs.declared.parts.Mapping.{Mapping}
use Rattle.blk_base.specs.declared.operation.Status.TheVariants.{Error}
use Rattle.blk_base.specs.declared.ask.BackAnswer.{BackAnswer}
use Rattle.blk_base.specs.declared.ask.BackAnswer.TheVariants as answer
use Rattle.blk_layout.specs.declared.segment.Segment.{Segment}
use Rattle.back_jobs.specs.declared.stage.JobStage.{JobStage}
use Rattle.back_jobs.specs.declared.stage.JobStage.TheVariants as job_stage
use Rattle.back_jobs.specs.Work as task
use Rattle.back_jobs.specs.Work.{Work}
use Rattle.back_jobs.specs.Jobs.{place_of, work_at, work_of, told_at, next_after}
use Rattle.back_jobs.proofs.Hands.{place_among}
use Rattle.blk_back.specs.View.{View}
use Rattle.blk_back.specs.Step.{job_step, next_job_of}
use Rattle.blk_back.proofs.Hands.{next_job_above}
use Rattle.hypervisor.specs.Act.{BackAct}
use Rattle.split_model.specs.World.{World}
use Rattle.split_model.specs.Happening.{job_after}
use Rattle.split_model.specs.Safe.{above}

-- a job keeps its number, whatever it is told
either_number : (b : Bool) (x y : Work) (n : ℕ) → x.number ≡ n → y.number ≡ n → (if b then x else y).number ≡ n
either_number true x y n p q = p
either_number false x y n p q = q

next_sector_number : (t : Work) (m : Mapping) → (task.next_sector t m).number ≡ t.number
next_sector_number t m = either_number (t.within == task.last_of t.rest) (record t { stage = job_stage.Unmap m }) (record t { within = t.within + 1; stage = task.sector_stage t.writes m }) t.number refl refl

segment_number : (t : Work) (rest : List Segment) → (task.next_segment t rest).number ≡ t.number
segment_number t [] = refl
segment_number t (s ∷ rest) = refl

judged_number : (t : Work) → (task.judged t).number ≡ t.number
judged_number t = either_number (task.passes t) (record t { within = task.first_of t.rest; stage = job_stage.Map }) (record t { stage = job_stage.Done Error }) t.number refl refl

page_number : (t : Work) → (task.page_done t).number ≡ t.number
page_number t = either_number (length t.rest == t.named) (task.judged t) (record t { pages = drop 1 t.pages; stage = job_stage.MapPage }) t.number (judged_number t) refl

number_at : (s : JobStage) (t : Work) (a : BackAnswer) → (task.step_at s t a).number ≡ t.number
number_at job_stage.MapPage t (answer.MapRefused status) = refl
number_at (job_stage.PageReference m) t (answer.Word word) = refl
number_at (job_stage.PageSectors m gref) t (answer.Word word) = refl
number_at (job_stage.UnmapPage m) t answer.Done = page_number t
number_at job_stage.Map t (answer.MapRefused status) = refl
number_at (job_stage.ReadWord m k) t (answer.Word word) = refl
number_at (job_stage.DiskWrite m) t answer.Done = next_sector_number (task.counted t) m
number_at (job_stage.DiskRead m) t answer.DiskFailed = refl
number_at (job_stage.WriteWord m k) t answer.Done = either_number (k == 127) (task.next_sector t m) (record t { stage = job_stage.WriteWord m (k + 1) }) t.number (next_sector_number t m) refl
number_at (job_stage.Unmap m) t answer.Done = segment_number t (task.rest_of t.rest)
number_at (job_stage.Abort m) t answer.Done = refl
number_at job_stage.Flush t answer.DiskFailed = refl
number_at (job_stage.Trim count) t answer.DiskFailed = refl
number_at s t a = refl

-- a job that is counted above a number
abbrev is_above : ℕ → Work → ℕ
is_above number t = cond (nat_lt number t.number) 1 0

count_between : (number : ℕ) (front rest : List Work) (t u : Work) → u.number ≡ t.number → sum_by (is_above number) (front ++ u ∷ rest) ≡ sum_by (is_above number) (front ++ t ∷ rest)
count_between number front rest t u same =
    let with_u = sum_by-append (is_above number) front (u ∷ rest) in
    let with_t = sum_by-append (is_above number) front (t ∷ rest) in
    let one = sum_by-cons (is_above number) u rest in
    let other = sum_by-cons (is_above number) t rest in
    let equal : is_above number u ≡ is_above number t = ap (λ n. cond (nat_lt number n) 1 0) same in
    omega arith

told_above : (number : ℕ) (works : List Work) (place : Option ℕ) (found : Option Work) (a : BackAnswer) → work_at works place ≡ found → sum_by (is_above number) (told_at works place found a) ≡ sum_by (is_above number) works
told_above number works None found a h = refl
told_above number works (Some place) None a h = refl
told_above number works (Some place) (Some t) a h =
    let r = place_among works place t h in
    ap (λ (l : List Work). sum_by (is_above number) l) (r.set (task.step_of t a))
    ∙ (count_between number r.front r.rest t (task.step_of t a) (number_at t.stage t a)
    ∙ sym (ap (λ (l : List Work). sum_by (is_above number) l) r.is))

-- no more jobs are above a greater number
above_le : (low high : ℕ) (works : List Work) → low ≤ high → sum_by (is_above high) works ≤ sum_by (is_above low) works
above_le low high works le = sum_by-le-sum_by (is_above high) (is_above low) works (λ t. grind (arith, nat_tests))

-- of the jobs above a number, the lowest isn't above its own
above_less : (works : List Work) (last k : ℕ) → last < k → option_map (λ (t : Work). t.number) (find (λ (t : Work). nat_lt last t.number) works) ≡ Some k → sum_by (is_above k) works < sum_by (is_above last) works
above_less [] last k before found = absurd (none-some k found)
above_less (t ∷ works) last k before found = by_test (nat_lt last t.number) refl (above_less works last k before) found
  where
    by_test : (b : Bool) → nat_lt last t.number ≡ b → (option_map (λ (u : Work). u.number) (find (λ (u : Work). nat_lt last u.number) works) ≡ Some k → sum_by (is_above k) works < sum_by (is_above last) works) → option_map (λ (u : Work). u.number) (cond (nat_lt last t.number) (Some t) (find (λ (u : Work). nat_lt last u.number) works)) ≡ Some k → sum_by (is_above k) (t ∷ works) < sum_by (is_above last) (t ∷ works)
    by_test true e later here =
        let same : t.number ≡ k = same_Some t.number k (rw e at here) in
        let one = sum_by-cons (is_above k) t works in
        let other = sum_by-cons (is_above last) t works in
        let fewer = above_le last k works (omega arith) in
        let counted : is_above last t ≡ 1 = rw e refl in
        let uncounted : is_above k t ≡ 0 = grind (arith, nat_tests) in
        omega arith
    by_test false e later here =
        let rest = later (rw e at here) in
        let one = sum_by-cons (is_above k) t works in
        let other = sum_by-cons (is_above last) t works in
        let counted : is_above last t ≡ 0 = rw e refl in
        let uncounted : is_above k t ≡ 0 = grind (arith, nat_tests) in
        omega arith

-- a move of a job leaves as many jobs above each number
pub above_kept : (number : ℕ) (v : View) (k : ℕ) (a : BackAnswer) → above number (job_step v k a) ≡ above number v
above_kept number v k a = told_above number v.jobs.works (place_of v.jobs.works k) (work_of v.jobs.works k) a refl

next_less_at : (halted : Bool) (v : View) (last k : ℕ) → last < k → (if halted then None else next_after v.jobs last) ≡ Some k → above k v < above last v
next_less_at true v last k before h = absurd (none-some k h)
next_less_at false v last k before h = above_less v.jobs.works last k before h

-- once the next job moved, fewer jobs are above it than were above the one before it
pub jobs_kept : (v : View) (last k : ℕ) (a : BackAnswer) → next_job_of v last ≡ Some k → above k (job_step v k a) < above last v
jobs_kept v last k a h =
    let kept = above_kept k v k a in
    let less = next_less_at (is_some v.halted) v last k (next_job_above v last k h) h in
    omega arith

pub above_few : (last : ℕ) (v : View) → above last v ≤ length v.jobs.works
above_few last v = count_by-le-length (λ (t : Work). nat_lt last t.number) v.jobs.works

-- so it does in the machine
pub job_above : (last number : ℕ) (w : World) (act : Option BackAct) → above last (let v : World = job_after w number act in v.back) ≡ above last w.back
job_above last number w None = refl
job_above last number w (Some a) = above_kept last w.back number a.answer

-- above the next job there are fewer
pub next_above : (v : View) (last next : ℕ) → next_job_of v last ≡ Some next → above next v < above last v
next_above v last next n =
    let less = jobs_kept v last next answer.Done n in
    let same = above_kept next v next answer.Done in
    omega arith

-- a job that is next is one of at most 512, each of which made a map at most
pub job_left : (v : View) (last next made made_first above_first : ℕ) → next_job_of v last ≡ Some next → length v.jobs.works ≤ 512 → above 0 v ≡ above_first → made + above last v ≤ made_first + above_first → made + 1 ≤ made_first + 512
job_left v last next made made_first above_first n few same le =
    let less = next_above v last next n in
    let within = above_few 0 v in
    omega arith

-- and so is what it made, and those that are left
pub job_made : (now later : View) (last next made made_then made_first above_first : ℕ) → above next later < above last now → made + above last now ≤ made_first + above_first → made_then ≤ made + 1 → made_then + above next later ≤ made_first + above_first
job_made now later last next made made_then made_first above_first less le one = omega arith
