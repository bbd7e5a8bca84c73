-- A job, where its entry was fetched; and one that begins.
use Rattle.std.proofs.Common.{◌≡◌, ℕ, zero, suc, ◌+◌, ◌-◌, ◌*◌, ◌%◌, ◌≤◌, ◌==◌, ◌||◌, not, Bool, true, false, if◌then◌else◌, List, [], ◌∷◌, ◌++◌, ◌<◌, length, take, refl, ap, sym, ◌∙◌, subst, arith}
use Rattle.std.specs.Prelude.{nat_le, nat_lt, ◌&&◌, Option, Some, None, is_none, unwrap_or}
use Rattle.std.specs.List.{AllByRecursion, list_any}
use Rattle.std.proofs.lemmas.Bool.Decides.{nat_tests}
use Rattle.std.proofs.lemmas.List.Sums.{sum_by-cons}
use Rattle.std.proofs.lemmas.List.Elements.{recursion_from_All}
use Rattle.blk_base.specs.Options.{Options}
use Rattle.blk_base.specs.declared.operation.Abi.{Abi}
use Rattle.blk_base.specs.declared.operation.Abi.TheVariants.{X64, X32}
use Rattle.ring_words.specs.Shape.{entry_words_of}
use Rattle.blk_base.specs.declared.operation.Status.{Status}
use Rattle.blk_base.specs.declared.operation.Status.TheVariants.{Okay, Error}
use Rattle.schedule_text.specs.declared.line.Line.{Line}
use Rattle.blk_layout.specs.declared.segment.Segment.{Segment}
use Rattle.blk_layout.specs.declared.request.RawRequest.{RawRequest}
use Rattle.blk_layout.specs.declared.request.RawRequest.TheVariants.{Direct, Discard, Indirect}
use Rattle.blk_layout.specs.Entry.{request_of}
use Rattle.segment_list.specs.declared.verdict.DiskInfo.{DiskInfo}
use Rattle.segment_list.specs.declared.verdict.Kind.{Kind}
use Rattle.segment_list.specs.declared.verdict.Kind.TheVariants as kind
use Rattle.segment_list.specs.declared.verdict.Plan.{Plan}
use Rattle.segment_list.specs.declared.verdict.Why.{Why}
use Rattle.segment_list.specs.declared.verdict.Why.TheVariants as why
use Rattle.segment_list.specs.declared.verdict.Verdict.{Verdict}
use Rattle.segment_list.specs.declared.verdict.Verdict.TheVariants as verdict
use Rattle.segment_list.specs.Segments.{IsSound, length_of, sectors_of}
use Rattle.segment_list.specs.Verdict.{first_of, planned, transfer_verdict, flush_verdict, verdict_of}
use Rattle.segment_list.proofs.Served.{IsTransfer, transfer_served}
use Rattle.report_rules.specs.declared.walk.Spot.{Spot}
use Rattle.report_rules.specs.declared.work.Task.{Task}
use Rattle.report_rules.specs.declared.work.Task.TheVariants as tasks
use Rattle.report_rules.specs.Work.{pages_of, planned_tasks, served_tasks, settled, work_verdict, indirect_tasks, work_tasks, status_by, response_to, work_response}
use Rattle.report_rules.specs.Job.{id_of}
use Rattle.report_rules.specs.Walk.{walk_of}
use Rattle.report_rules.specs.Reply.{end_of}
use Rattle.back_jobs.specs.declared.stage.JobStage.{JobStage}
use Rattle.back_jobs.specs.declared.stage.JobStage.TheVariants as stage
use Rattle.back_jobs.specs.Work.{Work, id_of as job_id, response_op, begun, served, moving, paging, ended, frameless}
use Rattle.blk_back.specs.View.{info_of as back_info}
use Rattle.ring_laws.proofs.JobLines.{is_of, read_by, read_aside, walk_aside, moves_aside, failed_skip}
use Rattle.report_rules.proofs.Copied.{no_segments}
use Rattle.ring_laws.proofs.Places.{tasks_of, Before, Alone, ending, IsAt}
use Rattle.ring_laws.proofs.Copies.{IsCopying}
use Rattle.ring_laws.proofs.EntryWords.{words_of_job}

-- what is to be done for a request: this work, with this status where it is done in full; and the id and the operation that the response names
pub record IsPlan (request : RawRequest) (info : DiskInfo) (work : List Task) (served : Status) (id op : ℕ) : Type 0 where
  pub names : (status : Status) → work_response request status ≡ response_to id op status
  pub tasks : (indirect : List ℕ) → work_tasks request info false indirect ≡ work
  pub verdict : (indirect : List ℕ) → status_by (work_verdict request info indirect) ≡ served

-- so it is by these words of its indirect pages
pub record IsDue (request : RawRequest) (info : DiskInfo) (words : List ℕ) (work : List Task) (served : Status) (id op : ℕ) : Type 0 where
  pub names : (status : Status) → work_response request status ≡ response_to id op status
  pub tasks : work_tasks request info false words ≡ work
  pub verdict : status_by (work_verdict request info words) ≡ served

-- and by whatever words are read later
pub record IsSettled (request : RawRequest) (info : DiskInfo) (words : List ℕ) (work : List Task) (served : Status) : Type 0 where
  pub tasks : (later : List ℕ) → work_tasks request info false (words ++ later) ≡ work
  pub verdict : (later : List ℕ) → status_by (work_verdict request info (words ++ later)) ≡ served

due_of : (request : RawRequest) (info : DiskInfo) (words : List ℕ) (work : List Task) (served : Status) (id op : ℕ) → IsPlan request info work served id op → IsDue request info words work served id op
due_of request info words work served id op p = record { names = p.names; tasks = p.tasks words; verdict = p.verdict words }

settled_of : (request : RawRequest) (info : DiskInfo) (words : List ℕ) (work : List Task) (served : Status) (id op : ℕ) → IsPlan request info work served id op → IsSettled request info words work served
settled_of request info words work served id op p = record { tasks = λ later. p.tasks (words ++ later); verdict = λ later. p.verdict (words ++ later) }

-- the job is in its work, it is done, or it copies the segments of its request
pub data HasCome (request : RawRequest) (info : DiskInfo) (served : Status) (work : List Task) (k : ℕ) (epoch : List Line) (s : JobStage) (t : Work) : Type 0 where
  serves : IsSettled request info (read_by k epoch) work served → served ≡ Okay → IsAt work k epoch s t → HasCome request info served work k epoch s t
  over : (status : Status) → s ≡ stage.Done status → ending work k epoch served ≡ Some status → HasCome request info served work k epoch s t
  reads : IsCopying request info k epoch s t → HasCome request info served work k epoch s t

-- the options of the machine, and the layout of the entries that it serves
pub record Terms : Type 0 where
  pub config : Options
  pub abi : Abi

-- the entry of a number, among these words
abbrev pub request_at : Abi → List ℕ → ℕ → RawRequest
request_at abi values k = request_of abi (words_of_job values (entry_words_of abi) k)

-- entries follow one upon another
pub entry_ends : (abi : Abi) (k : ℕ) → 1 ≤ k → (k - 1) * entry_words_of abi + entry_words_of abi ≡ entry_words_of abi * k
entry_ends X64 k first = omega arith
entry_ends X32 k first = omega arith

-- where no word was read none was
pub none_read : (abi : Abi) (k : ℕ) (values : List ℕ) → values ≡ [] → 1 ≤ k → entry_words_of abi * k ≤ length values → ⊥
none_read X64 k values none first read = let long : length values ≡ 0 = ap (λ (vs : List ℕ). length vs) none in omega arith
none_read X32 k values none first read = let long : length values ≡ 0 = ap (λ (vs : List ℕ). length vs) none in omega arith

pub entry_begins : (abi : Abi) (k : ℕ) → entry_words_of abi * (k - 1) ≡ (k - 1) * entry_words_of abi
entry_begins X64 k = omega arith
entry_begins X32 k = omega arith

pub record IsJobOf (terms : Terms) (values : List ℕ) (epoch : List Line) (t : Work) : Type 0 where
  pub work : List Task
  pub served : Status
  pub first : 1 ≤ t.number
  pub read : entry_words_of terms.abi * t.number ≤ length values
  pub id : id_of (request_at terms.abi values t.number) ≡ t.id
  pub plan : IsDue (request_at terms.abi values t.number) (back_info terms.config) (read_by t.number epoch) work served t.id t.op
  pub at : HasCome (request_at terms.abi values t.number) (back_info terms.config) served work t.number epoch t.stage t

same_id : (r : RawRequest) → id_of r ≡ job_id r
same_id (Direct op count device id sector segments) = refl
same_id other = refl

-- each segment has at most 8 sectors
few_sectors : (n : ℕ) (segments : List Segment) → AllByRecursion IsSound (take n segments) → sectors_of (take n segments) ≤ 8 * n
few_sectors zero segments sound = omega arith
few_sectors (suc n) [] sound = omega arith
few_sectors (suc n) (s ∷ segments) sound =
    let one = sum_by-cons length_of s (take n segments) in
    let rest = few_sectors n segments sound.1 in
    let here : IsSound s = sound.0 in
    let nonempty = here.nonempty in
    let inside = here.inside in
    omega arith

-- before its first move
begins : (k : ℕ) (epoch : List Line) (segments : List Segment) (disk : ℕ) (writes : Bool) → list_any (is_of k) epoch ≡ false → AllByRecursion IsSound segments → sectors_of segments ≤ 7680 → Before (tasks_of writes disk segments) k epoch segments disk 0 writes
begins k epoch segments disk writes none sound few = record {
  done = [];
  tail = refl;
  came = walk_aside (tasks_of writes disk segments) k [] epoch none;
  sound = sound;
  few = omega arith;
  counted = moves_aside k [] epoch none;
  whole = failed_skip k epoch none;
}

pub record IsFresh (abi : Abi) (k : ℕ) (request : RawRequest) (values : List ℕ) (epoch : List Line) : Type 0 where
  pub first : 1 ≤ k
  pub read : entry_words_of abi * k ≤ length values
  pub is : request ≡ request_at abi values k
  pub none : list_any (is_of k) epoch ≡ false

abbrev IsRefused : Verdict → Type 0
IsRefused (verdict.Serve plan) = ⊥
IsRefused v = Unit {0}

-- nothing is done for a request that isn't served
refused_tasks : (v : Verdict) (segments : List Segment) → IsRefused v → served_tasks false v segments ≡ []
refused_tasks (verdict.Serve plan) segments refused = absurd refused
refused_tasks other segments refused = refl

refused_pages : (v : Verdict) (count : ℕ) (pages indirect : List ℕ) (info : DiskInfo) → IsRefused v → indirect_tasks false v count pages indirect info ≡ []
refused_pages (verdict.Serve plan) count pages indirect info refused = absurd refused
refused_pages other count pages indirect info refused = refl

settled_as : (v : Verdict) (count : ℕ) (indirect : List ℕ) (info : DiskInfo) → IsRefused v → settled v count indirect info ≡ v
settled_as (verdict.Serve plan) count indirect info refused = absurd refused
settled_as other count indirect info refused = refl

refused_plan : (request : RawRequest) (info : DiskInfo) (v : Verdict) → IsRefused v → verdict_of request info ≡ v → IsPlan request info [] (status_by v) (job_id request) (response_op request)
refused_plan (Direct op count device id sector segments) info v refused e = record {
  names = λ status. refl;
  tasks = λ indirect. ap (λ (w : Verdict). served_tasks false w (take count segments)) e ∙ refused_tasks v (take count segments) refused;
  verdict = λ indirect. ap status_by e;
}
refused_plan (Discard flag device id sector count) info v refused e = record {
  names = λ status. refl;
  tasks = λ indirect. ap (λ (w : Verdict). served_tasks false w []) e ∙ refused_tasks v [] refused;
  verdict = λ indirect. ap status_by e;
}
refused_plan (Indirect op count device id sector pages) info v refused e = record {
  names = λ status. refl;
  tasks = λ indirect. ap (λ (w : Verdict). indirect_tasks false w count pages indirect info) e ∙ refused_pages v count pages indirect info refused;
  verdict = λ indirect. ap (λ (w : Verdict). status_by (settled w count indirect info)) e ∙ ap status_by (settled_as v count indirect info refused);
}

-- where there is no work, it ends as it begins
nothing_done : (k : ℕ) (epoch : List Line) (served : Status) → list_any (is_of k) epoch ≡ false → ending [] k epoch served ≡ Some served
nothing_done k epoch served none =
    ap (λ (failed : Bool). end_of failed 0 served (walk_of false [] k epoch)) (failed_skip k epoch none)
    ∙ ap (λ (s : Option Spot). end_of false 0 served s) (walk_aside [] k [] epoch none)

idle : (terms : Terms) (k size : ℕ) (request : RawRequest) (values : List ℕ) (epoch : List Line) (v : Verdict) → IsFresh terms.abi k request values epoch → IsRefused v → verdict_of request (back_info terms.config) ≡ v → IsJobOf terms values epoch (ended k request size (stage.Done (status_by v)))
idle terms k size request values epoch v fresh refused e = record {
  work = [];
  served = status_by v;
  first = fresh.first;
  read = fresh.read;
  id = ap id_of (sym fresh.is) ∙ same_id request;
  plan = due_of (request_at terms.abi values k) (back_info terms.config) (read_by k epoch) [] (status_by v) (job_id request) (response_op request) (subst (λ (r : RawRequest). IsPlan r (back_info terms.config) [] (status_by v) (job_id request) (response_op request)) fresh.is (refused_plan request (back_info terms.config) v refused e));
  at = over (status_by v) refl (nothing_done k epoch (status_by v) fresh.none);
}

-- a read, a write or a barrier: the verdict is that of a transfer of its kind, and the work that of its segments
moves : (kind : Kind) (writes : Bool) (terms : Terms) (k size op count device id sector : ℕ) (segments : List Segment) (values : List ℕ) (epoch : List Line) (plan : Plan) → IsFresh terms.abi k (Direct op count device id sector segments) values epoch
    → ((info : DiskInfo) → verdict_of (Direct op count device id sector segments) info ≡ transfer_verdict kind count sector segments info) → planned_tasks false (planned kind sector count) kind (take count segments) ≡ tasks_of writes sector (take count segments)
    → verdict_of (Direct op count device id sector segments) (back_info terms.config) ≡ verdict.Serve plan → IsJobOf terms values epoch (moving k (Direct op count device id sector segments) size writes sector (take count segments))
moves kind writes terms k size op count device id sector segments values epoch plan fresh judged work e =
    let info : DiskInfo = back_info terms.config in
    let t : IsTransfer kind count sector segments info plan = transfer_served kind count sector segments info plan (sym (judged info) ∙ e) in
    let sound = recursion_from_All IsSound (take count segments) t.on_disk.sound in
    let few = few_sectors count segments sound in
    let small = t.few in
    let all : IsPlan (request_at terms.abi values k) info (tasks_of writes sector (take count segments)) Okay id op = record {
      names = λ status. ap (λ (r : RawRequest). work_response r status) (sym fresh.is);
      tasks = λ indirect. ap (λ (r : RawRequest). work_tasks r info false indirect) (sym fresh.is) ∙ (ap (λ (v : Verdict). served_tasks false v (take count segments)) e ∙ (ap (λ (p : Plan). planned_tasks false p p.kind (take count segments)) t.plan_is ∙ work));
      verdict = λ indirect. ap (λ (r : RawRequest). status_by (work_verdict r info indirect)) (sym fresh.is) ∙ ap status_by e;
    } in
    record {
      work = tasks_of writes sector (take count segments);
      served = Okay;
      first = fresh.first;
      read = fresh.read;
      id = ap id_of (sym fresh.is);
      plan = due_of (request_at terms.abi values k) info (read_by k epoch) (tasks_of writes sector (take count segments)) Okay id op all;
      at = serves (settled_of (request_at terms.abi values k) info (read_by k epoch) (tasks_of writes sector (take count segments)) Okay id op all) refl (begins k epoch (take count segments) sector writes fresh.none sound (omega arith), refl);
    }

-- where no test before it applies, a request is served as it was planned
served_plan : (tests : List (Bool × Verdict)) (p plan : Plan) → AllByRecursion (λ (test : Bool × Verdict). IsRefused test.1) tests → first_of tests p ≡ verdict.Serve plan → plan ≡ p
served_plan [] p plan all h = cc
served_plan (test ∷ tests) p plan all h = by_test test.0 test.1 all.0 (served_plan tests p plan all.1) h
  where
    by_test : (b : Bool) (v : Verdict) → IsRefused v → (first_of tests p ≡ verdict.Serve plan → plan ≡ p) → (if b then v else first_of tests p) ≡ verdict.Serve plan → plan ≡ p
    by_test true (verdict.Serve q) refused rest h = absurd refused
    by_test true (verdict.Error w) refused rest h = absurd (cc)
    by_test true verdict.Unsupported refused rest h = absurd (cc)
    by_test false v refused rest h = rest h

-- a flush and a discard: one call of the disk
flush_plan : (count device id sector : ℕ) (segments : List Segment) (info : DiskInfo) (plan : Plan) → verdict_of (Direct 3 count device id sector segments) info ≡ verdict.Serve plan → IsPlan (Direct 3 count device id sector segments) info (tasks.Flush ∷ []) Okay id 3
flush_plan count device id sector segments info plan e =
    let tests : List (Bool × Verdict) = (not info.flush, verdict.Unsupported) ∷ (not (count == 0), verdict.Error why.Count) ∷ [] in
    let plan_is = served_plan tests (planned kind.Flush sector count) plan (tt, (tt, tt)) e in
    record {
      names = λ status. refl;
      tasks = λ indirect. ap (λ (v : Verdict). served_tasks false v (take count segments)) e ∙ ap (λ (p : Plan). planned_tasks false p p.kind (take count segments)) plan_is;
      verdict = λ indirect. ap status_by e;
    }

trim_plan : (flag device id sector count : ℕ) (info : DiskInfo) (plan : Plan) → verdict_of (Discard flag device id sector count) info ≡ verdict.Serve plan → IsPlan (Discard flag device id sector count) info (tasks.Trim sector count ∷ []) Okay id 5
trim_plan flag device id sector count info plan e =
    let tests : List (Bool × Verdict) = (not info.discard || (flag % 2 == 1), verdict.Unsupported) ∷ (count == 0, verdict.Error why.Count) ∷ (nat_lt info.sectors (sector + count), verdict.Error why.Range) ∷ [] in
    let plan_is = served_plan tests (planned kind.Discard sector count) plan (tt, (tt, (tt, tt))) e in
    record {
      names = λ status. refl;
      tasks = λ indirect. ap (λ (v : Verdict). served_tasks false v []) e ∙ ap (λ (p : Plan). planned_tasks false p p.kind []) plan_is;
      verdict = λ indirect. ap status_by e;
    }

alone : (k : ℕ) (epoch : List Line) (task : Task) → list_any (is_of k) epoch ≡ false → Alone (task ∷ []) k epoch task 0
alone k epoch task none = record { is = refl; came = walk_aside (task ∷ []) k [] epoch none; once = refl; counted = moves_aside k [] epoch none; whole = failed_skip k epoch none }

calls : (terms : Terms) (k size sector : ℕ) (request : RawRequest) (values : List ℕ) (epoch : List Line) (task : Task) (s : JobStage) → IsFresh terms.abi k request values epoch → IsPlan request (back_info terms.config) (task ∷ []) Okay (job_id request) (response_op request)
    → IsAt (task ∷ []) k epoch s (frameless k request size sector s) → IsJobOf terms values epoch (frameless k request size sector s)
calls terms k size sector request values epoch task s fresh plan at =
    let all : IsPlan (request_at terms.abi values k) (back_info terms.config) (task ∷ []) Okay (job_id request) (response_op request) = subst (λ (r : RawRequest). IsPlan r (back_info terms.config) (task ∷ []) Okay (job_id request) (response_op request)) fresh.is plan in
    record {
      work = task ∷ [];
      served = Okay;
      first = fresh.first;
      read = fresh.read;
      id = ap id_of (sym fresh.is) ∙ same_id request;
      plan = due_of (request_at terms.abi values k) (back_info terms.config) (read_by k epoch) (task ∷ []) Okay (job_id request) (response_op request) all;
      at = serves (settled_of (request_at terms.abi values k) (back_info terms.config) (read_by k epoch) (task ∷ []) Okay (job_id request) (response_op request) all) refl at;
    }

flushes : (terms : Terms) (k size count device id sector : ℕ) (segments : List Segment) (values : List ℕ) (epoch : List Line) (plan : Plan) → IsFresh terms.abi k (Direct 3 count device id sector segments) values epoch → verdict_of (Direct 3 count device id sector segments) (back_info terms.config) ≡ verdict.Serve plan
    → IsJobOf terms values epoch (frameless k (Direct 3 count device id sector segments) size sector stage.Flush)
flushes terms k size count device id sector segments values epoch plan fresh e =
    calls terms k size sector (Direct 3 count device id sector segments) values epoch tasks.Flush stage.Flush fresh (flush_plan count device id sector segments (back_info terms.config) plan e) (alone k epoch tasks.Flush fresh.none)

trims : (terms : Terms) (k size flag device id sector count : ℕ) (values : List ℕ) (epoch : List Line) (plan : Plan) → IsFresh terms.abi k (Discard flag device id sector count) values epoch → verdict_of (Discard flag device id sector count) (back_info terms.config) ≡ verdict.Serve plan
    → IsJobOf terms values epoch (frameless k (Discard flag device id sector count) size sector (stage.Trim count))
trims terms k size flag device id sector count values epoch plan fresh e =
    calls terms k size sector (Discard flag device id sector count) values epoch (tasks.Trim sector count) (stage.Trim count) fresh (trim_plan flag device id sector count (back_info terms.config) plan e) (alone k epoch (tasks.Trim sector count) fresh.none)

-- an indirect request, of no more segments than the job has room for: its pages are read first
pub record HasRoom (terms : Terms) (size : ℕ) : Type 0 where
  pub few : let c : Options = terms.config in c.indirect ≤ 960
  pub size_is : let i : DiskInfo = back_info terms.config in size ≡ i.sectors

past : (b : Bool) (v next : Verdict) (plan : Plan) → IsRefused v → (if b then v else next) ≡ verdict.Serve plan → (b ≡ false) × (next ≡ verdict.Serve plan)
past true (verdict.Serve p) next plan refused e = absurd refused
past true (verdict.Error w) next plan refused e = absurd (cc)
past true verdict.Unsupported next plan refused e = absurd (cc)
past false v next plan refused e = (refl, e)

abbrev kind_by : (read write : Bool) → Option Kind
kind_by read write = if read then Some kind.IndirectRead else (if write then Some kind.IndirectWrite else None)

indirect_tasks_of : (read write : Bool) (count sector : ℕ) (segments : List Segment) → is_none (kind_by read write) ≡ false
    → (let k : Kind = unwrap_or (kind_by read write) kind.IndirectRead in planned_tasks false (planned k sector count) k segments) ≡ tasks_of (not read) sector segments
indirect_tasks_of true write count sector segments some = refl
indirect_tasks_of false true count sector segments some = refl
indirect_tasks_of false false count sector segments some = absurd (cc)

indirect : (terms : Terms) (k size op count device id sector : ℕ) (pages : List ℕ) (values : List ℕ) (epoch : List Line) (plan : Plan) → HasRoom terms size → IsFresh terms.abi k (Indirect op count device id sector pages) values epoch
    → verdict_of (Indirect op count device id sector pages) (back_info terms.config) ≡ verdict.Serve plan → IsJobOf terms values epoch (served k (Indirect op count device id sector pages) size)
indirect terms k size op count device id sector pages values epoch plan room fresh e = by_room (nat_le count 960) refl
  where
    info : DiskInfo
    info = back_info terms.config

    config : Options
    config = terms.config

    request : RawRequest
    request = Indirect op count device id sector pages

    tests : List (Bool × Verdict)
    tests =
        (info.max_indirect == 0, verdict.Unsupported) ∷ (is_none (kind_by (op == 0) (op == 1)), verdict.Error why.Op) ∷ ((op == 1) && info.read_only, verdict.Error why.ReadOnly)
        ∷ ((count == 0) || nat_lt info.max_indirect count, verdict.Error why.Count) ∷ []

    kind_is : Kind
    kind_is = unwrap_or (kind_by (op == 0) (op == 1)) kind.IndirectRead

    plan_is : plan ≡ planned kind_is sector count
    plan_is = served_plan tests (planned kind_is sector count) plan (tt, (tt, (tt, (tt, tt)))) e

    passes : (is_none (kind_by (op == 0) (op == 1)) ≡ false) × (((count == 0) || nat_lt info.max_indirect count) ≡ false)
    passes =
        let first = past (info.max_indirect == 0) verdict.Unsupported _ plan tt e in
        let second = past (is_none (kind_by (op == 0) (op == 1))) (verdict.Error why.Op) _ plan tt first.1 in
        let third = past ((op == 1) && info.read_only) (verdict.Error why.ReadOnly) _ plan tt second.1 in
        let fourth = past ((count == 0) || nat_lt info.max_indirect count) (verdict.Error why.Count) _ plan tt third.1 in
        (second.0, fourth.0)

    counted : (n most : ℕ) → ((n == 0) || nat_lt most n) ≡ false → (0 < n) × (n ≤ most)
    counted n most h = (grind (arith, nat_tests), grind (arith, nat_tests))

    few : (0 < count) × (count ≤ config.indirect)
    few = counted count config.indirect passes.1

    job : Work
    job = paging k request size (not (op == 0)) sector count pages

    copying : IsCopying request info k epoch stage.MapPage job
    copying = record {
      pages = pages;
      page = 0;
      copies = record {
        is = record {
          op = op;
          device = device;
          id = id;
          request_is = refl;
          plan = plan;
          served = e;
          sector = ap (λ (p : Plan). p.sector) plan_is;
          work = λ segments. ap (λ (p : Plan). planned_tasks false p p.kind segments) plan_is ∙ indirect_tasks_of (op == 0) (op == 1) count sector segments passes.0;
          size = room.size_is;
          moved = refl;
          few = let most = few.1 in let room_few = room.few in omega arith;
        };
        words = [];
        read = read_aside k [] epoch fresh.none;
        long = refl;
        copied = sym (no_segments [] 0);
        left = refl;
        came = walk_aside (pages_of count pages) k [] epoch fresh.none;
        counted = moves_aside k [] epoch fresh.none;
        whole = failed_skip k epoch fresh.none;
      };
      at = omega arith;
      more = few.0;
    }

    by_room : (b : Bool) → nat_le count 960 ≡ b → IsJobOf terms values epoch (if b then paging k request size (not (op == 0)) sector count pages else ended k request size (stage.Done Error))
    by_room false h = absurd (too_many count config.indirect few.1 room.few h)
      where
        too_many : (n most : ℕ) → n ≤ most → most ≤ 960 → nat_le n 960 ≡ false → ⊥
        too_many n most le room_few t = grind (arith, nat_tests)
    by_room true h = record {
      work = work_tasks (request_at terms.abi values k) info false (read_by k epoch);
      served = status_by (work_verdict (request_at terms.abi values k) info (read_by k epoch));
      first = fresh.first;
      read = fresh.read;
      id = ap id_of (sym fresh.is);
      plan = record { names = λ status. ap (λ (r : RawRequest). work_response r status) (sym fresh.is); tasks = refl; verdict = refl };
      at = reads (subst (λ (r : RawRequest). IsCopying r info k epoch stage.MapPage job) fresh.is copying);
    }

no_other : (terms : Terms) (op count device id sector : ℕ) (segments : List Segment) (plan : Plan) → nat_le op 2 ≡ false → (op == 3) ≡ false → verdict_of (Direct op count device id sector segments) (back_info terms.config) ≡ verdict.Serve plan → ⊥
no_other terms op count device id sector segments plan high other e = by_tests (op == 0) (op == 1) (op == 2) (op == 3) (grind (arith, nat_tests)) (grind (arith, nat_tests)) (grind (arith, nat_tests)) other e
  where
    by_tests : (a b c d : Bool) → a ≡ false → b ≡ false → c ≡ false → d ≡ false
        → (if a then transfer_verdict kind.Read count sector segments (back_info terms.config)
        else (if b then transfer_verdict kind.Write count sector segments (back_info terms.config)
        else (if c then transfer_verdict kind.Barrier count sector segments (back_info terms.config)
        else (if d then flush_verdict count sector (back_info terms.config)
        else verdict.Error why.Op)))) ≡ verdict.Serve plan → ⊥
    by_tests true b c d p q r s h = absurd (cc)
    by_tests false true c d p q r s h = absurd (cc)
    by_tests false false true d p q r s h = absurd (cc)
    by_tests false false false true p q r s h = absurd (cc)
    by_tests false false false false p q r s h = no_error h
      where
        no_error : {w : Why} → verdict.Error w ≡ verdict.Serve plan → ⊥
        no_error f = cc

direct : (terms : Terms) (k op size count device id sector : ℕ) (segments : List Segment) (values : List ℕ) (epoch : List Line) (plan : Plan) (few flush : Bool) → nat_le op 2 ≡ few → (op == 3) ≡ flush → IsFresh terms.abi k (Direct op count device id sector segments) values epoch → verdict_of (Direct op count device id sector segments) (back_info terms.config) ≡ verdict.Serve plan
    → IsJobOf terms values epoch (if few then moving k (Direct op count device id sector segments) size (not (op == 0)) sector (take count segments)
    else (if flush then frameless k (Direct op count device id sector segments) size sector stage.Flush else ended k (Direct op count device id sector segments) size (stage.Done Error)))
direct terms k op size count device id sector segments values epoch plan true flush few three fresh e = by_op op few fresh e
  where
    by_op : (n : ℕ) → nat_le n 2 ≡ true → IsFresh terms.abi k (Direct n count device id sector segments) values epoch → verdict_of (Direct n count device id sector segments) (back_info terms.config) ≡ verdict.Serve plan
        → IsJobOf terms values epoch (moving k (Direct n count device id sector segments) size (not (n == 0)) sector (take count segments))
    by_op zero few fresh e = moves kind.Read false terms k size 0 count device id sector segments values epoch plan fresh (λ info. refl) refl e
    by_op (suc zero) few fresh e = moves kind.Write true terms k size 1 count device id sector segments values epoch plan fresh (λ info. refl) refl e
    by_op (suc (suc zero)) few fresh e = moves kind.Barrier true terms k size 2 count device id sector segments values epoch plan fresh (λ info. refl) refl e
    by_op (suc (suc (suc n))) few fresh e = absurd (too_many n few)
      where
        too_many : (m : ℕ) → nat_le (suc (suc (suc m))) 2 ≡ true → ⊥
        too_many m h = grind (arith, nat_tests)
direct terms k op size count device id sector segments values epoch plan false true few three fresh e =
    let is : 3 ≡ op = grind (arith, nat_tests) in
    subst (λ (n : ℕ). IsFresh terms.abi k (Direct n count device id sector segments) values epoch → verdict_of (Direct n count device id sector segments) (back_info terms.config) ≡ verdict.Serve plan → IsJobOf terms values epoch (frameless k (Direct n count device id sector segments) size sector stage.Flush)) is
    (flushes terms k size count device id sector segments values epoch plan) fresh e
direct terms k op size count device id sector segments values epoch plan false false few three fresh e = absurd (no_other terms op count device id sector segments plan few three e)

served_job : (terms : Terms) (k size : ℕ) (request : RawRequest) (values : List ℕ) (epoch : List Line) (plan : Plan) → HasRoom terms size → IsFresh terms.abi k request values epoch → verdict_of request (back_info terms.config) ≡ verdict.Serve plan → IsJobOf terms values epoch (served k request size)
served_job terms k size (Direct op count device id sector segments) values epoch plan room fresh e = direct terms k op size count device id sector segments values epoch plan (nat_le op 2) (op == 3) refl refl fresh e
served_job terms k size (Discard flag device id sector count) values epoch plan room fresh e = trims terms k size flag device id sector count values epoch plan fresh e
served_job terms k size (Indirect op count device id sector pages) values epoch plan room fresh e = indirect terms k size op count device id sector pages values epoch plan room fresh e

pub begun_job : (terms : Terms) (k size : ℕ) (request : RawRequest) (values : List ℕ) (epoch : List Line) (v : Verdict) → HasRoom terms size → IsFresh terms.abi k request values epoch → verdict_of request (back_info terms.config) ≡ v → IsJobOf terms values epoch (begun k request size v)
begun_job terms k size request values epoch (verdict.Serve plan) room fresh e = served_job terms k size request values epoch plan room fresh e
begun_job terms k size request values epoch (verdict.Error why) room fresh e = idle terms k size request values epoch (verdict.Error why) fresh tt e
begun_job terms k size request values epoch verdict.Unsupported room fresh e = idle terms k size request values epoch verdict.Unsupported fresh tt e
