-- A job whose work is over: what others' lines leave of it, and the response that it is due.
use Rattle.std.proofs.Common.{◌≡◌, ℕ, ◌%◌, ◌/◌, ◌^◌, ◌<◌, ◌==◌, ◌||◌, Bool, true, false, if◌then◌else◌, List, [], ◌∷◌, ◌++◌, length, refl, ap, sym, ◌∙◌, subst, length-append, arith}
use Rattle.std.specs.Prelude.{Option, Some, None, slice_index}
use Rattle.std.specs.List.{list_any, cons_option}
use Rattle.std.proofs.lemmas.List.Folds.{list_any-append}
use Rattle.blk_base.specs.declared.operation.Abi.{Abi}
use Rattle.ring_words.specs.Shape.{entry_words_of}
use Rattle.blk_base.specs.declared.operation.Status.{Status}
use Rattle.blk_base.specs.declared.moves.Move.TheVariants as moves
use Rattle.blk_layout.specs.declared.segment.Segment.{Segment}
use Rattle.blk_layout.specs.declared.request.RawRequest.{RawRequest}
use Rattle.blk_layout.specs.declared.request.RawRequest.TheVariants.{Direct, Discard, Indirect}
use Rattle.segment_list.specs.declared.verdict.DiskInfo.{DiskInfo}
use Rattle.blk_layout.specs.declared.response.Response.{Response}
use Rattle.blk_layout.specs.Entry.{request_of}
use Rattle.blk_layout.specs.Response.{response_words_of}
use Rattle.schedule_text.specs.declared.line.Line.{Line}
use Rattle.schedule_text.specs.declared.line.Line.TheVariants as lines
use Rattle.report_rules.specs.declared.standing.Standing.{Standing}
use Rattle.report_rules.specs.declared.work.Task.{Task}
use Rattle.report_rules.specs.Standing.{this_epoch, is_unmap_of, unless_unmapped}
use Rattle.report_rules.specs.Work.{work_tasks, work_verdict, status_by, work_response}
use Rattle.report_rules.specs.declared.job.Fetched.{Fetched}
use Rattle.report_rules.specs.Job.{is_job, back_mover_job}
use Rattle.report_rules.specs.Step.{values_read}
use Rattle.report_rules.specs.Walk.{walk_of}
use Rattle.report_rules.specs.Steps.{failed_in}
use Rattle.report_rules.specs.Made.{made_by, left_to}
use Rattle.report_rules.specs.Reply.{end_of, status_at_end, words_with, words_due, response_due}
use Rattle.back_jobs.specs.declared.stage.JobStage.{JobStage}
use Rattle.back_jobs.specs.declared.stage.JobStage.TheVariants as stage
use Rattle.back_jobs.specs.Work.{Work}
use Rattle.blk_back.specs.View.{info_of as back_info}
use Rattle.ring_laws.proofs.Lists.{either_false}
use Rattle.ring_laws.proofs.JobLines.{is_of, IsAside, read_by, read_aside}
use Rattle.ring_laws.proofs.Places.{ending, ending_aside, IsAt}
use Rattle.ring_laws.proofs.Began.{Terms, IsDue, HasCome, serves, over, reads, IsJobOf, request_at}
use Rattle.ring_laws.proofs.Copies.{IsCopying}
use Rattle.ring_laws.proofs.Due.{IsWorkOver}
use Rattle.ring_laws.proofs.Works.{entry_kept}
use Rattle.ring_laws.proofs.Fetched.{AreFetched, fetched_in, fetched_is}
use Rattle.ring_laws.proofs.EntryWords.{entry_values, words_of_job}

-- a line that is no step of a job makes no mapping of it
made_none : (k : ℕ) (line : Line) → is_of k line ≡ false → made_by k line ≡ None
made_none k (lines.Move (moves.Map who gref mode number frame)) e = none_if (is_job k (back_mover_job who)) _ e
  where
    none_if : (b : Bool) (s : Standing) → b ≡ false → (if b then Some s else None) ≡ None
    none_if true s e = absurd (cc)
    none_if false s e = refl
made_none k line e = refl

left_none : (k : ℕ) (ys : List Line) → list_any (is_of k) ys ≡ false → left_to k ys ≡ []
left_none k [] none = refl
left_none k (y ∷ ys) none =
    let both : (is_of k y ≡ false) × (list_any (is_of k) ys ≡ false) = either_false (is_of k y) (list_any (is_of k) ys) none in
    ap (λ (m : Option Standing). cons_option (unless_unmapped ys m) (left_to k ys)) (made_none k y both.0) ∙ left_none k ys both.1

neither : (o : Option Standing) (rest : List Standing) → cons_option o rest ≡ [] → (o ≡ None) × (rest ≡ [])
neither None rest e = (refl, e)
neither (Some s) rest e = absurd (cc)

-- what was unmapped stays so
still_unmapped : (o : Option Standing) (xs ys : List Line) → unless_unmapped xs o ≡ None → unless_unmapped (xs ++ ys) o ≡ None
still_unmapped None xs ys e = refl
still_unmapped (Some s) xs ys e = by_test (list_any (is_unmap_of s.number) xs) refl e
  where
    by_test : (b : Bool) → list_any (is_unmap_of s.number) xs ≡ b → (if b then None else Some s) ≡ None → unless_unmapped (xs ++ ys) (Some s) ≡ None
    by_test true is h = ap (λ (b : Bool). if b then None else Some s) (list_any-append (is_unmap_of s.number) xs ys ∙ ap (λ (b : Bool). b || list_any (is_unmap_of s.number) ys) is)
    by_test false is h = absurd (cc)

-- a job that left no mapping leaves none after others' lines
pub left_aside : (k : ℕ) (ys epoch : List Line) → list_any (is_of k) ys ≡ false → left_to k epoch ≡ [] → left_to k (epoch ++ ys) ≡ []
left_aside k ys [] none left = left_none k ys none
left_aside k ys (x ∷ xs) none left =
    let both : (unless_unmapped xs (made_by k x) ≡ None) × (left_to k xs ≡ []) = neither (unless_unmapped xs (made_by k x)) (left_to k xs) left in
    ap (λ (o : Option Standing). cons_option o (left_to k (xs ++ ys))) (still_unmapped (made_by k x) xs ys both.0) ∙ left_aside k ys xs none both.1

-- others' lines, and entries more, leave a job over
pub over_kept : (terms : Terms) (values more : List ℕ) (epoch ys : List Line) (k : ℕ) (r : Response) → IsAside k ys → IsWorkOver terms values epoch k r → IsWorkOver terms (values ++ more) (epoch ++ ys) k r
over_kept terms values more epoch ys k r aside o =
    let kept = entry_kept terms.abi values more k o.first o.read in
    let long = length-append values more in
    let read = o.read in
    record {
      work = o.work;
      served = o.served;
      first = o.first;
      read = omega arith;
      names = ap (λ (ws : List ℕ). work_response (request_of terms.abi ws) r.status) kept ∙ o.names;
      tasks = ap (λ (words : List ℕ). work_tasks (request_at terms.abi (values ++ more) k) (back_info terms.config) false words) (read_aside k epoch ys aside.none)
          ∙ (ap (λ (ws : List ℕ). work_tasks (request_of terms.abi ws) (back_info terms.config) false (read_by k epoch)) kept ∙ o.tasks);
      verdict = ap (λ (words : List ℕ). status_by (work_verdict (request_at terms.abi (values ++ more) k) (back_info terms.config) words)) (read_aside k epoch ys aside.none)
          ∙ (ap (λ (ws : List ℕ). status_by (work_verdict (request_of terms.abi ws) (back_info terms.config) (read_by k epoch))) kept ∙ o.verdict);
      ended = ending_aside o.work k epoch ys o.served aside ∙ o.ended;
      left = left_aside k ys epoch aside.none o.left;
    }

ended_as : (request : RawRequest) (info : DiskInfo) (served : Status) (work : List Task) (k : ℕ) (epoch : List Line) (s : JobStage) (t : Work) (status : Status) → s ≡ stage.Done status → HasCome request info served work k epoch s t → ending work k epoch served ≡ Some status
ended_as request info served work k epoch s t status done (serves settled okay at) = ap (λ (x : Status). ending work k epoch x) okay ∙ subst (λ (x : JobStage). IsAt work k epoch x t) done at
ended_as request info served work k epoch s t status done (over other was ends) = ends ∙ ap (λ (x : Status). Some x) (same_done (sym was ∙ done))
  where
    same_done : {a b : Status} → stage.Done a ≡ stage.Done b → a ≡ b
    same_done e = cc
ended_as request info served work k epoch s t status done (reads copying) = absurd (subst (λ (x : JobStage). IsCopying request info k epoch x t) done copying)

-- a job that is done, and left no mapping
pub over_of_done : (terms : Terms) (values : List ℕ) (epoch : List Line) (t : Work) (status : Status) → IsJobOf terms values epoch t → t.stage ≡ stage.Done status → left_to t.number epoch ≡ [] → IsWorkOver terms values epoch t.number (record { id = t.id; op = t.op; status = status })
over_of_done terms values epoch t status j done left =
    let plan : IsDue (request_at terms.abi values t.number) (back_info terms.config) (read_by t.number epoch) j.work j.served t.id t.op = j.plan in
    record {
      work = j.work;
      served = j.served;
      first = j.first;
      read = j.read;
      names = plan.names status;
      tasks = plan.tasks;
      verdict = plan.verdict;
      ended = ended_as (request_at terms.abi values t.number) (back_info terms.config) j.served j.work t.number epoch t.stage t status done j.at;
      left = left;
    }

-- the rule finds that status
status_is : (terms : Terms) (before : List Line) (values : List ℕ) (k : ℕ) (r : Response) → IsWorkOver terms values (this_epoch before) k r → status_at_end before k (fetched_in terms values k) ≡ Some r.status
status_is terms before values k r o =
    ap (λ (w : List Task). end_of (failed_in k (this_epoch before)) (length w) (status_by (work_verdict (request_at terms.abi values k) (back_info terms.config) (values_read before k))) (walk_of false w k (this_epoch before))) o.tasks
    ∙ (ap (λ (s : Status). ending o.work k (this_epoch before) s) o.verdict ∙ o.ended)

-- and that response
pub due : (terms : Terms) (before : List Line) (values : List ℕ) (k : ℕ) (r : Response) → entry_values before ≡ values → AreFetched terms before → IsWorkOver terms values (this_epoch before) k r → response_due before k ≡ Some (response_words_of r)
due terms before values k r same are o =
    ap (λ (f : Option Fetched). words_due before k f) (fetched_is terms before values k same are o.first o.read)
    ∙ (ap (λ (s : Option Status). words_with (request_at terms.abi values k) s) (status_is terms before values k r o)
    ∙ ap (λ (a : Response). Some (response_words_of a)) o.names)

-- an operation is a byte
small_request : (abi : Abi) (words : List ℕ) (status : Status) → (let a : Response = work_response (request_of abi words) status in a.op) < 2 ^ 8
unfolding request_of
small_request abi words status = by_tests (slice_index words 0 % 2 ^ 8 == 5) (slice_index words 0 % 2 ^ 8 == 6) _ _ _ _ _ _ _ _ _ (low_byte (slice_index words 0)) (low_byte (slice_index words 0 / 2 ^ 8))
  where
    low_byte : (w : ℕ) → w % 2 ^ 8 < 2 ^ 8
    low_byte w = omega arith

    by_tests : (a b : Bool) (op second third device id sector count : ℕ) (pages : List ℕ) (segments : List Segment) → op < 2 ^ 8 → second < 2 ^ 8
        → (let r : Response = work_response (if a then Discard second third id sector count else (if b then Indirect second third device id sector pages else Direct op second third id sector segments)) status in r.op) < 2 ^ 8
    by_tests true b op second third device id sector count pages segments p q = omega arith
    by_tests false true op second third device id sector count pages segments p q = q
    by_tests false false op second third device id sector count pages segments p q = p

pub small_op : (terms : Terms) (values : List ℕ) (epoch : List Line) (k : ℕ) (r : Response) → IsWorkOver terms values epoch k r → r.op < 2 ^ 8
small_op terms values epoch k r o = subst (λ (a : Response). a.op < 2 ^ 8) o.names (small_request terms.abi (words_of_job values (entry_words_of terms.abi) k) r.status)
