-- The moves of a job that copies the segments of an indirect request: each is the next step of its pages, and with the last of them the work after the pages is settled.
use Rattle.std.proofs.Common.{◌≡◌, ℕ, ◌+◌, ◌-◌, ◌*◌, ◌%◌, ◌<◌, ◌≤◌, ◌==◌, ◌||◌, min, not, Bool, true, false, if◌then◌else◌, List, [], ◌∷◌, ◌++◌, length, drop, refl, ap, sym, ◌∙◌, append_assoc, append-nil, length-append, arith}
use Rattle.std.specs.Prelude.{◌≢◌, slice_get, Option, Some, None, option_and_then, nat_lt, nat_le, Result, Ok, Err}
use Rattle.std.specs.List.{AllByRecursion, list_any}
use Rattle.std.proofs.lemmas.Bool.Decides.{nat_tests}
use Rattle.std.proofs.lemmas.Option.{none-some}
use Rattle.std.proofs.lemmas.List.Elements.{recursion_from_All}
use Rattle.std.proofs.lemmas.List.Sums.{sum_by-cons}
use Rattle.blk_base.specs.declared.operation.Status.{Status}
use Rattle.blk_base.specs.declared.operation.Status.TheVariants.{Error}
use Rattle.blk_base.specs.declared.parts.Mapping.{Mapping}
use Rattle.blk_base.specs.declared.parts.Mode.TheVariants.{ReadOnly}
use Rattle.blk_base.specs.declared.moves.BackMover.TheVariants as back
use Rattle.blk_base.specs.declared.moves.Move.{Move}
use Rattle.blk_base.specs.declared.moves.Move.TheVariants as moves
use Rattle.grant_table.specs.declared.entry.MapRefusal.{MapRefusal}
use Rattle.grant_table.specs.Entry.{status_of}
use Rattle.grant_table.specs.Table.{frame_of, verdict_at, next_mapping}
use Rattle.hypervisor.specs.Hypervisor.{Hypervisor}
use Rattle.hypervisor.specs.Act.{BackAct, Outcome, back_act, map_act}
use Rattle.schedule_text.specs.declared.line.Line.{Line}
use Rattle.schedule_text.specs.declared.line.Line.TheVariants as lines
use Rattle.blk_layout.specs.declared.segment.Segment.{Segment}
use Rattle.blk_layout.specs.declared.request.RawRequest.{RawRequest}
use Rattle.blk_layout.specs.Entry.{segment_of, segments_at}
use Rattle.segment_list.specs.declared.verdict.DiskInfo.{DiskInfo}
use Rattle.segment_list.specs.declared.verdict.Plan.{Plan}
use Rattle.segment_list.specs.declared.verdict.Verdict.{Verdict}
use Rattle.segment_list.specs.declared.verdict.Verdict.TheVariants as verdict
use Rattle.segment_list.specs.declared.verdict.Why.TheVariants as why
use Rattle.segment_list.specs.Segments.{IsSound, fails_test, length_of, sectors_of}
use Rattle.segment_list.specs.Verdict.{finished_verdict}
use Rattle.segment_list.proofs.Served.{finished_on_disk}
use Rattle.report_rules.specs.declared.walk.Spot.{Spot}
use Rattle.report_rules.specs.declared.work.Task.{Task}
use Rattle.report_rules.specs.declared.work.Task.TheVariants as tasks
use Rattle.report_rules.specs.Work.{pages_of, served_tasks, are_read, work_tasks, work_verdict, status_by}
use Rattle.report_rules.specs.Step.{is_refusal}
use Rattle.report_rules.specs.Walk.{spot, step_at, mapping_after, is_step_at, advanced, walk_of}
use Rattle.report_rules.specs.Steps.{failed_in}
use Rattle.report_rules.specs.Reply.{end_of}
use Rattle.back_jobs.specs.declared.stage.JobStage.{JobStage}
use Rattle.back_jobs.specs.declared.stage.JobStage.TheVariants as stage
use Rattle.back_jobs.specs.Work.{Work, ask_at, step_at as job_step_at, page_ask, page_word, is_copied_out, copied, judged, page_done, first_of}
use Rattle.split_model.proofs.SafeActs.{of_back}
use Rattle.ring_laws.proofs.JobLines.{read_by, read_more, walk_own, moves_step, failed_own}
use Rattle.ring_laws.proofs.TaskSteps.{advances}
use Rattle.ring_laws.proofs.Places.{tasks_of, Before, ending}
use Rattle.ring_laws.proofs.JobMoves.{itself}
use Rattle.ring_laws.proofs.JobSteps.{StepsBy, takes, rests, told_at, on_step}
use Rattle.ring_laws.proofs.PageTasks.{walk_more, page_task, page_count, first_left, drop_next, page_map, page_refused, page_more, page_read, segments_push, segments_more, enough_read}
use Rattle.ring_laws.proofs.Copies.{IsIndirect, after_pages, indirect_work, indirect_verdict, Copies, MapsPage, InPage, LeavesPage, IsCopying, copies_aside}
use Rattle.ring_laws.proofs.Began.{IsSettled, HasCome, serves, over, reads}

-- whatever the work is by the words read then, the job is in it
abbrev pub Comes : RawRequest → DiskInfo → ℕ → List Line → Work → Type 0
Comes request info k now new =
    (work : List Task) (served : Status) → work_tasks request info false (read_by k now) ≡ work → status_by (work_verdict request info (read_by k now)) ≡ served → HasCome request info served work k now new.stage new

-- the move is the next step of its pages, or an unmap; and so the job goes on
pub record PageGoes (request : RawRequest) (info : DiskInfo) (k : ℕ) (epoch : List Line) (t : Work) (pages : List ℕ) (shown : Move) (told : List Line) (new : Work) : Type 0 where
  pub is : IsIndirect request info t pages
  pub steps : StepsBy (pages_of t.named pages) k epoch shown
  pub comes : Comes request info k (epoch ++ lines.Move shown ∷ told) new

pub record Goes (request : RawRequest) (info : DiskInfo) (k : ℕ) (epoch : List Line) (s : JobStage) (t : Work) (a : BackAct) : Type 0 where
  pub pages : List ℕ
  pub goes : PageGoes request info k epoch t pages a.shown (told_at s t a.answer) (job_step_at s t a.answer)

-- the same request, whatever the job has copied
same_request : (request : RawRequest) (info : DiskInfo) (t : Work) (rest : List Segment) (left pages : List ℕ) (s : JobStage) → IsIndirect request info t pages → IsIndirect request info (record t { rest = rest; pages = left; stage = s }) pages
same_request request info t rest left pages s i = record { op = i.op; device = i.device; id = i.id; request_is = i.request_is; plan = i.plan; served = i.served; sector = i.sector; work = i.work; size = i.size; moved = i.moved; few = i.few }

-- after a step that read nothing
unread_then : (k : ℕ) (epoch : List Line) (shown : Move) (vs : List ℕ) → read_by k (lines.Move shown ∷ []) ≡ [] → read_by k epoch ≡ vs → read_by k (epoch ++ lines.Move shown ∷ []) ≡ vs
unread_then k epoch shown vs none is = read_more k epoch (lines.Move shown ∷ []) ∙ (ap (λ (l : List ℕ). read_by k epoch ++ l) none ∙ (append-nil (read_by k epoch) ∙ is))

-- after a read
read_then : (k : ℕ) (epoch : List Line) (number frame word value : ℕ) (vs : List ℕ) → read_by k epoch ≡ vs → read_by k (epoch ++ lines.Move (moves.Read (back.Job k) number frame word value) ∷ []) ≡ vs ++ value ∷ []
read_then k epoch number frame word value vs is =
    read_more k epoch (lines.Move (moves.Read (back.Job k) number frame word value) ∷ []) ∙ (ap (λ (l : List ℕ). read_by k epoch ++ l) one ∙ ap (λ (l : List ℕ). l ++ value ∷ []) is)
  where
    one : read_by k (lines.Move (moves.Read (back.Job k) number frame word value) ∷ []) ≡ value ∷ []
    one = let same = itself k in rw same refl

-- where a map of a page is refused, the work ends so
page_lost : (request : RawRequest) (info : DiskInfo) (k : ℕ) (now : List Line) (t : Work) (pages : List ℕ) (page : ℕ) (work : List Task) (served : Status) → IsIndirect request info t pages → work_tasks request info false (read_by k now) ≡ work
    → failed_in k now ≡ false → walk_of false (pages_of t.named pages) k now ≡ Some (spot page 1 true None) → ending work k now served ≡ Some Error
page_lost request info k now t pages page work served i is whole came =
    let all : pages_of t.named pages ++ after_pages i.plan t.named (read_by k now) info ≡ work = sym (indirect_work request info t pages (read_by k now) i) ∙ is in
    let walk : walk_of false work k now ≡ Some (spot page 1 true None) = ap (λ (w : List Task). walk_of false w k now) (sym all) ∙ walk_more (pages_of t.named pages) (after_pages i.plan t.named (read_by k now) info) k now (spot page 1 true None) came in
    ap (λ (failed : Bool). end_of failed (length work) served (walk_of false work k now)) whole ∙ ap (λ (s : Option Spot). end_of false (length work) served s) walk

-- the first step of a page
map_taken : (k : ℕ) (epoch : List Line) (count : ℕ) (pages : List ℕ) (page gref : ℕ) (shown : Move) → slice_get pages page ≡ Some gref → 512 * page < count → is_step_at (step_at (tasks.Page gref (2 * min 512 (count - 512 * page))) 0) shown ≡ true
    → walk_of false (pages_of count pages) k epoch ≡ Some (spot page 0 false None)
    → option_and_then (advanced false (pages_of count pages) shown) (walk_of false (pages_of count pages) k epoch) ≡ Some (spot page 1 (is_refusal shown) (mapping_after None shown))
map_taken k epoch count pages page gref shown named some step came =
    let words : ℕ = 2 * min 512 (count - 512 * page) in
    let more : nat_lt (2 * min 512 (count - 512 * page)) (0 + 1) ≡ false = enough count page some in
    ap (λ (x : Option Spot). option_and_then (advanced false (pages_of count pages) shown) x) came
    ∙ advances (pages_of count pages) page 0 None (tasks.Page gref words) shown false (page_task count pages page gref named some) step (page_more gref words 0 ∙ more)
  where
    enough : (count page : ℕ) → 512 * page < count → nat_lt (2 * min 512 (count - 512 * page)) (0 + 1) ≡ false
    enough count page some = let least : 1 ≤ min 512 (count - 512 * page) = omega arith in grind (arith, nat_tests)

-- the next page is mapped, or refused
map_goes : (request : RawRequest) (info : DiskInfo) (k : ℕ) (epoch : List Line) (h : Hypervisor) (t : Work) (p : MapsPage request info k epoch t) (gref : ℕ) (verdict : Result ℕ MapRefusal) → slice_get p.pages p.page ≡ Some gref
    → Goes request info k epoch stage.MapPage t (map_act h (back.Job k) gref ReadOnly verdict)
map_goes request info k epoch h t p gref (Ok frame) named =
    let shown : Move = moves.Map (back.Job k) gref ReadOnly (h.grants.made + 1) frame in
    let c : Copies request info k epoch t p.pages p.page p.page 0 None [] = p.copies in
    let n : ℕ = length t.rest in
    let at = p.at in
    let more = p.more in
    let taken = map_taken k epoch t.named p.pages p.page gref shown named (omega arith) (page_map gref (2 * min 512 (t.named - 512 * p.page)) k (h.grants.made + 1) frame) c.came in
    let place : 1 ≡ 1 + (2 * (n - 512 * p.page) + 0) = omega arith in
    record {
      pages = p.pages;
      goes = record {
        is = c.is;
        steps = takes refl (record { on = on_step (pages_of t.named p.pages) k epoch shown _ c.came c.whole taken tt; moved = tt });
        comes = λ work served tasks verdict. reads (record {
          pages = p.pages;
          page = p.page;
          gref = gref;
          named = named;
          copies = record {
            is = same_request request info t t.rest t.pages p.pages (stage.PageReference (next_mapping h.grants gref ReadOnly)) c.is;
            words = c.words;
            read = unread_then k epoch shown (c.words ++ []) refl c.read;
            long = c.long;
            copied = c.copied;
            left = c.left;
            came = walk_own (pages_of t.named p.pages) k epoch [] shown (itself k) refl ∙ (taken ∙ ap (λ (i : ℕ). Some (spot p.page i false (Some (h.grants.made + 1)))) place);
            counted = moves_step k epoch [] (lines.Move shown) refl refl ∙ c.counted;
            whole = failed_own k epoch [] (lines.Move shown) refl refl refl c.whole;
          };
          from = omega arith;
          below = omega arith;
          more = p.more;
        });
      };
    }
map_goes request info k epoch h t p gref (Err refusal) named =
    let shown : Move = moves.MapRefused (back.Job k) gref ReadOnly (status_of refusal) in
    let c : Copies request info k epoch t p.pages p.page p.page 0 None [] = p.copies in
    let at = p.at in
    let more = p.more in
    let taken = map_taken k epoch t.named p.pages p.page gref shown named (omega arith) (page_refused gref (2 * min 512 (t.named - 512 * p.page)) k (status_of refusal)) c.came in
    let now : List Line = epoch ++ lines.Move shown ∷ [] in
    record {
      pages = p.pages;
      goes = record {
        is = c.is;
        steps = takes refl (record { on = on_step (pages_of t.named p.pages) k epoch shown _ c.came c.whole taken tt; moved = tt });
        comes = λ work served tasks verdict. over Error refl
            (page_lost request info k now t p.pages p.page work served c.is tasks (failed_own k epoch [] (lines.Move shown) refl refl refl c.whole) (walk_own (pages_of t.named p.pages) k epoch [] shown (itself k) refl ∙ taken));
      };
    }

map_asked : (request : RawRequest) (info : DiskInfo) (k : ℕ) (epoch : List Line) (h : Hypervisor) (t : Work) (o : Outcome) (a : BackAct) (left : List ℕ) → t.pages ≡ left → MapsPage request info k epoch t → back_act h (back.Job k) (page_ask left) o ≡ Some a → Goes request info k epoch stage.MapPage t a
map_asked request info k epoch h t o a [] is p e = absurd (none-some a e)
map_asked request info k epoch h t o a (gref ∷ left) is p e =
    let c : Copies request info k epoch t p.pages p.page p.page 0 None [] = p.copies in
    of_back (Goes request info k epoch stage.MapPage t) _ a (map_goes request info k epoch h t p gref (verdict_at h.pages gref ReadOnly) (first_left p.pages p.page gref left (sym c.left ∙ is))) e

-- the words of a page, and where its last one is
in_words : (n page named : ℕ) → 512 * page ≤ n → n < 512 * (page + 1) → n < named → n - 512 * page < min 512 (named - 512 * page)
in_words n page named from below more = omega arith

same_word : (n page : ℕ) → 512 * page ≤ n → n < 512 * (page + 1) → n % 512 ≡ n - 512 * page
same_word n page from below = omega arith

not_above : (a b : ℕ) → b ≤ a → nat_lt a b ≡ false
not_above a b le = grind (arith, nat_tests)

above : (a b : ℕ) → a < b → nat_lt a b ≡ true
above a b lt = grind (arith, nat_tests)

-- the reference of a segment is read
reference_goes : (request : RawRequest) (info : DiskInfo) (k : ℕ) (epoch : List Line) (t : Work) (m : Mapping) (frame value : ℕ) (p : InPage request info k epoch t m [])
    → PageGoes request info k epoch t p.pages (moves.Read (back.Job k) m.number frame (page_word t 0) value) [] (record t { stage = stage.PageSectors m value })
reference_goes request info k epoch t m frame value p =
    let shown : Move = moves.Read (back.Job k) m.number frame (page_word t 0) value in
    let n : ℕ = length t.rest in
    let place : ℕ = 1 + (2 * (length t.rest - 512 * p.page) + 0) in
    let words : ℕ = 2 * min 512 (t.named - 512 * p.page) in
    let c : Copies request info k epoch t p.pages p.page p.page (1 + (2 * (length t.rest - 512 * p.page) + 0)) (Some m.number) [] = p.copies in
    let from = p.from in
    let below = p.below in
    let more = p.more in
    let within = in_words (length t.rest) p.page t.named from below more in
    let word = same_word (length t.rest) p.page from below in
    let read = page_read p.gref (2 * min 512 (t.named - 512 * p.page)) (1 + (2 * (length t.rest - 512 * p.page) + 0)) (page_word t 0) (back.Job k) m.number frame value (omega arith) (omega arith) in
    let next = page_more p.gref (2 * min 512 (t.named - 512 * p.page)) (1 + (2 * (length t.rest - 512 * p.page) + 0)) ∙ not_above (2 * min 512 (t.named - 512 * p.page)) (1 + (2 * (length t.rest - 512 * p.page) + 0) + 1) (omega arith) in
    let taken = ap (λ (x : Option Spot). option_and_then (advanced false (pages_of t.named p.pages) shown) x) c.came
    ∙ advances (pages_of t.named p.pages) p.page (1 + (2 * (length t.rest - 512 * p.page) + 0)) (Some m.number) (tasks.Page p.gref (2 * min 512 (t.named - 512 * p.page))) shown false (page_task t.named p.pages p.page p.gref p.named (omega arith)) read next in
    let past : 1 + (2 * (length t.rest - 512 * p.page) + 0) + 1 ≡ 1 + (2 * (length t.rest - 512 * p.page) + 1) = omega arith in
    record {
      is = c.is;
      steps = takes refl (record { on = on_step (pages_of t.named p.pages) k epoch shown _ c.came c.whole taken refl; moved = tt });
      comes = λ work served tasks verdict. reads (record {
        pages = p.pages;
        page = p.page;
        gref = p.gref;
        named = p.named;
        copies = record {
          is = same_request request info t t.rest t.pages p.pages (stage.PageSectors m value) c.is;
          words = c.words;
          read = read_then k epoch m.number frame (page_word t 0) value c.words (c.read ∙ append-nil c.words);
          long = c.long;
          copied = c.copied;
          left = c.left;
          came = walk_own (pages_of t.named p.pages) k epoch [] shown (itself k) refl ∙ (taken ∙ ap (λ (i : ℕ). Some (spot p.page i false (Some m.number))) past);
          counted = moves_step k epoch [] (lines.Move shown) refl refl ∙ c.counted;
          whole = failed_own k epoch [] (lines.Move shown) refl refl refl c.whole;
        };
        from = p.from;
        below = p.below;
        more = p.more;
      });
    }

-- a segment is copied whole
sectors_goes : (request : RawRequest) (info : DiskInfo) (k : ℕ) (epoch : List Line) (t : Work) (m : Mapping) (gref frame value : ℕ) (p : InPage request info k epoch t m (gref ∷ []))
    → PageGoes request info k epoch t p.pages (moves.Read (back.Job k) m.number frame (page_word t 1) value) [] (copied t m (t.rest ++ segment_of gref value ∷ []))
sectors_goes request info k epoch t m gref frame value p = by_out (is_copied_out t (t.rest ++ segment_of gref value ∷ [])) refl
  where
    shown : Move
    shown = moves.Read (back.Job k) m.number frame (page_word t 1) value

    now : List Line
    now = epoch ++ lines.Move shown ∷ []

    rest : List Segment
    rest = t.rest ++ segment_of gref value ∷ []

    longer : length (t.rest ++ segment_of gref value ∷ []) ≡ length t.rest + 1
    longer = length-append t.rest (segment_of gref value ∷ [])

    c : Copies request info k epoch t p.pages p.page p.page (1 + (2 * (length t.rest - 512 * p.page) + 1)) (Some m.number) (gref ∷ [])
    c = p.copies

    words : List ℕ
    words = c.words ++ gref ∷ value ∷ []

    long : length (c.words ++ gref ∷ value ∷ []) ≡ 2 * length (t.rest ++ segment_of gref value ∷ [])
    long = let before = c.long in let more = length-append c.words (gref ∷ value ∷ []) in let one = longer in omega arith

    segments : t.rest ++ segment_of gref value ∷ [] ≡ segments_at (c.words ++ gref ∷ value ∷ []) 0 (length (t.rest ++ segment_of gref value ∷ []))
    segments =
        let before = c.long in
        ap (λ (l : List Segment). l ++ segment_of gref value ∷ []) c.copied
        ∙ (sym (segments_push c.words (length t.rest) 0 gref value (omega arith)) ∙ ap (λ (i : ℕ). segments_at (c.words ++ gref ∷ value ∷ []) 0 i) (sym longer))

    told : read_by k (epoch ++ lines.Move (moves.Read (back.Job k) m.number frame (page_word t 1) value) ∷ []) ≡ (c.words ++ gref ∷ value ∷ []) ++ []
    told = read_then k epoch m.number frame (page_word t 1) value (c.words ++ gref ∷ []) c.read ∙ (append_assoc c.words (gref ∷ []) (value ∷ []) ∙ sym (append-nil (c.words ++ gref ∷ value ∷ [])))

    -- the read is a step of the page, and `last` says whether it is its last one
    taken : (last : Bool) → nat_lt (2 * min 512 (t.named - 512 * p.page)) (1 + (2 * (length t.rest - 512 * p.page) + 1) + 1) ≡ last
        → option_and_then (advanced false (pages_of t.named p.pages) shown) (walk_of false (pages_of t.named p.pages) k epoch) ≡ Some (if last then spot (p.page + 1) 0 false None else spot p.page (1 + (2 * (length t.rest - 512 * p.page) + 1) + 1) false (Some m.number))
    taken last is =
        let from = p.from in
        let below = p.below in
        let more = p.more in
        let within = in_words (length t.rest) p.page t.named from below more in
        let word = same_word (length t.rest) p.page from below in
        let read = page_read p.gref (2 * min 512 (t.named - 512 * p.page)) (1 + (2 * (length t.rest - 512 * p.page) + 1)) (page_word t 1) (back.Job k) m.number frame value (omega arith) (omega arith) in
        let next = page_more p.gref (2 * min 512 (t.named - 512 * p.page)) (1 + (2 * (length t.rest - 512 * p.page) + 1)) ∙ is in
        ap (λ (x : Option Spot). option_and_then (advanced false (pages_of t.named p.pages) shown) x) c.came
        ∙ advances (pages_of t.named p.pages) p.page (1 + (2 * (length t.rest - 512 * p.page) + 1)) (Some m.number) (tasks.Page p.gref (2 * min 512 (t.named - 512 * p.page))) shown last (page_task t.named p.pages p.page p.gref p.named (omega arith)) read next

    copies : (s : JobStage) (done place : ℕ) (mapping : Option ℕ) → option_and_then (advanced false (pages_of t.named p.pages) shown) (walk_of false (pages_of t.named p.pages) k epoch) ≡ Some (spot done place false mapping)
        → Copies request info k (epoch ++ lines.Move shown ∷ []) (record t { rest = t.rest ++ segment_of gref value ∷ []; stage = s }) p.pages p.page done place mapping []
    copies s done place mapping came = record {
      is = same_request request info t rest t.pages p.pages s c.is;
      words = c.words ++ gref ∷ value ∷ [];
      read = told;
      long = long;
      copied = segments;
      left = c.left;
      came = walk_own (pages_of t.named p.pages) k epoch [] shown (itself k) refl ∙ came;
      counted = moves_step k epoch [] (lines.Move shown) refl refl ∙ c.counted;
      whole = failed_own k epoch [] (lines.Move shown) refl refl refl c.whole;
    }

    by_out : (b : Bool) → is_copied_out t (t.rest ++ segment_of gref value ∷ []) ≡ b
        → PageGoes request info k epoch t p.pages shown [] (record t { rest = t.rest ++ segment_of gref value ∷ []; stage = if b then stage.UnmapPage m else stage.PageReference m })
    by_out true out =
        let from = p.from in
        let below = p.below in
        let more = p.more in
        let one = longer in
        let end = ends (length (t.rest ++ segment_of gref value ∷ [])) (length t.rest) p.page t.named longer p.from p.below p.more out in
        let came = taken true (above (2 * min 512 (t.named - 512 * p.page)) (1 + (2 * (length t.rest - 512 * p.page) + 1) + 1) (omega arith)) in
        record {
          is = c.is;
          steps = takes refl (record { on = on_step (pages_of t.named p.pages) k epoch shown _ c.came c.whole came refl; moved = tt });
          comes = λ work served tasks verdict. reads (record {
            pages = p.pages;
            page = p.page;
            gref = p.gref;
            named = p.named;
            copies = copies (stage.UnmapPage m) (p.page + 1) 0 None came;
            from = omega arith;
            below = omega arith;
            most = omega arith;
            out = out;
          });
        }
      where
        ends : (l n page named : ℕ) → l ≡ n + 1 → 512 * page ≤ n → n < 512 * (page + 1) → n < named → ((l == named) || (l % 512 == 0)) ≡ true → min 512 (named - 512 * page) ≡ n + 1 - 512 * page
        ends l n page named is from below more out = by_test (l == named) refl out
          where
            by_test : (b : Bool) → (l == named) ≡ b → (b || (l % 512 == 0)) ≡ true → min 512 (named - 512 * page) ≡ n + 1 - 512 * page
            by_test true e h = let same : l ≡ named = grind (arith, nat_tests) in omega arith
            by_test false e h = let whole : l % 512 ≡ 0 = grind (arith, nat_tests) in omega arith
    by_out false out =
        let one = longer in
        let from = p.from in
        let goes = goes_on (length (t.rest ++ segment_of gref value ∷ [])) (length t.rest) p.page t.named longer p.from p.below p.more out in
        let within = in_words (length t.rest + 1) p.page t.named (omega arith) goes.0 goes.1 in
        let came = taken false (not_above (2 * min 512 (t.named - 512 * p.page)) (1 + (2 * (length t.rest - 512 * p.page) + 1) + 1) (omega arith)) in
        let past : 1 + (2 * (length t.rest - 512 * p.page) + 1) + 1 ≡ 1 + (2 * (length (t.rest ++ segment_of gref value ∷ []) - 512 * p.page) + 0) = omega arith in
        let low = goes.0 in
        let less = goes.1 in
        record {
          is = c.is;
          steps = takes refl (record { on = on_step (pages_of t.named p.pages) k epoch shown _ c.came c.whole came refl; moved = tt });
          comes = λ work served tasks verdict. reads (record {
            pages = p.pages;
            page = p.page;
            gref = p.gref;
            named = p.named;
            copies = copies (stage.PageReference m) p.page (1 + (2 * (length (t.rest ++ segment_of gref value ∷ []) - 512 * p.page) + 0)) (Some m.number) (came ∙ ap (λ (i : ℕ). Some (spot p.page i false (Some m.number))) past);
            from = omega arith;
            below = omega arith;
            more = omega arith;
          });
        }
      where
        goes_on : (l n page named : ℕ) → l ≡ n + 1 → 512 * page ≤ n → n < 512 * (page + 1) → n < named → ((l == named) || (l % 512 == 0)) ≡ false → (n + 1 < 512 * (page + 1)) × (n + 1 < named)
        goes_on l n page named is from below more out = by_test (l == named) refl out
          where
            by_test : (b : Bool) → (l == named) ≡ b → (b || (l % 512 == 0)) ≡ false → (n + 1 < 512 * (page + 1)) × (n + 1 < named)
            by_test true e h = absurd (cc)
            by_test false e h =
                let other : l % 512 ≢ 0 = grind (arith, nat_tests) in
                let less : l ≢ named = grind (arith, nat_tests) in
                (omega arith, omega arith)

-- each segment has at most 8 sectors
few_sectors : (segments : List Segment) → AllByRecursion IsSound segments → sectors_of segments ≤ 8 * length segments
few_sectors [] sound = omega arith
few_sectors (s ∷ segments) sound =
    let one = sum_by-cons length_of s segments in
    let rest = few_sectors segments sound.1 in
    let here : IsSound s = sound.0 in
    let nonempty = here.nonempty in
    let inside = here.inside in
    omega arith

-- all segments are copied: they are tested, and the work after the pages is settled
judged_comes : (request : RawRequest) (info : DiskInfo) (k : ℕ) (epoch now : List Line) (t : Work) (p : LeavesPage request info k epoch t) → Copies request info k now t p.pages p.page (p.page + 1) 0 None [] → length t.rest ≡ t.named → Comes request info k now (judged t)
judged_comes request info k epoch now t p c all work served tasks answer = by_tests (list_any fails_test t.rest) (nat_lt t.size (t.disk + sectors_of t.rest)) refl refl
  where
    is : IsIndirect request info t p.pages
    is = c.is

    plan : Plan
    plan = is.plan

    -- whatever is read later
    enough : (later : List ℕ) → are_read t.named (read_by k now ++ later) ≡ true
    enough later =
        let long = c.long in
        ap (λ (vs : List ℕ). are_read t.named (vs ++ later)) (c.read ∙ append-nil c.words) ∙ enough_read c.words later t.named (omega arith)

    same : (later : List ℕ) → segments_at (read_by k now ++ later) 0 t.named ≡ t.rest
    same later =
        let long = c.long in
        ap (λ (vs : List ℕ). segments_at (vs ++ later) 0 t.named) (c.read ∙ append-nil c.words)
        ∙ (segments_more c.words later t.named 0 (omega arith) ∙ (ap (λ (i : ℕ). segments_at c.words 0 i) (sym all) ∙ sym c.copied))

    judged_by : Bool → Bool → Verdict
    judged_by bad far = if bad then verdict.Error why.Segment else (if far then verdict.Error why.Range else verdict.Serve plan)

    finished : (bad far : Bool) → list_any fails_test t.rest ≡ bad → nat_lt t.size (t.disk + sectors_of t.rest) ≡ far → finished_verdict is.plan t.rest info ≡ judged_by bad far
    finished bad far e f =
        ap (λ (b : Bool). if b then verdict.Error why.Segment else (if nat_lt info.sectors (plan.sector + sectors_of t.rest) then verdict.Error why.Range else verdict.Serve plan)) e
        ∙ ap (λ (b : Bool). if bad then verdict.Error why.Segment else (if b then verdict.Error why.Range else verdict.Serve plan))
        (ap (λ (n : ℕ). nat_lt info.sectors (n + sectors_of t.rest)) is.sector ∙ (ap (λ (n : ℕ). nat_lt n (t.disk + sectors_of t.rest)) (sym is.size) ∙ f))

    verdict_then : (bad far : Bool) → list_any fails_test t.rest ≡ bad → nat_lt t.size (t.disk + sectors_of t.rest) ≡ far → (later : List ℕ) → work_verdict request info (read_by k now ++ later) ≡ judged_by bad far
    verdict_then bad far e f later =
        indirect_verdict request info t p.pages (read_by k now ++ later) is
        ∙ (ap (λ (b : Bool). if b then finished_verdict is.plan (segments_at (read_by k now ++ later) 0 t.named) info else verdict.Serve plan) (enough later)
        ∙ (ap (λ (l : List Segment). finished_verdict is.plan l info) (same later) ∙ finished bad far e f))

    tasks_then : (bad far : Bool) → list_any fails_test t.rest ≡ bad → nat_lt t.size (t.disk + sectors_of t.rest) ≡ far → (later : List ℕ) → work_tasks request info false (read_by k now ++ later) ≡ pages_of t.named p.pages ++ served_tasks false (judged_by bad far) t.rest
    tasks_then bad far e f later =
        indirect_work request info t p.pages (read_by k now ++ later) is
        ∙ ap (λ (l : List Task). pages_of t.named p.pages ++ l)
        (ap (λ (b : Bool). if b then served_tasks false (finished_verdict is.plan (segments_at (read_by k now ++ later) 0 t.named) info) (segments_at (read_by k now ++ later) 0 t.named) else []) (enough later)
        ∙ (ap (λ (l : List Segment). served_tasks false (finished_verdict is.plan l info) l) (same later) ∙ ap (λ (v : Verdict). served_tasks false v t.rest) (finished bad far e f)))

    -- as it is now
    work_now : (bad far : Bool) → list_any fails_test t.rest ≡ bad → nat_lt t.size (t.disk + sectors_of t.rest) ≡ far → work ≡ pages_of t.named p.pages ++ served_tasks false (judged_by bad far) t.rest
    work_now bad far e f = sym tasks ∙ (ap (λ (vs : List ℕ). work_tasks request info false vs) (sym (append-nil (read_by k now))) ∙ tasks_then bad far e f [])

    served_now : (bad far : Bool) → list_any fails_test t.rest ≡ bad → nat_lt t.size (t.disk + sectors_of t.rest) ≡ far → served ≡ status_by (judged_by bad far)
    served_now bad far e f = sym answer ∙ (ap (λ (vs : List ℕ). status_by (work_verdict request info vs)) (sym (append-nil (read_by k now))) ∙ ap status_by (verdict_then bad far e f []))

    pages_long : length (pages_of t.named p.pages) ≡ p.page + 1
    pages_long = let from = p.from in let below = p.below in page_count t.named p.pages p.page p.gref p.named (omega arith) (omega arith)

    came : (past : List Task) → work ≡ pages_of t.named p.pages ++ past → walk_of false work k now ≡ Some (spot (p.page + 1) 0 false None)
    came past e = ap (λ (w : List Task). walk_of false w k now) e ∙ walk_more (pages_of t.named p.pages) past k now (spot (p.page + 1) 0 false None) c.came

    -- they fail the tests
    refused : (bad far : Bool) → list_any fails_test t.rest ≡ bad → nat_lt t.size (t.disk + sectors_of t.rest) ≡ far → served_tasks false (judged_by bad far) t.rest ≡ [] → status_by (judged_by bad far) ≡ Error → ending work k now served ≡ Some Error
    refused bad far e f none error =
        let only : work ≡ pages_of t.named p.pages ++ [] = work_now bad far e f ∙ ap (λ (l : List Task). pages_of t.named p.pages ++ l) none in
        let long : length work ≡ p.page + 1 = ap (λ (l : List Task). length l) (only ∙ append-nil (pages_of t.named p.pages)) ∙ pages_long in
        ap (λ (failed : Bool). end_of failed (length work) served (walk_of false work k now)) c.whole
        ∙ (ap (λ (s : Option Spot). end_of false (length work) served s) (came [] only)
        ∙ (ap (λ (n : ℕ). if nat_le n (p.page + 1) then Some served else None) long
        ∙ (ap (λ (b : Bool). if b then Some served else None) (itself_within (p.page + 1)) ∙ ap (λ (s : Status). Some s) (served_now bad far e f ∙ error))))
      where
        itself_within : (n : ℕ) → nat_le n n ≡ true
        itself_within n = grind (arith, nat_tests)

    -- they pass them
    sound : list_any fails_test t.rest ≡ false → nat_lt t.size (t.disk + sectors_of t.rest) ≡ false → AllByRecursion IsSound t.rest
    sound e f = recursion_from_All IsSound t.rest (finished_on_disk is.plan is.plan t.rest info (finished false false e f)).sound

    passed : list_any fails_test t.rest ≡ false → nat_lt t.size (t.disk + sectors_of t.rest) ≡ false → Before work k now t.rest t.disk t.moved t.writes
    passed e f =
        let whole : work ≡ pages_of t.named p.pages ++ tasks_of t.writes t.disk t.rest = work_now false false e f ∙ ap (λ (l : List Task). pages_of t.named p.pages ++ l) (is.work t.rest) in
        let most = few_sectors t.rest (sound e f) in
        let few = is.few in
        let none = is.moved in
        record {
          done = pages_of t.named p.pages;
          tail = whole;
          came = came (tasks_of t.writes t.disk t.rest) whole ∙ ap (λ (n : ℕ). Some (spot n 0 false None)) (sym pages_long);
          sound = sound e f;
          few = omega arith;
          counted = c.counted ∙ sym is.moved;
          whole = c.whole;
        }

    settled : list_any fails_test t.rest ≡ false → nat_lt t.size (t.disk + sectors_of t.rest) ≡ false → IsSettled request info (read_by k now) work served
    settled e f = record {
      tasks = λ later. tasks_then false false e f later ∙ sym (work_now false false e f);
      verdict = λ later. ap status_by (verdict_then false false e f later) ∙ sym (served_now false false e f);
    }

    by_tests : (bad far : Bool) → list_any fails_test t.rest ≡ bad → nat_lt t.size (t.disk + sectors_of t.rest) ≡ far
        → (let new : Work = if not (bad || far) then record t { within = first_of t.rest; stage = stage.Map } else record t { stage = stage.Done Error } in HasCome request info served work k now new.stage new)
    by_tests true far e f = over Error refl (refused true far e f refl refl)
    by_tests false true e f = over Error refl (refused false true e f refl refl)
    by_tests false false e f = serves (settled e f) (served_now false false e f) (passed e f, refl)

-- a page is unmapped
unmap_goes : (request : RawRequest) (info : DiskInfo) (k : ℕ) (epoch : List Line) (t : Work) (m : Mapping) (p : LeavesPage request info k epoch t) → PageGoes request info k epoch t p.pages (moves.Unmap (back.Job k) m.number) [] (page_done t)
unmap_goes request info k epoch t m p = record { is = c.is; steps = rests refl; comes = by_all (length t.rest == t.named) refl }
  where
    now : List Line
    now = epoch ++ lines.Move (moves.Unmap (back.Job k) m.number) ∷ []

    c : Copies request info k (epoch ++ lines.Move (moves.Unmap (back.Job k) m.number) ∷ []) t p.pages p.page (p.page + 1) 0 None []
    c = copies_aside request info k epoch (lines.Move (moves.Unmap (back.Job k) m.number) ∷ []) t p.pages p.page (p.page + 1) 0 None [] (record { none = refl; calm = refl; silent = refl }) p.copies

    next : (n page named : ℕ) → 512 * page < n → n ≤ 512 * (page + 1) → n ≤ named → ((n == named) || (n % 512 == 0)) ≡ true → (n == named) ≡ false → (n ≡ 512 * (page + 1)) × (n < named)
    next n page named from below most out other =
        let whole : n % 512 ≡ 0 = by_test (n == named) other out in
        let less : n ≢ named = grind (arith, nat_tests) in
        (omega arith, omega arith)
      where
        by_test : (b : Bool) → b ≡ false → (b || (n % 512 == 0)) ≡ true → n % 512 ≡ 0
        by_test true e h = absurd (cc)
        by_test false e h = grind (arith, nat_tests)

    by_all : (b : Bool) → (length t.rest == t.named) ≡ b → Comes request info k now (if b then judged t else record t { pages = drop 1 t.pages; stage = stage.MapPage })
    by_all true e = judged_comes request info k epoch now t p c (same (length t.rest) t.named e)
      where
        same : (a b : ℕ) → (a == b) ≡ true → a ≡ b
        same a b h = grind (arith, nat_tests)
    by_all false e = λ work served tasks verdict.
        let more = next (length t.rest) p.page t.named p.from p.below p.most p.out e in
        reads (record {
          pages = p.pages;
          page = p.page + 1;
          copies = record {
            is = same_request request info t t.rest (drop 1 t.pages) p.pages stage.MapPage c.is;
            words = c.words;
            read = c.read;
            long = c.long;
            copied = c.copied;
            left = ap (λ (l : List ℕ). drop 1 l) c.left ∙ drop_next p.pages p.page;
            came = c.came;
            counted = c.counted;
            whole = c.whole;
          };
          at = more.0;
          more = more.1;
        })

pub page_goes : (request : RawRequest) (info : DiskInfo) (k : ℕ) (epoch : List Line) (h : Hypervisor) (s : JobStage) (t : Work) (o : Outcome) (a : BackAct) → IsCopying request info k epoch s t → back_act h (back.Job k) (ask_at s t) o ≡ Some a → Goes request info k epoch s t a
page_goes request info k epoch h stage.MapPage t o a p e = map_asked request info k epoch h t o a t.pages refl p e
page_goes request info k epoch h (stage.PageReference m) t o a p e = of_back (Goes request info k epoch (stage.PageReference m) t) _ a (record { pages = p.pages; goes = reference_goes request info k epoch t m (frame_of h.grants m) _ p }) e
page_goes request info k epoch h (stage.PageSectors m gref) t o a p e = of_back (Goes request info k epoch (stage.PageSectors m gref) t) _ a (record { pages = p.pages; goes = sectors_goes request info k epoch t m gref (frame_of h.grants m) _ p }) e
page_goes request info k epoch h (stage.UnmapPage m) t o a p e = of_back (Goes request info k epoch (stage.UnmapPage m) t) _ a (record { pages = p.pages; goes = unmap_goes request info k epoch t m p }) e
page_goes request info k epoch h s t o a p e = absurd p
