-- A move of a job: its lines obey the rules on jobs, and the jobs are as their entries say.
use Rattle.std.proofs.Common.{◌≡◌, ◌≢◌, ℕ, ◌+◌, ◌*◌, ◌≤◌, ◌==◌, ◌||◌, Bool, true, false, if◌then◌else◌, List, [], ◌∷◌, ◌++◌, length, drop, count_by, refl, ap, sym, ◌∙◌, subst, append_assoc, append-nil, arith}
use Rattle.std.specs.Prelude.{Option, Some, None, IsSomeAnd, slice_get, Result, Ok, Err}
use Rattle.std.proofs.lemmas.Option.{none-some}
use Rattle.std.proofs.lemmas.Bool.Decides.{nat_tests}
use Rattle.blk_base.specs.Options.{Options}
use Rattle.blk_base.specs.declared.operation.Status.{Status}
use Rattle.blk_base.specs.declared.operation.Status.TheVariants.{Error}
use Rattle.blk_base.specs.declared.parts.Mapping.{Mapping}
use Rattle.blk_base.specs.declared.parts.Mode.TheVariants.{ReadOnly}
use Rattle.blk_base.specs.declared.ask.BackAnswer.{BackAnswer}
use Rattle.blk_base.specs.declared.ask.BackAnswer.TheVariants as answers
use Rattle.blk_base.specs.declared.moves.BackMover.TheVariants as back
use Rattle.blk_base.specs.declared.moves.Move.{Move}
use Rattle.grant_table.specs.declared.entry.MapRefusal.{MapRefusal}
use Rattle.grant_table.specs.Table.{verdict_at}
use Rattle.hypervisor.specs.Hypervisor.{Hypervisor}
use Rattle.hypervisor.specs.Act.{BackAct, Outcome, Gave, Took, Failed, back_act, map_act}
use Rattle.schedule_text.specs.declared.line.Line.{Line}
use Rattle.schedule_text.specs.declared.line.Line.TheVariants as lines
use Rattle.blk_layout.specs.declared.segment.Segment.{Segment}
use Rattle.blk_layout.specs.declared.request.RawRequest.{RawRequest}
use Rattle.segment_list.specs.declared.verdict.DiskInfo.{DiskInfo}
use Rattle.report_rules.specs.declared.work.Task.{Task}
use Rattle.report_rules.specs.declared.work.Task.TheVariants as tasks
use Rattle.report_rules.specs.Standing.{this_epoch}
use Rattle.report_rules.specs.Work.{pages_of, work_tasks, work_verdict, status_by, response_to, work_response}
use Rattle.report_rules.specs.Step.{values_read}
use Rattle.report_rules.specs.declared.job.Fetched.{Fetched}
use Rattle.report_rules.specs.Job.{is_job, fetched_of, id_of}
use Rattle.report_rules.specs.Published.{info_of}
use Rattle.report_rules.specs.declared.effect.DiskCall.TheVariants as calls
use Rattle.report_rules.specs.Effect.{disk_move_shown}
use Rattle.blk_back.specs.View.{info_of as back_info}
use Rattle.back_jobs.specs.declared.stage.JobStage.{JobStage}
use Rattle.back_jobs.specs.declared.stage.JobStage.TheVariants as stage
use Rattle.back_jobs.specs.Work.{Work, IsDoneStage, ask_at, step_at, map_ask, page_ask, passes, judged, page_done, first_of, mode_of, last_of, rest_of, next_sector, next_segment, counted, sector_stage}
use Rattle.back_jobs.specs.Jobs.{asked, told_at as told_works}
use Rattle.split_model.proofs.SafeActs.{of_back}
use Rattle.ring_words.specs.Shape.{entry_words_of}
use Rattle.ring_laws.proofs.Shows.{Sight, untouched_value}
use Rattle.ring_laws.proofs.Sight.{is_other, other_touch}
use Rattle.ring_laws.proofs.JobLines.{is_of, is_disk_of, IsAside, read_by, read_more, moves_own}
use Rattle.ring_laws.proofs.Places.{Within, Alone, IsAt}
use Rattle.ring_laws.proofs.JobMoves.{itself}
use Rattle.ring_laws.proofs.JobSteps.{StepsBy, takes, rests, JobGoes, told_at}
use Rattle.ring_laws.proofs.JobStages.{job_goes}
use Rattle.ring_laws.proofs.PageTasks.{steps_more}
use Rattle.ring_laws.proofs.Copies.{IsIndirect, IsCopying, after_pages, indirect_work}
use Rattle.ring_laws.proofs.PageMoves.{PageGoes, Goes, page_goes}
use Rattle.ring_laws.proofs.Began.{Terms, IsDue, IsSettled, HasCome, serves, over, reads, IsJobOf, request_at}
use Rattle.ring_laws.proofs.Works.{AreJobs, jobs_told, job_found}
use Rattle.ring_laws.proofs.Bystanders.{IsRule, Tale, shown_last, tale_more, is_plain, plain_keeps, plain_tells, bystander_rule, some_and}
use Rattle.ring_laws.proofs.Fetched.{AreFetched, fetched_in, fetched_still, fetched_is}
use Rattle.ring_laws.proofs.JobRule.{own_rule, ToldBy, nothing, one, effect_done, effect_given, flush_done, trim_done, call_failed}
use Rattle.ring_laws.proofs.EntryWords.{entry_values, epoch_longer}

-- what a job's move shows, and the lines after it
pub record IsSpoken (epoch : List Line) (k : ℕ) (s : JobStage) (t : Work) (a : BackAct) : Type 0 where
  pub plain : is_plain (lines.Move a.shown) ≡ true
  pub told : ToldBy epoch a.shown k t.id t.moved (told_at s t a.answer)

map_tells : (epoch : List Line) (h : Hypervisor) (k : ℕ) (t : Work) (s : Segment) (verdict : Result ℕ MapRefusal) → IsSpoken epoch k stage.Map t (map_act h (back.Job k) s.gref (mode_of t.writes) verdict)
map_tells epoch h k t s (Ok frame) = record { plain = refl; told = nothing refl refl }
map_tells epoch h k t s (Err refusal) = record { plain = refl; told = nothing refl refl }

map_asked : (epoch : List Line) (h : Hypervisor) (k : ℕ) (t : Work) (o : Outcome) (a : BackAct) (rest : List Segment) → back_act h (back.Job k) (map_ask rest t.writes) o ≡ Some a → IsSpoken epoch k stage.Map t a
map_asked epoch h k t o a [] e = absurd (none-some a e)
map_asked epoch h k t o a (s ∷ more) e = of_back (IsSpoken epoch k stage.Map t) _ a (map_tells epoch h k t s (verdict_at h.pages s.gref (mode_of t.writes))) e

job_tells : (work : List Task) (epoch : List Line) (h : Hypervisor) (k : ℕ) (s : JobStage) (t : Work) (o : Outcome) (a : BackAct) → IsAt work k epoch s t → back_act h (back.Job k) (ask_at s t) o ≡ Some a → IsSpoken epoch k s t a
job_tells work epoch h k stage.Map t o a at e = map_asked epoch h k t o a t.rest e
job_tells work epoch h k (stage.ReadWord m j) t o a at e = of_back (IsSpoken epoch k (stage.ReadWord m j) t) _ a (record { plain = refl; told = nothing refl refl }) e
job_tells work epoch h k (stage.DiskWrite m) t Took a at e =
    let w : Within work k epoch t.rest t.within t.disk t.moved t.writes 128 1 m = at.0 in
    of_back (IsSpoken epoch k (stage.DiskWrite m) t) _ a (record { plain = refl; told = one _ refl (effect_done k t.disk t.id t.moved) (itself k) w.counted }) e
job_tells work epoch h k (stage.DiskWrite m) t Failed a at e =
    let w : Within work k epoch t.rest t.within t.disk t.moved t.writes 128 1 m = at.0 in
    of_back (IsSpoken epoch k (stage.DiskWrite m) t) _ a (record { plain = refl; told = one _ refl (call_failed k t.id t.moved _ calls.Write refl) (itself k) w.counted }) e
job_tells work epoch h k (stage.DiskWrite m) t (Gave words) a at e = absurd (none-some a e)
job_tells work epoch h k (stage.DiskRead m) t (Gave words) a at e =
    let w : Within work k epoch t.rest t.within t.disk t.moved t.writes 0 1 m = at.0 in
    of_back (IsSpoken epoch k (stage.DiskRead m) t) _ a (record { plain = refl; told = one _ refl (effect_given k t.disk t.id t.moved words) (itself k) w.counted }) e
job_tells work epoch h k (stage.DiskRead m) t Failed a at e =
    let w : Within work k epoch t.rest t.within t.disk t.moved t.writes 0 1 m = at.0 in
    of_back (IsSpoken epoch k (stage.DiskRead m) t) _ a (record { plain = refl; told = one _ refl (call_failed k t.id t.moved _ calls.Read refl) (itself k) w.counted }) e
job_tells work epoch h k (stage.DiskRead m) t Took a at e = absurd (none-some a e)
job_tells work epoch h k (stage.WriteWord m j) t o a at e = of_back (IsSpoken epoch k (stage.WriteWord m j) t) _ a (record { plain = refl; told = nothing refl refl }) e
job_tells work epoch h k (stage.Unmap m) t o a at e = of_back (IsSpoken epoch k (stage.Unmap m) t) _ a (record { plain = refl; told = nothing refl refl }) e
job_tells work epoch h k (stage.Abort m) t o a at e = of_back (IsSpoken epoch k (stage.Abort m) t) _ a (record { plain = refl; told = nothing refl refl }) e
job_tells work epoch h k stage.Flush t Took a at e =
    let w : Alone work k epoch tasks.Flush t.moved = at in
    of_back (IsSpoken epoch k stage.Flush t) _ a (record { plain = refl; told = one _ refl (flush_done k t.id t.moved w.once) (itself k) w.counted }) e
job_tells work epoch h k stage.Flush t Failed a at e =
    let w : Alone work k epoch tasks.Flush t.moved = at in
    of_back (IsSpoken epoch k stage.Flush t) _ a (record { plain = refl; told = one _ refl (call_failed k t.id t.moved _ calls.Flush refl) (itself k) w.counted }) e
job_tells work epoch h k stage.Flush t (Gave words) a at e = absurd (none-some a e)
job_tells work epoch h k (stage.Trim count) t Took a at e =
    let w : Alone work k epoch (tasks.Trim t.disk count) t.moved = at in
    of_back (IsSpoken epoch k (stage.Trim count) t) _ a (record { plain = refl; told = one _ refl (trim_done k t.disk count t.id t.moved w.once) (itself k) w.counted }) e
job_tells work epoch h k (stage.Trim count) t Failed a at e =
    let w : Alone work k epoch (tasks.Trim t.disk count) t.moved = at in
    of_back (IsSpoken epoch k (stage.Trim count) t) _ a (record { plain = refl; told = one _ refl (call_failed k t.id t.moved _ calls.Trim refl) (itself k) w.counted }) e
job_tells work epoch h k (stage.Trim count) t (Gave words) a at e = absurd (none-some a e)
job_tells work epoch h k (stage.Done status) t o a at e = absurd (none-some a e)
job_tells work epoch h k other t o a at e = absurd at

-- and of one that copies segments
page_map_tells : (epoch : List Line) (h : Hypervisor) (k : ℕ) (t : Work) (gref : ℕ) (verdict : Result ℕ MapRefusal) → IsSpoken epoch k stage.MapPage t (map_act h (back.Job k) gref ReadOnly verdict)
page_map_tells epoch h k t gref (Ok frame) = record { plain = refl; told = nothing refl refl }
page_map_tells epoch h k t gref (Err refusal) = record { plain = refl; told = nothing refl refl }

page_asked : (epoch : List Line) (h : Hypervisor) (k : ℕ) (t : Work) (o : Outcome) (a : BackAct) (pages : List ℕ) → back_act h (back.Job k) (page_ask pages) o ≡ Some a → IsSpoken epoch k stage.MapPage t a
page_asked epoch h k t o a [] e = absurd (none-some a e)
page_asked epoch h k t o a (gref ∷ pages) e = of_back (IsSpoken epoch k stage.MapPage t) _ a (page_map_tells epoch h k t gref (verdict_at h.pages gref ReadOnly)) e

page_tells : (request : RawRequest) (info : DiskInfo) (epoch : List Line) (h : Hypervisor) (k : ℕ) (s : JobStage) (t : Work) (o : Outcome) (a : BackAct) → IsCopying request info k epoch s t → back_act h (back.Job k) (ask_at s t) o ≡ Some a → IsSpoken epoch k s t a
page_tells request info epoch h k stage.MapPage t o a p e = page_asked epoch h k t o a t.pages e
page_tells request info epoch h k (stage.PageReference m) t o a p e = of_back (IsSpoken epoch k (stage.PageReference m) t) _ a (record { plain = refl; told = nothing refl refl }) e
page_tells request info epoch h k (stage.PageSectors m gref) t o a p e = of_back (IsSpoken epoch k (stage.PageSectors m gref) t) _ a (record { plain = refl; told = nothing refl refl }) e
page_tells request info epoch h k (stage.UnmapPage m) t o a p e = of_back (IsSpoken epoch k (stage.UnmapPage m) t) _ a (record { plain = refl; told = nothing refl refl }) e
page_tells request info epoch h k s t o a p e = absurd p

-- the lines after a job's own
pub record After (config : Options) (before ys : List Line) : Type 0 where
  pub tale : Tale config (before ++ ys)
  pub quiet : disk_move_shown (before ++ ys) ≡ None
  pub epoch : this_epoch (before ++ ys) ≡ this_epoch before ++ ys

after_told : (config : Options) (before : List Line) (k id index : ℕ) (shown : Move) (told : List Line) → Tale config (before ++ lines.Move shown ∷ []) → ToldBy (this_epoch before) shown k id index told
    → IsSomeAnd (fetched_of (before ++ lines.Move shown ∷ []) k) (λ (f : Fetched). id_of f.request ≡ id) → After config before (lines.Move shown ∷ told)
after_told config before k id index shown told tale (nothing no_disk none) asked =
    subst (λ (ls : List Line). After config before (lines.Move shown ∷ ls)) (sym none)
    (record { tale = tale; quiet = shown_last before (lines.Move shown) ∙ no_disk; epoch = epoch_longer before (lines.Move shown) refl })
after_told config before k id index shown told tale (one line is l disk counted) asked =
    let longer : List Line = before ++ lines.Move shown ∷ [] in
    let epoch : this_epoch longer ≡ this_epoch before ++ lines.Move shown ∷ [] = epoch_longer before (lines.Move shown) refl in
    let moved : count_by (is_disk_of k) (this_epoch longer) ≡ index + 1 = ap (λ (ls : List Line). count_by (is_disk_of k) ls) epoch ∙ (moves_own k (this_epoch before) [] (lines.Move shown) disk refl ∙ ap (λ (n : ℕ). n + 1) counted) in
    let rule : IsRule longer line = record { step = l.step longer; moved = l.moved longer; effect = l.effect longer (shown_last before (lines.Move shown)) asked (sym moved) } in
    let more : Tale config (longer ++ line ∷ []) = tale_more config longer line tale l.same_epoch l.keeps (l.tells (info_of config)) rule in
    let joined : longer ++ line ∷ [] ≡ before ++ lines.Move shown ∷ line ∷ [] = append_assoc before (lines.Move shown ∷ []) (line ∷ []) in
    subst (λ (ls : List Line). After config before (lines.Move shown ∷ ls)) (sym is)
    (record {
      tale = subst (λ (ls : List Line). Tale config ls) joined more;
      quiet = ap disk_move_shown (sym joined) ∙ (shown_last longer line ∙ l.still);
      epoch = ap this_epoch (sym joined) ∙ (epoch_longer longer line l.same_epoch ∙ (ap (λ (ls : List Line). ls ++ line ∷ []) epoch ∙ append_assoc (this_epoch before) (lines.Move shown ∷ []) (line ∷ [])));
    })

pub other_number : (j k : ℕ) → j ≢ k → (k == j) ≡ false
other_number j k other = grind (arith, nat_tests)

-- no line of the group is of another job
told_aside : (epoch : List Line) (j k id index : ℕ) (shown : Move) (told : List Line) → is_of j (lines.Move shown) ≡ false → ToldBy epoch shown k id index told → IsAside j (lines.Move shown ∷ told)
told_aside epoch j k id index shown told aside (nothing no_disk none) = subst (λ (ls : List Line). IsAside j (lines.Move shown ∷ ls)) (sym none) (record { none = ap (λ (b : Bool). b || false) aside; calm = refl; silent = refl })
told_aside epoch j k id index shown told aside (one line is l disk counted) =
    subst (λ (ls : List Line). IsAside j (lines.Move shown ∷ ls)) (sym is)
    (record { none = ap (λ (b : Bool). b || (is_of j line || false)) aside ∙ ap (λ (o : Option ℕ). is_job j o || false) l.unstepped; calm = refl; silent = refl })

mover_aside : (work : List Task) (k j : ℕ) (epoch : List Line) (shown : Move) → j ≢ k → StepsBy work k epoch shown → is_of j (lines.Move shown) ≡ false
mover_aside work k j epoch shown other (takes own s) = ap (λ (o : Option ℕ). is_job j o) own ∙ other_number j k other
mover_aside work k j epoch shown other (rests none) = ap (λ (o : Option ℕ). is_job j o) none

own_line : (terms : Terms) (before : List Line) (values : List ℕ) (k : ℕ) (shown : Move) (work : List Task) → disk_move_shown before ≡ None → fetched_of before k ≡ Some (fetched_in terms values k) → work_tasks (request_at terms.abi values k) (back_info terms.config) false (values_read before k) ≡ work
    → is_plain (lines.Move shown) ≡ true → StepsBy work k (this_epoch before) shown → IsRule before (lines.Move shown)
own_line terms before values k shown work quiet asked tasks plain (takes own steps) = own_rule terms before values k shown work quiet asked tasks plain own steps
own_line terms before values k shown work quiet asked tasks plain (rests none) = bystander_rule before (lines.Move shown) quiet (record { plain = plain; unstepped = none })

done_waits : (h : Hypervisor) (k : ℕ) (s : JobStage) (t : Work) (o : Outcome) (a : BackAct) → back_act h (back.Job k) (ask_at s t) o ≡ Some a → IsDoneStage s → ⊥
done_waits h k (stage.Done status) t o a e done = none-some a e
done_waits h k s t o a e done = done

-- a job keeps its number, its id and its operation
pub record IsSame (old new : Work) : Type 0 where
  pub number : new.number ≡ old.number
  pub id : new.id ≡ old.id
  pub op : new.op ≡ old.op

either_same : (old : Work) (b : Bool) (x y : Work) → IsSame old x → IsSame old y → IsSame old (if b then x else y)
either_same old true x y p q = p
either_same old false x y p q = q

sector_same : (old t : Work) (m : Mapping) → IsSame old t → IsSame old (next_sector t m)
sector_same old t m s = either_same old (t.within == last_of t.rest) (record t { stage = stage.Unmap m }) (record t { within = t.within + 1; stage = sector_stage t.writes m }) (record { number = s.number; id = s.id; op = s.op }) (record { number = s.number; id = s.id; op = s.op })

segment_same : (t : Work) (rest : List Segment) → IsSame t (next_segment t rest)
segment_same t [] = record { number = refl; id = refl; op = refl }
segment_same t (s ∷ rest) = record { number = refl; id = refl; op = refl }

judged_same : (t : Work) → IsSame t (judged t)
judged_same t = either_same t (passes t) (record t { within = first_of t.rest; stage = stage.Map }) (record t { stage = stage.Done Error }) (record { number = refl; id = refl; op = refl }) (record { number = refl; id = refl; op = refl })

page_same : (t : Work) → IsSame t (page_done t)
page_same t = either_same t (length t.rest == t.named) (judged t) (record t { pages = drop 1 t.pages; stage = stage.MapPage }) (judged_same t) (record { number = refl; id = refl; op = refl })

pub step_same : (s : JobStage) (t : Work) (a : BackAnswer) → IsSame t (step_at s t a)
step_same stage.MapPage t (answers.MapRefused status) = record { number = refl; id = refl; op = refl }
step_same (stage.PageReference m) t (answers.Word word) = record { number = refl; id = refl; op = refl }
step_same (stage.PageSectors m gref) t (answers.Word word) = record { number = refl; id = refl; op = refl }
step_same (stage.UnmapPage m) t answers.Done = page_same t
step_same stage.Map t (answers.MapRefused status) = record { number = refl; id = refl; op = refl }
step_same (stage.ReadWord m k) t (answers.Word word) = record { number = refl; id = refl; op = refl }
step_same (stage.DiskWrite m) t answers.Done = sector_same t (counted t) m (record { number = refl; id = refl; op = refl })
step_same (stage.DiskRead m) t answers.DiskFailed = record { number = refl; id = refl; op = refl }
step_same (stage.WriteWord m k) t answers.Done = either_same t (k == 127) (next_sector t m) (record t { stage = stage.WriteWord m (k + 1) }) (sector_same t t m (record { number = refl; id = refl; op = refl })) (record { number = refl; id = refl; op = refl })
step_same (stage.Unmap m) t answers.Done = segment_same t (rest_of t.rest)
step_same (stage.Abort m) t answers.Done = record { number = refl; id = refl; op = refl }
step_same stage.Flush t answers.DiskFailed = record { number = refl; id = refl; op = refl }
step_same (stage.Trim count) t answers.DiskFailed = record { number = refl; id = refl; op = refl }
step_same s t a = record { number = refl; id = refl; op = refl }

-- a job under its number
pub record IsNumbered (terms : Terms) (values : List ℕ) (epoch : List Line) (t : Work) (k : ℕ) : Type 0 where
  pub work : List Task
  pub served : Status
  pub first : 1 ≤ k
  pub read : entry_words_of terms.abi * k ≤ length values
  pub id : id_of (request_at terms.abi values k) ≡ t.id
  pub plan : IsDue (request_at terms.abi values k) (back_info terms.config) (read_by k epoch) work served t.id t.op
  pub at : HasCome (request_at terms.abi values k) (back_info terms.config) served work k epoch t.stage t

-- it answers under the same id and operation
renamed : (request : RawRequest) (id id' op op' : ℕ) → id ≡ id' → op ≡ op' → ((status : Status) → work_response request status ≡ response_to id op status) → (status : Status) → work_response request status ≡ response_to id' op' status
renamed request id id' op op' p q names status = names status ∙ (ap (λ (n : ℕ). response_to n op status) p ∙ ap (λ (n : ℕ). response_to id' n status) q)

renumbered : (terms : Terms) (values : List ℕ) (epoch : List Line) (t : Work) (k : ℕ) → k ≡ t.number → IsNumbered terms values epoch t k → IsJobOf terms values epoch t
renumbered terms values epoch t k is n =
    let m : IsNumbered terms values epoch t t.number = subst (λ (j : ℕ). IsNumbered terms values epoch t j) is n in
    record { work = m.work; served = m.served; first = m.first; read = m.read; id = m.id; plan = m.plan; at = m.at }

-- the lines and the jobs after a move of a job
pub record Turned (terms : Terms) (before : List Line) (values : List ℕ) (fetched k : ℕ) (ys : List Line) (works : List Work) : Type 0 where
  pub after : After terms.config before ys
  pub jobs : AreJobs terms values (this_epoch before ++ ys) fetched works
  pub aside : (j : ℕ) → j ≢ k → IsAside j ys

pub found_turn : (terms : Terms) (before : List Line) (x : Sight) (fetched k : ℕ) (works : List Work) (h : Hypervisor) (o : Outcome) (a : BackAct) (place : ℕ) (t : Work) → slice_get works place ≡ Some t → t.number ≡ k
    → entry_values before ≡ x.values → AreFetched terms before → is_other (lines.Move a.shown) ≡ true → Tale terms.config before → disk_move_shown before ≡ None → AreJobs terms x.values (this_epoch before) fetched works
    → back_act h (back.Job k) (ask_at t.stage t) o ≡ Some a
    → Turned terms before x.values fetched k (lines.Move a.shown ∷ told_at t.stage t a.answer) (told_works works (Some place) (Some t) a.answer)
found_turn terms before x fetched k works h o a place t found is same_values are other tale quiet jobs e = subst (λ (n : ℕ). back_act h (back.Job n) (ask_at t.stage t) o ≡ Some a → Turned terms before x.values fetched n (lines.Move a.shown ∷ told_at t.stage t a.answer) (told_works works (Some place) (Some t) a.answer)) is go e
  where
    go : back_act h (back.Job t.number) (ask_at t.stage t) o ≡ Some a → Turned terms before x.values fetched t.number (lines.Move a.shown ∷ told_at t.stage t a.answer) (told_works works (Some place) (Some t) a.answer)
    go act =
        let j : IsJobOf terms x.values (this_epoch before) t = job_found terms x.values (this_epoch before) fetched works place t found jobs in
        by_come j j.at
      where
        ys : List Line
        ys = lines.Move a.shown ∷ told_at t.stage t a.answer

        now : List Line
        now = this_epoch before ++ lines.Move a.shown ∷ told_at t.stage t a.answer

        new : Work
        new = step_at t.stage t a.answer

        same : IsSame t (step_at t.stage t a.answer)
        same = step_same t.stage t a.answer

        request : RawRequest
        request = request_at terms.abi x.values t.number

        info : DiskInfo
        info = back_info terms.config

        names : (j : IsJobOf terms x.values (this_epoch before) t) → (status : Status) → work_response request status ≡ response_to new.id new.op status
        names j = let plan : IsDue request info (read_by t.number (this_epoch before)) j.work j.served t.id t.op = j.plan in renamed request t.id new.id t.op new.op (sym same.id) (sym same.op) plan.names

        -- the lines of the move obey the rules, and the job goes on so
        turned : (j : IsJobOf terms x.values (this_epoch before) t) → StepsBy j.work t.number (this_epoch before) a.shown → IsSpoken (this_epoch before) t.number t.stage t a → IsNumbered terms x.values now new t.number
            → Turned terms before x.values fetched t.number (lines.Move a.shown ∷ told_at t.stage t a.answer) (told_works works (Some place) (Some t) a.answer)
        turned j steps tells next =
            let plan : IsDue request info (read_by t.number (this_epoch before)) j.work j.served t.id t.op = j.plan in
            let asked : fetched_of before t.number ≡ Some (fetched_in terms x.values t.number) = fetched_is terms before x.values t.number same_values are j.first j.read in
            let rule : IsRule before (lines.Move a.shown) = own_line terms before x.values t.number a.shown j.work quiet asked plan.tasks tells.plain steps in
            let longer : Tale terms.config (before ++ lines.Move a.shown ∷ []) = tale_more terms.config before (lines.Move a.shown) tale refl (plain_keeps (lines.Move a.shown) tells.plain) (plain_tells (info_of terms.config) (lines.Move a.shown) tells.plain) rule in
            let asked_then : fetched_of (before ++ lines.Move a.shown ∷ []) t.number ≡ Some (fetched_in terms x.values t.number) = fetched_still before (lines.Move a.shown) t.number refl (untouched_value before (lines.Move a.shown) (other_touch (lines.Move a.shown) other)) ∙ asked in
            let aside : (n : ℕ) → n ≢ t.number → IsAside n (lines.Move a.shown ∷ told_at t.stage t a.answer) = λ n apart. told_aside (this_epoch before) n t.number t.id t.moved a.shown (told_at t.stage t a.answer) (mover_aside j.work t.number n (this_epoch before) a.shown apart steps) tells.told in
            let fresh : IsJobOf terms x.values now new = renumbered terms x.values now new t.number (sym same.number) next in
            record {
              after = after_told terms.config before t.number t.id t.moved a.shown (told_at t.stage t a.answer) longer tells.told (some_and _ asked_then j.id);
              jobs = jobs_told terms x.values (this_epoch before) (lines.Move a.shown ∷ told_at t.stage t a.answer) fetched works place t new found same.number aside fresh jobs;
              aside = aside;
            }

        -- what is settled stays so after words more
        later_than : (j : IsJobOf terms x.values (this_epoch before) t) → IsSettled request info (read_by t.number (this_epoch before)) j.work j.served → IsSettled request info (read_by t.number now) j.work j.served
        later_than j settled =
            let words : List ℕ = read_by t.number (this_epoch before) in
            let more : List ℕ = read_by t.number ys in
            subst (λ (vs : List ℕ). IsSettled request info vs j.work j.served) (sym (read_more t.number (this_epoch before) ys))
            (record {
              tasks = λ later. ap (λ (vs : List ℕ). work_tasks request info false vs) (append_assoc words more later) ∙ settled.tasks (more ++ later);
              verdict = λ later. ap (λ (vs : List ℕ). status_by (work_verdict request info vs)) (append_assoc words more later) ∙ settled.verdict (more ++ later);
            })

        by_come : (j : IsJobOf terms x.values (this_epoch before) t) → HasCome request info j.served j.work t.number (this_epoch before) t.stage t
            → Turned terms before x.values fetched t.number (lines.Move a.shown ∷ told_at t.stage t a.answer) (told_works works (Some place) (Some t) a.answer)
        by_come j (over status done ends) = absurd (done_waits h t.number t.stage t o a act (subst IsDoneStage (sym done) tt))
        by_come j (serves settled okay at) =
            let goes : JobGoes j.work t.number (this_epoch before) a.shown (told_at t.stage t a.answer) (step_at t.stage t a.answer) = job_goes j.work t.number (this_epoch before) h t.stage t o a at act in
            let tells : IsSpoken (this_epoch before) t.number t.stage t a = job_tells j.work (this_epoch before) h t.number t.stage t o a at act in
            let still : IsSettled request info (read_by t.number now) j.work j.served = later_than j settled in
            let none = append-nil (read_by t.number now) in
            turned j goes.steps tells (record {
              work = j.work;
              served = j.served;
              first = j.first;
              read = j.read;
              id = j.id ∙ sym same.id;
              plan = record {
                names = names j;
                tasks = ap (λ (vs : List ℕ). work_tasks request info false vs) (sym none) ∙ still.tasks [];
                verdict = ap (λ (vs : List ℕ). status_by (work_verdict request info vs)) (sym none) ∙ still.verdict [];
              };
              at = serves still okay goes.at;
            })
        by_come j (reads copying) =
            let plan : IsDue request info (read_by t.number (this_epoch before)) j.work j.served t.id t.op = j.plan in
            let g : Goes request info t.number (this_epoch before) t.stage t a = page_goes request info t.number (this_epoch before) h t.stage t o a copying act in
            let goes : PageGoes request info t.number (this_epoch before) t g.pages a.shown (told_at t.stage t a.answer) (step_at t.stage t a.answer) = g.goes in
            let tells : IsSpoken (this_epoch before) t.number t.stage t a = page_tells request info (this_epoch before) h t.number t.stage t o a copying act in
            let is : IsIndirect request info t g.pages = goes.is in
            let words : List ℕ = read_by t.number (this_epoch before) in
            let whole : pages_of t.named g.pages ++ after_pages is.plan t.named words info ≡ j.work = sym (indirect_work request info t g.pages words is) ∙ plan.tasks in
            let steps : StepsBy j.work t.number (this_epoch before) a.shown = subst (λ (w : List Task). StepsBy w t.number (this_epoch before) a.shown) whole (steps_more (pages_of t.named g.pages) (after_pages is.plan t.named words info) t.number (this_epoch before) a.shown goes.steps) in
            turned j steps tells (record {
              work = work_tasks request info false (read_by t.number now);
              served = status_by (work_verdict request info (read_by t.number now));
              first = j.first;
              read = j.read;
              id = j.id ∙ sym same.id;
              plan = record { names = names j; tasks = refl; verdict = refl };
              at = goes.comes (work_tasks request info false (read_by t.number now)) (status_by (work_verdict request info (read_by t.number now))) refl refl;
            })
