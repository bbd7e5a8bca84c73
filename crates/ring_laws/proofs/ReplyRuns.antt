-- Whatever happens from the start, the back replies only what a job is due, once.
use Rattle.std.proofs.Common.{◌≡◌, ℕ, ◌<◌, ◌≤◌, ◌^◌, ◌||◌, Bool, true, false, if◌then◌else◌, List, [], ◌∷◌, ◌++◌, length, refl, ap, sym, ◌∙◌, subst, append-nil}
use Rattle.std.specs.Prelude.{Option, Some, None, is_some}
use Rattle.std.specs.List.{list_any}
use Rattle.std.proofs.lemmas.Option.{none-some}
use Rattle.blk_base.specs.Options.{Options}
use Rattle.blk_base.specs.declared.ask.BackAsk.TheVariants as ask
use Rattle.blk_base.specs.declared.moves.BackMover.TheVariants as mover
use Rattle.schedule_text.specs.declared.line.Line.{Line}
use Rattle.schedule_text.specs.declared.line.Line.TheVariants as lines
use Rattle.schedule_text.specs.declared.line.Detail.{Detail}
use Rattle.hypervisor.specs.Act.{BackAct, Outcome, Took, back_act}
use Rattle.report_rules.specs.Standing.{is_epoch, this_epoch}
use Rattle.report_rules.specs.Reply.{answered_in, AreReplies}
use Rattle.back_jobs.specs.Jobs.{ask_job, asked, place_of, work_of, waits, work_at, told_at as told_works}
use Rattle.back_jobs.specs.Work.{Work, step_of}
use Rattle.ring_words.specs.Shape.{Shape}
use Rattle.blk_base.specs.declared.parts.End.TheVariants as end
use Rattle.blk_back.specs.Step.{may_attach, attached}
use Rattle.blk_back.specs.Ask.{ask_of}
use Rattle.blk_back.specs.View as back
use Rattle.blk_back.specs.Step as back_step
use Rattle.blk_back.specs.declared.stage.Reply.{Reply}
use Rattle.blk_back.specs.declared.stage.BackStage.TheVariants as stage
use Rattle.blk_back.specs.declared.stage.BackStage.{BackStage}
use Rattle.blk_base.specs.declared.halt.Halt.{Halt}
use Rattle.hypervisor.specs.Hypervisor.{Hypervisor}
use Rattle.split_model.specs.World.{World, start_of, suspended}
use Rattle.split_model.specs.Happening.{Happening, FrontMoves, BackMoves, JobMoves, BackAttaches, BackHalts, Suspends, layout_text, layout_read, happens, lines_at, after, back_after, back_shows, job_after, job_shows, front_turn, back_turn, job_turn}
use Rattle.split_model.specs.Shown.{halt_lines}
use Rattle.split_model.specs.Report.{report_of, ended_report_of}
use Rattle.split_model.proofs.Suspending.{suspend_cases, begun_back, gone_back, back_cases}
use Rattle.ring_laws.proofs.Epochs.{epoch_writes, epoch_unanswered}
use Rattle.split_model.proofs.Attaching.{SaysServed, attach_cases}
use Rattle.split_model.proofs.Shapes.{back_shape, attaches_waiting}
use Rattle.split_model.proofs.SafeAnswers.{backs_of, jobs_of}
use Rattle.back_jobs.specs.Jobs.{mapping_at}
use Rattle.ring_laws.proofs.BackReads.{reads_of}
use Rattle.ring_laws.proofs.Shows.{Sight}
use Rattle.ring_laws.proofs.Knows.{KnowsAt, Knows, Follows, unhalted}
use Rattle.ring_laws.proofs.Stages.{back_goes}
use Rattle.ring_laws.proofs.Sight.{other_epoch}
use Rattle.split_model.specs.Keys.{is_layout, layout_path}
use Rattle.ring_laws.proofs.Outsiders.{IsOutsider, AreOutsiders, front_outsiders, front_leaves, get_key, outsiders_other, outsiders_by, outsiders_pass, beside_outsiders}
use Rattle.ring_laws.proofs.Free.{IsFree, AreFree, job_free, job_running, free_told}
use Rattle.ring_laws.proofs.Lists.{all_second}
use Rattle.ring_laws.proofs.Works.{AreJobs, job_found}
use Rattle.ring_laws.proofs.Bystanders.{Tale, IsBystander, AreBystanders, Aside, plain_epoch, bystanders_go, bystanders_aside}
use Rattle.ring_laws.proofs.Fetched.{values_aside}
use Rattle.ring_laws.proofs.Stays.{IsOn, AreIdle, move_idle}
use Rattle.ring_laws.proofs.BackChange.{Changed, change_at, back_by, halt_by, told_by}
use Rattle.ring_laws.proofs.Tells.{Tells, terms_of, small_number}
use Rattle.ring_laws.proofs.Began.{Terms}
use Rattle.ring_laws.proofs.Runs.{earlier_pages, unread}
use Rattle.ring_laws.proofs.BackTells.{lines_of_back, told_none}
use Rattle.ring_laws.proofs.JobTells.{JobTells, job_tells, lines_of_job, low_number, found_number}
use Rattle.ring_laws.proofs.JobTurn.{After, IsSame, step_same}
use Rattle.ring_laws.proofs.After.{kept_after}
use Rattle.ring_laws.proofs.JobRuns.{Stand, same_values, halt_values, stand_start, stand_happens}
use Rattle.ring_laws.proofs.MakerTurns.{Made}
use Rattle.ring_laws.proofs.MakerRuns.{made_happens, made_start, hand_empty}
use Rattle.ring_laws.proofs.Due.{Answered, Writes, under_way, IsWorkOver, response_in, answered_then}
use Rattle.ring_laws.proofs.Over.{over_of_done, over_kept, small_op}
use Rattle.ring_laws.proofs.Owed.{IsOwed, Owes, owes_aside, owes_told, owes_anew, nothing_owed}
use Rattle.ring_laws.proofs.Replying.{pending, pending_at, IsReplyOf, IsOwing, Finds, OwesThen, owes_at}
use Rattle.ring_laws.proofs.NextReply.{next_has}
use Rattle.ring_laws.proofs.WrittenBack.{MoveWrites, halt_passes, back_writes}
use Rattle.ring_laws.proofs.Halting.{Stops, stops_cases}
use Rattle.ring_laws.proofs.Chosen.{IsChosen, new_chosen, chosen_aside, chosen_stage, chosen_goes}
use Rattle.ring_laws.proofs.Written.{AllPass, writes_all, writes_stage, start_writes, end_writes}
use Rattle.ring_laws.proofs.WrittenElse.{AreElse, other_writes, job_else}
use Rattle.ring_laws.proofs.EntryWords.{entry_values}

-- the replies that the lines so far tell, and the one under way
pub record Replies (config : Options) (before : List Line) (v : back.View) : Type 0 where
  pub answered : List Answered
  pub job : ℕ
  pub writes : Writes before v.stage answered
  pub owes : IsOwing (terms_of config v) (entry_values before) (this_epoch before) answered job v
  pub chosen : IsChosen before v.stage answered

same_owes : (terms : Terms) (values values' : List ℕ) (epoch epoch' : List Line) (fetched : ℕ) (works : List Work) (owed : List Answered) → values ≡ values' → epoch ≡ epoch' → Owes terms values epoch fetched works owed → Owes terms values' epoch' fetched works owed
same_owes terms values values' epoch epoch' fetched works owed p q o = subst (λ (ls : List Line). Owes terms values' ls fetched works owed) q (subst (λ (vs : List ℕ). Owes terms vs epoch fetched works owed) p o)

no_lines : (config : Options) (before : List Line) (v : back.View) → Replies config before v → Replies config (before ++ []) v
no_lines config before v r = subst (λ (ls : List Line). Replies config ls v) (sym (append-nil before)) r

bystanders_idle : (before ys : List Line) → AreBystanders ys → AreIdle before ys
bystanders_idle before ys all k words due = bystanders_aside k ys all

bystanders_on : (config : Options) (before ys : List Line) → AreBystanders ys → this_epoch (before ++ ys) ≡ this_epoch before ++ ys → IsOn before ys
bystanders_on config before ys all epoch = record { epoch = epoch; same = no_epoch ys all }
  where
    no_epoch : (ls : List Line) → AreBystanders ls → list_any is_epoch ls ≡ false
    no_epoch [] all = refl
    no_epoch (l ∷ ls) all = let b : IsBystander l = all.0 in ap (λ (c : Bool). c || list_any is_epoch ls) (plain_epoch l b.plain) ∙ no_epoch ls all.1

-- lines that write no word of a reply
others : (config : Options) (before ys : List Line) (v : back.View) → AllPass ys → AreBystanders ys → entry_values (before ++ ys) ≡ entry_values before → Tells config before v → Replies config before v → Replies config (before ++ ys) v
others config before ys v passed all same t r =
    let go : Aside config before ys = bystanders_go config ys before all t.tale t.quiet in
    record {
      answered = r.answered;
      job = r.job;
      writes = writes_all before ys v.stage r.answered passed r.writes;
      owes = λ runs. same_owes (terms_of config v) (entry_values before ++ []) (entry_values (before ++ ys)) (this_epoch before ++ ys) (this_epoch (before ++ ys)) v.fetched v.jobs.works _ (append-nil (entry_values before) ∙ sym same) (sym go.epoch)
          (owes_aside (terms_of config v) (entry_values before) [] (this_epoch before) ys v.fetched v.jobs.works _ (λ k. bystanders_aside k ys all) (r.owes runs));
      chosen = chosen_aside before ys v.stage r.answered passed (bystanders_on config before ys all go.epoch) (bystanders_idle before ys all) r.chosen;
    }

-- the job whose reply begins is over
done_owed : (config : Options) (before : List Line) (v : back.View) (r : Reply) (d : IsReplyOf v.jobs.works r) → is_some v.halted ≡ false → Tells config before v → Made before v → IsOwed (terms_of config v) (entry_values before) (this_epoch before) (let t : Work = d.job in pending t.number r)
done_owed config before v r d runs t made =
    let job : Work = d.job in
    let left = hand_empty before v made runs d.place d.job d.found (ap mapping_at d.stage) in
    subst (λ x. IsWorkOver (terms_of config v) (entry_values before) (this_epoch before) job.number x) (sym d.is)
    (over_of_done (terms_of config v) (entry_values before) (this_epoch before) d.job d.status (job_found (terms_of config v) (entry_values before) (this_epoch before) v.fetched v.jobs.works d.place d.job d.found (t.jobs runs)) d.stage left)

-- a job that is over stays so after lines of the back
over_then : (terms : Terms) (before ys : List Line) (more : List ℕ) (x : Answered) → AreBystanders ys → entry_values before ++ more ≡ entry_values (before ++ ys) → this_epoch (before ++ ys) ≡ this_epoch before ++ ys → IsOwed terms (entry_values before) (this_epoch before) x → IsOwed terms (entry_values (before ++ ys)) (this_epoch (before ++ ys)) x
over_then terms before ys more x all grown epoch over =
    subst (λ (ls : List Line). IsOwed terms (entry_values (before ++ ys)) ls x) (sym epoch)
    (subst (λ (vs : List ℕ). IsOwed terms vs (this_epoch before ++ ys) x) grown (over_kept terms (entry_values before) more (this_epoch before) ys x.job x.response (bystanders_aside x.job ys all) over))

finds_of : (config : Options) (before ys : List Line) (more : List ℕ) (v new : back.View) (x : Sight) → new.shape ≡ v.shape → Knows x v → AreBystanders ys → entry_values before ++ more ≡ entry_values (before ++ ys) → this_epoch (before ++ ys) ≡ this_epoch before ++ ys → is_some v.halted ≡ false → Tells config before v → Tells config (before ++ ys) new → Made before v
    → Finds (terms_of config v) (entry_values (before ++ ys)) (this_epoch (before ++ ys)) v new
finds_of config before ys more v new x shape knows all grown epoch runs t past made = record {
  small = small_number v.stage v x knows runs;
  low = let jobs : AreJobs (terms_of config v) (entry_values before) (this_epoch before) v.fetched v.jobs.works = t.jobs runs in jobs.low;
  later = λ going. subst (λ (s : Shape). AreJobs (record { config = config; abi = s.abi }) (entry_values (before ++ ys)) (this_epoch (before ++ ys)) new.fetched new.jobs.works) shape (past.jobs going);
  done = λ r d. over_then (terms_of config v) before ys more (let t : Work = d.job in pending t.number r) all grown epoch (done_owed config before v r d runs t made);
  lower = λ r d. low_number (terms_of config v) (entry_values before) (this_epoch before) v.fetched v.jobs.works d.place d.job d.found (t.jobs runs);
}

-- the operation of the reply whose producer is written
producer_op : (terms : Terms) (values : List ℕ) (epoch : List Line) (answered : List Answered) (k : ℕ) (s : BackStage) (v : back.View) (x : Sight) → KnowsAt s x v → (v.halted ≡ None → Owes terms values epoch v.fetched v.jobs.works (answered ++ pending_at s k)) → (r : Reply) → s ≡ stage.Producer r → r.op < 2 ^ 8
producer_op terms values epoch answered k (stage.Producer p) v x knows owes r e =
    let o : Owes terms values epoch v.fetched v.jobs.works (answered ++ pending k p ∷ []) = owes knows.running in
    let last : IsOwed terms values epoch (pending k p) = (all_second (IsOwed terms values epoch) answered (pending k p ∷ []) o.each).0 in
    let small : p.op < 2 ^ 8 = small_op terms values epoch k (response_in p) last in
    subst (λ (q : Reply). q.op < 2 ^ 8) (same_reply p r e) small
  where
    same_reply : (p q : Reply) → stage.Producer p ≡ stage.Producer q → p ≡ q
    same_reply p q e = cc
producer_op terms values epoch answered k s v x knows owes r e = absurd (cc)

runs_on : {X : Type 0} {o : Option X} → o ≡ None → is_some o ≡ false
runs_on none = ap is_some none

back_replies : (config : Options) (w : World) (before : List Line) (o : Outcome) (act : Option BackAct) → back_turn w o ≡ act → Stand config before w → Stand config (before ++ back_shows w act) (back_after w act) → Made before w.back → Replies config before w.back → (let n : World = back_after w act in Replies config (before ++ back_shows w act) n.back)
back_replies config w before o None e s stand made r = no_lines config before w.back r
back_replies config w before o (Some a) e s stand made r =
    let v : back.View = w.back in
    let new : back.View = back_step.step_of w.back a.answer in
    let terms : Terms = terms_of config w.back in
    let f : Follows config.start [] before w.back = s.ring.follows in
    let t : Tells config before w.back = s.tells in
    let past : Tells config (before ++ lines_of_back w.back a) (record new { told = None }) = stand.tells in
    let gone : Follows f.sight.start f.sight.values (before ++ lines_of_back w.back a) (back_step.step_of w.back a.answer) = back_goes before w.under v.stage w.back o a f.sight (earlier_pages w s.safe) f.knows f.knows f.shows f.stands s.ring.told e in
    let c : Changed (length f.sight.values) w.back (back_step.step_of w.back a.answer) = change_at v.stage w.back f.sight a.answer f.knows (told_none v.told s.ring.told) in
    let all : AreBystanders (lines_of_back w.back a) = (back_by w.under (ask_of w.back) o a (backs_of w.back) e, told_by new.told a.answer v.halted new.halted c.tells) in
    let go : Aside config before (lines_of_back w.back a) = bystanders_go config (lines_of_back w.back a) before all t.tale t.quiet in
    let grown : entry_values before ++ gone.more ≡ entry_values (before ++ lines_of_back w.back a) = ap (λ (vs : List ℕ). vs ++ gone.more) f.shows.values ∙ (sym gone.grown ∙ sym gone.shows.values) in
    let finds = λ (runs : is_some v.halted ≡ false). finds_of config before (lines_of_back w.back a) gone.more w.back (back_step.step_of w.back a.answer) f.sight (back_shape w.back a.answer) f.knows all grown go.epoch runs t (record { tale = past.tale; quiet = past.quiet; info = past.info; room = past.room; jobs = past.jobs; unseen = past.unseen }) made in
    let owes = λ (runs : is_some v.halted ≡ false). same_owes terms (entry_values before ++ gone.more) (entry_values (before ++ lines_of_back w.back a)) (this_epoch before ++ lines_of_back w.back a) (this_epoch (before ++ lines_of_back w.back a)) v.fetched v.jobs.works (r.answered ++ pending_at v.stage r.job) grown (sym go.epoch)
    (owes_aside terms (entry_values before) gone.more (this_epoch before) (lines_of_back w.back a) v.fetched v.jobs.works _ (λ k. bystanders_aside k (lines_of_back w.back a) all) (r.owes runs)) in
    let next : OwesThen terms (entry_values (before ++ lines_of_back w.back a)) (this_epoch (before ++ lines_of_back w.back a)) (answered_then v.stage r.answered r.job v.ring.indices.prod) (back_step.step_of w.back a.answer) = owes_at terms (entry_values (before ++ lines_of_back w.back a)) (this_epoch (before ++ lines_of_back w.back a)) r.answered r.job v.stage w.back f.sight a.answer refl f.knows finds owes in
    let held = λ (none : v.halted ≡ None). same_owes terms (entry_values before) f.sight.values (this_epoch before) (this_epoch before) v.fetched v.jobs.works (r.answered ++ pending_at v.stage r.job) f.shows.values refl (r.owes (runs_on none)) in
    let done = λ (none : v.halted ≡ None) (q : Reply) (d : IsReplyOf v.jobs.works q). subst (λ (vs : List ℕ). IsOwed terms vs (this_epoch before) (let u : Work = d.job in pending u.number q)) f.shows.values (done_owed config before w.back q d (runs_on none) t made) in
    let goes : MoveWrites before (answered_then v.stage r.answered r.job v.ring.indices.prod) v.stage w.back a.answer a.shown (back_step.step_of w.back a.answer) =
    back_writes before w.under w.back o a f.sight r.answered r.job f.knows f.shows s.ring.told r.writes (next_has terms before f.sight v.stage w.back r.answered r.job f.knows f.shows.values s.fetched r.chosen done held) (producer_op terms f.sight.values (this_epoch before) r.answered r.job v.stage w.back f.sight f.knows held) e in
    record {
      answered = answered_then v.stage r.answered r.job v.ring.indices.prod;
      job = next.job;
      writes = goes.writes;
      owes = subst (λ (s : Shape). IsOwing (record { config = config; abi = s.abi }) (entry_values (before ++ lines_of_back w.back a)) (this_epoch (before ++ lines_of_back w.back a)) (answered_then v.stage r.answered r.job v.ring.indices.prod) next.job (back_step.step_of w.back a.answer)) (sym (back_shape w.back a.answer)) next.owes;
      chosen = chosen_goes before (lines_of_back w.back a) v.stage new.stage r.answered r.job v.ring.indices.prod goes.row (bystanders_on config before (lines_of_back w.back a) all go.epoch) (bystanders_idle before (lines_of_back w.back a) all) r.chosen;
    }

-- a job moved: those that were answered are others
moved_owes : (config : Options) (before : List Line) (h : Hypervisor) (v : back.View) (k : ℕ) (o : Outcome) (a : BackAct) (place : Option ℕ) (waits : Bool) (found : Option Work) (owed : List Answered) → place_of v.jobs.works k ≡ place → work_at v.jobs.works place ≡ found → back_act h (mover.Job k) (asked waits found) o ≡ Some a
    → entry_values (before ++ lines_of_job found a) ≡ entry_values before → JobTells config before (lines_of_job found a) v k (told_works v.jobs.works place found a.answer) → Owes (terms_of config v) (entry_values before) (this_epoch before) v.fetched v.jobs.works owed
    → Owes (terms_of config v) (entry_values (before ++ lines_of_job found a)) (this_epoch (before ++ lines_of_job found a)) v.fetched (told_works v.jobs.works place found a.answer) owed
moved_owes config before h v k o a place waits None owed at is e same told owes = absurd (none-some a e)
moved_owes config before h v k o a place true (Some t) owed at is e same told owes = absurd (none-some a e)
moved_owes config before h v k o a None false (Some t) owed at is e same told owes = absurd (none-some t is)
moved_owes config before h v k o a (Some place) false (Some t) owed at is e same told owes =
    let past : After config before (lines_of_job (Some t) a) = told.after in
    let number : t.number ≡ k = found_number v.jobs.works k place t at is in
    let kept : IsSame t (step_of t a.answer) = step_same t.stage t a.answer in
    same_owes (terms_of config v) (entry_values before) (entry_values (before ++ lines_of_job (Some t) a)) (this_epoch before ++ lines_of_job (Some t) a) (this_epoch (before ++ lines_of_job (Some t) a)) v.fetched _ owed (sym same) (sym past.epoch)
    (owes_told (terms_of config v) (entry_values before) (this_epoch before) (lines_of_job (Some t) a) v.fetched v.jobs.works owed place t (step_of t a.answer) is kept.number (λ n other. told.aside n (λ same_k. other (same_k ∙ sym number))) owes)

free_epochs : (over : Bool) (ys : List Line) → AreFree over ys → list_any is_epoch ys ≡ false
free_epochs over [] free = refl
free_epochs over (y ∷ ys) free = let f : IsFree over y = free.0 in ap (λ (c : Bool). c || list_any is_epoch ys) (other_epoch y f.other) ∙ free_epochs over ys free.1

job_replies : (config : Options) (w : World) (before : List Line) (k : ℕ) (o : Outcome) (act : Option BackAct) → job_turn w k o ≡ act → Stand config before w → Replies config before w.back → (let n : World = job_after w k act in Replies config (before ++ job_shows w k act) n.back)
job_replies config w before k o None e s r = no_lines config before w.back r
job_replies config w before k o (Some a) e s r =
    let v : back.View = w.back in
    let f : Follows config.start [] before w.back = s.ring.follows in
    let running : is_some v.halted ≡ false = job_running (is_some w.back.halted) w.under k (ask_job w.back.jobs k) o a e in
    let asks = ap (λ (b : Bool). back_act w.under (mover.Job k) (if b then ask.Wait else ask_job w.back.jobs k) o) (sym running) ∙ e in
    let free : AreFree (is_some w.back.halted) (job_shows w k (Some a)) = (job_free (is_some w.back.halted) w.under k (back_step.job_ask_of w.back k) o a running (jobs_of w.back k) e, free_told (is_some w.back.halted) _ a.answer running) in
    let told : JobTells config before (job_shows w k (Some a)) w.back k _ = job_tells config config.start before w.under w.back k o a (place_of w.back.jobs.works k) (waits w.back.jobs.works k) (work_of w.back.jobs.works k) refl refl running f s.fetched free s.tells asks in
    let same : entry_values (before ++ job_shows w k (Some a)) ≡ entry_values before = same_values (is_some w.back.halted) before (job_shows w k (Some a)) f.sight free f.shows in
    let elses : AreElse (job_shows w k (Some a)) = job_else w.under k (back_step.job_ask_of w.back k) o a _ (jobs_of w.back k) e in
    let past : After config before (job_shows w k (Some a)) = told.after in
    let after_tale : Tale config (before ++ job_shows w k (Some a)) = past.tale in
    record {
      answered = r.answered;
      job = r.job;
      writes = other_writes before (job_shows w k (Some a)) v.stage r.answered elses r.writes;
      owes = λ runs. moved_owes config before w.under w.back k o a (place_of w.back.jobs.works k) (waits w.back.jobs.works k) (work_of w.back.jobs.works k) (r.answered ++ pending_at v.stage r.job) refl refl asks same told (r.owes running);
      chosen = chosen_aside before (job_shows w k (Some a)) v.stage r.answered elses (record { epoch = past.epoch; same = free_epochs (is_some w.back.halted) (job_shows w k (Some a)) free }) (move_idle before a.shown _ a.answer after_tale.obeys) r.chosen;
    }

-- lines between all others
outside_replies : (config : Options) (w : World) (before ys : List Line) → AreOutsiders w.back.stage ys → Stand config before w → Replies config before w.back → Replies config (before ++ ys) w.back
outside_replies config w before ys all s r =
    others config before ys w.back (outsiders_pass w.back.stage ys all) (outsiders_by w.back.stage ys all) (values_aside ys before (outsiders_other w.back.stage ys all)) s.tells r

-- a back that halts writes no reply
halted_replies : (config : Options) (w : World) (before : List Line) (why : Halt) → Stand config before w → Replies config before w.back → (let n : World = happens w (BackHalts why) in Replies config (before ++ lines_at w (BackHalts why)) n.back)
halted_replies config w before why s r = stops_cases (λ (new : back.View). Replies config (before ++ halt_lines w.back.halted new.halted) new) why w.back f.sight f.knows stops none
  where
    f : Follows config.start [] before w.back
    f = s.ring.follows

    none : Replies config (before ++ halt_lines w.back.halted w.back.halted) w.back
    none = subst (λ (ls : List Line). Replies config (before ++ ls) w.back) (sym (unhalted w.back.halted)) (no_lines config before w.back r)

    stops : (new : back.View) → Stops f.sight why w.back new → Replies config (before ++ halt_lines w.back.halted new.halted) new
    stops new p =
        let ls : List Line = halt_lines w.back.halted new.halted in
        let over : is_some new.halted ≡ true = p.over in
        let told : Replies config (before ++ halt_lines w.back.halted new.halted) w.back = others config before (halt_lines w.back.halted new.halted) w.back (halt_passes w.back.halted new.halted) (halt_by w.back.halted new.halted) (halt_values before w.back.halted new.halted) s.tells r in
        record {
          answered = told.answered;
          job = told.job;
          writes = writes_stage (before ++ ls) w.back.stage new.stage told.answered (p.still ∙ sym p.ceased) told.writes;
          owes = λ runs. absurd (cc);
          chosen = chosen_stage (before ++ ls) w.back.stage new.stage told.answered p.ceased told.chosen;
        }

-- a back that waits may read the key that names the layout
layout_outsider : (w : World) → w.back.stage ≡ stage.InitWait → IsOutsider w.back.stage (lines.Move (layout_read w))
layout_outsider w waits = subst (λ (s : BackStage). IsOutsider s (lines.Move (layout_read w))) (sym waits) (get_key stage.InitWait end.Back layout_path (layout_text w) (λ own. absurd (cc)) (λ led. absurd (cc)))

-- a back that takes terms has answered no job
attached_replies : (config : Options) (w : World) (before : List Line) (shape : Shape) (grefs : List ℕ) (port : ℕ) → Stand config before w → Replies config before w.back
    → (let n : World = happens w (BackAttaches shape grefs port) in Replies config (before ++ lines_at w (BackAttaches shape grefs port)) n.back)
attached_replies config w before shape grefs port s r = attach_cases (λ (new : back.View) (shown : List Line). Replies config (before ++ shown) new) w shape grefs port takes (no_lines config before w.back r)
  where
    takes : may_attach shape grefs w.back ≡ true → is_layout shape.abi (layout_text w) ≡ true → SaysServed w → Replies config (before ++ lines.Move (layout_read w) ∷ []) (attached shape grefs port w.back)
    takes may layout says =
        let waits : w.back.stage ≡ stage.InitWait = attaches_waiting shape grefs w.back may in
        let same = values_aside (lines.Move (layout_read w) ∷ []) before (refl, tt) in
        let told : Replies config (before ++ lines.Move (layout_read w) ∷ []) w.back = outside_replies config w before (lines.Move (layout_read w) ∷ []) (layout_outsider w waits, tt) s r in
        record {
          answered = told.answered;
          job = told.job;
          writes = writes_stage _ w.back.stage stage.MapRing told.answered (ap under_way waits) told.writes;
          owes = λ runs. owes_anew (terms_of config w.back) _ _ _ w.back.fetched w.back.jobs.works (told.answered ++ []) (same ∙ unread config.start w before shape grefs s.ring may)
              (subst (λ (q : BackStage). Owes (terms_of config w.back) (entry_values (before ++ lines.Move (layout_read w) ∷ [])) (this_epoch (before ++ lines.Move (layout_read w) ∷ [])) w.back.fetched w.back.jobs.works (told.answered ++ pending_at q told.job)) waits (told.owes runs));
          chosen = chosen_stage _ w.back.stage stage.MapRing told.answered refl told.chosen;
        }

-- a back that begins has answered none
new_replies : (config : Options) (before : List Line) (v : back.View) → Writes before v.stage [] → under_way v.stage ≡ [] → pending_at v.stage 0 ≡ [] → answered_in before ≡ [] → v.jobs.works ≡ [] → Replies config before v
new_replies config before v writes none nothing unanswered empty = record {
  answered = [];
  job = 0;
  writes = writes;
  owes = λ runs. rw (nothing, empty) (nothing_owed (terms_of config v) (entry_values before) (this_epoch before) v.fetched);
  chosen = new_chosen before v.stage none unanswered;
}

suspended_replies : (config : Options) (w : World) (before : List Line) → Replies config before w.back → (let v : World = suspended w in Replies config (before ++ lines.Epoch ∷ []) v.back)
suspended_replies config w before r =
    let unanswered = epoch_unanswered before in
    back_cases (λ (b : back.View). Replies config (before ++ lines.Epoch ∷ []) b) w
    (new_replies config (before ++ lines.Epoch ∷ []) (begun_back w) (epoch_writes before w.back.stage stage.InitWait r.answered refl r.writes) refl refl unanswered refl)
    (new_replies config (before ++ lines.Epoch ∷ []) (gone_back w) (epoch_writes before w.back.stage stage.Halted r.answered refl r.writes) refl refl unanswered refl)

replies_happen : (config : Options) (w : World) (h : Happening) (before : List Line) → Stand config before w → Stand config (before ++ lines_at w h) (happens w h) → Made before w.back → Replies config before w.back → (let n : World = happens w h in Replies config (before ++ lines_at w h) n.back)
replies_happen config w FrontMoves before s t made r =
    front_leaves (Replies config (before ++ lines_at w FrontMoves)) w (front_turn w) (outside_replies config w before (lines_at w FrontMoves) (front_outsiders w.back.stage w (front_turn w) refl) s r)
replies_happen config w BackMoves before s t made r = back_replies config w before Took (back_turn w Took) refl s t made r
replies_happen config w (JobMoves number outcome) before s t made r = job_replies config w before number outcome (job_turn w number outcome) refl s r
replies_happen config w (BackAttaches shape grefs port) before s t made r = attached_replies config w before shape grefs port s r
replies_happen config w (BackHalts why) before s t made r = halted_replies config w before why s r
replies_happen config w Suspends before s t made r = suspend_cases (λ (v : World) (shown : List Line). Replies config (before ++ shown) v.back) w (λ may. suspended_replies config w before r) (no_lines config before w.back r)
replies_happen config w h before s t made r = outside_replies config w before (lines_at w h) (beside_outsiders w h tt) s r

-- all that the lines so far tell
record All (config : Options) (before : List Line) (w : World) : Type 0 where
  stand : Stand config before w
  made : Made before w.back
  replies : Replies config before w.back

all_happens : (config : Options) (w : World) (h : Happening) (before : List Line) → All config before w → reads_of (before ++ lines_at w h) < 2 ^ 64 → All config (before ++ lines_at w h) (happens w h)
all_happens config w h before all few =
    let t : Stand config (before ++ lines_at w h) (happens w h) = stand_happens config w h before all.stand few in
    record { stand = t; made = made_happens config w h before all.stand t all.made; replies = replies_happen config w h before all.stand t all.made all.replies }

start_replies : (config : Options) (detail : Detail) → (let w : World = start_of config in Replies config (lines.Begin config detail ∷ []) w.back)
start_replies config detail = new_replies config (lines.Begin config detail ∷ []) (back.start_of config) (start_writes config detail) refl refl refl refl

report_all : (config : Options) (detail : Detail) (history : List Happening) → config.indirect ≤ 960 → reads_of (report_of config detail history) < 2 ^ 64 → All config (report_of config detail history) (after history (start_of config))
report_all config detail history room few = kept_after (All config) (all_happens config) history (start_of config) (lines.Begin config detail ∷ []) (record { stand = stand_start config detail room; made = made_start config detail; replies = start_replies config detail }) few

pub report_replies : (config : Options) (detail : Detail) (history : List Happening) → config.indirect ≤ 960 → reads_of (report_of config detail history) < 2 ^ 64 → AreReplies (report_of config detail history)
report_replies config detail history room few =
    let all : All config (report_of config detail history) (after history (start_of config)) = report_all config detail history room few in
    let replies : Replies config (report_of config detail history) (let w : World = after history (start_of config) in w.back) = all.replies in
    let writes = replies.writes in
    writes.obeys

pub ended_replies : (config : Options) (detail : Detail) (history : List Happening) → config.indirect ≤ 960 → reads_of (report_of config detail history) < 2 ^ 64 → AreReplies (ended_report_of config detail history)
ended_replies config detail history room few =
    let all : All config (report_of config detail history) (after history (start_of config)) = report_all config detail history room few in
    let replies : Replies config (report_of config detail history) (let w : World = after history (start_of config) in w.back) = all.replies in
    end_writes (report_of config detail history) _ replies.answered replies.writes
