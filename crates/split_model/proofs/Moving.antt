-- What a move of a job, a submission and an overwritten word make happen, by what the calls say.
use Rattle.split_model.specs.Keys.{front_path}
use Rattle.std.proofs.Common.{◌≡◌, true, ℕ, ◌+◌, ◌<◌, ◌≤◌, ◌^◌, length, List, [], ◌∷◌, ◌++◌, Option, Some, None, Result, Ok, refl, ap, sym, ◌∙◌, subst, arith}
use Rattle.std.proofs.lemmas.List.{append-nil}
use Rattle.std.proofs.lemmas.Option.{none-some, same_Some}
use Rattle.blk_base.specs.declared.config.Submission.{Submission}
use Rattle.blk_base.specs.declared.ask.BackAnswer.{BackAnswer}
use Rattle.blk_base.specs.declared.ask.BackAsk.{BackAsk}
use Rattle.blk_base.specs.declared.ask.BackAsk.TheVariants as back_ask
use Rattle.blk_base.specs.declared.moves.BackMover.{BackMover}
use Rattle.blk_base.specs.declared.moves.BackMover.TheVariants.{Job as JobOf}
use Rattle.blk_base.specs.declared.moves.Move.{Move as Shown}
use Rattle.schedule_text.specs.declared.line.Line.{Line}
use Rattle.schedule_text.specs.declared.line.Line.TheVariants.{Move, Poke, Key, Epoch}
use Rattle.xen_pages.specs.Pages.{with_word}
use Rattle.blk_io.specs.Disk.{DiskSeen}
use Rattle.schedule_text.specs.declared.recorder.RecordStop.{RecordStop}
use Rattle.schedule_text.specs.Recorder.{RecorderSeen, Gained, Adds}
use Rattle.schedule_text.proofs.Adding.{gained_none}
use Rattle.grant_table.specs.Table.{GrantTable}
use Rattle.hypervisor.specs.Hypervisor.{Hypervisor}
use Rattle.hypervisor.specs.Act.{BackAct, Outcome, Took, back_act, back_seen, back_under, outcome_told, with_pages, key_set}
use Rattle.hypervisor.specs.Disk.{DiskDoes}
use Rattle.hypervisor.specs.May.{BackMay, BackTakesMemory}
use Rattle.blk_base.specs.declared.refusal.Refusal.{Refusal}
use Rattle.blk_front.specs.Submit.{submit_of}
use Rattle.blk_front.specs.View as front
use Rattle.blk_back.specs.declared.told.BackTold.{BackTold}
use Rattle.blk_back.specs.View as back
use Rattle.blk_back.specs.Ask as back_ends
use Rattle.blk_back.specs.Step as back_step
use Rattle.blk_back.specs.Hands.{hands_of, most_held}
use Rattle.back_jobs.specs.Work as task
use Rattle.back_jobs.specs.Hands.{Names}
use Rattle.back_jobs.specs.Sound.{StaysInPageAndDisk}
use Rattle.split_model.specs.World.{World, may_suspend, suspended}
use Rattle.split_model.specs.Shown.{back_lines}
use Rattle.split_model.specs.Happening.{Happening, JobMoves, Submits, Pokes, is_guest_word, submit_line, happens, lines_at, DiskGoes, job_after, job_shows, job_turn, OverwritesKey, is_guest_key, Suspends}
use Rattle.hypervisor.specs.Act.{IsGiven}
use Rattle.segment_list.specs.declared.verdict.DiskInfo.{DiskInfo}
use Rattle.split_model.specs.Leads.{moment, Goes, Is, IsJobMove}
use Rattle.split_model.specs.Safe.{IsSafe}
use Rattle.split_model.proofs.Keeping.{no_call}
use Rattle.split_model.proofs.Running.{goes_one}
use Rattle.split_model.proofs.Safe.{job_may}
use Rattle.split_model.proofs.SafeActs.{made_back}
use Rattle.split_model.proofs.Suspending.{suspended_info}
use Rattle.split_model.proofs.SafeAnswers.{IsBacks, backs_of, IsJobs, jobs_of, job_answered}

-- one thing happened to the machine, and its lines were given to the recorder
goes_here : (kind so_far : List Happening → Type 0) (n : ℕ) (h : Happening) (w v : World) (a b : DiskSeen) (r s : RecorderSeen) (result : Result (Unit {0}) RecordStop) → kind (h ∷ []) → so_far (h ∷ []) → v ≡ happens w h → v.under.grants.made ≤ w.under.grants.made + n → v.back.jobs.info.sectors ≡ w.back.jobs.info.sectors → DiskGoes w h a b → Adds (lines_at w h) result r s → Goes kind so_far n result (moment w a r) (moment v b s)
goes_here kind so_far n h w v a b r s result is far world made sectors disk told =
    goes_one kind so_far n h result (moment w a r) (moment v b s) is far world made sectors disk told

-- the act of the back or of a job that was seen
pub record BackDid (act : Option BackAct) (seen : BackAnswer × Shown) : Type 0 where
  pub act_done : BackAct
  pub is : act ≡ Some act_done
  pub told : seen.0 ≡ act_done.answer
  pub shown : seen.1 ≡ act_done.shown

back_did_at : (act : Option BackAct) (seen : BackAnswer × Shown) → Some seen ≡ back_seen act → BackDid act seen
back_did_at None seen e = absurd (none-some seen (sym e))
back_did_at (Some a) seen e =
    let same : seen ≡ (a.answer, a.shown) = same_Some seen (a.answer, a.shown) e in
    record { act_done = a; is = refl; told = ap (λ (s : BackAnswer × Shown). s.0) same; shown = ap (λ (s : BackAnswer × Shown). s.1) same }

back_nothing_at : (act : Option BackAct) → None ≡ back_seen act → act ≡ None
back_nothing_at None e = refl
back_nothing_at (Some a) e = absurd (none-some (a.answer, a.shown) e)

job_after_did : (w : World) (k : ℕ) (act : Option BackAct) (seen : BackAnswer × Shown) (b : back.View) (u : Hypervisor) → BackDid act seen → u ≡ back_under w.under act → b ≡ record (back_step.job_step w.back k seen.0) { told = None } → record { front = w.front; back = b; under = u } ≡ job_after w k act
job_after_did w k act seen b u did under stepped = rw (did.is, under, stepped) (rw (did.is, did.told) refl)

job_shows_did : (w : World) (k : ℕ) (act : Option BackAct) (seen : BackAnswer × Shown) (more : List Line) → BackDid act seen → more ≡ back_lines (let b : back.View = back_step.job_step w.back k seen.0 in b.told) seen.0 → Move seen.1 ∷ (more ++ []) ≡ job_shows w k act
job_shows_did w k act seen more did said = append-nil (Move seen.1 ∷ more) ∙ rw (did.is, said) (rw (did.told, did.shown) refl)

no_disk_at : (ask : BackAsk) (o : Outcome) (a b : DiskSeen) → IsBacks ask → DiskDoes ask o a b → (o ≡ Took) × (b ≡ a)
no_disk_at (back_ask.DiskRead sector) o a b own does = absurd own
no_disk_at (back_ask.DiskWrite sector words) o a b own does = absurd own
no_disk_at back_ask.Flush o a b own does = absurd own
no_disk_at (back_ask.Trim sector count) o a b own does = absurd own
no_disk_at ask o a b own does = no_call o a b does

-- the back itself asks nothing of the disk
pub no_disk : (v : back.View) (o : Outcome) (a b : DiskSeen) → DiskDoes (back_ends.ask_of v) o a b → (o ≡ Took) × (b ≡ a)
no_disk v o a b does = no_disk_at (back_ends.ask_of v) o a b (backs_of v) does

-- the answer of a job is one that its ask allows
pub job_told : (w : World) (k : ℕ) (seen : BackAnswer × Shown) → Some seen ≡ back_seen (job_turn w k (outcome_told seen.0)) → task.IsAnswer (back_step.job_ask_of w.back k) seen.0
job_told w k seen e =
    let did = back_did_at (job_turn w k (outcome_told seen.0)) seen e in
    subst (task.IsAnswer (back_step.job_ask_of w.back k)) (sym did.told) (job_answered w.under w.back k (outcome_told seen.0) did.act_done did.is)

-- the machine after it
pub job_moved : (w : World) (k : ℕ) (seen : BackAnswer × Shown) (b : back.View) (u : Hypervisor) → Some seen ≡ back_seen (job_turn w k (outcome_told seen.0)) → u ≡ back_under w.under (job_turn w k (outcome_told seen.0)) → b ≡ record (back_step.job_step w.back k seen.0) { told = None } → record { front = w.front; back = b; under = u } ≡ happens w (JobMoves k (outcome_told seen.0))
job_moved w k seen b u e under stepped = job_after_did w k (job_turn w k (outcome_told seen.0)) seen b u (back_did_at (job_turn w k (outcome_told seen.0)) seen e) under stepped

back_made_at : (w : World) (who : BackMover) (ask : BackAsk) (o : Outcome) (act : Option BackAct) → back_act w.under who ask o ≡ act → (back_under w.under act).grants.made ≤ w.under.grants.made + 1
back_made_at w who ask o None e = omega arith
back_made_at w who ask o (Some a) e = made_back w.under who ask o a e

-- a move maps at most once
pub back_made : (w : World) (who : BackMover) (ask : BackAsk) (o : Outcome) (u : Hypervisor) → u ≡ back_under w.under (back_act w.under who ask o) → u.grants.made ≤ w.under.grants.made + 1
back_made w who ask o u under = rw under (back_made_at w who ask o (back_act w.under who ask o) refl)

-- what happened, and its lines
pub job_goes : (w : World) (k : ℕ) (seen : BackAnswer × Shown) (b : back.View) (u : Hypervisor) (more : List Line) (c c' : DiskSeen) (r s : RecorderSeen) (result : Result (Unit {0}) RecordStop) → IsGiven (outcome_told seen.0) → Some seen ≡ back_seen (job_turn w k (outcome_told seen.0)) → u ≡ back_under w.under (job_turn w k (outcome_told seen.0)) → DiskDoes (back_step.job_ask_of w.back k) (outcome_told seen.0) c c' → b ≡ record (back_step.job_step w.back k seen.0) { told = None } → more ≡ back_lines (let g : back.View = back_step.job_step w.back k seen.0 in g.told) seen.0 → Adds (Move seen.1 ∷ (more ++ [])) result r s → Goes (IsJobMove k) (IsJobMove k) 1 result (moment w c r) (moment (record { front = w.front; back = b; under = u }) c' s)
job_goes w k seen b u more c c' r s result given e under does stepped said shown =
    let o = outcome_told seen.0 in
    goes_here (IsJobMove k) (IsJobMove k) 1 (JobMoves k o) w (record { front = w.front; back = b; under = u }) c c' r s result (o, refl, given) (o, refl, given)
    (job_moved w k seen b u e under stepped) (back_made w (JobOf k) (back_step.job_ask_of w.back k) o u under) (ap (λ (x : back.View). x.jobs.info.sectors) stepped) does
    (subst (λ (l : List Line). Adds l result r s) (job_shows_did w k (job_turn w k o) seen more (back_did_at (job_turn w k o) seen e) said) shown)

-- a move that makes no call of the disk and maps nothing
job_goes_still : (w : World) (k : ℕ) (seen : BackAnswer × Shown) (b : back.View) (u : Hypervisor) (more : List Line) (c : DiskSeen) (r s : RecorderSeen) (result : Result (Unit {0}) RecordStop) → IsGiven (outcome_told seen.0) → Some seen ≡ back_seen (job_turn w k (outcome_told seen.0)) → u ≡ back_under w.under (job_turn w k (outcome_told seen.0)) → DiskDoes (back_step.job_ask_of w.back k) (outcome_told seen.0) c c → u.grants ≡ w.under.grants → b ≡ record (back_step.job_step w.back k seen.0) { told = None } → more ≡ back_lines (let g : back.View = back_step.job_step w.back k seen.0 in g.told) seen.0 → Adds (Move seen.1 ∷ (more ++ [])) result r s → Goes (IsJobMove k) (IsJobMove k) 0 result (moment w c r) (moment (record { front = w.front; back = b; under = u }) c s)
job_goes_still w k seen b u more c r s result given e under does still stepped said shown =
    let gone = job_goes w k seen b u more c c r s result given e under does stepped said shown in
    let same : u.grants.made ≡ w.under.grants.made = ap (λ (g : GrantTable). g.made) still in
    record { ends = gone.ends; keeps = record { made = omega arith; sectors = gone.keeps.sectors; attachment = gone.keeps.attachment } }

job_rests_at : (w : World) (k : ℕ) (act : Option BackAct) (u : Hypervisor) → act ≡ None → u ≡ back_under w.under act → (record { front = w.front; back = w.back; under = u } ≡ job_after w k act) × (job_shows w k act ≡ [])
job_rests_at w k None u none under = (rw under refl, refl)
job_rests_at w k (Some a) u none under = absurd (none-some a (sym none))

-- the job has no move
pub job_rests : (w : World) (k : ℕ) (u : Hypervisor) (c c' : DiskSeen) (r : RecorderSeen) → None ≡ back_seen (job_turn w k Took) → u ≡ back_under w.under (job_turn w k Took) → DiskDoes (back_step.job_ask_of w.back k) Took c c' → Goes (IsJobMove k) (IsJobMove k) 1 (Ok tt) (moment w c r) (moment (record { front = w.front; back = w.back; under = u }) c' r)
job_rests w k u c c' r e under does =
    let rests = job_rests_at w k (job_turn w k Took) u (back_nothing_at (job_turn w k Took) e) under in
    goes_here (IsJobMove k) (IsJobMove k) 1 (JobMoves k Took) w (record { front = w.front; back = w.back; under = u }) c c' r r (Ok tt) (Took, refl, tt) (Took, refl, tt)
    rests.0 (back_made w (JobOf k) (back_step.job_ask_of w.back k) Took u under) refl does
    (subst (λ (l : List Line). Gained l r r) (sym rests.1) (gained_none r))

-- what a call says of what was asked before it, and told
pub back_asked : (h : Hypervisor) (who : BackMover) (ask asked : BackAsk) (seen : BackAnswer × Shown) → ask ≡ asked → Some seen ≡ back_seen (back_act h who ask (outcome_told seen.0)) → Some seen ≡ back_seen (back_act h who asked (outcome_told seen.0))
back_asked h who ask asked seen same e = subst (λ (x : BackAsk). Some seen ≡ back_seen (back_act h who x (outcome_told seen.0))) same e

pub back_unasked : (h : Hypervisor) (who : BackMover) (ask asked : BackAsk) → ask ≡ asked → None ≡ back_seen (back_act h who ask Took) → None ≡ back_seen (back_act h who asked Took)
back_unasked h who ask asked same e = subst (λ (x : BackAsk). None ≡ back_seen (back_act h who x Took)) same e

pub back_left : (h : Hypervisor) (who : BackMover) (ask asked : BackAsk) (o : Outcome) (u : Hypervisor) → ask ≡ asked → u ≡ back_under h (back_act h who ask o) → u ≡ back_under h (back_act h who asked o)
back_left h who ask asked o u same e = subst (λ (x : BackAsk). u ≡ back_under h (back_act h who x o)) same e

pub back_did_disk : (ask asked : BackAsk) (o : Outcome) (c c' : DiskSeen) → ask ≡ asked → DiskDoes ask o c c' → DiskDoes asked o c c'
back_did_disk ask asked o c c' same does = subst (λ (x : BackAsk). DiskDoes x o c c') same does

pub back_stepped : (x b y : back.View) → x ≡ y → b ≡ record x { told = None } → b ≡ record y { told = None }
back_stepped x b y stepped taken = taken ∙ ap (λ (z : back.View). record z { told = None }) stepped

pub back_said : (x y : back.View) (a : BackAnswer) (told : Option BackTold) (more : List Line) → x ≡ y → told ≡ x.told → more ≡ back_lines told a → more ≡ back_lines y.told a
back_said x y a told more stepped took said = said ∙ ap (λ (t : Option BackTold). back_lines t a) (took ∙ ap (λ (z : back.View). z.told) stepped)

-- a move of a job by what was asked of it, what its call told and did, and the lines that followed, where it makes no call of the disk and maps nothing
pub job_goes_as : (w : World) (k : ℕ) (ask : BackAsk) (seen : BackAnswer × Shown) (x b : back.View) (u : Hypervisor) (told : Option BackTold) (c : DiskSeen) (r s : RecorderSeen) (result : Result (Unit {0}) RecordStop) → ask ≡ back_step.job_ask_of w.back k → IsGiven (outcome_told seen.0) → Some seen ≡ back_seen (back_act w.under (JobOf k) ask (outcome_told seen.0)) → u ≡ back_under w.under (back_act w.under (JobOf k) ask (outcome_told seen.0)) → DiskDoes ask (outcome_told seen.0) c c → u.grants ≡ w.under.grants → x ≡ back_step.job_step w.back k seen.0 → told ≡ x.told → b ≡ record x { told = None } → Adds (Move seen.1 ∷ back_lines told seen.0) result r s → Goes (IsJobMove k) (IsJobMove k) 0 result (moment w c r) (moment (record { front = w.front; back = b; under = u }) c s)
job_goes_as w k ask seen x b u told c r s result asked given e under does still stepped took taken shown =
    let turn = back_step.job_ask_of w.back k in
    let after = back_step.job_step w.back k seen.0 in
    job_goes_still w k seen b u (back_lines told seen.0) c r s result given
    (back_asked w.under (JobOf k) ask turn seen asked e) (back_left w.under (JobOf k) ask turn (outcome_told seen.0) u asked under)
    (back_did_disk ask turn (outcome_told seen.0) c c asked does) still (back_stepped x b after stepped taken)
    (back_said x after seen.0 told (back_lines told seen.0) stepped took refl) (rw (append-nil (back_lines told seen.0)) shown)

-- what takes memory is asked by no job, so that no move of one lacks it
job_needs : (ask : BackAsk) → IsJobs ask → BackTakesMemory ask → ⊥
job_needs (back_ask.SetKey path text) own takes = own
job_needs (back_ask.Watch path) own takes = own
job_needs ask own takes = takes

pub job_needs_none : (w : World) (k : ℕ) (ask : BackAsk) → ask ≡ back_step.job_ask_of w.back k → BackTakesMemory ask → ⊥
job_needs_none w k ask same takes = job_needs (back_step.job_ask_of w.back k) (jobs_of w.back k) (subst BackTakesMemory same takes)

-- what was asked may be carried out
one_left : (w v : World) → w ≡ v → v.under.grants.made + 1 < 2 ^ 64 → w.under.grants.made + 1 < 2 ^ 64
one_left w v is left = subst (λ (x : World). x.under.grants.made + 1 < 2 ^ 64) (sym is) left

pub job_asked_may : (w v : World) (k : ℕ) (ask : BackAsk) (attached : Option ℕ) → w ≡ v → IsSafe w → ask ≡ back_step.job_ask_of w.back k → Names (hands_of w.back) ask → StaysInPageAndDisk w.back.jobs.info.sectors ask → length (hands_of w.back) ≤ most_held → attached ≡ Some v.back.jobs.info.sectors → v.under.grants.made + 1 < 2 ^ 64 → BackMay w.under attached ask
job_asked_may w v k ask attached is safe same names within few disk left =
    let known : attached ≡ Some w.back.jobs.info.sectors = disk ∙ sym (ap (λ (x : World). let b : back.View = x.back in Some b.jobs.info.sectors) is) in
    subst (BackMay w.under attached) (sym same)
    (job_may w.under attached w.back.jobs.info.sectors (hands_of w.back) w.back k safe.held (subst (Names (hands_of w.back)) same names) (subst (StaysInPageAndDisk w.back.jobs.info.sectors) same within) known (one_left w v is left) few)

-- a submission
pub submitted : (w : World) (job : Submission) (f : front.View) → f ≡ (submit_of w.front job).1 → record { front = f; back = w.back; under = w.under } ≡ happens w (Submits job)
submitted w job f stepped = ap (λ (v : front.View). record { front = v; back = w.back; under = w.under }) stepped

pub submit_goes : (w : World) (job : Submission) (f : front.View) (answer : Result ℕ Refusal) (line : Line) (c : DiskSeen) (r s : RecorderSeen) (result : Result (Unit {0}) RecordStop) → f ≡ (submit_of w.front job).1 → answer ≡ (submit_of w.front job).0 → line ≡ submit_line job answer → Adds (line ∷ []) result r s → Goes (Is (Submits job ∷ [])) (Is (Submits job ∷ [])) 0 result (moment w c r) (moment (record { front = f; back = w.back; under = w.under }) c s)
submit_goes w job f answer line c r s result stepped answered said shown =
    let same : line ≡ submit_line job (submit_of w.front job).0 = said ∙ ap (submit_line job) answered in
    goes_here (Is (Submits job ∷ [])) (Is (Submits job ∷ [])) 0 (Submits job) w (record { front = f; back = w.back; under = w.under }) c c r s result refl refl
    (submitted w job f stepped) (omega arith) refl refl
    (subst (λ (l : Line). Adds (l ∷ []) result r s) same shown)

-- a word of the guest's memory was overwritten, and that was said
poked : (w : World) (frame word value : ℕ) (u : Hypervisor) → is_guest_word frame word ≡ true → u ≡ with_pages w.under (with_word w.under.pages frame word value) → record { front = w.front; back = w.back; under = u } ≡ happens w (Pokes frame word value)
poked w frame word value u there wrote = rw (wrote, there) refl

pub poked_goes : (w : World) (frame word value : ℕ) (u : Hypervisor) (c : DiskSeen) (r s : RecorderSeen) (result : Result (Unit {0}) RecordStop) → is_guest_word frame word ≡ true → u ≡ with_pages w.under (with_word w.under.pages frame word value) → Adds (Poke frame word value ∷ []) result r s
    → Goes (Is (Pokes frame word value ∷ [])) (Is (Pokes frame word value ∷ [])) 0 result (moment w c r) (moment (record { front = w.front; back = w.back; under = u }) c s)
poked_goes w frame word value u c r s result there wrote shown =
    goes_here (Is (Pokes frame word value ∷ [])) (Is (Pokes frame word value ∷ [])) 0 (Pokes frame word value) w (record { front = w.front; back = w.back; under = u }) c c r s result refl refl
    (poked w frame word value u there wrote) (rw wrote (omega arith)) refl refl (rw there shown)

-- a key of the front was overwritten, and that was said
overwrote : (w : World) (name text : List ℕ) (u : Hypervisor) → is_guest_key name text ≡ true → u ≡ key_set w.under (front_path name) text → record { front = w.front; back = w.back; under = u } ≡ happens w (OverwritesKey name text)
overwrote w name text u allowed set = rw (set, allowed) refl

pub overwrote_goes : (w : World) (name text : List ℕ) (u : Hypervisor) (c : DiskSeen) (r s : RecorderSeen) (result : Result (Unit {0}) RecordStop) → is_guest_key name text ≡ true → u ≡ key_set w.under (front_path name) text → Adds (Key name text ∷ []) result r s
    → Goes (Is (OverwritesKey name text ∷ [])) (Is (OverwritesKey name text ∷ [])) 0 result (moment w c r) (moment (record { front = w.front; back = w.back; under = u }) c s)
overwrote_goes w name text u c r s result allowed set shown =
    goes_here (Is (OverwritesKey name text ∷ [])) (Is (OverwritesKey name text ∷ [])) 0 (OverwritesKey name text) w (record { front = w.front; back = w.back; under = u }) c c r s result refl refl
    (overwrote w name text u allowed set) (rw set (omega arith)) refl refl (rw allowed shown)

-- the domain was suspended, and that was said
pub suspended_goes : (w v : World) (c : DiskSeen) (r s : RecorderSeen) (result : Result (Unit {0}) RecordStop) → may_suspend w ≡ true → v ≡ suspended w → Adds (Epoch ∷ []) result r s
    → Goes (Is (Suspends ∷ [])) (Is (Suspends ∷ [])) 0 result (moment w c r) (moment v c s)
suspended_goes w v c r s result may is shown =
    goes_here (Is (Suspends ∷ [])) (Is (Suspends ∷ [])) 0 Suspends w v c c r s result refl refl
    (is ∙ rw may refl) (rw is (omega arith)) (ap (λ (x : World). let b : back.View = x.back in b.jobs.info.sectors) is ∙ ap (λ (i : DiskInfo). i.sectors) (suspended_info w)) refl (rw may shown)
