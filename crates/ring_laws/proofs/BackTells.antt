-- A move of the back keeps what the lines tell of its jobs: one that begins has the entry that was read last.
use Rattle.std.proofs.Common.{◌≡◌, ℕ, ◌+◌, ◌-◌, ◌*◌, ◌%◌, ◌^◌, ◌≤◌, ◌<◌, ◌==◌, Bool, true, false, if◌then◌else◌, List, [], ◌∷◌, ◌++◌, length, take, drop, refl, ap, sym, ◌∙◌, subst, length-append, arith}
use Rattle.std.specs.Prelude.{Option, Some, None, is_some, position, not, nat_le}
use Rattle.std.specs.List.{list_any}
use Rattle.blk_base.specs.Options.{Options}
use Rattle.blk_base.specs.declared.operation.Abi.{Abi}
use Rattle.blk_base.specs.declared.operation.Abi.TheVariants.{X64, X32}
use Rattle.ring_words.specs.Shape.{Shape, entry_words_of}
use Rattle.blk_base.specs.declared.operation.Status.TheVariants.{Error}
use Rattle.blk_base.specs.declared.moves.BackMover.TheVariants as mover
use Rattle.hypervisor.specs.Hypervisor.{Hypervisor}
use Rattle.hypervisor.specs.Act.{BackAct, Outcome, back_act}
use Rattle.schedule_text.specs.declared.line.Line.{Line}
use Rattle.schedule_text.specs.declared.line.Line.TheVariants as lines
use Rattle.blk_layout.specs.Entry.{request_of}
use Rattle.blk_layout.specs.declared.request.RawRequest.{RawRequest}
use Rattle.blk_layout.specs.declared.request.RawRequest.TheVariants.{Direct, Discard, Indirect}
use Rattle.segment_list.specs.declared.verdict.DiskInfo.{DiskInfo}
use Rattle.segment_list.specs.declared.verdict.Verdict.{Verdict}
use Rattle.segment_list.specs.declared.verdict.Verdict.TheVariants as verdict
use Rattle.segment_list.specs.Verdict.{verdict_of}
use Rattle.report_rules.specs.Standing.{this_epoch}
use Rattle.back_jobs.specs.declared.stage.JobStage.TheVariants as job_stage
use Rattle.back_jobs.specs.Work.{Work, begun, moving, paging, ended, frameless}
use Rattle.back_jobs.specs.Jobs.{is_done}
use Rattle.blk_back.specs.declared.told.BackTold.{BackTold}
use Rattle.blk_base.specs.declared.halt.Halt.{Halt}
use Rattle.blk_back.specs.declared.stage.BackStage.{BackStage}
use Rattle.blk_back.specs.View.{View, info_of as back_info}
use Rattle.blk_back.specs.Ask.{ask_of}
use Rattle.blk_back.specs.Step.{next_number, step_of}
use Rattle.split_model.specs.Shown.{back_lines, halt_lines}
use Rattle.split_model.proofs.Shapes.{back_shape}
use Rattle.split_model.proofs.SafeAnswers.{backs_of}
use Rattle.ring_laws.proofs.BackReads.{reads_of, values_few}
use Rattle.ring_laws.proofs.Shows.{Sight}
use Rattle.ring_laws.proofs.Knows.{Serves, KnowsAt, Knows, Follows}
use Rattle.ring_laws.proofs.Pages.{AreEarlier}
use Rattle.ring_laws.proofs.Stages.{back_goes}
use Rattle.ring_laws.proofs.JobLines.{is_of}
use Rattle.ring_laws.proofs.Began.{Terms, IsJobOf, IsFresh, request_at, entry_begins, begun_job}
use Rattle.ring_laws.proofs.Works.{AreJobs, jobs_kept, jobs_removed, jobs_added}
use Rattle.ring_laws.proofs.Bystanders.{AreBystanders, Aside, bystanders_go, bystanders_aside}
use Rattle.ring_laws.proofs.BackChange.{Change, kept, replies, halts, fetches, Changed, IsBackTold, change_at, back_by, told_by}
use Rattle.ring_laws.proofs.Tells.{Tells, terms_of, same_jobs, unseen_then, small_number}
use Rattle.ring_laws.proofs.EntryWords.{entry_values}

number_if : (n : ℕ) (b : Bool) (x y : Work) → x.number ≡ n → y.number ≡ n → (let t : Work = if b then x else y in t.number) ≡ n
number_if n true x y p q = p
number_if n false x y p q = q

pub begun_number : (n size : ℕ) (r : RawRequest) (v : Verdict) → (let t : Work = begun n r size v in t.number) ≡ n
begun_number n size (Direct op count device id sector segments) (verdict.Serve plan) =
    let request : RawRequest = Direct op count device id sector segments in
    let other = number_if n (op == 3) (frameless n request size sector job_stage.Flush) (ended n request size (job_stage.Done Error)) refl refl in
    number_if n (nat_le op 2) (moving n request size (not (op == 0)) sector (take count segments)) _ refl other
begun_number n size (Discard flag device id sector count) (verdict.Serve plan) = refl
begun_number n size (Indirect op count device id sector pages) (verdict.Serve plan) =
    let request : RawRequest = Indirect op count device id sector pages in
    number_if n (nat_le count 960) (paging n request size (not (op == 0)) sector count pages) (ended n request size (job_stage.Done Error)) refl refl
begun_number n size r other = refl

-- the number of the entry that was read last
pub record IsLast (abi : Abi) (values : List ℕ) (entry : List ℕ) (fetched : ℕ) : Type 0 where
  pub read : entry_words_of abi * fetched ≤ length values
  pub entry_is : 0 < fetched → entry ≡ take (entry_words_of abi) (drop ((fetched - 1) * entry_words_of abi) values)
  pub some : 1 ≤ length values → 0 < fetched

last_entry : (x : Sight) (v : View) → Serves 0 x v → length x.values < 2 ^ 64 → IsLast v.shape.abi x.values v.ring.entry v.fetched
last_entry x v s few =
    let size : ℕ = entry_words_of v.shape.abi in
    let all = facts v.shape.abi (length x.values) s.count v.fetched (s.long ∙ s.words) few s.numbered in
    record {
      read = all.1;
      entry_is = λ some. s.copied_last refl (subst (λ (n : ℕ). 0 < n) all.0 some) ∙ ap (λ (n : ℕ). take size (drop n x.values)) (entry_begins v.shape.abi s.count ∙ ap (λ (n : ℕ). (n - 1) * size) (sym all.0));
      some = all.2;
    }
  where
    facts : (abi : Abi) (n count fetched : ℕ) → n ≡ entry_words_of abi * count + 0 → n < 2 ^ 64 → fetched ≡ count % 2 ^ 64 → (fetched ≡ count) × (entry_words_of abi * fetched ≤ n) × (1 ≤ n → 0 < fetched)
    facts X64 n count fetched e few number = (omega arith, omega arith, λ some. omega arith)
    facts X32 n count fetched e few number = (omega arith, omega arith, λ some. omega arith)

-- the job of an entry that was just read
fetched_jobs : (terms : Terms) (values : List ℕ) (epoch : List Line) (old : View) (entry : List ℕ) (fetched : ℕ) (info : DiskInfo) → (let c : Options = terms.config in c.indirect ≤ 960) → old.jobs.info ≡ info → info ≡ back_info terms.config → old.fetched < 2 ^ 64 → fetched ≡ next_number old → IsLast terms.abi values entry fetched → 0 < fetched → list_any (is_of (old.fetched + 1)) epoch ≡ false
    → AreJobs terms values epoch old.fetched old.jobs.works
    → AreJobs terms values epoch fetched (old.jobs.works ++ begun (next_number old) (request_of terms.abi entry) old.jobs.info.sectors (verdict_of (request_of terms.abi entry) old.jobs.info) ∷ [])
fetched_jobs terms values epoch old entry fetched info room here is small number last some none jobs =
    let next : next_number old ≡ old.fetched + 1 = above old.fetched fetched small number some in
    let same : fetched ≡ old.fetched + 1 = number ∙ next in
    let request : request_of terms.abi entry ≡ request_at terms.abi values fetched = ap (λ (ws : List ℕ). request_of terms.abi ws) (last.entry_is some) in
    let fresh : IsFresh terms.abi fetched (request_of terms.abi entry) values epoch = record { first = some; read = last.read; is = request; none = ap (λ (k : ℕ). list_any (is_of k) epoch) same ∙ none } in
    let verdict_is : verdict_of (request_of terms.abi entry) (back_info terms.config) ≡ verdict_of (request_of terms.abi entry) old.jobs.info = ap (λ (i : DiskInfo). verdict_of (request_of terms.abi entry) i) (sym (here ∙ is)) in
    let job : IsJobOf terms values epoch (begun fetched (request_of terms.abi entry) old.jobs.info.sectors (verdict_of (request_of terms.abi entry) old.jobs.info)) = begun_job terms fetched old.jobs.info.sectors (request_of terms.abi entry) values epoch (verdict_of (request_of terms.abi entry) old.jobs.info) (record { few = room; size_is = ap (λ (i : DiskInfo). i.sectors) (here ∙ is) }) fresh verdict_is in
    let numbered = begun_number fetched old.jobs.info.sectors (request_of terms.abi entry) (verdict_of (request_of terms.abi entry) old.jobs.info) ∙ same in
    let all : AreJobs terms values epoch (old.fetched + 1) (old.jobs.works ++ begun fetched (request_of terms.abi entry) old.jobs.info.sectors (verdict_of (request_of terms.abi entry) old.jobs.info) ∷ []) = jobs_added terms values epoch old.fetched old.jobs.works (begun fetched (request_of terms.abi entry) old.jobs.info.sectors (verdict_of (request_of terms.abi entry) old.jobs.info)) numbered job jobs in
    same_jobs terms values values epoch epoch (old.fetched + 1) fetched _ _ refl refl (sym same) (ap (λ (k : ℕ). old.jobs.works ++ begun k (request_of terms.abi entry) old.jobs.info.sectors (verdict_of (request_of terms.abi entry) old.jobs.info) ∷ []) number) all
  where
    above : (n f : ℕ) → n < 2 ^ 64 → f ≡ (n + 1) % 2 ^ 64 → 0 < f → (n + 1) % 2 ^ 64 ≡ n + 1
    above n f lt e some = omega arith

changed_jobs : (config : Options) (x y : Sight) (epoch now : List Line) (old new : View) → config.indirect ≤ 960 → Change (length x.values) old new → new.shape ≡ old.shape → old.jobs.info ≡ back_info config → old.fetched < 2 ^ 64 → is_some new.halted ≡ false → Knows y new → length y.values < 2 ^ 64 → length x.values ≤ length y.values
    → ((k : ℕ) → old.fetched < k → list_any (is_of k) now ≡ false) → AreJobs (terms_of config old) y.values now old.fetched old.jobs.works → AreJobs (terms_of config old) y.values now new.fetched new.jobs.works
changed_jobs config x y epoch now old new room (kept works fetched) shape info small running knows few more unseen jobs = same_jobs (terms_of config old) y.values y.values now now old.fetched new.fetched old.jobs.works new.jobs.works refl refl (sym fetched) (sym works) jobs
changed_jobs config x y epoch now old new room (replies works fetched) shape info small running knows few more unseen jobs =
    let terms : Terms = terms_of config old in
    same_jobs terms y.values y.values now now old.fetched new.fetched _ new.jobs.works refl refl (sym fetched) (sym works) (jobs_removed terms y.values now old.fetched old.jobs.works (position (λ (t : Work). is_done t) old.jobs.works) jobs)
changed_jobs config x y epoch now old new room (halts over fetched) shape info small running knows few more unseen jobs = absurd (cc)
changed_jobs config x y epoch now old new room (fetches works fetched at_loop some) shape info small running knows few more unseen jobs =
    let serves : Serves 0 y new = subst (λ (s : BackStage). KnowsAt s y new) at_loop knows in
    let last : IsLast old.shape.abi y.values new.ring.entry new.fetched = subst (λ (s : Shape). IsLast s.abi y.values new.ring.entry new.fetched) shape (last_entry y new serves few) in
    same_jobs (terms_of config old) y.values y.values now now new.fetched new.fetched _ new.jobs.works refl refl refl (sym works)
    (fetched_jobs (terms_of config old) y.values now old new.ring.entry new.fetched old.jobs.info room refl info small fetched last (last.some (omega arith)) (unseen (old.fetched + 1) (omega arith)) jobs)

-- the number of fetched entries never falls
grows : (x y : Sight) (old new : View) → Change (length x.values) old new → (is_some new.halted ≡ false → old.fetched < 2 ^ 64) → Knows y new → length y.values < 2 ^ 64 → length x.values ≤ length y.values → old.fetched ≤ new.fetched
grows x y old new (kept works fetched) small knows few more = omega arith
grows x y old new (replies works fetched) small knows few more = omega arith
grows x y old new (halts over fetched) small knows few more = omega arith
grows x y old new (fetches works fetched at_loop some) small knows few more =
    let serves : Serves 0 y new = subst (λ (s : BackStage). KnowsAt s y new) at_loop knows in
    let last : IsLast new.shape.abi y.values new.ring.entry new.fetched = last_entry y new serves few in
    let runs : is_some new.halted ≡ false = ap (λ (h : Option Halt). is_some h) serves.running in
    above old.fetched new.fetched (small runs) fetched (last.some (omega arith))
  where
    above : (n f : ℕ) → n < 2 ^ 64 → f ≡ (n + 1) % 2 ^ 64 → 0 < f → n ≤ f
    above n f lt e some = omega arith

pub told_none : (t : Option BackTold) → t ≡ None → IsBackTold t
told_none t e = subst IsBackTold (sym e) tt

-- the lines of a move of the back
abbrev pub lines_of_back : View → BackAct → List Line
lines_of_back v a =
    let new : View = step_of v a.answer in
    lines.Move a.shown ∷ (back_lines new.told a.answer ++ halt_lines v.halted new.halted)

pub back_tells : (config : Options) (start : ℕ) (before : List Line) (h : Hypervisor) (v : View) (o : Outcome) (a : BackAct) → Follows start [] before v → v.told ≡ None → Tells config before v → AreEarlier h.grants.made v.pages → back_act h mover.Back (ask_of v) o ≡ Some a → reads_of (before ++ lines_of_back v a) < 2 ^ 64
    → Tells config (before ++ lines_of_back v a) (step_of v a.answer)
back_tells config start before h v o a f told t earlier e few =
    let new : View = step_of v a.answer in
    let gone : Follows f.sight.start f.sight.values (before ++ lines_of_back v a) (step_of v a.answer) = back_goes before h v.stage v o a f.sight earlier f.knows f.knows f.shows f.stands told e in
    let c : Changed (length f.sight.values) v (step_of v a.answer) = change_at v.stage v f.sight a.answer f.knows (told_none v.told told) in
    let all : AreBystanders (lines_of_back v a) = (back_by h (ask_of v) o a (backs_of v) e, told_by new.told a.answer v.halted new.halted c.tells) in
    let go : Aside config before (lines_of_back v a) = bystanders_go config (lines_of_back v a) before all t.tale t.quiet in
    let values : entry_values before ++ gone.more ≡ gone.sight.values = ap (λ (vs : List ℕ). vs ++ gone.more) f.shows.values ∙ sym gone.grown in
    let long = length-append f.sight.values gone.more in
    let grown : length gone.sight.values ≡ length (f.sight.values ++ gone.more) = ap (λ (vs : List ℕ). length vs) gone.grown in
    let more : length f.sight.values ≤ length gone.sight.values = omega arith in
    let short = values_few (before ++ lines_of_back v a) in
    let same : length (entry_values (before ++ lines_of_back v a)) ≡ length gone.sight.values = ap (λ (vs : List ℕ). length vs) gone.shows.values in
    let small : length gone.sight.values < 2 ^ 64 = omega arith in
    let unseen = λ (k : ℕ) (above : v.fetched < k). let aside = bystanders_aside k (lines_of_back v a) all in unseen_then k before (lines_of_back v a) go.epoch (t.unseen k above) aside.none in
    let least : v.fetched ≤ new.fetched = grows f.sight gone.sight v (step_of v a.answer) c.change (λ runs. small_number v.stage v f.sight f.knows (c.running runs)) gone.knows small more in
    record {
      tale = go.tale;
      quiet = go.quiet;
      info = c.info ∙ t.info;
      room = t.room;
      jobs = λ runs.
          let terms : Terms = terms_of config v in
          subst (λ (s : Shape). AreJobs (record { config = config; abi = s.abi }) (entry_values (before ++ lines_of_back v a)) (this_epoch (before ++ lines_of_back v a)) new.fetched new.jobs.works) (sym (back_shape v a.answer))
          (same_jobs terms gone.sight.values (entry_values (before ++ lines_of_back v a)) _ _ new.fetched new.fetched new.jobs.works new.jobs.works (sym gone.shows.values) refl refl refl
          (changed_jobs config f.sight gone.sight (this_epoch before) (this_epoch (before ++ lines_of_back v a)) v (step_of v a.answer) t.room c.change (back_shape v a.answer) t.info (small_number v.stage v f.sight f.knows (c.running runs)) runs gone.knows small more unseen
          (same_jobs terms (entry_values before ++ gone.more) gone.sight.values (this_epoch before ++ lines_of_back v a) (this_epoch (before ++ lines_of_back v a)) v.fetched v.fetched v.jobs.works v.jobs.works values (sym go.epoch) refl refl
          (jobs_kept terms (entry_values before) gone.more (this_epoch before) (lines_of_back v a) v.fetched v.jobs.works (λ k. bystanders_aside k (lines_of_back v a) all) (t.jobs (c.running runs))))));
      unseen = λ k above. unseen k (omega arith);
    }
