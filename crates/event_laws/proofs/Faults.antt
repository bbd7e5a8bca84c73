-- Each fault that a report tells is a call of the disk that failed.
use Rattle.std.proofs.Common.{◌≡◌, ℕ, zero, suc, ◌+◌, ◌-◌, ◌^◌, ◌<◌, ◌≤◌, ◌⊎◌, ◌==◌, inl, inr, length, Bool, true, false, cond, List, [], ◌∷◌, ◌++◌, Option, Some, None, refl, ap, sym, ◌∙◌, subst, length-append, arith}
use Rattle.std.specs.Prelude.{filter, is_some, if◌then◌else◌}
use Rattle.std.specs.List.{AllByRecursion}
use Rattle.std.proofs.lemmas.List.Elements.{filter-append}
use Rattle.blk_base.specs.Options.{Options}
use Rattle.blk_base.specs.declared.ask.BackAsk.{BackAsk}
use Rattle.blk_base.specs.declared.ask.BackAsk.TheVariants as asks
use Rattle.blk_base.specs.declared.ask.BackAnswer.{BackAnswer}
use Rattle.blk_base.specs.declared.ask.BackAnswer.TheVariants as answers
use Rattle.blk_base.specs.declared.moves.BackMover.TheVariants as mover
use Rattle.blk_io.specs.Outside.{Rose}
use Rattle.blk_io.specs.Disk.{DiskSeen}
use Rattle.blk_layout.specs.declared.segment.Segment.{Segment}
use Rattle.ring_words.specs.Shape.{entry_words_of}
use Rattle.ring_words.specs.Ring.{requests_of, overruns}
use Rattle.schedule_text.specs.declared.line.Detail.{Detail}
use Rattle.schedule_text.specs.declared.line.Detail.TheVariants.{Lines, Moves}
use Rattle.schedule_text.specs.declared.line.Line.{Line}
use Rattle.schedule_text.specs.declared.line.Line.TheVariants as lines
use Rattle.schedule_text.specs.Recorder.{recorded, kept_of}
use Rattle.report_rules.specs.Steps.{is_fault}
use Rattle.hypervisor.specs.Hypervisor.{Hypervisor}
use Rattle.hypervisor.specs.Act.{Outcome, Took, Gave, Failed, BackAct, back_act}
use Rattle.hypervisor.specs.Disk.{DiskDoes, NoCall}
use Rattle.back_jobs.specs.declared.effect.Effect.{Effect}
use Rattle.back_jobs.specs.declared.stage.JobStage.{JobStage}
use Rattle.back_jobs.specs.declared.stage.JobStage.TheVariants as stage
use Rattle.back_jobs.specs.Work.{Work, page_ask, map_ask, ask_at}
use Rattle.back_jobs.specs.Jobs.{HeldJobs, asked, ask_job, waits, work_of, effect_at, effect_of}
use Rattle.blk_back.specs.declared.told.BackTold.{BackTold}
use Rattle.blk_back.specs.declared.told.BackTold.TheVariants as told
use Rattle.blk_base.specs.declared.halt.Halt.{Halt}
use Rattle.blk_back.specs.declared.stage.BackStage.{BackStage}
use Rattle.blk_back.specs.declared.stage.BackStage.TheVariants as back_stage
use Rattle.blk_back.specs.View.{View}
use Rattle.blk_back.specs.declared.stage.Reply.{Reply}
use Rattle.blk_back.specs.Ask.{next_reply}
use Rattle.blk_back.specs.Step.{looked, overrun, loop_step, fetched, step_at, step_of, told_effect, job_ask_of}
use Rattle.split_model.specs.World.{World, start_of}
use Rattle.split_model.specs.Safe.{IsSafe}
use Rattle.split_model.specs.Shown.{back_lines, halt_lines}
use Rattle.split_model.specs.Happening.{Happening, BackMoves, JobMoves, DiskGoes, DiskRuns, back_turn, job_turn, back_shows, job_shows, happens, lines_at, lines_of}
use Rattle.split_model.proofs.Showing.{MayShow, lines_are}
use Rattle.split_model.proofs.Safe.{safe_start, safe_happens}
use Rattle.vbd_model.specs.World as vbd
use Rattle.vbd_model.specs.Happening.{all_does}
use Rattle.vbd_model.specs.Report as vbd_report
use Rattle.vbd_model.proofs.Running.{disk_lift, lines_lift}
use Rattle.event_laws.specs.Faults.{faults_in, IsRaised}
use Rattle.event_laws.specs.Laws.{TheFaultsAreTold, TheEndedFaultsAreTold}

pub faults_in-append : (a b : List Line) → faults_in (a ++ b) ≡ faults_in a + faults_in b
faults_in-append a b = ap length (filter-append is_fault a b) ∙ length-append (filter is_fault a) (filter is_fault b)

kept_one : (detail : Detail) (line : Line) → faults_in (recorded detail line) ≡ faults_in (line ∷ [])
kept_one Lines (lines.Begin config other) = refl
kept_one Lines (lines.Move move) = refl
kept_one Lines line = refl
kept_one Moves (lines.Begin config other) = refl
kept_one Moves line = refl

-- a recorder keeps each of them
pub kept_faults : (detail : Detail) (report : List Line) → faults_in (kept_of detail report) ≡ faults_in report
kept_faults detail [] = refl
kept_faults detail (line ∷ report) =
    faults_in-append (recorded detail line) (kept_of detail report)
    ∙ (ap (λ (n : ℕ). n + faults_in (kept_of detail report)) (kept_one detail line)
    ∙ (ap (λ (n : ℕ). faults_in (line ∷ []) + n) (kept_faults detail report) ∙ sym (faults_in-append (line ∷ []) report)))

-- no call failed, one did, and so many after others
pub no_faults : (a b : ℕ) → b ≡ a → IsRaised 0 a b
no_faults a b same = record { none = λ e. same; each = inl (omega arith) }

raised_once : (a b : ℕ) → Rose a b → IsRaised 1 a b
raised_once a b rose = record { none = λ e. absurd (omega (arith, e)); each = at rose.above }
  where
    at : (a < b) ⊎ (b ≡ 2 ^ 64 - 1) → (a + 1 ≤ b) ⊎ (2 ^ 64 - 1 ≤ b)
    at (inl less) = inl (omega arith)
    at (inr most) = inr (omega arith)

raised_on : (n m a b c : ℕ) → IsRaised n a b → IsRaised m b c → IsRaised (n + m) a c
raised_on n m a b c p q = record {
  none = λ e. let first : n ≡ 0 = omega (arith, e) in let later : m ≡ 0 = omega (arith, e) in q.none later ∙ p.none first;
  each = by_zero m refl p.each;
}
  where
    on : (a + n ≤ b) ⊎ (2 ^ 64 - 1 ≤ b) → b + m ≤ c → (a + (n + m) ≤ c) ⊎ (2 ^ 64 - 1 ≤ c)
    on (inl less) more = inl (omega arith)
    on (inr most) more = inr (omega arith)

    by_zero : (k : ℕ) → m ≡ k → (a + n ≤ b) ⊎ (2 ^ 64 - 1 ≤ b) → (a + (n + m) ≤ c) ⊎ (2 ^ 64 - 1 ≤ c)
    by_zero zero is before = on before (let same : c ≡ b = q.none is in omega arith)
    by_zero (suc k) is before = by_each q.each
      where
        by_each : (b + m ≤ c) ⊎ (2 ^ 64 - 1 ≤ c) → (a + (n + m) ≤ c) ⊎ (2 ^ 64 - 1 ≤ c)
        by_each (inl more) = on before more
        by_each (inr most) = inr most

-- ---- a move of a job

-- how many calls of the disk this outcome says to have failed
abbrev failed_of : Outcome → ℕ
failed_of Failed = 1
failed_of outcome = 0

-- what a move tells of faults
abbrev told_of : (BackAnswer → Option Effect) → Option BackAct → ℕ
told_of effect None = 0
told_of effect (Some x) = faults_in (back_lines (told_effect (effect x.answer)) x.answer)

-- no call was made
idle : (outcome : Outcome) (a b : DiskSeen) → NoCall outcome a b → 0 ≡ failed_of outcome
idle Took a b d = refl
idle Failed a b d = absurd d
idle (Gave words) a b d = absurd d

silent : (act : Option BackAct) → told_of (λ x. None) act ≡ 0
silent None = refl
silent (Some x) = refl

at_page : (pages : List ℕ) (outcome : Outcome) (a b : DiskSeen) → DiskDoes (page_ask pages) outcome a b → 0 ≡ failed_of outcome
at_page [] outcome a b d = idle outcome a b d
at_page (gref ∷ pages) outcome a b d = idle outcome a b d

at_segment : (rest : List Segment) (writes : Bool) (outcome : Outcome) (a b : DiskSeen) → DiskDoes (map_ask rest writes) outcome a b → 0 ≡ failed_of outcome
at_segment [] writes outcome a b d = idle outcome a b d
at_segment (s ∷ rest) writes outcome a b d = idle outcome a b d

at_stage : (s : JobStage) (t : Work) (h : Hypervisor) (k : ℕ) (outcome : Outcome) (a b : DiskSeen) → DiskDoes (ask_at s t) outcome a b → told_of (effect_at s t) (back_act h (mover.Job k) (ask_at s t) outcome) ≡ failed_of outcome
at_stage (stage.DiskWrite m) t h k Took a b d = refl
at_stage (stage.DiskWrite m) t h k Failed a b d = refl
at_stage (stage.DiskWrite m) t h k (Gave words) a b d = absurd d
at_stage (stage.DiskRead m) t h k Took a b d = absurd d
at_stage (stage.DiskRead m) t h k Failed a b d = refl
at_stage (stage.DiskRead m) t h k (Gave words) a b d = refl
at_stage stage.Flush t h k Took a b d = refl
at_stage stage.Flush t h k Failed a b d = refl
at_stage stage.Flush t h k (Gave words) a b d = absurd d
at_stage (stage.Trim count) t h k Took a b d = refl
at_stage (stage.Trim count) t h k Failed a b d = refl
at_stage (stage.Trim count) t h k (Gave words) a b d = absurd d
at_stage stage.MapPage t h k outcome a b d = silent (back_act h (mover.Job k) (page_ask t.pages) outcome) ∙ at_page t.pages outcome a b d
at_stage stage.Map t h k outcome a b d = silent (back_act h (mover.Job k) (map_ask t.rest t.writes) outcome) ∙ at_segment t.rest t.writes outcome a b d
at_stage s t h k outcome a b d = silent (back_act h (mover.Job k) (ask_at s t) outcome) ∙ idle outcome a b d

-- a job that waits asks for nothing
waiting : (effect : BackAnswer → Option Effect) (h : Hypervisor) (k : ℕ) (outcome : Outcome) (a b : DiskSeen) → NoCall outcome a b → told_of effect (back_act h (mover.Job k) asks.Wait outcome) ≡ failed_of outcome
waiting effect h k outcome a b d = idle outcome a b d

asked_faults : (held : Bool) (found : Option Work) (h : Hypervisor) (k : ℕ) (outcome : Outcome) (a b : DiskSeen) → DiskDoes (asked held found) outcome a b → told_of (effect_of found) (back_act h (mover.Job k) (asked held found) outcome) ≡ failed_of outcome
asked_faults held None h k outcome a b d = waiting (effect_of None) h k outcome a b d
asked_faults true (Some t) h k outcome a b d = waiting (effect_of (Some t)) h k outcome a b d
asked_faults false (Some t) h k outcome a b d = at_stage t.stage t h k outcome a b d

-- each call that failed raised the count
disk_raised : (ask : BackAsk) (outcome : Outcome) (a b : DiskSeen) → DiskDoes ask outcome a b → IsRaised (failed_of outcome) a.faults b.faults
disk_raised (asks.DiskRead sector) Took a b d = absurd d
disk_raised (asks.DiskRead sector) Failed a b d = raised_once a.faults b.faults d.rose
disk_raised (asks.DiskRead sector) (Gave words) a b d = no_faults a.faults b.faults (ap (λ (x : DiskSeen). x.faults) d.1)
disk_raised (asks.DiskWrite sector words) Took a b d = no_faults a.faults b.faults (ap (λ (x : DiskSeen). x.faults) d)
disk_raised (asks.DiskWrite sector words) Failed a b d = raised_once a.faults b.faults d.rose
disk_raised (asks.DiskWrite sector words) (Gave other) a b d = absurd d
disk_raised asks.Flush Took a b d = no_faults a.faults b.faults (ap (λ (x : DiskSeen). x.faults) d)
disk_raised asks.Flush Failed a b d = raised_once a.faults b.faults d.rose
disk_raised asks.Flush (Gave words) a b d = absurd d
disk_raised (asks.Trim sector count) Took a b d = no_faults a.faults b.faults (ap (λ (x : DiskSeen). x.faults) d)
disk_raised (asks.Trim sector count) Failed a b d = raised_once a.faults b.faults d.rose
disk_raised (asks.Trim sector count) (Gave words) a b d = absurd d
disk_raised ask Took a b d = no_faults a.faults b.faults (ap (λ (x : DiskSeen). x.faults) d)
disk_raised ask Failed a b d = absurd d
disk_raised ask (Gave words) a b d = absurd d

shown_faults : (w : World) (number : ℕ) (act : Option BackAct) → faults_in (job_shows w number act) ≡ told_of (effect_of (work_of w.back.jobs.works number)) act
shown_faults w number None = refl
shown_faults w number (Some x) = refl

job_faults : (w : World) (number : ℕ) (outcome : Outcome) (a b : DiskSeen) → DiskGoes w (JobMoves number outcome) a b → faults_in (lines_at w (JobMoves number outcome)) ≡ failed_of outcome
job_faults w number outcome a b d = shown_faults w number (job_turn w number outcome) ∙ by_halt (is_some w.back.halted) d
  where
    works : HeldJobs
    works = w.back.jobs

    by_halt : (halted : Bool) → DiskDoes (if halted then asks.Wait else ask_job works number) outcome a b
        → told_of (effect_of (work_of works.works number)) (back_act w.under (mover.Job number) (if halted then asks.Wait else ask_job works number) outcome) ≡ failed_of outcome
    by_halt true d = waiting (effect_of (work_of works.works number)) w.under number outcome a b d
    by_halt false d = asked_faults (waits works.works number) (work_of works.works number) w.under number outcome a b d

-- ---- all else tells none

none_in : (ls : List Line) → AllByRecursion (λ (line : Line). is_fault line ≡ false) ls → faults_in ls ≡ 0
none_in [] all = refl
none_in (line ∷ ls) all = by_test (none_in ls all.1) (is_fault line) all.0
  where
    by_test : faults_in ls ≡ 0 → (b : Bool) → b ≡ false → length (cond b (line ∷ filter is_fault ls) (filter is_fault ls)) ≡ 0
    by_test rest true e = absurd (cc)
    by_test rest false e = rest

-- the back tells of replies alone
abbrev IsReply : Option BackTold → Type 0
IsReply None = Unit {0}
IsReply (Some (told.Reply id status)) = Unit {0}
IsReply t = ⊥

either : (b : Bool) (x y : View) → IsReply x.told → IsReply y.told → (let z : View = if b then x else y in IsReply z.told)
either true x y p q = p
either false x y p q = q

looked_tells : (v : View) (prod : ℕ) (otherwise : View) → IsReply v.told → IsReply otherwise.told → (let z : View = looked v prod otherwise in IsReply z.told)
looked_tells v prod otherwise p q =
    either (overruns v.ring.indices prod) (overrun v prod) (if prod == v.ring.indices.cons then otherwise else record v { ring = record v.ring { seen = prod }; stage = back_stage.Loop }) p
    (either (prod == v.ring.indices.cons) otherwise (record v { ring = record v.ring { seen = prod }; stage = back_stage.Loop }) q p)

loop_tells : (v : View) (r : Option Reply) (answer : BackAnswer) → IsReply v.told → (let z : View = loop_step v r answer in IsReply z.told)
loop_tells v (Some r) answer p = p
loop_tells v None (answers.Word word) p =
    either (requests_of v.ring.indices v.ring.seen == 0) (looked v word (record v { ring = record v.ring { seen = word }; stage = back_stage.StoreEvent })) (record v { ring = record v.ring { entry = word ∷ [] }; stage = back_stage.Fetch 1 })
    (looked_tells v word (record v { ring = record v.ring { seen = word }; stage = back_stage.StoreEvent }) p p) p
loop_tells v None answers.Event p = p
loop_tells v None answer p = p

step_tells : (s : BackStage) (v : View) (answer : BackAnswer) → IsReply v.told → (let z : View = step_at s v answer in IsReply z.told)
step_tells back_stage.MapRing v (answers.Mapped m) p = p
step_tells back_stage.MapRing v (answers.MapRefused status) p = p
step_tells back_stage.Bind v answers.Done p = p
step_tells back_stage.Bind v answers.BindRefused p = p
step_tells back_stage.Loop v answer p = loop_tells v (next_reply v) answer p
step_tells (back_stage.Fetch k) v (answers.Word word) p =
    either (k + 1 == entry_words_of v.shape.abi) (fetched v (v.ring.entry ++ word ∷ [])) (record v { ring = record v.ring { entry = v.ring.entry ++ word ∷ [] }; stage = back_stage.Fetch (k + 1) }) p p
step_tells (back_stage.ReplyHigh r) v answer p = p
step_tells (back_stage.ReplyLast r) v answer p = p
step_tells (back_stage.Producer r) v answer p = tt
step_tells (back_stage.ProducerFence old) v answer p = p
step_tells (back_stage.ResponseEvent old) v (answers.Word event) p = p
step_tells back_stage.Send v answer p = p
step_tells back_stage.StoreEvent v answer p = p
step_tells back_stage.EventFence v answer p = p
step_tells back_stage.LookAgain v (answers.Word word) p = looked_tells v word (record v { ring = record v.ring { seen = word; asleep = true }; stage = back_stage.Loop }) p p
step_tells (back_stage.Abort m) v answer p = p
step_tells back_stage.UnmapRing v answer p = p
step_tells back_stage.ClosePort v answer p = p
step_tells back_stage.UnmapUnbound v answer p = p
step_tells s v answer p = p

replies_alone : (t : Option BackTold) (answer : BackAnswer) → IsReply t → faults_in (back_lines t answer) ≡ 0
replies_alone None answer p = refl
replies_alone (Some (told.Reply id status)) answer p = refl
replies_alone (Some t) answer p = absurd p

no_halt_fault : (before now : Option Halt) → faults_in (halt_lines before now) ≡ 0
no_halt_fault None None = refl
no_halt_fault None (Some why) = refl
no_halt_fault (Some why) now = refl

untold : (t : Option BackTold) → t ≡ None → IsReply t
untold None e = tt
untold (Some t) e = cc

back_silent : (w : World) (act : Option BackAct) → w.back.told ≡ None → faults_in (back_shows w act) ≡ 0
back_silent w None none = refl
back_silent w (Some a) none =
    let b : View = step_of w.back a.answer in
    faults_in-append (back_lines b.told a.answer) (halt_lines w.back.halted b.halted)
    ∙ (ap (λ (n : ℕ). n + faults_in (halt_lines w.back.halted b.halted)) (replies_alone b.told a.answer (step_tells w.back.stage w.back a.answer (untold w.back.told none)))
    ∙ ap (λ (n : ℕ). 0 + n) (no_halt_fault w.back.halted b.halted))

-- none of what another happening may show is a fault
abbrev IsOther : Happening → Type 0
IsOther BackMoves = ⊥
IsOther (JobMoves number outcome) = ⊥
IsOther h = Unit {0}

other_line : (h : Happening) (line : Line) → IsOther h → MayShow h line → is_fault line ≡ false
other_line BackMoves line other shows = absurd other
other_line (JobMoves number outcome) line other shows = absurd other
other_line h (lines.Fault id index) other shows = absurd shows
other_line h line other shows = refl

-- ---- a history

happens_raised : (w : World) (h : Happening) (a b : DiskSeen) → IsSafe w → DiskGoes w h a b → IsRaised (faults_in (lines_at w h)) a.faults b.faults
happens_raised w (JobMoves number outcome) a b safe d =
    subst (λ (n : ℕ). IsRaised n a.faults b.faults) (sym (job_faults w number outcome a b d)) (disk_raised (job_ask_of w.back number) outcome a b d)
happens_raised w BackMoves a b safe d =
    subst (λ (n : ℕ). IsRaised n a.faults b.faults) (sym (back_silent w (back_turn w Took) safe.back_told)) (no_faults a.faults b.faults (ap (λ (x : DiskSeen). x.faults) d))
happens_raised w h a b safe d =
    subst (λ (n : ℕ). IsRaised n a.faults b.faults) (sym (none_in (lines_at w h) (lines_are (λ (line : Line). is_fault line ≡ false) w h (λ line shows. other_line h line tt shows))))
    (no_faults a.faults b.faults (ap (λ (x : DiskSeen). x.faults) d))

history_raised : (hs : List Happening) (w : World) (a b : DiskSeen) → IsSafe w → DiskRuns hs w a b → IsRaised (faults_in (lines_of hs w)) a.faults b.faults
history_raised [] w a b safe d = no_faults a.faults b.faults (ap (λ (x : DiskSeen). x.faults) d)
history_raised (h ∷ hs) w a b safe d =
    let between = d.0 in
    subst (λ (n : ℕ). IsRaised n a.faults b.faults) (sym (faults_in-append (lines_at w h) (lines_of hs (happens w h))))
    (raised_on (faults_in (lines_at w h)) (faults_in (lines_of hs (happens w h))) a.faults between.faults b.faults
    (happens_raised w h a between safe d.1) (history_raised hs (happens w h) between b (safe_happens w h safe) d.2))

-- of the ring's machine
pub lines_raised : (config : Options) (hs : List Happening) (a b : DiskSeen) → DiskRuns hs (start_of config) a b → IsRaised (faults_in (lines_of hs (start_of config))) a.faults b.faults
lines_raised config hs a b d = history_raised hs (start_of config) a b (safe_start config) d

pub report_raised : TheFaultsAreTold
report_raised config detail history a b d =
    let start = vbd.start_of config in
    let lifted = lines_raised config (all_does history start) a b (disk_lift history start a b d) in
    let same : faults_in (kept_of detail (vbd_report.report_of config detail history)) ≡ faults_in (lines_of (all_does history start) (start_of config)) =
    kept_faults detail (vbd_report.report_of config detail history) ∙ ap faults_in (lines_lift history start) in
    subst (λ (n : ℕ). IsRaised n a.faults b.faults) (sym same) lifted

pub ended_raised : TheEndedFaultsAreTold
ended_raised config detail history a b d =
    let report = vbd_report.report_of config detail history in
    let same : faults_in (kept_of detail (report ++ lines.End ∷ [])) ≡ faults_in (kept_of detail report) =
    kept_faults detail (report ++ lines.End ∷ []) ∙ (faults_in-append report (lines.End ∷ []) ∙ (let zero_more : faults_in report + 0 ≡ faults_in report = omega arith in zero_more) ∙ sym (kept_faults detail report)) in
    subst (λ (n : ℕ). IsRaised n a.faults b.faults) (sym same) (report_raised config detail history a b d)
