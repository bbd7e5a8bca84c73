-- Of the jobs that are held the one of the lowest number goes on, where none is done: it has an act, whatever the disk answers its call.
use Rattle.std.proofs.Common.{◌≡◌, ◌≢◌, ◌∙◌, ap, sym, subst, inl, inr, ℕ, ◌≤◌, ◌==◌, not, Bool, true, false, true≢false, List, ◌∷◌, refl, arith}
use Rattle.std.specs.Prelude.{Option, Some, None, is_some, position}
use Rattle.std.proofs.lemmas.Option.{none-some}
use Rattle.std.proofs.lemmas.Bool.{eq-eqb, lt-ltb}
use Rattle.blk_base.specs.declared.ask.BackAsk.{BackAsk}
use Rattle.blk_base.specs.declared.ask.BackAsk.TheVariants as back_ask
use Rattle.blk_base.specs.declared.moves.BackMover.TheVariants as back_mover
use Rattle.blk_io.specs.Disk.{DiskSeen}
use Rattle.hypervisor.specs.Hypervisor.{Hypervisor}
use Rattle.hypervisor.specs.Act.{Outcome, Gave, Took, Failed, back_act}
use Rattle.hypervisor.specs.Disk.{DiskDoes}
use Rattle.back_jobs.specs.Work.{Work}
use Rattle.back_jobs.specs.Jobs.{is_done, place_of, work_of, work_at, waits, waits_at, next_in}
use Rattle.back_jobs.proofs.Done.{passes}
use Rattle.back_laws.proofs.JobLeft.{first_moves}
use Rattle.blk_back.specs.Step.{job_ask_of, next_job_of}
use Rattle.split_model.specs.World as rings
use Rattle.split_model.specs.Happening.{job_turn}
use Rattle.split_model.proofs.SafeAnswers.{IsJobs, jobs_of}
use Rattle.vbd_laws.specs.Waits.{IsOver, JobMayWait}

-- an ask of a job that isn't to wait is answered, by what the disk answered its call
job_acts : (h : Hypervisor) (k : ℕ) (ask : BackAsk) (outcome : Outcome) (a b : DiskSeen) → IsJobs ask → ask ≢ back_ask.Wait → DiskDoes ask outcome a b → back_act h (back_mover.Job k) ask outcome ≢ None
job_acts h k back_ask.Wait outcome a b own busy does none = busy refl
job_acts h k (back_ask.Read m word) outcome a b own busy does none = none-some _ (sym none)
job_acts h k (back_ask.Write m word value) outcome a b own busy does none = none-some _ (sym none)
job_acts h k (back_ask.Map gref mode) outcome a b own busy does none = none-some _ (sym none)
job_acts h k (back_ask.Unmap m) outcome a b own busy does none = none-some _ (sym none)
job_acts h k (back_ask.DiskRead sector) (Gave words) a b own busy does none = none-some _ (sym none)
job_acts h k (back_ask.DiskRead sector) Failed a b own busy does none = none-some _ (sym none)
job_acts h k (back_ask.DiskRead sector) Took a b own busy does none = does
job_acts h k (back_ask.DiskWrite sector words) (Gave other) a b own busy does none = does
job_acts h k (back_ask.DiskWrite sector words) Failed a b own busy does none = none-some _ (sym none)
job_acts h k (back_ask.DiskWrite sector words) Took a b own busy does none = none-some _ (sym none)
job_acts h k back_ask.Flush (Gave other) a b own busy does none = does
job_acts h k back_ask.Flush Failed a b own busy does none = none-some _ (sym none)
job_acts h k back_ask.Flush Took a b own busy does none = none-some _ (sym none)
job_acts h k (back_ask.Trim sector count) (Gave other) a b own busy does none = does
job_acts h k (back_ask.Trim sector count) Failed a b own busy does none = none-some _ (sym none)
job_acts h k (back_ask.Trim sector count) Took a b own busy does none = none-some _ (sym none)
job_acts h k ask outcome a b own busy does none = own

-- the first job passes the test
pub passes_first : (test : Work → Bool) (t : Work) (rest : List Work) → test t ≡ true → position test (t ∷ rest) ≡ Some 0
passes_first test t rest e = passes test (t ∷ rest) 0 (rw e refl) (omega arith)

-- the first job is that of its number, and held up by none
module _ (t : Work) (rest : List Work) where
  first_place : place_of (t ∷ rest) t.number ≡ Some 0
  first_place = passes_first (λ (u : Work). u.number == t.number) t rest (eq-eqb t.number t.number refl)

  first_work : work_of (t ∷ rest) t.number ≡ Some t
  first_work = ap (work_at (t ∷ rest)) first_place

  first_unheld : is_done t ≡ false → waits (t ∷ rest) t.number ≡ false
  first_unheld undone =
      let unfinished : position (λ (u : Work). not (is_done u)) (t ∷ rest) ≡ Some 0 = passes_first (λ (u : Work). not (is_done u)) t rest (ap not undone) in
      ap (λ (place : Option ℕ). waits_at (t ∷ rest) place (work_of (t ∷ rest) t.number)) first_place
      ∙ (ap (waits_at (t ∷ rest) (Some 0)) first_work ∙ first_moves (t ∷ rest) 0 t unfinished)

  first_next : 1 ≤ t.number → next_in (t ∷ rest) 0 ≡ Some t.number
  first_next counted = rw (lt-ltb 0 t.number (omega arith)) refl

-- a job waits only where it is over, held up or halted
abbrev pub JobsWaitSo : rings.World → Type 0
JobsWaitSo w = (number : ℕ) → job_ask_of w.back number ≡ back_ask.Wait → JobMayWait w.back number

module _ (w : rings.World) (so : JobsWaitSo w) (t : Work) (rest : List Work) (held : w.back.jobs.works ≡ t ∷ rest) (undone : is_done t ≡ false) (unhalted : is_some w.back.halted ≡ false) where
  asks : job_ask_of w.back t.number ≢ back_ask.Wait
  asks waiting = by_cause (so t.number waiting)
    where
      by_cause : JobMayWait w.back t.number → ⊥
      by_cause (inl over) =
          let done : is_done t ≡ true = subst IsOver (ap (λ (works : List Work). work_of works t.number) held ∙ first_work t rest) over in
          true≢false (sym done ∙ undone)
      by_cause (inr (inl up)) = true≢false (sym up ∙ (ap (λ (works : List Work). waits works t.number) held ∙ first_unheld t rest undone))
      by_cause (inr (inr halted)) = true≢false (sym halted ∙ unhalted)

  -- so it has an act
  pub first_acts : (outcome : Outcome) (a b : DiskSeen) → DiskDoes (job_ask_of w.back t.number) outcome a b → job_turn w t.number outcome ≢ None
  first_acts outcome a b does = job_acts w.under t.number (job_ask_of w.back t.number) outcome a b (jobs_of w.back t.number) asks does

  -- and it is the one that a round begins with
  pub first_is_next : 1 ≤ t.number → next_job_of w.back 0 ≡ Some t.number
  first_is_next counted = rw (unhalted, held) (first_next t rest counted)
