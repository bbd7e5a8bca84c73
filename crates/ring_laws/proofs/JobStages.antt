-- Whatever a job is at, its move is the next step of its work, and what it writes is what the disk gave.
use Rattle.std.proofs.Common.{◌≡◌, ℕ, ◌+◌, List, [], ◌∷◌, ◌++◌, length, refl, ap, sym, ◌∙◌, subst}
use Rattle.std.specs.Prelude.{Some, Result, Ok, Err, None}
use Rattle.std.proofs.lemmas.Option.{none-some}
use Rattle.blk_base.specs.declared.parts.Mapping.{Mapping}
use Rattle.blk_base.specs.declared.moves.BackMover.TheVariants as back
use Rattle.blk_base.specs.declared.moves.Move.{Move}
use Rattle.blk_base.specs.declared.moves.Move.TheVariants as moves
use Rattle.grant_table.specs.declared.entry.MapRefusal.{MapRefusal}
use Rattle.grant_table.specs.Entry.{status_of}
use Rattle.grant_table.specs.Table.{frame_of, verdict_at, next_mapping}
use Rattle.hypervisor.specs.Hypervisor.{Hypervisor}
use Rattle.hypervisor.specs.Act.{BackAct, Outcome, Gave, Took, Failed, back_act, map_act}
use Rattle.schedule_text.specs.declared.line.Line.{Line}
use Rattle.schedule_text.specs.declared.line.Line.TheVariants as lines
use Rattle.blk_layout.specs.declared.segment.Segment.{Segment}
use Rattle.report_rules.specs.declared.work.Task.{Task}
use Rattle.report_rules.specs.declared.work.Task.TheVariants as tasks
use Rattle.back_jobs.specs.declared.stage.JobStage.{JobStage}
use Rattle.back_jobs.specs.declared.stage.JobStage.TheVariants as stage
use Rattle.back_jobs.specs.Work.{Work, ask_at, step_at, map_ask, mode_of, first_of, rest_of, sector_stage, next_segment}
use Rattle.split_model.proofs.SafeActs.{of_back}
use Rattle.ring_laws.proofs.JobLines.{IsAside, walk_own, failed_same, failed_own, failed_then}
use Rattle.ring_laws.proofs.Places.{Before, Within, IsAt, all_done, refused_end, failed_end}
use Rattle.ring_laws.proofs.JobMoves.{itself, before_aside}
use Rattle.ring_laws.proofs.Mapping.{map_is, refusal_is, map_taken, mapped_on}
use Rattle.ring_laws.proofs.JobSteps.{takes, rests, JobGoes, told_at, sector_at, on_step}
use Rattle.ring_laws.proofs.JobWords.{read_goes, write_goes}
use Rattle.ring_laws.proofs.JobDisk.{take_goes, give_goes, disk_failed, take_step, give_step}
use Rattle.ring_laws.proofs.JobCall.{flush_call, trim_call, call_done, call_broken}

abbrev Goes : List Task → ℕ → List Line → JobStage → Work → BackAct → Type 0
Goes work k epoch s t a = JobGoes work k epoch a.shown (told_at s t a.answer) (step_at s t a.answer)

-- the frame of the next segment is mapped, or refused
map_goes : (work : List Task) (k : ℕ) (epoch : List Line) (h : Hypervisor) (t : Work) (s : Segment) (more : List Segment) (verdict : Result ℕ MapRefusal) → t.rest ≡ s ∷ more → IsAt work k epoch stage.Map t
    → Goes work k epoch stage.Map t (map_act h (back.Job k) s.gref (mode_of t.writes) verdict)
map_goes work k epoch h t s more (Ok frame) rest at =
    let shown : Move = moves.Map (back.Job k) s.gref (mode_of t.writes) (h.grants.made + 1) frame in
    let m : Mapping = next_mapping h.grants s.gref (mode_of t.writes) in
    let b : Before work k epoch (s ∷ more) t.disk t.moved t.writes = subst (λ (l : List Segment). Before work k epoch l t.disk t.moved t.writes) rest at.0 in
    let first : t.within ≡ s.first = at.1 ∙ ap first_of rest in
    let on : Within work k (epoch ++ lines.Move shown ∷ []) (s ∷ more) t.within t.disk t.moved t.writes 0 1 m = mapped_on work k epoch s more t.within t.disk t.moved t.writes m frame b first refl in
    record {
      steps = takes refl (record { on = on_step work k epoch shown _ b.came b.whole (map_taken work k epoch s more t.disk t.moved t.writes shown b (map_is t.writes t.disk s k (h.grants.made + 1) frame)) tt; moved = tt });
      at = sector_at work k (epoch ++ lines.Move shown ∷ []) t.writes (record t { stage = sector_stage t.writes m }) m refl (subst (λ (l : List Segment). Within work k (epoch ++ lines.Move shown ∷ []) l t.within t.disk t.moved t.writes 0 1 m) (sym rest) on);
    }
map_goes work k epoch h t s more (Err refusal) rest at =
    let shown : Move = moves.MapRefused (back.Job k) s.gref (mode_of t.writes) (status_of refusal) in
    let b : Before work k epoch (s ∷ more) t.disk t.moved t.writes = subst (λ (l : List Segment). Before work k epoch l t.disk t.moved t.writes) rest at.0 in
    let taken = map_taken work k epoch s more t.disk t.moved t.writes shown b (refusal_is t.writes t.disk s k (status_of refusal)) in
    record {
      steps = takes refl (record { on = on_step work k epoch shown _ b.came b.whole taken tt; moved = tt });
      at = refused_end work k (epoch ++ lines.Move shown ∷ []) (length b.done) 1 None (failed_own k epoch [] (lines.Move shown) refl refl refl b.whole) (walk_own work k epoch [] shown (itself k) refl ∙ taken);
    }

map_asked : (work : List Task) (k : ℕ) (epoch : List Line) (h : Hypervisor) (t : Work) (o : Outcome) (a : BackAct) (rest : List Segment) → t.rest ≡ rest → IsAt work k epoch stage.Map t → back_act h (back.Job k) (map_ask rest t.writes) o ≡ Some a → Goes work k epoch stage.Map t a
map_asked work k epoch h t o a [] is at e = absurd (none-some a e)
map_asked work k epoch h t o a (s ∷ more) is at e = of_back (Goes work k epoch stage.Map t) _ a (map_goes work k epoch h t s more (verdict_at h.pages s.gref (mode_of t.writes)) is at) e

-- the next segment, or the job is done
segment_at : (work : List Task) (k : ℕ) (epoch : List Line) (t : Work) (rest : List Segment) → Before work k epoch rest t.disk t.moved t.writes → (let n : Work = next_segment t rest in IsAt work k epoch n.stage n)
segment_at work k epoch t [] b = all_done work k epoch t.disk t.moved t.writes b
segment_at work k epoch t (s ∷ rest) b = (b, refl)

-- an unmap is no step of the work
unmap_aside : (k number : ℕ) → IsAside k (lines.Move (moves.Unmap (back.Job k) number) ∷ [])
unmap_aside k number = record { none = refl; calm = refl; silent = refl }

pub job_goes : (work : List Task) (k : ℕ) (epoch : List Line) (h : Hypervisor) (s : JobStage) (t : Work) (o : Outcome) (a : BackAct)
    → IsAt work k epoch s t → back_act h (back.Job k) (ask_at s t) o ≡ Some a → Goes work k epoch s t a
job_goes work k epoch h stage.Map t o a at e = map_asked work k epoch h t o a t.rest refl at e
job_goes work k epoch h (stage.ReadWord m j) t o a at e = of_back (Goes work k epoch (stage.ReadWord m j) t) _ a (read_goes work k epoch t m j (frame_of h.grants m) _ at) e
job_goes work k epoch h (stage.DiskWrite m) t Took a at e = of_back (Goes work k epoch (stage.DiskWrite m) t) _ a (take_goes work k epoch t m at) e
job_goes work k epoch h (stage.DiskWrite m) t Failed a at e =
    of_back (Goes work k epoch (stage.DiskWrite m) t) _ a (record { steps = takes refl (disk_failed work k epoch (moves.DiskWrite k t.disk) (take_step work k epoch t m at.0 at.1) tt); at = failed_then k epoch (lines.Move (moves.DiskWrite k t.disk)) (lines.Fault t.id t.moved) (itself k) refl refl }) e
job_goes work k epoch h (stage.DiskWrite m) t (Gave words) a at e = absurd (none-some a e)
job_goes work k epoch h (stage.DiskRead m) t (Gave words) a at e = of_back (Goes work k epoch (stage.DiskRead m) t) _ a (give_goes work k epoch t m words at) e
job_goes work k epoch h (stage.DiskRead m) t Failed a at e =
    of_back (Goes work k epoch (stage.DiskRead m) t) _ a (record { steps = takes refl (disk_failed work k epoch (moves.DiskRead k t.disk) (give_step work k epoch t m at.0 at.1) tt); at = failed_then k epoch (lines.Move (moves.DiskRead k t.disk)) (lines.Fault t.id t.moved) (itself k) refl refl }) e
job_goes work k epoch h (stage.DiskRead m) t Took a at e = absurd (none-some a e)
job_goes work k epoch h (stage.WriteWord m j) t o a at e = of_back (Goes work k epoch (stage.WriteWord m j) t) _ a (write_goes work k epoch t m j (frame_of h.grants m) at) e
job_goes work k epoch h (stage.Unmap m) t o a at e =
    of_back (Goes work k epoch (stage.Unmap m) t) _ a
    (record { steps = rests refl; at = segment_at work k (epoch ++ lines.Move (moves.Unmap (back.Job k) m.number) ∷ []) t (rest_of t.rest) (before_aside work k epoch (lines.Move (moves.Unmap (back.Job k) m.number) ∷ []) (rest_of t.rest) t.disk t.moved t.writes (unmap_aside k m.number) at) }) e
job_goes work k epoch h (stage.Abort m) t o a at e =
    of_back (Goes work k epoch (stage.Abort m) t) _ a
    (record { steps = rests refl; at = failed_end work k (epoch ++ lines.Move (moves.Unmap (back.Job k) m.number) ∷ []) (failed_same k epoch (lines.Move (moves.Unmap (back.Job k) m.number) ∷ []) (unmap_aside k m.number) ∙ at) }) e
job_goes work k epoch h stage.Flush t Took a at e = of_back (Goes work k epoch stage.Flush t) _ a (call_done work k epoch tasks.Flush (moves.DiskFlush k) (lines.Flushed t.id) t at (flush_call k epoch) refl refl) e
job_goes work k epoch h stage.Flush t Failed a at e = of_back (Goes work k epoch stage.Flush t) _ a (call_broken work k epoch tasks.Flush (moves.DiskFlush k) t.id t.moved t at (flush_call k epoch)) e
job_goes work k epoch h stage.Flush t (Gave words) a at e = absurd (none-some a e)
job_goes work k epoch h (stage.Trim count) t Took a at e = of_back (Goes work k epoch (stage.Trim count) t) _ a (call_done work k epoch (tasks.Trim t.disk count) (moves.DiskTrim k t.disk count) (lines.Trimmed t.id) t at (trim_call k t.disk count epoch) refl refl) e
job_goes work k epoch h (stage.Trim count) t Failed a at e = of_back (Goes work k epoch (stage.Trim count) t) _ a (call_broken work k epoch (tasks.Trim t.disk count) (moves.DiskTrim k t.disk count) t.id t.moved t at (trim_call k t.disk count epoch)) e
job_goes work k epoch h (stage.Trim count) t (Gave words) a at e = absurd (none-some a e)
job_goes work k epoch h (stage.Done status) t o a at e = absurd (none-some a e)
job_goes work k epoch h other t o a at e = absurd at
