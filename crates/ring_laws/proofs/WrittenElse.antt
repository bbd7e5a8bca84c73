-- Lines of others than the back: they leave what the back wrote, between the words of a reply too.
use Rattle.std.proofs.Common.{◌≡◌, ℕ, Bool, false, List, ◌∷◌, ◌++◌, refl}
use Rattle.std.specs.Prelude.{Option, Some, None}
use Rattle.blk_base.specs.declared.ask.BackAsk.{BackAsk}
use Rattle.blk_base.specs.declared.ask.BackAnswer.{BackAnswer}
use Rattle.blk_base.specs.declared.ask.BackAnswer.TheVariants as answers
use Rattle.blk_base.specs.declared.moves.BackMover.TheVariants as back
use Rattle.hypervisor.specs.Hypervisor.{Hypervisor}
use Rattle.hypervisor.specs.Act.{BackAct, Outcome, back_act}
use Rattle.schedule_text.specs.declared.line.Line.{Line}
use Rattle.schedule_text.specs.declared.line.Line.TheVariants as lines
use Rattle.report_rules.specs.Reply.{is_reply}
use Rattle.back_jobs.specs.declared.effect.Effect.{Effect}
use Rattle.back_jobs.specs.declared.effect.Effect.TheVariants as effect
use Rattle.blk_back.specs.declared.stage.BackStage.{BackStage}
use Rattle.blk_back.specs.declared.told.BackTold.TheVariants as back_told
use Rattle.blk_back.specs.Step.{told_effect}
use Rattle.split_model.specs.Shown.{back_lines, effect_line}
use Rattle.split_model.proofs.SafeAnswers.{IsJobs}
use Rattle.ring_laws.proofs.Free.{IsFree, job_free, free_told}
use Rattle.ring_laws.proofs.Due.{Answered, Writes}
use Rattle.ring_laws.proofs.Written.{Passes, AllPass, passes_other, writes_all}

-- a line of someone else's, which tells of no reply
abbrev pub IsElse : Line → Type 0
IsElse line = Passes line

abbrev pub AreElse : List Line → Type 0
AreElse ls = AllPass ls

pub other_writes : (before ys : List Line) (s : BackStage) (answered : List Answered) → AreElse ys → Writes before s answered → Writes (before ++ ys) s answered
other_writes before ys s answered all w = writes_all before ys s answered all w

-- lines that the rules on the ring pass over, but for those of replies
pub free_else : (over : Bool) (line : Line) → IsFree over line → is_reply line ≡ false → IsElse line
free_else over line f untold = passes_other line f.other untold

effect_else : (id index : ℕ) (a : BackAnswer) → IsFree false (effect_line id index a) → IsElse (effect_line id index a)
effect_else id index (answers.Sector words) f = free_else false (lines.EffectRead id index words) f refl
effect_else id index a f = free_else false (lines.Effect id index) f refl

effects_else : (e : Option Effect) (a : BackAnswer) → AreElse (back_lines (told_effect e) a)
effects_else None a = tt
effects_else (Some (effect.Moved id index)) a = (effect_else id index a (free_told false (Some (back_told.Effect id index)) a refl).0, tt)
effects_else (Some (effect.Flushed id)) a = (free_else false (lines.Flushed id) (free_told false (Some (back_told.Flushed id)) a refl).0 refl, tt)
effects_else (Some (effect.Trimmed id)) a = (free_else false (lines.Trimmed id) (free_told false (Some (back_told.Trimmed id)) a refl).0 refl, tt)
effects_else (Some (effect.Failed id index)) a = (free_else false (lines.Fault id index) (free_told false (Some (back_told.Fault id index)) a refl).0 refl, tt)

-- what a job does and tells
pub job_else : (h : Hypervisor) (k : ℕ) (ask : BackAsk) (o : Outcome) (a : BackAct) (e : Option Effect) → IsJobs ask → back_act h (back.Job k) ask o ≡ Some a → AreElse (lines.Move a.shown ∷ back_lines (told_effect e) a.answer)
job_else h k ask o a effected own e = (free_else false (lines.Move a.shown) (job_free false h k ask o a refl own e) refl, effects_else effected a.answer)
