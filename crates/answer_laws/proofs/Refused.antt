-- Wrong answers that the rule refuses.
use Rattle.std.proofs.Common.{◌≡◌, [], ◌∷◌, refl}
use Rattle.blk_base.specs.declared.operation.Status.TheVariants.{Okay, Error, Unsupported}
use Rattle.schedule_text.specs.declared.line.Line.TheVariants as lines
use Rattle.answer_laws.specs.Okay.{AreAnsweredByFaults}
use Rattle.answer_laws.specs.Wrong as wrong

pub failed_alone : AreAnsweredByFaults wrong.failed_alone → ⊥
failed_alone h = (let is : Error ≡ Okay = h [] [] (lines.Answer 1 Error) refl in cc)

pub failed_at_another : AreAnsweredByFaults wrong.failed_at_another → ⊥
failed_at_another h = (let is : Error ≡ Okay = h (lines.Fault 2 0 ∷ []) [] (lines.Answer 1 Error) refl in cc)

pub okay_after_fault : AreAnsweredByFaults wrong.okay_after_fault → ⊥
okay_after_fault h = (let is : Okay ≡ Error = h (lines.Fault 1 0 ∷ []) [] (lines.Answer 1 Okay) refl in cc)

pub failed_before : AreAnsweredByFaults wrong.failed_before → ⊥
failed_before h = (let is : Error ≡ Okay = h (lines.Fault 1 0 ∷ lines.Epoch ∷ []) [] (lines.Answer 1 Error) refl in cc)

pub unsupported : AreAnsweredByFaults wrong.unsupported → ⊥
unsupported h = (let is : Unsupported ≡ Okay = h [] [] (lines.Answer 1 Unsupported) refl in cc)
