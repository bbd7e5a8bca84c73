-- The samples are refused: by what is told, each stands for another value.
use Rattle.std.proofs.Common.{ℕ, ◌+◌, ◌*◌, refl, sym, ap, arith}
use Rattle.std.specs.Prelude.{Option, Some, None}
use Rattle.std.proofs.lemmas.Option.{none-some}
use Rattle.std.proofs.lemmas.Bool.{false≢true}
use Rattle.blk_base.specs.declared.operation.Status.{Status}
use Rattle.blk_base.specs.declared.operation.Status.TheVariants.{Okay, Error, Unsupported}
use Rattle.blk_front.specs.declared.told.Told.{Told}
use Rattle.blk_front.specs.declared.told.Told.TheVariants.{Answer, Sector, Broken}
use Rattle.front_laws.specs.Samples.{AreTellingsRefused, AreTouchesRefused, AreUntruthsRefused, AnswersTwiceRefused}

-- what is told, as a number
status_number : Status → ℕ
status_number Okay = 1
status_number Error = 2
status_number Unsupported = 3

told_number : Option Told → ℕ
told_number None = 0
told_number (Some (Answer id status)) = 4 * id + status_number status
told_number (Some (Sector id index words)) = 0
told_number (Some (Broken word)) = word

pub tellings_refused : AreTellingsRefused
unfolding status_number told_number
tellings_refused = record {
  unread = λ h. let same = ap told_number h.0 in absurd (omega arith);
  overrun = λ h. let same = ap told_number h.0 in absurd (omega arith);
  other_word = λ h. let same = ap told_number h.0 in absurd (omega arith);
  other_number = λ h. let same = ap told_number h.0 in absurd (omega arith);
  other_status = λ h. let same = ap told_number h.0 in absurd (omega arith);
  unanswered = λ h. let same = ap told_number h.0 in absurd (omega arith);
  no_status = λ h. let same = ap told_number h.0 in absurd (omega arith);
  mapped = λ h. let same = ap told_number h.0 in absurd (omega arith);
}

pub touches_refused : AreTouchesRefused
touches_refused = record {
  second_first = λ h. let at = (h.0.1.response refl refl refl).word_is in absurd (omega arith);
  other_entry = λ h. let at = (h.0.1.response refl refl refl).word_is in absurd (omega arith);
  past_memory = λ h. let low = h.0.0.0 in absurd (omega arith);
  no_frame = λ h. let own = h.0.1.own refl in absurd (omega arith);
  other_frame = λ h. let named = h.0.1.named refl refl in absurd (omega arith);
  no_entry = λ h. let push = h.0.1.pushes refl refl (λ e. omega arith) in absurd (none-some push.request push.submitted);
}

pub untruths_refused : AreUntruthsRefused
untruths_refused = record {
  overrun = λ h. let few = h.0.produced refl refl in absurd (omega arith);
  mapped = λ h. absurd (false≢true (sym (h.0.unmapped refl refl)));
  exchanged = λ h. let same = h.0 in absurd (omega arith);
  unasked = λ h. let asked = h.1.1.0.asked_for refl refl refl refl in absurd (none-some asked.request asked.issued);
}

pub twice_refused : AnswersTwiceRefused
twice_refused = λ h. h 0 1 0 (omega arith) (omega arith) refl
