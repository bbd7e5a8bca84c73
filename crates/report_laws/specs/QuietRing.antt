-- The ring's words where a report says `quiet` (`io/ring.h`: req_prod is word 0 of the ring's first page and rsp_prod word 2; that page is frame 2).
use Rattle.std.specs.Prelude.{◌≡◌, ℕ, ◌+◌, ◌%◌, ◌^◌, Bool, true, false, List, count_by}
use Rattle.std.specs.List.{list_any}
use Rattle.schedule_text.specs.declared.line.Line.{Line}
use Rattle.schedule_text.specs.declared.line.Line.TheVariants as lines
use Rattle.report_rules.specs.Obeys.{Obeys}
use Rattle.report_rules.specs.Ring.{start_of}
use Rattle.report_rules.specs.Standing.{this_epoch}
use Rattle.report_rules.specs.Value.{value_before}
use Rattle.report_laws.specs.Ready.{says_ready}

abbrev pub says_answer : Line → Bool
says_answer (lines.Answer id status) = true
says_answer line = false

-- how many answers were told in the present epoch, whose ring begins at the first index again
abbrev pub answers_told : List Line → ℕ
answers_told before = count_by says_answer (this_epoch before)

-- no request is left without a response: both producers are one index; and no response unread: that index is as far ahead of the first one as answers were told in this epoch
pub record IsServedRing (before : List Line) : Type 0 where
  pub served : value_before before 2 0 ≡ value_before before 2 2
  pub read : value_before before 2 2 ≡ (start_of before + answers_told before) % 2 ^ 32

-- so it is where a `quiet` line stands after a `ready` line of this epoch; with none this epoch's ring was never used
abbrev pub IsQuietRingAt : List Line → Line → Type 0
IsQuietRingAt before lines.Quiet = list_any says_ready (this_epoch before) ≡ true → IsServedRing before
IsQuietRingAt before line = Unit {0}

abbrev pub IsQuietRing : List Line → Type 0
IsQuietRing report = Obeys IsQuietRingAt report
