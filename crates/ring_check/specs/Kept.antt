-- What a reader keeps of the ring is what the lines before say of it, and so it decides the rules on stretches and on overruns (`io/ring.h`).
use Rattle.std.specs.Prelude.{◌≡◌, List}
use Rattle.std.specs.Bool.{Decides}
use Rattle.schedule_text.specs.declared.line.Line.{Line}
use Rattle.report_rules.specs.Obeys.{Obeys}
use Rattle.report_rules.specs.Touch.{IsTouchAt}
use Rattle.report_rules.specs.Mapped.{IsMapAnswerAt}
use Rattle.report_rules.specs.Ring.{ring_pages, ring_abi, start_of, replied_before, produced_before}
use Rattle.report_rules.specs.Stretch.{entries_read, words_within, IsStretchAt}
use Rattle.report_rules.specs.Overrun.{has_overrun, overrun_shown, IsOverrunAt}
use Rattle.ring_check.specs.State.{RingState, replied_seen, produced_seen, state_of}
use Rattle.ring_check.specs.Verdict.{allows_stretch, allows_overrun}

-- each part of what is kept is what these lines say
pub record IsKept (before : List Line) (s : RingState) : Type 0 where
  pub start : s.start ≡ start_of before
  pub abi : s.abi ≡ ring_abi before
  pub pages : s.pages ≡ ring_pages before
  pub replied : replied_seen s ≡ replied_before before
  pub produced : produced_seen s ≡ produced_before before
  pub fetched : s.fetched ≡ entries_read before
  pub within : s.within ≡ words_within before
  pub overran : s.overran ≡ has_overrun before
  pub overrun : s.overrun ≡ overrun_shown before

-- touches go through mappings that stand, and a map gives a new number: so a number that the back touched is not made later
pub record IsTouched (before : List Line) : Type 0 where
  pub touches : Obeys IsTouchAt before
  pub answers : Obeys IsMapAnswerAt before

abbrev pub WhatIsKept : Type 0
WhatIsKept = (before : List Line) → IsTouched before → IsKept before (state_of before)

abbrev pub StretchesAreDecided : Type 0
StretchesAreDecided = (before : List Line) (line : Line) → IsTouched before → Decides (allows_stretch (state_of before) line) (IsStretchAt before line)

abbrev pub OverrunsAreDecided : Type 0
OverrunsAreDecided = (before : List Line) (line : Line) → IsTouched before → Decides (allows_overrun (state_of before) line) (IsOverrunAt before line)
