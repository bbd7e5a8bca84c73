use Rattle.std.specs.Prelude.{ℕ, ◌-◌, ◌≤◌, List}
use Rattle.schedule_text.specs.Recorder.{RecorderSeen, Gained}
use Rattle.split_model.specs.Happening.{ring_lines}
use Rattle.schedule_run.proofs.split.Split.dump.Given as goal

-- the words before this place were shown
pub record HasShown (pages : List ℕ) (place words : ℕ) (before now : RecorderSeen) : Type 0 where
  pub within : place ≤ words
  pub told : Gained (ring_lines pages 0 place) before now

abbrev pub invariant-loop-place : goal.invariant-loop-place
invariant-loop-place g l = HasShown l.self.rings.under.pages l.place l.words (g.R.Recorder.seen l.fn.recorder) (g.R.Recorder.seen l.recorder)

abbrev pub decreases-loop-place : goal.decreases-loop-place
decreases-loop-place g l = l.words - l.place
