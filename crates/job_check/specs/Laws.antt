-- What is kept, line by line, decides the rules on the back's jobs (`io/blkif.h`, `io/ring.h`).
use Rattle.std.specs.Prelude.{◌≡◌, List, [], ◌∷◌, ◌++◌, reverse}
use Rattle.std.specs.Bool.{Decides}
use Rattle.schedule_text.specs.declared.line.Line.{Line}
use Rattle.report_rules.specs.Obeys.{Obeys}
use Rattle.report_rules.specs.Steps.{IsStepAt}
use Rattle.report_rules.specs.Effect.{IsEffectAt}
use Rattle.report_rules.specs.Data.{IsDataAt}
use Rattle.report_rules.specs.Reply.{IsReplyAt}
use Rattle.ring_check.specs.State.{state_of}
use Rattle.ring_check.specs.Kept.{IsTouched}
use Rattle.job_check.specs.State.{JobState, no_lines, seen}
use Rattle.job_check.specs.Verdict.{allows_step, allows_effect, allows_data, allows_reply}

-- what is kept of lines of which the last comes first
abbrev pub jobs_back : List Line → JobState
jobs_back [] = no_lines
jobs_back (line ∷ earlier) = seen (state_of (reverse earlier)) (jobs_back earlier) line

-- what is kept of these lines
abbrev pub jobs_after : List Line → JobState
jobs_after before = jobs_back (reverse before)

-- these lines keep the rules on which a job is found again: those on touches, on maps and on steps
pub record AreFollowed (before : List Line) : Type 0 where
  pub touched : IsTouched before
  pub steps : Obeys IsStepAt before

abbrev pub StepsAreDecided : Type 0
StepsAreDecided = (before : List Line) (line : Line) → AreFollowed before → Decides (allows_step (jobs_after before) line) (IsStepAt before line)

abbrev pub EffectsAreDecided : Type 0
EffectsAreDecided = (before : List Line) (line : Line) → AreFollowed before → Decides (allows_effect (jobs_after before) line) (IsEffectAt before line)

-- a job that had its reply is forgotten, with the words that the disk gave it: so the line is one that the rule on steps allows
abbrev pub DataAreDecided : Type 0
DataAreDecided = (before : List Line) (line : Line) → AreFollowed before → IsStepAt before line → Decides (allows_data (jobs_after before) line) (IsDataAt before line)

abbrev pub RepliesAreDecided : Type 0
RepliesAreDecided = (before : List Line) (line : Line) → AreFollowed before → Decides (allows_reply (state_of before) (jobs_after before) line) (IsReplyAt before line)

-- what is kept is taken on by one line at a time
abbrev pub JobsAreTakenOn : Type 0
JobsAreTakenOn = (before : List Line) (line : Line) → jobs_after (before ++ line ∷ []) ≡ seen (state_of before) (jobs_after before) line
