-- What is asked of a move one after the other is what the rules on moves ask, and a line is taken in part by part.
use Rattle.std.proofs.Common.{◌≡◌, not, ◌&&◌, if◌then◌else◌, Bool, true, false, refl}
use Rattle.std.specs.Prelude.{Option, Some, None}
use Rattle.schedule_text.specs.declared.line.Line.{Line}
use Rattle.memory_check.specs.Verdicts.{shows_what_is_there}
use Rattle.ring_check.specs.Verdict.{allows_stretch, allows_overrun}
use Rattle.job_check.specs.Verdict as job
use Rattle.checked_rules.specs.declared.rule.Rule.{Rule}
use Rattle.checked_rules.specs.declared.rule.Rule.TheVariants as rule
use Rattle.trace_check.specs.Outline.{outlined}
use Rattle.trace_check.specs.Trace.{Trace, moved, moves_after, requests_after, seen, allows_touch, first_of, broken_before, broken_move}

first_by : (shows touch stretch step effect words reply run : Bool) →
    (if not shows then Some rule.Coherent else (if not touch then Some rule.Touch else (if not (stretch && step && effect && words && reply) then Some rule.Fetch else (if not run then Some rule.Overrun else None))))
    ≡ first_of (if not shows then Some rule.Coherent else (if not touch then Some rule.Touch else (if not stretch then Some rule.Fetch else None)))
    (if not (step && effect && words && reply) then Some rule.Fetch else (if not run then Some rule.Overrun else None))
first_by false touch stretch step effect words reply run = refl
first_by true false stretch step effect words reply run = refl
first_by true true false step effect words reply run = refl
first_by true true true step effect words reply run = refl

pub move_by_steps : (t : Trace) (line : Line) →
    broken_move t line ≡ first_of (broken_before t line) (if not (job.allows t.ring t.jobs line) then Some rule.Fetch else (if not (allows_overrun t.ring line) then Some rule.Overrun else None))
move_by_steps t line =
    first_by (shows_what_is_there t.memory line) (allows_touch t line) (allows_stretch t.ring line) (job.allows_step t.jobs line) (job.allows_effect t.jobs line) (job.allows_data t.jobs line)
    (job.allows_reply t.ring t.jobs line) (allows_overrun t.ring line)

-- what is kept of moves is taken on before the rest
pub seen_by_parts : (t next : Trace) (line : Line) → next ≡ moves_after t line → record next { outline = outlined next.outline line; requests = requests_after next line } ≡ seen t line
seen_by_parts t next line is = by_shown (outlined t.outline line).shown is
  where
    by_shown : (shown : Bool) → next ≡ (if shown then moved t line else t)
        → record next { outline = outlined next.outline line; requests = requests_after next line }
        ≡ record (if shown then moved t line else t) { outline = outlined t.outline line; requests = requests_after t line }
    by_shown true e = rw e refl
    by_shown false e = rw e refl
