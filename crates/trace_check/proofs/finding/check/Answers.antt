use Rattle.std.proofs.Common.{rules, refl, ◌≡◌, ◌∙◌, sym, subst}
use Rattle.std.specs.Prelude.{Bool, true, false, Option, Some, None, Result, Ok, Err}
use Rattle.schedule_text.specs.declared.line.Line.{Line}
use Rattle.blk_io.specs.Outside.{SourceSeen}
use Rattle.report_lines.specs.Filling.{Ahead}
use Rattle.report_lines.specs.Giving.{GivesLine, given}
use Rattle.report_lines.specs.declared.reader.ReadStop.{ReadStop}
use Rattle.trace_check.proofs.Reading.{begun, further, finds_broken, finds_end, finds_stop}
use Rattle.trace_check.proofs.finding.check.Goals as goal

given_as : (result shown : Result (Option Line) ReadStop) (a b : Ahead) (s t : SourceSeen) → result ≡ shown → GivesLine result a b s t → GivesLine shown a b s t
given_as result shown a b s t is h = subst (λ r. GivesLine r a b s t) is h

given_more : (result : Result Bool ReadStop) (read : Bool) (line : Line) → result ≡ Ok read → read ≡ true → given result line ≡ Ok (Some line)
given_more result read line is more = rw (is, more) refl

given_none : (result : Result Bool ReadStop) (read : Bool) (line : Line) → result ≡ Ok read → read ≡ false → given result line ≡ Ok None
given_none result read line is none = rw (is, none) refl

given_stop : (result : Result Bool ReadStop) (stop : ReadStop) (line : Line) → result ≡ Err stop → given result line ≡ Err stop
given_stop result stop line is = rw is refl

pub loop-trace-init : goal.loop-trace-init
loop-trace-init g c = rw (c.new-report.ensures, c.new-trace.ensures) (begun _ _)

pub returns-in-Ok-false : goal.returns-in-Ok-false
returns-in-Ok-false g c =
    record { finds = rw (c.finding_at.ensures) (finds_end _ _ _ c.next_into.new.self _ _ _ _ (g.S.Source.seen c.next_into.new.source) c.loop-trace.invariant (given_as _ _ _ _ _ _ (given_none _ _ _ c.in-Ok-false.is c.in-Ok-false.field-0-test) c.next_into.ensures) c.has_ended.ensures) }

pub returns-in-Err : goal.returns-in-Err
returns-in-Err g c =
    record { finds = rw (c.stop_at.ensures) (finds_stop _ _ _ _ _ _ _ _ _ c.loop-trace.invariant (given_as _ _ _ _ _ _ (given_stop _ c.in-Err.stop _ (search rules)) c.next_into.ensures)) }

pub returns-in-Some : goal.returns-in-Some
returns-in-Some g c =
    record { finds = finds_broken _ _ _ _ _ _ _ _ _ _ c.loop-trace.invariant (given_as _ _ _ _ _ _ (given_more _ _ _ c.in-Ok-true.is c.in-Ok-true.field-0-test) c.next_into.ensures) (sym c.in_ok-rule.ensures.told ∙ c.in-Some.is) }

pub loop-trace-preserved : goal.loop-trace-preserved
loop-trace-preserved g c =
    further _ _ _ _ _ _ _ _ _ _ c.loop-trace.invariant (given_as _ _ _ _ _ _ (given_more _ _ _ c.in-Ok-true.is c.in-Ok-true.field-0-test) c.next_into.ensures) (sym c.in_ok-rule.ensures.told ∙ c.in_default.is) (c.in_ok-rule.ensures.taken c.in_default.is)
