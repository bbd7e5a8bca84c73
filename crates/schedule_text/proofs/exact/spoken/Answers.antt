use Rattle.std.proofs.Common.{ap, ◌∙◌, Some}
use Rattle.std.specs.Prelude.{Ok}
use Rattle.schedule_text.specs.Event.{event_text, is_event_allowed}
use Rattle.schedule_text.proofs.EventSpelling.{says_event}
use Rattle.schedule_text.proofs.exact.spoken.Goals as goal

pub returns-then-not-is_event_allowed-clause-only : goal.returns-then-not-is_event_allowed-clause-only
returns-then-not-is_event_allowed-clause-only c = λ event is.
    let same = c.event_of-event.ensures.says ∙ says_event event c.args.bytes.now is in
    cc (ap is_event_allowed same ∙ is.allowed, c.if-not-is_event_allowed.ensures)

pub returns-clause-only : goal.returns-clause-only
returns-clause-only c = λ event is. ap (λ (read : _). Ok (Some read)) (c.event_of-event.ensures.says ∙ says_event event c.args.bytes.now is)

pub returns-then-not-has_bytes-clause-only : goal.returns-then-not-has_bytes-clause-only
returns-then-not-has_bytes-clause-only c = λ event is.
    let same = c.event_of-event.ensures.says ∙ says_event event c.args.bytes.now is in
    cc (c.if-not-has_bytes.ensures.1 (c.write_event.ensures ∙ ap event_text same ∙ is.text))
