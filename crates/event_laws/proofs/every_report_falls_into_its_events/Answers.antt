use Rattle.event_laws.proofs.Parts.{report_by_events, ended_by_events}
use Rattle.event_laws.proofs.every_report_falls_into_its_events.Goals as goal

pub returns : goal.returns
returns c = record { report = report_by_events; ended = ended_by_events }
