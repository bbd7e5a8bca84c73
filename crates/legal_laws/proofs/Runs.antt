-- A lawful report is what a run promises.
use Rattle.std.proofs.Common.{ℕ, List}
use Rattle.std.specs.Prelude.{Option}
use Rattle.blk_base.specs.Options.{Options}
use Rattle.schedule_text.specs.declared.event.Event.{Event}
use Rattle.schedule_text.specs.declared.line.Detail.{Detail}
use Rattle.schedule_text.specs.declared.line.Line.{Line}
use Rattle.report_rules.specs.Obeys.{Obeys}
use Rattle.machine_pipeline.specs.Submissions.{jobs_of}
use Rattle.schedule_text.specs.Recorder.{report_text}
use Rattle.checked_rules.specs.Rules.{KeepsAll}
use Rattle.trace_check.specs.Found.{EndsWell}
use Rattle.legal_laws.specs.Promised.{IsPromised, IsFoundLegal}
use Rattle.legal_laws.proofs.Promised.{jobs_asked, promised_legal, promised_found_legal}
use Rattle.legal_laws.specs.Runs.{IsRunReport}

promised : (config : Options) (detail : Detail) (events : List Event) (before now : Option (List (List ℕ))) (report : List Line)
    → IsRunReport config detail events before now report → IsPromised config detail (jobs_of events) report
promised config detail events before now report r =
    let served = r.lawful.so_far.honest r.disk in
    record {
      rest = r.lawful.begun.rest;
      first = r.lawful.begun.first;
      body = record { once = r.lawful.begun.once; unmoved = r.lawful.begun.unmoved };
      run = (served.disk.first, served.disk.disk, served.disk.run);
      submissions = served.submissions;
      asked = jobs_asked (jobs_of events) r.widths;
      states = served.states;
      settled = r.lawful.so_far.settled;
      moves = r.lawful.so_far.rules;
    }

pub lawful_kept : (config : Options) (detail : Detail) (events : List Event) (before now : Option (List (List ℕ))) (report : List Line)
    → IsRunReport config detail events before now report → Obeys KeepsAll report × EndsWell report
lawful_kept config detail events before now report r =
    promised_legal config detail events (jobs_of events) report (promised config detail events before now report r) r.echo

pub lawful_found : (config : Options) (detail : Detail) (events : List Event) (before now : Option (List (List ℕ))) (report : List Line)
    → IsRunReport config detail events before now report → IsFoundLegal (report_text report)
lawful_found config detail events before now report r =
    promised_found_legal config detail events (jobs_of events) report (promised config detail events before now report r) r.echo r.lawful.so_far.grammar.lines
