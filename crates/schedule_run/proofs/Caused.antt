-- What a report shows of both ends stands where its cause does, also in the beginning of a report.
use Rattle.std.proofs.Common.{◌≡◌, ◌≤◌, List, [], ◌++◌}
use Rattle.blk_base.specs.Options.{Options}
use Rattle.schedule_text.specs.Range.{AreOptions}
use Rattle.schedule_text.specs.Recorder.{kept_of}
use Rattle.schedule_text.specs.declared.line.Detail.{Detail}
use Rattle.schedule_text.specs.declared.line.Detail.TheVariants.{Moves}
use Rattle.schedule_text.specs.declared.line.Line.{Line}
use Rattle.report_rules.proofs.Obeys.{obeys_none, obeys_before}
use Rattle.vbd_model.specs.Happening.{Happening}
use Rattle.vbd_model.specs.Report.{ended_report_of}
use Rattle.vbd_laws.proofs.Halts.{ended_halts}
use Rattle.vbd_laws.proofs.BreaksReport.{ended_breaks, ended_over, ended_reads}
use Rattle.vbd_laws.proofs.StateLines.{ended_states}
use Rattle.schedule_run.specs.Lawful.{HasCauses}

pub ended_caused : (config : Options) (detail : Detail) (history : List Happening) → AreOptions config → config.indirect ≤ 960 → detail ≡ Moves → HasCauses (kept_of detail (ended_report_of config detail history))
ended_caused config detail history options few moves = record {
  halts = ended_halts config detail history few moves;
  breaks = ended_breaks config detail history options moves;
  over = ended_over config detail history options moves;
  answers = ended_reads config detail history options moves;
  states = ended_states config detail history few moves;
}

pub caused_before : (report more : List Line) → HasCauses (report ++ more) → HasCauses report
caused_before report more h = record {
  halts = obeys_before _ report more h.halts;
  breaks = obeys_before _ report more h.breaks;
  over = obeys_before _ report more h.over;
  answers = obeys_before _ report more h.answers;
  states = obeys_before _ report more h.states;
}

pub nothing_caused : HasCauses []
nothing_caused = record { halts = obeys_none _; breaks = obeys_none _; over = obeys_none _; answers = obeys_none _; states = obeys_none _ }
