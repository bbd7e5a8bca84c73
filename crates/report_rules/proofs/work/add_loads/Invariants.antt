use Rattle.std.proofs.Common.{◌≡◌, ◌+◌, ◌++◌, drop}
use Rattle.segment_list.specs.Segments.{sectors_of}
use Rattle.report_rules.specs.Work.{loads_of}
use Rattle.report_rules.proofs.work.add_loads.Given as goal

-- the segments so far are added
abbrev pub invariant-loop-s : goal.invariant-loop-s
invariant-loop-s l = record {
  added : l.tasks.items ++ loads_of l.disk (drop l.s-index l.segments) ≡ l.fn.tasks.items ++ loads_of l.sector l.segments;
  reached : l.disk + sectors_of (drop l.s-index l.segments) ≡ l.sector + sectors_of l.segments;
}
