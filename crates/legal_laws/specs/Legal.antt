-- The rules of a report, kept one by one over all its lines, make it legal (`io/ring.h`, `io/blkif.h`, `io/xenbus.h`, `grant_table.h`).
use Rattle.std.specs.Prelude.{List}
use Rattle.schedule_text.specs.declared.line.Line.{Line}
use Rattle.plain_disk.specs.Honest.{honest_part}
use Rattle.report_rules.specs.Obeys.{Obeys}
use Rattle.request_check.specs.Rules.{KeepsRequests}
use Rattle.checked_rules.specs.Rules.{IsOrderAt, KeepsAll, ObeysEach, move_rules}

-- the order; the rules on requests in the part that no hostile hand has touched; and the rules on moves, where moves are shown
abbrev pub HonestPartIsLegal : Type 0
HonestPartIsLegal = (report : List Line) → Obeys IsOrderAt report → Obeys KeepsRequests (honest_part report)
    → ObeysEach move_rules report → Obeys KeepsAll report

-- the rules on requests in all of it
abbrev pub KeptIsLegal : Type 0
KeptIsLegal = (report : List Line) → Obeys IsOrderAt report → Obeys KeepsRequests report
    → ObeysEach move_rules report → Obeys KeepsAll report
