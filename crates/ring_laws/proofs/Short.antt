-- A report of fewer than 2^64 lines shows fewer words that the back read.
use Rattle.std.proofs.Common.{◌^◌, ◌<◌, List, length, arith}
use Rattle.blk_base.specs.Options.{Options}
use Rattle.schedule_text.specs.declared.line.Detail.{Detail}
use Rattle.split_model.specs.Happening.{Happening}
use Rattle.split_model.specs.Report.{report_of}
use Rattle.ring_laws.proofs.BackReads.{reads_of, reads_short}

pub few_reads : (config : Options) (detail : Detail) (history : List Happening) → length (report_of config detail history) < 2 ^ 64 → reads_of (report_of config detail history) < 2 ^ 64
few_reads config detail history few = let short = reads_short (report_of config detail history) in omega arith
