use Rattle.std.proofs.Common.{◌≡◌, ◌++◌, drop}
use Rattle.report_rules.specs.Work.{pages_of}
use Rattle.report_rules.proofs.work.add_pages.Given as goal

-- the pages so far are added
abbrev pub invariant-loop-gref : goal.invariant-loop-gref
invariant-loop-gref l = l.tasks.items ++ pages_of l.left (drop l.gref-index l.pages) ≡ l.fn.tasks.items ++ pages_of l.count l.pages
