-- What the command `check` says of a report.
use Rattle.std.specs.Prelude.{ℕ, List, ◌++◌, codes, decimal}
use Rattle.checked_rules.specs.Word.{rule_word}
use Rattle.trace_check.specs.declared.finding.Finding.{Finding}
use Rattle.trace_check.specs.declared.finding.Finding.TheVariants.{Legal, Broken}

-- the line of a finding
abbrev pub finding_line : Finding → List ℕ
finding_line Legal = codes "legal\n"
finding_line (Broken line broken) = codes "broken " ++ (decimal line ++ (codes " " ++ (rule_word broken ++ codes "\n")))
