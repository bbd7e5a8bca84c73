-- The lines of what happened show the calls of a disk, where what a recorder keeps of their report does.
use Rattle.std.proofs.Common.{ℕ, List, [], ◌∷◌, ◌++◌, subst}
use Rattle.std.specs.Prelude.{Option, Some, None}
use Rattle.blk_base.specs.Options.{Options}
use Rattle.schedule_text.specs.declared.line.Detail.{Detail}
use Rattle.schedule_text.specs.declared.line.Line.{Line}
use Rattle.schedule_text.specs.declared.line.Line.TheVariants as lines
use Rattle.schedule_text.specs.Recorder.{kept_of}
use Rattle.pipeline_laws.specs.Effects.{LinesDo, IsOfADisk}
use Rattle.pipeline_laws.proofs.Effects.{lines_do_append, kept_effects}

without_first : (config : Options) (detail : Detail) (ls : List Line) (content later : List (List ℕ)) → LinesDo [] (lines.Begin config detail ∷ ls) content later → LinesDo [] ls content later
without_first config detail ls content later does = subst (λ (c : List (List ℕ)). LinesDo [] ls c later) does.1 does.2

-- of a beginning
pub of_a_disk_before : (sectors : ℕ) (before : Option (List (List ℕ))) (ls more : List Line) → IsOfADisk sectors before (ls ++ more) → IsOfADisk sectors before ls
of_a_disk_before sectors (Some content) ls more of = tt
of_a_disk_before sectors None ls more of =
    let its = lines_do_append [] ls more of.content of.later of.effects in
    record { content = of.content; sized = of.sized; later = its.0; effects = its.1 }

-- of the lines that a recorder was given
pub of_a_disk_told : (sectors : ℕ) (detail : Detail) (before : Option (List (List ℕ))) (ls : List Line) → IsOfADisk sectors before (kept_of detail ls) → IsOfADisk sectors before ls
of_a_disk_told sectors detail (Some content) ls of = tt
of_a_disk_told sectors detail None ls of = record { content = of.content; sized = of.sized; later = of.later; effects = kept_effects detail [] ls of.content of.later of.effects }

of_a_disk_after : (sectors : ℕ) (before : Option (List (List ℕ))) (config : Options) (detail : Detail) (ls : List Line) → IsOfADisk sectors before (lines.Begin config detail ∷ ls) → IsOfADisk sectors before ls
of_a_disk_after sectors (Some content) config detail ls of = tt
of_a_disk_after sectors None config detail ls of = record { content = of.content; sized = of.sized; later = of.later; effects = without_first config detail ls of.content of.later of.effects }

-- after the first line of a report that it keeps
pub of_a_disk_kept : (config : Options) (detail : Detail) (before : Option (List (List ℕ))) (ls : List Line) → IsOfADisk config.sectors before (kept_of detail (lines.Begin config detail ∷ ls)) → IsOfADisk config.sectors before ls
of_a_disk_kept config detail before ls of = of_a_disk_after config.sectors before config detail ls (of_a_disk_told config.sectors detail before (lines.Begin config detail ∷ ls) of)
