-- Coherent reads: what a line shows of memory is what the lines before it left there.
use Rattle.std.specs.Prelude.{◌≡◌, List}
use Rattle.blk_base.specs.declared.moves.Move.TheVariants as moves
use Rattle.schedule_text.specs.declared.line.Line.{Line}
use Rattle.schedule_text.specs.declared.line.Line.TheVariants as lines
use Rattle.report_rules.specs.Obeys.{Obeys}
use Rattle.report_rules.specs.Value.{value_before}

-- a read, the word that a compare and exchange saw, and a word of the dump show the value of their word
abbrev pub IsCoherentAt : List Line → Line → Type 0
IsCoherentAt before (lines.Move (moves.FrontRead frame word value)) = value ≡ value_before before frame word
IsCoherentAt before (lines.Move (moves.FrontCas frame word old new seen)) = seen ≡ value_before before frame word
IsCoherentAt before (lines.Move (moves.Read who number frame word value)) = value ≡ value_before before frame word
IsCoherentAt before (lines.Word frame word value) = value ≡ value_before before frame word
IsCoherentAt before line = Unit {0}

abbrev pub IsCoherent : List Line → Type 0
IsCoherent report = Obeys IsCoherentAt report
