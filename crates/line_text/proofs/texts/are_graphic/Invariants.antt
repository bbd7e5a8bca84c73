use Rattle.std.proofs.Common.{◌≡◌, take, true}
use Rattle.std.specs.List.{list_all}
use Rattle.line_text.specs.Texts.{is_graphic}
use Rattle.line_text.proofs.texts.are_graphic.Given as goal

abbrev pub invariant-loop-byte : goal.invariant-loop-byte
invariant-loop-byte l = list_all is_graphic (take l.byte-index l.bytes) ≡ true
