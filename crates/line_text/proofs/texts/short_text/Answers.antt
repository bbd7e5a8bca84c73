use Rattle.std.proofs.Common.{sym}
use Rattle.std.proofs.lemmas.Str.{IsUtf8-from_ascii}
use Rattle.line_text.proofs.TextLemmas.{graphic_ascii}
use Rattle.line_text.proofs.texts.short_text.Goals as goal

pub from_utf8_unchecked-requires : goal.from_utf8_unchecked-requires
from_utf8_unchecked-requires g c = IsUtf8-from_ascii c.args.word.now (graphic_ascii c.args.word.now (sym c.if-are_graphic.ensures))
