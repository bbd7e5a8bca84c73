use Rattle.std.proofs.Common.{ap, length, ◌∙◌}
use Rattle.ring_inspect.proofs.Pieces.{entry_long}
use Rattle.ring_inspect.proofs.print.request.Goals as goal

pub read_request-requires : goal.read_request-requires
read_request-requires c = ap length c.as_slice.ensures.value ∙ entry_long c.args.abi c.args.shape.now.abi _ _ _ _ c.requires.abi c.entry_words.ensures c.words-words.ensures
