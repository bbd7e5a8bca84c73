use Rattle.std.proofs.Common.{◌∙◌}
use Rattle.blk_layout.proofs.ResponseLaid.{response_laid, bits_of-bits}
use Rattle.blk_layout.proofs.response.response_words.Goals as goal

pub returns : goal.returns
returns c = response_laid c.args.response.now c.ending.result c.cast_unsigned-status.result c.ending.ensures (c.cast_unsigned-status.ensures ∙ rw c.code.ensures (bits_of-bits c.args.response.now.status))
