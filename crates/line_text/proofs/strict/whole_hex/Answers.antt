use Rattle.line_text.proofs.Digits.{both_halves}
use Rattle.line_text.proofs.strict.whole_hex.Goals as goal

pub returns : goal.returns
returns c = both_halves _ _ _ c.in-len8.len_at_least c.in-len8.len_below c.in_ok-high.ensures.small c.in_ok-low.ensures.small c.in_ok-high.ensures.digits c.in_ok-low.ensures.digits
