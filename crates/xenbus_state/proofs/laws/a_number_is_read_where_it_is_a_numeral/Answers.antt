use Rattle.xenbus_state.proofs.Digits.{read_numeral, numeral_read}
use Rattle.xenbus_state.proofs.laws.a_number_is_read_where_it_is_a_numeral.Goals as goal

pub returns : goal.returns
returns c most limit n text = (read_numeral most limit n text, numeral_read most limit n text)
