use Rattle.negotiation_laws.proofs.Beginning.{epochs_begin}
use Rattle.negotiation_laws.proofs.each_epoch_begins_so.Goals as goal

pub returns : goal.returns
returns c = epochs_begin
