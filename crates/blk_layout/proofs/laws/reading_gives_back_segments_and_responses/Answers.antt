use Rattle.blk_layout.proofs.ResponseLaid.{segment_back, response_back}
use Rattle.blk_layout.proofs.laws.reading_gives_back_segments_and_responses.Goals as goal

pub returns : goal.returns
returns c = record { segment = segment_back; response = response_back }
