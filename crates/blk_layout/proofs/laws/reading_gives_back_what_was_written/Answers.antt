use Rattle.blk_layout.proofs.Back.{length-words_of, reads_back}
use Rattle.blk_layout.proofs.Fitting.{written_stands}
use Rattle.blk_layout.proofs.laws.reading_gives_back_what_was_written.Goals as goal

pub returns : goal.returns
returns c = record { back = reads_back; stands = written_stands; long = length-words_of }
