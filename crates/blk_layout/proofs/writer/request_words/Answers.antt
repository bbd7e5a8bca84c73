use Rattle.std.proofs.Common.{length, ap, ◌∙◌}
use Rattle.blk_layout.specs.Entry.{raw_of}
use Rattle.blk_layout.proofs.Back.{length-words_of}
use Rattle.blk_layout.proofs.Laid.{direct_laid, discard_laid, indirect_laid, indirect_room}
use Rattle.blk_layout.proofs.writer.request_words.Goals as goal

pub padded-requires-in-Indirect : goal.padded-requires-in-Indirect
padded-requires-in-Indirect c =
    rw (c.put_pages.ensures.appended, c.push.ensures.items, c.begin-words-in-Indirect.ensures)
    (indirect_room c.args.abi c.head-in-Indirect.result c.in-Indirect.id c.in-Indirect.sector c.from.result c.in-Indirect.pages c.put_pages.ensures.whole)

pub returns-in-Direct-clause-words : goal.returns-in-Direct-clause-words
returns-in-Direct-clause-words c =
    rw (c.put_segments.ensures.appended, c.begin-words.ensures, c.head.ensures, c.direct_number.ensures, c.in-Direct.is)
    (direct_laid c.args.abi _ _ _ _ _ c.in-Direct.segments c.put_segments.ensures.whole)

pub returns-in-Discard-clause-words : goal.returns-in-Discard-clause-words
returns-in-Discard-clause-words c =
    rw (c.padded.ensures, c.put_double.ensures, c.begin-words-in-Discard.ensures, c.head-in-Discard.ensures, c.in-Discard.is)
    (discard_laid c.args.abi _ _ _ _ _)

pub returns-in-Indirect-clause-words : goal.returns-in-Indirect-clause-words
returns-in-Indirect-clause-words c =
    rw (c.padded-in-Indirect.ensures, c.put_pages.ensures.appended, c.push.ensures.items, c.begin-words-in-Indirect.ensures, c.from.ensures, c.head-in-Indirect.ensures, c.indirect_number.ensures, c.in-Indirect.is)
    (indirect_laid c.args.abi _ _ _ _ _ c.in-Indirect.pages c.put_pages.ensures.whole)

pub returns-in-Direct-clause-long : goal.returns-in-Direct-clause-long
returns-in-Direct-clause-long c = ap length (returns-in-Direct-clause-words c) ∙ length-words_of c.args.abi (raw_of c.args.request.now)

pub returns-in-Discard-clause-long : goal.returns-in-Discard-clause-long
returns-in-Discard-clause-long c = ap length (returns-in-Discard-clause-words c) ∙ length-words_of c.args.abi (raw_of c.args.request.now)

pub returns-in-Indirect-clause-long : goal.returns-in-Indirect-clause-long
returns-in-Indirect-clause-long c = ap length (returns-in-Indirect-clause-words c) ∙ length-words_of c.args.abi (raw_of c.args.request.now)
