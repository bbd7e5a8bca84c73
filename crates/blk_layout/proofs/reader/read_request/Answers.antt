use Rattle.std.proofs.Common.{arith}
use Rattle.blk_layout.specs.Entry.{request_of}
use Rattle.blk_layout.proofs.EntryRead.{as_discard, as_indirect, as_direct}
use Rattle.blk_layout.proofs.Standing.{stands_since}
use Rattle.blk_layout.proofs.reader.read_request.Goals as goal

pub returns-in-5-clause-value : goal.returns-in-5-clause-value
unfolding request_of
returns-in-5-clause-value c = rw (← c.of-at.ensures) (as_discard c.of-at.result c.args.words.now _ _ _ (let fits = c.type_inv.words 0 in omega arith) c.in-5.is c.double-id.ensures.value c.double-sector.ensures.value c.double.ensures.value)

pub returns-in-6-clause-value : goal.returns-in-6-clause-value
unfolding request_of
returns-in-6-clause-value c = rw (← c.of-at.ensures) (as_indirect c.of-at.result c.args.words.now _ _ _ (let fits = c.type_inv.words 0 in omega arith) c.in-6.is c.double-id.ensures.value c.double-sector.ensures.value c.pages.ensures)

pub returns-in_default-clause-value : goal.returns-in_default-clause-value
unfolding request_of
returns-in_default-clause-value c = rw (← c.of-at.ensures) (as_direct c.of-at.result c.args.words.now _ _ _ (let fits = c.type_inv.words 0 in omega arith) (omega arith) (omega arith) c.double-id.ensures.value c.double-sector.ensures.value c.segments.ensures)

pub returns-in-5-clause-stands : goal.returns-in-5-clause-stands
returns-in-5-clause-stands c = stands_since c.args.abi c.args.words.now _ (returns-in-5-clause-value c) (λ i. let fits = c.type_inv.words i in omega arith)

pub returns-in-6-clause-stands : goal.returns-in-6-clause-stands
returns-in-6-clause-stands c = stands_since c.args.abi c.args.words.now _ (returns-in-6-clause-value c) (λ i. let fits = c.type_inv.words i in omega arith)

pub returns-in_default-clause-stands : goal.returns-in_default-clause-stands
returns-in_default-clause-stands c = stands_since c.args.abi c.args.words.now _ (returns-in_default-clause-value c) (λ i. let fits = c.type_inv.words i in omega arith)
