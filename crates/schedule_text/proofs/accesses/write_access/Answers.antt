use Rattle.schedule_text.proofs.AccessText.{read_pieces, write_pieces}
use Rattle.schedule_text.proofs.accesses.write_access.Goals as goal

pub returns-in-Read-clause-written : goal.returns-in-Read-clause-written
returns-in-Read-clause-written c = rw (c.in-Read.is, c.put_mapped.ensures.bytes, c.put.ensures.bytes, c.begin_back.ensures.bytes) (read_pieces c.in-Read.who c.in-Read.mapping c.in-Read.frame c.in-Read.word c.in-Read.value)

pub returns-in-Write-clause-written : goal.returns-in-Write-clause-written
returns-in-Write-clause-written c = rw (c.in-Write.is, c.put_mapped-in-Write.ensures.bytes, c.put-in-Write.ensures.bytes, c.begin_back-in-Write.ensures.bytes) (write_pieces c.in-Write.who c.in-Write.mapping c.in-Write.frame c.in-Write.word c.in-Write.value)
