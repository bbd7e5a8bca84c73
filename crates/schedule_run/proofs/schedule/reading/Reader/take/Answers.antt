use Rattle.std.proofs.lemmas.Result.{err_from_is_err_and}
use Rattle.schedule_run.proofs.Carrying.{carries_nothing, carries_more, halts_in, ready_in}
use Rattle.schedule_run.proofs.schedule.reading.Reader.take.Goals as goal

pub loop-byte-init : goal.loop-byte-init
loop-byte-init g c = carries_nothing _ c.requires.unbroken c.requires.fits

pub take_byte-requires : goal.take_byte-requires
take_byte-requires g c = ready_in _ _ _ _ c.loop-byte-test.true c.requires c.loop-byte.invariant

pub returns-in_err-take_byte : goal.returns-in_err-take_byte
returns-in_err-take_byte g c =
    let stopped = err_from_is_err_and c.from_residual.result c.from_residual.ensures.1 in
    rw (stopped.1, stopped.2) (halts_in _ _ _ _ _ _ c.loop-byte-test.true c.loop-byte.invariant c.in_err-take_byte.ensures)

pub loop-byte-preserved : goal.loop-byte-preserved
loop-byte-preserved g c = carries_more _ _ _ _ _ c.loop-byte-test.true c.loop-byte.invariant c.in_ok-take_byte.ensures
