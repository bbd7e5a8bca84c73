use Rattle.std.proofs.Common.{refl, ◌≡◌, ◌<◌, length, arith}
use Rattle.std.proofs.lemmas.Bool.Decides.{nat_tests}
use Rattle.schedule_run.proofs.Carrying.{fed, byte_refused, byte_taken, ready_less}
use Rattle.schedule_run.proofs.schedule.reading.Reader.take_byte.Goals as goal

pub end_line-requires : goal.end_line-requires
end_line-requires g c = ready_less 0 1 _ (omega arith) c.requires

pub returns-then-byte-eq10 : goal.returns-then-byte-eq10
returns-then-byte-eq10 g c = fed _ _ _ _ c.if-byte-eq10.true c.requires.unbroken c.end_line.ensures

pub returns-then-is_full : goal.returns-then-is_full
returns-then-is_full g c =
    let t = c.if-is_full.true in
    let v = c.is_full.ensures.value in
    let full : length c.args.self.now.part.items ≡ 128 = grind (arith, nat_tests) in
    byte_refused _ _ _ c.if-byte-eq10.false c.requires.unbroken full refl

pub returns : goal.returns
returns g c =
    let t = c.if-is_full.false in
    let v = c.is_full.ensures.value in
    let f = c.is_full.ensures.fits in
    let room : length c.args.self.now.part.items < 128 = grind (arith, nat_tests) in
    byte_taken _ _ _ c.if-byte-eq10.false c.requires.unbroken room c.push.ensures.items refl refl refl
