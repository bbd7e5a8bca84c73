use Rattle.std.proofs.Common.{ap, ◌∙◌}
use Rattle.image_disk.specs.Image.{Image}
use Rattle.commands.proofs.Tallying.{zero_disk}
use Rattle.commands.proofs.bench.zero_disk.Goals as goal

pub returns-in-Ok : goal.returns-in-Ok
returns-in-Ok c =
    zero_disk _ c.in_ok-disk.disk c.attach.new.self c.in-Ok.field-0 (ap (λ (d : Image). d.content) c.in_ok-disk.ensures ∙ c.in_ok-zeros.ensures) c.in-Ok.ensures
