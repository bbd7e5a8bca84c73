use Rattle.std.proofs.Common.{refl}
use Rattle.pipeline_laws.specs.Pipeline.{pipeline_of}
use Rattle.pipeline_laws.proofs.Effects.{effects_of_calls}
use Rattle.pipeline_laws.proofs.the_effects_of_a_report_are_the_calls_of_its_disk.Goals as goal

pub returns : goal.returns
returns c r = (r.disk.content, refl, effects_of_calls r.steps (pipeline_of r.options) _ refl r.allowed r.disk.content r.disk.later r.disk.runs)
