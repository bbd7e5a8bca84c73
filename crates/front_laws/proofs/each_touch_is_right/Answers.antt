use Rattle.front_laws.specs.Touches.{IsTouch}
use Rattle.front_laws.proofs.Runs.{each_obeys}
use Rattle.front_laws.proofs.Asking.{touches_right}
use Rattle.front_laws.proofs.each_touch_is_right.Goals as goal

pub returns : goal.returns
returns c = each_obeys IsTouch touches_right
