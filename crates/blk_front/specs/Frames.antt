-- A request's frames, in order.
use Rattle.std.specs.Prelude.{ℕ, List}

pub record Frames : Type 0 where
  pub items : List ℕ
