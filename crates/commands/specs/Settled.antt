-- At each status, which count of faults rose, and what the output keeps back.
use Rattle.std.specs.Prelude.{◌≡◌, ◌≢◌, ℕ, ◌≤◌, ◌⊎◌}
use Rattle.blk_io.specs.Outside.{SinkSeen, Rose}
use Rattle.commands.specs.Scene.{Scene}

-- nothing more is kept back than before, and nothing failed; or the output failed
abbrev pub HandedOn : SinkSeen → SinkSeen → Type 0
HandedOn a b = ((b.kept_back ≤ a.kept_back) × (b.faults ≡ a.faults)) ⊎ Rose a.faults b.faults

-- the input failed at status 4 and no other, the output at 5, or where it was to hand on what it kept back after the reason of another status but 0; the image failed at 7
pub record Settles (status : ℕ) (old new : Scene) : Type 0 where
  pub input_failed : status ≡ 4 → Rose old.source.faults new.source.faults
  pub input_unfailed : status ≢ 4 → new.source.faults ≡ old.source.faults
  pub output_failed : status ≡ 5 → Rose old.output.faults new.output.faults
  pub handed_on : HandedOn old.output new.output
  pub output_done : status ≡ 0 → (new.output.kept_back ≡ 0) × (new.output.faults ≡ old.output.faults)
  pub image_failed : status ≡ 7 → Rose old.disk.faults new.disk.faults
