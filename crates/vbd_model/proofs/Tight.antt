-- The ring stays tight, whatever happens.
use Rattle.std.proofs.Common.{◌^◌, ◌<◌, ◌≤◌, List, sym, subst}
use Rattle.blk_base.specs.Options.{Options}
use Rattle.split_model.proofs.Tight as ring_tight
use Rattle.vbd_model.specs.World.{World, start_of}
use Rattle.vbd_model.specs.Happening.{Happening, after, all_does}
use Rattle.vbd_model.proofs.Running.{after_rings}

abbrev pub IsTight : World → Type 0
IsTight w = ring_tight.IsTight w.rings

pub tight_start : (config : Options) → config.order ≤ 4 → config.start < 2 ^ 32 → IsTight (start_of config)
tight_start config narrow within = ring_tight.tight_start config narrow within

pub tight_after : (hs : List Happening) (w : World) → IsTight w → IsTight (after hs w)
tight_after hs w tight = subst ring_tight.IsTight (sym (after_rings hs w)) (ring_tight.tight_after (all_does hs w) w.rings tight)
