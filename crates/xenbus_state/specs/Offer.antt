-- What a back offers under the options of a run, and what its disk is.
use Rattle.std.specs.Prelude.{not, ◌==◌}
use Rattle.blk_base.specs.Options.{Options}
use Rattle.xenbus_state.specs.declared.offer.Features.{Features}
use Rattle.xenbus_state.specs.declared.offer.DiskFacts.{DiskFacts}

-- A read-only disk has no barriers, flushes and discards. The greatest order is 4, persistent grants are on where mappings are kept.
abbrev pub offer_of : Options → Features
offer_of config = record {
  barrier = not config.read_only;
  flush = not config.read_only;
  discard = not config.read_only;
  persistent = not (config.persistent == 0);
  indirect = config.indirect;
  order = 4;
}

abbrev pub facts_of : Options → DiskFacts
facts_of config = record { sectors = config.sectors; read_only = config.read_only }
