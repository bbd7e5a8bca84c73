-- What contracts see of the back.
use Rattle.std.specs.Prelude.{ℕ, Bool, false, List, [], slice_index_or, not, Option, None}
use Rattle.blk_base.specs.Options.{Options}
use Rattle.blk_base.specs.declared.operation.Abi.TheVariants.{X64}
use Rattle.blk_base.specs.declared.parts.Mapping.{Mapping}
use Rattle.blk_base.specs.declared.parts.Mode.TheVariants.{ReadOnly}
use Rattle.ring_words.specs.Ring.{Ring}
use Rattle.ring_words.specs.Shape.{Shape, entries_of, slot_word_of}
use Rattle.segment_list.specs.declared.verdict.DiskInfo.{DiskInfo}
use Rattle.back_jobs.specs.Jobs.{HeldJobs, none_held}
use Rattle.blk_back.specs.declared.stage.BackStage.{BackStage}
use Rattle.blk_back.specs.declared.stage.BackStage.TheVariants as stage
use Rattle.blk_back.specs.declared.told.BackTold.{BackTold}
use Rattle.blk_base.specs.declared.halt.Halt.{Halt}

-- What belongs to one ring (`struct xen_blkif_ring` of Linux's back): its own indices; whether the back sleeps; the requests' producer as last read; the front's port, as its negotiation read it; and the words of the entry being copied.
pub record RingInfo : Type 0 where
  pub indices : Ring
  pub asleep : Bool
  pub seen : ℕ
  pub port : ℕ
  pub entry : List ℕ

-- The back: its ring and what it does; the shape of its ring and the references of the ring's pages, as its negotiation read them; the pages that it has mapped; how many requests it fetched in this epoch; its jobs; what is to be told; and why it halted.
pub record View : Type 0 where
  pub ring : RingInfo
  pub stage : BackStage
  pub shape : Shape
  pub grefs : List ℕ
  pub pages : List Mapping
  pub fetched : ℕ
  pub jobs : HeldJobs
  pub told : Option BackTold
  pub halted : Option Halt

-- the ring's page of this number, and the word in its page that word i of the entry of index k is
abbrev pub no_page : Mapping
no_page = record { number = 0; gref = 0; mode = ReadOnly }

abbrev pub page_of : View → ℕ → Mapping
page_of v page = slice_index_or v.pages page no_page

abbrev pub slot_page : View → ℕ → ℕ → Mapping
slot_page v k i = page_of v (slot_word_of v.shape k i).0

abbrev pub slot_word : Shape → ℕ → ℕ → ℕ
slot_word s k i = (slot_word_of s k i).1

-- the disk as this back publishes it: barriers, flushes and discards where it may be written, indirect requests as the options say
abbrev pub info_of : Options → DiskInfo
info_of config = record {
  sectors = config.sectors;
  read_only = config.read_only;
  barrier = not config.read_only;
  flush = not config.read_only;
  discard = not config.read_only;
  max_indirect = config.indirect;
}

-- the shape of a ring that isn't known yet
abbrev pub no_shape : Shape
no_shape = record { abi = X64; order = 0 }

-- a back that waits for the terms of its front, of a ring of this first index and of this disk
abbrev pub new_of : (start : ℕ) → DiskInfo → View
new_of start info = record {
  ring = record { indices = record { entries = entries_of 0; prod = start; cons = start }; asleep = false; seen = start; port = 0; entry = [] };
  stage = stage.InitWait;
  shape = no_shape;
  grefs = [];
  pages = [];
  fetched = 0;
  jobs = none_held (entries_of 4) info;
  told = None;
  halted = None;
}

abbrev pub start_of : Options → View
start_of config = new_of config.start (info_of config)
