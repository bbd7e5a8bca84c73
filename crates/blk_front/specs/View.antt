-- What contracts see of the front, and the places of the machine that it works in.
use Rattle.std.specs.Prelude.{ℕ, replicate, ◌+◌, ◌-◌, ◌*◌, ◌/◌, ◌%◌, Bool, false, List, [], length, slice_get, Option, None, if◌then◌else◌, ◌==◌}
use Rattle.ring_words.specs.Ring.{Ring, next_of}
use Rattle.ring_words.specs.Shape.{Shape, entries_of, slot_word_of}
use Rattle.blk_base.specs.Options.{Options}
use Rattle.blk_front.specs.declared.stage.FrontStage.{FrontStage}
use Rattle.blk_front.specs.declared.stage.FrontStage.TheVariants as stage
use Rattle.blk_front.specs.Pool.{empty_pool}
use Rattle.blk_front.specs.declared.request.Request.{Request}
use Rattle.blk_front.specs.declared.stage.Ending.{Ending}
use Rattle.blk_front.specs.declared.told.Told.{Told}
use Rattle.blk_front.specs.declared.state.Offers.{Offers}

-- What belongs to one ring (`struct blkfront_ring_info` of Linux's front): its own indices; whether the front sleeps; the responses' producer as last read; and the words of the entry being written.
pub record RingInfo : Type 0 where
  pub indices : Ring
  pub asleep : Bool
  pub seen : ℕ
  pub entry : List ℕ

-- The front: the ring's first index; what its back published of its disk and of what it serves, as it read it; the shape of its ring; its ring and what it does; whether it closes; the last number given; the unfinished requests in order of number, of which the last `waiting` aren't issued yet; the request whose response was taken, until it is finished; the frames in use; the frames whose grants are kept; the words of the sector being read; what is to be told.
pub record View : Type 0 where
  pub start : ℕ
  pub offers : Offers
  pub shape : Shape
  pub ring : RingInfo
  pub stage : FrontStage
  pub closing : Bool
  pub last : ℕ
  pub waiting : ℕ
  pub requests : List Request
  pub ending : Option Ending
  pub pool : List Bool
  pub kept : List Bool
  pub words : List ℕ
  pub told : Option Told

-- the ring's first frame, and the frame of a page of the ring
abbrev pub ring_frame : ℕ
ring_frame = 2

abbrev pub ring_page_frame : ℕ → ℕ
ring_page_frame page = ring_frame + page

-- frame f has the reference f + 6; the entry of reference r is at frame r / 512, words 2 (r mod 512) and the next
abbrev pub reference_of : ℕ → ℕ
reference_of frame = frame + 6

abbrev pub entry_frame : ℕ → ℕ
entry_frame frame = reference_of frame / 512

abbrev pub entry_word : ℕ → ℕ
entry_word frame = 2 * (reference_of frame % 512)

-- the frame and the word of word i of the entry of index k
abbrev pub slot_frame : Shape → ℕ → ℕ → ℕ
slot_frame s k i = ring_frame + (slot_word_of s k i).0

abbrev pub slot_word : Shape → ℕ → ℕ → ℕ
slot_word s k i = (slot_word_of s k i).1

-- a fresh ring: both producers at its first index, both event words one further (FRONT_RING_INIT of `io/ring.h`), zeros up to the first entry
abbrev pub fresh_word : ℕ → ℕ → ℕ
fresh_word start k =
    if k == 0 then start
    else (if k == 1 then next_of start
    else (if k == 2 then start
    else (if k == 3 then next_of start
    else 0)))

-- the request that is issued next
abbrev pub next_request : View → Option Request
next_request v = if v.waiting == 0 then None else slice_get v.requests (length v.requests - v.waiting)

-- nothing is read yet: a disk of no sectors, and a back that serves reads and writes alone and keeps no mapping
abbrev pub no_offers : Offers
no_offers = record { sectors = 0; read_only = false; barrier = false; flush = false; discard = false; indirect = 0; persistent = false }

-- a front that makes its ring next
abbrev pub start_of : Options → View
start_of config = record {
  start = config.start;
  offers = no_offers;
  shape = record { abi = config.abi; order = config.order };
  ring = record { indices = record { entries = entries_of config.order; prod = config.start; cons = config.start }; asleep = false; seen = config.start; entry = [] };
  stage = stage.RingWord 0;
  closing = false;
  last = 0;
  waiting = 0;
  requests = [];
  ending = None;
  pool = empty_pool;
  kept = empty_pool;
  words = replicate 128 0;
  told = None;
}
