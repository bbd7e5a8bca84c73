-- What an end does with the keys of both (`io/xenbus.h`), what that makes of the directory, and the lines that it shows.
use Rattle.std.specs.Prelude.{ℕ, Bool, true, false, not, ◌&&◌, ◌||◌, List, [], ◌∷◌, ◌++◌, Option, Some, None, if◌then◌else◌, ◌==◌, codes}
use Rattle.std.specs.List.{list_all}
use Rattle.std.specs.Str.{bytes_eq}
use Rattle.blk_base.specs.declared.operation.Abi.{Abi}
use Rattle.blk_base.specs.declared.operation.Abi.TheVariants.{X64, X32}
use Rattle.blk_base.specs.declared.parts.End.{End}
use Rattle.blk_base.specs.declared.parts.End.TheVariants as end
use Rattle.blk_base.specs.declared.moves.Mover.{Mover}
use Rattle.blk_base.specs.declared.moves.Mover.TheVariants as mover
use Rattle.blk_base.specs.declared.moves.Move.TheVariants as moves
use Rattle.schedule_text.specs.declared.line.Line.{Line}
use Rattle.schedule_text.specs.declared.line.Line.TheVariants.{Move}
use Rattle.key_directory.specs.Paths.{directory_of}
use Rattle.key_directory.specs.Directory.{Directory, key_of, written, watches_of, with_watches}
use Rattle.key_directory.specs.Watches.{with_watch, next_watch, taken}
use Rattle.hypervisor.specs.Act.{is_own_path}
use Rattle.blk_back.specs.declared.stage.BackStage.{BackStage}
use Rattle.blk_back.specs.declared.stage.BackStage.TheVariants as stage
use Rattle.blk_back.specs.Ask.{is_led}
use Rattle.segment_list.specs.declared.verdict.DiskInfo.{DiskInfo}

-- it reads a key, sets one, watches a path, or takes the watch that fired first
pub data KeyMove : Type 0 where
  Gets : (path : List ℕ) → KeyMove
  Sets : (path text : List ℕ) → KeyMove
  Watches : (path : List ℕ) → KeyMove
  TakesWatch : KeyMove

abbrev pub mover_at : End → Mover
mover_at end.Front = mover.Front
mover_at end.Back = mover.Back

-- where a key of the front of this name lies
abbrev pub front_path : List ℕ → List ℕ
front_path name = directory_of end.Front ++ 47 ∷ name

-- the front's key for the layout of entries (`protocol` of `io/blkif.h`), and whether its text names this one: that of 64-bit guests where there is no such key
abbrev pub layout_path : List ℕ
layout_path = codes "/local/domain/1/device/vbd/51712/protocol"

abbrev pub names_layout : List ℕ → Bool
names_layout path = bytes_eq path layout_path

abbrev pub is_layout : Abi → Option (List ℕ) → Bool
is_layout X64 None = true
is_layout X32 None = false
is_layout X64 (Some text) = bytes_eq text (codes "x86_64-abi")
is_layout X32 (Some text) = bytes_eq text (codes "x86_32-abi")

-- the back's keys for what it serves beside reads and writes (`io/blkif.h`), and that for persistent grants, which it doesn't offer
abbrev pub barrier_path : List ℕ
barrier_path = codes "/local/domain/0/backend/vbd/1/51712/feature-barrier"

abbrev pub flush_path : List ℕ
flush_path = codes "/local/domain/0/backend/vbd/1/51712/feature-flush-cache"

abbrev pub discard_path : List ℕ
discard_path = codes "/local/domain/0/backend/vbd/1/51712/feature-discard"

abbrev pub indirect_path : List ℕ
indirect_path = codes "/local/domain/0/backend/vbd/1/51712/feature-max-indirect-segments"

abbrev pub names_feature : List ℕ → Bool
names_feature path = bytes_eq path barrier_path || bytes_eq path flush_path || bytes_eq path discard_path || bytes_eq path indirect_path

abbrev pub names_persistent : List ℕ → Bool
names_persistent path = bytes_eq path (codes "/local/domain/0/backend/vbd/1/51712/feature-persistent")

abbrev pub is_zero_text : List ℕ → Bool
is_zero_text text = bytes_eq text (codes "0")

-- a key of a feature says that there is one, unless it is 0
abbrev pub is_offer : List ℕ → Bool
is_offer digits = not (list_all (λ (d : ℕ). d == 48) digits)

-- what the back's keys say that it serves beside reads and writes
pub record Serving : Type 0 where
  pub barrier : Bool
  pub flush : Bool
  pub discard : Bool
  pub indirect : Bool

-- a key that isn't there offers nothing
abbrev pub offers : Option (List ℕ) → Bool
offers None = false
offers (Some text) = is_offer text

abbrev pub said_by : Directory → Serving
said_by d = record {
  barrier = offers (key_of d.keys barrier_path);
  flush = offers (key_of d.keys flush_path);
  discard = offers (key_of d.keys discard_path);
  indirect = offers (key_of d.keys indirect_path);
}

-- the disk that the back publishes has exactly that
abbrev pub is_like : Bool → Bool → Bool
is_like true b = b
is_like false b = not b

abbrev pub says_served : Serving → DiskInfo → Bool
says_served s info = is_like s.barrier info.barrier && is_like s.flush info.flush && is_like s.discard info.discard && is_like s.indirect (not (info.max_indirect == 0))

-- an end sets keys under its own directory alone, and offers no persistent grants
abbrev pub may_set : End → (path text : List ℕ) → Bool
may_set at path text = is_own_path at path && (not (names_persistent path) || is_zero_text text)

-- the back is between two entries and two replies, each up to the end of its push: within one it makes no other move
abbrev pub is_between : BackStage → Bool
is_between (stage.Fetch k) = false
is_between (stage.ReplyHigh r) = false
is_between (stage.ReplyLast r) = false
is_between (stage.Producer r) = false
is_between (stage.ProducerFence old) = false
is_between (stage.ResponseEvent old) = false
is_between stage.Send = false
is_between s = true

-- the move reads the key for the layout, or sets one for a feature
abbrev pub is_early : KeyMove → Bool
is_early (Gets path) = names_layout path
is_early (Sets path text) = names_feature path
is_early move = false

-- an end may turn to its keys, as the back stands: the back sets the keys for its features, and reads the one for the layout, only while it waits for the terms of its front
abbrev pub may_negotiate : BackStage → End → KeyMove → Bool
may_negotiate s end.Front move = true
may_negotiate s end.Back move = is_between s && (not (is_early move) || is_led s)

abbrev pub keys_after : End → KeyMove → Directory → Directory
keys_after at (Gets path) d = d
keys_after at (Sets path text) d = if may_set at path text then written d path text else d
keys_after at (Watches path) d = with_watches d at (with_watch (watches_of d at) path)
keys_after at TakesWatch d = with_watches d at (taken (watches_of d at))

abbrev pub watched_lines : End → Option (List ℕ) → List Line
watched_lines at None = []
watched_lines at (Some path) = Move (moves.Watched (mover_at at) path) ∷ []

abbrev pub key_lines : End → KeyMove → Directory → List Line
key_lines at (Gets path) d = Move (moves.GetKey (mover_at at) path (key_of d.keys path)) ∷ []
key_lines at (Sets path text) d = if may_set at path text then Move (moves.SetKey (mover_at at) path text) ∷ [] else []
key_lines at (Watches path) d = Move (moves.Watch (mover_at at) path) ∷ []
key_lines at TakesWatch d = watched_lines at (next_watch (watches_of d at))

-- where the end may not turn to its keys nothing happens
abbrev pub negotiated : BackStage → End → KeyMove → Directory → Directory
negotiated s at move d = if may_negotiate s at move then keys_after at move d else d

abbrev pub negotiated_lines : BackStage → End → KeyMove → Directory → List Line
negotiated_lines s at move d = if may_negotiate s at move then key_lines at move d else []
