-- What the place of a front owns: what a box with it owns, or nothing.
use base.Fml.{Fml, ftrue}
use base.Stored.{Coded}
use denote.RawPtr.{Ptr}
use Rattle.std.specs.Prelude.{Option, Some, None}
use Rattle.std.specs.Coded.{coded_option}
use Rattle.std.specs.Box.Ownership.{box_owns}
use Rattle.std.specs.Global.{Global}
use Rattle.std_heap.specs.contracts.GlobalAllocator.TheImpl.{ghosts}
use Rattle.vbd_front.specs.Keep.{KeepingView}
use Rattle.vbd_c.specs.contracts.front_held.HeldFront.{the_row}

abbrev pub place_owns : Global → Ptr → Option KeepingView → Fml
place_owns alloc ptr None = ftrue
place_owns alloc ptr (Some held) = box_owns (ghosts.dealloc_token alloc) the_row ptr held

abbrev pub place_coded : Coded (Option KeepingView)
place_coded = coded_option the_row.coded
