-- A place may go to another thread, with the front that it owns.
use base.Shift.{Keyless}
use mir.Raw.{raw}
use denote.Memory.{lone}
use denote.RawPtr.{Ptr}
use denote.Struct.Struct.{exits_of}
use denote.Struct.Owning.{shape, fields, to}
use denote.Param.Send.{IsSend, AllSend, owning_send, struct_send, sendable}
use Rattle.std.specs.Prelude.{Option, Some, None}
use Rattle.std.proofs.Crossing as heap
use Rattle.std_alloc.proofs.SendSync.{quiet, lies}
use Rattle.std_heap.specs.contracts.Global as Heap
use Rattle.std_heap.proofs.Global.TheSendSync as handle
use Rattle.vbd_front.specs.Keep.{KeepingView}
use Rattle.vbd_c.specs.FrontOwned.{place_owns}
use Rattle.vbd_c.specs.contracts.front_held.HeldFront as Held
use Rattle.vbd_c.proofs.front_held.HeldFront.TheSendSync.{the_send as held}
use Rattle.vbd_c.specs.contracts.front_place.FrontPlace.{the_row, the_type}

crosses : (a : Heap.the_row.Denot) (p : Ptr) (h : Option KeepingView) → Keyless (place_owns a p h)
crosses a p None = tt
crosses a p (Some v) = (lies Held.the_row held p v, heap.frees.frees a (raw (lone Held.the_row.mir)) p)

pub send : IsSend the_row
send =
    let all : AllSend (fields the_type) = (search sendable, (handle.the_field_send, tt)) in
    owning_send the_type all (λ d. crosses d.alloc d.ptr d.held)
    (λ k. quiet (to the_type) (exits_of k (fields the_type)) ((struct_send (shape the_type) all).leaving k))
