-- What the back makes of the front's keys (`io/blkif.h`). It is none where a key is malformed, or missing where it may not be.
use Rattle.std.specs.Prelude.{ℕ, ◌==◌, nat_le, if◌then◌else◌, List, [], ◌∷◌, ◌++◌, codes, Option, Some, None}
use Rattle.std.specs.Str.{bytes_eq}
use Rattle.std.specs.Option.{option_map}
use Rattle.blk_base.specs.declared.operation.Abi.{Abi}
use Rattle.blk_base.specs.declared.operation.Abi.TheVariants.{X64, X32}
use Rattle.xenbus_state.specs.declared.keys.FrontKey.{FrontKey}
use Rattle.xenbus_state.specs.declared.keys.FrontKey.TheVariants as key
use Rattle.xenbus_state.specs.declared.stage.BackBusStage.TheVariants as stage
use Rattle.xenbus_state.specs.Numbers.{number_of}
use Rattle.xenbus_state.specs.Reading.{count_read}
use Rattle.xenbus_state.specs.Programs.{after_page}
use Rattle.xenbus_state.specs.BackView.{BackView}

-- the order of a ring, at most 4
abbrev pub order_of : Option ℕ → Option ℕ
order_of None = None
order_of (Some n) = if nat_le n 4 then Some n else None

-- the layout of entries, which is that of 64-bit guests where the key is absent
abbrev pub layout_read : Option (List ℕ) → Option Abi
layout_read None = Some X64
layout_read (Some text) =
    if bytes_eq text (codes "x86_64-abi") then Some X64
    else (if bytes_eq text (codes "x86_32-abi") then Some X32
    else None)

-- what was read is kept, and this key is read next
abbrev pub with_order : BackView → FrontKey → ℕ → BackView
with_order v next order = record v { terms = record v.terms { order = order }; stage = stage.ReadKey next }

abbrev pub with_gref : BackView → FrontKey → ℕ → BackView
with_gref v next gref = record v { grefs = v.grefs ++ gref ∷ []; stage = stage.ReadKey next }

abbrev pub with_port : BackView → ℕ → BackView
with_port v port = record v { terms = record v.terms { port = port }; stage = stage.ReadKey key.Protocol }

abbrev pub with_layout : BackView → Abi → BackView
with_layout v abi = record v { terms = record v.terms { abi = abi }; stage = stage.ReadKey key.FeaturePersistent }

abbrev pub with_persistent : BackView → ℕ → BackView
with_persistent v n = record v { terms = record v.terms { persistent = n == 1 }; stage = stage.MapPage }

-- Without `ring-page-order` the ring has one page, whose reference `ring-ref` says. With an order of 0 `ring-ref0` says it, or where that is absent `ring-ref`.
abbrev pub key_read : FrontKey → Option (List ℕ) → BackView → Option BackView
key_read key.RingPageOrder None v = Some (with_order v key.RingRef 0)
key_read key.RingPageOrder (Some text) v = option_map (with_order v (key.RingRefOf 0)) (order_of (number_of text))
key_read (key.RingRefOf page) None v = if v.terms.order == 0 then Some (record v { stage = stage.ReadKey key.RingRef }) else None
key_read (key.RingRefOf page) (Some text) v = option_map (with_gref v (after_page v.terms.order page)) (number_of text)
key_read key.RingRef None v = None
key_read key.RingRef (Some text) v = option_map (with_gref v key.EventChannel) (number_of text)
key_read key.EventChannel None v = None
key_read key.EventChannel (Some text) v = option_map (with_port v) (number_of text)
key_read key.Protocol text v = option_map (with_layout v) (layout_read text)
key_read key.FeaturePersistent text v = option_map (with_persistent v) (count_read text)
