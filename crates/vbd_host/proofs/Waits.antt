-- What the ring's end asks is neither of keys nor of the disk; so where a host does nothing for the back, that waits.
use Rattle.std.proofs.Common.{◌≡◌, Bool, true, false, if◌then◌else◌, List, [], ◌∷◌, refl}
use Rattle.std.specs.Prelude.{Option, Some, None}
use Rattle.blk_base.specs.declared.parts.Mapping.{Mapping}
use Rattle.blk_base.specs.declared.ask.BackAsk.{BackAsk}
use Rattle.blk_base.specs.declared.ask.BackAsk.TheVariants as ask
use Rattle.blk_base.specs.declared.ask.BackAnswer.{BackAnswer}
use Rattle.blk_back.specs.declared.stage.Reply.{Reply}
use Rattle.blk_back.specs.declared.stage.BackStage.{BackStage}
use Rattle.blk_back.specs.declared.stage.BackStage.TheVariants as stage
use Rattle.blk_back.specs.View as ring
use Rattle.blk_back.specs.Ask as ring_ask
use Rattle.blk_back.specs.Ask.{is_wait}
use Rattle.xenbus_state.specs.declared.back.BackBusAsk.{BackBusAsk}
use Rattle.xenbus_state.specs.declared.back.BackBusAsk.TheVariants as bus_ask
use Rattle.vbd_back.specs.View.{View}
use Rattle.vbd_back.specs.Ask.{bus_ask_of, bus_moves, key_ask, ring_moves, ring_ask, ask_of, is_waiting, IsAnswer}
use Rattle.back_jobs.specs.Hands.{Names}
use Rattle.vbd_host.specs.Answer.{IsLeft, IsWithin}

abbrev is_of_ring : BackAsk → Bool
is_of_ring (ask.GetKey path) = false
is_of_ring (ask.SetKey path text) = false
is_of_ring (ask.Watch path) = false
is_of_ring (ask.DiskRead sector) = false
is_of_ring (ask.DiskWrite sector words) = false
is_of_ring ask.Flush = false
is_of_ring (ask.Trim sector count) = false
is_of_ring a = true

either_of : (c : Bool) (x y : BackAsk) → is_of_ring x ≡ true → is_of_ring y ≡ true → is_of_ring (if c then x else y) ≡ true
either_of true x y p q = p
either_of false x y p q = q

loop_of : (v : ring.View) (r : Option Reply) → is_of_ring (ring_ask.loop_ask v r) ≡ true
loop_of v (Some r) = refl
loop_of v None = either_of v.ring.asleep ask.Wait _ refl (either_of _ (ring_ask.index_ask v 0) (ring_ask.entry_ask v 0) refl refl)

unmap_of : (pages : List Mapping) → is_of_ring (ring_ask.unmap_ask pages) ≡ true
unmap_of [] = refl
unmap_of (page ∷ pages) = refl

asks_of : (s : BackStage) (v : ring.View) → is_of_ring (ring_ask.ask_at s v) ≡ true
asks_of stage.Loop v = loop_of v (ring_ask.next_reply v)
asks_of stage.UnmapRing v = unmap_of v.pages
asks_of stage.UnmapUnbound v = unmap_of v.pages
asks_of s v = refl

-- what answers such an ask answers it at the ring's end too
answered : (a : BackAsk) (given : BackAnswer) → is_of_ring a ≡ true → IsAnswer a given → ring_ask.IsAnswer a given
answered (ask.GetKey path) given n h = absurd (cc)
answered (ask.SetKey path text) given n h = absurd (cc)
answered (ask.Watch path) given n h = absurd (cc)
answered a given n h = h

pub ring_answered : (v : ring.View) (given : BackAnswer) → IsAnswer (ring_ask.ask_of v) given → ring_ask.IsAnswer (ring_ask.ask_of v) given
ring_answered v given h = answered (ring_ask.ask_of v) given (asks_of v.stage v) h

ring_left : (a : BackAsk) → is_of_ring a ≡ true → IsLeft a → is_wait a ≡ true
ring_left ask.Wait n l = refl
ring_left (ask.DiskRead sector) n l = absurd (cc)
ring_left (ask.DiskWrite sector words) n l = absurd (cc)
ring_left ask.Flush n l = absurd (cc)
ring_left (ask.Trim sector count) n l = absurd (cc)
ring_left a n l = absurd l

key_left : (a : BackBusAsk) → IsLeft (key_ask a) → is_wait (key_ask a) ≡ true
key_left bus_ask.Watch l = absurd l
key_left bus_ask.GetState l = absurd l
key_left (bus_ask.GetKey key) l = absurd l
key_left (bus_ask.SetState s) l = absurd l
key_left (bus_ask.SetKey key value) l = absurd l
key_left a l = refl

left_by : (b m : Bool) (a : BackBusAsk) (v : View) → IsLeft (if b then key_ask a else ring_ask m v) → is_wait (if b then key_ask a else ring_ask m v) ≡ true
left_by true m a v l = key_left a l
left_by false true a v l = ring_left (ring_ask.ask_of v.ring) (asks_of v.ring.stage v.ring) l
left_by false false a v l = refl

pub left_waits : (v : View) → IsLeft (ask_of v) → is_waiting v ≡ true
left_waits v l = left_by (bus_moves (bus_ask_of v) v.ring.stage) (ring_moves (bus_ask_of v) v.ring.stage) (bus_ask_of v) v l

-- what the back and its jobs ask to be read and written is within what they hold
pub names_within : (held : List Mapping) (a : BackAsk) → Names held a → IsWithin a
names_within held (ask.Read m word) n = n.1
names_within held (ask.Write m word value) n = (n.1, n.2)
names_within held a n = tt
