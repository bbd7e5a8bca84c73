-- What is true of the machine at every moment: each end's negotiation and its end of the ring go together, the front reads what its back offers only once all of that is said, and no event is pending at an end whose port isn't bound.
use Rattle.std.specs.Prelude.{◌≡◌, ℕ, ◌^◌, ◌<◌, ◌≤◌, ◌⊎◌, min, Bool, true, false, [], length, Option, Some, None, IsSome, is_some}
use Rattle.blk_base.specs.declared.parts.End.TheVariants as end
use Rattle.segment_list.specs.declared.verdict.DiskInfo.{DiskInfo}
use Rattle.key_directory.specs.Directory.{Directory, key_of}
use Rattle.ring_words.specs.Shape.{entries_of}
use Rattle.event_channel.specs.Channels.{ChannelState, is_bound}
use Rattle.blk_front.specs.declared.stage.FrontStage.{FrontStage}
use Rattle.blk_front.specs.declared.stage.FrontStage.TheVariants as front_ring
use Rattle.blk_front.specs.Ask.{is_through}
use Rattle.blk_front.specs.Submit.{is_ready, unfinished}
use Rattle.blk_front.specs.State.{is_made, is_bare}
use Rattle.blk_front.specs.Suspend.{is_left}
use Rattle.blk_back.specs.declared.stage.BackStage.{BackStage}
use Rattle.blk_back.specs.declared.stage.BackStage.TheVariants as back_ring
use Rattle.blk_back.specs.View as ends
use Rattle.xenbus_state.specs.declared.state.BusState.{BusState}
use Rattle.xenbus_state.specs.declared.state.BusState.TheVariants as state
use Rattle.xenbus_state.specs.declared.stage.FrontBusStage.{FrontBusStage}
use Rattle.xenbus_state.specs.declared.stage.FrontBusStage.TheVariants as front
use Rattle.xenbus_state.specs.declared.stage.BackBusStage.{BackBusStage}
use Rattle.xenbus_state.specs.declared.stage.BackBusStage.TheVariants as back
use Rattle.xenbus_state.specs.declared.keys.FrontKey.TheVariants as front_key
use Rattle.xenbus_state.specs.declared.keys.BackKey.{BackKey}
use Rattle.xenbus_state.specs.declared.keys.BackKey.TheVariants as back_key
use Rattle.xenbus_state.specs.declared.offer.Features.{Features}
use Rattle.xenbus_state.specs.declared.offer.DiskFacts.{DiskFacts}
use Rattle.xenbus_state.specs.Keys.{back_name, path_under}
use Rattle.xenbus_state.specs.Values.{text_of, back_value}
use Rattle.xenbus_state.specs.States.{state_read}
use Rattle.xenbus_state.specs.Programs.{IsFeature, IsFact}
use Rattle.xenbus_state.specs.FrontView.{FrontView}
use Rattle.xenbus_state.specs.BackView.{BackView, is_halting}
use Rattle.xenbus_state.specs.BackSound.{IsSound}
use Rattle.split_model.specs.Safe.{IsSafe}
use Rattle.vbd_front.specs.View.{is_broken}
use Rattle.vbd_front.specs.Ask.{other_state}
use Rattle.vbd_back.specs.View.{offer}
use Rattle.vbd_back.specs.Step.{shape_read}
use Rattle.vbd_model.specs.World.{World}

-- the grant of this page of the ring is being ended
abbrev pub IsEndingPage : (page : ℕ) → FrontStage → Type 0
IsEndingPage page (front_ring.RingRead k) = k ≡ page
IsEndingPage page (front_ring.RingEnd k seen) = k ≡ page
IsEndingPage page r = ⊥

-- where the front's end of the ring stands as its negotiation rests after it wrote this state, has read that the back is gone or not, and has this port
abbrev pub FrontRests : BusState → (gone : Bool) → Option ℕ → FrontStage → Type 0
FrontRests state.Initialising gone port r = (r ≡ front_ring.RingWord 0) × (port ≡ None)
FrontRests state.Initialised gone port r = (r ≡ front_ring.Initialised) × IsSome port
FrontRests state.Connected gone port r = (is_ready r ≡ true) × IsSome port
FrontRests state.Closing false None r = r ≡ front_ring.RingWord 0
FrontRests state.Closing false (Some port) r = is_made r ≡ true
FrontRests state.Closing true (Some port) r = IsEndingPage 0 r
FrontRests s gone port r = ⊥

-- the three moves of a page's grant: the frame, a fence, the flags
abbrev pub IsGranting : (page : ℕ) → FrontStage → Type 0
IsGranting page (front_ring.RingFrame k) = k ≡ page
IsGranting page (front_ring.RingFence k) = k ≡ page
IsGranting page (front_ring.RingFlags k) = k ≡ page
IsGranting page r = ⊥

-- the ring is made next; or data are left in hand after a suspend, which are told first
abbrev pub IsUnbegun : FrontStage → Type 0
IsUnbegun r = (r ≡ front_ring.RingWord 0) ⊎ (is_left r ≡ true)

-- and as it is at this; a ring that is broken leaves it at rest
abbrev pub FrontGoesWith : FrontBusStage → FrontView → FrontStage → Type 0
FrontGoesWith front.Start v r = (v.state ≡ state.Initialising) × IsUnbegun r × (v.port ≡ None)
FrontGoesWith front.Rest v r = FrontRests v.state v.gone v.port r ⊎ (is_broken r ≡ true)
FrontGoesWith front.ReadState v r = FrontRests v.state v.gone v.port r
FrontGoesWith (front.ReadFeature key) v r = (v.state ≡ state.Initialising) × (r ≡ front_ring.RingWord 0) × (v.port ≡ None)
FrontGoesWith (front.RingWord word) v r = (v.state ≡ state.Initialising) × (word < 16) × (r ≡ front_ring.RingWord word) × (v.port ≡ None)
FrontGoesWith (front.Grant page) v r = (v.state ≡ state.Initialising) × IsGranting page r × (v.port ≡ None)
FrontGoesWith front.NewPort v r = (v.state ≡ state.Initialising) × (r ≡ front_ring.NewPort) × (v.port ≡ None)
FrontGoesWith (front.Publish key) v r = (v.state ≡ state.Initialising) × (r ≡ front_ring.Initialised) × IsSome v.port
FrontGoesWith (front.ReadFact key) v r = (v.state ≡ state.Initialised) × (r ≡ front_ring.Initialised) × IsSome v.port
FrontGoesWith (front.WriteState state.Initialised) v r = (v.state ≡ state.Initialising) × (r ≡ front_ring.Initialised) × IsSome v.port
FrontGoesWith (front.WriteState state.Connected) v r = (v.state ≡ state.Initialised) × (r ≡ front_ring.Initialised) × IsSome v.port
FrontGoesWith (front.WriteState state.Closed) v r = (v.state ≡ state.Closing) × (is_bare r ≡ true) × (v.port ≡ None)
FrontGoesWith (front.EndGrant page) v r = (v.state ≡ state.Closing) × (IsEndingPage page r ⊎ (is_broken r ≡ true)) × IsSome v.port
FrontGoesWith front.ClosePort v r = (v.state ≡ state.Closing) × (r ≡ front_ring.ClosePort) × IsSome v.port
FrontGoesWith front.Closed v r = (v.state ≡ state.Closed) × (r ≡ front_ring.Closed) × (v.closing ≡ true)
FrontGoesWith (front.Broken word) v r = is_broken r ≡ true
FrontGoesWith b v r = ⊥

-- the order of the ring is agreed with a back that offers rings of up to 16 pages, order 4
abbrev pub IsAgreed : (wished offered order : ℕ) → Type 0
IsAgreed wished offered order = (order ≡ min wished offered) × (offered ≡ 4)

-- until then the front's end of the ring has the order that it wishes, or the one that was agreed in an earlier epoch
abbrev pub IsWished : (wished offered order : ℕ) → Type 0
IsWished wished offered order = (order ≡ wished) ⊎ IsAgreed wished offered order

-- without a port, and with one
abbrev pub PortOrdered : Option ℕ → (wished offered order : ℕ) → Type 0
PortOrdered None wished offered order = IsWished wished offered order
PortOrdered (Some port) wished offered order = IsAgreed wished offered order

-- the order is agreed as the ring is begun
abbrev pub FrontOrdered : FrontBusStage → FrontView → (order : ℕ) → Type 0
FrontOrdered (front.RingWord word) v order = IsAgreed v.order v.features.order order
FrontOrdered (front.Grant page) v order = IsAgreed v.order v.features.order order
FrontOrdered front.NewPort v order = IsAgreed v.order v.features.order order
FrontOrdered s v order = PortOrdered v.port v.order v.features.order order

-- the back's end of the ring has its pages and its port, and hasn't halted
abbrev pub is_serving : BackStage → Bool
is_serving back_ring.InitWait = false
is_serving back_ring.MapRing = false
is_serving back_ring.Bind = false
is_serving (back_ring.Abort m) = false
is_serving back_ring.UnmapRing = false
is_serving back_ring.ClosePort = false
is_serving back_ring.UnmapUnbound = false
is_serving back_ring.Halted = false
is_serving r = true

-- where it stands as its negotiation rests after it wrote this state, and as that reads the front's
abbrev pub BackRests : BusState → BackStage → Type 0
BackRests state.InitWait r = r ≡ back_ring.InitWait
BackRests state.Connected r = is_serving r ≡ true
BackRests state.Closing r = is_serving r ≡ true
BackRests s r = ⊥

abbrev pub BackReads : BusState → BackStage → Type 0
BackReads state.InitWait r = r ≡ back_ring.InitWait
BackReads state.Connected r = r ≡ back_ring.Loop
BackReads state.Closing r = r ≡ back_ring.Loop
BackReads s r = ⊥

-- a mapping of a job is unmapped; the ring's pages are
abbrev pub IsAborting : BackStage → Type 0
IsAborting (back_ring.Abort m) = Unit {0}
IsAborting r = ⊥

abbrev pub IsUnmapping : BackStage → Type 0
IsUnmapping back_ring.UnmapRing = Unit {0}
IsUnmapping back_ring.UnmapUnbound = Unit {0}
IsUnmapping r = ⊥

-- before anything of the front is mapped; after its port is bound; and after a halt
abbrev pub BackGoesWith : BackBusStage → BusState → BackStage → Type 0
BackGoesWith (back.Publish key) s r = (s ≡ state.Initialising) × (r ≡ back_ring.InitWait)
BackGoesWith (back.WriteState state.InitWait) s r = (s ≡ state.Initialising) × (r ≡ back_ring.InitWait)
BackGoesWith (back.WriteState state.Connected) s r = (s ≡ state.InitWait) × (r ≡ back_ring.Loop)
BackGoesWith (back.WriteState state.Closing) s r = r ≡ back_ring.Halted
BackGoesWith (back.WriteState state.Closed) s r = (s ≡ state.Closing) × (r ≡ back_ring.Halted)
BackGoesWith back.Watch s r = (s ≡ state.InitWait) × (r ≡ back_ring.InitWait)
BackGoesWith back.Rest s r = BackRests s r
BackGoesWith back.ReadState s r = BackReads s r
BackGoesWith (back.ReadKey front_key.FeaturePersistent) s r = (s ≡ state.InitWait) × (r ≡ back_ring.MapRing)
BackGoesWith (back.ReadKey k) s r = (s ≡ state.InitWait) × (r ≡ back_ring.InitWait)
BackGoesWith back.MapPage s r = (s ≡ state.InitWait) × (r ≡ back_ring.MapRing)
BackGoesWith back.Bind s r = (s ≡ state.InitWait) × (r ≡ back_ring.Bind)
BackGoesWith (back.PublishFact key) s r = (s ≡ state.InitWait) × (r ≡ back_ring.Loop) × IsFact key
BackGoesWith back.UnmapOthers s r = IsAborting r
BackGoesWith back.UnmapPage s r = IsUnmapping r
BackGoesWith back.ClosePort s r = r ≡ back_ring.ClosePort
BackGoesWith back.Halted s r = (s ≡ state.Closed) × (r ≡ back_ring.Halted)
BackGoesWith b s r = ⊥

-- the port that the negotiation counts is the one that the end of the ring has, and so are the pages
abbrev pub BackHolds : BackStage → (order pages : ℕ) → (bound : Bool) → Type 0
BackHolds back_ring.InitWait order pages bound = (pages ≡ 0) × (bound ≡ false)
BackHolds back_ring.MapRing order pages bound = (pages < 2 ^ order) × (bound ≡ false)
BackHolds back_ring.Bind order pages bound = (pages ≡ 2 ^ order) × (bound ≡ false)
BackHolds back_ring.UnmapUnbound order pages bound = (0 < pages) × (bound ≡ false)
BackHolds back_ring.UnmapRing order pages bound = (0 < pages) × (bound ≡ true)
BackHolds back_ring.ClosePort order pages bound = (pages ≡ 0) × (bound ≡ true)
BackHolds back_ring.Halted order pages bound = (pages ≡ 0) × (bound ≡ false)
BackHolds r order pages bound = (pages ≡ 2 ^ order) × (bound ≡ true)

-- once the layout is read the end of the ring has the terms that the negotiation read: the shape of the ring, the references of its pages, and the port
abbrev pub has_terms : BackStage → Bool
has_terms back_ring.InitWait = false
has_terms r = true

pub record HaveTerms (r : ends.View) (v : BackView) : Type 0 where
  pub shape : r.shape ≡ shape_read v
  pub grefs : r.grefs ≡ v.grefs
  pub port : r.ring.port ≡ v.terms.port

-- the disk as the end of the ring has it is the one that the negotiation publishes, and it serves what that offers
pub record IsOffered (info : DiskInfo) (f : Features) (disk : DiskFacts) : Type 0 where
  pub sectors : info.sectors ≡ disk.sectors
  pub read_only : info.read_only ≡ disk.read_only
  pub barrier : info.barrier ≡ f.barrier
  pub flush : info.flush ≡ f.flush
  pub discard : info.discard ≡ f.discard
  pub indirect : info.max_indirect ≡ f.indirect

-- the back's key says what a back that offers this has to say by it
abbrev pub SaysKey : Directory → Features → DiskFacts → BackKey → Type 0
SaysKey d f disk k = key_of d.keys (path_under end.Back (back_name k)) ≡ Some (text_of (back_value f disk k))

-- the keys for what it serves, and for how many pages a ring may have, say so: those before the key at hand while it publishes, then all
pub record IsServiceSaid (says : BackKey → Type 0) : Type 0 where
  pub barrier : says back_key.FeatureBarrier
  pub flush : says back_key.FeatureFlushCache
  pub discard : says back_key.FeatureDiscard
  pub indirect : says back_key.FeatureMaxIndirectSegments
  pub order : says back_key.MaxRingPageOrder

abbrev pub SaidBefore : (says : BackKey → Type 0) → BackKey → Type 0
SaidBefore says back_key.FeatureBarrier = Unit {0}
SaidBefore says back_key.FeatureFlushCache = says back_key.FeatureBarrier
SaidBefore says back_key.FeatureDiscard = says back_key.FeatureBarrier × says back_key.FeatureFlushCache
SaidBefore says back_key.FeaturePersistent = says back_key.FeatureBarrier × says back_key.FeatureFlushCache × says back_key.FeatureDiscard
SaidBefore says back_key.FeatureMaxIndirectSegments = says back_key.FeatureBarrier × says back_key.FeatureFlushCache × says back_key.FeatureDiscard
SaidBefore says back_key.MaxRingPageOrder = says back_key.FeatureBarrier × says back_key.FeatureFlushCache × says back_key.FeatureDiscard × says back_key.FeatureMaxIndirectSegments
SaidBefore says k = IsServiceSaid says

-- a back that has halted promises nothing of its keys: it may have halted from its beginning
abbrev pub SaidAt : (says : BackKey → Type 0) → BackBusStage → Type 0
SaidAt says (back.Publish k) = SaidBefore says k
SaidAt says back.Halted = Unit {0}
SaidAt says b = IsServiceSaid says

-- the back's state says that the back offers only where its keys say what
abbrev pub IsAnnounced : (says : BackKey → Type 0) → Directory → Type 0
IsAnnounced says d = state_read (key_of d.keys other_state) ≡ Some state.InitWait → IsServiceSaid says

-- a front that reads what the back offers reads a key that says some of it, once they all do
abbrev pub ReadsOffer : (says : BackKey → Type 0) → FrontBusStage → Type 0
ReadsOffer says (front.ReadFeature k) = IsFeature k × IsServiceSaid says
ReadsOffer says s = Unit {0}

-- no port is bound, and no event is pending at the back, before it binds
abbrev pub IsUnbound : BackStage → ChannelState → Type 0
IsUnbound back_ring.InitWait c = (is_bound c ≡ false) × (c.back_pending ≡ false)
IsUnbound back_ring.MapRing c = (is_bound c ≡ false) × (c.back_pending ≡ false)
IsUnbound back_ring.Bind c = (is_bound c ≡ false) × (c.back_pending ≡ false)
IsUnbound r c = Unit {0}

-- the machine is safe, and so is the back's negotiation; each negotiation goes with its end of the ring, closes and halts with it, and a front that wrote Closing has no request left; both know the shape of the ring, the references of its pages and the port, and the ring that is agreed has an entry for each request; the back offers what it offers, no more than 960 segments of an indirect request among it, its end of the ring serves that, on the disk that it publishes, its keys say so, and the front reads them only then; and no event is pending where no port is made, or none is bound yet
pub record IsFit (w : World) : Type 0 where
  pub safe : IsSafe w.rings
  pub layout : w.rings.front.shape.abi ≡ w.front.abi
  pub ordered : FrontOrdered w.front.stage w.front w.rings.front.shape.order
  pub room : unfinished w.rings.front ≤ entries_of (min w.front.order 4)
  pub offers : w.back.features ≡ offer w.back.disk.read_only w.back.features.indirect
  pub limited : w.back.features.indirect ≤ 960
  pub published : IsOffered w.rings.back.jobs.info w.back.features w.back.disk
  pub said : SaidAt (SaysKey w.rings.under.keys w.back.features w.back.disk) w.back.stage
  pub announced : IsAnnounced (SaysKey w.rings.under.keys w.back.features w.back.disk) w.rings.under.keys
  pub reads : ReadsOffer (SaysKey w.rings.under.keys w.back.features w.back.disk) w.front.stage
  pub front : FrontGoesWith w.front.stage w.front w.rings.front.stage
  pub closing : is_broken w.rings.front.stage ≡ false → w.rings.front.closing ≡ w.front.closing
  pub through : w.front.state ≡ state.Closing → is_broken w.rings.front.stage ≡ false → is_through w.rings.front ≡ true
  pub back : BackGoesWith w.back.stage w.back.state w.rings.back.stage
  pub held : BackHolds w.rings.back.stage w.back.terms.order (length w.back.pages) w.back.bound
  pub pages : w.rings.back.pages ≡ w.back.pages
  pub sound : IsSound w.back
  pub terms : has_terms w.rings.back.stage ≡ true → is_halting w.back.stage ≡ false → HaveTerms w.rings.back w.back
  pub halted : is_some w.rings.back.halted ≡ is_halting w.back.stage
  pub unported : w.rings.under.channels.ports ≡ [] → w.rings.under.channels.front_pending ≡ false
  pub unbound : IsUnbound w.rings.back.stage w.rings.under.channels
