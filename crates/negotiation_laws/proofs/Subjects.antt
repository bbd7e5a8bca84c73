-- What is true of a negotiation at every moment, by subjects.
use Rattle.std.specs.Prelude.{ℕ, ◌≡◌, ◌≢◌, ◌^◌, ◌<◌, ◌≤◌, ◌⊎◌, Bool, true, false, List, [], ◌∷◌, Option, Some, None, IsSome}
use Rattle.key_directory.specs.Directory.{key_of}
use Rattle.key_directory.specs.Watches.{Watches, no_watches}
use Rattle.xenbus_state.specs.States.{state_number}
use Rattle.xenbus_state.specs.declared.keys.FrontKey.{FrontKey}
use Rattle.xenbus_state.specs.declared.keys.FrontKey.TheVariants as front_key
use Rattle.xenbus_state.specs.declared.keys.BackKey.{BackKey}
use Rattle.xenbus_state.specs.declared.keys.BackKey.TheVariants as back_key
use Rattle.xenbus_state.specs.declared.state.BusState.{BusState}
use Rattle.xenbus_state.specs.declared.state.BusState.TheVariants as state
use Rattle.xenbus_state.specs.declared.offer.Features.{Features}
use Rattle.xenbus_state.specs.declared.offer.DiskFacts.{DiskFacts}
use Rattle.xenbus_state.specs.declared.values.FrontTerms.{FrontTerms}
use Rattle.xenbus_state.specs.declared.stage.FrontBusStage.{FrontBusStage}
use Rattle.xenbus_state.specs.declared.stage.FrontBusStage.TheVariants as front
use Rattle.xenbus_state.specs.declared.stage.BackBusStage.{BackBusStage}
use Rattle.xenbus_state.specs.declared.stage.BackBusStage.TheVariants as back
use Rattle.xenbus_state.specs.FrontView.{FrontView, terms_of}
use Rattle.xenbus_state.specs.BackView.{BackView, is_halting}
use Rattle.negotiation_laws.specs.Negotiation.{front_state, back_state, state_text}
use Rattle.negotiation_laws.specs.Laws.{grefs_of}
use Rattle.negotiation_laws.specs.Said.{front_texts, back_texts, FrontSays, BackSays, IsRingSaid, AreTermsSaid, AreFeaturesSaid, AreFactsSaid}

-- the states that an end writes
abbrev pub IsFrontState : BusState → Type 0
IsFrontState state.Initialising = Unit {0}
IsFrontState state.Initialised = Unit {0}
IsFrontState state.Connected = Unit {0}
IsFrontState state.Closing = Unit {0}
IsFrontState state.Closed = Unit {0}
IsFrontState s = ⊥

-- the states that the back writes
abbrev pub IsBackState : BusState → Type 0
IsBackState state.Initialising = Unit {0}
IsBackState state.InitWait = Unit {0}
IsBackState state.Connected = Unit {0}
IsBackState state.Closing = Unit {0}
IsBackState state.Closed = Unit {0}
IsBackState s = ⊥

-- the front writes no other state than these
abbrev pub IsFrontWrite : FrontBusStage → Type 0
IsFrontWrite (front.WriteState state.Initialised) = Unit {0}
IsFrontWrite (front.WriteState state.Connected) = Unit {0}
IsFrontWrite (front.WriteState state.Closing) = Unit {0}
IsFrontWrite (front.WriteState state.Closed) = Unit {0}
IsFrontWrite (front.WriteState s) = ⊥
IsFrontWrite s = Unit {0}

-- the state that the back has written at least, where the front is at this stage, and where it has written this state
abbrev pub stage_needs : FrontBusStage → ℕ
stage_needs (front.ReadFeature key) = 2
stage_needs (front.RingWord word) = 2
stage_needs (front.Grant page) = 2
stage_needs front.NewPort = 2
stage_needs (front.Publish key) = 2
stage_needs (front.WriteState state.Initialised) = 2
stage_needs (front.ReadFact key) = 4
stage_needs (front.WriteState state.Connected) = 4
stage_needs (front.WriteState state.Closed) = 6
stage_needs (front.EndGrant page) = 6
stage_needs front.EndOtherGrants = 6
stage_needs front.ClosePort = 6
stage_needs front.Closed = 6
stage_needs (front.Broken word) = 6
stage_needs s = 0

-- where the front has written this state last
abbrev pub state_needs : BusState → ℕ
state_needs state.Initialised = 2
state_needs state.Connected = 4
state_needs state.Closed = 6
state_needs s = 0

-- a front that is not closing
abbrev pub IsOpenAt : FrontBusStage → Type 0
IsOpenAt (front.WriteState state.Closing) = ⊥
IsOpenAt (front.WriteState state.Closed) = ⊥
IsOpenAt (front.EndGrant page) = ⊥
IsOpenAt front.EndOtherGrants = ⊥
IsOpenAt front.ClosePort = ⊥
IsOpenAt front.Closed = ⊥
IsOpenAt (front.Broken word) = ⊥
IsOpenAt s = Unit {0}

-- which keys of the front are said: none before it publishes, then those before the key at hand, then all
abbrev pub Unsaid : Option ℕ → (FrontKey → Option (List ℕ)) → Type 0
Unsaid port texts = (port ≡ None) × (texts front_key.RingPageOrder ≡ None)

-- by the state that it wrote last, where it isn't publishing
abbrev pub SaidAt : BusState → Option ℕ → FrontTerms → (FrontKey → Option (List ℕ)) → Type 0
SaidAt state.Initialising port terms texts = Unsaid port texts
SaidAt state.Initialised port terms texts = IsSome port × AreTermsSaid texts terms
SaidAt state.Connected port terms texts = IsSome port × AreTermsSaid texts terms
SaidAt s port terms texts = IsSome port → AreTermsSaid texts terms

-- before this key
abbrev pub SaidBefore : FrontKey → FrontTerms → (FrontKey → Option (List ℕ)) → Type 0
SaidBefore front_key.RingRef terms texts = (terms.order ≡ 0) × (texts front_key.RingPageOrder ≡ None)
SaidBefore front_key.RingPageOrder terms texts = 0 < terms.order
SaidBefore (front_key.RingRefOf page) terms texts =
    (0 < terms.order) × (page < 2 ^ terms.order) × FrontSays texts terms front_key.RingPageOrder × ((q : ℕ) → q < page → FrontSays texts terms (front_key.RingRefOf q))
SaidBefore front_key.EventChannel terms texts = IsRingSaid texts terms
SaidBefore front_key.Protocol terms texts = IsRingSaid texts terms × FrontSays texts terms front_key.EventChannel
SaidBefore front_key.FeaturePersistent terms texts = IsRingSaid texts terms × FrontSays texts terms front_key.EventChannel × FrontSays texts terms front_key.Protocol

-- at this stage
abbrev pub FrontSaid : FrontBusStage → BusState → Option ℕ → FrontTerms → (FrontKey → Option (List ℕ)) → Type 0
FrontSaid front.Start own port terms texts = Unsaid port texts
FrontSaid (front.ReadFeature key) own port terms texts = Unsaid port texts
FrontSaid (front.RingWord word) own port terms texts = Unsaid port texts
FrontSaid (front.Grant page) own port terms texts = Unsaid port texts
FrontSaid front.NewPort own port terms texts = Unsaid port texts
FrontSaid (front.Publish key) own port terms texts = IsSome port × SaidBefore key terms texts
FrontSaid (front.WriteState state.Initialised) own port terms texts = IsSome port × AreTermsSaid texts terms
FrontSaid (front.ReadFact key) own port terms texts = IsSome port × AreTermsSaid texts terms
FrontSaid (front.WriteState state.Connected) own port terms texts = IsSome port × AreTermsSaid texts terms
FrontSaid s own port terms texts = SaidAt own port terms texts

-- which keys of the back the front has read: those before the key at hand, then all
abbrev pub ReadBefore : BackKey → Features → Features → Type 0
ReadBefore back_key.FeatureBarrier r f = Unit {0}
ReadBefore back_key.FeatureFlushCache r f = r.barrier ≡ f.barrier
ReadBefore back_key.FeatureDiscard r f = (r.barrier ≡ f.barrier) × (r.flush ≡ f.flush)
ReadBefore back_key.FeaturePersistent r f = (r.barrier ≡ f.barrier) × (r.flush ≡ f.flush) × (r.discard ≡ f.discard)
ReadBefore back_key.FeatureMaxIndirectSegments r f = (r.barrier ≡ f.barrier) × (r.flush ≡ f.flush) × (r.discard ≡ f.discard) × (r.persistent ≡ f.persistent)
ReadBefore back_key.MaxRingPageOrder r f = (r.barrier ≡ f.barrier) × (r.flush ≡ f.flush) × (r.discard ≡ f.discard) × (r.persistent ≡ f.persistent) × (r.indirect ≡ f.indirect)
ReadBefore key r f = ⊥

-- which facts of the disk the front has read before this one
abbrev pub FactsBefore : BackKey → DiskFacts → DiskFacts → Type 0
FactsBefore back_key.Sectors r d = Unit {0}
FactsBefore back_key.SectorSize r d = r.sectors ≡ d.sectors
FactsBefore back_key.Info r d = r.sectors ≡ d.sectors
FactsBefore key r d = ⊥

-- by the state that the front wrote last, where it isn't reading
abbrev pub ReadAt : BusState → (r f : Features) (e d : DiskFacts) → Type 0
ReadAt state.Initialised r f e d = r ≡ f
ReadAt state.Connected r f e d = (r ≡ f) × (e ≡ d)
ReadAt s r f e d = Unit {0}

-- what the front has read at this stage
abbrev pub FrontRead : FrontBusStage → BusState → (r f : Features) (e d : DiskFacts) → Type 0
FrontRead (front.ReadFeature key) own r f e d = ReadBefore key r f
FrontRead (front.RingWord word) own r f e d = r ≡ f
FrontRead (front.Grant page) own r f e d = r ≡ f
FrontRead front.NewPort own r f e d = r ≡ f
FrontRead (front.Publish key) own r f e d = r ≡ f
FrontRead (front.WriteState state.Initialised) own r f e d = r ≡ f
FrontRead (front.ReadFact key) own r f e d = (r ≡ f) × FactsBefore key e d
FrontRead (front.WriteState state.Connected) own r f e d = (r ≡ f) × (e ≡ d)
FrontRead s own r f e d = ReadAt own r f e d

-- the front at this stage, over a back that offers f, whose disk is d, and whose state is n
pub record FrontHolds (s : FrontBusStage) (v : FrontView) (n : ℕ) (f : Features) (d : DiskFacts) (texts : FrontKey → Option (List ℕ)) : Type 0 where
  pub own : IsFrontState v.state
  pub writes : IsFrontWrite s
  pub stage_after : stage_needs s ≤ n
  pub state_after : state_needs v.state ≤ n
  pub gone_after : v.gone ≡ true → 6 ≤ n
  pub leaves_open : v.closing ≡ false → (state_number v.state < 5) × IsOpenAt s
  pub fits : (p : ℕ) → v.port ≡ Some p → p < 2 ^ 32
  pub said : FrontSaid s v.state v.port (terms_of v) texts
  pub read : FrontRead s v.state v.features f v.disk d

-- which keys of the back are said
abbrev pub FeaturesBefore : BackKey → (BackKey → Option (List ℕ)) → Features → DiskFacts → Type 0
FeaturesBefore back_key.FeatureBarrier t f d = Unit {0}
FeaturesBefore back_key.FeatureFlushCache t f d = BackSays t f d back_key.FeatureBarrier
FeaturesBefore back_key.FeatureDiscard t f d = BackSays t f d back_key.FeatureBarrier × BackSays t f d back_key.FeatureFlushCache
FeaturesBefore back_key.FeaturePersistent t f d = BackSays t f d back_key.FeatureBarrier × BackSays t f d back_key.FeatureFlushCache × BackSays t f d back_key.FeatureDiscard
FeaturesBefore back_key.FeatureMaxIndirectSegments t f d =
    BackSays t f d back_key.FeatureBarrier × BackSays t f d back_key.FeatureFlushCache × BackSays t f d back_key.FeatureDiscard × BackSays t f d back_key.FeaturePersistent
FeaturesBefore back_key.MaxRingPageOrder t f d =
    BackSays t f d back_key.FeatureBarrier × BackSays t f d back_key.FeatureFlushCache × BackSays t f d back_key.FeatureDiscard × BackSays t f d back_key.FeaturePersistent × BackSays t f d back_key.FeatureMaxIndirectSegments
FeaturesBefore key t f d = ⊥

-- which facts of the disk are said before this one
abbrev pub FactsSaidBefore : BackKey → (BackKey → Option (List ℕ)) → Features → DiskFacts → Type 0
FactsSaidBefore back_key.Sectors t f d = Unit {0}
FactsSaidBefore back_key.SectorSize t f d = BackSays t f d back_key.Sectors
FactsSaidBefore back_key.Info t f d = BackSays t f d back_key.Sectors × BackSays t f d back_key.SectorSize
FactsSaidBefore key t f d = ⊥

-- by the state that a resting back wrote last
abbrev pub FactsAt : BusState → (BackKey → Option (List ℕ)) → Features → DiskFacts → Type 0
FactsAt state.Connected t f d = AreFactsSaid t f d
FactsAt state.Closing t f d = AreFactsSaid t f d
FactsAt s t f d = Unit {0}

-- a halted back that was connected
abbrev pub FactsLeft : BusState → (BackKey → Option (List ℕ)) → Features → DiskFacts → Type 0
FactsLeft state.Connected t f d = AreFactsSaid t f d
FactsLeft s t f d = Unit {0}

-- which keys of the back are said at this stage
abbrev pub BackSaid : BackBusStage → BusState → (BackKey → Option (List ℕ)) → Features → DiskFacts → Type 0
BackSaid (back.Publish key) own t f d = FeaturesBefore key t f d
BackSaid (back.PublishFact key) own t f d = AreFeaturesSaid t f d × FactsSaidBefore key t f d
BackSaid (back.WriteState state.Connected) own t f d = AreFeaturesSaid t f d × AreFactsSaid t f d
BackSaid back.Rest own t f d = AreFeaturesSaid t f d × FactsAt own t f d
BackSaid back.ReadState own t f d = AreFeaturesSaid t f d × FactsAt own t f d
BackSaid (back.WriteState state.Closing) own t f d = AreFeaturesSaid t f d × FactsLeft own t f d
BackSaid (back.WriteState state.Closed) own t f d = AreFeaturesSaid t f d × FactsLeft own t f d
BackSaid back.UnmapOthers own t f d = AreFeaturesSaid t f d × FactsLeft own t f d
BackSaid back.UnmapPage own t f d = AreFeaturesSaid t f d × FactsLeft own t f d
BackSaid back.ClosePort own t f d = AreFeaturesSaid t f d × FactsLeft own t f d
BackSaid back.Halted own t f d = AreFeaturesSaid t f d × FactsLeft own t f d
BackSaid s own t f d = AreFeaturesSaid t f d × Unit {0}

-- a back that goes by the front's terms, also where it has halted since and holds something still
abbrev pub serves : BackBusStage → BusState → Bool
serves (back.ReadKey key) own = true
serves back.MapPage own = true
serves back.Bind own = true
serves (back.PublishFact key) own = true
serves (back.WriteState state.Connected) own = true
serves back.Rest state.Connected = true
serves back.Rest state.Closing = true
serves back.ReadState state.Connected = true
serves back.ReadState state.Closing = true
serves back.UnmapOthers state.Connected = true
serves back.UnmapPage state.Connected = true
serves back.ClosePort state.Connected = true
serves (back.WriteState state.Closing) state.Connected = true
serves back.UnmapOthers state.Closing = true
serves back.UnmapPage state.Closing = true
serves back.ClosePort state.Closing = true
serves (back.WriteState state.Closing) state.Closing = true
serves s own = false

-- which of the front's terms the back has read
abbrev pub TermsBefore : FrontKey → (r t : FrontTerms) → List ℕ → Type 0
TermsBefore front_key.RingPageOrder r t grefs = Unit {0}
TermsBefore front_key.RingRef r t grefs = (r.order ≡ t.order) × (t.order ≡ 0)
TermsBefore (front_key.RingRefOf page) r t grefs = (r.order ≡ t.order) × (0 < t.order) × (grefs ≡ grefs_of page)
TermsBefore front_key.EventChannel r t grefs = (r.order ≡ t.order) × (grefs ≡ grefs_of (2 ^ t.order))
TermsBefore front_key.Protocol r t grefs = (r.order ≡ t.order) × (grefs ≡ grefs_of (2 ^ t.order)) × (r.port ≡ t.port)
TermsBefore front_key.FeaturePersistent r t grefs = (r.order ≡ t.order) × (grefs ≡ grefs_of (2 ^ t.order)) × (r.port ≡ t.port) × (r.abi ≡ t.abi)

-- what the back has read at this stage, if it goes by the front's terms
abbrev pub BackRead : BackBusStage → (r t : FrontTerms) → List ℕ → Type 0
BackRead (back.ReadKey key) r t grefs = TermsBefore key r t grefs
BackRead s r t grefs = (r ≡ t) × (grefs ≡ grefs_of (2 ^ t.order))

-- the back at this stage, over a front whose state is n, with this port and these terms
pub record BackHolds (s : BackBusStage) (v : BackView) (n : ℕ) (port : Option ℕ) (terms : FrontTerms) (f : Features) (d : DiskFacts) (texts : BackKey → Option (List ℕ)) : Type 0 where
  pub own : IsBackState v.state
  pub offer : v.features ≡ f
  pub disk : v.disk ≡ d
  pub serving_after : serves s v.state ≡ true → (3 ≤ n) × IsSome port
  pub halting_after : is_halting s ≡ true → 5 ≤ n
  pub said : BackSaid s v.state texts f d
  pub read : serves s v.state ≡ true → BackRead s v.terms terms v.grefs

-- an end's watch stands, and it fired and isn't taken, or what the end read last still stands
abbrev pub Sees : (path : List ℕ) (w : Watches) (heard : Type 0) → Type 0
Sees path w heard = (w ≡ record { pending = path ∷ []; idle = [] }) ⊎ ((w ≡ record { pending = []; idle = path ∷ [] }) × heard)

-- what a front that rests has read last, by its own state
abbrev pub Settled : BusState → BusState → Type 0
Settled state.Initialising state.Initialising = Unit {0}
Settled state.Initialised state.InitWait = Unit {0}
Settled state.Connected state.Connected = Unit {0}
Settled own b = ⊥

-- by whether it closes: a closing front knows where the back is gone
abbrev pub RestHeard : (closing : Bool) → BusState → (gone : Bool) → BusState → Type 0
RestHeard false own gone b = Settled own b
RestHeard true own gone b = b ≡ state.Closed → gone ≡ true

-- what a front that connects has read last
abbrev pub FactsHeard : (closing : Bool) → BusState → Type 0
FactsHeard false b = b ≡ state.Connected
FactsHeard true b = b ≢ state.Closed

-- what the front has read last at this stage
abbrev pub FrontHeard : FrontBusStage → (closing : Bool) → BusState → (gone : Bool) → BusState → Type 0
FrontHeard front.Rest closing own gone b = RestHeard closing own gone b
FrontHeard (front.ReadFeature key) closing own gone b = b ≡ state.InitWait
FrontHeard (front.RingWord word) closing own gone b = b ≡ state.InitWait
FrontHeard (front.Grant page) closing own gone b = b ≡ state.InitWait
FrontHeard front.NewPort closing own gone b = b ≡ state.InitWait
FrontHeard (front.Publish key) closing own gone b = b ≡ state.InitWait
FrontHeard (front.WriteState state.Initialised) closing own gone b = b ≡ state.InitWait
FrontHeard (front.ReadFact key) closing own gone b = FactsHeard closing b
FrontHeard (front.WriteState state.Connected) closing own gone b = FactsHeard closing b
FrontHeard (front.WriteState state.Closing) closing own gone b = RestHeard true own gone b
FrontHeard s closing own gone b = Unit {0}

-- the front's watch at this stage
abbrev pub FrontSees : FrontBusStage → (closing : Bool) → BusState → (gone : Bool) → BusState → Watches → Type 0
FrontSees front.Start closing own gone b w = w ≡ no_watches
FrontSees s closing own gone b w = Sees back_state w (FrontHeard s closing own gone b)

-- a front that a back may serve
abbrev pub IsReady : BusState → Type 0
IsReady state.Initialised = Unit {0}
IsReady state.Connected = Unit {0}
IsReady s = ⊥

-- what a back that rests has read last, by its own state
abbrev pub SettledBack : BusState → BusState → Type 0
SettledBack state.InitWait fs = fs ≡ state.Initialising
SettledBack state.Connected fs = IsReady fs
SettledBack state.Closing fs = IsReady fs
SettledBack own fs = ⊥

-- what the back has read last at this stage
abbrev pub BackHeard : BackBusStage → (own fs : BusState) → Type 0
BackHeard back.Rest own fs = SettledBack own fs
BackHeard (back.ReadKey key) own fs = IsReady fs
BackHeard back.MapPage own fs = IsReady fs
BackHeard back.Bind own fs = IsReady fs
BackHeard (back.PublishFact key) own fs = IsReady fs
BackHeard (back.WriteState state.Connected) own fs = IsReady fs
BackHeard s own fs = Unit {0}

-- the back's watch at this stage
abbrev pub BackSees : BackBusStage → (own fs : BusState) → Watches → Type 0
BackSees (back.Publish key) own fs w = w ≡ no_watches
BackSees (back.WriteState state.InitWait) own fs w = w ≡ no_watches
BackSees back.Watch own fs w = w ≡ no_watches
BackSees s own fs w = Sees front_state w (BackHeard s own fs)

-- what the front finds of the back in the directory: its state, and by that its offer and its disk
pub record BackShows (keys : List (List ℕ × List ℕ)) (b own : BusState) (f : Features) (d : DiskFacts) : Type 0 where
  pub state : key_of keys back_state ≡ Some (state_text b)
  pub honest : IsBackState b
  pub connected : 4 ≤ state_number b → 3 ≤ state_number own
  pub closed : 6 ≤ state_number b → 5 ≤ state_number own
  pub features : 2 ≤ state_number b → AreFeaturesSaid (back_texts keys) f d
  pub facts : 4 ≤ state_number b → state_number own < 5 → AreFactsSaid (back_texts keys) f d
  pub indirect : f.indirect < 2 ^ 32
  pub order : f.order < 2 ^ 32
  pub sectors : d.sectors < 2 ^ 64

-- what the back finds of the front: its state, and its terms once it is ready
pub record FrontShows (keys : List (List ℕ × List ℕ)) (fs : BusState) (port : Option ℕ) (terms : FrontTerms) : Type 0 where
  pub state : key_of keys front_state ≡ Some (state_text fs)
  pub honest : IsFrontState fs
  pub ready : IsReady fs → IsSome port
  pub said : 3 ≤ state_number fs → IsSome port → AreTermsSaid (front_texts keys) terms
  pub order : terms.order ≤ 4
  pub fits : terms.port < 2 ^ 32
