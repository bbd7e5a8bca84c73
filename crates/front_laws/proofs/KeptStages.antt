-- What is true of a front as it is at each of its stages.
use Rattle.std.proofs.Common.{◌≡◌, ℕ, ◌-◌, ◌^◌, ◌<◌, ◌≤◌, Bool, true, false, List, length, subst}
use Rattle.std.specs.Prelude.{All, Option, Some, IfSome}
use Rattle.std.proofs.lemmas.Option.{slice_get_within, get_or_from_slice_get}
use Rattle.blk_front.specs.declared.request.Request.{Request}
use Rattle.blk_front.specs.declared.stage.FrontStage.{FrontStage}
use Rattle.blk_front.specs.declared.stage.FrontStage.TheVariants as stage
use Rattle.blk_front.specs.declared.stage.Ending.{Ending}
use Rattle.blk_front.specs.Pool.{empty_pool}
use Rattle.blk_front.specs.Request.{is_moving}
use Rattle.blk_front.specs.View.{View, next_request}
use Rattle.blk_front.specs.Ask.{is_through}
use Rattle.front_laws.specs.Kept.{AreGranted}
use Rattle.front_laws.proofs.Places.{IsPooled}
use Rattle.front_laws.proofs.Simple.{next_stands}
use Rattle.front_laws.proofs.KeptFrames.{NoneBelow, IsNew, IsLowest}

-- a request has frames of the pool, and none where no sectors go
pub record IsOwn (r : Request) : Type 0 where
  pub pooled : All IsPooled r.frames.items
  pub none : is_moving r.transfer ≡ false → length r.frames.items ≡ 0

-- what is true of it at each stage
pub record IsBase (order : ℕ) (kept pool : List Bool) (requests : List Request) (ending : Option Ending) (persistent : Bool) : Type 0 where
  pub few : order ≤ 4
  pub size : length kept ≡ 1000
  pub frames : length pool ≡ 1000
  pub own : All IsOwn requests
  pub ends : IfSome ending (λ (e : Ending). IsOwn e.request)
  pub plain : persistent ≡ false → kept ≡ empty_pool

abbrev pub Base : View → Type 0
Base v = IsBase v.shape.order v.kept v.pool v.requests v.ending v.offers.persistent

-- before it is connected
abbrev pub is_early : FrontStage → Bool
is_early (stage.RingWord k) = true
is_early (stage.RingFrame page) = true
is_early (stage.RingFence page) = true
is_early (stage.RingFlags page) = true
is_early stage.NewPort = true
is_early stage.Initialised = true
is_early (stage.LeftData n) = true
is_early s = false

-- it leaves
abbrev pub is_leaving : FrontStage → Bool
is_leaving (stage.RingRead page) = true
is_leaving (stage.RingEnd page before) = true
is_leaving (stage.KeptRead frame) = true
is_leaving (stage.KeptEnd frame before) = true
is_leaving stage.ClosePort = true
is_leaving stage.Left = true
is_leaving s = false

-- the grant of the frame of this place, of the request that is issued, is made
pub record IsMaking (kept : List Bool) (next : Option Request) (place : ℕ) : Type 0 where
  pub r : Request
  pub next_is : next ≡ Some r
  pub new : IsNew kept r.frames.items place

-- the kept grant of this frame is ended
pub record IsEmptying (kept : List Bool) (persistent through : Bool) (frame : ℕ) : Type 0 where
  pub keeps : persistent ≡ true
  pub lowest : IsLowest kept frame
  pub leaves : through ≡ true

-- the parts of the front that this is of
pub record Parts : Type 0 where
  pub order : ℕ
  pub persistent : Bool
  pub kept : List Bool
  pub next : Option Request
  pub through : Bool

abbrev pub parts_of : View → Parts
parts_of v = record { order = v.shape.order; persistent = v.offers.persistent; kept = v.kept; next = next_request v; through = is_through v }

abbrev pub Making : Parts → ℕ → Type 0
Making p place = p.persistent ≡ true → IsMaking p.kept p.next place

abbrev pub Granted : Parts → Type 0
Granted p = p.persistent ≡ true → AreGranted p.kept p.next

abbrev pub Is : FrontStage → Parts → Type 0
Is (stage.RingWord k) p = p.persistent ≡ false
Is (stage.RingFrame page) p = (page < 2 ^ p.order) × (p.persistent ≡ false)
Is (stage.RingFence page) p = (page < 2 ^ p.order) × (p.persistent ≡ false)
Is (stage.RingFlags page) p = (page < 2 ^ p.order) × (p.persistent ≡ false)
Is stage.NewPort p = p.persistent ≡ false
Is stage.Initialised p = p.persistent ≡ false
Is (stage.LeftData n) p = p.persistent ≡ false
Is (stage.GrantFrame place) p = Making p place
Is (stage.GrantFence place) p = Making p place
Is (stage.GrantFlags place) p = Making p place
Is (stage.Slot k) p = Granted p
Is stage.Producer p = Granted p
Is (stage.GrantRead place) p = p.persistent ≡ false
Is (stage.GrantEnd place before) p = p.persistent ≡ false
Is (stage.RingRead page) p = (page < 2 ^ p.order) × (p.through ≡ true)
Is (stage.RingEnd page before) p = (page < 2 ^ p.order) × (p.through ≡ true)
Is (stage.KeptRead frame) p = IsEmptying p.kept p.persistent p.through frame
Is (stage.KeptEnd frame before) p = IsEmptying p.kept p.persistent p.through frame
Is stage.ClosePort p = NoneBelow p.kept 1018
Is stage.Left p = NoneBelow p.kept 1018
Is stage.Closed p = NoneBelow p.kept 1018
Is s p = Unit {0}

abbrev pub At : FrontStage → View → Type 0
At s v = Is s (parts_of v)

pub record IsTidy (v : View) : Type 0 where
  pub base : Base v
  pub at : At v.stage v

pub next_own : (v : View) (r : Request) → Base v → next_request v ≡ Some r → IsOwn r
next_own v r base next =
    let stands = next_stands v r next in
    let place : ℕ = length v.requests - v.waiting in
    subst IsOwn (get_or_from_slice_get v.requests place r r stands) (base.own place r (slice_get_within v.requests place r stands))
