-- What a write, a new watch and a taken watch make of an end's watch.
use Rattle.std.proofs.Common.{◌≡◌, ◌∙◌, ap, ℕ, Bool, true, false, List, [], ◌∷◌, refl, inl, inr}
use Rattle.key_directory.specs.Paths.{is_at_or_under}
use Rattle.key_directory.specs.Watches.{Watches, no_watches, fired, taken}
use Rattle.xenbus_state.specs.declared.keys.FrontKey.{FrontKey}
use Rattle.xenbus_state.specs.declared.keys.FrontKey.TheVariants as front_key
use Rattle.xenbus_state.specs.declared.keys.BackKey.{BackKey}
use Rattle.xenbus_state.specs.declared.keys.BackKey.TheVariants as back_key
use Rattle.xenbus_state.specs.declared.state.BusState.{BusState}
use Rattle.xenbus_state.specs.declared.state.BusState.TheVariants as state
use Rattle.xenbus_state.specs.declared.stage.FrontBusStage.{FrontBusStage}
use Rattle.xenbus_state.specs.declared.stage.FrontBusStage.TheVariants as front
use Rattle.xenbus_state.specs.declared.stage.BackBusStage.{BackBusStage}
use Rattle.xenbus_state.specs.declared.stage.BackBusStage.TheVariants as back
use Rattle.negotiation_laws.specs.Negotiation.{front_path, back_path, front_state, back_state}
use Rattle.negotiation_laws.proofs.Subjects.{Sees, FrontHeard, FrontSees, BackHeard, BackSees}

-- an end that knows more
pub sees_so : (path : List ℕ) (w : Watches) (A B : Type 0) → (A → B) → Sees path w A → Sees path w B
sees_so path w A B f (inl e) = inl e
sees_so path w A B f (inr (e, a)) = inr (e, f a)

-- a write elsewhere leaves its watch
pub sees_kept : (path other : List ℕ) (w : Watches) (A : Type 0) → is_at_or_under path other ≡ false → Sees path w A → Sees path (fired w other) A
sees_kept path other w A apart (inl e) = inl (ap (λ (u : Watches). fired u other) e)
sees_kept path other w A apart (inr (e, a)) =
    let still : fired (record { pending = []; idle = path ∷ [] }) other ≡ record { pending = []; idle = path ∷ [] } = rw apart refl in
    inr (ap (λ (u : Watches). fired u other) e ∙ still, a)

-- a write at its path fires it, or it is pending already
pub sees_fired : (path other : List ℕ) (w : Watches) (A B : Type 0) → is_at_or_under path other ≡ true → Sees path w A → Sees path (fired w other) B
sees_fired path other w A B at (inl e) = inl (ap (λ (u : Watches). fired u other) e)
sees_fired path other w A B at (inr (e, a)) =
    let fires : fired (record { pending = []; idle = path ∷ [] }) other ≡ record { pending = path ∷ []; idle = [] } = rw at refl in
    inl (ap (λ (u : Watches). fired u other) e ∙ fires)

-- a taken watch stands
pub sees_taken : (path : List ℕ) (w : Watches) (A : Type 0) → Sees path w A → Sees path (taken w) (Unit {0})
sees_taken path w A (inl e) = inr (ap taken e, tt)
sees_taken path w A (inr (e, a)) = inr (ap taken e, tt)

none_fired : (w : Watches) (path : List ℕ) → w ≡ no_watches → fired w path ≡ no_watches
none_fired w path e = ap (λ (u : Watches). fired u path) e

-- the front's watch, where the back writes its state or a key, or the front itself
pub front_sees_state : (s : FrontBusStage) (closing : Bool) (own : BusState) (gone : Bool) (b c : BusState) (w : Watches) → FrontSees s closing own gone b w
    → FrontSees s closing own gone c (fired w back_state)
front_sees_state front.Start closing own gone b c w h = none_fired w back_state h
front_sees_state s closing own gone b c w h = sees_fired back_state back_state w (FrontHeard s closing own gone b) (FrontHeard s closing own gone c) refl h

pub front_sees_kept : (other : List ℕ) (s : FrontBusStage) (closing : Bool) (own : BusState) (gone : Bool) (b : BusState) (w : Watches)
    → is_at_or_under back_state other ≡ false → FrontSees s closing own gone b w → FrontSees s closing own gone b (fired w other)
front_sees_kept other front.Start closing own gone b w apart h = none_fired w other h
front_sees_kept other s closing own gone b w apart h = sees_kept back_state other w (FrontHeard s closing own gone b) apart h

-- the back's watch, where the front writes its state or a key, or the back itself
pub back_sees_state : (s : BackBusStage) (own fs gs : BusState) (w : Watches) → BackSees s own fs w → BackSees s own gs (fired w front_state)
back_sees_state (back.Publish key) own fs gs w h = none_fired w front_state h
back_sees_state (back.WriteState state.InitWait) own fs gs w h = none_fired w front_state h
back_sees_state back.Watch own fs gs w h = none_fired w front_state h
back_sees_state s own fs gs w h = sees_fired front_state front_state w (BackHeard s own fs) (BackHeard s own gs) refl h

pub back_sees_kept : (other : List ℕ) (s : BackBusStage) (own fs : BusState) (w : Watches) → is_at_or_under front_state other ≡ false → BackSees s own fs w
    → BackSees s own fs (fired w other)
back_sees_kept other (back.Publish key) own fs w apart h = none_fired w other h
back_sees_kept other (back.WriteState state.InitWait) own fs w apart h = none_fired w other h
back_sees_kept other back.Watch own fs w apart h = none_fired w other h
back_sees_kept other s own fs w apart h = sees_kept front_state other w (BackHeard s own fs) apart h

-- a key of an end is not its state
pub front_key_apart : (k : FrontKey) → is_at_or_under front_state (front_path k) ≡ false
front_key_apart front_key.RingPageOrder = refl
front_key_apart k = refl

pub back_key_apart : (k : BackKey) → is_at_or_under back_state (back_path k) ≡ false
back_key_apart back_key.FeatureBarrier = refl
back_key_apart k = refl
