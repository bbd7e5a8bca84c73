-- What each ask of the back's negotiation makes of its keys, and each answer of its stage.
use Rattle.std.proofs.Common.{inl, inr, ◌⊎◌, ◌≡◌, ◌∙◌, ap, sym, subst, ℕ, ◌≤◌, Bool, true, false, true≢false, if◌then◌else◌, List, [], ◌∷◌, refl}
use Rattle.std.specs.Prelude.{Option, Some, None}
use Rattle.blk_base.specs.declared.parts.End.TheVariants as end
use Rattle.blk_base.specs.declared.parts.Mapping.{Mapping}
use Rattle.blk_base.specs.declared.ask.BackAnswer.{BackAnswer}
use Rattle.blk_base.specs.declared.ask.BackAnswer.TheVariants as answer
use Rattle.key_directory.specs.Directory.{Directory, written}
use Rattle.blk_back.specs.declared.stage.BackStage.{BackStage}
use Rattle.xenbus_state.specs.declared.keys.BackKey.{BackKey}
use Rattle.xenbus_state.specs.declared.values.KeyValue.{KeyValue}
use Rattle.xenbus_state.specs.declared.offer.Features.{Features}
use Rattle.xenbus_state.specs.declared.offer.DiskFacts.{DiskFacts}
use Rattle.xenbus_state.specs.declared.state.BusState.{BusState}
use Rattle.xenbus_state.specs.declared.state.BusState.TheVariants as state
use Rattle.xenbus_state.specs.declared.stage.BackBusStage.{BackBusStage}
use Rattle.xenbus_state.specs.declared.stage.BackBusStage.TheVariants as stage
use Rattle.xenbus_state.specs.declared.back.BackBusAsk.{BackBusAsk}
use Rattle.xenbus_state.specs.declared.back.BackBusAsk.TheVariants as back_ask
use Rattle.xenbus_state.specs.Keys.{front_name, path_under}
use Rattle.xenbus_state.specs.States.{state_number}
use Rattle.xenbus_state.specs.BackView.{BackView}
use Rattle.xenbus_state.specs.BackAsk.{says_closing_at, unmap_ask, ask_at, IsAnswer}
use Rattle.xenbus_state.specs.BackStep.{after_state, after_feature, after_fact}
use Rattle.split_model.specs.Keys.{KeyMove, Gets, Sets, Watches as WatchesPath, TakesWatch, may_set, may_negotiate, keys_after, negotiated}
use Rattle.vbd_back.specs.Ask as back
use Rattle.vbd_back.specs.Step as back_step
use Rattle.vbd_model.specs.World.{World}
use Rattle.vbd_model.specs.Happening.{back_key}
use Rattle.vbd_laws.proofs.MovesTurns.{back_asks}
use Rattle.refusal_laws.proofs.DiskKeys.{Same, same_keys, watched_same, IsDiskSaid, FactsAt, IsWhole, IsOwn, own_same, said_same, whole_same, whole_of, facts_of}
use Rattle.refusal_laws.proofs.DiskBack.{is_busy, busy_quiet, Kept}
use Rattle.vbd_laws.proofs.FitBack.{told_done}

-- what the back's keys say goes with its negotiation
pub record GoesWith (f : Features) (e : DiskFacts) (d : Directory) (v : BackView) : Type 0 where
  pub facts : FactsAt f e d v.stage
  pub own : IsOwn d v.state

-- it was connected, also where it closes since or is closed; and so it stays
abbrev pub IsLate : BusState → Type 0
IsLate s = 4 ≤ state_number s

pub record Next (w : World) (d : Directory) (u : BackView) : Type 0 where
  pub goes : GoesWith w.back.features w.back.disk d u
  pub later : IsLate w.back.state → IsLate u.state
  pub says : IsDiskSaid w.back.features w.back.disk w.rings.under.keys → IsDiskSaid w.back.features w.back.disk d

abbrev pub Goes : World → Type 0
Goes w = GoesWith w.back.features w.back.disk w.rings.under.keys w.back

-- where it publishes nothing of its disk and writes no state
pub still_next : (w : World) (d : Directory) (u : BackView) → Goes w → is_busy w.back.stage ≡ false → Kept w.back u → Same w.rings.under.keys d → Next w d u
still_next w d u g free k is = record {
  goes = record {
    facts = facts_of w.back.features w.back.disk d u.stage k.still
        (whole_same w.back.features w.back.disk w.rings.under.keys d is (whole_of w.back.features w.back.disk w.rings.under.keys w.back.stage (busy_quiet w.back.stage free) g.facts));
    own = subst (IsOwn d) (sym k.state) (own_same w.rings.under.keys d w.back.state is g.own);
  };
  later = λ late. subst IsLate (sym k.state) late;
  says = said_same w.back.features w.back.disk w.rings.under.keys d is;
}

-- what is asked of the keys where it sets none
module _ (s : BackStage) (d : Directory) where
  either : (b : Bool) (x : Directory) → Same d x → Same d (if b then x else d)
  either true x is = is
  either false x is = same_keys d

  pub takes_same : (a : BackBusAsk) → back_key a ≡ TakesWatch → Same d (negotiated s end.Back (back_key a) d)
  takes_same a e = subst (λ (m : KeyMove). Same d (negotiated s end.Back m d)) (sym e) (either (may_negotiate s end.Back TakesWatch) _ (watched_same d d end.Back _ (same_keys d)))

  gets_same : (path : List ℕ) → Same d (negotiated s end.Back (Gets path) d)
  gets_same path = either (may_negotiate s end.Back (Gets path)) _ (same_keys d)

  watches_same : (path : List ℕ) → Same d (negotiated s end.Back (WatchesPath path) d)
  watches_same path = either (may_negotiate s end.Back (WatchesPath path)) _ (watched_same d d end.Back _ (same_keys d))

  unmap_same : (pages : List Mapping) → Same d (negotiated s end.Back (back_key (unmap_ask pages)) d)
  unmap_same [] = takes_same (unmap_ask []) refl
  unmap_same (page ∷ pages) = takes_same (unmap_ask (page ∷ pages)) refl

  pub asks_same : (b : BackBusStage) (v : BackView) → is_busy b ≡ false → Same d (negotiated s end.Back (back_key (ask_at b v)) d)
  asks_same (stage.Publish k) v free = absurd (true≢false free)
  asks_same (stage.PublishFact k) v free = absurd (true≢false free)
  asks_same (stage.WriteState own) v free = absurd (true≢false free)
  asks_same stage.Watch v free = watches_same back.other_state
  asks_same stage.ReadState v free = gets_same back.other_state
  asks_same (stage.ReadKey k) v free = gets_same (path_under end.Front (front_name k))
  asks_same stage.UnmapPage v free = unmap_same v.pages
  asks_same b v free = takes_same (ask_at b v) refl

-- the keys after what its negotiation asks of them
abbrev pub keys_then : World → Directory
keys_then w = negotiated w.rings.back.stage end.Back (back_key (back_asks w)) w.rings.under.keys

pub wrote : (s : BackStage) (a : BackBusAsk) (path text : List ℕ) (d : Directory) → back_key a ≡ Sets path text → may_negotiate s end.Back (Sets path text) ≡ true → may_set end.Back path text ≡ true
    → negotiated s end.Back (back_key a) d ≡ written d path text
wrote s a path text d e turns may = ap (λ (m : KeyMove). negotiated s end.Back m d) e ∙ rw (turns, may) refl

-- it goes on as it is where no other mapping is to be unmapped
pub state_settles : (s : BusState) (r : BackStage) (u : BackView) → u.stage ≡ after_state s → back_step.settled r u ≡ u
state_settles state.InitWait r u here = ap (λ (b : BackBusStage). back_step.settled_at b r u) here
state_settles s r u here = ap (λ (b : BackBusStage). back_step.settled_at b r u) here

pub fact_settles : (k : Option BackKey) (r : BackStage) (u : BackView) → u.stage ≡ after_fact k → back_step.settled r u ≡ u
fact_settles None r u here = ap (λ (b : BackBusStage). back_step.settled_at b r u) here
fact_settles (Some k) r u here = ap (λ (b : BackBusStage). back_step.settled_at b r u) here

pub feature_settles : (k : Option BackKey) (r : BackStage) (u : BackView) → u.stage ≡ after_feature k → back_step.settled r u ≡ u
feature_settles None r u here = ap (λ (b : BackBusStage). back_step.settled_at b r u) here
feature_settles (Some k) r u here = ap (λ (b : BackBusStage). back_step.settled_at b r u) here

pub closing_settles : (b : BackBusStage) (own : BusState) (r : BackStage) (u : BackView) → says_closing_at b own ≡ true → (is_busy b ≡ false) × (back_step.settled_at b r u ≡ u)
closing_settles stage.Rest state.Connected r u is = (refl, refl)
closing_settles stage.ReadState state.Connected r u is = (refl, refl)
closing_settles b own r u is = absurd (true≢false (sym is))

pub state_done : (s : BusState) (x : BackAnswer) → IsAnswer (back_ask.SetState s) x → x ≡ answer.Done
state_done s answer.Done allowed = refl
state_done s x allowed = absurd allowed
