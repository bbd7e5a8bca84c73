-- How an epoch begins.
use Rattle.std.proofs.Common.{◌≡◌, ◌≢◌, refl, false, true≢false}
use Rattle.xenbus_state.specs.declared.stage.FrontBusStage.{FrontBusStage}
use Rattle.xenbus_state.specs.declared.stage.FrontBusStage.TheVariants as stage
use Rattle.xenbus_state.specs.FrontView.{FrontView, suspended_at, is_broken}
use Rattle.negotiation_laws.specs.Negotiation.{new_epoch}
use Rattle.negotiation_laws.specs.Laws.{EpochsBegin}

after_suspend : (s : FrontBusStage) (v : FrontView) → s ≢ stage.Closed → is_broken s ≡ false → suspended_at s v ≡ new_epoch v
after_suspend stage.Closed v differs unbroken = absurd (differs refl)
after_suspend (stage.Broken word) v differs unbroken = absurd (true≢false unbroken)
after_suspend stage.Start v differs unbroken = refl
after_suspend s v differs unbroken = refl

pub epochs_begin : EpochsBegin
epochs_begin = record { first = λ config. refl; later = λ v. after_suspend v.stage v }
