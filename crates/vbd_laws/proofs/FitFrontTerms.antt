-- An answer leaves the front's layout and order, and one that says no more than that a thing is done leaves what it read of the back.
use Rattle.std.proofs.Common.{◌≡◌, ℕ, Bool, false, refl, ◌∙◌}
use Rattle.std.specs.Prelude.{Option, Some, None}
use Rattle.blk_base.specs.declared.ask.FrontAnswer.{FrontAnswer}
use Rattle.blk_base.specs.declared.ask.FrontAnswer.TheVariants as answer
use Rattle.blk_front.specs.declared.stage.FrontStage.{FrontStage}
use Rattle.blk_front.specs.declared.stage.FrontStage.TheVariants as ring
use Rattle.xenbus_state.specs.declared.keys.BackKey.{BackKey}
use Rattle.xenbus_state.specs.declared.offer.Features.{Features}
use Rattle.xenbus_state.specs.declared.offer.DiskFacts.{DiskFacts}
use Rattle.xenbus_state.specs.declared.stage.FrontBusStage.{FrontBusStage}
use Rattle.xenbus_state.specs.declared.stage.FrontBusStage.TheVariants as stage
use Rattle.xenbus_state.specs.declared.table.FrontAction.{FrontAction}
use Rattle.xenbus_state.specs.declared.table.FrontAction.TheVariants as action
use Rattle.xenbus_state.specs.declared.front.FrontBusAsk.{FrontBusAsk}
use Rattle.xenbus_state.specs.declared.front.FrontBusAsk.TheVariants as ask
use Rattle.xenbus_state.specs.States.{state_read}
use Rattle.xenbus_state.specs.Tables.{front_action}
use Rattle.xenbus_state.specs.Reading.{count_read, fact_read}
use Rattle.xenbus_state.specs.FrontView.{FrontView, closed}
use Rattle.xenbus_state.specs.FrontAsk.{due, ask_of}
use Rattle.xenbus_state.specs.FrontStep.{at, acted, feature_step, fact_step, step_at, step_of}
use Rattle.vbd_front.specs.View.{is_broken}
use Rattle.vbd_front.specs.Step.{settled_at, bus_told, woken, followed, waited}
use Rattle.negotiation_laws.proofs.Choices.{closed_cases}

pub record Terms (v u : FrontView) : Type 0 where
  pub abi : u.abi ≡ v.abi
  pub order : u.order ≡ v.order

pub same_terms : (v : FrontView) → Terms v v
same_terms v = record { abi = refl; order = refl }

terms_acted : (act : FrontAction) (v : FrontView) → Terms v (acted act v)
terms_acted action.Nothing v = record { abi = refl; order = refl }
terms_acted other v = record { abi = refl; order = refl }

terms_feature : (k : BackKey) (n : Option ℕ) (v : FrontView) → Terms v (feature_step k n v)
terms_feature k None v = record { abi = refl; order = refl }
terms_feature k (Some n) v = record { abi = refl; order = refl }

terms_fact : (k : BackKey) (n : Option ℕ) (v : FrontView) → Terms v (fact_step k n v)
terms_fact k None v = record { abi = refl; order = refl }
terms_fact k (Some n) v = record { abi = refl; order = refl }

terms_at : (s : FrontBusStage) (v : FrontView) (idle : Bool) (x : FrontAnswer) → Terms v (step_at s v idle x)
terms_at stage.Rest v idle (answer.Watched path) = record { abi = refl; order = refl }
terms_at stage.ReadState v idle (answer.Key text) = terms_acted (front_action v.state v.closing idle (state_read text)) v
terms_at (stage.ReadFeature k) v idle (answer.Key text) = terms_feature k (count_read text) v
terms_at stage.NewPort v idle (answer.Port port) = record { abi = refl; order = refl }
terms_at (stage.ReadFact k) v idle (answer.Key text) = terms_fact k (fact_read k text) v
terms_at (stage.WriteState s) v idle answer.Done = record { abi = refl; order = refl }
terms_at stage.ClosePort v idle answer.Done = record { abi = refl; order = refl }
terms_at s v idle answer.Done = record { abi = refl; order = refl }
terms_at s v idle x = same_terms v

terms_step : (v : FrontView) (idle : Bool) (x : FrontAnswer) → Terms v (step_of v idle x)
terms_step v idle x = let is = terms_at (due v idle) (at (due v idle) v) idle x in record { abi = is.abi; order = is.order }

-- told what its own negotiation asked, or the outcome of a move of the end of the ring
pub terms_told : (v : FrontView) (idle : Bool) (x : FrontAnswer) → Terms v (bus_told idle v x)
terms_told v idle x = let told = terms_step v idle x in let last = settled_terms (ask_of (step_of v idle x) idle) (step_of v idle x) in record { abi = last.abi ∙ told.abi; order = last.order ∙ told.order }
  where
    settled_terms : (a : FrontBusAsk) (u : FrontView) → Terms u (settled_at a idle u)
    settled_terms ask.EndOtherGrants u = terms_step u idle answer.Done
    settled_terms a u = same_terms u

-- told that a thing is done it has read what it had
abbrev pub Found : Type 0
Found = Features × DiskFacts

abbrev pub found : FrontView → Found
found v = (v.features, v.disk)

found_done : (s : FrontBusStage) (v : FrontView) (idle : Bool) → found (step_at s v idle answer.Done) ≡ found v
found_done (stage.WriteState s) v idle = refl
found_done s v idle = refl

pub found_told : (v : FrontView) (idle : Bool) → found (bus_told idle v answer.Done) ≡ found v
found_told v idle = settled_found (ask_of u idle) u ∙ found_done (due v idle) (at (due v idle) v) idle
  where
    u : FrontView
    u = step_of v idle answer.Done

    settled_found : (a : FrontBusAsk) (u : FrontView) → found (settled_at a idle u) ≡ found u
    settled_found ask.EndOtherGrants u = found_done (due u idle) (at (due u idle) u) idle
    settled_found a u = refl

terms_woken : (broken : Bool) (v : FrontView) (idle : Bool) (x : FrontAnswer) → Terms v (woken broken idle v x)
terms_woken false v idle (answer.Watched path) = terms_told v idle (answer.Watched path)
terms_woken broken v idle x = same_terms v

pub terms_followed : (b : FrontBusAsk) (s : FrontStage) (v : FrontView) (idle : Bool) (x : FrontAnswer) → Terms v (followed b s idle v x)
terms_followed (ask.WriteRingWord word) s v idle x = terms_told v idle x
terms_followed (ask.Grant page) (ring.RingFrame k) v idle x = terms_told v idle x
terms_followed (ask.Grant page) ring.NewPort v idle x = terms_told v idle x
terms_followed ask.NewPort s v idle x = terms_told v idle x
terms_followed (ask.EndGrant page) (ring.RingRead k) v idle x = terms_told v idle answer.Done
terms_followed (ask.EndGrant page) ring.ClosePort v idle x = terms_told v idle answer.Done
terms_followed ask.ClosePort s v idle x = terms_told v idle x
terms_followed ask.Wait s v idle x = terms_woken (is_broken s) v idle x
terms_followed b s v idle x = same_terms v

pub terms_waited : (b : FrontBusAsk) (v : FrontView) (idle : Bool) (x : FrontAnswer) → Terms v (waited b idle v x)
terms_waited ask.Wait v idle x = terms_woken false v idle x
terms_waited b v idle x = same_terms v

pub terms_closed : (v : FrontView) → Terms v (closed v)
terms_closed v = closed_cases (Terms v) v (same_terms v) (record { abi = refl; order = refl })
