-- The domain is suspended, or anything else happens: the ring's ends are on their way.
use Rattle.vbd_laws.specs.Served.{KeepsKeys}
use Rattle.std.proofs.Common.{inl, inr, ◌≡◌, ◌∙◌, ap, sym, ◌<◌, ◌^◌, ◌&&◌, Bool, true, false, true≢false, [], refl, arith, if◌then◌else◌}
use Rattle.std.specs.Prelude.{codes}
use Rattle.hypervisor.specs.Hypervisor.{Hypervisor}
use Rattle.key_directory.specs.Directory.{Directory, fresh_directory}
use Rattle.hypervisor.specs.Suspend.{suspended as under_suspended}
use Rattle.blk_front.specs.State.{is_open}
use Rattle.blk_front.specs.Suspend.{resumed}
use Rattle.xenbus_state.specs.BackView.{start_of}
use Rattle.xenbus_state.specs.FrontView.{FrontView, suspended as front_suspended}
use Rattle.xenbus_state.specs.declared.offer.Features.{Features}
use Rattle.split_model.specs.World as rings
use Rattle.split_model.proofs.Suspending.{begun_back}
use Rattle.negotiation_laws.specs.Negotiation as negotiated
use Rattle.vbd_model.specs.World.{World}
use Rattle.vbd_model.specs.Happening.{Happening, FrontMoves, BackMoves, Closes, OverwritesKey, Suspends, renewed_bus, happens}
use Rattle.vbd_model.specs.Fit.{IsFit}
use Rattle.vbd_laws.proofs.ServedFront as fronts
use Rattle.vbd_laws.proofs.NegotiatedRun.{Reached, Joined, reached_as}
use Rattle.vbd_laws.proofs.NegotiatedRests.{apart_rests}
use Rattle.vbd_laws.proofs.NegotiatedFront.{HasInHand}
use Rattle.vbd_laws.proofs.FitSuspended.{anew_at}
use Rattle.vbd_laws.proofs.NegotiatedEarly.{IsOnItsWay, rests_way, front_way, close_way}
use Rattle.vbd_laws.proofs.NegotiatedWay.{back_way, early_anew}

-- and the negotiation begins anew
begins_joined : (w : World) (keys : Directory) → IsFit w → fronts.Speaks w.front → w.back.disk.sectors < 2 ^ 64 → is_open w.rings.front.stage ≡ true → keys ≡ fresh_directory (codes "1")
    → Reached (record { front = front_suspended w.front; back = start_of w.back.features w.back.disk; keys = keys })
begins_joined w keys fit speaks sectors opened fresh =
    reached_as (negotiated.start_of w.front w.back.features w.back.disk) (record { front = front_suspended w.front; back = start_of w.back.features w.back.disk; keys = keys })
    (ap (λ (v : FrontView). record { front = v; back = start_of w.back.features w.back.disk; keys = keys }) (anew_at w.front.stage w.front w.rings.front.stage fit.front opened)
    ∙ ap (λ (d : Directory). record { front = negotiated.new_epoch w.front; back = start_of w.back.features w.back.disk; keys = d }) fresh)
    (record {
      run = record {
        front = w.front;
        offer = w.back.features;
        facts = w.back.disk;
        happenings = [];
        within = record { order = speaks.order; indirect = let few = fit.limited in omega arith; offered = let four : w.back.features.order ≡ 4 = ap (λ (f : Features). f.order) fit.offers in omega arith; sectors = sectors };
        ports = tt;
      };
      served = tt;
      stands = refl;
    })

-- so it is where the front is open
pub suspends_joined : (w : World) → IsFit w → fronts.Speaks w.front → w.back.disk.sectors < 2 ^ 64 → rings.may_suspend w.rings ≡ true → is_open w.rings.front.stage ≡ true → Joined (happens w Suspends)
suspends_joined w fit speaks sectors may opened = by_may (rings.may_suspend w.rings) may
  where
    by_open : (o : Bool) → o ≡ true → Reached (record {
      front = if o then front_suspended w.front else w.front;
      back = renewed_bus o w.back;
      keys = let h : Hypervisor = under_suspended (rings.state_after o) w.rings.under in h.keys;
    })
    by_open true is = begins_joined w _ fit speaks sectors opened refl
    by_open false is = absurd (true≢false (sym is))

    by_may : (m : Bool) → m ≡ true → Joined (record {
      rings = if m then rings.suspended w.rings else w.rings;
      front = if m && is_open w.rings.front.stage then front_suspended w.front else w.front;
      back = if m then renewed_bus (is_open w.rings.front.stage) w.back else w.back;
    })
    by_may true is = by_open (is_open w.rings.front.stage) opened
    by_may false is = absurd (true≢false (sym is))

suspend_way : (w : World) → IsFit w → fronts.Speaks w.front → w.back.disk.sectors < 2 ^ 64 → IsOnItsWay w → IsOnItsWay (happens w Suspends)
suspend_way w fit speaks sectors way = by_may (rings.may_suspend w.rings)
  where
    by_open : (opened : Bool) → is_open w.rings.front.stage ≡ opened → IsOnItsWay (record {
      rings = record {
        front = if opened then resumed w.rings.front else w.rings.front;
        back = rings.back_for opened (begun_back w.rings);
        under = under_suspended (rings.state_after opened) w.rings.under;
      };
      front = if opened then front_suspended w.front else w.front;
      back = renewed_bus opened w.back;
    })
    by_open true e = inl (record { joined = begins_joined w _ fit speaks sectors e refl; ring = refl; early = early_anew w.rings.front.stage })
    by_open false e = inr (inr (inl (record { ring = refl; halted = refl })))

    by_may : (may : Bool) → IsOnItsWay (record {
      rings = if may then rings.suspended w.rings else w.rings;
      front = if may && is_open w.rings.front.stage then front_suspended w.front else w.front;
      back = if may then renewed_bus (is_open w.rings.front.stage) w.back else w.back;
    })
    by_may true = by_open (is_open w.rings.front.stage) refl
    by_may false = way

-- whatever happens, but that a hostile hand overwrites a key
pub on_its_way : (w : World) (h : Happening) → KeepsKeys h → IsFit w → fronts.Speaks w.front → w.back.disk.sectors < 2 ^ 64 → HasInHand w.rings.front.stage w.rings.front.ending → IsOnItsWay w → IsOnItsWay (happens w h)
on_its_way w FrontMoves keeps fit speaks sectors hand way = front_way w fit hand way
on_its_way w BackMoves keeps fit speaks sectors hand way = back_way w fit way
on_its_way w (Closes at) keeps fit speaks sectors hand way = close_way w at way
on_its_way w (OverwritesKey name text) keeps fit speaks sectors hand way = absurd keeps
on_its_way w Suspends keeps fit speaks sectors hand way = suspend_way w fit speaks sectors way
on_its_way w h keeps fit speaks sectors hand way = rests_way (happens w h) w (apart_rests w h tt) way
