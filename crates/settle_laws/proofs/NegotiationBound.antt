-- What is left to both negotiations is 483 at most, from the beginning of an epoch on.
use Rattle.std.proofs.Common.{inl, inr, ◌≡◌, subst, ℕ, ◌+◌, ◌≤◌, List, [], ◌∷◌, refl, arith}
use Rattle.blk_base.specs.Options.{Options}
use Rattle.negotiation_laws.specs.Negotiation.{Negotiation}
use Rattle.negotiation_laws.specs.Happening.{Happening, happened, after, AreServed}
use Rattle.negotiation_laws.specs.Within.{HasPort, HavePorts}
use Rattle.negotiation_laws.specs.Run.{NegotiationRun, now, begins}
use Rattle.negotiation_laws.specs.Left.{left, one_if, goes}
use Rattle.negotiation_laws.proofs.Settling.{moves_lower}
use Rattle.vbd_model.specs.World.{World}
use Rattle.vbd_laws.proofs.NegotiatedRun.{Reached, reached_one}
use Rattle.vbd_laws.proofs.ServedGone.{IsGone}
use Rattle.vbd_laws.proofs.ServedHonest.{Honest}
use Rattle.settle_laws.specs.Total.{negotiation_of}

lowers_at : (n : Negotiation) (h : Happening) → HasPort h → Reached n → one_if (goes h n) + left (happened h n) ≤ left n
lowers_at n h port j = subst (λ (m : Negotiation). one_if (goes h m) + left (happened h m) ≤ left m) j.stands (moves_lower j.run h port)

then_less : (g last now before : ℕ) → last ≤ now → g + now ≤ before → last ≤ before
then_less g last now before a b = omega arith

-- whatever happens raises nothing
never_more : (hs : List Happening) (n : Negotiation) → HavePorts hs → AreServed hs n → Reached n → left (after hs n) ≤ left n
never_more [] n ports served j = omega arith
never_more (h ∷ hs) n ports served j =
    then_less (one_if (goes h n)) (left (after hs (happened h n))) (left (happened h n)) (left n)
    (never_more hs (happened h n) ports.1 served.1 (reached_one n h ports.0 served.0 j)) (lowers_at n h ports.0 j)

begins_with : (n first : ℕ) → n ≤ first → first ≡ 483 → n ≤ 483
begins_with n first a b = omega arith

-- the run before its first happening
reached_first : (r : NegotiationRun) → Reached (begins r)
reached_first r = record { run = record { front = r.front; offer = r.offer; facts = r.facts; happenings = []; within = r.within; ports = tt }; served = tt; stands = refl }

pub negotiation_bounded : (n : Negotiation) → Reached n → left n ≤ 483
negotiation_bounded n j =
    let r = j.run in
    subst (λ (m : Negotiation). left m ≤ 483) j.stands
    (begins_with (left (now r)) (left (begins r)) (never_more r.happenings (begins r) r.ports j.served (reached_first r)) refl)

-- and a front that was closed before this epoch has nothing to do, nor has its back
gone_bounded : (w : World) → IsGone w → left (negotiation_of w) ≤ 483
gone_bounded w gone = rw (gone.front, gone.back, gone.keys) (omega arith)

pub honest_bounded : (config : Options) (w : World) → Honest config w → left (negotiation_of w) ≤ 483
honest_bounded config w honest = elim honest.going [ inl going ↦ negotiation_bounded (negotiation_of w) going.joined | inr gone ↦ gone_bounded w gone ]
