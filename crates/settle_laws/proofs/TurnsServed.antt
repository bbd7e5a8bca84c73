-- A move of an end is served by the machine of the ring, before a hostile hand overwrites a word or a key.
use Rattle.std.proofs.Common.{◌≡◌, ap, subst, List, [], ◌∷◌, ◌++◌, map, refl}
use Rattle.blk_base.specs.Options.{Options}
use Rattle.blk_base.specs.declared.parts.End.TheVariants as end
use Rattle.blk_base.specs.declared.halt.Halt.{Halt}
use Rattle.blk_front.specs.declared.state.FrontState.{FrontState}
use Rattle.split_model.specs.Honest.{honest_history}
use Rattle.split_model.specs.Happening as ring
use Rattle.machine_pipeline.specs.Allowed.{AreServed}
use Rattle.vbd_model.specs.World.{World}
use Rattle.vbd_model.specs.Happening.{FrontMoves, BackMoves, front_key, back_key, entered_at, halted_at, front_turn, back_turn, front_does, back_does}
use Rattle.vbd_laws.proofs.MovesTurns.{front_asks, back_asks, front_cases, back_cases}
use Rattle.vbd_laws.proofs.ServedHonest.{Honest}
use Rattle.vbd_laws.proofs.ServedRun.{all_served}

-- what an end is to the ring's machine overwrites nothing
states_honest : (states : List FrontState) → honest_history (map ring.FrontEnters states ++ []) ≡ map ring.FrontEnters states
states_honest [] = refl
states_honest (s ∷ states) = ap (λ (hs : List ring.Happening). ring.FrontEnters s ∷ hs) (states_honest states)

reasons_honest : (reasons : List Halt) → honest_history (map ring.BackHalts reasons ++ []) ≡ map ring.BackHalts reasons
reasons_honest [] = refl
reasons_honest (why ∷ reasons) = ap (λ (hs : List ring.Happening). ring.BackHalts why ∷ hs) (reasons_honest reasons)

abbrev pub IsHonest : List ring.Happening → Type 0
IsHonest does = honest_history (does ++ []) ≡ does

pub front_honest : (w : World) → IsHonest (front_does w)
front_honest w =
    front_cases (λ does asked step. IsHonest does) w (λ says. ap (λ (hs : List ring.Happening). ring.Negotiates end.Front (front_key (front_asks w)) ∷ hs) (states_honest (entered_at w (front_turn w)))) (λ quiet moves. refl) (λ quiet still. refl)

pub back_honest : (w : World) → IsHonest (back_does w)
back_honest w =
    back_cases (λ does asked step. IsHonest does) w (λ says untaken. ap (λ (hs : List ring.Happening). ring.Negotiates end.Back (back_key (back_asks w)) ∷ hs) (reasons_honest (halted_at w (back_turn w)))) (λ says takes. refl) (λ quiet moves. refl) (λ quiet still. refl)

pub front_served : (config : Options) (w : World) → Honest config w → AreServed (front_does w) w.rings
front_served config w honest = subst (λ (hs : List ring.Happening). AreServed hs w.rings) (front_honest w) (all_served config (FrontMoves ∷ []) w honest (tt, tt))

pub back_served : (config : Options) (w : World) → Honest config w → AreServed (back_does w) w.rings
back_served config w honest = subst (λ (hs : List ring.Happening). AreServed hs w.rings) (back_honest w) (all_served config (BackMoves ∷ []) w honest (tt, tt))
