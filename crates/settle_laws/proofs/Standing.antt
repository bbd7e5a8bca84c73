-- The machine as it stands after a history that no hostile hand touched.
use Rattle.std.proofs.Common.{◌≡◌, ◌∙◌, ap, subst, List, [], ◌∷◌, ◌++◌, refl}
use Rattle.blk_base.specs.Options.{Options}
use Rattle.machine_pipeline.specs.Plain.{IsPlain}
use Rattle.vbd_model.specs.World.{World, start_of}
use Rattle.blk_base.specs.declared.parts.End.{End}
use Rattle.blk_base.specs.declared.parts.End.TheVariants as end
use Rattle.split_model.specs.Happening as ring
use Rattle.machine_pipeline.specs.Allowed.{AreServed}
use Rattle.ring_settle_laws.proofs.Calm.{IsCalm, run_calm}
use Rattle.vbd_model.specs.Happening.{Happening, FrontMoves, BackMoves, Closes, Pokes, OverwritesKey, does, happens, after}
use Rattle.vbd_model.specs.Possible.{IsPossible}
use Rattle.vbd_model.proofs.Running.{after-append}
use Rattle.vbd_laws.specs.Quiet.{IsUntouched}
use Rattle.vbd_laws.proofs.ServedHonest.{Honest}
use Rattle.vbd_laws.proofs.ServedRun.{honest_after, all_served}
use Rattle.vbd_laws.proofs.WaitsJobsHeld.{job_waits_alone}
use Rattle.settle_laws.proofs.TurnsServed.{IsHonest, front_honest, back_honest}
use Rattle.settle_laws.proofs.Working.{JobsWaitSo}

pub record Stands (config : Options) (w : World) : Type 0 where
  pub honest : Honest config w
  pub history : List Happening
  pub come : after history (start_of config) ≡ w
  pub calm : IsCalm w.rings

-- what happens untouched overwrites nothing
closes_honest : (w : World) (at : End) → IsHonest (does w (Closes at))
closes_honest w end.Front = refl
closes_honest w end.Back = refl

does_honest : (w : World) (h : Happening) → IsUntouched h → IsHonest (does w h)
does_honest w FrontMoves untouched = front_honest w
does_honest w BackMoves untouched = back_honest w
does_honest w (Closes at) untouched = closes_honest w at
does_honest w (Pokes frame word value) untouched = absurd untouched
does_honest w (OverwritesKey name text) untouched = absurd untouched
does_honest w h untouched = refl

-- one happening more
pub stands_on : (config : Options) (w : World) (h : Happening) → IsUntouched h → IsPossible w h → Stands config w → Stands config (happens w h)
stands_on config w h untouched possible s = record {
  honest = honest_after config (h ∷ []) w (untouched, tt) s.honest (possible, tt);
  history = s.history ++ h ∷ [];
  come = after-append s.history (h ∷ []) (start_of config) ∙ ap (λ (v : World). happens v h) s.come;
  calm =
      let honest = s.honest in
      run_calm config (does w h) w.rings honest.plain honest.standing
      (subst (λ (hs : List ring.Happening). AreServed hs w.rings) (does_honest w h untouched) (all_served config (h ∷ []) w honest (possible, tt))) s.calm;
}

-- its jobs wait for their causes alone
pub jobs_wait_so : (config : Options) (w : World) → Stands config w → JobsWaitSo w.rings
jobs_wait_so config w s = subst (λ (v : World). JobsWaitSo v.rings) s.come (λ number waits. (job_waits_alone config s.history number plain.indirect).0 waits)
  where
    plain : IsPlain config
    plain = let honest = s.honest in honest.plain
