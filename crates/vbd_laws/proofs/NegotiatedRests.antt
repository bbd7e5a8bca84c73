-- What changes neither the negotiation nor the stages of the ring's ends; and an end that is asked to close.
use Rattle.std.proofs.Common.{◌≡◌, ap, ℕ, refl}
use Rattle.std.specs.Prelude.{Option, Some, None}
use Rattle.blk_base.specs.declared.parts.End.{End}
use Rattle.blk_base.specs.declared.parts.End.TheVariants as end
use Rattle.key_directory.specs.Directory.{Directory}
use Rattle.hypervisor.specs.Hypervisor.{Hypervisor}
use Rattle.hypervisor.specs.Act.{BackAct, Outcome}
use Rattle.split_model.specs.World as rings
use Rattle.split_model.specs.Happening.{job_after, job_turn, overwritten}
use Rattle.split_model.proofs.Overwriting.{poke_cases}
use Rattle.split_model.proofs.SafeFront.{submit_kept}
use Rattle.negotiation_laws.specs.Happening as negotiated
use Rattle.vbd_model.specs.World.{World}
use Rattle.vbd_model.specs.Happening.{Happening, FrontMoves, BackMoves, JobMoves, Closes, Submits, Pokes, OverwritesKey, Suspends, happens}
use Rattle.blk_back.specs.Step.{job_ask_of}
use Rattle.split_model.proofs.SafeAnswers.{jobs_of}
use Rattle.vbd_laws.proofs.FitChannels.{job_leaves}
use Rattle.vbd_laws.proofs.NegotiatedRun.{Joined, negotiation_of, reached_one}

-- what changes neither the negotiation, nor the stages of the ring's ends, nor the back's halt
pub record Rests (v w : World) : Type 0 where
  pub bus : negotiation_of v ≡ negotiation_of w
  pub back : v.rings.back.stage ≡ w.rings.back.stage
  pub halted : v.rings.back.halted ≡ w.rings.back.halted
  pub front : v.rings.front.stage ≡ w.rings.front.stage

-- a job leaves the keys
abbrev with_rings : World → rings.World → World
with_rings w x = record { rings = x; front = w.front; back = w.back }

job_rests : (w : World) (k : ℕ) (o : Outcome) (act : Option BackAct) → job_turn w.rings k o ≡ act → Rests (with_rings w (job_after w.rings k act)) w
job_rests w k o None e = record { bus = refl; back = refl; halted = refl; front = refl }
job_rests w k o (Some a) e =
    let leaves = job_leaves w.rings.under k (job_ask_of w.rings.back k) o a (jobs_of w.rings.back k) e in
    record { bus = ap (λ (d : Directory). record { front = w.front; back = w.back; keys = d }) leaves.1; back = refl; halted = refl; front = refl }

poke_keys : (h : Hypervisor) (frame word value : ℕ) → (let x : Hypervisor = overwritten h frame word value in x.keys ≡ h.keys)
poke_keys h frame word value = poke_cases (λ x shown. x.keys ≡ h.keys) h frame word value (λ framed worded. refl) refl

-- neither a move of an end nor a close, no key is overwritten, and the domain isn't suspended
abbrev pub IsApart : Happening → Type 0
IsApart FrontMoves = ⊥
IsApart BackMoves = ⊥
IsApart (Closes at) = ⊥
IsApart (OverwritesKey name text) = ⊥
IsApart Suspends = ⊥
IsApart h = Unit {0}

pub apart_rests : (w : World) (h : Happening) → IsApart h → Rests (happens w h) w
apart_rests w FrontMoves apart = absurd apart
apart_rests w BackMoves apart = absurd apart
apart_rests w (Closes at) apart = absurd apart
apart_rests w (OverwritesKey name text) apart = absurd apart
apart_rests w Suspends apart = absurd apart
apart_rests w (JobMoves number outcome) apart = job_rests w number outcome (job_turn w.rings number outcome) refl
apart_rests w (Submits job) apart = record { bus = refl; back = refl; halted = refl; front = (submit_kept w.rings.front job).stage }
apart_rests w (Pokes frame word value) apart = record { bus = ap (λ (d : Directory). record { front = w.front; back = w.back; keys = d }) (poke_keys w.rings.under frame word value); back = refl; halted = refl; front = refl }
apart_rests w h apart = record { bus = refl; back = refl; halted = refl; front = refl }

-- an end is asked to close
pub closes_joined : (w : World) (at : End) → Joined w → Joined (happens w (Closes at))
closes_joined w end.Front j = reached_one (negotiation_of w) negotiated.FrontCloses tt tt j
closes_joined w end.Back j = reached_one (negotiation_of w) negotiated.BackCloses tt tt j
