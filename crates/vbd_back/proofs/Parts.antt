-- Words of a sector that a job of the backend moves many at once.
use Rattle.std.proofs.Common.{◌≡◌, ℕ, List, [], ◌∷◌, refl, sym, ap, ◌∙◌}
use Rattle.std.specs.Prelude.{Option, Some, None, IfSome}
use Rattle.blk_base.specs.declared.ask.BackAnswer.{BackAnswer}
use Rattle.back_jobs.specs.declared.part.SectorPart.{SectorPart}
use Rattle.back_jobs.specs.Part.{AsksEach, words_read, words_written}
use Rattle.blk_back.specs.Part as ring_part
use Rattle.blk_back.specs.Step as step_ring
use Rattle.blk_back.specs.View as ring
use Rattle.blk_back.specs.Hands.{hands_of}
use Rattle.blk_back.proofs.Parts.{plain_run, plain_moves, steps_hands}
use Rattle.xenbus_state.specs.BackView.{BackView}
use Rattle.vbd_back.specs.View.{View, both}
use Rattle.vbd_back.specs.Step.{job_step}
use Rattle.vbd_back.specs.Part.{job_steps, job_asked, JobMovesEach}
use Rattle.vbd_back.specs.Keeping.{KeepingView, IsPlain, job_steps_keeping, JobMovesEachKeeping}

-- they are moves of its end of the ring
pub steps_ring : (v : View) (number : ℕ) (answers : List BackAnswer) → job_steps v number answers ≡ record v { ring = ring_part.job_steps v.ring number answers }
steps_ring v number [] = refl
steps_ring v number (a ∷ answers) = steps_ring (job_step v number a) number answers

asked_ring : (v : View) (number : ℕ) (answers : List BackAnswer) → job_asked v number answers ≡ ring_part.job_asked v.ring number answers
asked_ring v number answers = ap (λ (w : View). step_ring.job_ask_of w.ring number) (steps_ring v number answers)

pub asks_ring : (v : View) (number : ℕ) (values : List ℕ) (o : Option SectorPart) → IfSome o (λ part. AsksEach part values (ring_part.job_asked v.ring number)) → IfSome o (λ part. AsksEach part values (job_asked v number))
asks_ring v number values None asks = tt
asks_ring v number values (Some part) asks = record {
  reads = λ read words fits. asked_ring v number (words_read words) ∙ asks.reads read words fits;
  writes = λ written j fits. asked_ring v number (words_written j) ∙ asks.writes written j fits;
}

pub moves_ring : (v : View) (number : ℕ) (answers : List BackAnswer) → ring_part.JobMovesEach v.ring number answers → JobMovesEach v number answers
moves_ring v number [] moves = tt
moves_ring v number (a ∷ answers) moves = (moves.0, moves_ring (job_step v number a) number answers moves.1)

-- of a backend that is to keep no mapping they are what they would be without
pub record CameByParts (k new : KeepingView) (number : ℕ) (answers : List BackAnswer) : Type 0 where
  pub is : new.ends ≡ job_steps k.ends number answers
  pub plain : IsPlain new
  pub moves : JobMovesEach k.ends number answers
  pub hands : hands_of new.ends.ring ≡ hands_of k.ends.ring

pub many_came : (k new : KeepingView) (number : ℕ) (answers : List BackAnswer) → IsPlain k → new ≡ job_steps_keeping k number answers → JobMovesEachKeeping k number answers → CameByParts k new number answers
many_came k new number answers plain e each =
    let run = plain_run k.ends.ring new.ends.ring number answers plain.ring (ap (λ (l : KeepingView). l.ends.ring) e) in
    let moves = plain_moves k.ends.ring number answers plain.ring each in
    let bus : new.ends ≡ both new.ends.ring k.ends.bus = ap (λ (b : BackView). both new.ends.ring b) (ap (λ (l : KeepingView). l.ends.bus) e) in
    record {
      is = bus ∙ (ap (λ (r : ring.View). both r k.ends.bus) run.is ∙ sym (steps_ring k.ends number answers));
      plain = record { never = ap (λ (l : KeepingView). l.most) e ∙ plain.never; ring = run.keeps_none };
      moves = moves_ring k.ends number answers moves;
      hands = ap (λ (r : ring.View). hands_of r) run.is ∙ steps_hands k.ends.ring number answers moves;
    }
