-- Where the calls say so, rounds are of words alone, and all their words may be moved at once.
use Rattle.std.proofs.Common.{◌≡◌, ◌≢◌, ℕ, List, [], ◌∷◌, map, refl, sym, subst}
use Rattle.std.specs.Prelude.{Option, Some, None, IfSome}
use Rattle.hypervisor.specs.Hypervisor.{Hypervisor}
use Rattle.back_jobs.specs.declared.part.SectorPart.{SectorPart as JobPart}
use Rattle.back_jobs.specs.Work.{Work}
use Rattle.blk_back.specs.View.{View}
use Rattle.vbd_back.specs.View.{View as Backend}
use Rattle.vbd_back.specs.Part.{entry_part}
use Rattle.vbd_model.specs.World.{World, frontend_of, backend_of}
use Rattle.round_laws.specs.Movers.{FrontWords, front_words, part_of, frame_under, IsOutside, AreApart}
use Rattle.round_laws.specs.AtOnce.{back_moved}
use Rattle.round_laws.specs.Calls.{NoneMoves, MoveApart, CallsSayWords, AskForTheirs, JobsMayMove, MayMoveAtOnce}
use Rattle.round_laws.proofs.BackReads.{HasCopied, stays_busy}
use Rattle.round_laws.proofs.Visiting.{each_is_visited}
use Rattle.round_laws.proofs.Asking.{each_asks, each_goes_on}

module _ (h : Hypervisor) (v : View) where
  abbrev numbers_of : List Work → List ℕ
  numbers_of works = map (λ (t : Work). t.number) works

  none_outside : (frame : ℕ) (works : List Work) → AskForTheirs v works → NoneMoves h v frame (numbers_of works) → IsOutside h frame works
  none_outside frame [] asks none = tt
  none_outside frame (t ∷ works) asks none =
      (subst (λ (o : Option JobPart). IfSome o (λ p. frame_under h p ≢ frame)) asks.0 none.0, none_outside frame works asks.1 none.1)

  part_outside : (o : Option JobPart) (works : List Work) → AskForTheirs v works → IfSome o (λ p. NoneMoves h v (frame_under h p) (numbers_of works)) → IfSome o (λ p. IsOutside h (frame_under h p) works)
  part_outside None works asks none = tt
  part_outside (Some p) works asks none = none_outside (frame_under h p) works asks none

  all_apart : (works : List Work) → AskForTheirs v works → MoveApart h v (numbers_of works) → AreApart h works
  all_apart [] asks apart = tt
  all_apart (t ∷ works) asks apart = (
    part_outside (part_of t) works asks.1 (subst (λ (o : Option JobPart). IfSome o (λ p. NoneMoves h v (frame_under h p) (numbers_of works))) asks.0 apart.0),
    all_apart works asks.1 apart.1,
  )

  front_outside : (o : Option FrontWords) (works : List Work) → AskForTheirs v works → IfSome o (λ p. NoneMoves h v p.frame (numbers_of works)) → IfSome o (λ p. IsOutside h p.frame works)
  front_outside None works asks none = tt
  front_outside (Some p) works asks none = none_outside p.frame works asks none

pub may_move : (n : ℕ) (w : World) → w.rings.front.told ≡ None → w.rings.back.told ≡ None → CallsSayWords n w → MayMoveAtOnce n w
may_move n w front_told back_told say =
    let h : Hypervisor = w.rings.under in
    let v : View = w.rings.back in
    let there = each_is_visited v say.numbers say.jobs.visited say.jobs.all in
    let asks : AskForTheirs v v.jobs.works = each_asks n v say.numbers say.unhalted there.0 there.1 say.jobs.says in
    record {
      words = record {
        front_told = front_told;
        back_told = back_told;
        unhalted = say.unhalted;
        back = say.back;
        front = say.front;
        jobs = each_goes_on n v say.numbers say.unhalted say.jobs.visited say.jobs.all say.jobs.says;
        ordered = there.0;
        front_apart = front_outside h v (front_words (frontend_of w)) v.jobs.works asks
            (subst (λ (l : List ℕ). IfSome (front_words (frontend_of w)) (λ p. NoneMoves h v p.frame l)) (sym there.1) say.front_apart);
        back_apart = part_outside h v (entry_part (backend_of w)) v.jobs.works asks
            (subst (λ (l : List ℕ). IfSome (entry_part (backend_of w)) (λ p. NoneMoves h v (frame_under h p) l)) (sym there.1) say.back_apart);
        ends_apart = say.ends_apart;
        jobs_apart = all_apart h v v.jobs.works asks (subst (MoveApart h v) (sym there.1) say.jobs.apart);
      };
      parts = asks;
    }

-- also once the back has copied so many words
pub jobs_may_move : (n : ℕ) (w : World) → MayMoveAtOnce n w → JobsMayMove n w.rings.under (let b : Backend = back_moved n w in b.ring)
jobs_may_move n w may =
    let c : HasCopied w n (entry_part (backend_of w)) = (stays_busy w n (entry_part (backend_of w)) refl may.words.back).copied in
    subst (λ (b : Backend). JobsMayMove n w.rings.under b.ring) (sym c.is)
    (record {
      unhalted = may.words.unhalted;
      told = may.words.back_told;
      ordered = may.words.ordered;
      jobs = may.words.jobs;
      parts = may.parts;
      apart = may.words.jobs_apart;
    })
