-- A look at both ends: the jobs, one after another by number, and then what rounds move.
use Rattle.std.proofs.Common.{◌≡◌, ◌≢◌, ℕ, ◌-◌, ◌<◌, ◌≤◌, ◌==◌, Bool, true, false, true≢false, ◌||◌, List, [], ◌∷◌, length, refl, sym, ap, ◌∙◌, subst, arith}
use Rattle.std.specs.Prelude.{Option, Some, None, IfSome}
use Rattle.std.specs.List.{AllByRecursion}
use Rattle.std.proofs.lemmas.Bool.{eq-eqb}
use Rattle.blk_base.specs.declared.ask.BackAsk.TheVariants.{Wait}
use Rattle.blk_base.specs.declared.parts.End.TheVariants as end
use Rattle.hypervisor.specs.Hypervisor.{Hypervisor}
use Rattle.hypervisor.specs.Act.{has_to_take}
use Rattle.back_jobs.specs.declared.part.SectorPart.{SectorPart as JobPart}
use Rattle.back_jobs.specs.Part.{IsWithinPage}
use Rattle.blk_back.specs.View.{View}
use Rattle.blk_back.specs.Step.{job_ask_of, next_job_of}
use Rattle.blk_back.specs.Part.{job_part, job_values}
use Rattle.blk_back.specs.Keeping.{KeepsNone}
use Rattle.vbd_back.specs.View.{View as Backend}
use Rattle.vbd_back.specs.Part.{entry_part}
use Rattle.vbd_back.specs.Ask.{is_waiting}
use Rattle.vbd_model.specs.World.{World, frontend_of, backend_of}
use Rattle.vbd_model.specs.Fit.{IsFit}
use Rattle.round_laws.specs.Movers.{FrontWords, front_words, frame_under, FrontGoesOn, BackGoesOn, AreVisited, CallsSay}
use Rattle.round_laws.specs.Calls.{NoneMoves, MoveApart, MayMoveAtOnce}
use Rattle.round_laws.proofs.Called.{may_move}
use Rattle.schedule_run.specs.Marks.{is_marked}
use Rattle.schedule_run.specs.Looking.{FrontStays, FrontSays, BackSays, JobSays, NoneMarked, JobsSay}

or_false : (a b : Bool) → (a || b) ≡ false → b ≡ false
or_false true b e = absurd (true≢false e)
or_false false b e = e

-- the back says this of itself
pub back_says : (n : ℕ) (h : Hypervisor) (b : Backend) (before after : List ℕ) (p : JobPart) → Some p ≡ entry_part b → b.ring.halted ≡ None → n < p.count → IsWithinPage p → KeepsNone b.ring → is_marked before (frame_under h p) ≡ false
    → ((frame : ℕ) → is_marked after frame ≡ (frame == frame_under h p || is_marked before frame)) → BackSays n h b before after
back_says n h b before after p is runs few within none fresh marked = record {
  runs = runs;
  goes = subst (BackGoesOn n b h) is (few, within.2, none);
  fresh = subst (λ (o : Option JobPart). IfSome o (λ q. is_marked before (frame_under h q) ≡ false)) is fresh;
  marked = subst (λ (o : Option JobPart). IfSome o (λ q. is_marked after (frame_under h q) ≡ true)) is
      (marked (frame_under h p) ∙ ap (λ (c : Bool). c || is_marked before (frame_under h p)) (eq-eqb (frame_under h p) (frame_under h p) refl));
  kept = λ frame unmarked. or_false (frame == frame_under h p) (is_marked before frame) (sym (marked frame) ∙ unmarked);
}

pub back_idles : (n : ℕ) (h : Hypervisor) (b : Backend) (marks : List ℕ) → None ≡ entry_part b → b.ring.halted ≡ None → is_waiting b ≡ true → has_to_take h end.Back ≡ false → BackSays n h b marks marks
back_idles n h b marks is runs waits untaken = record {
  runs = runs;
  goes = subst (BackGoesOn n b h) is (waits, untaken);
  fresh = subst (λ (o : Option JobPart). IfSome o (λ q. is_marked marks (frame_under h q) ≡ false)) is tt;
  marked = subst (λ (o : Option JobPart). IfSome o (λ q. is_marked marks (frame_under h q) ≡ true)) is tt;
  kept = λ frame unmarked. unmarked;
}

-- and a job
pub job_says : (n : ℕ) (h : Hypervisor) (v : View) (k : ℕ) (before after values : List ℕ) (p : JobPart) → Some p ≡ job_part v k → n < p.count → IsWithinPage p
    → values ≡ job_values v k → IfSome (job_part v k) (λ q. q.writes ≡ true → length values ≡ q.count) → is_marked before (frame_under h p) ≡ false
    → ((frame : ℕ) → is_marked after frame ≡ (frame == frame_under h p || is_marked before frame)) → JobSays n h v k before after
job_says n h v k before after values p is few within there counted fresh marked =
    let size : p.writes ≡ true → length values ≡ p.count = subst (λ (o : Option JobPart). IfSome o (λ q. q.writes ≡ true → length values ≡ q.count)) (sym is) counted in record {
      says = subst (CallsSay n v k) is (few, within.2, λ way. subst (λ (l : List ℕ). p.count ≤ length l) there (let all = size way in omega arith));
      fresh = subst (λ (o : Option JobPart). IfSome o (λ q. is_marked before (frame_under h q) ≡ false)) is fresh;
      marked = subst (λ (o : Option JobPart). IfSome o (λ q. is_marked after (frame_under h q) ≡ true)) is
          (marked (frame_under h p) ∙ ap (λ (b : Bool). b || is_marked before (frame_under h p)) (eq-eqb (frame_under h p) (frame_under h p) refl));
      kept = λ frame unmarked. or_false (frame == frame_under h p) (is_marked before frame) (sym (marked frame) ∙ unmarked);
    }

pub job_idles : (n : ℕ) (h : Hypervisor) (v : View) (k : ℕ) (marks : List ℕ) → None ≡ job_part v k → Wait ≡ job_ask_of v k → JobSays n h v k marks marks
job_idles n h v k marks is waits = record {
  says = subst (CallsSay n v k) is (sym waits);
  fresh = subst (λ (o : Option JobPart). IfSome o (λ q. is_marked marks (frame_under h q) ≡ false)) is tt;
  marked = subst (λ (o : Option JobPart). IfSome o (λ q. is_marked marks (frame_under h q) ≡ true)) is tt;
  kept = λ frame unmarked. unmarked;
}

-- jobs that come one after another from this number on, none of them of a frame that is marked
pub record Come (n : ℕ) (h : Hypervisor) (v : View) (from : ℕ) (marks numbers : List ℕ) : Type 0 where
  pub visited : AreVisited v from numbers
  pub says : AllByRecursion (λ k. CallsSay n v k (job_part v k)) numbers
  pub apart : MoveApart h v numbers
  pub unmarked : NoneMarked marks h v numbers

module _ (h : Hypervisor) (v : View) where
  -- a frame that is marked is none of theirs
  one_apart : (marks : List ℕ) (frame : ℕ) (o : Option JobPart) → is_marked marks frame ≡ true → IfSome o (λ p. is_marked marks (frame_under h p) ≡ false) → IfSome o (λ p. frame_under h p ≢ frame)
  one_apart marks frame None marked unmarked = tt
  one_apart marks frame (Some p) marked unmarked = λ same. true≢false (sym marked ∙ (ap (is_marked marks) (sym same) ∙ unmarked))

  marked_apart : (marks : List ℕ) (frame : ℕ) (numbers : List ℕ) → is_marked marks frame ≡ true → NoneMarked marks h v numbers → NoneMoves h v frame numbers
  marked_apart marks frame [] marked unmarked = tt
  marked_apart marks frame (k ∷ numbers) marked unmarked = (one_apart marks frame (job_part v k) marked unmarked.0, marked_apart marks frame numbers marked unmarked.1)

  job_apart : (marks : List ℕ) (o : Option JobPart) (numbers : List ℕ) → IfSome o (λ p. is_marked marks (frame_under h p) ≡ true) → NoneMarked marks h v numbers → IfSome o (λ p. NoneMoves h v (frame_under h p) numbers)
  job_apart marks None numbers marked unmarked = tt
  job_apart marks (Some p) numbers marked unmarked = marked_apart marks (frame_under h p) numbers marked unmarked

  -- what isn't marked wasn't
  one_before : (before after : List ℕ) (o : Option JobPart) → ((frame : ℕ) → is_marked after frame ≡ false → is_marked before frame ≡ false) → IfSome o (λ p. is_marked after (frame_under h p) ≡ false) → IfSome o (λ p. is_marked before (frame_under h p) ≡ false)
  one_before before after None kept unmarked = tt
  one_before before after (Some p) kept unmarked = kept (frame_under h p) unmarked

  all_before : (before after numbers : List ℕ) → ((frame : ℕ) → is_marked after frame ≡ false → is_marked before frame ≡ false) → NoneMarked after h v numbers → NoneMarked before h v numbers
  all_before before after [] kept unmarked = tt
  all_before before after (k ∷ numbers) kept unmarked = (one_before before after (job_part v k) kept unmarked.0, all_before before after numbers kept unmarked.1)

  -- one more before them
  come_more : (n from k : ℕ) (before after numbers : List ℕ) → JobSays n h v k before after → next_job_of v from ≡ Some k → Come n h v k after numbers → Come n h v from before (k ∷ numbers)
  come_more n from k before after numbers job next come = record {
    visited = (next, come.visited);
    says = (job.says, come.says);
    apart = (job_apart after (job_part v k) numbers job.marked come.unmarked, come.apart);
    unmarked = (job.fresh, all_before before after numbers job.kept come.unmarked);
  }

  come_none : (n from : ℕ) (marks : List ℕ) → next_job_of v from ≡ None → Come n h v from marks []
  come_none n from marks none = record { visited = none; says = tt; apart = tt; unmarked = tt }

  -- jobs were looked at up to a number: as many as are left, if they come, are all that were left out
  pub record HaveLooked (first marks : List ℕ) (last least left : ℕ) : Type 0 where
    pub all : (n : ℕ) (numbers : List ℕ) → 0 < n → n ≤ least → length numbers ≡ left → Come n h v last marks numbers → JobsSay n h v first

  pub looked_none : (marks : List ℕ) (least left : ℕ) → left ≡ length v.jobs.works → HaveLooked marks marks 0 least left
  looked_none marks least left held = record {
    all = λ n numbers some few count come. record {
      numbers = numbers;
      come = record { visited = come.visited; all = count ∙ held; says = come.says; apart = come.apart };
      unmarked = come.unmarked;
    };
  }

  pub looked_on : (first before after : List ℕ) (last k least fewer left : ℕ) → next_job_of v last ≡ Some k → fewer ≤ least → 0 < left → ((n : ℕ) → 0 < n → n ≤ fewer → JobSays n h v k before after) → HaveLooked first before last least left → HaveLooked first after k fewer (left - 1)
  looked_on first before after last k least fewer left next few some job looked = record {
    all = λ n numbers positive within count come.
        looked.all n (k ∷ numbers) positive (omega arith) (omega arith) (come_more n last k before after numbers (job n positive within) next come);
  }

  pub looked_all : (first marks : List ℕ) (last least left : ℕ) → next_job_of v last ≡ None → left ≡ 0 → 0 < least → HaveLooked first marks last least left → JobsSay least h v first
  looked_all first marks last least left none done some looked = looked.all least [] some (omega arith) (sym done) (come_none least last marks none)

-- what the look says of the machine
front_so : (n : ℕ) (w : World) (o : Option FrontWords) → FrontStays n (frontend_of w) w.rings.under o → FrontGoesOn n w o
front_so n w None stays = stays
front_so n w (Some p) stays = stays

front_apart : (w : World) (marks numbers : List ℕ) (o : Option FrontWords) → IfSome o (λ p. is_marked marks p.frame ≡ true) → NoneMarked marks w.rings.under w.rings.back numbers → IfSome o (λ p. NoneMoves w.rings.under w.rings.back p.frame numbers)
front_apart w marks numbers None marked unmarked = tt
front_apart w marks numbers (Some p) marked unmarked = marked_apart w.rings.under w.rings.back marks p.frame numbers marked unmarked

-- the ring's frame is none of a job, nor the front's
back_apart : (w : World) (marks numbers : List ℕ) (o : Option JobPart) → IfSome o (λ p. is_marked marks (frame_under w.rings.under p) ≡ true) → NoneMarked marks w.rings.under w.rings.back numbers
    → IfSome o (λ p. NoneMoves w.rings.under w.rings.back (frame_under w.rings.under p) numbers)
back_apart w marks numbers None marked unmarked = tt
back_apart w marks numbers (Some p) marked unmarked = marked_apart w.rings.under w.rings.back marks (frame_under w.rings.under p) numbers marked unmarked

ends_apart : (h : Hypervisor) (marks : List ℕ) (e : Option JobPart) (o : Option FrontWords) → IfSome o (λ q. is_marked marks q.frame ≡ true) → IfSome e (λ p. is_marked marks (frame_under h p) ≡ false)
    → IfSome e (λ p. IfSome o (λ q. q.frame ≢ frame_under h p))
ends_apart h marks None o marked fresh = tt
ends_apart h marks (Some p) None marked fresh = tt
ends_apart h marks (Some p) (Some q) marked fresh = λ same. true≢false (sym marked ∙ (ap (is_marked marks) same ∙ fresh))

pub may_move_so : (n : ℕ) (w : World) (first marks : List ℕ) → IsFit w → FrontSays n (frontend_of w) w.rings.under first → BackSays n w.rings.under (backend_of w) first marks → JobsSay n w.rings.under w.rings.back marks → MayMoveAtOnce n w
may_move_so n w first marks fit front back jobs =
    may_move n w fit.safe.front_told fit.safe.back_told (record {
      unhalted = back.runs;
      back = back.goes;
      front = front_so n w (front_words (frontend_of w)) front.stays;
      numbers = jobs.numbers;
      jobs = jobs.come;
      front_apart = front_apart w first jobs.numbers (front_words (frontend_of w)) front.marked (all_before w.rings.under w.rings.back first marks jobs.numbers back.kept jobs.unmarked);
      back_apart = back_apart w marks jobs.numbers (entry_part (backend_of w)) back.marked jobs.unmarked;
      ends_apart = ends_apart w.rings.under first (entry_part (backend_of w)) (front_words (frontend_of w)) front.marked back.fresh;
    })
