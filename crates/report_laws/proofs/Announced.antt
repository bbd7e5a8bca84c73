-- What comes to be so of the front only with a line that says it: where it is so, the report has that line.
use Rattle.std.proofs.Common.{◌≡◌, ◌⊎◌, inl, inr, ℕ, ◌||◌, Bool, true, List, [], ◌∷◌, ◌++◌, refl, ap, sym, ◌∙◌}
use Rattle.std.specs.Prelude.{Option, Some, None}
use Rattle.std.specs.List.{list_any}
use Rattle.std.proofs.lemmas.List.Folds.{list_any-append}
use Rattle.std.proofs.Math.Bool.{or-true}
use Rattle.blk_base.specs.declared.config.Submission.{Submission}
use Rattle.blk_base.specs.declared.ask.FrontAnswer.{FrontAnswer}
use Rattle.schedule_text.specs.declared.line.Line.{Line}
use Rattle.schedule_text.specs.declared.line.Line.TheVariants as lines
use Rattle.hypervisor.specs.Act.{FrontAct, BackAct, Took}
use Rattle.blk_front.specs.declared.state.FrontState.{FrontState}
use Rattle.blk_front.specs.View.{View}
use Rattle.blk_front.specs.Step.{step_of}
use Rattle.blk_front.specs.State.{in_state}
use Rattle.blk_front.specs.Submit.{submit_of}
use Rattle.blk_front.specs.Suspend.{suspended}
use Rattle.blk_back.specs.Ask.{is_led}
use Rattle.split_model.specs.World.{World}
use Rattle.split_model.specs.Shown.{front_lines, state_lines}
use Rattle.split_model.specs.Happening.{Happening, FrontMoves, BackMoves, JobMoves, FrontEnters, Submits, Suspends, happens, lines_at, front_after, front_shows, front_turn, back_turn}
use Rattle.split_model.specs.Kept.{KeepingHappening, Plainly, BackOffers, BackKeeps, offered, kept_so, reads_keeping, back_after_keeping, job_turn_keeping, job_after_keeping, plainly_after, plainly_shows, happens_keeping, shows_keeping}
use Rattle.split_model.proofs.States.{enters_cases}
use Rattle.split_model.proofs.Suspending.{suspend_cases}
use Rattle.move_laws.proofs.KeptLines.{either_world}

-- a line that says this stands there
abbrev pub Has : (Line → Bool) → List Line → Type 0
Has says ls = list_any says ls ≡ true

-- and stands there with more before or after
pub has_first : (says : Line → Bool) (a b : List Line) → Has says a → Has says (a ++ b)
has_first says a b h = list_any-append says a b ∙ ap (λ (x : Bool). x || list_any says b) h

pub has_later : (says : Line → Bool) (a b : List Line) → Has says b → Has says (a ++ b)
has_later says a b h = list_any-append says a b ∙ ap (λ (x : Bool). list_any says a || x) h ∙ or-true (list_any says a)

-- a step and a state that the front enters make it so only with a line that says it, and a submission and a suspend don't
pub record IsAnnounced (so : View → Bool) (says : Line → Bool) : Type 0 where
  pub step : (v : View) (a : FrontAnswer) → (let x : View = step_of v a in so (record x { told = None })) ≡ true → so v ≡ true ⊎ Has says (front_lines (let x : View = step_of v a in x.told))
  pub enters : (s : FrontState) (v : View) → so (in_state s v) ≡ true → so v ≡ true ⊎ Has says (state_lines s)
  pub submit : (v : View) (job : Submission) → so (submit_of v job).1 ≡ true → so v ≡ true
  pub suspend : (v : View) → so (suspended v) ≡ true → so v ≡ true

-- where it is so, a line among these said it
abbrev pub IsSaid : (so : View → Bool) (says : Line → Bool) → List Line → World → Type 0
IsSaid so says before w = so w.front ≡ true → Has says before

module _ (so : View → Bool) (says : Line → Bool) (announced : IsAnnounced so says) where
  front_said : (w : World) (before : List Line) (act : Option FrontAct) → IsSaid so says before w → IsSaid so says (before ++ front_shows w act) (front_after w act)
  front_said w before None was = λ t. has_first says before [] (was t)
  front_said w before (Some a) was = λ t. by_step (announced.step w.front a.answer t)
    where
      by_step : so w.front ≡ true ⊎ Has says (front_lines (let x : View = step_of w.front a.answer in x.told)) → Has says (before ++ front_shows w (Some a))
      by_step (inl here) = has_first says before (front_shows w (Some a)) (was here)
      by_step (inr now) = has_later says before (front_shows w (Some a)) (has_later says (lines.Move a.shown ∷ []) _ now)

  enters_said : (w : World) (before : List Line) (s : FrontState) → IsSaid so says before w → IsSaid so says (before ++ lines_at w (FrontEnters s)) (happens w (FrontEnters s))
  enters_said w before s was = enters_cases (λ v shown. so v ≡ true → Has says (before ++ shown)) s w.front (λ may t. by_state (announced.enters s w.front t)) (λ t. has_first says before [] (was t))
    where
      by_state : so w.front ≡ true ⊎ Has says (state_lines s) → Has says (before ++ state_lines s)
      by_state (inl here) = has_first says before (state_lines s) (was here)
      by_state (inr now) = has_later says before (state_lines s) now

  -- what leaves the front as it was
  same_said : (w w' : World) (before ls : List Line) → w'.front ≡ w.front → IsSaid so says before w → IsSaid so says (before ++ ls) w'
  same_said w w' before ls same was = λ t. has_first says before ls (was (ap so (sym same) ∙ t))

  back_same : (w : World) (act : Option BackAct) → (let x : World = back_after_keeping w act in x.front) ≡ w.front
  back_same w None = refl
  back_same w (Some a) = refl

  job_same : (w : World) (number : ℕ) (act : Option BackAct) → (let x : World = job_after_keeping w number act in x.front) ≡ w.front
  job_same w number None = refl
  job_same w number (Some a) = refl

  plainly_said : (before : List Line) (w : World) (h : Happening) → IsSaid so says before w → IsSaid so says (before ++ plainly_shows w h) (plainly_after w h)
  plainly_said before w FrontMoves was = front_said w before (front_turn w) was
  plainly_said before w BackMoves was = same_said w (back_after_keeping w (back_turn w Took)) before _ (back_same w (back_turn w Took)) was
  plainly_said before w (JobMoves number outcome) was =
      same_said w (job_after_keeping w number (job_turn_keeping w number outcome)) before _ (job_same w number (job_turn_keeping w number outcome)) was
  plainly_said before w (FrontEnters state) was = enters_said w before state was
  plainly_said before w (Submits job) was = λ t. has_first says before _ (was (announced.submit w.front job t))
  plainly_said before w Suspends was =
      suspend_cases (λ v shown. IsSaid so says (before ++ shown) v) w
      (λ may t. has_first says before _ (was (announced.suspend w.front t)))
      (same_said w w before [] refl was)
  plainly_said before w h was = same_said w (plainly_after w h) before _ refl was

  pub one_said : (before : List Line) (w : World) (h : KeepingHappening) → IsSaid so says before w → IsSaid so says (before ++ shows_keeping w h) (happens_keeping w h)
  one_said before w (Plainly h) was = plainly_said before w h was
  one_said before w BackOffers was =
      same_said w (happens_keeping w BackOffers) before _ (either_world (λ (x : World). x.front ≡ w.front) (is_led w.back.stage) (offered w) w (λ led. refl) refl) was
  one_said before w (BackKeeps cap) was =
      same_said w (happens_keeping w (BackKeeps cap)) before _ (either_world (λ (x : World). x.front ≡ w.front) (reads_keeping w cap) (kept_so w cap) w (λ reads. refl) refl) was
