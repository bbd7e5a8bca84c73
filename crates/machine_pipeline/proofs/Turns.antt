-- A move of each mover from a given stage, and what has to be shown of it: it is some steps of the pipeline, most often none or one, and what holds goes on holding.
use Rattle.std.proofs.Common.{inl, inr, ◌≡◌, ℕ, true, List, [], ◌∷◌, ◌++◌, refl, ap, sym, ◌∙◌}
use Rattle.std.specs.Prelude.{Option, Some, None}
use Rattle.std.specs.Option.{option_to_list}
use Rattle.std.specs.List.{list_all}
use Rattle.std.proofs.lemmas.List.{append-nil}
use Rattle.blk_base.specs.Options.{Options}
use Rattle.blk_base.specs.declared.ask.BackAnswer.{BackAnswer}
use Rattle.blk_base.specs.declared.moves.BackMover.TheVariants as back_mover
use Rattle.blk_base.specs.declared.moves.Move.{Move as Shown}
use Rattle.schedule_text.specs.declared.line.Line.{Line}
use Rattle.schedule_text.specs.declared.line.Line.TheVariants.{Move}
use Rattle.pipeline_laws.specs.Pipeline.{Pipeline, Step, next, step_lines, after_steps}
use Rattle.pipeline_laws.specs.Allowed.{IsAllowed, is_aside}
use Rattle.pipeline_laws.specs.Disk.{DiskGoes}
use Rattle.hypervisor.specs.Act.{FrontAct, BackAct, Outcome, Took, front_act, back_act}
use Rattle.blk_front.specs.declared.stage.FrontStage.{FrontStage}
use Rattle.blk_front.specs.declared.told.Told.{Told}
use Rattle.blk_front.specs.View as front
use Rattle.blk_front.specs.Ask as front_ask
use Rattle.blk_front.specs.Step as front_step
use Rattle.blk_back.specs.declared.stage.BackStage.{BackStage}
use Rattle.blk_back.specs.declared.told.BackTold.{BackTold}
use Rattle.blk_base.specs.declared.halt.Halt.{Halt}
use Rattle.blk_back.specs.View as back
use Rattle.blk_back.specs.Ask as back_ask
use Rattle.blk_back.specs.Step as back_step
use Rattle.split_model.specs.World.{World}
use Rattle.split_model.specs.Shown.{front_lines, back_lines, halt_lines}
use Rattle.split_model.specs.Happening.{job_turn, job_after, job_shows}
use Rattle.machine_pipeline.specs.Step.{Does, IsSame, CallOf}
use Rattle.machine_pipeline.proofs.Flow.{Flow}
use Rattle.machine_pipeline.proofs.Holds.{Holds}
use Rattle.blk_base.specs.declared.config.Submission.{Submission}
use Rattle.pipeline_laws.specs.Submissions.{submitted_at, submitted_of}
use Rattle.machine_pipeline.proofs.Lists.{none_or_some}

abbrev pub front_turn_at : FrontStage → World → Option FrontAct
front_turn_at s w = front_act w.under (front_ask.ask_at s w.front)

abbrev pub front_next : FrontStage → World → Option FrontAct → World
front_next s w None = w
front_next s w (Some a) = record { front = record (front_step.step_at s w.front a.answer) { told = None }; back = w.back; under = a.under }

abbrev pub front_says : FrontStage → World → Option FrontAct → List Line
front_says s w None = []
front_says s w (Some a) = Move a.shown ∷ front_lines (let f : front.View = front_step.step_at s w.front a.answer in f.told)

abbrev pub back_turn_at : BackStage → World → Option BackAct
back_turn_at b w = back_act w.under back_mover.Back (back_ask.ask_at b w.back) Took

abbrev pub back_next : BackStage → World → Option BackAct → World
back_next b w None = w
back_next b w (Some a) = record { front = w.front; back = record (back_step.step_at b w.back a.answer) { told = None }; under = a.under }

abbrev pub back_says : BackStage → World → Option BackAct → List Line
back_says b w None = []
back_says b w (Some a) =
    let v : back.View = back_step.step_at b w.back a.answer in
    Move a.shown ∷ back_lines v.told a.answer ++ halt_lines w.back.halted v.halted

-- the next machine, and the pipeline that it stands for: after the steps that were made
pub record GoesBy (asked : Option Submission) (call : (before after : List (List ℕ)) → Type 0) (config : Options) (said : List Line) (w : World) (d : Pipeline) : Type 0 where
  pub flow : Flow
  pub steps : List Step
  pub does : Does asked call said d steps
  pub holds : Holds config w flow (after_steps steps d) w.front.stage w.back.stage

-- so it is by these steps, with what holds then
pub goes_by : {asked : Option Submission} {call : (before after : List (List ℕ)) → Type 0} {config : Options} {said : List Line} {w : World} {d : Pipeline} {steps : List Step} {g : Flow} → Does asked call said d steps → Holds config w g (after_steps steps d) w.front.stage w.back.stage → GoesBy asked call config said w d
goes_by {steps = steps} {g = g} does holds = record { flow = g; steps = steps; does = does; holds = holds }

-- where no call of the disk is made
abbrev pub Goes : Options → List Line → World → Pipeline → Type 0
Goes = GoesBy None IsSame

-- a move of the front at that stage, of the back at that stage, and of the job of a number
abbrev pub FrontGoes : Options → World → Pipeline → FrontStage → Type 0
FrontGoes config w d s = Goes config (front_says s w (front_turn_at s w)) (front_next s w (front_turn_at s w)) d

abbrev pub BackGoes : Options → World → Pipeline → BackStage → Type 0
BackGoes config w d b = Goes config (back_says b w (back_turn_at b w)) (back_next b w (back_turn_at b w)) d

abbrev pub JobGoes : Options → World → Pipeline → ℕ → Outcome → Type 0
JobGoes config w d number outcome = GoesBy None (CallOf (back_step.job_ask_of w.back number) outcome) config (job_shows w number (job_turn w number outcome)) (job_after w number (job_turn w number outcome)) d

-- a move by itself is nothing to the pipeline
pub nothing : (call : (before after : List (List ℕ)) → Type 0) (shown : Shown) (d : Pipeline) → ((a b : List (List ℕ)) → call a b → b ≡ a) → Does None call (Move shown ∷ []) d []
nothing call shown d same = record { asides = Move shown ∷ []; aside = refl; shows = refl; asks = refl; allowed = tt; disk = same }

-- and where there is no move nothing is
pub no_move : (call : (before after : List (List ℕ)) → Type 0) (d : Pipeline) → ((a b : List (List ℕ)) → call a b → b ≡ a) → Does None call [] d []
no_move call d same = record { asides = []; aside = refl; shows = refl; asks = refl; allowed = tt; disk = same }

-- so is a move of an end that tells nothing
pub said_nothing : (d : Pipeline) (shown : Shown) (told : Option Told) → told ≡ None → Does None IsSame (Move shown ∷ front_lines told) d []
said_nothing d shown told e = rw e (nothing IsSame shown d (λ a b same. same))

pub silent : (shown : Shown) (told : Option BackTold) (halted : Option Halt) (answer : BackAnswer) (d : Pipeline) → told ≡ None → halted ≡ None → Does None IsSame (Move shown ∷ back_lines told answer ++ halt_lines halted halted) d []
silent shown told halted answer d untold unhalted = rw (untold, unhalted) (nothing IsSame shown d (λ a b same. same))

-- one step, with its lines, and what stands after it
pub record Stepped (asked : Option Submission) (call : (before after : List (List ℕ)) → Type 0) (d : Pipeline) (lines : List Line) (After : Pipeline → Type 0) : Type 0 where
  pub step : Step
  pub allowed : IsAllowed d step
  pub shows : step_lines d step ≡ lines
  pub asks : submitted_at step ≡ asked
  pub disk : (before after : List (List ℕ)) → call before after → DiskGoes step before after
  pub now : After (next d step)

-- the requests that a first step submits, and those of the steps after it
pub submits_first : (s : Step) (steps : List Step) → submitted_of (s ∷ steps) ≡ option_to_list (submitted_at s) ++ submitted_of steps
submits_first s steps = elim (none_or_some (submitted_at s)) [ inl e ↦ rw e refl | inr some ↦ rw some.1 refl ]

submits_one : (s : Step) → submitted_of (s ∷ []) ≡ option_to_list (submitted_at s)
submits_one s = submits_first s [] ∙ append-nil (option_to_list (submitted_at s))

submits_two : (s t : Step) → submitted_of (s ∷ t ∷ []) ≡ option_to_list (submitted_at s) ++ option_to_list (submitted_at t)
submits_two s t = submits_first s (t ∷ []) ∙ ap (λ (jobs : List Submission). option_to_list (submitted_at s) ++ jobs) (submits_one t)

-- a step after what tells nothing of a request
does_shown : {asked : Option Submission} {call : (before after : List (List ℕ)) → Type 0} {d : Pipeline} {lines : List Line} {After : Pipeline → Type 0} (asides : List Line) → list_all is_aside asides ≡ true → (s : Stepped asked call d lines After) → Does asked call (asides ++ lines) d (s.step ∷ [])
does_shown {d = d} asides aside s = record {
  asides = asides;
  aside = aside;
  shows = ap (λ (ls : List Line). asides ++ ls) (sym s.shows ∙ sym (append-nil (step_lines d s.step)));
  asks = submits_one s.step ∙ ap option_to_list s.asks;
  allowed = (s.allowed, tt);
  disk = λ before after made. (after, s.disk before after made, refl);
}

pub does_step : {asked : Option Submission} {call : (before after : List (List ℕ)) → Type 0} {d : Pipeline} {lines : List Line} {After : Pipeline → Type 0} (shown : Shown) (said : List Line) → said ≡ lines → (s : Stepped asked call d lines After) → Does asked call (Move shown ∷ said) d (s.step ∷ [])
does_step shown said e s = rw e (does_shown (Move shown ∷ []) refl s)

-- a step that shows its lines alone
pub does_alone : {asked : Option Submission} {call : (before after : List (List ℕ)) → Type 0} {d : Pipeline} {lines : List Line} {After : Pipeline → Type 0} (s : Stepped asked call d lines After) → Does asked call lines d (s.step ∷ [])
does_alone s = does_shown [] refl s

-- two steps, one after another
does_two : {first second call : (before after : List (List ℕ)) → Type 0} {d : Pipeline} {ls more : List Line} {After Last : Pipeline → Type 0} (shown : Shown) (said : List Line) → said ≡ ls ++ more
    → (s : Stepped None first d ls After) (t : Stepped None second (next d s.step) more Last)
    → ((before after : List (List ℕ)) → call before after → (between : List (List ℕ)) × first before between × second between after)
    → Does None call (Move shown ∷ said) d (s.step ∷ t.step ∷ [])
does_two shown said e s t split = record {
  asides = Move shown ∷ [];
  aside = refl;
  shows = ap (λ (ls : List Line). Move shown ∷ ls) (rw (s.shows, t.shows, append-nil) e);
  asks = submits_two s.step t.step ∙ rw (s.asks, t.asks) refl;
  allowed = (s.allowed, (t.allowed, tt));
  disk = λ before after made. let does = split before after made in (does.0, s.disk before does.0 does.1, (after, t.disk does.0 after does.2, refl));
}

-- a step, and then one that shows nothing
pub does_then : {call : (before after : List (List ℕ)) → Type 0} {d : Pipeline} {lines : List Line} {After Last : Pipeline → Type 0} (shown : Shown) (said : List Line) → said ≡ lines → (s : Stepped None call d lines After) (t : Stepped None IsSame (next d s.step) [] Last) → Does None call (Move shown ∷ said) d (s.step ∷ t.step ∷ [])
does_then {lines = lines} shown said e s t = does_two shown said (e ∙ sym (append-nil lines)) s t (λ before after made. (after, made, refl))

-- a step that shows nothing, and then another
pub does_after : {call : (before after : List (List ℕ)) → Type 0} {d : Pipeline} {lines : List Line} {After Last : Pipeline → Type 0} (shown : Shown) (said : List Line) → said ≡ lines → (s : Stepped None IsSame d [] After) (t : Stepped None call (next d s.step) lines Last) → Does None call (Move shown ∷ said) d (s.step ∷ t.step ∷ [])
does_after shown said e s t = does_two shown said e s t (λ before after made. (before, refl, made))
