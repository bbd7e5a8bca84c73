-- A history of the machine is a run of the pipeline: its steps, with one for each line that tells nothing of a request.
use Rattle.std.proofs.Common.{◌≡◌, ℕ, true, List, [], ◌∷◌, ◌++◌, refl, ap, sym, ◌∙◌, subst}
use Rattle.std.specs.Prelude.{Option, Some, None}
use Rattle.std.specs.Option.{option_to_list}
use Rattle.std.specs.List.{list_all}
use Rattle.std.proofs.lemmas.Option.{none-some, same_Some}
use Rattle.blk_base.specs.Options.{Options}
use Rattle.blk_base.specs.declared.ask.BackAsk.{BackAsk}
use Rattle.blk_base.specs.declared.ask.BackAsk.TheVariants as back_ask
use Rattle.blk_io.specs.Disk.{DiskSeen, HasLength}
use Rattle.schedule_text.specs.declared.line.Line.{Line}
use Rattle.hypervisor.specs.Act.{Outcome, Gave, Took, Failed}
use Rattle.blk_back.specs.Step.{job_ask_of}
use Rattle.split_model.specs.World.{World, start_of}
use Rattle.split_model.specs.Happening.{Happening, JobMoves, Submits, happens, after, lines_at, lines_of as shown_by, DiskRuns as MachineRuns}
use Rattle.pipeline_laws.specs.Pipeline.{Pipeline, Step, Shows, after_steps, lines_of, pipeline_of}
use Rattle.pipeline_laws.specs.Allowed.{is_aside, AreAllowed as StepsAllowed}
use Rattle.pipeline_laws.specs.Disk.{DiskRuns, AreConsistent}
use Rattle.pipeline_laws.specs.Effects.{LinesDo, AreOfADisk, IsOfADisk}
use Rattle.pipeline_laws.specs.Submissions.{submitted_of as steps_submit}
use Rattle.pipeline_laws.proofs.Joining.{after_append, allowed_append, lines_append, runs_append, submitted_append}
use Rattle.pipeline_laws.proofs.Effects.{calls_of_effects}
use Rattle.machine_pipeline.specs.Plain.{IsPlain}
use Rattle.machine_pipeline.specs.Allowed.{AreServed}
use Rattle.machine_pipeline.specs.Submissions.{submitted_at, submitted_of}
use Rattle.machine_pipeline.specs.Sectors.{SectorsDo}
use Rattle.machine_pipeline.specs.Step.{CallAt, Does, GoesStepwise}
use Rattle.machine_pipeline.specs.Run.{IsPipelineRun}
use Rattle.machine_pipeline.proofs.Sectors.{SectorsGo, SectorsRun, sectors_run}
use Rattle.machine_pipeline.proofs.Together.{always_steps}
use Rattle.line_text.proofs.Both.{both_true}

-- the steps of asides, and those that they stand before
abbrev pub steps_of : List Line → List Step → List Step
steps_of [] steps = steps
steps_of (line ∷ asides) steps = Shows line ∷ steps_of asides steps

pub after_of : (asides : List Line) (steps : List Step) (p : Pipeline) → after_steps (steps_of asides steps) p ≡ after_steps steps p
after_of [] steps p = refl
after_of (line ∷ asides) steps p = after_of asides steps p

pub allowed_of : (asides : List Line) (steps : List Step) (p : Pipeline) → list_all is_aside asides ≡ true → StepsAllowed steps p → StepsAllowed (steps_of asides steps) p
allowed_of [] steps p aside may = may
allowed_of (line ∷ asides) steps p aside may = let e = both_true (is_aside line) (list_all is_aside asides) aside in (e.0, allowed_of asides steps p e.1 may)

pub lines_shown : (asides : List Line) (steps : List Step) (p : Pipeline) → lines_of (steps_of asides steps) p ≡ asides ++ lines_of steps p
lines_shown [] steps p = refl
lines_shown (line ∷ asides) steps p = ap (λ (ls : List Line). line ∷ ls) (lines_shown asides steps p)

pub submits_of : (asides : List Line) (steps : List Step) → steps_submit (steps_of asides steps) ≡ steps_submit steps
submits_of [] steps = refl
submits_of (line ∷ asides) steps = submits_of asides steps

pub disk_of : (asides : List Line) (steps : List Step) (a b : List (List ℕ)) → DiskRuns steps a b → DiskRuns (steps_of asides steps) a b
disk_of [] steps a b goes = goes
disk_of (line ∷ asides) steps a b goes = (a, refl, disk_of asides steps a b goes)

-- what happens, as steps from where the pipeline stands
pub record IsRunFrom (hs : List Happening) (w : World) (p : Pipeline) : Type 0 where
  pub steps : List Step
  pub allowed : StepsAllowed steps p
  pub shows : lines_of steps p ≡ shown_by hs w
  pub submits : steps_submit steps ≡ submitted_of hs
  pub disk : (a b : List (List ℕ)) → SectorsRun hs w (Some a) (Some b) → DiskRuns steps a b

-- a disk that exposes its sectors goes on doing so, and one that doesn't never does
none_after : (ask : BackAsk) (o : Outcome) (a : List (List ℕ)) → SectorsDo ask o (Some a) None → ⊥
none_after (back_ask.DiskRead sector) o a p = none-some a p.1
none_after (back_ask.DiskWrite sector words) (Gave other) a p = p
none_after (back_ask.DiskWrite sector words) Took a p = none-some _ p
none_after (back_ask.DiskWrite sector words) Failed a p = p
none_after (back_ask.Trim sector count) (Gave other) a p = p
none_after (back_ask.Trim sector count) Took a p = none-some _ p
none_after (back_ask.Trim sector count) Failed a p = p
none_after ask o a p = none-some a p.1

pub goes_none : (w : World) (h : Happening) (a : List (List ℕ)) → SectorsGo w h (Some a) None → ⊥
goes_none w (JobMoves number outcome) a p = none_after (job_ask_of w.back number) outcome a p
goes_none w h a p = none-some a p

-- so after a happening it exposes its sectors too
pub goes_some : (w : World) (h : Happening) (a : List (List ℕ)) (x : Option (List (List ℕ))) → SectorsGo w h (Some a) x → (c : List (List ℕ)) × SectorsGo w h (Some a) (Some c) × (x ≡ Some c)
goes_some w h a None goes = absurd (goes_none w h a goes)
goes_some w h a (Some c) goes = (c, goes, refl)

stays_none : (ask : BackAsk) (o : Outcome) (x : Option (List (List ℕ))) → SectorsDo ask o None x → x ≡ None
stays_none (back_ask.DiskRead sector) o x p = p.1
stays_none (back_ask.DiskWrite sector words) (Gave other) x p = absurd p
stays_none (back_ask.DiskWrite sector words) Took x p = p
stays_none (back_ask.DiskWrite sector words) Failed x p = p
stays_none (back_ask.Trim sector count) (Gave other) x p = absurd p
stays_none (back_ask.Trim sector count) Took x p = p
stays_none (back_ask.Trim sector count) Failed x p = p
stays_none ask o x p = p.1

none_goes : (w : World) (h : Happening) (x : Option (List (List ℕ))) → SectorsGo w h None x → x ≡ None
none_goes w (JobMoves number outcome) x p = stays_none (job_ask_of w.back number) outcome x p
none_goes w h x p = p

none_runs : (hs : List Happening) (w : World) (x : Option (List (List ℕ))) → SectorsRun hs w None x → x ≡ None
none_runs [] w x p = p
none_runs (h ∷ hs) w x p = none_runs hs (happens w h) x (subst (λ (y : Option (List (List ℕ))). SectorsRun hs (happens w h) y x) (none_goes w h p.0 p.1) p.2)

pub called : (w : World) (h : Happening) (a b : List (List ℕ)) → SectorsGo w h (Some a) (Some b) → CallAt w h a b
called w (JobMoves number outcome) a b p = p
called w h a b p = same_Some b a p

-- the requests of the first happening, and of those after it
pub submitted_first : (h : Happening) (hs : List Happening) → submitted_of (h ∷ hs) ≡ option_to_list (submitted_at h) ++ submitted_of hs
submitted_first (Submits job) hs = refl
submitted_first h hs = refl

-- the first happening, and those after it
pub one_more : (h : Happening) (hs : List Happening) (w : World) (p : Pipeline) (steps : List Step) → Does (submitted_at h) (CallAt w h) (lines_at w h) p steps → IsRunFrom hs (happens w h) (after_steps steps p) → IsRunFrom (h ∷ hs) w p
one_more h hs w p steps does rest = record {
  steps = first ++ rest.steps;
  allowed = allowed_append first rest.steps p (allowed_of does.asides steps p does.aside does.allowed) (subst (StepsAllowed rest.steps) (sym further) rest.allowed);
  shows = rw (lines_append first rest.steps p, lines_shown does.asides steps p, ← does.shows, further, rest.shows) refl;
  submits = rw (submitted_append first rest.steps, submits_of does.asides steps, does.asks, rest.submits, submitted_first h hs) refl;
  disk = λ a b runs.
      let c = goes_some w h a runs.0 runs.1 in
      let later = subst (λ (x : Option (List (List ℕ))). SectorsRun hs (happens w h) x (Some b)) c.2 runs.2 in
      runs_append first rest.steps a c.0 b (disk_of does.asides steps a c.0 (does.disk a c.0 (called w h a c.0 c.1))) (rest.disk c.0 b later);
}
  where
    first : List Step
    first = steps_of does.asides steps

    further : after_steps first p ≡ after_steps steps p
    further = after_of does.asides steps p

pub run_from : (hs : List Happening) (w : World) (p : Pipeline) → GoesStepwise hs w p → IsRunFrom hs w p
run_from [] w p goes = record { steps = []; allowed = tt; shows = refl; submits = refl; disk = λ a b same. same_Some b a same }
run_from (h ∷ hs) w p goes = one_more h hs w p goes.0 goes.1 (run_from hs (happens w h) (after_steps goes.0 p) goes.2)

-- the steps of all but the last happening, and what that is to the pipeline
pub record IsRunUpTo (hs : List Happening) (last : Happening) (w : World) (p : Pipeline) : Type 0 where
  pub run : IsRunFrom hs w p
  pub steps : List Step
  pub does : Does (submitted_at last) (CallAt (after hs w) last) (lines_at (after hs w) last) (after_steps run.steps p) steps

up_to_more : (h : Happening) (hs : List Happening) (last : Happening) (w : World) (p : Pipeline) (steps : List Step) → Does (submitted_at h) (CallAt w h) (lines_at w h) p steps → IsRunUpTo hs last (happens w h) (after_steps steps p) → IsRunUpTo (h ∷ hs) last w p
unfolding one_more
up_to_more h hs last w p steps does rest = record {
  run = one_more h hs w p steps does rest.run;
  steps = rest.steps;
  does = subst (λ (x : Pipeline). Does (submitted_at last) (CallAt (after hs (happens w h)) last) (lines_at (after hs (happens w h)) last) x rest.steps) (sym same) rest.does;
}
  where
    further : List Step
    further = (let r = rest.run in r.steps)

    same : after_steps (steps_of does.asides steps ++ further) p ≡ after_steps further (after_steps steps p)
    same = after_append (steps_of does.asides steps) further p ∙ ap (after_steps further) (after_of does.asides steps p)

pub run_up_to : (hs : List Happening) (last : Happening) (w : World) (p : Pipeline) → GoesStepwise (hs ++ last ∷ []) w p → IsRunUpTo hs last w p
unfolding run_from
run_up_to [] last w p goes = record { run = run_from [] w p tt; steps = goes.0; does = goes.1 }
run_up_to (h ∷ hs) last w p goes = up_to_more h hs last w p goes.0 goes.1 (run_up_to hs last (happens w h) (after_steps goes.0 p) goes.2)

never_none : (hs : List Happening) (w : World) (a : List (List ℕ)) → SectorsRun hs w (Some a) None → ⊥
never_none [] w a p = none-some a p
never_none (h ∷ hs) w a p =
    let c = goes_some w h a p.0 p.1 in
    never_none hs (happens w h) c.0 (subst (λ (x : Option (List (List ℕ))). SectorsRun hs (happens w h) x None) c.2 p.2)

-- steps whose lines are of a disk have its calls
pub shown_calls : (config : Options) (steps : List Step) (report : List Line) → StepsAllowed steps (pipeline_of config) → lines_of steps (pipeline_of config) ≡ report → AreOfADisk config.sectors report → AreConsistent config.sectors steps None None
shown_calls config steps report allowed shows of =
    search (of.sized, calls_of_effects steps (pipeline_of config) [] refl allowed of.content of.later (subst (λ (ls : List Line). LinesDo [] ls of.content of.later) (sym shows) of.effects))

-- the calls of the disk are consistent with what it exposes, or with the disk that the lines are of
consistent : (config : Options) (hs : List Happening) (before now : Option (List (List ℕ))) (r : IsRunFrom hs (start_of config) (pipeline_of config)) → HasLength before config.sectors → SectorsRun hs (start_of config) before now → IsOfADisk config.sectors before (shown_by hs (start_of config)) → AreConsistent config.sectors r.steps before now
consistent config hs None now r long runs of =
    subst (AreConsistent config.sectors r.steps None) (sym (none_runs hs (start_of config) now runs)) (shown_calls config r.steps (shown_by hs (start_of config)) r.allowed r.shows of)
consistent config hs (Some a) None r long runs of = absurd (never_none hs (start_of config) a runs)
consistent config hs (Some a) (Some b) r long runs of = record { content = a; sized = long; begins = refl; later = b; runs = r.disk a b runs; ends = refl }

-- the whole of it
pub is_run : (config : Options) (history : List Happening) (before now : DiskSeen) → IsPlain config → AreServed history (start_of config) → HasLength before.content config.sectors → MachineRuns history (start_of config) before now → IsOfADisk config.sectors before.content (shown_by history (start_of config)) → IsPipelineRun config history before.content now.content
is_run config history before now plain may long runs of =
    let r = run_from history (start_of config) (pipeline_of config) (always_steps config history plain may) in
    search (r.allowed, r.shows, r.submits, consistent config history before.content now.content r long (sectors_run history (start_of config) before now runs) of)
