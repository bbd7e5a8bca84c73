-- The first lines of what happens last: with those of what happened before they are the lines of a run of the pipeline too.
use Rattle.std.proofs.Common.{◌≡◌, ℕ, inl, inr, ◌⊎◌, List, [], ◌∷◌, ◌++◌, refl, sym, ◌∙◌, subst, append_assoc}
use Rattle.std.specs.Prelude.{Option, Some, None}
use Rattle.std.specs.Option.{option_to_list}
use Rattle.std.proofs.lemmas.List.{append-nil}
use Rattle.std.proofs.lemmas.List.Elements.{filter_map-append}
use Rattle.blk_base.specs.Options.{Options}
use Rattle.blk_base.specs.declared.config.Submission.{Submission}
use Rattle.blk_io.specs.Disk.{DiskSeen, HasLength}
use Rattle.schedule_text.specs.declared.line.Line.{Line}
use Rattle.split_model.specs.World.{World, start_of}
use Rattle.split_model.specs.Happening.{Happening, happens, after, lines_at, lines_of as shown_by, DiskRuns as MachineRuns}
use Rattle.pipeline_laws.specs.Pipeline.{Pipeline, Step, Moves, next, step_lines, after_steps, lines_of, pipeline_of}
use Rattle.pipeline_laws.specs.Allowed.{AreAllowed as StepsAllowed}
use Rattle.pipeline_laws.specs.Disk.{DiskRuns, AreConsistent}
use Rattle.pipeline_laws.specs.Effects.{IsOfADisk}
use Rattle.pipeline_laws.specs.Submissions.{submitted_of as steps_submit}
use Rattle.pipeline_laws.proofs.Joining.{allowed_append, lines_append, runs_append, submitted_append}
use Rattle.pipeline_laws.proofs.Running.{move_shows}
use Rattle.machine_pipeline.specs.Plain.{IsPlain}
use Rattle.machine_pipeline.specs.Allowed.{AreServed}
use Rattle.machine_pipeline.specs.Submissions.{submitted_at, submitted_of}
use Rattle.machine_pipeline.specs.Step.{CallAt}
use Rattle.machine_pipeline.proofs.Sectors.{SectorsGo, SectorsRun, sectors_run}
use Rattle.machine_pipeline.proofs.Together.{always_steps}
use Rattle.machine_pipeline.proofs.Runs.{goes_some, steps_of, allowed_of, lines_shown, submits_of, disk_of, IsRunFrom, called, submitted_first, IsRunUpTo, run_up_to, shown_calls}

-- a step shows a line at most
abbrev IsShort : List Line → Type 0
IsShort shown = (shown ≡ []) ⊎ ((line : Line) × (shown ≡ line ∷ []))

step_short : (p : Pipeline) (s : Step) → IsShort (step_lines p s)
step_short p (Moves k x move) = elim (move_shows k move) [ inl none ↦ inl none | inr one ↦ inr (one.0, one.1) ]
step_short p s = inr (_, refl)

-- the first of these steps, whose lines these are
record HasFirst (steps : List Step) (p : Pipeline) (part : List Line) : Type 0 where
  first : List Step
  later : List Step
  whole : first ++ later ≡ steps
  shows : part ≡ lines_of first p

-- so what begins the lines of some steps are the lines of the first of them
first_of : (steps : List Step) (p : Pipeline) (part rest : List Line) → part ++ rest ≡ lines_of steps p → HasFirst steps p part
first_of steps p [] rest e = record { first = []; later = steps; whole = refl; shows = refl }
first_of [] p (x ∷ part) rest e = absurd (cc)
first_of (s ∷ steps) p (x ∷ part) rest e = elim (step_short p s) [
  | inl none ↦
      let its = first_of steps (next p s) (x ∷ part) rest (rw none at e) in
      record { first = s ∷ its.first; later = its.later; whole = rw its.whole refl; shows = rw none its.shows }
  | inr one ↦
      let all : x ∷ (part ++ rest) ≡ one.0 ∷ lines_of steps (next p s) = rw one.1 at e in
      let its = first_of steps (next p s) part rest cc in
      record { first = s ∷ its.first; later = its.later; whole = rw its.whole refl; shows = rw one.1 (cc (all, its.shows)) }
]

-- what holds of steps holds of the first of them
allowed_first : (first later : List Step) (p : Pipeline) → StepsAllowed (first ++ later) p → StepsAllowed first p
allowed_first [] later p may = tt
allowed_first (s ∷ first) later p may = (may.0, allowed_first first later (next p s) may.1)

runs_first : (first later : List Step) (a b : List (List ℕ)) → DiskRuns (first ++ later) a b → (c : List (List ℕ)) × DiskRuns first a c
runs_first [] later a b runs = (a, refl)
runs_first (s ∷ first) later a b runs = let its = runs_first first later runs.0 b runs.2 in (its.0, (runs.0, runs.1, its.1))

-- steps that show what happened, and these lines of what happens last
pub record HasPart (hs : List Happening) (last : Happening) (w : World) (p : Pipeline) (part : List Line) : Type 0 where
  pub steps : List Step
  pub allowed : StepsAllowed steps p
  pub shows : lines_of steps p ≡ shown_by hs w ++ part
  pub more : List Submission
  pub submits : steps_submit steps ++ more ≡ submitted_of (hs ++ last ∷ [])
  pub runs : (a : List (List ℕ)) (now : Option (List (List ℕ))) → SectorsRun (hs ++ last ∷ []) w (Some a) now → (b : List (List ℕ)) × DiskRuns steps a b

-- a disk that exposes its sectors does so all along
first_runs : (hs : List Happening) (last : Happening) (w : World) (a : List (List ℕ)) (now : Option (List (List ℕ))) → SectorsRun (hs ++ last ∷ []) w (Some a) now
    → (b : List (List ℕ)) × SectorsRun hs w (Some a) (Some b) × ((c : List (List ℕ)) × SectorsGo (after hs w) last (Some b) (Some c))
first_runs [] last w a now runs = let c = goes_some w last a runs.0 runs.1 in (a, refl, (c.0, c.1))
first_runs (h ∷ hs) last w a now runs =
    let d = goes_some w h a runs.0 runs.1 in
    let its = first_runs hs last (happens w h) d.0 now (subst (λ (x : Option (List (List ℕ))). SectorsRun (hs ++ last ∷ []) (happens w h) x now) d.2 runs.2) in
    (its.0, (Some d.0, d.1, its.1), its.2)

-- the first of the steps that the last happening is
has_part : (hs : List Happening) (last : Happening) (w : World) (p : Pipeline) (part : List Line) (steps : List Step) (r : IsRunFrom hs w p)
    → HasFirst steps (after_steps r.steps p) part
    → StepsAllowed steps (after_steps r.steps p)
    → steps_submit steps ≡ option_to_list (submitted_at last)
    → ((b c : List (List ℕ)) → CallAt (after hs w) last b c → DiskRuns steps b c)
    → HasPart hs last w p part
has_part hs last w p part steps r f allowed asks goes = record {
  steps = r.steps ++ f.first;
  allowed = allowed_append r.steps f.first p r.allowed (allowed_first f.first f.later (after_steps r.steps p) (subst (λ (all : List Step). StepsAllowed all (after_steps r.steps p)) (sym f.whole) allowed));
  shows = rw (lines_append r.steps f.first p, r.shows, f.shows) refl;
  more = steps_submit f.later;
  submits = rw (
    submitted_append r.steps f.first,
    r.submits,
    append_assoc,
    ← submitted_append f.first f.later,
    f.whole,
    asks,
    filter_map-append submitted_at hs (last ∷ []),
    submitted_first last [],
    append-nil,
  ) refl;
  runs = λ a now runs.
      let its = first_runs hs last w a now runs in
      let one = runs_first f.first f.later its.0 its.2.0 (subst (λ (all : List Step). DiskRuns all its.0 its.2.0) (sym f.whole) (goes its.0 its.2.0 (called (after hs w) last its.0 its.2.0 its.2.1))) in
      (one.0, runs_append r.steps f.first a its.0 one.0 (r.disk a its.0 its.1) one.1);
}

part_shown : (hs : List Happening) (last : Happening) (w : World) (p : Pipeline) (part rest : List Line) → IsRunUpTo hs last w p → part ++ rest ≡ lines_at (after hs w) last → HasPart hs last w p part
part_shown hs last w p part rest u e =
    has_part hs last w p part all u.run (first_of all d part rest (e ∙ (u.does.shows ∙ sym (lines_shown u.does.asides u.steps d))))
    (allowed_of u.does.asides u.steps d u.does.aside u.does.allowed) (submits_of u.does.asides u.steps ∙ u.does.asks) (λ b c call. disk_of u.does.asides u.steps b c (u.does.disk b c call))
  where
    d : Pipeline
    d = (let r = u.run in after_steps r.steps p)

    all : List Step
    all = steps_of u.does.asides u.steps

-- over what the disk exposes, or the disk that the lines are of
part_consistent : (config : Options) (hs : List Happening) (last : Happening) (part : List Line) (before now : Option (List (List ℕ))) (h : HasPart hs last (start_of config) (pipeline_of config) part) → HasLength before config.sectors → SectorsRun (hs ++ last ∷ []) (start_of config) before now
    → IsOfADisk config.sectors before (shown_by hs (start_of config) ++ part)
    → AreConsistent config.sectors h.steps before None
part_consistent config hs last part None now h long runs of = shown_calls config h.steps (shown_by hs (start_of config) ++ part) h.allowed h.shows of
part_consistent config hs last part (Some a) now h long runs of = let its = h.runs a now runs in record { content = a; sized = long; begins = refl; later = its.0; runs = its.1; ends = tt }

-- steps that the pipeline allows from its start, which show what the history shows and these lines of what happens last; what they submit begins what all this submits
pub record IsPartRun (config : Options) (history : List Happening) (last : Happening) (part : List Line) (before : Option (List (List ℕ))) : Type 0 where
  pub first : HasPart history last (start_of config) (pipeline_of config) part
  pub open first use *
  pub disk : AreConsistent config.sectors steps before None

pub part_run : (config : Options) (history : List Happening) (last : Happening) (part rest : List Line) (before now : DiskSeen)
    → IsPlain config
    → AreServed (history ++ last ∷ []) (start_of config)
    → HasLength before.content config.sectors
    → MachineRuns (history ++ last ∷ []) (start_of config) before now
    → part ++ rest ≡ lines_at (after history (start_of config)) last
    → IsOfADisk config.sectors before.content (shown_by history (start_of config) ++ part)
    → IsPartRun config history last part before.content
part_run config history last part rest before now plain may long runs e of =
    let u = run_up_to history last (start_of config) (pipeline_of config) (always_steps config (history ++ last ∷ []) plain may) in
    let h = part_shown history last (start_of config) (pipeline_of config) part rest u e in
    record { first = h; disk = part_consistent config history last part before.content now.content h long (sectors_run (history ++ last ∷ []) (start_of config) before now runs) of }
