-- The effects that the pipeline's lines show are the calls of its steps.
use Rattle.std.proofs.Common.{◌≡◌, ℕ, zero, suc, ◌+◌, ◌-◌, true, false, List, [], ◌∷◌, ◌++◌, map, refl, ap, sym, ◌∙◌, subst, arith}
use Rattle.std.specs.Prelude.{Some, slice_get, slice_set}
use Rattle.std.proofs.lemmas.Bool.{true≢false}
use Rattle.std.proofs.lemmas.Option.{none-some, same_Some}
use Rattle.std.proofs.lemmas.List.{map-append}
use Rattle.blk_base.specs.declared.config.Submission.{Submission}
use Rattle.blk_io.specs.Disk.{zeroed, SameBut}
use Rattle.schedule_text.specs.declared.line.Detail.{Detail}
use Rattle.schedule_text.specs.declared.line.Detail.TheVariants as details
use Rattle.schedule_text.specs.declared.line.Line.{Line}
use Rattle.schedule_text.specs.declared.line.Line.TheVariants as lines
use Rattle.schedule_text.specs.Recorder.{recorded, kept_of}
use Rattle.plain_disk.specs.Request.{sector_of, count_of, filling}
use Rattle.pipeline_laws.specs.Station.{PipelineRequest, submitted}
use Rattle.pipeline_laws.specs.Move.{Move, BeginsEntry, Pushes, BeginsFetch, Fetches, Fills, Reads, Flushes, Trims, Fails, Ends, BeginsResponse, Replies, Takes, Answers, Tells, moved, move_lines}
use Rattle.pipeline_laws.specs.Pipeline.{Pipeline, Step, Submits, Refuses, Moves, Connects, StartsToClose, Closes, Leaves, Resumes, Rests, Shows, again, next, step_lines, lines_of}
use Rattle.pipeline_laws.specs.Allowed.{IsAllowed, AreAllowed, is_aside}
use Rattle.pipeline_laws.specs.Disk.{lost_sector, lost_count, DiskDoes, DiskGoes, DiskRuns}
use Rattle.pipeline_laws.specs.Effects.{LineDoes, jobs_after, LinesDo}
use Rattle.pipeline_laws.proofs.Lists.{get_map}

abbrev pub job_in : PipelineRequest → Submission
job_in x = x.submission

-- the requests after all these lines
abbrev pub all_jobs : List Submission → List Line → List Submission
all_jobs submissions [] = submissions
all_jobs submissions (line ∷ ls) = all_jobs (jobs_after submissions line) ls

pub lines_do_append : (submissions : List Submission) (ls more : List Line) (before after : List (List ℕ)) → LinesDo submissions (ls ++ more) before after → (between : List (List ℕ)) × LinesDo submissions ls before between × LinesDo (all_jobs submissions ls) more between after
lines_do_append submissions [] more before after d = (before, refl, d)
lines_do_append submissions (line ∷ ls) more before after d =
    let rest = lines_do_append (jobs_after submissions line) ls more d.0 after d.2 in
    (rest.0, (d.0, d.1, rest.1), rest.2)

pub lines_do_join : (submissions : List Submission) (ls more : List Line) (before between after : List (List ℕ)) → LinesDo submissions ls before between → LinesDo (all_jobs submissions ls) more between after → LinesDo submissions (ls ++ more) before after
lines_do_join submissions [] more before between after first rest = subst (λ (c : List (List ℕ)). LinesDo submissions more c after) first rest
lines_do_join submissions (line ∷ ls) more before between after first rest = (first.0, first.1, lines_do_join (jobs_after submissions line) ls more first.0 between after first.2 rest)

-- a line that tells nothing of a request
aside_does : (submissions : List Submission) (line : Line) (before after : List (List ℕ)) → is_aside line ≡ true → LineDoes submissions line before after → after ≡ before
aside_does submissions (lines.Effect id index) before after aside d = absurd (true≢false (sym aside))
aside_does submissions (lines.EffectRead id index words) before after aside d = absurd (true≢false (sym aside))
aside_does submissions (lines.Trimmed id) before after aside d = absurd (true≢false (sym aside))
aside_does submissions (lines.Fault id index) before after aside d = absurd (true≢false (sym aside))
aside_does submissions line before after aside d = d

does_aside : (submissions : List Submission) (line : Line) (before after : List (List ℕ)) → is_aside line ≡ true → after ≡ before → LineDoes submissions line before after
does_aside submissions (lines.Effect id index) before after aside d = absurd (true≢false (sym aside))
does_aside submissions (lines.EffectRead id index words) before after aside d = absurd (true≢false (sym aside))
does_aside submissions (lines.Trimmed id) before after aside d = absurd (true≢false (sym aside))
does_aside submissions (lines.Fault id index) before after aside d = absurd (true≢false (sym aside))
does_aside submissions line before after aside d = d

aside_jobs : (submissions : List Submission) (line : Line) → is_aside line ≡ true → jobs_after submissions line ≡ submissions
aside_jobs submissions (lines.Submit id submission) aside = absurd (true≢false (sym aside))
aside_jobs submissions line aside = refl

-- the request of a number
its_job : (submissions : List Submission) (requests : List PipelineRequest) (k : ℕ) (x : PipelineRequest) (submission : Submission) → submissions ≡ map job_in requests → slice_get requests k ≡ Some x → slice_get submissions (k + 1 - 1) ≡ Some submission → submission ≡ x.submission
its_job submissions requests k x submission all here at =
    let place : k + 1 - 1 ≡ k = omega arith in
    same_Some submission x.submission (sym at ∙ (ap (slice_get submissions) place ∙ (ap (λ (js : List Submission). slice_get js k) all ∙ get_map job_in requests k x here)))

job_at : (submissions : List Submission) (requests : List PipelineRequest) (k : ℕ) (x : PipelineRequest) → submissions ≡ map job_in requests → slice_get requests k ≡ Some x → slice_get submissions (k + 1 - 1) ≡ Some x.submission
job_at submissions requests k x all here =
    let place : k + 1 - 1 ≡ k = omega arith in
    ap (slice_get submissions) place ∙ (ap (λ (js : List Submission). slice_get js k) all ∙ get_map job_in requests k x here)

move_calls : (submissions : List Submission) (requests : List PipelineRequest) (k : ℕ) (x : PipelineRequest) (move : Move) (before after : List (List ℕ)) → submissions ≡ map job_in requests → slice_get requests k ≡ Some x → LinesDo submissions (move_lines k move) before after → DiskDoes x.submission move before after
move_calls submissions requests k x (Fills index) before after all here d =
    let same = its_job submissions requests k x d.1.0 all here d.1.1 in
    d.2 ∙ subst (λ (j : Submission). d.0 ≡ slice_set before (sector_of j + index) (filling j index)) same d.1.2
move_calls submissions requests k x (Reads index words) before after all here d =
    let same = its_job submissions requests k x d.1.0 all here d.1.1 in
    (subst (λ (j : Submission). slice_get before (sector_of j + index) ≡ Some words) same d.1.2, d.2 ∙ d.1.3)
move_calls submissions requests k x Trims before after all here d =
    let same = its_job submissions requests k x d.1.0 all here d.1.1 in
    d.2 ∙ subst (λ (j : Submission). d.0 ≡ zeroed before (sector_of j) (count_of j)) same d.1.2
move_calls submissions requests k x (Fails index) before after all here d =
    let same = its_job submissions requests k x d.1.0 all here d.1.1 in
    subst (λ (c : List (List ℕ)). SameBut (lost_sector x.submission index) (lost_count x.submission) (Some before) (Some c)) (sym d.2)
    (subst (λ (j : Submission). SameBut (lost_sector j index) (lost_count j) (Some before) (Some d.0)) same d.1.2)
move_calls submissions requests k x Flushes before after all here d = d.2 ∙ d.1
move_calls submissions requests k x (Replies status) before after all here d = d.2 ∙ d.1
move_calls submissions requests k x (Answers status) before after all here d = d.2 ∙ d.1
move_calls submissions requests k x (Tells index words) before after all here d = d.2 ∙ d.1
move_calls submissions requests k x BeginsEntry before after all here d = d
move_calls submissions requests k x Pushes before after all here d = d
move_calls submissions requests k x BeginsFetch before after all here d = d
move_calls submissions requests k x Fetches before after all here d = d
move_calls submissions requests k x (Ends status) before after all here d = d
move_calls submissions requests k x (BeginsResponse status) before after all here d = d
move_calls submissions requests k x (Takes status) before after all here d = d

move_effects : (submissions : List Submission) (requests : List PipelineRequest) (k : ℕ) (x : PipelineRequest) (move : Move) (before after : List (List ℕ)) → submissions ≡ map job_in requests → slice_get requests k ≡ Some x → DiskDoes x.submission move before after → LinesDo submissions (move_lines k move) before after
move_effects submissions requests k x (Fills index) before after all here d = (after, (x.submission, job_at submissions requests k x all here, d), refl)
move_effects submissions requests k x (Reads index words) before after all here d = (after, (x.submission, job_at submissions requests k x all here, d.0, d.1), refl)
move_effects submissions requests k x Trims before after all here d = (after, (x.submission, job_at submissions requests k x all here, d), refl)
move_effects submissions requests k x (Fails index) before after all here d = (after, (x.submission, job_at submissions requests k x all here, d), refl)
move_effects submissions requests k x Flushes before after all here d = (after, d, refl)
move_effects submissions requests k x (Replies status) before after all here d = (after, d, refl)
move_effects submissions requests k x (Answers status) before after all here d = (after, d, refl)
move_effects submissions requests k x (Tells index words) before after all here d = (after, d, refl)
move_effects submissions requests k x BeginsEntry before after all here d = d
move_effects submissions requests k x Pushes before after all here d = d
move_effects submissions requests k x BeginsFetch before after all here d = d
move_effects submissions requests k x Fetches before after all here d = d
move_effects submissions requests k x (Ends status) before after all here d = d
move_effects submissions requests k x (BeginsResponse status) before after all here d = d
move_effects submissions requests k x (Takes status) before after all here d = d

step_calls : (p : Pipeline) (s : Step) (submissions : List Submission) (before after : List (List ℕ)) → submissions ≡ map job_in p.requests → IsAllowed p s → LinesDo submissions (step_lines p s) before after → DiskGoes s before after
step_calls p (Moves k x move) submissions before after all may d = move_calls submissions p.requests k x move before after all may.0.here d
step_calls p (Shows line) submissions before after all may d = d.2 ∙ aside_does submissions line before d.0 may d.1
step_calls p (Submits submission) submissions before after all may d = d.2 ∙ d.1
step_calls p (Refuses submission refusal) submissions before after all may d = d.2 ∙ d.1
step_calls p Connects submissions before after all may d = d.2 ∙ d.1
step_calls p StartsToClose submissions before after all may d = d.2 ∙ d.1
step_calls p Closes submissions before after all may d = d.2 ∙ d.1
step_calls p (Leaves why) submissions before after all may d = d.2 ∙ d.1
step_calls p Resumes submissions before after all may d = d.2 ∙ d.1
step_calls p Rests submissions before after all may d = d.2 ∙ d.1

step_effects : (p : Pipeline) (s : Step) (submissions : List Submission) (before after : List (List ℕ)) → submissions ≡ map job_in p.requests → IsAllowed p s → DiskGoes s before after → LinesDo submissions (step_lines p s) before after
step_effects p (Moves k x move) submissions before after all may d = move_effects submissions p.requests k x move before after all may.0.here d
step_effects p (Shows line) submissions before after all may d = (after, does_aside submissions line before after may d, refl)
step_effects p (Submits submission) submissions before after all may d = (after, d, refl)
step_effects p (Refuses submission refusal) submissions before after all may d = (after, d, refl)
step_effects p Connects submissions before after all may d = (after, d, refl)
step_effects p StartsToClose submissions before after all may d = (after, d, refl)
step_effects p Closes submissions before after all may d = (after, d, refl)
step_effects p (Leaves why) submissions before after all may d = (after, d, refl)
step_effects p Resumes submissions before after all may d = (after, d, refl)
step_effects p Rests submissions before after all may d = (after, d, refl)

-- the requests after a step
jobs_set : (xs : List PipelineRequest) (k : ℕ) (x y : PipelineRequest) → slice_get xs k ≡ Some x → y.submission ≡ x.submission → map job_in (slice_set xs k y) ≡ map job_in xs
jobs_set [] k x y here same = absurd (none-some x here)
jobs_set (z ∷ xs) zero x y here same =
    let it : z ≡ x = same_Some z x here in
    ap (λ (j : Submission). j ∷ map job_in xs) (same ∙ ap job_in (sym it))
jobs_set (z ∷ xs) (suc k) x y here same = ap (λ (js : List Submission). z.submission ∷ js) (jobs_set xs k x y here same)

jobs_again : (xs : List PipelineRequest) → map job_in (map again xs) ≡ map job_in xs
jobs_again [] = refl
jobs_again (x ∷ xs) = ap (λ (js : List Submission). x.submission ∷ js) (jobs_again xs)

move_jobs : (submissions : List Submission) (k : ℕ) (move : Move) → all_jobs submissions (move_lines k move) ≡ submissions
move_jobs submissions k (Fills index) = refl
move_jobs submissions k (Reads index words) = refl
move_jobs submissions k Flushes = refl
move_jobs submissions k Trims = refl
move_jobs submissions k (Fails index) = refl
move_jobs submissions k (Replies status) = refl
move_jobs submissions k (Answers status) = refl
move_jobs submissions k (Tells index words) = refl
move_jobs submissions k move = refl

pub jobs_next : (p : Pipeline) (s : Step) (submissions : List Submission) → submissions ≡ map job_in p.requests → IsAllowed p s → all_jobs submissions (step_lines p s) ≡ map job_in (let q : Pipeline = next p s in q.requests)
jobs_next p (Submits submission) submissions all may = ap (λ (js : List Submission). js ++ submission ∷ []) all ∙ sym (map-append job_in p.requests (submitted submission ∷ []))
jobs_next p (Moves k x move) submissions all may = move_jobs submissions k move ∙ (all ∙ sym (jobs_set p.requests k x (moved x move) may.0.here refl))
jobs_next p (Shows line) submissions all may = aside_jobs submissions line may ∙ all
jobs_next p Resumes submissions all may = all ∙ sym (jobs_again p.requests)
jobs_next p (Refuses submission refusal) submissions all may = all
jobs_next p Connects submissions all may = all
jobs_next p StartsToClose submissions all may = all
jobs_next p Closes submissions all may = all
jobs_next p (Leaves why) submissions all may = all
jobs_next p Rests submissions all may = all

-- the calls of all steps are those that their lines show
pub calls_of_effects : (steps : List Step) (p : Pipeline) (submissions : List Submission) → submissions ≡ map job_in p.requests → AreAllowed steps p → (before after : List (List ℕ)) → LinesDo submissions (lines_of steps p) before after → DiskRuns steps before after
calls_of_effects [] p submissions all may before after d = d
calls_of_effects (s ∷ steps) p submissions all may before after d =
    let parts = lines_do_append submissions (step_lines p s) (lines_of steps (next p s)) before after d in (
      parts.0,
      step_calls p s submissions before parts.0 all may.0 parts.1,
      calls_of_effects steps (next p s) (all_jobs submissions (step_lines p s)) (jobs_next p s submissions all may.0) may.1 parts.0 after parts.2,
    )

pub effects_of_calls : (steps : List Step) (p : Pipeline) (submissions : List Submission) → submissions ≡ map job_in p.requests → AreAllowed steps p → (before after : List (List ℕ)) → DiskRuns steps before after → LinesDo submissions (lines_of steps p) before after
effects_of_calls [] p submissions all may before after d = d
effects_of_calls (s ∷ steps) p submissions all may before after d =
    lines_do_join submissions (step_lines p s) (lines_of steps (next p s)) before d.0 after (step_effects p s submissions before d.0 all may.0 d.1)
    (effects_of_calls steps (next p s) (all_jobs submissions (step_lines p s)) (jobs_next p s submissions all may.0) may.1 d.0 after d.2)

-- what a recorder drops shows no effect
kept_one : (detail : Detail) (line : Line) (kept : List Line) (submissions : List Submission) (before after : List (List ℕ)) → LinesDo submissions (recorded detail line ++ kept) before after → (between : List (List ℕ)) × LineDoes submissions line before between × LinesDo (jobs_after submissions line) kept between after
kept_one detail (lines.Begin config other) kept submissions before after d = d
kept_one details.Lines (lines.Move move) kept submissions before after d = (before, refl, d)
kept_one details.Moves (lines.Move move) kept submissions before after d = d
kept_one detail line kept submissions before after d = d

pub kept_effects : (detail : Detail) (submissions : List Submission) (ls : List Line) (before after : List (List ℕ)) → LinesDo submissions (kept_of detail ls) before after → LinesDo submissions ls before after
kept_effects detail submissions [] before after d = d
kept_effects detail submissions (line ∷ ls) before after d =
    let one = kept_one detail line (kept_of detail ls) submissions before after d in
    (one.0, one.1, kept_effects detail (jobs_after submissions line) ls one.0 after one.2)
