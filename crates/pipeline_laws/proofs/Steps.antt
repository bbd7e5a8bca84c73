-- Each step that the pipeline allows leads the plain disk on, and all that holds goes on holding.
use Rattle.std.proofs.Common.{◌≡◌, ℕ, zero, suc, ◌+◌, ◌==◌, Bool, true, false, List, [], ◌∷◌, ◌++◌, length, map, refl, ap, sym, ◌∙◌, subst, arith}
use Rattle.std.specs.Prelude.{Some, None}
use Rattle.std.specs.List.{list_all}
use Rattle.std.proofs.lemmas.List.{length_push, length-map}
use Rattle.std.proofs.lemmas.Option.{none-some}
use Rattle.std.proofs.lemmas.Bool.Decides.{nat_tests}
use Rattle.blk_base.specs.Options.{Options}
use Rattle.blk_base.specs.declared.config.Submission.{Submission}
use Rattle.schedule_text.specs.declared.line.Line.{Line}
use Rattle.schedule_text.specs.declared.line.Line.TheVariants as lines
use Rattle.plain_disk.specs.declared.request.DiskRequest.{DiskRequest}
use Rattle.plain_disk.specs.Request as plain
use Rattle.plain_disk.specs.Request.{opened, is_read}
use Rattle.plain_disk.specs.Disk.{Disk, disk_of}
use Rattle.plain_disk.specs.Step.{step, after, reopened, epoch_of}
use Rattle.pipeline_laws.specs.Station.{Station, Telling, Finished, PipelineRequest, submitted, is_finished, asked, asked_at, stage_at}
use Rattle.pipeline_laws.specs.Move.{Move, BeginsEntry, Pushes, BeginsFetch, Fetches, Fills, Reads, Flushes, Trims, Fails, Ends, BeginsResponse, Replies, Takes, Answers, Tells, station_before, moved, move_lines}
use Rattle.pipeline_laws.specs.Pipeline.{Front, Pipeline, Step, Submits, Refuses, Moves, Connects, StartsToClose, Closes, Leaves, Resumes, Rests, Shows, pipeline_of, station_again, again, next, step_lines}
use Rattle.pipeline_laws.specs.Allowed.{IsAt, May, AreFinished, refusal_now, is_aside, sight_of, IsAllowed}
use Rattle.pipeline_laws.specs.Disk.{DiskDoes, DiskGoes}
use Rattle.pipeline_laws.specs.Run.{BeginsWithin}
use Rattle.pipeline_laws.proofs.Lists.{Each, each_kept, each_more, each_map, map_more, map_twice}
use Rattle.pipeline_laws.proofs.Done.{done_none}
use Rattle.pipeline_laws.proofs.Content.{known_first}
use Rattle.pipeline_laws.proofs.DiskDoes.{lost_changes}
use Rattle.pipeline_laws.proofs.Matches.{Matches, IsTold, IsLong, IsDone, done_at, is_unserved}
use Rattle.pipeline_laws.proofs.Range.{IsOnDisk, AreOnDisk, accepted_on_disk, fill_changes, trim_changes, move_sized}
use Rattle.pipeline_laws.proofs.Serving.{Leads, one_line, fills, flushes, trims, fails, reads}
use Rattle.pipeline_laws.proofs.Moving.{goes_on, replies, answers, tells}

-- the plain disk has what the pipeline has, and the sectors are there
pub record Stands (p : Pipeline) (d : Disk) (content : List (List ℕ)) : Type 0 where
  pub matches : Matches p d content
  pub on_disk : AreOnDisk p.options.sectors p.requests
  pub sized : length content ≡ p.options.sectors

-- a move
move_leads : (p : Pipeline) (d : Disk) (content later : List (List ℕ)) (k : ℕ) (x : PipelineRequest) (move : Move) → IsAt p k x (station_before x.submission move) → May p k x move → DiskDoes x.submission move content later → Stands p d content
    → Leads (next p (Moves k x move)) d (move_lines k move) later
move_leads p d content later k x move at may does s = by_move move at may does
  where
    on_disk : IsOnDisk (length content) x.submission
    on_disk = subst (λ (n : ℕ). IsOnDisk n x.submission) (sym s.sized) (s.on_disk k x at.here)

    same : (m : Move) → Leads (next p (Moves k x m)) d (move_lines k m) content → later ≡ content → Leads (next p (Moves k x m)) d (move_lines k m) later
    same m leads e = subst (λ (c : List (List ℕ)). Leads (next p (Moves k x m)) d (move_lines k m) c) (sym e) leads

    silent : (m : Move) → move_lines k m ≡ [] → May p k x m → IsAt p k x (station_before x.submission m) → later ≡ content → Leads (next p (Moves k x m)) d (move_lines k m) later
    silent m none may a e = same m (goes_on p d content k x m none may a s.matches) e

    by_move : (m : Move) → IsAt p k x (station_before x.submission m) → May p k x m → DiskDoes x.submission m content later → Leads (next p (Moves k x m)) d (move_lines k m) later
    by_move BeginsEntry a may e = silent BeginsEntry refl may a e
    by_move Pushes a may e = silent Pushes refl may a e
    by_move BeginsFetch a may e = silent BeginsFetch refl may a e
    by_move Fetches a may e = silent Fetches refl may a e
    by_move (Fills index) a may e = fills p d content later k x index a may.0 may.1 may.2 (fill_changes x.submission index content later may.0 may.1 on_disk e) s.matches
    by_move (Reads index words) a may e = same (Reads index words) (reads p d content k x index words a may.0 may.1 e.0 s.matches) e.1
    by_move Flushes a may e = same Flushes (flushes p d content k x a may s.matches) e
    by_move Trims a may e = trims p d content later k x a may.0 may.1 (trim_changes x.submission content later may.0 on_disk e) s.matches
    by_move (Fails index) a may e = fails p d content later k x index a may.0 may.1 (lost_changes _ _ content later e) s.matches
    by_move (Ends status) a may e = silent (Ends status) refl may a e
    by_move (BeginsResponse status) a may e = silent (BeginsResponse status) refl may a e
    by_move (Replies status) a may e = same (Replies status) (replies p d content k x status a s.matches) e
    by_move (Takes status) a may e = silent (Takes status) refl may a e
    by_move (Answers status) a may e = same (Answers status) (answers p d content k x status a s.matches) e
    by_move (Tells index words) a may e = same (Tells index words) (tells p d content k x index words a may s.matches) e

-- what a step leads to
pub record Goes (p : Pipeline) (d : Disk) (report : List Line) (content : List (List ℕ)) : Type 0 where
  pub disk : Disk
  pub run : after report d ≡ Some disk
  pub stands : Stands p disk content

move_goes : (p : Pipeline) (d : Disk) (content later : List (List ℕ)) (k : ℕ) (x : PipelineRequest) (move : Move) → IsAt p k x (station_before x.submission move) → May p k x move → DiskDoes x.submission move content later → Stands p d content
    → Goes (next p (Moves k x move)) d (move_lines k move) later
move_goes p d content later k x move at may does s =
    let leads = move_leads p d content later k x move at may does s in
    record {
      disk = leads.disk;
      run = leads.run;
      stands = record {
        matches = leads.matches;
        on_disk = each_kept (λ j (y : PipelineRequest). IsOnDisk p.options.sectors y.submission) p.requests k (moved x move) (s.on_disk k x at.here) s.on_disk;
        sized = move_sized x.submission move content later does ∙ s.sized;
      };
    }

-- a submission
submit_goes : (p : Pipeline) (d : Disk) (content : List (List ℕ)) (submission : Submission) → refusal_now p submission ≡ None → Stands p d content → Goes (next p (Submits submission)) d (step_lines p (Submits submission)) content
submit_goes p d content submission accepted s =
    let m = s.matches in
    let many : length d.requests ≡ length p.requests = ap length m.requests ∙ length-map p.requests asked in
    let test : (length p.requests + 1 == length d.requests + 1) ≡ true = grind (arith, nat_tests) in
    let more = length_push p.requests (submitted submission) in
    record {
      disk = record d { requests = d.requests ++ opened submission ∷ [] };
      run = one_line d _ (lines.Submit (length p.requests + 1) submission) (rw test refl);
      stands = record {
        matches = record {
          requests = rw m.requests (sym (map_more asked p.requests (submitted submission)));
          each = each_more (IsTold d.done d.noted) (IsTold d.done d.noted) p.requests (submitted submission) (record { done = m.later (length p.requests + 1) (omega arith); noted = λ i w e. absurd (none-some w e); long = tt; served = refl }) (λ j y e h. h) m.each;
          later = λ id above. m.later id (omega arith);
          known = m.known;
        };
        on_disk = each_more (λ j (y : PipelineRequest). IsOnDisk p.options.sectors y.submission) (λ j (y : PipelineRequest). IsOnDisk p.options.sectors y.submission) p.requests (submitted submission) (accepted_on_disk (sight_of p) p.options (map asked p.requests) submission accepted) (λ j y e h. h) s.on_disk;
        sized = s.sized;
      };
    }

-- a new epoch
again_done : (id : ℕ) (submission : Submission) (station : Station) → IsDone [] id (done_at submission (station_again station))
again_done id submission (Telling n) = tt
again_done id submission (Finished s) = tt
again_done id submission station = done_none id

again_long : (station : Station) (reads : Bool) (words : List (List ℕ)) → IsLong (station_again station) reads words
again_long (Telling n) reads words = tt
again_long (Finished s) reads words = tt
again_long station reads words = tt

again_served : (station : Station) → is_unserved (station_again station) ≡ false
again_served (Telling n) = refl
again_served (Finished s) = refl
again_served station = refl

again_as : (submission : Submission) (station : Station) → reopened (asked_at submission station) ≡ asked_at submission (station_again station)
again_as submission (Telling n) = refl
again_as submission (Finished s) = refl
again_as submission station = refl

resume_goes : (p : Pipeline) (d : Disk) (content : List (List ℕ)) → Stands p d content → Goes (next p Resumes) d (step_lines p Resumes) content
resume_goes p d content s =
    let m = s.matches in
    record {
      disk = epoch_of d;
      run = refl;
      stands = record {
        matches = record {
          requests = rw m.requests (map_twice asked reopened again p.requests (λ x. again_as x.submission x.station));
          each = each_map again (IsTold d.done d.noted) (IsTold [] d.noted) p.requests (λ j y h. record { done = again_done (j + 1) y.submission y.station; noted = h.noted; long = again_long y.station (is_read y.submission) y.words; served = again_served y.station }) m.each;
          later = λ id above. done_none id;
          known = m.known;
        };
        on_disk = each_map again (λ j (y : PipelineRequest). IsOnDisk p.options.sectors y.submission) (λ j (y : PipelineRequest). IsOnDisk p.options.sectors y.submission) p.requests (λ j y h. h) s.on_disk;
        sized = s.sized;
      };
    }

-- a look where nothing is left to do
all_finished : (requests : List PipelineRequest) → Each (λ k (x : PipelineRequest). is_finished x.station ≡ true) requests → list_all (λ (r : DiskRequest). plain.is_finished r.stage) (map asked requests) ≡ true
all_finished [] each = refl
all_finished (x ∷ requests) each = rw (finished x.station (each zero x refl), all_finished requests (λ k y e. each (suc k) y e)) refl
  where
    finished : (station : Station) → is_finished station ≡ true → plain.is_finished (stage_at station) ≡ true
    finished (Finished s) e = refl
    finished station e = absurd (cc)

pub quiet_stands : (p : Pipeline) (d : Disk) (content : List (List ℕ)) → AreFinished p → Stands p d content → step d lines.Quiet ≡ Some d
quiet_stands p d content over s =
    let m = s.matches in
    rw (m.requests, all_finished p.requests over.each) refl

-- a line that tells the plain disk nothing
aside_step : (d : Disk) (line : Line) → is_aside line ≡ true → step d line ≡ Some d
aside_step d lines.Busy e = refl
aside_step d lines.Unsettled e = refl
aside_step d (lines.Word frame word value) e = refl
aside_step d lines.End e = refl
aside_step d (lines.Move move) e = refl
aside_step d line e = absurd (cc)

-- a step that changes the front's state at most
shows : (p : Pipeline) (front : Front) (d : Disk) (content : List (List ℕ)) (line : Line) → step d line ≡ Some d → Stands p d content → Goes (record p { front = front }) d (line ∷ []) content
shows p front d content line one s =
    let m = s.matches in
    record {
      disk = d;
      run = one_line d d line one;
      stands = record { matches = record { requests = m.requests; each = m.each; later = m.later; known = m.known }; on_disk = s.on_disk; sized = s.sized };
    }

-- each step
pub step_goes : (p : Pipeline) (d : Disk) (content later : List (List ℕ)) (s : Step) → IsAllowed p s → DiskGoes s content later → Stands p d content → Goes (next p s) d (step_lines p s) later
step_goes p d content later s may does stands = by_step s may does
  where
    same : (t : Step) → Goes (next p t) d (step_lines p t) content → later ≡ content → Goes (next p t) d (step_lines p t) later
    same t goes e = subst (λ (c : List (List ℕ)). Goes (next p t) d (step_lines p t) c) (sym e) goes

    by_step : (t : Step) → IsAllowed p t → DiskGoes t content later → Goes (next p t) d (step_lines p t) later
    by_step (Submits submission) may e = same (Submits submission) (submit_goes p d content submission may stands) e
    by_step (Refuses submission refusal) may e = same (Refuses submission refusal) (shows p p.front d content (lines.Refuse refusal) refl stands) e
    by_step (Moves k x move) may e = move_goes p d content later k x move may.0 may.1 e stands
    by_step Connects may e = same Connects (shows p _ d content lines.Ready refl stands) e
    by_step StartsToClose may e = same StartsToClose (shows p _ d content lines.Closing refl stands) e
    by_step Closes may e = same Closes (shows p _ d content lines.Closed refl stands) e
    by_step (Leaves why) may e = same (Leaves why) (shows p p.front d content (lines.Halt why) refl stands) e
    by_step Resumes may e = same Resumes (resume_goes p d content stands) e
    by_step Rests may e = same Rests (shows p p.front d content lines.Quiet (quiet_stands p d content may stands) stands) e
    by_step (Shows line) may e = same (Shows line) (shows p p.front d content line (aside_step d line may) stands) e

-- the start
pub start_stands : (options : Options) (first content : List (List ℕ)) → BeginsWithin first content → length content ≡ options.sectors → Stands (pipeline_of options) (disk_of first) content
start_stands options first content within sized = record {
  matches = record { requests = refl; each = λ k x e. absurd (none-some x e); later = λ id above. done_none id; known = known_first first content within };
  on_disk = λ k x e. absurd (none-some x e);
  sized = sized;
}
