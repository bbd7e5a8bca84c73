-- The moves that show nothing of the disk: those over the ring, a reply, an answer, a sector told.
use Rattle.std.proofs.Common.{◌≡◌, ℕ, ◌+◌, ◌==◌, Bool, true, false, ◌&&◌, if◌then◌else◌, List, [], refl, ap, sym, ◌∙◌, subst, arith, length-set}
use Rattle.std.specs.Prelude.{Option, Some, slice_get, slice_set, nat_lt}
use Rattle.std.proofs.lemmas.Cmp.{nat_list_eq_equiv}
use Rattle.std.proofs.lemmas.Option.{none-some}
use Rattle.std.proofs.lemmas.Bool.Decides.{nat_tests}
use Rattle.blk_base.specs.declared.config.Submission.{Submission}
use Rattle.blk_base.specs.declared.config.Submission.TheVariants.{Read}
use Rattle.blk_base.specs.declared.operation.Status.{Status}
use Rattle.blk_base.specs.declared.operation.Status.TheVariants as status
use Rattle.schedule_text.specs.declared.line.Line.TheVariants as lines
use Rattle.plain_disk.specs.declared.request.DiskRequest.{DiskRequest}
use Rattle.plain_disk.specs.declared.request.Place.{Place}
use Rattle.plain_disk.specs.declared.request.RequestStage.TheVariants as stage
use Rattle.plain_disk.specs.Request.{is_read, places_of, done_count}
use Rattle.plain_disk.specs.Disk.{Disk, noted_at}
use Rattle.plain_disk.specs.Step.{with_request, is_status, is_okay, told_stage, next_stage, are_noted}
use Rattle.pipeline_laws.specs.Station.{Station, Waiting, Issuing, Pushed, Fetching, Working, Failed, Ended, Replying, Replied, Taking, Telling, Finished, PipelineRequest, asked, asked_at}
use Rattle.pipeline_laws.specs.Move.{Move, BeginsEntry, Pushes, BeginsFetch, Fetches, Ends, BeginsResponse, Replies, Takes, Answers, Tells, station_before, moved, move_lines, answered_station, told_station}
use Rattle.pipeline_laws.specs.Pipeline.{Pipeline, Moves, next}
use Rattle.pipeline_laws.specs.Allowed.{IsAt, May}
use Rattle.pipeline_laws.proofs.Lists.{each_kept, set_same}
use Rattle.pipeline_laws.proofs.Done.{IsDoneTo}
use Rattle.pipeline_laws.proofs.Matches.{Matches, IsTold, IsLong, IsDone, done_at, is_unserved, asked_here, set_asked}
use Rattle.pipeline_laws.proofs.Serving.{Leads, one_line}

-- a request is elsewhere, and the plain disk keeps the same of it
stays : (p : Pipeline) (d : Disk) (content : List (List ℕ)) (k : ℕ) (x y : PipelineRequest) → slice_get p.requests k ≡ Some x → asked y ≡ asked x → IsTold d.done d.noted k y → Matches p d content → Leads (record p { requests = slice_set p.requests k y }) d [] content
stays p d content k x y here same told m = record {
  disk = d;
  run = refl;
  matches = record {
    requests = m.requests ∙ sym (set_same asked p.requests k x y here same);
    each = each_kept (IsTold d.done d.noted) p.requests k y told m.each;
    later = λ id above. m.later id (rw length-set at above);
    known = m.known;
  };
}

fresh_long : (reads : Bool) → IsLong (Working 0) reads []
fresh_long true = refl
fresh_long false = tt

-- a move without a line
pub goes_on : (p : Pipeline) (d : Disk) (content : List (List ℕ)) (k : ℕ) (x : PipelineRequest) (move : Move) → move_lines k move ≡ [] → May p k x move → IsAt p k x (station_before x.submission move) → Matches p d content → Leads (next p (Moves k x move)) d (move_lines k move) content
goes_on p d content k x move silent may at m = by_move move silent may at.there
  where
    was : IsTold d.done d.noted k x
    was = m.each k x at.here

    done : (station : Station) → x.station ≡ station → IsDone d.done (k + 1) (done_at x.submission station)
    done station e = subst (λ s. IsDone d.done (k + 1) (done_at x.submission s)) e was.done

    served : (station : Station) → x.station ≡ station → is_unserved station ≡ false
    served station e = subst (λ s. is_unserved s ≡ false) e was.served

    same : (station : Station) → x.station ≡ station → asked_at x.submission station ≡ asked x
    same station e = ap (asked_at x.submission) (sym e)

    by_move : (mv : Move) → move_lines k mv ≡ [] → May p k x mv → x.station ≡ station_before x.submission mv → Leads (next p (Moves k x mv)) d (move_lines k mv) content
    by_move BeginsEntry none may e = stays p d content k x (moved x BeginsEntry) at.here (same Waiting e) (record { done = done Waiting e; noted = was.noted; long = tt; served = refl }) m
    by_move Pushes none may e = stays p d content k x (moved x Pushes) at.here (same Issuing e) (record { done = done Issuing e; noted = was.noted; long = tt; served = refl }) m
    by_move BeginsFetch none may e = stays p d content k x (moved x BeginsFetch) at.here (same Pushed e) (record { done = done Pushed e; noted = was.noted; long = tt; served = refl }) m
    by_move Fetches none may e = stays p d content k x (moved x Fetches) at.here (same Fetching e) (record { done = done Fetching e; noted = λ i w f. absurd (none-some w f); long = fresh_long (is_read x.submission); served = refl }) m
    by_move (Ends status.Okay) none may e = stays p d content k x (moved x (Ends status.Okay)) at.here (same (Working (places_of x.submission)) e) (record { done = done (Working (places_of x.submission)) e; noted = was.noted; long = tt; served = refl }) m
    by_move (Ends status.Error) none may e = stays p d content k x (moved x (Ends status.Error)) at.here (same Failed e) (record { done = tt; noted = was.noted; long = tt; served = refl }) m
    by_move (Ends status.Unsupported) none may e = absurd may
    by_move (BeginsResponse s) none may e = stays p d content k x (moved x (BeginsResponse s)) at.here (same (Ended s) e) (record { done = done (Ended s) e; noted = was.noted; long = tt; served = served (Ended s) e }) m
    by_move (Takes s) none may e = stays p d content k x (moved x (Takes s)) at.here (same (Replied s) e) (record { done = tt; noted = was.noted; long = tt; served = refl }) m
    by_move mv none may e = absurd (cc)

-- a request is told of
changed : (p : Pipeline) (d : Disk) (content : List (List ℕ)) (k : ℕ) (x y : PipelineRequest) (r : DiskRequest) → slice_get p.requests k ≡ Some x → r ≡ asked y → IsTold d.done d.noted k y → Matches p d content
    → Matches (record p { requests = slice_set p.requests k y }) (record d { requests = with_request d.requests (k + 1) r }) content
changed p d content k x y r here same told m = record {
  requests = rw same (set_asked d.requests p.requests k y m.requests);
  each = each_kept (IsTold d.done d.noted) p.requests k y told m.each;
  later = λ id above. m.later id (rw length-set at above);
  known = m.known;
}

-- a reply
pub replies : (p : Pipeline) (d : Disk) (content : List (List ℕ)) (k : ℕ) (x : PipelineRequest) (s : Status) → IsAt p k x (Replying s) → Matches p d content → Leads (next p (Moves k x (Replies s))) d (move_lines k (Replies s)) content
replies p d content k x s at m = by_status s at
  where
    was : IsTold d.done d.noted k x
    was = m.each k x at.here

    later : (t : Status) (r : DiskRequest) → r ≡ asked_at x.submission (Replied t) → Matches (next p (Moves k x (Replies t))) (record d { requests = with_request d.requests (k + 1) r }) content
    later t r e = changed p d content k x (moved x (Replies t)) r at.here e (record { done = tt; noted = was.noted; long = tt; served = refl }) m

    by_status : (t : Status) → IsAt p k x (Replying t) → Leads (next p (Moves k x (Replies t))) d (move_lines k (Replies t)) content
    by_status status.Okay a =
        let done : IsDoneTo d.done (k + 1) (places_of x.submission) = subst (λ st. IsDone d.done (k + 1) (done_at x.submission st)) a.there was.done in
        let count = done.count in
        let all : (done_count d.done (k + 1) == places_of x.submission) ≡ true = grind (arith, nat_tests) in
        record {
          disk = record d { requests = with_request d.requests (k + 1) (asked_at x.submission (Replied status.Okay)) };
          run = one_line d _ (lines.Reply (k + 1) status.Okay) (rw (asked_here p d content k x (Replying status.Okay) m a, all) refl);
          matches = later status.Okay _ refl;
        }
    by_status status.Error a = record {
      disk = record d { requests = with_request d.requests (k + 1) (asked_at x.submission (Replied status.Error)) };
      run = one_line d _ (lines.Reply (k + 1) status.Error) (rw (asked_here p d content k x (Replying status.Error) m a) refl);
      matches = later status.Error _ refl;
    }
    by_status status.Unsupported a =
        let served : true ≡ false = subst (λ st. is_unserved st ≡ false) a.there was.served in
        absurd (cc)

-- an answer
same_status : (s : Status) → is_status (Some s) s ≡ true
same_status status.Okay = refl
same_status status.Error = refl
same_status status.Unsupported = refl

-- an answered request has nothing done that counts
told_either : (b : Bool) (done : List Place) (id n : ℕ) (submission : Submission) (s : Status) → IsDone done id (done_at submission (if b then Telling n else Finished s))
told_either true done id n submission s = tt
told_either false done id n submission s = tt

long_either : (b reads : Bool) (n : ℕ) (s : Status) (words : List (List ℕ)) → IsLong (if b then Telling n else Finished s) reads words
long_either true reads n s words = tt
long_either false reads n s words = tt

served_either : (b : Bool) (n : ℕ) (s : Status) → is_unserved (if b then Telling n else Finished s) ≡ false
served_either true n s = refl
served_either false n s = refl

answered_as : (submission : Submission) (s : Status) → record (asked_at submission (Taking s)) { stage = told_stage submission s } ≡ asked_at submission (answered_station submission s)
answered_as (Read sector count) status.Okay = refl
answered_as (Read sector count) status.Error = refl
answered_as (Read sector count) status.Unsupported = refl
answered_as submission s = refl

pub answers : (p : Pipeline) (d : Disk) (content : List (List ℕ)) (k : ℕ) (x : PipelineRequest) (s : Status) → IsAt p k x (Taking s) → Matches p d content → Leads (next p (Moves k x (Answers s))) d (move_lines k (Answers s)) content
answers p d content k x s at m =
    let read : Bool = is_read x.submission && is_okay s in
    record {
      disk = record d { requests = with_request d.requests (k + 1) (record (asked_at x.submission (Taking s)) { stage = told_stage x.submission s }) };
      run = one_line d _ (lines.Answer (k + 1) s) (rw (asked_here p d content k x (Taking s) m at, same_status s) refl);
      matches = changed p d content k x (moved x (Answers s)) _ at.here (answered_as x.submission s)
          (record { done = told_either read d.done (k + 1) 0 x.submission s; noted = (m.each k x at.here).noted; long = long_either read (is_read x.submission) 0 s x.words; served = served_either read 0 s }) m;
    }

-- a sector of a read is told
same_noted : (noted : Option (List ℕ)) (words : List ℕ) → noted ≡ Some words → are_noted noted words ≡ true
same_noted noted words e = rw e (nat_list_eq_equiv.refl words)

told_as : (submission : Submission) (n : ℕ) → record (asked_at submission (Telling n)) { stage = next_stage submission n } ≡ asked_at submission (told_station submission n)
told_as submission n = by_test (nat_lt (n + 1) (places_of submission))
  where
    by_test : (b : Bool) → record (asked_at submission (Telling n)) { stage = if b then stage.Telling (n + 1) else stage.Finished } ≡ asked_at submission (if b then Telling (n + 1) else Finished status.Okay)
    by_test true = refl
    by_test false = refl

pub tells : (p : Pipeline) (d : Disk) (content : List (List ℕ)) (k : ℕ) (x : PipelineRequest) (n : ℕ) (words : List ℕ) → IsAt p k x (Telling n) → slice_get x.words n ≡ Some words → Matches p d content → Leads (next p (Moves k x (Tells n words))) d (move_lines k (Tells n words)) content
tells p d content k x n words at has m =
    let was = m.each k x at.here in
    let next_one : (n == n) ≡ true = grind (arith, nat_tests) in
    let more : Bool = nat_lt (n + 1) (places_of x.submission) in
    record {
      disk = record d { requests = with_request d.requests (k + 1) (record (asked_at x.submission (Telling n)) { stage = next_stage x.submission n }) };
      run = one_line d _ (lines.Data (k + 1) n words) (rw (asked_here p d content k x (Telling n) m at, next_one, same_noted (noted_at d.noted (k + 1) n) words (was.noted n words has)) refl);
      matches = changed p d content k x (moved x (Tells n words)) _ at.here (told_as x.submission n)
          (record { done = told_either more d.done (k + 1) (n + 1) x.submission status.Okay; noted = was.noted; long = long_either more (is_read x.submission) (n + 1) status.Okay x.words; served = served_either more (n + 1) status.Okay }) m;
    }
