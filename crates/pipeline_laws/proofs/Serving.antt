-- The moves of a submission on the disk: a sector filled or read, a flush, a discard, a failure.
use Rattle.std.proofs.Common.{◌≡◌, ◌≢◌, ℕ, ◌+◌, ◌<◌, Bool, true, false, not, ◌||◌, List, [], ◌∷◌, ◌++◌, length, map, refl, ap, sym, ◌∙◌, subst, arith, length-set}
use Rattle.std.specs.Prelude.{Option, Some, None, slice_get, slice_set, nat_lt}
use Rattle.std.proofs.lemmas.Option.{slice_get_within}
use Rattle.std.proofs.lemmas.Bool.Decides.{nat_tests}
use Rattle.blk_base.specs.declared.config.Submission.{Submission}
use Rattle.blk_base.specs.declared.config.Submission.TheVariants.{Read, Write, Barrier, Flush, Discard}
use Rattle.schedule_text.specs.declared.line.Line.{Line}
use Rattle.schedule_text.specs.declared.line.Line.TheVariants as lines
use Rattle.plain_disk.specs.declared.request.Place.{Place}
use Rattle.plain_disk.specs.declared.request.Change.{Change}
use Rattle.plain_disk.specs.declared.request.Change.TheVariants as change
use Rattle.plain_disk.specs.Request.{opened, is_read, is_write, is_flush, is_discard, is_ordered, places_of, sector_of, count_of, filling, may_serve}
use Rattle.plain_disk.specs.Sector.{may_hold}
use Rattle.plain_disk.specs.Disk.{Disk}
use Rattle.plain_disk.specs.Step.{step, after, served, place, one_sector, all_sectors, place_sector, lost_of, with_request, is_in_order}
use Rattle.pipeline_laws.specs.Station.{Working, Failed, PipelineRequest, asked, asked_at}
use Rattle.pipeline_laws.specs.Move.{Fills, Reads, Flushes, Trims, Fails, moved, move_lines}
use Rattle.pipeline_laws.specs.Pipeline.{Pipeline, Moves, next}
use Rattle.pipeline_laws.specs.Allowed.{IsAt, IsClear}
use Rattle.pipeline_laws.specs.Disk.{lost_sector, lost_count}
use Rattle.pipeline_laws.specs.Run.{HasOneOf}
use Rattle.pipeline_laws.proofs.Lists.{Each, each_set, each_kept, set_same}
use Rattle.pipeline_laws.proofs.Done.{IsDoneTo, done_more, done_other, noted_here}
use Rattle.pipeline_laws.proofs.Content.{Changes, IsKnown, known_filled, known_spoiled, known_showed, known_flushed, known_same}
use Rattle.pipeline_laws.proofs.Operations.{write_no_read, flush_no_read, discard_no_read, flush_place, discard_place}
use Rattle.pipeline_laws.proofs.Matches.{Matches, IsTold, IsLong, IsDone, done_at, note, told_elsewhere, read_elsewhere, asked_here, set_asked}
use Rattle.pipeline_laws.proofs.Clear.{in_order}

-- these lines can stand at a plain disk, and the disk after them matches
pub record Leads (p : Pipeline) (d : Disk) (report : List Line) (content : List (List ℕ)) : Type 0 where
  pub disk : Disk
  pub run : after report d ≡ Some disk
  pub matches : Matches p disk content

pub one_line : (d d' : Disk) (line : Line) → step d line ≡ Some d' → after (line ∷ []) d ≡ Some d'
one_line d d' line e = rw e refl

-- a place of a submission may be served
may_serve_at : (done : List Place) (id n : ℕ) (submission : Submission) → IsDoneTo done id n → n < places_of submission → may_serve done id (opened submission) n ≡ true
may_serve_at done id n submission h more =
    let within : nat_lt n (places_of submission) ≡ true = grind (arith, nat_tests) in
    rw (within, h.rest n (omega arith)) refl

job_done : (p : Pipeline) (d : Disk) (content : List (List ℕ)) (k n : ℕ) (x : PipelineRequest) → Matches p d content → IsAt p k x (Working n) → IsDoneTo d.done (k + 1) n
job_done p d content k n x m at = subst (λ s. IsDone d.done (k + 1) (done_at x.submission s)) at.there (m.each k x at.here).done

unread_long : (b : Bool) (n : ℕ) (words : List (List ℕ)) → b ≡ false → IsLong (Working n) b words
unread_long true n words e = absurd (cc)
unread_long false n words e = tt

-- what stays of the requests that are still to come
served_later : (p : Pipeline) (d : Disk) (content : List (List ℕ)) (k n : ℕ) (x y : PipelineRequest) → Matches p d content → slice_get p.requests k ≡ Some x → (id : ℕ) → length (slice_set p.requests k y) < id → IsDoneTo (d.done ++ place (k + 1) n ∷ []) id 0
served_later p d content k n x y m here id above =
    let within = slice_get_within p.requests k x here in
    let same = length-set p.requests k y in
    let apart : id ≢ k + 1 = λ e. absurd (omega (arith, e)) in
    done_other d.done id (k + 1) 0 n apart (m.later id (omega arith))

-- a place of a submission that reads nothing was served
abbrev worked : PipelineRequest → ℕ → PipelineRequest
worked x n = record { submission = x.submission; station = Working n; words = x.words }

served_each : (p : Pipeline) (d : Disk) (content : List (List ℕ)) (k n : ℕ) (x : PipelineRequest) → Matches p d content → IsAt p k x (Working n) → is_read x.submission ≡ false
    → Each (IsTold (d.done ++ place (k + 1) n ∷ []) d.noted) (slice_set p.requests k (worked x (n + 1)))
served_each p d content k n x m at unread =
    each_set (IsTold d.done d.noted) (IsTold (d.done ++ place (k + 1) n ∷ []) d.noted) p.requests k (worked x (n + 1))
    (record { done = done_more d.done (k + 1) n (job_done p d content k n x m at); noted = (m.each k x at.here).noted; long = unread_long (is_read x.submission) (n + 1) x.words unread; served = refl })
    (λ j y other e h. told_elsewhere d.done d.noted j k n y other h) m.each

same_asked : (p : Pipeline) (d : Disk) (content : List (List ℕ)) (k n m : ℕ) (x : PipelineRequest) (words : List (List ℕ)) → Matches p d content → IsAt p k x (Working n) → d.requests ≡ map asked (slice_set p.requests k (record { submission = x.submission; station = Working m; words = words }))
same_asked p d content k n m x words h at = h.requests ∙ sym (set_same asked p.requests k x (record { submission = x.submission; station = Working m; words = words }) at.here (ap (asked_at x.submission) (sym at.there)))

pub fills : (p : Pipeline) (d : Disk) (content later : List (List ℕ)) (k : ℕ) (x : PipelineRequest) (n : ℕ) → IsAt p k x (Working n) → is_write x.submission ≡ true → n < places_of x.submission → IsClear p k x
    → Changes (sector_of x.submission + n) 1 (Some (filling x.submission n)) content later → Matches p d content → Leads (next p (Moves k x (Fills n))) d (move_lines k (Fills n)) later
fills p d content later k x n at submission more clear changes m = record {
  disk = served d (place (k + 1) n) (change.Filled (one_sector x.submission n) (filling x.submission n));
  run = one_line d _ (lines.Effect (k + 1) n) (rw (
    asked_here p d content k x (Working n) m at,
    submission,
    may_serve_at d.done (k + 1) n x.submission (job_done p d content k n x m at) more,
    in_order p d content k x (opened x.submission) m refl clear,
  ) refl);
  matches = record {
    requests = same_asked p d content k n (n + 1) x x.words m at;
    each = served_each p d content k n x m at (write_no_read x.submission submission);
    later = served_later p d content k n x _ m at.here;
    known = known_filled d.first d.changes (one_sector x.submission n) (filling x.submission n) content later changes m.known;
  };
}

pub flushes : (p : Pipeline) (d : Disk) (content : List (List ℕ)) (k : ℕ) (x : PipelineRequest) → IsAt p k x (Working 0) → is_flush x.submission ≡ true → Matches p d content → Leads (next p (Moves k x Flushes)) d (move_lines k Flushes) content
flushes p d content k x at submission m = record {
  disk = served d (place (k + 1) 0) change.Flushed;
  run = one_line d _ (lines.Flushed (k + 1)) (rw (
    asked_here p d content k x (Working 0) m at,
    submission,
    may_serve_at d.done (k + 1) 0 x.submission (job_done p d content k 0 x m at) (flush_place x.submission submission),
  ) refl);
  matches = record {
    requests = same_asked p d content k 0 1 x x.words m at;
    each = served_each p d content k 0 x m at (flush_no_read x.submission submission);
    later = served_later p d content k 0 x _ m at.here;
    known = known_flushed d.first d.changes content m.known;
  };
}

from_start : (sector count : ℕ) (words : Option (List ℕ)) (content later : List (List ℕ)) → Changes sector count words content later → Changes (sector + 0) count words content later
from_start sector count words content later changes =
    let e : sector + 0 ≡ sector = omega arith in
    rw e changes

pub trims : (p : Pipeline) (d : Disk) (content later : List (List ℕ)) (k : ℕ) (x : PipelineRequest) → IsAt p k x (Working 0) → is_discard x.submission ≡ true → IsClear p k x
    → Changes (sector_of x.submission) (count_of x.submission) (Some (filling x.submission 0)) content later → Matches p d content → Leads (next p (Moves k x Trims)) d (move_lines k Trims) later
trims p d content later k x at submission clear changes m = record {
  disk = served d (place (k + 1) 0) (change.Filled (all_sectors x.submission) (filling x.submission 0));
  run = one_line d _ (lines.Trimmed (k + 1)) (rw (
    asked_here p d content k x (Working 0) m at,
    submission,
    may_serve_at d.done (k + 1) 0 x.submission (job_done p d content k 0 x m at) (discard_place x.submission submission),
    in_order p d content k x (opened x.submission) m refl clear,
  ) refl);
  matches = record {
    requests = same_asked p d content k 0 1 x x.words m at;
    each = served_each p d content k 0 x m at (discard_no_read x.submission submission);
    later = served_later p d content k 0 x _ m at.here;
    known = known_filled d.first d.changes (all_sectors x.submission) (filling x.submission 0) content later (from_start (sector_of x.submission) (count_of x.submission) (Some (filling x.submission 0)) content later changes) m.known;
  };
}

-- a failure: what it leaves nobody knows
lost_known : (first : List (List ℕ)) (changes : List Change) (submission : Submission) (n : ℕ) (content later : List (List ℕ)) → Changes (lost_sector submission n) (lost_count submission) None content later → IsKnown first changes content → IsKnown first (lost_of changes submission n) later
lost_known first changes (Read sector count) n content later does known = known_same first changes sector content later does known
lost_known first changes (Write sector count tag) n content later does known = known_spoiled first changes (one_sector (Write sector count tag) n) content later does known
lost_known first changes (Barrier sector count tag) n content later does known = known_spoiled first changes (one_sector (Barrier sector count tag) n) content later does known
lost_known first changes Flush n content later does known = known_same first changes 0 content later does known
lost_known first changes (Discard sector count) n content later does known = known_spoiled first changes (all_sectors (Discard sector count)) content later (from_start sector count None content later does) known

fault_order : (ordered clear : Bool) → (ordered ≡ true → clear ≡ true) → (not ordered || clear) ≡ true
fault_order true clear h = h refl
fault_order false clear h = refl

pub fails : (p : Pipeline) (d : Disk) (content later : List (List ℕ)) (k : ℕ) (x : PipelineRequest) (n : ℕ) → IsAt p k x (Working n) → n < places_of x.submission → (is_ordered x.submission ≡ true → IsClear p k x)
    → Changes (lost_sector x.submission n) (lost_count x.submission) None content later → Matches p d content → Leads (next p (Moves k x (Fails n))) d (move_lines k (Fails n)) later
fails p d content later k x n at more clear changes m = record {
  disk = record d { requests = with_request d.requests (k + 1) (asked_at x.submission Failed); changes = lost_of d.changes x.submission n };
  run = one_line d _ (lines.Fault (k + 1) n) (rw (
    asked_here p d content k x (Working n) m at,
    may_serve_at d.done (k + 1) n x.submission (job_done p d content k n x m at) more,
    fault_order (is_ordered x.submission) (is_in_order d (k + 1) (opened x.submission)) (λ e. in_order p d content k x (opened x.submission) m refl (clear e)),
  ) refl);
  matches = record {
    requests = set_asked d.requests p.requests k (moved x (Fails n)) m.requests;
    each = each_kept (IsTold d.done d.noted) p.requests k (moved x (Fails n)) (record { done = tt; noted = (m.each k x at.here).noted; long = tt; served = refl }) m.each;
    later = λ id above. m.later id (rw length-set at above);
    known = lost_known d.first d.changes x.submission n content later changes m.known;
  };
}

-- a read
job_long : (reads : Bool) (n : ℕ) (words : List (List ℕ)) → reads ≡ true → IsLong (Working n) reads words → length words ≡ n
job_long true n words e h = h
job_long false n words e h = absurd (cc)

long_more : (reads : Bool) (n : ℕ) (words : List (List ℕ)) → length words ≡ n + 1 → IsLong (Working (n + 1)) reads words
long_more true n words e = e
long_more false n words e = tt

length_one : {X : Type 0} (xs : List X) (x : X) (n : ℕ) → length xs ≡ n → length (xs ++ x ∷ []) ≡ n + 1
length_one [] x n e = omega arith
length_one (y ∷ xs) x n e =
    let more = length_one xs x (length xs) refl in
    omega arith

-- the words that are shown may be there
holds_words : (own : Option (List (List ℕ))) (now : Option (List ℕ)) (words : List ℕ) → now ≡ Some words → HasOneOf own now → may_hold own words ≡ true
holds_words None now words here has = refl
holds_words (Some list) now words here has = subst (HasOneOf (Some list)) here has

pub reads : (p : Pipeline) (d : Disk) (content : List (List ℕ)) (k : ℕ) (x : PipelineRequest) (n : ℕ) (words : List ℕ) → IsAt p k x (Working n) → is_read x.submission ≡ true → n < places_of x.submission
    → slice_get content (sector_of x.submission + n) ≡ Some words → Matches p d content → Leads (next p (Moves k x (Reads n words))) d (move_lines k (Reads n words)) content
reads p d content k x n words at submission more here m =
    let was : IsTold d.done d.noted k x = m.each k x at.here in
    let long : length x.words ≡ n = job_long (is_read x.submission) n x.words submission (subst (λ s. IsLong s (is_read x.submission) x.words) at.there was.long) in
    let holds : may_hold (place_sector d.first d.changes x.submission n).own words ≡ true = holds_words (place_sector d.first d.changes x.submission n).own (slice_get content (sector_of x.submission + n)) words here (m.known (sector_of x.submission + n)) in
    record {
      disk = record (served d (place (k + 1) n) (change.Showed (one_sector x.submission n) words)) { noted = d.noted ++ note (k + 1) n words ∷ [] };
      run = one_line d _ (lines.EffectRead (k + 1) n words) (rw (
        asked_here p d content k x (Working n) m at,
        submission,
        may_serve_at d.done (k + 1) n x.submission (job_done p d content k n x m at) more,
        holds,
      ) refl);
      matches = record {
        requests = same_asked p d content k n (n + 1) x (x.words ++ words ∷ []) m at;
        each = each_set (IsTold d.done d.noted) (IsTold (d.done ++ place (k + 1) n ∷ []) (d.noted ++ note (k + 1) n words ∷ [])) p.requests k (moved x (Reads n words))
            (record {
              done = done_more d.done (k + 1) n (job_done p d content k n x m at);
              noted = noted_here d.noted (k + 1) n words x.words long was.noted;
              long = long_more (is_read x.submission) n (x.words ++ words ∷ []) (length_one x.words words n long);
              served = refl;
            })
            (λ j y other e h. read_elsewhere d.done d.noted j k n words y other h) m.each;
        later = served_later p d content k n x _ m at.here;
        known = known_showed d.first d.changes (one_sector x.submission n) words content refl here m.known;
      };
    }
