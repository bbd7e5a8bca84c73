-- The happenings that events make are possible ones.
use Rattle.std.proofs.Common.{◌≡◌, ℕ, zero, suc, inl, inr, Bool, true, false, true≢false, List, [], ◌∷◌, ◌++◌, sym, subst, arith}
use Rattle.std.specs.Prelude.{replicate}
use Rattle.blk_base.specs.declared.config.Submission.{Submission}
use Rattle.blk_base.specs.declared.config.Submission.TheVariants as submissions
use Rattle.schedule_text.specs.declared.event.Event.{Event}
use Rattle.schedule_text.specs.Event.{is_event_allowed}
use Rattle.schedule_text.specs.declared.event.Event.TheVariants as events
use Rattle.schedule_text.specs.Range.{SubmissionHasWidths}
use Rattle.machine_pipeline.specs.Allowed.{IsServable}
use Rattle.vbd_model.specs.World.{World, is_quiet}
use Rattle.vbd_model.specs.Happening.{Happening, FrontMoves, BackMoves, Submits, Pokes, OverwritesKey, Suspends, Looks, Settles, happens, after}
use Rattle.vbd_model.specs.Kind.{Makes, MakesSoFar, AreJobMoves, AreEachJobs, round_start, IsBeginning, IsRoundSoFar, AreRounds, never, settle_bound, AreRoundsSoFar, IsSettling, IsSettlingSoFar, AreOf, AreOfSoFar, AreOfAll}
use Rattle.vbd_model.specs.Possible.{IsPossible, ArePossible}

-- what is possible after what is, and the first part of it
pub possible_append : (first rest : List Happening) (w : World) → ArePossible first w → ArePossible rest (after first w) → ArePossible (first ++ rest) w
possible_append [] rest w p q = q
possible_append (h ∷ first) rest w p q = (p.0, possible_append first rest (happens w h) p.1 q)

pub possible_first : (first rest : List Happening) (w : World) → ArePossible (first ++ rest) w → ArePossible first w
possible_first [] rest w p = tt
possible_first (h ∷ first) rest w p = (p.0, possible_first first rest (happens w h) p.1)

as_possible : (hs all : List Happening) (w : World) → hs ≡ all → ArePossible all w → ArePossible hs w
as_possible hs all w e p = subst (λ (l : List Happening). ArePossible l w) (sym e) p

beginning_possible : (hs all : List Happening) (w : World) → IsBeginning hs all → ArePossible all w → ArePossible hs w
beginning_possible hs all w b p = possible_first hs b.0 w (subst (λ (l : List Happening). ArePossible l w) b.1 p)

-- moves of both ends always are
fronts_possible : (n : ℕ) (w : World) → ArePossible (replicate n FrontMoves) w
fronts_possible zero w = tt
fronts_possible (suc n) w = (tt, fronts_possible n (happens w FrontMoves))

backs_possible : (n : ℕ) (w : World) → ArePossible (replicate n BackMoves) w
backs_possible zero w = tt
backs_possible (suc n) w = (tt, backs_possible n (happens w BackMoves))

jobs_possible : (number : ℕ) (hs : List Happening) (w : World) → AreJobMoves number hs → ArePossible hs w
jobs_possible number [] w j = tt
jobs_possible number (h ∷ hs) w j = (subst (IsPossible w) (sym j.1) j.2, jobs_possible number hs (happens w h) j.3)

each_possible : (from to : ℕ) (hs : List Happening) (w : World) → AreEachJobs from to w hs → ArePossible hs w
each_possible from to [] w j = tt
each_possible from to (h ∷ hs) w j = (subst (IsPossible w) (sym j.2) j.3, each_possible j.0 to hs (happens w h) j.5)

round_start_possible : (w : World) → ArePossible round_start w
round_start_possible w = (tt, (tt, tt))

-- a round: its start, and then moves of jobs
begun_possible : (w : World) (hs jobs : List Happening) (to : ℕ) → hs ≡ round_start ++ jobs → AreEachJobs 0 to (after round_start w) jobs → ArePossible hs w
begun_possible w hs jobs to all each =
    as_possible hs (round_start ++ jobs) w all
    (possible_append round_start jobs w (round_start_possible w) (each_possible 0 to jobs (after round_start w) each))

pub rounds_possible : (test : World → Bool) (n : ℕ) (w : World) (hs : List Happening) → AreRounds test n w hs → ArePossible hs w
rounds_possible test zero w hs r = as_possible hs [] w r tt
rounds_possible test (suc n) w hs r =
    let p = r.1 in
    let round = p.3 in
    let jobs = round.are_jobs in
    as_possible hs (p.0 ++ p.1) w p.2
    (possible_append p.0 p.1 w (begun_possible w p.0 round.jobs jobs.to round.all jobs.each) (rounds_possible test n (after p.0 w) p.1 p.4))

round_so_far_possible : (w : World) (hs : List Happening) → IsRoundSoFar w hs → ArePossible hs w
round_so_far_possible w hs (inl b) = beginning_possible hs round_start w b (round_start_possible w)
round_so_far_possible w hs (inr r) = let jobs = r.are_jobs in begun_possible w hs r.jobs jobs.0 r.all jobs.1

rounds_so_far_possible : (test : World → Bool) (bound : ℕ) (w : World) (hs : List Happening) → AreRoundsSoFar test bound w hs → ArePossible hs w
rounds_so_far_possible test bound w hs r =
    as_possible hs (r.whole ++ r.begun) w r.all
    (possible_append r.whole r.begun w (rounds_possible test r.count w r.whole r.are_rounds) (round_so_far_possible (after r.whole w) r.begun r.is_round))

settling_possible : (w : World) (hs : List Happening) → IsSettling w hs → ArePossible hs w
settling_possible w hs s =
    let rounds = s.are_rounds in
    let found : List Happening = Settles (is_quiet (after s.rounds w)) ∷ [] in
    as_possible hs (s.rounds ++ found) w s.all
    (possible_append s.rounds found w (rounds_possible is_quiet rounds.count w s.rounds rounds.are_rounds) (λ t. t, tt))

settling_so_far_possible : (w : World) (hs : List Happening) → IsSettlingSoFar w hs → ArePossible hs w
settling_so_far_possible w hs (inl r) = rounds_so_far_possible is_quiet (settle_bound w) w hs r
settling_so_far_possible w hs (inr s) = settling_possible w hs s

-- a submission is of some sectors, or a flush
some_sectors : (job : Submission) → SubmissionHasWidths job → IsServable job
some_sectors (submissions.Read sector count) widths = let some = widths.1 in omega arith
some_sectors (submissions.Write sector count tag) widths = (let some = widths.1 in omega arith, widths.2)
some_sectors (submissions.Barrier sector count tag) widths = (let some = widths.1 in omega arith, widths.2)
some_sectors submissions.Flush widths = tt
some_sectors (submissions.Discard sector count) widths = let some = widths.1 in omega arith

-- this alone happens
only : (h : Happening) (w : World) (hs : List Happening) → IsPossible w h → hs ≡ h ∷ [] → ArePossible hs w
only h w hs may all = as_possible hs (h ∷ []) w all (may, tt)

made_possible : (e : Event) (w : World) (hs : List Happening) → is_event_allowed e ≡ true → Makes e w hs → ArePossible hs w
made_possible (events.Submit job) w hs carried k = only (Submits job) w hs (some_sectors job k.1) k.0
made_possible (events.Front n) w hs carried k = as_possible hs (replicate n FrontMoves) w k (fronts_possible n w)
made_possible (events.Back n) w hs carried k = as_possible hs (replicate n BackMoves) w k (backs_possible n w)
made_possible (events.Job number n) w hs carried k = jobs_possible number hs w k.0
made_possible (events.Turn n) w hs carried k = rounds_possible never n w hs k
made_possible events.Settle w hs carried k = settling_possible w hs k
made_possible events.Look w hs carried k = only (Looks (is_quiet w)) w hs (λ t. t) k
made_possible events.Suspend w hs carried k = only Suspends w hs k.1 k.0
made_possible (events.Poke frame word value) w hs carried k = as_possible hs (Pokes frame word value ∷ []) w k.0 ((carried, k.1), tt)
made_possible (events.Key name text) w hs carried k = only (OverwritesKey name text) w hs carried k
made_possible e w hs carried k = only _ w hs tt k

made_so_far_possible : (e : Event) (w : World) (hs : List Happening) → is_event_allowed e ≡ true → MakesSoFar e w hs → ArePossible hs w
made_so_far_possible (events.Front n) w hs carried k = beginning_possible hs (replicate n FrontMoves) w k (fronts_possible n w)
made_so_far_possible (events.Back n) w hs carried k = beginning_possible hs (replicate n BackMoves) w k (backs_possible n w)
made_so_far_possible (events.Job number n) w hs carried k = jobs_possible number hs w k.0
made_so_far_possible (events.Turn n) w hs carried k = rounds_so_far_possible never n w hs k
made_so_far_possible events.Settle w hs carried k = settling_so_far_possible w hs k
made_so_far_possible events.Suspend w hs carried (inl k) = only Suspends w hs k.1 k.0
made_so_far_possible events.Suspend w hs carried (inr k) = only (Looks false) w hs (λ quiet. absurd (true≢false (sym quiet))) k.0
made_so_far_possible e w hs carried k = made_possible e w hs carried k

pub event_possible : (e : Event) (w : World) (hs : List Happening) → AreOf e w hs → ArePossible hs w
event_possible e w hs k = made_possible e w hs k.0 k.1

pub event_so_far_possible : (e : Event) (w : World) (hs : List Happening) → AreOfSoFar e w hs → ArePossible hs w
event_so_far_possible e w hs k = made_so_far_possible e w hs k.0 k.1

-- the events of a schedule, one after another
pub events_possible : (es : List Event) (w : World) (hs : List Happening) → AreOfAll es w hs → ArePossible hs w
events_possible [] w hs k = as_possible hs [] w k tt
events_possible (e ∷ es) w hs k =
    as_possible hs (k.0 ++ k.1) w k.2
    (possible_append k.0 k.1 w (event_possible e w k.0 k.3) (events_possible es (after k.0 w) k.1 k.4))

-- and of one more, as far as it came
pub events_so_far_possible : (es : List Event) (e : Event) (w : World) (hs more : List Happening) → AreOfAll es w hs → AreOfSoFar e (after hs w) more → ArePossible (hs ++ more) w
events_so_far_possible es e w hs more k last = possible_append hs more w (events_possible es w hs k) (event_so_far_possible e (after hs w) more last)
