-- The requests that a history submits to the ring's machine are those that its events submit, in order.
use Rattle.std.proofs.Common.{◌≡◌, ℕ, Bool, true, false, inl, inr, List, [], ◌∷◌, ◌++◌, refl, ap, sym, ◌∙◌}
use Rattle.std.specs.Prelude.{replicate}
use Rattle.std.specs.List.{AllByRecursion}
use Rattle.std.proofs.lemmas.List.Elements.{filter_map-append}
use Rattle.blk_base.specs.declared.config.Submission.{Submission}
use Rattle.schedule_text.specs.declared.event.Event.{Event}
use Rattle.schedule_text.specs.declared.event.Event.TheVariants as events
use Rattle.split_model.specs.Happening as ring
use Rattle.split_model.proofs.Echo.{is_move as is_ring_move}
use Rattle.machine_pipeline.specs.Submissions.{job_submitted, jobs_of, submitted_at, submitted_of}
use Rattle.vbd_model.specs.World.{World, is_quiet}
use Rattle.vbd_model.specs.Happening.{Happening, FrontMoves, BackMoves, Closes, Submits, Pokes, Suspends, Looks, Settles, after, all_does}
use Rattle.vbd_model.specs.Kind.{Makes, MakesSoFar, AreOf, AreOfSoFar, AreOfAll, round_start, IsBeginning, IsRoundSoFar, AreRoundsSoFar, IsSettlingSoFar, never, settle_bound}
use Rattle.vbd_model.proofs.Running.{all_does-append}
use Rattle.vbd_model.proofs.Echo.{is_move, all_do_moves, front_are_moves, back_are_moves, job_are_moves, each_are_moves, start_are_moves, rounds_are_moves}

-- moves submit nothing
ring_moves_submit : (hs : List ring.Happening) → AllByRecursion (λ (h : ring.Happening). is_ring_move h ≡ true) hs → submitted_of hs ≡ []
ring_moves_submit [] m = refl
ring_moves_submit (ring.Submits job ∷ hs) m = absurd (cc)
ring_moves_submit (h ∷ hs) m = ring_moves_submit hs m.1

pub moves_submit : (hs : List Happening) (w : World) → AllByRecursion (λ (h : Happening). is_move h ≡ true) hs → submitted_of (all_does hs w) ≡ []
moves_submit hs w m = ring_moves_submit (all_does hs w) (all_do_moves hs w m)

both_submit : (a b : List Happening) (w : World) → submitted_of (all_does (a ++ b) w) ≡ submitted_of (all_does a w) ++ submitted_of (all_does b (after a w))
both_submit a b w = ap submitted_of (all_does-append a b w) ∙ filter_map-append submitted_at (all_does a w) (all_does b (after a w))

-- what is the same submits the same
same_submit : (hs all : List Happening) (w : World) → hs ≡ all → submitted_of (all_does hs w) ≡ submitted_of (all_does all w)
same_submit hs all w e = ap (λ (l : List Happening). submitted_of (all_does l w)) e

joined : (hs a b : List Happening) (w : World) (js : List Submission) → hs ≡ a ++ b → submitted_of (all_does a w) ≡ [] → submitted_of (all_does b (after a w)) ≡ js → submitted_of (all_does hs w) ≡ js
joined hs a b w js e p q = same_submit hs (a ++ b) w e ∙ (both_submit a b w ∙ (ap (λ (x : List Submission). x ++ submitted_of (all_does b (after a w))) p ∙ q))

-- what begins moves is moves
first_empty : (xs ys : List Submission) → xs ++ ys ≡ [] → xs ≡ []
first_empty [] ys e = refl
first_empty (x ∷ xs) ys e = absurd (cc)

begun_submits : (hs all : List Happening) (w : World) → IsBeginning hs all → AllByRecursion (λ (h : Happening). is_move h ≡ true) all → submitted_of (all_does hs w) ≡ []
begun_submits hs all w is moves =
    first_empty (submitted_of (all_does hs w)) (submitted_of (all_does is.0 (after hs w)))
    (sym (both_submit hs is.0 w) ∙ (sym (same_submit all (hs ++ is.0) w is.1) ∙ moves_submit all w moves))

-- an event submits its own request, or none
made_submits : (e : Event) (w : World) (hs : List Happening) → Makes e w hs → submitted_of (all_does hs w) ≡ jobs_of (e ∷ [])
made_submits (events.Submit job) w hs is = same_submit hs (Submits job ∷ []) w is.0
made_submits (events.Front n) w hs is = same_submit hs (replicate n FrontMoves) w is ∙ moves_submit (replicate n FrontMoves) w (front_are_moves n)
made_submits (events.Back n) w hs is = same_submit hs (replicate n BackMoves) w is ∙ moves_submit (replicate n BackMoves) w (back_are_moves n)
made_submits (events.Job number n) w hs is = moves_submit hs w (job_are_moves number hs is.0)
made_submits (events.Turn n) w hs is = moves_submit hs w (rounds_are_moves never n w hs is)
made_submits events.Settle w hs is =
    joined hs is.rounds (Settles (is_quiet (after is.rounds w)) ∷ []) w [] is.all
    (moves_submit is.rounds w (rounds_are_moves is_quiet is.are_rounds.count w is.rounds is.are_rounds.are_rounds)) refl
made_submits events.Suspend w hs is = same_submit hs (Suspends ∷ []) w is.0
made_submits (events.Close at) w hs is = same_submit hs (Closes at ∷ []) w is ∙ moves_submit (Closes at ∷ []) w (refl, tt)
made_submits (events.Poke frame word value) w hs is = same_submit hs (Pokes frame word value ∷ []) w is.0
made_submits e w hs is = same_submit hs _ w is

round_so_far_submits : (w : World) (hs : List Happening) → IsRoundSoFar w hs → submitted_of (all_does hs w) ≡ []
round_so_far_submits w hs (inl is) = begun_submits hs round_start w is start_are_moves
round_so_far_submits w hs (inr is) =
    joined hs round_start is.jobs w [] is.all (moves_submit round_start w start_are_moves)
    (moves_submit is.jobs (after round_start w) (each_are_moves 0 is.are_jobs.0 (after round_start w) is.jobs is.are_jobs.1))

rounds_so_far_submit : (test : World → Bool) (bound : ℕ) (w : World) (hs : List Happening) → AreRoundsSoFar test bound w hs → submitted_of (all_does hs w) ≡ []
rounds_so_far_submit test bound w hs is =
    joined hs is.whole is.begun w [] is.all (moves_submit is.whole w (rounds_are_moves test is.count w is.whole is.are_rounds))
    (round_so_far_submits (after is.whole w) is.begun is.is_round)

settling_so_far_submits : (w : World) (hs : List Happening) → IsSettlingSoFar w hs → submitted_of (all_does hs w) ≡ []
settling_so_far_submits w hs (inl is) = rounds_so_far_submit is_quiet (settle_bound w) w hs is
settling_so_far_submits w hs (inr is) = made_submits events.Settle w hs is

-- also where it was stopped in the midst
made_so_far_submits : (e : Event) (w : World) (hs : List Happening) → MakesSoFar e w hs → submitted_of (all_does hs w) ≡ jobs_of (e ∷ [])
made_so_far_submits (events.Front n) w hs is = begun_submits hs (replicate n FrontMoves) w is (front_are_moves n)
made_so_far_submits (events.Back n) w hs is = begun_submits hs (replicate n BackMoves) w is (back_are_moves n)
made_so_far_submits (events.Job number n) w hs is = moves_submit hs w (job_are_moves number hs is.0)
made_so_far_submits (events.Turn n) w hs is = rounds_so_far_submit never n w hs is
made_so_far_submits events.Settle w hs is = settling_so_far_submits w hs is
made_so_far_submits events.Suspend w hs (inl is) = same_submit hs (Suspends ∷ []) w is.0
made_so_far_submits events.Suspend w hs (inr is) = same_submit hs (Looks false ∷ []) w is.0
made_so_far_submits e w hs is = made_submits e w hs is

pub event_submits : (e : Event) (w : World) (hs : List Happening) → AreOf e w hs → submitted_of (all_does hs w) ≡ jobs_of (e ∷ [])
event_submits e w hs is = made_submits e w hs is.1

pub so_far_submits : (e : Event) (w : World) (hs : List Happening) → AreOfSoFar e w hs → submitted_of (all_does hs w) ≡ jobs_of (e ∷ [])
so_far_submits e w hs is = made_so_far_submits e w hs is.1

-- the events of a schedule, one after another
pub events_submit : (es : List Event) (w : World) (hs : List Happening) → AreOfAll es w hs → submitted_of (all_does hs w) ≡ jobs_of es
events_submit [] w hs is = same_submit hs [] w is
events_submit (e ∷ es) w hs is =
    same_submit hs (is.0 ++ is.1) w is.2 ∙ (both_submit is.0 is.1 w
    ∙ (ap (λ (x : List Submission). x ++ submitted_of (all_does is.1 (after is.0 w))) (event_submits e w is.0 is.3)
    ∙ (ap (λ (x : List Submission). jobs_of (e ∷ []) ++ x) (events_submit es (after is.0 w) is.1 is.4) ∙ sym (filter_map-append job_submitted (e ∷ []) es))))

-- and of one more, as far as it came
pub events_so_far_submit : (es : List Event) (e : Event) (w : World) (hs more : List Happening) → AreOfAll es w hs → AreOfSoFar e (after hs w) more → submitted_of (all_does (hs ++ more) w) ≡ jobs_of (es ++ e ∷ [])
events_so_far_submit es e w hs more is last =
    both_submit hs more w
    ∙ (ap (λ (x : List Submission). x ++ submitted_of (all_does more (after hs w))) (events_submit es w hs is)
    ∙ (ap (λ (x : List Submission). jobs_of es ++ x) (so_far_submits e (after hs w) more last) ∙ sym (filter_map-append job_submitted es (e ∷ []))))
