-- How many happenings an event makes at most, besides the moves of jobs.
use Rattle.std.proofs.Common.{◌≡◌, ℕ, zero, suc, ◌+◌, ◌*◌, ◌≤◌, inl, inr, Bool, true, List, [], ◌∷◌, ◌++◌, length, refl, ap, sym, ◌∙◌, subst, arith}
use Rattle.std.specs.Prelude.{replicate, sum_by}
use Rattle.std.proofs.lemmas.List.Sums.{sum_by-cons, sum_by-append}
use Rattle.std.proofs.lemmas.Bool.Decides.{nat_tests}
use Rattle.blk_base.specs.Options.{Options}
use Rattle.schedule_text.specs.Event.{is_number, is_event_allowed}
use Rattle.schedule_text.specs.declared.event.Event.{Event}
use Rattle.schedule_text.specs.declared.event.Event.TheVariants as events
use Rattle.blk_front.specs.Submit.{unfinished, sectors_owed}
use Rattle.vbd_model.specs.World.{World, start_of, is_quiet}
use Rattle.vbd_model.specs.Happening.{Happening, FrontMoves, BackMoves, JobMoves, Settles, happens, after}
use Rattle.vbd_model.specs.Kind.{AreEachJobs, round_start, IsBeginning, IsRoundSoFar, AreRounds, never, settle_bound, most_rounds, AreRoundsSoFar, IsSettling, IsSettlingSoFar, Makes, MakesSoFar, AreOf, AreOfSoFar, AreOfAll}
use Rattle.vbd_model.proofs.Running.{after-append}
use Rattle.split_model.proofs.FewFront.{modest_sectors}
use Rattle.vbd_model.proofs.Tight.{tight_start, tight_after}
use Rattle.machine_pipeline.specs.Plain.{IsPlain}
use Rattle.schedule_run.specs.Machine.{IsReached}

-- happenings led to this machine
pub reached_start : (config : Options) → IsPlain config → IsReached (start_of config)
reached_start config plain = record { config = config; history = []; plain = plain; here = refl }

pub reached_on : (w : World) (hs : List Happening) → IsReached w → IsReached (after hs w)
reached_on w hs r = record {
  config = r.config;
  history = r.history ++ hs;
  plain = r.plain;
  here = ap (after hs) r.here ∙ sym (after-append r.history hs (start_of r.config));
}

-- its ring has 512 entries at most, so there are no more unfinished requests, and they move no more sectors than the frames of the pool hold
record IsFew (w : World) : Type 0 where
  requests : unfinished w.rings.front ≤ 512
  sectors : sectors_owed w.rings.front ≤ 8000

few_after : (config : Options) (history : List Happening) → IsPlain config → IsFew (after history (start_of config))
few_after config history plain =
    let w : World = after history (start_of config) in
    let tight = tight_after history (start_of config) (tight_start config plain.order plain.start) in
    record { requests = tight.front.room; sectors = modest_sectors w.rings.front tight.front }

few_here : (w : World) → IsReached w → IsFew w
few_here w r = subst IsFew (sym r.here) (few_after r.config r.history r.plain)

pub reached_sectors : (w : World) → IsReached w → sectors_owed w.rings.front ≤ 8000
reached_sectors w r = let few = few_here w r in few.sectors

-- what happens besides the moves of jobs
abbrev pub others_at : Happening → ℕ
others_at (JobMoves number outcome) = 0
others_at h = 1

abbrev pub others_of : List Happening → ℕ
others_of hs = sum_by others_at hs

one_other : (h : Happening) → others_at h ≤ 1
one_other (JobMoves number outcome) = omega arith
one_other h = omega arith

others_few : (hs : List Happening) → others_of hs ≤ length hs
others_few [] = omega arith
others_few (h ∷ hs) = let one = one_other h in let rest = others_few hs in let both = sum_by-cons others_at h hs in omega arith

others_both : (hs first rest : List Happening) → hs ≡ first ++ rest → others_of hs ≡ others_of first + others_of rest
others_both hs first rest e = ap others_of e ∙ sum_by-append others_at first rest

-- a move of each job is none
each_none : (from to : ℕ) (w : World) (hs : List Happening) → AreEachJobs from to w hs → others_of hs ≡ 0
each_none from to w [] e = refl
each_none from to w (h ∷ hs) e =
    let rest = each_none e.0 to (happens w h) hs e.5 in
    let one : others_at h ≡ 0 = ap others_at e.2 in
    let both = sum_by-cons others_at h hs in
    omega arith

-- a round, as far as its jobs
begun_few : (w : World) (hs jobs : List Happening) (to : ℕ) → hs ≡ round_start ++ jobs → AreEachJobs 0 to (after round_start w) jobs → others_of hs ≤ 2
begun_few w hs jobs to all each =
    let both = others_both hs round_start jobs all in
    let start = others_few round_start in
    let none = each_none 0 to (after round_start w) jobs each in
    omega arith

beginning_few : (hs all : List Happening) (n : ℕ) → IsBeginning hs all → others_of all ≤ n → others_of hs ≤ n
beginning_few hs all n b le = let both = others_both all hs b.0 b.1 in omega arith

round_so_far_few : (w : World) (hs : List Happening) → IsRoundSoFar w hs → others_of hs ≤ 2
round_so_far_few w hs (inl b) = let start = others_few round_start in beginning_few hs round_start 2 b (omega arith)
round_so_far_few w hs (inr b) = let jobs = b.are_jobs in begun_few w hs b.jobs jobs.0 b.all jobs.1

rounds_few : (test : World → Bool) (n : ℕ) (w : World) (hs : List Happening) → AreRounds test n w hs → others_of hs ≤ 2 * n
rounds_few test zero w hs are = let none : others_of hs ≡ 0 = ap others_of are in omega arith
rounds_few test (suc n) w hs are =
    let p = are.1 in
    let round = p.3 in
    let jobs = round.are_jobs in
    let first = begun_few w p.0 round.jobs jobs.to round.all jobs.each in
    let rest = rounds_few test n (after p.0 w) p.1 p.4 in
    let both = others_both hs p.0 p.1 p.2 in
    omega arith

rounds_so_far_few : (test : World → Bool) (bound : ℕ) (w : World) (hs : List Happening) → AreRoundsSoFar test bound w hs → others_of hs ≤ 2 * bound
rounds_so_far_few test bound w hs are =
    let before = are.before in
    let whole = rounds_few test are.count w are.whole are.are_rounds in
    let begun = round_so_far_few (after are.whole w) are.begun are.is_round in
    let both = others_both hs are.whole are.begun are.all in
    omega arith

settle_few : (w : World) → IsReached w → settle_bound w ≤ most_rounds
settle_few w r = let few = few_here w r in let requests = few.requests in let sectors = few.sectors in omega arith

-- the most of an event
abbrev pub most_others : ℕ
most_others = 2 * most_rounds + 1

settling_few : (w : World) (hs : List Happening) → IsReached w → IsSettling w hs → others_of hs ≤ most_others
settling_few w hs r is =
    let are = is.are_rounds in
    let within = are.within in
    let bound = settle_few w r in
    let rounds = rounds_few is_quiet are.count w is.rounds are.are_rounds in
    let both = others_both hs is.rounds (Settles (is_quiet (after is.rounds w)) ∷ []) is.all in
    let last = others_few (Settles (is_quiet (after is.rounds w)) ∷ []) in
    omega arith

settling_so_far_few : (w : World) (hs : List Happening) → IsReached w → IsSettlingSoFar w hs → others_of hs ≤ most_others
settling_so_far_few w hs r (inl are) = let bound = settle_few w r in let rounds = rounds_so_far_few is_quiet (settle_bound w) w hs are in omega arith
settling_so_far_few w hs r (inr is) = settling_few w hs r is

number_few : (n : ℕ) → is_number n ≡ true → n ≤ 1000000
number_few n e = grind (arith, nat_tests)

pub back_few : (e : Event) (n : ℕ) → is_event_allowed e ≡ true → e ≡ events.Back n → n ≤ 1000000
back_few e n carried is = number_few n (subst (λ (x : Event). is_event_allowed x ≡ true) is carried)

pub turn_few : (e : Event) (n : ℕ) → is_event_allowed e ≡ true → e ≡ events.Turn n → n ≤ 1000000
turn_few e n carried is = number_few n (subst (λ (x : Event). is_event_allowed x ≡ true) is carried)

second_number : (k n : ℕ) → is_event_allowed (events.Job k n) ≡ true → n ≤ 1000000
second_number k n e = grind (arith, nat_tests)

same_length : (n : ℕ) (h : Happening) → length (replicate n h) ≡ n
same_length zero h = refl
same_length (suc n) h = let rest = same_length n h in omega arith

moves_few : (n : ℕ) (h : Happening) → n ≤ 1000000 → others_of (replicate n h) ≤ most_others
moves_few n h le = let same = same_length n h in let few = others_few (replicate n h) in omega arith

only_few : (hs : List Happening) (h : Happening) → hs ≡ h ∷ [] → others_of hs ≤ most_others
only_few hs h e = let few = others_few hs in let one : length hs ≡ 1 = ap length e in omega arith

made_few : (e : Event) (w : World) (hs : List Happening) → IsReached w → is_event_allowed e ≡ true → Makes e w hs → others_of hs ≤ most_others
made_few (events.Submit job) w hs r carried k = only_few hs _ k.0
made_few (events.Front n) w hs r carried k = subst (λ (l : List Happening). others_of l ≤ most_others) (sym k) (moves_few n FrontMoves (number_few n carried))
made_few (events.Back n) w hs r carried k = subst (λ (l : List Happening). others_of l ≤ most_others) (sym k) (moves_few n BackMoves (number_few n carried))
made_few (events.Job number n) w hs r carried k = let few = second_number number n carried in let all : length hs ≡ n = k.1 in let some = others_few hs in omega arith
made_few (events.Turn n) w hs r carried k = let few = number_few n carried in let rounds = rounds_few never n w hs k in omega arith
made_few events.Settle w hs r carried k = settling_few w hs r k
made_few (events.Poke frame word value) w hs r carried k = only_few hs _ k.0
made_few events.Suspend w hs r carried k = only_few hs _ k.0
made_few e w hs r carried k = only_few hs _ k

made_so_far_few : (e : Event) (w : World) (hs : List Happening) → IsReached w → is_event_allowed e ≡ true → MakesSoFar e w hs → others_of hs ≤ most_others
made_so_far_few (events.Front n) w hs r carried k = beginning_few hs (replicate n FrontMoves) most_others k (moves_few n FrontMoves (number_few n carried))
made_so_far_few (events.Back n) w hs r carried k = beginning_few hs (replicate n BackMoves) most_others k (moves_few n BackMoves (number_few n carried))
made_so_far_few (events.Job number n) w hs r carried k = let few = second_number number n carried in let all : length hs ≤ n = k.1 in let some = others_few hs in omega arith
made_so_far_few (events.Turn n) w hs r carried k = let few = number_few n carried in let rounds = rounds_so_far_few never n w hs k in omega arith
made_so_far_few events.Settle w hs r carried k = settling_so_far_few w hs r k
made_so_far_few events.Suspend w hs r carried (inl k) = only_few hs _ k.0
made_so_far_few events.Suspend w hs r carried (inr k) = only_few hs _ k.0
made_so_far_few e w hs r carried k = made_few e w hs r carried k

-- an event makes at most so many, and so it does where it was stopped
pub event_few : (config : Options) (earlier : List Happening) (e : Event) (hs : List Happening) → IsPlain config → AreOf e (after earlier (start_of config)) hs → others_of hs ≤ most_others
event_few config earlier e hs plain k =
    let w : World = after earlier (start_of config) in
    made_few e w hs (reached_on (start_of config) earlier (reached_start config plain)) k.0 k.1

pub event_so_far_few : (config : Options) (earlier : List Happening) (e : Event) (hs : List Happening) → IsPlain config → AreOfSoFar e (after earlier (start_of config)) hs → others_of hs ≤ most_others
event_so_far_few config earlier e hs plain k =
    let w : World = after earlier (start_of config) in
    made_so_far_few e w hs (reached_on (start_of config) earlier (reached_start config plain)) k.0 k.1

-- so are those of many events
pub events_few : (config : Options) (earlier : List Happening) (es : List Event) (hs : List Happening) → IsPlain config → AreOfAll es (after earlier (start_of config)) hs → others_of hs ≤ most_others * length es
events_few config earlier [] hs plain k = let none : others_of hs ≡ 0 = ap others_of k in omega arith
events_few config earlier (e ∷ es) hs plain k =
    let w : World = after earlier (start_of config) in
    let here : after k.0 w ≡ after (earlier ++ k.0) (start_of config) = sym (after-append earlier k.0 (start_of config)) in
    let first = event_few config earlier e k.0 plain k.3 in
    let rest = events_few config (earlier ++ k.0) es k.1 plain (subst (λ (x : World). AreOfAll es x k.1) here k.4) in
    let both = others_both hs k.0 k.1 k.2 in
    omega arith
