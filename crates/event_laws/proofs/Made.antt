-- Which happenings an event makes.
use Rattle.std.proofs.Common.{◌≡◌, ℕ, zero, suc, Bool, true, false, List, [], ◌∷◌, ◌++◌, refl, sym, subst}
use Rattle.std.specs.Prelude.{replicate}
use Rattle.std.specs.List.{AllByRecursion}
use Rattle.blk_base.specs.declared.parts.End.TheVariants as end
use Rattle.hypervisor.specs.Act.{Outcome}
use Rattle.schedule_text.specs.declared.event.Event.{Event}
use Rattle.schedule_text.specs.declared.event.Event.TheVariants as events
use Rattle.vbd_model.specs.World.{World, is_quiet}
use Rattle.vbd_model.specs.Happening.{Happening, FrontMoves, BackMoves, JobMoves, Closes, Pokes, OverwritesKey, Suspends, Settles, happens, after}
use Rattle.vbd_model.specs.Kind.{Makes, AreJobMoves, AreEachJobs, round_start, IsRound, AreRounds, never}

abbrev pub moves_front : Event → Bool
moves_front (events.Front n) = true
moves_front (events.Turn n) = true
moves_front events.Settle = true
moves_front event = false

abbrev pub is_front_close : Event → Bool
is_front_close (events.Close end.Front) = true
is_front_close event = false

abbrev pub is_back_close : Event → Bool
is_back_close (events.Close end.Back) = true
is_back_close event = false

abbrev pub is_suspend : Event → Bool
is_suspend events.Suspend = true
is_suspend event = false

abbrev pub is_touch : Event → Bool
is_touch (events.Poke frame word value) = true
is_touch (events.Key name text) = true
is_touch event = false

abbrev pub MayMake : Event → Happening → Type 0
MayMake e FrontMoves = moves_front e ≡ true
MayMake e (Closes end.Front) = is_front_close e ≡ true
MayMake e (Closes end.Back) = is_back_close e ≡ true
MayMake e Suspends = is_suspend e ≡ true
MayMake e (Pokes frame word value) = is_touch e ≡ true
MayMake e (OverwritesKey name text) = is_touch e ≡ true
MayMake e h = Unit {0}

-- what is so of all happenings of two histories
both_all : (P : Happening → Type 0) (a b : List Happening) → AllByRecursion P a → AllByRecursion P b → AllByRecursion P (a ++ b)
both_all P [] b p q = q
both_all P (h ∷ a) b p q = (p.0, both_all P a b p.1 q)

repeated : (P : Happening → Type 0) (n : ℕ) (h : Happening) → P h → AllByRecursion P (replicate n h)
repeated P zero h is = tt
repeated P (suc n) h is = (is, repeated P n h is)

jobs_all : (P : Happening → Type 0) (number : ℕ) (hs : List Happening) → ((n : ℕ) (o : Outcome) → P (JobMoves n o)) → AreJobMoves number hs → AllByRecursion P hs
jobs_all P number [] each j = tt
jobs_all P number (h ∷ hs) each j = (subst P (sym j.1) (each number j.0), jobs_all P number hs each j.3)

each_all : (P : Happening → Type 0) (from to : ℕ) (w : World) (hs : List Happening) → ((n : ℕ) (o : Outcome) → P (JobMoves n o)) → AreEachJobs from to w hs → AllByRecursion P hs
each_all P from to w [] each j = tt
each_all P from to w (h ∷ hs) each j = (subst P (sym j.2) (each j.0 j.1), each_all P j.0 to (happens w h) hs each j.5)

rounds_all : (P : Happening → Type 0) (test : World → Bool) (n : ℕ) (w : World) (hs : List Happening) → P FrontMoves → P BackMoves → ((n : ℕ) (o : Outcome) → P (JobMoves n o)) → AreRounds test n w hs → AllByRecursion P hs
rounds_all P test zero w hs front back each r = subst (AllByRecursion P) (sym r) tt
rounds_all P test (suc n) w hs front back each r =
    let p = r.1 in
    let is : IsRound w p.0 = p.3 in
    let first : AllByRecursion P p.0 = subst (AllByRecursion P) (sym is.all) (front, (back, each_all P 0 is.are_jobs.to (after round_start w) is.jobs each is.are_jobs.each)) in
    subst (AllByRecursion P) (sym p.2) (both_all P p.0 p.1 first (rounds_all P test n (after p.0 w) p.1 front back each p.4))

pub made_all : (e : Event) (w : World) (hs : List Happening) → Makes e w hs → AllByRecursion (MayMake e) hs
made_all (events.Submit job) w hs is = subst (AllByRecursion (MayMake (events.Submit job))) (sym is.0) (tt, tt)
made_all (events.Front n) w hs is = subst (AllByRecursion (MayMake (events.Front n))) (sym is) (repeated (MayMake (events.Front n)) n FrontMoves refl)
made_all (events.Back n) w hs is = subst (AllByRecursion (MayMake (events.Back n))) (sym is) (repeated (MayMake (events.Back n)) n BackMoves tt)
made_all (events.Job number n) w hs is = jobs_all (MayMake (events.Job number n)) number hs (λ m o. tt) is.0
made_all (events.Turn n) w hs is = rounds_all (MayMake (events.Turn n)) never n w hs refl tt (λ m o. tt) is
made_all events.Settle w hs is =
    subst (AllByRecursion (MayMake events.Settle)) (sym is.all)
    (both_all (MayMake events.Settle) is.rounds (Settles (is_quiet (after is.rounds w)) ∷ [])
    (rounds_all (MayMake events.Settle) is_quiet is.are_rounds.count w is.rounds refl tt (λ m o. tt) is.are_rounds.are_rounds) (tt, tt))
made_all events.Suspend w hs is = subst (AllByRecursion (MayMake events.Suspend)) (sym is.0) (refl, tt)
made_all (events.Close end.Front) w hs is = subst (AllByRecursion (MayMake (events.Close end.Front))) (sym is) (refl, tt)
made_all (events.Close end.Back) w hs is = subst (AllByRecursion (MayMake (events.Close end.Back))) (sym is) (refl, tt)
made_all (events.Poke frame word value) w hs is = subst (AllByRecursion (MayMake (events.Poke frame word value))) (sym is.0) (refl, tt)
made_all (events.Key name text) w hs is = subst (AllByRecursion (MayMake (events.Key name text))) (sym is) (refl, tt)
made_all e w hs is = subst (AllByRecursion (MayMake e)) (sym is) (tt, tt)
