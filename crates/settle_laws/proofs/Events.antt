-- The happenings of an event that isn't hostile are moves, or a single one; and settling ends in quiet.
use Rattle.std.proofs.Common.{◌≡◌, ◌∙◌, sym, subst, inl, inr, ℕ, zero, suc, Bool, true, false, true≢false, List, [], ◌∷◌, ◌++◌, replicate, refl}
use Rattle.std.specs.List.{list_all}
use Rattle.std.proofs.lemmas.List.Folds.{list_all-append}
use Rattle.line_text.proofs.Both.{both_true}
use Rattle.schedule_text.specs.declared.event.Event.{Event}
use Rattle.schedule_text.specs.declared.event.Event.TheVariants as events
use Rattle.vbd_model.specs.World.{World, is_quiet}
use Rattle.vbd_model.specs.Happening.{Happening, FrontMoves, BackMoves, Closes, Submits, Notifies, Pokes, OverwritesKey, Suspends, Dumps, Looks, Settles, after, happens}
use Rattle.vbd_model.specs.Kind.{Makes, MakesSoFar, AreJobMoves, AreEachJobs, IsRound, AreRounds, AreRoundsUntilQuiet, AreRoundsSoFar, IsRoundSoFar, IsSettling, IsBeginning, round_start, settle_bound, never}
use Rattle.vbd_laws.specs.Quiet.{AreUntouched}
use Rattle.settle_laws.proofs.Ends.{ends_at, ends_until, is_move}

abbrev pub AreMoves : List Happening → Type 0
AreMoves hs = list_all is_move hs ≡ true

moves_both : (first rest : List Happening) → AreMoves first → AreMoves rest → AreMoves (first ++ rest)
moves_both first rest a b = list_all-append is_move first rest ∙ rw (a, b) refl

moves_first : (first rest : List Happening) → AreMoves (first ++ rest) → AreMoves first
moves_first first rest all = (both_true (list_all is_move first) (list_all is_move rest) (sym (list_all-append is_move first rest) ∙ all)).0

move_ends : (h : Happening) → is_move h ≡ true → ends_at h ≡ true
move_ends (Settles quiet) is = absurd (true≢false (sym is))
move_ends h is = refl

-- moves touch nothing, and are followed by what follows
pub moves_untouched : (hs : List Happening) → AreMoves hs → AreUntouched hs
moves_untouched [] are = tt
moves_untouched (Pokes frame word value ∷ hs) are = absurd (true≢false (sym are))
moves_untouched (OverwritesKey name text ∷ hs) are = absurd (true≢false (sym are))
moves_untouched (h ∷ hs) are = (tt, moves_untouched hs (both_true (is_move h) (list_all is_move hs) are).1)

pub moves_until : (hs rest : List Happening) → AreMoves hs → ends_until rest ≡ true → ends_until (hs ++ rest) ≡ true
moves_until [] rest are later = later
moves_until (Pokes frame word value ∷ hs) rest are later = refl
moves_until (OverwritesKey name text ∷ hs) rest are later = refl
moves_until (h ∷ hs) rest are later =
    let both = both_true (is_move h) (list_all is_move hs) are in
    rw (move_ends h both.0, moves_until hs rest both.1 later) refl

-- which happenings are moves
same_moves : (h : Happening) → is_move h ≡ true → (n : ℕ) → AreMoves (replicate n h)
same_moves h is zero = refl
same_moves h is (suc n) = rw (is, same_moves h is n) refl

job_moves : (number : ℕ) (hs : List Happening) → AreJobMoves number hs → AreMoves hs
job_moves number [] are = refl
job_moves number (h ∷ hs) are = rw (are.1, job_moves number hs are.3) refl

each_moves : (from to : ℕ) (w : World) (hs : List Happening) → AreEachJobs from to w hs → AreMoves hs
each_moves from to w [] are = refl
each_moves from to w (h ∷ hs) are = rw (are.2, each_moves are.0 to (happens w h) hs are.5) refl

round_moves : (w : World) (hs : List Happening) → IsRound w hs → AreMoves hs
round_moves w hs r = subst AreMoves (sym r.all) (let all = r.are_jobs in each_moves 0 all.to (after round_start w) r.jobs all.each)

pub rounds_moves : (test : World → Bool) (n : ℕ) (w : World) (hs : List Happening) → AreRounds test n w hs → AreMoves hs
rounds_moves test zero w hs are = subst AreMoves (sym are) refl
rounds_moves test (suc n) w hs are =
    subst AreMoves (sym are.1.2) (moves_both are.1.0 are.1.1 (round_moves w are.1.0 are.1.3) (rounds_moves test n (after are.1.0 w) are.1.1 are.1.4))

beginning_moves : (hs all : List Happening) → IsBeginning hs all → AreMoves all → AreMoves hs
beginning_moves hs all b are = moves_first hs b.0 (subst AreMoves b.1 are)

begun_moves : (w : World) (hs : List Happening) → IsRoundSoFar w hs → AreMoves hs
begun_moves w hs (inl b) = beginning_moves hs round_start b refl
begun_moves w hs (inr r) = subst AreMoves (sym r.all) (let jobs = r.are_jobs in each_moves 0 jobs.0 (after round_start w) r.jobs jobs.1)

so_far_moves : (test : World → Bool) (bound : ℕ) (w : World) (hs : List Happening) → AreRoundsSoFar test bound w hs → AreMoves hs
so_far_moves test bound w hs r = subst AreMoves (sym r.all) (moves_both r.whole r.begun (rounds_moves test r.count w r.whole r.are_rounds) (begun_moves (after r.whole w) r.begun r.is_round))

-- what an event made: moves; something that touches nothing and ends no settling; rounds, and what was found then; or what a hostile hand did
pub data Made : World → List Happening → Type 0 where
  Moving : (w : World) (hs : List Happening) → AreMoves hs → Made w hs
  Quietly : (w : World) (h : Happening) → AreUntouched (h ∷ []) → ends_at h ≡ true → Made w (h ∷ [])
  Settling : (w : World) (rounds : List Happening) → AreRoundsUntilQuiet (settle_bound w) w rounds → Made w (rounds ++ Settles (is_quiet (after rounds w)) ∷ [])
  Touching : (w : World) (h : Happening) → ((rest : List Happening) → ends_until (h ∷ rest) ≡ true) → Made w (h ∷ [])

settling_made : (w : World) (hs : List Happening) → IsSettling w hs → Made w hs
settling_made w hs s = subst (Made w) (sym s.all) (Settling w s.rounds s.are_rounds)

quietly : (w : World) (hs : List Happening) (h : Happening) → hs ≡ h ∷ [] → AreUntouched (h ∷ []) → ends_at h ≡ true → Made w hs
quietly w hs h is untouched ends = subst (Made w) (sym is) (Quietly w h untouched ends)

touching : (w : World) (hs : List Happening) (h : Happening) → hs ≡ h ∷ [] → ((rest : List Happening) → ends_until (h ∷ rest) ≡ true) → Made w hs
touching w hs h is until = subst (Made w) (sym is) (Touching w h until)

pub made_of : (e : Event) (w : World) (hs : List Happening) → Makes e w hs → Made w hs
made_of (events.Submit job) w hs k = quietly w hs (Submits job) k.0 (tt, tt) refl
made_of (events.Front n) w hs k = Moving w hs (subst AreMoves (sym k) (same_moves FrontMoves refl n))
made_of (events.Back n) w hs k = Moving w hs (subst AreMoves (sym k) (same_moves BackMoves refl n))
made_of (events.Job number n) w hs k = Moving w hs (job_moves number hs k.0)
made_of (events.Turn n) w hs k = Moving w hs (rounds_moves never n w hs k)
made_of events.Settle w hs k = settling_made w hs k
made_of events.Look w hs k = quietly w hs (Looks (is_quiet w)) k (tt, tt) refl
made_of (events.Notify at) w hs k = quietly w hs (Notifies at) k (tt, tt) refl
made_of events.Suspend w hs k = quietly w hs Suspends k.0 (tt, tt) refl
made_of (events.Close at) w hs k = quietly w hs (Closes at) k (tt, tt) refl
made_of (events.Poke frame word value) w hs k = touching w hs (Pokes frame word value) k.0 (λ rest. refl)
made_of (events.Key name text) w hs k = touching w hs (OverwritesKey name text) k (λ rest. refl)
made_of events.Dump w hs k = quietly w hs Dumps k (tt, tt) refl

pub made_so_far : (e : Event) (w : World) (hs : List Happening) → MakesSoFar e w hs → Made w hs
made_so_far (events.Front n) w hs k = Moving w hs (beginning_moves hs (replicate n FrontMoves) k (same_moves FrontMoves refl n))
made_so_far (events.Back n) w hs k = Moving w hs (beginning_moves hs (replicate n BackMoves) k (same_moves BackMoves refl n))
made_so_far (events.Job number n) w hs k = Moving w hs (job_moves number hs k.0)
made_so_far (events.Turn n) w hs k = Moving w hs (so_far_moves never n w hs k)
made_so_far events.Settle w hs (inl r) = Moving w hs (so_far_moves is_quiet (settle_bound w) w hs r)
made_so_far events.Settle w hs (inr s) = settling_made w hs s
made_so_far events.Suspend w hs (inl k) = quietly w hs Suspends k.0 (tt, tt) refl
made_so_far events.Suspend w hs (inr k) = quietly w hs (Looks false) k.0 (tt, tt) refl
made_so_far e w hs k = made_of e w hs k
