-- What comes after what: moves after moves, a round after rounds, and what an event's happenings are then.
use Rattle.std.proofs.Common.{◌≡◌, ℕ, zero, suc, ◌+◌, ◌-◌, ◌<◌, ◌≤◌, inl, inr, Bool, true, false, if◌then◌else◌, List, [], ◌∷◌, ◌++◌, length, Some, refl, ap, sym, ◌∙◌, subst, append_assoc, length-append, arith}
use Rattle.std.specs.Prelude.{replicate}
use Rattle.std.proofs.lemmas.List.{append-nil, replicate_more, replicate-append-replicate}
use Rattle.schedule_text.specs.declared.line.Line.{Line}
use Rattle.hypervisor.specs.Act.{Outcome, IsGiven}
use Rattle.blk_back.specs.Step.{next_job_of}
use Rattle.split_model.specs.Happening.{job_turn}
use Rattle.split_model.specs.Safe.{above}
use Rattle.vbd_model.specs.World.{World, is_quiet}
use Rattle.vbd_model.specs.Happening.{Happening, JobMoves, Settles, happens, after}
use Rattle.vbd_model.specs.Kind.{AreJobMoves, AreSomeJobMoves, AreFewJobMoves, AreEachJobs, AreAllJobs, HasEachJobs, round_start, IsRound, IsBeginning, IsRoundSoFar, AreRounds, AreRoundsSoFar, AreRoundsUntilQuiet, settle_bound, IsSettling, IsSettlingSoFar, IsJobMove}
use Rattle.vbd_model.specs.Leads.{Moment, Leads}
use Rattle.vbd_model.proofs.Running.{after-append}
pub use Rattle.split_model.proofs.SafeGrowth.{job_above, next_above, job_left, job_made}

-- the line that a test chooses
pub chosen_true : (test : Bool) (one other line : Line) → test ≡ true → line ≡ one → line ≡ (if test then one else other)
chosen_true test one other line e p = p ∙ sym (ap (λ b. if b then one else other) e)

pub chosen_false : (test : Bool) (one other line : Line) → test ≡ false → line ≡ other → line ≡ (if test then one else other)
chosen_false test one other line e p = p ∙ sym (ap (λ b. if b then one else other) e)

-- these and then those
pub both_are : (one other : List Happening) (xs ys : List Happening) → xs ≡ one → ys ≡ other → xs ++ ys ≡ one ++ other
both_are one other xs ys p q = ap (λ l. l ++ ys) p ∙ ap (λ l. one ++ l) q

-- the whole is a beginning too
pub all_begins : (all xs : List Happening) → xs ≡ all → IsBeginning xs all
all_begins all xs p = ([], sym p ∙ sym (append-nil xs))

pub begins_before : (one other xs : List Happening) → IsBeginning xs one → IsBeginning xs (one ++ other)
begins_before one other xs b = (b.0 ++ other, ap (λ l. l ++ other) b.1 ∙ append_assoc xs b.0 other)

-- one more of the same
pub once_more : (n : ℕ) (h : Happening) (xs ys : List Happening) → xs ≡ replicate n h → ys ≡ h ∷ [] → xs ++ ys ≡ replicate (n + 1) h
once_more n h xs ys p q = both_are (replicate n h) (h ∷ []) xs ys p q ∙ replicate_more n h

-- the first of more of the same
first_of_same : (n count : ℕ) (h : Happening) (xs : List Happening) → n ≤ count → xs ≡ replicate n h → IsBeginning xs (replicate count h)
first_of_same n count h xs le p =
    let all : count ≡ n + (count - n) = omega arith in
    (replicate (count - n) h, ap (λ m. replicate m h) all ∙ (sym (replicate-append-replicate n (count - n) h) ∙ ap (λ l. l ++ replicate (count - n) h) (sym p)))

pub once_more_begins : (n count : ℕ) (h : Happening) (xs ys : List Happening) → n < count → xs ≡ replicate n h → ys ≡ h ∷ [] → IsBeginning (xs ++ ys) (replicate count h)
once_more_begins n count h xs ys less p q = first_of_same (n + 1) count h (xs ++ ys) (omega arith) (once_more n h xs ys p q)

-- one more move of a job
job_moves_after : (number : ℕ) (outcome : Outcome) (hs : List Happening) → IsGiven outcome → AreJobMoves number hs → AreJobMoves number (hs ++ JobMoves number outcome ∷ [])
job_moves_after number outcome [] given m = (outcome, refl, given, tt)
job_moves_after number outcome (h ∷ hs) given m = (m.0, m.1, m.2, job_moves_after number outcome hs given m.3)

pub job_moves_more : (number moved n : ℕ) (xs ys : List Happening) → moved ≡ number → AreSomeJobMoves number n xs → IsJobMove moved ys → AreSomeJobMoves number (n + 1) (xs ++ ys)
job_moves_more number moved n xs ys same m j =
    let longer : length (xs ++ ys) ≡ n + 1 = length-append xs ys ∙ (ap (λ l. length xs + length l) j.1 ∙ ap (λ k. k + 1) m.1) in
    let this : ys ≡ JobMoves number j.0 ∷ [] = j.1 ∙ ap (λ k. JobMoves k j.0 ∷ []) same in
    (subst (λ l. AreJobMoves number (xs ++ l)) (sym this) (job_moves_after number j.0 xs j.2 m.0), longer)

pub few_job_moves : (number n count : ℕ) (xs : List Happening) → n ≤ count → AreSomeJobMoves number n xs → AreFewJobMoves number count xs
few_job_moves number n count xs le m =
    let long : length xs ≡ n = m.1 in
    (m.0, omega arith)

-- a move of the next job, after those of the jobs before it
each_after : (from mid next : ℕ) (outcome : Outcome) (w : World) (hs : List Happening) → IsGiven outcome → AreEachJobs from mid w hs → next_job_of (let v : World = after hs w in v.rings.back) mid ≡ Some next → AreEachJobs from next w (hs ++ JobMoves next outcome ∷ [])
each_after from mid next outcome w [] given e n = (next, outcome, refl, given, subst (λ (m : ℕ). next_job_of w.rings.back m ≡ Some next) e n, refl)
each_after from mid next outcome w (h ∷ hs) given e n = (e.0, e.1, e.2, e.3, e.4, each_after e.0 mid next outcome (happens w h) hs given e.5 n)

pub each_more : (last next : ℕ) (w v : World) (xs ys : List Happening) → next_job_of v.rings.back last ≡ Some next → AreEachJobs 0 last w xs → v ≡ after xs w → IsJobMove next ys → AreEachJobs 0 next w (xs ++ ys)
each_more last next w v xs ys n e here j =
    subst (λ l. AreEachJobs 0 next w (xs ++ l)) (sym j.1)
    (each_after 0 last next j.0 w xs j.2 e (subst (λ (u : World). next_job_of u.rings.back last ≡ Some next) here n))

-- a move of a job leaves as many jobs above each number
pub moved_above : (last number : ℕ) (a b : Moment) → Leads (IsJobMove number) a b → above last b.world.rings.back ≡ above last a.world.rings.back
moved_above last number a b p =
    let here : b.world ≡ happens a.world (JobMoves number p.is_kind.0) = p.world ∙ ap (λ hs. after hs a.world) p.is_kind.1 in
    ap (λ (w : World). above last w.rings.back) here ∙ job_above last number a.world.rings (job_turn a.world.rings number p.is_kind.0)

-- above the next job there are fewer
pub fewer_above : (last next : ℕ) (a b : Moment) → next_job_of a.world.rings.back last ≡ Some next → Leads (IsJobMove next) a b → above next b.world.rings.back < above last a.world.rings.back
fewer_above last next a b n p =
    let less = next_above a.world.rings.back last next n in
    let same = moved_above next next a b p in
    omega arith

-- a round of its parts
pub round_of : (w v : World) (xs ys : List Happening) → xs ≡ round_start → v ≡ after xs w → AreAllJobs v ys → IsRound w (xs ++ ys)
round_of w v xs ys p here jobs = record { jobs = ys; all = ap (λ l. l ++ ys) p; are_jobs = subst (λ (u : World). AreAllJobs u ys) (here ∙ ap (λ l. after l w) p) jobs }

pub round_begun : (w v : World) (xs ys : List Happening) → xs ≡ round_start → v ≡ after xs w → HasEachJobs v ys → IsRoundSoFar w (xs ++ ys)
round_begun w v xs ys p here jobs = inr (record { jobs = ys; all = ap (λ l. l ++ ys) p; are_jobs = subst (λ (u : World). HasEachJobs u ys) (here ∙ ap (λ l. after l w) p) jobs })

-- one more round
rounds_after : (test : World → Bool) (n : ℕ) (w : World) (hs round : List Happening) → AreRounds test n w hs → test (after hs w) ≡ false → IsRound (after hs w) round → AreRounds test (suc n) w (hs ++ round)
rounds_after test zero w hs round are goes is_round =
    let here : after hs w ≡ w = ap (λ l. after l w) are in
    (subst (λ u. test u ≡ false) here goes, (round, [], ap (λ l. l ++ round) are ∙ sym (append-nil round), subst (λ u. IsRound u round) here is_round, refl))
rounds_after test (suc n) w hs round are goes is_round =
    let first = are.1.0 in
    let rest = are.1.1 in
    let here : after hs w ≡ after rest (after first w) = ap (λ l. after l w) are.1.2 ∙ after-append first rest w in
    (are.0, (first, rest ++ round, ap (λ l. l ++ round) are.1.2 ∙ append_assoc first rest round, are.1.3, rounds_after test n (after first w) rest round are.1.4 (subst (λ u. test u ≡ false) here goes) (subst (λ u. IsRound u round) here is_round)))

pub rounds_more : (test : World → Bool) (n : ℕ) (w v : World) (xs ys : List Happening) → test v ≡ false → AreRounds test n w xs → v ≡ after xs w → IsRound v ys → AreRounds test (n + 1) w (xs ++ ys)
rounds_more test n w v xs ys goes are here is_round =
    let next : n + 1 ≡ suc n = omega arith in
    subst (λ m. AreRounds test m w (xs ++ ys)) (sym next)
    (rounds_after test n w xs ys are (subst (λ u. test u ≡ false) here goes) (subst (λ u. IsRound u ys) here is_round))

-- rounds, and one that was begun
pub rounds_begun : (test : World → Bool) (n bound : ℕ) (w v : World) (xs ys : List Happening) → n < bound → test v ≡ false → AreRounds test n w xs → v ≡ after xs w → IsRoundSoFar v ys → AreRoundsSoFar test bound w (xs ++ ys)
rounds_begun test n bound w v xs ys less goes are here is_round = record {
  count = n;
  whole = xs;
  begun = ys;
  before = less;
  are_rounds = are;
  goes_on = subst (λ u. test u ≡ false) here goes;
  is_round = subst (λ u. IsRoundSoFar u ys) here is_round;
  all = refl;
}

-- rounds until all was quiet, or there were that many
pub rounds_quiet : (n bound : ℕ) (w v : World) (xs : List Happening) → n ≤ bound → is_quiet v ≡ true → AreRounds is_quiet n w xs → v ≡ after xs w → AreRoundsUntilQuiet bound w xs
rounds_quiet n bound w v xs le quiet are here = record { count = n; within = le; are_rounds = are; over = inr (subst (λ u. is_quiet u ≡ true) here quiet) }

pub rounds_spent : (n bound : ℕ) (w v : World) (xs : List Happening) → n ≡ bound → AreRounds is_quiet n w xs → v ≡ after xs w → AreRoundsUntilQuiet bound w xs
rounds_spent n bound w v xs all are here =
    let le : n ≤ bound = omega arith in
    record { count = n; within = le; are_rounds = are; over = inl all }

-- settling: rounds, and what was found
pub settled : (bound : ℕ) (w v : World) (xs ys : List Happening) → bound ≡ settle_bound w → AreRoundsUntilQuiet bound w xs → v ≡ after xs w → ys ≡ Settles (is_quiet v) ∷ [] → IsSettling w (xs ++ ys)
settled bound w v xs ys same are here p = record {
  rounds = xs;
  are_rounds = subst (λ n. AreRoundsUntilQuiet n w xs) same are;
  all = ap (λ l. xs ++ l) (p ∙ ap (λ u. Settles (is_quiet u) ∷ []) here);
}

-- settling stopped at a round
pub settling_begun : (bound : ℕ) (w : World) (xs : List Happening) → bound ≡ settle_bound w → AreRoundsSoFar is_quiet bound w xs → IsSettlingSoFar w xs
settling_begun bound w xs same b = inl (subst (λ n. AreRoundsSoFar is_quiet n w xs) same b)
