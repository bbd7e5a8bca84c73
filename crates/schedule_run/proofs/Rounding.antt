-- Rounds after rounds, some at once.
use Rattle.std.proofs.Common.{◌≡◌, ℕ, zero, suc, ◌+◌, ◌-◌, ◌*◌, ◌<◌, ◌≤◌, Bool, true, false, List, [], ◌++◌, Ok, Err, refl, sym, ap, ◌∙◌, subst, append_assoc, arith}
use Rattle.std.proofs.lemmas.List.{append-nil}
use Rattle.schedule_text.specs.declared.recorder.RecordStop.{RecordStop}
use Rattle.vbd_model.specs.World.{World, is_quiet}
use Rattle.vbd_model.specs.Happening.{Happening, after}
use Rattle.vbd_model.specs.Kind.{IsRound, IsRoundSoFar, AreRounds, AreRoundsSoFar, AreRoundsUntilQuiet, never}
use Rattle.vbd_model.specs.Leads.{Moment, Goes, IsReadyFor}
use Rattle.vbd_model.proofs.Running.{after-append, leads_on, keeps_on, HasGone, not_gone, ready_again, gone_to_stop, gone}
use Rattle.vbd_model.proofs.Joining.{rounds_begun, rounds_quiet, rounds_spent}
use Rattle.schedule_run.specs.Going.{GoneThrough}

-- so many rounds, and then so many more
rounds_join : (test : World → Bool) (n m : ℕ) (w : World) (xs ys : List Happening) → AreRounds test n w xs → AreRounds test m (after xs w) ys → AreRounds test (n + m) w (xs ++ ys)
rounds_join test zero m w xs ys none more =
    let same : zero + m ≡ m = omega arith in
    subst (λ k. AreRounds test k w (xs ++ ys)) (sym same)
    (subst (λ (l : List Happening). AreRounds test m w (l ++ ys)) (sym none) (subst (λ (l : List Happening). AreRounds test m (after l w) ys) none more))
rounds_join test (suc n) m w xs ys are more =
    let first : List Happening = are.1.0 in
    let rest : List Happening = are.1.1 in
    let grown : suc n + m ≡ suc (n + m) = omega arith in
    let here : after xs w ≡ after rest (after first w) = ap (λ l. after l w) are.1.2 ∙ after-append first rest w in
    subst (λ k. AreRounds test k w (xs ++ ys)) (sym grown) (
      are.0,
      (
        first,
        rest ++ ys,
        ap (λ l. l ++ ys) are.1.2 ∙ append_assoc first rest ys,
        are.1.3,
        rounds_join test n m (after first w) rest ys are.1.4 (subst (λ (u : World). AreRounds test m u ys) here more),
      ),
    )

-- in a loop over so many rounds so many are left
pub record AreLeft (test : World → Bool) (left count : ℕ) (a b : Moment) : Type 0 where
  pub done : ℕ
  pub all : done + left ≡ count
  pub gone : HasGone (AreRounds test done a.world) 42 done count a b

pub left_first : (test : World → Bool) (left count : ℕ) (a : Moment) → left ≡ count → AreLeft test left count a a
left_first test left count a all = record { done = 0; all = omega arith; gone = not_gone (AreRounds test 0 a.world) 42 count a refl }

-- some more of them
pub left_on : (test : World → Bool) (n left count : ℕ) (a b c : Moment) → n ≤ left → AreLeft test left count a b
    → Goes (AreRounds test n b.world) (AreRounds test n b.world) (42 * n) (Ok tt) b c → AreLeft test (left - n) count a c
left_on test n left count a b c few l more =
    let g = l.gone in
    let done = l.done in
    let all = l.all in
    let within = g.within in
    record {
      done = done + n;
      all = omega arith;
      gone = record {
        went = record {
          ends = leads_on (AreRounds test done a.world) (AreRounds test n b.world) (AreRounds test (done + n) a.world) a b c
              (λ xs ys p here q. rounds_join test done n a.world xs ys p (subst (λ (u : World). AreRounds test n u ys) here q)) g.went.ends more.ends;
          keeps = keeps_on (42 * done) (42 * n) (42 * (done + n)) a b c (omega arith) g.went.keeps more.keeps;
        };
        within = omega arith;
      };
    }

-- there is room for one more
pub left_ready : (test : World → Bool) (left count : ℕ) (a b : Moment) → 0 < left → IsReadyFor (42 * count) a.world a.disk → AreLeft test left count a b → IsReadyFor 42 b.world b.disk
left_ready test left count a b some ready l =
    let all = l.all in
    ready_again (AreRounds test l.done a.world) 42 l.done count a b (omega arith) ready l.gone

-- one of them was stopped
pub left_stopped : (test : World → Bool) (kind : List Happening → Type 0) (left count : ℕ) (stop : RecordStop) (a b c : Moment) → 0 < left → test b.world ≡ false → AreLeft test left count a b
    → Goes (IsRound b.world) (IsRoundSoFar b.world) 42 (Err stop) b c → Goes kind (AreRoundsSoFar test count a.world) (42 * count) (Err stop) a c
left_stopped test kind left count stop a b c some goes l g =
    let all = l.all in
    let less : l.done < count = omega arith in
    gone_to_stop (AreRounds test l.done a.world) (IsRound b.world) (IsRoundSoFar b.world) kind (AreRoundsSoFar test count a.world) 42 l.done count (42 * count) stop a b c
    less (omega arith) (λ xs ys p here q. rounds_begun test l.done count a.world b.world xs ys less goes p here q) l.gone g

-- all are done
pub left_none : (test : World → Bool) (left count : ℕ) (a b : Moment) → left ≡ 0 → AreLeft test left count a b → Goes (AreRounds test count a.world) (AreRoundsSoFar test count a.world) (42 * count) (Ok tt) a b
left_none test left count a b none l =
    let all = l.all in
    let same : l.done ≡ count = omega arith in
    gone (AreRounds test l.done a.world) (AreRounds test count a.world) (AreRoundsSoFar test count a.world) 42 l.done count (42 * count) a b (omega arith) (λ xs p here. subst (λ n. AreRounds test n a.world xs) same p) l.gone

-- all was quiet, or there were so many
pub left_quiet : (left count : ℕ) (a b : Moment) → is_quiet b.world ≡ true → AreLeft is_quiet left count a b → Goes (AreRoundsUntilQuiet count a.world) (AreRoundsSoFar is_quiet count a.world) (42 * count) (Ok tt) a b
left_quiet left count a b quiet l =
    let all = l.all in
    let le : l.done ≤ count = omega arith in
    gone (AreRounds is_quiet l.done a.world) (AreRoundsUntilQuiet count a.world) (AreRoundsSoFar is_quiet count a.world) 42 l.done count (42 * count) a b (omega arith) (λ xs p here. rounds_quiet l.done count a.world b.world xs le quiet p here) l.gone

pub left_spent : (left count : ℕ) (a b : Moment) → left ≡ 0 → AreLeft is_quiet left count a b → Goes (AreRoundsUntilQuiet count a.world) (AreRoundsSoFar is_quiet count a.world) (42 * count) (Ok tt) a b
left_spent left count a b none l =
    let all = l.all in
    let same : l.done ≡ count = omega arith in
    gone (AreRounds is_quiet l.done a.world) (AreRoundsUntilQuiet count a.world) (AreRoundsSoFar is_quiet count a.world) 42 l.done count (42 * count) a b (omega arith) (λ xs p here. rounds_spent l.done count a.world b.world xs same p here) l.gone

-- a round is one of some
pub one_round : (most : ℕ) (a b : Moment) → 0 < most → Goes (IsRound a.world) (IsRoundSoFar a.world) 42 (Ok tt) a b → GoneThrough 1 most a b
one_round most a b some g =
    let one : (test : World → Bool) → test a.world ≡ false → (xs : List Happening) → IsRound a.world xs → AreRounds test 1 a.world xs = λ test goes xs is. (goes, (xs, [], sym (append-nil xs), is, refl)) in
    record {
      some = omega arith;
      few = omega arith;
      rounds = record { ends = record { history = g.ends.history; is_kind = one never refl g.ends.history g.ends.is_kind; world = g.ends.world; disk = g.ends.disk; told = g.ends.told }; keeps = g.keeps };
      unquiet = λ busy. record { ends = record { history = g.ends.history; is_kind = one is_quiet busy g.ends.history g.ends.is_kind; world = g.ends.world; disk = g.ends.disk; told = g.ends.told }; keeps = g.keeps };
    }
