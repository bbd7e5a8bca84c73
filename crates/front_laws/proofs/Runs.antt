-- Over each history of a front: a rule that each of its moves obeys is one that the whole trace obeys.
use Rattle.std.proofs.Common.{◌≡◌, ℕ, ◌+◌, ◌==◌, ◌&&◌, not, Bool, true, false, if◌then◌else◌, List, [], ◌∷◌, ◌++◌, length, drop, map, refl, sym, subst, arith}
use Rattle.std.specs.Prelude.{Option, Some, None, Result, Err, nat_lt, nat_le}
use Rattle.std.proofs.lemmas.List.{length-replicate}
use Rattle.std.proofs.Math.Seq.{drop-append_seam}
use Rattle.blk_base.specs.Options.{Options}
use Rattle.blk_base.specs.declared.config.Submission.{Submission}
use Rattle.blk_base.specs.declared.ask.FrontAnswer.{FrontAnswer}
use Rattle.ring_words.specs.Shape.{entries_of}
use Rattle.blk_front.specs.declared.request.Request.{Request}
use Rattle.blk_front.specs.declared.request.Wish.{Wish}
use Rattle.blk_front.specs.declared.state.FrontState.{FrontState}
use Rattle.blk_base.specs.declared.refusal.Refusal.{Refusal}
use Rattle.blk_base.specs.declared.refusal.Refusal.TheVariants as refusal
use Rattle.blk_front.specs.Pool.{taking}
use Rattle.blk_front.specs.Request.{is_write, named_of, frames_for}
use Rattle.blk_front.specs.State.{is_open, may_enter, in_state}
use Rattle.blk_front.specs.Submit.{is_ready, unfinished, wish_of, most_segments, frames_taken, request_with, accepted, submit_with, submit_one, submit_of}
use Rattle.blk_front.specs.Suspend.{resumed}
use Rattle.blk_front.specs.View.{View, start_of}
use Rattle.blk_front.specs.Ask.{ask_of, IsAnswer}
use Rattle.blk_front.specs.Step.{step_of}
use Rattle.front_laws.specs.History.{Happening, Answered, TakesTold, Submits, Enters, Suspends, MayHappen, MayAllHappen, happened, after, Line, Asked, Submitted, Entered, Suspended, lines_of, trace_of}
use Rattle.front_laws.specs.Sight.{Sight, nothing_seen, after_line, Each}
use Rattle.front_laws.specs.Told.{IsToldWhereDue}
use Rattle.front_laws.specs.Laws.{IsRing}
use Rattle.front_laws.proofs.Known.{Knows}
use Rattle.front_laws.proofs.Steps.{stage_goes}
use Rattle.front_laws.proofs.Others.{accepts_at}
use Rattle.front_laws.proofs.Changes.{known_open, ready_open, known_told, enters_at, suspends}

nothing_new : (l : List Request) → drop (length l) l ≡ []
nothing_new [] = refl
nothing_new (r ∷ l) = nothing_new l

-- a submission is refused, and changes nothing; or it is accepted
pub submit_cases : (P : View → Type 0) (v : View) (submission : Submission) → P v
    → (is_ready v.stage ≡ true → (wish : Wish) → wish_of v.offers submission ≡ Some wish → (taken : List ℕ × List Bool) → taking (frames_taken wish.count) v.pool [] ≡ Some taken → P (accepted v wish taken))
    → P (submit_of v submission).1
submit_cases P v submission same more =
    either (v.last == 4294967295) (Err refusal.Spent, v) unless_closing same
    (either v.closing (Err refusal.Closing, v) unless_unready same (by_ready (not (is_ready v.stage)) refl))
  where
    unless_unready : Result ℕ Refusal × View
    unless_unready = if not (is_ready v.stage) then (Err refusal.NotReady, v) else submit_one v (wish_of v.offers submission)

    unless_closing : Result ℕ Refusal × View
    unless_closing = if v.closing then (Err refusal.Closing, v) else unless_unready

    either : (b : Bool) (x y : Result ℕ Refusal × View) → P x.1 → P y.1 → P (if b then x else y).1
    either true x y p q = p
    either false x y p q = q

    by_frames : is_ready v.stage ≡ true → (wish : Wish) → wish_of v.offers submission ≡ Some wish → (o : Option (List ℕ × List Bool)) → taking (frames_taken wish.count) v.pool [] ≡ o → P (submit_with v wish o).1
    by_frames ready wish is None e = same
    by_frames ready wish is (Some taken) e = more ready wish is taken e

    by_wish : is_ready v.stage ≡ true → (wish : Option Wish) → wish_of v.offers submission ≡ wish → P (submit_one v wish).1
    by_wish ready None is = same
    by_wish ready (Some wish) is =
        let frames = taking (frames_taken wish.count) v.pool [] in
        let unless_full = if nat_le (entries_of v.shape.order) (unfinished v) then (Err refusal.Full, v) else submit_with v wish frames in
        let unless_long = if nat_lt (most_segments v.offers wish.transfer) (frames_for wish.count) then (Err refusal.Long, v) else unless_full in
        either (is_write wish.transfer && v.offers.read_only) (Err refusal.ReadOnly, v) (if nat_lt v.offers.sectors (wish.sector + named_of wish.transfer wish.count) then (Err refusal.Range, v) else unless_long) same
        (either (nat_lt v.offers.sectors (wish.sector + named_of wish.transfer wish.count)) (Err refusal.Range, v) unless_long same
        (either (nat_lt (most_segments v.offers wish.transfer) (frames_for wish.count)) (Err refusal.Long, v) unless_full same
        (either (nat_le (entries_of v.shape.order) (unfinished v)) (Err refusal.Full, v) (submit_with v wish frames) same (by_frames ready wish is frames refl))))

    by_ready : (b : Bool) → not (is_ready v.stage) ≡ b → P (if b then (Err refusal.NotReady, v) else submit_one v (wish_of v.offers submission)).1
    by_ready true e = same
    by_ready false e = by_wish (was (is_ready v.stage) e) (wish_of v.offers submission) refl
      where
        was : (b : Bool) → not b ≡ false → b ≡ true
        was true e = refl
        was false e = sym e

-- what the lines tell after these
abbrev pub after_lines : Sight → List Line → Sight
after_lines s [] = s
after_lines s (line ∷ lines) = after_lines (after_line s line) lines

each_joined : (Rule : Sight → Line → Type 0) (s : Sight) (some more : List Line) → Each Rule s some → Each Rule (after_lines s some) more → Each Rule s (some ++ more)
each_joined Rule s [] more each rest = rest
each_joined Rule s (line ∷ some) more each rest = (each.0, each_joined Rule (after_line s line) some more each.1 rest)

-- a rule that each move obeys whose ask is answered, and each other line
pub record IsKept (Rule : Sight → Line → Type 0) : Type 0 where
  pub moves : (s : Sight) (v : View) (a : FrontAnswer) → v.told ≡ None → Knows s v → IsAnswer (ask_of v) a → Rule s (Asked (ask_of v) a (step_of v a).told)
  pub submits : (s : Sight) (r : Request) → Rule s (Submitted r)
  pub enters : (s : Sight) (st : FrontState) → Rule s (Entered st)
  pub suspends : (s : Sight) → Rule s Suspended

-- what the lines tell of a front is what it has, after a move
pub moves_known : (s : Sight) (v : View) (a : FrontAnswer) → v.told ≡ None → Knows s v → IsAnswer (ask_of v) a → Knows (after_line s (Asked (ask_of v) a (step_of v a).told)) (step_of v a)
moves_known s v a quiet known is = (stage_goes s v quiet v.stage a refl known is).knows

module _ (Rule : Sight → Line → Type 0) (kept : IsKept Rule) where
  -- these lines obey it, and the lines still tell what the front has
  abbrev Obeys : Sight → List Line → View → Type 0
  Obeys s lines x = Each Rule s lines × Knows (after_lines s lines) x

  obeys_submit : (s : Sight) (v : View) (submission : Submission) → Knows s v → Obeys s (lines_of (Submits submission) v) (happened (Submits submission) v)
  obeys_submit s v submission known =
      submit_cases (λ (x : View). Obeys s (map Submitted (drop (length v.requests) x.requests)) x) v submission
      (subst (λ (l : List Request). Obeys s (map Submitted l) v) (sym (nothing_new v.requests)) (tt, known))
      (λ ready wish is taken took.
      let i = known_open v.stage s v (ready_open v.stage ready) known in
      subst (λ (l : List Request). Obeys s (map Submitted l) (accepted v wish taken)) (sym (drop-append_seam v.requests (request_with v wish taken.0 ∷ [])))
      ((kept.submits s (request_with v wish taken.0), tt), accepts_at s v i.agree i.sized wish taken took v.stage ready known))

  obeys_state : (s : Sight) (v : View) (st : FrontState) → Knows s v → Obeys s (lines_of (Enters st) v) (happened (Enters st) v)
  obeys_state s v st known = by_test (may_enter st v) refl
    where
      by_test : (b : Bool) → may_enter st v ≡ b → Obeys s (if b then Entered st ∷ [] else []) (if b then in_state st v else v)
      by_test true may = ((kept.enters s st, tt), enters_at st s v may known)
      by_test false may = (tt, known)

  obeys_suspend : (s : Sight) (v : View) → Knows s v → Obeys s (lines_of Suspends v) (happened Suspends v)
  obeys_suspend s v known = by_test (is_open v.stage) refl
    where
      by_test : (b : Bool) → is_open v.stage ≡ b → Obeys s (if b then Suspended ∷ [] else []) (if b then resumed v else v)
      by_test true opened = ((kept.suspends s, tt), suspends s v opened known)
      by_test false opened = (tt, known)

  obeys : (h : Happening) (s : Sight) (v : View) → MayHappen h v → Knows s v → Obeys s (lines_of h v) (happened h v)
  obeys (Answered a) s v may known = ((kept.moves s v a may.1 known may.0, tt), moves_known s v a may.1 known may.0)
  obeys TakesTold s v may known = (tt, known_told v.stage s v known)
  obeys (Submits submission) s v may known = obeys_submit s v submission known
  obeys (Enters st) s v may known = obeys_state s v st known
  obeys Suspends s v may known = obeys_suspend s v known

  pub runs : (history : List Happening) (s : Sight) (v : View) → MayAllHappen history v → Knows s v → Each Rule s (trace_of history v)
  runs [] s v may known = tt
  runs (h ∷ history) s v may known =
      let now = obeys h s v may.0 known in
      each_joined Rule s (lines_of h v) (trace_of history (happened h v)) now.0 (runs history (after_lines s (lines_of h v)) (happened h v) may.1 now.1)

joined_lines : (s : Sight) (some more : List Line) → after_lines s (some ++ more) ≡ after_lines (after_lines s some) more
joined_lines s [] more = refl
joined_lines s (line ∷ some) more = joined_lines (after_line s line) some more

-- what the lines tell of a front is what it has, after any history
any_line : IsKept (λ (s : Sight) (line : Line). Unit {0})
any_line = record { moves = λ s v a quiet known is. tt; submits = λ s r. tt; enters = λ s st. tt; suspends = λ s. tt }

pub runs_known : (history : List Happening) (s : Sight) (v : View) → MayAllHappen history v → Knows s v → Knows (after_lines s (trace_of history v)) (after history v)
runs_known [] s v may known = known
runs_known (h ∷ history) s v may known =
    let now = obeys (λ (s : Sight) (line : Line). Unit {0}) any_line h s v may.0 known in
    let rest = runs_known history (after_lines s (lines_of h v)) (happened h v) may.1 now.1 in
    subst (λ (m : Sight). Knows m (after history (happened h v))) (sym (joined_lines s (lines_of h v) (trace_of history (happened h v)))) rest

-- from its construction on
pub starts : (config : Options) → IsRing config → Knows (nothing_seen config) (start_of config)
starts config ring = record {
  agree = record {
    start = refl;
    shape = refl;
    prod = refl;
    cons = refl;
    small = ring.start;
    word = ring.start;
    few = ring.order;
    waits = omega arith;
    issued = refl;
    fine = λ k d lt. absurd (omega arith);
    ascending = λ i j d lt within. absurd (omega arith);
    submitted = λ k d lt. absurd (omega arith);
    answered = λ k d lt. absurd (omega arith);
    once = λ i j d lt within. absurd (omega arith);
  };
  sized = record { frames = length-replicate {A = Bool} 1000 false; sector = length-replicate {A = ℕ} 128 0 };
  at = (omega arith, (refl, refl, refl), record { entry = refl; response = refl; taken = refl; read = refl });
}

pub each_obeys : (Rule : Sight → Line → Type 0) → IsKept Rule → (config : Options) (history : List Happening) → IsRing config → MayAllHappen history (start_of config) → Each Rule (nothing_seen config) (trace_of history (start_of config))
each_obeys Rule kept config history ring may = runs Rule kept history (nothing_seen config) (start_of config) may (starts config ring)

-- what is due is told
pub tells_where_due : IsKept IsToldWhereDue
tells_where_due = record {
  moves = λ s v a quiet known is. (stage_goes s v quiet v.stage a refl known is).told;
  submits = λ s r. tt;
  enters = λ s st. tt;
  suspends = λ s. tt;
}
