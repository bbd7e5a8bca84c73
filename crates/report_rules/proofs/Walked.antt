-- How far a job came, and the list of the steps of its work: it came through where its moves are the first ones of that list.
use Rattle.std.proofs.Common.{◌≡◌, ℕ, suc, ◌+◌, ◌&&◌, ◌||◌, Bool, true, false, if◌then◌else◌, List, [], ◌∷◌, ◌++◌, drop, refl, ap, sym, ◌∙◌, subst, arith}
use Rattle.std.specs.Prelude.{fold, slice_get, Option, Some, None, is_none, is_some, option_and_then, IfSome, IsSomeAnd}
use Rattle.std.specs.List.{cons_option}
use Rattle.std.proofs.Math.Seq.{drop-nil}
use Rattle.std.proofs.lemmas.List.{drop-append-le}
use Rattle.std.proofs.lemmas.List.Sums.{fold-append}
use Rattle.std.proofs.lemmas.Option.{slice_get_within}
use Rattle.std.specs.Bool.{Decides}
use Rattle.std.proofs.lemmas.Bool.Decides.{Decides-like}
use Rattle.blk_base.specs.declared.moves.Move.{Move}
use Rattle.schedule_text.specs.declared.line.Line.{Line}
use Rattle.report_rules.specs.declared.work.Task.{Task}
use Rattle.report_rules.specs.declared.work.Task.TheVariants as tasks
use Rattle.report_rules.specs.declared.walk.Spot.{Spot}
use Rattle.report_rules.specs.declared.step.Step.{Step}
use Rattle.report_rules.specs.declared.job.Fetched.{Fetched}
use Rattle.report_rules.specs.Standing.{this_epoch}
use Rattle.report_rules.specs.Step.{steps_in, steps_of, is_step, is_refusal, begins_on_frame, may_be_missing, left_by, are_first_of, job_step, moves_of, work_of}
use Rattle.report_rules.specs.Walk.{step_at, is_step_at, spot, mapping_after, spot_after, is_unmapped_step, spot_in, advanced, walked, walk_of, spot_of}
use Rattle.report_rules.specs.Steps.{failed_in, IsThrough, IsNextStep, IsStepOf}
use Rattle.report_rules.proofs.StepPlaces.{at_place, drop_at, drop_past}
use Rattle.report_rules.proofs.MissingMaps.{missing_at, missing, IsSkipped, skipped}

-- the steps that are left to a job
abbrev left_at : List Task → Spot → List Step
left_at work s = if s.refused then [] else drop s.place (steps_of (drop s.done work))

abbrev IsPlaced : List Task → ℕ → ℕ → Type 0
IsPlaced work done place = IfSome (slice_get work done) (λ (t : Task). is_some (step_at t place) ≡ true)

first_placed : (o : Option Task) → IfSome o (λ (t : Task). is_some (step_at t 0) ≡ true)
first_placed None = tt
first_placed (Some (tasks.Page gref words)) = refl
first_placed (Some (tasks.Store gref mode sector first count)) = refl
first_placed (Some (tasks.Load gref sector first count)) = refl
first_placed (Some tasks.Flush) = refl
first_placed (Some (tasks.Trim sector count)) = refl

-- those past the step at a place of a task
abbrev later_steps : List Task → ℕ → Task → ℕ → List Step
later_steps work done t place = drop (suc place) (steps_in t) ++ steps_of (drop (suc done) work)

in_task : (work : List Task) (done place : ℕ) (t : Task) (x : Step) → slice_get work done ≡ Some t → step_at t place ≡ Some x → drop place (steps_of (drop done work)) ≡ drop place (steps_in t) ++ steps_of (drop (suc done) work)
in_task work done place t x found here =
    let within = slice_get_within (steps_in t) place x (at_place t place ∙ here) in
    ap (λ (w : List Task). drop place (steps_of w)) (drop_at work done t found) ∙ drop-append-le place (steps_in t) (steps_of (drop (suc done) work)) (omega arith)

at_step : (work : List Task) (done place : ℕ) (t : Task) (x : Step) → slice_get work done ≡ Some t → step_at t place ≡ Some x → drop place (steps_of (drop done work)) ≡ x ∷ later_steps work done t place
at_step work done place t x found here =
    in_task work done place t x found here ∙ ap (λ (l : List Step). l ++ steps_of (drop (suc done) work)) (drop_at (steps_in t) place x (at_place t place ∙ here))

record Goes (work : List Task) (s : Spot) (later : List Step) : Type 0 where
  left : left_at work s ≡ later
  placed : IsPlaced work s.done s.place

goes_on : (work : List Task) (done place : ℕ) (t : Task) (mapping : Option ℕ) (m : Move) → slice_get work done ≡ Some t → Goes work (spot_after done t place mapping m) (left_by m (later_steps work done t place))
goes_on work done place t mapping m found = by_next (step_at t (place + 1)) refl
  where
    next : place + 1 ≡ suc place
    next = omega arith

    over : done + 1 ≡ suc done
    over = omega arith

    by_next : (o : Option Step) → step_at t (place + 1) ≡ o → Goes work (if is_none o then spot (done + 1) 0 (is_refusal m) None else spot done (place + 1) (is_refusal m) (mapping_after mapping m)) (left_by m (later_steps work done t place))
    by_next None e =
        let none : drop (suc place) (steps_in t) ≡ [] = drop_past (steps_in t) (suc place) (at_place t (suc place) ∙ (ap (step_at t) (sym next) ∙ e)) in
        record {
          left = ap (λ (l : List Step). if is_refusal m then [] else l) (ap (λ (n : ℕ). steps_of (drop n work)) over ∙ sym (ap (λ (l : List Step). l ++ steps_of (drop (suc done) work)) none));
          placed = first_placed (slice_get work (done + 1));
        }
    by_next (Some y) e =
        let here : step_at t (suc place) ≡ Some y = ap (step_at t) (sym next) ∙ e in
        let some : is_some (step_at t (place + 1)) ≡ true = ap (λ (o : Option Step). is_some o) e in
        record {
          left = ap (λ (l : List Step). if is_refusal m then [] else l) (ap (λ (n : ℕ). drop n (steps_of (drop done work))) next ∙ in_task work done (suc place) t y found here);
          placed = subst (λ (o : Option Task). IfSome o (λ (u : Task). is_some (step_at u (place + 1)) ≡ true)) (sym found) some;
        }

-- the walk over moves
abbrev walks : Bool → List Task → Option Spot → List Move → Option Spot
walks persistent work s moves = fold (λ (o : Option Spot) (m : Move). option_and_then (advanced persistent work m) o) s moves

walks_none : (persistent : Bool) (work : List Task) (moves : List Move) → walks persistent work None moves ≡ None
walks_none persistent work [] = refl
walks_none persistent work (m ∷ moves) = walks_none persistent work moves

and_all : (a b c : Bool) → (a && b) ≡ true → (a && b && c) ≡ c
and_all true true c e = refl
and_all true false c e = absurd (cc)
and_all false b c e = absurd (cc)

and_none : (a b c : Bool) → (a && b) ≡ false → (a && b && c) ≡ false
and_none true true c e = absurd (cc)
and_none true false c e = refl
and_none false b c e = refl

abbrev Agrees : Bool → List Task → List Move → Type 0
Agrees persistent work moves = (s : Spot) → IsPlaced work s.done s.place → is_some (walks persistent work (Some s) moves) ≡ are_first_of persistent moves (left_at work s)

-- one move more, at a step of a task
step_agrees : (persistent : Bool) (work : List Task) (m : Move) (moves : List Move) (done place : ℕ) (mapping : Option ℕ) (t : Task) (x : Step) → slice_get work done ≡ Some t → step_at t place ≡ Some x → Agrees persistent work moves
    → is_some (walks persistent work (spot_in persistent done (Some t) place mapping m) moves) ≡ are_first_of persistent (m ∷ moves) (drop place (steps_of (drop done work)))
step_agrees persistent work m moves done place mapping t x found here agrees =
    ap (λ (o : Option Step). is_some (walks persistent work (if is_step_at o m then Some (spot_after done t place mapping m) else (if is_unmapped_step persistent t place m then Some (spot_after done t 1 mapping m) else None)) moves)) here
    ∙ (by_tests (is_step x m) (is_unmapped_step persistent t place m) refl
    ∙ sym (ap (are_first_of persistent (m ∷ moves)) (at_step work done place t x found here)))
  where
    later : List Step
    later = later_steps work done t place

    may : is_unmapped_step persistent t place m ≡ (may_be_missing persistent x && begins_on_frame (later_steps work done t place) m)
    may = missing persistent t place (drop (suc done) work) m ∙ ap (λ (o : Option Step). missing_at persistent o && begins_on_frame (later_steps work done t place) m) here

    taken : Goes work (spot_after done t place mapping m) (left_by m (later_steps work done t place))
    taken = goes_on work done place t mapping m found

    past : is_unmapped_step persistent t place m ≡ true → are_first_of persistent moves (left_by m (later_steps work done t 1)) ≡ are_first_of persistent moves (left_by m (drop 1 (later_steps work done t place)))
    past u =
        let s : IsSkipped t place m = skipped persistent t place m u in
        by_second (step_at t 1) refl s.first s.second
      where
        by_second : (o : Option Step) → step_at t 1 ≡ o → place ≡ 0 → is_step_at o m ≡ true → are_first_of persistent moves (left_by m (later_steps work done t 1)) ≡ are_first_of persistent moves (left_by m (drop 1 (later_steps work done t place)))
        by_second None e first is = absurd (cc)
        by_second (Some y) e first is =
            sym (ap (λ (n : ℕ). are_first_of persistent moves (left_by m (drop 1 (later_steps work done t n)))) first
            ∙ ap (λ (l : List Step). are_first_of persistent moves (left_by m (drop 1 (l ++ steps_of (drop (suc done) work))))) (drop_at (steps_in t) 1 y (at_place t 1 ∙ e)))

    by_tests : (b u : Bool) → is_unmapped_step persistent t place m ≡ u → is_some (walks persistent work (if b then Some (spot_after done t place mapping m) else (if u then Some (spot_after done t 1 mapping m) else None)) moves)
        ≡ (if b then are_first_of persistent moves (left_by m (later_steps work done t place)) else (may_be_missing persistent x && begins_on_frame (later_steps work done t place) m && are_first_of persistent moves (left_by m (drop 1 (later_steps work done t place)))))
    by_tests true u e = agrees (spot_after done t place mapping m) taken.placed ∙ ap (are_first_of persistent moves) taken.left
    by_tests false true e =
        let g : Goes work (spot_after done t 1 mapping m) (left_by m (later_steps work done t 1)) = goes_on work done 1 t mapping m found in
        agrees (spot_after done t 1 mapping m) g.placed
        ∙ (ap (are_first_of persistent moves) g.left
        ∙ (past e ∙ sym (and_all (may_be_missing persistent x) (begins_on_frame (later_steps work done t place) m) _ (sym may ∙ e))))
    by_tests false false e = ap (λ (o : Option Spot). is_some o) (walks_none persistent work moves) ∙ sym (and_none (may_be_missing persistent x) (begins_on_frame (later_steps work done t place) m) _ (sym may ∙ e))

agree : (persistent : Bool) (work : List Task) (moves : List Move) → Agrees persistent work moves
agree persistent work [] s placed = refl
agree persistent work (m ∷ moves) s placed = by_refused s.refused (slice_get work s.done) refl placed (agree persistent work moves)
  where
    none : is_some (walks persistent work None moves) ≡ false
    none = ap (λ (o : Option Spot). is_some o) (walks_none persistent work moves)

    by_refused : (r : Bool) (o : Option Task) → slice_get work s.done ≡ o → IfSome o (λ (t : Task). is_some (step_at t s.place) ≡ true) → Agrees persistent work moves
        → is_some (walks persistent work (if r then None else spot_in persistent s.done o s.place s.mapping m) moves) ≡ are_first_of persistent (m ∷ moves) (if r then [] else drop s.place (steps_of (drop s.done work)))
    by_refused true o found here agrees = none
    by_refused false None found here agrees =
        let nothing : drop s.place (steps_of (drop s.done work)) ≡ [] = ap (λ (w : List Task). drop s.place (steps_of w)) (drop_past work s.done found) ∙ drop-nil s.place in
        none ∙ sym (ap (are_first_of persistent (m ∷ moves)) nothing)
    by_refused false (Some t) found here agrees = by_step (step_at t s.place) refl here
      where
        by_step : (x : Option Step) → step_at t s.place ≡ x → is_some x ≡ true → is_some (walks persistent work (spot_in persistent s.done (Some t) s.place s.mapping m) moves) ≡ are_first_of persistent (m ∷ moves) (drop s.place (steps_of (drop s.done work)))
        by_step None e h = absurd (cc)
        by_step (Some x) e h = step_agrees persistent work m moves s.done s.place s.mapping t x found e agrees

moves_walked : (persistent : Bool) (work : List Task) (k : ℕ) (epoch : List Line) (s : Option Spot) → fold (λ (o : Option Spot) (line : Line). walked persistent work (job_step k line) o) s epoch ≡ walks persistent work s (moves_of k epoch)
moves_walked persistent work k [] s = refl
moves_walked persistent work k (line ∷ epoch) s = by_move (job_step k line) (moves_walked persistent work k epoch)
  where
    by_move : (move : Option Move) → ((o : Option Spot) → fold (λ (p : Option Spot) (l : Line). walked persistent work (job_step k l) p) o epoch ≡ walks persistent work o (moves_of k epoch))
        → fold (λ (o : Option Spot) (l : Line). walked persistent work (job_step k l) o) (walked persistent work move s) epoch ≡ walks persistent work s (cons_option move (moves_of k epoch))
    by_move None same = same s
    by_move (Some m) same = same (option_and_then (advanced persistent work m) s)

-- a move takes a job on where with it the job's moves are the first ones of the steps of its work
pub first_moves : (persistent : Bool) (work : List Task) (k : ℕ) (epoch : List Line) (move : Move) → is_some (option_and_then (advanced persistent work move) (walk_of persistent work k epoch)) ≡ are_first_of persistent (moves_of k epoch ++ move ∷ []) (steps_of work)
first_moves persistent work k epoch move =
    let start : Spot = spot 0 0 false None in
    ap (λ (o : Option Spot). is_some (option_and_then (advanced persistent work move) o)) (moves_walked persistent work k epoch (Some start))
    ∙ (ap (λ (o : Option Spot). is_some o) (sym (fold-append (λ (o : Option Spot) (m : Move). option_and_then (advanced persistent work m) o) (Some start) (moves_of k epoch) (move ∷ [])))
    ∙ agree persistent work (moves_of k epoch ++ move ∷ []) start (first_placed (slice_get work 0)))

-- the mapping of a job's next step
abbrev pub ThroughOf : List Line → List Task → Move → Option Spot → Type 0
ThroughOf before work move o = IsSomeAnd o (λ (s : Spot). IsSomeAnd (slice_get work s.done) (λ (t : Task). IsThrough before t s move))

abbrev pub NextOf : List Line → Bool → List Task → Move → Option Spot → Type 0
NextOf before persistent work move o = IsSomeAnd o (λ (s : Spot). IsSomeAnd (slice_get work s.done) (IsNextStep before persistent s move))

some_of : {X : Type 0} (a b : Bool) (x y : X) → (a || b) ≡ true → is_some (if a then Some x else (if b then Some y else None)) ≡ true
some_of true b x y e = refl
some_of false true x y e = refl
some_of false false x y e = absurd (cc)

of_some : {X : Type 0} (a b : Bool) (x y : X) → is_some (if a then Some x else (if b then Some y else None)) ≡ true → (a || b) ≡ true
of_some true b x y e = refl
of_some false true x y e = refl
of_some false false x y e = absurd (cc)

next_goes : (before : List Line) (persistent : Bool) (work : List Task) (move : Move) (o : Option Spot) → NextOf before persistent work move o → (is_some (option_and_then (advanced persistent work move) o) ≡ true) × ThroughOf before work move o
next_goes before persistent work move None next = absurd next
next_goes before persistent work move (Some s) next = by_task (slice_get work s.done) next
  where
    by_task : (t : Option Task) → IsSomeAnd t (IsNextStep before persistent s move) → (is_some (if s.refused then None else spot_in persistent s.done t s.place s.mapping move) ≡ true) × IsSomeAnd t (λ (u : Task). IsThrough before u s move)
    by_task None next = absurd next
    by_task (Some t) next =
        let free = next.unrefused in
        (rw free (some_of (is_step_at (step_at t s.place) move) (is_unmapped_step persistent t s.place move) _ _ next.step), next.through)

goes_next : (before : List Line) (persistent : Bool) (work : List Task) (move : Move) (o : Option Spot) → is_some (option_and_then (advanced persistent work move) o) ≡ true → ThroughOf before work move o → NextOf before persistent work move o
goes_next before persistent work move None is through = absurd through
goes_next before persistent work move (Some s) is through = by_task s.refused (slice_get work s.done) refl is through
  where
    by_task : (r : Bool) (t : Option Task) → s.refused ≡ r → is_some (if r then None else spot_in persistent s.done t s.place s.mapping move) ≡ true → IsSomeAnd t (λ (u : Task). IsThrough before u s move) → IsSomeAnd t (IsNextStep before persistent s move)
    by_task r None free is through = absurd through
    by_task true (Some t) free is through = absurd (cc)
    by_task false (Some t) free is through = record { unrefused = free; step = of_some (is_step_at (step_at t s.place) move) (is_unmapped_step persistent t s.place move) _ _ is; through = through }

-- what one move is, and what the moves are with it
pub step_of_next : (before : List Line) (k : ℕ) (move : Move) (f : Fetched) → NextOf before f.persistent (work_of before k f) move (spot_of before k f) → failed_in k (this_epoch before) ≡ false → IsStepOf before k move f
step_of_next before k move f next whole =
    let both = next_goes before f.persistent (work_of before k f) move (spot_of before k f) next in
    record { first = sym (first_moves f.persistent (work_of before k f) k (this_epoch before) move) ∙ both.0; through = both.1; whole = whole }

pub next_of_step : (before : List Line) (k : ℕ) (move : Move) (f : Fetched) → IsStepOf before k move f → NextOf before f.persistent (work_of before k f) move (spot_of before k f)
next_of_step before k move f s = goes_next before f.persistent (work_of before k f) move (spot_of before k f) (first_moves f.persistent (work_of before k f) k (this_epoch before) move ∙ s.first) s.through

pub step_decides : (before : List Line) (k : ℕ) (move : Move) (f : Fetched) (epoch : List Line) (work : List Task) (s : Option Spot) (next : Bool) → epoch ≡ this_epoch before → work ≡ work_of before k f → s ≡ walk_of f.persistent work k epoch → failed_in k epoch ≡ false
    → Decides next (NextOf before f.persistent work move s) → Decides next (IsStepOf before k move f)
step_decides before k move f epoch work s next epoch_is work_is s_is whole decides =
    let at : s ≡ spot_of before k f = s_is ∙ (ap (λ (w : List Task). walk_of f.persistent w k epoch) work_is ∙ ap (λ (e : List Line). walk_of f.persistent (work_of before k f) k e) epoch_is) in
    let same : NextOf before f.persistent work move s ≡ NextOf before f.persistent (work_of before k f) move (spot_of before k f) = ap (λ (w : List Task). NextOf before f.persistent w move s) work_is ∙ ap (λ (o : Option Spot). NextOf before f.persistent (work_of before k f) move o) at in
    Decides-like next (λ n. step_of_next before k move f (subst (λ (A : Type 0). A) same n) (ap (failed_in k) (sym epoch_is) ∙ whole)) (λ step. subst (λ (A : Type 0). A) (sym same) (next_of_step before k move f step)) decides
