-- A job's line, and those that tell of it, obey the rules on jobs.
use Rattle.std.proofs.Common.{◌≡◌, ℕ, ◌+◌, ◌==◌, ◌||◌, Bool, true, false, if◌then◌else◌, List, [], ◌∷◌, count_by, refl, ap, sym, ◌∙◌, subst, arith}
use Rattle.std.specs.Prelude.{Option, Some, None, IfSome, IsSomeAnd, option_and_then, slice_get}
use Rattle.std.proofs.lemmas.Bool.Decides.{nat_tests}
use Rattle.std.proofs.lemmas.Option.{none-some, same_Some}
use Rattle.blk_base.specs.declared.moves.BackMover.TheVariants as back
use Rattle.blk_base.specs.declared.moves.Move.{Move}
use Rattle.blk_base.specs.declared.moves.Move.TheVariants as moves
use Rattle.segment_list.specs.declared.verdict.DiskInfo.{DiskInfo}
use Rattle.schedule_text.specs.declared.line.Line.{Line}
use Rattle.schedule_text.specs.declared.line.Line.TheVariants as lines
use Rattle.report_rules.specs.declared.work.Task.{Task}
use Rattle.report_rules.specs.declared.walk.Spot.{Spot}
use Rattle.report_rules.specs.declared.job.Fetched.{Fetched}
use Rattle.report_rules.specs.Standing.{is_epoch, this_epoch}
use Rattle.report_rules.specs.Work.{work_tasks}
use Rattle.report_rules.specs.Job.{fetched_of, id_of, disk_moves_of}
use Rattle.report_rules.specs.Published.{info_told}
use Rattle.report_rules.specs.Step.{stepper, values_read, work_of}
use Rattle.report_rules.specs.Walk.{step_at, is_step_at, spot_after, is_unmapped_step, spot_in, advanced, walk_of, spot_of}
use Rattle.report_rules.specs.Steps.{gref_of, touched_by, IsKeptFor, IsThrough, IsNextStep, IsStepOf, IsStepAt}
use Rattle.report_rules.specs.Data.{IsDataAt}
use Rattle.report_rules.specs.declared.effect.DiskCall.{DiskCall}
use Rattle.report_rules.specs.Effect.{disk_move, disk_move_of, disk_move_shown, IsEffectAt}
use Rattle.blk_back.specs.View.{info_of as back_info}
use Rattle.report_rules.proofs.Walked.{step_of_next}
use Rattle.ring_laws.proofs.JobLines.{is_disk_of}
use Rattle.ring_laws.proofs.Places.{IsStepOn}
use Rattle.ring_laws.proofs.JobSteps.{IsDataBy, Steps}
use Rattle.ring_laws.proofs.Began.{Terms, request_at}
use Rattle.ring_laws.proofs.Bystanders.{IsRule, KeepsNone, is_plain, if_some, some_and, no_effect}
use Rattle.ring_laws.proofs.Fetched.{fetched_in}

-- a move that takes a job on is the next step of its next task
record IsTaking (work : List Task) (s : Spot) (shown : Move) : Type 0 where
  unrefused : s.refused ≡ false
  task : Task
  found : slice_get work s.done ≡ Some task
  step : is_step_at (step_at task s.place) shown ≡ true

taking : (work : List Task) (s after : Spot) (shown : Move) → advanced false work shown s ≡ Some after → IsTaking work s shown
taking work s after shown e = by_refused s.refused (slice_get work s.done) refl refl e
  where
    by_step : (task : Task) (b : Bool) → s.refused ≡ false → slice_get work s.done ≡ Some task → is_step_at (step_at task s.place) shown ≡ b → (if b then Some (spot_after s.done task s.place s.mapping shown) else None) ≡ Some after → IsTaking work s shown
    by_step task true p q is h = record { unrefused = p; task = task; found = q; step = is }
    by_step task false p q is h = absurd (cc)

    by_refused : (r : Bool) (o : Option Task) → s.refused ≡ r → slice_get work s.done ≡ o → (if r then None else spot_in false s.done o s.place s.mapping shown) ≡ Some after → IsTaking work s shown
    by_refused true o p q h = absurd (cc)
    by_refused false None p q h = absurd (cc)
    by_refused false (Some task) p q h = by_step task (is_step_at (step_at task s.place) shown) p q refl h

-- it goes through the mapping in hand, and no map is missing
through_hand : (before : List Line) (task : Task) (s : Spot) (shown : Move) → is_step_at (step_at task s.place) shown ≡ true → IfSome (touched_by shown) (λ (number : ℕ). s.mapping ≡ Some number) → IsThrough before task s shown
through_hand before task s shown step hand = record {
  same = by_mapping s.mapping (touched_by shown) hand;
  kept = λ none. by_touch (touched_by shown) hand none;
  stands = λ first other. absurd (first_step s.place first step other);
}
  where
    same_some : (a b : ℕ) → Some a ≡ Some b → b ≡ a
    same_some a b e = cc

    by_mapping : (mapping touched : Option ℕ) → IfSome touched (λ (number : ℕ). mapping ≡ Some number) → IfSome mapping (λ mine. IfSome touched (λ number. number ≡ mine))
    by_mapping None touched h = tt
    by_mapping (Some mine) None h = tt
    by_mapping (Some mine) (Some number) h = same_some mine number h

    by_touch : (touched : Option ℕ) → IfSome touched (λ (number : ℕ). s.mapping ≡ Some number) → s.mapping ≡ None → IfSome touched (IsKeptFor before (gref_of task))
    by_touch None h none = tt
    by_touch (Some number) h none = absurd (cc)

    first_step : (place : ℕ) → (place == 0) ≡ true → is_step_at (step_at task place) shown ≡ true → is_step_at (step_at task 0) shown ≡ false → ⊥
    first_step place first is other =
        let zero_place : place ≡ 0 = grind (arith, nat_tests) in
        let here : is_step_at (step_at task 0) shown ≡ true = ap (λ (n : ℕ). is_step_at (step_at task n) shown) (sym zero_place) ∙ is in
        cc

step_rule : (terms : Terms) (before : List Line) (values : List ℕ) (k : ℕ) (shown : Move) (work : List Task) → fetched_of before k ≡ Some (fetched_in terms values k) → work_tasks (request_at terms.abi values k) (back_info terms.config) false (values_read before k) ≡ work
    → stepper (lines.Move shown) ≡ Some k → Steps work k (this_epoch before) shown → IsStepAt before (lines.Move shown)
step_rule terms before values k shown work asked plan own s =
    let on : IsStepOn work k (this_epoch before) shown = s.on in
    let takes : IsTaking work on.here shown = taking work on.here on.after shown (sym (ap (λ (o : Option Spot). option_and_then (advanced false work shown) o) on.came) ∙ on.taken) in
    let same : work_of before k (fetched_in terms values k) ≡ work = plan in
    let at : spot_of before k (fetched_in terms values k) ≡ Some on.here = ap (λ (w : List Task). walk_of false w k (this_epoch before)) same ∙ on.came in
    let next : IsNextStep before false on.here shown takes.task = record { unrefused = takes.unrefused; step = ap (λ (b : Bool). b || is_unmapped_step false takes.task (let h : Spot = on.here in h.place) shown) takes.step; through = through_hand before takes.task on.here shown takes.step on.hand } in
    let of_request : IsStepOf before k shown (fetched_in terms values k) = step_of_next before k shown (fetched_in terms values k) (some_and _ at (some_and _ (ap (λ (w : List Task). slice_get w (let h : Spot = on.here in h.done)) same ∙ takes.found) next)) on.whole in
    if_some _ own (some_and _ asked of_request)

data_rule : (before : List Line) (k : ℕ) (shown : Move) → stepper (lines.Move shown) ≡ Some k → IsDataBy k (this_epoch before) shown → IsDataAt before (lines.Move shown)
data_rule before k (moves.Write (back.Job j) number frame word value) own moved = subst (λ (n : ℕ). IsDataBy n (this_epoch before) (moves.Write (back.Job j) number frame word value)) (sym (same_Some j k own)) moved
data_rule before k shown own moved = tt

-- a step of a job
pub own_rule : (terms : Terms) (before : List Line) (values : List ℕ) (k : ℕ) (shown : Move) (work : List Task) → disk_move_shown before ≡ None → fetched_of before k ≡ Some (fetched_in terms values k) → work_tasks (request_at terms.abi values k) (back_info terms.config) false (values_read before k) ≡ work
    → is_plain (lines.Move shown) ≡ true → stepper (lines.Move shown) ≡ Some k → Steps work k (this_epoch before) shown → IsRule before (lines.Move shown)
own_rule terms before values k shown work quiet asked plan plain own s = record {
  step = step_rule terms before values k shown work asked plan own s;
  moved = data_rule before k shown own s.moved;
  effect = no_effect before (lines.Move shown) quiet refl;
}

-- what a line that tells of a move of the disk is
pub record IsTold (shown : Move) (k id index : ℕ) (line : Line) : Type 0 where
  pub same_epoch : is_epoch line ≡ false
  pub keeps : KeepsNone line
  pub tells : (info : DiskInfo) → info_told info line ≡ info
  pub still : disk_move_of line ≡ None
  pub unstepped : stepper line ≡ None
  pub step : (before : List Line) → IsStepAt before line
  pub moved : (before : List Line) → IsDataAt before line
  pub effect : (before : List Line) → disk_move_shown before ≡ disk_move_of (lines.Move shown) → IsSomeAnd (fetched_of before k) (λ (f : Fetched). id_of f.request ≡ id) → index + 1 ≡ disk_moves_of before k → IsEffectAt before line

-- the lines after a job's own: one for a move of the disk, and none else
pub data ToldBy (epoch : List Line) (shown : Move) (k id index : ℕ) (told : List Line) : Type 0 where
  nothing : disk_move_of (lines.Move shown) ≡ None → told ≡ [] → ToldBy epoch shown k id index told
  one : (line : Line) → told ≡ line ∷ [] → IsTold shown k id index line → is_disk_of k (lines.Move shown) ≡ true → count_by (is_disk_of k) epoch ≡ index → ToldBy epoch shown k id index told

pub effect_done : (k sector id index : ℕ) → IsTold (moves.DiskWrite k sector) k id index (lines.Effect id index)
effect_done k sector id index =
    record { same_epoch = refl; keeps = λ s none. none; tells = λ info. refl; still = refl; unstepped = refl; step = λ before. tt; moved = λ before. tt; effect = λ before shows request place. record { told = if_some _ shows (record { done = refl; request = request; place = place }); only = λ some none. absurd (cc) } }

pub effect_given : (k sector id index : ℕ) (words : List ℕ) → IsTold (moves.DiskRead k sector) k id index (lines.EffectRead id index words)
effect_given k sector id index words =
    record { same_epoch = refl; keeps = λ s none. none; tells = λ info. refl; still = refl; unstepped = refl; step = λ before. tt; moved = λ before. tt; effect = λ before shows request place. record { told = if_some _ shows (record { done = refl; request = request; place = place }); only = λ some none. absurd (cc) } }

-- a flush and a discard move the disk once
first : {index count : ℕ} → index ≡ 0 → index + 1 ≡ count → 0 + 1 ≡ count
first once place = omega arith

pub flush_done : (k id index : ℕ) → index ≡ 0 → IsTold (moves.DiskFlush k) k id index (lines.Flushed id)
flush_done k id index once =
    record { same_epoch = refl; keeps = λ s none. none; tells = λ info. refl; still = refl; unstepped = refl; step = λ before. tt; moved = λ before. tt; effect = λ before shows request place. record { told = if_some _ shows (record { done = refl; request = request; place = first once place }); only = λ some none. absurd (cc) } }

pub trim_done : (k sector count id index : ℕ) → index ≡ 0 → IsTold (moves.DiskTrim k sector count) k id index (lines.Trimmed id)
trim_done k sector count id index once =
    record { same_epoch = refl; keeps = λ s none. none; tells = λ info. refl; still = refl; unstepped = refl; step = λ before. tt; moved = λ before. tt; effect = λ before shows request place. record { told = if_some _ shows (record { done = refl; request = request; place = first once place }); only = λ some none. absurd (cc) } }

-- the disk failed at any move of it
pub call_failed : (k id index : ℕ) (shown : Move) (call : DiskCall) → disk_move_of (lines.Move shown) ≡ Some (disk_move k call) → IsTold shown k id index (lines.Fault id index)
call_failed k id index shown call is =
    record { same_epoch = refl; keeps = λ s none. none; tells = λ info. refl; still = refl; unstepped = refl; step = λ before. tt; moved = λ before. tt; effect = λ before shows request place. record { told = if_some _ (shows ∙ is) (record { done = tt; request = request; place = place }); only = λ some none. none-some _ (sym none ∙ (shows ∙ is)) } }
