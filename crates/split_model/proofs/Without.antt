-- A machine that keeps no mapping goes as the one that never does, and keeps none after it.
use Rattle.std.proofs.Common.{◌≡◌, ◌≢◌, ℕ, Bool, true, false, true≢false, ◌&&◌, if◌then◌else◌, List, [], ◌∷◌, ◌++◌, refl, sym, ap, subst, ◌∙◌}
use Rattle.std.specs.Prelude.{Option, Some, None, ◌||◌, not, codes, map}
use Rattle.std.specs.Str.{bytes_eq}
use Rattle.std.proofs.lemmas.Slice.Eq.{bytes_eq-Decides}
use Rattle.blk_base.specs.declared.ask.BackAsk.{BackAsk}
use Rattle.blk_base.specs.declared.halt.Halt.{Halt}
use Rattle.blk_base.specs.declared.parts.End.{End}
use Rattle.blk_base.specs.declared.parts.End.TheVariants as end
use Rattle.blk_base.specs.declared.moves.BackMover.TheVariants as back_mover
use Rattle.schedule_text.specs.declared.line.Line.{Line}
use Rattle.schedule_text.specs.declared.line.Line.TheVariants.{Move}
use Rattle.key_directory.specs.Directory.{Directory, key_of, with_key, written, with_watches, fresh_directory}
use Rattle.key_directory.specs.Watches.{Watches}
use Rattle.key_directory.proofs.Entries.{key_of-with_key_same, key_of-with_key_other}
use Rattle.hypervisor.specs.Act.{is_own_path, FrontAct, BackAct, Outcome, Took, back_act}
use Rattle.hypervisor.specs.Disk.{DiskDoes}
use Rattle.blk_front.specs.State.{is_open}
use Rattle.blk_back.specs.View as back
use Rattle.blk_back.specs.Keeping.{KeepsNone}
use Rattle.blk_back.proofs.Hands.{step_kept_at, halted_kept}
use Rattle.blk_back.proofs.Plain.{plain_step, plain_halts, plain_job_ask, plain_job_step}
use Rattle.split_model.specs.World.{World, state_after}
use Rattle.split_model.specs.Keys.{KeyMove, Gets, front_path, is_zero_text, names_persistent, may_set, keys_after}
use Rattle.split_model.specs.Shown.{back_lines, halt_lines}
use Rattle.split_model.specs.Happening.{Happening, FrontMoves, BackMoves, JobMoves, Negotiates, BackAttaches, BackHalts, Suspends, happens, lines_at, front_after, back_after, back_shows, job_after, job_shows, front_turn, back_turn, job_turn}
use Rattle.split_model.specs.Kept.{Plainly, offering_path, says_one, back_offers, is_other_read, back_after_keeping, back_shows_keeping, job_turn_keeping, job_after_keeping, job_shows_keeping, happens_keeping, after_keeping, lines_keeping, GoesAsWithout, RunsAsWithout}
use Rattle.split_model.proofs.Keys.{key_cases, negotiated_cases, keys_happen}
use Rattle.split_model.proofs.Attaching.{attach_cases}
use Rattle.split_model.proofs.Suspending.{suspend_cases, back_cases}

back_world : (w : World) (act : Option BackAct) → KeepsNone w.back → back_after_keeping w act ≡ back_after w act
back_world w None none = refl
back_world w (Some a) none = ap (λ (b : back.View). record { front = w.front; back = record b { told = None }; under = a.under }) (plain_step w.back a.answer none)

back_lines_are : (w : World) (act : Option BackAct) → KeepsNone w.back → back_shows_keeping w act ≡ back_shows w act
back_lines_are w None none = refl
back_lines_are w (Some a) none = ap (λ (b : back.View). Move a.shown ∷ back_lines b.told a.answer ++ halt_lines w.back.halted b.halted) (plain_step w.back a.answer none)

back_none : (w : World) (act : Option BackAct) → KeepsNone w.back → KeepsNone (let v : World = back_after w act in v.back)
back_none w None none = none
back_none w (Some a) none = step_kept_at w.back.stage w.back a.answer ∙ none

-- a job asks as it would without
turn_as : (w : World) (number : ℕ) (o : Outcome) → KeepsNone w.back → job_turn_keeping w number o ≡ job_turn w number o
turn_as w number o none = ap (λ (ask : BackAsk). back_act w.under (back_mover.Job number) ask o) (plain_job_ask w.back number none)

job_world_at : (w : World) (number : ℕ) (act : Option BackAct) → KeepsNone w.back → job_after_keeping w number act ≡ job_after w number act
job_world_at w number None none = refl
job_world_at w number (Some a) none = ap (λ (b : back.View). record { front = w.front; back = record b { told = None }; under = a.under }) (plain_job_step w.back number a.answer none)

job_lines_at : (w : World) (number : ℕ) (act : Option BackAct) → KeepsNone w.back → job_shows_keeping w number act ≡ job_shows w number act
job_lines_at w number None none = refl
job_lines_at w number (Some a) none = ap (λ (b : back.View). Move a.shown ∷ back_lines b.told a.answer) (plain_job_step w.back number a.answer none)

job_none : (w : World) (number : ℕ) (act : Option BackAct) → KeepsNone w.back → KeepsNone (let v : World = job_after w number act in v.back)
job_none w number None none = none
job_none w number (Some a) none = none

-- the back's key doesn't say that it keeps grants
abbrev IsSilent : Directory → Type 0
IsSilent d = says_one (key_of d.keys offering_path) ≡ false

other_silent : (d : Directory) (path text : List ℕ) → bytes_eq path offering_path ≡ false → IsSilent d → IsSilent (written d path text)
other_silent d path text other silent =
    let differs : offering_path ≢ path = λ same. true≢false (sym ((bytes_eq-Decides path offering_path).1 (sym same)) ∙ other) in
    ap says_one (key_of-with_key_other d.keys path text offering_path differs) ∙ silent

zero_silent : (d : Directory) (path text : List ℕ) → bytes_eq path offering_path ≡ true → is_zero_text text ≡ true → IsSilent (written d path text)
zero_silent d path text same zero =
    let here : path ≡ offering_path = (bytes_eq-Decides path offering_path).0 same in
    let said : text ≡ codes "0" = (bytes_eq-Decides text (codes "0")).0 zero in
    subst (λ (p : List ℕ). says_one (key_of (with_key d.keys path text) p) ≡ false) here (ap says_one (key_of-with_key_same d.keys path text) ∙ ap (λ (t : List ℕ). bytes_eq t (codes "1")) said)

-- an end that sets that key sets it to 0
may_zero : (own named zero : Bool) → (own && (not named || zero)) ≡ true → named ≡ true → zero ≡ true
may_zero true true zero may same = may
may_zero true false zero may same = absurd (cc)
may_zero false named zero may same = absurd (cc)

set_silent : (d : Directory) (at : End) (path text : List ℕ) → may_set at path text ≡ true → IsSilent d → IsSilent (written d path text)
set_silent d at path text may silent = by_path (bytes_eq path offering_path) refl
  where
    by_path : (b : Bool) → bytes_eq path offering_path ≡ b → IsSilent (written d path text)
    by_path true same = zero_silent d path text same (may_zero (is_own_path at path) (names_persistent path) (is_zero_text text) may same)
    by_path false other = other_silent d path text other silent

watch_silent : (d : Directory) (at : End) (watches : Watches) → IsSilent d → IsSilent (with_watches d at watches)
watch_silent d end.Front watches silent = silent
watch_silent d end.Back watches silent = silent

key_silent : (d : Directory) (at : End) (move : KeyMove) → IsSilent d → IsSilent (keys_after at move d)
key_silent d at move silent =
    key_cases (λ (k : Directory) (shown : List Line). IsSilent k) at move d
    (λ path same. silent) (λ path text same may. set_silent d at path text may silent) (λ path same. watch_silent d at _ silent) (λ path first. watch_silent d at _ silent) silent

fresh_silent : (going : Bool) → IsSilent (fresh_directory (state_after going))
fresh_silent true = refl
fresh_silent false = refl

happens_silent : (w : World) (h : Happening) → back_offers w ≡ false → back_offers (happens w h) ≡ false
happens_silent w h silent =
    keys_happen IsSilent (λ at d u. watch_silent d at _ u) w h
    (λ at move same u. negotiated_cases (λ (k : Directory) (shown : List Line). IsSilent k) w.back.stage at move w.under.keys (λ may. key_silent w.under.keys at move u) u)
    (λ name text same allowed u. other_silent w.under.keys (front_path name) text refl u)
    (λ same may u. fresh_silent (is_open w.front.stage))
    silent

job_goes : (w : World) (number : ℕ) (o : Outcome) → KeepsNone w.back → back_offers w ≡ false → GoesAsWithout w (JobMoves number o)
job_goes w number o none silent = record {
  world = ap (λ (act : Option BackAct). job_after_keeping w number act) (turn_as w number o none) ∙ job_world_at w number (job_turn w number o) none;
  lines = ap (λ (act : Option BackAct). job_shows_keeping w number act) (turn_as w number o none) ∙ job_lines_at w number (job_turn w number o) none;
  disk = λ before after. subst (λ (ask : BackAsk). DiskDoes ask o before after) (plain_job_ask w.back number none);
  keeps_none = job_none w number (job_turn w number o) none;
  silent = happens_silent w (JobMoves number o) silent;
}

halt_goes : (w : World) (why : Halt) → KeepsNone w.back → back_offers w ≡ false → GoesAsWithout w (BackHalts why)
halt_goes w why none silent = record {
  world = ap (λ (b : back.View). record { front = w.front; back = b; under = w.under }) (plain_halts why w.back none);
  lines = ap (λ (b : back.View). halt_lines w.back.halted b.halted) (plain_halts why w.back none);
  disk = λ before after goes. goes;
  keeps_none = halted_kept why w.back ∙ none;
  silent = happens_silent w (BackHalts why) silent;
}

-- a back that doesn't say that it keeps grants reads any key
reads_any : (w : World) (at : End) (move : KeyMove) → back_offers w ≡ false → is_other_read w at move ≡ false
reads_any w end.Front move silent = refl
reads_any w end.Back (Gets path) silent = rw silent refl
reads_any w end.Back move silent = refl

key_goes : (w : World) (at : End) (move : KeyMove) → KeepsNone w.back → back_offers w ≡ false → GoesAsWithout w (Negotiates at move)
key_goes w at move none silent = record {
  world = refl;
  lines = ap (λ (b : Bool). if b then [] else lines_at w (Negotiates at move)) (reads_any w at move silent);
  disk = λ before after goes. goes;
  keeps_none = none;
  silent = happens_silent w (Negotiates at move) silent;
}

front_none : (w : World) → KeepsNone w.back → KeepsNone (let v : World = happens w FrontMoves in v.back)
front_none w none = by_turn (front_turn w)
  where
    by_turn : (act : Option FrontAct) → KeepsNone (let v : World = front_after w act in v.back)
    by_turn None = none
    by_turn (Some a) = none

pub goes_as_without : (w : World) (h : Happening) → KeepsNone w.back → back_offers w ≡ false → GoesAsWithout w h
goes_as_without w BackMoves none silent = record {
  world = back_world w (back_turn w Took) none;
  lines = back_lines_are w (back_turn w Took) none;
  disk = λ before after goes. goes;
  keeps_none = back_none w (back_turn w Took) none;
  silent = happens_silent w BackMoves silent;
}
goes_as_without w (JobMoves number outcome) none silent = job_goes w number outcome none silent
goes_as_without w (BackHalts why) none silent = halt_goes w why none silent
goes_as_without w (Negotiates at move) none silent = key_goes w at move none silent
goes_as_without w FrontMoves none silent = record { world = refl; lines = refl; disk = λ before after goes. goes; keeps_none = front_none w none; silent = happens_silent w FrontMoves silent }
goes_as_without w (BackAttaches shape grefs port) none silent = record {
  world = refl;
  lines = refl;
  disk = λ before after goes. goes;
  keeps_none = attach_cases (λ (b : back.View) (shown : List Line). KeepsNone b) w shape grefs port (λ may layout says. none) none;
  silent = happens_silent w (BackAttaches shape grefs port) silent;
}
goes_as_without w Suspends none silent = record {
  world = refl;
  lines = refl;
  disk = λ before after goes. goes;
  keeps_none = suspend_cases (λ (v : World) (shown : List Line). KeepsNone v.back) w (λ may. back_cases KeepsNone w refl refl) none;
  silent = happens_silent w Suspends silent;
}
goes_as_without w h none silent = record { world = refl; lines = refl; disk = λ before after goes. goes; keeps_none = none; silent = happens_silent w h silent }

-- and so do whole runs
pub run_as : (hs : List Happening) (w : World) → KeepsNone w.back → back_offers w ≡ false → RunsAsWithout hs w
run_as [] w none silent = record { world = refl; lines = refl }
run_as (h ∷ hs) w none silent =
    let one = goes_as_without w h none silent in
    let rest = run_as hs (happens w h) one.keeps_none one.silent in
    record {
      world = ap (λ (v : World). after_keeping (map Plainly hs) v) one.world ∙ rest.world;
      lines = ap (λ (ls : List Line). ls ++ lines_keeping (map Plainly hs) (happens_keeping w (Plainly h))) one.lines
          ∙ (ap (λ (v : World). lines_at w h ++ lines_keeping (map Plainly hs) v) one.world ∙ ap (λ (ls : List Line). lines_at w h ++ ls) rest.lines);
    }
