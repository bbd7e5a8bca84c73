-- What becomes of the keys: what an end does with them.
use Rattle.std.proofs.Common.{◌≡◌, ℕ, Bool, true, false, if◌then◌else◌, List, [], ◌∷◌, refl, sym, ap, subst}
use Rattle.std.specs.Prelude.{Option, Some, None}
use Rattle.std.specs.List.{AllByRecursion}
use Rattle.std.proofs.lemmas.Option.{none-some}
use Rattle.blk_base.specs.declared.parts.End.{End}
use Rattle.blk_base.specs.declared.parts.End.TheVariants as end
use Rattle.blk_base.specs.declared.ask.FrontAsk.{FrontAsk}
use Rattle.blk_base.specs.declared.ask.BackAsk.{BackAsk}
use Rattle.blk_base.specs.declared.ask.BackAsk.TheVariants as back_ask
use Rattle.blk_base.specs.declared.moves.BackMover.{BackMover}
use Rattle.blk_base.specs.declared.moves.BackMover.TheVariants as back_mover
use Rattle.blk_base.specs.declared.moves.Move.TheVariants as moves
use Rattle.schedule_text.specs.declared.line.Line.{Line}
use Rattle.schedule_text.specs.declared.line.Line.TheVariants as lines
use Rattle.key_directory.specs.Watches.{Watches, with_watch, next_watch, first_of, taken, taken_from}
use Rattle.key_directory.specs.Directory.{Directory, key_of, written, watches_of, with_watches, fresh_directory}
use Rattle.hypervisor.specs.Hypervisor.{Hypervisor}
use Rattle.hypervisor.specs.Act.{FrontAct, BackAct, Outcome, Took, front_act, back_act}
use Rattle.blk_front.specs.State.{is_open}
use Rattle.blk_front.specs.Ask as front_ends
use Rattle.blk_back.specs.declared.stage.BackStage.{BackStage}
use Rattle.blk_back.specs.Ask as back_ends
use Rattle.blk_back.specs.Step.{job_ask_of}
use Rattle.split_model.specs.World.{World, state_after, may_suspend}
use Rattle.split_model.specs.Keys.{KeyMove, front_path, Gets, Sets, Watches as WatchesPath, TakesWatch, mover_at, may_set, may_negotiate, keys_after, watched_lines, key_lines, negotiated, negotiated_lines}
use Rattle.split_model.specs.Happening.{Happening, FrontMoves, BackMoves, JobMoves, Negotiates, Pokes, OverwritesKey, Suspends, happens, front_after, back_after, job_after, front_turn, back_turn, job_turn, is_guest_key}
use Rattle.split_model.proofs.Suspending.{suspend_cases}
use Rattle.split_model.proofs.Overwriting.{poke_cases, overwriting_cases}
use Rattle.split_model.proofs.Acting.{FrontWatched, FrontSet, FrontWatch, front_acts, BackWatched, BackSet, BackWatch, back_acts}
use Rattle.split_model.proofs.SafeActs.{AsksBackKey}
use Rattle.split_model.proofs.SafeAnswers.{AsksNoKey, fronts_no_key, IsBacks, backs_of, IsJobs, jobs_of}

-- where no watch fired none is taken
none_taken : (w : Watches) → next_watch w ≡ None → taken w ≡ w
none_taken w none = by_pending w.pending refl none
  where
    by_pending : (pending : List (List ℕ)) → w.pending ≡ pending → first_of pending ≡ None → taken_from pending w.idle ≡ w
    by_pending [] same e = let as_was : w ≡ record { pending = []; idle = w.idle } = ap (λ (p : List (List ℕ)). record { pending = p; idle = w.idle }) same in sym as_was
    by_pending (path ∷ later) same e = absurd (none-some path (sym e))

still_at : (d : Directory) (at : End) → next_watch (watches_of d at) ≡ None → with_watches d at (taken (watches_of d at)) ≡ d
still_at d end.Front none = ap (λ (w : Watches). with_watches d end.Front w) (none_taken d.front none)
still_at d end.Back none = ap (λ (w : Watches). with_watches d end.Back w) (none_taken d.back none)

-- what an end does with the keys, with the lines that it shows; or nothing happens
pub key_cases :
    (P : Directory → List Line → Type 0) (at : End) (move : KeyMove) (d : Directory)
    → ((path : List ℕ) → move ≡ Gets path → P d (lines.Move (moves.GetKey (mover_at at) path (key_of d.keys path)) ∷ []))
    → ((path text : List ℕ) → move ≡ Sets path text → may_set at path text ≡ true → P (written d path text) (lines.Move (moves.SetKey (mover_at at) path text) ∷ []))
    → ((path : List ℕ) → move ≡ WatchesPath path → P (with_watches d at (with_watch (watches_of d at) path)) (lines.Move (moves.Watch (mover_at at) path) ∷ []))
    → ((path : List ℕ) → next_watch (watches_of d at) ≡ Some path → P (with_watches d at (taken (watches_of d at))) (lines.Move (moves.Watched (mover_at at) path) ∷ []))
    → P d [] → P (keys_after at move d) (key_lines at move d)
key_cases P at (Gets path) d got set watch watched none = got path refl
key_cases P at (Sets path text) d got set watch watched none = by_test (may_set at path text) refl
  where
    by_test : (b : Bool) → may_set at path text ≡ b → P (if b then written d path text else d) (if b then lines.Move (moves.SetKey (mover_at at) path text) ∷ [] else [])
    by_test true may = set path text refl may
    by_test false may = none
key_cases P at (WatchesPath path) d got set watch watched none = watch path refl
key_cases P at TakesWatch d got set watch watched none = by_next (next_watch (watches_of d at)) refl
  where
    by_next : (next : Option (List ℕ)) → next_watch (watches_of d at) ≡ next → P (with_watches d at (taken (watches_of d at))) (watched_lines at next)
    by_next None first = subst (λ (k : Directory). P k []) (sym (still_at d at first)) none
    by_next (Some path) first = watched path first

-- where the end may turn to its keys; or nothing happens
pub negotiated_cases : (P : Directory → List Line → Type 0) (s : BackStage) (at : End) (move : KeyMove) (d : Directory)
    → (may_negotiate s at move ≡ true → P (keys_after at move d) (key_lines at move d)) → P d [] → P (negotiated s at move d) (negotiated_lines s at move d)
negotiated_cases P s at move d does none = by_test (may_negotiate s at move) refl
  where
    by_test : (b : Bool) → may_negotiate s at move ≡ b → P (if b then keys_after at move d else d) (if b then key_lines at move d else [])
    by_test true may = does may
    by_test false may = none

-- the lines of each are of this kind, where one is
pub key_lines_are : (P : Line → Type 0) (at : End) (move : KeyMove) (d : Directory)
    → ((path : List ℕ) → P (lines.Move (moves.GetKey (mover_at at) path (key_of d.keys path))))
    → ((path text : List ℕ) → P (lines.Move (moves.SetKey (mover_at at) path text)))
    → ((path : List ℕ) → P (lines.Move (moves.Watch (mover_at at) path)))
    → ((path : List ℕ) → P (lines.Move (moves.Watched (mover_at at) path)))
    → AllByRecursion P (key_lines at move d)
key_lines_are P at move d got set watch watched =
    key_cases (λ (after : Directory) (shown : List Line). AllByRecursion P shown) at move d
    (λ path same. (got path, tt)) (λ path text same may. (set path text, tt)) (λ path same. (watch path, tt)) (λ path first. (watched path, tt)) tt

pub negotiated_lines_are : (P : Line → Type 0) (s : BackStage) (at : End) (move : KeyMove) (d : Directory)
    → ((path : List ℕ) → P (lines.Move (moves.GetKey (mover_at at) path (key_of d.keys path))))
    → ((path text : List ℕ) → P (lines.Move (moves.SetKey (mover_at at) path text)))
    → ((path : List ℕ) → P (lines.Move (moves.Watch (mover_at at) path)))
    → ((path : List ℕ) → P (lines.Move (moves.Watched (mover_at at) path)))
    → AllByRecursion P (negotiated_lines s at move d)
negotiated_lines_are P s at move d got set watch watched =
    negotiated_cases (λ (after : Directory) (shown : List Line). AllByRecursion P shown) s at move d (λ may. key_lines_are P at move d got set watch watched) tt

-- it stays when a watch is taken
abbrev pub StaysTaken : (Directory → Type 0) → Type 0
StaysTaken P = (at : End) (d : Directory) → P d → P (with_watches d at (taken (watches_of d at)))

-- an ask for no key leaves the keys, and takes a watch at most
pub front_stays : (P : Directory → Type 0) → StaysTaken P → (h : Hypervisor) (ask : FrontAsk) (a : FrontAct) → AsksNoKey ask → P h.keys → front_act h ask ≡ Some a → P a.under.keys
front_stays P taking h ask a own u e = (elim (front_acts h ask a e) as (λ asked x acts. AsksNoKey asked → P x.under.keys) [
  | FrontWatched path first ↦ λ own. taking end.Front h.keys u
  | FrontSet path text is ↦ λ own. absurd own
  | FrontWatch path ↦ λ own. absurd own
  | acts ↦ λ own. u
]) own

pub back_stays : (P : Directory → Type 0) → StaysTaken P → (h : Hypervisor) (who : BackMover) (ask : BackAsk) (o : Outcome) (a : BackAct) → (AsksBackKey ask → ⊥) → P h.keys → back_act h who ask o ≡ Some a → P a.under.keys
back_stays P taking h who ask o a own u e = (elim (back_acts h who ask o a e) as (λ mover asked outcome x acts. (AsksBackKey asked → ⊥) → P x.under.keys) [
  | BackWatched path first ↦ λ own. taking end.Back h.keys u
  | BackSet path text is ↦ λ own. absurd (own tt)
  | BackWatch path ↦ λ own. absurd (own tt)
  | acts ↦ λ own. u
]) own

pub backs_no_key : (ask : BackAsk) → IsBacks ask → AsksBackKey ask → ⊥
backs_no_key (back_ask.GetKey path) own asks = own
backs_no_key (back_ask.SetKey path text) own asks = own
backs_no_key (back_ask.Watch path) own asks = own
backs_no_key ask own asks = asks

pub jobs_no_key : (ask : BackAsk) → IsJobs ask → AsksBackKey ask → ⊥
jobs_no_key (back_ask.GetKey path) own asks = own
jobs_no_key (back_ask.SetKey path text) own asks = own
jobs_no_key (back_ask.Watch path) own asks = own
jobs_no_key ask own asks = asks

front_turn_stays : (P : Directory → Type 0) → StaysTaken P → (w : World) (act : Option FrontAct) → front_turn w ≡ act → P w.under.keys → (let v : World = front_after w act in P v.under.keys)
front_turn_stays P taking w None e u = u
front_turn_stays P taking w (Some a) e u = front_stays P taking w.under (front_ends.ask_of w.front) a (fronts_no_key w.front) u e

back_turn_stays : (P : Directory → Type 0) → StaysTaken P → (w : World) (act : Option BackAct) → back_turn w Took ≡ act → P w.under.keys → (let v : World = back_after w act in P v.under.keys)
back_turn_stays P taking w None e u = u
back_turn_stays P taking w (Some a) e u = back_stays P taking w.under back_mover.Back (back_ends.ask_of w.back) Took a (backs_no_key (back_ends.ask_of w.back) (backs_of w.back)) u e

job_turn_stays : (P : Directory → Type 0) → StaysTaken P → (w : World) (k : ℕ) (o : Outcome) (act : Option BackAct) → job_turn w k o ≡ act → P w.under.keys → (let v : World = job_after w k act in P v.under.keys)
job_turn_stays P taking w k o None e u = u
job_turn_stays P taking w k o (Some a) e u = back_stays P taking w.under (back_mover.Job k) (job_ask_of w.back k) o a (jobs_no_key (job_ask_of w.back k) (jobs_of w.back k)) u e

-- whatever happens: what an end does with the keys keeps it, a key of the front that is overwritten, a suspend, and the taking of a watch
pub keys_happen :
    (P : Directory → Type 0) → StaysTaken P → (w : World) (h : Happening) → ((at : End) (move : KeyMove) → h ≡ Negotiates at move → P w.under.keys → P (negotiated w.back.stage at move w.under.keys))
    → ((name text : List ℕ) → h ≡ OverwritesKey name text → is_guest_key name text ≡ true → P w.under.keys → P (written w.under.keys (front_path name) text))
    → (h ≡ Suspends → may_suspend w ≡ true → P w.under.keys → P (fresh_directory (state_after (is_open w.front.stage))))
    → P w.under.keys → (let v : World = happens w h in P v.under.keys)
keys_happen P taking w FrontMoves kept set fresh u = front_turn_stays P taking w (front_turn w) refl u
keys_happen P taking w BackMoves kept set fresh u = back_turn_stays P taking w (back_turn w Took) refl u
keys_happen P taking w (JobMoves number outcome) kept set fresh u = job_turn_stays P taking w number outcome (job_turn w number outcome) refl u
keys_happen P taking w (Negotiates at move) kept set fresh u = kept at move refl u
keys_happen P taking w (Pokes frame word value) kept set fresh u = poke_cases (λ under shown. P under.keys) w.under frame word value (λ framed worded. u) u
keys_happen P taking w (OverwritesKey name text) kept set fresh u = overwriting_cases (λ under shown. P under.keys) w.under name text (λ allowed. set name text refl allowed u) u
keys_happen P taking w Suspends kept set fresh u = suspend_cases (λ v shown. P v.under.keys) w (λ may. fresh refl may u) u
keys_happen P taking w h kept set fresh u = u
