-- The mappings that stand by the lines are those that live, whatever happens, also where the back keeps mappings.
use Rattle.std.proofs.Common.{◌≡◌, ℕ, Bool, true, false, if◌then◌else◌, List, [], ◌∷◌, ◌++◌, refl, sym, subst, append-nil}
use Rattle.std.specs.Prelude.{Option, Some, None}
use Rattle.blk_base.specs.declared.parts.End.{End}
use Rattle.blk_base.specs.declared.ask.BackAnswer.{BackAnswer}
use Rattle.blk_base.specs.declared.halt.Halt.{Halt}
use Rattle.blk_base.specs.declared.moves.BackMover.TheVariants as mover
use Rattle.grant_table.specs.Table.{GrantTable}
use Rattle.hypervisor.specs.Act.{FrontAct, BackAct, Outcome, Took}
use Rattle.schedule_text.specs.declared.line.Line.{Line}
use Rattle.schedule_text.specs.declared.line.Line.TheVariants as lines
use Rattle.blk_front.specs.Ask as front_ask
use Rattle.blk_back.specs.declared.stage.BackStage.{BackStage}
use Rattle.blk_back.specs.declared.told.BackTold.{BackTold}
use Rattle.blk_back.specs.Ask.{ask_of, is_led}
use Rattle.blk_back.specs.Keeping.{step_keeping, job_step_keeping, job_ask_keeping, KeepsNone}
use Rattle.blk_back.specs.View as back
use Rattle.split_model.specs.World.{World}
use Rattle.split_model.specs.Keys.{KeyMove}
use Rattle.split_model.specs.Shown.{back_lines, halt_lines}
use Rattle.split_model.specs.Happening.{Happening, FrontMoves, BackMoves, JobMoves, Negotiates, FrontEnters, BackAttaches, BackHalts, Submits, Suspends, layout_read, happens, lines_at, front_after, front_shows, front_turn, back_turn}
use Rattle.split_model.specs.Kept.{KeepingHappening, Plainly, BackOffers, BackKeeps, back_offers, offered, offer_line, reads_keeping, kept_so, keeping_line, is_other_read, back_after_keeping, back_shows_keeping, job_turn_keeping, job_after_keeping, job_shows_keeping, halt_shows_keeping, plainly_after, plainly_shows, happens_keeping, shows_keeping}
use Rattle.split_model.proofs.Attaching.{attach_cases}
use Rattle.split_model.proofs.Outside.{LeavesEnds, leaves_ends}
use Rattle.split_model.proofs.SafeActs.{made_front}
use Rattle.split_model.proofs.Showing.{halt_is}
use Rattle.split_model.proofs.Suspending.{suspend_cases}
use Rattle.split_model.proofs.Without.{goes_as_without}
use Rattle.ring_laws.proofs.Sight.{is_other}
use Rattle.ring_laws.proofs.Lists.{all_both}
use Rattle.ring_laws.proofs.Free.{IsFree, AreFree, free_told}
use Rattle.ring_laws.proofs.Fetched.{AreOther}
use Rattle.ring_laws.proofs.Makers.{IsQuiet}
use Rattle.ring_laws.proofs.MakerLines.{calm_quiet, back_calm, halt_calm, told_calm}
use Rattle.ring_laws.proofs.Outsiders.{AreOutsiders, front_outsiders, outsiders_other, outsiders_calm, beside_outsiders}
use Rattle.ring_laws.proofs.Epochs.{epoch_stands}
use Rattle.ring_laws.proofs.Standings.{Stands, stands_aside, turn_stands}

pub others_of : (over : Bool) (ys : List Line) → AreFree over ys → AreOther ys
others_of over [] free = tt
others_of over (y ∷ ys) free = let f : IsFree over y = free.0 in (f.other, others_of over ys free.1)

pub halts_other : (before now : Option Halt) → AreOther (halt_lines before now)
halts_other before now = halt_is (λ (line : Line). is_other line ≡ true) (λ why. refl) before now

-- the lines that stand after a move of the back
pub back_other : (v : back.View) (t : Option BackTold) (answer : BackAnswer) (new : Option Halt) → AreOther (back_lines t answer ++ halt_lines v.halted new)
back_other v t answer new = all_both (λ (line : Line). is_other line ≡ true) (back_lines t answer) (halt_lines v.halted new) (others_of false (back_lines t answer) (free_told false t answer refl)) (halts_other v.halted new)

none_stands : (before : List Line) (table : GrantTable) → Stands before table → Stands (before ++ []) table
none_stands before table s = subst (λ (ls : List Line). Stands ls table) (sym (append-nil before)) s

-- a line that changes no mapping
one_stands : (before : List Line) (line : Line) (table : GrantTable) → IsQuiet line → is_other line ≡ true → Stands before table → Stands (before ++ line ∷ []) table
one_stands before line table quiet other s = stands_aside before (line ∷ []) table (quiet, tt) (other, tt) s

outside_stands : (stage : BackStage) (before ys : List Line) (table : GrantTable) → AreOutsiders stage ys → Stands before table → Stands (before ++ ys) table
outside_stands stage before ys table all s = stands_aside before ys table (calm_quiet ys (outsiders_calm stage ys all)) (outsiders_other stage ys all) s

beside_stands : (w : World) (h : Happening) (before : List Line) → AreOutsiders w.back.stage (lines_at w h) → Stands before w.under.grants → Stands (before ++ lines_at w h) w.under.grants
beside_stands w h before all s = outside_stands w.back.stage before (lines_at w h) w.under.grants all s

front_stands : (w : World) (before : List Line) (act : Option FrontAct) → front_turn w ≡ act → Stands before w.under.grants → (let n : World = front_after w act in Stands (before ++ front_shows w act) n.under.grants)
front_stands w before None e s = none_stands before w.under.grants s
front_stands w before (Some a) e s =
    subst (Stands (before ++ front_shows w (Some a))) (sym (made_front w.under (front_ask.ask_of w.front) a e))
    (outside_stands w.back.stage before (front_shows w (Some a)) w.under.grants (front_outsiders w.back.stage w (Some a) e) s)

back_stands : (w : World) (before : List Line) (o : Outcome) (act : Option BackAct) → back_turn w o ≡ act → Stands before w.under.grants → (let n : World = back_after_keeping w act in Stands (before ++ back_shows_keeping w act) n.under.grants)
back_stands w before o None e s = none_stands before w.under.grants s
back_stands w before o (Some a) e s =
    let new : back.View = step_keeping w.back a.answer in
    turn_stands before (back_lines new.told a.answer ++ halt_lines w.back.halted new.halted) w.under mover.Back (ask_of w.back) o a (calm_quiet _ (told_calm new.told a.answer w.back.halted new.halted)) (back_other w.back new.told a.answer new.halted) s e

job_stands : (w : World) (before : List Line) (k : ℕ) (o : Outcome) (act : Option BackAct) → job_turn_keeping w k o ≡ act → Stands before w.under.grants → (let n : World = job_after_keeping w k act in Stands (before ++ job_shows_keeping w k act) n.under.grants)
job_stands w before k o None e s = none_stands before w.under.grants s
job_stands w before k o (Some a) e s =
    let new : back.View = job_step_keeping w.back k a.answer in
    turn_stands before (back_lines new.told a.answer) w.under (mover.Job k) (job_ask_keeping w.back k) o a (calm_quiet _ (back_calm new.told a.answer)) (others_of false (back_lines new.told a.answer) (free_told false new.told a.answer refl)) s e

keys_stand : (w : World) (before : List Line) (at : End) (move : KeyMove) (other : Bool) → Stands before w.under.grants → Stands (before ++ (if other then [] else lines_at w (Negotiates at move))) w.under.grants
keys_stand w before at move true s = none_stands before w.under.grants s
keys_stand w before at move false s = beside_stands w (Negotiates at move) before (beside_outsiders w (Negotiates at move) tt) s

plainly_stand : (w : World) (h : Happening) (before : List Line) → Stands before w.under.grants → (let n : World = plainly_after w h in Stands (before ++ plainly_shows w h) n.under.grants)
plainly_stand w FrontMoves before s = front_stands w before (front_turn w) refl s
plainly_stand w BackMoves before s = back_stands w before Took (back_turn w Took) refl s
plainly_stand w (JobMoves number outcome) before s = job_stands w before number outcome (job_turn_keeping w number outcome) refl s
plainly_stand w (Negotiates at move) before s = keys_stand w before at move (is_other_read w at move) s
plainly_stand w (BackAttaches shape grefs port) before s =
    attach_cases (λ (new : back.View) (shown : List Line). Stands (before ++ shown) w.under.grants) w shape grefs port
    (λ may layout says. one_stands before (lines.Move (layout_read w)) w.under.grants (record { same_epoch = refl; none_gone = λ n. refl; none_made = λ k. refl }) refl s) (none_stands before w.under.grants s)
plainly_stand w (BackHalts why) before s = stands_aside before (halt_shows_keeping w why) w.under.grants (calm_quiet _ (halt_calm w.back.halted _)) (halts_other w.back.halted _) s
plainly_stand w Suspends before s = suspend_cases (λ (v : World) (shown : List Line). Stands (before ++ shown) v.under.grants) w (λ may. epoch_stands before w.under.grants) (none_stands before w.under.grants s)
plainly_stand w (FrontEnters state) before s = beside_stands w (FrontEnters state) before (beside_outsiders w (FrontEnters state) tt) s
plainly_stand w (Submits job) before s = beside_stands w (Submits job) before (beside_outsiders w (Submits job) tt) s
plainly_stand w h before s =
    let left : LeavesEnds w (happens w h) = leaves_ends w h tt in
    subst (Stands (before ++ lines_at w h)) (sym left.grants) (beside_stands w h before (beside_outsiders w h tt) s)

offers_stand : (w : World) (before : List Line) (led : Bool) → Stands before w.under.grants → (let n : World = if led then offered w else w in Stands (before ++ (if led then offer_line ∷ [] else [])) n.under.grants)
offers_stand w before true s = one_stands before offer_line w.under.grants (record { same_epoch = refl; none_gone = λ n. refl; none_made = λ k. refl }) refl s
offers_stand w before false s = none_stands before w.under.grants s

keeps_stand : (w : World) (before : List Line) (cap : ℕ) (reads : Bool) → Stands before w.under.grants → (let n : World = if reads then kept_so w cap else w in Stands (before ++ (if reads then keeping_line w ∷ [] else [])) n.under.grants)
keeps_stand w before cap true s = one_stands before (keeping_line w) w.under.grants (record { same_epoch = refl; none_gone = λ n. refl; none_made = λ k. refl }) refl s
keeps_stand w before cap false s = none_stands before w.under.grants s

pub stands_keeping : (w : World) (h : KeepingHappening) (before : List Line) → Stands before w.under.grants → (let n : World = happens_keeping w h in Stands (before ++ shows_keeping w h) n.under.grants)
stands_keeping w (Plainly h) before s = plainly_stand w h before s
stands_keeping w BackOffers before s = offers_stand w before (is_led w.back.stage) s
stands_keeping w (BackKeeps cap) before s = keeps_stand w before cap (reads_keeping w cap) s

-- and so it is where nothing is kept
pub stands_happen : (w : World) (h : Happening) (before : List Line) → KeepsNone w.back → back_offers w ≡ false → Stands before w.under.grants → (let n : World = happens w h in Stands (before ++ lines_at w h) n.under.grants)
stands_happen w h before none silent s =
    let goes = goes_as_without w h none silent in
    subst (λ (ls : List Line). let n : World = happens w h in Stands (before ++ ls) n.under.grants) goes.lines
    (subst (λ (n : World). Stands (before ++ plainly_shows w h) n.under.grants) goes.world (plainly_stand w h before s))
