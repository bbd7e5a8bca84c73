-- The lines that each happening may show: a law over lines says which of them matter to it, and has no case for the others.
use Rattle.std.proofs.Common.{ℕ, ◌*◌, ◌^◌, Bool, true, false, List, [], ◌∷◌, ◌++◌}
use Rattle.std.specs.Prelude.{Option, Some, None, Result, Ok, Err, if◌then◌else◌}
use Rattle.std.specs.List.{AllByRecursion}
use Rattle.blk_base.specs.declared.config.Submission.{Submission}
use Rattle.blk_base.specs.declared.ask.BackAnswer.{BackAnswer}
use Rattle.blk_base.specs.declared.ask.BackAnswer.TheVariants as answers
use Rattle.blk_base.specs.declared.moves.Move.TheVariants as moves
use Rattle.schedule_text.specs.declared.line.Line.{Line}
use Rattle.schedule_text.specs.declared.line.Line.TheVariants as lines
use Rattle.blk_base.specs.declared.halt.Halt.{Halt}
use Rattle.hypervisor.specs.Act.{FrontAct, BackAct, Took}
use Rattle.blk_front.specs.declared.told.Told.{Told}
use Rattle.blk_front.specs.declared.told.Told.TheVariants as front_told
use Rattle.blk_base.specs.declared.refusal.Refusal.{Refusal}
use Rattle.blk_front.specs.View as front
use Rattle.blk_front.specs.Step as front_step
use Rattle.blk_front.specs.Submit as front_submit
use Rattle.blk_back.specs.declared.told.BackTold.{BackTold}
use Rattle.blk_back.specs.declared.told.BackTold.TheVariants as back_told
use Rattle.blk_back.specs.View as back
use Rattle.blk_back.specs.Step as back_step
use Rattle.split_model.specs.World.{World}
use Rattle.split_model.specs.Shown.{front_lines, back_lines, halt_lines, effect_line}
use Rattle.split_model.specs.Happening.{Happening, FrontMoves, BackMoves, JobMoves, Negotiates, FrontEnters, BackAttaches, BackHalts, Submits, Notifies, Pokes, OverwritesKey, Suspends, Dumps, Looks, Settles, lines_at, front_shows, back_shows, job_shows, front_turn, back_turn, job_turn, submit_line, layout_read}
use Rattle.split_model.proofs.Keys.{negotiated_lines_are}
use Rattle.split_model.proofs.States.{enter_lines_are, state_lines_are}
use Rattle.split_model.proofs.Attaching.{attach_lines_are}
use Rattle.split_model.proofs.Suspending.{suspend_lines_are}
use Rattle.split_model.proofs.Overwriting.{poke_lines_are, overwritten_lines_are, dump_lines_are}

-- a move of the front, and what it tells
abbrev pub IsOfFront : Line → Type 0
IsOfFront (lines.Move shown) = Unit {0}
IsOfFront (lines.Answer id status) = Unit {0}
IsOfFront (lines.Data id index words) = Unit {0}
IsOfFront (lines.Broken word) = Unit {0}
IsOfFront line = ⊥

-- a move of the back or of a job, and what it tells
abbrev pub IsOfBack : Line → Type 0
IsOfBack (lines.Move shown) = Unit {0}
IsOfBack (lines.Effect id index) = Unit {0}
IsOfBack (lines.EffectRead id index words) = Unit {0}
IsOfBack (lines.Flushed id) = Unit {0}
IsOfBack (lines.Trimmed id) = Unit {0}
IsOfBack (lines.Fault id index) = Unit {0}
IsOfBack (lines.Reply id status) = Unit {0}
IsOfBack (lines.Halt why) = Unit {0}
IsOfBack line = ⊥

-- what an end does with the keys
abbrev pub IsOfKeys : Line → Type 0
IsOfKeys (lines.Move (moves.GetKey who path text)) = Unit {0}
IsOfKeys (lines.Move (moves.SetKey who path text)) = Unit {0}
IsOfKeys (lines.Move (moves.Watch who path)) = Unit {0}
IsOfKeys (lines.Move (moves.Watched who path)) = Unit {0}
IsOfKeys line = ⊥

-- a state of the front
abbrev pub IsOfState : Line → Type 0
IsOfState lines.Ready = Unit {0}
IsOfState lines.Closing = Unit {0}
IsOfState lines.Closed = Unit {0}
IsOfState (lines.Broken word) = Unit {0}
IsOfState line = ⊥

abbrev pub IsOfHalt : Line → Type 0
IsOfHalt (lines.Halt why) = Unit {0}
IsOfHalt line = ⊥

abbrev pub IsOfSubmission : Line → Type 0
IsOfSubmission (lines.Submit id job) = Unit {0}
IsOfSubmission (lines.Refuse refusal) = Unit {0}
IsOfSubmission line = ⊥

abbrev pub IsOfPoke : Line → Type 0
IsOfPoke (lines.Poke frame word value) = Unit {0}
IsOfPoke line = ⊥

abbrev pub IsOfKey : Line → Type 0
IsOfKey (lines.Key name text) = Unit {0}
IsOfKey line = ⊥

abbrev pub IsOfSuspend : Line → Type 0
IsOfSuspend lines.Epoch = Unit {0}
IsOfSuspend line = ⊥

abbrev pub IsOfDump : Line → Type 0
IsOfDump (lines.Word frame word value) = Unit {0}
IsOfDump line = ⊥

-- what was found
abbrev pub IsFound : Line → Type 0
IsFound lines.Quiet = Unit {0}
IsFound lines.Busy = Unit {0}
IsFound lines.Unsettled = Unit {0}
IsFound line = ⊥

abbrev pub MayShow : Happening → Line → Type 0
MayShow FrontMoves line = IsOfFront line
MayShow BackMoves line = IsOfBack line
MayShow (JobMoves number outcome) line = IsOfBack line
MayShow (Negotiates at move) line = IsOfKeys line
MayShow (FrontEnters state) line = IsOfState line
MayShow (BackAttaches shape grefs port) line = IsOfKeys line
MayShow (BackHalts why) line = IsOfHalt line
MayShow (Submits job) line = IsOfSubmission line
MayShow (Notifies at) line = ⊥
MayShow (Pokes frame word value) line = IsOfPoke line
MayShow (OverwritesKey name text) line = IsOfKey line
MayShow Suspends line = IsOfSuspend line
MayShow Dumps line = IsOfDump line
MayShow (Looks quiet) line = IsFound line
MayShow (Settles quiet) line = IsFound line

-- what an end tells is neither its move nor its halt
abbrev pub IsTold : Line → Type 0
IsTold (lines.Move shown) = ⊥
IsTold (lines.Halt why) = ⊥
IsTold line = Unit {0}

pub front_told_is : (P : Line → Type 0) → ((line : Line) → IsTold line → IsOfFront line → P line) → (t : Option Told) → AllByRecursion P (front_lines t)
front_told_is P each None = tt
front_told_is P each (Some (front_told.Answer id status)) = (each (lines.Answer id status) tt tt, tt)
front_told_is P each (Some (front_told.Sector id index words)) = (each (lines.Data id index words) tt tt, tt)
front_told_is P each (Some (front_told.Broken word)) = (each (lines.Broken word) tt tt, tt)

effect_is : (P : Line → Type 0) → ((line : Line) → IsTold line → IsOfBack line → P line) → (id index : ℕ) (a : BackAnswer) → P (effect_line id index a)
effect_is P each id index (answers.Sector words) = each (lines.EffectRead id index words) tt tt
effect_is P each id index a = each (lines.Effect id index) tt tt

pub back_told_is : (P : Line → Type 0) → ((line : Line) → IsTold line → IsOfBack line → P line) → (t : Option BackTold) (a : BackAnswer) → AllByRecursion P (back_lines t a)
back_told_is P each None a = tt
back_told_is P each (Some (back_told.Effect id index)) a = (effect_is P each id index a, tt)
back_told_is P each (Some (back_told.Flushed id)) a = (each (lines.Flushed id) tt tt, tt)
back_told_is P each (Some (back_told.Trimmed id)) a = (each (lines.Trimmed id) tt tt, tt)
back_told_is P each (Some (back_told.Fault id index)) a = (each (lines.Fault id index) tt tt, tt)
back_told_is P each (Some (back_told.Reply id status)) a = (each (lines.Reply id status) tt tt, tt)

pub halt_is : (P : Line → Type 0) → ((why : Halt) → P (lines.Halt why)) → (before now : Option Halt) → AllByRecursion P (halt_lines before now)
halt_is P each None None = tt
halt_is P each None (Some why) = (each why, tt)
halt_is P each (Some g) now = tt

pub both_all : (P : Line → Type 0) (a b : List Line) → AllByRecursion P a → AllByRecursion P b → AllByRecursion P (a ++ b)
both_all P [] b p q = q
both_all P (line ∷ a) b p q = (p.0, both_all P a b p.1 q)

pub front_are : (P : Line → Type 0) → ((line : Line) → IsOfFront line → P line) → (w : World) (act : Option FrontAct) → AllByRecursion P (front_shows w act)
front_are P each w None = tt
front_are P each w (Some a) = (each (lines.Move a.shown) tt, front_told_is P (λ line told shows. each line shows) (let f : front.View = front_step.step_of w.front a.answer in f.told))

pub back_are : (P : Line → Type 0) → ((line : Line) → IsOfBack line → P line) → (w : World) (act : Option BackAct) → AllByRecursion P (back_shows w act)
back_are P each w None = tt
back_are P each w (Some a) =
    let b : back.View = back_step.step_of w.back a.answer in (
      each (lines.Move a.shown) tt,
      both_all P (back_lines b.told a.answer) (halt_lines w.back.halted b.halted) (back_told_is P (λ line told shows. each line shows) b.told a.answer)
          (halt_is P (λ why. each (lines.Halt why) tt) w.back.halted b.halted),
    )

pub job_are : (P : Line → Type 0) → ((line : Line) → IsOfBack line → P line) → (w : World) (number : ℕ) (act : Option BackAct) → AllByRecursion P (job_shows w number act)
job_are P each w number None = tt
job_are P each w number (Some a) =
    (each (lines.Move a.shown) tt, back_told_is P (λ line told shows. each line shows) (let b : back.View = back_step.job_step w.back number a.answer in b.told) a.answer)

submit_is : (P : Line → Type 0) → ((line : Line) → IsOfSubmission line → P line) → (job : Submission) (r : Result ℕ Refusal) → P (submit_line job r)
submit_is P each job (Ok number) = each (lines.Submit number job) tt
submit_is P each job (Err r) = each (lines.Refuse r) tt

found_is : (P : Line → Type 0) → ((line : Line) → IsFound line → P line) → (quiet : Bool) (other : Line) → IsFound other → P (if quiet then lines.Quiet else other)
found_is P each true other is = each lines.Quiet tt
found_is P each false other is = each other is

-- each line that it shows is one that it may show
pub lines_are : (P : Line → Type 0) (w : World) (h : Happening) → ((line : Line) → MayShow h line → P line) → AllByRecursion P (lines_at w h)
lines_are P w FrontMoves each = front_are P each w (front_turn w)
lines_are P w BackMoves each = back_are P each w (back_turn w Took)
lines_are P w (JobMoves number outcome) each = job_are P each w number (job_turn w number outcome)
lines_are P w (Negotiates at move) each = negotiated_lines_are P w.back.stage at move w.under.keys (λ path. each _ tt) (λ path text. each _ tt) (λ path. each _ tt) (λ path. each _ tt)
lines_are P w (FrontEnters state) each = enter_lines_are P state w.front (λ may. state_lines_are P state (each lines.Ready tt) (each lines.Closing tt) (each lines.Closed tt) (λ word. each (lines.Broken word) tt))
lines_are P w (BackAttaches shape grefs port) each = attach_lines_are P w shape grefs (each (lines.Move (layout_read w)) tt)
lines_are P w (BackHalts why) each = halt_is P (λ line. each (lines.Halt line) tt) w.back.halted (let b : back.View = back_step.halts why w.back in b.halted)
lines_are P w (Submits job) each = (submit_is P each job (front_submit.submit_of w.front job).0, tt)
lines_are P w (Notifies at) each = tt
lines_are P w (Pokes frame word value) each = poke_lines_are P frame word value (each (lines.Poke frame word value) tt)
lines_are P w (OverwritesKey name text) each = overwritten_lines_are P name text (each (lines.Key name text) tt)
lines_are P w Suspends each = suspend_lines_are P w (each lines.Epoch tt)
lines_are P w Dumps each = dump_lines_are P w.under.pages 0 (1024 * 2 ^ w.front.shape.order) (λ frame word value. each (lines.Word frame word value) tt)
lines_are P w (Looks quiet) each = (found_is P each quiet lines.Busy tt, tt)
lines_are P w (Settles quiet) each = (found_is P each quiet lines.Unsettled tt, tt)
