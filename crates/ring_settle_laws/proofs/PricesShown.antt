-- No line of what an end, a job or a negotiation does is that of a new epoch, and a line aside is no reply.
use Rattle.std.proofs.Common.{◌≡◌, ℕ, Bool, true, false, List, [], ◌∷◌, refl, sym, ◌∙◌}
use Rattle.std.specs.Prelude.{if◌then◌else◌, Option, Some, None}
use Rattle.std.specs.List.{list_any, list_all}
use Rattle.std.proofs.lemmas.Bool.{or_from, and_parts, true≢false}
use Rattle.std.proofs.lemmas.List.Folds.{list_any-append}
use Rattle.schedule_text.specs.declared.line.Line.{Line}
use Rattle.schedule_text.specs.declared.line.Line.TheVariants as lines
use Rattle.pipeline_laws.specs.Allowed.{is_aside}
use Rattle.blk_base.specs.declared.ask.BackAnswer.{BackAnswer}
use Rattle.blk_base.specs.declared.ask.BackAnswer.TheVariants.{Sector}
use Rattle.blk_base.specs.declared.halt.Halt.{Halt}
use Rattle.blk_base.specs.declared.parts.End.{End}
use Rattle.blk_front.specs.declared.told.Told.{Told}
use Rattle.blk_front.specs.declared.told.Told.TheVariants as front_told
use Rattle.blk_front.specs.declared.state.FrontState.{FrontState}
use Rattle.blk_front.specs.declared.state.FrontState.TheVariants as state
use Rattle.blk_front.specs.State.{may_enter}
use Rattle.blk_front.specs.Step as front_step
use Rattle.blk_front.specs.View as front
use Rattle.blk_back.specs.Step as back_step
use Rattle.blk_back.specs.View as back
use Rattle.blk_back.specs.declared.told.BackTold.{BackTold}
use Rattle.blk_back.specs.declared.told.BackTold.TheVariants as back_told
use Rattle.hypervisor.specs.Act.{FrontAct, BackAct, Took}
use Rattle.hypervisor.specs.Hypervisor.{Hypervisor}
use Rattle.key_directory.specs.Directory.{Directory}
use Rattle.split_model.specs.World.{World}
use Rattle.split_model.specs.Keys.{KeyMove, Gets, Sets, Watches, TakesWatch, may_negotiate, may_set, key_lines, watched_lines}
use Rattle.split_model.specs.Shown.{front_lines, state_lines, effect_line, back_lines, halt_lines}
use Rattle.split_model.specs.Happening.{Happening, FrontMoves, BackMoves, JobMoves, Negotiates, FrontEnters, BackAttaches, BackHalts, front_shows, back_shows, job_shows, front_turn, back_turn, job_turn, lines_at, attaches_at}
use Rattle.machine_pipeline.specs.Submissions.{submitted_at}

-- a new epoch shows its line
abbrev pub is_epoch : Line → Bool
is_epoch lines.Epoch = true
is_epoch line = false

-- What an end moves, a job, or a negotiation, and a state that the front enters, the terms that the back takes, and a halt: neither a submission nor a suspend.
abbrev pub IsEndsMove : Happening → Type 0
IsEndsMove FrontMoves = Unit {0}
IsEndsMove BackMoves = Unit {0}
IsEndsMove (JobMoves number outcome) = Unit {0}
IsEndsMove (Negotiates at move) = Unit {0}
IsEndsMove (FrontEnters state) = Unit {0}
IsEndsMove (BackAttaches shape grefs port) = Unit {0}
IsEndsMove (BackHalts why) = Unit {0}
IsEndsMove h = ⊥

-- none of them shows a new epoch
abbrev pub HasNoEpoch : List Line → Type 0
HasNoEpoch said = list_any is_epoch said ≡ false

front_of_epoch : (told : Option Told) → HasNoEpoch (front_lines told)
front_of_epoch None = refl
front_of_epoch (Some (front_told.Answer id status)) = refl
front_of_epoch (Some (front_told.Sector id index words)) = refl
front_of_epoch (Some (front_told.Broken word)) = refl

effect_of_epoch : (id index : ℕ) (answer : BackAnswer) → is_epoch (effect_line id index answer) ≡ false
effect_of_epoch id index (Sector words) = refl
effect_of_epoch id index answer = refl

back_of_epoch : (told : Option BackTold) (answer : BackAnswer) → HasNoEpoch (back_lines told answer)
back_of_epoch None answer = refl
back_of_epoch (Some (back_told.Effect id index)) answer = or_from (is_epoch (effect_line id index answer)) false (effect_of_epoch id index answer) refl
back_of_epoch (Some other) answer = refl

halt_of_epoch : (before after : Option Halt) → HasNoEpoch (halt_lines before after)
halt_of_epoch None (Some h) = refl
halt_of_epoch None None = refl
halt_of_epoch (Some h) after = refl

state_of_epoch : (s : FrontState) → HasNoEpoch (state_lines s)
state_of_epoch (state.Connected offers) = refl
state_of_epoch other = refl

front_shown : (w : World) (a : Option FrontAct) → HasNoEpoch (front_shows w a)
front_shown w None = refl
front_shown w (Some a) = front_of_epoch (let f : front.View = front_step.step_of w.front a.answer in f.told)

back_shown : (w : World) (a : Option BackAct) → HasNoEpoch (back_shows w a)
back_shown w None = refl
back_shown w (Some a) =
    let b : back.View = back_step.step_of w.back a.answer in
    list_any-append is_epoch (back_lines b.told a.answer) (halt_lines w.back.halted b.halted)
    ∙ or_from (list_any is_epoch (back_lines b.told a.answer)) (list_any is_epoch (halt_lines w.back.halted b.halted)) (back_of_epoch b.told a.answer) (halt_of_epoch w.back.halted b.halted)

job_shown : (w : World) (number : ℕ) (a : Option BackAct) → HasNoEpoch (job_shows w number a)
job_shown w number None = refl
job_shown w number (Some a) = back_of_epoch (let b : back.View = back_step.job_step w.back number a.answer in b.told) a.answer

if_of_epoch : (b : Bool) (said : List Line) → HasNoEpoch said → HasNoEpoch (if b then said else [])
if_of_epoch true said e = e
if_of_epoch false said e = refl

watch_of_epoch : (at : End) (path : Option (List ℕ)) → HasNoEpoch (watched_lines at path)
watch_of_epoch at None = refl
watch_of_epoch at (Some path) = refl

keys_of_epoch : (at : End) (move : KeyMove) (keys : Directory) → HasNoEpoch (key_lines at move keys)
keys_of_epoch at (Sets path text) keys = if_of_epoch (may_set at path text) _ refl
keys_of_epoch at TakesWatch keys = watch_of_epoch at _
keys_of_epoch at other keys = refl

pub shown_of_epoch : (w : World) (h : Happening) → IsEndsMove h → HasNoEpoch (lines_at w h)
shown_of_epoch w FrontMoves ends = front_shown w (front_turn w)
shown_of_epoch w BackMoves ends = back_shown w (back_turn w Took)
shown_of_epoch w (JobMoves number outcome) ends = job_shown w number (job_turn w number outcome)
shown_of_epoch w (Negotiates at move) ends = if_of_epoch (may_negotiate w.back.stage at move) _ (keys_of_epoch at move (let h : Hypervisor = w.under in h.keys))
shown_of_epoch w (FrontEnters state) ends = if_of_epoch (may_enter state w.front) _ (state_of_epoch state)
shown_of_epoch w (BackAttaches shape grefs port) ends = if_of_epoch (attaches_at w shape grefs) _ refl
shown_of_epoch w (BackHalts why) ends = halt_of_epoch w.back.halted (let b : back.View = back_step.halts why w.back in b.halted)
shown_of_epoch w h ends = absurd ends

pub asks_nothing : (h : Happening) → IsEndsMove h → submitted_at h ≡ None
asks_nothing FrontMoves ends = refl
asks_nothing BackMoves ends = refl
asks_nothing (JobMoves number outcome) ends = refl
asks_nothing (Negotiates at move) ends = refl
asks_nothing (FrontEnters state) ends = refl
asks_nothing (BackAttaches shape grefs port) ends = refl
asks_nothing (BackHalts why) ends = refl
asks_nothing h ends = absurd ends

-- A line of a reply comes of its step alone.
abbrev pub is_reply : Line → Bool
is_reply (lines.Reply id status) = true
is_reply line = false

pub aside_no_reply : (line : Line) → is_aside line ≡ true → is_reply line ≡ false
aside_no_reply (lines.Reply id status) aside = absurd (true≢false (sym aside))
aside_no_reply line aside = refl

pub asides_no_reply : (asides : List Line) → list_all is_aside asides ≡ true → list_any is_reply asides ≡ false
asides_no_reply [] all = refl
asides_no_reply (line ∷ asides) all =
    let both = and_parts (is_aside line) (list_all is_aside asides) all in
    or_from (is_reply line) (list_any is_reply asides) (aside_no_reply line both.0) (asides_no_reply asides both.1)
