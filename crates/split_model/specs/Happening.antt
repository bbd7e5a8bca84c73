-- What may happen to the machine, what it makes of it, and the lines that it shows.
use Rattle.std.specs.Prelude.{◌≡◌, ℕ, zero, suc, ◌+◌, ◌*◌, ◌/◌, ◌%◌, ◌^◌, Bool, ◌&&◌, nat_lt, List, [], ◌∷◌, ◌++◌, Option, Some, None, Result, Ok, Err, if◌then◌else◌}
use Rattle.blk_base.specs.declared.config.Submission.{Submission}
use Rattle.blk_io.specs.Disk.{DiskSeen}
use Rattle.blk_base.specs.declared.parts.End.{End}
use Rattle.blk_base.specs.declared.parts.End.TheVariants as end
use Rattle.blk_base.specs.declared.moves.BackMover.TheVariants as back_mover
use Rattle.blk_base.specs.declared.moves.Mover.TheVariants as mover
use Rattle.blk_base.specs.declared.moves.Move.{Move as Shown}
use Rattle.blk_base.specs.declared.moves.Move.TheVariants as moves
use Rattle.ring_words.specs.Shape.{Shape}
use Rattle.key_directory.specs.Directory.{key_of, written}
use Rattle.schedule_text.specs.declared.line.Line.{Line}
use Rattle.schedule_text.specs.declared.line.Line.TheVariants.{Move, Submit, Refuse, Quiet, Busy, Unsettled, Poke, Key, Epoch, Word}
use Rattle.schedule_text.specs.Range.{is_allowed}
use Rattle.event_channel.specs.Channels.{sent}
use Rattle.xen_pages.specs.Pages.{word_of, with_word}
use Rattle.hypervisor.specs.Hypervisor.{Hypervisor}
use Rattle.hypervisor.specs.Act.{FrontAct, BackAct, Outcome, Took, front_act, back_act, with_pages, with_keys}
use Rattle.hypervisor.specs.Disk.{DiskDoes}
use Rattle.blk_front.specs.declared.state.FrontState.{FrontState}
use Rattle.blk_base.specs.declared.refusal.Refusal.{Refusal}
use Rattle.blk_front.specs.View as front
use Rattle.blk_front.specs.Ask as front_ask
use Rattle.blk_front.specs.Step as front_step
use Rattle.blk_front.specs.Submit as front_submit
use Rattle.blk_front.specs.State as front_state
use Rattle.blk_base.specs.declared.halt.Halt.{Halt}
use Rattle.blk_back.specs.View as back
use Rattle.blk_back.specs.Ask as back_ask
use Rattle.blk_back.specs.Step as back_step
use Rattle.split_model.specs.World.{World, may_suspend, suspended}
use Rattle.split_model.specs.Keys.{KeyMove, front_path, layout_path, is_layout, said_by, says_served, negotiated, negotiated_lines}
use Rattle.split_model.specs.Shown.{front_lines, back_lines, halt_lines, state_lines}

-- a move of the front, of the back, or of the job of a number with what the disk answers it; what an end does with the keys; a state that its negotiation has the front enter, the terms of its front that the back takes as it reads the key for the layout, and a reason for which its negotiation has it halt; a submission; a spurious event at an end's bound port; a word of the guest's memory, or a key of the front, overwritten by a hostile hand; the domain suspended and resumed; a look at the words of the ring, at whether all is quiet, with what was found, and one when the rounds are over
pub data Happening : Type 0 where
  FrontMoves : Happening
  BackMoves : Happening
  JobMoves : (number : ℕ) (outcome : Outcome) → Happening
  Negotiates : (at : End) (move : KeyMove) → Happening
  FrontEnters : (state : FrontState) → Happening
  BackAttaches : (shape : Shape) (grefs : List ℕ) (port : ℕ) → Happening
  BackHalts : (why : Halt) → Happening
  Submits : (job : Submission) → Happening
  Notifies : (at : End) → Happening
  Pokes : (frame word value : ℕ) → Happening
  OverwritesKey : (name text : List ℕ) → Happening
  Suspends : Happening
  Dumps : Happening
  Looks : (quiet : Bool) → Happening
  Settles : (quiet : Bool) → Happening

abbrev pub front_after : World → Option FrontAct → World
front_after w None = w
front_after w (Some a) = record { front = record (front_step.step_of w.front a.answer) { told = None }; back = w.back; under = a.under }

abbrev pub front_shows : World → Option FrontAct → List Line
front_shows w None = []
front_shows w (Some a) = Move a.shown ∷ front_lines (let f : front.View = front_step.step_of w.front a.answer in f.told)

abbrev pub back_after : World → Option BackAct → World
back_after w None = w
back_after w (Some a) = record { front = w.front; back = record (back_step.step_of w.back a.answer) { told = None }; under = a.under }

abbrev pub back_shows : World → Option BackAct → List Line
back_shows w None = []
back_shows w (Some a) =
    let b : back.View = back_step.step_of w.back a.answer in
    Move a.shown ∷ back_lines b.told a.answer ++ halt_lines w.back.halted b.halted

abbrev pub job_after : World → ℕ → Option BackAct → World
job_after w number None = w
job_after w number (Some a) = record { front = w.front; back = record (back_step.job_step w.back number a.answer) { told = None }; under = a.under }

abbrev pub job_shows : World → ℕ → Option BackAct → List Line
job_shows w number None = []
job_shows w number (Some a) =
    let b : back.View = back_step.job_step w.back number a.answer in
    Move a.shown ∷ back_lines b.told a.answer

-- the acts of the three movers as the machine stands
abbrev pub front_turn : World → Option FrontAct
front_turn w = front_act w.under (front_ask.ask_of w.front)

abbrev pub back_turn : World → Outcome → Option BackAct
back_turn w outcome = back_act w.under back_mover.Back (back_ask.ask_of w.back) outcome

abbrev pub job_turn : World → ℕ → Outcome → Option BackAct
job_turn w number outcome = back_act w.under (back_mover.Job number) (back_step.job_ask_of w.back number) outcome

abbrev pub submit_line : Submission → Result ℕ Refusal → Line
submit_line job (Ok number) = Submit number job
submit_line job (Err r) = Refuse r

-- an event at an end is one that the other end sends
abbrev pub other_end : End → End
other_end end.Front = end.Back
other_end end.Back = end.Front

-- a word of the guest's memory, of 1024 frames of 1024 words
abbrev pub is_guest_word : (frame word : ℕ) → Bool
is_guest_word frame word = nat_lt frame 1024 && nat_lt word 1024

-- it holds another value, whoever uses it; where there is no such word nothing changes
abbrev pub overwritten : Hypervisor → (frame word value : ℕ) → Hypervisor
overwritten h frame word value = if is_guest_word frame word then with_pages h (with_word h.pages frame word value) else h

abbrev pub poke_lines : (frame word value : ℕ) → List Line
poke_lines frame word value = if is_guest_word frame word then Poke frame word value ∷ [] else []

-- a key below the front's directory, with a name and a text of the grammar, has another text, and who watches it is told
abbrev pub is_guest_key : (name text : List ℕ) → Bool
is_guest_key name text = is_allowed (Key name text)

abbrev pub key_overwritten : Hypervisor → (name text : List ℕ) → Hypervisor
key_overwritten h name text = if is_guest_key name text then with_keys h (written h.keys (front_path name) text) else h

abbrev pub overwritten_lines : (name text : List ℕ) → List Line
overwritten_lines name text = if is_guest_key name text then Key name text ∷ [] else []

-- so many words of the ring from this place on, whose first frame is 2: a line for each that isn't 0
abbrev pub word_lines : (place value : ℕ) → List Line
word_lines place zero = []
word_lines place (suc value) = Word (2 + place / 1024) (place % 1024) (suc value) ∷ []

abbrev pub ring_lines : List ℕ → (place count : ℕ) → List Line
ring_lines pages place zero = []
ring_lines pages place (suc count) = word_lines place (word_of pages (2 + place / 1024) (place % 1024)) ++ ring_lines pages (place + 1) count

-- where the front may enter the state
abbrev pub enter_lines : FrontState → front.View → List Line
enter_lines s v = if front_state.may_enter s v then state_lines s else []

-- the back reads the key for the layout, and takes these terms: the layout is the one that the key names, and the back's own keys say what it serves
abbrev pub layout_text : World → Option (List ℕ)
layout_text w = key_of w.under.keys.keys layout_path

abbrev pub layout_read : World → Shown
layout_read w = moves.GetKey mover.Back layout_path (layout_text w)

abbrev pub attaches_at : World → Shape → List ℕ → Bool
attaches_at w shape grefs = back_step.may_attach shape grefs w.back && is_layout shape.abi (layout_text w) && (let b : back.View = w.back in says_served (said_by w.under.keys) b.jobs.info)

abbrev pub happens : World → Happening → World
happens w FrontMoves = front_after w (front_turn w)
happens w BackMoves = back_after w (back_turn w Took)
happens w (JobMoves number outcome) = job_after w number (job_turn w number outcome)
happens w (Negotiates at move) = record { front = w.front; back = w.back; under = let h : Hypervisor = w.under in with_keys h (negotiated w.back.stage at move h.keys) }
happens w (FrontEnters state) = record { front = front_state.enters state w.front; back = w.back; under = w.under }
happens w (BackAttaches shape grefs port) = record { front = w.front; back = if attaches_at w shape grefs then back_step.attached shape grefs port w.back else w.back; under = w.under }
happens w (BackHalts why) = record { front = w.front; back = back_step.halts why w.back; under = w.under }
happens w (Submits job) = record { front = (front_submit.submit_of w.front job).1; back = w.back; under = w.under }
happens w (Notifies at) = record { front = w.front; back = w.back; under = let h : Hypervisor = w.under in record h { channels = sent h.channels (other_end at) } }
happens w (Pokes frame word value) = record { front = w.front; back = w.back; under = overwritten w.under frame word value }
happens w (OverwritesKey name text) = record { front = w.front; back = w.back; under = key_overwritten w.under name text }
happens w Suspends = if may_suspend w then suspended w else w
happens w Dumps = w
happens w (Looks quiet) = w
happens w (Settles quiet) = w

abbrev pub lines_at : World → Happening → List Line
lines_at w FrontMoves = front_shows w (front_turn w)
lines_at w BackMoves = back_shows w (back_turn w Took)
lines_at w (JobMoves number outcome) = job_shows w number (job_turn w number outcome)
lines_at w (Negotiates at move) = let h : Hypervisor = w.under in negotiated_lines w.back.stage at move h.keys
lines_at w (FrontEnters state) = enter_lines state w.front
lines_at w (BackAttaches shape grefs port) = if attaches_at w shape grefs then Move (layout_read w) ∷ [] else []
lines_at w (BackHalts why) = halt_lines w.back.halted (let b : back.View = back_step.halts why w.back in b.halted)
lines_at w (Submits job) = submit_line job (front_submit.submit_of w.front job).0 ∷ []
lines_at w (Notifies at) = []
lines_at w (Pokes frame word value) = poke_lines frame word value
lines_at w (OverwritesKey name text) = overwritten_lines name text
lines_at w Suspends = if may_suspend w then Epoch ∷ [] else []
lines_at w Dumps = ring_lines w.under.pages 0 (1024 * 2 ^ w.front.shape.order)
lines_at w (Looks quiet) = (if quiet then Quiet else Busy) ∷ []
lines_at w (Settles quiet) = (if quiet then Quiet else Unsettled) ∷ []

-- what it makes of the disk: a move of a job makes exactly the call that the job asks for, and nothing else makes one
abbrev pub DiskGoes : World → Happening → DiskSeen → DiskSeen → Type 0
DiskGoes w (JobMoves number outcome) before after = DiskDoes (back_step.job_ask_of w.back number) outcome before after
DiskGoes w h before after = after ≡ before

-- the machine after all this
abbrev pub after : List Happening → World → World
after [] w = w
after (h ∷ hs) w = after hs (happens w h)

-- the report of all this
abbrev pub lines_of : List Happening → World → List Line
lines_of [] w = []
lines_of (h ∷ hs) w = lines_at w h ++ lines_of hs (happens w h)

-- what all this makes of the disk
abbrev pub DiskRuns : List Happening → World → DiskSeen → DiskSeen → Type 0
DiskRuns [] w before after = after ≡ before
DiskRuns (h ∷ hs) w before after = (between : DiskSeen) × DiskGoes w h before between × DiskRuns hs (happens w h) between after
