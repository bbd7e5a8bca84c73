-- When each end waits, and a job: told from what an end asked and was answered since the last suspend, and from the state that it wrote last.
use Rattle.std.specs.Str.{bytes_eq}
use Rattle.std.specs.Prelude.{◌≡◌, ◌≢◌, ◌↔◌, ◌⊎◌, ℕ, ◌==◌, ◌≤◌, ◌&&◌, Bool, true, false, if◌then◌else◌, List, [], ◌∷◌, Option, Some, None, is_some}
use Rattle.blk_base.specs.Options.{Options}
use Rattle.blk_base.specs.declared.ask.FrontAsk.{FrontAsk}
use Rattle.blk_base.specs.declared.ask.FrontAsk.TheVariants as front_ask
use Rattle.blk_base.specs.declared.ask.FrontAnswer.{FrontAnswer}
use Rattle.blk_base.specs.declared.ask.FrontAnswer.TheVariants as front_answer
use Rattle.blk_base.specs.declared.ask.BackAsk.{BackAsk}
use Rattle.blk_base.specs.declared.ask.BackAsk.TheVariants as back_ask
use Rattle.blk_base.specs.declared.ask.BackAnswer.{BackAnswer}
use Rattle.blk_base.specs.declared.ask.BackAnswer.TheVariants as back_answer
use Rattle.blk_base.specs.declared.parts.Mapping.{Mapping}
use Rattle.hypervisor.specs.Act.{FrontAct, BackAct}
use Rattle.blk_front.specs.View.{ring_frame, next_request}
use Rattle.blk_front.specs.State.{is_open}
use Rattle.xenbus_state.specs.declared.state.BusState.{BusState}
use Rattle.xenbus_state.specs.declared.state.BusState.TheVariants as state
use Rattle.xenbus_state.specs.declared.table.FrontAction.{FrontAction}
use Rattle.xenbus_state.specs.declared.table.FrontAction.TheVariants as front_action
use Rattle.xenbus_state.specs.States.{state_read}
use Rattle.xenbus_state.specs.Tables as tables
use Rattle.xenbus_state.specs.declared.table.BackAction.TheVariants as back_action
use Rattle.back_jobs.specs.Work.{Work}
use Rattle.back_jobs.specs.Jobs.{is_done, work_of, waits as is_held_up}
use Rattle.split_model.specs.World.{may_suspend}
use Rattle.blk_back.specs.View as ring
use Rattle.blk_back.specs.View.{page_of}
use Rattle.blk_back.specs.Ask.{next_reply}
use Rattle.vbd_front.specs.View as front_view
use Rattle.vbd_front.specs.Ask as front
use Rattle.vbd_back.specs.Ask as back
use Rattle.vbd_back.specs.Step as back_step
use Rattle.vbd_model.specs.World.{World, start_of, frontend_of, backend_of}
use Rattle.vbd_model.specs.Happening.{Happening, FrontMoves, BackMoves, Suspends, front_turn, back_turn, happens, after}

-- How far an end has come with its final check (RING_FINAL_CHECK_FOR_REQUESTS and _RESPONSES of `io/ring.h`).
-- It stored its event word; a fence came right after that; and the next read, of the other's producer, showed its own consumer.
-- So nothing was there, and it sleeps until it takes an event.
pub data Check : Type 0 where
  Awake : Check
  Stored : Check
  Fenced : Check
  Asleep : Check

-- a fence; a read of the other's producer, which showed the consumer or not; and anything else that it asks of the ring
abbrev pub fences : Check → Check
fences Stored = Fenced
fences Asleep = Asleep
fences c = Awake

abbrev pub looks : Check → (same : Bool) → Check
looks Fenced true = Asleep
looks c same = Awake

abbrev pub others : Check → Check
others Asleep = Asleep
others c = Awake

-- a write, of its event word or of another
abbrev pub writes : (event : Bool) → Check → Check
writes true Asleep = Asleep
writes true c = Stored
writes false c = others c

-- the front's event word is word 3 of the ring's first page, and the responses' producer word 2 (struct blkif_sring)
abbrev pub is_ring_word : (frame word which : ℕ) → Bool
is_ring_word frame word which = frame == ring_frame && word == which

-- a move of the front: its keys and watches leave the check as it was
abbrev pub front_checks : (consumer : ℕ) → FrontAsk → FrontAnswer → Check → Check
front_checks consumer front_ask.Wait front_answer.Event c = Awake
front_checks consumer front_ask.Fence a c = fences c
front_checks consumer (front_ask.Write frame word value) a c = writes (is_ring_word frame word 3) c
front_checks consumer (front_ask.Read frame word) (front_answer.Word value) c = if is_ring_word frame word 2 then looks c (value == consumer) else others c
front_checks consumer (front_ask.Cas frame word old new) a c = others c
front_checks consumer front_ask.NewPort a c = others c
front_checks consumer front_ask.Send a c = others c
front_checks consumer front_ask.ClosePort a c = others c
front_checks consumer ask a c = c

-- after a move, after something that happens, and after all this
abbrev pub front_check_by : World → Option FrontAct → Check → Check
front_check_by w None c = c
front_check_by w (Some a) c = front_checks w.rings.front.ring.indices.cons (front.ask_of (frontend_of w)) a.answer c

-- a front that is neither closed nor broken begins anew as its domain is suspended
abbrev pub front_begins : World → Bool
front_begins w = may_suspend w.rings && is_open w.rings.front.stage

abbrev pub front_check_in : World → Happening → Check → Check
front_check_in w FrontMoves c = front_check_by w (front_turn w) c
front_check_in w Suspends c = if front_begins w then Awake else c
front_check_in w h c = c

abbrev pub front_check : List Happening → World → Check → Check
front_check [] w c = c
front_check (h ∷ hs) w c = front_check hs (happens w h) (front_check_in w h c)

-- What an end knows of the other's state (`io/xenbus.h`): it has set no watch; it has set one, and read nothing since;
-- its watch fired, and it hasn't read since; or this is what it read last, where a text that says no state is `None`.
pub data Heard : Type 0 where
  Unwatched : Heard
  Watching : Heard
  Fired : Heard
  Read : (last : Option BusState) → Heard

abbrev pub front_hears : FrontAsk → FrontAnswer → Heard → Heard
front_hears front_ask.Wait (front_answer.Watched path) h = Fired
front_hears (front_ask.Watch path) a h = Watching
front_hears (front_ask.GetKey path) (front_answer.Key text) h = if bytes_eq path front.other_state then Read (state_read text) else h
front_hears ask a h = h

-- after a move, after something that happens, and after all this
abbrev pub front_heard_by : World → Option FrontAct → Heard → Heard
front_heard_by w None h = h
front_heard_by w (Some a) h = front_hears (front.ask_of (frontend_of w)) a.answer h

abbrev pub front_heard_in : World → Happening → Heard → Heard
front_heard_in w FrontMoves h = front_heard_by w (front_turn w) h
front_heard_in w Suspends h = if front_begins w then Unwatched else h
front_heard_in w happening h = h

abbrev pub front_heard : List Happening → World → Heard → Heard
front_heard [] w h = h
front_heard (happening ∷ hs) w h = front_heard hs (happens w happening) (front_heard_in w happening h)

-- the table gives nothing, or that the front closes, which it does already
abbrev pub GivesNoMore : (closing : Bool) → FrontAction → Type 0
GivesNoMore closing front_action.Nothing = Unit {0}
GivesNoMore closing front_action.Close = closing ≡ true
GivesNoMore closing action = ⊥

-- for what it read last, or it has read nothing yet
abbrev pub FrontHasDone : BusState → (closing idle : Bool) → Heard → Type 0
FrontHasDone own closing idle Watching = Unit {0}
FrontHasDone own closing idle (Read last) = GivesNoMore closing (tables.front_action own closing idle last)
FrontHasDone own closing idle h = ⊥

-- before Connected, or closing: nothing is served
abbrev pub is_unserved : BusState → Bool
is_unserved state.Initialising = true
is_unserved state.Initialised = true
is_unserved state.Closing = true
is_unserved s = false

-- it has done what the table gives; and a front that closes, with no request left, has written Closing
pub record FrontRests (w : World) (h : Heard) : Type 0 where
  pub done : FrontHasDone w.front.state w.front.closing (front_view.is_unoccupied w.rings.front) h
  pub closes : (w.front.closing && front_view.is_unoccupied w.rings.front) ≡ true → w.front.state ≡ state.Closing

-- connected and asleep after a final check that found nothing, with no request to be issued and no step of one begun
pub record FrontSleeps (w : World) (c : Check) (h : Heard) : Type 0 where
  pub connected : w.front.state ≡ state.Connected
  pub rests : FrontRests w h
  pub nothing_found : c ≡ Asleep
  pub none_waits : next_request w.rings.front ≡ None
  pub none_begun : front_view.is_still w.rings.front.stage ≡ true

-- closed or broken
abbrev pub FrontIsOver : World → Type 0
FrontIsOver w = (w.front.state ≡ state.Closed) ⊎ (front_view.is_broken w.rings.front.stage ≡ true)

abbrev pub FrontMayWait : World → Check → Heard → Type 0
FrontMayWait w c h = ((is_unserved w.front.state ≡ true) × FrontRests w h) ⊎ FrontSleeps w c h ⊎ FrontIsOver w

-- after all this it waits exactly in these cases
abbrev pub FrontWaitsAfter : Options → List Happening → Type 0
FrontWaitsAfter config hs =
    let w = after hs (start_of config) in
    let c = front_check hs (start_of config) Awake in
    let h = front_heard hs (start_of config) Unwatched in
    (front.ask_of (frontend_of w) ≡ front_ask.Wait) ↔ FrontMayWait w c h

-- so it is at every moment, whatever happens
abbrev pub FrontWaits : Type 0
FrontWaits = (config : Options) (hs : List Happening) → config.indirect ≤ 960 → FrontWaitsAfter config hs

-- the back's event word is word 1 of the ring's first page, and the requests' producer word 0
abbrev pub is_page_word : (page m : Mapping) → (word which : ℕ) → Bool
is_page_word page m word which = word == which && m.number == page.number

-- a move of the back: so do its keys and watches
abbrev pub back_checks : (page : Mapping) (consumer : ℕ) → BackAsk → BackAnswer → Check → Check
back_checks page consumer back_ask.Wait back_answer.Event c = Awake
back_checks page consumer back_ask.Wait a c = c
back_checks page consumer back_ask.Fence a c = fences c
back_checks page consumer (back_ask.Write m word value) a c = writes (is_page_word page m word 1) c
back_checks page consumer (back_ask.Read m word) (back_answer.Word value) c = if is_page_word page m word 0 then looks c (value == consumer) else others c
back_checks page consumer (back_ask.GetKey path) a c = c
back_checks page consumer (back_ask.SetKey path text) a c = c
back_checks page consumer (back_ask.Watch path) a c = c
back_checks page consumer ask a c = others c

-- after a move, after something that happens, and after all this
abbrev pub back_check_by : World → Option BackAct → Check → Check
back_check_by w None c = c
back_check_by w (Some a) c = back_checks (page_of w.rings.back 0) w.rings.back.ring.indices.cons (back.ask_of (backend_of w)) a.answer c

abbrev pub back_check_in : World → Happening → Check → Check
back_check_in w BackMoves c = back_check_by w (back_turn w) c
back_check_in w Suspends c = if may_suspend w.rings then Awake else c
back_check_in w h c = c

abbrev pub back_check : List Happening → World → Check → Check
back_check [] w c = c
back_check (h ∷ hs) w c = back_check hs (happens w h) (back_check_in w h c)

-- what it knows of the front's state
abbrev pub back_hears : BackAsk → BackAnswer → Heard → Heard
back_hears back_ask.Wait (back_answer.Watched path) h = Fired
back_hears (back_ask.Watch path) a h = Watching
back_hears (back_ask.GetKey path) (back_answer.Key text) h = if bytes_eq path back.other_state then Read (state_read text) else h
back_hears ask a h = h

-- after a move, after something that happens, and after all this
abbrev pub back_heard_by : World → Option BackAct → Heard → Heard
back_heard_by w None h = h
back_heard_by w (Some a) h = back_hears (back.ask_of (backend_of w)) a.answer h

abbrev pub back_heard_in : World → Happening → Heard → Heard
back_heard_in w BackMoves h = back_heard_by w (back_turn w) h
back_heard_in w Suspends h = if may_suspend w.rings then Unwatched else h
back_heard_in w happening h = h

abbrev pub back_heard : List Happening → World → Heard → Heard
back_heard [] w h = h
back_heard (happening ∷ hs) w h = back_heard hs (happens w happening) (back_heard_in w happening h)

-- the table gives nothing for what it read last, or it has read nothing yet
abbrev pub BackHasDone : BusState → (unplugged : Bool) → Heard → Type 0
BackHasDone own unplugged Watching = Unit {0}
BackHasDone own unplugged (Read last) = tables.back_action own unplugged last ≡ back_action.Nothing
BackHasDone own unplugged h = ⊥

-- so it is, it has not halted, and has said that it closes where it was asked to
pub record BackRests (w : World) (h : Heard) : Type 0 where
  pub done : BackHasDone w.back.state w.back.unplugged h
  pub runs : w.rings.back.halted ≡ None
  pub said : w.back.unplugged ≡ true → w.back.state ≢ state.Connected

-- connected, also where it has said since that it closes: it serves the ring
abbrev pub is_serving : BusState → Bool
is_serving state.Connected = true
is_serving state.Closing = true
is_serving s = false

-- it serves, and is asleep after a final check that found nothing, with no job to reply to and no entry or reply begun
pub record BackSleeps (w : World) (c : Check) (h : Heard) : Type 0 where
  pub serves : is_serving w.back.state ≡ true
  pub rests : BackRests w h
  pub nothing_found : c ≡ Asleep
  pub none_done : next_reply w.rings.back ≡ None
  pub none_begun : back.is_between w.rings.back.stage ≡ true

-- before Connected, asleep, or closed, which a back is that has halted and holds nothing
abbrev pub BackMayWait : World → Check → Heard → Type 0
BackMayWait w c h = ((w.back.state ≡ state.InitWait) × BackRests w h) ⊎ BackSleeps w c h ⊎ (w.back.state ≡ state.Closed)

-- after all this it waits exactly in these cases
abbrev pub BackWaitsAfter : Options → List Happening → Type 0
BackWaitsAfter config hs =
    let w = after hs (start_of config) in
    let c = back_check hs (start_of config) Awake in
    let h = back_heard hs (start_of config) Unwatched in
    (back.ask_of (backend_of w) ≡ back_ask.Wait) ↔ BackMayWait w c h

-- so it is at every moment, whatever happens
abbrev pub BackWaits : Type 0
BackWaits = (config : Options) (hs : List Happening) → config.indirect ≤ 960 → BackWaitsAfter config hs

-- a job that isn't held any more, or is done
abbrev pub IsOver : Option Work → Type 0
IsOver None = Unit {0}
IsOver (Some t) = is_done t ≡ true

-- A job is over, or one that was fetched before it holds it up at its beginning (BLKIF_OP_WRITE_BARRIER of `io/blkif.h`), or the back has halted.
abbrev pub JobMayWait : ring.View → ℕ → Type 0
JobMayWait v number = IsOver (work_of v.jobs.works number) ⊎ (is_held_up v.jobs.works number ≡ true) ⊎ (is_some v.halted ≡ true)

-- after all this the job of a number waits exactly in these cases
abbrev pub JobWaitsAfter : Options → List Happening → ℕ → Type 0
JobWaitsAfter config hs number =
    let w = after hs (start_of config) in (back_step.job_ask_of (backend_of w) number ≡ back_ask.Wait) ↔ JobMayWait w.rings.back number

-- so it is at every moment, whatever happens
abbrev pub JobWaits : Type 0
JobWaits = (config : Options) (hs : List Happening) (number : ℕ) → config.indirect ≤ 960 → JobWaitsAfter config hs number
