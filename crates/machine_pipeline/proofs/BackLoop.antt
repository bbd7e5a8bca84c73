-- The back's loop: it replies to what is done, or sleeps, or looks for more, or begins to copy the next entry.
use Rattle.std.proofs.Common.{◌≡◌, ℕ, ◌==◌, Bool, true, false, if◌then◌else◌, inr, List, [], ◌∷◌, ◌++◌, refl, sym, subst, arith}
use Rattle.std.specs.Prelude.{Option, Some, None}
use Rattle.std.proofs.lemmas.Bool.{false≢true}
use Rattle.blk_base.specs.Options.{Options}
use Rattle.blk_base.specs.declared.parts.End.TheVariants as end
use Rattle.blk_base.specs.declared.ask.BackAnswer.{BackAnswer}
use Rattle.blk_base.specs.declared.ask.BackAnswer.TheVariants as answer
use Rattle.blk_base.specs.declared.moves.BackMover.TheVariants as back_mover
use Rattle.blk_base.specs.declared.moves.Mover.TheVariants as mover
use Rattle.blk_base.specs.declared.moves.Move.{Move as Shown}
use Rattle.blk_base.specs.declared.moves.Move.TheVariants as moves
use Rattle.schedule_text.specs.declared.line.Line.{Line}
use Rattle.schedule_text.specs.declared.line.Line.TheVariants.{Move}
use Rattle.pipeline_laws.specs.Pipeline.{Pipeline}
use Rattle.ring_words.specs.Ring.{requests_of}
use Rattle.xen_pages.specs.Pages.{word_of}
use Rattle.grant_table.specs.Table.{frame_of}
use Rattle.event_channel.specs.Channels.{ChannelState, taken}
use Rattle.hypervisor.specs.Hypervisor.{Hypervisor}
use Rattle.hypervisor.specs.Act.{BackAct, Took, back_act, back_watched, watch_next, watch_taken}
use Rattle.blk_back.specs.declared.stage.Reply.{Reply}
use Rattle.blk_back.specs.declared.stage.BackStage.{BackStage}
use Rattle.blk_back.specs.declared.stage.BackStage.TheVariants as stage
use Rattle.blk_back.specs.View.{View, page_of, slot_page}
use Rattle.blk_back.specs.Ask.{next_reply, loop_ask, index_ask, entry_ask}
use Rattle.blk_back.specs.Step.{looked, loop_step}
use Rattle.split_model.specs.World.{World}
use Rattle.split_model.specs.Shown.{back_lines, halt_lines}
use Rattle.machine_pipeline.proofs.Flow.{Flow}
use Rattle.machine_pipeline.proofs.Holds.{Holds, IsFrontSleep}
use Rattle.machine_pipeline.proofs.Turns.{BackGoes, Goes, no_move}
use Rattle.machine_pipeline.proofs.Keyed.{goes_keyed}
use Rattle.machine_pipeline.proofs.BackStill.{BackStands}
use Rattle.machine_pipeline.proofs.BackQuiet.{IsBetween, goes_still, quiet_with, between, goes_quiet}
use Rattle.machine_pipeline.proofs.BackWrites.{slot_is}
use Rattle.machine_pipeline.proofs.Slots.{response_fits}
use Rattle.blk_base.specs.declared.ask.BackAsk.{BackAsk}
use Rattle.blk_base.specs.declared.ask.BackAsk.TheVariants as ask
use Rattle.machine_pipeline.proofs.BackLooks.{goes_loop_look}
use Rattle.machine_pipeline.proofs.BackFetch.{entry_word, goes_first}
use Rattle.machine_pipeline.proofs.BackReplyBegins.{goes_reply}
use Rattle.machine_pipeline.specs.Step.{IsSame}

abbrev pub says_by : World → (BackAnswer → View) → Option BackAct → List Line
says_by w step None = []
says_by w step (Some a) =
    let v : View = step a.answer in
    Move a.shown ∷ back_lines v.told a.answer ++ halt_lines w.back.halted v.halted

abbrev pub next_by : World → (BackAnswer → View) → Option BackAct → World
next_by w step None = w
next_by w step (Some a) = record { front = w.front; back = record (step a.answer) { told = None }; under = a.under }

-- a move by what it asks, and what an answer makes of the back
abbrev pub ActGoes : Options → World → Pipeline → (BackAnswer → View) → Option BackAct → Type 0
ActGoes config w d step act = Goes config (says_by w step act) (next_by w step act) d

-- no event is there to be taken
pub stays : (config : Options) (w : World) (g : Flow) (d : Pipeline) (b : BackStage) → BackStands config w g d b → Goes config [] w d
stays config w g d b p = record { flow = g; steps = []; does = no_move IsSame d (λ a b same. same); holds = subst (λ (s : BackStage). Holds config w g d w.front.stage s) (sym p.at) p.holds }

-- an event wakes the back
goes_woken : (config : Options) (w : World) (g : Flow) (d : Pipeline) (shown : Shown) (given : BackAnswer) (c : ChannelState)
    → c.front_pending ≡ w.under.channels.front_pending
    → c.made ≡ w.under.channels.made
    → c.ports ≡ w.under.channels.ports
    → BackStands config w g d stage.Loop
    → Goes config (Move shown ∷ back_lines w.back.told given ++ halt_lines w.back.halted w.back.halted) (record { front = w.front; back = record w.back { ring = record w.back.ring { asleep = false }; told = None }; under = (let u : Hypervisor = w.under in record u { channels = c }) }) d
goes_woken config w g d shown given c pending made ports p =
    let h : Holds config w g d w.front.stage stage.Loop = p.holds in
    let i : IsBetween stage.Loop w.back = between stage.Loop w.back refl refl refl in
    subst (λ (s : BackStage). Goes config (Move shown ∷ back_lines w.back.told given ++ halt_lines w.back.halted w.back.halted) (record { front = w.front; back = record w.back { stage = s; ring = record w.back.ring { asleep = false }; told = None }; under = (let u : Hypervisor = w.under in record u { channels = c }) }) d) (sym p.at)
    (goes_still config w g d stage.Loop stage.Loop (record w.back { ring = record w.back.ring { asleep = false } }) w.under.pages c g.back_seen shown given p
    (quiet_with config w g d stage.Loop stage.Loop false w.back.ring.seen w.back.ring.entry c g.back_seen h i i h.stations h.indices tt
    (subst (λ (b : Bool). IsFrontSleep g.start g.taken g.replied w.under.pages w.front.ring.asleep b w.front.stage stage.Loop) (sym pending) h.front_sleep)
    (record { arming = λ t. absurd (false≢true t); armed = λ t. absurd (false≢true t); may = λ t. refl; woken = λ t. absurd (false≢true t) })
    made ports))

-- a watch leaves it as it is
goes_watched : (config : Options) (w : World) (g : Flow) (d : Pipeline) (shown : Shown) (given : BackAnswer) → BackStands config w g d stage.Loop
    → Goes config (Move shown ∷ back_lines w.back.told given ++ halt_lines w.back.halted w.back.halted) (record { front = w.front; back = record w.back { told = None }; under = w.under }) d
goes_watched config w g d shown given p =
    let i : IsBetween stage.Loop w.back = between stage.Loop w.back refl refl refl in
    subst (λ (s : BackStage). Goes config (Move shown ∷ back_lines w.back.told given ++ halt_lines w.back.halted w.back.halted) (record { front = w.front; back = record w.back { stage = s; told = None }; under = w.under }) d) (sym p.at)
    (goes_quiet config w g d stage.Loop stage.Loop shown given p i i p.holds.stations tt (λ t r. inr (inr r)) (λ t. t) (λ t. cc))

waits : (config : Options) (w : World) (g : Flow) (d : Pipeline) (pending : Bool) (next : Option (List ℕ)) → BackStands config w g d stage.Loop
    → ActGoes config w d (loop_step w.back None) (if pending then Some (record { answer = answer.Event; under = (let u : Hypervisor = w.under in record u { channels = taken w.under.channels end.Back }); shown = moves.Event mover.Back }) else back_watched w.under next)
waits config w g d true next p = goes_woken config w g d (moves.Event mover.Back) answer.Event (taken w.under.channels end.Back) refl refl refl p
waits config w g d false None p = stays config w g d stage.Loop p
waits config w g d false (Some path) p =
    goes_keyed config _ _ d (watch_taken w.under end.Back).keys (goes_watched config w g d (moves.Watched mover.Back path) (answer.Watched path) p)

-- the producer, or the next entry's first word
abbrev read_ask : Bool → View → BackAsk
read_ask none v = if none then index_ask v 0 else entry_ask v 0

abbrev read_step : Bool → View → BackAnswer → View
read_step none v (answer.Word word) = if none then looked v word (record v { ring = record v.ring { seen = word }; stage = stage.StoreEvent }) else record v { ring = record v.ring { entry = word ∷ [] }; stage = stage.Fetch 1 }
read_step none v answer.Event = record v { ring = record v.ring { asleep = false } }
read_step none v given = v

reads : (config : Options) (w : World) (g : Flow) (d : Pipeline) (none : Bool) → (requests_of w.back.ring.indices w.back.ring.seen == 0) ≡ none → w.back.ring.asleep ≡ false → BackStands config w g d stage.Loop
    → ActGoes config w d (read_step none w.back) (back_act w.under back_mover.Back (read_ask none w.back) Took)
reads config w g d true some awake p = goes_loop_look config w g d _ _ (word_of w.under.pages (frame_of w.under.grants (page_of w.back 0)) 0) refl awake p
reads config w g d false some awake p = goes_first config w g d _ _ (entry_word w 0) refl awake some p

looks : (config : Options) (w : World) (g : Flow) (d : Pipeline) (asleep : Bool) → w.back.ring.asleep ≡ asleep → BackStands config w g d stage.Loop
    → ActGoes config w d (loop_step w.back None) (back_act w.under back_mover.Back (if asleep then ask.Wait else read_ask (requests_of w.back.ring.indices w.back.ring.seen == 0) w.back) Took)
looks config w g d true sleeps p = waits config w g d w.under.channels.back_pending (watch_next w.under end.Back) p
looks config w g d false sleeps p = reads config w g d (requests_of w.back.ring.indices w.back.ring.seen == 0) refl sleeps p

loops : (config : Options) (w : World) (g : Flow) (d : Pipeline) (r : Option Reply) → next_reply w.back ≡ r → BackStands config w g d stage.Loop
    → ActGoes config w d (loop_step w.back r) (back_act w.under back_mover.Back (loop_ask w.back r) Took)
loops config w g d (Some rep) e p =
    goes_reply config w g d rep (frame_of w.under.grants (slot_page w.back w.back.ring.indices.prod 0)) _ _ p (slot_is config w g d stage.Loop w.back.ring.indices.prod 0 p refl refl (response_fits g.shape.abi 0 (omega arith))) e
loops config w g d None e p = looks config w g d w.back.ring.asleep refl p

pub goes_loop : (config : Options) (w : World) (g : Flow) (d : Pipeline) → BackStands config w g d stage.Loop → BackGoes config w d stage.Loop
goes_loop config w g d p = loops config w g d (next_reply w.back) refl p
