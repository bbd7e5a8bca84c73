-- Both ends of a negotiation and the directory between them (`io/xenbus.h`), and what a move of an end makes of them.
use Rattle.std.specs.Prelude.{ℕ, Bool, false, List, Option, Some, None, codes, decimal}
use Rattle.blk_base.specs.declared.parts.End.TheVariants.{Front, Back}
use Rattle.blk_base.specs.declared.parts.Mapping.{Mapping}
use Rattle.blk_base.specs.declared.ask.FrontAnswer.{FrontAnswer}
use Rattle.blk_base.specs.declared.ask.FrontAnswer.TheVariants as front_answer
use Rattle.blk_base.specs.declared.ask.BackAnswer.{BackAnswer}
use Rattle.blk_base.specs.declared.ask.BackAnswer.TheVariants as back_answer
use Rattle.key_directory.specs.Directory.{Directory, fresh_directory, key_of, written}
use Rattle.key_directory.specs.Watches.{with_watch, next_watch, taken}
use Rattle.xenbus_state.specs.Keys.{front_name, back_name, path_under}
use Rattle.xenbus_state.specs.States.{state_number}
use Rattle.xenbus_state.specs.Values.{text_of}
use Rattle.xenbus_state.specs.declared.keys.FrontKey.{FrontKey}
use Rattle.xenbus_state.specs.declared.keys.BackKey.{BackKey}
use Rattle.xenbus_state.specs.declared.state.BusState.{BusState}
use Rattle.xenbus_state.specs.declared.offer.Features.{Features}
use Rattle.xenbus_state.specs.declared.offer.DiskFacts.{DiskFacts}
use Rattle.xenbus_state.specs.declared.front.FrontBusAsk.{FrontBusAsk}
use Rattle.xenbus_state.specs.declared.front.FrontBusAsk.TheVariants as front_ask
use Rattle.xenbus_state.specs.declared.back.BackBusAsk.{BackBusAsk}
use Rattle.xenbus_state.specs.declared.back.BackBusAsk.TheVariants as back_ask
use Rattle.xenbus_state.specs.declared.state.BusState.TheVariants as state
use Rattle.xenbus_state.specs.declared.stage.FrontBusStage.TheVariants as stage
use Rattle.xenbus_state.specs.FrontView.{FrontView}
use Rattle.xenbus_state.specs.FrontAsk as front_asks
use Rattle.xenbus_state.specs.FrontStep as front_step
use Rattle.xenbus_state.specs.BackView as back
use Rattle.xenbus_state.specs.BackView.{BackView}
use Rattle.xenbus_state.specs.BackAsk as back_asks
use Rattle.xenbus_state.specs.BackStep as back_step

-- both ends, and the directory
pub record Negotiation : Type 0 where
  pub front : FrontView
  pub back : BackView
  pub keys : Directory

-- where a key of an end lies, and where its state
abbrev pub front_path : FrontKey → List ℕ
front_path key = path_under Front (front_name key)

-- a key of the back
abbrev pub back_path : BackKey → List ℕ
back_path key = path_under Back (back_name key)

-- the state of the front
abbrev pub front_state : List ℕ
front_state = path_under Front (codes "state")

-- the state of the back
abbrev pub back_state : List ℕ
back_state = path_under Back (codes "state")

-- the text of a state
abbrev pub state_text : BusState → List ℕ
state_text s = decimal (state_number s)

-- what the directory has at a path
abbrev pub key_read : Directory → List ℕ → Option (List ℕ)
key_read d path = key_of d.keys path

-- A front at the beginning of an epoch: of its first, or after a suspend. It may be closing, and has the features and the disk of the epoch before.
abbrev pub new_epoch : FrontView → FrontView
new_epoch v = record v { stage = stage.Start; state = state.Initialising; gone = false; port = None }

-- both ends at the beginning of an epoch: the back is new, and the directory has their states alone
abbrev pub start_of : FrontView → Features → DiskFacts → Negotiation
start_of v features disk = record { front = new_epoch v; back = back.start_of features disk; keys = fresh_directory (codes "1") }

-- An end that waits takes its oldest watch that fired; where none has, nothing happens.
abbrev pub front_woken : Option (List ℕ) → FrontAnswer
front_woken None = front_answer.Event
front_woken (Some path) = front_answer.Watched path

-- so the back
abbrev pub back_woken : Option (List ℕ) → BackAnswer
back_woken None = back_answer.Event
back_woken (Some path) = back_answer.Watched path

-- What the front is answered: by the directory, and with this port where it makes one.
abbrev pub front_answered : FrontBusAsk → (port : ℕ) → Directory → FrontAnswer
front_answered front_ask.Wait port d = front_woken (next_watch d.front)
front_answered front_ask.GetState port d = front_answer.Key (key_read d back_state)
front_answered (front_ask.GetKey key) port d = front_answer.Key (key_read d (back_path key))
front_answered front_ask.NewPort port d = front_answer.Port port
front_answered ask port d = front_answer.Done

-- What its ask makes of the directory.
abbrev pub front_done : FrontBusAsk → Directory → Directory
front_done front_ask.Wait d = record d { front = taken d.front }
front_done front_ask.Watch d = record d { front = with_watch d.front back_state }
front_done (front_ask.SetState s) d = written d front_state (state_text s)
front_done (front_ask.SetKey key value) d = written d (front_path key) (text_of value)
front_done ask d = d

-- What the back is answered: by the directory, and with this mapping where it maps a page. No map and no port is refused.
abbrev pub back_answered : BackBusAsk → (page : Mapping) → Directory → BackAnswer
back_answered back_ask.Wait page d = back_woken (next_watch d.back)
back_answered back_ask.GetState page d = back_answer.Key (key_read d front_state)
back_answered (back_ask.GetKey key) page d = back_answer.Key (key_read d (front_path key))
back_answered (back_ask.Map gref) page d = back_answer.Mapped page
back_answered ask page d = back_answer.Done

-- what its ask makes of the directory
abbrev pub back_done : BackBusAsk → Directory → Directory
back_done back_ask.Wait d = record d { back = taken d.back }
back_done back_ask.Watch d = record d { back = with_watch d.back front_state }
back_done (back_ask.SetState s) d = written d back_state (state_text s)
back_done (back_ask.SetKey key value) d = written d (back_path key) (text_of value)
back_done ask d = d

-- a move of the front, while it is idle or not
abbrev pub front_moved : (idle : Bool) (port : ℕ) → Negotiation → Negotiation
front_moved idle port n = record {
  front = front_step.step_of n.front idle (front_answered (front_asks.ask_of n.front idle) port n.keys);
  back = n.back;
  keys = front_done (front_asks.ask_of n.front idle) n.keys;
}

-- a move of the back
abbrev pub back_moved : (page : Mapping) → Negotiation → Negotiation
back_moved page n = record {
  front = n.front;
  back = back_step.step_of n.back (back_answered (back_asks.ask_of n.back) page n.keys);
  keys = back_done (back_asks.ask_of n.back) n.keys;
}
