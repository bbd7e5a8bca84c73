-- What is done at an ask: the answer that its end is told, what lies under the ends after it, and the move that a report shows.
use Rattle.std.specs.Prelude.{◌≡◌, ℕ, ◌+◌, ◌^◌, ◌<◌, All, length, Bool, List, Option, Some, None, Result, Ok, Err, if◌then◌else◌, ◌==◌, ◌||◌}
use Rattle.std.specs.Option.{option_map}
use Rattle.blk_base.specs.declared.parts.Mode.{Mode}
use Rattle.blk_base.specs.declared.parts.End.{End}
use Rattle.blk_base.specs.declared.parts.End.TheVariants as end
use Rattle.blk_base.specs.declared.ask.FrontAsk.{FrontAsk}
use Rattle.blk_base.specs.declared.ask.FrontAsk.TheVariants as front_ask
use Rattle.blk_base.specs.declared.ask.FrontAnswer.{FrontAnswer}
use Rattle.blk_base.specs.declared.ask.FrontAnswer.TheVariants as front_answer
use Rattle.blk_base.specs.declared.ask.BackAsk.{BackAsk}
use Rattle.blk_base.specs.declared.ask.BackAsk.TheVariants as back_ask
use Rattle.blk_base.specs.declared.ask.BackAnswer.{BackAnswer}
use Rattle.blk_base.specs.declared.ask.BackAnswer.TheVariants as back_answer
use Rattle.blk_base.specs.declared.moves.BackMover.{BackMover}
use Rattle.blk_base.specs.declared.moves.BackMover.TheVariants as back_mover
use Rattle.blk_base.specs.declared.moves.Mover.{Mover}
use Rattle.blk_base.specs.declared.moves.Mover.TheVariants as mover
use Rattle.blk_base.specs.declared.moves.Move.{Move}
use Rattle.blk_base.specs.declared.moves.Move.TheVariants as moves
use Rattle.xen_pages.specs.Pages.{word_of, with_word}
use Rattle.grant_table.specs.declared.entry.MapRefusal.{MapRefusal}
use Rattle.grant_table.specs.Entry.{status_of}
use Rattle.grant_table.specs.Table.{frame_of, verdict_at, next_mapping, map_table, map_pages, unmap_table, unmap_pages}
use Rattle.event_channel.specs.declared.channels.PortState.{PortState}
use Rattle.event_channel.specs.declared.channels.PortState.TheVariants as port
use Rattle.event_channel.specs.Channels.{state_of, with_port, bound, is_pending, sent, taken, closed}
use Rattle.key_directory.specs.Paths.{is_under, directory_of}
use Rattle.key_directory.specs.Watches.{with_watch, next_watch, has_pending, taken as taken_watch}
use Rattle.key_directory.specs.Directory.{Directory, key_of, written, watches_of, with_watches}
use Rattle.hypervisor.specs.Hypervisor.{Hypervisor}

pub record FrontAct : Type 0 where
  pub answer : FrontAnswer
  pub under : Hypervisor
  pub shown : Move

pub record BackAct : Type 0 where
  pub answer : BackAnswer
  pub under : Hypervisor
  pub shown : Move

-- what the disk answers a call: the words of the sector that was read, that it took the call, or that it failed
pub data Outcome : Type 0 where
  Gave : (words : List ℕ) → Outcome
  Took : Outcome
  Failed : Outcome

-- a sector that the disk gave has 128 words of 32 bits
abbrev pub IsGiven : Outcome → Type 0
IsGiven (Gave words) = (length words ≡ 128) × All (λ (word : ℕ). word < 2 ^ 32) words
IsGiven outcome = Unit {0}

abbrev pub with_pages : Hypervisor → List ℕ → Hypervisor
with_pages h pages = record h { pages = pages }

-- compare and exchange: the new word where the old one was seen
abbrev pub exchanged : List ℕ → ℕ → ℕ → ℕ → ℕ → List ℕ
exchanged pages frame word old new = if word_of pages frame word == old then with_word pages frame word new else pages

-- keys alone change
abbrev pub with_keys : Hypervisor → Directory → Hypervisor
with_keys h keys = record h { keys = keys }

-- the text at a path
abbrev pub key_at : Hypervisor → List ℕ → Option (List ℕ)
key_at h path = key_of h.keys.keys path

-- an end writes under its own directory alone
abbrev pub is_own_path : End → List ℕ → Bool
is_own_path who path = is_under (directory_of who) path

-- a text is written at a path
abbrev pub key_set : Hypervisor → List ℕ → List ℕ → Hypervisor
key_set h path text = with_keys h (written h.keys path text)

-- where it is done at all
abbrev pub set_done : Bool → Hypervisor → List ℕ → List ℕ → Hypervisor
set_done done h path text = if done then key_set h path text else h

-- an end watches a path
abbrev pub watch_set : Hypervisor → End → List ℕ → Hypervisor
watch_set h who path = with_keys h (with_watches h.keys who (with_watch (watches_of h.keys who) path))

-- the watch of an end that fired first, if one did, and without it
abbrev pub watch_next : Hypervisor → End → Option (List ℕ)
watch_next h who = next_watch (watches_of h.keys who)

abbrev pub watch_taken : Hypervisor → End → Hypervisor
watch_taken h who = with_keys h (with_watches h.keys who (taken_watch (watches_of h.keys who)))

-- an event of the end is pending, or one of its watches
abbrev pub has_to_take : Hypervisor → End → Bool
has_to_take h who = is_pending h.channels who || has_pending (watches_of h.keys who)

-- the front takes the watch that fired first; none where none did
abbrev pub front_watched : Hypervisor → Option (List ℕ) → Option FrontAct
front_watched h None = None
front_watched h (Some path) = Some (record { answer = front_answer.Watched path; under = watch_taken h end.Front; shown = moves.Watched mover.Front path })

-- the front's act; none where it waits and neither an event is pending nor a watch, or writes a key outside its own directory
abbrev pub front_act : Hypervisor → FrontAsk → Option FrontAct
front_act h front_ask.Wait =
    if is_pending h.channels end.Front
    then Some (record { answer = front_answer.Event; under = record h { channels = taken h.channels end.Front }; shown = moves.Event mover.Front })
    else front_watched h (watch_next h end.Front)
front_act h front_ask.Fence = Some (record { answer = front_answer.Done; under = h; shown = moves.Fence mover.Front })
front_act h (front_ask.Read frame word) = Some (record {
  answer = front_answer.Word (word_of h.pages frame word);
  under = h;
  shown = moves.FrontRead frame word (word_of h.pages frame word);
})
front_act h (front_ask.Write frame word value) = Some (record {
  answer = front_answer.Done;
  under = with_pages h (with_word h.pages frame word value);
  shown = moves.FrontWrite frame word value;
})
front_act h (front_ask.Cas frame word old new) = Some (record {
  answer = front_answer.Word (word_of h.pages frame word);
  under = with_pages h (exchanged h.pages frame word old new);
  shown = moves.FrontCas frame word old new (word_of h.pages frame word);
})
front_act h front_ask.NewPort = Some (record {
  answer = front_answer.Port (h.channels.made + 1);
  under = record h { channels = with_port h.channels };
  shown = moves.FrontPort (h.channels.made + 1);
})
front_act h front_ask.Send = Some (record { answer = front_answer.Done; under = record h { channels = sent h.channels end.Front }; shown = moves.Send mover.Front })
front_act h front_ask.ClosePort = Some (record { answer = front_answer.Done; under = record h { channels = closed h.channels end.Front }; shown = moves.ClosePort mover.Front })
front_act h (front_ask.GetKey path) = Some (record { answer = front_answer.Key (key_at h path); under = h; shown = moves.GetKey mover.Front path (key_at h path) })
front_act h (front_ask.SetKey path text) =
    if is_own_path end.Front path
    then Some (record { answer = front_answer.Done; under = key_set h path text; shown = moves.SetKey mover.Front path text })
    else None
front_act h (front_ask.Watch path) = Some (record { answer = front_answer.Done; under = watch_set h end.Front path; shown = moves.Watch mover.Front path })

-- the front's move on a key or a watch, or its event
abbrev pub front_key_shown : FrontAsk → FrontAnswer → Move
front_key_shown (front_ask.GetKey path) (front_answer.Key text) = moves.GetKey mover.Front path text
front_key_shown (front_ask.SetKey path text) answer = moves.SetKey mover.Front path text
front_key_shown (front_ask.Watch path) answer = moves.Watch mover.Front path
front_key_shown front_ask.Wait (front_answer.Watched path) = moves.Watched mover.Front path
front_key_shown ask answer = moves.Event mover.Front

-- the move that a report shows, by what the front asked and was answered
abbrev pub front_shown : FrontAsk → FrontAnswer → Move
front_shown front_ask.Fence answer = moves.Fence mover.Front
front_shown (front_ask.Read frame word) (front_answer.Word value) = moves.FrontRead frame word value
front_shown (front_ask.Write frame word value) answer = moves.FrontWrite frame word value
front_shown (front_ask.Cas frame word old new) (front_answer.Word seen) = moves.FrontCas frame word old new seen
front_shown front_ask.NewPort (front_answer.Port port) = moves.FrontPort port
front_shown front_ask.Send answer = moves.Send mover.Front
front_shown front_ask.ClosePort answer = moves.ClosePort mover.Front
front_shown ask answer = front_key_shown ask answer

-- what the front was answered, with the move that a report shows
abbrev pub front_with_move : FrontAsk → Option FrontAnswer → Option (FrontAnswer × Move)
front_with_move ask answer = option_map (λ (a : FrontAnswer). (a, front_shown ask a)) answer

-- what is told and shown of an act
abbrev pub front_seen : Option FrontAct → Option (FrontAnswer × Move)
front_seen act = option_map (λ (a : FrontAct). (a.answer, a.shown)) act

-- what lies under the ends after an act; where there was none, what lay there
abbrev pub front_under : Hypervisor → Option FrontAct → Hypervisor
front_under h None = h
front_under h (Some a) = a.under

-- who moves, as other moves show it
abbrev pub mover_of : BackMover → Mover
mover_of back_mover.Back = mover.Back
mover_of (back_mover.Job k) = mover.Job k

-- the number of a job; the back itself calls no disk
abbrev pub job_number : BackMover → ℕ
job_number back_mover.Back = 0
job_number (back_mover.Job k) = k

-- a map, by the verdict on the entry as it stands
abbrev pub map_act : Hypervisor → BackMover → ℕ → Mode → Result ℕ MapRefusal → BackAct
map_act h who gref mode (Ok frame) = record {
  answer = back_answer.Mapped (next_mapping h.grants gref mode);
  under = record h { grants = map_table h.grants gref mode (Ok frame); pages = map_pages h.pages gref mode (Ok frame) };
  shown = moves.Map who gref mode (h.grants.made + 1) frame;
}
map_act h who gref mode (Err refusal) = record { answer = back_answer.MapRefused (status_of refusal); under = h; shown = moves.MapRefused who gref mode (status_of refusal) }

-- a bind succeeds exactly at an unbound port
abbrev pub bind_act : Hypervisor → ℕ → PortState → BackAct
bind_act h p port.Unbound = record { answer = back_answer.Done; under = record h { channels = bound h.channels p }; shown = moves.Bind p }
bind_act h p state = record { answer = back_answer.BindRefused; under = h; shown = moves.BindRefused p }

abbrev pub read_act : Hypervisor → Move → Outcome → Option BackAct
read_act h shown (Gave words) = Some (record { answer = back_answer.Sector words; under = h; shown = shown })
read_act h shown Failed = Some (record { answer = back_answer.DiskFailed; under = h; shown = shown })
read_act h shown Took = None

-- a call of the disk that gives nothing back
abbrev pub disk_act : Hypervisor → Move → Outcome → Option BackAct
disk_act h shown Took = Some (record { answer = back_answer.Done; under = h; shown = shown })
disk_act h shown Failed = Some (record { answer = back_answer.DiskFailed; under = h; shown = shown })
disk_act h shown (Gave words) = None

-- the back takes the watch that fired first; none where none did
abbrev pub back_watched : Hypervisor → Option (List ℕ) → Option BackAct
back_watched h None = None
back_watched h (Some path) = Some (record { answer = back_answer.Watched path; under = watch_taken h end.Back; shown = moves.Watched mover.Back path })

-- the back waits: it takes its event, or else its watch; a job that waits is told nothing
abbrev pub wait_act : Hypervisor → BackMover → Option BackAct
wait_act h back_mover.Back =
    if is_pending h.channels end.Back
    then Some (record { answer = back_answer.Event; under = record h { channels = taken h.channels end.Back }; shown = moves.Event mover.Back })
    else back_watched h (watch_next h end.Back)
wait_act h (back_mover.Job k) = None

-- the back's keys and watches; a job has none, and is told nothing
abbrev pub get_act : Hypervisor → BackMover → List ℕ → Option BackAct
get_act h back_mover.Back path = Some (record { answer = back_answer.Key (key_at h path); under = h; shown = moves.GetKey mover.Back path (key_at h path) })
get_act h (back_mover.Job k) path = None

abbrev pub set_act : Hypervisor → BackMover → List ℕ → List ℕ → Option BackAct
set_act h back_mover.Back path text =
    if is_own_path end.Back path
    then Some (record { answer = back_answer.Done; under = key_set h path text; shown = moves.SetKey mover.Back path text })
    else None
set_act h (back_mover.Job k) path text = None

abbrev pub watch_act : Hypervisor → BackMover → List ℕ → Option BackAct
watch_act h back_mover.Back path = Some (record { answer = back_answer.Done; under = watch_set h end.Back path; shown = moves.Watch mover.Back path })
watch_act h (back_mover.Job k) path = None

-- the act of the back or a job; none where it waits and neither an event is pending nor a watch, where the disk's outcome isn't one of its ask, where a key is written outside the back's own directory, or where a job asks for a key
abbrev pub back_act : Hypervisor → BackMover → BackAsk → Outcome → Option BackAct
back_act h who back_ask.Wait outcome = wait_act h who
back_act h who back_ask.Fence outcome = Some (record { answer = back_answer.Done; under = h; shown = moves.Fence (mover_of who) })
back_act h who (back_ask.Read m word) outcome =
    let frame = frame_of h.grants m in
    Some (record { answer = back_answer.Word (word_of h.pages frame word); under = h; shown = moves.Read who m.number frame word (word_of h.pages frame word) })
back_act h who (back_ask.Write m word value) outcome =
    let frame = frame_of h.grants m in
    Some (record { answer = back_answer.Done; under = with_pages h (with_word h.pages frame word value); shown = moves.Write who m.number frame word value })
back_act h who (back_ask.Map gref mode) outcome = Some (map_act h who gref mode (verdict_at h.pages gref mode))
back_act h who (back_ask.Unmap m) outcome = Some (record {
  answer = back_answer.Done;
  under = record h { grants = unmap_table h.grants m; pages = unmap_pages h.grants h.pages m };
  shown = moves.Unmap who m.number;
})
back_act h who (back_ask.Bind p) outcome = Some (bind_act h p (state_of h.channels p))
back_act h who back_ask.Send outcome = Some (record { answer = back_answer.Done; under = record h { channels = sent h.channels end.Back }; shown = moves.Send (mover_of who) })
back_act h who back_ask.ClosePort outcome = Some (record { answer = back_answer.Done; under = record h { channels = closed h.channels end.Back }; shown = moves.ClosePort (mover_of who) })
back_act h who (back_ask.GetKey path) outcome = get_act h who path
back_act h who (back_ask.SetKey path text) outcome = set_act h who path text
back_act h who (back_ask.Watch path) outcome = watch_act h who path
back_act h who (back_ask.DiskRead sector) outcome = read_act h (moves.DiskRead (job_number who) sector) outcome
back_act h who (back_ask.DiskWrite sector words) outcome = disk_act h (moves.DiskWrite (job_number who) sector) outcome
back_act h who back_ask.Flush outcome = disk_act h (moves.DiskFlush (job_number who)) outcome
back_act h who (back_ask.Trim sector count) outcome = disk_act h (moves.DiskTrim (job_number who) sector count) outcome

-- the move that a report shows, by what the back or a job asked and was answered, and what lies under the ends after it
abbrev pub back_shown : Hypervisor → BackMover → BackAsk → BackAnswer → Move
back_shown h who back_ask.Fence answer = moves.Fence (mover_of who)
back_shown h who (back_ask.Read m word) (back_answer.Word value) = moves.Read who m.number (frame_of h.grants m) word value
back_shown h who (back_ask.Write m word value) answer = moves.Write who m.number (frame_of h.grants m) word value
back_shown h who (back_ask.Map gref mode) (back_answer.Mapped m) = moves.Map who gref mode m.number (frame_of h.grants m)
back_shown h who (back_ask.Map gref mode) (back_answer.MapRefused status) = moves.MapRefused who gref mode status
back_shown h who (back_ask.Unmap m) answer = moves.Unmap who m.number
back_shown h who (back_ask.Bind p) back_answer.BindRefused = moves.BindRefused p
back_shown h who (back_ask.Bind p) answer = moves.Bind p
back_shown h who back_ask.Send answer = moves.Send (mover_of who)
back_shown h who back_ask.ClosePort answer = moves.ClosePort (mover_of who)
back_shown h who (back_ask.GetKey path) (back_answer.Key text) = moves.GetKey (mover_of who) path text
back_shown h who (back_ask.SetKey path text) answer = moves.SetKey (mover_of who) path text
back_shown h who (back_ask.Watch path) answer = moves.Watch (mover_of who) path
back_shown h who back_ask.Wait (back_answer.Watched path) = moves.Watched (mover_of who) path
back_shown h who (back_ask.DiskRead sector) answer = moves.DiskRead (job_number who) sector
back_shown h who (back_ask.DiskWrite sector words) answer = moves.DiskWrite (job_number who) sector
back_shown h who back_ask.Flush answer = moves.DiskFlush (job_number who)
back_shown h who (back_ask.Trim sector count) answer = moves.DiskTrim (job_number who) sector count
back_shown h who ask answer = moves.Event (mover_of who)

-- what the back or a job was answered, with the move that a report shows
abbrev pub back_with_move : Hypervisor → BackMover → BackAsk → Option BackAnswer → Option (BackAnswer × Move)
back_with_move h who ask answer = option_map (λ (a : BackAnswer). (a, back_shown h who ask a)) answer

-- what is told and shown of an act
abbrev pub back_seen : Option BackAct → Option (BackAnswer × Move)
back_seen act = option_map (λ (a : BackAct). (a.answer, a.shown)) act

-- what lies under the ends after an act; where there was none, what lay there
abbrev pub back_under : Hypervisor → Option BackAct → Hypervisor
back_under h None = h
back_under h (Some a) = a.under

-- what the disk did, by what was told
abbrev pub outcome_told : BackAnswer → Outcome
outcome_told (back_answer.Sector words) = Gave words
outcome_told back_answer.DiskFailed = Failed
outcome_told answer = Took

abbrev pub outcome_of : Option BackAnswer → Outcome
outcome_of None = Took
outcome_of (Some answer) = outcome_told answer
