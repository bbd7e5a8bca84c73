-- What each ask's act may be: a law over acts says which of them matter to it, and has no case for the others.
use Rattle.std.proofs.Common.{◌≡◌, ℕ, ◌+◌, Bool, true, false, if◌then◌else◌, List, refl, subst}
use Rattle.std.specs.Prelude.{Option, Some, None, Result, Ok, Err}
use Rattle.std.proofs.lemmas.Option.{none-some, same_Some}
use Rattle.blk_base.specs.declared.parts.Mapping.{Mapping}
use Rattle.blk_base.specs.declared.parts.Mode.{Mode}
use Rattle.blk_base.specs.declared.parts.End.TheVariants as end
use Rattle.blk_base.specs.declared.ask.FrontAsk.{FrontAsk}
use Rattle.blk_base.specs.declared.ask.FrontAsk.TheVariants as front_ask
use Rattle.blk_base.specs.declared.ask.FrontAnswer.{FrontAnswer}
use Rattle.blk_base.specs.declared.ask.FrontAnswer.TheVariants as front_answer
use Rattle.blk_base.specs.declared.ask.BackAsk.{BackAsk}
use Rattle.blk_base.specs.declared.ask.BackAsk.TheVariants as back_ask
use Rattle.blk_base.specs.declared.ask.BackAnswer.{BackAnswer}
use Rattle.blk_base.specs.declared.ask.BackAnswer.TheVariants as back_answer
use Rattle.blk_base.specs.declared.moves.BackMover.{BackMover}
use Rattle.blk_base.specs.declared.moves.BackMover.TheVariants as back_mover
use Rattle.blk_base.specs.declared.moves.Mover.TheVariants as mover
use Rattle.blk_base.specs.declared.moves.Move.{Move}
use Rattle.blk_base.specs.declared.moves.Move.TheVariants as moves
use Rattle.xen_pages.specs.Pages.{word_of, with_word}
use Rattle.grant_table.specs.declared.entry.MapRefusal.{MapRefusal}
use Rattle.grant_table.specs.Table.{frame_of, verdict_at, unmap_table, unmap_pages}
use Rattle.event_channel.specs.declared.channels.PortState.{PortState}
use Rattle.event_channel.specs.declared.channels.PortState.TheVariants as port
use Rattle.event_channel.specs.Channels.{ChannelState, state_of, with_port, is_pending, sent, taken, closed}
use Rattle.hypervisor.specs.Hypervisor.{Hypervisor}
use Rattle.hypervisor.specs.Act.{FrontAct, BackAct, Outcome, Gave, Took, Failed, front_act, back_act, map_act, bind_act, front_watched, back_watched, watch_next, watch_taken, watch_set, is_own_path, key_at, key_set, exchanged, with_pages, mover_of, job_number}

-- the channels alone change
abbrev with_channels : Hypervisor → ChannelState → Hypervisor
with_channels h channels = record h { channels = channels }

-- an act of the front
abbrev front : FrontAnswer → Hypervisor → Move → FrontAct
front answer under shown = record { answer = answer; under = under; shown = shown }

-- the acts that there may be at an ask of the front
pub data FrontActs (h : Hypervisor) : FrontAsk → FrontAct → Type 0 where
  FrontEvent : FrontActs h front_ask.Wait (front front_answer.Event (with_channels h (taken h.channels end.Front)) (moves.Event mover.Front))
  FrontWatched : (path : List ℕ) → watch_next h end.Front ≡ Some path → FrontActs h front_ask.Wait (front (front_answer.Watched path) (watch_taken h end.Front) (moves.Watched mover.Front path))
  FrontFence : FrontActs h front_ask.Fence (front front_answer.Done h (moves.Fence mover.Front))
  FrontRead : (frame word : ℕ) → FrontActs h (front_ask.Read frame word) (front (front_answer.Word (word_of h.pages frame word)) h (moves.FrontRead frame word (word_of h.pages frame word)))
  FrontWrite : (frame word value : ℕ) → FrontActs h (front_ask.Write frame word value) (front front_answer.Done (with_pages h (with_word h.pages frame word value)) (moves.FrontWrite frame word value))
  FrontCas : (frame word old new : ℕ)
      → FrontActs h (front_ask.Cas frame word old new)
      (front (front_answer.Word (word_of h.pages frame word)) (with_pages h (exchanged h.pages frame word old new)) (moves.FrontCas frame word old new (word_of h.pages frame word)))
  FrontPort : FrontActs h front_ask.NewPort (front (front_answer.Port (h.channels.made + 1)) (with_channels h (with_port h.channels)) (moves.FrontPort (h.channels.made + 1)))
  FrontSend : FrontActs h front_ask.Send (front front_answer.Done (with_channels h (sent h.channels end.Front)) (moves.Send mover.Front))
  FrontClose : FrontActs h front_ask.ClosePort (front front_answer.Done (with_channels h (closed h.channels end.Front)) (moves.ClosePort mover.Front))
  FrontGet : (path : List ℕ) → FrontActs h (front_ask.GetKey path) (front (front_answer.Key (key_at h path)) h (moves.GetKey mover.Front path (key_at h path)))
  FrontSet : (path text : List ℕ) → is_own_path end.Front path ≡ true → FrontActs h (front_ask.SetKey path text) (front front_answer.Done (key_set h path text) (moves.SetKey mover.Front path text))
  FrontWatch : (path : List ℕ) → FrontActs h (front_ask.Watch path) (front front_answer.Done (watch_set h end.Front path) (moves.Watch mover.Front path))

is_front : (h : Hypervisor) (ask : FrontAsk) (x a : FrontAct) → FrontActs h ask x → Some x ≡ Some a → FrontActs h ask a
is_front h ask x a acts e = subst (FrontActs h ask) (same_Some x a e) acts

front_waits : (h : Hypervisor) (a : FrontAct) (pending : Bool) (next : Option (List ℕ)) → watch_next h end.Front ≡ next
    → (if pending then Some (front front_answer.Event (with_channels h (taken h.channels end.Front)) (moves.Event mover.Front)) else front_watched h next) ≡ Some a → FrontActs h front_ask.Wait a
front_waits h a true next first e = is_front h _ _ a FrontEvent e
front_waits h a false (Some path) first e = is_front h _ _ a (FrontWatched path first) e
front_waits h a false None first e = absurd (none-some a e)

front_sets : (h : Hypervisor) (path text : List ℕ) (a : FrontAct) (own : Bool) → is_own_path end.Front path ≡ own
    → (if own then Some (front front_answer.Done (key_set h path text) (moves.SetKey mover.Front path text)) else None) ≡ Some a → FrontActs h (front_ask.SetKey path text) a
front_sets h path text a true own e = is_front h _ _ a (FrontSet path text own) e
front_sets h path text a false own e = absurd (none-some a e)

-- each act is one of them
pub front_acts : (h : Hypervisor) (ask : FrontAsk) (a : FrontAct) → front_act h ask ≡ Some a → FrontActs h ask a
front_acts h front_ask.Wait a e = front_waits h a (is_pending h.channels end.Front) (watch_next h end.Front) refl e
front_acts h front_ask.Fence a e = is_front h _ _ a FrontFence e
front_acts h (front_ask.Read frame word) a e = is_front h _ _ a (FrontRead frame word) e
front_acts h (front_ask.Write frame word value) a e = is_front h _ _ a (FrontWrite frame word value) e
front_acts h (front_ask.Cas frame word old new) a e = is_front h _ _ a (FrontCas frame word old new) e
front_acts h front_ask.NewPort a e = is_front h _ _ a FrontPort e
front_acts h front_ask.Send a e = is_front h _ _ a FrontSend e
front_acts h front_ask.ClosePort a e = is_front h _ _ a FrontClose e
front_acts h (front_ask.GetKey path) a e = is_front h _ _ a (FrontGet path) e
front_acts h (front_ask.SetKey path text) a e = front_sets h path text a (is_own_path end.Front path) refl e
front_acts h (front_ask.Watch path) a e = is_front h _ _ a (FrontWatch path) e

-- an act of the back or of a job
abbrev back : BackAnswer → Hypervisor → Move → BackAct
back answer under shown = record { answer = answer; under = under; shown = shown }

-- the acts that there may be at an ask of the back or of a job, where the disk answers this
pub data BackActs (h : Hypervisor) : BackMover → BackAsk → Outcome → BackAct → Type 0 where
  BackEvent : {o : Outcome} → BackActs h back_mover.Back back_ask.Wait o (back back_answer.Event (with_channels h (taken h.channels end.Back)) (moves.Event mover.Back))
  BackWatched : {o : Outcome} (path : List ℕ) → watch_next h end.Back ≡ Some path
      → BackActs h back_mover.Back back_ask.Wait o (back (back_answer.Watched path) (watch_taken h end.Back) (moves.Watched mover.Back path))
  BackFence : {who : BackMover} {o : Outcome} → BackActs h who back_ask.Fence o (back back_answer.Done h (moves.Fence (mover_of who)))
  BackRead : {who : BackMover} {o : Outcome} (m : Mapping) (word : ℕ)
      → BackActs h who (back_ask.Read m word) o
      (back (back_answer.Word (word_of h.pages (frame_of h.grants m) word)) h (moves.Read who m.number (frame_of h.grants m) word (word_of h.pages (frame_of h.grants m) word)))
  BackWrite : {who : BackMover} {o : Outcome} (m : Mapping) (word value : ℕ)
      → BackActs h who (back_ask.Write m word value) o
      (back back_answer.Done (with_pages h (with_word h.pages (frame_of h.grants m) word value)) (moves.Write who m.number (frame_of h.grants m) word value))
  BackMap : {who : BackMover} {o : Outcome} (gref : ℕ) (mode : Mode) (frame : ℕ) → verdict_at h.pages gref mode ≡ Ok frame
      → BackActs h who (back_ask.Map gref mode) o (map_act h who gref mode (Ok frame))
  BackMapRefused : {who : BackMover} {o : Outcome} (gref : ℕ) (mode : Mode) (refusal : MapRefusal) → verdict_at h.pages gref mode ≡ Err refusal
      → BackActs h who (back_ask.Map gref mode) o (map_act h who gref mode (Err refusal))
  BackUnmap : {who : BackMover} {o : Outcome} (m : Mapping)
      → BackActs h who (back_ask.Unmap m) o (back back_answer.Done (record h { grants = unmap_table h.grants m; pages = unmap_pages h.grants h.pages m }) (moves.Unmap who m.number))
  BackBind : {who : BackMover} {o : Outcome} (p : ℕ) → state_of h.channels p ≡ port.Unbound → BackActs h who (back_ask.Bind p) o (bind_act h p port.Unbound)
  BackBindRefused : {who : BackMover} {o : Outcome} (p : ℕ) → BackActs h who (back_ask.Bind p) o (back back_answer.BindRefused h (moves.BindRefused p))
  BackSend : {who : BackMover} {o : Outcome} → BackActs h who back_ask.Send o (back back_answer.Done (with_channels h (sent h.channels end.Back)) (moves.Send (mover_of who)))
  BackClose : {who : BackMover} {o : Outcome} → BackActs h who back_ask.ClosePort o (back back_answer.Done (with_channels h (closed h.channels end.Back)) (moves.ClosePort (mover_of who)))
  BackGet : {o : Outcome} (path : List ℕ) → BackActs h back_mover.Back (back_ask.GetKey path) o (back (back_answer.Key (key_at h path)) h (moves.GetKey mover.Back path (key_at h path)))
  BackSet : {o : Outcome} (path text : List ℕ) → is_own_path end.Back path ≡ true
      → BackActs h back_mover.Back (back_ask.SetKey path text) o (back back_answer.Done (key_set h path text) (moves.SetKey mover.Back path text))
  BackWatch : {o : Outcome} (path : List ℕ) → BackActs h back_mover.Back (back_ask.Watch path) o (back back_answer.Done (watch_set h end.Back path) (moves.Watch mover.Back path))
  DiskGives : {who : BackMover} (sector : ℕ) (words : List ℕ) → BackActs h who (back_ask.DiskRead sector) (Gave words) (back (back_answer.Sector words) h (moves.DiskRead (job_number who) sector))
  ReadFails : {who : BackMover} (sector : ℕ) → BackActs h who (back_ask.DiskRead sector) Failed (back back_answer.DiskFailed h (moves.DiskRead (job_number who) sector))
  DiskTakes : {who : BackMover} (sector : ℕ) (words : List ℕ) → BackActs h who (back_ask.DiskWrite sector words) Took (back back_answer.Done h (moves.DiskWrite (job_number who) sector))
  WriteFails : {who : BackMover} (sector : ℕ) (words : List ℕ) → BackActs h who (back_ask.DiskWrite sector words) Failed (back back_answer.DiskFailed h (moves.DiskWrite (job_number who) sector))
  DiskFlushes : {who : BackMover} → BackActs h who back_ask.Flush Took (back back_answer.Done h (moves.DiskFlush (job_number who)))
  FlushFails : {who : BackMover} → BackActs h who back_ask.Flush Failed (back back_answer.DiskFailed h (moves.DiskFlush (job_number who)))
  DiskTrims : {who : BackMover} (sector count : ℕ) → BackActs h who (back_ask.Trim sector count) Took (back back_answer.Done h (moves.DiskTrim (job_number who) sector count))
  TrimFails : {who : BackMover} (sector count : ℕ) → BackActs h who (back_ask.Trim sector count) Failed (back back_answer.DiskFailed h (moves.DiskTrim (job_number who) sector count))

is_back : (h : Hypervisor) (who : BackMover) (ask : BackAsk) (o : Outcome) (x a : BackAct) → BackActs h who ask o x → Some x ≡ Some a → BackActs h who ask o a
is_back h who ask o x a acts e = subst (BackActs h who ask o) (same_Some x a e) acts

back_waits : (h : Hypervisor) (o : Outcome) (a : BackAct) (pending : Bool) (next : Option (List ℕ)) → watch_next h end.Back ≡ next
    → (if pending then Some (back back_answer.Event (with_channels h (taken h.channels end.Back)) (moves.Event mover.Back)) else back_watched h next) ≡ Some a
    → BackActs h back_mover.Back back_ask.Wait o a
back_waits h o a true next first e = is_back h _ _ o _ a BackEvent e
back_waits h o a false (Some path) first e = is_back h _ _ o _ a (BackWatched path first) e
back_waits h o a false None first e = absurd (none-some a e)

back_maps : (h : Hypervisor) (who : BackMover) (gref : ℕ) (mode : Mode) (o : Outcome) (verdict : Result ℕ MapRefusal) → verdict_at h.pages gref mode ≡ verdict
    → BackActs h who (back_ask.Map gref mode) o (map_act h who gref mode verdict)
back_maps h who gref mode o (Ok frame) is = BackMap gref mode frame is
back_maps h who gref mode o (Err refusal) is = BackMapRefused gref mode refusal is

back_binds : (h : Hypervisor) (who : BackMover) (p : ℕ) (o : Outcome) (state : PortState) → state_of h.channels p ≡ state → BackActs h who (back_ask.Bind p) o (bind_act h p state)
back_binds h who p o port.Unbound is = BackBind p is
back_binds h who p o port.Closed is = BackBindRefused p
back_binds h who p o port.Bound is = BackBindRefused p

back_sets : (h : Hypervisor) (path text : List ℕ) (o : Outcome) (a : BackAct) (own : Bool) → is_own_path end.Back path ≡ own
    → (if own then Some (back back_answer.Done (key_set h path text) (moves.SetKey mover.Back path text)) else None) ≡ Some a → BackActs h back_mover.Back (back_ask.SetKey path text) o a
back_sets h path text o a true own e = is_back h _ _ o _ a (BackSet path text own) e
back_sets h path text o a false own e = absurd (none-some a e)

-- each act is one of these
pub back_acts : (h : Hypervisor) (who : BackMover) (ask : BackAsk) (o : Outcome) (a : BackAct) → back_act h who ask o ≡ Some a → BackActs h who ask o a
back_acts h back_mover.Back back_ask.Wait o a e = back_waits h o a (is_pending h.channels end.Back) (watch_next h end.Back) refl e
back_acts h back_mover.Back (back_ask.GetKey path) o a e = is_back h _ _ o _ a (BackGet path) e
back_acts h back_mover.Back (back_ask.SetKey path text) o a e = back_sets h path text o a (is_own_path end.Back path) refl e
back_acts h back_mover.Back (back_ask.Watch path) o a e = is_back h _ _ o _ a (BackWatch path) e
back_acts h who back_ask.Fence o a e = is_back h who _ o _ a BackFence e
back_acts h who (back_ask.Read m word) o a e = is_back h who _ o _ a (BackRead m word) e
back_acts h who (back_ask.Write m word value) o a e = is_back h who _ o _ a (BackWrite m word value) e
back_acts h who (back_ask.Map gref mode) o a e = is_back h who _ o _ a (back_maps h who gref mode o (verdict_at h.pages gref mode) refl) e
back_acts h who (back_ask.Unmap m) o a e = is_back h who _ o _ a (BackUnmap m) e
back_acts h who (back_ask.Bind p) o a e = is_back h who _ o _ a (back_binds h who p o (state_of h.channels p) refl) e
back_acts h who back_ask.Send o a e = is_back h who _ o _ a BackSend e
back_acts h who back_ask.ClosePort o a e = is_back h who _ o _ a BackClose e
back_acts h who (back_ask.DiskRead sector) (Gave words) a e = is_back h who _ _ _ a (DiskGives sector words) e
back_acts h who (back_ask.DiskRead sector) Failed a e = is_back h who _ _ _ a (ReadFails sector) e
back_acts h who (back_ask.DiskWrite sector words) Took a e = is_back h who _ _ _ a (DiskTakes sector words) e
back_acts h who (back_ask.DiskWrite sector words) Failed a e = is_back h who _ _ _ a (WriteFails sector words) e
back_acts h who back_ask.Flush Took a e = is_back h who _ _ _ a DiskFlushes e
back_acts h who back_ask.Flush Failed a e = is_back h who _ _ _ a FlushFails e
back_acts h who (back_ask.Trim sector count) Took a e = is_back h who _ _ _ a (DiskTrims sector count) e
back_acts h who (back_ask.Trim sector count) Failed a e = is_back h who _ _ _ a (TrimFails sector count) e
back_acts h who ask o a e = absurd (none-some a e)
