-- A move of the back's end of the ring: it halts where the lines say so, and for an overrun.
use Rattle.std.proofs.Common.{◌≡◌, ℕ, ◌+◌, Bool, true, false, true≢false, if◌then◌else◌, List, [], ◌∷◌, ◌++◌, refl, sym, ap, ◌∙◌, subst}
use Rattle.std.specs.Prelude.{Option, Some, None, is_some, Result, Ok, Err, ◌==◌}
use Rattle.blk_base.specs.declared.parts.Mapping.{Mapping}
use Rattle.blk_base.specs.declared.parts.Mode.TheVariants.{ReadWrite}
use Rattle.blk_base.specs.declared.ask.BackAsk.{BackAsk}
use Rattle.blk_base.specs.declared.ask.BackAsk.TheVariants as back_ask
use Rattle.blk_base.specs.declared.ask.BackAnswer.{BackAnswer}
use Rattle.blk_base.specs.declared.ask.BackAnswer.TheVariants as answer
use Rattle.blk_base.specs.declared.moves.BackMover.{BackMover}
use Rattle.blk_base.specs.declared.moves.BackMover.TheVariants as back_mover
use Rattle.blk_base.specs.declared.moves.Move.{Move}
use Rattle.ring_words.specs.Shape.{entry_words_of}
use Rattle.ring_words.specs.Ring.{requests_of, overruns}
use Rattle.grant_table.specs.declared.entry.MapRefusal.{MapRefusal}
use Rattle.grant_table.specs.Table.{verdict_at, next_mapping}
use Rattle.event_channel.specs.declared.channels.PortState.{PortState}
use Rattle.event_channel.specs.declared.channels.PortState.TheVariants as port
use Rattle.event_channel.specs.Channels.{state_of}
use Rattle.blk_base.specs.declared.halt.Halt.{Halt}
use Rattle.schedule_text.specs.declared.line.Line.TheVariants as lines
use Rattle.hypervisor.specs.Hypervisor.{Hypervisor}
use Rattle.hypervisor.specs.Act.{BackAct, Outcome, Took, back_act, map_act, bind_act}
use Rattle.blk_back.specs.declared.stage.BackStage.{BackStage}
use Rattle.blk_back.specs.declared.stage.BackStage.TheVariants as stage
use Rattle.blk_back.specs.declared.stage.Reply.{Reply}
use Rattle.blk_back.specs.View.{View}
use Rattle.blk_back.specs.Ask.{ask_at, loop_ask, index_ask, entry_ask, next_reply, next_gref, unmap_ask}
use Rattle.blk_back.specs.Step.{looked, overrun, fetched, loop_word, loop_step, step_at}
use Rattle.split_model.proofs.Acting.{back_acts, BackMap, BackMapRefused, BackBind, BackBindRefused, BackGet, BackSet, BackRead, BackWrite, DiskGives, ReadFails, DiskTakes, WriteFails, DiskFlushes, FlushFails, DiskTrims, TrimFails}
use Rattle.split_model.proofs.SafeActs.{of_back, back_wait}
use Rattle.vbd_laws.specs.Halts.{BackSight, due_after, told, halt_shown, is_work, IsWorded}

-- the halt that the end of the ring comes to, as a line shows it, and its word
abbrev pub ring_shown : Option Halt → Option Halt
ring_shown None = None
ring_shown (Some x) = halt_shown (lines.Halt x)

abbrev pub IsWordedHalt : (asked : Bool) → Option Halt → Type 0
IsWordedHalt asked None = Unit {0}
IsWordedHalt asked (Some x) = IsWorded asked (lines.Halt x)

-- it halts where that is due after the move, and tells nothing else then
pub record Halts (asked : Bool) (k : BackSight) (shown : Move) (y : View) : Type 0 where
  pub due : ring_shown y.halted ≡ due_after k (lines.Move shown)
  pub word : IsWordedHalt asked y.halted
  pub quiet : is_some y.halted ≡ true → y.told ≡ None

pub goes_on : (asked : Bool) (k : BackSight) (shown : Move) (y : View) → y.halted ≡ None → due_after k (lines.Move shown) ≡ None → Halts asked k shown y
goes_on asked k shown y running none = record {
  due = ap ring_shown running ∙ sym none;
  word = subst (λ (h : Option Halt). IsWordedHalt asked h) (sym running) tt;
  quiet = λ halts. absurd (true≢false (sym halts ∙ ap is_some running));
}

pub either : (asked : Bool) (k : BackSight) (b : Bool) (shown : Move) (x y : View) → Halts asked k shown x → Halts asked k shown y → Halts asked k shown (if b then x else y)
either asked k true shown x y p q = p
either asked k false shown x y p q = q

-- the asks for which the back may halt, and those of which it learns something
abbrev pub may_halt : BackAsk → Bool
may_halt (back_ask.Map gref mode) = true
may_halt (back_ask.Bind p) = true
may_halt (back_ask.GetKey path) = true
may_halt ask = false

abbrev pub may_learn : BackAsk → Bool
may_learn (back_ask.GetKey path) = true
may_learn (back_ask.SetKey path text) = true
may_learn ask = false

-- and those that a back which has halted has no more
abbrev pub asks_work : BackAsk → Bool
asks_work back_ask.Wait = false
asks_work back_ask.Fence = false
asks_work (back_ask.Unmap m) = false
asks_work back_ask.Send = false
asks_work back_ask.ClosePort = false
asks_work (back_ask.SetKey path text) = false
asks_work (back_ask.Watch path) = false
asks_work ask = true

pub none_due : (k : BackSight) (h : Hypervisor) (who : BackMover) (ask : BackAsk) (o : Outcome) (a : BackAct) → may_halt ask ≡ false → back_act h who ask o ≡ Some a → due_after k (lines.Move a.shown) ≡ None
none_due k h who ask o a none e = (elim (back_acts h who ask o a e) as (λ by asked outcome x acts. may_halt asked ≡ false → due_after k (lines.Move x.shown) ≡ None) [
  | BackMapRefused gref mode refusal is ↦ λ none. absurd (true≢false none)
  | BackBindRefused p ↦ λ none. absurd (true≢false none)
  | BackGet path ↦ λ none. absurd (true≢false none)
  | acts ↦ λ none. refl
]) none

pub none_told : (k : BackSight) (h : Hypervisor) (who : BackMover) (ask : BackAsk) (o : Outcome) (a : BackAct) → may_learn ask ≡ false → back_act h who ask o ≡ Some a → told k (lines.Move a.shown) ≡ k
none_told k h who ask o a none e = (elim (back_acts h who ask o a e) as (λ by asked outcome x acts. may_learn asked ≡ false → told k (lines.Move x.shown) ≡ k) [
  | BackGet path ↦ λ none. absurd (true≢false none)
  | BackSet path text own ↦ λ none. absurd (true≢false none)
  | acts ↦ λ none. refl
]) none

pub none_works : (h : Hypervisor) (who : BackMover) (ask : BackAsk) (o : Outcome) (a : BackAct) → asks_work ask ≡ false → back_act h who ask o ≡ Some a → is_work (lines.Move a.shown) ≡ false
none_works h who ask o a none e = (elim (back_acts h who ask o a e) as (λ by asked outcome x acts. asks_work asked ≡ false → is_work (lines.Move x.shown) ≡ false) [
  | BackRead m word ↦ λ none. absurd (true≢false none)
  | BackWrite m word value ↦ λ none. absurd (true≢false none)
  | BackMap gref mode frame is ↦ λ none. absurd (true≢false none)
  | BackMapRefused gref mode refusal is ↦ λ none. absurd (true≢false none)
  | BackBind p is ↦ λ none. absurd (true≢false none)
  | BackBindRefused p ↦ λ none. absurd (true≢false none)
  | BackGet path ↦ λ none. absurd (true≢false none)
  | DiskGives sector words ↦ λ none. absurd (true≢false none)
  | ReadFails sector ↦ λ none. absurd (true≢false none)
  | DiskTakes sector words ↦ λ none. absurd (true≢false none)
  | WriteFails sector words ↦ λ none. absurd (true≢false none)
  | DiskFlushes ↦ λ none. absurd (true≢false none)
  | FlushFails ↦ λ none. absurd (true≢false none)
  | DiskTrims sector count ↦ λ none. absurd (true≢false none)
  | TrimFails sector count ↦ λ none. absurd (true≢false none)
  | acts ↦ λ none. refl
]) none

-- a producer was read: an overrun has a rule of its own
looked_halts : (asked : Bool) (k : BackSight) (shown : Move) (word : ℕ) (v otherwise : View) → due_after k (lines.Move shown) ≡ None → v.halted ≡ None → v.told ≡ None → otherwise.halted ≡ None → Halts asked k shown (looked v word otherwise)
looked_halts asked k shown word v otherwise none running quiet same =
    either asked k (overruns v.ring.indices word) shown (overrun v word) (if word == v.ring.indices.cons then otherwise else record v { ring = record v.ring { seen = word }; stage = stage.Loop })
    (record { due = sym none; word = tt; quiet = λ halts. quiet })
    (either asked k (word == v.ring.indices.cons) shown otherwise (record v { ring = record v.ring { seen = word }; stage = stage.Loop }) (goes_on asked k shown otherwise same none) (goes_on asked k shown (record v { ring = record v.ring { seen = word }; stage = stage.Loop }) running none))

-- in the loop
word_halts : (asked : Bool) (k : BackSight) (shown : Move) (word : ℕ) (v : View) → due_after k (lines.Move shown) ≡ None → v.halted ≡ None → v.told ≡ None → Halts asked k shown (loop_word v word)
word_halts asked k shown word v none running quiet =
    let sleeps : View = record v { ring = record v.ring { seen = word }; stage = stage.StoreEvent } in
    let begins : View = record v { ring = record v.ring { entry = word ∷ [] }; stage = stage.Fetch 1 } in
    either asked k (requests_of v.ring.indices v.ring.seen == 0) shown (looked v word sleeps) begins (looked_halts asked k shown word v sleeps none running quiet running) (goes_on asked k shown begins running none)

loop_halts : (asked : Bool) (k : BackSight) (v : View) (r : Option Reply) (h : Hypervisor) (a : BackAct) → v.halted ≡ None → v.told ≡ None → back_act h back_mover.Back (loop_ask v r) Took ≡ Some a → Halts asked k a.shown (loop_step v r a.answer)
loop_halts asked k v (Some r) h a running quiet e = goes_on asked k a.shown (loop_step v (Some r) a.answer) running (none_due k h back_mover.Back (loop_ask v (Some r)) Took a refl e)
loop_halts asked k v None h a running quiet e = by_test v.ring.asleep (requests_of v.ring.indices v.ring.seen == 0) e
  where
    by_test : (b c : Bool) → back_act h back_mover.Back (if b then back_ask.Wait else (if c then index_ask v 0 else entry_ask v 0)) Took ≡ Some a → Halts asked k a.shown (loop_step v None a.answer)
    by_test true c acts =
        back_wait (λ (x : BackAct). Halts asked k x.shown (loop_step v None x.answer)) h back_mover.Back a (goes_on asked k _ (record v { ring = record v.ring { asleep = false } }) running refl) (λ path. goes_on asked k _ v running refl) acts
    by_test false true acts = of_back (λ (x : BackAct). Halts asked k x.shown (loop_step v None x.answer)) _ a (word_halts asked k _ _ v refl running quiet) acts
    by_test false false acts = of_back (λ (x : BackAct). Halts asked k x.shown (loop_step v None x.answer)) _ a (word_halts asked k _ _ v refl running quiet) acts

-- a page of the ring is mapped, or can't be, and so its port
map_halts : (asked : Bool) (k : BackSight) (v : View) (h : Hypervisor) (r : Result ℕ MapRefusal) → v.halted ≡ None → v.told ≡ None
    → (let x : BackAct = map_act h back_mover.Back (next_gref v) ReadWrite r in Halts asked k x.shown (step_at stage.MapRing v x.answer))
map_halts asked k v h (Ok frame) running quiet = goes_on asked k _ (step_at stage.MapRing v (answer.Mapped (next_mapping h.grants (next_gref v) ReadWrite))) running refl
map_halts asked k v h (Err refusal) running quiet = record { due = refl; word = tt; quiet = λ halts. quiet }

bind_halts : (asked : Bool) (k : BackSight) (v : View) (h : Hypervisor) (s : PortState) → v.halted ≡ None → v.told ≡ None → (let x : BackAct = bind_act h v.ring.port s in Halts asked k x.shown (step_at stage.Bind v x.answer))
bind_halts asked k v h port.Unbound running quiet = goes_on asked k _ (step_at stage.Bind v answer.Done) running refl
bind_halts asked k v h s running quiet = record { due = refl; word = tt; quiet = λ halts. quiet }

fetch_running : (v : View) (n : ℕ) (x : BackAnswer) → v.halted ≡ None → (step_at (stage.Fetch n) v x).halted ≡ None
fetch_running v n (answer.Word word) running = by_test (n + 1 == entry_words_of v.shape.abi)
  where
    by_test : (b : Bool) → (let y : View = (if b then fetched v (v.ring.entry ++ word ∷ []) else record v { ring = record v.ring { entry = v.ring.entry ++ word ∷ [] }; stage = stage.Fetch (n + 1) }) in y.halted) ≡ None
    by_test true = running
    by_test false = running
fetch_running v n x running = running

event_running : (v : View) (old : ℕ) (x : BackAnswer) → v.halted ≡ None → (step_at (stage.ResponseEvent old) v x).halted ≡ None
event_running v old (answer.Word word) running = running
event_running v old x running = running

unmap_safe : (pages : List Mapping) → (may_halt (unmap_ask pages) ≡ false) × (asks_work (unmap_ask pages) ≡ false)
unmap_safe [] = (refl, refl)
unmap_safe (page ∷ pages) = (refl, refl)

-- a move of the back's end of the ring
pub ring_halts : (asked : Bool) (k : BackSight) (s : BackStage) (v : View) (h : Hypervisor) (a : BackAct) → v.halted ≡ None → v.told ≡ None → back_act h back_mover.Back (ask_at s v) Took ≡ Some a → Halts asked k a.shown (step_at s v a.answer)
ring_halts asked k stage.MapRing v h a running quiet e =
    of_back (λ (x : BackAct). Halts asked k x.shown (step_at stage.MapRing v x.answer)) _ a (map_halts asked k v h (verdict_at h.pages (next_gref v) ReadWrite) running quiet) e
ring_halts asked k stage.Bind v h a running quiet e = of_back (λ (x : BackAct). Halts asked k x.shown (step_at stage.Bind v x.answer)) _ a (bind_halts asked k v h (state_of h.channels v.ring.port) running quiet) e
ring_halts asked k stage.Loop v h a running quiet e = loop_halts asked k v (next_reply v) h a running quiet e
ring_halts asked k stage.LookAgain v h a running quiet e = of_back (λ (x : BackAct). Halts asked k x.shown (step_at stage.LookAgain v x.answer)) _ a (looked_halts asked k _ _ v _ refl running quiet running) e
ring_halts asked k (stage.Fetch n) v h a running quiet e = goes_on asked k a.shown (step_at (stage.Fetch n) v a.answer) (fetch_running v n a.answer running) (none_due k h back_mover.Back (entry_ask v n) Took a refl e)
ring_halts asked k (stage.ResponseEvent old) v h a running quiet e = goes_on asked k a.shown (step_at (stage.ResponseEvent old) v a.answer) (event_running v old a.answer running) (none_due k h back_mover.Back (index_ask v 3) Took a refl e)
ring_halts asked k stage.UnmapRing v h a running quiet e = goes_on asked k a.shown (step_at stage.UnmapRing v a.answer) running (none_due k h back_mover.Back (unmap_ask v.pages) Took a (unmap_safe v.pages).0 e)
ring_halts asked k stage.UnmapUnbound v h a running quiet e = goes_on asked k a.shown (step_at stage.UnmapUnbound v a.answer) running (none_due k h back_mover.Back (unmap_ask v.pages) Took a (unmap_safe v.pages).0 e)
ring_halts asked k s v h a running quiet e = goes_on asked k a.shown (step_at s v a.answer) running (none_due k h back_mover.Back (ask_at s v) Took a refl e)

-- a back that has halted has this to do, tells nothing, and asks for no work
abbrev pub is_over : BackStage → Bool
is_over (stage.Abort m) = true
is_over stage.UnmapRing = true
is_over stage.ClosePort = true
is_over stage.UnmapUnbound = true
is_over stage.Halted = true
is_over s = false

pub over_asks : (s : BackStage) (v : View) → is_over s ≡ true → asks_work (ask_at s v) ≡ false
over_asks (stage.Abort m) v over = refl
over_asks stage.UnmapRing v over = (unmap_safe v.pages).1
over_asks stage.ClosePort v over = refl
over_asks stage.UnmapUnbound v over = (unmap_safe v.pages).1
over_asks stage.Halted v over = refl
over_asks s v over = absurd (true≢false (sym over))

pub over_tells : (s : BackStage) (v : View) (x : BackAnswer) → is_over s ≡ true → v.told ≡ None → (step_at s v x).told ≡ None
over_tells (stage.Abort m) v x over quiet = quiet
over_tells stage.UnmapRing v x over quiet = quiet
over_tells stage.ClosePort v x over quiet = quiet
over_tells stage.UnmapUnbound v x over quiet = quiet
over_tells stage.Halted v x over quiet = quiet
over_tells s v x over quiet = absurd (true≢false (sym over))
