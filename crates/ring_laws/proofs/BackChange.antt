-- What a move of the back makes of the jobs, and what it shows.
use Rattle.std.proofs.Common.{◌≡◌, ℕ, ◌+◌, ◌≤◌, ◌==◌, Bool, true, false, if◌then◌else◌, List, [], ◌∷◌, ◌++◌, length, refl, arith}
use Rattle.std.specs.Prelude.{Option, Some, None, is_some, position, Result, Ok, Err}
use Rattle.blk_base.specs.declared.operation.Abi.{Abi}
use Rattle.blk_base.specs.declared.parts.Mapping.{Mapping}
use Rattle.blk_base.specs.declared.parts.Mode.{Mode}
use Rattle.blk_base.specs.declared.parts.Mode.TheVariants.{ReadWrite}
use Rattle.blk_base.specs.declared.ask.BackAsk.{BackAsk}
use Rattle.blk_base.specs.declared.ask.BackAnswer.{BackAnswer}
use Rattle.blk_base.specs.declared.ask.BackAnswer.TheVariants as answers
use Rattle.blk_base.specs.declared.moves.BackMover.TheVariants as back
use Rattle.grant_table.specs.declared.entry.MapRefusal.{MapRefusal}
use Rattle.grant_table.specs.Table.{verdict_at}
use Rattle.event_channel.specs.declared.channels.PortState.{PortState}
use Rattle.event_channel.specs.declared.channels.PortState.TheVariants as port
use Rattle.event_channel.specs.Channels.{state_of}
use Rattle.hypervisor.specs.Hypervisor.{Hypervisor}
use Rattle.hypervisor.specs.Act.{BackAct, Outcome, back_act, map_act, bind_act}
use Rattle.ring_words.specs.Ring.{requests_of, overruns, notifies}
use Rattle.ring_words.specs.Shape.{entry_words_of}
use Rattle.schedule_text.specs.declared.line.Line.{Line}
use Rattle.report_rules.specs.Ring.{ring_shape}
use Rattle.schedule_text.specs.declared.line.Line.TheVariants as lines
use Rattle.blk_layout.specs.Entry.{request_of}
use Rattle.back_jobs.specs.Work.{Work}
use Rattle.back_jobs.specs.Jobs.{removed_at, is_done, start_job}
use Rattle.blk_back.specs.declared.told.BackTold.{BackTold}
use Rattle.blk_back.specs.declared.told.BackTold.TheVariants as told
use Rattle.blk_base.specs.declared.halt.Halt.{Halt}
use Rattle.blk_back.specs.declared.stage.Reply.{Reply}
use Rattle.blk_back.specs.declared.stage.BackStage.{BackStage}
use Rattle.blk_back.specs.declared.stage.BackStage.TheVariants as stage
use Rattle.blk_back.specs.View.{View}
use Rattle.blk_back.specs.Ask.{ask_at, loop_ask, unmap_ask, next_gref, next_reply}
use Rattle.blk_back.specs.Step.{at, mapped, unmapped_bound, unmapped_unbound, overrun, looked, loop_step, fetched, fetch_step, next_number, replied, step_at}
use Rattle.split_model.specs.Shown.{back_lines, halt_lines}
use Rattle.split_model.proofs.Showing.{halt_is}
use Rattle.split_model.proofs.Acting.{BackActs, BackSet, DiskGives, ReadFails, DiskTakes, WriteFails, DiskFlushes, FlushFails, DiskTrims, TrimFails, back_acts}
use Rattle.split_model.proofs.SafeActs.{of_back, back_wait}
use Rattle.split_model.proofs.SafeAnswers.{IsBacks}
use Rattle.ring_laws.proofs.Shows.{Sight, Shows}
use Rattle.ring_laws.proofs.Knows.{Serves, KnowsAt}
use Rattle.ring_laws.proofs.Bystanders.{sets_none, IsBystander, AreBystanders}
use Rattle.ring_laws.proofs.Sight.{is_other, other_touch}
use Rattle.ring_laws.proofs.Entry.{shape_is}
use Rattle.ring_laws.proofs.Fetched.{Reads, shaped, blind}

-- the back's jobs and how many it fetched, before and after a move; so many words of entries were read before
pub data Change (words : ℕ) (old new : View) : Type 0 where
  kept : new.jobs.works ≡ old.jobs.works → new.fetched ≡ old.fetched → Change words old new
  replies : new.jobs.works ≡ removed_at old.jobs.works (position (λ (t : Work). is_done t) old.jobs.works) → new.fetched ≡ old.fetched → Change words old new
  halts : is_some new.halted ≡ true → new.fetched ≡ old.fetched → Change words old new
  fetches : (let h = start_job old.jobs (next_number old) (request_of old.shape.abi new.ring.entry) in new.jobs.works ≡ h.works) → new.fetched ≡ next_number old → new.stage ≡ stage.Loop → 1 ≤ words → Change words old new

-- the back tells of replies alone
abbrev pub IsBackTold : Option BackTold → Type 0
IsBackTold None = Unit {0}
IsBackTold (Some (told.Reply id status)) = Unit {0}
IsBackTold t = ⊥

pub record Changed (words : ℕ) (old new : View) : Type 0 where
  pub change : Change words old new
  pub info : new.jobs.info ≡ old.jobs.info
  pub tells : IsBackTold new.told
  pub running : is_some new.halted ≡ false → is_some old.halted ≡ false

changed : (words : ℕ) (old new : View) → new.jobs.works ≡ old.jobs.works → new.fetched ≡ old.fetched → new.jobs.info ≡ old.jobs.info → IsBackTold new.told → (is_some new.halted ≡ false → is_some old.halted ≡ false) → Changed words old new
changed words old new w f i t r = record { change = kept w f; info = i; tells = t; running = r }

either : (words : ℕ) (old : View) (b : Bool) (x y : View) → Changed words old x → Changed words old y → Changed words old (if b then x else y)
either words old true x y p q = p
either words old false x y p q = q

either_stage : (words : ℕ) (old : View) (b : Bool) (p q : BackStage) → IsBackTold old.told → Changed words old (at (if b then p else q) old)
either_stage words old b p q t = changed words old (at (if b then p else q) old) refl refl refl t (λ r. r)

looked_change : (words : ℕ) (v : View) (word : ℕ) (otherwise : View) → IsBackTold v.told → Changed words v otherwise → Changed words v (looked v word otherwise)
looked_change words v word otherwise t c =
    either words v (overruns v.ring.indices word) (overrun v word) (if word == v.ring.indices.cons then otherwise else record v { ring = record v.ring { seen = word }; stage = stage.Loop })
    (record { change = halts refl refl; info = refl; tells = t; running = λ r. absurd (cc) })
    (either words v (word == v.ring.indices.cons) otherwise (record v { ring = record v.ring { seen = word }; stage = stage.Loop }) c (changed words v (record v { ring = record v.ring { seen = word }; stage = stage.Loop }) refl refl refl t (λ r. r)))

loop_change : (words : ℕ) (v : View) (r : Option Reply) (a : BackAnswer) → IsBackTold v.told → Changed words v (loop_step v r a)
loop_change words v (Some r) a t = record { change = replies refl refl; info = refl; tells = t; running = λ r. r }
loop_change words v None (answers.Word word) t =
    either words v (requests_of v.ring.indices v.ring.seen == 0) (looked v word (record v { ring = record v.ring { seen = word }; stage = stage.StoreEvent })) (record v { ring = record v.ring { entry = word ∷ [] }; stage = stage.Fetch 1 })
    (looked_change words v word (record v { ring = record v.ring { seen = word }; stage = stage.StoreEvent }) t (changed words v (record v { ring = record v.ring { seen = word }; stage = stage.StoreEvent }) refl refl refl t (λ r. r)))
    (changed words v (record v { ring = record v.ring { entry = word ∷ [] }; stage = stage.Fetch 1 }) refl refl refl t (λ r. r))
loop_change words v None answers.Event t = changed words v (record v { ring = record v.ring { asleep = false } }) refl refl refl t (λ r. r)
loop_change words v None a t = changed words v v refl refl refl t (λ r. r)

fetch_change : (words : ℕ) (v : View) (k word : ℕ) → 1 ≤ words → IsBackTold v.told → Changed words v (fetch_step v k word)
fetch_change words v k word some t =
    either words v (k + 1 == entry_words_of v.shape.abi) (fetched v (v.ring.entry ++ word ∷ [])) (record v { ring = record v.ring { entry = v.ring.entry ++ word ∷ [] }; stage = stage.Fetch (k + 1) })
    (record { change = fetches refl refl refl some; info = refl; tells = t; running = λ r. r })
    (changed words v (record v { ring = record v.ring { entry = v.ring.entry ++ word ∷ [] }; stage = stage.Fetch (k + 1) }) refl refl refl t (λ r. r))

begun_words : (k : ℕ) (x : Sight) (v : View) → 1 ≤ k → Serves k x v → 1 ≤ length x.values
begun_words k x v some s = let long = s.long in let words = s.words in omega arith

pub change_at : (s : BackStage) (v : View) (x : Sight) (a : BackAnswer) → KnowsAt s x v → IsBackTold v.told → Changed (length x.values) v (step_at s v a)
change_at stage.MapRing v x (answers.Mapped m) k t = changed (length x.values) v (mapped m v) refl refl refl t (λ r. r)
change_at stage.MapRing v x (answers.MapRefused status) k t = changed (length x.values) v _ refl refl refl t (λ r. absurd (cc))
change_at stage.Bind v x answers.Done k t = changed (length x.values) v (at stage.Loop v) refl refl refl t (λ r. r)
change_at stage.Bind v x answers.BindRefused k t = changed (length x.values) v _ refl refl refl t (λ r. absurd (cc))
change_at stage.Loop v x a k t = loop_change (length x.values) v (next_reply v) a t
change_at (stage.Fetch n) v x (answers.Word word) k t = fetch_change (length x.values) v n word (begun_words n x v k.0 k.1) t
change_at (stage.ReplyHigh r) v x a k t = changed (length x.values) v (at (stage.ReplyLast r) v) refl refl refl t (λ r. r)
change_at (stage.ReplyLast r) v x a k t = changed (length x.values) v (at (stage.Producer r) v) refl refl refl t (λ r. r)
change_at (stage.Producer r) v x a k t = changed (length x.values) v (replied v r) refl refl refl tt (λ r. r)
change_at (stage.ProducerFence old) v x a k t = changed (length x.values) v (at (stage.ResponseEvent old) v) refl refl refl t (λ r. r)
change_at (stage.ResponseEvent old) v x (answers.Word event) k t = either_stage (length x.values) v (notifies old v.ring.indices.prod event) stage.Send stage.Loop t
change_at stage.Send v x a k t = changed (length x.values) v (at stage.Loop v) refl refl refl t (λ r. r)
change_at stage.StoreEvent v x a k t = changed (length x.values) v (at stage.EventFence v) refl refl refl t (λ r. r)
change_at stage.EventFence v x a k t = changed (length x.values) v (at stage.LookAgain v) refl refl refl t (λ r. r)
change_at stage.LookAgain v x (answers.Word word) k t = looked_change (length x.values) v word (record v { ring = record v.ring { seen = word; asleep = true }; stage = stage.Loop }) t (changed (length x.values) v (record v { ring = record v.ring { seen = word; asleep = true }; stage = stage.Loop }) refl refl refl t (λ r. r))
change_at (stage.Abort m) v x a k t = record { change = halts k.over refl; info = refl; tells = t; running = λ r. r }
change_at stage.UnmapRing v x a k t = changed (length x.values) v (unmapped_bound v) refl refl refl t (λ r. r)
change_at stage.ClosePort v x a k t = changed (length x.values) v (at stage.Halted v) refl refl refl t (λ r. r)
change_at stage.UnmapUnbound v x a k t = changed (length x.values) v (unmapped_unbound v) refl refl refl t (λ r. r)
change_at s v x a k t = changed (length x.values) v v refl refl refl t (λ r. r)

-- and the back sets no key as it serves
abbrev BackBy : BackAct → Type 0
BackBy a = IsBystander (lines.Move a.shown) × (sets_none (lines.Move a.shown) ≡ true)

acts_both : (h : Hypervisor) (a' : BackAsk) (o : Outcome) (a : BackAct) → IsBacks a' → BackActs h back.Back a' o a → BackBy a
acts_both h a' o a own (BackSet path text is) = absurd own
acts_both h a' o a own (DiskGives sector words) = absurd own
acts_both h a' o a own (ReadFails sector) = absurd own
acts_both h a' o a own (DiskTakes sector words) = absurd own
acts_both h a' o a own (WriteFails sector words) = absurd own
acts_both h a' o a own DiskFlushes = absurd own
acts_both h a' o a own FlushFails = absurd own
acts_both h a' o a own (DiskTrims sector count) = absurd own
acts_both h a' o a own (TrimFails sector count) = absurd own
acts_both h a' o a own acts = (record { plain = refl; unstepped = refl }, refl)

back_both : (h : Hypervisor) (a' : BackAsk) (o : Outcome) (a : BackAct) → IsBacks a' → back_act h back.Back a' o ≡ Some a → BackBy a
back_both h a' o a own e = acts_both h a' o a own (back_acts h back.Back a' o a e)

pub back_by : (h : Hypervisor) (a' : BackAsk) (o : Outcome) (a : BackAct) → IsBacks a' → back_act h back.Back a' o ≡ Some a → IsBystander (lines.Move a.shown)
back_by h a' o a own e = (back_both h a' o a own e).0

pub back_sets : (h : Hypervisor) (a' : BackAsk) (o : Outcome) (a : BackAct) → IsBacks a' → back_act h back.Back a' o ≡ Some a → sets_none (lines.Move a.shown) ≡ true
back_sets h a' o a own e = (back_both h a' o a own e).1

pub halt_by : (old new : Option Halt) → AreBystanders (halt_lines old new)
halt_by old new = halt_is IsBystander (λ why. record { plain = refl; unstepped = refl }) old new

pub told_by : (t : Option BackTold) (a : BackAnswer) (old new : Option Halt) → IsBackTold t → AreBystanders (back_lines t a ++ halt_lines old new)
told_by None a old new is = halt_by old new
told_by (Some (told.Reply id status)) a old new is = (record { plain = refl; unstepped = refl }, halt_by old new)
told_by (Some other) a old new is = absurd is

-- a line of the back's reads words of entries of its layout, or none
abbrev Looks : List Line → View → BackAct → Type 0
Looks before v a = Reads before v.shape.abi (lines.Move a.shown)

blindly : (before : List Line) (abi : Abi) (line : Line) → is_other line ≡ true → Reads before abi line
blindly before abi line other = blind (other_touch line other)

map_reads : (before : List Line) (h : Hypervisor) (v : View) (x : Sight) (gref : ℕ) (mode : Mode) (verdict : Result ℕ MapRefusal) → x.touched ≡ false → Shows before x → Looks before v (map_act h back.Back gref mode verdict)
map_reads before h v x gref mode (Ok frame) none shows = blind refl
map_reads before h v x gref mode (Err refusal) none shows = blindly before v.shape.abi _ refl

unmap_reads : (before : List Line) (h : Hypervisor) (v : View) (o : Outcome) (a : BackAct) (pages : List Mapping) → back_act h back.Back (unmap_ask pages) o ≡ Some a → Looks before v a
unmap_reads before h v o a [] e = back_wait (Looks before v) h back.Back a (blindly before v.shape.abi _ refl) (λ path. blindly before v.shape.abi _ refl) e
unmap_reads before h v o a (page ∷ pages) e = of_back (Looks before v) _ a (blindly before v.shape.abi _ refl) e

bind_reads : (before : List Line) (h : Hypervisor) (v : View) (p : ℕ) (state : PortState) → Looks before v (bind_act h p state)
bind_reads before h v p port.Unbound = blindly before v.shape.abi _ refl
bind_reads before h v p other = blindly before v.shape.abi _ refl

loop_reads : (before : List Line) (h : Hypervisor) (v : View) (o : Outcome) (a : BackAct) (r : Option Reply) (asleep none : Bool) → v.ring.asleep ≡ asleep → (requests_of v.ring.indices v.ring.seen == 0) ≡ none → ring_shape before ≡ Some v.shape → back_act h back.Back (loop_ask v r) o ≡ Some a → Looks before v a
loop_reads before h v o a (Some r) asleep none p q shape e = of_back (Looks before v) _ a (shaped v.shape shape refl refl) e
loop_reads before h v o a None true none p q shape e = back_wait (Looks before v) h back.Back a (blindly before v.shape.abi _ refl) (λ path. blindly before v.shape.abi _ refl) (rw p at e)
loop_reads before h v o a None false true p q shape e = of_back (Looks before v) _ a (shaped v.shape shape refl refl) (rw (p, q) at e)
loop_reads before h v o a None false false p q shape e = of_back (Looks before v) _ a (shaped v.shape shape refl refl) (rw (p, q) at e)

pub back_reads : (before : List Line) (h : Hypervisor) (s : BackStage) (v : View) (o : Outcome) (a : BackAct) (x : Sight) → KnowsAt s x v → Shows before x → back_act h back.Back (ask_at s v) o ≡ Some a → Looks before v a
back_reads before h stage.InitWait v o a x k shows e = back_wait (Looks before v) h back.Back a (blindly before v.shape.abi _ refl) (λ path. blindly before v.shape.abi _ refl) e
back_reads before h stage.MapRing v o a x k shows e = of_back (Looks before v) _ a (map_reads before h v x (next_gref v) ReadWrite (verdict_at h.pages (next_gref v) ReadWrite) k.waits.untouched shows) e
back_reads before h stage.Bind v o a x k shows e = of_back (Looks before v) _ a (bind_reads before h v v.ring.port (state_of h.channels v.ring.port)) e
back_reads before h stage.Loop v o a x k shows e = loop_reads before h v o a (next_reply v) v.ring.asleep (requests_of v.ring.indices v.ring.seen == 0) refl refl (shape_is before 0 x v shows k) e
back_reads before h (stage.Fetch n) v o a x k shows e = of_back (Looks before v) _ a (shaped v.shape (shape_is before n x v shows k.1) refl refl) e
back_reads before h (stage.Abort m) v o a x k shows e = of_back (Looks before v) _ a (blindly before v.shape.abi _ refl) e
back_reads before h stage.UnmapRing v o a x k shows e = unmap_reads before h v o a v.pages e
back_reads before h stage.ClosePort v o a x k shows e = of_back (Looks before v) _ a (blindly before v.shape.abi _ refl) e
back_reads before h stage.UnmapUnbound v o a x k shows e = unmap_reads before h v o a v.pages e
back_reads before h stage.Halted v o a x k shows e = unmap_reads before h v o a [] e
back_reads before h s v o a x k shows e = of_back (Looks before v) _ a (shaped v.shape (shape_is before 0 x v shows k) refl refl) e
