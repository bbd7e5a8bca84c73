-- Whatever the back is at, its move keeps the rule on replies.
use Rattle.std.proofs.Common.{◌≡◌, ℕ, ◌+◌, ◌^◌, ◌<◌, ◌==◌, Bool, true, false, if◌then◌else◌, List, [], ◌∷◌, ◌++◌, length, refl, ap, sym, ◌∙◌, subst, length-append, arith}
use Rattle.std.specs.Prelude.{Option, Some, None, nat_lt, Result, Ok, Err, IfSome}
use Rattle.blk_base.specs.declared.parts.Mapping.{Mapping}
use Rattle.blk_base.specs.declared.parts.Mode.TheVariants.{ReadWrite}
use Rattle.blk_base.specs.declared.ask.BackAsk.TheVariants as ask
use Rattle.blk_base.specs.declared.ask.BackAnswer.{BackAnswer}
use Rattle.blk_base.specs.declared.ask.BackAnswer.TheVariants as answers
use Rattle.blk_base.specs.declared.moves.BackMover.TheVariants as back
use Rattle.blk_base.specs.declared.moves.Mover.TheVariants as mover
use Rattle.blk_base.specs.declared.moves.Move.{Move}
use Rattle.blk_base.specs.declared.moves.Move.TheVariants as moves
use Rattle.grant_table.specs.declared.entry.MapRefusal.{MapRefusal}
use Rattle.grant_table.specs.Entry.{status_of}
use Rattle.grant_table.specs.Table.{frame_of, verdict_at, next_mapping}
use Rattle.event_channel.specs.declared.channels.PortState.{PortState}
use Rattle.event_channel.specs.declared.channels.PortState.TheVariants as port
use Rattle.event_channel.specs.Channels.{state_of}
use Rattle.hypervisor.specs.Hypervisor.{Hypervisor}
use Rattle.hypervisor.specs.Act.{BackAct, Outcome, back_act, map_act, bind_act}
use Rattle.ring_words.specs.Ring.{next_of, requests_of, overruns, notifies}
use Rattle.ring_words.specs.Shape.{entry_words_of, slot_word_of}
use Rattle.schedule_text.specs.declared.line.Line.{Line}
use Rattle.schedule_text.specs.declared.line.Line.TheVariants as lines
use Rattle.blk_layout.specs.Response.{response_words_of}
use Rattle.report_rules.specs.Reply.{row_of, are_alike, value_written, response_due, lines_before, answered_in}
use Rattle.back_jobs.specs.Jobs.{first_mapping}
use Rattle.blk_back.specs.declared.stage.Reply.{Reply}
use Rattle.blk_back.specs.declared.stage.BackStage.{BackStage}
use Rattle.blk_back.specs.declared.stage.BackStage.TheVariants as stage
use Rattle.blk_base.specs.declared.halt.Halt.{Halt}
use Rattle.blk_back.specs.View.{View, page_of, slot_page, slot_word}
use Rattle.blk_back.proofs.Slots.{response_fits}
use Rattle.blk_back.specs.Ask.{ask_at, ask_of, loop_ask, index_ask, entry_ask, unmap_ask, next_gref, next_reply, response_word}
use Rattle.blk_back.specs.Step.{at, unbound, bound, other_pages, mapped, unmapped_bound, unmapped_unbound, unmapping_next, abort, overrun, looked, loop_word, loop_step, fetched, fetch_step, replied, step_at, step_of}
use Rattle.split_model.specs.Shown.{back_lines, halt_lines}
use Rattle.split_model.proofs.SafeActs.{of_back, back_wait}
use Rattle.ring_laws.proofs.Shows.{Sight, Shows, IsOnPages}
use Rattle.ring_laws.proofs.Touches.{read_on, write_on}
use Rattle.ring_laws.proofs.Entry.{first_is, slot_is, high_slot}
use Rattle.ring_laws.proofs.Knows.{untold, unhalted, Serves, KnowsAt}
use Rattle.ring_laws.proofs.Due.{Answered, Candidate, response_in, under_way, row_at, answered_then, next_word, replying, Writes}
use Rattle.ring_laws.proofs.Rows.{answered_one, answered_aside}
use Rattle.ring_laws.proofs.Written.{Passes, AllPass, passes_other, written_after, written_still, written_map, unwritten_at, writes_still, writes_all, writes_stage}
use Rattle.ring_laws.proofs.WrittenWord.{written_event, not_one, slot_writes, slot_lines, IsRaised, producer_writes}

-- what the lines of a move make of the reply under way: none is, or one has a word more, or it is told
pub data RowGoes (before ys : List Line) (s t : BackStage) : Type 0 where
  rests : under_way s ≡ [] → under_way t ≡ [] → answered_in (before ++ ys) ≡ answered_in before → RowGoes before ys s t
  grows : (r : Reply) → Candidate before (length (under_way s)) (response_in r) → row_at t ≡ Some r → length (under_way t) ≡ length (under_way s) + 1 → lines_before (before ++ ys) (length (under_way s) + 1) ≡ lines_before before (length (under_way s)) → answered_in (before ++ ys) ≡ answered_in before
      → ((answered : List Answered) (k prod : ℕ) → answered_then s answered k prod ≡ answered) → RowGoes before ys s t
  ends : (r : Reply) (chosen : ℕ) → s ≡ stage.Producer r → under_way t ≡ [] → response_due (lines_before before 3) chosen ≡ Some (response_words_of (response_in r)) → answered_in (before ++ ys) ≡ answered_in before ++ chosen ∷ [] → RowGoes before ys s t

-- a move of the back, with the lines after it
pub record MoveWrites (before : List Line) (answered : List Answered) (s : BackStage) (old : View) (answer : BackAnswer) (shown : Move) (new : View) : Type 0 where
  pub writes : Writes (before ++ lines.Move shown ∷ (back_lines new.told answer ++ halt_lines old.halted new.halted)) new.stage answered
  pub row : RowGoes before (lines.Move shown ∷ (back_lines new.told answer ++ halt_lines old.halted new.halted)) s new.stage

-- a move at which nothing is told and the back does not halt
alone : (before : List Line) (answered : List Answered) (s : BackStage) (old : View) (answer : BackAnswer) (shown : Move) (new : View) → new.told ≡ None → new.halted ≡ old.halted → Writes (before ++ lines.Move shown ∷ []) new.stage answered → RowGoes before (lines.Move shown ∷ []) s new.stage → MoveWrites before answered s old answer shown new
alone before answered s old answer shown new told halted w row =
    let none : halt_lines old.halted new.halted ≡ [] = ap (λ (h : Option Halt). halt_lines old.halted h) halted ∙ unhalted old.halted in
    let all : back_lines new.told answer ++ halt_lines old.halted new.halted ≡ [] = untold new.told answer (halt_lines old.halted new.halted) told ∙ none in
    record { writes = subst (λ (ls : List Line). Writes (before ++ lines.Move shown ∷ ls) new.stage answered) (sym all) w; row = subst (λ (ls : List Line). RowGoes before (lines.Move shown ∷ ls) s new.stage) (sym all) row }

read_passes : (number frame word value : ℕ) → Passes (lines.Move (moves.Read back.Back number frame word value))
read_passes number frame word value = record { on = read_on number frame word value; unwritten = λ before. refl; untold = refl }

pub halt_passes : (old new : Option Halt) → AllPass (halt_lines old new)
halt_passes None None = tt
halt_passes None (Some h) = (passes_other (lines.Halt h) refl refl, tt)
halt_passes (Some g) new = tt

-- a move between two replies that writes no word of one; the back may halt
quiet : (before : List Line) (answered : List Answered) (s : BackStage) (old : View) (answer : BackAnswer) (shown : Move) (new : View) → Writes before s answered → under_way s ≡ [] → Passes (lines.Move shown) → new.told ≡ None → under_way new.stage ≡ [] → MoveWrites before answered s old answer shown new
quiet before answered s old answer shown new w none p told still =
    let tail : AllPass (back_lines new.told answer ++ halt_lines old.halted new.halted) = subst (λ (ls : List Line). AllPass ls) (sym (untold new.told answer (halt_lines old.halted new.halted) told)) (halt_passes old.halted new.halted) in
    let ys : List Line = lines.Move shown ∷ (back_lines new.told answer ++ halt_lines old.halted new.halted) in
    record { writes = writes_stage _ s new.stage answered (none ∙ sym still) (writes_all before ys s answered (p, tail) w); row = rests none still (answered_aside ys before (p, tail)) }

either_view : (P : View → Type 0) (b : Bool) (x y : View) → P x → P y → P (if b then x else y)
either_view P true x y p q = p
either_view P false x y p q = q

pub giving_nothing : (m : Option Mapping) → under_way (unmapping_next m) ≡ []
giving_nothing None = refl
giving_nothing (Some m) = refl

two_stages : (b : Bool) → under_way (if b then stage.Send else stage.Loop) ≡ []
two_stages true = refl
two_stages false = refl

-- an act of a back at a stage
abbrev BackWrites : List Line → BackStage → List Answered → ℕ → View → BackAct → Type 0
BackWrites before s answered k v a = MoveWrites before (answered_then s answered k v.ring.indices.prod) s v a.answer a.shown (step_at s v a.answer)

-- and of one in its loop, by what it replies
abbrev Loops : List Line → List Answered → Option Reply → View → BackAct → Type 0
Loops before answered r v a = MoveWrites before answered stage.Loop v a.answer a.shown (loop_step v r a.answer)

two_mappings : (b : Bool) → under_way (if b then stage.MapRing else stage.Bind) ≡ []
two_mappings true = refl
two_mappings false = refl

pub unbound_nothing : (pages : List Mapping) → under_way (unbound pages) ≡ []
unbound_nothing [] = refl
unbound_nothing (page ∷ pages) = refl

bound_nothing : (pages : List Mapping) → under_way (bound pages) ≡ []
bound_nothing [] = refl
bound_nothing (page ∷ pages) = refl

-- a page of the ring is mapped, or it isn't
map_writes : (before : List Line) (h : Hypervisor) (v : View) (x : Sight) (answered : List Answered) (k : ℕ) (verdict : Result ℕ MapRefusal) → x.touched ≡ false → Shows before x → v.told ≡ None → Writes before stage.MapRing answered → BackWrites before stage.MapRing answered k v (map_act h back.Back (next_gref v) ReadWrite verdict)
map_writes before h v x answered k (Ok frame) none shows told w =
    let line : Line = lines.Move (moves.Map back.Back (next_gref v) ReadWrite (h.grants.made + 1) frame) in
    let last : Bool = nat_lt (length v.pages + 1) (length v.grefs) in
    let next : BackStage = if last then stage.MapRing else stage.Bind in
    alone before answered stage.MapRing v _ (moves.Map back.Back (next_gref v) ReadWrite (h.grants.made + 1) frame) (mapped (next_mapping h.grants (next_gref v) ReadWrite) v) told refl
    (writes_stage _ stage.MapRing next answered (sym (two_mappings last))
    (writes_still before line stage.MapRing answered w (unwritten_at before line stage.MapRing answered w refl refl) (written_map before (next_gref v) (h.grants.made + 1) frame ReadWrite x none shows) refl))
    (rests refl (two_mappings last) (answered_one before line refl refl))
map_writes before h v x answered k (Err refusal) none shows told w =
    quiet before answered stage.MapRing v _ (moves.MapRefused back.Back (next_gref v) ReadWrite (status_of refusal)) _ w refl (passes_other (lines.Move (moves.MapRefused back.Back (next_gref v) ReadWrite (status_of refusal))) refl refl) told (unbound_nothing v.pages)

bind_writes : (before : List Line) (h : Hypervisor) (v : View) (answered : List Answered) (k : ℕ) (state : PortState) → v.told ≡ None → Writes before stage.Bind answered → BackWrites before stage.Bind answered k v (bind_act h v.ring.port state)
bind_writes before h v answered k port.Unbound told w = quiet before answered stage.Bind v _ (moves.Bind v.ring.port) _ w refl (passes_other (lines.Move (moves.Bind v.ring.port)) refl refl) told refl
bind_writes before h v answered k other told w = quiet before answered stage.Bind v _ (moves.BindRefused v.ring.port) _ w refl (passes_other (lines.Move (moves.BindRefused v.ring.port)) refl refl) told (unbound_nothing v.pages)

-- a word is read, whatever the back makes of it
read_writes : (before : List Line) (answered : List Answered) (s : BackStage) (old : View) (answer : BackAnswer) (number frame word value : ℕ) (new : View) → Writes before s answered → under_way s ≡ [] → new.told ≡ None → under_way new.stage ≡ [] → MoveWrites before answered s old answer (moves.Read back.Back number frame word value) new
read_writes before answered s old answer number frame word value new w none told still = quiet before answered s old answer (moves.Read back.Back number frame word value) new w none (read_passes number frame word value) told still

looked_writes : (before : List Line) (answered : List Answered) (s : BackStage) (v otherwise : View) (answer : BackAnswer) (number frame place word : ℕ) → Writes before s answered → under_way s ≡ [] → v.told ≡ None → otherwise.told ≡ None → under_way otherwise.stage ≡ [] → MoveWrites before answered s v answer (moves.Read back.Back number frame place word) (looked v word otherwise)
looked_writes before answered s v otherwise answer number frame place word w none told other still =
    let P : View → Type 0 = λ (new : View). MoveWrites before answered s v answer (moves.Read back.Back number frame place word) new in
    either_view P (overruns v.ring.indices word) (overrun v word) _
    (read_writes before answered s v answer number frame place word (overrun v word) w none told (giving_nothing (first_mapping v.jobs.works)))
    (either_view P (word == v.ring.indices.cons) otherwise (record v { ring = record v.ring { seen = word }; stage = stage.Loop })
    (read_writes before answered s v answer number frame place word otherwise w none other still)
    (read_writes before answered s v answer number frame place word (record v { ring = record v.ring { seen = word }; stage = stage.Loop }) w none told refl))

loop_word_writes : (before : List Line) (answered : List Answered) (v : View) (answer : BackAnswer) (number frame place word : ℕ) → Writes before stage.Loop answered → v.told ≡ None → MoveWrites before answered stage.Loop v answer (moves.Read back.Back number frame place word) (loop_word v word)
loop_word_writes before answered v answer number frame place word w told =
    either_view (λ (new : View). MoveWrites before answered stage.Loop v answer (moves.Read back.Back number frame place word) new) (requests_of v.ring.indices v.ring.seen == 0) (looked v word (record v { ring = record v.ring { seen = word }; stage = stage.StoreEvent })) (record v { ring = record v.ring { entry = word ∷ [] }; stage = stage.Fetch 1 })
    (looked_writes before answered stage.Loop v (record v { ring = record v.ring { seen = word }; stage = stage.StoreEvent }) answer number frame place word w refl told told refl)
    (read_writes before answered stage.Loop v answer number frame place word (record v { ring = record v.ring { entry = word ∷ [] }; stage = stage.Fetch 1 }) w refl told refl)

fetch_writes : (before : List Line) (answered : List Answered) (n : ℕ) (v : View) (answer : BackAnswer) (number frame place word : ℕ) → Writes before (stage.Fetch n) answered → v.told ≡ None → MoveWrites before answered (stage.Fetch n) v answer (moves.Read back.Back number frame place word) (fetch_step v n word)
fetch_writes before answered n v answer number frame place word w told =
    either_view (λ (new : View). MoveWrites before answered (stage.Fetch n) v answer (moves.Read back.Back number frame place word) new) (n + 1 == entry_words_of v.shape.abi) (fetched v (v.ring.entry ++ word ∷ [])) (record v { ring = record v.ring { entry = v.ring.entry ++ word ∷ [] }; stage = stage.Fetch (n + 1) })
    (read_writes before answered (stage.Fetch n) v answer number frame place word (fetched v (v.ring.entry ++ word ∷ [])) w refl told refl)
    (read_writes before answered (stage.Fetch n) v answer number frame place word (record v { ring = record v.ring { entry = v.ring.entry ++ word ∷ [] }; stage = stage.Fetch (n + 1) }) w refl told refl)

-- the back waits; its stage stays
wait_writes : (before : List Line) (answered : List Answered) (s : BackStage) (old new : View) (answer : BackAnswer) → Writes before s answered → under_way s ≡ [] → new.told ≡ None → under_way new.stage ≡ under_way s → MoveWrites before answered s old answer (moves.Event mover.Back) new
wait_writes before answered s old new answer w none told same = quiet before answered s old answer (moves.Event mover.Back) new w none (passes_other (lines.Move (moves.Event mover.Back)) refl refl) told (same ∙ none)

-- and so where it takes a watch
watch_writes : (before : List Line) (answered : List Answered) (s : BackStage) (old new : View) (answer : BackAnswer) (path : List ℕ) → Writes before s answered → under_way s ≡ [] → new.told ≡ None → under_way new.stage ≡ under_way s → MoveWrites before answered s old answer (moves.Watched mover.Back path) new
watch_writes before answered s old new answer path w none told same = quiet before answered s old answer (moves.Watched mover.Back path) new w none (passes_other (lines.Move (moves.Watched mover.Back path)) refl refl) told (same ∙ none)

idle_writes : (before : List Line) (h : Hypervisor) (v : View) (o : Outcome) (a : BackAct) (answered : List Answered) (asleep none : Bool) → under_way v.stage ≡ [] → v.told ≡ None → Writes before stage.Loop answered
    → back_act h back.Back (if asleep then ask.Wait else (if none then index_ask v 0 else entry_ask v 0)) o ≡ Some a → Loops before answered None v a
idle_writes before h v o a answered true none same told w e = back_wait (Loops before answered None v) h back.Back a (wait_writes before answered stage.Loop v (record v { ring = record v.ring { asleep = false } }) answers.Event w refl told same) (λ path. watch_writes before answered stage.Loop v v (answers.Watched path) path w refl told same) e
idle_writes before h v o a answered false true same told w e = of_back (Loops before answered None v) _ a (loop_word_writes before answered v _ _ (frame_of h.grants (page_of v 0)) 0 _ w told) e
idle_writes before h v o a answered false false same told w e = of_back (Loops before answered None v) _ a (loop_word_writes before answered v _ _ (frame_of h.grants (slot_page v v.ring.indices.cons 0)) (slot_word v.shape v.ring.indices.cons 0) _ w told) e

-- a word of a response is written: the row has it
slot_goes : (before : List Line) (x : Sight) (v : View) (frame i w : ℕ) (r : Reply) (s t : BackStage) → Serves 0 x v → Shows before x → length (under_way s) < 3 → Candidate before (length (under_way s)) (response_in r) → row_at t ≡ Some r → length (under_way t) ≡ length (under_way s) + 1
    → ((answered : List Answered) (k p : ℕ) → answered_then s answered k p ≡ answered) → i < 3 → (let page : Mapping = slot_page v v.ring.indices.prod i in RowGoes before (lines.Move (moves.Write back.Back page.number frame (slot_word v.shape v.ring.indices.prod i) w) ∷ []) s t)
slot_goes before x v frame i w r s t k shows small c at long same within =
    let page : Mapping = slot_page v v.ring.indices.prod i in
    let line : Line = lines.Move (moves.Write back.Back page.number frame (slot_word v.shape v.ring.indices.prod i) w) in
    grows r c at long
    (slot_lines before x page.number (slot_word_of v.shape v.ring.indices.prod i).0 frame (slot_word v.shape v.ring.indices.prod i) w (length (under_way s)) (not_one _ (high_slot v.shape v.ring.indices.prod i)) (slot_is 0 v.ring.indices.prod i x v k (response_fits v.shape.abi i within)) shows)
    (answered_one before line refl refl) same

-- one of the three words, and the stage that follows
word_writes : (before : List Line) (h : Hypervisor) (x : Sight) (v new : View) (answer : BackAnswer) (i : ℕ) (r : Reply) (s t : BackStage) (answered : List Answered) → Serves 0 x v → Shows before x → new.told ≡ None → new.halted ≡ v.halted → new.stage ≡ t → Writes before s answered → length (under_way s) ≡ i → i < 3 → under_way s ++ response_word r i ∷ [] ≡ under_way t
    → ((words : List ℕ) → are_alike i (row_of (under_way s ++ response_word r i ∷ []) 0) words ≡ are_alike i (response_words_of (response_in r)) words) → Candidate before i (response_in r) → row_at t ≡ Some r → ((l : List Answered) (n m : ℕ) → answered_then s l n m ≡ l)
    → (let page : Mapping = slot_page v v.ring.indices.prod i in MoveWrites before answered s v answer (moves.Write back.Back page.number (frame_of h.grants page) (slot_word v.shape v.ring.indices.prod i) (response_word r i)) new)
word_writes before h x v new answer i r s t answered k shows told halted here w long small same alike job at still =
    let page : Mapping = slot_page v v.ring.indices.prod i in
    let shown : Move = moves.Write back.Back page.number (frame_of h.grants page) (slot_word v.shape v.ring.indices.prod i) (response_word r i) in
    let longer : length (under_way t) ≡ length (under_way s) + 1 = ap (λ (u : List ℕ). length u) (sym same) ∙ length-append (under_way s) (response_word r i ∷ []) in
    alone before answered s v answer shown new told halted
    (subst (λ (q : BackStage). Writes (before ++ lines.Move shown ∷ []) q answered) (sym here) (slot_writes before x v (frame_of h.grants page) i (response_word r i) (response_in r) s t answered k shows w long small same alike job))
    (subst (λ (q : BackStage). RowGoes before (lines.Move shown ∷ []) s q) (sym here)
    (slot_goes before x v (frame_of h.grants page) i (response_word r i) r s t k shows (omega arith) (subst (λ (n : ℕ). Candidate before n (response_in r)) (sym long) job) at longer still small))

loop_writes : (before : List Line) (h : Hypervisor) (v : View) (o : Outcome) (a : BackAct) (x : Sight) (answered : List Answered) (r : Option Reply) → Serves 0 x v → Shows before x → under_way v.stage ≡ [] → v.told ≡ None → Writes before stage.Loop answered
    → IfSome (next_word r) (λ (p : Reply × ℕ). Candidate before p.1 (response_in p.0)) → back_act h back.Back (loop_ask v r) o ≡ Some a → Loops before answered r v a
loop_writes before h v o a x answered (Some r) k shows same told w job e =
    of_back (Loops before answered (Some r) v) _ a (word_writes before h x v _ answers.Done 0 r stage.Loop (stage.ReplyHigh r) answered k shows told refl refl w refl (omega arith) refl (λ words. refl) job refl (λ l n m. refl)) e
loop_writes before h v o a x answered None k shows same told w job e = idle_writes before h v o a answered v.ring.asleep (requests_of v.ring.indices v.ring.seen == 0) same told w e

-- req_event is no word of a reply
event_writes : (before : List Line) (x : Sight) (v : View) (frame value : ℕ) (answered : List Answered) → Serves 0 x v → Shows before x → v.told ≡ None → Writes before stage.StoreEvent answered → (let page : Mapping = page_of v 0 in MoveWrites before answered stage.StoreEvent v answers.Done (moves.Write back.Back page.number frame 1 value) (at stage.EventFence v))
event_writes before x v frame value answered k shows told w =
    let page : Mapping = page_of v 0 in
    let line : Line = lines.Move (moves.Write back.Back page.number frame 1 value) in
    let on : IsOnPages (lines.Move (moves.Write back.Back page.number frame 1 value)) = write_on page.number frame 1 value in
    let none : value_written before (lines.Move (moves.Write back.Back page.number frame 1 value)) ≡ None = written_event before x page.number frame value (first_is 0 x v k) shows in
    alone before answered stage.StoreEvent v answers.Done (moves.Write back.Back page.number frame 1 value) (at stage.EventFence v) told refl
    (writes_stage _ stage.StoreEvent stage.EventFence answered refl
    (writes_still before line stage.StoreEvent answered w (unwritten_at before line stage.StoreEvent answered w none refl) (written_still before line on none) (written_after before line on ∙ none)))
    (rests refl refl (answered_one before line refl refl))

-- the producer is raised, and the reply told
raised_writes : (before : List Line) (x : Sight) (v : View) (frame k : ℕ) (r : Reply) (answered : List Answered) → Serves 0 x v → Shows before x → r.op < 2 ^ 8 → Writes before (stage.Producer r) answered → Candidate before 3 (response_in r)
    → (let page : Mapping = page_of v 0 in MoveWrites before (answered ++ record { job = k; response = response_in r; producer = next_of v.ring.indices.prod } ∷ []) (stage.Producer r) v answers.Done (moves.Write back.Back page.number frame 2 (next_of v.ring.indices.prod)) (replied v r))
raised_writes before x v frame k r answered s shows small w c =
    let page : Mapping = page_of v 0 in
    let all = answered ++ record { job = k; response = response_in r; producer = next_of v.ring.indices.prod } ∷ [] in
    let line : Line = lines.Move (moves.Write back.Back page.number frame 2 (next_of v.ring.indices.prod)) in
    let up : IsRaised before (lines.Move (moves.Write back.Back page.number frame 2 (next_of v.ring.indices.prod)) ∷ lines.Reply r.id r.status ∷ []) v.ring.indices.prod k r answered = producer_writes before x v frame k r answered s shows small w c in
    record {
      writes = subst (λ (ls : List Line). Writes (before ++ line ∷ lines.Reply r.id r.status ∷ ls) (stage.ProducerFence v.ring.indices.prod) all) (sym (unhalted v.halted)) up.writes;
      row = subst (λ (ls : List Line). RowGoes before (line ∷ lines.Reply r.id r.status ∷ ls) (stage.Producer r) (stage.ProducerFence v.ring.indices.prod)) (sym (unhalted v.halted)) (ends r up.chosen refl refl up.due up.told);
    }

-- the first page that is left is unmapped, or the back waits
unmap_writes : (before : List Line) (h : Hypervisor) (s : BackStage) (v new : View) (o : Outcome) (a : BackAct) (answered : List Answered) (pages : List Mapping) → Writes before s answered → under_way s ≡ [] → new.told ≡ None → under_way new.stage ≡ [] → back_act h back.Back (unmap_ask pages) o ≡ Some a → MoveWrites before answered s v a.answer a.shown new
unmap_writes before h s v new o a answered [] w none told still e =
    back_wait (λ (b : BackAct). MoveWrites before answered s v b.answer b.shown new) h back.Back a (wait_writes before answered s v new _ w none told (still ∙ sym none)) (λ path. watch_writes before answered s v new _ path w none told (still ∙ sym none)) e
unmap_writes before h s v new o a answered (page ∷ pages) w none told still e =
    of_back (λ (b : BackAct). MoveWrites before answered s v b.answer b.shown new) _ a (quiet before answered s v _ (moves.Unmap back.Back page.number) new w none (passes_other (lines.Move (moves.Unmap back.Back page.number)) refl refl) told still) e

writes_at : (before : List Line) (h : Hypervisor) (s : BackStage) (v : View) (o : Outcome) (a : BackAct) (x : Sight) (answered : List Answered) (k : ℕ) → KnowsAt s x v → Shows before x → under_way v.stage ≡ under_way s → v.told ≡ None → Writes before s answered
    → IfSome (replying s v) (λ (p : Reply × ℕ). Candidate before p.1 (response_in p.0)) → ((r : Reply) → s ≡ stage.Producer r → r.op < 2 ^ 8)
    → back_act h back.Back (ask_at s v) o ≡ Some a → BackWrites before s answered k v a
writes_at before h stage.InitWait v o a x answered k n shows same told w job small e =
    back_wait (BackWrites before stage.InitWait answered k v) h back.Back a (wait_writes before answered stage.InitWait v v _ w refl told same) (λ path. watch_writes before answered stage.InitWait v v _ path w refl told same) e
writes_at before h stage.MapRing v o a x answered k n shows same told w job small e =
    of_back (BackWrites before stage.MapRing answered k v) _ a (map_writes before h v x answered k (verdict_at h.pages (next_gref v) ReadWrite) n.waits.untouched shows told w) e
writes_at before h stage.Bind v o a x answered k n shows same told w job small e = of_back (BackWrites before stage.Bind answered k v) _ a (bind_writes before h v answered k (state_of h.channels v.ring.port) told w) e
writes_at before h stage.Loop v o a x answered k n shows same told w job small e = loop_writes before h v o a x answered (next_reply v) n shows same told w job e
writes_at before h (stage.Fetch i) v o a x answered k n shows same told w job small e = of_back (BackWrites before (stage.Fetch i) answered k v) _ a (fetch_writes before answered i v _ _ (frame_of h.grants (slot_page v v.ring.indices.cons i)) (slot_word v.shape v.ring.indices.cons i) _ w told) e
writes_at before h (stage.ReplyHigh r) v o a x answered k n shows same told w job small e =
    of_back (BackWrites before (stage.ReplyHigh r) answered k v) _ a (word_writes before h x v _ answers.Done 1 r (stage.ReplyHigh r) (stage.ReplyLast r) answered n shows told refl refl w refl (omega arith) refl (λ words. refl) job refl (λ l i m. refl)) e
writes_at before h (stage.ReplyLast r) v o a x answered k n shows same told w job small e =
    of_back (BackWrites before (stage.ReplyLast r) answered k v) _ a (word_writes before h x v _ answers.Done 2 r (stage.ReplyLast r) (stage.Producer r) answered n shows told refl refl w refl (omega arith) refl (λ words. refl) job refl (λ l i m. refl)) e
writes_at before h (stage.Producer r) v o a x answered k n shows same told w job small e = of_back (BackWrites before (stage.Producer r) answered k v) _ a (raised_writes before x v (frame_of h.grants (page_of v 0)) k r answered n shows (small r refl) w job) e
writes_at before h (stage.ProducerFence old) v o a x answered k n shows same told w job small e = of_back (BackWrites before (stage.ProducerFence old) answered k v) _ a (quiet before answered (stage.ProducerFence old) v _ (moves.Fence mover.Back) _ w refl (passes_other (lines.Move (moves.Fence mover.Back)) refl refl) told refl) e
writes_at before h (stage.ResponseEvent old) v o a x answered k n shows same told w job small e =
    of_back (BackWrites before (stage.ResponseEvent old) answered k v) _ a
    (read_writes before answered (stage.ResponseEvent old) v _ _ (frame_of h.grants (page_of v 0)) 3 _ (at (if notifies old v.ring.indices.prod _ then stage.Send else stage.Loop) v) w refl told (two_stages (notifies old v.ring.indices.prod _))) e
writes_at before h stage.Send v o a x answered k n shows same told w job small e = of_back (BackWrites before stage.Send answered k v) _ a (quiet before answered stage.Send v _ (moves.Send mover.Back) _ w refl (passes_other (lines.Move (moves.Send mover.Back)) refl refl) told refl) e
writes_at before h stage.StoreEvent v o a x answered k n shows same told w job small e = of_back (BackWrites before stage.StoreEvent answered k v) _ a (event_writes before x v (frame_of h.grants (page_of v 0)) (next_of v.ring.indices.cons) answered n shows told w) e
writes_at before h stage.EventFence v o a x answered k n shows same told w job small e = of_back (BackWrites before stage.EventFence answered k v) _ a (quiet before answered stage.EventFence v _ (moves.Fence mover.Back) _ w refl (passes_other (lines.Move (moves.Fence mover.Back)) refl refl) told refl) e
writes_at before h stage.LookAgain v o a x answered k n shows same told w job small e =
    of_back (BackWrites before stage.LookAgain answered k v) _ a (looked_writes before answered stage.LookAgain v (record v { ring = record v.ring { seen = _; asleep = true }; stage = stage.Loop }) _ _ (frame_of h.grants (page_of v 0)) 0 _ w refl told told refl) e
writes_at before h (stage.Abort m) v o a x answered k n shows same told w job small e = of_back (BackWrites before (stage.Abort m) answered k v) _ a (quiet before answered (stage.Abort m) v _ (moves.Unmap back.Back m.number) (abort v) w refl (passes_other (lines.Move (moves.Unmap back.Back m.number)) refl refl) told (giving_nothing (first_mapping v.jobs.works))) e
writes_at before h stage.UnmapRing v o a x answered k n shows same told w job small e = unmap_writes before h stage.UnmapRing v (unmapped_bound v) o a answered v.pages w refl told (bound_nothing (other_pages v.pages)) e
writes_at before h stage.ClosePort v o a x answered k n shows same told w job small e = of_back (BackWrites before stage.ClosePort answered k v) _ a (quiet before answered stage.ClosePort v _ (moves.ClosePort mover.Back) _ w refl (passes_other (lines.Move (moves.ClosePort mover.Back)) refl refl) told refl) e
writes_at before h stage.UnmapUnbound v o a x answered k n shows same told w job small e = unmap_writes before h stage.UnmapUnbound v (unmapped_unbound v) o a answered v.pages w refl told (unbound_nothing (other_pages v.pages)) e
writes_at before h stage.Halted v o a x answered k n shows same told w job small e = back_wait (BackWrites before stage.Halted answered k v) h back.Back a (wait_writes before answered stage.Halted v v _ w refl told same) (λ path. watch_writes before answered stage.Halted v v _ path w refl told same) e

-- a move of the back, where a job is due the response that it writes
pub back_writes : (before : List Line) (h : Hypervisor) (v : View) (o : Outcome) (a : BackAct) (x : Sight) (answered : List Answered) (k : ℕ) → KnowsAt v.stage x v → Shows before x → v.told ≡ None → Writes before v.stage answered
    → IfSome (replying v.stage v) (λ (p : Reply × ℕ). Candidate before p.1 (response_in p.0)) → ((r : Reply) → v.stage ≡ stage.Producer r → r.op < 2 ^ 8)
    → back_act h back.Back (ask_of v) o ≡ Some a
    → MoveWrites before (answered_then v.stage answered k v.ring.indices.prod) v.stage v a.answer a.shown (step_of v a.answer)
back_writes before h v o a x answered k knows shows told w job small e = writes_at before h v.stage v o a x answered k knows shows refl told w job small e
