-- A move of either end once the back has halted: the back unmaps the ring's pages and closes its port, and after it the front ends the grants of the ring's frames and closes its own.
use Rattle.std.proofs.Common.{◌≡◌, ◌≢◌, ℕ, ◌+◌, ◌-◌, ◌*◌, ◌/◌, ◌%◌, ◌^◌, ◌<◌, ◌≤◌, ◌==◌, ◌&&◌, ◌||◌, inl, inr, if◌then◌else◌, Bool, true, false, List, [], ◌∷◌, ◌++◌, length, refl, ap, sym, ◌∙◌, subst, arith, length-set, true≢false}
use Rattle.std.specs.Prelude.{All, Option, Some, None, count_by, slice_get, nat_lt}
use Rattle.std.proofs.lemmas.Bool.{cases_eq, cond_both, or_right}
use Rattle.std.proofs.lemmas.List.{length-map}
use Rattle.std.proofs.lemmas.List.Elements.{All-head, All-tail, All-cons}
use Rattle.std.proofs.lemmas.Option.{same_Some}
use Rattle.std.proofs.lemmas.Bool.Decides.{nat_tests}
use Rattle.blk_base.specs.Options.{Options}
use Rattle.blk_base.specs.declared.ask.FrontAsk.{FrontAsk}
use Rattle.blk_base.specs.declared.ask.FrontAsk.TheVariants as front_ask
use Rattle.blk_base.specs.declared.ask.FrontAnswer.{FrontAnswer}
use Rattle.blk_base.specs.declared.ask.FrontAnswer.TheVariants as front_answer
use Rattle.blk_base.specs.declared.ask.BackAsk.{BackAsk}
use Rattle.blk_base.specs.declared.ask.BackAsk.TheVariants as back_ask
use Rattle.blk_base.specs.declared.ask.BackAnswer.{BackAnswer}
use Rattle.blk_base.specs.declared.ask.BackAnswer.TheVariants as back_answer
use Rattle.blk_base.specs.declared.moves.BackMover.TheVariants as back_mover
use Rattle.blk_base.specs.declared.moves.Move.{Move as Shown}
use Rattle.blk_base.specs.declared.moves.Move.TheVariants as moves
use Rattle.blk_base.specs.declared.moves.Mover.TheVariants as mover
use Rattle.blk_base.specs.declared.parts.End.TheVariants as end
use Rattle.blk_base.specs.declared.parts.Mapping.{Mapping}
use Rattle.schedule_text.specs.declared.line.Line.{Line}
use Rattle.schedule_text.specs.declared.line.Line.TheVariants as lines
use Rattle.xen_pages.specs.Pages.{word_of, with_word}
use Rattle.grant_table.specs.declared.held.Held.{Held}
use Rattle.grant_table.specs.Entry.{is_reading, is_writing, is_for_writing, without_reading, unmapped_entry}
use Rattle.grant_table.specs.Table.{IsLive, entry_word0, with_entry_word0, mappings_of, writers_of, without, unmap_pages, unmap_table}
use Rattle.event_channel.specs.Channels.{unbound_port, closed_port as shut}
use Rattle.hypervisor.specs.Act.{FrontAct, BackAct, Outcome, Took, front_act, front_watched, back_act, back_watched, watch_next}
use Rattle.pipeline_laws.specs.Pipeline.{Pipeline}
use Rattle.blk_front.specs.declared.request.Request.{Request}
use Rattle.blk_front.specs.declared.stage.FrontStage.{FrontStage}
use Rattle.blk_front.specs.declared.stage.FrontStage.TheVariants as front
use Rattle.blk_front.specs.View as front_view
use Rattle.blk_front.specs.View.{next_request, ring_frame, ring_page_frame, entry_frame, entry_word, slot_frame, slot_word}
use Rattle.blk_front.specs.Ask.{is_through, loop_ask}
use Rattle.blk_front.specs.Step.{at, broken, is_mapped, ring_left, loop_step, step_at}
use Rattle.blk_front.specs.Submit.{is_connected}
use Rattle.ring_words.specs.Ring.{responses_of}
use Rattle.back_jobs.specs.Hands.{hands_in}
use Rattle.back_jobs.specs.Work.{Work}
use Rattle.blk_back.specs.declared.stage.BackStage.{BackStage}
use Rattle.blk_back.specs.declared.stage.BackStage.TheVariants as back
use Rattle.blk_back.specs.declared.told.BackTold.{BackTold}
use Rattle.blk_base.specs.declared.halt.Halt.{Halt}
use Rattle.blk_back.specs.Hands.{hands_at}
use Rattle.blk_back.specs.View as back_view
use Rattle.blk_back.specs.Ask.{unmap_ask}
use Rattle.blk_back.specs.Step.{other_pages, bound, unbound, job_ask_of}
use Rattle.split_model.specs.World.{World}
use Rattle.split_model.specs.Safe.{AreHeld, IsSafe}
use Rattle.split_model.specs.Shown.{front_lines, back_lines, halt_lines}
use Rattle.split_model.specs.Happening.{job_turn, job_after, job_shows}
use Rattle.split_model.proofs.SafeActs.{front_event, back_event}
use Rattle.machine_pipeline.specs.Step.{Does, IsSame, CallOf}
use Rattle.machine_pipeline.proofs.Turns.{front_turn_at, front_next, front_says, back_turn_at, back_next, back_says, nothing, no_move, said_nothing}
use Rattle.machine_pipeline.proofs.Holds.{AreMapped}
use Rattle.machine_pipeline.proofs.Lists.{all_at, pairs_head, pairs_tail, count_none}
use Rattle.machine_pipeline.proofs.Slots.{few_pages}
use Rattle.machine_pipeline.proofs.Kept.{written, other_frame, other_entry}
use Rattle.machine_pipeline.proofs.Mapped.{mapped_less}
use Rattle.machine_pipeline.proofs.Over.{IsDrained, IsAborting, AreOwn, AreUnmapped, IsLeaving, Over, HasGone, over_at, gone_by}
use Rattle.machine_pipeline.proofs.Leaving.{giving_unbound}

-- the machine with that front, and its lines
abbrev next_by : (FrontAnswer → front_view.View) → World → Option FrontAct → World
next_by x w None = w
next_by x w (Some a) = record { front = (let v : front_view.View = x a.answer in record v { told = None }); back = w.back; under = a.under }

abbrev says_by : (FrontAnswer → front_view.View) → World → Option FrontAct → List Line
says_by x w None = []
says_by x w (Some a) = lines.Move a.shown ∷ front_lines (let v : front_view.View = x a.answer in v.told)

-- a move of the front and of the back at that stage
abbrev FrontEnds : Options → World → Pipeline → FrontStage → Type 0
FrontEnds config w d s = HasGone None IsSame config (front_says s w (front_turn_at s w)) (front_next s w (front_turn_at s w)) d

abbrev BackEnds : Options → World → Pipeline → BackStage → Type 0
BackEnds config w d b = HasGone None IsSame config (back_says b w (back_turn_at b w)) (back_next b w (back_turn_at b w)) d

-- what stands where the front tells nothing and all that matters is as it was
abbrev IsStill : Options → World → Pipeline → front_view.View → Type 0
IsStill config w d v = (v.told ≡ None) × Over config (record { front = v; back = w.back; under = w.under }) d v.stage w.back.stage

-- it waits: it takes its event or a watch, or does nothing
waits : (config : Options) (w : World) (d : Pipeline) (x : FrontAnswer → front_view.View)
    → Over config w d w.front.stage w.back.stage → IsStill config w d (x front_answer.Event) → ((path : List ℕ) → IsStill config w d (x (front_answer.Watched path)))
    → (let act : Option FrontAct = front_act w.under front_ask.Wait in HasGone None IsSame config (says_by x w act) (next_by x w act) d)
waits config w d x here event watch = by_pending w.under.channels.front_pending (watch_next w.under end.Front)
  where
    by_pending : (b : Bool) (next : Option (List ℕ)) → (let act : Option FrontAct = (if b then Some (front_event w.under) else front_watched w.under next) in HasGone None IsSame config (says_by x w act) (next_by x w act) d)
    by_pending false None = record { steps = []; does = no_move IsSame d (λ a b same. same); kept = inr here }
    by_pending false (Some path) = record { steps = []; does = said_nothing d (moves.Watched mover.Front path) _ (watch path).0; kept = inr (watch path).1 }
    by_pending true next = record { steps = []; does = said_nothing d (moves.Event mover.Front) _ event.0; kept = inr event.1 }

-- with no request left none is next
none_next : (waiting : ℕ) (requests : List Request) → requests ≡ [] → (if waiting == 0 then None else slice_get requests (length requests - waiting)) ≡ None
none_next waiting requests none = rw none (cond_both (waiting == 0) _ _ (λ (r : Option Request). r ≡ None) (λ t. refl) (λ t. refl))

-- in its loop it closes, and has no request left
loops : (config : Options) (w : World) (d : Pipeline) → w.front.told ≡ None → Over config w d w.front.stage w.back.stage → FrontEnds config w d front.Loop
loops config w d told o =
    subst (λ (n : Option Request). let act : Option FrontAct = front_act w.under (loop_ask w.front n) in HasGone None IsSame config (says_by (loop_step w.front n) w act) (next_by (loop_step w.front n) w act) d)
    (sym (none_next w.front.waiting w.front.requests o.no_request))
    (subst (λ (b : Bool). let act : Option FrontAct = front_act w.under (if b then front_ask.Wait else looks) in HasGone None IsSame config (says_by (loop_step w.front None) w act) (next_by (loop_step w.front None) w act) d) (sym sleeps)
    (waits config w d (loop_step w.front None) o (told, o) (λ path. (told, o))))
  where
    looks : FrontAsk
    looks = if responses_of w.front.ring.indices w.front.ring.seen == 0 then front_ask.Read ring_frame 2 else front_ask.Read (slot_frame w.front.shape w.front.ring.indices.cons 0) (slot_word w.front.shape w.front.ring.indices.cons 0)

    sleeps : (w.front.ring.asleep || is_through w.front) ≡ true
    sleeps = or_right w.front.ring.asleep (is_through w.front) (rw (o.closes, o.no_request) refl)

-- the words of the ring's first page, where another frame was written
still_drained : (old new : List ℕ) (front_cons back_cons : ℕ) → ((word : ℕ) → word < 1024 → word_of new 2 word ≡ word_of old 2 word) → IsDrained old front_cons back_cons → IsDrained new front_cons back_cons
still_drained old new front_cons back_cons same h = let requests = same 0 (omega arith) in let responses = same 2 (omega arith) in record { served = cc; fetched = cc; read = cc }

-- where the flags of the grant of a frame of the ring stand
abbrev flags_frame : ℕ → ℕ
flags_frame page = entry_frame (ring_page_frame page)

abbrev flags_word : ℕ → ℕ
flags_word page = entry_word (ring_page_frame page)

ring_flags : (pages : List ℕ) (page : ℕ) → word_of pages (flags_frame page) (flags_word page) ≡ entry_word0 pages (8 + page)
ring_flags pages page = ap (λ (gref : ℕ). entry_word0 pages gref) (let same : 2 + page + 6 ≡ 8 + page = omega arith in same)

-- a back that has halted holds nothing
none_held : (config : Options) (w : World) (d : Pipeline) (s : FrontStage) → w.back.stage ≡ back.Halted → Over config w d s w.back.stage → (page : ℕ) → All (λ (m : Mapping). m.gref ≢ 8 + page) w.back.pages
none_held config w d s halted o page = subst (All (λ (m : Mapping). m.gref ≢ 8 + page)) (sym (subst (IsAborting w.back.pages) halted o.back_at)) (λ k x lt. absurd (omega arith))

-- they are read
reads_grant : (config : Options) (w : World) (d : Pipeline) (page : ℕ) → w.front.told ≡ None → Over config w d (front.RingRead page) w.back.stage → FrontEnds config w d (front.RingRead page)
reads_grant config w d page told o =
    subst (λ (b : Bool). let x : front_view.View = (if b then broken word w.front else at (front.RingEnd page word) w.front) in
    HasGone None IsSame config (lines.Move (moves.FrontRead (flags_frame page) (flags_word page) word) ∷ front_lines x.told) (record { front = record x { told = None }; back = w.back; under = w.under }) d) (sym unmapped)
    (gone_by (said_nothing d (moves.FrontRead (flags_frame page) (flags_word page) word) w.front.told told)
    (inr (over_at o o.shut o.memory o.back_at o.own o.mapped (o.front_at.0, o.front_at.1, o.front_at.2, sym (ring_flags w.under.pages page)) o.ring)))
  where
    word : ℕ
    word = word_of w.under.pages (flags_frame page) (flags_word page)

    unmapped : is_mapped word ≡ false
    unmapped = ap is_mapped (ring_flags w.under.pages page) ∙ o.front_at.2 page o.front_at.1 (none_held config w d (front.RingRead page) o.front_at.0 o page)

-- and the grant is ended: the next frame's is looked at, or the port is closed
ends_grant : (config : Options) (w : World) (d : Pipeline) (page seen : ℕ) → w.front.told ≡ None → Over config w d (front.RingEnd page seen) w.back.stage
    → FrontEnds config w d (front.RingEnd page seen)
ends_grant config w d page seen told o =
    subst (λ (b : Bool). let x : front_view.View = (if b then at (ring_left w.front page) w.front else broken word w.front) in
    HasGone None IsSame config (lines.Move (moves.FrontCas (flags_frame page) (flags_word page) seen 0 word) ∷ front_lines x.told)
    (record { front = record x { told = None }; back = w.back; under = (let h = w.under in record h { pages = if b then pages else h.pages }) }) d) (sym tested)
    (cond_both (nat_lt (page + 1) (2 ^ w.front.shape.order)) (front.RingRead (page + 1)) front.ClosePort (λ (s : FrontStage). let x : front_view.View = at s w.front in
    HasGone None IsSame config (lines.Move (moves.FrontCas (flags_frame page) (flags_word page) seen 0 word) ∷ front_lines x.told)
    (record { front = record x { told = None }; back = w.back; under = (let h = w.under in record h { pages = pages }) }) d)
    (λ more. gone_by said (inr (over_at o o.shut sized o.back_at o.own o.mapped (o.front_at.0, (let lt : page + 1 < 2 ^ w.front.shape.order = grind (arith, nat_tests) in lt), unmapped) drained)))
    (λ last. gone_by said (inr (over_at o o.shut sized o.back_at o.own o.mapped tt drained))))
  where
    word : ℕ
    word = word_of w.under.pages (flags_frame page) (flags_word page)

    pages : List ℕ
    pages = with_word w.under.pages (flags_frame page) (flags_word page) 0

    few : page < 16
    few = let all = few_pages w.front.shape.order o.narrow in omega (arith, o.front_at.1)

    tested : (word == seen) ≡ true
    tested = let same : word ≡ seen = ring_flags w.under.pages page ∙ o.front_at.3 in grind (arith, nat_tests)

    ended : entry_word0 pages (8 + page) ≡ 0
    ended = sym (ring_flags pages page) ∙ written w.under.pages (flags_frame page) (flags_word page) 0 o.memory (omega (arith, few)) (omega (arith, few))

    unmapped : AreUnmapped w.front.shape.order pages w.back.pages
    unmapped other within none = elim (cases_eq other page) [
      | inl e ↦ subst (λ (n : ℕ). is_mapped (entry_word0 pages (8 + n)) ≡ false) (sym e) (ap is_mapped ended)
      | inr apart ↦
          let all = few_pages w.front.shape.order o.narrow in
          let same = other_entry w.under.pages (2 + page + 6) (8 + other) 0 (omega (arith, few)) (omega arith) (omega arith) in
          ap is_mapped same.flags ∙ o.front_at.2 other within none
    ]

    drained : length w.under.channels.ports ≢ 0 → IsDrained pages w.front.ring.indices.cons w.back.ring.indices.cons
    drained made = still_drained w.under.pages pages _ _ (other_frame w.under.pages (flags_frame page) (flags_word page) 0 2 (omega (arith, few)) (omega (arith, few))) (o.ring made)

    sized : length pages ≡ 1114112
    sized = length-set w.under.pages (flags_frame page * 1024 + flags_word page) 0 ∙ o.memory

    said : Does None IsSame (lines.Move (moves.FrontCas (flags_frame page) (flags_word page) seen 0 word) ∷ front_lines w.front.told) d []
    said = said_nothing d (moves.FrontCas (flags_frame page) (flags_word page) seen 0 word) w.front.told told

-- its port is closed
closes_port : (config : Options) (w : World) (d : Pipeline) → w.front.told ≡ None → Over config w d front.ClosePort w.back.stage → FrontEnds config w d front.ClosePort
closes_port config w d told o = gone_by (said_nothing d (moves.ClosePort mover.Front) w.front.told told)
    (inr (over_at o o.shut o.memory o.back_at o.own o.mapped tt (λ some. o.ring (λ none. some (length-map w.under.channels.ports shut ∙ none)))))

pub front_ends : (config : Options) (w : World) (d : Pipeline) (s : FrontStage) → is_connected s ≡ true → w.front.told ≡ None → w.front.stage ≡ s → Over config w d s w.back.stage
    → FrontEnds config w d s
front_ends config w d s on told e o = by_stage s on o
  where
    here : Over config w d w.front.stage w.back.stage
    here = subst (λ (x : FrontStage). Over config w d x w.back.stage) (sym e) o

    by_stage : (s : FrontStage) → is_connected s ≡ true → Over config w d s w.back.stage → FrontEnds config w d s
    by_stage (front.RingWord k) on o = absurd (true≢false (sym on))
    by_stage front.Initialised on o = waits config w d (step_at front.Initialised w.front) here (told, here) (λ path. (told, here))
    by_stage front.Loop on o = loops config w d told here
    by_stage (front.RingRead page) on o = reads_grant config w d page told o
    by_stage (front.RingEnd page seen) on o = ends_grant config w d page seen told o
    by_stage front.ClosePort on o = closes_port config w d told o
    by_stage front.Left on o = waits config w d (step_at front.Left w.front) here (told, here) (λ path. (told, here))
    by_stage front.Closed on o = waits config w d (step_at front.Closed w.front) here (told, here) (λ path. (told, here))
    by_stage s on o = absurd o.front_at

-- a halt is told once
pub no_halt : (halt : Option Halt) → halt_lines halt halt ≡ []
no_halt None = refl
no_halt (Some why) = refl

said_back : (d : Pipeline) (shown : Shown) (told : Option BackTold) (halt : Option Halt) (answer : BackAnswer) → told ≡ None → Does None IsSame (lines.Move shown ∷ back_lines told answer ++ halt_lines halt halt) d []
said_back d shown told halt answer untold = rw (untold, no_halt halt) (nothing IsSame shown d (λ a b same. same))

-- the flags of an entry without a mapping
unread_by : (m : ℕ) → m / 16 % 2 ≡ 0 → is_mapped (without_reading m) ≡ false
unread_by m none = cond_both (is_reading m) (m - 8) m (λ (n : ℕ). is_mapped n ≡ false)
    (λ t. let zero_left : (m - 8) / 8 % 4 ≡ 0 = grind (arith, nat_tests) in rw zero_left refl)
    (λ t. let zero_left : m / 8 % 4 ≡ 0 = grind (arith, nat_tests) in rw zero_left refl)

unread : (n : ℕ) → is_mapped (unmapped_entry n 0 0) ≡ false
unread n = cond_both (is_writing n) (n - 16) n (λ (m : ℕ). is_mapped (without_reading m) ≡ false) (λ t. unread_by (n - 16) (grind (arith, nat_tests))) (λ t. unread_by n (grind (arith, nat_tests)))

-- how far the front came stays, as the back unmaps a page or closes its port
still_leaving : (connected : Bool) (made made' order : ℕ) (old new : List ℕ) (held held' : List Mapping) (b b' : BackStage) (s : FrontStage)
    → made' ≡ made → (b ≡ back.Halted → ⊥) → (AreUnmapped order old held → AreUnmapped order new held')
    → IsLeaving connected made order old held b s → IsLeaving connected made' order new held' b' s
still_leaving connected made made' order old new held held' b b' (front.RingWord k) same serves still p = (p.0, same ∙ p.1)
still_leaving connected made made' order old new held held' b b' front.Initialised same serves still p = (p.0, same ∙ p.1, still p.2)
still_leaving connected made made' order old new held held' b b' front.Loop same serves still p = still p
still_leaving connected made made' order old new held held' b b' (front.RingRead page) same serves still p = absurd (serves p.0)
still_leaving connected made made' order old new held held' b b' (front.RingEnd page seen) same serves still p = absurd (serves p.0)
still_leaving connected made made' order old new held held' b b' front.ClosePort same serves still p = tt
still_leaving connected made made' order old new held held' b b' front.Left same serves still p = tt
still_leaving connected made made' order old new held held' b b' front.Closed same serves still p = tt
still_leaving connected made made' order old new held held' b b' s same serves still p = absurd p

-- the machine and its lines once the back's first page was unmapped
abbrev unmap_says : World → Option BackAct → List Line
unmap_says w None = []
unmap_says w (Some a) = lines.Move a.shown ∷ back_lines w.back.told a.answer ++ halt_lines w.back.halted w.back.halted

abbrev unmap_next : World → back_view.View → Option BackAct → World
unmap_next w v None = w
unmap_next w v (Some a) = record { front = w.front; back = record v { told = None }; under = a.under }

-- the references of those that are left are others
none_left : (m : Mapping) (rest : List Mapping) (test : Mapping → Bool) → AreOwn (m ∷ rest) → ((x : Mapping) → x.gref ≢ m.gref → test x ≡ false) → count_by test rest ≡ 0
none_left m rest test own passes =
    let apart = pairs_head (λ (a b : Mapping). a.gref ≢ b.gref) m rest own.distinct in
    count_none test rest (λ i x e. passes x (λ same. all_at (λ (n : Mapping). m.gref ≢ n.gref) rest i x apart e (sym same)))

-- the back's first page is unmapped
unmaps_first : (config : Options) (w : World) (d : Pipeline) (b : BackStage) (next : List Mapping → BackStage) (m : Mapping) (rest : List Mapping)
    → w.back.pages ≡ m ∷ rest
    → (b ≡ back.Halted → ⊥)
    → ((held : List Mapping) → IsAborting held (next held))
    → AreHeld w.under.grants (m ∷ rest)
    → Over config w d w.front.stage b
    → Over config (record { front = w.front; back = record w.back { pages = rest; stage = next rest; told = None }; under = (let h = w.under in record h { grants = unmap_table h.grants m; pages = unmap_pages h.grants h.pages m }) }) d w.front.stage (next rest)
unmaps_first config w d b next m rest e serves gives held o =
    subst (λ (ms : List ℕ). Over config (record { front = w.front; back = record w.back { pages = rest; stage = next rest; told = None }; under = (let h = w.under in record h { grants = unmap_table h.grants m; pages = ms }) }) d w.front.stage (next rest)) (sym written_so)
    (over_at o o.shut (length-set w.under.pages (m.gref / 512 * 1024 + 2 * (m.gref % 512)) flags ∙ o.memory) (gives rest)
    (record { grefs = All-tail (λ (x : Mapping). (8 ≤ x.gref) × (x.gref < 24)) m rest own.grefs; distinct = pairs_tail (λ (x y : Mapping). x.gref ≢ y.gref) m rest own.distinct }) mapped
    (still_leaving d.front.connected _ _ w.front.shape.order w.under.pages pages w.back.pages rest b (next rest) w.front.stage refl serves still o.front_at)
    (λ made. still_drained w.under.pages pages w.front.ring.indices.cons w.back.ring.indices.cons (other_frame w.under.pages (m.gref / 512) (2 * (m.gref % 512)) flags 2 (omega (arith, among.1)) (omega (arith, among.1))) (o.ring made)))
  where
    own : AreOwn (m ∷ rest)
    own = subst AreOwn e o.own

    among : (8 ≤ m.gref) × (m.gref < 24)
    among = All-head (λ (x : Mapping). (8 ≤ x.gref) × (x.gref < 24)) m rest own.grefs

    left : List Held
    left = without m.number w.under.grants.live

    mapped : AreMapped left rest
    mapped = mapped_less w.under.grants (m ∷ rest) rest m held (All-head (IsLive w.under.grants) m rest held.live) (record { front = []; rest = rest; without = refl; with_it = refl }) (subst (AreMapped w.under.grants.live) e o.mapped)

    flags : ℕ
    flags = unmapped_entry (entry_word0 w.under.pages m.gref) 0 0

    pages : List ℕ
    pages = with_entry_word0 w.under.pages m.gref flags

    none_mapped : mappings_of m.gref left ≡ 0
    none_mapped = mapped.counted (λ x. x.gref == m.gref) ∙ none_left m rest (λ x. x.gref == m.gref) own (λ x apart. grind (arith, nat_tests))

    none_writes : writers_of m.gref left ≡ 0
    none_writes = mapped.counted (λ x. x.gref == m.gref && is_for_writing x.mode) ∙ none_left m rest (λ x. x.gref == m.gref && is_for_writing x.mode) own (λ x apart. (let other : (x.gref == m.gref) ≡ false = grind (arith, nat_tests) in rw other refl))

    written_so : unmap_pages w.under.grants w.under.pages m ≡ pages
    written_so =
        ap (λ (n : ℕ). with_entry_word0 w.under.pages m.gref (unmapped_entry (entry_word0 w.under.pages m.gref) n (writers_of m.gref left))) none_mapped
        ∙ ap (λ (n : ℕ). with_entry_word0 w.under.pages m.gref (unmapped_entry (entry_word0 w.under.pages m.gref) 0 n)) none_writes

    cleared : is_mapped (entry_word0 pages m.gref) ≡ false
    cleared = ap is_mapped (written w.under.pages (m.gref / 512) (2 * (m.gref % 512)) flags o.memory (omega (arith, among.1)) (omega (arith, among.1))) ∙ unread (entry_word0 w.under.pages m.gref)

    still : AreUnmapped w.front.shape.order w.under.pages w.back.pages → AreUnmapped w.front.shape.order pages rest
    still was page within others = elim (cases_eq m.gref (8 + page)) [
      | inl same ↦ subst (λ (gref : ℕ). is_mapped (entry_word0 pages gref) ≡ false) same cleared
      | inr apart ↦
          let few = few_pages w.front.shape.order o.narrow in
          let kept = other_entry w.under.pages m.gref (8 + page) flags (omega (arith, among.1)) (omega arith) (λ same. apart (sym same)) in
          ap is_mapped kept.flags ∙ was page within (subst (All (λ (x : Mapping). x.gref ≢ 8 + page)) (sym e) (All-cons (λ (x : Mapping). x.gref ≢ 8 + page) m rest apart others))
    ]

unmaps : (config : Options) (w : World) (d : Pipeline) (b : BackStage) (next : List Mapping → BackStage) (ms : List Mapping)
    → w.back.pages ≡ ms
    → w.back.told ≡ None
    → ms ≢ []
    → (b ≡ back.Halted → ⊥)
    → ((held : List Mapping) → IsAborting held (next held))
    → AreHeld w.under.grants ms
    → Over config w d w.front.stage b
    → (let act : Option BackAct = back_act w.under back_mover.Back (unmap_ask ms) Took in HasGone None IsSame config (unmap_says w act) (unmap_next w (record w.back { pages = other_pages ms; stage = next (other_pages ms) }) act) d)
unmaps config w d b next [] e told some serves gives held o = absurd (some refl)
unmaps config w d b next (m ∷ rest) e told some serves gives held o = gone_by (said_back d (moves.Unmap back_mover.Back m.number) w.back.told w.back.halted back_answer.Done told)
    (inr (unmaps_first config w d b next m rest e serves gives held o))

gives_bound : (held : List Mapping) → IsAborting held (bound held)
gives_bound [] = refl
gives_bound (m ∷ held) = λ none. cc

-- the back's port is closed
closes_back : (config : Options) (w : World) (d : Pipeline) → w.back.told ≡ None → Over config w d w.front.stage back.ClosePort → BackEnds config w d back.ClosePort
closes_back config w d told o =
    let ports = length-map w.under.channels.ports unbound_port in
    gone_by (said_back d (moves.ClosePort mover.Back) w.back.told w.back.halted back_answer.Done told)
    (inr (over_at o o.shut o.memory o.back_at o.own o.mapped
    (still_leaving d.front.connected _ _ _ w.under.pages w.under.pages w.back.pages w.back.pages back.ClosePort back.Halted w.front.stage ports (λ same. cc) (λ unmapped. unmapped) o.front_at)
    (λ some. o.ring (λ none. some (ports ∙ none)))))

-- it has halted, and waits
back_waits : (config : Options) (w : World) (d : Pipeline) → w.back.told ≡ None → Over config w d w.front.stage w.back.stage → BackEnds config w d back.Halted
back_waits config w d told o = by_pending w.under.channels.back_pending (watch_next w.under end.Back)
  where
    by_pending : (b : Bool) (next : Option (List ℕ)) → (let act : Option BackAct = (if b then Some (back_event w.under) else back_watched w.under next) in HasGone None IsSame config (back_says back.Halted w act) (back_next back.Halted w act) d)
    by_pending false None = record { steps = []; does = no_move IsSame d (λ a b same. same); kept = inr o }
    by_pending false (Some path) = record { steps = []; does = said_back d (moves.Watched mover.Back path) w.back.told w.back.halted (back_answer.Watched path) told; kept = inr o }
    by_pending true next = record { steps = []; does = said_back d (moves.Event mover.Back) w.back.told w.back.halted back_answer.Event told; kept = inr o }

-- what it holds are pages of the ring
pages_held : (w : World) (b : BackStage) → IsSafe w → w.back.stage ≡ b → hands_at b w.back ≡ hands_in w.back.jobs.works ++ w.back.pages → w.back.jobs.works ≡ [] → AreHeld w.under.grants w.back.pages
pages_held w b safe e hands none = subst (λ (works : List Work). AreHeld w.under.grants (hands_in works ++ w.back.pages)) none
    (subst (AreHeld w.under.grants) (ap (λ (s : BackStage). hands_at s w.back) e ∙ hands) safe.held)

pub back_ends : (config : Options) (w : World) (d : Pipeline) (b : BackStage) → IsSafe w → w.back.stage ≡ b → Over config w d w.front.stage b → BackEnds config w d b
back_ends config w d back.UnmapRing safe e o =
    unmaps config w d back.UnmapRing bound w.back.pages refl safe.back_told o.back_at (λ same. cc) gives_bound (pages_held w back.UnmapRing safe e refl o.no_job) o
back_ends config w d back.UnmapUnbound safe e o =
    unmaps config w d back.UnmapUnbound unbound w.back.pages refl safe.back_told o.back_at (λ same. cc) giving_unbound (pages_held w back.UnmapUnbound safe e refl o.no_job) o
back_ends config w d back.ClosePort safe e o = closes_back config w d safe.back_told o
back_ends config w d back.Halted safe e o = back_waits config w d safe.back_told (subst (Over config w d w.front.stage) (sym e) o)
back_ends config w d b safe e o = absurd o.back_at

-- its jobs ask for nothing
pub job_ends : (config : Options) (w : World) (d : Pipeline) (number : ℕ) (outcome : Outcome) → Over config w d w.front.stage w.back.stage
    → HasGone None (CallOf (job_ask_of w.back number) outcome) config (job_shows w number (job_turn w number outcome)) (job_after w number (job_turn w number outcome)) d
job_ends config w d number outcome o =
    let asked : job_ask_of w.back number ≡ back_ask.Wait = rw o.halted refl in
    subst (λ (a : BackAsk). let act : Option BackAct = back_act w.under (back_mover.Job number) a outcome in HasGone None (CallOf a outcome) config (job_shows w number act) (job_after w number act) d) (sym asked)
    (record { steps = []; does = no_move (CallOf back_ask.Wait outcome) d (λ a b call. same_Some b a call.1); kept = inr o })
