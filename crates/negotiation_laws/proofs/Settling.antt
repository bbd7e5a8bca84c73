-- Settling is bounded.
use Rattle.std.proofs.Common.{◌≡◌, sym, subst, ℕ, ◌+◌, ◌-◌, ◌*◌, ◌^◌, ◌<◌, ◌≤◌, ◌==◌, nat_lt, Bool, true, false, true≢false, List, [], ◌∷◌, ◌++◌, length, length-append, refl, arith, if◌then◌else◌}
use Rattle.std.specs.Prelude.{Option, None, Some}
use Rattle.std.specs.Option.{option_map}
use Rattle.blk_base.specs.declared.parts.Mapping.{Mapping}
use Rattle.key_directory.specs.Directory.{Directory, key_of}
use Rattle.key_directory.specs.Watches.{Watches, has_pending}
use Rattle.xenbus_state.specs.Numbers.{number_of}
use Rattle.xenbus_state.specs.Tables.{back_action}
use Rattle.xenbus_state.specs.Reading.{count_read}
use Rattle.xenbus_state.specs.Programs.{next_feature, next_fact, after_page}
use Rattle.xenbus_state.specs.declared.keys.FrontKey.{FrontKey}
use Rattle.xenbus_state.specs.declared.keys.FrontKey.TheVariants as key
use Rattle.xenbus_state.specs.declared.keys.BackKey.{BackKey}
use Rattle.xenbus_state.specs.declared.keys.BackKey.TheVariants as back_key
use Rattle.xenbus_state.specs.declared.offer.Features.{Features}
use Rattle.xenbus_state.specs.declared.offer.DiskFacts.{DiskFacts}
use Rattle.xenbus_state.specs.declared.state.BusState.{BusState}
use Rattle.xenbus_state.specs.declared.state.BusState.TheVariants as state
use Rattle.xenbus_state.specs.declared.stage.FrontBusStage.{FrontBusStage}
use Rattle.xenbus_state.specs.declared.stage.BackBusStage.{BackBusStage}
use Rattle.xenbus_state.specs.declared.stage.BackBusStage.TheVariants as back
use Rattle.xenbus_state.specs.declared.table.BackAction.{BackAction}
use Rattle.xenbus_state.specs.declared.table.BackAction.TheVariants as back_act
use Rattle.xenbus_state.specs.declared.front.FrontBusAsk.{FrontBusAsk}
use Rattle.xenbus_state.specs.declared.front.FrontBusAsk.TheVariants as front_ask
use Rattle.xenbus_state.specs.declared.back.BackBusAsk.{BackBusAsk}
use Rattle.xenbus_state.specs.declared.back.BackBusAsk.TheVariants as back_ask
use Rattle.xenbus_state.specs.FrontView.{FrontView, closed}
use Rattle.xenbus_state.specs.FrontAsk as front_asks
use Rattle.xenbus_state.specs.BackView.{BackView, unplugged}
use Rattle.xenbus_state.specs.BackAsk as back_asks
use Rattle.xenbus_state.specs.BackReading as reading
use Rattle.xenbus_state.specs.BackReading.{order_of, layout_read, with_order, with_gref, with_port, with_layout, with_persistent}
use Rattle.xenbus_state.specs.BackStep as back_step
use Rattle.xenbus_state.specs.BackSound.{IsPlaced, IsResting, IsWriting, IsReading}
use Rattle.xenbus_state.proofs.BackKeeps.{says_where}
use Rattle.xenbus_state.proofs.Powers.{few_pages}
use Rattle.negotiation_laws.specs.Negotiation.{Negotiation, front_path, front_state, back_path, back_state, back_answered, back_done, back_woken, back_moved}
use Rattle.negotiation_laws.specs.Happening.{Happening, FrontMoves, BackMoves, FrontCloses, BackCloses, happened, after}
use Rattle.negotiation_laws.specs.Within.{HavePorts}
use Rattle.negotiation_laws.specs.Run.{now, begins}
use Rattle.negotiation_laws.specs.Left.{fact_left, front_left, front_reading, back_rest_left, offered_left, read_left, back_write_left, back_left, back_reading, one_if, front_goes, back_goes, left, goes, moves_in}
use Rattle.negotiation_laws.specs.Laws.{MovesLower, SettlingIsBounded, RestsWhereNothingGoes}
use Rattle.negotiation_laws.proofs.Choices.{back_move_cases, closed_cases, unplugged_cases}
use Rattle.negotiation_laws.proofs.Shown.{state_shown}
use Rattle.negotiation_laws.proofs.BackActs as back_acts
use Rattle.negotiation_laws.proofs.Watching.{back_key_apart}
use Rattle.negotiation_laws.proofs.Holds.{Holds, start_holds, happening_holds, acts_at}
use Rattle.negotiation_laws.proofs.Found.{run_holds}
use Rattle.negotiation_laws.proofs.Falling.{front_same, back_same, front_more, set_more, pendings, one_at_most, wait_falls, front_move_left}
use Rattle.negotiation_laws.proofs.Subjects.{FrontSees, BackSees}

-- a step of a program of the back lowers what is left of it
record Falls (most : ℕ) (w : BackView) : Type 0 where
  less : back_left w.stage w.state (length w.pages) < most
  rests : back_reading w.stage ≡ 0

offered_falls : (k : BackKey) (v : BackView) → Falls (offered_left k) (back_step.at (back_step.after_feature (next_feature k)) v)
offered_falls back_key.FeatureBarrier v = record { less = omega arith; rests = refl }
offered_falls k v = record { less = omega arith; rests = refl }

fact_falls : (k : BackKey) (v : BackView) → Falls (fact_left k) (back_step.at (back_step.after_fact (next_fact k)) v)
fact_falls back_key.Sectors v = record { less = omega arith; rests = refl }
fact_falls k v = record { less = omega arith; rests = refl }

written_falls : (s : BusState) (v : BackView) → IsWriting s v → Falls (back_write_left s) (record v { state = s; stage = back_step.after_state s })
written_falls state.InitWait v w = record { less = omega arith; rests = refl }
written_falls state.Connected v w = record { less = omega arith; rests = refl }
written_falls state.Closing v w = record { less = omega arith; rests = refl }
written_falls state.Closed v w = record { less = omega arith; rests = refl }
written_falls s v w = absurd w

halted_falls : (v : BackView) (most : ℕ) → length v.pages ≡ 0 → 4 < most → Falls most (record v { stage = back.UnmapOthers })
halted_falls v most none low = record { less = omega arith; rests = refl }

read_falls : {A : Type 0} (g : A → BackView) (n : Option A) (v : BackView) (most : ℕ) → length v.pages ≡ 0 → 4 < most → ((x : A) → Falls most (g x))
    → Falls most (back_step.kept_or_halted (option_map g n) v)
read_falls g None v most none low h = halted_falls v most none low
read_falls g (Some x) v most none low h = h x

only_falls : (single : Bool) (page : ℕ) (v : BackView) → length v.pages ≡ 0 → page < 16
    → Falls (read_left (key.RingRefOf page)) (back_step.kept_or_halted (if single then Some (record v { stage = back.ReadKey key.RingRef }) else None) v)
only_falls true page v none low = record { less = omega arith; rests = refl }
only_falls false page v none low = halted_falls v (read_left (key.RingRefOf page)) none (omega arith)

page_falls : (more : Bool) (page gref : ℕ) (v : BackView) → page < 16
    → Falls (read_left (key.RingRefOf page)) (with_gref v (if more then key.RingRefOf (page + 1) else key.EventChannel) gref)
page_falls true page gref v low = record { less = omega arith; rests = refl }
page_falls false page gref v low = record { less = omega arith; rests = refl }

IsLow : FrontKey → Type 0
IsLow (key.RingRefOf page) = page < 16
IsLow k = Unit {0}

key_falls : (k : FrontKey) (text : Option (List ℕ)) (v : BackView) → length v.pages ≡ 0 → IsLow k → Falls (read_left k) (back_step.kept_or_halted (reading.key_read k text v) v)
unfolding IsLow
key_falls key.RingPageOrder None v none low = record { less = omega arith; rests = refl }
key_falls key.RingPageOrder (Some text) v none low =
    read_falls (with_order v (key.RingRefOf 0)) (order_of (number_of text)) v 64 none (omega arith) (λ x. record { less = omega arith; rests = refl })
key_falls (key.RingRefOf page) None v none low = only_falls (v.terms.order == 0) page v none low
key_falls (key.RingRefOf page) (Some text) v none low =
    read_falls (with_gref v (after_page v.terms.order page)) (number_of text) v (read_left (key.RingRefOf page)) none (omega arith) (λ x. page_falls (nat_lt (page + 1) (2 ^ v.terms.order)) page x v low)
key_falls key.RingRef None v none low = halted_falls v 47 none (omega arith)
key_falls key.RingRef (Some text) v none low =
    read_falls (with_gref v key.EventChannel) (number_of text) v 47 none (omega arith) (λ x. record { less = omega arith; rests = refl })
key_falls key.EventChannel None v none low = halted_falls v 46 none (omega arith)
key_falls key.EventChannel (Some text) v none low = read_falls (with_port v) (number_of text) v 46 none (omega arith) (λ x. record { less = omega arith; rests = refl })
key_falls key.Protocol text v none low = read_falls (with_layout v) (layout_read text) v 45 none (omega arith) (λ x. record { less = omega arith; rests = refl })
key_falls key.FeaturePersistent text v none low = read_falls (with_persistent v) (count_read text) v 44 none (omega arith) (λ x. record { less = omega arith; rests = refl })

key_low : (k : FrontKey) (v : BackView) → v.terms.order ≤ 4 → IsReading k v → IsLow k
unfolding IsLow
key_low (key.RingRefOf page) v few reads = (let high = few_pages v.terms.order few in let low = reads.1 in omega arith)
key_low key.RingPageOrder v few reads = tt
key_low k v few reads = tt

map_falls : (more : Bool) (page : Mapping) (v : BackView) → length v.pages < 16
    → Falls (27 + (16 - length v.pages)) (record v { pages = v.pages ++ page ∷ []; stage = if more then back.MapPage else back.Bind })
map_falls true page v low = (let pushed : length (v.pages ++ page ∷ []) ≡ length v.pages + 1 = simp length-append (omega arith) in record { less = omega arith; rests = refl })
map_falls false page v low = record { less = omega arith; rests = refl }

last_low : (own : BusState) → back_write_left (back_step.last_state own) ≤ 2
last_low state.Closing = omega arith
last_low own = omega arith

giving_falls : (pages : List Mapping) (bound : Bool) (v : BackView) (most : ℕ) → 4 + length pages ≤ most
    → Falls most (record v { pages = pages; bound = bound; stage = back_step.unmapping_next pages bound v.state })
giving_falls (page ∷ pages) bound v most low = record { less = omega arith; rests = refl }
giving_falls [] true v most low = record { less = omega arith; rests = refl }
giving_falls [] false v most low = (let last = last_low v.state in record { less = omega arith; rests = refl })

unmap_falls : (pages : List Mapping) (v : BackView) (page : Mapping) (d : Directory) → 0 < length pages
    → let u = record v { pages = pages; stage = back.UnmapPage } in Falls (3 + length pages) (back_step.step_at back.UnmapPage u (back_answered (back_asks.ask_at back.UnmapPage u) page d))
unmap_falls [] v page d some = absurd (omega arith)
unmap_falls (first ∷ pages) v page d some = giving_falls pages v.bound v (3 + length (first ∷ pages)) (omega arith)

watch_falls : (v : BackView) → v.state ≡ state.InitWait → Falls 65 (back_step.at back.Rest v)
watch_falls v e = record { less = rw e (omega arith); rests = refl }

close_falls : (v : BackView) → Falls 3 (record v { bound = false; stage = back.WriteState (back_step.last_state v.state) })
close_falls v = (let last = last_low v.state in record { less = omega arith; rests = refl })

-- a stage of a program
abbrev IsProgram : BackBusStage → Type 0
IsProgram back.Rest = ⊥
IsProgram back.ReadState = ⊥
IsProgram back.Halted = ⊥
IsProgram s = Unit {0}

back_falls : (s : BackBusStage) (v : BackView) (page : Mapping) (d : Directory) → IsProgram s → v.terms.order ≤ 4 → IsPlaced s v
    → Falls (back_left s v.state (length v.pages)) (back_step.step_at s (back_step.at s v) (back_answered (back_asks.ask_at s v) page d))
back_falls (back.Publish k) v page d program few placed = offered_falls k v
back_falls (back.WriteState s) v page d program few placed = written_falls s v placed
back_falls back.Watch v page d program few placed = watch_falls v placed.0
back_falls (back.ReadKey k) v page d program few placed =
    key_falls k (key_of d.keys (front_path k)) (back_step.at (back.ReadKey k) v) placed.1.pages (key_low k v few placed.2)
back_falls back.MapPage v page d program few placed =
    (let high = few_pages v.terms.order few in let low = placed.3 in map_falls (nat_lt (length v.pages + 1) (length v.grefs)) page v (omega arith))
back_falls back.Bind v page d program few placed = record { less = omega arith; rests = refl }
back_falls (back.PublishFact k) v page d program few placed = fact_falls k v
back_falls back.UnmapOthers v page d program few placed = giving_falls v.pages v.bound v (4 + length v.pages) (omega arith)
back_falls back.UnmapPage v page d program few placed = unmap_falls v.pages v page d placed.1
back_falls back.ClosePort v page d program few placed = close_falls v
back_falls s v page d program few placed = absurd program

-- an ask that isn't a wait fires one watch at most
abbrev IsWait : BackBusAsk → Type 0
IsWait back_ask.Wait = Unit {0}
IsWait a = ⊥

back_fires : (a : BackBusAsk) (d : Directory) (s : FrontBusStage) (closing : Bool) (fs : BusState) (gone : Bool) (b : BusState) (q : BackBusStage) → (IsWait a → ⊥)
    → FrontSees s closing fs gone b d.front → BackSees q b fs d.back → pendings (back_done a d) ≤ pendings d + 1
back_fires back_ask.Wait d s closing fs gone b q no_wait f g = absurd (no_wait tt)
back_fires back_ask.Watch d s closing fs gone b q no_wait f g = (let more = set_more d.back front_state in omega arith)
back_fires (back_ask.SetState c) d s closing fs gone b q no_wait f g =
    let same = back_same back_state q b fs d.back refl g in
    let more = front_more s closing fs gone b d.front f in
    omega arith
back_fires (back_ask.SetKey k value) d s closing fs gone b q no_wait f g =
    let same = back_same (back_path k) q b fs d.back refl g in
    let still = front_same (back_path k) s closing fs gone b d.front (back_key_apart k) f in
    omega arith
back_fires a d s closing fs gone b q no_wait f g = omega arith

-- the front's state is read
record Reads (own : BusState) (w : BackView) : Type 0 where
  less : back_left w.stage w.state (length w.pages) ≤ back_rest_left own
  rests : back_reading w.stage ≡ 0

halts_low : (own : BusState) (v : BackView) → v.terms.order ≤ 4 → IsResting own v → 4 + length v.pages ≤ back_rest_left own
halts_low state.InitWait v few h = (let none = h.pages in omega arith)
halts_low state.Connected v few h = (let high = few_pages v.terms.order few in let all = h.0.pages in omega arith)
halts_low state.Closing v few h = (let high = few_pages v.terms.order few in let all = h.0.pages in omega arith)
halts_low own v few h = absurd h

acted_reads : (act : BackAction) (v : BackView) (fs : BusState) → v.terms.order ≤ 4 → IsResting v.state v → back_acts.ActsFor act v.state fs v.unplugged
    → Reads v.state (back_step.acted act (back_step.at back.ReadState v))
acted_reads back_act.Nothing v fs few rests acts = record { less = omega arith; rests = refl }
acted_reads back_act.Connect v fs few rests acts = record { less = rw acts.0 (omega arith); rests = refl }
acted_reads (back_act.Halt reason) v fs few rests acts = record { less = halts_low v.state v few rests; rests = refl }

-- the sums
program_sum : (g less more reads before here there now_here now_there other : ℕ) → g ≤ 1 → less < more → reads ≤ before → now_here + now_there ≤ here + there + 1
    → g + (other + 2 * now_here + (3 * less + reads + 2 * now_there)) ≤ other + 2 * here + (3 * more + before + 2 * there)
program_sum g less more reads before here there now_here now_there other a b c h = omega arith

wait_sum : (after rest here there other g : ℕ) → g + after ≤ rest + 2 * there → g + (other + 2 * here + after) ≤ other + 2 * here + (rest + 0 + 2 * there)
wait_sum after rest here there other g a = omega arith

read_sum : (less more reads here there other : ℕ) → less ≤ more → reads ≡ 0
    → 1 + (other + 2 * here + (3 * less + reads + 2 * there)) ≤ other + 2 * here + (3 * more + 1 + 2 * there)
read_sum less more reads here there other a b = omega arith

module _ (f : Features) (d : DiskFacts) (t : Negotiation) where
  Lowers : BackBusStage → (page : Mapping) (other : ℕ) → Type 0
  Lowers s page other =
      let u = back_step.step_at s (back_step.at s t.back) (back_answered (back_asks.ask_at s t.back) page t.keys) in let k = back_done (back_asks.ask_at s t.back) t.keys in
      one_if (back_goes (back_asks.ask_at s t.back) t.keys.back) + (other + 2 * length k.front.pending + (3 * back_left u.stage u.state (length u.pages) + back_reading u.stage + 2 * length k.back.pending))
      ≤ other + 2 * length t.keys.front.pending + (3 * back_left s t.back.state (length t.back.pages) + back_reading s + 2 * length t.keys.back.pending)

  -- what is left after a wait
  abbrev waited : BackBusStage → Option (List ℕ) → ℕ
  waited s o = let u = back_step.step_at s (back_step.at s t.back) (back_woken o) in 3 * back_left u.stage u.state (length u.pages) + back_reading u.stage

  program_left : (s : BackBusStage) (page : Mapping) (other : ℕ) → IsProgram s → (IsWait (back_asks.ask_at s t.back) → ⊥) → IsPlaced s t.back
      → Holds f d t → Lowers s page other
  unfolding Lowers
  program_left s page other program no_wait placed h =
      let falls = back_falls s t.back page t.keys program h.back_sound.order placed in
      let fires = back_fires (back_asks.ask_at s t.back) t.keys t.front.stage t.front.closing t.front.state t.front.gone t.back.state t.back.stage no_wait h.front_sees h.back_sees in
      program_sum _ _ _ _ (back_reading s) _ _ _ _ other (one_at_most (back_goes (back_asks.ask_at s t.back) t.keys.back)) falls.less (subst (λ (m : ℕ). m ≤ back_reading s) (sym falls.rests) (omega arith)) fires

  unmaps : (pages : List Mapping) → 0 < length pages → IsWait (back_asks.unmap_ask pages) → ⊥
  unmaps [] some w = omega arith
  unmaps (page ∷ pages) some w = w

  lowers_at : (s : BackBusStage) (page : Mapping) (other : ℕ) → t.back.stage ≡ s → IsPlaced s t.back
      → BackSees s t.back.state t.front.state t.keys.back → Holds f d t → Lowers s page other
  unfolding Lowers
  lowers_at back.Rest page other e placed sees h =
      wait_sum _ (3 * back_rest_left t.back.state) (length t.keys.front.pending) (length t.keys.back.pending) other (one_if (has_pending t.keys.back)) (wait_falls (waited back.Rest) front_state t.keys.back _ (3 * back_rest_left t.back.state) sees (omega arith) (omega arith))
  lowers_at back.Halted page other e placed sees h =
      wait_sum _ 0 (length t.keys.front.pending) (length t.keys.back.pending) other (one_if (has_pending t.keys.back)) (wait_falls (waited back.Halted) front_state t.keys.back _ 0 sees (omega arith) (omega arith))
  lowers_at back.ReadState page other e placed sees h =
      let reads = subst (λ (r : Option BusState). Reads t.back.state (back_step.acted (back_action t.back.state t.back.unplugged r) (back_step.at back.ReadState t.back))) (sym (state_shown (key_of t.keys.keys front_state) t.front.state h.states.front))
      (acted_reads (back_action t.back.state t.back.unplugged (Some t.front.state)) t.back t.front.state h.back_sound.order placed (acts_at f d t back.ReadState placed e h)) in
      read_sum _ (back_rest_left t.back.state) _ (length t.keys.front.pending) (length t.keys.back.pending) other reads.less reads.rests
  lowers_at back.UnmapPage page other e placed sees h = program_left back.UnmapPage page other tt (unmaps t.back.pages placed.1) placed h
  lowers_at back.Watch page other e placed sees h = program_left back.Watch page other tt (λ w. w) placed h
  lowers_at s page other e placed sees h = program_left s page other tt (λ w. w) placed h

  -- the back says that it closes
  says_falls : (s : BackBusStage) (own : BusState) (pages : ℕ) → back_asks.says_closing_at s own ≡ true → back_left s state.Closing pages < back_left s own pages
  says_falls back.Rest state.Connected pages e = omega arith
  says_falls back.ReadState state.Connected pages e = omega arith
  says_falls s own pages e = absurd (cc)

-- a move of the back
pub back_move_left : (f : Features) (d : DiskFacts) (t : Negotiation) (page : Mapping) → Holds f d t
    → one_if (goes (BackMoves page) t) + left (back_moved page t) ≤ left t
unfolding Lowers
back_move_left f d t page h =
    back_move_cases (λ (a : BackBusAsk) (w : BackView). one_if (back_goes a t.keys.back) + left (record { front = t.front; back = w; keys = back_done a t.keys }) ≤ left t) t.back page t.keys
    (λ e.
    let falls = says_falls f d t t.back.stage t.back.state (length t.back.pages) (says_where t.back e) in
    let fires = back_fires (back_ask.SetState state.Closing) t.keys t.front.stage t.front.closing t.front.state t.front.gone t.back.state t.back.stage (λ w. w) h.front_sees h.back_sees in
    program_sum 1 _ _ (back_reading t.back.stage) (back_reading t.back.stage) _ _ _ _ (3 * front_left t.front.stage t.front.state + front_reading t.front.stage) (omega arith) falls (omega arith) fires)
    (λ e. lowers_at f d t t.back.stage page (3 * front_left t.front.stage t.front.state + front_reading t.front.stage) refl h.back_sound.placed h.back_sees h)

-- a close lowers nothing
front_close_left : (t : Negotiation) → 0 + left (record t { front = closed t.front }) ≤ left t
front_close_left t = closed_cases (λ (v : FrontView). 0 + left (record t { front = v }) ≤ left t) t.front (omega arith) (omega arith)

back_close_left : (t : Negotiation) → 0 + left (record t { back = unplugged t.back }) ≤ left t
back_close_left t = unplugged_cases (λ (v : BackView). 0 + left (record t { back = v }) ≤ left t) t.back (omega arith) (omega arith)

lowers_once : (f : Features) (d : DiskFacts) (x : Happening) (t : Negotiation) → Holds f d t → one_if (goes x t) + left (happened x t) ≤ left t
lowers_once f d (FrontMoves idle port) t h = front_move_left f d t idle port h
lowers_once f d (BackMoves page) t h = back_move_left f d t page h
lowers_once f d FrontCloses t h = front_close_left t
lowers_once f d BackCloses t h = back_close_left t

pub moves_lower : MovesLower
moves_lower r x fits = lowers_once r.offer r.facts x (now r) (run_holds r)

both : (g rest now later most : ℕ) → g + now ≤ most → rest + later ≤ now → g + rest + later ≤ most
both g rest now later most a b = omega arith

all_lower : (f : Features) (d : DiskFacts) (xs : List Happening) (t : Negotiation) → HavePorts xs → Holds f d t → moves_in xs t + left (after xs t) ≤ left t
all_lower f d [] t fits h = omega arith
all_lower f d (x ∷ xs) t fits h =
    both (one_if (goes x t)) (moves_in xs (happened x t)) (left (happened x t)) (left (after xs (happened x t))) (left t) (lowers_once f d x t h) (all_lower f d xs (happened x t) fits.1 (happening_holds f d x t fits.0 h))

few_moves : (moves later : ℕ) → moves + later ≤ 483 → moves ≤ 483
few_moves moves later h = omega arith

pub settling_bounded : SettlingIsBounded
settling_bounded r =
    few_moves (moves_in r.happenings (begins r)) (left (now r)) (all_lower r.offer r.facts r.happenings (begins r) r.ports (start_holds r.front r.offer r.facts r.within))

-- where nothing goes, both ends rest
front_still : (a : FrontBusAsk) (w : Watches) → front_goes a w ≡ false → (a ≡ front_ask.Wait) × (has_pending w ≡ false)
front_still front_ask.Wait w e = (refl, e)
front_still front_ask.Watch w e = absurd (true≢false e)
front_still a w e = absurd (true≢false e)

back_still : (a : BackBusAsk) (w : Watches) → back_goes a w ≡ false → (a ≡ back_ask.Wait) × (has_pending w ≡ false)
back_still back_ask.Wait w e = (refl, e)
back_still back_ask.Watch w e = absurd (true≢false e)
back_still a w e = absurd (true≢false e)

pub rests_where_nothing_goes : RestsWhereNothingGoes
rests_where_nothing_goes n idle port page e g =
    let here = front_still (front_asks.ask_of n.front idle) n.keys.front e in
    let there = back_still (back_asks.ask_of n.back) n.keys.back g in
    record { front_waits = here.0; back_waits = there.0; front_taken = here.1; back_taken = there.1 }
