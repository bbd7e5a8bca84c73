-- Each move of an end lowers what is left to do, but one that waits in vain.
use Rattle.std.proofs.Common.{◌≡◌, ◌∙◌, ap, sym, subst, ℕ, ◌+◌, ◌*◌, ◌^◌, ◌<◌, ◌≤◌, ◌==◌, ◌&&◌, nat_lt, not, Bool, true, false, List, [], ◌∷◌, ◌++◌, length, length-append, refl, arith, if◌then◌else◌, inl, inr}
use Rattle.std.specs.Prelude.{Option, None, Some}
use Rattle.std.proofs.lemmas.Bool.Decides.{nat_tests}
use Rattle.key_directory.specs.Directory.{Directory, key_of}
use Rattle.key_directory.specs.Watches.{Watches, no_watches, next_watch, with_watch, taken, fired, has_pending, same_path}
use Rattle.key_directory.specs.Paths.{is_at_or_under}
use Rattle.std.specs.List.{list_any, filter}
use Rattle.xenbus_state.specs.declared.stage.BackBusStage.{BackBusStage}
use Rattle.xenbus_state.specs.declared.stage.BackBusStage.TheVariants as back
use Rattle.xenbus_state.specs.declared.front.FrontBusAsk.{FrontBusAsk}
use Rattle.xenbus_state.specs.declared.front.FrontBusAsk.TheVariants as front_ask
use Rattle.xenbus_state.specs.States.{state_number}
use Rattle.xenbus_state.specs.Tables.{front_action}
use Rattle.xenbus_state.specs.Reading.{count_read, fact_read}
use Rattle.xenbus_state.specs.Programs.{next_published}
use Rattle.xenbus_state.specs.declared.keys.FrontKey.{FrontKey}
use Rattle.xenbus_state.specs.declared.keys.FrontKey.TheVariants as key
use Rattle.xenbus_state.specs.declared.keys.BackKey.{BackKey}
use Rattle.xenbus_state.specs.declared.keys.BackKey.TheVariants as back_key
use Rattle.xenbus_state.specs.declared.state.BusState.{BusState}
use Rattle.xenbus_state.specs.declared.state.BusState.TheVariants as state
use Rattle.xenbus_state.specs.declared.stage.FrontBusStage.{FrontBusStage}
use Rattle.xenbus_state.specs.declared.stage.FrontBusStage.TheVariants as front
use Rattle.xenbus_state.specs.declared.table.FrontAction.{FrontAction}
use Rattle.xenbus_state.specs.declared.table.FrontAction.TheVariants as front_act
use Rattle.xenbus_state.specs.FrontView.{FrontView, pages_of, ring_order, terms_of}
use Rattle.xenbus_state.specs.FrontAsk as front_asks
use Rattle.xenbus_state.specs.FrontAsk.{due, due_at, leaving, closing_stage}
use Rattle.xenbus_state.specs.FrontStep as front_step
use Rattle.xenbus_state.specs.FrontSound as front_sound
use Rattle.negotiation_laws.specs.Negotiation.{Negotiation, front_path, front_state, back_path, back_state, front_answered, front_done, front_woken}
use Rattle.negotiation_laws.specs.Left.{front_rest_left, front_left, front_reading, back_left, back_reading, one_if, front_goes, left, goes}
use Rattle.xenbus_state.specs.declared.offer.Features.{Features}
use Rattle.xenbus_state.specs.declared.offer.DiskFacts.{DiskFacts}
use Rattle.negotiation_laws.specs.Negotiation.{front_moved}
use Rattle.negotiation_laws.specs.Happening.{FrontMoves}
use Rattle.negotiation_laws.specs.Said.{front_texts}
use Rattle.negotiation_laws.proofs.Choices.{due_cases}
use Rattle.negotiation_laws.proofs.Shown.{state_shown}
use Rattle.negotiation_laws.proofs.FrontSteps.{due_holds}
use Rattle.negotiation_laws.proofs.FrontSights.{due_sees}
use Rattle.negotiation_laws.proofs.Holds.{Holds, front_acts_now, due_timely, few_orders}
use Rattle.negotiation_laws.proofs.FrontActs as front_acts
use Rattle.negotiation_laws.proofs.Subjects.{IsFrontState, IsFrontWrite, FrontSaid, Sees, FrontHeard, FrontSees, BackHeard, BackSees}
use Rattle.negotiation_laws.proofs.Watching.{front_key_apart}
use Rattle.xenbus_state.proofs.Powers.{few_pages}

-- the pages and words at hand are few
abbrev pub IsLow : FrontBusStage → Type 0
IsLow (front.RingWord word) = word < 16
IsLow (front.Grant page) = page < 16
IsLow (front.EndGrant page) = page < 16
IsLow (front.Publish (key.RingRefOf page)) = page < 16
IsLow s = Unit {0}

-- a step of a program lowers what is left of it
record Falls (s : FrontBusStage) (own : BusState) (w : FrontView) : Type 0 where
  less : front_left w.stage w.state < front_left s own
  rests : front_reading w.stage ≡ 0

feature_falls : (k : BackKey) (o : Option ℕ) (v : FrontView) → Falls (front.ReadFeature k) v.state (front_step.feature_step k o (front_step.at (front.ReadFeature k) v))
feature_falls back_key.FeatureBarrier None v = record { less = omega arith; rests = refl }
feature_falls k None v = record { less = omega arith; rests = refl }
feature_falls back_key.FeatureBarrier (Some m) v = record { less = omega arith; rests = refl }
feature_falls k (Some m) v = record { less = omega arith; rests = refl }

fact_falls : (k : BackKey) (o : Option ℕ) (v : FrontView) → Falls (front.ReadFact k) v.state (front_step.fact_step k o (front_step.at (front.ReadFact k) v))
fact_falls back_key.Sectors None v = record { less = omega arith; rests = refl }
fact_falls k None v = record { less = omega arith; rests = refl }
fact_falls back_key.Sectors (Some m) v = record { less = omega arith; rests = refl }
fact_falls k (Some m) v = record { less = omega arith; rests = refl }

word_falls : (word : ℕ) (last : Bool) (v : FrontView) → (word == 15) ≡ last → word < 16
    → Falls (front.RingWord word) v.state (front_step.at (if last then front.Grant 0 else front.RingWord (word + 1)) v)
word_falls word true v e low = record { less = (let same : word ≡ 15 = grind (arith, nat_tests) in omega arith); rests = refl }
word_falls word false v e low = record { less = omega arith; rests = refl }

grant_falls : (page : ℕ) (more : Bool) (v : FrontView) → page < 16 → Falls (front.Grant page) v.state (front_step.at (if more then front.Grant (page + 1) else front.NewPort) v)
grant_falls page true v low = record { less = omega arith; rests = refl }
grant_falls page false v low = record { less = omega arith; rests = refl }

first_falls : (single : Bool) (v : FrontView) (port : ℕ)
    → Falls front.NewPort v.state (record v { port = Some port; stage = front.Publish (if single then key.RingRef else key.RingPageOrder) })
first_falls true v port = record { less = omega arith; rests = refl }
first_falls false v port = record { less = omega arith; rests = refl }

page_falls : (page : ℕ) (more : Bool) (v : FrontView) → page < 16
    → Falls (front.Publish (key.RingRefOf page)) v.state (front_step.at (front.Publish (if more then key.RingRefOf (page + 1) else key.EventChannel)) v)
page_falls page true v low = record { less = omega arith; rests = refl }
page_falls page false v low = record { less = omega arith; rests = refl }

publish_falls : (k : FrontKey) (v : FrontView) → IsLow (front.Publish k)
    → Falls (front.Publish k) v.state (front_step.at (front_step.after_published (next_published (ring_order v) k)) v)
publish_falls (key.RingRefOf page) v low = page_falls page (nat_lt (page + 1) (2 ^ ring_order v)) v low
publish_falls other v low = record { less = omega arith; rests = refl }

written_falls : (s : BusState) (v : FrontView) → IsFrontWrite (front.WriteState s)
    → Falls (front.WriteState s) v.state (front_step.written s (front_step.at (front.WriteState s) v))
written_falls state.Initialised v writes = record { less = omega arith; rests = refl }
written_falls state.Connected v writes = record { less = omega arith; rests = refl }
written_falls state.Closing v writes = record { less = omega arith; rests = refl }
written_falls state.Closed v writes = record { less = omega arith; rests = refl }
written_falls s v writes = absurd writes

end_falls : (page : ℕ) (more : Bool) (v : FrontView) → page < 16
    → Falls (front.EndGrant page) v.state (front_step.at (if more then front.EndGrant (page + 1) else front.EndOtherGrants) v)
end_falls page true v low = record { less = omega arith; rests = refl }
end_falls page false v low = record { less = omega arith; rests = refl }

others_fall : (port : Option ℕ) (v : FrontView) → Falls front.EndOtherGrants v.state (front_step.at (front_step.after_grants port) v)
others_fall (Some port) v = record { less = omega arith; rests = refl }
others_fall None v = record { less = omega arith; rests = refl }

start_falls : (v : FrontView) → v.state ≡ state.Initialising → Falls front.Start v.state (front_step.at front.Rest v)
start_falls v e = record { less = rw e (omega arith); rests = refl }

-- a stage of a program
abbrev pub IsProgram : FrontBusStage → Type 0
IsProgram front.Rest = ⊥
IsProgram front.ReadState = ⊥
IsProgram front.Closed = ⊥
IsProgram (front.Broken word) = ⊥
IsProgram s = Unit {0}

front_falls : (s : FrontBusStage) (v : FrontView) (idle : Bool) (port : ℕ) (d : Directory) → IsProgram s → IsLow s → IsFrontWrite s
    → front_sound.IsTimely s v.state → Falls s v.state (front_step.step_at s (front_step.at s v) idle (front_answered (front_asks.ask_at s v) port d))
front_falls front.Start v idle port d program low writes timely = start_falls v timely
front_falls (front.ReadFeature k) v idle port d program low writes timely = feature_falls k (count_read (key_of d.keys (back_path k))) v
front_falls (front.RingWord word) v idle port d program low writes timely = word_falls word (word == 15) v refl low
front_falls (front.Grant page) v idle port d program low writes timely = grant_falls page (nat_lt (page + 1) (pages_of v)) v low
front_falls front.NewPort v idle port d program low writes timely = first_falls (ring_order v == 0) v port
front_falls (front.Publish k) v idle port d program low writes timely = publish_falls k v low
front_falls (front.ReadFact k) v idle port d program low writes timely = fact_falls k (fact_read k (key_of d.keys (back_path k))) v
front_falls (front.WriteState s) v idle port d program low writes timely = written_falls s v writes
front_falls (front.EndGrant page) v idle port d program low writes timely = end_falls page (nat_lt (page + 1) (pages_of v)) v low
front_falls front.EndOtherGrants v idle port d program low writes timely = others_fall v.port v
front_falls front.ClosePort v idle port d program low writes timely = record { less = omega arith; rests = refl }
front_falls s v idle port d program low writes timely = absurd program

-- what is due is no more than what is left at rest
due_falls : (s : FrontBusStage) (v : FrontView) (idle : Bool) → IsFrontState v.state → front_sound.IsTimely s v.state → front_left (due_at s v idle) v.state ≤ front_left s v.state
due_falls front.Rest v idle honest low = by_test (v.closing && idle)
  where
    leaves : (gone : Bool) (port : Option ℕ) → front_left (leaving gone port) state.Closing ≤ 20
    leaves false port = omega arith
    leaves true (Some port) = omega arith
    leaves true None = omega arith

    closes : (own : BusState) → IsFrontState own → state_number own < 6 → front_left (closing_stage own v) own ≤ front_rest_left own
    closes state.Closing h low = leaves v.gone v.port
    closes state.Initialising h low = omega arith
    closes state.Initialised h low = omega arith
    closes state.Connected h low = omega arith
    closes state.Closed h low = absurd (omega arith)
    closes own h low = absurd h

    by_test : (begun : Bool) → front_left (if begun then closing_stage v.state v else front.Rest) v.state ≤ front_rest_left v.state
    by_test true = closes v.state honest low
    by_test false = omega arith
due_falls s v idle honest timely = omega arith

-- what is at hand is low
due_low : (s : FrontBusStage) (v : FrontView) (idle : Bool) (texts : FrontKey → Option (List ℕ)) → front_sound.IsPlaced s v
    → FrontSaid s v.state v.port (terms_of v) texts → ring_order v ≤ 4 → IsLow (due_at s v idle)
due_low s v idle texts placed said few = due_cases IsLow s v idle (begun s placed said) tt (omega arith) tt
  where
    begun : (s : FrontBusStage) → front_sound.IsPlaced s v → FrontSaid s v.state v.port (terms_of v) texts → IsLow s
    begun (front.RingWord word) placed said = placed
    begun (front.Grant page) placed said = (let high = few_pages (ring_order v) few in omega arith)
    begun (front.EndGrant page) placed said = (let high = few_pages (ring_order v) few in omega arith)
    begun (front.Publish (key.RingRefOf page)) placed said = (let high = few_pages (ring_order v) few in let low = said.1.1 in omega arith)
    begun (front.Publish k) placed said = tt
    begun s placed said = tt

-- watches that are pending
pub sees_same : (path other : List ℕ) (w : Watches) (A : Type 0) → is_at_or_under path other ≡ false → Sees path w A → length (fired w other).pending ≡ length w.pending
sees_same path other w A apart (inl e) = ap (λ (u : Watches). length (fired u other).pending) e ∙ ap (λ (u : Watches). length u.pending) (sym e)
sees_same path other w A apart (inr (e, a)) =
    let still : length (fired (record { pending = []; idle = path ∷ [] }) other).pending ≡ 0 = rw apart refl in
    ap (λ (u : Watches). length (fired u other).pending) e ∙ still ∙ ap (λ (u : Watches). length u.pending) (sym e)

none_same : (w : Watches) (path : List ℕ) → w ≡ no_watches → length (fired w path).pending ≡ length w.pending
none_same w path e = ap (λ (u : Watches). length (fired u path).pending) e ∙ ap (λ (u : Watches). length u.pending) (sym e)

sees_more : (path other : List ℕ) (w : Watches) (A : Type 0) → is_at_or_under path other ≡ true → Sees path w A → length (fired w other).pending ≤ length w.pending + 1
sees_more path other w A at (inl e) = subst (λ (u : Watches). length (fired u other).pending ≤ length u.pending + 1) (sym e) (omega arith)
sees_more path other w A at (inr (e, a)) = subst (λ (u : Watches). length (fired u other).pending ≤ length u.pending + 1) (sym e) (rw at (omega arith))

pub set_more : (w : Watches) (path : List ℕ) → length (with_watch w path).pending ≤ length w.pending + 1
set_more w path = by_test (list_any (λ watch. same_path path watch) w.pending)
  where
    by_test : (there : Bool)
        → length (if there then w else record { pending = w.pending ++ path ∷ []; idle = filter (λ watch. not (same_path path watch)) w.idle }).pending ≤ length w.pending + 1
    by_test true = omega arith
    by_test false = simp length-append (omega arith)

-- the front's watch under a write of the front, the back's under one of the back
pub front_same : (other : List ℕ) (s : FrontBusStage) (closing : Bool) (own : BusState) (gone : Bool) (b : BusState) (w : Watches)
    → is_at_or_under back_state other ≡ false → FrontSees s closing own gone b w → length (fired w other).pending ≡ length w.pending
front_same other front.Start closing own gone b w apart h = none_same w other h
front_same other s closing own gone b w apart h = sees_same back_state other w (FrontHeard s closing own gone b) apart h

pub back_same : (other : List ℕ) (s : BackBusStage) (own fs : BusState) (w : Watches) → is_at_or_under front_state other ≡ false → BackSees s own fs w
    → length (fired w other).pending ≡ length w.pending
back_same other (back.Publish k) own fs w apart h = none_same w other h
back_same other (back.WriteState state.InitWait) own fs w apart h = none_same w other h
back_same other back.Watch own fs w apart h = none_same w other h
back_same other s own fs w apart h = sees_same front_state other w (BackHeard s own fs) apart h

-- and under a write of the other's state
pub front_more : (s : FrontBusStage) (closing : Bool) (own : BusState) (gone : Bool) (b : BusState) (w : Watches) → FrontSees s closing own gone b w
    → length (fired w back_state).pending ≤ length w.pending + 1
front_more front.Start closing own gone b w h = (let same = none_same w back_state h in omega arith)
front_more s closing own gone b w h = sees_more back_state back_state w (FrontHeard s closing own gone b) refl h

pub back_more : (s : BackBusStage) (own fs : BusState) (w : Watches) → BackSees s own fs w → length (fired w front_state).pending ≤ length w.pending + 1
back_more (back.Publish k) own fs w h = (let same = none_same w front_state h in omega arith)
back_more (back.WriteState state.InitWait) own fs w h = (let same = none_same w front_state h in omega arith)
back_more back.Watch own fs w h = (let same = none_same w front_state h in omega arith)
back_more s own fs w h = sees_more front_state front_state w (BackHeard s own fs) refl h

-- an ask that isn't a wait fires one watch at most
abbrev pub pendings : Directory → ℕ
pendings d = length d.front.pending + length d.back.pending

abbrev pub IsFrontWait : FrontBusAsk → Type 0
IsFrontWait front_ask.Wait = Unit {0}
IsFrontWait a = ⊥

front_fires : (a : FrontBusAsk) (d : Directory) (s : FrontBusStage) (closing : Bool) (fs : BusState) (gone : Bool) (b : BusState) (q : BackBusStage)
    → (IsFrontWait a → ⊥) → FrontSees s closing fs gone b d.front → BackSees q b fs d.back → pendings (front_done a d) ≤ pendings d + 1
front_fires front_ask.Wait d s closing fs gone b q no_wait f g = absurd (no_wait tt)
front_fires front_ask.Watch d s closing fs gone b q no_wait f g = (let more = set_more d.front back_state in omega arith)
front_fires (front_ask.SetState c) d s closing fs gone b q no_wait f g =
    let same = front_same front_state s closing fs gone b d.front refl f in
    let more = back_more q b fs d.back g in
    omega arith
front_fires (front_ask.SetKey k value) d s closing fs gone b q no_wait f g =
    let same = front_same (front_path k) s closing fs gone b d.front refl f in
    let still = back_same (front_path k) q b fs d.back (front_key_apart k) g in
    omega arith
front_fires a d s closing fs gone b q no_wait f g = omega arith

-- a wait takes a watch that fired, and what it leaves is then at most one more: it reads
pub wait_falls : (after : Option (List ℕ) → ℕ) (path : List ℕ) (w : Watches) (A : Type 0) (most : ℕ) → Sees path w A → after None ≤ most → after (Some path) ≤ most + 1
    → one_if (has_pending w) + (after (next_watch w) + 2 * length (taken w).pending) ≤ most + 2 * length w.pending
wait_falls after path w A most (inl e) none some = rw e (omega (arith, some))
wait_falls after path w A most (inr (e, a)) none some = rw e (omega (arith, none))

-- the back's state is read
record Reads (own : BusState) (w : FrontView) : Type 0 where
  less : front_left w.stage w.state ≤ front_rest_left own
  rests : front_reading w.stage ≡ 0

acted_reads : (act : FrontAction) (v : FrontView) (idle : Bool) (b : BusState) → front_acts.ActsFor act v.state v.closing v.gone idle b
    → Reads v.state (front_step.acted act (front_step.at front.ReadState v))
acted_reads front_act.Publish v idle b acts = record { less = rw acts.0 (omega arith); rests = refl }
acted_reads front_act.Connect v idle b acts = record { less = rw acts.0 (omega arith); rests = refl }
acted_reads front_act.CloseAndConnect v idle b acts = record { less = rw acts.0 (omega arith); rests = refl }
acted_reads other v idle b acts = record { less = omega arith; rests = refl }

pub one_at_most : (b : Bool) → one_if b ≤ 1
one_at_most true = omega arith
one_at_most false = omega arith

-- the sums
program_sum : (g less more most reads before here there now_here now_there other : ℕ) → g ≤ 1 → less < more → more ≤ most → reads ≡ 0 → now_here + now_there ≤ here + there + 1
    → g + (3 * less + reads + 2 * now_here + (other + 2 * now_there)) ≤ 3 * most + before + 2 * here + (other + 2 * there)
program_sum g less more most reads before here there now_here now_there other a b c e h = omega arith

wait_sum : (after rest most before here there other g : ℕ) → g + after ≤ rest + 2 * here → rest ≤ most
    → g + (after + (other + 2 * there)) ≤ most + before + 2 * here + (other + 2 * there)
wait_sum after rest most before here there other g a b = omega arith

read_sum : (less more most reads before here there other : ℕ) → less ≤ more → more ≤ most → reads ≡ 0 → 1 ≤ before
    → 1 + (3 * less + reads + 2 * here + (other + 2 * there)) ≤ 3 * most + before + 2 * here + (other + 2 * there)
read_sum less more most reads before here there other a b c e = omega arith

module _ (f : Features) (d : DiskFacts) (t : Negotiation) where
  program_left : (s : FrontBusStage) (idle : Bool) (port : ℕ) (other : ℕ) → IsProgram s → (IsFrontWait (front_asks.ask_at s t.front) → ⊥)
      → IsLow s → front_sound.IsTimely s t.front.state → IsFrontWrite s → front_left s t.front.state ≤ front_left t.front.stage t.front.state → Holds f d t
      → let u = front_step.step_at s (front_step.at s t.front) idle (front_answered (front_asks.ask_at s t.front) port t.keys) in let k = front_done (front_asks.ask_at s t.front) t.keys in
      one_if (front_goes (front_asks.ask_at s t.front) t.keys.front) + (3 * front_left u.stage u.state + front_reading u.stage + 2 * length k.front.pending + (other + 2 * length k.back.pending))
      ≤ 3 * front_left t.front.stage t.front.state + front_reading t.front.stage + 2 * length t.keys.front.pending + (other + 2 * length t.keys.back.pending)
  program_left s idle port other program no_wait low timely writes begun h =
      let falls = front_falls s t.front idle port t.keys program low writes timely in
      let fires = front_fires (front_asks.ask_at s t.front) t.keys t.front.stage t.front.closing t.front.state t.front.gone t.back.state t.back.stage no_wait h.front_sees h.back_sees in
      program_sum _ _ _ _ _ (front_reading t.front.stage) _ _ _ _ other (one_at_most (front_goes (front_asks.ask_at s t.front) t.keys.front)) falls.less begun falls.rests fires

  -- what is left after a wait
  abbrev waited : FrontBusStage → (idle : Bool) → Option (List ℕ) → ℕ
  waited s idle o = let u = front_step.step_at s (front_step.at s t.front) idle (front_woken o) in 3 * front_left u.stage u.state + front_reading u.stage

  -- all stages together
  Lowers : FrontBusStage → (idle : Bool) (port : ℕ) (other : ℕ) → Type 0
  Lowers s idle port other =
      let u = front_step.step_at s (front_step.at s t.front) idle (front_answered (front_asks.ask_at s t.front) port t.keys) in let k = front_done (front_asks.ask_at s t.front) t.keys in
      one_if (front_goes (front_asks.ask_at s t.front) t.keys.front) + (3 * front_left u.stage u.state + front_reading u.stage + 2 * length k.front.pending + (other + 2 * length k.back.pending))
      ≤ 3 * front_left t.front.stage t.front.state + front_reading t.front.stage + 2 * length t.keys.front.pending + (other + 2 * length t.keys.back.pending)

  state_left : (idle : Bool) (port : ℕ) (other : ℕ) → front_rest_left t.front.state ≤ front_left t.front.stage t.front.state
      → 1 ≤ front_reading t.front.stage → Holds f d t → Lowers front.ReadState idle port other
  unfolding Lowers
  state_left idle port other begun reading h =
      let reads = subst (λ (r : Option BusState). Reads t.front.state (front_step.acted (front_action t.front.state t.front.closing idle r) (front_step.at front.ReadState t.front))) (sym (state_shown (key_of t.keys.keys back_state) t.back.state h.states.back))
      (acted_reads (front_action t.front.state t.front.closing idle (Some t.back.state)) t.front idle t.back.state (front_acts_now f d t idle h)) in
      read_sum _ (front_rest_left t.front.state) (front_left t.front.stage t.front.state) _ (front_reading t.front.stage) (length t.keys.front.pending) (length t.keys.back.pending) other reads.less begun reads.rests reading

  lowers_at : (s : FrontBusStage) (idle : Bool) (port : ℕ) (other : ℕ) → IsLow s → front_sound.IsTimely s t.front.state → IsFrontWrite s
      → front_left s t.front.state ≤ front_left t.front.stage t.front.state → front_reading s ≤ front_reading t.front.stage
      → FrontSees s t.front.closing t.front.state t.front.gone t.back.state t.keys.front → Holds f d t → Lowers s idle port other
  unfolding Lowers
  lowers_at front.Rest idle port other low timely writes begun reading sees h =
      wait_sum _ (3 * front_rest_left t.front.state) (3 * front_left t.front.stage t.front.state) (front_reading t.front.stage) (length t.keys.front.pending) (length t.keys.back.pending) other (one_if (has_pending t.keys.front)) (wait_falls (waited front.Rest idle) back_state t.keys.front _ (3 * front_rest_left t.front.state) sees (omega arith) (omega arith)) (omega arith)
  lowers_at front.ReadState idle port other low timely writes begun reading sees h = state_left idle port other begun reading h
  lowers_at front.Closed idle port other low timely writes begun reading sees h =
      wait_sum _ 0 (3 * front_left t.front.stage t.front.state) (front_reading t.front.stage) (length t.keys.front.pending) (length t.keys.back.pending) other (one_if (has_pending t.keys.front)) (wait_falls (waited front.Closed idle) back_state t.keys.front _ 0 sees (omega arith) (omega arith)) (omega arith)
  lowers_at (front.Broken word) idle port other low timely writes begun reading sees h =
      wait_sum _ 0 (3 * front_left t.front.stage t.front.state) (front_reading t.front.stage) (length t.keys.front.pending) (length t.keys.back.pending) other (one_if (has_pending t.keys.front)) (wait_falls (waited (front.Broken word) idle) back_state t.keys.front _ 0 sees (omega arith) (omega arith)) (omega arith)
  lowers_at front.Start idle port other low timely writes begun reading sees h = program_left front.Start idle port other tt (λ w. w) low timely writes begun h
  lowers_at s idle port other low timely writes begun reading sees h = program_left s idle port other tt (λ w. w) low timely writes begun h

due_reading : (s : FrontBusStage) (v : FrontView) (idle : Bool) → front_reading (due_at s v idle) ≤ front_reading s
due_reading s v idle = due_cases (λ (d : FrontBusStage). front_reading d ≤ front_reading s) s v idle (omega arith) (omega arith) (omega arith) (omega arith)

-- a move of the front
pub front_move_left : (f : Features) (d : DiskFacts) (t : Negotiation) (idle : Bool) (port : ℕ) → Holds f d t
    → one_if (goes (FrontMoves idle port) t) + left (front_moved idle port t) ≤ left t
unfolding Lowers
front_move_left f d t idle port h =
    let v = t.front in
    let s = due v idle in
    let texts = front_texts t.keys.keys in
    let own = due_holds (state_number t.back.state) f d v.stage v idle texts h.front in
    lowers_at f d t s idle port (3 * back_left t.back.stage t.back.state (length t.back.pages) + back_reading t.back.stage)
    (due_low v.stage v idle texts h.front_sound.placed h.front.said (few_orders v h.front_sound.order))
    (due_timely v.stage v idle h.front_sound.timely)
    own.writes
    (due_falls v.stage v idle h.front.own h.front_sound.timely)
    (due_reading v.stage v idle)
    (due_sees t.back.state v.stage v idle t.keys.front h.front_sees)
    h
