-- An end of the ring whose port is bound stays past that, and so it keeps its turn.
use Rattle.std.proofs.Common.{◌≡◌, ℕ, ◌+◌, Bool, true, false, if◌then◌else◌, List, [], ◌∷◌, ◌++◌, refl, sym, ap, ◌∙◌}
use Rattle.std.specs.Prelude.{Option, Some, None, ◌==◌}
use Rattle.blk_base.specs.declared.parts.Mapping.{Mapping}
use Rattle.blk_base.specs.declared.ask.BackAnswer.{BackAnswer}
use Rattle.blk_base.specs.declared.ask.BackAnswer.TheVariants as answer
use Rattle.ring_words.specs.Shape.{entry_words_of}
use Rattle.ring_words.specs.Ring.{requests_of, overruns, notifies}
use Rattle.back_jobs.specs.Keeping.{first_given}
use Rattle.blk_back.specs.declared.stage.Reply.{Reply}
use Rattle.blk_back.specs.declared.stage.BackStage.{BackStage}
use Rattle.blk_back.specs.declared.stage.BackStage.TheVariants as stage
use Rattle.blk_back.specs.View as ring
use Rattle.blk_back.specs.Ask.{next_reply}
use Rattle.blk_back.specs.Step.{unmapping_next, unbound, bound, other_pages, overrun, looked, fetched}
use Rattle.blk_back.specs.Keeping.{overrun_keeping, looked_keeping, loop_step_keeping, fetched_keeping, step_keeping_at, step_keeping}
use Rattle.xenbus_state.specs.declared.back.BackBusAsk.{BackBusAsk}
use Rattle.xenbus_state.specs.declared.back.BackBusAsk.TheVariants as bus_ask
use Rattle.vbd_back.specs.declared.turn.Turn.{Turn}
use Rattle.vbd_back.specs.declared.turn.Turn.TheVariants as turn
use Rattle.vbd_back.specs.View.{View}
use Rattle.vbd_back.specs.Turn.{turn_at, turn_of}
use Rattle.vbd_back.proofs.Turns.{waits}

abbrev pub is_open : BackStage → Bool
is_open stage.InitWait = false
is_open stage.MapRing = false
is_open stage.Bind = false
is_open s = true

either : (c : Bool) (x y : ring.View) → is_open x.stage ≡ true → is_open y.stage ≡ true → is_open (if c then x else y).stage ≡ true
either true x y p q = p
either false x y p q = q

-- a test that is made twice
either_twice : (c : Bool) (x y z : ring.View) → is_open x.stage ≡ true → is_open z.stage ≡ true → is_open (if c then x else (if c then y else z)).stage ≡ true
either_twice true x y z p q = p
either_twice false x y z p q = q

either_stage : (c : Bool) (x y : BackStage) → is_open x ≡ true → is_open y ≡ true → is_open (if c then x else y) ≡ true
either_stage true x y p q = p
either_stage false x y p q = q

pub giving_open : (m : Option Mapping) → is_open (unmapping_next m) ≡ true
giving_open None = refl
giving_open (Some m) = refl

bound_open : (pages : List Mapping) → is_open (bound pages) ≡ true
bound_open [] = refl
bound_open (page ∷ pages) = refl

pub unbound_open : (pages : List Mapping) → is_open (unbound pages) ≡ true
unbound_open [] = refl
unbound_open (page ∷ pages) = refl

looked_open : (v : ring.View) (word : ℕ) (otherwise : ring.View) → is_open otherwise.stage ≡ true → is_open (looked_keeping v word otherwise).stage ≡ true
looked_open v word otherwise h =
    let shown : ring.View = record v { ring = record v.ring { seen = word }; stage = stage.Loop } in
    either_twice (overruns v.ring.indices word) (overrun_keeping v word) (overrun v word) (if word == v.ring.indices.cons then otherwise else shown)
    (giving_open (first_given v.jobs))
    (either (word == v.ring.indices.cons) otherwise shown h refl)

loop_open : (v : ring.View) (r : Option Reply) (given : BackAnswer) → is_open v.stage ≡ true → is_open (loop_step_keeping v r given).stage ≡ true
loop_open v (Some r) given h = refl
loop_open v None (answer.Word word) h =
    let otherwise : ring.View = record v { ring = record v.ring { seen = word }; stage = stage.StoreEvent } in
    either_twice (requests_of v.ring.indices v.ring.seen == 0) (looked_keeping v word otherwise) (looked v word otherwise) (record v { ring = record v.ring { entry = word ∷ [] }; stage = stage.Fetch 1 })
    (looked_open v word otherwise refl) refl
loop_open v None given h = h

pub opened : (s : BackStage) (v : ring.View) (given : BackAnswer) → is_open v.stage ≡ true → is_open s ≡ true → is_open (step_keeping_at s v given).stage ≡ true
opened stage.InitWait v given o h = absurd (cc)
opened stage.MapRing v given o h = absurd (cc)
opened stage.Bind v given o h = absurd (cc)
opened stage.Loop v given o h = loop_open v (next_reply v) given o
opened (stage.Fetch k) v (answer.Word word) o h =
    let words : List ℕ = v.ring.entry ++ word ∷ [] in
    either_twice (k + 1 == entry_words_of v.shape.abi) (fetched_keeping v words) (fetched v words) (record v { ring = record v.ring { entry = words }; stage = stage.Fetch (k + 1) }) refl refl
opened (stage.Fetch k) v given o h = o
opened (stage.ResponseEvent old) v (answer.Word event) o h = either_stage (notifies old v.ring.indices.prod event) stage.Send stage.Loop refl refl
opened (stage.ResponseEvent old) v given o h = o
opened stage.LookAgain v (answer.Word word) o h = looked_open v word (record v { ring = record v.ring { seen = word; asleep = true }; stage = stage.Loop }) refl
opened stage.LookAgain v given o h = o
opened (stage.Abort m) v given o h = giving_open (first_given v.jobs)
opened stage.UnmapRing v given o h = bound_open (other_pages v.pages)
opened stage.UnmapUnbound v given o h = unbound_open (other_pages v.pages)
opened stage.Halted v given o h = o
opened s v given o h = refl

open_at : (s : BackStage) → turn_at bus_ask.Wait s ≡ turn.Ring → is_open s ≡ true
open_at stage.InitWait t = absurd (cc)
open_at stage.MapRing t = absurd (cc)
open_at stage.Bind t = absurd (cc)
open_at s t = refl

turn_open : (s : BackStage) → is_open s ≡ true → turn_at bus_ask.Wait s ≡ turn.Ring
turn_open stage.InitWait o = absurd (cc)
turn_open stage.MapRing o = absurd (cc)
turn_open stage.Bind o = absurd (cc)
turn_open s o = refl

-- the ring's end has the move again, until the negotiation takes its watch or halts
pub keeps_turn : (u : Turn) (v w : View) (given : BackAnswer) → u ≡ turn.Ring → u ≡ turn_of v → w ≡ record v { ring = step_keeping v.ring given } → u ≡ turn_of w
keeps_turn u v w given r known moved =
    let t : turn_of v ≡ turn.Ring = sym known ∙ r in
    let here : turn_at bus_ask.Wait v.ring.stage ≡ turn.Ring = ap (λ (a : BackBusAsk). turn_at a v.ring.stage) (sym (waits v t)) ∙ t in
    let o : is_open v.ring.stage ≡ true = open_at v.ring.stage here in
    let later : BackStage = (step_keeping v.ring given).stage in
    r ∙ sym (ap turn_of moved ∙ (ap (λ (a : BackBusAsk). turn_at a later) (waits v t) ∙ turn_open later (opened v.ring.stage v.ring given o o)))
