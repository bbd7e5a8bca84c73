-- What the backend and its jobs hold, with what is kept for later requests: no answer loses any of it.
use Rattle.std.proofs.Common.{◌≡◌, ℕ, Bool, true, false, if◌then◌else◌, List, [], ◌∷◌, ◌++◌, refl, sym, subst}
use Rattle.std.specs.Prelude.{Option, Some, None, IsPermutation}
use Rattle.std.proofs.lemmas.List.Sorted.{IsPermutation-refl}
use Rattle.blk_base.specs.declared.parts.Mapping.{Mapping}
use Rattle.blk_base.specs.declared.ask.BackAnswer.{BackAnswer}
use Rattle.blk_base.specs.declared.halt.Halt.{Halt}
use Rattle.ring_words.specs.Shape.{Shape}
use Rattle.back_jobs.specs.Keeping.{all_hands}
use Rattle.back_jobs.specs.Hands.{HandsKeep}
use Rattle.blk_back.specs.declared.stage.BackStage.{BackStage}
use Rattle.blk_back.specs.declared.stage.BackStage.TheVariants as stage
use Rattle.blk_back.specs.View as ring
use Rattle.blk_back.specs.Ask as ring_of
use Rattle.blk_back.specs.Step.{may_halt, unbound, may_attach, attached, attaches}
use Rattle.blk_back.specs.Keeping as keeping
use Rattle.xenbus_state.specs.declared.keys.FrontKey.{FrontKey}
use Rattle.xenbus_state.specs.declared.keys.FrontKey.TheVariants as key
use Rattle.blk_back.specs.Hands.{aborted, all_hands_at, all_hands_of}
use Rattle.blk_back.proofs.Keeping.{abort_entire, hands_keep}
use Rattle.xenbus_state.specs.declared.table.BackHalt.{BackHalt}
use Rattle.xenbus_state.specs.declared.back.BackBusAsk.{BackBusAsk}
use Rattle.xenbus_state.specs.declared.back.BackBusAsk.TheVariants as bus_ask
use Rattle.xenbus_state.specs.BackView.{BackView}
use Rattle.xenbus_state.specs.BackStep as bus_step
use Rattle.vbd_back.specs.View.{View}
use Rattle.vbd_back.specs.Ask.{bus_ask_of, bus_moves, key_ask, ring_moves, ring_ask, ask_of, IsAnswer}
use Rattle.vbd_back.specs.Step.{ring_halt, shape_read, halt_of}
use Rattle.vbd_back.specs.Keeping.{KeepingView, keeps_grants, ring_told, ring_led_keeping, spoken_keeping, ring_step_keeping, step_keeping}
use Rattle.vbd_back.proofs.Turns.{answered, none_at}

-- a halt loses nothing
unbound_entire : (pages : List Mapping) (rest : List Mapping) → IsPermutation rest (aborted (unbound pages) ++ rest)
unbound_entire [] rest = IsPermutation-refl rest
unbound_entire (page ∷ pages) rest = IsPermutation-refl rest

halted_keep_at : (why : Halt) (v : ring.View) (s : BackStage) → v.stage ≡ s → IsPermutation (all_hands_at s v) (all_hands_of (keeping.halts_keeping_at s why v))
halted_keep_at why v stage.InitWait here = unbound_entire v.pages (all_hands v.jobs ++ v.pages)
halted_keep_at why v stage.MapRing here = unbound_entire v.pages (all_hands v.jobs ++ v.pages)
halted_keep_at why v stage.Loop here = abort_entire (record v { halted = Some why })
halted_keep_at why v s here = subst (λ (t : BackStage). IsPermutation (all_hands_at s v) (all_hands_at t v)) (sym here) (IsPermutation-refl (all_hands_at s v))

halted_keep : (why : Halt) (v : ring.View) → IsPermutation (all_hands_of v) (all_hands_of (keeping.halts_keeping why v))
halted_keep why v = by_kind (may_halt why)
  where
    by_kind : (b : Bool) → IsPermutation (all_hands_of v) (all_hands_of (if b then keeping.halts_keeping_at v.stage why v else v))
    by_kind true = halted_keep_at why v v.stage refl
    by_kind false = IsPermutation-refl (all_hands_of v)

-- terms that are taken lose nothing, nor does what is said of how many mappings may be kept
attached_keep : (shape : Shape) (grefs : List ℕ) (port : ℕ) (v : ring.View) → IsPermutation (all_hands_of v) (all_hands_of (attaches shape grefs port v))
attached_keep shape grefs port v = by_stage v.stage refl
  where
    at_once : (b : Bool) → v.stage ≡ stage.InitWait → IsPermutation (all_hands_of v) (all_hands_of (if b then attached shape grefs port v else v))
    at_once true here = rw here (IsPermutation-refl (all_hands v.jobs ++ v.pages))
    at_once false here = IsPermutation-refl (all_hands_of v)

    by_stage : (s : BackStage) → v.stage ≡ s → IsPermutation (all_hands_of v) (all_hands_of (attaches shape grefs port v))
    by_stage stage.InitWait here = at_once (may_attach shape grefs v) here
    by_stage s here = rw here (IsPermutation-refl (all_hands_at s v))

most_keep : (cap : ℕ) (v : ring.View) → IsPermutation (all_hands_of v) (all_hands_of (keeping.keeps cap v))
most_keep cap v = by_time (keeping.may_keep_most cap v)
  where
    by_time : (b : Bool) → IsPermutation (all_hands_of v) (all_hands_of (if b then keeping.keeping_most cap v else v))
    by_time true = IsPermutation-refl (all_hands_of v)
    by_time false = IsPermutation-refl (all_hands_of v)

told_keep : (most : ℕ) (a : BackBusAsk) (b : BackView) (r : ring.View) → IsPermutation (all_hands_of r) (all_hands_of (ring_told most a b r))
told_keep most (bus_ask.GetKey k) b r = by_key k
  where
    if_both : (c : Bool) → IsPermutation (all_hands_of r) (all_hands_of (if c then keeping.keeps most r else r))
    if_both true = most_keep most r
    if_both false = IsPermutation-refl (all_hands_of r)

    by_key : (k : FrontKey) → IsPermutation (all_hands_of r) (all_hands_of (ring_told most (bus_ask.GetKey k) b r))
    by_key key.Protocol = attached_keep (shape_read b) b.grefs b.terms.port r
    by_key key.FeaturePersistent = if_both (keeps_grants b)
    by_key k = IsPermutation-refl (all_hands_of r)
told_keep most a b r = IsPermutation-refl (all_hands_of r)

led_keep : (most : ℕ) (o : Option BackHalt) (a : BackBusAsk) (b : BackView) (r : ring.View) → IsPermutation (all_hands_of r) (all_hands_of (ring_led_keeping most o a b r))
led_keep most (Some why) a b r = halted_keep (ring_halt why) r
led_keep most None a b r = told_keep most a b r

-- a key is no mapping
key_keep : (a : BackBusAsk) (given : BackAnswer) (before after : List Mapping) → IsPermutation before after → HandsKeep (key_ask a) given before after
key_keep bus_ask.Watch given before after p = p
key_keep a given before after p = p

-- what the backend and its jobs hold and keep after an answer
keep_by : (most : ℕ) (b m : Bool) (a : BackBusAsk) (v : View) (given : BackAnswer) → IsAnswer (if b then key_ask a else ring_ask m v) given
    → HandsKeep (if b then key_ask a else ring_ask m v) given (all_hands_of v.ring) (all_hands_of (if b then spoken_keeping most v given else ring_step_keeping m a v given).ring)
keep_by most true m a v given h =
    key_keep a given (all_hands_of v.ring) (all_hands_of (spoken_keeping most v given).ring)
    (led_keep most (halt_of v given) (bus_ask_of v) (bus_step.step_of v.bus given) v.ring)
keep_by most false true a v given h = hands_keep v.ring given (answered (ring_of.ask_of v.ring) given (none_at v.ring.stage v.ring) h)
keep_by most false false a v given h = IsPermutation-refl (all_hands_of v.ring)

pub keep_done : (k new : KeepingView) (given : BackAnswer) → new ≡ step_keeping k given → IsAnswer (ask_of k.ends) given
    → HandsKeep (ask_of k.ends) given (all_hands_of k.ends.ring) (all_hands_of new.ends.ring)
keep_done k new given e h =
    let v : View = k.ends in
    rw e (keep_by k.most (bus_moves (bus_ask_of v) v.ring.stage) (ring_moves (bus_ask_of v) v.ring.stage) (bus_ask_of v) v given h)
