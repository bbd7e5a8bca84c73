-- The back's end of the ring as it moves: one that serves goes on to, or halts and unmaps what it holds, and past its port's bind it stays so.
use Rattle.std.proofs.Common.{◌≡◌, ℕ, ◌+◌, Bool, true, false, true≢false, if◌then◌else◌, List, [], ◌∷◌, ◌++◌, inl, inr, refl, sym, ap, ◌∙◌}
use Rattle.std.specs.Prelude.{Option, Some, None, is_some, ◌==◌, ◌⊎◌}
use Rattle.blk_base.specs.declared.parts.Mapping.{Mapping}
use Rattle.blk_base.specs.declared.ask.BackAnswer.{BackAnswer}
use Rattle.blk_base.specs.declared.ask.BackAnswer.TheVariants as answer
use Rattle.ring_words.specs.Ring.{requests_of, overruns, notifies}
use Rattle.back_jobs.specs.Jobs.{first_mapping}
use Rattle.blk_back.specs.declared.stage.Reply.{Reply}
use Rattle.blk_back.specs.declared.stage.BackStage.{BackStage}
use Rattle.blk_back.specs.declared.stage.BackStage.TheVariants as stage
use Rattle.blk_back.specs.View.{View}
use Rattle.blk_back.specs.Ask.{ask_at, loop_ask, next_reply, IsAnswer}
use Rattle.ring_words.specs.Shape.{entry_words_of}
use Rattle.blk_back.specs.Step.{unmapping_next, unbound, bound, other_pages, overrun, looked, loop_step, fetched, fetch_step, step_at, step_of}
use Rattle.vbd_model.specs.Fit.{is_serving}

-- the ring's page was mapped and the port was bound, or either was refused
abbrev pub is_past : BackStage → Bool
is_past stage.MapRing = false
is_past stage.InitWait = false
is_past stage.Bind = false
is_past s = true

-- it has halted, and unmaps a mapping of a job or the ring's page
abbrev pub aborts : BackStage → Bool
aborts (stage.Abort m) = true
aborts stage.UnmapRing = true
aborts s = false

-- it serves on, or halts
abbrev pub Serves : View → View → Type 0
Serves v u = ((is_serving u.stage ≡ true) × (u.halted ≡ v.halted)) ⊎ ((aborts u.stage ≡ true) × (is_some u.halted ≡ true))

either : (b : Bool) (v x y : View) → Serves v x → Serves v y → Serves v (if b then x else y)
either true v x y p q = p
either false v x y p q = q

pub given : (m : Option Mapping) → aborts (unmapping_next m) ≡ true
given None = refl
given (Some m) = refl

looked_serves : (v : View) (word : ℕ) (otherwise : View) → Serves v otherwise → Serves v (looked v word otherwise)
looked_serves v word otherwise h =
    either (overruns v.ring.indices word) v (overrun v word) (if word == v.ring.indices.cons then otherwise else record v { ring = record v.ring { seen = word }; stage = stage.Loop }) (inr (given (first_mapping v.jobs.works), refl))
    (either (word == v.ring.indices.cons) v otherwise (record v { ring = record v.ring { seen = word }; stage = stage.Loop }) h (inl (refl, refl)))

loop_serves : (v : View) (r : Option Reply) (x : BackAnswer) → v.stage ≡ stage.Loop → Serves v (loop_step v r x)
loop_serves v (Some r) x here = inl (refl, refl)
loop_serves v None (answer.Word word) here =
    either (requests_of v.ring.indices v.ring.seen == 0) v (looked v word (record v { ring = record v.ring { seen = word }; stage = stage.StoreEvent })) (record v { ring = record v.ring { entry = word ∷ [] }; stage = stage.Fetch 1 })
    (looked_serves v word (record v { ring = record v.ring { seen = word }; stage = stage.StoreEvent }) (inl (refl, refl))) (inl (refl, refl))
loop_serves v None answer.Event here = inl (ap is_serving here, refl)
loop_serves v None x here = inl (ap is_serving here, refl)

fetch_serves : (v : View) (k word : ℕ) → Serves v (fetch_step v k word)
fetch_serves v k word = either (k + 1 == entry_words_of v.shape.abi) v (fetched v (v.ring.entry ++ word ∷ [])) (record v { ring = record v.ring { entry = v.ring.entry ++ word ∷ [] }; stage = stage.Fetch (k + 1) }) (inl (refl, refl)) (inl (refl, refl))

notified_serves : (b : Bool) → is_serving (if b then stage.Send else stage.Loop) ≡ true
notified_serves true = refl
notified_serves false = refl

serves_at : (s : BackStage) (v : View) (x : BackAnswer) → v.stage ≡ s → is_serving s ≡ true → Serves v (step_at s v x)
serves_at stage.Loop v x here p = loop_serves v (next_reply v) x here
serves_at (stage.Fetch k) v (answer.Word word) here p = fetch_serves v k word
serves_at (stage.ReplyHigh r) v x here p = inl (refl, refl)
serves_at (stage.ReplyLast r) v x here p = inl (refl, refl)
serves_at (stage.Producer r) v x here p = inl (refl, refl)
serves_at (stage.ProducerFence old) v x here p = inl (refl, refl)
serves_at (stage.ResponseEvent old) v (answer.Word event) here p = inl (notified_serves (notifies old v.ring.indices.prod event), refl)
serves_at stage.Send v x here p = inl (refl, refl)
serves_at stage.StoreEvent v x here p = inl (refl, refl)
serves_at stage.EventFence v x here p = inl (refl, refl)
serves_at stage.LookAgain v (answer.Word word) here p = looked_serves v word (record v { ring = record v.ring { seen = word; asleep = true }; stage = stage.Loop }) (inl (refl, refl))
serves_at stage.InitWait v x here p = absurd (true≢false (sym p))
serves_at stage.MapRing v x here p = absurd (true≢false (sym p))
serves_at stage.Bind v x here p = absurd (true≢false (sym p))
serves_at (stage.Abort m) v x here p = absurd (true≢false (sym p))
serves_at stage.UnmapRing v x here p = absurd (true≢false (sym p))
serves_at stage.ClosePort v x here p = absurd (true≢false (sym p))
serves_at stage.UnmapUnbound v x here p = absurd (true≢false (sym p))
serves_at stage.Halted v x here p = absurd (true≢false (sym p))
serves_at s v x here p = inl (ap is_serving here ∙ p, refl)

pub serves_step : (v : View) (x : BackAnswer) → is_serving v.stage ≡ true → Serves v (step_of v x)
serves_step v x p = serves_at v.stage v x refl p

-- past its port's bind the back stays so, whatever it is told
pub gives_past : (s : BackStage) → aborts s ≡ true → is_past s ≡ true
gives_past (stage.Abort m) is = refl
gives_past stage.UnmapRing is = refl
gives_past s is = absurd (true≢false (sym is))

served_past : (v u : View) → Serves v u → is_past u.stage ≡ true
served_past v u (inl serves) = by_stage u.stage serves.0
  where
    by_stage : (s : BackStage) → is_serving s ≡ true → is_past s ≡ true
    by_stage stage.InitWait is = absurd (true≢false (sym is))
    by_stage stage.MapRing is = absurd (true≢false (sym is))
    by_stage stage.Bind is = absurd (true≢false (sym is))
    by_stage s is = refl
served_past v u (inr ends) = gives_past u.stage ends.0

pub bound_past : (pages : List Mapping) → is_past (bound pages) ≡ true
bound_past [] = refl
bound_past (page ∷ pages) = refl

pub unbound_past : (pages : List Mapping) → is_past (unbound pages) ≡ true
unbound_past [] = refl
unbound_past (page ∷ pages) = refl

past_at : (s : BackStage) (v : View) (x : BackAnswer) → v.stage ≡ s → is_past s ≡ true → is_past (step_at s v x).stage ≡ true
past_at stage.InitWait v x here p = absurd (true≢false (sym p))
past_at stage.MapRing v x here p = absurd (true≢false (sym p))
past_at stage.Bind v x here p = absurd (true≢false (sym p))
past_at (stage.Abort m) v x here p = gives_past _ (given (first_mapping v.jobs.works))
past_at stage.UnmapRing v x here p = bound_past (other_pages v.pages)
past_at stage.ClosePort v x here p = refl
past_at stage.UnmapUnbound v x here p = unbound_past (other_pages v.pages)
past_at stage.Halted v x here p = ap is_past here
past_at s v x here p = served_past v (step_at s v x) (serves_at s v x here refl)

pub past_step : (v : View) (x : BackAnswer) → is_past v.stage ≡ true → is_past (step_of v x).stage ≡ true
past_step v x p = past_at v.stage v x refl p

-- a back that serves takes a watch in its loop
loop_watched : (v : View) (r : Option Reply) (path : List ℕ) → v.stage ≡ stage.Loop → IsAnswer (loop_ask v r) (answer.Watched path) → (loop_step v r (answer.Watched path)).stage ≡ stage.Loop
loop_watched v None path here allowed = here
loop_watched v (Some r) path here allowed = absurd allowed

watched_at : (s : BackStage) (v : View) (path : List ℕ) → v.stage ≡ s → is_serving s ≡ true → IsAnswer (ask_at s v) (answer.Watched path) → (step_at s v (answer.Watched path)).stage ≡ stage.Loop
watched_at stage.Loop v path here p allowed = loop_watched v (next_reply v) path here allowed
watched_at stage.InitWait v path here p allowed = absurd (true≢false (sym p))
watched_at stage.UnmapRing v path here p allowed = absurd (true≢false (sym p))
watched_at stage.UnmapUnbound v path here p allowed = absurd (true≢false (sym p))
watched_at stage.Halted v path here p allowed = absurd (true≢false (sym p))
watched_at s v path here p allowed = absurd allowed

pub watched_step : (v : View) (path : List ℕ) → is_serving v.stage ≡ true → IsAnswer (ask_at v.stage v) (answer.Watched path) → (step_of v (answer.Watched path)).stage ≡ stage.Loop
watched_step v path p allowed = watched_at v.stage v path refl p allowed
