-- What the back's negotiation makes of a move of its end of the ring: both go on to share pages and terms.
use Rattle.std.proofs.Common.{◌≡◌, ℕ, Bool, true, false, true≢false, if◌then◌else◌, List, [], ◌∷◌, ◌++◌, refl, sym, ap, ◌∙◌, subst}
use Rattle.std.specs.Prelude.{Option, Some, None}
use Rattle.line_text.proofs.Both.{both_true}
use Rattle.blk_base.specs.declared.parts.Mapping.{Mapping}
use Rattle.blk_base.specs.declared.ask.BackAnswer.{BackAnswer}
use Rattle.blk_base.specs.declared.ask.BackAnswer.TheVariants as answer
use Rattle.ring_words.specs.Shape.{Shape}
use Rattle.blk_back.specs.declared.stage.BackStage.{BackStage}
use Rattle.blk_back.specs.declared.stage.BackStage.TheVariants as ring
use Rattle.blk_base.specs.declared.halt.Halt.{Halt}
use Rattle.blk_back.specs.View as ends
use Rattle.blk_back.specs.Ask.{IsAnswer as IsRingAnswer, ask_at as ring_ask_at}
use Rattle.blk_back.specs.Step as ring_step
use Rattle.xenbus_state.specs.declared.state.BusState.{BusState}
use Rattle.xenbus_state.specs.declared.state.BusState.TheVariants as state
use Rattle.xenbus_state.specs.declared.stage.BackBusStage.{BackBusStage}
use Rattle.xenbus_state.specs.declared.stage.BackBusStage.TheVariants as stage
use Rattle.xenbus_state.specs.declared.back.BackBusAsk.{BackBusAsk}
use Rattle.xenbus_state.specs.declared.back.BackBusAsk.TheVariants as bus_ask
use Rattle.xenbus_state.specs.BackView.{BackView, is_halting, halted, stopped}
use Rattle.xenbus_state.specs.BackAsk.{says_closing_at, says_closing, unmap_ask, ask_at, ask_of}
use Rattle.xenbus_state.specs.BackStep.{other_pages, step_at, step_of}
use Rattle.xenbus_state.specs.BackSound.{IsSound}
use Rattle.xenbus_state.specs.declared.values.FrontTerms.{FrontTerms}
use Rattle.xenbus_state.specs.Runs.{Stops}
use Rattle.xenbus_state.proofs.BackKeeps.{back_keeps}
use Rattle.xenbus_state.proofs.BackTurns.{back_turn_keeps}
use Rattle.vbd_back.proofs.Turns.{heard}
use Rattle.vbd_back.specs.Ask.{ring_moves}
use Rattle.vbd_back.specs.Step.{bus_halted, caught_up, woken, followed, IsHeard}
use Rattle.split_model.proofs.States.{is_unbound}
use Rattle.vbd_model.specs.Fit.{is_serving, BackReads, BackGoesWith, has_terms, HaveTerms}
use Rattle.vbd_laws.proofs.FitBackBus.{BackFits, BackShares, told_at, waits_reading}
use Rattle.vbd_laws.proofs.FitBackShares.{gives_halting, of_front, serving_still, settled_shares, step_pages, step_terms}
use Rattle.vbd_laws.proofs.FitBackMoves.{rests_serving}

-- what the negotiation makes of a move of the ring's end
record Moves (v : BackView) (r y : ends.View) (f : BackView) : Type 0 where
  pages : y.pages ≡ f.pages
  terms : f.terms ≡ v.terms
  grefs : f.grefs ≡ v.grefs
  halts : is_halting v.stage ≡ true → is_halting f.stage ≡ true

stays : (v : BackView) (r y : ends.View) → y.pages ≡ r.pages → r.pages ≡ v.pages → Moves v r y v
stays v r y kept shared = record { pages = kept ∙ shared; terms = refl; grefs = refl; halts = λ h. h }

woken_moves : (v : BackView) (r y : ends.View) (x : BackAnswer) → v.stage ≡ stage.Rest → says_closing v ≡ false → y.pages ≡ r.pages → r.pages ≡ v.pages → Moves v r y (woken v x)
woken_moves v r y (answer.Watched path) here on kept shared =
    subst (Moves v r y) (sym (told_at v (answer.Watched path) on ∙ ap (λ (b : BackBusStage). step_at b v (answer.Watched path)) here))
    (record { pages = kept ∙ shared; terms = refl; grefs = refl; halts = λ h. absurd (true≢false (sym h ∙ ap is_halting here)) })
woken_moves v r y x here on kept shared = stays v r y kept shared

told_moves : (b : BackBusStage) (v : BackView) (r y : ends.View) (x : BackAnswer) → v.stage ≡ b → says_closing v ≡ false → Moves v r y (step_at b v x) → Moves v r y (step_of v x)
told_moves b v r y x here on m = subst (Moves v r y) (sym (told_at v x on ∙ ap (λ (b : BackBusStage). step_at b v x) here)) m

-- a stage that no watch leaves
unwoken : (b : BackBusStage) (v : BackView) (x : BackAnswer) → v.stage ≡ b → says_closing v ≡ false → ((path : List ℕ) → step_at b v (answer.Watched path) ≡ v) → woken v x ≡ v
unwoken b v (answer.Watched path) here on still = told_at v (answer.Watched path) on ∙ (ap (λ (s : BackBusStage). step_at s v (answer.Watched path)) here ∙ still path)
unwoken b v x here on still = refl

-- both ends are done with the same page, where one was left
same_others : (pages : List Mapping) → ring_step.other_pages pages ≡ other_pages pages
same_others [] = refl
same_others (page ∷ pages) = refl

unmap_moves : (v : BackView) (r y : ends.View) (x : BackAnswer) (pages : List Mapping) → v.stage ≡ stage.UnmapPage → says_closing v ≡ false → r.pages ≡ v.pages → v.pages ≡ pages → y.pages ≡ ring_step.other_pages r.pages
    → Moves v r y (followed (unmap_ask pages) v x)
unmap_moves v r y x [] here on shared same kept =
    subst (Moves v r y) (sym (unwoken stage.UnmapPage v x here on (λ path. refl)))
    (record { pages = kept ∙ (ap ring_step.other_pages (shared ∙ same) ∙ sym same); terms = refl; grefs = refl; halts = λ h. h })
unmap_moves v r y x (page ∷ pages) here on shared same kept =
    told_moves stage.UnmapPage v r y answer.Done here on
    (record { pages = kept ∙ ap ring_step.other_pages shared ∙ same_others v.pages; terms = refl; grefs = refl; halts = λ h. gives_halting (other_pages v.pages) v.bound v.state })

begun_moves : (b : BackBusStage) (s : BackStage) (v : BackView) (r : ends.View) (x : BackAnswer) → v.stage ≡ b → says_closing v ≡ false → BackGoesWith b v.state s → r.pages ≡ v.pages
    → ring_moves (ask_at b v) s ≡ true → IsRingAnswer (ring_ask_at s r) x → Moves v r (ring_step.step_at s r x) (followed (ask_at b v) v x)
begun_moves stage.Rest s v r x here on goes shared moves allowed =
    woken_moves v r (ring_step.step_at s r x) x here on (step_pages s r x (serving_still s (rests_serving v.state s goes moves))) shared
begun_moves stage.MapPage s v r x here on goes shared moves allowed = rw goes.1 (maps x (rw goes.1 at allowed))
  where
    maps : (x : BackAnswer) → IsRingAnswer (ring_ask_at ring.MapRing r) x → Moves v r (ring_step.step_at ring.MapRing r x) (step_of v x)
    maps (answer.Mapped m) allowed = told_moves stage.MapPage v r _ (answer.Mapped m) here on (record { pages = ap (λ (pages : List Mapping). pages ++ m ∷ []) shared; terms = refl; grefs = refl; halts = λ h. absurd (true≢false (sym h ∙ ap is_halting here)) })
    maps (answer.MapRefused status) allowed = told_moves stage.MapPage v r _ (answer.MapRefused status) here on (record { pages = shared; terms = refl; grefs = refl; halts = λ h. refl })
    maps x allowed = absurd allowed
begun_moves stage.Bind s v r x here on goes shared moves allowed = rw goes.1 (binds x (rw goes.1 at allowed))
  where
    binds : (x : BackAnswer) → IsRingAnswer (ring_ask_at ring.Bind r) x → Moves v r (ring_step.step_at ring.Bind r x) (step_of v x)
    binds answer.Done allowed = told_moves stage.Bind v r _ answer.Done here on (record { pages = shared; terms = refl; grefs = refl; halts = λ h. absurd (true≢false (sym h ∙ ap is_halting here)) })
    binds answer.BindRefused allowed = told_moves stage.Bind v r _ answer.BindRefused here on (record { pages = shared; terms = refl; grefs = refl; halts = λ h. refl })
    binds x allowed = absurd allowed
begun_moves stage.UnmapOthers (ring.Abort m) v r x here on goes shared moves allowed = stays v r _ refl shared
begun_moves stage.UnmapOthers s v r x here on goes shared moves allowed = absurd goes
begun_moves stage.UnmapPage ring.UnmapRing v r x here on goes shared moves allowed = unmap_moves v r _ x v.pages here on shared refl refl
begun_moves stage.UnmapPage ring.UnmapUnbound v r x here on goes shared moves allowed = unmap_moves v r _ x v.pages here on shared refl refl
begun_moves stage.UnmapPage s v r x here on goes shared moves allowed = absurd goes
begun_moves stage.ClosePort s v r x here on goes shared moves allowed = rw goes (closes x (rw goes at allowed))
  where
    closes : (x : BackAnswer) → IsRingAnswer (ring_ask_at ring.ClosePort r) x → Moves v r (ring_step.step_at ring.ClosePort r x) (step_of v x)
    closes answer.Done allowed = told_moves stage.ClosePort v r _ answer.Done here on (record { pages = shared; terms = refl; grefs = refl; halts = λ h. gives_halting [] false v.state })
    closes x allowed = absurd allowed
begun_moves stage.Halted s v r x here on goes shared moves allowed = rw goes.1 (subst (Moves v r r) (sym (unwoken stage.Halted v x here on (λ path. refl))) (stays v r r refl shared))
begun_moves (stage.Publish k) s v r x here on goes shared moves allowed = rw goes.1 (stays v r _ refl shared)
begun_moves (stage.WriteState state.InitWait) s v r x here on goes shared moves allowed = rw goes.1 (stays v r _ refl shared)
begun_moves (stage.WriteState state.Connected) s v r x here on goes shared moves allowed = rw goes.1 (stays v r _ (step_pages ring.Loop r x refl) shared)
begun_moves (stage.WriteState state.Closing) s v r x here on goes shared moves allowed = rw goes (stays v r _ refl shared)
begun_moves (stage.WriteState state.Closed) s v r x here on goes shared moves allowed = rw goes.1 (stays v r _ refl shared)
begun_moves (stage.WriteState own) s v r x here on goes shared moves allowed = absurd goes
begun_moves stage.Watch s v r x here on goes shared moves allowed = rw goes.1 (stays v r _ refl shared)
begun_moves stage.ReadState s v r x here on goes shared moves allowed = reading v.state s goes
  where
    reading : (own : BusState) (s : BackStage) → BackReads own s → Moves v r (ring_step.step_at s r x) v
    reading state.InitWait s reads = rw reads (stays v r _ refl shared)
    reading state.Connected s reads = rw reads (stays v r _ (step_pages ring.Loop r x refl) shared)
    reading state.Closing s reads = rw reads (stays v r _ (step_pages ring.Loop r x refl) shared)
    reading own s reads = absurd reads
begun_moves (stage.ReadKey k) s v r x here on goes shared moves allowed = by_stage s (waits_reading k v.state s goes).1 moves
  where
    by_stage : (s : BackStage) → is_unbound s ≡ true → ring_moves (bus_ask.GetKey k) s ≡ true → Moves v r (ring_step.step_at s r x) v
    by_stage ring.InitWait is moves = absurd (true≢false (sym moves))
    by_stage ring.MapRing is moves = absurd (true≢false (sym moves))
    by_stage s is moves = absurd (true≢false (sym is))
begun_moves (stage.PublishFact k) s v r x here on goes shared moves allowed = rw goes.1 (stays v r _ (step_pages ring.Loop r x refl) shared)

-- where it says that it closes it hears of nothing else
closing_moves : (b : BackBusStage) (own : BusState) (v : BackView) (r : ends.View) (x : BackAnswer) → says_closing_at b own ≡ true → BackGoesWith b own r.stage → r.pages ≡ v.pages → Moves v r (ring_step.step_of r x) v
closing_moves stage.Rest state.Connected v r x is goes shared = stays v r _ (step_pages r.stage r x (serving_still r.stage goes)) shared
closing_moves stage.ReadState state.Connected v r x is goes shared = stays v r _ (step_pages r.stage r x (serving_still r.stage (ap is_serving goes))) shared
closing_moves b own v r x is goes shared = absurd (true≢false (sym is))

-- it halts with the end of the ring
halted_pages : (h : Option Halt) (f : BackView) → (bus_halted h f).pages ≡ f.pages
halted_pages None f = refl
halted_pages (Some why) f = by_test (is_halting f.stage)
  where
    by_test : (c : Bool) → (if c then f else halted f).pages ≡ f.pages
    by_test true = refl
    by_test false = refl

halted_sound : (h : Option Halt) (f : BackView) → IsSound f → IsSound (bus_halted h f)
halted_sound None f sound = sound
halted_sound (Some why) f sound = back_turn_keeps Stops f tt sound

stopped_halts : (f : BackView) → is_halting (stopped f).stage ≡ true
stopped_halts f = by_test (is_halting f.stage) refl
  where
    by_test : (c : Bool) → is_halting f.stage ≡ c → is_halting (if c then f else halted f).stage ≡ true
    by_test true is = is
    by_test false is = refl

halted_on : (h : Option Halt) (f : BackView) → is_halting (bus_halted h f).stage ≡ false → bus_halted h f ≡ f
halted_on None f on = refl
halted_on (Some why) f on = absurd (true≢false (sym (stopped_halts f) ∙ on))

caught_shares : (v : BackView) (r y : ends.View) (f : BackView) → of_front y ≡ of_front r → (has_terms y.stage ≡ true → has_terms r.stage ≡ true) → IsSound f → Moves v r y f → BackShares v r → BackShares (caught_up y f) y
caught_shares v r y f same had sound m shares =
    settled_shares y y f (bus_halted y.halted f) refl m.pages (halted_pages y.halted f) (halted_sound y.halted f sound) by_terms
  where
    running : (c : Bool) → is_halting v.stage ≡ c → is_halting f.stage ≡ false → is_halting v.stage ≡ false
    running true is on = absurd (true≢false (sym (m.halts is) ∙ on))
    running false is on = is

    by_terms : has_terms y.stage ≡ true → is_halting (bus_halted y.halted f).stage ≡ false → HaveTerms y (bus_halted y.halted f)
    by_terms has on =
        let plain = halted_on y.halted f on in
        let have = shares.terms (had has) (running (is_halting v.stage) refl (ap (λ (u : BackView). is_halting u.stage) (sym plain) ∙ on)) in
        subst (HaveTerms y) (sym plain)
        (record {
          shape = ap (λ (t : Shape × List ℕ × ℕ). t.0) same ∙ (have.shape ∙ ap (λ (t : FrontTerms). record { abi = t.abi; order = t.order }) (sym m.terms));
          grefs = ap (λ (t : Shape × List ℕ × ℕ). t.1) same ∙ (have.grefs ∙ sym m.grefs);
          port = ap (λ (t : Shape × List ℕ × ℕ). t.2) same ∙ (have.port ∙ ap (λ (t : FrontTerms). t.port) (sym m.terms));
        })

followed_sound : (a : BackBusAsk) (v : BackView) (x : BackAnswer) → ask_of v ≡ a → IsHeard a x → IsSound v → IsSound (followed a v x)
followed_sound (bus_ask.Map gref) v x e heard sound = back_keeps v x (rw e heard) sound
followed_sound (bus_ask.Bind port) v x e heard sound = back_keeps v x (rw e heard) sound
followed_sound (bus_ask.Unmap m) v x e heard sound = back_keeps v answer.Done (rw e tt) sound
followed_sound bus_ask.ClosePort v x e heard sound = back_keeps v x (rw e heard) sound
followed_sound bus_ask.Wait v (answer.Watched path) e heard sound = back_keeps v (answer.Watched path) (rw e tt) sound
followed_sound bus_ask.Wait v x e heard sound = sound
followed_sound a v x e heard sound = sound

moves_have : (a : BackBusAsk) (s : BackStage) → ring_moves a s ≡ true → has_terms s ≡ true
moves_have (bus_ask.Map gref) ring.InitWait moves = absurd (true≢false (sym moves))
moves_have (bus_ask.Bind port) ring.InitWait moves = absurd (true≢false (sym moves))
moves_have bus_ask.UnmapOthers ring.InitWait moves = absurd (true≢false (sym moves))
moves_have (bus_ask.Unmap m) ring.InitWait moves = absurd (true≢false (sym moves))
moves_have bus_ask.ClosePort ring.InitWait moves = absurd (true≢false (sym moves))
moves_have a ring.InitWait moves = absurd (true≢false (sym moves))
moves_have a s moves = refl

-- a move of the ring's end
pub moved_shares : (v : BackView) (r : ends.View) (x : BackAnswer) → BackFits v r → BackShares v r → ring_moves (ask_of v) r.stage ≡ true → IsRingAnswer (ring_ask_at r.stage r) x
    → BackShares (caught_up (ring_step.step_of r x) (followed (ask_of v) v x)) (ring_step.step_of r x)
moved_shares v r x h shares moves allowed =
    caught_shares v r (ring_step.step_of r x) (followed (ask_of v) v x) (step_terms r.stage r x) (λ has. moves_have (ask_of v) r.stage moves)
    (followed_sound (ask_of v) v x refl (heard (ask_of v) r x moves allowed) shares.sound) (by_test (says_closing v) refl) shares
  where
    by_test : (c : Bool) → says_closing v ≡ c → Moves v r (ring_step.step_of r x) (followed (ask_of v) v x)
    by_test true is = rw is (closing_moves v.stage v.state v r x (both_true v.unplugged (says_closing_at v.stage v.state) is).1 h.goes shares.pages)
    by_test false on = rw on (begun_moves v.stage r.stage v r x refl on h.goes shares.pages (rw on at moves) allowed)
