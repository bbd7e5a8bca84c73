-- The front's negotiation goes on with its end of the ring, as that moves.
use Rattle.std.proofs.Common.{◌≡◌, ℕ, ◌+◌, ◌^◌, ◌<◌, Bool, true, false, true≢false, ◌||◌, ◌&&◌, if◌then◌else◌, List, [], ◌∷◌, inl, inr, refl, sym, ap, ◌∙◌, subst, arith}
use Rattle.std.specs.Prelude.{Option, Some, None, IsSome, ◌-◌, ◌==◌, ◌⊎◌, nat_lt, length, slice_get}
use Rattle.std.proofs.lemmas.Bool.Decides.{nat_tests}
use Rattle.line_text.proofs.Both.{both_true}
use Rattle.blk_base.specs.declared.ask.FrontAsk.{FrontAsk}
use Rattle.blk_base.specs.declared.ask.FrontAsk.TheVariants as front_ask
use Rattle.blk_base.specs.declared.ask.FrontAnswer.{FrontAnswer}
use Rattle.blk_base.specs.declared.ask.FrontAnswer.TheVariants as answer
use Rattle.blk_front.specs.declared.request.Request.{Request}
use Rattle.blk_front.specs.declared.stage.FrontStage.{FrontStage}
use Rattle.blk_front.specs.declared.stage.FrontStage.TheVariants as ring
use Rattle.blk_front.specs.View as ends
use Rattle.ring_words.specs.Shape.{Shape}
use Rattle.split_model.proofs.Shapes.{step_shape}
use Rattle.blk_front.specs.Ask.{is_through, loop_ask, ask_at as ring_ask_at, IsAnswer}
use Rattle.blk_front.specs.Step.{at as ring_at, broken as ring_broken, loop_step, is_mapped, ring_left, step_at as ring_step_at, step_of as ring_step_of}
use Rattle.blk_front.specs.Submit.{ending_of, is_ready, is_connected}
use Rattle.blk_front.specs.State.{is_made, is_bare}
use Rattle.blk_front.specs.Suspend.{is_left}
use Rattle.xenbus_state.specs.declared.state.BusState.{BusState}
use Rattle.xenbus_state.specs.declared.state.BusState.TheVariants as state
use Rattle.xenbus_state.specs.declared.stage.FrontBusStage.{FrontBusStage}
use Rattle.xenbus_state.specs.declared.stage.FrontBusStage.TheVariants as stage
use Rattle.xenbus_state.specs.declared.front.FrontBusAsk.TheVariants as ask
use Rattle.xenbus_state.specs.FrontView.{FrontView, ring_order}
use Rattle.xenbus_state.specs.FrontAsk.{due, ask_at}
use Rattle.xenbus_state.specs.FrontStep.{at, step_at}
use Rattle.vbd_front.specs.View.{is_still, is_unoccupied, is_broken}
use Rattle.vbd_front.specs.Ask.{speaks, ring_moves}
use Rattle.vbd_front.specs.Step.{settled, bus_told, woken, followed}
use Rattle.vbd_model.specs.Fit.{IsEndingPage, FrontRests, IsGranting, FrontGoesWith, IsAgreed, PortOrdered, FrontOrdered}
use Rattle.vbd_laws.proofs.FitFrontRing.{up_step, closing_step, through_step, broken_step}
use Rattle.vbd_laws.proofs.FitFrontBus.{FrontFits, rests_due}
use Rattle.vbd_laws.proofs.FitFrontSpoken.{whole_rests}

-- the negotiation goes on with the end of the ring, and neither writes a state nor begins to close
pub record Follows (v u : FrontView) (r : FrontStage) (n : ℕ) : Type 0 where
  pub goes : FrontGoesWith u.stage u r
  pub closing : u.closing ≡ v.closing
  pub own : u.state ≡ v.state
  pub ordered : FrontOrdered u.stage u n

abbrev FollowsTo : FrontView → FrontStage → ℕ → FrontView → Type 0
FollowsTo v r n u = Follows v u r n

-- so they fit after a move of the end of the ring
pub follows_fit : (v u : FrontView) (f : ends.View) (x : FrontAnswer) → FrontFits v f → Follows v u (ring_step_of f x).stage f.shape.order → FrontFits u (ring_step_of f x)
follows_fit v u f x h follows = record {
  goes = follows.goes;
  closing = λ whole. closing_step f x ∙ (h.closing (before whole) ∙ sym follows.closing);
  through = λ e whole. through_step f x (h.through (sym follows.own ∙ e) (before whole));
  ordered = subst (λ (s : Shape). FrontOrdered u.stage u s.order) (sym (step_shape f x)) follows.ordered;
}
  where
    before : is_broken (ring_step_of f x).stage ≡ false → is_broken f.stage ≡ false
    before whole = by_test (is_broken f.stage) refl
      where
        by_test : (b : Bool) → is_broken f.stage ≡ b → b ≡ false
        by_test true is = absurd (true≢false (sym (broken_step f x is) ∙ whole))
        by_test false is = refl

-- what is due was answered
told_at : (d : FrontBusStage) (v : FrontView) (idle : Bool) (x : FrontAnswer) → due v idle ≡ d → bus_told idle v x ≡ settled idle (step_at d (at d v) idle x)
told_at d v idle x e = ap (λ (s : FrontBusStage). settled idle (step_at s (at s v) idle x)) e

-- a watch that is taken has a front that rests read the other end's state
pub woken_follows : (broken : Bool) (v : FrontView) (idle : Bool) (x : FrontAnswer) (r : FrontStage) (n : ℕ) → v.stage ≡ stage.Rest → due v idle ≡ stage.Rest → PortOrdered v.port v.order v.features.order n
    → FrontRests v.state v.gone v.port r ⊎ (is_broken r ≡ true) → (broken ≡ false → is_broken r ≡ false) → Follows v (woken broken idle v x) r n
woken_follows broken v idle x r n here e ordered rests whole = by_answer broken x rests whole
  where
    still : FrontRests v.state v.gone v.port r ⊎ (is_broken r ≡ true) → Follows v v r n
    still rests = record { goes = rw here rests; closing = refl; own = refl; ordered = rw here ordered }

    reads : (path : List ℕ) → FrontRests v.state v.gone v.port r ⊎ (is_broken r ≡ true) → is_broken r ≡ false → Follows v (bus_told idle v (answer.Watched path)) r n
    reads path (inl rests) whole = subst (FollowsTo v r n) (sym (told_at stage.Rest v idle (answer.Watched path) e)) (record { goes = rests; closing = refl; own = refl; ordered = ordered })
    reads path (inr is) whole = absurd (true≢false (sym is ∙ whole))

    by_answer : (broken : Bool) (x : FrontAnswer) → FrontRests v.state v.gone v.port r ⊎ (is_broken r ≡ true) → (broken ≡ false → is_broken r ≡ false) → Follows v (woken broken idle v x) r n
    by_answer false (answer.Watched path) rests whole = reads path rests (whole refl)
    by_answer false x rests whole = still rests
    by_answer true x rests whole = still rests

-- a word of the ring was written: the next one is, or its first page is granted
word_follows : (word : ℕ) (v : FrontView) (idle : Bool) (f : ends.View) (x : FrontAnswer) → due v idle ≡ stage.RingWord word → v.state ≡ state.Initialising → word < 16 → v.port ≡ None → IsAgreed v.order v.features.order f.shape.order
    → IsAnswer (ring_ask_at (ring.RingWord word) f) x → Follows v (bus_told idle v x) (ring_step_at (ring.RingWord word) f x).stage f.shape.order
word_follows word v idle f answer.Done e own low port agreed allowed = subst (FollowsTo v _ _) (sym (told_at (stage.RingWord word) v idle answer.Done e)) (by_test (word == 15) refl)
  where
    by_test : (last : Bool) → (word == 15) ≡ last
        → Follows v (settled idle (at (if last then stage.Grant 0 else stage.RingWord (word + 1)) v)) (if last then ring.RingFrame 0 else ring.RingWord (word + 1)) f.shape.order
    by_test true t = record { goes = (own, refl, port); closing = refl; own = refl; ordered = agreed }
    by_test false t = record { goes = (own, grind (arith, nat_tests), refl, port); closing = refl; own = refl; ordered = agreed }
word_follows word v idle f x e own low port agreed allowed = absurd allowed

-- three moves make a page's grant: then the next one is granted, or the port is made
grant_follows : (page : ℕ) (s : FrontStage) (v : FrontView) (idle : Bool) (f : ends.View) (x : FrontAnswer) → v.stage ≡ stage.Grant page → due v idle ≡ stage.Grant page → v.state ≡ state.Initialising → v.port ≡ None
    → IsAgreed v.order v.features.order f.shape.order → IsGranting page s → IsAnswer (ring_ask_at s f) x → Follows v (followed (ask.Grant page) (ring_step_at s f x).stage idle v x) (ring_step_at s f x).stage f.shape.order
grant_follows page (ring.RingFrame k) v idle f x here e own port agreed is allowed = record { goes = rw here (own, is, port); closing = refl; own = refl; ordered = rw here agreed }
grant_follows page (ring.RingFence k) v idle f x here e own port agreed is allowed = record { goes = rw here (own, is, port); closing = refl; own = refl; ordered = rw here agreed }
grant_follows page (ring.RingFlags k) v idle f answer.Done here e own port agreed is allowed = by_test (nat_lt (k + 1) (2 ^ f.shape.order)) refl
  where
    told : (more : Bool) → nat_lt (k + 1) (2 ^ f.shape.order) ≡ more → bus_told idle v answer.Done ≡ settled idle (at (if more then stage.Grant (page + 1) else stage.NewPort) v)
    told more m =
        told_at (stage.Grant page) v idle answer.Done e
        ∙ ap (λ (b : Bool). settled idle (at (if b then stage.Grant (page + 1) else stage.NewPort) v)) (sym (ap (λ (n : ℕ). nat_lt (n + 1) (2 ^ ring_order v)) is) ∙ (sym (ap (λ (n : ℕ). nat_lt (k + 1) (2 ^ n)) agreed.0) ∙ m))

    by_test : (more : Bool) → nat_lt (k + 1) (2 ^ f.shape.order) ≡ more
        → let s : FrontStage = (if more then ring.RingFrame (k + 1) else ring.NewPort) in Follows v (followed (ask.Grant page) s idle v answer.Done) s f.shape.order
    by_test true m = subst (FollowsTo v _ _) (sym (told true m)) (record { goes = (own, ap (λ (n : ℕ). n + 1) is, port); closing = refl; own = refl; ordered = agreed })
    by_test false m = subst (FollowsTo v _ _) (sym (told false m)) (record { goes = (own, refl, port); closing = refl; own = refl; ordered = agreed })
grant_follows page (ring.RingFlags k) v idle f x here e own port agreed is allowed = absurd allowed
grant_follows page s v idle f x here e own port agreed is allowed = absurd is

-- the port was made: the terms are published
port_follows : (v : FrontView) (idle : Bool) (f : ends.View) (x : FrontAnswer) → due v idle ≡ stage.NewPort → v.state ≡ state.Initialising → IsAgreed v.order v.features.order f.shape.order → IsAnswer (ring_ask_at ring.NewPort f) x
    → Follows v (bus_told idle v x) ring.Initialised f.shape.order
port_follows v idle f (answer.Port port) e own agreed allowed =
    subst (FollowsTo v ring.Initialised _) (sym (told_at stage.NewPort v idle (answer.Port port) e)) (record { goes = (own, refl, refl); closing = refl; own = refl; ordered = agreed })
port_follows v idle f x e own agreed allowed = absurd allowed

-- a page's grant is ended in two moves, or the ring breaks: then the next one's is, or the port is closed
pub end_follows : (page : ℕ) (s : FrontStage) (v : FrontView) (idle : Bool) (f : ends.View) (x : FrontAnswer) (p : ℕ) → due v idle ≡ stage.EndGrant page → v.state ≡ state.Closing → v.port ≡ Some p → IsAgreed v.order v.features.order f.shape.order
    → FrontOrdered v.stage v f.shape.order → ((r : FrontStage) → IsEndingPage page r ⊎ (is_broken r ≡ true) → FrontGoesWith v.stage v r)
    → IsEndingPage page s → IsAnswer (ring_ask_at s f) x → Follows v (followed (ask.EndGrant page) (ring_step_at s f x).stage idle v x) (ring_step_at s f x).stage f.shape.order
end_follows page (ring.RingRead k) v idle f (answer.Word word) p e own port agreed ordered still is allowed = by_test (is_mapped word)
  where
    by_test : (b : Bool) → let x : ends.View = (if b then ring_broken word f else ring_at (ring.RingEnd k word) f) in Follows v (followed (ask.EndGrant page) x.stage idle v (answer.Word word)) x.stage f.shape.order
    by_test true = record { goes = still (ring.Broken word) (inr refl); closing = refl; own = refl; ordered = ordered }
    by_test false = record { goes = still (ring.RingEnd k word) (inl is); closing = refl; own = refl; ordered = ordered }
end_follows page (ring.RingEnd k seen) v idle f (answer.Word word) p e own port agreed ordered still is allowed = by_test (word == seen)
  where
    told : (more : Bool) → nat_lt (k + 1) (2 ^ f.shape.order) ≡ more → bus_told idle v answer.Done ≡ settled idle (at (if more then stage.EndGrant (page + 1) else stage.EndOtherGrants) v)
    told more m =
        told_at (stage.EndGrant page) v idle answer.Done e
        ∙ ap (λ (b : Bool). settled idle (at (if b then stage.EndGrant (page + 1) else stage.EndOtherGrants) v)) (sym (ap (λ (n : ℕ). nat_lt (n + 1) (2 ^ ring_order v)) is) ∙ (sym (ap (λ (n : ℕ). nat_lt (k + 1) (2 ^ n)) agreed.0) ∙ m))

    left : (more : Bool) → nat_lt (k + 1) (2 ^ f.shape.order) ≡ more
        → let s : FrontStage = (if more then ring.RingRead (k + 1) else ring.ClosePort) in Follows v (followed (ask.EndGrant page) s idle v (answer.Word word)) s f.shape.order
    left true m = subst (FollowsTo v _ _) (sym (told true m)) (record { goes = (own, inl (ap (λ (n : ℕ). n + 1) is), rw port refl); closing = refl; own = refl; ordered = rw port agreed })
    left false m =
        let settles : settled idle (at stage.EndOtherGrants v) ≡ at stage.ClosePort v = rw port refl in
        subst (FollowsTo v ring.ClosePort _) (sym (told false m ∙ settles)) (record { goes = (own, refl, rw port refl); closing = refl; own = refl; ordered = rw port agreed })

    by_test : (b : Bool) → let x : ends.View = (if b then ring_at (ring_left f k) f else ring_broken word f) in Follows v (followed (ask.EndGrant page) x.stage idle v (answer.Word word)) x.stage f.shape.order
    by_test true = left (nat_lt (k + 1) (2 ^ f.shape.order)) refl
    by_test false = record { goes = still (ring.Broken word) (inr refl); closing = refl; own = refl; ordered = ordered }
end_follows page (ring.RingRead k) v idle f x p e own port agreed ordered still is allowed = absurd allowed
end_follows page (ring.RingEnd k seen) v idle f x p e own port agreed ordered still is allowed = absurd allowed
end_follows page s v idle f x p e own port agreed ordered still is allowed = absurd is

-- an end of the ring that is broken stays so, and the negotiation learns no more
broken_ends : (page : ℕ) (s : FrontStage) (v : FrontView) (idle : Bool) (f : ends.View) (x : FrontAnswer) → v.stage ≡ stage.EndGrant page → f.stage ≡ s → v.state ≡ state.Closing → IsSome v.port → FrontOrdered v.stage v f.shape.order
    → is_broken s ≡ true → Follows v (followed (ask.EndGrant page) (ring_step_at s f x).stage idle v x) (ring_step_at s f x).stage f.shape.order
broken_ends page (ring.Broken word) v idle f x here at_stage own port ordered is =
    rw at_stage (record { goes = rw here (own, inr refl, port); closing = refl; own = refl; ordered = ordered })
broken_ends page s v idle f x here at_stage own port ordered is = absurd (true≢false (sym is))

-- one that has its port has agreed the order of its ring
pub with_port : (port : Option ℕ) (wished offered n : ℕ) → IsSome port → PortOrdered port wished offered n → IsAgreed wished offered n
with_port None wished offered n some ordered = absurd (true≢false (sym some))
with_port (Some port) wished offered n some ordered = ordered

-- the port was closed
closed_follows : (v : FrontView) (idle : Bool) (f : ends.View) (x : FrontAnswer) → due v idle ≡ stage.ClosePort → v.state ≡ state.Closing → IsAgreed v.order v.features.order f.shape.order → IsAnswer (ring_ask_at ring.ClosePort f) x
    → Follows v (bus_told idle v x) ring.Left f.shape.order
closed_follows v idle f answer.Done e own agreed allowed =
    subst (FollowsTo v ring.Left _) (sym (told_at stage.ClosePort v idle answer.Done e)) (record { goes = (own, refl, refl); closing = refl; own = refl; ordered = inr agreed })
closed_follows v idle f x e own agreed allowed = absurd allowed

-- a front that is through waits in its loop
through_loops : (f : ends.View) (r : Option Request) (x : FrontAnswer) → is_through f ≡ true → f.stage ≡ ring.Loop → r ≡ None → IsAnswer (loop_ask f r) x → (loop_step f r x).stage ≡ ring.Loop
through_loops f (Some r) x through here none allowed = absurd (cc)
through_loops f None x through here none allowed = by_answer x (waits (f.ring.asleep || is_through f) _ (elim f.ring.asleep as (λ b. (b || is_through f) ≡ true) [ true ↦ refl | false ↦ through ]) allowed)
  where
    waits : (b : Bool) (a : FrontAsk) → b ≡ true → IsAnswer (if b then front_ask.Wait else a) x → IsAnswer front_ask.Wait x
    waits true a is allowed = allowed
    waits false a is allowed = absurd (true≢false (sym is))

    by_answer : (x : FrontAnswer) → IsAnswer front_ask.Wait x → (loop_step f None x).stage ≡ ring.Loop
    by_answer answer.Event allowed = here
    by_answer (answer.Watched path) allowed = here
    by_answer x allowed = absurd allowed

no_request : (requests : List Request) (waiting : ℕ) → (length requests == 0) ≡ true → (if waiting == 0 then None else slice_get requests (length requests - waiting)) ≡ None
no_request [] waiting none = by_test (waiting == 0)
  where
    by_test : (b : Bool) → (if b then None else (let none : List Request = [] in slice_get none (0 - waiting))) ≡ None
    by_test true = refl
    by_test false = refl
no_request (r ∷ requests) waiting none = let some = none in absurd (grind (arith, nat_tests))

made_stays : (s : FrontStage) (f : ends.View) (x : FrontAnswer) → f.stage ≡ s → is_made s ≡ true → is_through f ≡ true → IsAnswer (ring_ask_at s f) x → is_made (ring_step_at s f x).stage ≡ true
made_stays ring.Initialised f x here made through allowed = ap is_made here
made_stays ring.Loop f x here made through allowed =
    ap is_made (through_loops f (ends.next_request f) x through here (no_request f.requests f.waiting (both_true f.closing (length f.requests == 0) through).1) allowed)
made_stays s f x here made through allowed = absurd (true≢false (sym made))

-- the end of the ring of a front that rests waits to be connected, serves, or waits to leave
rests_on : (own : BusState) (gone : Bool) (port : Option ℕ) (f : ends.View) (x : FrontAnswer) → is_connected f.stage ≡ true → FrontRests own gone port f.stage → (own ≡ state.Closing → is_through f ≡ true)
    → (own ≡ state.Closing → gone ≡ true → ⊥) → IsAnswer (ring_ask_at f.stage f) x → FrontRests own gone port (ring_step_of f x).stage ⊎ (is_broken (ring_step_of f x).stage ≡ true)
rests_on state.Initialising gone port f x moves rests through left allowed = absurd (true≢false (sym moves ∙ ap is_connected rests.0))
rests_on state.Initialised gone port f x moves rests through left allowed = inl (stays f.stage rests.0 refl, rests.1)
  where
    stays : (s : FrontStage) → s ≡ ring.Initialised → f.stage ≡ s → (ring_step_at s f x).stage ≡ ring.Initialised
    stays s same here = rw same (here ∙ same)
rests_on state.Connected gone port f x moves rests through left allowed = by_test (is_ready (ring_step_of f x).stage) (is_broken (ring_step_of f x).stage) refl refl (up_step f x (rw rests.0 refl))
  where
    by_test : (ready broken : Bool) → is_ready (ring_step_of f x).stage ≡ ready → is_broken (ring_step_of f x).stage ≡ broken → (ready || broken) ≡ true
        → FrontRests state.Connected gone port (ring_step_of f x).stage ⊎ (is_broken (ring_step_of f x).stage ≡ true)
    by_test true broken r b up = inl (r, rests.1)
    by_test false broken r b up = inr (b ∙ up)
rests_on state.Closing false None f x moves rests through left allowed = absurd (true≢false (sym moves ∙ ap is_connected rests))
rests_on state.Closing false (Some p) f x moves rests through left allowed = inl (made_stays f.stage f x refl rests (through refl) allowed)
rests_on state.Closing true port f x moves rests through left allowed = absurd (left refl refl)
rests_on own gone port f x moves rests through left allowed = absurd rests

-- where a front that leaves rests nothing of a request is left, so that it ends its grant next
ending_unoccupied : (f : ends.View) → IsEndingPage 0 f.stage → is_through f ≡ true → is_unoccupied f ≡ true
ending_unoccupied f ending through = by_stage f.stage ending
  where
    none : length f.requests ≡ 0
    none = let zero = (both_true f.closing (length f.requests == 0) through).1 in grind (arith, nat_tests)

    by_stage : (s : FrontStage) → IsEndingPage 0 s → (length f.requests + ending_of s == 0 && is_still s) ≡ true
    by_stage (ring.RingRead page) is = rw none refl
    by_stage (ring.RingEnd page seen) is = rw none refl
    by_stage s is = absurd is

leaves_next : (v : FrontView) (f : ends.View) → v.stage ≡ stage.Rest → is_broken f.stage ≡ false → FrontFits v f → v.state ≡ state.Closing → v.gone ≡ true → due v (is_unoccupied f) ≡ stage.EndGrant 0
leaves_next v f here whole h own gone = by_port v.port refl (subst (λ (g : Bool). FrontRests state.Closing g v.port f.stage) gone (subst (λ (s : BusState). FrontRests s v.gone v.port f.stage) own (whole_rests v f here whole h)))
  where
    closing : v.closing ≡ true
    closing = sym (h.closing whole) ∙ (both_true f.closing (length f.requests == 0) (h.through own whole)).0

    by_port : (port : Option ℕ) → v.port ≡ port → FrontRests state.Closing true port f.stage → due v (is_unoccupied f) ≡ stage.EndGrant 0
    by_port None p rests = absurd rests
    by_port (Some n) p rests =
        let idle = ending_unoccupied f rests (h.through own whole) in
        rests_due v (is_unoccupied f) true here (rw (closing, idle) refl) ∙ rw (own, gone, p) refl

-- one that is closed or broken reads it no more
pub over_follows : (b : FrontBusStage) (broken : Bool) (v : FrontView) (idle : Bool) (x : FrontAnswer) (r : FrontStage) (n : ℕ) → v.stage ≡ b → due v idle ≡ b
    → ((path : List ℕ) → settled idle (step_at b (at b v) idle (answer.Watched path)) ≡ at b v) → Follows v v r n → Follows v (woken broken idle v x) r n
over_follows b true v idle x r n here e same unmoved = unmoved
over_follows b false v idle (answer.Watched path) r n here e same unmoved =
    subst (FollowsTo v r n) (sym (told_at b v idle (answer.Watched path) e ∙ (same path ∙ ap (λ (s : FrontBusStage). at s v) (sym here)))) unmoved
over_follows b false v idle x r n here e same unmoved = unmoved

-- its end of the ring moves while the front rests
pub rest_follows : (v : FrontView) (f : ends.View) (x : FrontAnswer) → v.stage ≡ stage.Rest → due v (is_unoccupied f) ≡ stage.Rest → FrontFits v f → is_connected f.stage ≡ true → IsAnswer (ring_ask_at f.stage f) x
    → Follows v (woken (is_broken (ring_step_of f x).stage) (is_unoccupied f) v x) (ring_step_of f x).stage f.shape.order
rest_follows v f x here e h moves allowed =
    let goes : FrontGoesWith stage.Rest v f.stage = rw here at h.goes in
    woken_follows (is_broken (ring_step_of f x).stage) v (is_unoccupied f) x (ring_step_of f x).stage f.shape.order here e (rw here at h.ordered) (by_test (is_broken f.stage) refl) (λ whole. whole)
  where
    by_test : (b : Bool) → is_broken f.stage ≡ b → FrontRests v.state v.gone v.port (ring_step_of f x).stage ⊎ (is_broken (ring_step_of f x).stage ≡ true)
    by_test true is = inr (broken_step f x is)
    by_test false whole =
        rests_on v.state v.gone v.port f x moves (whole_rests v f here whole h) (λ own. h.through own whole) (λ own gone. let ends : stage.Rest ≡ stage.EndGrant 0 = sym e ∙ leaves_next v f here whole h own gone in absurd (cc)) allowed

-- and while the negotiation asks it to make the ring, or to leave it
pub begun_follows : (b : FrontBusStage) (s : FrontStage) (v : FrontView) (idle : Bool) (f : ends.View) (x : FrontAnswer) → v.stage ≡ b → f.stage ≡ s → due v idle ≡ b → FrontOrdered b v f.shape.order → FrontGoesWith b v s
    → (b ≡ stage.Rest → Follows v (followed ask.Wait (ring_step_at s f x).stage idle v x) (ring_step_at s f x).stage f.shape.order) → speaks (ask_at b v) ≡ false → ring_moves (ask_at b v) s ≡ true
    → IsAnswer (ring_ask_at s f) x → Follows v (followed (ask_at b v) (ring_step_at s f x).stage idle v x) (ring_step_at s f x).stage f.shape.order
begun_follows stage.Rest s v idle f x here at_stage e ordered goes rests quiet moves allowed = rests refl
begun_follows (stage.RingWord word) s v idle f x here at_stage e ordered goes rests quiet moves allowed =
    rw goes.2 (word_follows word v idle f x e goes.0 goes.1 goes.3 ordered (rw goes.2 at allowed))
begun_follows (stage.Grant page) s v idle f x here at_stage e ordered goes rests quiet moves allowed = grant_follows page s v idle f x here e goes.0 goes.2 ordered goes.1 allowed
begun_follows stage.NewPort s v idle f x here at_stage e ordered goes rests quiet moves allowed = rw goes.1 (port_follows v idle f x e goes.0 ordered (rw goes.1 at allowed))
begun_follows (stage.EndGrant page) s v idle f x here at_stage e ordered goes rests quiet moves allowed = by_port v.port refl goes.2 ordered goes.1
  where
    by_port : (port : Option ℕ) → v.port ≡ port → IsSome port → PortOrdered port v.order v.features.order f.shape.order → IsEndingPage page s ⊎ (is_broken s ≡ true)
        → Follows v (followed (ask.EndGrant page) (ring_step_at s f x).stage idle v x) (ring_step_at s f x).stage f.shape.order
    by_port None p some agreed ending = absurd (true≢false (sym some))
    by_port (Some n) p some agreed (inl is) =
        end_follows page s v idle f x n e goes.0 p agreed (rw (here, p) agreed) (λ r ending. let next : FrontGoesWith (stage.EndGrant page) v r = (goes.0, ending, goes.2) in rw here next) is allowed
    by_port (Some n) p some agreed (inr is) = broken_ends page s v idle f x here at_stage goes.0 goes.2 (rw (here, p) agreed) is
begun_follows stage.ClosePort s v idle f x here at_stage e ordered goes rests quiet moves allowed = rw goes.1 (closed_follows v idle f x e goes.0 (with_port v.port v.order v.features.order f.shape.order goes.2 ordered) (rw goes.1 at allowed))
begun_follows stage.Closed s v idle f x here at_stage e ordered goes rests quiet moves allowed =
    rw goes.1 (over_follows stage.Closed (is_broken f.stage) v idle x f.stage f.shape.order here e (λ path. refl)
    (record { goes = rw here (goes.0, at_stage ∙ goes.1, goes.2); closing = refl; own = refl; ordered = rw here ordered }))
begun_follows (stage.Broken word) s v idle f x here at_stage e ordered goes rests quiet moves allowed =
    let is : is_broken (ring_step_at s f x).stage ≡ true = subst (λ (t : FrontStage). is_broken (ring_step_at t f x).stage ≡ true) at_stage (broken_step f x (ap is_broken at_stage ∙ goes)) in
    subst (λ (b : Bool). Follows v (woken b idle v x) (ring_step_at s f x).stage f.shape.order) (sym is) (record { goes = rw here is; closing = refl; own = refl; ordered = rw here ordered })
begun_follows stage.Start s v idle f x here at_stage e ordered goes rests quiet moves allowed = absurd (true≢false quiet)
begun_follows stage.ReadState s v idle f x here at_stage e ordered goes rests quiet moves allowed = absurd (true≢false quiet)
begun_follows (stage.ReadFeature key) s v idle f x here at_stage e ordered goes rests quiet moves allowed = absurd (true≢false quiet)
begun_follows (stage.Publish key) s v idle f x here at_stage e ordered goes rests quiet moves allowed = absurd (true≢false quiet)
begun_follows (stage.ReadFact key) s v idle f x here at_stage e ordered goes rests quiet moves allowed = absurd (true≢false quiet)
begun_follows (stage.WriteState own) s v idle f x here at_stage e ordered goes rests quiet moves allowed = absurd (true≢false quiet)
begun_follows b s v idle f x here at_stage e ordered goes rests quiet moves allowed = absurd goes

-- data are left after a suspend only where the negotiation begins anew
ending_none : (page : ℕ) (r : FrontStage) → IsEndingPage page r → is_left r ≡ true → ⊥
ending_none page (ring.LeftData n) ending left = ending
ending_none page r ending left = true≢false (sym left)

rests_none : (own : BusState) (gone : Bool) (port : Option ℕ) (r : FrontStage) → FrontRests own gone port r → is_left r ≡ true → ⊥
rests_none state.Initialising gone port r rests left = true≢false (sym left ∙ ap is_left rests.0)
rests_none state.Initialised gone port r rests left = true≢false (sym left ∙ ap is_left rests.0)
rests_none state.Connected gone port r rests left = ready_none r rests.0 left
  where
    ready_none : (r : FrontStage) → is_ready r ≡ true → is_left r ≡ true → ⊥
    ready_none (ring.LeftData n) ready left = true≢false (sym ready)
    ready_none r ready left = true≢false (sym left)
rests_none state.Closing false None r rests left = true≢false (sym left ∙ ap is_left rests)
rests_none state.Closing false (Some port) r rests left = made_none r rests left
  where
    made_none : (r : FrontStage) → is_made r ≡ true → is_left r ≡ true → ⊥
    made_none (ring.LeftData n) made left = true≢false (sym made)
    made_none r made left = true≢false (sym left)
rests_none state.Closing true (Some port) r rests left = ending_none 0 r rests left
rests_none own gone port r rests left = rests

granting_none : (page : ℕ) (r : FrontStage) → IsGranting page r → is_left r ≡ true → ⊥
granting_none page (ring.LeftData n) granting left = granting
granting_none page r granting left = true≢false (sym left)

broken_none : (r : FrontStage) → is_broken r ≡ true → is_left r ≡ true → ⊥
broken_none (ring.LeftData n) is left = true≢false (sym is)
broken_none r is left = true≢false (sym left)

bare_none : (r : FrontStage) → is_bare r ≡ true → is_left r ≡ true → ⊥
bare_none (ring.LeftData n) bare left = true≢false (sym bare)
bare_none r bare left = true≢false (sym left)

pub left_starts : (b : FrontBusStage) (v : FrontView) (r : FrontStage) → FrontGoesWith b v r → is_left r ≡ true → b ≡ stage.Start
left_starts stage.Start v r goes left = refl
left_starts stage.Rest v r goes left = elim goes [ inl rests ↦ absurd (rests_none v.state v.gone v.port r rests left) | inr is ↦ absurd (broken_none r is left) ]
left_starts stage.ReadState v r goes left = absurd (rests_none v.state v.gone v.port r goes left)
left_starts (stage.ReadFeature key) v r goes left = absurd (true≢false (sym left ∙ ap is_left goes.1))
left_starts (stage.RingWord word) v r goes left = absurd (true≢false (sym left ∙ ap is_left goes.2))
left_starts (stage.Grant page) v r goes left = absurd (granting_none page r goes.1 left)
left_starts stage.NewPort v r goes left = absurd (true≢false (sym left ∙ ap is_left goes.1))
left_starts (stage.Publish key) v r goes left = absurd (true≢false (sym left ∙ ap is_left goes.1))
left_starts (stage.ReadFact key) v r goes left = absurd (true≢false (sym left ∙ ap is_left goes.1))
left_starts (stage.WriteState state.Initialised) v r goes left = absurd (true≢false (sym left ∙ ap is_left goes.1))
left_starts (stage.WriteState state.Connected) v r goes left = absurd (true≢false (sym left ∙ ap is_left goes.1))
left_starts (stage.WriteState state.Closed) v r goes left = absurd (bare_none r goes.1 left)
left_starts (stage.WriteState own) v r goes left = absurd goes
left_starts (stage.EndGrant page) v r goes left = elim goes.1 [ inl is ↦ absurd (ending_none page r is left) | inr is ↦ absurd (broken_none r is left) ]
left_starts stage.ClosePort v r goes left = absurd (true≢false (sym left ∙ ap is_left goes.1))
left_starts stage.Closed v r goes left = absurd (true≢false (sym left ∙ ap is_left goes.1))
left_starts (stage.Broken word) v r goes left = absurd (broken_none r goes left)
left_starts b v r goes left = absurd goes

pub none_left : (b : FrontBusStage) (v : FrontView) (r : FrontStage) → FrontGoesWith b v r → (b ≡ stage.Start → ⊥) → is_left r ≡ false
none_left b v r goes other = by_test (is_left r) refl
  where
    by_test : (c : Bool) → is_left r ≡ c → c ≡ false
    by_test true left = absurd (other (left_starts b v r goes left))
    by_test false none = refl

-- else the end of the ring of a negotiation that waits has the move once it is connected
pub connected_moves : (r : FrontStage) → is_left r ≡ false → ring_moves ask.Wait r ≡ true → is_connected r ≡ true
connected_moves (ring.LeftData n) none moves = absurd (true≢false none)
connected_moves r none moves = moves

pub left_moves : (r : FrontStage) → is_left r ≡ true → ring_moves ask.Wait r ≡ true
left_moves (ring.LeftData n) left = refl
left_moves r left = absurd (true≢false (sym left))

pub connected_still : (r : FrontStage) → ring_moves ask.Wait r ≡ false → is_connected r ≡ false
connected_still (ring.LeftData n) still = refl
connected_still r still = still
