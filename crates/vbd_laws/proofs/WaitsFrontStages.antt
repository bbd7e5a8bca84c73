-- What the stages of the front's end of the ring, and those of its negotiation, are to a front that waits.
use Rattle.std.proofs.Common.{◌+◌, ◌&&◌, ◌≡◌, ◌∙◌, ap, sym, refl, Bool, true, false, true≢false, if◌then◌else◌, List, [], ◌∷◌, length, arith}
use Rattle.std.specs.Prelude.{◌-◌, None, ◌==◌, slice_get}
use Rattle.std.proofs.lemmas.Bool.Decides.{nat_tests}
use Rattle.line_text.proofs.Both.{both_true}
use Rattle.blk_front.specs.declared.stage.FrontStage.{FrontStage}
use Rattle.blk_front.specs.declared.stage.FrontStage.TheVariants as ring_stage
use Rattle.blk_front.specs.declared.request.Request.{Request}
use Rattle.blk_front.specs.View as ends
use Rattle.blk_front.specs.Suspend.{is_left}
use Rattle.blk_front.specs.Ask as front_ring
use Rattle.blk_front.specs.Submit.{is_ready, is_connected, ending_of}
use Rattle.xenbus_state.specs.declared.front.FrontBusAsk.TheVariants as bus_ask
use Rattle.vbd_model.specs.Fit.{IsEndingPage}
use Rattle.vbd_front.specs.View as front_view
use Rattle.vbd_front.specs.Ask as front

-- a stage that isn't broken
pub unlike : {A : Type 0} (r s : FrontStage) → r ≡ s → front_view.is_broken s ≡ false → front_view.is_broken r ≡ true → A
unlike r s same whole is = absurd (true≢false (sym is ∙ (ap front_view.is_broken same ∙ whole)))

pub none_next : (f : ends.View) → (length f.requests == 0) ≡ true → ends.next_request f ≡ None
none_next f none = by_waiting (f.waiting == 0) f.requests none
  where
    by_waiting : (b : Bool) (requests : List Request) → (length requests == 0) ≡ true → (if b then None else slice_get requests (length requests - f.waiting)) ≡ None
    by_waiting true requests none = refl
    by_waiting false [] none = refl
    by_waiting false (r ∷ requests) none = absurd (grind (arith, nat_tests))

pub loops_ready : (s : FrontStage) → is_ready s ≡ true → front_view.is_still s ≡ true → s ≡ ring_stage.Loop
loops_ready ring_stage.Loop ready still = refl
loops_ready (ring_stage.RingWord k) ready still = absurd (true≢false (sym ready))
loops_ready ring_stage.Initialised ready still = absurd (true≢false (sym ready))
loops_ready (ring_stage.RingRead page) ready still = absurd (true≢false (sym ready))
loops_ready (ring_stage.RingEnd page seen) ready still = absurd (true≢false (sym ready))
loops_ready ring_stage.ClosePort ready still = absurd (true≢false (sym ready))
loops_ready (ring_stage.KeptRead frame) ready still = absurd (true≢false (sym ready))
loops_ready (ring_stage.KeptEnd frame seen) ready still = absurd (true≢false (sym ready))
loops_ready ring_stage.Left ready still = absurd (true≢false (sym ready))
loops_ready ring_stage.Closed ready still = absurd (true≢false (sym ready))
loops_ready s ready still = absurd (true≢false (sym still))

ready_connected : (s : FrontStage) → is_ready s ≡ true → is_connected s ≡ true
ready_connected (ring_stage.RingWord n) is = absurd (true≢false (sym is))
ready_connected (ring_stage.RingFrame n) is = absurd (true≢false (sym is))
ready_connected (ring_stage.RingFence n) is = absurd (true≢false (sym is))
ready_connected (ring_stage.RingFlags n) is = absurd (true≢false (sym is))
ready_connected ring_stage.NewPort is = absurd (true≢false (sym is))
ready_connected (ring_stage.LeftData n) is = absurd (true≢false (sym is))
ready_connected s is = refl

-- and has the move where its negotiation rests
pub ready_moves : (s : FrontStage) → is_ready s ≡ true → front.ring_moves bus_ask.Wait s ≡ true
ready_moves (ring_stage.LeftData n) is = absurd (true≢false (sym is))
ready_moves s is = ready_connected s is

pub broken_unleft : (s : FrontStage) → front_view.is_broken s ≡ true → is_left s ≡ false
broken_unleft (ring_stage.LeftData n) is = absurd (true≢false (sym is))
broken_unleft s is = refl

-- once its grants are being ended nothing of a request is left
pub ending_idle : (f : ends.View) (s : FrontStage) → f.stage ≡ s → IsEndingPage 0 s → front_ring.is_through f ≡ true → front_view.is_unoccupied f ≡ true
ending_idle f s here ends through = rw here (by_stage s ends)
  where
    none : length f.requests ≡ 0
    none = let zero = (both_true f.closing (length f.requests == 0) through).1 in grind (arith, nat_tests)

    by_stage : (s : FrontStage) → IsEndingPage 0 s → (length f.requests + ending_of s == 0 && front_view.is_still s) ≡ true
    by_stage (ring_stage.RingRead page) ends = rw none refl
    by_stage (ring_stage.RingEnd page seen) ends = rw none refl
    by_stage s ends = absurd ends
