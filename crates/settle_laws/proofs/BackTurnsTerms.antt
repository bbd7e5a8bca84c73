-- While the back waits for the terms of its front, that isn't connected.
use Rattle.std.proofs.Common.{inl, inr, ◌≡◌, ◌∙◌, ap, sym, true, false, true≢false, refl}
use Rattle.blk_front.specs.declared.stage.FrontStage.{FrontStage}
use Rattle.blk_front.specs.declared.stage.FrontStage.TheVariants as front_ring
use Rattle.blk_front.specs.Submit.{is_ready}
use Rattle.blk_back.specs.declared.stage.BackStage.{BackStage}
use Rattle.blk_back.specs.declared.stage.BackStage.TheVariants as ring
use Rattle.blk_back.specs.Ask.{is_led}
use Rattle.vbd_model.specs.World.{World}
use Rattle.vbd_laws.proofs.FitBackRing.{is_past}
use Rattle.vbd_laws.proofs.NegotiatedEarly.{is_early, IsOnItsWay}

early_unready : (s : FrontStage) → is_early s ≡ true → is_ready s ≡ false
early_unready (front_ring.RingWord k) is = refl
early_unready (front_ring.RingFrame page) is = refl
early_unready (front_ring.RingFence page) is = refl
early_unready (front_ring.RingFlags page) is = refl
early_unready front_ring.NewPort is = refl
early_unready front_ring.Initialised is = refl
early_unready (front_ring.LeftData n) is = refl
early_unready front_ring.Closed is = refl
early_unready s is = absurd (true≢false (sym is))

past_unled : (s : BackStage) → is_past s ≡ true → is_led s ≡ false
past_unled ring.InitWait is = absurd (true≢false (sym is))
past_unled s is = refl

pub led_unready : (w : World) → IsOnItsWay w → is_led w.rings.back.stage ≡ true → is_ready w.rings.front.stage ≡ false
led_unready w (inl b) led = early_unready w.rings.front.stage b.early
led_unready w (inr (inl b)) led = absurd (true≢false (sym led ∙ ap is_led b.ring))
led_unready w (inr (inr (inl h))) led = absurd (true≢false (sym led ∙ ap is_led h.ring))
led_unready w (inr (inr (inr p))) led = absurd (true≢false (sym led ∙ past_unled w.rings.back.stage p.past))
