-- A backend that is to keep no mapping does what it would without.
use Rattle.std.proofs.Common.{◌≡◌, ℕ, Bool, true, false, if◌then◌else◌, refl, sym, ap, ◌∙◌}
use Rattle.std.specs.Prelude.{Option, Some, None}
use Rattle.blk_base.specs.declared.ask.BackAnswer.{BackAnswer}
use Rattle.blk_back.specs.View as ring
use Rattle.blk_back.specs.Keeping as keeping
use Rattle.blk_back.specs.Keeping.{KeepsNone}
use Rattle.blk_back.proofs.Hands.{step_kept_at, halted_kept, attached_kept}
use Rattle.blk_back.proofs.Plain.{plain_step, plain_halts, plain_keeps, job_stepped}
use Rattle.xenbus_state.specs.declared.back.BackBusAsk.{BackBusAsk}
use Rattle.xenbus_state.specs.declared.back.BackBusAsk.TheVariants as bus_ask
use Rattle.xenbus_state.specs.declared.keys.FrontKey.{FrontKey}
use Rattle.xenbus_state.specs.declared.keys.FrontKey.TheVariants as key
use Rattle.xenbus_state.specs.declared.table.BackHalt.{BackHalt}
use Rattle.xenbus_state.specs.BackView.{BackView}
use Rattle.xenbus_state.specs.BackStep as bus_step
use Rattle.vbd_back.specs.View.{View}
use Rattle.vbd_back.specs.Ask.{bus_ask_of, bus_moves, ring_moves}
use Rattle.vbd_back.specs.Step.{ring_halt, shape_read, reads_layout, ring_led, halt_of, heard_by, spoken, ring_moved, ring_step, step_of, job_step}
use Rattle.vbd_back.specs.Keeping.{KeepingView, keeps_grants, ring_told, ring_led_keeping, spoken_keeping, ring_step_keeping, step_keeping_at, step_keeping, job_step_keeping, IsPlain}

-- it is said that no mapping may be kept, as it was
keeps_plainly : (b : Bool) (r : ring.View) → KeepsNone r → (if b then keeping.keeps 0 r else r) ≡ r
keeps_plainly true r none = plain_keeps r none
keeps_plainly false r none = refl

told_plainly : (a : BackBusAsk) (b : BackView) (r : ring.View) → KeepsNone r → ring_told 0 a b r ≡ ring_led None (reads_layout a) b r
told_plainly (bus_ask.GetKey k) b r none = by_key k
  where
    by_key : (k : FrontKey) → ring_told 0 (bus_ask.GetKey k) b r ≡ ring_led None (reads_layout (bus_ask.GetKey k)) b r
    by_key key.Protocol = refl
    by_key key.FeaturePersistent = keeps_plainly (keeps_grants b) r none
    by_key k = refl
told_plainly a b r none = refl

led_plainly : (o : Option BackHalt) (a : BackBusAsk) (b : BackView) (r : ring.View) → KeepsNone r → ring_led_keeping 0 o a b r ≡ ring_led o (reads_layout a) b r
led_plainly (Some why) a b r none = plain_halts (ring_halt why) r none
led_plainly None a b r none = told_plainly a b r none

spoken_plainly : (v : View) (a : BackAnswer) → KeepsNone v.ring → spoken_keeping 0 v a ≡ spoken v a
spoken_plainly v a none =
    ap (λ (r : ring.View). heard_by r v a)
    (led_plainly (halt_of v a) (bus_ask_of v) (bus_step.step_of v.bus a) v.ring none)

moves_plainly : (b : Bool) (ask : BackBusAsk) (v : View) (a : BackAnswer) → KeepsNone v.ring → ring_step_keeping b ask v a ≡ ring_step b ask v a
moves_plainly true ask v a none = ap (λ (r : ring.View). ring_moved ask r v a) (plain_step v.ring a none)
moves_plainly false ask v a none = refl

step_plainly : (k : KeepingView) (a : BackAnswer) → IsPlain k → step_keeping k a ≡ record k { ends = step_of k.ends a }
step_plainly k a plain =
    let v : View = k.ends in
    let ask : BackBusAsk = bus_ask_of v in
    ap (λ (most : ℕ). record k { ends = step_keeping_at most ask v a }) plain.never
    ∙ (ap (λ (w : View). record k { ends = if bus_moves ask v.ring.stage then w else ring_step_keeping (ring_moves ask v.ring.stage) ask v a }) (spoken_plainly v a plain.ring)
    ∙ ap (λ (w : View). record k { ends = if bus_moves ask v.ring.stage then spoken v a else w }) (moves_plainly (ring_moves ask v.ring.stage) ask v a plain.ring))

-- and none is kept after it
led_none : (o : Option BackHalt) (reads : Bool) (b : BackView) (r : ring.View) → KeepsNone r → KeepsNone (ring_led o reads b r)
led_none (Some why) reads b r none = halted_kept (ring_halt why) r ∙ none
led_none None true b r none = attached_kept (shape_read b) b.grefs b.terms.port r ∙ none
led_none None false b r none = none

stepped_none : (v : View) (a : BackAnswer) → KeepsNone v.ring → KeepsNone (step_of v a).ring
stepped_none v a none = by_mover (bus_moves (bus_ask_of v) v.ring.stage) (ring_moves (bus_ask_of v) v.ring.stage)
  where
    by_mover : (b m : Bool) → KeepsNone (if b then spoken v a else ring_step m (bus_ask_of v) v a).ring
    by_mover true m = led_none (halt_of v a) (reads_layout (bus_ask_of v)) (bus_step.step_of v.bus a) v.ring none
    by_mover false true = step_kept_at v.ring.stage v.ring a ∙ none
    by_mover false false = none

-- one that was to keep none came to what it would without, and is to keep none still
pub record CamePlainly (new : KeepingView) (wanted : View) : Type 0 where
  pub is : new.ends ≡ wanted
  pub plain : IsPlain new

pub stepped : (k new : KeepingView) (a : BackAnswer) → IsPlain k → new ≡ step_keeping k a → CamePlainly new (step_of k.ends a)
stepped k new a plain e =
    let is : new ≡ record k { ends = step_of k.ends a } = e ∙ step_plainly k a plain in
    record { is = ap (λ (l : KeepingView). l.ends) is; plain = rw is (record { never = plain.never; ring = stepped_none k.ends a plain.ring }) }

pub job_came : (k new : KeepingView) (number : ℕ) (a : BackAnswer) → IsPlain k → new ≡ job_step_keeping k number a → CamePlainly new (job_step k.ends number a)
job_came k new number a plain e =
    let is = job_stepped k.ends.ring new.ends.ring number a plain.ring (ap (λ (l : KeepingView). l.ends.ring) e) in
    record {
      is = ap (λ (l : KeepingView). l.ends) e ∙ ap (λ (r : ring.View). record k.ends { ring = r }) (sym (ap (λ (l : KeepingView). l.ends.ring) e) ∙ is.is);
      plain = record { never = ap (λ (l : KeepingView). l.most) e ∙ plain.never; ring = is.keeps_none };
    }
