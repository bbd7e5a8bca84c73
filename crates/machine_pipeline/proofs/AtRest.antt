-- Where all is quiet, whether the ends serve or have left: the ring is read, and nothing is left.
use Rattle.std.proofs.Common.{◌≡◌, ◌≢◌, ℕ, ◌⊎◌, inl, inr, not, Bool, true, [], length, refl, ap, sym, true≢false}
use Rattle.blk_base.specs.Options.{Options}
use Rattle.blk_front.specs.declared.stage.FrontStage.{FrontStage}
use Rattle.blk_front.specs.declared.stage.FrontStage.TheVariants as front
use Rattle.blk_front.specs.View.{View}
use Rattle.blk_front.specs.Ask.{ask_at}
use Rattle.blk_front.specs.Submit.{is_led, is_wait, is_idle}
use Rattle.blk_back.specs.declared.stage.BackStage.{BackStage}
use Rattle.split_model.specs.World.{World, is_quiet}
use Rattle.machine_pipeline.proofs.Flow.{has_ring}
use Rattle.machine_pipeline.proofs.Over.{IsDrained, IsLeaving}
use Rattle.machine_pipeline.proofs.Drained.{drained_at}
use Rattle.line_text.proofs.Both.{both_true}
use Rattle.machine_pipeline.proofs.Together.{IsStanding}
use Rattle.machine_pipeline.proofs.Quiet.{AreQuiet, all_quiet, IsCaughtUp, caught_up_at}
use Rattle.std.proofs.lemmas.List.{nil_from_length}

-- a front that made its port in this epoch left no entry and no response unread; it is in its loop or closed, and no request and no job is left
pub record IsIdleRing (w : World) : Type 0 where
  pub ring : w.under.channels.ports ≢ [] → IsDrained w.under.pages w.front.ring.indices.cons w.back.ring.indices.cons
  pub front_at : (w.front.stage ≡ front.Loop) ⊎ (w.front.stage ≡ front.Closed)
  pub no_job : w.back.jobs.works ≡ []
  pub no_request : w.front.requests ≡ []

-- after the halt a front that waits, and not for its negotiation, is in its loop or closed
waits_at : (connected : Bool) (made order : ℕ) (w : World) (b : BackStage) (v : View) (s : FrontStage) → IsLeaving connected made order w.under.pages w.back.pages b s → not (is_led s) ≡ true → is_wait (ask_at s v) ≡ true → (s ≡ front.Loop) ⊎ (s ≡ front.Closed)
waits_at connected made order w b v front.Loop p free waits = inl refl
waits_at connected made order w b v front.Closed p free waits = inr refl
waits_at connected made order w b v front.Initialised p free waits = absurd (true≢false (sym free))
waits_at connected made order w b v front.Left p free waits = absurd (true≢false (sym free))
waits_at connected made order w b v (front.RingWord k) p free waits = absurd (true≢false (sym waits))
waits_at connected made order w b v (front.RingRead page) p free waits = absurd (true≢false (sym waits))
waits_at connected made order w b v (front.RingEnd page seen) p free waits = absurd (true≢false (sym waits))
waits_at connected made order w b v front.ClosePort p free waits = absurd (true≢false (sym waits))
waits_at connected made order w b v s p free waits = absurd p

pub quiet_rests : (config : Options) (w : World) → is_quiet w ≡ true → IsStanding config w → IsIdleRing w
quiet_rests config w quiet stands = elim stands.kept [
  | inl held ↦
      let rest : IsCaughtUp w = caught_up_at config w held.0 stands.pipeline quiet (record { safe = stands.safe; holds = held.1 }) in
      record {
        ring = λ made. drained_at config w held.0 stands.pipeline w.front.stage w.back.stage held.1 (ap has_ring rest.looping) rest.no_request;
        front_at = inl rest.looping;
        no_job = nil_from_length w.back.jobs.works rest.no_job;
        no_request = nil_from_length w.front.requests rest.no_request;
      }
  | inr over ↦
      let parts : AreQuiet (is_idle w.front) _ _ _ = all_quiet _ _ _ _ quiet in
      let waiting = both_true (not (is_led w.front.stage)) (is_wait (ask_at w.front.stage w.front)) parts.front in
      record {
        ring = λ some. over.ring (λ none. some (nil_from_length w.under.channels.ports none));
        front_at = waits_at stands.pipeline.front.connected (length w.under.channels.ports) w.front.shape.order w w.back.stage w.front w.front.stage over.front_at waiting.0 waiting.1;
        no_job = over.no_job;
        no_request = over.no_request;
      }
]
