-- The indices of both ends where little of them changes.
use Rattle.std.proofs.Common.{◌≡◌, ℕ, ◌+◌, ◌^◌, ◌<◌, ◌≤◌, Bool, List, length, arith}
use Rattle.blk_base.specs.Options.{Options}
use Rattle.ring_words.specs.Ring.{Ring}
use Rattle.ring_words.specs.Shape.{entries_of}
use Rattle.blk_front.specs.declared.request.Request.{Request}
use Rattle.machine_pipeline.specs.Plain.{IsPlain}
use Rattle.machine_pipeline.proofs.Flow.{Flow, epoch_flow, wrapped}
use Rattle.machine_pipeline.proofs.Holds.{AreIndices}

-- the front saw so many responses, and so many requests' grants are being ended
pub indices_seen : (g : Flow) (whole : ℕ) (front_ring back_ring : Ring) (front_seen seen back_seen number last waiting unfinished ending ending' : ℕ)
    → seen ≡ wrapped g.start whole → g.taken ≤ whole → whole ≤ g.replied → unfinished + ending' ≤ entries_of g.shape.order
    → AreIndices g front_ring back_ring front_seen back_seen number last waiting unfinished ending
    → AreIndices (record g { front_seen = whole }) front_ring back_ring seen back_seen number last waiting unfinished ending'
indices_seen g whole front_ring back_ring front_seen seen back_seen number last waiting unfinished ending ending' saw from to room h = omega (arith, h)

-- as many responses as before
pub indices_room : (g : Flow) (front_ring back_ring : Ring) (front_seen back_seen number last waiting unfinished ending ending' : ℕ)
    → unfinished + ending' ≤ entries_of g.shape.order
    → AreIndices g front_ring back_ring front_seen back_seen number last waiting unfinished ending
    → AreIndices g front_ring back_ring front_seen back_seen number last waiting unfinished ending'
indices_room g front_ring back_ring front_seen back_seen number last waiting unfinished ending ending' room h =
    indices_seen g g.front_seen front_ring back_ring front_seen front_seen back_seen number last waiting unfinished ending ending' h.front_saw h.front_from h.front_to room h

-- the indices of both ends at the start of an epoch
pub record AreFirst (config : Options) (front_ring back_ring : Ring) (front_seen back_seen : ℕ) : Type 0 where
  pub entries : front_ring.entries ≡ entries_of config.order
  pub front_prod : front_ring.prod ≡ config.start
  pub front_cons : front_ring.cons ≡ config.start
  pub back_prod : back_ring.prod ≡ config.start
  pub back_cons : back_ring.cons ≡ config.start
  pub front_saw : front_seen ≡ config.start
  pub back_saw : back_seen ≡ config.start

-- all requests of the epoch wait, but the read whose data are told first
pub indices_epoch : (config : Options) (front_ring back_ring : Ring) (before front_seen back_seen last ending : ℕ) (submitted series : List Request) (closing : Bool) → IsPlain config
    → AreFirst config front_ring back_ring front_seen back_seen
    → length series ≤ last → last < 2 ^ 32 → length series + ending ≤ entries_of config.order
    → AreIndices (epoch_flow (record { abi = config.abi; order = config.order }) config.start before submitted series closing) front_ring back_ring front_seen back_seen 0 last (length series) (length series) ending
indices_epoch config front_ring back_ring before front_seen back_seen last ending submitted series closing plain h given few room =
    let begins : config.start ≡ wrapped config.start 0 = omega (arith, plain.start) in omega (arith, h)
