-- The back takes the terms of its front, which are the front's own: all else stays as it is.
use Rattle.std.proofs.Common.{◌<◌, ◌≡◌, ℕ, ◌+◌, ◌-◌, ◌^◌, Bool, true, false, List, [], ◌∷◌, length, refl, ap, ◌∙◌, subst, arith}
use Rattle.std.specs.List.{range_with_len}
use Rattle.blk_base.specs.Options.{Options}
use Rattle.schedule_text.specs.declared.line.Line.TheVariants.{Move}
use Rattle.pipeline_laws.specs.Pipeline.{Pipeline}
use Rattle.ring_words.specs.Shape.{Shape, entries_of}
use Rattle.event_channel.specs.declared.channels.PortState.{PortState}
use Rattle.blk_front.specs.Submit.{is_connected, ending_of}
use Rattle.blk_back.specs.declared.stage.BackStage.TheVariants as back
use Rattle.blk_back.specs.Step.{attached}
use Rattle.split_model.specs.World.{World}
use Rattle.split_model.specs.Happening.{BackAttaches, layout_read, happens, lines_at}
use Rattle.split_model.proofs.Shapes.{attaches_waiting}
use Rattle.split_model.proofs.Attaching.{attach_cases}
use Rattle.machine_pipeline.specs.Allowed.{AreTerms}
use Rattle.machine_pipeline.specs.Step.{IsSame}
use Rattle.machine_pipeline.proofs.Flow.{Flow}
use Rattle.machine_pipeline.proofs.Holds.{Holds, PortsAt, AreIndices}
use Rattle.machine_pipeline.proofs.Turns.{Goes, goes_by}
use Rattle.machine_pipeline.proofs.Keyed.{asides_do}
use Rattle.machine_pipeline.proofs.Slots.{some_pages}
use Rattle.machine_pipeline.proofs.BackQuiet.{slots_at}
use Rattle.machine_pipeline.proofs.JobMoves.{stays}

-- before a port is bound in this epoch, so many were made before it
made_first : (before : ℕ) (connected : Bool) (made : ℕ) (ports : List PortState) → PortsAt before connected false made ports → made - length ports ≡ before
made_first before false made ports at = omega (arith, at.0, ap length at.1)
made_first before true made ports at = omega (arith, at.0, ap length at.1)

takes : (config : Options) (w : World) (g : Flow) (d : Pipeline) (shape : Shape) (grefs : List ℕ) (port : ℕ) → AreTerms w shape grefs port → Holds config w g d w.front.stage back.InitWait
    → Goes config (Move (layout_read w) ∷ []) (record { front = w.front; back = attached shape grefs port w.back; under = w.under }) d
takes config w g d shape grefs port terms h = goes_by {g = g} (asides_do d (Move (layout_read w) ∷ []) (refl, tt))
    (assumption (
      indices,
      own,
      ap (λ (s : Shape). entries_of s.order) own,
      terms.grefs_are ∙ ap (λ (s : Shape). range_with_len 8 (2 ^ s.order)) own,
      terms.port_is ∙ ap (λ (n : ℕ). n + 1) (made_first g.before (is_connected w.front.stage) w.under.channels.made w.under.channels.ports h.ports),
      unmapped,
      slots_at g.shape g.start g.fetched g.pushed g.taken g.replied g.series g.replies w.under.pages w.front.stage back.InitWait back.MapRing (λ rep t i lt. cc) h.slots,
    ))
  where
    indices : AreIndices g w.front.ring.indices (record { entries = entries_of shape.order; prod = w.back.ring.indices.prod; cons = w.back.ring.indices.prod })
        w.front.ring.seen w.back.ring.seen w.back.fetched w.front.last w.front.waiting (length w.front.requests) (ending_of w.front.stage)
    indices = let none : g.fetched ≡ 0 = h.back_at in omega (arith, h.indices)

    own : shape ≡ g.shape
    own = terms.shape_is ∙ h.shaped.known

    unmapped : length w.back.pages < 2 ^ g.shape.order
    unmapped = let none : length w.back.pages ≡ 0 = h.paged.mapped in omega (arith, some_pages g.shape.order)

-- it takes them where it waits for them, and nothing happens elsewhere
pub attaches_goes : (config : Options) (w : World) (g : Flow) (d : Pipeline) (shape : Shape) (grefs : List ℕ) (port : ℕ) → AreTerms w shape grefs port → Holds config w g d w.front.stage w.back.stage
    → Goes config (lines_at w (BackAttaches shape grefs port)) (happens w (BackAttaches shape grefs port)) d
attaches_goes config w g d shape grefs port terms h = attach_cases (λ v shown. Goes config shown (record { front = w.front; back = v; under = w.under }) d) w shape grefs port
    (λ may layout says. takes config w g d shape grefs port terms (subst (Holds config w g d w.front.stage) (attaches_waiting shape grefs w.back may) h))
    (stays IsSame config w g d (λ a b same. same) h)
