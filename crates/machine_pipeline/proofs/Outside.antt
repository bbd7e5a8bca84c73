-- What happens outside the ends, whether they serve requests or the back has halted: all goes on holding, and it is nothing to the pipeline, but for a look that finds all quiet.
use Rattle.std.proofs.Common.{◌≡◌, ◌*◌, ◌^◌, inl, inr, Bool, true, false, if◌then◌else◌, [], refl}
use Rattle.blk_base.specs.Options.{Options}
use Rattle.blk_base.specs.declared.parts.End.TheVariants as end
use Rattle.schedule_text.specs.declared.line.Line.TheVariants as lines
use Rattle.key_directory.specs.Directory.{Directory}
use Rattle.event_channel.specs.Channels.{is_bound}
use Rattle.pipeline_laws.specs.Pipeline.{Pipeline}
use Rattle.split_model.specs.World.{World}
use Rattle.split_model.specs.Safe.{IsSafe}
use Rattle.split_model.specs.Keys.{negotiated}
use Rattle.split_model.specs.Happening.{Happening, Negotiates, Notifies, Pokes, OverwritesKey, Dumps, Looks, Settles, happens, lines_at}
use Rattle.split_model.proofs.Keys.{negotiated_lines_are}
use Rattle.split_model.proofs.Overwriting.{dump_lines_are}
use Rattle.split_model.proofs.Outside.{IsOutside}
use Rattle.machine_pipeline.specs.Allowed.{IsServed}
use Rattle.machine_pipeline.specs.Step.{CallAt}
use Rattle.machine_pipeline.specs.Submissions.{submitted_at}
use Rattle.machine_pipeline.proofs.Holds.{Holds}
use Rattle.machine_pipeline.proofs.Kept.{sleep_sent}
use Rattle.machine_pipeline.proofs.Keyed.{IsAside, beside, asides_do}
use Rattle.machine_pipeline.proofs.Over.{IsKept, HasGone, gone_by}
use Rattle.machine_pipeline.proofs.Quiet.{look_goes}

-- all goes on with other keys, and with marks of which none is gone
beside_kept : (config : Options) (w : World) (d : Pipeline) (keys : Directory) (f b : Bool) → (w.under.channels.front_pending ≡ true → f ≡ true) → (w.under.channels.back_pending ≡ true → b ≡ true)
    → IsKept config w d
    → IsKept config (record { front = w.front; back = w.back; under = record w.under { channels = record w.under.channels { front_pending = f; back_pending = b }; keys = keys } }) d
beside_kept config w d keys f b front_more back_more (inl held) =
    let h : Holds config w held.0 d w.front.stage w.back.stage = held.1 in
    inl (
      held.0,
      beside config w held.0 d w.front.stage w.back.stage keys f b (sleep_sent _ front_more (λ t sends. inr (inr sends)) h.front_sleep)
          (sleep_sent _ back_more (λ t sends. inr (inr sends)) h.back_sleep) h,
    )
beside_kept config w d keys f b front_more back_more (inr over) = inr over

-- a spurious event may set a mark
set_or_kept : (bound pending : Bool) → pending ≡ true → (if bound then true else pending) ≡ true
set_or_kept true pending t = refl
set_or_kept false pending t = t

-- what an end does with the keys, a spurious event, a dump, a look; no word and no key is overwritten
pub outside_goes : (config : Options) (w : World) (d : Pipeline) (h : Happening) → IsOutside h → IsServed w h → IsSafe w → IsKept config w d
    → HasGone (submitted_at h) (CallAt w h) config (lines_at w h) (happens w h) d
outside_goes config w d (Negotiates at move) outside may safe kept =
    gone_by (asides_do d _ (negotiated_lines_are IsAside w.back.stage at move w.under.keys (λ path. refl) (λ path text. refl) (λ path. refl) (λ path. refl)))
    (beside_kept config w d (negotiated w.back.stage at move w.under.keys) w.under.channels.front_pending w.under.channels.back_pending (λ t. t) (λ t. t) kept)
outside_goes config w d (Notifies end.Front) outside may safe kept =
    gone_by (asides_do d [] tt) (beside_kept config w d w.under.keys _ w.under.channels.back_pending (set_or_kept (is_bound w.under.channels) w.under.channels.front_pending) (λ t. t) kept)
outside_goes config w d (Notifies end.Back) outside may safe kept =
    gone_by (asides_do d [] tt) (beside_kept config w d w.under.keys w.under.channels.front_pending _ (λ t. t) (set_or_kept (is_bound w.under.channels) w.under.channels.back_pending) kept)
outside_goes config w d (Pokes frame word value) outside may safe kept = absurd may
outside_goes config w d (OverwritesKey name text) outside may safe kept = absurd may
outside_goes config w d Dumps outside may safe kept = gone_by (asides_do d _ (dump_lines_are IsAside w.under.pages 0 (1024 * 2 ^ w.front.shape.order) (λ frame word value. refl))) kept
outside_goes config w d (Looks quiet) outside may safe kept = look_goes config w d quiet lines.Busy refl may safe kept
outside_goes config w d (Settles quiet) outside may safe kept = look_goes config w d quiet lines.Unsettled refl may safe kept
outside_goes config w d h outside may safe kept = absurd outside
