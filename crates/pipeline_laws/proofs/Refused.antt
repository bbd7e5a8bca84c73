-- Wrong steps that the pipeline doesn't allow.
use Rattle.std.proofs.Common.{◌≡◌, true, false, [], ◌∷◌, ◌++◌, refl, ap, sym, ◌∙◌, subst, arith}
use Rattle.std.specs.Prelude.{Some, slice_get}
use Rattle.std.proofs.lemmas.Bool.{true≢false}
use Rattle.std.proofs.lemmas.Option.{none-some, same_Some}
use Rattle.blk_base.specs.declared.operation.Status.{Status}
use Rattle.blk_base.specs.declared.operation.Status.TheVariants.{Okay}
use Rattle.blk_base.specs.declared.refusal.Refusal.{Refusal}
use Rattle.plain_disk.specs.Request.{is_barrier}
use Rattle.pipeline_laws.specs.Station.{Station, Waiting, Pushed, Working, Taking, Finished, PipelineRequest}
use Rattle.pipeline_laws.specs.Move.{Pushes, Fills, Ends, Answers, station_before}
use Rattle.pipeline_laws.specs.Pipeline.{Pipeline, Submits, Refuses, Moves, Connects, StartsToClose, Closes, Rests, pipeline_of, after_steps}
use Rattle.pipeline_laws.specs.Allowed.{IsClear, has_places, is_in_way, IsAllowed}
use Rattle.pipeline_laws.specs.Samples.{two_sectors, at, write, barrier, long_write, past_end, order_steps, second_begun, second_fetched, two_jobs, half_done}

-- a barrier that works before an earlier write is done, or is fetched
barrier_in_way : (p : Pipeline) (x : PipelineRequest) (station : Station) → IsClear p 1 x → at barrier (Working 0) ≡ x → slice_get p.requests 0 ≡ Some (at write station) → has_places write.submission station ≡ true → ⊥
barrier_in_way p x station clear is first left =
    let way : is_in_way true (at write station) ≡ false = subst (λ (y : PipelineRequest). is_in_way (is_barrier y.submission) (at write station) ≡ false) (sym is) (clear.clear 0 (at write station) (omega arith) first) in
    true≢false (sym left ∙ way)

pub barrier_waits : (x : PipelineRequest) → IsAllowed (after_steps two_jobs (pipeline_of two_sectors)) (Moves 1 x (Fills 0)) → ⊥
barrier_waits x may = barrier_in_way _ x (Working 0) may.1.2 (same_Some _ x may.0.here) refl refl

pub fetch_waits : (x : PipelineRequest) → IsAllowed (after_steps second_fetched (pipeline_of two_sectors)) (Moves 1 x (Fills 0)) → ⊥
fetch_waits x may = barrier_in_way _ x Pushed may.1.2 (same_Some _ x may.0.here) refl refl

-- a request pushed before one of a lower number
pub push_waits : (x : PipelineRequest) → IsAllowed (after_steps second_begun (pipeline_of two_sectors)) (Moves 1 x Pushes) → ⊥
push_waits x may =
    let first : true ≡ false = may.1.none 0 (at write Waiting) (omega arith) refl in
    absurd (cc)

-- a submission that ends `ok` with a sector left
pub end_waits : (x : PipelineRequest) → IsAllowed (after_steps half_done (pipeline_of two_sectors)) (Moves 0 x (Ends Okay)) → ⊥
end_waits x may =
    let is : at long_write (Working 1) ≡ x = same_Some _ x may.0.here in
    let there : Working 1 ≡ Working 2 = subst (λ (y : PipelineRequest). y.station ≡ station_before y.submission (Ends Okay)) (sym is) may.0.there in
    absurd (cc)

-- a second answer
pub answered_once : (x : PipelineRequest) (status : Status) → IsAllowed (after_steps order_steps (pipeline_of two_sectors)) (Moves 0 x (Answers status)) → ⊥
answered_once x status may =
    let is : at write (Finished Okay) ≡ x = same_Some _ x may.0.here in
    let there : Finished Okay ≡ Taking status = ap (λ (y : PipelineRequest). y.station) is ∙ may.0.there in
    absurd (cc)

-- `quiet`, or a closed front, before all is told
pub quiet_waits : IsAllowed (after_steps two_jobs (pipeline_of two_sectors)) Rests → ⊥
quiet_waits may =
    let over : false ≡ true = may.each 0 (at write (Working 0)) refl in
    absurd (cc)

pub close_waits : IsAllowed (after_steps (two_jobs ++ StartsToClose ∷ []) (pipeline_of two_sectors)) Closes → ⊥
close_waits may =
    let over : false ≡ true = may.2.each 0 (at write (Working 0)) refl in
    absurd (cc)

-- a refusal that no rule gives, and one that a rule does
pub refused_wrongly : (refusal : Refusal) → IsAllowed (after_steps (Connects ∷ []) (pipeline_of two_sectors)) (Refuses write.submission refusal) → ⊥
refused_wrongly refusal may = none-some refusal may

pub accepted_wrongly : IsAllowed (after_steps (Connects ∷ []) (pipeline_of two_sectors)) (Submits past_end.submission) → ⊥
accepted_wrongly may = none-some _ (sym may)
