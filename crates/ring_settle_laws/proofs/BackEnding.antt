-- Once the back has halted it unmaps the pages of the ring, closes its port and waits: each of these moves lowers what is left.
use Rattle.std.proofs.Common.{◌≡◌, ◌≢◌, ℕ, ◌+◌, ◌<◌, ◌≤◌, List, [], ◌∷◌, length, refl, ap, arith}
use Rattle.std.specs.Prelude.{Some}
use Rattle.blk_base.specs.declared.ask.BackAnswer.TheVariants as answer
use Rattle.blk_base.specs.declared.moves.BackMover.TheVariants as back_mover
use Rattle.blk_base.specs.declared.parts.Mapping.{Mapping}
use Rattle.blk_base.specs.declared.parts.End.TheVariants as end
use Rattle.event_channel.specs.Channels.{ChannelState, closed}
use Rattle.hypervisor.specs.Act.{BackAct, Took, back_act, wait_act}
use Rattle.blk_back.specs.declared.stage.BackStage.{BackStage}
use Rattle.blk_back.specs.declared.stage.BackStage.TheVariants as stage
use Rattle.blk_back.specs.View as back
use Rattle.blk_back.specs.Ask.{unmap_ask}
use Rattle.blk_back.specs.Step.{at, bound, unbound, other_pages, unmapped_bound, unmapped_unbound, step_at}
use Rattle.back_laws.specs.BackLeft.{left_of}
use Rattle.split_model.specs.World.{World}
use Rattle.machine_pipeline.proofs.Over.{IsAborting}
use Rattle.machine_pipeline.proofs.Turns.{back_turn_at}
use Rattle.ring_settle_laws.specs.Left.{marks_left}
use Rattle.ring_settle_laws.proofs.BackSums.{PaysTo, LowersTo, Falls, falls, pays_by, same, of_act, waiting}
use Rattle.ring_settle_laws.proofs.BackSteps.{still_pays}

bound_left : (m : Mapping) (pages : List Mapping) (v : back.View) → v.pages ≡ m ∷ pages → left_of (unmapped_bound v) < 1 + length (m ∷ pages)
bound_left m [] v e = rw e (omega arith)
bound_left m (n ∷ pages) v e = rw e (omega arith)

unbound_left : (m : Mapping) (pages : List Mapping) (v : back.View) → v.pages ≡ m ∷ pages → left_of (unmapped_unbound v) < length (m ∷ pages)
unbound_left m [] v e = rw e (omega arith)
unbound_left m (n ∷ pages) v e = rw e (omega arith)

closed_left : (c : ChannelState) → marks_left (closed c end.Back) ≤ marks_left c
closed_left c = omega arith

module _ (w : World) (before after : ℕ) (less : after ≤ before) (a : BackAct) where
  bound_pays : (rest : List Mapping) → PaysTo w stage.UnmapRing (record w.back { pages = other_pages w.back.pages; stage = bound rest }) answer.Done w.under.channels before after
  bound_pays [] = pays_by w stage.UnmapRing (record w.back { pages = other_pages w.back.pages; stage = stage.ClosePort }) answer.Done w.under.channels before after (omega arith) (same _) (same _) less
  bound_pays (m ∷ rest) = pays_by w stage.UnmapRing (record w.back { pages = other_pages w.back.pages; stage = stage.UnmapRing }) answer.Done w.under.channels before after (omega arith) (same _) (same _) less

  unbound_pays : (rest : List Mapping) → PaysTo w stage.UnmapUnbound (record w.back { pages = other_pages w.back.pages; stage = unbound rest }) answer.Done w.under.channels before after
  unbound_pays [] = pays_by w stage.UnmapUnbound (record w.back { pages = other_pages w.back.pages; stage = stage.Halted }) answer.Done w.under.channels before after (omega arith) (same _) (same _) less
  unbound_pays (m ∷ rest) = pays_by w stage.UnmapUnbound (record w.back { pages = other_pages w.back.pages; stage = stage.UnmapUnbound }) answer.Done w.under.channels before after (omega arith) (same _) (same _) less

  unmaps_bound : (pages : List Mapping) → w.back.pages ≡ pages → pages ≢ [] → back_act w.under back_mover.Back (unmap_ask pages) Took ≡ Some a → Falls w stage.UnmapRing (step_at stage.UnmapRing w.back) before after a
  unmaps_bound [] e some act = absurd (some refl)
  unmaps_bound (m ∷ pages) e some act = of_act (Falls w stage.UnmapRing (step_at stage.UnmapRing w.back) before after) _ a act
      (falls w stage.UnmapRing (unmapped_bound w.back) answer.Done w.under.channels before after
      (let low = bound_left m pages w.back e in let all = ap (λ (l : List Mapping). length l) e in omega (arith, low, all)) (bound_pays (other_pages w.back.pages)))

  unmaps_unbound : (pages : List Mapping) → w.back.pages ≡ pages → pages ≢ [] → back_act w.under back_mover.Back (unmap_ask pages) Took ≡ Some a → Falls w stage.UnmapUnbound (step_at stage.UnmapUnbound w.back) before after a
  unmaps_unbound [] e some act = absurd (some refl)
  unmaps_unbound (m ∷ pages) e some act = of_act (Falls w stage.UnmapUnbound (step_at stage.UnmapUnbound w.back) before after) _ a act
      (falls w stage.UnmapUnbound (unmapped_unbound w.back) answer.Done w.under.channels before after
      (let low = unbound_left m pages w.back e in let all = ap (λ (l : List Mapping). length l) e in omega (arith, low, all)) (unbound_pays (other_pages w.back.pages)))

  halted_lowers : w.back.stage ≡ stage.Halted → wait_act w.under back_mover.Back ≡ Some a → LowersTo w stage.Halted w.back a.answer
  halted_lowers is e = waiting (λ (x : BackAct). LowersTo w stage.Halted w.back x.answer) w.under a e (λ pending. rw is (omega arith)) (λ path. rw is (omega arith))

  pub ending_falls : (b : BackStage) → w.back.stage ≡ b → IsAborting w.back.pages b → back_turn_at b w ≡ Some a → Falls w b (step_at b w.back) before after a
  ending_falls stage.UnmapRing is some e = unmaps_bound w.back.pages refl some e
  ending_falls stage.UnmapUnbound is some e = unmaps_unbound w.back.pages refl some e
  ending_falls stage.ClosePort is none e = of_act (Falls w stage.ClosePort (step_at stage.ClosePort w.back) before after) _ a e
      (falls w stage.ClosePort (at stage.Halted w.back) answer.Done (closed w.under.channels end.Back) before after (omega arith)
      (pays_by w stage.ClosePort (at stage.Halted w.back) answer.Done (closed w.under.channels end.Back) before after (omega (arith, closed_left w.under.channels)) (same _) (same _) less))
  ending_falls stage.Halted is none e = falls w stage.Halted w.back a.answer a.under.channels before after (halted_lowers is e) (still_pays w before after less a stage.Halted is e)
  ending_falls b is aborting e = absurd aborting
