-- What a job's own move makes of the mapping in its hand.
use Rattle.std.proofs.Common.{◌≡◌, ℕ, ◌+◌, ◌==◌, Bool, true, false, if◌then◌else◌, List, [], ◌∷◌, ◌++◌, length, drop, refl, sym, subst}
use Rattle.std.specs.Prelude.{Option, Some, None, Result, Ok, Err}
use Rattle.std.proofs.lemmas.Option.{none-some}
use Rattle.blk_base.specs.declared.parts.Mapping.{Mapping}
use Rattle.blk_base.specs.declared.parts.Mode.{Mode}
use Rattle.blk_base.specs.declared.parts.Mode.TheVariants.{ReadOnly}
use Rattle.blk_base.specs.declared.operation.Status.TheVariants.{Error}
use Rattle.blk_base.specs.declared.ask.BackAnswer.{BackAnswer}
use Rattle.blk_base.specs.declared.moves.BackMover.TheVariants as back
use Rattle.blk_base.specs.declared.moves.Move.TheVariants as moves
use Rattle.grant_table.specs.declared.entry.MapRefusal.{MapRefusal}
use Rattle.grant_table.specs.Table.{verdict_at, next_mapping}
use Rattle.hypervisor.specs.Hypervisor.{Hypervisor}
use Rattle.hypervisor.specs.Act.{BackAct, Outcome, Gave, Took, Failed, back_act, map_act}
use Rattle.schedule_text.specs.declared.line.Line.{Line}
use Rattle.schedule_text.specs.declared.line.Line.TheVariants as lines
use Rattle.blk_layout.specs.declared.segment.Segment.{Segment}
use Rattle.blk_layout.specs.Entry.{segment_of}
use Rattle.report_rules.specs.Standing.{this_epoch}
use Rattle.report_rules.specs.Made.{left_to}
use Rattle.back_jobs.specs.declared.stage.JobStage.{JobStage}
use Rattle.back_jobs.specs.declared.stage.JobStage.TheVariants as stage
use Rattle.back_jobs.specs.Work.{Work, ask_at, step_at, map_ask, page_ask, is_copied_out, passes, judged, page_done, first_of, mode_of, last_of, rest_of, sector_stage, next_sector, next_segment, counted}
use Rattle.back_jobs.specs.Jobs.{mapping_at, effect_at}
use Rattle.blk_back.specs.Step.{told_effect}
use Rattle.split_model.proofs.SafeActs.{of_back}
use Rattle.ring_laws.proofs.JobSteps.{told_at}
use Rattle.ring_laws.proofs.Makers.{Holds, holds_has, holds_made, holds_gone, IsQuiet, AreQuiet, quiet_holds, IsMine}
use Rattle.ring_laws.proofs.MakerLines.{calm_quiet, back_calm}

abbrev hand : Work → Option Mapping
hand t = mapping_at t.stage

-- a job's lines map and unmap nothing, or they are a map, or the unmap of what it has in its hand
pub data Way (k : ℕ) (s : JobStage) (ys : List Line) : Type 0 where
  quietly : AreQuiet ys → Way k s ys
  takes : (gref number frame : ℕ) (mode : Mode) → ys ≡ lines.Move (moves.Map (back.Job k) gref mode number frame) ∷ [] → Way k s ys
  gives : (m : Mapping) → mapping_at s ≡ Some m → ys ≡ lines.Move (moves.Unmap (back.Job k) m.number) ∷ [] → Way k s ys

pub record Makes (before : List Line) (k : ℕ) (s : JobStage) (t : Work) (a : BackAct) : Type 0 where
  pub hand : let n : Work = step_at s t a.answer in Holds (mapping_at n.stage) (left_to k (this_epoch before ++ lines.Move a.shown ∷ told_at s t a.answer))
  pub way : Way k s (lines.Move a.shown ∷ told_at s t a.answer)
  pub mine : IsMine before (lines.Move a.shown)

told_quiet : (s : JobStage) (t : Work) (a : BackAnswer) → AreQuiet (told_at s t a)
told_quiet s t a = calm_quiet (told_at s t a) (back_calm (told_effect (effect_at s t a)) a)

either : (b : Bool) (x y : JobStage) (m : Mapping) → mapping_at x ≡ Some m → mapping_at y ≡ Some m → mapping_at (if b then x else y) ≡ Some m
either true x y m p q = p
either false x y m p q = q

either_work : (b : Bool) (x y : Work) (m : Mapping) → hand x ≡ Some m → hand y ≡ Some m → hand (if b then x else y) ≡ Some m
either_work true x y m p q = p
either_work false x y m p q = q

sector_hand : (writes : Bool) (m : Mapping) → mapping_at (sector_stage writes m) ≡ Some m
sector_hand true m = refl
sector_hand false m = refl

next_hand : (t : Work) (m : Mapping) → hand (next_sector t m) ≡ Some m
next_hand t m = either_work (t.within == last_of t.rest) (record t { stage = stage.Unmap m }) (record t { within = t.within + 1; stage = sector_stage t.writes m }) m refl (sector_hand t.writes m)

segment_hand : (t : Work) (rest : List Segment) → hand (next_segment t rest) ≡ None
segment_hand t [] = refl
segment_hand t (s ∷ rest) = refl

-- the hand keeps its mapping
still : (before : List Line) (k : ℕ) (s : JobStage) (t : Work) (a : BackAct) → hand (step_at s t a.answer) ≡ mapping_at s → IsQuiet (lines.Move a.shown) → IsMine before (lines.Move a.shown) → Holds (mapping_at s) (left_to k (this_epoch before)) → Makes before k s t a
still before k s t a same quiet mine old =
    let all : AreQuiet (lines.Move a.shown ∷ told_at s t a.answer) = (quiet, told_quiet s t a.answer) in
    record {
      hand = subst (λ (o : Option Mapping). Holds o (left_to k (this_epoch before ++ lines.Move a.shown ∷ told_at s t a.answer))) (sym same) (quiet_holds (mapping_at s) k (lines.Move a.shown ∷ told_at s t a.answer) (this_epoch before) all old);
      way = quietly all;
      mine = mine;
    }

map_makes : (before : List Line) (h : Hypervisor) (k : ℕ) (t : Work) (s : Segment) (verdict : Result ℕ MapRefusal) → left_to k (this_epoch before) ≡ [] → Makes before k stage.Map t (map_act h (back.Job k) s.gref (mode_of t.writes) verdict)
map_makes before h k t s (Ok frame) old =
    let m : Mapping = next_mapping h.grants s.gref (mode_of t.writes) in
    record {
      hand = subst (λ (o : Option Mapping). Holds o (left_to k (this_epoch before ++ lines.Move (moves.Map (back.Job k) s.gref (mode_of t.writes) (h.grants.made + 1) frame) ∷ []))) (sym (sector_hand t.writes m)) (holds_made k s.gref frame (mode_of t.writes) m (this_epoch before) old);
      way = takes s.gref (h.grants.made + 1) frame (mode_of t.writes) refl;
      mine = record { unmap = tt; touch = tt };
    }
map_makes before h k t s (Err refusal) old = still before k stage.Map t _ refl (record { same_epoch = refl; none_gone = λ n. refl; none_made = λ j. refl }) (record { unmap = tt; touch = tt }) old

map_asked : (before : List Line) (h : Hypervisor) (k : ℕ) (t : Work) (o : Outcome) (a : BackAct) (rest : List Segment) → left_to k (this_epoch before) ≡ [] → back_act h (back.Job k) (map_ask rest t.writes) o ≡ Some a → Makes before k stage.Map t a
map_asked before h k t o a [] old e = absurd (none-some a e)
map_asked before h k t o a (s ∷ more) old e = of_back (Makes before k stage.Map t) _ a (map_makes before h k t s (verdict_at h.pages s.gref (mode_of t.writes)) old) e

-- a page is mapped
page_makes : (before : List Line) (h : Hypervisor) (k : ℕ) (t : Work) (gref : ℕ) (verdict : Result ℕ MapRefusal) → left_to k (this_epoch before) ≡ [] → Makes before k stage.MapPage t (map_act h (back.Job k) gref ReadOnly verdict)
page_makes before h k t gref (Ok frame) old = record {
  hand = holds_made k gref frame ReadOnly (next_mapping h.grants gref ReadOnly) (this_epoch before) old;
  way = takes gref (h.grants.made + 1) frame ReadOnly refl;
  mine = record { unmap = tt; touch = tt };
}
page_makes before h k t gref (Err refusal) old = still before k stage.MapPage t _ refl (record { same_epoch = refl; none_gone = λ n. refl; none_made = λ j. refl }) (record { unmap = tt; touch = tt }) old

page_asked : (before : List Line) (h : Hypervisor) (k : ℕ) (t : Work) (o : Outcome) (a : BackAct) (pages : List ℕ) → left_to k (this_epoch before) ≡ [] → back_act h (back.Job k) (page_ask pages) o ≡ Some a → Makes before k stage.MapPage t a
page_asked before h k t o a [] old e = absurd (none-some a e)
page_asked before h k t o a (gref ∷ pages) old e = of_back (Makes before k stage.MapPage t) _ a (page_makes before h k t gref (verdict_at h.pages gref ReadOnly) old) e

-- after a page the hand is empty
empty_either : (b : Bool) (x y : Work) → hand x ≡ None → hand y ≡ None → hand (if b then x else y) ≡ None
empty_either true x y p q = p
empty_either false x y p q = q

page_hand : (t : Work) → hand (page_done t) ≡ None
page_hand t =
    empty_either (length t.rest == t.named) (judged t) (record t { pages = drop 1 t.pages; stage = stage.MapPage })
    (empty_either (passes t) (record t { within = first_of t.rest; stage = stage.Map }) (record t { stage = stage.Done Error }) refl refl) refl

pub job_makes : (before : List Line) (h : Hypervisor) (k : ℕ) (s : JobStage) (t : Work) (o : Outcome) (a : BackAct) → Holds (mapping_at s) (left_to k (this_epoch before)) → back_act h (back.Job k) (ask_at s t) o ≡ Some a → Makes before k s t a
job_makes before h k stage.MapPage t o a old e = page_asked before h k t o a t.pages old e
job_makes before h k (stage.PageReference m) t o a old e = of_back (Makes before k (stage.PageReference m) t) _ a (still before k (stage.PageReference m) t _ refl (record { same_epoch = refl; none_gone = λ n. refl; none_made = λ j. refl }) (record { unmap = tt; touch = holds_has k m (this_epoch before) old }) old) e
job_makes before h k (stage.PageSectors m gref) t o a old e =
    of_back (Makes before k (stage.PageSectors m gref) t) _ a
    (still before k (stage.PageSectors m gref) t _ (either (is_copied_out t (t.rest ++ segment_of gref _ ∷ [])) (stage.UnmapPage m) (stage.PageReference m) m refl refl) (record { same_epoch = refl; none_gone = λ n. refl; none_made = λ j. refl }) (record { unmap = tt; touch = holds_has k m (this_epoch before) old }) old) e
job_makes before h k (stage.UnmapPage m) t o a old e =
    of_back (Makes before k (stage.UnmapPage m) t) _ a
    (record { hand = subst (λ (x : Option Mapping). Holds x (left_to k (this_epoch before ++ lines.Move (moves.Unmap (back.Job k) m.number) ∷ []))) (sym (page_hand t)) (holds_gone k m (this_epoch before) old); way = gives m refl refl; mine = record { unmap = holds_has k m (this_epoch before) old; touch = tt } }) e
job_makes before h k stage.Map t o a old e = map_asked before h k t o a t.rest old e
job_makes before h k (stage.ReadWord m j) t o a old e = of_back (Makes before k (stage.ReadWord m j) t) _ a (still before k (stage.ReadWord m j) t _ (either (j == 127) (stage.DiskWrite m) (stage.ReadWord m (j + 1)) m refl refl) (record { same_epoch = refl; none_gone = λ n. refl; none_made = λ j. refl }) (record { unmap = tt; touch = holds_has k m (this_epoch before) old }) old) e
job_makes before h k (stage.DiskWrite m) t Took a old e = of_back (Makes before k (stage.DiskWrite m) t) _ a (still before k (stage.DiskWrite m) t _ (next_hand (counted t) m) (record { same_epoch = refl; none_gone = λ n. refl; none_made = λ j. refl }) (record { unmap = tt; touch = tt }) old) e
job_makes before h k (stage.DiskWrite m) t Failed a old e = of_back (Makes before k (stage.DiskWrite m) t) _ a (still before k (stage.DiskWrite m) t _ refl (record { same_epoch = refl; none_gone = λ n. refl; none_made = λ j. refl }) (record { unmap = tt; touch = tt }) old) e
job_makes before h k (stage.DiskRead m) t (Gave words) a old e = of_back (Makes before k (stage.DiskRead m) t) _ a (still before k (stage.DiskRead m) t _ refl (record { same_epoch = refl; none_gone = λ n. refl; none_made = λ j. refl }) (record { unmap = tt; touch = tt }) old) e
job_makes before h k (stage.DiskRead m) t Failed a old e = of_back (Makes before k (stage.DiskRead m) t) _ a (still before k (stage.DiskRead m) t _ refl (record { same_epoch = refl; none_gone = λ n. refl; none_made = λ j. refl }) (record { unmap = tt; touch = tt }) old) e
job_makes before h k (stage.DiskRead m) t Took a old e = absurd (none-some a e)
job_makes before h k (stage.WriteWord m j) t o a old e =
    of_back (Makes before k (stage.WriteWord m j) t) _ a (still before k (stage.WriteWord m j) t _ (either_work (j == 127) (next_sector t m) (record t { stage = stage.WriteWord m (j + 1) }) m (next_hand t m) refl) (record { same_epoch = refl; none_gone = λ n. refl; none_made = λ j. refl }) (record { unmap = tt; touch = holds_has k m (this_epoch before) old }) old) e
job_makes before h k (stage.Unmap m) t o a old e = of_back (Makes before k (stage.Unmap m) t) _ a (record { hand = subst (λ (x : Option Mapping). Holds x (left_to k (this_epoch before ++ lines.Move (moves.Unmap (back.Job k) m.number) ∷ []))) (sym (segment_hand t (rest_of t.rest))) (holds_gone k m (this_epoch before) old); way = gives m refl refl; mine = record { unmap = holds_has k m (this_epoch before) old; touch = tt } }) e
job_makes before h k (stage.Abort m) t o a old e = of_back (Makes before k (stage.Abort m) t) _ a (record { hand = holds_gone k m (this_epoch before) old; way = gives m refl refl; mine = record { unmap = holds_has k m (this_epoch before) old; touch = tt } }) e
job_makes before h k stage.Flush t Took a old e = of_back (Makes before k stage.Flush t) _ a (still before k stage.Flush t _ refl (record { same_epoch = refl; none_gone = λ n. refl; none_made = λ j. refl }) (record { unmap = tt; touch = tt }) old) e
job_makes before h k stage.Flush t Failed a old e = of_back (Makes before k stage.Flush t) _ a (still before k stage.Flush t _ refl (record { same_epoch = refl; none_gone = λ n. refl; none_made = λ j. refl }) (record { unmap = tt; touch = tt }) old) e
job_makes before h k (stage.Trim count) t Took a old e = of_back (Makes before k (stage.Trim count) t) _ a (still before k (stage.Trim count) t _ refl (record { same_epoch = refl; none_gone = λ n. refl; none_made = λ j. refl }) (record { unmap = tt; touch = tt }) old) e
job_makes before h k (stage.Trim count) t Failed a old e = of_back (Makes before k (stage.Trim count) t) _ a (still before k (stage.Trim count) t _ refl (record { same_epoch = refl; none_gone = λ n. refl; none_made = λ j. refl }) (record { unmap = tt; touch = tt }) old) e
job_makes before h k (stage.Done status) t o a old e = absurd (none-some a e)
job_makes before h k other t (Gave words) a old e = absurd (none-some a e)
