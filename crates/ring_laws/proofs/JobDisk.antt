-- A job moves a sector to the disk or from it.
use Rattle.std.proofs.Common.{◌≡◌, ℕ, ◌+◌, ◌%◌, ◌^◌, ◌≤◌, true, false, List, [], ◌∷◌, ◌++◌, count_by, refl, ap, sym, ◌∙◌, subst, arith}
use Rattle.std.specs.Prelude.{Some, option_and_then}
use Rattle.blk_base.specs.declared.parts.Mapping.{Mapping}
use Rattle.blk_base.specs.declared.ask.BackAnswer.TheVariants as answers
use Rattle.blk_base.specs.declared.moves.Move.{Move}
use Rattle.blk_base.specs.declared.moves.Move.TheVariants as moves
use Rattle.schedule_text.specs.declared.line.Line.{Line}
use Rattle.schedule_text.specs.declared.line.Line.TheVariants as lines
use Rattle.report_rules.specs.declared.walk.Spot.{Spot}
use Rattle.report_rules.specs.declared.work.Task.{Task}
use Rattle.report_rules.specs.Walk.{advanced, walk_of}
use Rattle.back_jobs.specs.declared.stage.JobStage.TheVariants as stage
use Rattle.back_jobs.specs.Work.{Work, step_at, last_of, rest_of, next_sector, counted}
use Rattle.ring_laws.proofs.JobLines.{is_disk_of, walk_own, moves_own, words_own, failed_own}
use Rattle.ring_laws.proofs.Places.{Before, Within, IsAt, IsStepOn}
use Rattle.ring_laws.proofs.Sectors.{sector_given, sector_taken, last_taken}
use Rattle.ring_laws.proofs.JobMoves.{itself, given_on, sector_on, segment_over}
use Rattle.ring_laws.proofs.JobSteps.{IsDataBy, Steps, takes, JobGoes, next_at, on_step, by_last, last_is}

-- the disk took a sector, or failed
pub take_goes : (work : List Task) (k : ℕ) (epoch : List Line) (t : Work) (m : Mapping) → IsAt work k epoch (stage.DiskWrite m) t
    → JobGoes work k epoch (moves.DiskWrite k t.disk) (lines.Effect t.id t.moved ∷ []) (next_sector (counted t) m)
take_goes work k epoch t m at =
    by_last (JobGoes work k epoch shown told (next_sector (counted t) m)) t.within w.segment.last w.inside
    (λ last. goes (last_taken work k epoch t.rest t.within t.disk t.moved t.writes m w at.1 last)
    (λ at_last. segment_over work k epoch now t.rest t.within t.disk t.moved t.writes 128 1 (t.disk + 1) ((t.moved + 1) % 2 ^ 32) m w last refl small
    (walk_own work k epoch told shown (itself k) refl ∙ last_taken work k epoch t.rest t.within t.disk t.moved t.writes m w at.1 last) more_moved (failed_own k epoch told (lines.Move shown) refl refl refl w.whole))
    (λ more. absurd (past more (last ∙ sym end))))
    (λ more. goes (sector_taken work k epoch t.rest t.within t.disk t.moved t.writes m w at.1 more)
    (λ at_last. absurd (past more (at_last ∙ end)))
    (λ other. sector_on work k epoch now t.rest t.within t.disk t.moved t.writes 128 1 (128 + 1) (t.disk + 1) ((t.moved + 1) % 2 ^ 32) m w refl more refl small
    (walk_own work k epoch told shown (itself k) refl ∙ sector_taken work k epoch t.rest t.within t.disk t.moved t.writes m w at.1 more) more_moved (failed_own k epoch told (lines.Move shown) refl refl refl w.whole)))
  where
    w : Within work k epoch t.rest t.within t.disk t.moved t.writes 128 1 m
    w = at.0

    shown : Move
    shown = moves.DiskWrite k t.disk

    told : List Line
    told = lines.Effect t.id t.moved ∷ []

    now : List Line
    now = epoch ++ lines.Move shown ∷ told

    end : last_of t.rest ≡ w.segment.last
    end = last_is t.rest w.more w.segment w.rest_is

    past : {a b : ℕ} → a + 1 ≤ b → a ≡ b → ⊥
    past h e = omega arith

    wrapped : (n a b c : ℕ) → n + 1 + a + b ≤ 7680 → (n + 1) % 2 ^ 32 ≡ n + 1
    wrapped n a b c h = omega arith

    small : (t.moved + 1) % 2 ^ 32 ≡ t.moved + 1
    small = wrapped t.moved _ _ 0 w.few

    more_moved : count_by (is_disk_of k) now ≡ (t.moved + 1) % 2 ^ 32
    more_moved = moves_own k epoch told (lines.Move shown) (itself k) refl ∙ (ap (λ (n : ℕ). n + 1) w.counted ∙ sym small)

    goes : {after : Spot} → option_and_then (advanced false work shown) (walk_of false work k epoch) ≡ Some after
        → (t.within ≡ last_of t.rest → Before work k now (rest_of t.rest) (t.disk + 1) ((t.moved + 1) % 2 ^ 32) t.writes)
        → (t.within + 1 ≤ last_of t.rest → Within work k now t.rest (t.within + 1) (t.disk + 1) ((t.moved + 1) % 2 ^ 32) t.writes 0 1 m)
        → JobGoes work k epoch shown told (next_sector (counted t) m)
    goes taken over more = record {
      steps = takes refl (record { on = on_step work k epoch shown _ w.came w.whole taken tt; moved = tt });
      at = next_at work k now (counted t) m (subst (λ (n : ℕ). t.within ≤ n) (sym end) w.inside) over more;
    }

-- a move of the disk at which it failed: nothing is left but to unmap
pub disk_failed : (work : List Task) (k : ℕ) (epoch : List Line) (shown : Move) → IsStepOn work k epoch shown → IsDataBy k epoch shown → Steps work k epoch shown
disk_failed work k epoch shown on moved = record { on = on; moved = moved }

pub take_step : (work : List Task) (k : ℕ) (epoch : List Line) (t : Work) (m : Mapping) (w : Within work k epoch t.rest t.within t.disk t.moved t.writes 128 1 m) → t.writes ≡ true → IsStepOn work k epoch (moves.DiskWrite k t.disk)
take_step work k epoch t m w writes =
    by_last (IsStepOn work k epoch (moves.DiskWrite k t.disk)) t.within w.segment.last w.inside
    (λ last. on_step work k epoch (moves.DiskWrite k t.disk) _ w.came w.whole (last_taken work k epoch t.rest t.within t.disk t.moved t.writes m w writes last) tt)
    (λ more. on_step work k epoch (moves.DiskWrite k t.disk) _ w.came w.whole (sector_taken work k epoch t.rest t.within t.disk t.moved t.writes m w writes more) tt)

pub give_step : (work : List Task) (k : ℕ) (epoch : List Line) (t : Work) (m : Mapping) (w : Within work k epoch t.rest t.within t.disk t.moved t.writes 0 1 m) → t.writes ≡ false → IsStepOn work k epoch (moves.DiskRead k t.disk)
give_step work k epoch t m w reads = on_step work k epoch (moves.DiskRead k t.disk) _ w.came w.whole (sector_given work k epoch t.rest t.within t.disk t.moved t.writes m w reads) tt

-- the disk gave a sector
pub give_goes : (work : List Task) (k : ℕ) (epoch : List Line) (t : Work) (m : Mapping) (words : List ℕ) → IsAt work k epoch (stage.DiskRead m) t
    → JobGoes work k epoch (moves.DiskRead k t.disk) (lines.EffectRead t.id t.moved words ∷ []) (step_at (stage.DiskRead m) t (answers.Sector words))
give_goes work k epoch t m words at =
    let w : Within work k epoch t.rest t.within t.disk t.moved t.writes 0 1 m = at.0 in
    record {
      steps = takes refl (record { on = give_step work k epoch t m at.0 at.1; moved = tt });
      at = (given_on work k epoch (lines.EffectRead t.id t.moved words ∷ []) t.rest t.within t.disk t.moved t.writes m at.0 refl refl (sector_given work k epoch t.rest t.within t.disk t.moved t.writes m at.0 at.1), omega arith, at.1, words_own k epoch (lines.EffectRead t.id t.moved words ∷ []) (lines.Move (moves.DiskRead k t.disk)) (Some words) (itself k) refl refl refl);
    }
