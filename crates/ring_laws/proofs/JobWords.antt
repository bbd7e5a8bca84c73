-- A job reads a word of its frame, or writes one there.
use Rattle.std.proofs.Common.{◌≡◌, ℕ, ◌+◌, ◌*◌, ◌%◌, ◌<◌, ◌≤◌, ◌==◌, Bool, true, false, if◌then◌else◌, List, [], ◌∷◌, ◌++◌, refl, ap, sym, ◌∙◌, subst, arith}
use Rattle.std.specs.Prelude.{slice_index, Option, Some, option_and_then, IsSomeAnd}
use Rattle.std.proofs.lemmas.Bool.Decides.{nat_tests}
use Rattle.blk_base.specs.declared.parts.Mapping.{Mapping}
use Rattle.blk_base.specs.declared.ask.BackAnswer.TheVariants as answers
use Rattle.blk_base.specs.declared.moves.BackMover.TheVariants as back
use Rattle.blk_base.specs.declared.moves.Move.{Move}
use Rattle.blk_base.specs.declared.moves.Move.TheVariants as moves
use Rattle.schedule_text.specs.declared.line.Line.{Line}
use Rattle.schedule_text.specs.declared.line.Line.TheVariants as lines
use Rattle.report_rules.specs.declared.walk.Spot.{Spot}
use Rattle.report_rules.specs.declared.work.Task.{Task}
use Rattle.report_rules.specs.Walk.{advanced, walk_of}
use Rattle.back_jobs.specs.declared.stage.JobStage.TheVariants as stage
use Rattle.back_jobs.specs.Work.{Work, step_at, last_of, rest_of, next_sector}
use Rattle.ring_laws.proofs.JobLines.{walk_own, moves_step, words_step, failed_own}
use Rattle.ring_laws.proofs.Places.{Before, Within, IsAt}
use Rattle.ring_laws.proofs.Sectors.{word_read, word_written, sector_filled, last_filled}
use Rattle.ring_laws.proofs.JobMoves.{itself, step_on, sector_on, segment_over}
use Rattle.ring_laws.proofs.JobSteps.{IsDataBy, Steps, takes, JobGoes, next_at, on_step, by_last, last_is}

pub read_goes : (work : List Task) (k : ℕ) (epoch : List Line) (t : Work) (m : Mapping) (j frame value : ℕ) → IsAt work k epoch (stage.ReadWord m j) t
    → JobGoes work k epoch (moves.Read (back.Job k) m.number frame (t.within * 128 + j) value) [] (step_at (stage.ReadWord m j) t (answers.Word value))
read_goes work k epoch t m j frame value at =
    let shown : Move = moves.Read (back.Job k) m.number frame (t.within * 128 + j) value in
    let w : Within work k epoch t.rest t.within t.disk t.moved t.writes j 1 m = at.0 in
    let taken = word_read work k epoch t.rest t.within t.disk t.moved t.writes j m frame value at.0 at.1 at.2 in
    let next : Within work k (epoch ++ lines.Move shown ∷ []) t.rest t.within t.disk t.moved t.writes (j + 1) 1 m = step_on work k epoch t.rest t.within t.disk t.moved t.writes j 1 (j + 1) m shown at.0 (itself k) refl taken in
    record {
      steps = takes refl (record { on = on_step work k epoch shown _ w.came w.whole taken refl; moved = tt });
      at = by_test (epoch ++ lines.Move shown ∷ []) (j == 127) refl next;
    }
  where
    by_test : (now : List Line) (b : Bool) → (j == 127) ≡ b → Within work k now t.rest t.within t.disk t.moved t.writes (j + 1) 1 m → IsAt work k now (if b then stage.DiskWrite m else stage.ReadWord m (j + 1)) (step_at (stage.ReadWord m j) t (answers.Word value))
    by_test now true e next = let is : j + 1 ≡ 128 = grind (arith, nat_tests) in (subst (λ (n : ℕ). Within work k now t.rest t.within t.disk t.moved t.writes n 1 m) is next, at.2)
    by_test now false e next = let small = at.1 in (next, grind (arith, nat_tests), at.2)

-- the last word of a sector
fill_goes : (work : List Task) (k : ℕ) (epoch : List Line) (t : Work) (m : Mapping) (frame value : ℕ) → Within work k epoch t.rest t.within t.disk t.moved t.writes (1 + 127) 0 m → t.writes ≡ false
    → IsDataBy k epoch (moves.Write (back.Job k) m.number frame (t.within * 128 + 127) value)
    → JobGoes work k epoch (moves.Write (back.Job k) m.number frame (t.within * 128 + 127) value) [] (next_sector t m)
fill_goes work k epoch t m frame value w reads moved =
    by_last (JobGoes work k epoch shown [] (next_sector t m)) t.within w.segment.last w.inside
    (λ last. goes (last_filled work k epoch t.rest t.within t.disk t.moved t.writes m frame value w reads last)
    (λ at_last. segment_over work k epoch now t.rest t.within t.disk t.moved t.writes (1 + 127) 0 t.disk t.moved m w last (omega arith) (omega arith)
    (walk_own work k epoch [] shown (itself k) refl ∙ last_filled work k epoch t.rest t.within t.disk t.moved t.writes m frame value w reads last)
    (moves_step k epoch [] (lines.Move shown) refl refl ∙ w.counted) (failed_own k epoch [] (lines.Move shown) refl refl refl w.whole))
    (λ more. absurd (past more (last ∙ sym end))))
    (λ more. goes (sector_filled work k epoch t.rest t.within t.disk t.moved t.writes m frame value w reads more)
    (λ at_last. absurd (past more (at_last ∙ end)))
    (λ other. sector_on work k epoch now t.rest t.within t.disk t.moved t.writes (1 + 127) 0 (1 + 127 + 1) t.disk t.moved m w refl more (omega arith) (omega arith)
    (walk_own work k epoch [] shown (itself k) refl ∙ sector_filled work k epoch t.rest t.within t.disk t.moved t.writes m frame value w reads more)
    (moves_step k epoch [] (lines.Move shown) refl refl ∙ w.counted) (failed_own k epoch [] (lines.Move shown) refl refl refl w.whole)))
  where
    shown : Move
    shown = moves.Write (back.Job k) m.number frame (t.within * 128 + 127) value

    now : List Line
    now = epoch ++ lines.Move shown ∷ []

    end : last_of t.rest ≡ w.segment.last
    end = last_is t.rest w.more w.segment w.rest_is

    past : {a b : ℕ} → a + 1 ≤ b → a ≡ b → ⊥
    past h e = omega arith

    goes : {after : Spot} → option_and_then (advanced false work shown) (walk_of false work k epoch) ≡ Some after
        → (t.within ≡ last_of t.rest → Before work k now (rest_of t.rest) t.disk t.moved t.writes)
        → (t.within + 1 ≤ last_of t.rest → Within work k now t.rest (t.within + 1) t.disk t.moved t.writes 0 1 m)
        → JobGoes work k epoch shown [] (next_sector t m)
    goes taken over more = record {
      steps = takes refl (record { on = on_step work k epoch shown _ w.came w.whole taken refl; moved = moved });
      at = next_at work k now t m (subst (λ (n : ℕ). t.within ≤ n) (sym end) w.inside) over more;
    }

pub write_goes : (work : List Task) (k : ℕ) (epoch : List Line) (t : Work) (m : Mapping) (j frame : ℕ) → IsAt work k epoch (stage.WriteWord m j) t
    → JobGoes work k epoch (moves.Write (back.Job k) m.number frame (t.within * 128 + j) (slice_index t.words j)) [] (step_at (stage.WriteWord m j) t answers.Done)
write_goes work k epoch t m j frame at = by_test (j == 127) refl
  where
    shown : Move
    shown = moves.Write (back.Job k) m.number frame (t.within * 128 + j) (slice_index t.words j)

    place : (a j : ℕ) → j < 128 → (a * 128 + j) % 128 ≡ j
    place a j small = omega arith

    data_moved : IsDataBy k epoch shown
    data_moved = subst (λ (w : Option (List ℕ)). IsSomeAnd w (λ (words : List ℕ). slice_index t.words j ≡ slice_index words ((t.within * 128 + j) % 128))) (sym at.3) (ap (λ (n : ℕ). slice_index t.words n) (sym (place t.within j at.1)))

    steps_of : (w : Within work k epoch t.rest t.within t.disk t.moved t.writes (1 + j) 0 m) {after : Spot} → option_and_then (advanced false work shown) (walk_of false work k epoch) ≡ Some after → Steps work k epoch shown
    steps_of w taken = record { on = on_step work k epoch shown _ w.came w.whole taken refl; moved = data_moved }

    by_test : (b : Bool) → (j == 127) ≡ b → JobGoes work k epoch shown [] (if b then next_sector t m else record t { stage = stage.WriteWord m (j + 1) })
    by_test true e =
        let is : 127 ≡ j = grind (arith, nat_tests) in
        let w : Within work k epoch t.rest t.within t.disk t.moved t.writes (1 + 127) 0 m = subst (λ (n : ℕ). Within work k epoch t.rest t.within t.disk t.moved t.writes (1 + n) 0 m) (sym is) at.0 in
        let moved : IsDataBy k epoch (moves.Write (back.Job k) m.number frame (t.within * 128 + 127) (slice_index t.words 127)) = subst (λ (n : ℕ). IsDataBy k epoch (moves.Write (back.Job k) m.number frame (t.within * 128 + n) (slice_index t.words n))) (sym is) data_moved in
        subst (λ (n : ℕ). JobGoes work k epoch (moves.Write (back.Job k) m.number frame (t.within * 128 + n) (slice_index t.words n)) [] (next_sector t m)) is
        (fill_goes work k epoch t m frame (slice_index t.words 127) w at.2 moved)
    by_test false e =
        let small : j < 127 = grind (arith, nat_tests, at.1) in
        let taken = word_written work k epoch t.rest t.within t.disk t.moved t.writes j m frame (slice_index t.words j) at.0 small at.2 in
        let next : Within work k (epoch ++ lines.Move shown ∷ []) t.rest t.within t.disk t.moved t.writes (1 + j + 1) 0 m = step_on work k epoch t.rest t.within t.disk t.moved t.writes (1 + j) 0 (1 + j + 1) m shown at.0 (itself k) refl taken in
        let same : 1 + j + 1 ≡ 1 + (j + 1) = omega arith in
        record {
          steps = takes refl (steps_of at.0 taken);
          at = (subst (λ (n : ℕ). Within work k (epoch ++ lines.Move shown ∷ []) t.rest t.within t.disk t.moved t.writes n 0 m) same next, omega arith, at.2, words_step k epoch [] (lines.Move shown) refl refl refl ∙ at.3);
        }
