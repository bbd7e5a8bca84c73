-- Where a report says `quiet`, the ring's words by its lines are served and read.
use Rattle.std.proofs.Common.{◌≡◌, ◌⊎◌, inl, inr, ℕ, ◌+◌, ◌%◌, ◌^◌, true, false, List, [], ◌∷◌, refl, sym, ap, ◌∙◌, subst, arith, true≢false}
use Rattle.std.specs.Prelude.{fold, map}
use Rattle.blk_base.specs.Options.{Options}
use Rattle.schedule_text.specs.declared.line.Detail.{Detail}
use Rattle.schedule_text.specs.declared.line.Detail.TheVariants.{Moves}
use Rattle.schedule_text.specs.declared.line.Line.{Line}
use Rattle.schedule_text.specs.declared.line.Line.TheVariants as lines
use Rattle.xen_pages.specs.Pages.{word_of}
use Rattle.report_rules.specs.Ring.{start_told, start_of}
use Rattle.report_rules.specs.Value.{value_before}
use Rattle.blk_front.specs.declared.stage.FrontStage.{FrontStage}
use Rattle.blk_front.specs.declared.stage.FrontStage.TheVariants as stage
use Rattle.split_model.specs.World as world
use Rattle.split_model.specs.World.{World, is_quiet}
use Rattle.split_model.specs.Happening.{Happening, after}
use Rattle.split_model.specs.Kept.{Plainly, lines_keeping}
use Rattle.schedule_text.specs.Recorder.{kept_of}
use Rattle.split_model.specs.Report.{report_of, ended_report_of}
use Rattle.move_laws.specs.Tells.{Tells}
use Rattle.move_laws.proofs.Runs.{report_follows}
use Rattle.move_laws.proofs.Recorded.{report_kept, ended_kept}
use Rattle.machine_pipeline.specs.Plain.{IsPlain}
use Rattle.machine_pipeline.specs.Allowed.{AreServed}
use Rattle.machine_pipeline.proofs.Flow.{wrapped}
use Rattle.machine_pipeline.proofs.Allowed.{served_first}
use Rattle.machine_pipeline.proofs.Over.{IsDrained}
use Rattle.machine_pipeline.proofs.Together.{always_stands}
use Rattle.machine_pipeline.proofs.AtRest.{IsIdleRing, quiet_rests}
use Rattle.report_laws.specs.Begun.{is_begin}
use Rattle.report_laws.specs.QuietRing.{answers_told, IsQuietRingAt, IsQuietRing}
use Rattle.report_laws.proofs.KeptReports.{plain_report}
use Rattle.report_laws.proofs.Lines.{AreLater, all_later}
use Rattle.report_laws.proofs.Looks.{SpeaksOfQuiet, HoldsWhereQuiet, reports_obey, ended_obey}
use Rattle.report_laws.proofs.Ports.{report_port}
use Rattle.report_laws.proofs.Counts.{CountsAt}
use Rattle.report_laws.proofs.Answers.{report_counts}

-- no later line lets rings start elsewhere
one_start : (start : ℕ) (line : Line) → is_begin line ≡ false → start_told start line ≡ start
one_start start (lines.Begin config detail) e = absurd (true≢false e)
one_start start line e = refl

same_start : (start : ℕ) (ls : List Line) → AreLater ls → fold start_told start ls ≡ start
same_start start [] all = refl
same_start start (line ∷ ls) all = ap (λ (n : ℕ). fold start_told n ls) (one_start start line all.0) ∙ same_start start ls all.1

report_start : (config : Options) (detail : Detail) (history : List Happening) → start_of (report_of config detail history) ≡ config.start
report_start config detail history =
    plain_report (λ ls. start_of ls ≡ config.start) config detail history (same_start config.start (lines_keeping (map Plainly history) (world.start_of config)) (all_later (map Plainly history) (world.start_of config)))

-- a front in its loop, or closed, took as many responses as it told answers in this epoch
taken_at : (start n begins cons : ℕ) (s : FrontStage) → (s ≡ stage.Loop) ⊎ (s ≡ stage.Closed) → CountsAt start n begins cons s → cons ≡ wrapped start n
taken_at start n begins cons s (inl looping) h = subst (CountsAt start n begins cons) looping h
taken_at start n begins cons s (inr closed) h = subst (CountsAt start n begins cons) closed h

served_where_quiet : (config : Options) (history : List Happening) → IsPlain config → AreServed history (world.start_of config) → is_quiet (after history (world.start_of config)) ≡ true → IsQuietRingAt (report_of config Moves history) lines.Quiet
served_where_quiet config history plain may quiet ready = record {
  served = requests ∙ (rest.served ∙ sym responses);
  read = responses ∙ (sym rest.read ∙ (taken ∙ ap (λ (n : ℕ). (n + answers_told report) % 2 ^ 32) (sym (report_start config Moves history))));
}
  where
    w : World
    w = after history (world.start_of config)

    report : List Line
    report = report_of config Moves history

    tells : Tells report w.under.pages w.under.grants
    tells = (report_follows config Moves history plain.order).tells

    requests : value_before report 2 0 ≡ word_of w.under.pages 2 0
    requests = tells.values 2 0 (omega arith) (omega arith)

    responses : value_before report 2 2 ≡ word_of w.under.pages 2 2
    responses = tells.values 2 2 (omega arith) (omega arith)

    idle : IsIdleRing w
    idle = quiet_rests config w quiet (always_stands config history plain may)

    rest : IsDrained w.under.pages w.front.ring.indices.cons w.back.ring.indices.cons
    rest = idle.ring (report_port config Moves history ready)

    taken : w.front.ring.indices.cons ≡ wrapped config.start (answers_told report)
    taken = taken_at config.start (answers_told report) w.front.start w.front.ring.indices.cons w.front.stage idle.front_at (report_counts config Moves history plain ready)

quiet_free : SpeaksOfQuiet IsQuietRingAt
quiet_free before lines.Quiet e = absurd (true≢false e)
quiet_free before line e = tt

quiet_where_quiet : (config : Options) (history : List Happening) → IsPlain config → AreServed history (world.start_of config) → HoldsWhereQuiet IsQuietRingAt config Moves history
quiet_where_quiet config history plain may first rest e quiet =
    served_where_quiet config first plain (served_first first rest (world.start_of config) (subst (λ (hs : List Happening). AreServed hs (world.start_of config)) e may)) quiet

report_quiet_moves : (config : Options) (history : List Happening) → IsPlain config → AreServed history (world.start_of config) → IsQuietRing (kept_of Moves (report_of config Moves history))
report_quiet_moves config history plain may =
    subst IsQuietRing (sym (report_kept config history)) (reports_obey IsQuietRingAt quiet_free config Moves history may (quiet_where_quiet config history plain may))

ended_quiet_moves : (config : Options) (history : List Happening) → IsPlain config → AreServed history (world.start_of config) → IsQuietRing (kept_of Moves (ended_report_of config Moves history))
ended_quiet_moves config history plain may =
    subst IsQuietRing (sym (ended_kept config history)) (ended_obey IsQuietRingAt quiet_free config Moves history may (quiet_where_quiet config history plain may))

-- of each report that shows the moves
pub report_quiet : (config : Options) (detail : Detail) (history : List Happening) → IsPlain config → AreServed history (world.start_of config) → detail ≡ Moves → IsQuietRing (kept_of detail (report_of config detail history))
report_quiet config detail history plain may same = subst (λ (d : Detail). IsQuietRing (kept_of d (report_of config d history))) (sym same) (report_quiet_moves config history plain may)

pub ended_quiet : (config : Options) (detail : Detail) (history : List Happening) → IsPlain config → AreServed history (world.start_of config) → detail ≡ Moves → IsQuietRing (kept_of detail (ended_report_of config detail history))
ended_quiet config detail history plain may same = subst (λ (d : Detail). IsQuietRing (kept_of d (ended_report_of config d history))) (sym same) (ended_quiet_moves config history plain may)
