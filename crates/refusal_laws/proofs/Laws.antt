-- So every report of the machine answers each submission by the first rule that applies.
use Rattle.std.proofs.Common.{◌≡◌, List, [], ◌∷◌, ◌++◌, refl, ap, sym, ◌∙◌, subst, append-nil}
use Rattle.std.proofs.lemmas.List.Elements.{filter_map-append}
use Rattle.blk_base.specs.Options.{Options}
use Rattle.blk_base.specs.declared.config.Submission.{Submission}
use Rattle.schedule_text.specs.declared.line.Detail.{Detail}
use Rattle.schedule_text.specs.declared.line.Line.TheVariants as lines
use Rattle.schedule_text.specs.Range.{AreOptions}
use Rattle.report_rules.proofs.Obeys.{obeys_more}
use Rattle.split_model.specs.Report as ring_report
use Rattle.machine_pipeline.specs.Submissions as ring
use Rattle.vbd_model.specs.World.{World, start_of}
use Rattle.vbd_model.specs.Happening.{Happening, FrontMoves, BackMoves, Closes, does, happens, all_does}
use Rattle.vbd_model.specs.Possible.{ArePossible}
use Rattle.vbd_model.specs.Report.{report_of, ended_report_of}
use Rattle.vbd_model.proofs.Running.{report_lift}
use Rattle.vbd_model.proofs.Submitting.{moves_submit}
use Rattle.vbd_laws.proofs.ServedPossible.{stands_start, all_possible}
use Rattle.refusal_laws.specs.Ruled.{IsRuledAt, AreRuled}
use Rattle.refusal_laws.specs.Laws.{submitted_at, submitted_of, EachReportIsRuled, EachEndedIsRuled}
use Rattle.refusal_laws.proofs.Serves.{machine_serves}
use Rattle.refusal_laws.proofs.Runs as runs
use Rattle.refusal_laws.proofs.Kept.{kept_ruled}

-- the requests that a history submits are those that it submits to the ring's machine
one_submits : (h : Happening) (w : World) → ring.submitted_of (all_does (h ∷ []) w) ≡ submitted_of (h ∷ [])
one_submits FrontMoves w = moves_submit (FrontMoves ∷ []) w (refl, tt)
one_submits BackMoves w = moves_submit (BackMoves ∷ []) w (refl, tt)
one_submits (Closes at) w = moves_submit (Closes at ∷ []) w (refl, tt)
one_submits h w = refl

does_submit : (h : Happening) (w : World) → ring.submitted_of (does w h) ≡ submitted_of (h ∷ [])
does_submit h w = ap ring.submitted_of (sym (append-nil (does w h))) ∙ one_submits h w

all_submit : (hs : List Happening) (w : World) → ring.submitted_of (all_does hs w) ≡ submitted_of hs
all_submit [] w = refl
all_submit (h ∷ hs) w =
    filter_map-append ring.submitted_at (does w h) (all_does hs (happens w h))
    ∙ (ap (λ (js : List Submission). js ++ ring.submitted_of (all_does hs (happens w h))) (does_submit h w)
    ∙ (ap (λ (js : List Submission). submitted_of (h ∷ []) ++ js) (all_submit hs (happens w h)) ∙ sym (filter_map-append submitted_at (h ∷ []) hs)))

-- of the report of the ring's machine
pub rings_ruled : (config : Options) (detail : Detail) (history : List Happening) → AreOptions config → ArePossible history (start_of config) → AreRuled (ring.submitted_of (all_does history (start_of config))) (ring_report.report_of config detail (all_does history (start_of config)))
rings_ruled config detail history are possible =
    runs.report_ruled config detail (all_does history (start_of config)) are.2 (all_possible history (start_of config) (stands_start config are) possible) (machine_serves config history are)

whole_ruled : (config : Options) (detail : Detail) (history : List Happening) → AreOptions config → ArePossible history (start_of config) → AreRuled (submitted_of history) (report_of config detail history)
whole_ruled config detail history are possible =
    subst (λ (submissions : List Submission). AreRuled submissions (report_of config detail history)) (all_submit history (start_of config))
    (subst (AreRuled (ring.submitted_of (all_does history (start_of config)))) (sym (report_lift config detail history)) (rings_ruled config detail history are possible))

pub report_ruled : EachReportIsRuled
report_ruled config detail history are possible = kept_ruled (submitted_of history) detail (report_of config detail history) (whole_ruled config detail history are possible)

pub ended_ruled : EachEndedIsRuled
ended_ruled config detail history are possible =
    kept_ruled (submitted_of history) detail (ended_report_of config detail history)
    (obeys_more (IsRuledAt (submitted_of history)) (report_of config detail history) lines.End (whole_ruled config detail history are possible) tt)
