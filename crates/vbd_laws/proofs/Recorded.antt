-- What a recorder of moves keeps of a report with moves is all of it.
use Rattle.std.proofs.Common.{◌≡◌, List, sym, subst, ap, ◌∙◌}
use Rattle.blk_base.specs.Options.{Options}
use Rattle.schedule_text.specs.declared.line.Line.{Line}
use Rattle.schedule_text.specs.declared.line.Detail.{Detail}
use Rattle.schedule_text.specs.declared.line.Detail.TheVariants.{Moves}
use Rattle.schedule_text.specs.Recorder.{kept_of}
use Rattle.move_laws.proofs.Recorded.{report_kept, ended_kept}
use Rattle.vbd_model.specs.World.{start_of}
use Rattle.vbd_model.specs.Happening.{Happening, all_does}
use Rattle.vbd_model.specs.Report.{report_of, ended_report_of}
use Rattle.vbd_model.proofs.Running.{report_lift, ended_report_lift}

all_kept : (config : Options) (history : List Happening) → kept_of Moves (report_of config Moves history) ≡ report_of config Moves history
all_kept config history =
    let lift = report_lift config Moves history in
    ap (kept_of Moves) lift ∙ (report_kept config (all_does history (start_of config)) ∙ sym lift)

ended_all : (config : Options) (history : List Happening) → kept_of Moves (ended_report_of config Moves history) ≡ ended_report_of config Moves history
ended_all config history =
    let lift = ended_report_lift config Moves history in
    ap (kept_of Moves) lift ∙ (ended_kept config (all_does history (start_of config)) ∙ sym lift)

-- so what holds of the whole report holds of what is recorded
pub report_recorded : (P : List Line → Type 0) (config : Options) (detail : Detail) (history : List Happening) → detail ≡ Moves → P (report_of config Moves history)
    → P (kept_of detail (report_of config detail history))
report_recorded P config detail history same is = subst (λ (d : Detail). P (kept_of d (report_of config d history))) (sym same) (subst P (sym (all_kept config history)) is)

pub ended_recorded : (P : List Line → Type 0) (config : Options) (detail : Detail) (history : List Happening) → detail ≡ Moves → P (ended_report_of config Moves history)
    → P (kept_of detail (ended_report_of config detail history))
ended_recorded P config detail history same is = subst (λ (d : Detail). P (kept_of d (ended_report_of config d history))) (sym same) (subst P (sym (ended_all config history)) is)
