-- A recorder that shows moves keeps every line of what happened, whether mappings are kept or not.
use Rattle.std.proofs.Common.{◌≡◌, List, [], ◌∷◌, ◌++◌, refl, ap, ◌∙◌}
use Rattle.std.specs.List.{AllByRecursion}
use Rattle.blk_base.specs.Options.{Options}
use Rattle.schedule_text.specs.declared.line.Detail.TheVariants.{Moves}
use Rattle.schedule_text.specs.declared.line.Line.{Line}
use Rattle.schedule_text.specs.declared.line.Line.TheVariants as lines
use Rattle.schedule_text.specs.Recorder.{recorded, kept_of}
use Rattle.split_model.specs.World.{World, start_of}
use Rattle.blk_base.specs.declared.parts.End.TheVariants as end
use Rattle.split_model.specs.Keys.{TakesWatch}
use Rattle.split_model.specs.Happening.{Happening, Negotiates, Dumps, happens, lines_at, lines_of}
use Rattle.split_model.specs.Kept.{KeepingHappening, Plainly, happens_keeping, shows_keeping, lines_keeping}
use Rattle.split_model.specs.Report.{report_of, ended_report_of}
use Rattle.split_model.proofs.Showing.{MayShow, lines_are}
use Rattle.split_model.proofs.Running.{kept_of-append}
use Rattle.move_laws.specs.Kept.{report_keeping, ended_report_keeping}
use Rattle.move_laws.proofs.KeptLines.{MayShowKeeping, lines_keeping_are}

abbrev AreKept : List Line → Type 0
AreKept ls = kept_of Moves ls ≡ ls

abbrev IsKept : Line → Type 0
IsKept line = recorded Moves line ≡ line ∷ []

all_kept : (ls : List Line) → AllByRecursion IsKept ls → AreKept ls
all_kept [] all = refl
all_kept (line ∷ ls) all = ap (λ (l : List Line). l ++ kept_of Moves ls) all.0 ∙ ap (λ (l : List Line). line ∷ l) (all_kept ls all.1)

both_kept : (a b : List Line) → AreKept a → AreKept b → AreKept (a ++ b)
both_kept a b p q = kept_of-append Moves a b ∙ (ap (λ (l : List Line). l ++ kept_of Moves b) p ∙ ap (λ (l : List Line). a ++ l) q)

-- a recorder writes its own word into a `begin` line, and no happening shows one
kept : (h : Happening) (line : Line) → MayShow h line → IsKept line
kept Dumps (lines.Begin config detail) shows = absurd shows
kept h (lines.Begin config detail) shows = absurd shows
kept h line shows = refl

kept_keeping : (h : KeepingHappening) (line : Line) → MayShowKeeping h line → IsKept line
kept_keeping (Plainly h) line shows = kept h line shows
kept_keeping h line shows = kept (Negotiates end.Back TakesWatch) line shows

lines_at_kept : (w : World) (h : Happening) → AreKept (lines_at w h)
lines_at_kept w h = all_kept (lines_at w h) (lines_are IsKept w h (kept h))

pub lines_kept : (history : List Happening) (w : World) → kept_of Moves (lines_of history w) ≡ lines_of history w
lines_kept [] w = refl
lines_kept (h ∷ history) w = both_kept (lines_at w h) (lines_of history (happens w h)) (lines_at_kept w h) (lines_kept history (happens w h))

pub report_kept : (config : Options) (history : List Happening) → kept_of Moves (report_of config Moves history) ≡ report_of config Moves history
report_kept config history = ap (λ (l : List Line). lines.Begin config Moves ∷ l) (lines_kept history (start_of config))

pub ended_kept : (config : Options) (history : List Happening) → kept_of Moves (ended_report_of config Moves history) ≡ ended_report_of config Moves history
ended_kept config history = both_kept (report_of config Moves history) (lines.End ∷ []) (report_kept config history) refl

-- and where mappings may be kept
pub lines_kept_keeping : (history : List KeepingHappening) (w : World) → kept_of Moves (lines_keeping history w) ≡ lines_keeping history w
lines_kept_keeping [] w = refl
lines_kept_keeping (h ∷ history) w =
    both_kept (shows_keeping w h) (lines_keeping history (happens_keeping w h)) (all_kept (shows_keeping w h) (lines_keeping_are IsKept w h (kept_keeping h))) (lines_kept_keeping history (happens_keeping w h))

pub report_kept_keeping : (config : Options) (history : List KeepingHappening) → kept_of Moves (report_keeping config Moves history) ≡ report_keeping config Moves history
report_kept_keeping config history = ap (λ (l : List Line). lines.Begin config Moves ∷ l) (lines_kept_keeping history (start_of config))

pub ended_kept_keeping : (config : Options) (history : List KeepingHappening) → kept_of Moves (ended_report_keeping config Moves history) ≡ ended_report_keeping config Moves history
ended_kept_keeping config history = both_kept (report_keeping config Moves history) (lines.End ∷ []) (report_kept_keeping config history) refl
