-- Where each settling ends in quiet no line of the report is `unsettled`.
use Rattle.std.proofs.Common.{◌≡◌, Bool, true, false, true≢false, if◌then◌else◌, List, [], ◌∷◌, ◌++◌, refl, ap, ◌∙◌}
use Rattle.std.specs.Prelude.{map, ◌&&◌}
use Rattle.std.specs.List.{AllByRecursion, list_all}
use Rattle.std.proofs.lemmas.List.Elements.{All-from_recursion, recursion_from_All}
use Rattle.line_text.proofs.Both.{both_true}
use Rattle.blk_base.specs.Options.{Options}
use Rattle.schedule_text.specs.declared.line.Detail.{Detail}
use Rattle.schedule_text.specs.declared.line.Detail.TheVariants.{Lines}
use Rattle.schedule_text.specs.declared.line.Line.{Line}
use Rattle.schedule_text.specs.declared.line.Line.TheVariants as lines
use Rattle.schedule_text.specs.Recorder.{kept_of, recorded}
use Rattle.split_model.specs.World.{World, start_of}
use Rattle.split_model.specs.Happening.{Happening, Looks, Settles}
use Rattle.split_model.specs.Kept.{KeepingHappening, Plainly, plainly_shows, shows_keeping, happens_keeping, lines_keeping}
use Rattle.split_model.specs.Report.{report_of, ended_report_of}
use Rattle.split_model.proofs.Showing.{MayShow, both_all}
use Rattle.move_laws.specs.Kept.{report_keeping, ended_report_keeping}
use Rattle.move_laws.proofs.KeptLines.{plainly_are}
use Rattle.report_laws.proofs.Begun.{all_first}
use Rattle.report_laws.specs.Settled.{is_unsettled, IsSettled, ends_quiet, AreSettled}
use Rattle.report_laws.specs.Kept.{ends_quiet_keeping, AreSettledKeeping}
use Rattle.report_laws.proofs.KeptReports.{as_plain, keeping_are, plain_report, plain_ended}

abbrev IsSettledLine : Line → Type 0
IsSettledLine line = is_unsettled line ≡ false

abbrev is_look : Happening → Bool
is_look (Looks quiet) = true
is_look (Settles quiet) = true
is_look h = false

-- nothing but what looks shows that rounds ran out
none_unsettled : (h : Happening) → is_look h ≡ false → MayShow h lines.Unsettled → IsSettledLine lines.Unsettled
none_unsettled (Looks quiet) other shows = absurd (true≢false other)
none_unsettled (Settles quiet) other shows = absurd (true≢false other)
none_unsettled h other shows = absurd shows

settled_line : (h : Happening) (line : Line) → is_look h ≡ false → MayShow h line → IsSettledLine line
settled_line h lines.Unsettled other shows = none_unsettled h other shows
settled_line h line other shows = refl

found_line : (quiet : Bool) (other : Line) → IsSettledLine other → IsSettledLine (if quiet then lines.Quiet else other)
found_line true other is = refl
found_line false other is = is

settling_line : (quiet : Bool) → quiet ≡ true → IsSettledLine (if quiet then lines.Quiet else lines.Unsettled)
settling_line quiet is = rw is refl

one_settled : (w : World) (h : Happening) → ends_quiet h ≡ true → AllByRecursion IsSettledLine (plainly_shows w h)
one_settled w (Looks quiet) ends = (found_line quiet lines.Busy refl, tt)
one_settled w (Settles quiet) ends = (settling_line quiet ends, tt)
one_settled w h ends = plainly_are IsSettledLine w h (λ line shows. settled_line h line refl shows)

keeping_settled : (w : World) (h : KeepingHappening) → ends_quiet_keeping h ≡ true → AllByRecursion IsSettledLine (shows_keeping w h)
keeping_settled w (Plainly h) ends = one_settled w h ends
keeping_settled w h ends = keeping_are IsSettledLine w h (λ line shows. settled_line (as_plain h) line refl shows)

lines_settled : (history : List KeepingHappening) (w : World) → AreSettledKeeping history → AllByRecursion IsSettledLine (lines_keeping history w)
lines_settled [] w ends = tt
lines_settled (h ∷ history) w ends =
    let both = both_true (ends_quiet_keeping h) (list_all ends_quiet_keeping history) ends in
    both_all IsSettledLine (shows_keeping w h) (lines_keeping history (happens_keeping w h)) (keeping_settled w h both.0) (lines_settled history (happens_keeping w h) both.1)

-- what a recorder keeps
recorded_settled : (detail : Detail) (line : Line) → IsSettledLine line → AllByRecursion IsSettledLine (recorded detail line)
recorded_settled word (lines.Begin config other) is = (refl, tt)
recorded_settled Lines (lines.Move move) is = tt
recorded_settled other line is = (is, tt)

kept_settled : (detail : Detail) (report : List Line) → AllByRecursion IsSettledLine report → AllByRecursion IsSettledLine (kept_of detail report)
kept_settled detail [] all = tt
kept_settled detail (line ∷ report) all = both_all IsSettledLine (recorded detail line) (kept_of detail report) (recorded_settled detail line all.0) (kept_settled detail report all.1)

all_settled : (detail : Detail) (report : List Line) → AllByRecursion IsSettledLine report → IsSettled (kept_of detail report)
all_settled detail report all = All-from_recursion IsSettledLine (kept_of detail report) (kept_settled detail report all)

pub report_settled_keeping : (config : Options) (detail : Detail) (history : List KeepingHappening) → AreSettledKeeping history → IsSettled (kept_of detail (report_keeping config detail history))
report_settled_keeping config detail history ends = all_settled detail (report_keeping config detail history) (refl, lines_settled history (start_of config) ends)

pub ended_settled_keeping : (config : Options) (detail : Detail) (history : List KeepingHappening) → AreSettledKeeping history → IsSettled (kept_of detail (ended_report_keeping config detail history))
ended_settled_keeping config detail history ends =
    all_settled detail (ended_report_keeping config detail history) (both_all IsSettledLine (report_keeping config detail history) (lines.End ∷ []) (refl, lines_settled history (start_of config) ends) (refl, tt))

-- where none are kept
plain_settled : (history : List Happening) → list_all ends_quiet_keeping (map Plainly history) ≡ list_all ends_quiet history
plain_settled [] = refl
plain_settled (h ∷ history) = ap (λ (b : Bool). ends_quiet h && b) (plain_settled history)

pub report_settled : (config : Options) (detail : Detail) (history : List Happening) → AreSettled history → IsSettled (kept_of detail (report_of config detail history))
report_settled config detail history ends =
    plain_report (λ ls. IsSettled (kept_of detail ls)) config detail history (report_settled_keeping config detail (map Plainly history) (plain_settled history ∙ ends))

pub ended_settled : (config : Options) (detail : Detail) (history : List Happening) → AreSettled history → IsSettled (kept_of detail (ended_report_of config detail history))
ended_settled config detail history ends =
    plain_ended (λ ls. IsSettled (kept_of detail ls)) config detail history (ended_settled_keeping config detail (map Plainly history) (plain_settled history ∙ ends))

-- the first part of such a report is one
pub settled_before : (first more : List Line) → IsSettled (first ++ more) → IsSettled first
settled_before first more all = All-from_recursion IsSettledLine first (all_first IsSettledLine first more (recursion_from_All IsSettledLine (first ++ more) all))
