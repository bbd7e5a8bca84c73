-- Every report begins with one `begin` line, and shows moves where that says so.
use Rattle.std.proofs.Common.{◌≡◌, false, List, [], ◌∷◌, ◌++◌, refl, ap, sym, subst, true≢false}
use Rattle.std.specs.Prelude.{All, map}
use Rattle.std.specs.List.{AllByRecursion}
use Rattle.std.proofs.lemmas.List.Elements.{All-from_recursion, recursion_from_All}
use Rattle.blk_base.specs.Options.{Options}
use Rattle.schedule_text.specs.declared.line.Detail.{Detail}
use Rattle.schedule_text.specs.declared.line.Detail.TheVariants.{Lines, Moves}
use Rattle.schedule_text.specs.declared.line.Line.{Line}
use Rattle.schedule_text.specs.declared.line.Line.TheVariants as lines
use Rattle.schedule_text.specs.Recorder.{recorded}
use Rattle.split_model.specs.World.{start_of}
use Rattle.split_model.specs.Happening.{Happening}
use Rattle.split_model.specs.Kept.{KeepingHappening, Plainly, lines_keeping}
use Rattle.schedule_text.specs.Recorder.{kept_of}
use Rattle.split_model.specs.Report.{report_of, ended_report_of}
use Rattle.move_laws.specs.Kept.{report_keeping, ended_report_keeping}
use Rattle.report_laws.specs.Begun.{is_begin, is_move, IsBegun, IsBegunSoFar}
use Rattle.split_model.proofs.Showing.{both_all}
use Rattle.report_laws.proofs.KeptReports.{plain_report, plain_ended}
use Rattle.report_laws.proofs.Lines.{AreLater, both_later, all_later}

abbrev AreUnmoved : List Line → Type 0
AreUnmoved ls = AllByRecursion (λ (line : Line). is_move line ≡ false) ls

one_later : (detail : Detail) (line : Line) → is_begin line ≡ false → AreLater (recorded detail line)
one_later detail (lines.Begin config other) e = absurd (true≢false e)
one_later Lines (lines.Move move) e = tt
one_later Moves (lines.Move move) e = (refl, tt)
one_later detail line e = (e, tt)

kept_later : (detail : Detail) (ls : List Line) → AreLater ls → AreLater (kept_of detail ls)
kept_later detail [] all = tt
kept_later detail (line ∷ ls) all = both_later (recorded detail line) (kept_of detail ls) (one_later detail line all.0) (kept_later detail ls all.1)

one_unmoved : (line : Line) → AreUnmoved (recorded Lines line)
one_unmoved (lines.Move move) = tt
one_unmoved line = (refl, tt)

kept_unmoved : (ls : List Line) → AreUnmoved (kept_of Lines ls)
kept_unmoved [] = tt
kept_unmoved (line ∷ ls) = both_all (λ (x : Line). is_move x ≡ false) (recorded Lines line) (kept_of Lines ls) (one_unmoved line) (kept_unmoved ls)

begun_with : (config : Options) (detail : Detail) (ls : List Line) → AreLater ls → IsBegun config detail (kept_of detail (lines.Begin config detail ∷ ls))
begun_with config detail ls all = record {
  rest = kept_of detail ls;
  first = refl;
  once = All-from_recursion (λ (line : Line). is_begin line ≡ false) (kept_of detail ls) (kept_later detail ls all);
  unmoved = λ same. All-from_recursion (λ (line : Line). is_move line ≡ false) (kept_of detail ls) (subst (λ (d : Detail). AreUnmoved (kept_of d ls)) (sym same) (kept_unmoved ls));
}

pub report_begun_keeping : (config : Options) (detail : Detail) (history : List KeepingHappening) → IsBegun config detail (kept_of detail (report_keeping config detail history))
report_begun_keeping config detail history = begun_with config detail (lines_keeping history (start_of config)) (all_later history (start_of config))

pub ended_begun_keeping : (config : Options) (detail : Detail) (history : List KeepingHappening) → IsBegun config detail (kept_of detail (ended_report_keeping config detail history))
ended_begun_keeping config detail history =
    begun_with config detail (lines_keeping history (start_of config) ++ lines.End ∷ []) (both_later (lines_keeping history (start_of config)) (lines.End ∷ []) (all_later history (start_of config)) (refl, tt))

-- where none are kept
pub report_begun : (config : Options) (detail : Detail) (history : List Happening) → IsBegun config detail (kept_of detail (report_of config detail history))
report_begun config detail history = plain_report (λ ls. IsBegun config detail (kept_of detail ls)) config detail history (report_begun_keeping config detail (map Plainly history))

pub ended_begun : (config : Options) (detail : Detail) (history : List Happening) → IsBegun config detail (kept_of detail (ended_report_of config detail history))
ended_begun config detail history = plain_ended (λ ls. IsBegun config detail (kept_of detail ls)) config detail history (ended_begun_keeping config detail (map Plainly history))

-- the first of all lines
pub all_first : (P : Line → Type 0) (a b : List Line) → AllByRecursion P (a ++ b) → AllByRecursion P a
all_first P [] b all = tt
all_first P (line ∷ a) b all = (all.0, all_first P a b all.1)

all_before : (P : Line → Type 0) (a b rest : List Line) → a ++ b ≡ rest → All P rest → All P a
all_before P a b rest same all = All-from_recursion P a (all_first P a b (recursion_from_All P (a ++ b) (subst (All P) (sym same) all)))

-- what is begun is begun up to each of its lines
pub begun_before : (config : Options) (detail : Detail) (report more : List Line) → IsBegun config detail (report ++ more) → IsBegunSoFar config detail report
begun_before config detail [] more h = tt
begun_before config detail (line ∷ report) more h =
    let tails : report ++ more ≡ h.rest = (let first = h.first in cc) in
    let heads : line ≡ lines.Begin config detail = (let first = h.first in cc) in
    record {
      rest = report;
      first = ap (λ (x : Line). x ∷ report) heads;
      once = all_before (λ (x : Line). is_begin x ≡ false) report more h.rest tails h.once;
      unmoved = λ same. all_before (λ (x : Line). is_move x ≡ false) report more h.rest tails (h.unmoved same);
    }
