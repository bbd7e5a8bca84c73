-- Of each report with moves: `broken` stands exactly where it is due, and each answer is the response that was read.
use Rattle.std.proofs.Common.{◌≡◌, ◌<◌, ◌^◌, true≢false, List, [], ◌∷◌, ◌++◌, refl, sym, subst, append_assoc, append-nil, arith}
use Rattle.std.specs.Prelude.{None}
use Rattle.std.proofs.lemmas.List.Elements.{All-nil}
use Rattle.std.proofs.lemmas.List.Sums.{fold-append}
use Rattle.blk_base.specs.Options.{Options}
use Rattle.schedule_text.specs.declared.line.Detail.TheVariants.{Moves}
use Rattle.schedule_text.specs.declared.line.Line.{Line}
use Rattle.schedule_text.specs.declared.line.Line.TheVariants as lines
use Rattle.schedule_text.specs.Range.{AreOptions}
use Rattle.report_rules.proofs.Obeys.{obeys_none, obeys_more}
use Rattle.vbd_model.specs.World.{start_of}
use Rattle.vbd_model.specs.Happening.{Happening}
use Rattle.vbd_model.specs.Report.{report_of, ended_report_of}
use Rattle.vbd_model.proofs.Tight.{tight_start}
use Rattle.vbd_laws.specs.Breaks.{FrontSight, nothing_told, after_line, told_by, IsBreakAt, AreBreaksDue, IsOverAt, IsOverOnce, EachReportIsOverOnce, EachEndedIsOverOnce, EachReportBreaksWhereDue, EachEndedBreaksWhereDue}
use Rattle.vbd_laws.specs.AnswersRead.{IsReadAt, AreRead, EachReportAnswersWhatIsRead, EachEndedAnswersWhatIsRead}
use Rattle.vbd_laws.proofs.BreaksKnown.{HasPooled}
use Rattle.vbd_laws.proofs.BreaksMoves.{IsGood, AllGood, Holds}
use Rattle.vbd_laws.proofs.Recorded.{report_recorded, ended_recorded}
use Rattle.vbd_laws.proofs.ServedPossible.{stands_start}
use Rattle.vbd_laws.proofs.BreaksRun.{run}

-- before anything happened
start_good : (config : Options) → IsGood nothing_told (lines.Begin config Moves)
start_good config = (refl, tt, λ over. refl)

start_holds : (config : Options) → config.start < 2 ^ 32 → Holds (after_line nothing_told (lines.Begin config Moves)) (start_of config)
start_holds config small = record {
  due = refl;
  known = λ opened. record {
    agree = record {
      start = refl;
      shape = refl;
      small = small;
      prod = refl;
      cons = refl;
      pooled = All-nil HasPooled;
      once = λ n. omega arith;
      fresh = λ n past. refl;
      waits = omega arith;
      issued = λ n. refl;
      owed = λ n. refl;
    };
    at = ((refl, refl), refl);
  };
  placed = tt;
  still = λ reads. absurd (true≢false (sym reads));
  over = λ over. absurd (true≢false (sym over));
}

-- what each line obeys is what the rules say of it after those before
-- all three rules
abbrev AreKept : List Line → Type 0
AreKept report = AreBreaksDue report × AreRead report × IsOverOnce report

one_more : (before : List Line) (line : Line) → AreKept before → IsGood (told_by before) line → AreKept (before ++ line ∷ [])
one_more before line are good = (obeys_more IsBreakAt before line are.0 good.0, obeys_more IsReadAt before line are.1 good.1, obeys_more IsOverAt before line are.2 good.2)

good_from : (before ls : List Line) → AreKept before → AllGood (told_by before) ls → AreKept (before ++ ls)
good_from before [] are all = subst AreKept (sym (append-nil before)) are
good_from before (line ∷ ls) are all =
    subst AreKept (append_assoc before (line ∷ []) ls)
    (good_from (before ++ line ∷ []) ls (one_more before line are all.0) (subst (λ (x : FrontSight). AllGood x ls) (sym (fold-append after_line nothing_told before (line ∷ []))) all.1))

report_good : (config : Options) (history : List Happening) → AreOptions config → AllGood nothing_told (report_of config Moves history) × ((let x : FrontSight = told_by (report_of config Moves history) in x.due) ≡ None)
report_good config history are =
    let goes = run (after_line nothing_told (lines.Begin config Moves)) history (start_of config) (stands_start config are) (tight_start config are.0 are.3) (start_holds config are.3) in
    ((start_good config, goes.0), goes.1)

report_runs : (config : Options) (history : List Happening) → AreOptions config → AreKept (report_of config Moves history)
report_runs config history are = good_from [] (report_of config Moves history) (obeys_none IsBreakAt, obeys_none IsReadAt, obeys_none IsOverAt) (report_good config history are).0

ended_runs : (config : Options) (history : List Happening) → AreOptions config → AreKept (ended_report_of config Moves history)
ended_runs config history are = one_more (report_of config Moves history) lines.End (report_runs config history are) (sym (report_good config history are).1, tt, λ over. refl)

pub report_breaks : EachReportBreaksWhereDue
report_breaks config detail history are same = report_recorded AreBreaksDue config detail history same (report_runs config history are).0

pub ended_breaks : EachEndedBreaksWhereDue
ended_breaks config detail history are same = ended_recorded AreBreaksDue config detail history same (ended_runs config history are).0

pub report_reads : EachReportAnswersWhatIsRead
report_reads config detail history are same = report_recorded AreRead config detail history same (report_runs config history are).1

pub ended_reads : EachEndedAnswersWhatIsRead
ended_reads config detail history are same = ended_recorded AreRead config detail history same (ended_runs config history are).1

pub report_over : EachReportIsOverOnce
report_over config detail history are same = report_recorded IsOverOnce config detail history same (report_runs config history are).2

pub ended_over : EachEndedIsOverOnce
ended_over config detail history are same = ended_recorded IsOverOnce config detail history same (ended_runs config history are).2
