use Rattle.std.proofs.Common.{rules, ◌≡◌, ◌∙◌, sym, ap, subst, ℕ, Option, Some, None, Result, Ok, Err}
use Rattle.schedule_text.specs.declared.line.Line.{Line}
use Rattle.blk_io.specs.Outside.{SourceSeen}
use Rattle.report_lines.specs.Filling.{Ahead, Fills, IsLineAhead, FillsLine}
use Rattle.report_lines.specs.Giving.{GivesLine}
use Rattle.report_lines.specs.declared.reader.ReadStop.{ReadStop}
use Rattle.report_lines.specs.declared.reader.ReadStop.TheVariants.{BadLine, Source, TooLong, OutOfMemory}
use Rattle.report_lines.proofs.Giving.{gives_next, gives_end, gives_bad, gives_unspoken}
use Rattle.report_lines.proofs.lines.ReportLines.next_into.Goals as goal

stops_by : (stop : ReadStop) (a b : Ahead) (s t : SourceSeen) → FillsLine (Err stop) a b s t → GivesLine (Err stop) a b s t
stops_by BadLine a b s t h = gives_bad a b s t h.0 h.1
stops_by TooLong a b s t h = h
stops_by Source a b s t h = h
stops_by OutOfMemory a b s t h = h

stops : (result : Result (Option ℕ) ReadStop) (given : Result (Option Line) ReadStop) (stop : ReadStop) (a b : Ahead) (s t : SourceSeen) → result ≡ Err stop → given ≡ Err stop → FillsLine result a b s t → GivesLine given a b s t
stops result given stop a b s t is gives h = subst (λ r. GivesLine r a b s t) (sym gives) (stops_by stop a b s t (subst (λ r. FillsLine r a b s t) is h))

filled : (result : Result (Option ℕ) ReadStop) (n : ℕ) (a b : Ahead) (s t : SourceSeen) → result ≡ Ok (Some n) → FillsLine result a b s t → Fills a b s t × IsLineAhead n b.bytes
filled result n a b s t is h = subst (λ r. FillsLine r a b s t) is h

ended : (result : Result (Option ℕ) ReadStop) (n : Option ℕ) (a b : Ahead) (s t : SourceSeen) → result ≡ Ok n → n ≡ None → FillsLine result a b s t → GivesLine (Ok None) a b s t
ended result n a b s t is none h =
    let e = subst (λ r. FillsLine r a b s t) (is ∙ ap Ok none) h in
    gives_end a b s t e.0 e.1 e.2 e.3

pub returns-in_err-count : goal.returns-in_err-count
returns-in_err-count g c = rw (← c.self.view_is) (stops _ _ _ _ _ _ _ c.in_err-count.was (search rules) c.fill.ensures)

pub returns-in-Ok : goal.returns-in-Ok
returns-in-Ok g c =
    let f = filled _ _ _ _ _ _ (c.in_ok-count.was ∙ ap Ok c.in-Some.is) c.fill.ensures in
    rw (← c.self.view_is) (gives_next _ _ _ _ _ _ _ f.0 f.1 (rw c.ahead.ensures at c.in-Ok.ensures.found) c.skip.ensures)

pub returns-in-Err : goal.returns-in-Err
returns-in-Err g c =
    let f = filled _ _ _ _ _ _ (c.in_ok-count.was ∙ ap Ok c.in-Some.is) c.fill.ensures in
    rw (← c.self.view_is) (gives_unspoken _ _ _ _ _ f.0 f.1 (rw c.ahead.ensures at c.in-Err.ensures.only))

pub returns-in_default : goal.returns-in_default
returns-in_default g c = rw (← c.self.view_is) (ended _ _ _ _ _ _ c.in_ok-count.was (search rules) c.fill.ensures)
