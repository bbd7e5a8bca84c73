-- What holds wherever all is found quiet holds at each `quiet` line of the report, and so does what holds wherever the machine is quiet.
use Rattle.std.proofs.Common.{◌≡◌, Bool, true, false, if◌then◌else◌, List, [], ◌∷◌, ◌++◌, true≢false, refl, ap, sym, ◌∙◌, subst, append_assoc}
use Rattle.std.proofs.lemmas.List.{append-nil}
use Rattle.blk_base.specs.Options.{Options}
use Rattle.schedule_text.specs.declared.line.Detail.{Detail}
use Rattle.schedule_text.specs.declared.line.Detail.TheVariants.{Lines, Moves}
use Rattle.schedule_text.specs.declared.line.Line.{Line}
use Rattle.schedule_text.specs.declared.line.Line.TheVariants as lines
use Rattle.schedule_text.specs.Recorder.{recorded}
use Rattle.report_rules.specs.Obeys.{Obeys}
use Rattle.report_rules.proofs.Obeys.{obeys_none, obeys_more}
use Rattle.split_model.specs.World.{World, start_of, is_quiet}
use Rattle.split_model.specs.Happening.{Happening, Looks, Settles, happens, lines_at, after, lines_of}
use Rattle.schedule_text.specs.Recorder.{kept_of}
use Rattle.split_model.specs.Kept.{KeepingHappening, Plainly, shows_keeping}
use Rattle.split_model.specs.Report.{report_of, ended_report_of}
use Rattle.split_model.proofs.Running.{lines_of-append, kept_of-append}
use Rattle.machine_pipeline.specs.Allowed.{IsServed, AreServed}
use Rattle.report_laws.proofs.KeptReports.{as_plain}
use Rattle.report_laws.proofs.Lines.{says_quiet, AreUnquiet, shows_unquiet, keeping_unquiet}

-- a rule that says nothing of any other line than `quiet`
abbrev pub SpeaksOfQuiet : (List Line → Line → Type 0) → Type 0
SpeaksOfQuiet Rule = (before : List Line) (line : Line) → says_quiet line ≡ false → Rule before line

unquiet_obey : (Rule : List Line → Line → Type 0) → SpeaksOfQuiet Rule → (more before : List Line) → AreUnquiet more → Obeys Rule before → Obeys Rule (before ++ more)
unquiet_obey Rule free [] before all obeys = subst (Obeys Rule) (sym (append-nil before)) obeys
unquiet_obey Rule free (line ∷ more) before all obeys =
    subst (Obeys Rule) (append_assoc before (line ∷ []) more)
    (unquiet_obey Rule free more (before ++ line ∷ []) all.1 (obeys_more Rule before line obeys (free before line all.0)))

look_obeys : (Rule : List Line → Line → Type 0) → SpeaksOfQuiet Rule → (before : List Line) (quiet : Bool) (other : Line) → says_quiet other ≡ false → (quiet ≡ true → Rule before lines.Quiet) → Obeys Rule before → Obeys Rule (before ++ (if quiet then lines.Quiet else other) ∷ [])
look_obeys Rule free before true other e holds obeys = obeys_more Rule before lines.Quiet obeys (holds refl)
look_obeys Rule free before false other e holds obeys = obeys_more Rule before other obeys (free before other e)

-- a look, or the end of the rounds, that finds all quiet
abbrev pub finds_quiet : Happening → Bool
finds_quiet (Looks quiet) = quiet
finds_quiet (Settles quiet) = quiet
finds_quiet h = false

-- the line of what it finds, or lines of which none says `quiet`
abbrev SaysFound : Happening → List Line → Type 0
SaysFound (Looks quiet) shown = shown ≡ (if quiet then lines.Quiet else lines.Busy) ∷ []
SaysFound (Settles quiet) shown = shown ≡ (if quiet then lines.Quiet else lines.Unsettled) ∷ []
SaysFound h shown = AreUnquiet shown

says_found : (w : World) (h : Happening) → SaysFound h (lines_at w h)
says_found w (Looks quiet) = refl
says_found w (Settles quiet) = refl
says_found w h = shows_unquiet w h tt

keeping_found : (w : World) (h : KeepingHappening) → SaysFound (as_plain h) (shows_keeping w h)
keeping_found w (Plainly (Looks quiet)) = refl
keeping_found w (Plainly (Settles quiet)) = refl
keeping_found w h = keeping_unquiet w h tt

found_obeys : (Rule : List Line → Line → Type 0) → SpeaksOfQuiet Rule → (before : List Line) (h : Happening) (shown : List Line) → SaysFound h shown → (finds_quiet h ≡ true → Rule before lines.Quiet) → Obeys Rule before
    → Obeys Rule (before ++ shown)
found_obeys Rule free before (Looks quiet) shown says holds obeys = rw says (look_obeys Rule free before quiet lines.Busy refl holds obeys)
found_obeys Rule free before (Settles quiet) shown says holds obeys = rw says (look_obeys Rule free before quiet lines.Unsettled refl holds obeys)
found_obeys Rule free before h shown says holds obeys = unquiet_obey Rule free shown before says obeys

one_obeys : (Rule : List Line → Line → Type 0) → SpeaksOfQuiet Rule → (before : List Line) (w : World) (h : Happening) → (finds_quiet h ≡ true → Rule before lines.Quiet) → Obeys Rule before → Obeys Rule (before ++ lines_at w h)
one_obeys Rule free before w h holds obeys = found_obeys Rule free before h (lines_at w h) (says_found w h) holds obeys

-- and where mappings may be kept
pub keeping_obeys : (Rule : List Line → Line → Type 0) → SpeaksOfQuiet Rule → (before : List Line) (w : World) (h : KeepingHappening) → (finds_quiet (as_plain h) ≡ true → Rule before lines.Quiet) → Obeys Rule before
    → Obeys Rule (before ++ shows_keeping w h)
keeping_obeys Rule free before w h holds obeys = found_obeys Rule free before (as_plain h) (shows_keeping w h) (keeping_found w h) holds obeys

pub begun_obeys : (Rule : List Line → Line → Type 0) → SpeaksOfQuiet Rule → (config : Options) (detail : Detail) → Obeys Rule (lines.Begin config detail ∷ [])
begun_obeys Rule free config detail = obeys_more Rule [] (lines.Begin config detail) (obeys_none Rule) (free [] (lines.Begin config detail) refl)

pub over_obeys : (Rule : List Line → Line → Type 0) → SpeaksOfQuiet Rule → (report : List Line) → Obeys Rule report → Obeys Rule (report ++ lines.End ∷ [])
over_obeys Rule free report obeys = obeys_more Rule report lines.End obeys (free report lines.End refl)

-- the report of one happening more
pub report_more : (config : Options) (detail : Detail) (earlier : List Happening) (h : Happening) → report_of config detail (earlier ++ h ∷ []) ≡ report_of config detail earlier ++ lines_at (after earlier (start_of config)) h
report_more config detail earlier h =
    ap (λ (ls : List Line). lines.Begin config detail ∷ ls)
    (lines_of-append earlier (h ∷ []) (start_of config) ∙ ap (λ (ls : List Line). lines_of earlier (start_of config) ++ ls) (append-nil (lines_at (after earlier (start_of config)) h)))

-- the rule holds at `quiet` wherever all is found quiet in this history
abbrev pub HoldsWhereFound : (List Line → Line → Type 0) → Options → Detail → List Happening → Type 0
HoldsWhereFound Rule config detail history =
    (first rest : List Happening) (h : Happening) → history ≡ first ++ h ∷ rest → finds_quiet h ≡ true → Rule (report_of config detail first) lines.Quiet

all_obey : (Rule : List Line → Line → Type 0) → SpeaksOfQuiet Rule → (config : Options) (detail : Detail) (later earlier : List Happening) → HoldsWhereFound Rule config detail (earlier ++ later) → Obeys Rule (report_of config detail earlier) → Obeys Rule (report_of config detail (earlier ++ later))
all_obey Rule free config detail [] earlier holds obeys = subst (λ (hs : List Happening). Obeys Rule (report_of config detail hs)) (sym (append-nil earlier)) obeys
all_obey Rule free config detail (h ∷ later) earlier holds obeys =
    let next : Obeys Rule (report_of config detail earlier ++ lines_at (after earlier (start_of config)) h) = one_obeys Rule free (report_of config detail earlier) (after earlier (start_of config)) h (holds earlier later h refl) obeys in
    subst (λ (hs : List Happening). Obeys Rule (report_of config detail hs)) (append_assoc earlier (h ∷ []) later)
    (all_obey Rule free config detail later (earlier ++ h ∷ []) (subst (HoldsWhereFound Rule config detail) (sym (append_assoc earlier (h ∷ []) later)) holds) (subst (Obeys Rule) (sym (report_more config detail earlier h)) next))

reports_found : (Rule : List Line → Line → Type 0) → SpeaksOfQuiet Rule → (config : Options) (detail : Detail) (history : List Happening) → HoldsWhereFound Rule config detail history → Obeys Rule (report_of config detail history)
reports_found Rule free config detail history holds =
    all_obey Rule free config detail history [] holds (begun_obeys Rule free config detail)

ended_found : (Rule : List Line → Line → Type 0) → SpeaksOfQuiet Rule → (config : Options) (detail : Detail) (history : List Happening) → HoldsWhereFound Rule config detail history → Obeys Rule (ended_report_of config detail history)
ended_found Rule free config detail history holds = over_obeys Rule free (report_of config detail history) (reports_found Rule free config detail history holds)

-- the rule holds at `quiet` after each beginning of this history after which the machine is quiet
abbrev pub HoldsWhereQuiet : (List Line → Line → Type 0) → Options → Detail → List Happening → Type 0
HoldsWhereQuiet Rule config detail history =
    (first rest : List Happening) → history ≡ first ++ rest → is_quiet (after first (start_of config)) ≡ true → Rule (report_of config detail first) lines.Quiet

-- in a served history the machine is quiet wherever it is found so
served_found : (w : World) (h : Happening) → IsServed w h → finds_quiet h ≡ true → is_quiet w ≡ true
served_found w (Looks quiet) may found = may found
served_found w (Settles quiet) may found = may found
served_found w h may found = absurd (true≢false (sym found))

served_at : (first rest : List Happening) (h : Happening) (w : World) → AreServed (first ++ h ∷ rest) w → IsServed (after first w) h
served_at [] rest h w may = may.0
served_at (g ∷ first) rest h w may = served_at first rest h (happens w g) may.1

quiet_found : (Rule : List Line → Line → Type 0) (config : Options) (detail : Detail) (history : List Happening) → AreServed history (start_of config) → HoldsWhereQuiet Rule config detail history → HoldsWhereFound Rule config detail history
quiet_found Rule config detail history may holds first rest h e found =
    let here : AreServed (first ++ h ∷ rest) (start_of config) = subst (λ (hs : List Happening). AreServed hs (start_of config)) e may in
    holds first (h ∷ rest) e (served_found (after first (start_of config)) h (served_at first rest h (start_of config) here) found)

pub reports_obey : (Rule : List Line → Line → Type 0) → SpeaksOfQuiet Rule → (config : Options) (detail : Detail) (history : List Happening) → AreServed history (start_of config) → HoldsWhereQuiet Rule config detail history → Obeys Rule (report_of config detail history)
reports_obey Rule free config detail history may holds = reports_found Rule free config detail history (quiet_found Rule config detail history may holds)

pub ended_obey : (Rule : List Line → Line → Type 0) → SpeaksOfQuiet Rule → (config : Options) (detail : Detail) (history : List Happening) → AreServed history (start_of config) → HoldsWhereQuiet Rule config detail history → Obeys Rule (ended_report_of config detail history)
ended_obey Rule free config detail history may holds = ended_found Rule free config detail history (quiet_found Rule config detail history may holds)

-- and of what a recorder keeps of it, where the rule asks for nothing that isn't kept
kept_more : (Rule : List Line → Line → Type 0) → SpeaksOfQuiet Rule → (detail : Detail) (before : List Line) (line : Line) → (Rule before lines.Quiet → Rule (kept_of detail before) lines.Quiet) → Rule before line → Obeys Rule (kept_of detail before) → Obeys Rule (kept_of detail before ++ recorded detail line)
kept_more Rule free detail before (lines.Begin config other) stays h obeys = obeys_more Rule (kept_of detail before) (lines.Begin config detail) obeys (free _ _ refl)
kept_more Rule free Lines before (lines.Move move) stays h obeys = subst (Obeys Rule) (sym (append-nil (kept_of Lines before))) obeys
kept_more Rule free Moves before (lines.Move move) stays h obeys = obeys_more Rule (kept_of Moves before) (lines.Move move) obeys (free _ _ refl)
kept_more Rule free detail before lines.Quiet stays h obeys = obeys_more Rule (kept_of detail before) lines.Quiet obeys (stays h)
kept_more Rule free detail before line stays h obeys = obeys_more Rule (kept_of detail before) line obeys (free _ _ refl)

kept_all : (Rule : List Line → Line → Type 0) → SpeaksOfQuiet Rule → (detail : Detail) → ((before : List Line) → Rule before lines.Quiet → Rule (kept_of detail before) lines.Quiet) → (ls before : List Line) → Obeys Rule (before ++ ls) → Obeys Rule (kept_of detail before) → Obeys Rule (kept_of detail (before ++ ls))
kept_all Rule free detail stays [] before obeys kept = subst (λ (xs : List Line). Obeys Rule (kept_of detail xs)) (sym (append-nil before)) kept
kept_all Rule free detail stays (line ∷ ls) before obeys kept =
    let more : Obeys Rule (kept_of detail before ++ recorded detail line) = kept_more Rule free detail before line (stays before) (obeys before ls line refl) kept in
    let same : kept_of detail (before ++ line ∷ []) ≡ kept_of detail before ++ recorded detail line = kept_of-append detail before (line ∷ []) ∙ ap (λ (xs : List Line). kept_of detail before ++ xs) (append-nil (recorded detail line)) in
    subst (λ (xs : List Line). Obeys Rule (kept_of detail xs)) (append_assoc before (line ∷ []) ls)
    (kept_all Rule free detail stays ls (before ++ line ∷ []) (subst (Obeys Rule) (sym (append_assoc before (line ∷ []) ls)) obeys) (subst (Obeys Rule) (sym same) more))

pub kept_obeys : (Rule : List Line → Line → Type 0) → SpeaksOfQuiet Rule → (detail : Detail) → ((before : List Line) → Rule before lines.Quiet → Rule (kept_of detail before) lines.Quiet) → (report : List Line) → Obeys Rule report → Obeys Rule (kept_of detail report)
kept_obeys Rule free detail stays report obeys = kept_all Rule free detail stays report [] obeys (obeys_none Rule)
