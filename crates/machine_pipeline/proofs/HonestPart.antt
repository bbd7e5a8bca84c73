-- The report before a hostile hand first overwrote a word or a key is that of what happened before.
use Rattle.std.proofs.Common.{◌≡◌, ℕ, ◌*◌, ◌^◌, Bool, true, false, List, [], ◌∷◌, ◌++◌, ◌⊎◌, inl, inr, refl, ap, sym, ◌∙◌, subst, append_assoc, true≢false}
use Rattle.std.specs.Prelude.{if◌then◌else◌, Result, Ok, Err}
use Rattle.std.specs.List.{AllByRecursion, list_all}
use Rattle.std.proofs.lemmas.List.{append-nil}
use Rattle.std.proofs.lemmas.List.Elements.{filter_map-append}
use Rattle.blk_base.specs.Options.{Options}
use Rattle.blk_base.specs.declared.config.Submission.{Submission}
use Rattle.blk_io.specs.Disk.{DiskSeen}
use Rattle.schedule_text.specs.declared.line.Detail.{Detail}
use Rattle.schedule_text.specs.declared.line.Detail.TheVariants.{Lines, Moves}
use Rattle.schedule_text.specs.declared.line.Line.{Line}
use Rattle.schedule_text.specs.declared.line.Line.TheVariants as lines
use Rattle.schedule_text.specs.Recorder.{recorded, kept_of}
use Rattle.plain_disk.specs.Echo.{is_echo}
use Rattle.plain_disk.specs.Honest.{is_honest, honest_part}
use Rattle.plain_disk.proofs.Honest.{honest_more, honest_ends}
use Rattle.blk_base.specs.declared.refusal.Refusal.{Refusal}
use Rattle.blk_front.specs.Submit as front_submit
use Rattle.split_model.specs.World.{World, start_of}
use Rattle.split_model.specs.Happening.{Happening, Submits, Pokes, OverwritesKey, Suspends, Dumps, Looks, Settles, is_guest_word, is_guest_key, happens, after, lines_at, lines_of, submit_line, DiskRuns}
use Rattle.split_model.specs.Honest.{honest_history}
use Rattle.split_model.specs.Report.{report_of, ended_report_of}
use Rattle.split_model.proofs.Running.{kept_of-append}
use Rattle.split_model.proofs.Echo.{echo_of, move_silent}
use Rattle.split_model.proofs.Overwriting.{dump_lines_are}
use Rattle.split_model.proofs.Suspending.{suspend_lines_are}
use Rattle.machine_pipeline.proofs.Allowed.{possible_first}
use Rattle.line_text.proofs.Both.{both_true}
use Rattle.machine_pipeline.specs.Submissions.{submitted_at, submitted_of}
use Rattle.machine_pipeline.specs.Allowed.{AreServed, ArePossible}
use Rattle.std.proofs.lemmas.Bool.{cases_Bool, cond_both}
use Rattle.split_model.proofs.Showing.{both_all}

-- lines of which none is hostile
abbrev IsHonest : Line → Type 0
IsHonest line = is_honest line ≡ true

abbrev AreHonest : List Line → Type 0
AreHonest ls = AllByRecursion IsHonest ls

-- a line that doesn't echo is none
unechoed : (line : Line) → is_echo line ≡ false → is_honest line ≡ true
unechoed (lines.Poke frame word value) e = absurd (true≢false e)
unechoed (lines.Key name text) e = absurd (true≢false e)
unechoed line e = refl

echo_more : (line : Line) (ls : List Line) → is_echo line ≡ true → echo_of (line ∷ ls) ≡ line ∷ echo_of ls
echo_more line ls e = simp e

echo_past : (line : Line) (ls : List Line) → is_echo line ≡ false → echo_of (line ∷ ls) ≡ echo_of ls
echo_past line ls e = simp e

silent_honest : (ls : List Line) → echo_of ls ≡ [] → AreHonest ls
silent_honest [] e = tt
silent_honest (line ∷ ls) e = elim (cases_Bool (is_echo line)) [
  | inl is ↦ (let said : line ∷ echo_of ls ≡ [] = sym (echo_more line ls is) ∙ e in absurd (cc))
  | inr is ↦ (unechoed line is, silent_honest ls (sym (echo_past line ls is) ∙ e))
]

submit_honest : (job : Submission) (r : Result ℕ Refusal) → AreHonest (submit_line job r ∷ [])
submit_honest job (Ok number) = (refl, tt)
submit_honest job (Err refusal) = (refl, tt)

look_honest : (quiet : Bool) (other : Line) → is_honest other ≡ true → AreHonest ((if quiet then lines.Quiet else other) ∷ [])
look_honest quiet other e = cond_both quiet lines.Quiet other (λ (line : Line). AreHonest (line ∷ [])) (λ t. (refl, tt)) (λ t. (e, tt))

-- no word and no key is overwritten
abbrev IsUntouched : Happening → Type 0
IsUntouched (Pokes frame word value) = ⊥
IsUntouched (OverwritesKey name text) = ⊥
IsUntouched h = Unit {0}

honest_at : (w : World) (h : Happening) → IsUntouched h → AreHonest (lines_at w h)
honest_at w (Submits job) may = submit_honest job (front_submit.submit_of w.front job).0
honest_at w (Looks quiet) may = look_honest quiet lines.Busy refl
honest_at w (Settles quiet) may = look_honest quiet lines.Unsettled refl
honest_at w Dumps may = dump_lines_are IsHonest w.under.pages 0 (1024 * 2 ^ w.front.shape.order) (λ frame word value. refl)
honest_at w (Pokes frame word value) may = absurd may
honest_at w (OverwritesKey name text) may = absurd may
honest_at w Suspends may = suspend_lines_are IsHonest w refl
honest_at w h may = silent_honest (lines_at w h) (move_silent w h refl)

-- honest lines come before those of the rest
honest_then : (ls rest : List Line) → AreHonest ls → honest_part (ls ++ rest) ≡ ls ++ honest_part rest
honest_then [] rest all = refl
honest_then (line ∷ ls) rest all = honest_more line (ls ++ rest) all.0 ∙ ap (λ (l : List Line). line ∷ l) (honest_then ls rest all.1)

-- all of it
honest_all : (ls : List Line) → AreHonest ls → honest_part ls ≡ ls
honest_all ls all = ap honest_part (sym (append-nil ls)) ∙ (honest_then ls [] all ∙ append-nil ls)

listed_honest : (ls : List Line) → list_all is_honest ls ≡ true → AreHonest ls
listed_honest [] all = tt
listed_honest (line ∷ ls) all = let e = both_true (is_honest line) (list_all is_honest ls) all in (e.0, listed_honest ls e.1)

-- what happened before shows honest lines alone
before_honest : (hs : List Happening) (w : World) → AreHonest (lines_of (honest_history hs) w)
before_honest [] w = tt
before_honest (Pokes frame word value ∷ hs) w = tt
before_honest (OverwritesKey name text ∷ hs) w = tt
before_honest (h ∷ hs) w = both_all IsHonest (lines_at w h) (lines_of (honest_history hs) (happens w h)) (honest_at w h tt) (before_honest hs (happens w h))

-- nothing was overwritten, or the first line that says so comes after those of what happened before
pub record HostileAfter (whole first : List Line) : Type 0 where
  pub line : Line
  pub rest : List Line
  pub hostile : is_honest line ≡ false
  pub split : whole ≡ first ++ line ∷ rest

abbrev pub HonestWith : List Happening → World → List Line → Type 0
HonestWith hs w tail = (honest_history hs ≡ hs) ⊎ HostileAfter (lines_of hs w ++ tail) (lines_of (honest_history hs) w)

more_honest : (h : Happening) (hs : List Happening) (w : World) (tail : List Line) → honest_history (h ∷ hs) ≡ h ∷ honest_history hs → HonestWith hs (happens w h) tail → HonestWith (h ∷ hs) w tail
more_honest h hs w tail first (inl all) = inl (first ∙ ap (λ (l : List Happening). h ∷ l) all)
more_honest h hs w tail first (inr later) = inr (record {
  line = later.line;
  rest = later.rest;
  hostile = later.hostile;
  split = rw first (simp append_assoc (ap (λ (l : List Line). lines_at w h ++ l) later.split));
})

pub honest_with : (hs : List Happening) (w : World) (tail : List Line) → ArePossible hs w → HonestWith hs w tail
honest_with [] w tail may = inl refl
honest_with (Pokes frame word value ∷ hs) w tail may = inr (record { line = lines.Poke frame word value; rest = lines_of hs (happens w (Pokes frame word value)) ++ tail; hostile = refl; split = rw may.0.0 refl })
honest_with (OverwritesKey name text ∷ hs) w tail may = inr (record { line = lines.Key name text; rest = lines_of hs (happens w (OverwritesKey name text)) ++ tail; hostile = refl; split = rw may.0 refl })
honest_with (h ∷ hs) w tail may = more_honest h hs w tail refl (honest_with hs (happens w h) tail may.1)

-- what happened before comes first
pub honest_first : (hs : List Happening) → (rest : List Happening) × (hs ≡ honest_history hs ++ rest)
honest_first [] = ([], refl)
honest_first (Pokes frame word value ∷ hs) = (Pokes frame word value ∷ hs, refl)
honest_first (OverwritesKey name text ∷ hs) = (OverwritesKey name text ∷ hs, refl)
honest_first (h ∷ hs) = let others = honest_first hs in (others.0, ap (λ (l : List Happening). h ∷ l) others.1)

-- and of a first part what happened before is served
pub served_before : (first rest : List Happening) (w : World) → AreServed (honest_history (first ++ rest)) w → AreServed (honest_history first) w
served_before [] rest w may = tt
served_before (Pokes frame word value ∷ first) rest w may = tt
served_before (OverwritesKey name text ∷ first) rest w may = tt
served_before (h ∷ first) rest w may = (may.0, served_before first rest (happens w h) may.1)

-- its disk and its submissions are the first of all
pub disk_runs_first : (first rest : List Happening) (w : World) (before now : DiskSeen) → DiskRuns (first ++ rest) w before now → (between : DiskSeen) × DiskRuns first w before between
disk_runs_first [] rest w before now runs = (before, refl)
disk_runs_first (h ∷ first) rest w before now runs =
    let later = disk_runs_first first rest (happens w h) runs.0 now runs.2 in
    (later.0, (runs.0, runs.1, later.1))

pub disk_part : (hs : List Happening) (w : World) (before now : DiskSeen) → DiskRuns hs w before now → (between : DiskSeen) × DiskRuns (honest_history hs) w before between
disk_part hs w before now runs =
    let first = honest_first hs in
    disk_runs_first (honest_history hs) first.0 w before now (subst (λ (l : List Happening). DiskRuns l w before now) first.1 runs)

pub submitted_part : (hs : List Happening) → (more : List Submission) × (submitted_of (honest_history hs) ++ more ≡ submitted_of hs)
submitted_part hs =
    let first = honest_first hs in
    (submitted_of first.0, sym (ap submitted_of first.1 ∙ filter_map-append submitted_at (honest_history hs) first.0))

-- what a recorder keeps of lines
kept_honest : (d : Detail) (line : Line) → is_honest line ≡ true → AreHonest (recorded d line)
kept_honest Lines (lines.Begin config other) e = (refl, tt)
kept_honest Lines (lines.Move move) e = tt
kept_honest Lines line e = (e, tt)
kept_honest Moves (lines.Begin config other) e = (refl, tt)
kept_honest Moves (lines.Move move) e = (refl, tt)
kept_honest Moves line e = (e, tt)

kept_hostile : (d : Detail) (line : Line) → is_honest line ≡ false → recorded d line ≡ line ∷ []
kept_hostile Lines (lines.Poke frame word value) e = refl
kept_hostile Lines (lines.Key name text) e = refl
kept_hostile Moves (lines.Poke frame word value) e = refl
kept_hostile Moves (lines.Key name text) e = refl
kept_hostile d line e = absurd (true≢false e)

pub honest_kept : (d : Detail) (ls : List Line) → honest_part (kept_of d ls) ≡ kept_of d (honest_part ls)
honest_kept d [] = refl
honest_kept d (line ∷ ls) = elim (cases_Bool (is_honest line)) [
  | inl e ↦ rw (honest_then (recorded d line) (kept_of d ls) (kept_honest d line e), honest_kept d ls, honest_more line ls e) refl
  | inr e ↦ rw (kept_hostile d line e, honest_ends line (kept_of d ls) e, honest_ends line ls e) refl
]

-- the lines of a report, and more after them: its honest part is the report of what happened before, or all of it
honest_cut : (config : Options) (detail : Detail) (hs : List Happening) (whole : List Line)
    → HostileAfter whole (lines_of (honest_history hs) (start_of config)) → honest_part (lines.Begin config detail ∷ whole) ≡ report_of config detail (honest_history hs)
honest_cut config detail hs whole h =
    let first = lines_of (honest_history hs) (start_of config) in
    rw (honest_more (lines.Begin config detail) whole refl, h.split, honest_then first (h.line ∷ h.rest) (before_honest hs (start_of config)), honest_ends h.line h.rest h.hostile, append-nil) refl

-- where nothing was overwritten, all lines are honest
all_before : (hs : List Happening) (w : World) → honest_history hs ≡ hs → AreHonest (lines_of hs w)
all_before hs w all = subst (λ (l : List Happening). AreHonest (lines_of l w)) all (before_honest hs w)

pub honest_report : (config : Options) (detail : Detail) (hs : List Happening) → ArePossible hs (start_of config)
    → honest_part (report_of config detail hs) ≡ report_of config detail (honest_history hs)
honest_report config detail hs may = elim (honest_with hs (start_of config) [] may) [
  | inl all ↦ honest_all (report_of config detail hs) (refl, all_before hs (start_of config) all) ∙ ap (report_of config detail) (sym all)
  | inr h ↦ ap (λ (l : List Line). honest_part (lines.Begin config detail ∷ l)) (sym (append-nil (lines_of hs (start_of config)))) ∙ honest_cut config detail hs (lines_of hs (start_of config) ++ []) h
]

-- with its last line
abbrev pub HonestEnded : Options → Detail → List Happening → Type 0
HonestEnded config detail hs =
    ((honest_history hs ≡ hs) × (honest_part (ended_report_of config detail hs) ≡ ended_report_of config detail hs))
    ⊎ (HostileAfter (ended_report_of config detail hs) (report_of config detail (honest_history hs))
    × (honest_part (ended_report_of config detail hs) ≡ report_of config detail (honest_history hs)))

pub honest_ended : (config : Options) (detail : Detail) (hs : List Happening) → ArePossible hs (start_of config) → HonestEnded config detail hs
honest_ended config detail hs may = elim (honest_with hs (start_of config) (lines.End ∷ []) may) [
  | inl all ↦ inl (all, honest_all (ended_report_of config detail hs) (refl, both_all IsHonest (lines_of hs (start_of config)) (lines.End ∷ []) (all_before hs (start_of config) all) (refl, tt)))
  | inr h ↦ inr (
    record { line = h.line; rest = h.rest; hostile = h.hostile; split = ap (λ (l : List Line). lines.Begin config detail ∷ l) h.split },
    honest_cut config detail hs (lines_of hs (start_of config) ++ lines.End ∷ []) h,
  )
]

-- a report that a recorder keeps and in which no line is hostile is one of a history in which nothing was overwritten
none_hostile : (first rest : List Line) (hostile : Line) → is_honest hostile ≡ false → AreHonest (first ++ hostile ∷ rest) → ⊥
none_hostile [] rest hostile e all = true≢false (sym all.0 ∙ e)
none_hostile (line ∷ first) rest hostile e all = none_hostile first rest hostile e all.1

pub kept_after : (d : Detail) (whole first : List Line) → HostileAfter whole first → HostileAfter (kept_of d whole) (kept_of d first)
kept_after d whole first h =
    search (h.hostile, ap (kept_of d) h.split ∙ (kept_of-append d first (h.line ∷ h.rest) ∙ ap (λ (l : List Line). kept_of d first ++ (l ++ kept_of d h.rest)) (kept_hostile d h.line h.hostile)))

pub not_honest : (whole first : List Line) → HostileAfter whole first → list_all is_honest whole ≡ true → ⊥
not_honest whole first h all = none_hostile first h.rest h.line h.hostile (subst AreHonest h.split (listed_honest whole all))

-- a report that was cut among the lines of what happened last: nothing was overwritten, or its honest part is the report of what happened before
abbrev pub CutOrWhole : Options → Detail → List Happening → Happening → List Line → Type 0
CutOrWhole config detail history last part =
    ((honest_history (history ++ last ∷ []) ≡ history ++ last ∷ []) × (honest_part (report_of config detail history ++ part) ≡ report_of config detail history ++ part))
    ⊎ (honest_part (report_of config detail history ++ part) ≡ report_of config detail (honest_history history))

first_honest : (a b : List Line) → AreHonest (a ++ b) → AreHonest a
first_honest [] b all = tt
first_honest (line ∷ a) b all = (all.0, first_honest a b all.1)

-- what was overwritten last is shown, or not yet
hostile_cut : (allowed : Bool) (hostile : Line) (part rest : List Line) → is_honest hostile ≡ false → part ++ rest ≡ (if allowed then hostile ∷ [] else []) → honest_part part ≡ []
hostile_cut allowed hostile [] rest e all = refl
hostile_cut true hostile (line ∷ part) rest e all = let same : line ≡ hostile = cc in honest_ends line part (ap is_honest same ∙ e)
hostile_cut false hostile (line ∷ part) rest e all = absurd (cc)

-- where nothing was overwritten, more may follow
honest_append : (hs more : List Happening) → honest_history hs ≡ hs → honest_history (hs ++ more) ≡ hs ++ honest_history more
honest_append [] more all = refl
honest_append (Pokes frame word value ∷ hs) more all = absurd (cc)
honest_append (OverwritesKey name text ∷ hs) more all = absurd (cc)
honest_append (h ∷ hs) more all = ap (λ (l : List Happening). h ∷ l) (honest_append hs more (cc))

pub cut_or_whole : (config : Options) (detail : Detail) (history : List Happening) (last : Happening) (part rest : List Line) → ArePossible (history ++ last ∷ []) (start_of config)
    → part ++ rest ≡ lines_at (after history (start_of config)) last → CutOrWhole config detail history last part
cut_or_whole config detail history last part rest may all = elim (honest_with history (start_of config) part (possible_first history (last ∷ []) (start_of config) may)) [
  | inl whole ↦ by_last last whole all
  | inr k ↦ inr (honest_cut config detail history (lines_of history (start_of config) ++ part) k)
]
  where
    overwritten : (h : Happening) → honest_history history ≡ history → honest_part part ≡ [] → CutOrWhole config detail history h part
    overwritten h whole none =
        inr (rw (honest_then (report_of config detail history) part (refl, all_before history (start_of config) whole), none, append-nil (lines_of history (start_of config)), whole) refl)

    by_last : (h : Happening) → honest_history history ≡ history → part ++ rest ≡ lines_at (after history (start_of config)) h → CutOrWhole config detail history h part
    by_last (Pokes frame word value) whole shown = overwritten (Pokes frame word value) whole (hostile_cut (is_guest_word frame word) (lines.Poke frame word value) part rest refl shown)
    by_last (OverwritesKey name text) whole shown = overwritten (OverwritesKey name text) whole (hostile_cut (is_guest_key name text) (lines.Key name text) part rest refl shown)
    by_last h whole shown =
        inl (
          honest_append history (h ∷ []) whole,
          honest_all (report_of config detail history ++ part)
              (both_all IsHonest (report_of config detail history) part (refl, all_before history (start_of config) whole)
              (first_honest part rest (subst AreHonest (sym shown) (honest_at (after history (start_of config)) h tt)))),
        )
