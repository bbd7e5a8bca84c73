-- The laws of the ring's machine, of the report of the whole machine, of which each happening is one or two of that machine's.
use Rattle.std.proofs.Common.{◌≡◌, ℕ, ◌≤◌, ◌⊎◌, inl, inr, true, List, [], ◌∷◌, ◌++◌, Option, refl, ap, sym, ◌∙◌, subst, append_assoc, append-nil}
use Rattle.std.proofs.lemmas.List.Elements.{filter_map-append}
use Rattle.blk_base.specs.Options.{Options}
use Rattle.blk_base.specs.declared.config.Submission.{Submission}
use Rattle.blk_io.specs.Disk.{DiskSeen, HasLength}
use Rattle.schedule_text.specs.declared.line.Detail.{Detail}
use Rattle.schedule_text.specs.declared.line.Detail.TheVariants.{Moves}
use Rattle.schedule_text.specs.declared.line.Line.{Line}
use Rattle.schedule_text.specs.declared.line.Line.TheVariants.{Begin}
use Rattle.schedule_text.specs.Recorder.{kept_of}
use Rattle.plain_disk.specs.Honest.{honest_part}
use Rattle.pipeline_laws.specs.Effects.{IsOfADisk}
use Rattle.move_laws.proofs.ReadOnly as read_only
use Rattle.split_model.specs.World as rings
use Rattle.split_model.specs.Happening as ring
use Rattle.split_model.specs.Report as ring_report
use Rattle.split_model.proofs.Running as ring_running
use Rattle.machine_pipeline.specs.Submissions.{submitted_at, submitted_of}
use Rattle.machine_pipeline.proofs.Allowed.{possible_first}
use Rattle.machine_pipeline.proofs.HonestPart.{served_before, disk_runs_first}
use Rattle.disk_laws.proofs.Before.{HasRunSoFar}
use Rattle.vbd_model.specs.World.{World, start_of}
use Rattle.vbd_model.specs.Happening.{Happening, does, lines_at, DiskRuns, after, all_does}
use Rattle.vbd_model.specs.Report.{report_of, ended_report_of}
use Rattle.vbd_model.proofs.Running.{all_does-append, after_rings, disk_lift, report_lift, ended_report_lift}
use Rattle.schedule_run.specs.Lawful.{HasCauses, IsLawful, IsLawfulSoFar}
use Rattle.schedule_run.proofs.FewReads.{brief_first}
use Rattle.schedule_run.proofs.Caused.{ended_caused}
use Rattle.schedule_run.proofs.Lawful as of_rings

-- what happened, to the ring's machine
abbrev pub to_rings : Options → List Happening → List ring.Happening
to_rings config history = all_does history (start_of config)

abbrev pub submitted : Options → List Happening → List Submission
submitted config history = submitted_of (to_rings config history)

-- a history of the machine with these options, brief enough
abbrev pub IsTold : Options → Detail → List Happening → Type 0
IsTold config detail history = of_rings.IsTold config detail (to_rings config history)

to_rings-append : (config : Options) (first rest : List Happening) → to_rings config (first ++ rest) ≡ to_rings config first ++ all_does rest (after first (start_of config))
to_rings-append config first rest = all_does-append first rest (start_of config)

-- the first part of a history that is told
pub told_first : (config : Options) (detail : Detail) (first rest : List ring.Happening) → of_rings.IsTold config detail (first ++ rest) → of_rings.IsTold config detail first
told_first config detail first rest h = record {
  plain = h.plain;
  options = h.options;
  possible = possible_first first rest (rings.start_of config) h.possible;
  served = served_before first rest (rings.start_of config) h.served;
  agreed = of_rings.agreed_before first rest (rings.start_of config) h.agreed;
  settled = of_rings.settled_first first rest h.settled;
  serving = of_rings.serving_before config first rest h.serving;
  brief = brief_first config detail first rest h.brief;
}

pub history_first : (config : Options) (detail : Detail) (history : List Happening) (last : Happening) → IsTold config detail (history ++ last ∷ []) → IsTold config detail history
history_first config detail history last h =
    told_first config detail (to_rings config history) (all_does (last ∷ []) (after history (start_of config))) (subst (of_rings.IsTold config detail) (to_rings-append config history (last ∷ [])) h)

-- a read-only disk
pub content_kept : (config : Options) (history : List Happening) (before now : DiskSeen) → config.read_only ≡ true → DiskRuns history (start_of config) before now → now.content ≡ before.content
content_kept config history before now fixed runs = read_only.content_kept config (to_rings config history) before now fixed (disk_lift history (start_of config) before now runs)

-- where causes stand
few_segments : (config : Options) (detail : Detail) (history : List Happening) → IsTold config detail history → config.indirect ≤ 960
few_segments config detail history h = let plain = h.plain in plain.indirect

ended_lift_caused : (config : Options) (detail : Detail) (history : List Happening) → IsTold config detail history → detail ≡ Moves → HasCauses (kept_of detail (ring_report.ended_report_of config detail (to_rings config history)))
ended_lift_caused config detail history h =
    subst (λ (report : List Line). detail ≡ Moves → HasCauses (kept_of detail report)) (ended_report_lift config detail history) (ended_caused config detail history h.options (few_segments config detail history h))

-- the whole report
pub report_lawful : (config : Options) (detail : Detail) (history : List Happening) (before now : DiskSeen) → IsTold config detail history → HasLength before.content config.sectors → DiskRuns history (start_of config) before now → IsLawful config detail (submitted config history) before.content now.content (kept_of detail (report_of config detail history))
report_lawful config detail history before now h long runs =
    subst (λ (report : List Line). IsLawful config detail (submitted config history) before.content now.content (kept_of detail report)) (sym (report_lift config detail history))
    (of_rings.report_lawful config detail (to_rings config history) before now h long (disk_lift history (start_of config) before now runs)
    (ended_lift_caused config detail history h))

pub ended_lawful : (config : Options) (detail : Detail) (history : List Happening) (before now : DiskSeen) → IsTold config detail history → HasLength before.content config.sectors → DiskRuns history (start_of config) before now → IsLawful config detail (submitted config history) before.content now.content (kept_of detail (ended_report_of config detail history))
ended_lawful config detail history before now h long runs =
    subst (λ (report : List Line). IsLawful config detail (submitted config history) before.content now.content (kept_of detail report)) (sym (ended_report_lift config detail history))
    (of_rings.ended_lawful config detail (to_rings config history) before now h long (disk_lift history (start_of config) before now runs) (ended_lift_caused config detail history h))

-- the run of the plain disk that its honest part is
pub report_honest_run : (config : Options) (detail : Detail) (history : List Happening) (before now : DiskSeen) → IsTold config detail history → HasLength before.content config.sectors → DiskRuns history (start_of config) before now
    → IsOfADisk config.sectors before.content (honest_part (kept_of detail (report_of config detail history)))
    → HasRunSoFar (submitted config history) before.content (honest_part (kept_of detail (report_of config detail history)))
report_honest_run config detail history before now h long runs =
    subst (λ (report : List Line). IsOfADisk config.sectors before.content (honest_part (kept_of detail report)) → HasRunSoFar (submitted config history) before.content (honest_part (kept_of detail report))) (sym (report_lift config detail history))
    (of_rings.report_honest_run config detail (to_rings config history) before now h long (disk_lift history (start_of config) before now runs))

pub ended_honest_run : (config : Options) (detail : Detail) (history : List Happening) (before now : DiskSeen) → IsTold config detail history → HasLength before.content config.sectors → DiskRuns history (start_of config) before now
    → IsOfADisk config.sectors before.content (honest_part (kept_of detail (ended_report_of config detail history)))
    → HasRunSoFar (submitted config history) before.content (honest_part (kept_of detail (ended_report_of config detail history)))
ended_honest_run config detail history before now h long runs =
    subst (λ (report : List Line). IsOfADisk config.sectors before.content (honest_part (kept_of detail report)) → HasRunSoFar (submitted config history) before.content (honest_part (kept_of detail report))) (sym (ended_report_lift config detail history))
    (of_rings.ended_honest_run config detail (to_rings config history) before now h long (disk_lift history (start_of config) before now runs))

-- the beginning of a report
pub begun_lawful : (config : Options) (detail : Detail) (history : List Happening) (before : Option (List (List ℕ))) (said rest : List Line) → IsTold config detail history
    → said ++ rest ≡ ended_report_of config detail history
    → (IsOfADisk config.sectors before (honest_part (kept_of detail said)) → HasRunSoFar (submitted config history) before (honest_part (kept_of detail said)))
    → IsLawfulSoFar config detail (submitted config history) before (kept_of detail said)
begun_lawful config detail history before said rest h all run =
    of_rings.begun_lawful config detail (to_rings config history) before said rest h (all ∙ ended_report_lift config detail history) run (ended_lift_caused config detail history h)

-- more may be submitted later
pub run_later : (config : Options) (history : List Happening) (last : Happening) (before : Option (List (List ℕ))) (report : List Line) → HasRunSoFar (submitted config history) before report → HasRunSoFar (submitted config (history ++ last ∷ [])) before report
run_later config history last before report run =
    let more = all_does (last ∷ []) (after history (start_of config)) in
    of_rings.later_run (submitted config history) (submitted_of more) (submitted config (history ++ last ∷ [])) before report
    (sym (filter_map-append submitted_at (to_rings config history) more) ∙ ap submitted_of (sym (to_rings-append config history (last ∷ [])))) run

-- A cut among the lines of two is in the first or in the second.
abbrev CutsFirst : List Line → List Line → Line → Type 0
CutsFirst first part cut = (rest : List Line) × (part ++ cut ∷ rest ≡ first)

abbrev CutsLater : (first second part : List Line) → Line → List Line → Type 0
CutsLater first second part cut rest = (later : List Line) × (part ≡ first ++ later) × (later ++ cut ∷ rest ≡ second)

abbrev tail_of : List Line → List Line
tail_of [] = []
tail_of (l ∷ ls) = ls

cut_among : (first second part : List Line) (cut : Line) (rest : List Line) → part ++ cut ∷ rest ≡ first ++ second → CutsFirst first part cut ⊎ CutsLater first second part cut rest
cut_among [] second part cut rest e = inr (part, refl, e)
cut_among (l ∷ first) second [] cut rest e = inl (first, ap (λ (x : Line). x ∷ first) (head_same e))
  where
    head_of : List Line → Line
    head_of [] = cut
    head_of (x ∷ xs) = x

    head_same : cut ∷ rest ≡ l ∷ (first ++ second) → cut ≡ l
    head_same same = ap head_of same
cut_among (l ∷ first) second (x ∷ part) cut rest e = by_rest (cut_among first second part cut rest (ap tail_of e)) (head_same e)
  where
    head_of : List Line → Line
    head_of [] = cut
    head_of (y ∷ ys) = y

    head_same : x ∷ (part ++ cut ∷ rest) ≡ l ∷ (first ++ second) → x ≡ l
    head_same same = ap head_of same

    by_rest : CutsFirst first part cut ⊎ CutsLater first second part cut rest → x ≡ l → CutsFirst (l ∷ first) (x ∷ part) cut ⊎ CutsLater (l ∷ first) second (x ∷ part) cut rest
    by_rest (inl c) same = inl (c.0, ap (λ (y : Line). y ∷ (part ++ cut ∷ c.0)) same ∙ ap (λ (ls : List Line). l ∷ ls) c.1)
    by_rest (inr c) same = inr (c.0, ap (λ (y : Line). y ∷ part) same ∙ ap (λ (ls : List Line). l ∷ ls) c.1, c.2)

one_more : (history done : List ring.Happening) (x : ring.Happening) → (history ++ x ∷ []) ++ done ≡ history ++ x ∷ done
one_more history done x = append_assoc history (x ∷ []) done

-- the report of what happened, and of what happened then
more_report : (config : Options) (detail : Detail) (history : List ring.Happening) (x : ring.Happening) (part : List Line) → ring_report.report_of config detail (history ++ x ∷ []) ++ part ≡ ring_report.report_of config detail history ++ (ring.lines_at (ring.after history (rings.start_of config)) x ++ part)
more_report config detail history x part =
    let start = rings.start_of config in
    let line = ring.lines_at (ring.after history start) x in
    let lines : ring.lines_of (history ++ x ∷ []) start ≡ ring.lines_of history start ++ line = ring_running.lines_of-append history (x ∷ []) start ∙ ap (λ (l : List Line). ring.lines_of history start ++ l) (append-nil line) in
    ap (λ (l : List Line). (Begin config detail ∷ l) ++ part) lines ∙ append_assoc (Begin config detail ∷ ring.lines_of history start) line part

-- the lines of all that happened to the ring's machine, cut among those of the last
abbrev HasRunCut : Options → Detail → DiskSeen → List ring.Happening → List ring.Happening → List Line → Type 0
HasRunCut config detail before all history part =
    IsOfADisk config.sectors before.content (honest_part (kept_of detail (ring_report.report_of config detail history ++ part)))
    → HasRunSoFar (submitted_of all) before.content (honest_part (kept_of detail (ring_report.report_of config detail history ++ part)))

-- in the lines of the first of what happened then, or in those of the others, of which `deeper` says it
cut_at : (config : Options) (detail : Detail) (history : List ring.Happening) (x : ring.Happening) (done : List ring.Happening) (part : List Line) (cut : Line) (rest : List Line) (before now : DiskSeen) → of_rings.IsTold config detail ((history ++ x ∷ []) ++ done)
    → HasLength before.content config.sectors → ring.DiskRuns ((history ++ x ∷ []) ++ done) (rings.start_of config) before now
    → ((later : List Line) → later ++ cut ∷ rest ≡ ring.lines_of done (ring.after (history ++ x ∷ []) (rings.start_of config)) → HasRunCut config detail before ((history ++ x ∷ []) ++ done) (history ++ x ∷ []) later)
    → (let here : rings.World = ring.after history (rings.start_of config) in CutsFirst (ring.lines_at here x) part cut ⊎ CutsLater (ring.lines_at here x) (ring.lines_of done (ring.happens here x)) part cut rest)
    → HasRunCut config detail before ((history ++ x ∷ []) ++ done) history part
cut_at config detail history x done part cut rest before now h long runs deeper (inl c) = λ of.
    let start : rings.World = rings.start_of config in
    let first = disk_runs_first (history ++ x ∷ []) done start before now runs in
    of_rings.later_run (submitted_of (history ++ x ∷ [])) (submitted_of done) (submitted_of ((history ++ x ∷ []) ++ done)) before.content _
    (sym (filter_map-append submitted_at (history ++ x ∷ []) done))
    (of_rings.begun_honest config detail history x part (cut ∷ c.0) before first.0 (told_first config detail (history ++ x ∷ []) done h) long first.1 c.1 of)
cut_at config detail history x done part cut rest before now h long runs deeper (inr c) =
    let start : rings.World = rings.start_of config in
    let there : ring.after (history ++ x ∷ []) start ≡ ring.happens (ring.after history start) x = ring_running.after-append history (x ∷ []) start in
    let report : ring_report.report_of config detail (history ++ x ∷ []) ++ c.0 ≡ ring_report.report_of config detail history ++ part =
    more_report config detail history x c.0 ∙ ap (λ (l : List Line). ring_report.report_of config detail history ++ l) (sym c.1) in
    subst (λ (l : List Line). IsOfADisk config.sectors before.content (honest_part (kept_of detail l)) → HasRunSoFar (submitted_of ((history ++ x ∷ []) ++ done)) before.content (honest_part (kept_of detail l))) report
    (deeper c.0 (subst (λ (w : rings.World). c.0 ++ cut ∷ rest ≡ ring.lines_of done w) (sym there) c.2))

none_cut : (part : List Line) (cut : Line) (rest : List Line) → part ++ cut ∷ rest ≡ [] → ⊥
none_cut [] cut rest e = cc
none_cut (l ∷ part) cut rest e = cc

cut_honest : (config : Options) (detail : Detail) (history done : List ring.Happening) (part : List Line) (cut : Line) (rest : List Line) (before now : DiskSeen) → of_rings.IsTold config detail (history ++ done)
    → HasLength before.content config.sectors → ring.DiskRuns (history ++ done) (rings.start_of config) before now
    → part ++ cut ∷ rest ≡ ring.lines_of done (ring.after history (rings.start_of config))
    → HasRunCut config detail before (history ++ done) history part
cut_honest config detail history [] part cut rest before now h long runs e = absurd (none_cut part cut rest e)
cut_honest config detail history (x ∷ done) part cut rest before now h long runs e =
    let start : rings.World = rings.start_of config in
    let here : rings.World = ring.after history start in
    let same : (history ++ x ∷ []) ++ done ≡ history ++ x ∷ done = one_more history done x in
    let told = subst (of_rings.IsTold config detail) (sym same) h in
    let went = subst (λ (hs : List ring.Happening). ring.DiskRuns hs start before now) (sym same) runs in
    subst (λ (hs : List ring.Happening). HasRunCut config detail before hs history part) same
    (cut_at config detail history x done part cut rest before now told long went (λ later is. cut_honest config detail (history ++ x ∷ []) done later cut rest before now told long went is)
    (cut_among (ring.lines_at here x) (ring.lines_of done (ring.happens here x)) part cut rest e))

-- the lines of all that happened, cut among the last one's
pub begun_honest : (config : Options) (detail : Detail) (history : List Happening) (last : Happening) (part : List Line) (cut : Line) (rest : List Line) (before now : DiskSeen) → IsTold config detail (history ++ last ∷ [])
    → HasLength before.content config.sectors → DiskRuns (history ++ last ∷ []) (start_of config) before now
    → part ++ cut ∷ rest ≡ lines_at (after history (start_of config)) last
    → IsOfADisk config.sectors before.content (honest_part (kept_of detail (report_of config detail history ++ part)))
    → HasRunSoFar (submitted config (history ++ last ∷ [])) before.content (honest_part (kept_of detail (report_of config detail history ++ part)))
begun_honest config detail history last part cut rest before now h long runs all =
    let start = start_of config in
    let here : World = after history start in
    let done = all_does (last ∷ []) here in
    let same : to_rings config (history ++ last ∷ []) ≡ to_rings config history ++ done = to_rings-append config history (last ∷ []) in
    let lines : part ++ cut ∷ rest ≡ ring.lines_of done (ring.after (to_rings config history) (rings.start_of config)) =
    all ∙ (ap (λ (hs : List ring.Happening). ring.lines_of hs here.rings) (sym (append-nil (does here last))) ∙ ap (ring.lines_of done) (after_rings history start)) in
    subst (λ (l : List Line). IsOfADisk config.sectors before.content (honest_part (kept_of detail (l ++ part))) → HasRunSoFar (submitted config (history ++ last ∷ [])) before.content (honest_part (kept_of detail (l ++ part)))) (sym (report_lift config detail history))
    (subst (λ (hs : List ring.Happening). HasRunCut config detail before hs (to_rings config history) part) (sym same)
    (cut_honest config detail (to_rings config history) done part cut rest before now (subst (of_rings.IsTold config detail) same h) long
    (subst (λ (hs : List ring.Happening). ring.DiskRuns hs (rings.start_of config) before now) same (disk_lift (history ++ last ∷ []) start before now runs)) lines))
