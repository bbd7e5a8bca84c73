-- What the disk holds where a run was stopped: what the lines that were told whole leave, or one call of the disk more.
use Rattle.std.proofs.Common.{◌≡◌, ℕ, zero, suc, ◌+◌, ◌≤◌, inl, inr, length, Bool, true, false, cond, List, [], ◌∷◌, ◌++◌, Option, Some, None, refl, ap, sym, ◌∙◌, subst, append_assoc, append-nil, length-append, arith}
use Rattle.std.specs.Prelude.{◌&&◌, filter, map, if◌then◌else◌}
use Rattle.std.specs.List.{AllByRecursion, list_all}
use Rattle.std.proofs.lemmas.List.Elements.{filter-append}
use Rattle.blk_base.specs.Options.{Options}
use Rattle.blk_base.specs.declared.config.Submission.{Submission}
use Rattle.blk_base.specs.declared.parts.End.TheVariants as end
use Rattle.blk_base.specs.declared.ask.BackAnswer.{BackAnswer}
use Rattle.blk_base.specs.declared.ask.BackAnswer.TheVariants as answers
use Rattle.blk_front.specs.declared.state.FrontState.{FrontState}
use Rattle.blk_back.specs.declared.told.BackTold.{BackTold}
use Rattle.blk_back.specs.declared.told.BackTold.TheVariants as told
use Rattle.blk_base.specs.declared.halt.Halt.{Halt}
use Rattle.blk_back.specs.View as back_view
use Rattle.blk_back.specs.Step as back_step
use Rattle.hypervisor.specs.Act.{BackAct, Took}
use Rattle.blk_io.specs.Disk.{DiskSeen, HasLength}
use Rattle.schedule_text.specs.declared.line.Detail.{Detail}
use Rattle.schedule_text.specs.declared.line.Detail.TheVariants.{Lines, Moves}
use Rattle.schedule_text.specs.declared.line.Line.{Line}
use Rattle.schedule_text.specs.declared.line.Line.TheVariants as lines
use Rattle.schedule_text.specs.Recorder.{recorded, kept_of}
use Rattle.plain_disk.specs.Honest.{is_honest, IsHonest}
use Rattle.plain_disk.specs.Disk.{disk_of}
use Rattle.pipeline_laws.proofs.Content.{known_first}
use Rattle.pipeline_laws.specs.Run.{IsRun}
use Rattle.pipeline_laws.specs.Effects.{IsOfADisk}
use Rattle.split_model.specs.World as rings
use Rattle.split_model.specs.Happening as ring
use Rattle.split_model.specs.Shown.{back_lines, halt_lines}
use Rattle.split_model.proofs.Showing.{MayShow, lines_are}
use Rattle.split_model.proofs.Running.{kept_of-append}
use Rattle.xenbus_state.specs.BackView.{BackView}
use Rattle.vbd_front.specs.Ask as front
use Rattle.vbd_back.specs.Ask as back
use Rattle.vbd_model.specs.World.{World, start_of, frontend_of, backend_of}
use Rattle.vbd_model.specs.Happening.{Happening, FrontMoves, BackMoves, JobMoves, Closes, Pokes, OverwritesKey, happens, front_key, entered_at, halted_at, front_enters, back_halts, back_negotiates, back_bus_after, attaches, front_turn, back_turn, is_fronts_ring, is_backs_ring, does, after, lines_at, lines_of, DiskRuns}
use Rattle.vbd_model.specs.Report.{report_of}
use Rattle.vbd_model.proofs.Running.{lines_of-append}
use Rattle.event_laws.specs.Faults.{faults_in, IsRaised}
use Rattle.event_laws.proofs.Faults.{faults_in-append, kept_faults, report_raised}
use Rattle.schedule_run.specs.Lawful.{IsLawful, tells_call, calls_in, IsOneCallPast, IsOneFaultPast}
use Rattle.schedule_run.proofs.Whole.{submitted, IsTold, history_first, report_lawful}

-- lines of which none is hostile, and one tells of a call of the disk at most
record AreFew (ls : List Line) : Type 0 where
  honest : list_all is_honest ls ≡ true
  few : calls_in ls ≤ 1

calls_in-append : (a b : List Line) → calls_in (a ++ b) ≡ calls_in a + calls_in b
calls_in-append a b = ap length (filter-append tells_call a b) ∙ length-append (filter tells_call a) (filter tells_call b)

all_honest-append : (a b : List Line) → list_all is_honest a ≡ true → list_all is_honest (a ++ b) ≡ list_all is_honest b
all_honest-append [] b e = refl
all_honest-append (line ∷ a) b e = by_test (is_honest line) e (all_honest-append a b)
  where
    by_test : (x : Bool) → (x && list_all is_honest a) ≡ true → (list_all is_honest a ≡ true → list_all is_honest (a ++ b) ≡ list_all is_honest b) → (x && list_all is_honest (a ++ b)) ≡ list_all is_honest b
    by_test true e rest = rest e
    by_test false e rest = absurd (cc)

honest_last : (a b : List Line) → list_all is_honest (a ++ b) ≡ true → list_all is_honest b ≡ true
honest_last [] b e = e
honest_last (line ∷ a) b e = by_test (is_honest line) e (honest_last a b)
  where
    by_test : (x : Bool) → (x && list_all is_honest (a ++ b)) ≡ true → (list_all is_honest (a ++ b) ≡ true → list_all is_honest b ≡ true) → list_all is_honest b ≡ true
    by_test true e rest = rest e
    by_test false e rest = absurd (cc)

honest_first : (a b : List Line) → list_all is_honest (a ++ b) ≡ true → list_all is_honest a ≡ true
honest_first [] b e = refl
honest_first (line ∷ a) b e = by_test (is_honest line) e (honest_first a b)
  where
    by_test : (x : Bool) → (x && list_all is_honest (a ++ b)) ≡ true → (list_all is_honest (a ++ b) ≡ true → list_all is_honest a ≡ true) → (x && list_all is_honest a) ≡ true
    by_test true e rest = rest e
    by_test false e rest = absurd (cc)

-- the last ones of such lines, and what a recorder keeps of them, are such lines
few_last : (a b : List Line) → AreFew (a ++ b) → AreFew b
few_last a b h = record { honest = honest_last a b h.honest; few = let all = calls_in-append a b in let most = h.few in omega arith }

kept_calls : (detail : Detail) (line : Line) → calls_in (recorded detail line) ≡ calls_in (line ∷ [])
kept_calls Lines (lines.Begin config other) = refl
kept_calls Lines (lines.Move move) = refl
kept_calls Lines line = refl
kept_calls Moves (lines.Begin config other) = refl
kept_calls Moves line = refl

kept_honest : (detail : Detail) (line : Line) → list_all is_honest (line ∷ []) ≡ true → list_all is_honest (recorded detail line) ≡ true
kept_honest Lines (lines.Begin config other) e = refl
kept_honest Lines (lines.Move move) e = refl
kept_honest Lines line e = e
kept_honest Moves (lines.Begin config other) e = refl
kept_honest Moves line e = e

few_kept : (detail : Detail) (ls : List Line) → AreFew ls → AreFew (kept_of detail ls)
few_kept detail ls h = record { honest = honest_all ls h.honest; few = let same = same_calls ls in let most = h.few in omega arith }
  where
    same_calls : (xs : List Line) → calls_in (kept_of detail xs) ≡ calls_in xs
    same_calls [] = refl
    same_calls (line ∷ xs) =
        calls_in-append (recorded detail line) (kept_of detail xs)
        ∙ (ap (λ (n : ℕ). n + calls_in (kept_of detail xs)) (kept_calls detail line)
        ∙ (ap (λ (n : ℕ). calls_in (line ∷ []) + n) (same_calls xs) ∙ sym (calls_in-append (line ∷ []) xs)))

    honest_all : (xs : List Line) → list_all is_honest xs ≡ true → list_all is_honest (kept_of detail xs) ≡ true
    honest_all [] e = refl
    honest_all (line ∷ xs) e =
        let here = kept_honest detail line (honest_first (line ∷ []) xs e) in
        all_honest-append (recorded detail line) (kept_of detail xs) here ∙ honest_all xs (honest_last (line ∷ []) xs e)

-- ---- what one happening shows

-- it overwrites nothing and moves neither the back's end of the ring nor a job
abbrev IsAside : ring.Happening → Type 0
IsAside ring.BackMoves = ⊥
IsAside (ring.JobMoves number outcome) = ⊥
IsAside (ring.Pokes frame word value) = ⊥
IsAside (ring.OverwritesKey name text) = ⊥
IsAside x = Unit {0}

abbrev IsPlain : Line → Type 0
IsPlain line = (is_honest line ≡ true) × (tells_call line ≡ false)

plain_line : (x : ring.Happening) (line : Line) → IsAside x → MayShow x line → IsPlain line
plain_line ring.BackMoves line aside shows = absurd aside
plain_line (ring.JobMoves number outcome) line aside shows = absurd aside
plain_line (ring.Pokes frame word value) line aside shows = absurd aside
plain_line (ring.OverwritesKey name text) line aside shows = absurd aside
plain_line x (lines.Poke frame word value) aside shows = absurd shows
plain_line x (lines.Key name text) aside shows = absurd shows
plain_line x (lines.Effect id index) aside shows = absurd shows
plain_line x (lines.EffectRead id index words) aside shows = absurd shows
plain_line x (lines.Flushed id) aside shows = absurd shows
plain_line x (lines.Trimmed id) aside shows = absurd shows
plain_line x (lines.Fault id index) aside shows = absurd shows
plain_line x line aside shows = (refl, refl)

-- plain lines
record ArePlain (ls : List Line) : Type 0 where
  honest : list_all is_honest ls ≡ true
  none : calls_in ls ≡ 0

both : (a b : Bool) → a ≡ true → b ≡ true → (a && b) ≡ true
both true b p q = q
both false b p q = absurd (cc)

not_among : (b : Bool) (line : Line) (ls : List Line) → b ≡ false → length ls ≡ 0 → length (cond b (line ∷ ls) ls) ≡ 0
not_among true line ls p q = absurd (cc)
not_among false line ls p q = q

plain_all : (ls : List Line) → AllByRecursion IsPlain ls → ArePlain ls
plain_all [] all = record { honest = refl; none = refl }
plain_all (line ∷ ls) all =
    let rest = plain_all ls all.1 in
    record { honest = both (is_honest line) (list_all is_honest ls) all.0.0 rest.honest; none = not_among (tells_call line) line (filter tells_call ls) all.0.1 rest.none }

plain_then : (a b : List Line) → ArePlain a → AreFew b → AreFew (a ++ b)
plain_then a b p q = record {
  honest = all_honest-append a b p.honest ∙ q.honest;
  few = let all = calls_in-append a b in let none = p.none in let most = q.few in omega arith;
}

few_then : (a b : List Line) → AreFew a → ArePlain b → AreFew (a ++ b)
few_then a b p q = record {
  honest = all_honest-append a b p.honest ∙ q.honest;
  few = let all = calls_in-append a b in let none = q.none in let most = p.few in omega arith;
}

no_lines : AreFew []
no_lines = record { honest = refl; few = omega arith }

nothing_more : ArePlain []
nothing_more = record { honest = refl; none = refl }

told_few : (t : Option BackTold) (a : BackAnswer) → AreFew (back_lines t a)
told_few None a = no_lines
told_few (Some (told.Effect id index)) (answers.Sector words) = record { honest = refl; few = omega arith }
told_few (Some (told.Effect id index)) a = record { honest = refl; few = omega arith }
told_few (Some (told.Flushed id)) a = record { honest = refl; few = omega arith }
told_few (Some (told.Trimmed id)) a = record { honest = refl; few = omega arith }
told_few (Some (told.Fault id index)) a = record { honest = refl; few = omega arith }
told_few (Some (told.Reply id status)) a = record { honest = refl; few = omega arith }

halt_plain : (before now : Option Halt) → ArePlain (halt_lines before now)
halt_plain None None = nothing_more
halt_plain None (Some why) = record { honest = refl; none = refl }
halt_plain (Some why) now = nothing_more

move_plain : (line : Line) → IsPlain line → ArePlain (line ∷ [])
move_plain line plain = plain_all (line ∷ []) (plain, tt)

job_few : (w : rings.World) (number : ℕ) (act : Option BackAct) → AreFew (ring.job_shows w number act)
job_few w number None = no_lines
job_few w number (Some a) =
    plain_then (lines.Move a.shown ∷ []) _ (move_plain (lines.Move a.shown) (refl, refl))
    (told_few (let b : back_view.View = back_step.job_step w.back number a.answer in b.told) a.answer)

back_few : (w : rings.World) (act : Option BackAct) → AreFew (ring.back_shows w act)
back_few w None = no_lines
back_few w (Some a) =
    let b : back_view.View = back_step.step_of w.back a.answer in
    plain_then (lines.Move a.shown ∷ []) _ (move_plain (lines.Move a.shown) (refl, refl))
    (few_then (back_lines b.told a.answer) (halt_lines w.back.halted b.halted) (told_few b.told a.answer) (halt_plain w.back.halted b.halted))

-- what is aside shows plain lines
aside_plain : (xs : List ring.Happening) (w : rings.World) → AllByRecursion IsAside xs → ArePlain (ring.lines_of xs w)
aside_plain [] w all = nothing_more
aside_plain (x ∷ xs) w all =
    let here = plain_all (ring.lines_at w x) (lines_are IsPlain w x (λ line shows. plain_line x line all.0 shows)) in
    let rest = aside_plain xs (ring.happens w x) all.1 in
    let whole = calls_in-append (ring.lines_at w x) (ring.lines_of xs (ring.happens w x)) in
    record {
      honest = all_honest-append (ring.lines_at w x) (ring.lines_of xs (ring.happens w x)) here.honest ∙ rest.honest;
      none = let one = here.none in let other = rest.none in omega arith;
    }

plain_few : (ls : List Line) → ArePlain ls → AreFew ls
plain_few ls p = record { honest = p.honest; few = let none = p.none in omega arith }

states_aside : (states : List FrontState) → AllByRecursion IsAside (map ring.FrontEnters states)
states_aside [] = tt
states_aside (s ∷ states) = (tt, states_aside states)

halts_aside : (reasons : List Halt) → AllByRecursion IsAside (map ring.BackHalts reasons)
halts_aside [] = tt
halts_aside (why ∷ reasons) = (tt, halts_aside reasons)

enters_aside : (speaks : Bool) (w : World) → AllByRecursion IsAside (front_enters speaks w)
enters_aside true w = states_aside (entered_at w (front_turn w))
enters_aside false w = tt

halting_aside : (speaks : Bool) (w : World) → AllByRecursion IsAside (back_halts speaks w)
halting_aside true w = halts_aside (halted_at w (back_turn w))
halting_aside false w = tt

front_aside : (ringed speaks : Bool) (w : World) → AllByRecursion IsAside (if ringed then ring.FrontMoves ∷ [] else ring.Negotiates end.Front (front_key (front.bus_ask_of (frontend_of w))) ∷ front_enters speaks w)
front_aside true speaks w = (tt, tt)
front_aside false speaks w = (tt, enters_aside speaks w)

one_few : (ls : List Line) → AreFew ls → AreFew (ls ++ [])
one_few ls h = few_then ls [] h nothing_more

back_shows_few : (ringed attached : Bool) (w : World) (b : BackView) → AreFew (ring.lines_of (if ringed then ring.BackMoves ∷ [] else back_negotiates attached w b) w.rings)
back_shows_few true attached w b = one_few _ (back_few w.rings (ring.back_turn w.rings Took))
back_shows_few false true w b = plain_few _ (aside_plain (back_negotiates true w b) w.rings (tt, tt))
back_shows_few false false w b =
    plain_few _ (aside_plain (back_negotiates false w b) w.rings (tt, halting_aside (back.bus_moves (back.bus_ask_of (backend_of w)) w.rings.back.stage) w))

-- nobody overwrites anything
abbrev IsHonestHappening : Happening → Type 0
IsHonestHappening (Pokes frame word value) = ⊥
IsHonestHappening (OverwritesKey name text) = ⊥
IsHonestHappening h = Unit {0}

happening_few : (w : World) (h : Happening) → IsHonestHappening h → AreFew (lines_at w h)
happening_few w (Pokes frame word value) honest = absurd honest
happening_few w (OverwritesKey name text) honest = absurd honest
happening_few w FrontMoves honest =
    plain_few _ (aside_plain (does w FrontMoves) w.rings (front_aside (is_fronts_ring w) (front.speaks (front.bus_ask_of (frontend_of w))) w))
happening_few w BackMoves honest = let b : BackView = back_bus_after w (back_turn w) in back_shows_few (is_backs_ring w) (attaches w b) w b
happening_few w (JobMoves number outcome) honest = one_few _ (job_few w.rings number (ring.job_turn w.rings number outcome))
happening_few w (Closes end.Front) honest = plain_few _ (aside_plain (does w (Closes end.Front)) w.rings (tt, tt))
happening_few w (Closes end.Back) honest = no_lines
happening_few w h honest = plain_few _ (aside_plain (does w h) w.rings (tt, tt))

-- ---- the image

-- of a whole report
pub whole_image : (config : Options) (detail : Detail) (jobs : List Submission) (before now : Option (List (List ℕ))) (report : List Line) → IsLawful config detail jobs before now report → IsHonest report → IsOneCallPast config.sectors before now report
whole_image config detail jobs before now report lawful honest = record {
  more = [];
  few = omega arith;
  run = subst (λ (ls : List Line). IsOfADisk config.sectors before ls → IsRun config.sectors before now ls) (sym (append-nil report)) (λ of. let serves = lawful.requests honest of in serves.disk);
}

-- of no line
pub nothing_image : (config : Options) (before now : DiskSeen) → HasLength before.content config.sectors → now.content ≡ before.content → IsOneCallPast config.sectors before.content now.content []
nothing_image config before now long same = record {
  more = [];
  few = omega arith;
  run = λ of. subst (λ (c : Option (List (List ℕ))). IsRun config.sectors before.content c []) (sym same) (at before.content long);
}
  where
    at : (content : Option (List (List ℕ))) → HasLength content config.sectors → IsRun config.sectors content content []
    at None sized = record { first = []; begins = refl; disk = disk_of []; run = refl; kept = tt }
    at (Some content) sized = record { first = content; begins = refl; disk = disk_of content; run = refl; kept = record { sized = sized; known = known_first content content (λ i words is. is) } }

-- of a report with some lines more, of which one tells of a call at most
more_image : (config : Options) (detail : Detail) (jobs : List Submission) (before now : Option (List (List ℕ))) (report more all : List Line) → report ++ more ≡ all → AreFew more → IsLawful config detail jobs before now all → IsHonest report → IsOneCallPast config.sectors before now report
more_image config detail jobs before now report more all same few lawful honest = record {
  more = more;
  few = few.few;
  run = subst (λ (ls : List Line). IsOfADisk config.sectors before ls → IsRun config.sectors before now ls) (sym same) (λ of. let serves = lawful.requests all_well of in serves.disk);
}
  where
    all_well : IsHonest all
    all_well = subst IsHonest same (all_honest-append report more honest ∙ few.honest)

disk_split : (first rest : List Happening) (w : World) (a c : DiskSeen) → DiskRuns (first ++ rest) w a c → (b : DiskSeen) × DiskRuns first w a b × DiskRuns rest (after first w) b c
disk_split [] rest w a c runs = (a, refl, runs)
disk_split (h ∷ first) rest w a c runs =
    let later = disk_split first rest (happens w h) runs.0 c runs.2 in
    (later.0, (runs.0, runs.1, later.1), later.2)

-- the lines of one thing that happened more
more_report : (config : Options) (detail : Detail) (history : List Happening) (last : Happening) (said rest : List Line) (cut : Line) → lines_at (after history (start_of config)) last ≡ said ++ cut ∷ rest
    → kept_of detail (report_of config detail history ++ said) ++ kept_of detail (cut ∷ rest) ≡ kept_of detail (report_of config detail (history ++ last ∷ []))
more_report config detail history last said rest cut all =
    let start = start_of config in
    let whole : lines_of (history ++ last ∷ []) start ≡ lines_of history start ++ (said ++ cut ∷ rest) =
    lines_of-append history (last ∷ []) start ∙ ap (λ (l : List Line). lines_of history start ++ l) (append-nil (lines_at (after history start) last) ∙ all) in
    sym (kept_of-append detail (report_of config detail history ++ said) (cut ∷ rest))
    ∙ ap (kept_of detail) (append_assoc (report_of config detail history) said (cut ∷ rest) ∙ ap (λ (l : List Line). lines.Begin config detail ∷ l) (sym whole))

-- what was stopped, among the lines of what happened last
record IsStopped (config : Options) (detail : Detail) (history : List Happening) (last : Happening) (said : List Line) (before now : DiskSeen) : Type 0 where
  told : IsTold config detail (history ++ last ∷ [])
  long : HasLength before.content config.sectors
  runs : DiskRuns (history ++ last ∷ []) (start_of config) before now
  honest : IsHonest (kept_of detail (report_of config detail history ++ said))

abbrev Image : Options → Detail → List Happening → List Line → DiskSeen → DiskSeen → Type 0
Image config detail history said before now = IsOneCallPast config.sectors before.content now.content (kept_of detail (report_of config detail history ++ said))

-- a hostile hand: its one line is the one that was cut, and the disk is as before it
hostile_image : (config : Options) (detail : Detail) (history : List Happening) (last : Happening) (said : List Line) (before now : DiskSeen) → IsStopped config detail history last said before now
    → said ≡ [] → ((b c : DiskSeen) → DiskRuns (last ∷ []) (after history (start_of config)) b c → c.content ≡ b.content) → Image config detail history said before now
hostile_image config detail history last said before now s none same =
    let split = disk_split history (last ∷ []) (start_of config) before now s.runs in
    let middle = split.0 in
    let report : report_of config detail history ≡ report_of config detail history ++ said = sym (append-nil (report_of config detail history)) ∙ ap (λ (l : List Line). report_of config detail history ++ l) (sym none) in
    let honest : IsHonest (kept_of detail (report_of config detail history)) = subst (λ (l : List Line). IsHonest (kept_of detail l)) (sym report) s.honest in
    subst (λ (l : List Line). IsOneCallPast config.sectors before.content now.content (kept_of detail l)) report
    (subst (λ (c : Option (List (List ℕ))). IsOneCallPast config.sectors before.content c (kept_of detail (report_of config detail history))) (sym (same middle now split.2))
    (whole_image config detail (submitted config history) before.content middle.content (kept_of detail (report_of config detail history))
    (report_lawful config detail history before middle (history_first config detail history last s.told) s.long split.1) honest))

honest_image : (config : Options) (detail : Detail) (history : List Happening) (last : Happening) (said rest : List Line) (cut : Line) (before now : DiskSeen) → IsStopped config detail history last said before now
    → lines_at (after history (start_of config)) last ≡ said ++ cut ∷ rest → IsHonestHappening last → Image config detail history said before now
honest_image config detail history last said rest cut before now s all honest =
    let few = few_last said (cut ∷ rest) (subst AreFew all (happening_few (after history (start_of config)) last honest)) in
    more_image config detail (submitted config (history ++ last ∷ [])) before.content now.content (kept_of detail (report_of config detail history ++ said)) (kept_of detail (cut ∷ rest))
    (kept_of detail (report_of config detail (history ++ last ∷ []))) (more_report config detail history last said rest cut all) (few_kept detail (cut ∷ rest) few)
    (report_lawful config detail (history ++ last ∷ []) before now s.told s.long s.runs) s.honest

one_cut : (b : Bool) (line : Line) (said rest : List Line) (cut : Line) → (if b then line ∷ [] else []) ++ [] ≡ said ++ cut ∷ rest → said ≡ []
one_cut b line [] rest cut e = refl
one_cut true line (x ∷ []) rest cut e = absurd (cc)
one_cut true line (x ∷ y ∷ said) rest cut e = absurd (cc)
one_cut false line (x ∷ said) rest cut e = absurd (cc)

unmoved : (a b c : DiskSeen) → b ≡ a → c ≡ b → c.content ≡ a.content
unmoved a b c p q = ap (λ (d : DiskSeen). d.content) (q ∙ p)

stopped_image : (config : Options) (detail : Detail) (history : List Happening) (last : Happening) (said rest : List Line) (cut : Line) (before now : DiskSeen) → IsStopped config detail history last said before now
    → lines_at (after history (start_of config)) last ≡ said ++ cut ∷ rest → Image config detail history said before now
stopped_image config detail history (Pokes frame word value) said rest cut before now s all =
    hostile_image config detail history (Pokes frame word value) said before now s (one_cut (ring.is_guest_word frame word) (lines.Poke frame word value) said rest cut all)
    (λ b c runs. unmoved b runs.1.0 c runs.1.1 (runs.2 ∙ runs.1.2))
stopped_image config detail history (OverwritesKey name text) said rest cut before now s all =
    hostile_image config detail history (OverwritesKey name text) said before now s (one_cut (ring.is_guest_key name text) (lines.Key name text) said rest cut all)
    (λ b c runs. unmoved b runs.1.0 c runs.1.1 (runs.2 ∙ runs.1.2))
stopped_image config detail history last said rest cut before now s all = honest_image config detail history last said rest cut before now s all tt

pub image_at_stop : (config : Options) (detail : Detail) (history : List Happening) (last : Happening) (said rest : List Line) (cut : Line) (before now : DiskSeen) → IsTold config detail (history ++ last ∷ []) → HasLength before.content config.sectors
    → DiskRuns (history ++ last ∷ []) (start_of config) before now → lines_at (after history (start_of config)) last ≡ said ++ cut ∷ rest
    → IsHonest (kept_of detail (report_of config detail history ++ said)) → IsOneCallPast config.sectors before.content now.content (kept_of detail (report_of config detail history ++ said))
image_at_stop config detail history last said rest cut before now told long runs all honest =
    stopped_image config detail history last said rest cut before now (record { told = told; long = long; runs = runs; honest = honest }) all

-- ---- the faults

faults_within : (ls : List Line) → faults_in ls ≤ calls_in ls
faults_within [] = omega arith
faults_within (line ∷ ls) = more line (faults_within ls)
  where
    more : (x : Line) → faults_in ls ≤ calls_in ls → faults_in (x ∷ ls) ≤ calls_in (x ∷ ls)
    more (lines.Effect id index) h = omega arith
    more (lines.EffectRead id index words) h = omega arith
    more (lines.Flushed id) h = omega arith
    more (lines.Trimmed id) h = omega arith
    more (lines.Fault id index) h = omega arith
    more x h = h

one_line : (b : Bool) (line : Line) → tells_call line ≡ false → calls_in ((if b then line ∷ [] else []) ++ []) ≤ 1
one_line true line e = let none = not_among (tells_call line) line [] e refl in omega arith
one_line false line e = omega arith

calls_at : (w : World) (h : Happening) → calls_in (lines_at w h) ≤ 1
calls_at w (Pokes frame word value) = one_line (ring.is_guest_word frame word) (lines.Poke frame word value) refl
calls_at w (OverwritesKey name text) = one_line (ring.is_guest_key name text) (lines.Key name text) refl
calls_at w h = (happening_few w h tt).few

pub faults_at_stop : (config : Options) (detail : Detail) (history : List Happening) (last : Happening) (said rest : List Line) (cut : Line) (before now : DiskSeen) → DiskRuns (history ++ last ∷ []) (start_of config) before now
    → lines_at (after history (start_of config)) last ≡ said ++ cut ∷ rest → IsOneFaultPast (kept_of detail (report_of config detail history ++ said)) before.faults now.faults
faults_at_stop config detail history last said rest cut before now runs all = by_count (faults_in (kept_of detail (cut ∷ rest))) refl
  where
    told : List Line
    told = kept_of detail (report_of config detail history ++ said)

    whole : IsRaised (faults_in (kept_of detail (report_of config detail (history ++ last ∷ [])))) before.faults now.faults
    whole = report_raised config detail (history ++ last ∷ []) before now runs

    both_told : faults_in (kept_of detail (report_of config detail (history ++ last ∷ []))) ≡ faults_in told + faults_in (kept_of detail (cut ∷ rest))
    both_told = ap faults_in (sym (more_report config detail history last said rest cut all)) ∙ faults_in-append told (kept_of detail (cut ∷ rest))

    few : faults_in (kept_of detail (cut ∷ rest)) ≤ 1
    few =
        let most = subst (λ (ls : List Line). calls_in ls ≤ 1) all (calls_at (after history (start_of config)) last) in
        let split = calls_in-append said (cut ∷ rest) in
        let within = faults_within (cut ∷ rest) in
        let kept = kept_faults detail (cut ∷ rest) in
        omega arith

    by_count : (n : ℕ) → faults_in (kept_of detail (cut ∷ rest)) ≡ n → IsOneFaultPast told before.faults now.faults
    by_count zero is = let same : faults_in (kept_of detail (report_of config detail (history ++ last ∷ []))) ≡ faults_in told = omega (arith, both_told, is) in inl (subst (λ (k : ℕ). IsRaised k before.faults now.faults) same whole)
    by_count (suc zero) is = let same : faults_in (kept_of detail (report_of config detail (history ++ last ∷ []))) ≡ faults_in told + 1 = omega (arith, both_told, is) in inr (subst (λ (k : ℕ). IsRaised k before.faults now.faults) same whole)
    by_count (suc (suc n)) is = absurd (omega (arith, few, is))
