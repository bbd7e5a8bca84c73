-- The laws of the machine, of what a recorder keeps of a history's report.
use Rattle.std.proofs.Common.{◌≡◌, ℕ, ◌^◌, ◌<◌, inl, inr, Bool, true, false, length, List, [], ◌∷◌, ◌++◌, Option, Some, None, refl, ap, sym, ◌∙◌, subst, arith, append_assoc, append-nil, length-append}
use Rattle.std.specs.List.{list_all}
use Rattle.std.proofs.lemmas.List.Elements.{All-nil, All-from_recursion, filter_map-append}
use Rattle.line_text.proofs.Both.{both_true}
use Rattle.blk_base.specs.Options.{Options}
use Rattle.blk_io.specs.Disk.{DiskSeen, HasLength}
use Rattle.schedule_text.specs.declared.line.Detail.{Detail}
use Rattle.schedule_text.specs.declared.line.Detail.TheVariants.{Lines, Moves}
use Rattle.schedule_text.specs.declared.line.Line.{Line}
use Rattle.schedule_text.specs.declared.line.Line.TheVariants.{Begin, End}
use Rattle.plain_disk.specs.Honest.{is_honest, honest_part, IsHonest}
use Rattle.plain_disk.proofs.Honest.{honest_more, honest_ends}
use Rattle.report_rules.specs.Obeys.{Obeys}
use Rattle.report_rules.specs.Coherent.{IsCoherentAt}
use Rattle.report_rules.specs.Overrun.{IsOverrunAt}
use Rattle.report_rules.proofs.Obeys.{obeys_none, obeys_more, obeys_before}
use Rattle.checked_rules.specs.declared.rule.Rule.{Rule}
use Rattle.checked_rules.specs.Rules.{IsTouchRuleAt, IsFetchAt, Keeps, ObeysEach, move_rules}
use Rattle.checked_rules.proofs.Listed.{each_before, each_none, kept_shown, unshown_obeys}
use Rattle.move_laws.proofs.Recorded.{ended_kept}
use Rattle.move_laws.proofs.Runs.{ended_obeys, coherent_of, answers_of, touches_of, grantable_of}
use Rattle.move_laws.proofs.Dumped.{ended_dumped}
use Rattle.move_laws.proofs.ReadOnly.{content_kept}
use Rattle.ring_laws.proofs.JobRuns.{ended_rules, steps_of, data_of, effects_of}
use Rattle.ring_laws.proofs.MakerRuns.{ended_unmaps, ended_own}
use Rattle.ring_laws.proofs.ReplyRuns.{ended_replies}
use Rattle.ring_laws.proofs.BackReads.{reads_of}
use Rattle.ring_laws.proofs.Runs.{ended_overruns, ended_stretches, ended_named}
use Rattle.pipeline_laws.specs.Run.{IsRun}
use Rattle.disk_laws.specs.Run.{IsRunSoFar}
use Rattle.pipeline_laws.proofs.AnsweredRuns.{run_answers_once, run_answers_at_quiet}
use Rattle.split_model.specs.World.{World, start_of}
use Rattle.split_model.specs.Happening.{Happening, Pokes, OverwritesKey, DiskRuns, happens, after, lines_at, lines_of}
use Rattle.split_model.specs.Honest.{honest_history}
use Rattle.schedule_text.specs.Recorder.{kept_of, line_bytes, report_text}
use Rattle.split_model.specs.Report.{report_of, ended_report_of}
use Rattle.split_model.proofs.Running.{kept_of-append}
use Rattle.machine_pipeline.specs.Plain.{IsPlain}
use Rattle.machine_pipeline.specs.Allowed.{AreServed, ArePossible}
use Rattle.machine_pipeline.specs.Submissions.{submitted_at, submitted_of}
use Rattle.machine_pipeline.proofs.HonestPart.{HostileAfter, HonestWith, HonestEnded, honest_with, honest_kept, honest_report, honest_ended, served_before, disk_runs_first, disk_part, submitted_part, kept_after, not_honest, CutOrWhole, cut_or_whole}
use Rattle.pipeline_laws.specs.Submissions.{IsAnswerAt, AreAnswered}
use Rattle.pipeline_laws.specs.Unbroken.{is_breach, IsUnbroken}
use Rattle.answer_laws.specs.Okay.{AreAnsweredByFaults}
use Rattle.answer_laws.proofs.Answering.{run_answers_by_faults}
use Rattle.pipeline_laws.specs.States.{IsStateAt, AreStates}
use Rattle.disk_laws.proofs.Reports.{reports_run, ended_reports_run}
use Rattle.pipeline_laws.specs.Submissions.{submitted_of as steps_submit}
use Rattle.disk_laws.proofs.Before.{HasRunSoFar, whole_report, ended_report, begun_report, begun_run, begun_answered, begun_once, begun_at_quiet, begun_unbroken, begun_states}
use Rattle.pipeline_laws.specs.Effects.{IsOfADisk}
use Rattle.disk_laws.proofs.Reports.{reports_answered, ended_answered, reports_unbroken, ended_unbroken, reports_states, ended_states}
use Rattle.schedule_text.specs.Range.{AreOptions, IsInRange}
use Rattle.schedule_text.specs.Line.{text_of}
use Rattle.plain_disk.specs.Disk.{disk_of}
use Rattle.blk_base.specs.declared.config.Submission.{Submission}
use Rattle.report_laws.specs.Begun.{IsBegun}
use Rattle.report_laws.specs.Grammar.{IsInGrammar}
use Rattle.report_laws.specs.Ready.{IsReadyAt}
use Rattle.report_laws.specs.QuietRing.{IsQuietRingAt}
use Rattle.report_laws.specs.States.{IsAgreedAt, AreStatesAgreed}
use Rattle.report_laws.specs.Ports.{IsFewPortsAt}
use Rattle.report_laws.specs.Agreed.{AreAgreed}
use Rattle.report_laws.proofs.Begun.{report_begun, ended_begun, begun_before}
use Rattle.report_laws.proofs.Grammar.{ended_grammar}
use Rattle.report_laws.proofs.Texts.{grammar_before}
use Rattle.report_laws.proofs.Ready.{ended_ready}
use Rattle.report_laws.proofs.QuietRing.{ended_quiet}
use Rattle.report_laws.proofs.States.{ended_agreed}
use Rattle.report_laws.specs.Settled.{is_unsettled, IsSettled, ends_quiet, AreSettled}
use Rattle.report_laws.proofs.Settled.{ended_settled, settled_before}
use Rattle.report_laws.proofs.FewPorts.{ended_ports}
use Rattle.refusal_laws.specs.Ruled.{IsRuledAt, AreRuled}
use Rattle.refusal_laws.proofs.Serves.{AreServing}
use Rattle.refusal_laws.proofs.Runs.{report_ruled}
use Rattle.refusal_laws.proofs.Kept.{kept_ruled}
use Rattle.schedule_run.proofs.Wished.{possible_wished}
use Rattle.schedule_run.proofs.FewReads.{IsBrief}
use Rattle.schedule_run.proofs.Caused.{caused_before, nothing_caused}
use Rattle.schedule_run.specs.Lawful.{ObeysMoves, ServesRequests, ServesRequestsSoFar, HasCauses, IsLawful, IsLawfulSoFar}

-- each rule on moves, where they are shown
ended_moved : (config : Options) (history : List Happening) → IsPlain config → reads_of (report_of config Moves history) < 2 ^ 64 → ObeysEach move_rules (ended_report_of config Moves history)
ended_moved config history plain few =
    let report = ended_report_of config Moves history in
    let memory = ended_obeys config Moves history plain.order in
    let work = ended_rules config Moves history plain.indirect few in
    let touch : Obeys IsTouchRuleAt report = λ before after line is. record { touch = touches_of report memory before after line is; answer = answers_of report memory before after line is } in
    let fetch : Obeys IsFetchAt report = λ before after line is. record {
      stretch = ended_stretches config Moves history plain.start before after line is;
      step = steps_of report work before after line is;
      effect = effects_of report work before after line is;
      given = data_of report work before after line is;
      reply = ended_replies config Moves history plain.indirect few before after line is;
    } in
    All-from_recursion (λ (rule : Rule). Obeys (Keeps rule) report) move_rules
    (kept_shown IsCoherentAt report (coherent_of report memory), (kept_shown IsTouchRuleAt report touch, (kept_shown IsFetchAt report fetch, (kept_shown IsOverrunAt report (ended_overruns config Moves history), tt))))

-- and where they aren't
ended_ruled_moves : (detail : Detail) (config : Options) (history : List Happening) → IsPlain config → reads_of (report_of config detail history) < 2 ^ 64 → ObeysEach move_rules (kept_of detail (ended_report_of config detail history))
ended_ruled_moves Moves config history plain few = subst (ObeysEach move_rules) (sym (ended_kept config history)) (ended_moved config history plain few)
ended_ruled_moves Lines config history plain few =
    let begun : IsBegun config Lines (kept_of Lines (ended_report_of config Lines history)) = ended_begun config Lines history in
    subst (ObeysEach move_rules) (sym begun.first) (unshown_obeys config begun.rest begun.once)

-- what the moves are besides
ended_moves : (config : Options) (history : List Happening) → IsPlain config → ArePossible history (start_of config) → reads_of (report_of config Moves history) < 2 ^ 64 → ObeysMoves config.order (ended_report_of config Moves history)
ended_moves config history plain may few = record {
  grantable = grantable_of (ended_report_of config Moves history) (ended_obeys config Moves history plain.order);
  dumps = ended_dumped config Moves history plain.order (possible_wished config history may);
  layout = ended_named config Moves history;
  unmaps = ended_unmaps config Moves history plain.indirect few;
  own = ended_own config Moves history plain.indirect few;
}

ended_shown : (detail : Detail) (config : Options) (history : List Happening) → IsPlain config → ArePossible history (start_of config) → reads_of (report_of config detail history) < 2 ^ 64 → detail ≡ Moves → ObeysMoves config.order (kept_of detail (ended_report_of config detail history))
ended_shown Moves config history plain may few same = subst (ObeysMoves config.order) (sym (ended_kept config history)) (ended_moves config history plain may few)
ended_shown Lines config history plain may few same = absurd (cc)

-- of a beginning
moves_before : (order : ℕ) (report more : List Line) → ObeysMoves order (report ++ more) → ObeysMoves order report
moves_before order report more h = record {
  grantable = obeys_before _ report more h.grantable;
  dumps = obeys_before _ report more h.dumps;
  layout = obeys_before _ report more h.layout;
  unmaps = obeys_before _ report more h.unmaps;
  own = obeys_before _ report more h.own;
}

-- a run of the plain disk serves its requests
serves : (config : Options) (jobs : List Submission) (before now : Option (List (List ℕ))) (report : List Line) → IsRun config.sectors before now report → AreAnswered jobs report → IsUnbroken report → AreStates report → ServesRequests config jobs before now report
serves config jobs before now report run answered unbroken states = record {
  disk = run;
  submissions = answered;
  once = run_answers_once report run.first run.disk run.run;
  statuses = run_answers_by_faults report run.first run.disk run.run;
  quiet = run_answers_at_quiet report run.first run.disk run.run;
  unbroken = unbroken;
  states = states;
}

-- a history of the machine with these options, brief enough
pub record IsTold (config : Options) (detail : Detail) (history : List Happening) : Type 0 where
  pub plain : IsPlain config
  pub options : AreOptions config
  pub possible : ArePossible history (start_of config)
  pub served : AreServed (honest_history history) (start_of config)
  pub agreed : AreAgreed (honest_history history) (start_of config)
  pub settled : AreSettled (honest_history history)
  pub serving : AreServing config history
  pub brief : IsBrief config detail history

-- what happened before a hostile hand first overwrote a word or a key
allowed : {config : Options} {detail : Detail} {history : List Happening} → IsTold config detail history → AreServed (honest_history history) (start_of config)
allowed h = h.served

-- the first part of a history in which both ends agree is one
pub agreed_before : (first rest : List Happening) (w : World) → AreAgreed (honest_history (first ++ rest)) w → AreAgreed (honest_history first) w
agreed_before [] rest w are = tt
agreed_before (Pokes frame word value ∷ first) rest w are = tt
agreed_before (OverwritesKey name text ∷ first) rest w are = tt
agreed_before (h ∷ first) rest w are = (are.0, agreed_before first rest (happens w h) are.1)

-- the first part of a history whose settlings end in quiet is one
pub settled_first : (first rest : List Happening) → AreSettled (honest_history (first ++ rest)) → AreSettled (honest_history first)
settled_first [] rest are = refl
settled_first (Pokes frame word value ∷ first) rest are = refl
settled_first (OverwritesKey name text ∷ first) rest are = refl
settled_first (h ∷ first) rest are =
    let both = both_true (ends_quiet h) (list_all ends_quiet (honest_history (first ++ rest))) are in
    rw (both.0, settled_first first rest both.1) refl

-- both ends' states at `quiet`, where the moves are shown
ended_alike : (detail : Detail) (config : Options) (history : List Happening) → AreAgreed history (start_of config) → detail ≡ Moves → AreStatesAgreed (kept_of detail (ended_report_of config detail history))
ended_alike detail config history are same = subst (λ (d : Detail). AreStatesAgreed (kept_of d (ended_report_of config d history))) (sym same) (ended_agreed config history are)

-- each submission is answered by the first rule that applies
whole_ruled : (config : Options) (detail : Detail) (history : List Happening) → IsTold config detail history → AreRuled (submitted_of history) (report_of config detail history)
whole_ruled config detail history h = let plain = h.plain in report_ruled config detail history plain.indirect h.possible h.serving

ended_ruled : (config : Options) (detail : Detail) (history : List Happening) → IsTold config detail history → AreRuled (submitted_of history) (kept_of detail (ended_report_of config detail history))
ended_ruled config detail history h =
    kept_ruled (submitted_of history) detail (ended_report_of config detail history) (obeys_more (IsRuledAt (submitted_of history)) (report_of config detail history) End (whole_ruled config detail history h) tt)

-- the first part of a history is one whose front knows what the back serves
pub serving_before : (config : Options) (first rest : List Happening) → AreServing config (first ++ rest) → AreServing config first
serving_before config [] rest all = tt
serving_before config (h ∷ first) rest all = (all.0, serving_before config first rest all.1)

begun_statuses : (before : Option (List (List ℕ))) (report : List Line) → IsRunSoFar before report → AreAnsweredByFaults report
begun_statuses before report h = run_answers_by_faults report h.first h.disk h.run

-- what the beginning of a report tells of its requests, where a run has that report
so_far_served : (jobs : List Submission) (before : Option (List (List ℕ))) (report : List Line) → HasRunSoFar jobs before report → ServesRequestsSoFar jobs before report
so_far_served jobs before report h = record {
  disk = begun_run jobs before report h;
  submissions = begun_answered jobs before report h;
  once = begun_once jobs before report h;
  statuses = begun_statuses before report (begun_run jobs before report h);
  quiet = begun_at_quiet jobs before report h;
  unbroken = begun_unbroken jobs before report h;
  states = begun_states jobs before report h;
}

-- more may be submitted later
pub later_run : (jobs more all : List Submission) (before : Option (List (List ℕ))) (report : List Line) → jobs ++ more ≡ all → HasRunSoFar jobs before report → HasRunSoFar all before report
later_run jobs more all before report e h = record {
  run = h.run;
  report_same = h.report_same;
  more = h.more ++ more;
  submits = sym (append_assoc (let r = h.run in steps_submit r.steps) h.more more) ∙ (ap (λ (js : List Submission). js ++ more) h.submits ∙ e);
  from = h.from;
}

-- the honest part of a report
honest_run : (config : Options) (detail : Detail) (history : List Happening) (before now : DiskSeen) → IsTold config detail history → HasLength before.content config.sectors → DiskRuns history (start_of config) before now
    → IsOfADisk config.sectors before.content (kept_of detail (report_of config detail (honest_history history)))
    → HasRunSoFar (submitted_of history) before.content (kept_of detail (report_of config detail (honest_history history)))
honest_run config detail history before now h long runs of =
    let part = disk_part history (start_of config) before now runs in
    let submitted = submitted_part history in
    later_run (submitted_of (honest_history history)) submitted.0 (submitted_of history) before.content _ submitted.1
    (whole_report config detail (honest_history history) before part.0 h.plain (allowed h) long part.1 of)

report_honest : (config : Options) (detail : Detail) (history : List Happening) → IsTold config detail history → honest_part (kept_of detail (report_of config detail history)) ≡ kept_of detail (report_of config detail (honest_history history))
report_honest config detail history h = honest_kept detail (report_of config detail history) ∙ ap (kept_of detail) (honest_report config detail history h.possible)

-- where no line of a kept report is hostile, nothing was overwritten
all_honest : (config : Options) (detail : Detail) (history : List Happening) → IsTold config detail history → IsHonest (kept_of detail (report_of config detail history)) → honest_history history ≡ history
all_honest config detail history h honest = by_part (honest_with history (start_of config) [] h.possible)
  where
    first : List Line
    first = report_of config detail (honest_history history)

    by_part : HonestWith history (start_of config) [] → honest_history history ≡ history
    by_part (inl all) = all
    by_part (inr k) =
        let cut : HostileAfter (report_of config detail history) first = record { line = k.line; rest = k.rest; hostile = k.hostile; split = ap (λ (l : List Line). Begin config detail ∷ l) (sym (append-nil (lines_of history (start_of config))) ∙ k.split) } in
        absurd (not_honest (kept_of detail (report_of config detail history)) (kept_of detail first) (kept_after detail (report_of config detail history) first cut) honest)

all_ended : (config : Options) (detail : Detail) (history : List Happening) → IsTold config detail history → IsHonest (kept_of detail (ended_report_of config detail history)) → honest_history history ≡ history
all_ended config detail history h honest = by_part (honest_ended config detail history h.possible)
  where
    by_part : HonestEnded config detail history → honest_history history ≡ history
    by_part (inl all) = all.0
    by_part (inr k) =
        absurd (not_honest (kept_of detail (ended_report_of config detail history)) (kept_of detail (report_of config detail (honest_history history)))
        (kept_after detail (ended_report_of config detail history) (report_of config detail (honest_history history)) k.0) honest)

served_whole : {config : Options} {detail : Detail} {history : List Happening} → IsTold config detail history → honest_history history ≡ history → AreServed history (start_of config)
served_whole {config = config} h all = subst (λ (hs : List Happening). AreServed hs (start_of config)) all (allowed h)

report_serves : (config : Options) (detail : Detail) (history : List Happening) (before now : DiskSeen) → IsTold config detail history → HasLength before.content config.sectors → DiskRuns history (start_of config) before now → honest_history history ≡ history
    → IsOfADisk config.sectors before.content (kept_of detail (report_of config detail history))
    → ServesRequests config (submitted_of history) before.content now.content (kept_of detail (report_of config detail history))
report_serves config detail history before now h long runs all of =
    let may = served_whole h all in
    serves config (submitted_of history) before.content now.content (kept_of detail (report_of config detail history))
    (reports_run config detail history before now h.plain may long runs of) (reports_answered config detail history before now h.plain may long runs of)
    (reports_unbroken config detail history before now h.plain may long runs of) (reports_states config detail history before now h.plain may long runs of)

ended_serves : (config : Options) (detail : Detail) (history : List Happening) (before now : DiskSeen) → IsTold config detail history → HasLength before.content config.sectors → DiskRuns history (start_of config) before now → honest_history history ≡ history
    → IsOfADisk config.sectors before.content (kept_of detail (ended_report_of config detail history))
    → ServesRequests config (submitted_of history) before.content now.content (kept_of detail (ended_report_of config detail history))
ended_serves config detail history before now h long runs all of =
    let may = served_whole h all in
    serves config (submitted_of history) before.content now.content (kept_of detail (ended_report_of config detail history))
    (ended_reports_run config detail history before now h.plain may long runs of) (ended_answered config detail history before now h.plain may long runs of)
    (ended_unbroken config detail history before now h.plain may long runs of) (ended_states config detail history before now h.plain may long runs of)

-- the honest part of a report with its last line: all of it, or the report of what happened before
abbrev OfPart : (config : Options) (detail : Detail) (history : List Happening) → (List Line → Type 0) → Type 0
OfPart config detail history P =
    (honest_history history ≡ history → P (kept_of detail (ended_report_of config detail history)))
    → P (kept_of detail (report_of config detail (honest_history history)))
    → P (honest_part (kept_of detail (ended_report_of config detail history)))

of_part : (config : Options) (detail : Detail) (history : List Happening) → IsTold config detail history → (P : List Line → Type 0) → OfPart config detail history P
of_part config detail history h P whole first = by_part (honest_ended config detail history h.possible)
  where
    kept : honest_part (kept_of detail (ended_report_of config detail history)) ≡ kept_of detail (honest_part (ended_report_of config detail history))
    kept = honest_kept detail (ended_report_of config detail history)

    by_part : HonestEnded config detail history → P (honest_part (kept_of detail (ended_report_of config detail history)))
    by_part (inl all) = subst P (sym (kept ∙ ap (kept_of detail) all.1)) (whole all.0)
    by_part (inr k) = subst P (sym (kept ∙ ap (kept_of detail) k.1)) first

pub report_honest_run : (config : Options) (detail : Detail) (history : List Happening) (before now : DiskSeen) → IsTold config detail history → HasLength before.content config.sectors → DiskRuns history (start_of config) before now
    → IsOfADisk config.sectors before.content (honest_part (kept_of detail (report_of config detail history)))
    → HasRunSoFar (submitted_of history) before.content (honest_part (kept_of detail (report_of config detail history)))
report_honest_run config detail history before now h long runs =
    subst (λ (ls : List Line). IsOfADisk config.sectors before.content ls → HasRunSoFar (submitted_of history) before.content ls) (sym (report_honest config detail history h))
    (honest_run config detail history before now h long runs)

pub ended_honest_run : (config : Options) (detail : Detail) (history : List Happening) (before now : DiskSeen) → IsTold config detail history → HasLength before.content config.sectors → DiskRuns history (start_of config) before now
    → IsOfADisk config.sectors before.content (honest_part (kept_of detail (ended_report_of config detail history)))
    → HasRunSoFar (submitted_of history) before.content (honest_part (kept_of detail (ended_report_of config detail history)))
ended_honest_run config detail history before now h long runs =
    of_part config detail history h (λ (ls : List Line). IsOfADisk config.sectors before.content ls → HasRunSoFar (submitted_of history) before.content ls)
    (λ all. ended_report config detail history before now h.plain (served_whole h all) long runs)
    (honest_run config detail history before now h long runs)

-- the honest part of the beginning of a report begins that of what happened before
prefix_honest : (a b : List Line) → (r : List Line) × (honest_part a ++ r ≡ honest_part (a ++ b))
prefix_honest [] b = (honest_part b, refl)
prefix_honest (line ∷ a) b = by_test (is_honest line) refl (prefix_honest a b)
  where
    by_test : (x : Bool) → is_honest line ≡ x → ((r : List Line) × (honest_part a ++ r ≡ honest_part (a ++ b))) → (r : List Line) × (honest_part (line ∷ a) ++ r ≡ honest_part (line ∷ (a ++ b)))
    by_test true e rest = (
      rest.0,
      ap (λ (l : List Line). l ++ rest.0) (honest_more line a e) ∙ (ap (λ (l : List Line). line ∷ l) rest.1 ∙ sym (honest_more line (a ++ b) e)),
    )
    by_test false e rest = ([], append-nil (honest_part (line ∷ a)) ∙ (honest_ends line a e ∙ sym (honest_ends line (a ++ b) e)))

said_part : (config : Options) (detail : Detail) (history : List Happening) (said rest : List Line) → IsTold config detail history → said ++ rest ≡ ended_report_of config detail history
    → (more : List Line) × (honest_part (kept_of detail said) ++ more ≡ kept_of detail (ended_report_of config detail (honest_history history)))
said_part config detail history said rest h all = by_part (honest_ended config detail history h.possible)
  where
    ended : List Line
    ended = ended_report_of config detail history

    begins : (r : List Line) × (honest_part (kept_of detail said) ++ r ≡ honest_part (kept_of detail said ++ kept_of detail rest))
    begins = prefix_honest (kept_of detail said) (kept_of detail rest)

    same : honest_part (kept_of detail said ++ kept_of detail rest) ≡ kept_of detail (honest_part ended)
    same = ap honest_part (sym (kept_of-append detail said rest) ∙ ap (kept_of detail) all) ∙ honest_kept detail ended

    by_part : HonestEnded config detail history → (more : List Line) × (honest_part (kept_of detail said) ++ more ≡ kept_of detail (ended_report_of config detail (honest_history history)))
    by_part (inl whole) = (begins.0, begins.1 ∙ (same ∙ (ap (kept_of detail) whole.1 ∙ ap (λ (hs : List Happening). kept_of detail (ended_report_of config detail hs)) (sym whole.0))))
    by_part (inr k) =
        let first = report_of config detail (honest_history history) in (
          begins.0 ++ kept_of detail (End ∷ []),
          sym (append_assoc (honest_part (kept_of detail said)) begins.0 (kept_of detail (End ∷ [])))
              ∙ (ap (λ (l : List Line). l ++ kept_of detail (End ∷ [])) (begins.1 ∙ (same ∙ ap (kept_of detail) k.1))
              ∙ sym (kept_of-append detail first (End ∷ []))),
        )

-- the honest part of a report that was cut among the lines of what happened last
pub begun_honest : (config : Options) (detail : Detail) (history : List Happening) (last : Happening) (part rest : List Line) (before now : DiskSeen) → IsTold config detail (history ++ last ∷ [])
    → HasLength before.content config.sectors → DiskRuns (history ++ last ∷ []) (start_of config) before now
    → part ++ rest ≡ lines_at (after history (start_of config)) last
    → IsOfADisk config.sectors before.content (honest_part (kept_of detail (report_of config detail history ++ part)))
    → HasRunSoFar (submitted_of (history ++ last ∷ [])) before.content (honest_part (kept_of detail (report_of config detail history ++ part)))
begun_honest config detail history last part rest before now h long runs all of = by_part (cut_or_whole config detail history last part rest h.possible all)
  where
    said : List Line
    said = report_of config detail history ++ part

    by_part : CutOrWhole config detail history last part → HasRunSoFar (submitted_of (history ++ last ∷ [])) before.content (honest_part (kept_of detail said))
    by_part (inl whole) =
        let same : honest_part (kept_of detail said) ≡ kept_of detail said = honest_kept detail said ∙ ap (kept_of detail) whole.1 in
        subst (HasRunSoFar (submitted_of (history ++ last ∷ [])) before.content) (sym same)
        (begun_report config detail history last part rest before now h.plain (served_whole h whole.0) long runs all (subst (IsOfADisk config.sectors before.content) same of))
    by_part (inr cut) =
        let same : honest_part (kept_of detail said) ≡ kept_of detail (report_of config detail (honest_history history)) = honest_kept detail said ∙ ap (kept_of detail) cut in
        let first = disk_runs_first history (last ∷ []) (start_of config) before now runs in
        let part_disk = disk_part history (start_of config) before first.0 first.1 in
        let submitted = submitted_part history in
        let both : submitted_of (history ++ last ∷ []) ≡ submitted_of history ++ submitted_of (last ∷ []) = filter_map-append submitted_at history (last ∷ []) in
        subst (HasRunSoFar (submitted_of (history ++ last ∷ [])) before.content) (sym same)
        (later_run (submitted_of (honest_history history)) (submitted.0 ++ submitted_of (last ∷ [])) (submitted_of (history ++ last ∷ [])) before.content _
        (sym (append_assoc (submitted_of (honest_history history)) submitted.0 (submitted_of (last ∷ []))) ∙ (ap (λ (js : List Submission). js ++ submitted_of (last ∷ [])) submitted.1 ∙ sym both))
        (whole_report config detail (honest_history history) before part_disk.0 h.plain (served_before history (last ∷ []) (start_of config) h.served) long part_disk.1
        (subst (IsOfADisk config.sectors before.content) same of)))

-- the beginning of a report is lawful
pub begun_lawful : (config : Options) (detail : Detail) (history : List Happening) (before : Option (List (List ℕ))) (said rest : List Line) → IsTold config detail history
    → said ++ rest ≡ ended_report_of config detail history
    → (IsOfADisk config.sectors before (honest_part (kept_of detail said)) → HasRunSoFar (submitted_of history) before (honest_part (kept_of detail said)))
    → (detail ≡ Moves → HasCauses (kept_of detail (ended_report_of config detail history)))
    → IsLawfulSoFar config detail (submitted_of history) before (kept_of detail said)
begun_lawful config detail history before said rest h all run causes =
    let one = kept_of detail said in
    let other = kept_of detail rest in
    let split : one ++ other ≡ kept_of detail (ended_report_of config detail history) = sym (kept_of-append detail said rest) ∙ ap (kept_of detail) all in
    let part = said_part config detail history said rest h all in
    record {
      begun = begun_before config detail one other (subst (IsBegun config detail) (sym split) (ended_begun config detail history));
      grammar = grammar_before one other (subst IsInGrammar (sym split) (ended_grammar config detail history h.options h.possible h.brief.numbers));
      refusals = obeys_before (IsRuledAt (submitted_of history)) one other (subst (AreRuled (submitted_of history)) (sym split) (ended_ruled config detail history h));
      honest = λ of. so_far_served (submitted_of history) before (honest_part one) (run of);
      ready = obeys_before IsReadyAt (honest_part one) part.0 (subst (Obeys IsReadyAt) (sym part.1) (ended_ready config detail (honest_history history) (allowed h)));
      settled = settled_before (honest_part one) part.0 (subst IsSettled (sym part.1) (ended_settled config detail (honest_history history) h.settled));
      ring = λ moves. obeys_before IsQuietRingAt (honest_part one) part.0 (subst (Obeys IsQuietRingAt) (sym part.1) (ended_quiet config detail (honest_history history) h.plain (allowed h) moves));
      agreed = λ moves. obeys_before IsAgreedAt (honest_part one) part.0 (subst (Obeys IsAgreedAt) (sym part.1) (ended_alike detail config (honest_history history) h.agreed moves));
      ports = λ moves. obeys_before IsFewPortsAt one other (subst (Obeys IsFewPortsAt) (sym split) (ended_ports config detail history));
      causes = λ moves. caused_before one other (subst HasCauses (sym split) (causes moves));
      moves = λ moves. moves_before config.order one other (subst (ObeysMoves config.order) (sym split) (ended_shown detail config history h.plain h.possible h.brief.reads moves));
      rules = each_before move_rules one other (subst (ObeysEach move_rules) (sym split) (ended_ruled_moves detail config history h.plain h.brief.reads));
    }

-- and all of it, without its last line and with it
pub report_lawful : (config : Options) (detail : Detail) (history : List Happening) (before now : DiskSeen) → IsTold config detail history → HasLength before.content config.sectors → DiskRuns history (start_of config) before now → (detail ≡ Moves → HasCauses (kept_of detail (ended_report_of config detail history))) → IsLawful config detail (submitted_of history) before.content now.content (kept_of detail (report_of config detail history))
report_lawful config detail history before now h long runs causes = record {
  begun = report_begun config detail history;
  so_far = begun_lawful config detail history before.content (report_of config detail history) (End ∷ []) h refl (report_honest_run config detail history before now h long runs) causes;
  kept = λ fixed. content_kept config history before now fixed runs;
  requests = λ honest of. report_serves config detail history before now h long runs (all_honest config detail history h honest) of;
}

pub ended_lawful : (config : Options) (detail : Detail) (history : List Happening) (before now : DiskSeen) → IsTold config detail history → HasLength before.content config.sectors → DiskRuns history (start_of config) before now → (detail ≡ Moves → HasCauses (kept_of detail (ended_report_of config detail history))) → IsLawful config detail (submitted_of history) before.content now.content (kept_of detail (ended_report_of config detail history))
ended_lawful config detail history before now h long runs causes =
    let report = ended_report_of config detail history in
    record {
      begun = ended_begun config detail history;
      so_far = begun_lawful config detail history before.content report [] h (append-nil report) (ended_honest_run config detail history before now h long runs) causes;
      kept = λ fixed. content_kept config history before now fixed runs;
      requests = λ honest of. ended_serves config detail history before now h long runs (all_ended config detail history h honest) of;
    }

-- no lines
none_read_otherwise : (other : List Line) → report_text other ≡ [] → other ≡ []
none_read_otherwise [] e = refl
none_read_otherwise (line ∷ other) e =
    let long : length (report_text (line ∷ other)) ≡ 0 = ap length e in
    let all = length-append (line_bytes line) (report_text other) in
    let feed = length-append (text_of line) (10 ∷ []) in
    absurd (omega arith)

pub nothing_lawful : (config : Options) (detail : Detail) (jobs : List Submission) (before : Option (List (List ℕ))) → IsLawfulSoFar config detail jobs before []
nothing_lawful config detail jobs before =
    let run = nothing_run before in
    record {
      begun = tt;
      grammar = record { lines = All-nil IsInRange; exact = λ other all same. none_read_otherwise other same };
      refusals = obeys_none (IsRuledAt jobs);
      honest = λ of. record {
        disk = run;
        submissions = obeys_none (IsAnswerAt jobs);
        once = run_answers_once [] run.first run.disk run.run;
        statuses = run_answers_by_faults [] run.first run.disk run.run;
        quiet = run_answers_at_quiet [] run.first run.disk run.run;
        unbroken = All-nil (λ (line : Line). is_breach line ≡ false);
        states = obeys_none IsStateAt;
      };
      ready = obeys_none IsReadyAt;
      settled = All-nil (λ (line : Line). is_unsettled line ≡ false);
      ring = λ same. obeys_none IsQuietRingAt;
      agreed = λ same. obeys_none IsAgreedAt;
      ports = λ same. obeys_none IsFewPortsAt;
      causes = λ same. nothing_caused;
      moves = λ same. record { grantable = obeys_none _; dumps = obeys_none _; layout = obeys_none _; unmaps = obeys_none _; own = obeys_none _ };
      rules = each_none move_rules;
    }
  where
    nothing_run : (before : Option (List (List ℕ))) → IsRunSoFar before []
    nothing_run None = record { first = []; begins = refl; disk = disk_of []; run = refl }
    nothing_run (Some content) = record { first = content; begins = refl; disk = disk_of content; run = refl }
