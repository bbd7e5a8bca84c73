-- Each verdict on a line after lines that keep the rules is its rule.
use Rattle.std.proofs.Common.{refl, append_assoc, append-nil, [], ◌∷◌, ◌++◌, ◌↔◌, subst, ◌≡◌, Bool, ◌&&◌, List, ap, sym, ◌∙◌}
use Rattle.std.specs.Prelude.{Option, fold}
use Rattle.std.specs.Bool.{Decides}
use Rattle.std.specs.List.{list_any}
use Rattle.schedule_text.specs.declared.line.Line.{Line}
use Rattle.schedule_text.specs.declared.line.Line.TheVariants as lines
use Rattle.report_rules.specs.Obeys.{Obeys}
use Rattle.report_rules.proofs.Obeys.{obeys_none, obeys_more, obeys_before}
use Rattle.plain_disk.specs.declared.sight.Sight.{Sight}
use Rattle.plain_disk.specs.Disk.{Disk}
use Rattle.plain_disk.specs.Refusal as refusals
use Rattle.plain_disk.specs.Refusal.{nothing_seen, requests_in}
use Rattle.request_check.specs.Rules.{disk_after, OnDisk, is_closed_line, are_finished, IsStateAt, KeepsRequests, keeps_state, keeps_effect, keeps_barrier, keeps_service, keeps_reply, keeps_answer, keeps_data, keeps_quiet}
use Rattle.request_check.specs.State.{state_after}
use Rattle.request_check.specs.Verdicts.{allows_state, allows_effect, allows_barrier, allows_service, allows_reply, allows_answer, allows_data, allows_quiet}
use Rattle.request_check.specs.Laws.{VerdictsAreRules, AllowsRequests}
use Rattle.request_check.proofs.Front.{sight_seen, state_decided}
use Rattle.request_check.proofs.Runs.{at_disk, on_disk}
use Rattle.request_check.proofs.Runners.{Matches, matches}
use Rattle.request_check.proofs.Decided.{effect_same, barrier_same, service_same, reply_decided, answer_decided, data_decided, quiet_decided, idle_same}
use Rattle.request_check.proofs.Limits.{submit_decided}
use Rattle.request_check.proofs.WhyRefused.{refuse_decided}

decides : (before : List Line) (line : Line) (m : Matches before) (allows : Bool) (keeps : Disk → Line → Bool) → allows ≡ keeps m.disk line → Decides allows (OnDisk keeps before line)
decides before line m allows keeps same = ((λ yes. on_disk keeps (disk_after before) m.disk line m.is (sym same ∙ yes)), (λ kept. same ∙ at_disk keeps (disk_after before) m.disk line m.is kept))

closed_decided : (before : List Line) → Matches before → Decides (allows_state (state_after before) lines.Closed) (IsStateAt before lines.Closed)
closed_decided before m =
    let s = state_after before in
    let same : allows_state s lines.Closed ≡ keeps_state (fold refusals.seen nothing_seen before) (list_any is_closed_line before) (requests_in (disk_after before)) lines.Closed =
    ap (λ (b : Bool). s.sight.closing && b) (idle_same m.notes s m.disk m.follows)
    ∙ ap (λ (x : Sight). x.closing && are_finished m.disk.requests) (sight_seen before)
    ∙ ap (λ (o : Option Disk). (fold refusals.seen nothing_seen before).closing && are_finished (requests_in o)) (sym m.is) in
    ((λ yes. sym same ∙ yes), (λ kept. same ∙ kept))

each_state : (before : List Line) (line : Line) → Matches before → Decides (allows_state (state_after before) line) (IsStateAt before line)
each_state before lines.Closed m = closed_decided before m
each_state before line m = state_decided before line (λ e. absurd (cc))

pub verdicts : (before : List Line) (line : Line) → Obeys KeepsRequests before → VerdictsAreRules before line
verdicts before line obeys =
    let m = matches before obeys in
    let s = state_after before in
    record {
      state = each_state before line m;
      submit = submit_decided before line m;
      refuse = refuse_decided before line m;
      effect = decides before line m (allows_effect s line) keeps_effect (effect_same m.notes s m.disk m.follows line);
      barrier = decides before line m (allows_barrier s line) keeps_barrier (barrier_same m.notes s m.disk m.follows line);
      service = decides before line m (allows_service s line) keeps_service (service_same m.notes s m.disk m.follows line);
      reply = decides before line m (allows_reply s line) keeps_reply (reply_decided m.notes s m.disk m.follows line);
      answer = decides before line m (allows_answer s line) keeps_answer (answer_decided m.notes s m.disk m.follows line);
      told = decides before line m (allows_data s line) keeps_data (data_decided m.notes s m.disk m.follows line);
      quiet = decides before line m (allows_quiet s line) keeps_quiet (quiet_decided m.notes s m.disk m.follows line);
    }

-- ---- a whole report
allowed_by : (before : List Line) (line : Line) → VerdictsAreRules before line → KeepsRequests before line → AllowsRequests before line
allowed_by before line v k = record {
  state = v.state.1 k.state;
  submit = v.submit.1 k.submit;
  refuse = v.refuse.1 k.refuse;
  effect = v.effect.1 k.effect;
  barrier = v.barrier.1 k.barrier;
  service = v.service.1 k.service;
  reply = v.reply.1 k.reply;
  answer = v.answer.1 k.answer;
  told = v.told.1 k.told;
  quiet = v.quiet.1 k.quiet;
}

kept_by : (before : List Line) (line : Line) → VerdictsAreRules before line → AllowsRequests before line → KeepsRequests before line
kept_by before line v a = record {
  state = v.state.0 a.state;
  submit = v.submit.0 a.submit;
  refuse = v.refuse.0 a.refuse;
  effect = v.effect.0 a.effect;
  barrier = v.barrier.0 a.barrier;
  service = v.service.0 a.service;
  reply = v.reply.0 a.reply;
  answer = v.answer.0 a.answer;
  told = v.told.0 a.told;
  quiet = v.quiet.0 a.quiet;
}

each_allowed : (report : List Line) → Obeys KeepsRequests report → Obeys AllowsRequests report
each_allowed report obeys before after line e =
    allowed_by before line (verdicts before line (obeys_before KeepsRequests before (line ∷ after) (subst (λ (xs : List Line). Obeys KeepsRequests xs) e obeys))) (obeys before after line e)

kept_on : (before rest : List Line) → Obeys KeepsRequests before → Obeys AllowsRequests (before ++ rest) → Obeys KeepsRequests (before ++ rest)
kept_on before [] kept allowed = subst (λ (xs : List Line). Obeys KeepsRequests xs) (sym (append-nil before)) kept
kept_on before (line ∷ rest) kept allowed =
    let same : (before ++ line ∷ []) ++ rest ≡ before ++ line ∷ rest = append_assoc before (line ∷ []) rest in
    let more : Obeys KeepsRequests (before ++ line ∷ []) = obeys_more KeepsRequests before line kept (kept_by before line (verdicts before line kept) (allowed before rest line refl)) in
    subst (λ (xs : List Line). Obeys KeepsRequests xs) same (kept_on (before ++ line ∷ []) rest more (subst (λ (xs : List Line). Obeys AllowsRequests xs) (sym same) allowed))

pub kept_where_allowed : (report : List Line) → Obeys AllowsRequests report ↔ Obeys KeepsRequests report
kept_where_allowed report = ((λ allowed. kept_on [] report (obeys_none KeepsRequests) allowed), (λ obeys. each_allowed report obeys))
