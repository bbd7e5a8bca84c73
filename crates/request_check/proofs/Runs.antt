-- Reports that keep the rules on requests, and runs of the plain disk.
use Rattle.std.proofs.Common.{append_assoc, ◌≡◌, ◌+◌, Bool, true, List, [], ◌∷◌, ◌++◌, length, refl, sym, ◌∙◌, ap, subst}
use Rattle.std.specs.Prelude.{Option, Some, None, option_and_then, IfSome}
use Rattle.std.proofs.lemmas.Option.{none-some}
use Rattle.schedule_text.specs.declared.line.Line.{Line}
use Rattle.schedule_text.specs.declared.line.Line.TheVariants as lines
use Rattle.report_rules.specs.Obeys.{Obeys}
use Rattle.plain_disk.specs.Disk.{Disk, disk_of}
use Rattle.plain_disk.specs.Step.{step, after}
use Rattle.plain_disk.specs.Refusal.{requests_in}
use Rattle.request_check.specs.Rules.{disk_after, IsStateAt, IsSubmitAt, IsRefuseAt, KeepsRequests, keeps_effect, keeps_barrier, keeps_service, keeps_reply, keeps_answer, keeps_data, keeps_quiet}
use Rattle.request_check.specs.Laws.{IsRunFromUnknown}
use Rattle.request_check.proofs.Stepping.{HasNext, KeepsSteps, steps_on, kept_by_step}

pub after_append : (first rest : List Line) (d e : Disk) → after first d ≡ Some e → after (first ++ rest) d ≡ after rest e
after_append [] rest d e same = ap (λ (x : Option Disk). option_and_then (after rest) x) same
after_append (line ∷ first) rest d e same = by_step (step d line) (λ y t. after_append first rest y e t) same
  where
    by_step : (x : Option Disk) → ((y : Disk) → after first y ≡ Some e → after (first ++ rest) y ≡ after rest e) → option_and_then (after first) x ≡ Some e → option_and_then (after (first ++ rest)) x ≡ after rest e
    by_step None further same = absurd (none-some e same)
    by_step (Some y) further same = further y same

-- a beginning of a run is one
pub run_before : (first rest : List Line) (d e : Disk) → after (first ++ rest) d ≡ Some e → (x : Disk) × (after first d ≡ Some x)
run_before [] rest d e run = (d, refl)
run_before (line ∷ first) rest d e run = by_step (step d line) refl (λ y t. run_before first rest y e t) run
  where
    by_step : (x : Option Disk) → step d line ≡ x → ((y : Disk) → after (first ++ rest) y ≡ Some e → (z : Disk) × (after first y ≡ Some z)) → option_and_then (after (first ++ rest)) x ≡ Some e → (z : Disk) × (option_and_then (after first) (step d line) ≡ Some z)
    by_step None t further run = absurd (none-some e run)
    by_step (Some y) t further run = let its = further y run in (its.0, ap (option_and_then (after first)) t ∙ its.1)

-- the first step of a run
first_step : (x : Option Disk) (rest : List Line) (e : Disk) → option_and_then (after rest) x ≡ Some e → (y : Disk) × (x ≡ Some y)
first_step None rest e h = absurd (none-some e h)
first_step (Some y) rest e h = (y, refl)

-- a rule of the disk's steps, where the disk is known
pub at_disk : (keeps : Disk → Line → Bool) (o : Option Disk) (d : Disk) (line : Line) → o ≡ Some d → IfSome o (λ (x : Disk). keeps x line ≡ true) → keeps d line ≡ true
at_disk keeps o d line is h = subst (λ (x : Option Disk). IfSome x (λ (y : Disk). keeps y line ≡ true)) is h

pub on_disk : (keeps : Disk → Line → Bool) (o : Option Disk) (d : Disk) (line : Line) → o ≡ Some d → keeps d line ≡ true → IfSome o (λ (x : Disk). keeps x line ≡ true)
on_disk keeps o d line is h = subst (λ (x : Option Disk). IfSome x (λ (y : Disk). keeps y line ≡ true)) (sym is) h

pub keeps_steps : (before : List Line) (line : Line) (d : Disk) → disk_after before ≡ Some d → KeepsRequests before line → KeepsSteps d line
keeps_steps before line d is k = record {
  effect = at_disk keeps_effect (disk_after before) d line is k.effect;
  barrier = at_disk keeps_barrier (disk_after before) d line is k.barrier;
  service = at_disk keeps_service (disk_after before) d line is k.service;
  reply = at_disk keeps_reply (disk_after before) d line is k.reply;
  answer = at_disk keeps_answer (disk_after before) d line is k.answer;
  told = at_disk keeps_data (disk_after before) d line is k.told;
  quiet = at_disk keeps_quiet (disk_after before) d line is k.quiet;
}

pub has_next : (before : List Line) (line : Line) (d : Disk) → disk_after before ≡ Some d → IsSubmitAt before line → HasNext d line
has_next before (lines.Submit id submission) d is h = h.0 ∙ ap (λ (o : Option Disk). length (requests_in o) + 1) is
has_next before line d is h = tt

runs_on : (before rest : List Line) (d : Disk) → disk_after before ≡ Some d → Obeys KeepsRequests (before ++ rest) → (e : Disk) × (after rest d ≡ Some e)
runs_on before [] d is obeys = (d, refl)
runs_on before (line ∷ rest) d is obeys =
    let k : KeepsRequests before line = obeys before rest line refl in
    let s : (e : Disk) × (step d line ≡ Some e) = steps_on d line (keeps_steps before line d is k) (has_next before line d is k.submit) in
    let further : disk_after (before ++ line ∷ []) ≡ Some s.0 = after_append before (line ∷ []) (disk_of []) d is ∙ ap (option_and_then (after [])) s.1 in
    let same : (before ++ line ∷ []) ++ rest ≡ before ++ line ∷ rest = append_assoc before (line ∷ []) rest in
    let ends : (e : Disk) × (after rest s.0 ≡ Some e) = runs_on (before ++ line ∷ []) rest s.0 further (subst (λ (xs : List Line). Obeys KeepsRequests xs) (sym same) obeys) in
    (ends.0, ap (option_and_then (after rest)) s.1 ∙ ends.1)

pub kept_is_run : (report : List Line) → Obeys KeepsRequests report → IsRunFromUnknown report
kept_is_run report obeys = runs_on [] report (disk_of []) refl obeys

pub run_is_kept : (report : List Line) → IsRunFromUnknown report → Obeys IsStateAt report → Obeys IsSubmitAt report → Obeys IsRefuseAt report → Obeys KeepsRequests report
run_is_kept report run state submit refuse before rest line is =
    let whole : after (before ++ line ∷ rest) (disk_of []) ≡ Some run.0 = subst (λ (xs : List Line). after xs (disk_of []) ≡ Some run.0) is run.1 in
    let first : (x : Disk) × (disk_after before ≡ Some x) = run_before before (line ∷ rest) (disk_of []) run.0 whole in
    let later : option_and_then (after rest) (step first.0 line) ≡ Some run.0 = sym (after_append before (line ∷ rest) (disk_of []) first.0 first.1) ∙ whole in
    let s : (y : Disk) × (step first.0 line ≡ Some y) = first_step (step first.0 line) rest run.0 later in
    let k : KeepsSteps first.0 line = kept_by_step first.0 s.0 line s.1 in
    record {
      state = state before rest line is;
      submit = submit before rest line is;
      refuse = refuse before rest line is;
      effect = on_disk keeps_effect (disk_after before) first.0 line first.1 k.effect;
      barrier = on_disk keeps_barrier (disk_after before) first.0 line first.1 k.barrier;
      service = on_disk keeps_service (disk_after before) first.0 line first.1 k.service;
      reply = on_disk keeps_reply (disk_after before) first.0 line first.1 k.reply;
      answer = on_disk keeps_answer (disk_after before) first.0 line first.1 k.answer;
      told = on_disk keeps_data (disk_after before) first.0 line first.1 k.told;
      quiet = on_disk keeps_quiet (disk_after before) first.0 line first.1 k.quiet;
    }
