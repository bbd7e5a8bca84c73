-- A run of the plain disk answers each request by whether the disk failed at it.
use Rattle.std.proofs.Common.{◌≡◌, ℕ, ◌+◌, ◌-◌, ◌&&◌, Bool, true, true≢false, List, [], ◌∷◌, ◌++◌, refl, sym, subst, arith, append_assoc}
use Rattle.std.specs.Prelude.{Option, Some, None, is_none}
use Rattle.std.proofs.lemmas.Bool.{and_parts}
use Rattle.std.proofs.lemmas.List.{append-nil}
use Rattle.std.proofs.lemmas.Option.{none-some, same_Some, cond_some, option_and_then_some}
use Rattle.blk_base.specs.declared.operation.Status.{Status}
use Rattle.blk_base.specs.declared.operation.Status.TheVariants as status
use Rattle.schedule_text.specs.declared.line.Line.{Line}
use Rattle.schedule_text.specs.declared.line.Line.TheVariants as lines
use Rattle.plain_disk.specs.declared.request.DiskRequest.{DiskRequest}
use Rattle.plain_disk.specs.Request.{is_open}
use Rattle.plain_disk.specs.Disk.{Disk, disk_of, request_of}
use Rattle.plain_disk.specs.Step.{step, after, replied_of, answered_of, is_status}
use Rattle.pipeline_laws.proofs.Answered.{number_at}
use Rattle.pipeline_laws.proofs.AnsweredRuns.{StandsAfter, stands_after}
use Rattle.answer_laws.specs.Okay.{has_failed, status_of, IsByFaults, AreAnsweredByFaults}
use Rattle.answer_laws.proofs.Kept.{IsReplied, IsOpenKept}
use Rattle.answer_laws.proofs.Changed.{none_below, reply_by}
use Rattle.answer_laws.proofs.Stepping.{Keeps, failed_on, failed_more, same_kept, step_keeps}

-- any lines
run_keeps : (ls before : List Line) (d d' : Disk) → Keeps (has_failed before) d → after ls d ≡ Some d' → Keeps (has_failed (before ++ ls)) d'
run_keeps [] before d d' h e = subst (λ (xs : List Line). Keeps (has_failed xs) d') (sym (append-nil before)) (subst (Keeps (has_failed before)) (same_Some d d' e) h)
run_keeps (line ∷ ls) before d d' h e = option_and_then_some (after ls) (step d line) d' e (λ between first rest.
    subst (λ (xs : List Line). Keeps (has_failed xs) d') (append_assoc before (line ∷ []) ls)
    (run_keeps ls (before ++ line ∷ []) between d' (same_kept (λ id. failed_on (has_failed before id) id line) (has_failed (before ++ line ∷ [])) between (failed_more before line) (step_keeps (has_failed before) d between line first h)) rest))

-- from the start
starts : (first : List (List ℕ)) → Keeps (has_failed []) (disk_of first)
starts first = record {
  each = λ k r e. absurd (none-some r e);
  free = λ id past. record { unfailed = refl; counted = none_below id };
}

kept_at : (before : List Line) (first : List (List ℕ)) (d : Disk) (id : ℕ) (r : DiskRequest) → after before (disk_of first) ≡ Some d → request_of d.requests id ≡ Some r → is_open r.stage ≡ true → IsOpenKept (has_failed before id) d.done id r
kept_at before first d id r run here still =
    let at = number_at d.requests id r here in
    let some = at.0 in
    let back : id - 1 + 1 ≡ id = omega arith in
    subst (λ (i : ℕ). IsOpenKept (has_failed before i) d.done i r) back ((run_keeps before [] (disk_of first) d (starts first) run).each (id - 1) r at.1 still)

-- a reply
reply_at : (before : List Line) (first : List (List ℕ)) (d next : Disk) (id : ℕ) (status : Status) (o : Option DiskRequest) → after before (disk_of first) ≡ Some d → request_of d.requests id ≡ o → replied_of d id status o ≡ Some next → status ≡ status_of (has_failed before id)
reply_at before first d next id status None run here e = absurd (none-some next e)
reply_at before first d next id status (Some r) run here e =
    let test = (cond_some _ _ _ e).0 in
    let both = and_parts (is_open r.stage && is_none r.reply) _ test in
    reply_by (has_failed before id) d.done id d r status refl (kept_at before first d id r run here (and_parts (is_open r.stage) _ both.0).0) both.1

-- an answer
told_by : (failed : Bool) (o : Option Status) (status : Status) → is_status o status ≡ true → IsReplied failed o → status ≡ status_of failed
told_by failed None status t h = absurd (true≢false (sym t))
told_by failed (Some status.Okay) status.Okay t h = h
told_by failed (Some status.Error) status.Error t h = h
told_by failed (Some status.Unsupported) status.Unsupported t h = h
told_by failed (Some a) b t h = absurd (true≢false (sym t))

answer_at : (before : List Line) (first : List (List ℕ)) (d next : Disk) (id : ℕ) (status : Status) (o : Option DiskRequest) → after before (disk_of first) ≡ Some d → request_of d.requests id ≡ o → answered_of d id status o ≡ Some next → status ≡ status_of (has_failed before id)
answer_at before first d next id status None run here e = absurd (none-some next e)
answer_at before first d next id status (Some r) run here e =
    let both = and_parts (is_open r.stage) _ (cond_some _ _ _ e).0 in
    told_by (has_failed before id) r.reply status both.1 (kept_at before first d id r run here both.0).replied

line_by : (before : List Line) (line : Line) (first : List (List ℕ)) → StandsAfter before line first → IsByFaults before line
line_by before (lines.Reply id status) first s = reply_at before first s.disk s.next id status (request_of s.disk.requests id) s.run refl s.taken
line_by before (lines.Answer id status) first s = answer_at before first s.disk s.next id status (request_of s.disk.requests id) s.run refl s.taken
line_by before line first s = tt

pub run_answers_by_faults : (report : List Line) (first : List (List ℕ)) (d : Disk) → after report (disk_of first) ≡ Some d → AreAnsweredByFaults report
run_answers_by_faults report first d run before rest line split = line_by before line first (stands_after report before rest line first d run split)
