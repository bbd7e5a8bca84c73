-- What the state keeps of the front is what the lines before showed of it.
use Rattle.std.proofs.Common.{◌≡◌, ℕ, ◌||◌, Bool, true, false, List, [], ◌∷◌, refl, sym, ap, ◌∙◌}
use Rattle.std.specs.Prelude.{Option, Some, None, fold}
use Rattle.std.specs.Bool.{Decides}
use Rattle.std.specs.List.{list_any}
use Rattle.blk_base.specs.declared.operation.Status.{Status}
use Rattle.schedule_text.specs.declared.line.Line.{Line}
use Rattle.schedule_text.specs.declared.line.Line.TheVariants as lines
use Rattle.plain_disk.specs.declared.request.DiskRequest.{DiskRequest}
use Rattle.plain_disk.specs.declared.request.RequestStage.{RequestStage}
use Rattle.plain_disk.specs.declared.sight.Sight.{Sight}
use Rattle.plain_disk.specs.Request.{is_finished}
use Rattle.plain_disk.specs.Step.{told_stage, next_stage}
use Rattle.plain_disk.specs.Refusal as refusals
use Rattle.plain_disk.specs.Refusal.{nothing_seen, requests_in}
use Rattle.request_check.specs.Rules.{disk_after, is_closed_line, keeps_state, IsStateAt}
use Rattle.request_check.specs.State.{Open, State, start, open_of, filled, shown, flushed, trimmed, failed, replied, told_to, answered, told, stepped, seen, state_after}
use Rattle.request_check.specs.Verdicts.{allows_state}

-- two states show the same of the front
abbrev IsSameFront : State → State → Type 0
IsSameFront s t = (s.sight ≡ t.sight) × (s.closed ≡ t.closed)

by_end : (s : State) (id : ℕ) (o : Open) (stage : RequestStage) (b : Bool) → is_finished stage ≡ b → IsSameFront (told_to s id o stage) s
by_end s id o stage true is = rw is (refl, refl)
by_end s id o stage false is = rw is (refl, refl)

fill_front : (s : State) (id index : ℕ) (o : Option Open) → IsSameFront (filled s id index o) s
fill_front s id index None = (refl, refl)
fill_front s id index (Some o) = (refl, refl)

show_front : (s : State) (id index : ℕ) (words : List ℕ) (o : Option Open) → IsSameFront (shown s id index words o) s
show_front s id index words None = (refl, refl)
show_front s id index words (Some o) = (refl, refl)

flush_front : (s : State) (id : ℕ) (o : Option Open) → IsSameFront (flushed s id o) s
flush_front s id None = (refl, refl)
flush_front s id (Some o) = (refl, refl)

trim_front : (s : State) (id : ℕ) (o : Option Open) → IsSameFront (trimmed s id o) s
trim_front s id None = (refl, refl)
trim_front s id (Some o) = (refl, refl)

fail_front : (s : State) (id index : ℕ) (o : Option Open) → IsSameFront (failed s id index o) s
fail_front s id index None = (refl, refl)
fail_front s id index (Some o) = (refl, refl)

reply_front : (s : State) (id : ℕ) (status : Status) (o : Option Open) → IsSameFront (replied s id status o) s
reply_front s id status None = (refl, refl)
reply_front s id status (Some o) = (refl, refl)

answer_front : (s : State) (id : ℕ) (status : Status) (o : Option Open) → IsSameFront (answered s id status o) s
answer_front s id status None = (refl, refl)
answer_front s id status (Some o) = by_end s id o (told_stage o.submission status) (is_finished (told_stage o.submission status)) refl

tell_front : (s : State) (id index : ℕ) (o : Option Open) → IsSameFront (told s id index o) s
tell_front s id index None = (refl, refl)
tell_front s id index (Some o) = by_end s id o (next_stage o.submission index) (is_finished (next_stage o.submission index)) refl

step_front : (s : State) (line : Line) → IsSameFront (stepped s line) s
step_front s (lines.Effect id index) = fill_front s id index (open_of s.requests id)
step_front s (lines.EffectRead id index words) = show_front s id index words (open_of s.requests id)
step_front s (lines.Flushed id) = flush_front s id (open_of s.requests id)
step_front s (lines.Trimmed id) = trim_front s id (open_of s.requests id)
step_front s (lines.Fault id index) = fail_front s id index (open_of s.requests id)
step_front s (lines.Reply id status) = reply_front s id status (open_of s.requests id)
step_front s (lines.Answer id status) = answer_front s id status (open_of s.requests id)
step_front s (lines.Data id index words) = tell_front s id index (open_of s.requests id)
step_front s line = (refl, refl)

sight_from : (report : List Line) (s : State) → (fold seen s report).sight ≡ fold refusals.seen s.sight report
sight_from [] s = refl
sight_from (line ∷ rest) s = sight_from rest (seen s line) ∙ ap (λ (x : Sight). fold refusals.seen (refusals.seen x line) rest) (step_front s line).0

or_none : (b : Bool) → b ≡ (b || false)
or_none true = refl
or_none false = refl

or_assoc : (a b c : Bool) → ((a || b) || c) ≡ (a || (b || c))
or_assoc true b c = refl
or_assoc false b c = refl

closed_from : (report : List Line) (s : State) → (fold seen s report).closed ≡ (s.closed || list_any is_closed_line report)
closed_from [] s = or_none s.closed
closed_from (line ∷ rest) s =
    closed_from rest (seen s line)
    ∙ ap (λ (x : Bool). (x || is_closed_line line) || list_any is_closed_line rest) (step_front s line).1
    ∙ or_assoc s.closed (is_closed_line line) (list_any is_closed_line rest)

pub sight_seen : (before : List Line) → (state_after before).sight ≡ fold refusals.seen nothing_seen before
sight_seen before = sight_from before start

pub closed_seen : (before : List Line) → (state_after before).closed ≡ list_any is_closed_line before
closed_seen before = closed_from before start

pub same_verdict : (s : State) (requests : List DiskRequest) (line : Line) → (line ≡ lines.Closed → ⊥) → allows_state s line ≡ keeps_state s.sight s.closed requests line
same_verdict s requests lines.Closed other = absurd (other refl)
same_verdict s requests lines.Ready other = refl
same_verdict s requests lines.Closing other = refl
same_verdict s requests (lines.Broken word) other = refl
same_verdict s requests lines.Unsettled other = refl
same_verdict s requests (lines.Halt halt) other = refl
same_verdict s requests line other = refl

pub state_decided : (before : List Line) (line : Line) → (line ≡ lines.Closed → ⊥) → Decides (allows_state (state_after before) line) (IsStateAt before line)
state_decided before line other =
    let s = state_after before in
    let requests = requests_in (disk_after before) in
    let same : allows_state s line ≡ keeps_state (fold refusals.seen nothing_seen before) (list_any is_closed_line before) requests line =
    same_verdict s requests line other
    ∙ ap (λ (x : Sight). keeps_state x s.closed requests line) (sight_seen before)
    ∙ ap (λ (x : Bool). keeps_state (fold refusals.seen nothing_seen before) x requests line) (closed_seen before) in
    ((λ yes. sym same ∙ yes), (λ kept. same ∙ kept))
