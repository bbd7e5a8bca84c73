-- After lines that keep the rules there is a plain disk, and the state follows it.
use Rattle.std.proofs.Common.{append_assoc, ◌≡◌, ◌+◌, ◌≤◌, ◌==◌, ◌&&◌, ◌||◌, not, nat_lt, Bool, true, false, if◌then◌else◌, List, [], ◌∷◌, ◌++◌, length, sum_by, refl, sym, ap, subst, ◌∙◌, arith}
use Rattle.std.specs.Prelude.{Option, Some, None, option_and_then, fold, is_none}
use Rattle.std.proofs.lemmas.Bool.Decides.{nat_tests}
use Rattle.blk_base.specs.Options.{Options}
use Rattle.blk_base.specs.declared.config.Submission.{Submission}
use Rattle.blk_base.specs.declared.refusal.Refusal.TheVariants as refusal
use Rattle.schedule_text.specs.declared.line.Line.{Line}
use Rattle.schedule_text.specs.declared.line.Line.TheVariants as lines
use Rattle.report_rules.specs.Obeys.{Obeys}
use Rattle.plain_disk.specs.declared.request.DiskRequest.{DiskRequest}
use Rattle.plain_disk.specs.declared.sight.Sight.{Sight}
use Rattle.plain_disk.specs.Disk.{Disk, disk_of}
use Rattle.plain_disk.specs.Step.{step, after}
use Rattle.plain_disk.specs.Refusal as refusals
use Rattle.plain_disk.specs.Refusal.{nothing_seen, requests_in, refusal_at, frames_of, is_unsupported, is_refused_write, is_past_end, is_long, is_full, lacks_frames}
use Rattle.request_check.specs.Rules.{disk_after, IsSubmitAt, KeepsRequests}
use Rattle.request_check.specs.State.{State, start, stepped, seen, state_after}
use Rattle.request_check.proofs.Opens.{Notes}
use Rattle.request_check.proofs.Stepping.{steps_on}
use Rattle.request_check.proofs.Runs.{after_append, keeps_steps, has_next}
use Rattle.request_check.proofs.Follows.{Follows, follows_start, front_kept}
use Rattle.request_check.proofs.Kept.{FitsLimits, line_kept}

-- a submission is accepted where no reason to refuse it is there, taken in order
pub accepted : (spent closing connected broken kind write past long full lacks : Bool) →
    is_none (if spent then Some refusal.Spent
    else (if not closing && (not connected || broken) then Some refusal.NotReady
    else (if closing then Some refusal.Closing
    else (if kind then Some refusal.Unsupported
    else (if write then Some refusal.ReadOnly
    else (if past then Some refusal.Range
    else (if long then Some refusal.Long
    else (if full then Some refusal.Full
    else (if lacks then Some refusal.Buffers
    else None)))))))))
    ≡ ((not spent && not closing && connected && not broken) && not kind && not write && not past && not long && not full && not lacks)
accepted true closing connected broken kind write past long full lacks = refl
accepted false true connected broken kind write past long full lacks = refl
accepted false false false broken kind write past long full lacks = refl
accepted false false true true kind write past long full lacks = refl
accepted false false true false true write past long full lacks = refl
accepted false false true false false true past long full lacks = refl
accepted false false true false false false true long full lacks = refl
accepted false false true false false false false true full lacks = refl
accepted false false true false false false false false true lacks = refl
accepted false false true false false false false false false true = refl
accepted false false true false false false false false false false = refl

first_last : (spent closing connected broken kind write past long full lacks : Bool) → ((not spent && not closing && connected && not broken) && not kind && not write && not past && not long && not full && not lacks) ≡ true → (spent ≡ false) × (lacks ≡ false)
first_last true closing connected broken kind write past long full lacks h = absurd (cc)
first_last false true connected broken kind write past long full lacks h = absurd (cc)
first_last false false false broken kind write past long full lacks h = absurd (cc)
first_last false false true true kind write past long full lacks h = absurd (cc)
first_last false false true false true write past long full lacks h = absurd (cc)
first_last false false true false false true past long full lacks h = absurd (cc)
first_last false false true false false false true long full lacks h = absurd (cc)
first_last false false true false false false false true full lacks h = absurd (cc)
first_last false false true false false false false false true lacks h = absurd (cc)
first_last false false true false false false false false false lacks h = (refl, not_so lacks h)
  where
    not_so : (b : Bool) → not b ≡ true → b ≡ false
    not_so true e = absurd (cc)
    not_so false e = refl

-- what passes the limits has a number left, and its frames
fits_by : (s : Sight) (c : Option Options) (requests : List DiskRequest) (submission : Submission) → refusal_at s c requests submission ≡ None → ((length requests == 4294967295) ≡ false) × (lacks_frames requests submission ≡ false)
fits_by s None requests submission none = absurd (cc)
fits_by s (Some o) requests submission none =
    first_last (length requests == 4294967295) s.closing s.connected s.broken (is_unsupported o submission) (is_refused_write o submission) (is_past_end o submission) (is_long o submission) (is_full o requests) (lacks_frames requests submission)
    (sym (accepted (length requests == 4294967295) s.closing s.connected s.broken (is_unsupported o submission) (is_refused_write o submission) (is_past_end o submission) (is_long o submission) (is_full o requests) (lacks_frames requests submission)) ∙ ap is_none none)

fits : (before : List Line) (line : Line) (d : Disk) → length d.requests ≤ 4294967295 → disk_after before ≡ Some d → IsSubmitAt before line → FitsLimits d line
fits before (lines.Submit id submission) d few is h =
    let s = fold refusals.seen nothing_seen before in
    let none : refusal_at s s.config d.requests submission ≡ None = subst (λ (o : Option Disk). refusal_at s s.config (requests_in o) submission ≡ None) is h.1 in
    let both = fits_by s s.config d.requests submission none in
    let left : (length d.requests == 4294967295) ≡ false = both.0 in
    let room : nat_lt 1000 (sum_by refusals.frames_held d.requests + frames_of submission) ≡ false = both.1 in
    (grind (arith, nat_tests), grind (arith, nat_tests))
fits before line d few is h = tt

-- the state after some lines follows the disk after them
pub record Matches (before : List Line) : Type 0 where
  pub disk : Disk
  pub notes : Notes
  pub is : disk_after before ≡ Some disk
  pub follows : Follows notes (state_after before) disk

follow_on : (before rest : List Line) (g : Notes) (s : State) (d : Disk) → disk_after before ≡ Some d → Follows g s d → Obeys KeepsRequests (before ++ rest) → (e : Disk) × (h : Notes) × (after rest d ≡ Some e) × Follows h (fold seen s rest) e
follow_on before [] g s d is f obeys = (d, g, refl, f)
follow_on before (line ∷ rest) g s d is f obeys =
    let k : KeepsRequests before line = obeys before rest line refl in
    let next : (e : Disk) × (step d line ≡ Some e) = steps_on d line (keeps_steps before line d is k) (has_next before line d is k.submit) in
    let further : disk_after (before ++ line ∷ []) ≡ Some next.0 = after_append before (line ∷ []) (disk_of []) d is ∙ ap (option_and_then (after [])) next.1 in
    let same : (before ++ line ∷ []) ++ rest ≡ before ++ line ∷ rest = append_assoc before (line ∷ []) rest in
    let kept : (h : Notes) × Follows h (stepped s line) next.0 = line_kept g s d next.0 f line next.1 (fits before line d f.few is k.submit) in
    let ends : (e : Disk) × (h : Notes) × (after rest next.0 ≡ Some e) × Follows h (fold seen (seen s line) rest) e =
    follow_on (before ++ line ∷ []) rest kept.0 (seen s line) next.0 further (front_kept kept.0 (stepped s line) next.0 line kept.1) (subst (λ (xs : List Line). Obeys KeepsRequests xs) (sym same) obeys) in
    (ends.0, ends.1, ap (option_and_then (after rest)) next.1 ∙ ends.2, ends.3)

pub matches : (before : List Line) → Obeys KeepsRequests before → Matches before
matches before obeys =
    let all = follow_on [] before (λ id. []) start (disk_of []) refl follows_start obeys in
    record { disk = all.0; notes = all.1; is = all.2; follows = all.3 }
