-- Where the state follows the disk, its limits are those of the disk.
use Rattle.std.proofs.Common.{◌≡◌, ℕ, ◌+◌, ◌*◌, ◌^◌, ◌==◌, ◌&&◌, nat_lt, Bool, true, false, List, length, sum_by, refl, ap, sym, ◌∙◌, arith}
use Rattle.std.specs.Prelude.{Option, Some, None, is_none, nat_le, fold}
use Rattle.std.specs.Bool.{Decides}
use Rattle.std.proofs.lemmas.Bool.Decides.{nat_tests}
use Rattle.blk_base.specs.Options.{Options}
use Rattle.blk_base.specs.declared.config.Submission.{Submission}
use Rattle.blk_base.specs.declared.refusal.Refusal.{Refusal}
use Rattle.schedule_text.specs.declared.line.Line.{Line}
use Rattle.schedule_text.specs.declared.line.Line.TheVariants as lines
use Rattle.plain_disk.specs.declared.sight.Sight.{Sight}
use Rattle.plain_disk.specs.Disk.{Disk}
use Rattle.plain_disk.specs.Refusal as refusals
use Rattle.plain_disk.specs.Refusal.{nothing_seen, requests_in, refusal_at, refusal_of, frames_of, is_unsupported, is_refused_write, is_past_end, is_long, is_full, lacks_frames}
use Rattle.request_check.specs.Rules.{disk_after, IsSubmitAt}
use Rattle.request_check.specs.State.{Open, State, state_after}
use Rattle.request_check.specs.Verdicts.{is_ring_full, are_too_many, is_within_limits, allows_submit}
use Rattle.request_check.proofs.Opens.{Notes}
use Rattle.request_check.proofs.Waits.{count_opens}
use Rattle.request_check.proofs.Front.{sight_seen}
use Rattle.request_check.proofs.Follows.{Follows}
use Rattle.request_check.proofs.Runners.{accepted, Matches}

module _ (g : Notes) (s : State) (d : Disk) (f : Follows g s d) where
  pub spent_same : (s.submitted == 4294967295) ≡ (length d.requests == 4294967295)
  spent_same = ap (λ (n : ℕ). n == 4294967295) f.submitted

  pub ring_same : (o : Options) → is_ring_full s o ≡ is_full o d.requests
  ring_same o = ap (λ (es : List (ℕ × Open)). nat_le (32 * 2 ^ o.order) (length es)) f.requests ∙ ap (λ (n : ℕ). nat_le (32 * 2 ^ o.order) n) (count_opens g d.requests 1)

  pub frames_same : (frames : ℕ) → are_too_many s frames ≡ nat_lt 1000 (sum_by refusals.frames_held d.requests + frames)
  frames_same frames = ap (λ (n : ℕ). nat_lt 1000 (n + frames)) f.frames

  within_same : (submission : Submission) (c : Option Options) → is_within_limits s submission c ≡ is_none (refusal_at s.sight c d.requests submission)
  within_same submission None = refl
  within_same submission (Some o) =
      rw (spent_same, ring_same o, frames_same (frames_of submission))
      (sym (accepted (length d.requests == 4294967295) s.sight.closing s.sight.connected s.sight.broken (is_unsupported o submission) (is_refused_write o submission) (is_past_end o submission) (is_long o submission) (is_full o d.requests) (lacks_frames d.requests submission)))

  pub submit_same : (id : ℕ) (submission : Submission) → allows_submit s (lines.Submit id submission) ≡ ((id == length d.requests + 1) && is_none (refusal_at s.sight s.sight.config d.requests submission))
  submit_same id submission = ap (λ (n : ℕ). (id == n + 1) && is_within_limits s submission s.sight.config) f.submitted ∙ ap (λ (b : Bool). (id == length d.requests + 1) && b) (within_same submission s.sight.config)

-- the refusal of a submission after some lines, by what is known of them
pub refusal_is : (before : List Line) (m : Matches before) (submission : Submission) → refusal_of before submission ≡ refusal_at (state_after before).sight (state_after before).sight.config m.disk.requests submission
refusal_is before m submission =
    let t = fold refusals.seen nothing_seen before in
    ap (λ (o : Option Disk). refusal_at t t.config (requests_in o) submission) m.is ∙ ap (λ (x : Sight). refusal_at x x.config m.disk.requests submission) (sym (sight_seen before))

both_true : (a b : Bool) → (a && b) ≡ true → (a ≡ true) × (b ≡ true)
both_true true true h = (refl, refl)
both_true true false h = absurd (cc)
both_true false b h = absurd (cc)

none_is : (o : Option Refusal) → is_none o ≡ true → o ≡ None
none_is None h = refl
none_is (Some r) h = absurd (cc)

pub submit_decided : (before : List Line) (line : Line) → Matches before → Decides (allows_submit (state_after before) line) (IsSubmitAt before line)
submit_decided before (lines.Submit id submission) m =
    let same = submit_same m.notes (state_after before) m.disk m.follows id submission in
    let is = refusal_is before m submission in
    let number : length (requests_in (disk_after before)) ≡ length m.disk.requests = ap (λ (o : Option Disk). length (requests_in o)) m.is in (
      (λ yes. (let both = both_true (id == length m.disk.requests + 1) (is_none (refusal_at (state_after before).sight (state_after before).sight.config m.disk.requests submission)) (sym same ∙ yes) in
          (at_number id (length m.disk.requests) both.0 ∙ ap (λ (n : ℕ). n + 1) (sym number), is ∙ none_is _ both.1))),
      (λ kept. same ∙ is_both id (length m.disk.requests) _ (kept.0 ∙ ap (λ (n : ℕ). n + 1) number) (sym is ∙ kept.1)),
    )
  where
    at_number : (a b : ℕ) → (a == b + 1) ≡ true → a ≡ b + 1
    at_number a b h = grind (arith, nat_tests)

    is_both : (a b : ℕ) (o : Option Refusal) → a ≡ b + 1 → o ≡ None → ((a == b + 1) && is_none o) ≡ true
    is_both a b o at none =
        let test : (a == b + 1) ≡ true = grind (arith, nat_tests) in
        rw (test, none) refl
submit_decided before line m = ((λ yes. tt), (λ kept. refl))
