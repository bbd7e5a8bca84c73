-- What a refusal of a submission says of the state.
use Rattle.std.proofs.Common.{◌≡◌, ℕ, ◌+◌, ◌*◌, ◌/◌, ◌^◌, ◌<◌, ◌≤◌, ◌==◌, ◌&&◌, ◌||◌, not, nat_lt, max, min, Bool, true, false, if◌then◌else◌, List, refl, ap, sym, ◌∙◌, subst, arith}
use Rattle.std.specs.Prelude.{Option, Some, None, nat_le}
use Rattle.std.specs.Bool.{Decides}
use Rattle.std.proofs.lemmas.Bool.Decides.{nat_tests}
use Rattle.std.proofs.lemmas.Option.{same_Some}
use Rattle.blk_base.specs.Options.{Options}
use Rattle.blk_base.specs.declared.config.Submission.{Submission}
use Rattle.blk_base.specs.declared.config.Submission.TheVariants as submissions
use Rattle.blk_base.specs.declared.refusal.Refusal.{Refusal}
use Rattle.blk_base.specs.declared.refusal.Refusal.TheVariants as refusal
use Rattle.schedule_text.specs.declared.line.Line.{Line}
use Rattle.schedule_text.specs.declared.line.Line.TheVariants as lines
use Rattle.plain_disk.specs.declared.request.DiskRequest.{DiskRequest}
use Rattle.plain_disk.specs.Disk.{Disk}
use Rattle.plain_disk.specs.Refusal.{frames_of, is_unsupported, is_refused_write, is_past_end, is_long, refusal_by, refusal_at}
use Rattle.request_check.specs.Rules.{CanBeAsked, IsRefuseAt}
use Rattle.request_check.specs.State.{State, state_after}
use Rattle.request_check.specs.Verdicts.{is_at_work, is_ring_full, are_too_many, least_long, most_read, may_lack_frames, may_refuse, may_refuse_by, is_not_ready, allows_refuse}
use Rattle.request_check.proofs.Opens.{Notes}
use Rattle.request_check.proofs.Follows.{Follows}
use Rattle.request_check.proofs.Runners.{Matches}
use Rattle.request_check.proofs.Limits.{spent_same, ring_same, frames_same, refusal_is}
use Rattle.request_check.proofs.Refused.{pick_of, Says, picked, are_both, IsRefusedSo, so}

-- ---- what a reason says of the submission and the options
is_read_only : (o : Options) (submission : Submission) → is_unsupported o submission ≡ true → o.read_only ≡ true
is_read_only o (submissions.Read sector count) h = absurd (cc)
is_read_only o (submissions.Write sector count tag) h = absurd (cc)
is_read_only o (submissions.Barrier sector count tag) h = h
is_read_only o submissions.Flush h = h
is_read_only o (submissions.Discard sector count) h = h

refuses_writes : (o : Options) (submission : Submission) → is_refused_write o submission ≡ true → o.read_only ≡ true
refuses_writes o (submissions.Read sector count) h = absurd (cc)
refuses_writes o (submissions.Write sector count tag) h = h
refuses_writes o (submissions.Barrier sector count tag) h = absurd (cc)
refuses_writes o submissions.Flush h = absurd (cc)
refuses_writes o (submissions.Discard sector count) h = absurd (cc)

past_sum : (sectors sector count : ℕ) → sector < 2 ^ 64 → count < 2 ^ 32 → nat_lt sectors (sector + count) ≡ true → nat_lt sectors 18446744078004518910 ≡ true
past_sum sectors sector count s c h =
    let past : sectors < sector + count = grind (arith, nat_tests) in
    let bound : sectors < 18446744078004518910 = omega arith in
    grind (arith, nat_tests)

has_end : (o : Options) (submission : Submission) → CanBeAsked submission → is_past_end o submission ≡ true → nat_lt o.sectors 18446744078004518910 ≡ true
has_end o (submissions.Read sector count) asked h = past_sum o.sectors sector count asked.0 asked.2 h
has_end o (submissions.Write sector count tag) asked h = past_sum o.sectors sector count asked.0 asked.2 h
has_end o (submissions.Barrier sector count tag) asked h = past_sum o.sectors sector count asked.0 asked.2 h
has_end o submissions.Flush asked h = past_sum o.sectors 0 0 (omega arith) (omega arith) h
has_end o (submissions.Discard sector count) asked h = past_sum o.sectors sector count asked.0 asked.2 h

within : (sectors sector count : ℕ) → nat_lt sectors (sector + count) ≡ false → count ≤ sectors
within sectors sector count h = let all : sector + count ≤ sectors = grind (arith, nat_tests) in omega arith

least_small : (o : Options) → least_long o ≤ 8 * max 11 o.indirect + 1
least_small o = by_kind o.read_only refl
  where
    by_kind : (b : Bool) → o.read_only ≡ b → least_long o ≤ 8 * max 11 o.indirect + 1
    by_kind true is = rw is (omega arith)
    by_kind false is = rw is (omega arith)

long_sum : (least most sectors sector count : ℕ) → least ≤ 8 * most + 1 → count < 2 ^ 32 → nat_lt sectors (sector + count) ≡ false → nat_lt most ((count + 7) / 8) ≡ true → nat_le least (min sectors 4294967295) ≡ true
long_sum least most sectors sector count small c past long =
    let in_disk : count ≤ sectors = within sectors sector count past in
    let segments : most < (count + 7) / 8 = grind (arith, nat_tests) in
    let many : 8 * most + 1 ≤ count = omega arith in
    let fits : least ≤ min sectors 4294967295 = omega arith in
    grind (arith, nat_tests)

can_be_long : (o : Options) (submission : Submission) → CanBeAsked submission → is_unsupported o submission ≡ false → is_past_end o submission ≡ false → is_long o submission ≡ true → nat_le (least_long o) (min o.sectors 4294967295) ≡ true
can_be_long o (submissions.Read sector count) asked kind past long = long_sum (least_long o) (max 11 o.indirect) o.sectors sector count (least_small o) asked.2 past long
can_be_long o (submissions.Write sector count tag) asked kind past long = long_sum (least_long o) (max 11 o.indirect) o.sectors sector count (least_small o) asked.2 past long
can_be_long o (submissions.Barrier sector count tag) asked kind past long = rw kind (long_sum 89 11 o.sectors sector count (omega arith) asked.2 past long)
can_be_long o submissions.Flush asked kind past long = absurd (cc)
can_be_long o (submissions.Discard sector count) asked kind past long = absurd (cc)

or_last : (b : Bool) → (b || true) ≡ true
or_last true = refl
or_last false = refl

some_sectors : (sectors sector count : ℕ) → 0 < count → nat_lt sectors (sector + count) ≡ false → (sectors == 0) ≡ false
some_sectors sectors sector count one past =
    let in_disk : count ≤ sectors = within sectors sector count past in
    grind (arith, nat_tests)

is_taken : (o : Options) (submission : Submission) → CanBeAsked submission → is_unsupported o submission ≡ false → is_past_end o submission ≡ false → (not o.read_only || not (o.sectors == 0)) ≡ true
is_taken o (submissions.Read sector count) asked kind past = rw (some_sectors o.sectors sector count asked.1 past) (or_last (not o.read_only))
is_taken o (submissions.Write sector count tag) asked kind past = rw (some_sectors o.sectors sector count asked.1 past) (or_last (not o.read_only))
is_taken o (submissions.Barrier sector count tag) asked kind past = rw kind refl
is_taken o submissions.Flush asked kind past = rw kind refl
is_taken o (submissions.Discard sector count) asked kind past = rw kind refl

-- ---- frames
rises : (a b : ℕ) → a ≤ b → (if nat_lt 11 a then a + (a + 511) / 512 else a) ≤ (if nat_lt 11 b then b + (b + 511) / 512 else b)
rises a b h = by_tests (nat_lt 11 a) (nat_lt 11 b) refl refl
  where
    by_tests : (p q : Bool) → nat_lt 11 a ≡ p → nat_lt 11 b ≡ q → (if nat_lt 11 a then a + (a + 511) / 512 else a) ≤ (if nat_lt 11 b then b + (b + 511) / 512 else b)
    by_tests true true is so = rw (is, so) (omega arith)
    by_tests true false is so =
        let many : 11 < a = grind (arith, nat_tests) in
        let few : b ≤ 11 = grind (arith, nat_tests) in
        absurd (omega arith)
    by_tests false true is so = rw (is, so) (omega arith)
    by_tests false false is so = rw (is, so) h

no_less : (a : ℕ) → a ≤ (if nat_lt 11 a then a + (a + 511) / 512 else a)
no_less a = by_test (nat_lt 11 a) refl
  where
    by_test : (p : Bool) → nat_lt 11 a ≡ p → a ≤ (if nat_lt 11 a then a + (a + 511) / 512 else a)
    by_test true is = rw is (omega arith)
    by_test false is = rw is (omega arith)

-- a request that may pass has no more sectors than the longest read
at_most : (o : Options) (most sector count : ℕ) → most ≤ max 11 o.indirect → count < 2 ^ 32 → nat_lt o.sectors (sector + count) ≡ false → nat_lt most ((count + 7) / 8) ≡ false → count ≤ most_read o
at_most o most sector count small c past long =
    let in_disk : count ≤ o.sectors = within o.sectors sector count past in
    let few : (count + 7) / 8 ≤ most = grind (arith, nat_tests) in
    let short : count ≤ 8 * max 11 o.indirect = omega arith in
    omega arith

fewer_frames : (o : Options) (submission : Submission) → CanBeAsked submission → is_past_end o submission ≡ false → is_long o submission ≡ false → frames_of submission ≤ frames_of (submissions.Read 0 (most_read o))
fewer_frames o (submissions.Read sector count) asked past long =
    let few : count ≤ most_read o = at_most o (max 11 o.indirect) sector count (omega arith) asked.2 past long in
    rises ((count + 7) / 8) ((most_read o + 7) / 8) (omega arith)
fewer_frames o (submissions.Write sector count tag) asked past long =
    let few : count ≤ most_read o = at_most o (max 11 o.indirect) sector count (omega arith) asked.2 past long in
    rises ((count + 7) / 8) ((most_read o + 7) / 8) (omega arith)
fewer_frames o (submissions.Barrier sector count tag) asked past long =
    let few : count ≤ most_read o = at_most o 11 sector count (omega arith) asked.2 past long in
    let here : (most_read o + 7) / 8 ≤ (if nat_lt 11 ((most_read o + 7) / 8) then (most_read o + 7) / 8 + ((most_read o + 7) / 8 + 511) / 512 else (most_read o + 7) / 8) = no_less ((most_read o + 7) / 8) in
    let segments : (count + 7) / 8 ≤ (most_read o + 7) / 8 = omega arith in
    omega arith
fewer_frames o submissions.Flush asked past long = omega arith
fewer_frames o (submissions.Discard sector count) asked past long = omega arith

more_lack : (s : State) (a b : ℕ) → a ≤ b → are_too_many s a ≡ true → are_too_many s b ≡ true
more_lack s a b h lacks =
    let many : 1000 < s.frames + a = grind (arith, nat_tests) in
    let more : 1000 < s.frames + b = omega arith in
    grind (arith, nat_tests)

-- where no read may have a sector, none has
no_sectors : {X : Type 0} (o : Options) (most sector count : ℕ) → most ≤ max 11 o.indirect → (most_read o == 0) ≡ true → 0 < count → count < 2 ^ 32 → nat_lt o.sectors (sector + count) ≡ false → nat_lt most ((count + 7) / 8) ≡ false → X
no_sectors o most sector count small none one c past long =
    let few : count ≤ most_read o = at_most o most sector count small c past long in
    let zero_most : most_read o ≡ 0 = grind (arith, nat_tests) in
    absurd (omega arith)

lack_by : (s : State) (o : Options) (submission : Submission) (b : Bool) → (most_read o == 0) ≡ b → CanBeAsked submission → is_unsupported o submission ≡ false → is_past_end o submission ≡ false → is_long o submission ≡ false → are_too_many s (frames_of submission) ≡ true
    → (if b then not o.read_only && are_too_many s 0 else are_too_many s (frames_of (submissions.Read 0 (most_read o)))) ≡ true
lack_by s o submission false is asked kind past long lacks = more_lack s (frames_of submission) (frames_of (submissions.Read 0 (most_read o))) (fewer_frames o submission asked past long) lacks
lack_by s o (submissions.Read sector count) true is asked kind past long lacks = no_sectors o (max 11 o.indirect) sector count (omega arith) is asked.1 asked.2 past long
lack_by s o (submissions.Write sector count tag) true is asked kind past long lacks = no_sectors o (max 11 o.indirect) sector count (omega arith) is asked.1 asked.2 past long
lack_by s o (submissions.Barrier sector count tag) true is asked kind past long lacks = no_sectors o 11 sector count (omega arith) is asked.1 asked.2 past long
lack_by s o submissions.Flush true is asked kind past long lacks = rw (kind, lacks) refl
lack_by s o (submissions.Discard sector count) true is asked kind past long lacks = rw (kind, lacks) refl

-- ---- the state allows the refusal
back_by : (s : State) (o : Options) (submission : Submission) (w : Refusal) → CanBeAsked submission
    → Says w (s.submitted == 4294967295) s.sight.closing s.sight.connected s.sight.broken (is_unsupported o submission) (is_refused_write o submission) (is_past_end o submission) (is_long o submission) (is_ring_full s o) (are_too_many s (frames_of submission))
    → may_refuse s o w ≡ true
back_by s o submission refusal.Spent asked h = h
back_by s o submission refusal.NotReady asked h = rw (h.0, h.1, h.2) refl
back_by s o submission refusal.Closing asked h = rw (h.0, h.1) refl
back_by s o submission refusal.Unsupported asked h = are_both (is_at_work s) o.read_only h.0 (is_read_only o submission h.1)
back_by s o submission refusal.ReadOnly asked h = are_both (is_at_work s) o.read_only h.0 (refuses_writes o submission h.1)
back_by s o submission refusal.Range asked h = are_both (is_at_work s) (nat_lt o.sectors 18446744078004518910) h.0 (has_end o submission asked h.1)
back_by s o submission refusal.Long asked h = are_both (is_at_work s) (nat_le (least_long o) (min o.sectors 4294967295)) h.0 (can_be_long o submission asked h.1 h.2 h.3)
back_by s o submission refusal.Full asked h = are_both (is_at_work s && is_ring_full s o) (not o.read_only || not (o.sectors == 0)) (are_both (is_at_work s) (is_ring_full s o) h.0 h.3) (is_taken o submission asked h.1 h.2)
back_by s o submission refusal.Buffers asked h = are_both (is_at_work s && not (is_ring_full s o)) (may_lack_frames s o) (are_both (is_at_work s) (not (is_ring_full s o)) h.0 (ap not h.4)) (lack_by s o submission (most_read o == 0) refl asked h.1 h.2 h.3 h.5)

back : (s : State) (o : Options) (w : Refusal) → IsRefusedSo s o w → may_refuse s o w ≡ true
back s o w is = back_by s o is.0 w is.1 (picked w (s.submitted == 4294967295) s.sight.closing s.sight.connected s.sight.broken (is_unsupported o is.0) (is_refused_write o is.0) (is_past_end o is.0) (is_long o is.0) (is_ring_full s o) (are_too_many s (frames_of is.0)) is.2)

-- ---- the rule
-- there is a submission that is refused so, by what is known of the lines before
abbrev IsRefusedAt : State → Option Options → List DiskRequest → Refusal → Type 0
IsRefusedAt s c rs w = (submission : Submission) × CanBeAsked submission × (refusal_at s.sight c rs submission ≡ Some w)

module _ (g : Notes) (s : State) (d : Disk) (f : Follows g s d) where
  pick_same : (o : Options) (submission : Submission) → pick_of s o submission ≡ refusal_by s.sight o d.requests submission
  pick_same o submission = rw (spent_same g s d f, ring_same g s d f o, frames_same g s d f (frames_of submission)) refl

  by_options : (c : Option Options) (w : Refusal) → Decides (may_refuse_by s w c) (IsRefusedAt s c d.requests w)
  by_options None refusal.NotReady = ((λ yes. (submissions.Flush, tt, refl)), (λ is. refl))
  by_options None w = ((λ yes. absurd (cc)), (λ is. not_ready w is.2))
    where
      not_ready : (x : Refusal) → Some refusal.NotReady ≡ Some x → is_not_ready x ≡ true
      not_ready x same = subst (λ (y : Refusal). is_not_ready y ≡ true) (same_Some refusal.NotReady x same) refl
  by_options (Some o) w = (
    (λ yes. (let it = so s o w yes in (it.0, it.1, sym (pick_same o it.0) ∙ it.2))),
    (λ is. back s o w (is.0, is.1, pick_same o is.0 ∙ is.2)),
  )

pub refuse_decided : (before : List Line) (line : Line) → Matches before → Decides (allows_refuse (state_after before) line) (IsRefuseAt before line)
refuse_decided before (lines.Refuse w) m =
    let s = state_after before in
    let both = by_options m.notes s m.disk m.follows s.sight.config w in
    ((λ yes. (let it = both.0 yes in (it.0, it.1, refusal_is before m it.0 ∙ it.2))), (λ is. both.1 (is.0, is.1, sym (refusal_is before m is.0) ∙ is.2)))
refuse_decided before line m = ((λ yes. tt), (λ kept. refl))
