-- A refusal is allowed where there is a submission that is refused so.
use Rattle.std.proofs.Common.{◌≡◌, ℕ, ◌+◌, ◌*◌, ◌/◌, ◌≤◌, ◌==◌, ◌&&◌, ◌||◌, not, nat_lt, max, min, Bool, true, false, if◌then◌else◌, refl, ◌∙◌, subst, arith}
use Rattle.std.specs.Prelude.{Option, Some, None, nat_le, nat_lt}
use Rattle.std.proofs.lemmas.Option.{none-some, same_Some}
use Rattle.std.proofs.lemmas.Bool.Decides.{nat_tests}
use Rattle.blk_base.specs.Options.{Options}
use Rattle.blk_base.specs.declared.config.Submission.{Submission}
use Rattle.blk_base.specs.declared.config.Submission.TheVariants as submissions
use Rattle.blk_base.specs.declared.refusal.Refusal.{Refusal}
use Rattle.blk_base.specs.declared.refusal.Refusal.TheVariants as refusal
use Rattle.plain_disk.specs.Refusal.{frames_of, is_unsupported, is_refused_write, is_past_end, is_long}
use Rattle.request_check.specs.Rules.{CanBeAsked}
use Rattle.request_check.specs.State.{State}
use Rattle.request_check.specs.Verdicts.{is_at_work, is_ring_full, are_too_many, least_long, most_read, may_lack_frames, may_refuse}

-- the first of the reasons that applies, where the front takes submissions, and at any time
abbrev pub late_pick : Bool → Bool → Bool → Bool → Bool → Bool → Option Refusal
late_pick kind write past long full lacks =
    if kind then Some refusal.Unsupported
    else (if write then Some refusal.ReadOnly
    else (if past then Some refusal.Range
    else (if long then Some refusal.Long
    else (if full then Some refusal.Full
    else (if lacks then Some refusal.Buffers
    else None)))))

abbrev pub pick : Bool → Bool → Bool → Bool → Bool → Bool → Bool → Bool → Bool → Bool → Option Refusal
pick spent closing connected broken kind write past long full lacks =
    if spent then Some refusal.Spent
    else (if not closing && (not connected || broken) then Some refusal.NotReady
    else (if closing then Some refusal.Closing
    else late_pick kind write past long full lacks))

-- why a submission is refused in this state
abbrev pub pick_of : State → Options → Submission → Option Refusal
pick_of s o submission = pick (s.submitted == 4294967295) s.sight.closing s.sight.connected s.sight.broken (is_unsupported o submission) (is_refused_write o submission) (is_past_end o submission) (is_long o submission) (is_ring_full s o) (are_too_many s (frames_of submission))

abbrev at_work : Bool → Bool → Bool → Bool → Bool
at_work spent closing connected broken = not spent && not closing && connected && not broken

-- what each reason says of those before it
abbrev pub Says : Refusal → Bool → Bool → Bool → Bool → Bool → Bool → Bool → Bool → Bool → Bool → Type 0
Says refusal.Spent spent closing connected broken kind write past long full lacks = spent ≡ true
Says refusal.NotReady spent closing connected broken kind write past long full lacks = (spent ≡ false) × (closing ≡ false) × ((not connected || broken) ≡ true)
Says refusal.Closing spent closing connected broken kind write past long full lacks = (spent ≡ false) × (closing ≡ true)
Says refusal.Unsupported spent closing connected broken kind write past long full lacks = (at_work spent closing connected broken ≡ true) × (kind ≡ true)
Says refusal.ReadOnly spent closing connected broken kind write past long full lacks = (at_work spent closing connected broken ≡ true) × (write ≡ true)
Says refusal.Range spent closing connected broken kind write past long full lacks = (at_work spent closing connected broken ≡ true) × (past ≡ true)
Says refusal.Long spent closing connected broken kind write past long full lacks = (at_work spent closing connected broken ≡ true) × (kind ≡ false) × (past ≡ false) × (long ≡ true)
Says refusal.Full spent closing connected broken kind write past long full lacks = (at_work spent closing connected broken ≡ true) × (kind ≡ false) × (past ≡ false) × (full ≡ true)
Says refusal.Buffers spent closing connected broken kind write past long full lacks = (at_work spent closing connected broken ≡ true) × (kind ≡ false) × (past ≡ false) × (long ≡ false) × (full ≡ false) × (lacks ≡ true)

says : (w x : Refusal) (spent closing connected broken kind write past long full lacks : Bool) → Some x ≡ Some w → Says x spent closing connected broken kind write past long full lacks → Says w spent closing connected broken kind write past long full lacks
says w x spent closing connected broken kind write past long full lacks same it = subst (λ (y : Refusal). Says y spent closing connected broken kind write past long full lacks) (same_Some x w same) it

pub picked : (w : Refusal) (spent closing connected broken kind write past long full lacks : Bool) → pick spent closing connected broken kind write past long full lacks ≡ Some w → Says w spent closing connected broken kind write past long full lacks
picked w true closing connected broken kind write past long full lacks h = says w refusal.Spent true closing connected broken kind write past long full lacks h refl
picked w false true connected broken kind write past long full lacks h = says w refusal.Closing false true connected broken kind write past long full lacks h (refl, refl)
picked w false false false broken kind write past long full lacks h = says w refusal.NotReady false false false broken kind write past long full lacks h (refl, refl, refl)
picked w false false true true kind write past long full lacks h = says w refusal.NotReady false false true true kind write past long full lacks h (refl, refl, refl)
picked w false false true false true write past long full lacks h = says w refusal.Unsupported false false true false true write past long full lacks h (refl, refl)
picked w false false true false false true past long full lacks h = says w refusal.ReadOnly false false true false false true past long full lacks h (refl, refl)
picked w false false true false false false true long full lacks h = says w refusal.Range false false true false false false true long full lacks h (refl, refl)
picked w false false true false false false false true full lacks h = says w refusal.Long false false true false false false false true full lacks h (refl, refl, refl, refl)
picked w false false true false false false false false true lacks h = says w refusal.Full false false true false false false false false true lacks h (refl, refl, refl, refl)
picked w false false true false false false false false false true h = says w refusal.Buffers false false true false false false false false false true h (refl, refl, refl, refl, refl, refl)
picked w false false true false false false false false false false h = absurd (none-some w h)

late : (spent closing connected broken kind write past long full lacks : Bool) → at_work spent closing connected broken ≡ true → pick spent closing connected broken kind write past long full lacks ≡ late_pick kind write past long full lacks
late true closing connected broken kind write past long full lacks h = absurd (cc)
late false true connected broken kind write past long full lacks h = absurd (cc)
late false false false broken kind write past long full lacks h = absurd (cc)
late false false true true kind write past long full lacks h = absurd (cc)
late false false true false kind write past long full lacks h = refl

late_of : (s : State) (o : Options) (submission : Submission) → is_at_work s ≡ true → pick_of s o submission ≡ late_pick (is_unsupported o submission) (is_refused_write o submission) (is_past_end o submission) (is_long o submission) (is_ring_full s o) (are_too_many s (frames_of submission))
late_of s o submission work = late (s.submitted == 4294967295) s.sight.closing s.sight.connected s.sight.broken (is_unsupported o submission) (is_refused_write o submission) (is_past_end o submission) (is_long o submission) (is_ring_full s o) (are_too_many s (frames_of submission)) work

both_true : (a b : Bool) → (a && b) ≡ true → (a ≡ true) × (b ≡ true)
both_true true true h = (refl, refl)
both_true true false h = absurd (cc)
both_true false b h = absurd (cc)

pub are_both : (a b : Bool) → a ≡ true → b ≡ true → (a && b) ≡ true
are_both true true p q = refl
are_both true false p q = absurd (cc)
are_both false b p q = absurd (cc)

is_not : (b : Bool) → not b ≡ true → b ≡ false
is_not true h = absurd (cc)
is_not false h = refl

-- ---- there is a submission that is refused so
abbrev pub IsRefusedSo : State → Options → Refusal → Type 0
IsRefusedSo s o w = (submission : Submission) × CanBeAsked submission × (pick_of s o submission ≡ Some w)

spent_so : (s : State) (o : Options) → may_refuse s o refusal.Spent ≡ true → IsRefusedSo s o refusal.Spent
spent_so s o h = (submissions.Flush, tt, rw h refl)

early_by : (spent closing connected broken : Bool) (rest : Option Refusal) → (not spent && not closing && (not connected || broken)) ≡ true
    → (if spent then Some refusal.Spent else (if not closing && (not connected || broken) then Some refusal.NotReady else (if closing then Some refusal.Closing else rest))) ≡ Some refusal.NotReady
early_by true closing connected broken rest h = absurd (cc)
early_by false true connected broken rest h = absurd (cc)
early_by false false false broken rest h = refl
early_by false false true true rest h = refl
early_by false false true false rest h = absurd (cc)

early_so : (s : State) (o : Options) → may_refuse s o refusal.NotReady ≡ true → IsRefusedSo s o refusal.NotReady
early_so s o h = (submissions.Flush, tt, early_by (s.submitted == 4294967295) s.sight.closing s.sight.connected s.sight.broken _ h)

closing_by : (spent closing connected broken : Bool) (rest : Option Refusal) → (not spent && closing) ≡ true
    → (if spent then Some refusal.Spent else (if not closing && (not connected || broken) then Some refusal.NotReady else (if closing then Some refusal.Closing else rest))) ≡ Some refusal.Closing
closing_by true closing connected broken rest h = absurd (cc)
closing_by false true connected broken rest h = refl
closing_by false false connected broken rest h = absurd (cc)

closing_so : (s : State) (o : Options) → may_refuse s o refusal.Closing ≡ true → IsRefusedSo s o refusal.Closing
closing_so s o h = (submissions.Flush, tt, closing_by (s.submitted == 4294967295) s.sight.closing s.sight.connected s.sight.broken _ h)

unsupported_so : (s : State) (o : Options) → may_refuse s o refusal.Unsupported ≡ true → IsRefusedSo s o refusal.Unsupported
unsupported_so s o h =
    let both = both_true (is_at_work s) o.read_only h in
    (submissions.Flush, tt, late_of s o submissions.Flush both.0 ∙ rw both.1 refl)

read_only_so : (s : State) (o : Options) → may_refuse s o refusal.ReadOnly ≡ true → IsRefusedSo s o refusal.ReadOnly
read_only_so s o h =
    let both = both_true (is_at_work s) o.read_only h in
    (submissions.Write 0 1 0, (omega arith, omega arith, omega arith, omega arith), late_of s o (submissions.Write 0 1 0) both.0 ∙ rw both.1 refl)

range_so : (s : State) (o : Options) → may_refuse s o refusal.Range ≡ true → IsRefusedSo s o refusal.Range
range_so s o h =
    let both = both_true (is_at_work s) (nat_lt o.sectors 18446744078004518910) h in
    let past : is_past_end o (submissions.Read 18446744073709551615 4294967295) ≡ true = both.1 in
    (submissions.Read 18446744073709551615 4294967295, (omega arith, omega arith, omega arith), late_of s o (submissions.Read 18446744073709551615 4294967295) both.0 ∙ rw past refl)

long_read : (m : ℕ) → nat_lt m ((8 * m + 1 + 7) / 8) ≡ true
long_read m =
    let n : (8 * m + 1 + 7) / 8 ≡ m + 1 = omega arith in
    rw n (grind (arith, nat_tests))

long_by : (s : State) (o : Options) (b : Bool) → o.read_only ≡ b → is_at_work s ≡ true → nat_le (if b then 8 * max 11 o.indirect + 1 else 89) (min o.sectors 4294967295) ≡ true → IsRefusedSo s o refusal.Long
long_by s o true ro work within =
    let n = 8 * max 11 o.indirect + 1 in
    let in_disk : n ≤ min o.sectors 4294967295 = grind (arith, nat_tests) in
    let past : is_past_end o (submissions.Read 0 (8 * max 11 o.indirect + 1)) ≡ false = grind (arith, nat_tests) in
    let long : is_long o (submissions.Read 0 (8 * max 11 o.indirect + 1)) ≡ true = long_read (max 11 o.indirect) in
    (submissions.Read 0 (8 * max 11 o.indirect + 1), (omega arith, omega arith, omega arith), late_of s o (submissions.Read 0 (8 * max 11 o.indirect + 1)) work ∙ rw (past, long) refl)
long_by s o false ro work within =
    let in_disk : 89 ≤ min o.sectors 4294967295 = grind (arith, nat_tests) in
    let past : is_past_end o (submissions.Barrier 0 89 0) ≡ false = grind (arith, nat_tests) in
    (submissions.Barrier 0 89 0, (omega arith, omega arith, omega arith, omega arith), late_of s o (submissions.Barrier 0 89 0) work ∙ rw (ro, past) refl)

long_so : (s : State) (o : Options) → may_refuse s o refusal.Long ≡ true → IsRefusedSo s o refusal.Long
long_so s o h =
    let both = both_true (is_at_work s) (nat_le (least_long o) (min o.sectors 4294967295)) h in
    long_by s o o.read_only refl both.0 both.1

full_by : (s : State) (o : Options) (b : Bool) → o.read_only ≡ b → is_at_work s ≡ true → is_ring_full s o ≡ true → (not b || not (o.sectors == 0)) ≡ true → IsRefusedSo s o refusal.Full
full_by s o true ro work full some =
    let none : (o.sectors == 0) ≡ false = is_not (o.sectors == 0) some in
    let past : is_past_end o (submissions.Read 0 1) ≡ false = grind (arith, nat_tests) in
    let long : is_long o (submissions.Read 0 1) ≡ false = grind (arith, nat_tests) in
    (submissions.Read 0 1, (omega arith, omega arith, omega arith), late_of s o (submissions.Read 0 1) work ∙ rw (past, long, full) refl)
full_by s o false ro work full some =
    let past : is_past_end o submissions.Flush ≡ false = grind (arith, nat_tests) in
    (submissions.Flush, tt, late_of s o submissions.Flush work ∙ rw (ro, past, full) refl)

full_so : (s : State) (o : Options) → may_refuse s o refusal.Full ≡ true → IsRefusedSo s o refusal.Full
full_so s o h =
    let both = both_true (is_at_work s && is_ring_full s o) (not o.read_only || not (o.sectors == 0)) h in
    let two = both_true (is_at_work s) (is_ring_full s o) both.0 in
    full_by s o o.read_only refl two.0 two.1 both.1

short_read : (m n : ℕ) → n ≤ 8 * m → nat_lt m ((n + 7) / 8) ≡ false
short_read m n within =
    let few : (n + 7) / 8 ≤ m = omega arith in
    grind (arith, nat_tests)

buffers_by : (s : State) (o : Options) (b : Bool) → (most_read o == 0) ≡ b → is_at_work s ≡ true → is_ring_full s o ≡ false
    → (if b then not o.read_only && are_too_many s 0 else are_too_many s (frames_of (submissions.Read 0 (most_read o)))) ≡ true → IsRefusedSo s o refusal.Buffers
buffers_by s o true none work room lacks =
    let both = both_true (not o.read_only) (are_too_many s 0) lacks in
    let ro : o.read_only ≡ false = is_not o.read_only both.0 in
    let past : is_past_end o submissions.Flush ≡ false = grind (arith, nat_tests) in
    (submissions.Flush, tt, late_of s o submissions.Flush work ∙ rw (ro, past, room) (rw both.1 refl))
buffers_by s o false some work room lacks =
    let apart : (most_read o ≡ 0) → ⊥ = λ e. grind (arith, nat_tests) in
    let past : is_past_end o (submissions.Read 0 (most_read o)) ≡ false = grind (arith, nat_tests) in
    let long : is_long o (submissions.Read 0 (most_read o)) ≡ false = short_read (max 11 o.indirect) (most_read o) (omega arith) in
    (submissions.Read 0 (most_read o), (omega arith, omega arith, omega arith), late_of s o (submissions.Read 0 (most_read o)) work ∙ rw (past, long, room) (rw lacks refl))

buffers_so : (s : State) (o : Options) → may_refuse s o refusal.Buffers ≡ true → IsRefusedSo s o refusal.Buffers
buffers_so s o h =
    let both = both_true (is_at_work s && not (is_ring_full s o)) (may_lack_frames s o) h in
    let two = both_true (is_at_work s) (not (is_ring_full s o)) both.0 in
    buffers_by s o (most_read o == 0) refl two.0 (is_not (is_ring_full s o) two.1) both.1

pub so : (s : State) (o : Options) (w : Refusal) → may_refuse s o w ≡ true → IsRefusedSo s o w
so s o refusal.Spent h = spent_so s o h
so s o refusal.NotReady h = early_so s o h
so s o refusal.Closing h = closing_so s o h
so s o refusal.Unsupported h = unsupported_so s o h
so s o refusal.ReadOnly h = read_only_so s o h
so s o refusal.Range h = range_so s o h
so s o refusal.Long h = long_so s o h
so s o refusal.Full h = full_so s o h
so s o refusal.Buffers h = buffers_so s o h
