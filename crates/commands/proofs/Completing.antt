-- What can be done is done, but for want of memory: each other status has a cause, and none of the causes is there.
use Rattle.std.proofs.Common.{◌≡◌, ◌≢◌, ◌⊎◌, ℕ, ◌+◌, ◌<◌, ◌≤◌, min, List, length, Option, Some, None, Result, Ok, Err, inl, inr, refl, ap, ◌∙◌, subst, arith}
use Rattle.blk_base.specs.declared.operation.Abi.{Abi}
use Rattle.schedule_text.specs.declared.event.Event.{Event}
use Rattle.commands.specs.declared.words.RunOptions.{RunOptions}
use Rattle.ring_inspect.specs.Stop.{bytes_of, IsCount}
use Rattle.schedule_run.specs.Reading.{HasBadLine, IsTooLong, Tells}
use Rattle.report_lines.specs.Giving as Told
use Rattle.trace_check.specs.Found.{IsBadAt, IsLong}
use Rattle.legal_laws.proofs.Found.{whole_never_bad}
use Rattle.commands.specs.declared.status.Stop.{Stop}
use Rattle.commands.specs.declared.status.Stop.TheVariants.{Broken, Length, Words, BadLine, Source, Sink, OutOfMemory, Image, TooLong}
use Rattle.commands.specs.Words.{Wish, a_run, a_ring, a_check, a_bench, wish_of}
use Rattle.commands.specs.Scene.{Scene, bytes_limit}
use Rattle.commands.specs.Ending.{CommandEnds, CarriesOut}
use Rattle.commands.specs.Complete.{IsInputOf, MayBeDone, IsDoneAt}
use Rattle.commands.proofs.SameLines.{whole_or_bad}
use Rattle.commands.proofs.Settling.{status_at, wish_settles, same_wish, no_wish}

-- ---- no cause of another status is there

bad_input : (image : List ℕ) (options : RunOptions) (left : Option (List ℕ)) (asked : List Event) (number : ℕ) → IsInputOf (a_run image options) left → Tells (λ bytes. HasBadLine bytes_limit bytes asked number) left → ⊥
bad_input image options None asked number input tells = input
bad_input image options (Some bytes) asked number input tells = whole_or_bad bytes_limit bytes input.0 asked number input.1 tells

long_input : (image : List ℕ) (options : RunOptions) (left : Option (List ℕ)) (asked : List Event) → IsInputOf (a_run image options) left → Tells (λ bytes. IsTooLong bytes_limit bytes asked) left → ⊥
long_input image options None asked input tells = input
long_input image options (Some bytes) asked input tells =
    let below : length bytes < bytes_limit = input.1.below in
    let reached : bytes_limit ≤ length bytes = tells.reached in
    omega arith

other_length : (abi : Abi) (order count : ℕ) (left : Option (List ℕ)) → IsInputOf (a_ring abi order) left → IsCount left (bytes_of order) count → count ≢ bytes_of order → ⊥
other_length abi order count None input is other = input
other_length abi order count (Some bytes) input is other =
    let long : length bytes ≡ bytes_of order = input in
    let counted : count ≡ min (length bytes) (bytes_of order + 1) = is in
    other (same_count (length bytes) (bytes_of order) count long counted)
  where
    same_count : (n size count : ℕ) → n ≡ size → count ≡ min n (size + 1) → count ≡ size
    same_count n size count long counted = omega arith

run_completes : (image : List ℕ) (options : RunOptions) (result : Result (Unit {0}) Stop) (old new : Scene) → CommandEnds (a_run image options) result old new → MayBeDone (a_run image options) old new → (status_at result ≡ 0) ⊎ (status_at result ≡ 6)
run_completes image options (Ok done) old new h may = inl refl
run_completes image options (Err OutOfMemory) old new h may = inr refl
run_completes image options (Err (BadLine number)) old new h may =
    absurd (bad_input image options old.source.left h.runs.stands.1.0 number may.input h.runs.stands.1.1)
run_completes image options (Err TooLong) old new h may =
    absurd (long_input image options old.source.left h.runs.stands.1.0 may.input h.runs.stands.1.1)
run_completes image options (Err Source) old new h may = absurd (may.read ((wish_settles (a_run image options) (Err Source) old new h).input_failed refl))
run_completes image options (Err Sink) old new h may = absurd (may.written ((wish_settles (a_run image options) (Err Sink) old new h).output_failed refl))
run_completes image options (Err Image) old new h may = absurd (may.attached h)
run_completes image options (Err (Length count expected)) old new h may = absurd h
run_completes image options (Err Words) old new h may = absurd h
run_completes image options (Err Broken) old new h may = absurd h

ring_completes : (abi : Abi) (order : ℕ) (result : Result (Unit {0}) Stop) (old new : Scene) → CommandEnds (a_ring abi order) result old new → MayBeDone (a_ring abi order) old new → (status_at result ≡ 0) ⊎ (status_at result ≡ 6)
ring_completes abi order (Ok done) old new h may = inl refl
ring_completes abi order (Err OutOfMemory) old new h may = inr refl
ring_completes abi order (Err (Length count expected)) old new h may =
    absurd (other_length abi order count old.source.left may.input h.0.1.no_ring.count_is h.0.1.no_ring.other)
ring_completes abi order (Err Source) old new h may = absurd (may.read ((wish_settles (a_ring abi order) (Err Source) old new h).input_failed refl))
ring_completes abi order (Err Sink) old new h may = absurd (may.written ((wish_settles (a_ring abi order) (Err Sink) old new h).output_failed refl))
ring_completes abi order (Err (BadLine number)) old new h may = absurd h.0
ring_completes abi order (Err TooLong) old new h may = absurd h.0
ring_completes abi order (Err Image) old new h may = absurd h.0
ring_completes abi order (Err Words) old new h may = absurd h.0
ring_completes abi order (Err Broken) old new h may = absurd h.0

bench_completes : (seed count : ℕ) (result : Result (Unit {0}) Stop) (old new : Scene) → CommandEnds (a_bench seed count) result old new → MayBeDone (a_bench seed count) old new → (status_at result ≡ 0) ⊎ (status_at result ≡ 6)
bench_completes seed count (Ok done) old new h may = inl refl
bench_completes seed count (Err OutOfMemory) old new h may = inr refl
bench_completes seed count (Err Sink) old new h may = absurd (may.written ((wish_settles (a_bench seed count) (Err Sink) old new h).output_failed refl))
bench_completes seed count (Err TooLong) old new h may = absurd h.0
bench_completes seed count (Err Source) old new h may = absurd h.0
bench_completes seed count (Err (BadLine number)) old new h may = absurd h.0
bench_completes seed count (Err Image) old new h may = absurd h.0
bench_completes seed count (Err (Length count' expected)) old new h may = absurd h.0
bench_completes seed count (Err Words) old new h may = absurd h.0
bench_completes seed count (Err Broken) old new h may = absurd h.0

bad_report : (left : Option (List ℕ)) (number : ℕ) → IsInputOf a_check left → Told.Tells (IsBadAt bytes_limit number) left → ⊥
bad_report None number input tells = input
bad_report (Some bytes) number input tells = whole_never_bad bytes_limit number input.report bytes input.read tells

long_report : (left : Option (List ℕ)) → IsInputOf a_check left → Told.Tells (IsLong bytes_limit) left → ⊥
long_report None input tells = input
long_report (Some bytes) input tells =
    let below : length bytes < bytes_limit = input.below in
    let taken : length bytes ≡ bytes_limit + length tells.rest = tells.taken in
    omega arith

check_completes : (result : Result (Unit {0}) Stop) (old new : Scene) → CommandEnds a_check result old new → MayBeDone a_check old new → (status_at result ≡ 0) ⊎ (status_at result ≡ 1) ⊎ (status_at result ≡ 6)
check_completes (Ok done) old new h may = inl refl
check_completes (Err Broken) old new h may = inr (inl refl)
check_completes (Err OutOfMemory) old new h may = inr (inr refl)
check_completes (Err (BadLine number)) old new h may = absurd (bad_report old.source.left number may.input h.0.found.0)
check_completes (Err TooLong) old new h may = absurd (long_report old.source.left may.input h.0.found.0)
check_completes (Err Source) old new h may = absurd (may.read ((wish_settles a_check (Err Source) old new h).input_failed refl))
check_completes (Err Sink) old new h may = absurd (may.written ((wish_settles a_check (Err Sink) old new h).output_failed refl))
check_completes (Err Image) old new h may = absurd h.0
check_completes (Err (Length count expected)) old new h may = absurd h.0
check_completes (Err Words) old new h may = absurd h.0

wish_completes : (wish : Wish) (result : Result (Unit {0}) Stop) (old new : Scene) → CommandEnds wish result old new → MayBeDone wish old new → IsDoneAt wish (status_at result)
wish_completes (a_run image options) result old new h may = run_completes image options result old new h may
wish_completes (a_ring abi order) result old new h may = ring_completes abi order result old new h may
wish_completes a_check result old new h may = check_completes result old new h may
wish_completes (a_bench seed count) result old new h may = bench_completes seed count result old new h may

starves : (wish : Wish) (status : ℕ) → status ≡ 6 → IsDoneAt wish status
starves (a_run image options) status six = inr six
starves (a_ring abi order) status six = inr six
starves a_check status six = inr (inr six)
starves (a_bench seed count) status six = inr six

pub completes : (words : List (List ℕ)) (result : Result (Unit {0}) Stop) (status : ℕ) (old new : Scene) (wish : Wish) → status ≡ status_at result → CarriesOut words result old new → wish_of words ≡ Some wish → MayBeDone wish old new → IsDoneAt wish status
completes words result status old new wish same (inl refused) asks may = absurd (no_wish words wish refused.1 asks)
completes words result status old new wish same (inr (inl starved)) asks may = starves wish status (same ∙ ap status_at starved.0)
completes words result status old new wish same (inr (inr h)) asks may =
    let ends : CommandEnds wish result old new = subst (λ w. CommandEnds w result old new) (same_wish h.0 wish words h.1 asks) h.2 in
    rw same (wish_completes wish result old new ends may)
