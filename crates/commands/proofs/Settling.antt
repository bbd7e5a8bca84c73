-- At each status, which count of faults rose, and what the report of a run is worth.
use Rattle.std.proofs.Common.{◌≡◌, ◌≢◌, ◌⊎◌, ℕ, List, Some, Result, Ok, Err, inl, inr, refl, ap, ◌∙◌, subst, arith}
use Rattle.blk_io.specs.Outside.{Rose, SinkSeen, TakesBytes}
use Rattle.blk_base.specs.declared.operation.Abi.{Abi}
use Rattle.ring_words.specs.Shape.{Shape}
use Rattle.commands.specs.declared.words.RunOptions.{RunOptions}
use Rattle.schedule_run.specs.declared.schedule.RunStop.{RunStop}
use Rattle.schedule_run.specs.declared.schedule.RunStop.TheVariants as run
use Rattle.commands.specs.declared.status.Stop.{Stop}
use Rattle.commands.specs.declared.status.Stop.TheVariants.{Broken, Length, Words, BadLine, Source, Sink, OutOfMemory, Image, TooLong}
use Rattle.commands.specs.Words.{Wish, a_run, a_ring, a_check, a_bench, wish_of, AsksRing, AsksCheck, AsksBench, AsksNothing}
use Rattle.commands.specs.Check.{CheckEnds, CheckAt}
use Rattle.commands.specs.Bench.{FailsToSay, BenchEnds, BenchAt}
use Rattle.commands.specs.Status.{status_of}
use Rattle.commands.specs.Scene.{Scene, options_of, bytes_limit, with_image, reporting}
use Rattle.commands.specs.Ending.{RunsOn, RunEnds, RingEnds, CommandEnds, CarriesOut}
use Rattle.commands.specs.Reported.{RunReports, ReportsAt, ReportsTheHeadline}
use Rattle.commands.specs.Settled.{HandedOn, Settles}
use Rattle.commands.proofs.Runs.{Left, run_left}
use Rattle.commands.proofs.Reporting.{keeps_the_headline}

-- the status of a result
abbrev pub status_at : Result (Unit {0}) Stop → ℕ
status_at (Ok done) = 0
status_at (Err stop) = status_of stop

settles_done : (old new : Scene) → new.source.faults ≡ old.source.faults → new.output.kept_back ≡ 0 → new.output.faults ≡ old.output.faults → Settles 0 old new
settles_done old new source none output = record {
  input_failed = λ e. absurd (omega (arith, e));
  input_unfailed = λ e. source;
  output_failed = λ e. absurd (omega (arith, e));
  handed_on = inl (omega arith, output);
  output_done = λ e. (none, output);
  image_failed = λ e. absurd (omega (arith, e));
}

settles_input : (old new : Scene) → Rose old.source.faults new.source.faults → HandedOn old.output new.output → Settles 4 old new
settles_input old new rose handed = record {
  input_failed = λ e. rose;
  input_unfailed = λ other. absurd (other refl);
  output_failed = λ e. absurd (omega (arith, e));
  handed_on = handed;
  output_done = λ e. absurd (omega (arith, e));
  image_failed = λ e. absurd (omega (arith, e));
}

settles_output : (old new : Scene) → new.source.faults ≡ old.source.faults → Rose old.output.faults new.output.faults → Settles 5 old new
settles_output old new source rose = record {
  input_failed = λ e. absurd (omega (arith, e));
  input_unfailed = λ e. source;
  output_failed = λ e. rose;
  handed_on = inr rose;
  output_done = λ e. absurd (omega (arith, e));
  image_failed = λ e. absurd (omega (arith, e));
}

settles_image : (old new : Scene) → new.source.faults ≡ old.source.faults → HandedOn old.output new.output → Rose old.disk.faults new.disk.faults → Settles 7 old new
settles_image old new source handed rose = record {
  input_failed = λ e. absurd (omega (arith, e));
  input_unfailed = λ e. source;
  output_failed = λ e. absurd (omega (arith, e));
  handed_on = handed;
  output_done = λ e. absurd (omega (arith, e));
  image_failed = λ e. rose;
}

-- any other status
settles_other : (n : ℕ) (old new : Scene) → n ≢ 0 → n ≢ 4 → n ≢ 5 → n ≢ 7 → new.source.faults ≡ old.source.faults → HandedOn old.output new.output → Settles n old new
settles_other n old new n0 n4 n5 n7 source handed = record {
  input_failed = λ e. absurd (n4 e);
  input_unfailed = λ e. source;
  output_failed = λ e. absurd (n5 e);
  handed_on = handed;
  output_done = λ e. absurd (n0 e);
  image_failed = λ e. absurd (n7 e);
}

-- an output of which nothing was asked
same_output : (a b : SinkSeen) → b ≡ a → HandedOn a b
same_output a b same = rw same (inl (omega arith, refl))

-- an output that was to hand on what it kept back
handed : (a b : SinkSeen) → (((b.kept_back ≡ 0) × (b.faults ≡ a.faults)) ⊎ Rose a.faults b.faults) → HandedOn a b
handed a b (inl h) = let none = h.0 in inl (omega arith, h.1)
handed a b (inr h) = inr h

ring_settles : (shape : Shape) (result : Result (Unit {0}) Stop) (old new : Scene) → RingEnds shape result old.source new.source old.output new.output → Settles (status_at result) old new
ring_settles shape (Ok done) old new h =
    settles_done old new h.shown.read.faults (ap (λ s. s.kept_back) h.handed_on) (ap (λ s. s.faults) h.handed_on ∙ h.shown.text.faults)
ring_settles shape (Err (Length count expected)) old new h =
    settles_other 1 old new (omega arith) (omega arith) (omega arith) (omega arith) h.1.no_ring.faults (same_output old.output new.output h.1.untouched)
ring_settles shape (Err Source) old new h = settles_input old new h.no_ring (same_output old.output new.output h.untouched)
ring_settles shape (Err OutOfMemory) old new h =
    settles_other 6 old new (omega arith) (omega arith) (omega arith) (omega arith) h.no_ring (same_output old.output new.output h.untouched)
ring_settles shape (Err Sink) old new (inl h) = settles_output old new h.read.faults h.text.rose
ring_settles shape (Err Sink) old new (inr h) =
    settles_output old new h.shown.read.faults (subst (λ f. Rose f new.output.faults) h.shown.text.faults h.failed.rose)
ring_settles shape (Err Words) old new h = absurd h
ring_settles shape (Err Broken) old new h = absurd h
ring_settles shape (Err (BadLine number)) old new h = absurd h
ring_settles shape (Err Image) old new h = absurd h
ring_settles shape (Err TooLong) old new h = absurd h

-- what a run did
left_by : (image : List ℕ) (options : RunOptions) (result : Result (Unit {0}) RunStop) (old new : Scene) (h : RunsOn image options result old new) → Left result old.source new.source (reporting options.detail h.lender (with_image image options.read_only h.sectors old.disk) old.output) (reporting options.detail h.lender new.disk new.output)
left_by image options result old new h = run_left (options_of options h.sectors) bytes_limit result old.source new.source _ _ h.runs

run_settles : (image : List ℕ) (options : RunOptions) (result : Result (Unit {0}) Stop) (old new : Scene) → RunEnds image options result old new → Settles (status_at result) old new
run_settles image options (Ok done) old new h = let left = left_by image options (Ok tt) old new h in settles_done old new left.source left.sink.0 left.sink.1
run_settles image options (Err (BadLine number)) old new h =
    let left = left_by image options (Err (run.BadLine number)) old new h in
    settles_other 3 old new (omega arith) (omega arith) (omega arith) (omega arith) left.source (handed old.output new.output left.sink)
run_settles image options (Err Source) old new h =
    let left = left_by image options (Err run.Source) old new h in settles_input old new left.source (handed old.output new.output left.sink)
run_settles image options (Err TooLong) old new h =
    let left = left_by image options (Err run.TooLong) old new h in
    settles_other 8 old new (omega arith) (omega arith) (omega arith) (omega arith) left.source (handed old.output new.output left.sink)
run_settles image options (Err Sink) old new h = let left = left_by image options (Err run.Sink) old new h in settles_output old new left.source left.sink
run_settles image options (Err OutOfMemory) old new (inl h) =
    settles_other 6 old new (omega arith) (omega arith) (omega arith) (omega arith) (ap (λ s. s.source.faults) h) (same_output old.output new.output (ap (λ s. s.output) h))
run_settles image options (Err OutOfMemory) old new (inr h) =
    let left = left_by image options (Err run.OutOfMemory) old new h in
    settles_other 6 old new (omega arith) (omega arith) (omega arith) (omega arith) left.source (handed old.output new.output left.sink)
run_settles image options (Err Image) old new h =
    settles_image old new (ap (λ s. s.faults) h.source) (same_output old.output new.output h.output) h.failed.rose
run_settles image options (Err (Length count expected)) old new h = absurd h
run_settles image options (Err Words) old new h = absurd h
run_settles image options (Err Broken) old new h = absurd h

fails_to_say : (text : List ℕ) (before after : SinkSeen) → FailsToSay text before after → Rose before.faults after.faults
fails_to_say text before after (inl h) = h.rose
fails_to_say text before after (inr h) = subst (λ f. Rose f after.faults) h.1.faults h.2.rose

bench_settles : (seed count : ℕ) (result : Result (Unit {0}) Stop) (old new : Scene) → BenchEnds seed count result old.output new.output → new.source.faults ≡ old.source.faults → Settles (status_at result) old new
bench_settles seed count (Ok done) old new h same = settles_done old new same (ap (λ s. s.kept_back) h.handed_on) (ap (λ s. s.faults) h.handed_on ∙ h.written.faults)
bench_settles seed count (Err Sink) old new h same = settles_output old new same (fails_to_say _ old.output new.output h.failed)
bench_settles seed count (Err OutOfMemory) old new h same = settles_other 6 old new (omega arith) (omega arith) (omega arith) (omega arith) same (same_output old.output new.output h)
bench_settles seed count (Err TooLong) old new h same = absurd h
bench_settles seed count (Err Source) old new h same = absurd h
bench_settles seed count (Err (BadLine number)) old new h same = absurd h
bench_settles seed count (Err Image) old new h same = absurd h
bench_settles seed count (Err (Length count' expected)) old new h same = absurd h
bench_settles seed count (Err Words) old new h same = absurd h
bench_settles seed count (Err Broken) old new h same = absurd h

-- an output that took a line and handed on what it kept back
all_sent : (text : List ℕ) (a b c : SinkSeen) → TakesBytes text a b → c ≡ record b { kept_back = 0 } → (c.kept_back ≡ 0) × (c.faults ≡ a.faults)
all_sent text a b c written sent = (ap (λ s. s.kept_back) sent, ap (λ s. s.faults) sent ∙ written.faults)

check_settles : (result : Result (Unit {0}) Stop) (old new : Scene) → CheckEnds result old.source new.source old.output new.output → Settles (status_at result) old new
check_settles (Ok done) old new h =
    let sent = all_sent _ old.output h.between new.output h.written h.handed_on in settles_done old new h.found.1 sent.0 sent.1
check_settles (Err Broken) old new h =
    let sent = all_sent _ old.output h.checked.between new.output h.checked.written h.checked.handed_on in
    settles_other 1 old new (omega arith) (omega arith) (omega arith) (omega arith) h.checked.found.1 (handed old.output new.output (inl sent))
check_settles (Err (BadLine number)) old new h =
    settles_other 3 old new (omega arith) (omega arith) (omega arith) (omega arith) h.found.1 (same_output old.output new.output h.untouched)
check_settles (Err Source) old new h = settles_input old new h.found (same_output old.output new.output h.untouched)
check_settles (Err Sink) old new h = settles_output old new h.found.1 (fails_to_say _ old.output new.output h.failed)
check_settles (Err OutOfMemory) old new h =
    settles_other 6 old new (omega arith) (omega arith) (omega arith) (omega arith) h.found (same_output old.output new.output h.untouched)
check_settles (Err TooLong) old new h =
    settles_other 8 old new (omega arith) (omega arith) (omega arith) (omega arith) h.found.1 (same_output old.output new.output h.untouched)
check_settles (Err Image) old new h = absurd h
check_settles (Err (Length count expected)) old new h = absurd h
check_settles (Err Words) old new h = absurd h

pub wish_settles : (wish : Wish) (result : Result (Unit {0}) Stop) (old new : Scene) → CommandEnds wish result old new → Settles (status_at result) old new
wish_settles (a_ring abi order) result old new h = ring_settles (record { abi = abi; order = order }) result old new h.0
wish_settles (a_run image options) result old new h = run_settles image options result old new h
wish_settles a_check result old new h = check_settles result old new h.0
wish_settles (a_bench seed count) result old new h = bench_settles seed count result old new h.0 (ap (λ s. s.faults) h.1)

-- where nothing was done, at a status that says of no failure
untouched_settles : (n : ℕ) (old new : Scene) → n ≢ 0 → n ≢ 4 → n ≢ 5 → n ≢ 7 → new ≡ old → Settles n old new
untouched_settles n old new n0 n4 n5 n7 same =
    settles_other n old new n0 n4 n5 n7 (ap (λ s. s.source.faults) same) (same_output old.output new.output (ap (λ s. s.output) same))

pub settles : (words : List (List ℕ)) (result : Result (Unit {0}) Stop) (status : ℕ) (old new : Scene) → status ≡ status_at result → CarriesOut words result old new → Settles status old new
settles words result status old new same (inl h) =
    rw (same, h.0) (untouched_settles 2 old new (omega arith) (omega arith) (omega arith) (omega arith) h.2)
settles words result status old new same (inr (inl starved)) =
    rw (same, starved.0) (untouched_settles 6 old new (omega arith) (omega arith) (omega arith) (omega arith) starved.1)
settles words result status old new same (inr (inr h)) = rw same (wish_settles h.0 result old new h.2)

reports_at : (image : List ℕ) (options : RunOptions) (result : Result (Unit {0}) Stop) (old new : Scene) → RunReports image options result old new → ReportsAt (status_at result) image options old new
reports_at image options (Ok done) old new h = grind arith
reports_at image options (Err (BadLine number)) old new h = grind arith
reports_at image options (Err Source) old new h = grind arith
reports_at image options (Err TooLong) old new h = grind arith
reports_at image options (Err Sink) old new h = grind arith
reports_at image options (Err OutOfMemory) old new h = grind arith
reports_at image options (Err Image) old new h = grind arith
reports_at image options (Err (Length count expected)) old new h = absurd h
reports_at image options (Err Words) old new h = absurd h
reports_at image options (Err Broken) old new h = absurd h

pub reports : (image : List ℕ) (options : RunOptions) (result : Result (Unit {0}) Stop) (status : ℕ) (old new : Scene) → status ≡ status_at result → RunReports image options result old new → ReportsAt status image options old new
reports image options result status old new same h = rw same (reports_at image options result old new h)

-- only what is done has status 0
pub headline : (image : List ℕ) (options : RunOptions) (result : Result (Unit {0}) Stop) (old new : Scene) → RunReports image options result old new → status_at result ≡ 0 → ReportsTheHeadline image options old new
headline image options result old new h zero =
    keeps_the_headline image options old new ((reports_at image options result old new h).done zero)

-- what a wish leads to isn't the status of bad words
not_bad : (wish : Wish) (result : Result (Unit {0}) Stop) (old new : Scene) → CommandEnds wish result old new → status_at result ≡ 2 → ⊥
not_bad wish (Ok done) old new h e = let no : 0 ≡ 2 = e in omega arith
not_bad wish (Err (Length count expected)) old new h e = let no : 1 ≡ 2 = e in omega arith
not_bad wish (Err Broken) old new h e = let no : 1 ≡ 2 = e in omega arith
not_bad (a_run image options) (Err Words) old new h e = h
not_bad (a_ring abi order) (Err Words) old new h e = h.0
not_bad a_check (Err Words) old new h e = h.0
not_bad (a_bench seed count) (Err Words) old new h e = h.0
not_bad wish (Err (BadLine number)) old new h e = let no : 3 ≡ 2 = e in omega arith
not_bad wish (Err Source) old new h e = let no : 4 ≡ 2 = e in omega arith
not_bad wish (Err Sink) old new h e = let no : 5 ≡ 2 = e in omega arith
not_bad wish (Err OutOfMemory) old new h e = let no : 6 ≡ 2 = e in omega arith
not_bad wish (Err Image) old new h e = let no : 7 ≡ 2 = e in omega arith
not_bad wish (Err TooLong) old new h e = let no : 8 ≡ 2 = e in omega arith

pub bad_words : (words : List (List ℕ)) (result : Result (Unit {0}) Stop) (status : ℕ) (old new : Scene) → status ≡ status_at result → CarriesOut words result old new → status ≡ 2 → AsksNothing words
bad_words words result status old new same (inl h) two = h.1
bad_words words result status old new same (inr (inl starved)) two = let six : status ≡ 6 = same ∙ ap status_at starved.0 in absurd (omega arith)
bad_words words result status old new same (inr (inr h)) two = absurd (not_bad h.0 result old new h.2 (omega arith))

pub no_wish : (words : List (List ℕ)) (wish : Wish) → AsksNothing words → wish_of words ≡ Some wish → ⊥
no_wish words wish none asks = cc

pub refused : (words : List (List ℕ)) (result : Result (Unit {0}) Stop) (status : ℕ) (old new : Scene) → status ≡ status_at result → CarriesOut words result old new → AsksNothing words → (status ≡ 2) ⊎ (status ≡ 6)
refused words result status old new same (inl h) none = inl (same ∙ ap status_at h.0)
refused words result status old new same (inr (inl starved)) none = inr (same ∙ ap status_at starved.0)
refused words result status old new same (inr (inr h)) none = absurd (no_wish words h.0 none h.1)

pub same_wish : (a b : Wish) (words : List (List ℕ)) → wish_of words ≡ Some a → wish_of words ≡ Some b → a ≡ b
same_wish a b words is also = cc

-- the showing of a ring leaves the disk as it was
pub untouched : (words : List (List ℕ)) (result : Result (Unit {0}) Stop) (old new : Scene) (abi : Abi) (order : ℕ) → CarriesOut words result old new → AsksRing words abi order → new.disk ≡ old.disk
untouched words result old new abi order (inl h) asks = ap (λ s. s.disk) h.2
untouched words result old new abi order (inr (inl starved)) asks = ap (λ s. s.disk) starved.1
untouched words result old new abi order (inr (inr h)) asks =
    let ends : CommandEnds (a_ring abi order) result old new = subst (λ wish. CommandEnds wish result old new) (same_wish h.0 (a_ring abi order) words h.1 asks) h.2 in
    ends.1

-- ---- a check

check_at : (result : Result (Unit {0}) Stop) (old new : Scene) → CommandEnds a_check result old new → CheckAt (status_at result) old new
check_at (Ok done) old new h = grind arith
check_at (Err Broken) old new h = grind arith
check_at (Err (BadLine number)) old new h = grind arith
check_at (Err Source) old new h = grind arith
check_at (Err Sink) old new h = grind arith
check_at (Err OutOfMemory) old new h = grind arith
check_at (Err TooLong) old new h = grind arith
check_at (Err Image) old new h = absurd h.0
check_at (Err (Length count expected)) old new h = absurd h.0
check_at (Err Words) old new h = absurd h.0

unchecked_at : (old new : Scene) → new ≡ old → CheckAt 6 old new
unchecked_at old new same =
    let output : new.output ≡ old.output = ap (λ s. s.output) same in
    let disk : new.disk ≡ old.disk = ap (λ s. s.disk) same in
    grind arith

pub checked : (words : List (List ℕ)) (result : Result (Unit {0}) Stop) (status : ℕ) (old new : Scene) → status ≡ status_at result → CarriesOut words result old new → AsksCheck words → CheckAt status old new
checked words result status old new same (inl h) asks = absurd (no_wish words a_check h.1 asks)
checked words result status old new same (inr (inl starved)) asks = rw (same, starved.0) (unchecked_at old new starved.1)
checked words result status old new same (inr (inr h)) asks =
    let ends : CommandEnds a_check result old new = subst (λ wish. CommandEnds wish result old new) (same_wish h.0 a_check words h.1 asks) h.2 in
    rw same (check_at result old new ends)

-- ---- a bench

bench_at : (seed count : ℕ) (result : Result (Unit {0}) Stop) (old new : Scene) → CommandEnds (a_bench seed count) result old new → BenchAt (status_at result) seed count old new
bench_at seed count (Ok done) old new h = record {
  done = λ e. h.0;
  output = λ e. absurd (omega (arith, e));
  only = inl refl;
  source = h.1;
  disk = h.2;
}
bench_at seed count (Err Sink) old new h = record {
  done = λ e. absurd (omega (arith, e));
  output = λ e. h.0;
  only = inr (inl refl);
  source = h.1;
  disk = h.2;
}
bench_at seed count (Err OutOfMemory) old new h = record {
  done = λ e. absurd (omega (arith, e));
  output = λ e. absurd (omega (arith, e));
  only = inr (inr refl);
  source = h.1;
  disk = h.2;
}
bench_at seed count (Err TooLong) old new h = absurd h.0
bench_at seed count (Err Source) old new h = absurd h.0
bench_at seed count (Err (BadLine number)) old new h = absurd h.0
bench_at seed count (Err Image) old new h = absurd h.0
bench_at seed count (Err (Length count' expected)) old new h = absurd h.0
bench_at seed count (Err Words) old new h = absurd h.0
bench_at seed count (Err Broken) old new h = absurd h.0

starved_at : (seed count : ℕ) (old new : Scene) → new ≡ old → BenchAt 6 seed count old new
starved_at seed count old new same = record {
  done = λ e. absurd (omega (arith, e));
  output = λ e. absurd (omega (arith, e));
  only = inr (inr refl);
  source = ap (λ s. s.source) same;
  disk = ap (λ s. s.disk) same;
}

pub benched : (words : List (List ℕ)) (result : Result (Unit {0}) Stop) (status : ℕ) (old new : Scene) (seed count : ℕ) → status ≡ status_at result → CarriesOut words result old new → AsksBench words seed count → BenchAt status seed count old new
benched words result status old new seed count same (inl h) asks = absurd (no_wish words (a_bench seed count) h.1 asks)
benched words result status old new seed count same (inr (inl starved)) asks = rw (same, starved.0) (starved_at seed count old new starved.1)
benched words result status old new seed count same (inr (inr h)) asks =
    let ends : CommandEnds (a_bench seed count) result old new = subst (λ wish. CommandEnds wish result old new) (same_wish h.0 (a_bench seed count) words h.1 asks) h.2 in
    rw same (bench_at seed count result old new ends)
