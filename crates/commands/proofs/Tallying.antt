-- The counts of a run of the generated schedule, over plain variables.
use Rattle.std.proofs.Common.{◌≡◌, ℕ, zero, suc, ◌<◌, ◌≤◌, ◌^◌, ◌-◌, ◌⊎◌, true, List, [], ◌∷◌, ◌++◌, Option, Some, Ok, Err, inl, inr, length, refl, sym, ap, ◌∙◌, subst, arith}
use Rattle.std.specs.Prelude.{fold}
use Rattle.std.proofs.lemmas.List.{length-replicate}
use Rattle.blk_io.specs.Outside.{Rose, SourceSeen}
use Rattle.blk_io.specs.Disk.{DiskSeen, HasLength, IsAttached, attached_of, zero_sector}
use Rattle.image_disk.specs.Image.{Image, image_seen}
use Rattle.schedule_text.specs.declared.line.Detail.TheVariants.{Lines}
use Rattle.schedule_text.specs.declared.recorder.Tally.{Tally}
use Rattle.schedule_text.specs.declared.event.Event.{Event}
use Rattle.schedule_text.specs.declared.event.Event.TheVariants.{Settle}
use Rattle.schedule_text.specs.declared.line.Line.{Line}
use Rattle.schedule_text.specs.Recorder.{Told, counted}
use Rattle.schedule_text.specs.Recorders.{counting}
use Rattle.machine_pipeline.specs.Submissions.{jobs_of}
use Rattle.plain_disk.specs.Echo.{Echoes}
use Rattle.plain_disk.specs.Honest.{IsHonest}
use Rattle.report_laws.specs.Settled.{IsSettled}
use Rattle.schedule_run.specs.Lawful.{IsLawful, IsLawfulRun, RunsLawfully}
use Rattle.schedule_run.specs.Outcome.{outside, content_of, Runs}
use Rattle.schedule_run.specs.declared.schedule.RunStop.{RunStop}
use Rattle.schedule_run.specs.declared.schedule.RunStop.TheVariants as run
use Rattle.rand_pcg.specs.Lcg.{Lcg}
use Rattle.bench_load.specs.Generated.{Words, words_of, after_words, event_by, lines_from, generator_of, schedule_of}
use Rattle.bench_load.specs.Text.{schedule_bytes}
use Rattle.bench_load.proofs.Forms.{by_form}
use Rattle.bench_load.proofs.Brief.{each_is_brief}
use Rattle.commands.specs.declared.status.Stop.{Stop}
use Rattle.commands.specs.Scene.{options_of, no_options, bytes_limit}
use Rattle.commands.specs.Ending.{run_stop}
use Rattle.answer_laws.specs.Counts.{no_counts, counts_of, AreAllAnswered}
use Rattle.answer_laws.specs.Honest.{is_honest_event, is_honest_schedule}
use Rattle.answer_laws.proofs.Honest.{as_honest}
use Rattle.answer_laws.proofs.Counted.{counts_them_all, settled_counts}
use Rattle.legal_laws.proofs.Legal.{honest_whole}
use Rattle.commands.specs.Bench.{zeros, IsZeroDisk, IsTallyOf, Tallies}
use Rattle.commands.proofs.Runs.{run_left}
use Rattle.commands.proofs.GeneratedLines.{exactly, no_bad_line}

-- a source that never fails, with these bytes left
abbrev pub giving : List ℕ → SourceSeen
giving bytes = record { left = Some bytes; faults = 0 }

some_tally : (a b : Tally) → Some a ≡ Some b → a ≡ b
some_tally a b e = cc

-- a generated schedule has no hostile line
line_honest : (w : Words) → is_honest_event (event_by w) ≡ true
line_honest w = by_form (λ (e : Event). is_honest_event e ≡ true) w refl refl refl refl refl

lines_honest : (n : ℕ) (g : Lcg) → is_honest_schedule (lines_from n g ++ Settle ∷ []) ≡ true
lines_honest zero g = refl
lines_honest (suc n) g = rw (line_honest (words_of g)) (lines_honest n (after_words g))

generated_honest : (seed count : ℕ) → is_honest_schedule (schedule_of seed count) ≡ true
generated_honest seed count = lines_honest count (generator_of seed)

-- so all is answered when it ends
generated_answered : (seed count : ℕ) (left : Option (List (List ℕ))) (report : List Line) → Echoes (options_of no_options 4096) Lines (schedule_of seed count) report → IsLawful (options_of no_options 4096) Lines (jobs_of (schedule_of seed count)) (Some zeros) left report → AreAllAnswered (counts_of report)
generated_answered seed count left report echo lawful =
    let honest : IsHonest report = as_honest (options_of no_options 4096) Lines (schedule_of seed count) report echo ∙ generated_honest seed count in
    let served = lawful.requests honest tt in
    settled_counts (options_of no_options 4096) Lines (Settle ∷ lines_from count (generator_of seed)) report echo served.once served.quiet
    (subst IsSettled (honest_whole report honest) lawful.so_far.settled)

tallied : (seed count : ℕ) (disk disk' : DiskSeen) (tally : Tally) → disk.content ≡ Some zeros → IsLawfulRun (options_of no_options 4096) bytes_limit (Some (schedule_bytes seed count)) (outside disk (counting no_counts)) (outside disk' (counting tally)) → IsTallyOf (schedule_of seed count) tally
tallied seed count disk disk' tally content h =
    let same : h.events ≡ schedule_of seed count = exactly bytes_limit seed count h.events h.schedule in
    let echo = subst (λ es. Echoes (options_of no_options 4096) Lines es h.report) same h.echo in
    let lawful =
    subst (λ es. IsLawful (options_of no_options 4096) Lines (jobs_of es) (Some zeros) disk'.content h.report) same
    (subst (λ c. IsLawful (options_of no_options 4096) Lines (jobs_of h.events) c disk'.content h.report) content h.lawful) in
    let counts : tally ≡ counts_of h.report = some_tally tally (fold counted no_counts h.report) (ap (λ (t : Told). t.tally) h.told) ∙ counts_them_all h.report in
    record {
      report = h.report;
      left = disk'.content;
      echo = echo;
      lawful = lawful;
      counts = counts;
      all_answered = subst AreAllAnswered (sym counts) (generated_answered seed count disk'.content h.report echo lawful);
    }

same_content : (a b : List (List ℕ)) → Some a ≡ Some b → a ≡ b
same_content a b e = cc

-- a disk of zeros was attached
pub zero_disk : (name : List ℕ) (disk disk' : Image) (sectors : ℕ) → disk.content ≡ zeros → IsAttached name true sectors (image_seen disk) (image_seen disk') → IsZeroDisk disk'
zero_disk name disk disk' sectors content h =
    let long : length disk.content ≡ sectors = h.sized in
    let all : sectors ≡ 4096 = sym long ∙ (ap length content ∙ length-replicate 4096 zero_sector) in
    record {
      attached = ap attached_of h.attached ∙ ap Some all;
      content = same_content disk'.content disk.content (ap (λ (d : DiskSeen). d.content) h.attached) ∙ content;
    }

never_rose : Rose 0 0 → ⊥
never_rose h = at h.above
  where
    at : ((0 < 0) ⊎ (0 ≡ 2 ^ 64 - 1)) → ⊥
    at (inl less) = omega arith
    at (inr most) = omega arith

stops : (seed count : ℕ) (why : RunStop) (said : Stop) (rest : List ℕ) (disk disk' : DiskSeen) (tally : Tally) → said ≡ run_stop why → Runs (options_of no_options 4096) bytes_limit (Err why) (giving (schedule_bytes seed count)) (giving rest) (outside disk (counting no_counts)) (outside disk' (counting tally)) → count ≤ 100000 → Tallies seed count (Err said)
stops seed count (run.BadLine n) said rest disk disk' tally is h few = absurd (no_bad_line bytes_limit seed count n h.stands.1.0 h.stands.1.1)
stops seed count run.Source said rest disk disk' tally is h few = absurd (never_rose h.stands.0)
stops seed count run.TooLong said rest disk disk' tally is h few =
    let reached : bytes_limit ≤ length (schedule_bytes seed count) = h.stands.1.1.reached in
    absurd (omega (arith, each_is_brief seed count))
stops seed count run.Sink said rest disk disk' tally is h few =
    absurd (never_rose (run_left (options_of no_options 4096) bytes_limit (Err run.Sink) (giving (schedule_bytes seed count)) (giving rest) (outside disk (counting no_counts)) (outside disk' (counting tally)) h).sink)
stops seed count run.OutOfMemory said rest disk disk' tally is h few = rw is tt

-- a run that was done
pub counts_told : (seed count : ℕ) (bytes : List ℕ) (disk disk' : DiskSeen) (begun tally : Tally) (rest : SourceSeen) → bytes ≡ schedule_bytes seed count → begun ≡ no_counts → disk.content ≡ Some zeros → (HasLength (content_of (outside disk (counting begun))) 4096 → RunsLawfully (options_of no_options 4096) bytes_limit (Ok tt) (giving bytes) rest (outside disk (counting begun)) (outside disk' (counting tally))) → IsTallyOf (schedule_of seed count) tally
counts_told seed count bytes disk disk' begun tally rest all none content lawful =
    let long : HasLength disk.content 4096 = subst (λ c. HasLength c 4096) (sym content) (length-replicate 4096 zero_sector) in
    let told : IsLawfulRun (options_of no_options 4096) bytes_limit (Some bytes) (outside disk (counting begun)) (outside disk' (counting tally)) = lawful long in
    tallied seed count disk disk' tally content
    (subst (λ b. IsLawfulRun (options_of no_options 4096) bytes_limit (Some b) (outside disk (counting no_counts)) (outside disk' (counting tally))) all
    (subst (λ t. IsLawfulRun (options_of no_options 4096) bytes_limit (Some bytes) (outside disk (counting t)) (outside disk' (counting tally))) none told))

-- a run that stopped
pub stopped : (seed count : ℕ) (bytes rest : List ℕ) (disk disk' : DiskSeen) (begun tally : Tally) (why : RunStop) (said : Stop) → bytes ≡ schedule_bytes seed count → begun ≡ no_counts → said ≡ run_stop why → Runs (options_of no_options 4096) bytes_limit (Err why) (giving bytes) (giving rest) (outside disk (counting begun)) (outside disk' (counting tally)) → count ≤ 100000 → Tallies seed count (Err said)
stopped seed count bytes rest disk disk' begun tally why said all none is h few =
    stops seed count why said rest disk disk' tally is
    (subst (λ b. Runs (options_of no_options 4096) bytes_limit (Err why) (giving b) (giving rest) (outside disk (counting no_counts)) (outside disk' (counting tally))) all
    (subst (λ t. Runs (options_of no_options 4096) bytes_limit (Err why) (giving bytes) (giving rest) (outside disk (counting t)) (outside disk' (counting tally))) none h)) few
