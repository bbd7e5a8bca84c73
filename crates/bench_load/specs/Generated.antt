-- The generated schedule of a seed and a count: `settle`, so many lines of three random words each, and `settle`. Its lines ask for reads and writes (`io/blkif.h`), for rounds, for moves of a job, and for settling.
use Rattle.std.specs.Prelude.{ℕ, zero, suc, ◌+◌, ◌%◌, ◌==◌, nat_le, List, [], ◌∷◌, ◌++◌, if◌then◌else◌}
use Rattle.rand_pcg.specs.Lcg.{Lcg, started, increment_of}
use Rattle.rand_pcg.specs.Pcg.{multiplier_64, pcg32}
use Rattle.blk_base.specs.declared.config.Submission.{Submission}
use Rattle.blk_base.specs.declared.config.Submission.TheVariants as submissions
use Rattle.schedule_text.specs.declared.event.Event.{Event}
use Rattle.schedule_text.specs.declared.event.Event.TheVariants as events

-- the generator of a seed, of stream 1
abbrev pub generator_of : ℕ → Lcg
generator_of seed = started 64 multiplier_64 seed (increment_of 64 1)

-- the three words of a line, in the order in which they are drawn
pub record Words : Type 0 where
  pub kind : ℕ
  pub place : ℕ
  pub size : ℕ

-- the next three words of a generator
abbrev pub words_of : Lcg → Words
words_of g =
    record { kind = (pcg32 g).0; place = (pcg32 (pcg32 g).1).0; size = (pcg32 (pcg32 (pcg32 g).1).1).0 }

-- the generator after three words
abbrev pub after_words : Lcg → Lcg
after_words g = (pcg32 (pcg32 (pcg32 g).1).1).1

-- the first sector of a request, and how many it has
abbrev pub sector_by : ℕ → ℕ
sector_by place = place % 4096

abbrev pub count_by : ℕ → ℕ
count_by size = 1 + size % 16

abbrev pub write_by : Words → Submission
write_by w = submissions.Write (sector_by w.place) (count_by w.size) w.kind

abbrev pub read_by : Words → Submission
read_by w = submissions.Read (sector_by w.place) (count_by w.size)

-- the line that three words say, by the last digit of the first
abbrev pub event_by : Words → Event
event_by w =
    if nat_le (w.kind % 10) 3 then events.Submit (write_by w)
    else (if nat_le (w.kind % 10) 6 then events.Submit (read_by w)
    else (if w.kind % 10 == 7 then events.Turn (1 + w.size % 500)
    else (if w.kind % 10 == 8 then events.Job (1 + w.place % 8) (1 + w.size % 300)
    else events.Settle)))

-- so many lines, from this generator on
abbrev pub lines_from : ℕ → Lcg → List Event
lines_from zero g = []
lines_from (suc n) g = event_by (words_of g) ∷ lines_from n (after_words g)

-- the generated schedule
abbrev pub schedule_of : ℕ → ℕ → List Event
schedule_of seed count = events.Settle ∷ (lines_from count (generator_of seed) ++ events.Settle ∷ [])
