-- A generated schedule has at most 129 bytes a line.
use Rattle.std.proofs.Common.{ℕ, zero, suc, ◌+◌, ◌*◌, ◌%◌, ◌≤◌, List, [], ◌∷◌, ◌++◌, length, length-append, arith}
use Rattle.rand_pcg.specs.Lcg.{Lcg}
use Rattle.schedule_text.specs.declared.event.Event.{Event}
use Rattle.schedule_text.specs.declared.event.Event.TheVariants as events
use Rattle.schedule_text.specs.Event.{event_text}
use Rattle.bench_load.specs.Generated.{Words, words_of, after_words, event_by, lines_from, generator_of}
use Rattle.bench_load.specs.Text.{IsShort, line_bytes, bytes_of, EachIsBrief}
use Rattle.bench_load.proofs.Forms.{by_form}
use Rattle.bench_load.proofs.Short.{read_short, write_short, job_short, turn_short}

settle_short : IsShort events.Settle
settle_short = omega arith

-- the line of three words
line_short : (w : Words) → IsShort (event_by w)
line_short w =
    by_form IsShort w
    (write_short (w.place % 4096) (1 + w.size % 16) w.kind (omega arith) (omega arith))
    (read_short (w.place % 4096) (1 + w.size % 16) (omega arith) (omega arith))
    (turn_short (1 + w.size % 500) (omega arith))
    (job_short (1 + w.place % 8) (1 + w.size % 300) (omega arith) (omega arith))
    settle_short

-- one line more
line_more : (event : Event) (rest : List Event) (n : ℕ) → IsShort event → length (bytes_of rest) ≤ n → length (bytes_of (event ∷ rest)) ≤ 129 + n
line_more event rest n short few =
    let all = length-append (line_bytes event) (bytes_of rest) in
    let feed = length-append (event_text event) (10 ∷ []) in
    omega (arith, short, few)

lines_brief : (n : ℕ) (g : Lcg) (rest : List Event) (m : ℕ) → length (bytes_of rest) ≤ m → length (bytes_of (lines_from n g ++ rest)) ≤ 129 * n + m
lines_brief zero g rest m few = omega (arith, few)
lines_brief (suc n) g rest m few =
    let later = lines_brief n (after_words g) rest m few in
    let more = line_more (event_by (words_of g)) (lines_from n (after_words g) ++ rest) (129 * n + m) (line_short (words_of g)) later in
    omega (arith, more)

pub each_is_brief : EachIsBrief
each_is_brief seed count =
    let last = line_more events.Settle [] 0 settle_short (omega arith) in
    let lines = lines_brief count (generator_of seed) (events.Settle ∷ []) 129 (omega (arith, last)) in
    let whole = line_more events.Settle (lines_from count (generator_of seed) ++ events.Settle ∷ []) (129 * count + 129) settle_short lines in
    omega (arith, whole)
