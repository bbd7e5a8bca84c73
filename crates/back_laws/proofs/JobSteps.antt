-- What is left to a job of its work, step by step.
use Rattle.std.proofs.Common.{◌≡◌, ℕ, suc, ◌+◌, ◌-◌, ◌*◌, ◌<◌, ◌≤◌, Bool, true, false, if◌then◌else◌, List, [], ◌∷◌, ◌++◌, map, refl, sym, ap, ◌∙◌, arith}
use Rattle.std.specs.Prelude.{drop, ◌==◌, slice_set}
use Rattle.std.specs.List.{range_with_len}
use Rattle.std.proofs.lemmas.List.{append_assoc}
use Rattle.std.proofs.lemmas.Bool.Decides.{nat_tests}
use Rattle.blk_base.specs.declared.operation.Status.{Status}
use Rattle.blk_base.specs.declared.parts.Mapping.{Mapping}
use Rattle.blk_base.specs.declared.ask.BackAnswer.{BackAnswer}
use Rattle.blk_base.specs.declared.ask.BackAnswer.TheVariants as answer
use Rattle.blk_layout.specs.declared.segment.Segment.{Segment}
use Rattle.segment_list.specs.Segments.{length_of}
use Rattle.back_jobs.specs.declared.stage.JobStage.{JobStage}
use Rattle.back_jobs.specs.declared.stage.JobStage.TheVariants as stage
use Rattle.back_jobs.specs.Work.{Work, ask_at, ask_of, step_at, step_of, map_ask, mode_of, IsAnswer, sector_stage, next_sector, next_segment, counted, first_of, rest_of, last_of}
use Rattle.report_rules.specs.declared.step.Step.{Step}
use Rattle.report_rules.specs.declared.step.Step.TheVariants as steps
use Rattle.back_laws.specs.JobSteps.{IsNext, left_by}
use Rattle.back_laws.proofs.Jobs.{IsJob, IsPlaced}
use Rattle.back_laws.proofs.SegmentSteps.{sector, sectors, others}

-- after a sector of the present segment: its others, and the other segments
after_one : Bool → (disk within last : ℕ) → List Segment → List Step
after_one writes disk within last rest = sectors writes disk (within + 1) (last - within) ++ others writes (disk + (last - within)) rest

map_step : List Segment → Bool → List Step → List Step
map_step [] writes later = []
map_step (s ∷ rest) writes later = steps.Map s.gref (mode_of writes) ∷ later

-- the words of a sector from one on
reads : (within k : ℕ) → List Step
reads within k = map steps.Read (range_with_len (128 * within + k) (128 - k))

writes_from : (within k : ℕ) → List Step
writes_from within k = map steps.Write (range_with_len (128 * within + k) (128 - k))

-- the present segment from its present sector on, and what comes after it
present : Bool → (disk within last : ℕ) → List Segment → List Step
present writes disk within last rest = sector writes disk within ++ after_one writes (disk + 1) within last rest

to_do_at : JobStage → Work → List Step
to_do_at stage.Map t = map_step t.rest t.writes (present t.writes t.disk t.within (last_of t.rest) (rest_of t.rest))
to_do_at (stage.ReadWord m k) t = reads t.within k ++ (steps.DiskWrite t.disk ∷ after_one true (t.disk + 1) t.within (last_of t.rest) (rest_of t.rest))
to_do_at (stage.DiskWrite m) t = steps.DiskWrite t.disk ∷ after_one true (t.disk + 1) t.within (last_of t.rest) (rest_of t.rest)
to_do_at (stage.DiskRead m) t = steps.DiskRead t.disk ∷ (writes_from t.within 0 ++ after_one false (t.disk + 1) t.within (last_of t.rest) (rest_of t.rest))
to_do_at (stage.WriteWord m k) t = writes_from t.within k ++ after_one false t.disk t.within (last_of t.rest) (rest_of t.rest)
to_do_at (stage.Unmap m) t = others t.writes t.disk (rest_of t.rest)
to_do_at stage.Flush t = steps.Flush ∷ []
to_do_at (stage.Trim count) t = steps.Trim t.disk count ∷ []
to_do_at s t = []

pub to_do : Work → List Step
unfolding to_do_at
to_do t = to_do_at t.stage t

-- an ask is the next step, and what is left after its answer
record Goes (s : JobStage) (t : Work) (given : BackAnswer) : Type 0 where
  pub next : IsNext (ask_at s t) (to_do_at s t)
  pub left : to_do (step_at s t given) ≡ left_by (ask_at s t) given (to_do_at s t)

reads_next : (within k : ℕ) → k < 128 → reads within k ≡ steps.Read (128 * within + k) ∷ reads within (k + 1)
unfolding reads
reads_next within k small =
    let one : 128 - k ≡ suc (128 - (k + 1)) = omega arith in
    let on : 128 * within + k + 1 ≡ 128 * within + (k + 1) = omega arith in
    ap (λ (n : ℕ). map steps.Read (range_with_len (128 * within + k) n)) one
    ∙ ap (λ (n : ℕ). steps.Read (128 * within + k) ∷ map steps.Read (range_with_len n (128 - (k + 1)))) on

reads_none : (within : ℕ) → reads within 128 ≡ []
unfolding reads
reads_none within = refl

writes_next : (within k : ℕ) → k < 128 → writes_from within k ≡ steps.Write (128 * within + k) ∷ writes_from within (k + 1)
unfolding writes_from
writes_next within k small =
    let one : 128 - k ≡ suc (128 - (k + 1)) = omega arith in
    let on : 128 * within + k + 1 ≡ 128 * within + (k + 1) = omega arith in
    ap (λ (n : ℕ). map steps.Write (range_with_len (128 * within + k) n)) one
    ∙ ap (λ (n : ℕ). steps.Write (128 * within + k) ∷ map steps.Write (range_with_len n (128 - (k + 1)))) on

writes_none : (within : ℕ) → writes_from within 128 ≡ []
unfolding writes_from
writes_none within = refl

-- the next sector of the segment, or none
after_next : (writes : Bool) (disk within last : ℕ) (rest : List Segment) → within < last → after_one writes disk within last rest ≡ present writes disk (within + 1) last rest
unfolding after_one present sectors
after_next writes disk within last rest more =
    let one : last - within ≡ suc (last - (within + 1)) = omega arith in
    let far : disk + suc (last - (within + 1)) ≡ disk + 1 + (last - (within + 1)) = omega arith in
    ap (λ (n : ℕ). sectors writes disk (within + 1) n ++ others writes (disk + n) rest) one
    ∙ (append_assoc (sector writes disk (within + 1)) (sectors writes (disk + 1) (within + 1 + 1) (last - (within + 1))) (others writes (disk + suc (last - (within + 1))) rest)
    ∙ ap (λ (n : ℕ). sector writes disk (within + 1) ++ (sectors writes (disk + 1) (within + 1 + 1) (last - (within + 1)) ++ others writes n rest)) far)

after_last : (writes : Bool) (disk within last : ℕ) (rest : List Segment) → within ≡ last → after_one writes disk within last rest ≡ others writes disk rest
unfolding after_one sectors
after_last writes disk within last rest same =
    let none : last - within ≡ 0 = omega arith in
    let here : disk + 0 ≡ disk = omega arith in
    ap (λ (n : ℕ). sectors writes disk (within + 1) n ++ others writes (disk + n) rest) none ∙ ap (λ (n : ℕ). others writes n rest) here

-- a segment from its first sector on
segment_present : (writes : Bool) (disk : ℕ) (s : Segment) (rest : List Segment) → map_step (s ∷ rest) writes (present writes disk s.first s.last rest) ≡ others writes disk (s ∷ rest)
unfolding map_step present after_one others sectors
segment_present writes disk s rest =
    let one : length_of s ≡ suc (s.last - s.first) = omega arith in
    let far : disk + suc (s.last - s.first) ≡ disk + 1 + (s.last - s.first) = omega arith in
    sym (ap (λ (n : ℕ). steps.Map s.gref (mode_of writes) ∷ (sectors writes disk s.first n ++ others writes (disk + n) rest)) one
    ∙ ap (λ (l : List Step). steps.Map s.gref (mode_of writes) ∷ l)
    (append_assoc (sector writes disk s.first) (sectors writes (disk + 1) (s.first + 1) (s.last - s.first)) (others writes (disk + suc (s.last - s.first)) rest)
    ∙ ap (λ (n : ℕ). sector writes disk s.first ++ (sectors writes (disk + 1) (s.first + 1) (s.last - s.first) ++ others writes n rest)) far))

-- a sector is begun
sector_begun : (b : Bool) (t : Work) (m : Mapping) → to_do_at (sector_stage b m) t ≡ present b t.disk t.within (last_of t.rest) (rest_of t.rest)
unfolding to_do_at present reads writes_from
sector_begun true t m =
    let here : 128 * t.within + 0 ≡ 128 * t.within = omega arith in
    let later : List Step = after_one true (t.disk + 1) t.within (last_of t.rest) (rest_of t.rest) in
    ap (λ (n : ℕ). map steps.Read (range_with_len n 128) ++ (steps.DiskWrite t.disk ∷ later)) here
    ∙ sym (append_assoc (map steps.Read (range_with_len (128 * t.within) 128)) (steps.DiskWrite t.disk ∷ []) later)
sector_begun false t m =
    let here : 128 * t.within + 0 ≡ 128 * t.within = omega arith in
    let later : List Step = after_one false (t.disk + 1) t.within (last_of t.rest) (rest_of t.rest) in
    ap (λ (n : ℕ). steps.DiskRead t.disk ∷ (map steps.Write (range_with_len n 128) ++ later)) here

-- the stage of a record decides
staged : (t : Work) (s : JobStage) → to_do (record t { stage = s }) ≡ to_do_at s t
unfolding to_do to_do_at
staged t stage.Map = refl
staged t s = refl

-- a sector was moved
sector_moved : (t : Work) (m : Mapping) → t.within ≤ last_of t.rest → to_do (next_sector t m) ≡ after_one t.writes t.disk t.within (last_of t.rest) (rest_of t.rest)
unfolding to_do to_do_at
sector_moved t m inside = by_test (t.within == last_of t.rest) refl
  where
    below : (a b : ℕ) → a ≤ b → (a == b) ≡ false → a < b
    below a b le other = grind (arith, nat_tests)

    next : Work
    next = record t { within = t.within + 1 }

    by_test : (b : Bool) → (t.within == last_of t.rest) ≡ b → to_do (if b then record t { stage = stage.Unmap m } else record t { within = t.within + 1; stage = sector_stage t.writes m }) ≡ after_one t.writes t.disk t.within (last_of t.rest) (rest_of t.rest)
    by_test true e = sym (after_last t.writes t.disk t.within (last_of t.rest) (rest_of t.rest) (grind (arith, nat_tests)))
    by_test false e = staged next (sector_stage t.writes m) ∙ (sector_begun t.writes next m ∙ sym (after_next t.writes t.disk t.within (last_of t.rest) (rest_of t.rest) (below t.within (last_of t.rest) inside e)))

-- the frame of a segment is mapped, or that is refused
map_next : (rest : List Segment) (t : Work) (given : BackAnswer) (later : List Step) → IsAnswer (map_ask rest t.writes) given → IsNext (map_ask rest t.writes) (map_step rest t.writes later)
unfolding map_step
map_next [] t given later h = absurd h
map_next (s ∷ rest) t given later h = (refl, refl)

map_left : (rest : List Segment) (t : Work) (given : BackAnswer) → IsAnswer (map_ask rest t.writes) given
    → to_do (step_at stage.Map t given) ≡ left_by (map_ask rest t.writes) given (map_step rest t.writes (present t.writes t.disk t.within (last_of t.rest) (rest_of t.rest)))
unfolding map_step to_do to_do_at
map_left [] t given h = absurd h
map_left (s ∷ rest) t (answer.Mapped m) h = staged t (sector_stage t.writes m) ∙ sector_begun t.writes t m
map_left (s ∷ rest) t (answer.MapRefused status) h = refl
map_left (s ∷ rest) t given h = absurd h

-- a word of a sector is read, or written
read_goes : (t : Work) (m : Mapping) (k word : ℕ) → k < 128 → t.writes ≡ true → Goes (stage.ReadWord m k) t (answer.Word word)
unfolding to_do to_do_at
read_goes t m k word small is = record { next = rw first (omega arith); left = by_test (k == 127) refl }
  where
    later : List Step
    later = steps.DiskWrite t.disk ∷ after_one true (t.disk + 1) t.within (last_of t.rest) (rest_of t.rest)

    first : reads t.within k ≡ steps.Read (128 * t.within + k) ∷ reads t.within (k + 1)
    first = reads_next t.within k small

    by_test : (b : Bool) → (k == 127) ≡ b → to_do (record t { words = slice_set t.words k word; stage = if b then stage.DiskWrite m else stage.ReadWord m (k + 1) }) ≡ drop 1 (reads t.within k ++ later)
    by_test true e =
        let end : k + 1 ≡ 128 = grind (arith, nat_tests) in
        sym (ap (λ (l : List Step). drop 1 (l ++ later)) first ∙ (ap (λ (n : ℕ). reads t.within n ++ later) end ∙ ap (λ (l : List Step). l ++ later) (reads_none t.within)))
    by_test false e = sym (ap (λ (l : List Step). drop 1 (l ++ later)) first)

write_goes : (t : Work) (m : Mapping) (k : ℕ) → k < 128 → t.writes ≡ false → t.within ≤ last_of t.rest → Goes (stage.WriteWord m k) t answer.Done
unfolding to_do to_do_at
write_goes t m k small is inside = record { next = rw first (omega arith); left = by_test (k == 127) refl }
  where
    later : List Step
    later = after_one false t.disk t.within (last_of t.rest) (rest_of t.rest)

    first : writes_from t.within k ≡ steps.Write (128 * t.within + k) ∷ writes_from t.within (k + 1)
    first = writes_next t.within k small

    by_test : (b : Bool) → (k == 127) ≡ b → to_do (if b then next_sector t m else record t { stage = stage.WriteWord m (k + 1) }) ≡ drop 1 (writes_from t.within k ++ later)
    by_test true e =
        let end : k + 1 ≡ 128 = grind (arith, nat_tests) in
        sector_moved t m inside ∙ (ap (λ (b : Bool). after_one b t.disk t.within (last_of t.rest) (rest_of t.rest)) is
        ∙ sym (ap (λ (l : List Step). drop 1 (l ++ later)) first ∙ (ap (λ (n : ℕ). writes_from t.within n ++ later) end ∙ ap (λ (l : List Step). l ++ later) (writes_none t.within))))
    by_test false e = sym (ap (λ (l : List Step). drop 1 (l ++ later)) first)

segment_left : (t : Work) (rest : List Segment) → to_do (next_segment t rest) ≡ others t.writes t.disk rest
unfolding to_do to_do_at others
segment_left t [] = refl
segment_left t (s ∷ rest) = segment_present t.writes t.disk s rest

-- the stages of a job that copies no segments
abbrev pub is_moving : JobStage → Bool
is_moving stage.MapPage = false
is_moving (stage.PageReference m) = false
is_moving (stage.PageSectors m gref) = false
is_moving (stage.UnmapPage m) = false
is_moving s = true

goes_at : (s : JobStage) (t : Work) (given : BackAnswer) → is_moving s ≡ true → IsPlaced s t → IsAnswer (ask_at s t) given → Goes s t given
unfolding to_do to_do_at
goes_at stage.Map t given moving p h = record { next = map_next t.rest t given _ h; left = map_left t.rest t given h }
goes_at (stage.ReadWord m k) t (answer.Word word) moving p h = read_goes t m k word p.0 p.2.1
goes_at (stage.DiskWrite m) t answer.Done moving p h = record { next = refl; left = sector_moved (counted t) m p.0 ∙ ap (λ (b : Bool). after_one b (t.disk + 1) t.within (last_of t.rest) (rest_of t.rest)) p.1.1 }
goes_at (stage.DiskWrite m) t answer.DiskFailed moving p h = record { next = refl; left = refl }
goes_at (stage.DiskRead m) t (answer.Sector words) moving p h = record { next = refl; left = refl }
goes_at (stage.DiskRead m) t answer.DiskFailed moving p h = record { next = refl; left = refl }
goes_at (stage.WriteWord m k) t answer.Done moving p h = write_goes t m k p.0 p.2.1 p.1
goes_at (stage.Unmap m) t answer.Done moving p h = record { next = tt; left = segment_left t (rest_of t.rest) }
goes_at (stage.Abort m) t answer.Done moving p h = record { next = tt; left = refl }
goes_at stage.Flush t answer.Done moving p h = record { next = tt; left = refl }
goes_at stage.Flush t answer.DiskFailed moving p h = record { next = tt; left = refl }
goes_at (stage.Trim count) t answer.Done moving p h = record { next = (refl, refl); left = refl }
goes_at (stage.Trim count) t answer.DiskFailed moving p h = record { next = (refl, refl); left = refl }
goes_at stage.MapPage t given moving p h = absurd (cc)
goes_at (stage.PageReference m) t given moving p h = absurd (cc)
goes_at (stage.PageSectors m gref) t given moving p h = absurd (cc)
goes_at (stage.UnmapPage m) t given moving p h = absurd (cc)
goes_at s t given moving p h = absurd h

-- what the segments of a job at its beginning are
pub segments_to_do : (t : Work) (segments : List Segment) → t.stage ≡ stage.Map → t.rest ≡ segments → t.within ≡ first_of segments → to_do t ≡ others t.writes t.disk segments
unfolding to_do to_do_at others map_step
segments_to_do t [] at rest within = rw (at, rest) refl
segments_to_do t (s ∷ rest) at is within = rw (at, is, within) (segment_present t.writes t.disk s rest)

pub done_to_do : (t : Work) (status : Status) → t.stage ≡ stage.Done status → to_do t ≡ []
unfolding to_do to_do_at
done_to_do t status at = rw at refl

pub flush_to_do : (t : Work) → t.stage ≡ stage.Flush → to_do t ≡ steps.Flush ∷ []
unfolding to_do to_do_at
flush_to_do t at = rw at refl

pub trim_to_do : (t : Work) (count : ℕ) → t.stage ≡ stage.Trim count → to_do t ≡ steps.Trim t.disk count ∷ []
unfolding to_do to_do_at
trim_to_do t count at = rw at refl

pub goes : (t : Work) (given : BackAnswer) → is_moving t.stage ≡ true → IsJob t → IsAnswer (ask_of t) given → IsNext (ask_of t) (to_do t) × (to_do (step_of t given) ≡ left_by (ask_of t) given (to_do t))
unfolding to_do
goes t given moving j h = let g = goes_at t.stage t given moving j.placed h in (g.next, g.left)
