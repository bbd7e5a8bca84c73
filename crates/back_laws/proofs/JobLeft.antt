-- Each answer to a job lowers what is left to it.
use Rattle.std.proofs.Common.{◌≡◌, ℕ, ◌+◌, ◌*◌, ◌<◌, ◌≤◌, Bool, true, false, if◌then◌else◌, List, [], ◌∷◌, ◌++◌, length, drop, refl, ap, arith}
use Rattle.std.specs.Prelude.{◌==◌, ◌||◌, ◌&&◌, not, slice_set, slice_index_or, position, take, Some}
use Rattle.std.specs.List.{list_any}
use Rattle.std.proofs.lemmas.Bool.Decides.{nat_tests}
use Rattle.std.proofs.lemmas.Grind.{common_steps}
use Rattle.blk_base.specs.declared.parts.Mapping.{Mapping}
use Rattle.blk_base.specs.declared.ask.BackAnswer.{BackAnswer}
use Rattle.blk_base.specs.declared.ask.BackAnswer.TheVariants.{Done, Word, Mapped, MapRefused, Sector, DiskFailed}
use Rattle.blk_base.specs.declared.operation.Status.TheVariants.{Error}
use Rattle.blk_layout.specs.declared.segment.Segment.{Segment}
use Rattle.blk_layout.specs.Entry.{segment_of}
use Rattle.segment_list.specs.Segments.{fails_test}
use Rattle.back_jobs.specs.declared.stage.JobStage.{JobStage}
use Rattle.back_jobs.specs.declared.stage.JobStage.TheVariants as stage
use Rattle.back_jobs.specs.Work as work
use Rattle.back_jobs.specs.Work.{Work, ask_at, step_at, IsAnswer, page_ask, map_ask, rest_of, last_of, first_of, next_sector, next_segment, counted, copied, judged, passes, page_done, frameless, moving, paging}
use Rattle.blk_layout.specs.declared.request.RawRequest.{RawRequest}
use Rattle.blk_layout.specs.declared.request.RawRequest.TheVariants.{Discard}
use Rattle.back_jobs.specs.Jobs.{is_done, is_ordered, is_barrier, holds_barriers, holds_all, is_fresh_at, waits_at}
use Rattle.std.proofs.lemmas.Bool.{true≢false}
use Rattle.std.proofs.lemmas.List.{get_or-take, length-take}
use Rattle.std.proofs.lemmas.List.Elements.{All-from_get_or}
use Rattle.std.proofs.lemmas.List.Folds.{list_any_none}
use Rattle.std.proofs.lemmas.List.Quantifiers.{position-Some}
use Rattle.std.proofs.lemmas.List.Sums.{sum_by-set}
use Rattle.back_jobs.specs.Sound.{IsPlaced, IsUnderWay, IsLeft}
use Rattle.back_laws.specs.JobLeft.{left_of, all_left, left_at, segments_left, after_sector, after_page}

abbrev pub Lowers : JobStage → Work → BackAnswer → Type 0
Lowers s t a = left_of (step_at s t a) < left_at s t

either_below : (b : Bool) (t u : Work) (n : ℕ) → left_of t < n → left_of u < n → left_of (if b then t else u) < n
either_below true t u n p q = p
either_below false t u n p q = q

-- an indirect page is mapped
map_page : (pages : List ℕ) (t : Work) (a : BackAnswer) → t.pages ≡ pages → IsAnswer (page_ask pages) a → Lowers stage.MapPage t a
map_page [] t a e ok = absurd ok
map_page (g ∷ ps) t (Mapped m) e ok =
    let all = ap (λ (l : List ℕ). length l) e in
    let rest = ap (λ (l : List ℕ). length (drop 1 l)) e in
    omega arith
map_page (g ∷ ps) t (MapRefused status) e ok =
    let all = ap (λ (l : List ℕ). length l) e in
    omega arith
map_page (g ∷ ps) t a e ok = absurd ok

-- a segment is copied
copied_lowers : (t : Work) (m : Mapping) (s : Segment) → length t.rest < t.named → left_of (copied t m (t.rest ++ s ∷ [])) < after_page t
copied_lowers t m s few = by_test (work.is_copied_out t (t.rest ++ s ∷ []))
  where
    longer : length (t.rest ++ s ∷ []) ≡ length t.rest + 1
    longer = grind (arith, common_steps)

    by_test : (b : Bool) → left_of (record t { rest = t.rest ++ s ∷ []; stage = if b then stage.UnmapPage m else stage.PageReference m }) < after_page t
    by_test true = omega (arith, longer)
    by_test false = omega (arith, longer)

-- segments that pass the test have eight sectors at most
sound_left : (rest : List Segment) → list_any fails_test rest ≡ false → segments_left rest ≤ 1034 * length rest
sound_left [] e = omega arith
sound_left (s ∷ rest) e = by_test (fails_test s) (sound_left rest) refl e
  where
    by_test : (b : Bool) → (list_any fails_test rest ≡ false → segments_left rest ≤ 1034 * length rest) → fails_test s ≡ b → (b || list_any fails_test rest) ≡ false → segments_left (s ∷ rest) ≤ 1034 * length (s ∷ rest)
    by_test true others is e = grind (arith, nat_tests)
    by_test false others is e =
        let below : s.last ≤ 7 = grind (arith, nat_tests) in
        omega (arith, others e)

-- and each of them has a sector
passed_first : (rest : List Segment) → list_any fails_test rest ≡ false → first_of rest ≤ last_of rest
passed_first [] e = omega arith
passed_first (s ∷ rest) e = by_test (fails_test s) refl e
  where
    by_test : (b : Bool) → fails_test s ≡ b → (b || list_any fails_test rest) ≡ false → s.first ≤ s.last
    by_test true is e = grind (arith, nat_tests)
    by_test false is e = grind (arith, nat_tests)

-- the first segment is begun
begun_first : (t : Work) (rest : List Segment) → 1 ≤ length rest → first_of rest ≤ last_of rest → left_of (record t { rest = rest; within = first_of rest; stage = stage.Map }) ≡ segments_left rest
begun_first t [] some placed = absurd (omega arith)
begun_first t (s ∷ rest) some placed = omega arith

-- all segments are copied: the first is begun, or the job is done
judged_left : (t : Work) → 1 ≤ length t.rest → left_of (judged t) ≤ 1034 * length t.rest
judged_left t some = by_test (list_any fails_test t.rest) refl
  where
    by_size : (b : Bool) → list_any fails_test t.rest ≡ false → left_of (if b then record t { within = first_of t.rest; stage = stage.Map } else record t { stage = stage.Done Error }) ≤ 1034 * length t.rest
    by_size true e = omega (arith, begun_first t t.rest some (passed_first t.rest e), sound_left t.rest e)
    by_size false e = omega arith

    by_test : (f : Bool) → list_any fails_test t.rest ≡ f → left_of (judged t) ≤ 1034 * length t.rest
    by_test true e = rw e (omega arith)
    by_test false e = by_size (passes t) e

page_done_left : (t : Work) → 1 ≤ t.named → left_of (page_done t) < 1 + after_page t
page_done_left t some = by_test (length t.rest == t.named) refl
  where
    by_test : (b : Bool) → (length t.rest == t.named) ≡ b → left_of (if b then judged t else record t { pages = drop 1 t.pages; stage = stage.MapPage }) < 1 + after_page t
    by_test true e =
        let all : length t.rest ≡ t.named = grind (arith, nat_tests) in
        omega (arith, judged_left t (omega (arith, all)))
    by_test false e = omega arith

-- a sector is begun, or the segment is done
pub sector_left : (t : Work) (m : Mapping) → left_of (record t { stage = work.sector_stage t.writes m }) ≡ 129 + after_sector t
sector_left t m = by_way t.writes
  where
    by_way : (b : Bool) → left_of (record t { stage = work.sector_stage b m }) ≡ 129 + after_sector t
    by_way true = omega arith
    by_way false = refl

pub next_left : (t : Work) (m : Mapping) → t.within ≤ last_of t.rest → left_of (next_sector t m) ≤ after_sector t
next_left t m within = by_test (t.within == last_of t.rest) refl
  where
    next : Work
    next = record t { within = t.within + 1 }

    by_test : (b : Bool) → (t.within == last_of t.rest) ≡ b → left_of (if b then record t { stage = stage.Unmap m } else record t { within = t.within + 1; stage = work.sector_stage t.writes m }) ≤ after_sector t
    by_test true e = omega arith
    by_test false e =
        let other : t.within < last_of t.rest = grind (arith, nat_tests) in
        omega (arith, sector_left next m, other)

under_way : (t : Work) (ahead : ℕ) (rest : List Segment) → IsUnderWay t ahead rest → t.within ≤ last_of rest
under_way t ahead [] u = absurd u
under_way t ahead (s ∷ rest) u = u.1

-- the present segment is unmapped: the next is begun
segment_lowers : (t : Work) (rest : List Segment) → IsLeft t rest → left_of (next_segment t (rest_of rest)) < 1 + segments_left (rest_of rest)
segment_lowers t [] u = absurd u
segment_lowers t (s ∷ []) u = omega arith
segment_lowers t (s ∷ r ∷ rest) u = omega (arith, begun_first t (r ∷ rest) (omega arith) (u.1.0).nonempty)

-- a word is read, or written
pub read_lowers : (t : Work) (m : Mapping) (k word : ℕ) → k < 128 → Lowers (stage.ReadWord m k) t (Word word)
read_lowers t m k word placed = by_test (k == 127) refl
  where
    by_test : (b : Bool) → (k == 127) ≡ b → left_of (record t { words = slice_set t.words k word; stage = if b then stage.DiskWrite m else stage.ReadWord m (k + 1) }) < left_at (stage.ReadWord m k) t
    by_test true e = omega arith
    by_test false e = omega arith

pub write_lowers : (t : Work) (m : Mapping) (k : ℕ) → k < 128 → t.within ≤ last_of t.rest → Lowers (stage.WriteWord m k) t Done
write_lowers t m k placed within = by_test (k == 127) refl
  where
    by_test : (b : Bool) → (k == 127) ≡ b → left_of (if b then next_sector t m else record t { stage = stage.WriteWord m (k + 1) }) < left_at (stage.WriteWord m k) t
    by_test true e = omega (arith, next_left t m within)
    by_test false e = omega arith

pub map_lowers : (rest : List Segment) (t : Work) (a : BackAnswer) → IsAnswer (map_ask rest t.writes) a → Lowers stage.Map t a
map_lowers [] t a ok = absurd ok
map_lowers (s ∷ rest) t (Mapped m) ok = omega (arith, sector_left t m)
map_lowers (s ∷ rest) t (MapRefused status) ok = omega arith
map_lowers (s ∷ rest) t a ok = absurd ok

pub lowers : (s : JobStage) (t : Work) (a : BackAnswer) → IsPlaced s t → IsAnswer (ask_at s t) a → Lowers s t a
lowers stage.MapPage t a placed ok = map_page t.pages t a refl ok
lowers (stage.PageReference m) t (Word word) placed ok = omega arith
lowers (stage.PageSectors m gref) t (Word word) placed ok = copied_lowers t m (segment_of gref word) placed.0.0
lowers (stage.UnmapPage m) t Done placed ok = page_done_left t placed.0
lowers stage.Map t a placed ok = map_lowers t.rest t a ok
lowers (stage.ReadWord m k) t (Word word) placed ok = read_lowers t m k word placed.0
lowers (stage.DiskWrite m) t Done placed ok = omega (arith, next_left (counted t) m (under_way t 1 t.rest placed.0))
lowers (stage.DiskWrite m) t DiskFailed placed ok = omega arith
lowers (stage.DiskRead m) t (Sector words) placed ok = omega arith
lowers (stage.DiskRead m) t DiskFailed placed ok = omega arith
lowers (stage.WriteWord m k) t Done placed ok = write_lowers t m k placed.0 (under_way t 0 t.rest placed.1)
lowers (stage.Unmap m) t Done placed ok = segment_lowers t t.rest placed.0
lowers (stage.Abort m) t Done placed ok = omega arith
lowers stage.Flush t Done placed ok = omega arith
lowers stage.Flush t DiskFailed placed ok = omega arith
lowers (stage.Trim count) t Done placed ok = omega arith
lowers (stage.Trim count) t DiskFailed placed ok = omega arith
lowers s t a placed ok = absurd ok

-- Of the jobs that aren't done the first is held up by none: all before it are done.
no_hold : (t : Work) → is_done t ≡ true → (holds_barriers t ≡ false) × (holds_all t ≡ false)
no_hold t done = (rw done (and_false (is_ordered t)), rw done (and_false (is_barrier t)))
  where
    and_false : (b : Bool) → (b && false) ≡ false
    and_false true = refl
    and_false false = refl

done_hold : (t : Work) → not (is_done t) ≡ false → is_done t ≡ true
done_hold t e = cases (is_done t) e
  where
    cases : (b : Bool) → not b ≡ false → b ≡ true
    cases true e = refl
    cases false e = absurd (true≢false e)

pub first_moves : (works : List Work) (place : ℕ) (t : Work) → position (λ (u : Work). not (is_done u)) works ≡ Some place → waits_at works (Some place) (Some t) ≡ false
first_moves works place t found =
    let d : Work = frameless 0 (Discard 0 0 0 0 0) 0 0 stage.Flush in
    let at = position-Some (λ (u : Work). not (is_done u)) works place d found in
    let size : length (take place works) ≤ place = omega (arith, length-take place works) in
    let done : (i : ℕ) → i < length (take place works) → is_done (slice_index_or (take place works) i d) ≡ true =
    λ i within. rw (get_or-take place works i d (omega (arith, size, within))) (done_hold (slice_index_or works i d) (at.2 i (omega (arith, size, within)))) in
    let ordered : list_any holds_barriers (take place works) ≡ false = list_any_none holds_barriers (take place works) (All-from_get_or (λ (u : Work). holds_barriers u ≡ false) (take place works) d (λ i within. (no_hold (slice_index_or (take place works) i d) (done i within)).0)) in
    let barrier : list_any holds_all (take place works) ≡ false = list_any_none holds_all (take place works) (All-from_get_or (λ (u : Work). holds_all u ≡ false) (take place works) d (λ i within. (no_hold (slice_index_or (take place works) i d) (done i within)).1)) in
    rw (ordered, barrier) (none_held (is_fresh_at t.stage t.moved) (is_barrier t) (is_ordered t))
  where
    none_held : (a b c : Bool) → (a && ((b && false) || (c && false))) ≡ false
    none_held true true true = refl
    none_held true true false = refl
    none_held true false true = refl
    none_held true false false = refl
    none_held false b c = refl

-- A job at its beginning: the segments of its entry pass the test.
pub begun_moving : (number : ℕ) (request : RawRequest) (size : ℕ) (writes : Bool) (sector : ℕ) (segments : List Segment) → 1 ≤ length segments → list_any fails_test segments ≡ false
    → left_of (moving number request size writes sector segments) ≤ 1034 * length segments
begun_moving number request size writes sector segments some sound =
    omega (arith, begun_first (moving number request size writes sector segments) segments some (passed_first segments sound), sound_left segments sound)

pub begun_paging : (number : ℕ) (request : RawRequest) (size : ℕ) (writes : Bool) (sector count : ℕ) (pages : List ℕ) → left_of (paging number request size writes sector count pages) ≡ 2 * length pages + 1036 * count
begun_paging number request size writes sector count pages = omega arith

-- what all have left falls with one of them
pub told_left : (works : List Work) (place : ℕ) (t d : Work) (a : BackAnswer) → place < length works → slice_index_or works place d ≡ t → IsPlaced t.stage t → IsAnswer (ask_at t.stage t) a
    → all_left (slice_set works place (work.step_of t a)) < all_left works
told_left works place t d a within is placed ok =
    let here : left_of (slice_index_or works place d) ≡ left_of t = ap left_of is in
    omega (arith, sum_by-set left_of works place (work.step_of t a) d within, lowers t.stage t a placed ok, here)
