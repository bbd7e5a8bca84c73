-- What is left to a job at any moment is no more than its request's frames tell.
use Rattle.std.proofs.Common.{◌≡◌, ℕ, zero, suc, ◌+◌, ◌-◌, ◌*◌, ◌≤◌, false, List, [], ◌∷◌, length, drop, ap, ◌∙◌, arith, length-drop}
use Rattle.std.specs.Prelude.{nat_lt}
use Rattle.std.specs.List.{list_any}
use Rattle.std.proofs.lemmas.Bool.{or_parts, ltb-false}
use Rattle.std.proofs.lemmas.List.FromFn.{length-map-range_with_len}
use Rattle.blk_layout.specs.declared.segment.Segment.{Segment}
use Rattle.segment_list.specs.Segments.{fails_test}
use Rattle.blk_front.specs.declared.request.Request.{Request}
use Rattle.blk_front.specs.Request.{frames_for, page_reference, page_references, IsShaped}
use Rattle.back_jobs.specs.declared.stage.JobStage.{JobStage}
use Rattle.back_jobs.specs.declared.stage.JobStage.TheVariants as stage
use Rattle.back_jobs.specs.Work.{Work, rest_of, last_of}
use Rattle.back_laws.specs.JobLeft.{left_at, segment_left, segments_left, after_sector, after_page, begun_left}
use Rattle.machine_pipeline.proofs.Flow.{own_segments}
use Rattle.machine_pipeline.proofs.Segments.{own_here, own_sound, own_count, frame_segment}
use Rattle.machine_pipeline.proofs.HoldsWorks.{AtWork, IsCopying, IsInSegment}

-- segments that pass the test have eight sectors at most
segment_few : (s : Segment) → fails_test s ≡ false → segment_left s ≤ 1034
segment_few s e =
    let both = or_parts (nat_lt 7 s.last) (nat_lt s.last s.first) e in
    omega (arith, ltb-false 7 s.last both.0)

segments_few : (n : ℕ) (xs : List Segment) → list_any fails_test xs ≡ false → segments_left (drop n xs) ≤ 1034 * (length xs - n)
segments_few zero [] e = omega arith
segments_few (suc n) [] e = omega arith
segments_few zero (s ∷ xs) e =
    let both = or_parts (fails_test s) (list_any fails_test xs) e in
    omega (arith, segment_few s both.0, segments_few zero xs both.1)
segments_few (suc n) (s ∷ xs) e =
    let both = or_parts (fails_test s) (list_any fails_test xs) e in
    omega (arith, segments_few n xs both.1)

-- of a segment eight sectors are left at most, and those of the segments after it
sector_few : (r : Request) (t : Work) (ahead : ℕ) → IsShaped r → IsInSegment t r ahead → after_sector t + 130 ≤ 1034 * frames_for r.count
sector_few r t ahead shaped x =
    let here : t.rest ≡ frame_segment r x.place ∷ drop (x.place + 1) (own_segments r) = x.rest ∙ own_here r x.place shaped x.here in
    let few : last_of t.rest ≤ 7 = omega (arith, ap last_of here) in
    omega (arith, few, x.here, ap (λ (l : List Segment). segments_left (rest_of l)) here, segments_few (x.place + 1) (own_segments r) (own_sound r shaped), own_count r)

-- of its entry's eight references to pages no more are left
pages_few : (r : Request) (t : Work) (page : ℕ) → IsCopying t r page → (length t.pages ≤ 8) × (length (drop 1 t.pages) ≤ 8)
pages_few r t page x =
    let all : length t.pages ≤ 8 = omega (arith, ap (λ (l : List ℕ). length l) x.pages, length-drop page (page_references r), length-map-range_with_len (page_reference r) 0 8) in
    (all, omega (arith, all, length-drop 1 t.pages))

page_few : (r : Request) (t : Work) (page : ℕ) → IsCopying t r page → 1 + after_page t ≤ begun_left (frames_for r.count)
page_few r t page x = omega (arith, (pages_few r t page x).1, x.named)

pub job_bounded : (r : Request) (s : JobStage) (t : Work) → IsShaped r → AtWork r t s → left_at s t ≤ begun_left (frames_for r.count)
job_bounded r stage.MapPage t shaped at = omega (arith, (pages_few r t at.0 at.1).0, at.1.named)
job_bounded r (stage.PageReference m) t shaped at = page_few r t at.page at.copies
job_bounded r (stage.PageSectors m gref) t shaped at = let x = at.0 in omega (arith, page_few r t x.page x.copies)
job_bounded r (stage.UnmapPage m) t shaped at = page_few r t at.page at.copies
job_bounded r (stage.WriteWord m k) t shaped at = omega (arith, sector_few r t 0 shaped at.0)
job_bounded r (stage.Unmap m) t shaped at = omega (arith, sector_few r t 0 shaped at.0)
job_bounded r (stage.Abort m) t shaped at = omega arith
job_bounded r stage.Flush t shaped at = omega arith
job_bounded r (stage.Trim count) t shaped at = omega arith
job_bounded r (stage.Done status) t shaped at = omega arith
job_bounded r other t shaped at = omega (arith, sector_few r t 1 shaped at.0)
