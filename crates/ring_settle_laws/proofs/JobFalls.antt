-- What is left to a job falls with each answer, where its stage says of it what the machine's jobs keep.
use Rattle.std.proofs.Common.{◌≡◌, ℕ, ◌+◌, ◌<◌, ◌≤◌, inl, inr, true, List, [], ◌∷◌, length, drop, ap, ◌∙◌, arith}
use Rattle.std.proofs.lemmas.Bool.{cases_lt, ltb-true}
use Rattle.blk_base.specs.declared.parts.Mapping.{Mapping}
use Rattle.blk_base.specs.declared.parts.Mode.TheVariants.{ReadOnly}
use Rattle.blk_base.specs.declared.ask.BackAnswer.{BackAnswer}
use Rattle.blk_base.specs.declared.ask.BackAnswer.TheVariants.{Done, Word, Sector, DiskFailed}
use Rattle.blk_layout.specs.declared.segment.Segment.{Segment}
use Rattle.blk_front.specs.declared.request.Request.{Request}
use Rattle.blk_front.specs.Request.{frames_for, is_indirect, IsShaped}
use Rattle.back_jobs.specs.declared.stage.JobStage.{JobStage}
use Rattle.back_jobs.specs.declared.stage.JobStage.TheVariants as stage
use Rattle.back_jobs.specs.Work.{Work, ask_at, IsAnswer, rest_of, last_of, first_of, next_segment, counted, mode_of}
use Rattle.back_laws.specs.JobLeft.{left_of, segments_left}
use Rattle.back_laws.proofs.JobLeft.{Lowers, lowers, next_left, map_lowers, read_lowers, write_lowers}
use Rattle.machine_pipeline.proofs.Flow.{own_segments}
use Rattle.machine_pipeline.proofs.Segments.{own_here, own_end, frame_segment}
use Rattle.machine_pipeline.proofs.JobMaps.{only_page}
use Rattle.machine_pipeline.proofs.HoldsWorks.{AtWork, IsInPage, IsHand, IsInSegment, IsReturning}

-- The segments of an indirect request are copied: there are as many to copy as it has frames, and at most 960.
few_named : (r : Request) → IsShaped r → frames_for r.count ≤ 960
few_named r shaped = omega (arith, shaped.counted.few)

some_named : (r : Request) → is_indirect r.count ≡ true → 11 < frames_for r.count
some_named r large = ltb-true 11 (frames_for r.count) large

only_read : (r : Request) (page : ℕ) (m : Mapping) → IsHand m r (frames_for r.count + page) → m.mode ≡ ReadOnly
only_read r page m hand = hand.mode ∙ ap mode_of (only_page r page)

in_page : (r : Request) (t : Work) (m : Mapping) → IsShaped r → (x : IsInPage t r m) → ((length t.rest < t.named) × (t.named ≤ 960)) × (m.mode ≡ ReadOnly)
in_page r t m shaped x = ((omega (arith, x.left, x.copies.named), omega (arith, few_named r shaped, x.copies.named)), only_read r x.page m x.hand)

-- A sector is moved: the one in hand is the last of its segment at most.
at_segment : (r : Request) (t : Work) (ahead : ℕ) → IsShaped r → (x : IsInSegment t r ahead) → t.rest ≡ frame_segment r x.place ∷ drop (x.place + 1) (own_segments r)
at_segment r t ahead shaped x = x.rest ∙ own_here r x.place shaped x.here

in_segment : (r : Request) (t : Work) (ahead : ℕ) → IsShaped r → IsInSegment t r ahead → t.within ≤ last_of t.rest
in_segment r t ahead shaped x = omega (arith, ap last_of (at_segment r t ahead shaped x), x.within)

-- the next segment, if there is one, has a sector
begun_segment : (t : Work) (rest : List Segment) → first_of rest ≤ last_of rest → left_of (next_segment t rest) ≤ segments_left rest
begun_segment t [] placed = omega arith
begun_segment t (s ∷ rest) placed = omega arith

segment_lowers : (r : Request) (t : Work) → IsShaped r → (x : IsReturning t r) → left_of (next_segment t (rest_of t.rest)) < 1 + segments_left (rest_of t.rest)
segment_lowers r t shaped x = omega (
  arith,
  begun_segment t (rest_of t.rest) (elim (cases_lt (x.place + 1) (frames_for r.count)) [
    | inl more ↦
        let others : rest_of t.rest ≡ frame_segment r (x.place + 1) ∷ drop (x.place + 1 + 1) (own_segments r) = ap rest_of (at_segment r t 0 shaped x) ∙ own_here r (x.place + 1) shaped more in
        omega (arith, ap first_of others)
    | inr past ↦
        let here = x.here in
        let over : x.place + 1 ≡ frames_for r.count = omega arith in
        let none : rest_of t.rest ≡ [] = ap rest_of (at_segment r t 0 shaped x) ∙ own_end r (x.place + 1) over in
        omega (arith, ap first_of none)
  ]),
)

pub job_lowers : (r : Request) (s : JobStage) (t : Work) (a : BackAnswer) → IsShaped r → AtWork r t s → IsAnswer (ask_at s t) a → Lowers s t a
job_lowers r stage.MapPage t a shaped at ok = lowers stage.MapPage t a (omega (arith, at.3, at.1.named), omega (arith, few_named r shaped, at.1.named)) ok
job_lowers r (stage.PageReference m) t a shaped at ok = lowers (stage.PageReference m) t a (in_page r t m shaped at) ok
job_lowers r (stage.PageSectors m gref) t a shaped at ok = lowers (stage.PageSectors m gref) t a (in_page r t m shaped at.0) ok
job_lowers r (stage.UnmapPage m) t a shaped at ok =
    let named = at.copies.named in
    lowers (stage.UnmapPage m) t a (omega (arith, some_named r at.copies.large, named), omega (arith, few_named r shaped, named), omega (arith, at.copies.few, named), only_read r at.page m at.hand) ok
job_lowers r stage.Map t a shaped at ok = map_lowers t.rest t a ok
job_lowers r (stage.ReadWord m k) t (Word word) shaped at ok = read_lowers t m k word at.2
job_lowers r (stage.DiskWrite m) t Done shaped at ok = omega (arith, next_left (counted t) m (in_segment r t 1 shaped at.0))
job_lowers r (stage.DiskWrite m) t DiskFailed shaped at ok = omega arith
job_lowers r (stage.DiskRead m) t (Sector words) shaped at ok = omega arith
job_lowers r (stage.DiskRead m) t DiskFailed shaped at ok = omega arith
job_lowers r (stage.WriteWord m k) t Done shaped at ok = write_lowers t m k at.2 (in_segment r t 0 shaped at.0)
job_lowers r (stage.Unmap m) t Done shaped at ok = segment_lowers r t shaped at.0
job_lowers r (stage.Abort m) t Done shaped at ok = omega arith
job_lowers r stage.Flush t Done shaped at ok = omega arith
job_lowers r stage.Flush t DiskFailed shaped at ok = omega arith
job_lowers r (stage.Trim count) t Done shaped at ok = omega arith
job_lowers r (stage.Trim count) t DiskFailed shaped at ok = omega arith
job_lowers r s t a shaped at ok = absurd ok
