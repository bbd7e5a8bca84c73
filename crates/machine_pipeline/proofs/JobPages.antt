-- A job copies the segments of its request from the indirect pages, each word once, and begins with the first one once it has all.
use Rattle.std.proofs.Common.{◌≡◌, ◌≢◌, ℕ, ◌+◌, ◌*◌, ◌/◌, ◌%◌, ◌^◌, ◌<◌, ◌≤◌, ◌==◌, ◌||◌, ◌⊎◌, inl, inr, if◌then◌else◌, Bool, true, false, List, [], ◌∷◌, ◌++◌, length, take, drop, refl, ap, sym, ◌∙◌, arith, Some}
use Rattle.std.specs.Prelude.{None, nat_lt}
use Rattle.std.specs.List.{list_any}
use Rattle.std.proofs.lemmas.Option.{same_Some}
use Rattle.std.proofs.lemmas.Bool.{or_parts, cases_Bool}
use Rattle.std.proofs.lemmas.Bool.Decides.{nat_tests}
use Rattle.std.proofs.lemmas.List.{take_all, drop-drop, length-append}
use Rattle.std.proofs.lemmas.List.FromFn.{take-map-range_with_len, map-range_with_len_more}
use Rattle.blk_base.specs.Options.{Options}
use Rattle.blk_base.specs.declared.ask.BackAnswer.TheVariants as answer
use Rattle.blk_base.specs.declared.parts.Mapping.{Mapping}
use Rattle.blk_layout.specs.declared.segment.Segment.{Segment}
use Rattle.blk_layout.specs.Entry.{segment_of}
use Rattle.segment_list.specs.Segments.{fails_test, sectors_of}
use Rattle.xen_pages.specs.Pages.{word_of}
use Rattle.grant_table.specs.Table.{frame_of}
use Rattle.pipeline_laws.specs.Pipeline.{Pipeline}
use Rattle.hypervisor.specs.Act.{Outcome}
use Rattle.blk_front.specs.declared.request.Request.{Request}
use Rattle.blk_front.specs.Request.{frames_for, pages_for, page_references, segment_at, naming_words, naming_at, frame_at}
use Rattle.back_jobs.specs.declared.stage.JobStage.{JobStage}
use Rattle.back_jobs.specs.declared.stage.JobStage.TheVariants as job
use Rattle.back_jobs.specs.Work.{Work, ask_at, step_at, first_of, page_word, is_copied_out}
use Rattle.back_jobs.specs.Jobs.{mapping_at}
use Rattle.machine_pipeline.proofs.ReadBack.{ReadAt}
use Rattle.split_model.specs.World.{World}
use Rattle.machine_pipeline.proofs.Flow.{Flow, frames_of, own_segments, is_own, worked}
use Rattle.machine_pipeline.proofs.Segments.{frame_segment, segment_is, data_frames, own_here, own_sound, own_sectors, own_count}
use Rattle.machine_pipeline.proofs.Data.{own_among, page_value}
use Rattle.machine_pipeline.proofs.Holds.{IsFilled}
use Rattle.machine_pipeline.proofs.HoldsWorks.{IsCopying, IsInPage, AtWork, last_in, IsMoving}
use Rattle.machine_pipeline.proofs.Turns.{nothing}
use Rattle.machine_pipeline.proofs.Lists.{all_at}
use Rattle.machine_pipeline.proofs.Mapped.{frame_live}
use Rattle.machine_pipeline.proofs.JobMoves.{JobGoesAt, live_hand, hands_step, IsDoing, read_now, copied_on, stays_at, rests_on}
use Rattle.machine_pipeline.specs.Step.{CallOf}
use Rattle.machine_pipeline.proofs.JobMaps.{unmaps}
use Rattle.pipeline_laws.specs.Station.{PipelineRequest, Working}

-- a segment of two words that the front wrote is that segment
segment_back : (gref last : ℕ) → last ≤ 7 → segment_of gref (0 + last * 2 ^ 8) ≡ record { gref = gref; first = 0; last = last }
segment_back gref last few =
    let first : (0 + last * 2 ^ 8) % 2 ^ 8 ≡ 0 = omega arith in
    let second : (0 + last * 2 ^ 8) / 2 ^ 8 % 2 ^ 8 ≡ last = omega arith in
    rw (first, second) refl

-- one segment more
one_more : (r : Request) (n : ℕ) → n < frames_for r.count → take n (own_segments r) ++ segment_at r n ∷ [] ≡ take (n + 1) (own_segments r)
one_more r n lt =
    let was = take-map-range_with_len (segment_at r) 0 (frames_for r.count) n (omega arith) in
    let now = take-map-range_with_len (segment_at r) 0 (frames_for r.count) (n + 1) (omega arith) in
    ap (λ (l : List Segment). l ++ segment_at r n ∷ []) was ∙ (sym (map-range_with_len_more (segment_at r) 0 n n (omega arith)) ∙ sym now)

-- word k of the segment that is copied next, as the front wrote it
word_read : {config : Options} {w : World} {g : Flow} {d : Pipeline} {p : ℕ} {t : Work} {r : Request} {m : Mapping} {j : JobStage} → IsDoing config w g d p t r j → (x : IsInPage t r m)
    → mapping_at j ≡ Some m → (k : ℕ) → k < 2
    → word_of w.under.pages (frame_of w.under.grants m) (page_word t k) ≡ naming_at r (2 * length t.rest + k)
word_read {w = w} {g = g} {p = p} {t = t} {r = r} {m = m} doing x has k few =
    ap (λ (f : ℕ). word_of w.under.pages f (page_word t k)) framed
    ∙ (sym (rw (place, word) refl) ∙ (filled.whole doing.own.reached at (own_among r at doing.own.shaped it) it ∙ page_value r n))
  where
    n : ℕ
    n = 2 * length t.rest + k

    at : ℕ
    at = 1024 * frames_for r.count + n

    framed : frame_of w.under.grants m ≡ frame_at r (frames_for r.count + x.page)
    framed =
        let hand = x.hand in
        frame_live w.under.grants m (frame_at r (frames_for r.count + x.page)) (live_hand w p t m doing.is.place (ap mapping_at doing.stage ∙ has) doing.held) doing.holds.mapped.framed hand.gref

    place : at / 1024 ≡ frames_for r.count + x.page
    place = let from = x.from in let to = x.to in omega arith

    word : at % 1024 ≡ page_word t k
    word = omega arith

    filled : IsFilled g.series g.pushed w.under.pages w.front.stage r
    filled = all_at (IsFilled g.series g.pushed w.under.pages w.front.stage) w.front.requests doing.own.place r doing.holds.frames doing.own.at

    it : is_own r at ≡ true
    it =
        let beyond : nat_lt at (1024 * frames_for r.count) ≡ false = grind (arith, nat_tests) in
        let in_pages : nat_lt at (1024 * frames_for r.count + naming_words r) ≡ true = grind (arith, nat_tests, x.left) in
        rw (beyond, x.copies.large) in_pages

-- the reference of the segment that is copied next is read
pub reference_goes : {config : Options} {w : World} {g : Flow} {d : Pipeline} {p : ℕ} {t : Work} {r : Request} {m : Mapping} → IsDoing config w g d p t r (job.PageReference m)
    → (number : ℕ) (o : Outcome)
    → JobGoesAt config w d number p t (job.PageReference m) o
reference_goes {w = w} {p = p} {t = t} {r = r} {m = m} doing number o =
    let n : (2 * length t.rest + 0) / 2 ≡ length t.rest = omega arith in
    let first : (2 * length t.rest + 0) % 2 ≡ 0 = omega arith in
    let words : naming_at r (2 * length t.rest + 0) ≡ (segment_at r (length t.rest)).gref = rw (n, first) refl in
    let value : ℕ = word_of w.under.pages (frame_of w.under.grants m) (page_word t 0) in
    let now : IsInPage (record t { stage = job.PageSectors m value }) r m = record {
      page = doing.at.page;
      copies = doing.at.copies;
      hand = doing.at.hand;
      from = doing.at.from;
      to = doing.at.to;
      left = doing.at.left;
    } in
    rests_on doing (record t { stage = job.PageSectors m value }) _ (λ a b same. same_Some b a same.1) refl refl refl refl (λ q was reads. read_now doing q was reads)
    (now, sym (word_read doing doing.at refl 0 (omega arith) ∙ words))
    (hands_step w p t (job.PageReference m) (answer.Word value) doing.is.place doing.stage tt)

-- its sectors are read: it is copied
pub sectors_goes : {config : Options} {w : World} {g : Flow} {d : Pipeline} {p : ℕ} {t : Work} {r : Request} {m : Mapping} {gref : ℕ} → IsDoing config w g d p t r (job.PageSectors m gref)
    → (number : ℕ) (o : Outcome)
    → JobGoesAt config w d number p t (job.PageSectors m gref) o
sectors_goes {w = w} {p = p} {t = t} {r = r} {m = m} {gref = gref} doing number o =
    rests_on doing later _ (λ a b same. same_Some b a same.1) refl refl refl (station (is_copied_out t segments)) (λ q was reads. back (is_copied_out t segments) q.words (read_now doing q was reads))
    (by_test (is_copied_out t segments) refl) (hands_step w p t (job.PageSectors m gref) (answer.Word value) doing.is.place doing.stage tt)
  where
    value : ℕ
    value = word_of w.under.pages (frame_of w.under.grants m) (page_word t 1)

    segments : List Segment
    segments = t.rest ++ segment_of gref value ∷ []

    later : Work
    later = record t { rest = segments; stage = if is_copied_out t segments then job.UnmapPage m else job.PageReference m }

    x : IsInPage t r m
    x = doing.at.0

    in_data : length t.rest < frames_of r
    in_data = data_frames r (length t.rest) doing.own.shaped x.left

    copied : segment_of gref value ≡ segment_at r (length t.rest)
    copied =
        let n : (2 * length t.rest + 1) / 2 ≡ length t.rest = omega arith in
        let second : (2 * length t.rest + 1) % 2 ≡ 1 = omega arith in
        let its : segment_at r (length t.rest) ≡ frame_segment r (length t.rest) = segment_is r (length t.rest) in_data in
        let words : naming_at r (2 * length t.rest + 1) ≡ 0 + last_in r (length t.rest) * 2 ^ 8 = rw (n, second, its) refl in
        let read : value ≡ 0 + last_in r (length t.rest) * 2 ^ 8 = word_read doing x refl 1 (omega arith) ∙ words in
        let reference : gref ≡ frame_at r (length t.rest) + 6 = sym doing.at.1 ∙ ap (λ (s : Segment). s.gref) its in
        rw (reference, read) (segment_back (frame_at r (length t.rest) + 6) (last_in r (length t.rest)) (omega arith)) ∙ sym its

    long : length segments ≡ length t.rest + 1
    long = let all = length-append t.rest (segment_of gref value ∷ []) in omega arith

    all_so_far : segments ≡ take (length segments) (own_segments r)
    all_so_far =
        ap (λ (s : Segment). t.rest ++ s ∷ []) copied
        ∙ (ap (λ (l : List Segment). l ++ segment_at r (length t.rest) ∷ []) x.copies.rest
        ∙ (one_more r (length t.rest) x.left ∙ ap (λ (n : ℕ). take n (own_segments r)) (sym long)))

    copies_on : IsCopying later r x.page
    copies_on = copied_on segments t.pages x.page x.copies x.copies.here all_so_far (omega (arith, x.left, long)) x.copies.pages

    by_test : (b : Bool) → is_copied_out t segments ≡ b → AtWork r later (if b then job.UnmapPage m else job.PageReference m)
    by_test true out = record { page = x.page; copies = copies_on; hand = x.hand; through = by_end (length segments == t.named) refl out }
      where
        by_end : (last : Bool) → (length segments == t.named) ≡ last → (last || (length segments % 512 == 0)) ≡ true → (length segments ≡ frames_for r.count) ⊎ (length segments ≡ 512 * (x.page + 1))
        by_end true same t' = inl (let all : length segments ≡ t.named = grind (arith, nat_tests) in omega (arith, x.copies.named))
        by_end false same t' = inr (let full : length segments % 512 ≡ 0 = grind (arith, nat_tests) in omega (arith, x.from, x.to, long))
    by_test false out =
        let parts = or_parts (length segments == t.named) (length segments % 512 == 0) out in
        let unended : length segments ≢ t.named = (let off = parts.0 in grind (arith, nat_tests)) in
        let unfilled : length segments % 512 ≢ 0 = (let off = parts.1 in grind (arith, nat_tests)) in
        let named = x.copies.named in
        record { page = x.page; copies = copies_on; hand = x.hand; from = omega (arith, x.from, long); to = omega (arith, x.to, long); left = omega (arith, x.left, long) }

    station : (b : Bool) → worked (if b then job.UnmapPage m else job.PageReference m) t.moved ≡ Working t.moved
    station true = refl
    station false = refl

    back : (b : Bool) (noted : List (List ℕ)) → ReadAt w.under.pages r t.moved t.words noted (job.PageSectors m gref) → ReadAt w.under.pages r t.moved t.words noted (if b then job.UnmapPage m else job.PageReference m)
    back true noted was = was
    back false noted was = was

-- the page is unmapped: the next one is mapped, or the first segment's frame where all are copied
pub unmap_page_goes : {config : Options} {w : World} {g : Flow} {d : Pipeline} {p : ℕ} {t : Work} {r : Request} {m : Mapping} → IsDoing config w g d p t r (job.UnmapPage m)
    → (number : ℕ) (o : Outcome)
    → JobGoesAt config w d number p t (job.UnmapPage m) o
unmap_page_goes {config = config} {w = w} {d = d} {p = p} {t = t} {r = r} {m = m} doing number o = elim (cases_Bool (length t.rest == t.named)) [
  | inl t' ↦
      let whole = all (grind (arith, nat_tests)) in
      let sectors : sectors_of t.rest ≡ r.count = ap sectors_of whole ∙ own_sectors r doing.own.shaped in
      let on_disk : nat_lt t.size (t.disk + sectors_of t.rest) ≡ false = grind (arith, nat_tests, copies.fits, copies.disk) in
      let many : 11 < frames_for r.count = (let large = copies.large in grind (arith, nat_tests)) in
      let first : first_of t.rest ≡ 0 = ap first_of (whole ∙ own_here r 0 doing.own.shaped (omega arith)) in
      let now : IsMoving (record t { within = first_of t.rest; stage = job.Map }) r =
      record {
        place = 0;
        here = omega arith;
        writes = copies.writes;
        rest = whole;
        within = omega (arith, first);
        moved = omega (arith, first, copies.moved);
        disk = omega (arith, copies.moved, copies.disk);
        words = copies.words;
      } in
      goes (record t { within = first_of t.rest; stage = job.Map }) (rw (t', (ap (list_any fails_test) whole ∙ own_sound r doing.own.shaped), on_disk) refl) refl refl refl refl refl
      (λ q was. was) (now, first)
  | inr t' ↦
      let apart : length t.rest ≢ t.named = grind (arith, nat_tests) in
      let named = copies.named in
      let few = copies.few in
      let filled : length t.rest ≡ 512 * (doing.at.page + 1) = elim doing.at.through [ inl ended ↦ absurd (omega arith) | inr next ↦ next ] in
      let pages : pages_for r.count ≡ (frames_for r.count + 511) / 512 = rw copies.large refl in
      goes (record t { pages = drop 1 t.pages; stage = job.MapPage }) (rw t' refl) refl refl refl refl refl (λ q was. was) (
        doing.at.page + 1,
        copied_on t.rest (drop 1 t.pages) (doing.at.page + 1) copies (omega arith) copies.rest copies.few (ap (drop 1) copies.pages ∙ drop-drop 1 doing.at.page (page_references r)),
        filled,
        omega arith,
      )
]
  where
    copies : IsCopying t r doing.at.page
    copies = doing.at.copies

    in_it : frames_for r.count + doing.at.page < frames_of r
    in_it = let frames = doing.own.shaped.frames in let here = copies.here in omega arith

    -- either way the job has no mapping, and is of the same request at the same station
    goes : (t' : Work) → step_at (job.UnmapPage m) t answer.Done ≡ t' → mapping_at t'.stage ≡ None → t'.number ≡ t.number → t'.id ≡ t.id → t'.op ≡ t.op → worked t'.stage t'.moved ≡ Working t.moved
        → ((q : PipelineRequest) → ReadAt w.under.pages r t.moved t.words q.words (job.UnmapPage m) → ReadAt w.under.pages r t'.moved t'.words q.words t'.stage)
        → AtWork r t' t'.stage → JobGoesAt config w d number p t (job.UnmapPage m) o
    goes t' stepped none numbered same op station reads at =
        unmaps doing (frames_for r.count + doing.at.page) in_it m t' refl doing.at.hand stepped none numbered same op
        (nothing (CallOf (ask_at (job.UnmapPage m) t) o) _ d (λ a b call. same_Some b a call.1))
        (stays_at doing t' same station (λ q was read. reads q (read_now doing q was read))) at (hands_step w p t (job.UnmapPage m) answer.Done doing.is.place doing.stage tt)

    all : length t.rest ≡ t.named → t.rest ≡ own_segments r
    all count = copies.rest ∙ take_all (length t.rest) (own_segments r) (omega (arith, own_count r, copies.named))
