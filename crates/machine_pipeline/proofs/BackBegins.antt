-- The job that the back makes of an entry.
use Rattle.std.proofs.Common.{◌≡◌, ℕ, zero, suc, ◌+◌, ◌-◌, ◌/◌, ◌^◌, ◌<◌, ◌≤◌, ◌==◌, Bool, true, false, List, [], ◌∷◌, ◌++◌, get_or, refl, ap, sym, ◌∙◌, arith}
use Rattle.std.specs.Prelude.{All, Option, Some, None, map, length, slice_get, nat_lt, nat_le, if◌then◌else◌}
use Rattle.std.specs.List.{range_with_len}
use Rattle.std.proofs.lemmas.List.FromFn.{length-map-range_with_len}
use Rattle.machine_pipeline.proofs.Lists.{all_at}
use Rattle.std.proofs.lemmas.Bool.{false≢true, true≢false}
use Rattle.std.proofs.lemmas.Bool.Decides.{nat_tests}
use Rattle.std.proofs.lemmas.List.Elements.{All-push}
use Rattle.std.proofs.lemmas.List.Quantifiers.{all_pairs_push}
use Rattle.blk_base.specs.Options.{Options}
use Rattle.pipeline_laws.specs.Station.{Working}
use Rattle.back_jobs.specs.declared.stage.JobStage.TheVariants as job
use Rattle.back_jobs.specs.Work.{Work}
use Rattle.std.proofs.lemmas.Option.{none-some}
use Rattle.machine_pipeline.proofs.ReadBack.{IsReadBack, ReadAt}
use Rattle.blk_front.specs.declared.request.Request.{Request}
use Rattle.blk_front.specs.declared.request.Transfer.{Transfer}
use Rattle.blk_front.specs.declared.request.Transfer.TheVariants as transfer
use Rattle.blk_front.specs.Request.{is_write, is_moving, is_indirect, may_be_indirect, named_of, operation_of, frames_for, pages_for, segments_of, reference_in, page_reference, page_references, IsCounted, IsShaped}
use Rattle.blk_front.specs.Entry.{entry_as, entry_request, entry_of}
use Rattle.blk_back.specs.View.{info_of}
use Rattle.blk_back.specs.Step.{fetched}
use Rattle.machine_pipeline.specs.Plain.{IsPlain}
use Rattle.machine_pipeline.proofs.Flow.{own_segments, worked}
use Rattle.machine_pipeline.proofs.Segments.{own_direct, own_here, own_sound, own_sectors, ranged, eleven}
use Rattle.machine_pipeline.proofs.Series.{IsSeries, lower}
use Rattle.machine_pipeline.proofs.Holds.{IsPooled, IsSubmitted, AreSubmitted, AreNumbers}
use Rattle.machine_pipeline.proofs.HoldsWorks.{AtWork, IsUnhindered, AreWorks, IsWork}
use Rattle.blk_base.specs.declared.operation.Abi.{Abi}
use Rattle.blk_layout.specs.Entry.{request_of}
use Rattle.blk_layout.specs.Range.{IsInRange, AreWords}
use Rattle.blk_layout.proofs.Back.{reads_back}
use Rattle.blk_layout.specs.declared.segment.Segment.{Segment}
use Rattle.blk_layout.specs.declared.request.RawRequest.{RawRequest}
use Rattle.blk_layout.specs.declared.request.RawRequest.TheVariants.{Direct, Indirect}
use Rattle.segment_list.specs.Verdict.{verdict_of}
use Rattle.segment_list.specs.Segments.{sectors_of}
use Rattle.back_jobs.specs.Work.{begun, frameless, moving, paging, first_of}

-- an operation is a byte
pub small_operation : (way : Transfer) → operation_of way < 2 ^ 8
small_operation transfer.Read = omega arith
small_operation way = omega arith

-- its indirect pages have references of 32 bits
references_fit : (r : Request) → All IsPooled r.frames.items → (a n : ℕ) → AreWords (map (page_reference r) (range_with_len a n))
references_fit r pooled a zero = tt
references_fit r pooled a (suc n) = (by_frame (slice_get r.frames.items (frames_for r.count + a)) refl, references_fit r pooled (a + 1) n)
  where
    by_frame : (frame : Option ℕ) → slice_get r.frames.items (frames_for r.count + a) ≡ frame → reference_in frame < 2 ^ 32
    by_frame None e = omega arith
    by_frame (Some frame) e = let its = all_at IsPooled r.frames.items (frames_for r.count + a) frame pooled e in omega (arith, its.1)

eight : (r : Request) → length (page_references r) ≡ 8
eight r = length-map-range_with_len (page_reference r) 0 8

in_range : (sectors : ℕ) (k : ℕ) (r : Request) → sectors ≤ 2 ^ 64 → k < 2 ^ 32 → IsSubmitted sectors k r → IsInRange (entry_request r)
in_range sectors k r sized few s = by_way r.transfer s.sector s.numbers s.shaped.counted
  where
    number : r.number < 2 ^ 64
    number = let number = s.number in omega arith

    moves : (op : ℕ) → op ≤ 2 → r.sector + r.count ≤ sectors → 1 ≤ r.count → r.count ≤ 7680 → (b : Bool) → is_indirect r.count ≡ b
        → IsInRange (if b then Indirect op (frames_for r.count) 51712 r.number r.sector (page_references r) else Direct op (frames_for r.count) 51712 r.number r.sector (segments_of r))
    moves op below within some short true large = (omega arith, omega arith, omega arith, number, omega arith, eight r, references_fit r s.frames 0 8)
    moves op below within some short false direct =
        let few_segments : frames_for r.count ≤ 11 = grind (arith, nat_tests) in
        (omega arith, omega arith, omega arith, omega arith, omega arith, number, omega arith, eleven r, ranged r s.frames)

    by_way : (way : Transfer) → r.sector + named_of way r.count ≤ sectors → AreNumbers way r.sector → IsCounted way r.count → IsInRange (entry_as way r)
    by_way (transfer.Discard sectors) within numbers counted = (omega arith, omega arith, number, omega (arith, numbers.0), omega (arith, numbers.1))
    by_way transfer.Flush within numbers counted =
        let none = counted.none refl in
        let direct : is_indirect r.count ≡ false = rw none refl in
        rw direct (omega arith, omega arith, omega arith, omega arith, omega arith, number, omega (arith, numbers), eleven r, ranged r s.frames)
    by_way way within numbers counted = moves (operation_of way) (omega arith) within (counted.some refl) counted.few (is_indirect r.count) refl

-- a request that moves sectors passes the tests of its segments
passes : (config : Options) (r : Request) → r.sector + r.count ≤ config.sectors → IsShaped r → is_moving r.transfer ≡ true
    → ((frames_for r.count == 0) ≡ false) × (nat_lt config.sectors (r.sector + sectors_of (own_segments r)) ≡ false)
passes config r within shaped moves =
    let least = shaped.counted.some moves in
    let all = own_sectors r shaped in
    (grind (arith, nat_tests), grind (arith, nat_tests))

-- its indirect pages name as many segments as the back takes
large_passes : (config : Options) (r : Request) → IsShaped r → is_moving r.transfer ≡ true → frames_for r.count ≤ config.indirect
    → ((frames_for r.count == 0) ≡ false) × ((config.indirect == 0) ≡ false) × (nat_lt config.indirect (frames_for r.count) ≡ false) × (nat_le (frames_for r.count) 960 ≡ true)
large_passes config r shaped moves limit =
    let least = shaped.counted.some moves in
    let most = shaped.counted.few in
    (grind (arith, nat_tests), grind (arith, nat_tests), grind (arith, nat_tests), grind (arith, nat_tests))

-- the job of a request: that of a read, a write or a barrier moves its sectors, once it copied its segments where they lie in indirect pages
abbrev pub moving_as : Bool → Transfer → (number size : ℕ) → Request → Work
moving_as true way number size r = paging number (entry_request r) size (is_write way) r.sector (frames_for r.count) (page_references r)
moving_as false way number size r = moving number (entry_request r) size (is_write way) r.sector (own_segments r)

abbrev pub job_as : Transfer → (number size : ℕ) → Request → Work
job_as transfer.Flush number size r = frameless number (entry_request r) size r.sector job.Flush
job_as (transfer.Discard sectors) number size r = frameless number (entry_request r) size r.sector (job.Trim sectors)
job_as way number size r = moving_as (is_indirect r.count) way number size r

-- an entry that has room for its segments
abbrev direct_entry : ℕ → Request → RawRequest
direct_entry op r = Direct op (frames_for r.count) 51712 r.number r.sector (segments_of r)

module _ (config : Options) (number size : ℕ) (r : Request) (shaped : IsShaped r) where
  -- the job that is begun of its entry
  abbrev job_begun : Work
  job_begun = begun number (entry_request r) size (verdict_of (entry_request r) (info_of config))

  direct : (way : Transfer) → r.transfer ≡ way → is_moving way ≡ true → (is_write way ≡ true → config.read_only ≡ false) → r.sector + r.count ≤ config.sectors → is_indirect r.count ≡ false
      → job_begun ≡ moving_as false way number size r
  direct transfer.Flush is moves writable within small = absurd (false≢true moves)
  direct (transfer.Discard sectors) is moves writable within small = absurd (false≢true moves)
  direct transfer.Read is moves writable within small =
      let entry : entry_request r ≡ direct_entry 0 r = rw (is, small) refl in
      let own = own_direct r (grind (arith, nat_tests)) in
      let may = passes config r within shaped (ap is_moving is) in
      rw entry (rw (own, may.0, small, own_sound r shaped, may.1) (ap (λ (l : List Segment). moving number (direct_entry 0 r) size false r.sector l) own))
  direct way is moves writable within small =
      let entry : entry_request r ≡ direct_entry (operation_of way) r = rw (is, small) refl in
      let own = own_direct r (grind (arith, nat_tests)) in
      let may = passes config r within shaped (ap is_moving is) in
      rw entry (rw (own, writable refl, may.0, small, own_sound r shaped, may.1) (ap (λ (l : List Segment). moving number (direct_entry (operation_of way) r) size true r.sector l) own))

  indirect : (way : Transfer) → r.transfer ≡ way → is_moving way ≡ true → (is_write way ≡ true → config.read_only ≡ false) → frames_for r.count ≤ config.indirect → is_indirect r.count ≡ true
      → job_begun ≡ moving_as true way number size r
  indirect transfer.Read is moves writable few large =
      let its = large_passes config r shaped (ap is_moving is) few in
      rw (is, large, its.0, its.1, its.2, its.3) refl
  indirect (transfer.Write tag) is moves writable few large =
      let its = large_passes config r shaped (ap is_moving is) few in
      rw (is, large, writable refl, its.0, its.1, its.2, its.3) refl
  indirect (transfer.Barrier tag) is moves writable few large = let short = shaped.counted.direct (ap may_be_indirect is) in absurd (grind (arith, nat_tests))
  indirect way is moves writable few large = absurd (false≢true moves)

  -- each request is served where the disk may be written, and a read on each disk
  serves : (way : Transfer) → r.transfer ≡ way
      → (is_write way ≡ true → config.read_only ≡ false)
      → (is_moving way ≡ false → config.read_only ≡ false)
      → (is_indirect r.count ≡ true → frames_for r.count ≤ config.indirect)
      → r.sector + named_of way r.count ≤ config.sectors
      → AreNumbers way r.sector
      → job_begun ≡ job_as way number size r
  serves transfer.Flush is writable served limit within numbers =
      let small : is_indirect r.count ≡ false = rw (shaped.counted.none (ap is_moving is)) refl in
      let bare : (frames_for r.count == 0) ≡ true = grind (arith, nat_tests) in
      rw (is, small, served refl, bare) refl
  serves (transfer.Discard sectors) is writable served limit within numbers =
      let some : (sectors == 0) ≡ false = grind (arith, nat_tests, numbers.0) in
      let on_disk : nat_lt config.sectors (r.sector + sectors) ≡ false = grind (arith, nat_tests) in
      rw (is, served refl, some, on_disk) refl
  serves way is writable served limit within numbers = by_size (is_indirect r.count) refl
    where
      by_size : (b : Bool) → is_indirect r.count ≡ b → job_begun ≡ moving_as b way number size r
      by_size true large = indirect way is refl writable (limit large) large
      by_size false small = direct way is refl writable within small

-- the job of the entry's words
pub entry_job : (abi : Abi) (config : Options) (number size k : ℕ) (r : Request) → IsPlain config → k < 2 ^ 32 → IsSubmitted config.sectors k r → (is_write r.transfer ≡ true → config.read_only ≡ false) → (is_moving r.transfer ≡ false → config.read_only ≡ false) → (is_indirect r.count ≡ true → frames_for r.count ≤ config.indirect) → begun number (request_of abi (entry_of abi r)) size (verdict_of (request_of abi (entry_of abi r)) (info_of config)) ≡ job_as r.transfer number size r
entry_job abi config number size k r plain few s writable served limit =
    ap (λ (x : RawRequest). begun number x size (verdict_of x (info_of config))) (reads_back abi (entry_request r) (in_range config.sectors k r plain.sectors few s))
    ∙ serves config number size r s.shaped r.transfer refl writable served limit s.sector s.numbers

-- its number, its id and its operation are those of the request; it begins with none of its sectors moved; it waits at its beginning, if at all
pub record IsJobOf (way : Transfer) (number : ℕ) (r : Request) (t : Work) : Type 0 where
  pub numbered : t.number ≡ number
  pub id : t.id ≡ r.number
  pub op : t.op ≡ operation_of way
  pub unmoved : worked t.stage t.moved ≡ Working 0
  pub unhindered : (u : Work) → IsUnhindered u t
  pub unread : (pages : List ℕ) (y : Request) → ReadAt pages y t.moved t.words [] t.stage

pub is_job : (way : Transfer) (number size : ℕ) (r : Request) → IsShaped r → r.transfer ≡ way → IsJobOf way number r (job_as way number size r)
is_job way number size r shaped is = by_way way is
  where
    none : (pages : List ℕ) (y : Request) → IsReadBack pages y 0 []
    none pages y = record { counted = refl; few = omega arith; sectors = λ i ws none. absurd (none-some ws none) }

    moves : (b : Bool) → is_indirect r.count ≡ b → (way : Transfer) → r.transfer ≡ way → is_moving way ≡ true → IsJobOf way number r (moving_as b way number size r)
    moves b e transfer.Flush is t = absurd (false≢true t)
    moves b e (transfer.Discard sectors) is t = absurd (false≢true t)
    moves true large way is t = rw (is, large) (record { numbered = refl; id = refl; op = refl; unmoved = refl; unhindered = λ u undone begun. absurd (true≢false begun); unread = none })
    moves false small way is t = rw (is, small) (record { numbered = refl; id = refl; op = refl; unmoved = refl; unhindered = λ u undone begun. absurd (true≢false begun); unread = none })

    by_way : (way : Transfer) → r.transfer ≡ way → IsJobOf way number r (job_as way number size r)
    by_way transfer.Flush is =
        let small : is_indirect r.count ≡ false = rw (shaped.counted.none (ap is_moving is)) refl in
        rw (is, small) (record { numbered = refl; id = refl; op = refl; unmoved = refl; unhindered = λ u undone begun. refl; unread = none })
    by_way (transfer.Discard sectors) is = rw is (record { numbered = refl; id = refl; op = refl; unmoved = refl; unhindered = λ u undone begun. absurd (true≢false begun); unread = none })
    by_way way is = moves (is_indirect r.count) refl way is refl

-- a request that moves sectors begins at its first segment, or at its first indirect page
begins_moving : (way : Transfer) (number size : ℕ) (r : Request) (b : Bool) → is_indirect r.count ≡ b → r.transfer ≡ way → is_moving way ≡ true → IsShaped r → r.sector + r.count ≤ size
    → (let t : Work = moving_as b way number size r in AtWork r t t.stage)
begins_moving way number size r false small is moves shaped fits =
    let some = shaped.counted.some (ap is_moving is ∙ moves) in
    let first : first_of (own_segments r) ≡ 0 = ap first_of (own_here r 0 shaped (omega arith)) in (
      record {
        place = 0;
        here = omega arith;
        writes = sym (ap is_write is);
        rest = refl;
        within = omega arith;
        moved = omega arith;
        disk = omega arith;
        words = refl;
      },
      first,
    )
begins_moving way number size r true large is moves shaped fits =
    let many : 11 < frames_for r.count = grind (arith, nat_tests) in
    let pages : pages_for r.count ≡ (frames_for r.count + 511) / 512 = rw large refl in
    let some : 0 < pages_for r.count = omega arith in
    let few : 0 ≤ frames_for r.count = omega arith in
    (0, assumption (sym (ap is_write is)), refl, omega arith)

at_begin : (way : Transfer) (number size : ℕ) (r : Request) → r.transfer ≡ way → IsShaped r → r.sector + named_of way r.count ≤ size → (let t : Work = job_as way number size r in AtWork r t t.stage)
at_begin transfer.Flush number size r is shaped fits = (is, refl)
at_begin (transfer.Discard sectors) number size r is shaped fits = (is, refl, refl)
at_begin way number size r is shaped fits = begins_moving way number size r (is_indirect r.count) refl is refl shaped fits

-- that job is the one of the request, which stands at that index
pub is_work : {series : List Request} (submitted : List Request) (fetched size sectors : ℕ) (number : ℕ) (r : Request)
    → number ≡ fetched + 1
    → slice_get series fetched ≡ Some r
    → slice_get submitted (r.number - 1) ≡ Some r
    → IsSubmitted sectors (r.number - 1) r
    → size ≡ sectors
    → IsWork submitted series (fetched + 1) (job_as r.transfer number size r)
is_work {series} submitted fetched size sectors number r e here known s whole =
    let t : Work = job_as r.transfer number size r in
    let it : IsJobOf r.transfer number r t = is_job r.transfer number size r s.shaped refl in
    let before : t.number - 1 ≡ fetched = omega (arith, it.numbered) in
    record {
      r = r;
      known = ap (λ (k : ℕ). slice_get submitted (k - 1)) it.id ∙ known;
      positive = omega (arith, it.id, s.number);
      issued = ap (slice_get series) before ∙ here;
      counted = omega (arith, it.numbered);
      reached = omega (arith, it.numbered);
      op = it.op;
      at = at_begin r.transfer number size r refl s.shaped (let fits = s.sector in omega arith);
    }

-- the jobs with it
pub works_with : {series : List Request} (submitted : List Request) (sectors last fetched : ℕ) (works : List Work) (t : Work) (r : Request)
    → IsSeries submitted series
    → AreSubmitted submitted sectors last
    → AreWorks submitted series fetched works
    → IsWork submitted series (fetched + 1) t
    → slice_get series fetched ≡ Some r
    → t.id ≡ r.number
    → ((u : Work) → IsUnhindered u t)
    → AreWorks submitted series (fetched + 1) (works ++ t ∷ [])
works_with {series} submitted sectors last fetched works t r order all h here at id fresh = record {
  each = All-push (IsWork submitted series (fetched + 1)) works t (λ k d lt. one_further (h.each k d lt)) here;
  ascending = all_pairs_push (λ (a b : Work). a.id < b.id) works t h.ascending (λ k d lt. earlier (h.each k d lt));
  clear = all_pairs_push IsUnhindered works t h.clear (λ k d lt. fresh (get_or works k d));
}
  where
    one_further : {u : Work} → IsWork submitted series fetched u → IsWork submitted series (fetched + 1) u
    one_further w = record { r = w.r; known = w.known; positive = w.positive; issued = w.issued; counted = w.counted; reached = let le = w.reached in omega arith; op = w.op; at = w.at }

    earlier : {u : Work} → IsWork submitted series fetched u → u.id < t.id
    earlier {u} w =
        let less = lower series (u.number - 1) fetched w.r r order.ascending w.issued at (omega (arith, w.counted, w.reached)) in
        omega (arith, (all.each (u.id - 1) w.r w.known).number, w.positive, less, id)
