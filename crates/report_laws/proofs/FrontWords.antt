-- The words of a request's entry and of its indirect pages have 32 bits.
use Rattle.std.proofs.Common.{◌≡◌, ℕ, zero, suc, ◌≤◌, ◌+◌, ◌*◌, ◌/◌, ◌%◌, ◌^◌, ◌<◌, Bool, true, false, if◌then◌else◌, List, [], ◌∷◌, map, refl, arith}
use Rattle.std.specs.Prelude.{All, Option, Some, None, slice_get}
use Rattle.std.specs.List.{AllByRecursion, range_with_len}
use Rattle.std.proofs.lemmas.Bool.Decides.{nat_tests}
use Rattle.blk_base.specs.declared.operation.Abi.{Abi}
use Rattle.blk_base.specs.declared.operation.Abi.TheVariants.{X64, X32}
use Rattle.blk_layout.specs.Entry.{words_of}
use Rattle.blk_layout.specs.Written.{segment_words_of}
use Rattle.blk_layout.specs.declared.request.RawRequest.TheVariants.{Direct, Discard, Indirect}
use Rattle.blk_layout.specs.declared.segment.Segment.{Segment}
use Rattle.blk_front.specs.declared.request.Request.{Request}
use Rattle.blk_front.specs.declared.request.Transfer.{Transfer}
use Rattle.blk_front.specs.declared.request.Transfer.TheVariants as transfer
use Rattle.blk_front.specs.Request.{operation_of, named_of, segments_of, grant_flags, frames_for, segment_in, segment_at, is_indirect, reference_in, page_reference, page_references}
use Rattle.blk_front.specs.Entry.{entry_as}
use Rattle.machine_pipeline.proofs.Lists.{all_at}

-- the words of a request's entry
high_half : (n : ℕ) → n < 2 ^ 64 → n / 2 ^ 32 * 1 + 0 < 2 ^ 32
high_half n fits = omega arith

low_half : (n : ℕ) → n % 2 ^ 32 * 1 + 0 < 2 ^ 32
low_half n = omega arith

none_fits : 0 < 2 ^ 32
none_fits = omega arith

pub flags_few : (way : Transfer) → grant_flags way ≤ 5
flags_few (transfer.Write tag) = omega arith
flags_few way = omega arith

-- a segment's words, and those of none
segment_few : (count place : ℕ) (frame : Option ℕ) → ((f : ℕ) → frame ≡ Some f → f < 1018) → (let s : Segment = segment_in count place frame in (s.gref < 1024) × (s.first ≡ 0) × (s.last ≤ 7))
segment_few count place None shared = (omega arith, refl, omega arith)
segment_few count place (Some frame) shared = let low = shared frame refl in (omega arith, refl, omega arith)

gref_fits : (r : Request) (place : ℕ) → All (λ (frame : ℕ). frame < 1018) r.frames.items → (let s : Segment = segment_at r place in s.gref * 1 + 0 < 2 ^ 32)
gref_fits r place all = let few = segment_few r.count place (slice_get r.frames.items place) (λ f e. all_at (λ (frame : ℕ). frame < 1018) r.frames.items place f all e) in omega (arith, few.0)

ends_fit : (r : Request) (place : ℕ) → All (λ (frame : ℕ). frame < 1018) r.frames.items → (let s : Segment = segment_at r place in s.first * 1 + (s.last * 256 + 0) < 2 ^ 32)
ends_fit r place all = let few = segment_few r.count place (slice_get r.frames.items place) (λ f e. all_at (λ (frame : ℕ). frame < 1018) r.frames.items place f all e) in omega (arith, few.1, few.2)

-- as its indirect pages hold them
pub words_fit : (r : Request) (place : ℕ) → All (λ (frame : ℕ). frame < 1018) r.frames.items → AllByRecursion (λ (v : ℕ). v < 2 ^ 32) (segment_words_of (segment_at r place))
words_fit r place all =
    let few = segment_few r.count place (slice_get r.frames.items place) (λ f e. all_at (λ (frame : ℕ). frame < 1018) r.frames.items place f all e) in
    (omega (arith, few.0), (omega (arith, few.1, few.2), tt))

operation_few : (way : Transfer) → operation_of way ≤ 5
operation_few transfer.Read = omega arith
operation_few other = omega arith

first_fits : (op frames : ℕ) → op ≤ 5 → frames ≤ 11 → op * 1 + (frames * 256 + 3388997632) < 2 ^ 32
first_fits op frames small few = omega arith

-- two words for each segment
abbrev segment_words : List Segment → List ℕ
segment_words [] = []
segment_words (s ∷ segments) = (s.gref * 1 + 0) ∷ (s.first * 1 + (s.last * 256 + 0)) ∷ segment_words segments

segments_fit : (r : Request) (places : List ℕ) → All (λ (frame : ℕ). frame < 1018) r.frames.items → AllByRecursion (λ (v : ℕ). v < 2 ^ 32) (segment_words (map (segment_at r) places))
segments_fit r [] all = tt
segments_fit r (place ∷ places) all = (gref_fits r place all, (ends_fit r place all, segments_fit r places all))

-- under each layout: the first word, one that is 0 where 64-bit fields need it, the id, the sector and eleven segments
direct_words : (abi : Abi) (op : ℕ) (r : Request) → op ≤ 5 → r.number < 2 ^ 64 → r.sector < 2 ^ 64 → frames_for r.count ≤ 11 → All (λ (frame : ℕ). frame < 1018) r.frames.items
    → AllByRecursion (λ (v : ℕ). v < 2 ^ 32) (words_of abi (Direct op (frames_for r.count) 51712 r.number r.sector (segments_of r)))
unfolding words_of
direct_words X64 op r small number sector few all =
    (first_fits op (frames_for r.count) small few, (none_fits, (low_half r.number, (high_half r.number number, (low_half r.sector, (high_half r.sector sector, segments_fit r (range_with_len 0 11) all))))))
direct_words X32 op r small number sector few all =
    (first_fits op (frames_for r.count) small few, (low_half r.number, (high_half r.number number, (low_half r.sector, (high_half r.sector sector, segments_fit r (range_with_len 0 11) all)))))

-- a discard has its count in their place, and then zeros
abbrev zeros : ℕ → List ℕ
zeros zero = []
zeros (suc n) = 0 ∷ zeros n

zeros_fit : (n : ℕ) → AllByRecursion (λ (v : ℕ). v < 2 ^ 32) (zeros n)
zeros_fit zero = tt
zeros_fit (suc n) = (none_fits, zeros_fit n)

discard_words : (abi : Abi) (number sector sectors : ℕ) → number < 2 ^ 64 → sector < 2 ^ 64 → sectors < 2 ^ 64 → AllByRecursion (λ (v : ℕ). v < 2 ^ 32) (words_of abi (Discard 0 51712 number sector sectors))
unfolding words_of
discard_words X64 number sector sectors numbered placed long =
    (first_fits 5 0 (omega arith) (omega arith), (none_fits, (low_half number, (high_half number numbered, (low_half sector, (high_half sector placed, (low_half sectors, (high_half sectors long, zeros_fit 20))))))))
discard_words X32 number sector sectors numbered placed long =
    (first_fits 5 0 (omega arith) (omega arith), (low_half number, (high_half number numbered, (low_half sector, (high_half sector placed, (low_half sectors, (high_half sectors long, zeros_fit 20)))))))

-- one through indirect pages has their references, of which each is that of a frame or 0
reference_fits : (r : Request) (page : ℕ) → All (λ (frame : ℕ). frame < 1018) r.frames.items → page_reference r page * 1 + 0 < 2 ^ 32
reference_fits r page all = by_frame (slice_get r.frames.items (frames_for r.count + page)) refl
  where
    by_frame : (frame : Option ℕ) → slice_get r.frames.items (frames_for r.count + page) ≡ frame → reference_in frame * 1 + 0 < 2 ^ 32
    by_frame None e = omega arith
    by_frame (Some frame) e = let shared = all_at (λ (f : ℕ). f < 1018) r.frames.items (frames_for r.count + page) frame all e in omega arith

-- and zeros follow them
abbrev page_words : List ℕ → List ℕ
page_words [] = zeros 13
page_words (gref ∷ pages) = (gref * 1 + 0) ∷ page_words pages

pages_fit : (r : Request) (pages : List ℕ) → All (λ (frame : ℕ). frame < 1018) r.frames.items → AllByRecursion (λ (v : ℕ). v < 2 ^ 32) (page_words (map (page_reference r) pages))
pages_fit r [] all = zeros_fit 13
pages_fit r (page ∷ pages) all = (reference_fits r page all, pages_fit r pages all)

named_fits : (op frames : ℕ) → op ≤ 5 → frames ≤ 960 → 6 + (op * 256 + (frames * 65536 + 0)) < 2 ^ 32
named_fits op frames small few = omega arith

indirect_words : (abi : Abi) (op : ℕ) (r : Request) → op ≤ 5 → r.number < 2 ^ 64 → r.sector < 2 ^ 64 → frames_for r.count ≤ 960 → All (λ (frame : ℕ). frame < 1018) r.frames.items
    → AllByRecursion (λ (v : ℕ). v < 2 ^ 32) (words_of abi (Indirect op (frames_for r.count) 51712 r.number r.sector (page_references r)))
unfolding words_of
indirect_words X64 op r small number sector few all =
    (named_fits op (frames_for r.count) small few, (none_fits, (low_half r.number, (high_half r.number number, (low_half r.sector, (high_half r.sector sector, (omega arith, pages_fit r (range_with_len 0 8) all)))))))
indirect_words X32 op r small number sector few all =
    (named_fits op (frames_for r.count) small few, (low_half r.number, (high_half r.number number, (low_half r.sector, (high_half r.sector sector, (omega arith, pages_fit r (range_with_len 0 8) all))))))

moved_words : (abi : Abi) (op : ℕ) (r : Request) → op ≤ 5 → r.number < 2 ^ 64 → r.sector < 2 ^ 64 → r.count ≤ 7680 → All (λ (frame : ℕ). frame < 1018) r.frames.items → (b : Bool) → is_indirect r.count ≡ b
    → AllByRecursion (λ (v : ℕ). v < 2 ^ 32) (words_of abi (if b then Indirect op (frames_for r.count) 51712 r.number r.sector (page_references r) else Direct op (frames_for r.count) 51712 r.number r.sector (segments_of r)))
moved_words abi op r small number sector count all true e = indirect_words abi op r small number sector (omega arith) all
moved_words abi op r small number sector count all false e = direct_words abi op r small number sector (grind (arith, nat_tests)) all

pub entry_words : (abi : Abi) (way : Transfer) (r : Request) → r.number < 2 ^ 64 → r.sector < 2 ^ 64 → r.count ≤ 7680 → named_of way r.count < 2 ^ 32 → All (λ (frame : ℕ). frame < 1018) r.frames.items → AllByRecursion (λ (v : ℕ). v < 2 ^ 32) (words_of abi (entry_as way r))
entry_words abi (transfer.Discard sectors) r number sector count named all = discard_words abi r.number r.sector sectors number sector (omega arith)
entry_words abi way r number sector count named all = moved_words abi (operation_of way) r (operation_few way) number sector count all (is_indirect r.count) refl
