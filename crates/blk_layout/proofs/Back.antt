-- Reading gives back what was written.
use Rattle.std.proofs.Common.{◌≡◌, ℕ, zero, suc, ◌+◌, ◌*◌, ◌/◌, ◌%◌, ◌^◌, ◌<◌, List, [], ◌∷◌, length, refl, ap, arith}
use Rattle.std.proofs.lemmas.Bool.{ne_eqb}
use Rattle.blk_base.specs.declared.operation.Abi.{Abi}
use Rattle.blk_base.specs.declared.operation.Abi.TheVariants.{X64, X32}
use Rattle.blk_layout.specs.declared.segment.Segment.{Segment}
use Rattle.blk_layout.specs.declared.request.RawRequest.{RawRequest}
use Rattle.blk_layout.specs.declared.request.RawRequest.TheVariants.{Direct, Discard, Indirect}
use Rattle.blk_layout.specs.Field.{Field, written_from}
use Rattle.blk_layout.specs.Places.{places_of}
use Rattle.blk_layout.specs.Entry.{segment_of, fields_of, segments_at, pages_at, words_of, request_of}
use Rattle.blk_layout.specs.Range.{IsInRange, AreSegments}
use Rattle.blk_layout.proofs.Laid.{eleven, eight}

pub length-written_from : (count : ℕ) (fields : List Field) (word : ℕ) → length (written_from fields word count) ≡ count
length-written_from zero fields word = refl
length-written_from (suc count) fields word = let h = length-written_from count fields (word + 1) in omega arith

pub length-words_of : (abi : Abi) (raw : RawRequest) → length (words_of abi raw) ≡ (places_of abi).end
unfolding words_of
length-words_of abi raw = length-written_from (places_of abi).end (fields_of abi raw) 0

first : (op second third : ℕ) → op < 2 ^ 8 → second < 2 ^ 8 → third < 2 ^ 16 → (op * 1 + (second * 2 ^ 8 + (third * 2 ^ 16 + 0))) % 2 ^ 8 ≡ op
first op second third a b c = omega arith

middle : (op second third : ℕ) → op < 2 ^ 8 → second < 2 ^ 8 → third < 2 ^ 16 → (op * 1 + (second * 2 ^ 8 + (third * 2 ^ 16 + 0))) / 2 ^ 8 % 2 ^ 8 ≡ second
middle op second third a b c = omega arith

last : (op second third : ℕ) → op < 2 ^ 8 → second < 2 ^ 8 → third < 2 ^ 16 → (op * 1 + (second * 2 ^ 8 + (third * 2 ^ 16 + 0))) / 2 ^ 16 % 2 ^ 16 ≡ third
last op second third a b c = omega arith

double : (n : ℕ) → (n % 2 ^ 32 * 1 + 0) + (n / 2 ^ 32 * 1 + 0) * 2 ^ 32 ≡ n
double n = omega arith

once : (n : ℕ) → n * 1 + 0 ≡ n
once n = omega arith

same_segment : (s : Segment) → s.first < 2 ^ 8 → s.last < 2 ^ 8 → segment_of (s.gref * 1 + 0) (s.first * 1 + (s.last * 2 ^ 8 + 0)) ≡ s
same_segment s f l =
    let a : (s.first * 1 + (s.last * 2 ^ 8 + 0)) % 2 ^ 8 ≡ s.first = omega arith in
    let b : (s.first * 1 + (s.last * 2 ^ 8 + 0)) / 2 ^ 8 % 2 ^ 8 ≡ s.last = omega arith in
    rw (once s.gref, a, b) refl

-- segments and pages as they are read again
abbrev reread : List Segment → List Segment
reread [] = []
reread (s ∷ segments) = segment_of (s.gref * 1 + 0) (s.first * 1 + (s.last * 2 ^ 8 + 0)) ∷ reread segments

reread_same : (segments : List Segment) → AreSegments segments → reread segments ≡ segments
reread_same [] r = refl
reread_same (s ∷ segments) r = rw (same_segment s r.1 r.2, reread_same segments r.3) refl

abbrev again : List ℕ → List ℕ
again [] = []
again (n ∷ ns) = (n * 1 + 0) ∷ again ns

again_same : (ns : List ℕ) → again ns ≡ ns
again_same [] = refl
again_same (n ∷ ns) = rw (once n, again_same ns) refl

pub discard_back : (abi : Abi) (flag device id sector count : ℕ) → IsInRange (Discard flag device id sector count) → request_of abi (words_of abi (Discard flag device id sector count)) ≡ Discard flag device id sector count
unfolding words_of request_of
discard_back X64 flag device id sector count r =
    rw (first 5 flag device (omega arith) r.0 r.1, middle 5 flag device (omega arith) r.0 r.1, last 5 flag device (omega arith) r.0 r.1, double id, double sector, double count) refl
discard_back X32 flag device id sector count r =
    rw (first 5 flag device (omega arith) r.0 r.1, middle 5 flag device (omega arith) r.0 r.1, last 5 flag device (omega arith) r.0 r.1, double id, double sector, double count) refl

pub direct_back : (abi : Abi) (op count device id sector : ℕ) (segments : List Segment) → IsInRange (Direct op count device id sector segments) → request_of abi (words_of abi (Direct op count device id sector segments)) ≡ Direct op count device id sector segments
unfolding words_of request_of segments_at
direct_back X64 op count device id sector segments r =
    eleven (λ xs. AreSegments xs → request_of X64 (words_of X64 (Direct op count device id sector xs)) ≡ Direct op count device id sector xs)
    (λ a b c d e f g h i j k s.
    rw (first op count device r.0 r.3 r.4, middle op count device r.0 r.3 r.4, last op count device r.0 r.3 r.4, ne_eqb op 5 r.1, ne_eqb op 6 r.2, double id, double sector)
    (ap (λ ss. Direct op count device id sector ss) (reread_same (a ∷ b ∷ c ∷ d ∷ e ∷ f ∷ g ∷ h ∷ i ∷ j ∷ k ∷ []) s)))
    segments r.7 r.8
direct_back X32 op count device id sector segments r =
    eleven (λ xs. AreSegments xs → request_of X32 (words_of X32 (Direct op count device id sector xs)) ≡ Direct op count device id sector xs)
    (λ a b c d e f g h i j k s.
    rw (first op count device r.0 r.3 r.4, middle op count device r.0 r.3 r.4, last op count device r.0 r.3 r.4, ne_eqb op 5 r.1, ne_eqb op 6 r.2, double id, double sector)
    (ap (λ ss. Direct op count device id sector ss) (reread_same (a ∷ b ∷ c ∷ d ∷ e ∷ f ∷ g ∷ h ∷ i ∷ j ∷ k ∷ []) s)))
    segments r.7 r.8

half : (n : ℕ) → n < 2 ^ 16 → (n * 1 + 0) % 2 ^ 16 ≡ n
half n fits = omega arith

pub indirect_back : (abi : Abi) (op count device id sector : ℕ) (pages : List ℕ) → IsInRange (Indirect op count device id sector pages) → request_of abi (words_of abi (Indirect op count device id sector pages)) ≡ Indirect op count device id sector pages
unfolding words_of request_of pages_at
indirect_back X64 op count device id sector pages r =
    eight (λ xs. request_of X64 (words_of X64 (Indirect op count device id sector xs)) ≡ Indirect op count device id sector xs)
    (λ a b c d e f g h.
    rw (first 6 op count (omega arith) r.0 r.1, middle 6 op count (omega arith) r.0 r.1, last 6 op count (omega arith) r.0 r.1, double id, double sector, half device r.2)
    (ap (λ ps. Indirect op count device id sector ps) (again_same (a ∷ b ∷ c ∷ d ∷ e ∷ f ∷ g ∷ h ∷ []))))
    pages r.5
indirect_back X32 op count device id sector pages r =
    eight (λ xs. request_of X32 (words_of X32 (Indirect op count device id sector xs)) ≡ Indirect op count device id sector xs)
    (λ a b c d e f g h.
    rw (first 6 op count (omega arith) r.0 r.1, middle 6 op count (omega arith) r.0 r.1, last 6 op count (omega arith) r.0 r.1, double id, double sector, half device r.2)
    (ap (λ ps. Indirect op count device id sector ps) (again_same (a ∷ b ∷ c ∷ d ∷ e ∷ f ∷ g ∷ h ∷ []))))
    pages r.5

pub reads_back : (abi : Abi) (raw : RawRequest) → IsInRange raw → request_of abi (words_of abi raw) ≡ raw
reads_back abi (Direct op count device id sector segments) r = direct_back abi op count device id sector segments r
reads_back abi (Discard flag device id sector count) r = discard_back abi flag device id sector count r
reads_back abi (Indirect op count device id sector pages) r = indirect_back abi op count device id sector pages r
