-- The words of a written entry are words of 32 bits, so its fields stand in them.
use Rattle.std.proofs.Common.{ℕ, zero, suc, ◌+◌, ◌*◌, ◌/◌, ◌%◌, ◌^◌, ◌<◌, List, [], ◌∷◌, slice_index, replicate, subst, arith}
use Rattle.blk_base.specs.declared.operation.Abi.{Abi}
use Rattle.blk_base.specs.declared.operation.Abi.TheVariants.{X64, X32}
use Rattle.blk_layout.specs.declared.segment.Segment.{Segment}
use Rattle.blk_layout.specs.declared.request.RawRequest.{RawRequest}
use Rattle.blk_layout.specs.declared.request.RawRequest.TheVariants.{Direct, Discard, Indirect}
use Rattle.blk_layout.specs.Field.{StandFor}
use Rattle.blk_layout.specs.Entry.{fields_of, words_of}
use Rattle.blk_layout.specs.Range.{IsInRange, AreSegments, AreWords}
use Rattle.blk_layout.proofs.Laid.{eleven, eight}
use Rattle.blk_layout.proofs.Standing.{read_stands}
use Rattle.blk_layout.proofs.Back.{reads_back}

-- a word of a list of words, or 0 after its end
each_fits : (words : List ℕ) → AreWords words → (i : ℕ) → slice_index words i < 2 ^ 32
each_fits [] r i = omega arith
each_fits (w ∷ words) r zero = r.0
each_fits (w ∷ words) r (suc i) = each_fits words r.1 i

head_fits : (op second third : ℕ) → op < 2 ^ 8 → second < 2 ^ 8 → third < 2 ^ 16 → op * 1 + (second * 2 ^ 8 + (third * 2 ^ 16 + 0)) < 2 ^ 32
head_fits op second third a b c = omega arith

low_fits : (n : ℕ) → n % 2 ^ 32 * 1 + 0 < 2 ^ 32
low_fits n = omega arith

high_fits : (n : ℕ) → n < 2 ^ 64 → n / 2 ^ 32 * 1 + 0 < 2 ^ 32
high_fits n fits = omega arith

abbrev segment_words_again : List Segment → List ℕ
segment_words_again [] = []
segment_words_again (s ∷ segments) = (s.gref * 1 + 0) ∷ (s.first * 1 + (s.last * 2 ^ 8 + 0)) ∷ segment_words_again segments

segments_fit : (segments : List Segment) → AreSegments segments → AreWords (segment_words_again segments)
segments_fit [] r = tt
segments_fit (s ∷ segments) r =
    let gref = r.0 in let first = r.1 in let last = r.2 in
    (omega arith, (omega arith, segments_fit segments r.3))

zeros_fit : (n : ℕ) → AreWords (replicate n 0)
zeros_fit zero = tt
zeros_fit (suc n) = (omega arith, zeros_fit n)

abbrev page_words_again : List ℕ → List ℕ → List ℕ
page_words_again [] rest = rest
page_words_again (n ∷ ns) rest = (n * 1 + 0) ∷ page_words_again ns rest

pages_fit : (ns rest : List ℕ) → AreWords ns → AreWords rest → AreWords (page_words_again ns rest)
pages_fit [] rest r s = s
pages_fit (n ∷ ns) rest r s = let fits = r.0 in (omega arith, pages_fit ns rest r.1 s)

none_fits : 0 < 2 ^ 32
none_fits = omega arith

direct_fits : (abi : Abi) (op count device id sector : ℕ) (segments : List Segment) → IsInRange (Direct op count device id sector segments) → AreWords (words_of abi (Direct op count device id sector segments))
unfolding words_of
direct_fits X64 op count device id sector segments r =
    eleven (λ xs. AreSegments xs → AreWords (words_of X64 (Direct op count device id sector xs)))
    (λ a b c d e f g h i j k s. (head_fits op count device r.0 r.3 r.4, (none_fits, (low_fits id, (high_fits id r.5, (low_fits sector, (high_fits sector r.6, segments_fit (a ∷ b ∷ c ∷ d ∷ e ∷ f ∷ g ∷ h ∷ i ∷ j ∷ k ∷ []) s)))))))
    segments r.7 r.8
direct_fits X32 op count device id sector segments r =
    eleven (λ xs. AreSegments xs → AreWords (words_of X32 (Direct op count device id sector xs)))
    (λ a b c d e f g h i j k s. (head_fits op count device r.0 r.3 r.4, (low_fits id, (high_fits id r.5, (low_fits sector, (high_fits sector r.6, segments_fit (a ∷ b ∷ c ∷ d ∷ e ∷ f ∷ g ∷ h ∷ i ∷ j ∷ k ∷ []) s))))))
    segments r.7 r.8

discard_fits : (abi : Abi) (flag device id sector count : ℕ) → IsInRange (Discard flag device id sector count) → AreWords (words_of abi (Discard flag device id sector count))
unfolding words_of
discard_fits X64 flag device id sector count r =
    (head_fits 5 flag device (omega arith) r.0 r.1, (none_fits, (low_fits id, (high_fits id r.2, (low_fits sector, (high_fits sector r.3, (low_fits count, (high_fits count r.4, zeros_fit 20))))))))
discard_fits X32 flag device id sector count r =
    (head_fits 5 flag device (omega arith) r.0 r.1, (low_fits id, (high_fits id r.2, (low_fits sector, (high_fits sector r.3, (low_fits count, (high_fits count r.4, zeros_fit 20)))))))

indirect_fits : (abi : Abi) (op count device id sector : ℕ) (pages : List ℕ) → IsInRange (Indirect op count device id sector pages) → AreWords (words_of abi (Indirect op count device id sector pages))
unfolding words_of
indirect_fits X64 op count device id sector pages r =
    let small = r.2 in
    eight (λ xs. AreWords xs → AreWords (words_of X64 (Indirect op count device id sector xs)))
    (λ a b c d e f g h s. (head_fits 6 op count (omega arith) r.0 r.1, (none_fits, (low_fits id, (high_fits id r.3, (low_fits sector, (high_fits sector r.4, (omega arith, pages_fit (a ∷ b ∷ c ∷ d ∷ e ∷ f ∷ g ∷ h ∷ []) (replicate 13 0) s (zeros_fit 13)))))))))
    pages r.5 r.6
indirect_fits X32 op count device id sector pages r =
    let small = r.2 in
    eight (λ xs. AreWords xs → AreWords (words_of X32 (Indirect op count device id sector xs)))
    (λ a b c d e f g h s. (head_fits 6 op count (omega arith) r.0 r.1, (low_fits id, (high_fits id r.3, (low_fits sector, (high_fits sector r.4, (omega arith, pages_fit (a ∷ b ∷ c ∷ d ∷ e ∷ f ∷ g ∷ h ∷ []) (replicate 13 0) s (zeros_fit 13))))))))
    pages r.5 r.6

words_fit : (abi : Abi) (raw : RawRequest) → IsInRange raw → AreWords (words_of abi raw)
words_fit abi (Direct op count device id sector segments) r = direct_fits abi op count device id sector segments r
words_fit abi (Discard flag device id sector count) r = discard_fits abi flag device id sector count r
words_fit abi (Indirect op count device id sector pages) r = indirect_fits abi op count device id sector pages r

-- each field of a request stands in the words that are written of it
pub written_stands : (abi : Abi) (raw : RawRequest) → IsInRange raw → StandFor (words_of abi raw) (fields_of abi raw)
written_stands abi raw r =
    subst (λ q. StandFor (words_of abi raw) (fields_of abi q)) (reads_back abi raw r) (read_stands abi (words_of abi raw) (each_fits (words_of abi raw) (words_fit abi raw r)))
