-- The words of an entry: how many they are, and the id that they hold.
use Rattle.std.proofs.Common.{◌≡◌, ℕ, ◌+◌, ◌*◌, ◌/◌, ◌%◌, ◌^◌, ◌<◌, Bool, true, false, if◌then◌else◌, List, [], ◌∷◌, ◌++◌, length, take, sym, arith}
use Rattle.std.specs.Prelude.{slice_index}
use Rattle.std.proofs.lemmas.List.{take_more}
use Rattle.blk_base.specs.declared.operation.Abi.{Abi}
use Rattle.blk_base.specs.declared.operation.Abi.TheVariants.{X64, X32}
use Rattle.ring_words.specs.Shape.{entry_words_of}
use Rattle.blk_layout.specs.Entry.{words_of}
use Rattle.blk_layout.specs.Places.{places_of}
use Rattle.blk_layout.specs.declared.request.RawRequest.TheVariants.{Direct, Discard, Indirect}
use Rattle.blk_layout.proofs.Back.{length-words_of}
use Rattle.blk_front.specs.declared.request.Request.{Request}
use Rattle.blk_front.specs.declared.request.Transfer.{Transfer}
use Rattle.blk_front.specs.declared.request.Transfer.TheVariants as transfer
use Rattle.blk_front.specs.Request.{frames_for, is_indirect, segments_of, page_references}
use Rattle.blk_front.specs.Entry.{entry_as, entry_request, entry_of}
use Rattle.front_laws.specs.Sight.{wide}

-- the words of the id in an entry
abbrev id_in : Abi → List ℕ → ℕ
id_in abi entry = wide (slice_index entry (places_of abi).id) (slice_index entry ((places_of abi).id + 1))

both_halves : (n : ℕ) → n % 2 ^ 32 * 1 + 0 + (n / 2 ^ 32 * 1 + 0) * 2 ^ 32 ≡ n
both_halves n = omega arith

discard_id : (abi : Abi) (r : Request) (sectors : ℕ) → id_in abi (words_of abi (Discard 0 51712 r.number r.sector sectors)) ≡ r.number
unfolding words_of
discard_id X64 r sectors = both_halves r.number
discard_id X32 r sectors = both_halves r.number

indirect_id : (abi : Abi) (r : Request) (op count : ℕ) → id_in abi (words_of abi (Indirect op count 51712 r.number r.sector (page_references r))) ≡ r.number
unfolding words_of
indirect_id X64 r op count = both_halves r.number
indirect_id X32 r op count = both_halves r.number

direct_id : (abi : Abi) (r : Request) (op count : ℕ) → id_in abi (words_of abi (Direct op count 51712 r.number r.sector (segments_of r))) ≡ r.number
unfolding words_of
direct_id X64 r op count = both_halves r.number
direct_id X32 r op count = both_halves r.number

moved_id : (abi : Abi) (r : Request) (op : ℕ) (b : Bool) → id_in abi (words_of abi (if b then Indirect op (frames_for r.count) 51712 r.number r.sector (page_references r) else Direct op (frames_for r.count) 51712 r.number r.sector (segments_of r))) ≡ r.number
moved_id abi r op true = indirect_id abi r op (frames_for r.count)
moved_id abi r op false = direct_id abi r op (frames_for r.count)

way_id : (abi : Abi) (r : Request) (way : Transfer) → id_in abi (words_of abi (entry_as way r)) ≡ r.number
way_id abi r (transfer.Discard sectors) = discard_id abi r sectors
way_id abi r transfer.Read = moved_id abi r 0 (is_indirect r.count)
way_id abi r (transfer.Write tag) = moved_id abi r 1 (is_indirect r.count)
way_id abi r (transfer.Barrier tag) = moved_id abi r 2 (is_indirect r.count)
way_id abi r transfer.Flush = moved_id abi r 3 (is_indirect r.count)

pub entry_number : (abi : Abi) (r : Request) → wide (slice_index (entry_of abi r) (places_of abi).id) (slice_index (entry_of abi r) ((places_of abi).id + 1)) ≡ r.number
entry_number abi r = way_id abi r r.transfer

pub length_entry : (abi : Abi) (r : Request) → length (entry_of abi r) ≡ entry_words_of abi
length_entry X64 r = length-words_of X64 (entry_request r)
length_entry X32 r = length-words_of X32 (entry_request r)

-- one word more of the entry
pub one_more : (abi : Abi) (r : Request) (k word : ℕ) (entry : List ℕ) → k < entry_words_of abi → entry ≡ take k (entry_of abi r) → word ≡ slice_index (entry_of abi r) k → entry ++ word ∷ [] ≡ take (k + 1) (entry_of abi r)
one_more abi r k word entry lt begun here = rw (begun, here) (sym (take_more (entry_of abi r) k 0 (let all = length_entry abi r in omega arith)))
