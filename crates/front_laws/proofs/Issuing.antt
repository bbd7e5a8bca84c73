-- The front writes a request's entry, and its producer: then the request is issued.
use Rattle.std.proofs.Common.{◌≡◌, ◌≢◌, ℕ, ◌+◌, ◌-◌, ◌<◌, ◌==◌, Bool, true, false, if◌then◌else◌, List, [], ◌∷◌, ◌++◌, length, take, refl, sym, ap, ◌∙◌, subst, arith}
use Rattle.std.specs.Prelude.{Option, Some, None, slice_get, slice_index}
use Rattle.std.proofs.lemmas.Option.{slice_get_within, get_or_from_slice_get}
use Rattle.std.proofs.lemmas.Bool.Decides.{nat_tests}
use Rattle.std.proofs.lemmas.List.{take_more}
use Rattle.std.proofs.Math.Seq.{take-length}
use Rattle.blk_base.specs.declared.ask.FrontAsk.TheVariants.{Write}
use Rattle.blk_base.specs.declared.ask.FrontAnswer.{FrontAnswer}
use Rattle.ring_words.specs.Ring.{next_of}
use Rattle.ring_words.specs.Shape.{Shape, entry_words_of}
use Rattle.blk_layout.specs.Places.{places_of}
use Rattle.blk_front.specs.declared.request.Request.{Request}
use Rattle.blk_front.specs.declared.stage.FrontStage.{FrontStage}
use Rattle.blk_front.specs.declared.stage.FrontStage.TheVariants as stage
use Rattle.blk_front.specs.Entry.{entry_of}
use Rattle.blk_front.specs.View.{View, next_request}
use Rattle.blk_front.specs.Ask.{entry_ask}
use Rattle.blk_front.specs.Step.{at, pushed as pushed_front}
use Rattle.front_laws.specs.Sight.{Sight, numbered, entry_id, wide, issue, wrote}
use Rattle.front_laws.proofs.Entries.{entry_number, length_entry, one_more}
use Rattle.front_laws.proofs.Known.{core_of, share_of, hand_of, parts_of, IsFine, Agree, IsSized, IsWriting, At, Known, goes, calm}
use Rattle.front_laws.proofs.Simple.{Steps, wrote_entry, next_waits, next_stands}

-- the whole entry is written, and its id is the request's number
abbrev IsWritten : Sight → View → Type 0
IsWritten s v = IsWriting (hand_of s) (next_request v) v.ring.entry v.shape (entry_words_of v.shape.abi)

pub entry_whole : (s : Sight) (v : View) (w : IsWritten s v) → s.entry ≡ entry_of v.shape.abi w.r
entry_whole s v w = w.words ∙ (ap (λ (n : ℕ). take n (entry_of v.shape.abi w.r)) (sym (length_entry v.shape.abi w.r)) ∙ take-length (entry_of v.shape.abi w.r))

pub entry_id_is : (s : Sight) (v : View) → Agree (core_of s) (share_of v) → (w : IsWritten s v) → entry_id s ≡ w.r.number
entry_id_is s v agree w =
    ap (λ (shape : Shape). wide (slice_index s.entry (places_of shape.abi).id) (slice_index s.entry ((places_of shape.abi).id + 1))) agree.shape
    ∙ (ap (λ (l : List ℕ). wide (slice_index l (places_of v.shape.abi).id) (slice_index l ((places_of v.shape.abi).id + 1))) (entry_whole s v w) ∙ entry_number v.shape.abi w.r)

module _ (s : Sight) (v : View) (quiet : v.told ≡ None) (agree : Agree (core_of s) (share_of v)) (sized : IsSized v.pool v.words) where
  pub slot_goes : (k : ℕ) (a : FrontAnswer) → At (stage.Slot k) (hand_of s) (parts_of v) → Steps s (entry_ask v v.ring.entry k) a (at (if k + 1 == entry_words_of v.shape.abi then stage.Producer else stage.Slot (k + 1)) v)
  slot_goes k a is = by_last (k + 1 == entry_words_of v.shape.abi) refl
    where
      w : IsWriting (hand_of s) (next_request v) v.ring.entry v.shape k
      w = is.1

      after : Sight
      after = record s { entry = s.entry ++ slice_index v.ring.entry k ∷ [] }

      more : s.entry ++ slice_index v.ring.entry k ∷ [] ≡ take (k + 1) (entry_of v.shape.abi w.r)
      more = one_more v.shape.abi w.r k (slice_index v.ring.entry k) s.entry is.0 w.words (ap (λ (l : List ℕ). slice_index l k) w.entry_is)

      writing : (j : ℕ) → j ≡ k + 1 → IsWriting (hand_of after) (next_request v) v.ring.entry v.shape j
      writing j same = record {
        r = w.r;
        next_is = w.next_is;
        entry_is = w.entry_is;
        within = (let lt = is.0 in omega arith);
        words = more ∙ ap (λ (n : ℕ). take n (entry_of v.shape.abi w.r)) (sym same);
        response = w.response;
        taken = w.taken;
        read = w.read;
      }

      goes_on : (t : FrontStage) → Known t after (at t v) → Steps s (entry_ask v v.ring.entry k) a (at t v)
      goes_on t known = goes s after (entry_ask v v.ring.entry k) a None (at t v) refl (wrote_entry s v.shape v.ring.indices.prod k (slice_index v.ring.entry k) agree.few is.0) (calm after (at t v) quiet known)

      by_last : (b : Bool) → (k + 1 == entry_words_of v.shape.abi) ≡ b → Steps s (entry_ask v v.ring.entry k) a (at (if b then stage.Producer else stage.Slot (k + 1)) v)
      by_last true e = goes_on stage.Producer (record { agree = agree; sized = sized; at = writing (entry_words_of v.shape.abi) (grind (arith, nat_tests)) })
      by_last false e = goes_on (stage.Slot (k + 1)) (record { agree = agree; sized = sized; at = ((let lt = is.0 in let apart : k + 1 ≢ entry_words_of v.shape.abi = grind (arith, nat_tests) in omega arith), writing (k + 1) refl) })

  -- the producer is written
  pub pushed_goes : (a : FrontAnswer) → At stage.Producer (hand_of s) (parts_of v) → Steps s (Write 2 0 (next_of v.ring.indices.prod)) a (pushed_front v)
  pushed_goes a w = goes s after (Write 2 0 (next_of v.ring.indices.prod)) a None (pushed_front v) refl so (calm after (pushed_front v) quiet known)
    where
      after : Sight
      after = record s { issued = s.issued ++ w.r ∷ []; prod = next_of v.ring.indices.prod; entry = [] }

      id : entry_id s ≡ w.r.number
      id = entry_id_is s v agree w

      stands : slice_get v.requests (length v.requests - v.waiting) ≡ Some w.r
      stands = next_stands v w.r w.next_is

      fine : IsFine s.submitted s.answered v.last w.r
      fine = subst (IsFine s.submitted s.answered v.last) (get_or_from_slice_get v.requests (length v.requests - v.waiting) w.r w.r stands) (agree.fine (length v.requests - v.waiting) w.r (slice_get_within v.requests (length v.requests - v.waiting) w.r stands))

      moves_on : (next_of v.ring.indices.prod == s.prod) ≡ false
      moves_on = let same = agree.prod in let small = agree.word in let other : next_of v.ring.indices.prod ≢ s.prod = (λ e. omega arith) in grind (arith, nat_tests)

      so : wrote 2 0 (next_of v.ring.indices.prod) s ≡ after
      so =
          ap (λ (b : Bool). if b then s else record (issue (numbered (entry_id s) s.submitted) s) { prod = next_of v.ring.indices.prod; entry = [] }) moves_on
          ∙ ap (λ (o : Option Request). record (issue o s) { prod = next_of v.ring.indices.prod; entry = [] }) (ap (λ (n : ℕ). numbered n s.submitted) id ∙ fine.known)

      some : 0 < v.waiting
      some = next_waits v w.r w.next_is

      one_more_issued : s.issued ++ w.r ∷ [] ≡ take (length v.requests - (v.waiting - 1)) v.requests
      one_more_issued =
          ap (λ (l : List Request). l ++ w.r ∷ []) agree.issued
          ∙ (ap (λ (x : Request). take (length v.requests - v.waiting) v.requests ++ x ∷ []) (sym (get_or_from_slice_get v.requests (length v.requests - v.waiting) w.r w.r stands))
          ∙ (sym (take_more v.requests (length v.requests - v.waiting) w.r (slice_get_within v.requests (length v.requests - v.waiting) w.r stands))
          ∙ ap (λ (n : ℕ). take n v.requests) (let few = agree.waits in let one = some in omega arith)))

      known : Known (stage.ProducerFence v.ring.indices.prod) after (pushed_front v)
      known = record {
        agree = record {
          start = agree.start;
          shape = agree.shape;
          prod = refl;
          cons = agree.cons;
          small = agree.small;
          word = omega arith;
          few = agree.few;
          waits = (let few = agree.waits in omega arith);
          issued = one_more_issued;
          fine = agree.fine;
          ascending = agree.ascending;
          submitted = agree.submitted;
          answered = agree.answered;
          once = agree.once;
        };
        sized = sized;
        at = record { entry = refl; response = w.response; taken = w.taken; read = w.read };
      }
