-- The front looks for responses, takes one, and ends its request's grants.
use Rattle.std.proofs.Common.{◌≡◌, ◌≢◌, ℕ, suc, ◌+◌, ◌-◌, ◌*◌, ◌/◌, ◌^◌, ◌<◌, ◌≤◌, ◌==◌, Bool, true, false, if◌then◌else◌, List, [], ◌∷◌, ◌++◌, length, take, get_or, refl, sym, ap, ◌∙◌, subst, arith}
use Rattle.std.specs.Prelude.{All, Option, Some, None, nat_lt, position, remove}
use Rattle.std.specs.Option.{option_map}
use Rattle.std.proofs.lemmas.Option.{slice_get_within, get_or_from_slice_get}
use Rattle.std.proofs.lemmas.Bool.Decides.{nat_tests}
use Rattle.std.proofs.lemmas.List.Edits.{length-remove}
use Rattle.std.proofs.lemmas.List.Elements.{All-push}
use Rattle.std.proofs.lemmas.List.Quantifiers.{all_pairs_push}
use Rattle.blk_base.specs.Distance.{distance_of}
use Rattle.blk_base.specs.declared.operation.Status.{Status}
use Rattle.blk_base.specs.declared.ask.FrontAsk.TheVariants.{Read}
use Rattle.blk_base.specs.declared.ask.FrontAnswer.TheVariants as answer
use Rattle.ring_words.specs.Ring.{next_of}
use Rattle.blk_layout.specs.Response.{status_of, response_with}
use Rattle.resume_shadow.proofs.Order.{remove_ascending}
use Rattle.blk_front.specs.declared.request.Request.{Request}
use Rattle.blk_front.specs.declared.stage.FrontStage.TheVariants as stage
use Rattle.blk_front.specs.declared.told.Told.TheVariants as told
use Rattle.blk_front.specs.Sound.{IsApart}
use Rattle.blk_front.specs.View.{View}
use Rattle.blk_front.specs.Ask.{response_ask}
use Rattle.blk_front.specs.Step.{at, broken, looked, found_at, issued, freed, revokes, answered, taken, response_at}
use Rattle.blk_front.proofs.Numbers.{remove_all}
use Rattle.blk_front.proofs.Order.{removed_apart}
use Rattle.blk_front.proofs.Shapes.{wide_entries}
use Rattle.front_laws.specs.Sight.{Sight, numbered, without, response_taken, response_read, moved}
use Rattle.front_laws.specs.Told.{told_of, told_of_response, told_after_response}
use Rattle.front_laws.proofs.Lists.{is_numbered, IsAmong, LooksUp, looked_up}
use Rattle.front_laws.proofs.Places.{slot_near, slot_far, slot_past}
use Rattle.front_laws.proofs.Known.{core_of, share_of, hand_of, IsFine, Agree, IsSized, Idle, IsReading, Known, Knows, Goes, goes, calm}
use Rattle.front_laws.proofs.Simple.{Steps}

-- a request that is fine stays so when another one is answered
fine_after : (submitted : List Request) (before : List ℕ) (last id : ℕ) (r : Request) → id ≢ r.number → IsFine submitted before last r → IsFine submitted (before ++ id ∷ []) last r
fine_after submitted before last id r other h = record {
  pooled = h.pooled;
  counted = h.counted;
  given = h.given;
  known = h.known;
  unanswered = All-push (λ (n : ℕ). n ≢ r.number) before id h.unanswered other;
}

pub all_after : (submitted : List Request) (before : List ℕ) (last id : ℕ) (l : List Request) → All (λ (r : Request). r.number ≢ id) l → All (IsFine submitted before last) l → All (IsFine submitted (before ++ id ∷ []) last) l
all_after submitted before last id l others h = λ k d lt. fine_after submitted before last id (get_or l k d) (λ same. others k d lt (sym same)) (h k d lt)

module _ (s : Sight) (v : View) (quiet : v.told ≡ None) (agree : Agree (core_of s) (share_of v)) (sized : IsSized v.pool v.words) where
  -- the responses' producer is read
  pub looks : (prod : ℕ) (otherwise : View) → otherwise.told ≡ None → Knows s otherwise → Known stage.Loop s (at stage.Loop v) → Steps s (Read 2 2) (answer.Word prod) (looked v prod otherwise)
  looks prod otherwise still none some = by_test (nat_lt (distance_of v.ring.indices.cons v.ring.indices.prod) (distance_of v.ring.indices.cons prod)) due
    where
      due : nat_lt (distance_of s.cons s.prod) (distance_of s.cons prod) ≡ nat_lt (distance_of v.ring.indices.cons v.ring.indices.prod) (distance_of v.ring.indices.cons prod)
      due = ap (λ (c : ℕ). nat_lt (distance_of c s.prod) (distance_of c prod)) agree.cons ∙ ap (λ (p : ℕ). nat_lt (distance_of v.ring.indices.cons p) (distance_of v.ring.indices.cons prod)) agree.prod

      by_new : (b : Bool) → Goes s None (if b then otherwise else record v { ring = record v.ring { seen = prod }; stage = stage.Loop })
      by_new true = calm s otherwise still none
      by_new false = calm s (record v { ring = record v.ring { seen = prod }; stage = stage.Loop }) quiet some

      by_test : (b : Bool) → nat_lt (distance_of s.cons s.prod) (distance_of s.cons prod) ≡ b → Steps s (Read 2 2) (answer.Word prod) (if b then broken prod v else (if prod == v.ring.indices.cons then otherwise else record v { ring = record v.ring { seen = prod }; stage = stage.Loop }))
      by_test true e = goes s s (Read 2 2) (answer.Word prod) (Some (told.Broken prod)) (broken prod v) (ap (λ (b : Bool). if b then Some (told.Broken prod) else None) e) refl (record { told = refl; knows = agree.once })
      by_test false e = goes s s (Read 2 2) (answer.Word prod) None (if prod == v.ring.indices.cons then otherwise else record v { ring = record v.ring { seen = prod }; stage = stage.Loop }) (ap (λ (b : Bool). if b then Some (told.Broken prod) else None) e) refl (by_new (prod == v.ring.indices.cons))

  -- a word of the response at the consumer is read
  read_entry : (i value : ℕ) → i < 3 → moved (response_ask v i) (answer.Word value) s ≡ response_read (s.response ++ value ∷ []) s
  read_entry i value few = rw (slot_near v.shape v.ring.indices.cons i, slot_far v.shape v.ring.indices.cons i agree.few (let wide = wide_entries v.shape.abi in omega arith), slot_past v.shape v.ring.indices.cons i) refl

  told_entry : (i value : ℕ) → i < 3 → told_of s (response_ask v i) (answer.Word value) ≡ told_after_response s (s.response ++ value ∷ [])
  told_entry i value few = rw (slot_near v.shape v.ring.indices.cons i, slot_far v.shape v.ring.indices.cons i agree.few (let wide = wide_entries v.shape.abi in omega arith), slot_past v.shape v.ring.indices.cons i) refl

  -- its first word, and its second
  pub first_goes : (low : ℕ) → Idle (hand_of s) → Steps s (response_ask v 0) (answer.Word low) (at (stage.ResponseHigh low) v)
  first_goes low idle =
      goes s (record s { response = low ∷ [] }) (response_ask v 0) (answer.Word low) None (at (stage.ResponseHigh low) v)
      (told_entry 0 low (omega arith) ∙ ap (λ (l : List ℕ). told_after_response s (l ++ low ∷ [])) idle.response)
      (read_entry 0 low (omega arith) ∙ ap (λ (l : List ℕ). response_read (l ++ low ∷ []) s) idle.response)
      (calm (record s { response = low ∷ [] }) (at (stage.ResponseHigh low) v) quiet (record { agree = agree; sized = sized; at = record { entry = idle.entry; response = refl; taken = idle.taken; read = idle.read } }))

  pub second_goes : (low high : ℕ) → IsReading (hand_of s) (low ∷ []) → Steps s (response_ask v 1) (answer.Word high) (at (stage.ResponseLast low high) v)
  second_goes low high was =
      goes s (record s { response = low ∷ high ∷ [] }) (response_ask v 1) (answer.Word high) None (at (stage.ResponseLast low high) v)
      (told_entry 1 high (omega arith) ∙ ap (λ (l : List ℕ). told_after_response s (l ++ high ∷ [])) was.response)
      (read_entry 1 high (omega arith) ∙ ap (λ (l : List ℕ). response_read (l ++ high ∷ []) s) was.response)
      (calm (record s { response = low ∷ high ∷ [] }) (at (stage.ResponseLast low high) v) quiet (record { agree = agree; sized = sized; at = record { entry = was.entry; response = refl; taken = was.taken; read = was.read } }))

  -- its third: the request of its id is looked up
  module _ (low high last : ℕ) (was : IsReading (hand_of s) (low ∷ high ∷ [])) where
    abbrev three : List ℕ
    three = low ∷ high ∷ last ∷ []

    abbrev id : ℕ
    id = low + high * 2 ^ 32

    abbrev n : ℕ
    n = length v.requests - v.waiting

    abbrev result : Option ℕ → Option Status → View
    result o status = response_at v (response_with three status) low (found_at v.requests o)

    abbrev Lands : Option ℕ → Option Status → Type 0
    Lands o status = Goes (response_taken three (numbered id (take n v.requests)) status s) (told_of_response three (numbered id (take n v.requests)) status) (result o status)

    -- an issued one, which the response is for
    module _ (place : ℕ) (status : Status) (a : IsAmong v.requests n id place) where
      abbrev after : Sight
      after = response_taken three (Some a.r) (Some status) s

      within : place < length v.requests
      within = slice_get_within v.requests place a.r a.here

      shorter : length (remove v.requests place) + 1 ≡ length v.requests
      shorter = length-remove v.requests place within

      number : a.r.number ≡ id
      number = let same = a.number in grind (arith, nat_tests)

      stands : get_or v.requests place a.r ≡ a.r
      stands = get_or_from_slice_get v.requests place a.r a.r a.here

      fine : IsFine s.submitted s.answered v.last a.r
      fine = subst (IsFine s.submitted s.answered v.last) stands (agree.fine place a.r within)

      apart : IsApart (remove v.requests place) v.last (record { request = a.r; status = status })
      apart = removed_apart v.requests (record { request = a.r; status = status }) place v.last within agree.ascending (λ k d lt. (agree.fine k d lt).given) (sym stands)

      fewer : (m : ℕ) → n ≡ suc m → without a.r.number s.issued ≡ take (length (remove v.requests place) - v.waiting) (remove v.requests place)
      fewer m long =
          ap (λ (l : List Request). without a.r.number l) agree.issued
          ∙ (ap (λ (i : ℕ). without i (take n v.requests)) number
          ∙ (a.others m long ∙ ap (λ (i : ℕ). take i (remove v.requests place)) (let one = shorter in omega arith)))

      agreed : Agree (core_of after) (share_of (freed v place))
      agreed = record {
        start = agree.start;
        shape = agree.shape;
        prod = agree.prod;
        cons = ap next_of agree.cons;
        small = agree.small;
        word = agree.word;
        few = agree.few;
        waits = (let one = shorter in let early = a.early in omega arith);
        issued = (let early = a.early in fewer (n - 1) (omega arith));
        fine = remove_all (IsFine s.submitted s.answered v.last) v.requests place agree.fine;
        ascending = remove_ascending (λ (r : Request). r.number) v.requests place within agree.ascending;
        submitted = agree.submitted;
        answered = agree.answered;
        once = agree.once;
      }

      -- it has grants, which are ended next
      revoking : (length a.r.frames.items == 0) ≡ false → Goes after None (revokes (freed v place) a.r status)
      revoking some = calm after (revokes (freed v place) a.r status) quiet (record {
        agree = agreed;
        sized = sized;
        at = record {
          e = record { request = a.r; status = status };
          ending_is = refl;
          t = record { words = three; request = a.r; status = status; ended = 0 };
          taken_is = refl;
          request = refl;
          status = refl;
          ended = refl;
          within = grind (arith, nat_tests);
          fine = fine;
          apart = apart;
          entry = was.entry;
          response = refl;
          read = was.read;
        };
      })

      -- or it has none, and is answered
      answering : Goes after (Some (told.Answer a.r.number status)) (answered (freed v place) a.r status)
      answering = record {
        told = refl;
        knows = record {
          agree = record {
            start = agreed.start;
            shape = agreed.shape;
            prod = agreed.prod;
            cons = agreed.cons;
            small = agreed.small;
            word = agreed.word;
            few = agreed.few;
            waits = agreed.waits;
            issued = agreed.issued;
            fine = all_after s.submitted s.answered v.last a.r.number (remove v.requests place) apart.other agreed.fine;
            ascending = agreed.ascending;
            submitted = agreed.submitted;
            answered = All-push (λ (i : ℕ). i ≤ v.last) s.answered a.r.number agree.answered fine.given;
            once = all_pairs_push (λ (m n : ℕ). m ≢ n) s.answered a.r.number agree.once fine.unanswered;
          };
          sized = sized;
          at = record { entry = was.entry; response = refl; taken = refl; read = refl };
        };
      }

      by_frames : (b : Bool) → (length a.r.frames.items == 0) ≡ b → Goes after (if b then Some (told.Answer a.r.number status) else None) (if b then answered (freed v place) a.r status else revokes (freed v place) a.r status)
      by_frames true e = answering
      by_frames false e = revoking e

      pub takes : Goes after (told_of_response three (Some a.r) (Some status)) (taken v place a.r status)
      takes = by_frames (length a.r.frames.items == 0) refl

    lands : (o : Option ℕ) (status : Option Status) → LooksUp v.requests n id o → Lands o status
    lands None status a =
        subst (λ (q : Option Request). Goes (response_taken three q status s) (told_of_response three q status) (broken low v)) (sym a.none) (record { told = refl; knows = agree.once })
    lands (Some place) None a =
        subst (λ (q : Option Request). Goes (response_taken three q None s) (told_of_response three q None) (result (Some place) None)) (sym a.same)
        (subst (λ (f : Option Request). Goes (response_taken three (Some a.r) None s) (told_of_response three (Some a.r) None) (response_at v (response_with three None) low (option_map (λ (r : Request). (place, r)) f))) (sym a.here) (record { told = refl; knows = agree.once }))
    lands (Some place) (Some status) a =
        subst (λ (q : Option Request). Goes (response_taken three q (Some status) s) (told_of_response three q (Some status)) (result (Some place) (Some status))) (sym a.same)
        (subst (λ (f : Option Request). Goes (response_taken three (Some a.r) (Some status) s) (told_of_response three (Some a.r) (Some status)) (response_at v (response_with three (Some status)) low (option_map (λ (r : Request). (place, r)) f))) (sym a.here) (takes place status a))

    pub last_goes : Steps s (response_ask v 2) (answer.Word last) (response_at v (response_with three (status_of (last / 2 ^ 16))) low (issued v id))
    last_goes =
        goes s (response_taken three (numbered id (take n v.requests)) (status_of (last / 2 ^ 16)) s) (response_ask v 2) (answer.Word last) (told_of_response three (numbered id (take n v.requests)) (status_of (last / 2 ^ 16)))
        (response_at v (response_with three (status_of (last / 2 ^ 16))) low (issued v id))
        (told_entry 2 last (omega arith) ∙ (ap (λ (l : List ℕ). told_after_response s (l ++ last ∷ [])) was.response ∙ ap (λ (l : List Request). told_of_response three (numbered id l) (status_of (last / 2 ^ 16))) agree.issued))
        (read_entry 2 last (omega arith) ∙ (ap (λ (l : List ℕ). response_read (l ++ last ∷ []) s) was.response ∙ ap (λ (l : List Request). response_taken three (numbered id l) (status_of (last / 2 ^ 16)) s) agree.issued))
        (lands (position (is_numbered id) (take n v.requests)) (status_of (last / 2 ^ 16)) (looked_up v.requests n id))
