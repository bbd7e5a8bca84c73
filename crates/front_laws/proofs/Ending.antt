-- The front ends the grants of a request that is answered.
use Rattle.std.proofs.Common.{◌≡◌, ◌≢◌, ℕ, ◌+◌, ◌-◌, ◌*◌, ◌%◌, ◌<◌, ◌≤◌, ◌==◌, Bool, true, false, if◌then◌else◌, List, [], ◌∷◌, length, take, refl, sym, ap, ◌∙◌, subst, arith, length-set}
use Rattle.std.specs.Prelude.{Option, Some, None, nat_lt}
use Rattle.std.proofs.lemmas.Bool.Decides.{nat_tests}
use Rattle.std.proofs.lemmas.List.Elements.{All-push}
use Rattle.std.proofs.lemmas.List.Quantifiers.{all_pairs_push}
use Rattle.blk_base.specs.declared.operation.Status.{Status}
use Rattle.blk_base.specs.declared.ask.FrontAsk.TheVariants.{Read, Cas}
use Rattle.blk_base.specs.declared.ask.FrontAnswer.TheVariants as answer
use Rattle.blk_front.specs.declared.request.Request.{Request}
use Rattle.blk_front.specs.declared.stage.FrontStage.{FrontStage}
use Rattle.blk_front.specs.declared.stage.FrontStage.TheVariants as stage
use Rattle.blk_front.specs.declared.stage.Ending.{Ending}
use Rattle.blk_front.specs.declared.told.Told.{Told}
use Rattle.blk_front.specs.declared.told.Told.TheVariants as told
use Rattle.blk_front.specs.Request.{has_data}
use Rattle.blk_front.specs.Pool.{with_free, with_all_free}
use Rattle.blk_front.specs.View.{View, entry_frame, entry_word}
use Rattle.blk_front.specs.Step.{at, broken, is_mapped, finished, ended, revoked}
use Rattle.front_laws.specs.Sight.{Sight, Taken, grant_ended, moved, told_so, request_of}
use Rattle.front_laws.specs.Told.{told_of, told_of_end}
use Rattle.front_laws.proofs.Places.{grants_at}
use Rattle.front_laws.proofs.Known.{core_of, share_of, hand_of, Agree, IsSized, IsEnding, Known, Goes, goes, calm}
use Rattle.front_laws.proofs.Simple.{Steps}
use Rattle.front_laws.proofs.Looking.{all_after}

-- the frames that are given back leave the pool's size
pub free_size : (frames : List ℕ) (pool : List Bool) → length (with_all_free pool frames) ≡ length pool
free_size [] pool = refl
free_size (f ∷ frames) pool = free_size frames (with_free pool f) ∙ length-set pool (f - 18) false

none : (l : List ℕ) → take 0 l ≡ []
none [] = refl
none (x ∷ l) = refl

module _ (s : Sight) (v : View) (quiet : v.told ≡ None) (agree : Agree (core_of s) (share_of v)) (sized : IsSized v.pool v.words) where
  -- the first word of the entry of a grant is read
  read_grant : (f w value : ℕ) → f < 1018 → moved (Read (entry_frame f) w) (answer.Word value) s ≡ s
  read_grant f w value few = rw (grants_at f few) refl

  told_grant : (f value : ℕ) → f < 1018 → told_of s (Read (entry_frame f) (entry_word f)) (answer.Word value) ≡ (if is_mapped value then Some (told.Broken value) else None)
  told_grant f value few =
      let even : (entry_word f % 2 == 0) ≡ true = grind (arith, nat_tests) in
      rw (grants_at f few, even) refl

  pub entry_goes : (f value : ℕ) (t : FrontStage) → f < 1018 → Known t s (at t v) → Steps s (Read (entry_frame f) (entry_word f)) (answer.Word value) (if is_mapped value then broken value v else at t v)
  entry_goes f value t few known = by_test (is_mapped value) refl
    where
      by_test : (b : Bool) → is_mapped value ≡ b → Steps s (Read (entry_frame f) (entry_word f)) (answer.Word value) (if b then broken value v else at t v)
      by_test true e = goes s s (Read (entry_frame f) (entry_word f)) (answer.Word value) (Some (told.Broken value)) (broken value v) (told_grant f value few ∙ ap (λ (b : Bool). if b then Some (told.Broken value) else None) e) (read_grant f (entry_word f) value few) (record { told = refl; knows = agree.once })
      by_test false e = goes s s (Read (entry_frame f) (entry_word f)) (answer.Word value) None (at t v) (told_grant f value few ∙ ap (λ (b : Bool). if b then Some (told.Broken value) else None) e) (read_grant f (entry_word f) value few) (calm s (at t v) quiet known)

  -- it is exchanged: another word than was read breaks the front
  pub exchange_goes : (f w before seen : ℕ) (x : View) → Goes (record s { taken = grant_ended s.taken }) (told_of_end s.taken) x → Steps s (Cas f w before 0) (answer.Word seen) (if seen == before then x else broken seen v)
  exchange_goes f w before seen x g = by_test (seen == before) refl
    where
      by_test : (b : Bool) → (seen == before) ≡ b → Steps s (Cas f w before 0) (answer.Word seen) (if b then x else broken seen v)
      by_test true e = goes s (record s { taken = grant_ended s.taken }) (Cas f w before 0) (answer.Word seen) (told_of_end s.taken) x (ap (λ (b : Bool). if b then told_of_end s.taken else Some (told.Broken seen)) e) (ap (λ (b : Bool). if b then record s { taken = grant_ended s.taken } else s) e) g
      by_test false e = goes s s (Cas f w before 0) (answer.Word seen) (Some (told.Broken seen)) (broken seen v) (ap (λ (b : Bool). if b then told_of_end s.taken else Some (told.Broken seen)) e) (ap (λ (b : Bool). if b then record s { taken = grant_ended s.taken } else s) e) (record { told = refl; knows = agree.once })

  -- no request is ended
  pub ring_ends : (t : FrontStage) → s.taken ≡ None → Known t s (at t v) → Goes (record s { taken = grant_ended s.taken }) (told_of_end s.taken) (at t v)
  ring_ends t none known = subst (λ (o : Option Taken). Goes (record s { taken = grant_ended o }) (told_of_end o) (at t v)) (sym none) (subst (λ (o : Option Taken). Goes (record s { taken = o }) None (at t v)) none (calm s (at t v) quiet known))

  -- a grant of the request is ended: the next one is, or that was the last and it is answered
  module _ (place : ℕ) (k : IsEnding (hand_of s) v.requests v.last v.ending place) where
    abbrev e : Ending
    e = k.e

    abbrev t : Taken
    t = k.t

    -- the lines say the same of it
    same_end : (o : Option Taken) → o ≡ Some t → told_of_end o ≡ (if place + 1 == length e.request.frames.items then Some (told.Answer e.request.number e.status) else None)
    same_end o is =
        ap told_of_end is
        ∙ (ap (λ (n : ℕ). if n + 1 == length t.request.frames.items then Some (told.Answer t.request.number t.status) else None) k.ended
        ∙ (ap (λ (r : Request). if place + 1 == length r.frames.items then Some (told.Answer r.number t.status) else None) k.request
        ∙ ap (λ (st : Status). if place + 1 == length e.request.frames.items then Some (told.Answer e.request.number st) else None) k.status))

    abbrev after : Sight
    after = record s { taken = grant_ended s.taken }

    -- another one is left
    next_grant : place + 1 < length e.request.frames.items → Goes after None (at (stage.GrantRead (place + 1)) v)
    next_grant more = calm after (at (stage.GrantRead (place + 1)) v) quiet (record {
      agree = agree;
      sized = sized;
      at = record {
        e = e;
        ending_is = k.ending_is;
        t = record t { ended = t.ended + 1 };
        taken_is = ap grant_ended k.taken_is;
        request = k.request;
        status = k.status;
        ended = ap (λ (n : ℕ). n + 1) k.ended;
        within = more;
        fine = k.fine;
        apart = k.apart;
        entry = k.entry;
        response = k.response;
        read = k.read;
      };
    })

    -- that was the last: it is answered, and the data of a read that went well are read next
    telling : request_of after.taken ≡ Some e.request
    telling = ap (λ (o : Option Taken). request_of (grant_ended o)) k.taken_is ∙ ap Some k.request

    abbrev told_it : Option Told
    told_it = Some (told.Answer e.request.number e.status)

    agreed : Agree (core_of (told_so told_it after)) (share_of v)
    agreed = record {
      start = agree.start;
      shape = agree.shape;
      prod = agree.prod;
      cons = agree.cons;
      small = agree.small;
      word = agree.word;
      few = agree.few;
      waits = agree.waits;
      issued = agree.issued;
      fine = all_after s.submitted s.answered v.last e.request.number v.requests k.apart.other agree.fine;
      ascending = agree.ascending;
      submitted = agree.submitted;
      answered = All-push (λ (i : ℕ). i ≤ v.last) s.answered e.request.number agree.answered k.fine.given;
      once = all_pairs_push (λ (m n : ℕ). m ≢ n) s.answered e.request.number agree.once k.fine.unanswered;
    }

    some_words : 0 < 128 * e.request.count
    some_words = let within = k.within in let counted = k.fine.counted (omega arith) in omega arith

    last_grant : Goes after told_it (ended e v)
    last_grant = by_data (has_data e.request.transfer e.status)
      where
        by_data : (b : Bool) → Goes after told_it (if b then record v { stage = stage.ReadData 0; told = told_it } else record (finished e v) { told = told_it })
        by_data true = record {
          told = refl;
          knows = record {
            agree = agreed;
            sized = sized;
            at = record {
              e = e;
              ending_is = k.ending_is;
              telling = telling;
              at = refl;
              short = omega arith;
              words = none v.words;
              within = some_words;
              pooled = k.fine.pooled;
              entry = k.entry;
              response = k.response;
              taken = refl;
            };
          };
        }
        by_data false = record {
          told = refl;
          knows = record {
            agree = agreed;
            sized = record { frames = free_size e.request.frames.items v.pool ∙ sized.frames; sector = sized.sector };
            at = record { entry = k.entry; response = k.response; taken = refl; read = refl };
          };
        }

    due : told_of_end s.taken ≡ (if place + 1 == length e.request.frames.items then told_it else None)
    due = same_end s.taken k.taken_is

    pub revokes_next : Goes after (told_of_end s.taken) (revoked (Some e) place v)
    revokes_next = subst (λ (o : Option Told). Goes after o (revoked (Some e) place v)) (sym due) (by_more (nat_lt (place + 1) (length e.request.frames.items)) (place + 1 == length e.request.frames.items) refl refl)
      where
        by_more : (b c : Bool) → nat_lt (place + 1) (length e.request.frames.items) ≡ b → (place + 1 == length e.request.frames.items) ≡ c
            → Goes after (if c then told_it else None) (if b then at (stage.GrantRead (place + 1)) v else ended e v)
        by_more true true more last = absurd (grind (arith, nat_tests))
        by_more true false more last = next_grant (grind (arith, nat_tests))
        by_more false true more last = last_grant
        by_more false false more last = absurd (let within = k.within in grind (arith, nat_tests))
