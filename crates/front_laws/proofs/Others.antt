-- What else may happen to a front: a submission, a state that it enters, and a suspend. The lines still tell what it has.
use Rattle.std.proofs.Common.{◌≡◌, ◌≢◌, ℕ, zero, suc, ◌+◌, ◌-◌, ◌<◌, ◌≤◌, ◌==◌, inl, inr, not, Bool, true, false, List, [], ◌∷◌, ◌++◌, length, take, get_or, refl, sym, ap, ◌∙◌, subst, arith, length-append, length-set}
use Rattle.std.specs.Prelude.{All, Some, None, nat_lt, slice_get}
use Rattle.std.specs.List.{position_or_len}
use Rattle.std.proofs.lemmas.Option.{none-some, same_Some}
use Rattle.std.proofs.lemmas.Bool.{cases_lt, false≢true}
use Rattle.std.proofs.lemmas.Bool.Decides.{nat_tests}
use Rattle.std.proofs.lemmas.List.{take-append-le}
use Rattle.std.proofs.lemmas.List.Elements.{All-push}
use Rattle.std.proofs.lemmas.List.Folds.{find-append}
use Rattle.resume_shadow.proofs.Order.{push_ascending}
use Rattle.blk_front.specs.declared.request.Request.{Request}
use Rattle.blk_front.specs.declared.request.Wish.{Wish}
use Rattle.blk_front.specs.declared.stage.FrontStage.{FrontStage}
use Rattle.blk_front.specs.declared.stage.FrontStage.TheVariants as stage
use Rattle.blk_front.specs.Pool.{with_taken, taking}
use Rattle.blk_front.specs.Submit.{is_ready, frames_taken, request_with, accepted}
use Rattle.blk_front.specs.View.{View, next_request}
use Rattle.blk_front.proofs.Order.{pushed_apart}
use Rattle.front_laws.specs.History.{Submitted}
use Rattle.front_laws.specs.Sight.{Sight, numbered, after_line}
use Rattle.front_laws.proofs.Places.{IsPooled}
use Rattle.front_laws.proofs.Simple.{next_stands}
use Rattle.front_laws.proofs.Known.{core_of, share_of, hand_of, IsFine, Agree, IsSized, IsIssuing, IsWriting, IsReading, IsEnding, IsTelling, Known}

-- an element before others that are added
pub slice_get-append : {X : Type 0} (xs ys : List X) (i : ℕ) (x : X) → slice_get xs i ≡ Some x → slice_get (xs ++ ys) i ≡ Some x
slice_get-append [] ys i x e = absurd (none-some x e)
slice_get-append (z ∷ xs) ys zero x e = e
slice_get-append (z ∷ xs) ys (suc i) x e = slice_get-append xs ys i x e

-- so many frames of the pool are taken
pub record AreTaken (n : ℕ) (before : List ℕ) (taken : List ℕ × List Bool) : Type 0 where
  pub frames : All IsPooled taken.0
  pub long : length taken.0 ≡ length before + n
  pub size : length taken.1 ≡ 1000

taken_next : (n : ℕ) (pool : List Bool) (frames : List ℕ) → position_or_len not pool < length pool
    → taking (suc n) pool frames ≡ taking n (with_taken pool (18 + position_or_len not pool)) (frames ++ (18 + position_or_len not pool) ∷ [])
taken_next n pool frames lt = let yes : nat_lt (position_or_len not pool) (length pool) ≡ true = grind (arith, nat_tests) in rw yes refl

taken_none : (n : ℕ) (pool : List Bool) (frames : List ℕ) → length pool ≤ position_or_len not pool → taking (suc n) pool frames ≡ None
taken_none n pool frames le = let no : nat_lt (position_or_len not pool) (length pool) ≡ false = grind (arith, nat_tests) in rw no refl

pub taking_more : (n : ℕ) (pool : List Bool) (frames : List ℕ) (taken : List ℕ × List Bool) → length pool ≡ 1000 → All IsPooled frames → taking n pool frames ≡ Some taken → AreTaken n frames taken
taking_more zero pool frames taken size all e = subst (AreTaken 0 frames) (same_Some (frames, pool) taken e) (record { frames = all; long = omega arith; size = size })
taking_more (suc n) pool frames taken size all e =
    let place : ℕ = position_or_len not pool in
    elim (cases_lt place (length pool)) [
      | inl lt ↦
          let rest = taking_more n (with_taken pool (18 + place)) (frames ++ (18 + place) ∷ []) taken (length-set pool (18 + place - 18) true ∙ size) (All-push IsPooled frames (18 + place) all (omega arith, omega arith)) (sym (taken_next n pool frames lt) ∙ e) in
          let one = length-append frames ((18 + place) ∷ []) in
          record { frames = rest.frames; long = (let long = rest.long in omega arith); size = rest.size }
      | inr none ↦ absurd (none-some taken (sym (taken_none n pool frames none) ∙ e))
    ]

-- a request with frames has data
has_some : (count long : ℕ) → long ≡ frames_taken count → 0 < long → 0 < count
has_some zero long e some = absurd (omega arith)
has_some (suc count) long e some = omega arith

-- a number that wasn't given is that of no submission
pub not_given : (l : List Request) (id : ℕ) → All (λ (r : Request). r.number < id) l → numbered id l ≡ None
not_given [] id below = refl
not_given (r ∷ l) id below =
    let rest = not_given l id (λ k d lt. below (suc k) d (omega arith)) in
    let less = below 0 r (omega arith) in
    let other : (r.number == id) ≡ false = (let apart : r.number ≢ id = (λ same. omega arith) in grind (arith, nat_tests)) in
    rw other rest

found_still : (l : List Request) (r q : Request) (id : ℕ) → numbered id l ≡ Some q → numbered id (l ++ r ∷ []) ≡ Some q
found_still l r q id e = find-append (λ (x : Request). x.number == id) l (r ∷ []) ∙ rw e refl

found_last : (l : List Request) (r : Request) → All (λ (q : Request). q.number < r.number) l → numbered r.number (l ++ r ∷ []) ≡ Some r
found_last l r below =
    let same : (r.number == r.number) ≡ true = grind (arith, nat_tests) in
    find-append (λ (x : Request). x.number == r.number) l (r ∷ []) ∙ rw (not_given l r.number below, same) refl

fine_more : (submitted : List Request) (answered : List ℕ) (last : ℕ) (x r : Request) → IsFine submitted answered last r → IsFine (submitted ++ x ∷ []) answered (last + 1) r
fine_more submitted answered last x r h = record {
  pooled = h.pooled;
  counted = h.counted;
  given = let low = h.given in omega arith;
  known = found_still submitted x r r.number h.known;
  unanswered = h.unanswered;
}

-- a submission is accepted
module _ (s : Sight) (v : View) (agree : Agree (core_of s) (share_of v)) (sized : IsSized v.pool v.words) (wish : Wish) (taken : List ℕ × List Bool) (took : taking (frames_taken wish.count) v.pool [] ≡ Some taken) where
  abbrev new : Request
  new = request_with v wish taken.0

  abbrev x : View
  x = accepted v wish taken

  abbrev after : Sight
  after = after_line s (Submitted new)

  frames : AreTaken (frames_taken wish.count) [] taken
  frames = taking_more (frames_taken wish.count) v.pool [] taken sized.frames (λ k d lt. absurd (omega arith)) took

  longer : length x.requests ≡ length v.requests + 1
  longer = length-append v.requests (new ∷ [])

  below : All (λ (q : Request). q.number < new.number) v.requests
  below = λ k d lt. let low = (agree.fine k d lt).given in omega arith

  fine_new : IsFine (s.submitted ++ new ∷ []) s.answered (v.last + 1) new
  fine_new = record {
    pooled = frames.frames;
    counted = has_some wish.count (length taken.0) (frames.long ∙ (omega arith));
    given = omega arith;
    known = found_last s.submitted new (λ k d lt. let low = agree.submitted k d lt in omega arith);
    unanswered = λ k d lt same. let low = agree.answered k d lt in omega arith;
  }

  agreed : Agree (core_of after) (share_of x)
  agreed = record {
    start = agree.start;
    shape = agree.shape;
    prod = agree.prod;
    cons = agree.cons;
    small = agree.small;
    word = agree.word;
    few = agree.few;
    waits = (let few = agree.waits in let more = longer in omega arith);
    issued = agree.issued ∙ (sym (take-append-le (length v.requests - v.waiting) v.requests (new ∷ []) (omega arith)) ∙ ap (λ (n : ℕ). take n x.requests) (let more = longer in omega arith));
    fine = All-push (IsFine (s.submitted ++ new ∷ []) s.answered (v.last + 1)) v.requests new (λ k d lt. fine_more s.submitted s.answered v.last new (get_or v.requests k d) (agree.fine k d lt)) fine_new;
    ascending = push_ascending (λ (r : Request). r.number) v.requests new agree.ascending below;
    submitted = All-push (λ (r : Request). r.number ≤ v.last + 1) s.submitted new (λ k d lt. let low = agree.submitted k d lt in omega arith) (omega arith);
    answered = λ k d lt. let low = agree.answered k d lt in omega arith;
    once = agree.once;
  }

  -- the request that is issued next is the same
  same_next : (r : Request) → next_request v ≡ Some r → next_request x ≡ Some r
  same_next r next =
      let stands = next_stands v r next in
      let some : (v.waiting + 1 == 0) ≡ false = grind (arith, nat_tests) in
      let more = longer in
      let place : length x.requests - (v.waiting + 1) ≡ length v.requests - v.waiting = omega arith in
      rw (some, place) (slice_get-append v.requests (new ∷ []) (length v.requests - v.waiting) r stands)

  still_issuing : IsIssuing (next_request v) → IsIssuing (next_request x)
  still_issuing i = (i.0, same_next i.0 i.1)

  still_writing : (k : ℕ) → IsWriting (hand_of s) (next_request v) v.ring.entry v.shape k → IsWriting (hand_of after) (next_request x) v.ring.entry v.shape k
  still_writing k w = record { r = w.r; next_is = same_next w.r w.next_is; entry_is = w.entry_is; within = w.within; words = w.words; response = w.response; taken = w.taken; read = w.read }

  still_ending : (place : ℕ) → IsEnding (hand_of s) v.requests v.last v.ending place → IsEnding (hand_of after) x.requests (v.last + 1) v.ending place
  still_ending place k = record {
    e = k.e;
    ending_is = k.ending_is;
    t = k.t;
    taken_is = k.taken_is;
    request = k.request;
    status = k.status;
    ended = k.ended;
    within = k.within;
    fine = fine_more s.submitted s.answered v.last new k.e.request k.fine;
    apart = pushed_apart (Some k.e) v.requests new v.last k.apart refl;
    entry = k.entry;
    response = k.response;
    read = k.read;
  }

  still_telling : (n : ℕ) → IsTelling (hand_of s) v.words v.ending n → IsTelling (hand_of after) v.words v.ending n
  still_telling n k = record { e = k.e; ending_is = k.ending_is; telling = k.telling; at = k.at; short = k.short; words = k.words; within = k.within; pooled = k.pooled; entry = k.entry; response = k.response; taken = k.taken }

  still_reading : (words : List ℕ) → IsReading (hand_of s) words → IsReading (hand_of after) words
  still_reading words k = record { entry = k.entry; response = k.response; taken = k.taken; read = k.read }

  pub accepts_at : (t : FrontStage) → is_ready t ≡ true → Known t s v → Known t after x
  accepts_at stage.Loop ready i = record { agree = agreed; sized = record { frames = frames.size; sector = sized.sector }; at = i.at }
  accepts_at (stage.Data n) ready i = record { agree = agreed; sized = record { frames = frames.size; sector = sized.sector }; at = (still_issuing i.at.0, i.at.1) }
  accepts_at (stage.Pages n) ready i = record { agree = agreed; sized = record { frames = frames.size; sector = sized.sector }; at = (still_issuing i.at.0, i.at.1) }
  accepts_at (stage.GrantFrame place) ready i = record { agree = agreed; sized = record { frames = frames.size; sector = sized.sector }; at = (still_issuing i.at.0, i.at.1) }
  accepts_at (stage.GrantFence place) ready i = record { agree = agreed; sized = record { frames = frames.size; sector = sized.sector }; at = (still_issuing i.at.0, i.at.1) }
  accepts_at (stage.GrantFlags place) ready i = record { agree = agreed; sized = record { frames = frames.size; sector = sized.sector }; at = (still_issuing i.at.0, i.at.1) }
  accepts_at (stage.Slot k) ready i = record { agree = agreed; sized = record { frames = frames.size; sector = sized.sector }; at = (i.at.0, still_writing k i.at.1) }
  accepts_at stage.Producer ready i = record { agree = agreed; sized = record { frames = frames.size; sector = sized.sector }; at = still_writing _ i.at }
  accepts_at (stage.ProducerFence old) ready i = record { agree = agreed; sized = record { frames = frames.size; sector = sized.sector }; at = i.at }
  accepts_at (stage.RequestEvent old) ready i = record { agree = agreed; sized = record { frames = frames.size; sector = sized.sector }; at = i.at }
  accepts_at stage.Send ready i = record { agree = agreed; sized = record { frames = frames.size; sector = sized.sector }; at = i.at }
  accepts_at (stage.ResponseHigh low) ready i = record { agree = agreed; sized = record { frames = frames.size; sector = sized.sector }; at = still_reading _ i.at }
  accepts_at (stage.ResponseLast low high) ready i = record { agree = agreed; sized = record { frames = frames.size; sector = sized.sector }; at = still_reading _ i.at }
  accepts_at (stage.GrantRead place) ready i = record { agree = agreed; sized = record { frames = frames.size; sector = sized.sector }; at = still_ending place i.at }
  accepts_at (stage.GrantEnd place before) ready i = record { agree = agreed; sized = record { frames = frames.size; sector = sized.sector }; at = still_ending place i.at }
  accepts_at (stage.ReadData n) ready i = record { agree = agreed; sized = record { frames = frames.size; sector = sized.sector }; at = still_telling n i.at }
  accepts_at stage.StoreEvent ready i = record { agree = agreed; sized = record { frames = frames.size; sector = sized.sector }; at = i.at }
  accepts_at stage.EventFence ready i = record { agree = agreed; sized = record { frames = frames.size; sector = sized.sector }; at = i.at }
  accepts_at stage.LookAgain ready i = record { agree = agreed; sized = record { frames = frames.size; sector = sized.sector }; at = i.at }
  accepts_at t ready i = absurd (false≢true ready)
