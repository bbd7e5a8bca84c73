-- A state that the front enters, and a suspend: the lines still tell what it has.
use Rattle.std.proofs.Common.{◌≡◌, ℕ, zero, suc, ◌-◌, ◌≤◌, ◌&&◌, Bool, true, false, List, [], ◌∷◌, length, take, refl, sym, ap, subst, arith}
use Rattle.std.specs.Prelude.{All, Option, Some, None, nat_le}
use Rattle.std.proofs.lemmas.Bool.{false≢true}
use Rattle.std.proofs.lemmas.Bool.Decides.{nat_tests}
use Rattle.std.proofs.lemmas.Nat.{pow_pos}
use Rattle.ring_words.specs.Shape.{Shape, entries_of}
use Rattle.blk_front.specs.declared.request.Request.{Request}
use Rattle.blk_front.specs.declared.state.FrontState.{FrontState}
use Rattle.blk_front.specs.declared.state.FrontState.TheVariants as state
use Rattle.blk_front.specs.declared.stage.FrontStage.{FrontStage}
use Rattle.blk_front.specs.declared.stage.FrontStage.TheVariants as stage
use Rattle.blk_front.specs.declared.stage.Ending.{Ending}
use Rattle.blk_front.specs.Sound.{AreAscending}
use Rattle.blk_front.specs.Pool.{empty_pool}
use Rattle.blk_front.specs.State.{is_open, is_made, is_unmade, may_enter, in_state}
use Rattle.blk_front.specs.Submit.{is_ready, is_initialised}
use Rattle.blk_front.specs.Suspend.{resumed, with_ending, requests_after, ending_after, stage_after}
use Rattle.blk_front.specs.declared.state.Offers.{Offers}
use Rattle.blk_front.specs.View.{View, no_offers}
use Rattle.blk_front.specs.Ask.{is_through}
use Rattle.blk_front.proofs.Order.{after_all, after_ascending}
use Rattle.front_laws.specs.History.{Entered, Suspended}
use Rattle.front_laws.specs.Sight.{Sight, anew, after_line}
use Rattle.front_laws.proofs.Known.{core_of, share_of, hand_of, parts_of, IsFine, AreOnce, Agree, IsSized, IsEnding, IsTelling, IsKnown, Known, Knows}

-- what is said of an open front
pub known_open : (t : FrontStage) (s : Sight) (v : View) → is_open t ≡ true → Known t s v → IsKnown t (core_of s) (share_of v) v.pool (hand_of s) (parts_of v)
known_open stage.Closed s v opened i = absurd (false≢true opened)
known_open (stage.Broken word) s v opened i = absurd (false≢true opened)
known_open t s v opened i = i

pub once_of : (t : FrontStage) (s : Sight) (v : View) → Known t s v → AreOnce s.answered
once_of stage.Closed s v i = i
once_of (stage.Broken word) s v i = i
once_of t s v i = i.agree.once

pub ready_open : (t : FrontStage) → is_ready t ≡ true → is_open t ≡ true
ready_open stage.Closed ready = absurd (false≢true ready)
ready_open (stage.Broken word) ready = absurd (false≢true ready)
ready_open t ready = refl

-- neither what is told nor whether it closes is a part of that
pub known_told : (t : FrontStage) (s : Sight) (v : View) → Known t s v → Known t s (record v { told = None })
known_told stage.Closed s v i = i
known_told (stage.Broken word) s v i = i
known_told t s v i = i

known_closing : (t : FrontStage) (s : Sight) (v : View) → Known t s v → Known t s (record v { closing = true })
known_closing stage.Closed s v i = i
known_closing (stage.Broken word) s v i = i
known_closing t s v i = i

pub both : (a b : Bool) → (a && b) ≡ true → (a ≡ true) × (b ≡ true)
both true b e = (refl, e)
both false b e = absurd (false≢true e)

nothing_first : (l : List Request) (n : ℕ) → n ≡ 0 → [] ≡ take n l
nothing_first [] zero e = refl
nothing_first (r ∷ l) zero e = refl
nothing_first l (suc n) e = absurd (omega arith)

-- an order is agreed before the ring is begun
agreed : (s : Sight) (v : View) (order k : ℕ) → order ≤ 4 → IsKnown (stage.RingWord k) (core_of s) (share_of v) v.pool (hand_of s) (parts_of v)
    → Known (stage.RingWord k) (after_line s (Entered (state.Agreed order))) (in_state (state.Agreed order) v)
agreed s v order k few i = record {
  agree = record {
    start = i.agree.start;
    shape = ap (λ (shape : Shape). record shape { order = order }) i.agree.shape;
    prod = i.agree.start;
    cons = i.agree.start;
    small = i.agree.small;
    word = i.agree.small;
    few = few;
    waits = i.agree.waits;
    issued = nothing_first v.requests (length v.requests - v.waiting) (let all = i.at.1.2 in omega arith);
    fine = i.agree.fine;
    ascending = i.agree.ascending;
    submitted = i.agree.submitted;
    answered = i.agree.answered;
    once = i.agree.once;
  };
  sized = i.sized;
  at = (i.at.0, (refl, refl, i.at.1.2), record { entry = refl; response = refl; taken = refl; read = i.at.2.read });
}

agrees_at : (t : FrontStage) (s : Sight) (v : View) (order : ℕ) → is_unmade t ≡ true → order ≤ 4 → Known t s v → Known t (after_line s (Entered (state.Agreed order))) (in_state (state.Agreed order) v)
agrees_at (stage.RingWord k) s v order unmade few i = agreed s v order k few i
agrees_at t s v order unmade few i = absurd (false≢true unmade)

connects_at : (t : FrontStage) (s : Sight) (v : View) (offers : Offers) → is_initialised t ≡ true → Known t s v → Known stage.Loop s (in_state (state.Connected offers) v)
connects_at stage.Initialised s v offers initialised i = record { agree = i.agree; sized = i.sized; at = i.at }
connects_at t s v offers initialised i = absurd (false≢true initialised)

leaves_at : (t : FrontStage) (s : Sight) (v : View) → is_made t ≡ true → Known t s v → Known (stage.RingRead 0) s (in_state state.Leaving v)
leaves_at stage.Initialised s v made i = record { agree = i.agree; sized = i.sized; at = (pow_pos v.shape.order, i.at) }
leaves_at stage.Loop s v made i = record { agree = i.agree; sized = i.sized; at = (pow_pos v.shape.order, i.at) }
leaves_at t s v made i = absurd (false≢true made)

pub unmade_open : (t : FrontStage) → is_unmade t ≡ true → is_open t ≡ true
unmade_open (stage.RingWord k) unmade = refl
unmade_open t unmade = absurd (false≢true unmade)

-- a state that it may enter
pub enters_at : (st : FrontState) (s : Sight) (v : View) → may_enter st v ≡ true → Knows s v → Knows (after_line s (Entered st)) (in_state st v)
enters_at (state.Agreed order) s v may i =
    let first = both (is_unmade v.stage && nat_le order v.shape.order) (nat_le (length v.requests) (entries_of order)) may in
    let second = both (is_unmade v.stage) (nat_le order v.shape.order) first.0 in
    let few = (known_open v.stage s v (unmade_open v.stage second.0) i).agree.few in
    let less : order ≤ v.shape.order = (let e = second.1 in grind (arith, nat_tests)) in
    agrees_at v.stage s v order second.0 (omega arith) i
enters_at (state.Connected offers) s v may i = connects_at v.stage s v offers may i
enters_at state.Closing s v may i = known_closing v.stage s v i
enters_at state.Leaving s v may i = leaves_at v.stage s v (both (is_through v) (is_made v.stage) may).1 i
enters_at state.Closed s v may i = once_of v.stage s v i
enters_at (state.Broken word) s v may i = once_of v.stage s v i

-- a suspend, of a front at this stage
abbrev resumed_at : FrontStage → View → View
resumed_at t v = record v {
  offers = no_offers;
  ring = record v.ring { indices = record { entries = entries_of v.shape.order; prod = v.start; cons = v.start }; asleep = false; seen = v.start };
  stage = stage_after t;
  waiting = length (requests_after t v.ending v.requests);
  requests = requests_after t v.ending v.requests;
  ending = ending_after t v.ending;
  kept = empty_pool;
}

module _ (s : Sight) (v : View) (agree : Agree (core_of s) (share_of v)) (sized : IsSized v.pool v.words) where
  -- its requests all wait
  waiting_all : (requests : List Request) → All (IsFine s.submitted s.answered v.last) requests → AreAscending requests
      → Agree (core_of (anew s)) (record (share_of v) { prod = v.start; cons = v.start; waiting = length requests; requests = requests })
  waiting_all requests fine up = record {
    start = agree.start;
    shape = agree.shape;
    prod = agree.start;
    cons = agree.start;
    small = agree.small;
    word = agree.small;
    few = agree.few;
    waits = omega arith;
    issued = nothing_first requests (length requests - length requests) (omega arith);
    fine = fine;
    ascending = up;
    submitted = agree.submitted;
    answered = agree.answered;
    once = agree.once;
  }

  still : Agree (core_of (anew s)) (record (share_of v) { prod = v.start; cons = v.start; waiting = length v.requests; requests = v.requests })
  still = waiting_all v.requests agree.fine agree.ascending

  quiet_again : (read : s.words ≡ []) → IsKnown (stage.RingWord 0) (core_of (anew s)) (record (share_of v) { prod = v.start; cons = v.start; waiting = length v.requests; requests = v.requests }) v.pool (hand_of (anew s)) (parts_of (resumed_at (stage.RingWord 0) v))
  quiet_again read = record { agree = still; sized = sized; at = (omega arith, (refl, refl, refl), record { entry = refl; response = refl; taken = refl; read = read }) }

  -- the request whose grants were ended is one of the others again
  put_back : (place : ℕ) (k : IsEnding (hand_of s) v.requests v.last v.ending place) → IsKnown (stage.RingWord 0) (core_of (anew s)) (share_of (resumed_at (stage.GrantRead place) v)) v.pool (hand_of (anew s)) (parts_of (resumed_at (stage.GrantRead place) v))
  put_back place k = record {
    agree = waiting_all (with_ending v.ending v.requests)
        (subst (λ (o : Option Ending). All (IsFine s.submitted s.answered v.last) (with_ending o v.requests)) (sym k.ending_is) (after_all (IsFine s.submitted s.answered v.last) (stage.GrantRead place) (Some k.e) v.requests k.fine agree.fine))
        (subst (λ (o : Option Ending). AreAscending (with_ending o v.requests)) (sym k.ending_is) (after_ascending (stage.GrantRead place) (Some k.e) v.requests v.last agree.ascending k.apart));
    sized = sized;
    at = (omega arith, (refl, refl, refl), record { entry = refl; response = refl; taken = refl; read = k.read });
  }

  -- the data in hand are told first
  left_over : (n : ℕ) (k : IsTelling (hand_of s) v.words v.ending n) → IsKnown (stage.LeftData n) (core_of (anew s)) (share_of (resumed_at (stage.ReadData n) v)) v.pool (hand_of (anew s)) (parts_of (resumed_at (stage.ReadData n) v))
  left_over n k = record {
    agree = still;
    sized = sized;
    at = ((refl, refl, refl), record { e = k.e; ending_is = k.ending_is; telling = k.telling; at = k.at; short = k.short; words = k.words; within = k.within; pooled = k.pooled; entry = refl; response = refl; taken = refl });
  }

suspends_at : (t : FrontStage) (s : Sight) (v : View) → is_open t ≡ true → Known t s v → Known (stage_after t) (anew s) (resumed_at t v)
suspends_at stage.Closed s v opened i = absurd (false≢true opened)
suspends_at (stage.Broken word) s v opened i = absurd (false≢true opened)
suspends_at (stage.RingWord k) s v opened i = quiet_again s v i.agree i.sized i.at.2.read
suspends_at (stage.RingFrame page) s v opened i = quiet_again s v i.agree i.sized i.at.1.read
suspends_at (stage.RingFence page) s v opened i = quiet_again s v i.agree i.sized i.at.1.read
suspends_at (stage.RingFlags page) s v opened i = quiet_again s v i.agree i.sized i.at.1.read
suspends_at (stage.Data n) s v opened i = quiet_again s v i.agree i.sized i.at.1.read
suspends_at (stage.Pages n) s v opened i = quiet_again s v i.agree i.sized i.at.1.read
suspends_at (stage.GrantFrame place) s v opened i = quiet_again s v i.agree i.sized i.at.1.read
suspends_at (stage.GrantFence place) s v opened i = quiet_again s v i.agree i.sized i.at.1.read
suspends_at (stage.GrantFlags place) s v opened i = quiet_again s v i.agree i.sized i.at.1.read
suspends_at (stage.Slot k) s v opened i = quiet_again s v i.agree i.sized i.at.1.read
suspends_at stage.Producer s v opened i = quiet_again s v i.agree i.sized i.at.read
suspends_at (stage.ResponseHigh low) s v opened i = quiet_again s v i.agree i.sized i.at.read
suspends_at (stage.ResponseLast low high) s v opened i = quiet_again s v i.agree i.sized i.at.read
suspends_at (stage.GrantRead place) s v opened i = put_back s v i.agree i.sized place i.at
suspends_at (stage.GrantEnd place before) s v opened i = put_back s v i.agree i.sized place i.at
suspends_at (stage.ReadData n) s v opened i = left_over s v i.agree i.sized n i.at
suspends_at (stage.LeftData n) s v opened i = left_over s v i.agree i.sized n i.at.1
suspends_at (stage.RingRead page) s v opened i = quiet_again s v i.agree i.sized i.at.1.read
suspends_at (stage.RingEnd page before) s v opened i = quiet_again s v i.agree i.sized i.at.1.read
suspends_at t s v opened i = quiet_again s v i.agree i.sized i.at.read

pub suspends : (s : Sight) (v : View) → is_open v.stage ≡ true → Knows s v → Knows (after_line s Suspended) (resumed v)
suspends s v opened i = suspends_at v.stage s v opened i
