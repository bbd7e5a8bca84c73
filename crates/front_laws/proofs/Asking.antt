-- At each stage the front asks for the right word.
use Rattle.std.proofs.Common.{◌≡◌, ℕ, ◌+◌, ◌-◌, ◌/◌, ◌%◌, ◌^◌, ◌<◌, ◌≤◌, ◌==◌, ◌||◌, Bool, true, false, if◌then◌else◌, List, [], length, take, get_or, refl, sym, ap, ◌∙◌, subst, arith}
use Rattle.std.specs.Prelude.{All, Option, Some, None, slice_get, slice_index}
use Rattle.std.proofs.lemmas.Option.{slice_get_within, get_or_from_slice_get}
use Rattle.std.proofs.lemmas.List.{length-take-le, get_or-take, get_or_default}
use Rattle.blk_base.specs.declared.operation.Abi.{Abi}
use Rattle.blk_base.specs.declared.operation.Abi.TheVariants.{X64, X32}
use Rattle.blk_base.specs.declared.ask.FrontAsk.TheVariants.{Wait, Read}
use Rattle.ring_words.specs.Ring.{next_of, responses_of}
use Rattle.ring_words.specs.Shape.{Shape, entry_words_of}
use Rattle.blk_front.specs.declared.request.Request.{Request}
use Rattle.blk_front.specs.declared.request.Transfer.{Transfer}
use Rattle.blk_front.specs.declared.request.Transfer.TheVariants as transfer
use Rattle.blk_front.specs.declared.stage.FrontStage.{FrontStage}
use Rattle.blk_front.specs.declared.stage.FrontStage.TheVariants as stage
use Rattle.blk_front.specs.declared.stage.Ending.{Ending}
use Rattle.blk_front.specs.Request.{frame_at, is_indirect, frames_for}
use Rattle.blk_front.specs.Entry.{entry_of}
use Rattle.blk_front.specs.View.{View, next_request, fresh_word, ring_page_frame}
use Rattle.blk_front.specs.Ask.{ask_at, is_through, response_ask, entry_ask, issue_ask, loop_ask, data_ask, page_ask, name_ask, grant_ask, revoke_ask, end_ask, read_ask}
use Rattle.blk_front.proofs.Shapes.{few_pages}
use Rattle.front_laws.specs.Sight.{Sight, numbered}
use Rattle.front_laws.specs.Touches.{IsPush, IsTouch}
use Rattle.front_laws.proofs.Runs.{IsKept}
use Rattle.front_laws.proofs.Others.{not_given}
use Rattle.front_laws.proofs.Issuing.{entry_whole, entry_id_is}
use Rattle.front_laws.proofs.Places.{IsPooled, pooled_at}
use Rattle.front_laws.proofs.Entries.{length_entry}
use Rattle.front_laws.proofs.Known.{core_of, share_of, hand_of, parts_of, IsFine, Agree, IsSized, Idle, IsWriting, IsEnding, IsTelling, At, Known}
use Rattle.front_laws.proofs.Simple.{next_stands, fine}
use Rattle.front_laws.proofs.Touching.{Touches, grants_write, grants_name, grants_read, grants_end, data_write, index_write, index_read, slot_word_to, slot_write, slot_read, data_read}

-- the frames of its ring
page_own : (v : View) (page : ℕ) → v.shape.order ≤ 4 → page < 2 ^ v.shape.order → (2 ≤ ring_page_frame page) × (ring_page_frame page < 1018)
page_own v page narrow lt = let few = few_pages v.shape.order narrow in (omega arith, omega arith)

some_words : (abi : Abi) → 0 < entry_words_of abi
some_words X64 = omega arith
some_words X32 = omega arith

more_than : (l : List ℕ) → l ≡ [] → length l ≡ 0
more_than l e = ap (λ (x : List ℕ). length x) e

module _ (s : Sight) (v : View) (quiet : v.told ≡ None) (agree : Agree (core_of s) (share_of v)) (sized : IsSized v.pool v.words) where
  -- a request is issued
  module _ (r : Request) (next : next_request v ≡ Some r) (idle : Idle (hand_of s)) where
    its : (place : ℕ) → IsPooled (frame_at r place)
    its place = pooled_at r (fine s v quiet agree sized r next idle).pooled place

    from_two : (f : ℕ) → IsPooled f → 2 ≤ f
    from_two f pooled = let low = pooled.0 in omega arith

    first_word : Touches s (entry_ask v (entry_of v.shape.abi r) 0)
    first_word = slot_write s v agree 0 (slice_index (entry_of v.shape.abi r) 0) (some_words v.shape.abi) (more_than s.entry idle.entry)

    issue_touches : (way : Transfer) → Touches s (issue_ask v r way)
    issue_touches (transfer.Write tag) = data_write s (frame_at r 0) 0 _ (its 0) (omega arith)
    issue_touches (transfer.Barrier tag) = data_write s (frame_at r 0) 0 _ (its 0) (omega arith)
    issue_touches transfer.Read = by_test (is_indirect r.count)
      where
        by_test : (b : Bool) → Touches s (if b then page_ask (Some r) 0 else name_ask (Some r) 0)
        by_test true = data_write s (frame_at r (frames_for r.count + 0)) 0 _ (its (frames_for r.count + 0)) (omega arith)
        by_test false = grants_name s (frame_at r 0) (from_two (frame_at r 0) (its 0)) (its 0).1
    issue_touches transfer.Flush = first_word
    issue_touches (transfer.Discard sectors) = first_word

    data_touches : (n : ℕ) → Touches s (data_ask (next_request v) n)
    data_touches n = subst (λ (o : Option Request). Touches s (data_ask o n)) (sym next) (data_write s (frame_at r (n / 1024)) (n % 1024) _ (its (n / 1024)) (slot_word_to n))

    page_touches : (n : ℕ) → Touches s (page_ask (next_request v) n)
    page_touches n = subst (λ (o : Option Request). Touches s (page_ask o n)) (sym next) (data_write s (frame_at r (frames_for r.count + n / 1024)) (n % 1024) _ (its (frames_for r.count + n / 1024)) (slot_word_to n))

    name_touches : (place : ℕ) → Touches s (name_ask (next_request v) place)
    name_touches place = subst (λ (o : Option Request). Touches s (name_ask o place)) (sym next) (grants_name s (frame_at r place) (from_two (frame_at r place) (its place)) (its place).1)

    grant_touches : (place : ℕ) → Touches s (grant_ask (next_request v) place)
    grant_touches place = subst (λ (o : Option Request). Touches s (grant_ask o place)) (sym next) (grants_write s (frame_at r place) _ (from_two (frame_at r place) (its place)) (its place).1)

  loop_touches : (o : Option Request) → next_request v ≡ o → Idle (hand_of s) → Touches s (loop_ask v o)
  loop_touches (Some r) next idle = issue_touches r next idle r.transfer
  loop_touches None next idle = by_test (v.ring.asleep || is_through v) (responses_of v.ring.indices v.ring.seen == 0)
    where
      by_test : (b c : Bool) → Touches s (if b then Wait else (if c then Read 2 2 else response_ask v 0))
      by_test true c = (tt, tt)
      by_test false true = index_read s 2 (omega arith)
      by_test false false = slot_read s v agree 0 (omega arith) (more_than s.response idle.response)

  -- a grant of the request that is answered
  revoke_touches : (place : ℕ) → IsEnding (hand_of s) v.requests v.last v.ending place → Touches s (revoke_ask v.ending place)
  revoke_touches place k = subst (λ (o : Option Ending). Touches s (revoke_ask o place)) (sym k.ending_is) (grants_read s (frame_at k.e.request place) (pooled_at k.e.request k.fine.pooled place).1)

  end_touches : (place before : ℕ) → IsEnding (hand_of s) v.requests v.last v.ending place → Touches s (end_ask v.ending place before)
  end_touches place before k =
      let its = pooled_at k.e.request k.fine.pooled place in
      subst (λ (o : Option Ending). Touches s (end_ask o place before)) (sym k.ending_is) (grants_end s (frame_at k.e.request place) before (let low = its.0 in omega arith) its.1)

  read_touches : (n : ℕ) → IsTelling (hand_of s) v.words v.ending n → Touches s (read_ask v.ending n)
  read_touches n k = subst (λ (o : Option Ending). Touches s (read_ask o n)) (sym k.ending_is) (data_read s v agree n k)

  slot_touches : (k : ℕ) → At (stage.Slot k) (hand_of s) (parts_of v) → Touches s (entry_ask v v.ring.entry k)
  slot_touches k is = slot_write s v agree k (slice_index v.ring.entry k) is.0 long
    where
      w : IsWriting (hand_of s) (next_request v) v.ring.entry v.shape k
      w = is.1

      long : length s.entry ≡ k
      long = ap (λ (l : List ℕ). length l) w.words ∙ length-take-le k (entry_of v.shape.abi w.r) (let lt = is.0 in let all = length_entry v.shape.abi w.r in omega arith)

-- the request whose entry was written is pushed
module _ (s : Sight) (v : View) (agree : Agree (core_of s) (share_of v)) (w : IsWriting (hand_of s) (next_request v) v.ring.entry v.shape (entry_words_of v.shape.abi)) where
  abbrev place : ℕ
  place = length v.requests - v.waiting

  it_stands : slice_get v.requests place ≡ Some w.r
  it_stands = next_stands v w.r w.next_is

  it_is : get_or v.requests place w.r ≡ w.r
  it_is = get_or_from_slice_get v.requests place w.r w.r it_stands

  inside : place < length v.requests
  inside = slice_get_within v.requests place w.r it_stands

  it_fine : IsFine s.submitted s.answered v.last w.r
  it_fine = subst (IsFine s.submitted s.answered v.last) it_is (agree.fine place w.r inside)

  -- those before it have lower numbers
  lower : All (λ (q : Request). q.number < w.r.number) (take place v.requests)
  lower = λ k d lt.
      let all = length-take-le place v.requests (omega arith) in
      let before : k < place = omega arith in
      let less = agree.ascending k place d before inside in
      let here = ap (λ (q : Request). q.number) (get_or-take place v.requests k d before) in
      let there = ap (λ (q : Request). q.number) (get_or_default v.requests place d w.r inside ∙ it_is) in
      omega arith

  push_right : IsPush s (next_of v.ring.indices.prod)
  push_right = record {
    next = ap next_of (sym agree.prod);
    request = w.r;
    submitted = ap (λ (n : ℕ). numbered n s.submitted) (entry_id_is s v agree w) ∙ it_fine.known;
    entry = entry_whole s v w ∙ ap (λ (shape : Shape). entry_of shape.abi w.r) (sym agree.shape);
    unanswered = it_fine.unanswered;
    unissued = ap (λ (l : List Request). numbered w.r.number l) agree.issued ∙ not_given (take place v.requests) w.r.number lower;
  }

stage_touches : (s : Sight) (v : View) → v.told ≡ None → (t : FrontStage) → Known t s v → Touches s (ask_at t v)
stage_touches s v quiet (stage.RingWord k) i = index_write s k (fresh_word v.start k) i.at.0 (λ first on. absurd (on (ap (fresh_word v.start) first ∙ sym (i.agree.prod ∙ i.at.1.0))))
stage_touches s v quiet (stage.RingFrame page) i = let own = page_own v page i.agree.few i.at.0 in grants_name s (ring_page_frame page) own.0 own.1
stage_touches s v quiet (stage.RingFence page) i = (tt, tt)
stage_touches s v quiet (stage.RingFlags page) i = let own = page_own v page i.agree.few i.at.0 in grants_write s (ring_page_frame page) _ own.0 own.1
stage_touches s v quiet stage.NewPort i = (tt, tt)
stage_touches s v quiet stage.Initialised i = (tt, tt)
stage_touches s v quiet stage.Loop i = loop_touches s v quiet i.agree i.sized (next_request v) refl i.at
stage_touches s v quiet (stage.Data n) i = data_touches s v quiet i.agree i.sized i.at.0.0 i.at.0.1 i.at.1 n
stage_touches s v quiet (stage.Pages n) i = page_touches s v quiet i.agree i.sized i.at.0.0 i.at.0.1 i.at.1 n
stage_touches s v quiet (stage.GrantFrame place) i = name_touches s v quiet i.agree i.sized i.at.0.0 i.at.0.1 i.at.1 place
stage_touches s v quiet (stage.GrantFence place) i = (tt, tt)
stage_touches s v quiet (stage.GrantFlags place) i = grant_touches s v quiet i.agree i.sized i.at.0.0 i.at.0.1 i.at.1 place
stage_touches s v quiet (stage.Slot k) i = slot_touches s v quiet i.agree i.sized k i.at
stage_touches s v quiet stage.Producer i = index_write s 0 (next_of v.ring.indices.prod) (omega arith) (λ first on. push_right s v i.agree i.at)
stage_touches s v quiet (stage.ProducerFence old) i = (tt, tt)
stage_touches s v quiet (stage.RequestEvent old) i = index_read s 1 (omega arith)
stage_touches s v quiet stage.Send i = (tt, tt)
stage_touches s v quiet (stage.ResponseHigh low) i = slot_read s v i.agree 1 (omega arith) (ap (λ (l : List ℕ). length l) i.at.response)
stage_touches s v quiet (stage.ResponseLast low high) i = slot_read s v i.agree 2 (omega arith) (ap (λ (l : List ℕ). length l) i.at.response)
stage_touches s v quiet (stage.GrantRead place) i = revoke_touches s v quiet i.agree i.sized place i.at
stage_touches s v quiet (stage.GrantEnd place before) i = end_touches s v quiet i.agree i.sized place before i.at
stage_touches s v quiet (stage.ReadData n) i = read_touches s v quiet i.agree i.sized n i.at
stage_touches s v quiet (stage.LeftData n) i = read_touches s v quiet i.agree i.sized n i.at.1
stage_touches s v quiet stage.StoreEvent i = index_write s 3 _ (omega arith) (λ first. absurd (omega arith))
stage_touches s v quiet stage.EventFence i = (tt, tt)
stage_touches s v quiet stage.LookAgain i = index_read s 2 (omega arith)
stage_touches s v quiet (stage.RingRead page) i = let own = page_own v page i.agree.few i.at.0 in grants_read s (ring_page_frame page) own.1
stage_touches s v quiet (stage.RingEnd page before) i = let own = page_own v page i.agree.few i.at.0 in grants_end s (ring_page_frame page) before own.0 own.1
stage_touches s v quiet stage.ClosePort i = (tt, tt)
stage_touches s v quiet (stage.KeptRead frame) i = (tt, tt)
stage_touches s v quiet (stage.KeptEnd frame seen) i = (tt, tt)
stage_touches s v quiet stage.Left i = (tt, tt)
stage_touches s v quiet stage.Closed i = (tt, tt)
stage_touches s v quiet (stage.Broken word) i = (tt, tt)

pub touches_right : IsKept IsTouch
touches_right = record {
  moves = λ s v a quiet known is. stage_touches s v quiet v.stage known;
  submits = λ s r. tt;
  enters = λ s st. tt;
  suspends = λ s. tt;
}
