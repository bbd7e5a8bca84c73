-- The stages in which the front makes its ring, writes data and grants, and issues a request.
use Rattle.std.proofs.Common.{◌≡◌, ◌≢◌, ℕ, ◌+◌, ◌-◌, ◌/◌, ◌%◌, ◌<◌, ◌≤◌, ◌==◌, Bool, true, false, if◌then◌else◌, List, [], ◌∷◌, ◌++◌, length, take, refl, ◌∙◌, subst, arith}
use Rattle.std.specs.Prelude.{Some, None, nat_lt, slice_get, slice_index}
use Rattle.std.proofs.lemmas.Option.{none-some, slice_get_within, get_or_from_slice_get}
use Rattle.std.proofs.lemmas.Bool.Decides.{nat_tests}
use Rattle.std.proofs.lemmas.Nat.{pow_pos}
use Rattle.blk_base.specs.declared.operation.Abi.{Abi}
use Rattle.blk_base.specs.declared.operation.Abi.TheVariants.{X64, X32}
use Rattle.blk_base.specs.declared.ask.FrontAsk.{FrontAsk}
use Rattle.blk_base.specs.declared.ask.FrontAsk.TheVariants.{Write}
use Rattle.blk_base.specs.declared.ask.FrontAnswer.{FrontAnswer}
use Rattle.ring_words.specs.Shape.{Shape, entry_words_of}
use Rattle.blk_front.specs.declared.request.Request.{Request}
use Rattle.blk_front.specs.declared.request.Transfer.{Transfer}
use Rattle.blk_front.specs.declared.request.Transfer.TheVariants as transfer
use Rattle.blk_front.specs.declared.stage.FrontStage.{FrontStage}
use Rattle.blk_front.specs.declared.stage.FrontStage.TheVariants as stage
use Rattle.blk_front.specs.Request.{frame_at, page_at, is_indirect, words_in, naming_words, frames_for}
use Rattle.blk_front.specs.Entry.{entry_of}
use Rattle.blk_front.specs.View.{View, next_request, fresh_word, slot_frame, slot_word, entry_frame, entry_word}
use Rattle.blk_front.specs.Ask.{issue_ask, entry_ask, page_ask, name_ask}
use Rattle.blk_front.specs.Step.{at, begun, entered, after_data, data_stage, page_stage, granted}
use Rattle.front_laws.specs.Sight.{Sight, wrote, moved}
use Rattle.front_laws.specs.Told.{told_of}
use Rattle.front_laws.proofs.Places.{IsPooled, pooled_at, grants_at, data_near, data_far, slot_near, slot_far, slot_past}
use Rattle.front_laws.proofs.Entries.{one_more}
use Rattle.front_laws.proofs.Known.{core_of, share_of, hand_of, parts_of, IsFine, Agree, IsSized, Idle, IsIssuing, IsWriting, At, IsKnown, Known, Goes, goes, calm}

-- an ask was answered, and the front is this one then
abbrev pub Steps : Sight → FrontAsk → FrontAnswer → View → Type 0
Steps s ask answer x = Goes (moved ask answer s) (told_of s ask answer) x

pub either : (b : Bool) (s : Sight) (ask : FrontAsk) (a : FrontAnswer) (x y : View) → Steps s ask a x → Steps s ask a y → Steps s ask a (if b then x else y)
either true s ask a x y p q = p
either false s ask a x y p q = q

pub either_at : (b : Bool) (s : Sight) (ask : FrontAsk) (a : FrontAnswer) (t u : FrontStage) (v : View) → Steps s ask a (at t v) → Steps s ask a (at u v) → Steps s ask a (at (if b then t else u) v)
either_at true s ask a t u v p q = p
either_at false s ask a t u v p q = q

-- a word of a grant's entry, of data, or of an entry of the ring is written
pub wrote_grant : (s : Sight) (f w value : ℕ) → f < 1018 → wrote (entry_frame f) w value s ≡ s
wrote_grant s f w value few = rw (grants_at f few) refl

pub wrote_data : (s : Sight) (f w value : ℕ) → 18 ≤ f → wrote f w value s ≡ s
wrote_data s f w value far = rw (data_near f far, data_far f far) refl

pub wrote_entry : (s : Sight) (shape : Shape) (k i value : ℕ) → shape.order ≤ 4 → i < entry_words_of shape.abi → wrote (slot_frame shape k i) (slot_word shape k i) value s ≡ record s { entry = s.entry ++ value ∷ [] }
wrote_entry s shape k i value few within = rw (slot_near shape k i, slot_far shape k i few within, slot_past shape k i) refl

none : (l : List ℕ) → [] ≡ take 0 l
none [] = refl
none (x ∷ l) = refl

more_words : (abi : Abi) → 0 < entry_words_of abi
more_words X64 = omega arith
more_words X32 = omega arith

two_words : (abi : Abi) → 1 < entry_words_of abi
two_words X64 = omega arith
two_words X32 = omega arith

-- a word of the fresh ring
wrote_fresh : (s : Sight) (start k : ℕ) → k < 16 → s.prod ≡ start → wrote 2 k (fresh_word start k) s ≡ s
wrote_fresh s start k few same = by_zero (k == 0) refl
  where
    within : nat_lt k 16 ≡ true
    within = grind (arith, nat_tests)

    still : (start == s.prod) ≡ true
    still = grind (arith, nat_tests)

    by_zero : (b : Bool) → (k == 0) ≡ b → wrote 2 k (fresh_word start k) s ≡ s
    by_zero true e = rw (within, e, still) refl
    by_zero false e = rw (within, e) refl

-- the request that is issued next
pub next_waits : (v : View) (r : Request) → next_request v ≡ Some r → 0 < v.waiting
next_waits v r next = by_none (v.waiting == 0) refl
  where
    by_none : (b : Bool) → (v.waiting == 0) ≡ b → 0 < v.waiting
    by_none true e = absurd (none-some r (rw e at next))
    by_none false e = grind (arith, nat_tests)

pub next_stands : (v : View) (r : Request) → next_request v ≡ Some r → slice_get v.requests (length v.requests - v.waiting) ≡ Some r
next_stands v r next = let some = next_waits v r next in let e : (v.waiting == 0) ≡ false = grind (arith, nat_tests) in rw e at next

module _ (s : Sight) (v : View) (quiet : v.told ≡ None) (agree : Agree (core_of s) (share_of v)) (sized : IsSized v.pool v.words) where
  abbrev To : FrontStage → Type 0
  To t = IsKnown t (core_of s) (share_of v) v.pool (hand_of s) (parts_of v)

  pub to : (t : FrontStage) → At t (hand_of s) (parts_of v) → To t
  to t is = record { agree = agree; sized = sized; at = is }

  -- the lines tell nothing else after it
  pub stays : (ask : FrontAsk) (a : FrontAnswer) (t : FrontStage) → told_of s ask a ≡ None → moved ask a s ≡ s → Known t s (at t v) → Steps s ask a (at t v)
  stays ask a t none same known = goes s s ask a None (at t v) none same (calm s (at t v) quiet known)

  pub word_goes : (k : ℕ) (a : FrontAnswer) → At (stage.RingWord k) (hand_of s) (parts_of v) → Steps s (Write 2 k (fresh_word v.start k)) a (at (if k == 15 then stage.RingFrame 0 else stage.RingWord (k + 1)) v)
  word_goes k a is = by_last (k == 15) refl
    where
      same : wrote 2 k (fresh_word v.start k) s ≡ s
      same = wrote_fresh s v.start k is.0 (agree.prod ∙ is.1.0)

      by_last : (b : Bool) → (k == 15) ≡ b → Steps s (Write 2 k (fresh_word v.start k)) a (at (if b then stage.RingFrame 0 else stage.RingWord (k + 1)) v)
      by_last true e = stays (Write 2 k (fresh_word v.start k)) a (stage.RingFrame 0) refl same (to (stage.RingFrame 0) (pow_pos v.shape.order, is.2))
      by_last false e = stays (Write 2 k (fresh_word v.start k)) a (stage.RingWord (k + 1)) refl same (to (stage.RingWord (k + 1)) ((let apart : k ≢ 15 = grind (arith, nat_tests) in let few = is.0 in omega arith), is.1, is.2))

  -- a request is issued
  module _ (r : Request) (next : next_request v ≡ Some r) (idle : Idle (hand_of s)) where
    stands : slice_get v.requests (length v.requests - v.waiting) ≡ Some r
    stands = next_stands v r next

    pub fine : IsFine s.submitted s.answered v.last r
    fine = subst (IsFine s.submitted s.answered v.last) (get_or_from_slice_get v.requests (length v.requests - v.waiting) r r stands) (agree.fine (length v.requests - v.waiting) r (slice_get_within v.requests (length v.requests - v.waiting) r stands))

    its : (place : ℕ) → IsPooled (frame_at r place)
    its place = pooled_at r fine.pooled place

    issuing : IsIssuing (next_request v)
    issuing = (r, next)

    -- a word of its data or of its indirect pages is written, and a frame of it is granted
    writes : (place w value : ℕ) (a : FrontAnswer) (t : FrontStage) → Known t s (at t v) → Steps s (Write (frame_at r place) w value) a (at t v)
    writes place w value a t known = stays (Write (frame_at r place) w value) a t refl (wrote_data s (frame_at r place) w value (its place).0) known

    pub data_goes : (n value : ℕ) (a : FrontAnswer) → Steps s (Write (frame_at r (n / 1024)) (n % 1024) value) a (at (data_stage (Some r) n) v)
    data_goes n value a =
        either_at (nat_lt (n + 1) (words_in r)) s (Write (frame_at r (n / 1024)) (n % 1024) value) a (stage.Data (n + 1)) (after_data r) v
        (writes (n / 1024) (n % 1024) value a (stage.Data (n + 1)) (to (stage.Data (n + 1)) (issuing, idle)))
        (either_at (is_indirect r.count) s (Write (frame_at r (n / 1024)) (n % 1024) value) a (stage.Pages 0) (stage.GrantFrame 0) v
        (writes (n / 1024) (n % 1024) value a (stage.Pages 0) (to (stage.Pages 0) (issuing, idle)))
        (writes (n / 1024) (n % 1024) value a (stage.GrantFrame 0) (to (stage.GrantFrame 0) (issuing, idle))))

    pub page_goes : (n value : ℕ) (a : FrontAnswer) → Steps s (Write (page_at r (n / 1024)) (n % 1024) value) a (at (page_stage (Some r) n) v)
    page_goes n value a =
        either_at (nat_lt (n + 1) (naming_words r)) s (Write (page_at r (n / 1024)) (n % 1024) value) a (stage.Pages (n + 1)) (stage.GrantFrame 0) v
        (writes (frames_for r.count + n / 1024) (n % 1024) value a (stage.Pages (n + 1)) (to (stage.Pages (n + 1)) (issuing, idle)))
        (writes (frames_for r.count + n / 1024) (n % 1024) value a (stage.GrantFrame 0) (to (stage.GrantFrame 0) (issuing, idle)))

    pub name_goes : (place value : ℕ) (a : FrontAnswer) → Steps s (Write (entry_frame (frame_at r place)) (entry_word (frame_at r place) + 1) value) a (at (stage.GrantFence place) v)
    name_goes place value a = stays (Write (entry_frame (frame_at r place)) (entry_word (frame_at r place) + 1) value) a (stage.GrantFence place) refl (wrote_grant s (frame_at r place) (entry_word (frame_at r place) + 1) value (its place).1) (to (stage.GrantFence place) (issuing, idle))

    -- the words of its entry are in hand
    begins : (k : ℕ) (entry : List ℕ) → k ≤ entry_words_of v.shape.abi → entry ≡ take k (entry_of v.shape.abi r) → IsWriting (record (hand_of s) { entry = entry }) (next_request v) (entry_of v.shape.abi r) v.shape k
    begins k entry within words = record { r = r; next_is = next; entry_is = refl; within = within; words = words; response = idle.response; taken = idle.taken; read = idle.read }

    pub granted_goes : (place value : ℕ) (a : FrontAnswer) → Steps s (Write (entry_frame (frame_at r place)) (entry_word (frame_at r place)) value) a (granted (Some r) place v)
    granted_goes place value a =
        either (nat_lt (place + 1) (length r.frames.items)) s (Write (entry_frame (frame_at r place)) (entry_word (frame_at r place)) value) a (at (stage.GrantFrame (place + 1)) v) (entered v r (stage.Slot 0))
        (stays (Write (entry_frame (frame_at r place)) (entry_word (frame_at r place)) value) a (stage.GrantFrame (place + 1)) refl same (to (stage.GrantFrame (place + 1)) (issuing, idle)))
        (goes s s (Write (entry_frame (frame_at r place)) (entry_word (frame_at r place)) value) a None (entered v r (stage.Slot 0)) refl same
        (calm s (entered v r (stage.Slot 0)) quiet (record { agree = agree; sized = sized; at = (more_words v.shape.abi, begins 0 s.entry (omega arith) (idle.entry ∙ nothing)) })))
      where
        same : wrote (entry_frame (frame_at r place)) (entry_word (frame_at r place)) value s ≡ s
        same = wrote_grant s (frame_at r place) (entry_word (frame_at r place)) value (its place).1

        nothing : [] ≡ take 0 (entry_of v.shape.abi r)
        nothing = none (entry_of v.shape.abi r)

    -- its first word is written in the loop, of one without frames
    pub entered_goes : (a : FrontAnswer) → Steps s (entry_ask v (entry_of v.shape.abi r) 0) a (entered v r (stage.Slot 1))
    entered_goes a =
        goes s (record s { entry = s.entry ++ slice_index (entry_of v.shape.abi r) 0 ∷ [] }) (entry_ask v (entry_of v.shape.abi r) 0) a None (entered v r (stage.Slot 1)) refl
        (wrote_entry s v.shape v.ring.indices.prod 0 (slice_index (entry_of v.shape.abi r) 0) agree.few (more_words v.shape.abi))
        (calm _ (entered v r (stage.Slot 1)) quiet
        (record { agree = agree; sized = sized; at = (two_words v.shape.abi, begins 1 (s.entry ++ slice_index (entry_of v.shape.abi r) 0 ∷ []) (let some = more_words v.shape.abi in omega arith) (one_more v.shape.abi r 0 (slice_index (entry_of v.shape.abi r) 0) s.entry (more_words v.shape.abi) (idle.entry ∙ none (entry_of v.shape.abi r)) refl)) }))

    pub begun_goes : (way : Transfer) (a : FrontAnswer) → Steps s (issue_ask v r way) a (begun v r way)
    begun_goes (transfer.Write tag) a = writes 0 0 _ a (stage.Data 1) (to (stage.Data 1) (issuing, idle))
    begun_goes (transfer.Barrier tag) a = writes 0 0 _ a (stage.Data 1) (to (stage.Data 1) (issuing, idle))
    begun_goes transfer.Read a = by_test (is_indirect r.count)
      where
        by_test : (b : Bool) → Steps s (if b then page_ask (Some r) 0 else name_ask (Some r) 0) a (at (if b then stage.Pages 1 else stage.GrantFence 0) v)
        by_test true = writes (frames_for r.count + 0) 0 _ a (stage.Pages 1) (to (stage.Pages 1) (issuing, idle))
        by_test false = name_goes 0 _ a
    begun_goes transfer.Flush a = entered_goes a
    begun_goes (transfer.Discard sectors) a = entered_goes a
