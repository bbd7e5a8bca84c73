-- Where a front as it is asks nothing of a frame's grant, and where it pushes nothing.
use Rattle.std.proofs.Common.{◌≡◌, ◌≢◌, ℕ, ◌+◌, ◌/◌, ◌%◌, ◌^◌, ◌<◌, ◌≤◌, ◌||◌, ◌==◌, Bool, true, false, if◌then◌else◌, refl, arith, ◌&&◌, sym, ◌∙◌}
use Rattle.std.specs.Prelude.{nat_lt, Option, Some, None}
use Rattle.std.proofs.lemmas.Bool.{false≢true}
use Rattle.std.proofs.lemmas.Bool.Decides.{nat_tests}
use Rattle.blk_base.specs.declared.ask.FrontAsk.{FrontAsk}
use Rattle.blk_base.specs.declared.ask.FrontAsk.TheVariants.{Wait, Read}
use Rattle.ring_words.specs.Ring.{responses_of}
use Rattle.ring_words.specs.Shape.{Shape}
use Rattle.blk_front.specs.declared.request.Request.{Request}
use Rattle.blk_front.specs.declared.request.Transfer.{Transfer}
use Rattle.blk_front.specs.declared.request.Transfer.TheVariants as transfer
use Rattle.blk_front.specs.declared.stage.FrontStage.{FrontStage}
use Rattle.blk_front.specs.declared.stage.FrontStage.TheVariants as stage
use Rattle.blk_front.specs.declared.stage.Ending.{Ending}
use Rattle.blk_front.specs.Request.{frame_at, frames_for, is_indirect}
use Rattle.blk_front.specs.Entry.{entry_of}
use Rattle.blk_front.specs.View.{View, next_request, ring_page_frame, entry_frame, entry_word, slot_frame, slot_word}
use Rattle.blk_front.specs.Ask.{is_through, response_ask, entry_ask, data_ask, page_ask, name_ask, revoke_ask, read_ask}
use Rattle.blk_front.specs.Keep.{first_place, name_or_enter, issue_ask_as, loop_ask_as, grant_ask_as, ask_as_at}
use Rattle.blk_front.proofs.Shapes.{few_pages}
use Rattle.front_laws.specs.Kept.{is_flags}
use Rattle.front_laws.proofs.Places.{IsPooled, pooled_at, slot_past}
use Rattle.front_laws.proofs.KeptAsks.{touches, not_there, not_odd, not_other}
use Rattle.front_laws.proofs.KeptStages.{IsOwn, Base, At, next_own}

-- a test that no word of the data, of an entry and of a grant's name passes
module _ (here : ℕ → ℕ → Bool)
    (pools : (place word : ℕ) → 18 ≤ place → here place word ≡ false)
    (slots : (s : Shape) (k i : ℕ) → here (slot_frame s k i) (slot_word s k i) ≡ false)
    (names : (g : ℕ) → g < 1018 → here (entry_frame g) (entry_word g + 1) ≡ false) where
  either_ask : (b : Bool) (x y : FrontAsk) → touches here x ≡ false → touches here y ≡ false → touches here (if b then x else y) ≡ false
  either_ask true x y p q = p
  either_ask false x y p q = q

  -- of a request with frames of the pool
  module _ (v : View) (r : Request) (own : IsOwn r) where
    its : (place : ℕ) → IsPooled (frame_at r place)
    its place = pooled_at r own.pooled place

    in_data : (n : ℕ) → touches here (data_ask (Some r) n) ≡ false
    in_data n = pools (frame_at r (n / 1024)) (n % 1024) (its (n / 1024)).0

    in_pages : (n : ℕ) → touches here (page_ask (Some r) n) ≡ false
    in_pages n = pools (frame_at r (frames_for r.count + n / 1024)) (n % 1024) (its (frames_for r.count + n / 1024)).0

    in_name : (place : ℕ) → touches here (name_ask (Some r) place) ≡ false
    in_name place = names (frame_at r place) (its place).1

    in_entry : touches here (entry_ask v (entry_of v.shape.abi r) 0) ≡ false
    in_entry = slots v.shape v.ring.indices.prod 0

    named_or_entered_asks : (o : Option ℕ) → touches here (name_or_enter v r o) ≡ false
    named_or_entered_asks (Some place) = in_name place
    named_or_entered_asks None = in_entry

    issue_asks : (way : Transfer) → touches here (issue_ask_as v r way) ≡ false
    issue_asks (transfer.Write tag) = in_data 0
    issue_asks (transfer.Barrier tag) = in_data 0
    issue_asks transfer.Read = either_ask (is_indirect r.count) (page_ask (Some r) 0) (name_or_enter v r (first_place v r)) (in_pages 0) (named_or_entered_asks (first_place v r))
    issue_asks transfer.Flush = in_entry
    issue_asks (transfer.Discard sectors) = in_entry

  -- of one that is issued
  module _ (v : View) (base : Base v) where
    data_asks : (next : Option Request) (n : ℕ) → next_request v ≡ next → touches here (data_ask next n) ≡ false
    data_asks None n is = refl
    data_asks (Some r) n is = in_data v r (next_own v r base is) n

    page_asks : (next : Option Request) (n : ℕ) → next_request v ≡ next → touches here (page_ask next n) ≡ false
    page_asks None n is = refl
    page_asks (Some r) n is = in_pages v r (next_own v r base is) n

    name_asks : (next : Option Request) (place : ℕ) → next_request v ≡ next → touches here (name_ask next place) ≡ false
    name_asks None place is = refl
    name_asks (Some r) place is = in_name v r (next_own v r base is) place

    loop_asks : (next : Option Request) → next_request v ≡ next → touches here (loop_ask_as v next) ≡ false
    loop_asks None is =
        either_ask (v.ring.asleep || is_through v) Wait (if responses_of v.ring.indices v.ring.seen == 0 then Read 2 2 else response_ask v 0) refl
        (either_ask (responses_of v.ring.indices v.ring.seen == 0) (Read 2 2) (response_ask v 0) refl refl)
    loop_asks (Some r) is = issue_asks v r (next_own v r base is) r.transfer

  revoke_quiet : (e : Option Ending) (place : ℕ) → touches here (revoke_ask e place) ≡ false
  revoke_quiet None place = refl
  revoke_quiet (Some e) place = refl

  read_quiet : (e : Option Ending) (n : ℕ) → touches here (read_ask e n) ≡ false
  read_quiet None n = refl
  read_quiet (Some e) n = refl

  -- the stages at which it asks for a word of the index page or the flags of a grant
  abbrev pub IsAside : FrontStage → Type 0
  IsAside (stage.RingWord k) = ⊥
  IsAside (stage.RingFlags page) = ⊥
  IsAside (stage.GrantFlags place) = ⊥
  IsAside stage.Producer = ⊥
  IsAside (stage.GrantEnd place before) = ⊥
  IsAside stage.StoreEvent = ⊥
  IsAside (stage.RingEnd page before) = ⊥
  IsAside (stage.KeptEnd frame before) = ⊥
  IsAside s = Unit {0}

  -- and the others
  aside : (s : FrontStage) (v : View) → IsAside s → Base v → At s v → touches here (ask_as_at s v) ≡ false
  aside (stage.RingFrame page) v is base i = names (ring_page_frame page) (let few = few_pages v.shape.order base.few in let lt = i.0 in omega arith)
  aside stage.Loop v is base i = loop_asks v base (next_request v) refl
  aside (stage.Data n) v is base i = data_asks v base (next_request v) n refl
  aside (stage.Pages n) v is base i = page_asks v base (next_request v) n refl
  aside (stage.GrantFrame place) v is base i = name_asks v base (next_request v) place refl
  aside (stage.Slot k) v is base i = slots v.shape v.ring.indices.prod k
  aside (stage.GrantRead place) v is base i = revoke_quiet v.ending place
  aside (stage.ReadData n) v is base i = read_quiet v.ending n
  aside (stage.LeftData n) v is base i = read_quiet v.ending n
  aside (stage.KeptRead frame) v is base i = rw i.keeps refl
  aside (stage.RingWord k) v is base i = absurd is
  aside (stage.RingFlags page) v is base i = absurd is
  aside (stage.GrantFlags place) v is base i = absurd is
  aside stage.Producer v is base i = absurd is
  aside (stage.GrantEnd place before) v is base i = absurd is
  aside stage.StoreEvent v is base i = absurd is
  aside (stage.RingEnd page before) v is base i = absurd is
  aside (stage.KeptEnd frame before) v is base i = absurd is
  aside s v is base i = refl

-- the stages at which it asks nothing of a frame's grant
module _ (f : ℕ) (pooled : IsPooled f) where
  abbrev pub IsQuiet : FrontStage → Type 0
  IsQuiet (stage.GrantFlags place) = ⊥
  IsQuiet (stage.GrantEnd place before) = ⊥
  IsQuiet (stage.KeptEnd frame before) = ⊥
  IsQuiet s = Unit {0}

  far : (place word : ℕ) → 2 ≤ place → is_flags f place word ≡ false
  far place word from = not_there f place word pooled.1 from

  page_flags : (v : View) → Base v → (page : ℕ) → page < 2 ^ v.shape.order → is_flags f (entry_frame (ring_page_frame page)) (entry_word (ring_page_frame page)) ≡ false
  page_flags v base page lt = not_other f (ring_page_frame page) (λ same. let few = few_pages v.shape.order base.few in let from = pooled.0 in omega arith)

  pub quiet : (s : FrontStage) (v : View) → IsQuiet s → Base v → At s v → touches (is_flags f) (ask_as_at s v) ≡ false
  quiet (stage.RingWord k) v is base i = far 2 k (omega arith)
  quiet (stage.RingFlags page) v is base i = page_flags v base page i.0
  quiet (stage.GrantFlags place) v is base i = absurd is
  quiet stage.Producer v is base i = far 2 0 (omega arith)
  quiet (stage.GrantEnd place before) v is base i = absurd is
  quiet stage.StoreEvent v is base i = far 2 3 (omega arith)
  quiet (stage.RingEnd page before) v is base i = page_flags v base page i.0
  quiet (stage.KeptEnd frame before) v is base i = absurd is
  quiet s v is base i = aside (is_flags f) (λ place word from. far place word (omega arith)) (λ t k n. far (slot_frame t k n) (slot_word t k n) (omega arith)) (λ g few. not_odd f g (entry_frame g)) s v tt base i

-- the requests' producer
abbrev pub is_producer : ℕ → ℕ → Bool
is_producer place word = place == 2 && word == 0

no_producer : (place word : ℕ) → place ≢ 2 → is_producer place word ≡ false
no_producer place word other = let e : (place == 2) ≡ false = grind (arith, nat_tests) in rw e refl

of_grants : (g word : ℕ) → g < 1018 → is_producer (entry_frame g) word ≡ false
of_grants g word few = no_producer (entry_frame g) word (λ same. let at : (g + 6) / 512 ≡ 2 = same in omega arith)

of_slots : (s : Shape) (k i : ℕ) → is_producer (slot_frame s k i) (slot_word s k i) ≡ false
of_slots s k i = not_first (slot_frame s k i == 2) (slot_word s k i) (slot_past s k i)
  where
    not_first : (b : Bool) (word : ℕ) → (b && nat_lt word 16) ≡ false → (b && word == 0) ≡ false
    not_first true word past = grind (arith, nat_tests)
    not_first false word past = refl

-- where it keeps grants it is raised at one stage
abbrev pub IsNoPush : FrontStage → Type 0
IsNoPush stage.Producer = ⊥
IsNoPush s = Unit {0}

pub unpushed : (s : FrontStage) (v : View) → IsNoPush s → Base v → At s v → v.offers.persistent ≡ true → touches is_producer (ask_as_at s v) ≡ false
unpushed (stage.RingWord k) v is base i keeps = absurd (false≢true (sym i ∙ keeps))
unpushed (stage.RingFlags page) v is base i keeps = absurd (false≢true (sym i.1 ∙ keeps))
unpushed (stage.GrantFlags place) v is base i keeps = by_next (next_request v) refl
  where
    by_next : (next : Option Request) → next_request v ≡ next → touches is_producer (grant_ask_as v.offers.persistent next place) ≡ false
    by_next None its = refl
    by_next (Some r) its = of_grants (frame_at r place) (entry_word (frame_at r place)) (pooled_at r (next_own v r base its).pooled place).1
unpushed stage.Producer v is base i keeps = absurd is
unpushed (stage.GrantEnd place before) v is base i keeps = absurd (false≢true (sym i ∙ keeps))
unpushed stage.StoreEvent v is base i keeps = refl
unpushed (stage.RingEnd page before) v is base i keeps = of_grants (ring_page_frame page) (entry_word (ring_page_frame page)) (let few = few_pages v.shape.order base.few in let lt = i.0 in omega arith)
unpushed (stage.KeptEnd frame before) v is base i keeps = rw keeps (of_grants frame (entry_word frame) i.lowest.pooled.1)
unpushed s v is base i keeps = aside is_producer (λ place word from. no_producer place word (λ same. omega arith)) of_slots (λ g few. of_grants g (entry_word g + 1) few) s v tt base i
