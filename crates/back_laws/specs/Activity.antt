-- What a connected back does with its ring, one activity after another, and what it asks for each (`io/ring.h`: RING_GET_REQUEST, RING_PUSH_RESPONSES_AND_CHECK_NOTIFY, RING_FINAL_CHECK_FOR_REQUESTS).
use Rattle.std.specs.Prelude.{◌≡◌, ℕ, ◌+◌, ◌≤◌, Bool, true, false, List, [], ◌∷◌, ◌++◌, length, slice_index_or}
use Rattle.blk_base.specs.Distance.{distance_of}
use Rattle.blk_base.specs.declared.parts.Mapping.{Mapping}
use Rattle.blk_base.specs.declared.ask.BackAsk.{BackAsk}
use Rattle.blk_base.specs.declared.ask.BackAsk.TheVariants.{Wait, Fence, Read, Write, Send}
use Rattle.blk_base.specs.declared.ask.BackAnswer.{BackAnswer}
use Rattle.blk_base.specs.declared.ask.BackAnswer.TheVariants as answer
use Rattle.ring_words.specs.Ring.{Ring, next_of, requests_of, overruns, notifies}
use Rattle.ring_words.specs.Shape.{Shape, entries_of, entry_words_of, slot_word_of}
use Rattle.blk_back.specs.declared.stage.Reply.{Reply}
use Rattle.blk_back.specs.View.{no_page}
use Rattle.blk_back.specs.Ask.{response_word, IsAnswer}

-- an ask with its answer
pub record Asked : Type 0 where
  pub ask : BackAsk
  pub answer : BackAnswer

-- Where a connected back stands with its ring, by what it did: the ring's shape, and its pages as they were mapped; the responses' producer that it wrote last; the index of the next entry; the requests' producer that it read last.
pub record Reach : Type 0 where
  pub shape : Shape
  pub pages : List Mapping
  pub prod : ℕ
  pub cons : ℕ
  pub seen : ℕ

-- It is woken, or a watch fires; it reads the requests' producer; it stores the event word to be woken by the next request, and reads the producer again behind a fence; it copies the next entry, of these words; it writes a response, pushes it, and reads behind a fence whether the front waits for one.
pub data Activity : Type 0 where
  Waits : (given : BackAnswer) → Activity
  Looks : (produced : ℕ) → Activity
  Rests : (produced : ℕ) → Activity
  Fetches : (words : List ℕ) → Activity
  Replies : (reply : Reply) (event : ℕ) → Activity

-- a word is read, a word is written, and what was done so far is seen before what comes
abbrev pub read : Mapping → ℕ → ℕ → Asked
read page word value = record { ask = Read page word; answer = answer.Word value }

abbrev pub wrote : Mapping → ℕ → ℕ → Asked
wrote page word value = record { ask = Write page word value; answer = answer.Done }

abbrev pub fenced : Asked
fenced = record { ask = Fence; answer = answer.Done }

abbrev pub page_at : Reach → ℕ → Mapping
page_at r page = slice_index_or r.pages page no_page

-- word i of the entry of index k: its page, and its place there
abbrev pub slot_page : Reach → ℕ → ℕ → Mapping
slot_page r k i = page_at r (slot_word_of r.shape k i).0

abbrev pub slot_word : Reach → ℕ → ℕ → ℕ
slot_word r k i = (slot_word_of r.shape k i).1

-- the words of the next entry from word i on, each read once, in their order
abbrev pub entry_from : Reach → ℕ → List ℕ → List Asked
entry_from r i [] = []
entry_from r i (word ∷ words) = read (slot_page r r.cons i) (slot_word r r.cons i) word ∷ entry_from r (i + 1) words

-- word i of the response in the slot of the next response
abbrev pub replied_word : Reach → Reply → ℕ → Asked
replied_word r reply i = wrote (slot_page r r.prod i) (slot_word r r.prod i) (response_word reply i)

-- an event to the front where it waits for this response
abbrev pub sent : Bool → List Asked
sent true = record { ask = Send; answer = answer.Done } ∷ []
sent false = []

-- what is asked for an activity, and answered; req_prod, req_event, rsp_prod and rsp_event are words 0 to 3 of the ring's first page (struct __name##_sring)
abbrev pub asks_of : Reach → Activity → List Asked
asks_of r (Waits given) = record { ask = Wait; answer = given } ∷ []
asks_of r (Looks produced) = read (page_at r 0) 0 produced ∷ []
asks_of r (Rests produced) = wrote (page_at r 0) 1 (next_of r.cons) ∷ fenced ∷ read (page_at r 0) 0 produced ∷ []
asks_of r (Fetches words) = entry_from r 0 words
asks_of r (Replies reply event) =
    replied_word r reply 0 ∷ replied_word r reply 1 ∷ replied_word r reply 2
    ∷ wrote (page_at r 0) 2 (next_of r.prod) ∷ fenced ∷ read (page_at r 0) 3 event
    ∷ sent (notifies r.prod (next_of r.prod) event)

-- where it stands then
abbrev pub reached : Reach → Activity → Reach
reached r (Waits given) = r
reached r (Looks produced) = record r { seen = produced }
reached r (Rests produced) = record r { seen = produced }
reached r (Fetches words) = record r { cons = next_of r.cons }
reached r (Replies reply event) = record r { prod = next_of r.prod }

abbrev pub indices : Reach → Ring
indices r = record { entries = entries_of r.shape.order; prod = r.prod; cons = r.cons }

-- When each may be done. The producer is read where no entry is left that it showed, and read again where it showed none; neither overran the ring. An entry is copied whole, after a producer that showed it. A response has a request that was fetched and has none yet.
abbrev pub IsRight : Reach → Activity → Type 0
IsRight r (Waits given) = IsAnswer Wait given
IsRight r (Looks produced) = (requests_of (indices r) r.seen ≡ 0) × (overruns (indices r) produced ≡ false)
IsRight r (Rests produced) = (r.seen ≡ r.cons) × (overruns (indices r) produced ≡ false)
IsRight r (Fetches words) = (1 ≤ requests_of (indices r) r.seen) × (length words ≡ entry_words_of r.shape.abi)
IsRight r (Replies reply event) = 1 ≤ distance_of r.prod r.cons

-- a read of the producer that overran the ring: the same look, but for that
abbrev pub IsOverrun : Reach → Activity → ℕ → Type 0
IsOverrun r (Looks produced) shown = (requests_of (indices r) r.seen ≡ 0) × (overruns (indices r) produced ≡ true) × (shown ≡ produced)
IsOverrun r (Rests produced) shown = (r.seen ≡ r.cons) × (overruns (indices r) produced ≡ true) × (shown ≡ produced)
IsOverrun r activity shown = ⊥

-- activities one after another: what they ask, where they lead, and that each is right where it is done
abbrev pub all_asks : Reach → List Activity → List Asked
all_asks r [] = []
all_asks r (activity ∷ activities) = asks_of r activity ++ all_asks (reached r activity) activities

abbrev pub all_reached : Reach → List Activity → Reach
all_reached r [] = r
all_reached r (activity ∷ activities) = all_reached (reached r activity) activities

abbrev pub AreRight : Reach → List Activity → Type 0
AreRight r [] = Unit {0}
AreRight r (activity ∷ activities) = IsRight r activity × AreRight (reached r activity) activities

-- the first asks of an activity that is right
pub record IsBegun (r : Reach) (part : List Asked) : Type 0 where
  pub activity : Activity
  pub rest : List Asked
  pub right : IsRight r activity
  pub first : asks_of r activity ≡ part ++ rest
