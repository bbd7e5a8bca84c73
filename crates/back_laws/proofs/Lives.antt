-- What is known of a back at each stage: what it asked so far.
use Rattle.std.proofs.Common.{◌≡◌, ℕ, ◌<◌, ◌≤◌, true, List, [], ◌∷◌, ◌++◌, length}
use Rattle.std.specs.Prelude.{Option, None}
use Rattle.std.specs.List.{AllByRecursion}
use Rattle.blk_base.specs.Distance.{distance_of}
use Rattle.ring_words.specs.Ring.{next_of, requests_of, notifies}
use Rattle.ring_words.specs.Shape.{entries_of, entry_words_of}
use Rattle.blk_base.specs.declared.halt.Halt.{Halt}
use Rattle.blk_back.specs.declared.stage.Reply.{Reply}
use Rattle.blk_back.specs.declared.stage.BackStage.{BackStage}
use Rattle.blk_back.specs.declared.stage.BackStage.TheVariants as stage
use Rattle.blk_back.specs.View.{View}
use Rattle.back_laws.specs.Activity.{Asked, Reach, entry_from, read, wrote, fenced, page_at, replied_word}
use Rattle.back_laws.specs.Life.{IsOpening, mapped_in, HasHalted}
use Rattle.back_laws.specs.Ledger.{JobAsked}
use Rattle.back_laws.proofs.Keeping.{Keeps}
use Rattle.back_jobs.specs.Work.{Work}
use Rattle.back_laws.proofs.Activities.{IsAt}

-- where the back stands
abbrev pub here : View → Reach
here v = record { shape = v.shape; pages = v.pages; prod = v.ring.indices.prod; cons = v.ring.indices.cons; seen = v.ring.seen }

-- with the responses' producer as it was before the last push
abbrev pub before_push : ℕ → View → Reach
before_push old v = record (here v) { prod = old }

-- its port isn't bound yet
pub record IsOpened (start : ℕ) (trace : List JobAsked) (own : List Asked) (r : Reach) (halted : Option Halt) (works : List Work) (fetched : ℕ) : Type 0 where
  pub opens : AllByRecursion IsOpening own
  pub pages : r.pages ≡ mapped_in own
  pub prod : r.prod ≡ start
  pub cons : r.cons ≡ start
  pub seen : r.seen ≡ start
  pub none : halted ≡ None
  pub quiet : trace ≡ []
  pub jobless : works ≡ []
  pub first : fetched ≡ 0

-- the words of a reply that were written
abbrev pub three : Reach → Reply → List Asked
three r reply = replied_word r reply 0 ∷ replied_word r reply 1 ∷ replied_word r reply 2 ∷ []

abbrev pub pushed : Reach → Reply → List Asked
pushed r reply = replied_word r reply 0 ∷ replied_word r reply 1 ∷ replied_word r reply 2 ∷ wrote (page_at r 0) 2 (next_of r.prod) ∷ []

-- the producer is another one since a reply was pushed, which answered a request that waited
abbrev pub IsPushed : ℕ → View → Type 0
IsPushed old v = (next_of old ≡ v.ring.indices.prod) × (1 ≤ distance_of old v.ring.indices.cons)

-- the entry in hand was shown, and so many of its words were read
abbrev pub IsCopying : ℕ → View → Type 0
IsCopying k v = (1 ≤ requests_of v.ring.indices v.ring.seen) × (length v.ring.entry ≡ k) × (k < entry_words_of v.shape.abi)

-- with a reply under way, or none
abbrev pub At : ℕ → List JobAsked → List Asked → View → List Reply → Reach → List Asked → Type 0
At start trace own v under r part = IsAt start own v.shape v.pages v.halted r part (Keeps trace v.jobs.info v.shape.abi v.jobs.works v.fetched under)

abbrev pub KnowsAt : BackStage → ℕ → List JobAsked → List Asked → List Halt → View → Type 0
KnowsAt stage.InitWait start trace own calls v = IsOpened start trace own (here v) v.halted v.jobs.works v.fetched
KnowsAt stage.MapRing start trace own calls v = IsOpened start trace own (here v) v.halted v.jobs.works v.fetched
KnowsAt stage.Bind start trace own calls v = IsOpened start trace own (here v) v.halted v.jobs.works v.fetched
KnowsAt stage.Loop start trace own calls v = At start trace own v [] (here v) []
KnowsAt (stage.Fetch k) start trace own calls v = IsCopying k v × At start trace own v [] (here v) (entry_from (here v) 0 v.ring.entry)
KnowsAt (stage.ReplyHigh r) start trace own calls v = At start trace own v (r ∷ []) (here v) (replied_word (here v) r 0 ∷ [])
KnowsAt (stage.ReplyLast r) start trace own calls v = At start trace own v (r ∷ []) (here v) (replied_word (here v) r 0 ∷ replied_word (here v) r 1 ∷ [])
KnowsAt (stage.Producer r) start trace own calls v = At start trace own v (r ∷ []) (here v) (three (here v) r)
KnowsAt (stage.ProducerFence old) start trace own calls v = (r : Reply) × IsPushed old v × At start trace own v (r ∷ []) (before_push old v) (pushed (before_push old v) r)
KnowsAt (stage.ResponseEvent old) start trace own calls v = (r : Reply) × IsPushed old v × At start trace own v (r ∷ []) (before_push old v) (pushed (before_push old v) r ++ fenced ∷ [])
KnowsAt stage.Send start trace own calls v =
    (r : Reply) × (old : ℕ) × (event : ℕ) × IsPushed old v × (notifies old v.ring.indices.prod event ≡ true)
    × At start trace own v (r ∷ []) (before_push old v) (pushed (before_push old v) r ++ fenced ∷ read (page_at (before_push old v) 0) 3 event ∷ [])
KnowsAt stage.StoreEvent start trace own calls v = (v.ring.seen ≡ v.ring.indices.cons) × At start trace own v [] (here v) []
KnowsAt stage.EventFence start trace own calls v = (v.ring.seen ≡ v.ring.indices.cons) × At start trace own v [] (here v) (wrote (page_at (here v) 0) 1 (next_of v.ring.indices.cons) ∷ [])
KnowsAt stage.LookAgain start trace own calls v = (v.ring.seen ≡ v.ring.indices.cons) × At start trace own v [] (here v) (wrote (page_at (here v) 0) 1 (next_of v.ring.indices.cons) ∷ fenced ∷ [])
KnowsAt s start trace own calls v = HasHalted start v.shape own calls v.halted

-- the entries are those of the ring's shape
pub record Knows (start : ℕ) (trace : List JobAsked) (own : List Asked) (calls : List Halt) (v : View) : Type 0 where
  pub entries : v.ring.indices.entries ≡ entries_of v.shape.order
  pub at : KnowsAt v.stage start trace own calls v
