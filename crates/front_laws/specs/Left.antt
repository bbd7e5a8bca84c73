-- How many moves are left to the front at most, and by how much an answer may raise that.
use Rattle.std.specs.Prelude.{◌≡◌, ℕ, ◌+◌, ◌-◌, ◌*◌, ◌^◌, ◌<◌, Bool, cond, List, length, drop, sum_by, Option, Some, None}
use Rattle.blk_base.specs.Distance.{distance_of}
use Rattle.blk_base.specs.declared.ask.FrontAnswer.{FrontAnswer}
use Rattle.blk_base.specs.declared.ask.FrontAnswer.TheVariants.{Event, Watched, Word}
use Rattle.ring_words.specs.Shape.{entry_words_of}
use Rattle.blk_front.specs.declared.request.Request.{Request}
use Rattle.blk_front.specs.declared.stage.Ending.{Ending}
use Rattle.blk_front.specs.declared.stage.FrontStage.{FrontStage}
use Rattle.blk_front.specs.declared.stage.FrontStage.TheVariants as stage
use Rattle.blk_front.specs.Request.{words_in, naming_words}
use Rattle.blk_front.specs.View.{View, next_request}
use Rattle.blk_front.specs.Sound.{IsSound}
use Rattle.blk_front.specs.Ask.{ask_of, IsAnswer}
use Rattle.blk_front.specs.Step.{step_of}

-- an awake front looks once, and then a last time: the producer, the event word, a fence, the producer again
abbrev pub awake_left : Bool → ℕ
awake_left asleep = cond asleep 0 4

-- A request's response, once it is taken: each of its grants is ended in two moves, and then each word of its data is read.
abbrev pub end_left : Request → ℕ
end_left r = 2 * length r.frames.items + words_in r

-- From its grants on it is issued: three moves a grant, an entry of at most 28 words, a push of four moves. Before that the words of its data are written, and those of its indirect pages.
abbrev pub grants_left : Request → ℕ
grants_left r = 3 * length r.frames.items + 32

abbrev pub issue_left : Request → ℕ
issue_left r = words_in r + naming_words r + grants_left r

-- the requests that wait, but so many
abbrev pub waiting_after : ℕ → View → List Request
waiting_after begun v = drop (length v.requests - v.waiting + begun) v.requests

-- a response that was seen is three words; each request that isn't taken is ended once it is
abbrev pub owed : View → ℕ
owed v = 3 * distance_of v.ring.indices.cons v.ring.seen + sum_by end_left v.requests

abbrev pub rest_after : ℕ → View → ℕ
rest_after begun v = awake_left v.ring.asleep + owed v + sum_by issue_left (waiting_after begun v)

-- what is left to the request that is issued, and of the one that is ending
abbrev pub of_next : Option Request → (Request → ℕ) → ℕ
of_next None left = 0
of_next (Some r) left = left r

abbrev pub of_ending : Option Ending → (Request → ℕ) → ℕ
of_ending None left = 0
of_ending (Some e) left = left e.request

-- a request that is being issued still counts among those that wait (`waiting` falls as it is pushed), so its price is replaced by what is left of it
abbrev pub left_at : FrontStage → View → ℕ
left_at stage.Loop v = rest_after 0 v
left_at (stage.Data n) v = of_next (next_request v) (λ r. (words_in r - n) + naming_words r + grants_left r) + rest_after 1 v
left_at (stage.Pages n) v = of_next (next_request v) (λ r. (naming_words r - n) + grants_left r) + rest_after 1 v
left_at (stage.GrantFrame place) v = of_next (next_request v) (λ r. 3 * (length r.frames.items - place) + 32) + rest_after 1 v
left_at (stage.GrantFence place) v = of_next (next_request v) (λ r. 3 * (length r.frames.items - place) + 31) + rest_after 1 v
left_at (stage.GrantFlags place) v = of_next (next_request v) (λ r. 3 * (length r.frames.items - place) + 30) + rest_after 1 v
left_at (stage.Slot k) v = (entry_words_of v.shape.abi - k) + 4 + rest_after 1 v
left_at stage.Producer v = 4 + rest_after 1 v
left_at (stage.ProducerFence old) v = 3 + rest_after 0 v
left_at (stage.RequestEvent old) v = 2 + rest_after 0 v
left_at stage.Send v = 1 + rest_after 0 v
left_at (stage.ResponseHigh low) v =
    2 + 3 * (distance_of v.ring.indices.cons v.ring.seen - 1) + 4 + sum_by end_left v.requests + sum_by issue_left (waiting_after 0 v)
left_at (stage.ResponseLast low high) v =
    1 + 3 * (distance_of v.ring.indices.cons v.ring.seen - 1) + 4 + sum_by end_left v.requests + sum_by issue_left (waiting_after 0 v)
left_at (stage.GrantRead place) v = of_ending v.ending (λ r. 2 * (length r.frames.items - place) + words_in r) + rest_after 0 v
left_at (stage.GrantEnd place before) v = of_ending v.ending (λ r. 2 * (length r.frames.items - place) + words_in r - 1) + rest_after 0 v
left_at (stage.ReadData n) v = of_ending v.ending (λ r. words_in r - n) + rest_after 0 v
left_at stage.StoreEvent v = 3 + owed v + sum_by issue_left (waiting_after 0 v)
left_at stage.EventFence v = 2 + owed v + sum_by issue_left (waiting_after 0 v)
left_at stage.LookAgain v = 1 + owed v + sum_by issue_left (waiting_after 0 v)
left_at (stage.RingRead page) v = 2 * (2 ^ v.shape.order - page) + 1
left_at (stage.RingEnd page seen) v = 2 * (2 ^ v.shape.order - page)
left_at stage.ClosePort v = 1
left_at (stage.LeftData n) v = of_ending v.ending (λ r. words_in r - n) + 16 + 3 * 2 ^ v.shape.order + 1 + rest_after 0 v
left_at (stage.RingWord k) v = (16 - k) + 3 * 2 ^ v.shape.order + 1 + rest_after 0 v
left_at (stage.RingFrame page) v = 3 * (2 ^ v.shape.order - page) + 1 + rest_after 0 v
left_at (stage.RingFence page) v = 3 * (2 ^ v.shape.order - page) + rest_after 0 v
left_at (stage.RingFlags page) v = 3 * (2 ^ v.shape.order - page) - 1 + rest_after 0 v
left_at stage.NewPort v = 1 + rest_after 0 v
left_at stage.Initialised v = rest_after 0 v
left_at s v = 0

abbrev pub left_of : View → ℕ
left_of v = left_at v.stage v

-- what an answer brings: an event ends sleep; a producer further on shows responses, each of which was worth 7 before it was seen
abbrev pub shown_at : FrontStage → View → ℕ → ℕ
shown_at stage.Loop v word = 7 * distance_of v.ring.indices.cons word
shown_at stage.LookAgain v word = 7 * distance_of v.ring.indices.cons word
shown_at s v word = 0

abbrev pub gained : FrontStage → View → FrontAnswer → ℕ
gained s v Event = 5
gained s v (Watched path) = 1
gained s v (Word word) = shown_at s v word
gained s v a = 0

-- a word that is answered has 32 bits
abbrev pub IsOfWord : FrontAnswer → Type 0
IsOfWord (Word word) = word < 2 ^ 32
IsOfWord a = Unit {0}

-- the word and the frame that it is at are those of the request that is issued, and of the one that is ending
pub record IsAtWord (next : Option Request) (words : Request → ℕ) (n : ℕ) : Type 0 where
  pub request : Request
  pub next_is : next ≡ Some request
  pub within : n < words request

pub record IsAtEnding (ending : Option Ending) (words : Request → ℕ) (n : ℕ) : Type 0 where
  pub e : Ending
  pub ending_is : ending ≡ Some e
  pub within : n < words e.request

abbrev pub frames_in : Request → ℕ
frames_in r = length r.frames.items

abbrev pub IsWithin : FrontStage → View → Type 0
IsWithin (stage.Data n) v = IsAtWord (next_request v) words_in n
IsWithin (stage.Pages n) v = IsAtWord (next_request v) naming_words n
IsWithin (stage.GrantFrame place) v = IsAtWord (next_request v) frames_in place
IsWithin (stage.GrantFence place) v = IsAtWord (next_request v) frames_in place
IsWithin (stage.GrantFlags place) v = IsAtWord (next_request v) frames_in place
IsWithin (stage.GrantRead place) v = IsAtEnding v.ending frames_in place
IsWithin (stage.GrantEnd place before) v = IsAtEnding v.ending frames_in place
IsWithin (stage.ReadData n) v = IsAtEnding v.ending words_in n
IsWithin (stage.LeftData n) v = IsAtEnding v.ending words_in n
IsWithin s v = Unit {0}

-- each answer lowers what is left, but for an event and a watch, which raise it by their prices, and a producer that shows responses, by 7 each
abbrev pub EachAnswerLowersWhatIsLeft : Type 0
EachAnswerLowersWhatIsLeft =
    (v : View) (a : FrontAnswer) → IsSound v → IsWithin v.stage v → IsOfWord a → IsAnswer (ask_of v) a
    → left_of (step_of v a) < left_of v + gained v.stage v a
