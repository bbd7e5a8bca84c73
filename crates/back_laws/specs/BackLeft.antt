-- How many moves are left to the back itself at most, its jobs aside, and by how much an answer may raise that.
use Rattle.std.specs.Prelude.{◌≡◌, ℕ, ◌+◌, ◌-◌, ◌*◌, ◌^◌, ◌<◌, Bool, false, cond, length}
use Rattle.blk_base.specs.Distance.{distance_of}
use Rattle.blk_base.specs.declared.ask.BackAnswer.{BackAnswer}
use Rattle.blk_base.specs.declared.ask.BackAnswer.TheVariants.{Event, Watched, Word}
use Rattle.ring_words.specs.Shape.{entry_words_of}
use Rattle.ring_words.specs.Ring.{overruns}
use Rattle.blk_back.specs.declared.stage.BackStage.{BackStage}
use Rattle.blk_back.specs.declared.stage.BackStage.TheVariants as stage
use Rattle.blk_back.specs.View.{View}

-- an awake back looks once, and then a last time: the producer, the event word, a fence, the producer again
abbrev pub awake_left : Bool → ℕ
awake_left asleep = cond asleep 0 4

-- prices: a request that was seen is fetched, 28 words, and replied to, 7 moves; a reply to a job that is held takes 7
abbrev pub owed : View → ℕ
owed v = 35 * distance_of v.ring.indices.cons v.ring.seen + 7 * length v.jobs.works

abbrev pub rest : View → ℕ
rest v = awake_left v.ring.asleep + owed v

abbrev pub left_at : BackStage → View → ℕ
left_at stage.InitWait v = 0
left_at stage.MapRing v = (length v.grefs - length v.pages) + 17 + rest v
left_at stage.Bind v = 17 + rest v
left_at stage.Loop v = rest v
left_at (stage.Fetch k) v = (entry_words_of v.shape.abi - k) + 4 + 35 * (distance_of v.ring.indices.cons v.ring.seen - 1) + 7 * (length v.jobs.works + 1)
left_at (stage.ReplyHigh r) v = 6 + rest v
left_at (stage.ReplyLast r) v = 5 + rest v
left_at (stage.Producer r) v = 4 + rest v
left_at (stage.ProducerFence old) v = 3 + rest v
left_at (stage.ResponseEvent old) v = 2 + rest v
left_at stage.Send v = 1 + rest v
left_at stage.StoreEvent v = 3 + owed v
left_at stage.EventFence v = 2 + owed v
left_at stage.LookAgain v = 1 + owed v
left_at (stage.Abort m) v = 2 + length v.jobs.works + length v.pages
left_at stage.UnmapRing v = 1 + length v.pages
left_at stage.ClosePort v = 1
left_at stage.UnmapUnbound v = length v.pages
left_at stage.Halted v = 0

abbrev pub left_of : View → ℕ
left_of v = left_at v.stage v

-- what an answer brings: an event ends sleep; a producer further on shows requests, each of which was worth 39 before it was seen
abbrev pub shown_at : BackStage → View → ℕ → ℕ
shown_at stage.Loop v word = 39 * distance_of v.ring.indices.cons word
shown_at stage.LookAgain v word = 39 * distance_of v.ring.indices.cons word
shown_at s v word = 0

abbrev pub gained : BackStage → View → BackAnswer → ℕ
gained s v Event = 5
gained s v (Watched path) = 1
gained s v (Word word) = shown_at s v word
gained s v a = 0

-- the words that an honest front leaves: no producer overran
abbrev pub IsShown : BackStage → View → BackAnswer → Type 0
IsShown stage.Loop v (Word word) = (word < 2 ^ 32) × (overruns v.ring.indices word ≡ false)
IsShown stage.LookAgain v (Word word) = (word < 2 ^ 32) × (overruns v.ring.indices word ≡ false)
IsShown s v a = Unit {0}

-- an entry that is copied was seen
abbrev pub IsSeen : BackStage → View → Type 0
IsSeen (stage.Fetch k) v = 0 < distance_of v.ring.indices.cons v.ring.seen
IsSeen s v = Unit {0}
