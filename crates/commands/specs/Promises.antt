-- What a call of the program promises, by its words and its status: what its outside was and is, and what the error output was given.
use Rattle.std.specs.Prelude.{◌≡◌, ◌≢◌, ℕ, List, Some}
use Rattle.blk_io.specs.Outside.{SinkSeen}
use Rattle.blk_base.specs.declared.operation.Abi.{Abi}
use Rattle.commands.specs.declared.words.RunOptions.{RunOptions}
use Rattle.commands.specs.Words.{Wish, wish_of, AsksRun, AsksRing, AsksCheck, AsksBench}
use Rattle.commands.specs.Scene.{Scene}
use Rattle.commands.specs.Ending.{EndsSilently, StopsWithReason}
use Rattle.commands.specs.Reported.{ReportsTheHeadline, ReportsAt}
use Rattle.commands.specs.Check.{CheckAt}
use Rattle.commands.specs.Bench.{BenchAt}
use Rattle.commands.specs.Settled.{Settles}
use Rattle.commands.specs.Complete.{MayBeDone, IsDoneAt}

pub record Promises (words : List (List ℕ)) (status : ℕ) (old new : Scene) (error error' : SinkSeen) : Type 0 where
  -- the command of the words made of the outside what it is, and nothing was said
  pub done : status ≡ 0 → EndsSilently words old new error error'
  -- any other status is that of a reason, which says what came before, and was said
  pub stopped : status ≢ 0 → StopsWithReason words status old new error error'
  -- the headline: the back touched only what was granted to it, and served nothing more once a producer overran; and requests that no hostile hand touched were served as a plain disk serves them
  pub headline : (image : List ℕ) → (options : RunOptions) → AsksRun words image options → status ≡ 0 → ReportsTheHeadline image options old new
  -- a run's image is the one named, and its report is lawful: whole, or as far as it was written
  pub reported : (image : List ℕ) → (options : RunOptions) → AsksRun words image options → ReportsAt status image options old new
  -- a ring's showing leaves the disk as it was
  pub untouched : (abi : Abi) → (order : ℕ) → AsksRing words abi order → new.disk ≡ old.disk
  -- a check finds what the report is worth by the rules, and leaves the disk as it was
  pub checked : AsksCheck words → CheckAt status old new
  -- a bench says the counts of exactly its schedule, and touches neither input nor image
  pub benched : (seed : ℕ) → (count : ℕ) → AsksBench words seed count → BenchAt status seed count old new
  -- the first reason stands, and each count of faults rose only where it says so; what was written was handed on, or the output failed
  pub settled : Settles status old new
  -- what can be done is done, but for want of memory
  pub completes : (wish : Wish) → wish_of words ≡ Some wish → MayBeDone wish old new → IsDoneAt wish status
