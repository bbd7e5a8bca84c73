-- What the program leaves, and what it says, at each of its statuses.
use Rattle.std.specs.Prelude.{◌≡◌, ℕ, ◌⊎◌, List, Option, Some, None, Result, Ok, Err}
use Rattle.std.specs.Borrow.{GName}
use Rattle.blk_io.specs.Outside.{SourceSeen, SinkSeen, WritesBytes, HandsOn, FailsHandingOn}
use Rattle.blk_io.specs.Disk.{HasLength, Fails}
use Rattle.blk_io.specs.declared.failed.Failed.{Failed}
use Rattle.ring_words.specs.Shape.{Shape}
use Rattle.ring_inspect.specs.Stop.{bytes_of, IsShown, IsPartlyShown, IsNoRing}
use Rattle.ring_inspect.specs.declared.stop.InspectStop.{InspectStop}
use Rattle.ring_inspect.specs.declared.stop.InspectStop.TheVariants as inspect
use Rattle.commands.specs.declared.words.RunOptions.{RunOptions}
use Rattle.schedule_run.specs.Outcome.{Runs}
use Rattle.schedule_run.specs.declared.schedule.RunStop.{RunStop}
use Rattle.schedule_run.specs.declared.schedule.RunStop.TheVariants as run
use Rattle.commands.specs.declared.status.Stop.{Stop}
use Rattle.commands.specs.declared.status.Stop.TheVariants.{Broken, Length, Words, BadLine, Source, Sink, OutOfMemory, Image, TooLong}
use Rattle.commands.specs.Scene.{Scene, options_of, bytes_limit, with_image, reporting}
use Rattle.commands.specs.Check.{CheckEnds}
use Rattle.commands.specs.Bench.{BenchEnds}
use Rattle.commands.specs.Words.{Wish, a_run, a_ring, a_check, a_bench, wish_of, AsksNothing}
use Rattle.commands.specs.Status.{status_of, line_of}

-- the image of that name was attached for writing, and the schedule was run on it
pub record RunsOn (image : List ℕ) (options : RunOptions) (result : Result (Unit {0}) RunStop) (old new : Scene) : Type 0 where
  pub sectors : ℕ
  pub sized : HasLength old.disk.content sectors
  pub lender : GName
  pub runs : Runs (options_of options sectors) bytes_limit result old.source new.source (reporting options.detail lender (with_image image options.read_only sectors old.disk) old.output) (reporting options.detail lender new.disk new.output)

-- the image failed where it was attached, and nothing else was done
pub record FailsToAttach (old new : Scene) : Type 0 where
  pub failed : Fails old.disk new.disk
  pub source : new.source ≡ old.source
  pub output : new.output ≡ old.output

-- why a run stopped, and what it left
abbrev pub RunStops : List ℕ → RunOptions → Stop → Scene → Scene → Type 0
RunStops image options (BadLine number) old new = RunsOn image options (Err (run.BadLine number)) old new
RunStops image options Source old new = RunsOn image options (Err run.Source) old new
RunStops image options TooLong old new = RunsOn image options (Err run.TooLong) old new
RunStops image options Sink old new = RunsOn image options (Err run.Sink) old new
RunStops image options OutOfMemory old new = (new ≡ old) ⊎ RunsOn image options (Err run.OutOfMemory) old new
RunStops image options Image old new = FailsToAttach old new
RunStops image options (Length count expected) old new = ⊥
RunStops image options Words old new = ⊥
RunStops image options Broken old new = ⊥

abbrev pub RunEnds : List ℕ → RunOptions → Result (Unit {0}) Stop → Scene → Scene → Type 0
RunEnds image options (Ok done) old new = RunsOn image options (Ok tt) old new
RunEnds image options (Err stop) old new = RunStops image options stop old new

-- a ring was shown, and the output handed on what it kept back
pub record ShowsRing (shape : Shape) (a b : SourceSeen) (before after : SinkSeen) : Type 0 where
  pub written : SinkSeen
  pub shown : IsShown shape a b before written
  pub handed_on : after ≡ record written { kept_back = 0 }

-- a ring was shown, and then the output failed to hand on what it kept back
pub record ShowsUnsent (shape : Shape) (a b : SourceSeen) (before after : SinkSeen) : Type 0 where
  pub written : SinkSeen
  pub shown : IsShown shape a b before written
  pub failed : FailsHandingOn written after

-- no ring was read, and nothing asked of the output
pub record ShowsNothing (shape : Shape) (why : InspectStop) (a b : SourceSeen) (before after : SinkSeen) : Type 0 where
  pub no_ring : IsNoRing (bytes_of shape.order) a b why
  pub untouched : after ≡ before

-- why the showing of a ring stopped, and what it left
abbrev pub RingStops : Shape → Stop → (a b : SourceSeen) → (before after : SinkSeen) → Type 0
RingStops shape (Length count expected) a b before after = (expected ≡ bytes_of shape.order) × ShowsNothing shape (inspect.Length count) a b before after
RingStops shape Source a b before after = ShowsNothing shape inspect.Source a b before after
RingStops shape OutOfMemory a b before after = ShowsNothing shape inspect.OutOfMemory a b before after
RingStops shape Sink a b before after = IsPartlyShown shape a b before after ⊎ ShowsUnsent shape a b before after
RingStops shape Words a b before after = ⊥
RingStops shape Broken a b before after = ⊥
RingStops shape (BadLine number) a b before after = ⊥
RingStops shape Image a b before after = ⊥
RingStops shape TooLong a b before after = ⊥

abbrev pub RingEnds : Shape → Result (Unit {0}) Stop → (a b : SourceSeen) → (before after : SinkSeen) → Type 0
RingEnds shape (Ok done) a b before after = ShowsRing shape a b before after
RingEnds shape (Err stop) a b before after = RingStops shape stop a b before after

-- what the carrying out of this wish made of the outside; the showing of a ring and a check leave the disk as it was, and a bench the input too
abbrev pub CommandEnds : Wish → Result (Unit {0}) Stop → Scene → Scene → Type 0
CommandEnds (a_ring abi order) result old new = RingEnds (record { abi = abi; order = order }) result old.source new.source old.output new.output × (new.disk ≡ old.disk)
CommandEnds (a_run image options) result old new = RunEnds image options result old new
CommandEnds a_check result old new = CheckEnds result old.source new.source old.output new.output × (new.disk ≡ old.disk)
CommandEnds (a_bench seed count) result old new = BenchEnds seed count result old.output new.output × (new.source ≡ old.source) × (new.disk ≡ old.disk)

-- the words ask for nothing, and nothing was done
abbrev pub IsRefused : List (List ℕ) → Result (Unit {0}) Stop → Scene → Scene → Type 0
IsRefused words result old new = (result ≡ Err Words) × AsksNothing words × (new ≡ old)

-- so it is; or there was no memory to read the words, and nothing was done; or they ask for what made this of the outside
abbrev pub CarriesOut : List (List ℕ) → Result (Unit {0}) Stop → Scene → Scene → Type 0
CarriesOut words result old new =
    IsRefused words result old new
    ⊎ ((result ≡ Err OutOfMemory) × (new ≡ old))
    ⊎ ((wish : Wish) × (wish_of words ≡ Some wish) × CommandEnds wish result old new)

-- the error output was given this line, and then handed on what it keeps back, whatever the outcome
pub record WasGiven (line : List ℕ) (before after : SinkSeen) : Type 0 where
  pub wrote : Result (Unit {0}) Failed
  pub between : SinkSeen
  pub written : WritesBytes line wrote before between
  pub sent : Result (Unit {0}) Failed
  pub handed_on : HandsOn sent between after

-- a line was said where there is one, and nothing else
abbrev pub IsSaid : Option (List ℕ) → SinkSeen → SinkSeen → Type 0
IsSaid None before after = after ≡ before
IsSaid (Some line) before after = WasGiven line before after

-- the command of the words was done, and nothing was said
pub record EndsSilently (words : List (List ℕ)) (old new : Scene) (error error' : SinkSeen) : Type 0 where
  pub carried_out : CarriesOut words (Ok tt) old new
  pub silent : error' ≡ error

-- it stopped, with the status and the line of the reason
pub record StopsWithReason (words : List (List ℕ)) (status : ℕ) (old new : Scene) (error error' : SinkSeen) : Type 0 where
  pub stop : Stop
  pub is_status : status ≡ status_of stop
  pub carried_out : CarriesOut words (Err stop) old new
  pub said : IsSaid (line_of stop) error error'

-- why the program stops where the run did
abbrev pub run_stop : RunStop → Stop
run_stop (run.BadLine number) = BadLine number
run_stop run.Source = Source
run_stop run.TooLong = TooLong
run_stop run.Sink = Sink
run_stop run.OutOfMemory = OutOfMemory
