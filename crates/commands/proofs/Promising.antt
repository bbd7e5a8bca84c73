-- What a call of the program promises follows from its command's result, its report and what was said.
use Rattle.std.proofs.Common.{◌≡◌, ◌≢◌, ℕ, List, Result, Ok, Err, sym, ◌∙◌, arith}
use Rattle.blk_io.specs.Outside.{SinkSeen}
use Rattle.commands.specs.declared.words.RunOptions.{RunOptions}
use Rattle.commands.specs.declared.status.Stop.{Stop}
use Rattle.commands.specs.declared.status.Stop.TheVariants.{Broken, Length, Words, BadLine, Source, Sink, OutOfMemory, Image, TooLong}
use Rattle.commands.specs.Words.{AsksRun}
use Rattle.commands.specs.Scene.{Scene}
use Rattle.commands.specs.Status.{status_of, line_of}
use Rattle.commands.specs.Ending.{CarriesOut, IsSaid, EndsSilently, StopsWithReason}
use Rattle.commands.specs.Reported.{RunReports}
use Rattle.commands.specs.Promises.{Promises}
use Rattle.commands.proofs.Settling.{status_at, settles, reports, headline, untouched, checked, benched}
use Rattle.commands.proofs.Completing.{completes}

-- no reason has status 0
never_done : (stop : Stop) → status_of stop ≡ 0 → ⊥
never_done Broken e = let no : 1 ≡ 0 = e in omega arith
never_done (Length count expected) e = let no : 1 ≡ 0 = e in omega arith
never_done Words e = let no : 2 ≡ 0 = e in omega arith
never_done (BadLine number) e = let no : 3 ≡ 0 = e in omega arith
never_done Source e = let no : 4 ≡ 0 = e in omega arith
never_done Sink e = let no : 5 ≡ 0 = e in omega arith
never_done OutOfMemory e = let no : 6 ≡ 0 = e in omega arith
never_done Image e = let no : 7 ≡ 0 = e in omega arith
never_done TooLong e = let no : 8 ≡ 0 = e in omega arith

-- what the error output was given of a result
abbrev pub SaidOf : Result (Unit {0}) Stop → SinkSeen → SinkSeen → Type 0
SaidOf (Ok done) error error' = error' ≡ error
SaidOf (Err stop) error error' = IsSaid (line_of stop) error error'

done_at : (words : List (List ℕ)) (result : Result (Unit {0}) Stop) (status : ℕ) (old new : Scene) (error error' : SinkSeen) → status ≡ status_at result → CarriesOut words result old new → SaidOf result error error' → status ≡ 0 → EndsSilently words old new error error'
done_at words (Ok done) status old new error error' same carried said zero = record { carried_out = carried; silent = said }
done_at words (Err stop) status old new error error' same carried said zero = absurd (never_done stop (sym same ∙ zero))

stopped_at : (words : List (List ℕ)) (result : Result (Unit {0}) Stop) (status : ℕ) (old new : Scene) (error error' : SinkSeen) → status ≡ status_at result → CarriesOut words result old new → SaidOf result error error' → status ≢ 0 → StopsWithReason words status old new error error'
stopped_at words (Ok done) status old new error error' same carried said other = absurd (other same)
stopped_at words (Err stop) status old new error error' same carried said other = record { stop = stop; is_status = same; carried_out = carried; said = said }

pub promised : (words : List (List ℕ)) (result : Result (Unit {0}) Stop) (status : ℕ) (old new : Scene) (error error' : SinkSeen) → status ≡ status_at result → CarriesOut words result old new → ((image : List ℕ) → (options : RunOptions) → AsksRun words image options → RunReports image options result old new) → SaidOf result error error' → Promises words status old new error error'
promised words result status old new error error' same carried run said = record {
  done = done_at words result status old new error error' same carried said;
  stopped = stopped_at words result status old new error error' same carried said;
  headline = λ image options asks zero. headline image options result old new (run image options asks) (sym same ∙ zero);
  reported = λ image options asks. reports image options result status old new same (run image options asks);
  untouched = λ abi order asks. untouched words result old new abi order carried asks;
  checked = λ asks. checked words result status old new same carried asks;
  benched = λ seed count asks. benched words result status old new seed count same carried asks;
  settled = settles words result status old new same carried;
  completes = λ wish asks may. completes words result status old new wish same carried asks may;
}
