use Rattle.std.specs.Str.Parse.{ParsesUnsigned, ExplainsUnsignedError, HasUnsignedDigitsIfOk}
use Rattle.clap.specs.Words.{found_of}
use Rattle.clap.proofs.WalkLemmas.{one_text-rows}
use Rattle.commands.proofs.Numbers.{number_read}
use Rattle.commands.proofs.words.number.Goals as goal

pub returns : goal.returns
returns c =
    number_read _ (λ bs r. ParsesUnsigned 64 10 bs r × ExplainsUnsignedError 10 bs r × HasUnsignedDigitsIfOk bs r) _ _ c.get_one.result (λ u x g. g.0) c.get_one.ensures.none c.get_one.ensures.value (one_text-rows (found_of c.args.found.now) c.args.id.now)
