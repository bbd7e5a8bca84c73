use Rattle.std.proofs.Common.{◌≡◌, refl, subst, rules}
use Rattle.std.specs.Prelude.{Option, Some, None, List, ℕ}
use Rattle.blk_io.specs.Outside.{SinkSeen}
use Rattle.commands.specs.Ending.{IsSaid, WasGiven}
use Rattle.commands.proofs.top.stop_with.Goals as goal

given_line : (wanted : Option (List ℕ)) (line : List ℕ) (a b : SinkSeen) → Some line ≡ wanted → WasGiven line a b → IsSaid wanted a b
given_line wanted line a b is given = subst (λ l. IsSaid l a b) is given

none_given : (wanted : Option (List ℕ)) (a : SinkSeen) → None ≡ wanted → IsSaid wanted a a
none_given wanted a is = subst (λ l. IsSaid l a a) is refl

pub returns-clause-said : goal.returns-clause-said
returns-clause-said g c =
    given_line _ _ _ _ (search rules) (record {
      wrote = c.write.result;
      between = g.E.Sink.seen c.write.new.self;
      written = c.write.ensures;
      sent = c.flush.result;
      handed_on = c.flush.ensures;
    })
