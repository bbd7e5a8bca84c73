-- What a call that may fail makes of a value.
use Rattle.std.specs.Prelude.{◌≡◌, Result, MatchResult}

-- this where the call went well; where it failed, the value is as before
abbrev pub Becomes : {V T E : Type 0} → V → Result T E → V → V → Type 0
Becomes wanted result before after = MatchResult result (λ _. after ≡ wanted) (λ _. after ≡ before)
