use Rattle.std.proofs.Common.{rules, ◌≡◌, ℕ, List, [], ◌∷◌, ◌++◌, length, drop, set, ap, ◌∙◌, arith}
use Rattle.std.proofs.lemmas.List.{drop-set, drop_all}
use Rattle.blk_base.specs.Access.{move_of}
use Rattle.schedule_text.specs.declared.line.Line.TheVariants as lines
use Rattle.schedule_text.specs.Line.{text_of}
use Rattle.schedule_text.proofs.access_line.end_with_access.Goals as goal

feed_last : (room : List ℕ) → length room ≡ 112 → drop 111 (set room 111 10) ≡ 10 ∷ []
feed_last room size = drop-set room 111 10 (omega arith) ∙ ap (λ (l : List ℕ). 10 ∷ l) (drop_all 112 room (omega arith))

pub returns-clause-written : goal.returns-clause-written
returns-clause-written c =
    c.prepend_access.ensures.written
    ∙ ap (λ (l : List ℕ). text_of (lines.Move (move_of c.args.access.now)) ++ l) (feed_last c.args.room.now (search rules))
