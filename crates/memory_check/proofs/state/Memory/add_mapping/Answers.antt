use Rattle.std.proofs.Common.{◌≡◌, false, sym, ap, ◌∙◌}
use Rattle.std.specs.Prelude.{is_some, List, ℕ}
use Rattle.report_rules.specs.declared.standing.Standing.{Standing}
use Rattle.memory_check.specs.State.{standing_at, without_standing}
use Rattle.memory_check.proofs.Undone.{standing_undone, fields, put_back, on_err}
use Rattle.memory_check.proofs.state.Memory.add_mapping.Goals as goal

pub returns-then-is_err : goal.returns-then-is_err
returns-then-is_err c =
    let none : is_some (standing_at c.self.inside.standing c.args.made.number) ≡ false = cc in
    let undone = standing_undone c.self.inside.standing c.args.made none in
    let first = fields c.self.view_is in
    let second = fields c.self-2.view_is in
    record {
      added = on_err c.set_flags-written.result _ _ (sym c.is_err.ensures.value ∙ c.if-is_err.true)
          (λ e. let same = fields e in
          put_back c.args.self.now c.self-2.inside.table c.self-2.inside.pages c.remove.new.self c.self-2.inside.numbers
          (second.0 ∙ (same.0 ∙ first.0))
          (second.1 ∙ (same.1 ∙ first.1))
          (c.remove.ensures ∙ (ap (λ (xs : List (ℕ × Standing)). without_standing xs c.args.made.number) (second.2 ∙ (same.2 ∙ c.in_ok-add.ensures.added)) ∙ (undone ∙ first.2)))
          (second.3 ∙ (same.3 ∙ first.3)))
          c.set_flags-written.ensures.written;
    }
