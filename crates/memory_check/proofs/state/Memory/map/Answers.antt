use Rattle.std.proofs.Common.{◌≡◌, false, sym, ap, ◌∙◌}
use Rattle.memory_check.specs.Numbers.{NumberSet, wants_no_place, without_apart}
use Rattle.memory_check.proofs.Undone.{apart_undone, fields, put_back, on_err}
use Rattle.memory_check.proofs.state.Memory.map.Goals as goal

pub returns-then-is_err : goal.returns-then-is_err
returns-then-is_err c =
    let none : wants_no_place c.self.inside.numbers c.args.made.number ≡ false = cc in
    let undone = apart_undone c.self.inside.numbers c.args.made.number none in
    let first = fields c.self.view_is in
    let second = fields c.self-2.view_is in
    record {
      mapped = on_err c.add_mapping-added.result _ _ (sym c.is_err.ensures.value ∙ c.if-is_err.true)
          (λ e. let same = fields e in
          put_back c.args.self.now c.self-2.inside.table c.self-2.inside.pages c.self-2.inside.standing c.remove_apart.new.self
          (second.0 ∙ (same.0 ∙ first.0))
          (second.1 ∙ (same.1 ∙ first.1))
          (second.2 ∙ (same.2 ∙ first.2))
          (c.remove_apart.ensures ∙ (ap (λ (ns : NumberSet). without_apart ns c.args.made.number) (second.3 ∙ (same.3 ∙ c.in_ok-add_apart.ensures.added)) ∙ (undone ∙ first.3))))
          c.add_mapping-added.ensures.added;
    }
