use Rattle.std.proofs.Common.{◌≡◌, [], map, true, sym, subst, ◌∙◌}
use Rattle.std.specs.String.{string_bytes}
use Rattle.clap.specs.Words.{App, fault_of, subcommand_of, subcommand_rows_of, is_simple, is_simple_and_free, HasKind}
use Rattle.commands.specs.Words.{command_set}
use Rattle.commands.proofs.Reading.{taken, refused, is_said, is_plain}
use Rattle.commands.proofs.words.read_command.Goals as goal

pub returns-in-Ok : goal.returns-in-Ok
returns-in-Ok c =
    let set = c.in_ok-command_set.ensures.0 in
    let texts = map string_bytes c.args.words.now in
    let none : fault_of command_set texts ≡ [] = subst (λ (a : App). fault_of a texts ≡ []) set (c.in-Ok.ensures.kinds (subst (λ (a : App). is_simple_and_free a ≡ true) (sym set) is_said)) in
    let entered : subcommand_rows_of c.in-Ok.matches ≡ subcommand_of command_set texts =
    subst (λ (a : App). subcommand_rows_of c.in-Ok.matches ≡ subcommand_of a texts) set (c.in-Ok.ensures.matches (subst (λ (a : App). is_simple a ≡ true) (sym set) is_plain)).1 in
    record { asked = taken _ _ _ _ none entered c.asked.ensures }

pub returns : goal.returns
returns c =
    let set = c.in_ok-command_set.ensures.0 in
    let texts = map string_bytes c.args.words.now in
    let faults : HasKind (fault_of command_set texts) c.in-Err.error =
    subst (λ (a : App). HasKind (fault_of a texts) c.in-Err.error) set (c.in-Err.ensures.kinds (subst (λ (a : App). is_simple_and_free a ≡ true) (sym set) is_said)) in
    record { asked = refused _ _ c.in-Err.error faults (λ starved. c.in_default.not-OutOfMemory (c.kind.ensures ∙ starved)) }
