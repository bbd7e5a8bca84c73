use Rattle.std.proofs.Common.{◌≡◌, not, ◌&&◌, ap, sym, ◌∙◌, rules, false, refl, length}
use Rattle.std.specs.Prelude.{slice_get, Some, None}
use Rattle.std.proofs.lemmas.Option.{slice_get_past, slice_get_read}
use Rattle.job_check.specs.Open.{is_through}
use Rattle.job_check.proofs.Coming.{none_is_no_step, done_is_no_step, some_is_a_step}
use Rattle.job_check.proofs.open.OpenJob.may_come_to.Goals as goal

pub returns-in_default : goal.returns-in_default
returns-in_default c = sym (none_is_no_step c.args.self.now c.args.kept.now c.args.made.now (sym c.requires ∙ c.in_default.is))

pub returns-in-None : goal.returns-in-None
returns-in-None c =
    let past = c.in-None.ensures.lookup in
    let none : slice_get c.args.self.now.tasks c.in-Some-spot.s.done ≡ None = slice_get_past c.args.self.now.tasks c.in-Some-spot.s.done (search rules) in
    sym (done_is_no_step c.args.self.now c.args.kept.now c.args.made.now c.in-Some-spot.s (search rules) none)

pub returns-then-not-self : goal.returns-then-not-self
returns-then-not-self c =
    let at = c.in-Some-get.ensures.lookup in
    let tasks = c.args.self.now.tasks in
    let here : slice_get tasks c.in-Some-spot.s.done ≡ Some c.in-Some-get.task.now =
    slice_get_read tasks (length tasks) c.in-Some-spot.s.done c.in-Some-get.task.now refl (search rules) (search rules) in
    let step = some_is_a_step c.args.self.now c.args.kept.now c.args.made.now c.in-Some-spot.s c.in-Some.field-0 c.in-Some-get.task.now (search rules) (sym c.requires ∙ c.in-Some.is) here in
    let lives : c.args.self.now.failed ≡ false = search rules in
    c.is_through.ensures ∙ sym (step ∙ ap (λ b. not b && is_through c.args.kept.now c.in-Some-get.task.now c.in-Some-spot.s c.args.made.now) lives)
