use Rattle.std.proofs.Common.{◌≡◌, ◌≤◌, Bool, length, take, ap, ◌∙◌, subst, sym}
use Rattle.std.specs.Prelude.{nat_lt}
use Rattle.std.specs.List.{list_any}
use Rattle.back_jobs.specs.Jobs.{HeldJobs, is_held, is_held_by, holds_barriers, holds_all}
use Rattle.back_jobs.proofs.First.{any_before}
use Rattle.back_jobs.proofs.jobs.Jobs.is_held_by.Goals as goal

pub returns : goal.returns
returns c =
    let works = c.self.inside.held.items in
    let place = c.args.place in
    let within : place ≤ length works = subst (λ (h : HeldJobs). place ≤ length h.works) (sym c.self.view_is) c.requires in
    let ordered : nat_lt c.self.inside.ordered place ≡ list_any holds_barriers (take place works) = ap (λ n. nat_lt n place) c.self.invariant.1.ordered_is ∙ any_before holds_barriers works place within in
    let barrier : nat_lt c.self.inside.barrier place ≡ list_any holds_all (take place works) = ap (λ n. nat_lt n place) c.self.invariant.1.barrier_is ∙ any_before holds_all works place within in
    c.is_held.ensures
    ∙ (ap (λ (b : Bool). is_held c.args.job.now b (nat_lt c.self.inside.barrier place)) ordered
    ∙ (ap (λ (b : Bool). is_held c.args.job.now (list_any holds_barriers (take place works)) b) barrier
    ∙ ap (λ (h : HeldJobs). is_held_by (take place h.works) c.args.job.now) c.self.view_is))
