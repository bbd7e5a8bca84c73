use Rattle.std.proofs.Common.{◌≡◌, ◌+◌, true, rules}
use Rattle.std.specs.Prelude.{nat_le}
use Rattle.std.proofs.lemmas.List.Sorted.{IsPartitionPoint-from_clause}
use Rattle.back_jobs.specs.Order.{is_above}
use Rattle.back_jobs.proofs.Finding.{parted_above, not_above, guessed_above, ends}
use Rattle.back_jobs.proofs.jobs.finding.first_above.Goals as goal

pub returns-then-is_past : goal.returns-then-is_past
returns-then-is_past c =
    let works = c.args.held.now in
    let test : is_above works (c.args.number + 1) ≡ true = search rules in
    ends works (c.args.number + 1) c.requires test

pub returns-in-Some : goal.returns-in-Some
returns-in-Some c = guessed_above c.args.held.now c.args.number c.in-Some.place c.requires c.in-Some.ensures

pub returns : goal.returns
returns c =
    let works = c.args.held.now in
    parted_above works c.args.number c.partition_point.result c.partition_point.ensures.bound
    (IsPartitionPoint-from_clause (λ t. nat_le t.number c.args.number) works c.partition_point.result c.partition_point.ensures.partitioned (not_above works c.args.number c.requires) (λ a r f called. search rules))
