use Rattle.std.proofs.Common.{rules}
use Rattle.std.specs.Prelude.{nat_lt}
use Rattle.std.proofs.lemmas.List.Sorted.{IsPartitionPoint-from_clause}
use Rattle.back_jobs.proofs.Finding.{parted, lower}
use Rattle.back_jobs.proofs.jobs.finding.by_halves.Goals as goal

pub returns : goal.returns
returns c =
    let works = c.args.held.now in
    parted works c.args.number c.partition_point.result c.partition_point.ensures.bound
    (IsPartitionPoint-from_clause (λ t. nat_lt t.number c.args.number) works c.partition_point.result c.partition_point.ensures.partitioned (lower works c.args.number c.requires) (λ a r f called. search rules))
