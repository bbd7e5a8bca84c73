use Rattle.std.proofs.Common.{◌≡◌, rules, ◌∙◌}
use Rattle.std.specs.Prelude.{nat_lt}
use Rattle.std.specs.List.{insert}
use Rattle.std.proofs.lemmas.List.Sorted.{IsPartitionPoint-from_clause, IsPartitionedBy-ltb}
use Rattle.back_jobs.proofs.Listed.{put_parted}
use Rattle.back_jobs.proofs.jobs.finished.note.Goals as goal

pub returns-then-ascending-clause-items : goal.returns-then-ascending-clause-items
returns-then-ascending-clause-items c = λ test.
    let ms = c.args.numbers.now.items in
    let n = c.args.number in
    let place = c.partition_point-place.result in
    let rising = c.requires.ascending test in
    let seen : c.as_slice.result.now ≡ ms = c.as_slice.ensures.value in
    let parts = IsPartitionPoint-from_clause (λ m. nat_lt m n) c.as_slice.result.now place c.partition_point-place.ensures.partitioned (IsPartitionedBy-ltb (λ m. m) c.as_slice.result.now n (rw seen rising)) (λ a r f called. search rules) in
    let grown : c.insert.new.self.items ≡ insert ms place n = search rules in
    grown ∙ put_parted ms n place (rw seen at c.partition_point-place.ensures.bound) (rw seen at parts)
