use Rattle.std.proofs.Common.{◌≡◌, ◌+◌, ◌-◌, ◌≤◌, ◌++◌, length, take, vec_len, vec_capacity}
use Rattle.std.specs.List.{filter}
use Rattle.key_directory.specs.Paths.{is_at_or_under}
use Rattle.key_directory.proofs.watches.move_fired.Given as goal

abbrev pub invariant-loop-watch : goal.invariant-loop-watch
invariant-loop-watch l = record {
  items : l.pending.items ≡ l.initial.pending.items ++ filter (λ watch. is_at_or_under watch l.path) (take l.watch-index l.idle);
  room : vec_len l.pending + (length l.idle - l.watch-index) ≤ vec_capacity l.pending;
  capacity : vec_capacity l.initial.pending ≤ vec_capacity l.pending;
}
