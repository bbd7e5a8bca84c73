use Rattle.std.proofs.Common.{◌≡◌, ℕ, ◌<◌, slice_index}
use Rattle.grant_table.proofs.grants.clear_counts.Given as goal

abbrev pub invariant-loop-count : goal.invariant-loop-count
invariant-loop-count l = (gref : ℕ) → gref < l.count-index → slice_index l.counts gref ≡ 0
