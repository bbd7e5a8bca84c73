use Rattle.std.proofs.Common.{◌≡◌, ◌*◌, ◌≤◌, take, sum_by}
use Rattle.blk_front.specs.declared.request.Request.{Request}
use Rattle.blk_front.proofs.front.submit.sectors_of.Given as goal

-- the sectors of the requests so far
abbrev pub invariant-loop-r : goal.invariant-loop-r
invariant-loop-r l = record {
  value : l.sectors ≡ sum_by (λ (r : Request). r.count) (take l.r-index l.requests);
  short : l.sectors ≤ 7680 * l.r-index;
}
