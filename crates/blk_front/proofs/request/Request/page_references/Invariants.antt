use Rattle.std.proofs.Common.{◌≡◌, take, length, map}
use Rattle.std.specs.List.{range_with_len}
use Rattle.blk_front.specs.Request.{page_reference}
use Rattle.blk_front.proofs.request.Request.page_references.Given as goal

-- the references of the pages so far
abbrev pub invariant-loop-page : goal.invariant-loop-page
invariant-loop-page l = record {
  eight : length l.references ≡ 8;
  made : take l.page l.references ≡ map (page_reference l.self) (range_with_len 0 l.page);
}
