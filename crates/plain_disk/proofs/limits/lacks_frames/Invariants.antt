use Rattle.std.proofs.Common.{◌≡◌, ◌-◌, ◌^◌, sum_by, min, take}
use Rattle.plain_disk.specs.Refusal.{frames_held}
use Rattle.plain_disk.proofs.limits.lacks_frames.Given as goal

-- the frames held by the requests so far, or the greatest number
abbrev pub invariant-loop-r : goal.invariant-loop-r
invariant-loop-r l = l.held ≡ min (sum_by frames_held (take l.r-index l.requests)) (2 ^ 64 - 1)
