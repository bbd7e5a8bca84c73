use Rattle.image_disk.proofs.zeros.zero_sectors.Given as goal

-- the bytes that are left
abbrev pub decreases-loop-left : goal.decreases-loop-left
decreases-loop-left g l = l.left
