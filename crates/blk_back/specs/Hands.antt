-- The mappings that the back and its jobs hold (`grant_table.h`).
use Rattle.std.specs.Prelude.{ℕ, List, [], ◌∷◌, ◌++◌}
use Rattle.blk_base.specs.declared.parts.Mapping.{Mapping}
use Rattle.back_jobs.specs.Hands.{hands_in}
use Rattle.back_jobs.specs.Keeping.{all_hands}
use Rattle.blk_back.specs.declared.stage.BackStage.{BackStage}
use Rattle.blk_back.specs.declared.stage.BackStage.TheVariants as stage
use Rattle.blk_back.specs.View.{View}

-- after a halt: the mapping that is being unmapped
abbrev pub aborted : BackStage → List Mapping
aborted (stage.Abort m) = m ∷ []
aborted s = []

abbrev pub hands_at : BackStage → View → List Mapping
hands_at s v = aborted s ++ (hands_in v.jobs.works ++ v.pages)

-- the one being unmapped, then those in the jobs' hands, then the ring's pages
abbrev pub hands_of : View → List Mapping
hands_of v = hands_at v.stage v

-- with those that are kept for later requests
abbrev pub all_hands_at : BackStage → View → List Mapping
all_hands_at s v = aborted s ++ (all_hands v.jobs ++ v.pages)

abbrev pub all_hands_of : View → List Mapping
all_hands_of v = all_hands_at v.stage v

-- so many are held at most: one in the hand of each of 512 jobs, the ring's 16 pages, and the one that is being unmapped
abbrev pub most_held : ℕ
most_held = 529

-- and so many with the 1000 that may be kept
abbrev pub most_with_kept : ℕ
most_with_kept = 1529
