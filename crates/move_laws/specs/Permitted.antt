-- Histories in which each ask keeps to what its end may touch.
use Rattle.std.specs.Prelude.{◌^◌, ◌≤◌, List, [], ◌∷◌}
use Rattle.blk_front.specs.Ask.{ask_of as front_ask, StaysInMemory}
use Rattle.back_jobs.specs.Hands.{Names}
use Rattle.blk_back.specs.Ask.{ask_of as back_ask}
use Rattle.blk_back.specs.Step.{job_ask_of}
use Rattle.blk_back.specs.Hands.{hands_of}
use Rattle.split_model.specs.World.{World}
use Rattle.split_model.specs.Happening.{Happening, FrontMoves, BackMoves, JobMoves, Dumps, happens}

-- a move of the front touches a word of the shared frames; one of the back or of a job a word of a page whose mapping they hold, and writes where that is for writing; and a dump shows words of 16 pages at most
abbrev pub IsPermitted : World → Happening → Type 0
IsPermitted w FrontMoves = StaysInMemory (front_ask w.front)
IsPermitted w BackMoves = Names (hands_of w.back) (back_ask w.back)
IsPermitted w (JobMoves number outcome) = Names (hands_of w.back) (job_ask_of w.back number)
IsPermitted w Dumps = 2 ^ w.front.shape.order ≤ 16
IsPermitted w h = Unit {0}

-- each of these happenings, as the machine stands when it comes
abbrev pub ArePermitted : List Happening → World → Type 0
ArePermitted [] w = Unit {0}
ArePermitted (h ∷ hs) w = IsPermitted w h × ArePermitted hs (happens w h)
