-- What a suspend makes of the front: the ring, the port, the grants and what the back offered are gone, and the frames and the unfinished requests stay.
use Rattle.std.specs.Prelude.{Bool, true, false, List, length, Option, Some, None, if◌then◌else◌}
use Rattle.resume_shadow.specs.Unfinished.{by_number as by_number_of}
use Rattle.ring_words.specs.Shape.{entries_of}
use Rattle.blk_front.specs.declared.request.Request.{Request}
use Rattle.blk_front.specs.declared.stage.Ending.{Ending}
use Rattle.blk_front.specs.declared.stage.FrontStage.{FrontStage}
use Rattle.blk_front.specs.declared.stage.FrontStage.TheVariants as stage
use Rattle.blk_front.specs.Pool.{empty_pool}
use Rattle.blk_front.specs.State.{is_open}
use Rattle.blk_front.specs.View.{View, no_offers}

-- a request among others that are in order of number
abbrev pub by_number : Request → List Request → List Request
by_number r requests = by_number_of (λ (s : Request). s.number) r requests

-- one whose grants were being ended wasn't answered: it is one of the others again
abbrev pub with_ending : Option Ending → List Request → List Request
with_ending None requests = requests
with_ending (Some e) requests = by_number e.request requests

abbrev pub requests_after : FrontStage → Option Ending → List Request → List Request
requests_after (stage.GrantRead place) ending requests = with_ending ending requests
requests_after (stage.GrantEnd place before) ending requests = with_ending ending requests
requests_after s ending requests = requests

-- the data of a read whose answer was told stay in hand
abbrev pub ending_after : FrontStage → Option Ending → Option Ending
ending_after (stage.GrantRead place) ending = None
ending_after (stage.GrantEnd place before) ending = None
ending_after s ending = ending

abbrev pub stage_after : FrontStage → FrontStage
stage_after (stage.ReadData n) = stage.LeftData n
stage_after (stage.LeftData n) = stage.LeftData n
stage_after s = stage.RingWord 0

-- the ring is made anew, and each request waits to be issued
abbrev pub resumed : View → View
resumed v = record v {
  offers = no_offers;
  ring = record v.ring { indices = record { entries = entries_of v.shape.order; prod = v.start; cons = v.start }; asleep = false; seen = v.start };
  stage = stage_after v.stage;
  waiting = length (requests_after v.stage v.ending v.requests);
  requests = requests_after v.stage v.ending v.requests;
  ending = ending_after v.stage v.ending;
  kept = empty_pool;
}

-- a closed or broken front does nothing more
abbrev pub suspended : View → View
suspended v = if is_open v.stage then resumed v else v

-- the data in hand are told before anything else
abbrev pub is_left : FrontStage → Bool
is_left (stage.LeftData n) = true
is_left s = false
