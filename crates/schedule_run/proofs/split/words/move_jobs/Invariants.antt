use Rattle.std.specs.Prelude.{◌≡◌}
use Rattle.blk_back.specs.Hands.{hands_of}
use Rattle.split_model.specs.Safe.{above}
use Rattle.round_laws.proofs.Moving.{Moved}
use Rattle.schedule_run.proofs.split.words.move_jobs.Given as goal

-- the jobs up to the last one have moved
abbrev pub invariant-loop-number : goal.invariant-loop-number
invariant-loop-number l = record {
  moved : Moved l.count l.fn.under l.fn.back.ring l.last l.back.ring l.under;
  bus : l.back.bus ≡ l.fn.back.bus;
  hands : hands_of l.back.ring ≡ hands_of l.fn.back.ring;
}

-- the jobs above it
abbrev pub decreases-loop-number : goal.decreases-loop-number
decreases-loop-number l = above l.last l.fn.back.ring
