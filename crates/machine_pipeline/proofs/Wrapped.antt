-- Whole indices and the ring's words for them, which wrap at 2 ^ 32.
use Rattle.std.proofs.Common.{◌≡◌, ℕ, ◌+◌, ◌-◌, ◌^◌, ◌<◌, ◌≤◌, arith}
use Rattle.blk_base.specs.Distance.{distance_of}
use Rattle.ring_words.specs.Ring.{next_of}
use Rattle.machine_pipeline.proofs.Flow.{wrapped}

-- how far one index is ahead of another
pub distance_at : (start m n a b : ℕ) → a ≡ wrapped start m → b ≡ wrapped start n → m ≤ n → n < m + 2 ^ 32 → distance_of a b ≡ n - m
distance_at start m n a b e f le lt = rw (e, f) (omega arith)

-- indices that are less than 2 ^ 32 apart are the same where their words are
pub same_wrapped : (start m n : ℕ) → m ≤ n → n < m + 2 ^ 32 → wrapped start n ≡ wrapped start m → n ≡ m
same_wrapped start m n le lt e = omega arith

pub next_wrapped : (start n index : ℕ) → index ≡ wrapped start n → next_of index ≡ wrapped start (n + 1)
next_wrapped start n index e = rw e (omega arith)
