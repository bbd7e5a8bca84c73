-- What an end of a ring reckons with its indices (`io/ring.h`).
use Rattle.std.specs.Prelude.{ℕ, ◌+◌, ◌-◌, ◌%◌, ◌^◌, Bool, min, nat_lt}
use Rattle.blk_base.specs.Distance.{distance_of}

-- an end's own two indices, and the entries of its ring: for the front req_prod_pvt and rsp_cons, for the back rsp_prod_pvt and req_cons
pub record Ring : Type 0 where
  pub entries : ℕ
  pub prod : ℕ
  pub cons : ℕ

-- the next index
abbrev pub next_of : ℕ → ℕ
next_of index = (index + 1) % 2 ^ 32

-- RING_FREE_REQUESTS: the entries, less those between the front's consumer and its producer
abbrev pub free_of : Ring → ℕ
free_of front = front.entries - distance_of front.cons front.prod

-- RING_HAS_UNCONSUMED_RESPONSES: how far the responses' producer is ahead of the front's consumer
abbrev pub responses_of : Ring → ℕ → ℕ
responses_of front rsp_prod = distance_of front.cons rsp_prod

-- RING_HAS_UNCONSUMED_REQUESTS: the requests ahead of the back's consumer, and no more than there are entries without a request that waits for its response
abbrev pub requests_of : Ring → ℕ → ℕ
requests_of back req_prod = min (distance_of back.cons req_prod) (back.entries - distance_of back.prod back.cons)

-- RING_REQUEST_PROD_OVERFLOW: the requests' producer is further ahead of the back's producer than the ring has entries
abbrev pub overruns : Ring → ℕ → Bool
overruns back req_prod = nat_lt back.entries (distance_of back.prod req_prod)

-- RING_PUSH_REQUESTS_AND_CHECK_NOTIFY: among the indices from old on to new, the other end waits for one
abbrev pub notifies : ℕ → ℕ → ℕ → Bool
notifies old new event = nat_lt (distance_of event new) (distance_of old new)
