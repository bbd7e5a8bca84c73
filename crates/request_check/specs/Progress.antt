-- What was done of requests in this epoch (`io/blkif.h`): after a resume each request that waits for its answer is asked for anew.
use Rattle.std.specs.Prelude.{ℕ, Bool, true, false, List, [], Option, Some, None, unwrap_or}
use Rattle.std.specs.List.{list_any}
use Rattle.std.specs.Map.{lookup, set_value}
use Rattle.std.specs.BTreeMap.{is_at, insert_entry}
use Rattle.std.specs.BTreeSet.{insert_key}
use Rattle.std.specs.Ordering.{nat_cmp}
use Rattle.blk_base.specs.declared.operation.Status.{Status}
use Rattle.request_check.specs.declared.progress.Doing.{Doing}
use Rattle.request_check.specs.declared.progress.Doing.TheVariants as doings

-- whether the disk failed, what was replied, and the places that were done
pub record Progress : Type 0 where
  pub faulted : Bool
  pub reply : Option Status
  pub done : List ℕ

abbrev pub nothing_done : Progress
nothing_done = record { faulted = false; reply = None; done = [] }

abbrev pub is_place_done : Progress → ℕ → Bool
is_place_done p index = list_any (is_at (nat_cmp index)) p.done

abbrev pub with_done : ℕ → Progress → Progress
with_done index p = record p { done = insert_key nat_cmp p.done index }

abbrev pub with_fault : Progress → Progress
with_fault p = record p { faulted = true }

abbrev pub with_reply : Status → Progress → Progress
with_reply status p = record p { reply = Some status }

-- what one doing makes of it
abbrev pub with_doing : Doing → Progress → Progress
with_doing (doings.Done index) = with_done index
with_doing doings.Failed = with_fault
with_doing (doings.Replied status) = with_reply status

-- what was done of a request: nothing where nothing is kept of it
abbrev pub progress_of : List (ℕ × Progress) → ℕ → Progress
progress_of kept id = unwrap_or (lookup (is_at (nat_cmp id)) kept) nothing_done

abbrev pub changed_by : (Progress → Progress) → List (ℕ × Progress) → ℕ → Option Progress → List (ℕ × Progress)
changed_by change kept id None = insert_entry nat_cmp kept id (change nothing_done)
changed_by change kept id (Some p) = set_value (is_at (nat_cmp id)) kept (change p)

-- something was done of a request
abbrev pub changed : (Progress → Progress) → List (ℕ × Progress) → ℕ → List (ℕ × Progress)
changed change kept id = changed_by change kept id (lookup (is_at (nat_cmp id)) kept)
