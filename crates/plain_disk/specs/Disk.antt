-- The plain disk: what its sectors may hold, and what was asked of it.
use Rattle.std.specs.Prelude.{ℕ, ◌-◌, ◌&&◌, List, [], fold, slice_get, Option, Some, None, if◌then◌else◌, ◌==◌}
use Rattle.plain_disk.specs.declared.request.DiskRequest.{DiskRequest}
use Rattle.plain_disk.specs.declared.request.Place.{Place}
use Rattle.plain_disk.specs.declared.request.Noted.{Noted}
use Rattle.plain_disk.specs.declared.request.Change.{Change}

-- the sectors at first, none where nothing is known of them; what happened to sectors since, oldest first; the requests, number 1 first; the places done and the words read in this epoch
pub record Disk : Type 0 where
  pub first : List (List ℕ)
  pub changes : List Change
  pub requests : List DiskRequest
  pub done : List Place
  pub noted : List Noted

-- a disk of which no request was asked
abbrev pub disk_of : List (List ℕ) → Disk
disk_of sectors = record { first = sectors; changes = []; requests = []; done = []; noted = [] }

-- the request of a number, from 1
abbrev pub request_of : List DiskRequest → ℕ → Option DiskRequest
request_of requests id = if id == 0 then None else slice_get requests (id - 1)

-- the words that a request's sector showed when it was read in this epoch, the last ones where there are several
abbrev pub noted_at : List Noted → ℕ → ℕ → Option (List ℕ)
noted_at noted id index = fold (λ (words : Option (List ℕ)) (n : Noted). if n.id == id && n.index == index then Some n.words else words) None noted
