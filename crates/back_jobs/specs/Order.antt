-- Finding jobs whose numbers ascend, and the lowest that is done.
use Rattle.std.specs.Prelude.{◌≡◌, ℕ, ◌+◌, ◌-◌, ◌<◌, ◌≤◌, Bool, true, false, List, [], ◌∷◌, length, Option, Some, None, slice_get, slice_index_or, nat_lt, ◌==◌, if◌then◌else◌}
use Rattle.std.specs.List.{AllWithin}
use Rattle.std.specs.Option.{option_map}
use Rattle.back_jobs.specs.Work.{Work}
use Rattle.back_jobs.specs.Jobs.{holds_barriers, holds_all}

-- the place of the first job whose number isn't below this one; how many there are where there is none
abbrev pub IsFirstFrom : ℕ → List Work → ℕ → Type 0
IsFirstFrom number works place =
    (place ≤ length works) × AllWithin (λ (t : Work). t.number < number) works 0 place × AllWithin (λ (t : Work). number ≤ t.number) works place (length works)

-- the number of the job at a place
abbrev pub number_at : List Work → ℕ → Option ℕ
number_at works place = option_map (λ (t : Work). t.number) (slice_get works place)

-- the job of a number stands at this place
abbrev pub IsNumberAt : ℕ → List Work → ℕ → Type 0
IsNumberAt number works place = (place < length works) × ((d : Work) → (slice_index_or works place d).number ≡ number)

-- whether a number is above that of the last job
abbrev pub is_above_last : Option Work → ℕ → Bool
is_above_last None number = true
is_above_last (Some t) number = nat_lt t.number number

abbrev pub is_above : List Work → ℕ → Bool
is_above works number = is_above_last (slice_get works (length works - 1)) number

-- whether a number is below that of the first job
abbrev pub is_below_first : Option Work → ℕ → Bool
is_below_first None number = true
is_below_first (Some t) number = nat_lt number t.number

abbrev pub is_below : List Work → ℕ → Bool
is_below works number = is_below_first (slice_get works 0) number

-- a number is put among numbers that ascend
abbrev pub put : ℕ → List ℕ → List ℕ
put n [] = n ∷ []
put n (m ∷ ms) = if nat_lt m n then m ∷ put n ms else n ∷ m ∷ ms

-- the place of the first of some jobs, once another job was removed
abbrev pub without : ℕ → ℕ → ℕ
without first removed = if nat_lt removed first then first - 1 else first

-- the place of the lowest job that is done, once one more is held
abbrev pub done_with : ℕ → ℕ → Bool → ℕ
done_with done count is_done = if done == count then (if is_done then count else count + 1) else done

-- a job that barriers wait for, or one that all that barriers order wait for
abbrev pub holds : Bool → Work → Bool
holds false t = holds_barriers t
holds true t = holds_all t
