-- The pool of frames for the requests' data: 1000 frames from 18 on.
use Rattle.std.specs.Prelude.{ℕ, zero, suc, ◌+◌, ◌-◌, Bool, true, false, not, List, [], ◌∷◌, ◌++◌, fold, drop, Option, Some, position, option_map, option_and_then, replicate, slice_index_or, slice_set}

abbrev pub first_frame : ℕ
first_frame = 18

abbrev pub empty_pool : List Bool
empty_pool = replicate 1000 false

-- the lowest frame that isn't in use
abbrev pub lowest_of : List Bool → Option ℕ
lowest_of taken = option_map (λ place. 18 + place) (position not taken)

abbrev pub with_taken : List Bool → ℕ → List Bool
with_taken taken frame = slice_set taken (frame - 18) true

abbrev pub with_free : List Bool → ℕ → List Bool
with_free taken frame = slice_set taken (frame - 18) false

-- whether a frame is in use, and the lowest one in use from this one on
abbrev pub is_taken : List Bool → ℕ → Bool
is_taken taken frame = slice_index_or taken (frame - 18) false

abbrev pub taken_from : List Bool → ℕ → Option ℕ
taken_from taken frame = option_map (λ more. frame + more) (position (λ t. t) (drop (frame - 18) taken))

-- the place, from this one on, of the first of these frames that isn't in use
abbrev pub untaken_from : List Bool → List ℕ → (place : ℕ) → Option ℕ
untaken_from taken frames place = option_map (λ more. place + more) (position (λ frame. not (is_taken taken frame)) (drop place frames))

-- so many frames more are taken into use, each the lowest that isn't: all that were taken, and the pool then; none where fewer are left
abbrev pub taking : ℕ → List Bool → List ℕ → Option (List ℕ × List Bool)
taking zero taken frames = Some (frames, taken)
taking (suc n) taken frames = option_and_then (λ frame. taking n (with_taken taken frame) (frames ++ frame ∷ [])) (lowest_of taken)

-- these frames are given back
abbrev pub with_all_free : List Bool → List ℕ → List Bool
with_all_free taken frames = fold with_free taken frames
