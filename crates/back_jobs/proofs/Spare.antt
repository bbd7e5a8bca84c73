-- Each vector for copied segments is spare, or a job has it.
use Rattle.std.proofs.Common.{◌≡◌, ℕ, ◌+◌, ◌<◌, ◌≤◌, Bool, true, false, if◌then◌else◌, cond, List, [], ◌∷◌, ◌++◌, length, refl, sym, ap, ◌∙◌, arith}
use Rattle.std.specs.Prelude.{◌≢◌, Some, slice_get, slice_set, slice_index_or, remove, nat_lt, ◌==◌}
use Rattle.std.specs.List.{count_by}
use Rattle.std.proofs.lemmas.Bool.Decides.{nat_tests}
use Rattle.std.proofs.lemmas.Option.{slice_get_within, get_or_from_slice_get}
use Rattle.std.proofs.lemmas.List.Sums.{sum_by_push, sum_by-set, sum_by-remove, count_by-le-length}
use Rattle.back_jobs.specs.Work.{Work}
use Rattle.back_jobs.specs.Segments.{is_paged, AreShared}
use Rattle.back_jobs.proofs.Kept.{Facts, facts_of}

-- an answer leaves a job the vector that it has
step_paged : (t u : Work) → facts_of u ≡ facts_of t → is_paged u ≡ is_paged t
step_paged t u is = ap (λ (f : Facts). nat_lt 0 f.2) is

abbrev vecs_of : Work → ℕ
vecs_of t = cond (is_paged t) 1 0

-- one is told an answer
pub told_shared : (spare capacity jobs indirect : ℕ) (works : List Work) (place : ℕ) (t u : Work) → slice_get works place ≡ Some t → facts_of u ≡ facts_of t
    → AreShared spare capacity jobs indirect works → AreShared spare capacity jobs indirect (slice_set works place u)
told_shared spare capacity jobs indirect works place t u here is all =
    let within = slice_get_within works place t here in
    let at = get_or_from_slice_get works place t t here in
    let same : vecs_of u ≡ vecs_of (slice_index_or works place t) = ap (λ (b : Bool). cond b 1 0) (step_paged t u is ∙ ap is_paged (sym at)) in
    let moved = sum_by-set vecs_of works place u t within in
    record { has_space = all.has_space; shared = omega (arith, moved, same, all.shared) }

-- one more is begun, and takes the vector that it needs
pub began_shared : (was spare capacity now jobs indirect : ℕ) (works : List Work) (t : Work) → spare + cond (is_paged t) 1 0 ≡ was → now ≡ capacity
    → AreShared was capacity jobs indirect works → AreShared spare now jobs indirect (works ++ t ∷ [])
began_shared was spare capacity now jobs indirect works t taken same all =
    let more = sum_by_push vecs_of works t in
    record { has_space = omega (arith, same, all.has_space); shared = omega (arith, more, taken, all.shared) }

-- a vector is spare where another job may begin
pub has_spare : (spare capacity jobs indirect : ℕ) (works : List Work) → AreShared spare capacity jobs indirect works → length works < jobs → indirect ≢ 0 → 0 < spare
has_spare spare capacity jobs indirect works all below some = by_test (indirect == 0) refl all.shared
  where
    by_test : (b : Bool) → (indirect == 0) ≡ b → spare + count_by is_paged works ≡ (if b then 0 else jobs) → 0 < spare
    by_test true test shared = absurd (some (grind (arith, nat_tests)))
    by_test false test shared = omega (arith, shared, below, count_by-le-length is_paged works)

-- one is removed, and gives its vector back
pub removed_space : (spare capacity jobs indirect : ℕ) (works : List Work) (place : ℕ) (t : Work) → place < length works → t ≡ slice_index_or works place t
    → AreShared spare capacity jobs indirect works → spare + cond (is_paged t) 1 0 ≤ capacity
removed_space spare capacity jobs indirect works place t within at all =
    let fewer = sum_by-remove vecs_of works place t within in
    let same : vecs_of t ≡ vecs_of (slice_index_or works place t) = ap vecs_of at in
    omega (arith, fewer, same, all.shared, all.has_space)

pub removed_shared : (spare now capacity kept jobs indirect : ℕ) (works : List Work) (place : ℕ) (t : Work) → place < length works → t ≡ slice_index_or works place t
    → now ≡ spare + cond (is_paged t) 1 0 → kept ≡ capacity → AreShared spare capacity jobs indirect works → AreShared now kept jobs indirect (remove works place)
removed_shared spare now capacity kept jobs indirect works place t within at given same all =
    let fewer = sum_by-remove vecs_of works place t within in
    let one : vecs_of t ≡ vecs_of (slice_index_or works place t) = ap vecs_of at in
    record { has_space = omega (arith, same, all.has_space); shared = omega (arith, fewer, one, given, all.shared) }

-- the first is removed
pub first_shared : (works rest : List Work) (t : Work) → 0 < length works → t ≡ slice_index_or works 0 t → rest ≡ remove works 0 → count_by is_paged rest + cond (is_paged t) 1 0 ≡ count_by is_paged works
first_shared works rest t within at is =
    let fewer = sum_by-remove vecs_of works 0 t within in
    let one : vecs_of t ≡ vecs_of (slice_index_or works 0 t) = ap vecs_of at in
    rw is (omega (arith, fewer, one))
