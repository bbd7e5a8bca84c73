-- The rules' steps of a request's segments go through each segment sector by sector.
use Rattle.std.proofs.Common.{◌≡◌, ℕ, zero, suc, ◌+◌, ◌*◌, Bool, true, false, List, [], ◌∷◌, ◌++◌, map, refl, ap, ◌∙◌, arith}
use Rattle.std.specs.List.{range_with_len, flat_map}
use Rattle.blk_base.specs.declared.parts.Mode.TheVariants.{ReadOnly, ReadWrite}
use Rattle.blk_layout.specs.declared.segment.Segment.{Segment}
use Rattle.segment_list.specs.Segments.{length_of}
use Rattle.report_rules.specs.declared.step.Step.{Step}
use Rattle.report_rules.specs.declared.step.Step.TheVariants as steps
use Rattle.report_rules.specs.Step.{steps_of, stored, loaded}
use Rattle.report_rules.specs.Work.{stores_of, loads_of}
use Rattle.back_jobs.specs.Work.{mode_of}

-- the steps of a sector of a frame, and of so many
abbrev pub sector : Bool → ℕ → ℕ → List Step
sector true disk within = map steps.Read (range_with_len (128 * within) 128) ++ steps.DiskWrite disk ∷ []
sector false disk within = steps.DiskRead disk ∷ map steps.Write (range_with_len (128 * within) 128)

unfoldable pub sectors : Bool → ℕ → ℕ → ℕ → List Step
sectors writes disk within zero = []
sectors writes disk within (suc n) = sector writes disk within ++ sectors writes (disk + 1) (within + 1) n

-- and of segments from a disk sector on
unfoldable pub others : Bool → ℕ → List Segment → List Step
others writes disk [] = []
others writes disk (s ∷ rest) = steps.Map s.gref (mode_of writes) ∷ (sectors writes disk s.first (length_of s) ++ others writes (disk + length_of s) rest)

stored_all : (disk first k n : ℕ) → flat_map (stored disk first) (range_with_len k n) ≡ sectors true (disk + k) (first + k) n
unfolding sectors
stored_all disk first k zero = refl
stored_all disk first k (suc n) =
    let far : disk + (k + 1) ≡ disk + k + 1 = omega arith in
    let on : first + (k + 1) ≡ first + k + 1 = omega arith in
    ap (λ (l : List Step). sector true (disk + k) (first + k) ++ l) (stored_all disk first (k + 1) n ∙ (ap (λ (d : ℕ). sectors true d (first + (k + 1)) n) far ∙ ap (λ (w : ℕ). sectors true (disk + k + 1) w n) on))

loaded_all : (disk first k n : ℕ) → flat_map (loaded disk first) (range_with_len k n) ≡ sectors false (disk + k) (first + k) n
unfolding sectors
loaded_all disk first k zero = refl
loaded_all disk first k (suc n) =
    let far : disk + (k + 1) ≡ disk + k + 1 = omega arith in
    let on : first + (k + 1) ≡ first + k + 1 = omega arith in
    ap (λ (l : List Step). sector false (disk + k) (first + k) ++ l) (loaded_all disk first (k + 1) n ∙ (ap (λ (d : ℕ). sectors false d (first + (k + 1)) n) far ∙ ap (λ (w : ℕ). sectors false (disk + k + 1) w n) on))

pub stores_steps : (disk : ℕ) (segments : List Segment) → steps_of (stores_of false disk segments) ≡ others true disk segments
unfolding others
stores_steps disk [] = refl
stores_steps disk (s ∷ rest) =
    let here : disk + 0 ≡ disk = omega arith in
    let first : s.first + 0 ≡ s.first = omega arith in
    let own : flat_map (stored disk s.first) (range_with_len 0 (length_of s)) ≡ sectors true disk s.first (length_of s) =
    stored_all disk s.first 0 (length_of s) ∙ (ap (λ (d : ℕ). sectors true d (s.first + 0) (length_of s)) here ∙ ap (λ (w : ℕ). sectors true disk w (length_of s)) first) in
    ap (λ (l : List Step). steps.Map s.gref ReadOnly ∷ (l ++ steps_of (stores_of false (disk + length_of s) rest))) own
    ∙ ap (λ (l : List Step). steps.Map s.gref ReadOnly ∷ (sectors true disk s.first (length_of s) ++ l)) (stores_steps (disk + length_of s) rest)

pub loads_steps : (disk : ℕ) (segments : List Segment) → steps_of (loads_of disk segments) ≡ others false disk segments
unfolding others
loads_steps disk [] = refl
loads_steps disk (s ∷ rest) =
    let here : disk + 0 ≡ disk = omega arith in
    let first : s.first + 0 ≡ s.first = omega arith in
    let own : flat_map (loaded disk s.first) (range_with_len 0 (length_of s)) ≡ sectors false disk s.first (length_of s) =
    loaded_all disk s.first 0 (length_of s) ∙ (ap (λ (d : ℕ). sectors false d (s.first + 0) (length_of s)) here ∙ ap (λ (w : ℕ). sectors false disk w (length_of s)) first) in
    ap (λ (l : List Step). steps.Map s.gref ReadWrite ∷ (l ++ steps_of (loads_of (disk + length_of s) rest))) own
    ∙ ap (λ (l : List Step). steps.Map s.gref ReadWrite ∷ (sectors false disk s.first (length_of s) ++ l)) (loads_steps (disk + length_of s) rest)
