-- Numbers that were given stay given, where one with the next number comes after the others.
use Rattle.std.proofs.Common.{◌≡◌, ℕ, suc, ◌+◌, ◌<◌, ◌≤◌, List, [], ◌∷◌, ◌++◌, length, get_or, ap, arith}
use Rattle.std.specs.Prelude.{All, remove}
use Rattle.std.proofs.lemmas.List.Edits.{length-remove, get_or-remove_below, get_or-remove_above}
use Rattle.std.proofs.lemmas.List.Elements.{All-append, All-drop, All-push, All-take}
use Rattle.blk_front.specs.declared.request.Request.{Request}
use Rattle.blk_front.specs.declared.stage.FrontStage.{FrontStage}
use Rattle.blk_front.specs.declared.stage.FrontStage.TheVariants as stage
use Rattle.blk_front.specs.Sound.{IsReading}
use Rattle.blk_front.specs.Step.{IsTaking}

pub push_given : (l : List Request) (r : Request) (last : ℕ) → All (λ (s : Request). s.number ≤ last) l → r.number ≡ last + 1 → All (λ (s : Request). s.number ≤ last + 1) (l ++ r ∷ [])
push_given l r last given next = All-push (λ (s : Request). s.number ≤ last + 1) l r (λ k d within. let low = given k d within in omega arith) (omega arith)

-- and where one is removed
pub remove_given : (l : List Request) (place last : ℕ) → place < length l → All (λ (s : Request). s.number ≤ last) l → All (λ (s : Request). s.number ≤ last) (remove l place)
remove_given l place last within given k d lt =
    let shorter = length-remove l place within in
    let number = λ (r : Request). r.number in
    let below : k < place → (get_or (remove l place) k d).number ≡ (get_or l k d).number = λ h. ap number (get_or-remove_below l place d k h within) in
    let above : place ≤ k → (get_or (remove l place) k d).number ≡ (get_or l (k + 1) d).number = λ h. ap number (get_or-remove_above l place d k h within) in
    grind (arith, below, above, given k d, given (k + 1) d)

-- what holds of all holds of those that are left
pub remove_all : (P : Request → Type 0) (l : List Request) (place : ℕ) → All P l → All P (remove l place)
remove_all P l place all = All-append P _ _ (All-take P place l all) (All-drop P (suc place) l all)

-- a response is taken once its last word was read, so more responses were seen
pub reads_some : (s : FrontStage) (ahead : ℕ) → IsTaking s → IsReading s ahead → 0 < ahead
reads_some (stage.ResponseLast low high) ahead taking more = more
reads_some s ahead taking more = absurd taking
