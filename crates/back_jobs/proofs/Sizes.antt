-- Every job knows the disk's size, and names only what it may.
use Rattle.std.proofs.Common.{◌≡◌, ℕ, Bool, true, false, if◌then◌else◌, cond, List, [], ◌∷◌, ◌++◌, take, refl, sym, ap, ◌∙◌, suc, arith}
use Rattle.std.specs.Prelude.{Some, Contains, is_some, not, remove, slice_get, slice_set, ◌==◌, nat_le}
use Rattle.std.proofs.lemmas.Option.{get_or_from_slice_get, slice_get_within}
use Rattle.std.proofs.lemmas.List.Elements.{All-tail, All-set, All-push, All-append, All-take, All-drop, All-get_or}
use Rattle.blk_base.specs.declared.parts.Mapping.{Mapping}
use Rattle.blk_base.specs.declared.operation.Status.TheVariants.{Error}
use Rattle.blk_layout.specs.declared.request.RawRequest.{RawRequest}
use Rattle.blk_layout.specs.declared.request.RawRequest.TheVariants.{Direct, Discard, Indirect}
use Rattle.segment_list.specs.declared.verdict.Verdict.{Verdict}
use Rattle.segment_list.specs.declared.verdict.Verdict.TheVariants as verdict
use Rattle.back_jobs.specs.declared.stage.JobStage.TheVariants as stage
use Rattle.back_jobs.specs.Work.{Work, paging, begun, served, moving, ended, frameless}
use Rattle.back_jobs.specs.Jobs.{mapping_at, after_mapping}
use Rattle.back_jobs.specs.Sound.{AreSized}
use Rattle.back_jobs.proofs.Kept.{Facts, facts_of}

-- the number and the disk's size that a job has
abbrev Has : ℕ → ℕ → Work → Type 0
Has number size t = (t.number ≡ number) × (t.size ≡ size)

either_has : (b : Bool) (x y : Work) (number size : ℕ) → Has number size x → Has number size y → Has number size (if b then x else y)
either_has true x y number size p q = p
either_has false x y number size p q = q

served_has : (number : ℕ) (request : RawRequest) (size : ℕ) → Has number size (served number request size)
served_has number (Direct op count device id sector segments) size =
    let request : RawRequest = Direct op count device id sector segments in
    let other = either_has (op == 3) (frameless number request size sector stage.Flush) (ended number request size (stage.Done Error)) number size (refl, refl) (refl, refl) in
    either_has (nat_le op 2) (moving number request size (not (op == 0)) sector (take count segments)) _ number size (refl, refl) other
served_has number (Discard flag device id sector count) size = (refl, refl)
served_has number (Indirect op count device id sector pages) size =
    let request : RawRequest = Indirect op count device id sector pages in
    either_has (nat_le count 960) (paging number request size (not (op == 0)) sector count pages) (ended number request size (stage.Done Error)) number size (refl, refl) (refl, refl)

-- a job begins with its number and the disk's size
begun_has : (number : ℕ) (request : RawRequest) (size : ℕ) (v : Verdict) → Has number size (begun number request size v)
begun_has number request size (verdict.Serve plan) = served_has number request size
begun_has number request size (verdict.Error why) = (refl, refl)
begun_has number request size verdict.Unsupported = (refl, refl)

pub begun_number : (number : ℕ) (request : RawRequest) (size : ℕ) (v : Verdict) → (begun number request size v).number ≡ number
begun_number number request size v = (begun_has number request size v).0

pub begun_size : (number : ℕ) (request : RawRequest) (size : ℕ) (v : Verdict) → (begun number request size v).size ≡ size
begun_size number request size v = (begun_has number request size v).1

abbrev Sized : ℕ → Work → Type 0
Sized size t = t.size ≡ size

-- a job that may have been added, where there was room for it
pub started_sized : (size : ℕ) (added : Bool) (works : List Work) (t : Work) → AreSized size works → t.size ≡ size → AreSized size (if added then works ++ t ∷ [] else works)
started_sized size true works t all this = All-push (Sized size) works t all this
started_sized size false works t all this = all

-- told a job's answer, all know it still
pub told_sized : (size : ℕ) (works : List Work) (place : ℕ) (t u : Work) → slice_get works place ≡ Some t → facts_of u ≡ facts_of t → AreSized size works → AreSized size (slice_set works place u)
told_sized size works place t u h is all =
    let within = slice_get_within works place t h in
    let same = get_or_from_slice_get works place t t h in
    let this = All-get_or (Sized size) works place t within all in
    All-set (Sized size) works place u (ap (λ (f : Facts). f.3) is ∙ ap (λ (w : Work). w.size) (sym same) ∙ this) all

-- so do those that are left when one is removed
pub removed_sized : (size : ℕ) (works : List Work) (place : ℕ) → AreSized size works → AreSized size (remove works place)
removed_sized size works place all = All-append (Sized size) _ _ (All-take (Sized size) place works all) (All-drop (Sized size) (suc place) works all)

after_sized_at : (size : ℕ) (b : Bool) (works : List Work) → AreSized size works → AreSized size (after_mapping works) → AreSized size (cond b works (after_mapping works))
after_sized_at size true works all less = all
after_sized_at size false works all less = less

-- and those after a mapping
pub after_sized : (size : ℕ) (works : List Work) → AreSized size works → AreSized size (after_mapping works)
after_sized size [] all = all
after_sized size (t ∷ works) all =
    let rest = All-tail (Sized size) t works all in
    after_sized_at size (is_some (mapping_at t.stage)) works rest (after_sized size works rest)

-- a single mapping
pub only : (m : Mapping) → Contains (m ∷ []) m
only m = (0, omega arith, refl)
