-- What is known of a request that is served.
use Rattle.std.proofs.Common.{◌≡◌, ℕ, ◌+◌, ◌<◌, ◌≤◌, Bool, true, false, List, [], ◌∷◌, take, refl, arith}
use Rattle.std.specs.Prelude.{◌||◌, ◌&&◌, not, ◌==◌, nat_lt}
use Rattle.std.specs.List.{list_any, AllByRecursion}
use Rattle.std.proofs.lemmas.Bool.Decides.{nat_tests}
use Rattle.std.proofs.lemmas.List.Elements.{All-from_recursion}
use Rattle.blk_layout.specs.declared.segment.Segment.{Segment}
use Rattle.segment_list.specs.declared.verdict.DiskInfo.{DiskInfo}
use Rattle.segment_list.specs.declared.verdict.Kind.{Kind}
use Rattle.segment_list.specs.declared.verdict.Plan.{Plan}
use Rattle.segment_list.specs.declared.verdict.Why.{Why}
use Rattle.segment_list.specs.declared.verdict.Why.TheVariants as why
use Rattle.segment_list.specs.declared.verdict.Verdict.{Verdict}
use Rattle.segment_list.specs.declared.verdict.Verdict.TheVariants.{Serve, Error, Unsupported}
use Rattle.segment_list.specs.Segments.{IsSound, fails_test, sectors_of}
use Rattle.segment_list.specs.Verdict.{first_of, planned, is_write, is_barrier, transfer_verdict, finished_verdict, IsOnDisk}

-- a test that ends the request doesn't apply where it is served, and the others decide
past_error : (test : Bool) (why : Why) (tests : List (Bool × Verdict)) (plan p : Plan) → first_of ((test, Error why) ∷ tests) plan ≡ Serve p → (test ≡ false) × (first_of tests plan ≡ Serve p)
past_error true why tests plan p h = cc
past_error false why tests plan p h = (refl, h)

past_unsupported : (test : Bool) (tests : List (Bool × Verdict)) (plan p : Plan) → first_of ((test, Unsupported) ∷ tests) plan ≡ Serve p → (test ≡ false) × (first_of tests plan ≡ Serve p)
past_unsupported true tests plan p h = cc
past_unsupported false tests plan p h = (refl, h)

sound_one : (segment : Segment) (rest : Bool) → (fails_test segment || rest) ≡ false → IsSound segment
sound_one segment rest h = record { nonempty = grind (arith, nat_tests); inside = grind (arith, nat_tests) }

sound_rest : (segment : Segment) (rest : Bool) → (fails_test segment || rest) ≡ false → rest ≡ false
sound_rest segment rest h = grind (arith, nat_tests)

sound_all : (segments : List Segment) → list_any fails_test segments ≡ false → AllByRecursion IsSound segments
sound_all [] h = tt
sound_all (segment ∷ segments) h = (sound_one segment (list_any fails_test segments) h, sound_all segments (sound_rest segment (list_any fails_test segments) h))

not_above : (a b : ℕ) → nat_lt a b ≡ false → b ≤ a
not_above a b h = grind (arith, nat_tests)

-- what `finish_indirect` serves lies on the disk
pub finished_on_disk : (plan p : Plan) (segments : List Segment) (info : DiskInfo) → finished_verdict plan segments info ≡ Serve p → IsOnDisk plan.sector segments info
finished_on_disk plan p segments info h =
    let range : Bool × Verdict = (nat_lt info.sectors (plan.sector + sectors_of segments), Error why.Range) in
    let first = past_error (list_any fails_test segments) why.Segment (range ∷ []) plan p h in
    let second = past_error (nat_lt info.sectors (plan.sector + sectors_of segments)) why.Range [] plan p first.1 in
    record { sound = All-from_recursion IsSound segments (sound_all segments first.0); within = not_above info.sectors (plan.sector + sectors_of segments) second.0 }

-- a read, a write or a barrier that is served: as many segments as its entry has, on the disk
pub record IsTransfer (kind : Kind) (count sector : ℕ) (segments : List Segment) (info : DiskInfo) (plan : Plan) : Type 0 where
  pub plan_is : plan ≡ planned kind sector count
  pub positive : 0 < count
  pub few : count ≤ 11
  pub on_disk : IsOnDisk sector (take count segments) info

counted : (count : ℕ) → ((count == 0) || nat_lt 11 count) ≡ false → (0 < count) × (count ≤ 11)
counted count h = (grind (arith, nat_tests), grind (arith, nat_tests))

same_plan : (plan p : Plan) → first_of [] plan ≡ Serve p → p ≡ plan
same_plan plan p h = cc

pub transfer_served : (kind : Kind) (count sector : ℕ) (segments : List Segment) (info : DiskInfo) (p : Plan) → transfer_verdict kind count sector segments info ≡ Serve p → IsTransfer kind count sector segments info p
transfer_served kind count sector segments info p h =
    let plan : Plan = planned kind sector count in
    let used : List Segment = take count segments in
    let range : Bool × Verdict = (nat_lt info.sectors (sector + sectors_of used), Error why.Range) in
    let bad : Bool × Verdict = (list_any fails_test used, Error why.Segment) in
    let counts : Bool × Verdict = ((count == 0) || nat_lt 11 count, Error why.Count) in
    let writes : Bool × Verdict = (is_write kind && info.read_only, Error why.ReadOnly) in
    let one = past_unsupported (is_barrier kind && not info.barrier) (writes ∷ counts ∷ bad ∷ range ∷ []) plan p h in
    let two = past_error (is_write kind && info.read_only) why.ReadOnly (counts ∷ bad ∷ range ∷ []) plan p one.1 in
    let three = past_error ((count == 0) || nat_lt 11 count) why.Count (bad ∷ range ∷ []) plan p two.1 in
    let four = past_error (list_any fails_test used) why.Segment (range ∷ []) plan p three.1 in
    let five = past_error (nat_lt info.sectors (sector + sectors_of used)) why.Range [] plan p four.1 in
    let small = counted count three.0 in
    record {
      plan_is = same_plan plan p five.1;
      positive = small.0;
      few = small.1;
      on_disk = record { sound = All-from_recursion IsSound used (sound_all used four.0); within = not_above info.sectors (sector + sectors_of used) five.0 };
    }
