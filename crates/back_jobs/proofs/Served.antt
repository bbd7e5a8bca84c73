-- The segments of a served read or write may be moved.
use Rattle.std.proofs.Common.{◌≡◌, ℕ, zero, suc, ◌+◌, ◌<◌, ◌≤◌, true, List, [], ◌∷◌, take, length, sym, arith}
use Rattle.std.specs.Prelude.{nat_le}
use Rattle.std.proofs.lemmas.Bool.Decides.{nat_tests}
use Rattle.std.specs.List.{AllByRecursion}
use Rattle.std.proofs.lemmas.List.{length-take-le}
use Rattle.std.proofs.lemmas.List.Elements.{recursion_from_All}
use Rattle.blk_layout.specs.declared.segment.Segment.{Segment}
use Rattle.segment_list.specs.declared.verdict.DiskInfo.{DiskInfo}
use Rattle.segment_list.specs.declared.verdict.Kind.{Kind}
use Rattle.segment_list.specs.declared.verdict.Kind.TheVariants as kind
use Rattle.blk_layout.specs.declared.request.RawRequest.TheVariants.{Direct}
use Rattle.segment_list.specs.declared.verdict.Plan.{Plan}
use Rattle.segment_list.specs.declared.verdict.Verdict.TheVariants.{Serve}
use Rattle.segment_list.specs.Segments.{IsSound, sectors_of}
use Rattle.segment_list.specs.Verdict.{transfer_verdict, verdict_of}
use Rattle.segment_list.proofs.Served.{transfer_served}
use Rattle.back_jobs.specs.Sound.{AreMovable}

pub movable : (size sector : ℕ) (segments : List Segment) → 0 < length segments → sector + sectors_of segments ≤ size → AllByRecursion IsSound segments → AreMovable size sector segments
movable size sector [] some fits sound = absurd (omega arith)
movable size sector (s ∷ rest) some fits sound = (fits, sound)

-- what a transfer needs of the segments that it uses
pub record IsMovable (count sector : ℕ) (segments : List Segment) (info : DiskInfo) : Type 0 where
  pub few : count ≤ 11
  pub bound : count ≡ length (take count segments)
  pub short : length (take count segments) ≤ 11
  pub movable : AreMovable info.sectors sector (take count segments)

pub transfer_movable : (kind : Kind) (count sector : ℕ) (segments : List Segment) (info : DiskInfo) (plan : Plan) → length segments ≡ 11 → transfer_verdict kind count sector segments info ≡ Serve plan → IsMovable count sector segments info
transfer_movable kind count sector segments info plan long h =
    let t = transfer_served kind count sector segments info plan h in
    let few = t.few in let some = t.positive in
    let used : length (take count segments) ≡ count = grind (arith, length-take-le) in
    record {
      few = few;
      bound = sym used;
      short = omega arith;
      movable = movable info.sectors sector (take count segments) (omega arith) t.on_disk.within (recursion_from_All IsSound (take count segments) t.on_disk.sound);
    }

-- a READ, a WRITE or a WRITE_BARRIER that is served passes the tests of one of them
pub transfer_kind : (op count device id sector : ℕ) (segments : List Segment) (info : DiskInfo) (plan : Plan) → nat_le op 2 ≡ true → verdict_of (Direct op count device id sector segments) info ≡ Serve plan → (kind : Kind) × (transfer_verdict kind count sector segments info ≡ Serve plan)
transfer_kind zero count device id sector segments info plan few h = (kind.Read, h)
transfer_kind (suc zero) count device id sector segments info plan few h = (kind.Write, h)
transfer_kind (suc (suc zero)) count device id sector segments info plan few h = (kind.Barrier, h)
transfer_kind (suc (suc (suc op))) count device id sector segments info plan few h = absurd (too_many op few)
  where
    too_many : (n : ℕ) → nat_le (suc (suc (suc n))) 2 ≡ true → ⊥
    too_many n few = grind (arith, nat_tests)
