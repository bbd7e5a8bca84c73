-- What the back makes of a request before it does anything (`io/blkif.h`). For each operation the tests stand in
-- order, and the first that applies decides. Sums are of whole numbers.
use Rattle.std.specs.Prelude.{ℕ, ◌+◌, ◌%◌, Bool, true, false, not, ◌&&◌, ◌||◌, ◌==◌, nat_lt, if◌then◌else◌, List, [], ◌∷◌, take, All, Option, Some, None, is_none, unwrap_or, ◌≤◌}
use Rattle.std.specs.List.{list_any}
use Rattle.blk_base.specs.declared.operation.Op.TheVariants as op
use Rattle.blk_base.specs.Operation.{op_code}
use Rattle.blk_layout.specs.declared.segment.Segment.{Segment}
use Rattle.blk_layout.specs.declared.request.RawRequest.{RawRequest}
use Rattle.blk_layout.specs.declared.request.RawRequest.TheVariants.{Direct, Discard, Indirect}
use Rattle.segment_list.specs.declared.verdict.DiskInfo.{DiskInfo}
use Rattle.segment_list.specs.declared.verdict.Why.TheVariants as why
use Rattle.segment_list.specs.declared.verdict.Kind.{Kind}
use Rattle.segment_list.specs.declared.verdict.Kind.TheVariants as kind
use Rattle.segment_list.specs.declared.verdict.Plan.{Plan}
use Rattle.segment_list.specs.declared.verdict.Verdict.{Verdict}
use Rattle.segment_list.specs.declared.verdict.Verdict.TheVariants.{Serve, Error, Unsupported}
use Rattle.segment_list.specs.Segments.{IsSound, fails_test, sectors_of}

-- the first test that applies decides, and where none does the request is served
abbrev pub first_of : List (Bool × Verdict) → Plan → Verdict
first_of [] plan = Serve plan
first_of (test ∷ tests) plan = if test.0 then test.1 else first_of tests plan

abbrev pub planned : Kind → ℕ → ℕ → Plan
planned kind sector count = record { kind = kind; sector = sector; count = count }

abbrev pub is_write : Kind → Bool
is_write kind.Write = true
is_write other = false

abbrev pub is_barrier : Kind → Bool
is_barrier kind.Barrier = true
is_barrier other = false

-- READ, WRITE and WRITE_BARRIER
abbrev pub transfer_verdict : Kind → ℕ → ℕ → List Segment → DiskInfo → Verdict
transfer_verdict kind count sector segments info =
    let used = take count segments in
    first_of (
    (is_barrier kind && not info.barrier, Unsupported) ∷
    (is_write kind && info.read_only, Error why.ReadOnly) ∷
    ((count == 0) || nat_lt 11 count, Error why.Count) ∷
    (list_any fails_test used, Error why.Segment) ∷
    (nat_lt info.sectors (sector + sectors_of used), Error why.Range) ∷ [])
    (planned kind sector count)

-- FLUSH_DISKCACHE
abbrev pub flush_verdict : ℕ → ℕ → DiskInfo → Verdict
flush_verdict count sector info =
    first_of (
    (not info.flush, Unsupported) ∷
    (not (count == 0), Error why.Count) ∷ [])
    (planned kind.Flush sector count)

-- DISCARD, of which bit 0 of the flag asks for a secure one
abbrev pub discard_verdict : ℕ → ℕ → ℕ → DiskInfo → Verdict
discard_verdict flag count sector info =
    first_of (
    (not info.discard || (flag % 2 == 1), Unsupported) ∷
    (count == 0, Error why.Count) ∷
    (nat_lt info.sectors (sector + count), Error why.Range) ∷ [])
    (planned kind.Discard sector count)

-- what an INDIRECT does, by its inner operation
abbrev pub kind_within : ℕ → Option Kind
kind_within inner =
    if inner == op_code op.Read then Some kind.IndirectRead
    else (if inner == op_code op.Write then Some kind.IndirectWrite else None)

-- INDIRECT, before its segments are copied from its pages
abbrev pub indirect_verdict : ℕ → ℕ → ℕ → DiskInfo → Verdict
indirect_verdict inner count sector info =
    first_of (
    (info.max_indirect == 0, Unsupported) ∷
    (is_none (kind_within inner), Error why.Op) ∷
    ((inner == op_code op.Write) && info.read_only, Error why.ReadOnly) ∷
    ((count == 0) || nat_lt info.max_indirect count, Error why.Count) ∷ [])
    (planned (unwrap_or (kind_within inner) kind.IndirectRead) sector count)

-- the verdict on any request, by its operation
abbrev pub verdict_of : RawRequest → DiskInfo → Verdict
verdict_of (Direct code count device id sector segments) info =
    if code == op_code op.Read then transfer_verdict kind.Read count sector segments info
    else (if code == op_code op.Write then transfer_verdict kind.Write count sector segments info
    else (if code == op_code op.Barrier then transfer_verdict kind.Barrier count sector segments info
    else (if code == op_code op.Flush then flush_verdict count sector info
    else Error why.Op)))
verdict_of (Discard flag device id sector count) info = discard_verdict flag count sector info
verdict_of (Indirect inner count device id sector pages) info = indirect_verdict inner count sector info

-- INDIRECT, once its segments are copied: the last tests of READ and WRITE
abbrev pub finished_verdict : Plan → List Segment → DiskInfo → Verdict
finished_verdict plan segments info =
    first_of (
    (list_any fails_test segments, Error why.Segment) ∷
    (nat_lt info.sectors (plan.sector + sectors_of segments), Error why.Range) ∷ [])
    plan

-- segments that each have a sector and none beyond its frame, and lie on the disk from `sector` on
pub record IsOnDisk (sector : ℕ) (segments : List Segment) (info : DiskInfo) : Type 0 where
  pub sound : All IsSound segments
  pub within : sector + sectors_of segments ≤ info.sectors
