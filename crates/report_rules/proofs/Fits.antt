-- A request that is served ends on the disk, or has no sectors.
use Rattle.std.proofs.Common.{◌≡◌, ℕ, ◌+◌, ◌≤◌, Bool, true, false, List, [], ◌∷◌, take, length, min, max, inl, inr, refl, sym, ◌∙◌, ap, arith}
use Rattle.std.specs.Prelude.{not, ◌==◌, nat_lt, if◌then◌else◌}
use Rattle.std.specs.List.{list_any}
use Rattle.std.proofs.lemmas.Bool.Decides.{nat_tests, leb_tells}
use Rattle.std.proofs.lemmas.List.{take_all}
use Rattle.blk_base.specs.declared.operation.Op.TheVariants as op
use Rattle.blk_base.specs.Operation.{op_code}
use Rattle.blk_layout.specs.declared.segment.Segment.{Segment}
use Rattle.blk_layout.specs.declared.request.RawRequest.TheVariants.{Direct}
use Rattle.segment_list.specs.declared.verdict.DiskInfo.{DiskInfo}
use Rattle.segment_list.specs.declared.verdict.Kind.{Kind}
use Rattle.segment_list.specs.declared.verdict.Kind.TheVariants as kind
use Rattle.segment_list.specs.declared.verdict.Plan.{Plan}
use Rattle.segment_list.specs.declared.verdict.Why.TheVariants as why
use Rattle.segment_list.specs.declared.verdict.Verdict.{Verdict}
use Rattle.segment_list.specs.declared.verdict.Verdict.TheVariants.{Serve, Error, Unsupported}
use Rattle.segment_list.specs.Segments.{sectors_of, fails_test}
use Rattle.segment_list.specs.Verdict.{first_of, planned, transfer_verdict, flush_verdict, verdict_of, finished_verdict}
use Rattle.segment_list.proofs.Served.{transfer_served, finished_on_disk}

transfer_fits : (kind : Kind) (count sector : ℕ) (segments : List Segment) (info : DiskInfo) (p : Plan) → transfer_verdict kind count sector segments info ≡ Serve p → p.sector + sectors_of (take count segments) ≤ max info.sectors p.sector
transfer_fits kind count sector segments info p h =
    let t = transfer_served kind count sector segments info p h in
    let same : p.sector ≡ sector = ap (λ (q : Plan). q.sector) t.plan_is in
    let within = t.on_disk.within in
    omega arith

flush_by : (unpublished empty : Bool) (plan p : Plan) → first_of ((unpublished, Unsupported) ∷ (not empty, Error why.Count) ∷ []) plan ≡ Serve p → (empty ≡ true) × (plan ≡ p)
flush_by true empty plan p h = absurd (cc)
flush_by false false plan p h = absurd (cc)
flush_by false true plan p h = (refl, cc)

none_taken : (count sector : ℕ) (segments : List Segment) → count ≡ 0 → sector + sectors_of (take count segments) ≡ sector
none_taken count sector segments none = rw none (omega arith)

flush_fits : (count sector : ℕ) (segments : List Segment) (info : DiskInfo) (p : Plan) → flush_verdict count sector info ≡ Serve p → p.sector + sectors_of (take count segments) ≤ max info.sectors p.sector
flush_fits count sector segments info p h =
    let by = flush_by (not info.flush) (count == 0) (planned kind.Flush sector count) p h in
    let empty : count ≡ 0 = grind (arith, nat_tests, by.0) in
    let same : sector ≡ p.sector = ap (λ (q : Plan). q.sector) by.1 in
    let none = none_taken count p.sector segments empty in
    omega arith

choose : (Fits : Type 0) (p : Plan) (a b c d : Bool) (A B C D : Verdict) → (A ≡ Serve p → Fits) → (B ≡ Serve p → Fits) → (C ≡ Serve p → Fits) → (D ≡ Serve p → Fits) → (if a then A else (if b then B else (if c then C else (if d then D else Error why.Op)))) ≡ Serve p → Fits
choose Fits p true b c d A B C D at_a at_b at_c at_d h = at_a h
choose Fits p false true c d A B C D at_a at_b at_c at_d h = at_b h
choose Fits p false false true d A B C D at_a at_b at_c at_d h = at_c h
choose Fits p false false false true A B C D at_a at_b at_c at_d h = at_d h
choose Fits p false false false false A B C D at_a at_b at_c at_d h = absurd (cc)

-- of a request whose segments are in its entry
pub direct_fits : (code count device id sector : ℕ) (segments : List Segment) (info : DiskInfo) (p : Plan) → verdict_of (Direct code count device id sector segments) info ≡ Serve p → p.sector + sectors_of (take count segments) ≤ max info.sectors p.sector
direct_fits code count device id sector segments info p h =
    choose (p.sector + sectors_of (take count segments) ≤ max info.sectors p.sector) p
    (code == op_code op.Read) (code == op_code op.Write) (code == op_code op.Barrier) (code == op_code op.Flush)
    (transfer_verdict kind.Read count sector segments info) (transfer_verdict kind.Write count sector segments info) (transfer_verdict kind.Barrier count sector segments info) (flush_verdict count sector info)
    (transfer_fits kind.Read count sector segments info p) (transfer_fits kind.Write count sector segments info p) (transfer_fits kind.Barrier count sector segments info p) (flush_fits count sector segments info p) h

-- an entry has 11 segments, of which no more than 11 are used
used : (segments : List Segment) (count n : ℕ) → length segments ≡ 11 → n ≡ min count 11 → take n segments ≡ take count segments
used segments count n long is =
    elim (leb_tells count 11) [
      | inl small ↦ let same : n ≡ count = omega (arith, small.1) in rw same refl
      | inr large ↦ take_all n segments (omega (arith, large.1)) ∙ sym (take_all count segments (omega (arith, large.1)))
    ]

pub used_fits : (code count device id sector : ℕ) (segments : List Segment) (info : DiskInfo) (p : Plan) (n : ℕ) → length segments ≡ 11 → n ≡ min count 11 → verdict_of (Direct code count device id sector segments) info ≡ Serve p → p.sector + sectors_of (take n segments) ≤ max info.sectors p.sector
used_fits code count device id sector segments info p n long is h = rw (used segments count n long is) (direct_fits code count device id sector segments info p h)

finished_by : (bad past : Bool) (plan p : Plan) → first_of ((bad, Error why.Segment) ∷ (past, Error why.Range) ∷ []) plan ≡ Serve p → p ≡ plan
finished_by true past plan p h = absurd (cc)
finished_by false true plan p h = absurd (cc)
finished_by false false plan p h = cc

-- of an indirect request, once its segments are read
pub finished_fits : (plan p : Plan) (segments : List Segment) (info : DiskInfo) → finished_verdict plan segments info ≡ Serve p → p.sector + sectors_of segments ≤ info.sectors
finished_fits plan p segments info h =
    let on = (finished_on_disk plan p segments info h).within in
    let same : p ≡ plan = finished_by (list_any fails_test segments) (nat_lt info.sectors (plan.sector + sectors_of segments)) plan p h in
    let sector : p.sector ≡ plan.sector = ap (λ (q : Plan). q.sector) same in
    omega arith
