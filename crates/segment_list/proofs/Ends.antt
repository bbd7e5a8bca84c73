-- Where segments end, one after another.
use Rattle.std.proofs.Common.{◌≡◌, ℕ, ◌+◌, ◌≤◌, false, List, ◌∷◌, Option, Some, None, ap, sym, arith, add_assoc}
use Rattle.std.specs.Prelude.{if◌then◌else◌}
use Rattle.std.specs.List.{list_any}
use Rattle.std.proofs.lemmas.Bool.Decides.{nat_tests}
use Rattle.std.proofs.lemmas.List.Sums.{sum_by-cons}
use Rattle.blk_layout.specs.declared.segment.Segment.{Segment}
use Rattle.segment_list.specs.Segments.{fails_test, length_of, sectors_of}

-- the sector after the last of these segments, which begin at `end`
abbrev pub end_over : ℕ → List Segment → Option ℕ
end_over end segments = if list_any fails_test segments then None else Some (end + sectors_of segments)

passes : (segment : Segment) → segment.last ≤ 7 → segment.first ≤ segment.last → fails_test segment ≡ false
passes segment inside nonempty = grind (arith, nat_tests)

-- over one that passes its test
pub end_over-cons : (end : ℕ) (segment : Segment) (rest : List Segment) → segment.last ≤ 7 → segment.first ≤ segment.last → end_over end (segment ∷ rest) ≡ end_over (end + length_of segment) rest
end_over-cons end segment rest inside nonempty =
    let here = passes segment inside nonempty in
    rw here (ap (λ n. if list_any fails_test rest then None else Some n) (let regroup : end + sectors_of (segment ∷ rest) ≡ end + length_of segment + sectors_of rest = rw (sum_by-cons length_of segment rest) (sym (add_assoc end (length_of segment) (sectors_of rest))) in regroup))
