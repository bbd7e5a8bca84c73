use Rattle.std.proofs.Common.{◌∙◌, ◌+◌, ◌/◌, ap, length, sym, subst}
use Rattle.std.specs.List.{All}
use Rattle.std.proofs.lemmas.List.FromFn.{length-map-range_with_len}
use Rattle.segment_list.specs.Segments.{IsSound}
use Rattle.segment_list.specs.Places.{places_of}
use Rattle.segment_list.specs.Cut.{packed_segment}
use Rattle.segment_list.proofs.Packed.{places_of-cut_of, cut_of-sound}
use Rattle.segment_list.proofs.sectors.cut.Goals as goal

pub returns-clause-number : goal.returns-clause-number
returns-clause-number c = ap length c.new.ensures ∙ length-map-range_with_len (packed_segment c.args.count) 0 ((c.args.count + 7) / 8)

pub returns-clause-sound : goal.returns-clause-sound
returns-clause-sound c = subst (λ l. All IsSound l) (sym c.new.ensures) (cut_of-sound c.args.count)

pub returns-clause-packed : goal.returns-clause-packed
returns-clause-packed c = ap (places_of c.args.sector) c.new.ensures ∙ places_of-cut_of c.args.sector c.args.count
