use Rattle.std.proofs.Common.{arith, ap}
use Rattle.std.proofs.lemmas.List.Elements.{recursion_from_All}
use Rattle.segment_list.specs.Segments.{IsSound}
use Rattle.segment_list.specs.Places.{placed_from}
use Rattle.segment_list.proofs.Spots.{spots_left-first, is_within-first, length-spots_from}
use Rattle.segment_list.proofs.place.Extent.new.Goals as goal

pub invariant_of-result : goal.invariant_of-result
invariant_of-result c =
    let sound = recursion_from_All IsSound c.args.segments.now c.requires.sound in
    record {
      sound = sound;
      within = rw c.first_sector.ensures (is_within-first c.args.segments.now sound);
      fits = rw (c.first_sector.ensures, spots_left-first 0 c.args.segments.now sound, length-spots_from 0 c.args.segments.now) c.requires.fits;
      few = omega arith;
    }

pub returns : goal.returns
returns c =
    let sound = recursion_from_All IsSound c.args.segments.now c.requires.sound in
    rw c.first_sector.ensures (ap (placed_from c.args.sector) (spots_left-first 0 c.args.segments.now sound))
