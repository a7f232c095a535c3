-- The pure spots that Rust values stand for.
use Rattle.std.specs.Prelude.{map}
use Rattle.jr_new_bodies.specs.declared.spots.PartSpot as raw_part
use Rattle.jr_new_bodies.specs.declared.spots.Spots as raw
use Rattle.jr_new_bodies.specs.declared.spots.Spots.TheVariants as spots
use Rattle.jr_new_bodies.specs.Spotting.{PartSpot, Spotting, no_spots, at_parts}

abbrev pub part_of : raw_part.PartSpot → PartSpot
part_of p = record {
  at = p.at;
  binds = p.level;
  bare = p.bare.now;
  grouped = p.grouped.now;
  respelled = p.respelled;
}

abbrev pub spotting_of : raw.Spots → Spotting
spotting_of spots.Nowhere = no_spots
spotting_of (spots.Parts ps) = at_parts (map part_of ps.now)
