-- Where a body begins, as a walk has it.
use Rattle.std.specs.Prelude.{◌≡◌}
use Rattle.jr_table.specs.HeadRules.{with_parameters}
use Rattle.jr_bodies.specs.CodeView.{code_of}
use Rattle.jr_new_words.specs.Mappings.{Renumbering, Mapping, renumbered}
use Rattle.jr_new_words.specs.MappingView.{keys_of}
use Rattle.jr_new_bodies.specs.declared.here.Here as raw_here
use Rattle.jr_new_bodies.specs.Known.{rows_of, mapping_of, context_of, IsKnown}
use Rattle.jr_new_bodies.specs.Spotting.{no_spots}
use Rattle.jr_new_bodies.specs.SpotView.{spotting_of}
use Rattle.jr_local_parts.specs.declared.bodies.WalkedBody as raw

-- what becomes of the program where locals get these numbers
abbrev pub mapped : raw.WalkedBody → Renumbering → Mapping
mapped w r = record {
  keys = keys_of w.tables.keys;
  locals = renumbered r;
  new = w.tables.after.now;
}

pub record BeginsBody (w : raw.WalkedBody) (r : Renumbering) (h : raw_here.Here) : Type 0 where
  pub known : IsKnown h
  pub context : context_of h
      ≡ with_parameters w.bound.now.member w.is_static (code_of w.code).params
  pub rows : rows_of h ≡ w.tables.before.now
  pub mapping : mapping_of h ≡ mapped w r
  pub bound : h.bound.now ≡ w.bound.now
  pub from_is : h.from ≡ w.from
  pub spots : spotting_of h.spots ≡ no_spots
