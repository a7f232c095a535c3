-- The pure values of what becomes of keys and locals.
use Rattle.std.specs.Prelude.{map, option_map}
use Rattle.jr_table.specs.TypeView.{ty_of}
use Rattle.jr_images.specs.ImageView.{renaming_of}
use Rattle.jr_new_words.specs.Mappings.{
  KeyMapping,
  same_keys,
  renamed,
  MadeLocal,
  GoneLocal,
  Renumbering,
  LocalMapping,
  all_stay,
  renumbered,
  Mapping,
}
use Rattle.jr_new_words.specs.declared.mappings.KeyMapping as raw_keys
use Rattle.jr_new_words.specs.declared.mappings.KeyMapping.TheVariants as keys
use Rattle.jr_new_words.specs.declared.numbers.MadeLocal as raw_made
use Rattle.jr_new_words.specs.declared.numbers.GoneLocal as raw_gone
use Rattle.jr_new_words.specs.declared.numbers.Renumbering as raw_renumbering
use Rattle.jr_new_words.specs.declared.numbers.LocalMapping as raw_locals
use Rattle.jr_new_words.specs.declared.numbers.LocalMapping.TheVariants as locals
use Rattle.jr_new_words.specs.declared.programs.Tables as raw

abbrev pub keys_of : raw_keys.KeyMapping → KeyMapping
keys_of keys.Same = same_keys
keys_of (keys.Renamed g) = renamed (renaming_of g.now)

abbrev pub made_of : raw_made.MadeLocal → MadeLocal
made_of m = record { name = m.name.now; number = m.number; type = ty_of m.ty.now }

abbrev pub gone_of : raw_gone.GoneLocal → GoneLocal
gone_of g = record { number = g.number; type = ty_of g.ty.now }

abbrev pub renumbering_of : raw_renumbering.Renumbering → Renumbering
renumbering_of r = record {
  firsts = r.firsts.now;
  next = r.next;
  made = map made_of r.made.now;
  depth = r.depth;
  gone = option_map gone_of r.gone;
}

abbrev pub numbers_of : raw_locals.LocalMapping → LocalMapping
numbers_of locals.AllStay = all_stay
numbers_of (locals.Renumbered r) = renumbered (renumbering_of r.now)

-- where all locals stay
abbrev pub mapping_in : raw.Tables → Mapping
mapping_in t = record { keys = keys_of t.keys; locals = all_stay; new = t.after.now }
