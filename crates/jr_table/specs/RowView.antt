-- The pure row that a row stands for.
use Rattle.std.specs.Prelude.{option_map}
use Rattle.jr_table.specs.declared.rows.Row as raw_row
use Rattle.jr_table.specs.Rows.{Row}
use Rattle.jr_table.specs.TypeView.{class_key_of, ty_of}
use Rattle.jr_table.specs.KeyView.{decl_of}

abbrev pub row_of : raw_row.Row → Row
row_of r = record {
  decl = decl_of r.decl;
  modifiers = r.modifiers;
  type = option_map ty_of r.ty;
  parent = option_map class_key_of r.parent;
  has_init = r.has_init;
}
