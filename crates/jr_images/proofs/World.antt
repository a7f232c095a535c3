-- What is known of the two programs, for the laws: what the laws of lookup, binding and spelling
-- give, the place, and that nothing of the prelude gets a name.
use Rattle.std.proofs.Common.{◌≡◌, ℕ}
use Rattle.std.specs.Prelude.{List, codes}
use Rattle.jr_table.specs.Keys.{ClassKey}
use Rattle.jr_table.specs.Decls.{class_decl}
use Rattle.jr_table.specs.Rows.{Row}
use Rattle.jr_table.specs.Prelude.{top_key}
use Rattle.jr_table.specs.Entries.{IsRowOf}
use Rattle.jr_table.specs.Conditions.{AreRows}
use Rattle.jr_table.specs.LookupLaws.{EachHasOne}
use Rattle.jr_table.specs.Context.{Context}
use Rattle.jr_table.specs.BindingLaws.{IsBound}
use Rattle.jr_spell.specs.Rebound.{SpellingsRebind, ClassesRebind, AreFronts}
use Rattle.jr_images.specs.Images.{Renaming, class_to, rows_to}
use Rattle.jr_images.specs.Standing.{ContextTo}
use Rattle.jr_images.proofs.Dotted.{IsWhole}

pub record World (A : Type 0) (rows : List Row) (g : Renaming) (c d : Context) : Type 0 where
  pub are : AreRows (rows_to g rows)
  pub one_old : EachHasOne rows
  pub one_new : EachHasOne (rows_to g rows)
  pub old : IsBound A rows c
  pub new : IsBound A (rows_to g rows) d
  pub rebind : SpellingsRebind A
  pub classes : ClassesRebind A
  pub fronts : AreFronts A (rows_to g rows) d
  pub stand : ContextTo g rows c d
  pub whole : (k : ClassKey) (j : ℕ) → IsRowOf rows (class_decl k) j → IsWhole (class_to g k).name
  pub string : class_to g (top_key (codes "String")) ≡ top_key (codes "String")
  pub class : class_to g (top_key (codes "Class")) ≡ top_key (codes "Class")
