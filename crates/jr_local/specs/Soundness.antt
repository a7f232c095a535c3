-- What holds of the regions of extract and inline local: old declarations have images among the
-- rows, and places what stands for them.
use Rattle.std.specs.Prelude.{◌≡◌, ℕ, List, length}
use Rattle.std.specs.List.{position_or_len}
use Rattle.jr_table.specs.Keys.{ClassKey, Ty}
use Rattle.jr_table.specs.Decls.{LocalKey, class_decl}
use Rattle.jr_table.specs.Rows.{Row}
use Rattle.jr_table.specs.Entries.{IsRowOf}
use Rattle.jr_table.specs.Conditions.{AreRows}
use Rattle.jr_table.specs.Context.{Context}
use Rattle.jr_spell.specs.Binds.{is_dot}
use Rattle.jr_images.specs.Regions.{IsSound}
use Rattle.jr_local.specs.Scopes.{around_made, with_made, in_made, without, in_copy}

-- no class's name has a dot
abbrev pub HaveNoDots : List Row → Type 0
HaveNoDots rows = (k : ClassKey) (j : ℕ) → IsRowOf rows (class_decl k) j
    → position_or_len is_dot k.name ≡ length k.name

-- of a local of this key, name and type that is made, and of one that goes
pub record AreSound (rows : List Row) (k : LocalKey) (name : List ℕ) (type : Ty) : Type 0 where
  pub around : IsSound rows (around_made rows k name type)
  pub from_there : IsSound rows (with_made rows k name type)
  pub in_initializer : IsSound rows (in_made rows k name type)
  pub left_out : IsSound rows (without rows k type)
  pub copied : (read : Context) → IsSound rows (in_copy rows k type read)

abbrev pub RegionsAreSound : Type 0
RegionsAreSound = (rows : List Row) → AreRows rows → HaveNoDots rows
    → (k : LocalKey) (name : List ℕ) (type : Ty) → AreSound rows k name type
