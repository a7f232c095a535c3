-- Rename of one local or parameter: no key changes, so the new program has the old rows.
use Rattle.std.specs.Prelude.{◌≡◌, ℕ, List, [], ◌∷◌, length}
use Rattle.std.specs.List.{position_or_len}
use Rattle.jr_table.specs.Decls.{LocalKey, Decl, class_decl, local_decl}
use Rattle.jr_table.specs.Keys.{ClassKey}
use Rattle.jr_table.specs.Rows.{Row}
use Rattle.jr_table.specs.Entries.{IsRowOf}
use Rattle.jr_table.specs.Conditions.{AreRows}
use Rattle.jr_spell.specs.Binds.{is_dot}
use Rattle.jr_images.specs.Images.{Renaming, decl_to, rows_to}
use Rattle.jr_images.specs.RenameLaws.{IsFair}

abbrev pub one_local : LocalKey → (name : List ℕ) → Renaming
one_local k name = record { decls = local_decl k ∷ []; name = name }

abbrev pub LocalsKeepDecls : Type 0
LocalsKeepDecls = (k : LocalKey) (name : List ℕ) (d : Decl) → decl_to (one_local k name) d ≡ d

abbrev pub LocalsKeepRows : Type 0
LocalsKeepRows =
    (k : LocalKey) (name : List ℕ) (rows : List Row) → rows_to (one_local k name) rows ≡ rows

-- no class's name has a dot, as identifiers have none
abbrev pub HaveNoDots : List Row → Type 0
HaveNoDots rows = (k : ClassKey) (j : ℕ) → IsRowOf rows (class_decl k) j
    → position_or_len is_dot k.name ≡ length k.name

-- all that the law on references asks of a renaming
abbrev pub LocalsAreFair : Type 0
LocalsAreFair = (k : LocalKey) (name : List ℕ) (rows : List Row) → AreRows rows → HaveNoDots rows
    → IsFair rows (one_local k name)
