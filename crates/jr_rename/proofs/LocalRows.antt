-- Where nothing but one local is renamed, the new program has the old rows.
use Rattle.std.proofs.Common.{◌≡◌, List, sym, subst}
use Rattle.jr_table.specs.Rows.{Row}
use Rattle.jr_table.specs.Decls.{Decl}
use Rattle.jr_images.specs.Images.{Renaming, rows_to}
use Rattle.jr_images.specs.OneLocal.{LocalsKeepRows}
use Rattle.jr_rename.specs.OneLocal.{IsOfOneLocal}

pub rows_same : LocalsKeepRows → (g : Renaming) → IsOfOneLocal g → (rows : List Row) → rows ≡ rows_to g rows
rows_same law g (k, one) rows = subst (λ (ds : List Decl). rows ≡ rows_to (record { decls = ds; name = g.name }) rows) (sym one) (sym (law k g.name rows))
