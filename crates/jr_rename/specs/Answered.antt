-- What is answered: the declaration with which a new name clashes, or that there is none.
use Rattle.std.specs.Prelude.{ℕ, List, Option, Some, None}
use Rattle.jr_ast.specs.MemberTree as syntax
use Rattle.jr_table.specs.Decls.{Decl}
use Rattle.jr_table.specs.Rows.{Row}
use Rattle.jr_images.specs.Clashes.{ClashesWith, IsClear}

module _ {A : Type 0} (begins : A → ℕ → ℕ) (rows : List Row) (units : List (syntax.Unit A)) where
  abbrev pub Tells : (target : Decl) → (new : List ℕ) → Option Decl → Type 0
  Tells target new None = IsClear begins rows units target new
  Tells target new (Some d) = ClashesWith begins rows units target new d
